use Rattle.std.specs.Prelude.{◌≡◌, ℕ, Ok, refl}
use Rattle.std.proofs.Common.{arith, ap, sym, ◌∙◌}
use Rattle.data_map.specs.declared.check.RawMap.{RawMap}
use Rattle.server_rules.specs.declared.server.Refusal.TheVariants as why
use Rattle.server_rules.specs.Making.{checked_64, usable}
use Rattle.server_state.specs.States.{server_of}
use Rattle.layout_server.specs.declared.new_files.FileErr.TheVariants as cause
use Rattle.layout_server.proofs.ZoneLaws.{refused_few, refused_map, refused_spread}
use Rattle.layout_server.proofs.new_files.usable.Goals as goal

pub returns-in-Err-clause-refused : goal.returns-in-Err-clause-refused
returns-in-Err-clause-refused c = λ other. (
  why.BadMap c.in-Err.cause,
  refused_map (server_of c.args.state.now) c.args.number c.args.raw c.args.zoned c.in-Err.cause
      (sym c.has_file.ensures ∙ c.if-has_file.false) (sym c.checked_64.ensures.value ∙ c.in-Err.is),
  refl,
)

pub returns-then-online-raw-clause-refused : goal.returns-then-online-raw-clause-refused
returns-then-online-raw-clause-refused c =
    let counted = rw c.as_slice.ensures at c.count_usable-online.ensures in
    let good : checked_64 c.args.raw ≡ Ok c.args.raw =
    sym c.checked_64.ensures.value ∙ c.in-Ok.is ∙ ap (λ (m : RawMap). Ok m) c.in-Ok.ensures.same in
    λ other. (
      why.TooFewDrives (usable c.args.zoned c.args.state.now.drives),
      refused_few (server_of c.args.state.now) c.args.number c.args.raw c.args.zoned
          (sym c.has_file.ensures ∙ c.if-has_file.false) good (omega (arith, c.if-online-raw.true, counted)),
      ap (λ (n : ℕ). cause.TooFewDrives n) counted,
    )

pub returns-then-not-branch-clause-refused : goal.returns-then-not-branch-clause-refused
returns-then-not-branch-clause-refused c =
    let counted = rw c.as_slice.ensures at c.count_usable-online.ensures in
    let good : checked_64 c.args.raw ≡ Ok c.args.raw =
    sym c.checked_64.ensures.value ∙ c.in-Ok.is ∙ ap (λ (m : RawMap). Ok m) c.in-Ok.ensures.same in
    let none = rw (c.in_ok-has_room.ensures, c.in-Ok.ensures.same) at c.if-not-branch.true in
    λ other. (
      why.NoSpread (usable c.args.zoned c.args.state.now.drives),
      refused_spread (server_of c.args.state.now) c.args.number c.args.raw c.args.zoned
          (sym c.has_file.ensures ∙ c.if-has_file.false) good (omega (arith, c.if-online-raw.false, counted)) none,
      ap (λ (n : ℕ). cause.NoSpread n) counted,
    )
