use Rattle.std.proofs.Common.{sym, ◌∙◌}
use Rattle.std.proofs.lemmas.Bool.{false≢true}
use Rattle.server_rules.specs.Openings.{crash}
use Rattle.server_state.specs.States.{server_of}
use Rattle.server_differences.proofs.SameLaws.{numbers_same, same_server, tables_same}
use Rattle.server_differences.proofs.sameness.is_mirror.Goals as goal

pub returns-then-has_same_numbers : goal.returns-then-has_same_numbers
returns-then-has_same_numbers c =
    let a = server_of c.args.mirror.now in
    let b = crash (server_of c.args.state.now) in
    let same = c.has_same_numbers.ensures.0 c.if-has_same_numbers.true in (
      λ t. same_server a b
          (record {
            grants = same.grants;
            objects = same.objects;
            nonces = same.nonces;
            recalls = same.recalls;
            format =
                same.format;
          })
          (c.has_same_tables.ensures.0 t),
      λ e. c.has_same_tables.ensures.1 (tables_same a b e),
    )

pub returns-else-has_same_numbers : goal.returns-else-has_same_numbers
returns-else-has_same_numbers c =
    let a = server_of c.args.mirror.now in
    let b = crash (server_of c.args.state.now) in (
      λ t. absurd (false≢true (sym c.if-has_same_numbers.false ∙ t)),
      λ e. (let same = numbers_same a b e in
          absurd (false≢true (sym c.if-has_same_numbers.false ∙ c.has_same_numbers.ensures.1
          (record {
            grants = same.grants;
            objects = same.objects;
            nonces = same.nonces;
            recalls = same.recalls;
            format =
                same.format;
          })))),
    )
