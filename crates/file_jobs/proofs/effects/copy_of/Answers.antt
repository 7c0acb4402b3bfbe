use Rattle.std.specs.Prelude.{ℕ, List}
use Rattle.std.proofs.Common.{ap, ◌∙◌}
use Rattle.file_jobs.proofs.effects.copy_of.Goals as goal

pub returns : goal.returns
returns c =
    let a = c.args.awaited.now in
    ap (λ (bytes : List ℕ). record a { command = record a.command { payload = bytes } })
    (c.in_ok-payload.ensures ∙ c.as_slice.ensures)
