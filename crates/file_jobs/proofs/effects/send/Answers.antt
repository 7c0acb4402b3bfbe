use Rattle.std.specs.Prelude.{List, [], ◌∷◌, ◌++◌, ◌+◌}
use Rattle.std.proofs.Common.{arith, ap, ◌∙◌}
use Rattle.server_rules.specs.declared.jobs.Awaited.{Awaited}
use Rattle.file_jobs.proofs.effects.send.Goals as goal

pub returns : goal.returns
returns c =
    let m = c.args.effects.now in
    ap (λ (all : List Awaited). record m { nonce = m.nonce + 1; sent = all })
    (c.in_ok-push.ensures.ok ∙ ap (λ (a : Awaited). m.sent ++ (a ∷ [])) c.in_ok-copy_of.ensures)

pub overflow_add-effects : goal.overflow_add-effects
overflow_add-effects c = omega (arith, c.requires)
