use Rattle.std.proofs.Common.{ap, ◌∙◌, ◌++◌, ◌∷◌, []}
use Rattle.call_commands.specs.Queue.{present}
use Rattle.call_commands.proofs.Queues.{push_present, push_stand}
use Rattle.call_commands.proofs.queue.WriteQueue.push.Goals as goal

pub invariant_of-self-2 : goal.invariant_of-self-2
invariant_of-self-2 c =
    rw c.in_ok-push.ensures.items
    (push_stand c.self.inside.first_place.entries c.self.inside.places.items c.args.write c.self.invariant)

pub returns-clause-ok : goal.returns-clause-ok
returns-clause-ok c =
    ap present c.in_ok-push.ensures.items
    ∙ push_present c.self.inside.places.items c.args.write
    ∙ ap (λ z. z ++ c.args.write ∷ []) c.self.view_is
