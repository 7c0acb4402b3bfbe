use Rattle.std.proofs.Common.{rules, tests, ap, ◌∙◌}
use Rattle.std.specs.Prelude.{Option}
use Rattle.std.proofs.lemmas.Fn.{filter_same}
use Rattle.client_rules.specs.Writes.{without_component}
use Rattle.call_commands.specs.State.{Store}
use Rattle.call_commands.specs.Queue.{present, is_to_other}
use Rattle.call_commands.proofs.Queues.{kept_present}
use Rattle.call_commands.proofs.queue.WriteQueue.drop_component.Goals as goal

pub returns : goal.returns
returns c =
    ap present (filter_same _ (λ (x : Option Store). is_to_other x c.args.component) _
    (λ x b q k. search (rules, tests)) _ _ c.retain.ensures.filtered)
    ∙ kept_present c.self.inside.places.items c.args.component
    ∙ ap (without_component c.args.component) c.self.view_is
