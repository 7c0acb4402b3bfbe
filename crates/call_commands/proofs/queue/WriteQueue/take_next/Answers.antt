use Rattle.std.proofs.Common.{rules, sym, ap, ◌∙◌, length}
use Rattle.std.specs.Prelude.{option_to_list}
use Rattle.client_rules.specs.Writes.{next_to, without_next}
use Rattle.call_commands.specs.Queue.{present, NoneBefore, IsFirstTo}
use Rattle.call_commands.proofs.Queues.{none_next, none_without, there_next, there_without}
use Rattle.call_commands.proofs.queue.WriteQueue.take_next.Goals as goal

pub returns-in_default-clause-next : goal.returns-in_default-clause-next
returns-in_default-clause-next c =
    let n : NoneBefore c.self.inside.places.items c.args.component (length c.self.inside.places.items) = search rules in
    sym (none_next c.self.inside.places.items c.args.component n) ∙ ap (next_to c.args.component) c.self.view_is

pub returns-in_default-clause-left : goal.returns-in_default-clause-left
returns-in_default-clause-left c =
    let n : NoneBefore c.self.inside.places.items c.args.component (length c.self.inside.places.items) = search rules in
    sym c.self.view_is ∙ sym (none_without c.self.inside.places.items c.args.component n)
    ∙ ap (without_next c.args.component) c.self.view_is

pub returns-clause-next : goal.returns-clause-next
returns-clause-next c =
    let f : IsFirstTo c.self.inside.places.items c.args.component c.in-Some.place = search rules in
    ap option_to_list c.take_at.ensures.taken ∙ sym (there_next c.self.inside.places.items c.args.component c.in-Some.place f)
    ∙ ap (next_to c.args.component) c.self.view_is

pub returns-clause-left : goal.returns-clause-left
returns-clause-left c =
    let f : IsFirstTo c.self.inside.places.items c.args.component c.in-Some.place = search rules in
    ap present c.take_at.ensures.left ∙ there_without c.self.inside.places.items c.args.component c.in-Some.place f
    ∙ ap (without_next c.args.component) c.self.view_is
