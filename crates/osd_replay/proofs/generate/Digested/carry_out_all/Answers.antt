use Rattle.std.proofs.Common.{rules, ◌≡◌, ◌++◌, ◌∷◌, [], List, sym, subst, ◌∙◌, append_assoc}
use Rattle.scenario_text.specs.declared.event.Event.{Event}
use Rattle.history_claims.specs.Texts.{EventsFit}
use Rattle.osd_replay.proofs.Making.{stops_among}
use Rattle.osd_replay.proofs.Written.{fit_front, fit_last}
use Rattle.osd_replay.proofs.generate.Digested.carry_out_all.Goals as goal

pub returns-in-Err-clause-err : goal.returns-in-Err-clause-err
returns-in-Err-clause-err g c = λ m may.
    let split : c.args.events.items ≡ c.loop-event.yielded ++ c.in-Some.event ∷ c.next.new.self.rest.items = search rules in
    stops_among c.args.events.items c.loop-event.yielded c.next.new.self.rest.items c.in-Some.event c.in-Err.stop split
    (c.in-Err.ensures.err c.loop-event.yielded
    (c.loop-event.invariant.made m (fit_front c.loop-event.yielded (c.in-Some.event ∷ c.next.new.self.rest.items)
    (subst (λ (es : List Event). EventsFit es) split may))))

pub loop-event-preserved : goal.loop-event-preserved
loop-event-preserved g c =
    let split : c.args.events.items ≡ c.loop-event.yielded ++ c.in-Some.event ∷ c.next.new.self.rest.items = search rules in
    record {
      made = λ m may. c.in-Ok.ensures.ok (fit_last c.loop-event.yielded c.in-Some.event may) c.loop-event.yielded
          (c.loop-event.invariant.made m (fit_front c.loop-event.yielded (c.in-Some.event ∷ []) may));
      split = split ∙ sym (append_assoc c.loop-event.yielded (c.in-Some.event ∷ []) c.next.new.self.rest.items);
    }
