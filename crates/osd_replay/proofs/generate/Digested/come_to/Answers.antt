use Rattle.std.proofs.Common.{List, sym, subst}
use Rattle.scenario_text.specs.declared.event.Event.{Event}
use Rattle.history_claims.specs.Texts.{EventsFit}
use Rattle.osd_replay.specs.Generate.{StopsAmong}
use Rattle.osd_replay.proofs.Making.{comes_to}
use Rattle.osd_replay.proofs.Written.{scenario_fits}
use Rattle.osd_replay.proofs.generate.Digested.come_to.Goals as goal

pub returns-in-Err-clause-err : goal.returns-in-Err-clause-err
returns-in-Err-clause-err g c =
    subst (λ (es : List Event). StopsAmong es c.in-Err.stop) c.in_ok-events.ensures
    (c.in-Err.ensures.err c.requires.begins (subst (λ (es : List Event). EventsFit es) (sym c.in_ok-events.ensures)
    (scenario_fits c.args.seed c.args.calls)))

pub returns-clause-ok : goal.returns-clause-ok
returns-clause-ok g c =
    comes_to c.histories_are_sound.ensures c.summary_is_plain.ensures c.scenario_goes_well.ensures.well c.args.seed
    c.args.calls c.requires.few c.in_ok-events.events.items c.carry_out_all.new.self
    c.in_ok-text.text c.in_ok-events.ensures
    (c.in-Ok.ensures.ok c.requires.begins (subst (λ (es : List Event). EventsFit es) (sym c.in_ok-events.ensures)
    (scenario_fits c.args.seed c.args.calls)))
    c.in_ok-text.ensures
