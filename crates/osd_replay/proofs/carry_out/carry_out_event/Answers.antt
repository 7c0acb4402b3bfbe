use Rattle.std.proofs.Common.{sym, ap, subst, ◌∙◌}
use Rattle.history_claims.specs.Carried.{AreCarried}
use Rattle.scenario_text.specs.LineSpelling.{lines_text}
use Rattle.osd_replay.proofs.Stopping.{carried_by, stopped_by}
use Rattle.osd_replay.proofs.carry_out.carry_out_event.Goals as goal

pub returns-in-Err-clause-err : goal.returns-in-Err-clause-err
returns-in-Err-clause-err g c = λ w shows.
    stopped_by c.args.event c.step.new.lines c.args.world.now c.step.new.self c.step.result c.in-Err.stop w
    (rw c.new-lines.ensures at c.step.ensures.steps) (sym c.is_cut.ensures ∙ c.in-Err.is) shows

pub returns-clause-ok : goal.returns-clause-ok
returns-clause-ok g c = λ w shows.
    carried_by c.args.event c.step.new.lines c.args.world.now c.step.new.self c.step.result c.in-Ok.is_full c.in_ok-text.text w
    (rw c.new-lines.ensures at c.step.ensures.steps) (rw c.new-lines.ensures at c.step.ensures.watches)
    (sym c.is_cut.ensures ∙ c.in-Ok.is)
    ((rw c.emptied.ensures at c.in_ok-text.ensures) ∙ ap lines_text c.as_slice-2.ensures)
    (subst AreCarried c.as_slice.ensures c.show_bytes.ensures) shows
