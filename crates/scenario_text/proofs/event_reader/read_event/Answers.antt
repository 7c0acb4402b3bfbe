use Rattle.std.proofs.lemmas.Result.{err_from_is_err_and}
use Rattle.scenario_text.proofs.ReadLaws.{event_found, event_again, ok_is_read, err_is_read}
use Rattle.scenario_text.proofs.event_reader.read_event.Goals as goal

pub returns-in_err-event-clause-only : goal.returns-in_err-event-clause-only
returns-in_err-event-clause-only c = λ e fits spells.
    let p = err_from_is_err_and c.from_residual.result c.from_residual.ensures.1 in
    rw (p.1, p.2) (err_is_read _ c.in_err-event.field-0.0 e c.in_err-event.ensures (event_again c.args.line.now e fits spells))

pub returns-clause-found : goal.returns-clause-found
returns-clause-found c = event_found c.args.line.now c.in_ok-event.event (ok_is_read _ c.in_ok-event.event c.in_ok-event.ensures)

pub returns-clause-only : goal.returns-clause-only
returns-clause-only c = λ e fits spells.
    let read = ok_is_read _ c.in_ok-event.event c.in_ok-event.ensures in
    let again = event_again c.args.line.now e fits spells in
    cc (read, again)
