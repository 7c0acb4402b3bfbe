use Rattle.cause_law.proofs.Unanswered.{pending_calls_are_unanswered}
use Rattle.cause_law.proofs.pending_laws.pending_calls_are_unanswered.Goals as goal

pub returns : goal.returns
returns c =
    pending_calls_are_unanswered c.one_request.ensures c.clients_are_in_step.ensures c.files_and_answers_are_readable.ensures
    c.requests_can_be_read.ensures c.counters_stay_low.ensures c.grants_are_safe.ensures c.one_event_more.ensures
    c.pending_calls_wait.ensures
