use Rattle.history_claims.proofs.sound_laws.calls_are_sound.Goals as goal

pub returns : goal.returns
returns c h l = record {
  caused = c.ends_are_caused.ensures h l;
  judged = c.refusals_were_judged.ensures h l;
  awaited = c.refusals_were_awaited.ensures h l;
  ends = c.calls_end_so.ensures h l;
  said = λ w g k m rest d is. c.ends_are_said.ensures w g k m d;
  left = λ w g k m rest d is. c.calls_are_left.ensures w g k m d;
  unanswered = c.pending_calls_are_unanswered.ensures h l;
  ready = c.ready_calls_end_in_ok.ensures.ok h l;
  rests = c.ready_calls_end_in_ok.ensures.rest h l;
  numbered = c.messages_are_numbered.ensures h l;
  received = c.messages_are_received.ensures h l;
  delivers = c.events_deliver.ensures h l;
  silent = c.components_time_out.ensures h l;
  refuses = c.clients_refuse.ensures h l;
  logged = c.ended_calls_are_logged.ensures h l;
}
