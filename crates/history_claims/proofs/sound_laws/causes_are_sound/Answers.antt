use Rattle.history_claims.proofs.sound_laws.causes_are_sound.Goals as goal

pub returns : goal.returns
returns c h l = record {
  requests = λ w. c.requests_are_answered.ensures w h;
  answers = λ w g k m rest d is a. c.messages_are_caused.ensures w g k m d a;
  recalls = λ w g k m rest d is a. c.recalls_are_caused.ensures w g k m d a;
  changes = λ w. c.grants_have_causes.ensures w h;
  ended = λ w. c.ended_have_causes.ensures w h;
  components = λ w. c.components_have_causes.ensures w h;
  lost = λ w. c.losses_have_causes.ensures w h;
  raised = λ w. c.tags_have_causes.ensures w h;
  waits = λ w. c.awaited_have_causes.ensures w h;
  until = λ w. c.awaited_have_ends.ensures w h;
  waiting = λ before after is. c.jobs_wait.ensures before;
  sent = λ before after is. c.awaited_were_sent.ensures before;
  noted = λ w. c.notes_have_causes.ensures w h;
  stages = λ w. c.stages_have_ends.ensures w h;
  refusals = λ w. c.refusals_are_told.ensures w h;
  found = λ w. c.founds_have_causes.ensures w h;
  heard = λ w. c.heard_have_causes.ensures w h;
  room = λ before after is w m text few. c.counters_stay_low.ensures w before m text few;
}
