use Rattle.relation_law.proofs.ComponentsMoved.{components_go_on_but_rebuilt}
use Rattle.relation_law.proofs.relation_laws.components_go_on.Goals as goal

pub returns : goal.returns
returns c = components_go_on_but_rebuilt (record {
  made = record {
    more = c.one_event_more.ensures;
    run = c.server_sent_its_run.ensures;
    given = c.each_tag_was_sent.ensures;
    ahead = c.no_command_is_ahead.ensures;
    fits = c.all_files_fit.ensures;
    counted = c.server_is_counted.ensures;
    holder = c.holder_is_server.ensures;
    stands = c.each_step_stands.ensures;
    first = c.creates_are_first.ensures;
  };
  known = record {
    further = c.one_event_more.ensures;
    counted = c.grants_are_counted.ensures;
    one = c.one_request.ensures;
    in_step = c.clients_are_in_step.ensures;
  };
  held = record {
    right = record {
      world = record {
        more = c.one_event_more.ensures;
        safe = c.grants_are_safe.ensures;
        in_step = c.clients_are_in_step.ensures;
        agree = c.clients_agree.ensures;
        listed = c.components_agree.ensures;
      };
      readable = c.files_and_answers_are_readable.ensures;
    };
    own = c.answers_are_own.ensures;
  };
  room = c.counters_stay_low.ensures;
  others = c.server_writes_to_others.ensures;
  unforged = c.unguessed_are_unforged.ensures;
  raises = c.each_step_raises_tags.ensures;
  fresh = c.grants_are_fresh.ensures;
  senders = record {
    ahead = c.no_command_is_ahead.ensures;
    counted = c.server_is_counted.ensures;
    fits = c.all_files_fit.ensures;
    answers = c.answers_are_fit.ensures;
    places = c.places_are_enough.ensures;
  };
  answers = c.answers_are_fit.ensures;
  sound = c.each_step_is_sound.ensures;
})
