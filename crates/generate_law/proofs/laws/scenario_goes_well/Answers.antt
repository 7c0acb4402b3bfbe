use Rattle.ready_law.proofs.Together.{ReadyLaws}
use Rattle.generate_law.proofs.KeptAll.{few_are_kept, scenario_is_few, none_fills_up, scenario_goes_well}
use Rattle.generate_law.proofs.laws.scenario_goes_well.Goals as goal

pub returns : goal.returns
returns c =
    let laws : ReadyLaws = record {
      asking = record {
        more = c.one_event_more.ensures;
        safe = c.grants_are_safe.ensures;
        order = c.grants_are_in_order.ensures;
        rests = c.nothing_due_rests.ensures;
        in_step = c.clients_are_in_step.ensures;
        low = c.counters_stay_low.ensures;
        counted = c.server_is_counted.ensures;
        counts = c.clients_are_counted.ensures;
        fit = c.all_files_fit.ensures;
        shapes = c.files_have_shape.ensures;
        agree = c.clients_agree.ensures;
        listed = c.components_agree.ensures;
        sizes = c.sizes_agree.ensures;
      };
      clear = record {
        more = c.one_event_more.ensures;
        low = c.counters_stay_low.ensures;
        agree = c.clients_agree.ensures;
        components = c.components_agree.ensures;
        keys = c.keys_are_known.ensures;
        offline = c.offline_have_failed.ensures;
        files = c.all_files_fit.ensures;
        answers = c.answers_are_fit.ensures;
        taken = c.awaited_are_taken.ensures;
        fresh = c.grants_are_fresh.ensures;
        places = c.places_are_enough.ensures;
        ahead = c.no_tag_is_ahead.ensures;
        behind = c.no_tag_is_behind.ensures;
        unforged = c.unguessed_are_unforged.ensures;
      };
      read = c.book_is_read.ensures;
      messages = c.messages_are_read.ensures;
      apart = c.components_stand_apart.ensures;
      readable = c.files_and_answers_are_readable.ensures;
      owned = c.each_object_is_owned.ensures;
      sent = c.server_sent_its_run.ensures;
      lost = c.lost_are_listed.ensures;
      room = c.room_stays.ensures;
      carried = c.clear_commands_are_carried_out.ensures;
      events = c.events_stand_apart.ensures;
      scenes = c.scenes_are_read.ensures;
    } in
    record {
      kept = few_are_kept laws c.each_call_rests.ensures;
      few = scenario_is_few laws c.each_call_rests.ensures;
      full = none_fills_up laws c.each_call_rests.ensures;
      well =
          scenario_goes_well laws c.each_call_rests.ensures c.scenario_is_calm.ensures c.scenario_is_unguessed.ensures
          c.scenario_calls_end_in_ok.ensures;
    }
