use Rattle.headline_law.specs.Histories.{HistoriesAreLawful}
use Rattle.ready_law.proofs.Together.{stages}
use Rattle.history_claims.proofs.PlainWhole.{ready_reads}
use Rattle.history_claims.proofs.laws.ready_reads_are_plain.Goals as goal

pub returns : goal.returns
returns c =
    let l : HistoriesAreLawful = c.histories_are_lawful.ensures in
    ready_reads (record {
      fronts = c.fronts_are_lawful.ensures;
      plain = c.plain.ensures;
      range = c.range_found.ensures;
      answered = c.ready_calls_end_in_ok.ensures.ok;
      right = c.headline_holds.ensures;
      apart = c.events_stand_apart.ensures;
      scenes = c.scenes_are_read.ensures;
      readable = l.files_and_answers_are_readable;
      stages =
          stages (record {
            asking = record {
              more = l.one_event_more;
              safe = l.grants_are_safe;
              order = c.grants_are_in_order.ensures;
              rests = c.nothing_due_rests.ensures;
              in_step = l.clients_are_in_step;
              low = l.counters_stay_low;
              counted = l.server_is_counted;
              counts = l.clients_are_counted;
              fit = l.all_files_fit;
              shapes = c.files_have_shape.ensures;
              agree = l.clients_agree;
              listed = l.components_agree;
              sizes = c.sizes_agree.ensures;
            };
            clear = record {
              more = l.one_event_more;
              low = l.counters_stay_low;
              agree = l.clients_agree;
              components = l.components_agree;
              keys = c.keys_are_known.ensures;
              offline = l.offline_have_failed;
              files = l.all_files_fit;
              answers = l.answers_are_fit;
              taken = c.awaited_are_taken.ensures;
              fresh = l.grants_are_fresh;
              places = l.places_are_enough;
              ahead = c.no_tag_is_ahead.ensures;
              behind = c.no_tag_is_behind.ensures;
              unforged = l.unguessed_are_unforged;
            };
            read = l.book_is_read;
            messages = c.messages_are_read.ensures;
            apart = c.components_stand_apart.ensures;
            readable = l.files_and_answers_are_readable;
            owned = c.each_object_is_owned.ensures;
            sent = l.server_sent_its_run;
            lost = c.lost_are_listed.ensures;
            room = c.room_stays.ensures;
            carried = c.clear_commands_are_carried_out.ensures;
            events = c.events_stand_apart.ensures;
            scenes = c.scenes_are_read.ensures;
          });
      logged = c.ended_calls_are_logged.ensures;
      pending = l.calls_of_text_are_pending;
    })
