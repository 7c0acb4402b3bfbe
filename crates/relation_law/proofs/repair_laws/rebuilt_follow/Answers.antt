use Rattle.relation_law.proofs.TargetSpent.{rebuilt_follow}
use Rattle.relation_law.proofs.repair_laws.rebuilt_follow.Goals as goal

pub returns : goal.returns
returns c =
    rebuilt_follow (record {
      world = record {
        more = c.one_event_more.ensures;
        counters = c.counters_stay_low.ensures;
        ahead = c.no_command_is_ahead.ensures;
      };
      fits = c.all_files_fit.ensures;
      unforged = c.unguessed_are_unforged.ensures;
      holder = c.holder_is_server.ensures;
      raises = c.each_step_raises_tags.ensures;
    })
