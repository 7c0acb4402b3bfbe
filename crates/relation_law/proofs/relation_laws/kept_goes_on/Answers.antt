use Rattle.relation_law.proofs.KeptGiven.{kept_follows}
use Rattle.relation_law.proofs.ReturnsRight.{returns_are_right}
use Rattle.relation_law.proofs.relation_laws.kept_goes_on.Goals as goal

pub returns : goal.returns
returns c =
    kept_follows (record {
      more = c.one_event_more.ensures;
      counters = c.counters_stay_low.ensures;
      readable = c.files_and_answers_are_readable.ensures;
      in_step = c.clients_are_in_step.ensures;
      agree = c.clients_agree.ensures;
    }) (returns_are_right (record {
      world = record {
        more = c.one_event_more.ensures;
        safe = c.grants_are_safe.ensures;
        in_step = c.clients_are_in_step.ensures;
        agree = c.clients_agree.ensures;
        listed = c.components_agree.ensures;
      };
      readable = c.files_and_answers_are_readable.ensures;
    }))
