use Rattle.relation_law.proofs.RequestsReturns.{returns_are_held}
use Rattle.relation_law.proofs.RequestsServing.{requests_kept}
use Rattle.relation_law.proofs.relation_laws.requests_go_on.Goals as goal

pub returns : goal.returns
returns c = λ components.
    requests_kept (record {
      in_step = c.clients_are_in_step.ensures;
      agree = c.clients_agree.ensures;
      readable = c.files_and_answers_are_readable.ensures;
      kept = c.kept_goes_on.ensures.kept;
      components = components;
    }) c.answers_are_own.ensures (returns_are_held (record {
      right = record {
        world = record {
          more = c.one_event_more.ensures;
          safe = c.grants_are_safe.ensures;
          in_step = c.clients_are_in_step.ensures;
          agree = c.clients_agree.ensures;
          listed = c.components_agree.ensures;
        };
        readable = c.files_and_answers_are_readable.ensures;
      };
      own = c.answers_are_own.ensures;
    }))
