use Rattle.relation_law.proofs.CallsGo.{calls_go_on}
use Rattle.relation_law.proofs.OwnFacts.{OwnWorld}
use Rattle.relation_law.proofs.PlanWorlds.{writes_have_plans}
use Rattle.relation_law.proofs.call_laws.calls_go_on.Goals as goal

pub returns : goal.returns
returns c =
    let own : OwnWorld = record {
      held = record {
        right = record {
          world = record {
            more = c.one_event_more.ensures;
            safe = c.grants_are_safe.ensures;
            in_step = c.clients_are_in_step.ensures;
            agree = c.clients_agree.ensures;
            listed = c.components_agree.ensures;
          };
          readable = c.files_and_answers_are_readable.ensures;
        };
        own = c.answers_are_own.ensures;
      };
      clients = c.clients_are_counted.ensures;
      server = c.server_is_counted.ensures;
    } in
    calls_go_on (record {
      own = own;
      kept = c.kept_goes_on.ensures.kept;
      plans = writes_have_plans (record { own = own; counted = c.grants_are_counted.ensures; one = c.one_request.ensures });
    })
