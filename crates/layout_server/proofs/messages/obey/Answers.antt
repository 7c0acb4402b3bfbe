use Rattle.std.specs.Prelude.{[]}
use Rattle.server_state.proofs.StepLaws.{mapped_ok}
use Rattle.layout_server.proofs.messages.obey.Goals as goal

pub returns-in-Recall-clause-obeys : goal.returns-in-Recall-clause-obeys
returns-in-Recall-clause-obeys g c =
    rw c.in-Recall.is (mapped_ok c.order_recall.result (λ o obeys. ([], obeys [])) c.order_recall.ensures.obeys)
