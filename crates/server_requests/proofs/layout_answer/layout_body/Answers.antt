use Rattle.server_requests.proofs.SizeLaws.{if_small}
use Rattle.server_requests.proofs.layout_answer.layout_body.Goals as goal

pub returns-clause-short : goal.returns-clause-short
returns-clause-short c = if_small _ _ c.in_ok-credentials.ensures.small c.write.ensures.spelled
