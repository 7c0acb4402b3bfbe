use Rattle.held_grants.proofs.BodyLengths.{short_update}
use Rattle.held_grants.proofs.requests.commit_body.Goals as goal

pub returns-clause-short : goal.returns-clause-short
returns-clause-short c = short_update _ c.write.ensures.spelled
