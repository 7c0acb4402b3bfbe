use Rattle.held_grants.proofs.BodyLengths.{short_report}
use Rattle.held_grants.proofs.requests.return_body.Goals as goal

pub returns-clause-short : goal.returns-clause-short
returns-clause-short c = short_report c.args.report _ c.write.ensures.fits c.write.ensures.spelled
