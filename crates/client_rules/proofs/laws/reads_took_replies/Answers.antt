use Rattle.client_rules.proofs.ReadSteps.{reads_took_replies}
use Rattle.client_rules.proofs.laws.reads_took_replies.Goals as goal

pub returns : goal.returns
returns c = reads_took_replies
