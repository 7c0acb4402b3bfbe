use Rattle.std.proofs.Common.{arith}
use Rattle.osd_commands.proofs.ReplyLaws.{answer-found, answer-only, answer-alone}
use Rattle.osd_commands.proofs.replies.read_reply.Goals as goal

pub returns-clause-found : goal.returns-clause-found
returns-clause-found c = answer-found c.args.bytes.now c.read.result (λ i. omega (arith, c.type_inv.bytes i)) c.read.ensures

pub returns-clause-only : goal.returns-clause-only
returns-clause-only c = λ x fits e. answer-only c.args.bytes.now c.read.result x c.read.ensures fits e

pub returns-clause-alone : goal.returns-clause-alone
returns-clause-alone c = answer-alone c.args.bytes.now c.read.result (λ i. omega (arith, c.type_inv.bytes i)) c.read.ensures
