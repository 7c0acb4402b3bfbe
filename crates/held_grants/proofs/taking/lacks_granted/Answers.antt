use Rattle.std.proofs.Common.{sym}
use Rattle.held_grants.proofs.Lacking.{none_granted}
use Rattle.held_grants.proofs.taking.lacks_granted.Goals as goal

pub returns-then-held : goal.returns-then-held
returns-then-held c = sym (none_granted c.args.held.now.map c.args.out.now.components c.args.held.now.reach c.if-held.true)
