use Rattle.std.proofs.Common.{◌≡◌, drop}
use Rattle.client_rules.specs.Messages.{is_due}
use Rattle.held_grants.proofs.dues.is_due.Given as goal

abbrev pub invariant-loop-due : goal.invariant-loop-due
invariant-loop-due l = is_due (drop l.due-index l.fn.dues) l.file l.number ≡ is_due l.fn.dues l.file l.number
