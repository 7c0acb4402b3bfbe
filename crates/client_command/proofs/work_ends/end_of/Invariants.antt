use Rattle.std.proofs.Common.{◌≡◌, drop}
use Rattle.client_command.specs.WorkEnds.{end_of}
use Rattle.client_command.proofs.work_ends.end_of.Given as goal

abbrev pub invariant-loop-notice : goal.invariant-loop-notice
invariant-loop-notice l = end_of (drop l.notice-index l.notices) ≡ end_of l.notices
