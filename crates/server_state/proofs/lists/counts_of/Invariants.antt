use Rattle.server_state.proofs.CountLaws.{AreToCount}
use Rattle.server_state.proofs.lists.counts_of.Given as goal

abbrev pub invariant-loop-file : goal.invariant-loop-file
invariant-loop-file l = AreToCount l.counts l.file-iterator l.files.entries
