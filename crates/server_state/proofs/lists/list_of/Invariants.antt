use Rattle.server_state.proofs.ReplyLaws.{AreToList}
use Rattle.server_state.proofs.lists.list_of.Given as goal

abbrev pub invariant-loop-number : goal.invariant-loop-number
invariant-loop-number l = AreToList l.replies l.number-iterator l.files.entries
