-- The answer to a call's request.
use Rattle.std.specs.Prelude.{List}
use Rattle.client_rules.specs.declared.calls.CallOp.{CallOp}
use Rattle.client_rules.specs.declared.calls.TimedOut.{TimedOut}
use Rattle.client_rules.specs.declared.calls.Need.{Need}
use Rattle.client_rules.specs.declared.calls.Need.TheVariants.{Commit}
use Rattle.client_rules.specs.declared.calls.Phase.TheVariants.{Waits}
use Rattle.client_rules.specs.declared.steps.Done.{Done}
use Rattle.layout_ops.specs.declared.messages.Answer.{Answer}
use Rattle.client_rules.specs.Calls.{file_of}
use Rattle.client_rules.specs.Grants.{held_of}
use Rattle.client_rules.specs.Going.{phased}
use Rattle.client_rules.specs.Messages.{on_need, commit_under}

-- a call that was taken up waits for the answer to its commit
abbrev pub commits : Done → CallOp → Answer → List TimedOut → Done
commits d op a timed =
    commit_under (phased d op (Waits (Commit timed))) op a (Commit timed) (held_of d.client.held (file_of op))

-- one that waits for an answer
abbrev pub answers_need : Done → CallOp → Need → Answer → Done
answers_need d op n a = on_need (phased d op (Waits n)) op n a
