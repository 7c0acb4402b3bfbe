use Rattle.std.proofs.Common.{refl}
use Rattle.call_commands.specs.Queue.{present}
use Rattle.call_commands.proofs.queue.WriteQueue.new.Goals as goal

pub returns : goal.returns
unfolding present
returns c = rw c.new.ensures.items refl
