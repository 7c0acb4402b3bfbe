use Rattle.world_network.proofs.Taking.{taken_out}
use Rattle.world_network.proofs.members.take_member.Goals as goal

pub returns-clause-taken : goal.returns-clause-taken
returns-clause-taken g c =
    taken_out c.args.list.now c.args.place c.replace.result c.replace.new.dest
    (rw c.replace.ensures.value c.get_mut.ensures.value)
