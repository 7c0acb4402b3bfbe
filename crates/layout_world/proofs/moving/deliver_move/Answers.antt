use Rattle.std.proofs.Common.{refl}
use Rattle.world_history.specs.Moves.{Delivers}
use Rattle.layout_world.proofs.Moved.{moves_by, no_move, settles_by}
use Rattle.layout_world.proofs.moving.deliver_move.Goals as goal

pub returns-in-Ok-clause-moves : goal.returns-in-Ok-clause-moves
returns-in-Ok-clause-moves g c =
    moves_by (Delivers c.args.number) c.args.parties.now c.deliver.new.parties c.perform.new.parties c.in-Ok.act
    c.args.watch.now c.perform.new.watch c.len.result c.args.lines.now c.perform.new.lines c.perform.result
    c.in-Ok.ensures.acts c.perform.ensures.performed c.perform.ensures.sees c.len.ensures c.perform.ensures.told (λ ls. refl)

pub returns-in-Ok-clause-settles : goal.returns-in-Ok-clause-settles
returns-in-Ok-clause-settles g c =
    settles_by c.args.number c.args.parties.now.network c.deliver.new.parties.network c.perform.new.parties.network.messages
    c.perform.result c.in-Ok.ensures.marked c.perform.ensures.grows

pub returns-in-Err-clause-moves : goal.returns-in-Err-clause-moves
returns-in-Err-clause-moves g c =
    no_move (Delivers c.args.number) c.args.parties.now c.deliver.new.parties c.args.watch.now c.args.watch.now
    c.args.lines.now
