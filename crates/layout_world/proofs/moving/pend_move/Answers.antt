use Rattle.std.proofs.Common.{refl}
use Rattle.world_history.specs.Moves.{Pends}
use Rattle.layout_world.proofs.Moved.{moves_by, no_move}
use Rattle.layout_world.proofs.moving.pend_move.Goals as goal

pub returns-in-Ok-clause-moves : goal.returns-in-Ok-clause-moves
returns-in-Ok-clause-moves c =
    moves_by (Pends c.args.client) c.args.parties.now c.args.parties.now c.perform.new.parties c.in-Ok.act
    c.args.watch.now c.perform.new.watch c.len.result c.args.lines.now c.perform.new.lines c.perform.result c.in-Ok.ensures
    c.perform.ensures.performed c.perform.ensures.sees c.len.ensures c.perform.ensures.told (λ ls. refl)

pub returns-in-Err-clause-moves : goal.returns-in-Err-clause-moves
returns-in-Err-clause-moves c =
    no_move (Pends c.args.client) c.args.parties.now c.args.parties.now c.args.watch.now c.args.watch.now c.args.lines.now
