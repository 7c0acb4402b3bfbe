use Rattle.std.proofs.Common.{refl}
use Rattle.world_history.specs.Moves.{TimesOut}
use Rattle.layout_world.proofs.Moved.{moves_by, no_move, grows_by}
use Rattle.layout_world.proofs.moving.time_out_move.Goals as goal

pub returns-in-Ok-clause-moves : goal.returns-in-Ok-clause-moves
returns-in-Ok-clause-moves c =
    moves_by (TimesOut c.args.client c.args.component) c.args.parties.now c.time_out.new.parties c.perform.new.parties
    c.in-Ok.act c.args.watch.now c.perform.new.watch c.len.result c.args.lines.now c.perform.new.lines c.perform.result
    c.in-Ok.ensures.acts c.perform.ensures.performed c.perform.ensures.sees c.len.ensures c.perform.ensures.told (λ ls. refl)

pub returns-in-Ok-clause-grows : goal.returns-in-Ok-clause-grows
returns-in-Ok-clause-grows c =
    grows_by c.args.parties.now.network c.time_out.new.parties.network c.perform.new.parties.network.messages
    c.perform.result c.time_out.ensures.network c.perform.ensures.grows

pub returns-in-Err-clause-moves : goal.returns-in-Err-clause-moves
returns-in-Err-clause-moves c =
    no_move (TimesOut c.args.client c.args.component) c.args.parties.now c.time_out.new.parties c.args.watch.now
    c.args.watch.now c.args.lines.now
