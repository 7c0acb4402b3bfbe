use Rattle.std.proofs.Common.{◌<◌, ℕ, Ok, Err, length, arith}
use Rattle.world_history.specs.Moves.{Delivers}
use Rattle.world_history.specs.Plans.{Prompt}
use Rattle.world_history.specs.Runs.{world_after}
use Rattle.layout_world.specs.Going.{behind}
use Rattle.layout_world.proofs.Settling.{get_in}
use Rattle.layout_world.proofs.Going.{comes, broken_here}
use Rattle.layout_world.proofs.Finishing.{quiets_err, due_first, delivered_all}
use Rattle.layout_world.proofs.Watched.{leaves_on}
use Rattle.layout_world.proofs.following.settle.Goals as goal

pub returns-in_default-clause-quiets : goal.returns-in_default-clause-quiets
returns-in_default-clause-quiets g c = λ w e before watch first client d.
    let l = c.loop-rounds in
    delivered_all w e before watch first client l.parties l.watch l.next l.lines (l.invariant.0 w e before watch first client d)
    c.in_default.ensures

pub returns-in-Err-clause-quiets : goal.returns-in-Err-clause-quiets
returns-in-Err-clause-quiets g c = λ w e before watch first client d.
    let l = c.loop-rounds in
    let i = l.invariant.0 w e before watch first client d in
    let number : ℕ = c.in-Some.number in
    let error = c.in-Err.error in
    quiets_err w e before watch first client (behind (Prompt first client)) c.deliver_move.new.parties
    c.deliver_move.new.watch c.deliver_move.new.lines error
    (comes w e before watch (behind (Prompt first client)) l.parties l.watch l.lines i.far (Delivers number)
    c.deliver_move.new.parties c.deliver_move.new.watch c.deliver_move.new.lines (Err error)
    (due_first c.network_shows.ensures.pending w e before watch first client l.parties l.watch l.next l.lines i number
    c.in-Some.ensures)
    (c.in-Err.ensures.moves (world_after w i.far.moves) i.far.shows))

pub overflow_add-next : goal.overflow_add-next
overflow_add-next g c =
    let low = c.in-Some.ensures in
    let inside : c.in-Some.number < length c.loop-rounds.parties.network.messages =
    get_in c.loop-rounds.parties.network.messages c.in-Some.number low.message low.found in
    grind (arith, inside, c.len-sent.ensures)

pub loop-rounds-preserved : goal.loop-rounds-preserved
loop-rounds-preserved g c = (
  λ w e before watch first client d.
      let l = c.loop-rounds in
      let i = l.invariant.0 w e before watch first client d in
      let number : ℕ = c.in-Some.number in
      record {
        far = comes w e before watch (behind (Prompt first client)) l.parties l.watch l.lines i.far (Delivers number)
            c.deliver_move.new.parties c.deliver_move.new.watch c.deliver_move.new.lines (Ok tt)
            (due_first c.network_shows.ensures.pending w e before watch first client l.parties l.watch l.next l.lines i number
            c.in-Some.ensures)
            (c.in-Ok.ensures.moves (world_after w i.far.moves) i.far.shows);
        settled = c.in-Ok.ensures.settles first l.next i.settled c.in-Some.ensures;
      },
  leaves_on c.args.watch.now c.loop-rounds.watch c.deliver_move.new.watch c.loop-rounds.invariant.1 c.deliver_move.ensures.told,
)

pub returns-clause-quiets : goal.returns-clause-quiets
returns-clause-quiets g c = λ w e before watch first client d.
    let l = c.loop-rounds in
    let i = l.invariant.0 w e before watch first client d in
    broken_here w e before watch (behind (Prompt first client)) l.parties l.watch l.lines i.far
