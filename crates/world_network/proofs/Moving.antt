-- Performing an act of the world is its move.
use Rattle.std.proofs.Common.{◌++◌, List, Ok, Err, sym, ap, subst, ◌∙◌}
use Rattle.scenario_text.specs.declared.line.Line.{Line}
use Rattle.world_history.specs.declared.err.WorldErr.TheVariants.{NoName, Taken, Dead, Alive, NotKept, Down, Running, NoMessage, KeptFull, Memory}
use Rattle.world_history.specs.Sending.{sends_all}
use Rattle.world_network.specs.Network.{NetworkState}
use Rattle.world_network.specs.Posting.{IsFront}
use Rattle.world_network.specs.Shows.{Shows, AllPostingsAreShown}
use Rattle.world_network.specs.Moving.{ActsAreMoves}

pub acts_are_moves_by : AllPostingsAreShown → ActsAreMoves
acts_are_moves_by shows n n' a before after (Ok u) s h =
    let p = shows n a.world.network a.posts s in (
      subst (λ (m : NetworkState). Shows m (sends_all a).world.network) (sym h.0) p.network,
      h.1 ∙ ap (λ (l : List Line). before ++ (a.told ++ l)) p.lines_are,
    )
acts_are_moves_by shows n n' a before after (Err KeptFull) s h =
    let p = shows n a.world.network a.posts s in (
      (rw (← s.kept) h.0, rw (← s.kept, ← p.costs) h.1),
      h.2 ∙ ap (λ (l : List Line). before ++ (a.told ++ l)) p.cut_lines_are,
    )
acts_are_moves_by shows n n' a before after (Err Memory) s h =
    let p = shows n a.world.network a.posts s in
    (h.0, h.1, subst (λ (l : List Line). IsFront h.0 (a.told ++ l)) p.lines_are h.2)
acts_are_moves_by shows n n' a before after (Err NoName) s h = absurd h
acts_are_moves_by shows n n' a before after (Err Taken) s h = absurd h
acts_are_moves_by shows n n' a before after (Err Dead) s h = absurd h
acts_are_moves_by shows n n' a before after (Err Alive) s h = absurd h
acts_are_moves_by shows n n' a before after (Err NotKept) s h = absurd h
acts_are_moves_by shows n n' a before after (Err Down) s h = absurd h
acts_are_moves_by shows n n' a before after (Err Running) s h = absurd h
acts_are_moves_by shows n n' a before after (Err (NoMessage k)) s h = absurd h
