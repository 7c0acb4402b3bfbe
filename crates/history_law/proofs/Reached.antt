-- What the empty world has and each move keeps holds at each moment.
use Rattle.std.proofs.Common.{List, [], ◌∷◌, sym, subst}
use Rattle.world_history.specs.State.{World, empty_world}
use Rattle.world_history.specs.Moves.{Act}
use Rattle.world_history.specs.Sending.{Move, move, sends_all}
use Rattle.world_history.specs.Runs.{world_after}
use Rattle.world_history.specs.History.{Step, AreCarried, end_of}
use Rattle.history_law.specs.Moves.{MoveCases}
use Rattle.history_law.specs.Moments.{IsReached}
use Rattle.history_law.proofs.Moves.{each_act}

pub record IsKept (P : World → Type 0) : Type 0 where
  pub starts : P empty_world
  pub moves : (w : World) (m : Move) → P w → P (move w m).world

module _ (P : World → Type 0) (k : IsKept P) where
  kept_moves : (w : World) (ms : List Move) → P w → P (world_after w ms)
  kept_moves w [] x = x
  kept_moves w (m ∷ ms) x = kept_moves (move w m).world ms (k.moves w m x)

  kept_steps : (w : World) (steps : List Step) → AreCarried w steps → P w → P (end_of w steps)
  kept_steps w [] c x = x
  kept_steps w (s ∷ steps) c x =
      kept_steps s.after steps c.1 (subst P (sym c.0.world_is) (kept_moves w c.0.moves x))

  pub always : (w : World) → IsReached w → P w
  always w r =
      subst P (sym r.world_is)
      (kept_moves r.before r.moves
      (subst P (sym r.stands.world_is) (kept_steps empty_world r.stands.steps r.stands.carried k.starts)))

-- a law gives this, and walks nothing
pub record IsKeptInCases (P : World → Type 0) : Type 0 where
  pub starts : P empty_world
  pub cases : (w : World) (m : Move) → P w → MoveCases w m.chosen m.action (λ (a : Act). P (sends_all a).world)

pub always_by : (P : World → Type 0) → IsKeptInCases P → (w : World) → IsReached w → P w
always_by P k w r =
    always P (record {
      starts = k.starts;
      moves = λ v m x. each_act v m.chosen (λ (a : Act). P (sends_all a).world) m.action (k.cases v m x);
    }) w r
