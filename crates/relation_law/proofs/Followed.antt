-- A whole move that is followed: the moments before and behind it, and that both histories are of a scenario.
use Rattle.std.proofs.Common.{◌≡◌, ◌++◌, List, [], ◌∷◌, length, refl, ap, subst}
use Rattle.std.specs.Prelude.{take}
use Rattle.scenario_text.specs.declared.line.Line.{Line}
use Rattle.server_rules.specs.Laws.{In}
use Rattle.world_history.specs.ServerNames.{File}
use Rattle.world_history.specs.Sending.{Move, move}
use Rattle.world_history.specs.State.{World}
use Rattle.history_law.specs.BookMoments.{IsMoment, lines_in}
use Rattle.history_law.proofs.Ending.{next_moment}
use Rattle.history_law.proofs.Files.{in_at}
use Rattle.fence_law.specs.State.{State}
use Rattle.file_simulation.specs.Claim.{IsOfScenario}
use Rattle.file_simulation.proofs.Fronts.{scenario_before}
use Rattle.relation_law.specs.Steps.{FollowsWhole}

pub all_taken : (xs : List Line) → take (length xs) xs ≡ xs
all_taken [] = refl
all_taken (x ∷ xs) = ap (λ (ys : List Line). x ∷ ys) (all_taken xs)

module _ (w : World) (h : List Line) (m : Move) (f g : File) (s : State) (k : FollowsWhole w h m f g s) where
  pub behind : IsMoment (move w m).world (h ++ lines_in w m)
  behind = next_moment w h k.follows.moment m k.follows.is_due

  pub later : IsOfScenario (h ++ lines_in w m)
  later = subst (λ (ls : List Line). IsOfScenario (h ++ ls)) (all_taken (lines_in w m)) k.follows.calm.scenario

  pub scenario : IsOfScenario h
  scenario = scenario_before h (lines_in w m) later

  pub in_before : In f w.server.files
  in_before = in_at w.server.files f.kept.number f k.follows.there

  pub in_behind : In g (move w m).world.server.files
  in_behind = in_at (move w m).world.server.files f.kept.number g k.follows.goes
