-- What the proofs on repairs take of the world.
-- Towards `OweFollows` and `DoneFollows` (`specs/Parts.antt`).
use Rattle.std.specs.Prelude.{List}
use Rattle.scenario_text.specs.declared.line.Line.{Line}
use Rattle.world_history.specs.ServerNames.{File}
use Rattle.world_history.specs.State.{World}
use Rattle.world_history.specs.Sending.{Move}
use Rattle.component_law.specs.FenceTags.{EachStepTellsTags}
use Rattle.fence_law.specs.State.{State}
use Rattle.relation_law.specs.ComponentsMove.{OfMove}
use Rattle.relation_law.specs.Steps.{FollowsWhole}
use Rattle.relation_law.proofs.OwnedJoined.{JoinLaws}

-- what is known of histories, and of each whole move
pub record OweLaws : Type 0 where
  pub join : JoinLaws
  pub tells : EachStepTellsTags
  pub moves : (w : World) (h : List Line) (m : Move) (f g : File) (s : State) → (k : FollowsWhole w h m f g s) → OfMove k
