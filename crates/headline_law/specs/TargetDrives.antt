-- What drives make of the objects of rebuilds' targets in a move.
use Rattle.std.specs.Prelude.{◌≡◌, false, List, Some}
use Rattle.osd_objects.specs.declared.object.StoredObject.{StoredObject}
use Rattle.scenario_text.specs.declared.line.Line.{Line}
use Rattle.server_rules.specs.Maps.{group_with, pieces_in}
use Rattle.world_history.specs.ServerNames.{File, Kept, Piece, Target, Job, Work, Targets, Gathers, Fills}
use Rattle.world_history.specs.Sending.{Move, move}
use Rattle.world_history.specs.State.{World, at_number}
use Rattle.fence_law.specs.State.{State}
use Rattle.file_simulation.specs.Components.{object_on, has_failed}
use Rattle.file_simulation.specs.Jobs.{IsFilled, IsTarget}
use Rattle.relation_law.specs.Steps.{FollowsWhole}

-- a rebuild's work has these pieces of its target to do
abbrev pub HasToDo : Kept → Target → List Piece → Work → Type 0
HasToDo f t todo (Targets u) = (u ≡ t) × (todo ≡ pieces_in f.map (group_with f.map t.component) f.high)
HasToDo f t todo (Gathers u ps) = (u ≡ t) × (todo ≡ ps)
HasToDo f t todo (Fills u ps) = (u ≡ t) × (todo ≡ ps)
HasToDo f t todo work = ⊥

-- The object of a target that is there behind a whole move has what the rebuild has made so far.
abbrev pub TargetObjectsStay : Type 0
TargetObjectsStay =
    (w : World) (h : List Line) (m : Move) (f g : File) (s : State) → FollowsWhole w h m f g s → (j : Job) (t : Target)
    (todo : List Piece) → f.job ≡ Some j → HasToDo f.kept t todo j.work → IsTarget s w f t todo →
    has_failed (at_number (move w m).world.drives t.drive) ≡ false → (o : StoredObject) →
    object_on (at_number (move w m).world.drives t.drive) t.object ≡ Some o → IsFilled s f t todo o
