-- How many drives may fail so that no stripe of a file loses more than its parity brings back.
use Rattle.std.specs.Prelude.{◌≡◌, ◌≤◌, ◌<◌, ◌+◌, ◌*◌, ℕ, true, false, List, Some, length}
use Rattle.data_map.specs.Striping.{replicas, parities}
use Rattle.stripe_plan.specs.Lost.{is_short, positions_out}
use Rattle.server_rules.specs.Laws.{In}
use Rattle.server_rules.specs.Maps.{group_with}
use Rattle.scenario_text.specs.declared.line.Line.{Line}
use Rattle.world_history.specs.ClientNames.{CallOp}
use Rattle.world_history.specs.ServerNames.{File, Kept, Component}
use Rattle.world_history.specs.Book.{book_of}
use Rattle.component_law.specs.Apart.{AreApart}
use Rattle.component_law.specs.Failing.{IsBorne}
use Rattle.ready_law.specs.Ready.{Scene, has_failed, lost_of, touched}
use Rattle.ready_law.specs.Answered.{scene_in}

-- ---- drives that failed

-- A file is hurt by these drives alone: no component of it is missing, unless the drive on which it last stood has failed; and
-- each drive that has failed, and on which a component of it stands or last stood, is one of these.
pub record IsHurtBy (s : Scene) (f : Kept) (failed : List ℕ) : Type 0 where
  pub missing : (at : Component) → In at f.components → at.missing ≡ true → has_failed (s.drive at.drive) ≡ true
  pub drives : (at : Component) → In at f.components → has_failed (s.drive at.drive) ≡ true → In at.drive failed

-- These are too few to take all replicas of more positions than the parity brings back. As many as those positions always are.
abbrev pub AreTooFew : Kept → (failed : List ℕ) → Type 0
AreTooFew f failed = length failed < (parities f.map + 1) * replicas f.map

-- where the file is hurt by so few, no stripe has more positions lost than its parity brings back
abbrev pub BearsLosses : Scene → Kept → Type 0
BearsLosses s f = (failed : List ℕ) → IsHurtBy s f failed → AreTooFew f failed → IsBorne f (lost_of s f)

-- ---- in a history

-- each file's components, present or missing, are on different drives by its book
abbrev pub StandApart : List Line → Type 0
StandApart h = (file : ℕ) (f : File) → book_of h file ≡ Some f → AreApart f.kept.components

-- each file bears its losses, by its book and by the drives as the lines leave them
abbrev pub FilesBearLosses : List Line → Type 0
FilesBearLosses h = (file : ℕ) (f : File) → book_of h file ≡ Some f → BearsLosses (scene_in h) f.kept

-- so it is at each moment of a history at which they stand apart
abbrev pub LossesAreBorne : Type 0
LossesAreBorne = (h : List Line) → StandApart h → FilesBearLosses h

-- ---- for calls

-- Each call on the file has enough to be ready: no stripe that it touches has more positions lost than its parity brings back,
-- and so it is of the group of any component that a read of no byte may ask.
pub record HasEnough (s : Scene) (f : Kept) : Type 0 where
  pub enough : (op : CallOp) (n : ℕ) → In n (touched f op) → is_short f.map (lost_of s f) n ≡ false
  pub probed : (k : ℕ) → length (positions_out f.map (lost_of s f) (group_with f.map k)) ≤ parities f.map

-- so it is where the losses are borne
abbrev pub BorneIsEnough : Type 0
BorneIsEnough = (s : Scene) (f : Kept) → IsBorne f (lost_of s f) → HasEnough s f
