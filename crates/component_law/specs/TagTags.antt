-- The tag of each component's object is its file's, in the words of the lines.
use Rattle.std.specs.Prelude.{◌≡◌, ◌⊎◌, ◌+◌, ℕ, true, false, List, Option, Some, None}
use Rattle.osd_objects.specs.declared.object.StoredObject.{StoredObject}
use Rattle.osd_objects.specs.Store.{object_at}
use Rattle.scenario_text.specs.declared.line.Line.{Line}
use Rattle.server_rules.specs.Laws.{In}
use Rattle.server_rules.specs.Messages.{awaited_by}
use Rattle.world_history.specs.ServerNames.{File, Component, Kept}
use Rattle.world_history.specs.State.{World, DriveAt}
use Rattle.world_history.specs.Book.{book_of}
use Rattle.world_history.specs.ReadDrives.{drive_after}
use Rattle.history_law.specs.BookMoments.{IsMoment}
use Rattle.history_law.specs.Read.{AreWritten}
use Rattle.history_law.specs.Unforged.{AreUnforged}
use Rattle.exchange_law.specs.Text.{AreOfText, AreFew}
use Rattle.component_law.specs.Tagged.{fence_open}
use Rattle.component_law.specs.Standing.{IsCreating, IsCutOff}

-- a tag is the file's, or the next one while the file's fence is open
abbrev pub IsTagOf : Kept → (tag : ℕ) → Type 0
IsTagOf k tag = (tag ≡ k.tag) ⊎ ((tag ≡ k.tag + 1) × (fence_open k ≡ true))

-- the drive is there; it has failed, or has the object with such a tag
abbrev pub HasTag : Kept → Option DriveAt → (object : ℕ) → Type 0
HasTag k None object = ⊥
HasTag k (Some a) object =
    (a.failed ≡ true)
    ⊎ ((x : StoredObject) × (object_at a.state.store object ≡ Some x) × IsTagOf k x.tag)

-- behind these lines so has each component that isn't missing, unless its CREATE is awaited, or the file isn't ready and no
-- job of it runs
abbrev pub HaveTags : List Line → Type 0
HaveTags h =
    (n : ℕ) (f : File) → book_of h n ≡ Some f → (at : Component) → In at f.kept.components → at.missing ≡ false →
    IsCreating (awaited_by f.job) at.drive at.object f.kept.tag ⊎ HasTag f.kept (drive_after h at.drive) at.object
    ⊎ IsCutOff f

-- so it is where these are a moment of a history of a scenario's text, with few messages, and nothing that was injected so
-- far is forged
abbrev pub HaveTagsAt : List Line → Type 0
HaveTagsAt h =
    (w : World) → IsMoment w h → AreWritten h → AreOfText h → AreFew h → AreUnforged h → HaveTags h

abbrev pub EachTagIsItsFiles : Type 0
EachTagIsItsFiles = (h : List Line) → HaveTagsAt h
