-- The tag of an object on a drive beside its file's, over what a drive performs and over the server's steps.
use Rattle.std.specs.Prelude.{◌≡◌, ◌⊎◌, ◌≤◌, ◌+◌, ◌++◌, ℕ, Bool, true, false, List, [], Some}
use Rattle.osd_commands.specs.declared.actions.Action.{Action}
use Rattle.osd_commands.specs.declared.actions.Action.TheVariants.{Create, SetTag}
use Rattle.osd_commands.specs.declared.commands.Command.{Command}
use Rattle.osd_objects.specs.declared.object.StoredObject.{StoredObject}
use Rattle.osd_objects.specs.Store.{object_at}
use Rattle.osd_drive.specs.declared.verdict.Verdict.TheVariants.{Perform}
use Rattle.osd_drive.specs.State.{DriveState}
use Rattle.osd_drive.specs.Table.{first_fault}
use Rattle.osd_drive.specs.Effects.{performed}
use Rattle.server_rules.specs.Files.{file_at}
use Rattle.server_rules.specs.History.{Act, state_after}
use Rattle.server_rules.specs.Making.{new_server}
use Rattle.history_law.specs.Names.{Kept, File}
use Rattle.component_law.specs.Tagged.{fence_open, IsBehind, AreNamedActs}

-- it isn't past the file's, or is the next one while the fence is open
abbrev pub IsWithin : Kept → (tag : ℕ) → Type 0
IsWithin k tag = (tag ≤ k.tag) ⊎ ((tag ≤ k.tag + 1) × (fence_open k ≡ true))

-- the object there, if any
abbrev pub ObjectWithin : Kept → DriveState → (object : ℕ) → Type 0
ObjectWithin k d o = (x : StoredObject) → object_at d.store o ≡ Some x → IsWithin k x.tag

-- a command of this action gives its object a tag
abbrev pub sets_tag : Action → Bool
sets_tag Create = true
sets_tag SetTag = true
sets_tag action = false

-- A command leaves its object within the file, where it was so before, as long as it isn't past the file or gives no
-- tag; and no other object changes.
pub record StaysWithin (d : DriveState) (c : Command) : Type 0 where
  pub own : (k : Kept) → (sets_tag c.action ≡ true → IsBehind k c) → ObjectWithin k d c.object →
      ObjectWithin k (performed d c) c.object
  pub others : (o : ℕ) → (o ≡ c.object → ⊥) → object_at (performed d c).store o ≡ object_at d.store o

-- so does each that a drive performs
abbrev pub PerformedStayWithin : Type 0
PerformedStayWithin = (d : DriveState) (now : ℕ) (c : Command) → first_fault d now c ≡ Perform → StaysWithin d c

-- ---- files go on

-- The file of that number is there; and no command that wasn't past it is past it now, and no tag.
pub record GoesOn (number : ℕ) (f : File) (files : List File) : Type 0 where
  pub behind : File
  pub there : file_at files number ≡ Some behind
  pub commands : (c : Command) → IsBehind f.kept c → IsBehind behind.kept c
  pub tags : (tag : ℕ) → IsWithin f.kept tag → IsWithin behind.kept tag

-- so does each file from any moment of a run to any later one
abbrev pub TagsStayWithin : Type 0
TagsStayWithin =
    (first more : List Act) → AreNamedActs (first ++ more) → (n : ℕ) (f : File) →
    file_at (state_after (new_server []) first).files n ≡ Some f →
    GoesOn n f (state_after (new_server []) (first ++ more)).files
