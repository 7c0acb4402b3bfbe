-- What a client lists, beside the components that the server has now.
use Rattle.std.specs.Prelude.{◌≡◌, ◌==◌, ◌&&◌, not, ℕ, Bool, true, false, if◌then◌else◌, List, [], ◌∷◌, length, slice_get, find, is_some, Some, None}
use Rattle.osd_capability.specs.Keys.{key_of}
use Rattle.scenario_text.specs.declared.line.Line.{Line}
use Rattle.world_history.specs.ClientNames.{Credential, Listed, Held}
use Rattle.world_history.specs.ServerNames.{Component, Drive, File, Grant, Kept}
use Rattle.world_history.specs.State.{World, at_number}
use Rattle.client_rules.specs.Grants.{held_of}
use Rattle.server_rules.specs.Commands.{key_at}
use Rattle.server_rules.specs.Files.{file_at}
use Rattle.server_rules.specs.Grants.{grant_of}
use Rattle.server_rules.specs.Layouts.{capability_for, object_of}
use Rattle.history_law.specs.BookMoments.{IsMoment}
use Rattle.exchange_law.specs.InStep.{state_of}
use Rattle.exchange_law.specs.Meeting.{IsReadableThrough}

-- the server knows a drive with this number
abbrev pub IsKnown : List Drive → (drive : ℕ) → Type 0
IsKnown ds n = is_some (find (λ (d : Drive). d.number == n) ds) ≡ true

-- The credential is for component k of the file under the grant. Its key is the one that the server makes of the key of the
-- component's drive, which it knows.
pub record IsCredentialFor (ds : List Drive) (f : Kept) (g : Grant) (at : Component) (k : ℕ) (c : Credential) : Type 0
  where
    pub drive : c.drive ≡ at.drive
    pub capability : c.capability ≡ capability_for f g at k
    pub known : IsKnown ds at.drive
    pub key : c.key ≡ key_of (key_at ds at.drive) (capability_for f g at k)

-- a drive with this number is offline
unfoldable pub is_offline : (drive : ℕ) → List Drive → Bool
is_offline n [] = false
is_offline n (d ∷ ds) = if (d.number == n) && not d.online then true else is_offline n ds

abbrev pub IsOffline : List Drive → (drive : ℕ) → Type 0
IsOffline ds n = is_offline n ds ≡ true

-- component k is listed with its object; without a credential only where it is missing; and if it has one and is
-- missing, its drive is offline
pub record ListsComponent (ds : List Drive) (f : Kept) (g : Grant) (at : Component) (k : ℕ) (l : Listed) : Type 0 where
  pub object : l.id ≡ object_of at
  pub credential : (c : Credential) → l.credential ≡ Some c → IsCredentialFor ds f g at k c
  pub missing : l.credential ≡ None → at.missing ≡ true
  pub gone : (c : Credential) → l.credential ≡ Some c → at.missing ≡ true → IsOffline ds at.drive

-- so is each component of the file, and nothing else
pub record ListsComponents (ds : List Drive) (f : Kept) (g : Grant) (ls : List Listed) : Type 0 where
  pub count : length ls ≡ length f.components
  pub each : (k : ℕ) (at : Component) (l : Listed) → slice_get f.components k ≡ Some at → slice_get ls k ≡ Some l
      → ListsComponent ds f g at k l

-- At each moment of a history, where what is said at its moments fits its places: what client c holds on a file lists
-- the components that the server has there, where it has a grant of c.
abbrev pub ComponentsAgree : Type 0
ComponentsAgree =
    (w : World) (h : List Line) → IsMoment w h → IsReadableThrough h → (c : ℕ) (n : ℕ) (x : Held) (f : File) (g : Grant)
    → held_of (state_of c (at_number w.clients c)).held n ≡ Some x → file_at w.server.files n ≡ Some f
    → grant_of f.kept.grants c ≡ Some g → ListsComponents w.server.drives f.kept g x.components
