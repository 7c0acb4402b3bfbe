-- What is kept stands for what `world_history` reads off the lines.
use Rattle.std.specs.Prelude.{◌≡◌, ℕ, ◌<◌, true, List, [], ◌∷◌, length, position, slice_get, Option, Some, None}
use Rattle.osd_drive.specs.declared.keys.DriveKey.{DriveKey}
use Rattle.scenario_text.specs.declared.line.Line.{Line}
use Rattle.scenario_text.specs.declared.line.Line.TheVariants as line
use Rattle.world_history.specs.declared.messages.Sent.{Sent}
use Rattle.world_history.specs.State.{at_number}
use Rattle.world_history.specs.Drives.{first_key}
use Rattle.world_history.specs.Guesses.{Guarded, guards}
use Rattle.world_watch.specs.Sighted.{Table, of_nonce, sighted, is_same, is_same_at}
use Rattle.world_watch.specs.Guessing.{GuessState, no_guess, sees}

-- all of these numbers are below another
abbrev pub AreBelow : ℕ → List ℕ → Type 0
AreBelow n [] = Unit {0}
AreBelow n (k ∷ ks) = (k < n) × AreBelow n ks

-- the sightings are of these messages, and of those to a drive with some bytes they find the first
pub record AreOf (sent : List Sent) (t : Table) : Type 0 where
  pub below : (nonce : ℕ) (ns : List ℕ) → of_nonce t nonce ≡ Some ns → AreBelow (length sent) ns
  pub first : (d : ℕ) (bytes : List ℕ) → sighted t sent d bytes ≡ position (is_same d bytes) sent

-- these messages begin with those, whatever became of them
abbrev pub BeginWith : List Sent → List Sent → Type 0
BeginWith ms sent =
    (k : ℕ) → k < length sent → (d : ℕ) (bytes : List ℕ)
    → is_same_at d bytes (slice_get ms k) ≡ is_same_at d bytes (slice_get sent k)

-- the key table of a drive
abbrev pub with_key : Option (List ℕ) → Option (List DriveKey)
with_key None = None
with_key (Some key) = Some (first_key key ∷ [])

-- what is kept is what was read
pub record Keeps (g : Guarded) (s : GuessState) : Type 0 where
  pub keys : (d : ℕ) → at_number g.keys d ≡ with_key (at_number s.keys d)
  pub sightings : AreOf g.sent s.sightings
  pub unguessed : s.unguessed ≡ g.unguessed

-- a message's line has the next number
abbrev pub IsNext : List Sent → Line → Type 0
IsNext ss (line.Message number from to bytes) = number ≡ length ss
IsNext ss l = Unit {0}

-- before the first line
abbrev pub KeepsFirst : Type 0
KeepsFirst = Keeps (record { keys = []; sent = []; unguessed = true }) no_guess

-- and so it goes on with each line, where the messages begin with those of the lines before it
abbrev pub KeepsOn : Type 0
KeepsOn =
    (g : Guarded) (s : GuessState) (ms : List Sent) (l : Line) → Keeps g s → BeginWith ms g.sent → IsNext g.sent l
    → Keeps (guards g l) (sees s ms l)
