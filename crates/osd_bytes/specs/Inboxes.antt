-- What came on an accepted connection, and what was put on it.
use Rattle.std.specs.Prelude.{◌≡◌, ◌⊎◌, ◌<◌, ℕ, Bool, true, false, List, [], ◌∷◌, ◌++◌, length, ⊤, Option, None, Some, if◌then◌else◌}
use Rattle.osd_bytes.specs.Causes.{Rose}
use Rattle.osd_bytes.specs.Clocks.{TellsTime}
use Rattle.osd_bytes.specs.Counts.{Faults, NoFewer}
use Rattle.osd_bytes.specs.Connections.{Talk, Traffic, newest, with_notes}
use Rattle.osd_bytes.specs.declared.records.TheConstants.{MAX_RECORD}
use Rattle.osd_bytes.specs.Records.{Begun, fresh, framed, split}

-- what came of the next record, unless one was too long, and how many bytes may still be taken
pub record Coming : Type 0 where
  pub begun : Option Begun
  pub room : ℕ

-- after a record that is too long nothing more is read
abbrev pub begun_or_broken : (is_broken : Bool) → Begun → Option Begun
begun_or_broken is_broken begun = if is_broken then None else Some begun

-- one byte more gives records, one at most
abbrev pub ReadsByte : (is_broken : Bool) → Begun → ℕ → Begun → (old new : List (List ℕ)) → Type 0
ReadsByte is_broken before byte now old new =
    (more : List (List ℕ)) × (new ≡ old ++ more)
    × (split before (byte ∷ []) ≡ record { records = more; begun = begun_or_broken is_broken now })

-- all bytes that came gave these records
abbrev pub Came : List ℕ → List (List ℕ) → Coming → Type 0
Came bytes records inbox = split fresh bytes ≡ record { records = records; begun = inbox.begun }

-- a piece more gives these records
abbrev pub Reads : (piece : List ℕ) → (records : List (List ℕ)) → (old new : Coming) → Type 0
Reads piece records old new =
    (before : List ℕ) (given : List (List ℕ)) → Came before given old → Came (before ++ piece) (given ++ records) new

-- the connections of which this is the newest accepted one
abbrev pub with_newest_talk : Traffic → List Talk → Talk → Traffic
with_newest_talk a talks t = record a { accepted = talks ++ t ∷ [] }

-- these bytes were taken of the newest accepted connection, and nothing else happened
pub record WasTaken (before now : Option Traffic) (piece : List ℕ) : Type 0 where
  pub none : before ≡ None → now ≡ None
  pub some : (a : Traffic) (talks : List Talk) (t : Talk) → before ≡ Some (with_newest_talk a talks t) →
      (left : List ℕ) × (t.left ≡ piece ++ left) × (now ≡ Some (with_newest_talk a talks (record t { left = left })))

-- these bytes were put on the newest accepted connection, and nothing else happened
pub record WasPut (before now : Option Traffic) (bytes : List ℕ) : Type 0 where
  pub none : before ≡ None → now ≡ None
  pub some : (a : Traffic) (talks : List Talk) (t : Talk) → before ≡ Some (with_newest_talk a talks t) →
      now ≡ Some (with_newest_talk a talks (record t { put = t.put ++ bytes }))

-- nothing more comes on the newest accepted connection
abbrev pub IsAtEnd : Option Traffic → Type 0
IsAtEnd None = ⊤
IsAtEnd (Some a) = (newest a.accepted).left ≡ []

-- why nothing more is taken: a record was too long, the limit was taken, a call failed, or nothing more comes
abbrev pub IsOver : Coming → Option Traffic → (before now : Faults) → Type 0
IsOver inbox told before now =
    (inbox.begun ≡ None) ⊎ (inbox.room ≡ 0) ⊎ Rose before.accepted now.accepted ⊎ IsAtEnd told

-- a message went out as one record, or a part of that
abbrev pub PutsFrame : (is_whole : Bool) → (message : List ℕ) → (before now : Option Traffic) → Type 0
PutsFrame true message before now = WasPut before now (framed message)
PutsFrame false message before now =
    (sent more : List ℕ) × (framed message ≡ sent ++ more) × WasPut before now sent

-- where a part is missing, a call failed, or the message is longer than a record may be
abbrev pub HasPutCause : (is_whole : Bool) → (message : List ℕ) → (before now : Faults) → Type 0
HasPutCause true message before now = now ≡ before
HasPutCause false message before now =
    NoFewer before now × (Rose before.accepted now.accepted ⊎ (MAX_RECORD < length message))

-- ---- a whole connection

-- these bytes were taken of the newest accepted connection, and those put on it, these notes were told, and nothing else
-- happened
pub record Talked (before now : Option Traffic) (taken put : List ℕ) (notes : List (List ℕ)) : Type 0 where
  pub none : before ≡ None → now ≡ None
  pub some : (a : Traffic) (talks : List Talk) (t : Talk) → before ≡ Some (with_newest_talk a talks t) →
      (left : List ℕ) × (t.left ≡ taken ++ left)
      × (now ≡ Some (with_newest_talk (with_notes notes a) talks (record { left = left; put = t.put ++ put })))

-- a clock told these times, one after the other
abbrev pub Told : (before : Option (List ℕ)) → (times : List ℕ) → (now : Option (List ℕ)) → Type 0
Told before [] now = now ≡ before
Told before (t ∷ ts) now = (between : Option (List ℕ)) × TellsTime before between t × Told between ts now
