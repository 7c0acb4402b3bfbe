-- The opening of a store, and contents that aren't one.
use Rattle.std.specs.Prelude.{◌≡◌, ◌⊎◌, ◌<◌, ◌^◌, ℕ, List, [], ◌∷◌, ◌++◌, length, Bool, None}
use Rattle.gate_log.specs.Broken.{IsBrokenAt}
use Rattle.gate_log.specs.declared.reader.LogReader.{LogReader}
use Rattle.gate_log.specs.Logs.{IsFront}
use Rattle.gate_log.specs.Standing.{HasRead}
use Rattle.osd_drive.specs.declared.keys.DriveKey.{DriveKey}
use Rattle.osd_drive.specs.State.{DriveState}
use Rattle.drive_store.specs.Header.{header_of}
use Rattle.drive_store.specs.Records.{after_record}
use Rattle.drive_store.specs.Stores.{LeadTo, header_for}

-- the bytes are the header of no store
abbrev pub IsNoHeader : List ℕ → Type 0
IsNoHeader header = (number capacity : ℕ) → number < 2 ^ 32 → capacity < 2 ^ 64 → header ≡ header_of number capacity → ⊥

-- this header and these bodies stand in front of a gate, which is at this place
pub record StandBefore (header : List ℕ) (bodies : List (List ℕ)) (c : List ℕ) (at : ℕ) : Type 0 where
  pub front : List ℕ
  pub is_front : IsFront header bodies front
  pub gate : ℕ
  pub rest : List ℕ
  pub contents : c ≡ front ++ gate ∷ rest
  pub place : at ≡ length front

-- the records that a reader has read lead to the drive
pub record HasTaken {D : Type 0} (tells : D → Bool) (seen : D → List ℕ) (may_leave : D → List ℕ → Type 0) (d : DriveState)
    (reader : LogReader D) : Type 0 where
  pub records : List (List ℕ)
  pub lead : LeadTo records d
  pub read : HasRead tells seen may_leave (header_for d) records reader

-- ---- refusals

-- the contents begin with the header of no store
pub record HasOtherHeader (c : List ℕ) (at : ℕ) : Type 0 where
  pub header : List ℕ
  pub gate : ℕ
  pub stands : StandBefore header [] c gate
  pub other : IsNoHeader header
  pub place : at ≡ 0

-- the record whose gate stands at this place is none that the drive before it performs
pub record HasNoChange (keys : List DriveKey) (c : List ℕ) (at : ℕ) : Type 0 where
  pub records : List (List ℕ)
  pub drive : DriveState
  pub same : drive.keys ≡ keys
  pub lead : LeadTo records drive
  pub stand : StandBefore (header_for drive) records c at
  pub bytes : List ℕ
  pub next : ℕ
  pub behind : StandBefore (header_for drive) (records ++ bytes ∷ []) c next
  pub none : after_record drive bytes ≡ None

-- contents are no store of a drive with these keys from this place on
abbrev pub IsNoStoreAt : (keys : List DriveKey) → List ℕ → ℕ → Type 0
IsNoStoreAt keys c at = IsBrokenAt c at ⊎ HasOtherHeader c at ⊎ HasNoChange keys c at
