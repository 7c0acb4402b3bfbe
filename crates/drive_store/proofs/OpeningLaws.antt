-- Reading the records of a store, one after the other.
use Rattle.std.proofs.Common.{◌≡◌, ◌<◌, ◌^◌, inl, inr, ℕ, List, [], ◌∷◌, ◌++◌, Bool, Some, None, refl, sym, ◌∙◌, ap, subst}
use Rattle.gate_log.specs.declared.log.GateLog.{GateLog}
use Rattle.gate_log.specs.declared.reader.LogReader.{LogReader}
use Rattle.gate_log.specs.declared.errors.LogErr.{LogErr}
use Rattle.gate_log.specs.declared.errors.LogErr.TheVariants as log
use Rattle.gate_log.specs.Broken.{IsBrokenAt}
use Rattle.gate_log.specs.Errors.{NotALogSays}
use Rattle.gate_log.specs.Standing.{HasRead, IsAtRest, StandsAt, place_of, read_disk}
use Rattle.osd_drive.specs.declared.keys.DriveKey.{DriveKey}
use Rattle.osd_drive.specs.State.{DriveState, new_drive}
use Rattle.drive_store.specs.Errors.{NotAStoreSays, told_by}
use Rattle.drive_store.specs.Header.{header_of}
use Rattle.drive_store.specs.Opening.{HasTaken, IsNoHeader, IsNoStoreAt, StandBefore}
use Rattle.drive_store.specs.Records.{after_record}
use Rattle.drive_store.specs.Stores.{KeepsDrive, LeadTo, emptied, header_for}
use Rattle.drive_store.proofs.RecordLaws.{same_made}
use Rattle.drive_store.proofs.StoreLaws.{lead_all, one_header}

-- no record leads to a drive as it was made
pub lead_none : (d : DriveState) → d.number < 2 ^ 32 → d.store.capacity < 2 ^ 64 → emptied d ≡ d → LeadTo [] d
lead_none d low fits made = record { number_fits = low; capacity_fits = fits; drive = ap (λ (x : DriveState). Some x) made }

module _ {D : Type 0} (tells : D → Bool) (seen : D → List ℕ) (may_leave : D → List ℕ → Type 0) where
  pub stand : (header : List ℕ) (bodies : List (List ℕ)) (disk : D) (at gate : ℕ) (c : List ℕ) →
      StandsAt tells seen may_leave header bodies disk at gate → seen disk ≡ c
      → StandBefore header bodies c at
  stand header bodies disk at gate c s same = record {
    front = s.front;
    is_front = s.is_front;
    gate = gate;
    rest = s.rest;
    contents = sym same ∙ s.contents;
    place = s.place;
  }

  -- a record that isn't performed
  pub no_change_at : (records : List (List ℕ)) (d : DriveState) (keys : List DriveKey) (bytes : List ℕ) (disk next : D)
      (at gate then_at then_gate : ℕ) (c : List ℕ)
      → LeadTo records d → d.keys ≡ keys → StandsAt tells seen may_leave (header_for d) records disk at gate → seen disk ≡ c
      → StandsAt tells seen may_leave (header_for d) (records ++ bytes ∷ []) next then_at then_gate → seen next ≡ c
      → after_record d bytes ≡ None → IsNoStoreAt keys c at
  no_change_at records d keys bytes disk next at gate then_at then_gate c lead same here seen_here behind seen_behind none =
      inr (inr (record {
        records = records;
        drive = d;
        same = same;
        lead = lead;
        stand = stand (header_for d) records disk at gate c here seen_here;
        bytes = bytes;
        next = then_at;
        behind = stand (header_for d) (records ++ bytes ∷ []) next then_at then_gate c behind seen_behind;
        none = none;
      }))

  -- a header that is none
  pub other_header_at : (header : List ℕ) (keys : List DriveKey) (disk : D) (at gate : ℕ) (c : List ℕ) →
      StandsAt tells seen may_leave header [] disk at gate → seen disk ≡ c → IsNoHeader header
      → IsNoStoreAt keys c 0
  other_header_at header keys disk at gate c s same other = inr (inl (record {
    header = header;
    gate = at;
    stands = stand header [] disk at gate c s same;
    other = other;
    place = refl;
  }))

  -- before the first record
  pub taken_first : (number capacity : ℕ) (keys : List DriveKey) (header : List ℕ) (reader : LogReader D) → number < 2 ^ 32 →
      capacity < 2 ^ 64 → header ≡ header_of number capacity
      → HasRead tells seen may_leave header [] reader → HasTaken tells seen may_leave (new_drive number keys capacity) reader
  taken_first number capacity keys header reader low fits is read = record {
    records = [];
    lead = lead_none (new_drive number keys capacity) low fits refl;
    read = subst (λ (h : List ℕ). HasRead tells seen may_leave h [] reader) is read;
  }

  -- one record more
  pub taken_more : (d e : DriveState) (bytes : List ℕ) (old new : LogReader D) → HasTaken tells seen may_leave d old →
      after_record d bytes ≡ Some e
      → ((header : List ℕ) (bodies : List (List ℕ)) → HasRead tells seen may_leave header bodies old →
      HasRead tells seen may_leave header (bodies ++ bytes ∷ []) new)
      → HasTaken tells seen may_leave e new
  taken_more d e bytes old new t leads reads = record {
    records = t.records ++ bytes ∷ [];
    lead = lead_all t.records (bytes ∷ []) d e t.lead leads (same_made d e bytes leads);
    read = subst (λ (h : List ℕ). HasRead tells seen may_leave h (t.records ++ bytes ∷ []) new)
        (sym (one_header d e (same_made d e bytes leads)))
        (reads (header_for d) t.records t.read);
  }

  -- none more
  pub taken_none : (d : DriveState) (old new : LogReader D) → HasTaken tells seen may_leave d old
      → ((header : List ℕ) (bodies : List (List ℕ)) → HasRead tells seen may_leave header bodies old →
      HasRead tells seen may_leave header bodies new) → HasTaken tells seen may_leave d new
  taken_none d old new t reads = record { records = t.records; lead = t.lead; read = reads (header_for d) t.records t.read }

  -- one that isn't performed
  pub not_taken : (d : DriveState) (keys : List DriveKey) (bytes : List ℕ) (old new : LogReader D) (c : List ℕ) (at : ℕ) →
      HasTaken tells seen may_leave d old → d.keys ≡ keys → after_record d bytes ≡ None
      → ((header : List ℕ) (bodies : List (List ℕ)) → HasRead tells seen may_leave header bodies old →
      HasRead tells seen may_leave header (bodies ++ bytes ∷ []) new)
      → seen (read_disk old) ≡ c → seen (read_disk new) ≡ c → at ≡ place_of old → IsNoStoreAt keys c at
  not_taken d keys bytes old new c at t same none reads seen_old seen_new is =
      let behind = reads (header_for d) t.records t.read in
      subst (λ (n : ℕ). IsNoStoreAt keys c n) (sym is)
      (no_change_at t.records d keys bytes (read_disk old)
      (read_disk new) _ _ _ _ c t.lead same t.read.stands seen_old behind.stands seen_new none)

  -- where the log is broken
  pub broken_there : (d : DriveState) (keys : List DriveKey) (reader : LogReader D) (c : List ℕ) (at : ℕ) →
      HasTaken tells seen may_leave d reader
      → ((header : List ℕ) (bodies : List (List ℕ)) → HasRead tells seen may_leave header bodies reader →
      IsBrokenAt (seen (read_disk reader)) at)
      → seen (read_disk reader) ≡ c → IsNoStoreAt keys c at
  broken_there d keys reader c at t broken same =
      inl (subst (λ (s : List ℕ). IsBrokenAt s at) same (broken (header_for d) t.records t.read))

  -- so the log's error is one of the store
  pub broken_told : (d : DriveState) (keys : List DriveKey) (reader : LogReader D) (c : List ℕ) (e : LogErr) (T : Type 0) →
      (T → HasTaken tells seen may_leave d reader)
      → NotALogSays
      (λ at. (header : List ℕ) (bodies : List (List ℕ)) → HasRead tells seen may_leave header bodies reader →
      IsBrokenAt (seen (read_disk reader)) at) e
      → seen (read_disk reader) ≡ c → NotAStoreSays (λ at. T → IsNoStoreAt keys c at) (told_by e)
  broken_told d keys reader c (log.NotEmpty size) T taken says same = says
  broken_told d keys reader c (log.NotALog at) T taken says same = λ t. broken_there d keys reader c at (taken t) says same
  broken_told d keys reader c log.DiskFault T taken says same = says
  broken_told d keys reader c log.Memory T taken says same = says

  -- a log that was read to its end is a store of the drive
  pub taken_kept : (d : DriveState) (reader : LogReader D) (log : GateLog D) → HasTaken tells seen may_leave d reader
      → ((header : List ℕ) (bodies : List (List ℕ)) → HasRead tells seen may_leave header bodies reader →
      IsAtRest tells seen may_leave header bodies log) → KeepsDrive tells seen may_leave d log
  taken_kept d reader log t rests = record { records = t.records; rest = rests (header_for d) t.records t.read; lead = t.lead }
