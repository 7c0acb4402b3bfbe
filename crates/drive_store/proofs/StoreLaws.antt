-- How a store goes from one drive to the next, and what a crash leaves meanwhile.
use Rattle.std.proofs.Common.{◌≡◌, ◌⊎◌, ◌<◌, ◌≤◌, ◌^◌, inl, inr, ⊎_elim, ℕ, List, [], ◌∷◌, ◌++◌, Bool, Option, Some, sym, ◌∙◌, ap, subst, arith}
use Rattle.osd_disk.specs.Crashes.{LeavesOnly}
use Rattle.gate_log.specs.declared.log.GateLog.{GateLog}
use Rattle.gate_log.specs.Logs.{IsLog}
use Rattle.gate_log.specs.Standing.{IsAtRest}
use Rattle.osd_drive.specs.declared.limits.TheConstants.{FIRST_FORMAT}
use Rattle.osd_drive.specs.State.{DriveState}
use Rattle.drive_store.specs.Records.{replayed}
use Rattle.drive_store.specs.Stores.{IsStep, KeepsDrive, LeadTo, StandForEither, emptied, header_for}
use Rattle.drive_store.proofs.RecordLaws.{has_format, replayed-then}

-- drives that were made alike have the same header
pub one_header : (d e : DriveState) → emptied e ≡ emptied d → header_for e ≡ header_for d
one_header d e same = ap (λ (x : DriveState). header_for x) same

-- more records, which lead on
pub lead_all : (records more : List (List ℕ)) (d e : DriveState) → LeadTo records d → replayed (Some d) more ≡ Some e →
    emptied e ≡ emptied d → LeadTo (records ++ more) e
lead_all records more d e l leads same = record {
  number_fits = subst (λ (x : DriveState). x.number < 2 ^ 32) (sym same) l.number_fits;
  capacity_fits = subst (λ (x : DriveState). x.store.capacity < 2 ^ 64) (sym same) l.capacity_fits;
  drive = ap (λ (x : DriveState). replayed (Some x) (records ++ more)) same
      ∙ replayed-then (Some (emptied d)) records more
      ∙ ap (λ (o : Option DriveState). replayed o more) l.drive ∙ leads;
}

-- a log without these records or with all of them stands for the drive before them or after them
pub with_or_without_all : (records more : List (List ℕ)) (d e : DriveState) → LeadTo records d → replayed (Some d) more ≡ Some e →
    emptied e ≡ emptied d
    → (c : List ℕ) → IsLog (header_for d) records c ⊎ IsLog (header_for d) (records ++ more) c → StandForEither d e c
with_or_without_all records more d e l leads same c (inl log) = inl (record { records = records; log = log; lead = l })
with_or_without_all records more d e l leads same c (inr log) = inr (record {
  records = records ++ more;
  log = subst (λ (h : List ℕ). IsLog h (records ++ more) c) (sym (one_header d e same)) log;
  lead = lead_all records more d e l leads same;
})

-- and so with one record
pub with_or_without : (records : List (List ℕ)) (d e : DriveState) (bytes : List ℕ) → LeadTo records d → IsStep d bytes e
    → (c : List ℕ) → IsLog (header_for d) records c ⊎ IsLog (header_for d) (records ++ bytes ∷ []) c → StandForEither d e c
with_or_without records d e bytes l s = with_or_without_all records (bytes ∷ []) d e l s.leads s.same

module _ {D : Type 0} (tells : D → Bool) (seen : D → List ℕ) (may_leave : D → List ℕ → Type 0) (moment : D → ℕ)
    (left_since : D → ℕ → List ℕ → Type 0) where
  -- what has P has Q
  pub weaker : (old new : D) (P Q : List ℕ → Type 0) → LeavesOnly moment left_since old new P → ((c : List ℕ) → P c → Q c) →
      LeavesOnly moment left_since old new Q
  weaker old new P Q leaves so = record {
    later = leaves.later;
    each = λ c left. so c (leaves.each c left);
    before = λ t c le left. ⊎_elim inl (λ has. inr (so c has)) (leaves.before t c le left);
  }

  -- for a drive that is the same
  pub either_so : (old new : D) (d e f : DriveState) → f ≡ e → LeavesOnly moment left_since old new (StandForEither d e) →
      LeavesOnly moment left_since old new (StandForEither d f)
  either_so old new d e f same leaves =
      subst (λ (x : DriveState). LeavesOnly moment left_since old new (StandForEither d x)) (sym same) leaves

  -- a disk at rest, whose last records lead to this drive
  pub kept_all : (records more : List (List ℕ)) (d e : DriveState) (log : GateLog D) → LeadTo records d →
      replayed (Some d) more ≡ Some e → emptied e ≡ emptied d
      → IsAtRest tells seen may_leave (header_for d) (records ++ more) log → KeepsDrive tells seen may_leave e log
  kept_all records more d e log l leads same rest = record {
    records = records ++ more;
    rest = subst (λ (h : List ℕ). IsAtRest tells seen may_leave h (records ++ more) log) (sym (one_header d e same)) rest;
    lead = lead_all records more d e l leads same;
  }

  pub kept_more : (records : List (List ℕ)) (d e : DriveState) (bytes : List ℕ) (log : GateLog D) → LeadTo records d →
      IsStep d bytes e
      → IsAtRest tells seen may_leave (header_for d) (records ++ bytes ∷ []) log → KeepsDrive tells seen may_leave e log
  kept_more records d e bytes log l s rest = kept_all records (bytes ∷ []) d e log l s.leads s.same rest

  -- where the drive stays
  pub kept_so : (d e : DriveState) (log : GateLog D) → e ≡ d → KeepsDrive tells seen may_leave d log →
      KeepsDrive tells seen may_leave e log
  kept_so d e log same k = subst (λ (x : DriveState). KeepsDrive tells seen may_leave x log) (sym same) k

  -- a drive that is kept takes the first format or a later one
  pub kept_format : (d : DriveState) (log : GateLog D) → KeepsDrive tells seen may_leave d log → FIRST_FORMAT ≤ d.least
  kept_format d log k = has_format k.records (emptied d) d (omega arith) k.lead.drive
