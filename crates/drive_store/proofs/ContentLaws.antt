-- Contents stand for one drive at most.
use Rattle.std.proofs.Common.{◌≡◌, inl, inr, ℕ, ◌<◌, ◌^◌, List, [], ◌∷◌, ◌++◌, Option, Some, None, sym, ◌∙◌, ap, arith}
use Rattle.std.specs.Prelude.{slice_range}
use Rattle.std.specs.Int.{w64, from_be_bytes}
use Rattle.gate_log.proofs.OneLog.{broken_is_none, front_begins, one_log}
use Rattle.osd_drive.specs.declared.keys.DriveKey.{DriveKey}
use Rattle.osd_drive.specs.State.{DriveState, new_drive}
use Rattle.drive_store.specs.Opening.{HasNoChange, HasOtherHeader, IsNoStoreAt}
use Rattle.drive_store.specs.Records.{after_record_of, replayed}
use Rattle.drive_store.specs.Stores.{IsStoreOf, emptied, header_for}
use Rattle.drive_store.proofs.HeaderLaws.{capacity_in, number_in}
use Rattle.drive_store.proofs.RecordLaws.{replayed-more, replayed-none, replayed-then}

-- drives with the same keys and the same header were made alike
made_alike : (d e : DriveState) → d.number < 2 ^ 32 → e.number < 2 ^ 32 → d.store.capacity < 2 ^ 64 → e.store.capacity < 2 ^ 64 →
    d.keys ≡ e.keys → header_for d ≡ header_for e → emptied d ≡ emptied e
made_alike d e low below fits holds keys header =
    let number : d.number ≡ e.number =
    sym (number_in d.number d.store.capacity (omega (arith, low)))
    ∙ ap (λ (l : List ℕ). from_be_bytes w64 (slice_range l 8 16)) header
    ∙ number_in e.number e.store.capacity (omega (arith, below)) in
    let capacity : d.store.capacity ≡ e.store.capacity =
    sym (capacity_in d.number d.store.capacity fits) ∙ ap (λ (l : List ℕ). from_be_bytes w64 (slice_range l 16 24)) header
    ∙ capacity_in e.number e.store.capacity holds in
    ap (λ (n : ℕ). new_drive n d.keys d.store.capacity) number
    ∙ ap (λ (k : List DriveKey). new_drive e.number k d.store.capacity) keys
    ∙ ap (λ (n : ℕ). new_drive e.number e.keys n) capacity

same_drive : (d e : DriveState) → Some d ≡ Some e → d ≡ e
same_drive d e is = cc is

pub one_drive : (d e : DriveState) (c : List ℕ) → IsStoreOf d c → IsStoreOf e c → d.keys ≡ e.keys → d ≡ e
one_drive d e c is also keys =
    let logs = one_log (header_for d) is.records (header_for e) also.records c is.log also.log in
    let made = made_alike d e is.lead.number_fits also.lead.number_fits is.lead.capacity_fits also.lead.capacity_fits keys
    logs.0 in
    same_drive d e (sym is.lead.drive
    ∙ ap (λ (x : DriveState). replayed (Some x) is.records) made
    ∙ ap (λ (records : List (List ℕ)). replayed (Some (emptied e)) records) logs.1
    ∙ also.lead.drive)

no_other_header : (c : List ℕ) (at : ℕ) (d : DriveState) → HasOtherHeader c at → IsStoreOf d c → ⊥
no_other_header c at d o is =
    let begins =
    front_begins o.header [] o.stands.front o.stands.gate o.stands.rest
    (header_for d) is.records c o.stands.is_front o.stands.contents is.log in
    o.other d.number d.store.capacity is.lead.number_fits is.lead.capacity_fits begins.0

some_none : (d : DriveState) → Some d ≡ None → ⊥
some_none d is = cc is

no_change_there : (keys : List DriveKey) (c : List ℕ) (at : ℕ) (d : DriveState) → HasNoChange keys c at → IsStoreOf d c →
    d.keys ≡ keys → ⊥
no_change_there keys c at d n is same =
    let begins =
    front_begins (header_for n.drive) (n.records ++ n.bytes ∷ []) n.behind.front n.behind.gate n.behind.rest
    (header_for d) is.records c n.behind.is_front n.behind.contents is.log in
    let made = made_alike n.drive d n.lead.number_fits is.lead.number_fits n.lead.capacity_fits is.lead.capacity_fits
    (n.same ∙ sym same) begins.0 in
    some_none d (sym is.lead.drive
    ∙ ap (λ (records : List (List ℕ)). replayed (Some (emptied d)) records) begins.1.1
    ∙ replayed-then (Some (emptied d)) (n.records ++ n.bytes ∷ []) begins.1.0
    ∙ ap (λ (x : DriveState). replayed (replayed (Some x) (n.records ++ n.bytes ∷ [])) begins.1.0) (sym made)
    ∙ ap (λ (o : Option DriveState). replayed o begins.1.0)
    (replayed-more (Some (emptied n.drive)) n.records n.bytes
    ∙ ap (λ (o : Option DriveState). after_record_of o n.bytes) n.lead.drive ∙ n.none)
    ∙ replayed-none begins.1.0)

pub refused_is_none : (keys : List DriveKey) (c : List ℕ) (at : ℕ) → IsNoStoreAt keys c at → (d : DriveState) → IsStoreOf d c →
    d.keys ≡ keys → ⊥
refused_is_none keys c at (inl broken) d is same = broken_is_none (header_for d) is.records c at broken is.log
refused_is_none keys c at (inr (inl other)) d is same = no_other_header c at d other is
refused_is_none keys c at (inr (inr none)) d is same = no_change_there keys c at d none is same
