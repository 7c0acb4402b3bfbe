-- The machine acknowledges the write that a client reports, and it is the only unfinished one under the grant that it returns.
-- Towards `CutsShowEntries` (`specs/Parts.antt`).
use Rattle.std.proofs.Common.{◌≡◌, ◌<◌, ◌≤◌, ℕ, true, false, List, Some, None, sym, ap, ◌∙◌, inl, inr, arith}
use Rattle.std.proofs.lemmas.Bool.{cases_Bool, cases_eq, cases_lt}
use Rattle.fence_law.specs.Log.{IsPassed}
use Rattle.fence_law.specs.Machine.{after, after_all}
use Rattle.fence_law.specs.State.{State, Event, Grant, Start}
use Rattle.fence_law.specs.State.Call.{Writes}
use Rattle.fence_law.specs.State.Event.{Acknowledges}
use Rattle.fence_law.proofs.Open.{Open}
use Rattle.fence_law.proofs.Safe.{Safe}
use Rattle.fence_law.proofs.Words.{updated_other, updated_at}
use Rattle.relation_law.specs.Frames.{AreAll}
use Rattle.headline_law.proofs.EntriesPairs.{IsSilent, EntriesStay, silent_stay}
use Rattle.headline_law.proofs.EntriesServerTaken.{TakesUnder}

-- ---- which write is unfinished

module _ (u : State) (safe : Safe u) (c j : ℕ) (x : Grant) (held : u.held c ≡ Some x) (runs : u.call c ≡ Writes j)
    (out : u.outstanding c ≡ None → ⊥) where
  -- the grant that is held is outstanding
  live : (x.tag ≡ u.tag) × (u.outstanding c ≡ Some x)
  live = elim (safe.holds.has c x held).1 [ inl now ↦ now | inr older ↦ absurd (out older.1) ]

  alive_of : (i : ℕ) → i < u.count → (u.start i).tag ≡ u.tag → (u.start i).alive ≡ true
  alive_of i low tag = elim (cases_Bool (u.start i).alive) [
    | inl yes_ ↦ yes_
    | inr no_ ↦ let l : (u.start i).tag < u.tag = (safe.dead i low no_).0 in absurd (omega (arith, l, tag))
  ]

  -- The write that the client is at has the tag of the machine, and the grant that is held.
  pub at_tag : (u.start j).tag ≡ u.tag
  at_tag =
      let r = safe.calls.writes c j runs in
      let same : r.under.0 ≡ x = cc (sym r.under.1 ∙ held) in
      sym r.under.2 ∙ ap (λ (y : Grant). y.tag) same ∙ live.0

  pub at_grant : (u.start j).grant ≡ x.number
  at_grant =
      let r = safe.calls.writes c j runs in
      let w = safe.running.writes c j runs in
      let open_ : Open u j = (r.below, w.0, alive_of j r.below at_tag, w.1, at_tag) in
      let g = safe.open_granted j open_ in
      let same : g.0 ≡ x = cc (sym (sym (ap u.outstanding r.by) ∙ g.1) ∙ live.1) in
      sym g.2 ∙ ap (λ (y : Grant). y.number) same

  -- Each further unfinished write of the machine's tag is the same, if no other client's grant is outstanding.
  pub only_write : ((d : ℕ) (y : Grant) → u.outstanding d ≡ Some y → d ≡ c) → (i : ℕ) → i < u.count →
      (u.start i).is_write ≡ true → u.acknowledged i ≡ false → (u.start i).tag ≡ u.tag → i ≡ j
  only_write sole i low write none tag =
      let open_ : Open u i = (low, write, alive_of i low tag, none, tag) in
      let g = safe.open_granted i open_ in
      let by : (u.start i).client ≡ c = sole (u.start i).client g.0 g.1 in
      elim (safe.open_at_work i open_) [
        | inl unheld ↦ absurd (cc (sym (ap u.held by ∙ held) ∙ unheld))
        | inr at_ ↦ elim at_ [
          | inl writes ↦ let same : Writes i ≡ Writes j = sym writes ∙ ap u.call by ∙ runs in cc same
          | inr broken ↦ absurd (cc (sym (ap u.call by ∙ runs) ∙ broken))
        ]
      ]

-- ---- it is acknowledged

module _ (s : State) (before after_ : List Event) (quiet : AreAll IsSilent before) (later : AreAll IsSilent after_) (c j n : ℕ)
    (below : j < s.count) (mine : (s.start j).grant ≡ n)
    (only : (i : ℕ) → i < s.count → (s.start i).is_write ≡ true → (s.start i).grant ≡ n → s.acknowledged i ≡ false → i ≡ j) where
  abbrev u : State
  u = after_all s before

  abbrev v : State
  v = after u (Acknowledges c j)

  abbrev t : State
  t = after_all v after_

  first : EntriesStay s u
  first = silent_stay s before quiet

  second : EntriesStay v t
  second = silent_stay v after_ later

  in_u : (i : ℕ) → i < s.count → i < u.count
  in_u i low = let l : s.count ≤ u.count = first.count in omega (arith, low, l)

  acknowledged_beside : (i : ℕ) → i < s.count → (i ≡ j → ⊥) → t.acknowledged i ≡ s.acknowledged i
  acknowledged_beside i low other =
      second.acknowledged i (in_u i low) ∙ updated_other u.acknowledged j true i other ∙ first.acknowledged i low

  acknowledged_here : (i : ℕ) → i < s.count → i ≡ j → t.acknowledged i ≡ true
  acknowledged_here i low same = second.acknowledged i (in_u i low) ∙ updated_at u.acknowledged j true i same

  pub acknowledged_takes : TakesUnder s t n
  acknowledged_takes = record {
    count = let a : s.count ≤ u.count = first.count in let b : u.count ≤ t.count = second.count in omega (arith, a, b);
    start = λ i low. second.start i (in_u i low) ∙ first.start i low;
    told = λ i low. second.told i (in_u i low) ∙ first.told i low;
    answer = λ i low. second.answer i (in_u i low) ∙ first.answer i low;
    under = λ i low write grant. elim (cases_eq i j) [
      | inl same ↦ acknowledged_here i low same
      | inr other ↦ elim (cases_Bool (s.acknowledged i)) [
        | inl yes_ ↦ acknowledged_beside i low other ∙ yes_
        | inr no_ ↦ absurd (other (only i low write grant no_))
      ]
    ];
    beside = λ i low ne.
        acknowledged_beside i low (λ same. ne (ap (λ (a : ℕ). (s.start a).grant) same ∙ mine));
    passed = λ i low high. elim (cases_lt i u.count) [
      | inl old ↦
          let p : IsPassed u i = first.passed i low old in
          record {
            write = ap (λ (e : Start). e.is_write) (second.start i old) ∙ p.write;
            answer = second.answer i old ∙ p.answer;
          }
      | inr new ↦ second.passed i new high
    ];
  }

-- Where its events are silent, a machine takes nothing, if each write under the grant was acknowledged.
pub silent_takes : (s : State) (es : List Event) → AreAll IsSilent es → (n : ℕ) →
    ((i : ℕ) → i < s.count → (s.start i).is_write ≡ true → (s.start i).grant ≡ n → s.acknowledged i ≡ true) →
    TakesUnder s (after_all s es) n
silent_takes s es quiet n all =
    let k : EntriesStay s (after_all s es) = silent_stay s es quiet in
    record {
      count = k.count;
      start = k.start;
      told = k.told;
      answer = k.answer;
      under = λ i low write grant. k.acknowledged i low ∙ all i low write grant;
      beside = λ i low ne. k.acknowledged i low;
      passed = k.passed;
    }
