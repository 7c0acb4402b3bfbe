-- A scatter begins: its start can happen, and its plan is that of the entry that starts.
-- Towards `EventsAreLawful` (`specs/Steps.antt`).
use Rattle.std.proofs.Common.{◌≡◌, ℕ, ◌+◌, ◌-◌, ◌<◌, ◌≤◌, ◌==◌, Bool, true, false, List, [], ◌∷◌, ◌++◌, length, refl, sym, ap, ◌∙◌, inl, inr, ◌⊎◌, arith, ne_eqb, eqb-true}
use Rattle.std.specs.Prelude.{Option, Some, None, map, is_none, is_some, slice_get, zero, suc}
use Rattle.std.proofs.lemmas.Bool.{cases_Bool, cases_eq}
use Rattle.data_map.specs.declared.check.RawMap.{RawMap}
use Rattle.file_log.specs.Judge.{byte_for}
use Rattle.stripe_plan.specs.declared.plan.Column.{Column}
use Rattle.stripe_plan.specs.Lost.{among}
use Rattle.server_rules.specs.Laws.{In}
use Rattle.client_rules.specs.Calls.{span_of, bytes_of}
use Rattle.client_rules.specs.Grants.{is_for, missing_from, missing_of}
use Rattle.client_rules.specs.Io.{outs}
use Rattle.world_history.specs.ClientNames.{CallOp, Held, Listed, TimedOut, Store}
use Rattle.fence_law.specs.State.{State, Event, Grant}
use Rattle.fence_law.specs.State.Event.{StartsWrite}
use Rattle.fence_law.specs.Machine.{Allowed}
use Rattle.fence_law.specs.Law.{byte_before, IsWholeAt}
use Rattle.plan_law.specs.FileLayout.{layout_of}
use Rattle.plan_law.specs.Writes.{touches_column, touches_cell, hits_cell, part_of, IsCarried}
use Rattle.plan_law.proofs.Stores.{stores_are_right}
use Rattle.file_simulation.specs.Grants.{LayoutIs}
use Rattle.file_simulation.specs.Calls.{IsHolding, IsQueued, IsTimedOut}
use Rattle.relation_law.proofs.CallsSends.{IsPlanned}
use Rattle.relation_law.proofs.MessagesStarts.{WritesBytes, HasGathered, write_may_start}
use Rattle.relation_law.proofs.MessagesApart.{stores_differ}
use Rattle.relation_law.proofs.MessagesContent.{start_of, stores_of, store_right, stores_carry, some_hit, hit_means}

-- ---- components that are out

either_part : (k : ℕ) (xs ys : List ℕ) → among k (xs ++ ys) ≡ true → (among k xs ≡ true) ⊎ (among k ys ≡ true)
either_part k [] ys e = inr e
either_part k (x ∷ xs) ys e = elim (cases_Bool (x == k)) [
  | inl t ↦ inl (rw t refl)
  | inr f ↦ elim (either_part k xs ys (rw f at e)) [ inl a ↦ inl (rw f a) | inr b ↦ inr b ]
]

timed_means : (k : ℕ) (ts : List TimedOut) → among k (map (λ (t : TimedOut). t.ask.component) ts) ≡ true → IsTimedOut ts k
timed_means k [] e = absurd (cc e)
timed_means k (t ∷ ts) e = elim (cases_Bool (t.ask.component == k)) [
  | inl same ↦ (t, inl refl, eqb-true t.ask.component k same)
  | inr other ↦ let r = timed_means k ts (rw other at e) in (r.0, inr r.1, r.2)
]

-- a component that is listed as missing has no credential
missing_means : (ls : List Listed) (i k : ℕ) → among k (missing_from ls i) ≡ true →
    (d : ℕ) × (l : Listed) × (k ≡ i + d) × (slice_get ls d ≡ Some l) × (is_none l.credential ≡ true)
unfolding missing_from
missing_means [] i k e = absurd (cc e)
missing_means (l ∷ ls) i k e = elim (cases_Bool (is_some l.credential)) [
  | inl has ↦ let r = missing_means ls (i + 1) k (rw has at e) in (suc r.0, r.1, omega (arith, r.2), r.3, r.4)
  | inr none ↦ elim (cases_eq i k) [
    | inl same ↦ (zero, l, omega (arith, same), refl, gone l.credential none)
    | inr other ↦
        let behind : among k (missing_from ls (i + 1)) ≡ true = rw (ne_eqb i k other) at (rw none at e) in
        let r = missing_means ls (i + 1) k behind in (suc r.0, r.1, omega (arith, r.2), r.3, r.4)
  ]
]
  where
    gone : {A : Type 0} (o : Option A) → is_some o ≡ false → is_none o ≡ true
    gone None f = refl
    gone (Some a) f = absurd (cc f)

-- what is out for a call is left out by its grant, or timed out
pub out_means : (m : RawMap) (x : Grant) (h : Held) (timed : List TimedOut) (k : ℕ) → LayoutIs m x h →
    among k (outs h timed) ≡ true →
    (x.left k ≡ true) ⊎ IsTimedOut timed k
unfolding outs
out_means m x h timed k same e = elim (either_part k (missing_of h) (map (λ (t : TimedOut). t.ask.component) timed) e) [
  | inl gone ↦
      let r = missing_means h.components 0 k gone in
      let at : r.0 ≡ k = omega (arith, r.2) in
      inl (ap x.left (sym at) ∙ same.left r.0 r.1 r.3 ∙ r.4)
  | inr late ↦ inr (timed_means k timed late)
]

carried_means : (ws : List Store) (k z : ℕ) → IsCarried ws k z →
    (w : Store) × In w ws × (w.ask.component ≡ k) × (w.ask.offset ≤ z) × (z < w.ask.offset + length w.bytes)
carried_means [] k z c = absurd c
carried_means (w ∷ ws) k z (inl e) = (w, inl refl, e.0, e.1, e.2)
carried_means (w ∷ ws) k z (inr c) = let r = carried_means ws k z c in (r.0, inr r.1, r.2, r.3, r.4)

-- ---- a scatter that begins

-- what holds where a client's scatter begins, behind gather j
pub record Begins (m : RawMap) (tag : ℕ) (s : State) (c : ℕ) (h : Held) (op : CallOp) (got : List Column)
    (timed : List TimedOut) (j : ℕ) : Type 0
  where
    pub layout : s.layout ≡ layout_of m tag
    pub holding : IsHolding m s c h
    pub long : length h.components ≡ m.comps
    pub covers : is_for h.reach h.size op ≡ true
    pub bytes : WritesBytes op
    pub gathered : HasGathered m s c h op got timed j
    pub whole : IsWholeAt s

-- the start of its write
abbrev pub write_starts : (s : State) → (c : ℕ) → (h : Held) → CallOp → (left : ℕ → Bool) → Grant → (j : ℕ) → Event
write_starts s c h op left g j =
    StartsWrite c g j (byte_for (span_of op).offset (bytes_of op)) (touches_column h.map (span_of op))
    (hits_cell h.map (span_of op) left) (byte_before s j) ((span_of op).offset + (span_of op).length) (part_of h.map (span_of op))

module _ (m : RawMap) (tag : ℕ) (s : State) (c : ℕ) (h : Held) (op : CallOp) (got : List Column) (timed : List TimedOut) (j : ℕ)
    (b : Begins m tag s c h op got timed j) where
  pub start_allowed : Allowed s (write_starts s c h op b.holding.grant.left b.holding.grant j)
  start_allowed = write_may_start m tag s c h op got timed j b.layout b.holding b.long b.covers b.bytes b.gathered b.whole

  here : (k z : ℕ) → k < h.map.comps → among k (outs h timed) ≡ false → touches_cell h.map (span_of op) k z ≡ true →
      (w : Store) × In w (stores_of h op got timed) × (w.ask.component ≡ k) × (w.ask.offset ≤ z)
      × (z < w.ask.offset + length w.bytes)
  unfolding outs
  here k z low there e =
      let map : h.map ≡ m = b.holding.same.agrees.map in
      carried_means (stores_of h op got timed) k z
      (rw map
      ((stores_are_right m (span_of op) (bytes_of op) got (outs h timed) b.gathered.may).1 k z (rw map at low) there
      (rw map at e)))

  -- a cell of the content is in a Store, or its component timed out
  each_cell : (k z v : ℕ) → (start_of m s c h b.holding op j).content k z ≡ Some v →
      IsQueued (stores_of h op got timed) k (part_of h.map (span_of op) k z) ⊎ IsTimedOut timed k
  each_cell k z v e =
      let map : h.map ≡ m = b.holding.same.agrees.map in
      let hit = hit_means h.map op b.holding.grant.left k z (some_hit _ _ v e) in
      elim (cases_Bool (among k (outs h timed))) [
        | inl out ↦ elim (out_means m b.holding.grant h timed k b.holding.same out) [
          | inl left ↦ absurd (cc (sym left ∙ hit.1))
          | inr late ↦ inr late
        ]
        | inr there ↦
            let w = here k z hit.0 there hit.2 in
            let right = store_right m s c h op got timed j map b.gathered w.0 w.1 in
            let at : w.0.ask.offset + (z - w.0.ask.offset) ≡ z = omega (arith, w.3) in
            let part : part_of h.map (span_of op) k z ≡ w.0.ask.offset =
            ap (λ (n : RawMap). part_of n (span_of op) k z) map
            ∙ ap (λ (y : ℕ). part_of m (span_of op) y z) (sym w.2) ∙ ap (part_of m (span_of op) w.0.ask.component) (sym at)
            ∙ right.part (z - w.0.ask.offset) (omega (arith, w.3, w.4)) in
            inl (w.0, w.1, w.2, sym part)
      ]

  -- the plan is that of the entry
  pub plan_is : IsPlanned (start_of m s c h b.holding op j) timed (stores_of h op got timed)
  plan_is = record {
    listed = λ k z v e. (hit_means h.map op b.holding.grant.left k z (some_hit _ _ v e)).1;
    covered = each_cell;
    content = λ w i. stores_carry m tag s c h op got timed j b.layout b.holding b.long b.bytes b.gathered b.whole w i;
    differ =
        stores_differ h.map (span_of op) (bytes_of op) got (outs h timed) (rw (b.holding.same.agrees.map) b.gathered.may.checked)
        b.bytes.some;
  }
