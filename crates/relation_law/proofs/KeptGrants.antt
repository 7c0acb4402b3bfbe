-- The machine grants what the server gives.
-- Towards `KeptGoesOn` (`specs/Steps.antt`).
use Rattle.std.proofs.Common.{◌≡◌, ◌==◌, ◌||◌, ℕ, ◌+◌, ◌<◌, ◌≤◌, max, Bool, true, false, List, [], ◌∷◌, ◌++◌, Option, Some, None, refl, sym, ap, subst, ◌∙◌, arith, inl, inr, if◌then◌else◌}
use Rattle.std.proofs.lemmas.Bool.{true≢false, cases_Bool, eq-eqb, ne_eqb}
use Rattle.std.proofs.lemmas.Bool.Decides.{nat_tests}
use Rattle.data_map.specs.declared.check.RawMap.{RawMap}
use Rattle.server_rules.specs.Get.{high_after}
use Rattle.server_rules.specs.Grants.{conflicts, grant_of}
use Rattle.server_rules.specs.Laws.{In}
use Rattle.server_rules.proofs.GrantLaws.{nobody, reads_both, none_extends}
use Rattle.world_history.specs.ServerNames.{File, Kept, Grant, Job}
use Rattle.fence_law.specs.State as machine
use Rattle.fence_law.specs.State.{State, Event}
use Rattle.fence_law.specs.State.RequestKind.{Get}
use Rattle.fence_law.specs.State.Event.{Grants}
use Rattle.fence_law.specs.Words.{updated, In as InRun}
use Rattle.fence_law.specs.Starts.{granted}
use Rattle.fence_law.specs.Machine.{Allowed, after}
use Rattle.fence_law.proofs.Words.{updated_read}
use Rattle.fence_law.proofs.Safe.{Safe}
use Rattle.plan_law.specs.FileLayout.{stripe_of_column}
use Rattle.file_simulation.specs.Grants.{GrantIs, covers_column}
use Rattle.file_simulation.specs.Phases.{OutstandingIs, IsStill, PhaseIs, AreBelowHigh}
use Rattle.relation_law.specs.KeptGrants.{CanGrant, with_grant}
use Rattle.relation_law.specs.KeptSteps.{core, IsSoFar, IsKeptAt}
use Rattle.relation_law.proofs.KeptHigh.{high_after as low_behind}
use Rattle.relation_law.proofs.KeptEnds.{found_grant, low_of}

-- ---- what the server finds

-- a grant that the machine has outstanding is one of the server's
held_by : (k : Kept) (d : ℕ) (o : Option Grant) (y : Option machine.Grant) (z : machine.Grant) → grant_of k.grants d ≡ o
    → y ≡ Some z → OutstandingIs k.map k.tag o y → (g : Grant) × In g k.grants × (g.client ≡ d) × GrantIs k.map g z
held_by k d None None z is e h = absurd (cc e)
held_by k d (Some g) None z is e h = absurd h
held_by k d None (Some y) z is e h = absurd h
held_by k d (Some g) (Some y) z is e h =
    let same : y ≡ z = cc e in
    let f = found_grant k.grants d g is in
    (g, f.0, f.1, rw same at h.0)

-- a client without a grant has none outstanding
pub none_by : (k : Kept) (o : Option Grant) (y : Option machine.Grant) → o ≡ None → OutstandingIs k.map k.tag o y → y ≡ None
none_by k None None is h = refl
none_by k None (Some y) is h = absurd h
none_by k (Some g) y is h = absurd (cc is)

-- the stripe of a column that a grant covers
in_range : (m : RawMap) (a b q : ℕ) → covers_column m a b q ≡ true → (a ≤ stripe_of_column m q) × (stripe_of_column m q < b)
in_range m a b q v = (grind (arith, nat_tests, v), grind (arith, nat_tests, v))

either_none : (a b : Bool) → a ≡ false → b ≡ false → (a || b) ≡ false
either_none a b e f = rw (e, f) refl

-- ---- the guard

module _ (next : ℕ) (busy : Bool) (s : State) (k : Kept) (c : ℕ) (x : Grant) (can : CanGrant k next c x)
    (h : IsSoFar next busy s k) where
  still : IsStill s (core k)
  still = subst (PhaseIs s (core k)) can.still h.phase

  no_own : s.outstanding c ≡ None
  no_own = none_by k (grant_of k.grants c) (s.outstanding c) can.own (still.outstanding c)

  -- what is outstanding is another client's, and doesn't conflict
  apart : (d : ℕ) (z : machine.Grant) → s.outstanding d ≡ Some z
      → (g : Grant) × (x.client ≡ g.client → ⊥) × (conflicts x g ≡ false) × GrantIs k.map g z
  apart d z e =
      let r = held_by k d (grant_of k.grants d) (s.outstanding d) z refl e (still.outstanding d) in (
        r.0,
        λ same. absurd (cc (sym no_own ∙ ap s.outstanding (sym can.client ∙ same ∙ r.2) ∙ e)),
        nobody (conflicts x) k.grants r.0 can.clear r.1,
        r.3,
      )

  pub grants_allowed : InRun (record { client = c; sequence = s.slot c + 1; kind = Get x.rw }) s.requests
      → Allowed s (Grants c x.number x.rw (covers_column k.map x.first x.end) x.extending)
  grants_allowed asks = record {
    new = let n = can.number in let l = h.next_is in omega (arith, n, l);
    asks = asks;
    over = still.fencing;
    repaired = still.repairing;
    none = no_own;
    apart = λ d z e q v u.
        let r = apart d z e in
        let a = in_range k.map x.first x.end q v in
        let b = in_range k.map r.0.first r.0.end q (sym (r.3.covers q) ∙ u) in
        let reads = reads_both x r.0 r.1 r.2 (stripe_of_column k.map q) a.0 a.1 b.0 b.1 in
        either_none x.rw z.rw reads.0 (r.3.rw ∙ reads.1);
    apart_ext = λ d z e.
        let r = apart d z e in
        let none = none_extends x r.0 r.1 r.2 in
        either_none x.extending z.extending none.0 (r.3.extending ∙ none.1);
  }

-- ---- behind it

abbrev pub file_with : Kept → (spent : Bool) → Option Job → File
file_with k spent job = record { kept = k; spent = spent; job = job }

pub same_file : (g : File) (k : Kept) → g.kept ≡ k → g.job ≡ None
    → file_with k g.spent None ≡ file_with g.kept g.spent g.job
same_file g k is idle = cc (sym is, sym idle)

pub found_new : (gs : List Grant) (x : Grant) (c : ℕ) → x.client ≡ c → grant_of gs c ≡ None → grant_of (gs ++ (x ∷ [])) c ≡ Some x
found_new [] x c is none = rw (eq-eqb x.client c is) refl
found_new (g ∷ gs) x c is none = elim (cases_Bool (g.client == c)) [
  | inl t ↦ absurd (cc (rw t at none))
  | inr z ↦ rw z (found_new gs x c is (rw z at none))
]

found_old : (gs : List Grant) (x : Grant) (d : ℕ) → (x.client ≡ d → ⊥) → grant_of (gs ++ (x ∷ [])) d ≡ grant_of gs d
found_old [] x d ne = rw (ne_eqb x.client d ne) refl
found_old (g ∷ gs) x d ne = elim (cases_Bool (g.client == d)) [
  | inl t ↦ rw t refl
  | inr z ↦ rw z (found_old gs x d ne)
]

below_high : (high : ℕ) (x : Grant) → (high ≤ high_after high x) × (x.rw ≡ true → x.end ≤ high_after high x)
below_high high x = by x.rw
  where
    by : (b : Bool) → (high ≤ (if b then max high x.end else high)) × (b ≡ true → x.end ≤ (if b then max high x.end else high))
    by true = (grind (arith, nat_tests), λ e. grind (arith, nat_tests))
    by false = (omega arith, λ e. absurd (true≢false (sym e)))

module _ (next : ℕ) (busy : Bool) (s : State) (k : Kept) (c : ℕ) (x : Grant) (can : CanGrant k next c x)
    (h : IsSoFar next busy s k) where
  abbrev given : Event
  given = Grants c x.number x.rw (covers_column k.map x.first x.end) x.extending

  pub grants_kept : Allowed s given → Safe s → (g : File) → g.kept ≡ with_grant k x → g.job ≡ None
      → IsKeptAt (next + 1) (after s given) g
  grants_kept a safe g is idle =
      let st : IsStill s (core k) = subst (PhaseIs s (core k)) can.still h.phase in
      let new : machine.Grant = granted s c x.number x.rw (covers_column k.map x.first x.end) x.extending in
      let outstanding : (d : ℕ)
      → OutstandingIs k.map k.tag (grant_of (k.grants ++ (x ∷ [])) d) (updated s.outstanding c (Some new) d) =
      λ d. elim (updated_read s.outstanding c (Some new) d).1 [
        | inl w ↦
            rw (w.1, found_new k.grants x d (can.client ∙ sym w.0) (ap (grant_of k.grants) w.0 ∙ can.own))
            (record { number = refl; rw = refl; extending = refl; covers = λ q. refl }, h.tag)
        | inr w ↦
            rw (w.1, found_old k.grants x d (λ e. w.0 (sym e ∙ can.client))) (st.outstanding d)
      ] in
      let b = below_high k.high x in
      let wide : AreBelowHigh s (core (with_grant k x)) =
      low_of s (core k) (core (with_grant k x)) refl b.0 (λ m y i. i) h.low in
      let low : AreBelowHigh (after s given) (core (with_grant k x)) =
      low_behind (core (with_grant k x)) s given a
      (λ r q v. let l = (in_range k.map x.first x.end q v).1 in let e = b.1 r in omega (arith, l, e)) safe wide in
      let f : File = record { kept = with_grant k x; spent = g.spent; job = None } in
      let all : IsKeptAt (next + 1) (after s given) f = record {
        tag = h.tag;
        size = h.size;
        phase = subst (PhaseIs (after s given) f) (sym can.still) (record {
          fencing = st.fencing;
          repairing = st.repairing;
          outstanding = outstanding;
          ended = st.ended;
          unused = λ u. absurd (u refl);
        });
        next_is = let n = can.number in omega (arith, n);
        unready = λ r. absurd (true≢false (sym can.ready ∙ r));
        low = low_of (after s given) (core (with_grant k x)) f refl (omega arith) (λ m y i. i) low;
      } in
      subst (IsKeptAt (next + 1) (after s given)) (same_file g (with_grant k x) is idle) all
