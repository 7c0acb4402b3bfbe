-- Pairs of entries of a log and of a machine: what events and lines leave of them, and make of them.
-- Towards `CutsShowEntries` (`specs/Parts.antt`).
use Rattle.std.proofs.Common.{◌≡◌, ◌⊎◌, ℕ, ◌+◌, ◌<◌, ◌≤◌, Bool, false, not, List, [], ◌∷◌, ◌++◌, length, slice_get, Option, Some, None, refl, sym, ap, subst, ◌∙◌, inl, inr, arith}
use Rattle.std.proofs.lemmas.Bool.{cases_eq, cases_lt}
use Rattle.std.proofs.lemmas.Option.{slice_get_within}
use Rattle.osd_lists.proofs.Slices.{get_last, get_more}
use Rattle.component_law.proofs.Lists.{get_either}
use Rattle.server_rules.specs.Laws.{In}
use Rattle.server_rules.proofs.Members.{in_front, in_behind, in_either}
use Rattle.file_log.specs.declared.entry.Entry.{Entry}
use Rattle.world_history.specs.ReadLog.{Logged}
use Rattle.fence_law.specs.State.{State, Event, Start}
use Rattle.fence_law.specs.State.Event.{StartsWrite, StartsRead, Acknowledges, Answers, Tells, Repairs, Rebuilds}
use Rattle.fence_law.specs.Log.{IsEntry, IsPassed}
use Rattle.fence_law.specs.Machine.{after, after_all}
use Rattle.fence_law.proofs.Words.{updated_other, updated_same}
use Rattle.file_simulation.specs.Showing.{Pairs, IsPair, IsSame, ArePaired}
use Rattle.relation_law.specs.Frames.{AreAll}
use Rattle.relation_law.proofs.FramesStay.{related_by_all}
use Rattle.file_simulation.specs.Tied.{IsSingle}

-- ---- entries that stay

-- Each entry of the machine stays as it is, and the log passes over each further one.
abbrev pub EntriesStay : (s t : State) → Type 0
EntriesStay s t = record {
  count : s.count ≤ t.count;
  start : (j : ℕ) → j < s.count → t.start j ≡ s.start j;
  told : (j : ℕ) → j < s.count → t.told_client j ≡ s.told_client j;
  answer : (j : ℕ) → j < s.count → t.answer j ≡ s.answer j;
  acknowledged : (j : ℕ) → j < s.count → t.acknowledged j ≡ s.acknowledged j;
  passed : (j : ℕ) → s.count ≤ j → j < t.count → IsPassed t j;
}

pub stay_same : (s : State) → EntriesStay s s
stay_same s = record {
  count = omega arith;
  start = λ j l. refl;
  told = λ j l. refl;
  answer = λ j l. refl;
  acknowledged = λ j l. refl;
  passed = λ j l u. absurd (omega (arith, l, u));
}

-- what the log passes over it passes over still
pub passed_stays : (s t : State) (j : ℕ) → j < s.count → EntriesStay s t → IsPassed s j → IsPassed t j
passed_stays s t j l k p = record {
  write = ap (λ (e : Start). e.is_write) (k.start j l) ∙ p.write;
  answer = k.answer j l ∙ p.answer;
}

pub stay_more : (s t u : State) → EntriesStay s t → EntriesStay t u → EntriesStay s u
stay_more s t u a b = record {
  count = omega (arith, a.count, b.count);
  start = λ j l. b.start j (omega (arith, l, a.count)) ∙ a.start j l;
  told = λ j l. b.told j (omega (arith, l, a.count)) ∙ a.told j l;
  answer = λ j l. b.answer j (omega (arith, l, a.count)) ∙ a.answer j l;
  acknowledged = λ j l. b.acknowledged j (omega (arith, l, a.count)) ∙ a.acknowledged j l;
  passed = λ j l v. elim (cases_lt j t.count) [
    | inl low ↦ passed_stays t u j low b (a.passed j l low)
    | inr high ↦ b.passed j high v
  ];
}

-- an event that neither begins, answers nor acknowledges an entry of the log
abbrev pub IsSilent : Event → Type 0
IsSilent (StartsWrite c g i bytes touch hit seen past part) = ⊥
IsSilent (Acknowledges c j) = ⊥
IsSilent (Answers c j bytes) = ⊥
IsSilent (Tells j) = ⊥
IsSilent e = Unit {0}

-- one entry more
below_count : (s : State) (j : ℕ) → j < s.count → j ≡ s.count → ⊥
below_count s j l e = absurd (omega (arith, l, e))

last_only : (n j : ℕ) → n ≤ j → j < n + 1 → n ≡ j
last_only n j l u = omega (arith, l, u)

abbrev AddsPassed : State → Start → State → Type 0
AddsPassed s x t = record {
  count : t.count ≡ s.count + 1;
  start : (j : ℕ) → j < s.count → t.start j ≡ s.start j;
  told : (j : ℕ) → t.told_client j ≡ s.told_client j;
  answer : (j : ℕ) → j < s.count → t.answer j ≡ s.answer j;
  acknowledged : (j : ℕ) → j < s.count → t.acknowledged j ≡ s.acknowledged j;
  last : t.start s.count ≡ x;
  none : t.answer s.count ≡ None;
}

adds : (s : State) (x : Start) (t : State) → x.is_write ≡ false → AddsPassed s x t → EntriesStay s t
adds s x t read a = record {
  count = let c : t.count ≡ s.count + 1 = a.count in omega (arith, c);
  start = a.start;
  told = λ j l. a.told j;
  answer = a.answer;
  acknowledged = a.acknowledged;
  passed = λ j l u.
      let c : t.count ≡ s.count + 1 = a.count in
      let high : j < s.count + 1 = omega (arith, u, c) in
      subst (IsPassed t) (last_only s.count j l high)
      (record { write = ap (λ (e : Start). e.is_write) a.last ∙ read; answer = a.none });
}

stays_one : (s : State) (e : Event) → IsSilent e → EntriesStay s (after s e)
stays_one s (StartsRead c g lo hi reach) k = adds s _ (after s (StartsRead c g lo hi reach)) refl (record {
  count = refl;
  start = λ j l. updated_other s.start s.count _ j (below_count s j l);
  told = λ j. refl;
  answer = λ j l. updated_other s.answer s.count None j (below_count s j l);
  acknowledged = λ j l. updated_other s.acknowledged s.count false j (below_count s j l);
  last = updated_same s.start s.count _;
  none = updated_same s.answer s.count None;
})
stays_one s (Repairs n cells e) k = adds s _ (after s (Repairs n cells e)) refl (record {
  count = refl;
  start = λ j l. updated_other s.start s.count _ j (below_count s j l);
  told = λ j. refl;
  answer = λ j l. updated_other s.answer s.count None j (below_count s j l);
  acknowledged = λ j l. updated_other s.acknowledged s.count false j (below_count s j l);
  last = updated_same s.start s.count _;
  none = updated_same s.answer s.count None;
})
stays_one s (Rebuilds n cells) k = adds s _ (after s (Rebuilds n cells)) refl (record {
  count = refl;
  start = λ j l. updated_other s.start s.count _ j (below_count s j l);
  told = λ j. refl;
  answer = λ j l. updated_other s.answer s.count None j (below_count s j l);
  acknowledged = λ j l. updated_other s.acknowledged s.count false j (below_count s j l);
  last = updated_same s.start s.count _;
  none = updated_same s.answer s.count None;
})
stays_one s (StartsWrite c g i bytes touch hit seen past part) k = absurd k
stays_one s (Acknowledges c j) k = absurd k
stays_one s (Answers c j bytes) k = absurd k
stays_one s (Tells j) k = absurd k
stays_one s e k = stay_same s

-- such events leave each entry
pub silent_stay : (s : State) (es : List Event) → AreAll IsSilent es → EntriesStay s (after_all s es)
silent_stay s es a = related_by_all IsSilent EntriesStay stay_same stay_more stays_one s es a

-- ---- what an entry says

pub entry_by : (a b : Start) (t u : Bool) (x y : Option (ℕ → ℕ)) (e : Entry) → b ≡ a → u ≡ t → y ≡ x → IsEntry a t x e →
    IsEntry b u y e
entry_by a b t u x y e p q r k =
    subst (λ (z : Option (ℕ → ℕ)). IsEntry b u z e) (sym r)
    (subst (λ (z : Bool). IsEntry b z x e) (sym q) (subst (λ (z : Start). IsEntry z t x e) (sym p) k))

-- entry j is as it was
pub record StaysAt (s t : State) (j : ℕ) : Type 0 where
  pub start : t.start j ≡ s.start j
  pub told : t.told_client j ≡ s.told_client j
  pub answer : t.answer j ≡ s.answer j
  pub acknowledged : t.acknowledged j ≡ s.acknowledged j

pub same_at : (s t : State) (file j : ℕ) (e : Logged) → s.count ≤ t.count → StaysAt s t j → IsSame s file j e →
    IsSame t file j e
same_at s t file j e low k x = record {
  file_is = x.file_is;
  below = let l : j < s.count = x.below in omega (arith, l, low);
  client = ap (λ (z : Start). z.client) k.start ∙ x.client;
  grant = ap (λ (z : Start). z.grant) k.start ∙ x.grant;
  entry = entry_by (s.start j) (t.start j) (s.told_client j) (t.told_client j) (s.answer j) (t.answer j) e.entry
      k.start k.told k.answer x.entry;
  unfinished = λ w.
      x.unfinished (sym (ap (λ (z : Start). z.is_write) k.start) ∙ w) ∙ sym (ap not k.acknowledged);
}

pub same_stays : (s t : State) (file j : ℕ) (e : Logged) → EntriesStay s t → IsSame s file j e → IsSame t file j e
same_stays s t file j e k x =
    same_at s t file j e k.count (record {
      start = k.start j x.below;
      told = k.told j x.below;
      answer = k.answer j x.below;
      acknowledged = k.acknowledged j x.below;
    }) x

-- ---- pairs that stay

-- The machine goes on, and the log keeps the file's entries as they are.
pub paired_stays : (s t : State) (file : ℕ) (es : List Logged) (pairs : Pairs) → EntriesStay s t →
    ArePaired s file es pairs → ArePaired t file es pairs
paired_stays s t file es pairs k p = record {
  same = λ i j n. let x = p.same i j n in (x.0, x.1, same_stays s t file j x.0 k x.2);
  each = p.each;
  rising = p.rising;
  others = λ j l none. elim (cases_lt j s.count) [
    | inl low ↦ passed_stays s t j low k (p.others j low none)
    | inr high ↦ k.passed j high l
  ];
}

-- Lines and events change what entries say, and each pair stays one.
pub record Becomes (s t : State) (file : ℕ) (es fs : List Logged) (pairs : Pairs) : Type 0 where
  pub count : t.count ≡ s.count
  pub same : (i j : ℕ) (e : Logged) → IsPair pairs i j → slice_get es i ≡ Some e → IsSame s file j e →
      (x : Logged) × (slice_get fs i ≡ Some x) × IsSame t file j x
  pub back : (i : ℕ) (x : Logged) → slice_get fs i ≡ Some x → x.file ≡ file →
      (e : Logged) × (slice_get es i ≡ Some e) × (e.file ≡ file)
  pub passed : (j : ℕ) → j < s.count → ((i : ℕ) → IsPair pairs i j → ⊥) → IsPassed s j → IsPassed t j

pub paired_becomes : (s t : State) (file : ℕ) (es fs : List Logged) (pairs : Pairs) → Becomes s t file es fs pairs →
    ArePaired s file es pairs → ArePaired t file fs pairs
paired_becomes s t file es fs pairs b p = record {
  same = λ i j n. let x = p.same i j n in b.same i j x.0 n x.1 x.2;
  each = λ i x e here. let y = b.back i x e here in p.each i y.0 y.1 y.2;
  rising = p.rising;
  others = λ j l none.
      let low : j < s.count = subst (λ (n : ℕ). j < n) b.count l in
      b.passed j low none (p.others j low none);
}

-- the file's entries are the same ones
pub same_entries : (s : State) (file : ℕ) (es fs : List Logged) (pairs : Pairs) →
    ((i : ℕ) (e : Logged) → slice_get es i ≡ Some e → e.file ≡ file → slice_get fs i ≡ Some e) →
    ((i : ℕ) (e : Logged) → slice_get fs i ≡ Some e → e.file ≡ file → slice_get es i ≡ Some e) →
    ArePaired s file es pairs → ArePaired s file fs pairs
same_entries s file es fs pairs there back p =
    paired_becomes s s file es fs pairs (record {
      count = refl;
      same = λ i j e n q x. (e, there i e q x.file_is, x);
      back = λ i e q here. (e, back i e q here, here);
      passed = λ j l none x. x;
    }) p

-- ---- one pair more

-- a pair is one of these, or the new one
pub pair_either : (pairs : Pairs) (a b i j : ℕ) → IsPair (pairs ++ (a, b) ∷ []) i j →
    IsPair pairs i j ⊎ ((i ≡ a) × (j ≡ b))
pair_either pairs a b i j n = elim (in_either {A = ℕ × ℕ} (i, j) pairs ((a, b) ∷ []) n) [
  | inl x ↦ inl x
  | inr x ↦ inr (the_new x)
]
  where
    the_new : In {A = ℕ × ℕ} (i, j) ((a, b) ∷ []) → (i ≡ a) × (j ≡ b)
    the_new (inl e) = (ap (λ (q : ℕ × ℕ). q.0) e, ap (λ (q : ℕ × ℕ). q.1) e)
    the_new (inr x) = absurd x

pub pair_old : (pairs : Pairs) (a b i j : ℕ) → IsPair pairs i j → IsPair (pairs ++ (a, b) ∷ []) i j
pair_old pairs a b i j n = in_front {A = ℕ × ℕ} (i, j) pairs ((a, b) ∷ []) n

pub pair_new : (pairs : Pairs) (a b : ℕ) → IsPair (pairs ++ (a, b) ∷ []) a b
pair_new pairs a b = in_behind {A = ℕ × ℕ} (a, b) pairs ((a, b) ∷ []) (inl refl)

module _ (s t : State) (file : ℕ) (es : List Logged) (pairs : Pairs) (p : ArePaired s file es pairs) where
  -- a pair is of entries that there are
  pub pair_within : (i j : ℕ) → IsPair pairs i j → (i < length es) × (j < s.count)
  pair_within i j n = let x = p.same i j n in (slice_get_within es i x.0 x.1, x.2.below)

  -- The log's last entry is the machine's last, and nothing was in the pairs of either.
  pub one_more : (e : Logged) → EntriesStay s t → (u : State) → t.count < u.count → (last : ℕ) → u.count ≡ last + 1 →
      s.count ≤ last →
      ((j : ℕ) (x : Logged) → j < s.count → IsSame t file j x → IsSame u file j x) →
      ((j : ℕ) → j < last → IsPassed t j → IsPassed u j) → IsSame u file last e →
      t.count ≡ last → ArePaired u file (es ++ e ∷ []) (pairs ++ (length es, last) ∷ [])
  one_more e k u more last count low sames passes new at_ = record {
    same = λ i j n. elim (pair_either pairs (length es) last i j n) [
      | inl old ↦
          let x = p.same i j old in
          (x.0, get_more es (e ∷ []) i x.0 x.1, sames j x.0 x.2.below (same_stays s t file j x.0 k x.2))
      | inr is ↦ (
        e,
        subst (λ (n : ℕ). slice_get (es ++ e ∷ []) n ≡ Some e) (sym is.0) (get_last es e),
        subst (λ (n : ℕ). IsSame u file n e) (sym is.1) new,
      )
    ];
    each = λ i x q here. elim (get_either es e x i q) [
      | inl old ↦ let y = p.each i x old here in (y.0, pair_old pairs (length es) last i y.0 y.1)
      | inr is ↦
          (last, subst (λ (n : ℕ). IsPair (pairs ++ (length es, last) ∷ []) n last) (sym is.0) (pair_new pairs (length es) last))
    ];
    rising = λ i j g h a b less. elim (pair_either pairs (length es) last g h b) [
      | inl old ↦ elim (pair_either pairs (length es) last i j a) [
        | inl older ↦ p.rising i j g h older old less
        | inr is ↦
            let e : i ≡ length es = is.0 in
            let l : g < length es = (pair_within g h old).0 in
            absurd (omega (arith, e, l, less))
      ]
      | inr is ↦ elim (pair_either pairs (length es) last i j a) [
        | inl older ↦
            let l : j < s.count = (pair_within i j older).1 in
            let e : h ≡ last = is.1 in omega (arith, l, e, low)
        | inr both ↦
            let a : i ≡ length es = both.0 in
            let b : g ≡ length es = is.0 in
            absurd (omega (arith, a, b, less))
      ]
    ];
    others = λ j l none. elim (cases_eq j last) [
      | inl is ↦
          absurd (none (length es)
          (subst (λ (n : ℕ). IsPair (pairs ++ (length es, last) ∷ []) (length es) n) (sym is) (pair_new pairs (length es) last)))
      | inr ne ↦
          let below : j < last = omega (arith, l, ne, count) in
          passes j below (elim (cases_lt j s.count) [
            | inl first ↦
                passed_stays s t j first k (p.others j first (λ i n. none i (pair_old pairs (length es) last i j n)))
            | inr high ↦ k.passed j high (omega (arith, below, at_))
          ])
    ];
  }

  -- and still no entry of the log is two of the machine
  pub single_more : (last : ℕ) → IsSingle pairs → IsSingle (pairs ++ (length es, last) ∷ [])
  single_more last single i j k a b = elim (pair_either pairs (length es) last i j a) [
    | inl old ↦ elim (pair_either pairs (length es) last i k b) [
      | inl older ↦ single i j k old older
      | inr is ↦
          let e : i ≡ length es = is.0 in
          let l : i < length es = (pair_within i j old).0 in
          absurd (omega (arith, e, l))
    ]
    | inr is ↦ elim (pair_either pairs (length es) last i k b) [
      | inl older ↦
          let e : i ≡ length es = is.0 in
          let l : i < length es = (pair_within i k older).0 in
          absurd (omega (arith, e, l))
      | inr both ↦ is.1 ∙ sym both.1
    ]
  ]
