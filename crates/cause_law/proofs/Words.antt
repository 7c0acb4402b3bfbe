-- The words of the book, and the tests of the rules.
use Rattle.std.proofs.Common.{◌≡◌, ◌≤◌, ◌⊎◌, ◌==◌, ◌&&◌, ℕ, zero, suc, ◌+◌, Bool, true, false, nat_lt, min, List, [], ◌∷◌, ◌++◌, find, slice_get, is_some, Some, None, refl, sym, ap, subst, ◌∙◌, arith, inl, inr}
use Rattle.std.proofs.lemmas.Bool.{cases_Bool, false≢true}
use Rattle.std.proofs.lemmas.Bool.Decides.{nat_tests}
use Rattle.data_map.specs.declared.check.RawMap.{RawMap}
use Rattle.server_rules.specs.Get.{lowest_after, or_zero, lowest, must_fence, late}
use Rattle.server_rules.specs.Grants.{conflicts, grant_of, against}
use Rattle.server_rules.specs.Laws.{In, ConflictsAreExact, Rests}
use Rattle.server_rules.specs.Maps.{group_with, stands_in}
use Rattle.server_rules.specs.Messages.{awaited_by}
use Rattle.server_rules.specs.Standing.{is_beyond, lacked_from}
use Rattle.server_rules.proofs.GrantLaws.{nobody}
use Rattle.server_rules.proofs.Members.{in_behind, in_either, in_filter, in_filtered}
use Rattle.world_history.specs.ServerNames.{Kept, Component, Grant, Awaited, Job}
use Rattle.cause_law.specs.Gets.{AreOpposed, IsLowest, NeedsFence, IsLacked, IsLackedFirst, IsHeldBy}

-- ---- the lowest of those that are awaited

-- k is this number, or one of theirs, and none is lower
record IsLeast (m : ℕ) (cs : List Awaited) (k : ℕ) : Type 0 where
  one : (k ≡ m) ⊎ ((a : Awaited) × In a cs × (a.component ≡ k))
  here : k ≤ m
  there : (a : Awaited) → In a cs → k ≤ a.component

least_some : (cs : List Awaited) (m : ℕ) → IsLeast m cs (or_zero (lowest_after (Some m) cs))
unfolding lowest_after
least_some [] m = record { one = inl refl; here = omega (arith); there = λ a i. absurd i }
least_some (c ∷ cs) m =
    let r = least_some cs (min m c.component) in
    record {
      one = elim r.one [
        | inl e ↦ elim (cases_min m c.component) [
          | inl l ↦ inl (e ∙ l)
          | inr g ↦ inr (c, inl refl, sym (e ∙ g))
        ]
        | inr (a, i, e) ↦ inr (a, inr i, e)
      ];
      here = omega (arith, r.here);
      there = λ a i. elim i [ inl e ↦ rw e (omega (arith, r.here)) | inr j ↦ r.there a j ];
    }
  where
    cases_min : (a b : ℕ) → (min a b ≡ a) ⊎ (min a b ≡ b)
    cases_min a b = grind (arith)

lowest_is : (c : Awaited) (cs : List Awaited) → IsLowest (c ∷ cs) (lowest (c ∷ cs))
unfolding lowest_after
lowest_is c cs =
    let r = least_some cs c.component in
    let k : ℕ = or_zero (lowest_after (Some c.component) cs) in
    let one : (a : Awaited) × In a (c ∷ cs) × (a.component ≡ k) = elim r.one [
      | inl e ↦ (c, inl refl, sym e)
      | inr (a, i, e) ↦ (a, inr i, e)
    ] in
    record {
      one = one.0;
      there = one.1;
      its = one.2;
      least = λ a i. elim i [ inl e ↦ rw e r.here | inr j ↦ r.there a j ];
    }

-- of a job that rests
pub job_waits : (j : Job) → Rests (Some j) → IsLowest (awaited_by (Some j)) (lowest j.awaited)
job_waits j (c, cs, e) = rw e (lowest_is c cs)

-- ---- opposed

module _ (exact : ConflictsAreExact) where
  opposed_is : (a b : Grant) → conflicts a b ≡ true → AreOpposed a b
  unfolding conflicts
  opposed_is a b e =
      let other : (a.client ≡ b.client → ⊥) = λ same. grind (arith, nat_tests, e, same) in
      (other, λ c. absurd (false≢true (sym ((exact a b other).1 c) ∙ e)))

  not_opposed : (a b : Grant) → conflicts a b ≡ false → AreOpposed a b → ⊥
  not_opposed a b e o = o.1 ((exact a b o.0).0 e)

-- ---- members that pass a test

some_found : {A : Type 0} (p : A → Bool) (xs : List A) → is_some (find p xs) ≡ true → (x : A) × In x xs × (p x ≡ true)
some_found p [] e = absurd (cc e)
some_found p (x ∷ xs) e = elim (cases_Bool (p x)) [
  | inl y ↦ (x, inl refl, y)
  | inr n ↦ let r = some_found p xs (rw n at e) in (r.0, inr r.1, r.2)
]

none_found : {A : Type 0} (p : A → Bool) (xs : List A) → is_some (find p xs) ≡ false → (x : A) → In x xs → p x ≡ false
none_found p [] e x i = absurd i
none_found p (y ∷ xs) e x i = elim (cases_Bool (p y)) [
  | inl t ↦ absurd (cc (rw t at e))
  | inr n ↦ elim i [
    | inl same ↦ rw same n
    | inr j ↦ none_found p xs (rw n at e) x j
  ]
]

-- the first that passes, and those before it
pub record IsFound {A : Type 0} (p : A → Bool) (xs : List A) (x : A) : Type 0 where
  pub there : In x xs
  pub earlier : List A
  pub later : List A
  pub are : xs ≡ earlier ++ x ∷ later
  pub passes : p x ≡ true
  pub none : (y : A) → In y earlier → p y ≡ false

pub found : {A : Type 0} (p : A → Bool) (xs : List A) (x : A) → find p xs ≡ Some x → IsFound p xs x
found p [] x e = absurd (cc e)
found p (y ∷ xs) x e = elim (cases_Bool (p y)) [
  | inl t ↦
      let same : y ≡ x = cc (rw t at e) in
      record {
        there = inl (sym same);
        earlier = [];
        later = xs;
        are = ap (λ z. z ∷ xs) same;
        passes = rw (sym same) t;
        none = λ z i. absurd i;
      }
  | inr n ↦
      let r = found p xs x (rw n at e) in
      record {
        there = inr r.there;
        earlier = y ∷ r.earlier;
        later = r.later;
        are = ap (λ zs. y ∷ zs) r.are;
        passes = r.passes;
        none = λ z i. elim i [ inl e ↦ rw e n | inr j ↦ r.none z j ];
      }
]

-- two lists that are cut at their first members that pass
pub same_cut : {A : Type 0} (P : A → Type 0) (e f : List A) (x y : A) (l m : List A) → e ++ x ∷ l ≡ f ++ y ∷ m → P x → P y
    → ((z : A) → In z e → P z → ⊥) → ((z : A) → In z f → P z → ⊥) → x ≡ y
same_cut P [] [] x y l m is p q n o = cc is
same_cut P [] (z ∷ f) x y l m is p q n o = absurd (o z (inl refl) (subst P (cc is) p))
same_cut P (z ∷ e) [] x y l m is p q n o = absurd (n z (inl refl) (subst P (cc (sym is)) q))
same_cut P (z ∷ e) (w ∷ f) x y l m is p q n o =
    same_cut P e f x y l m (cc is) p q (λ v i. n v (inr i)) (λ v i. o v (inr i))

-- ---- a fence is needed

module _ (exact : ConflictsAreExact) where
  pub needs : (now : ℕ) (gs : List Grant) (g : Grant) → must_fence now gs g ≡ true → NeedsFence now gs g
  unfolding must_fence
  needs now gs g e = elim (cases_Bool (is_some (grant_of gs g.client))) [
    | inl t ↦
        let r = some_found (λ (x : Grant). x.client == g.client) gs t in
        record { grant = r.0; there = r.1; cause = inl (grind (arith, nat_tests, r.2)) }
    | inr n ↦
        let r = some_found (λ (x : Grant). nat_lt x.expiry now) (against gs g) (rw n at e) in
        let i = in_filtered (conflicts g) r.0 gs r.1 in
        record { grant = r.0; there = i.0; cause = inr (opposed_is exact g r.0 i.1, grind (arith, nat_tests, r.2)) }
  ]

  pub needs_none : (now : ℕ) (gs : List Grant) (g : Grant) → must_fence now gs g ≡ false → NeedsFence now gs g → ⊥
  unfolding must_fence
  needs_none now gs g e x = elim (cases_Bool (is_some (grant_of gs g.client))) [
    | inl t ↦ cc (rw t at e)
    | inr n ↦ elim x.cause [
      | inl own ↦ absurd (grind (arith, nat_tests, own, none_found (λ (x : Grant). x.client == g.client) gs n x.grant x.there))
      | inr (o, late) ↦ elim (cases_Bool (conflicts g x.grant)) [
        | inl y ↦
            absurd (grind (
              arith,
              nat_tests,
              late,
              none_found (λ (x : Grant). nat_lt x.expiry now) (against gs g) (rw n at e) x.grant
                  (in_filter (conflicts g) x.grant gs x.there y),
            ))
        | inr z ↦ not_opposed exact g x.grant z o
      ]
    ]
  ]

  -- ---- a grant that is opposed

  pub held : (gs : List Grant) (g d : Grant) → find (conflicts g) gs ≡ Some d → IsHeldBy gs g d.client
  held gs g d e =
      let r = found (conflicts g) gs d e in
      record {
        earlier = r.earlier;
        grant = d;
        later = r.later;
        live_are = r.are;
        client_is = refl;
        opposed = opposed_is exact g d r.passes;
        oldest = λ x i. not_opposed exact g x (r.none x i);
      }

  -- the grant itself isn't
  pub none_held_more : (gs : List Grant) (g : Grant) (c : ℕ) → find (conflicts g) gs ≡ None → IsHeldBy (gs ++ (g ∷ [])) g c → ⊥
  none_held_more gs g c e h =
      elim
      (in_either h.grant gs (g ∷ [])
      (subst (In h.grant) (sym h.live_are) (in_behind h.grant h.earlier (h.grant ∷ h.later) (inl refl)))) [
        | inl i ↦ not_opposed exact g h.grant (nobody (conflicts g) gs h.grant e i) h.opposed
        | inr (inl own) ↦ h.opposed.0 (ap (λ (x : Grant). x.client) (sym own))
        | inr (inr i) ↦ i
      ]

-- ---- a component that is lacked

abbrev is_lacked : RawMap → List Component → (first end k : ℕ) → Component → Bool
is_lacked m all first end k at = at.missing && (stands_in m (group_with m k) first end && is_beyond m all (group_with m k))

record IsLackedAt (m : RawMap) (all : List Component) (first end : ℕ) (cs : List Component) (n k : ℕ) : Type 0 where
  steps : ℕ
  place_is : k ≡ n + steps
  at : Component
  there : slice_get cs steps ≡ Some at
  passes : is_lacked m all first end k at ≡ true
  least : (i : ℕ) (x : Component) → slice_get cs i ≡ Some x → is_lacked m all first end (n + i) x ≡ true → k ≤ n + i

least_more : (m : RawMap) (all : List Component) (first end : ℕ) (c : Component) (cs : List Component) (n k : ℕ)
    → is_lacked m all first end n c ≡ false
    → ((i : ℕ) (x : Component) → slice_get cs i ≡ Some x → is_lacked m all first end (n + 1 + i) x ≡ true → k ≤ n + 1 + i)
    → (i : ℕ) (x : Component) → slice_get (c ∷ cs) i ≡ Some x → is_lacked m all first end (n + i) x ≡ true → k ≤ n + i
least_more m all first end c cs n k z rest zero x f y =
    let same : c ≡ x = cc f in
    let here : n + 0 ≡ n = omega (arith) in
    absurd (false≢true (sym z ∙ ap (is_lacked m all first end n) same
    ∙ subst (λ (j : ℕ). is_lacked m all first end j x ≡ true) here y))
least_more m all first end c cs n k z rest (suc i) x f y =
    let here : n + suc i ≡ n + 1 + i = omega (arith) in
    subst (λ (j : ℕ). k ≤ j) (sym here) (rest i x f (subst (λ (j : ℕ). is_lacked m all first end j x ≡ true) here y))

lacked_at : (m : RawMap) (all : List Component) (first end : ℕ) (cs : List Component) (n k : ℕ)
    → lacked_from m all first end cs n ≡ Some k → IsLackedAt m all first end cs n k
unfolding lacked_from
lacked_at m all first end [] n k e = absurd (cc e)
lacked_at m all first end (c ∷ cs) n k e = elim (cases_Bool (is_lacked m all first end n c)) [
  | inl t ↦
      let same : n ≡ k = cc (rw t at e) in
      record {
        steps = 0;
        place_is = omega (arith, same);
        at = c;
        there = refl;
        passes = subst (λ (j : ℕ). is_lacked m all first end j c ≡ true) same t;
        least = λ i x f y. omega (arith, same);
      }
  | inr z ↦
      let r = lacked_at m all first end cs (n + 1) k (rw z at e) in
      record {
        steps = suc r.steps;
        place_is = omega (arith, r.place_is);
        at = r.at;
        there = r.there;
        passes = r.passes;
        least = least_more m all first end c cs n k z r.least;
      }
]

not_more : (m : RawMap) (all : List Component) (first end : ℕ) (c : Component) (cs : List Component) (n : ℕ)
    → is_lacked m all first end n c ≡ false
    → ((i : ℕ) (x : Component) → slice_get cs i ≡ Some x → is_lacked m all first end (n + 1 + i) x ≡ false)
    → (i : ℕ) (x : Component) → slice_get (c ∷ cs) i ≡ Some x → is_lacked m all first end (n + i) x ≡ false
not_more m all first end c cs n z rest zero x f =
    let same : c ≡ x = cc f in
    let here : n + 0 ≡ n = omega (arith) in
    subst (λ (y : Component). is_lacked m all first end (n + 0) y ≡ false) same
    (subst (λ (j : ℕ). is_lacked m all first end j c ≡ false) (sym here) z)
not_more m all first end c cs n z rest (suc i) x f =
    let here : n + suc i ≡ n + 1 + i = omega (arith) in
    subst (λ (j : ℕ). is_lacked m all first end j x ≡ false) (sym here) (rest i x f)

none_lacked : (m : RawMap) (all : List Component) (first end : ℕ) (cs : List Component) (n : ℕ)
    → lacked_from m all first end cs n ≡ None → (i : ℕ) (x : Component) → slice_get cs i ≡ Some x
    → is_lacked m all first end (n + i) x ≡ false
unfolding lacked_from
none_lacked m all first end [] n e i x f = absurd (cc f)
none_lacked m all first end (c ∷ cs) n e i x f = elim (cases_Bool (is_lacked m all first end n c)) [
  | inl t ↦ absurd (cc (rw t at e))
  | inr z ↦ not_more m all first end c cs n z (none_lacked m all first end cs (n + 1) (rw z at e)) i x f
]

both_true : (a b c : Bool) → (a && (b && c)) ≡ true → (a ≡ true) × (b ≡ true) × (c ≡ true)
both_true true true true e = (refl, refl, refl)
both_true a b c e = absurd (cc e)

zeroth : (j : ℕ) → j ≡ 0 + j
zeroth j = omega (arith)

all_true : (a b c : Bool) → a ≡ true → b ≡ true → c ≡ true → (a && (b && c)) ≡ true
all_true a b c p q r = rw (p, q, r) refl

-- of a component that is lacked
passes : (f : Kept) (g : Grant) (k : ℕ) (l : IsLacked f g k) → is_lacked f.map f.components g.first g.end k l.at ≡ true
passes f g k l =
    all_true l.at.missing (stands_in f.map (group_with f.map k) g.first g.end) (is_beyond f.map f.components (group_with f.map k))
    l.missing l.stands l.beyond

pub lacked_first : (f : Kept) (g : Grant) (k : ℕ) → lacked_from f.map f.components g.first g.end f.components 0 ≡ Some k
    → IsLackedFirst f g k
lacked_first f g k e =
    let r = lacked_at f.map f.components g.first g.end f.components 0 k e in
    let same : r.steps ≡ k = omega (arith, r.place_is) in
    let t = both_true r.at.missing (stands_in f.map (group_with f.map k) g.first g.end)
    (is_beyond f.map f.components (group_with f.map k)) r.passes in
    record {
      lacked = record {
        at = r.at;
        found = subst (λ (j : ℕ). slice_get f.components j ≡ Some r.at) same r.there;
        missing = t.0;
        stands = t.1;
        beyond = t.2;
      };
      least = λ j l.
          let less : k ≤ 0 + j =
          r.least j l.at l.found
          (subst (λ (i : ℕ). is_lacked f.map f.components g.first g.end i l.at ≡ true) (zeroth j) (passes f g j l)) in
          omega (arith, less);
    }

pub lacked_none : (f : Kept) (g : Grant) (k : ℕ) → lacked_from f.map f.components g.first g.end f.components 0 ≡ None
    → IsLackedFirst f g k → ⊥
lacked_none f g k e l =
    false≢true (sym (none_lacked f.map f.components g.first g.end f.components 0 e k l.lacked.at l.lacked.found)
    ∙ subst (λ (i : ℕ). is_lacked f.map f.components g.first g.end i l.lacked.at ≡ true) (zeroth k) (passes f g k l.lacked))
