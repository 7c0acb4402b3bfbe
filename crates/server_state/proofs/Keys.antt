-- Keys in the set's order.
use Rattle.std.specs.Prelude.{ℕ, Bool, true, false, cond, List, [], ◌∷◌, ◌≡◌, ◌<◌, ◌≤◌, ◌==◌, ◌&&◌, ◌||◌, ◌⊎◌, not, refl}
use Rattle.std.specs.Ordering.{nat_cmp, ordering_then, is_eq, is_gt}
use Rattle.std.specs.declared.cmp.Ordering.TheVariants.{Less, Equal, Greater}
use Rattle.std.specs.declared.ops.Bound.TheVariants.{Included, Unbounded}
use Rattle.std.specs.List.{list_any}
use Rattle.std.specs.BTreeMap.{is_at}
use Rattle.std.specs.BTreeSet.{BTreeSet, Updates, IsKeyRangeOf}
use Rattle.std.proofs.Common.{Ordering, arith, inl, inr, ap, sym, ◌∙◌}
use Rattle.std.proofs.lemmas.Bool.{cases_Bool}
use Rattle.std.proofs.lemmas.Bool.Decides.{nat_tests}
use Rattle.server_state.specs.Index.{Keys, has, is_of, IsFirst}

abbrev pub Key : Type 0
Key = ℕ × ℕ × ℕ

abbrev pub in_order : Key → Key → Ordering
in_order a b = ordering_then (ordering_then (nat_cmp a.0 b.0) (nat_cmp a.1 b.1)) (nat_cmp a.2 b.2)

-- ---- equal keys

eq_then : (p o : Ordering) → is_eq (ordering_then p o) ≡ (is_eq p && is_eq o)
eq_then Less o = refl
eq_then Equal o = refl
eq_then Greater o = refl

eq_here : (a b : ℕ) → is_eq (nat_cmp a b) ≡ (a == b)
eq_here a b = grind (arith, nat_tests)

eq_there : (a b : ℕ) → is_eq (nat_cmp a b) ≡ (b == a)
eq_there a b = grind (arith, nat_tests)

all_three : (a b c x y z : Bool) → a ≡ x → b ≡ y → c ≡ z → ((a && b) && c) ≡ ((x && y) && z)
all_three a b c x y z p q r = rw (p, q, r) refl

parts : (a b : Key) → is_eq (in_order a b) ≡ ((is_eq (nat_cmp a.0 b.0) && is_eq (nat_cmp a.1 b.1)) && is_eq (nat_cmp a.2 b.2))
parts a b =
    eq_then (ordering_then (nat_cmp a.0 b.0) (nat_cmp a.1 b.1)) (nat_cmp a.2 b.2)
    ∙ ap (λ (z : Bool). z && is_eq (nat_cmp a.2 b.2)) (eq_then (nat_cmp a.0 b.0) (nat_cmp a.1 b.1))

at_query : (a b : Key) → is_eq (in_order a b) ≡ is_of a.0 a.1 a.2 b.0 b.1 b.2
at_query a b = parts a b ∙ all_three _ _ _ _ _ _ (eq_here a.0 b.0) (eq_here a.1 b.1) (eq_here a.2 b.2)

at_key : (a b : Key) → is_eq (in_order a b) ≡ is_of b.0 b.1 b.2 a.0 a.1 a.2
at_key a b = parts a b ∙ all_three _ _ _ _ _ _ (eq_there a.0 b.0) (eq_there a.1 b.1) (eq_there a.2 b.2)

either : (a b x y : Bool) → a ≡ x → b ≡ y → (a || b) ≡ (x || y)
either a b x y p q = rw (p, q) refl

-- the set contains the key
pub has_key : (ks : Keys) (x d m : ℕ) → has ks x d m ≡ list_any (is_at (in_order (x, d, m))) ks
unfolding has
has_key [] x d m = refl
has_key (k ∷ ks) x d m = either _ _ _ _ (sym (at_key (x, d, m) k)) (has_key ks x d m)

-- ---- a key more, a key less

or_cond : (b c : Bool) → cond b true c ≡ (b || c)
or_cond true c = refl
or_cond false c = refl

and_cond : (b c : Bool) → cond b false c ≡ (not b && c)
and_cond true c = refl
and_cond false c = refl

pub added : (old new : BTreeSet Key) (was : Keys) (nonce drive file : ℕ) → old.keys ≡ was →
    Updates in_order old new (nonce, drive, file) true →
    (x d m : ℕ) → has new.keys x d m ≡ (is_of nonce drive file x d m || has was x d m)
added old new was nonce drive file v u x d m =
    has_key new.keys x d m ∙ u.0 (x, d, m)
    ∙ or_cond (is_eq (in_order (nonce, drive, file) (x, d, m))) (list_any (is_at (in_order (x, d, m))) old.keys)
    ∙ either _ _ _ _ (at_query (nonce, drive, file) (x, d, m)) (sym (has_key old.keys x d m) ∙ ap (λ (ks : Keys). has ks x d m) v)

both : (a b x y : Bool) → a ≡ x → b ≡ y → (not a && b) ≡ (not x && y)
both a b x y p q = rw (p, q) refl

pub removed : (old new : BTreeSet Key) (was : Keys) (nonce drive file : ℕ) → old.keys ≡ was →
    Updates in_order old new (nonce, drive, file) false →
    (x d m : ℕ) → has new.keys x d m ≡ (not (is_of nonce drive file x d m) && has was x d m)
removed old new was nonce drive file v u x d m =
    has_key new.keys x d m ∙ u.0 (x, d, m)
    ∙ and_cond (is_eq (in_order (nonce, drive, file) (x, d, m))) (list_any (is_at (in_order (x, d, m))) old.keys)
    ∙ both _ _ _ _ (at_query (nonce, drive, file) (x, d, m)) (sym (has_key old.keys x d m) ∙ ap (λ (ks : Keys). has ks x d m) v)

-- ---- the first from a key on

gt_then : (p o : Ordering) → is_gt (ordering_then p o) ≡ false → (p ≡ Less) ⊎ ((p ≡ Equal) × (is_gt o ≡ false))
gt_then Less o e = inl refl
gt_then Equal o e = inr (refl, e)
gt_then Greater o e = absurd (cc e)

is_less : (a b : ℕ) → nat_cmp a b ≡ Less → a < b
is_less a b e = grind (arith, nat_tests, e)

is_equal : (a b : ℕ) → nat_cmp a b ≡ Equal → a ≡ b
is_equal a b e = grind (arith, nat_tests, e)

is_upto : (a b : ℕ) → is_gt (nat_cmp a b) ≡ false → a ≤ b
is_upto a b e = grind (arith, nat_tests, e)

-- the order of keys, in words
abbrev UpTo : Key → Key → Type 0
UpTo a b = (a.0 < b.0) ⊎ ((a.0 ≡ b.0) × ((a.1 < b.1) ⊎ ((a.1 ≡ b.1) × (a.2 ≤ b.2))))

then_less : (p o : Ordering) → ordering_then p o ≡ Less → (p ≡ Less) ⊎ ((p ≡ Equal) × (o ≡ Less))
then_less Less o e = inl refl
then_less Equal o e = inr (refl, e)
then_less Greater o e = absurd (cc e)

then_equal : (p o : Ordering) → ordering_then p o ≡ Equal → (p ≡ Equal) × (o ≡ Equal)
then_equal Less o e = absurd (cc e)
then_equal Equal o e = (refl, e)
then_equal Greater o e = absurd (cc e)

upto : (a b : Key) → is_gt (in_order a b) ≡ false → UpTo a b
upto a b e = elim (gt_then (ordering_then (nat_cmp a.0 b.0) (nat_cmp a.1 b.1)) (nat_cmp a.2 b.2) e) [
  | inl l ↦ elim (then_less (nat_cmp a.0 b.0) (nat_cmp a.1 b.1) l) [
    | inl f ↦ inl (is_less a.0 b.0 f)
    | inr s ↦ inr (is_equal a.0 b.0 s.0, inl (is_less a.1 b.1 s.1))
  ]
  | inr r ↦ inr (
    is_equal a.0 b.0 (then_equal (nat_cmp a.0 b.0) (nat_cmp a.1 b.1) r.0).0,
    inr (is_equal a.1 b.1 (then_equal (nat_cmp a.0 b.0) (nat_cmp a.1 b.1) r.0).1, is_upto a.2 b.2 r.1),
  )
]

-- a key between the first one of a reply and another one of it is of that reply
between : (k : Key) (x d m : ℕ) → is_gt (in_order (x, d, 0) k) ≡ false → is_gt (in_order k (x, d, m)) ≡ false →
    (k.0 ≡ x) × (k.1 ≡ d) × (k.2 ≤ m)
between k x d m low high =
    let l : UpTo (x, d, 0) k = upto (x, d, 0) k low in
    let h : UpTo k (x, d, m) = upto k (x, d, m) high in
    (grind (arith, l, h), grind (arith, l, h), grind (arith, l, h))

same : (a : ℕ) → nat_cmp a a ≡ Equal
same a = grind (arith, nat_tests)

none_below : (m : ℕ) → is_gt (nat_cmp 0 m) ≡ false
none_below m = grind (arith, nat_tests)

-- it comes first
lowest : (x d m : ℕ) → is_gt (in_order (x, d, 0) (x, d, m)) ≡ false
lowest x d m = rw (same x, same d) (none_below m)

-- what a search from the first key of a reply on gives
abbrev pub Searched : (x d : ℕ) → BTreeSet Key → List Key → Type 0
Searched x d s r = IsKeyRangeOf in_order (Included (x, d, 0)) Unbounded s r

contained : (s : BTreeSet Key) (ks : Keys) (x d m : ℕ) → s.keys ≡ ks → has ks x d m ≡ true →
    list_any (is_at (in_order (x, d, m))) s.keys ≡ true
contained s ks x d m v e = ap (λ (z : Keys). list_any (is_at (in_order (x, d, m))) z) v ∙ sym (has_key ks x d m) ∙ e

-- what the first key found is at most
least : (s : BTreeSet Key) (ks : Keys) (x d m : ℕ) (k : Key) (r t : List Key) → s.keys ≡ ks → Searched x d s r → r ≡ k ∷ t →
    has ks x d m ≡ true →
    (k.0 ≡ x) × (k.1 ≡ d) × (k.2 ≤ m)
least s ks x d m k r t v w e h =
    let g = rw e at w in
    between k x d m g.1.0.0 (g.2 (x, d, m) (lowest x d m, tt) (contained s ks x d m v h))

pub first_found : (s : BTreeSet Key) (ks : Keys) (x d : ℕ) (k : Key) (r t : List Key) → s.keys ≡ ks → Searched x d s r →
    r ≡ k ∷ t → k.0 ≡ x → k.1 ≡ d →
    IsFirst ks x d k.2
first_found s ks x d k r t v w e f h =
    let g = rw e at w in
    let there : list_any (is_at (in_order k)) s.keys ≡ true = g.1.1 in
    record {
      awaits = rw (sym f, sym h) (has_key ks k.0 k.1 k.2 ∙ ap (λ (z : Keys). list_any (is_at (in_order k)) z) (sym v) ∙ there);
      none = λ m l. elim (cases_Bool (has ks x d m)) [
        | inl y ↦ absurd (omega (arith, l, (least s ks x d m k r t v w e y).2))
        | inr n ↦ n
      ];
    }

-- another reply's key comes first
pub first_other : (s : BTreeSet Key) (ks : Keys) (x d : ℕ) (k : Key) (r t : List Key) → s.keys ≡ ks → Searched x d s r →
    r ≡ k ∷ t →
    ((k.0 ≡ x) → (k.1 ≡ d) → ⊥) → (m : ℕ) → has ks x d m ≡ false
first_other s ks x d k r t v w e o m = elim (cases_Bool (has ks x d m)) [
  | inl y ↦ let b = least s ks x d m k r t v w e y in absurd (o b.0 b.1)
  | inr n ↦ n
]

-- none comes
pub first_none : (s : BTreeSet Key) (ks : Keys) (x d : ℕ) (r : List Key) → s.keys ≡ ks → Searched x d s r → r ≡ [] → (m : ℕ) →
    has ks x d m ≡ false
first_none s ks x d r v w e m =
    has_key ks x d m ∙ ap (λ (z : Keys). list_any (is_at (in_order (x, d, m))) z) (sym v) ∙ w.5 e (x, d, m) (lowest x d m, tt)
