-- Lists of components: in pairs, lost, and made anew.
use Rattle.std.proofs.Common.{◌≡◌, ℕ, zero, suc, ◌+◌, ◌<◌, not, ◌==◌, ◌&&◌, ◌∷◌, [], List, Bool, true, false, Option, Some, None, length, drop, slice_get, slice_set, refl, sym, ap, ◌∙◌, arith, inl, inr, eq-eqb, ne_eqb}
use Rattle.std.proofs.lemmas.Bool.{cases_Bool}
use Rattle.server_rules.specs.Numbers.{among}
use Rattle.server_rules.specs.Standing.{lose_on, lose_from, any_on}
use Rattle.world_history.specs.ServerNames.{Component}
use Rattle.world_history.specs.Calm.{stands_on}
use Rattle.component_law.specs.Components.{Paired, StandAlike, is_lacking}

-- ---- pairs

pub paired_same : {A : Type 0} (R : A → A → Type 0) → ((x : A) → R x x) → (xs : List A) → Paired R xs xs
paired_same R r [] = tt
paired_same R r (x ∷ xs) = (r x, paired_same R r xs)

pub paired_more : {A : Type 0} (R Q : A → A → Type 0) → ((x y : A) → R x y → Q x y) → (xs ys : List A)
    → Paired R xs ys → Paired Q xs ys
paired_more R Q f [] [] h = tt
paired_more R Q f [] (y ∷ ys) h = absurd h
paired_more R Q f (x ∷ xs) [] h = absurd h
paired_more R Q f (x ∷ xs) (y ∷ ys) h = (f x y h.0, paired_more R Q f xs ys h.1)

pub paired_length : {A : Type 0} (R : A → A → Type 0) (xs ys : List A) → Paired R xs ys → length ys ≡ length xs
paired_length R [] [] h = refl
paired_length R [] (y ∷ ys) h = absurd h
paired_length R (x ∷ xs) [] h = absurd h
paired_length R (x ∷ xs) (y ∷ ys) h = ap (λ (n : ℕ). suc n) (paired_length R xs ys h.1)

pub paired_then : {A : Type 0} (R : A → A → Type 0) → ((x y z : A) → R x y → R y z → R x z) → (xs ys zs : List A)
    → Paired R xs ys → Paired R ys zs → Paired R xs zs
paired_then R t [] [] [] h g = tt
paired_then R t [] [] (z ∷ zs) h g = absurd g
paired_then R t [] (y ∷ ys) zs h g = absurd h
paired_then R t (x ∷ xs) [] zs h g = absurd h
paired_then R t (x ∷ xs) (y ∷ ys) [] h g = absurd g
paired_then R t (x ∷ xs) (y ∷ ys) (z ∷ zs) h g = (t x y z h.0 g.0, paired_then R t xs ys zs h.1 g.1)

pub alike_same : (cs : List Component) → Paired StandAlike cs cs
alike_same cs = paired_same StandAlike (λ at. (refl, refl)) cs

-- ---- components that are lost

abbrev pub lost : Component → Component
lost at = record at { missing = true }

pub paired_lost : (R : Component → Component → Type 0) → ((a b : Component) → R a b → R (lost a) (lost b))
    → (ks : List ℕ) (xs ys : List Component) (k : ℕ) → Paired R xs ys → Paired R (lose_from ks xs k) (lose_from ks ys k)
unfolding lose_from
paired_lost R f ks [] [] k h = tt
paired_lost R f ks [] (y ∷ ys) k h = absurd h
paired_lost R f ks (x ∷ xs) [] k h = absurd h
paired_lost R f ks (x ∷ xs) (y ∷ ys) k h = elim (cases_Bool (among k ks)) [
  | inl t ↦ rw t (f x y h.0, paired_lost R f ks xs ys (k + 1) h.1)
  | inr z ↦ rw z (h.0, paired_lost R f ks xs ys (k + 1) h.1)
]

lost_again : (at : Component) → at.missing ≡ true → lost at ≡ at
lost_again at e = ap (λ (b : Bool). record at { missing = b }) (sym e)

-- one that isn't there, or is missing
lacking_lost : (cs : List Component) (i j k : ℕ) → k ≡ j + i → is_lacking cs i ≡ true → lose_from (k ∷ []) cs j ≡ cs
unfolding lose_from among
lacking_lost [] i j k e h = refl
lacking_lost (at ∷ cs) zero j k e h =
    rw (eq-eqb j k (omega (arith, e)))
    (ap (λ (x : Component). x ∷ lose_from (k ∷ []) cs (j + 1)) (lost_again at h)
    ∙ ap (λ (x : List Component). at ∷ x) (none_lost cs (j + 1) (omega (arith, e))))
  where
    none_lost : (xs : List Component) (l : ℕ) → k < l → lose_from (k ∷ []) xs l ≡ xs
    none_lost [] l b = refl
    none_lost (x ∷ xs) l b =
        rw (ne_eqb l k (λ q. absurd (omega (arith, q, b))))
        (ap (λ (y : List Component). x ∷ y) (none_lost xs (l + 1) (omega (arith, b))))
lacking_lost (at ∷ cs) (suc i) j k e h =
    rw (ne_eqb j k (λ x. absurd (omega (arith, e, x))))
    (ap (λ (x : List Component). at ∷ x) (lacking_lost cs i (j + 1) k (omega (arith, e)) h))

pub lacking_stays : (cs : List Component) (k : ℕ) → is_lacking cs k ≡ true → lose_from (k ∷ []) cs 0 ≡ cs
lacking_stays cs k h = lacking_lost cs k 0 k (omega arith) h

pub lacking_from : (ks : List ℕ) (cs : List Component) (j k : ℕ) → is_lacking cs k ≡ true
    → is_lacking (lose_from ks cs j) k ≡ true
unfolding lose_from
lacking_from ks [] j k h = refl
lacking_from ks (at ∷ cs) j zero h = elim (cases_Bool (among j ks)) [ inl t ↦ rw t refl | inr z ↦ rw z h ]
lacking_from ks (at ∷ cs) j (suc k) h = elim (cases_Bool (among j ks)) [
  | inl t ↦ rw t (lacking_from ks cs (j + 1) k h)
  | inr z ↦ rw z (lacking_from ks cs (j + 1) k h)
]

pub lacking_on : (d : ℕ) (cs : List Component) (k : ℕ) → is_lacking cs k ≡ true → is_lacking (lose_on d cs) k ≡ true
unfolding lose_on
lacking_on d [] k h = refl
lacking_on d (at ∷ cs) zero h = elim (cases_Bool (at.drive == d)) [ inl t ↦ rw t refl | inr z ↦ rw z h ]
lacking_on d (at ∷ cs) (suc k) h = elim (cases_Bool (at.drive == d)) [
  | inl t ↦ rw t (lacking_on d cs k h)
  | inr z ↦ rw z (lacking_on d cs k h)
]

-- where no present one stands on the drive, none is lost with it
none_on : (at : Component) (cs : List Component) (d : ℕ) → any_on d (at ∷ cs) ≡ false → any_on d cs ≡ false
unfolding any_on
none_on at cs d e = elim (cases_Bool (not at.missing && (at.drive == d))) [
  | inl t ↦ absurd (cc (rw t at e))
  | inr z ↦ rw z at e
]

not_here : (at : Component) (cs : List Component) (d : ℕ) → any_on d (at ∷ cs) ≡ false → (at.drive == d) ≡ true
    → at.missing ≡ true
unfolding any_on
not_here at cs d e t = elim (cases_Bool at.missing) [ inl m ↦ m | inr p ↦ absurd (cc (rw (p, t) at e)) ]

pub none_lost_on : (d : ℕ) (cs : List Component) → any_on d cs ≡ false → lose_on d cs ≡ cs
unfolding lose_on
none_lost_on d [] e = refl
none_lost_on d (at ∷ cs) e = elim (cases_Bool (at.drive == d)) [
  | inl t ↦ rw t (ap (λ (x : Component). x ∷ lose_on d cs) (lost_again at (not_here at cs d e t))
      ∙ ap (λ (x : List Component). at ∷ x) (none_lost_on d cs (none_on at cs d e)))
  | inr z ↦ rw z (ap (λ (x : List Component). at ∷ x) (none_lost_on d cs (none_on at cs d e)))
]

-- ---- a component that stands on a drive again

-- component k on drive d
abbrev pub stood : List Component → (k d : ℕ) → List Component
stood [] k d = []
stood (at ∷ cs) zero d = record at { drive = d; missing = false } ∷ cs
stood (at ∷ cs) (suc k) d = at ∷ stood cs k d

stands_next : (at : Component) (cs : List Component) (k d : ℕ) (o : Option Component)
    → stands_on (at ∷ cs) (suc k) d o ≡ at ∷ stands_on cs k d o
stands_next at cs k d None = refl
stands_next at cs k d (Some x) = refl

pub stands_is : (cs : List Component) (k d : ℕ) → stands_on cs k d (slice_get cs k) ≡ stood cs k d
stands_is [] k d = refl
stands_is (at ∷ cs) zero d = refl
stands_is (at ∷ cs) (suc k) d =
    stands_next at cs k d (slice_get cs k) ∙ ap (λ (x : List Component). at ∷ x) (stands_is cs k d)

pub paired_stood : (R : Component → Component → Type 0)
    → ((a b : Component) (d : ℕ) → R a b → R (record a { drive = d; missing = false }) (record b { drive = d; missing = false }))
    → (xs ys : List Component) (k d : ℕ) → Paired R xs ys → Paired R (stood xs k d) (stood ys k d)
paired_stood R f [] [] k d h = tt
paired_stood R f [] (y ∷ ys) k d h = absurd h
paired_stood R f (x ∷ xs) [] k d h = absurd h
paired_stood R f (x ∷ xs) (y ∷ ys) zero d h = (f x y d h.0, h.1)
paired_stood R f (x ∷ xs) (y ∷ ys) (suc k) d h = (h.0, paired_stood R f xs ys k d h.1)

-- there in an object
pub alike_made : (xs ys : List Component) (k : ℕ) (at : Component) → at.missing ≡ false → Paired StandAlike xs ys
    → Paired StandAlike (stood xs k at.drive) (slice_set ys k at)
alike_made [] [] k at e h = tt
alike_made [] (y ∷ ys) k at e h = absurd h
alike_made (x ∷ xs) [] k at e h = absurd h
alike_made (x ∷ xs) (y ∷ ys) zero at e h = ((refl, sym e), h.1)
alike_made (x ∷ xs) (y ∷ ys) (suc k) at e h = (h.0, alike_made xs ys k at e h.1)

-- ---- from number k on

pub drop_next : (cs : List Component) (k : ℕ) (at : Component) (as_ : List Component) → at ∷ as_ ≡ drop k cs
    → as_ ≡ drop (suc k) cs
drop_next [] zero at as_ e = absurd (cc e)
drop_next [] (suc k) at as_ e = absurd (cc e)
drop_next (c ∷ cs) zero at as_ e = cc e
drop_next (c ∷ cs) (suc k) at as_ e = drop_next cs k at as_ e

pub drop_lacks : (cs : List Component) (k : ℕ) (at : Component) (as_ : List Component) → at ∷ as_ ≡ drop k cs
    → at.missing ≡ true → is_lacking cs k ≡ true
drop_lacks [] k at as_ e m = refl
drop_lacks (c ∷ cs) zero at as_ e m = let s : c ≡ at = cc (sym e) in ap (λ (x : Component). x.missing) s ∙ m
drop_lacks (c ∷ cs) (suc k) at as_ e m = drop_lacks cs k at as_ e m
