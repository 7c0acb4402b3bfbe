-- Lists of records that were handled, of times and of happenings.
use Rattle.std.proofs.Common.{arith, ◌≡◌, inl, inr, ℕ, zero, suc, ◌+◌, Bool, true, false, nat_eq, List, [], ◌∷◌, ◌++◌, take, drop, Option, None, Some, refl, sym, ap, subst, ◌∙◌, append_assoc, eq-eqb}
use Rattle.std.specs.Prelude.{slice_get}
use Rattle.std.proofs.Math.Numerals.{add-one}
use Rattle.std.proofs.lemmas.Bool.{eqb-true}
use Rattle.port_loop.specs.Ports.{Adds}
use Rattle.port_loop.specs.declared.ports.Happening.{Happening}
use Rattle.port_loop.specs.declared.handler.Handler.{Ghosts}
use Rattle.port_loop.specs.Serving.{AddsAll, Desk, HandlesAll, onto}
use Rattle.port_loop.specs.Steps.{Answer, Change, Handled, Step, after_all, frame_on, frames_on, happened, waits_in}
use Rattle.port_loop.specs.Steps.Step.{Happens, Handles}

pub after-append : {S : Type 0} (step : Change S) (d : S) (hs ks : List Handled) →
    after_all step d (hs ++ ks) ≡ after_all step (after_all step d hs) ks
after-append step d [] ks = refl
after-append step d (h ∷ hs) ks = after-append step (step d h.time h.message) hs ks

pub frames-append : {S : Type 0} (reply : Answer S) (step : Change S) (p : ℕ) (d : S) (hs ks : List Handled) →
    frames_on reply step p d (hs ++ ks) ≡ frames_on reply step p d hs ++ frames_on reply step p (after_all step d hs) ks
frames-append reply step p d [] ks = refl
frames-append reply step p d (h ∷ hs) ks =
    ap (λ (x : List ℕ). frame_on reply p d h ++ x) (frames-append reply step p (step d h.time h.message) hs ks)
    ∙ sym (append_assoc (frame_on reply p d h) (frames_on reply step p (step d h.time h.message) hs) _)

pub handles-append : {H : Type 0} (v : Ghosts H) (a b c : Desk H) (hs ks : List Handled) → HandlesAll v a hs b →
    HandlesAll v b ks c → HandlesAll v a (hs ++ ks) c
handles-append {H} v a b c [] ks t u = subst (λ (x : Desk H). HandlesAll v x ks c) t u
handles-append {H} v a b c (h ∷ hs) ks t u = (t.0, t.1, t.2, handles-append v t.0 b c hs ks t.3 u)

-- ---- numbers of connections

pub everywhere : (P : ℕ → Type 0) (p q : ℕ) → P p → (nat_eq p q ≡ false → P q) → P q
everywhere P p q here there = by_test (nat_eq p q) refl
  where
    by_test : (b : Bool) → nat_eq p q ≡ b → P q
    by_test true e = subst P (eqb-true p q e) here
    by_test false e = there e

pub same : (p : ℕ) → nat_eq p p ≡ true
same p = eq-eqb p p refl

pub other : (p q : ℕ) → (p ≡ q → ⊥) → nat_eq p q ≡ false
other p q ne = by_test (nat_eq p q) refl
  where
    by_test : (b : Bool) → nat_eq p q ≡ b → nat_eq p q ≡ false
    by_test true e = absurd (ne (eqb-true p q e))
    by_test false e = e

-- ---- what was told

onto-nil : (t : Option (List Happening)) → t ≡ onto [] t
onto-nil None = refl
onto-nil (Some l) = refl

onto-then : (a b : List Happening) (t : Option (List Happening)) → onto b (onto a t) ≡ onto (b ++ a) t
onto-then a b None = refl
onto-then a b (Some l) = ap (λ (x : List Happening). Some x) (sym (append_assoc b a l))

happened-append : (a b : List Step) → happened (a ++ b) ≡ happened a ++ happened b
happened-append [] b = refl
happened-append (Happens x ∷ a) b = ap (λ (l : List Happening). x ∷ l) (happened-append a b)
happened-append (Handles h ∷ a) b = happened-append a b

pub adds-none : (a b : Option (List Happening)) → b ≡ a → AddsAll [] a b
adds-none a b e = inr (e ∙ onto-nil a)

pub adds-one : (h : Happening) (a b : Option (List Happening)) → Adds h a b → AddsAll (h ∷ []) a b
adds-one h a b (inl e) = inl e
adds-one h a b (inr e) = inr e

pub adds-more : (x y : List Happening) (a b c : Option (List Happening)) → AddsAll x a b → AddsAll y b c →
    AddsAll (y ++ x) a c
adds-more x y a b c e (inl f) = inl f
adds-more x y a b c (inl e) (inr f) = inl (f ∙ ap (onto y) e)
adds-more x y a b c (inr e) (inr f) = inr (f ∙ ap (onto y) e ∙ onto-then x y a)

pub adds-then : (x y : List Step) (a b c : Option (List Happening)) → AddsAll (happened x) a b → AddsAll (happened y) b c →
    AddsAll (happened (y ++ x)) a c
adds-then x y a b c e f = rw (happened-append y x) (adds-more (happened x) (happened y) a b c e f)

pub waits-append : (x y : List Step) (n m : ℕ) → waits_in x ≡ n → waits_in y ≡ m → waits_in (y ++ x) ≡ n + m
waits-append x [] n m e f = omega (arith, e, f)
waits-append x (Happens h ∷ y) n m e f =
    let more : waits_in (y ++ x) ≡ n + waits_in y = waits-append x y n (waits_in y) e refl in omega (arith, more, f)
waits-append x (Handles h ∷ y) n m e f = waits-append x y n m e f

-- ---- records of a piece

pub take-got : (records : List (List ℕ)) (i : ℕ) (x : List ℕ) → slice_get records i ≡ Some x →
    take (i + 1) records ≡ take i records ++ x ∷ []
take-got records i x e = rw add-one (got records i x e)
  where
    got : (records : List (List ℕ)) (i : ℕ) (x : List ℕ) → slice_get records i ≡ Some x →
        take (suc i) records ≡ take i records ++ x ∷ []
    got [] i x e = absurd (cc e)
    got (y ∷ records) zero x e = ap (λ (z : List ℕ). z ∷ []) (cc e)
    got (y ∷ records) (suc i) x e = ap (λ (ys : List (List ℕ)). y ∷ ys) (got records i x e)

pub drop-got : (records : List (List ℕ)) (i : ℕ) (x : List ℕ) → slice_get records i ≡ Some x →
    drop i records ≡ x ∷ drop (i + 1) records
drop-got records i x e = rw add-one (got records i x e)
  where
    got : (records : List (List ℕ)) (i : ℕ) (x : List ℕ) → slice_get records i ≡ Some x →
        drop i records ≡ x ∷ drop (suc i) records
    got [] i x e = absurd (cc e)
    got (y ∷ records) zero x e = ap (λ (z : List ℕ). z ∷ records) (cc e)
    got (y ∷ records) (suc i) x e = got records i x e
