-- The next pending message is the lowest one.
use Rattle.std.proofs.Common.{◌≡◌, ℕ, zero, suc, ◌+◌, ◌≤◌, ◌<◌, ◌∷◌, [], ◌&&◌, List, true, false, Some, None, length, refl, ap, ◌∙◌, arith, slice_get, nat_le, add-zero}
use Rattle.std.proofs.lemmas.Bool.Decides.{nat_tests}
use Rattle.world_history.specs.State.{Posted}
use Rattle.world_history.specs.Plans.{is_pending, pending_from}
use Rattle.world_history.specs.Laws.{NextIsLowest}

-- none of a list's messages below a place is pending, where the list begins with number k
abbrev Past : (first k place : ℕ) → List Posted → Type 0
Past first k place ps = (j : ℕ) (p : Posted) → first ≤ k + j → j < place → slice_get ps j ≡ Some p
    → is_pending p ≡ false

past_next : (first k place : ℕ) (x : Posted) (ps : List Posted) → Past first k (suc place) (x ∷ ps)
    → Past first (k + 1) place ps
past_next first k place x ps h j p f l e = h (suc j) p (omega (arith, f)) (omega (arith, l)) e

-- the first message isn't the one
pub passed_over : (first k : ℕ) (x : Posted) → (first ≤ k → is_pending x ≡ false) → (nat_le first k && is_pending x) ≡ false
passed_over first k x h = grind (arith, nat_tests, h)

found : (first k place : ℕ) (ps : List Posted) (p : Posted) → first ≤ k + place → slice_get ps place ≡ Some p
    → is_pending p ≡ true → Past first k place ps
    → pending_from first k ps ≡ Some (k + place)
unfolding pending_from
found first k place [] p f e t h = absurd (cc e)
found first k zero (x ∷ ps) p f e t h =
    let same : x ≡ p = cc in
    let low : first ≤ k = omega (arith, f) in
    let test : (nat_le first k && is_pending x) ≡ true =
    grind (arith, nat_tests, low, ap (λ (q : Posted). is_pending q) same ∙ t) in
    rw (test, add-zero) refl
found first k (suc place) (x ∷ ps) p f e t h =
    let test : (nat_le first k && is_pending x) ≡ false =
    passed_over first k x (λ l. h 0 x (omega (arith, l)) (omega arith) refl) in
    let rest : pending_from first (k + 1) ps ≡ Some (k + 1 + place) =
    found first (k + 1) place ps p (omega (arith, f)) e t (past_next first k place x ps h) in
    let number : k + 1 + place ≡ k + suc place = omega arith in
    rw test (rest ∙ ap (λ (n : ℕ). Some n) number)

none : (first k : ℕ) (ps : List Posted) → Past first k (length ps) ps → pending_from first k ps ≡ None
unfolding pending_from
none first k [] h = refl
none first k (x ∷ ps) h =
    let test : (nat_le first k && is_pending x) ≡ false =
    passed_over first k x (λ l. h 0 x (omega (arith, l)) (omega arith) refl) in
    rw test (none first (k + 1) ps (past_next first k (length ps) x ps h))

pub next_is_lowest : NextIsLowest
next_is_lowest w first number =
    let here : 0 + number ≡ number = omega arith in (
      λ l. found first 0 number w.network.messages l.message (omega (arith, l.from)) l.found l.pending
          (λ j p f b e. l.below j p (omega (arith, f)) b e)
          ∙ ap (λ (n : ℕ). Some n) here,
      λ h. none first 0 w.network.messages (λ j p f b e. h j p (omega (arith, f)) b e),
    )
