-- The drives that take the components of the scenario's file: five different ones of the six.
use Rattle.std.proofs.Common.{◌≡◌, ◌<◌, ◌==◌, ◌&&◌, ◌||◌, not, ℕ, Bool, true, false, List, [], ◌∷◌, length, find, is_some, if◌then◌else◌, refl, arith, inl, inr}
use Rattle.std.proofs.lemmas.Bool.{and_parts}
use Rattle.std.proofs.lemmas.Bool.Decides.{nat_tests}
use Rattle.server_rules.specs.Laws.{In}
use Rattle.server_rules.specs.Making.{are_of, online, places}
use Rattle.server_rules.specs.Numbers.{among}
use Rattle.world_history.specs.ServerNames.{Drive}
use Rattle.generate_law.proofs.Creates.{known_to}

-- different drives below 6
abbrev pub AreGood : List ℕ → Type 0
AreGood [] = Unit {0}
AreGood (n ∷ ns) = (n < 6) × (among n ns ≡ false) × AreGood ns

low_found : (n : ℕ) → is_some (find (λ (d : Drive). d.number == n) (online (known_to 6))) ≡ true → n < 6
low_found n e = grind (arith, nat_tests, e)

not_false : (b : Bool) → not b ≡ true → b ≡ false
not_false true e = absurd (cc e)
not_false false e = refl

pub are_good : (ns : List ℕ) → are_of (online (known_to 6)) ns ≡ true → AreGood ns
unfolding are_of
are_good [] e = tt
are_good (n ∷ ns) e =
    let a = and_parts _ _ e in
    let b = and_parts _ _ a.1 in
    (low_found n a.0, not_false (among n ns) b.0, are_good ns b.1)

-- the drives that are taken
abbrev pub taken : (chosen : List ℕ) → List ℕ
taken chosen = places (known_to 6) 5 chosen

abbrev pub AreFive : List ℕ → Type 0
AreFive ns = (length ns ≡ 5) × (are_of (online (known_to 6)) ns ≡ true)

either_five : (b : Bool) (xs ys : List ℕ) → (b ≡ true → AreFive xs) → AreFive ys → AreFive (if b then xs else ys)
either_five true xs ys x y = x refl
either_five false xs ys x y = y

named_five : (chosen : List ℕ) → ((length chosen == 5) && are_of (online (known_to 6)) chosen) ≡ true → AreFive chosen
named_five chosen e =
    let a = and_parts (length chosen == 5) (are_of (online (known_to 6)) chosen) e in
    let five : length chosen ≡ 5 = grind (arith, nat_tests, a.0) in
    (five, a.1)

first_five : AreFive (0 ∷ 1 ∷ 2 ∷ 3 ∷ 4 ∷ [])
unfolding are_of among
first_five = (refl, refl)

pub five_taken : (chosen : List ℕ) → AreFive (taken chosen)
unfolding places
five_taken chosen =
    either_five ((length chosen == 5) && are_of (online (known_to 6)) chosen) chosen (0 ∷ 1 ∷ 2 ∷ 3 ∷ 4 ∷ [])
    (named_five chosen) first_five

pub apart : (n : ℕ) (ns : List ℕ) → among n ns ≡ false → (m : ℕ) → In m ns → m ≡ n → ⊥
unfolding among
apart n [] e m i same = absurd i
apart n (x ∷ ns) e m (inl here) same =
    absurd (grind (arith, nat_tests, e, here, same))
apart n (x ∷ ns) e m (inr there) same = apart n ns (none_behind (n == x) (among n ns) e) m there same
  where
    none_behind : (a b : Bool) → (a || b) ≡ false → b ≡ false
    none_behind true b e = absurd (cc e)
    none_behind false b e = e
