-- Commands that are placed one after the other.
use Rattle.std.proofs.Common.{◌≡◌, ◌≤◌, ◌<◌, ℕ, ◌+◌, ◌-◌, ◌++◌, List, [], ◌∷◌, length, get_or, take, drop, refl, sym, ap, ◌∙◌, arith, inl, inr, true, false, append-nil, append_assoc}
use Rattle.std.specs.Prelude.{reverse}
use Rattle.std.specs.List.{All}
use Rattle.std.proofs.lemmas.Bool.{cases_lt}
use Rattle.std.proofs.lemmas.List.{reverse-append, take_more, take-append-drop}
use Rattle.std.proofs.lemmas.List.Elements.{All-nil, All-head, All-tail, All-append, All-cons}
use Rattle.client_rules.specs.Commands.{before, placed, in_order}
use Rattle.call_commands.specs.State.{Awaited}
use Rattle.call_commands.specs.Ordering.{placed_all}

all_reversed : {X : Type 0} (P : X → Type 0) (xs : List X) → All P xs → All P (reverse xs)
all_reversed P [] all = All-nil P
all_reversed P (x ∷ xs) all =
    rw (reverse-append (x ∷ []) xs)
    (All-append P (reverse xs) (x ∷ []) (all_reversed P xs (All-tail P x xs all))
    (All-cons P x [] (All-head P x xs all) (All-nil P)))

-- those that it doesn't come before stay before it
passes : (a : Awaited) (ys zs : List Awaited) → All (λ (b : Awaited). before a.ask b.ask ≡ false) ys →
    placed a (ys ++ zs) ≡ ys ++ placed a zs
unfolding placed
passes a [] zs all = refl
passes a (y ∷ ys) zs all =
    let rest : placed a (ys ++ zs) ≡ ys ++ placed a zs =
    passes a ys zs (All-tail (λ (b : Awaited). before a.ask b.ask ≡ false) y ys all) in
    rw (All-head (λ (b : Awaited). before a.ask b.ask ≡ false) y ys all) (ap (λ xs. y ∷ xs) rest)

stays : (a x : Awaited) (xs : List Awaited) → before a.ask x.ask ≡ true → placed a (x ∷ xs) ≡ a ∷ x ∷ xs
unfolding placed
stays a x xs t = rw t refl

nothing : (a : Awaited) → placed a [] ≡ a ∷ []
unfolding placed
nothing a = refl

-- before the first that it comes before
first_there : (a : Awaited) (xs : List Awaited) (r : ℕ) → r ≤ length xs →
    ((d : Awaited) → 0 < r → before a.ask (get_or xs (r - 1) d).ask ≡ true) →
    placed a (reverse (take r xs)) ≡ a ∷ reverse (take r xs)
first_there a xs r le here = elim (cases_lt 0 r) [
  | inl some ↦
      let next : r - 1 + 1 ≡ r = omega (arith, some) in
      let split : take r xs ≡ take (r - 1) xs ++ get_or xs (r - 1) a ∷ [] =
      ap (λ (z : ℕ). take z xs) (sym next) ∙ take_more xs (r - 1) a (omega (arith, some, le)) in
      let turned : reverse (take r xs) ≡ get_or xs (r - 1) a ∷ reverse (take (r - 1) xs) =
      ap reverse split ∙ reverse-append (take (r - 1) xs) (get_or xs (r - 1) a ∷ []) in
      rw turned (stays a (get_or xs (r - 1) a) (reverse (take (r - 1) xs)) (here a some))
  | inr none ↦ let zero_of : r ≡ 0 = omega (arith, none) in rw zero_of (nothing a)
]

pub placed_falling : (a : Awaited) (xs : List Awaited) (r : ℕ) → r ≤ length xs →
    All (λ (b : Awaited). before a.ask b.ask ≡ false) (drop r xs) →
    ((d : Awaited) → 0 < r → before a.ask (get_or xs (r - 1) d).ask ≡ true) →
    reverse (take r xs ++ a ∷ drop r xs) ≡ placed a (reverse xs)
placed_falling a xs r le passed here =
    let P : Awaited → Type 0 = λ (b : Awaited). before a.ask b.ask ≡ false in
    reverse-append (take r xs) (a ∷ drop r xs)
    ∙ ap (λ ys. ys ++ reverse (take r xs)) (reverse-append (a ∷ []) (drop r xs))
    ∙ append_assoc (reverse (drop r xs)) (a ∷ []) (reverse (take r xs))
    ∙ ap (λ ys. reverse (drop r xs) ++ ys) (sym (first_there a xs r le here))
    ∙ sym (passes a (reverse (drop r xs)) (reverse (take r xs)) (all_reversed P (drop r xs) passed))
    ∙ ap (placed a) (sym (reverse-append (take r xs) (drop r xs)) ∙ ap reverse (take-append-drop r xs))

pub last_placed : (xs : List Awaited) (a : Awaited) (ys : List Awaited) →
    placed_all (xs ++ a ∷ []) ys ≡ placed_all xs (placed a ys)
unfolding placed_all
last_placed [] a ys = refl
last_placed (x ∷ xs) a ys = ap (placed x) (last_placed xs a ys)

pub none_placed : (xs ys : List Awaited) → xs ≡ [] → placed_all xs ys ≡ ys
unfolding placed_all
none_placed xs ys e = rw e refl

pub placed_each : (xs : List Awaited) → placed_all xs [] ≡ in_order xs
unfolding placed_all in_order
placed_each [] = refl
placed_each (x ∷ xs) = ap (placed x) (placed_each xs)

-- one that was the last comes next
pub turned_more : (made rest : List Awaited) (a : Awaited) → (made ++ a ∷ []) ++ reverse rest ≡ made ++ reverse (rest ++ a ∷ [])
turned_more made rest a = append_assoc made (a ∷ []) (reverse rest) ∙ ap (λ ys. made ++ ys) (sym (reverse-append rest (a ∷ [])))

pub all_turned : (made rest : List Awaited) → rest ≡ [] → made ≡ made ++ reverse rest
all_turned made rest e = rw e (sym (append-nil made))
