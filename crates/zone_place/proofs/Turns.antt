-- Dealing by turns: what each group gets, and that nothing is lost.
use Rattle.std.proofs.Common.{◌≡◌, ℕ, zero, suc, ◌+◌, ◌-◌, ◌*◌, ◌<◌, ◌≤◌, List, [], ◌∷◌, ◌++◌, length, take, drop, Bool, true, false, refl, sym, ◌∙◌, ap, arith, inl, inr, length-append}
use Rattle.std.specs.Prelude.{if◌then◌else◌}
use Rattle.std.specs.List.{filter, flat_map, list_all}
use Rattle.std.proofs.lemmas.Bool.{cases_eq}
use Rattle.std.proofs.Math.Seq.{take-append_seam, drop-append-add}
use Rattle.std.proofs.lemmas.List.{take-append-drop}
use Rattle.std.proofs.lemmas.List.Elements.{filter-append}
use Rattle.zone_place.specs.Zones.{every, counted}
use Rattle.zone_place.proofs.Zoning.{AllAbove, Rising}
use Rattle.zone_place.proofs.Counting.{times, times-append}

-- ---- how many each group gets

few : (q c w : ℕ) (xs : List ℕ) → 0 < q → length xs ≤ q * c + w → length (every q w xs) ≤ c
unfolding every
few q c w [] lo l = omega arith
few q zero zero (x ∷ xs) lo l = absurd (omega (arith, l))
few q (suc c) zero (x ∷ xs) lo l = omega (arith, few q c (q - 1) xs lo (omega (arith, l, lo)))
few q c (suc w) (x ∷ xs) lo l = few q c w xs lo (omega (arith, l))

many : (q c w : ℕ) (xs : List ℕ) → 0 < q → q * c + w < length xs → c < length (every q w xs)
unfolding every
many q c w [] lo l = absurd (omega (arith, l))
many q zero zero (x ∷ xs) lo l = omega arith
many q (suc c) zero (x ∷ xs) lo l = omega (arith, many q c (q - 1) xs lo (omega (arith, l, lo)))
many q c (suc w) (x ∷ xs) lo l = many q c w xs lo (omega (arith, l))

pub as_many : (q c w : ℕ) (xs : List ℕ) → w < q → length xs ≡ q * c → length (every q w xs) ≡ c
as_many q zero w xs lo e = omega (arith, few q 0 w xs (omega (arith, lo)) (omega (arith, e)))
as_many q (suc c) w xs lo e =
    omega (
      arith,
      few q (suc c) w xs (omega (arith, lo)) (omega (arith, e)),
      many q c w xs (omega (arith, lo)) (omega (arith, e, lo)),
    )

-- ---- no group gets many of a zone

-- how many are passed over behind these
unfoldable left : (q w : ℕ) → List ℕ → ℕ
left q w [] = w
left q zero (x ∷ xs) = left q (q - 1) xs
left q (suc w) (x ∷ xs) = left q w xs

every_more : (q w : ℕ) (xs ys : List ℕ) → every q w (xs ++ ys) ≡ every q w xs ++ every q (left q w xs) ys
unfolding every left
every_more q w [] ys = refl
every_more q zero (x ∷ xs) ys = ap (λ (l : List ℕ). x ∷ l) (every_more q (q - 1) xs ys)
every_more q (suc w) (x ∷ xs) ys = every_more q w xs ys

-- none of a zone among them, where none is among all
none : (p : ℕ → Bool) (q w : ℕ) (xs : List ℕ) → filter p xs ≡ [] → filter p (every q w xs) ≡ []
unfolding every
none p q w [] e = refl
none p q zero (x ∷ xs) e = first (p x) (none p q (q - 1) xs) e
  where
    first : (b : Bool) → (filter p xs ≡ [] → filter p (every q (q - 1) xs) ≡ []) →
        (if b then x ∷ filter p xs else filter p xs) ≡ []
        → (if b then x ∷ filter p (every q (q - 1) xs) else filter p (every q (q - 1) xs)) ≡ []
    first true on f = absurd (cc f)
    first false on f = on f
none p q (suc w) (x ∷ xs) e = none p q w xs (rest (p x) e)
  where
    rest : (b : Bool) → (if b then x ∷ filter p xs else filter p xs) ≡ [] → filter p xs ≡ []
    rest true f = absurd (cc f)
    rest false f = f

fewer : (p : ℕ → Bool) (xs : List ℕ) → length (filter p xs) ≤ length xs
fewer p [] = omega arith
fewer p (x ∷ xs) = one (p x) (fewer p xs)
  where
    one : (b : Bool) → length (filter p xs) ≤ length xs → length (if b then x ∷ filter p xs else filter p xs) ≤ length (x ∷ xs)
    one true k = omega (arith, k)
    one false k = omega (arith, k)

none_of_zones : (p : ℕ → Bool) (f : ℕ → List ℕ) (z : ℕ) (zs : List ℕ) → AllAbove z zs →
    ((y : ℕ) → (z ≡ y → ⊥) → filter p (f y) ≡ []) → filter p (flat_map f zs) ≡ []
none_of_zones p f z [] a other = refl
none_of_zones p f z (y ∷ ys) a other =
    rw (filter-append p (f y) (flat_map f ys), other y (λ e. absurd (omega (arith, e, a.0)))) (none_of_zones p f z ys a.1 other)

-- where a zone's drives stand together and are at most q * c, no group gets more than c of them
pub few_of_zone : (p : ℕ → Bool) (f : ℕ → List ℕ) (z q c w : ℕ) (zs : List ℕ) → 0 < q → Rising zs → length (f z) ≤ q * c
    → ((y : ℕ) → (z ≡ y → ⊥) → filter p (f y) ≡ []) → length (filter p (every q w (flat_map f zs))) ≤ c
few_of_zone p f z q c w [] lo r l other = rw (none p q w [] refl) (omega arith)
few_of_zone p f z q c w (y ∷ ys) lo r l other =
    let v = left q w (f y) in
    let kept : filter p (every q w (f y ++ flat_map f ys)) ≡ filter p (every q w (f y)) ++ filter p (every q v (flat_map f ys)) =
    ap (filter p) (every_more q w (f y) (flat_map f ys)) ∙ filter-append p (every q w (f y)) (every q v (flat_map f ys)) in
    elim (cases_eq z y) [
      | inl e ↦
          let rest : filter p (every q v (flat_map f ys)) ≡ [] =
          none p q v (flat_map f ys) (none_of_zones p f z ys (rw (← e) at r.0) other) in
          let few_here : length (every q w (f y)) ≤ c = few q c w (f y) lo (omega (arith, rw e at l)) in
          omega (
            arith,
            ap length (kept ∙ ap (λ (l : List ℕ). filter p (every q w (f y)) ++ l) rest),
            length_same (filter p (every q w (f y))),
            fewer p (every q w (f y)),
            few_here,
          )
      | inr ne ↦ rw (kept, none p q w (f y) (other y ne)) (few_of_zone p f z q c v ys lo r.1 l other)
    ]
  where
    length_same : (xs : List ℕ) → length (xs ++ []) ≡ length xs
    length_same [] = refl
    length_same (x ∷ xs) = omega (arith, length_same xs)

-- of a part of the line in front no more than of the whole
pub few_of_front : (p : ℕ → Bool) (q w k : ℕ) (xs : List ℕ) →
    length (filter p (every q w (take k xs))) ≤ length (filter p (every q w xs))
few_of_front p q w k xs =
    let whole : every q w xs ≡ every q w (take k xs) ++ every q (left q w (take k xs)) (drop k xs) =
    ap (every q w) (sym (take-append-drop k xs)) ∙ every_more q w (take k xs) (drop k xs) in
    omega (
      arith,
      ap (λ l. length (filter p l)) whole,
      ap length (filter-append p (every q w (take k xs)) (every q (left q w (take k xs)) (drop k xs))),
      length-append (filter p (every q w (take k xs))) (filter p (every q (left q w (take k xs)) (drop k xs))),
    )

-- ---- nothing is lost, and nothing comes twice

-- f of the numbers below m, summed
turns : (ℕ → ℕ) → ℕ → ℕ
turns f zero = 0
turns f (suc m) = f 0 + turns (λ j. f (suc j)) m

turns_last : (f : ℕ → ℕ) (m : ℕ) → turns f (suc m) ≡ turns f m + f m
unfolding turns
turns_last f zero = omega arith
turns_last f (suc m) = omega (arith, turns_last (λ j. f (suc j)) m)

turns_none : (m : ℕ) → turns (λ j. 0) m ≡ 0
unfolding turns
turns_none zero = refl
turns_none (suc m) = omega (arith, turns_none m)

turns_every : (n q : ℕ) (xs : List ℕ) → turns (λ j. times n (every (suc q) j xs)) (suc q) ≡ times n xs
unfolding turns every
turns_every n q [] = turns_none (suc q)
turns_every n q (x ∷ xs) =
    let wait : suc q - 1 ≡ q = omega arith in
    omega (
      arith,
      turns_every n q xs,
      turns_last (λ j. times n (every (suc q) j xs)) q,
      ap (λ k. times n (every (suc q) k xs)) wait,
    )

turns_same : (f g : ℕ → ℕ) (m : ℕ) → ((j : ℕ) → f j ≡ g j) → turns f m ≡ turns g m
unfolding turns
turns_same f g zero same = refl
turns_same f g (suc m) same = omega (arith, same 0, turns_same (λ j. f (suc j)) (λ j. g (suc j)) m (λ j. same (suc j)))

times_counted : (n : ℕ) (f : ℕ → List ℕ) (a m : ℕ) → times n (flat_map f (counted a m)) ≡ turns (λ j. times n (f (a + j))) m
unfolding turns counted
times_counted n f a zero = refl
times_counted n f a (suc m) =
    let first : a + 0 ≡ a = omega arith in
    let rest : turns (λ j. times n (f (a + 1 + j))) m ≡ turns (λ j. times n (f (a + suc j))) m =
    turns_same (λ j. times n (f (a + 1 + j))) (λ j. times n (f (a + suc j))) m (λ j. ap (λ k. times n (f k)) (next j)) in
    rw (times-append n (f a) (flat_map f (counted (a + 1) m)), first)
    (ap (λ k. times n (f a) + k) (times_counted n f (a + 1) m ∙ rest))
  where
    next : (j : ℕ) → a + 1 + j ≡ a + suc j
    next j = omega arith

pub times_dealt : (n q : ℕ) (xs : List ℕ) → 0 < q → times n (flat_map (λ j. every q j xs) (counted 0 q)) ≡ times n xs
times_dealt n zero xs lo = absurd (omega (arith, lo))
times_dealt n (suc q) xs lo =
    times_counted n (λ j. every (suc q) j xs) 0 (suc q)
    ∙ turns_same (λ j. times n (every (suc q) (0 + j) xs)) (λ j. times n (every (suc q) j xs)) (suc q)
    (λ j. ap (λ k. times n (every (suc q) k xs)) (from_zero j))
    ∙ turns_every n q xs
  where
    from_zero : (j : ℕ) → 0 + j ≡ j
    from_zero j = omega arith

-- ---- group after group

pub all_counted : (p : ℕ → Bool) (a m : ℕ) → ((i : ℕ) → i < m → p (a + i) ≡ true) → list_all p (counted a m) ≡ true
unfolding counted
all_counted p a zero h = refl
all_counted p a (suc m) h =
    let first : a + 0 ≡ a = omega arith in
    rw (rw first at (h 0 (omega arith))) (all_counted p (a + 1) m (λ i l. ap p (next i) ∙ h (i + 1) (omega (arith, l))))
  where
    next : (i : ℕ) → a + 1 + i ≡ a + (i + 1)
    next i = omega arith

-- the lists of all turns, one after another, are cut into them again
pub group_of_turns : (f : ℕ → List ℕ) (size a m i : ℕ) → ((j : ℕ) → j < m → length (f (a + j)) ≡ size) → i < m
    → take size (drop (i * size) (flat_map f (counted a m))) ≡ f (a + i)
unfolding counted
group_of_turns f size a zero i len l = absurd (omega (arith, l))
group_of_turns f size a (suc m) zero len l =
    let first : a + 0 ≡ a = omega arith in
    let none : 0 * size ≡ 0 = omega arith in
    let here : size ≡ length (f a) = sym (rw first at (len 0 (omega arith))) in
    rw (none, first, here) (take-append_seam (f a) (flat_map f (counted (a + 1) m)))
group_of_turns f size a (suc m) (suc i) len l =
    let first : a + 0 ≡ a = omega arith in
    let here : length (f a) ≡ size = rw first at (len 0 (omega arith)) in
    let far : suc i * size ≡ length (f a) + i * size = omega (arith, here, more) in
    rw (far, drop-append-add (f a) (flat_map f (counted (a + 1) m)) (i * size))
    (group_of_turns f size (a + 1) m i (λ j k. ap (λ n. length (f n)) (next j) ∙ len (suc j) (omega (arith, k)))
    (omega (arith, l)) ∙ ap f (next i))
  where
    next : (j : ℕ) → a + 1 + j ≡ a + suc j
    next j = omega arith

    more : suc i * size ≡ size + i * size
    more = omega arith

pub length_turns : (f : ℕ → List ℕ) (size a m : ℕ) → ((j : ℕ) → j < m → length (f (a + j)) ≡ size) →
    length (flat_map f (counted a m)) ≡ m * size
unfolding counted
length_turns f size a zero len = omega arith
length_turns f size a (suc m) len =
    let first : a + 0 ≡ a = omega arith in
    omega (
      arith,
      length-append (f a) (flat_map f (counted (a + 1) m)),
      rw first at (len 0 (omega arith)),
      length_turns f size (a + 1) m (λ j k. ap (λ n. length (f n)) (next j) ∙ len (suc j) (omega (arith, k))),
      more,
    )
  where
    next : (j : ℕ) → a + 1 + j ≡ a + suc j
    next j = omega arith

    more : suc m * size ≡ size + m * size
    more = omega arith
