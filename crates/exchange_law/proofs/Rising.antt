-- Lists of nonces that rise in their grants.
use Rattle.std.proofs.Common.{◌≡◌, ◌≢◌, ◌<◌, ◌≤◌, ◌⊎◌, ℕ, zero, suc, ◌+◌, List, [], ◌∷◌, ◌++◌, refl, sym, ◌∙◌, inl, inr, arith}
use Rattle.std.specs.List.{range_with_len}
use Rattle.exchange_law.specs.ClientNonces.{NoneIs, AllDiffer, grant_of, AreBehind, RiseInGrants}

-- ---- of every member

abbrev pub Each : (ℕ → Type 0) → List ℕ → Type 0
Each P [] = Unit {0}
Each P (x ∷ xs) = P x × Each P xs

pub each_more : (P : ℕ → Type 0) (xs ys : List ℕ) → Each P xs → Each P ys → Each P (xs ++ ys)
each_more P [] ys x y = y
each_more P (a ∷ xs) ys x y = (x.0, each_more P xs ys x.1 y)

pub each_map : (P Q : ℕ → Type 0) → ((x : ℕ) → P x → Q x) → (xs : List ℕ) → Each P xs → Each Q xs
each_map P Q f [] x = tt
each_map P Q f (a ∷ xs) x = (f a x.0, each_map P Q f xs x.1)

pub each_range : (P : ℕ → Type 0) (a n : ℕ) → ((y : ℕ) → a ≤ y → y < a + n → P y) → Each P (range_with_len a n)
each_range P a zero f = tt
each_range P a (suc n) f =
    (f a (omega arith) (omega arith), each_range P (a + 1) n (λ y l m. f y (omega (arith, l)) (omega (arith, m))))

-- ---- members

abbrev pub IsAmong : ℕ → List ℕ → Type 0
IsAmong x [] = ⊥
IsAmong x (y ∷ ys) = (x ≡ y) ⊎ IsAmong x ys

pub among_more : (x : ℕ) (xs ys : List ℕ) → IsAmong x xs → IsAmong x (xs ++ ys)
among_more x [] ys i = absurd i
among_more x (y ∷ xs) ys (inl e) = inl e
among_more x (y ∷ xs) ys (inr i) = inr (among_more x xs ys i)

pub among_last : (x : ℕ) (xs : List ℕ) → IsAmong x (xs ++ x ∷ [])
among_last x [] = inl refl
among_last x (y ∷ xs) = inr (among_last x xs)

none_is_last : (x y : ℕ) (xs : List ℕ) → NoneIs x (xs ++ y ∷ []) → x ≢ y
none_is_last x y [] n = n.0
none_is_last x y (z ∷ xs) n = none_is_last x y xs n.1

-- the last one is none of those before it
pub last_is_new : (xs : List ℕ) (x y : ℕ) → AllDiffer (xs ++ y ∷ []) → IsAmong x xs → x ≢ y
last_is_new [] x y d i = absurd i
last_is_new (z ∷ xs) x y d (inl e) = λ s. none_is_last z y xs d.0 (sym e ∙ s)
last_is_new (z ∷ xs) x y d (inr i) = last_is_new xs x y d.1 i

none_before : (x : ℕ) (xs ys : List ℕ) → NoneIs x (xs ++ ys) → NoneIs x xs
none_before x [] ys n = tt
none_before x (y ∷ xs) ys n = (n.0, none_before x xs ys n.1)

pub differ_before : (xs ys : List ℕ) → AllDiffer (xs ++ ys) → AllDiffer xs
differ_before [] ys d = tt
differ_before (x ∷ xs) ys d = (none_before x xs ys d.0, differ_before xs ys d.1)

-- ---- nonces that rise

behind_none : (x : ℕ) (ys : List ℕ) → AreBehind x ys → NoneIs x ys
behind_none x [] b = tt
behind_none x (y ∷ ys) b = (λ e. let less : x < y = b.0 (rw e refl) in omega (arith, less, e), behind_none x ys b.1)

pub rising_differ : (xs : List ℕ) → RiseInGrants xs → AllDiffer xs
rising_differ [] r = tt
rising_differ (x ∷ xs) r = (behind_none x xs r.0, rising_differ xs r.1)

-- numbers one after another are behind any number before them
behind_range : (x a n : ℕ) → x < a → AreBehind x (range_with_len a n)
behind_range x a zero l = tt
behind_range x a (suc n) l = (λ e. l, behind_range x (a + 1) n (omega (arith, l)))

pub range_rises : (a n : ℕ) → RiseInGrants (range_with_len a n)
range_rises a zero = tt
range_rises a (suc n) = (behind_range a (a + 1) n (omega arith), range_rises (a + 1) n)

-- numbers of grant g are behind those that are below them, if they are of that grant
behind_of : (g x a n : ℕ) → (grant_of x ≡ g → x < a) → Each (λ y. grant_of y ≡ g) (range_with_len a n) →
    AreBehind x (range_with_len a n)
behind_of g x a zero l e = tt
behind_of g x a (suc n) l e =
    (λ s. l (s ∙ e.0), behind_of g x (a + 1) n (λ s. let less : x < a = l s in omega (arith, less)) e.1)

behind_more : (x : ℕ) (xs ys : List ℕ) → AreBehind x xs → AreBehind x ys → AreBehind x (xs ++ ys)
behind_more x [] ys a b = b
behind_more x (z ∷ xs) ys a b = (a.0, behind_more x xs ys a.1 b)

pub rises_more : (g a n : ℕ) (xs : List ℕ) → RiseInGrants xs → Each (λ x. grant_of x ≡ g → x < a) xs →
    Each (λ y. grant_of y ≡ g) (range_with_len a n) →
    RiseInGrants (xs ++ range_with_len a n)
rises_more g a n [] r l e = range_rises a n
rises_more g a n (x ∷ xs) r l e =
    (behind_more x xs (range_with_len a n) r.0 (behind_of g x a n l.0 e), rises_more g a n xs r.1 l.1 e)
