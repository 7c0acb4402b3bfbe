-- Messages among others, and the first of them that has the bytes.
use Rattle.std.proofs.Common.{◌≡◌, ℕ, zero, suc, ◌+◌, ◌<◌, ◌≤◌, ◌++◌, ◌∷◌, [], List, Bool, true, false, not, cond, nat_lt, Option, Some, None, is_none, option_map, length, position, slice_get, slice_set, refl, sym, ap, ◌∙◌, arith, inl, inr, if◌then◌else◌}
use Rattle.std.specs.List.{position_or_len}
use Rattle.std.proofs.lemmas.Bool.{cases_Bool}
use Rattle.std.proofs.lemmas.Bool.Decides.{nat_tests}
use Rattle.world_history.specs.declared.messages.Sent.{Sent}
use Rattle.world_history.specs.Guesses.{was_sent}
use Rattle.world_watch.specs.Sighted.{is_same, is_same_at, first_same}
use Rattle.world_watch.specs.Tied.{AreBelow, BeginWith}

-- ---- messages among others

pub below_more : (n m : ℕ) → n ≤ m → (ks : List ℕ) → AreBelow n ks → AreBelow m ks
below_more n m l [] b = b
below_more n m l (k ∷ ks) b = (omega (arith, l, b.0), below_more n m l ks b.1)

pub below_push : (n : ℕ) (ks : List ℕ) → AreBelow n ks → AreBelow (n + 1) (ks ++ n ∷ [])
below_push n [] b = (omega arith, tt)
below_push n (k ∷ ks) b = (omega (arith, b.0), below_push n ks b.1)

pub get_front : (xs : List Sent) (m : Sent) (k : ℕ) → k < length xs → slice_get (xs ++ m ∷ []) k ≡ slice_get xs k
get_front [] m k l = absurd (omega (arith, l))
get_front (x ∷ xs) m zero l = refl
get_front (x ∷ xs) m (suc k) l = get_front xs m k (omega (arith, l))

-- one that becomes another with the same receiver and bytes
pub same_set : (xs : List Sent) (n k : ℕ) (s s' : Sent) (d : ℕ) (bytes : List ℕ) → slice_get xs n ≡ Some s
    → is_same d bytes s' ≡ is_same d bytes s
    → is_same_at d bytes (slice_get (slice_set xs n s') k) ≡ is_same_at d bytes (slice_get xs k)
same_set [] n k s s' d bytes e q = refl
same_set (x ∷ xs) zero zero s s' d bytes e q =
    let same : x ≡ s = cc in
    q ∙ ap (λ y. is_same d bytes y) (sym same)
same_set (x ∷ xs) zero (suc k) s s' d bytes e q = refl
same_set (x ∷ xs) (suc n) zero s s' d bytes e q = refl
same_set (x ∷ xs) (suc n) (suc k) s s' d bytes e q = same_set xs n k s s' d bytes e q

-- ---- the first of some

pub first_begins : (ms sent : List Sent) (d : ℕ) (bytes ns : List ℕ) → BeginWith ms sent → AreBelow (length sent) ns
    → first_same ms d bytes ns ≡ first_same sent d bytes ns
unfolding first_same
first_begins ms sent d bytes [] w b = refl
first_begins ms sent d bytes (n ∷ ns) w b =
    ap (λ t. cond t (Some n) (first_same ms d bytes ns)) (w n b.0 d bytes)
    ∙ ap (λ r. cond (is_same_at d bytes (slice_get sent n)) (Some n) r) (first_begins ms sent d bytes ns w b.1)

-- the first of two, where the second stands behind the first
abbrev pub or_end : Option ℕ → Bool → (end : ℕ) → Option ℕ
or_end None b end = if b then Some end else None
or_end (Some k) b end = Some k

pub first_pushed : (ms : List Sent) (d : ℕ) (bytes ns : List ℕ) (k : ℕ)
    → first_same ms d bytes (ns ++ k ∷ [])
    ≡ or_end (first_same ms d bytes ns) (is_same_at d bytes (slice_get ms k)) k
unfolding first_same
first_pushed ms d bytes [] k = refl
first_pushed ms d bytes (n ∷ ns) k = elim (cases_Bool (is_same_at d bytes (slice_get ms n))) [
  | inl t ↦ rw t refl
  | inr f ↦ rw f (first_pushed ms d bytes ns k)
]

-- ---- the first of all

abbrev next : Option ℕ → Option ℕ
next o = option_map (λ (n : ℕ). suc n) o

place_more : (a b : ℕ) → cond (nat_lt (1 + a) (suc b)) (Some (1 + a)) None ≡ next (cond (nat_lt a b) (Some a) None)
place_more a b = elim (cases_Bool (nat_lt a b)) [
  | inl t ↦
      let u : nat_lt (1 + a) (suc b) ≡ true = grind (arith, nat_tests, t) in
      let one : 1 + a ≡ suc a = omega arith in
      rw (u, t) (ap (λ (n : ℕ). Some n) one)
  | inr f ↦
      let u : nat_lt (1 + a) (suc b) ≡ false = grind (arith, nat_tests, f) in
      rw (u, f) refl
]

place_here : (p : Sent → Bool) (x : Sent) (xs : List Sent) → p x ≡ true → position p (x ∷ xs) ≡ Some 0
place_here p x xs t =
    let first : nat_lt 0 (suc (length xs)) ≡ true = grind (arith, nat_tests) in
    rw (t, first) refl

place_after : (p : Sent → Bool) (x : Sent) (xs : List Sent) → p x ≡ false
    → position p (x ∷ xs) ≡ next (position p xs)
place_after p x xs f = rw f (place_more (position_or_len p xs) (length xs))

next_or_end : (o : Option ℕ) (b : Bool) (end : ℕ) → next (or_end o b end) ≡ or_end (next o) b (suc end)
next_or_end None true end = refl
next_or_end None false end = refl
next_or_end (Some k) b end = refl

pub place_pushed : (p : Sent → Bool) (xs : List Sent) (m : Sent)
    → position p (xs ++ m ∷ []) ≡ or_end (position p xs) (p m) (length xs)
place_pushed p [] m = elim (cases_Bool (p m)) [ inl t ↦ rw t refl | inr f ↦ rw f refl ]
place_pushed p (x ∷ xs) m = elim (cases_Bool (p x)) [
  | inl t ↦ place_here p x (xs ++ m ∷ []) t ∙ ap (λ (o : Option ℕ). or_end o (p m) (length (x ∷ xs))) (sym (place_here p x xs t))
  | inr f ↦
      place_after p x (xs ++ m ∷ []) f ∙ ap (λ (o : Option ℕ). next o) (place_pushed p xs m)
      ∙ next_or_end (position p xs) (p m) (length xs)
      ∙ ap (λ (o : Option ℕ). or_end o (p m) (length (x ∷ xs))) (sym (place_after p x xs f))
]

-- there is one exactly where the test of the definition says so
pub place_sent : (xs : List Sent) (d : ℕ) (bytes : List ℕ)
    → is_none (position (is_same d bytes) xs) ≡ not (was_sent xs d bytes)
place_sent [] d bytes = refl
place_sent (x ∷ xs) d bytes = elim (cases_Bool (is_same d bytes x)) [
  | inl t ↦ ap (λ (o : Option ℕ). is_none o) (place_here (is_same d bytes) x xs t) ∙ rw t refl
  | inr f ↦
      ap (λ (o : Option ℕ). is_none o) (place_after (is_same d bytes) x xs f) ∙ none_next (position (is_same d bytes) xs)
      ∙ place_sent xs d bytes ∙ rw f refl
]
  where
    none_next : (o : Option ℕ) → is_none (next o) ≡ is_none o
    none_next None = refl
    none_next (Some k) = refl

-- of messages that are alike in their receivers and bytes
pub place_alike : (xs ys : List Sent) (d : ℕ) (bytes : List ℕ) → length ys ≡ length xs
    → ((k : ℕ) → is_same_at d bytes (slice_get ys k) ≡ is_same_at d bytes (slice_get xs k))
    → position (is_same d bytes) ys ≡ position (is_same d bytes) xs
place_alike [] [] d bytes n same = refl
place_alike [] (y ∷ ys) d bytes n same = absurd (omega (arith, n))
place_alike (x ∷ xs) [] d bytes n same = absurd (omega (arith, n))
place_alike (x ∷ xs) (y ∷ ys) d bytes n same =
    let rest : position (is_same d bytes) ys ≡ position (is_same d bytes) xs =
    place_alike xs ys d bytes (omega (arith, n)) (λ k. same (suc k)) in
    elim (cases_Bool (is_same d bytes x)) [
      | inl t ↦ place_here (is_same d bytes) y ys (same 0 ∙ t) ∙ sym (place_here (is_same d bytes) x xs t)
      | inr f ↦
          place_after (is_same d bytes) y ys (same 0 ∙ f) ∙ ap (λ (o : Option ℕ). next o) rest
          ∙ sym (place_after (is_same d bytes) x xs f)
    ]
