-- Commands by their nonces: what the entries of a map say of the list of its values.
use Rattle.std.proofs.Common.{◌≡◌, ◌<◌, ℕ, ◌==◌, ◌++◌, nat_lt, Bool, true, false, not, List, [], ◌∷◌, refl, sym, ap, ◌∙◌, arith, inl, inr}
use Rattle.std.specs.Prelude.{if◌then◌else◌, filter, find, is_some, Option, Some, None}
use Rattle.std.specs.List.{All, AllByRecursion}
use Rattle.std.specs.List.Sorted.{IsStrictlySortedBy}
use Rattle.std.specs.Map.{keys_of, values_of, lookup, remove_entry}
use Rattle.std.specs.BTreeMap.{insert_entry, is_at}
use Rattle.std.specs.Ordering.{nat_cmp, is_lt}
use Rattle.std.specs.declared.cmp.Ordering.TheVariants.{Less, Greater}
use Rattle.std.proofs.lemmas.Bool.{cases_Bool}
use Rattle.std.proofs.lemmas.Bool.Decides.{nat_tests}
use Rattle.std.proofs.lemmas.List.Elements.{All-head, All-tail}
use Rattle.std.proofs.lemmas.Map.Keys.{sorted_head, sorted_tail, ge_from_not_lt}
use Rattle.osd_lists.proofs.Tests.{at_number}
use Rattle.call_commands.specs.State.{Awaited, TimedOut}
use Rattle.client_rules.specs.Commands.{others, not_of, of_component, before}
use Rattle.client_rules.specs.Io.{first_of}
use Rattle.call_commands.specs.Pending.{AreKeyed, answering, left_by, as_timed, nearer, first_by, first_among, lower, lowest_by, lowest_among}
use Rattle.client_rules.specs.Steps.{lowest_with}

-- ---- one more, behind all

greater : (n k : ℕ) → k < n → nat_cmp n k ≡ Greater
greater n k l = grind (arith, nat_tests, l)

below_all : (ks : List ℕ) (last n : ℕ) → All (λ q. is_lt (nat_cmp last q) ≡ false) ks → last < n → AllByRecursion (λ q. q < n) ks
below_all [] last n h l = tt
below_all (k ∷ ks) last n h l = (
  omega (arith, ge_from_not_lt last k (All-head (λ q. is_lt (nat_cmp last q) ≡ false) k ks h), l),
  below_all ks last n (All-tail (λ q. is_lt (nat_cmp last q) ≡ false) k ks h) l,
)

insert_behind : (es : List (ℕ × Awaited)) (n : ℕ) (a : Awaited) → AllByRecursion (λ q. q < n) (keys_of es) →
    insert_entry nat_cmp es n a ≡ es ++ (n, a) ∷ []
insert_behind [] n a h = refl
insert_behind (e ∷ es) n a h = rw (greater n e.0 h.0) (ap (λ xs. e ∷ xs) (insert_behind es n a h.1))

pub insert_last : (es : List (ℕ × Awaited)) (last n : ℕ) (a : Awaited) → All (λ q. is_lt (nat_cmp last q) ≡ false) (keys_of es) →
    last < n → insert_entry nat_cmp es n a ≡ es ++ (n, a) ∷ []
insert_last es last n a h l = insert_behind es n a (below_all (keys_of es) last n h l)

-- ---- the one with a nonce

nonce_is : (n : ℕ) (e : ℕ × Awaited) → e.1.command.nonce ≡ e.0 → (e.1.command.nonce == n) ≡ (e.0 == n)
nonce_is n e h = ap (λ (z : ℕ). z == n) h

-- the keys behind one are others
apart : (j n : ℕ) (ks : List ℕ) → (j == n) ≡ true → AllByRecursion (λ y. nat_cmp j y ≡ Less) ks →
    AllByRecursion (λ y. (y == n) ≡ false) ks
apart j n [] t h = tt
apart j n (k ∷ ks) t h = (grind (arith, nat_tests, t, h.0), apart j n ks t h.1)

none_found : (d n : ℕ) (es : List (ℕ × Awaited)) → AreKeyed es → AllByRecursion (λ y. (y == n) ≡ false) (keys_of es) →
    find (answering d n) (values_of es) ≡ None
none_found d n [] h x = refl
none_found d n (e ∷ es) h x = rw (nonce_is n e h.0 ∙ x.0) (none_found d n es h.1 x.1)

all_stay : (n : ℕ) (es : List (ℕ × Awaited)) → AreKeyed es → AllByRecursion (λ y. (y == n) ≡ false) (keys_of es) →
    filter (λ (a : Awaited). not (a.command.nonce == n)) (values_of es) ≡ values_of es
all_stay n [] h x = refl
all_stay n (e ∷ es) h x = rw (nonce_is n e h.0 ∙ x.0) (ap (λ xs. e.1 ∷ xs) (all_stay n es h.1 x.1))

-- the command that is looked up, where it is to this drive
abbrev pub of_drive : (drive : ℕ) → Option Awaited → Option Awaited
of_drive d None = None
of_drive d (Some a) = if a.drive == d then Some a else None

pub drive_told : (b : Bool) (a : Awaited) → b ≡ is_some (if b then Some a else None)
drive_told true a = refl
drive_told false a = refl

kept_if : (b : Bool) (a : Awaited) → is_some (if b then Some a else None) ≡ true → (if b then Some a else None) ≡ Some a
kept_if true a e = refl
kept_if false a e = absurd (cc e)

pub kept_drive : (d : ℕ) (o : Option Awaited) → is_some (of_drive d o) ≡ true → of_drive d o ≡ o
kept_drive d None e = refl
kept_drive d (Some a) e = kept_if (a.drive == d) a e

pub left_is : (xs : List Awaited) (n : ℕ) (o : Option Awaited) → is_some o ≡ true →
    ((a : Awaited) → o ≡ Some a → a.command.nonce ≡ n) → left_by xs o ≡ others xs n
left_is xs n None e h = absurd (cc e)
left_is xs n (Some a) e h = ap (others xs) (h a refl)

either_none : (b : Bool) (x : Option Awaited) (a : Awaited) → x ≡ None → (if b then Some a else x) ≡ (if b then Some a else None)
either_none true x a e = refl
either_none false x a e = e

pub found : (d n : ℕ) (es : List (ℕ × Awaited)) → AreKeyed es → IsStrictlySortedBy nat_cmp (keys_of es) →
    find (answering d n) (values_of es) ≡ of_drive d (lookup (is_at (nat_cmp n)) es)
found d n [] h s = refl
found d n (e ∷ es) h s = elim (cases_Bool (e.0 == n)) [
  | inl t ↦ rw (at_number n e.0 ∙ t, nonce_is n e h.0 ∙ t)
      (either_none (e.1.drive == d) _ e.1
      (none_found d n es h.1 (apart e.0 n (keys_of es) t (sorted_head nat_cmp e.0 (keys_of es) s))))
  | inr f ↦ rw (at_number n e.0 ∙ f, nonce_is n e h.0 ∙ f) (found d n es h.1 (sorted_tail nat_cmp e.0 (keys_of es) s))
]

pub found_any : (n : ℕ) (es : List (ℕ × Awaited)) → AreKeyed es →
    find (λ (a : Awaited). a.command.nonce == n) (values_of es) ≡ lookup (is_at (nat_cmp n)) es
found_any n [] h = refl
found_any n (e ∷ es) h = elim (cases_Bool (e.0 == n)) [
  | inl t ↦ rw (at_number n e.0 ∙ t, nonce_is n e h.0 ∙ t) refl
  | inr f ↦ rw (at_number n e.0 ∙ f, nonce_is n e h.0 ∙ f) (found_any n es h.1)
]

pub taken_out : (n : ℕ) (es : List (ℕ × Awaited)) → AreKeyed es → IsStrictlySortedBy nat_cmp (keys_of es) →
    values_of (remove_entry (is_at (nat_cmp n)) es) ≡ others (values_of es) n
unfolding others
taken_out n [] h s = refl
taken_out n (e ∷ es) h s = elim (cases_Bool (e.0 == n)) [
  | inl t ↦ rw (at_number n e.0 ∙ t, nonce_is n e h.0 ∙ t)
      (sym (all_stay n es h.1 (apart e.0 n (keys_of es) t (sorted_head nat_cmp e.0 (keys_of es) s))))
  | inr f ↦ rw (at_number n e.0 ∙ f, nonce_is n e h.0 ∙ f)
      (ap (λ xs. e.1 ∷ xs) (taken_out n es h.1 (sorted_tail nat_cmp e.0 (keys_of es) s)))
]

-- a command that is looked up has the nonce
pub nonce_there : (n : ℕ) (es : List (ℕ × Awaited)) (a : Awaited) → AreKeyed es → lookup (is_at (nat_cmp n)) es ≡ Some a →
    a.command.nonce ≡ n
nonce_there n [] a h e = absurd (cc e)
nonce_there n (e ∷ es) a h x = elim (cases_Bool (e.0 == n)) [
  | inl t ↦
      let at : is_at (nat_cmp n) e.0 ≡ true = at_number n e.0 ∙ t in
      let same : e.1 ≡ a = cc (rw at at x) in
      ap (λ (b : Awaited). b.command.nonce) (sym same) ∙ h.0 ∙ grind (arith, nat_tests, t)
  | inr f ↦
      let at : is_at (nat_cmp n) e.0 ≡ false = at_number n e.0 ∙ f in
      nonce_there n es a h.1 (rw at at x)
]

pub keyed_without : (n : ℕ) (es : List (ℕ × Awaited)) → AreKeyed es → AreKeyed (remove_entry (is_at (nat_cmp n)) es)
keyed_without n [] h = tt
keyed_without n (e ∷ es) h = elim (cases_Bool (is_at (nat_cmp n) e.0)) [
  | inl t ↦ rw t h.1
  | inr f ↦ rw f (h.0, keyed_without n es h.1)
]

-- ---- those to other components

pub keyed_kept : (p : ℕ × Awaited → Bool) (es : List (ℕ × Awaited)) → AreKeyed es → AreKeyed (filter p es)
keyed_kept p [] h = tt
keyed_kept p (e ∷ es) h = elim (cases_Bool (p e)) [
  | inl t ↦ rw t (h.0, keyed_kept p es h.1)
  | inr f ↦ rw f (keyed_kept p es h.1)
]

pub kept_values : (k : ℕ) (es : List (ℕ × Awaited)) →
    values_of (filter (λ (e : ℕ × Awaited). not (e.1.ask.component == k)) es) ≡ not_of k (values_of es)
unfolding not_of
kept_values k [] = refl
kept_values k (e ∷ es) = elim (cases_Bool (e.1.ask.component == k)) [
  | inl t ↦ rw t (kept_values k es)
  | inr f ↦ rw f (ap (λ xs. e.1 ∷ xs) (kept_values k es))
]

-- ---- the first to a component

first_step : (k : ℕ) (xs : List Awaited) (a : Awaited) → first_by (Some (as_timed a)) k xs ≡ Some (first_of a (of_component k xs))
unfolding first_by first_of of_component
first_step k [] a = refl
first_step k (b ∷ bs) a = elim (cases_Bool (b.ask.component == k)) [
  | inl t ↦ elim (cases_Bool (before b.ask a.ask)) [
    | inl u ↦ rw (t, u) (first_step k bs b)
    | inr u ↦ rw (t, u) (first_step k bs a)
  ]
  | inr f ↦ rw f (first_step k bs a)
]

pub first_turn : (t : Option TimedOut) (k : ℕ) (a : Awaited) (xs : List Awaited) →
    first_by t k (a ∷ xs) ≡ first_by (nearer t a k) k xs
unfolding first_by
first_turn t k a xs = refl

pub first_end : (t : Option TimedOut) (k : ℕ) → first_by t k [] ≡ t
unfolding first_by
first_end t k = refl

pub first_found : (k : ℕ) (xs : List Awaited) → first_by None k xs ≡ first_among (of_component k xs)
unfolding first_by of_component
first_found k [] = refl
first_found k (b ∷ bs) = elim (cases_Bool (b.ask.component == k)) [
  | inl t ↦ rw t (first_step k bs b)
  | inr f ↦ rw f (first_found k bs)
]

-- ---- the lowest component

lowest_step : (xs : List Awaited) (k : ℕ) → lowest_by (Some k) xs ≡ Some (lowest_with k xs)
unfolding lowest_by lowest_with
lowest_step [] k = refl
lowest_step (a ∷ xs) k = elim (cases_Bool (nat_lt a.ask.component k)) [
  | inl t ↦ rw t (lowest_step xs a.ask.component)
  | inr f ↦ rw f (lowest_step xs k)
]

pub lowest_turn : (j : Option ℕ) (a : Awaited) (xs : List Awaited) →
    lowest_by j (a ∷ xs) ≡ lowest_by (Some (lower j a.ask.component)) xs
unfolding lowest_by
lowest_turn j a xs = refl

pub lowest_end : (j : Option ℕ) → lowest_by j [] ≡ j
unfolding lowest_by
lowest_end j = refl

pub lowest_found : (xs : List Awaited) → lowest_by None xs ≡ lowest_among xs
unfolding lowest_by
lowest_found [] = refl
lowest_found (a ∷ xs) = lowest_step xs a.ask.component
