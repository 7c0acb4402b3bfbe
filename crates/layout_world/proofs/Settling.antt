-- Messages of which none is pending up to a place.
use Rattle.std.proofs.Common.{◌≡◌, ℕ, zero, suc, ◌+◌, ◌≤◌, ◌<◌, ◌++◌, ◌∷◌, [], ◌⊎◌, inl, inr, List, false, Option, Some, None, length, slice_get, slice_set, refl, sym, ap, ◌∙◌, arith, length-append}
use Rattle.std.proofs.lemmas.Bool.{cases_lt}
use Rattle.osd_lists.proofs.Slices.{length_set}
use Rattle.world_history.specs.declared.messages.Sent.{Sent}
use Rattle.world_network.specs.Network.{is_pending, NonePending, IsLowestPending, PendingIs}
use Rattle.layout_world.specs.State.{Settled}

-- ---- lists

pub get_front : (xs more : List Sent) (k : ℕ) → k < length xs → slice_get (xs ++ more) k ≡ slice_get xs k
get_front [] more k l = absurd (omega (arith, l))
get_front (x ∷ xs) more zero l = refl
get_front (x ∷ xs) more (suc k) l = get_front xs more k (omega (arith, l))

pub get_in : (xs : List Sent) (k : ℕ) (x : Sent) → slice_get xs k ≡ Some x → k < length xs
get_in [] k x e = absurd (cc e)
get_in (y ∷ xs) zero x e = omega arith
get_in (y ∷ xs) (suc k) x e = omega (arith, get_in xs k x e)

-- what stands in a list behind a change stood there, or is the change
get_set : (xs : List Sent) (n k : ℕ) (q p : Sent) → slice_get (slice_set xs n q) k ≡ Some p
    → (p ≡ q) ⊎ ((k ≡ n → ⊥) × (slice_get xs k ≡ Some p))
get_set [] n k q p e = absurd (cc e)
get_set (x ∷ xs) zero zero q p e = let same : q ≡ p = cc e in inl (sym same)
get_set (x ∷ xs) zero (suc k) q p e = inr (λ z. absurd (omega (arith, z)), e)
get_set (x ∷ xs) (suc n) zero q p e = inr (λ z. absurd (omega (arith, z)), e)
get_set (x ∷ xs) (suc n) (suc k) q p e = elim (get_set xs n k q p e) [
  | inl s ↦ inl s
  | inr s ↦ inr (λ z. s.0 (omega (arith, z)), s.1)
]

-- ---- settled messages

pub settled_more : (first end : ℕ) (ms more : List Sent) → Settled first end ms → Settled first end (ms ++ more)
settled_more first end ms more s = record {
  from = s.from;
  sent = rw (length-append ms more) (omega (arith, s.sent));
  none = λ k p f l e. s.none k p f l (sym (get_front ms more k (omega (arith, l, s.sent))) ∙ e);
}

pub settled_set : (first end number : ℕ) (ms : List Sent) (q : Sent) → is_pending q ≡ false → Settled first end ms
    → Settled first end (slice_set ms number q)
settled_set first end number ms q t s = record {
  from = s.from;
  sent = rw (length_set ms number q) s.sent;
  none = λ k p f l e. elim (get_set ms number k q p e) [
    | inl h ↦ ap (λ (x : Sent). is_pending x) h ∙ t
    | inr h ↦ s.none k p f l h.1
  ];
}

pub settled_next : (first next number : ℕ) (ms : List Sent) (q : Sent) → is_pending q ≡ false → Settled first next ms
    → IsLowestPending next number ms → Settled first (number + 1) (slice_set ms number q)
settled_next first next number ms q t s low =
    let inside : number < length ms = get_in ms number low.message low.found in
    record {
      from = omega (arith, s.from, low.from);
      sent = rw (length_set ms number q) (omega (arith, inside));
      none = λ k p f l e. elim (get_set ms number k q p e) [
        | inl h ↦ ap (λ (x : Sent). is_pending x) h ∙ t
        | inr h ↦ elim (cases_lt k next) [
          | inl b ↦ s.none k p f b h.1
          | inr b ↦ low.below k p b (below_other k number l h.0) h.1
        ]
      ];
    }
  where
    below_other : (k n : ℕ) → k < n + 1 → (k ≡ n → ⊥) → k < n
    below_other k n l ne = grind (arith, l, ne)

-- the lowest pending message is so from an earlier place too, where none between is pending
pub lowest_from : (first next : ℕ) (ms : List Sent) (r : Option ℕ) → Settled first next ms → PendingIs next ms r
    → PendingIs first ms r
lowest_from first next ms None s h = λ k p f l e. elim (cases_lt k next) [
  | inl b ↦ s.none k p f b e
  | inr b ↦ h k p b l e
]
lowest_from first next ms (Some number) s h = record {
  from = omega (arith, s.from, h.from);
  message = h.message;
  found = h.found;
  pending = h.pending;
  below = λ k p f l e. elim (cases_lt k next) [
    | inl b ↦ s.none k p f b e
    | inr b ↦ h.below k p b l e
  ];
}

-- none is pending to the end
pub settled_end : (first next : ℕ) (ms : List Sent) → Settled first next ms → NonePending next (length ms) ms
    → Settled first (length ms) ms
settled_end first next ms s h = record {
  from = omega (arith, s.from, s.sent);
  sent = omega arith;
  none = λ k p f l e. elim (cases_lt k next) [
    | inl b ↦ s.none k p f b e
    | inr b ↦ h k p b l e
  ];
}

-- where delivery starts
pub settled_start : (first end next : ℕ) (ms : List Sent) → Settled 0 end ms → first ≤ length ms → first ≤ next
    → (next ≡ first) ⊎ (next ≡ end) → Settled first next ms
settled_start first end next ms s f l (inl e) = record {
  from = l;
  sent = omega (arith, e, f);
  none = λ k p a b g. absurd (omega (arith, a, b, e));
}
settled_start first end next ms s f l (inr e) = record {
  from = l;
  sent = omega (arith, e, s.sent);
  none = λ k p a b g. s.none k p (omega arith) (omega (arith, b, e)) g;
}
