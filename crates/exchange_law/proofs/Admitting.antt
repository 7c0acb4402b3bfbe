-- What a request is to its client's slot, by its number.
use Rattle.std.proofs.Common.{inl, inr, ◌≡◌, ◌≤◌, ◌<◌, ◌+◌, ◌==◌, ◌&&◌, nat_lt, ℕ, Option, Some, None, refl, arith}
use Rattle.std.proofs.lemmas.Bool.{cases_Bool}
use Rattle.std.proofs.lemmas.Bool.Decides.{nat_tests}
use Rattle.layout_ops.specs.declared.messages.Answer.{Answer}
use Rattle.server_rules.specs.declared.limits.TheConstants.{GREATEST_SEQUENCE}
use Rattle.server_rules.specs.declared.server.Slot.{Slot}
use Rattle.server_rules.specs.Slots.{New, Again, Misordered, admit, admit_after}
use Rattle.server_rules.specs.Laws.{last_of}

-- the one behind the last is new
pub record IsNext (o : Option Slot) (n : ℕ) : Type 0 where
  pub next : n ≡ last_of o + 1
  pub below : last_of o < GREATEST_SEQUENCE

pub is_next : (o : Option Slot) (n : ℕ) → admit o n ≡ New → IsNext o n
unfolding admit admit_after
is_next None n e = elim (cases_Bool ((n == 0 + 1) && nat_lt 0 GREATEST_SEQUENCE)) [
  | inl t ↦ record { next = grind (arith, nat_tests, t); below = omega arith }
  | inr z ↦ absurd (cc (rw z at e))
]
is_next (Some t) n e = elim (cases_Bool (n == t.last)) [
  | inl x ↦ absurd (cc (rw x at e))
  | inr y ↦ elim (cases_Bool ((n == t.last + 1) && nat_lt t.last GREATEST_SEQUENCE)) [
    | inl x ↦ record { next = grind (arith, nat_tests, x); below = grind (arith, nat_tests, x) }
    | inr z ↦ absurd (cc (rw (y, z) at e))
  ]
]

-- the last one gets its answer again
pub record IsLast (o : Option Slot) (n : ℕ) (kept : Answer) : Type 0 where
  pub slot : Slot
  pub there : o ≡ Some slot
  pub last : n ≡ slot.last
  pub answer : slot.kept ≡ kept

pub is_last : (o : Option Slot) (n : ℕ) (kept : Answer) → admit o n ≡ Again kept → IsLast o n kept
unfolding admit admit_after
is_last None n kept e = elim (cases_Bool ((n == 0 + 1) && nat_lt 0 GREATEST_SEQUENCE)) [
  | inl t ↦ absurd (cc (rw t at e))
  | inr z ↦ absurd (cc (rw z at e))
]
is_last (Some t) n kept e = elim (cases_Bool (n == t.last)) [
  | inl x ↦ record { slot = t; there = refl; last = grind (arith, nat_tests, x); answer = cc (rw x at e) }
  | inr y ↦ elim (cases_Bool ((n == t.last + 1) && nat_lt t.last GREATEST_SEQUENCE)) [
    | inl x ↦ absurd (cc (rw (y, x) at e))
    | inr z ↦ absurd (cc (rw (y, z) at e))
  ]
]

-- of those up to the one behind the last, only earlier ones are misordered
pub record IsEarlier (o : Option Slot) (n : ℕ) : Type 0 where
  pub slot : Slot
  pub there : o ≡ Some slot
  pub earlier : n < slot.last

pub is_earlier : (o : Option Slot) (n expected : ℕ) → admit o n ≡ Misordered expected → 1 ≤ n → n ≤ last_of o + 1
    → n ≤ GREATEST_SEQUENCE → IsEarlier o n
unfolding admit admit_after
is_earlier None n expected e some most fits = elim (cases_Bool ((n == 0 + 1) && nat_lt 0 GREATEST_SEQUENCE)) [
  | inl t ↦ absurd (cc (rw t at e))
  | inr z ↦ absurd (grind (arith, nat_tests, z, some, most))
]
is_earlier (Some t) n expected e some most fits = elim (cases_Bool (n == t.last)) [
  | inl x ↦ absurd (cc (rw x at e))
  | inr y ↦ elim (cases_Bool ((n == t.last + 1) && nat_lt t.last GREATEST_SEQUENCE)) [
    | inl x ↦ absurd (cc (rw (y, x) at e))
    | inr z ↦ record { slot = t; there = refl; earlier = grind (arith, nat_tests, y, z, most, fits) }
  ]
]
