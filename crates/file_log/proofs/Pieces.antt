-- The bytes of a piece, put at their positions one by one.
use Rattle.std.proofs.Common.{◌≡◌, ℕ, ◌+◌, ◌-◌, ◌<◌, ◌≤◌, ◌==◌, Bool, true, false, List, length, take, get_or, cond, refl, sym, ap, ◌∙◌, arith, inl, inr, Some, None}
use Rattle.std.proofs.lemmas.Bool.{cases_lt, cases_eq, eq-eqb, ne_eqb}
use Rattle.std.proofs.lemmas.List.{length-take-le, get_or-take}
use Rattle.file_log.specs.Judge.{byte_for, taken_byte}
use Rattle.file_log.proofs.Settled.{byte_before, byte_inside, byte_behind}

-- beside its own position, one byte more of a piece changes nothing
byte_beside : (offset : ℕ) (piece : List ℕ) (i p : ℕ) → i < length piece → (p ≡ offset + i → ⊥) →
    byte_for offset (take (i + 1) piece) p ≡ byte_for offset (take i piece) p
byte_beside offset piece i p inside apart =
    let less = length-take-le i piece (omega (arith, inside)) in
    let more = length-take-le (i + 1) piece (omega (arith, inside)) in
    elim (cases_lt p offset) [
      | inl before ↦ byte_before offset (take (i + 1) piece) p before ∙ sym (byte_before offset (take i piece) p before)
      | inr from ↦ elim (cases_lt (p - offset) i) [
        | inl old ↦
            byte_inside offset (take (i + 1) piece) p from (omega (arith, old, more)) ∙
            ap Some (get_or-take (i + 1) piece (p - offset) 0 (omega (arith, old)) ∙ sym (get_or-take i piece (p - offset) 0 old))
            ∙
            sym (byte_inside offset (take i piece) p from (omega (arith, old, less)))
        | inr past ↦ elim (cases_eq p (offset + i)) [
          | inl here ↦ absurd (apart here)
          | inr other ↦
              byte_behind offset (take (i + 1) piece) p from (omega (arith, more, past, from, other)) ∙
              sym (byte_behind offset (take i piece) p from (omega (arith, less, past)))
        ]
      ]
    ]

none_taken : (settles : Bool) (values : List ℕ) → taken_byte settles None values ≡ values
none_taken true values = refl
none_taken false values = refl

-- what stood at a position after i bytes, and what the next byte makes of it
pub byte_more : (offset : ℕ) (piece : List ℕ) (i p : ℕ) (settles : Bool) (old middle new : List ℕ) → i < length piece →
    middle ≡ taken_byte settles (byte_for offset (take i piece) p) old →
    new ≡ cond (p == offset + i) (taken_byte settles (Some (get_or piece i 0)) middle) middle →
    new ≡ taken_byte settles (byte_for offset (take (i + 1) piece) p) old
byte_more offset piece i p settles old middle new inside before step =
    elim (cases_eq p (offset + i)) [
      | inl here ↦
          let from : offset ≤ p = omega (arith, here) in
          let less = length-take-le i piece (omega (arith, inside)) in
          let more = length-take-le (i + 1) piece (omega (arith, inside)) in
          let none = byte_behind offset (take i piece) p from (omega (arith, less, here)) in
          let place : p - offset ≡ i = omega (arith, here) in
          let some = byte_inside offset (take (i + 1) piece) p from (omega (arith, more, here))
          ∙ ap Some (get_or-take (i + 1) piece (p - offset) 0 (omega (arith, place)) ∙ ap (λ k. get_or piece k 0) place) in
          let was : middle ≡ old = before ∙ ap (λ b. taken_byte settles b old) none ∙ none_taken settles old in
          step ∙ ap (λ b. cond b (taken_byte settles (Some (get_or piece i 0)) middle) middle) (eq-eqb p (offset + i) here) ∙
          ap (λ (x : List ℕ). taken_byte settles (Some (get_or piece i 0)) x) was ∙ ap (λ b. taken_byte settles b old) (sym some)
      | inr apart ↦
          step ∙ ap (λ b. cond b (taken_byte settles (Some (get_or piece i 0)) middle) middle) (ne_eqb p (offset + i) apart) ∙
          before ∙ ap (λ b. taken_byte settles b old) (sym (byte_beside offset piece i p inside apart))
    ]
