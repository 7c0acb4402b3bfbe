-- With fewer components out, fewer positions are.
use Rattle.std.proofs.Common.{◌≡◌, ◌≤◌, ◌+◌, ◌*◌, ◌/◌, ◌&&◌, ℕ, zero, suc, Bool, true, false, List, [], ◌∷◌, length, Option, Some, None, is_none, nat_lt, if◌then◌else◌, refl, ap, ◌∙◌, inl, inr, arith}
use Rattle.std.proofs.lemmas.Bool.{cases_Bool, le-ltb}
use Rattle.std.proofs.lemmas.Bool.Decides.{nat_tests}
use Rattle.data_map.specs.declared.check.RawMap.{RawMap}
use Rattle.data_map.specs.Striping.{replicas, group_width, parities, group_of}
use Rattle.stripe_plan.specs.declared.plan.Span.{Span}
use Rattle.stripe_plan.specs.Lost.{among, source_from, source, is_out, out_from, positions_out, is_short, is_hit, unreadable, unwritable}
use Rattle.client_rules.specs.Reads.{is_probe_lost}
use Rattle.ready_law.specs.Enough.{AreAmong, IsEnough, LeavesEnough, EnoughIsLeft}

none_else : (b : Bool) (k : ℕ) (o : Option ℕ) → is_none (if b then o else Some k) ≡ true → (b ≡ true) × (is_none o ≡ true)
none_else true k o e = (refl, e)
none_else false k o e = absurd (cc e)

module _ (m : RawMap) (out lost : List ℕ) (fewer : AreAmong out lost) where
  no_source : (k n : ℕ) → is_none (source_from out k n) ≡ true → is_none (source_from lost k n) ≡ true
  unfolding source_from
  no_source k zero e = refl
  no_source k (suc n) e =
      let b = none_else (among k out) k (source_from out (k + 1) n) e in
      rw (fewer k b.0) (no_source (k + 1) n b.1)

  still_out : (p : ℕ) → is_out m out p ≡ true → is_out m lost p ≡ true
  unfolding source
  still_out p e = no_source (p * replicas m) (replicas m) e

  fewer_from : (p n : ℕ) → length (out_from m out p n) ≤ length (out_from m lost p n)
  unfolding out_from
  fewer_from p zero = omega arith
  fewer_from p (suc n) =
      let rest = fewer_from (p + 1) n in
      elim (cases_Bool (is_out m out p)) [
        | inl t ↦ rw (t, still_out p t) (omega (arith, rest))
        | inr f ↦ rw f (elim (cases_Bool (is_out m lost p)) [
          | inl t ↦ rw t (omega (arith, rest))
          | inr g ↦ rw g rest
        ])
      ]

  pub fewer_out : (group : ℕ) → length (positions_out m out group) ≤ length (positions_out m lost group)
  unfolding positions_out
  fewer_out group = fewer_from (group * group_width m) (group_width m)

  not_short : (s : ℕ) → is_short m lost s ≡ false → is_short m out s ≡ false
  unfolding is_short
  not_short s e =
      let less = fewer_out (group_of m s) in
      let few : length (positions_out m lost (group_of m s)) ≤ parities m = grind (arith, nat_tests, e) in
      le-ltb (parities m) (length (positions_out m out (group_of m s))) (omega (arith, less, few))

  none_after : (b : Bool) → (b && false) ≡ false
  none_after true = refl
  none_after false = refl

  all_read : (r : Span) (ss : List ℕ) → IsEnough m lost ss → unreadable m r out ss ≡ None
  unfolding unreadable
  all_read r [] e = refl
  all_read r (s ∷ ss) e =
      let test : (is_hit m r out s && is_short m out s) ≡ false =
      ap (λ (b : Bool). is_hit m r out s && b) (not_short s (e s (inl refl))) ∙ none_after (is_hit m r out s) in
      rw test (all_read r ss (λ n i. e n (inr i)))

  all_written : (ss : List ℕ) → IsEnough m lost ss → unwritable m out ss ≡ None
  unfolding unwritable
  all_written [] e = refl
  all_written (s ∷ ss) e = rw (not_short s (e s (inl refl))) (all_written ss (λ n i. e n (inr i)))

  either_false : (b c : Bool) → c ≡ false → (if b then c else false) ≡ false
  either_false true c e = e
  either_false false c e = refl

  probed : (p : ℕ) → length (positions_out m lost (p / group_width m)) ≤ parities m → is_probe_lost m out p ≡ false
  unfolding is_probe_lost
  probed p few =
      let less = fewer_out (p / group_width m) in
      either_false (is_out m out p) (nat_lt (parities m) (length (positions_out m out (p / group_width m))))
      (le-ltb (parities m) (length (positions_out m out (p / group_width m))) (omega (arith, less, few)))

  fewer_there : LeavesEnough m out lost
  fewer_there = record { short = not_short; reads = all_read; writes = all_written; probe = probed }

pub enough_is_left : EnoughIsLeft
enough_is_left m out lost fewer = fewer_there m out lost fewer
