-- A read that can be made asks the drives something.
use Rattle.std.proofs.Common.{◌≡◌, ℕ, zero, suc, ◌+◌, ◌*◌, ◌/◌, ◌<◌, false, List, [], ◌∷◌, length, refl, arith, inl, inr}
use Rattle.std.specs.Prelude.{Option, Some, None, is_none}
use Rattle.std.proofs.lemmas.Bool.{cases_Bool}
use Rattle.data_map.specs.Check.{IsChecked}
use Rattle.data_map.specs.Striping.{group_width, parities}
use Rattle.stripe_plan.specs.Lost.{source, is_out, out_from, positions_out}
use Rattle.client_rules.specs.State.{Held, Ask}
use Rattle.client_rules.specs.Commands.{numbered, read_commands}
use Rattle.client_rules.specs.Reads.{probe_of, probe_each, probes_due, is_probe_lost}
use Rattle.client_rules.proofs.Asked.{some_there, front_none, rest_none, below}

-- no commands go out only where nothing is asked
pub no_commands : (h : Held) (xs : List Ask) → read_commands h xs ≡ [] → xs ≡ []
unfolding read_commands numbered
no_commands h [] e = refl
no_commands h (x ∷ xs) e = absurd (cc e)

probe_some : (h : Held) (p : ℕ) (o : Option ℕ) → is_none o ≡ false → probe_of h p o ≡ [] → ⊥
probe_some h p None out e = cc out
probe_some h p (Some k) out e = cc e

-- a position of these that isn't out is asked
each_some : (h : Held) (out : List ℕ) (p n i : ℕ) → i < n → is_out h.map out (p + i) ≡ false → probe_each h out [] p n ≡ [] → ⊥
unfolding probe_each
each_some h out p zero i lt there e = absurd (omega (arith, lt))
each_some h out p (suc n) zero lt there e =
    let z : p + 0 ≡ p = omega arith in
    probe_some h p (source h.map out p) (rw z at there) (front_none (probe_of h p (source h.map out p)) _ e)
each_some h out p (suc n) (suc i) lt there e =
    let z : p + suc i ≡ p + 1 + i = omega arith in
    each_some h out (p + 1) n i (omega (arith, lt)) (rw z at there) (rest_none (probe_of h p (source h.map out p)) _ e)

-- so an empty read that isn't lost asks something
pub due_some : (h : Held) (out : List ℕ) (p : ℕ) → IsChecked h.map → is_probe_lost h.map out p ≡ false →
    probes_due h out [] p ≡ [] → ⊥
unfolding probes_due is_probe_lost positions_out
due_some h out p ch kept e = elim (cases_Bool (is_out h.map out p)) [
  | inl gone ↦
      let few = below (parities h.map)
      (length (out_from h.map out (p / group_width h.map * group_width h.map) (group_width h.map)))
      (rw gone at kept) ch.some_data in
      let i = some_there h.map out (p / group_width h.map * group_width h.map) (group_width h.map) few in
      each_some h out (p / group_width h.map * group_width h.map) (group_width h.map) i.0 i.1 i.2 (rw gone at e)
  | inr there ↦ let z : p + 0 ≡ p = omega arith in each_some h out p 1 0 (omega arith) (rw z there) (rw there at e)
]
