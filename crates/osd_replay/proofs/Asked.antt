-- Words that ask for a scenario ask for at most 1,000 calls.
use Rattle.std.proofs.Common.{◌≡◌, ◌≤◌, ℕ, Bool, true, false, List, [], ◌∷◌, Option, Some, None, if◌then◌else◌, refl, arith, subst}
use Rattle.std.specs.Prelude.{nat_le, codes}
use Rattle.std.specs.Str.{bytes_eq}
use Rattle.std.proofs.lemmas.Bool.Decides.{nat_tests}
use Rattle.layout_types.specs.declared.kind.Kind.{Kind}
use Rattle.scenario_text.specs.Reading.{decimal_of}
use Rattle.osd_replay.specs.Commands.{command_of, generates, inspection_of, inspects, kind_of}
use Rattle.osd_replay.specs.declared.command.Command.{Command}
use Rattle.osd_replay.specs.declared.command.Command.TheVariants.{Generate, Replay}
use Rattle.osd_replay.specs.declared.command.Inspection.{Inspection}
use Rattle.osd_replay.specs.declared.command.TheConstants.{MAX_CALLS}

module _ (seed calls : ℕ) where
  abbrev Asks : Option Command → Type 0
  Asks o = o ≡ Some (Generate seed calls)

  by_limit : (k n : ℕ) (b : Bool) → nat_le k MAX_CALLS ≡ b → Asks (if b then Some (Generate n k) else None) → calls ≤ MAX_CALLS
  by_limit k n false is asks = absurd (cc asks)
  by_limit k n true is asks =
      let same : k ≡ calls = cc asks in
      subst (λ (m : ℕ). m ≤ MAX_CALLS) same (grind (arith, nat_tests, is))

  by_numbers : (n k : Option ℕ) → Asks (generates n k) → calls ≤ MAX_CALLS
  by_numbers None k asks = absurd (cc asks)
  by_numbers (Some n) None asks = absurd (cc asks)
  by_numbers (Some n) (Some k) asks = by_limit k n (nat_le k MAX_CALLS) refl asks

  by_word : (b : Bool) (n k : Option ℕ) → Asks (if b then generates n k else None) → calls ≤ MAX_CALLS
  by_word true n k asks = by_numbers n k asks
  by_word false n k asks = absurd (cc asks)

  by_kind : (i : Option Inspection) (k : Option Kind) → Asks (inspects i k) → calls ≤ MAX_CALLS
  by_kind None k asks = absurd (cc asks)
  by_kind (Some i) None asks = absurd (cc asks)
  by_kind (Some i) (Some k) asks = absurd (cc asks)

  pub asks_few : (words : List (List ℕ)) → Asks (command_of words) → calls ≤ MAX_CALLS
  asks_few [] asks = absurd (cc asks)
  asks_few (word ∷ []) asks = by_replay (bytes_eq word (codes "replay")) asks
    where
      by_replay : (b : Bool) → Asks (if b then Some Replay else None) → calls ≤ MAX_CALLS
      by_replay true a = absurd (cc a)
      by_replay false a = absurd (cc a)
  asks_few (word ∷ kind ∷ []) asks = by_kind (inspection_of word) (kind_of kind) asks
  asks_few (word ∷ n ∷ k ∷ []) asks = by_word (bytes_eq word (codes "generate")) (decimal_of n) (decimal_of k) asks
  asks_few (word ∷ n ∷ k ∷ more ∷ words) asks = absurd (cc asks)
