-- The numbers that the words of a client ask for are in their ranges.
use Rattle.std.proofs.Common.{◌≡◌, ◌≤◌, ℕ, List, Option, Some, None, Ok, Err, arith}
use Rattle.std.specs.Prelude.{Result}
use Rattle.std.specs.Option.{option_map}
use Rattle.std.specs.Result.{result_ok}
use Rattle.clap.specs.Walk.{Text}
use Rattle.scenario_text.specs.declared.event.EventErr.{EventErr}
use Rattle.scenario_text.specs.Reading.{number_of}
use Rattle.scenario_text.proofs.PartLaws.{number_ok}
use Rattle.client_rules.specs.declared.limits.TheConstants.{MAX_CLIENT}
use Rattle.command_words.specs.declared.words.ClientWords.{ClientWords}
use Rattle.command_words.specs.declared.words.FirstNumber.{FirstNumber}
use Rattle.command_words.specs.declared.words.FirstNumber.TheVariants.{Given, Fresh}
use Rattle.command_words.specs.Asked.{client_gives, first_in, number_in}
use Rattle.client_command.specs.Numbering.{IsNumbered}

was_ok : (r : Result ℕ EventErr) (n : ℕ) → result_ok r ≡ Some n → r ≡ Ok n
was_ok (Ok m) n h = let same : m ≡ n = cc h in cc same
was_ok (Err e) n h = absurd (cc h)

in_its_range : (least most : ℕ) (word : Option Text) (n : ℕ) → number_in least most word ≡ Some n → (least ≤ n) × (n ≤ most)
in_its_range least most None n h = absurd (cc h)
in_its_range least most (Some w) n h = let a = number_ok least most w n (was_ok (number_of least most w) n h) in (a.0, a.1)

pub number_fits : (words : List Text) (asked : ClientWords) → client_gives words (Some asked) → asked.number ≤ MAX_CLIENT
number_fits words asked gives = (in_its_range 0 MAX_CLIENT _ asked.number gives.number).1

given_first : (o : Option ℕ) (sequence : ℕ) → option_map Given o ≡ Some (Given sequence) → o ≡ Some sequence
given_first None sequence h = absurd (cc h)
given_first (Some n) sequence h = let same : n ≡ sequence = cc h in cc same

is_numbered : (word : Option Text) (first : FirstNumber) → first_in word ≡ Some first → IsNumbered first
is_numbered word Fresh h = tt
is_numbered None (Given sequence) h = absurd (cc h)
is_numbered (Some w) (Given sequence) h =
    omega (arith, (in_its_range 1 _ (Some w) sequence (given_first _ sequence h)).0)

pub first_fits : (words : List Text) (asked : ClientWords) → client_gives words (Some asked) → IsNumbered asked.first
first_fits words asked gives = is_numbered _ asked.first gives.first
