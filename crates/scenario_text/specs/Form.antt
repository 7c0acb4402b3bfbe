-- How a value is read, a word after another.
use Rattle.std.specs.Prelude.{◌≡◌, ◌⊎◌, ℕ, Bool, true, false, List, [], ◌∷◌, Option, Some, None, Result, Ok, Err}
use Rattle.std.specs.Str.{bytes_eq}
use Rattle.scenario_text.specs.declared.event.EventErr.{EventErr}
use Rattle.scenario_text.specs.declared.event.EventErr.TheVariants.{UnknownWord, Memory}
use Rattle.scenario_text.specs.Reading.{◌>>=◌, first, after, nothing, next_as}

-- A value is there. Or the next word stands for a value, with which the reading goes on. Or the next word chooses how
-- it goes on. Or another value is read first. Or no value has the words so far.
pub data Form : Type 0 → Type 1 where
  Done : {A : Type 0} → A → Form A
  Word : {A B : Type 0} → (List ℕ → Result B EventErr) → (B → Form A) → Form A
  Choose : {A : Type 0} → (List ℕ → Form A) → Form A
  Then : {A B : Type 0} → Form B → (B → Form A) → Form A
  Unknown : {A : Type 0} → Form A

-- the value, and the words that are left
abbrev pub reads : {A : Type 0} → Form A → List (List ℕ) → Result (A × List (List ℕ)) EventErr
reads (Done x) words = Ok (x, words)
reads (Word of next) words = next_as of words >>= (λ value. reads (next value) (after words))
reads (Choose form) words = first words >>= (λ word. reads (form word) (after words))
reads (Then form next) words = reads form words >>= (λ found. reads (next found.0) found.1)
reads Unknown words = Err UnknownWord

-- the value of a whole line
abbrev pub reads_line : {A : Type 0} → Form A → List (List ℕ) → Result A EventErr
reads_line form words = do
  found ← reads form words
  done ← nothing found.1
  Ok found.0

-- an answer, and the words that are left, are the expected ones
abbrev pub Reads : {A : Type 0} → Result (A × List (List ℕ)) EventErr → Result A EventErr → List (List ℕ) → Type 0
Reads expected (Ok x) left = expected ≡ Ok (x, left)
Reads expected (Err e) left = expected ≡ Err e

-- the same, unless memory was wanting
abbrev pub Gives : {A : Type 0} → Result (A × List (List ℕ)) EventErr → Result A EventErr → List (List ℕ) → Type 0
Gives expected (Ok x) left = expected ≡ Ok (x, left)
Gives expected (Err e) left = (e ≡ Memory) ⊎ (expected ≡ Err e)

-- ---- forms by their first word

abbrev pub pick : {A : Type 0} → Bool → Form A → Form A → Form A
pick true here later = here
pick false here later = later

-- the form of the first row with that word, or else another
abbrev pub chosen : {A : Type 0} → List (List ℕ × Form A) → (List ℕ → Form A) → List ℕ → Form A
chosen [] other word = other word
chosen (row ∷ rows) other word = pick (bytes_eq word row.0) row.1 (chosen rows other word)

abbrev pub by_word : {A : Type 0} → List (List ℕ × Form A) → Form A
by_word rows = Choose (chosen rows (λ word. Unknown))

-- the form of a keyword, or else another
abbrev pub form_or : {K A : Type 0} → (K → Form A) → Form A → Option K → Form A
form_or form other None = other
form_or form other (Some k) = form k
