-- How a word is read.
use Rattle.std.specs.Prelude.{◌≡◌, ◌⊎◌, ◌≢◌, ◌<◌, ◌+◌, ◌-◌, ◌==◌, ◌||◌, Bool, false, codes, length, slice_index, ℕ}
use Rattle.std.specs.Prelude.{◌^◌, nat_eq, nat_le, nat_lt, ◌&&◌, if◌then◌else◌, List, [], ◌∷◌, Option, Some, None}
use Rattle.std.specs.Prelude.{Result, Ok, Err}
use Rattle.std.specs.Fmt.{decimal}
use Rattle.std.specs.List.{list_any, slice_split}
use Rattle.std.specs.Str.{bytes_eq}
use Rattle.std.specs.Str.Parse.{digits_value}
use Rattle.hex.specs.Hex.{decode_of, decode_sized}
use Rattle.hex.specs.declared.error.FromHexError.{FromHexError}
use Rattle.scenario_text.specs.declared.event.EventErr.{EventErr}
use Rattle.scenario_text.specs.declared.event.EventErr.TheVariants.{BadName, BadNumber, BadHex, Missing, Extra}
use Rattle.scenario_text.specs.declared.event.EventErr.TheVariants.{Memory}
use Rattle.scenario_text.specs.declared.event.Sender.{Sender}
use Rattle.scenario_text.specs.declared.event.Sender.TheVariants as sender
use Rattle.scenario_text.specs.declared.event.Machine.{Machine}
use Rattle.scenario_text.specs.declared.event.Machine.TheVariants as machine
use Rattle.scenario_text.specs.declared.line.Party.{Party}
use Rattle.scenario_text.specs.declared.line.Party.TheVariants as party
use Rattle.scenario_text.specs.declared.hexadecimal.Digits.{Digits}
use Rattle.scenario_text.specs.declared.hexadecimal.Digits.TheVariants.{Either, Lower}

-- the second step, if the first gave a value
infixl 10 ◌>>=◌
abbrev pub ◌>>=◌ : {A B : Type 0} → Result A EventErr → (A → Result B EventErr) → Result B EventErr
Ok x >>= f = f x
Err e >>= f = Err e

-- an answer is the expected one, unless memory was wanting
abbrev pub GivesOrMemory : {A : Type 0} → Result A EventErr → Result A EventErr → Type 0
GivesOrMemory expected result = (result ≡ Err Memory) ⊎ (result ≡ expected)

abbrev pub first : List (List ℕ) → Result (List ℕ) EventErr
first [] = Err Missing
first (word ∷ words) = Ok word

abbrev pub after : List (List ℕ) → List (List ℕ)
after [] = []
after (word ∷ words) = words

-- no word is left
abbrev pub nothing : List (List ℕ) → Result (Unit {0}) EventErr
nothing [] = Ok tt
nothing (word ∷ words) = Err Extra

-- what the next word stands for
abbrev pub next_as : {A : Type 0} → (List ℕ → Result A EventErr) → List (List ℕ) → Result A EventErr
next_as of words = first words >>= of

-- ---- numbers and names

-- a word with no sign and no zero too many, so that it is a number's decimal text if it is a numeral at all
pub record IsPlain (word : List ℕ) : Type 0 where
  pub some : 0 < length word
  pub sign : slice_index word 0 ≢ 43
  pub zeros : slice_index word 0 ≡ 48 → length word ≡ 1

-- the number of 64 bits that has the word as its decimal text
unfoldable pub decimal_of : List ℕ → Option ℕ
decimal_of word =
    let n = digits_value 10 word in
    if bytes_eq word (decimal n) && nat_lt n (2 ^ 64) then Some n else None

abbrev pub in_range : ℕ → ℕ → Option ℕ → Result ℕ EventErr
in_range least most None = Err BadNumber
in_range least most (Some n) = if nat_le least n && nat_le n most then Ok n else Err BadNumber

unfoldable pub number_of : ℕ → ℕ → List ℕ → Result ℕ EventErr
number_of least most word = in_range least most (decimal_of word)

abbrev pub below : ℕ → Option ℕ → Result ℕ EventErr
below count None = Err BadName
below count (Some n) = if nat_lt n count then Ok n else Err BadName

-- a letter and a number
unfoldable pub name_of : ℕ → ℕ → List ℕ → Result ℕ EventErr
name_of letter count [] = Err BadName
name_of letter count (c ∷ digits) = if nat_eq c letter then below count (decimal_of digits) else Err BadName

abbrev pub u32_of : List ℕ → Result ℕ EventErr
u32_of word = number_of 0 4294967295 word

abbrev pub u64_of : List ℕ → Result ℕ EventErr
u64_of word = number_of 0 (2 ^ 64 - 1) word

abbrev pub drive_of : List ℕ → Result ℕ EventErr
drive_of word = name_of 100 64 word

abbrev pub client_of : List ℕ → Result ℕ EventErr
client_of word = name_of 99 16 word

abbrev pub file_of : List ℕ → Result ℕ EventErr
file_of word = name_of 102 64 word

-- ---- the server, or a name

abbrev pub is_server : List ℕ → Bool
is_server word = bytes_eq word (codes "s")

unfoldable pub server_of : List ℕ → Result (Unit {0}) EventErr
server_of word = if is_server word then Ok tt else Err BadName

unfoldable pub sender_of : List ℕ → Result Sender EventErr
sender_of word = if is_server word then Ok sender.Server else client_of word >>= (λ c. Ok (sender.Client c))

unfoldable pub machine_of : List ℕ → Result Machine EventErr
machine_of word = if is_server word then Ok machine.Server else drive_of word >>= (λ d. Ok (machine.Drive d))

abbrev pub drive_or : Result ℕ EventErr → Result Party EventErr → Result Party EventErr
drive_or (Ok d) other = Ok (party.Drive d)
drive_or (Err e) other = other

unfoldable pub party_of : List ℕ → Result Party EventErr
party_of word =
    if is_server word then Ok party.Server else drive_or (drive_of word) (client_of word >>= (λ c. Ok (party.Client c)))

-- ---- bytes

abbrev pub or_bad_hex : Result (List ℕ) FromHexError → Result (List ℕ) EventErr
or_bad_hex (Ok bytes) = Ok bytes
or_bad_hex (Err e) = Err BadHex

-- whether a word has a digit in upper case
abbrev pub any_upper : List ℕ → Bool
any_upper word = list_any (λ b. nat_le 65 b && nat_le b 70) word

abbrev pub refuses : Digits → List ℕ → Bool
refuses Either word = false
refuses Lower word = any_upper word

unfoldable pub bytes_of : Digits → List ℕ → Result (List ℕ) EventErr
bytes_of digits word =
    if bytes_eq word (codes "-") then Ok []
    else if bytes_eq word [] || refuses digits word then Err BadHex
    else or_bad_hex (decode_of word)

unfoldable pub key_of : Digits → List ℕ → Result (List ℕ) EventErr
key_of digits word = if refuses digits word then Err BadHex else or_bad_hex (decode_sized word 20)

-- ---- positions

-- numbers that rise, from one on
unfoldable pub rising_of : ℕ → List (List ℕ) → Result (List ℕ) EventErr
rising_of least [] = Ok []
rising_of least (word ∷ words) = do
  p ← number_of least 4294967295 word
  ps ← rising_of (p + 1) words
  Ok (p ∷ ps)

unfoldable pub positions_of : List ℕ → Result (List ℕ) EventErr
positions_of word = rising_of 0 (slice_split (λ b. b == 44) word)
