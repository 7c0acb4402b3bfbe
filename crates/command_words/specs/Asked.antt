-- What the words of a command ask for.
use Rattle.std.specs.Prelude.{◌≡◌, ◌≢◌, ◌⊎◌, ℕ, List, [], Option, Some, None, codes, ⊤}
use Rattle.std.specs.Option.{option_and_then, option_map}
use Rattle.std.specs.Result.{result_ok}
use Rattle.clap.specs.Walk.{Text}
use Rattle.clap.specs.Simple.{App}
use Rattle.scenario_text.specs.Reading.{number_of}
use Rattle.command_words.specs.declared.words.ClientWords.{ClientWords}
use Rattle.command_words.specs.declared.words.DriveWords.{DriveWords}
use Rattle.command_words.specs.declared.words.FirstNumber.{FirstNumber}
use Rattle.command_words.specs.declared.words.FirstNumber.TheVariants.{Given, Fresh}
use Rattle.command_words.specs.declared.words.ServerWords.{ServerWords}
use Rattle.command_words.specs.declared.words.WordsErr.{WordsErr}
use Rattle.command_words.specs.declared.words.WordsErr.TheVariants.{Bad, Memory}
use Rattle.command_words.specs.declared.words.TheConstants.{MAX_CLIENT, MAX_DRIVE, MAX_U32}
use Rattle.command_words.specs.declared.work.ClientWork.{ClientWork}
use Rattle.command_words.specs.Options.{client_options, drive_options, faults_of, server_options, text_of}
use Rattle.command_words.specs.Work.{Gives, IsWork}

-- the number that the word of an option spells, from `least` to `most`
abbrev pub number_in : (least most : ℕ) → Option Text → Option ℕ
number_in least most word = option_and_then (λ w. result_ok (number_of least most w)) word

abbrev pub drive_words_from : (drive count : Option Text) → Option DriveWords
drive_words_from drive count =
    option_and_then (λ number.
    option_map (λ connections. record { number = number; connections = connections }) (number_in 0 MAX_U32 count))
    (number_in 0 MAX_DRIVE drive)

abbrev pub drive_words_of : List Text → Option DriveWords
drive_words_of words =
    drive_words_from (text_of drive_options (codes "number") words) (text_of drive_options (codes "connections") words)

abbrev pub server_words_from : (count : Option Text) → Option ServerWords
server_words_from count = option_map (λ connections. record { connections = connections }) (number_in 0 MAX_U32 count)

abbrev pub server_words_of : List Text → Option ServerWords
server_words_of words = server_words_from (text_of server_options (codes "connections") words)

-- the number of a client's first request, from 1; without a word it is to be a fresh one
abbrev pub first_in : Option Text → Option FirstNumber
first_in None = Some Fresh
first_in (Some word) = option_map Given (number_in 1 MAX_U32 (Some word))

abbrev pub AsksFor : (text : Option Text) → ClientWork → Type 0
AsksFor None work = ⊥
AsksFor (Some text) work = IsWork text work

-- the words of its three options ask a client for this
pub record AsksClient (client sequence text : Option Text) (asked : ClientWords) : Type 0 where
  pub number : number_in 0 MAX_CLIENT client ≡ Some asked.number
  pub first : first_in sequence ≡ Some asked.first
  pub work : AsksFor text asked.work

abbrev pub client_gives : List Text → Option ClientWords → Type 0
client_gives words asked = Gives
    (AsksClient (text_of client_options (codes "number") words) (text_of client_options (codes "sequence") words)
    (text_of client_options (codes "call") words)) asked

-- the options take the words, which ask for that
abbrev pub Asks : {W : Type 0} → App → (List Text → Option W → Type 0) → List Text → W → Type 0
Asks options gives words asked = (faults_of options words ≡ []) × gives words (Some asked)

-- the options don't take the words, or a text in them is none of its place
abbrev pub Refuses : {W : Type 0} → App → (List Text → Option W → Type 0) → List Text → WordsErr → Type 0
Refuses options gives words Bad = (faults_of options words ≢ []) ⊎ gives words None
Refuses options gives words Memory = ⊤

abbrev pub drive_gives : List Text → Option DriveWords → Type 0
drive_gives words asked = drive_words_of words ≡ asked

abbrev pub server_gives : List Text → Option ServerWords → Type 0
server_gives words asked = server_words_of words ≡ asked
