-- What is known of a parse by one simple command, once the command that the code built is known.
use Rattle.std.proofs.Common.{◌≡◌, ◌≢◌, ◌∙◌, true, ap, subst, refl, inl, inr, List, [], ◌∷◌, Option}
use Rattle.clap.specs.Words.{App, Text, first_of, first_value, found_of, is_simple, kind_of}
use Rattle.clap.specs.Simple.{HasMatchesOf, matches_of}
use Rattle.clap.specs.Faults.{fault_of, is_simple_and_free}
use Rattle.clap.specs.Kinds.{HasKind, IsAmong, Kinds}
use Rattle.clap.specs.declared.error.Error.{Error}
use Rattle.clap.specs.declared.error.kind.ErrorKind.{ErrorKind}
use Rattle.clap.specs.declared.error.kind.ErrorKind.TheVariants as kind
use Rattle.clap.specs.declared.parser.matches.ArgMatches.{ArgMatches}
use Rattle.clap.proofs.OnLiterals.{clap_on_literals}
use Rattle.clap.proofs.WalkLemmas.{first_value-rows}
use Rattle.command_words.specs.Options.{client_options, drive_options, faults_of, server_options, text_of}
use Rattle.command_words.specs.Asked.{Refuses}
use Rattle.command_words.specs.StoredAsked.{stored_drive_options, stored_server_options}
use Rattle.command_words.specs.declared.words.WordsErr.{WordsErr}
use Rattle.command_words.specs.declared.words.WordsErr.TheVariants.{Bad, Memory}

pub drive_free : is_simple_and_free drive_options ≡ true
unfolding clap_on_literals
drive_free = refl

pub drive_simple : is_simple drive_options ≡ true
unfolding clap_on_literals
drive_simple = refl

pub stored_drive_free : is_simple_and_free stored_drive_options ≡ true
unfolding clap_on_literals
stored_drive_free = refl

pub stored_drive_simple : is_simple stored_drive_options ≡ true
unfolding clap_on_literals
stored_drive_simple = refl

pub server_free : is_simple_and_free server_options ≡ true
unfolding clap_on_literals
server_free = refl

pub server_simple : is_simple server_options ≡ true
unfolding clap_on_literals
server_simple = refl

pub stored_server_free : is_simple_and_free stored_server_options ≡ true
unfolding clap_on_literals
stored_server_free = refl

pub stored_server_simple : is_simple stored_server_options ≡ true
unfolding clap_on_literals
stored_server_simple = refl

pub client_free : is_simple_and_free client_options ≡ true
unfolding clap_on_literals
client_free = refl

pub client_simple : is_simple client_options ≡ true
unfolding clap_on_literals
client_simple = refl

-- no fault where the words were taken
pub taken : (a b : App) (words : List Text) → a ≡ b → is_simple_and_free b ≡ true
    → (is_simple_and_free a ≡ true → fault_of a words ≡ []) → faults_of b words ≡ []
unfolding faults_of
taken a b words same free h = subst (λ (x : App). fault_of x words ≡ []) same (h (ap is_simple_and_free same ∙ free))

some_kind : (k : ErrorKind) (kinds : Kinds) → IsAmong k kinds → kinds ≢ []
some_kind k [] among = absurd among
some_kind k (x ∷ xs) among = λ e. cc e

-- the options are to blame, but for memory
pub blames : {W : Type 0} (a b : App) (gives : List Text → Option W → Type 0) (words : List Text) (e : Error) (r : WordsErr) →
    a ≡ b
    → is_simple_and_free b ≡ true → (is_simple_and_free a ≡ true → HasKind (fault_of a words) e) →
    (r ≡ Bad → kind_of e ≢ kind.OutOfMemory)
    → Refuses b gives words r
unfolding faults_of
blames a b gives words e Memory same free h other = tt
blames a b gives words e Bad same free h other =
    elim (h (ap is_simple_and_free same ∙ free)) [
      | inl memory ↦ absurd (other refl memory)
      | inr among ↦ inl (subst (λ (x : App). fault_of x words ≢ []) same (some_kind (kind_of e) (fault_of a words) among))
    ]

-- the value of an option
pub value : (a b : App) (words : List Text) (m : ArgMatches) (id : Text) → a ≡ b → is_simple b ≡ true → HasMatchesOf a words m
    → first_value (found_of m) id ≡ text_of b id words
unfolding text_of
value a b words m id same simple h =
    first_value-rows (found_of m) id
    ∙ ap (first_of id) ((h (ap is_simple same ∙ simple)).0 ∙ ap (λ (x : App). matches_of x words) same)
