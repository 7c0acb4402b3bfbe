-- The input of a client: the text of its cluster, and the bytes that a write takes from behind it.
use Rattle.std.specs.Prelude.{◌≡◌, ℕ, suc, ◌+◌, nat_eq, Bool, true, false, List, [], ◌∷◌, take, drop, Option, Ok, Err, if◌then◌else◌}
use Rattle.scenario_text.specs.declared.event.Call.TheVariants as call
use Rattle.cluster_text.specs.declared.cluster.Cluster.{Cluster}
use Rattle.cluster_text.specs.declared.cluster.Reader.TheVariants.{Client}
use Rattle.cluster_text.specs.declared.errors.ClusterErr.TheVariants.{Refused}
use Rattle.cluster_text.specs.declared.errors.ClusterKind.{ClusterKind}
use Rattle.cluster_text.specs.declared.stop.CommandStop.{CommandStop}
use Rattle.cluster_text.specs.declared.stop.CommandStop.TheVariants.{BadCluster}
use Rattle.cluster_text.specs.Document.{cluster_of}
use Rattle.cluster_text.specs.Inputs.{IsWhole, StopsReading}
use Rattle.command_words.specs.declared.words.ClientWords.{ClientWords}
use Rattle.command_words.specs.declared.work.ClientWork.{ClientWork}
use Rattle.command_words.specs.declared.work.ClientWork.TheVariants as work

-- where the first zero byte is, or the end
unfoldable pub zero_at : List ℕ → ℕ
zero_at [] = 0
zero_at (b ∷ bs) = if nat_eq b 0 then 0 else suc (zero_at bs)

-- what is before the first zero byte
abbrev pub text_before : (input : List ℕ) → List ℕ
text_before input = take (zero_at input) input

-- what is behind it
abbrev pub bytes_behind : (input : List ℕ) → List ℕ
bytes_behind input = drop (zero_at input + 1) input

abbrev pub is_empty : List ℕ → Bool
is_empty [] = true
is_empty (b ∷ bs) = false

-- a write that has no bytes of its own takes them from the input
abbrev pub takes_bytes : ClientWork → Bool
takes_bytes (work.Call (call.Write file offset own)) = is_empty own
takes_bytes other = false

-- a write gets these bytes
abbrev pub given : ClientWork → (bytes : List ℕ) → ClientWork
given (work.Call (call.Write file offset own)) bytes = work.Call (call.Write file offset bytes)
given other bytes = other

-- the text of the cluster: what is before the first zero byte where the work takes bytes, else all
abbrev pub text_in : ClientWork → (input : List ℕ) → List ℕ
text_in w input = if takes_bytes w then text_before input else input

-- the work with the bytes that it takes
abbrev pub work_in : ClientWork → (input : List ℕ) → ClientWork
work_in w input = if takes_bytes w then given w (bytes_behind input) else w

abbrev pub asked_in : ClientWords → (input : List ℕ) → ClientWords
asked_in words input = record words { work = work_in words.work input }

-- the text in the whole input describes the cluster, and that is asked, with the bytes behind the text
pub record GivesWork (words : ClientWords) (before after : Option (List ℕ)) (cluster : Cluster) (asked : ClientWords) : Type 0 where
  pub input : List ℕ
  pub whole : IsWhole before after input
  pub is : cluster_of Client (text_in words.work input) ≡ Ok cluster
  pub asks : asked ≡ asked_in words input

-- the text in the whole input is refused
pub record RefusesText (words : ClientWords) (before after : Option (List ℕ)) (kind : ClusterKind) : Type 0 where
  pub input : List ℕ
  pub whole : IsWhole before after input
  pub is : cluster_of Client (text_in words.work input) ≡ Err (Refused kind)

-- why there is no cluster
abbrev pub StopsAsking : ClientWords → (before after : Option (List ℕ)) → (failed_before failed : ℕ) → CommandStop → Type 0
StopsAsking words before after failed_before failed (BadCluster kind) = RefusesText words before after kind
StopsAsking words before after failed_before failed stop = StopsReading before after failed_before failed stop
