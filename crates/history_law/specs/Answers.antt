-- What a step of the server answers, and what its slots keep for answering once more.
use Rattle.std.specs.Prelude.{◌≡◌, ℕ, List, [], ◌∷◌, Some}
use Rattle.layout_ops.specs.declared.statuses.TheConstants.{NFS4ERR_SEQ_MISORDERED}
use Rattle.server_rules.specs.Answers.{plain_answer}
use Rattle.server_rules.specs.Files.{Step, at_file, file_at}
use Rattle.server_rules.specs.History.{Input}
use Rattle.server_rules.specs.Requests.{serves, size_in, answer_with, answer_without, on_request}
use Rattle.server_rules.specs.Served.{tells}
use Rattle.world_history.specs.ServerNames.{Server, Slot, File, Answer, ClientRequest, Outgoing, Answers}
use Rattle.history_law.specs.Steps.{IsAsked}

-- each answer among what is sent is so
abbrev pub AnswersOnly : (Answer → Type 0) → List Outgoing → Type 0
AnswersOnly P [] = Unit {0}
AnswersOnly P (Answers a ∷ os) = P a × AnswersOnly P os
AnswersOnly P (o ∷ os) = AnswersOnly P os

-- and each that a slot keeps
abbrev pub SlotsKeep : (Answer → Type 0) → List Slot → Type 0
SlotsKeep P [] = Unit {0}
SlotsKeep P (s ∷ ss) = P s.kept × SlotsKeep P ss

-- behind a step, and in what it sends
pub record StepAnswers (P : Answer → Type 0) (t : Step) : Type 0 where
  pub slots : SlotsKeep P t.state.slots
  pub sends : AnswersOnly P t.sends

-- Each answer to a request is so, but one that was kept.
pub record RequestAnswers (P : Answer → Type 0) (s : Server) (now : ℕ) (chosen : List ℕ) (q : ClientRequest) : Type 0 where
  pub misordered : (expected : ℕ)
      → P (plain_answer q (tells NFS4ERR_SEQ_MISORDERED expected) (size_in (file_at s.files q.file)))
  pub without : P (answer_without q)
  pub served : (f : File) → file_at s.files q.file ≡ Some f
      → P (answer_with s q (serves (at_file s chosen f) s.next_grant s.format now q.client q.args))

-- ---- who is answered

abbrev pub Never : Answer → Type 0
Never a = ⊥

-- nobody is, and the slots and the next grant's number stay
pub record IsQuiet (s : Server) (t : Step) : Type 0 where
  pub slots : t.state.slots ≡ s.slots
  pub grants : t.state.next_grant ≡ s.next_grant
  pub sends : AnswersOnly Never t.sends

-- or a client's request comes
pub data ServerDid (s : Server) (chosen : List ℕ) (i : Input) (t : Step) : Type 0 where
  Quiet : IsQuiet s t → ServerDid s chosen i t
  Asked : (now : ℕ) (q : ClientRequest) → IsAsked s i now q → t ≡ on_request s now chosen q → ServerDid s chosen i t
