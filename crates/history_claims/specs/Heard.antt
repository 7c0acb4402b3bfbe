-- What a job has heard comes from replies to what it awaited.
use Rattle.std.specs.Prelude.{◌≡◌, ℕ, List, ◌∷◌, ◌++◌, Option, Some, None}
use Rattle.server_rules.specs.History.{Input}
use Rattle.server_rules.specs.Laws.{In}
use Rattle.server_rules.specs.Messages.{awaited_by}
use Rattle.server_rules.specs.Replies.{Done, hearing}
use Rattle.scenario_text.specs.declared.line.Line.{Line}
use Rattle.world_history.specs.ServerNames.{Server, File, Job, Heard, Awaited}
use Rattle.world_history.specs.Book.{server_after, book_of}
use Rattle.world_history.specs.State.{World}
use Rattle.world_history.specs.History.{StandsFor}
use Rattle.history_law.specs.Read.{AreWritten}
use Rattle.cause_law.specs.Awaiting.{Answers}
use Rattle.cause_law.specs.Steps.{AtInputs}

-- it has heard this
abbrev pub HasHeardIt : Option Job → Heard → Type 0
HasHeardIt None x = ⊥
HasHeardIt (Some j) x = In x j.heard

-- Why it has, behind a step: it had before; or what comes is a reply that counts as done for a command that it awaited, to that
-- component, with that payload.
pub data HeardGoes (s : Server) (i : Input) (f : File) (x : Heard) : Type 0 where
  AsBefore : HasHeardIt f.job x → HeardGoes s i f x
  ByReply : (a : Awaited) → In a (awaited_by f.job) → (y : Answers s i f a) → hearing f.kept a y.reply ≡ Done
      → x ≡ record { component = a.component; payload = y.reply.payload } → HeardGoes s i f x

-- so it is of each file behind these lines of the step
abbrev pub HeardGo : (before : List Line) → Line → Input → (rest : List Line) → Type 0
HeardGo before l i rest =
    (file : ℕ) (g : File) (x : Heard) → book_of (before ++ l ∷ rest) file ≡ Some g → HasHeardIt g.job x
    → (f : File) × (book_of before file ≡ Some f) × HeardGoes (server_after before) i f x

abbrev pub HeardHaveCauses : List Line → Type 0
HeardHaveCauses h = AtInputs HeardGo h

-- in each whole history whose events a text may have
abbrev pub EachHeardHasItsCause : Type 0
EachHeardHasItsCause = (w : World) (h : List Line) → StandsFor w h → AreWritten h → HeardHaveCauses h
