-- What the job of a file awaits: each command was sent, and isn't answered yet.
use Rattle.std.specs.Prelude.{◌≡◌, ◌≤◌, ◌<◌, ℕ, true, List, ◌∷◌, ◌++◌, Option, Some}
use Rattle.osd_lists.specs.declared.node.Node.TheVariants.{Drive as FromDrive}
use Rattle.osd_commands.specs.declared.commands.Command.{Command}
use Rattle.osd_commands.specs.Commands.{spelling}
use Rattle.scenario_text.specs.declared.names.TheConstants.{DRIVES}
use Rattle.scenario_text.specs.declared.line.Line.{Line}
use Rattle.scenario_text.specs.declared.line.Line.TheVariants as line
use Rattle.scenario_text.specs.declared.line.Party.TheVariants as party
use Rattle.server_rules.specs.Commands.{sealed}
use Rattle.server_rules.specs.History.{Input, Hears}
use Rattle.server_rules.specs.Laws.{In}
use Rattle.server_rules.specs.Messages.{Replies, awaited_by, counters_have_room}
use Rattle.server_rules.specs.Replies.{Nothing, hearing}
use Rattle.world_history.specs.ServerNames.{Server, File, Awaited, Reply}
use Rattle.world_history.specs.Book.{server_after, book_of, awaited_in}
use Rattle.world_history.specs.State.{World}
use Rattle.world_history.specs.History.{StandsFor}
use Rattle.history_law.specs.BookMoments.{IsMoment}
use Rattle.history_law.specs.Read.{AreWritten}
use Rattle.cause_law.specs.Steps.{AtInputs}

-- ---- an awaited command

-- What comes is the reply to a command that the job of this file awaits: of its drive, with its nonce, while the counters have
-- room. And it counts: the command is done, its WRITE found no space, or its format is too old. The tag is that of the file.
pub record Answers (s : Server) (i : Input) (f : File) (a : Awaited) : Type 0 where
  pub now : ℕ
  pub reply : Reply
  pub comes : i ≡ Hears now (FromDrive a.drive) (Replies reply)
  pub room : counters_have_room s ≡ true
  pub nonce : reply.nonce ≡ a.command.nonce
  pub counts : hearing f.kept a reply ≡ Nothing → ⊥

-- one of these lines sends it to its drive, under that drive's key
pub record IsSentIn (s : Server) (lines : List Line) (a : Awaited) : Type 0 where
  pub number : ℕ
  pub there : In (line.Message number party.Server (party.Drive a.drive) (spelling (sealed s.drives a))) lines

-- as far as a line can name the drive
abbrev pub IsSent : Server → List Line → Awaited → Type 0
IsSent s lines a = a.drive < DRIVES → IsSentIn s lines a

-- ---- a step

-- Why the job of a file awaits a command behind a step with these lines: it did before, and what comes doesn't answer the
-- command; or the step sends it, under a nonce that no command had.
pub data Begins (s t : Server) (i : Input) (lines : List Line) (a : Awaited) : (before : Option File) → Type 0 where
  Before : (f : File) → In a (awaited_by f.job) → (Answers s i f a → ⊥) → Begins s t i lines a (Some f)
  Sends : (before : Option File) → s.next_nonce ≤ a.command.nonce → IsSent t lines a → Begins s t i lines a before

-- So it is of each command that the job of each file awaits behind these lines of the step.
abbrev pub AwaitedGo : (before : List Line) → Line → Input → (rest : List Line) → Type 0
AwaitedGo before l i rest =
    (file : ℕ) (a : Awaited) → In a (awaited_in (book_of (before ++ l ∷ rest) file))
    → Begins (server_after before) (server_after (before ++ l ∷ rest)) i rest a (book_of before file)

abbrev pub AwaitedHaveCauses : List Line → Type 0
AwaitedHaveCauses h = AtInputs AwaitedGo h

-- in each whole history whose events a text may have
abbrev pub EachAwaitedHasItsCauses : Type 0
EachAwaitedHasItsCauses = (w : World) (h : List Line) → StandsFor w h → AreWritten h → AwaitedHaveCauses h

-- ---- at a moment

-- one of these lines sent it to its drive, under some check value
pub record WasSent (lines : List Line) (a : Awaited) : Type 0 where
  pub number : ℕ
  pub command : Command
  pub is : command ≡ record a.command { check = command.check }
  pub there : In (line.Message number party.Server (party.Drive a.drive) (spelling command)) lines

-- so was each command that the job of a file awaits behind these lines, as far as a line can name its drive
abbrev pub WereSent : List Line → Type 0
WereSent h = (file : ℕ) (a : Awaited) → In a (awaited_in (book_of h file)) → a.drive < DRIVES → WasSent h a

-- where these are a moment of a history whose events a text may have
abbrev pub WereSentAt : List Line → Type 0
WereSentAt h = (w : World) → IsMoment w h → AreWritten h → WereSent h

abbrev pub EachAwaitedWasSent : Type 0
EachAwaitedWasSent = (h : List Line) → WereSentAt h
