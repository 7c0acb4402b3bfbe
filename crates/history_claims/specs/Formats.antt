-- The format of a file: that of the capabilities which the server writes for it.
use Rattle.std.specs.Prelude.{◌≡◌, ◌⊎◌, ℕ, false, List, ◌∷◌, ◌++◌, Option, Some, None, max}
use Rattle.osd_capability.specs.declared.layout.TheConstants.{FORMAT_SHA256}
use Rattle.server_rules.specs.Commands.{again_in_2}
use Rattle.server_rules.specs.Files.{file_at}
use Rattle.server_rules.specs.History.{Input, Formats}
use Rattle.server_rules.specs.Laws.{In}
use Rattle.server_rules.specs.Messages.{awaited_by}
use Rattle.server_rules.specs.Replies.{Older, hearing}
use Rattle.scenario_text.specs.declared.line.Line.{Line}
use Rattle.world_history.specs.ServerNames.{Server, File, Awaited}
use Rattle.world_history.specs.Book.{server_after}
use Rattle.world_history.specs.State.{World}
use Rattle.world_history.specs.History.{StandsFor}
use Rattle.history_law.specs.Fencing.{is_fencing}
use Rattle.history_law.specs.Read.{AreWritten}
use Rattle.component_law.specs.Going.{IsMaking}
use Rattle.cause_law.specs.Awaiting.{Answers}
use Rattle.cause_law.specs.Changes.{BeginsFence}
use Rattle.cause_law.specs.EndedGrants.{IsUnderFence}
use Rattle.cause_law.specs.Steps.{AtInputs}

-- ---- what changes it

-- What comes is the reply to a command that the job of the file awaits: that its format is too old.
pub record IsTooOld (s : Server) (i : Input) (f : File) : Type 0 where
  pub awaited : Awaited
  pub there : In awaited (awaited_by f.job)
  pub answers : Answers s i f awaited
  pub old : hearing f.kept awaited answers.reply ≡ Older

-- A fence of the file begins in the step: one is open behind it, or over in it; and none was open before, or an order or the
-- server's opening begins one.
pub record FenceBegins (s : Server) (i : Input) (f g : File) : Type 0 where
  pub under : IsUnderFence f g
  pub anew : (is_fencing f.job ≡ false) ⊎ BeginsFence s i f

-- ---- how it goes on

-- each of these commands has the format of the file
abbrev pub HaveFormat : File → List Awaited → Type 0
HaveFormat f ws = (a : Awaited) → In a ws → a.command.capability.format ≡ f.kept.format

-- In a step the format becomes 2 where a command of the file's job is answered so, and the command goes again, in format 2 and
-- with the next nonce; with the begin of a fence it becomes the server's, if that is greater; else it stays. And each command
-- that the job awaits it awaited before, or it has the file's format.
pub record FormatStep (s : Server) (i : Input) (f g : File) : Type 0 where
  pub renewed : IsTooOld s i f → g.kept.format ≡ FORMAT_SHA256
  pub again : (x : IsTooOld s i f) → In (again_in_2 x.awaited s.next_nonce) (awaited_by g.job)
  pub raised : FenceBegins s i f g → g.kept.format ≡ max f.kept.format s.format
  pub stays : (IsTooOld s i f → ⊥) → (FenceBegins s i f g → ⊥) → g.kept.format ≡ f.kept.format
  pub asks : (a : Awaited) → In a (awaited_by g.job)
      → In a (awaited_by f.job) ⊎ (a.command.capability.format ≡ g.kept.format)

-- There is no such file; or it is made, in the server's format; or it goes on so.
pub data FormatGoes (s : Server) (i : Input) (file : ℕ) : (before behind : Option File) → Type 0 where
  Absent : FormatGoes s i file None None
  Made : (g : File) → IsMaking i file → g.kept.format ≡ s.format → HaveFormat g (awaited_by g.job)
      → FormatGoes s i file None (Some g)
  GoesOn : (f g : File) → FormatStep s i f g → FormatGoes s i file (Some f) (Some g)

-- the server's own format rises by an event that asks for more
abbrev pub format_behind : Input → (format : ℕ) → ℕ
format_behind (Formats n) format = max format n
format_behind i format = format

-- so it is of the server and of each file
pub record FormatsStep (s t : Server) (i : Input) : Type 0 where
  pub server : t.format ≡ format_behind i s.format
  pub files : (file : ℕ) → FormatGoes s i file (file_at s.files file) (file_at t.files file)

-- ---- in the lines

abbrev pub FormatsGo : (before : List Line) → Line → Input → (rest : List Line) → Type 0
FormatsGo before l i rest = FormatsStep (server_after before) (server_after (before ++ l ∷ rest)) i

abbrev pub FormatsHaveCauses : List Line → Type 0
FormatsHaveCauses h = AtInputs FormatsGo h

-- in each whole history whose events a text may have
abbrev pub EachFormatHasItsCause : Type 0
EachFormatHasItsCause = (w : World) (h : List Line) → StandsFor w h → AreWritten h → FormatsHaveCauses h
