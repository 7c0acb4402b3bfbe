-- What a server that crashed keeps from clients: no new grant of a file that had grants, or a fence under way, until a fence
-- of it is over.
use Rattle.std.specs.Prelude.{◌≡◌, ◌≢◌, ◌⊎◌, ℕ, true, List, [], ◌∷◌, ◌++◌, Option, Some, None, Ok}
use Rattle.layout_ops.specs.declared.results.LayoutGetResult.TheVariants as get
use Rattle.layout_ops.specs.declared.results.Results.{Results}
use Rattle.layout_ops.specs.declared.results.Results.TheVariants as results
use Rattle.layout_ops.specs.declared.envelope.Envelope.{Envelope}
use Rattle.layout_ops.specs.declared.envelope.Envelope.TheVariants as envelope
use Rattle.layout_ops.specs.Reading.{envelope_of}
use Rattle.server_rules.specs.declared.limits.TheConstants.{GREATEST_TAG}
use Rattle.server_rules.specs.Laws.{In}
use Rattle.scenario_text.specs.declared.event.Event.TheVariants as event
use Rattle.scenario_text.specs.declared.event.Machine.TheVariants as machine
use Rattle.scenario_text.specs.declared.line.Note.TheVariants.{Fenced}
use Rattle.scenario_text.specs.declared.line.Party.TheVariants as party
use Rattle.scenario_text.specs.declared.line.Line.{Line}
use Rattle.scenario_text.specs.declared.line.Line.TheVariants as line
use Rattle.world_history.specs.ServerNames.{File, Kept}
use Rattle.world_history.specs.Book.{book_of, live_in}
use Rattle.world_history.specs.State.{World}
use Rattle.history_law.specs.BookMoments.{IsMoment}
use Rattle.history_law.specs.Read.{AreWritten}
use Rattle.exchange_law.specs.Text.{AreOfText, AreFew}
use Rattle.cause_law.specs.Changes.{IsUnsettled}

-- ---- lines

-- the server crashes, and is opened
abbrev pub crash_line : Line
crash_line = line.Event (event.Crash machine.Server)

abbrev pub reopen_line : Line
reopen_line = line.Event (event.Reopen machine.Server)

-- none of these tells that a fence of the file is over
abbrev pub NoneOver : (file : ℕ) → List Line → Type 0
NoneOver file ls = (tag : ℕ) → In (line.Note file (Fenced tag)) ls → ⊥

-- These lines leave the file barred: no fence of it is over. If it has the greatest tag, none can be, and the server doesn't
-- crash once more either.
pub record LeaveBarred (file : ℕ) (kept : Kept) (ls : List Line) : Type 0 where
  pub fence : NoneOver file ls
  pub crash : kept.tag ≡ GREATEST_TAG → In crash_line ls → ⊥

-- ---- what is told

-- these results give a layout
abbrev pub GiveLayout : Results → Type 0
GiveLayout (results.LayoutGet (get.Granted ok)) = Unit {0}
GiveLayout r = ⊥

-- so does this message, and of the file
abbrev pub GivesLayoutOf : (file : ℕ) → Envelope → Type 0
GivesLayoutOf n (envelope.Answer a) = (a.file ≡ n) × GiveLayout a.results
GivesLayoutOf n e = ⊥

-- no client reads in these bytes a message that gives a layout of the file
abbrev pub ReadsNone : (file : ℕ) → (bytes : List ℕ) → Type 0
ReadsNone file bytes = (m : Envelope) → envelope_of bytes ≡ Ok m → GivesLayoutOf file m → ⊥

-- the server sent the client these bytes
pub record WasSentTo (h : List Line) (client : ℕ) (bytes : List ℕ) : Type 0 where
  pub number : ℕ
  pub there : In (line.Message number party.Server (party.Client client) bytes) h

-- each message of the server to a client repeats what the client was sent before, or no layout of the file can be read in it
abbrev pub TellNoneNew : (before : List Line) → (file : ℕ) → (ls : List Line) → Type 0
TellNoneNew before file ls =
    (number client : ℕ) (bytes : List ℕ) → In (line.Message number party.Server (party.Client client) bytes) ls
    → WasSentTo before client bytes ⊎ ReadsNone file bytes

-- ---- what the book has

-- a fence of the file was refused, since there is no further tag
abbrev pub IsRefused : Option File → Type 0
IsRefused None = ⊥
IsRefused (Some f) = f.spent ≡ true

-- From a crash on, of a file as the book had it then, at a moment behind further lines: what clients are told since; once the
-- server was opened again, no grant of the file is live, or the file is refused if it has the greatest tag.
pub record IsBarred (before ls : List Line) (file : ℕ) (kept : Kept) : Type 0 where
  pub told : TellNoneNew before file ls
  pub none : In reopen_line ls → kept.tag ≢ GREATEST_TAG → live_in (book_of (before ++ crash_line ∷ ls) file) ≡ []
  pub refused : In reopen_line ls → kept.tag ≡ GREATEST_TAG → IsRefused (book_of (before ++ crash_line ∷ ls) file)

-- So it is of each file that had a live grant when the server crashed, or a fence that no repair had followed.
abbrev pub CrashesBar : List Line → Type 0
CrashesBar h =
    (before ls : List Line) → h ≡ before ++ crash_line ∷ ls → (file : ℕ) (f : File) → book_of before file ≡ Some f
    → IsUnsettled f.kept → LeaveBarred file f.kept ls → IsBarred before ls file f.kept

-- at each moment of a history of a scenario's text with few messages
abbrev pub CrashesBarAt : List Line → Type 0
CrashesBarAt h = (w : World) → IsMoment w h → AreWritten h → AreOfText h → AreFew h → CrashesBar h

abbrev pub EachCrashBars : Type 0
EachCrashBars = (h : List Line) → CrashesBarAt h
