-- What a replay promises.
use Rattle.std.specs.Prelude.{◌≡◌, ℕ, ◌+◌, ◌<◌, ◌⊎◌, List, [], ◌∷◌, ◌++◌, length, take, codes, ⊤, Option, Some}
use Rattle.std.specs.Prelude.{None, Ok, Err, Result}
use Rattle.std.specs.Io.KnownBytes.{Appends, IsAtEnd}
use Rattle.osd_bytes.specs.Causes.{Rose}
use Rattle.osd_bytes.specs.Lines.{lines_of, next_of}
use Rattle.osd_bytes.specs.declared.lines.LineErr.{LineErr}
use Rattle.scenario_text.specs.declared.event.Event.{Event}
use Rattle.scenario_text.specs.declared.line.Line.{Line}
use Rattle.scenario_text.specs.Spelling.{Fits, Spells, IsSkipped}
use Rattle.scenario_text.specs.LineSpelling.{lines_text}
use Rattle.world_history.specs.State.{World}
use Rattle.world_history.specs.Runs.{FillsUp}
use Rattle.world_history.specs.History.{Lawful}
use Rattle.history_law.specs.Read.{AreWritten}
use Rattle.exchange_law.specs.Text.{AreOfText, AreFew}
use Rattle.history_claims.specs.Carried.{AreCarried}
use Rattle.history_claims.specs.Sound.{IsSound}
use Rattle.osd_replay.specs.Ends.{Ends, Begins, IsAll, IsLineAt, PassesNext, PutsError}
use Rattle.osd_replay.specs.Errors.{error_line, full_name, kind_name}
use Rattle.osd_replay.specs.LineCarried.{IsRefusedIn}
use Rattle.osd_replay.specs.Transcript.{Tells, EndsWith, final_text}
use Rattle.osd_replay.specs.declared.status.Quantity.{Quantity}
use Rattle.osd_replay.specs.declared.status.Quantity.TheVariants.{Input, Line as LineQuantity, Kept}
use Rattle.osd_replay.specs.declared.status.ScenarioKind.{ScenarioKind}
use Rattle.osd_replay.specs.declared.status.Status.{Status}
use Rattle.osd_replay.specs.declared.status.Status.TheVariants.{Done, BadWords, BadScenario, ReadFault, WriteFault}
use Rattle.osd_replay.specs.declared.status.Status.TheVariants.{Memory, Full}

-- these lines have these events: a line that isn't skipped spells one
abbrev pub HasEvents : List (List ℕ) → List Event → Type 0
HasEvents [] events = events ≡ []
HasEvents (line ∷ lines) events =
    (IsSkipped line × HasEvents lines events)
    ⊎ ((e : Event) × (rest : List Event) × (events ≡ e ∷ rest) × Fits e × Spells e line × HasEvents lines rest)

-- The first lines of the input were carried out: a world stands for a history whose events are exactly theirs. What holds
-- of every history in the words of its lines holds of it, also what holds where its events are such as a text has them.
pub record Runs (input : Option (List ℕ)) (lines : List (List ℕ)) (w : World) (h : List Line) : Type 0 where
  pub begins : Begins input lines
  pub events : List Event
  pub spelled : HasEvents lines events
  pub tells : Tells events w h
  pub sound : IsSound h
  pub written : AreWritten h
  pub text : AreOfText h
  pub few : AreFew h

-- ---- the line behind those that were carried out

-- why an answer of the line reader is refused; a line that passes a limit is another end
abbrev pub IsRefused : World → ScenarioKind → Result (Option (List ℕ)) LineErr → Type 0
IsRefused w kind (Err e) = ⊥
IsRefused w kind (Ok None) = ⊥
IsRefused w kind (Ok (Some line)) = IsRefusedIn w kind line

-- the line behind these lines of the input is refused
abbrev pub RefusesNext : Option (List ℕ) → List (List ℕ) → World → ScenarioKind → Type 0
RefusesNext None lines w kind = ⊤
RefusesNext (Some input) lines w kind =
    (front rest : List ℕ) × (input ≡ front ++ rest) × (lines_of input ≡ lines ++ lines_of rest)
    × IsRefused w kind (next_of (length front) rest)

-- The event of the line behind these lines stops just before what would pass the limit of kept bytes. Its lines up to
-- there are lawful behind the history, so what holds of every history holds of all these lines, also what holds where
-- events are such as a text has them and messages are few.
pub record CutsNext (input : Option (List ℕ)) (lines : List (List ℕ)) (w : World) (h cut : List Line) : Type 0 where
  pub line : List ℕ
  pub begins : Begins input (lines ++ line ∷ [])
  pub event : Event
  pub fits : Fits event
  pub spells : Spells event line
  pub fills : FillsUp w event cut
  pub lawful : Lawful (h ++ cut)
  pub sound : IsSound (h ++ cut)
  pub written : AreWritten (h ++ cut)
  pub text : AreOfText (h ++ cut)
  pub few : AreFew (h ++ cut)
  pub carried : AreCarried (h ++ cut)

-- ---- what each status promises

-- every line of the input was carried out, and the whole transcript went out
pub record IsDone (before after : Ends) : Type 0 where
  pub lines : List (List ℕ)
  pub world : World
  pub history : List Line
  pub runs : Runs before.left lines world history
  pub all : IsAll before.left lines
  pub last : Line
  pub ends : EndsWith history last
  pub out : Appends before.taken after.taken (final_text history last)
  pub at_end : IsAtEnd after.left
  pub reads : after.reads_failed ≡ before.reads_failed
  pub writes : after.writes_failed ≡ before.writes_failed

-- the lines before a line were carried out and told, and then an error line
pub record Stops (before after : Ends) (number : ℕ) (reason : List ℕ) : Type 0 where
  pub lines : List (List ℕ)
  pub world : World
  pub history : List Line
  pub runs : Runs before.left lines world history
  pub number_is : number ≡ length lines + 1
  pub puts : PutsError before after (lines_text history) (error_line number reason)

-- the line of that number is the first that is refused, for that reason
pub record IsBadScenario (before after : Ends) (number : ℕ) (kind : ScenarioKind) : Type 0 where
  pub stops : Stops before after number (kind_name kind)
  pub refused : RefusesNext before.left stops.lines stops.world kind

-- the source failed at the line of that number
pub record IsReadFault (before after : Ends) : Type 0 where
  pub number : ℕ
  pub stops : Stops before after number (codes "read")
  pub line : IsLineAt number before.left after.left
  pub rose : Rose before.reads_failed after.reads_failed

-- A transcript of the input's first lines: a history whose events are theirs; such a history and the lines of a
-- further event that stops at the limit of kept bytes; or the history of all lines and the last line.
pub data IsTranscript (input : Option (List ℕ)) (text : List Line) : Type 0 where
  Whole : (lines : List (List ℕ)) → (w : World) → Runs input lines w text → IsTranscript input text
  Cut : (lines : List (List ℕ)) → (w : World) → (h cut : List Line) → Runs input lines w h → CutsNext input lines w h cut
      → text ≡ h ++ cut → IsTranscript input text
  Ended : (lines : List (List ℕ)) → (w : World) → (h : List Line) → (last : Line) → Runs input lines w h
      → IsAll input lines → EndsWith h last → text ≡ h ++ last ∷ [] → IsTranscript input text

-- the sink failed: what went out is a part of a transcript of the input's first lines
pub record IsWriteFault (before after : Ends) : Type 0 where
  pub text : List Line
  pub transcript : IsTranscript before.left text
  pub upto : ℕ
  pub short : upto < length (lines_text text)
  pub out : Appends before.taken after.taken (take upto (lines_text text))
  pub rose : Rose before.writes_failed after.writes_failed

-- there was no memory: for the line of that number, or, with number 0, before the first line or behind the last
pub record IsMemory (before after : Ends) : Type 0 where
  pub lines : List (List ℕ)
  pub world : World
  pub history : List Line
  pub runs : Runs before.left lines world history
  pub number : ℕ
  pub number_is : (number ≡ length lines + 1) ⊎ ((number ≡ 0) × ((lines ≡ []) ⊎ IsAll before.left lines))
  pub puts : PutsError before after (lines_text history) (error_line number (codes "memory"))

-- behind the lines that were carried out a quantity passes its limit
pub record IsInputFull (before after : Ends) (quantity : Quantity) : Type 0 where
  pub number : ℕ
  pub stops : Stops before after number (full_name quantity)
  pub passes : PassesNext before.left stops.lines quantity

-- At the event of the line of that number something would have passed the limit of kept bytes: the lines of that
-- event up to there stand behind those of the events before, and then comes an error line.
pub record IsKeptFull (before after : Ends) : Type 0 where
  pub lines : List (List ℕ)
  pub world : World
  pub history : List Line
  pub runs : Runs before.left lines world history
  pub part : List Line
  pub cuts : CutsNext before.left lines world history part
  pub number : ℕ
  pub number_is : number ≡ length lines + 1
  pub puts : PutsError before after (lines_text (history ++ part)) (error_line number (full_name Kept))

-- what the end of a full quantity promises
abbrev pub IsFull : Ends → Ends → Quantity → Type 0
IsFull before after Input = IsInputFull before after Input
IsFull before after LineQuantity = IsInputFull before after LineQuantity
IsFull before after Kept = IsKeptFull before after

-- what each status promises
abbrev pub Promises : Ends → Ends → Status → Type 0
Promises before after Done = IsDone before after
Promises before after BadWords = ⊥
Promises before after (BadScenario number kind) = IsBadScenario before after number kind
Promises before after ReadFault = IsReadFault before after
Promises before after WriteFault = IsWriteFault before after
Promises before after Memory = IsMemory before after
Promises before after (Full quantity) = IsFull before after quantity
