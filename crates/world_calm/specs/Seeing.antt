-- What is kept of a run to see whether it is calm, and how it goes on step by step.
use Rattle.std.specs.Prelude.{ℕ, Bool, true, false, ◌==◌, ◌&&◌, not, List, [], ◌∷◌, ◌++◌, map, find, slice_get, Option, Some, None, if◌then◌else◌}
use Rattle.std.specs.List.{fold}
use Rattle.osd_commands.specs.declared.commands.Command.{Command}
use Rattle.osd_commands.specs.Commands.{reading}
use Rattle.osd_drive.specs.Table.{is_write}
use Rattle.scenario_text.specs.declared.event.Call.{Call}
use Rattle.scenario_text.specs.declared.event.Call.TheVariants as call
use Rattle.scenario_text.specs.declared.event.Event.{Event}
use Rattle.scenario_text.specs.declared.event.Event.TheVariants as event
use Rattle.scenario_text.specs.declared.line.Party.{Party}
use Rattle.scenario_text.specs.declared.line.Party.TheVariants as party
use Rattle.scenario_text.specs.declared.line.Ending.TheVariants as ending
use Rattle.scenario_text.specs.declared.line.Outcome.{Outcome}
use Rattle.scenario_text.specs.declared.line.Outcome.TheVariants as outcome
use Rattle.scenario_text.specs.declared.line.Refusal.{Refusal}
use Rattle.scenario_text.specs.declared.line.Refusal.TheVariants as refusal
use Rattle.scenario_text.specs.declared.line.Note.{Note}
use Rattle.scenario_text.specs.declared.line.Note.TheVariants as note
use Rattle.scenario_text.specs.declared.line.Line.{Line}
use Rattle.scenario_text.specs.declared.line.Line.TheVariants as line
use Rattle.world_history.specs.ServerNames.{Kept, Mended}
use Rattle.world_history.specs.declared.messages.Sent.{Sent}
use Rattle.world_history.specs.State.{at_number, without_number}
use Rattle.world_history.specs.Calm.{returned_at, is_told_taken}
use Rattle.world_calm.specs.declared.calm.Performed.{Performed}
use Rattle.world_calm.specs.Read.{command_of}
use Rattle.world_calm.specs.Log.{LogState, LogEntry, no_log, called, forgot, write_by, finished, sent_as}
use Rattle.world_calm.specs.Files.{FilesState, StripeOf, no_files, shown, file_as, component_as, missing, standing_on, is_short_at, stripes_at}
use Rattle.world_calm.specs.Marking.{Marked, NewMark, marked, unmarked, all_mended, is_left_by, left, any_harmed, any_newly_harmed}

-- the log, the files as the moment shows them, the clients that were stopped, the stripes in which WRITEs of unfinished
-- writes were performed, and whether all moments so far were calm
pub record CalmState : Type 0 where
  pub log : LogState
  pub files : FilesState
  pub stopped : List ℕ
  pub marks : List Marked
  pub calm : Bool

-- before the first line
abbrev pub calm_at_first : CalmState
calm_at_first = record { log = no_log; files = no_files; stopped = []; marks = []; calm = true }

-- what the server keeps of each file
abbrev pub KeptOf : Type 0
KeptOf = ℕ → Option Kept

-- ---- a report that is taken as a loss

abbrev pub numbers_in : Option (List ℕ) → List ℕ
numbers_in None = []
numbers_in (Some ns) = ns

-- writes are finished
abbrev pub all_finished : CalmState → List ℕ → CalmState
all_finished c ns = record c { log = fold finished c.log ns; marks = fold unmarked c.marks ns }

-- those under a grant
abbrev pub without_grant : CalmState → (grant : ℕ) → CalmState
without_grant c g = record c { log = record c.log { by_grant = without_number c.log.by_grant g } }

abbrev pub taken_under : CalmState → (grant : ℕ) → CalmState
taken_under c g = all_finished (without_grant c g) (numbers_in (at_number c.log.by_grant g))

-- where the step returns the grant and says that the report was taken
abbrev pub taken_if : CalmState → (told : Bool) → (grant : ℕ) → CalmState
taken_if c told g = if told then taken_under c g else c

abbrev pub taken_by : CalmState → List Line → Option ℕ → CalmState
taken_by c rest None = c
taken_by c rest (Some g) = taken_if c (is_told_taken rest) g

abbrev pub takes : CalmState → List Sent → (head : Line) → (rest : List Line) → CalmState
takes c ms head rest = taken_by c rest (returned_at ms head)

-- ---- what an event changes before the first moment of its step

abbrev pub fails : CalmState → (drive : ℕ) → CalmState
fails c d = record c { files = record c.files { failed = c.files.failed ++ d ∷ [] } }

abbrev pub opened_by : CalmState → Event → CalmState
opened_by c (event.Fail d) = fails c d
opened_by c (event.Stop k) = record c { stopped = c.stopped ++ k ∷ [] }
opened_by c e = c

abbrev pub opened : CalmState → (head : Line) → CalmState
opened c (line.Event e) = opened_by c e
opened c l = c

-- ---- a WRITE is performed

abbrev pub mark_of : (write : ℕ) → LogEntry → StripeOf → NewMark
mark_of n w s = record { write = n; client = w.client; grant = w.grant; file = s.file; stripe = s.stripe }

-- the stripe is short, and the write is left
abbrev pub harms : KeptOf → CalmState → NewMark → Bool
harms kept c k = is_left_by c.stopped kept k.client k.grant k.file && is_short_at c.files k.file k.stripe

-- it marks a stripe
abbrev pub marks_one : KeptOf → CalmState → NewMark → CalmState
marks_one kept c k = record c { marks = marked c.marks k; calm = c.calm && not (harms kept c k) }

abbrev pub marks_all : KeptOf → CalmState → (write : ℕ) → LogEntry → List StripeOf → CalmState
marks_all kept c n w ss = fold (λ (x : CalmState) (s : StripeOf). marks_one kept x (mark_of n w s)) c ss

-- for a write that isn't finished
abbrev pub marks_for : KeptOf → CalmState → (drive : ℕ) → Command → (write : ℕ) → Option LogEntry → CalmState
marks_for kept c d x n None = c
marks_for kept c d x n (Some w) =
    if w.finished then c else marks_all kept c n w (stripes_at c.files d x.object x.offset)

abbrev pub performs_command : KeptOf → CalmState → (drive write : ℕ) → Option Command → CalmState
performs_command kept c d n None = c
performs_command kept c d n (Some x) =
    if is_write x.action then marks_for kept c d x n (slice_get c.log.entries n) else c

abbrev pub performs_sent : KeptOf → CalmState → (drive write : ℕ) → Option Sent → CalmState
performs_sent kept c d n None = c
performs_sent kept c d n (Some s) = performs_command kept c d n (command_of (reading s.bytes))

abbrev pub performs_for : KeptOf → CalmState → List Sent → Performed → Option ℕ → CalmState
performs_for kept c ms p None = c
performs_for kept c ms p (Some n) = performs_sent kept c p.drive n (slice_get ms p.message)

abbrev pub performs : KeptOf → CalmState → List Sent → Option Performed → CalmState
performs kept c ms None = c
performs kept c ms (Some p) = performs_for kept c ms p (at_number c.log.sent_for p.message)

-- ---- the first moment of a step: grants end

abbrev pub begun : KeptOf → CalmState → CalmState
begun kept c = record c {
  marks = left c.stopped kept c.marks;
  calm = c.calm && not (any_newly_harmed c.stopped kept c.files c.marks);
}

-- ---- a moment at which components may have been lost: all stripes of writes that are left are looked at

abbrev pub looked : CalmState → CalmState
looked c = record c { calm = c.calm && not (any_harmed c.files c.marks) }

-- a drive fails
abbrev pub is_fail : (head : Line) → Bool
is_fail (line.Event (event.Fail d)) = true
is_fail l = false

abbrev pub looked_at : CalmState → (head : Line) → CalmState
looked_at c head = if is_fail head then looked c else c

-- ---- notes, each a moment

abbrev pub loses : CalmState → (file component : ℕ) → CalmState
loses c f k = record c { files = file_as c.files f (component_as k missing) }

abbrev pub mended_by : CalmState → Option Mended → CalmState
mended_by c None = c
mended_by c (Some r) = record c { marks = all_mended c.marks r }

abbrev pub noted : List Mended → CalmState → (file : ℕ) → Note → CalmState
noted rs c f (note.NoSpace k) = loses c f k
noted rs c f (note.Reported k) = loses c f k
noted rs c f (note.Rebuilt k d) = record c { files = file_as c.files f (component_as k (standing_on d)) }
noted rs c f (note.Repaired stripes short) = mended_by c (find (λ (r : Mended). r.file == f) rs)
noted rs c f n = c

abbrev pub notes : List Mended → CalmState → Line → CalmState
notes rs c (line.Note f n) = looked (noted rs c f n)
notes rs c l = c

-- ---- the log behind the moments of a step

abbrev pub writes : Call → Bool
writes (call.Write f offset bytes) = true
writes (call.Read f offset count) = false

abbrev pub calls : CalmState → (client : ℕ) → Call → CalmState
calls c k x = record c { log = called c.log k (writes x) }

abbrev pub logs_event : CalmState → Event → CalmState
logs_event c (event.Do k x) = calls c k x
logs_event c (event.Call k x) = calls c k x
logs_event c e = c

abbrev pub forgets : CalmState → (client : ℕ) → CalmState
forgets c k = record c { log = forgot c.log k }

abbrev pub refused : CalmState → (client : ℕ) → Refusal → CalmState
refused c k refusal.Busy = c
refused c k why = forgets c k

-- the write of a call was acknowledged
abbrev pub acknowledged : CalmState → Option ℕ → CalmState
acknowledged c None = c
acknowledged c (Some n) = record c { log = finished c.log n; marks = unmarked c.marks n }

abbrev pub ended : CalmState → (client : ℕ) → Outcome → CalmState
ended c k (outcome.Failed kind ending.Pending) = c
ended c k (outcome.WriteOk count) = forgets (acknowledged c (write_by c.log k)) k
ended c k o = forgets c k

abbrev pub sent_by : CalmState → (client message : ℕ) → Option Command → CalmState
sent_by c k n None = c
sent_by c k n (Some x) = record c { log = sent_as c.log k n x x.action }

abbrev pub sent : CalmState → (message : ℕ) → Party → Party → (bytes : List ℕ) → CalmState
sent c n (party.Client k) (party.Drive d) bytes = sent_by c k n (command_of (reading bytes))
sent c n from to bytes = c

abbrev pub logs : CalmState → Line → CalmState
logs c (line.Event e) = logs_event c e
logs c (line.Refused k why) = refused c k why
logs c (line.Ended k o) = ended c k o
logs c (line.Message n from to bytes) = sent c n from to bytes
logs c l = c

-- ---- files behind a step, as the server keeps them

abbrev pub shown_with : FilesState → Option Kept → FilesState
shown_with s None = s
shown_with s (Some k) = shown s k

abbrev pub shows : KeptOf → CalmState → (file : ℕ) → CalmState
shows kept c f = record c { files = shown_with c.files (kept f) }

abbrev pub shows_all : KeptOf → CalmState → List ℕ → CalmState
shows_all kept c ns = fold (shows kept) c ns

-- those whose components change
abbrev pub shows_changed : KeptOf → CalmState → Line → CalmState
shows_changed kept c (line.Event (event.File f m tag)) = shows kept c f
shows_changed kept c (line.Event (event.ZonedFile f m tag)) = shows kept c f
shows_changed kept c (line.Event (event.Declare d)) = shows_all kept c (map (λ e. e.0) c.files.files)
shows_changed kept c (line.Note f (note.Rebuilt k d)) = shows kept c f
shows_changed kept c l = c

abbrev pub follows : KeptOf → CalmState → Line → CalmState
follows kept c l = shows_changed kept (logs c l) l

-- ---- a step

-- up to its first moment
abbrev pub begins : KeptOf → CalmState → List Sent → (head : Line) → (rest : List Line) → Option Performed → CalmState
begins kept c ms head rest p = looked_at (begun kept (performs kept (opened (takes c ms head rest) head) ms p)) head

-- the line with which it begins, and those behind it
abbrev pub sees : KeptOf → List Mended → CalmState → List Sent → (head : Line) → (rest : List Line) → Option Performed
    → CalmState
sees kept rs c ms head rest p =
    fold (follows kept) (fold (notes rs) (begins kept c ms head rest p) rest) (head ∷ rest)
