-- Whether a history is calm: at no moment of it a stripe is torn and short.
use Rattle.std.specs.Prelude.{ℕ, Bool, false, true, ◌==◌, ◌&&◌, not, List, [], ◌∷◌, ◌++◌, map, find, position, slice_get, slice_set, Option, Some, None, Result, Ok, Err, if◌then◌else◌}
use Rattle.std.specs.List.{fold, list_any}
use Rattle.std.specs.Cmp.Lexicographic.{pointwise}
use Rattle.std.specs.Prelude.{nat_eq}
use Rattle.osd_commands.specs.declared.commands.Command.{Command}
use Rattle.osd_commands.specs.declared.commands.CommandErr.{CommandErr}
use Rattle.osd_commands.specs.Commands as commands
use Rattle.layout_ops.specs.declared.args.Args.{Args}
use Rattle.layout_ops.specs.declared.args.Args.TheVariants as args
use Rattle.layout_ops.specs.declared.envelope.Envelope.{Envelope}
use Rattle.layout_ops.specs.declared.envelope.Envelope.TheVariants as envelope
use Rattle.layout_ops.specs.declared.err.OpErr.{OpErr}
use Rattle.layout_ops.specs.Reading.{envelope_of}
use Rattle.osd_drive.specs.Table.{is_write}
use Rattle.world_history.specs.ServerNames.{Server, File, Component, Mended, Outgoing, Answers}
use Rattle.server_rules.specs.Files.{Step as ServerStep, file_at, put_file}
use Rattle.server_rules.specs.Standing.{lose_from}
use Rattle.client_rules.specs.Requests.{grant_in}
use Rattle.client_rules.specs.Answers.{is_loss_taken}
use Rattle.scenario_text.specs.declared.event.Event.TheVariants as event
use Rattle.scenario_text.specs.declared.line.Verdict.TheVariants as verdict
use Rattle.scenario_text.specs.declared.line.Delivery.TheVariants as delivery
use Rattle.scenario_text.specs.declared.line.Note.{Note}
use Rattle.scenario_text.specs.declared.line.Note.TheVariants as note
use Rattle.scenario_text.specs.declared.line.Party.{Party}
use Rattle.scenario_text.specs.declared.line.Party.TheVariants as party
use Rattle.scenario_text.specs.declared.line.Line.{Line}
use Rattle.scenario_text.specs.declared.line.Line.TheVariants as line
use Rattle.world_history.specs.State.{Sent, at_number}
use Rattle.world_history.specs.Reading.{Step, steps_of, is_drive}
use Rattle.world_history.specs.ReadDrives.{injected_after}
use Rattle.world_history.specs.Book.{ServerSeen, server_step, sees_server, server_at_first}
use Rattle.world_history.specs.ReadLog.{Logged, Log, log_after, empty_log}
use Rattle.world_history.specs.Stripes.{Mark, Moment, is_calm, marks_of, marks_left}

-- what was seen so far: the server and the messages, the bytes that were injected last, and the moment
pub record Seen : Type 0 where
  pub server : ServerSeen
  pub injected : List ℕ
  pub moment : Moment
  pub calm : Bool

-- ---- a report that is taken as a loss

-- the grant that a return names
abbrev pub returned_in : Args → Option ℕ
returned_in (args.LayoutReturn a) = Some (grant_in a.stateid)
returned_in other = None

abbrev pub return_in : Result Envelope OpErr → Option ℕ
return_in (Ok (envelope.Request q)) = returned_in q.args
return_in other = None

abbrev pub return_for : Sent → Party → Option ℕ
return_for s party.Server = return_in (envelope_of s.bytes)
return_for s to = None

abbrev pub return_of : Option Sent → Option ℕ
return_of None = None
return_of (Some s) = return_for s s.to

-- the grant that is returned at a line
abbrev pub returned_at : List Sent → Line → Option ℕ
returned_at ss (line.Delivered number d) = return_of (slice_get ss number)
returned_at ss l = None

-- an answer that says that a report was taken
abbrev pub says_taken : Result Envelope OpErr → Bool
says_taken (Ok (envelope.Answer a)) = is_loss_taken a
says_taken other = false

abbrev pub sent_taken : Line → Bool
sent_taken (line.Message number party.Server to bytes) = says_taken (envelope_of bytes)
sent_taken l = false

-- it stands among the lines of the step
abbrev pub is_told_taken : List Line → Bool
is_told_taken rest = list_any sent_taken rest

-- the server's step sends it
abbrev pub is_taken_out : Outgoing → Bool
is_taken_out (Answers a) = is_loss_taken a
is_taken_out o = false

abbrev pub takes_loss : Option ServerStep → Bool
takes_loss None = false
takes_loss (Some did) = list_any is_taken_out did.sends

-- the write under that grant is taken as a loss
abbrev pub taken_under : (grant : ℕ) → Logged → Logged
taken_under g e = if e.grant == g then record e { taken = true } else e

abbrev pub taken_by : Log → Bool → Option ℕ → Log
taken_by l true (Some g) = record l { entries = map (taken_under g) l.entries }
taken_by l told returned = l

-- ---- the server in the middle of a step

-- a file as its grants are behind the step, and its components before it
abbrev pub with_components : File → Option File → File
with_components f None = f
with_components f (Some old) = record f { kept = record f.kept { components = old.kept.components } }

-- or as its grants are before it too: the end of a grant by a report that is taken counts from the answer on
abbrev pub with_grants : File → Option File → File
with_grants f None = f
with_grants f (Some old) = record f { kept = record f.kept { grants = old.kept.grants } }

abbrev pub untold_file : (untold : Bool) → List File → File → File
untold_file true before f = with_grants f (file_at before f.kept.number)
untold_file false before f = f

-- the server at the beginning of its step: grants have ended, and no note was told
abbrev pub begun_file : (untold : Bool) → List File → File → File
begun_file untold before f = with_components (untold_file untold before f) (file_at before f.kept.number)

abbrev pub at_begin : (untold : Bool) → (before after : Server) → Server
at_begin untold before after = record after { files = map (begun_file untold before.files) after.files }

-- ---- notes, each a moment

-- component k stands on a drive again; in which object, the step's end says
abbrev pub stands_on : List Component → (component drive : ℕ) → Option Component → List Component
stands_on cs k d None = cs
stands_on cs k d (Some at) = slice_set cs k (record at { drive = d; missing = false })

-- the components behind a note
abbrev pub noted : List Component → Note → List Component
noted cs (note.NoSpace k) = lose_from (k ∷ []) cs 0
noted cs (note.Reported k) = lose_from (k ∷ []) cs 0
noted cs (note.Rebuilt k d) = stands_on cs k d (slice_get cs k)
noted cs n = cs

abbrev pub noted_in : List File → (file : ℕ) → Note → Option File → List File
noted_in fs n what None = fs
noted_in fs n what (Some f) =
    put_file fs n (record f { kept = record f.kept { components = noted f.kept.components what } })

-- the marks behind a note: a repair that is over takes some away
abbrev pub marks_behind : List Mark → Note → Option File → Option Mended → List Mark
marks_behind ks (note.Repaired stripes short) (Some f) (Some r) = marks_left ks f.kept.map r
marks_behind ks n f r = ks

-- the moment behind a note on a file
abbrev pub moment_behind : List Mended → Moment → (file : ℕ) → Note → Moment
moment_behind rs m n what = record m {
  server = record m.server { files = noted_in m.server.files n what (file_at m.server.files n) };
  marks = marks_behind m.marks what (file_at m.server.files n) (find (λ (r : Mended). r.file == n) rs);
}

-- a moment, and whether all so far were calm
pub record Watched : Type 0 where
  pub moment : Moment
  pub calm : Bool

abbrev pub watched : Watched → Moment → Watched
watched w m = record { moment = m; calm = w.calm && is_calm m }

-- each note is a moment
abbrev pub watches : List Mended → Watched → Line → Watched
watches rs w (line.Note f what) = watched w (moment_behind rs w.moment f what)
watches rs w l = w

-- ---- a WRITE that a drive performs

-- the message whose bytes a drive performed
pub record Performed : Type 0 where
  pub drive : ℕ
  pub message : ℕ

-- a message that was delivered to one
abbrev pub performed_by : (number : ℕ) → Party → Option Performed
performed_by number (party.Drive d) = Some (record { drive = d; message = number })
performed_by number to = None

abbrev pub performed_sent : (number : ℕ) → Option Sent → Option Performed
performed_sent number None = None
performed_sent number (Some s) = performed_by number s.to

-- a message to that drive with these bytes
abbrev pub is_sent_as : (drive : ℕ) → (bytes : List ℕ) → Sent → Bool
is_sent_as d bytes s = is_drive d s.to && pointwise nat_eq s.bytes bytes

-- bytes that were injected stand for the first such message
abbrev pub performed_first : (drive : ℕ) → Option ℕ → Option Performed
performed_first d None = None
performed_first d (Some number) = Some (record { drive = d; message = number })

-- at a line
abbrev pub performed_at : List Sent → (injected : List ℕ) → Line → Option Performed
performed_at ss injected (line.Delivered number (delivery.Judged verdict.Perform)) =
    performed_sent number (slice_get ss number)
performed_at ss injected (line.Judged d verdict.Perform) =
    performed_first d (position (is_sent_as d injected) ss)
performed_at ss injected l = None

-- the marks of a WRITE for an entry of the log
abbrev pub marks_read : List File → (drive entry : ℕ) → Result Command CommandErr → List Mark
marks_read fs d e (Ok c) = if is_write c.action then marks_of fs d c.object c.offset e else []
marks_read fs d e (Err cause) = []

abbrev pub marks_sent : List File → (drive entry : ℕ) → Option Sent → List Mark
marks_sent fs d e None = []
marks_sent fs d e (Some s) = marks_read fs d e (commands.reading s.bytes)

-- of a message that was sent for one
abbrev pub marks_for : Moment → List Sent → Performed → Option ℕ → List Mark
marks_for m ss p None = []
marks_for m ss p (Some e) = marks_sent m.server.files p.drive e (slice_get ss p.message)

abbrev pub marks_by : Moment → List Sent → Option Performed → List Mark
marks_by m ss None = []
marks_by m ss (Some p) = marks_for m ss p (at_number m.log.writes p.message)

-- the marks that a line adds
abbrev pub marks_at : Seen → Line → List Mark
marks_at s l = marks_by s.moment s.server.sent (performed_at s.server.sent s.injected l)

-- ---- a step

-- drives that failed
abbrev pub failed_after : List ℕ → Line → List ℕ
failed_after ds (line.Event (event.Fail d)) = d ∷ ds
failed_after ds l = ds

-- clients that were stopped
abbrev pub stopped_after : List ℕ → Line → List ℕ
stopped_after cs (line.Event (event.Stop c)) = c ∷ cs
stopped_after cs l = cs

-- the server where a step of it begins
abbrev pub server_begins : Server → (told : Bool) → Option ServerStep → Server
server_begins s told None = s
server_begins s told (Some did) = at_begin (takes_loss (Some did) && not told) s did.state

-- the moment at which a step begins: grants end first
abbrev pub begins : Seen → Step → Option ServerStep → Moment
begins s t did = record {
  server = server_begins s.server.server (is_told_taken t.rest) did;
  failed = failed_after s.moment.failed t.head;
  stopped = stopped_after s.moment.stopped t.head;
  log = taken_by s.moment.log (is_told_taken t.rest) (returned_at s.server.sent t.head);
  marks = s.moment.marks ++ marks_at s t.head;
}

-- the repairs that are over in it
abbrev pub mended_in : Option ServerStep → List Mended
mended_in None = []
mended_in (Some did) = did.mended

-- through the notes of the step
abbrev pub through : Seen → Step → Option ServerStep → Watched
through s t did =
    fold (watches (mended_in did)) (watched (record { moment = s.moment; calm = s.calm }) (begins s t did)) t.rest

-- the moment behind the step
abbrev pub behind : Step → ServerSeen → Moment → Moment
behind t server m = record m { server = server.server; log = fold log_after m.log (t.head ∷ t.rest) }

abbrev pub seen_after : Step → ServerSeen → (injected : List ℕ) → Watched → Seen
seen_after t server injected w = record {
  server = server;
  injected = injected;
  moment = behind t server w.moment;
  calm = w.calm;
}

abbrev pub sees : Seen → Step → Seen
sees s t =
    seen_after t (sees_server s.server t) (injected_after s.injected t.head) (through s t (server_step s.server t))

abbrev pub first_moment : Moment
first_moment = record { server = server_at_first.server; failed = []; stopped = []; log = empty_log; marks = [] }

abbrev pub first_seen : Seen
first_seen = record { server = server_at_first; injected = []; moment = first_moment; calm = true }

abbrev pub seen : List Line → Seen
seen h = fold sees first_seen (steps_of h)

-- the moment at the end of a history
abbrev pub moment_of : List Line → Moment
moment_of h = (seen h).moment

-- at no moment of a history is a stripe with parity torn and short
abbrev pub calm : List Line → Bool
calm h = (seen h).calm
