-- A move by cases: it is a step of one party, with what that tells and sends, or no party goes on.
use Rattle.std.specs.Prelude.{◌≡◌, ℕ, Bool, false, true, List, [], ◌∷◌, ◌++◌, Option, Some, None, Err}
use Rattle.osd_lists.specs.declared.node.Node.TheVariants as node
use Rattle.osd_commands.specs.Commands as commands
use Rattle.server_rules.specs.Making.{add_drive}
use Rattle.server_rules.specs.History as server
use Rattle.client_rules.specs.Steps.{calls}
use Rattle.client_rules.specs.History as client
use Rattle.scenario_text.specs.declared.event.Event.{Event}
use Rattle.scenario_text.specs.declared.event.Event.TheVariants as event
use Rattle.scenario_text.specs.declared.event.Machine.TheVariants as machine
use Rattle.scenario_text.specs.declared.event.Sender.TheVariants as sender
use Rattle.scenario_text.specs.declared.line.Delivery.{Delivery}
use Rattle.scenario_text.specs.declared.line.Delivery.TheVariants as delivery
use Rattle.scenario_text.specs.declared.line.Ending.TheVariants as ending
use Rattle.scenario_text.specs.declared.line.Outcome.TheVariants as outcome
use Rattle.scenario_text.specs.declared.line.Refusal.TheVariants as refusal
use Rattle.scenario_text.specs.declared.line.Note.{Note}
use Rattle.scenario_text.specs.declared.line.Note.TheVariants as note
use Rattle.scenario_text.specs.declared.line.Line.{Line}
use Rattle.scenario_text.specs.declared.line.Line.TheVariants as line
use Rattle.world_history.specs.ServerNames as server_rules
use Rattle.world_history.specs.ClientNames.{CallOp, CallErr}
use Rattle.world_history.specs.declared.messages.Posted.{Posted}
use Rattle.world_history.specs.State.{World, DriveAt, ClientAt, at_number, with_drive, and_drive, with_client, with_down}
use Rattle.world_history.specs.Told.{told_refusal}
use Rattle.world_history.specs.Drives.{judges, command_in, made_drive, raised, at_time, fallen, crashed, reopened, is_deaf}
use Rattle.world_history.specs.Handed.{Handed, server_did, client_did, drive_replies, for_server, for_client}
use Rattle.world_history.specs.Moves.{Act, Action, Opens, Delivers, TimesOut, changed, tells, told_delivered, judged_at, op_of, raw_of, known_drive, knows_drive, adds_client}
use Rattle.history_law.specs.Said.{said, with_marks, IsDelivered}

-- ---- what an action hands to a party

-- the number of the message that is delivered
abbrev pub number_in : Action → Option ℕ
number_in (Opens (event.Deliver number)) = Some number
number_in (Delivers number) = Some number
number_in action = None

-- what is given to the server, where it isn't a message
abbrev pub given_in : Action → Option server.Input
given_in (Opens (event.File f m tag)) = Some (server.Makes f (raw_of m) tag false)
given_in (Opens (event.ZonedFile f m tag)) = Some (server.Makes f (raw_of m) tag true)
given_in (Opens (event.Zone d zone)) = Some (server.Zones d zone)
given_in (Opens (event.Format format)) = Some (server.Formats format)
given_in (Opens (event.Resend sender.Server)) = Some server.Resends
given_in (Opens (event.Recall f)) = Some (server.Obeys server_rules.ToRecall f)
given_in (Opens (event.Revoke f)) = Some (server.Obeys server_rules.ToRevoke f)
given_in (Opens (event.Rebuild f)) = Some (server.Obeys server_rules.ToRebuild f)
given_in (Opens (event.Audit f)) = Some (server.Obeys server_rules.ToAudit f)
given_in (Opens (event.Declare d)) = Some (server.Obeys server_rules.ToDeclare d)
given_in (Opens (event.Crash machine.Server)) = Some server.Crashes
given_in (Opens (event.Reopen machine.Server)) = Some server.Opens
given_in action = None

-- and to a client
pub record ForClient : Type 0 where
  pub number : ℕ
  pub input : client.Input

abbrev pub asked_in : Action → Option ForClient
asked_in (Opens (event.Do c x)) = Some (record { number = c; input = client.Calls (op_of x) })
asked_in (Opens (event.Call c x)) = Some (record { number = c; input = client.Calls (op_of x) })
asked_in (Opens (event.Resend (sender.Client c))) = Some (record { number = c; input = client.Resends })
asked_in (Opens (event.Timeout c component)) = Some (record { number = c; input = client.TimesOut component })
asked_in (Opens (event.Leave c)) = Some (record { number = c; input = client.Leaves })
asked_in (TimesOut c component) = Some (record { number = c; input = client.TimesOut component })
asked_in action = None

-- the server is handed this: a message that was sent to it, at its clock, while it is up, or what the action gives it
abbrev pub IsForServer : World → Action → server.Input → Type 0
IsForServer w action (server.Hears now from m) =
    (d : IsDelivered w node.Server) × (now ≡ w.clock) × (from ≡ d.posted.message.from)
    × (for_server d.posted.message ≡ Some m) × (number_in action ≡ Some d.number) × (w.down ≡ false)
IsForServer w action i = given_in action ≡ Some i

-- client c is handed this: a message that was sent to it, unless it was stopped, or what the action asks of it
abbrev pub IsForClient : World → Action → (c : ℕ) → ClientAt → client.Input → Type 0
IsForClient w action c a (client.Hears from m) =
    (d : IsDelivered w (node.Client c)) × (from ≡ d.posted.message.from) × (for_client d.posted.message ≡ Some m)
    × (number_in action ≡ Some d.number) × (a.stopped ≡ false)
IsForClient w action c a i = asked_in action ≡ Some (record { number = c; input = i })

-- ---- lines

-- the line that stands in front of what the party tells
abbrev pub front_of : Action → Delivery → List Line
front_of (Opens (event.Deliver number)) d = line.Delivered number d ∷ []
front_of (Opens (event.Timeout c component)) d = line.TimedOut c component ∷ []
front_of (Delivers number) d = line.Delivered number d ∷ []
front_of (TimesOut c component) d = line.TimedOut c component ∷ []
front_of action d = []

-- what a party does, behind some lines
abbrev pub fronted : List Line → Handed → Act
fronted front h = record { world = h.world; told = front ++ h.told; posts = h.posts }

-- the note that a file isn't made
abbrev pub IsFileRefusal : Note → Type 0
IsFileRefusal note.Exists = Unit {0}
IsFileRefusal (note.BadMap why) = Unit {0}
IsFileRefusal (note.TooFew online) = Unit {0}
IsFileRefusal (note.NoSpread online) = Unit {0}
IsFileRefusal n = ⊥

-- what is told where no party goes on: what became of a message, that a client with a call can't leave, that a file is
-- refused, or that a call is left pending
abbrev pub IsQuiet : Line → Type 0
IsQuiet (line.Delivered number d) = Unit {0}
IsQuiet (line.Refused c refusal.Busy) = Unit {0}
IsQuiet (line.Ended c (outcome.Failed kind ending.Pending)) = Unit {0}
IsQuiet (line.Note f n) = IsFileRefusal n
IsQuiet l = ⊥

abbrev pub AreQuiet : List Line → Type 0
AreQuiet [] = Unit {0}
AreQuiet (l ∷ ls) = IsQuiet l × AreQuiet ls

-- ---- the cases

-- what an event makes of a drive
pub data Turns (a b : DriveAt) : Type 0 where
  Raised : (format : ℕ) → b ≡ raised a format → Turns a b
  Timed : (time : ℕ) → b ≡ at_time a time → Turns a b
  Falls : b ≡ fallen a → Turns a b
  Crashed : b ≡ crashed a → Turns a b
  Reopened : b ≡ reopened a → Turns a b

-- the event that makes a drive, which is stored or not
abbrev pub drive_event : (drive : ℕ) → (key : List ℕ) → (capacity : ℕ) → (stored : Bool) → Event
drive_event d key capacity true = event.Disk d key capacity
drive_event d key capacity false = event.Drive d key capacity

-- the world with one drive more
abbrev pub drive_more : World → (drive : ℕ) → (key : List ℕ) → (capacity : ℕ) → (stored : Bool) → World
drive_more w d key capacity stored = and_drive w d (made_drive d key capacity stored)

-- the server is down behind a crash, and up behind an opening
abbrev pub down_behind : Bool → server.Input → Bool
down_behind down server.Crashes = true
down_behind down server.Opens = false
down_behind down i = down

-- the world in which the server takes a step: with other marks, and down or not as it is behind the step
abbrev pub serving : World → List Posted → server.Input → World
serving w ms i = with_down (with_marks w ms) (down_behind w.down i)

-- So is P of an action, where it is in each of these cases. A kind of move that the world learns is a case more.
pub record MoveCases (w : World) (chosen : List ℕ) (action : Action) (P : Act → Type 0) : Type 0 where
  -- no party goes on: a mark may be set, and a line tells why
  pub rests : (ms : List Posted) → said ms ≡ said w.network.messages → (told : List Line) → AreQuiet told
      → P (record { world = with_marks w ms; told = told; posts = [] })
  -- a call is refused
  pub refused : (c : ℕ) (a : ClientAt) → at_number w.clients c ≡ Some a → (op : CallOp)
      → IsForClient w action c a (client.Calls op) → (e : CallErr) → calls a.state op ≡ Err e
      → P (tells w (line.Refused c (told_refusal e)))
  -- the server's clock shows this
  pub clock : (time : ℕ) → P (changed (record w { clock = time }))
  -- the server takes a step
  pub serves : (ms : List Posted) → said ms ≡ said w.network.messages → (i : server.Input) → IsForServer w action i
      → P (fronted (front_of action delivery.Taken) (server_did (serving w ms i) (server.step w.server chosen i)))
  -- so does a client
  pub goes : (ms : List Posted) → said ms ≡ said w.network.messages → (c : ℕ) (a : ClientAt)
      → at_number w.clients c ≡ Some a → (i : client.Input) → IsForClient w action c a i
      → P (fronted (front_of action delivery.Taken) (client_did (with_marks w ms) c a i (client.step a.state i)))
  -- there is a client more
  pub comes : (c : ℕ) → action ≡ Opens (event.Client c) → P (changed (adds_client w c))
  -- a client is stopped
  pub stops : (c : ℕ) (a : ClientAt) → at_number w.clients c ≡ Some a
      → P (changed (with_client w c (record a { stopped = true })))
  -- a drive judges a message that was sent to it
  pub judged : (ms : List Posted) → said ms ≡ said w.network.messages → (d : ℕ) (a : DriveAt)
      → at_number w.drives d ≡ Some a → is_deaf a ≡ false → (m : IsDelivered w (node.Drive d))
      → number_in action ≡ Some m.number
      → P (told_delivered m.number
      (drive_replies (with_marks w ms) d m.posted.message.from (judges a (command_in m.posted.message.body))))
  -- and bytes that are injected
  pub injected : (d : ℕ) (bytes : List ℕ) → action ≡ Opens (event.Inject d bytes) → (a : DriveAt)
      → at_number w.drives d ≡ Some a → P (judged_at w d (judges a (commands.reading bytes)))
  -- an event makes something else of a drive
  pub turns : (d : ℕ) (a b : DriveAt) → at_number w.drives d ≡ Some a → Turns a b → P (changed (with_drive w d b))
  -- there is a drive more, which the server knows already, or learns of
  pub known : (d : ℕ) (key : List ℕ) (capacity : ℕ) (stored : Bool)
      → action ≡ Opens (drive_event d key capacity stored)
      → knows_drive w.server d ≡ true → P (changed (drive_more w d key capacity stored))
  pub adds : (d : ℕ) (key : List ℕ) (capacity : ℕ) (stored : Bool)
      → action ≡ Opens (drive_event d key capacity stored)
      → knows_drive w.server d ≡ false
      → P (record {
        world = record (drive_more w d key capacity stored) {
          server = record w.server { drives = add_drive w.server.drives (known_drive d key capacity) };
        };
        told = [];
        posts = [];
      })
