-- A step of the server by cases: what comes to it, and the file at which that is done.
use Rattle.std.specs.Prelude.{◌≡◌, ◌≤◌, ◌==◌, ℕ, Bool, false, true, List, [], ◌∷◌, ◌++◌, Some, None, find, is_some}
use Rattle.osd_lists.specs.declared.node.Node.TheVariants.{Server as FromServer, Drive as FromDrive, Client as FromClient}
use Rattle.layout_ops.specs.declared.statuses.TheConstants.{NFS4ERR_SEQ_MISORDERED}
use Rattle.server_rules.specs.declared.limits.TheConstants.{MAX_CLIENT, GREATEST_TAG}
use Rattle.server_rules.specs.Answers.{plain_answer}
use Rattle.server_rules.specs.Files.{Step, still, begins, file_at, at_file, step_at}
use Rattle.server_rules.specs.Get.{lowest}
use Rattle.server_rules.specs.Going.{Going, noting}
use Rattle.server_rules.specs.History.{Input, Hears, Makes, Obeys, Adds, Zones, Formats, Resends, Crashes, Opens}
use Rattle.server_rules.specs.Jobs.{fence_begins}
use Rattle.server_rules.specs.Laws.{In}
use Rattle.server_rules.specs.Making.{refusal, drives_for, unmade, makes_file, add_drive, set_format}
use Rattle.server_rules.specs.Messages.{Asks, Replies, Orders, counters_have_room, resend}
use Rattle.server_rules.specs.Openings.{opens_each, crash}
use Rattle.server_rules.specs.Orders.{recalls, declare}
use Rattle.server_rules.specs.Replies.{answers, hearing, hears}
use Rattle.server_rules.specs.Requests.{serves, keeps, answer_without, carried_out, only_answers, size_in, on_request}
use Rattle.server_rules.specs.Rounds.{step_round}
use Rattle.server_rules.specs.Served.{tells}
use Rattle.server_rules.specs.Zoning.{put_in_zone}
use Rattle.server_rules.specs.Slots.{New, Again, Misordered, slot_of, admit}
use Rattle.world_history.specs.ServerNames.{Server, File, Drive, Job, JobKind, Awaited, NoteKind, Busy, Spent, ClientRequest, Answer, Reply, RawMap, Order, OrderKind, OrderResult, AnswersOrder}

-- ---- what comes to the server

-- a request of a client
pub record IsAsked (s : Server) (i : Input) (now : ℕ) (q : ClientRequest) : Type 0 where
  pub is : i ≡ Hears now (FromClient q.client) (Asks q)
  pub named : q.client ≤ MAX_CLIENT
  pub low : counters_have_room s ≡ true

-- a reply of a drive, and what it answers
pub record Answering : Type 0 where
  pub now : ℕ
  pub drive : ℕ
  pub reply : Reply
  pub file : File
  pub job : Job
  pub awaited : Awaited

pub record IsAnswering (s : Server) (i : Input) (x : Answering) : Type 0 where
  pub is : i ≡ Hears x.now (FromDrive x.drive) (Replies x.reply)
  pub low : counters_have_room s ≡ true
  pub there : In x.file s.files
  pub runs : x.file.job ≡ Some x.job
  pub awaits : find (answers x.drive x.reply) x.job.awaited ≡ Some x.awaited

-- the file behind it
abbrev pub answered_file : Server → (chosen : List ℕ) → Answering → Going
answered_file s chosen x =
    hears (at_file s chosen x.file) x.job x.awaited x.reply (hearing x.file.kept x.awaited x.reply)

-- an order, at the server or in a message
pub data IsOrder (i : Input) (kind : OrderKind) (target : ℕ) : Type 0 where
  Here : i ≡ Obeys kind target → IsOrder i kind target
  Sent : (now : ℕ) (o : Order) → i ≡ Hears now FromServer (Orders o) → o.order ≡ kind → o.target ≡ target
      → IsOrder i kind target

-- on a file that there is
pub record IsOrdered (s : Server) (i : Input) (f : File) : Type 0 where
  pub kind : OrderKind
  pub target : ℕ
  pub order : IsOrder i kind target
  pub found : file_at s.files target ≡ Some f

-- a job is refused with this note, since one runs, or the tag is spent
pub data Refuses (f : File) (n : NoteKind) : Type 0 where
  WhileBusy : (j : Job) → f.job ≡ Some j → n ≡ Busy (lowest j.awaited) → Refuses f n
  OnGreatest : f.job ≡ None → (f.kept.tag == GREATEST_TAG) ≡ true → n ≡ Spent → Refuses f n

-- ---- the cases

-- the same step, with the answer to an order behind what it sends
abbrev pub with_answer : Step → OrderKind → OrderResult → Step
with_answer t kind result =
    record t { sends = t.sends ++ (AnswersOrder (record { order = kind; result = result }) ∷ []) }

-- the server with another list of drives, or another format
abbrev pub with_added : Server → Drive → Server
with_added s d = record s { drives = add_drive s.drives d }

-- a drive is put into a zone
abbrev pub with_zoned : Server → (drive zone : ℕ) → Server
with_zoned s d zone = record s { drives = put_in_zone s.drives d zone }

-- the file that is made
abbrev pub new_file : Server → (chosen : List ℕ) → (number : ℕ) → RawMap → (tag : ℕ) → (zoned : Bool) → File
new_file s chosen n m tag zoned = unmade s n m tag zoned (drives_for zoned s.drives m chosen)

-- So is P of a step, where it is in each of these cases.
pub record StepCases (s : Server) (chosen : List ℕ) (i : Input) (P : Step → Type 0) : Type 0 where
  -- nothing happens
  pub rests : P (still s)
  -- a client's request
  pub asked : (now : ℕ) (q : ClientRequest) → IsAsked s i now q → P (on_request s now chosen q)
  -- the first file whose job awaits a reply hears it
  pub answered : (x : Answering) → IsAnswering s i x
      → P (step_at s (answered_file s chosen x).file.kept.number (answered_file s chosen x))
  -- an order: holders are asked for their grants
  pub recalled : (f : File) → IsOrdered s i f → P (recalls s f).step
  -- a job is refused
  pub refused : (f : File) → IsOrdered s i f → (n : NoteKind) → Refuses f n
      → P (step_at s f.kept.number (noting (at_file s chosen f) n))
  -- a job begins with a fence
  pub fenced : (f : File) → IsOrdered s i f → (kind : JobKind) → f.job ≡ None
      → (f.kept.tag == GREATEST_TAG) ≡ false
      → P (step_at s f.kept.number (fence_begins kind s.format (at_file s chosen f)))
  -- a drive that there is is declared
  pub declared : (d : ℕ) → is_some (find (λ (x : Drive). x.number == d) s.drives) ≡ true → P (declare s chosen d)
  -- what came of an order that was sent goes back
  pub told : (t : Step) (now : ℕ) (o : Order) → i ≡ Hears now FromServer (Orders o) → (result : OrderResult) → P t
      → P (with_answer t o.order result)
  -- a file is made
  pub made : (n : ℕ) (m : RawMap) (tag : ℕ) (zoned : Bool) → i ≡ Makes n m tag zoned → refusal s n m zoned ≡ None
      → P (makes_file s (new_file s chosen n m tag zoned))
  pub added : (d : Drive) → i ≡ Adds d → P (still (with_added s d))
  pub zoned : (d zone : ℕ) → i ≡ Zones d zone → P (still (with_zoned s d zone))
  pub formats : (n : ℕ) → i ≡ Formats n → P (still (set_format s n))
  pub resends : i ≡ Resends → P (record (still s) { sends = resend s })
  -- the server crashes, and is opened
  pub crashes : i ≡ Crashes → P (still (crash s))
  pub opened : i ≡ Opens → counters_have_room s ≡ true
      → P (step_round s (opens_each s.format s.drives s.files (begins s)))

-- So is P of the step of a request.
pub record RequestCases (s : Server) (now : ℕ) (chosen : List ℕ) (q : ClientRequest) (P : Step → Type 0) : Type 0 where
  -- it is the last one: its answer goes out again
  pub again : (kept : Answer) → admit (slot_of s.slots q.client) q.sequence ≡ Again kept → P (only_answers s kept)
  -- neither the last nor the next
  pub misordered : (expected : ℕ) → admit (slot_of s.slots q.client) q.sequence ≡ Misordered expected
      → P (only_answers s
      (plain_answer q (tells NFS4ERR_SEQ_MISORDERED expected) (size_in (file_at s.files q.file))))
  -- it is new, and its file isn't there
  pub without : admit (slot_of s.slots q.client) q.sequence ≡ New → file_at s.files q.file ≡ None
      → P (only_answers (keeps s (answer_without q)) (answer_without q))
  -- or is
  pub served : admit (slot_of s.slots q.client) q.sequence ≡ New → (f : File) → file_at s.files q.file ≡ Some f
      → P (carried_out s q (serves (at_file s chosen f) s.next_grant s.format now q.client q.args))
