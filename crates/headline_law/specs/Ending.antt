-- What a step of the server makes of a file's grants, whatever drives the placer names in it; and how a cut of it is read.
use Rattle.std.specs.Prelude.{◌≡◌, ◌+◌, ◌≤◌, ◌++◌, ℕ, Bool, true, false, List, [], take, map, Some}
use Rattle.scenario_text.specs.declared.line.Line.{Line}
use Rattle.server_rules.specs.Files.{file_at}
use Rattle.osd_lists.specs.declared.node.Node.TheVariants as node
use Rattle.server_rules.specs.History.{Input, step, Hears, Obeys, Opens}
use Rattle.server_rules.specs.Messages.{Asks}
use Rattle.component_law.specs.Naming.{AreNamed, IsNamedInput}
use Rattle.server_rules.specs.Laws.{In}
use Rattle.server_rules.specs.Numbers.{among}
use Rattle.world_history.specs.ServerNames as kinds
use Rattle.layout_ops.specs.Spelling.{AnswerFits}
use Rattle.world_history.specs.ServerNames.{File, Grant, Note, NoteKind, Server, ClientRequest, OrderKind, JobKind, Still, Revoking, Rebuilding, Auditing, ToRevoke, ToRebuild, ToAudit, Answer, Answers}
use Rattle.world_history.specs.State.{World, at_number}
use Rattle.world_history.specs.Names.{known_note_line, note_line}
use Rattle.world_history.specs.Sending.{Move}
use Rattle.world_history.specs.Reading.{Step}
use Rattle.world_history.specs.Book.{server_step}
use Rattle.world_history.specs.Calm.{Seen, seen, sees, moment_of, marks_at, failed_after, takes_loss, is_told_taken}
use Rattle.history_law.specs.BookMoments.{IsMoment, lines_in}
use Rattle.history_law.specs.Doing.{input_in}
use Rattle.fence_law.specs.State.{State}
use Rattle.file_simulation.specs.Components.{has_failed}
use Rattle.file_simulation.specs.Cuts.{lines_before}
use Rattle.file_simulation.specs.ServerEvents.{begins_fence, is_served}
use Rattle.relation_law.specs.Steps.{Follows}
use Rattle.headline_law.specs.Watching.{AllLeave}

-- a note behind which the machine may be torn and short: a fence is over, or a component lacks space
abbrev pub is_dangerous : NoteKind → Bool
is_dangerous (kinds.Fenced tag) = true
is_dangerous (kinds.NoSpace k) = true
is_dangerous kind = false

-- no note on the file is such
abbrev pub AreHarmless : (file : ℕ) → List Note → Type 0
AreHarmless n ns = (x : Note) → In x ns → x.file ≡ n → is_dangerous x.kind ≡ true → ⊥

-- these grants are new
abbrev pub AreFresh : (next : ℕ) → List Grant → Type 0
AreFresh next gs = (g : Grant) → In g gs → next ≤ g.number

-- an order that begins a job with a fence
abbrev pub IsJobOrder : OrderKind → JobKind → Type 0
IsJobOrder ToRevoke job = job ≡ Revoking
IsJobOrder ToRebuild job = job ≡ Rebuilding
IsJobOrder ToAudit job = job ≡ Auditing
IsJobOrder kind job = ⊥

-- what comes to the server may begin a fence of the file: a request on it, an order, or the opening of the server
pub data MayBegin (s : Server) (f : File) (i : Input) : Type 0 where
  ByRequest : (now c : ℕ) (q : ClientRequest) → i ≡ Hears now (node.Client c) (Asks q) → is_served s c q ≡ true →
      q.file ≡ f.kept.number → MayBegin s f i
  ByOrder : (kind : OrderKind) (job : JobKind) (n : ℕ) → i ≡ Obeys kind n → IsJobOrder kind job → n ≡ f.kept.number →
      MayBegin s f i
  ByOpening : i ≡ Opens → MayBegin s f i

-- With drives `placed` a step of the server leaves the file with its map. Where it had no live grant, or a fence begins, which
-- the drives don't decide, only new grants are live behind it; and where a report is taken as a loss, no fence is over, and
-- no component lacks space.
pub record EndsGrants (s : Server) (chosen placed : List ℕ) (i : Input) (f g : File) : Type 0 where
  pub file : File
  pub there : file_at (step s placed i).state.files f.kept.number ≡ Some file
  pub map_stays : file.kept.map ≡ f.kept.map
  pub none : f.kept.grants ≡ [] → AreFresh s.next_grant file.kept.grants
  pub begun : f.kept.phase ≡ Still → MayBegin s f i → begins_fence f g ≡ true → AreFresh s.next_grant file.kept.grants
  pub loss : takes_loss (Some (step s placed i)) ≡ true → AreHarmless f.kept.number (step s chosen i).notes

-- so it is in each move that is followed
abbrev pub StepsEndGrants : Type 0
StepsEndGrants =
    (w : World) (h : List Line) (m : Move) (count : ℕ) (f g : File) (s : State) → Follows w h m count f g s → (i : Input) →
    input_in w m.action ≡ Some i → IsNamedInput i → (placed : List ℕ) → EndsGrants w.server m.chosen placed i f g

-- A cut behind the first q lines of the server's step: its step as it is read, behind what was seen before.
pub record IsStepSeen (w : World) (h : List Line) (m : Move) (count q : ℕ) (i : Input) : Type 0 where
  pub before : Seen
  pub step_is : Step
  pub placed : List ℕ
  pub more : List Line
  pub named : IsNamedInput i
  pub seen_is : seen (h ++ take count (lines_in w m)) ≡ sees before step_is
  pub did : server_step before.server step_is ≡ Some (step w.server placed i)
  pub rest : step_is.rest ≡ take q (map note_line (step w.server m.chosen i).notes ++ more)
  pub leave : AllLeave more
  pub server : before.server.server ≡ w.server
  pub log : before.moment.log ≡ (moment_of h).log
  pub failed : failed_after before.moment.failed step_is.head ≡ (moment_of h).failed
  pub marks : before.moment.marks ≡ (moment_of h).marks
  pub no_marks : marks_at before step_is.head ≡ []
  -- where the lines say that a report was taken, the step takes one
  pub told : is_told_taken step_is.rest ≡ true → takes_loss (Some (step w.server m.chosen i)) ≡ true

abbrev pub CutsAreSeen : Type 0
CutsAreSeen =
    (w : World) (h : List Line) (m : Move) (count : ℕ) (f g : File) (s : State) → Follows w h m count f g s → (i : Input) →
    input_in w m.action ≡ Some i → (q : ℕ) → count ≡ lines_before m.action + q →
    IsStepSeen w h m count q i

-- The drives that failed are those that are read off the lines.
abbrev pub FailedAreRead : Type 0
FailedAreRead =
    (w : World) (h : List Line) (m : Move) (count : ℕ) (f g : File) (s : State) → Follows w h m count f g s → (d : ℕ) →
    has_failed (at_number w.drives d) ≡ true → among d (moment_of h).failed ≡ true

-- ---- of the world

-- At each moment of a history that lines can name, they can tell each note of a step of the server, if they can name what
-- comes to it.
abbrev pub NotesAreKnown : Type 0
NotesAreKnown =
    (w : World) (h : List Line) → IsMoment w h → AreNamed h → (chosen : List ℕ) (i : Input) → IsNamedInput i → (n : Note) →
    In n (step w.server chosen i).notes → known_note_line n ≡ Some (note_line n)

-- The answers that the server sends in a move that is followed fit their bytes.
abbrev pub FollowedAnswersFit : Type 0
FollowedAnswersFit =
    (w : World) (h : List Line) (m : Move) (count : ℕ) (f g : File) (s : State) → Follows w h m count f g s → (i : Input) →
    input_in w m.action ≡ Some i → (a : Answer) → In (Answers a) (step w.server m.chosen i).sends → AnswerFits a

-- Where some of the lines of a move say that a report was taken, the step of the server takes one as a loss.
abbrev pub ToldAreTaken : Type 0
ToldAreTaken =
    (w : World) (h : List Line) (m : Move) (count : ℕ) (f g : File) (s : State) → Follows w h m count f g s → (i : Input) →
    input_in w m.action ≡ Some i → (front rest : List Line) (q : ℕ) → lines_in w m ≡ front ++ rest →
    is_told_taken (take q rest) ≡ true → takes_loss (Some (step w.server m.chosen i)) ≡ true

-- Where a step of the server takes a report as a loss, with some drives of the placer, it tells with any of no fence that is
-- over and of no component that lacks space.
abbrev pub LossesAreHarmless : Type 0
LossesAreHarmless =
    (s : Server) (chosen placed : List ℕ) (i : Input) (file : ℕ) → takes_loss (Some (step s placed i)) ≡ true →
    AreHarmless file (step s chosen i).notes
