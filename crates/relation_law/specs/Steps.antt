-- A move of a calm history and a file that was there before it: what each part of the relation is behind the move.
use Rattle.std.specs.Prelude.{◌≡◌, ℕ, ◌<◌, ◌≤◌, ◌^◌, ◌++◌, List, length, take, Some}
use Rattle.scenario_text.specs.declared.line.Line.{Line}
use Rattle.scenario_text.specs.declared.names.TheConstants.{CLIENTS}
use Rattle.server_rules.specs.Files.{file_at}
use Rattle.server_rules.specs.Laws.{In}
use Rattle.server_rules.specs.Slots.{slot_of}
use Rattle.client_rules.specs.declared.limits.TheConstants.{NONCES}
use Rattle.client_rules.specs.Calls.{file_of}
use Rattle.client_rules.specs.Grants.{held_of}
use Rattle.client_rules.specs.History.{step}
use Rattle.client_rules.specs.Io.{awaited_in}
use Rattle.world_history.specs.ClientNames.{Awaited, Call, Client, Held}
use Rattle.world_history.specs.ServerNames.{File}
use Rattle.world_history.specs.State.{World}
use Rattle.world_history.specs.Sending.{Move, move}
use Rattle.world_history.specs.Plans.{due}
use Rattle.history_law.specs.BookMoments.{IsMoment, plan_at, lines_in}
use Rattle.exchange_law.specs.Text.{AreOfText}
use Rattle.fence_law.specs.State.{State}
use Rattle.fence_law.specs.State.Call.{Reads as AtRead}
use Rattle.fence_law.specs.Machine.{Lawful as IsLawfulRun, after_all}
use Rattle.file_simulation.specs.Claim.{IsCalmHistory}
use Rattle.file_simulation.specs.ClientEvents.{Going, going_in}
use Rattle.file_simulation.specs.Components.{AreComponents}
use Rattle.file_simulation.specs.Phases.{IsKept, AreBelowHigh}
use Rattle.file_simulation.specs.Requests.{RequestsAgree, kept_for}
use Rattle.file_simulation.specs.Calls.{IsClient}
use Rattle.file_simulation.specs.Messages.{AreSent, ShownIn}
use Rattle.file_simulation.specs.Jobs.{AreJobs}
use Rattle.file_simulation.specs.Relation.{IsRelated, client_of}
use Rattle.file_simulation.specs.Events.{joined, events_of}
use Rattle.file_simulation.specs.Showing.{IsRun}

-- A call that awaits a command has sent fewer commands under its grant than a grant has numbers for.
abbrev pub HasNonces : Client → Type 0
HasNonces x =
    (call : Call) → x.call ≡ Some call → (a : Awaited) → In a (awaited_in call.phase) → (h : Held) →
    held_of x.held (file_of call.op) ≡ Some h → h.count < NONCES

-- There is room for the numbers that a move uses: of objects, and of the commands of a client that goes on.
pub record HasRoom (w : World) (m : Move) : Type 0 where
  pub objects : (move w m).world.server.next_object ≤ 2 ^ 63
  pub commands : (j : Going) → going_in w m.action ≡ Some j → HasNonces (step j.state j.input).client

-- Move m is due at a moment, all its lines are of a scenario's text, there is room for its numbers, and the history is calm up
-- to line `count` of the move. File f is there before it and is g behind it. Machine s, which a lawful and calm run has reached,
-- stands for f before the move.
pub record Follows (w : World) (h : List Line) (m : Move) (count : ℕ) (f g : File) (s : State) : Type 0 where
  pub moment : IsMoment w h
  pub is_due : due (plan_at moment) w ≡ Some m.action
  pub text : AreOfText (h ++ lines_in w m)
  pub room : HasRoom w m
  pub calm : IsCalmHistory (h ++ take count (lines_in w m))
  pub there : file_at w.server.files f.kept.number ≡ Some f
  pub goes : file_at (move w m).world.server.files f.kept.number ≡ Some g
  pub run : IsRun s
  pub related : IsRelated s w f

-- the bytes of which a repair's WRITE has the words
abbrev pub owed : {s : State} → {w : World} → {f : File} → IsRelated s w f → ℕ → ℕ
owed k = k.jobs.owe.bytes

-- the machine behind the first `count` lines of the move
abbrev pub behind : {s : State} → {w : World} → {f : File} → IsRelated s w f → Move → (count : ℕ) → State
behind {s} {w} {f} k m count = after_all s (joined (take count (events_of s w (owed k) f m)))

-- The events of these lines can happen.
abbrev pub EventsAreLawful : Type 0
EventsAreLawful =
    (w : World) (h : List Line) (m : Move) (count : ℕ) (f g : File) (s : State) → (k : Follows w h m count f g s) →
    IsLawfulRun s (joined (take count (events_of s w (owed k.related) f m)))

-- A whole move is followed: the history is calm behind it, and all its events can happen.
pub record FollowsWhole (w : World) (h : List Line) (m : Move) (f g : File) (s : State) : Type 0 where
  pub follows : Follows w h m (length (lines_in w m)) f g s
  pub lawful : IsLawfulRun s (joined (events_of s w (owed follows.related) f m))

-- the machine behind it
abbrev pub whole_behind : {w : World} → {h : List Line} → {m : Move} → {f g : File} → {s : State} →
    FollowsWhole w h m f g s → State
whole_behind {w} {h} {m} {f} {g} {s} k = after_all s (joined (events_of s w (owed k.follows.related) f m))

-- So P holds of the machine, the world and the file behind each whole move.
abbrev pub GoesOn : (State → World → File → Type 0) → Type 0
GoesOn P =
    (w : World) (h : List Line) (m : Move) (f g : File) (s : State) → (k : FollowsWhole w h m f g s) →
    P (whole_behind k) (move w m).world g

-- ---- part by part

-- the components
abbrev pub ComponentsGoOn : Type 0
ComponentsGoOn = GoesOn AreComponents

-- what the server keeps
abbrev pub KeptGoesOn : Type 0
KeptGoesOn = GoesOn (λ s w g. IsKept s w.server g)

-- how high grants reach
abbrev pub HighGoesOn : Type 0
HighGoesOn = GoesOn (λ s w g. AreBelowHigh s g)

-- the requests of clients
abbrev pub AreRequests : State → World → File → Type 0
AreRequests s w f = (c : ℕ) → c < CLIENTS → RequestsAgree f.kept.number f.kept.map s w.server c (client_of w c)

abbrev pub RequestsGoOn : Type 0
RequestsGoOn = GoesOn AreRequests

-- the calls of clients, and the grants that they hold
abbrev pub AreCalls : State → World → File → Type 0
AreCalls s w f =
    (c : ℕ) → c < CLIENTS → IsClient f.kept.number f.kept.map s c (client_of w c)
    (kept_for (slot_of w.server.slots c) (client_of w c).outstanding)

abbrev pub CallsGoOn : Type 0
CallsGoOn = GoesOn AreCalls

-- what their reads were shown
abbrev pub AreReads : State → World → File → Type 0
AreReads s w f =
    (c : ℕ) → c < CLIENTS → (call : Call) (j : ℕ) → (client_of w c).call ≡ Some call → file_of call.op ≡ f.kept.number →
    s.call c ≡ AtRead j → ShownIn s w c j call.phase

abbrev pub ReadsGoOn : Type 0
ReadsGoOn = GoesOn AreReads

-- what was sent
abbrev pub SentGoesOn : Type 0
SentGoesOn = GoesOn AreSent

-- the jobs
abbrev pub JobsGoOn : Type 0
JobsGoOn = GoesOn AreJobs

-- all of them
abbrev pub RelationGoesOn : Type 0
RelationGoesOn = GoesOn IsRelated
