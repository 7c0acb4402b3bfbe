-- How a ready call leaves the parties, where no component of its file is lost: its client is idle again and holds what the server
-- has of it, and so does each other client that did before.
use Rattle.std.specs.Prelude.{◌≡◌, ◌≢◌, ◌⊎◌, ◌+◌, ◌≤◌, ℕ, true, false, ◌&&◌, not, if◌then◌else◌, max, List, [], ◌∷◌, ◌++◌, slice_get, Option, Some, None, option_map}
use Rattle.server_rules.specs.Files.{file_at}
use Rattle.server_rules.specs.Grants.{grant_of}
use Rattle.server_rules.specs.Laws.{In}
use Rattle.scenario_text.specs.declared.event.Call.{Call}
use Rattle.scenario_text.specs.declared.event.Event.TheVariants as event
use Rattle.scenario_text.specs.declared.line.Line.{Line}
use Rattle.scenario_text.specs.declared.line.Line.TheVariants as line
use Rattle.client_rules.specs.Calls.{file_of, span_of, is_write}
use Rattle.client_rules.specs.Steps.{writes_nothing}
use Rattle.world_history.specs.ClientNames.{CallOp, Held}
use Rattle.world_history.specs.ServerNames.{File, Kept, Component, Grant}
use Rattle.world_history.specs.State.{DriveAt, ClientAt}
use Rattle.world_history.specs.Moves.{op_of}
use Rattle.world_history.specs.History.{Lawful}
use Rattle.history_law.specs.Read.{AreWritten}
use Rattle.exchange_law.specs.Text.{AreOfText, AreFew}
use Rattle.ready_law.specs.Answered.{scene_in}
use Rattle.ready_law.specs.Clear.{HasRoomTo}
use Rattle.ready_law.specs.Events.{IsOver}
use Rattle.ready_law.specs.Ready.{Scene, IsIdle, IsReady, held_by, lost_of, write_end}

-- ---- clients

-- client c holds the grant that the server has of it on file n, or neither has one
abbrev pub HoldsTheSame : (n : ℕ) → Kept → (c : ℕ) → ClientAt → Type 0
HoldsTheSame n f c a =
    option_map (λ (h : Held). h.number) (held_by a n) ≡ option_map (λ (g : Grant). g.number) (grant_of f.grants c)

-- client c is idle, and holds the same
pub record RestsAt (n : ℕ) (f : Kept) (c : ℕ) (a : ClientAt) : Type 0 where
  pub idle : IsIdle a
  pub same : HoldsTheSame n f c a

-- ---- files and drives

-- the file's size behind a call: a write of some bytes may raise it
abbrev pub size_after : Kept → CallOp → ℕ
size_after f op =
    if is_write op && not (writes_nothing op) then max f.size ((span_of op).offset + (span_of op).length) else f.size

-- a drive is as it was, but for its objects and lanes
abbrev pub IsAsBefore : Option DriveAt → Option DriveAt → Type 0
IsAsBefore None b = b ≡ None
IsAsBefore (Some a) b =
    (x : DriveAt) × (b ≡ Some x) × (x.failed ≡ a.failed) × (x.down ≡ a.down) × (x.clock ≡ a.clock)
    × (x.state.least ≡ a.state.least)

-- ---- what a call leaves

-- A call of client c on file f led from one scene to the next.
pub record LeavesRest (s t : Scene) (c : ℕ) (op : CallOp) (f : File) : Type 0 where
  pub clock : t.clock ≡ s.clock
  pub up : t.down ≡ false
  -- the file is as it was, but for its grants, its size and its greatest stripe
  pub file : File
  pub found : file_at t.server.files (file_of op) ≡ Some file
  pub file_is : file ≡ record f {
    kept = record f.kept { grants = file.kept.grants; size = size_after f.kept op; high = file.kept.high };
  }
  -- no grant is new on it but one of the call's client
  pub live : (g : Grant) → In g file.kept.grants → (g.client ≡ c) ⊎ In g f.kept.grants
  -- the client of the call rests, and each other one that rested
  pub caller : ClientAt
  pub there : t.client c ≡ Some caller
  pub rests : RestsAt (file_of op) file.kept c caller
  pub others : (d : ℕ) (a : ClientAt) → d ≢ c → s.client d ≡ Some a → RestsAt (file_of op) f.kept d a
      → (b : ClientAt) × (t.client d ≡ Some b) × RestsAt (file_of op) file.kept d b
  -- the drives are as they were, but for objects and lanes
  pub drives : (d : ℕ) → IsAsBefore (s.drive d) (t.drive d)
  -- where a component's object had room to become so long that the call's WRITEs end inside it, it still has
  pub room : (k : ℕ) (at : Component) (a b : DriveAt) (top : ℕ) → slice_get f.kept.components k ≡ Some at
      → s.drive at.drive ≡ Some a → t.drive at.drive ≡ Some b
      → (is_write op ≡ true → write_end f.kept op k ≤ top)
      → HasRoomTo top a.state.store at.object → HasRoomTo top b.state.store at.object

-- each ready call of a history whose event is over, and whose file has no lost component, leaves the parties so
abbrev pub EachReadyLeavesRest : List Line → Type 0
EachReadyLeavesRest h =
    (before body : List Line) (c : ℕ) (x : Call) → IsOver h before (event.Do c x) body
    → (r : IsReady (scene_in before) c (op_of x)) → lost_of (scene_in before) r.file.kept ≡ []
    → LeavesRest (scene_in before) (scene_in (before ++ line.Event (event.Do c x) ∷ body)) c (op_of x) r.file

-- so it is of each history of a scenario's text with few messages
abbrev pub ReadyCallsLeaveRest : Type 0
ReadyCallsLeaveRest = (h : List Line) → Lawful h → AreWritten h → AreOfText h → AreFew h → EachReadyLeavesRest h
