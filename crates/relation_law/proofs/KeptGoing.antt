-- The parts of the relation on what the server keeps, and on how high grants reach, go on behind each whole move.
-- Towards `KeptGoesOn` (`specs/Steps.antt`).
use Rattle.std.proofs.Common.{◌≡◌, List, Some, sym, subst}
use Rattle.data_map.specs.Check.{IsChecked}
use Rattle.server_rules.specs.History.{Input}
use Rattle.scenario_text.specs.declared.line.Line.{Line}
use Rattle.world_history.specs.ServerNames.{Server, File}
use Rattle.world_history.specs.State.{World}
use Rattle.world_history.specs.Sending.{Move, move}
use Rattle.history_law.specs.Doing.{input_in}
use Rattle.fence_law.specs.State.{State}
use Rattle.fence_law.specs.Law.{IsCode}
use Rattle.fence_law.specs.Machine.{new_file_state}
use Rattle.fence_law.proofs.Safe.{Safe, safe_first, safe_all}
use Rattle.plan_law.proofs.Codes.{layouts_are_codes}
use Rattle.file_simulation.specs.Phases.{IsKept, AreBelowHigh}
use Rattle.file_simulation.specs.Relation.{IsRelated}
use Rattle.file_simulation.specs.Showing.{IsRun}
use Rattle.relation_law.specs.Steps.{FollowsWhole, owed, whole_behind, KeptGoesOn, HighGoesOn}
use Rattle.relation_law.specs.KeptSteps.{IsKeptAt}
use Rattle.relation_law.proofs.KeptWhole.{IsServed, each_move}

-- ---- in the words of the relation

pub kept_at : (s : State) (server : Server) (f : File) → IsKept s server f → AreBelowHigh s f → IsKeptAt server.next_grant s f
kept_at s server f k low = record {
  tag = k.tag;
  size = k.size;
  phase = k.phase;
  next_is = k.next;
  unready = k.unready;
  low = low;
}

pub kept_of : (s : State) (server : Server) (f : File) → IsKeptAt server.next_grant s f → IsKept s server f
kept_of s server f k = record { tag = k.tag; size = k.size; phase = k.phase; next = k.next_is; unready = k.unready }

-- a state that a lawful run reaches, with the layout of a map that can be used, is safe
pub safe_of : (s : State) → IsRun s → IsCode s.layout → Safe s
safe_of s r code =
    subst Safe (sym r.state) (safe_all (new_file_state s.layout) r.events r.lawful (safe_first s.layout code))

-- ---- what the other parts give

-- The file's map can be used; and where the server goes on, the world and the machine's clients are as that needs.
pub record KeptNeeds (s : State) (w : World) (m : Move) (f : File) : Type 0 where
  pub checked : IsChecked f.kept.map
  pub served : (i : Input) → input_in w m.action ≡ Some i → IsServed s w f i

-- so it is at each whole move that is followed
abbrev pub KeptIsGiven : Type 0
KeptIsGiven =
    (w : World) (h : List Line) (m : Move) (f g : File) (s : State) → FollowsWhole w h m f g s → KeptNeeds s w m f

pub kept_behind : KeptIsGiven → (w : World) (h : List Line) (m : Move) (f g : File) (s : State)
    → (k : FollowsWhole w h m f g s) → IsKeptAt (move w m).world.server.next_grant (whole_behind k) g
kept_behind given w h m f g s k =
    let n = given w h m f g s k in
    let r : IsRelated s w f = k.follows.related in
    let code : IsCode s.layout = subst IsCode (sym r.layout) (layouts_are_codes f.kept.map f.kept.first_tag n.checked) in
    each_move s w (owed r) f g m (safe_of s k.follows.run code) (kept_at s w.server f r.kept r.low) k.follows.there n.served
    k.follows.goes k.lawful

pub kept_goes_on : KeptIsGiven → KeptGoesOn
kept_goes_on given w h m f g s k = kept_of (whole_behind k) (move w m).world.server g (kept_behind given w h m f g s k)

pub high_goes_on : KeptIsGiven → HighGoesOn
high_goes_on given w h m f g s k = (kept_behind given w h m f g s k).low
