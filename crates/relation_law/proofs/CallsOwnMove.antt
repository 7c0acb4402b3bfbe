-- A client's own move, as a whole: what the relation says of its call and grant holds behind it.
-- Towards `CallsGoOn` (`specs/Steps.antt`).
use Rattle.std.proofs.Common.{◌≡◌, ◌<◌, ℕ, Bool, true, false, List, [], ◌∷◌, Some, refl, ap, subst, ◌∙◌, if◌then◌else◌}
use Rattle.scenario_text.specs.declared.names.TheConstants.{CLIENTS}
use Rattle.scenario_text.specs.declared.line.Line.{Line}
use Rattle.server_rules.specs.Slots.{slot_of}
use Rattle.client_rules.specs.History.{Input, Calls, Hears, TimesOut, Leaves, Resends, step}
use Rattle.world_history.specs.ServerNames.{Server, File}
use Rattle.world_history.specs.ClientNames.{Client}
use Rattle.world_history.specs.State.{World}
use Rattle.world_history.specs.Handed.{op_in}
use Rattle.world_history.specs.Moves as moves
use Rattle.world_history.specs.Sending.{Move, move}
use Rattle.history_law.specs.Read.{leads}
use Rattle.fence_law.specs.State.{State, Event}
use Rattle.fence_law.specs.Machine.{after_all}
use Rattle.file_simulation.specs.EventLists.{Lines}
use Rattle.file_simulation.specs.Events.{joined, led_by}
use Rattle.file_simulation.specs.ClientEvents as table
use Rattle.file_simulation.specs.ClientEvents.{Going, going_in}
use Rattle.file_simulation.specs.Requests.{kept_for}
use Rattle.file_simulation.specs.Calls.{IsClient}
use Rattle.file_simulation.specs.Relation.{client_of}
use Rattle.relation_law.specs.Steps.{FollowsWhole, whole_behind}
use Rattle.relation_law.specs.Frames.{ByClient}
use Rattle.relation_law.proofs.FramesParties.{client_goes, client_before, client_behind, client_alone, server_rests}
use Rattle.relation_law.proofs.CallsOwn.{OwnFits, own_turn}
use Rattle.relation_law.proofs.KeptNotes.{after_both}

either_joined : (b : Bool) (lines : Lines) → joined (if b then [] ∷ lines else lines) ≡ joined lines
either_joined true lines = refl
either_joined false lines = refl

pub led_joined : (a : moves.Action) (lines : Lines) → joined (led_by a lines) ≡ joined lines
led_joined (moves.Opens e) lines = either_joined (leads e) lines
led_joined (moves.Delivers number) lines = refl
led_joined (moves.TimesOut c k) lines = refl
led_joined (moves.Pends c) lines = refl

-- the events of a turn behind those of its first line
abbrev end_events : State → (file c : ℕ) → Client → Input → List Event
end_events s file c x i =
    joined (table.at_end (after_all s (table.at_first s file c x i)) file c (op_in x i) (step x i))

-- the events of a turn are those of its first line, and then the rest
goes_as : (s : State) (file c : ℕ) (x : Client) (i : Input) → (i ≡ Resends → ⊥) →
    after_all s (joined (table.client_goes s file c x i))
    ≡ after_all (after_all s (table.at_first s file c x i))
    (joined (table.at_end (after_all s (table.at_first s file c x i)) file c (op_in x i) (step x i)))
goes_as s file c x (Calls op) none =
    after_both s (table.at_first s file c x (Calls op)) (end_events s file c x (Calls op))
goes_as s file c x (Hears from b) none =
    after_both s (table.at_first s file c x (Hears from b)) (end_events s file c x (Hears from b))
goes_as s file c x (TimesOut k) none =
    after_both s (table.at_first s file c x (TimesOut k)) (end_events s file c x (TimesOut k))
goes_as s file c x Leaves none =
    after_both s (table.at_first s file c x Leaves) (end_events s file c x Leaves)
goes_as s file c x Resends none = absurd (none refl)

module _ (w : World) (h : List Line) (m : Move) (f g : File) (s : State) (k : FollowsWhole w h m f g s)
    (number : g.kept.number ≡ f.kept.number) (map : g.kept.map ≡ f.kept.map) (n : Going)
    (is : going_in w m.action ≡ Some n) (low : n.client < CLIENTS) (none : n.input ≡ Resends → ⊥) where
  abbrev v : World
  v = (move w m).world

  by : ByClient w m.action n (moves.acts w m.chosen m.action)
  by = client_goes w h k.follows.moment m k.follows.is_due n is

  -- the client before its move
  pub client_there : IsClient f.kept.number f.kept.map s n.client n.state
      (kept_for (slot_of w.server.slots n.client) n.state.outstanding)
  client_there = subst (λ (x : Client). IsClient f.kept.number f.kept.map s n.client x
      (kept_for (slot_of w.server.slots n.client) x.outstanding))
      (client_before w m.action n (moves.acts w m.chosen m.action) by)
      (k.follows.related.clients n.client low).client

  pub behind_is : whole_behind k
      ≡ after_all (after_all s (table.at_first s f.kept.number n.client n.state n.input))
      (joined (table.at_end (after_all s (table.at_first s f.kept.number n.client n.state n.input)) f.kept.number n.client
      (op_in n.state n.input) (step n.state n.input)))
  behind_is = rw is (ap (after_all s) (led_joined m.action (table.client_goes s f.kept.number n.client n.state n.input))
      ∙ goes_as s f.kept.number n.client n.state n.input none)

  -- What the relation says of it holds behind the move.
  pub calls_of_own : OwnFits f.kept.number f.kept.map n.client s n.state (slot_of w.server.slots n.client) client_there n.input →
      IsClient g.kept.number g.kept.map (whole_behind k) n.client (client_of v n.client)
      (kept_for (slot_of v.server.slots n.client) (client_of v n.client).outstanding)
  calls_of_own fits =
      let z =
      own_turn f.kept.number f.kept.map n.client s n.state (slot_of w.server.slots n.client) client_there n.input fits none in
      let slots : slot_of v.server.slots n.client ≡ slot_of w.server.slots n.client =
      ap (λ (y : Server). slot_of y.slots n.client) (server_rests w m (client_alone w m.action n is)) in
      rw (number, map, client_behind w m n by, slots, behind_is) z
