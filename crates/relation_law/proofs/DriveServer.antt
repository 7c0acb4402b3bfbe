-- A drive performs a command of the server on a component that isn't lost: a SET TAG, a repair's WRITE, or a CREATE.
-- Towards `ComponentsGoOn` (`specs/Steps.antt`).
use Rattle.std.proofs.Common.{◌≡◌, ℕ, ◌+◌, ◌-◌, ◌<◌, ◌≤◌, Bool, true, false, cond, List, [], length, slice_get, Option, Some, None, refl, sym, ap, subst, ◌∙◌, inl, inr, arith}
use Rattle.std.specs.Prelude.{get_or}
use Rattle.std.proofs.lemmas.Bool.{cases_Bool}
use Rattle.std.proofs.lemmas.Bool.Decides.{nat_tests}
use Rattle.osd_commands.specs.declared.actions.Action.TheVariants as action
use Rattle.osd_commands.specs.declared.commands.Command.{Command}
use Rattle.osd_objects.specs.declared.lanes.LaneEntry.{LaneEntry}
use Rattle.osd_objects.specs.declared.object.StoredObject.{StoredObject}
use Rattle.osd_objects.specs.Lanes.{lane_of, with_lane}
use Rattle.osd_objects.specs.Objects.{created, after_write, after_set_attr, after_set_tag}
use Rattle.osd_objects.specs.Sparse.{written}
use Rattle.osd_objects.specs.Store.{object_at, lane_or_none}
use Rattle.osd_drive.specs.Effects.{lane_for, next_tag, performed}
use Rattle.scenario_text.specs.declared.names.TheConstants.{CLIENTS}
use Rattle.server_rules.specs.declared.limits.TheConstants.{SERVER_HOLDER}
use Rattle.world_history.specs.ServerNames.{File, Component, Phase, Still, Fencing, Repairing, FencingAgain}
use Rattle.world_history.specs.State.{World, DriveAt, at_number}
use Rattle.history_law.specs.Spent.{IsSpent}
use Rattle.history_law.proofs.Lanes.{lane_beside}
use Rattle.history_law.proofs.Spending.{IsFree, free, not_spent}
use Rattle.fence_law.specs.Words.{In as InRun}
use Rattle.fence_law.specs.State.{State}
use Rattle.fence_law.specs.State.Event.{SetsTag, Repairs}
use Rattle.fence_law.specs.Machine.{Allowed, after}
use Rattle.fence_law.proofs.Words.{updated_same}
use Rattle.file_simulation.specs.Components.{IsMade, IsUnmade, ObjectIs, LaneIs, StandsAs, object_of}
use Rattle.file_simulation.specs.Messages.{AreSent, HasCommanded}
use Rattle.file_simulation.specs.Phases.{PhaseIs}
use Rattle.file_simulation.specs.Jobs.{IsFresh, IsOfPhase, AreOwned, AreWords, AreSourced, OweWords}
use Rattle.file_simulation.specs.DriveEvents.{cells_of}
use Rattle.relation_law.specs.DriveHearing.{IsPerformed, IsOfServer}
use Rattle.relation_law.proofs.DriveObjects.{Leaves, writes, sets_tag, sets_attr, creates, creates_none, written_at, written_outside}
use Rattle.relation_law.proofs.ComponentsKept.{LanesKept}
use Rattle.relation_law.proofs.DriveReads.{spent_read}
use Rattle.relation_law.proofs.DriveWorld.{IsBehind, object_before, object_behind}

-- the server's command x to component k, which stands, is performed
pub record PerformsServer (s : State) (w : World) (f : File) (d k : ℕ) (a : DriveAt) (x : Command) (at : Component) : Type 0
  where
    pub performed : IsPerformed w d a x
    pub of : IsOfServer w d x
    pub there : slice_get f.kept.components k ≡ Some at
    pub drive : at.drive ≡ d
    pub object : x.object ≡ at.object
    pub lost : s.lost k ≡ false
    pub stands : StandsAs s w f k at

-- ---- the lanes of clients

no_client : (e : ℕ) → e < CLIENTS → SERVER_HOLDER ≡ e → ⊥
no_client e below same = omega (arith, below, same)

-- a command of the server leaves the lanes of clients
lanes_stay : (x : Command) → x.capability.holder ≡ SERVER_HOLDER → (o : StoredObject) (detail e : ℕ) → e < CLIENTS →
    lane_of (with_lane o.lanes (lane_for x detail)) e ≡ lane_of o.lanes e
lanes_stay x holder o detail e below =
    lane_beside o.lanes (lane_for x detail) e (λ same. no_client e below (sym holder ∙ same))

module _ (s : State) (w v : World) (f : File) (d k : ℕ) (a b : DriveAt) (x : Command) (at : Component)
    (p : PerformsServer s w f d k a x at) (g : IsBehind w v d a b) (becomes : b.state ≡ performed a.state x) where
  is_free : IsFree a.state x
  is_free = free a.state a.clock x p.performed.clear

  before_at : object_of w at ≡ object_at a.state.store x.object
  before_at = object_before w v d a b g at p.drive ∙ ap (object_at a.state.store) (sym p.object)

  behind_at : object_of v at ≡ object_at (performed a.state x).store x.object
  behind_at =
      object_behind w v d a b g at p.drive ∙ ap (λ q. object_at q.store at.object) becomes
      ∙ ap (object_at (performed a.state x).store) (sym p.object)

  -- where clients' lanes stay, the machine's do
  lane_stays : (t : State) (y o : StoredObject) → object_of w at ≡ Some y →
      ((e : ℕ) → e < CLIENTS → lane_of o.lanes e ≡ lane_of y.lanes e) →
      ((e : ℕ) → t.last_nonce k e ≡ s.last_nonce k e) → (e : ℕ) → e < CLIENTS →
      LaneIs v t k e at.object (lane_of o.lanes e)
  lane_stays t y o before same last e below =
      subst (λ (l : Option LaneEntry). LaneIs v t k e at.object l) (sym (same e below))
      (kept (lane_of y.lanes e)
      (subst (λ (q : Option StoredObject). LaneIs w s k e at.object (lane_or_none q e)) before (p.stands.lane e below)))
    where
      kept : (l : Option LaneEntry) → LaneIs w s k e at.object l → LaneIs v t k e at.object l
      kept None is = λ q z sent write object. let low = is q z (g.sent e q z sent) write object in omega (arith, last e, low)
      kept (Some l) is = last e ∙ is

  -- clients' lanes are those that were there
  lanes_kept : (t : State) (y o : StoredObject) → object_of w at ≡ Some y → object_of v at ≡ Some o →
      ((e : ℕ) → e < CLIENTS → lane_of o.lanes e ≡ lane_of y.lanes e) → LanesKept w v t k at
  lanes_kept t y o before behind same e l below is =
      inl (ap (λ (q : Option StoredObject). lane_or_none q e) before ∙ sym (same e below)
      ∙ sym (ap (λ (q : Option StoredObject). lane_or_none q e) behind) ∙ is)

  -- ---- SET TAG

  module _ (raises : x.action ≡ action.SetTag) where
    tag_leaves : Leaves a.state x (after_set_tag (lane_for x (next_tag (object_at a.state.store x.object))))
    tag_leaves = sets_tag a.state x raises is_free

    tag_made : IsMade s k tag_leaves.before
    tag_made = subst (ObjectIs s f k at) (before_at ∙ tag_leaves.there) p.stands.object

    -- the machine's SET TAG is allowed
    pub sets_allowed : AreSent s w f → Allowed s (SetsTag k)
    sets_allowed sent =
        subst (λ (n : ℕ). InRun n s.set_tags) (sym (tag_made.tag ∙ tag_leaves.tag))
        (subst (λ (n : ℕ). InRun n s.set_tags) (sym p.of.reads.tag)
        (sent.raised d k p.of.command at p.of.sent (sym p.of.reads.action ∙ raises) p.there
        (sym p.of.reads.object ∙ p.object)))

    -- and leaves the component so
    pub sets_stands : StandsAs (after s (SetsTag k)) v f k at
    sets_stands = record {
      object = subst (ObjectIs (after s (SetsTag k)) f k at) (sym (behind_at ∙ tag_leaves.behind)) (record {
        tag = updated_same s.object_tag k (s.object_tag k + 1) ∙ ap (λ (n : ℕ). n + 1) tag_made.tag;
        cells = tag_made.cells;
      });
      lane = λ e below.
          subst (λ (o : Option StoredObject). LaneIs v (after s (SetsTag k)) k e at.object (lane_or_none o e))
          (sym (behind_at ∙ tag_leaves.behind))
          (lane_stays (after s (SetsTag k)) tag_leaves.before
          (after_set_tag (lane_for x (next_tag (object_at a.state.store x.object))) tag_leaves.before)
          (before_at ∙ tag_leaves.there)
          (lanes_stay x p.of.holder tag_leaves.before (next_tag (object_at a.state.store x.object))) (λ q. refl) e below);
      raised = λ e. inl (ap (λ (n : ℕ). pair k n)
          (sym e ∙ updated_same s.object_tag k (s.object_tag k + 1)));
    }
      where
        pair : ℕ → ℕ → ℕ × ℕ
        pair i n = (i, n)

    pub sets_lanes : (t : State) → LanesKept w v t k at
    sets_lanes t =
        lanes_kept t tag_leaves.before
        (after_set_tag (lane_for x (next_tag (object_at a.state.store x.object))) tag_leaves.before)
        (before_at ∙ tag_leaves.there) (behind_at ∙ tag_leaves.behind)
        (lanes_stay x p.of.holder tag_leaves.before (next_tag (object_at a.state.store x.object)))

  -- ---- a repair's WRITE

  module _ (write : x.action ≡ action.Write) where
    row_leaves : Leaves a.state x (after_write x.offset x.payload (lane_for x 0))
    row_leaves = writes a.state x write is_free

    row_made : IsMade s k row_leaves.before
    row_made = subst (ObjectIs s f k at) (before_at ∙ row_leaves.there) p.stands.object

    -- it could still come
    pub fresh : IsFresh s w f k p.of.command
    fresh = record {
      component = at;
      there = p.there;
      sent = subst (λ (n : ℕ). HasCommanded w n p.of.command) (sym p.drive) p.of.sent;
      write = sym p.of.reads.action ∙ write;
      object = sym p.of.reads.object ∙ p.object;
      unspent = λ spent. not_spent a x p.performed.hears is_free
          (subst (λ (o : Option DriveAt). IsSpent o x) p.performed.there
          (subst (λ (n : ℕ). IsSpent (at_number w.drives n) x) p.drive
          (spent_read (at_number w.drives at.drive) p.of.command x p.of.reads spent)));
      stands = p.lost;
    }

    -- so a repair is at work
    at_work : (h : Phase) → PhaseIs s f h → IsOfPhase f k p.of.command h → s.repairing ≡ true
    at_work Still is own = absurd own
    at_work Fencing is own = absurd own
    at_work Repairing is own = is.repairing
    at_work FencingAgain is own = is.repairing

    cell_within : (z : ℕ) → cells_of x z ≡ true → (x.offset ≤ z) × (z < x.offset + length x.payload)
    cell_within z e = (grind (arith, e, nat_tests), grind (arith, e, nat_tests))

    -- it carries what was sent
    carried : (P : ℕ → List ℕ → Type 0) → P p.of.command.offset p.of.command.payload → P x.offset x.payload
    carried P has =
        subst (λ (o : ℕ). P o x.payload) (sym (p.of.reads.offset write))
        (subst (λ (q : List ℕ). P p.of.command.offset q) (sym p.of.reads.payload) has)

    words : (owe : OweWords s w f) → AreWords s owe.bytes k x.offset x.payload
    words owe = carried (AreWords s owe.bytes k) (owe.words k p.of.command fresh)

    sources : (owe : OweWords s w f) → AreSourced s owe.bytes k x.offset x.payload
    sources owe = carried (AreSourced s owe.bytes k) (owe.sources k p.of.command fresh)

    -- the machine's repair is allowed, with the bytes of which the WRITE has the words
    pub repairs_allowed : PhaseIs s f f.kept.phase → AreOwned s w f → (owe : OweWords s w f) →
        Allowed s (Repairs k (cells_of x) owe.bytes)
    repairs_allowed phase owned owe = record {
      at_work = at_work f.kept.phase phase (owned k p.of.command fresh);
      stands = p.lost;
      all = λ z q is col.
          let r = cell_within z is in
          let sum : x.offset + (z - x.offset) ≡ z = omega (arith, r.0) in
          sources owe (z - x.offset) (omega (arith, r.0, r.1)) q
          (col ∙ ap (s.layout.cell_col k) (sym sum));
    }

    pub repairs_lanes : (t : State) → LanesKept w v t k at
    repairs_lanes t =
        lanes_kept t row_leaves.before (after_write x.offset x.payload (lane_for x 0) row_leaves.before)
        (before_at ∙ row_leaves.there) (behind_at ∙ row_leaves.behind)
        (lanes_stay x p.of.holder row_leaves.before 0)

    module _ (owe : OweWords s w f) where
      abbrev t : State
      t = after s (Repairs k (cells_of x) owe.bytes)

      new : (z : ℕ) → t.cell k z ≡ cond (cells_of x z) (s.layout.word k z owe.bytes) (s.cell k z)
      new z = ap (λ (row : ℕ → ℕ). row z) (updated_same s.cell k _)

      cells : (z : ℕ) → t.cell k z ≡ get_or (written row_leaves.before.content x.offset x.payload).bytes z 0
      cells z = elim (cases_Bool (cells_of x z)) [
        | inl is ↦
            let r = cell_within z is in
            let sum : x.offset + (z - x.offset) ≡ z = omega (arith, r.0) in
            new z ∙ ap (λ (q : Bool). cond q (s.layout.word k z owe.bytes) (s.cell k z)) is
            ∙ ap (λ (n : ℕ). s.layout.word k n owe.bytes) (sym sum)
            ∙ sym (words owe (z - x.offset) (omega (arith, r.0, r.1)))
            ∙ sym (written_at row_leaves.before.content x.offset x.payload z r.0 r.1)
        | inr isnt ↦
            new z ∙ ap (λ (q : Bool). cond q (s.layout.word k z owe.bytes) (s.cell k z)) isnt ∙ row_made.cells z
            ∙ sym (written_outside row_leaves.before.content x.offset x.payload z
            (λ low high. grind (arith, isnt, low, high, nat_tests)))
      ]

      -- and leaves the component so
      pub repairs_stands : StandsAs (after s (Repairs k (cells_of x) owe.bytes)) v f k at
      repairs_stands = record {
        object = subst (ObjectIs t f k at) (sym (behind_at ∙ row_leaves.behind)) (record { tag = row_made.tag; cells = cells });
        lane = λ e below.
            subst (λ (o : Option StoredObject). LaneIs v t k e at.object (lane_or_none o e))
            (sym (behind_at ∙ row_leaves.behind))
            (lane_stays t row_leaves.before (after_write x.offset x.payload (lane_for x 0) row_leaves.before)
            (before_at ∙ row_leaves.there) (lanes_stay x p.of.holder row_leaves.before 0) (λ q. refl) e below);
        raised = p.stands.raised;
      }

  -- ---- a SET ATTR

  -- it leaves the tag and the bytes
  pub attr_stands : x.action ≡ action.SetAttr → StandsAs s v f k at
  attr_stands set =
      let l = sets_attr a.state x set is_free in
      let made : IsMade s k l.before = subst (ObjectIs s f k at) (before_at ∙ l.there) p.stands.object in
      record {
        object = subst (ObjectIs s f k at) (sym (behind_at ∙ l.behind)) (record { tag = made.tag; cells = made.cells });
        lane = λ e below.
            subst (λ (o : Option StoredObject). LaneIs v s k e at.object (lane_or_none o e))
            (sym (behind_at ∙ l.behind))
            (lane_stays s l.before (after_set_attr x.attribute x.payload (lane_for x 0) l.before) (before_at ∙ l.there)
            (lanes_stay x p.of.holder l.before 0) (λ q. refl) e below);
        raised = p.stands.raised;
      }

  pub attr_lanes : x.action ≡ action.SetAttr → (t : State) → LanesKept w v t k at
  attr_lanes set t =
      let l = sets_attr a.state x set is_free in
      lanes_kept t l.before (after_set_attr x.attribute x.payload (lane_for x 0) l.before) (before_at ∙ l.there)
      (behind_at ∙ l.behind) (lanes_stay x p.of.holder l.before 0)

  -- ---- a CREATE

  -- the object is made, and has no bytes; the machine has it so already
  pub created_stands : x.action ≡ action.Create → x.capability.tag ≡ f.kept.first_tag → StandsAs s v f k at
  created_stands create first = record {
    object = subst (ObjectIs s f k at) (sym made) (record { tag = un.tag ∙ sym first; cells = un.cells });
    lane = λ e below.
        subst (λ (o : Option StoredObject). LaneIs v s k e at.object (lane_or_none o e)) (sym made)
        (subst (λ (l : Option LaneEntry). LaneIs v s k e at.object l)
        (sym (lane_beside [] (lane_for x 0) e (λ same. no_client e below (sym p.of.holder ∙ same))))
        (λ q z sent write object. lane_none e below q z (g.sent e q z sent) write object));
    raised = p.stands.raised;
  }
    where
      none : object_of w at ≡ None
      none = before_at ∙ creates_none a.state x create is_free

      un : IsUnmade s f k at
      un = subst (ObjectIs s f k at) none p.stands.object

      made : object_of v at ≡ Some (created x.capability.tag x.payload (lane_for x 0))
      made = behind_at ∙ creates a.state x create

      lane_none : (e : ℕ) → e < CLIENTS → LaneIs w s k e at.object None
      lane_none e below =
          subst (λ (o : Option StoredObject). LaneIs w s k e at.object (lane_or_none o e)) none (p.stands.lane e below)

  -- its file isn't ready
  pub created_unready : x.action ≡ action.Create → f.kept.ready ≡ false
  created_unready create =
      let un : IsUnmade s f k at =
      subst (ObjectIs s f k at) (before_at ∙ creates_none a.state x create is_free) p.stands.object in
      un.unready

  pub created_lanes : x.action ≡ action.Create → (t : State) → LanesKept w v t k at
  created_lanes create t e l below is =
      let made : object_of v at ≡ Some (created x.capability.tag x.payload (lane_for x 0)) =
      behind_at ∙ creates a.state x create in
      let none : lane_of (with_lane [] (lane_for x 0)) e ≡ None =
      lane_beside [] (lane_for x 0) e (λ same. no_client e below (sym p.of.holder ∙ same)) in
      absurd (cc (sym none ∙ sym (ap (λ (q : Option StoredObject). lane_or_none q e) made) ∙ is))
