-- A drive performs a client's WRITE on a component that isn't lost: the machine's WRITE may be performed, and the component
-- is behind it as the machine has it.
-- Towards `ComponentsGoOn` (`specs/Steps.antt`).
use Rattle.std.proofs.Common.{◌≡◌, ℕ, ◌+◌, ◌-◌, ◌<◌, ◌≤◌, ◌==◌, Bool, true, false, length, slice_get, Option, Some, None, refl, sym, ap, subst, ◌∙◌, inl, inr, arith, eq-eqb}
use Rattle.std.specs.Prelude.{get_or, slice_index}
use Rattle.std.proofs.lemmas.Bool.{cases_lt, cases_eq, eqb-true}
use Rattle.osd_commands.specs.declared.actions.Action.TheVariants as action
use Rattle.osd_commands.specs.declared.commands.Command.{Command}
use Rattle.osd_objects.specs.declared.lanes.LaneEntry.{LaneEntry}
use Rattle.osd_objects.specs.declared.object.StoredObject.{StoredObject}
use Rattle.osd_objects.specs.Lanes.{lane_of, with_lane}
use Rattle.osd_objects.specs.Objects.{after_write}
use Rattle.osd_objects.specs.Sparse.{written}
use Rattle.osd_objects.specs.Store.{object_at, lane_or_none}
use Rattle.osd_drive.proofs.LaneLaws.{lane_kept}
use Rattle.osd_drive.specs.Table.{is_mutating}
use Rattle.osd_drive.specs.Effects.{lane_for, performed}
use Rattle.scenario_text.specs.declared.names.TheConstants.{CLIENTS}
use Rattle.world_history.specs.ServerNames.{File, Component}
use Rattle.world_history.specs.State.{World, DriveAt}
use Rattle.history_law.proofs.Lanes.{lane_beside}
use Rattle.history_law.proofs.Spending.{IsFree, free}
use Rattle.fence_law.specs.Words.{updated, over}
use Rattle.fence_law.specs.State.{State, Write, WriteReply}
use Rattle.fence_law.specs.State.Event.{Performs}
use Rattle.fence_law.specs.Machine.{Allowed, after}
use Rattle.fence_law.proofs.Words.{updated_other, updated_at}
use Rattle.fence_law.proofs.Formed.{not_gone}
use Rattle.fence_law.proofs.Safe.{Safe}
use Rattle.file_simulation.specs.Components.{IsMade, ObjectIs, LaneIs, StandsAs, object_of}
use Rattle.file_simulation.specs.Messages.{WasSent}
use Rattle.relation_law.specs.DriveHearing.{IsPerformed, IsOfClient}
use Rattle.relation_law.proofs.DriveObjects.{Leaves, writes, lane_below, written_at, written_outside}
use Rattle.relation_law.proofs.DriveWorld.{IsBehind, object_before, object_behind}
use Rattle.relation_law.proofs.ComponentsKept.{LanesKept}

-- client c's WRITE x to component k, which stands, is performed; the machine sent it as this
pub record PerformsWrite (s : State) (w : World) (f : File) (d c k : ℕ) (a : DriveAt) (x : Command) (at : Component) : Type 0
  where
    pub performed : IsPerformed w d a x
    pub of : IsOfClient w d c x
    pub write : x.action ≡ action.Write
    pub there : slice_get f.kept.components k ≡ Some at
    pub drive : at.drive ≡ d
    pub object : x.object ≡ at.object
    pub lost : s.lost k ≡ false
    pub stands : StandsAs s w f k at
    pub sent : WasSent s c k x
    pub inside : k < s.layout.components

whole : (holder nonce at : ℕ) → WriteReply
whole h n k = record { holder = h; nonce = n; at = k }

module _ (s : State) (w v : World) (f : File) (d c k : ℕ) (a b : DriveAt) (x : Command) (at : Component)
    (p : PerformsWrite s w f d c k a x at) (g : IsBehind w v d a b) (becomes : b.state ≡ performed a.state x) where
  abbrev m : Write
  m = p.sent.write

  abbrev t : State
  t = after s (Performs p.sent.write)

  is_free : IsFree a.state x
  is_free = free a.state a.clock x p.performed.clear

  leaves : Leaves a.state x (after_write x.offset x.payload (lane_for x 0))
  leaves = writes a.state x p.write is_free

  -- ---- the object

  before : object_of w at ≡ Some leaves.before
  before =
      object_before w v d a b g at p.drive ∙ ap (object_at a.state.store) (sym p.object) ∙ leaves.there

  behind : object_of v at ≡ Some (after_write x.offset x.payload (lane_for x 0) leaves.before)
  behind =
      object_behind w v d a b g at p.drive ∙ ap (λ q. object_at q.store at.object) becomes
      ∙ ap (object_at (performed a.state x).store) (sym p.object) ∙ leaves.behind

  made : IsMade s k leaves.before
  made = subst (ObjectIs s f k at) before p.stands.object

  -- ---- the guard

  mutates : is_mutating x.action ≡ true
  mutates = ap is_mutating p.write

  lane_low : (l : LaneEntry) → lane_or_none (Some leaves.before) c ≡ Some l → l.nonce < x.nonce
  lane_low l e =
      lane_below a.state x mutates is_free leaves.before leaves.there l
      (ap (lane_or_none (Some leaves.before)) p.of.holder ∙ e)

  new_by : (o : Option LaneEntry) → lane_or_none (Some leaves.before) c ≡ o → LaneIs w s k c at.object o →
      s.last_nonce k c < x.nonce
  new_by None e is =
      let low = is d p.of.command p.of.sent (sym p.of.reads.action ∙ p.write) (sym p.of.reads.object ∙ p.object) in
      omega (arith, low, p.of.reads.nonce)
  new_by (Some l) e is = let low = lane_low l e in omega (arith, low, is)

  new : s.last_nonce k c < x.nonce
  new =
      new_by (lane_or_none (Some leaves.before) c) refl
      (subst (λ (o : Option StoredObject). LaneIs w s k c at.object (lane_or_none o c)) before
      (p.stands.lane c p.of.below))

  pub performs_allowed : Safe s → Allowed s (Performs p.sent.write)
  performs_allowed safe = record {
    comes = p.sent.sent;
    there = subst (λ (n : ℕ). n < s.layout.components) (sym p.sent.at_) p.inside;
    stands = ap s.lost p.sent.at_ ∙ p.lost;
    here = not_gone s p.sent.write.at safe.gone_lost (ap s.lost p.sent.at_ ∙ p.lost);
    right =
        p.sent.tag ∙ sym leaves.tag ∙ sym made.tag ∙ ap s.object_tag (sym p.sent.at_);
    new = subst (λ (n : ℕ). s.last_nonce n p.sent.write.holder < p.sent.write.nonce) (sym p.sent.at_)
        (subst (λ (n : ℕ). s.last_nonce k n < p.sent.write.nonce) (sym p.sent.holder)
        (subst (λ (n : ℕ). s.last_nonce k c < n) (sym p.sent.nonce) new));
  }

  -- ---- the cells

  abbrev content : ℕ → Option ℕ
  content z = (s.start p.sent.write.entry).content k z

  abbrev part : ℕ → ℕ
  part z = (s.start p.sent.write.entry).part k z

  cell_is : (z : ℕ) → t.cell k z ≡ over (part z == p.sent.write.part) (content z) (s.cell k z)
  cell_is z =
      ap (λ (row : ℕ → ℕ). row z) (updated_at s.cell p.sent.write.at _ k (sym p.sent.at_))
      ∙ ap (λ (n : ℕ). over ((s.start p.sent.write.entry).part n z == p.sent.write.part)
      ((s.start p.sent.write.entry).content n z) (s.cell n z)) p.sent.at_

  -- inside the command it is the command's byte
  cell_inside : (z : ℕ) → x.offset ≤ z → z < x.offset + length x.payload →
      t.cell k z ≡ slice_index x.payload (z - x.offset)
  cell_inside z low high =
      let i : ℕ = z - x.offset in
      let within : z - x.offset < length x.payload = omega (arith, low, high) in
      let sum : x.offset + (z - x.offset) ≡ z = omega (arith, low) in
      let its : content z ≡ Some (slice_index x.payload (z - x.offset)) =
      ap content (sym sum) ∙ p.sent.carries.content (z - x.offset) within in
      let own : part z ≡ p.sent.write.part = ap part (sym sum) ∙ p.sent.carries.part (z - x.offset) within in
      cell_is z ∙ ap (λ (q : Bool). over q (content z) (s.cell k z)) (eq-eqb (part z) p.sent.write.part own)
      ∙ ap (λ (o : Option ℕ). over true o (s.cell k z)) its

  -- outside it is as it was
  untouched : (z : ℕ) → (x.offset ≤ z → z < x.offset + length x.payload → ⊥) → (q : Bool) → (part z == p.sent.write.part) ≡ q →
      (o : Option ℕ) → content z ≡ o → over q o (s.cell k z) ≡ s.cell k z
  untouched z out false e o is = over_false o (s.cell k z)
    where
      over_false : (o : Option ℕ) (n : ℕ) → over false o n ≡ n
      over_false None n = refl
      over_false (Some u) n = refl
  untouched z out true e None is = refl
  untouched z out true e (Some u) is =
      let r = p.sent.carries.just z u is (eqb-true (part z) p.sent.write.part e) in
      absurd (out r.0 r.1)

  cell_outside : (z : ℕ) → (x.offset ≤ z → z < x.offset + length x.payload → ⊥) → t.cell k z ≡ s.cell k z
  cell_outside z out = cell_is z ∙ untouched z out (part z == p.sent.write.part) refl (content z) refl

  cells : (z : ℕ) → t.cell k z ≡ get_or (written leaves.before.content x.offset x.payload).bytes z 0
  cells z = elim (cases_lt z x.offset) [
    | inl low ↦ beside (λ from. absurd (omega (arith, from, low)))
    | inr from ↦ elim (cases_lt z (x.offset + length x.payload)) [
      | inl within ↦ cell_inside z from within ∙ sym (written_at leaves.before.content x.offset x.payload z from within)
      | inr past ↦ beside (λ low high. absurd (omega (arith, high, past)))
    ]
  ]
    where
      beside : (x.offset ≤ z → z < x.offset + length x.payload → ⊥) →
          t.cell k z ≡ get_or (written leaves.before.content x.offset x.payload).bytes z 0
      beside out =
          cell_outside z out ∙ made.cells z ∙ sym (written_outside leaves.before.content x.offset x.payload z out)

  -- ---- the lanes

  lane_behind : (e : ℕ) → e < CLIENTS → LaneIs v t k e at.object
      (lane_of (with_lane leaves.before.lanes (lane_for x 0)) e)
  lane_behind e below = elim (cases_eq e c) [
    | inl own ↦
        subst (λ (o : Option LaneEntry). LaneIs v t k e at.object o)
        (sym (ap (lane_of (with_lane leaves.before.lanes (lane_for x 0))) (own ∙ sym p.of.holder)
        ∙ lane_kept leaves.before.lanes (lane_for x 0)))
        (last_own e own)
    | inr other ↦
        subst (λ (o : Option LaneEntry). LaneIs v t k e at.object o)
        (sym (lane_beside leaves.before.lanes (lane_for x 0) e (λ same. other (sym same ∙ p.of.holder))))
        (lane_other e other (lane_of leaves.before.lanes e)
        (subst (λ (o : Option StoredObject). LaneIs w s k e at.object (lane_or_none o e)) before (p.stands.lane e below)))
  ]
    where
      row : t.last_nonce k ≡ updated (s.last_nonce k) p.sent.write.holder p.sent.write.nonce
      row = updated_at s.last_nonce p.sent.write.at _ k (sym p.sent.at_)
          ∙ ap (λ (n : ℕ). updated (s.last_nonce n) p.sent.write.holder p.sent.write.nonce) p.sent.at_

      last_own : (e : ℕ) → e ≡ c → t.last_nonce k e ≡ x.nonce
      last_own e own =
          ap (λ (q : ℕ → ℕ). q e) row
          ∙ updated_at (s.last_nonce k) p.sent.write.holder p.sent.write.nonce e (own ∙ sym p.sent.holder) ∙ p.sent.nonce

      last_other : (e : ℕ) → (e ≡ c → ⊥) → t.last_nonce k e ≡ s.last_nonce k e
      last_other e other =
          ap (λ (q : ℕ → ℕ). q e) row
          ∙ updated_other (s.last_nonce k) p.sent.write.holder p.sent.write.nonce e (λ same. other (same ∙ p.sent.holder))

      lane_other : (e : ℕ) → (e ≡ c → ⊥) → (o : Option LaneEntry) → LaneIs w s k e at.object o → LaneIs v t k e at.object o
      lane_other e other None is =
          λ q y sent write object. let low = is q y (g.sent e q y sent) write object in omega (arith, last_other e other, low)
      lane_other e other (Some l) is = last_other e other ∙ is

  -- ---- the component behind

  pub performs_stands : StandsAs (after s (Performs p.sent.write)) v f k at
  performs_stands = record {
    object = subst (ObjectIs t f k at) (sym behind) (record { tag = made.tag; cells = cells });
    lane = λ e below. subst (λ (o : Option StoredObject). LaneIs v t k e at.object (lane_or_none o e)) (sym behind)
        (lane_behind e below);
    raised = p.stands.raised;
  }

  -- the machine has the reply to what stands in the client's lane, and other lanes were there
  pub performs_lanes : LanesKept w v (after s (Performs p.sent.write)) k at
  unfolding whole
  performs_lanes e l below is = elim (cases_eq e c) [
    | inl own ↦
        let lane : lane_for x 0 ≡ l =
        some (sym (ap (lane_of (with_lane leaves.before.lanes (lane_for x 0))) (own ∙ sym p.of.holder)
        ∙ lane_kept leaves.before.lanes (lane_for x 0))
        ∙ sym (ap (λ (o : Option StoredObject). lane_or_none o e) behind) ∙ is) in
        inr (inl (same_reply e l.nonce (own ∙ sym p.sent.holder)
        (ap (λ (y : LaneEntry). y.nonce) (sym lane) ∙ sym p.sent.nonce) (sym p.sent.at_)))
    | inr other ↦
        inl (ap (λ (o : Option StoredObject). lane_or_none o e) before
        ∙ sym (lane_beside leaves.before.lanes (lane_for x 0) e (λ same. other (sym same ∙ p.of.holder)))
        ∙ sym (ap (λ (o : Option StoredObject). lane_or_none o e) behind) ∙ is)
  ]
    where
      some : {y z : LaneEntry} → Some y ≡ Some z → y ≡ z
      some e = cc e

      same_reply : (h n : ℕ) → h ≡ p.sent.write.holder → n ≡ p.sent.write.nonce → k ≡ p.sent.write.at →
          whole h n k ≡ whole p.sent.write.holder p.sent.write.nonce p.sent.write.at
      same_reply h n a b d =
          ap (λ (y : ℕ). whole y n k) a ∙ ap (λ (y : ℕ). whole p.sent.write.holder y k) b
          ∙ ap (whole p.sent.write.holder p.sent.write.nonce) d
