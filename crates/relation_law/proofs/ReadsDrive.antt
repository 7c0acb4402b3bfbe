-- A drive replies that it performed a READ that a client's call awaits: what it read is shown to the call's entry.
-- Towards `ReadsGoOn` (`specs/Steps.antt`).
use Rattle.std.proofs.Common.{nat_eq, ◌≡◌, ℕ, ◌==◌, Bool, true, false, List, [], ◌∷◌, take, drop, Option, Some, None, Ok, refl, sym, ap, subst, ◌∙◌, inl, inr, eq-eqb, eqb-true}
use Rattle.std.proofs.lemmas.Bool.{cases_Bool, and_parts, true≢false}
use Rattle.osd_lists.specs.declared.node.Node.TheVariants as node
use Rattle.osd_commands.specs.declared.actions.Action.{Action}
use Rattle.osd_commands.specs.declared.actions.Action.TheVariants as action
use Rattle.osd_commands.specs.declared.commands.Command.{Command}
use Rattle.osd_objects.specs.Store.{object_at, bytes_or_none, lane_or_none}
use Rattle.osd_objects.specs.declared.object.StoredObject.{StoredObject}
use Rattle.osd_objects.specs.declared.lanes.LaneEntry.{LaneEntry}
use Rattle.osd_drive.specs.declared.verdict.Verdict.{Verdict}
use Rattle.osd_drive.specs.declared.verdict.Verdict.TheVariants as verdict
use Rattle.osd_drive.specs.Table.{first_fault, is_mutating, of_lane}
use Rattle.osd_drive.specs.State.{DriveState}
use Rattle.osd_drive.specs.Effects.{reply_by, result_of, kept_reply}
use Rattle.history_law.proofs.HistoryTelling.{again_row}
use Rattle.history_law.proofs.Spending.{free}
use Rattle.server_rules.specs.Laws.{In}
use Rattle.client_rules.specs.Calls.{file_of}
use Rattle.client_rules.specs.Io.{awaited_in, got_of}
use Rattle.world_history.specs.ClientNames.{Awaited}
use Rattle.world_history.specs.ServerNames.{File}
use Rattle.world_history.specs.State.{World, DriveAt, at_number}
use Rattle.world_history.specs.Stripes.{component_at}
use Rattle.world_history.specs.Drives.{judges}
use Rattle.fence_law.specs.State.{State}
use Rattle.fence_law.specs.State.Call.{Reads as AtRead}
use Rattle.fence_law.specs.State.Event.{Shows}
use Rattle.fence_law.specs.Machine.{after_all}
use Rattle.file_simulation.specs.Components.{IsMade, ObjectIs, IsComponent, object_on, object_of}
use Rattle.file_simulation.specs.EventLists.{entry_of, entry_in}
use Rattle.file_simulation.specs.DriveEvents.{awaits, is_running, judged}
use Rattle.file_simulation.specs.Messages.{WasShown}
use Rattle.file_simulation.specs.Relation.{client_of}
use Rattle.relation_law.specs.DriveHearing.{AwaitsOwn}
use Rattle.relation_law.specs.ReadsDrive.{IsAwaitedBy, IsReadOf, StandsThere}
use Rattle.relation_law.proofs.DriveObjects.{Leaves, reads}
use Rattle.relation_law.proofs.ReadsStay.{shown_now}

-- ---- verdicts

-- a reply says that a command was performed where it was now, or was before

pub replied_as : (v : Verdict) (d : DriveState) (x : Command) → (v ≡ verdict.Again → ⊥) → (reply_by v d x).verdict ≡ 0 →
    v ≡ verdict.Perform
replied_as verdict.Perform d x n e = refl
replied_as verdict.Again d x n e = absurd (n refl)
replied_as verdict.NoKey d x n e = absurd (cc e)
replied_as verdict.CheckValue d x n e = absurd (cc e)
replied_as verdict.Expired d x n e = absurd (cc e)
replied_as verdict.Rights d x n e = absurd (cc e)
replied_as verdict.WrongObject d x n e = absurd (cc e)
replied_as verdict.Range d x n e = absurd (cc e)
replied_as verdict.NoObject d x n e = absurd (cc e)
replied_as verdict.Exists d x n e = absurd (cc e)
replied_as (verdict.Tag t) d x n e = absurd (cc e)
replied_as verdict.Limit d x n e = absurd (cc e)
replied_as (verdict.NoSpace t) d x n e = absurd (cc e)
replied_as verdict.LaneFull d x n e = absurd (cc e)
replied_as (verdict.Stale t) d x n e = absurd (cc e)
replied_as verdict.AttrFull d x n e = absurd (cc e)
replied_as verdict.OldFormat d x n e = absurd (cc e)

-- a READ is never one that was performed before
pub read_again : (d : DriveState) (now : ℕ) (x : Command) → x.action ≡ action.Read → first_fault d now x ≡ verdict.Again → ⊥
read_again d now x is e =
    let both = and_parts (is_mutating x.action) _ (again_row d now x e) in
    true≢false (sym both.0 ∙ ap is_mutating is)

-- ---- nonces

result_nonce : (b : Action) (d : DriveState) (x : Command) → (result_of b d.store x).nonce ≡ x.nonce
result_nonce action.Create d x = refl
result_nonce action.Read d x = refl
result_nonce action.Write d x = refl
result_nonce action.GetAttr d x = refl
result_nonce action.SetAttr d x = refl
result_nonce action.SetTag d x = refl

is_again : Verdict → Bool
is_again verdict.Again = true
is_again v = false

again_is : (v : Verdict) → is_again v ≡ true → v ≡ verdict.Again
unfolding is_again
again_is verdict.Again e = refl
again_is v e = absurd (cc e)

other_nonce : (v : Verdict) (d : DriveState) (x : Command) → is_again v ≡ false → (reply_by v d x).nonce ≡ x.nonce
unfolding is_again
other_nonce verdict.Perform d x e = result_nonce x.action d x
other_nonce verdict.Again d x e = absurd (cc e)
other_nonce verdict.NoKey d x e = refl
other_nonce verdict.CheckValue d x e = refl
other_nonce verdict.Expired d x e = refl
other_nonce verdict.Rights d x e = refl
other_nonce verdict.WrongObject d x e = refl
other_nonce verdict.Range d x e = refl
other_nonce verdict.NoObject d x e = refl
other_nonce verdict.Exists d x e = refl
other_nonce (verdict.Tag t) d x e = refl
other_nonce verdict.Limit d x e = refl
other_nonce (verdict.NoSpace t) d x e = refl
other_nonce verdict.LaneFull d x e = refl
other_nonce (verdict.Stale t) d x e = refl
other_nonce verdict.AttrFull d x e = refl
other_nonce verdict.OldFormat d x e = refl

lane_nonce : (x : Command) (o : Option LaneEntry) → of_lane (λ l. nat_eq l.nonce x.nonce) o ≡ true →
    (kept_reply x o).nonce ≡ x.nonce
lane_nonce x None e = absurd (cc e)
lane_nonce x (Some l) e = eqb-true l.nonce x.nonce e

-- a drive's reply has the command's nonce
pub reply_nonce : (d : DriveState) (now : ℕ) (x : Command) → (reply_by (first_fault d now x) d x).nonce ≡ x.nonce
reply_nonce d now x = elim (cases_Bool (is_again (first_fault d now x))) [
  | inr other ↦ other_nonce (first_fault d now x) d x other
  | inl same ↦
      let again : first_fault d now x ≡ verdict.Again = again_is (first_fault d now x) same in
      let both = and_parts (is_mutating x.action) _ (again_row d now x again) in
      ap (λ (v : Verdict). (reply_by v d x).nonce) again
      ∙ lane_nonce x (lane_or_none (object_at d.store x.object) x.capability.holder) both.1
]

-- ---- the call

-- the call awaits the command's nonce
pub awaits_nonce : (xs : List Awaited) (a : Awaited) (n : ℕ) → In a xs → a.command.nonce ≡ n → awaits n xs ≡ true
awaits_nonce [] a n i e = absurd i
awaits_nonce (y ∷ xs) a n (inl same) e = rw (eq-eqb y.command.nonce n (ap (λ (b : Awaited). b.command.nonce) (sym same) ∙ e)) refl
awaits_nonce (y ∷ xs) a n (inr i) e = elim (cases_Bool (y.command.nonce == n)) [
  | inl t ↦ rw t refl
  | inr f ↦ rw f (awaits_nonce xs a n i e)
]

-- ---- a READ

module _ (s : State) (w : World) (e : ℕ → ℕ) (f : File) (c j d : ℕ) (at : DriveAt) (a : Awaited) (runs : s.call c ≡ AtRead j)
    (by : IsAwaitedBy w f c a) (read : IsReadOf a) (own : AwaitsOwn w c a.command) (t : StandsThere s f a)
    (there : at_number w.drives d ≡ Some at) (same : a.drive ≡ d)
    (is : IsComponent s w f a.ask.component t.component)
    (clear : first_fault at.state at.clock a.command ≡ verdict.Perform) where
  running : is_running f.kept.number a.command.nonce (client_of w c).call ≡ true
  running =
      ap (is_running f.kept.number a.command.nonce) by.is
      ∙ rw (
        eq-eqb (file_of by.call.op) f.kept.number by.here,
        awaits_nonce (awaited_in by.call.phase) a a.command.nonce by.awaits refl,
      ) refl

  -- the drive's event is that it shows the component
  events_are : judged s w e f d at (node.Client c) (Ok a.command) ≡ Shows j a.ask.component ∷ []
  events_are =
      let found : component_at d a.command.object f.kept.components 0 ≡ Some a.ask.component =
      ap (λ (n : ℕ). component_at n a.command.object f.kept.components 0) (sym same) ∙ t.found in
      let entry : entry_of s c ≡ j = ap entry_in runs in
      rw (clear, found, t.stands, read.action_is, running, entry) refl

  made : (o : StoredObject) → object_at at.state.store a.command.object ≡ Some o → IsMade s a.ask.component o
  made o has =
      let where_ : object_of w t.component ≡ Some o =
      ap (λ (n : ℕ). object_on (at_number w.drives n) t.component.object) (t.drive ∙ same)
      ∙ ap (λ q. object_on q t.component.object) there
      ∙ ap (object_at at.state.store) t.object ∙ has in
      subst (ObjectIs s f a.ask.component t.component) where_ (is.stands t.stands).object

  pub read_shown : WasShown (after_all s (judged s w e f d at (node.Client c) (Ok a.command))) j a.ask.component
      (got_of a (judges at (Ok a.command)).reply)
  unfolding judges
  read_shown =
      let l : Leaves at.state a.command (λ y. y) =
      reads at.state a.command read.action_is (free at.state at.clock a.command clear) in
      let payload : (reply_by (first_fault at.state at.clock a.command) at.state a.command).payload
      ≡ take a.ask.length (drop a.ask.offset l.before.content.bytes) =
      ap (λ (v : Verdict). (reply_by v at.state a.command).payload) clear
      ∙ ap (λ (b : Action). (result_of b at.state.store a.command).payload) read.action_is
      ∙ ap (λ o. take a.command.length (drop a.command.offset (bytes_or_none o))) l.there
      ∙ ap (λ (n : ℕ). take n (drop a.command.offset l.before.content.bytes)) read.length
      ∙ ap (λ (n : ℕ). take a.ask.length (drop n l.before.content.bytes)) read.offset in
      rw events_are (shown_now s j a.ask.component a (judges at (Ok a.command)).reply l.before t.inside t.position
      (made l.before l.there) (record { component = refl; payload = payload }))
