-- Where a drive performs a command that a client's call awaits, or did so before, it goes to the component of its ask, which
-- isn't missing: from what became of each grant that clients hold.
-- Towards `AwaitedWritesAreFound` (`headline_law/specs/ClientTold.antt`) and `EachAwaitIsThere`
-- (`headline_law/specs/Reads.antt`).
use Rattle.std.proofs.Common.{◌≡◌, ◌||◌, ◌+◌, ◌++◌, ℕ, Bool, true, false, List, [], ◌∷◌, Option, Some, slice_get, refl, sym, ap, subst, ◌∙◌, inl, inr, arith}
use Rattle.std.proofs.lemmas.Bool.{leb-true}
use Rattle.osd_commands.specs.declared.commands.Command.{Command}
use Rattle.osd_objects.specs.declared.object.StoredObject.{StoredObject}
use Rattle.osd_objects.specs.Store.{object_at}
use Rattle.osd_drive.specs.declared.verdict.Verdict.TheVariants as verdict
use Rattle.osd_drive.specs.State.{DriveState, view_of}
use Rattle.osd_drive.specs.declared.store_view.StoreView.{StoreView}
use Rattle.osd_drive.specs.Table.{Row, early_rows, first_fault, finds_object, has_other_tag, is_create, is_repeated, is_stale, lacks_attribute, lacks_lane, lacks_object, lacks_space, nonce_of, passes_limit, tag_of}
use Rattle.osd_drive.proofs.Clear.{all_told}
use Rattle.scenario_text.specs.declared.line.Line.{Line}
use Rattle.server_rules.specs.Files.{file_at}
use Rattle.client_rules.specs.Commands.{credential_of}
use Rattle.client_rules.specs.Grants.{held_of}
use Rattle.client_rules.specs.Requests.{id_in, object_of}
use Rattle.world_history.specs.ClientNames.{Awaited, Credential, Held, Listed}
use Rattle.world_history.specs.ServerNames.{Component, File}
use Rattle.world_history.specs.Guesses.{unguessed}
use Rattle.world_history.specs.State.{World, DriveAt, at_number}
use Rattle.world_history.specs.Drives.{is_deaf}
use Rattle.world_history.specs.Stripes.{component_at}
use Rattle.history_law.specs.Moments.{IsMoment}
use Rattle.history_law.proofs.Raising.{there_with}
use Rattle.history_law.specs.Reaching.{has_reached, has_tag}
use Rattle.history_law.specs.Unforged.{UnguessedAreUnforged}
use Rattle.cause_law.proofs.Objects.{placed_there}
use Rattle.exchange_law.specs.Sent.{HasSent, IsBacked, message_of}
use Rattle.exchange_law.proofs.Commands.{MaySend}
use Rattle.exchange_law.proofs.Knowing.{lawful_at}
use Rattle.file_simulation.specs.Claim.{IsOfScenario}
use Rattle.file_simulation.specs.Relation.{client_of}
use Rattle.relation_law.specs.ReadsDrive.{IsAwaitedBy}
use Rattle.relation_law.proofs.ComponentsMoved.{MovedLaws}
use Rattle.relation_law.proofs.ComponentsWorld.{awaited_by}
use Rattle.relation_law.proofs.DriveFinding.{IsAt, is_found, found}
use Rattle.relation_law.proofs.DriveShows.{listed}
use Rattle.headline_law.specs.ClientTold.{AwaitedWritesAreFound, IsDone}
use Rattle.headline_law.specs.FoundHeld.{Became, EachAwaitIsOwn, EachHeldBecame, IsListedWith, IsOver, Lasts, Ended}
use Rattle.headline_law.proofs.ClientDone.{skipped}
use Rattle.headline_law.proofs.ReadsWell.{made_under}
use Rattle.headline_law.proofs.SentUntouched.{is_backed}
use Rattle.headline_law.proofs.SentHeld.{IsHeldFor, component_is, held_for}

-- ---- an object

-- an object is there, with the capability's tag
pub record HasItsTag (d : DriveState) (x : Command) : Type 0 where
  pub object : StoredObject
  pub there : object_at d.store x.object ≡ Some object
  pub tag : object.tag ≡ x.capability.tag

-- the first rows on an object, and the others
abbrev front_rows : StoreView → Command → List Row
front_rows s c =
    (lacks_object s c, verdict.NoObject) ∷ (finds_object s c, verdict.Exists)
    ∷ (has_other_tag s c, verdict.Tag (tag_of s.object)) ∷ []

abbrev back_rows : StoreView → Command → List Row
back_rows s c =
    (passes_limit s c, verdict.Limit) ∷ (lacks_space s c, verdict.NoSpace s.free) ∷ (lacks_lane s c, verdict.LaneFull)
    ∷ (is_stale s c, verdict.Stale (nonce_of s.lane)) ∷ (lacks_attribute s c, verdict.AttrFull)
    ∷ (is_repeated s c, verdict.Again) ∷ []

-- so it is where a command that makes no object is performed, or was
pub done_tagged : (d : DriveState) (now : ℕ) (x : Command) → is_create x.action ≡ false → IsDone (first_fault d now x) →
    HasItsTag d x
unfolding first_fault
done_tagged d now x old (inl clear) =
    let late = ((all_told d now x).0 clear).1.1.1.1.1.1.1 in
    let r = there_with x (object_at d.store x.object) old late.0 late.1.1.0 in
    record { object = r.0; there = r.1; tag = r.2 }
done_tagged d now x old (inr again) =
    let late =
    (skipped (early_rows d now x ++ front_rows (view_of d.store x) x) (back_rows (view_of d.store x) x) refl
    again).1.1.1.1.1.1.1 in
    let r = there_with x (object_at d.store x.object) old late.0 late.1.1.0 in
    record { object = r.0; there = r.1; tag = r.2 }

-- an object with just this tag hasn't reached the next one, where its drive hasn't failed
not_over : (a : DriveAt) (o : StoredObject) (object tag : ℕ) → a.failed ≡ false → object_at a.state.store object ≡ Some o →
    o.tag ≡ tag → has_reached object (tag + 1) (Some a) ≡ true → ⊥
not_over a o object tag works there same reached =
    let has : has_tag (tag + 1) (Some o) ≡ true =
    ap (has_tag (tag + 1)) (sym there)
    ∙ sym (ap (λ (b : Bool). b || has_tag (tag + 1) (object_at a.state.store object)) works) ∙ reached in
    absurd (omega (arith, leb-true (tag + 1) o.tag has, same))

hears_on : (failed down : Bool) → (failed || down) ≡ false → failed ≡ false
hears_on true down e = absurd (cc e)
hears_on false down e = refl

-- ---- what is known of histories

pub record FoundLaws : Type 0 where
  pub moved : MovedLaws
  pub became : EachHeldBecame
  pub own : EachAwaitIsOwn
  pub unforged : UnguessedAreUnforged

-- ---- a command that is awaited

-- drive a.drive, which hears, performs command x, which client c's call awaits, or did so before
pub record IsHeard (w : World) (a : Awaited) (x : Command) : Type 0 where
  pub drive : DriveAt
  pub there : at_number w.drives a.drive ≡ Some drive
  pub hears : is_deaf drive ≡ false
  pub done : IsDone (first_fault drive.state drive.clock x)

module _ (laws : FoundLaws) (w : World) (h : List Line) (k : IsMoment w h) (t : IsOfScenario h) (clean : unguessed h ≡ true)
    (f : File) (there : file_at w.server.files f.kept.number ≡ Some f) (c : ℕ) (a : Awaited) (by : IsAwaitedBy w f c a)
    (z : IsHeard w a a.command) where
  sent : HasSent w c a.drive a.command
  sent = awaited_by laws.moved.known w h k t.few c by.call (at_number w.clients c) refl by.is a by.awaits

  backed : IsBacked a.command
  backed = is_backed laws.moved w h k t c a.drive a.command sent

  -- a READ or a WRITE makes no object
  old : is_create a.command.action ≡ false
  old =
      let fit = laws.moved.answers h (lawful_at w h k) t.text t.few in
      let may : MaySend a.drive a.command = placed_there w h k fit (message_of c a.drive a.command) sent in
      elim may.placed.action [ inl is ↦ ap is_create is | inr is ↦ ap is_create is ]

  works : z.drive.failed ≡ false
  works = hears_on z.drive.failed z.drive.down z.hears

  abbrev its : IsHeldFor w c by.call a
  its = held_for laws.moved.held laws.moved.fresh w h k t c by.call by.is a by.awaits

  abbrev held : Held
  held = its.held

  holds : held_of (client_of w c).held f.kept.number ≡ Some held
  holds = ap (held_of (client_of w c).held) (sym by.here) ∙ its.holds

  tagged : HasItsTag z.drive.state a.command
  tagged = done_tagged z.drive.state z.drive.clock a.command old z.done

  -- the credential of its ask goes to its drive
  drive_is : (credential_of held a.ask.component).drive ≡ a.drive
  drive_is =
      let m = made_under laws.moved w h k t c by.call by.is a by.awaits in
      ap (λ (q : Awaited). (credential_of held q.ask.component).drive) m.is ∙ sym (ap (λ (q : Awaited). q.drive) m.is)

  module _ (l : Listed) (cr : Credential) (lists : IsListedWith held a.ask.component l cr)
      (is : credential_of held a.ask.component ≡ cr) where
    to : cr.drive ≡ a.drive
    to = ap (λ (y : Credential). y.drive) (sym is) ∙ drive_is

    object : l.id.oid_object_id ≡ a.command.object
    unfolding object_of
    object = ap (λ (o : Option Listed). (id_in o).oid_object_id) (sym lists.found) ∙ sym its.of.object

    tag : cr.capability.tag ≡ a.command.capability.tag
    tag = ap (λ (y : Credential). y.capability.tag) (sym is) ∙ ap (λ y. y.tag) (sym its.of.capability)

    not_yet : IsOver w l cr → ⊥
    not_yet over =
        not_over z.drive tagged.object a.command.object a.command.capability.tag works tagged.there tagged.tag
        (subst (λ (n : ℕ). has_reached a.command.object (n + 1) (Some z.drive) ≡ true) tag
        (subst (λ (n : ℕ). has_reached n (cr.capability.tag + 1) (Some z.drive) ≡ true) object
        (ap (has_reached l.id.oid_object_id (cr.capability.tag + 1)) (sym (ap (at_number w.drives) to ∙ z.there)) ∙ over)))

    stands_at : (component : Component) → slice_get f.kept.components a.ask.component ≡ Some component →
        component.missing ≡ false → component.drive ≡ cr.drive → component.object ≡ l.id.oid_object_id →
        IsAt f.kept.components a.drive a.command.object a.ask.component
    stands_at component found present drive is_object = record {
      component = component;
      there = found;
      present = present;
      drive = drive ∙ to;
      object_is = is_object ∙ object;
    }

    stands : Became w c f held → IsAt f.kept.components a.drive a.command.object a.ask.component
    stands (Lasts open_ each) = elim (each a.ask.component l cr lists) [
      | inl s ↦ stands_at s.component s.there s.present s.drive s.object
      | inr over ↦ absurd (not_yet over)
    ]
    stands (Ended each) = absurd (not_yet (each a.ask.component l cr lists))

  its_component : IsAt f.kept.components a.drive a.command.object a.ask.component
  its_component =
      let l = listed held a.ask.component (λ none. backed (its.of.capability ∙ none)) in
      let unforged = laws.unforged h (lawful_at w h k) clean in
      let b = laws.became w h k t unforged c f.kept.number held holds in
      let same : b.file ≡ f = cc (sym b.there ∙ there) in
      stands l.0 l.1 (record { found = l.2; has = l.3 }) l.4 (subst (λ (y : File). Became w c y held) same b.became)

  -- so it is found there
  pub found_there : component_at a.drive a.command.object f.kept.components 0 ≡ Some a.ask.component
  found_there =
      let r = is_found a.drive a.command.object f.kept.components 0 a.ask.component its_component in
      let q : IsAt f.kept.components a.drive a.command.object r.0 = found a.drive a.command.object f.kept.components r.0 r.1 in
      let one : a.ask.component ≡ r.0 =
      component_is laws.moved.held laws.moved.fresh w h k t c by.call by.is a by.awaits backed f
      (subst (λ (n : ℕ). file_at w.server.files n ≡ Some f) (sym by.here) there) r.0 q.component q.there q.object_is in
      r.1 ∙ ap (λ (n : ℕ). Some n) (sym one)

-- ---- WRITEs that drives say are done

pub awaited_writes_are_found : FoundLaws → AwaitedWritesAreFound
awaited_writes_are_found laws w h k t clean f there c a x by write nonce z =
    let same : a.command ≡ x =
    (laws.own w h k t z.message c a.drive x z.sent z.from z.to z.reads).same by.call by.is a by.awaits nonce in
    ap (λ (y : Command). component_at a.drive y.object f.kept.components 0) (sym same)
    ∙ found_there laws w h k t clean f there c a by (record {
      drive = z.drive;
      there = z.there;
      hears = z.hears;
      done = subst (λ (y : Command). IsDone (first_fault z.drive.state z.drive.clock y)) (sym same) z.done;
    })
