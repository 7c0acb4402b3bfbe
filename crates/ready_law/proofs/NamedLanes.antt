-- Each lane that an object of a drive has keeps the number of an action.
use Rattle.std.proofs.Common.{◌≡◌, ◌≤◌, ℕ, List, [], Option, Some, None, Result, Ok, Err, refl, sym, subst, inl, inr, arith}
use Rattle.osd_commands.specs.declared.actions.Action.{Action}
use Rattle.osd_commands.specs.declared.actions.Action.TheVariants.{Create, Read, Write, GetAttr, SetAttr, SetTag}
use Rattle.osd_commands.specs.declared.commands.Command.{Command}
use Rattle.osd_commands.specs.declared.commands.CommandErr.{CommandErr}
use Rattle.osd_commands.specs.Actions.{number_of}
use Rattle.osd_commands.specs.Commands.{reading}
use Rattle.osd_objects.specs.declared.lanes.LaneEntry.{LaneEntry}
use Rattle.osd_objects.specs.declared.object.StoredObject.{StoredObject}
use Rattle.osd_objects.specs.Lanes.{place_of, lane_at, with_lane}
use Rattle.osd_objects.specs.Objects.{created, after_write, after_set_tag, after_set_attr}
use Rattle.osd_objects.specs.Store.{StoreState, object_at, lane_or_none, changed_if_there}
use Rattle.osd_drive.specs.declared.verdict.Verdict.{Verdict}
use Rattle.osd_drive.specs.declared.verdict.Verdict.TheVariants as verdict
use Rattle.osd_drive.specs.State.{DriveState}
use Rattle.osd_drive.specs.Table.{first_fault}
use Rattle.osd_drive.specs.Effects.{lane_for, next_tag, effect_of, state_by}
use Rattle.server_rules.specs.Laws.{In}
use Rattle.world_history.specs.State.{World, DriveAt}
use Rattle.world_history.specs.Drives.{judges, command_in, made_drive}
use Rattle.history_law.specs.Moments.{IsReached}
use Rattle.history_law.specs.Moves.{Turns, Raised, Timed, Falls, Crashed, Reopened}
use Rattle.history_law.proofs.Reached.{always_by}
use Rattle.exchange_law.proofs.LaneLists.{in_with}
use Rattle.exchange_law.proofs.LaneRows.{in_lanes}
use Rattle.cause_law.proofs.EachAt.{EachAt, put_each, come_each}

-- the greatest number of an action
abbrev pub last_action : ℕ
last_action = 6

-- the number of an action
abbrev pub IsNamed : LaneEntry → Type 0
IsNamed l = l.action ≤ last_action

-- so have all lanes of an object, and of all objects
abbrev pub AreNamed : StoredObject → Type 0
AreNamed x = (l : LaneEntry) → In l x.lanes → IsNamed l

abbrev pub StoreNamed : StoreState → Type 0
StoreNamed s = EachAt AreNamed s.objects

-- ---- what a command leaves

number_low : (a : Action) → number_of a ≤ last_action
number_low Create = omega arith
number_low Read = omega arith
number_low Write = omega arith
number_low GetAttr = omega arith
number_low SetAttr = omega arith
number_low SetTag = omega arith

lane_named : (c : Command) (detail : ℕ) (l : LaneEntry) → l ≡ lane_for c detail → IsNamed l
lane_named c detail l is = subst IsNamed (sym is) (number_low c.action)

more_named : (c : Command) (detail : ℕ) (ls : List LaneEntry) → ((l : LaneEntry) → In l ls → IsNamed l)
    → (l : LaneEntry) → In l (with_lane ls (lane_for c detail)) → IsNamed l
more_named c detail ls k l i = elim (in_with ls (lane_for c detail) l i) [
  | inl new ↦ lane_named c detail l new
  | inr old ↦ k l old
]

changed_named : (s : StoreState) (c : Command) (f : StoredObject → StoredObject) (o : Option StoredObject)
    → object_at s c.object ≡ o → ((x : StoredObject) → AreNamed x → AreNamed (f x)) → StoreNamed s
    → StoreNamed (changed_if_there s c.object f o)
changed_named s c f None there own k = k
changed_named s c f (Some x) there own k =
    put_each AreNamed s.objects c.object x (f x) there (own x (k c.object x there)) k

effect_named : (a : Action) (s : StoreState) (c : Command) → StoreNamed s → StoreNamed (effect_of a s c)
effect_named Create s c k =
    come_each AreNamed s.objects c.object (created c.capability.tag c.payload (lane_for c 0))
    (λ l i. elim i [ inl is ↦ lane_named c 0 l is | inr none ↦ absurd none ]) k
effect_named Read s c k = k
effect_named GetAttr s c k = k
effect_named Write s c k =
    changed_named s c (after_write c.offset c.payload (lane_for c 0)) (object_at s c.object) refl
    (λ x own. more_named c 0 x.lanes own) k
effect_named SetAttr s c k =
    changed_named s c (after_set_attr c.attribute c.payload (lane_for c 0)) (object_at s c.object) refl
    (λ x own. more_named c 0 x.lanes own) k
effect_named SetTag s c k =
    changed_named s c (after_set_tag (lane_for c (next_tag (object_at s c.object)))) (object_at s c.object) refl
    (λ x own. more_named c (next_tag (object_at s c.object)) x.lanes own) k

-- ---- drives

abbrev DriveNamed : DriveAt → Type 0
DriveNamed a = StoreNamed a.state.store

verdict_named : (v : Verdict) (d : DriveState) (c : Command) → StoreNamed d.store → StoreNamed (state_by v d c).store
verdict_named verdict.Perform d c k = effect_named c.action d.store c k
verdict_named v d c k = k

judged_named : (a : DriveAt) (r : Result Command CommandErr) → DriveNamed a → DriveNamed (judges a r).drive
unfolding judges
judged_named a (Ok c) k = verdict_named (first_fault a.state a.clock c) a.state c k
judged_named a (Err e) k = k

none_named : StoreNamed (record { capacity = 0; objects = [] })
none_named n x e = absurd (cc e)

turned_named : (a b : DriveAt) → Turns a b → DriveNamed a → DriveNamed b
turned_named a b (Raised format is) k = subst DriveNamed (sym is) k
turned_named a b (Timed time is) k = subst DriveNamed (sym is) k
turned_named a b (Falls is) k = subst DriveNamed (sym is) none_named
turned_named a b (Crashed is) k = subst DriveNamed (sym is) k
turned_named a b (Reopened is) k = subst DriveNamed (sym is) k

pub drives_named : (w : World) → IsReached w → EachAt (λ (a : DriveAt). StoreNamed a.state.store) w.drives
drives_named w r = always_by (λ (v : World). EachAt DriveNamed v.drives) (record {
  starts = λ d a e. absurd (cc e);
  cases = λ v m all. record {
    rests = λ ms same told quiet. all;
    refused = λ c a found op handed e is. all;
    clock = λ time. all;
    serves = λ ms same i is. all;
    goes = λ ms same c a found i is. all;
    comes = λ c is. all;
    stops = λ c a found. all;
    judged = λ ms same d a found hears m number. put_each DriveNamed v.drives d a _ found
        (judged_named a (command_in m.posted.message.body) (all d a found)) all;
    injected = λ d bytes is a found.
        put_each DriveNamed v.drives d a _ found (judged_named a (reading bytes) (all d a found)) all;
    turns = λ d a b found t. put_each DriveNamed v.drives d a b found (turned_named a b t (all d a found)) all;
    known = λ d key capacity stored is knows.
        come_each DriveNamed v.drives d (made_drive d key capacity stored) none_named all;
    adds = λ d key capacity stored is knows.
        come_each DriveNamed v.drives d (made_drive d key capacity stored) none_named all;
  };
}) w r

-- ---- the lane of a holder

found_named : (x : StoredObject) (o : Option ℕ) (l : LaneEntry) → AreNamed x → lane_at x.lanes o ≡ Some l → IsNamed l
found_named x None l k e = absurd (cc e)
found_named x (Some n) l k e = k l (in_lanes x.lanes n l e)

object_named : (s : StoreState) (object holder : ℕ) (o : Option StoredObject) (l : LaneEntry) → StoreNamed s
    → object_at s object ≡ o → lane_or_none o holder ≡ Some l → IsNamed l
object_named s object holder None l k there e = absurd (cc e)
object_named s object holder (Some x) l k there e =
    found_named x (place_of x.lanes holder) l (k object x there) e

pub holder_named : (s : StoreState) (object holder : ℕ) (l : LaneEntry) → StoreNamed s
    → lane_or_none (object_at s object) holder ≡ Some l → IsNamed l
holder_named s object holder l k e = object_named s object holder (object_at s object) l k refl e
