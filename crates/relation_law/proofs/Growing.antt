-- What drives keep over each move.
use Rattle.std.proofs.Common.{◌≡◌, ℕ, ◌≤◌, ◌<◌, Bool, true, false, List, Option, Some, None, is_some, Result, Ok, Err, IsSome, refl, sym, ap, subst, inl, inr, arith}
use Rattle.std.proofs.lemmas.Bool.{cases_eq, cases_Bool}
use Rattle.std.proofs.lemmas.Bool.Decides.{nat_tests}
use Rattle.osd_commands.specs.declared.actions.Action.{Action}
use Rattle.osd_commands.specs.declared.actions.Action.TheVariants as action
use Rattle.osd_commands.specs.declared.commands.Command.{Command}
use Rattle.osd_commands.specs.declared.commands.CommandErr.{CommandErr}
use Rattle.osd_commands.specs.Commands as commands
use Rattle.osd_objects.specs.declared.lanes.LaneEntry.{LaneEntry}
use Rattle.osd_objects.specs.declared.object.StoredObject.{StoredObject}
use Rattle.osd_objects.specs.Lanes.{lane_of, with_lane}
use Rattle.osd_objects.specs.Store.{object_at}
use Rattle.osd_objects.proofs.Entries.{lookup_set, lookup_set_beside, lookup_beside}
use Rattle.osd_drive.specs.declared.verdict.Verdict.{Verdict}
use Rattle.osd_drive.specs.declared.verdict.Verdict.TheVariants as verdict
use Rattle.osd_drive.specs.Table.{first_fault, is_mutating}
use Rattle.osd_drive.specs.State.{DriveState}
use Rattle.osd_drive.specs.Effects.{lane_for, next_tag, performed, state_by}
use Rattle.world_history.specs.State.{World, DriveAt, at_number, with_number, and_number}
use Rattle.world_history.specs.Drives.{judges, command_in, made_drive}
use Rattle.world_history.specs.Moves.{Act, Action as WorldAction, Opens}
use Rattle.world_history.specs.Sending.{move}
use Rattle.world_history.specs.Refusals.{refusal, unless_there, unless_down}
use Rattle.world_history.proofs.Causes.{no_cause}
use Rattle.history_law.specs.Moves.{MoveCases, Turns, Raised, Timed, Falls, Crashed, Reopened, drive_event}
use Rattle.history_law.proofs.Moves.{each_act}
use Rattle.history_law.specs.Spent.{HasPassed, IsSpentOn, IsSpent}
use Rattle.history_law.proofs.Lanes.{HasAtMost, lanes_rise}
use Rattle.history_law.proofs.Spending.{IsFree, free}
use Rattle.component_law.proofs.Doing.{IsAllowed}
use Rattle.component_law.proofs.Moments.{allowed_at}
use Rattle.component_law.proofs.Within.{performed_stay_within}
use Rattle.relation_law.proofs.DriveObjects.{Leaves, writes, sets_tag, sets_attr, creates_none, rests, lane_below}
use Rattle.relation_law.specs.Growing.{ObjectGrows, DriveGrows, Grows, DrivesGrow, SpentStays}

-- ---- an object

same_object : (o : Option StoredObject) → ObjectGrows o o
same_object None = tt
same_object (Some x) = record { tag = omega arith; lanes = λ q n passed. passed }

at_most : (o : Option LaneEntry) (n : ℕ) → ((l : LaneEntry) → o ≡ Some l → l.nonce < n) → HasAtMost o n
at_most None n less = tt
at_most (Some l) n less = let below = less l refl in omega (arith, below)

module _ (d : DriveState) (c : Command) (f : IsFree d c) where
  -- a change, whose lane is put
  changed : is_mutating c.action ≡ true → (g : StoredObject → StoredObject) (detail : ℕ) →
      ((x : StoredObject) → x.tag ≤ (g x).tag) → ((x : StoredObject) → (g x).lanes ≡ with_lane x.lanes (lane_for c detail)) →
      Leaves d c g → ObjectGrows (object_at d.store c.object) (object_at (performed d c).store c.object)
  changed changes g detail tag lanes l =
      subst (λ (o : Option StoredObject). ObjectGrows o (object_at (performed d c).store c.object)) (sym l.there)
      (subst (λ (o : Option StoredObject). ObjectGrows (Some l.before) o) (sym l.behind) (record {
        tag = tag l.before;
        lanes = λ q n passed.
            subst (λ (ls : List LaneEntry). HasPassed (lane_of ls q) n) (sym (lanes l.before))
            (lanes_rise l.before.lanes (lane_for c detail)
            (at_most (lane_of l.before.lanes c.capability.holder) c.nonce
            (λ e is. lane_below d c changes f l.before l.there e is)) q n passed);
      }))

  own_object : (a : Action) → c.action ≡ a →
      ObjectGrows (object_at d.store c.object) (object_at (performed d c).store c.object)
  own_object action.Create is =
      subst (λ (o : Option StoredObject). ObjectGrows o (object_at (performed d c).store c.object))
      (sym (creates_none d c is f)) tt
  own_object action.Read is =
      subst (ObjectGrows (object_at d.store c.object)) (sym (rests d c (inl is) c.object))
      (same_object (object_at d.store c.object))
  own_object action.Write is =
      changed (ap is_mutating is) _ 0 (λ x. omega arith) (λ x. refl) (writes d c is f)
  own_object action.GetAttr is =
      subst (ObjectGrows (object_at d.store c.object)) (sym (rests d c (inr is) c.object))
      (same_object (object_at d.store c.object))
  own_object action.SetAttr is =
      changed (ap is_mutating is) _ 0 (λ x. omega arith) (λ x. refl) (sets_attr d c is f)
  own_object action.SetTag is =
      changed (ap is_mutating is) _ (next_tag (object_at d.store c.object)) (λ x. omega arith) (λ x. refl)
      (sets_tag d c is f)

performed_grows : (d : DriveState) (now : ℕ) (c : Command) → first_fault d now c ≡ verdict.Perform → (o : ℕ) →
    ObjectGrows (object_at d.store o) (object_at (performed d c).store o)
performed_grows d now c clear o = elim (cases_eq o c.object) [
  | inl here ↦
      subst (λ (n : ℕ). ObjectGrows (object_at d.store n) (object_at (performed d c).store n)) (sym here)
      (own_object d c (free d now c clear) c.action refl)
  | inr other ↦
      subst (ObjectGrows (object_at d.store o)) (sym ((performed_stay_within d now c clear).others o other))
      (same_object (object_at d.store o))
]

-- ---- a drive

same_drive : (a : DriveAt) → DriveGrows a a
same_drive a = record {
  failed = λ e. e;
  least = omega arith;
  objects = λ lives o. same_object (object_at a.state.store o);
}

same_grows : (o : Option DriveAt) → Grows o o
same_grows None = tt
same_grows (Some a) = same_drive a

by_verdict : (a : DriveAt) (c : Command) (v : Verdict) → first_fault a.state a.clock c ≡ v →
    DriveGrows a (record a { state = state_by v a.state c })
by_verdict a c verdict.Perform clear = record {
  failed = λ e. e;
  least = omega arith;
  objects = λ lives o. performed_grows a.state a.clock c clear o;
}
by_verdict a c v fault = record {
  failed = λ e. e;
  least = omega arith;
  objects = λ lives o. same_object (object_at a.state.store o);
}

judged_grows : (a : DriveAt) (r : Result Command CommandErr) → DriveGrows a (judges a r).drive
unfolding judges
judged_grows a (Ok c) = by_verdict a c (first_fault a.state a.clock c) refl
judged_grows a (Err e) = record {
  failed = λ f. f;
  least = omega arith;
  objects = λ lives o. same_object (object_at a.state.store o);
}

turned_grows : (a b : DriveAt) → Turns a b → DriveGrows a b
turned_grows a b (Raised format is) = subst (DriveGrows a) (sym is) (record {
  failed = λ f. f;
  least = grind (arith, nat_tests);
  objects = λ lives o. same_object (object_at a.state.store o);
})
turned_grows a b (Timed time is) = subst (DriveGrows a) (sym is) (record {
  failed = λ f. f;
  least = omega arith;
  objects = λ lives o. same_object (object_at a.state.store o);
})
turned_grows a b (Falls is) = subst (DriveGrows a) (sym is) (record {
  failed = λ f. refl;
  least = omega arith;
  objects = λ lives o. absurd (cc lives);
})
turned_grows a b (Crashed is) = subst (DriveGrows a) (sym is) (record {
  failed = λ f. f;
  least = omega arith;
  objects = λ lives o. same_object (object_at a.state.store o);
})
turned_grows a b (Reopened is) = subst (DriveGrows a) (sym is) (record {
  failed = λ f. f;
  least = omega arith;
  objects = λ lives o. same_object (object_at a.state.store o);
})

-- ---- a world

abbrev AllGrow : World → Act → Type 0
AllGrow w a = (d : ℕ) → Grows (at_number w.drives d) (at_number a.world.drives d)

one_drive : (w : World) (d : ℕ) (a b : DriveAt) → at_number w.drives d ≡ Some a → DriveGrows a b → (e : ℕ) →
    Grows (at_number w.drives e) (at_number (with_number w.drives d b) e)
one_drive w d a b found grows e = elim (cases_eq e d) [
  | inl here ↦
      subst (λ (n : ℕ). Grows (at_number w.drives n) (at_number (with_number w.drives d b) n)) (sym here)
      (subst (λ (o : Option DriveAt). Grows o (at_number (with_number w.drives d b) d)) (sym found)
      (subst (λ (o : Option DriveAt). Grows (Some a) o)
      (sym (lookup_set w.drives d b (subst IsSome (sym found) refl))) grows))
  | inr other ↦
      subst (Grows (at_number w.drives e)) (sym (lookup_set_beside w.drives d e b other))
      (same_grows (at_number w.drives e))
]

-- a drive that wasn't there
one_more : (w : World) (d : ℕ) (b : DriveAt) → at_number w.drives d ≡ None → (e : ℕ) →
    Grows (at_number w.drives e) (at_number (and_number w.drives d b) e)
one_more w d b none e = elim (cases_eq e d) [
  | inl here ↦
      subst (λ (n : ℕ). Grows (at_number w.drives n) (at_number (and_number w.drives d b) n)) (sym here)
      (subst (λ (o : Option DriveAt). Grows o (at_number (and_number w.drives d b) d)) (sym none) tt)
  | inr other ↦
      subst (Grows (at_number w.drives e)) (sym (lookup_beside w.drives d e b other))
      (same_grows (at_number w.drives e))
]

not_there : (o : Option DriveAt) → unless_there (is_some o) ≡ None → o ≡ None
not_there None e = refl
not_there (Some x) e = absurd (cc e)

pub new_drive : (w : World) (d : ℕ) (key : List ℕ) (capacity : ℕ) (stored : Bool) →
    IsAllowed w (Opens (drive_event d key capacity stored)) → at_number w.drives d ≡ None
unfolding refusal
new_drive w d key capacity true allowed =
    not_there (at_number w.drives d) (no_cause (unless_there (is_some (at_number w.drives d))) (unless_down w) allowed).0
new_drive w d key capacity false allowed =
    not_there (at_number w.drives d) (no_cause (unless_there (is_some (at_number w.drives d))) (unless_down w) allowed).0

cases : (w : World) (chosen : List ℕ) (a : WorldAction) → IsAllowed w a → MoveCases w chosen a (AllGrow w)
cases w chosen a allowed = record {
  rests = λ ms said told quiet d. same_grows (at_number w.drives d);
  refused = λ c x found op is e why d. same_grows (at_number w.drives d);
  clock = λ time d. same_grows (at_number w.drives d);
  serves = λ ms said i is d. same_grows (at_number w.drives d);
  goes = λ ms said c x found i is d. same_grows (at_number w.drives d);
  comes = λ c is d. same_grows (at_number w.drives d);
  stops = λ c x found d. same_grows (at_number w.drives d);
  judged = λ ms said d x found hears m number.
      one_drive w d x (judges x (command_in m.posted.message.body)).drive found
      (judged_grows x (command_in m.posted.message.body));
  injected = λ d bytes is x found.
      one_drive w d x (judges x (commands.reading bytes)).drive found (judged_grows x (commands.reading bytes));
  turns = λ d x y found turns. one_drive w d x y found (turned_grows x y turns);
  known = λ d key capacity stored is knows.
      one_more w d (made_drive d key capacity stored) (new_drive w d key capacity stored (subst (IsAllowed w) is allowed));
  adds = λ d key capacity stored is knows.
      one_more w d (made_drive d key capacity stored) (new_drive w d key capacity stored (subst (IsAllowed w) is allowed));
}

pub drives_grow : DrivesGrow
drives_grow w h k m next d =
    each_act w m.chosen (AllGrow w) m.action (cases w m.chosen m.action (allowed_at w h k m.action next)) d

-- ---- what is spent

spent_on : (x y : Option StoredObject) (c : Command) → ObjectGrows x y → IsSpentOn x c → IsSpentOn y c
spent_on None y c grows spent = absurd spent
spent_on (Some x) None c grows spent = absurd grows
spent_on (Some x) (Some y) c grows (inl made) = inl made
spent_on (Some x) (Some y) c grows (inr (inl old)) = inr (inl (omega (arith, old, grows.tag)))
spent_on (Some x) (Some y) c grows (inr (inr late)) =
    inr (inr (late.0, grows.lanes c.capability.holder c.nonce late.1))

-- what is spent at a drive is spent at what it becomes
pub spent_grows : (a b : Option DriveAt) (c : Command) → Grows a b → IsSpent a c → IsSpent b c
spent_grows None b c grows spent = absurd spent
spent_grows (Some a) None c grows spent = absurd grows
spent_grows (Some a) (Some b) c grows (inl failed) = inl (grows.failed failed)
spent_grows (Some a) (Some b) c grows (inr (inl old)) = inr (inl (omega (arith, old, grows.least)))
spent_grows (Some a) (Some b) c grows (inr (inr spent)) = elim (cases_Bool b.failed) [
  | inl failed ↦ inl failed
  | inr lives ↦
      inr (inr (spent_on (object_at a.state.store c.object) (object_at b.state.store c.object) c
      (grows.objects lives c.object) spent))
]

pub spent_stays : SpentStays
spent_stays w h k m next d c spent =
    spent_grows (at_number w.drives d) (at_number (move w m).world.drives d) c (drives_grow w h k m next d) spent
