-- What is spent at a drive stays spent, and isn't performed.
use Rattle.std.proofs.Common.{◌≡◌, ◌==◌, ℕ, ◌≤◌, ◌<◌, ◌++◌, ◌∷◌, [], List, Bool, true, false, not, nat_eq, nat_lt, ◌&&◌, Option, Some, None, IsSome, Result, Ok, Err, is_none, is_some, slice_get, option_map, refl, sym, ap, subst, ◌∙◌, append_assoc, arith, inl, inr, if◌then◌else◌}
use Rattle.std.proofs.lemmas.Bool.{cases_eq, cases_lt, ne_eqb}
use Rattle.std.proofs.lemmas.Bool.Decides.{nat_tests}
use Rattle.std.specs.Ordering.{nat_cmp}
use Rattle.std.specs.BTreeMap.{insert_entry}
use Rattle.std.proofs.lemmas.List.{append-nil}
use Rattle.std.proofs.lemmas.List.Sums.{fold-append}
use Rattle.std.proofs.lemmas.Option.{same_Some}
use Rattle.osd_lists.proofs.Tests.{first_false, not_apart}
use Rattle.osd_commands.specs.declared.actions.Action.{Action}
use Rattle.osd_commands.specs.declared.actions.Action.TheVariants as action
use Rattle.osd_commands.specs.declared.commands.Command.{Command}
use Rattle.osd_commands.specs.declared.commands.CommandErr.{CommandErr}
use Rattle.osd_commands.specs.Commands.{reading}
use Rattle.osd_objects.specs.declared.lanes.LaneEntry.{LaneEntry}
use Rattle.osd_objects.specs.declared.object.StoredObject.{StoredObject}
use Rattle.osd_objects.specs.Lanes.{lane_of, with_lane}
use Rattle.osd_objects.specs.Objects.{state_of, after_write, after_set_attr, after_set_tag}
use Rattle.osd_objects.specs.Store.{StoreState, object_at, lane_or_none, changed_if_there}
use Rattle.osd_objects.proofs.Entries.{lookup_inserted, lookup_beside, lookup_set, lookup_set_beside}
use Rattle.osd_drive.specs.declared.verdict.Verdict.{Verdict}
use Rattle.osd_drive.specs.declared.verdict.Verdict.TheVariants as verdict
use Rattle.osd_drive.specs.Table.{first_fault, is_create, is_mutating, of_object, of_lane}
use Rattle.osd_drive.specs.State.{DriveState}
use Rattle.osd_drive.specs.Effects.{lane_for, next_tag, effect_of, performed, state_by}
use Rattle.osd_drive.proofs.Clear.{all_told}
use Rattle.scenario_text.specs.declared.event.Event.{Event}
use Rattle.scenario_text.specs.declared.event.Event.TheVariants as event
use Rattle.scenario_text.specs.declared.event.Machine.TheVariants as machine
use Rattle.scenario_text.specs.declared.line.Verdict.TheVariants as told
use Rattle.scenario_text.specs.declared.line.Line.{Line}
use Rattle.scenario_text.specs.declared.line.Line.TheVariants as line
use Rattle.world_history.specs.declared.messages.Sent.{Sent}
use Rattle.world_history.specs.State.{DriveAt}
use Rattle.world_history.specs.Drives.{judges, made_drive, raised, at_time, fallen, crashed, reopened, is_deaf}
use Rattle.world_history.specs.Reading.{is_drive}
use Rattle.world_history.specs.ReadDrives.{DriveSeen, sees_drive, drive_seen, drive_after, drive_after_event, drive_after_line, hears_bytes, hears_sent}
use Rattle.history_law.specs.Judging.{Judges}
use Rattle.history_law.specs.Spent.{HasPassed, IsSpentOn, IsSpent, Spends}
use Rattle.history_law.specs.Tags.{tag_in, RefusesOldTags}
use Rattle.history_law.proofs.Lanes.{HasAtMost, lanes_rise, lane_passed}
use Rattle.history_law.proofs.Replying.{is_clear}
use Rattle.history_law.proofs.Each.{EachBehind, ArisesAt, HoldsAt, arises_of, each_front, each_behind}

-- ---- what a command without fault says of its object

pub record IsFree (d : DriveState) (c : Command) : Type 0 where
  pub format : nat_lt c.capability.format d.least ≡ false
  pub there : (not (is_create c.action) && is_none (option_map state_of (object_at d.store c.object))) ≡ false
  pub finds : (is_create c.action && is_some (option_map state_of (object_at d.store c.object))) ≡ false
  pub tag : (not (is_create c.action)
      && of_object (λ o. not (nat_eq c.capability.tag o.tag)) (option_map state_of (object_at d.store c.object))) ≡ false
  pub stale : (is_mutating c.action && of_lane (λ l. nat_lt c.nonce l.nonce)
      (lane_or_none (object_at d.store c.object) c.capability.holder)) ≡ false
  pub repeated : (is_mutating c.action && of_lane (λ l. nat_eq l.nonce c.nonce)
      (lane_or_none (object_at d.store c.object) c.capability.holder)) ≡ false

pub free : (d : DriveState) (now : ℕ) (c : Command) → first_fault d now c ≡ verdict.Perform → IsFree d c
free d now c clear =
    let all = (all_told d now c).0 clear in
    let late = all.1.1.1.1.1.1.1 in
    record {
      format = all.0;
      there = late.0;
      finds = late.1.0;
      tag = late.1.1.0;
      stale = late.1.1.1.1.1.1.0;
      repeated = late.1.1.1.1.1.1.1.1.0;
    }

-- ---- an object on which more is spent

abbrev pub Grows : StoredObject → StoredObject → Type 0
Grows x y = (c : Command) → IsSpentOn (Some x) c → IsSpentOn (Some y) c

grows : (x y : StoredObject) → x.tag ≤ y.tag
    → ((q n : ℕ) → HasPassed (lane_of x.lanes q) n → HasPassed (lane_of y.lanes q) n) → Grows x y
grows x y tag lanes c (inl made) = inl made
grows x y tag lanes c (inr (inl old)) = inr (inl (omega (arith, tag, old)))
grows x y tag lanes c (inr (inr late)) = inr (inr (late.0, lanes c.capability.holder c.nonce late.1))

abbrev pub StoreGrows : StoreState → StoreState → Type 0
StoreGrows s t = (c : Command) → IsSpentOn (object_at s c.object) c → IsSpentOn (object_at t c.object) c

same_store : (s : StoreState) → StoreGrows s s
same_store s c spent = spent

changed_grows : (s : StoreState) (k : ℕ) (f : StoredObject → StoredObject) (o : Option StoredObject) → object_at s k ≡ o
    → ((x : StoredObject) → o ≡ Some x → Grows x (f x)) → StoreGrows s (changed_if_there s k f o)
changed_grows s k f None none each = same_store s
changed_grows s k f (Some z) there each = λ c spent. elim (cases_eq c.object k) [
  | inl same ↦
      subst (λ (o : Option StoredObject). IsSpentOn o c)
      (sym (ap (object_at (changed_if_there s k f (Some z))) same
      ∙ lookup_set s.objects k (f z) (subst IsSome (sym there) refl)))
      (each z refl c (subst (λ (o : Option StoredObject). IsSpentOn o c) (ap (object_at s) same ∙ there) spent))
  | inr other ↦
      subst (λ (o : Option StoredObject). IsSpentOn o c) (sym (lookup_set_beside s.objects k c.object (f z) other)) spent
]

-- a change of an object, whose lane has no greater nonce
lane_grows : (a : Action) (d : DriveState) (c : Command) (detail : ℕ) (x : StoredObject) → is_mutating a ≡ true
    → (is_mutating a && of_lane (λ l. nat_lt c.nonce l.nonce)
    (lane_or_none (object_at d.store c.object) c.capability.holder)) ≡ false
    → object_at d.store c.object ≡ Some x → (q n : ℕ) → HasPassed (lane_of x.lanes q) n
    → HasPassed (lane_of (with_lane x.lanes (lane_for c detail)) q) n
lane_grows a d c detail x changes stale there =
    lanes_rise x.lanes (lane_for c detail) (at_most (lane_of x.lanes c.capability.holder)
    (sym (ap (λ (b : Bool). b && of_lane (λ l. nat_lt c.nonce l.nonce) (lane_of x.lanes c.capability.holder)) changes)
    ∙ sym (ap (λ (o : Option StoredObject). is_mutating a
    && of_lane (λ l. nat_lt c.nonce l.nonce) (lane_or_none o c.capability.holder)) there) ∙ stale))
  where
    at_most : (o : Option LaneEntry) → of_lane (λ l. nat_lt c.nonce l.nonce) o ≡ false → HasAtMost o c.nonce
    at_most None e = tt
    at_most (Some l) e = grind (arith, e, nat_tests)

created_grows : (s : StoreState) (k : ℕ) (v : StoredObject) → object_at s k ≡ None
    → StoreGrows s (record s { objects = insert_entry nat_cmp s.objects k v })
created_grows s k v none c spent = elim (cases_eq c.object k) [
  | inl same ↦ absurd (subst (λ (o : Option StoredObject). IsSpentOn o c) (ap (object_at s) same ∙ none) spent)
  | inr other ↦
      subst (λ (o : Option StoredObject). IsSpentOn o c) (sym (lookup_beside s.objects k c.object v other)) spent
]

pub absent : (o : Option StoredObject) → is_some (option_map state_of o) ≡ false → o ≡ None
absent None e = refl
absent (Some x) e = absurd (cc e)

effect_grows : (a : Action) (d : DriveState) (c : Command) → c.action ≡ a → IsFree d c
    → StoreGrows d.store (effect_of a d.store c)
effect_grows action.Create d c is f =
    created_grows d.store c.object _ (absent (object_at d.store c.object) (rw is at f.finds))
effect_grows action.Read d c is f = same_store d.store
effect_grows action.Write d c is f =
    changed_grows d.store c.object _ (object_at d.store c.object) refl
    (λ x there. grows x (after_write c.offset c.payload (lane_for c 0) x) (omega arith)
    (lane_grows c.action d c 0 x (ap is_mutating is) f.stale there))
effect_grows action.GetAttr d c is f = same_store d.store
effect_grows action.SetAttr d c is f =
    changed_grows d.store c.object _ (object_at d.store c.object) refl
    (λ x there. grows x (after_set_attr c.attribute c.payload (lane_for c 0) x) (omega arith)
    (lane_grows c.action d c 0 x (ap is_mutating is) f.stale there))
effect_grows action.SetTag d c is f =
    changed_grows d.store c.object _ (object_at d.store c.object) refl
    (λ x there. grows x (after_set_tag (lane_for c (next_tag (object_at d.store c.object))) x) (omega arith)
    (lane_grows c.action d c (next_tag (object_at d.store c.object)) x (ap is_mutating is) f.stale there))

-- ---- a drive at which more is spent

abbrev pub Stays : Option DriveAt → Option DriveAt → Type 0
Stays x y = (c : Command) → IsSpent x c → IsSpent y c

same_stays : (x : Option DriveAt) → Stays x x
same_stays x c spent = spent

drive_stays : (a b : DriveAt) → (a.failed ≡ true → b.failed ≡ true) → a.state.least ≤ b.state.least
    → StoreGrows a.state.store b.state.store → Stays (Some a) (Some b)
drive_stays a b failed least store c (inl f) = inl (failed f)
drive_stays a b failed least store c (inr (inl old)) = inr (inl (omega (arith, least, old)))
drive_stays a b failed least store c (inr (inr spent)) = inr (inr (store c spent))

verdict_stays : (a : DriveAt) (c : Command) (v : Verdict) → first_fault a.state a.clock c ≡ v
    → Stays (Some a) (Some (record a { state = state_by v a.state c }))
verdict_stays a c verdict.Perform clear =
    drive_stays a (record a { state = performed a.state c }) (λ f. f) (omega arith)
    (effect_grows c.action a.state c refl (free a.state a.clock c clear))
verdict_stays a c v faulty =
    drive_stays a (record a { state = state_by v a.state c }) (λ f. f) (omega arith) (same_store a.state.store)

judged_stays : (a : DriveAt) (r : Result Command CommandErr) → Stays (Some a) (Some (judges a r).drive)
unfolding judges
judged_stays a (Ok c) = verdict_stays a c (first_fault a.state a.clock c) refl
judged_stays a (Err e) = drive_stays a (judges a (Err e)).drive (λ f. f) (omega arith) (same_store a.state.store)

heard_stays : (bytes : List ℕ) (a : DriveAt) (b : Bool)
    → Stays (Some a) (Some (if b then a else (judges a (reading bytes)).drive))
heard_stays bytes a true = same_stays (Some a)
heard_stays bytes a false = judged_stays a (reading bytes)

-- where it stays at each drive, so it does at one that may be there
mapped_stays : (f : DriveAt → DriveAt) (o : Option DriveAt) → ((a : DriveAt) → Stays (Some a) (Some (f a)))
    → Stays o (option_map f o)
mapped_stays f None each = same_stays None
mapped_stays f (Some a) each = each a

where_stays : (b : Bool) (f : DriveAt → DriveAt) (o : Option DriveAt) → ((a : DriveAt) → Stays (Some a) (Some (f a)))
    → Stays o (if b then option_map f o else o)
where_stays true f o each = mapped_stays f o each
where_stays false f o each = same_stays o

fallen_stays : (a : DriveAt) → Stays (Some a) (Some (fallen a))
fallen_stays a c spent = inl refl

raised_stays : (format : ℕ) (a : DriveAt) → Stays (Some a) (Some (raised a format))
raised_stays format a = drive_stays a (raised a format) (λ f. f) (grind (arith, nat_tests)) (same_store a.state.store)

-- ---- a line

sent_stays : (d : ℕ) (o : Option DriveAt) (m : Option Sent) → Stays o (hears_sent d o m)
sent_stays d o None = same_stays o
sent_stays d o (Some m) =
    where_stays (is_drive d m.to) (hears_bytes m.bytes) o (λ a. heard_stays m.bytes a (is_deaf a))

made_stays : (b : Bool) (o : Option DriveAt) (a : DriveAt) → (b ≡ true → o ≡ None) → Stays o (if b then Some a else o)
made_stays true o a none c spent = absurd (subst (λ (x : Option DriveAt). IsSpent x c) (none refl) spent)
made_stays false o a none c spent = spent

-- drive d isn't there before it is made
made_fresh : (before : List Line) (d k : ℕ) → drive_after before k ≡ None → (k == d) ≡ true → drive_after before d ≡ None
made_fresh before d k none is = elim (cases_eq k d) [
  | inl same ↦ ap (drive_after before) (sym same) ∙ none
  | inr other ↦ absurd (cc (sym is ∙ ne_eqb k d other))
]

-- a change of one drive that leaves its format and its objects
kept_stays : (a b : DriveAt) → (a.failed ≡ true → b.failed ≡ true) → b.state ≡ a.state → Stays (Some a) (Some b)
kept_stays a b failed same =
    drive_stays a b failed (omega (arith, ap (λ (s : DriveState). s.least) same))
    (subst (λ (s : DriveState). StoreGrows a.state.store s.store) (sym same) (same_store a.state.store))

event_stays : (before : List Line) (d : ℕ) (e : Event) → ArisesAt before (line.Event e)
    → Stays (drive_after before d) (drive_after_event d (drive_after before d) e)
event_stays before d (event.Drive k key capacity) arises =
    made_stays (k == d) (drive_after before d) (made_drive k key capacity false) (made_fresh before d k arises)
event_stays before d (event.Disk k key capacity) arises =
    made_stays (k == d) (drive_after before d) (made_drive k key capacity true) (made_fresh before d k arises)
event_stays before d (event.Least k format) arises =
    where_stays (k == d) _ (drive_after before d) (raised_stays format)
event_stays before d (event.Clock (machine.Drive k) time) arises =
    where_stays (k == d) _ (drive_after before d) (λ a. kept_stays a (at_time a time) (λ f. f) refl)
event_stays before d (event.Clock machine.Server time) arises = same_stays (drive_after before d)
event_stays before d (event.Fail k) arises = where_stays (k == d) fallen (drive_after before d) fallen_stays
event_stays before d (event.Crash (machine.Drive k)) arises =
    where_stays (k == d) crashed (drive_after before d) (λ a. kept_stays a (crashed a) (λ f. f) refl)
event_stays before d (event.Crash machine.Server) arises = same_stays (drive_after before d)
event_stays before d (event.Reopen (machine.Drive k)) arises =
    where_stays (k == d) reopened (drive_after before d) (λ a. kept_stays a (reopened a) (λ f. f) refl)
event_stays before d (event.Reopen machine.Server) arises = same_stays (drive_after before d)
event_stays before d e arises = same_stays (drive_after before d)

line_stays : (before : List Line) (d : ℕ) (l : Line) → ArisesAt before l
    → Stays (drive_after before d) (drive_after_line d (drive_seen d before) l)
line_stays before d (line.Event e) arises = event_stays before d e arises
line_stays before d (line.Delivered number delivery) arises =
    sent_stays d (drive_after before d) (slice_get (drive_seen d before).sent number)
line_stays before d (line.Judged k v) arises =
    where_stays (k == d) (hears_bytes (drive_seen d before).injected) (drive_after before d)
    (λ a. heard_stays (drive_seen d before).injected a (is_deaf a))
line_stays before d l arises = same_stays (drive_after before d)

-- ---- all lines

one_stays : (before : List Line) (l : Line) (d : ℕ) → ArisesAt before l
    → Stays (drive_after before d) (drive_after (before ++ l ∷ []) d)
one_stays before l d arises =
    subst (Stays (drive_after before d))
    (sym (ap (λ (s : DriveSeen). s.drive) (fold-append (sees_drive d) _ before (l ∷ []))))
    (line_stays before d l arises)

lines_stay : (before lines : List Line) (d : ℕ) → EachBehind HoldsAt before lines
    → Stays (drive_after before d) (drive_after (before ++ lines) d)
lines_stay before [] d each =
    subst (λ (h : List Line). Stays (drive_after before d) (drive_after h d)) (sym (append-nil before))
    (same_stays (drive_after before d))
lines_stay before (l ∷ lines) d each =
    subst (λ (h : List Line). Stays (drive_after before d) (drive_after h d)) (append_assoc before (l ∷ []) lines)
    (λ c spent. lines_stay (before ++ l ∷ []) lines d each.1 c (one_stays before l d (arises_of before l each.0) c spent))

-- ---- what is performed

-- a command that is performed on an object that is there has its tag
tag_by : (a : Action) (c : Command) (x : StoredObject)
    → (is_create a && is_some (option_map state_of (Some x))) ≡ false
    → (not (is_create a) && of_object (λ y. not (nat_eq c.capability.tag y.tag)) (option_map state_of (Some x))) ≡ false
    → c.capability.tag ≡ x.tag
tag_by action.Create c x finds tag = absurd (cc finds)
tag_by a c x finds tag = not_apart c.capability.tag x.tag tag

later_lane : (o : Option LaneEntry) (n : ℕ) → of_lane (λ l. nat_lt n l.nonce) o ≡ false
    → of_lane (λ l. nat_eq l.nonce n) o ≡ false → HasPassed o n → ⊥
later_lane None n stale repeated passed = passed
later_lane (Some l) n stale repeated passed = grind (arith, stale, repeated, passed, nat_tests)

not_spent_on : (c : Command) (o : Option StoredObject)
    → (is_create c.action && is_some (option_map state_of o)) ≡ false
    → (not (is_create c.action) && of_object (λ y. not (nat_eq c.capability.tag y.tag)) (option_map state_of o)) ≡ false
    → (is_mutating c.action && of_lane (λ l. nat_lt c.nonce l.nonce) (lane_or_none o c.capability.holder)) ≡ false
    → (is_mutating c.action && of_lane (λ l. nat_eq l.nonce c.nonce) (lane_or_none o c.capability.holder)) ≡ false
    → IsSpentOn o c → ⊥
not_spent_on c None finds tag stale repeated spent = spent
not_spent_on c (Some x) finds tag stale repeated (inl made) =
    cc (sym (ap (λ (a : Action). is_create a && true) made) ∙ finds)
not_spent_on c (Some x) finds tag stale repeated (inr (inl old)) =
    omega (arith, old, tag_by c.action c x finds tag)
not_spent_on c (Some x) finds tag stale repeated (inr (inr late)) =
    later_lane (lane_of x.lanes c.capability.holder) c.nonce (rw late.0 at stale) (rw late.0 at repeated) late.1

pub not_spent : (a : DriveAt) (c : Command) → is_deaf a ≡ false → IsFree a.state c → IsSpent (Some a) c → ⊥
not_spent a c hears f (inl failed) = cc (sym failed ∙ first_false a.failed a.down hears)
not_spent a c hears f (inr (inl old)) = grind (arith, f.format, old, nat_tests)
not_spent a c hears f (inr (inr spent)) =
    not_spent_on c (object_at a.state.store c.object) f.finds f.tag f.stale f.repeated spent

-- ---- what was performed

changed_spent : (s : StoreState) (c : Command) (f : StoredObject → StoredObject) (o : Option StoredObject)
    → object_at s c.object ≡ o → is_none (option_map state_of o) ≡ false
    → ((x : StoredObject) → IsSpentOn (Some (f x)) c) → IsSpentOn (object_at (changed_if_there s c.object f o) c.object) c
changed_spent s c f None none e each = absurd (cc e)
changed_spent s c f (Some x) there e each =
    subst (λ (o : Option StoredObject). IsSpentOn o c)
    (sym (lookup_set s.objects c.object (f x) (subst IsSome (sym there) refl))) (each x)

pub effect_spent : (a : Action) (d : DriveState) (c : Command) → c.action ≡ a → is_mutating a ≡ true → IsFree d c
    → IsSpentOn (object_at (effect_of a d.store c) c.object) c
effect_spent action.Create d c is changes f =
    subst (λ (o : Option StoredObject). IsSpentOn o c) (sym (lookup_inserted d.store.objects c.object _)) (inl is)
effect_spent action.Read d c is changes f = absurd (cc changes)
effect_spent action.Write d c is changes f =
    changed_spent d.store c _ (object_at d.store c.object) refl (rw is at f.there)
    (λ x. inr (inr (ap is_mutating is, lane_passed x.lanes (lane_for c 0))))
effect_spent action.GetAttr d c is changes f = absurd (cc changes)
effect_spent action.SetAttr d c is changes f =
    changed_spent d.store c _ (object_at d.store c.object) refl (rw is at f.there)
    (λ x. inr (inr (ap is_mutating is, lane_passed x.lanes (lane_for c 0))))
effect_spent action.SetTag d c is changes f =
    changed_spent d.store c _ (object_at d.store c.object) refl (rw is at f.there)
    (λ x. inr (inr (ap is_mutating is, lane_passed x.lanes (lane_for c (next_tag (object_at d.store c.object))))))

becomes_performed : (a : DriveAt) (bytes : List ℕ) (c : Command) → reading bytes ≡ Ok c
    → first_fault a.state a.clock c ≡ verdict.Perform
    → (judges a (reading bytes)).drive ≡ record a { state = performed a.state c }
unfolding judges
becomes_performed a bytes c read clear =
    ap (λ (r : Result Command CommandErr). (judges a r).drive) read
    ∙ ap (λ (v : Verdict). record a { state = state_by v a.state c }) clear

-- ---- a history

refuses : (before : List Line) (l : Line) (d : ℕ) (bytes : List ℕ) (c : Command) → Judges before l d bytes told.Perform
    → reading bytes ≡ Ok c → IsSpent (drive_after before d) c → ⊥
refuses before l d bytes c j read spent =
    not_spent j.there c j.hears (free j.there.state j.there.clock c (is_clear j.there bytes c read j.verdict))
    (subst (λ (o : Option DriveAt). IsSpent o c) j.stands spent)

spends : (before : List Line) (l : Line) (d : ℕ) (bytes : List ℕ) (c : Command) → Judges before l d bytes told.Perform
    → reading bytes ≡ Ok c → is_mutating c.action ≡ true → IsSpent (drive_after (before ++ l ∷ []) d) c
spends before l d bytes c j read changes =
    let clear = is_clear j.there bytes c read j.verdict in
    subst (λ (o : Option DriveAt). IsSpent o c)
    (sym (j.becomes ∙ ap (λ (x : DriveAt). Some x) (becomes_performed j.there bytes c read clear)))
    (inr (inr (effect_spent c.action j.there.state c refl changes (free j.there.state j.there.clock c clear))))

module _ (h : List Line) (each : EachBehind HoldsAt [] h) where
  stays : (first middle after : List Line) → h ≡ first ++ (middle ++ after) → (d : ℕ) (c : Command)
      → IsSpent (drive_after first d) c → IsSpent (drive_after (first ++ middle) d) c
  stays first middle after is d c spent =
      lines_stay first middle d (each_front HoldsAt first middle after
      (each_behind HoldsAt [] first (middle ++ after) (subst (EachBehind HoldsAt []) is each))) c spent

  once : (first middle after : List Line) (l m : Line) → h ≡ first ++ l ∷ (middle ++ m ∷ after) → (d : ℕ)
      (bytes : List ℕ) (c : Command) → reading bytes ≡ Ok c → is_mutating c.action ≡ true
      → Judges first l d bytes told.Perform → Judges (first ++ l ∷ middle) m d bytes told.Perform → ⊥
  once first middle after l m is d bytes c read changes j k =
      refuses (first ++ l ∷ middle) m d bytes c k read
      (subst (λ (x : List Line). IsSpent (drive_after x d) c) (append_assoc first (l ∷ []) middle)
      (stays (first ++ l ∷ []) middle (m ∷ after)
      (is ∙ sym (append_assoc first (l ∷ []) (middle ++ m ∷ after))) d c (spends first l d bytes c j read changes)))

  pub all_spend : Spends h
  all_spend = record { stays = stays; refuses = refuses; performed = spends; once = once }

  tag_spent : (o : Option DriveAt) (object tag : ℕ) (c : Command) → tag_in o object ≡ Some tag → c.object ≡ object
      → c.capability.tag < tag → IsSpent o c
  tag_spent None object tag c has it less = absurd (cc has)
  tag_spent (Some a) object tag c has it less =
      inr (inr (on_object (object_at a.state.store c.object)
      (ap (λ (k : ℕ). option_map (λ (x : StoredObject). x.tag) (object_at a.state.store k)) it ∙ has)))
    where
      on_object : (o : Option StoredObject) → option_map (λ (x : StoredObject). x.tag) o ≡ Some tag → IsSpentOn o c
      on_object None e = absurd (cc e)
      on_object (Some x) e = inr (inl (omega (arith, less, same_Some x.tag tag e)))

  pub old_tags : RefusesOldTags h
  old_tags first middle after l is d object tag old bytes c j read it = elim (cases_lt c.capability.tag tag) [
    | inl less ↦ absurd (refuses (first ++ middle) l d bytes c j read
        (stays first middle (l ∷ after) is d c (tag_spent (drive_after first d) object tag c old it less)))
    | inr from ↦ from
  ]
