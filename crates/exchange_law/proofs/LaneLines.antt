-- The lanes of each object of each drive, over all lines: each was left by a command of which S is said.
use Rattle.std.proofs.Common.{◌≡◌, ◌⊎◌, ◌==◌, ℕ, ◌++◌, ◌∷◌, [], List, Bool, true, false, Option, Some, None, Result, Ok, Err, IsSome, slice_get, option_map, refl, sym, ap, subst, ◌∙◌, append_assoc, inl, inr, if◌then◌else◌}
use Rattle.std.proofs.lemmas.Bool.{cases_eq}
use Rattle.std.proofs.lemmas.List.{append-nil}
use Rattle.std.proofs.lemmas.Option.{same_Some}
use Rattle.osd_commands.specs.declared.actions.Action.{Action}
use Rattle.osd_commands.specs.declared.actions.Action.TheVariants as action
use Rattle.osd_commands.specs.declared.commands.Command.{Command}
use Rattle.osd_commands.specs.declared.commands.CommandErr.{CommandErr}
use Rattle.osd_commands.specs.Commands.{reading}
use Rattle.osd_objects.specs.declared.lanes.LaneEntry.{LaneEntry}
use Rattle.osd_objects.specs.declared.object.StoredObject.{StoredObject}
use Rattle.osd_objects.specs.Lanes.{with_lane}
use Rattle.osd_objects.specs.Objects.{created, after_write, after_set_tag, after_set_attr}
use Rattle.osd_objects.specs.Store.{StoreState, object_at, changed_if_there}
use Rattle.osd_objects.proofs.Entries.{lookup_inserted, lookup_beside, lookup_set, lookup_set_beside}
use Rattle.osd_drive.specs.declared.verdict.Verdict.{Verdict}
use Rattle.osd_drive.specs.declared.verdict.Verdict.TheVariants as verdict
use Rattle.osd_drive.specs.Table.{is_mutating, has_no_right, first_fault}
use Rattle.osd_drive.proofs.Clear.{all_told}
use Rattle.osd_drive.specs.Effects.{lane_for, next_tag, effect_of, state_by}
use Rattle.server_rules.specs.Laws.{In}
use Rattle.scenario_text.specs.declared.event.Event.{Event}
use Rattle.scenario_text.specs.declared.event.Event.TheVariants as event
use Rattle.scenario_text.specs.declared.event.Machine.TheVariants as machine
use Rattle.scenario_text.specs.declared.line.Delivery.TheVariants as delivery
use Rattle.scenario_text.specs.declared.line.Verdict.{Verdict as ToldVerdict}
use Rattle.scenario_text.specs.declared.line.Verdict.TheVariants as told
use Rattle.scenario_text.specs.declared.line.Party.TheVariants as party
use Rattle.scenario_text.specs.declared.line.Line.{Line}
use Rattle.scenario_text.specs.declared.line.Line.TheVariants as line
use Rattle.world_history.specs.declared.messages.Sent.{Sent}
use Rattle.world_history.specs.State.{DriveAt}
use Rattle.world_history.specs.Told.{told_verdict}
use Rattle.world_history.specs.Drives.{verdict_on, judges, made_drive, is_deaf}
use Rattle.world_history.specs.Reading.{sent_in}
use Rattle.world_history.specs.ReadDrives.{drive_seen, drive_after, drive_after_event, drive_after_line, hears_sent}
use Rattle.world_history.proofs.DriveLines.{drive_line, unheard}
use Rattle.history_law.specs.Judging.{Judges, JudgesAt, injected_in}
use Rattle.history_law.specs.Safe.{AtEachLine}
use Rattle.history_law.proofs.Each.{EachBehind, HoldsAt, judges_of}
use Rattle.history_law.proofs.DriveLines.{sent_same}
use Rattle.exchange_law.specs.Lanes.{HoldersDiffer}
use Rattle.exchange_law.proofs.LaneLists.{in_with, with_differ}
use Rattle.exchange_law.proofs.Sources.{Source, SourceAt}

-- ---- whose lanes they are

-- a command of which S is said left the lane
pub record LeftBy (S : Source) (h : List Line) (drive object : ℕ) (l : LaneEntry) : Type 0 where
  pub bytes : List ℕ
  pub command : Command
  pub read : reading bytes ≡ Ok command
  pub source : S h drive bytes command
  pub changes : is_mutating command.action ≡ true
  pub allowed : has_no_right command ≡ false
  pub object_is : command.object ≡ object
  pub holder_is : command.capability.holder ≡ l.holder
  pub nonce_is : command.nonce ≡ l.nonce

pub record AreLeft (S : Source) (h : List Line) (drive object : ℕ) (ls : List LaneEntry) : Type 0 where
  pub own : (l : LaneEntry) → In l ls → LeftBy S h drive object l
  pub differ : HoldersDiffer ls

abbrev pub DriveLanes : Source → List Line → (drive : ℕ) → Option DriveAt → Type 0
DriveLanes S h drive o =
    (a : DriveAt) → o ≡ Some a → (object : ℕ) (x : StoredObject) → object_at a.state.store object ≡ Some x
    → AreLeft S h drive object x.lanes

-- ---- what a command leaves

-- the object was there with these lanes, or had none
abbrev Former : StoreState → (object : ℕ) → List LaneEntry → Type 0
Former s q ls = (ls ≡ []) ⊎ ((x : StoredObject) × (object_at s q ≡ Some x) × (ls ≡ x.lanes))

-- an object behind a command that was performed: it is as before, or has the command's lane besides
data LanesFrom (s : StoreState) (c : Command) (q : ℕ) (y : StoredObject) : Type 0 where
  Same : object_at s q ≡ Some y → LanesFrom s c q y
  Put : q ≡ c.object → is_mutating c.action ≡ true → (detail : ℕ) → (ls : List LaneEntry) → Former s q ls
      → y.lanes ≡ with_lane ls (lane_for c detail) → LanesFrom s c q y

changed_from : (s : StoreState) (c : Command) (detail : ℕ) (f : StoredObject → StoredObject) (o : Option StoredObject)
    → object_at s c.object ≡ o → is_mutating c.action ≡ true
    → ((x : StoredObject) → (f x).lanes ≡ with_lane x.lanes (lane_for c detail)) → (q : ℕ) (y : StoredObject)
    → object_at (changed_if_there s c.object f o) q ≡ Some y → LanesFrom s c q y
changed_from s c detail f None none changes leaves q y e = Same e
changed_from s c detail f (Some z) there changes leaves q y e = elim (cases_eq q c.object) [
  | inl same ↦
      let is : f z ≡ y =
      same_Some (f z) y
      (sym (lookup_set s.objects c.object (f z) (subst IsSome (sym there) refl))
      ∙ ap (object_at (changed_if_there s c.object f (Some z))) (sym same) ∙ e) in
      Put same changes detail z.lanes (inr (z, ap (object_at s) same ∙ there, refl))
      (ap (λ (x : StoredObject). x.lanes) (sym is) ∙ leaves z)
  | inr other ↦ Same (sym (lookup_set_beside s.objects c.object q (f z) other) ∙ e)
]

created_from : (s : StoreState) (c : Command) → is_mutating c.action ≡ true → (q : ℕ) (y : StoredObject)
    → object_at (effect_of action.Create s c) q ≡ Some y → LanesFrom s c q y
created_from s c changes q y e = elim (cases_eq q c.object) [
  | inl same ↦
      let made : StoredObject = created c.capability.tag c.payload (lane_for c 0) in
      let is : made ≡ y =
      same_Some made y
      (sym (lookup_inserted s.objects c.object made) ∙ ap (object_at (effect_of action.Create s c)) (sym same) ∙ e) in
      Put same changes 0 [] (inl refl) (ap (λ (x : StoredObject). x.lanes) (sym is))
  | inr other ↦ Same (sym (lookup_beside s.objects c.object q _ other) ∙ e)
]

lanes_from : (a : Action) (s : StoreState) (c : Command) → c.action ≡ a → (q : ℕ) (y : StoredObject)
    → object_at (effect_of a s c) q ≡ Some y → LanesFrom s c q y
lanes_from action.Create s c is q y e = created_from s c (ap is_mutating is) q y e
lanes_from action.Read s c is q y e = Same e
lanes_from action.GetAttr s c is q y e = Same e
lanes_from action.Write s c is q y e =
    changed_from s c 0 (after_write c.offset c.payload (lane_for c 0)) (object_at s c.object) refl (ap is_mutating is)
    (λ x. refl) q y e
lanes_from action.SetAttr s c is q y e =
    changed_from s c 0 (after_set_attr c.attribute c.payload (lane_for c 0)) (object_at s c.object) refl
    (ap is_mutating is) (λ x. refl) q y e
lanes_from action.SetTag s c is q y e =
    changed_from s c (next_tag (object_at s c.object))
    (after_set_tag (lane_for c (next_tag (object_at s c.object)))) (object_at s c.object) refl (ap is_mutating is)
    (λ x. refl) q y e

-- ---- lines and messages

delivered_source : (S : Source) (before : List Line) (n : ℕ) (x : ToldVerdict) → x ≡ told.Perform
    → SourceAt S before (line.Delivered n (delivery.Judged x))
    → SourceAt S before (line.Delivered n (delivery.Judged told.Perform))
delivered_source S before n x is o =
    subst (λ (y : ToldVerdict). SourceAt S before (line.Delivered n (delivery.Judged y))) is o

injected_source : (S : Source) (before : List Line) (k : ℕ) (x : ToldVerdict) → x ≡ told.Perform
    → SourceAt S before (line.Judged k x)
    → SourceAt S before (line.Judged k told.Perform)
injected_source S before k x is o = subst (λ (y : ToldVerdict). SourceAt S before (line.Judged k y)) is o

-- ---- over all lines, where what is said stays so

module _ (S : Source)
    (grow : (h lines : List Line) (d : ℕ) (bytes : List ℕ) (c : Command) → S h d bytes c → S (h ++ lines) d bytes c) where
  -- ---- more lines

  left_more : (h lines : List Line) (drive object : ℕ) (l : LaneEntry) → LeftBy S h drive object l
      → LeftBy S (h ++ lines) drive object l
  left_more h lines drive object l b = record {
    bytes = b.bytes;
    command = b.command;
    read = b.read;
    source = grow h lines drive b.bytes b.command b.source;
    changes = b.changes;
    allowed = b.allowed;
    object_is = b.object_is;
    holder_is = b.holder_is;
    nonce_is = b.nonce_is;
  }

  are_more : (h lines : List Line) (drive object : ℕ) (ls : List LaneEntry) → AreLeft S h drive object ls
      → AreLeft S (h ++ lines) drive object ls
  are_more h lines drive object ls a = record {
    own = λ l i. left_more h lines drive object l (a.own l i);
    differ = a.differ;
  }

  same_drives : (h lines : List Line) (drive : ℕ) (o p : Option DriveAt) → p ≡ o → DriveLanes S h drive o
      → DriveLanes S (h ++ lines) drive p
  same_drives h lines drive o p same s a is object x there =
      are_more h lines drive object x.lanes (s a (sym same ∙ is) object x there)

  -- a drive whose objects stay
  same_objects : (h lines : List Line) (drive : ℕ) (a b : DriveAt) → b.state.store ≡ a.state.store
      → DriveLanes S h drive (Some a) → DriveLanes S (h ++ lines) drive (Some b)
  same_objects h lines drive a b same s c is object x there =
      are_more h lines drive object x.lanes
      (s a refl object x
      (ap (λ z. object_at z object) (sym same) ∙ ap (λ (z : DriveAt). object_at z.state.store object) (same_Some b c is)
      ∙ there))

  -- a drive whose objects are gone, or that has none yet
  no_objects : (h : List Line) (drive : ℕ) (b : DriveAt) → b.state.store.objects ≡ [] → DriveLanes S h drive (Some b)
  no_objects h drive b none c is object x there =
      absurd (nothing (object_at b.state.store object) (ap (λ es. look es object) none)
      (ap (λ (z : DriveAt). object_at z.state.store object) (same_Some b c is) ∙ there))
    where
      look : List (ℕ × StoredObject) → ℕ → Option StoredObject
      look es k = object_at (record { capacity = b.state.store.capacity; objects = es }) k

      nothing : (o : Option StoredObject) → o ≡ None → o ≡ Some x → ⊥
      nothing o n i = cc (sym n ∙ i)

  -- ---- a drive judges bytes

  module _ (before : List Line) (l : Line) (d : ℕ) (bytes : List ℕ) (v : ToldVerdict) (j : Judges before l d bytes v)
      (source : (c : Command) → v ≡ told.Perform → reading bytes ≡ Ok c → S before d bytes c)
      (s : DriveLanes S before d (Some j.there)) where
    -- the lane of the command
    new_lane : (c : Command) → reading bytes ≡ Ok c → has_no_right c ≡ false → is_mutating c.action ≡ true → (detail : ℕ)
        → S before d bytes c → LeftBy S before d c.object (lane_for c detail)
    new_lane c read allowed changes detail source = record {
      bytes = bytes;
      command = c;
      read = read;
      source = source;
      changes = changes;
      allowed = allowed;
      object_is = refl;
      holder_is = refl;
      nonce_is = refl;
    }

    former_left : (q : ℕ) (ls : List LaneEntry) → Former j.there.state.store q ls → AreLeft S before d q ls
    former_left q ls (inl none) =
        subst (AreLeft S before d q) (sym none) (record { own = λ k i. absurd i; differ = tt })
    former_left q ls (inr (x, there, is)) = subst (AreLeft S before d q) (sym is) (s j.there refl q x there)

    put_left : (c : Command) → reading bytes ≡ Ok c → has_no_right c ≡ false
        → S before d bytes c → (q : ℕ)
        (y : StoredObject) → LanesFrom j.there.state.store c q y → AreLeft S before d q y.lanes
    put_left c read allowed source q y (Same there) = s j.there refl q y there
    put_left c read allowed source q y (Put same changes detail ls former is) =
        let old = former_left q ls former in
        subst (AreLeft S before d q) (sym is) (record {
          own = λ k i. elim (in_with ls (lane_for c detail) k i) [
            | inl e ↦ subst (LeftBy S before d q) (sym e)
                (subst (λ (n : ℕ). LeftBy S before d n (lane_for c detail)) (sym same)
                (new_lane c read allowed changes detail source))
            | inr i ↦ old.own k i
          ];
          differ = with_differ ls (lane_for c detail) old.differ;
        })

    performed_left : (c : Command) → reading bytes ≡ Ok c → (w : Verdict)
        → first_fault j.there.state j.there.clock c ≡ w
        → DriveLanes S (before ++ l ∷ []) d (Some (record j.there { state = state_by w j.there.state c }))
    performed_left c read verdict.Perform clear = λ a is object x there.
        are_more before (l ∷ []) d object x.lanes
        (put_left c read allowed (source c performs read) object x
        (lanes_from c.action j.there.state.store c refl object x
        (ap (λ (z : DriveAt). object_at z.state.store object) (same_Some _ a is) ∙ there)))
      where
        performs : v ≡ told.Perform
        performs =
            j.verdict ∙ ap (λ (r : Result Command CommandErr). verdict_on j.there.state j.there.clock r) read
            ∙ ap told_verdict clear

        allowed : has_no_right c ≡ false
        allowed = ((all_told j.there.state j.there.clock c).0 clear).1.1.1.1.0
    performed_left c read w clear = same_objects before (l ∷ []) d j.there _ refl s

    judged_left : (r : Result Command CommandErr) → reading bytes ≡ r
        → DriveLanes S (before ++ l ∷ []) d (Some (judges j.there r).drive)
    unfolding judges
    judged_left (Ok c) read = performed_left c read (first_fault j.there.state j.there.clock c) refl
    judged_left (Err e) read = same_objects before (l ∷ []) d j.there _ refl s

  -- of each drive behind a line at which one judged
  judged_line : (before : List Line) (l : Line) (k : ℕ) (bytes : List ℕ) (v : ToldVerdict) → Judges before l k bytes v
      → ((c : Command) → v ≡ told.Perform → reading bytes ≡ Ok c → S before k bytes c)
      → ((d : ℕ) → DriveLanes S before d (drive_after before d)) → (d : ℕ)
      → DriveLanes S (before ++ l ∷ []) d (drive_after (before ++ l ∷ []) d)
  judged_line before l k bytes v j source s d = elim (cases_eq d k) [
    | inl same ↦
        subst (λ (n : ℕ). DriveLanes S (before ++ l ∷ []) n (drive_after (before ++ l ∷ []) n)) (sym same)
        (subst (DriveLanes S (before ++ l ∷ []) k) (sym j.becomes)
        (judged_left before l k bytes v j source (subst (DriveLanes S before k) j.stands (s k)) (reading bytes) refl))
    | inr other ↦ same_drives before (l ∷ []) d (drive_after before d) _ (j.others d other) (s d)
  ]

  -- ---- an event

  module _ (before : List Line) (l : Line) (d : ℕ) where
    mapped_left : (f : DriveAt → DriveAt) (o : Option DriveAt) → ((a : DriveAt) → (f a).state.store ≡ a.state.store)
        → DriveLanes S before d o → DriveLanes S (before ++ l ∷ []) d (option_map f o)
    mapped_left f None same s = λ a is. absurd (cc is)
    mapped_left f (Some x) same s = same_objects before (l ∷ []) d x (f x) (same x) s

    where_left : (b : Bool) (f : DriveAt → DriveAt) (o : Option DriveAt)
        → ((a : DriveAt) → (f a).state.store ≡ a.state.store) → DriveLanes S before d o
        → DriveLanes S (before ++ l ∷ []) d (if b then option_map f o else o)
    where_left true f o same s = mapped_left f o same s
    where_left false f o same s = same_drives before (l ∷ []) d o o refl s

    fallen_left : (b : Bool) (f : DriveAt → DriveAt) (o : Option DriveAt)
        → ((a : DriveAt) → (f a).state.store.objects ≡ []) → DriveLanes S before d o
        → DriveLanes S (before ++ l ∷ []) d (if b then option_map f o else o)
    fallen_left true f None gone s = λ a is. absurd (cc is)
    fallen_left true f (Some x) gone s = no_objects (before ++ l ∷ []) d (f x) (gone x)
    fallen_left false f o gone s = same_drives before (l ∷ []) d o o refl s

    made_left : (b : Bool) (o : Option DriveAt) (a : DriveAt) → a.state.store.objects ≡ [] → DriveLanes S before d o
        → DriveLanes S (before ++ l ∷ []) d (if b then Some a else o)
    made_left true o a none s = no_objects (before ++ l ∷ []) d a none
    made_left false o a none s = same_drives before (l ∷ []) d o o refl s

    event_left : (o : Option DriveAt) (e : Event) → DriveLanes S before d o
        → DriveLanes S (before ++ l ∷ []) d (drive_after_event d o e)
    event_left o (event.Drive k key capacity) s = made_left (k == d) o (made_drive k key capacity false) refl s
    event_left o (event.Disk k key capacity) s = made_left (k == d) o (made_drive k key capacity true) refl s
    event_left o (event.Least k format) s = where_left (k == d) _ o (λ a. refl) s
    event_left o (event.Clock (machine.Drive k) time) s = where_left (k == d) _ o (λ a. refl) s
    event_left o (event.Clock machine.Server time) s = same_drives before (l ∷ []) d o o refl s
    event_left o (event.Fail k) s = fallen_left (k == d) _ o (λ a. refl) s
    event_left o (event.Crash (machine.Drive k)) s = where_left (k == d) _ o (λ a. refl) s
    event_left o (event.Crash machine.Server) s = same_drives before (l ∷ []) d o o refl s
    event_left o (event.Reopen (machine.Drive k)) s = where_left (k == d) _ o (λ a. refl) s
    event_left o (event.Reopen machine.Server) s = same_drives before (l ∷ []) d o o refl s
    event_left o e s = same_drives before (l ∷ []) d o o refl s

  -- ---- a message that no drive judges

  deaf_line : (before : List Line) (n : ℕ) (l : Line) (m : Sent) → slice_get (sent_in before) n ≡ Some m
      → ((d : ℕ) → drive_after_line d (drive_seen d before) l
      ≡ hears_sent d (drive_after before d) (slice_get (drive_seen d before).sent n))
      → ((d : ℕ) (a : DriveAt) → m.to ≡ party.Drive d → drive_after before d ≡ Some a → is_deaf a ≡ true)
      → ((d : ℕ) → DriveLanes S before d (drive_after before d)) → (d : ℕ)
      → DriveLanes S (before ++ l ∷ []) d (drive_after (before ++ l ∷ []) d)
  unfolding sent_in
  deaf_line before n l m there hears deaf s d =
      same_drives before (l ∷ []) d (drive_after before d) _
      (drive_line before l d ∙ hears d
      ∙ ap (λ (ss : List Sent). hears_sent d (drive_after before d) (slice_get ss n)) (sent_same d _ before)
      ∙ ap (hears_sent d (drive_after before d)) there ∙ unheard d (drive_after before d) m (deaf d)) (s d)

  -- ---- each line

  line_left : (before : List Line) (l : Line) → JudgesAt before l → SourceAt S before l
      → ((d : ℕ) → DriveLanes S before d (drive_after before d)) → (d : ℕ)
      → DriveLanes S (before ++ l ∷ []) d (drive_after (before ++ l ∷ []) d)
  line_left before (line.Event e) says source s d =
      subst (DriveLanes S (before ++ line.Event e ∷ []) d) (sym (drive_line before (line.Event e) d))
      (event_left before (line.Event e) d (drive_after before d) e (s d))
  line_left before (line.Delivered n (delivery.Judged v)) says source s d =
      judged_line before _ says.tells.0 says.message.bytes v says.tells.2
      (λ c is read. delivered_source S before n v is source says.message says.tells.0 c says.sent says.tells.1 read) s d
  line_left before (line.Delivered n delivery.Deaf) says source s d =
      deaf_line before n _ says.message says.sent (λ k. refl) says.tells s d
  line_left before (line.Delivered n delivery.Taken) says source s d =
      deaf_line before n _ says.message says.sent (λ k. refl) says.tells s d
  line_left before (line.Judged k v) says source s d =
      judged_line before _ k (injected_in before k) v says
      (λ c is read. injected_source S before k v is source c read) s d
  line_left before l says source s d =
      same_drives before (l ∷ []) d (drive_after before d) _ (drive_line before l d) (s d)

  module _ (h : List Line) (holding : EachBehind HoldsAt [] h) (sources : AtEachLine (SourceAt S) h) where
    lines_left : (before lines : List Line) → h ≡ before ++ lines → EachBehind HoldsAt before lines
        → ((d : ℕ) → DriveLanes S before d (drive_after before d)) → (d : ℕ)
        → DriveLanes S (before ++ lines) d (drive_after (before ++ lines) d)
    lines_left before [] is holds s d =
        subst (λ (ls : List Line). DriveLanes S ls d (drive_after ls d)) (sym (append-nil before)) (s d)
    lines_left before (l ∷ lines) is holds s d =
        subst (λ (ls : List Line). DriveLanes S ls d (drive_after ls d)) (append_assoc before (l ∷ []) lines)
        (lines_left (before ++ l ∷ []) lines (is ∙ sym (append_assoc before (l ∷ []) lines)) holds.1
        (line_left before l (judges_of before l holds.0) (sources before l lines is) s) d)

    pub lanes_are_left : (d : ℕ) → DriveLanes S h d (drive_after h d)
    lanes_are_left d = lines_left [] h refl holding (λ k a is. absurd (cc is)) d
