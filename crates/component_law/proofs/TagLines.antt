-- The tag of each object of each drive, over all lines: a command of the server gave it.
use Rattle.std.proofs.Common.{◌≡◌, ◌==◌, ℕ, ◌+◌, ◌++◌, ◌∷◌, [], List, Bool, true, false, Option, Some, None, Result, Ok, Err, IsSome, slice_get, option_map, refl, sym, ap, subst, ◌∙◌, append_assoc, inl, inr, if◌then◌else◌}
use Rattle.std.proofs.lemmas.Bool.{cases_eq}
use Rattle.std.proofs.lemmas.List.{append-nil}
use Rattle.std.proofs.lemmas.Option.{same_Some}
use Rattle.osd_commands.specs.declared.actions.Action.{Action}
use Rattle.osd_commands.specs.declared.actions.Action.TheVariants as action
use Rattle.osd_commands.specs.declared.commands.Command.{Command}
use Rattle.osd_commands.specs.declared.commands.CommandErr.{CommandErr}
use Rattle.osd_commands.specs.Commands.{reading}
use Rattle.osd_objects.specs.declared.object.StoredObject.{StoredObject}
use Rattle.osd_objects.specs.Objects.{created, after_write, after_set_tag, after_set_attr}
use Rattle.osd_objects.specs.Store.{StoreState, object_at, changed_if_there}
use Rattle.osd_objects.proofs.Entries.{lookup_inserted, lookup_beside, lookup_set, lookup_set_beside}
use Rattle.osd_drive.specs.declared.verdict.Verdict.{Verdict}
use Rattle.osd_drive.specs.declared.verdict.Verdict.TheVariants as verdict
use Rattle.osd_drive.specs.State.{DriveState}
use Rattle.osd_drive.specs.Table.{is_create, has_no_right, first_fault}
use Rattle.osd_drive.proofs.Clear.{all_told}
use Rattle.osd_drive.specs.Effects.{lane_for, next_tag, effect_of, state_by}
use Rattle.scenario_text.specs.declared.event.Event.{Event}
use Rattle.scenario_text.specs.declared.event.Event.TheVariants as event
use Rattle.scenario_text.specs.declared.event.Machine.TheVariants as machine
use Rattle.scenario_text.specs.declared.line.Delivery.TheVariants as delivery
use Rattle.scenario_text.specs.declared.line.Verdict.{Verdict as ToldVerdict}
use Rattle.scenario_text.specs.declared.line.Verdict.TheVariants as told
use Rattle.scenario_text.specs.declared.line.Party.TheVariants as party
use Rattle.scenario_text.specs.declared.line.Line.{Line}
use Rattle.scenario_text.specs.declared.line.Line.TheVariants as line
use Rattle.world_history.specs.declared.messages.Sent.{Sent}
use Rattle.world_history.specs.State.{DriveAt}
use Rattle.world_history.specs.Told.{told_verdict}
use Rattle.world_history.specs.Drives.{verdict_on, judges, made_drive, is_deaf}
use Rattle.world_history.specs.Reading.{sent_in}
use Rattle.world_history.specs.ReadDrives.{drive_seen, drive_after, drive_after_event, drive_after_line, hears_sent}
use Rattle.world_history.proofs.DriveLines.{drive_line, unheard}
use Rattle.history_law.specs.Judging.{Judges, JudgesAt, injected_in}
use Rattle.history_law.specs.Safe.{AtEachLine}
use Rattle.history_law.proofs.Each.{EachBehind, HoldsAt, judges_of}
use Rattle.history_law.proofs.DriveLines.{sent_same}
use Rattle.history_law.proofs.Spending.{IsFree, free}
use Rattle.history_law.specs.Issued.{IssuedAt}
use Rattle.history_law.proofs.IssuedLaw.{source_of}
use Rattle.history_law.specs.Unforged.{AreUnforged, HasFairSource, InjectedAt}
use Rattle.history_law.proofs.Unforged.{unforged_front}
use Rattle.history_law.proofs.LaneLines.{SentTo, letters_stay}
use Rattle.history_law.proofs.Raising.{there_with}
use Rattle.component_law.specs.Origin.{GivesTag}
use Rattle.component_law.proofs.Rights.{GivesTags, servers_tag}

-- ---- whose tags they are

-- a command of the server gave the object this tag
pub record TagBy (h : List Line) (drive object tag : ℕ) : Type 0 where
  pub bytes : List ℕ
  pub sent : SentTo h drive bytes
  pub command : Command
  pub read : reading bytes ≡ Ok command
  pub object_is : command.object ≡ object
  pub gives : GivesTag command tag

abbrev pub DriveTags : List Line → (drive : ℕ) → Option DriveAt → Type 0
DriveTags h drive o =
    (a : DriveAt) → o ≡ Some a → (object : ℕ) (x : StoredObject) → object_at a.state.store object ≡ Some x
    → TagBy h drive object x.tag

-- ---- more lines

tag_more : (h lines : List Line) (drive object tag : ℕ) → TagBy h drive object tag
    → TagBy (h ++ lines) drive object tag
tag_more h lines drive object tag s = record {
  bytes = s.bytes;
  sent = record {
    message = s.sent.message;
    sent = letters_stay h lines s.sent.message s.sent.sent;
    sender = s.sent.sender;
    receiver = s.sent.receiver;
    bytes_are = s.sent.bytes_are;
  };
  command = s.command;
  read = s.read;
  object_is = s.object_is;
  gives = s.gives;
}

same_drives : (h lines : List Line) (drive : ℕ) (o p : Option DriveAt) → p ≡ o → DriveTags h drive o
    → DriveTags (h ++ lines) drive p
same_drives h lines drive o p same s a is object x there =
    tag_more h lines drive object x.tag (s a (sym same ∙ is) object x there)

-- a drive whose objects stay
same_objects : (h lines : List Line) (drive : ℕ) (a b : DriveAt) → b.state.store ≡ a.state.store
    → DriveTags h drive (Some a) → DriveTags (h ++ lines) drive (Some b)
same_objects h lines drive a b same s c is object x there =
    tag_more h lines drive object x.tag
    (s a refl object x
    (ap (λ z. object_at z object) (sym same) ∙ ap (λ (z : DriveAt). object_at z.state.store object) (same_Some b c is)
    ∙ there))

-- a drive whose objects are gone, or that has none yet
no_objects : (h : List Line) (drive : ℕ) (b : DriveAt) → b.state.store.objects ≡ [] → DriveTags h drive (Some b)
no_objects h drive b none c is object x there =
    absurd (nothing (object_at b.state.store object) (ap (λ es. look es object) none)
    (ap (λ (z : DriveAt). object_at z.state.store object) (same_Some b c is) ∙ there))
  where
    look : List (ℕ × StoredObject) → ℕ → Option StoredObject
    look es k = object_at (record { capacity = b.state.store.capacity; objects = es }) k

    nothing : (o : Option StoredObject) → o ≡ None → o ≡ Some x → ⊥
    nothing o n i = cc (sym n ∙ i)

-- ---- what a command leaves

-- an object behind a command that was performed: it has its tag as before, or the command gave it
data TagFrom (s : StoreState) (c : Command) (q : ℕ) (y : StoredObject) : Type 0 where
  Old : (x : StoredObject) → object_at s q ≡ Some x → y.tag ≡ x.tag → TagFrom s c q y
  Given : q ≡ c.object → GivesTag c y.tag → TagFrom s c q y

-- where the object is changed
data ChangeOf (s : StoreState) (k : ℕ) (f : StoredObject → StoredObject) (q : ℕ) (y : StoredObject) : Type 0 where
  Same : object_at s q ≡ Some y → ChangeOf s k f q y
  Changed : q ≡ k → (x : StoredObject) → object_at s k ≡ Some x → f x ≡ y → ChangeOf s k f q y

change_of : (s : StoreState) (k : ℕ) (f : StoredObject → StoredObject) (o : Option StoredObject) → object_at s k ≡ o
    → (q : ℕ) (y : StoredObject) → object_at (changed_if_there s k f o) q ≡ Some y → ChangeOf s k f q y
change_of s k f None none q y e = Same e
change_of s k f (Some z) there q y e = elim (cases_eq q k) [
  | inl same ↦
      Changed same z there
      (same_Some (f z) y
      (sym (lookup_set s.objects k (f z) (subst IsSome (sym there) refl))
      ∙ ap (object_at (changed_if_there s k f (Some z))) (sym same) ∙ e))
  | inr other ↦ Same (sym (lookup_set_beside s.objects k q (f z) other) ∙ e)
]

-- one that keeps its tag
kept_tag : (s : StoreState) (c : Command) (f : StoredObject → StoredObject)
    → ((x : StoredObject) → (f x).tag ≡ x.tag) → (q : ℕ) (y : StoredObject) → ChangeOf s c.object f q y
    → TagFrom s c q y
kept_tag s c f keeps q y (Same e) = Old y e refl
kept_tag s c f keeps q y (Changed same x there is) =
    Old x (ap (object_at s) same ∙ there) (ap (λ (z : StoredObject). z.tag) (sym is) ∙ keeps x)

created_tag : (s : StoreState) (c : Command) → c.action ≡ action.Create → (q : ℕ) (y : StoredObject)
    → object_at (effect_of action.Create s c) q ≡ Some y → TagFrom s c q y
created_tag s c is q y e = elim (cases_eq q c.object) [
  | inl same ↦
      let made : StoredObject = created c.capability.tag c.payload (lane_for c 0) in
      let it : made ≡ y =
      same_Some made y
      (sym (lookup_inserted s.objects c.object made) ∙ ap (object_at (effect_of action.Create s c)) (sym same) ∙ e) in
      Given same (inl (is, ap (λ (x : StoredObject). x.tag) (sym it)))
  | inr other ↦ Old y (sym (lookup_beside s.objects c.object q _ other) ∙ e) refl
]

set_tag : (d : DriveState) (c : Command) → c.action ≡ action.SetTag → IsFree d c → (q : ℕ) (y : StoredObject)
    → ChangeOf d.store c.object (after_set_tag (lane_for c (next_tag (object_at d.store c.object)))) q y
    → TagFrom d.store c q y
set_tag d c is f q y (Same e) = Old y e refl
set_tag d c is f q y (Changed same x there it) =
    let w = there_with c (object_at d.store c.object) (ap is_create is) f.there f.tag in
    let tag : x.tag ≡ c.capability.tag =
    ap (λ (z : StoredObject). z.tag) (same_Some x w.0 (sym there ∙ w.1)) ∙ w.2 in
    Given same (inr (is, ap (λ (z : StoredObject). z.tag) (sym it) ∙ ap (λ (n : ℕ). n + 1) tag))

tag_from : (a : Action) (d : DriveState) (c : Command) → c.action ≡ a → IsFree d c → (q : ℕ) (y : StoredObject)
    → object_at (effect_of a d.store c) q ≡ Some y → TagFrom d.store c q y
tag_from action.Create d c is f q y e = created_tag d.store c is q y e
tag_from action.Read d c is f q y e = Old y e refl
tag_from action.GetAttr d c is f q y e = Old y e refl
tag_from action.Write d c is f q y e =
    kept_tag d.store c (after_write c.offset c.payload (lane_for c 0)) (λ x. refl) q y
    (change_of d.store c.object _ (object_at d.store c.object) refl q y e)
tag_from action.SetAttr d c is f q y e =
    kept_tag d.store c (after_set_attr c.attribute c.payload (lane_for c 0)) (λ x. refl) q y
    (change_of d.store c.object _ (object_at d.store c.object) refl q y e)
tag_from action.SetTag d c is f q y e =
    set_tag d c is f q y (change_of d.store c.object _ (object_at d.store c.object) refl q y e)

-- ---- a drive judges bytes

gives_tags : (c : Command) (tag : ℕ) → GivesTag c tag → GivesTags c.action
gives_tags c tag (inl (is, t)) = inl is
gives_tags c tag (inr (is, t)) = inr is

module _ (before : List Line) (l : Line) (d : ℕ) (bytes : List ℕ) (v : ToldVerdict) (j : Judges before l d bytes v)
    (source : v ≡ told.Perform → HasFairSource before d bytes) (s : DriveTags before d (Some j.there)) where
  given_tag : (c : Command) → reading bytes ≡ Ok c → has_no_right c ≡ false → HasFairSource before d bytes → (q : ℕ)
      (y : StoredObject) → TagFrom j.there.state.store c q y → TagBy before d q y.tag
  given_tag c read allowed from q y (Old x there same) =
      subst (TagBy before d q) (sym same) (s j.there refl q x there)
  given_tag c read allowed from q y (Given same gives) = record {
    bytes = bytes;
    sent = servers_tag before d bytes from c read allowed (gives_tags c y.tag gives);
    command = c;
    read = read;
    object_is = sym same;
    gives = gives;
  }

  performed_tags : (c : Command) → reading bytes ≡ Ok c → (w : Verdict)
      → first_fault j.there.state j.there.clock c ≡ w
      → DriveTags (before ++ l ∷ []) d (Some (record j.there { state = state_by w j.there.state c }))
  performed_tags c read verdict.Perform clear = λ a is object x there.
      tag_more before (l ∷ []) d object x.tag
      (given_tag c read allowed (source performs) object x
      (tag_from c.action j.there.state c refl (free j.there.state j.there.clock c clear) object x
      (ap (λ (z : DriveAt). object_at z.state.store object) (same_Some _ a is) ∙ there)))
    where
      performs : v ≡ told.Perform
      performs =
          j.verdict ∙ ap (λ (r : Result Command CommandErr). verdict_on j.there.state j.there.clock r) read
          ∙ ap told_verdict clear

      allowed : has_no_right c ≡ false
      allowed = ((all_told j.there.state j.there.clock c).0 clear).1.1.1.1.0
  performed_tags c read w clear = same_objects before (l ∷ []) d j.there _ refl s

  judged_tags : (r : Result Command CommandErr) → reading bytes ≡ r
      → DriveTags (before ++ l ∷ []) d (Some (judges j.there r).drive)
  unfolding judges
  judged_tags (Ok c) read = performed_tags c read (first_fault j.there.state j.there.clock c) refl
  judged_tags (Err e) read = same_objects before (l ∷ []) d j.there _ refl s

-- of each drive behind a line at which one judged
judged_line : (before : List Line) (l : Line) (k : ℕ) (bytes : List ℕ) (v : ToldVerdict) → Judges before l k bytes v
    → (v ≡ told.Perform → HasFairSource before k bytes)
    → ((d : ℕ) → DriveTags before d (drive_after before d)) → (d : ℕ)
    → DriveTags (before ++ l ∷ []) d (drive_after (before ++ l ∷ []) d)
judged_line before l k bytes v j source s d = elim (cases_eq d k) [
  | inl same ↦
      subst (λ (n : ℕ). DriveTags (before ++ l ∷ []) n (drive_after (before ++ l ∷ []) n)) (sym same)
      (subst (DriveTags (before ++ l ∷ []) k) (sym j.becomes)
      (judged_tags before l k bytes v j source (subst (DriveTags before k) j.stands (s k)) (reading bytes) refl))
  | inr other ↦ same_drives before (l ∷ []) d (drive_after before d) _ (j.others d other) (s d)
]

-- ---- an event

module _ (before : List Line) (l : Line) (d : ℕ) where
  mapped_tags : (f : DriveAt → DriveAt) (o : Option DriveAt) → ((a : DriveAt) → (f a).state.store ≡ a.state.store)
      → DriveTags before d o → DriveTags (before ++ l ∷ []) d (option_map f o)
  mapped_tags f None same s = λ a is. absurd (cc is)
  mapped_tags f (Some x) same s = same_objects before (l ∷ []) d x (f x) (same x) s

  where_tags : (b : Bool) (f : DriveAt → DriveAt) (o : Option DriveAt) → ((a : DriveAt)
      → (f a).state.store ≡ a.state.store)
      → DriveTags before d o → DriveTags (before ++ l ∷ []) d (if b then option_map f o else o)
  where_tags true f o same s = mapped_tags f o same s
  where_tags false f o same s = same_drives before (l ∷ []) d o o refl s

  fallen_tags : (b : Bool) (f : DriveAt → DriveAt) (o : Option DriveAt) → ((a : DriveAt)
      → (f a).state.store.objects ≡ [])
      → DriveTags before d o → DriveTags (before ++ l ∷ []) d (if b then option_map f o else o)
  fallen_tags true f None gone s = λ a is. absurd (cc is)
  fallen_tags true f (Some x) gone s = no_objects (before ++ l ∷ []) d (f x) (gone x)
  fallen_tags false f o gone s = same_drives before (l ∷ []) d o o refl s

  made_tags : (b : Bool) (o : Option DriveAt) (a : DriveAt) → a.state.store.objects ≡ [] → DriveTags before d o
      → DriveTags (before ++ l ∷ []) d (if b then Some a else o)
  made_tags true o a none s = no_objects (before ++ l ∷ []) d a none
  made_tags false o a none s = same_drives before (l ∷ []) d o o refl s

  event_tags : (o : Option DriveAt) (e : Event) → DriveTags before d o
      → DriveTags (before ++ l ∷ []) d (drive_after_event d o e)
  event_tags o (event.Drive k key capacity) s = made_tags (k == d) o (made_drive k key capacity false) refl s
  event_tags o (event.Disk k key capacity) s = made_tags (k == d) o (made_drive k key capacity true) refl s
  event_tags o (event.Least k format) s = where_tags (k == d) _ o (λ a. refl) s
  event_tags o (event.Clock (machine.Drive k) time) s = where_tags (k == d) _ o (λ a. refl) s
  event_tags o (event.Clock machine.Server time) s = same_drives before (l ∷ []) d o o refl s
  event_tags o (event.Fail k) s = fallen_tags (k == d) _ o (λ a. refl) s
  event_tags o (event.Crash (machine.Drive k)) s = where_tags (k == d) _ o (λ a. refl) s
  event_tags o (event.Crash machine.Server) s = same_drives before (l ∷ []) d o o refl s
  event_tags o (event.Reopen (machine.Drive k)) s = where_tags (k == d) _ o (λ a. refl) s
  event_tags o (event.Reopen machine.Server) s = same_drives before (l ∷ []) d o o refl s
  event_tags o e s = same_drives before (l ∷ []) d o o refl s

-- ---- a message that no drive judges

deaf_line : (before : List Line) (n : ℕ) (l : Line) (m : Sent) → slice_get (sent_in before) n ≡ Some m
    → ((d : ℕ) → drive_after_line d (drive_seen d before) l
    ≡ hears_sent d (drive_after before d) (slice_get (drive_seen d before).sent n))
    → ((d : ℕ) (a : DriveAt) → m.to ≡ party.Drive d → drive_after before d ≡ Some a → is_deaf a ≡ true)
    → ((d : ℕ) → DriveTags before d (drive_after before d)) → (d : ℕ)
    → DriveTags (before ++ l ∷ []) d (drive_after (before ++ l ∷ []) d)
unfolding sent_in
deaf_line before n l m there hears deaf s d =
    same_drives before (l ∷ []) d (drive_after before d) _
    (drive_line before l d ∙ hears d
    ∙ ap (λ (ss : List Sent). hears_sent d (drive_after before d) (slice_get ss n)) (sent_same d _ before)
    ∙ ap (hears_sent d (drive_after before d)) there ∙ unheard d (drive_after before d) m (deaf d)) (s d)

-- ---- each line

delivered_from : (before : List Line) (n : ℕ) (x : ToldVerdict) → x ≡ told.Perform
    → IssuedAt before (line.Delivered n (delivery.Judged x))
    → IssuedAt before (line.Delivered n (delivery.Judged told.Perform))
delivered_from before n x is i =
    subst (λ (y : ToldVerdict). IssuedAt before (line.Delivered n (delivery.Judged y))) is i

injected_from : (before : List Line) (k : ℕ) (x : ToldVerdict) → x ≡ told.Perform → InjectedAt before (line.Judged k x)
    → InjectedAt before (line.Judged k told.Perform)
injected_from before k x is i = subst (λ (y : ToldVerdict). InjectedAt before (line.Judged k y)) is i

line_tags : (before : List Line) (l : Line) → AreUnforged before → JudgesAt before l → IssuedAt before l
    → InjectedAt before l → ((d : ℕ) → DriveTags before d (drive_after before d)) → (d : ℕ)
    → DriveTags (before ++ l ∷ []) d (drive_after (before ++ l ∷ []) d)
line_tags before (line.Event e) fair says issued injected s d =
    subst (DriveTags (before ++ line.Event e ∷ []) d) (sym (drive_line before (line.Event e) d))
    (event_tags before (line.Event e) d (drive_after before d) e (s d))
line_tags before (line.Delivered n (delivery.Judged v)) fair says issued injected s d =
    judged_line before _ says.tells.0 says.message.bytes v says.tells.2
    (λ is. inl (source_of before says.message.from says.tells.0 says.message.bytes
    (delivered_from before n v is issued says.message says.tells.0 says.sent says.tells.1))) s d
line_tags before (line.Delivered n delivery.Deaf) fair says issued injected s d =
    deaf_line before n _ says.message says.sent (λ k. refl) says.tells s d
line_tags before (line.Delivered n delivery.Taken) fair says issued injected s d =
    deaf_line before n _ says.message says.sent (λ k. refl) says.tells s d
line_tags before (line.Judged k v) fair says issued injected s d =
    judged_line before _ k (injected_in before k) v says (λ is. injected_from before k v is injected fair) s d
line_tags before l fair says issued injected s d =
    same_drives before (l ∷ []) d (drive_after before d) _ (drive_line before l d) (s d)

module _ (h : List Line) (fair : AreUnforged h) (issued : AtEachLine IssuedAt h) (injected : AtEachLine InjectedAt h) where
  lines_tags : (before lines : List Line) → h ≡ before ++ lines → EachBehind HoldsAt before lines
      → ((d : ℕ) → DriveTags before d (drive_after before d)) → (d : ℕ)
      → DriveTags (before ++ lines) d (drive_after (before ++ lines) d)
  lines_tags before [] is holds s d =
      subst (λ (ls : List Line). DriveTags ls d (drive_after ls d)) (sym (append-nil before)) (s d)
  lines_tags before (l ∷ lines) is holds s d =
      subst (λ (ls : List Line). DriveTags ls d (drive_after ls d)) (append_assoc before (l ∷ []) lines)
      (lines_tags (before ++ l ∷ []) lines (is ∙ sym (append_assoc before (l ∷ []) lines)) holds.1
      (line_tags before l (unforged_front before (l ∷ lines) (subst AreUnforged is fair)) (judges_of before l holds.0)
      (issued before l lines is) (injected before l lines is) s) d)

  pub tags_are_given : EachBehind HoldsAt [] h → (d : ℕ) → DriveTags h d (drive_after h d)
  tags_are_given holds d = lines_tags [] h refl holds (λ k a is. absurd (cc is)) d
