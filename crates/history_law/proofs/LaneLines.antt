-- Each lane of the server's holder tells of a command that the server sent: of its nonce, and where that was a SET
-- TAG, the object has a later tag.
use Rattle.std.proofs.Common.{◌≡◌, ◌==◌, ℕ, ◌≤◌, ◌<◌, ◌++◌, ◌∷◌, [], List, Bool, true, false, Option, Some, None, Result, Ok, Err, map, slice_get, slice_set, option_map, refl, sym, ap, subst, ◌∙◌, append_assoc, arith, zero, suc, inl, inr, if◌then◌else◌}
use Rattle.std.proofs.lemmas.Bool.{cases_eq}
use Rattle.std.proofs.lemmas.List.{append-nil}
use Rattle.std.proofs.lemmas.List.Sums.{fold-append}
use Rattle.std.proofs.lemmas.Option.{same_Some}
use Rattle.osd_commands.specs.declared.actions.Action.TheVariants.{SetTag}
use Rattle.osd_commands.specs.declared.commands.Command.{Command}
use Rattle.osd_commands.specs.declared.commands.CommandErr.{CommandErr}
use Rattle.osd_commands.specs.Commands.{reading}
use Rattle.osd_objects.specs.declared.lanes.LaneEntry.{LaneEntry}
use Rattle.osd_objects.specs.declared.object.StoredObject.{StoredObject}
use Rattle.osd_objects.specs.Lanes.{lane_of}
use Rattle.osd_objects.specs.Store.{object_at}
use Rattle.osd_drive.specs.declared.verdict.Verdict.{Verdict}
use Rattle.osd_drive.specs.declared.verdict.Verdict.TheVariants as verdict
use Rattle.osd_drive.specs.Table.{first_fault}
use Rattle.osd_drive.specs.Effects.{state_by}
use Rattle.server_rules.specs.declared.limits.TheConstants.{SERVER_HOLDER}
use Rattle.server_rules.specs.Laws.{In}
use Rattle.server_rules.proofs.Members.{in_front, in_map}
use Rattle.scenario_text.specs.declared.event.Event.{Event}
use Rattle.scenario_text.specs.declared.event.Event.TheVariants as event
use Rattle.scenario_text.specs.declared.event.Machine.TheVariants as machine
use Rattle.scenario_text.specs.declared.line.Delivery.TheVariants as delivery
use Rattle.scenario_text.specs.declared.line.Verdict.{Verdict as ToldVerdict}
use Rattle.scenario_text.specs.declared.line.Verdict.TheVariants as told
use Rattle.scenario_text.specs.declared.line.Party.TheVariants as party
use Rattle.scenario_text.specs.declared.line.Line.{Line}
use Rattle.scenario_text.specs.declared.line.Line.TheVariants as line
use Rattle.world_history.specs.declared.messages.Sent.{Sent}
use Rattle.world_history.specs.State.{DriveAt}
use Rattle.world_history.specs.Told.{told_verdict}
use Rattle.world_history.specs.Drives.{verdict_on, judges, made_drive, is_deaf}
use Rattle.world_history.specs.Reading.{arrived, left_out, changed_by, sent_after_event, sent_after, sent_in}
use Rattle.world_history.specs.ReadDrives.{DriveSeen, sees_drive, drive_seen, drive_after, drive_after_event, drive_after_line, hears_sent}
use Rattle.world_history.proofs.DriveLines.{unheard}
use Rattle.history_law.specs.Judging.{Judges, JudgesAt, injected_in}
use Rattle.history_law.proofs.Spending.{free}
use Rattle.history_law.proofs.Each.{EachBehind, HoldsAt, judges_of}
use Rattle.history_law.proofs.DriveLines.{sent_same}
use Rattle.history_law.proofs.Coming.{sent_behind}
use Rattle.history_law.specs.Reaching.{ServerSent, OwnAt}
use Rattle.history_law.proofs.Raising.{LaneFrom, Old, New, lane_from}

-- ---- letters: messages without their marks

abbrev pub letter : Sent → Sent
letter s = record s { delivered = false; dropped = false }

abbrev pub letters : List Sent → List Sent
letters ss = map letter ss

letters_set : (ss : List Sent) (n : ℕ) (s t : Sent) → slice_get ss n ≡ Some s → letter t ≡ letter s
    → letters (slice_set ss n t) ≡ letters ss
letters_set [] n s t there same = refl
letters_set (x ∷ ss) zero s t there same =
    ap (λ (y : Sent). y ∷ letters ss) (same ∙ ap letter (sym (same_Some x s there)))
letters_set (x ∷ ss) (suc n) s t there same = ap (λ (ys : List Sent). letter x ∷ ys) (letters_set ss n s t there same)

pub letters_changed : (ss : List Sent) (n : ℕ) (change : Sent → Sent) (o : Option Sent) → ((s : Sent)
    → letter (change s) ≡ letter s)
    → slice_get ss n ≡ o → letters (changed_by ss n change o) ≡ letters ss
letters_changed ss n change None same there = refl
letters_changed ss n change (Some s) same there = letters_set ss n s (change s) there (same s)

pub letters_event : (ss : List Sent) (e : Event) → letters (sent_after_event ss e) ≡ letters ss
letters_event ss (event.DropMessage n) = letters_changed ss n left_out (slice_get ss n) (λ s. refl) refl
letters_event ss e = refl

pub map_append : (xs ys : List Sent) → letters (xs ++ ys) ≡ letters xs ++ letters ys
map_append [] ys = refl
map_append (x ∷ xs) ys = ap (λ (zs : List Sent). letter x ∷ zs) (map_append xs ys)

-- no letter is lost
letter_stays : (ss : List Sent) (l : Line) (x : Sent) → In x (letters ss) → In x (letters (sent_after ss l))
letter_stays ss (line.Event e) x i = subst (In x) (sym (letters_event ss e)) i
letter_stays ss (line.Message n from to bytes) x i =
    subst (In x) (sym (map_append ss _)) (in_front x (letters ss) _ i)
letter_stays ss (line.Delivered n del) x i =
    subst (In x) (sym (letters_changed ss n arrived (slice_get ss n) (λ s. refl) refl)) i
letter_stays ss l x i = i

letter_behind : (before : List Line) (l : Line) (x : Sent) → In x (letters (sent_in before))
    → In x (letters (sent_in (before ++ l ∷ [])))
letter_behind before l x i =
    subst (λ (ss : List Sent). In x (letters ss)) (sym (sent_behind before l)) (letter_stays (sent_in before) l x i)

pub letters_stay : (before lines : List Line) (x : Sent) → In x (letters (sent_in before))
    → In x (letters (sent_in (before ++ lines)))
letters_stay before [] x i = subst (λ (h : List Line). In x (letters (sent_in h))) (sym (append-nil before)) i
letters_stay before (l ∷ lines) x i =
    subst (λ (h : List Line). In x (letters (sent_in h))) (append_assoc before (l ∷ []) lines)
    (letters_stay (before ++ l ∷ []) lines x (letter_behind before l x i))

-- the server sent these bytes to the drive
pub record SentTo (h : List Line) (drive : ℕ) (bytes : List ℕ) : Type 0 where
  pub message : Sent
  pub sent : In message (letters (sent_in h))
  pub sender : message.from ≡ party.Server
  pub receiver : message.to ≡ party.Drive drive
  pub bytes_are : message.bytes ≡ bytes

pub in_get : (ss : List Sent) (n : ℕ) (m : Sent) → slice_get ss n ≡ Some m → In m ss
in_get [] n m e = absurd (cc e)
in_get (x ∷ ss) zero m e = inl (sym (same_Some x m e))
in_get (x ∷ ss) (suc n) m e = inr (in_get ss n m e)

sent_to : (h : List Line) (drive : ℕ) (bytes : List ℕ) → ServerSent h drive bytes → SentTo h drive bytes
sent_to h drive bytes (n, m, there, from, to, is) = record {
  message = letter m;
  sent = in_map letter m (sent_in h) (in_get (sent_in h) n m there);
  sender = from;
  receiver = to;
  bytes_are = is;
}

-- ---- lanes of the server

-- it was a command of the server for this object, with this nonce; where it was a SET TAG, the tag is a later one
pub record IsServers (h : List Line) (drive object tag nonce : ℕ) : Type 0 where
  pub bytes : List ℕ
  pub command : Command
  pub sent : SentTo h drive bytes
  pub read : reading bytes ≡ Ok command
  pub object_is : command.object ≡ object
  pub nonce_is : command.nonce ≡ nonce
  pub raised : command.action ≡ SetTag → command.capability.tag < tag

-- so is each lane of the server's holder
abbrev pub AreServers : List Line → (drive : ℕ) → Option DriveAt → Type 0
AreServers h drive o =
    (a : DriveAt) → o ≡ Some a → (object : ℕ) (x : StoredObject) (l : LaneEntry)
    → object_at a.state.store object ≡ Some x
    → lane_of x.lanes SERVER_HOLDER ≡ Some l → IsServers h drive object x.tag l.nonce

servers_more : (h lines : List Line) (drive object tag later nonce : ℕ) → tag ≤ later
    → IsServers h drive object tag nonce
    → IsServers (h ++ lines) drive object later nonce
servers_more h lines drive object tag later nonce le s = record {
  bytes = s.bytes;
  command = s.command;
  sent = record {
    message = s.sent.message;
    sent = letters_stay h lines s.sent.message s.sent.sent;
    sender = s.sent.sender;
    receiver = s.sent.receiver;
    bytes_are = s.sent.bytes_are;
  };
  read = s.read;
  object_is = s.object_is;
  nonce_is = s.nonce_is;
  raised = λ e. omega (arith, le, s.raised e);
}

same_drives : (h lines : List Line) (drive : ℕ) (o p : Option DriveAt) → p ≡ o → AreServers h drive o
    → AreServers (h ++ lines) drive p
same_drives h lines drive o p same s a is object x l there e =
    servers_more h lines drive object x.tag x.tag l.nonce (omega arith) (s a (sym same ∙ is) object x l there e)

-- a drive whose objects stay
same_objects : (h lines : List Line) (drive : ℕ) (a b : DriveAt) → b.state.store ≡ a.state.store
    → AreServers h drive (Some a)
    → AreServers (h ++ lines) drive (Some b)
same_objects h lines drive a b same s c is object x l there e =
    servers_more h lines drive object x.tag x.tag l.nonce (omega arith)
    (s a refl object x l
    (ap (λ z. object_at z object) (sym same) ∙ ap (λ (z : DriveAt). object_at z.state.store object) (same_Some b c
    is) ∙ there) e)

-- a drive whose objects are gone, or that has none yet
no_objects : (h : List Line) (drive : ℕ) (b : DriveAt) → b.state.store.objects ≡ [] → AreServers h drive (Some b)
no_objects h drive b none c is object x l there e =
    absurd (nothing (object_at b.state.store object) (ap (λ es. look es object) none)
    (ap (λ (z : DriveAt). object_at z.state.store object) (same_Some b c is) ∙ there))
  where
    look : List (ℕ × StoredObject) → ℕ → Option StoredObject
    look es k = object_at (record { capacity = b.state.store.capacity; objects = es }) k

    nothing : (o : Option StoredObject) → o ≡ None → o ≡ Some x → ⊥
    nothing o n i = cc (sym n ∙ i)

-- ---- a drive judges bytes

module _ (before : List Line) (l : Line) (d : ℕ) (bytes : List ℕ) (v : ToldVerdict) (j : Judges before l d bytes v)
    (own : (c : Command) → v ≡ told.Perform → reading bytes ≡ Ok c
    → c.capability.holder ≡ SERVER_HOLDER → ServerSent before d bytes)
    (s : AreServers before d (Some j.there)) where
  performed_servers : (c : Command) → reading bytes ≡ Ok c → (w : Verdict)
      → first_fault j.there.state j.there.clock c ≡ w
      → AreServers (before ++ l ∷ []) d (Some (record j.there { state = state_by w j.there.state c }))
  performed_servers c read verdict.Perform clear = λ a is object x lane there e.
      elim_from object x lane (lane_from c.action j.there.state c refl (free j.there.state j.there.clock c clear)
      object SERVER_HOLDER x lane
      (ap (λ (z : DriveAt). object_at z.state.store object) (same_Some _ a is) ∙ there) e)
    where
      performs : v ≡ told.Perform
      performs =
          j.verdict ∙ ap (λ (r : Result Command CommandErr). verdict_on j.there.state j.there.clock r) read
          ∙ ap told_verdict clear

      sent : c.capability.holder ≡ SERVER_HOLDER → SentTo before d bytes
      sent holder =
          sent_to before d bytes (own c performs read holder)

      elim_from : (object : ℕ) (x : StoredObject) (lane : LaneEntry)
          → LaneFrom j.there.state.store c object SERVER_HOLDER x lane
          → IsServers (before ++ l ∷ []) d object x.tag lane.nonce
      elim_from object x lane (Old y found is_lane le) =
          servers_more before (l ∷ []) d object y.tag x.tag lane.nonce le (s j.there refl object y lane found is_lane)
      elim_from object x lane (New same holder nonce raised) =
          servers_more before (l ∷ []) d object x.tag x.tag lane.nonce (omega arith) (record {
            bytes = bytes;
            command = c;
            sent = sent holder;
            read = read;
            object_is = sym same;
            nonce_is = sym nonce;
            raised = raised;
          })
  performed_servers c read w clear = same_objects before (l ∷ []) d j.there _ refl s

  judged_servers : (r : Result Command CommandErr) → reading bytes ≡ r
      → AreServers (before ++ l ∷ []) d (Some (judges j.there r).drive)
  unfolding judges
  judged_servers (Ok c) read = performed_servers c read (first_fault j.there.state j.there.clock c) refl
  judged_servers (Err e) read = same_objects before (l ∷ []) d j.there _ refl s

-- of each drive behind a line at which one judged
judged_line : (before : List Line) (l : Line) (k : ℕ) (bytes : List ℕ) (v : ToldVerdict) → Judges before l k bytes v
    → ((c : Command) → v ≡ told.Perform → reading bytes ≡ Ok c
    → c.capability.holder ≡ SERVER_HOLDER → ServerSent before k bytes)
    → ((d : ℕ) → AreServers before d (drive_after before d)) → (d : ℕ)
    → AreServers (before ++ l ∷ []) d (drive_after (before ++ l ∷ []) d)
judged_line before l k bytes v j own s d = elim (cases_eq d k) [
  | inl same ↦
      subst (λ (n : ℕ). AreServers (before ++ l ∷ []) n (drive_after (before ++ l ∷ []) n)) (sym same)
      (subst (AreServers (before ++ l ∷ []) k) (sym j.becomes)
      (judged_servers before l k bytes v j own (subst (AreServers before k) j.stands (s k)) (reading bytes) refl))
  | inr other ↦ same_drives before (l ∷ []) d (drive_after before d) _ (j.others d other) (s d)
]

-- ---- an event

drive_line : (before : List Line) (l : Line) (d : ℕ)
    → drive_after (before ++ l ∷ []) d ≡ drive_after_line d (drive_seen d before) l
drive_line before l d = ap (λ (x : DriveSeen). x.drive) (fold-append (sees_drive d) _ before (l ∷ []))

module _ (before : List Line) (l : Line) (d : ℕ) where
  mapped_servers : (f : DriveAt → DriveAt) (o : Option DriveAt) → ((a : DriveAt) → (f a).state.store ≡ a.state.store)
      → AreServers before d o → AreServers (before ++ l ∷ []) d (option_map f o)
  mapped_servers f None same s = λ a is. absurd (cc is)
  mapped_servers f (Some x) same s = same_objects before (l ∷ []) d x (f x) (same x) s

  where_servers : (b : Bool) (f : DriveAt → DriveAt) (o : Option DriveAt) → ((a : DriveAt)
      → (f a).state.store ≡ a.state.store)
      → AreServers before d o → AreServers (before ++ l ∷ []) d (if b then option_map f o else o)
  where_servers true f o same s = mapped_servers f o same s
  where_servers false f o same s = same_drives before (l ∷ []) d o o refl s

  fallen_servers : (b : Bool) (f : DriveAt → DriveAt) (o : Option DriveAt) → ((a : DriveAt)
      → (f a).state.store.objects ≡ [])
      → AreServers before d o → AreServers (before ++ l ∷ []) d (if b then option_map f o else o)
  fallen_servers true f None gone s = λ a is. absurd (cc is)
  fallen_servers true f (Some x) gone s = no_objects (before ++ l ∷ []) d (f x) (gone x)
  fallen_servers false f o gone s = same_drives before (l ∷ []) d o o refl s

  made_servers : (b : Bool) (o : Option DriveAt) (a : DriveAt) → a.state.store.objects ≡ [] → AreServers before d o
      → AreServers (before ++ l ∷ []) d (if b then Some a else o)
  made_servers true o a none s = no_objects (before ++ l ∷ []) d a none
  made_servers false o a none s = same_drives before (l ∷ []) d o o refl s

  event_servers : (o : Option DriveAt) (e : Event) → AreServers before d o
      → AreServers (before ++ l ∷ []) d (drive_after_event d o e)
  event_servers o (event.Drive k key capacity) s = made_servers (k == d) o (made_drive k key capacity false) refl s
  event_servers o (event.Disk k key capacity) s = made_servers (k == d) o (made_drive k key capacity true) refl s
  event_servers o (event.Least k format) s = where_servers (k == d) _ o (λ a. refl) s
  event_servers o (event.Clock (machine.Drive k) time) s = where_servers (k == d) _ o (λ a. refl) s
  event_servers o (event.Clock machine.Server time) s = same_drives before (l ∷ []) d o o refl s
  event_servers o (event.Fail k) s = fallen_servers (k == d) _ o (λ a. refl) s
  event_servers o (event.Crash (machine.Drive k)) s = where_servers (k == d) _ o (λ a. refl) s
  event_servers o (event.Crash machine.Server) s = same_drives before (l ∷ []) d o o refl s
  event_servers o (event.Reopen (machine.Drive k)) s = where_servers (k == d) _ o (λ a. refl) s
  event_servers o (event.Reopen machine.Server) s = same_drives before (l ∷ []) d o o refl s
  event_servers o e s = same_drives before (l ∷ []) d o o refl s

-- ---- a message that no drive judges

deaf_line : (before : List Line) (n : ℕ) (l : Line) (m : Sent) → slice_get (sent_in before) n ≡ Some m
    → ((d : ℕ) → drive_after_line d (drive_seen d before) l
    ≡ hears_sent d (drive_after before d) (slice_get (drive_seen d before).sent n))
    → ((d : ℕ) (a : DriveAt) → m.to ≡ party.Drive d → drive_after before d ≡ Some a → is_deaf a ≡ true)
    → ((d : ℕ) → AreServers before d (drive_after before d)) → (d : ℕ)
    → AreServers (before ++ l ∷ []) d (drive_after (before ++ l ∷ []) d)
unfolding sent_in
deaf_line before n l m there hears deaf s d =
    same_drives before (l ∷ []) d (drive_after before d) _
    (drive_line before l d ∙ hears d
    ∙ ap (λ (ss : List Sent). hears_sent d (drive_after before d) (slice_get ss n)) (sent_same d _ before)
    ∙ ap (hears_sent d (drive_after before d)) there ∙ unheard d (drive_after before d) m (deaf d)) (s d)

-- ---- each line

line_servers : (before : List Line) (l : Line) → JudgesAt before l → OwnAt before l
    → ((d : ℕ) → AreServers before d (drive_after before d)) → (d : ℕ)
    → AreServers (before ++ l ∷ []) d (drive_after (before ++ l ∷ []) d)
line_servers before (line.Event e) says own s d =
    subst (AreServers (before ++ line.Event e ∷ []) d) (sym (drive_line before (line.Event e) d))
    (event_servers before (line.Event e) d (drive_after before d) e (s d))
line_servers before (line.Delivered n (delivery.Judged v)) says own s d =
    judged_line before _ says.tells.0 says.message.bytes v says.tells.2
    (λ c is read holder. delivered_own v is own says.message says.tells.0 c says.sent says.tells.1 read holder) s d
  where
    delivered_own : (x : ToldVerdict) → x ≡ told.Perform → OwnAt before (line.Delivered n (delivery.Judged x))
        → OwnAt before (line.Delivered n (delivery.Judged told.Perform))
    delivered_own x is o = subst (λ (y : ToldVerdict). OwnAt before (line.Delivered n (delivery.Judged y))) is o
line_servers before (line.Delivered n delivery.Deaf) says own s d =
    deaf_line before n _ says.message says.sent (λ k. refl) says.tells s d
line_servers before (line.Delivered n delivery.Taken) says own s d =
    deaf_line before n _ says.message says.sent (λ k. refl) says.tells s d
line_servers before (line.Judged k v) says own s d =
    judged_line before _ k (injected_in before k) v says
    (λ c is read holder. injected_own v is own c read holder) s d
  where
    injected_own : (x : ToldVerdict) → x ≡ told.Perform → OwnAt before (line.Judged k x)
        → OwnAt before (line.Judged k told.Perform)
    injected_own x is o = subst (λ (y : ToldVerdict). OwnAt before (line.Judged k y)) is o
line_servers before l says own s d =
    same_drives before (l ∷ []) d (drive_after before d) _ (drive_line before l d) (s d)

lines_servers : (before lines : List Line) → EachBehind HoldsAt before lines → EachBehind OwnAt before lines
    → ((d : ℕ) → AreServers before d (drive_after before d)) → (d : ℕ)
    → AreServers (before ++ lines) d (drive_after (before ++ lines) d)
lines_servers before [] holds own s d =
    subst (λ (h : List Line). AreServers h d (drive_after h d)) (sym (append-nil before)) (s d)
lines_servers before (l ∷ lines) holds own s d =
    subst (λ (h : List Line). AreServers h d (drive_after h d)) (append_assoc before (l ∷ []) lines)
    (lines_servers (before ++ l ∷ []) lines holds.1 own.1
    (line_servers before l (judges_of before l holds.0) own.0 s) d)

pub lanes_are_servers : (h : List Line) → EachBehind HoldsAt [] h → EachBehind OwnAt [] h → (d : ℕ)
    → AreServers h d (drive_after h d)
lanes_are_servers h holds own d = lines_servers [] h holds own (λ k a is. absurd (cc is)) d
