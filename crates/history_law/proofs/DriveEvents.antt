-- The drives are read off every history, and of each line it is told what it may do.
use Rattle.std.proofs.Common.{◌≡◌, ◌==◌, ◌||◌, ℕ, ◌++◌, ◌∷◌, [], List, Bool, true, false, Option, Some, None, IsSome, is_some, slice_get, option_map, refl, sym, ap, subst, ◌∙◌, append_assoc, inl, inr, if◌then◌else◌}
use Rattle.std.proofs.lemmas.Bool.{cases_eq, eq-eqb, ne_eqb}
use Rattle.osd_commands.specs.Commands.{reading}
use Rattle.osd_objects.proofs.Entries.{lookup_inserted, lookup_beside, lookup_set, lookup_set_beside}
use Rattle.server_rules.specs.History as server_input
use Rattle.scenario_text.specs.declared.event.Event.{Event}
use Rattle.scenario_text.specs.declared.event.Event.TheVariants as event
use Rattle.scenario_text.specs.declared.event.Sender.TheVariants as sender
use Rattle.scenario_text.specs.declared.event.Machine.TheVariants as machine
use Rattle.scenario_text.specs.declared.line.Verdict.{Verdict as ToldVerdict}
use Rattle.scenario_text.specs.declared.line.Line.{Line}
use Rattle.scenario_text.specs.declared.line.Line.TheVariants as line
use Rattle.world_history.specs.ServerNames as server_rules
use Rattle.world_history.specs.declared.err.WorldErr.TheVariants.{Dead, Down}
use Rattle.world_history.specs.declared.messages.Posted.{Posted}
use Rattle.world_history.specs.declared.messages.Sent.{Sent}
use Rattle.world_history.specs.State.{DriveAt, ClientAt, World, at_number, with_number, and_drive, with_down}
use Rattle.world_history.specs.Drives.{verdict_on, judges, made_drive, raised, at_time, fallen, crashed, reopened, is_deaf}
use Rattle.world_history.specs.Moves.{Act, Action, Opens, Delivers, TimesOut, Pends, by_drive, at_drive, stops, drops_found, injects_at, injects, judged_at, adds_drive, changed, gives, known_drive, knows_drive, op_of, raw_of, begins, acts}
use Rattle.world_history.specs.Sending.{move, sends_all, sent_lines}
use Rattle.world_history.specs.Plans.{Rule, due_by}
use Rattle.world_history.specs.Refusals.{refusal, unless_deaf, unless_there, unless_down, first_of}
use Rattle.world_history.specs.ReadDrives.{DriveSeen, sees_drive, drive_seen, drive_after, hears_bytes, where_it_is}
use Rattle.world_history.proofs.Always.{opening, IsKept}
use Rattle.world_history.proofs.ReadMessages.{drops_view, never_opens}
use Rattle.history_law.specs.Judging.{Judges, JudgesAt}
use Rattle.history_law.proofs.Each.{EachBehind, ArisesAt, HoldsAt, each_more, seen, none_quiet}
use Rattle.history_law.proofs.Replying.{changes_it, changes_another, heard, touches}
use Rattle.history_law.proofs.DriveLines.{view, seen_at, AreRead, reads_on, drive_read, IsTold, told_reads, IsQuietAct, quiet_told}
use Rattle.history_law.proofs.DriveMoves.{delivered_told, nothing, calls_act, timeout_act, leaves_act, resends_act, pends_act, gives_act, makes_act}

-- ---- what holds at each moment

pub record IsRead (w : World) (h : List Line) : Type 0 where
  pub injected : List ℕ
  pub drives : AreRead w injected h
  pub lines : EachBehind HoldsAt [] h

-- ---- events that change a drive, or a message

-- what is read behind the line of an event
event_read : (w : World) (i : List ℕ) (h : List Line) (e : Event) → AreRead w i h → (d : ℕ)
    → drive_seen d (h ++ line.Event e ∷ []) ≡ sees_drive d (seen_at d w i) (line.Event e)
event_read w i h e r d = reads_on h (line.Event e ∷ []) d (seen_at d w i) (r d)

added : (w : World) (d k : ℕ) (a : DriveAt)
    → (if k == d then Some a else at_number w.drives d) ≡ at_number (and_drive w k a).drives d
added w d k a = elim (cases_eq k d) [
  | inl it ↦ ap (λ (b : Bool). if b then Some a else at_number w.drives d) (eq-eqb k d it)
      ∙ sym (lookup_inserted w.drives k a) ∙ ap (λ (x : ℕ). at_number (and_drive w k a).drives x) it
  | inr other ↦ ap (λ (b : Bool). if b then Some a else at_number w.drives d) (ne_eqb k d other)
      ∙ sym (lookup_beside w.drives k d a (λ (e : d ≡ k). other (sym e)))
]

turned : (w : World) (d k : ℕ) (f : DriveAt → DriveAt) (o : Option DriveAt) → at_number w.drives k ≡ o
    → where_it_is k d f (at_number w.drives d) ≡ at_number (by_drive w k f o).drives d
turned w d k f None none = elim (cases_eq k d) [
  | inl it ↦ changes_it k d f (at_number w.drives d) it
      ∙ subst (λ (x : ℕ). option_map f (at_number w.drives x) ≡ at_number w.drives x) it
      (ap (option_map f) none ∙ sym none)
  | inr other ↦ changes_another k d f (at_number w.drives d) other
]
turned w d k f (Some a) there = elim (cases_eq k d) [
  | inl it ↦ changes_it k d f (at_number w.drives d) it
      ∙ ap (option_map f) (ap (at_number w.drives) (sym it) ∙ there)
      ∙ sym (lookup_set w.drives k (f a) (subst IsSome (sym there) refl))
      ∙ ap (λ (x : ℕ). at_number (with_number w.drives k (f a)) x) it
  | inr other ↦ changes_another k d f (at_number w.drives d) other
      ∙ sym (lookup_set_beside w.drives k d (f a) (λ (e : d ≡ k). other (sym e)))
]

drive_view : (w : World) (k : ℕ) (f : DriveAt → DriveAt) (o : Option DriveAt) → view (by_drive w k f o) ≡ view w
drive_view w k f None = refl
drive_view w k f (Some a) = refl

-- drive k becomes another
turned_read : (w : World) (i : List ℕ) (d k : ℕ) (f : DriveAt → DriveAt)
    → seen (view w) i (where_it_is k d f (at_number w.drives d)) ≡ seen_at d (at_drive w k f) i
turned_read w i d k f =
    ap (λ (a : Option DriveAt). seen (view w) i a) (turned w d k f (at_number w.drives k) refl)
    ∙ ap (λ (ss : List Sent). seen ss i (at_number (at_drive w k f).drives d))
    (sym (drive_view w k f (at_number w.drives k)))

turned_told : (w : World) (i : List ℕ) (h : List Line) (e : Event) (k : ℕ) (f : DriveAt → DriveAt) → AreRead w i h
    → ((d : ℕ) → sees_drive d (seen_at d w i) (line.Event e) ≡
    seen (view w) i (where_it_is k d f (at_number w.drives d)))
    → IsTold (h ++ line.Event e ∷ []) (record { world = at_drive w k f; told = []; posts = [] })
turned_told w i h e k f r is =
    quiet_told (at_drive w k f) i (h ++ line.Event e ∷ []) _
    (λ d. event_read w i h e r d ∙ is d ∙ turned_read w i d k f) (nothing (at_drive w k f))

dropped_drives : (w : World) (n : ℕ) (o : Option Posted) → (drops_found w n o).drives ≡ w.drives
dropped_drives w n None = refl
dropped_drives w n (Some p) = refl

dropped_told : (w : World) (i : List ℕ) (h : List Line) (n : ℕ) → AreRead w i h
    → IsTold (h ++ line.Event (event.DropMessage n) ∷ [])
    (record { world = drops_found w n (slice_get w.network.messages n); told = []; posts = [] })
dropped_told w i h n r =
    let v = drops_found w n (slice_get w.network.messages n) in
    quiet_told v i (h ++ line.Event (event.DropMessage n) ∷ []) _
    (λ d. event_read w i h (event.DropMessage n) r d
    ∙ ap (λ (ss : List Sent). seen ss i (at_number w.drives d))
    (drops_view w n (slice_get w.network.messages n) refl)
    ∙ ap (λ (ds : List (ℕ × DriveAt)). seen (view v) i (at_number ds d))
    (sym (dropped_drives w n (slice_get w.network.messages n))))
    (nothing v)

-- ---- bytes are injected

module _ (w : World) (k : ℕ) (bytes : List ℕ) (before : List Line) (r : AreRead w bytes before) (a : DriveAt)
    (there : at_number w.drives k ≡ Some a) (hears : is_deaf a ≡ false) where
  injected_behind : (v : ToldVerdict) (d : ℕ)
      → sees_drive d (drive_seen d before) (line.Judged k v)
      ≡ seen (view w) bytes (where_it_is k d (hears_bytes bytes) (at_number w.drives d))
  injected_behind v d = ap (λ (s : DriveSeen). sees_drive d s (line.Judged k v)) (r d)

  drive_behind : (v : ToldVerdict) (d : ℕ)
      → drive_after (before ++ line.Judged k v ∷ []) d ≡ where_it_is k d (hears_bytes bytes) (at_number w.drives d)
  drive_behind v d =
      ap (λ (s : DriveSeen). s.drive)
      (reads_on before (line.Judged k v ∷ []) d (drive_seen d before) refl ∙ injected_behind v d)

  judges_it : (v : ToldVerdict) → v ≡ verdict_on a.state a.clock (reading bytes)
      → Judges before (line.Judged k v) k bytes v
  judges_it v verdict = record {
    there = a;
    stands = drive_read w bytes before k r ∙ there;
    hears = hears;
    verdict = verdict;
    becomes =
        drive_behind v k ∙ changes_it k k (hears_bytes bytes) (at_number w.drives k) refl
        ∙ ap (λ (o : Option DriveAt). option_map (hears_bytes bytes) o) there
        ∙ ap (λ (x : DriveAt). Some x) (heard a bytes hears);
    others =
        λ d other. drive_behind v d
        ∙ changes_another k d (hears_bytes bytes) (at_number w.drives d) (λ (e : k ≡ d). other (sym e))
        ∙ sym (drive_read w bytes before d r);
    touches = touches a bytes v verdict;
  }

  same_bytes : bytes ≡ (drive_seen k before).injected
  same_bytes = sym (ap (λ (s : DriveSeen). s.injected) (r k))

  says_verdict : JudgesAt before (line.Judged k (judges a (reading bytes)).verdict)
  unfolding judges
  says_verdict =
      subst (λ (b : List ℕ). Judges before (line.Judged k (verdict_on a.state a.clock (reading bytes))) k b
      (verdict_on a.state a.clock (reading bytes))) same_bytes
      (judges_it (verdict_on a.state a.clock (reading bytes)) refl)

  judged_told : (h : List Line) → before ≡ h ++ line.Event (event.Inject k bytes) ∷ []
      → IsTold before (judged_at w k (judges a (reading bytes)))
  unfolding sent_lines
  judged_told h is = record {
    injected = bytes;
    drives =
        λ d. injected_behind (judges a (reading bytes)).verdict d
        ∙ ap (λ (o : Option DriveAt). seen (view w) bytes o)
        (turned w d k (hears_bytes bytes) (Some a) there
        ∙ ap (λ (b : Bool). at_number (with_number w.drives k
        (if b then a else (judges a (reading bytes)).drive)) d) hears);
    says = ((says_verdict, (h, bytes, is)), tt);
  }

-- a drive of which an event is carried out hears
not_deaf : (failed down : Bool) → (if failed then Some Dead else (if down then Some Down else None)) ≡ None
    → (failed || down) ≡ false
not_deaf true down is = absurd (cc is)
not_deaf false true is = absurd (cc is)
not_deaf false false is = refl

injected_told : (w : World) (k : ℕ) (bytes : List ℕ) (h before : List Line) (o : Option DriveAt)
    → before ≡ h ++ line.Event (event.Inject k bytes) ∷ [] → AreRead w bytes before → at_number w.drives k ≡ o
    → unless_deaf (at_number w.drives k) ≡ None
    → IsTold before (injects_at w k bytes o)
injected_told w k bytes h before None is r none allowed = quiet_told w bytes before _ r (nothing w)
injected_told w k bytes h before (Some a) is r there allowed =
    judged_told w k bytes before r a there
    (not_deaf a.failed a.down (subst (λ (o : Option DriveAt). unless_deaf o ≡ None) there allowed)) h is

inject_told : (w : World) (i : List ℕ) (h : List Line) (k : ℕ) (bytes : List ℕ) → AreRead w i h
    → unless_deaf (at_number w.drives k) ≡ None → IsTold (h ++ line.Event (event.Inject k bytes) ∷ []) (injects w k bytes)
unfolding injects
inject_told w i h k bytes r allowed =
    injected_told w k bytes h (h ++ line.Event (event.Inject k bytes) ∷ []) (at_number w.drives k) refl
    (event_read w i h (event.Inject k bytes) r) refl allowed

-- ---- what an event begins with

added_told : (w : World) (i : List ℕ) (h : List Line) (e : Event) (k : ℕ) (key : List ℕ) (capacity : ℕ) (stored : Bool)
    → AreRead w i h
    → ((d : ℕ) → sees_drive d (seen_at d w i) (line.Event e)
    ≡ seen (view w) i (if k == d then Some (made_drive k key capacity stored) else at_number w.drives d))
    → IsTold (h ++ line.Event e ∷ []) (adds_drive w k key capacity stored)
added_told w i h e k key capacity stored r is =
    let v = and_drive w k (made_drive k key capacity stored) in
    quiet_told v i (h ++ line.Event e ∷ []) _
    (λ d. event_read w i h e r d ∙ is d
    ∙ ap (λ (a : Option DriveAt). seen (view w) i a) (added w d k (made_drive k key capacity stored)))
    (either (knows_drive w.server k))
  where
    either : (b : Bool) → IsQuietAct (and_drive w k (made_drive k key capacity stored))
        (if b then changed (and_drive w k (made_drive k key capacity stored))
        else gives (and_drive w k (made_drive k key capacity stored)) [] (server_input.Adds (known_drive k key capacity)))
    either true = nothing _
    either false = gives_act _ [] (server_input.Adds (known_drive k key capacity))

stopped_act : (w : World) (c : ℕ) (o : Option ClientAt)
    → IsQuietAct w (record { world = stops w c o; told = []; posts = [] })
stopped_act w c None = nothing w
stopped_act w c (Some a) = record { messages = refl; drives = refl; told = none_quiet; posts = tt }

down_act : (w : World) (down : Bool) (chosen : List ℕ) (x : server_input.Input)
    → IsQuietAct w (gives (with_down w down) chosen x)
down_act w down chosen x =
    let q = gives_act (with_down w down) chosen x in
    record { messages = q.messages; drives = q.drives; told = q.told; posts = q.posts }

begins_told : (w : World) (i : List ℕ) (h : List Line) (e : Event) (chosen : List ℕ) → AreRead w i h
    → refusal w e ≡ None → IsTold (h ++ line.Event e ∷ []) (begins w chosen e)
unfolding begins refusal
begins_told w i h (event.Drive k key capacity) chosen r allowed =
    added_told w i h (event.Drive k key capacity) k key capacity false r (λ d. refl)
begins_told w i h (event.Disk k key capacity) chosen r allowed =
    added_told w i h (event.Disk k key capacity) k key capacity true r (λ d. refl)
begins_told w i h (event.Client c) chosen r allowed =
    quiet_told w i _ _ (event_read w i h (event.Client c) r)
    (record { messages = refl; drives = refl; told = none_quiet; posts = tt })
begins_told w i h (event.File f m tag) chosen r allowed =
    quiet_told w i _ _ (event_read w i h (event.File f m tag) r) (makes_act w chosen f (raw_of m) tag false)
begins_told w i h (event.ZonedFile f m tag) chosen r allowed =
    quiet_told w i _ _ (event_read w i h (event.ZonedFile f m tag) r) (makes_act w chosen f (raw_of m) tag true)
begins_told w i h (event.Zone d zone) chosen r allowed =
    quiet_told w i _ _ (event_read w i h (event.Zone d zone) r) (gives_act w chosen (server_input.Zones d zone))
begins_told w i h (event.Least k format) chosen r allowed =
    turned_told w i h (event.Least k format) k (λ a. raised a format) r (λ d. refl)
begins_told w i h (event.Format format) chosen r allowed =
    quiet_told w i _ _ (event_read w i h (event.Format format) r) (gives_act w chosen (server_input.Formats format))
begins_told w i h (event.Do c x) chosen r allowed =
    quiet_told w i _ _ (event_read w i h (event.Do c x) r) (calls_act w c (op_of x))
begins_told w i h (event.Call c x) chosen r allowed =
    quiet_told w i _ _ (event_read w i h (event.Call c x) r) (calls_act w c (op_of x))
begins_told w i h (event.Deliver n) chosen r allowed =
    delivered_told w i _ chosen n (event_read w i h (event.Deliver n) r)
begins_told w i h (event.DropMessage n) chosen r allowed = dropped_told w i h n r
begins_told w i h event.Settle chosen r allowed = quiet_told w i _ _ (event_read w i h event.Settle r) (nothing w)
begins_told w i h (event.Resend (sender.Client c)) chosen r allowed =
    quiet_told w i _ _ (event_read w i h (event.Resend (sender.Client c)) r) (resends_act w c)
begins_told w i h (event.Resend sender.Server) chosen r allowed =
    quiet_told w i _ _ (event_read w i h (event.Resend sender.Server) r) (gives_act w chosen server_input.Resends)
begins_told w i h (event.Timeout c k) chosen r allowed =
    quiet_told w i _ _ (event_read w i h (event.Timeout c k) r) (timeout_act w c k)
begins_told w i h (event.Leave c) chosen r allowed =
    quiet_told w i _ _ (event_read w i h (event.Leave c) r) (leaves_act w c)
begins_told w i h (event.Inject k bytes) chosen r allowed = inject_told w i h k bytes r allowed
begins_told w i h (event.Clock (machine.Drive k) time) chosen r allowed =
    turned_told w i h (event.Clock (machine.Drive k) time) k (λ a. at_time a time) r (λ d. refl)
begins_told w i h (event.Clock machine.Server time) chosen r allowed =
    quiet_told w i _ _ (event_read w i h (event.Clock machine.Server time) r)
    (record { messages = refl; drives = refl; told = none_quiet; posts = tt })
begins_told w i h (event.Recall f) chosen r allowed =
    quiet_told w i _ _ (event_read w i h (event.Recall f) r)
    (gives_act w chosen (server_input.Obeys server_rules.ToRecall f))
begins_told w i h (event.Revoke f) chosen r allowed =
    quiet_told w i _ _ (event_read w i h (event.Revoke f) r)
    (gives_act w chosen (server_input.Obeys server_rules.ToRevoke f))
begins_told w i h (event.Rebuild f) chosen r allowed =
    quiet_told w i _ _ (event_read w i h (event.Rebuild f) r)
    (gives_act w chosen (server_input.Obeys server_rules.ToRebuild f))
begins_told w i h (event.Audit f) chosen r allowed =
    quiet_told w i _ _ (event_read w i h (event.Audit f) r)
    (gives_act w chosen (server_input.Obeys server_rules.ToAudit f))
begins_told w i h (event.Declare d) chosen r allowed =
    quiet_told w i _ _ (event_read w i h (event.Declare d) r)
    (gives_act w chosen (server_input.Obeys server_rules.ToDeclare d))
begins_told w i h (event.Stop c) chosen r allowed =
    quiet_told w i _ _ (event_read w i h (event.Stop c) r) (stopped_act w c (at_number w.clients c))
begins_told w i h (event.Fail k) chosen r allowed = turned_told w i h (event.Fail k) k fallen r (λ d. refl)
begins_told w i h (event.Crash (machine.Drive k)) chosen r allowed =
    turned_told w i h (event.Crash (machine.Drive k)) k crashed r (λ d. refl)
begins_told w i h (event.Crash machine.Server) chosen r allowed =
    quiet_told w i _ _ (event_read w i h (event.Crash machine.Server) r) (down_act w true chosen server_input.Crashes)
begins_told w i h (event.Reopen (machine.Drive k)) chosen r allowed =
    turned_told w i h (event.Reopen (machine.Drive k)) k reopened r (λ d. refl)
begins_told w i h (event.Reopen machine.Server) chosen r allowed =
    quiet_told w i _ _ (event_read w i h (event.Reopen machine.Server) r) (down_act w false chosen server_input.Opens)

-- ---- moves

acts_told : (w : World) (i : List ℕ) (before : List Line) (chosen : List ℕ) (rule : Rule) (action : Action)
    → AreRead w i before → due_by w rule ≡ Some action → IsTold before (acts w chosen action)
acts_told w i before chosen rule (Delivers n) r due = delivered_told w i before chosen n r
acts_told w i before chosen rule (TimesOut c k) r due = quiet_told w i before _ r (timeout_act w c k)
acts_told w i before chosen rule (Pends c) r due = quiet_told w i before _ r (pends_act w c)
acts_told w i before chosen rule (Opens e) r due = absurd (never_opens w rule e due)

-- ---- all histories

pub new_there : (o : Option DriveAt) (w : World) → first_of (unless_there (is_some o)) (unless_down w) ≡ None → o ≡ None
new_there None w allowed = refl
new_there (Some a) w allowed = absurd (cc allowed)

-- a drive that is made wasn't there
arises : (w : World) (i : List ℕ) (h : List Line) (e : Event) → AreRead w i h → refusal w e ≡ None
    → ArisesAt h (line.Event e)
unfolding refusal
arises w i h (event.Drive k key capacity) r allowed = drive_read w i h k r ∙ new_there (at_number w.drives k) w allowed
arises w i h (event.Disk k key capacity) r allowed = drive_read w i h k r ∙ new_there (at_number w.drives k) w allowed
arises w i h e r allowed = tt

read_on : (a : Act) (before : List Line) → EachBehind HoldsAt [] before → IsTold before a
    → IsRead (sends_all a).world (before ++ (sends_all a).lines)
read_on a before lines t = record {
  injected = t.injected;
  drives = told_reads before a t;
  lines = each_more HoldsAt [] before (sends_all a).lines lines t.says;
}

pub kept : IsKept IsRead
kept = record {
  starts = record { injected = []; drives = λ d. refl; lines = tt };
  opens =
      λ w h e chosen r allowed. subst (IsRead (move w (opening e chosen)).world)
      (append_assoc h (line.Event e ∷ []) (move w (opening e chosen)).lines)
      (read_on (begins w chosen e) (h ++ line.Event e ∷ [])
      (each_more HoldsAt [] h (line.Event e ∷ []) r.lines ((tt, arises w r.injected h e r.drives allowed), tt))
      (begins_told w r.injected h e chosen r.drives allowed));
  moves = λ w h rule m r due. read_on (acts w m.chosen m.action) h r.lines
      (acts_told w r.injected h m.chosen rule m.action r.drives due);
}
