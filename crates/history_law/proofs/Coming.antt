-- Each command that a drive performs was sent to it, as far as nothing was guessed.
use Rattle.std.specs.List.{list_any}
use Rattle.std.specs.Cmp.Lexicographic.{pointwise, same_text}
use Rattle.std.proofs.Common.{◌≡◌, ◌==◌, ℕ, ◌++◌, ◌∷◌, [], List, Bool, true, false, not, nat_eq, ◌&&◌, ◌||◌, ◌⊎◌, Option, Some, None, Result, Ok, Err, is_none, fold, slice_get, slice_set, option_map, refl, sym, ap, subst, ◌∙◌, append_assoc, zero, suc, inl, inr, if◌then◌else◌}
use Rattle.std.proofs.lemmas.Bool.{cases_eq, eq-eqb, ne_eqb, and_parts}
use Rattle.std.proofs.lemmas.List.{append-nil}
use Rattle.std.proofs.lemmas.List.Sums.{fold-append}
use Rattle.osd_lists.proofs.Tests.{not_false}
use Rattle.osd_lists.proofs.Slices.{found_more}
use Rattle.osd_commands.specs.declared.commands.Command.{Command}
use Rattle.osd_commands.specs.declared.commands.CommandErr.{CommandErr}
use Rattle.osd_commands.specs.Commands.{reading}
use Rattle.osd_objects.proofs.Entries.{lookup_inserted, lookup_beside}
use Rattle.osd_drive.specs.declared.keys.DriveKey.{DriveKey}
use Rattle.osd_drive.specs.declared.verdict.Verdict.{Verdict}
use Rattle.osd_drive.specs.declared.verdict.Verdict.TheVariants as verdict
use Rattle.osd_drive.specs.State.{key_of_version}
use Rattle.osd_drive.specs.Table.{first_fault, is_checked, fails_check}
use Rattle.osd_drive.specs.Effects.{state_by}
use Rattle.osd_drive.proofs.Clear.{all_told}
use Rattle.scenario_text.specs.declared.event.Event.{Event}
use Rattle.scenario_text.specs.declared.event.Event.TheVariants as event
use Rattle.scenario_text.specs.declared.event.Machine.TheVariants as machine
use Rattle.scenario_text.specs.declared.line.Delivery.TheVariants as delivery
use Rattle.scenario_text.specs.declared.line.Verdict.TheVariants as told
use Rattle.scenario_text.specs.declared.line.Party.{Party}
use Rattle.scenario_text.specs.declared.line.Party.TheVariants as party
use Rattle.scenario_text.specs.declared.line.Line.{Line}
use Rattle.scenario_text.specs.declared.line.Line.TheVariants as line
use Rattle.world_history.specs.declared.messages.Sent.{Sent}
use Rattle.world_history.specs.State.{DriveAt, at_number, and_number}
use Rattle.world_history.specs.Drives.{judges, first_key, made_drive, is_deaf}
use Rattle.world_history.specs.Reading.{is_drive, arrived, left_out, changed_by, changed_at, sent_after_event, sent_after, sent_in}
use Rattle.world_history.specs.ReadDrives.{DriveSeen, sees_drive, drive_seen, drive_after, drive_after_event, drive_after_line, hears_bytes, hears_sent}
use Rattle.world_history.specs.Guesses.{Guarded, opens_with, opened_by, was_sent, is_guess_of, is_guess, guessed_at, keys_after, guards, guarded, unguessed}
use Rattle.world_history.proofs.DriveLines.{same_drive}
use Rattle.history_law.specs.Judging.{Judges, IsDelivered, Replies, JudgesAt, injected_in}
use Rattle.history_law.specs.Sources.{IsServerOrClient, WasSent, ComesAt}
use Rattle.history_law.specs.Safe.{AtEachLine}
use Rattle.history_law.proofs.Replying.{is_performed}
use Rattle.history_law.proofs.Each.{EachBehind, ArisesAt, HoldsAt, judges_of, arises_of, each_front, at_each_line}

-- ---- no message goes from a drive to a drive

abbrev pub IsFair : Party → Party → Type 0
IsFair (party.Drive a) (party.Drive b) = ⊥
IsFair from to = Unit {0}

abbrev pub AreFair : List Sent → Type 0
AreFair ss = (n : ℕ) (m : Sent) → slice_get ss n ≡ Some m → IsFair m.from m.to

fair_sender : (from to : Party) (d : ℕ) → IsFair from to → to ≡ party.Drive d → IsServerOrClient from
fair_sender party.Server to d fair is = tt
fair_sender (party.Client c) to d fair is = tt
fair_sender (party.Drive k) to d fair is = subst (IsFair (party.Drive k)) is fair

-- what stands in a list in which something was put in place of another
pub found_set : (ss : List Sent) (k : ℕ) (s : Sent) (n : ℕ) (m : Sent) → slice_get (slice_set ss k s) n ≡ Some m
    → (slice_get ss n ≡ Some m) ⊎ ((n ≡ k) × (s ≡ m))
found_set [] k s n m is = inl is
found_set (x ∷ ss) zero s zero m is = inr (refl, cc is)
found_set (x ∷ ss) zero s (suc n) m is = inl is
found_set (x ∷ ss) (suc k) s zero m is = inl is
found_set (x ∷ ss) (suc k) s (suc n) m is = elim (found_set ss k s n m is) [
  | inl old ↦ inl old
  | inr new ↦ inr (ap suc new.0, new.1)
]

more_fair : (ss : List Sent) (s : Sent) → AreFair ss → IsFair s.from s.to → AreFair (ss ++ s ∷ [])
more_fair ss s fair it n m is = elim (found_more ss s n m is) [
  | inl old ↦ fair n m old
  | inr same ↦ subst (λ (x : Sent). IsFair x.from x.to) same it
]

-- a mark changes no party
set_fair : (ss : List Sent) (k : ℕ) (s : Sent) → AreFair ss → IsFair s.from s.to → AreFair (slice_set ss k s)
set_fair ss k s fair it n m is = elim (found_set ss k s n m is) [
  | inl old ↦ fair n m old
  | inr new ↦ subst (λ (x : Sent). IsFair x.from x.to) new.1 it
]

arrived_fair : (ss : List Sent) (k : ℕ) (o : Option Sent) → slice_get ss k ≡ o → AreFair ss
    → AreFair (changed_by ss k arrived o)
arrived_fair ss k None none fair = fair
arrived_fair ss k (Some s) there fair = set_fair ss k (arrived s) fair (fair k s there)

left_fair : (ss : List Sent) (k : ℕ) (o : Option Sent) → slice_get ss k ≡ o → AreFair ss
    → AreFair (changed_by ss k left_out o)
left_fair ss k None none fair = fair
left_fair ss k (Some s) there fair = set_fair ss k (left_out s) fair (fair k s there)

event_fair : (ss : List Sent) (e : Event) → AreFair ss → AreFair (sent_after_event ss e)
event_fair ss (event.DropMessage k) fair = left_fair ss k (slice_get ss k) refl fair
event_fair ss e fair = fair

-- messages that were delivered are those that were sent
found_arrived : (ss : List Sent) (k : ℕ) (m : Sent) → slice_get ss k ≡ Some m
    → slice_get (changed_at ss k arrived) k ≡ Some (arrived m)
found_arrived ss k m there =
    ap (λ (o : Option Sent). slice_get (changed_by ss k arrived o) k) there ∙ set_there ss k (arrived m) m there
  where
    set_there : (xs : List Sent) (n : ℕ) (s x : Sent) → slice_get xs n ≡ Some x
        → slice_get (slice_set xs n s) n ≡ Some s
    set_there [] n s x is = absurd (cc is)
    set_there (y ∷ xs) zero s x is = refl
    set_there (y ∷ xs) (suc n) s x is = set_there xs n s x is

-- what is read behind one line more
pub sent_behind : (before : List Line) (l : Line) → sent_in (before ++ l ∷ []) ≡ sent_after (sent_in before) l
unfolding sent_in
sent_behind before l = fold-append sent_after [] before (l ∷ [])

turned_fair : (d : ℕ) (p : Party) → IsFair p (party.Drive d) → IsFair (party.Drive d) p
turned_fair d party.Server x = tt
turned_fair d (party.Client c) x = tt
turned_fair d (party.Drive e) x = absurd x

-- a message of a drive is a reply to a message that was for it
reply_fair : (before : List Line) (d : ℕ) (to : Party) (bytes : List ℕ) → AreFair (sent_in before)
    → Replies before d to bytes → IsFair (party.Drive d) to
reply_fair before d to bytes fair r =
    let found : slice_get (sent_in before) r.number ≡ Some (arrived r.message) =
    ap (λ (h : List Line). slice_get (sent_in h) r.number) r.before_is
    ∙ ap (λ (ss : List Sent). slice_get ss r.number) (sent_behind r.lines (line.Delivered r.number r.delivery))
    ∙ found_arrived (sent_in r.lines) r.number r.message r.sent in
    let asked : IsFair r.message.from r.message.to = fair r.number (arrived r.message) found in
    turned_fair d to (subst (λ (p : Party). IsFair p (party.Drive d)) r.sender
    (subst (λ (p : Party). IsFair r.message.from p) r.receiver asked))

message_fair : (before : List Line) (from to : Party) (bytes : List ℕ) (n : ℕ) → AreFair (sent_in before)
    → JudgesAt before (line.Message n from to bytes) → IsFair from to
message_fair before party.Server to bytes n fair touches = tt
message_fair before (party.Client c) to bytes n fair touches = tt
message_fair before (party.Drive d) to bytes n fair touches = reply_fair before d to bytes fair touches

line_fair : (before : List Line) (l : Line) → AreFair (sent_in before) → JudgesAt before l
    → AreFair (sent_after (sent_in before) l)
line_fair before (line.Event e) fair touches = event_fair (sent_in before) e fair
line_fair before (line.Message n from to bytes) fair touches =
    more_fair (sent_in before) _ fair (message_fair before from to bytes n fair touches)
line_fair before (line.Delivered n del) fair touches =
    arrived_fair (sent_in before) n (slice_get (sent_in before) n) refl fair
line_fair before l fair touches = fair

pub lines_fair : (before lines : List Line) → AreFair (sent_in before) → EachBehind HoldsAt before lines
    → AreFair (sent_in (before ++ lines))
lines_fair before [] fair each = subst (λ (h : List Line). AreFair (sent_in h)) (sym (append-nil before)) fair
lines_fair before (l ∷ lines) fair each =
    subst (λ (h : List Line). AreFair (sent_in h)) (append_assoc before (l ∷ []) lines)
    (lines_fair (before ++ l ∷ []) lines
    (subst AreFair (sym (sent_behind before l)) (line_fair before l fair (judges_of before l each.0))) each.1)

pub none_fair : AreFair (sent_in [])
unfolding sent_in
none_fair n m is = absurd (cc is)

-- ---- the keys of a drive

abbrev keys_of : Option DriveAt → Option (List DriveKey)
keys_of o = option_map (λ (a : DriveAt). a.state.keys) o

pub verdict_keys : (a : DriveAt) (c : Command) (v : Verdict) → (state_by v a.state c).keys ≡ a.state.keys
verdict_keys a c verdict.Perform = refl
verdict_keys a c v = refl

pub judged_keys : (a : DriveAt) (r : Result Command CommandErr) → (judges a r).drive.state.keys ≡ a.state.keys
unfolding judges
judged_keys a (Ok c) = verdict_keys a c (first_fault a.state a.clock c)
judged_keys a (Err e) = refl

heard_keys : (bytes : List ℕ) (a : DriveAt) (b : Bool)
    → (if b then a else (judges a (reading bytes)).drive).state.keys ≡ a.state.keys
heard_keys bytes a true = refl
heard_keys bytes a false = judged_keys a (reading bytes)

mapped_keys : (f : DriveAt → DriveAt) (o : Option DriveAt) → ((a : DriveAt) → (f a).state.keys ≡ a.state.keys)
    → keys_of o ≡ keys_of (option_map f o)
mapped_keys f None each = refl
mapped_keys f (Some a) each = ap (λ (x : List DriveKey). Some x) (sym (each a))

where_keys : (b : Bool) (f : DriveAt → DriveAt) (o : Option DriveAt) → ((a : DriveAt) → (f a).state.keys ≡ a.state.keys)
    → keys_of o ≡ keys_of (if b then option_map f o else o)
where_keys true f o each = mapped_keys f o each
where_keys false f o each = refl

sent_keys : (d : ℕ) (o : Option DriveAt) (m : Option Sent) → keys_of o ≡ keys_of (hears_sent d o m)
sent_keys d o None = refl
sent_keys d o (Some m) =
    where_keys (is_drive d m.to) (hears_bytes m.bytes) o (λ a. heard_keys m.bytes a (is_deaf a))

-- a drive is made with this key
made_keys : (d : ℕ) (keys : List (ℕ × List DriveKey)) (o : Option DriveAt) (k : ℕ) (key : List ℕ) (a : DriveAt)
    → a.state.keys ≡ first_key key ∷ [] → at_number keys d ≡ keys_of o
    → at_number (and_number keys k (first_key key ∷ [])) d ≡ keys_of (if k == d then Some a else o)
made_keys d keys o k key a first same = elim (cases_eq k d) [
  | inl it ↦ ap (λ (x : ℕ). at_number (and_number keys k (first_key key ∷ [])) x) (sym it)
      ∙ lookup_inserted keys k (first_key key ∷ []) ∙ ap (λ (x : List DriveKey). Some x) (sym first)
      ∙ ap (λ (b : Bool). keys_of (if b then Some a else o)) (sym (eq-eqb k d it))
  | inr other ↦ lookup_beside keys k d (first_key key ∷ []) (λ (x : d ≡ k). other (sym x)) ∙ same
      ∙ ap (λ (b : Bool). keys_of (if b then Some a else o)) (sym (ne_eqb k d other))
]

event_keys : (d : ℕ) (keys : List (ℕ × List DriveKey)) (o : Option DriveAt) (e : Event) → at_number keys d ≡ keys_of o
    → at_number (keys_after keys (line.Event e)) d ≡ keys_of (drive_after_event d o e)
event_keys d keys o (event.Drive k key capacity) same =
    made_keys d keys o k key (made_drive k key capacity false) refl same
event_keys d keys o (event.Disk k key capacity) same =
    made_keys d keys o k key (made_drive k key capacity true) refl same
event_keys d keys o (event.Least k format) same = same ∙ where_keys (k == d) _ o (λ a. refl)
event_keys d keys o (event.Clock (machine.Drive k) time) same = same ∙ where_keys (k == d) _ o (λ a. refl)
event_keys d keys o (event.Clock machine.Server time) same = same
event_keys d keys o (event.Fail k) same = same ∙ where_keys (k == d) _ o (λ a. refl)
event_keys d keys o (event.Crash (machine.Drive k)) same = same ∙ where_keys (k == d) _ o (λ a. refl)
event_keys d keys o (event.Crash machine.Server) same = same
event_keys d keys o (event.Reopen (machine.Drive k)) same = same ∙ where_keys (k == d) _ o (λ a. refl)
event_keys d keys o (event.Reopen machine.Server) same = same
event_keys d keys o e same = same

line_keys : (d : ℕ) (keys : List (ℕ × List DriveKey)) (s : DriveSeen) (l : Line) → at_number keys d ≡ keys_of s.drive
    → at_number (keys_after keys l) d ≡ keys_of (drive_after_line d s l)
line_keys d keys s (line.Event e) same = event_keys d keys s.drive e same
line_keys d keys s (line.Delivered number del) same = same ∙ sent_keys d s.drive (slice_get s.sent number)
line_keys d keys s (line.Judged k v) same =
    same ∙ where_keys (k == d) (hears_bytes s.injected) s.drive (λ a. heard_keys s.injected a (is_deaf a))
line_keys d keys s l same = same

fold_keys : (d : ℕ) (g : Guarded) (s : DriveSeen) (h : List Line) → at_number g.keys d ≡ keys_of s.drive
    → at_number (fold guards g h).keys d ≡ keys_of (fold (sees_drive d) s h).drive
fold_keys d g s [] same = same
fold_keys d g s (l ∷ h) same = fold_keys d (guards g l) (sees_drive d s l) h (line_keys d g.keys s l same)

fold_sent : (g : Guarded) (h : List Line) → (fold guards g h).sent ≡ fold sent_after g.sent h
fold_sent g [] = refl
fold_sent g (l ∷ h) = fold_sent (guards g l) h

guarded_sent : (h : List Line) → (guarded h).sent ≡ sent_in h
unfolding sent_in
guarded_sent h = fold_sent _ h

-- ---- bytes that were sent before

abbrev IsFound : (Sent → Bool) → List Sent → Type 0
IsFound f xs = (n : ℕ) × (x : Sent) × (slice_get xs n ≡ Some x) × (f x ≡ true)

found_here : (f : Sent → Bool) (x : Sent) (xs : List Sent) (b : Bool) → f x ≡ b → (b || list_any f xs) ≡ true
    → (list_any f xs ≡ true → IsFound f xs) → IsFound f (x ∷ xs)
found_here f x xs true is e rest = (0, x, refl, is)
found_here f x xs false is e rest = let r = rest e in (suc r.0, r.1, r.2, r.3)

any_at : (f : Sent → Bool) (xs : List Sent) → list_any f xs ≡ true → IsFound f xs
any_at f [] e = absurd (cc e)
any_at f (x ∷ xs) e = found_here f x xs (f x) refl e (λ r. any_at f xs r)

pub opens_clear : (o : Option DriveKey) (c : Command) → is_none o ≡ false → fails_check o c ≡ false → opens_with o c ≡ true
opens_clear None c none fails = absurd (cc none)
opens_clear (Some k) c none fails = not_false (is_checked k.key c) fails

-- a guess that opens was sent
sent_by : (opened sent : Bool) → not (opened && not sent) ≡ true → opened ≡ true → sent ≡ true
sent_by true true e o = refl
sent_by true false e o = absurd (cc e)
sent_by false sent e o = absurd (cc o)

-- ---- where nothing was guessed

-- nothing was guessed before
pub clean_before : (g : Guarded) (ls : List Line) → (fold guards g ls).unguessed ≡ true → g.unguessed ≡ true
clean_before g [] e = e
clean_before g (l ∷ ls) e = (and_parts g.unguessed (not (guessed_at g l)) (clean_before (guards g l) ls e)).0

pub clean_front : (before after : List Line) → unguessed (before ++ after) ≡ true → unguessed before ≡ true
clean_front before after e =
    clean_before (guarded before) after
    (ap (λ (g : Guarded). g.unguessed) (sym (fold-append guards _ before after)) ∙ e)

-- injected bytes that a key of the drive opens were sent to it before
opened_was_sent : (lines : List Line) (d : ℕ) (bytes : List ℕ) (a : DriveAt) (c : Command) → AreFair (sent_in lines)
    → unguessed (lines ++ line.Event (event.Inject d bytes) ∷ []) ≡ true → drive_after lines d ≡ Some a
    → reading bytes ≡ Ok c → opens_with (key_of_version a.state.keys c.capability.key_version) c ≡ true
    → WasSent lines d bytes
opened_was_sent lines d bytes a c fair clean stood read opens =
    let keys : at_number (guarded lines).keys d ≡ Some a.state.keys = fold_keys d _ _ lines refl ∙ ap keys_of stood in
    let opened : opened_by (at_number (guarded lines).keys d) c ≡ true =
    ap (λ (o : Option (List DriveKey)). opened_by o c) keys ∙ opens in
    let free : not (is_guess (guarded lines) d bytes) ≡ true =
    (and_parts (guarded lines).unguessed _
    (sym (ap (λ (g : Guarded). g.unguessed) (fold-append guards _ lines (line.Event (event.Inject d bytes) ∷ [])))
    ∙ clean)).1 in
    let known : was_sent (guarded lines).sent d bytes ≡ true =
    sent_by (opened_by (at_number (guarded lines).keys d) c) (was_sent (guarded lines).sent d bytes)
    (sym (ap (λ (r : Result Command CommandErr). not (is_guess_of (guarded lines) d bytes r)) read) ∙ free) opened in
    let found = any_at _ (sent_in lines) (subst (λ (ss : List Sent). was_sent ss d bytes ≡ true) (guarded_sent lines) known) in
    let tests = and_parts (is_drive d found.1.to) (pointwise nat_eq found.1.bytes bytes) found.3 in
    let to : found.1.to ≡ party.Drive d = same_drive d found.1.to tests.0 in
    record {
      number = found.0;
      message = found.1;
      sent = found.2;
      receiver = to;
      sender = fair_sender found.1.from found.1.to d (fair found.0 found.1 found.2) to;
      bytes_are = same_text found.1.bytes bytes (sym tests.1);
    }

-- so it is of each injection of a history of which nothing was guessed
pub opened_were_sent : (h : List Line) → EachBehind HoldsAt [] h → unguessed h ≡ true → (before after : List Line)
    (d : ℕ) (bytes : List ℕ) → h ≡ before ++ line.Event (event.Inject d bytes) ∷ after → (a : DriveAt) (c : Command)
    → drive_after before d ≡ Some a → reading bytes ≡ Ok c
    → opens_with (key_of_version a.state.keys c.capability.key_version) c ≡ true → WasSent before d bytes
opened_were_sent h each clean before after d bytes is a c =
    let l : Line = line.Event (event.Inject d bytes) in
    let front : EachBehind HoldsAt [] before =
    each_front HoldsAt [] before (l ∷ after) (subst (EachBehind HoldsAt []) is each) in
    opened_was_sent before d bytes a c (lines_fair [] before none_fair front)
    (clean_front (before ++ l ∷ []) after
    (ap unguessed (append_assoc before (l ∷ []) after ∙ sym is) ∙ clean))

-- ---- at each line

module _ (lines : List Line) (d : ℕ) (bytes : List ℕ) where
  abbrev injection : Line
  injection = line.Event (event.Inject d bytes)

  abbrev behind : List Line
  behind = lines ++ injection ∷ []

  seen_behind : drive_seen d behind ≡ sees_drive d (drive_seen d lines) injection
  seen_behind = fold-append (sees_drive d) _ lines (injection ∷ [])

  injected_is : injected_in behind d ≡ bytes
  injected_is = ap (λ (s : DriveSeen). s.injected) seen_behind

  sent_same : sent_in behind ≡ sent_in lines
  sent_same = sent_behind lines injection

  comes_injected : Judges behind (line.Judged d told.Perform) d (injected_in behind d) told.Perform → AreFair (sent_in behind)
      → unguessed behind ≡ true → WasSent behind d (injected_in behind d)
  comes_injected p fair clean =
      let done = is_performed p.there (injected_in behind d) p.verdict in
      let c = done.command in
      let read : reading bytes ≡ Ok c = ap reading (sym injected_is) ∙ done.read in
      let stood : drive_after lines d ≡ Some p.there =
      sym (ap (λ (s : DriveSeen). s.drive) seen_behind) ∙ p.stands in
      let rows = ((all_told p.there.state p.there.clock c).0 done.clear).1 in
      let w = opened_was_sent lines d bytes p.there c (subst AreFair sent_same fair) clean stood read
      (opens_clear (key_of_version p.there.state.keys c.capability.key_version) c rows.0 rows.1.0) in
      record {
        number = w.number;
        message = w.message;
        sent = ap (λ (ss : List Sent). slice_get ss w.number) sent_same ∙ w.sent;
        receiver = w.receiver;
        sender = w.sender;
        bytes_are = w.bytes_are ∙ sym injected_is;
      }

comes_delivered : (before : List Line) (n : ℕ) → IsDelivered before n (delivery.Judged told.Perform) → AreFair (sent_in before)
    → (m : Sent)
    → slice_get (sent_in before) n ≡ Some m → IsServerOrClient m.from
comes_delivered before n p fair m found =
    let same : m ≡ p.message = some_same m p.message (sym found ∙ p.sent) in
    fair_sender m.from m.to p.tells.0 (fair n m found) (ap (λ (x : Sent). x.to) same ∙ p.tells.1)
  where
    some_same : (x y : Sent) → Some x ≡ Some y → x ≡ y
    some_same x y e = cc e

comes_judged : (before : List Line) (d : ℕ) → ArisesAt before (line.Judged d told.Perform)
    → Judges before (line.Judged d told.Perform) d (injected_in before d) told.Perform → AreFair (sent_in before)
    → unguessed before ≡ true → WasSent before d (injected_in before d)
comes_judged before d (lines, bytes, is) =
    subst (λ (h : List Line). Judges h (line.Judged d told.Perform) d (injected_in h d) told.Perform → AreFair (sent_in h)
    → unguessed h ≡ true → WasSent h d (injected_in h d)) (sym is) (comes_injected lines d bytes)

comes : (before : List Line) (l : Line) → JudgesAt before l → ArisesAt before l → AreFair (sent_in before)
    → ComesAt before l
comes before (line.Delivered n (delivery.Judged told.Perform)) touches arises fair =
    comes_delivered before n touches fair
comes before (line.Judged d told.Perform) touches arises fair = comes_judged before d arises touches fair
comes before l touches arises fair = tt

-- ---- a history

pub sources_hold : (h : List Line) → EachBehind HoldsAt [] h → AtEachLine ComesAt h
sources_hold h each before l after is =
    let here : HoldsAt before l = at_each_line HoldsAt h each before l after is in
    let front : EachBehind HoldsAt [] before =
    each_front HoldsAt [] before (l ∷ after) (subst (EachBehind HoldsAt []) is each) in
    comes before l (judges_of before l here) (arises_of before l here) (lines_fair [] before none_fair front)
