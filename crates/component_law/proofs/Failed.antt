-- The drives that failed, read off the lines.
use Rattle.std.proofs.Common.{◌≡◌, ℕ, ◌==◌, ◌∷◌, [], List, Bool, true, false, Option, Some, None, slice_get, refl, sym, ap, ◌∙◌, arith, inl, inr}
use Rattle.std.specs.List.{fold}
use Rattle.std.specs.Option.{option_map}
use Rattle.std.proofs.lemmas.Bool.{cases_Bool}
use Rattle.std.proofs.lemmas.Bool.Decides.{nat_tests}
use Rattle.scenario_text.specs.declared.event.Event.{Event}
use Rattle.scenario_text.specs.declared.event.Event.TheVariants as event
use Rattle.scenario_text.specs.declared.event.Machine.TheVariants as machine
use Rattle.scenario_text.specs.declared.line.Line.{Line}
use Rattle.scenario_text.specs.declared.line.Line.TheVariants as line
use Rattle.server_rules.specs.Numbers.{among}
use Rattle.world_history.specs.declared.messages.Sent.{Sent}
use Rattle.world_history.specs.State.{DriveAt, at_number}
use Rattle.world_history.specs.Drives.{judges, raised, at_time, fallen, crashed, reopened, is_deaf}
use Rattle.world_history.specs.Reading.{is_head, is_drive, Step, Grouped, grouped_with, grouped, steps_of}
use Rattle.world_history.specs.ReadDrives.{DriveSeen, hears_bytes, hears_sent, where_it_is, drive_after_event, drive_after_line, sees_drive, drive_after}
use Rattle.world_history.specs.Refusals.{refusal, if_failed, unless_down}
use Rattle.world_history.proofs.Causes.{no_cause}
use Rattle.world_history.specs.Book.{server_step}
use Rattle.world_history.specs.Calm.{Seen, seen, sees, first_seen, begins, watched, mended_in, failed_after}
use Rattle.component_law.specs.Moments.{DeclaredHaveFailed}
use Rattle.component_law.proofs.Through.{through_failed}

-- ---- a list of those that failed, line by line

heads_fail : (ds : List ℕ) (t : Step) → List ℕ
heads_fail ds t = failed_after ds t.head

quiet_line : (ds : List ℕ) (l : Line) → is_head l ≡ false → failed_after ds l ≡ ds
quiet_line ds (line.Event e) q = absurd (cc q)
quiet_line ds l q = refl

with_head : (b : Bool) (ds : List ℕ) (l : Line) (g : Grouped) → is_head l ≡ b
    → fold heads_fail ds (grouped_with b l g).steps ≡ fold heads_fail (failed_after ds l) g.steps
unfolding heads_fail
with_head true ds l g e = refl
with_head false ds l g e = ap (λ (x : List ℕ). fold heads_fail x g.steps) (sym (quiet_line ds l e))

by_lines : (ds : List ℕ) (h : List Line) → fold heads_fail ds (grouped h).steps ≡ fold failed_after ds h
unfolding grouped
by_lines ds [] = refl
by_lines ds (l ∷ ls) = with_head (is_head l) ds l (grouped ls) refl ∙ by_lines (failed_after ds l) ls

by_steps : (s : Seen) (ts : List Step) → (fold sees s ts).moment.failed ≡ fold heads_fail s.moment.failed ts
unfolding heads_fail
by_steps s [] = refl
by_steps s (t ∷ ts) =
    by_steps (sees s t) ts
    ∙ ap (λ (x : List ℕ). fold heads_fail x ts)
    (through_failed (mended_in (server_step s.server t))
    (watched (record { moment = s.moment; calm = s.calm }) (begins s t (server_step s.server t))) t.rest)

pub failed_in : (h : List Line) → (seen h).moment.failed ≡ fold failed_after [] h
failed_in h = by_steps first_seen (steps_of h) ∙ by_lines [] h

-- ---- a drive that failed is among them

abbrev pub has_failed : Option DriveAt → Bool
has_failed None = false
has_failed (Some a) = a.failed

stays_failed : (f : DriveAt → DriveAt) → ((a : DriveAt) → (f a).failed ≡ a.failed) → (o : Option DriveAt)
    → has_failed (option_map f o) ≡ has_failed o
stays_failed f h None = refl
stays_failed f h (Some a) = h a

where_failed : (k d : ℕ) (f : DriveAt → DriveAt) → ((a : DriveAt) → (f a).failed ≡ a.failed) → (o : Option DriveAt)
    → has_failed (where_it_is k d f o) ≡ has_failed o
where_failed k d f h o = elim (cases_Bool (k == d)) [
  | inl t ↦ rw t (stays_failed f h o)
  | inr z ↦ rw z refl
]

heard_failed : (bytes : List ℕ) (a : DriveAt) → (hears_bytes bytes a).failed ≡ a.failed
unfolding judges
heard_failed bytes a = elim (cases_Bool (is_deaf a)) [ inl t ↦ rw t refl | inr z ↦ rw z refl ]

sent_failed : (d : ℕ) (a : Option DriveAt) (m : Option Sent) → has_failed (hears_sent d a m) ≡ has_failed a
sent_failed d a None = refl
sent_failed d a (Some m) = elim (cases_Bool (is_drive d m.to)) [
  | inl t ↦ rw t (stays_failed (hears_bytes m.bytes) (heard_failed m.bytes) a)
  | inr z ↦ rw z refl
]

more_failed : (d k : ℕ) (ds : List ℕ) (a : Option DriveAt) → (has_failed a ≡ true → among d ds ≡ true)
    → has_failed (where_it_is k d fallen a) ≡ true → among d (k ∷ ds) ≡ true
unfolding among
more_failed d k ds a h e = elim (cases_Bool (d == k)) [
  | inl t ↦ rw t refl
  | inr z ↦
      let other : (k == d) ≡ false = grind (arith, nat_tests, z) in
      rw z (h (rw other at e))
]

event_failed : (d : ℕ) (ds : List ℕ) (a : Option DriveAt) (e : Event) → (has_failed a ≡ true → among d ds ≡ true)
    → has_failed (drive_after_event d a e) ≡ true → among d (failed_after ds (line.Event e)) ≡ true
event_failed d ds a (event.Drive k key capacity) h q = elim (cases_Bool (k == d)) [
  | inl t ↦ absurd (cc (rw t at q))
  | inr z ↦ h (rw z at q)
]
event_failed d ds a (event.Disk k key capacity) h q = elim (cases_Bool (k == d)) [
  | inl t ↦ absurd (cc (rw t at q))
  | inr z ↦ h (rw z at q)
]
event_failed d ds a (event.Least k format) h q =
    h (sym (where_failed k d (λ x. raised x format) (λ x. refl) a) ∙ q)
event_failed d ds a (event.Clock (machine.Drive k) time) h q =
    h (sym (where_failed k d (λ x. at_time x time) (λ x. refl) a) ∙ q)
event_failed d ds a (event.Clock machine.Server time) h q = h q
event_failed d ds a (event.Fail k) h q = more_failed d k ds a h q
event_failed d ds a (event.Crash (machine.Drive k)) h q = h (sym (where_failed k d crashed (λ x. refl) a) ∙ q)
event_failed d ds a (event.Crash machine.Server) h q = h q
event_failed d ds a (event.Reopen (machine.Drive k)) h q = h (sym (where_failed k d reopened (λ x. refl) a) ∙ q)
event_failed d ds a (event.Reopen machine.Server) h q = h q
event_failed d ds a e h q = h q

line_failed : (d : ℕ) (ds : List ℕ) (s : DriveSeen) (l : Line) → (has_failed s.drive ≡ true → among d ds ≡ true)
    → has_failed (drive_after_line d s l) ≡ true → among d (failed_after ds l) ≡ true
line_failed d ds s (line.Event e) h q = event_failed d ds s.drive e h q
line_failed d ds s (line.Delivered number w) h q = h (sym (sent_failed d s.drive (slice_get s.sent number)) ∙ q)
line_failed d ds s (line.Judged k v) h q =
    h (sym (where_failed k d (hears_bytes s.injected) (heard_failed s.injected) s.drive) ∙ q)
line_failed d ds s l h q = h q

lines_failed : (d : ℕ) (ds : List ℕ) (s : DriveSeen) (ls : List Line) → (has_failed s.drive ≡ true → among d ds ≡ true)
    → has_failed (fold (sees_drive d) s ls).drive ≡ true → among d (fold failed_after ds ls) ≡ true
lines_failed d ds s [] h q = h q
lines_failed d ds s (l ∷ ls) h q =
    lines_failed d (failed_after ds l) (sees_drive d s l) ls (line_failed d ds s l h) q

pub failed_seen : (h : List Line) (d : ℕ) → has_failed (drive_after h d) ≡ true → among d (seen h).moment.failed ≡ true
failed_seen h d e =
    ap (λ (ds : List ℕ). among d ds) (failed_in h)
    ∙ lines_failed d [] (record { sent = []; injected = []; drive = None }) h (λ q. absurd (cc q)) e

-- ---- a declaration that isn't refused

pub not_alive : (o : Option DriveAt) → if_failed o ≡ None → has_failed o ≡ true
not_alive None e = absurd (cc e)
not_alive (Some a) e = elim (cases_Bool a.failed) [ inl t ↦ t | inr z ↦ absurd (cc (rw z at e)) ]

pub declared_have_failed : DeclaredHaveFailed
unfolding refusal
declared_have_failed w h d is e =
    failed_seen h d (ap (λ (o : Option DriveAt). has_failed o) is
    ∙ not_alive (at_number w.drives d) (no_cause (if_failed (at_number w.drives d)) (unless_down w) e).0)
