-- The flag at the first moment of a step.
use Rattle.std.proofs.Common.{◌≡◌, ℕ, ◌==◌, ◌||◌, ◌&&◌, ◌++◌, ◌∷◌, [], List, Bool, true, false, not, true≢false, Option, Some, None, slice_get, refl, sym, ap, subst, ◌∙◌, inl, inr, eq-eqb, ne_eqb}
use Rattle.std.specs.List.{fold, list_any}
use Rattle.std.proofs.lemmas.Bool.{cases_Bool, cases_eq, or_left, or_right, and_parts, or_cases}
use Rattle.std.proofs.Math.Bool.{or-false, or_assoc}
use Rattle.osd_lists.proofs.Tests.{and_true, same_number}
use Rattle.osd_commands.specs.declared.commands.Command.{Command}
use Rattle.osd_commands.specs.Commands.{reading}
use Rattle.osd_drive.specs.Table.{is_write}
use Rattle.scenario_text.specs.declared.event.Event.{Event}
use Rattle.scenario_text.specs.declared.event.Event.TheVariants as event
use Rattle.scenario_text.specs.declared.line.Line.{Line}
use Rattle.scenario_text.specs.declared.line.Line.TheVariants as line
use Rattle.world_history.specs.declared.messages.Sent.{Sent}
use Rattle.world_history.specs.State.{at_number, without_number}
use Rattle.world_history.specs.Calm.{is_told_taken, returned_at}
use Rattle.world_calm.specs.declared.calls.LogEntry.{LogEntry}
use Rattle.world_calm.specs.declared.calm.Performed.{Performed}
use Rattle.world_calm.specs.declared.files.StripeOf.{StripeOf}
use Rattle.world_calm.specs.declared.marks.Marked.{Marked}
use Rattle.world_calm.specs.declared.marks.NewMark.{NewMark}
use Rattle.world_calm.specs.Read.{command_of}
use Rattle.world_calm.specs.Log.{LogState, finished_with, finished}
use Rattle.world_calm.specs.Files.{FilesState, is_short_at, stripes_at}
use Rattle.world_calm.specs.Marking.{is_of, last_is, and_stripe, first_mark, marked, unmarked, is_left_by, is_left, leaves, left, any_short, is_harmed, any_harmed, is_newly_harmed, any_newly_harmed}
use Rattle.world_calm.specs.Seeing.{CalmState, KeptOf, numbers_in, taken_if, taken_by, takes, opened, opened_by, mark_of, harms, marks_one, marks_all, marks_for, performs_command, performs_sent, performs_for, performs, begun, looked_at, is_fail, begins}
use Rattle.component_law.specs.Words.{Each}
use Rattle.calm_law.specs.Marks.{IsReal}
use Rattle.calm_law.specs.Flagging.{AreReal, BeginIsSeen}
use Rattle.component_law.proofs.Members.{here, among_in}
use Rattle.calm_law.proofs.Marking.{real_still}
use Rattle.calm_law.proofs.Performing.{first_place, later_place, last_among}

-- ---- harmed by what is left now

abbrev harmed_now : (stopped : List ℕ) → KeptOf → FilesState → Marked → Bool
harmed_now stopped kept fs m = is_left stopped kept m && any_short fs m.file m.stripes

abbrev any_now : (stopped : List ℕ) → KeptOf → FilesState → List Marked → Bool
any_now stopped kept fs ms = list_any (harmed_now stopped kept fs) ms

-- it is what the marks say once it is kept which are left
left_now : (stopped : List ℕ) (kept : KeptOf) (fs : FilesState) (ms : List Marked)
    → any_harmed fs (left stopped kept ms) ≡ any_now stopped kept fs ms
left_now stopped kept fs [] = refl
left_now stopped kept fs (m ∷ ms) =
    ap (λ (b : Bool). harmed_now stopped kept fs m || b) (left_now stopped kept fs ms)

-- what is newly harmed is harmed
newly_now : (stopped : List ℕ) (kept : KeptOf) (fs : FilesState) (ms : List Marked)
    → any_newly_harmed stopped kept fs ms ≡ true → any_now stopped kept fs ms ≡ true
newly_now stopped kept fs [] e = e
newly_now stopped kept fs (m ∷ ms) e =
    elim (or_cases (is_newly_harmed stopped kept fs m) (any_newly_harmed stopped kept fs ms) e) [
      | inl a ↦ rw (one m.left (is_left stopped kept m) (any_short fs m.file m.stripes) a) refl
      | inr b ↦ later (harmed_now stopped kept fs m) (any_now stopped kept fs ms) (newly_now stopped kept fs ms b)
    ]
  where
    one : (a b c : Bool) → ((not a && b) && c) ≡ true → (b && c) ≡ true
    one true b c e = absurd (true≢false (sym e))
    one false b c e = e

    later : (a b : Bool) → b ≡ true → (a || b) ≡ true
    later true b e = refl
    later false b e = e

-- and where nothing was, what is harmed is newly so
now_newly : (stopped : List ℕ) (kept : KeptOf) (fs : FilesState) (ms : List Marked) → any_harmed fs ms ≡ false
    → any_now stopped kept fs ms ≡ any_newly_harmed stopped kept fs ms
now_newly stopped kept fs [] q = refl
now_newly stopped kept fs (m ∷ ms) q =
    let n : (is_harmed fs m ≡ false) × (any_harmed fs ms ≡ false) = neither (is_harmed fs m) (any_harmed fs ms) q in
    ap (λ (b : Bool). b || any_now stopped kept fs ms) (one m.left (is_left stopped kept m) (any_short fs m.file m.stripes) n.0)
    ∙ ap (λ (b : Bool). is_newly_harmed stopped kept fs m || b) (now_newly stopped kept fs ms n.1)
  where
    one : (a b c : Bool) → (a && c) ≡ false → (b && c) ≡ ((not a && b) && c)
    one true true c e = e
    one true false c e = refl
    one false b c e = refl

    neither : (a b : Bool) → (a || b) ≡ false → (a ≡ false) × (b ≡ false)
    neither true b e = absurd (true≢false e)
    neither false b e = (refl, e)

-- ---- a mark more

short_more : (fs : FilesState) (f t : ℕ) (ss : List ℕ) → any_short fs f (ss ++ t ∷ []) ≡ (any_short fs f ss || is_short_at fs f t)
short_more fs f t [] = or-false (is_short_at fs f t)
short_more fs f t (s ∷ ss) =
    ap (λ (b : Bool). is_short_at fs f s || b) (short_more fs f t ss)
    ∙ sym (or_assoc (is_short_at fs f s) (any_short fs f ss) (is_short_at fs f t))

-- the stripe that was marked last is among them
short_last : (fs : FilesState) (f t : ℕ) (ss : List ℕ) → last_is t ss ≡ true
    → any_short fs f ss ≡ (any_short fs f ss || is_short_at fs f t)
short_last fs f t ss e = elim (cases_Bool (is_short_at fs f t)) [
  | inl y ↦ elim (last_among t false ss e) [
    | inl z ↦ absurd (true≢false (sym z))
    | inr l ↦
        let h : any_short fs f ss ≡ true = here (λ (s : ℕ). is_short_at fs f s) ss t (among_in t ss l) y in
        h ∙ sym (ap (λ (b : Bool). b || is_short_at fs f t) h)
  ]
  | inr z ↦ sym (ap (λ (b : Bool). any_short fs f ss || b) z ∙ or-false (any_short fs f ss))
]

short_stripe : (fs : FilesState) (f t : ℕ) (m : Marked)
    → any_short fs f (and_stripe t m).stripes ≡ (any_short fs f m.stripes || is_short_at fs f t)
short_stripe fs f t m = elim (cases_Bool (last_is t m.stripes)) [
  | inl e ↦ rw e (short_last fs f t m.stripes e)
  | inr z ↦ rw z (short_more fs f t m.stripes)
]

same_file : (t : ℕ) (m : Marked) → (and_stripe t m).file ≡ m.file
same_file t m = elim (cases_Bool (last_is t m.stripes)) [ inl e ↦ rw e refl | inr z ↦ rw z refl ]

same_left : (stopped : List ℕ) (kept : KeptOf) (t : ℕ) (m : Marked)
    → is_left stopped kept (and_stripe t m) ≡ is_left stopped kept m
same_left stopped kept t m = elim (cases_Bool (last_is t m.stripes)) [ inl e ↦ rw e refl | inr z ↦ rw z refl ]

same_leaves : (stopped : List ℕ) (kept : KeptOf) (t : ℕ) (m : Marked)
    → leaves stopped kept (and_stripe t m) ≡ leaves stopped kept m
same_leaves stopped kept t m = elim (cases_Bool (last_is t m.stripes)) [ inl e ↦ rw e refl | inr z ↦ rw z refl ]

spread : (a b c : Bool) → (a && (b || c)) ≡ ((a && b) || (a && c))
spread true b c = refl
spread false b c = refl

turned : (a b c : Bool) → ((a || b) || c) ≡ ((a || c) || b)
turned true b c = refl
turned false true true = refl
turned false true false = refl
turned false false c = sym (or-false c)

-- one of the same entry has its client and its grant
left_same : (stopped : List ℕ) (kept : KeptOf) (es : List LogEntry) (m : Marked) (k : NewMark)
    → is_of k.write k.file m ≡ true → IsReal es m → IsReal es (first_mark k)
    → is_left stopped kept m ≡ is_left_by stopped kept k.client k.grant k.file
left_same stopped kept es m k e r q =
    let b : ((m.write == k.write) ≡ true) × ((m.file == k.file) ≡ true) = and_parts (m.write == k.write) (m.file == k.file) e in
    let it : Some (record { client = m.client; grant = m.grant; finished = false })
    ≡ Some (record { client = k.client; grant = k.grant; finished = false }) =
    sym r ∙ ap (λ (n : ℕ). slice_get es n) (same_number m.write k.write b.0) ∙ q in
    let entry : record { client = m.client; grant = m.grant; finished = false }
    ≡ record { client = k.client; grant = k.grant; finished = false } = cc it in
    ap (λ (x : LogEntry). is_left_by stopped kept x.client x.grant m.file) entry
    ∙ ap (λ (n : ℕ). is_left_by stopped kept k.client k.grant n) (same_number m.file k.file b.1)

now_one : (stopped : List ℕ) (kept : KeptOf) (fs : FilesState) (t : ℕ) (m : Marked)
    → harmed_now stopped kept fs (and_stripe t m)
    ≡ (harmed_now stopped kept fs m || (is_left stopped kept m && is_short_at fs m.file t))
now_one stopped kept fs t m =
    ap (λ (b : Bool). b && any_short fs (and_stripe t m).file (and_stripe t m).stripes) (same_left stopped kept t m)
    ∙ ap (λ (f : ℕ). is_left stopped kept m && any_short fs f (and_stripe t m).stripes) (same_file t m)
    ∙ ap (λ (b : Bool). is_left stopped kept m && b) (short_stripe fs m.file t m)
    ∙ spread (is_left stopped kept m) (any_short fs m.file m.stripes) (is_short_at fs m.file t)

abbrev harm_of : (stopped : List ℕ) → KeptOf → FilesState → NewMark → Bool
harm_of stopped kept fs k = is_left_by stopped kept k.client k.grant k.file && is_short_at fs k.file k.stripe

now_marked : (stopped : List ℕ) (kept : KeptOf) (fs : FilesState) (es : List LogEntry) (ms : List Marked) (k : NewMark)
    → Each (IsReal es) ms → IsReal es (first_mark k)
    → any_now stopped kept fs (marked ms k) ≡ (any_now stopped kept fs ms || harm_of stopped kept fs k)
now_marked stopped kept fs es [] k h r =
    or-false (is_left_by stopped kept k.client k.grant k.file && (is_short_at fs k.file k.stripe || false))
    ∙ ap (λ (b : Bool). is_left_by stopped kept k.client k.grant k.file && b) (or-false (is_short_at fs k.file k.stripe))
now_marked stopped kept fs es (m ∷ ms) k h r = elim (cases_Bool (is_of k.write k.file m)) [
  | inl t ↦ ap (any_now stopped kept fs) (first_place k m ms t)
      ∙ ap (λ (b : Bool). b || any_now stopped kept fs ms) (now_one stopped kept fs k.stripe m)
      ∙ ap (λ (b : Bool). (harmed_now stopped kept fs m || (b && is_short_at fs m.file k.stripe)) || any_now stopped kept fs ms)
      (left_same stopped kept es m k t h.0 r)
      ∙ ap (λ (n : ℕ). (harmed_now stopped kept fs m
      || (is_left_by stopped kept k.client k.grant k.file && is_short_at fs n k.stripe)) || any_now stopped kept fs ms)
      (same_number m.file k.file (and_parts (m.write == k.write) (m.file == k.file) t).1)
      ∙ turned (harmed_now stopped kept fs m) (harm_of stopped kept fs k) (any_now stopped kept fs ms)
  | inr z ↦ ap (any_now stopped kept fs) (later_place k m ms z)
      ∙ ap (λ (b : Bool). harmed_now stopped kept fs m || b) (now_marked stopped kept fs es ms k h.1 r)
      ∙ sym (or_assoc (harmed_now stopped kept fs m) (any_now stopped kept fs ms) (harm_of stopped kept fs k))
]

newly_one : (stopped : List ℕ) (kept : KeptOf) (fs : FilesState) (t : ℕ) (m : Marked)
    → is_newly_harmed stopped kept fs m ≡ true → is_newly_harmed stopped kept fs (and_stripe t m) ≡ true
newly_one stopped kept fs t m e =
    let b : (leaves stopped kept m ≡ true) × (any_short fs m.file m.stripes ≡ true) =
    and_parts (leaves stopped kept m) (any_short fs m.file m.stripes) e in
    ap (λ (x : Bool). x && any_short fs (and_stripe t m).file (and_stripe t m).stripes) (same_leaves stopped kept t m ∙ b.0)
    ∙ ap (λ (f : ℕ). any_short fs f (and_stripe t m).stripes) (same_file t m)
    ∙ short_stripe fs m.file t m ∙ or_left (any_short fs m.file m.stripes) (is_short_at fs m.file t) b.1

newly_marked : (stopped : List ℕ) (kept : KeptOf) (fs : FilesState) (ms : List Marked) (k : NewMark)
    → any_newly_harmed stopped kept fs ms ≡ true → any_newly_harmed stopped kept fs (marked ms k) ≡ true
newly_marked stopped kept fs [] k e = absurd (true≢false (sym e))
newly_marked stopped kept fs (m ∷ ms) k e = elim (cases_Bool (is_of k.write k.file m)) [
  | inl t ↦ ap (any_newly_harmed stopped kept fs) (first_place k m ms t)
      ∙ elim (or_cases (is_newly_harmed stopped kept fs m) (any_newly_harmed stopped kept fs ms) e) [
        | inl a ↦ or_left (is_newly_harmed stopped kept fs (and_stripe k.stripe m)) (any_newly_harmed stopped kept fs ms)
            (newly_one stopped kept fs k.stripe m a)
        | inr b ↦ or_right (is_newly_harmed stopped kept fs (and_stripe k.stripe m)) (any_newly_harmed stopped kept fs ms) b
      ]
  | inr z ↦ ap (any_newly_harmed stopped kept fs) (later_place k m ms z)
      ∙ elim (or_cases (is_newly_harmed stopped kept fs m) (any_newly_harmed stopped kept fs ms) e) [
        | inl a ↦ or_left (is_newly_harmed stopped kept fs m) (any_newly_harmed stopped kept fs (marked ms k)) a
        | inr b ↦ or_right (is_newly_harmed stopped kept fs m) (any_newly_harmed stopped kept fs (marked ms k))
            (newly_marked stopped kept fs ms k b)
      ]
]

-- ---- several

-- what the flag tells of the marks that come: t, whether one of them harms
record Adds (kept : KeptOf) (c d : CalmState) : Type 0 where
  harm : Bool
  calm : d.calm ≡ (c.calm && not harm)
  now : any_now c.stopped kept c.files d.marks ≡ (any_now c.stopped kept c.files c.marks || harm)
  newly : any_newly_harmed c.stopped kept c.files c.marks ≡ true
      → any_newly_harmed c.stopped kept c.files d.marks ≡ true
  files : d.files ≡ c.files
  stopped : d.stopped ≡ c.stopped

not_or : (a b c : Bool) → ((a && not b) && not c) ≡ (a && not (b || c))
not_or true true c = refl
not_or true false c = refl
not_or false b c = refl

adds_none : (kept : KeptOf) (c : CalmState) → Adds kept c c
adds_none kept c = record {
  harm = false;
  calm = and_true c.calm;
  now = sym (or-false (any_now c.stopped kept c.files c.marks));
  newly = λ e. e;
  files = refl;
  stopped = refl;
}

real_kept : (es : List LogEntry) (ms : List Marked) (k : NewMark) → Each (IsReal es) ms → IsReal es (first_mark k)
    → Each (IsReal es) (marked ms k)
real_kept es [] k h r = (r, tt)
real_kept es (m ∷ ms) k h r = elim (cases_Bool (is_of k.write k.file m)) [
  | inl t ↦ subst (Each (IsReal es)) (sym (first_place k m ms t)) (real_stripe (last_is k.stripe m.stripes) refl, h.1)
  | inr z ↦ subst (Each (IsReal es)) (sym (later_place k m ms z)) (h.0, real_kept es ms k h.1 r)
]
  where
    real_stripe : (b : Bool) → last_is k.stripe m.stripes ≡ b → IsReal es (and_stripe k.stripe m)
    real_stripe true e = rw e h.0
    real_stripe false e = rw e h.0

adds_all : (kept : KeptOf) (es : List LogEntry) (c : CalmState) (n : ℕ) (w : LogEntry) (xs : List StripeOf)
    → slice_get es n ≡ Some (record { client = w.client; grant = w.grant; finished = false }) → Each (IsReal es) c.marks
    → Adds kept c (marks_all kept c n w xs)
adds_all kept es c n w [] e h = adds_none kept c
adds_all kept es c n w (x ∷ xs) e h =
    let k : NewMark = mark_of n w x in
    let a : Adds kept (marks_one kept c k) (marks_all kept (marks_one kept c k) n w xs) =
    adds_all kept es (marks_one kept c k) n w xs e (real_kept es c.marks k h e) in
    record {
      harm = harms kept c k || a.harm;
      calm = a.calm ∙ not_or c.calm (harms kept c k) a.harm;
      now = a.now ∙ ap (λ (b : Bool). b || a.harm) (now_marked c.stopped kept c.files es c.marks k h e)
          ∙ or_assoc (any_now c.stopped kept c.files c.marks) (harms kept c k) a.harm;
      newly = λ q. a.newly (newly_marked c.stopped kept c.files c.marks k q);
      files = a.files;
      stopped = a.stopped;
    }

adds_for : (kept : KeptOf) (c : CalmState) (d : ℕ) (x : Command) (n : ℕ) (o : Option LogEntry)
    → slice_get c.log.entries n ≡ o → AreReal c → Adds kept c (marks_for kept c d x n o)
adds_for kept c d x n None e h = adds_none kept c
adds_for kept c d x n (Some w) e h = elim (cases_Bool w.finished) [
  | inl t ↦ rw t (adds_none kept c)
  | inr z ↦ rw z (adds_all kept c.log.entries c n w (stripes_at c.files d x.object x.offset)
      (e ∙ ap (λ (b : Bool). Some (record { client = w.client; grant = w.grant; finished = b })) z) h)
]

adds_command : (kept : KeptOf) (c : CalmState) (d n : ℕ) (o : Option Command) → AreReal c
    → Adds kept c (performs_command kept c d n o)
adds_command kept c d n None h = adds_none kept c
adds_command kept c d n (Some x) h = elim (cases_Bool (is_write x.action)) [
  | inl t ↦ rw t (adds_for kept c d x n (slice_get c.log.entries n) refl h)
  | inr z ↦ rw z (adds_none kept c)
]

adds_sent : (kept : KeptOf) (c : CalmState) (d n : ℕ) (o : Option Sent) → AreReal c
    → Adds kept c (performs_sent kept c d n o)
adds_sent kept c d n None h = adds_none kept c
adds_sent kept c d n (Some s) h = adds_command kept c d n (command_of (reading s.bytes)) h

adds_by : (kept : KeptOf) (c : CalmState) (ms : List Sent) (p : Performed) (o : Option ℕ) → AreReal c
    → Adds kept c (performs_for kept c ms p o)
adds_by kept c ms p None h = adds_none kept c
adds_by kept c ms p (Some n) h = adds_sent kept c p.drive n (slice_get ms p.message) h

performs_adds : (kept : KeptOf) (c : CalmState) (ms : List Sent) (p : Option Performed) → AreReal c
    → Adds kept c (performs kept c ms p)
performs_adds kept c ms None h = adds_none kept c
performs_adds kept c ms (Some p) h = adds_by kept c ms p (at_number c.log.sent_for p.message) h

-- ---- a report that is taken

record Fewer (c d : CalmState) : Type 0 where
  calm : d.calm ≡ c.calm
  quiet : any_harmed c.files c.marks ≡ false → any_harmed d.files d.marks ≡ false
  real : AreReal c → AreReal d

fewer_none : (c : CalmState) → Fewer c c
fewer_none c = record { calm = refl; quiet = λ q. q; real = λ h. h }

pub quiet_unmarked : (fs : FilesState) (ms : List Marked) (w : ℕ) → any_harmed fs ms ≡ false
    → any_harmed fs (unmarked ms w) ≡ false
quiet_unmarked fs [] w q = refl
quiet_unmarked fs (m ∷ ms) w q = elim (cases_Bool (m.write == w)) [
  | inl t ↦ rw t (quiet_unmarked fs ms w (rest (is_harmed fs m) (any_harmed fs ms) q).1)
  | inr z ↦ rw z (two (is_harmed fs m) (any_harmed fs (unmarked ms w)) (rest (is_harmed fs m) (any_harmed fs ms) q).0
      (quiet_unmarked fs ms w (rest (is_harmed fs m) (any_harmed fs ms) q).1))
]
  where
    rest : (a b : Bool) → (a || b) ≡ false → (a ≡ false) × (b ≡ false)
    rest true b e = absurd (true≢false e)
    rest false b e = (refl, e)

    two : (a b : Bool) → a ≡ false → b ≡ false → (a || b) ≡ false
    two a b e f = rw e f

real_fewer : (es : List LogEntry) (ms : List Marked) (w : ℕ) → Each (IsReal es) ms
    → Each (IsReal (finished_with es w (slice_get es w))) (unmarked ms w)
real_fewer es [] w h = tt
real_fewer es (m ∷ ms) w h = elim (cases_eq m.write w) [
  | inl same ↦ rw (eq-eqb m.write w same) (real_fewer es ms w h.1)
  | inr apart ↦ rw (ne_eqb m.write w apart)
      (real_still es m w (slice_get es w) (λ q. apart (sym q)) h.0, real_fewer es ms w h.1)
]

all_quiet : (fs : FilesState) (ms : List Marked) (ns : List ℕ) → any_harmed fs ms ≡ false
    → any_harmed fs (fold unmarked ms ns) ≡ false
all_quiet fs ms [] q = q
all_quiet fs ms (n ∷ ns) q = all_quiet fs (unmarked ms n) ns (quiet_unmarked fs ms n q)

all_real : (l : LogState) (ms : List Marked) (ns : List ℕ) → Each (IsReal l.entries) ms
    → Each (IsReal (fold finished l ns).entries) (fold unmarked ms ns)
all_real l ms [] h = h
all_real l ms (n ∷ ns) h = all_real (finished l n) (unmarked ms n) ns (real_fewer l.entries ms n h)

told_fewer : (c : CalmState) (told : Bool) (g : ℕ) → Fewer c (taken_if c told g)
told_fewer c false g = fewer_none c
told_fewer c true g = record {
  calm = refl;
  quiet = all_quiet c.files c.marks (numbers_in (at_number c.log.by_grant g));
  real = all_real (record c.log { by_grant = without_number c.log.by_grant g }) c.marks
      (numbers_in (at_number c.log.by_grant g));
}

takes_fewer : (c : CalmState) (rest : List Line) (o : Option ℕ) → Fewer c (taken_by c rest o)
takes_fewer c rest None = fewer_none c
takes_fewer c rest (Some g) = told_fewer c (is_told_taken rest) g

-- ---- the event

record Opens (c d : CalmState) (fails : Bool) : Type 0 where
  calm : d.calm ≡ c.calm
  marks : d.marks ≡ c.marks
  log : d.log ≡ c.log
  files : fails ≡ false → d.files ≡ c.files

event_opens : (c : CalmState) (e : Event) → Opens c (opened_by c e) (is_fail (line.Event e))
event_opens c (event.Fail d) = record { calm = refl; marks = refl; log = refl; files = λ q. absurd (true≢false q) }
event_opens c (event.Stop k) = record { calm = refl; marks = refl; log = refl; files = λ q. refl }
event_opens c e = record { calm = refl; marks = refl; log = refl; files = λ q. refl }

line_opens : (c : CalmState) (l : Line) → Opens c (opened c l) (is_fail l)
line_opens c (line.Event e) = event_opens c e
line_opens c l = record { calm = refl; marks = refl; log = refl; files = λ q. refl }

-- ---- the flag

-- where a drive fails all is looked at
fail_flag : (c t n g h : Bool) → g ≡ (h || t) → (n ≡ true → g ≡ true)
    → (((c && not t) && not n) && not g) ≡ (c && not g)
fail_flag false t n g h e f = refl
fail_flag true true n g h e f =
    let all : g ≡ true = e ∙ or_right h true refl in
    rw all refl
fail_flag true false true g h e f = rw (f refl) refl
fail_flag true false false g h e f = refl

-- else only what changed
other_flag : (c t n m g h : Bool) → g ≡ (h || t) → (n ≡ true → g ≡ true) → (m ≡ true → n ≡ true)
    → (c ≡ true → h ≡ m) → ((c && not t) && not n) ≡ (c && not g)
other_flag false t n m g h e f k q = refl
other_flag true true n m g h e f k q =
    let all : g ≡ true = e ∙ or_right h true refl in
    rw all refl
other_flag true false true m g h e f k q = rw (f refl) refl
other_flag true false false true g h e f k q = absurd (true≢false (sym (k refl)))
other_flag true false false false g h e f k q =
    let none : g ≡ false = e ∙ or-false h ∙ q refl in
    rw none refl

begin_flag : (kept : KeptOf) (c d : CalmState) (head : Line) → Adds kept c d
    → (is_fail head ≡ false → c.calm ≡ true → any_harmed c.files c.marks ≡ false)
    → (looked_at (begun kept d) head).calm
    ≡ (c.calm && not (any_harmed (looked_at (begun kept d) head).files (looked_at (begun kept d) head).marks))
begin_flag kept c d head a q = elim (cases_Bool (is_fail head)) [
  | inl t ↦ rw t (rw (left_now d.stopped kept d.files d.marks, a.files, a.stopped, a.calm)
      (fail_flag c.calm a.harm (any_newly_harmed c.stopped kept c.files d.marks) (any_now c.stopped kept c.files d.marks)
      (any_now c.stopped kept c.files c.marks) a.now (newly_now c.stopped kept c.files d.marks)))
  | inr z ↦ rw z (rw (left_now d.stopped kept d.files d.marks, a.files, a.stopped, a.calm)
      (other_flag c.calm a.harm (any_newly_harmed c.stopped kept c.files d.marks)
      (any_newly_harmed c.stopped kept c.files c.marks) (any_now c.stopped kept c.files d.marks)
      (any_now c.stopped kept c.files c.marks) a.now (newly_now c.stopped kept c.files d.marks) a.newly
      (λ e. now_newly c.stopped kept c.files c.marks (q z e))))
]

pub begin_is_seen : BeginIsSeen
begin_is_seen kept c ms head rest p q r =
    let c1 : CalmState = takes c ms head rest in
    let f : Fewer c c1 = takes_fewer c rest (returned_at ms head) in
    let o : Opens c1 (opened c1 head) (is_fail head) = line_opens c1 head in
    let real : AreReal (opened c1 head) =
    subst (λ (l : LogState). Each (IsReal l.entries) (opened c1 head).marks) (sym o.log)
    (subst (Each (IsReal c1.log.entries)) (sym o.marks) (f.real r)) in
    begin_flag kept (opened c1 head) (performs kept (opened c1 head) ms p) head
    (performs_adds kept (opened c1 head) ms p real)
    (λ z e. ap (λ (fs : FilesState). any_harmed fs (opened c1 head).marks) (o.files z)
    ∙ ap (any_harmed c1.files) o.marks ∙ f.quiet (q (sym f.calm ∙ sym o.calm ∙ e)))
    ∙ ap (λ (b : Bool). b && not (any_harmed (begins kept c ms head rest p).files (begins kept c ms head rest p).marks))
    (o.calm ∙ f.calm)
