-- What a call does with the drives goes on, or ends as what it met tells.
use Rattle.std.proofs.Common.{◌≡◌, ◌<◌, ℕ, ◌+◌, ◌/◌, ◌==◌, Bool, true, false, List, [], ◌∷◌, Option, Some, None, length, refl, sym, ap, ◌∙◌, inl, inr, arith, eq-eqb, if◌then◌else◌}
use Rattle.std.proofs.lemmas.Bool.{cases_eq, eqb-true}
use Rattle.stripe_plan.specs.Touched.{stripes}
use Rattle.stripe_plan.specs.Lost.{unreadable}
use Rattle.data_map.specs.Striping.{replicas}
use Rattle.client_rules.specs.declared.limits.TheConstants.{PERFORMED, OTHER_TAG}
use Rattle.world_history.specs.ClientNames.{CallOp, Write, Read, Held, Awaited, TimedOut, Io, Need, First, Get, Commit, Report, Close, Phase, Starts, Needs, Waits, Reads, Probes, Gathers, Scatters, Outcome, WriteOk, ReadOk, Lost, Silent, Turn, Goes, Ends, Forgets, Moved, Reply, Column, Store}
use Rattle.client_rules.specs.Calls.{span_of, is_write, bytes_of}
use Rattle.client_rules.specs.Commands.{of_component, counted, nonce_at}
use Rattle.client_rules.specs.Grants.{clipped}
use Rattle.client_rules.specs.Io.{outs, awaited_in}
use Rattle.client_rules.specs.Reads.{reads_on, reads_unless, reads, probes_on, probes_by, probes, is_probe_lost}
use Rattle.client_rules.specs.Turns.{turned}
use Rattle.client_rules.specs.Writes.{accounted, is_past_size, written, scatters_on, scatters, scatters_next, gathers_on, gathers, is_too_short}
use Rattle.client_rules.specs.Replies.{refusal, refused, performed, replied, timed_after, gather_timed, scatter_timed, timed_out}
use Rattle.client_rules.specs.Going.{begins}
use Rattle.client_rules.proofs.Apart.{IsIn}
use Rattle.cause_law.specs.Met as met
use Rattle.cause_law.specs.Met.{Met, Replied, timed_in, out_in, probe_lost, range_lost, as_lost, lost_under, rising_with, failure_at}
use Rattle.cause_law.proofs.Fetching.{NoReplies, Holds, Fetching, holds_none, fetching_sent, fetching_counted, fetching_replied, holds_timed, Answers, put_of}
use Rattle.cause_law.proofs.Trace.{comps, timed_more, outs_are, Works, performed_works, timed_works, read_beyond, write_beyond, EndsSo, last_says, lost_write, Decided, decided_ends, refused_decided, timed_decided}

-- ---- a phase under a grant

-- a read goes on, since nothing that it asks is lost
pub record ReadsOn (h : Held) (op : CallOp) (ms : List Met) (timed : List TimedOut) (empty : Bool) : Type 0 where
  pub reads : is_write op ≡ false
  pub works : Works op ms timed
  pub range : ((clipped h.size (span_of op)).length == 0) ≡ empty
  pub finds : range_lost h (clipped h.size (span_of op)) (out_in h ms) ≡ None

-- so does a write
pub record WritesOn (op : CallOp) (ms : List Met) (timed : List TimedOut) : Type 0 where
  pub writes : is_write op ≡ true
  pub works : Works op ms timed

-- what the call needs of the server once it has begun
abbrev pub GoodNeed : CallOp → Need → List Met → Type 0
GoodNeed op First ms = ⊥
GoodNeed op (Get tries) ms = ⊥
GoodNeed op (Commit timed) ms = WritesOn op ms timed
GoodNeed op (Report []) ms = ⊥
GoodNeed op (Report (t ∷ ts)) ms = WritesOn op ms (t ∷ ts)
GoodNeed op (Close o report) ms = Decided op ms o

abbrev pub GoodPhase : Held → CallOp → Phase → List Met → Type 0
GoodPhase h op Starts ms = ⊥
GoodPhase h op (Needs n) ms = GoodNeed op n ms
GoodPhase h op (Waits n) ms = ⊥
GoodPhase h op (Reads io) ms =
    ReadsOn h op ms io.timed false × Fetching h op io.got io.timed io.awaited (nonce_at h h.count) ms
GoodPhase h op (Probes io) ms = ReadsOn h op ms io.timed true
GoodPhase h op (Gathers io) ms = WritesOn op ms io.timed
GoodPhase h op (Scatters io queue) ms = WritesOn op ms io.timed

-- ---- a turn

unfoldable pub GoodTurn : Held → Held → CallOp → Turn → List Met → Type 0
GoodTurn h k op (Goes p) ms = GoodPhase k op p ms
GoodTurn h k op (Ends o) ms = EndsSo (Some h) op ms o
GoodTurn h k op (Forgets o) ms = EndsSo (Some h) op ms o

pub record GoodMoved (h : Held) (op : CallOp) (m : Moved) (ms : List Met) : Type 0 where
  pub file : m.held.file ≡ h.file
  pub turn : GoodTurn h m.held op m.turn ms

goes : (h k : Held) (op : CallOp) (p : Phase) (ms : List Met) → GoodPhase k op p ms → GoodTurn h k op (Goes p) ms
unfolding GoodTurn
goes h k op p ms x = x

ends : (h k : Held) (op : CallOp) (o : Outcome) (ms : List Met) → EndsSo (Some h) op ms o → GoodTurn h k op (Ends o) ms
unfolding GoodTurn
ends h k op o ms x = x

forgets : (h k : Held) (op : CallOp) (o : Outcome) (ms : List Met) → EndsSo (Some h) op ms o
    → GoodTurn h k op (Forgets o) ms
unfolding GoodTurn
forgets h k op o ms x = x

pub either_turn : (h k : Held) (op : CallOp) (ms : List Met) (b : Bool) (t u : Turn) → (b ≡ true → GoodTurn h k op t ms)
    → (b ≡ false → GoodTurn h k op u ms) → GoodTurn h k op (if b then t else u) ms
either_turn h k op ms true t u x y = x refl
either_turn h k op ms false t u x y = y refl

either : (h : Held) (op : CallOp) (ms : List Met) (b : Bool) (m n : Moved) → (b ≡ true → GoodMoved h op m ms)
    → (b ≡ false → GoodMoved h op n ms) → GoodMoved h op (if b then m else n) ms
either h op ms true m n x y = x refl
either h op ms false m n x y = y refl

pub turned_good : (h : Held) (op : CallOp) (t : Turn) (ms : List Met) → GoodTurn h h op t ms → GoodMoved h op (turned h t) ms
turned_good h op t ms x = record { file = refl; turn = x }

-- ---- reads

-- it is answered
read_ends : (h : Held) (op : CallOp) (ms : List Met) (timed : List TimedOut) (empty : Bool) (bytes : List ℕ)
    → ReadsOn h op ms timed empty → failure_at op ms ≡ None → Answers (Some h) op ms (ReadOk bytes)
    → EndsSo (Some h) op ms (ReadOk bytes)
read_ends h op ms timed empty bytes r none x =
    let kept : lost_under op ms (Some h) ≡ None = rw r.reads (ap as_lost r.finds) in
    record { cause = last_says (Some h) op ms timed r.works kept ∙ none; whole = tt; answer = x }

-- what it asks is lost
read_loses : (h : Held) (op : CallOp) (ms : List Met) (timed : List TimedOut) (ps : List ℕ) → is_write op ≡ false
    → Works op ms timed
    → range_lost h (clipped h.size (span_of op)) (out_in h ms) ≡ Some ps → EndsSo (Some h) op ms (Lost ps)
read_loses h op ms timed ps reads w lost =
    let there : lost_under op ms (Some h) ≡ Some (Lost ps) = rw reads (ap as_lost lost) in
    record { cause = rw (w.busy, w.refusal, w.beyond, there) refl; whole = tt; answer = tt }

counted_reads : (h : Held) (op : CallOp) (ms : List Met) (timed : List TimedOut) (empty : Bool) (sent : List Awaited)
    → ReadsOn h op ms timed empty → ReadsOn (counted h sent) op ms timed empty
unfolding range_lost
counted_reads h op ms timed empty sent r =
    record { reads = r.reads; works = r.works; range = r.range; finds = r.finds }

some_bytes : (n : ℕ) → (n == 0) ≡ false → 0 < n
some_bytes n e = elim (cases_eq n 0) [
  | inl none ↦ absurd (cc (sym (eq-eqb n 0 none) ∙ e))
  | inr some ↦ omega (arith, some)
]

reads_on_good : (h : Held) (op : CallOp) (got : List Column) (timed : List TimedOut) (sent awaited : List Awaited)
    (ms : List Met) → ReadsOn h op ms timed false → failure_at op ms ≡ None
    → (top : ℕ) → top ≡ nonce_at h (h.count + length sent) → Fetching h op got timed awaited top ms
    → GoodMoved h op (reads_on h (clipped h.size (span_of op)) got timed sent awaited) ms
unfolding reads_on
reads_on_good h op got timed sent [] ms r none top e x =
    let put = put_of h op got timed top ms (outs_are h ms timed r.works.silent)
    (some_bytes (clipped h.size (span_of op)).length r.range) x in
    record { file = refl; turn = ends _ _ _ _ _ (read_ends h op ms timed false _ r none (h, refl, inr put)) }
reads_on_good h op got timed sent (a ∷ xs) ms r none top e x =
    record {
      file = refl;
      turn = goes _ _ _ _ _
          (counted_reads h op ms timed false sent r, fetching_counted h op got timed sent (a ∷ xs) top ms e x);
    }

reads_unless_good : (h : Held) (op : CallOp) (got : List Column) (timed : List TimedOut) (awaited : List Awaited)
    (ms : List Met) (o : Option (List ℕ)) → is_write op ≡ false → Works op ms timed
    → ((clipped h.size (span_of op)).length == 0) ≡ false
    → range_lost h (clipped h.size (span_of op)) (out_in h ms) ≡ o → failure_at op ms ≡ None
    → unreadable h.map (clipped h.size (span_of op)) (outs h timed) (stripes h.map (clipped h.size (span_of op))) ≡ o
    → Holds h got awaited ms
    → GoodMoved h op (reads_unless h (clipped h.size (span_of op)) got timed awaited o) ms
reads_unless_good h op got timed awaited ms (Some ps) reads w some lost none can x =
    turned_good h op (Ends (Lost ps)) ms (ends _ _ _ _ _ (read_loses h op ms timed ps reads w lost))
reads_unless_good h op got timed awaited ms None reads w some lost none can x =
    reads_on_good h op got timed _ _ ms (record { reads = reads; works = w; range = some; finds = lost }) none _ refl
    (fetching_sent h op got timed awaited ms (some_bytes (clipped h.size (span_of op)).length some) can x)

reads_good : (h : Held) (op : CallOp) (got : List Column) (timed : List TimedOut) (awaited : List Awaited) (ms : List Met)
    → is_write op ≡ false → Works op ms timed → ((clipped h.size (span_of op)).length == 0) ≡ false
    → failure_at op ms ≡ None → Holds h got awaited ms
    → GoodMoved h op (reads h (clipped h.size (span_of op)) got timed awaited) ms
unfolding reads range_lost
reads_good h op got timed awaited ms reads w some none x =
    reads_unless_good h op got timed awaited ms _ reads w some (rw (some, outs_are h ms timed w.silent) refl) none refl x

-- ---- reads of no byte

probes_on_good : (h : Held) (op : CallOp) (got : List Column) (timed : List TimedOut) (sent awaited : List Awaited)
    (ms : List Met) → ReadsOn h op ms timed true → failure_at op ms ≡ None
    → GoodMoved h op (probes_on h got timed sent awaited) ms
unfolding probes_on
probes_on_good h op got timed sent [] ms r none =
    let empty : (clipped h.size (span_of op)).length ≡ 0 = eqb-true (clipped h.size (span_of op)).length 0 r.range in
    record { file = refl; turn = ends _ _ _ _ _ (read_ends h op ms timed true _ r none (h, refl, inl (empty, refl))) }
probes_on_good h op got timed sent (a ∷ xs) ms r none =
    record { file = refl; turn = goes _ _ _ _ _ (counted_reads h op ms timed true sent r) }

probes_by_good : (h : Held) (op : CallOp) (got : List Column) (timed : List TimedOut) (awaited : List Awaited)
    (ms : List Met) (o : Option ℕ) → is_write op ≡ false → Works op ms timed
    → ((clipped h.size (span_of op)).length == 0) ≡ true
    → range_lost h (clipped h.size (span_of op)) (out_in h ms) ≡ probe_lost h (outs h timed) o → failure_at op ms ≡ None
    → GoodMoved h op (probes_by h got timed awaited o) ms
probes_by_good h op got timed awaited ms None reads w some lost none =
    turned_good h op _ ms (ends _ _ _ _ _ (read_loses h op ms timed _ reads w lost))
probes_by_good h op got timed awaited ms (Some k) reads w some lost none =
    either h op ms (is_probe_lost h.map (outs h timed) (k / replicas h.map)) _ _
    (λ is. turned_good h op _ ms (ends _ _ _ _ _ (read_loses h op ms timed _ reads w (rw is at lost))))
    (λ is. probes_on_good h op got timed _ _ ms
    (record { reads = reads; works = w; range = some; finds = rw is at lost }) none)

probes_good : (h : Held) (op : CallOp) (got : List Column) (timed : List TimedOut) (awaited : List Awaited) (ms : List Met)
    → is_write op ≡ false → Works op ms timed → ((clipped h.size (span_of op)).length == 0) ≡ true
    → failure_at op ms ≡ None → GoodMoved h op (probes h got timed awaited) ms
unfolding probes range_lost
probes_good h op got timed awaited ms reads w some none =
    probes_by_good h op got timed awaited ms _ reads w some (rw (some, outs_are h ms timed w.silent) refl) none

-- ---- writes

same_length : (op : CallOp) → is_write op ≡ true → (span_of op).length ≡ length (bytes_of op)
same_length (Write file offset bytes) is = refl
same_length (Read file offset count) is = absurd (cc is)

pub write_ends : (g : Option Held) (op : CallOp) (ms : List Met) (timed : List TimedOut) → WritesOn op ms timed
    → failure_at op ms ≡ None → EndsSo g op ms (WriteOk (span_of op).length)
write_ends g op ms timed w none = record {
  cause = last_says g op ms timed w.works (lost_write g op ms w.writes) ∙ none;
  whole = same_length op w.writes;
  answer = tt;
}

pub accounted_good : (h k : Held) (op : CallOp) (timed : List TimedOut) (ms : List Met) → WritesOn op ms timed
    → failure_at op ms ≡ None → GoodTurn h k op (accounted op timed) ms
accounted_good h k op [] ms w none = ends _ _ _ _ _ (write_ends (Some h) op ms [] w none)
accounted_good h k op (t ∷ ts) ms w none = goes _ _ _ _ _ w

written_good : (h k : Held) (op : CallOp) (timed : List TimedOut) (ms : List Met) → WritesOn op ms timed
    → failure_at op ms ≡ None → GoodTurn h k op (written h op timed) ms
unfolding written
written_good h k op timed ms w none =
    either_turn h k op ms (is_past_size h op) _ _ (λ is. goes _ _ _ _ _ w) (λ is. accounted_good h k op timed ms w none)

scatters_on_good : (h : Held) (op : CallOp) (timed : List TimedOut) (queue : List Store) (sent awaited : List Awaited)
    (ms : List Met) → WritesOn op ms timed → failure_at op ms ≡ None
    → GoodMoved h op (scatters_on h op timed queue sent awaited) ms
unfolding scatters_on
scatters_on_good h op timed queue sent [] ms w none = record { file = refl; turn = written_good h _ op timed ms w none }
scatters_on_good h op timed queue sent (a ∷ xs) ms w none = record { file = refl; turn = goes _ _ _ _ _ w }

scatters_good : (h : Held) (op : CallOp) (got : List Column) (timed : List TimedOut) (ms : List Met)
    → WritesOn op ms timed → failure_at op ms ≡ None → GoodMoved h op (scatters h op got timed) ms
unfolding scatters
scatters_good h op got timed ms w none = scatters_on_good h op timed _ _ _ ms w none

gathers_on_good : (h : Held) (op : CallOp) (got : List Column) (timed : List TimedOut) (sent awaited : List Awaited)
    (ms : List Met) → WritesOn op ms timed → failure_at op ms ≡ None
    → GoodMoved h op (gathers_on h op got timed sent awaited) ms
unfolding gathers_on
gathers_on_good h op got timed sent [] ms w none = scatters_good h op got timed ms w none
gathers_on_good h op got timed sent (a ∷ xs) ms w none = record { file = refl; turn = goes _ _ _ _ _ w }

gathers_good : (h : Held) (op : CallOp) (got : List Column) (timed : List TimedOut) (awaited : List Awaited)
    (ms : List Met) → WritesOn op ms timed → failure_at op ms ≡ None
    → GoodMoved h op (gathers h op got timed awaited) ms
unfolding gathers
gathers_good h op got timed awaited ms w none = gathers_on_good h op got timed _ _ ms w none

-- ---- a call begins

pub begins_good : (h : Held) (op : CallOp) (ms : List Met) → Works op ms [] → failure_at op ms ≡ None → NoReplies ms
    → GoodMoved h op (begins h op) ms
unfolding begins
begins_good h op ms w none quiet =
    either h op ms (is_write op) _ _
    (λ is. gathers_good h op [] [] [] ms (record { writes = is; works = w }) none)
    (λ is. either h op ms ((clipped h.size (span_of op)).length == 0) _ _
    (λ some. probes_good h op [] [] [] ms is w some none)
    (λ some. reads_good h op [] [] [] ms is w some none (holds_none h ms quiet)))

-- ---- a reply

performed_good : (h : Held) (op : CallOp) (p : Phase) (a : Awaited) (r : Reply) (ms : List Met)
    → (r.verdict == PERFORMED) ≡ true → r.nonce ≡ a.command.nonce → GoodPhase h op p ms → IsIn a (awaited_in p)
    → GoodMoved h op (performed h op p a r) (Replied a r ∷ ms)
unfolding timed_in range_lost scatters_next
performed_good h op Starts a r ms is n x i = absurd x
performed_good h op (Needs need) a r ms is n x i = absurd i
performed_good h op (Waits need) a r ms is n x i = absurd x
performed_good h op (Reads io) a r ms is n x i =
    reads_on_good h op _ io.timed [] _ (Replied a r ∷ ms)
    (record {
      reads = x.0.reads;
      works = performed_works op a r ms io.timed is x.0.works;
      range = x.0.range;
      finds = x.0.finds;
    }) refl (nonce_at h h.count) (omega arith)
    (fetching_replied h op io.got io.timed io.awaited (nonce_at h h.count) ms a r i is n x.1)
performed_good h op (Probes io) a r ms is n x i =
    probes_on_good h op _ io.timed [] _ (Replied a r ∷ ms)
    (record { reads = x.reads; works = performed_works op a r ms io.timed is x.works; range = x.range; finds = x.finds }) refl
performed_good h op (Gathers io) a r ms is n x i =
    gathers_on_good h op _ io.timed [] _ (Replied a r ∷ ms)
    (record { writes = x.writes; works = performed_works op a r ms io.timed is x.works }) refl
performed_good h op (Scatters io queue) a r ms is n x i =
    scatters_on_good h op io.timed _ _ _ (Replied a r ∷ ms)
    (record { writes = x.writes; works = performed_works op a r ms io.timed is x.works }) refl

refused_good : (h : Held) (op : CallOp) (p : Phase) (a : Awaited) (r : Reply) (ms : List Met)
    → Decided op (Replied a r ∷ ms) (refusal a r) → GoodMoved h op (refused h p a r) (Replied a r ∷ ms)
unfolding refused
refused_good h op p a r ms d =
    either h op (Replied a r ∷ ms) (r.verdict == OTHER_TAG) _ _
    (λ is. turned_good h op _ _ (forgets _ _ _ _ _ (decided_ends (Some h) op (Replied a r ∷ ms) (refusal a r) d)))
    (λ is. turned_good h op _ _ (goes _ _ _ _ _ d))

-- a phase that awaits something works
works_at : (h : Held) (op : CallOp) (p : Phase) (a : Awaited) (ms : List Met) → GoodPhase h op p ms → IsIn a (awaited_in p)
    → (timed : List TimedOut) × Works op ms timed
works_at h op Starts a ms x i = absurd x
works_at h op (Needs n) a ms x i = absurd i
works_at h op (Waits n) a ms x i = absurd x
works_at h op (Reads io) a ms x i = (io.timed, x.0.works)
works_at h op (Probes io) a ms x i = (io.timed, x.works)
works_at h op (Gathers io) a ms x i = (io.timed, x.works)
works_at h op (Scatters io queue) a ms x i = (io.timed, x.works)

pub replied_good : (h : Held) (op : CallOp) (p : Phase) (a : Awaited) (r : Reply) (ms : List Met)
    → r.nonce ≡ a.command.nonce → GoodPhase h op p ms → IsIn a (awaited_in p)
    → GoodMoved h op (replied h op p a r) (Replied a r ∷ ms)
unfolding replied
replied_good h op p a r ms n x i =
    either h op (Replied a r ∷ ms) (r.verdict == PERFORMED) _ _ (λ is. performed_good h op p a r ms is n x i)
    (λ is. let w = works_at h op p a ms x i in
    refused_good h op p a r ms (refused_decided op a r ms w.0 is w.1))

-- ---- a timeout

module _ (h : Held) (op : CallOp) (k : ℕ) (a : Awaited) (xs : List Awaited) (ms : List Met) where
  abbrev after : List Met
  after = met.TimedOut h k ∷ ms

  reads_timed : (timed : List TimedOut) → comps (timed_after timed a xs) ≡ rising_with k (comps timed)
      → is_write op ≡ false → Works op ms timed → Works op after (timed_after timed a xs)
  reads_timed timed more reads w =
      timed_works op h k ms timed (timed_after timed a xs) more (read_beyond op h k ms reads) w

  writes_timed : (timed : List TimedOut) → comps (timed_after timed a xs) ≡ rising_with k (comps timed)
      → WritesOn op ms timed → is_too_short h op (timed_after timed a xs) ≡ false
      → WritesOn op after (timed_after timed a xs)
  writes_timed timed more w enough = record {
    writes = w.writes;
    works =
        timed_works op h k ms timed (timed_after timed a xs) more
        (write_beyond op h k ms timed (timed_after timed a xs) false more w.works.silent w.writes enough) w.works;
  }

  short_timed : (timed : List TimedOut) → comps (timed_after timed a xs) ≡ rising_with k (comps timed)
      → WritesOn op ms timed → is_too_short h op (timed_after timed a xs) ≡ true → Decided op after (Silent k)
  short_timed timed more w short =
      timed_decided op h k ms timed
      (write_beyond op h k ms timed (timed_after timed a xs) true more w.works.silent w.writes short) w.works

  gather_timed_good : (io : Io) (timed : List TimedOut) → comps (timed_after timed a xs) ≡ rising_with k (comps timed)
      → WritesOn op ms timed → GoodMoved h op (gather_timed h op io k (timed_after timed a xs)) after
  unfolding gather_timed
  gather_timed_good io timed more w =
      either h op after (is_too_short h op (timed_after timed a xs)) _ _
      (λ is. turned_good h op _ _ (ends _ _ _ _ _ (decided_ends (Some h) op after (Silent k) (short_timed timed more w is))))
      (λ is. gathers_good h op io.got _ _ after (writes_timed timed more w is) refl)

  scatter_timed_good : (io : Io) (queue : List Store) (timed : List TimedOut)
      → comps (timed_after timed a xs) ≡ rising_with k (comps timed)
      → WritesOn op ms timed → GoodMoved h op (scatter_timed h op io queue k (timed_after timed a xs)) after
  unfolding scatter_timed
  scatter_timed_good io queue timed more w =
      either h op after (is_too_short h op (timed_after timed a xs)) _ _
      (λ is. turned_good h op _ _ (goes _ _ _ _ _ (short_timed timed more w is)))
      (λ is. scatters_on_good h op _ _ [] _ after (writes_timed timed more w is) refl)

  pub timed_good : (p : Phase) → GoodPhase h op p ms → of_component k (awaited_in p) ≡ a ∷ xs
      → GoodMoved h op (timed_out h op p k a xs) after
  unfolding of_component
  timed_good Starts x is = absurd x
  timed_good (Needs n) x is = absurd (cc is)
  timed_good (Waits n) x is = absurd x
  timed_good (Reads io) x is =
      reads_good h op io.got _ _ after x.0.reads
      (reads_timed io.timed (timed_more k io.awaited a xs io.timed is) x.0.reads x.0.works) x.0.range refl
      (holds_timed h h op io.got io.timed io.awaited k ms x.1)
  timed_good (Probes io) x is =
      probes_good h op io.got _ _ after x.reads
      (reads_timed io.timed (timed_more k io.awaited a xs io.timed is) x.reads x.works) x.range refl
  timed_good (Gathers io) x is = gather_timed_good io io.timed (timed_more k io.awaited a xs io.timed is) x
  timed_good (Scatters io queue) x is =
      scatter_timed_good io queue io.timed (timed_more k io.awaited a xs io.timed is) x
