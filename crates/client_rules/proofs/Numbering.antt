-- Nonces count the commands of a grant.
use Rattle.std.proofs.Common.{◌≡◌, ◌<◌, ℕ, zero, suc, ◌+◌, ◌==◌, Bool, true, false, List, [], ◌∷◌, length, refl, ◌∙◌, arith}
use Rattle.std.specs.Prelude.{if◌then◌else◌, map, slice_index, Option, Some, None}
use Rattle.std.specs.List.{range_with_len}
use Rattle.client_rules.specs.State.{CallOp, Held, Awaited, TimedOut, Io, Phase, Starts, Needs, Waits, Reads, Probes, Gathers, Scatters, Turn, Moved, Answer, Reply, Span, Ask, Column, Store}
use Rattle.client_rules.specs.Commands.{command, sealed, numbered, nonce_at, carrying_none, read_commands, write_commands}
use Rattle.layout_ops.specs.declared.statuses.TheConstants.{NFS4_OK}
use Rattle.client_rules.specs.Results.{status_of}
use Rattle.client_rules.specs.Turns.{turned}
use Rattle.client_rules.specs.Reads.{reads_on, reads_unless, reads, probes_on, probes_by, probes}
use Rattle.client_rules.specs.Writes.{scatters_on, scatters, scatters_next, gathers_on, gathers}
use Rattle.client_rules.specs.Replies.{refused, performed, replied, gather_timed, scatter_timed, timed_out}
use Rattle.client_rules.specs.Answers.{committed, not_committed, on_commit}
use Rattle.client_rules.specs.Going.{begins}
use Rattle.client_rules.specs.Laws.{nonce_of, IsNumbered, NoncesRise}

-- the nonces that are next in a list that was made
abbrev AreNext : Held → List Awaited → Type 0
AreNext h sent = map nonce_of sent ≡ range_with_len (nonce_at h h.count + 1) (length sent)

pub numbered_from : (h : Held) (write : Bool) (count a : ℕ) (ws : List Store) → a ≡ nonce_at h count + 1 →
    map nonce_of (numbered h write count ws) ≡ range_with_len a (length (numbered h write count ws))
unfolding numbered command sealed
numbered_from h write count a [] e = refl
numbered_from h write count a (w ∷ ws) e =
    let head : nonce_at h (count + 1) ≡ a = omega (arith, e) in
    rw (numbered_from h write (count + 1) (a + 1) ws (omega (arith, e)), head) refl

reads_next : (h : Held) (xs : List Ask) → AreNext h (read_commands h xs)
unfolding read_commands
reads_next h xs = numbered_from h false h.count _ (carrying_none xs) refl

writes_next : (h : Held) (ws : List Store) → AreNext h (write_commands h ws)
unfolding write_commands
writes_next h ws = numbered_from h true h.count _ ws refl

-- ---- moves

still : (h : Held) (t : Turn) → IsNumbered h (turned h t)
still h t = record { same = refl; counted = omega arith; nonces = refl }

either : (h : Held) (b : Bool) (m n : Moved) → IsNumbered h m → IsNumbered h n → IsNumbered h (if b then m else n)
either h true m n x y = x
either h false m n x y = y

reads_on_numbered : (h : Held) (r : Span) (got : List Column) (timed : List TimedOut) (sent awaited : List Awaited) →
    AreNext h sent → IsNumbered h (reads_on h r got timed sent awaited)
unfolding reads_on
reads_on_numbered h r got timed sent [] e = record { same = refl; counted = refl; nonces = e }
reads_on_numbered h r got timed sent (a ∷ xs) e = record { same = refl; counted = refl; nonces = e }

reads_unless_numbered : (h : Held) (r : Span) (got : List Column) (timed : List TimedOut) (awaited : List Awaited)
    (o : Option (List ℕ)) → IsNumbered h (reads_unless h r got timed awaited o)
reads_unless_numbered h r got timed awaited None = reads_on_numbered h r got timed _ _ (reads_next h _)
reads_unless_numbered h r got timed awaited (Some ps) = still h _

reads_numbered : (h : Held) (r : Span) (got : List Column) (timed : List TimedOut) (awaited : List Awaited) →
    IsNumbered h (reads h r got timed awaited)
unfolding reads
reads_numbered h r got timed awaited = reads_unless_numbered h r got timed awaited _

probes_on_numbered : (h : Held) (got : List Column) (timed : List TimedOut) (sent awaited : List Awaited) → AreNext h sent →
    IsNumbered h (probes_on h got timed sent awaited)
unfolding probes_on
probes_on_numbered h got timed sent [] e = record { same = refl; counted = refl; nonces = e }
probes_on_numbered h got timed sent (a ∷ xs) e = record { same = refl; counted = refl; nonces = e }

probes_by_numbered : (h : Held) (got : List Column) (timed : List TimedOut) (awaited : List Awaited) (o : Option ℕ) →
    IsNumbered h (probes_by h got timed awaited o)
probes_by_numbered h got timed awaited None = still h _
probes_by_numbered h got timed awaited (Some k) = either h _ _ _ (still h _) (probes_on_numbered h got timed _ _ (reads_next h _))

probes_numbered : (h : Held) (got : List Column) (timed : List TimedOut) (awaited : List Awaited) →
    IsNumbered h (probes h got timed awaited)
unfolding probes
probes_numbered h got timed awaited = probes_by_numbered h got timed awaited _

scatters_on_numbered : (h : Held) (op : CallOp) (timed : List TimedOut) (queue : List Store) (sent awaited : List Awaited) →
    AreNext h sent → IsNumbered h (scatters_on h op timed queue sent awaited)
unfolding scatters_on
scatters_on_numbered h op timed queue sent [] e = record { same = refl; counted = refl; nonces = e }
scatters_on_numbered h op timed queue sent (a ∷ xs) e = record { same = refl; counted = refl; nonces = e }

scatters_numbered : (h : Held) (op : CallOp) (got : List Column) (timed : List TimedOut) → IsNumbered h (scatters h op got timed)
unfolding scatters
scatters_numbered h op got timed = scatters_on_numbered h op timed _ _ _ (writes_next h _)

scatters_next_numbered : (h : Held) (op : CallOp) (timed : List TimedOut) (queue : List Store) (k : ℕ) (awaited : List Awaited) →
    IsNumbered h (scatters_next h op timed queue k awaited)
unfolding scatters_next
scatters_next_numbered h op timed queue k awaited = scatters_on_numbered h op timed _ _ _ (writes_next h _)

gathers_on_numbered : (h : Held) (op : CallOp) (got : List Column) (timed : List TimedOut) (sent awaited : List Awaited) →
    AreNext h sent → IsNumbered h (gathers_on h op got timed sent awaited)
unfolding gathers_on
gathers_on_numbered h op got timed sent [] e = scatters_numbered h op got timed
gathers_on_numbered h op got timed sent (a ∷ xs) e = record { same = refl; counted = refl; nonces = e }

gathers_numbered : (h : Held) (op : CallOp) (got : List Column) (timed : List TimedOut) (awaited : List Awaited) →
    IsNumbered h (gathers h op got timed awaited)
unfolding gathers
gathers_numbered h op got timed awaited = gathers_on_numbered h op got timed _ _ (reads_next h _)

-- ---- inputs

performed_numbered : (h : Held) (op : CallOp) (p : Phase) (a : Awaited) (r : Reply) → IsNumbered h (performed h op p a r)
performed_numbered h op (Reads io) a r = reads_on_numbered h _ _ io.timed [] _ refl
performed_numbered h op (Probes io) a r = probes_on_numbered h _ io.timed [] _ refl
performed_numbered h op (Gathers io) a r = gathers_on_numbered h op _ io.timed [] _ refl
performed_numbered h op (Scatters io queue) a r = scatters_next_numbered h op io.timed queue _ _
performed_numbered h op Starts a r = still h _
performed_numbered h op (Needs need) a r = still h _
performed_numbered h op (Waits need) a r = still h _

refused_numbered : (h : Held) (p : Phase) (a : Awaited) (r : Reply) → IsNumbered h (refused h p a r)
unfolding refused
refused_numbered h p a r = either h _ _ _ (still h _) (still h _)

replied_numbered : (h : Held) (op : CallOp) (p : Phase) (a : Awaited) (r : Reply) → IsNumbered h (replied h op p a r)
unfolding replied
replied_numbered h op p a r = either h _ _ _ (performed_numbered h op p a r) (refused_numbered h p a r)

gather_timed_numbered : (h : Held) (op : CallOp) (io : Io) (k : ℕ) (timed : List TimedOut) →
    IsNumbered h (gather_timed h op io k timed)
unfolding gather_timed
gather_timed_numbered h op io k timed = either h _ _ _ (still h _) (gathers_numbered h op io.got timed _)

scatter_timed_numbered : (h : Held) (op : CallOp) (io : Io) (queue : List Store) (k : ℕ) (timed : List TimedOut) →
    IsNumbered h (scatter_timed h op io queue k timed)
unfolding scatter_timed
scatter_timed_numbered h op io queue k timed = either h _ _ _ (still h _) (scatters_on_numbered h op timed _ [] _ refl)

timed_out_numbered : (h : Held) (op : CallOp) (p : Phase) (k : ℕ) (a : Awaited) (xs : List Awaited) →
    IsNumbered h (timed_out h op p k a xs)
timed_out_numbered h op (Reads io) k a xs = reads_numbered h _ io.got _ _
timed_out_numbered h op (Probes io) k a xs = probes_numbered h io.got _ _
timed_out_numbered h op (Gathers io) k a xs = gather_timed_numbered h op io k _
timed_out_numbered h op (Scatters io queue) k a xs = scatter_timed_numbered h op io queue k _
timed_out_numbered h op Starts k a xs = still h _
timed_out_numbered h op (Needs need) k a xs = still h _
timed_out_numbered h op (Waits need) k a xs = still h _

begins_numbered : (h : Held) (op : CallOp) → IsNumbered h (begins h op)
unfolding begins
begins_numbered h op =
    either h _ _ _ (gathers_numbered h op [] [] []) (either h _ _ _ (probes_numbered h [] [] []) (reads_numbered h _ [] [] []))

on_commit_numbered : (h : Held) (op : CallOp) (a : Answer) (timed : List TimedOut) → IsNumbered h (on_commit h op a timed)
unfolding on_commit
on_commit_numbered h op a timed =
    either h (status_of a.results == NFS4_OK) (committed h op a timed) (turned h (not_committed (status_of a.results) a.detail))
    (record { same = refl; counted = omega arith; nonces = refl }) (still h _)

-- ---- numbers one after another

at_place : (a n i : ℕ) → i < n → slice_index (range_with_len a n) i ≡ a + i
at_place a zero i lt = absurd (omega (arith, lt))
at_place a (suc n) zero lt = omega arith
at_place a (suc n) (suc i) lt = at_place (a + 1) n i (omega (arith, lt)) ∙ omega arith

pub nonces_rise : NoncesRise
nonces_rise = record {
  begun = begins_numbered;
  replied = replied_numbered;
  timed = timed_out_numbered;
  committed = on_commit_numbered;
  rising = λ a n i j l m. omega (arith, l, at_place a n i (omega (arith, l, m)), at_place a n j m);
  above = λ a n i l. omega (arith, at_place a n i l);
}
