-- Where a call's dealings with the drives leave it to begin anew, they sent nothing.
use Rattle.std.proofs.Common.{◌≡◌, ◌==◌, ℕ, Bool, true, false, List, [], ◌∷◌, Option, Some, None, refl, if◌then◌else◌}
use Rattle.layout_ops.specs.declared.statuses.TheConstants.{NFS4_OK}
use Rattle.history_law.specs.State.{CallOp, Held, Awaited, TimedOut, Commit, Io, Phase, Starts, Needs, Waits, Reads, Probes, Gathers, Scatters, Turn, Goes, Moved, Answer, Reply, Span, Column, Store}
use Rattle.client_rules.specs.Results.{status_of}
use Rattle.client_rules.specs.Turns.{turned, needing}
use Rattle.client_rules.specs.Reads.{reads_on, reads_unless, reads, probes_on, probes_by, probes}
use Rattle.client_rules.specs.Writes.{accounted, is_past_size, written, scatters_on, scatters, scatters_next, gathers_on, gathers}
use Rattle.client_rules.specs.Replies.{refused, performed, replied, gather_timed, scatter_timed, timed_out}
use Rattle.client_rules.specs.Answers.{committed, not_committed, on_commit}
use Rattle.client_rules.specs.Going.{begins}

-- the call begins anew
abbrev pub BeginsAnew : Turn → Type 0
BeginsAnew (Goes Starts) = Unit {0}
BeginsAnew t = ⊥

pub record IsSettled (m : Moved) : Type 0 where
  pub none : BeginsAnew m.turn → m.sent ≡ []

still : (h : Held) (t : Turn) → IsSettled (turned h t)
still h t = record { none = λ x. refl }

either : (b : Bool) (m n : Moved) → IsSettled m → IsSettled n → IsSettled (if b then m else n)
either true m n x y = x
either false m n x y = y

-- ---- reads

reads_on_settled : (h : Held) (r : Span) (got : List Column) (timed : List TimedOut) (sent awaited : List Awaited)
    → IsSettled (reads_on h r got timed sent awaited)
unfolding reads_on
reads_on_settled h r got timed sent [] = record { none = λ x. absurd x }
reads_on_settled h r got timed sent (a ∷ xs) = record { none = λ x. absurd x }

reads_unless_settled : (h : Held) (r : Span) (got : List Column) (timed : List TimedOut) (awaited : List Awaited)
    (o : Option (List ℕ)) → IsSettled (reads_unless h r got timed awaited o)
reads_unless_settled h r got timed awaited None = reads_on_settled h r got timed _ _
reads_unless_settled h r got timed awaited (Some ps) = still h _

reads_settled : (h : Held) (r : Span) (got : List Column) (timed : List TimedOut) (awaited : List Awaited)
    → IsSettled (reads h r got timed awaited)
unfolding reads
reads_settled h r got timed awaited = reads_unless_settled h r got timed awaited _

probes_on_settled : (h : Held) (got : List Column) (timed : List TimedOut) (sent awaited : List Awaited)
    → IsSettled (probes_on h got timed sent awaited)
unfolding probes_on
probes_on_settled h got timed sent [] = record { none = λ x. absurd x }
probes_on_settled h got timed sent (a ∷ xs) = record { none = λ x. absurd x }

probes_by_settled : (h : Held) (got : List Column) (timed : List TimedOut) (awaited : List Awaited) (o : Option ℕ)
    → IsSettled (probes_by h got timed awaited o)
probes_by_settled h got timed awaited None = still h _
probes_by_settled h got timed awaited (Some k) = either _ _ _ (still h _) (probes_on_settled h got timed _ _)

probes_settled : (h : Held) (got : List Column) (timed : List TimedOut) (awaited : List Awaited)
    → IsSettled (probes h got timed awaited)
unfolding probes
probes_settled h got timed awaited = probes_by_settled h got timed awaited _

-- ---- writes

either_turn : (b : Bool) (t u : Turn) → (BeginsAnew t → ⊥) → (BeginsAnew u → ⊥) → BeginsAnew (if b then t else u) → ⊥
either_turn true t u p q = p
either_turn false t u p q = q

accounted_settled : (op : CallOp) (timed : List TimedOut) → BeginsAnew (accounted op timed) → ⊥
accounted_settled op [] x = x
accounted_settled op (t ∷ ts) x = x

written_settled : (h : Held) (op : CallOp) (timed : List TimedOut) → BeginsAnew (written h op timed) → ⊥
unfolding written
written_settled h op timed =
    either_turn (is_past_size h op) (needing (Commit timed)) (accounted op timed) (λ x. x) (accounted_settled op timed)

scatters_on_settled : (h : Held) (op : CallOp) (timed : List TimedOut) (queue : List Store)
    (sent awaited : List Awaited) → IsSettled (scatters_on h op timed queue sent awaited)
unfolding scatters_on
scatters_on_settled h op timed queue sent [] = record { none = λ x. absurd (written_settled h op timed x) }
scatters_on_settled h op timed queue sent (a ∷ xs) = record { none = λ x. absurd x }

scatters_settled : (h : Held) (op : CallOp) (got : List Column) (timed : List TimedOut)
    → IsSettled (scatters h op got timed)
unfolding scatters
scatters_settled h op got timed = scatters_on_settled h op timed _ _ _

next_settled : (h : Held) (op : CallOp) (timed : List TimedOut) (queue : List Store) (k : ℕ) (awaited : List Awaited)
    → IsSettled (scatters_next h op timed queue k awaited)
unfolding scatters_next
next_settled h op timed queue k awaited = scatters_on_settled h op timed _ _ _

gathers_on_settled : (h : Held) (op : CallOp) (got : List Column) (timed : List TimedOut) (sent awaited : List Awaited)
    → IsSettled (gathers_on h op got timed sent awaited)
unfolding gathers_on
gathers_on_settled h op got timed sent [] = scatters_settled h op got timed
gathers_on_settled h op got timed sent (a ∷ xs) = record { none = λ x. absurd x }

gathers_settled : (h : Held) (op : CallOp) (got : List Column) (timed : List TimedOut) (awaited : List Awaited)
    → IsSettled (gathers h op got timed awaited)
unfolding gathers
gathers_settled h op got timed awaited = gathers_on_settled h op got timed _ _

-- ---- what comes

performed_settled : (h : Held) (op : CallOp) (p : Phase) (a : Awaited) (r : Reply) → IsSettled (performed h op p a r)
performed_settled h op (Reads io) a r = reads_on_settled h _ _ io.timed [] _
performed_settled h op (Probes io) a r = probes_on_settled h _ io.timed [] _
performed_settled h op (Gathers io) a r = gathers_on_settled h op _ io.timed [] _
performed_settled h op (Scatters io queue) a r = next_settled h op io.timed queue _ _
performed_settled h op Starts a r = still h _
performed_settled h op (Needs need) a r = still h _
performed_settled h op (Waits need) a r = still h _

refused_settled : (h : Held) (p : Phase) (a : Awaited) (r : Reply) → IsSettled (refused h p a r)
unfolding refused
refused_settled h p a r = either _ _ _ (still h _) (still h _)

pub replied_settled : (h : Held) (op : CallOp) (p : Phase) (a : Awaited) (r : Reply) → IsSettled (replied h op p a r)
unfolding replied
replied_settled h op p a r = either _ _ _ (performed_settled h op p a r) (refused_settled h p a r)

gather_timed_settled : (h : Held) (op : CallOp) (io : Io) (k : ℕ) (timed : List TimedOut)
    → IsSettled (gather_timed h op io k timed)
unfolding gather_timed
gather_timed_settled h op io k timed = either _ _ _ (still h _) (gathers_settled h op io.got timed _)

scatter_timed_settled : (h : Held) (op : CallOp) (io : Io) (queue : List Store) (k : ℕ) (timed : List TimedOut)
    → IsSettled (scatter_timed h op io queue k timed)
unfolding scatter_timed
scatter_timed_settled h op io queue k timed = either _ _ _ (still h _) (scatters_on_settled h op timed _ [] _)

pub timed_out_settled : (h : Held) (op : CallOp) (p : Phase) (k : ℕ) (a : Awaited) (xs : List Awaited)
    → IsSettled (timed_out h op p k a xs)
timed_out_settled h op (Reads io) k a xs = reads_settled h _ io.got _ _
timed_out_settled h op (Probes io) k a xs = probes_settled h io.got _ _
timed_out_settled h op (Gathers io) k a xs = gather_timed_settled h op io k _
timed_out_settled h op (Scatters io queue) k a xs = scatter_timed_settled h op io queue k _
timed_out_settled h op Starts k a xs = still h _
timed_out_settled h op (Needs need) k a xs = still h _
timed_out_settled h op (Waits need) k a xs = still h _

pub begins_settled : (h : Held) (op : CallOp) → IsSettled (begins h op)
unfolding begins
begins_settled h op =
    either _ _ _ (gathers_settled h op [] [] []) (either _ _ _ (probes_settled h [] [] []) (reads_settled h _ [] [] []))

pub on_commit_settled : (h : Held) (op : CallOp) (a : Answer) (timed : List TimedOut)
    → IsSettled (on_commit h op a timed)
unfolding on_commit
on_commit_settled h op a timed =
    either (status_of a.results == NFS4_OK) (committed h op a timed)
    (turned h (not_committed (status_of a.results) a.detail)) (record { none = λ x. refl }) (still h _)
