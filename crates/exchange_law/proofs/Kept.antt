-- What a call does with the drives keeps its grant's file, and a call that is to begin anew has sent nothing.
use Rattle.std.proofs.Common.{◌≡◌, ℕ, ◌==◌, Bool, true, false, List, [], ◌∷◌, refl}
use Rattle.std.specs.Prelude.{if◌then◌else◌, Option, Some, None}
use Rattle.exchange_law.specs.ClientState.{CallOp, Held, Awaited, TimedOut, Io, Commit, Phase, Starts, Needs, Waits, Reads, Probes, Gathers, Scatters, Turn, Goes, Moved, Answer, Reply, Span, Column, Store}
use Rattle.layout_ops.specs.declared.statuses.TheConstants.{NFS4_OK}
use Rattle.client_rules.specs.Results.{status_of}
use Rattle.client_rules.specs.Turns.{turned, needing}
use Rattle.client_rules.specs.Reads.{reads_on, reads_unless, reads, probes_on, probes_by, probes}
use Rattle.client_rules.specs.Writes.{accounted, is_past_size, written, scatters_on, scatters, scatters_next, gathers_on, gathers}
use Rattle.client_rules.specs.Replies.{refused, performed, replied, gather_timed, scatter_timed, timed_out}
use Rattle.client_rules.specs.Answers.{committed, not_committed, on_commit}
use Rattle.client_rules.specs.Going.{begins}

-- a phase in which nothing was sent yet
abbrev pub FairPhase : Phase → List Awaited → Type 0
FairPhase Starts sent = sent ≡ []
FairPhase p sent = Unit {0}

abbrev pub FairTurn : Turn → List Awaited → Type 0
FairTurn (Goes p) sent = FairPhase p sent
FairTurn t sent = Unit {0}

pub record IsKept (h : Held) (m : Moved) : Type 0 where
  pub file : m.held.file ≡ h.file
  pub fair : FairTurn m.turn m.sent

either : (h : Held) (b : Bool) (m n : Moved) → IsKept h m → IsKept h n → IsKept h (if b then m else n)
either h true m n x y = x
either h false m n x y = y

either_turn : (sent : List Awaited) (b : Bool) (t u : Turn) → FairTurn t sent → FairTurn u sent →
    FairTurn (if b then t else u) sent
either_turn sent true t u x y = x
either_turn sent false t u x y = y

phase_still : (p : Phase) → FairPhase p []
phase_still Starts = refl
phase_still p = tt

turn_still : (t : Turn) → FairTurn t []
turn_still (Goes p) = phase_still p
turn_still t = tt

-- nothing was sent
still : (h k : Held) (t : Turn) → k.file ≡ h.file → IsKept h (turned k t)
still h k t e = record { file = e; fair = turn_still t }

reads_on_kept : (h : Held) (r : Span) (got : List Column) (timed : List TimedOut) (sent awaited : List Awaited) →
    IsKept h (reads_on h r got timed sent awaited)
unfolding reads_on
reads_on_kept h r got timed sent [] = record { file = refl; fair = tt }
reads_on_kept h r got timed sent (a ∷ xs) = record { file = refl; fair = tt }

reads_unless_kept : (h : Held) (r : Span) (got : List Column) (timed : List TimedOut) (awaited : List Awaited)
    (o : Option (List ℕ)) → IsKept h (reads_unless h r got timed awaited o)
reads_unless_kept h r got timed awaited None = reads_on_kept h r got timed _ _
reads_unless_kept h r got timed awaited (Some ps) = still h h _ refl

reads_kept : (h : Held) (r : Span) (got : List Column) (timed : List TimedOut) (awaited : List Awaited) →
    IsKept h (reads h r got timed awaited)
unfolding reads
reads_kept h r got timed awaited = reads_unless_kept h r got timed awaited _

probes_on_kept : (h : Held) (got : List Column) (timed : List TimedOut) (sent awaited : List Awaited) →
    IsKept h (probes_on h got timed sent awaited)
unfolding probes_on
probes_on_kept h got timed sent [] = record { file = refl; fair = tt }
probes_on_kept h got timed sent (a ∷ xs) = record { file = refl; fair = tt }

probes_by_kept : (h : Held) (got : List Column) (timed : List TimedOut) (awaited : List Awaited) (o : Option ℕ) →
    IsKept h (probes_by h got timed awaited o)
probes_by_kept h got timed awaited None = still h h _ refl
probes_by_kept h got timed awaited (Some k) = either h _ _ _ (still h h _ refl) (probes_on_kept h got timed _ _)

probes_kept : (h : Held) (got : List Column) (timed : List TimedOut) (awaited : List Awaited) →
    IsKept h (probes h got timed awaited)
unfolding probes
probes_kept h got timed awaited = probes_by_kept h got timed awaited _

accounted_fair : (op : CallOp) (timed : List TimedOut) (sent : List Awaited) → FairTurn (accounted op timed) sent
accounted_fair op [] sent = tt
accounted_fair op (t ∷ ts) sent = tt

written_fair : (h : Held) (op : CallOp) (timed : List TimedOut) (sent : List Awaited) → FairTurn (written h op timed) sent
unfolding written
written_fair h op timed sent =
    either_turn sent (is_past_size h op) (needing (Commit timed)) (accounted op timed) tt (accounted_fair op timed sent)

scatters_on_kept : (h : Held) (op : CallOp) (timed : List TimedOut) (queue : List Store) (sent awaited : List Awaited) →
    IsKept h (scatters_on h op timed queue sent awaited)
unfolding scatters_on
scatters_on_kept h op timed queue sent [] = record { file = refl; fair = written_fair h op timed sent }
scatters_on_kept h op timed queue sent (a ∷ xs) = record { file = refl; fair = tt }

scatters_kept : (h : Held) (op : CallOp) (got : List Column) (timed : List TimedOut) → IsKept h (scatters h op got timed)
unfolding scatters
scatters_kept h op got timed = scatters_on_kept h op timed _ _ _

scatters_next_kept : (h : Held) (op : CallOp) (timed : List TimedOut) (queue : List Store) (k : ℕ) (awaited : List Awaited) →
    IsKept h (scatters_next h op timed queue k awaited)
unfolding scatters_next
scatters_next_kept h op timed queue k awaited = scatters_on_kept h op timed _ _ _

gathers_on_kept : (h : Held) (op : CallOp) (got : List Column) (timed : List TimedOut) (sent awaited : List Awaited) →
    IsKept h (gathers_on h op got timed sent awaited)
unfolding gathers_on
gathers_on_kept h op got timed sent [] = scatters_kept h op got timed
gathers_on_kept h op got timed sent (a ∷ xs) = record { file = refl; fair = tt }

gathers_kept : (h : Held) (op : CallOp) (got : List Column) (timed : List TimedOut) (awaited : List Awaited) →
    IsKept h (gathers h op got timed awaited)
unfolding gathers
gathers_kept h op got timed awaited = gathers_on_kept h op got timed _ _

performed_kept : (h : Held) (op : CallOp) (p : Phase) (a : Awaited) (r : Reply) → IsKept h (performed h op p a r)
performed_kept h op (Reads io) a r = reads_on_kept h _ _ io.timed [] _
performed_kept h op (Probes io) a r = probes_on_kept h _ io.timed [] _
performed_kept h op (Gathers io) a r = gathers_on_kept h op _ io.timed [] _
performed_kept h op (Scatters io queue) a r = scatters_next_kept h op io.timed queue _ _
performed_kept h op Starts a r = still h h _ refl
performed_kept h op (Needs need) a r = still h h _ refl
performed_kept h op (Waits need) a r = still h h _ refl

refused_kept : (h : Held) (p : Phase) (a : Awaited) (r : Reply) → IsKept h (refused h p a r)
unfolding refused
refused_kept h p a r = either h _ _ _ (still h h _ refl) (still h h _ refl)

pub replied_kept : (h : Held) (op : CallOp) (p : Phase) (a : Awaited) (r : Reply) → IsKept h (replied h op p a r)
unfolding replied
replied_kept h op p a r = either h _ _ _ (performed_kept h op p a r) (refused_kept h p a r)

gather_timed_kept : (h : Held) (op : CallOp) (io : Io) (k : ℕ) (timed : List TimedOut) → IsKept h (gather_timed h op io k timed)
unfolding gather_timed
gather_timed_kept h op io k timed = either h _ _ _ (still h h _ refl) (gathers_kept h op io.got timed _)

scatter_timed_kept : (h : Held) (op : CallOp) (io : Io) (queue : List Store) (k : ℕ) (timed : List TimedOut) →
    IsKept h (scatter_timed h op io queue k timed)
unfolding scatter_timed
scatter_timed_kept h op io queue k timed = either h _ _ _ (still h h _ refl) (scatters_on_kept h op timed _ [] _)

pub timed_out_kept : (h : Held) (op : CallOp) (p : Phase) (k : ℕ) (a : Awaited) (xs : List Awaited) →
    IsKept h (timed_out h op p k a xs)
timed_out_kept h op (Reads io) k a xs = reads_kept h _ io.got _ _
timed_out_kept h op (Probes io) k a xs = probes_kept h io.got _ _
timed_out_kept h op (Gathers io) k a xs = gather_timed_kept h op io k _
timed_out_kept h op (Scatters io queue) k a xs = scatter_timed_kept h op io queue k _
timed_out_kept h op Starts k a xs = still h h _ refl
timed_out_kept h op (Needs need) k a xs = still h h _ refl
timed_out_kept h op (Waits need) k a xs = still h h _ refl

pub begins_kept : (h : Held) (op : CallOp) → IsKept h (begins h op)
unfolding begins
begins_kept h op = either h _ _ _ (gathers_kept h op [] [] []) (either h _ _ _ (probes_kept h [] [] []) (reads_kept h _ [] [] []))

pub on_commit_kept : (h : Held) (op : CallOp) (a : Answer) (timed : List TimedOut) → IsKept h (on_commit h op a timed)
unfolding on_commit
on_commit_kept h op a timed =
    either h (status_of a.results == NFS4_OK) (committed h op a timed) (turned h (not_committed (status_of a.results) a.detail))
    (still h (record h { size = a.size }) (accounted op timed) refl) (still h h _ refl)
