-- Whatever a call does with the drives, its grant stays that of its file.
use Rattle.std.proofs.Common.{◌≡◌, ℕ, ◌==◌, Bool, true, false, List, [], ◌∷◌, refl}
use Rattle.std.specs.Prelude.{if◌then◌else◌, Option, Some, None}
use Rattle.client_rules.specs.declared.calls.CallOp.{CallOp}
use Rattle.client_rules.specs.declared.grants.Held.{Held}
use Rattle.client_rules.specs.declared.calls.Awaited.{Awaited}
use Rattle.client_rules.specs.declared.calls.TimedOut.{TimedOut}
use Rattle.client_rules.specs.declared.calls.Io.{Io}
use Rattle.client_rules.specs.declared.calls.Phase.{Phase}
use Rattle.client_rules.specs.declared.calls.Phase.TheVariants.{Starts, Needs, Waits, Reads, Probes, Gathers, Scatters}
use Rattle.client_rules.specs.declared.steps.Moved.{Moved}
use Rattle.layout_ops.specs.declared.messages.Answer.{Answer}
use Rattle.osd_commands.specs.declared.replies.Reply.{Reply}
use Rattle.stripe_plan.specs.declared.plan.Span.{Span}
use Rattle.stripe_plan.specs.declared.plan.Column.{Column}
use Rattle.stripe_plan.specs.declared.plan.Store.{Store}
use Rattle.layout_ops.specs.declared.statuses.TheConstants.{NFS4_OK}
use Rattle.client_rules.specs.Results.{status_of}
use Rattle.client_rules.specs.Turns.{turned}
use Rattle.client_rules.specs.Reads.{reads_on, reads_unless, reads, probes_on, probes_by, probes}
use Rattle.client_rules.specs.Writes.{scatters_on, scatters, scatters_next, gathers_on, gathers}
use Rattle.client_rules.specs.Replies.{refused, performed, replied, gather_timed, scatter_timed, timed_out}
use Rattle.client_rules.specs.Answers.{committed, not_committed, on_commit}
use Rattle.client_rules.specs.Going.{begins}
use Rattle.call_io.specs.Steps.{on_reply, on_timeout}

-- the grant is still of that file
abbrev pub Stays : Held → Moved → Type 0
Stays h m = m.held.file ≡ h.file

either : (h : Held) (b : Bool) (m n : Moved) → Stays h m → Stays h n → Stays h (if b then m else n)
either h true m n x y = x
either h false m n x y = y

reads_on_stays : (h : Held) (r : Span) (got : List Column) (timed : List TimedOut) (sent awaited : List Awaited) →
    Stays h (reads_on h r got timed sent awaited)
unfolding reads_on
reads_on_stays h r got timed sent [] = refl
reads_on_stays h r got timed sent (a ∷ xs) = refl

reads_unless_stays : (h : Held) (r : Span) (got : List Column) (timed : List TimedOut) (awaited : List Awaited)
    (o : Option (List ℕ)) → Stays h (reads_unless h r got timed awaited o)
reads_unless_stays h r got timed awaited None = reads_on_stays h r got timed _ _
reads_unless_stays h r got timed awaited (Some ps) = refl

reads_stays : (h : Held) (r : Span) (got : List Column) (timed : List TimedOut) (awaited : List Awaited) →
    Stays h (reads h r got timed awaited)
unfolding reads
reads_stays h r got timed awaited = reads_unless_stays h r got timed awaited _

probes_on_stays : (h : Held) (got : List Column) (timed : List TimedOut) (sent awaited : List Awaited) →
    Stays h (probes_on h got timed sent awaited)
unfolding probes_on
probes_on_stays h got timed sent [] = refl
probes_on_stays h got timed sent (a ∷ xs) = refl

probes_by_stays : (h : Held) (got : List Column) (timed : List TimedOut) (awaited : List Awaited) (o : Option ℕ) →
    Stays h (probes_by h got timed awaited o)
probes_by_stays h got timed awaited None = refl
probes_by_stays h got timed awaited (Some k) = either h _ _ _ refl (probes_on_stays h got timed _ _)

probes_stays : (h : Held) (got : List Column) (timed : List TimedOut) (awaited : List Awaited) →
    Stays h (probes h got timed awaited)
unfolding probes
probes_stays h got timed awaited = probes_by_stays h got timed awaited _

scatters_on_stays : (h : Held) (op : CallOp) (timed : List TimedOut) (queue : List Store)
    (sent awaited : List Awaited) → Stays h (scatters_on h op timed queue sent awaited)
unfolding scatters_on
scatters_on_stays h op timed queue sent [] = refl
scatters_on_stays h op timed queue sent (a ∷ xs) = refl

scatters_stays : (h : Held) (op : CallOp) (got : List Column) (timed : List TimedOut) →
    Stays h (scatters h op got timed)
unfolding scatters
scatters_stays h op got timed = scatters_on_stays h op timed _ _ _

scatters_next_stays : (h : Held) (op : CallOp) (timed : List TimedOut) (queue : List Store) (k : ℕ)
    (awaited : List Awaited) → Stays h (scatters_next h op timed queue k awaited)
unfolding scatters_next
scatters_next_stays h op timed queue k awaited = scatters_on_stays h op timed _ _ _

gathers_on_stays : (h : Held) (op : CallOp) (got : List Column) (timed : List TimedOut) (sent awaited : List Awaited) →
    Stays h (gathers_on h op got timed sent awaited)
unfolding gathers_on
gathers_on_stays h op got timed sent [] = scatters_stays h op got timed
gathers_on_stays h op got timed sent (a ∷ xs) = refl

gathers_stays : (h : Held) (op : CallOp) (got : List Column) (timed : List TimedOut) (awaited : List Awaited) →
    Stays h (gathers h op got timed awaited)
unfolding gathers
gathers_stays h op got timed awaited = gathers_on_stays h op got timed _ _

-- ---- inputs

performed_stays : (h : Held) (op : CallOp) (p : Phase) (a : Awaited) (r : Reply) → Stays h (performed h op p a r)
performed_stays h op (Reads io) a r = reads_on_stays h _ _ io.timed [] _
performed_stays h op (Probes io) a r = probes_on_stays h _ io.timed [] _
performed_stays h op (Gathers io) a r = gathers_on_stays h op _ io.timed [] _
performed_stays h op (Scatters io queue) a r = scatters_next_stays h op io.timed queue _ _
performed_stays h op Starts a r = refl
performed_stays h op (Needs need) a r = refl
performed_stays h op (Waits need) a r = refl

refused_stays : (h : Held) (p : Phase) (a : Awaited) (r : Reply) → Stays h (refused h p a r)
unfolding refused
refused_stays h p a r = either h _ _ _ refl refl

replied_stays : (h : Held) (op : CallOp) (p : Phase) (a : Awaited) (r : Reply) → Stays h (replied h op p a r)
unfolding replied
replied_stays h op p a r = either h _ _ _ (performed_stays h op p a r) (refused_stays h p a r)

gather_timed_stays : (h : Held) (op : CallOp) (io : Io) (k : ℕ) (timed : List TimedOut) →
    Stays h (gather_timed h op io k timed)
unfolding gather_timed
gather_timed_stays h op io k timed = either h _ _ _ refl (gathers_stays h op io.got timed _)

scatter_timed_stays : (h : Held) (op : CallOp) (io : Io) (queue : List Store) (k : ℕ) (timed : List TimedOut) →
    Stays h (scatter_timed h op io queue k timed)
unfolding scatter_timed
scatter_timed_stays h op io queue k timed = either h _ _ _ refl (scatters_on_stays h op timed _ [] _)

timed_out_stays : (h : Held) (op : CallOp) (p : Phase) (k : ℕ) (a : Awaited) (xs : List Awaited) →
    Stays h (timed_out h op p k a xs)
timed_out_stays h op (Reads io) k a xs = reads_stays h _ io.got _ _
timed_out_stays h op (Probes io) k a xs = probes_stays h io.got _ _
timed_out_stays h op (Gathers io) k a xs = gather_timed_stays h op io k _
timed_out_stays h op (Scatters io queue) k a xs = scatter_timed_stays h op io queue k _
timed_out_stays h op Starts k a xs = refl
timed_out_stays h op (Needs need) k a xs = refl
timed_out_stays h op (Waits need) k a xs = refl

pub begins_stays : (h : Held) (op : CallOp) → Stays h (begins h op)
unfolding begins
begins_stays h op =
    either h _ _ _ (gathers_stays h op [] [] []) (either h _ _ _ (probes_stays h [] [] []) (reads_stays h _ [] [] []))

pub on_commit_stays : (h : Held) (op : CallOp) (a : Answer) (timed : List TimedOut) → Stays h (on_commit h op a timed)
unfolding on_commit
on_commit_stays h op a timed =
    either h (status_of a.results == NFS4_OK) (committed h op a timed)
    (turned h (not_committed (status_of a.results) a.detail)) refl refl

pub on_reply_stays : (h : Held) (op : CallOp) (p : Phase) (r : Reply) (a : Option Awaited) →
    Stays h (on_reply h op p r a)
on_reply_stays h op p r None = refl
on_reply_stays h op p r (Some a) = replied_stays h op p a r

pub on_timeout_stays : (h : Held) (op : CallOp) (p : Phase) (k : ℕ) (xs : List Awaited) →
    Stays h (on_timeout h op p k xs)
on_timeout_stays h op p k [] = refl
on_timeout_stays h op p k (a ∷ xs) = timed_out_stays h op p k a xs
