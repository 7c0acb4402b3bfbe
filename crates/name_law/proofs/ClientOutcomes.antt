-- What a client's dealings with the drives and the server make of a call: only a reply refuses it, and only an answer that
-- bids it try later names a holder. The same of refusals alone stands in `exchange_law` (`Told`).
use Rattle.std.proofs.Common.{◌≡◌, ◌==◌, ℕ, Bool, true, false, List, [], ◌∷◌, ◌+◌, Option, Some, None, refl, inl, inr, if◌then◌else◌}
use Rattle.std.proofs.lemmas.Bool.{cases_eq, eq-eqb, ne_eqb}
use Rattle.layout_ops.specs.declared.statuses.TheConstants.{NFS4_OK, NFS4ERR_NOENT, NFS4ERR_BADLAYOUT, NFS4ERR_LAYOUTTRYLATER, NFS4ERR_RECALLCONFLICT, NFS4ERR_LAYOUTUNAVAILABLE}
use Rattle.history_law.specs.State.{CallOp, Call, Held, Awaited, TimedOut, Io, Need, Get, Commit, Close, Phase, Starts, Needs, Waits, Reads, Probes, Gathers, Scatters, Outcome, WriteOk, NoFile, HeldBy, Fencing, Degraded, Spent, Status, Refused, Silent, Turn, Goes, Ends, Forgets, Moved, Answer, Reply, Span, Column, Store}
use Rattle.client_rules.specs.declared.limits.TheConstants.{PERFORMED, OTHER_TAG, NO_COMPONENT}
use Rattle.client_rules.specs.Calls.{span_of}
use Rattle.client_rules.specs.Results.{status_of}
use Rattle.client_rules.specs.Turns.{turned, needing, closing}
use Rattle.client_rules.specs.Reads.{reads_on, reads_unless, reads, probes_on, probes_by, probes}
use Rattle.client_rules.specs.Writes.{accounted, is_past_size, written, scatters_on, scatters, scatters_next, gathers_on, gathers}
use Rattle.client_rules.specs.Replies.{refusal, refused_report, performed, refused, replied, gather_timed, scatter_timed, timed_out}
use Rattle.client_rules.specs.Answers.{busy, unavailable, refused_with, not_granted, committed, not_committed, on_commit, is_loss_taken, on_report}
use Rattle.client_rules.specs.Going.{begins}
use Rattle.world_history.specs.Names.{is_tellable}

-- a line can tell what the outcome names
abbrev pub OutcomeTold : Outcome → Type 0
OutcomeTold (Refused d n e) = is_tellable (Refused d n e) ≡ true
OutcomeTold (HeldBy c) = is_tellable (HeldBy c) ≡ true
OutcomeTold o = Unit {0}

-- so is one that is kept until the grant is back
abbrev pub NeedTold : Need → Type 0
NeedTold (Close o report) = OutcomeTold o
NeedTold n = Unit {0}

abbrev pub PhaseTold : Phase → Type 0
PhaseTold (Needs n) = NeedTold n
PhaseTold (Waits n) = NeedTold n
PhaseTold p = Unit {0}

abbrev pub CallTold : Option Call → Type 0
CallTold None = Unit {0}
CallTold (Some call) = PhaseTold call.phase

abbrev pub EndTold : Option Outcome → Type 0
EndTold None = Unit {0}
EndTold (Some o) = OutcomeTold o

abbrev pub TurnTold : Turn → Type 0
TurnTold (Goes p) = PhaseTold p
TurnTold (Ends o) = OutcomeTold o
TurnTold (Forgets o) = OutcomeTold o

pub record MovedTold (m : Moved) : Type 0 where
  pub turn : TurnTold m.turn

either : (b : Bool) (m n : Moved) → MovedTold m → MovedTold n → MovedTold (if b then m else n)
either true m n k l = k
either false m n k l = l

turned_told : (h : Held) (t : Turn) → TurnTold t → MovedTold (turned h t)
turned_told h t k = record { turn = k }

pub either_turn : (b : Bool) (t u : Turn) → TurnTold t → TurnTold u → TurnTold (if b then t else u)
either_turn true t u k l = k
either_turn false t u k l = l

-- ---- reads

reads_on_told : (h : Held) (r : Span) (got : List Column) (timed : List TimedOut) (sent awaited : List Awaited)
    → MovedTold (reads_on h r got timed sent awaited)
unfolding reads_on
reads_on_told h r got timed sent [] = record { turn = tt }
reads_on_told h r got timed sent (a ∷ xs) = record { turn = tt }

reads_unless_told : (h : Held) (r : Span) (got : List Column) (timed : List TimedOut) (awaited : List Awaited)
    (o : Option (List ℕ)) → MovedTold (reads_unless h r got timed awaited o)
reads_unless_told h r got timed awaited (Some ps) = record { turn = tt }
reads_unless_told h r got timed awaited None = reads_on_told h r got timed _ _

reads_told : (h : Held) (r : Span) (got : List Column) (timed : List TimedOut) (awaited : List Awaited)
    → MovedTold (reads h r got timed awaited)
unfolding reads
reads_told h r got timed awaited = reads_unless_told h r got timed awaited _

probes_on_told : (h : Held) (got : List Column) (timed : List TimedOut) (sent awaited : List Awaited)
    → MovedTold (probes_on h got timed sent awaited)
unfolding probes_on
probes_on_told h got timed sent [] = record { turn = tt }
probes_on_told h got timed sent (a ∷ xs) = record { turn = tt }

probes_by_told : (h : Held) (got : List Column) (timed : List TimedOut) (awaited : List Awaited) (o : Option ℕ)
    → MovedTold (probes_by h got timed awaited o)
probes_by_told h got timed awaited None = record { turn = tt }
probes_by_told h got timed awaited (Some n) = either _ _ _ (turned_told h _ tt) (probes_on_told h got timed _ _)

probes_told : (h : Held) (got : List Column) (timed : List TimedOut) (awaited : List Awaited)
    → MovedTold (probes h got timed awaited)
unfolding probes
probes_told h got timed awaited = probes_by_told h got timed awaited _

-- ---- writes

accounted_told : (op : CallOp) (timed : List TimedOut) → TurnTold (accounted op timed)
accounted_told op [] = tt
accounted_told op (t ∷ ts) = tt

written_told : (h : Held) (op : CallOp) (timed : List TimedOut) → TurnTold (written h op timed)
unfolding written
written_told h op timed =
    either_turn (is_past_size h op) (needing (Commit timed)) (accounted op timed) tt (accounted_told op timed)

scatters_on_told : (h : Held) (op : CallOp) (timed : List TimedOut) (queue : List Store)
    (sent awaited : List Awaited) → MovedTold (scatters_on h op timed queue sent awaited)
unfolding scatters_on
scatters_on_told h op timed queue sent [] = record { turn = written_told h op timed }
scatters_on_told h op timed queue sent (a ∷ xs) = record { turn = tt }

scatters_told : (h : Held) (op : CallOp) (got : List Column) (timed : List TimedOut)
    → MovedTold (scatters h op got timed)
unfolding scatters
scatters_told h op got timed = scatters_on_told h op timed _ _ _

next_told : (h : Held) (op : CallOp) (timed : List TimedOut) (queue : List Store) (n : ℕ) (awaited : List Awaited)
    → MovedTold (scatters_next h op timed queue n awaited)
unfolding scatters_next
next_told h op timed queue n awaited = scatters_on_told h op timed _ _ _

gathers_on_told : (h : Held) (op : CallOp) (got : List Column) (timed : List TimedOut) (sent awaited : List Awaited)
    → MovedTold (gathers_on h op got timed sent awaited)
unfolding gathers_on
gathers_on_told h op got timed sent [] = scatters_told h op got timed
gathers_on_told h op got timed sent (a ∷ xs) = record { turn = tt }

gathers_told : (h : Held) (op : CallOp) (got : List Column) (timed : List TimedOut) (awaited : List Awaited)
    → MovedTold (gathers h op got timed awaited)
unfolding gathers
gathers_told h op got timed awaited = gathers_on_told h op got timed _ _

-- ---- replies

performed_told : (h : Held) (op : CallOp) (p : Phase) (a : Awaited) (r : Reply) → PhaseTold p
    → MovedTold (performed h op p a r)
performed_told h op (Reads io) a r k = reads_on_told h _ _ io.timed [] _
performed_told h op (Probes io) a r k = probes_on_told h _ io.timed [] _
performed_told h op (Gathers io) a r k = gathers_on_told h op _ io.timed [] _
performed_told h op (Scatters io queue) a r k = next_told h op io.timed queue _ _
performed_told h op Starts a r k = record { turn = tt }
performed_told h op (Needs need) a r k = record { turn = k }
performed_told h op (Waits need) a r k = record { turn = k }

refused_told : (h : Held) (p : Phase) (a : Awaited) (r : Reply) → OutcomeTold (refusal a r)
    → MovedTold (refused h p a r)
unfolding refused
refused_told h p a r k =
    either (r.verdict == OTHER_TAG) (turned h (Forgets (refusal a r)))
    (turned h (closing (refusal a r) (refused_report h p a r))) (record { turn = k }) (record { turn = k })

-- a reply that says anything else than that the command was performed
abbrev pub Says : Awaited → Reply → Type 0
Says a r = (r.verdict == PERFORMED) ≡ false → OutcomeTold (refusal a r)

by_verdict : (b : Bool) (m n : Moved) → MovedTold m → (b ≡ false → MovedTold n)
    → MovedTold (if b then m else n)
by_verdict true m n k l = k
by_verdict false m n k l = l refl

pub replied_told : (h : Held) (op : CallOp) (p : Phase) (a : Awaited) (r : Reply) → PhaseTold p → Says a r
    → MovedTold (replied h op p a r)
unfolding replied
replied_told h op p a r k says =
    by_verdict (r.verdict == PERFORMED) _ _ (performed_told h op p a r k) (λ e. refused_told h p a r (says e))

-- ---- timeouts

gather_timed_told : (h : Held) (op : CallOp) (io : Io) (n : ℕ) (timed : List TimedOut)
    → MovedTold (gather_timed h op io n timed)
unfolding gather_timed
gather_timed_told h op io n timed = either _ _ _ (turned_told h _ tt) (gathers_told h op io.got timed _)

scatter_timed_told : (h : Held) (op : CallOp) (io : Io) (queue : List Store) (n : ℕ) (timed : List TimedOut)
    → MovedTold (scatter_timed h op io queue n timed)
unfolding scatter_timed
scatter_timed_told h op io queue n timed = either _ _ _ (turned_told h _ tt) (scatters_on_told h op timed _ [] _)

pub timed_out_told : (h : Held) (op : CallOp) (p : Phase) (n : ℕ) (a : Awaited) (xs : List Awaited) → PhaseTold p
    → MovedTold (timed_out h op p n a xs)
timed_out_told h op (Reads io) n a xs k = reads_told h _ io.got _ _
timed_out_told h op (Probes io) n a xs k = probes_told h io.got _ _
timed_out_told h op (Gathers io) n a xs k = gather_timed_told h op io n _
timed_out_told h op (Scatters io queue) n a xs k = scatter_timed_told h op io queue n _
timed_out_told h op Starts n a xs k = record { turn = tt }
timed_out_told h op (Needs need) n a xs k = record { turn = k }
timed_out_told h op (Waits need) n a xs k = record { turn = k }

-- ---- the begin, and answers of the server

pub begins_told : (h : Held) (op : CallOp) → MovedTold (begins h op)
unfolding begins
begins_told h op = either _ _ _ (gathers_told h op [] [] []) (either _ _ _ (probes_told h [] [] [])
    (reads_told h _ [] [] []))

not_committed_told : (status detail : ℕ) → TurnTold (not_committed status detail)
unfolding not_committed
not_committed_told status detail =
    either_turn (status == NFS4ERR_BADLAYOUT) (Forgets (Status status detail)) (Ends (Status status detail)) tt tt

pub on_commit_told : (h : Held) (op : CallOp) (a : Answer) (timed : List TimedOut)
    → MovedTold (on_commit h op a timed)
unfolding on_commit
on_commit_told h op a timed =
    either (status_of a.results == NFS4_OK) (committed h op a timed)
    (turned h (not_committed (status_of a.results) a.detail)) (record { turn = accounted_told op timed })
    (record { turn = not_committed_told (status_of a.results) a.detail })

-- an answer that bids the client try later names a holder that a line can tell
abbrev pub Names : (status detail : ℕ) → Type 0
Names status detail = status ≡ NFS4ERR_LAYOUTTRYLATER → OutcomeTold (HeldBy detail)

by_status : (status n : ℕ) (t u : Turn) → (status ≡ n → TurnTold t) → TurnTold u
    → TurnTold (if status == n then t else u)
by_status status n t u k l = elim (cases_eq status n) [
  | inl same ↦ rw (eq-eqb status n same) (k same)
  | inr other ↦ rw (ne_eqb status n other) l
]

busy_told : (tries : ℕ) (o : Outcome) → OutcomeTold o → TurnTold (busy tries o)
unfolding busy
busy_told tries o k = either_turn _ (Goes (Needs (Get (tries + 1)))) (Ends o) tt k

unavailable_told : (b : Bool) (detail : ℕ) → OutcomeTold (if b then Spent else Degraded detail)
unavailable_told true detail = tt
unavailable_told false detail = tt

refused_with_told : (status detail tries : ℕ) → Names status detail → TurnTold (refused_with status detail tries)
refused_with_told status detail tries names =
    either_turn (status == NFS4ERR_NOENT) (Ends NoFile) _ tt
    (by_status status NFS4ERR_LAYOUTTRYLATER (busy tries (HeldBy detail)) _
    (λ same. busy_told tries (HeldBy detail) (names same))
    (either_turn (status == NFS4ERR_RECALLCONFLICT) (busy tries (Fencing detail)) _
    (busy_told tries (Fencing detail) tt)
    (either_turn (status == NFS4ERR_LAYOUTUNAVAILABLE) (Ends (unavailable detail)) (Ends (Status status detail))
    (unavailable_told (detail == NO_COMPONENT) detail) tt)))

pub not_granted_told : (a : Answer) (tries : ℕ) → Names (status_of a.results) a.detail → TurnTold (not_granted a tries)
unfolding not_granted
not_granted_told a tries names = refused_with_told (status_of a.results) a.detail tries names

reported : (b : Bool) (op : CallOp) (timed : List TimedOut) (k : ℕ)
    → OutcomeTold (if b then WriteOk (span_of op).length else Silent k)
reported true op timed k = tt
reported false op timed k = tt

pub on_report_told : (op : CallOp) (a : Answer) (timed : List TimedOut) → OutcomeTold (on_report op a timed)
unfolding on_report
on_report_told op a timed = reported (is_loss_taken a) op timed _
