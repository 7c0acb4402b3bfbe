-- After what a call does with the drives it asks the server at most twice.
use Rattle.std.proofs.Common.{◌≤◌, ◌+◌, ◌-◌, ◌/◌, ◌==◌, ℕ, Bool, true, false, List, [], ◌∷◌, Option, Some, None, arith, if◌then◌else◌}
use Rattle.history_law.specs.State.{CallOp, Held, Awaited, TimedOut, Io, Need, First, Get, Commit, Report, Close, Phase, Starts, Needs, Waits, Reads, Probes, Gathers, Scatters, Outcome, Lost, Silent, Turn, Goes, Ends, Forgets, Moved, Reply, Span, Column, Store}
use Rattle.client_rules.specs.Reads.{reads_on, reads_unless, reads, probes_on, is_probe_lost, probes_sent, probes_by, probes}
use Rattle.data_map.specs.Striping.{replicas, group_width}
use Rattle.stripe_plan.specs.Lost.{positions_out}
use Rattle.client_rules.specs.Io.{outs}
use Rattle.client_rules.specs.Turns.{turned, ended, closing}
use Rattle.client_rules.specs.Commands.{not_of}
use Rattle.client_rules.specs.Requests.{report_of}
use Rattle.client_rules.specs.Writes.{accounted, written, scatters_on, scatters, scatters_next, gathers_on, gathers, is_too_short, without_component}
use Rattle.client_rules.specs.Replies.{refusal, refused_report, refused, performed, replied, gather_timed, scatter_timed, timed_out}
use Rattle.client_rules.specs.Going.{begins}

-- ---- how many requests may follow

-- behind the answer to what a call needs
abbrev pub rank_behind : Need → ℕ
rank_behind First = 5
rank_behind (Get tries) = (2 - tries) + 2
rank_behind (Commit timed) = 1
rank_behind (Report timed) = 0
rank_behind (Close outcome report) = 0

-- a call has to do with the drives
abbrev pub IsDriving : Phase → Type 0
IsDriving Starts = ⊥
IsDriving (Needs need) = ⊥
IsDriving (Waits need) = ⊥
IsDriving p = Unit {0}

-- so it does behind this turn, or ends, or needs what comes last
abbrev pub IsLate : Phase → Type 0
IsLate (Needs need) = rank_behind need ≤ 1
IsLate p = IsDriving p

-- (these words stay folded, so that the lemmas on tests find their cases)
unfoldable pub FewTurn : Turn → Type 0
FewTurn (Goes p) = IsLate p
FewTurn (Ends o) = Unit {0}
FewTurn (Forgets o) = Unit {0}

unfoldable pub FewMoved : Moved → Type 0
FewMoved m = FewTurn m.turn

ends : (o : Outcome) → FewTurn (Ends o)
unfolding FewTurn
ends o = tt

forgets : (o : Outcome) → FewTurn (Forgets o)
unfolding FewTurn
forgets o = tt

-- what comes last
abbrev IsLast : Need → Type 0
IsLast First = ⊥
IsLast (Get tries) = ⊥
IsLast n = Unit {0}

needs_few : (n : Need) → IsLast n → FewTurn (Goes (Needs n))
unfolding FewTurn
needs_few (Commit timed) l = omega arith
needs_few (Report timed) l = omega arith
needs_few (Close outcome report) l = omega arith
needs_few First l = absurd l
needs_few (Get tries) l = absurd l

goes_on : (p : Phase) → IsDriving p → FewTurn (Goes p)
unfolding FewTurn
goes_on Starts w = absurd w
goes_on (Needs n) w = absurd w
goes_on (Waits n) w = absurd w
goes_on (Reads io) w = w
goes_on (Probes io) w = w
goes_on (Gathers io) w = w
goes_on (Scatters io queue) w = w

turned_few : (h : Held) (t : Turn) (sent : List Awaited) → FewTurn t
    → FewMoved (record { held = h; turn = t; sent = sent })
unfolding FewMoved
turned_few h t sent w = w

pub turn_few : (m : Moved) → FewMoved m → FewTurn m.turn
unfolding FewMoved
turn_few m w = w

either_turn : (b : Bool) (t u : Turn) → FewTurn t → FewTurn u → FewTurn (if b then t else u)
either_turn true t u x y = x
either_turn false t u x y = y

either : (b : Bool) (m n : Moved) → FewMoved m → FewMoved n → FewMoved (if b then m else n)
either true m n x y = x
either false m n x y = y

-- ---- dealings with the drives

pub reads_on_few : (h : Held) (r : Span) (got : List Column) (timed : List TimedOut) (sent awaited : List Awaited)
    → FewMoved (reads_on h r got timed sent awaited)
unfolding reads_on
reads_on_few h r got timed sent [] = turned_few _ _ _ (ends _)
reads_on_few h r got timed sent (a ∷ xs) = turned_few _ _ _ (goes_on _ tt)

pub reads_unless_few : (h : Held) (r : Span) (got : List Column) (timed : List TimedOut) (awaited : List Awaited)
    (o : Option (List ℕ))
    → FewMoved (reads_unless h r got timed awaited o)
reads_unless_few h r got timed awaited None = reads_on_few h r got timed _ _
reads_unless_few h r got timed awaited (Some ps) = turned_few _ _ _ (ends _)

pub reads_few : (h : Held) (r : Span) (got : List Column) (timed : List TimedOut) (awaited : List Awaited)
    → FewMoved (reads h r got timed awaited)
unfolding reads
reads_few h r got timed awaited = reads_unless_few h r got timed awaited _

pub probes_on_few : (h : Held) (got : List Column) (timed : List TimedOut) (sent awaited : List Awaited)
    → FewMoved (probes_on h got timed sent awaited)
unfolding probes_on
probes_on_few h got timed sent [] = turned_few _ _ _ (ends _)
probes_on_few h got timed sent (a ∷ xs) = turned_few _ _ _ (goes_on _ tt)

pub probes_by_few : (h : Held) (got : List Column) (timed : List TimedOut) (awaited : List Awaited) (o : Option ℕ)
    → FewMoved (probes_by h got timed awaited o)
probes_by_few h got timed awaited None = turned_few _ _ _ (ends _)
probes_by_few h got timed awaited (Some k) =
    either (is_probe_lost h.map (outs h timed) (k / replicas h.map))
    (ended h (Lost (positions_out h.map (outs h timed) (k / replicas h.map / group_width h.map))))
    (probes_sent h got timed awaited (k / replicas h.map))
    (turned_few _ _ _ (ends _)) (probes_on_few h got timed _ _)

pub probes_few : (h : Held) (got : List Column) (timed : List TimedOut) (awaited : List Awaited)
    → FewMoved (probes h got timed awaited)
unfolding probes
probes_few h got timed awaited = probes_by_few h got timed awaited _

pub accounted_few : (op : CallOp) (timed : List TimedOut) → FewTurn (accounted op timed)
accounted_few op [] = ends _
accounted_few op (t ∷ ts) = needs_few _ tt

pub written_few : (h : Held) (op : CallOp) (timed : List TimedOut) → FewTurn (written h op timed)
unfolding written
written_few h op timed = either_turn _ _ _ (needs_few _ tt) (accounted_few op timed)

pub scatters_on_few : (h : Held) (op : CallOp) (timed : List TimedOut) (queue : List Store)
    (sent awaited : List Awaited)
    → FewMoved (scatters_on h op timed queue sent awaited)
unfolding scatters_on
scatters_on_few h op timed queue sent [] = turned_few _ _ _ (written_few h op timed)
scatters_on_few h op timed queue sent (a ∷ xs) = turned_few _ _ _ (goes_on _ tt)

pub scatters_few : (h : Held) (op : CallOp) (got : List Column) (timed : List TimedOut)
    → FewMoved (scatters h op got timed)
unfolding scatters
scatters_few h op got timed = scatters_on_few h op timed _ _ _

pub scatters_next_few : (h : Held) (op : CallOp) (timed : List TimedOut) (queue : List Store) (k : ℕ)
    (awaited : List Awaited)
    → FewMoved (scatters_next h op timed queue k awaited)
unfolding scatters_next
scatters_next_few h op timed queue k awaited = scatters_on_few h op timed _ _ _

pub gathers_on_few : (h : Held) (op : CallOp) (got : List Column) (timed : List TimedOut) (sent awaited : List Awaited)
    → FewMoved (gathers_on h op got timed sent awaited)
unfolding gathers_on
gathers_on_few h op got timed sent [] = scatters_few h op got timed
gathers_on_few h op got timed sent (a ∷ xs) = turned_few _ _ _ (goes_on _ tt)

pub gathers_few : (h : Held) (op : CallOp) (got : List Column) (timed : List TimedOut) (awaited : List Awaited)
    → FewMoved (gathers h op got timed awaited)
unfolding gathers
gathers_few h op got timed awaited = gathers_on_few h op got timed _ _

-- ---- replies and timeouts

pub performed_few : (h : Held) (op : CallOp) (p : Phase) (a : Awaited) (r : Reply) → IsDriving p
    → FewMoved (performed h op p a r)
performed_few h op (Reads io) a r w = reads_on_few h _ _ io.timed [] _
performed_few h op (Probes io) a r w = probes_on_few h _ io.timed [] _
performed_few h op (Gathers io) a r w = gathers_on_few h op _ io.timed [] _
performed_few h op (Scatters io queue) a r w = scatters_next_few h op io.timed queue _ _
performed_few h op Starts a r w = absurd w
performed_few h op (Needs need) a r w = absurd w
performed_few h op (Waits need) a r w = absurd w

pub refused_few : (h : Held) (p : Phase) (a : Awaited) (r : Reply) → FewMoved (refused h p a r)
unfolding refused
refused_few h p a r =
    either (r.verdict == 9) (turned h (Forgets (refusal a r)))
    (turned h (closing (refusal a r) (refused_report h p a r))) (turned_few _ _ _ (forgets _))
    (turned_few _ _ _ (needs_few _ tt))

pub replied_few : (h : Held) (op : CallOp) (p : Phase) (a : Awaited) (r : Reply) → IsDriving p
    → FewMoved (replied h op p a r)
unfolding replied
replied_few h op p a r w = either _ _ _ (performed_few h op p a r w) (refused_few h p a r)

pub gather_timed_few : (h : Held) (op : CallOp) (io : Io) (k : ℕ) (timed : List TimedOut)
    → FewMoved (gather_timed h op io k timed)
unfolding gather_timed
gather_timed_few h op io k timed =
    either (is_too_short h op timed) (ended h (Silent k)) (gathers h op io.got timed (not_of k io.awaited))
    (turned_few _ _ _ (ends _)) (gathers_few h op io.got timed _)

pub scatter_timed_few : (h : Held) (op : CallOp) (io : Io) (queue : List Store) (k : ℕ) (timed : List TimedOut)
    → FewMoved (scatter_timed h op io queue k timed)
unfolding scatter_timed
scatter_timed_few h op io queue k timed =
    either (is_too_short h op timed) (turned h (closing (Silent k) (report_of h timed)))
    (scatters_on h op timed (without_component k queue) [] (not_of k io.awaited)) (turned_few _ _ _ (needs_few _ tt))
    (scatters_on_few h op timed _ [] _)

pub timed_out_few : (h : Held) (op : CallOp) (p : Phase) (k : ℕ) (a : Awaited) (xs : List Awaited) → IsDriving p
    → FewMoved (timed_out h op p k a xs)
timed_out_few h op (Reads io) k a xs w = reads_few h _ io.got _ _
timed_out_few h op (Probes io) k a xs w = probes_few h io.got _ _
timed_out_few h op (Gathers io) k a xs w = gather_timed_few h op io k _
timed_out_few h op (Scatters io queue) k a xs w = scatter_timed_few h op io queue k _
timed_out_few h op Starts k a xs w = absurd w
timed_out_few h op (Needs need) k a xs w = absurd w
timed_out_few h op (Waits need) k a xs w = absurd w

pub begins_few : (h : Held) (op : CallOp) → FewMoved (begins h op)
unfolding begins
begins_few h op =
    either _ _ _ (gathers_few h op [] [] []) (either _ _ _ (probes_few h [] [] []) (reads_few h _ [] [] []))
