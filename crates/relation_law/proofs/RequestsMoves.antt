-- What a call does with the drives leaves no phase that waits for the server: only a request that is sent does.
use Rattle.std.specs.Prelude.{refl, ℕ, ◌/◌, ◌==◌, Bool, true, false, if◌then◌else◌, List, [], ◌∷◌, Option, Some, None}
use Rattle.world_history.specs.ClientNames.{CallOp, Held, Awaited, TimedOut, Io, Need, Phase, Starts, Needs, Waits, Reads, Probes, Gathers, Scatters, Outcome, Lost, Silent, Turn, Goes, Ends, Forgets, Moved, Reply, Span, Column, Store}
use Rattle.client_rules.specs.Reads.{reads_on, reads_unless, reads, probes_on, is_probe_lost, probes_sent, probes_by, probes}
use Rattle.data_map.specs.Striping.{replicas, group_width}
use Rattle.stripe_plan.specs.Lost.{positions_out}
use Rattle.client_rules.specs.Io.{outs}
use Rattle.client_rules.specs.Turns.{turned, ended, closing}
use Rattle.client_rules.specs.Commands.{not_of}
use Rattle.client_rules.specs.Requests.{report_of}
use Rattle.client_rules.specs.Writes.{accounted, written, scatters_on, scatters, scatters_next, gathers_on, gathers, is_too_short, without_component}
use Rattle.client_rules.specs.Replies.{refusal, refused_report, refused, performed, replied, gather_timed, scatter_timed, timed_out}
use Rattle.client_rules.specs.Going.{begins}
use Rattle.relation_law.specs.Requests.{Works}

-- ---- turns

-- (these words stay folded, so that the lemmas on tests find their cases)
unfoldable pub WorksTurn : Turn → Type 0
WorksTurn (Goes p) = Works p
WorksTurn (Ends o) = Unit {0}
WorksTurn (Forgets o) = Unit {0}

unfoldable pub WorksMoved : Moved → Type 0
WorksMoved m = WorksTurn m.turn

pub ends : (o : Outcome) → WorksTurn (Ends o)
unfolding WorksTurn
ends o = tt

pub forgets : (o : Outcome) → WorksTurn (Forgets o)
unfolding WorksTurn
forgets o = tt

pub needs : (n : Need) → WorksTurn (Goes (Needs n))
unfolding WorksTurn
needs n = refl

pub goes : (p : Phase) → Works p → WorksTurn (Goes p)
unfolding WorksTurn
goes p w = w

pub turned_works : (h : Held) (t : Turn) (sent : List Awaited) → WorksTurn t
    → WorksMoved (record { held = h; turn = t; sent = sent })
unfolding WorksMoved
turned_works h t sent w = w

pub turn_of : (m : Moved) → WorksMoved m → WorksTurn m.turn
unfolding WorksMoved
turn_of m w = w

pub either_turn : (b : Bool) (t u : Turn) → WorksTurn t → WorksTurn u → WorksTurn (if b then t else u)
either_turn true t u x y = x
either_turn false t u x y = y

pub either : (b : Bool) (m n : Moved) → WorksMoved m → WorksMoved n → WorksMoved (if b then m else n)
either true m n x y = x
either false m n x y = y

-- ---- dealings with the drives

pub reads_on_works : (h : Held) (r : Span) (got : List Column) (timed : List TimedOut) (sent awaited : List Awaited)
    → WorksMoved (reads_on h r got timed sent awaited)
unfolding reads_on
reads_on_works h r got timed sent [] = turned_works _ _ _ (ends _)
reads_on_works h r got timed sent (a ∷ xs) = turned_works _ _ _ (goes _ refl)

pub reads_unless_works : (h : Held) (r : Span) (got : List Column) (timed : List TimedOut) (awaited : List Awaited)
    (o : Option (List ℕ)) → WorksMoved (reads_unless h r got timed awaited o)
reads_unless_works h r got timed awaited None = reads_on_works h r got timed _ _
reads_unless_works h r got timed awaited (Some ps) = turned_works _ _ _ (ends _)

pub reads_works : (h : Held) (r : Span) (got : List Column) (timed : List TimedOut) (awaited : List Awaited)
    → WorksMoved (reads h r got timed awaited)
unfolding reads
reads_works h r got timed awaited = reads_unless_works h r got timed awaited _

pub probes_on_works : (h : Held) (got : List Column) (timed : List TimedOut) (sent awaited : List Awaited)
    → WorksMoved (probes_on h got timed sent awaited)
unfolding probes_on
probes_on_works h got timed sent [] = turned_works _ _ _ (ends _)
probes_on_works h got timed sent (a ∷ xs) = turned_works _ _ _ (goes _ refl)

pub probes_by_works : (h : Held) (got : List Column) (timed : List TimedOut) (awaited : List Awaited) (o : Option ℕ)
    → WorksMoved (probes_by h got timed awaited o)
probes_by_works h got timed awaited None = turned_works _ _ _ (ends _)
probes_by_works h got timed awaited (Some k) =
    either (is_probe_lost h.map (outs h timed) (k / replicas h.map))
    (ended h (Lost (positions_out h.map (outs h timed) (k / replicas h.map / group_width h.map))))
    (probes_sent h got timed awaited (k / replicas h.map))
    (turned_works _ _ _ (ends _)) (probes_on_works h got timed _ _)

pub probes_works : (h : Held) (got : List Column) (timed : List TimedOut) (awaited : List Awaited)
    → WorksMoved (probes h got timed awaited)
unfolding probes
probes_works h got timed awaited = probes_by_works h got timed awaited _

pub accounted_works : (op : CallOp) (timed : List TimedOut) → WorksTurn (accounted op timed)
accounted_works op [] = ends _
accounted_works op (t ∷ ts) = needs _

pub written_works : (h : Held) (op : CallOp) (timed : List TimedOut) → WorksTurn (written h op timed)
unfolding written
written_works h op timed = either_turn _ _ _ (needs _) (accounted_works op timed)

pub scatters_on_works : (h : Held) (op : CallOp) (timed : List TimedOut) (queue : List Store)
    (sent awaited : List Awaited) → WorksMoved (scatters_on h op timed queue sent awaited)
unfolding scatters_on
scatters_on_works h op timed queue sent [] = turned_works _ _ _ (written_works h op timed)
scatters_on_works h op timed queue sent (a ∷ xs) = turned_works _ _ _ (goes _ refl)

pub scatters_works : (h : Held) (op : CallOp) (got : List Column) (timed : List TimedOut) → WorksMoved (scatters h op got timed)
unfolding scatters
scatters_works h op got timed = scatters_on_works h op timed _ _ _

pub scatters_next_works : (h : Held) (op : CallOp) (timed : List TimedOut) (queue : List Store) (k : ℕ)
    (awaited : List Awaited) → WorksMoved (scatters_next h op timed queue k awaited)
unfolding scatters_next
scatters_next_works h op timed queue k awaited = scatters_on_works h op timed _ _ _

pub gathers_on_works : (h : Held) (op : CallOp) (got : List Column) (timed : List TimedOut)
    (sent awaited : List Awaited) → WorksMoved (gathers_on h op got timed sent awaited)
unfolding gathers_on
gathers_on_works h op got timed sent [] = scatters_works h op got timed
gathers_on_works h op got timed sent (a ∷ xs) = turned_works _ _ _ (goes _ refl)

pub gathers_works : (h : Held) (op : CallOp) (got : List Column) (timed : List TimedOut) (awaited : List Awaited)
    → WorksMoved (gathers h op got timed awaited)
unfolding gathers
gathers_works h op got timed awaited = gathers_on_works h op got timed _ _

-- ---- replies and timeouts

pub performed_works : (h : Held) (op : CallOp) (p : Phase) (a : Awaited) (r : Reply) → Works p → WorksMoved (performed h op p a r)
performed_works h op (Reads io) a r w = reads_on_works h _ _ io.timed [] _
performed_works h op (Probes io) a r w = probes_on_works h _ io.timed [] _
performed_works h op (Gathers io) a r w = gathers_on_works h op _ io.timed [] _
performed_works h op (Scatters io queue) a r w = scatters_next_works h op io.timed queue _ _
performed_works h op Starts a r w = turned_works _ _ _ (goes _ refl)
performed_works h op (Needs need) a r w = turned_works _ _ _ (goes _ refl)
performed_works h op (Waits need) a r w = turned_works _ _ _ (goes _ w)

pub refused_works : (h : Held) (p : Phase) (a : Awaited) (r : Reply) → WorksMoved (refused h p a r)
unfolding refused
refused_works h p a r = either (r.verdict == 9) (turned h (Forgets (refusal a r)))
    (turned h (closing (refusal a r) (refused_report h p a r))) (turned_works _ _ _ (forgets _)) (turned_works _ _ _ (needs _))

pub replied_works : (h : Held) (op : CallOp) (p : Phase) (a : Awaited) (r : Reply) → Works p → WorksMoved (replied h op p a r)
unfolding replied
replied_works h op p a r w = either _ _ _ (performed_works h op p a r w) (refused_works h p a r)

pub gather_timed_works : (h : Held) (op : CallOp) (io : Io) (k : ℕ) (timed : List TimedOut)
    → WorksMoved (gather_timed h op io k timed)
unfolding gather_timed
gather_timed_works h op io k timed = either (is_too_short h op timed) (ended h (Silent k))
    (gathers h op io.got timed (not_of k io.awaited)) (turned_works _ _ _ (ends _)) (gathers_works h op io.got timed _)

pub scatter_timed_works : (h : Held) (op : CallOp) (io : Io) (queue : List Store) (k : ℕ) (timed : List TimedOut)
    → WorksMoved (scatter_timed h op io queue k timed)
unfolding scatter_timed
scatter_timed_works h op io queue k timed =
    either (is_too_short h op timed) (turned h (closing (Silent k) (report_of h timed)))
    (scatters_on h op timed (without_component k queue) [] (not_of k io.awaited)) (turned_works _ _ _ (needs _))
    (scatters_on_works h op timed _ [] _)

pub timed_out_works : (h : Held) (op : CallOp) (p : Phase) (k : ℕ) (a : Awaited) (xs : List Awaited) → Works p
    → WorksMoved (timed_out h op p k a xs)
timed_out_works h op (Reads io) k a xs w = reads_works h _ io.got _ _
timed_out_works h op (Probes io) k a xs w = probes_works h io.got _ _
timed_out_works h op (Gathers io) k a xs w = gather_timed_works h op io k _
timed_out_works h op (Scatters io queue) k a xs w = scatter_timed_works h op io queue k _
timed_out_works h op Starts k a xs w = turned_works _ _ _ (goes _ refl)
timed_out_works h op (Needs need) k a xs w = turned_works _ _ _ (goes _ refl)
timed_out_works h op (Waits need) k a xs w = turned_works _ _ _ (goes _ w)

pub begins_works : (h : Held) (op : CallOp) → WorksMoved (begins h op)
unfolding begins
begins_works h op = either _ _ _ (gathers_works h op [] [] []) (either _ _ _ (probes_works h [] [] []) (reads_works h _ [] [] []))
