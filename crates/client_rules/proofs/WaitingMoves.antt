-- What a call does with the drives leaves something awaited, or no phase that waits for drives.
use Rattle.std.specs.Prelude.{ℕ, ◌/◌, ◌==◌, Bool, true, false, if◌then◌else◌, List, [], ◌∷◌, Option, Some, None}
use Rattle.client_rules.specs.State.{CallOp, Held, Awaited, TimedOut, Io, Need, Phase, Starts, Needs, Waits, Reads, Probes, Gathers, Scatters, Outcome, Lost, Silent, Turn, Goes, Ends, Forgets, Moved, Done, Reply, Span, Column, Store}
use Rattle.client_rules.specs.Reads.{reads_on, reads_unless, reads, probes_on, is_probe_lost, probes_sent, probes_by, probes}
use Rattle.data_map.specs.Striping.{replicas, group_width}
use Rattle.stripe_plan.specs.Lost.{positions_out}
use Rattle.client_rules.specs.Io.{outs}
use Rattle.client_rules.specs.Turns.{turned, ended, closing}
use Rattle.client_rules.specs.Commands.{not_of}
use Rattle.client_rules.specs.Requests.{report_of}
use Rattle.client_rules.specs.Writes.{accounted, written, scatters_on, scatters, scatters_next, gathers_on, gathers, is_too_short, without_component}
use Rattle.client_rules.specs.Replies.{refusal, refused_report, refused, performed, replied, gather_timed, scatter_timed, timed_out}
use Rattle.client_rules.specs.Going.{begins}
use Rattle.client_rules.specs.Laws.{Rests, IsResting}

-- ---- turns

-- (these words stay folded, so that the lemmas on tests find their cases)
unfoldable pub RestsTurn : Turn → Type 0
RestsTurn (Goes p) = Rests p
RestsTurn (Ends o) = Unit {0}
RestsTurn (Forgets o) = Unit {0}

unfoldable pub RestsMoved : Moved → Type 0
RestsMoved m = RestsTurn m.turn

unfoldable pub RestsDone : Done → Type 0
RestsDone d = IsResting d.client

pub ends : (o : Outcome) → RestsTurn (Ends o)
unfolding RestsTurn
ends o = tt

pub forgets : (o : Outcome) → RestsTurn (Forgets o)
unfolding RestsTurn
forgets o = tt

pub needs : (n : Need) → RestsTurn (Goes (Needs n))
unfolding RestsTurn
needs n = tt

pub goes : (p : Phase) → Rests p → RestsTurn (Goes p)
unfolding RestsTurn
goes p w = w

pub turned_rests : (h : Held) (t : Turn) (sent : List Awaited) → RestsTurn t →
    RestsMoved (record { held = h; turn = t; sent = sent })
unfolding RestsMoved
turned_rests h t sent w = w

pub turn_of : (m : Moved) → RestsMoved m → RestsTurn m.turn
unfolding RestsMoved
turn_of m w = w

pub either_turn : (b : Bool) (t u : Turn) → RestsTurn t → RestsTurn u → RestsTurn (if b then t else u)
either_turn true t u x y = x
either_turn false t u x y = y

pub either : (b : Bool) (m n : Moved) → RestsMoved m → RestsMoved n → RestsMoved (if b then m else n)
either true m n x y = x
either false m n x y = y

pub either_done : (b : Bool) (d e : Done) → RestsDone d → RestsDone e → RestsDone (if b then d else e)
either_done true d e x y = x
either_done false d e x y = y

pub client_of : (d : Done) → RestsDone d → IsResting d.client
unfolding RestsDone
client_of d w = w

-- ---- dealings with the drives

pub reads_on_rests : (h : Held) (r : Span) (got : List Column) (timed : List TimedOut) (sent awaited : List Awaited) →
    RestsMoved (reads_on h r got timed sent awaited)
unfolding reads_on
reads_on_rests h r got timed sent [] = turned_rests _ _ _ (ends _)
reads_on_rests h r got timed sent (a ∷ xs) = turned_rests _ _ _ (goes _ tt)

pub reads_unless_rests : (h : Held) (r : Span) (got : List Column) (timed : List TimedOut) (awaited : List Awaited)
    (o : Option (List ℕ)) → RestsMoved (reads_unless h r got timed awaited o)
reads_unless_rests h r got timed awaited None = reads_on_rests h r got timed _ _
reads_unless_rests h r got timed awaited (Some ps) = turned_rests _ _ _ (ends _)

pub reads_rests : (h : Held) (r : Span) (got : List Column) (timed : List TimedOut) (awaited : List Awaited) →
    RestsMoved (reads h r got timed awaited)
unfolding reads
reads_rests h r got timed awaited = reads_unless_rests h r got timed awaited _

pub probes_on_rests : (h : Held) (got : List Column) (timed : List TimedOut) (sent awaited : List Awaited) →
    RestsMoved (probes_on h got timed sent awaited)
unfolding probes_on
probes_on_rests h got timed sent [] = turned_rests _ _ _ (ends _)
probes_on_rests h got timed sent (a ∷ xs) = turned_rests _ _ _ (goes _ tt)

pub probes_by_rests : (h : Held) (got : List Column) (timed : List TimedOut) (awaited : List Awaited) (o : Option ℕ) →
    RestsMoved (probes_by h got timed awaited o)
probes_by_rests h got timed awaited None = turned_rests _ _ _ (ends _)
probes_by_rests h got timed awaited (Some k) =
    either (is_probe_lost h.map (outs h timed) (k / replicas h.map))
    (ended h (Lost (positions_out h.map (outs h timed) (k / replicas h.map / group_width h.map))))
    (probes_sent h got timed awaited (k / replicas h.map))
    (turned_rests _ _ _ (ends _)) (probes_on_rests h got timed _ _)

pub probes_rests : (h : Held) (got : List Column) (timed : List TimedOut) (awaited : List Awaited) →
    RestsMoved (probes h got timed awaited)
unfolding probes
probes_rests h got timed awaited = probes_by_rests h got timed awaited _

pub accounted_rests : (op : CallOp) (timed : List TimedOut) → RestsTurn (accounted op timed)
accounted_rests op [] = ends _
accounted_rests op (t ∷ ts) = needs _

pub written_rests : (h : Held) (op : CallOp) (timed : List TimedOut) → RestsTurn (written h op timed)
unfolding written
written_rests h op timed = either_turn _ _ _ (needs _) (accounted_rests op timed)

pub scatters_on_rests : (h : Held) (op : CallOp) (timed : List TimedOut) (queue : List Store) (sent awaited : List Awaited) →
    RestsMoved (scatters_on h op timed queue sent awaited)
unfolding scatters_on
scatters_on_rests h op timed queue sent [] = turned_rests _ _ _ (written_rests h op timed)
scatters_on_rests h op timed queue sent (a ∷ xs) = turned_rests _ _ _ (goes _ tt)

pub scatters_rests : (h : Held) (op : CallOp) (got : List Column) (timed : List TimedOut) → RestsMoved (scatters h op got timed)
unfolding scatters
scatters_rests h op got timed = scatters_on_rests h op timed _ _ _

pub scatters_next_rests : (h : Held) (op : CallOp) (timed : List TimedOut) (queue : List Store) (k : ℕ) (awaited : List Awaited) →
    RestsMoved (scatters_next h op timed queue k awaited)
unfolding scatters_next
scatters_next_rests h op timed queue k awaited = scatters_on_rests h op timed _ _ _

pub gathers_on_rests : (h : Held) (op : CallOp) (got : List Column) (timed : List TimedOut) (sent awaited : List Awaited) →
    RestsMoved (gathers_on h op got timed sent awaited)
unfolding gathers_on
gathers_on_rests h op got timed sent [] = scatters_rests h op got timed
gathers_on_rests h op got timed sent (a ∷ xs) = turned_rests _ _ _ (goes _ tt)

pub gathers_rests : (h : Held) (op : CallOp) (got : List Column) (timed : List TimedOut) (awaited : List Awaited) →
    RestsMoved (gathers h op got timed awaited)
unfolding gathers
gathers_rests h op got timed awaited = gathers_on_rests h op got timed _ _

-- ---- replies and timeouts

pub performed_rests : (h : Held) (op : CallOp) (p : Phase) (a : Awaited) (r : Reply) → Rests p → RestsMoved (performed h op p a r)
performed_rests h op (Reads io) a r w = reads_on_rests h _ _ io.timed [] _
performed_rests h op (Probes io) a r w = probes_on_rests h _ io.timed [] _
performed_rests h op (Gathers io) a r w = gathers_on_rests h op _ io.timed [] _
performed_rests h op (Scatters io queue) a r w = scatters_next_rests h op io.timed queue _ _
performed_rests h op Starts a r w = turned_rests _ _ _ (goes _ tt)
performed_rests h op (Needs need) a r w = turned_rests _ _ _ (goes _ tt)
performed_rests h op (Waits need) a r w = turned_rests _ _ _ (goes _ tt)

pub refused_rests : (h : Held) (p : Phase) (a : Awaited) (r : Reply) → RestsMoved (refused h p a r)
unfolding refused
refused_rests h p a r =
    either (r.verdict == 9) (turned h (Forgets (refusal a r))) (turned h (closing (refusal a r) (refused_report h p a r)))
    (turned_rests _ _ _ (forgets _)) (turned_rests _ _ _ (needs _))

pub replied_rests : (h : Held) (op : CallOp) (p : Phase) (a : Awaited) (r : Reply) → Rests p → RestsMoved (replied h op p a r)
unfolding replied
replied_rests h op p a r w = either _ _ _ (performed_rests h op p a r w) (refused_rests h p a r)

pub gather_timed_rests : (h : Held) (op : CallOp) (io : Io) (k : ℕ) (timed : List TimedOut) →
    RestsMoved (gather_timed h op io k timed)
unfolding gather_timed
gather_timed_rests h op io k timed =
    either (is_too_short h op timed) (ended h (Silent k)) (gathers h op io.got timed (not_of k io.awaited))
    (turned_rests _ _ _ (ends _)) (gathers_rests h op io.got timed _)

pub scatter_timed_rests : (h : Held) (op : CallOp) (io : Io) (queue : List Store) (k : ℕ) (timed : List TimedOut) →
    RestsMoved (scatter_timed h op io queue k timed)
unfolding scatter_timed
scatter_timed_rests h op io queue k timed =
    either (is_too_short h op timed) (turned h (closing (Silent k) (report_of h timed)))
    (scatters_on h op timed (without_component k queue) [] (not_of k io.awaited)) (turned_rests _ _ _ (needs _))
    (scatters_on_rests h op timed _ [] _)

pub timed_out_rests : (h : Held) (op : CallOp) (p : Phase) (k : ℕ) (a : Awaited) (xs : List Awaited) →
    RestsMoved (timed_out h op p k a xs)
timed_out_rests h op (Reads io) k a xs = reads_rests h _ io.got _ _
timed_out_rests h op (Probes io) k a xs = probes_rests h io.got _ _
timed_out_rests h op (Gathers io) k a xs = gather_timed_rests h op io k _
timed_out_rests h op (Scatters io queue) k a xs = scatter_timed_rests h op io queue k _
timed_out_rests h op Starts k a xs = turned_rests _ _ _ (goes _ tt)
timed_out_rests h op (Needs need) k a xs = turned_rests _ _ _ (goes _ tt)
timed_out_rests h op (Waits need) k a xs = turned_rests _ _ _ (goes _ tt)

pub begins_rests : (h : Held) (op : CallOp) → RestsMoved (begins h op)
unfolding begins
begins_rests h op = either _ _ _ (gathers_rests h op [] [] []) (either _ _ _ (probes_rests h [] [] []) (reads_rests h _ [] [] []))
