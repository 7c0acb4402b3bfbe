-- Each move of a call with the drives keeps what a read and a gather have.
-- Towards `EventsAreLawful` (`specs/Steps.antt`).
use Rattle.std.proofs.Common.{◌≡◌, ℕ, ◌==◌, Bool, true, false, List, [], ◌∷◌, ◌++◌, inl, inr}
use Rattle.std.specs.Prelude.{if◌then◌else◌}
use Rattle.server_rules.specs.Laws.{In}
use Rattle.client_rules.specs.declared.limits.TheConstants.{PERFORMED, OTHER_TAG}
use Rattle.client_rules.specs.Commands.{counted, others, not_of}
use Rattle.client_rules.specs.Grants.{covers}
use Rattle.client_rules.specs.Going.{begins}
use Rattle.client_rules.specs.Io.{got_of, awaited_in}
use Rattle.client_rules.specs.Requests.{report_of}
use Rattle.client_rules.specs.Replies.{performed, refused, replied, refusal, refused_report, timed_out, timed_after, scatter_timed}
use Rattle.client_rules.specs.Turns.{turned, closing, needing}
use Rattle.client_rules.specs.Writes.{accounted, is_past_size, written, scatters_on, scatters, scatters_next, is_too_short, without_component}
use Rattle.world_history.specs.ClientNames.{CallOp, Held, Awaited, TimedOut, Io, Store, Column, Reply, Commit, Phase, Starts, Needs, Waits, Reads, Probes, Gathers, Scatters, Silent, Turn, Forgets, Moved}
use Rattle.relation_law.proofs.MessagesClients.{IsFit, TurnFits, MovedFits, IsUsable}
use Rattle.relation_law.proofs.MessagesReads.{same_counted, same_itself, read_replied, probe_replied}
use Rattle.relation_law.proofs.MessagesGathers.{GatherFits, gather_replied, gather_timed_fits, HasBytes, begins_fit, read_timed, probe_timed}

-- ---- writes

either_turn : (h : Held) (op : CallOp) (got : List Column) (b : Bool) (t u : Turn) → TurnFits h op got t → TurnFits h op got u →
    TurnFits h op got (if b then t else u)
either_turn h op got true t u x y = x
either_turn h op got false t u x y = y

accounted_fits : (h : Held) (op : CallOp) (timed : List TimedOut) (got : List Column) → TurnFits h op got (accounted op timed)
accounted_fits h op [] got = tt
accounted_fits h op (t ∷ ts) got = (tt, tt)

written_fits : (h k : Held) (op : CallOp) (timed : List TimedOut) (got : List Column) → TurnFits k op got (written h op timed)
unfolding written
written_fits h k op timed got =
    either_turn k op got (is_past_size h op) (needing (Commit timed)) (accounted op timed) (tt, tt)
    (accounted_fits k op timed got)

scatters_on_fits : (h : Held) (op : CallOp) (timed : List TimedOut) (queue : List Store) (sent awaited : List Awaited)
    (got : List Column) →
    MovedFits h op got (scatters_on h op timed queue sent awaited)
unfolding scatters_on
scatters_on_fits h op timed queue sent [] got =
    record { same = same_counted h sent; turn = written_fits h (counted h sent) op timed got }
scatters_on_fits h op timed queue sent (a ∷ xs) got = record { same = same_counted h sent; turn = (tt, tt) }

scatters_fits : (h : Held) (op : CallOp) (cols : List Column) (timed : List TimedOut) (got : List Column) →
    MovedFits h op got (scatters h op cols timed)
unfolding scatters
scatters_fits h op cols timed got = scatters_on_fits h op timed _ _ _ got

scatters_next_fits : (h : Held) (op : CallOp) (timed : List TimedOut) (queue : List Store) (k : ℕ) (awaited : List Awaited)
    (got : List Column) →
    MovedFits h op got (scatters_next h op timed queue k awaited)
unfolding scatters_next
scatters_next_fits h op timed queue k awaited got = scatters_on_fits h op timed _ _ _ got

-- a gather's move is one of these
pub any_gather : (h : Held) (op : CallOp) (got : List Column) (m : Moved) → GatherFits h op got m → MovedFits h op got m
any_gather h op got m (inl x) = rw x.1 (scatters_fits h op got x.0 got)
any_gather h op got m (inr x) = x

either_moved : (h : Held) (op : CallOp) (got : List Column) (b : Bool) (m n : Moved) → MovedFits h op got m →
    MovedFits h op got n →
    MovedFits h op got (if b then m else n)
either_moved h op got true m n x y = x
either_moved h op got false m n x y = y

quiet_turn : (h : Held) (op : CallOp) (got : List Column) (t : Turn) → TurnFits h op got t → MovedFits h op got (turned h t)
quiet_turn h op got t x = record { same = same_itself h; turn = x }

scatter_timed_fits : (h : Held) (op : CallOp) (io : Io) (queue : List Store) (k : ℕ) (timed : List TimedOut) (got : List Column) →
    MovedFits h op got (scatter_timed h op io queue k timed)
unfolding scatter_timed
scatter_timed_fits h op io queue k timed got =
    either_moved h op got (is_too_short h op timed) (turned h (closing (Silent k) (report_of h timed)))
    (scatters_on h op timed (without_component k queue) [] (not_of k io.awaited))
    (quiet_turn h op got _ (tt, tt)) (scatters_on_fits h op timed _ [] _ got)

-- ---- replies

refused_fits : (h : Held) (op : CallOp) (p : Phase) (a : Awaited) (r : Reply) (got : List Column) →
    MovedFits h op got (refused h p a r)
unfolding refused
refused_fits h op p a r got =
    either_moved h op got (r.verdict == OTHER_TAG) (turned h (Forgets (refusal a r)))
    (turned h (closing (refusal a r) (refused_report h p a r)))
    (quiet_turn h op got _ tt) (quiet_turn h op got _ (tt, tt))

-- what a phase has got
abbrev pub got_by : Phase → List Column
got_by (Reads io) = io.got
got_by (Probes io) = io.got
got_by (Gathers io) = io.got
got_by p = []

pub performed_fits : (h : Held) (op : CallOp) (p : Phase) (a : Awaited) (r : Reply) → IsUsable h → In a (awaited_in p) →
    IsFit h op p →
    MovedFits h op (got_by p ++ got_of a r ∷ []) (performed h op p a r)
performed_fits h op (Reads io) a r u i g = read_replied h op io a r u.checked i g
performed_fits h op (Probes io) a r u i g = probe_replied h op io a r u.checked g
performed_fits h op (Gathers io) a r u i g = any_gather h op _ _ (gather_replied h op io a r u.checked i g)
performed_fits h op (Scatters io queue) a r u i g =
    scatters_next_fits h op io.timed queue a.ask.component (others io.awaited a.command.nonce) _
performed_fits h op Starts a r u i g = absurd i
performed_fits h op (Needs need) a r u i g = absurd i
performed_fits h op (Waits need) a r u i g = absurd i

-- a reply that is taken: with what it gives, if it was performed
pub replied_fits : (h : Held) (op : CallOp) (p : Phase) (a : Awaited) (r : Reply) → IsUsable h → In a (awaited_in p) →
    IsFit h op p →
    MovedFits h op (got_by p ++ got_of a r ∷ []) (replied h op p a r)
unfolding replied
replied_fits h op p a r u i g =
    either_moved h op (got_by p ++ got_of a r ∷ []) (r.verdict == PERFORMED) (performed h op p a r) (refused h p a r)
    (performed_fits h op p a r u i g) (refused_fits h op p a r (got_by p ++ got_of a r ∷ []))

-- ---- timeouts

pub timed_fits : (h : Held) (op : CallOp) (p : Phase) (k : ℕ) (a : Awaited) (xs : List Awaited) → IsUsable h → IsFit h op p →
    MovedFits h op (got_by p) (timed_out h op p k a xs)
timed_fits h op (Reads io) k a xs u g = read_timed h op io k (timed_after io.timed a xs) u.checked g
timed_fits h op (Probes io) k a xs u g = probe_timed h op io k (timed_after io.timed a xs) u g
timed_fits h op (Gathers io) k a xs u g =
    any_gather h op io.got _ (gather_timed_fits h op io k (timed_after io.timed a xs) u.checked g)
timed_fits h op (Scatters io queue) k a xs u g = scatter_timed_fits h op io queue k (timed_after io.timed a xs) []
timed_fits h op Starts k a xs u g = quiet_turn h op [] _ (tt, tt)
timed_fits h op (Needs need) k a xs u g = quiet_turn h op [] _ (tt, tt)
timed_fits h op (Waits need) k a xs u g = quiet_turn h op [] _ (tt, tt)

-- ---- the begin

pub begun_fits : (h : Held) (op : CallOp) → IsUsable h → HasBytes op → covers h op ≡ true → MovedFits h op [] (begins h op)
begun_fits h op u has cover = any_gather h op [] (begins h op) (begins_fit h op u has cover)
