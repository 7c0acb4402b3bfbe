-- What a call does with the drives leaves the file of its grant.
-- Towards `ReturnsAreHeld` (`specs/RequestsGoing.antt`).
use Rattle.std.specs.Prelude.{◌≡◌, refl, ℕ, ◌/◌, ◌==◌, Bool, true, false, if◌then◌else◌, List, [], ◌∷◌, Option, Some, None}
use Rattle.data_map.specs.Striping.{replicas, group_width}
use Rattle.stripe_plan.specs.Lost.{positions_out}
use Rattle.world_history.specs.ClientNames.{CallOp, Held, Awaited, TimedOut, Io, Phase, Starts, Needs, Waits, Reads, Probes, Gathers, Scatters, Lost, Silent, Forgets, Moved, Reply, Span, Column, Store}
use Rattle.client_rules.specs.Reads.{reads_on, reads_unless, reads, probes_on, is_probe_lost, probes_sent, probes_by, probes}
use Rattle.client_rules.specs.Io.{outs}
use Rattle.client_rules.specs.Turns.{turned, ended, closing}
use Rattle.client_rules.specs.Commands.{not_of}
use Rattle.client_rules.specs.Requests.{report_of}
use Rattle.client_rules.specs.Writes.{scatters_on, scatters, scatters_next, gathers_on, gathers, is_too_short, without_component}
use Rattle.client_rules.specs.Replies.{refusal, refused_report, refused, performed, replied, gather_timed, scatter_timed, timed_out}
use Rattle.client_rules.specs.Going.{begins}

-- (this word stays folded, so that the lemma on tests finds its cases)
unfoldable pub KeepsFile : Held → Moved → Type 0
KeepsFile h m = m.held.file ≡ h.file

pub file_of_moved : (h : Held) (m : Moved) → KeepsFile h m → m.held.file ≡ h.file
unfolding KeepsFile
file_of_moved h m k = k

pub same_file : (h : Held) (m : Moved) → m.held.file ≡ h.file → KeepsFile h m
unfolding KeepsFile
same_file h m k = k

either : (h : Held) (b : Bool) (m n : Moved) → KeepsFile h m → KeepsFile h n → KeepsFile h (if b then m else n)
either h true m n x y = x
either h false m n x y = y

module _ (h : Held) where
  reads_on_file : (r : Span) (got : List Column) (timed : List TimedOut) (sent awaited : List Awaited)
      → KeepsFile h (reads_on h r got timed sent awaited)
  unfolding reads_on
  reads_on_file r got timed sent [] = same_file h _ refl
  reads_on_file r got timed sent (a ∷ xs) = same_file h _ refl

  reads_unless_file : (r : Span) (got : List Column) (timed : List TimedOut) (awaited : List Awaited)
      (o : Option (List ℕ)) → KeepsFile h (reads_unless h r got timed awaited o)
  reads_unless_file r got timed awaited None = reads_on_file r got timed _ _
  reads_unless_file r got timed awaited (Some ps) = same_file h _ refl

  reads_file : (r : Span) (got : List Column) (timed : List TimedOut) (awaited : List Awaited)
      → KeepsFile h (reads h r got timed awaited)
  unfolding reads
  reads_file r got timed awaited = reads_unless_file r got timed awaited _

  probes_on_file : (got : List Column) (timed : List TimedOut) (sent awaited : List Awaited)
      → KeepsFile h (probes_on h got timed sent awaited)
  unfolding probes_on
  probes_on_file got timed sent [] = same_file h _ refl
  probes_on_file got timed sent (a ∷ xs) = same_file h _ refl

  probes_by_file : (got : List Column) (timed : List TimedOut) (awaited : List Awaited) (o : Option ℕ)
      → KeepsFile h (probes_by h got timed awaited o)
  probes_by_file got timed awaited None = same_file h _ refl
  probes_by_file got timed awaited (Some k) =
      either h (is_probe_lost h.map (outs h timed) (k / replicas h.map))
      (ended h (Lost (positions_out h.map (outs h timed) (k / replicas h.map / group_width h.map))))
      (probes_sent h got timed awaited (k / replicas h.map)) (same_file h _ refl) (probes_on_file got timed _ _)

  probes_file : (got : List Column) (timed : List TimedOut) (awaited : List Awaited) → KeepsFile h (probes h got timed awaited)
  unfolding probes
  probes_file got timed awaited = probes_by_file got timed awaited _

  scatters_on_file : (op : CallOp) (timed : List TimedOut) (queue : List Store) (sent awaited : List Awaited)
      → KeepsFile h (scatters_on h op timed queue sent awaited)
  unfolding scatters_on
  scatters_on_file op timed queue sent [] = same_file h _ refl
  scatters_on_file op timed queue sent (a ∷ xs) = same_file h _ refl

  scatters_file : (op : CallOp) (got : List Column) (timed : List TimedOut) → KeepsFile h (scatters h op got timed)
  unfolding scatters
  scatters_file op got timed = scatters_on_file op timed _ _ _

  scatters_next_file : (op : CallOp) (timed : List TimedOut) (queue : List Store) (k : ℕ) (awaited : List Awaited)
      → KeepsFile h (scatters_next h op timed queue k awaited)
  unfolding scatters_next
  scatters_next_file op timed queue k awaited = scatters_on_file op timed _ _ _

  gathers_on_file : (op : CallOp) (got : List Column) (timed : List TimedOut) (sent awaited : List Awaited)
      → KeepsFile h (gathers_on h op got timed sent awaited)
  unfolding gathers_on
  gathers_on_file op got timed sent [] = scatters_file op got timed
  gathers_on_file op got timed sent (a ∷ xs) = same_file h _ refl

  gathers_file : (op : CallOp) (got : List Column) (timed : List TimedOut) (awaited : List Awaited)
      → KeepsFile h (gathers h op got timed awaited)
  unfolding gathers
  gathers_file op got timed awaited = gathers_on_file op got timed _ _

  -- ---- replies, timeouts, and the begin

  performed_file : (op : CallOp) (p : Phase) (a : Awaited) (r : Reply) → KeepsFile h (performed h op p a r)
  performed_file op (Reads io) a r = reads_on_file _ _ io.timed [] _
  performed_file op (Probes io) a r = probes_on_file _ io.timed [] _
  performed_file op (Gathers io) a r = gathers_on_file op _ io.timed [] _
  performed_file op (Scatters io queue) a r = scatters_next_file op io.timed queue _ _
  performed_file op Starts a r = same_file h _ refl
  performed_file op (Needs need) a r = same_file h _ refl
  performed_file op (Waits need) a r = same_file h _ refl

  refused_file : (p : Phase) (a : Awaited) (r : Reply) → KeepsFile h (refused h p a r)
  unfolding refused
  refused_file p a r =
      either h (r.verdict == 9) (turned h (Forgets (refusal a r))) (turned h (closing (refusal a r) (refused_report h p a r)))
      (same_file h _ refl) (same_file h _ refl)

  pub replied_file : (op : CallOp) (p : Phase) (a : Awaited) (r : Reply) → KeepsFile h (replied h op p a r)
  unfolding replied
  replied_file op p a r = either h _ _ _ (performed_file op p a r) (refused_file p a r)

  gather_timed_file : (op : CallOp) (io : Io) (k : ℕ) (timed : List TimedOut) → KeepsFile h (gather_timed h op io k timed)
  unfolding gather_timed
  gather_timed_file op io k timed =
      either h (is_too_short h op timed) (ended h (Silent k)) (gathers h op io.got timed (not_of k io.awaited))
      (same_file h _ refl) (gathers_file op io.got timed _)

  scatter_timed_file : (op : CallOp) (io : Io) (queue : List Store) (k : ℕ) (timed : List TimedOut)
      → KeepsFile h (scatter_timed h op io queue k timed)
  unfolding scatter_timed
  scatter_timed_file op io queue k timed =
      either h (is_too_short h op timed) (turned h (closing (Silent k) (report_of h timed)))
      (scatters_on h op timed (without_component k queue) [] (not_of k io.awaited)) (same_file h _ refl)
      (scatters_on_file op timed _ [] _)

  pub timed_out_file : (op : CallOp) (p : Phase) (k : ℕ) (a : Awaited) (xs : List Awaited)
      → KeepsFile h (timed_out h op p k a xs)
  timed_out_file op (Reads io) k a xs = reads_file _ io.got _ _
  timed_out_file op (Probes io) k a xs = probes_file io.got _ _
  timed_out_file op (Gathers io) k a xs = gather_timed_file op io k _
  timed_out_file op (Scatters io queue) k a xs = scatter_timed_file op io queue k _
  timed_out_file op Starts k a xs = same_file h _ refl
  timed_out_file op (Needs need) k a xs = same_file h _ refl
  timed_out_file op (Waits need) k a xs = same_file h _ refl

  pub begins_file : (op : CallOp) → KeepsFile h (begins h op)
  unfolding begins
  begins_file op =
      either h _ _ _ (gathers_file op [] [] []) (either h _ _ _ (probes_file [] [] []) (reads_file _ [] [] []))
