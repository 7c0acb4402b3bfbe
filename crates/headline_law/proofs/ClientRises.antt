-- What a call sends to drives in a turn rises above the nonces that its grant had given.
use Rattle.std.proofs.Common.{◌==◌, ℕ, Bool, true, false, List, [], ◌∷◌, Option, Some, None, if◌then◌else◌}
use Rattle.osd_commands.specs.declared.replies.Reply.{Reply}
use Rattle.client_rules.specs.declared.limits.TheConstants.{PERFORMED, OTHER_TAG}
use Rattle.client_rules.specs.Commands.{nonce_at, not_of, read_commands, write_commands, carrying_none}
use Rattle.client_rules.specs.Calls.{is_write, span_of}
use Rattle.client_rules.specs.Going.{begins}
use Rattle.client_rules.specs.Grants.{clipped}
use Rattle.client_rules.specs.Reads.{reads, reads_on, reads_unless, probes, probes_on, probes_by}
use Rattle.client_rules.specs.Replies.{replied, performed, refused, refusal, refused_report, timed_out, gather_timed, scatter_timed}
use Rattle.client_rules.specs.Turns.{turned, closing}
use Rattle.client_rules.specs.Writes.{is_too_short, scatters, scatters_on, scatters_next, next_to, gathers, gathers_on}
use Rattle.world_history.specs.ClientNames.{Awaited, CallOp, Column, Held, Io, Lost, Moved, Needs, Phase, Starts, Waits, Reads, Probes, Gathers, Scatters, Span, Store, TimedOut, Turn, Goes, Ends, Forgets}
use Rattle.relation_law.specs.MessagesSending.{RiseFrom}
use Rattle.relation_law.proofs.MessagesBehind.{numbered_rise}

-- what this sends does
pub record Rises (h : Held) (m : Moved) : Type 0 where
  pub rise : RiseFrom (nonce_at h h.count) m.sent

either : (h : Held) (b : Bool) (m n : Moved) → Rises h m → Rises h n → Rises h (if b then m else n)
either h true m n x y = x
either h false m n x y = y

-- where nothing is sent
quiet_rises : (h : Held) (t : Turn) → Rises h (turned h t)
quiet_rises h t = record { rise = tt }

module _ (h : Held) (op : CallOp) where
  abbrev From : List Awaited → Type 0
  From cs = RiseFrom (nonce_at h h.count) cs

  -- ---- reads

  reads_on_rises : (r : Span) (got : List Column) (timed : List TimedOut) (sent awaited : List Awaited) → From sent →
      Rises h (reads_on h r got timed sent awaited)
  unfolding reads_on
  reads_on_rises r got timed sent [] k = record { rise = k }
  reads_on_rises r got timed sent (a ∷ xs) k = record { rise = k }

  reads_unless_rises : (r : Span) (got : List Column) (timed : List TimedOut) (awaited : List Awaited)
      (o : Option (List ℕ)) → Rises h (reads_unless h r got timed awaited o)
  unfolding read_commands
  reads_unless_rises r got timed awaited (Some ps) = quiet_rises h (Ends (Lost ps))
  reads_unless_rises r got timed awaited None = reads_on_rises r got timed _ _ (numbered_rise h false h.count (carrying_none _))

  reads_rises : (r : Span) (got : List Column) (timed : List TimedOut) (awaited : List Awaited) →
      Rises h (reads h r got timed awaited)
  unfolding reads
  reads_rises r got timed awaited = reads_unless_rises r got timed awaited _

  probes_on_rises : (got : List Column) (timed : List TimedOut) (sent awaited : List Awaited) → From sent →
      Rises h (probes_on h got timed sent awaited)
  unfolding probes_on
  probes_on_rises got timed sent [] k = record { rise = k }
  probes_on_rises got timed sent (a ∷ xs) k = record { rise = k }

  probes_by_rises : (got : List Column) (timed : List TimedOut) (awaited : List Awaited) (o : Option ℕ) →
      Rises h (probes_by h got timed awaited o)
  unfolding read_commands
  probes_by_rises got timed awaited None = quiet_rises h _
  probes_by_rises got timed awaited (Some n) =
      either h _ _ _ (quiet_rises h _) (probes_on_rises got timed _ _ (numbered_rise h false h.count (carrying_none _)))

  probes_rises : (got : List Column) (timed : List TimedOut) (awaited : List Awaited) → Rises h (probes h got timed awaited)
  unfolding probes
  probes_rises got timed awaited = probes_by_rises got timed awaited _

  -- ---- writes

  scatters_on_rises : (timed : List TimedOut) (queue : List Store) (sent awaited : List Awaited) → From sent →
      Rises h (scatters_on h op timed queue sent awaited)
  unfolding scatters_on
  scatters_on_rises timed queue sent [] k = record { rise = k }
  scatters_on_rises timed queue sent (a ∷ xs) k = record { rise = k }

  scatters_rises : (got : List Column) (timed : List TimedOut) → Rises h (scatters h op got timed)
  unfolding scatters write_commands
  scatters_rises got timed = scatters_on_rises timed _ _ _ (numbered_rise h true h.count _)

  gathers_on_rises : (got : List Column) (timed : List TimedOut) (sent awaited : List Awaited) → From sent →
      Rises h (gathers_on h op got timed sent awaited)
  unfolding gathers_on
  gathers_on_rises got timed sent [] k = scatters_rises got timed
  gathers_on_rises got timed sent (a ∷ xs) k = record { rise = k }

  gathers_rises : (got : List Column) (timed : List TimedOut) (awaited : List Awaited) →
      Rises h (gathers h op got timed awaited)
  unfolding gathers read_commands
  gathers_rises got timed awaited = gathers_on_rises got timed _ _ (numbered_rise h false h.count (carrying_none _))

  scatters_next_rises : (timed : List TimedOut) (queue : List Store) (k : ℕ) (awaited : List Awaited) →
      Rises h (scatters_next h op timed queue k awaited)
  unfolding scatters_next write_commands
  scatters_next_rises timed queue k awaited =
      scatters_on_rises timed _ _ _ (numbered_rise h true h.count (next_to k queue))

  -- ---- a reply

  performed_rises : (p : Phase) (a : Awaited) (r : Reply) → Rises h (performed h op p a r)
  performed_rises (Reads io) a r = reads_on_rises _ _ io.timed [] _ tt
  performed_rises (Probes io) a r = probes_on_rises _ io.timed [] _ tt
  performed_rises (Gathers io) a r = gathers_on_rises _ io.timed [] _ tt
  performed_rises (Scatters io queue) a r = scatters_next_rises io.timed queue a.ask.component _
  performed_rises Starts a r = quiet_rises h (Goes Starts)
  performed_rises (Needs need) a r = quiet_rises h (Goes (Needs need))
  performed_rises (Waits need) a r = quiet_rises h (Goes (Waits need))

  refused_rises : (p : Phase) (a : Awaited) (r : Reply) → Rises h (refused h p a r)
  unfolding refused
  refused_rises p a r =
      either h (r.verdict == OTHER_TAG) (turned h (Forgets (refusal a r)))
      (turned h (closing (refusal a r) (refused_report h p a r))) (quiet_rises h _) (quiet_rises h _)

  pub replied_rises : (p : Phase) (a : Awaited) (r : Reply) → Rises h (replied h op p a r)
  unfolding replied
  replied_rises p a r = either h (r.verdict == PERFORMED) _ _ (performed_rises p a r) (refused_rises p a r)

  -- ---- a timeout

  gather_timed_rises : (io : Io) (k : ℕ) (timed : List TimedOut) → Rises h (gather_timed h op io k timed)
  unfolding gather_timed
  gather_timed_rises io k timed =
      either h (is_too_short h op timed) _ _ (quiet_rises h _) (gathers_rises io.got timed (not_of k io.awaited))

  scatter_timed_rises : (io : Io) (queue : List Store) (k : ℕ) (timed : List TimedOut) →
      Rises h (scatter_timed h op io queue k timed)
  unfolding scatter_timed
  scatter_timed_rises io queue k timed =
      either h (is_too_short h op timed) _ _ (quiet_rises h _) (scatters_on_rises timed _ [] _ tt)

  pub timed_rises : (p : Phase) (k : ℕ) (a : Awaited) (xs : List Awaited) → Rises h (timed_out h op p k a xs)
  timed_rises (Reads io) k a xs = reads_rises _ io.got _ (not_of k io.awaited)
  timed_rises (Probes io) k a xs = probes_rises io.got _ (not_of k io.awaited)
  timed_rises (Gathers io) k a xs = gather_timed_rises io k _
  timed_rises (Scatters io queue) k a xs = scatter_timed_rises io queue k _
  timed_rises Starts k a xs = quiet_rises h (Goes Starts)
  timed_rises (Needs need) k a xs = quiet_rises h (Goes (Needs need))
  timed_rises (Waits need) k a xs = quiet_rises h (Goes (Waits need))

  -- ---- the begin

  pub begins_rises : Rises h (begins h op)
  unfolding begins
  begins_rises =
      either h (is_write op) _ _ (gathers_rises [] [] [])
      (either h ((clipped h.size (span_of op)).length == 0) _ _ (probes_rises [] [] []) (reads_rises _ [] [] []))
