-- The first line of a client's turn, where a reply comes or a component times out: its events can happen.
use Rattle.std.proofs.Common.{◌≡◌, ◌==◌, ℕ, Bool, true, false, List, [], ◌∷◌, ◌++◌, ◌/◌, Option, Some, None, refl, sym, subst, inl, inr, if◌then◌else◌}
use Rattle.std.proofs.lemmas.Bool.{cases_Bool}
use Rattle.data_map.specs.declared.check.RawMap.{RawMap}
use Rattle.layout_ops.specs.declared.messages.Answer.{Answer}
use Rattle.osd_commands.specs.declared.replies.Reply.{Reply}
use Rattle.server_rules.specs.Laws.{In}
use Rattle.client_rules.specs.declared.limits.TheConstants.{PERFORMED, OTHER_TAG}
use Rattle.client_rules.specs.Commands.{not_of}
use Rattle.data_map.specs.Striping.{replicas}
use Rattle.client_rules.specs.Io.{awaited_in, outs}
use Rattle.client_rules.specs.Reads.{reads, reads_on, reads_unless, is_probe_lost, probes, probes_on, probes_by}
use Rattle.client_rules.specs.Replies.{timed_out, timed_after, gather_timed, scatter_timed}
use Rattle.client_rules.specs.Requests.{report_of}
use Rattle.client_rules.specs.Turns.{closing}
use Rattle.client_rules.specs.Writes.{accounted, written, is_past_size, is_too_short, scatters, scatters_on, gathers, gathers_on}
use Rattle.world_history.specs.ClientNames.{Awaited, CallOp, Column, Held, Io, IoErr, Moved, Phase, Reads, Probes, Gathers, Scatters, Silent, Span, Store, TimedOut, Turn}
use Rattle.fence_law.specs.State.{State}
use Rattle.fence_law.specs.State.{Event as event}
use Rattle.fence_law.specs.State.Call.{Reads as AtRead}
use Rattle.fence_law.specs.State.Commit.{NoCommit}
use Rattle.fence_law.specs.Machine.{Allowed, Lawful, after}
use Rattle.fence_law.proofs.Commands.{Calls}
use Rattle.file_simulation.specs.Calls.{CallIs, IsWriting}
use Rattle.file_simulation.specs.EventLists.{where_so, entry_of}
use Rattle.file_simulation.specs.ClientEvents as table
use Rattle.relation_law.specs.CallsTurns.{IsWorking}
use Rattle.file_simulation.specs.Messages.{is_scatter}
use Rattle.relation_law.proofs.CallsGuards.{entry_writes, not_waiting, writes_busy, reads_busy, breaks_allowed, ends_read_allowed, forgets_allowed}
use Rattle.relation_law.proofs.ReadsAnswers.{IsTold, learns_allowed}

module _ (m : RawMap) (s : State) (c : ℕ) (op : CallOp) (o : Option Answer) (calls : Calls s) where
  -- ---- a reply

  -- the grant may be forgotten, too
  forgets : (free : s.waiting c ≡ false) → s.commit c ≡ NoCommit → (b : Bool) → (e : _) → Allowed s e →
      Allowed (after s e) (event.Forgets c) → Lawful s (e ∷ where_so b (event.Forgets c ∷ []))
  forgets free plain true e may then_ = (may, (then_, tt))
  forgets free plain false e may then_ = (may, tt)

  breaks : (j : ℕ) → IsWriting s c op NoCommit j → (b : Bool) →
      Lawful s (event.Breaks c (entry_of s c) ∷ where_so b (event.Forgets c ∷ []))
  breaks j w b =
      let free : s.waiting c ≡ false = not_waiting s c calls (writes_busy s c j w.at_) in
      forgets free w.commit_is b (event.Breaks c (entry_of s c)) (breaks_allowed s c op j w)
      (forgets_allowed (after s (event.Breaks c (entry_of s c))) c free w.commit_is)

  ends : (j : ℕ) → s.call c ≡ AtRead j → s.commit c ≡ NoCommit → (b : Bool) →
      Lawful s (event.EndsRead c (entry_of s c) ∷ where_so b (event.Forgets c ∷ []))
  ends j at_ plain b =
      let free : s.waiting c ≡ false = not_waiting s c calls (reads_busy s c j at_) in
      forgets free plain b (event.EndsRead c (entry_of s c)) (ends_read_allowed s c j at_)
      (forgets_allowed (after s (event.EndsRead c (entry_of s c))) c free plain)

  refused_lawful : (p : Phase) → IsWorking p → CallIs m s c op o p → (b : Bool) →
      Lawful s (table.refused s c p ++ where_so b (event.Forgets c ∷ []))
  refused_lawful (Scatters io queue) works k b = breaks k.0 k.1.writing b
  refused_lawful (Reads io) works k b = ends k.0 k.1.at_ k.1.commit b
  refused_lawful (Probes io) works k b = ends k.0 k.1.at_ k.1.commit b
  refused_lawful (Gathers io) works k b = ends k.0 k.1.at_ k.1.commit b
  refused_lawful p works k b = absurd works

  performed_lawful : (p : Phase) (a : Awaited) → IsWorking p → CallIs m s c op o p → In a (awaited_in p) →
      (is_scatter p ≡ true → IsTold s c a) → Lawful s (table.performed s c a p)
  performed_lawful (Scatters io queue) a works (j, k) there told = (
    subst (λ (n : ℕ). Allowed s (event.Learns c a.ask.component n a.command.nonce a.ask.offset))
        (sym (entry_writes s c j k.writing.at_)) (learns_allowed s c op io queue j a k there (told refl)),
    tt,
  )
  performed_lawful (Reads io) a works k there told = tt
  performed_lawful (Probes io) a works k there told = tt
  performed_lawful (Gathers io) a works k there told = tt
  performed_lawful p a works k there told = absurd works

  -- what comes of a reply, where the machine has it of a WRITE that was performed
  pub replied_lawful : (p : Phase) (a : Awaited) (q : Reply) → IsWorking p → CallIs m s c op o p → In a (awaited_in p) →
      ((q.verdict == PERFORMED) ≡ true → is_scatter p ≡ true → IsTold s c a) → Lawful s (table.replied s c a q p)
  replied_lawful p a q works k there told = elim (cases_Bool (q.verdict == PERFORMED)) [
    | inl t ↦ rw t (performed_lawful p a works k there (told t))
    | inr f ↦ rw f (refused_lawful p works k (q.verdict == OTHER_TAG))
  ]

  -- ---- a timeout

  abbrev MayTurn : Turn → Type 0
  MayTurn t = Lawful s (table.turned s c t)

  either_may : (b : Bool) (x y : Moved) → MayTurn x.turn → MayTurn y.turn → MayTurn (if b then x else y).turn
  either_may true x y k l = k
  either_may false x y k l = l

  module _ (h : Held) where
    -- of a read
    reads_on_may : (r : Span) (got : List Column) (timed : List TimedOut) (sent awaited : List Awaited) →
        MayTurn (reads_on h r got timed sent awaited).turn
    unfolding reads_on
    reads_on_may r got timed sent [] = tt
    reads_on_may r got timed sent (a ∷ xs) = tt

    probes_on_may : (got : List Column) (timed : List TimedOut) (sent awaited : List Awaited) →
        MayTurn (probes_on h got timed sent awaited).turn
    unfolding probes_on
    probes_on_may got timed sent [] = tt
    probes_on_may got timed sent (a ∷ xs) = tt

    module _ (j : ℕ) (at_ : s.call c ≡ AtRead j) where
      reads_unless_may : (r : Span) (got : List Column) (timed : List TimedOut) (awaited : List Awaited)
          (ps : Option (List ℕ)) → MayTurn (reads_unless h r got timed awaited ps).turn
      reads_unless_may r got timed awaited (Some ps) = (ends_read_allowed s c j at_, tt)
      reads_unless_may r got timed awaited None = reads_on_may r got timed _ _

      reads_may : (r : Span) (got : List Column) (timed : List TimedOut) (awaited : List Awaited) →
          MayTurn (reads h r got timed awaited).turn
      unfolding reads
      reads_may r got timed awaited = reads_unless_may r got timed awaited _

      probes_by_may : (got : List Column) (timed : List TimedOut) (awaited : List Awaited) (n : Option ℕ) →
          MayTurn (probes_by h got timed awaited n).turn
      probes_by_may got timed awaited None = (ends_read_allowed s c j at_, tt)
      probes_by_may got timed awaited (Some n) =
          elim (cases_Bool (is_probe_lost h.map (outs h timed) (n / replicas h.map))) [
            | inl t ↦ rw t (ends_read_allowed s c j at_, tt)
            | inr f ↦ rw f (probes_on_may got timed _ _)
          ]

      probes_may : (got : List Column) (timed : List TimedOut) (awaited : List Awaited) →
          MayTurn (probes h got timed awaited).turn
      unfolding probes
      probes_may got timed awaited = probes_by_may got timed awaited _

    -- of a write
    accounted_may : (timed : List TimedOut) → MayTurn (accounted op timed)
    accounted_may [] = tt
    accounted_may (t ∷ ts) = tt

    written_may : (timed : List TimedOut) → MayTurn (written h op timed)
    unfolding written
    written_may timed = elim (cases_Bool (is_past_size h op)) [
      | inl t ↦ rw t tt
      | inr f ↦ rw f (accounted_may timed)
    ]

    scatters_on_may : (timed : List TimedOut) (queue : List Store) (sent awaited : List Awaited) →
        MayTurn (scatters_on h op timed queue sent awaited).turn
    unfolding scatters_on
    scatters_on_may timed queue sent [] = written_may timed
    scatters_on_may timed queue sent (a ∷ xs) = tt

    gathers_on_may : (got : List Column) (timed : List TimedOut) (sent awaited : List Awaited) →
        MayTurn (gathers_on h op got timed sent awaited).turn
    unfolding gathers_on scatters
    gathers_on_may got timed sent [] = scatters_on_may timed _ _ _
    gathers_on_may got timed sent (a ∷ xs) = tt

    gather_timed_may : (j : ℕ) → s.call c ≡ AtRead j → (io : Io) (n : ℕ) (timed : List TimedOut) →
        MayTurn (gather_timed h op io n timed).turn
    unfolding gather_timed gathers
    gather_timed_may j at_ io n timed =
        either_may (is_too_short h op timed) _ _ (ends_read_allowed s c j at_, tt)
        (gathers_on_may io.got timed _ _)

    closing_may : (j : ℕ) → IsWriting s c op NoCommit j → (n : ℕ) (report : List IoErr) → MayTurn (closing (Silent n) report)
    closing_may j w n [] = tt
    closing_may j w n (e ∷ es) = (breaks_allowed s c op j w, tt)

    scatter_timed_may : (j : ℕ) → IsWriting s c op NoCommit j → (io : Io) (queue : List Store) (n : ℕ) (timed : List TimedOut) →
        MayTurn (scatter_timed h op io queue n timed).turn
    unfolding scatter_timed
    scatter_timed_may j w io queue n timed =
        either_may (is_too_short h op timed) _ _ (closing_may j w n (report_of h timed))
        (scatters_on_may timed _ [] (not_of n io.awaited))

    -- what comes of it
    pub timed_lawful : (p : Phase) (n : ℕ) (a : Awaited) (xs : List Awaited) → IsWorking p → CallIs m s c op o p →
        Lawful s (table.turned s c (timed_out h op p n a xs).turn)
    timed_lawful (Reads io) n a xs works k = reads_may k.0 k.1.at_ _ io.got _ _
    timed_lawful (Probes io) n a xs works k = probes_may k.0 k.1.at_ io.got _ _
    timed_lawful (Gathers io) n a xs works k = gather_timed_may k.0 k.1.at_ io n (timed_after io.timed a xs)
    timed_lawful (Scatters io queue) n a xs works k = scatter_timed_may k.0 k.1.writing io queue n (timed_after io.timed a xs)
    timed_lawful p n a xs works k = absurd works
