-- A reply comes to a running call, or a component times out: how the call goes on, behind the events of that line.
-- Towards `CallsGoOn` (`specs/Steps.antt`).
use Rattle.std.proofs.Common.{◌≡◌, ◌==◌, ℕ, Bool, true, false, List, [], ◌∷◌, ◌++◌, Option, Some, None, refl, sym, ap, subst, ◌∙◌, inl, inr, if◌then◌else◌}
use Rattle.std.proofs.lemmas.Bool.{cases_Bool, eqb-true}
use Rattle.data_map.specs.declared.check.RawMap.{RawMap}
use Rattle.layout_ops.specs.declared.messages.Answer.{Answer}
use Rattle.osd_commands.specs.declared.replies.Reply.{Reply}
use Rattle.server_rules.specs.Laws.{In}
use Rattle.client_rules.specs.declared.limits.TheConstants.{PERFORMED, OTHER_TAG}
use Rattle.client_rules.specs.Calls.{span_of}
use Rattle.client_rules.specs.Commands.{others, not_of, of_component, is_of, before, write_commands}
use Rattle.std.specs.Prelude.{nat_lt}
use Rattle.std.proofs.lemmas.List.{append-nil}
use Rattle.server_rules.proofs.Members.{in_filtered}
use Rattle.client_rules.specs.Grants.{clipped}
use Rattle.client_rules.specs.Io.{got_of, first_of, timed_with, awaited_in}
use Rattle.client_rules.specs.Laws.{Awaiting}
use Rattle.client_rules.specs.Reads.{reads_on, reads_unless, reads, probes_on, probes_sent, probes_by, probes}
use Rattle.client_rules.specs.Replies.{refusal, refused_report, refused, performed, replied, gather_timed, scatter_timed, timed_out, timed_after}
use Rattle.client_rules.specs.Requests.{report_of}
use Rattle.client_rules.specs.Turns.{turned, ended, closing}
use Rattle.client_rules.specs.Writes.{scatters_on, scatters_next, next_to, without_next, without_component, is_too_short, gathers_on, gathers, scatters, accounted, written, is_past_size}
use Rattle.client_rules.proofs.Asked.{front_none}
use Rattle.world_history.specs.ClientNames.{CallOp, Held, Awaited, TimedOut, IoErr, Store, Column, Span, Io, Phase, Reads, Probes, Gathers, Scatters, Lost, Silent, Forgets, Moved}
use Rattle.fence_law.specs.State.{State}
use Rattle.fence_law.specs.State.{Event as event}
use Rattle.fence_law.specs.State.Commit.{NoCommit}
use Rattle.fence_law.specs.Machine.{after, after_all}
use Rattle.file_simulation.specs.EventLists.{where_so, entry_of}
use Rattle.file_simulation.specs.ClientEvents as table
use Rattle.file_simulation.specs.Calls.{IsReading, IsGathering, IsScattering, IsTimedOut, CallIs}
use Rattle.relation_law.specs.CallsTurns.{IsSending, MovedIs, WritesSome, IsQueueBehind, IsWorking, ReplyFits, TimeFits, stores_of}
use Rattle.relation_law.proofs.CallsFirst.{ends_idle, breaks_broken, forgets_idle, forgets_none}
use Rattle.relation_law.proofs.CallsMoved.{counted_same, counted_is, none_behind, reads_on_is, probes_on_is, gathers_on_is, scatters_on_is, scatters_begin, first_sent}
use Rattle.relation_law.proofs.CallsDone.{write_performed, write_timed}
use Rattle.relation_law.proofs.CallsQueue.{stores_are, scattering_queue, next_there, next_from, next_differ, none_queued_performed, none_queued_timed}

module _ (m : RawMap) (c : ℕ) (op : CallOp) (o : Option Answer) (h : Held) where
  -- ---- a command was performed

  read_performed : (s : State) (io : Io) (a : Awaited) (r : Reply) → ((j : ℕ) × IsReading s c op j) →
      MovedIs m s c op o h (reads_on h (clipped h.size (span_of op)) (io.got ++ got_of a r ∷ []) io.timed []
      (others io.awaited a.command.nonce))
  read_performed s io a r k =
      reads_on_is m s c op o h (clipped h.size (span_of op)) (io.got ++ got_of a r ∷ []) io.timed []
      (others io.awaited a.command.nonce) (inl k) (λ e. k)

  probe_performed : (s : State) (io : Io) (a : Awaited) (r : Reply) → ((j : ℕ) × IsReading s c op j) →
      MovedIs m s c op o h (probes_on h (io.got ++ got_of a r ∷ []) io.timed [] (others io.awaited a.command.nonce))
  probe_performed s io a r k =
      probes_on_is m s c op o h (io.got ++ got_of a r ∷ []) io.timed [] (others io.awaited a.command.nonce) (inl k) (λ e. k)

  gather_performed : (s : State) (io : Io) (a : Awaited) (r : Reply) → WritesSome h op io.timed →
      ((j : ℕ) × IsGathering m s c op j) →
      MovedIs m s c op o h (gathers_on h op (io.got ++ got_of a r ∷ []) io.timed [] (others io.awaited a.command.nonce))
  gather_performed s io a r some k =
      gathers_on_is m s c op o h (io.got ++ got_of a r ∷ []) io.timed [] (others io.awaited a.command.nonce) (inl k)
      (λ e. inl k) some

  -- what was got doesn't matter to a scatter
  got_none : (t : State) (left : Io) (queue : List Store) (j : ℕ) → IsScattering t c op left queue j →
      IsScattering t c op (record { awaited = left.awaited; got = []; timed = left.timed }) queue j
  got_none t left queue j k =
      record { writing = k.writing; clip = k.clip; out = k.out; content = k.content; differ = k.differ }

  -- behind what was performed, the next WRITE to the component is still to be sent
  next_sending : (s : State) (io : Io) (queue : List Store) (a : Awaited) (j n : ℕ) → In a io.awaited →
      ((b : Awaited) → In b io.awaited → b.command.nonce ≡ a.command.nonce → b ≡ a) →
      IsScattering s c op io queue j →
      IsSending (after s (event.Learns c a.ask.component n a.command.nonce a.ask.offset)) c op
      (record {
        awaited = others io.awaited a.command.nonce ++ write_commands h (next_to a.ask.component queue);
        got = [];
        timed = io.timed;
      })
      (without_next a.ask.component queue) (write_commands h (next_to a.ask.component queue))
  next_sending s io queue a j n there differ k =
      let t : State = after s (event.Learns c a.ask.component n a.command.nonce a.ask.offset) in
      let left : Io = record { awaited = others io.awaited a.command.nonce; got = io.got; timed = io.timed } in
      let done : IsScattering t c op left queue j = write_performed s c op io queue j k n a there differ in
      let next : List Store = next_to a.ask.component queue in
      let rest : List Store = without_next a.ask.component queue in
      let moved : IsScattering t c op left (next ++ rest) j =
      scattering_queue t c op left queue (next ++ rest) j (λ q. next_there a.ask.component q queue)
      (λ q. next_from a.ask.component q queue) (next_differ a.ask.component queue k.differ) done in
      record {
        entry = j;
        before = others io.awaited a.command.nonce;
        awaited = refl;
        scattering =
            subst (λ ws. IsScattering t c op (record {
              awaited = others io.awaited a.command.nonce;
              got = [];
              timed = io.timed;
            }) (ws ++ rest) j)
            (sym (stores_are h next)) (got_none t left (next ++ rest) j moved);
      }

  pub scatter_performed : (s : State) (io : Io) (queue : List Store) (a : Awaited) (j n : ℕ) → In a io.awaited →
      ((b : Awaited) → In b io.awaited → b.command.nonce ≡ a.command.nonce → b ≡ a) → IsQueueBehind io.awaited queue →
      s.known_size c ≡ h.size → IsScattering s c op io queue j →
      MovedIs m (after s (event.Learns c a.ask.component n a.command.nonce a.ask.offset)) c op o h
      (scatters_next h op io.timed queue a.ask.component (others io.awaited a.command.nonce))
  unfolding scatters_next
  scatter_performed s io queue a j n there differ behind size k =
      let t : State = after s (event.Learns c a.ask.component n a.command.nonce a.ask.offset) in
      let cs : List Awaited = write_commands h (next_to a.ask.component queue) in
      scatters_on_is m t c op o h io.timed (without_next a.ask.component queue) cs
      (others io.awaited a.command.nonce ++ cs) size
      (λ e. none_queued_performed io.awaited queue a differ behind (front_none (others io.awaited a.command.nonce) cs e)
      (none_sent (next_to a.ask.component queue) (none_behind (others io.awaited a.command.nonce) cs e)))
      (next_sending s io queue a j n there differ k)
    where
      none_sent : (ws : List Store) → write_commands h ws ≡ [] → ws ≡ []
      none_sent ws e = sym (stores_are h ws) ∙ ap stores_of e

  -- ---- a command was refused

  tag_other : (p : Phase) (a : Awaited) (r : Reply) (b : Bool) → (r.verdict == OTHER_TAG) ≡ b →
      refused h p a
      r ≡ (if b then turned h (Forgets (refusal a r)) else turned h (closing (refusal a r) (refused_report h p a r)))
  unfolding refused
  tag_other p a r b e = rw e refl

  -- the grant is forgotten, or goes back
  pub read_refused : (s : State) (p : Phase) (a : Awaited) (r : Reply) (j : ℕ) → refused_report h p a r ≡ [] →
      s.commit c ≡ NoCommit →
      MovedIs m (after_all s (event.EndsRead c j ∷ where_so (r.verdict == OTHER_TAG) (event.Forgets c ∷ []))) c op o h
      (refused h p a r)
  read_refused s p a r j clean plain = by_tag (r.verdict == OTHER_TAG) refl
    where
      by_tag : (b : Bool) → (r.verdict == OTHER_TAG) ≡ b →
          MovedIs m (after_all s (event.EndsRead c j ∷ where_so (r.verdict == OTHER_TAG) (event.Forgets c ∷ []))) c op o h
          (refused h p a r)
      by_tag true e = rw (tag_other p a r true e, e) (record {
        held = counted_same h;
        turn = (forgets_idle (after s (event.EndsRead c j)) c plain, forgets_none (after s (event.EndsRead c j)) c);
      })
      by_tag false e = rw (tag_other p a r false e, e, clean) (record {
        held = counted_same h;
        turn = (refl, ends_idle s c j plain);
      })

  pub write_refused : (s : State) (io : Io) (queue : List Store) (a : Awaited) (r : Reply) (j : ℕ) → s.commit c ≡ NoCommit →
      MovedIs m (after_all s (event.Breaks c j ∷ where_so (r.verdict == OTHER_TAG) (event.Forgets c ∷ []))) c op o h
      (refused h (Scatters io queue) a r)
  write_refused s io queue a r j plain = by_tag (r.verdict == OTHER_TAG) refl
    where
      by_tag : (b : Bool) → (r.verdict == OTHER_TAG) ≡ b →
          MovedIs m (after_all s (event.Breaks c j ∷ where_so (r.verdict == OTHER_TAG) (event.Forgets c ∷ []))) c op o h
          (refused h (Scatters io queue) a r)
      by_tag true e = rw (tag_other (Scatters io queue) a r true e, e) (record {
        held = counted_same h;
        turn = (forgets_idle (after s (event.Breaks c j)) c plain, forgets_none (after s (event.Breaks c j)) c);
      })
      by_tag false e = rw (tag_other (Scatters io queue) a r false e, e) (record {
        held = counted_same h;
        turn = (refl, breaks_broken s c j plain);
      })

  -- ---- any reply

  performed_is : (s : State) (p : Phase) (a : Awaited) (r : Reply) → IsWorking p → CallIs m s c op o p → ReplyFits h op p a →
      s.known_size c ≡ h.size → MovedIs m (after_all s (table.performed s c a p)) c op o h (performed h op p a r)
  performed_is s (Reads io) a r w k f size = read_performed s io a r k
  performed_is s (Probes io) a r w k f size = probe_performed s io a r k
  performed_is s (Gathers io) a r w k f size = gather_performed s io a r f k
  performed_is s (Scatters io queue) a r w k f size =
      scatter_performed s io queue a k.0 (entry_of s c) f.0 f.1 f.2 size k.1
  performed_is s p a r w k f size = absurd w

  refused_is : (s : State) (p : Phase) (a : Awaited) (r : Reply) → IsWorking p → CallIs m s c op o p →
      MovedIs m (after_all s (table.refused s c p ++ where_so (r.verdict == OTHER_TAG) (event.Forgets c ∷ []))) c op o h
      (refused h p a r)
  refused_is s (Reads io) a r w k = read_refused s (Reads io) a r (entry_of s c) refl k.1.commit
  refused_is s (Probes io) a r w k = read_refused s (Probes io) a r (entry_of s c) refl k.1.commit
  refused_is s (Gathers io) a r w k = read_refused s (Gathers io) a r (entry_of s c) refl k.1.commit
  refused_is s (Scatters io queue) a r w k = write_refused s io queue a r (entry_of s c) k.1.writing.commit_is
  refused_is s p a r w k = absurd w

  pub replied_is : (s : State) (p : Phase) (a : Awaited) (r : Reply) → IsWorking p → CallIs m s c op o p → ReplyFits h op p a →
      s.known_size c ≡ h.size → MovedIs m (after_all s (table.replied s c a r p)) c op o h (replied h op p a r)
  unfolding replied
  replied_is s p a r w k f size = elim (cases_Bool (r.verdict == PERFORMED)) [
    | inl t ↦ rw t (performed_is s p a r w k f size)
    | inr n ↦ rw n (refused_is s p a r w k)
  ]

  -- ---- a component times out

  -- how the call goes on, behind the event that its turn has
  abbrev TimedIs : State → Moved → Type 0
  TimedIs s mv = MovedIs m (after_all s (table.turned s c mv.turn)) c op o h mv

  reads_on_timed : (s : State) (r : Span) (got : List Column) (timed : List TimedOut) (sent awaited : List Awaited) →
      ((j : ℕ) × IsReading s c op j) → TimedIs s (reads_on h r got timed sent awaited)
  unfolding reads_on
  reads_on_timed s r got timed sent [] k = record { held = counted_is h sent; turn = k }
  reads_on_timed s r got timed sent (a ∷ xs) k = record { held = counted_is h sent; turn = inl k }

  reads_timed_by : (s : State) (r : Span) (got : List Column) (timed : List TimedOut) (awaited : List Awaited)
      (ps : Option (List ℕ)) → ((j : ℕ) × IsReading s c op j) → TimedIs s (reads_unless h r got timed awaited ps)
  reads_timed_by s r got timed awaited (Some ps) k =
      record { held = counted_same h; turn = ends_idle s c (entry_of s c) k.1.commit }
  reads_timed_by s r got timed awaited None k = reads_on_timed s r got timed _ _ k

  reads_timed : (s : State) (r : Span) (got : List Column) (timed : List TimedOut) (awaited : List Awaited) →
      ((j : ℕ) × IsReading s c op j) → TimedIs s (reads h r got timed awaited)
  unfolding reads
  reads_timed s r got timed awaited k = reads_timed_by s r got timed awaited _ k

  probes_on_timed : (s : State) (got : List Column) (timed : List TimedOut) (sent awaited : List Awaited) →
      ((j : ℕ) × IsReading s c op j) → TimedIs s (probes_on h got timed sent awaited)
  unfolding probes_on
  probes_on_timed s got timed sent [] k = record { held = counted_is h sent; turn = k }
  probes_on_timed s got timed sent (a ∷ xs) k = record { held = counted_is h sent; turn = inl k }

  probe_timed_by : (s : State) (b : Bool) (got : List Column) (timed : List TimedOut) (awaited : List Awaited) (ps : List ℕ)
      (p : ℕ) → ((j : ℕ) × IsReading s c op j) →
      TimedIs s (if b then ended h (Lost ps) else probes_sent h got timed awaited p)
  probe_timed_by s true got timed awaited ps p k =
      record { held = counted_same h; turn = ends_idle s c (entry_of s c) k.1.commit }
  probe_timed_by s false got timed awaited ps p k = probes_on_timed s got timed _ _ k

  probes_timed_by : (s : State) (got : List Column) (timed : List TimedOut) (awaited : List Awaited) (n : Option ℕ) →
      ((j : ℕ) × IsReading s c op j) → TimedIs s (probes_by h got timed awaited n)
  probes_timed_by s got timed awaited None k =
      record { held = counted_same h; turn = ends_idle s c (entry_of s c) k.1.commit }
  probes_timed_by s got timed awaited (Some n) k = probe_timed_by s _ got timed awaited _ _ k

  probes_timed : (s : State) (got : List Column) (timed : List TimedOut) (awaited : List Awaited) →
      ((j : ℕ) × IsReading s c op j) → TimedIs s (probes h got timed awaited)
  unfolding probes
  probes_timed s got timed awaited k = probes_timed_by s got timed awaited _ k

  -- of a call that goes on with WRITEs nothing happens at the line
  quiet_begin : (s : State) (timed : List TimedOut) (queue : List Store) (sent : List Awaited) → Awaiting sent →
      table.turned s c (scatters_on h op timed queue sent sent).turn ≡ []
  unfolding scatters_on
  quiet_begin s timed queue [] some = absurd some
  quiet_begin s timed queue (a ∷ xs) some = refl

  scatters_quiet : (s : State) (got : List Column) (timed : List TimedOut) → WritesSome h op timed →
      table.turned s c (scatters h op got timed).turn ≡ []
  unfolding scatters
  scatters_quiet s got timed some = quiet_begin s timed _ _ (first_sent h _ (some got))

  gathers_on_timed : (s : State) (got : List Column) (timed : List TimedOut) (sent awaited : List Awaited) →
      ((j : ℕ) × IsGathering m s c op j) → WritesSome h op timed → TimedIs s (gathers_on h op got timed sent awaited)
  unfolding gathers_on
  gathers_on_timed s got timed sent [] k some =
      rw (scatters_quiet s got timed some) (scatters_begin m s c op o h got timed (inl k) some)
  gathers_on_timed s got timed sent (a ∷ xs) k some = record { held = counted_is h sent; turn = inl k }

  gathers_timed : (s : State) (got : List Column) (timed : List TimedOut) (awaited : List Awaited) →
      ((j : ℕ) × IsGathering m s c op j) → WritesSome h op timed → TimedIs s (gathers h op got timed awaited)
  unfolding gathers
  gathers_timed s got timed awaited k some = gathers_on_timed s got timed _ _ k some

  gather_timed_by : (s : State) (b : Bool) (io : Io) (n : ℕ) (timed : List TimedOut) →
      ((j : ℕ) × IsGathering m s c op j) → (b ≡ false → WritesSome h op timed) →
      TimedIs s (if b then ended h (Silent n) else gathers h op io.got timed (not_of n io.awaited))
  gather_timed_by s true io n timed k some =
      record { held = counted_same h; turn = ends_idle s c (entry_of s c) k.1.commit }
  gather_timed_by s false io n timed k some = gathers_timed s io.got timed (not_of n io.awaited) k (some refl)

  gather_timed_is : (s : State) (io : Io) (n : ℕ) (timed : List TimedOut) → ((j : ℕ) × IsGathering m s c op j) →
      (is_too_short h op timed ≡ false → WritesSome h op timed) → TimedIs s (gather_timed h op io n timed)
  unfolding gather_timed
  gather_timed_is s io n timed k some = gather_timed_by s (is_too_short h op timed) io n timed k some

  -- ---- a component times out in a scatter

  account_quiet : (s : State) (timed : List TimedOut) → table.turned s c (accounted op timed) ≡ []
  account_quiet s [] = refl
  account_quiet s (t ∷ ts) = refl

  written_quiet : (s : State) (timed : List TimedOut) → table.turned s c (written h op timed) ≡ []
  unfolding written
  written_quiet s timed = elim (cases_Bool (is_past_size h op)) [
    | inl t ↦ rw t refl
    | inr f ↦ rw f (account_quiet s timed)
  ]

  scatters_on_quiet : (s : State) (timed : List TimedOut) (queue : List Store) (sent awaited : List Awaited) →
      table.turned s c (scatters_on h op timed queue sent awaited).turn ≡ []
  unfolding scatters_on
  scatters_on_quiet s timed queue sent [] = written_quiet s timed
  scatters_on_quiet s timed queue sent (a ∷ xs) = refl

  some_report : (timed : List TimedOut) → (timed ≡ [] → ⊥) → (e : IoErr) × (es : List IoErr) × (report_of h timed ≡ e ∷ es)
  unfolding report_of
  some_report [] some = absurd (some refl)
  some_report (t ∷ ts) some = (_, _, refl)

  too_short : (s : State) (io : Io) (queue : List Store) (n : ℕ) (timed : List TimedOut) → s.commit c ≡ NoCommit →
      (timed ≡ [] → ⊥) → TimedIs s (turned h (closing (Silent n) (report_of h timed)))
  too_short s io queue n timed plain some =
      let r = some_report timed some in
      rw r.2 (record { held = counted_same h; turn = (refl, breaks_broken s c (entry_of s c) plain) })

  scatter_left : (s : State) (io : Io) (queue : List Store) (n j : ℕ) (timed : List TimedOut) →
      IsScattering s c op io queue j → IsQueueBehind io.awaited queue → s.known_size c ≡ h.size →
      ((q : ℕ) → IsTimedOut io.timed q → IsTimedOut timed q) → IsTimedOut timed n →
      MovedIs m s c op o h (scatters_on h op timed (without_component n queue) [] (not_of n io.awaited))
  scatter_left s io queue n j timed k behind size more now =
      scatters_on_is m s c op o h timed (without_component n queue) [] (not_of n io.awaited) size
      (none_queued_timed n io.awaited queue behind)
      (record {
        entry = j;
        before = not_of n io.awaited;
        awaited = sym (append-nil (not_of n io.awaited));
        scattering = got_none s (record { awaited = not_of n io.awaited; got = io.got; timed = timed })
            (without_component n queue) j (write_timed s c op io queue j k n timed more now);
      })

  scatter_timed_by : (s : State) (b : Bool) (io : Io) (queue : List Store) (n j : ℕ) (timed : List TimedOut) →
      IsScattering s c op io queue j → IsQueueBehind io.awaited queue → s.known_size c ≡ h.size →
      ((q : ℕ) → IsTimedOut io.timed q → IsTimedOut timed q) → IsTimedOut timed n →
      TimedIs s (if b then turned h (closing (Silent n) (report_of h timed))
      else scatters_on h op timed (without_component n queue) [] (not_of n io.awaited))
  scatter_timed_by s true io queue n j timed k behind size more now =
      too_short s io queue n timed k.writing.commit_is (λ e. absurd (subst (λ l. IsTimedOut l n) e now).1)
  scatter_timed_by s false io queue n j timed k behind size more now =
      rw (scatters_on_quiet s timed (without_component n queue) [] (not_of n io.awaited))
      (scatter_left s io queue n j timed k behind size more now)

  scatter_timed_is : (s : State) (io : Io) (queue : List Store) (n j : ℕ) (timed : List TimedOut) →
      IsScattering s c op io queue j → IsQueueBehind io.awaited queue → s.known_size c ≡ h.size →
      ((q : ℕ) → IsTimedOut io.timed q → IsTimedOut timed q) → IsTimedOut timed n →
      TimedIs s (scatter_timed h op io queue n timed)
  unfolding scatter_timed
  scatter_timed_is s io queue n j timed k behind size more now =
      scatter_timed_by s (is_too_short h op timed) io queue n j timed k behind size more now

  -- ---- the components that timed out

  put_timed : (t : TimedOut) (ts : List TimedOut) → In t (timed_with t ts)
  unfolding timed_with
  put_timed t [] = inl refl
  put_timed t (u ∷ us) = elim (cases_Bool (nat_lt t.ask.component u.ask.component)) [
    | inl e ↦ rw e (inl refl)
    | inr e ↦ rw e (inr (put_timed t us))
  ]

  more_timed : (x t : TimedOut) (ts : List TimedOut) → In x ts → In x (timed_with t ts)
  unfolding timed_with
  more_timed x t [] i = absurd i
  more_timed x t (u ∷ us) i = elim (cases_Bool (nat_lt t.ask.component u.ask.component)) [
    | inl e ↦ rw e (inr i)
    | inr e ↦ rw e (elim i [ inl is ↦ inl is | inr old ↦ inr (more_timed x t us old) ])
  ]

  -- the first of some commands to a component is one of them
  first_component : (n : ℕ) (a : Awaited) (xs : List Awaited) → a.ask.component ≡ n →
      ((b : Awaited) → In b xs → b.ask.component ≡ n) → (first_of a xs).ask.component ≡ n
  unfolding first_of
  first_component n a [] e f = e
  first_component n a (b ∷ bs) e f = elim (cases_Bool (before b.ask a.ask)) [
    | inl t ↦ rw t (first_component n b bs (f b (inl refl)) (λ z i. f z (inr i)))
    | inr t ↦ rw t (first_component n a bs e (λ z i. f z (inr i)))
  ]

  of_there : (n : ℕ) (b : Awaited) (xs : List Awaited) → In b (of_component n xs) → b.ask.component ≡ n
  unfolding of_component
  of_there n b xs i = eqb-true b.ask.component n (in_filtered (is_of n) b xs i).1

  after_has : (timed : List TimedOut) (n : ℕ) (a : Awaited) (xs awaited : List Awaited) → of_component n awaited ≡ a ∷ xs →
      IsTimedOut (timed_after timed a xs) n
  after_has timed n a xs awaited e = (
    first_of a xs,
    put_timed (first_of a xs) timed,
    first_component n a xs (of_there n a awaited (subst (λ l. In a l) (sym e) (inl refl)))
        (λ b i. of_there n b awaited (subst (λ l. In b l) (sym e) (inr i))),
  )

  after_more : (timed : List TimedOut) (a : Awaited) (xs : List Awaited) (q : ℕ) → IsTimedOut timed q →
      IsTimedOut (timed_after timed a xs) q
  after_more timed a xs q t = (t.0, more_timed t.0 (first_of a xs) timed t.1, t.2)

  -- ---- any timeout

  pub timed_is : (s : State) (p : Phase) (n : ℕ) (a : Awaited) (xs : List Awaited) → IsWorking p → CallIs m s c op o p →
      TimeFits h op p a xs → of_component n (awaited_in p) ≡ a ∷ xs → s.known_size c ≡ h.size →
      MovedIs m (after_all s (table.turned s c (timed_out h op p n a xs).turn)) c op o h (timed_out h op p n a xs)
  timed_is s (Reads io) n a xs w k f of size = reads_timed s _ io.got _ _ k
  timed_is s (Probes io) n a xs w k f of size = probes_timed s io.got _ _ k
  timed_is s (Gathers io) n a xs w k f of size = gather_timed_is s io n (timed_after io.timed a xs) k f
  timed_is s (Scatters io queue) n a xs w k f of size =
      scatter_timed_is s io queue n k.0 (timed_after io.timed a xs) k.1 f size (after_more io.timed a xs)
      (after_has io.timed n a xs io.awaited of)
  timed_is s p n a xs w k f of size = absurd w
