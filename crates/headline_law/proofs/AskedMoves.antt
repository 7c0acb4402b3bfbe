-- What a call does with the drives: what it awaits then, and what it has queued, is asked of components of the positions.
-- Towards `EachAskIsPlaced` (`headline_law/specs/Reads.antt`).
use Rattle.std.proofs.Common.{◌≡◌, ◌==◌, ◌++◌, ℕ, Bool, true, false, List, [], ◌∷◌, Option, Some, None, refl, sym, subst, inl, inr, if◌then◌else◌}
use Rattle.data_map.specs.declared.check.RawMap.{RawMap}
use Rattle.data_map.specs.Striping.{parities}
use Rattle.stripe_plan.specs.declared.plan.Aim.TheVariants.{Reads as ToRead, Gathers as ToGather}
use Rattle.osd_commands.specs.declared.replies.Reply.{Reply}
use Rattle.server_rules.specs.Laws.{In}
use Rattle.server_rules.proofs.Members.{in_either, in_front, in_behind, in_filtered, in_mapped}
use Rattle.client_rules.specs.declared.limits.TheConstants.{PERFORMED, OTHER_TAG}
use Rattle.client_rules.specs.Commands.{numbered, others, not_of, read_commands, write_commands, carrying_none}
use Rattle.client_rules.specs.Going.{begins}
use Rattle.client_rules.specs.Io.{awaited_in}
use Rattle.client_rules.specs.Reads.{reads, reads_on, reads_unless, probes, probes_on, probes_by}
use Rattle.client_rules.specs.Replies.{replied, performed, refused, refusal, refused_report, timed_out, gather_timed, scatter_timed}
use Rattle.client_rules.specs.Turns.{turned, closing}
use Rattle.client_rules.specs.Writes.{accounted, written, is_past_size, firsts, laters, scatters, scatters_on, scatters_next, next_to, without_next, without_component, gathers, gathers_on, gathers_due, is_too_short}
use Rattle.world_history.specs.ClientNames.{Ask, Awaited, CallOp, Column, Held, Io, Moved, Phase, Starts, Needs, Waits, Reads, Probes, Gathers, Scatters, Span, Store, TimedOut, Turn, Goes, Ends, Forgets}
use Rattle.relation_law.proofs.CallsDone.{from_others}
use Rattle.relation_law.proofs.CallsQueue.{next_from}
use Rattle.relation_law.proofs.MessagesBehind.{numbered_made}
use Rattle.relation_law.proofs.Splits.{join_in}
use Rattle.headline_law.proofs.AskedPlans.{IsAtPosition, AreAtPosition, AreStoredAtPosition, plan_asks, stores_asks, probes_asks}

-- ---- what is asked

-- what is awaited was asked of components of the positions
abbrev pub AreAwaitedAtPosition : RawMap → List Awaited → Type 0
AreAwaitedAtPosition m xs = (a : Awaited) → In a xs → IsAtPosition m a.ask

-- what a phase has queued
abbrev pub queued_in : Phase → List Store
queued_in (Scatters io queue) = queue
queued_in p = []

-- so it is of a phase
pub record PhaseAsks (m : RawMap) (p : Phase) : Type 0 where
  pub awaited : AreAwaitedAtPosition m (awaited_in p)
  pub queued : AreStoredAtPosition m (queued_in p)

-- by how a call goes on
abbrev pub TurnAsks : RawMap → Turn → Type 0
TurnAsks m (Goes p) = PhaseAsks m p
TurnAsks m (Ends u) = Unit {0}
TurnAsks m (Forgets u) = Unit {0}

-- it goes on under the same grant's map
pub record MovedAsks (h : Held) (m : Moved) : Type 0 where
  pub file : m.held.file ≡ h.file
  pub map : m.held.map ≡ h.map
  pub turn : TurnAsks h.map m.turn

-- a phase that awaits nothing
pub free_asks : (m : RawMap) (p : Phase) → awaited_in p ≡ [] → queued_in p ≡ [] → PhaseAsks m p
free_asks m p none empty = record {
  awaited = λ a i. absurd (subst (In a) none i);
  queued = λ q i. absurd (subst (In q) empty i);
}

either_turn : (m : RawMap) (b : Bool) (t u : Turn) → TurnAsks m t → TurnAsks m u → TurnAsks m (if b then t else u)
either_turn m true t u x y = x
either_turn m false t u x y = y

either : (h : Held) (b : Bool) (m n : Moved) → MovedAsks h m → MovedAsks h n → MovedAsks h (if b then m else n)
either h true m n x y = x
either h false m n x y = y

pub quiet_asks : (h : Held) (t : Turn) → TurnAsks h.map t → MovedAsks h (turned h t)
quiet_asks h t x = record { file = refl; map = refl; turn = x }

-- ---- commands

more_awaited : (m : RawMap) (xs ys : List Awaited) → AreAwaitedAtPosition m xs → AreAwaitedAtPosition m ys →
    AreAwaitedAtPosition m (xs ++ ys)
more_awaited m xs ys x y a i = elim (in_either a xs ys i) [ inl l ↦ x a l | inr r ↦ y a r ]

others_awaited : (m : RawMap) (xs : List Awaited) (n : ℕ) → AreAwaitedAtPosition m xs → AreAwaitedAtPosition m (others xs n)
others_awaited m xs n x a i = x a (from_others a xs n i).0

rest_awaited : (m : RawMap) (xs : List Awaited) (k : ℕ) → AreAwaitedAtPosition m xs → AreAwaitedAtPosition m (not_of k xs)
unfolding not_of
rest_awaited m xs k x a i = x a (in_filtered _ a xs i).0

rest_queued : (m : RawMap) (ws : List Store) (k : ℕ) → AreStoredAtPosition m ws → AreStoredAtPosition m (without_component k ws)
unfolding without_component
rest_queued m ws k x q i = x q (in_filtered _ q ws i).0

module _ (h : Held) where
  numbered_asks : (write : Bool) (ws : List Store) → AreStoredAtPosition h.map ws →
      AreAwaitedAtPosition h.map (numbered h write h.count ws)
  numbered_asks write ws x a i =
      let r = numbered_made h write h.count ws a i in
      subst (λ (b : Awaited). IsAtPosition h.map b.ask) (sym r.3) (x r.0 r.2)

  write_asks : (ws : List Store) → AreStoredAtPosition h.map ws → AreAwaitedAtPosition h.map (write_commands h ws)
  unfolding write_commands
  write_asks ws x = numbered_asks true ws x

  read_asks : (xs : List Ask) → AreAtPosition h.map xs → AreAwaitedAtPosition h.map (read_commands h xs)
  unfolding read_commands
  read_asks xs x =
      numbered_asks false (carrying_none xs)
      (λ q i.
      let r = in_mapped _ q xs i in
      subst (λ (z : Store). IsAtPosition h.map z.ask) (sym r.2) (x r.0 r.1))

module _ (h : Held) (op : CallOp) where
  -- ---- reads

  reads_on_asks : (r : Span) (got : List Column) (timed : List TimedOut) (sent awaited : List Awaited) →
      AreAwaitedAtPosition h.map awaited → MovedAsks h (reads_on h r got timed sent awaited)
  unfolding reads_on
  reads_on_asks r got timed sent [] x = record { file = refl; map = refl; turn = tt }
  reads_on_asks r got timed sent (a ∷ xs) x =
      record { file = refl; map = refl; turn = record { awaited = x; queued = λ q i. absurd i } }

  reads_unless_asks : (r : Span) (got : List Column) (timed : List TimedOut) (awaited : List Awaited) (o : Option (List ℕ)) →
      AreAwaitedAtPosition h.map awaited → MovedAsks h (reads_unless h r got timed awaited o)
  reads_unless_asks r got timed awaited (Some ps) x = quiet_asks h _ tt
  reads_unless_asks r got timed awaited None x =
      reads_on_asks r got timed _ _
      (more_awaited h.map awaited _ x (read_asks h _ (plan_asks ToRead h.map r _ _ _)))

  reads_asks : (r : Span) (got : List Column) (timed : List TimedOut) (awaited : List Awaited) →
      AreAwaitedAtPosition h.map awaited → MovedAsks h (reads h r got timed awaited)
  unfolding reads
  reads_asks r got timed awaited x = reads_unless_asks r got timed awaited _ x

  probes_on_asks : (got : List Column) (timed : List TimedOut) (sent awaited : List Awaited) →
      AreAwaitedAtPosition h.map awaited → MovedAsks h (probes_on h got timed sent awaited)
  unfolding probes_on
  probes_on_asks got timed sent [] x = record { file = refl; map = refl; turn = tt }
  probes_on_asks got timed sent (a ∷ xs) x =
      record { file = refl; map = refl; turn = record { awaited = x; queued = λ q i. absurd i } }

  probes_by_asks : (got : List Column) (timed : List TimedOut) (awaited : List Awaited) (o : Option ℕ) →
      AreAwaitedAtPosition h.map awaited → MovedAsks h (probes_by h got timed awaited o)
  probes_by_asks got timed awaited None x = quiet_asks h _ tt
  probes_by_asks got timed awaited (Some n) x =
      either h _ _ _ (quiet_asks h _ tt)
      (probes_on_asks got timed _ _ (more_awaited h.map awaited _ x (read_asks h _ (probes_asks h _ _ _))))

  probes_all_asks : (got : List Column) (timed : List TimedOut) (awaited : List Awaited) →
      AreAwaitedAtPosition h.map awaited → MovedAsks h (probes h got timed awaited)
  unfolding probes
  probes_all_asks got timed awaited x = probes_by_asks got timed awaited _ x

  -- ---- writes

  pub accounted_asks : (m : RawMap) (timed : List TimedOut) → TurnAsks m (accounted op timed)
  accounted_asks m [] = tt
  accounted_asks m (t ∷ ts) = free_asks m _ refl refl

  written_asks : (timed : List TimedOut) → TurnAsks h.map (written h op timed)
  unfolding written
  written_asks timed =
      either_turn h.map (is_past_size h op) _ _ (free_asks h.map _ refl refl) (accounted_asks h.map timed)

  scatters_on_asks : (timed : List TimedOut) (queue : List Store) (sent awaited : List Awaited) →
      AreAwaitedAtPosition h.map awaited → AreStoredAtPosition h.map queue →
      MovedAsks h (scatters_on h op timed queue sent awaited)
  unfolding scatters_on
  scatters_on_asks timed queue sent [] x y = record { file = refl; map = refl; turn = written_asks timed }
  scatters_on_asks timed queue sent (a ∷ xs) x y =
      record { file = refl; map = refl; turn = record { awaited = x; queued = y } }

  scatters_asks : (got : List Column) (timed : List TimedOut) → MovedAsks h (scatters h op got timed)
  unfolding scatters
  scatters_asks got timed = first _ (stores_asks h.map _ _ got _)
    where
      first : (all : List Store) → AreStoredAtPosition h.map all →
          MovedAsks h
          (scatters_on h op timed (laters [] all) (write_commands h (firsts [] all)) (write_commands h (firsts [] all)))
      first all x =
          scatters_on_asks timed _ _ _
          (write_asks h (firsts [] all) (λ q i. x q (join_in [] all q (in_front q (firsts [] all) (laters [] all) i))))
          (λ q i. x q (join_in [] all q (in_behind q (firsts [] all) (laters [] all) i)))

  gathers_on_asks : (got : List Column) (timed : List TimedOut) (sent awaited : List Awaited) →
      AreAwaitedAtPosition h.map awaited → MovedAsks h (gathers_on h op got timed sent awaited)
  unfolding gathers_on
  gathers_on_asks got timed sent [] x = scatters_asks got timed
  gathers_on_asks got timed sent (a ∷ xs) x =
      record { file = refl; map = refl; turn = record { awaited = x; queued = λ q i. absurd i } }

  due_asks : (r : Span) (got : List Column) (timed : List TimedOut) (awaited : List Awaited) →
      AreAtPosition h.map (gathers_due h r got timed awaited)
  unfolding gathers_due
  due_asks r got timed awaited = by (parities h.map == 0) _ (plan_asks ToGather h.map r _ _ _)
    where
      by : (b : Bool) (xs : List Ask) → AreAtPosition h.map xs → AreAtPosition h.map (if b then [] else xs)
      by true xs x = λ a i. absurd i
      by false xs x = x

  gathers_asks : (got : List Column) (timed : List TimedOut) (awaited : List Awaited) →
      AreAwaitedAtPosition h.map awaited → MovedAsks h (gathers h op got timed awaited)
  unfolding gathers
  gathers_asks got timed awaited x =
      gathers_on_asks got timed _ _ (more_awaited h.map awaited _ x (read_asks h _ (due_asks _ got timed awaited)))

  -- ---- replies

  scatters_next_asks : (timed : List TimedOut) (queue : List Store) (k : ℕ) (awaited : List Awaited) →
      AreAwaitedAtPosition h.map awaited → AreStoredAtPosition h.map queue →
      MovedAsks h (scatters_next h op timed queue k awaited)
  unfolding scatters_next
  scatters_next_asks timed queue k awaited x y =
      scatters_on_asks timed _ _ _
      (more_awaited h.map awaited _ x
      (write_asks h (next_to k queue)
      (λ q i. y q (next_from k q queue (in_front q (next_to k queue) (without_next k queue) i)))))
      (λ q i. y q (next_from k q queue (in_behind q (next_to k queue) (without_next k queue) i)))

  performed_asks : (p : Phase) (a : Awaited) (r : Reply) → PhaseAsks h.map p → MovedAsks h (performed h op p a r)
  performed_asks (Reads io) a r x =
      reads_on_asks _ _ io.timed [] _ (others_awaited h.map io.awaited a.command.nonce x.awaited)
  performed_asks (Probes io) a r x =
      probes_on_asks _ io.timed [] _ (others_awaited h.map io.awaited a.command.nonce x.awaited)
  performed_asks (Gathers io) a r x =
      gathers_on_asks _ io.timed [] _ (others_awaited h.map io.awaited a.command.nonce x.awaited)
  performed_asks (Scatters io queue) a r x =
      scatters_next_asks io.timed queue a.ask.component _ (others_awaited h.map io.awaited a.command.nonce x.awaited) x.queued
  performed_asks Starts a r x = quiet_asks h _ x
  performed_asks (Needs need) a r x = quiet_asks h _ x
  performed_asks (Waits need) a r x = quiet_asks h _ x

  refused_asks : (p : Phase) (a : Awaited) (r : Reply) → MovedAsks h (refused h p a r)
  unfolding refused
  refused_asks p a r =
      either h (r.verdict == OTHER_TAG) (turned h (Forgets (refusal a r)))
      (turned h (closing (refusal a r) (refused_report h p a r)))
      (quiet_asks h _ tt) (quiet_asks h _ (free_asks h.map _ refl refl))

  pub replied_asks : (p : Phase) (a : Awaited) (r : Reply) → PhaseAsks h.map p → MovedAsks h (replied h op p a r)
  unfolding replied
  replied_asks p a r x = either h (r.verdict == PERFORMED) _ _ (performed_asks p a r x) (refused_asks p a r)

  -- ---- timeouts

  gather_timed_asks : (io : Io) (k : ℕ) (timed : List TimedOut) → PhaseAsks h.map (Gathers io) →
      MovedAsks h (gather_timed h op io k timed)
  unfolding gather_timed
  gather_timed_asks io k timed x =
      either h (is_too_short h op timed) _ _ (quiet_asks h _ tt)
      (gathers_asks io.got timed (not_of k io.awaited) (rest_awaited h.map io.awaited k x.awaited))

  scatter_timed_asks : (io : Io) (queue : List Store) (k : ℕ) (timed : List TimedOut) → PhaseAsks h.map (Scatters io queue) →
      MovedAsks h (scatter_timed h op io queue k timed)
  unfolding scatter_timed
  scatter_timed_asks io queue k timed x =
      either h (is_too_short h op timed) _ _ (quiet_asks h _ (free_asks h.map _ refl refl))
      (scatters_on_asks timed _ [] _ (rest_awaited h.map io.awaited k x.awaited) (rest_queued h.map queue k x.queued))

  pub timed_asks : (p : Phase) (k : ℕ) (a : Awaited) (xs : List Awaited) → PhaseAsks h.map p →
      MovedAsks h (timed_out h op p k a xs)
  timed_asks (Reads io) k a xs x = reads_asks _ io.got _ (not_of k io.awaited) (rest_awaited h.map io.awaited k x.awaited)
  timed_asks (Probes io) k a xs x = probes_all_asks io.got _ (not_of k io.awaited) (rest_awaited h.map io.awaited k x.awaited)
  timed_asks (Gathers io) k a xs x = gather_timed_asks io k _ x
  timed_asks (Scatters io queue) k a xs x = scatter_timed_asks io queue k _ x
  timed_asks Starts k a xs x = quiet_asks h _ x
  timed_asks (Needs need) k a xs x = quiet_asks h _ x
  timed_asks (Waits need) k a xs x = quiet_asks h _ x

  -- ---- the begin

  pub begins_asks : MovedAsks h (begins h op)
  unfolding begins
  begins_asks =
      either h _ _ _ (gathers_asks [] [] [] (λ a i. absurd i))
      (either h _ _ _ (probes_all_asks [] [] [] (λ a i. absurd i)) (reads_asks _ [] [] [] (λ a i. absurd i)))
