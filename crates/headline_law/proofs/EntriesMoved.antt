-- What becomes of a call that works with the drives, and the entry of the call.
-- Towards `CutsShowEntries` (`specs/Parts.antt`).
use Rattle.std.proofs.Common.{◌≡◌, ◌⊎◌, ◌==◌, ℕ, Bool, true, false, List, [], ◌∷◌, ◌++◌, length, Option, Some, None, refl, sym, ap, subst, ◌∙◌, inl, inr, if◌then◌else◌}
use Rattle.std.proofs.lemmas.List.FromFn.{length-map-range_with_len}
use Rattle.osd_commands.specs.declared.replies.Reply.{Reply}
use Rattle.client_rules.specs.declared.limits.TheConstants.{PERFORMED, OTHER_TAG}
use Rattle.client_rules.specs.Calls.{span_of, bytes_of, is_write}
use Rattle.client_rules.specs.Commands.{write_commands, not_of}
use Rattle.client_rules.specs.Requests.{report_of}
use Rattle.client_rules.specs.Grants.{clipped}
use Rattle.client_rules.specs.Io.{outs}
use Rattle.client_rules.specs.Laws.{Awaiting}
use Rattle.client_rules.specs.Turns.{turned, ended, needing, closing}
use Rattle.client_rules.specs.Reads.{probes_sent, reads_on, reads_unless, reads, probes_on, probes_by, probes, is_probe_lost}
use Rattle.client_rules.specs.Replies.{performed, refusal, refused_report, refused, replied, timed_after, gather_timed, scatter_timed, timed_out}
use Rattle.client_rules.specs.Writes.{accounted, is_past_size, written, firsts, laters, scatters_on, scatters, scatters_next, gathers_on, gathers, is_too_short, without_component}
use Rattle.stripe_plan.specs.Plans.{stores}
use Rattle.stripe_plan.specs.Words.{answered}
use Rattle.world_history.specs.ClientNames.{CallOp, Held, Awaited, TimedOut, Store, Column, Moved, Commit, Close, Phase, Starts, Needs, Waits, Reads, Probes, Gathers, Scatters, Outcome, ReadOk, Turn, Goes, Ends, Forgets, Silent, Lost}
use Rattle.fence_law.specs.Log.{gives}
use Rattle.fence_law.specs.Machine.{after_all}
use Rattle.fence_law.specs.State as machine
use Rattle.fence_law.specs.State.{State}
use Rattle.fence_law.specs.State.{Event as event}
use Rattle.fence_law.specs.State.Call.{Writes as AtWrite, Reads as AtRead}
use Rattle.file_simulation.specs.ClientEvents as table
use Rattle.file_simulation.specs.EventLists.{entry_in, entry_of, write_of, where_so}
use Rattle.file_simulation.specs.Showing.{Pairs, IsPair}
use Rattle.relation_law.specs.CallsTurns.{IsWorking, WritesSome}
use Rattle.relation_law.proofs.CallsMoved.{first_sent, none_behind}
use Rattle.file_simulation.specs.Tied.{HasEntry, PhaseTied}
use Rattle.headline_law.proofs.EntriesCalls.{CallAs}
use Rattle.headline_law.proofs.EntriesEnds.{OutcomeTied}

-- ---- what is asked

-- the call isn't about to begin
abbrev pub HasBegun : Phase → Type 0
HasBegun Starts = ⊥
HasBegun p = Unit {0}

working_begun : (p : Phase) → IsWorking p → HasBegun p
working_begun Starts k = k
working_begun (Needs n) k = tt
working_begun (Waits n) k = tt
working_begun (Reads io) k = tt
working_begun (Probes io) k = tt
working_begun (Gathers io) k = tt
working_begun (Scatters io queue) k = tt

-- what became of a call: it goes on and is tied by its phase, or sends commands from where the machine's client is; or it has
-- ended, as its entry says
abbrev pub TurnTo : State → (c : ℕ) → CallOp → Pairs → Option ℕ → List Awaited → Turn → Type 0
TurnTo t c op pairs o sent (Goes p) =
    ((sent ≡ []) × PhaseTied t c pairs o p × HasBegun p) ⊎ (CallAs pairs (is_write op) o (t.call c) × IsWorking p)
TurnTo t c op pairs o sent (Ends u) = OutcomeTied t c op pairs o u
TurnTo t c op pairs o sent (Forgets u) = OutcomeTied t c op pairs o u

abbrev pub MovedTo : State → (c : ℕ) → CallOp → Pairs → Option ℕ → Moved → Type 0
MovedTo t c op pairs o m = TurnTo t c op pairs o m.sent m.turn

-- the read of an entry runs, which gives the clipped range
pub record RunsRead (t : State) (c : ℕ) (h : Held) (op : CallOp) (pairs : Pairs) (o : Option ℕ) : Type 0 where
  pub entry : ℕ
  pub at_ : t.call c ≡ AtRead entry
  pub reads : is_write op ≡ false
  pub has : HasEntry pairs entry o
  pub long : (clipped h.size (span_of op)).length ≡ gives (t.start entry)

-- the gather of a write runs
pub record RunsGather (t : State) (c : ℕ) (op : CallOp) (o : Option ℕ) : Type 0 where
  pub entry : ℕ
  pub at_ : t.call c ≡ AtRead entry
  pub writes : is_write op ≡ true
  pub none : o ≡ None

-- its write runs
pub record RunsWrite (t : State) (c : ℕ) (op : CallOp) (pairs : Pairs) (o : Option ℕ) : Type 0 where
  pub at_ : t.call c ≡ AtWrite (write_of t c)
  pub writes : is_write op ≡ true
  pub some : ((span_of op).length == 0) ≡ false
  pub has : HasEntry pairs (write_of t c) o

module _ (t : State) (c : ℕ) (h : Held) (op : CallOp) (pairs : Pairs) (o : Option ℕ) where
  abbrev To : Moved → Type 0
  To m = MovedTo t c op pairs o m

  -- ---- reads

  module _ (run : RunsRead t c h op pairs o) where
    at_entry : entry_of t c ≡ run.entry
    at_entry = ap entry_in run.at_

    entry_has : HasEntry pairs (entry_of t c) o
    entry_has = (run.has.0, run.has.1, subst (IsPair pairs run.has.0) (sym at_entry) run.has.2)

    reads_as : CallAs pairs (is_write op) o (t.call c)
    reads_as =
        subst (λ (b : Bool). CallAs pairs b o (t.call c)) (sym run.reads)
        (subst (CallAs pairs false o) (sym run.at_) run.has)

    answered_to : (bytes : List ℕ) → length bytes ≡ (clipped h.size (span_of op)).length →
        OutcomeTied t c op pairs o (ReadOk bytes)
    answered_to bytes long =
        (run.reads, entry_has, long ∙ run.long ∙ ap (λ (n : ℕ). gives (t.start n)) (sym at_entry))

    by_sent : (p : Phase) → IsWorking p → (HasEntry pairs (entry_of t c) o → PhaseTied t c pairs o p) → (sent : List Awaited) →
        ((sent ≡ []) × PhaseTied t c pairs o p × HasBegun p) ⊎ (CallAs pairs (is_write op) o (t.call c) × IsWorking p)
    by_sent p works tie [] = inl (refl, tie entry_has, working_begun p works)
    by_sent p works tie (a ∷ cs) = inr (reads_as, works)

    reads_on_to : (got : List Column) (timed : List TimedOut) (sent awaited : List Awaited) →
        To (reads_on h (clipped h.size (span_of op)) got timed sent awaited)
    unfolding reads_on answered
    reads_on_to got timed sent [] = answered_to _ (length-map-range_with_len _ _ _)
    reads_on_to got timed sent (a ∷ xs) = by_sent (Reads (record { awaited = a ∷ xs; got = got; timed = timed })) tt (λ k. k) sent

    reads_to : (got : List Column) (timed : List TimedOut) (awaited : List Awaited) →
        To (reads h (clipped h.size (span_of op)) got timed awaited)
    unfolding reads
    reads_to got timed awaited = by_lost _
      where
        by_lost : (ps : Option (List ℕ)) → To (reads_unless h (clipped h.size (span_of op)) got timed awaited ps)
        by_lost (Some ps) = tt
        by_lost None = reads_on_to got timed _ _

    module _ (none : (clipped h.size (span_of op)).length ≡ 0) where
      probes_on_to : (got : List Column) (timed : List TimedOut) (sent awaited : List Awaited) →
          To (probes_on h got timed sent awaited)
      unfolding probes_on
      probes_on_to got timed sent [] = answered_to [] (sym none)
      probes_on_to got timed sent (a ∷ xs) = by_sent (Probes (record { awaited = a ∷ xs; got = got; timed = timed })) tt
          (λ k. k) sent

      probes_to : (got : List Column) (timed : List TimedOut) (awaited : List Awaited) → To (probes h got timed awaited)
      unfolding probes
      probes_to got timed awaited = by_present _
        where
          at_place : (b : Bool) (u : Outcome) (p : ℕ) → OutcomeTied t c op pairs o u →
              To (if b then ended h u else probes_sent h got timed awaited p)
          at_place true u p z = z
          at_place false u p z = probes_on_to got timed _ _

          by_present : (k : Option ℕ) → To (probes_by h got timed awaited k)
          by_present None = tt
          by_present (Some k) = at_place (is_probe_lost h.map (outs h timed) _) (Lost _) _ tt

  -- ---- a gather

  module _ (run : RunsGather t c op o) where
    gather_as : CallAs pairs (is_write op) o (t.call c)
    gather_as =
        subst (λ (b : Bool). CallAs pairs b o (t.call c)) (sym run.writes)
        (subst (CallAs pairs true o) (sym run.at_) run.none)

    scatters_to : (got : List Column) (timed : List TimedOut) → WritesSome h op timed → To (scatters h op got timed)
    unfolding scatters scatters_on
    scatters_to got timed some =
        by_first (write_commands h (firsts [] (stores h.map (span_of op) (bytes_of op) got (outs h timed))))
        (first_sent h (stores h.map (span_of op) (bytes_of op) got (outs h timed)) (some got))
      where
        by_first : (cs : List Awaited) → Awaiting cs →
            To (scatters_on h op timed (laters [] (stores h.map (span_of op) (bytes_of op) got (outs h timed))) cs cs)
        by_first [] z = absurd z
        by_first (a ∷ cs) z = inr (gather_as, tt)

    gathers_on_to : (got : List Column) (timed : List TimedOut) (sent awaited : List Awaited) → WritesSome h op timed →
        To (gathers_on h op got timed sent awaited)
    unfolding gathers_on
    gathers_on_to got timed sent [] some = scatters_to got timed some
    gathers_on_to got timed [] (a ∷ xs) some = inl (refl, run.none, tt)
    gathers_on_to got timed (b ∷ bs) (a ∷ xs) some = inr (gather_as, tt)

    gathers_to : (got : List Column) (timed : List TimedOut) (awaited : List Awaited) → WritesSome h op timed →
        To (gathers h op got timed awaited)
    unfolding gathers
    gathers_to got timed awaited some = gathers_on_to got timed _ _ some

  -- ---- a write

  module _ (run : RunsWrite t c op pairs o) where
    write_as : CallAs pairs (is_write op) o (t.call c)
    write_as = by (is_write op) (t.call c) run.at_
      where
        by : (b : Bool) (n : machine.Call) → n ≡ AtWrite (write_of t c) → CallAs pairs b o n
        by b n e = subst (CallAs pairs b o) (sym e) run.has

    pub accounted_to : (timed : List TimedOut) (sent : List Awaited) → sent ≡ [] →
        TurnTo t c op pairs o sent (accounted op timed)
    accounted_to [] sent none = inr (run.some, run.writes, run.has)
    accounted_to (u ∷ us) sent none = inl (none, run.has, tt)

    written_to : (timed : List TimedOut) (sent : List Awaited) → sent ≡ [] → TurnTo t c op pairs o sent (written h op timed)
    unfolding written
    written_to timed sent none = by (is_past_size h op)
      where
        by : (b : Bool) → TurnTo t c op pairs o sent (if b then needing (Commit timed) else accounted op timed)
        by true = inl (none, run.has, tt)
        by false = accounted_to timed sent none

    scatters_on_to : (timed : List TimedOut) (queue : List Store) (sent awaited : List Awaited) → (awaited ≡ [] → sent ≡ []) →
        To (scatters_on h op timed queue sent awaited)
    unfolding scatters_on
    scatters_on_to timed queue sent [] none = written_to timed sent (none refl)
    scatters_on_to timed queue [] (a ∷ xs) none = inl (refl, run.has, tt)
    scatters_on_to timed queue (b ∷ bs) (a ∷ xs) none = inr (write_as, tt)

    scatters_next_to : (timed : List TimedOut) (queue : List Store) (k : ℕ) (awaited : List Awaited) →
        To (scatters_next h op timed queue k awaited)
    unfolding scatters_next
    scatters_next_to timed queue k awaited = scatters_on_to timed _ _ _ (λ e. none_behind awaited _ e)

-- ---- a reply, and a timeout

-- by the phase of a call that works
abbrev pub Runs : State → (c : ℕ) → Held → CallOp → Pairs → Option ℕ → Phase → Type 0
Runs t c h op pairs o (Reads io) = RunsRead t c h op pairs o
Runs t c h op pairs o (Probes io) = RunsRead t c h op pairs o × ((clipped h.size (span_of op)).length ≡ 0)
Runs t c h op pairs o (Gathers io) = RunsGather t c op o
Runs t c h op pairs o (Scatters io queue) = RunsWrite t c op pairs o
Runs t c h op pairs o p = ⊥

-- whatever is got, a gather that is over sends something
abbrev pub GathersSome : Held → CallOp → Phase → Type 0
GathersSome h op (Gathers io) = WritesSome h op io.timed
GathersSome h op p = Unit {0}

-- and where a component timed out too
abbrev pub TimedSome : Held → CallOp → Phase → Awaited → List Awaited → Type 0
TimedSome h op (Gathers io) a xs =
    is_too_short h op (timed_after io.timed a xs) ≡ false → WritesSome h op (timed_after io.timed a xs)
TimedSome h op p a xs = Unit {0}

module _ (t : State) (c : ℕ) (h : Held) (op : CallOp) (pairs : Pairs) (o : Option ℕ) where
  -- the machine behind a performed command, whose client is where it was
  performed_to : (p : Phase) → Runs t c h op pairs o p → GathersSome h op p → (a : Awaited) (r : Reply) →
      MovedTo (after_all t (table.performed t c a p)) c op pairs o (performed h op p a r)
  performed_to (Reads io) run some a r = reads_on_to t c h op pairs o run _ _ _ _
  performed_to (Probes io) run some a r = probes_on_to t c h op pairs o run.0 run.1 _ _ _ _
  performed_to (Gathers io) run some a r = gathers_on_to t c h op pairs o run _ _ _ _ some
  performed_to (Scatters io queue) run some a r =
      scatters_next_to (after_all t (table.performed t c a (Scatters io queue))) c h op pairs o (record {
        at_ = run.at_;
        writes = run.writes;
        some = run.some;
        has = run.has;
      }) _ _ _ _
  performed_to Starts run some a r = absurd run
  performed_to (Needs n) run some a r = absurd run
  performed_to (Waits n) run some a r = absurd run

  refused_to : (u : State) (p : Phase) (a : Awaited) (r : Reply) → MovedTo u c op pairs o (refused h p a r)
  unfolding refused
  refused_to u p a r = by (r.verdict == OTHER_TAG)
    where
      by : (b : Bool) → MovedTo u c op pairs o
          (if b then turned h (Forgets (refusal a r)) else turned h (closing (refusal a r) (refused_report h p a r)))
      by true = tt
      by false = inl (refl, tt, tt)

  pub replied_to : (p : Phase) → Runs t c h op pairs o p → GathersSome h op p → (a : Awaited) (r : Reply) →
      MovedTo (after_all t (table.replied t c a r p)) c op pairs o (replied h op p a r)
  unfolding replied
  replied_to p run some a r = by (r.verdict == PERFORMED)
    where
      by : (b : Bool) → MovedTo
          (after_all t (if b then table.performed t c a p
          else table.refused t c p ++ where_so (r.verdict == OTHER_TAG) (event.Forgets c ∷ []))) c op pairs o
          (if b then performed h op p a r else refused h p a r)
      by true = performed_to p run some a r
      by false =
          refused_to (after_all t (table.refused t c p ++ where_so (r.verdict == OTHER_TAG) (event.Forgets c ∷ []))) p a r

  -- ---- a timeout

  -- a timeout that ends the call, or gives it up, leaves nothing to be tied
  turned_to : (sent : List Awaited) (turn : Turn) → TurnTo t c op pairs o sent turn →
      TurnTo (after_all t (table.turned t c turn)) c op pairs o sent turn
  turned_to sent (Ends (Silent k)) z = tt
  turned_to sent (Ends (Lost ps)) z = tt
  turned_to sent (Goes (Needs (Close u (e ∷ es)))) (inl z) = inl (z.0, tt, tt)
  turned_to sent (Goes (Needs (Close u (e ∷ es)))) (inr z) = absurd z.1
  turned_to sent turn z = z

  timed_here : (p : Phase) → Runs t c h op pairs o p → (k : ℕ) (a : Awaited) (xs : List Awaited) → TimedSome h op p a xs →
      MovedTo t c op pairs o (timed_out h op p k a xs)
  unfolding gather_timed scatter_timed
  timed_here (Reads io) run k a xs some = reads_to t c h op pairs o run _ _ _
  timed_here (Probes io) run k a xs some = probes_to t c h op pairs o run.0 run.1 _ _ _
  timed_here (Gathers io) run k a xs some = by (is_too_short h op (timed_after io.timed a xs)) some
    where
      by : (b : Bool) → (b ≡ false → WritesSome h op (timed_after io.timed a xs)) → MovedTo t c op pairs o
          (if b then ended h (Silent k) else gathers h op io.got (timed_after io.timed a xs) (not_of k io.awaited))
      by true some = tt
      by false some = gathers_to t c h op pairs o run _ _ _ (some refl)
  timed_here (Scatters io queue) run k a xs some = by (is_too_short h op (timed_after io.timed a xs))
    where
      by : (b : Bool) → MovedTo t c op pairs o
          (if b then turned h (closing (Silent k) (report_of h (timed_after io.timed a xs)))
          else scatters_on h op (timed_after io.timed a xs) (without_component k queue) [] (not_of k io.awaited))
      by true = inl (refl, tt, tt)
      by false = scatters_on_to t c h op pairs o run _ _ _ _ (λ e. refl)
  timed_here Starts run k a xs some = absurd run
  timed_here (Needs n) run k a xs some = absurd run
  timed_here (Waits n) run k a xs some = absurd run

  pub timed_to : (p : Phase) → Runs t c h op pairs o p → (k : ℕ) (a : Awaited) (xs : List Awaited) → TimedSome h op p a xs →
      MovedTo (after_all t (table.turned t c (timed_out h op p k a xs).turn)) c op pairs o (timed_out h op p k a xs)
  timed_to p run k a xs some =
      turned_to (timed_out h op p k a xs).sent (timed_out h op p k a xs).turn (timed_here p run k a xs some)
