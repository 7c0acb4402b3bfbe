-- A call sends few commands, from its begin on and at each step.
use Rattle.std.proofs.Common.{◌≡◌, ◌≤◌, ℕ, ◌+◌, ◌*◌, ◌/◌, ◌==◌, max, List, [], ◌∷◌, ◌++◌, length, Option, Some, None, refl, ap, ◌∙◌, inl, inr, arith}
use Rattle.std.proofs.lemmas.Bool.{cases_Bool}
use Rattle.std.proofs.lemmas.List.{length-append, append-nil}
use Rattle.std.proofs.Math.Nat.{mul-le-mul_left}
use Rattle.data_map.specs.Check.{IsChecked}
use Rattle.data_map.specs.Striping.{replicas, parities}
use Rattle.stripe_plan.specs.declared.plan.Aim.TheVariants.{Reads as ToRead, Gathers as ToGather}
use Rattle.stripe_plan.specs.Touched.{stripes}
use Rattle.stripe_plan.specs.Lost.{unreadable}
use Rattle.stripe_plan.specs.Plans.{stores}
use Rattle.server_rules.specs.Laws.{In}
use Rattle.client_rules.specs.declared.limits.TheConstants.{PERFORMED, OTHER_TAG}
use Rattle.load_law.specs.ClientState.{CallOp, Held, Awaited, TimedOut, Phase, Starts, Needs, Waits, Reads, Probes, Gathers, Scatters, Turn, Goes, Ends, Forgets, Moved, Reply, Ask, Column, Span, Store, Stretch}
use Rattle.client_rules.specs.Turns.{turned}
use Rattle.client_rules.specs.Calls.{span_of, is_write, bytes_of}
use Rattle.client_rules.specs.Grants.{clipped}
use Rattle.client_rules.specs.Commands.{nonce_at, credential_of, read_commands, write_commands, counted, others, of_component, not_of}
use Rattle.client_rules.specs.Io.{outs, got_of, had, had_positions, awaited_in}
use Rattle.client_rules.specs.Reads.{reads_on, reads_due, reads_unless, reads, first_present, probes_on, probes_due, is_probe_lost, probes_by, probes}
use Rattle.client_rules.specs.Writes.{accounted, is_past_size, written, firsts, laters, scatters_on, scatters, next_to, without_next, scatters_next, without_component, gathers_on, gathers_due, gathers, is_too_short}
use Rattle.client_rules.specs.Replies.{refused, performed, replied, timed_after, gather_timed, scatter_timed, timed_out}
use Rattle.client_rules.specs.Going.{begins}
use Rattle.load_law.specs.Load.{stripes_reached, Deals, AtBegin, AtReply, AtTimeout, EachCallSendsFew}
use Rattle.load_law.proofs.Lists.{by_test}
use Rattle.load_law.proofs.Asking.{Place, AreAsked, AreNew, none_new, none_asked, asked_few, asked_sent, asked_replied, asked_timed, stays_out, is_out_now}
use Rattle.load_law.proofs.Plans.{places, few_places, IsEdged, due_new}
use Rattle.load_law.proofs.Probes.{probe_places, few_probes, IsAny, probes_new}
use Rattle.load_law.proofs.Writes.{few_stores, writes_long, firsts_laters, next_rest, without_fewer}

-- ---- under a grant, with so many stripes

-- so many commands at most
abbrev pub most : Held → (n : ℕ) → ℕ
most h n = 6 * h.map.comps * n

-- READs of a range, as far as they went
abbrev pub AreReads : Held → Span → (n : ℕ) → List Column → List TimedOut → (awaited sent : List Awaited) → Type 0
AreReads h r n got timed awaited sent =
    AreAsked (places h.map r (stripes h.map r)) (IsEdged h.map r) (outs h timed) (nonce_at h h.count) got awaited sent
    × (length (stripes h.map r) ≤ n)

-- of no byte
abbrev pub AreProbes : Held → (n : ℕ) → List Column → List TimedOut → (awaited sent : List Awaited) → Type 0
AreProbes h n got timed awaited sent =
    AreAsked (probe_places h) IsAny (outs h timed) (nonce_at h h.count) got awaited sent × (1 ≤ n)

-- where a call's dealings with the drives stand
abbrev pub PhaseStands : Held → CallOp → (n : ℕ) → Phase → (sent : List Awaited) → Type 0
PhaseStands h op n (Reads io) sent = AreReads h (clipped h.size (span_of op)) n io.got io.timed io.awaited sent
PhaseStands h op n (Probes io) sent = AreProbes h n io.got io.timed io.awaited sent
PhaseStands h op n (Gathers io) sent = AreReads h (span_of op) n io.got io.timed io.awaited sent
PhaseStands h op n (Scatters io queue) sent = length sent + length queue ≤ most h n
PhaseStands h op n Starts sent = length sent ≤ most h n
PhaseStands h op n (Needs need) sent = length sent ≤ most h n
PhaseStands h op n (Waits need) sent = length sent ≤ most h n

abbrev pub TurnStands : Held → CallOp → (n : ℕ) → Turn → (sent : List Awaited) → Type 0
TurnStands h op n (Goes p) sent = PhaseStands h op n p sent
TurnStands h op n (Ends o) sent = length sent ≤ most h n
TurnStands h op n (Forgets o) sent = length sent ≤ most h n

-- a grant whose map can be used, and which lists each component
pub record IsGrant (h : Held) : Type 0 where
  pub checked : IsChecked h.map
  pub complete : length h.components ≡ h.map.comps

-- behind a move, where so much was sent before it: the grant is as wide as it was, and few commands were sent
pub record MoveStands (h : Held) (op : CallOp) (n : ℕ) (m : Moved) (before : List Awaited) : Type 0 where
  pub grant : IsGrant m.held
  pub same : m.held.map.comps ≡ h.map.comps
  pub turn : TurnStands m.held op n m.turn (before ++ m.sent)

-- READs are at most four for each component and each stripe
reads_few : (h : Held) (r : Span) (n : ℕ) (got : List Column) (timed : List TimedOut) (awaited sent : List Awaited)
    → IsGrant h → AreReads h r n got timed awaited sent → length sent ≤ 4 * h.map.comps * n
reads_few h r n got timed awaited sent g x =
    omega (
      arith,
      asked_few _ _ _ _ got awaited sent x.0,
      few_places h.map r (stripes h.map r) g.checked,
      mul-le-mul_left (4 * h.map.comps) x.1,
    )

probes_few : (h : Held) (n : ℕ) (got : List Column) (timed : List TimedOut) (awaited sent : List Awaited)
    → IsGrant h → AreProbes h n got timed awaited sent → length sent ≤ most h n
probes_few h n got timed awaited sent g x =
    omega (arith, asked_few _ _ _ _ got awaited sent x.0, few_probes h g.checked, mul-le-mul_left h.map.comps x.1)

phase_few : (h : Held) (op : CallOp) (n : ℕ) (p : Phase) (sent : List Awaited) → IsGrant h → PhaseStands h op n p sent
    → length sent ≤ most h n
phase_few h op n (Reads io) sent g x = omega (arith, reads_few h _ n io.got io.timed io.awaited sent g x)
phase_few h op n (Probes io) sent g x = probes_few h n io.got io.timed io.awaited sent g x
phase_few h op n (Gathers io) sent g x = omega (arith, reads_few h _ n io.got io.timed io.awaited sent g x)
phase_few h op n (Scatters io queue) sent g x = omega (arith, x)
phase_few h op n Starts sent g x = x
phase_few h op n (Needs need) sent g x = x
phase_few h op n (Waits need) sent g x = x

turn_few : (h : Held) (op : CallOp) (n : ℕ) (t : Turn) (sent : List Awaited) → IsGrant h → TurnStands h op n t sent
    → length sent ≤ most h n
turn_few h op n (Goes p) sent g x = phase_few h op n p sent g x
turn_few h op n (Ends o) sent g x = x
turn_few h op n (Forgets o) sent g x = x

-- nothing more is sent
none_more : (sent : List Awaited) (top : ℕ) → length sent ≤ top → length (sent ++ []) ≤ top
none_more sent top l = let none : List Awaited = [] in omega (arith, l, length-append sent none)

still : (h : Held) (op : CallOp) (n : ℕ) (t : Turn) (before : List Awaited) → IsGrant h
    → TurnStands h op n t (before ++ []) → MoveStands h op n (turned h t) before
still h op n t before g x = record { grant = g; same = refl; turn = x }

-- ---- reads

module _ (h : Held) (op : CallOp) (n : ℕ) (g : IsGrant h) where
  abbrev range : Span
  range = clipped h.size (span_of op)

  -- so much was sent before, and these now
  record IsSent (top : ℕ) (before new sent : List Awaited) : Type 0 where
    all : before ++ new ≡ sent
    upto : top ≡ nonce_at h (h.count + length new)

  none_sent : (before : List Awaited) → IsSent (nonce_at h h.count) before [] before
  none_sent before = record { all = append-nil before; upto = omega arith }

  new_sent : (before : List Awaited) (new : List Awaited) → IsSent (nonce_at h (h.count + length new)) before new (before ++ new)
  new_sent before new = record { all = refl; upto = refl }

  reads_go : (got : List Column) (timed : List TimedOut) (new awaited before sent : List Awaited) (top : ℕ)
      → IsSent top before new sent → length (stripes h.map range) ≤ n
      → AreAsked (places h.map range (stripes h.map range)) (IsEdged h.map range) (outs h timed) top got awaited sent
      → MoveStands h op n (reads_on h range got timed new awaited) before
  unfolding reads_on outs
  reads_go got timed new [] before sent top s few x = record {
    grant = record { checked = g.checked; complete = g.complete };
    same = refl;
    turn = rw s.all (omega (
      arith,
      asked_few _ _ _ _ got [] sent x,
      few_places h.map range (stripes h.map range) g.checked,
      mul-le-mul_left (4 * h.map.comps) few,
    ));
  }
  reads_go got timed new (a ∷ xs) before sent top s few x = record {
    grant = record { checked = g.checked; complete = g.complete };
    same = refl;
    turn = rw s.all (rw s.upto at x, few);
  }

  reads_again : (got : List Column) (timed : List TimedOut) (awaited sent : List Awaited)
      → AreReads h range n got timed awaited sent → MoveStands h op n (reads h range got timed awaited) sent
  unfolding reads
  reads_again got timed awaited sent x = by (unreadable h.map range (outs h timed) (stripes h.map range))
    where
      by : (o : Option (List ℕ)) → MoveStands h op n (reads_unless h range got timed awaited o) sent
      by (Some ps) =
          still h op n _ sent g
          (none_more sent (most h n) (omega (arith, reads_few h range n got timed awaited sent g x)))
      by None =
          let due : List Ask = reads_due h range got timed awaited in
          let new : List Awaited = read_commands h due in
          reads_go got timed new (awaited ++ new) sent (sent ++ new) _ (new_sent sent new) x.1
          (asked_sent _ _ _ h got awaited sent due x.0
          (due_new ToRead h.map range (outs h timed) (had got awaited) g.checked (λ s p is. refl) x.0.known))

  -- ---- of no byte

  probes_go : (got : List Column) (timed : List TimedOut) (new awaited before sent : List Awaited) (top : ℕ)
      → IsSent top before new sent → 1 ≤ n
      → AreAsked (probe_places h) IsAny (outs h timed) top got awaited sent
      → MoveStands h op n (probes_on h got timed new awaited) before
  unfolding probes_on outs credential_of
  probes_go got timed new [] before sent top s some x = record {
    grant = record { checked = g.checked; complete = g.complete };
    same = refl;
    turn = rw s.all (omega (arith, asked_few _ _ _ _ got [] sent x, few_probes h g.checked, mul-le-mul_left h.map.comps some));
  }
  probes_go got timed new (a ∷ xs) before sent top s some x = record {
    grant = record { checked = g.checked; complete = g.complete };
    same = refl;
    turn = rw s.all (rw s.upto at x, some);
  }

  probes_again : (got : List Column) (timed : List TimedOut) (awaited sent : List Awaited)
      → AreProbes h n got timed awaited sent → MoveStands h op n (probes h got timed awaited) sent
  unfolding probes
  probes_again got timed awaited sent x = by (first_present h.components 0) refl
    where
      few : length (sent ++ []) ≤ most h n
      few = none_more sent (most h n) (probes_few h n got timed awaited sent g x)

      by : (o : Option ℕ) → first_present h.components 0 ≡ o → MoveStands h op n (probes_by h got timed awaited o) sent
      by None is = still h op n _ sent g few
      by (Some k) is =
          let p : ℕ = k / replicas h.map in
          let due : List Ask = probes_due h (outs h timed) (had_positions got awaited) p in
          let new : List Awaited = read_commands h due in
          by_test (λ (m : Moved). MoveStands h op n m sent) (is_probe_lost h.map (outs h timed) p) _ _
          (still h op n _ sent g few)
          (probes_go got timed new (awaited ++ new) sent (sent ++ new) _ (new_sent sent new) x.1
          (asked_sent _ _ _ h got awaited sent due x.0
          (probes_new h (outs h timed) got awaited k g.checked g.complete is)))

  -- ---- writes

  written_stands : (timed : List TimedOut) (new sent : List Awaited) → length sent ≤ most h n
      → TurnStands (counted h new) op n (written h op timed) sent
  unfolding written
  written_stands timed new sent l =
      by_test (λ (t : Turn). TurnStands (counted h new) op n t sent) (is_past_size h op) _ _ l (by timed)
    where
      by : (ts : List TimedOut) → TurnStands (counted h new) op n (accounted op ts) sent
      by [] = l
      by (t ∷ ts) = l

  scatters_go : (timed : List TimedOut) (queue : List Store) (new awaited before : List Awaited)
      → length (before ++ new) + length queue ≤ most h n
      → MoveStands h op n (scatters_on h op timed queue new awaited) before
  unfolding scatters_on
  scatters_go timed queue new [] before l = record {
    grant = record { checked = g.checked; complete = g.complete };
    same = refl;
    turn = written_stands timed new (before ++ new) (omega (arith, l));
  }
  scatters_go timed queue new (a ∷ xs) before l = record {
    grant = record { checked = g.checked; complete = g.complete };
    same = refl;
    turn = l;
  }

  scatters_begin : (got : List Column) (timed : List TimedOut) (before : List Awaited)
      → length (stripes h.map (span_of op)) ≤ n → length before ≤ 4 * h.map.comps * n
      → MoveStands h op n (scatters h op got timed) before
  unfolding scatters
  scatters_begin got timed before few l =
      let all : List Store = stores h.map (span_of op) (bytes_of op) got (outs h timed) in
      let new : List Awaited = write_commands h (firsts [] all) in
      scatters_go timed (laters [] all) new new before
      (omega (
        arith,
        l,
        length-append before new,
        writes_long h (firsts [] all),
        firsts_laters [] all,
        few_stores h.map (span_of op) (bytes_of op) got (outs h timed) g.checked,
        mul-le-mul_left (2 * h.map.comps) few,
      ))

  gathers_go : (got : List Column) (timed : List TimedOut) (new awaited before sent : List Awaited) (top : ℕ)
      → IsSent top before new sent → length (stripes h.map (span_of op)) ≤ n
      → AreAsked (places h.map (span_of op) (stripes h.map (span_of op))) (IsEdged h.map (span_of op)) (outs h timed) top got
      awaited sent
      → MoveStands h op n (gathers_on h op got timed new awaited) before
  unfolding gathers_on outs
  gathers_go got timed new [] before sent top s few x =
      let all : length (before ++ new) ≡ length sent = ap (λ (xs : List Awaited). length xs) s.all in
      scatters_begin got timed before few (omega (
        arith,
        all,
        length-append before new,
        asked_few _ _ _ _ got [] sent x,
        few_places h.map (span_of op) (stripes h.map (span_of op)) g.checked,
        mul-le-mul_left (4 * h.map.comps) few,
      ))
  gathers_go got timed new (a ∷ xs) before sent top s few x = record {
    grant = record { checked = g.checked; complete = g.complete };
    same = refl;
    turn = rw s.all (rw s.upto at x, few);
  }

  gathers_again : (got : List Column) (timed : List TimedOut) (awaited sent : List Awaited)
      → AreReads h (span_of op) n got timed awaited sent → MoveStands h op n (gathers h op got timed awaited) sent
  unfolding gathers gathers_due
  gathers_again got timed awaited sent x =
      let r : Span = span_of op in
      let due : List Ask = gathers_due h (span_of op) got timed awaited in
      let new : List Awaited = read_commands h due in
      gathers_go got timed new (awaited ++ new) sent (sent ++ new) _ (new_sent sent new) x.1
      (asked_sent _ _ _ h got awaited sent due x.0
      (by_test (AreNew (places h.map r (stripes h.map r)) (IsEdged h.map r) (outs h timed) (had got awaited))
      (parities h.map == 0) _ _ (none_new _ _ _ _)
      (due_new ToGather h.map r (outs h timed) (had got awaited) g.checked (λ s p is. refl) x.0.known)))

  -- a component is sent its next write
  next_few : (timed : List TimedOut) (queue : List Store) (k : ℕ) (awaited sent : List Awaited)
      → length sent + length queue ≤ most h n → MoveStands h op n (scatters_next h op timed queue k awaited) sent
  unfolding scatters_next
  next_few timed queue k awaited sent l =
      let new : List Awaited = write_commands h (next_to k queue) in
      scatters_go timed (without_next k queue) new (awaited ++ new) sent
      (omega (arith, l, length-append sent new, writes_long h (next_to k queue), next_rest k queue))

  -- ---- its begin, and each step

  begins_few : n ≡ stripes_reached h op → MoveStands h op n (begins h op) []
  unfolding begins
  begins_few e = elim (cases_Bool (is_write op)) [
    | inl w ↦ rw w (let touched : n ≡ max 1 (length (stripes h.map (span_of op))) = rw w at e in
        gathers_again [] [] [] [] (none_asked _ _ _ _, omega (arith, touched)))
    | inr f ↦ rw f (let touched : n ≡ max 1 (length (stripes h.map range)) = rw f at e in
        by_test (λ (m : Moved). MoveStands h op n m []) (range.length == 0) _ _
        (probes_again [] [] [] [] (none_asked _ _ _ _, omega (arith, touched)))
        (reads_again [] [] [] [] (none_asked _ _ _ _, omega (arith, touched))))
  ]

  performed_few : (p : Phase) (a : Awaited) (r : Reply) (sent : List Awaited) → In a (awaited_in p)
      → PhaseStands h op n p sent → MoveStands h op n (performed h op p a r) sent
  performed_few (Reads io) a r sent i x =
      reads_go (io.got ++ got_of a r ∷ []) io.timed [] _ sent sent _ (none_sent sent) x.1
      (asked_replied _ _ _ _ io.got io.awaited sent a r i x.0)
  performed_few (Probes io) a r sent i x =
      probes_go (io.got ++ got_of a r ∷ []) io.timed [] _ sent sent _ (none_sent sent) x.1
      (asked_replied _ _ _ _ io.got io.awaited sent a r i x.0)
  performed_few (Gathers io) a r sent i x =
      gathers_go (io.got ++ got_of a r ∷ []) io.timed [] _ sent sent _ (none_sent sent) x.1
      (asked_replied _ _ _ _ io.got io.awaited sent a r i x.0)
  performed_few (Scatters io queue) a r sent i x =
      next_few io.timed queue a.ask.component (others io.awaited a.command.nonce) sent x
  performed_few Starts a r sent i x = absurd i
  performed_few (Needs need) a r sent i x = absurd i
  performed_few (Waits need) a r sent i x = absurd i

  replied_few : (p : Phase) (a : Awaited) (r : Reply) (sent : List Awaited)
      → In a (awaited_in p) → PhaseStands h op n p sent → MoveStands h op n (replied h op p a r) sent
  unfolding replied refused
  replied_few p a r sent i x =
      let few : length (sent ++ []) ≤ most h n = none_more sent (most h n) (phase_few h op n p sent g x) in
      by_test (λ (m : Moved). MoveStands h op n m sent) (r.verdict == PERFORMED) _ _ (performed_few p a r sent i x)
      (by_test (λ (m : Moved). MoveStands h op n m sent) (r.verdict == OTHER_TAG) _ _ (still h op n _ sent g few)
      (still h op n _ sent g few))

  -- a component is out from now on
  timed_asked : (all : List Place) (Known : Stretch → Type 0) (got : List Column) (timed : List TimedOut)
      (awaited sent : List Awaited) (k : ℕ) (a : Awaited) (xs : List Awaited) → of_component k awaited ≡ a ∷ xs
      → AreAsked all Known (outs h timed) (nonce_at h h.count) got awaited sent
      → AreAsked all Known (outs h (timed_after timed a xs)) (nonce_at h h.count) got (not_of k awaited) sent
  timed_asked all Known got timed awaited sent k a xs e x =
      asked_timed all Known (outs h timed) (outs h (timed_after timed a xs)) (nonce_at h h.count) k got awaited sent
      (stays_out h timed a xs) (is_out_now h timed k awaited a xs e) x

  timed_few : (p : Phase) (k : ℕ) (a : Awaited) (xs : List Awaited) (sent : List Awaited)
      → of_component k (awaited_in p) ≡ a ∷ xs → PhaseStands h op n p sent
      → MoveStands h op n (timed_out h op p k a xs) sent
  unfolding gather_timed scatter_timed
  timed_few (Reads io) k a xs sent e x =
      reads_again io.got (timed_after io.timed a xs) (not_of k io.awaited) sent
      (timed_asked _ _ io.got io.timed io.awaited sent k a xs e x.0, x.1)
  timed_few (Probes io) k a xs sent e x =
      probes_again io.got (timed_after io.timed a xs) (not_of k io.awaited) sent
      (timed_asked _ _ io.got io.timed io.awaited sent k a xs e x.0, x.1)
  timed_few (Gathers io) k a xs sent e x =
      by_test (λ (m : Moved). MoveStands h op n m sent) (is_too_short h op (timed_after io.timed a xs)) _ _
      (still h op n _ sent g (none_more sent (most h n) (phase_few h op n (Gathers io) sent g x)))
      (gathers_again io.got (timed_after io.timed a xs) (not_of k io.awaited) sent
      (timed_asked _ _ io.got io.timed io.awaited sent k a xs e x.0, x.1))
  timed_few (Scatters io queue) k a xs sent e x =
      by_test (λ (m : Moved). MoveStands h op n m sent) (is_too_short h op (timed_after io.timed a xs)) _ _
      (still h op n _ sent g (none_more sent (most h n) (phase_few h op n (Scatters io queue) sent g x)))
      (scatters_go (timed_after io.timed a xs) (without_component k queue) [] (not_of k io.awaited) sent
      (omega (arith, x, without_fewer k queue, none_more sent (length sent) (omega arith))))
  timed_few Starts k a xs sent e x = still h op n _ sent g (none_more sent (most h n) x)
  timed_few (Needs need) k a xs sent e x = still h op n _ sent g (none_more sent (most h n) x)
  timed_few (Waits need) k a xs sent e x = still h op n _ sent g (none_more sent (most h n) x)

-- ---- the law

-- all of a call's dealings
pub deals_stand : (h : Held) (op : CallOp) → IsGrant h → (m : Moved) (sent : List Awaited) → Deals h op m sent
    → IsGrant m.held × (m.held.map.comps ≡ h.map.comps) × TurnStands m.held op (stripes_reached h op) m.turn sent
deals_stand h op g m sent AtBegin =
    let b = begins_few h op (stripes_reached h op) g refl in
    (b.grant, b.same, b.turn)
deals_stand h op g m sent (AtReply v before p a r d e i) =
    let w = deals_stand h op g v before d in
    let x : PhaseStands v.held op (stripes_reached h op) p before = rw e at w.2 in
    let b = replied_few v.held op (stripes_reached h op) w.0 p a r before i x in
    (b.grant, b.same ∙ w.1, b.turn)
deals_stand h op g m sent (AtTimeout v before p k a xs d e t) =
    let w = deals_stand h op g v before d in
    let x : PhaseStands v.held op (stripes_reached h op) p before = rw e at w.2 in
    let b = timed_few v.held op (stripes_reached h op) w.0 p k a xs before t x in
    (b.grant, b.same ∙ w.1, b.turn)

pub each_call_sends_few : EachCallSendsFew
each_call_sends_few h op ch complete m sent d =
    let s = deals_stand h op (record { checked = ch; complete = complete }) m sent d in
    let few = turn_few m.held op (stripes_reached h op) m.turn sent s.0 s.2 in
    rw s.1 at few
