-- How a call goes on with the drives where it can leave out what is lost.
use Rattle.std.proofs.Common.{◌≡◌, ◌≢◌, ℕ, ◌+◌, ◌/◌, ◌==◌, Bool, true, false, List, [], ◌∷◌, ◌++◌, Option, None, length, map, is_some, refl, sym, ap, subst, ◌∙◌, inl, inr, arith, if◌then◌else◌, true≢false}
use Rattle.std.specs.List.{AllByRecursion}
use Rattle.std.proofs.lemmas.Bool.{cases_Bool, eq-eqb}
use Rattle.data_map.specs.Striping.{replicas}
use Rattle.stripe_plan.specs.declared.plan.Aim.TheVariants as aim
use Rattle.stripe_plan.specs.declared.plan.Column.{Column}
use Rattle.stripe_plan.specs.declared.plan.Span.{Span}
use Rattle.stripe_plan.specs.declared.plan.Store.{Store}
use Rattle.stripe_plan.specs.Lost.{among, unreadable}
use Rattle.stripe_plan.specs.Plans.{stores}
use Rattle.stripe_plan.specs.Touched.{stripes}
use Rattle.stripe_plan.specs.Words.{answered}
use Rattle.client_rules.specs.declared.limits.TheConstants.{PERFORMED}
use Rattle.client_rules.specs.Calls.{span_of, is_write, bytes_of}
use Rattle.client_rules.specs.Commands.{counted, carrying_none, read_commands, write_commands, others, of_component, not_of}
use Rattle.client_rules.specs.Going.{begins}
use Rattle.client_rules.specs.Grants.{clipped}
use Rattle.client_rules.specs.Io.{outs, had, had_positions, awaited_in}
use Rattle.client_rules.specs.Laws.{nonce_of}
use Rattle.client_rules.specs.Reads.{reads_on, reads_due, reads_unless, reads, probes_on, probes_due, is_probe_lost, probes_by, probes}
use Rattle.client_rules.specs.Replies.{performed, replied, timed_after, gather_timed, scatter_timed, timed_out}
use Rattle.client_rules.specs.Turns.{turned, needing}
use Rattle.client_rules.specs.Writes.{accounted, is_past_size, written, firsts, laters, scatters_on, scatters, next_to, without_next, scatters_next, without_component, gathers_on, gathers_due, gathers, is_too_short}
use Rattle.exchange_law.specs.ClientNonces.{AllDiffer}
use Rattle.exchange_law.proofs.PlaceLists.{all_wider}
use Rattle.exchange_law.proofs.PlaceSending.{firsts_fit, laters_fit, next_fit, queue_fit}
use Rattle.world_history.specs.ClientNames.{CallOp, Write, Read, Held, Awaited, TimedOut, Commit, Phase, Starts, Needs, Waits, Reads, Probes, Gathers, Scatters, WriteOk, ReadOk, Turn, Moved, Reply}
use Rattle.ready_law.specs.Enough.{IsEnough}
use Rattle.ready_law.specs.Reacting.{touched_under, CanProbe, IsGood, MayAsk, IsAwaitedWell, AreTimedWell, WorksWell, EndsWell, TurnsWell, WorksOn, IsDone, Commits, Reports, BeginsWell, RepliesWell, TimesOutWell}
use Rattle.ready_law.proofs.ReactingAsks.{reads_may, gathers_may, stores_may, probes_may}
use Rattle.ready_law.proofs.ReactingTimed.{enough_left}
use Rattle.ready_law.proofs.ReactingSends.{may_still, timed_still, Sends, sends_more, sends_none, carrying_may, others_well, others_differ, rest_differ, rest_well, queue_rest, timed_well}

-- ---- nothing is awaited any more

none_left : (xs ys : List Awaited) → [] ≡ xs ++ ys → (xs ≡ []) × (ys ≡ [])
none_left [] ys e = (refl, sym e)
none_left (x ∷ xs) ys e = absurd (cc e)

read_done : (op : CallOp) (bytes : List ℕ) → is_write op ≡ false → EndsWell op (ReadOk bytes)
read_done (Read file offset count) bytes e = tt
read_done (Write file offset bs) bytes e = absurd (cc e)

write_done : (op : CallOp) → is_write op ≡ true → EndsWell op (WriteOk (span_of op).length)
write_done (Write file offset bytes) e = refl
write_done (Read file offset count) e = absurd (cc e)

some_left : (a : Awaited) (xs : List Awaited) → a ∷ xs ≢ []
some_left a xs e = cc e

-- where nothing was sent, the grant is as it was
nothing_sent : (h : Held) (sent : List Awaited) (t : Turn) → sent ≡ []
    → record { held = counted h sent; turn = t; sent = sent } ≡ turned h t
nothing_sent h sent t none =
    let same : h.count + 0 ≡ h.count = omega arith in
    ap (λ (xs : List Awaited). record { held = counted h xs; turn = t; sent = xs }) none
    ∙ ap (λ (n : ℕ). turned (record h { count = n }) t) same

module _ (h : Held) (op : CallOp) (lost : List ℕ) (good : IsGood h op lost) where
  -- ---- reads

  abbrev range : Span
  range = clipped h.size (span_of op)

  reads_on_well : (got : List Column) (timed : List TimedOut) (rest sent awaited : List Awaited) → is_write op ≡ false
      → (range.length == 0) ≡ false → AreTimedWell h op lost timed → Sends h op timed false rest sent awaited
      → TurnsWell h op lost rest (reads_on h range got timed sent awaited)
  unfolding reads_on
  reads_on_well got timed rest sent [] reads some well s =
      let none = none_left rest sent s.is in
      IsDone (ReadOk (answered h.map range got (outs h timed))) (nothing_sent h sent _ none.1) none.0
      (read_done op (answered h.map range got (outs h timed)) reads) (λ writes. absurd (true≢false (sym writes ∙ reads)))
  reads_on_well got timed rest sent (a ∷ xs) reads some well s =
      WorksOn (Reads (record { awaited = a ∷ xs; got = got; timed = timed })) refl (record {
        held = refl;
        awaited = s.is;
        nonces = s.nonces;
        above = s.above;
        works = record {
          kind = (reads, some);
          some = some_left a xs;
          timed = timed_still h op (h.count + length sent) lost timed well;
          awaited = s.each;
          differ = s.differ;
          queue = tt;
        };
      })

  reads_well : (got : List Column) (timed : List TimedOut) (awaited : List Awaited) → is_write op ≡ false
      → (range.length == 0) ≡ false → AreTimedWell h op lost timed
      → AllByRecursion (IsAwaitedWell h op timed false) awaited → AllDiffer (map nonce_of awaited)
      → TurnsWell h op lost awaited (reads h range got timed awaited)
  unfolding reads read_commands
  reads_well got timed awaited is some well all differ =
      let same : stripes h.map range ≡ touched_under h op = rw is refl in
      let enough : IsEnough h.map lost (stripes h.map range) = subst (IsEnough h.map lost) (sym same) good.enough in
      let can : unreadable h.map range (outs h timed) (stripes h.map range) ≡ None =
      (enough_left h op lost good timed well).reads range (stripes h.map range) enough in
      subst (λ (o : Option (List ℕ)). TurnsWell h op lost awaited (reads_unless h range got timed awaited o)) (sym can)
      (reads_on_well got timed awaited _ _ is some well
      (sends_more h op timed false awaited (carrying_none (reads_due h range got timed awaited)) all differ
      (carrying_may h op timed _ (reads_may h op lost good timed aim.Reads range (had got awaited) same))))

  -- ---- reads of no byte

  probes_on_well : (got : List Column) (timed : List TimedOut) (rest sent awaited : List Awaited) → is_write op ≡ false
      → (range.length == 0) ≡ true → AreTimedWell h op lost timed → Sends h op timed false rest sent awaited
      → TurnsWell h op lost rest (probes_on h got timed sent awaited)
  unfolding probes_on
  probes_on_well got timed rest sent [] reads none_ well s =
      let none = none_left rest sent s.is in
      IsDone (ReadOk []) (nothing_sent h sent _ none.1) none.0 (read_done op [] reads)
      (λ writes. absurd (true≢false (sym writes ∙ reads)))
  probes_on_well got timed rest sent (a ∷ xs) reads none_ well s =
      WorksOn (Probes (record { awaited = a ∷ xs; got = got; timed = timed })) refl (record {
        held = refl;
        awaited = s.is;
        nonces = s.nonces;
        above = s.above;
        works = record {
          kind = (reads, none_);
          some = some_left a xs;
          timed = timed_still h op (h.count + length sent) lost timed well;
          awaited = s.each;
          differ = s.differ;
          queue = tt;
        };
      })

  none_touched : is_write op ≡ false → (range.length == 0) ≡ true → touched_under h op ≡ []
  unfolding stripes
  none_touched is none = rw (is, none) refl

  probes_well : (got : List Column) (timed : List TimedOut) (awaited : List Awaited) → is_write op ≡ false
      → (range.length == 0) ≡ true → AreTimedWell h op lost timed
      → AllByRecursion (IsAwaitedWell h op timed false) awaited → AllDiffer (map nonce_of awaited)
      → TurnsWell h op lost awaited (probes h got timed awaited)
  unfolding probes read_commands
  probes_well got timed awaited is none well all differ =
      let empty : touched_under h op ≡ [] = none_touched is none in
      let can : CanProbe h lost = good.probed is empty in
      let p : ℕ = can.number / replicas h.map in
      let there : is_probe_lost h.map (outs h timed) p ≡ false = (enough_left h op lost good timed well).probe p can.few in
      subst (λ (o : Option ℕ). TurnsWell h op lost awaited (probes_by h got timed awaited o)) (sym can.first)
      (rw there (probes_on_well got timed awaited _ _ is none well
      (sends_more h op timed false awaited (carrying_none (probes_due h (outs h timed) (had_positions got awaited) p)) all differ
      (carrying_may h op timed _ (probes_may h op lost good timed is empty (had_positions got awaited) can.number can.first)))))

  -- ---- writes

  accounted_well : (timed : List TimedOut) → is_write op ≡ true → is_past_size h op ≡ false → AreTimedWell h op lost timed
      → TurnsWell h op lost [] (turned h (accounted op timed))
  accounted_well [] writes low well = IsDone (WriteOk (span_of op).length) refl refl (write_done op writes) (λ e. low)
  accounted_well (t ∷ ts) writes low well = Reports t ts refl low (record { writes = writes; done = refl; well = well })

  written_well : (timed : List TimedOut) → is_write op ≡ true → AreTimedWell h op lost timed
      → TurnsWell h op lost [] (turned h (written h op timed))
  unfolding written
  written_well timed writes well = elim (cases_Bool (is_past_size h op)) [
    | inl past ↦ Commits timed (ap (λ (b : Bool). turned h (if b then needing (Commit timed) else accounted op timed)) past) past
        (record { writes = writes; done = refl; well = well })
    | inr low ↦
        subst (λ (b : Bool). TurnsWell h op lost [] (turned h (if b then needing (Commit timed) else accounted op timed)))
        (sym low) (accounted_well timed writes low well)
  ]

  abbrev AreQueuedWell : List TimedOut → List Store → Type 0
  AreQueuedWell timed queue = AllByRecursion (λ (w : Store). MayAsk h op timed true w.ask) queue

  scatters_on_well : (timed : List TimedOut) (queue : List Store) (rest sent awaited : List Awaited) → is_write op ≡ true
      → AreTimedWell h op lost timed → AreQueuedWell timed queue → Sends h op timed true rest sent awaited
      → TurnsWell h op lost rest (scatters_on h op timed queue sent awaited)
  unfolding scatters_on
  scatters_on_well timed queue rest sent [] writes well queued s =
      let none = none_left rest sent s.is in
      subst (λ (xs : List Awaited). TurnsWell h op lost xs (record {
        held = counted h sent;
        turn = written h op timed;
        sent = sent;
      })) (sym none.0)
      (subst (λ (m : Moved). TurnsWell h op lost [] m) (sym (nothing_sent h sent (written h op timed) none.1))
      (written_well timed writes well))
  scatters_on_well timed queue rest sent (a ∷ xs) writes well queued s =
      WorksOn (Scatters (record { awaited = a ∷ xs; got = []; timed = timed }) queue) refl (record {
        held = refl;
        awaited = s.is;
        nonces = s.nonces;
        above = s.above;
        works = record {
          kind = writes;
          some = some_left a xs;
          timed = timed_still h op (h.count + length sent) lost timed well;
          awaited = s.each;
          differ = s.differ;
          queue = all_wider _ _ (λ w m. may_still h op (h.count + length sent) timed true w.ask m) queue queued;
        };
      })

  scatters_well : (got : List Column) (timed : List TimedOut) → is_write op ≡ true → AreTimedWell h op lost timed
      → TurnsWell h op lost [] (scatters h op got timed)
  unfolding scatters write_commands
  scatters_well got timed writes well =
      let all : List Store = stores h.map (span_of op) (bytes_of op) got (outs h timed) in
      let may : AreQueuedWell timed all = stores_may h op lost good timed writes got in
      scatters_on_well timed (laters [] all) [] _ _ writes well (laters_fit _ [] all may)
      (sends_more h op timed true [] (firsts [] all) tt tt (firsts_fit _ [] all may))

  scatters_next_well : (timed : List TimedOut) (queue : List Store) (k : ℕ) (rest : List Awaited) → is_write op ≡ true
      → AreTimedWell h op lost timed → AreQueuedWell timed queue → AllByRecursion (IsAwaitedWell h op timed true) rest
      → AllDiffer (map nonce_of rest) → TurnsWell h op lost rest (scatters_next h op timed queue k rest)
  unfolding scatters_next write_commands
  scatters_next_well timed queue k rest writes well queued all differ =
      scatters_on_well timed (without_next k queue) rest _ _ writes well (queue_fit _ k queue queued)
      (sends_more h op timed true rest (next_to k queue) all differ (next_fit _ k queue queued))

  gathers_on_well : (got : List Column) (timed : List TimedOut) (rest sent awaited : List Awaited) → is_write op ≡ true
      → AreTimedWell h op lost timed → Sends h op timed false rest sent awaited
      → TurnsWell h op lost rest (gathers_on h op got timed sent awaited)
  unfolding gathers_on
  gathers_on_well got timed rest sent [] writes well s =
      subst (λ (xs : List Awaited). TurnsWell h op lost xs (scatters h op got timed)) (sym (none_left rest sent s.is).0)
      (scatters_well got timed writes well)
  gathers_on_well got timed rest sent (a ∷ xs) writes well s =
      WorksOn (Gathers (record { awaited = a ∷ xs; got = got; timed = timed })) refl (record {
        held = refl;
        awaited = s.is;
        nonces = s.nonces;
        above = s.above;
        works = record {
          kind = writes;
          some = some_left a xs;
          timed = timed_still h op (h.count + length sent) lost timed well;
          awaited = s.each;
          differ = s.differ;
          queue = tt;
        };
      })

  gathers_well : (got : List Column) (timed : List TimedOut) (awaited : List Awaited) → is_write op ≡ true
      → AreTimedWell h op lost timed → AllByRecursion (IsAwaitedWell h op timed false) awaited
      → AllDiffer (map nonce_of awaited) → TurnsWell h op lost awaited (gathers h op got timed awaited)
  unfolding gathers read_commands
  gathers_well got timed awaited writes well all differ =
      gathers_on_well got timed awaited _ _ writes well
      (sends_more h op timed false awaited (carrying_none (gathers_due h (span_of op) got timed awaited)) all differ
      (carrying_may h op timed _ (gathers_may h op lost good timed writes got awaited)))

  -- ---- the begin

  none_timed : AreTimedWell h op lost []
  none_timed = record { each = tt; rise = tt }

  read_begins : (b : Bool) → is_write op ≡ false → (range.length == 0) ≡ b
      → TurnsWell h op lost [] (if b then probes h [] [] [] else reads h range [] [] [])
  read_begins true is none = probes_well [] [] [] is none none_timed tt tt
  read_begins false is some = reads_well [] [] [] is some none_timed tt tt

  begin_by : (b : Bool) → is_write op ≡ b
      → TurnsWell h op lost [] (if b then gathers h op [] [] []
      else if range.length == 0 then probes h [] [] [] else reads h range [] [] [])
  begin_by true is = gathers_well [] [] [] is none_timed tt tt
  begin_by false is = read_begins (range.length == 0) is refl

  begun_well : TurnsWell h op lost [] (begins h op)
  unfolding begins
  begun_well = begin_by (is_write op) refl

  -- ---- replies

  performed_well : (p : Phase) → WorksWell h op lost p → (a : Awaited) (r : Reply)
      → TurnsWell h op lost (others (awaited_in p) (nonce_of a)) (performed h op p a r)
  performed_well (Reads io) w a r =
      reads_on_well _ io.timed _ [] _ w.kind.0 w.kind.1 w.timed
      (sends_none h op io.timed false _ (others_well h op io.timed false io.awaited w.awaited w.differ (nonce_of a))
      (others_differ h op io.timed false io.awaited w.awaited w.differ (nonce_of a)))
  performed_well (Probes io) w a r =
      probes_on_well _ io.timed _ [] _ w.kind.0 w.kind.1 w.timed
      (sends_none h op io.timed false _ (others_well h op io.timed false io.awaited w.awaited w.differ (nonce_of a))
      (others_differ h op io.timed false io.awaited w.awaited w.differ (nonce_of a)))
  performed_well (Gathers io) w a r =
      gathers_on_well _ io.timed _ [] _ w.kind w.timed
      (sends_none h op io.timed false _ (others_well h op io.timed false io.awaited w.awaited w.differ (nonce_of a))
      (others_differ h op io.timed false io.awaited w.awaited w.differ (nonce_of a)))
  performed_well (Scatters io queue) w a r =
      scatters_next_well io.timed queue a.ask.component _ w.kind w.timed w.queue
      (others_well h op io.timed true io.awaited w.awaited w.differ (nonce_of a))
      (others_differ h op io.timed true io.awaited w.awaited w.differ (nonce_of a))
  performed_well Starts w a r = absurd w.kind
  performed_well (Needs n) w a r = absurd w.kind
  performed_well (Waits n) w a r = absurd w.kind

  -- ---- timeouts

  long_enough : is_write op ≡ true → (timed : List TimedOut) → AreTimedWell h op lost timed → is_too_short h op timed ≡ false
  unfolding is_too_short
  long_enough writes timed well =
      let same : stripes h.map (span_of op) ≡ touched_under h op = rw writes refl in
      let enough : IsEnough h.map lost (stripes h.map (span_of op)) = subst (IsEnough h.map lost) (sym same) good.enough in
      ap (λ (o : Option (List ℕ)). is_some o)
      ((enough_left h op lost good timed well).writes (stripes h.map (span_of op)) enough)

  module _ (k : ℕ) (gone : among k lost ≡ true) (a : Awaited) (xs : List Awaited) where
    missed_well : (p : Phase) → WorksWell h op lost p → of_component k (awaited_in p) ≡ a ∷ xs
        → TurnsWell h op lost (not_of k (awaited_in p)) (timed_out h op p k a xs)
    unfolding gather_timed scatter_timed
    missed_well (Reads io) w is =
        reads_well io.got _ _ w.kind.0 w.kind.1
        (timed_well h op io.timed false io.awaited w.awaited w.differ k a xs is lost w.timed gone)
        (rest_well h op io.timed false io.awaited w.awaited w.differ k a xs is)
        (rest_differ h op io.timed false io.awaited w.awaited w.differ k)
    missed_well (Probes io) w is =
        probes_well io.got _ _ w.kind.0 w.kind.1
        (timed_well h op io.timed false io.awaited w.awaited w.differ k a xs is lost w.timed gone)
        (rest_well h op io.timed false io.awaited w.awaited w.differ k a xs is)
        (rest_differ h op io.timed false io.awaited w.awaited w.differ k)
    missed_well (Gathers io) w is =
        let well = timed_well h op io.timed false io.awaited w.awaited w.differ k a xs is lost w.timed gone in
        rw (long_enough w.kind (timed_after io.timed a xs) well)
        (gathers_well io.got (timed_after io.timed a xs) (not_of k io.awaited) w.kind well
        (rest_well h op io.timed false io.awaited w.awaited w.differ k a xs is)
        (rest_differ h op io.timed false io.awaited w.awaited w.differ k))
    missed_well (Scatters io queue) w is =
        let well = timed_well h op io.timed true io.awaited w.awaited w.differ k a xs is lost w.timed gone in
        rw (long_enough w.kind (timed_after io.timed a xs) well)
        (scatters_on_well (timed_after io.timed a xs) (without_component k queue) (not_of k io.awaited) [] _ w.kind well
        (queue_rest h op io.timed true io.awaited w.awaited w.differ k a xs is queue w.queue)
        (sends_none h op (timed_after io.timed a xs) true (not_of k io.awaited)
        (rest_well h op io.timed true io.awaited w.awaited w.differ k a xs is)
        (rest_differ h op io.timed true io.awaited w.awaited w.differ k)))
    missed_well Starts w is = absurd w.kind
    missed_well (Needs n) w is = absurd w.kind
    missed_well (Waits n) w is = absurd w.kind

-- ---- so it goes on

pub begins_well : BeginsWell
begins_well h op lost good = begun_well h op lost good

pub replied_well : RepliesWell
unfolding replied
replied_well h op lost p good works a there r done =
    rw (eq-eqb r.verdict PERFORMED done) (performed_well h op lost good p works a r)

pub timed_out_well : TimesOutWell
timed_out_well h op lost p good works k gone a xs is = missed_well h op lost good k gone a xs p works is
