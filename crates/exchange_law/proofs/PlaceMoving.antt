-- What a call has the drives do is placed: writes, replies, timeouts, the begin, and a commit.
use Rattle.std.proofs.Common.{◌≡◌, ◌==◌, ◌≤◌, ℕ, Bool, true, false, ◌&&◌, ◌||◌, List, [], ◌∷◌, ◌+◌, Option, Some, None, nat_lt, nat_le, refl, arith, if◌then◌else◌}
use Rattle.std.specs.List.{AllByRecursion}
use Rattle.std.proofs.lemmas.Bool.Decides.{nat_tests}
use Rattle.std.proofs.lemmas.Bool.{and_parts}
use Rattle.layout_ops.specs.declared.statuses.TheConstants.{NFS4_OK}
use Rattle.exchange_law.specs.PlaceState.{CallOp, Write, Read, Held, Reach, Awaited, TimedOut, Phase, Starts, Needs, Waits, Reads, Probes, Gathers, Scatters, Io, Ends, Forgets, Answer, Reply, Span, Column, Store}
use Rattle.stripe_plan.specs.declared.plan.Aim.TheVariants as aim
use Rattle.stripe_plan.specs.Touched.{stripes}
use Rattle.stripe_plan.specs.Asks.{asks}
use Rattle.stripe_plan.specs.Plans.{filled, stores}
use Rattle.stripe_plan.specs.Plans as plans
use Rattle.data_map.specs.Striping.{parities}
use Rattle.client_rules.specs.declared.limits.TheConstants.{MAX_COUNT, PERFORMED, OTHER_TAG}
use Rattle.client_rules.specs.Turns.{turned}
use Rattle.client_rules.specs.Calls.{span_of, bytes_of}
use Rattle.client_rules.specs.Results.{status_of}
use Rattle.client_rules.specs.Grants.{clipped, contains, covers_write, covers_read, is_for, covers}
use Rattle.client_rules.specs.Io.{outs, had, had_positions, awaited_in}
use Rattle.client_rules.specs.Commands.{counted}
use Rattle.client_rules.specs.Reads.{first_present, probes_by, probes, reads}
use Rattle.client_rules.specs.Writes.{firsts, laters, scatters_on, scatters, next_to, without_next, scatters_next, gathers_on, gathers_due, gathers, is_too_short}
use Rattle.client_rules.specs.Replies.{performed, refused, replied, gather_timed, scatter_timed, timed_out}
use Rattle.client_rules.specs.Answers.{committed, not_committed, on_commit}
use Rattle.client_rules.specs.Going.{begins}
use Rattle.exchange_law.specs.Kept.{IsOwnGrant}
use Rattle.exchange_law.proofs.PlaceLists.{all_map, either_all}
use Rattle.exchange_law.specs.Asked.{AskFits, IsHeldIn}
use Rattle.exchange_law.proofs.Reach.{plan_fits}
use Rattle.exchange_law.proofs.Probing.{probes_fit}
use Rattle.exchange_law.proofs.PlaceSending.{AwaitedPlaced, ArePlaced, others_placed, rest_placed, same_grant, Covers, StoreFits, PhaseFits, TurnFits, MovedFits, either_moved, either_turn, accounted_fits, written_fits, firsts_fit, laters_fit, next_fit, queue_fit, without_fit, counted_own, read_placed, write_placed, turned_fits, reads_on_fits, reads_fits, probes_on_fits}
use Rattle.exchange_law.proofs.Parts.{each_more}

-- ---- what a call is covered by

is_in : (g : Reach) (r : Span) → contains g r ≡ true → IsHeldIn g r
is_in g r e =
    let s = and_parts (nat_le g.first r.offset) (nat_le (r.offset + r.length) g.end) e in
    (at_most g.first r.offset s.0, at_most (r.offset + r.length) g.end s.1)
  where
    at_most : (a b : ℕ) → nat_le a b ≡ true → a ≤ b
    at_most a b e = grind (arith, nat_tests, e)

pub write_in : (g : Reach) (size : ℕ) (r : Span) → covers_write g size r ≡ true → (g.rw ≡ true) × IsHeldIn g r
unfolding covers_write
write_in g size r e =
    let s = and_parts g.rw (contains g r && (g.extending || nat_le (r.offset + r.length) size)) e in
    let t = and_parts (contains g r) (g.extending || nat_le (r.offset + r.length) size) s.1 in
    (s.0, is_in g r t.0)

pub read_in : (g : Reach) (size : ℕ) (r : Span) → covers_read g size r ≡ true → ((clipped size r).length == 0) ≡ false
    → IsHeldIn g (clipped size r)
unfolding covers_read
read_in g size r e some =
    is_in g (clipped size r) (second ((clipped size r).length == 0) (contains g (clipped size r)) e some)
  where
    second : (a b : Bool) → (a || b) ≡ true → a ≡ false → b ≡ true
    second true b e f = absurd (cc f)
    second false b e f = e

unless : (b c : Bool) → (if b then false else c) ≡ true → c ≡ true
unless true c e = absurd (cc e)
unless false c e = e

pub covered : (h : Held) (op : CallOp) → covers h op ≡ true → is_for h.reach h.size op ≡ true
unfolding covers
covered h op e = unless (nat_lt MAX_COUNT h.count) (is_for h.reach h.size op) e

module _ (c : ℕ) (h : Held) (k : IsOwnGrant c h) where
  -- ---- probes

  probes_by_fits : (op : CallOp) (got : List Column) (timed : List TimedOut) (awaited : List Awaited) (o : Option ℕ)
      → first_present h.components 0 ≡ o → ArePlaced awaited → MovedFits c h op (probes_by h got timed awaited o)
  probes_by_fits op got timed awaited None first w = turned_fits c h k op _ tt
  probes_by_fits op got timed awaited (Some n) first w =
      let due = read_placed c h k _ (probes_fit k.file k.grant h k.kept timed (had_positions got awaited) n first) in
      either_moved c h op _ _ _ (turned_fits c h k op _ tt)
      (probes_on_fits c h k op got timed _ _ due (each_more AwaitedPlaced awaited _ w due))

  probes_fits : (op : CallOp) (got : List Column) (timed : List TimedOut) (awaited : List Awaited) → ArePlaced awaited
      → MovedFits c h op (probes h got timed awaited)
  unfolding probes
  probes_fits op got timed awaited w = probes_by_fits op got timed awaited (first_present h.components 0) refl w

  -- ---- writes

  scatters_on_fits : (op : CallOp) (timed : List TimedOut) (queue : List Store) (sent awaited : List Awaited)
      → h.reach.rw ≡ true → AllByRecursion (StoreFits h) queue → ArePlaced sent → ArePlaced awaited
      → MovedFits c h op (scatters_on h op timed queue sent awaited)
  unfolding scatters_on
  scatters_on_fits op timed queue sent [] may q s w = record {
    file = refl;
    held = counted_own c h k sent;
    sent = s;
    turn = written_fits (counted h sent) h op timed;
  }
  scatters_on_fits op timed queue sent (a ∷ xs) may q s w = record {
    file = refl;
    held = counted_own c h k sent;
    sent = s;
    turn = (w, (may, q));
  }

  stores_fit : (r : Span) (bytes : List ℕ) (got : List Column) (timed : List TimedOut) → IsHeldIn h.reach r
      → AllByRecursion (StoreFits h) (stores h.map r bytes got (outs h timed))
  unfolding stores
  stores_fit r bytes got timed i =
      all_map (filled (plans.written h.map r bytes got (outs h timed) (stripes h.map r))) (AskFits h.components)
      (StoreFits h) (λ a fits. fits) (asks aim.Scatters h.map r (outs h timed) [] (stripes h.map r))
      (plan_fits k.file k.grant h k.kept aim.Scatters r timed [] i)

  scatters_fits : (op : CallOp) (got : List Column) (timed : List TimedOut) → Covers h op
      → MovedFits c h op (scatters h op got timed)
  unfolding scatters
  scatters_fits op got timed i =
      let all : List Store = stores h.map (span_of op) (bytes_of op) got (outs h timed) in
      let fit : AllByRecursion (StoreFits h) all = stores_fit (span_of op) (bytes_of op) got timed i.1 in
      let first = write_placed c h k (firsts [] all) i.0 (firsts_fit (StoreFits h) [] all fit) in
      scatters_on_fits op timed (laters [] all) _ _ i.0 (laters_fit (StoreFits h) [] all fit) first first

  next_fits : (op : CallOp) (timed : List TimedOut) (queue : List Store) (n : ℕ) (awaited : List Awaited)
      → h.reach.rw ≡ true → AllByRecursion (StoreFits h) queue → ArePlaced awaited
      → MovedFits c h op (scatters_next h op timed queue n awaited)
  unfolding scatters_next
  next_fits op timed queue n awaited may q w =
      let next = write_placed c h k (next_to n queue) may (next_fit (StoreFits h) n queue q) in
      scatters_on_fits op timed (without_next n queue) _ _ may (queue_fit (StoreFits h) n queue q) next
      (each_more AwaitedPlaced awaited _ w next)

  gathers_on_fits : (op : CallOp) (got : List Column) (timed : List TimedOut) (sent awaited : List Awaited)
      → Covers h op → ArePlaced sent → ArePlaced awaited → MovedFits c h op (gathers_on h op got timed sent awaited)
  unfolding gathers_on
  gathers_on_fits op got timed sent [] i s w = scatters_fits op got timed i
  gathers_on_fits op got timed sent (a ∷ xs) i s w = record {
    file = refl;
    held = counted_own c h k sent;
    sent = s;
    turn = (w, i);
  }

  due_fits : (r : Span) (got : List Column) (timed : List TimedOut) (awaited : List Awaited) → IsHeldIn h.reach r
      → AllByRecursion (AskFits h.components) (gathers_due h r got timed awaited)
  unfolding gathers_due
  due_fits r got timed awaited i =
      either_all (AskFits h.components) (parities h.map == 0) _ _ tt
      (plan_fits k.file k.grant h k.kept aim.Gathers r timed (had got awaited) i)

  gathers_fits : (op : CallOp) (got : List Column) (timed : List TimedOut) (awaited : List Awaited) → Covers h op
      → ArePlaced awaited → MovedFits c h op (gathers h op got timed awaited)
  unfolding gathers
  gathers_fits op got timed awaited i w =
      let due = read_placed c h k _ (due_fits (span_of op) got timed awaited i.1) in
      gathers_on_fits op got timed _ _ i due (each_more AwaitedPlaced awaited _ w due)

  -- ---- replies

  performed_fits : (op : CallOp) (p : Phase) (a : Awaited) (r : Reply) → ArePlaced (awaited_in p) → PhaseFits h op p
      → MovedFits c h op (performed h op p a r)
  performed_fits op (Reads io) a r w i =
      reads_on_fits c h k op _ io.timed [] _ i tt (others_placed io.awaited a.command.nonce w)
  performed_fits op (Probes io) a r w i =
      probes_on_fits c h k op _ io.timed [] _ tt (others_placed io.awaited a.command.nonce w)
  performed_fits op (Gathers io) a r w i =
      gathers_on_fits op _ io.timed [] _ i tt (others_placed io.awaited a.command.nonce w)
  performed_fits op (Scatters io queue) a r w i =
      next_fits op io.timed queue _ _ i.0 i.1 (others_placed io.awaited a.command.nonce w)
  performed_fits op Starts a r w i = turned_fits c h k op _ (tt, tt)
  performed_fits op (Needs need) a r w i = turned_fits c h k op _ (tt, tt)
  performed_fits op (Waits need) a r w i = turned_fits c h k op _ (tt, tt)

  refused_fits : (op : CallOp) (p : Phase) (a : Awaited) (r : Reply) → MovedFits c h op (refused h p a r)
  unfolding refused
  refused_fits op p a r =
      either_moved c h op (r.verdict == OTHER_TAG) _ _ (turned_fits c h k op _ tt) (turned_fits c h k op _ (tt, tt))

  pub replied_fits : (op : CallOp) (p : Phase) (a : Awaited) (r : Reply) → ArePlaced (awaited_in p) → PhaseFits h op p
      → MovedFits c h op (replied h op p a r)
  unfolding replied
  replied_fits op p a r w i =
      either_moved c h op (r.verdict == PERFORMED) _ _ (performed_fits op p a r w i) (refused_fits op p a r)

  -- ---- timeouts

  gather_timed_fits : (op : CallOp) (io : Io) (n : ℕ) (timed : List TimedOut) → ArePlaced io.awaited → Covers h op
      → MovedFits c h op (gather_timed h op io n timed)
  unfolding gather_timed
  gather_timed_fits op io n timed w i =
      either_moved c h op (is_too_short h op timed) _ _ (turned_fits c h k op _ tt)
      (gathers_fits op io.got timed _ i (rest_placed n io.awaited w))

  scatter_timed_fits : (op : CallOp) (io : Io) (queue : List Store) (n : ℕ) (timed : List TimedOut)
      → ArePlaced io.awaited → h.reach.rw ≡ true → AllByRecursion (StoreFits h) queue
      → MovedFits c h op (scatter_timed h op io queue n timed)
  unfolding scatter_timed
  scatter_timed_fits op io queue n timed w may q =
      either_moved c h op (is_too_short h op timed) _ _ (turned_fits c h k op _ (tt, tt))
      (scatters_on_fits op timed _ [] _ may (without_fit (StoreFits h) n queue q) tt (rest_placed n io.awaited w))

  pub timed_out_fits : (op : CallOp) (p : Phase) (n : ℕ) (a : Awaited) (xs : List Awaited) → ArePlaced (awaited_in p)
      → PhaseFits h op p → MovedFits c h op (timed_out h op p n a xs)
  timed_out_fits op (Reads io) n a xs w i = reads_fits c h k op io.got _ _ i (rest_placed n io.awaited w)
  timed_out_fits op (Probes io) n a xs w i = probes_fits op io.got _ _ (rest_placed n io.awaited w)
  timed_out_fits op (Gathers io) n a xs w i = gather_timed_fits op io n _ w i
  timed_out_fits op (Scatters io queue) n a xs w i = scatter_timed_fits op io queue n _ w i.0 i.1
  timed_out_fits op Starts n a xs w i = turned_fits c h k op _ (tt, tt)
  timed_out_fits op (Needs need) n a xs w i = turned_fits c h k op _ (tt, tt)
  timed_out_fits op (Waits need) n a xs w i = turned_fits c h k op _ (tt, tt)

  -- ---- the begin, and a commit

  read_begins : (op : CallOp) (b : Bool) → ((clipped h.size (span_of op)).length == 0) ≡ b
      → covers_read h.reach h.size (span_of op) ≡ true
      → MovedFits c h op (if b then probes h [] [] [] else reads h (clipped h.size (span_of op)) [] [] [])
  read_begins op true none e = probes_fits op [] [] [] tt
  read_begins op false some e = reads_fits c h k op [] [] [] (read_in h.reach h.size (span_of op) e some) tt

  for_fits : (op : CallOp) → is_for h.reach h.size op ≡ true → MovedFits c h op (begins h op)
  unfolding is_for begins
  for_fits (Write file offset bytes) e =
      gathers_fits (Write file offset bytes) [] [] [] (write_in h.reach h.size _ e) tt
  for_fits (Read file offset count) e =
      read_begins (Read file offset count) ((clipped h.size (span_of (Read file offset count))).length == 0) refl e

  pub begins_fits : (op : CallOp) → covers h op ≡ true → MovedFits c h op (begins h op)
  begins_fits op e = for_fits op (covered h op e)

  not_committed_fits : (op : CallOp) (status detail : ℕ) → TurnFits h op (not_committed status detail)
  unfolding not_committed
  not_committed_fits op status detail = either_turn h op _ (Forgets _) (Ends _) tt tt

  pub on_commit_fits : (op : CallOp) (a : Answer) (timed : List TimedOut) → MovedFits c h op (on_commit h op a timed)
  unfolding on_commit
  on_commit_fits op a timed =
      either_moved c h op (status_of a.results == NFS4_OK) (committed h op a timed)
      (turned h (not_committed (status_of a.results) a.detail))
      (record {
        file = refl;
        held = same_grant c h h.count a.size k;
        sent = tt;
        turn = accounted_fits (record h { size = a.size }) op timed;
      })
      (turned_fits c h k op _ (not_committed_fits op (status_of a.results) a.detail))
