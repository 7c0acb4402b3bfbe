-- Reads and gathers go on, at their begin, at a reply and at a timeout.
-- Towards `EventsAreLawful` (`specs/Steps.antt`).
use Rattle.std.proofs.Common.{◌≡◌, ◌≢◌, ℕ, ◌+◌, ◌/◌, ◌<◌, true, false, List, [], ◌∷◌, ◌++◌, length, refl, subst, inl, inr, arith}
use Rattle.std.specs.Prelude.{Option, Some, None}
use Rattle.std.proofs.lemmas.Bool.{cases_Bool}
use Rattle.data_map.specs.Check.{IsChecked}
use Rattle.data_map.specs.Striping.{replicas, positions}
use Rattle.stripe_plan.specs.declared.plan.Aim.TheVariants.{Reads as ToRead}
use Rattle.stripe_plan.specs.Touched.{stripes}
use Rattle.stripe_plan.specs.Lost.{unreadable}
use Rattle.stripe_plan.specs.Words.{answered}
use Rattle.server_rules.specs.Laws.{In}
use Rattle.client_rules.specs.Calls.{span_of, is_write}
use Rattle.client_rules.specs.Commands.{nonce_at, others, counted, command, sealed, credential_of}
use Rattle.client_rules.specs.Grants.{clipped, is_for}
use Rattle.client_rules.specs.Io.{outs, had, had_positions, got_of}
use Rattle.client_rules.specs.Requests.{object_of}
use Rattle.client_rules.specs.Reads.{reads_on, reads_due, reads_unless, reads, probes_on, probes_due, is_probe_lost, probes_sent, probes_by, probes, first_present}
use Rattle.client_rules.specs.Replies.{performed}
use Rattle.client_rules.proofs.Asked.{front_none, rest_none}
use Rattle.client_rules.proofs.Probed.{no_commands, due_some}
use Rattle.world_history.specs.ClientNames.{CallOp, Held, Awaited, TimedOut, Io, Column, Reply, Reads, Probes}
use Rattle.gather_law.proofs.Gathered as gather
use Rattle.gather_law.proofs.Gathered.{in_to}
use Rattle.exchange_law.proofs.Had.{AreBelow, others_below, sent_below}
use Rattle.exchange_law.proofs.RightMoves.{IsReady as IsReadReady, counted_outs, fetched, ready_sent, asked_some, ready_replied, grown}
use Rattle.relation_law.proofs.MessagesClients.{AreReadsUnder, ReadsSome, ReadsNone, IsSameGrant, MovedFits}
use Rattle.relation_law.proofs.MessagesMoves.{plan_placed, probes_placed, commands_under, more_under, others_under}

-- ---- one grant

pub same_counted : (h : Held) (sent : List Awaited) → IsSameGrant h (counted h sent)
same_counted h sent = record { file = refl; map = refl; reach = refl; size = refl; components = refl }

pub same_itself : (h : Held) → IsSameGrant h h
same_itself h = record { file = refl; map = refl; reach = refl; size = refl; components = refl }

-- commands under a grant are so once more were counted
pub counted_under : (h : Held) (sent xs : List Awaited) → AreReadsUnder h xs → AreReadsUnder (counted h sent) xs
unfolding command sealed credential_of object_of
counted_under h sent xs x a i =
    let r = x a i in
    record {
      store = r.store;
      nonce = r.nonce;
      is = r.is;
      placed = record { position = r.placed.position; below = r.placed.below };
    }

-- ---- reads

-- what is asked of a read
pub record ReadsOn (h : Held) (op : CallOp) : Type 0 where
  pub checked : IsChecked h.map
  pub is : is_write op ≡ false
  pub covers : is_for h.reach h.size op ≡ true

reads_on_fit : (h : Held) (op : CallOp) (got : List Column) (timed : List TimedOut) (sent awaited : List Awaited) → ReadsOn h op →
    0 < (clipped h.size (span_of op)).length → (awaited ≡ [] → got ≢ []) → AreReadsUnder h awaited → (top : ℕ) →
    top ≡ nonce_at h (h.count + length sent) → IsReadReady h.map (clipped h.size (span_of op)) (outs h timed) got awaited top →
    MovedFits h op got (reads_on h (clipped h.size (span_of op)) got timed sent awaited)
unfolding reads_on
reads_on_fit h op got timed sent [] on some n under top e x = record {
  same = same_counted h sent;
  turn = (
    outs h timed,
    refl,
    record {
      some = n refl;
      all = inr (x.readable, fetched h.map (clipped h.size (span_of op)) (outs h timed) got top x);
    },
  );
}
reads_on_fit h op got timed sent (a ∷ xs) on some n under top e x = record {
  same = same_counted h sent;
  turn = (
    record {
      is = on.is;
      covers = on.covers;
      some = some;
      reads = counted_under h sent (a ∷ xs) under;
      ready = rw (counted_outs h sent timed) (rw e at x);
    },
    refl,
  );
}

reads_unless_fit : (h : Held) (op : CallOp) (got : List Column) (timed : List TimedOut) (awaited : List Awaited)
    (o : Option (List ℕ)) →
    ReadsOn h op → 0 < (clipped h.size (span_of op)).length → AreReadsUnder h awaited → AreBelow (nonce_at h h.count) awaited →
    unreadable h.map (clipped h.size (span_of op)) (outs h timed) (stripes h.map (clipped h.size (span_of op))) ≡ o →
    MovedFits h op got (reads_unless h (clipped h.size (span_of op)) got timed awaited o)
reads_unless_fit h op got timed awaited (Some ps) on some under b u = record { same = same_itself h; turn = tt }
reads_unless_fit h op got timed awaited None on some under b u =
    reads_on_fit h op got timed _ _ on some (asked_some h op got timed awaited on.checked some u)
    (more_under h awaited _ under (commands_under h (reads_due h (clipped h.size (span_of op)) got timed awaited)
    (plan_placed ToRead h.map (clipped h.size (span_of op)) (outs h timed) (had got awaited)
    (stripes h.map (clipped h.size (span_of op))) tt on.checked)))
    _ refl (ready_sent h (clipped h.size (span_of op)) got timed awaited some u b)

pub reads_fit : (h : Held) (op : CallOp) (got : List Column) (timed : List TimedOut) (awaited : List Awaited) → ReadsOn h op →
    0 < (clipped h.size (span_of op)).length → AreReadsUnder h awaited → AreBelow (nonce_at h h.count) awaited →
    MovedFits h op got (reads h (clipped h.size (span_of op)) got timed awaited)
unfolding reads
reads_fit h op got timed awaited on some under b = reads_unless_fit h op got timed awaited _ on some under b refl

-- ---- probes

probes_on_fit : (h : Held) (op : CallOp) (got : List Column) (timed : List TimedOut) (sent awaited : List Awaited) →
    ReadsOn h op →
    (clipped h.size (span_of op)).length ≡ 0 → (awaited ≡ [] → got ≢ []) → AreReadsUnder h awaited →
    AreBelow (nonce_at h (h.count + length sent)) awaited → MovedFits h op got (probes_on h got timed sent awaited)
unfolding probes_on answered
probes_on_fit h op got timed sent [] on none n under b = record {
  same = same_counted h sent;
  turn = ([], rw none refl, record { some = n refl; all = inl none });
}
probes_on_fit h op got timed sent (a ∷ xs) on none n under b = record {
  same = same_counted h sent;
  turn = (
    record { is = on.is; covers = on.covers; none = none; reads = counted_under h sent (a ∷ xs) under; nonces = b },
    refl,
  );
}

probes_sent_fit : (h : Held) (op : CallOp) (got : List Column) (timed : List TimedOut) (awaited : List Awaited) (p : ℕ) →
    ReadsOn h op →
    (clipped h.size (span_of op)).length ≡ 0 → AreReadsUnder h awaited → AreBelow (nonce_at h h.count) awaited →
    p < positions h.map →
    is_probe_lost h.map (outs h timed) p ≡ false → MovedFits h op got (probes_sent h got timed awaited p)
unfolding had_positions
probes_sent_fit h op got timed awaited p on none under b low kept =
    probes_on_fit h op got timed _ _ on none
    (λ empty. λ g.
    let free : awaited ≡ [] = front_none awaited _ empty in
    let due = no_commands h _ (rest_none awaited _ empty) in
    due_some h (outs h timed) p on.checked kept (rw (g, free) at due))
    (more_under h awaited _ under (commands_under h (probes_due h (outs h timed) (had_positions got awaited) p)
    (probes_placed h (outs h timed) (had_positions got awaited) p on.checked low)))
    (sent_below h awaited (probes_due h (outs h timed) (had_positions got awaited) p) b)

probes_by_fit : (h : Held) (op : CallOp) (got : List Column) (timed : List TimedOut) (awaited : List Awaited) (o : Option ℕ) →
    ReadsOn h op →
    (clipped h.size (span_of op)).length ≡ 0 → AreReadsUnder h awaited → AreBelow (nonce_at h h.count) awaited →
    ((k : ℕ) → o ≡ Some k → k / replicas h.map < positions h.map) → MovedFits h op got (probes_by h got timed awaited o)
probes_by_fit h op got timed awaited None on none under b low = record { same = same_itself h; turn = tt }
probes_by_fit h op got timed awaited (Some k) on none under b low =
    elim (cases_Bool (is_probe_lost h.map (outs h timed) (k / replicas h.map))) [
      | inl gone ↦ rw gone (record { same = same_itself h; turn = tt })
      | inr kept ↦ rw kept (probes_sent_fit h op got timed awaited (k / replicas h.map) on none under b (low k refl) kept)
    ]

pub probes_fit : (h : Held) (op : CallOp) (got : List Column) (timed : List TimedOut) (awaited : List Awaited) → ReadsOn h op →
    (clipped h.size (span_of op)).length ≡ 0 → AreReadsUnder h awaited → AreBelow (nonce_at h h.count) awaited →
    ((k : ℕ) → first_present h.components 0 ≡ Some k → k / replicas h.map < positions h.map) →
    MovedFits h op got (probes h got timed awaited)
unfolding probes
probes_fit h op got timed awaited on none under b low = probes_by_fit h op got timed awaited _ on none under b low

-- ---- replies to READs of a read

pub read_replied : (h : Held) (op : CallOp) (io : Io) (a : Awaited) (r : Reply) → IsChecked h.map → In a io.awaited →
    ReadsSome h op io →
    MovedFits h op (io.got ++ got_of a r ∷ []) (performed h op (Reads io) a r)
read_replied h op io a r ch i g =
    reads_on_fit h op (io.got ++ got_of a r ∷ []) io.timed [] (others io.awaited a.command.nonce)
    (record { checked = ch; is = g.is; covers = g.covers }) g.some (λ e. grown (got_of a r) io.got)
    (others_under h io.awaited a.command.nonce g.reads) (nonce_at h h.count) (omega arith)
    (ready_replied h.map (clipped h.size (span_of op)) (outs h io.timed) io.got io.awaited a r (nonce_at h h.count)
    (in_to a io.awaited i) g.ready)

pub probe_replied : (h : Held) (op : CallOp) (io : Io) (a : Awaited) (r : Reply) → IsChecked h.map → ReadsNone h op io →
    MovedFits h op (io.got ++ got_of a r ∷ []) (performed h op (Probes io) a r)
probe_replied h op io a r ch g =
    probes_on_fit h op (io.got ++ got_of a r ∷ []) io.timed [] (others io.awaited a.command.nonce)
    (record { checked = ch; is = g.is; covers = g.covers }) g.none (λ e. grown (got_of a r) io.got)
    (others_under h io.awaited a.command.nonce g.reads)
    (subst (λ (n : ℕ). AreBelow n (others io.awaited a.command.nonce)) (gather.no_more h)
    (others_below (nonce_at h h.count) a.command.nonce io.awaited g.nonces))
