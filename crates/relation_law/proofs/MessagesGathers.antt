-- Gathers go on, or their scatter may begin; and a call begins.
-- Towards `EventsAreLawful` (`specs/Steps.antt`).
use Rattle.std.proofs.Common.{◌≡◌, ℕ, ◌+◌, ◌/◌, ◌<◌, ◌==◌, Bool, true, false, List, [], ◌∷◌, ◌++◌, length, refl, sym, subst, inl, inr, ◌⊎◌, arith, eq-eqb, ne_eqb}
use Rattle.std.specs.Prelude.{Some, None, if◌then◌else◌, is_some}
use Rattle.std.proofs.lemmas.Bool.{cases_Bool, cases_eq}
use Rattle.std.proofs.lemmas.List.{append-nil}
use Rattle.std.proofs.lemmas.Nat.{div_below}
use Rattle.data_map.specs.Check.{IsChecked}
use Rattle.data_map.specs.Striping.{replicas, positions, parities}
use Rattle.data_map.proofs.Shape.{whole_positions}
use Rattle.stripe_plan.specs.declared.plan.Aim.TheVariants.{Gathers as ToGather}
use Rattle.stripe_plan.specs.Touched.{stripes}
use Rattle.stripe_plan.specs.Lost.{unwritable}
use Rattle.stripe_plan.specs.Asks.{asks}
use Rattle.server_rules.specs.Laws.{In}
use Rattle.client_rules.specs.Calls.{span_of, is_write, bytes_of}
use Rattle.client_rules.specs.Commands.{nonce_at, read_commands, others, not_of}
use Rattle.client_rules.specs.Grants.{clipped, is_for, covers, missing_of}
use Rattle.client_rules.specs.Going.{begins}
use Rattle.client_rules.specs.Io.{outs, had, got_of}
use Rattle.client_rules.specs.Layouts.{granted_span}
use Rattle.client_rules.specs.Reads.{reads, probes, first_present}
use Rattle.client_rules.specs.Replies.{performed, gather_timed}
use Rattle.client_rules.specs.Writes.{gathers, gathers_on, gathers_due, scatters, is_too_short}
use Rattle.world_history.specs.ClientNames.{CallOp, Held, Listed, Awaited, TimedOut, Io, Column, Reply, Gathers, Moved}
use Rattle.gather_law.specs.Ready.{IsSome, IsReady as IsGatherReady, AreBelow as AreAllBelow}
use Rattle.gather_law.proofs.Gathered as gather
use Rattle.exchange_law.proofs.Had.{rest_below}
use Rattle.exchange_law.proofs.RightMoves.{counted_outs}
use Rattle.exchange_law.proofs.PlaceMoving.{covered, write_in}
use Rattle.plan_law.specs.Sending.{MayScatter}
use Rattle.plan_law.proofs.Within.{writable_within}
use Rattle.relation_law.proofs.MessagesClients.{AreReadsUnder, ReadsSome, ReadsNone, GathersFor, MovedFits, IsUsable}
use Rattle.relation_law.proofs.MessagesMoves.{ArePlaced, plan_placed, commands_under, more_under, others_under, rest_under}
use Rattle.relation_law.proofs.MessagesReads.{same_counted, same_itself, counted_under, reads_fit, probes_fit}

-- ---- what a gather does

-- its scatter begins, as it may; or it goes on
abbrev pub GatherFits : Held → CallOp → List Column → Moved → Type 0
GatherFits h op got m =
    ((timed : List TimedOut) × (m ≡ scatters h op got timed) × MayScatter h.map (span_of op) (bytes_of op) got (outs h timed))
    ⊎ MovedFits h op got m

-- what is asked of a gather
pub record GathersOn (h : Held) (op : CallOp) : Type 0 where
  pub checked : IsChecked h.map
  pub is : is_write op ≡ true
  pub some : IsSome op
  pub covers : is_for h.reach h.size op ≡ true

gathers_on_fit : (h : Held) (op : CallOp) (got : List Column) (timed : List TimedOut) (sent awaited : List Awaited) →
    GathersOn h op →
    AreReadsUnder h awaited → IsGatherReady h.map (span_of op) (outs h timed) got awaited (nonce_at h (h.count + length sent)) →
    GatherFits h op got (gathers_on h op got timed sent awaited)
unfolding gathers_on
gathers_on_fit h op got timed sent [] on under x = inl (
  timed,
  refl,
  record {
    checked = on.checked;
    long = on.some.long;
    can = x.can;
    fetched = gather.fetched h.map (span_of op) (outs h timed) got (nonce_at h (h.count + length sent)) x;
  },
)
gathers_on_fit h op got timed sent (a ∷ xs) on under x = inr (record {
  same = same_counted h sent;
  turn = (
    record {
      is = on.is;
      some = on.some;
      covers = on.covers;
      reads = counted_under h sent (a ∷ xs) under;
      ready = rw (counted_outs h sent timed) x;
    },
    refl,
  );
})

due_placed : (h : Held) (op : CallOp) (got : List Column) (timed : List TimedOut) (awaited : List Awaited) → IsChecked h.map →
    ArePlaced h.map (gathers_due h (span_of op) got timed awaited)
unfolding gathers_due
due_placed h op got timed awaited ch = by_parity (parities h.map == 0)
  where
    by_parity : (b : Bool) →
        ArePlaced h.map
        (if b then [] else asks ToGather h.map (span_of op) (outs h timed) (had got awaited) (stripes h.map (span_of op)))
    by_parity true = λ a i. absurd i
    by_parity false = plan_placed ToGather h.map (span_of op) (outs h timed) (had got awaited) (stripes h.map (span_of op)) tt ch

pub gathers_fit : (h : Held) (op : CallOp) (got : List Column) (timed : List TimedOut) (awaited : List Awaited) → GathersOn h op →
    AreReadsUnder h awaited → unwritable h.map (outs h timed) (stripes h.map (span_of op)) ≡ None →
    AreAllBelow (nonce_at h h.count) awaited → GatherFits h op got (gathers h op got timed awaited)
unfolding gathers
gathers_fit h op got timed awaited on under can b =
    gathers_on_fit h op got timed (read_commands h (gathers_due h (span_of op) got timed awaited))
    (awaited ++ read_commands h (gathers_due h (span_of op) got timed awaited)) on
    (more_under h awaited _ under
    (commands_under h (gathers_due h (span_of op) got timed awaited) (due_placed h op got timed awaited on.checked)))
    (gather.ready_sent h (span_of op) got timed awaited on.some.some can b)

on_with : (h : Held) (op : CallOp) (io : Io) → IsChecked h.map → GathersFor h op io → GathersOn h op
on_with h op io ch g = record { checked = ch; is = g.is; some = g.some; covers = g.covers }

pub gather_replied : (h : Held) (op : CallOp) (io : Io) (a : Awaited) (r : Reply) → IsChecked h.map → In a io.awaited →
    GathersFor h op io → GatherFits h op (io.got ++ got_of a r ∷ []) (performed h op (Gathers io) a r)
gather_replied h op io a r ch i g =
    gathers_on_fit h op (io.got ++ got_of a r ∷ []) io.timed [] (others io.awaited a.command.nonce) (on_with h op io ch g)
    (others_under h io.awaited a.command.nonce g.reads) (rw (gather.no_more h) at
    (gather.ready_replied h.map (span_of op) (outs h io.timed) io.got io.awaited a r (nonce_at h h.count) i g.ready))

pub gather_timed_fits : (h : Held) (op : CallOp) (io : Io) (k : ℕ) (timed : List TimedOut) → IsChecked h.map →
    GathersFor h op io →
    GatherFits h op io.got (gather_timed h op io k timed)
unfolding gather_timed
gather_timed_fits h op io k timed ch g = elim (cases_Bool (is_too_short h op timed)) [
  | inl short ↦ rw short (inr (record { same = same_itself h; turn = tt }))
  | inr enough ↦
      rw enough (gathers_fit h op io.got timed (not_of k io.awaited) (on_with h op io ch g) (rest_under h io.awaited k g.reads)
      (gather.long_enough h op timed enough)
      (gather.below_from _ _ (rest_below (nonce_at h h.count) k io.awaited (gather.below_to _ io.awaited g.ready.nonces))))
]

-- ---- a call begins

-- what a held grant can write, each call that it covers can
pub begin_writable : (h : Held) (op : CallOp) → IsUsable h → is_write op ≡ true → is_for h.reach h.size op ≡ true →
    unwritable h.map (outs h []) (stripes h.map (span_of op)) ≡ None
unfolding outs is_for
begin_writable h op u is covers =
    let w = write_in h.reach h.size (span_of op) (rw is at covers) in
    let none =
    writable_within h.map (missing_of h) (granted_span h.reach) (span_of op) u.checked w.1.0 (omega (arith, w.1.0, w.1.1))
    (u.writable w.0) in
    subst (λ (xs : List ℕ). unwritable h.map xs (stripes h.map (span_of op)) ≡ None) (sym (append-nil (missing_of h))) none

present_low : (ls : List Listed) (i k : ℕ) → first_present ls i ≡ Some k → k < i + length ls
unfolding first_present
present_low [] i k e = absurd (cc e)
present_low (l ∷ ls) i k e = elim (cases_Bool (is_some l.credential)) [
  | inl has ↦ let same : i ≡ k = cc (rw has at e) in omega (arith, same)
  | inr none ↦ let r = present_low ls (i + 1) k (rw none at e) in omega (arith, r)
]

-- the position of the first component that isn't missing
pub present_position : (h : Held) → IsUsable h → (k : ℕ) → first_present h.components 0 ≡ Some k →
    k / replicas h.map < positions h.map
present_position h u k e =
    let low = present_low h.components 0 k e in
    div_below k (replicas h.map) (positions h.map) (omega arith) (omega (arith, low, u.long, whole_positions h.map u.checked))

-- a call that writes has something to write
pub record HasBytes (op : CallOp) : Type 0 where
  pub some : is_write op ≡ true → IsSome op

pub begins_fit : (h : Held) (op : CallOp) → IsUsable h → HasBytes op → covers h op ≡ true → GatherFits h op [] (begins h op)
unfolding begins
begins_fit h op u has cover =
    let c = covered h op cover in
    elim (cases_Bool (is_write op)) [
      | inl t ↦
          rw t (gathers_fit h op [] [] [] (record {
            checked = u.checked;
            is = t;
            some = has.some t;
            covers = c;
          }) (λ a i. absurd i)
          (begin_writable h op u t c) (record { differ = tt; below = λ a i. absurd i }))
      | inr f ↦ elim (cases_eq (clipped h.size (span_of op)).length 0) [
        | inl z ↦ rw (f, eq-eqb (clipped h.size (span_of op)).length 0 z) (inr
            (probes_fit h op [] [] [] (record { checked = u.checked; is = f; covers = c }) z (λ a i. absurd i)
            (record { differ = tt; below = tt }) (present_position h u)))
        | inr n ↦ rw (f, ne_eqb (clipped h.size (span_of op)).length 0 n) (inr
            (reads_fit h op [] [] [] (record { checked = u.checked; is = f; covers = c }) (omega (arith, n)) (λ a i. absurd i)
            (record { differ = tt; below = tt })))
      ]
    ]

-- ---- timeouts of a read

pub read_timed : (h : Held) (op : CallOp) (io : Io) (k : ℕ) (timed : List TimedOut) → IsChecked h.map → ReadsSome h op io →
    MovedFits h op io.got (reads h (clipped h.size (span_of op)) io.got timed (not_of k io.awaited))
read_timed h op io k timed ch g =
    reads_fit h op io.got timed (not_of k io.awaited) (record { checked = ch; is = g.is; covers = g.covers }) g.some
    (rest_under h io.awaited k g.reads) (rest_below (nonce_at h h.count) k io.awaited g.ready.nonces)

pub probe_timed : (h : Held) (op : CallOp) (io : Io) (k : ℕ) (timed : List TimedOut) → IsUsable h → ReadsNone h op io →
    MovedFits h op io.got (probes h io.got timed (not_of k io.awaited))
probe_timed h op io k timed u g =
    probes_fit h op io.got timed (not_of k io.awaited) (record { checked = u.checked; is = g.is; covers = g.covers }) g.none
    (rest_under h io.awaited k g.reads) (rest_below (nonce_at h h.count) k io.awaited g.nonces) (present_position h u)
