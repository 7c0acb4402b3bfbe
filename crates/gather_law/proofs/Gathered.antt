-- A gather keeps all that its write needs had or awaited.
use Rattle.std.proofs.Common.{◌≡◌, ◌<◌, ◌≤◌, ◌⊎◌, ℕ, ◌+◌, false, List, [], ◌∷◌, ◌++◌, length, refl, arith, inl, inr, ne_eqb, map}
use Rattle.std.specs.Prelude.{None, Some, Option, is_some}
use Rattle.osd_lists.proofs.Options.{none_there}
use Rattle.data_map.specs.Check.{IsChecked}
use Rattle.data_map.specs.Striping.{parities, position_of, offset_of}
use Rattle.stripe_plan.specs.declared.plan.Stretch.{Stretch}
use Rattle.stripe_plan.specs.declared.plan.Aim.TheVariants.{Gathers as ToGather}
use Rattle.stripe_plan.specs.Touched.{stripes}
use Rattle.stripe_plan.specs.Lost.{unwritable}
use Rattle.stripe_plan.specs.Asks.{asks}
use Rattle.stripe_plan.specs.Laws.{IsFetched}
use Rattle.server_rules.specs.Laws.{In}
use Rattle.client_rules.specs.Calls.{span_of}
use Rattle.client_rules.specs.Commands.{nonce_at, others, not_of, read_commands}
use Rattle.client_rules.specs.Io.{outs, had, got_of}
use Rattle.client_rules.specs.Laws.{nonce_of}
use Rattle.client_rules.specs.Replies.{performed, gather_timed}
use Rattle.client_rules.specs.Writes.{gathers, gathers_on, gathers_due, is_too_short}
use Rattle.client_rules.proofs.Apart.{IsIn}
use Rattle.exchange_law.proofs.Covers.{HasStretch as WasHad, IsAsked, asks_cover}
use Rattle.exchange_law.proofs.Had.{AreBelow as WereBelow, had_sent, had_got, had_replied, others_below, rest_below, sent_below}
use Rattle.exchange_law.proofs.Rising.{Each}
use Rattle.gather_law.specs.ClientState.{CallOp, Held, Awaited, TimedOut, Io, Gathers, Reply, Span, Column, RawMap}
use Rattle.gather_law.specs.Ready.{HasStretch, AreBelow, IsReady, IsSome, IsRight, GathersAreReady}

-- ---- the words of exchange_law

had_to : (ts : List Stretch) (p z : ℕ) → HasStretch ts p z → WasHad ts p z
had_to [] p z h = absurd h
had_to (t ∷ ts) p z (inl h) = inl h
had_to (t ∷ ts) p z (inr h) = inr (had_to ts p z h)

had_from : (ts : List Stretch) (p z : ℕ) → WasHad ts p z → HasStretch ts p z
had_from [] p z h = absurd h
had_from (t ∷ ts) p z (inl h) = inl h
had_from (t ∷ ts) p z (inr h) = inr (had_from ts p z h)

each_to : (top : ℕ) (xs : List Awaited) → ((a : Awaited) → In a xs → nonce_of a ≤ top) → Each (λ n. n ≤ top) (map nonce_of xs)
each_to top [] f = tt
each_to top (x ∷ xs) f = (f x (inl refl), each_to top xs (λ a i. f a (inr i)))

each_from : (top : ℕ) (xs : List Awaited) → Each (λ n. n ≤ top) (map nonce_of xs) → (a : Awaited) → In a xs → nonce_of a ≤ top
each_from top [] e a i = absurd i
each_from top (x ∷ xs) e a (inl i) = rw i e.0
each_from top (x ∷ xs) e a (inr i) = each_from top xs e.1 a i

pub below_to : (top : ℕ) (xs : List Awaited) → AreBelow top xs → WereBelow top xs
below_to top xs b = record { differ = b.differ; below = each_to top xs b.below }

pub below_from : (top : ℕ) (xs : List Awaited) → WereBelow top xs → AreBelow top xs
below_from top xs b = record { differ = b.differ; below = each_from top xs b.below }

pub in_to : (a : Awaited) (xs : List Awaited) → In a xs → IsIn a xs
in_to a [] i = absurd i
in_to a (x ∷ xs) (inl e) = inl e
in_to a (x ∷ xs) (inr i) = inr (in_to a xs i)

-- ---- a gather goes on

-- where nothing is awaited all was fetched
pub fetched : (m : RawMap) (r : Span) (out : List ℕ) (got : List Column) (top : ℕ) → IsReady m r out got [] top →
    0 < parities m → IsFetched ToGather m r got out
fetched m r out got top x some = λ s b c t l n w.
    had_got got (position_of m s c) (offset_of m s b)
    (had_to (had got []) (position_of m s c) (offset_of m s b) (x.needs some s b c t l n w))

goes_on : (h : Held) (op : CallOp) (got : List Column) (timed : List TimedOut) (sent awaited : List Awaited) →
    IsChecked h.map → IsSome op →
    IsReady h.map (span_of op) (outs h timed) got awaited (nonce_at h (h.count + length sent)) →
    IsRight h op (gathers_on h op got timed sent awaited)
unfolding gathers_on
goes_on h op got timed sent [] ch is x =
    inl (
      got,
      timed,
      refl,
      record {
        checked = ch;
        long = is.long;
        can = x.can;
        fetched = fetched h.map (span_of op) (outs h timed) got (nonce_at h (h.count + length sent)) x;
      },
    )
goes_on h op got timed sent (a ∷ xs) ch is x =
    inr (record { awaited = a ∷ xs; got = got; timed = timed }, sent, refl, refl, x)

-- what is due is what the gather asks
due_is : (h : Held) (r : Span) (got : List Column) (timed : List TimedOut) (awaited : List Awaited) → 0 < parities h.map →
    gathers_due h r got timed awaited ≡ asks ToGather h.map r (outs h timed) (had got awaited) (stripes h.map r)
unfolding gathers_due
due_is h r got timed awaited some = rw (ne_eqb (parities h.map) 0 (λ e. absurd (omega (arith, e, some)))) refl

pub ready_sent : (h : Held) (r : Span) (got : List Column) (timed : List TimedOut) (awaited : List Awaited) → 0 < r.length →
    unwritable h.map (outs h timed) (stripes h.map r) ≡ None → AreBelow (nonce_at h h.count) awaited →
    IsReady h.map r (outs h timed) got (awaited ++ read_commands h (gathers_due h r got timed awaited))
    (nonce_at h (h.count + length (read_commands h (gathers_due h r got timed awaited))))
ready_sent h r got timed awaited len can b = record {
  can = can;
  needs = λ some s b c t l n w.
      let p : ℕ = position_of h.map s c in
      let z : ℕ = offset_of h.map s b in
      let cover : WasHad (had got awaited) p z ⊎ IsAsked (gathers_due h r got timed awaited) p z =
      rw (due_is h r got timed awaited some)
      (asks_cover ToGather h.map r (outs h timed) (had got awaited) s b c tt len t l n w) in
      had_from (had got (awaited ++ read_commands h (gathers_due h r got timed awaited))) p z
      (had_sent h got awaited (gathers_due h r got timed awaited) p z cover);
  nonces = below_from _ _ (sent_below h awaited (gathers_due h r got timed awaited) (below_to _ awaited b));
}

gather_begins : (h : Held) (op : CallOp) (got : List Column) (timed : List TimedOut) (awaited : List Awaited) →
    IsChecked h.map → IsSome op → unwritable h.map (outs h timed) (stripes h.map (span_of op)) ≡ None →
    AreBelow (nonce_at h h.count) awaited → IsRight h op (gathers h op got timed awaited)
unfolding gathers
gather_begins h op got timed awaited ch is can b =
    goes_on h op got timed (read_commands h (gathers_due h (span_of op) got timed awaited))
    (awaited ++ read_commands h (gathers_due h (span_of op) got timed awaited)) ch is
    (ready_sent h (span_of op) got timed awaited is.some can b)

-- ---- replies and timeouts

pub ready_replied : (m : RawMap) (r : Span) (out : List ℕ) (got : List Column) (awaited : List Awaited) (a : Awaited)
    (reply : Reply) (top : ℕ) → In a awaited → IsReady m r out got awaited top →
    IsReady m r out (got ++ got_of a reply ∷ []) (others awaited a.command.nonce) top
ready_replied m r out got awaited a reply top i x = record {
  can = x.can;
  needs = λ some s b c t l n w.
      had_from (had (got ++ got_of a reply ∷ []) (others awaited a.command.nonce)) (position_of m s c) (offset_of m s b)
      (had_replied got awaited a reply (position_of m s c) (offset_of m s b) x.nonces.differ (in_to a awaited i)
      (had_to (had got awaited) (position_of m s c) (offset_of m s b) (x.needs some s b c t l n w)));
  nonces = below_from _ _ (others_below top a.command.nonce awaited (below_to top awaited x.nonces));
}

pub no_more : (h : Held) → nonce_at h h.count ≡ nonce_at h (h.count + 0)
no_more h = omega arith

gather_hears : (h : Held) (op : CallOp) (io : Io) (a : Awaited) (r : Reply) → IsChecked h.map → IsSome op →
    In a io.awaited → IsReady h.map (span_of op) (outs h io.timed) io.got io.awaited (nonce_at h h.count) →
    IsRight h op (performed h op (Gathers io) a r)
gather_hears h op io a r ch is i x =
    goes_on h op (io.got ++ got_of a r ∷ []) io.timed [] (others io.awaited a.command.nonce) ch is (rw (no_more h) at
    (ready_replied h.map (span_of op) (outs h io.timed) io.got io.awaited a r (nonce_at h h.count) i x))

pub long_enough : (h : Held) (op : CallOp) (timed : List TimedOut) → is_too_short h op timed ≡ false →
    unwritable h.map (outs h timed) (stripes h.map (span_of op)) ≡ None
unfolding is_too_short
long_enough h op timed e = none_there (unwritable h.map (outs h timed) (stripes h.map (span_of op))) e

gather_times_out : (h : Held) (op : CallOp) (io : Io) (k : ℕ) (timed : List TimedOut) → IsChecked h.map → IsSome op →
    is_too_short h op timed ≡ false →
    IsReady h.map (span_of op) (outs h io.timed) io.got io.awaited (nonce_at h h.count) →
    IsRight h op (gather_timed h op io k timed)
unfolding gather_timed
gather_times_out h op io k timed ch is e x =
    rw e (gather_begins h op io.got timed (not_of k io.awaited) ch is (long_enough h op timed e)
    (below_from _ _ (rest_below (nonce_at h h.count) k io.awaited (below_to _ io.awaited x.nonces))))

pub gathers_are_ready : GathersAreReady
gathers_are_ready = record { begins = gather_begins; replies = gather_hears; times_out = gather_times_out }
