-- What a call awaits where it can leave out what is lost, as replies come, components time out, and more is sent.
use Rattle.std.proofs.Common.{◌≡◌, ◌≢◌, ◌≤◌, ◌<◌, ℕ, suc, ◌+◌, ◌==◌, ◌++◌, not, Bool, true, false, List, [], ◌∷◌, length, map, refl, sym, ap, subst, ◌∙◌, inl, arith}
use Rattle.std.specs.List.{AllByRecursion, range_with_len}
use Rattle.std.proofs.lemmas.Bool.{eq-eqb, eqb-true}
use Rattle.std.proofs.lemmas.List.{append-nil, map-append}
use Rattle.stripe_plan.specs.declared.plan.Ask.{Ask}
use Rattle.stripe_plan.specs.declared.plan.Store.{Store}
use Rattle.server_rules.specs.Laws.{In}
use Rattle.server_rules.proofs.Members.{in_filtered}
use Rattle.stripe_plan.specs.Lost.{among}
use Rattle.client_rules.specs.Commands.{credential_of, command, sealed, numbered, nonce_at, counted, carrying_none, others, of_component, not_of}
use Rattle.client_rules.specs.Io.{outs}
use Rattle.client_rules.specs.Laws.{nonce_of}
use Rattle.client_rules.specs.Replies.{timed_after}
use Rattle.client_rules.specs.Requests.{object_of}
use Rattle.client_rules.specs.Writes.{without_component}
use Rattle.client_rules.proofs.Numbering.{numbered_from}
use Rattle.exchange_law.specs.ClientNonces.{AllDiffer}
use Rattle.exchange_law.proofs.Had.{AreBelow, others_below, rest_below, differ_range}
use Rattle.exchange_law.proofs.Parts.{each_more}
use Rattle.exchange_law.proofs.PlaceLists.{all_wider, all_map}
use Rattle.exchange_law.proofs.Rising.{Each, each_map}
use Rattle.world_history.specs.ClientNames.{CallOp, Held, Awaited, TimedOut}
use Rattle.ready_law.specs.Reacting.{IsOfCall, MayAsk, IsAwaitedWell, components_of, IsLostThere, AreTimedWell}
use Rattle.ready_law.proofs.ReactingAsks.{all_there, one_of}
use Rattle.ready_law.proofs.ReactingTimed.{still_there, one_more}

-- ---- under a grant that has given more nonces

module _ (h : Held) (op : CallOp) (n : ℕ) where
  abbrev counting : Held
  counting = record h { count = n }

  of_call : (k : ℕ) → IsOfCall h op k → IsOfCall counting op k
  of_call k c = record { listed = c.listed; reached = c.reached }

  pub may_still : (timed : List TimedOut) (write : Bool) (a : Ask) → MayAsk h op timed write a → MayAsk counting op timed write a
  unfolding outs
  may_still timed write a m = record { asks = of_call a.component m.asks; there = m.there; end = m.end }

  pub timed_still : (lost : List ℕ) (timed : List TimedOut) → AreTimedWell h op lost timed → AreTimedWell counting op lost timed
  timed_still lost timed w = record {
    each =
        all_wider (IsLostThere h op lost) (IsLostThere counting op lost)
        (λ k l. record { gone = l.gone; asked = of_call k l.asked }) (components_of timed) w.each;
    rise = w.rise;
  }

  awaited_still : h.count ≤ n → (timed : List TimedOut) (write : Bool) (y : Awaited) → IsAwaitedWell h op timed write y
      → IsAwaitedWell counting op timed write y
  unfolding command credential_of object_of
  awaited_still more timed write y w = record {
    store = w.store;
    number = w.number;
    is = w.is;
    low = omega (arith, w.low, more);
    may = may_still timed write y.ask w.may;
  }

  -- ---- commands

  numbered_well : (timed : List TimedOut) (write : Bool) (count : ℕ) (ws : List Store) → count + length ws ≤ n
      → AllByRecursion (λ (w : Store). MayAsk h op timed write w.ask) ws
      → AllByRecursion (IsAwaitedWell counting op timed write) (numbered h write count ws)
  unfolding numbered command credential_of object_of
  numbered_well timed write count [] low all = tt
  numbered_well timed write count (w ∷ ws) low all = (
    record {
      store = w;
      number = count + 1;
      is = refl;
      low = omega (arith, low);
      may = may_still timed write w.ask all.0;
    },
    numbered_well timed write (count + 1) ws (omega (arith, low)) all.1,
  )

numbered_length : (h : Held) (write : Bool) (count : ℕ) (ws : List Store) → length (numbered h write count ws) ≡ length ws
unfolding numbered
numbered_length h write count [] = refl
numbered_length h write count (w ∷ ws) = ap suc (numbered_length h write (count + 1) ws)

numbered_above : (h : Held) (write : Bool) (low count : ℕ) (ws : List Store) → low ≤ count
    → AllByRecursion (λ (y : Awaited). nonce_at h low < nonce_of y) (numbered h write count ws)
unfolding numbered command sealed
numbered_above h write low count [] l = tt
numbered_above h write low count (w ∷ ws) l =
    (omega (arith, l), numbered_above h write low (count + 1) ws (omega (arith, l)))

module _ (h : Held) (op : CallOp) (timed : List TimedOut) (write : Bool) where
  pub nonce_low : (y : Awaited) → IsAwaitedWell h op timed write y → nonce_of y ≤ nonce_at h h.count
  unfolding command sealed
  nonce_low y w =
      let is : nonce_of y ≡ nonce_at h w.number = ap nonce_of w.is in
      omega (arith, is, w.low)

  nonces_low : (xs : List Awaited) → AllByRecursion (IsAwaitedWell h op timed write) xs
      → Each (λ (n : ℕ). n ≤ nonce_at h h.count) (map nonce_of xs)
  nonces_low [] all = tt
  nonces_low (x ∷ xs) all = (nonce_low x all.0, nonces_low xs all.1)

  below : (xs : List Awaited) → AllByRecursion (IsAwaitedWell h op timed write) xs → AllDiffer (map nonce_of xs)
      → AreBelow (nonce_at h h.count) xs
  below xs all differ = record { differ = differ; below = nonces_low xs all }

-- ---- in a turn

-- These are awaited: the rest and what is sent, with the grant's next nonces.
pub record Sends (h : Held) (op : CallOp) (timed : List TimedOut) (write : Bool) (rest sent awaited : List Awaited) : Type 0 where
  pub is : awaited ≡ rest ++ sent
  pub each : AllByRecursion (IsAwaitedWell (counted h sent) op timed write) awaited
  pub differ : AllDiffer (map nonce_of awaited)
  pub nonces : map nonce_of sent ≡ range_with_len (nonce_at h h.count + 1) (length sent)
  pub above : AllByRecursion (λ (y : Awaited). nonce_at h h.count < nonce_of y) sent

module _ (h : Held) (op : CallOp) (timed : List TimedOut) (write : Bool) where
  differ_more : (xs ys : List Awaited) → map nonce_of ys ≡ range_with_len (nonce_at h h.count + 1) (length ys)
      → AreBelow (nonce_at h h.count) xs → AllDiffer (map nonce_of (xs ++ ys))
  differ_more xs ys next b =
      let all : map nonce_of (xs ++ ys) ≡ map nonce_of xs ++ range_with_len (nonce_at h h.count + 1) (length ys) =
      map-append nonce_of xs ys ∙ ap (λ (zs : List ℕ). map nonce_of xs ++ zs) next in
      subst AllDiffer (sym all)
      (differ_range (nonce_at h h.count + 1) (length ys) (map nonce_of xs) b.differ
      (each_map _ _ (λ x l. omega (arith, l)) (map nonce_of xs) b.below))

  -- these are sent
  pub sends_more : (rest : List Awaited) (ws : List Store) → AllByRecursion (IsAwaitedWell h op timed write) rest
      → AllDiffer (map nonce_of rest) → AllByRecursion (λ (w : Store). MayAsk h op timed write w.ask) ws
      → Sends h op timed write rest (numbered h write h.count ws) (rest ++ numbered h write h.count ws)
  sends_more rest ws all differ may =
      let sent : List Awaited = numbered h write h.count ws in
      let long : length sent ≡ length ws = numbered_length h write h.count ws in
      let next : map nonce_of sent ≡ range_with_len (nonce_at h h.count + 1) (length sent) =
      numbered_from h write h.count _ ws refl in
      record {
        is = refl;
        each =
            each_more (IsAwaitedWell (counted h sent) op timed write) rest sent
            (all_wider _ (IsAwaitedWell (counted h sent) op timed write)
            (λ y w. awaited_still h op (h.count + length sent) (omega arith) timed write y w) rest all)
            (numbered_well h op (h.count + length sent) timed write h.count ws (omega (arith, long)) may);
        differ = differ_more rest sent next (below h op timed write rest all differ);
        nonces = next;
        above = numbered_above h write h.count h.count ws (omega arith);
      }

  -- or none
  pub sends_none : (rest : List Awaited) → AllByRecursion (IsAwaitedWell h op timed write) rest
      → AllDiffer (map nonce_of rest) → Sends h op timed write rest [] rest
  sends_none rest all differ = record {
    is = sym (append-nil rest);
    each =
        all_wider _ (IsAwaitedWell (counted h []) op timed write)
        (λ y w. awaited_still h op (h.count + 0) (omega arith) timed write y w) rest all;
    differ = differ;
    nonces = refl;
    above = tt;
  }

-- READs
pub carrying_may : (h : Held) (op : CallOp) (timed : List TimedOut) (xs : List Ask) → AllByRecursion (MayAsk h op timed false) xs
    → AllByRecursion (λ (w : Store). MayAsk h op timed false w.ask) (carrying_none xs)
carrying_may h op timed xs all =
    all_map (λ (a : Ask). record { ask = a; bytes = [] }) (MayAsk h op timed false)
    (λ (w : Store). MayAsk h op timed false w.ask) (λ a m. m) xs all

-- ---- what is left

module _ (h : Held) (op : CallOp) (timed : List TimedOut) (write : Bool) (xs : List Awaited)
    (all : AllByRecursion (IsAwaitedWell h op timed write) xs) (differ : AllDiffer (map nonce_of xs)) where
  -- but for what was performed
  pub others_well : (n : ℕ) → AllByRecursion (IsAwaitedWell h op timed write) (others xs n)
  unfolding others
  others_well n = all_there _ (others xs n) (λ y i. one_of _ xs all y (in_filtered _ y xs i).0)

  pub others_differ : (n : ℕ) → AllDiffer (map nonce_of (others xs n))
  others_differ n = (others_below (nonce_at h h.count) n xs (below h op timed write xs all differ)).differ

  -- but for those of a component that timed out
  pub rest_differ : (k : ℕ) → AllDiffer (map nonce_of (not_of k xs))
  rest_differ k = (rest_below (nonce_at h h.count) k xs (below h op timed write xs all differ)).differ

  module _ (k : ℕ) (a : Awaited) (ys : List Awaited) (is : of_component k xs ≡ a ∷ ys) where
    -- it was asked
    pub one_there : In a xs × (a.ask.component ≡ k)
    unfolding of_component
    one_there =
        let i = in_filtered (λ (x : Awaited). x.ask.component == k) a xs
        (subst (λ (zs : List Awaited). In a zs) (sym is) (inl refl)) in
        (i.0, eqb-true a.ask.component k i.1)

    pub may_rest : (b : Ask) → b.component ≢ k → MayAsk h op timed write b → MayAsk h op (timed_after timed a ys) write b
    may_rest b ne m = record {
      asks = m.asks;
      there = still_there h op [] k xs a ys is timed b.component ne m.there;
      end = m.end;
    }

    apart : (j : ℕ) → not (j == k) ≡ true → j ≢ k
    apart j e s = absurd (cc (sym e ∙ ap not (eq-eqb j k s)))

    pub rest_well : AllByRecursion (IsAwaitedWell h op (timed_after timed a ys) write) (not_of k xs)
    unfolding not_of
    rest_well =
        all_there _ (not_of k xs)
        (λ y i. let old = in_filtered (λ (x : Awaited). not (x.ask.component == k)) y xs i in
        let w = one_of _ xs all y old.0 in
        record {
          store = w.store;
          number = w.number;
          is = w.is;
          low = w.low;
          may = may_rest y.ask (apart y.ask.component old.1) w.may;
        })

    pub queue_rest : (queue : List Store) → AllByRecursion (λ (w : Store). MayAsk h op timed write w.ask) queue
        → AllByRecursion (λ (w : Store). MayAsk h op (timed_after timed a ys) write w.ask) (without_component k queue)
    unfolding without_component
    queue_rest queue may =
        all_there _ (without_component k queue)
        (λ w i. let old = in_filtered (λ (x : Store). not (x.ask.component == k)) w queue i in
        may_rest w.ask (apart w.ask.component old.1) (one_of _ queue may w old.0))

    pub timed_well : (lost : List ℕ) → AreTimedWell h op lost timed → among k lost ≡ true
        → AreTimedWell h op lost (timed_after timed a ys)
    timed_well lost well gone =
        let w = one_of _ xs all a one_there.0 in
        one_more h op lost k xs a ys is timed well gone
        (subst (IsOfCall h op) one_there.1 w.may.asks)
        (subst (λ (j : ℕ). among j (outs h timed) ≡ false) one_there.1 w.may.there)
