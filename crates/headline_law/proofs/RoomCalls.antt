-- A call sends few commands under a grant, at each moment: its dealings with the drives are those of one call from its begin on.
-- Towards `CutsHaveRoom` (`specs/Parts.antt`).
use Rattle.std.proofs.Common.{◌≡◌, ◌==◌, ◌≤◌, ◌<◌, ◌+◌, ◌*◌, ◌-◌, ◌/◌, ℕ, zero, suc, false, min, List, ◌∷◌, ◌++◌, length, refl, subst, inl, inr, arith}
use Rattle.std.proofs.Math.Nat.{div-zero, div-le_of_le-mul, lt-div-mul-add}
use Rattle.std.proofs.lemmas.Bool.{cases_Bool}
use Rattle.std.proofs.lemmas.List.{length-append}
use Rattle.std.proofs.lemmas.List.FromFn.{length-range_with_len}
use Rattle.std.proofs.lemmas.Nat.{mul-le}
use Rattle.data_map.specs.declared.check.RawMap.{RawMap}
use Rattle.data_map.specs.declared.check.TheConstants.{MAX_COMPONENTS}
use Rattle.data_map.specs.Striping.{stripe_length, stripe_of}
use Rattle.stripe_plan.specs.declared.plan.Span.{Span}
use Rattle.stripe_plan.specs.Touched.{end_of, stripes}
use Rattle.client_rules.specs.declared.limits.TheConstants.{MAX_CALL}
use Rattle.client_rules.specs.Calls.{span_of, is_write}
use Rattle.client_rules.specs.Io.{awaited_in}
use Rattle.client_rules.specs.Commands.{of_component}
use Rattle.client_rules.specs.Going.{begins}
use Rattle.client_rules.specs.Replies.{replied, timed_out}
use Rattle.client_rules.proofs.Numbering.{nonces_rise}
use Rattle.server_rules.specs.Laws.{In}
use Rattle.world_history.specs.ClientNames.{Awaited, CallOp, Held, Moved, Phase, Goes, Reply}
use Rattle.load_law.specs.Load.{Deals, AtBegin, AtReply, AtTimeout, reached, stripes_reached}
use Rattle.load_law.proofs.Runs.{each_call_sends_few}
use Rattle.relation_law.proofs.MessagesClients.{IsUsable}

-- A call is in this phase under grant g by its dealings with the drives, which began when at most n commands had been sent
-- under the grant.
pub record Dealt (n : ℕ) (g : Held) (op : CallOp) (p : Phase) : Type 0 where
  pub first : Held
  pub low : first.count ≤ n
  pub usable : IsUsable first
  pub moved : Moved
  pub sent : List Awaited
  pub deals : Deals first op moved sent
  pub held : moved.held ≡ g
  pub turn : moved.turn ≡ Goes p
  pub counted : g.count ≡ first.count + length sent

-- so it is where more had been sent
pub more_dealt : (m n : ℕ) (g : Held) (op : CallOp) (p : Phase) → m ≤ n → Dealt m g op p → Dealt n g op p
more_dealt m n g op p l k = record {
  first = k.first;
  low = omega (arith, l, k.low);
  usable = k.usable;
  moved = k.moved;
  sent = k.sent;
  deals = k.deals;
  held = k.held;
  turn = k.turn;
  counted = k.counted;
}

-- ---- it goes on

pub begins_dealt : (n : ℕ) (h : Held) (op : CallOp) → h.count ≤ n → IsUsable h → (p : Phase) → (begins h op).turn ≡ Goes p →
    Dealt n (begins h op).held op p
begins_dealt n h op low usable p goes = record {
  first = h;
  low = low;
  usable = usable;
  moved = begins h op;
  sent = (begins h op).sent;
  deals = AtBegin;
  held = refl;
  turn = goes;
  counted = (nonces_rise.begun h op).counted;
}

later_count : (n k m : ℕ) (xs ys : List Awaited) → k ≡ n + length xs → m ≡ k + length ys → m ≡ n + length (xs ++ ys)
later_count n k m xs ys a b = omega (arith, a, b, length-append xs ys)

pub replied_dealt : (n : ℕ) (h : Held) (op : CallOp) (q : Phase) → Dealt n h op q → (a : Awaited) (r : Reply) →
    In a (awaited_in q) → (p : Phase) → (replied h op q a r).turn ≡ Goes p → Dealt n (replied h op q a r).held op p
replied_dealt n h op q k a r there p goes = record {
  first = k.first;
  low = k.low;
  usable = k.usable;
  moved = replied h op q a r;
  sent = k.sent ++ (replied h op q a r).sent;
  deals =
      subst (λ (x : Held). Deals k.first op (replied x op q a r) (k.sent ++ (replied x op q a r).sent)) k.held
      (AtReply k.moved k.sent q a r k.deals k.turn there);
  held = refl;
  turn = goes;
  counted = later_count k.first.count h.count _ k.sent _ k.counted (nonces_rise.replied h op q a r).counted;
}

pub timed_dealt : (n : ℕ) (h : Held) (op : CallOp) (q : Phase) → Dealt n h op q → (j : ℕ) (a : Awaited) (xs : List Awaited) →
    of_component j (awaited_in q) ≡ a ∷ xs → (p : Phase) → (timed_out h op q j a xs).turn ≡ Goes p →
    Dealt n (timed_out h op q j a xs).held op p
timed_dealt n h op q k j a xs some p goes = record {
  first = k.first;
  low = k.low;
  usable = k.usable;
  moved = timed_out h op q j a xs;
  sent = k.sent ++ (timed_out h op q j a xs).sent;
  deals =
      subst (λ (x : Held). Deals k.first op (timed_out x op q j a xs) (k.sent ++ (timed_out x op q j a xs).sent)) k.held
      (AtTimeout k.moved k.sent q j a xs k.deals k.turn some);
  held = refl;
  turn = goes;
  counted = later_count k.first.count h.count _ k.sent _ k.counted (nonces_rise.timed h op q j a xs).counted;
}

-- ---- how many commands it has sent

next_quotient : (x u : ℕ) → (x + 1) / u ≤ x / u + 1
next_quotient x zero = rw (div-zero (x + 1)) (omega arith)
next_quotient x (suc u) =
    div-le_of_le-mul (suc u)
    (let l : x < x / suc u * suc u + suc u = lt-div-mul-add (omega arith) in omega (arith, l))

later_quotient : (x k u : ℕ) → (x + k) / u ≤ x / u + k
later_quotient x zero u = let same : x + 0 ≡ x = omega arith in rw same (omega arith)
later_quotient x (suc k) u =
    let rest : (x + 1 + k) / u ≤ (x + 1) / u + k = later_quotient (x + 1) k u in
    let same : x + suc k ≡ x + 1 + k = omega arith in
    rw same (omega (arith, rest, next_quotient x u))

-- a range touches no more stripes than it has bytes
few_stripes : (m : RawMap) (r : Span) → length (stripes m r) ≤ r.length
unfolding stripes
few_stripes m r = elim (cases_Bool (r.length == 0)) [
  | inl none ↦ rw none (omega arith)
  | inr some ↦
      rw (some, length-range_with_len (stripe_of m r.offset) (stripe_of m (end_of r - 1) + 1 - stripe_of m r.offset))
      (less (stripe_of m (end_of r - 1)) (stripe_of m r.offset) r.length (some_byte r.length some)
      (between r.offset r.length (stripe_length m) (some_byte r.length some)))
]
  where
    some_byte : (n : ℕ) → (n == 0) ≡ false → 0 < n
    some_byte zero e = absurd (cc e)
    some_byte (suc n) e = omega arith

    less : (a b l : ℕ) → 0 < l → a ≤ b + (l - 1) → a + 1 - b ≤ l
    less a b l some few = omega (arith, some, few)

    between : (o l u : ℕ) → 0 < l → (o + l - 1) / u ≤ o / u + (l - 1)
    between o l u some =
        let same : o + l - 1 ≡ o + (l - 1) = omega (arith, some) in rw same (later_quotient o (l - 1) u)

few_reached : (h : Held) (op : CallOp) → (reached h op).length ≤ (span_of op).length
few_reached h op = elim (cases_Bool (is_write op)) [
  | inl w ↦ rw w (omega arith)
  | inr r ↦ rw r (shorter (span_of op).offset (span_of op).length h.size)
]
  where
    shorter : (off len size : ℕ) → min (off + len) size - off ≤ len
    shorter off len size = omega arith

-- A call of a range within the limit has sent fewer commands under its grant than a grant has numbers for.
pub few_dealt : (n : ℕ) (g : Held) (op : CallOp) (p : Phase) → Dealt n g op p → (span_of op).length ≤ MAX_CALL →
    g.count ≤ n + 6 * MAX_COMPONENTS * MAX_CALL
few_dealt n g op p k short =
    let sent : length k.sent ≤ 6 * k.first.map.comps * stripes_reached k.first op =
    each_call_sends_few k.first op k.usable.checked k.usable.long k.moved k.sent k.deals in
    let touched : length (stripes k.first.map (reached k.first op)) ≤ MAX_CALL =
    (let a = few_stripes k.first.map (reached k.first op) in let b = few_reached k.first op in omega (arith, a, b, short)) in
    let most : stripes_reached k.first op ≤ MAX_CALL = omega (arith, touched) in
    let comps : 6 * k.first.map.comps ≤ 6 * MAX_COMPONENTS = omega (arith, k.usable.checked.few_components) in
    let all : 6 * k.first.map.comps * stripes_reached k.first op ≤ 6 * MAX_COMPONENTS * MAX_CALL =
    mul-le (6 * k.first.map.comps) (stripes_reached k.first op) (6 * MAX_COMPONENTS) MAX_CALL comps most in
    omega (arith, sent, all, k.low, k.counted)
