-- A scatter goes on: at its begin, behind a reply, and where a component times out each store of its plan was performed, is
-- awaited or is queued, or its component timed out.
use Rattle.std.proofs.Common.{◌≡◌, ◌⊎◌, ◌==◌, ℕ, ◌+◌, true, false, not, nat_lt, List, [], ◌∷◌, ◌++◌, refl, sym, ap, subst, ◌∙◌, inl, inr}
use Rattle.std.proofs.lemmas.Bool.{cases_Bool, cases_eq, eq-eqb, ne_eqb, eqb-true}
use Rattle.stripe_plan.specs.declared.plan.Ask.{Ask}
use Rattle.stripe_plan.specs.Lost.{among}
use Rattle.stripe_plan.specs.Plans.{stores}
use Rattle.server_rules.specs.Laws.{In}
use Rattle.server_rules.proofs.Members.{in_front, in_behind, in_either, in_filtered}
use Rattle.client_rules.specs.declared.limits.TheConstants.{PERFORMED}
use Rattle.client_rules.specs.Calls.{span_of, bytes_of}
use Rattle.client_rules.specs.Commands.{awaited_for, command, sealed, nonce_at, numbered, others, not_of, of_component, write_commands}
use Rattle.client_rules.specs.Io.{outs, got_of}
use Rattle.client_rules.specs.Replies.{timed_after}
use Rattle.client_rules.specs.Writes.{firsts, laters, next_to, without_next, without_component}
use Rattle.world_history.specs.ClientNames.{CallOp, Held, Awaited, TimedOut, Store, Column, Reply}
use Rattle.cause_law.specs.Met as met
use Rattle.cause_law.specs.Met.{Met, Replied, rising_with, timed_in}
use Rattle.cause_law.specs.Read.{read_in}
use Rattle.cause_law.proofs.Trace.{comps, timed_more}
use Rattle.plan_law.specs.Sending.{MayScatter}
use Rattle.relation_law.specs.CallsTurns.{IsQueueBehind}
use Rattle.relation_law.proofs.CallsDone.{in_others, from_others}
use Rattle.relation_law.proofs.CallsOut.{in_passed}
use Rattle.relation_law.proofs.MessagesBehind.{numbered_there}
use Rattle.history_claims.proofs.StoredParts.{AreAlike, Carries, IsPlanned, none_planned, IsAwaited, Stands, Under, Gathering, Scattering, under_replied}

-- ---- components that timed out

in_rising : (k j : ℕ) (js : List ℕ) → In j js → In j (rising_with k js)
unfolding rising_with
in_rising k j [] i = absurd i
in_rising k j (x ∷ js) i = elim (cases_Bool (nat_lt k x)) [
  | inl t ↦ rw t (inr i)
  | inr f ↦ rw f (elim i [ inl same ↦ inl same | inr later ↦ inr (in_rising k j js later) ])
]

its_rising : (k : ℕ) (js : List ℕ) → In k (rising_with k js)
unfolding rising_with
its_rising k [] = inl refl
its_rising k (x ∷ js) = elim (cases_Bool (nat_lt k x)) [
  | inl t ↦ rw t (inl refl)
  | inr f ↦ rw f (inr (its_rising k js))
]

some_rising : (k : ℕ) (js : List ℕ) → rising_with k js ≡ [] → ⊥
some_rising k js e = subst (In k) e (its_rising k js)

-- a call that nothing timed out has no timeout under another grant
pub quiet_alike : (h : Held) (ms : List Met) → timed_in ms ≡ [] → AreAlike h ms
unfolding timed_in
quiet_alike h [] e = tt
quiet_alike h (met.Answered r a ∷ ms) e = quiet_alike h ms e
quiet_alike h (Replied a r ∷ ms) e = quiet_alike h ms e
quiet_alike h (met.TimedOut g k ∷ ms) e = absurd (some_rising k (timed_in ms) e)

-- ---- the commands of stores

numbered_carry : (h : Held) (count : ℕ) (ws : List Store) (w : Store) → In w ws → IsAwaited h (numbered h true count ws) w
unfolding numbered command sealed
numbered_carry h count [] w i = absurd i
numbered_carry h count (v ∷ ws) w (inl e) =
    subst (IsAwaited h (numbered h true count (v ∷ ws))) (sym e) (
      awaited_for h true v (nonce_at h (count + 1)),
      inl refl,
      record {
        ask = refl;
        writes = refl;
        write = refl;
        drive = refl;
        capability = refl;
        partition = refl;
        object = refl;
        offset = refl;
        payload = refl;
      },
    )
numbered_carry h count (v ∷ ws) w (inr i) = let r = numbered_carry h (count + 1) ws w i in (r.0, inr r.1, r.2)

writes_carry : (h : Held) (ws : List Store) (w : Store) → In w ws → IsAwaited h (write_commands h ws) w
unfolding write_commands
writes_carry h ws w i = numbered_carry h h.count ws w i

-- and each is for one of the stores
numbered_back : (h : Held) (count : ℕ) (ws : List Store) (a : Awaited) → In a (numbered h true count ws) → IsPlanned h ws a
unfolding numbered command sealed
numbered_back h count [] a i = absurd i
numbered_back h count (w ∷ ws) a (inl e) =
    subst (IsPlanned h (w ∷ ws)) (sym e) (
      w,
      inl refl,
      record {
        ask = refl;
        writes = refl;
        write = refl;
        drive = refl;
        capability = refl;
        partition = refl;
        object = refl;
        offset = refl;
        payload = refl;
      },
    )
numbered_back h count (w ∷ ws) a (inr i) = let r = numbered_back h (count + 1) ws a i in (r.0, inr r.1, r.2)

writes_back : (h : Held) (ws plan : List Store) → ((w : Store) → In w ws → In w plan) → (a : Awaited) →
    In a (write_commands h ws) → IsPlanned h plan a
unfolding write_commands
writes_back h ws plan sub a i = let r = numbered_back h h.count ws a i in (r.0, sub r.0 r.1, r.2)

awaited_behind : (h : Held) (xs ys : List Awaited) (w : Store) → IsAwaited h ys w → IsAwaited h (xs ++ ys) w
awaited_behind h xs ys w (a, i, c) = (a, in_behind a xs ys i, c)

-- ---- the begin

first_or_later : (seen : List ℕ) (all : List Store) (w : Store) → In w all →
    In w (firsts seen all) ⊎ In w (laters seen all)
unfolding firsts laters
first_or_later seen [] w i = absurd i
first_or_later seen (v ∷ ws) w i = elim (cases_Bool (among v.ask.component seen)) [
  | inl t ↦ rw t (elim i [
    | inl same ↦ inr (inl same)
    | inr later ↦ elim (first_or_later seen ws w later) [ inl a ↦ inl a | inr b ↦ inr (inr b) ]
  ])
  | inr f ↦ rw f (elim i [
    | inl same ↦ inl (inl same)
    | inr later ↦ elim (first_or_later (v.ask.component ∷ seen) ws w later) [ inl a ↦ inl (inr a) | inr b ↦ inr b ]
  ])
]

firsts_in : (seen : List ℕ) (all : List Store) (w : Store) → In w (firsts seen all) → In w all
unfolding firsts
firsts_in seen [] w i = absurd i
firsts_in seen (v ∷ ws) w i = elim (cases_Bool (among v.ask.component seen)) [
  | inl t ↦ inr (firsts_in seen ws w (rw t at i))
  | inr f ↦ elim (rw f at i) [ inl e ↦ inl e | inr later ↦ inr (firsts_in (v.ask.component ∷ seen) ws w later) ]
]

laters_in : (seen : List ℕ) (all : List Store) (w : Store) → In w (laters seen all) → In w all
unfolding laters
laters_in seen [] w i = absurd i
laters_in seen (v ∷ ws) w i = elim (cases_Bool (among v.ask.component seen)) [
  | inl t ↦ elim (rw t at i) [ inl e ↦ inl e | inr later ↦ inr (laters_in seen ws w later) ]
  | inr f ↦ inr (laters_in (v.ask.component ∷ seen) ws w (rw f at i))
]

pub scatter_begins : (op : CallOp) (h : Held) (ms : List Met) (got : List Column) (timed : List TimedOut) →
    Gathering op h ms got timed → MayScatter h.map (span_of op) (bytes_of op) got (outs h timed) →
    Scattering op h ms timed
    (write_commands h (firsts [] (stores h.map (span_of op) (bytes_of op) got (outs h timed))))
    (laters [] (stores h.map (span_of op) (bytes_of op) got (outs h timed)))
scatter_begins op h ms got timed x may = record {
  under = x.under;
  got = got;
  first = timed;
  still = λ k i. i;
  read = x.read;
  may = may;
  sent = λ a i. writes_back h _ _ (firsts_in [] (stores h.map (span_of op) (bytes_of op) got (outs h timed))) a i;
  left = laters_in [] (stores h.map (span_of op) (bytes_of op) got (outs h timed));
  alone = none_planned h (stores h.map (span_of op) (bytes_of op) got (outs h timed)) ms x.none;
  each = λ w i. elim (first_or_later [] (stores h.map (span_of op) (bytes_of op) got (outs h timed)) w i) [
    | inl a ↦ inr (inr (inl (writes_carry h _ w a)))
    | inr b ↦ inr (inr (inr b))
  ];
}

-- ---- a reply

next_or_later : (k : ℕ) (queue : List Store) (w : Store) → In w queue → In w (next_to k queue) ⊎ In w (without_next k queue)
unfolding next_to without_next
next_or_later k [] w i = absurd i
next_or_later k (v ∷ ws) w i = elim (cases_Bool (v.ask.component == k)) [
  | inl t ↦ rw t (elim i [ inl same ↦ inl (inl same) | inr later ↦ inr later ])
  | inr f ↦ rw f (elim i [
    | inl same ↦ inr (inl same)
    | inr later ↦ elim (next_or_later k ws w later) [ inl a ↦ inl a | inr b ↦ inr (inr b) ]
  ])
]

next_in : (k : ℕ) (ws : List Store) (x : Store) → In x (next_to k ws) → In x ws
unfolding next_to
next_in k [] x j = absurd j
next_in k (w ∷ ws) x j = elim (cases_Bool (w.ask.component == k)) [
  | inl t ↦ elim (rw t at j) [ inl e ↦ inl e | inr none ↦ absurd none ]
  | inr f ↦ inr (next_in k ws x (rw f at j))
]

left_in : (k : ℕ) (ws : List Store) (x : Store) → In x (without_next k ws) → In x ws
unfolding without_next
left_in k [] x j = absurd j
left_in k (w ∷ ws) x j = elim (cases_Bool (w.ask.component == k)) [
  | inl t ↦ inr (rw t at j)
  | inr f ↦ elim (rw f at j) [ inl e ↦ inl e | inr later ↦ inr (left_in k ws x later) ]
]

-- a reply to a WRITE gives no bytes
writes_read_none : (a : Awaited) (r : Reply) (ms : List Met) → a.write ≡ true → read_in (Replied a r ∷ ms) ≡ read_in ms
unfolding read_in
writes_read_none a r ms is = elim (cases_Bool (r.verdict == PERFORMED)) [
  | inl t ↦ rw (t, is) refl
  | inr f ↦ rw f refl
]

-- one to a READ that was performed gives some
pub reads_more : (a : Awaited) (r : Reply) (ms : List Met) → r.verdict ≡ PERFORMED → a.write ≡ false →
    read_in (Replied a r ∷ ms) ≡ read_in ms ++ got_of a r ∷ []
unfolding read_in
reads_more a r ms performed is = rw (eq-eqb r.verdict PERFORMED performed, is) refl

-- a WRITE was performed, and the next to its component is sent
pub scatter_replied : (op : CallOp) (h : Held) (ms : List Met) (timed : List TimedOut) (awaited : List Awaited)
    (queue : List Store) (a : Awaited) (r : Reply) → r.verdict ≡ PERFORMED → r.nonce ≡ a.command.nonce → In a awaited →
    ((b : Awaited) → In b awaited → b.command.nonce ≡ a.command.nonce → b ≡ a) → Scattering op h ms timed awaited queue →
    Scattering op h (Replied a r ∷ ms) timed
    (others awaited a.command.nonce ++ write_commands h (next_to a.ask.component queue))
    (without_next a.ask.component queue)
scatter_replied op h ms timed awaited queue a r performed nonce there differ x = record {
  under = under_replied op h ms timed a r x.under;
  got = x.got;
  first = x.first;
  still = x.still;
  read = x.read ∙ sym (writes_read_none a r ms (x.sent a there).2.writes);
  may = x.may;
  sent = λ b i. elim (in_either b (others awaited a.command.nonce) _ i) [
    | inl old ↦ x.sent b (from_others b awaited a.command.nonce old).0
    | inr new ↦ writes_back h _ _ (λ w j. x.left w (next_in a.ask.component queue w j)) b new
  ];
  left = λ w i. x.left w (left_in a.ask.component queue w i);
  alone = (λ e. x.sent a there, x.alone);
  each = λ w i. by w (x.each w i);
}
  where
    by : (w : Store) → Stands h ms timed awaited queue w →
        Stands h (Replied a r ∷ ms) timed
        (others awaited a.command.nonce ++ write_commands h (next_to a.ask.component queue))
        (without_next a.ask.component queue) w
    by w (inl done) = inl (inr done)
    by w (inr (inl out)) = inr (inl out)
    by w (inr (inr (inl (b, i, c)))) = elim (cases_eq b.command.nonce a.command.nonce) [
      | inl same ↦ inl (inl (subst (Carries h w) (differ b i same) c, performed, nonce))
      | inr other ↦ inr (inr (inl (
        b,
        in_front b (others awaited a.command.nonce) _ (in_others b awaited a.command.nonce i other),
        c,
      )))
    ]
    by w (inr (inr (inr i))) = elim (next_or_later a.ask.component queue w i) [
      | inl next ↦ inr (inr (inl (awaited_behind h (others awaited a.command.nonce) _ w (writes_carry h _ w next))))
      | inr later ↦ inr (inr (inr later))
    ]

-- what is queued still stands behind what is awaited
pub next_behind : (h : Held) (awaited : List Awaited) (queue : List Store) (a : Awaited) →
    ((b : Awaited) → In b awaited → b.command.nonce ≡ a.command.nonce → b ≡ a) → IsQueueBehind awaited queue →
    IsQueueBehind (others awaited a.command.nonce ++ write_commands h (next_to a.ask.component queue))
    (without_next a.ask.component queue)
unfolding write_commands without_next next_to
next_behind h awaited queue a differ behind q i =
    let old : In q queue = left_in a.ask.component queue q i in
    let b = behind q old in
    elim (cases_eq b.0.command.nonce a.command.nonce) [
      | inr other ↦ (
        b.0,
        in_front b.0 (others awaited a.command.nonce) _ (in_others b.0 awaited a.command.nonce b.1 other),
        b.2,
      )
      | inl same ↦
          let its : q.ask.component ≡ a.ask.component =
          sym b.2 ∙ ap (λ (x : Awaited). x.ask.component) (differ b.0 b.1 same) in
          let next = some_next queue q old its in
          let r = numbered_there h true h.count (next_to a.ask.component queue) next.0 next.1 in (
            r.0,
            in_behind r.0 (others awaited a.command.nonce) _ r.1,
            ap (λ (x : Ask). x.component) r.2 ∙ next.2 ∙ sym its,
          )
    ]
  where
    some_next : (ws : List Store) (x : Store) → In x ws → x.ask.component ≡ a.ask.component →
        (w : Store) × In w (next_to a.ask.component ws) × (w.ask.component ≡ a.ask.component)
    some_next [] x j e = absurd j
    some_next (w ∷ ws) x j e = elim (cases_Bool (w.ask.component == a.ask.component)) [
      | inl t ↦ rw t (w, inl refl, eqb-true w.ask.component a.ask.component t)
      | inr f ↦ rw f (elim j [
        | inl same ↦
            absurd (cc (sym f ∙ eq-eqb w.ask.component a.ask.component (ap (λ (y : Store). y.ask.component) (sym same) ∙ e)))
        | inr later ↦ some_next ws x later e
      ])
    ]

-- ---- a timeout

-- a component times out in a write
under_timed : (op : CallOp) (h : Held) (ms : List Met) (timed : List TimedOut) (k : ℕ) (ys : List Awaited) (a : Awaited)
    (xs : List Awaited) → of_component k ys ≡ a ∷ xs → Under op h ms timed →
    Under op h (met.TimedOut h k ∷ ms) (timed_after timed a xs)
unfolding timed_in
under_timed op h ms timed k ys a xs is x = record {
  write = x.write;
  alike = ((h.count, h.size, refl), x.alike);
  silent = ap (rising_with k) x.silent ∙ sym (timed_more k ys a xs timed is);
}

pub gathering_timed : (op : CallOp) (h : Held) (ms : List Met) (got : List Column) (timed : List TimedOut) (k : ℕ)
    (ys : List Awaited) (a : Awaited) (xs : List Awaited) → of_component k ys ≡ a ∷ xs → Gathering op h ms got timed →
    Gathering op h (met.TimedOut h k ∷ ms) got (timed_after timed a xs)
unfolding read_in
gathering_timed op h ms got timed k ys a xs is x =
    record { under = under_timed op h ms timed k ys a xs is x.under; read = x.read; none = x.none }

others_of : (k n : ℕ) → (n ≡ k → ⊥) → not (n == k) ≡ true
others_of k n ne = rw (ne_eqb n k ne) refl

-- and a scatter goes on without it
pub scatter_silent : (op : CallOp) (h : Held) (ms : List Met) (timed : List TimedOut) (awaited : List Awaited)
    (queue : List Store) (k : ℕ) (a : Awaited) (xs : List Awaited) → of_component k awaited ≡ a ∷ xs →
    Scattering op h ms timed awaited queue →
    Scattering op h (met.TimedOut h k ∷ ms) (timed_after timed a xs) (not_of k awaited) (without_component k queue)
unfolding not_of without_component read_in
scatter_silent op h ms timed awaited queue k a xs is x = record {
  under = under_timed op h ms timed k awaited a xs is x.under;
  got = x.got;
  first = x.first;
  still = λ j i. more j (x.still j i);
  read = x.read;
  may = x.may;
  sent = λ b i. x.sent b (in_filtered (λ (y : Awaited). not (y.ask.component == k)) b awaited i).0;
  left = λ w i. x.left w (in_filtered (λ (y : Store). not (y.ask.component == k)) w queue i).0;
  alone = x.alone;
  each = λ w i. by w (x.each w i);
}
  where
    rises : comps (timed_after timed a xs) ≡ rising_with k (comps timed)
    rises = timed_more k awaited a xs timed is

    more : (j : ℕ) → In j (comps timed) → In j (comps (timed_after timed a xs))
    more j i = subst (In j) (sym rises) (in_rising k j (comps timed) i)

    its : (j : ℕ) → j ≡ k → In j (comps (timed_after timed a xs))
    its j e = subst (λ (n : ℕ). In n (comps (timed_after timed a xs))) (sym e)
        (subst (In k) (sym rises) (its_rising k (comps timed)))

    by : (w : Store) → Stands h ms timed awaited queue w →
        Stands h (met.TimedOut h k ∷ ms) (timed_after timed a xs) (not_of k awaited) (without_component k queue) w
    by w (inl done) = inl done
    by w (inr (inl out)) = inr (inl (more w.ask.component out))
    by w (inr (inr (inl (b, i, c)))) = elim (cases_eq w.ask.component k) [
      | inl same ↦ inr (inl (its w.ask.component same))
      | inr other ↦ inr (inr (inl (
        b,
        in_passed (λ (y : Awaited). not (y.ask.component == k)) b awaited i
            (others_of k b.ask.component (λ e. other (sym (ap (λ (y : Ask). y.component) c.ask) ∙ e))),
        c,
      )))
    ]
    by w (inr (inr (inr i))) = elim (cases_eq w.ask.component k) [
      | inl same ↦ inr (inl (its w.ask.component same))
      | inr other ↦ inr (inr (inr (in_passed (λ (y : Store). not (y.ask.component == k)) w queue i
          (others_of k w.ask.component other))))
    ]

-- what is queued still stands behind what is awaited
pub left_behind : (k : ℕ) (awaited : List Awaited) (queue : List Store) → IsQueueBehind awaited queue →
    IsQueueBehind (not_of k awaited) (without_component k queue)
unfolding not_of without_component
left_behind k awaited queue behind q i =
    let r = in_filtered (λ (w : Store). not (w.ask.component == k)) q queue i in
    let b = behind q r.0 in (
      b.0,
      in_passed (λ (a : Awaited). not (a.ask.component == k)) b.0 awaited b.1 (ap (λ (n : ℕ). not (n == k)) b.2 ∙ r.1),
      b.2,
    )
