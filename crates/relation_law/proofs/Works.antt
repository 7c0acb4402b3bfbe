-- What a call does with the drives: what it awaits then is of its kind, with nonces that differ, and what it has queued stands
-- behind what it awaits.
-- Towards `CallsGoOn` (`relation_law/specs/Steps.antt`).
use Rattle.std.proofs.Common.{◌≡◌, ◌==◌, ◌<◌, ◌⊎◌, ℕ, ◌+◌, Bool, true, false, not, List, [], ◌∷◌, ◌++◌, length, map, Option, Some, None, refl, sym, ap, subst, ◌∙◌, inl, inr, arith, if◌then◌else◌}
use Rattle.std.specs.List.{range_with_len}
use Rattle.std.proofs.lemmas.Bool.{cases_Bool, cases_eq, eq-eqb, ne_eqb, eqb-true}
use Rattle.std.proofs.lemmas.List.{map-append}
use Rattle.stripe_plan.specs.declared.plan.Ask.{Ask}
use Rattle.stripe_plan.specs.Lost.{among}
use Rattle.server_rules.specs.Laws.{In}
use Rattle.server_rules.proofs.Members.{in_either, in_front, in_behind, in_filtered}
use Rattle.osd_commands.specs.declared.replies.Reply.{Reply}
use Rattle.client_rules.specs.declared.limits.TheConstants.{PERFORMED}
use Rattle.client_rules.specs.Commands.{awaited_for, command, sealed, numbered, nonce_at, others, not_of, read_commands, write_commands, carrying_none}
use Rattle.client_rules.specs.Going.{begins}
use Rattle.client_rules.specs.Io.{awaited_in}
use Rattle.client_rules.specs.Laws.{nonce_of}
use Rattle.client_rules.specs.Reads.{reads, reads_on, reads_unless, probes, probes_on, probes_by}
use Rattle.client_rules.specs.Replies.{replied, performed, refused, refusal, refused_report, timed_out, gather_timed, scatter_timed}
use Rattle.client_rules.specs.Turns.{turned, closing}
use Rattle.client_rules.specs.Writes.{accounted, written, is_past_size, firsts, laters, scatters, scatters_on, scatters_next, next_to, without_next, without_component, gathers, gathers_on, is_too_short}
use Rattle.client_rules.proofs.Numbering.{numbered_from}
use Rattle.world_history.specs.ClientNames.{Awaited, CallOp, Column, Held, Io, Moved, Need, Needs, Outcome, Phase, Starts, Waits, Reads, Probes, Gathers, Scatters, Span, Store, TimedOut, Turn, Goes, Ends, Forgets}
use Rattle.exchange_law.proofs.Had.{AreBelow, others_below, rest_below, differ_range}
use Rattle.gather_law.proofs.Gathered.{below_to, below_from}
use Rattle.exchange_law.proofs.Rising.{each_map, each_more, each_range}
use Rattle.relation_law.proofs.MessagesBehind.{numbered_made, numbered_there}
use Rattle.relation_law.specs.CallsTurns.{IsQueueBehind}
use Rattle.relation_law.proofs.CallsDone.{in_others, from_others}
use Rattle.relation_law.proofs.CallsOut.{in_passed}
use Rattle.relation_law.specs.Working.{IsOne, QueueIn, WorksUnder, TurnWorks, MovedWorks}

-- ---- turns

pub ends : (k : Held) (sent : List Awaited) (u : Outcome) → TurnWorks k sent (Ends u)
unfolding TurnWorks
ends k sent u = tt

pub forgets : (k : Held) (sent : List Awaited) (u : Outcome) → TurnWorks k sent (Forgets u)
unfolding TurnWorks
forgets k sent u = tt

pub goes : (k : Held) (sent : List Awaited) (p : Phase) → WorksUnder k p → ((a : Awaited) → In a sent → In a (awaited_in p)) →
    TurnWorks k sent (Goes p)
unfolding TurnWorks
goes k sent p w s = (w, s)

pub works_of : (k : Held) (sent : List Awaited) (p : Phase) → TurnWorks k sent (Goes p) →
    WorksUnder k p × ((a : Awaited) → In a sent → In a (awaited_in p))
unfolding TurnWorks
works_of k sent p w = w

-- a phase that awaits nothing
pub free_works : (k : Held) (p : Phase) → awaited_in p ≡ [] → QueueIn p → WorksUnder k p
free_works k p none queue = record {
  ones = λ a i. absurd (subst (In a) none i);
  nonces = below_from _ _ (subst (AreBelow (nonce_at k k.count)) (sym none) (record { differ = tt; below = tt }));
  queue = queue;
}

pub needs : (k : Held) (sent : List Awaited) (n : Need) → ((a : Awaited) → In a sent → ⊥) → TurnWorks k sent (Goes (Needs n))
needs k sent n none = goes k sent (Needs n) (free_works k (Needs n) refl tt) (λ a i. none a i)

either_turn : (k : Held) (sent : List Awaited) (b : Bool) (t u : Turn) → TurnWorks k sent t → TurnWorks k sent u →
    TurnWorks k sent (if b then t else u)
either_turn k sent true t u x y = x
either_turn k sent false t u x y = y

either : (h : Held) (b : Bool) (m n : Moved) → MovedWorks h m → MovedWorks h n → MovedWorks h (if b then m else n)
either h true m n x y = x
either h false m n x y = y

none_above : (h : Held) (a : Awaited) → In a [] → nonce_at h h.count < nonce_of a
none_above h a i = absurd i

pub quiet_works : (h : Held) (t : Turn) → TurnWorks h [] t → MovedWorks h (turned h t)
quiet_works h t w = record { turn = w; above = none_above h }

-- ---- commands

-- these are awaited, and those sent among them, where h is the grant before
record Going (h : Held) (write : Bool) (sent awaited : List Awaited) : Type 0 where
  ones : (a : Awaited) → In a awaited → IsOne write a
  nonces : AreBelow (nonce_at h (h.count + length sent)) awaited
  sends : (a : Awaited) → In a sent → In a awaited
  above : (a : Awaited) → In a sent → nonce_at h h.count < nonce_of a

made_one : (h : Held) (write : Bool) (w : Store) (n : ℕ) → IsOne write (awaited_for h write w n)
unfolding command sealed
made_one h true w n = record { action = refl; offset = refl; read = λ e. absurd (cc e) }
made_one h false w n =
    record { action = refl; offset = refl; read = λ e. record { action_is = refl; offset = refl; length = refl } }

numbered_ones : (h : Held) (write : Bool) (count : ℕ) (ws : List Store) (a : Awaited) → In a (numbered h write count ws) →
    IsOne write a
numbered_ones h write count ws a i =
    let r = numbered_made h write count ws a i in
    subst (IsOne write) (sym r.3) (made_one h write r.0 r.1)

numbered_above : (h : Held) (write : Bool) (count : ℕ) (ws : List Store) (a : Awaited) → In a (numbered h write count ws) →
    nonce_at h count < nonce_of a
unfolding numbered command sealed
numbered_above h write count [] a i = absurd i
numbered_above h write count (w ∷ ws) a (inl e) = rw e (omega arith)
numbered_above h write count (w ∷ ws) a (inr i) = let rest = numbered_above h write (count + 1) ws a i in omega (arith, rest)

below_more : (h : Held) (xs ys : List Awaited) → map nonce_of ys ≡ range_with_len (nonce_at h h.count + 1) (length ys) →
    AreBelow (nonce_at h h.count) xs → AreBelow (nonce_at h (h.count + length ys)) (xs ++ ys)
below_more h xs ys next b =
    let all : map nonce_of (xs ++ ys) ≡ map nonce_of xs ++ range_with_len (nonce_at h h.count + 1) (length ys) =
    map-append nonce_of xs ys ∙ ap (λ (zs : List ℕ). map nonce_of xs ++ zs) next in
    record {
      differ = rw all (differ_range (nonce_at h h.count + 1) (length ys) (map nonce_of xs) b.differ
          (each_map _ _ (λ x l. omega (arith, l)) (map nonce_of xs) b.below));
      below = rw all (each_more _ (map nonce_of xs) (range_with_len (nonce_at h h.count + 1) (length ys))
          (each_map _ _ (λ x l. omega (arith, l)) (map nonce_of xs) b.below)
          (each_range _ (nonce_at h h.count + 1) (length ys) (λ y l u. omega (arith, u))));
    }

-- more are sent
sends_more : (h : Held) (write : Bool) (xs : List Awaited) (ws : List Store) → ((a : Awaited) → In a xs → IsOne write a) →
    AreBelow (nonce_at h h.count) xs →
    Going h write (numbered h write h.count ws) (xs ++ numbered h write h.count ws)
sends_more h write xs ws ones nonces = record {
  ones = λ a i. elim (in_either a xs (numbered h write h.count ws) i) [
    | inl old ↦ ones a old
    | inr new ↦ numbered_ones h write h.count ws a new
  ];
  nonces = below_more h xs (numbered h write h.count ws) (numbered_from h write h.count _ ws refl) nonces;
  sends = λ a i. in_behind a xs (numbered h write h.count ws) i;
  above = λ a i. numbered_above h write h.count ws a i;
}

-- or none
sends_none : (h : Held) (write : Bool) (xs : List Awaited) → ((a : Awaited) → In a xs → IsOne write a) →
    AreBelow (nonce_at h h.count) xs → Going h write [] xs
sends_none h write xs ones nonces = record {
  ones = ones;
  nonces = subst (λ (n : ℕ). AreBelow (nonce_at h n) xs) (omega arith) nonces;
  sends = λ a i. absurd i;
  above = none_above h;
}

others_ones : (write : Bool) (xs : List Awaited) (n : ℕ) → ((a : Awaited) → In a xs → IsOne write a) → (a : Awaited) →
    In a (others xs n) → IsOne write a
others_ones write xs n ones a i = ones a (from_others a xs n i).0

rest_ones : (write : Bool) (xs : List Awaited) (n : ℕ) → ((a : Awaited) → In a xs → IsOne write a) → (a : Awaited) →
    In a (not_of n xs) → IsOne write a
unfolding not_of
rest_ones write xs n ones a i = ones a (in_filtered _ a xs i).0

module _ (h : Held) (op : CallOp) where
  -- ---- reads

  reads_on_works : (r : Span) (got : List Column) (timed : List TimedOut) (sent awaited : List Awaited) →
      Going h false sent awaited → MovedWorks h (reads_on h r got timed sent awaited)
  unfolding reads_on
  reads_on_works r got timed sent [] g = record { turn = ends _ _ _; above = g.above }
  reads_on_works r got timed sent (a ∷ xs) g = record {
    turn = goes _ _ _ (record { ones = g.ones; nonces = below_from _ _ g.nonces; queue = tt }) g.sends;
    above = g.above;
  }

  reads_unless_works : (r : Span) (got : List Column) (timed : List TimedOut) (awaited : List Awaited) (o : Option (List ℕ)) →
      ((a : Awaited) → In a awaited → IsOne false a) → AreBelow (nonce_at h h.count) awaited →
      MovedWorks h (reads_unless h r got timed awaited o)
  unfolding read_commands
  reads_unless_works r got timed awaited (Some ps) ones nonces = quiet_works h _ (ends _ _ _)
  reads_unless_works r got timed awaited None ones nonces =
      reads_on_works r got timed _ _ (sends_more h false awaited (carrying_none _) ones nonces)

  reads_works : (r : Span) (got : List Column) (timed : List TimedOut) (awaited : List Awaited) →
      ((a : Awaited) → In a awaited → IsOne false a) → AreBelow (nonce_at h h.count) awaited →
      MovedWorks h (reads h r got timed awaited)
  unfolding reads
  reads_works r got timed awaited ones nonces = reads_unless_works r got timed awaited _ ones nonces

  probes_on_works : (got : List Column) (timed : List TimedOut) (sent awaited : List Awaited) →
      Going h false sent awaited → MovedWorks h (probes_on h got timed sent awaited)
  unfolding probes_on
  probes_on_works got timed sent [] g = record { turn = ends _ _ _; above = g.above }
  probes_on_works got timed sent (a ∷ xs) g = record {
    turn = goes _ _ _ (record { ones = g.ones; nonces = below_from _ _ g.nonces; queue = tt }) g.sends;
    above = g.above;
  }

  probes_by_works : (got : List Column) (timed : List TimedOut) (awaited : List Awaited) (o : Option ℕ) →
      ((a : Awaited) → In a awaited → IsOne false a) → AreBelow (nonce_at h h.count) awaited →
      MovedWorks h (probes_by h got timed awaited o)
  unfolding read_commands
  probes_by_works got timed awaited None ones nonces = quiet_works h _ (ends _ _ _)
  probes_by_works got timed awaited (Some n) ones nonces =
      either h _ _ _ (quiet_works h _ (ends _ _ _))
      (probes_on_works got timed _ _ (sends_more h false awaited (carrying_none _) ones nonces))

  probes_works : (got : List Column) (timed : List TimedOut) (awaited : List Awaited) →
      ((a : Awaited) → In a awaited → IsOne false a) → AreBelow (nonce_at h h.count) awaited →
      MovedWorks h (probes h got timed awaited)
  unfolding probes
  probes_works got timed awaited ones nonces = probes_by_works got timed awaited _ ones nonces

  -- ---- writes

  pub accounted_works : (k : Held) (sent : List Awaited) (timed : List TimedOut) → ((a : Awaited) → In a sent → ⊥) →
      TurnWorks k sent (accounted op timed)
  accounted_works k sent [] none = ends k sent _
  accounted_works k sent (t ∷ ts) none = needs k sent _ none

  written_works : (k : Held) (sent : List Awaited) (timed : List TimedOut) → ((a : Awaited) → In a sent → ⊥) →
      TurnWorks k sent (written h op timed)
  unfolding written
  written_works k sent timed none =
      either_turn k sent (is_past_size h op) _ _ (needs k sent _ none) (accounted_works k sent timed none)

  scatters_on_works : (timed : List TimedOut) (queue : List Store) (sent awaited : List Awaited) →
      Going h true sent awaited → IsQueueBehind awaited queue → MovedWorks h (scatters_on h op timed queue sent awaited)
  unfolding scatters_on
  scatters_on_works timed queue sent [] g behind =
      record { turn = written_works _ sent timed (λ a i. g.sends a i); above = g.above }
  scatters_on_works timed queue sent (a ∷ xs) g behind = record {
    turn = goes _ _ _ (record { ones = g.ones; nonces = below_from _ _ g.nonces; queue = behind }) g.sends;
    above = g.above;
  }

  -- the first to each component stand before the others
  firsts_before : (seen : List ℕ) (ws : List Store) (q : Store) → In q (laters seen ws) →
      (among q.ask.component seen ≡ true) ⊎ ((w : Store) × In w (firsts seen ws) × (w.ask.component ≡ q.ask.component))
  unfolding firsts laters
  firsts_before seen [] q i = absurd i
  firsts_before seen (w ∷ ws) q i = elim (cases_Bool (among w.ask.component seen)) [
    | inl t ↦ elim (rw t at i) [
      | inl e ↦ inl (ap (λ (x : Store). among x.ask.component seen) e ∙ t)
      | inr later ↦ rw t (firsts_before seen ws q later)
    ]
    | inr f ↦ rw f (elim (firsts_before (w.ask.component ∷ seen) ws q (rw f at i)) [
      | inl known ↦ elim (cases_eq w.ask.component q.ask.component) [
        | inl same ↦ inr (w, inl refl, same)
        | inr other ↦ inl (seen_still known other)
      ]
      | inr there ↦ inr (there.0, inr there.1, there.2)
    ])
  ]
    where
      seen_still : among q.ask.component (w.ask.component ∷ seen) ≡ true → (w.ask.component ≡ q.ask.component → ⊥) →
          among q.ask.component seen ≡ true
      seen_still e ne = rw (ne_eqb w.ask.component q.ask.component ne) at e

  pub first_behind : (all : List Store) → IsQueueBehind (write_commands h (firsts [] all)) (laters [] all)
  unfolding write_commands
  first_behind all q i = elim (firsts_before [] all q i) [
    | inl none ↦ absurd (cc none)
    | inr there ↦
        let r = numbered_there h true h.count (firsts [] all) there.0 there.1 in
        (r.0, r.1, ap (λ (x : Ask). x.component) r.2 ∙ there.2)
  ]

  scatters_works : (got : List Column) (timed : List TimedOut) → MovedWorks h (scatters h op got timed)
  unfolding scatters write_commands
  scatters_works got timed =
      scatters_on_works timed _ _ _ (sends_more h true [] _ (λ a i. absurd i) (record { differ = tt; below = tt }))
      (first_behind _)

  gathers_on_works : (got : List Column) (timed : List TimedOut) (sent awaited : List Awaited) →
      Going h false sent awaited → MovedWorks h (gathers_on h op got timed sent awaited)
  unfolding gathers_on
  gathers_on_works got timed sent [] g = scatters_works got timed
  gathers_on_works got timed sent (a ∷ xs) g = record {
    turn = goes _ _ _ (record { ones = g.ones; nonces = below_from _ _ g.nonces; queue = tt }) g.sends;
    above = g.above;
  }

  gathers_works : (got : List Column) (timed : List TimedOut) (awaited : List Awaited) →
      ((a : Awaited) → In a awaited → IsOne false a) → AreBelow (nonce_at h h.count) awaited →
      MovedWorks h (gathers h op got timed awaited)
  unfolding gathers read_commands
  gathers_works got timed awaited ones nonces =
      gathers_on_works got timed _ _ (sends_more h false awaited (carrying_none _) ones nonces)

  -- ---- replies

  -- what is queued still stands behind what is awaited, once a WRITE was performed and the next to its component is sent
  next_behind : (awaited : List Awaited) (queue : List Store) (a : Awaited) →
      ((b : Awaited) → In b awaited → b.command.nonce ≡ a.command.nonce → b ≡ a) → IsQueueBehind awaited queue →
      IsQueueBehind (others awaited a.command.nonce ++ write_commands h (next_to a.ask.component queue))
      (without_next a.ask.component queue)
  unfolding write_commands without_next next_to
  next_behind awaited queue a differ behind q i =
      let old : In q queue = left_in queue q i in
      let b = behind q old in
      elim (cases_eq b.0.command.nonce a.command.nonce) [
        | inr other ↦ (
          b.0,
          in_front b.0 (others awaited a.command.nonce) _ (in_others b.0 awaited a.command.nonce b.1 other),
          b.2,
        )
        | inl same ↦
            let is : b.0 ≡ a = differ b.0 b.1 same in
            let its : q.ask.component ≡ a.ask.component =
            sym b.2 ∙ ap (λ (x : Awaited). x.ask.component) is in
            let next = some_next queue q old its in
            let r = numbered_there h true h.count (next_to a.ask.component queue) next.0 next.1 in (
              r.0,
              in_behind r.0 (others awaited a.command.nonce) _ r.1,
              ap (λ (x : Ask). x.component) r.2 ∙ next.2 ∙ sym its,
            )
      ]
    where
      left_in : (ws : List Store) (x : Store) → In x (without_next a.ask.component ws) → In x ws
      left_in [] x j = absurd j
      left_in (w ∷ ws) x j = elim (cases_Bool (w.ask.component == a.ask.component)) [
        | inl t ↦ inr (rw t at j)
        | inr f ↦ elim (rw f at j) [ inl e ↦ inl e | inr later ↦ inr (left_in ws x later) ]
      ]

      some_next : (ws : List Store) (x : Store) → In x ws → x.ask.component ≡ a.ask.component →
          (w : Store) × In w (next_to a.ask.component ws) × (w.ask.component ≡ a.ask.component)
      some_next [] x j e = absurd j
      some_next (w ∷ ws) x j e = elim (cases_Bool (w.ask.component == a.ask.component)) [
        | inl t ↦ rw t (w, inl refl, eqb-true w.ask.component a.ask.component t)
        | inr f ↦ rw f (elim j [
          | inl same ↦
              absurd (cc (sym f ∙ eq-eqb w.ask.component a.ask.component (ap (λ (y : Store). y.ask.component) (sym same) ∙ e)))
          | inr later ↦ some_next ws x later e
        ])
      ]

  scatters_next_works : (timed : List TimedOut) (queue : List Store) (awaited : List Awaited) (a : Awaited) →
      ((b : Awaited) → In b awaited → IsOne true b) → AreBelow (nonce_at h h.count) awaited →
      ((b : Awaited) → In b awaited → b.command.nonce ≡ a.command.nonce → b ≡ a) → IsQueueBehind awaited queue →
      MovedWorks h (scatters_next h op timed queue a.ask.component (others awaited a.command.nonce))
  unfolding scatters_next write_commands
  scatters_next_works timed queue awaited a ones nonces differ behind =
      scatters_on_works timed _ _ _
      (sends_more h true (others awaited a.command.nonce) (next_to a.ask.component queue)
      (others_ones true awaited a.command.nonce ones) (others_below (nonce_at h h.count) a.command.nonce awaited nonces))
      (next_behind awaited queue a differ behind)

  pub performed_works : (p : Phase) (a : Awaited) (r : Reply) → WorksUnder h p →
      ((b : Awaited) → In b (awaited_in p) → b.command.nonce ≡ a.command.nonce → b ≡ a) → MovedWorks h (performed h op p a r)
  performed_works (Reads io) a r w differ =
      reads_on_works _ _ io.timed [] _ (sends_none h false _ (others_ones false io.awaited a.command.nonce w.ones)
      (others_below (nonce_at h h.count) a.command.nonce io.awaited (below_to _ _ w.nonces)))
  performed_works (Probes io) a r w differ =
      probes_on_works _ io.timed [] _ (sends_none h false _ (others_ones false io.awaited a.command.nonce w.ones)
      (others_below (nonce_at h h.count) a.command.nonce io.awaited (below_to _ _ w.nonces)))
  performed_works (Gathers io) a r w differ =
      gathers_on_works _ io.timed [] _ (sends_none h false _ (others_ones false io.awaited a.command.nonce w.ones)
      (others_below (nonce_at h h.count) a.command.nonce io.awaited (below_to _ _ w.nonces)))
  performed_works (Scatters io queue) a r w differ =
      scatters_next_works io.timed queue io.awaited a w.ones (below_to _ _ w.nonces) differ w.queue
  performed_works Starts a r w differ = quiet_works h _ (goes h [] Starts w (λ b i. absurd i))
  performed_works (Needs need) a r w differ = quiet_works h _ (goes h [] (Needs need) w (λ b i. absurd i))
  performed_works (Waits need) a r w differ = quiet_works h _ (goes h [] (Waits need) w (λ b i. absurd i))

  refused_works : (p : Phase) (a : Awaited) (r : Reply) → MovedWorks h (refused h p a r)
  unfolding refused
  refused_works p a r =
      either h _ (turned h (Forgets (refusal a r))) (turned h (closing (refusal a r) (refused_report h p a r)))
      (quiet_works h _ (forgets h [] _)) (quiet_works h _ (needs h [] _ (λ b i. i)))

  pub replied_works : (p : Phase) (a : Awaited) (r : Reply) → WorksUnder h p →
      ((b : Awaited) → In b (awaited_in p) → b.command.nonce ≡ a.command.nonce → b ≡ a) → MovedWorks h (replied h op p a r)
  unfolding replied
  replied_works p a r w differ = either h (r.verdict == PERFORMED) _ _ (performed_works p a r w differ) (refused_works p a r)

  -- ---- timeouts

  gather_timed_works : (io : Io) (k : ℕ) (timed : List TimedOut) → WorksUnder h (Gathers io) →
      MovedWorks h (gather_timed h op io k timed)
  unfolding gather_timed
  gather_timed_works io k timed w =
      either h (is_too_short h op timed) _ _ (quiet_works h _ (ends h [] _))
      (gathers_works io.got timed (not_of k io.awaited) (rest_ones false io.awaited k w.ones)
      (rest_below (nonce_at h h.count) k io.awaited (below_to _ _ w.nonces)))

  left_behind : (k : ℕ) (awaited : List Awaited) (queue : List Store) → IsQueueBehind awaited queue →
      IsQueueBehind (not_of k awaited) (without_component k queue)
  unfolding not_of without_component
  left_behind k awaited queue behind q i =
      let r = in_filtered (λ (w : Store). not (w.ask.component == k)) q queue i in
      let b = behind q r.0 in (
        b.0,
        in_passed (λ (a : Awaited). not (a.ask.component == k)) b.0 awaited b.1
            (ap (λ (n : ℕ). not (n == k)) b.2 ∙ r.1),
        b.2,
      )

  scatter_timed_works : (io : Io) (queue : List Store) (k : ℕ) (timed : List TimedOut) → WorksUnder h (Scatters io queue) →
      MovedWorks h (scatter_timed h op io queue k timed)
  unfolding scatter_timed
  scatter_timed_works io queue k timed w =
      either h (is_too_short h op timed) _ _ (quiet_works h _ (needs h [] _ (λ b i. i)))
      (scatters_on_works timed _ [] _ (sends_none h true _ (rest_ones true io.awaited k w.ones)
      (rest_below (nonce_at h h.count) k io.awaited (below_to _ _ w.nonces))) (left_behind k io.awaited queue w.queue))

  pub timed_works : (p : Phase) (k : ℕ) (a : Awaited) (xs : List Awaited) → WorksUnder h p →
      MovedWorks h (timed_out h op p k a xs)
  timed_works (Reads io) k a xs w =
      reads_works _ io.got _ (not_of k io.awaited) (rest_ones false io.awaited k w.ones)
      (rest_below (nonce_at h h.count) k io.awaited (below_to _ _ w.nonces))
  timed_works (Probes io) k a xs w =
      probes_works io.got _ (not_of k io.awaited) (rest_ones false io.awaited k w.ones)
      (rest_below (nonce_at h h.count) k io.awaited (below_to _ _ w.nonces))
  timed_works (Gathers io) k a xs w = gather_timed_works io k _ w
  timed_works (Scatters io queue) k a xs w = scatter_timed_works io queue k _ w
  timed_works Starts k a xs w = quiet_works h _ (goes h [] Starts w (λ b i. absurd i))
  timed_works (Needs need) k a xs w = quiet_works h _ (goes h [] (Needs need) w (λ b i. absurd i))
  timed_works (Waits need) k a xs w = quiet_works h _ (goes h [] (Waits need) w (λ b i. absurd i))

  -- ---- the begin

  pub begins_works : MovedWorks h (begins h op)
  unfolding begins
  begins_works =
      either h _ _ _ (gathers_works [] [] [] (λ a i. absurd i) (record { differ = tt; below = tt }))
      (either h _ _ _ (probes_works [] [] [] (λ a i. absurd i) (record { differ = tt; below = tt }))
      (reads_works _ [] [] [] (λ a i. absurd i) (record { differ = tt; below = tt })))
