-- A component times out only where an event says so, or its client's call awaits it and no message is left.
use Rattle.std.proofs.Common.{◌≡◌, ◌⊎◌, ◌≤◌, ◌<◌, ◌++◌, ◌∷◌, ◌+◌, ◌&&◌, ℕ, zero, suc, Bool, true, false, nat_lt, nat_le, List, [], length, map, Option, Some, None, slice_get, refl, sym, ap, subst, ◌∙◌, arith, inl, inr, if◌then◌else◌}
use Rattle.std.proofs.lemmas.Bool.{cases_Bool}
use Rattle.std.proofs.lemmas.Bool.Decides.{nat_tests}
use Rattle.std.proofs.lemmas.List.{length-map}
use Rattle.client_rules.specs.Messages.{awaited_of}
use Rattle.client_rules.specs.Steps.{lowest_with, awaits_by, awaits}
use Rattle.scenario_text.specs.declared.event.Call.{Call as EventCall}
use Rattle.scenario_text.specs.declared.event.Event.{Event}
use Rattle.scenario_text.specs.declared.event.Event.TheVariants as event
use Rattle.scenario_text.specs.declared.line.Line.{Line}
use Rattle.scenario_text.specs.declared.line.Line.TheVariants as line
use Rattle.server_rules.specs.Laws.{In}
use Rattle.world_history.specs.ClientNames as client_rules
use Rattle.world_history.specs.ClientNames.{Client, Awaited, Request}
use Rattle.world_history.specs.declared.messages.Sent.{Sent}
use Rattle.world_history.specs.Laws.{shown}
use Rattle.world_history.specs.State.{World, ClientAt, at_number}
use Rattle.world_history.specs.Moves.{Action, Opens, Delivers, TimesOut, Pends, op_of, begins}
use Rattle.world_history.specs.Sending.{Move, move, sends_all}
use Rattle.world_history.specs.Plans.{next_pending, Rule, Alone, Prompt, Plan, due_by, due_in, due, is_refused, rule_of, plan_of}
use Rattle.world_history.specs.Reading.{sent_in}
use Rattle.world_history.specs.Runs.{lines_of, plan_after}
use Rattle.world_history.specs.History.{OneEventMore, Lawful}
use Rattle.history_law.specs.Moments.{IsMoment, plan_at, with_event, lines_so_far, lines_in}
use Rattle.history_law.proofs.Each.{EachBehind}
use Rattle.component_law.proofs.Shapes.{IsHeaded}
use Rattle.component_law.proofs.MoveOpening.{opens_headed}
use Rattle.ready_law.specs.Events.{StandsApart, EventsStandApart}
use Rattle.cause_law.specs.Lines.{IsInDo}
use Rattle.cause_law.proofs.CallHistories.{clients_are_read}
use Rattle.cause_law.proofs.Eventless.{moves_plain}
use Rattle.cause_law.proofs.PendingMoves.{rule_there}
use Rattle.history_claims.specs.Delivered.{is_open}
use Rattle.history_claims.specs.TimedOut.{IsLowest, IsSilent, TimedOutAt, NoneAwaited, TimeoutsAreTold, EachIsTimedOut}
use Rattle.history_claims.proofs.Plainly.{IsPlain, Plain, not_plain}
use Rattle.history_claims.proofs.Moved.{TimesOutAt, Says, PlainLines, ADelivery, ATimeout, AVerdict, ARefusal, says}
use Rattle.history_claims.proofs.Opened.{opens, none_open}
use Rattle.history_claims.proofs.Places.{at_lines}
use Rattle.history_claims.proofs.Quiet.{IsQuiet, Times, Leaves, due_is}
use Rattle.cause_law.proofs.Unanswered.{between}
use Rattle.history_claims.proofs.Delivering.{call_rests}
use Rattle.history_claims.proofs.Single.{IsSingle, single}
use Rattle.history_claims.proofs.Standing.{IsStanding, standing}

-- ---- the lowest component of some commands

abbrev AtMost : ℕ → List Awaited → Type 0
AtMost k xs = (a : Awaited) → In a xs → k ≤ a.ask.component

-- the lowest of k and those of some commands
record IsLeast (k : ℕ) (xs : List Awaited) (least : ℕ) : Type 0 where
  below : least ≤ k
  all : AtMost least xs
  one : (least ≡ k) ⊎ ((a : Awaited) × In a xs × (a.ask.component ≡ least))

least_with : (k : ℕ) (xs : List Awaited) → IsLeast k xs (lowest_with k xs)
unfolding lowest_with
least_with k [] = record { below = omega arith; all = λ a i. absurd i; one = inl refl }
least_with k (x ∷ xs) = elim (cases_Bool (nat_lt x.ask.component k)) [
  | inl t ↦
      let less : x.ask.component < k = grind (arith, nat_tests, t) in
      subst (IsLeast k (x ∷ xs)) (sym (ap (λ (b : Bool). if b then lowest_with x.ask.component xs else lowest_with k xs) t))
      (lower less (least_with x.ask.component xs))
  | inr f ↦
      let more : k ≤ x.ask.component = grind (arith, nat_tests, f) in
      subst (IsLeast k (x ∷ xs)) (sym (ap (λ (b : Bool). if b then lowest_with x.ask.component xs else lowest_with k xs) f))
      (same more (least_with k xs))
]
  where
    lower : x.ask.component < k → IsLeast x.ask.component xs (lowest_with x.ask.component xs)
        → IsLeast k (x ∷ xs) (lowest_with x.ask.component xs)
    lower less r = record {
      below = omega (arith, less, r.below);
      all = λ a i. elim i [
        | inl e ↦ subst (λ (y : Awaited). lowest_with x.ask.component xs ≤ y.ask.component) (sym e) r.below
        | inr j ↦ r.all a j
      ];
      one = elim r.one [
        | inl e ↦ inr (x, inl refl, sym e)
        | inr o ↦ inr (o.0, inr o.1, o.2)
      ];
    }

    same : k ≤ x.ask.component → IsLeast k xs (lowest_with k xs) → IsLeast k (x ∷ xs) (lowest_with k xs)
    same more r = record {
      below = r.below;
      all = λ a i. elim i [
        | inl e ↦
            subst (λ (y : Awaited). lowest_with k xs ≤ y.ask.component) (sym e)
            (let b : lowest_with k xs ≤ k = r.below in omega (arith, more, b))
        | inr j ↦ r.all a j
      ];
      one = elim r.one [
        | inl e ↦ inl e
        | inr o ↦ inr (o.0, inr o.1, o.2)
      ];
    }

lowest_is : (xs : List Awaited) (r : Option Request) (k : ℕ) → awaits_by xs r ≡ client_rules.ADrive k → IsLowest xs k
lowest_is [] None k e = absurd (cc e)
lowest_is [] (Some r) k e = absurd (cc e)
lowest_is (x ∷ xs) r k e =
    let l : IsLeast x.ask.component xs (lowest_with x.ask.component xs) = least_with x.ask.component xs in
    let same : lowest_with x.ask.component xs ≡ k = cc e in
    subst (IsLowest (x ∷ xs)) same (by l)
  where
    by : IsLeast x.ask.component xs (lowest_with x.ask.component xs) → IsLowest (x ∷ xs) (lowest_with x.ask.component xs)
    by l = elim l.one [
      | inl e ↦ record { one = x; there = inl refl; its = sym e; least = least l }
      | inr o ↦ record { one = o.0; there = inr o.1; its = o.2; least = least l }
    ]
      where
        least : IsLeast x.ask.component xs (lowest_with x.ask.component xs) → AtMost (lowest_with x.ask.component xs) (x ∷ xs)
        least m a i = elim i [
          | inl e ↦ subst (λ (y : Awaited). lowest_with x.ask.component xs ≤ y.ask.component) (sym e) m.below
          | inr j ↦ m.all a j
        ]

awaits_lowest : (x : Client) (k : ℕ) → awaits x ≡ client_rules.ADrive k → IsLowest (awaited_of x.call) k
unfolding awaits
awaits_lowest x k e = lowest_is (awaited_of x.call) x.outstanding k e

-- ---- no message is left

closed : (first k : ℕ) (s : Sent) (ss : List Sent) → opens first k (s ∷ ss) ≡ []
    → ((nat_le first k && is_open s) ≡ false) × (opens first (k + 1) ss ≡ [])
unfolding opens
closed first k s ss none = elim (cases_Bool (nat_le first k && is_open s)) [
  | inl t ↦ absurd (cc (sym (ap (λ (b : Bool). if b then k ∷ opens first (k + 1) ss else opens first (k + 1) ss) t) ∙ none))
  | inr f ↦ (f, sym (ap (λ (b : Bool). if b then k ∷ opens first (k + 1) ss else opens first (k + 1) ss) f) ∙ none)
]

none_left : (first k : ℕ) (ss : List Sent) → opens first k ss ≡ [] → (i : ℕ) (m : Sent) → first ≤ k + i → slice_get ss i ≡ Some m
    → is_open m ≡ false
none_left first k [] none i m l e = absurd (cc e)
none_left first k (s ∷ ss) none zero m l e =
    let low : nat_le first k ≡ true = grind (arith, nat_tests, l) in
    let same : s ≡ m = cc e in
    ap is_open (sym same) ∙ sym (ap (λ (b : Bool). b && is_open s) low) ∙ (closed first k s ss none).0
none_left first k (s ∷ ss) none (suc j) m l e =
    none_left first (k + 1) ss (closed first k s ss none).1 j m (omega (arith, l)) e

-- ---- the rule of a call's event

abbrev IsPrompted : World → Event → (first c : ℕ) → Type 0
IsPrompted v e first c = (its : EventCall) × (e ≡ event.Do c its) × (first ≡ length v.network.messages)

prompted : (v : World) (e : Event) (first c : ℕ) → rule_of v e ≡ Prompt first (Some c) → IsPrompted v e first c
unfolding rule_of
prompted v (event.Do k x) first c is = by (is_refused (at_number v.clients k) (op_of x)) is
  where
    by : (b : Bool) → (if b then Alone else Prompt (length v.network.messages) (Some k)) ≡ Prompt first (Some c)
        → (its : EventCall) × (event.Do k x ≡ event.Do c its) × (first ≡ length v.network.messages)
    by true i = absurd (cc i)
    by false i =
        let same : k ≡ c = cc i in
        let number : length v.network.messages ≡ first = cc i in (x, ap (λ (n : ℕ). event.Do n x) same, sym number)
prompted v (event.File f m tag) first c is = absurd (cc is)
prompted v (event.ZonedFile f m tag) first c is = absurd (cc is)
prompted v event.Settle first c is = absurd (cc is)
prompted v e first c is = absurd (cc is)

-- ---- the lines of a move

plain : (b : List Line) (l : Line) → IsPlain l → TimedOutAt b l
plain b (line.TimedOut c k) p = absurd p
plain b l p = tt

plain_lines : (b ls : List Line) → Plain ls → EachBehind TimedOutAt b ls
plain_lines b [] p = tt
plain_lines b (l ∷ ls) p = (plain b l p.0, plain_lines (b ++ l ∷ []) ls p.1)

module _ (more : OneEventMore) (w : World) (h : List Line) (k : IsMoment w h) (m : Move)
    (d : due (plan_at k) w ≡ Some m.action) where
  abbrev v : World
  v = k.before

  there : IsStanding w h
  there = standing more w h k

  -- what is due by the rule
  due_there : (c j : ℕ) → m.action ≡ TimesOut c j → due_by w (rule_of v k.event) ≡ Some (TimesOut c j)
  due_there c j is =
      subst (λ (r : Rule). due_by w r ≡ Some (TimesOut c j)) (rule_there v k.event k.moves w m.action d)
      (by (plan_at k) (d ∙ ap (λ (a : Action). Some a) is))
    where
      by : (p : Plan) → due p w ≡ Some (TimesOut c j) → due_by w p.rule ≡ Some (TimesOut c j)
      by p e = by_opening p.opening p.rule e
        where
          by_opening : (o : Option Event) (r : Rule) → due_in w r o ≡ Some (TimesOut c j) → due_by w r ≡ Some (TimesOut c j)
          by_opening None r e = e
          by_opening (Some x) r e = absurd (cc e)

  some_moves : (c j : ℕ) → m.action ≡ TimesOut c j → lines_so_far v k.event k.moves ≡ line.Event k.event ∷ lines_of v k.moves
  some_moves c j is = by k.moves refl
    where
      by : (ms : List Move) → k.moves ≡ ms → lines_so_far v k.event k.moves ≡ line.Event k.event ∷ lines_of v k.moves
      by [] none =
          let opens_it : Some (Opens k.event) ≡ Some (TimesOut c j) =
          sym (ap (λ (ms : List Move). due (plan_after (plan_of v k.event) ms) w) none) ∙ d ∙ ap (λ (a : Action). Some a) is in
          absurd (cc opens_it)
      by (x ∷ ms) some =
          ap (lines_so_far v k.event) some ∙ ap (λ (ns : List Move). line.Event k.event ∷ lines_of v ns) (sym some)

  module _ (c j : ℕ) (is : m.action ≡ TimesOut c j) (first : ℕ) (its : EventCall) (event_is : k.event ≡ event.Do c its)
      (count : first ≡ length v.network.messages) (none : next_pending w first ≡ None) (a : ClientAt)
      (found : at_number w.clients c ≡ Some a) (drive : awaits a.state ≡ client_rules.ADrive j) where
    abbrev in_do : IsInDo h c
    in_do = record {
      start = k.history;
      its = its;
      body = lines_of v k.moves;
      lines_are =
          k.lines_are ∙ ap (λ (ls : List Line). k.history ++ ls) (some_moves c j is)
          ∙ ap (λ (e : Event). k.history ++ line.Event e ∷ lines_of v k.moves) event_is;
      own = moves_plain v k.event k.moves k.are_due;
    }

    count_is : first ≡ length (sent_in k.history)
    count_is =
        count ∙ sym (ap length (standing more v k.history (between v k.history k.stands)).messages
        ∙ length-map v.network.messages shown)

    is_silent : IsSilent h c j
    is_silent = record {
      event = in_do;
      none = λ n s l e.
          none_left first 0 (sent_in h) (ap (opens first 0) there.messages ∙ none_open first 0 w.network.messages none) n s
          (omega (arith, l, count_is)) e;
      caller = a;
      there = there.clients c ∙ found;
      awaits = awaits_lowest a.state j drive;
    }

  silent : (c j : ℕ) → m.action ≡ TimesOut c j → IsSilent h c j
  silent c j is = by (rule_of v k.event) refl (due_there c j is)
    where
      by : (r : Rule) → rule_of v k.event ≡ r → due_by w r ≡ Some (TimesOut c j) → IsSilent h c j
      by Alone e i = absurd (cc i)
      by (Prompt first o) e i = elim (due_is w (TimesOut c j) o (next_pending w first) i) [
        | inl x ↦ absurd (cc x.2)
        | inr x ↦ quietly x.1
      ]
        where
          none : next_pending w first ≡ None
          none = elim (due_is w (TimesOut c j) o (next_pending w first) i) [
            | inl x ↦ absurd (cc x.2)
            | inr x ↦ x.0
          ]

          quietly : IsQuiet w o (TimesOut c j) → IsSilent h c j
          quietly (Leaves b a own found rests y) = absurd (cc y)
          quietly (Times b l a own found drive y) =
              let client : b ≡ c = sym (cc y) in
              let component : l ≡ j = sym (cc y) in
              let p = prompted v k.event first c (e ∙ ap (Prompt first) (own ∙ ap (λ (n : ℕ). Some n) client)) in
              is_silent c j is first p.0 p.1 p.2 none a
              (ap (at_number w.clients) (sym client) ∙ found)
              (drive ∙ ap client_rules.ADrive component)

  move_timed : EachBehind TimedOutAt h (lines_in w m)
  move_timed = by m.action refl
    where
      lines : (b : List Line) → ((c j : ℕ) → TimesOutAt m.action c j → TimedOutAt b (line.TimedOut c j))
          → EachBehind TimedOutAt b (move w m).lines
      lines b out = of_kind (says w m.chosen m.action)
        where
          of_kind : Says w m.chosen m.action (move w m).lines → EachBehind TimedOutAt b (move w m).lines
          of_kind (PlainLines p) = plain_lines b (move w m).lines p
          of_kind (ADelivery n p number found rest q are) =
              subst (EachBehind TimedOutAt b) (sym are) (tt, plain_lines (b ++ _ ∷ []) rest q)
          of_kind (ATimeout c j a is found rest q are) =
              subst (EachBehind TimedOutAt b) (sym are) (out c j is, plain_lines (b ++ _ ∷ []) rest q)
          of_kind (AVerdict x bytes y is rest q are) =
              subst (EachBehind TimedOutAt b) (sym are) (tt, plain_lines (b ++ _ ∷ []) rest q)
          of_kind (ARefusal c a why found refuses are) = subst (EachBehind TimedOutAt b) (sym are) (tt, tt)

      asked : (e : Event) (c j : ℕ) → TimesOutAt (Opens e) c j → TimedOutAt (h ++ line.Event e ∷ []) (line.TimedOut c j)
      asked (event.Timeout x y) c j is =
          inl (
            h,
            ap (λ (n : ℕ). h ++ line.Event (event.Timeout n y) ∷ []) is.0
                ∙ ap (λ (n : ℕ). h ++ line.Event (event.Timeout c n) ∷ []) is.1,
          )
      asked e c j is = absurd is

      by : (b : Action) → m.action ≡ b → EachBehind TimedOutAt h (with_event b (move w m).lines)
      by (Opens e) is =
          (tt, lines (h ++ line.Event e ∷ []) (λ c j out. asked e c j (subst (λ (b : Action). TimesOutAt b c j) is out)))
      by (Delivers n) is = lines h (λ c j out. absurd (subst (λ (b : Action). TimesOutAt b c j) is out))
      by (Pends n) is = lines h (λ c j out. absurd (subst (λ (b : Action). TimesOutAt b c j) is out))
      by (TimesOut x y) is =
          lines h (λ c j out.
          let same = subst (λ (b : Action). TimesOutAt b c j) is out in
          inr (silent c j (is ∙ ap (λ (n : ℕ). TimesOut n y) same.0 ∙ ap (TimesOut c) same.1)))

-- ---- the other way

none_awaited : OneEventMore → EventsStandApart → (h : List Line) → Lawful h → NoneAwaited h
none_awaited more apart h l before c its body over taken caller there =
    let a : StandsApart before (event.Do c its) body = apart h before (event.Do c its) body l over in
    let accepted : is_refused (at_number a.world.clients c) (op_of its) ≡ false =
    ap (λ (o : Option ClientAt). is_refused o (op_of its))
    (sym (clients_are_read a.world before a.stands c) ∙ taken.there) ∙ taken.taken in
    call_rests more a.world before a.stands c its body a.next a.carries accepted caller there

timeout_alone : (u : World) (c k : ℕ) → rule_of u (event.Timeout c k) ≡ Alone
unfolding rule_of
timeout_alone u c k = refl

timeouts_are_told : EventsStandApart → (h : List Line) → Lawful h → TimeoutsAreTold h
timeouts_are_told apart h l before c k body over =
    let a : StandsApart before (event.Timeout c k) body = apart h before (event.Timeout c k) body l over in
    let one : IsSingle a.world (event.Timeout c k) body =
    single a.world (event.Timeout c k) body a.next a.carries (timeout_alone a.world c k) in
    let headed : IsHeaded (sends_all (begins a.world one.chosen (event.Timeout c k))).lines =
    opens_headed a.world one.chosen (event.Timeout c k) refl a.carries.allowed in
    by a.world one.chosen one.lines_are headed (says a.world one.chosen (Opens (event.Timeout c k)))
  where
    by : (u : World) (chosen : List ℕ) → body ≡ (sends_all (begins u chosen (event.Timeout c k))).lines
        → IsHeaded (sends_all (begins u chosen (event.Timeout c k))).lines
        → Says u chosen (Opens (event.Timeout c k)) (sends_all (begins u chosen (event.Timeout c k))).lines
        → (rest : List Line) × (body ≡ line.TimedOut c k ∷ rest)
    by u chosen is headed (PlainLines b) = absurd (not_plain headed.head headed.begins (subst Plain headed.are b).0)
    by u chosen is headed (ADelivery n p number found rest b are) = absurd (cc number)
    by u chosen is headed (ATimeout x y a same found rest b are) = (
      rest,
      is ∙ are ∙ ap (λ (n : ℕ). line.TimedOut n y ∷ rest) (sym same.0) ∙ ap (λ (n : ℕ). line.TimedOut c n ∷ rest) (sym same.1),
    )
    by u chosen is headed (AVerdict x bytes y same rest b are) = absurd (cc same)
    by u chosen is headed (ARefusal x a why found refuses are) = absurd refuses

-- ---- each history

pub each_is_timed_out : OneEventMore → EventsStandApart → EachIsTimedOut
each_is_timed_out more apart h l = record {
  only = at_lines TimedOutAt more (λ w g k m d. move_timed more w g k m d) h l;
  none = none_awaited more apart h l;
  told = timeouts_are_told apart h l;
}
