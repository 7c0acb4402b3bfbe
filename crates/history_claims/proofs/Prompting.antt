-- An event that delivers what is open from a number on delivers all of it, and ends where nothing is due.
use Rattle.std.proofs.Common.{◌≡◌, ◌⊎◌, ◌≤◌, ◌++◌, ◌∷◌, ◌+◌, ◌-◌, ℕ, false, List, [], length, fold, append_assoc, Option, Some, None, refl, sym, ap, subst, ◌∙◌, arith, inl, inr}
use Rattle.std.proofs.lemmas.List.{append-nil}
use Rattle.std.proofs.lemmas.List.Sums.{fold-append}
use Rattle.std.proofs.lemmas.Option.{same_Some}
use Rattle.client_rules.specs.Messages.{awaited_of}
use Rattle.scenario_text.specs.declared.event.Event.{Event}
use Rattle.scenario_text.specs.declared.line.Delivery.{Delivery}
use Rattle.scenario_text.specs.declared.line.Line.{Line}
use Rattle.scenario_text.specs.declared.line.Line.TheVariants as line
use Rattle.world_history.specs.declared.messages.Sent.{Sent}
use Rattle.world_history.specs.State.{World, ClientAt, at_number}
use Rattle.world_history.specs.Moves.{Action, Opens, Delivers, TimesOut, Pends, begins, acts}
use Rattle.world_history.specs.Sending.{Move, move, sends_all}
use Rattle.world_history.specs.Plans.{due_pending, next_pending, quiet_at, quiet_of, Rule, Alone, Prompt, Plan, due_by, due_in, due, went_on, rule_after, rule_of, plan_of}
use Rattle.world_history.specs.Reading.{arrived, changed_at, sent_after, sent_after_event, sent_in}
use Rattle.world_history.specs.Refusals.{refusal}
use Rattle.world_history.specs.Runs.{lines_of, world_after, AreDue, plan_after, IsOver as IsEnded, Carries}
use Rattle.world_history.specs.History.{StandsFor, OneEventMore}
use Rattle.world_history.proofs.Runs.{due_more, plan_more, world_more, no_opening}
use Rattle.history_law.specs.Moments.{IsMoment, with_event, lines_so_far, lines_in}
use Rattle.history_law.proofs.Moments.{so_far_more}
use Rattle.component_law.specs.Opening.{is_opening}
use Rattle.history_claims.specs.Delivered.{delivered_in, sent_by_end}
use Rattle.history_claims.proofs.Moved.{receipt_of, Says, PlainLines, ADelivery, ATimeout, AVerdict, ARefusal, says}
use Rattle.history_claims.proofs.Plainly.{Plain}
use Rattle.history_claims.proofs.Opened.{opens, next_open, none_open, Sends, plain_sends}
use Rattle.cause_law.specs.ReadClients.{ClientSeen, sees_client, client_seen, client_after}
use Rattle.history_claims.proofs.Quiet.{IsQuiet, Times, Leaves, idle, due_is}
use Rattle.history_claims.proofs.Standing.{IsStanding, standing}
use Rattle.history_claims.proofs.Idle.{delivered_more, changed_length, behind_idle, opens_sends, times_out_sends, pends_still, pends_clients}
use Rattle.history_claims.proofs.SoFar.{its_event, by_rule, Rests, IsSoFar, Grows, sent_on, all_on, delivers_on}

-- ---- an event that delivers what is open from a number on

module _ (more : OneEventMore) (v : World) (h : List Line) (s : StandsFor v h) (e : Event) (allowed : refusal v e ≡ None)
    (first : ℕ) (o : Option ℕ) (rule : rule_of v e ≡ Prompt first o) (quiet : is_opening e ≡ false)
    (still : (ss : List Sent) → sent_after_event ss e ≡ ss) (will : ℕ → List ℕ)
    (grows : Grows will (length (sent_in h))) (starts : will (length (sent_in h)) ≡ opens first 0 (sent_in h))
    (low : first ≤ length (sent_in h)) where
  abbrev plan : Plan
  plan = plan_of v e

  abbrev sent : List Move → List Sent
  sent ms = sent_in (h ++ lines_so_far v e ms)

  abbrev At : List Move → Type 0
  At ms = IsSoFar first o will (length (sent_in h)) (plan_after plan ms) h (lines_so_far v e ms) (sent ms)

  at_first : At []
  unfolding delivered_in
  at_first = record {
    long =
        let same : length (sent_in (h ++ [])) ≡ length (sent_in h) =
        ap (λ (l : List Line). length (sent_in l)) (append-nil h) in
        omega (arith, same);
    all =
        ap (λ (l : List Line). opens first 0 (sent_in l)) (append-nil h) ∙ sym starts
        ∙ ap (λ (l : List Line). will (length (sent_in l))) (sym (append-nil h));
    plan = inl rule;
  }

  -- a further move
  module _ (ms : List Move) (m : Move) (a : AreDue plan v ms) (d : due (plan_after plan ms) (world_after v ms) ≡ Some m.action)
      (x : At ms) where
    abbrev w : World
    w = world_after v ms

    abbrev g : List Line
    g = h ++ lines_so_far v e ms

    moment : IsMoment w g
    moment = record {
      before = v;
      history = h;
      stands = s;
      event = e;
      allowed = allowed;
      moves = ms;
      are_due = a;
      world_is = refl;
      lines_are = refl;
    }

    there : IsStanding w g
    there = standing more w g moment

    lines_are : lines_so_far v e (ms ++ m ∷ []) ≡ lines_so_far v e ms ++ lines_in w m
    lines_are = so_far_more v e ms m d

    sent_are : sent (ms ++ m ∷ []) ≡ fold sent_after (sent ms) (lines_in w m)
    unfolding sent_in
    sent_are =
        ap (λ (l : List Line). sent_in (h ++ l)) lines_are
        ∙ ap sent_in (sym (append_assoc h (lines_so_far v e ms) (lines_in w m)))
        ∙ fold-append sent_after [] g (lines_in w m)

    abbrev After : Plan → Type 0
    After p = (p.rule ≡ Prompt first o)
        ⊎ ((p ≡ by_rule Alone) × (opens first 0 (fold sent_after (sent ms) (lines_in w m)) ≡ [])
        × Rests o (h ++ (lines_so_far v e ms ++ lines_in w m)))

    built : length (sent_in h) ≤ length (fold sent_after (sent ms) (lines_in w m))
        → delivered_in (lines_so_far v e ms ++ lines_in w m) ++ opens first 0 (fold sent_after (sent ms) (lines_in w m))
        ≡ will (length (fold sent_after (sent ms) (lines_in w m)))
        → After (went_on (plan_after plan ms) m.action) → At (ms ++ m ∷ [])
    built long all p =
        subst (λ (q : Plan). IsSoFar first o will (length (sent_in h)) q h (lines_so_far v e (ms ++ m ∷ []))
        (sent (ms ++ m ∷ [])))
        (sym (plan_more plan ms m))
        (subst (λ (l : List Line). IsSoFar first o will (length (sent_in h)) (went_on (plan_after plan ms) m.action) h l
        (sent (ms ++ m ∷ []))) (sym lines_are)
        (subst (IsSoFar first o will (length (sent_in h)) (went_on (plan_after plan ms) m.action) h
        (lines_so_far v e ms ++ lines_in w m)) (sym sent_are)
        (record { long = long; all = all; plan = p })))

    -- the rule by which it is due
    rule_is : (plan_after plan ms).rule ≡ Prompt first o
    rule_is = elim x.plan [
      | inl is ↦ is
      | inr over ↦ absurd (cc (sym (ap (λ (p : Plan). due p w) over.0) ∙ d))
    ]

    stays : (b : Action) → m.action ≡ b → rule_after (Prompt first o) b ≡ Prompt first o
        → After (went_on (plan_after plan ms) m.action)
    stays b is same =
        inl (ap (λ (r : Rule). rule_after r m.action) rule_is ∙ ap (rule_after (Prompt first o)) is ∙ same)

    -- where nothing is delivered
    sends_so : Sends (lines_in w m) → After (went_on (plan_after plan ms) m.action) → At (ms ++ m ∷ [])
    sends_so r p =
        built (sent_on first will (length (sent_in h)) low grows (lines_so_far v e ms) (sent ms) x.long x.all (lines_in w m) r)
        (all_on first will (length (sent_in h)) low grows (lines_so_far v e ms) (sent ms) x.long x.all (lines_in w m) r) p

    -- what is due by the rule
    due_there : (b : Action) → m.action ≡ b → ((f : Event) → b ≡ Opens f → ⊥) → due_pending w o (next_pending w first) ≡ Some b
    due_there b is none =
        by (plan_after plan ms) rule_is (d ∙ ap (λ (y : Action). Some y) is)
      where
        by : (p : Plan) → p.rule ≡ Prompt first o → due p w ≡ Some b → due_pending w o (next_pending w first) ≡ Some b
        by p r e = opened p.opening (subst (λ (q : Rule). due_in w q p.opening ≡ Some b) r e)
          where
            opened : (f : Option Event) → due_in w (Prompt first o) f ≡ Some b
                → due_pending w o (next_pending w first) ≡ Some b
            opened None i = i
            opened (Some f) i = let same : Opens f ≡ b = cc i in absurd (none f (sym same))

    -- ---- each action

    in_lines : (b : Action) → m.action ≡ b → (ls : List Line)
        → with_event b (move w (record { action = b; chosen = m.chosen })).lines ≡ ls → lines_in w m ≡ ls
    in_lines b is ls e = ap (λ (x : Action). lines_in w (record { action = x; chosen = m.chosen })) is ∙ e

    opens_so : (f : Event) → m.action ≡ Opens f → At (ms ++ m ∷ [])
    opens_so f is =
        let own : f ≡ e = its_event v e ms w f (d ∙ ap (λ (y : Action). Some y) is) in
        let opens_it : m.action ≡ Opens e = is ∙ ap Opens own in
        let sends : Sends (sends_all (begins w m.chosen e)).lines = opens_sends w m.chosen e quiet in
        sends_so
        (subst Sends (sym (in_lines (Opens e) opens_it _ refl))
        (behind_idle (line.Event e) (sends_all (begins w m.chosen e)).lines (refl, still) sends))
        (stays (Opens e) opens_it refl)

    times_so : (c k : ℕ) → m.action ≡ TimesOut c k → At (ms ++ m ∷ [])
    times_so c k is =
        sends_so (subst Sends (sym (in_lines (TimesOut c k) is _ refl)) (times_out_sends w m.chosen c k))
        (stays (TimesOut c k) is refl)

    -- the lowest one is delivered
    delivers_so : (n : ℕ) → m.action ≡ Delivers n → next_pending w first ≡ Some n → At (ms ++ m ∷ [])
    delivers_so n is next = by (says w m.chosen (Delivers n))
      where
        opened : opens first 0 (sent ms) ≡ n ∷ opens first 0 (changed_at (sent ms) n arrived)
        opened =
            ap (opens first 0) there.messages ∙ next_open first w.network.messages n next
            ∙ ap (λ (ss : List Sent). n ∷ opens first 0 (changed_at ss n arrived)) (sym there.messages)

        marked : List Sent
        marked = changed_at (sent ms) n arrived

        long_then : length (sent_in h) ≤ length marked
        long_then = let same : length marked ≡ length (sent ms) = changed_length (sent ms) n _ in omega (arith, same, x.long)

        by : Says w m.chosen (Delivers n) (move w (record { action = Delivers n; chosen = m.chosen })).lines
            → At (ms ++ m ∷ [])
        by (PlainLines b) =
            sends_so (subst Sends (sym (in_lines (Delivers n) is _ refl)) (plain_sends _ b)) (stays (Delivers n) is refl)
        by (ADelivery j p number found rest b are) =
            let same : n ≡ j = cc number in
            let ls : lines_in w m ≡ line.Delivered n (receipt_of w m.chosen j p) ∷ rest =
            in_lines (Delivers n) is (line.Delivered n (receipt_of w m.chosen j p) ∷ rest)
            (are ∙ ap (λ (i : ℕ). line.Delivered i (receipt_of w m.chosen j p) ∷ rest) (sym same)) in
            delivered (receipt_of w m.chosen j p) rest b ls
          where
            delivered : (r : Delivery) (rest : List Line) → Plain rest → lines_in w m ≡ line.Delivered n r ∷ rest → At (ms ++ m ∷ [])
            delivered r rest b ls =
                let more_told : (lines_so_far v e ms ++ line.Delivered n r ∷ []) ++ rest ≡ lines_so_far v e ms ++ lines_in w m =
                append_assoc (lines_so_far v e ms) (line.Delivered n r ∷ []) rest
                ∙ ap (λ (l : List Line). lines_so_far v e ms ++ l) (sym ls) in
                let after : fold sent_after marked rest ≡ fold sent_after (sent ms) (lines_in w m) =
                ap (fold sent_after (sent ms)) (sym ls) in
                let first_all = delivers_on first will (length (sent_in h)) low grows (lines_so_far v e ms) (sent ms) x.long
                x.all n r opened in
                let long = sent_on first will (length (sent_in h)) low grows (lines_so_far v e ms ++ line.Delivered n r ∷ [])
                marked long_then first_all rest (plain_sends rest b) in
                let all = all_on first will (length (sent_in h)) low grows (lines_so_far v e ms ++ line.Delivered n r ∷ [])
                marked long_then first_all rest (plain_sends rest b) in
                built (subst (λ (ss : List Sent). length (sent_in h) ≤ length ss) after long)
                (subst (λ (l : List Line). delivered_in l ++ opens first 0 (fold sent_after (sent ms) (lines_in w m))
                ≡ will (length (fold sent_after (sent ms) (lines_in w m)))) more_told
                (subst (λ (ss : List Sent).
                delivered_in ((lines_so_far v e ms ++ line.Delivered n r ∷ []) ++ rest) ++ opens first 0 ss
                ≡ will (length ss)) after all))
                (stays (Delivers n) is refl)
        by (ATimeout c k a out found rest b are) = absurd out
        by (AVerdict d bytes x out rest b are) = absurd (cc out)
        by (ARefusal c a why found refuses are) = absurd refuses

    rests_behind : (c : ℕ) → m.action ≡ Pends c → IsQuiet w o (Pends c) → Rests o (h ++ (lines_so_far v e ms ++ lines_in w m))
    rests_behind c is (Times j k a own found a_drive i) = absurd (cc i)
    rests_behind c is (Leaves j a own found rests i) =
        subst (λ (y : Option ℕ). Rests y (h ++ (lines_so_far v e ms ++ lines_in w m))) (sym own)
        (λ b is_b. subst (λ (y : ClientAt). awaited_of y.state.call ≡ [])
        (same_Some a b (sym (same_client ∙ there.clients j ∙ found) ∙ is_b)) rests)
      where
        same_client : client_after (h ++ (lines_so_far v e ms ++ lines_in w m)) j ≡ client_after g j
        same_client =
            ap (λ (ls : List Line). client_after ls j) (sym (append_assoc h (lines_so_far v e ms) (lines_in w m)))
            ∙ ap (λ (s : ClientSeen). s.client) (fold-append (sees_client j) _ g (lines_in w m))
            ∙ ap (λ (ls : List Line). (fold (sees_client j) (client_seen j g) ls).client) (in_lines (Pends c) is _ refl)
            ∙ pends_clients w m.chosen c j (client_seen j g)

    -- the call is left pending
    pends_so : (c : ℕ) → m.action ≡ Pends c → next_pending w first ≡ None → IsQuiet w o (Pends c) → At (ms ++ m ∷ [])
    pends_so c is none quietly =
        let idle = pends_still w m.chosen c in
        let lines : lines_in w m ≡ (sends_all (acts w m.chosen (Pends c))).lines = in_lines (Pends c) is _ refl in
        let told : delivered_in (lines_in w m) ≡ [] = ap delivered_in lines ∙ idle.0 in
        let same : fold sent_after (sent ms) (lines_in w m) ≡ sent ms =
        ap (fold sent_after (sent ms)) lines ∙ idle.1 (sent ms) in
        let closed : opens first 0 (sent ms) ≡ [] =
        ap (opens first 0) there.messages ∙ none_open first 0 w.network.messages none in
        built (subst (λ (ss : List Sent). length (sent_in h) ≤ length ss) (sym same) x.long)
        (ap (λ (l : List ℕ). l ++ opens first 0 (fold sent_after (sent ms) (lines_in w m)))
        (delivered_more (lines_so_far v e ms) (lines_in w m) ∙ ap (λ (l : List ℕ). delivered_in (lines_so_far v e ms) ++ l) told
        ∙ append-nil (delivered_in (lines_so_far v e ms)))
        ∙ ap (λ (ss : List Sent). delivered_in (lines_so_far v e ms) ++ opens first 0 ss) same ∙ x.all
        ∙ ap (λ (ss : List Sent). will (length ss)) (sym same))
        (inr (
          ap (λ (r : Rule). by_rule (rule_after r m.action)) rule_is
              ∙ ap (λ (b : Action). by_rule (rule_after (Prompt first o) b)) is,
          ap (opens first 0) same ∙ closed,
          rests_behind c is quietly,
        ))

    -- what is due by the rule
    quietly : (b : Action) → m.action ≡ b → ((f : Event) → b ≡ Opens f → ⊥)
        → ((n : ℕ) × (next_pending w first ≡ Some n) × (b ≡ Delivers n)) ⊎ ((next_pending w first ≡ None) × IsQuiet w o b)
    quietly b is none = due_is w b o (next_pending w first) (due_there b is none)

    number_is : (n j : ℕ) → Delivers n ≡ Delivers j → j ≡ n
    number_is n j i = cc i

    one_more : At (ms ++ m ∷ [])
    one_more = by m.action refl
      where
        by : (b : Action) → m.action ≡ b → At (ms ++ m ∷ [])
        by (Opens f) is = opens_so f is
        by (TimesOut c k) is = times_so c k is
        by (Delivers n) is = elim (quietly (Delivers n) is (λ f i. cc i)) [
          | inl y ↦ delivers_so n is (y.1 ∙ ap (λ (j : ℕ). Some j) (number_is n y.0 y.2))
          | inr y ↦ absurd (no_delivery y.1)
        ]
          where
            no_delivery : IsQuiet w o (Delivers n) → ⊥
            no_delivery (Times c k a own found a_drive i) = cc i
            no_delivery (Leaves c a own found rests i) = cc i
        by (Pends c) is = elim (quietly (Pends c) is (λ f i. cc i)) [
          | inl y ↦ absurd (cc y.2)
          | inr y ↦ pends_so c is y.0 y.1
        ]

  goes : (done ms : List Move) → AreDue plan v done → AreDue (plan_after plan done) (world_after v done) ms → At done
      → At (done ++ ms)
  goes done [] a b x = subst At (sym (append-nil done)) x
  goes done (m ∷ ms) a b x =
      subst At (append_assoc done (m ∷ []) ms)
      (goes (done ++ m ∷ []) ms (due_more plan v done m a b.0)
      (subst (λ (p : Plan). AreDue p (world_after v (done ++ m ∷ [])) ms) (sym (plan_more plan done m))
      (subst (λ (w : World). AreDue (went_on (plan_after plan done) m.action) w ms) (sym (world_more v done m)) b.1))
      (one_more done m a b.0 x))

  -- at the end
  module _ (body : List Line) (next : World) (c : Carries v e (line.Event e ∷ body) next) where
    ended : At c.moves
    ended = goes [] c.moves tt c.are_due at_first

    some : (ms : List Move) → c.moves ≡ ms
        → (lines_so_far v e c.moves ≡ line.Event e ∷ body) × ((plan_after plan c.moves).opening ≡ None)
    some [] none = absurd (cc (subst (λ (l : List Move). IsEnded (plan_after plan l) next) none c.over))
    some (m ∷ ms) is = (
      ap (lines_so_far v e) is ∙ ap (λ (l : List Move). line.Event e ∷ lines_of v l) (sym is) ∙ sym c.lines_are,
      ap (λ (l : List Move). (plan_after plan l).opening) is ∙ no_opening (went_on plan m.action) ms refl,
    )

    own_lines : lines_so_far v e c.moves ≡ line.Event e ∷ body
    own_lines = (some c.moves refl).0

    moment_then : IsMoment (world_after v c.moves) (h ++ lines_so_far v e c.moves)
    moment_then = record {
      before = v;
      history = h;
      stands = s;
      event = e;
      allowed = allowed;
      moves = c.moves;
      are_due = c.are_due;
      world_is = refl;
      lines_are = refl;
    }

    there_then : IsStanding next (h ++ lines_so_far v e c.moves)
    there_then = subst (λ (u : World). IsStanding u (h ++ lines_so_far v e c.moves)) (sym c.world_is)
        (standing more (world_after v c.moves) (h ++ lines_so_far v e c.moves) moment_then)

    none_due : (plan_after plan c.moves).rule ≡ Prompt first o → due_pending next o (next_pending next first) ≡ None
    none_due prompt =
        sym (ap (due_by next) prompt)
        ∙ ap (λ (f : Option Event). due_in next (plan_after plan c.moves).rule f) (sym (some c.moves refl).1) ∙ c.over

    none_next : (y : Option ℕ) → due_pending next o y ≡ None → (y ≡ None) × (quiet_of next o ≡ None)
    none_next None i = (refl, i)
    none_next (Some n) i = absurd (cc i)

    closed : (opens first 0 (sent c.moves) ≡ []) × Rests o (h ++ lines_so_far v e c.moves)
    closed = elim ended.plan [
      | inr over ↦ (over.1, over.2)
      | inl prompt ↦
          let none = none_next (next_pending next first) (none_due prompt) in (
            ap (opens first 0) there_then.messages ∙ none_open first 0 next.network.messages none.0,
            rests o none.1,
          )
    ]
      where
        client : (j : ℕ) (y : Option ClientAt) → at_number next.clients j ≡ y → quiet_at j y ≡ None
            → Rests (Some j) (h ++ lines_so_far v e c.moves)
        client j None found i = λ b is_b. absurd (cc (sym (there_then.clients j ∙ found) ∙ is_b))
        client j (Some a) found i =
            λ b is_b. subst (λ (y : ClientAt). awaited_of y.state.call ≡ [])
            (same_Some a b (sym (there_then.clients j ∙ found) ∙ is_b)) (idle j a i)

        rests : (y : Option ℕ) → quiet_of next y ≡ None → Rests y (h ++ lines_so_far v e c.moves)
        rests None i = tt
        rests (Some j) i = client j (at_number next.clients j) refl i

    pub rests_then : Rests o (h ++ line.Event e ∷ body)
    rests_then = subst (λ (ls : List Line). Rests o (h ++ ls)) own_lines closed.1

    pub delivers_all : delivered_in body ≡ will (sent_by_end h e body)
    unfolding delivered_in
    delivers_all =
        ap delivered_in (sym own_lines)
        ∙ sym (append-nil (delivered_in (lines_so_far v e c.moves)))
        ∙ ap (λ (l : List ℕ). delivered_in (lines_so_far v e c.moves) ++ l) (sym closed.0)
        ∙ ended.all
        ∙ ap (λ (ls : List Line). will (length (sent_in (h ++ ls)))) own_lines
