-- A call is left pending exactly at the end of the event in which it came.
use Rattle.std.proofs.Common.{◌≡◌, ◌⊎◌, ℕ, Bool, true, false, List, [], ◌∷◌, ◌++◌, length, Option, Some, None, is_some, is_err, option_map, refl, sym, ap, subst, ◌∙◌, inl, inr, if◌then◌else◌}
use Rattle.osd_lists.proofs.Options.{same_some}
use Rattle.server_rules.specs.Laws.{In}
use Rattle.client_rules.specs.Messages.{awaited_of}
use Rattle.client_rules.specs.Steps.{calls, awaits_by, awaits}
use Rattle.scenario_text.specs.declared.event.Call.{Call as EventCall}
use Rattle.scenario_text.specs.declared.event.Event.{Event}
use Rattle.scenario_text.specs.declared.event.Event.TheVariants as event
use Rattle.scenario_text.specs.declared.line.CallKind.{CallKind}
use Rattle.scenario_text.specs.declared.line.Line.{Line}
use Rattle.world_history.specs.ClientNames.{Client, Call, CallOp, Awaited, Request}
use Rattle.world_history.specs.State.{World, ClientAt, at_number}
use Rattle.world_history.specs.Told.{kind_of}
use Rattle.world_history.specs.Handed.{pending_op}
use Rattle.world_history.specs.Moves.{Act, Action, Opens, Delivers, TimesOut, Pends, tells, by_client, pends_as, pends, op_of}
use Rattle.world_history.specs.Sending.{Move, move, sent_lines, sends_all}
use Rattle.world_history.specs.Plans.{when_quiet, quiet_at, due_pending, next_pending, Rule, Alone, Prompt, Plan, due_by, due, rule_after, went_on, is_refused, rule_of, plan_of}
use Rattle.world_history.specs.Runs.{plan_after}
use Rattle.history_law.specs.Moments.{IsMoment, plan_at, lines_in}
use Rattle.cause_law.specs.Pending.{IsTaken, IsPending, IsLeft, pending_line, IsLast, IsLeftExactly, EachCallIsLeftSo}
use Rattle.cause_law.proofs.CallHistories.{clients_are_read, clients_at}
use Rattle.history_law.proofs.Ending.{next_moment}
use Rattle.cause_law.proofs.PendingLines.{none_in, IsOther, others_none}

-- ---- the rule behind some moves

kept_rule : (r : Rule) (a : Action) → (rule_after r a ≡ r) ⊎ (rule_after r a ≡ Alone)
kept_rule r (Opens e) = inl refl
kept_rule r (Delivers n) = inl refl
kept_rule r (TimesOut c k) = inl refl
kept_rule r (Pends c) = inr refl

alone_after : (a : Action) → rule_after Alone a ≡ Alone
alone_after (Opens e) = refl
alone_after (Delivers n) = refl
alone_after (TimesOut c k) = refl
alone_after (Pends c) = refl

-- what is left to do by a rule
abbrev by_rule : Rule → Plan
by_rule r = record { opening = None; rule = r }

alone_stays : (ms : List Move) → plan_after (by_rule Alone) ms ≡ by_rule Alone
alone_stays [] = refl
alone_stays (m ∷ ms) =
    ap (λ (r : Rule). plan_after (by_rule r) ms) (alone_after m.action) ∙ alone_stays ms

-- the rule stays, or nothing is left to do
later_rule : (r : Rule) (ms : List Move)
    → (plan_after (by_rule r) ms ≡ by_rule r) ⊎ (plan_after (by_rule r) ms ≡ by_rule Alone)
later_rule r [] = inl refl
later_rule r (m ∷ ms) = elim (kept_rule r m.action) [
  | inl same ↦
      let it : plan_after (by_rule (rule_after r m.action)) ms ≡ plan_after (by_rule r) ms =
      ap (λ (q : Rule). plan_after (by_rule q) ms) same in
      elim (later_rule r ms) [ inl stays ↦ inl (it ∙ stays) | inr alone ↦ inr (it ∙ alone) ]
  | inr alone ↦ inr (ap (λ (q : Rule). plan_after (by_rule q) ms) alone ∙ alone_stays ms)
]

not_alone : (w : World) (p : Plan) (a : Action) → p ≡ by_rule Alone → due p w ≡ Some a → ⊥
not_alone w p a alone d = cc (sym (ap (λ (q : Plan). due q w) alone) ∙ d)

-- while something is due the rule is the event's
pub rule_there : (v : World) (e : Event) (ms : List Move) (w : World) (a : Action) → due (plan_after (plan_of v e) ms) w ≡ Some a
    → (plan_after (plan_of v e) ms).rule ≡ rule_of v e
rule_there v e [] w a d = refl
rule_there v e (m ∷ ms) w a d = elim (later_rule (rule_after (rule_of v e) m.action) ms) [
  | inr alone ↦ absurd (not_alone w (plan_after (plan_of v e) (m ∷ ms)) a alone d)
  | inl stays ↦ elim (kept_rule (rule_of v e) m.action) [
    | inl same ↦ ap (λ (p : Plan). p.rule) stays ∙ same
    | inr alone ↦
        absurd (not_alone w (plan_after (plan_of v e) (m ∷ ms)) a (stays ∙ ap by_rule alone) d)
  ]
]

-- ---- where a call is left pending

record IsDue (w : World) (r : Rule) (c : ℕ) : Type 0 where
  first : ℕ
  rule : r ≡ Prompt first (Some c)
  caller : ClientAt
  there : at_number w.clients c ≡ Some caller
  call : Call
  pending : caller.state.call ≡ Some call
  quiet : awaited_of caller.state.call ≡ []

quiet_pends : (k c : ℕ) (x : Client) (xs : List Awaited) (o : Option Request)
    → when_quiet k x (awaits_by xs o) ≡ Some (Pends c)
    → (xs ≡ []) × ((if is_some x.call then Some (Pends k) else None) ≡ Some (Pends c))
quiet_pends k c x (a ∷ xs) o d = absurd (cc d)
quiet_pends k c x [] (Some r) d = (refl, d)
quiet_pends k c x [] None d = (refl, d)

some_pends : (k c : ℕ) (o : Option Call) → (if is_some o then Some (Pends k) else None) ≡ Some (Pends c)
    → (call : Call) × (o ≡ Some call) × (k ≡ c)
some_pends k c None d = absurd (cc d)
some_pends k c (Some call) d = (call, refl, same d)
  where
    same : Some (Pends k) ≡ Some (Pends c) → k ≡ c
    same e = cc e

due_pends : (w : World) (r : Rule) (c : ℕ) → due_by w r ≡ Some (Pends c) → IsDue w r c
unfolding awaits
due_pends w Alone c d = absurd (cc d)
due_pends w (Prompt first o) c d = by_next (next_pending w first) o d
  where
    by_client : (k : ℕ) (a : Option ClientAt) → at_number w.clients k ≡ a → quiet_at k a ≡ Some (Pends c)
        → IsDue w (Prompt first (Some k)) c
    by_client k None there e = absurd (cc e)
    by_client k (Some a) there e =
        let q = quiet_pends k c a.state (awaited_of a.state.call) a.state.outstanding e in
        let s = some_pends k c a.state.call q.1 in
        record {
          first = first;
          rule = ap (λ (n : ℕ). Prompt first (Some n)) s.2;
          caller = a;
          there = ap (at_number w.clients) (sym s.2) ∙ there;
          call = s.0;
          pending = s.1;
          quiet = q.0;
        }

    by_next : (n o : Option ℕ) → due_pending w o n ≡ Some (Pends c) → IsDue w (Prompt first o) c
    by_next (Some n) o e = absurd (cc e)
    by_next None None e = absurd (cc e)
    by_next None (Some k) e = by_client k (at_number w.clients k) refl e

-- only a call that is taken has such a rule
prompt_rule : (v : World) (e : Event) (first c : ℕ) → rule_of v e ≡ Prompt first (Some c)
    → (its : EventCall) × (e ≡ event.Do c its) × (is_refused (at_number v.clients c) (op_of its) ≡ false)
unfolding rule_of
prompt_rule v (event.Do k x) first c is = by (is_refused (at_number v.clients k) (op_of x)) refl is
  where
    by : (b : Bool) → is_refused (at_number v.clients k) (op_of x) ≡ b
        → (if b then Alone else Prompt (length v.network.messages) (Some k)) ≡ Prompt first (Some c)
        → (its : EventCall) × (event.Do k x ≡ event.Do c its) × (is_refused (at_number v.clients c) (op_of its) ≡ false)
    by true e f = absurd (cc f)
    by false e f =
        let same : k ≡ c = cc f in (
          x,
          ap (λ (n : ℕ). event.Do n x) same,
          subst (λ (n : ℕ). is_refused (at_number v.clients n) (op_of x) ≡ false) same e,
        )
prompt_rule v (event.File f m tag) first c is = absurd (cc is)
prompt_rule v (event.ZonedFile f m tag) first c is = absurd (cc is)
prompt_rule v event.Settle first c is = absurd (cc is)
prompt_rule v e first c is = absurd (cc is)

pub taken_rule : (v : World) (c : ℕ) (its : EventCall) → is_refused (at_number v.clients c) (op_of its) ≡ false
    → rule_of v (event.Do c its) ≡ Prompt (length v.network.messages) (Some c)
unfolding rule_of
taken_rule v c its is = rw is refl

-- ---- its line

pends_act : (w : World) (c : ℕ) (a : ClientAt) (call : Call) → at_number w.clients c ≡ Some a → a.state.call ≡ Some call
    → pends w c ≡ tells w (pending_line c (kind_of call.op))
unfolding pends
pends_act w c a call there pending =
    ap (by_client w (λ (x : ClientAt). pends_as w c (pending_op x.state))) there
    ∙ ap (λ (o : Option Call). pends_as w c (option_map (λ (y : Call). y.op) o)) pending

pends_lines : (w : World) (chosen : List ℕ) (c : ℕ) (a : ClientAt) (call : Call) → at_number w.clients c ≡ Some a
    → a.state.call ≡ Some call
    → lines_in w (record { action = Pends c; chosen = chosen }) ≡ pending_line c (kind_of call.op) ∷ []
unfolding sent_lines
pends_lines w chosen c a call there pending =
    ap (λ (x : Act). (sends_all x).lines) (pends_act w c a call there pending)

pends_clients : (w : World) (chosen : List ℕ) (c : ℕ) (a : ClientAt) (call : Call) → at_number w.clients c ≡ Some a
    → a.state.call ≡ Some call → (move w (record { action = Pends c; chosen = chosen })).world.clients ≡ w.clients
pends_clients w chosen c a call there pending =
    ap (λ (x : Act). (sends_all x).world.clients) (pends_act w c a call there pending)

-- ---- a move

not_refused : (o : Option ClientAt) (op : CallOp) → is_refused o op ≡ false
    → (a : ClientAt) × (o ≡ Some a) × (is_err (calls a.state op) ≡ false)
not_refused None op e = absurd (cc e)
not_refused (Some a) op e = (a, refl, e)

module _ (w : World) (h : List Line) (k : IsMoment w h) (m : Move) (d : due (plan_at k) w ≡ Some m.action) where
  abbrev own : Rule
  own = rule_of k.before k.event

  rule_is : (plan_at k).rule ≡ own
  rule_is = rule_there k.before k.event k.moves w m.action d

  -- it isn't the event's first one
  opened : (c : ℕ) → m.action ≡ Pends c → due_by w (plan_at k).rule ≡ Some (Pends c)
  opened c is = by (plan_at k) (d ∙ ap (λ (a : Action). Some a) is)
    where
      by : (p : Plan) → due p w ≡ Some (Pends c) → due_by w p.rule ≡ Some (Pends c)
      by p e = by_opening p.opening p.rule e
        where
          by_opening : (o : Option Event) (r : Rule) → due (record { opening = o; rule = r }) w ≡ Some (Pends c)
              → due_by w r ≡ Some (Pends c)
          by_opening None r e = e
          by_opening (Some x) r e = absurd (cc e)

  its_due : (c : ℕ) → m.action ≡ Pends c → IsDue w own c
  its_due c is = subst (λ (r : Rule). IsDue w r c) rule_is (due_pends w (plan_at k).rule c (opened c is))

  its_lines : (c : ℕ) → m.action ≡ Pends c → (p : IsDue w own c) → lines_in w m ≡ pending_line c (kind_of p.call.op) ∷ []
  its_lines c is p =
      ap (λ (a : Action). lines_in w (record { action = a; chosen = m.chosen })) is
      ∙ pends_lines w m.chosen c p.caller p.call p.there p.pending

  same_line : (c client : ℕ) (j kind : CallKind) → In (pending_line client kind) (pending_line c j ∷ [])
      → (c ≡ client) × (j ≡ kind)
  same_line c client j kind (inl e) = by e
    where
      by : pending_line client kind ≡ pending_line c j → (c ≡ client) × (j ≡ kind)
      by f = (cc f, cc f)
  same_line c client j kind (inr i) = absurd i

  left : (client : ℕ) (kind : CallKind) → In (pending_line client kind) (lines_in w m)
      → IsLeft k.history k.event h client kind × IsLast k m
  left client kind i = by m.action refl
    where
      by : (a : Action) → m.action ≡ a → IsLeft k.history k.event h client kind × IsLast k m
      by (Pends c) is =
          let p : IsDue w own c = its_due c is in
          let there : In (pending_line client kind) (pending_line c (kind_of p.call.op) ∷ []) =
          subst (In (pending_line client kind)) (its_lines c is p) i in
          let whose = same_line c client (kind_of p.call.op) kind there in
          let q = prompt_rule k.before k.event p.first c p.rule in
          let r = not_refused (at_number k.before.clients c) (op_of q.0) q.2 in (
            subst (λ (n : ℕ). IsLeft k.history k.event h n kind) whose.0 (record {
              its = q.0;
              event_is = q.1;
              takes = record {
                caller = r.0;
                there = clients_are_read k.before k.history k.stands c ∙ r.1;
                taken = r.2;
              };
              still = record {
                caller = p.caller;
                there = clients_at w h k c ∙ p.there;
                call = p.call;
                pending = p.pending;
              };
              kind_is = sym whose.1;
              quiet = p.quiet;
            }),
            ap (λ (a : Action). due (went_on (plan_at k) a) (move w m).world) is,
          )
      by (Opens e) is = absurd (none_in (lines_in w m) (others_none w m (subst IsOther (sym is) tt)) client kind i)
      by (Delivers n) is = absurd (none_in (lines_in w m) (others_none w m (subst IsOther (sym is) tt)) client kind i)
      by (TimesOut c j) is = absurd (none_in (lines_in w m) (others_none w m (subst IsOther (sym is) tt)) client kind i)

  -- ---- the other way

  abbrev behind : World
  behind = (move w m).world

  -- a client that awaits nothing of a drive has no call where nothing is due
  none_due : (c : ℕ) (x : Client) (call : Call) → x.call ≡ Some call → (xs : List Awaited) (o : Option Request)
      → when_quiet c x (awaits_by xs o) ≡ None → ⊥
  none_due c x call some (a ∷ xs) o e = cc e
  none_due c x call some [] (Some r) e =
      cc (sym (ap (λ (y : Option Call). if is_some y then Some (Pends c) else None) some) ∙ e)
  none_due c x call some [] None e =
      cc (sym (ap (λ (y : Option Call). if is_some y then Some (Pends c) else None) some) ∙ e)

  over : (first c : ℕ) (a : ClientAt) (call : Call) → at_number behind.clients c ≡ Some a → a.state.call ≡ Some call
      → due_by behind (Prompt first (Some c)) ≡ None → ⊥
  unfolding awaits
  over first c a call there pending e = by (next_pending behind first) e
    where
      by : (n : Option ℕ) → due_pending behind (Some c) n ≡ None → ⊥
      by (Some n) f = cc f
      by None f =
          none_due c a.state call pending (awaited_of a.state.call) a.state.outstanding
          (sym (ap (λ (o : Option ClientAt). quiet_at c o) there) ∙ f)

  tells_it : (client : ℕ) (its : EventCall) → k.event ≡ event.Do client its → IsTaken k.history client (op_of its) → IsLast k m
      → (p : IsPending (h ++ lines_in w m) client) → In (pending_line client (kind_of p.call.op)) (lines_in w m)
  tells_it client its event_is taken last p = by m.action refl
    where
      refused : is_refused (at_number k.before.clients client) (op_of its) ≡ false
      refused =
          ap (λ (o : Option ClientAt). is_refused o (op_of its))
          (sym (clients_are_read k.before k.history k.stands client) ∙ taken.there)
          ∙ taken.taken

      prompts : own ≡ Prompt (length k.before.network.messages) (Some client)
      prompts =
          ap (λ (e : Event). rule_of k.before e) event_is ∙ taken_rule k.before client its refused

      there : at_number behind.clients client ≡ Some p.caller
      there = sym (clients_at behind (h ++ lines_in w m) (next_moment w h k m d) client) ∙ p.there

      others : (rule_after own m.action ≡ own) → In (pending_line client (kind_of p.call.op)) (lines_in w m)
      others stays =
          absurd (over (length k.before.network.messages) client p.caller p.call there p.pending
          (sym (ap (due_by behind) (ap (λ (r : Rule). rule_after r m.action) rule_is ∙ stays ∙ prompts)) ∙ last))

      same_client : (c first : ℕ) → own ≡ Prompt first (Some c) → client ≡ c
      same_client c first e = by_rules (sym prompts ∙ e)
        where
          by_rules : Prompt (length k.before.network.messages) (Some client) ≡ Prompt first (Some c) → client ≡ c
          by_rules f = cc f

      by : (a : Action) → m.action ≡ a → In (pending_line client (kind_of p.call.op)) (lines_in w m)
      by (Pends c) is =
          let q : IsDue w own c = its_due c is in
          let its : client ≡ c = same_client c q.first q.rule in
          let stays : behind.clients ≡ w.clients =
          ap (λ (a : Action). (move w (record { action = a; chosen = m.chosen })).world.clients) is
          ∙ pends_clients w m.chosen c q.caller q.call q.there q.pending in
          let caller : p.caller ≡ q.caller =
          same_some p.caller q.caller (at_number behind.clients client) there
          (ap (λ (cs : List (ℕ × ClientAt)). at_number cs client) stays ∙ ap (at_number w.clients) its ∙ q.there) in
          let call : p.call ≡ q.call =
          same_some p.call q.call p.caller.state.call p.pending (ap (λ (a : ClientAt). a.state.call) caller ∙ q.pending) in
          subst (In (pending_line client (kind_of p.call.op))) (sym (its_lines c is q))
          (inl (ap (λ (n : ℕ). pending_line n (kind_of p.call.op)) its
          ∙ ap (λ (x : Call). pending_line c (kind_of x.op)) call))
      by (Opens e) is = others (ap (rule_after own) is)
      by (Delivers n) is = others (ap (rule_after own) is)
      by (TimesOut c j) is = others (ap (rule_after own) is)

  pub left_exactly : IsLeftExactly w h k m
  left_exactly = record { left = left; tells = tells_it }

pub each_call_is_left_so : EachCallIsLeftSo
each_call_is_left_so w h k m d = left_exactly w h k m d
