-- A client refuses what it has to, and nothing else.
use Rattle.std.proofs.Common.{◌≡◌, ◌≢◌, ◌++◌, ◌∷◌, ◌+◌, ℕ, Bool, true, false, true≢false, List, [], Option, Some, None, Result, Ok, Err, is_some, is_err, refl, sym, ap, subst, ◌∙◌, arith, inl, inr, if◌then◌else◌}
use Rattle.std.proofs.lemmas.Bool.{cases_lt}
use Rattle.std.proofs.lemmas.Bool.Decides.{nat_tests}
use Rattle.client_rules.specs.declared.limits.TheConstants.{MAX_CALL}
use Rattle.client_rules.specs.Calls.{span_of}
use Rattle.client_rules.specs.Messages.{Step as ClientStep}
use Rattle.client_rules.specs.Steps.{is_bad_range, is_spent, starts, calls}
use Rattle.client_rules.specs.History as client_input
use Rattle.scenario_text.specs.declared.event.Call.{Call as EventCall}
use Rattle.scenario_text.specs.declared.event.Event.{Event}
use Rattle.scenario_text.specs.declared.event.Event.TheVariants as event
use Rattle.scenario_text.specs.declared.line.Line.{Line}
use Rattle.scenario_text.specs.declared.line.Line.TheVariants as line
use Rattle.scenario_text.specs.declared.line.Refusal.{Refusal}
use Rattle.scenario_text.specs.declared.line.Refusal.TheVariants as refusal
use Rattle.world_history.specs.ClientNames as client_rules
use Rattle.world_history.specs.ClientNames.{Client, Call, CallOp, CallErr, Span}
use Rattle.world_history.specs.State.{World, ClientAt, at_number}
use Rattle.world_history.specs.Told.{told_refusal}
use Rattle.world_history.specs.Handed.{client_goes}
use Rattle.world_history.specs.Moves.{Action, Opens, Delivers, TimesOut, Pends, acted, tells, by_client, called, calls_at, leaves, op_of, begins}
use Rattle.world_history.specs.Sending.{Move, move, sent_lines, sends_all}
use Rattle.world_history.specs.Plans.{Alone, is_refused, rule_of}
use Rattle.world_history.specs.Runs.{Carries}
use Rattle.world_history.specs.History.{StandsFor, OneEventMore, Lawful}
use Rattle.history_law.specs.Moments.{with_event, lines_in}
use Rattle.history_law.proofs.Each.{EachBehind}
use Rattle.ready_law.specs.Events.{StandsApart, EventsStandApart}
use Rattle.cause_law.specs.ReadClients.{client_after}
use Rattle.cause_law.proofs.CallHistories.{clients_are_read}
use Rattle.history_claims.specs.Refused.{PassesALimit, RefusesCall, RefusesToLeave, RefusesIn, RefusedAt, RefusalsAreTold, EachIsRefused}
use Rattle.history_claims.proofs.Plainly.{IsPlain, Plain}
use Rattle.history_claims.proofs.Moved.{Refuses, Says, PlainLines, ADelivery, ATimeout, AVerdict, ARefusal, says}
use Rattle.history_claims.proofs.Places.{at_lines}
use Rattle.history_claims.proofs.Single.{IsSingle, single}
use Rattle.history_claims.proofs.Standing.{IsStanding, standing}

-- ---- why

has_call : (o : Option Call) → is_some o ≡ true → o ≢ None
has_call None e none = true≢false (sym e)
has_call (Some c) e none = cc none

no_call : (o : Option Call) → is_some o ≡ false → o ≡ None
no_call None e = refl
no_call (Some c) e = absurd (true≢false e)

some_call : (o : Option Call) → o ≢ None → is_some o ≡ true
some_call None none = absurd (none refl)
some_call (Some c) none = refl

passes : (r : Span) → is_bad_range r ≡ true → PassesALimit r
passes r e = elim (cases_lt MAX_CALL r.length) [
  | inl long ↦ inl long
  | inr short ↦ inr (grind (arith, nat_tests, e, short))
]

is_bad : (r : Span) → PassesALimit r → is_bad_range r ≡ true
is_bad r p = elim p [
  | inl long ↦ grind (arith, nat_tests, long)
  | inr end ↦ grind (arith, nat_tests, end)
]

-- the refusal that the rules tell
module _ (x : Client) (op : CallOp) where
  abbrev late : Bool → Result ClientStep CallErr
  late spent = if spent then Err client_rules.SlotSpent else Ok (starts x op)

  abbrev ranged : Bool → Result ClientStep CallErr
  ranged bad = if bad then Err client_rules.BadRange else late (is_spent x.next)

  abbrev first : Bool → Result ClientStep CallErr
  first pending = if pending then Err client_rules.Busy else ranged (is_bad_range (span_of op))

  err_is : (t : Result ClientStep CallErr) (a e : CallErr) → RefusesCall x op (told_refusal a) → t ≡ Err a → t ≡ Err e
      → RefusesCall x op (told_refusal e)
  err_is t a e r one other =
      let same : a ≡ e = cc (sym one ∙ other) in subst (λ (y : CallErr). RefusesCall x op (told_refusal y)) same r

  not_bad : is_bad_range (span_of op) ≡ false → PassesALimit (span_of op) → ⊥
  not_bad f p = true≢false (sym (is_bad (span_of op) p) ∙ f)

  because : (e : CallErr) → calls x op ≡ Err e → RefusesCall x op (told_refusal e)
  unfolding calls
  because e is = by_pending (is_some x.call) refl is
    where
      by_spent : (b : Bool) → is_spent x.next ≡ b → x.call ≡ None → is_bad_range (span_of op) ≡ false → late b ≡ Err e
          → RefusesCall x op (told_refusal e)
      by_spent true s none good i = err_is (late true) client_rules.SlotSpent e (none, not_bad good, s) refl i
      by_spent false s none good i = absurd (cc i)

      by_range : (b : Bool) → is_bad_range (span_of op) ≡ b → x.call ≡ None → ranged b ≡ Err e
          → RefusesCall x op (told_refusal e)
      by_range true bad none i = err_is (ranged true) client_rules.BadRange e (none, passes (span_of op) bad) refl i
      by_range false good none i = by_spent (is_spent x.next) refl none good i

      by_pending : (b : Bool) → is_some x.call ≡ b → first b ≡ Err e → RefusesCall x op (told_refusal e)
      by_pending true some i = err_is (first true) client_rules.Busy e (has_call x.call some) refl i
      by_pending false none i = by_range (is_bad_range (span_of op)) refl (no_call x.call none) i

  -- and the other way
  abbrev IsTold : Refusal → Type 0
  IsTold why = (e : CallErr) × (calls x op ≡ Err e) × (told_refusal e ≡ why)

  refused_so : (why : Refusal) → RefusesCall x op why → IsTold why
  unfolding calls
  refused_so refusal.Busy r = (client_rules.Busy, ap first (some_call x.call r), refl)
  refused_so refusal.BadRange r = (
    client_rules.BadRange,
    ap first (ap is_some r.0) ∙ ap ranged (is_bad (span_of op) r.1),
    refl,
  )
  refused_so refusal.SlotSpent r = (
    client_rules.SlotSpent,
    ap first (ap is_some r.0) ∙ ap ranged (good (is_bad_range (span_of op)) refl) ∙ ap late r.2,
    refl,
  )
    where
      good : (b : Bool) → is_bad_range (span_of op) ≡ b → is_bad_range (span_of op) ≡ false
      good true bad = absurd (r.1 (passes (span_of op) bad))
      good false fine = fine

-- ---- the lines of a move

plain : (b : List Line) (l : Line) → IsPlain l → RefusedAt b l
plain b (line.Refused c why) p = absurd p
plain b l p = tt

plain_lines : (b ls : List Line) → Plain ls → EachBehind RefusedAt b ls
plain_lines b [] p = tt
plain_lines b (l ∷ ls) p = (plain b l p.0, plain_lines (b ++ l ∷ []) ls p.1)

module _ (w : World) (h : List Line) (s : IsStanding w h) (m : Move) where
  refuses_in : (e : Event) (c : ℕ) (a : ClientAt) (why : Refusal) → at_number w.clients c ≡ Some a
      → Refuses (Opens e) c a.state why
      → RefusesIn h e c why
  refuses_in (event.Do k x) c a why found r = (
    r.0,
    record {
      caller = a;
      there = s.clients k ∙ ap (at_number w.clients) r.0 ∙ found;
      refuses = subst (RefusesCall a.state (op_of x)) (sym r.1.2) (because a.state (op_of x) r.1.0 r.1.1);
    },
  )
  refuses_in (event.Call k x) c a why found r = (
    r.0,
    record {
      caller = a;
      there = s.clients k ∙ ap (at_number w.clients) r.0 ∙ found;
      refuses = subst (RefusesCall a.state (op_of x)) (sym r.1.2) (because a.state (op_of x) r.1.0 r.1.1);
    },
  )
  refuses_in (event.Leave k) c a why found r = (
    r.0,
    record {
      caller = a;
      there = s.clients k ∙ ap (at_number w.clients) r.0 ∙ found;
      refuses = subst (RefusesToLeave a.state) (sym r.2) (has_call a.state.call r.1);
    },
  )
  refuses_in e c a why found r = absurd r

  all_lines : (b : List Line)
      → ((c : ℕ) (a : ClientAt) (why : Refusal) → at_number w.clients c ≡ Some a → Refuses m.action c a.state why
      → RefusedAt b (line.Refused c why))
      → Says w m.chosen m.action (move w m).lines → EachBehind RefusedAt b (move w m).lines
  all_lines b so (PlainLines p) = plain_lines b (move w m).lines p
  all_lines b so (ADelivery n p number found rest q are) =
      subst (EachBehind RefusedAt b) (sym are) (tt, plain_lines (b ++ _ ∷ []) rest q)
  all_lines b so (ATimeout c j a is found rest q are) =
      subst (EachBehind RefusedAt b) (sym are) (tt, plain_lines (b ++ _ ∷ []) rest q)
  all_lines b so (AVerdict d bytes x is rest q are) =
      subst (EachBehind RefusedAt b) (sym are) (tt, plain_lines (b ++ _ ∷ []) rest q)
  all_lines b so (ARefusal c a why found refuses are) =
      subst (EachBehind RefusedAt b) (sym are) (so c a why found refuses, tt)

  move_refused : EachBehind RefusedAt h (lines_in w m)
  move_refused = by m.action refl
    where
      never : (b : Action) → ((e : Event) → b ≡ Opens e → ⊥) → m.action ≡ b → EachBehind RefusedAt h (move w m).lines
      never b none is =
          all_lines h
          (λ c a why found r. absurd (not_there b none c a why (subst (λ (x : Action). Refuses x c a.state why) is r)))
          (says w m.chosen m.action)
        where
          not_there : (x : Action) → ((e : Event) → x ≡ Opens e → ⊥) → (c : ℕ) (a : ClientAt) (why : Refusal)
              → Refuses x c a.state why → ⊥
          not_there (Opens e) other c a why r = other e refl
          not_there (Delivers n) other c a why r = r
          not_there (TimesOut x y) other c a why r = r
          not_there (Pends x) other c a why r = r

      by : (b : Action) → m.action ≡ b → EachBehind RefusedAt h (with_event b (move w m).lines)
      by (Opens e) is = (
        tt,
        all_lines (h ++ line.Event e ∷ [])
            (λ c a why found r. record {
              start = h;
              event = e;
              lines_are = refl;
              refuses = refuses_in e c a why found (subst (λ (x : Action). Refuses x c a.state why) is r);
            })
            (says w m.chosen m.action),
      )
      by (Delivers n) is = never (Delivers n) (λ e i. cc i) is
      by (TimesOut x y) is = never (TimesOut x y) (λ e i. cc i) is
      by (Pends x) is = never (Pends x) (λ e i. cc i) is

-- ---- the other way

module _ (v : World) (chosen : List ℕ) (c : ℕ) (a : ClientAt) (found : at_number v.clients c ≡ Some a) where
  call_lines : (op : CallOp) (why : Refusal) → RefusesCall a.state op why
      → (sends_all (calls_at v c op)).lines ≡ line.Refused c why ∷ []
  unfolding calls_at sent_lines
  call_lines op why r =
      let t = refused_so a.state op why r in
      ap (λ (o : Option ClientAt). (sends_all (by_client v (λ (x : ClientAt). called v c x op (calls x.state op)) o)).lines) found
      ∙ ap (λ (y : Result ClientStep CallErr). (sends_all (called v c a op y)).lines) t.1
      ∙ ap (λ (y : Refusal). line.Refused c y ∷ []) t.2

  leave_lines : (why : Refusal) → RefusesToLeave a.state why → (sends_all (leaves v c)).lines ≡ line.Refused c why ∷ []
  unfolding leaves sent_lines
  leave_lines refusal.Busy r =
      ap (λ (o : Option ClientAt). (sends_all (by_client v (λ (x : ClientAt).
      if is_some x.state.call then tells v (line.Refused c refusal.Busy)
      else acted (client_goes v c x client_input.Leaves)) o)).lines) found
      ∙ ap (λ (b : Bool). (sends_all (if b then tells v (line.Refused c refusal.Busy)
      else acted (client_goes v c a client_input.Leaves))).lines) (some_call a.state.call r)
  leave_lines refusal.BadRange r = absurd r
  leave_lines refusal.SlotSpent r = absurd r

  refused_alone : (x : EventCall) (why : Refusal) → RefusesCall a.state (op_of x) why → rule_of v (event.Do c x) ≡ Alone
  unfolding rule_of
  refused_alone x why r =
      let t = refused_so a.state (op_of x) why r in
      let err : is_refused (at_number v.clients c) (op_of x) ≡ true =
      ap (λ (o : Option ClientAt). is_refused o (op_of x)) found
      ∙ ap is_err t.1 in
      rw err refl

module _ (v : World) (h : List Line) (s : StandsFor v h) where
  found_there : (c : ℕ) (a : ClientAt) → client_after h c ≡ Some a → at_number v.clients c ≡ Some a
  found_there c a there = sym (clients_are_read v h s c) ∙ there

  told : (e : Event) (body : List Line) (next : World) → Carries v e (line.Event e ∷ body) next → (client : ℕ) (why : Refusal)
      → RefusesIn h e client why → body ≡ line.Refused client why ∷ []
  unfolding rule_of begins
  told (event.Do c x) body next k client why r =
      let found = found_there c r.1.caller r.1.there in
      let one : IsSingle v (event.Do c x) body =
      single v (event.Do c x) body next k (refused_alone v [] c r.1.caller found x why r.1.refuses) in
      one.lines_are ∙ call_lines v one.chosen c r.1.caller found (op_of x) why r.1.refuses
      ∙ ap (λ (n : ℕ). line.Refused n why ∷ []) r.0
  told (event.Call c x) body next k client why r =
      let found = found_there c r.1.caller r.1.there in
      let one : IsSingle v (event.Call c x) body = single v (event.Call c x) body next k refl in
      one.lines_are ∙ call_lines v one.chosen c r.1.caller found (op_of x) why r.1.refuses
      ∙ ap (λ (n : ℕ). line.Refused n why ∷ []) r.0
  told (event.Leave c) body next k client why r =
      let found = found_there c r.1.caller r.1.there in
      let one : IsSingle v (event.Leave c) body = single v (event.Leave c) body next k refl in
      one.lines_are ∙ leave_lines v one.chosen c r.1.caller found why r.1.refuses
      ∙ ap (λ (n : ℕ). line.Refused n why ∷ []) r.0
  told e body next k client why r = absurd r

refusals_are_told : EventsStandApart → (h : List Line) → Lawful h → RefusalsAreTold h
refusals_are_told apart h l before e body over client why r =
    let a : StandsApart before e body = apart h before e body l over in
    told a.world before a.stands e body a.next a.carries client why r

pub each_is_refused : OneEventMore → EventsStandApart → EachIsRefused
each_is_refused more apart h l = record {
  only = at_lines RefusedAt more (λ w g k m d. move_refused w g (standing more w g k) m) h l;
  told = refusals_are_told apart h l;
}
