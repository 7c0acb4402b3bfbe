-- Each event that is over delivers just what it has to.
use Rattle.std.proofs.Common.{◌≡◌, ◌++◌, ◌∷◌, ◌+◌, ◌-◌, ℕ, Bool, true, false, true≢false, List, [], length, fold, map, Option, Some, None, Result, Ok, Err, is_err, refl, sym, ap, subst, ◌∙◌, arith}
use Rattle.std.specs.List.{range_with_len}
use Rattle.std.proofs.lemmas.List.Sums.{fold-append}
use Rattle.client_rules.specs.Steps.{calls, awaits}
use Rattle.client_rules.specs.Messages.{Step as ClientStep}
use Rattle.scenario_text.specs.declared.event.Call.{Call}
use Rattle.scenario_text.specs.declared.event.Event.{Event}
use Rattle.scenario_text.specs.declared.event.Event.TheVariants as event
use Rattle.scenario_text.specs.declared.line.Line.{Line}
use Rattle.scenario_text.specs.declared.line.Line.TheVariants as line
use Rattle.world_history.specs.ClientNames.{CallErr}
use Rattle.world_history.specs.declared.messages.Sent.{Sent}
use Rattle.world_history.specs.State.{World, ClientAt, at_number}
use Rattle.world_history.specs.Moves.{Opens, by_client, called, calls_at, op_of, begins}
use Rattle.world_history.specs.Sending.{sent_lines, sends_all}
use Rattle.world_history.specs.Plans.{Alone, Prompt, is_refused, rule_of}
use Rattle.world_history.specs.Reading.{sent_after, sent_after_event, sent_in}
use Rattle.world_history.specs.Refusals.{refusal}
use Rattle.world_history.specs.Runs.{Carries}
use Rattle.world_history.specs.History.{StandsFor, OneEventMore}
use Rattle.world_history.specs.Laws.{shown}
use Rattle.history_law.specs.Moves.{number_in}
use Rattle.component_law.specs.Opening.{is_opening}
use Rattle.component_law.proofs.Shapes.{IsHeaded}
use Rattle.component_law.proofs.MoveOpening.{opens_headed}
use Rattle.ready_law.specs.Events.{StandsApart, EventsStandApart}
use Rattle.std.proofs.lemmas.List.{length-map}
use Rattle.history_claims.specs.Delivered.{delivered_in, open_from, owed_by, sent_by_end, EachEventDelivers}
use Rattle.history_claims.proofs.Moved.{Says, PlainLines, ADelivery, ATimeout, AVerdict, ARefusal, says}
use Rattle.history_claims.proofs.Plainly.{Plain, not_plain}
use Rattle.history_claims.proofs.Opened.{plain_sends, range_more, open_more, open_first, none_from}
use Rattle.cause_law.proofs.PendingMoves.{taken_rule}
use Rattle.cause_law.proofs.Unanswered.{between}
use Rattle.history_claims.proofs.Single.{IsSingle, single}
use Rattle.history_claims.proofs.Standing.{standing}
use Rattle.history_claims.proofs.SoFar.{Rests, Grows}
use Rattle.history_claims.proofs.Prompting.{rests_then, delivers_all}

-- ---- an event that delivers nothing but a message that it names

none_delivered : (w : World) (chosen : List ℕ) (e : Event) → ((n : ℕ) → number_in (Opens e) ≡ Some n → ⊥)
    → delivered_in (sends_all (begins w chosen e)).lines ≡ []
unfolding delivered_in
none_delivered w chosen e none = by (says w chosen (Opens e))
  where
    by : Says w chosen (Opens e) (sends_all (begins w chosen e)).lines → delivered_in (sends_all (begins w chosen e)).lines ≡ []
    by (PlainLines b) = (plain_sends _ b).none
    by (ADelivery n p number found rest b are) = absurd (none n number)
    by (ATimeout c k a is found rest b are) = ap delivered_in are ∙ (plain_sends rest b).none
    by (AVerdict d bytes x is rest b are) = ap delivered_in are ∙ (plain_sends rest b).none
    by (ARefusal c a why found refuses are) = ap delivered_in are

one_delivered : (w : World) (chosen : List ℕ) (n : ℕ) → refusal w (event.Deliver n) ≡ None
    → delivered_in (sends_all (begins w chosen (event.Deliver n))).lines ≡ n ∷ []
unfolding delivered_in
one_delivered w chosen n allowed = by (says w chosen (Opens (event.Deliver n)))
  where
    headed : IsHeaded (sends_all (begins w chosen (event.Deliver n))).lines
    headed = opens_headed w chosen (event.Deliver n) refl allowed

    by : Says w chosen (Opens (event.Deliver n)) (sends_all (begins w chosen (event.Deliver n))).lines
        → delivered_in (sends_all (begins w chosen (event.Deliver n))).lines ≡ n ∷ []
    by (PlainLines b) = absurd (not_plain headed.head headed.begins (subst Plain headed.are b).0)
    by (ADelivery j p number found rest b are) =
        let same : n ≡ j = cc number in
        ap delivered_in are ∙ ap (λ (l : List ℕ). j ∷ l) (plain_sends rest b).none ∙ ap (λ (i : ℕ). i ∷ []) (sym same)
    by (ATimeout c k a is found rest b are) = absurd is
    by (AVerdict d bytes x is rest b are) = absurd (cc is)
    by (ARefusal c a why found refuses are) = absurd refuses

module _ (v : World) (h : List Line) (e : Event) (body : List Line) (next : World) (c : Carries v e (line.Event e ∷ body) next)
    (alone : rule_of v e ≡ Alone) where
  own : IsSingle v e body
  own = single v e body next c alone

  delivers_none : ((n : ℕ) → number_in (Opens e) ≡ Some n → ⊥) → delivered_in body ≡ []
  delivers_none none = ap delivered_in own.lines_are ∙ none_delivered v own.chosen e none

-- ---- a call that is refused

refused_still : (v : World) (chosen : List ℕ) (c : ℕ) (x : Call) → is_refused (at_number v.clients c) (op_of x) ≡ true
    → (ss : List Sent) → fold sent_after ss (sends_all (begins v chosen (event.Do c x))).lines ≡ ss
unfolding begins calls_at sent_lines
refused_still v chosen c x is ss = found (at_number v.clients c) is
  where
    by : (a : ClientAt) (r : Result ClientStep CallErr) → is_err r ≡ true
        → fold sent_after ss (sends_all (called v c a (op_of x) r)).lines ≡ ss
    by a (Err e) err = refl
    by a (Ok s) err = absurd (true≢false (sym err))

    found : (o : Option ClientAt) → is_refused o (op_of x) ≡ true
        → fold sent_after ss
        (sends_all (by_client v (λ (a : ClientAt). called v c a (op_of x) (calls a.state (op_of x))) o)).lines ≡ ss
    found None err = refl
    found (Some a) err = by a (calls a.state (op_of x)) err

refused_rule : (v : World) (c : ℕ) (x : Call) → is_refused (at_number v.clients c) (op_of x) ≡ true
    → rule_of v (event.Do c x) ≡ Alone
unfolding rule_of
refused_rule v c x is = rw is refl

-- ---- what is sent in the event

new_grows : (count : ℕ) → Grows (λ n. range_with_len count (n - count)) count
new_grows count k n l =
    let long : k + n - count ≡ (k - count) + n = omega (arith, l) in
    let place : count + (k - count) ≡ k = omega (arith, l) in
    ap (range_with_len count) long ∙ range_more count (k - count) n
    ∙ ap (λ (j : ℕ). range_with_len count (k - count) ++ range_with_len j n) place

none_new : (count : ℕ) → range_with_len count (count - count) ≡ []
none_new count = let none : count - count ≡ 0 = omega arith in ap (range_with_len count) none

-- ---- each event

module _ (more : OneEventMore) (v : World) (h : List Line) (s : StandsFor v h) where
  count_is : length (sent_in h) ≡ length v.network.messages
  count_is = ap length (standing more v h (between v h s)).messages ∙ length-map v.network.messages shown

  news : (e : Event) (o : Option ℕ) → rule_of v e ≡ Prompt (length v.network.messages) o → is_opening e ≡ false
      → ((ss : List Sent) → sent_after_event ss e ≡ ss) → (body : List Line) (next : World)
      → (c : Carries v e (line.Event e ∷ body) next)
      → delivered_in body ≡ range_with_len (length (sent_in h)) (sent_by_end h e body - length (sent_in h))
  news e o rule quiet still body next c =
      delivers_all more v h s e c.allowed (length v.network.messages) o rule quiet still
      (λ n. range_with_len (length (sent_in h)) (n - length (sent_in h))) (new_grows (length (sent_in h)))
      (none_new (length (sent_in h))
      ∙ sym (none_from (length v.network.messages) 0 (sent_in h) (omega (arith, count_is))))
      (omega (arith, count_is)) body next c

  -- the call of a client that took it awaits no command then
  pub call_rests : (c : ℕ) (x : Call) (body : List Line) (next : World)
      → Carries v (event.Do c x) (line.Event (event.Do c x) ∷ body) next → is_refused (at_number v.clients c) (op_of x) ≡ false
      → Rests (Some c) (h ++ line.Event (event.Do c x) ∷ body)
  call_rests c x body next k taken =
      rests_then more v h s (event.Do c x) k.allowed (length v.network.messages) (Some c) (taken_rule v c x taken) refl
      (λ ss. refl) (λ n. range_with_len (length (sent_in h)) (n - length (sent_in h))) (new_grows (length (sent_in h)))
      (none_new (length (sent_in h))
      ∙ sym (none_from (length v.network.messages) 0 (sent_in h) (omega (arith, count_is))))
      (omega (arith, count_is)) body next k

  abbrev IsGiven : Event → List Line → Type 0
  IsGiven e body = delivered_in body ≡ owed_by (sent_in h) (sent_by_end h e body) e

  done : (c : ℕ) (x : Call) (body : List Line) (next : World)
      (k : Carries v (event.Do c x) (line.Event (event.Do c x) ∷ body) next)
      → (b : Bool) → is_refused (at_number v.clients c) (op_of x) ≡ b → IsGiven (event.Do c x) body
  unfolding sent_in
  done c x body next k true is =
      let alone = refused_rule v c x is in
      let one : IsSingle v (event.Do c x) body = own v h (event.Do c x) body next k alone in
      let same : sent_in (h ++ line.Event (event.Do c x) ∷ body) ≡ sent_in h =
      fold-append sent_after [] h (line.Event (event.Do c x) ∷ body)
      ∙ ap (fold sent_after (sent_in h)) one.lines_are ∙ refused_still v one.chosen c x is (sent_in h) in
      delivers_none v h (event.Do c x) body next k alone (λ n i. cc i)
      ∙ sym (none_new (length (sent_in h)))
      ∙ ap (λ (ss : List Sent). range_with_len (length (sent_in h)) (length ss - length (sent_in h))) (sym same)
  done c x body next k false is = news (event.Do c x) (Some c) (taken_rule v c x is) refl (λ ss. refl) body next k

  delivers_due : (e : Event) (body : List Line) (next : World) → Carries v e (line.Event e ∷ body) next → IsGiven e body
  unfolding rule_of
  delivers_due (event.Do c x) body next k = done c x body next k (is_refused (at_number v.clients c) (op_of x)) refl
  delivers_due (event.File f m tag) body next k = news (event.File f m tag) None refl refl (λ ss. refl) body next k
  delivers_due (event.ZonedFile f m tag) body next k =
      news (event.ZonedFile f m tag) None refl refl (λ ss. refl) body next k
  delivers_due event.Settle body next k =
      delivers_all more v h s event.Settle k.allowed 0 None refl refl (λ ss. refl) (open_from (sent_in h) 0)
      (λ j n l. open_more (sent_in h) j n l) (open_first (sent_in h)) (omega arith) body next k
  delivers_due (event.Deliver n) body next k =
      let one : IsSingle v (event.Deliver n) body = own v h (event.Deliver n) body next k refl in
      ap delivered_in one.lines_are ∙ one_delivered v one.chosen n k.allowed
  delivers_due e body next k = delivers_none v h e body next k refl (λ n i. cc i)

pub each_event_delivers : OneEventMore → EventsStandApart → EachEventDelivers
each_event_delivers more apart h l before e body over =
    let a : StandsApart before e body = apart h before e body l over in
    delivers_due more a.world before a.stands e body a.next a.carries
