-- A ready call comes to its client.
use Rattle.std.proofs.Common.{◌≡◌, ◌≢◌, ◌⊎◌, ◌≤◌, ◌-◌, ◌==◌, ℕ, zero, suc, true, false, List, [], ◌∷◌, ◌++◌, length, filter, slice_get, Option, Some, None, Result, is_some, option_map, Ok, inl, inr, refl, sym, ap, subst, ◌∙◌, ne_eqb, arith}
use Rattle.std.proofs.lemmas.Bool.{cases_Bool, le-ltb}
use Rattle.std.proofs.lemmas.Bool.Decides.{nat_tests}
use Rattle.scenario_text.specs.declared.line.Outcome.TheVariants as outcome
use Rattle.scenario_text.specs.declared.line.Line.TheVariants as line
use Rattle.scenario_text.specs.declared.line.Line.{Line}
use Rattle.server_rules.specs.Grants.{grant_of, without}
use Rattle.server_rules.specs.Slots.{admit, slot_of}
use Rattle.client_rules.specs.declared.limits.TheConstants.{GREATEST_SEQUENCE, SPARE_REQUESTS}
use Rattle.client_rules.specs.Calls.{span_of}
use Rattle.client_rules.specs.Commands.{credential_in}
use Rattle.client_rules.specs.Grants.{held_of, covers}
use Rattle.client_rules.specs.History.{Calls, unless_refused, step}
use Rattle.client_rules.specs.Messages.{Step as ClientStep}
use Rattle.client_rules.specs.Requests.{get_args, return_args}
use Rattle.client_rules.specs.Steps.{is_bad_range, is_spent, writes_nothing, starts, calls}
use Rattle.client_rules.proofs.HeldGrants.{held_file}
use Rattle.world_history.specs.declared.limits.TheConstants.{MAX_KEPT}
use Rattle.world_history.specs.ClientNames.{Client, CallOp, CallErr, Write, Read, Held, Listed, First, Get, WriteOk}
use Rattle.world_history.specs.ServerNames.{Server, Grant}
use Rattle.world_history.specs.State.{World, ClientAt, at_number}
use Rattle.world_history.specs.Handed.{is_addressed, client_posts, ended_by}
use Rattle.world_history.specs.Sending.{Move, move}
use Rattle.history_law.specs.BookMoments.{lines_in}
use Rattle.exchange_law.specs.Counters.{ClientCounts}
use Rattle.exchange_law.specs.Doing.{posted}
use Rattle.exchange_law.specs.InStep.{state_of}
use Rattle.exchange_law.specs.Meeting.{IsFitting, IsMet}
use Rattle.exchange_law.proofs.ClientKeeping.{none_left}
use Rattle.exchange_law.proofs.HeldWorlds.{reached, readable_there}
use Rattle.cause_law.proofs.Files.{few_there}
use Rattle.component_law.specs.Listed.{ListsComponents}
use Rattle.component_law.specs.Sizes.{IsCommitted}
use Rattle.ready_law.specs.Answered.{IsOk}
use Rattle.ready_law.specs.Ready.{is_listed}
use Rattle.ready_law.specs.Stepping.{TakesCall}
use Rattle.ready_law.proofs.Calls.{ReadyCall, op_at, file_at_call, kept_at, own_at, lost_at, IsIn}
use Rattle.ready_law.proofs.Going.{OpensCall}
use Rattle.ready_law.proofs.Stages.{Serves, Returns, AsksFirst, GoesOn, Further, Over, OthersRest}
use Rattle.ready_law.proofs.Stepping.{calls_step}
use Rattle.ready_law.proofs.AskingAsks.{AsksNext, asks_next, in_step_there, has_number, new_idle}
use Rattle.ready_law.proofs.AskingForms.{AskingLaws, Steps, BeginsToWork}
use Rattle.ready_law.proofs.AskingFrames.{serves_stays, sent_more}
use Rattle.ready_law.proofs.AskingGood.{ListsCall, is_good}
use Rattle.ready_law.proofs.AskingMoves.{called_steps}
use Rattle.ready_law.proofs.AskingReturns.{has_grant}
use Rattle.ready_law.proofs.Resting.{nothing_grows, same_some_of, drives_begin}

-- ---- lists

none_own : (gs : List Grant) (c : ℕ) → grant_of gs c ≡ None → without gs c ≡ gs
none_own [] c e = refl
none_own (g ∷ gs) c e = elim (cases_Bool (g.client == c)) [
  | inl t ↦ absurd (cc (rw t at e))
  | inr z ↦ rw z (ap (λ (xs : List Grant). g ∷ xs) (none_own gs c (rw z at e)))
]

-- what stands in one of two lists of a length has its like in the other
its_like : {A B : Type 0} (xs : List A) (ys : List B) (k : ℕ) (x : A) → length ys ≡ length xs → slice_get xs k ≡ Some x
    → (y : B) × (slice_get ys k ≡ Some y)
its_like [] ys k x same e = absurd (cc e)
its_like (a ∷ xs) [] k x same e = absurd (cc same)
its_like (a ∷ xs) (b ∷ ys) zero x same e = (b, refl)
its_like (a ∷ xs) (b ∷ ys) (suc k) x same e = its_like xs ys k x (omega (arith, same)) e

-- a write of no byte did what it was called for
nothing_ok : (op : CallOp) → writes_nothing op ≡ true → IsOk op (outcome.WriteOk 0)
nothing_ok (Write file offset bytes) e = grind (arith, nat_tests, e)
nothing_ok (Read file offset count) e = absurd (cc e)

ended_so : (c : ℕ) (op : CallOp) → ended_by c (Some op) (Some (WriteOk 0)) ≡ line.Ended c (outcome.WriteOk 0) ∷ []
ended_so c (Write file offset bytes) = refl
ended_so c (Read file offset count) = refl

-- a client that can take a call takes it
starts_it : (c : Client) (op : CallOp) → c.call ≡ None → is_bad_range (span_of op) ≡ false → is_spent c.next ≡ false
    → calls c op ≡ Ok (starts c op)
unfolding calls
starts_it c op idle range numbers = rw (idle, range, numbers) refl

module _ (laws : AskingLaws) (begins_work : BeginsToWork) (s : ReadyCall) (m : Move) (o : OpensCall s m)
    (k : IsIn s s.world s.history) (next : IsIn s (move s.world m).world (s.history ++ lines_in s.world m)) where
  abbrev v : World
  v = (move s.world m).world

  abbrev caller : ClientAt
  caller = s.ready.caller

  abbrev c : Client
  c = s.ready.caller.state

  there : at_number s.world.clients s.client ≡ Some caller
  there = s.ready.there

  some_number : c.next ≢ 0
  some_number = has_number laws s.world s.history k.fair s.client caller there

  none_due : c.due ≡ []
  none_due =
      laws.rests s.world (reached s.world s.history k.fair.moment) s.client caller there s.ready.idle.free
      s.ready.idle.answered some_number

  numbers : is_spent c.next ≡ false
  numbers =
      let counts : ClientCounts c (length s.world.network.messages) =
      laws.counts s.world (reached s.world s.history k.fair.moment) s.client caller there in
      let few : length s.world.network.messages ≤ MAX_KEPT = few_there s.world s.history k.fair.moment k.fair.few in
      rw (
        ne_eqb c.next 0 some_number,
        le-ltb (GREATEST_SEQUENCE - SPARE_REQUESTS) (c.next - 1) (omega (arith, counts.requests, few)),
      ) refl

  takes : TakesCall c (op_at s)
  takes = record {
    idle = s.ready.idle.free;
    free = s.ready.idle.answered;
    none_due = none_due;
    range = s.ready.range;
    numbers = numbers;
  }

  abbrev its_step : ClientStep
  its_step = step c (Calls (op_at s))

  starts_so : calls c (op_at s) ≡ Ok (starts c (op_at s))
  starts_so = starts_it c (op_at s) s.ready.idle.free s.ready.range numbers

  taken : calls c (op_at s) ≡ Ok its_step
  taken = starts_so ∙ sym (ap (λ (r : Result ClientStep CallErr). Ok (unless_refused c r)) starts_so)

  steps : Steps s.world m s.client caller (Some (op_at s)) its_step
  steps = called_steps s.world m s.client s.its caller its_step o.action_is there taken

  met_number : c.number ≡ s.client
  met_number = (in_step_there laws s.world s.history k.fair s.client caller there).number

  server : Serves s s.world (kept_at s).grants (kept_at s).size
  server = record { clock = refl; up = s.ready.up; high = (kept_at s).high; found = s.ready.found }

  behind : Serves s v (kept_at s).grants (kept_at s).size
  behind = serves_stays s s.world v _ _ steps.server steps.clock steps.down server

  begins_aside : OthersRest s v (kept_at s).grants []
  begins_aside e other = inr (inl (record { client = steps.others e other; grant = refl }))

  -- ---- nothing is to be written

  nothing_goes_on : writes_nothing (op_at s) ≡ true → GoesOn s v (lines_in s.world m)
  nothing_goes_on nothing =
      let is = calls_step.nothing c (op_at s) takes nothing in
      let after : steps.after.state ≡ c = steps.state ∙ ap (λ (t : ClientStep). t.client) is in
      let none = ap posted steps.posts
      ∙ ap (λ (t : ClientStep). posted (filter is_addressed (client_posts s.client steps.wrote steps.logged t.sends))) is in
      Over (record {
        at = steps.after;
        there = steps.there;
        free =
            ap (λ (x : Client). x.call) after ∙ s.ready.idle.free;
        queue = o.queue_is ∙ none;
        sent = sent_more s s.world m 0 _ [] (omega arith) o.count_is none (omega arith);
        rests = λ whole. record {
          grants = (kept_at s).grants;
          server =
              subst (λ (n : ℕ). Serves s v (kept_at s).grants n) (sym (nothing_grows (kept_at s) (op_at s) nothing)) behind;
          at = steps.after;
          there = steps.there;
          idle = record {
            alive = steps.stopped ∙ s.ready.idle.alive;
            free = ap (λ (x : Client). x.call) after ∙ s.ready.idle.free;
            answered = ap (λ (x : Client). x.outstanding) after ∙ s.ready.idle.answered;
          };
          alike =
              ap (λ (x : Client). is_some (held_of x.held (file_at_call s))) after
              ∙ same_some_of (own_at s) (grant_of (kept_at s).grants s.client) s.ready.same;
          others = λ g i. inr i;
          aside = begins_aside;
          drives = drives_begin s v steps.drives;
        };
      }) (record {
        front = steps.front;
        outcome = outcome.WriteOk 0;
        back = steps.back;
        lines_are =
            steps.lines
            ∙ ap (λ (t : ClientStep). steps.front ++ (ended_by s.client (Some (op_at s)) t.outcome ++ steps.back)) is
            ∙ ap (λ (ls : List Line). steps.front ++ (ls ++ steps.back)) (ended_so s.client (op_at s));
        ok = nothing_ok (op_at s) nothing;
        once = (steps.no_front s.client, steps.no_back s.client);
      })

  -- ---- no grant is held

  module _ (some : writes_nothing (op_at s) ≡ false) (none : own_at s ≡ None) where
    asks : AsksNext s s.world m c (Get 0) (get_args (op_at s))
    asks =
        asks_next s s.world m c (Get 0) (get_args (op_at s)) caller (Some (op_at s)) its_step steps s.ready.idle.alive
        met_number none_due (calls_step.unheld c (op_at s) takes some none)

    -- nor has the server one
    no_own : grant_of (kept_at s).grants s.client ≡ None
    no_own = by (grant_of (kept_at s).grants s.client) refl
      where
        by : (x : Option Grant) → grant_of (kept_at s).grants s.client ≡ x → grant_of (kept_at s).grants s.client ≡ None
        by None is = is
        by (Some g) is =
            let both : None ≡ Some g.number =
            sym (ap (option_map (λ (h : Held). h.number)) none) ∙ s.ready.same
            ∙ ap (option_map (λ (x : Grant). x.number)) is in
            absurd (cc both)

    unheld_goes_on : GoesOn s v (lines_in s.world m)
    unheld_goes_on = Further (AsksFirst (record {
      request = asks.request;
      asks = record {
        args_are = asks.args_are;
        caller = asks.caller;
        released = ap (λ (hs : List Held). held_of hs (file_at_call s)) asks.held ∙ none;
        uncovered = λ h held. absurd (cc (sym none ∙ held));
        server =
            subst (λ (gs : List Grant). Serves s v gs (kept_at s).size)
            (sym (none_own (kept_at s).grants s.client no_own)) behind;
        drives = steps.drives;
      };
      asked = record {
        client_is = asks.client_is;
        file_is = asks.file_is;
        new =
            ap (λ (x : Server). admit (slot_of x.slots s.client) asks.request.sequence) steps.server
            ∙ ap (λ (n : ℕ). admit (slot_of s.world.server.slots s.client) n) asks.sequence
            ∙ new_idle laws s.world s.history k.fair s.client caller there s.ready.idle.answered;
      };
      untouched = steps.others;
      queue = o.queue_is ∙ asks.posts;
      sent = sent_more s s.world m 0 _ _ (omega arith) o.count_is asks.posts (omega arith);
    })) asks.silent

  -- ---- a grant is held

  module _ (some : writes_nothing (op_at s) ≡ false) (held : Held) (owned : own_at s ≡ Some held) where
    -- it doesn't cover the call
    module _ (covered : covers held (op_at s) ≡ false) where
      returns : AsksNext s s.world m c First (return_args held.number [])
      returns =
          asks_next s s.world m c First (return_args held.number []) caller (Some (op_at s)) its_step steps
          s.ready.idle.alive met_number none_due (calls_step.uncovered c held (op_at s) takes some owned covered)

      uncovered_goes_on : GoesOn s v (lines_in s.world m)
      uncovered_goes_on = Further (Returns (record {
        request = returns.request;
        number = held.number;
        args_are = returns.args_are;
        asked = record {
          client_is = returns.client_is;
          file_is = returns.file_is;
          new =
              ap (λ (x : Server). admit (slot_of x.slots s.client) returns.request.sequence) steps.server
              ∙ ap (λ (n : ℕ). admit (slot_of s.world.server.slots s.client) n) returns.sequence
              ∙ new_idle laws s.world s.history k.fair s.client caller there s.ready.idle.answered;
        };
        caller = returns.caller;
        released =
            ap (λ (hs : List Held). held_of hs (file_at_call s)) returns.held ∙ none_left c.held (file_at_call s);
        server = behind;
        drives = steps.drives;
        untouched = steps.others;
        queue = o.queue_is ∙ returns.posts;
        uncovered = λ h is.
            let same : held ≡ h = cc (sym owned ∙ is) in ap (λ (x : Held). covers x (op_at s)) (sym same) ∙ covered;
        sent = sent_more s s.world m 0 _ _ (omega arith) o.count_is returns.posts (omega arith);
        own = held;
        owned = owned;
      })) returns.silent

    -- it does
    module _ (covered : covers held (op_at s) ≡ true) where
      granted : (g : Grant) × (grant_of (kept_at s).grants s.client ≡ Some g)
      granted = has_grant s held owned

      abbrev grant : Grant
      grant = granted.0

      here : held_of (state_of s.client (at_number s.world.clients s.client)).held (file_at_call s) ≡ Some held
      here = ap (λ (x : Option ClientAt). held_of (state_of s.client x).held (file_at_call s)) there ∙ owned

      met : IsMet s.world.server s.client (state_of s.client (at_number s.world.clients s.client))
      met = laws.agree s.world s.history k.fair.moment k.fair.readable s.client

      components : ListsComponents s.world.server.drives (kept_at s) grant held.components
      components =
          laws.listed s.world s.history k.fair.moment k.fair.readable s.client (file_at_call s) held s.ready.file grant here
          s.ready.found granted.1

      size_is : held.size ≡ (kept_at s).size
      size_is =
          by (laws.sizes s.world s.history k.fair.moment k.fair.readable s.client (file_at_call s) held s.ready.file grant here
          s.ready.found granted.1)
        where
          by : (held.size ≡ (kept_at s).size)
              ⊎ IsCommitted s.world.server s.client (state_of s.client (at_number s.world.clients s.client)) s.ready.file
              → held.size ≡ (kept_at s).size
          by (inl same) = same
          by (inr later) =
              absurd (cc (sym (ap (λ (x : Option ClientAt). (state_of s.client x).outstanding) there ∙ s.ready.idle.answered)
              ∙ later.outstanding))

      fitting : IsFitting s.world.server s.ready.file
      fitting = (readable_there s.world s.history k.fair.moment k.fair.readable).files (file_at_call s) s.ready.file s.ready.found

      lists : ListsCall s held
      lists = record {
        map = (met.helds (file_at_call s) held here s.ready.file grant s.ready.found granted.1).map;
        size = size_is;
        checked = fitting.map;
        shape =
            (laws.shapes s.world (reached s.world s.history k.fair.moment) (file_at_call s) s.ready.file
            s.ready.found).components;
        count = components.count;
        unlisted = λ j at found none.
            let l = its_like (kept_at s).components held.components j at components.count found in
            (components.each j at l.0 found l.1).missing
            (no_credential l.0 (ap (λ (x : Option Listed). is_some (credential_in x)) (sym l.1) ∙ none));
        listed = λ j. so j (own_at s) owned;
      }
        where
          no_credential : (l : Listed) → is_some l.credential ≡ false → l.credential ≡ None
          no_credential l none = by l.credential refl none
            where
              by : (x : _) → l.credential ≡ x → is_some x ≡ false → l.credential ≡ None
              by None is e = is
              by (Some y) is e = absurd (cc e)

          so : (j : ℕ) (x : Option Held) → x ≡ Some held
              → is_some (credential_in (slice_get held.components j)) ≡ is_listed (kept_at s) x (op_at s) j
          so j x is = rw (is, covered) refl

      pub covered_goes_on : GoesOn s v (lines_in s.world m)
      covered_goes_on = begins_work s s.world s.history m next (record {
        client = c;
        held = held;
        number = met_number;
        free = s.ready.idle.answered;
        none_due = none_due;
        holds = owned;
        file = held_file c.held (file_at_call s) held owned;
        covered = covered;
        good = is_good s held lists;
        size = size_is;
        listed = λ j has. sym (lists.listed j) ∙ has;
        new =
            ap (λ (x : Server). admit (slot_of x.slots s.client) c.next) steps.server
            ∙ new_idle laws s.world s.history k.fair s.client caller there s.ready.idle.answered;
        before = caller;
        alive = s.ready.idle.alive;
        result = its_step;
        step = steps;
        well = calls_step.covered c held (op_at s) (lost_at s) takes some owned covered (is_good s held lists);
        grants = (kept_at s).grants;
        grant = grant;
        granted = granted.1;
        others = λ g i. inr i;
        aside = begins_aside;
        server = behind;
        in_time = λ j at x found up there. (s.ready.drives j at x found up there).own grant granted.1;
        drives = steps.drives;
        queue = o.queue_is;
        count = o.count_is;
        sent = omega arith;
      })

  -- ---- whichever it is

  by_held : writes_nothing (op_at s) ≡ false → (x : Option Held) → own_at s ≡ x → GoesOn s v (lines_in s.world m)
  by_held some None none = unheld_goes_on some none
  by_held some (Some held) owned = elim (cases_Bool (covers held (op_at s))) [
    | inl covered ↦ covered_goes_on some held owned covered
    | inr uncovered ↦ uncovered_goes_on some held owned uncovered
  ]

  pub call_opens : GoesOn s v (lines_in s.world m)
  call_opens = elim (cases_Bool (writes_nothing (op_at s))) [
    | inl nothing ↦ nothing_goes_on nothing
    | inr some ↦ by_held some (own_at s) refl
  ]

pub opens_call : AskingLaws → BeginsToWork → (s : ReadyCall) (m : Move) → OpensCall s m → IsIn s s.world s.history
    → IsIn s (move s.world m).world (s.history ++ lines_in s.world m)
    → GoesOn s (move s.world m).world (lines_in s.world m)
opens_call laws begins_work s m o k next = call_opens laws begins_work s m o k next
