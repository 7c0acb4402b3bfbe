-- Each message of a ready call's event that is delivered, where nothing is lost: it brings few messages, each short, and it may be
use Rattle.cause_law.proofs.Sends.{answer_message as pending_answer, outstanding_of}
use Rattle.client_rules.specs.Calls.{bytes_of, span_of}
use Rattle.client_rules.specs.Grants.{covers}
use Rattle.client_rules.specs.Requests.{get_args, return_args}
use Rattle.component_law.proofs.Server.{found_own}
use Rattle.component_law.proofs.Without.{no_grant}
use Rattle.exchange_law.proofs.HeldWorlds.{reached}
use Rattle.exchange_law.specs.Calls.{CallFine, IsCall}
use Rattle.exchange_law.specs.InStep.{state_of}
use Rattle.exchange_law.specs.Meeting.{IsMet, KeptGood}
use Rattle.generate_law.proofs.KeptHears.{MayHear, ServerIsQuiet, gets_quietly, recall_answer_quiet, returns_quietly}
use Rattle.generate_law.proofs.KeptMoves.{IsShort, SendsLittle, asks_little, little_of}
use Rattle.generate_law.proofs.KeptSizes.{Gets as GetsPlain, Returns as ReturnsPlain, later_answer, layout_answer, plain_request, recall_answer_size, recall_size, returned_answer}
use Rattle.osd_lists.proofs.Options.{same_some}
use Rattle.ready_law.proofs.AskingAsks.{answer_steps, its_answer}
use Rattle.ready_law.proofs.AskingForms.{AskingLaws}
use Rattle.ready_law.proofs.AskingFrames.{against_others, not_covered, opposed_in, opposed_yields}
use Rattle.ready_law.proofs.AskingGives.{caller_named}
use Rattle.ready_law.proofs.AskingHolders.{GivesBack, gives_back}
use Rattle.ready_law.proofs.AskingReturns.{has_grant}
use Rattle.ready_law.proofs.AskingServed.{Arrives, IsDone, IsGet, IsSent, file_now, get_given, get_refused, own_sent, return_done, wanted_now}
use Rattle.ready_law.proofs.Calls.{DeliversHead, IsIn, ReadyCall, answer_message, kept_at, lost_at, op_at, opposed_at, own_at, queue_at, request_message, wanted_at}
use Rattle.ready_law.proofs.ServingForms.{IsNothing, recall_message, recall_messages}
use Rattle.ready_law.proofs.ServingGets.{given, held_off, with_grant}
use Rattle.ready_law.proofs.ServingReturns.{given_back, recall_answer_is_nothing}
use Rattle.ready_law.proofs.Stages.{AreHalves, AreRecalls, AreReturns, Asking, AskingAgain, Caller, IsAsked, IsRecallAnswer, IsReturning, Recalling, Returned, Returning, Serves}
use Rattle.ready_law.proofs.Stepping.{answers_step}
use Rattle.ready_law.proofs.Together.{ReadyLaws}
use Rattle.ready_law.specs.Ready.{Yields}
use Rattle.ready_law.specs.Stepping.{IsAnsweredAt, unasked}
use Rattle.scenario_text.specs.declared.line.Line.{Line}
use Rattle.scenario_text.specs.declared.names.TheConstants.{CLIENTS}
use Rattle.server_rules.proofs.FileLaws.{safe_at}
use Rattle.server_rules.proofs.Members.{in_behind, in_filter, in_filtered}
use Rattle.server_rules.specs.Answers.{recall_of}
use Rattle.server_rules.specs.Files.{file_at}
use Rattle.server_rules.specs.Grants.{against, conflicts, grant_of, without}
use Rattle.server_rules.specs.Laws.{Apart, In}
use Rattle.server_rules.specs.Slots.{admit, slot_of}
use Rattle.std.proofs.Common.{true≢false, ℕ, List, None, Option, Some, [], ap, append_assoc, arith, false, inl, inr, length, nat_lt, not, option_map, refl, subst, sym, ◌++◌, ◌+◌, ◌<◌, ◌==◌, ◌∙◌, ◌∷◌, ◌≡◌, ◌≢◌, ◌≤◌}
use Rattle.std.proofs.lemmas.Bool.{ne_eqb}
use Rattle.std.proofs.lemmas.Bool.Decides.{nat_tests}
use Rattle.std.specs.List.{AllByRecursion}
use Rattle.world_history.specs.ClientNames.{Answer, Call, Client, First, Get, Held, Phase, Request, Waits}
use Rattle.world_history.specs.Handed.{data_in, pending_op}
use Rattle.world_history.specs.Moves.{Action, acts}
use Rattle.world_history.specs.Sending.{Move}
use Rattle.world_history.specs.ServerNames.{File, Grant}
use Rattle.world_history.specs.State.{ClientAt, World, at_number}
use Rattle.world_history.specs.declared.messages.Message.{Message}
use Rattle.osd_lists.specs.declared.node.Node.TheVariants as node

-- heard as far as notes and the log go.

-- what is delivered brings little, and may be heard
pub record IsSmall (s : ReadyCall) (w : World) (m : Move) (x : Message) : Type 0 where
  pub little : SendsLittle w m
  pub hears : MayHear s w m.chosen x

-- What is known of the call: nothing is lost, few grants conflict, its file has five components, the clocks show 0, and its range
-- is short and low.
pub record IsOfScenario (s : ReadyCall) : Type 0 where
  pub whole : lost_at s ≡ []
  pub three : length (opposed_at s) ≤ 3
  pub five : length (kept_at s).components ≤ 5
  pub comps : (kept_at s).map.comps ≡ 5
  pub clock : s.world.clock ≡ 0
  pub short : (span_of (op_at s)).length ≤ 1000
  pub inside : (span_of (op_at s)).offset + (span_of (op_at s)).length ≤ 262144

-- ---- who hears

pub server_hears : (s : ReadyCall) (w : World) (chosen : List ℕ) (x : Message) → x.to ≡ node.Server → ServerIsQuiet w chosen x
    → MayHear s w chosen x
server_hears s w chosen x to quiet_of = record {
  client = λ k a other there. absurd (cc (sym to ∙ other));
  server = λ e. quiet_of;
}

pub caller_hears : (s : ReadyCall) (w : World) (chosen : List ℕ) (x : Message) (p : Phase) (out : Option Request)
    → x.to ≡ node.Client s.client → Caller s w p out → MayHear s w chosen x
caller_hears s w chosen x p out to c = record {
  client = λ k a other there.
      let same : s.client ≡ k = cc (sym to ∙ other) in
      let it : a ≡ c.at = same_some a c.at (at_number w.clients k) there (ap (at_number w.clients) (sym same) ∙ c.there) in
      let n : data_in (pending_op a.state) ≡ length (bytes_of (op_at s)) =
      ap (λ (b : ClientAt). data_in (pending_op b.state)) it
      ∙ ap (λ (o : Option Call). data_in (option_map (λ (y : Call). y.op) o)) c.call in
      inl (sym same, omega (arith, n));
  server = λ e. absurd (cc (sym to ∙ e));
}

pub other_hears : (s : ReadyCall) (w : World) (chosen : List ℕ) (x : Message) (c : ℕ) (b : ClientAt) → x.to ≡ node.Client c
    → c ≢ s.client → at_number w.clients c ≡ Some b → b.state.call ≡ None → MayHear s w chosen x
other_hears s w chosen x c b to differs found free = record {
  client = λ k a other there.
      let same : c ≡ k = cc (sym to ∙ other) in
      let it : a ≡ b = same_some a b (at_number w.clients k) there (ap (at_number w.clients) (sym same) ∙ found) in
      inr (
        λ e. differs (same ∙ e),
        ap (λ (y : ClientAt). pending_op y.state) it
            ∙ ap (λ (o : Option Call). option_map (λ (y : Call). y.op) o) free,
      );
  server = λ e. absurd (cc (sym to ∙ e));
}

pub drive_hears : (s : ReadyCall) (w : World) (chosen : List ℕ) (x : Message) (d : ℕ) → x.to ≡ node.Drive d → MayHear s w chosen x
drive_hears s w chosen x d to = record {
  client = λ k a other there. absurd (cc (sym to ∙ other));
  server = λ e. absurd (cc (sym to ∙ e));
}

recalls_short : (n : ℕ) (gs : List Grant) (x : Message) → IsShort x
    → AllByRecursion IsShort (recall_messages n gs ++ x ∷ []) × (length (recall_messages n gs ++ x ∷ []) ≡ length gs + 1)
recalls_short n [] x short = ((short, tt), refl)
recalls_short n (g ∷ gs) x short =
    let rest = recalls_short (n + 1) gs x short in ((omega (arith, recall_size g n), rest.0), omega (arith, rest.1))

module _ (all : ReadyLaws) (s : ReadyCall) (known : IsOfScenario s) (w : World) (h : List Line) (k : IsIn s w h) (m : Move) where
  abbrev laws : AskingLaws
  laws = all.asking

  -- ---- a return comes to the server

  module _ (q : Request) (rest : List Message) (d : DeliversHead s w m (request_message q) rest) (grants : List Grant)
      (server : Serves s w grants (kept_at s).size) where
    abbrev arrival : Arrives s w m (request_message q) rest grants
    arrival = record { history = h; within = k; head = d; server = server }

    return_small : IsSent laws arrival q → (n : ℕ) → q.args ≡ return_args n [] → (g : Grant)
        → grant_of grants q.client ≡ Some g → IsSmall s w m (request_message q)
    return_small sent n args g has =
        let done : IsDone laws arrival q (given_back q.client q (file_now laws arrival)) =
        return_done laws arrival q sent n args g has in
        let size_is = returned_answer (given_back q.client q (file_now laws arrival)).answer refl in
        record {
          little = little_of w m _ done.posts (omega arith) (omega (arith, size_is), tt);
          hears = server_hears s w m.chosen (request_message q) refl (returns_quietly w h k.fair m.chosen q sent.outstanding n args);
        }

    -- ---- a LAYOUTGET comes

    module _ (tries : ℕ) (caller : Caller s w (Waits (Get tries)) (Some q)) (is : IsAsked s w q)
        (args : q.args ≡ get_args (op_at s)) (uncovered : (g : Held) → own_at s ≡ Some g → covers g (op_at s) ≡ false)
        (own : grant_of grants s.client ≡ None) (named : s.client < CLIENTS) where
      sent : IsSent laws arrival q
      sent = own_sent laws arrival _ q caller is refl

      met : IsMet w.server s.client caller.at.state
      met =
          subst (IsMet w.server s.client) (ap (state_of s.client) caller.there)
          (laws.agree w h k.fair.moment k.fair.readable s.client)

      is_call : IsCall (op_at s)
      is_call =
          (subst (CallFine (KeptGood w.server s.client) caller.at.state.held caller.at.state.outstanding) caller.call met.call).0

      unspent : s.ready.file.spent ≡ false
      unspent = elim s.ready.unspent [
        | inl covered ↦ absurd (true≢false (sym covered ∙ not_covered s uncovered))
        | inr u ↦ u
      ]

      its_get : IsGet laws arrival q
      its_get = record {
        sent = sent;
        client_is = is.client_is;
        args_are = args;
        named = named;
        own = own;
        unspent = unspent;
        some = is_call.some;
      }

      hears : MayHear s w m.chosen (request_message q)
      hears =
          server_hears s w m.chosen (request_message q) refl
          (gets_quietly w h k.fair m.chosen q sent.outstanding (op_at s) args (server.clock ∙ known.clock)
          (λ f found.
          let it : f ≡ file_now laws arrival =
          same_some f (file_now laws arrival) (file_at w.server.files q.file) found
          (ap (file_at w.server.files) is.file_is ∙ server.found) in
          ap (λ (y : File). grant_of y.kept.grants q.client) it ∙ ap (grant_of grants) is.client_is ∙ own))

      given_small : against grants (wanted_at s) ≡ [] → IsSmall s w m (request_message q)
      given_small none =
          let done = get_given laws arrival q its_get none in
          let f : File = file_now laws arrival in
          let g : Grant = wanted_now laws arrival q its_get in
          let size_is =
          layout_answer (given w q.client q f g).answer w.server.drives (with_grant f.kept g) g refl known.five in
          record { little = little_of w m _ done.posts (omega arith) (omega (arith, size_is), tt); hears = hears }

      refused_small : (first : Grant) (others : List Grant) → against grants (wanted_at s) ≡ first ∷ others
          → length (first ∷ others) ≤ 3 → IsSmall s w m (request_message q)
      refused_small first others are few =
          let f : File = file_now laws arrival in
          let done =
          get_refused laws arrival q its_get first others are (λ g i. ap (nat_lt g.expiry) (server.clock ∙ known.clock) ∙ never g.expiry) in
          let answer : Answer = (held_off q.client q f first.client (first ∷ others)).answer in
          let short = recalls_short w.server.next_recall (first ∷ others) (pending_answer q.client answer)
          (let size_is = later_answer answer refl in omega (arith, size_is)) in
          record {
            little = little_of w m _ done.posts (omega (arith, short.1, few)) short.0;
            hears = hears;
          }
        where
          never : (n : ℕ) → nat_lt n 0 ≡ false
          never n = grind (arith, nat_tests)

  -- ---- the first stages

  pub returning_small : (a : Returning s w) (x : Message) (rest : List Message) → queue_at s w ≡ x ∷ rest
      → DeliversHead s w m x rest → IsSmall s w m x
  returning_small a x rest queue d =
      let is : x ∷ rest ≡ request_message a.request ∷ [] = sym queue ∙ a.queue in
      let head : x ≡ request_message a.request = cc is in
      let e : DeliversHead s w m (request_message a.request) rest = subst (λ (y : Message). DeliversHead s w m y rest) head d in
      let has = has_grant s a.own a.owned in
      subst (IsSmall s w m) (sym head)
      (return_small a.request rest e (kept_at s).grants a.server
      (own_sent laws (arrival a.request rest e (kept_at s).grants a.server) _ a.request a.caller a.asked refl) a.number a.args_are
      has.0 (ap (grant_of (kept_at s).grants) a.asked.client_is ∙ has.1))

  pub returned_small : (a : Returned s w) (x : Message) (rest : List Message) → queue_at s w ≡ x ∷ rest
      → DeliversHead s w m x rest → IsSmall s w m x
  returned_small a x rest queue d =
      let is : x ∷ rest ≡ answer_message a.answer ∷ [] = sym queue ∙ a.queue in
      let head : x ≡ answer_message a.answer = cc is in
      let e : DeliversHead s w m (answer_message a.answer) rest = subst (λ (y : Message). DeliversHead s w m y rest) head d in
      let c : Client = a.caller.at.state in
      let at : IsAnsweredAt c (op_at s) First a.answer = record {
        pending = a.caller.call;
        none_due = a.caller.due;
        request = a.request;
        asked = a.caller.outstanding;
        its = its_answer laws s w h k a.request a.answer First a.caller a.answered (inl a.status);
      } in
      let st = answer_steps laws s w h k a.request a.answer First a.caller a.answered m rest e in
      subst (IsSmall s w m) (sym head) (record {
        little =
            asks_little w m s.client a.caller.at _ _ st (unasked c) (op_at s) (Get 0) (get_args (op_at s))
            (answers_step.returned c (op_at s) a.answer at a.released) (GetsPlain (op_at s) refl);
        hears =
            caller_hears s w m.chosen (answer_message a.answer) _ _
            (ap (λ (n : ℕ). node.Client n) a.answered.client_is) a.caller;
      })

  pub asking_small : (a : Asking s w) (x : Message) (rest : List Message) → queue_at s w ≡ x ∷ rest
      → DeliversHead s w m x rest → IsSmall s w m x
  asking_small a x rest queue d =
      let is : x ∷ rest ≡ request_message a.request ∷ [] = sym queue ∙ a.queue in
      let head : x ≡ request_message a.request = cc is in
      let e : DeliversHead s w m (request_message a.request) rest = subst (λ (y : Message). DeliversHead s w m y rest) head d in
      subst (IsSmall s w m) (sym head) (by e (opposed_at s) refl)
    where
      gs : List Grant
      gs = without (kept_at s).grants s.client

      by : DeliversHead s w m (request_message a.request) rest → (os : List Grant) → opposed_at s ≡ os
          → IsSmall s w m (request_message a.request)
      by e [] none =
          given_small a.request rest e gs a.asks.server 0 a.asks.caller a.asked a.asks.args_are a.asks.uncovered
          (no_grant (kept_at s).grants s.client) (caller_named s w h k x rest queue)
          (against_others s a.asks.uncovered ∙ none)
      by e (first ∷ others) some =
          refused_small a.request rest e gs a.asks.server 0 a.asks.caller a.asked a.asks.args_are a.asks.uncovered
          (no_grant (kept_at s).grants s.client) (caller_named s w h k x rest queue) first others
          (against_others s a.asks.uncovered ∙ some)
          (omega (arith, known.three, ap (λ (ys : List Grant). length ys) some))

  -- ---- recalls

  module _ (a : Recalling s w) where
    recall_small : (g : Grant) (gs : List Grant) → a.left ≡ g ∷ gs → (count : ℕ) (rest : List Message)
        → DeliversHead s w m (recall_message (recall_of g count)) rest → IsSmall s w m (recall_message (recall_of g count))
    recall_small g gs left count rest d =
        let there : In g (opposed_at s) =
        subst (In g) (sym (a.all ∙ ap (λ (xs : List Grant). a.done ++ xs) left)) (in_behind g a.done (g ∷ gs) (inl refl)) in
        let other : g.client ≢ s.client = (opposed_in s g there).1 in
        let live : In g (without (kept_at s).grants s.client) =
        in_filter (λ (x : Grant). not (x.client == s.client)) g (kept_at s).grants (opposed_in s g there).0
        (ap not (ne_eqb g.client s.client other)) in
        let gives : GivesBack s w m g =
        gives_back laws s w h k m g there (without (kept_at s).grants s.client) a.asks.server live
        (a.untouched g (subst (In g) (sym left) (inl refl))) count rest d in
        let y : Yields _ _ g = opposed_yields s g there in
        record {
          little =
              little_of w m (gives.answer ∷ request_message gives.request ∷ []) gives.posts (omega arith) (
                subst IsShort (sym gives.answers.message_is) (omega (arith, recall_answer_size gives.answers.answer)),
                (
                  let size_is = plain_request gives.request (ReturnsPlain g.number gives.returning.args_are) in
                      omega (arith, size_is),
                  tt,
                ),
              );
          hears =
              other_hears s w m.chosen (recall_message (recall_of g count)) g.client y.client refl other
              (a.untouched g (subst (In g) (sym left) (inl refl)) ∙ y.there) y.idle.free;
        }

    later_small : a.left ≡ [] → (rest : List Message) → DeliversHead s w m (answer_message a.answer) rest
        → IsSmall s w m (answer_message a.answer)
    later_small left rest d =
        let c : Client = a.asks.caller.at.state in
        let at : IsAnsweredAt c (op_at s) (Get 0) a.answer = record {
          pending = a.asks.caller.call;
          none_due = a.asks.caller.due;
          request = a.request;
          asked = a.asks.caller.outstanding;
          its = its_answer laws s w h k a.request a.answer (Get 0) a.asks.caller a.answered (inr a.status);
        } in
        let st = answer_steps laws s w h k a.request a.answer (Get 0) a.asks.caller a.answered m rest d in
        record {
          little =
              asks_little w m s.client a.asks.caller.at _ _ st (unasked c) (op_at s) (Get 1) (get_args (op_at s))
              (answers_step.later c (op_at s) 0 a.answer at a.status refl) (GetsPlain (op_at s) refl);
          hears =
              caller_hears s w m.chosen (answer_message a.answer) _ _
              (ap (λ (n : ℕ). node.Client n) a.answered.client_is) a.asks.caller;
        }

    by_recalls : (left : List Grant) (recalls : List Message) → a.left ≡ left → AreRecalls left recalls → (x : Message)
        (rest : List Message) → DeliversHead s w m x rest → x ∷ rest ≡ recalls ++ answer_message a.answer ∷ a.returns
        → IsSmall s w m x
    by_recalls [] [] left are x rest d is =
        let head : x ≡ answer_message a.answer = cc is in
        subst (IsSmall s w m) (sym head) (later_small left rest (subst (λ (y : Message). DeliversHead s w m y rest) head d))
    by_recalls [] (r ∷ rs) left are x rest d is = absurd are
    by_recalls (g ∷ gs) [] left are x rest d is = absurd are
    by_recalls (g ∷ gs) (r ∷ rs) left are x rest d is =
        let head : x ≡ recall_message (recall_of g are.0.0) = (let first : x ≡ r = cc is in first ∙ are.0.1) in
        subst (IsSmall s w m) (sym head)
        (recall_small g gs left are.0.0 rest (subst (λ (y : Message). DeliversHead s w m y rest) head d))

  pub recalling_small : (a : Recalling s w) (x : Message) (rest : List Message) → queue_at s w ≡ x ∷ rest
      → DeliversHead s w m x rest → IsSmall s w m x
  recalling_small a x rest queue d = by_recalls a a.left a.recalls refl a.are_recalls x rest d (sym queue ∙ a.queue)

  -- ---- returns, and the second LAYOUTGET

  module _ (a : AskingAgain s w) where
    abbrev file_then : File
    file_then = record s.ready.file { kept = record (kept_at s) { grants = a.grants; high = a.asks.server.high } }

    apart_now : Apart a.grants
    apart_now =
        (safe_at w.server.files _ file_then (laws.safe w (reached w h k.fair.moment)) a.asks.server.found).apart

    half_small : (g : Grant) → a.half ≡ g ∷ [] → (q : Request) → IsReturning s w g q → (rest : List Message)
        → DeliversHead s w m (request_message q) rest → IsSmall s w m (request_message q)
    half_small g half q it rest d =
        let against_are : against a.grants (wanted_at s) ≡ g ∷ a.left =
        a.against_are ∙ ap (λ (gs : List Grant). gs ++ a.left) half in
        let live : In g a.grants =
        (in_filtered (conflicts (wanted_at s)) g a.grants (subst (In g) (sym against_are) (inl refl))).0 in
        return_small q rest d a.grants a.asks.server (record {
          message = refl;
          file_is = it.file_is;
          outstanding =
              ap (λ (c : ℕ). outstanding_of w c) it.client_is
              ∙ ap (λ (o : Option ClientAt). (state_of g.client o).outstanding) it.there ∙ it.outstanding;
          new = ap (λ (c : ℕ). admit (slot_of w.server.slots c) q.sequence) it.client_is ∙ it.new;
        }) g.number it.args_are g (ap (grant_of a.grants) it.client_is ∙ found_own a.grants g apart_now live)

    told_small : (g : Grant) (x : Message) → IsRecallAnswer g.client x → (rest : List Message) → DeliversHead s w m x rest
        → IsSmall s w m x
    told_small g x answers rest d =
        let nothing : IsNothing w d.number (acts w m.chosen m.action) =
        subst (λ (b : Action). IsNothing w d.number (acts w m.chosen b)) (sym d.action_is)
        (recall_answer_is_nothing w m.chosen d.number d.posted_as d.found g.client answers.answer
        (d.message_is ∙ answers.message_is)) in
        record {
          little = little_of w m [] nothing.posts (omega arith) tt;
          hears =
              server_hears s w m.chosen x (ap (λ (y : Message). y.to) answers.message_is)
              (recall_answer_quiet w m.chosen g.client x answers);
        }

    by_left : (named : s.client < CLIENTS) (x : Message) (rest : List Message) → DeliversHead s w m x rest → a.half ≡ []
        → (left : List Grant) (returns : List Message) → a.left ≡ left → AreReturns s w left returns
        → x ∷ rest ≡ returns ++ request_message a.request ∷ a.taken_by → IsSmall s w m x
    by_left named x rest d half [] [] left are is =
        let head : x ≡ request_message a.request = cc is in
        subst (IsSmall s w m) (sym head)
        (given_small a.request rest (subst (λ (y : Message). DeliversHead s w m y rest) head d) a.grants a.asks.server 1
        a.asks.caller a.asked a.asks.args_are a.asks.uncovered a.own named
        (a.against_are ∙ ap (λ (gs : List Grant). gs ++ a.left) half ∙ left))
    by_left named x rest d half [] (r ∷ rs) left are is = absurd are
    by_left named x rest d half (g ∷ gs) [] left are is = absurd are
    by_left named x rest d half (g ∷ gs) (y ∷ []) left are is = absurd are
    by_left named x rest d half (g ∷ gs) (y ∷ z ∷ ms) left are is =
        let head : x ≡ y = cc is in
        subst (IsSmall s w m) (sym head)
        (told_small g y are.0 rest (subst (λ (u : Message). DeliversHead s w m u rest) head d))

    by_half : (named : s.client < CLIENTS) (x : Message) (rest : List Message) → DeliversHead s w m x rest → (half : List Grant)
        (halves : List Message) → a.half ≡ half → AreHalves s w half halves
        → x ∷ rest ≡ halves ++ (a.returns ++ request_message a.request ∷ a.taken_by) → IsSmall s w m x
    by_half named x rest d [] [] half are is = by_left named x rest d half a.left a.returns refl a.are_returns is
    by_half named x rest d [] (r ∷ rs) half are is = absurd are
    by_half named x rest d (g ∷ []) [] half are is = absurd are
    by_half named x rest d (g ∷ []) (r ∷ []) half are is =
        let head : x ≡ request_message are.0 = (let first : x ≡ r = cc is in first ∙ are.2) in
        subst (IsSmall s w m) (sym head)
        (half_small g half are.0 are.1 rest (subst (λ (u : Message). DeliversHead s w m u rest) head d))
    by_half named x rest d (g ∷ []) (r ∷ r' ∷ rs) half are is = absurd are
    by_half named x rest d (g ∷ g' ∷ gs) halves half are is = absurd are

  pub asking_again_small : (a : AskingAgain s w) (x : Message) (rest : List Message) → queue_at s w ≡ x ∷ rest
      → DeliversHead s w m x rest → IsSmall s w m x
  asking_again_small a x rest queue d =
      by_half a (caller_named s w h k x rest queue) x rest d a.half a.halves refl a.are_halves
      (sym queue ∙ a.queue ∙ append_assoc a.halves a.returns (request_message a.request ∷ a.taken_by))
