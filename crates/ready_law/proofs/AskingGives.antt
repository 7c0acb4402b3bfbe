-- What the server answers to a LAYOUTGET of the call: the grant, or that those are recalled that conflict.
use Rattle.std.proofs.Common.{◌≡◌, ◌≤◌, ◌<◌, ◌+◌, ◌*◌, ℕ, zero, suc, min, Bool, true, false, true≢false, not, nat_lt, List, [], ◌∷◌, ◌++◌, length, slice_get, Some, None, is_some, Ok, inl, inr, refl, sym, ap, subst, ◌∙◌, eq-eqb, ne_eqb, arith, if◌then◌else◌, ◌≢◌}
use Rattle.std.proofs.lemmas.Bool.{cases_eq, le-ltb}
use Rattle.scenario_text.specs.declared.names.TheConstants.{CLIENTS}
use Rattle.scenario_text.specs.declared.event.Event.{Event}
use Rattle.scenario_text.specs.declared.event.Event.TheVariants as event
use Rattle.scenario_text.specs.declared.line.Line.{Line}
use Rattle.scenario_text.specs.Spelling.{Fits}
use Rattle.server_rules.specs.declared.limits.TheConstants.{LEASE, NO_EXPIRY, GREATEST_GRANT}
use Rattle.server_rules.specs.Get.{high_after}
use Rattle.server_rules.specs.Grants.{asked, grant_of, against}
use Rattle.server_rules.specs.Laws.{In}
use Rattle.client_rules.specs.Commands.{credential_in}
use Rattle.client_rules.specs.Layouts.{taken}
use Rattle.world_history.specs.declared.limits.TheConstants.{MAX_KEPT}
use Rattle.world_history.specs.ClientNames.{Credential, Held, Request, Answer}
use Rattle.world_history.specs.ServerNames.{File, Kept, Grant, Drive, Component}
use Rattle.world_history.specs.declared.messages.Message.{Message}
use Rattle.world_history.specs.State.{World}
use Rattle.world_history.specs.Sending.{Move, move}
use Rattle.world_history.specs.Runs.{world_after}
use Rattle.history_law.specs.BookMoments.{lines_in, lines_so_far}
use Rattle.history_law.specs.Granted.{NumbersFit}
use Rattle.exchange_law.specs.Calls.{CallFine, IsCall}
use Rattle.exchange_law.specs.Held.{credential_of, listed_from}
use Rattle.exchange_law.specs.HeldTaken.{IsShaped}
use Rattle.exchange_law.specs.InStep.{state_of}
use Rattle.exchange_law.specs.Meeting.{IsFitting, IsMet, KeptGood}
use Rattle.exchange_law.specs.Shapes.{HasShape}
use Rattle.exchange_law.specs.Text.{AreOfText}
use Rattle.exchange_law.proofs.CountGrowing.{text_behind}
use Rattle.exchange_law.proofs.HeldTaken.{gained, takes}
use Rattle.exchange_law.proofs.HeldWorlds.{reached, readable_there}
use Rattle.cause_law.proofs.Files.{few_there}
use Rattle.cause_law.proofs.Queue.{queue_is_due}
use Rattle.ready_law.specs.Ready.{stands}
use Rattle.ready_law.proofs.Calls.{ReadyCall, op_at, file_at_call, kept_at, wanted_at, opposed_at, queue_at, IsIn, DeliversHead, request_message, answer_message}
use Rattle.ready_law.proofs.Stages.{Asks, IsAsked, ListsFile, Serves, AreRecalls, AreTaken, WereLive, HasSent, Gets, GoesOn, Further, HaveOwnClients, OthersRest}
use Rattle.ready_law.proofs.ServingForms.{recall_messages}
use Rattle.ready_law.proofs.ServingGets.{with_grant, given, held_off}
use Rattle.ready_law.proofs.AskingForms.{AskingLaws}
use Rattle.ready_law.proofs.AskingFrames.{not_covered, caller_stays, taken_stay, sent_more, aside_stays, one_more}
use Rattle.ready_law.proofs.AskingServed.{Arrives, IsSent, IsDone, IsGet, own_sent, file_now, wanted_now, get_given, get_refused, lacks_now, served_silent, served_queue, served_client, served_answer, served_file, served_others}

-- ---- the call's client has a number that lines can name

named_in : (e : Event) (c : ℕ) (its : _) → e ≡ event.Do c its → Fits e → c < CLIENTS
named_in e c its is f = (subst Fits is f).1.0

pub caller_named : (s : ReadyCall) (w : World) (h : List Line) → IsIn s w h → (x : Message) (rest : List Message)
    → queue_at s w ≡ x ∷ rest → s.client < CLIENTS
caller_named s w h k x rest some = by k.fair.moment.moves refl
  where
    by : (ms : List Move) → k.fair.moment.moves ≡ ms → s.client < CLIENTS
    by [] none =
        let same : w ≡ s.world =
        k.fair.moment.world_is ∙ ap (world_after k.fair.moment.before) none ∙ k.begins in
        absurd (cc (sym some ∙ ap (queue_at s) same ∙ queue_is_due.first s.world))
    by (n ∷ ms) more =
        let lines = k.fair.moment.lines_are
        ∙ ap (λ (ns : List Move). k.fair.moment.history ++ lines_so_far k.fair.moment.before k.fair.moment.event ns) more in
        named_in k.fair.moment.event s.client s.its k.event_is
        (text_behind k.fair.moment.history
        (lines_so_far k.fair.moment.before k.fair.moment.event (n ∷ ms)) (subst AreOfText lines k.fair.of_text)).0

-- ---- what a layout lists

listed_stand : (ds : List Drive) (f : Kept) (g : Grant) (cs : List Component) (j k : ℕ)
    → is_some (credential_in (slice_get (listed_from ds f g cs j) k)) ≡ stands (slice_get cs k)
unfolding listed_from
listed_stand ds f g [] j k = refl
listed_stand ds f g (at ∷ cs) j zero = either at.missing (credential_of ds f g at j)
  where
    either : (b : Bool) (c : Credential) → is_some (if b then None else Some c) ≡ not b
    either true c = refl
    either false c = refl
listed_stand ds f g (at ∷ cs) j (suc k) = listed_stand ds f g cs (j + 1) k

listed_all : (ds : List Drive) (f : Kept) (g : Grant) (cs : List Component) (j : ℕ)
    → length (listed_from ds f g cs j) ≡ length cs
unfolding listed_from
listed_all ds f g [] j = refl
listed_all ds f g (at ∷ cs) j = ap (λ (n : ℕ). suc n) (listed_all ds f g cs (j + 1))

pub last_grant : (gs : List Grant) (g : Grant) (c : ℕ) → grant_of gs c ≡ None → g.client ≡ c → grant_of (gs ++ g ∷ []) c ≡ Some g
last_grant [] g c none own = rw (eq-eqb g.client c own) refl
last_grant (x ∷ gs) g c none own = elim (cases_eq x.client c) [
  | inl is ↦ absurd (cc (rw (eq-eqb x.client c is) at none))
  | inr other ↦
      rw (ne_eqb x.client c other) (last_grant gs g c (rw (ne_eqb x.client c other) at none) own)
]

pub are_recalls_of : (n : ℕ) (gs : List Grant) → AreRecalls gs (recall_messages n gs)
are_recalls_of n [] = tt
are_recalls_of n (g ∷ gs) = ((n, refl), are_recalls_of (n + 1) gs)

-- ---- the LAYOUTGET comes to the server

module _ (laws : AskingLaws) (s : ReadyCall) (w : World) (h : List Line) (k : IsIn s w h) (m : Move)
    (next : IsIn s (move w m).world (h ++ lines_in w m)) (q : Request) (grants : List Grant) (tries : ℕ)
    (asks : Asks s w tries q grants) (is : IsAsked s w q) (rest : List Message)
    (d : DeliversHead s w m (request_message q) rest) (own : grant_of grants s.client ≡ None)
    (named : s.client < CLIENTS) where
  abbrev v : World
  v = (move w m).world

  abbrev pub its_arrival : Arrives s w m (request_message q) rest grants
  its_arrival = record { history = h; within = k; head = d; server = asks.server }

  pub sent : IsSent laws its_arrival q
  sent = own_sent laws its_arrival _ q asks.caller is refl

  met : IsMet w.server s.client asks.caller.at.state
  met =
      subst (IsMet w.server s.client) (ap (state_of s.client) asks.caller.there)
      (laws.agree w h k.fair.moment k.fair.readable s.client)

  is_call : IsCall (op_at s)
  is_call =
      (subst (CallFine (KeptGood w.server s.client) asks.caller.at.state.held asks.caller.at.state.outstanding)
      asks.caller.call met.call).0

  unspent : s.ready.file.spent ≡ false
  unspent = elim s.ready.unspent [
    | inl covered ↦ absurd (true≢false (sym covered ∙ not_covered s asks.uncovered))
    | inr u ↦ u
  ]

  pub its_get : IsGet laws its_arrival q
  its_get = record {
    sent = sent;
    client_is = is.client_is;
    args_are = asks.args_are;
    named = named;
    own = own;
    unspent = unspent;
    some = is_call.some;
  }

  abbrev pub file : File
  file = file_now laws its_arrival

  abbrev wanted : Grant
  wanted = wanted_now laws its_arrival q its_get

  fitting : IsFitting w.server file
  fitting = (readable_there w h k.fair.moment k.fair.readable).files (file_at_call s) file asks.server.found

  -- ---- the grant is given

  module _ (others : WereLive s grants) (none : against grants (wanted_at s) ≡ []) (left : List Grant)
      (taken_by : List Message) (own_left : HaveOwnClients left) (are_taken : AreTaken s w left taken_by)
      (queue : rest ≡ taken_by) (n : ℕ) (few : HasSent s w n) (low : n + 1 ≤ 6 + 4 * length (opposed_at s))
      (apart : (g : Grant) → In g left → g.client ≢ s.client)
      (gone : (g : Grant) → In g left → grant_of grants g.client ≡ None) (aside : OthersRest s w grants left) where
    done : IsDone laws its_arrival q (given w q.client q file wanted)
    done = get_given laws its_arrival q its_get none

    abbrev answer : Answer
    answer = (given w q.client q file wanted).answer

    abbrev kept : Kept
    kept = with_grant file.kept wanted

    client_is : wanted.client ≡ s.client
    unfolding asked
    client_is = is.client_is

    expiry : wanted.expiry ≡ (wanted_at s).expiry
    unfolding asked
    expiry = ap (λ (n : ℕ). min (n + LEASE) NO_EXPIRY) asks.server.clock

    abbrev behind : Serves s v (grants ++ wanted ∷ []) (kept_at s).size
    behind = served_file laws its_arrival q _ sent done (grants ++ wanted ∷ []) (high_after asks.server.high wanted) refl

    numbers : NumbersFit w.server.drives kept wanted
    numbers =
        subst (λ (ds : List Drive). NumbersFit ds kept wanted) done.known
        (((readable_there v (h ++ lines_in w m) next.fair.moment next.fair.readable).files (file_at_call s) _ behind.found).fits
        s.client wanted (last_grant grants wanted s.client own client_is))

    shaped : IsShaped kept
    shaped =
        let shape : HasShape file.kept =
        laws.shapes w (reached w h k.fair.moment) (file_at_call s) file asks.server.found in
        record {
          map = fitting.map;
          few = shape.few;
          components = shape.components;
        }

    low_number : nat_lt GREATEST_GRANT w.server.next_grant ≡ false
    low_number =
        let counts = laws.counted w h k.fair.moment k.fair.of_text in
        let few : length w.network.messages ≤ MAX_KEPT = few_there w h k.fair.moment k.fair.few in
        le-ltb GREATEST_GRANT w.server.next_grant (omega (arith, counts.grants, few))

    -- what its client takes lists the file's components
    layout : (held : Held) → taken answer (op_at s) ≡ Ok held → ListsFile (kept_at s) held
    layout held is =
        let given_held : Held =
        gained w.server.drives kept w.server.next_grant q.client w.clock (op_at s) file.kept refl refl shaped s.ready.range in
        let takes_it : taken answer (op_at s) ≡ Ok given_held =
        takes w.server.drives kept w.server.next_grant q.client w.clock (op_at s) file.kept refl refl shaped s.ready.range
        (lacks_now laws its_arrival q its_get) fitting.drives numbers low_number answer refl refl in
        let same : given_held ≡ held = cc (sym takes_it ∙ is) in
        subst (ListsFile (kept_at s)) same (record {
          map = refl;
          size = refl;
          count = listed_all w.server.drives kept wanted kept.components 0;
          listed = λ j. listed_stand w.server.drives kept wanted kept.components 0 j;
        })

    pub gives_goes_on : GoesOn s v (lines_in w m)
    gives_goes_on = Further (Gets (record {
      tries = tries;
      request = q;
      answer = answer;
      before = grants;
      grant = wanted;
      asks = record {
        args_are = asks.args_are;
        caller = caller_stays s w v _ _
            (served_client laws its_arrival q _ sent done s.client) asks.caller;
        released = asks.released;
        uncovered = asks.uncovered;
        server = behind;
        drives = done.drives ∙ asks.drives;
      };
      own = own;
      client_is = client_is;
      others = others;
      left = left;
      answered =
          served_answer laws its_arrival q _ sent done is.client_is refl refl;
      status = refl;
      taken_by = taken_by;
      own_left = own_left;
      are_taken =
          taken_stay s w v left taken_by
          (λ x i. served_others laws its_arrival q _ sent done x.client (λ e. apart x i (e ∙ is.client_is))) are_taken;
      gone = λ x i. one_more grants wanted x.client (λ e. apart x i (sym e ∙ client_is)) ∙ gone x i;
      aside =
          aside_stays s w v grants (grants ++ wanted ∷ []) left
          (λ e other. inr (
            served_client laws its_arrival q _ sent done e,
            one_more grants wanted e (λ same. other (sym same ∙ client_is)),
          )) aside;
      queue =
          served_queue laws its_arrival q _ sent done
          ∙ ap (λ (ms : List Message). ms ++ answer_message answer ∷ []) queue;
      sent = sent_more s w m n _ _ few d.count_is done.posts (omega (arith, low));
      expiry = expiry;
      layout = layout;
    })) (served_silent laws its_arrival q _ sent done s.client)

  -- ---- others hold what conflicts

  module _ (first : Grant) (more : List Grant) (are : against grants (wanted_at s) ≡ first ∷ more)
      (unexpired : (g : Grant) → In g (first ∷ more) → nat_lt g.expiry w.clock ≡ false) where
    pub refused : IsDone laws its_arrival q (held_off q.client q file first.client (first ∷ more))
    refused = get_refused laws its_arrival q its_get first more are unexpired
