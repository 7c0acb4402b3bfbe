-- The layout comes, behind the answers to those that gave grants back, and the call begins to work.
use Rattle.std.proofs.Common.{◌≡◌, ◌≢◌, ◌⊎◌, ◌≤◌, ℕ, Bool, true, false, not, List, [], ◌∷◌, ◌++◌, filter, slice_get, Option, Some, None, is_some, option_map, Ok, inl, inr, refl, sym, ap, subst, ◌∙◌, arith, eq-eqb}
use Rattle.std.specs.List.{list_any}
use Rattle.std.proofs.lemmas.Bool.{cases_eq}
use Rattle.std.proofs.lemmas.List.{append-nil}
use Rattle.osd_lists.specs.declared.node.Node.TheVariants as node
use Rattle.osd_lists.proofs.Options.{same_some}
use Rattle.scenario_text.specs.declared.line.Line.{Line}
use Rattle.server_rules.specs.Grants.{asked}
use Rattle.server_rules.specs.Laws.{In}
use Rattle.server_rules.specs.Slots.{admit, slot_of}
use Rattle.server_rules.proofs.Members.{in_either}
use Rattle.client_rules.specs.Commands.{credential_in}
use Rattle.client_rules.specs.Grants.{covers, held_of}
use Rattle.client_rules.specs.History.{Hears, step}
use Rattle.client_rules.specs.Layouts.{taken}
use Rattle.client_rules.specs.Messages.{Answers, Step as ClientStep, names_nobody, is_awaited}
use Rattle.client_rules.proofs.HeldGrants.{put_at}
use Rattle.world_history.specs.ClientNames.{Client, Call, CallOp, Held, Request, Answer, Get}
use Rattle.world_history.specs.ServerNames.{Server, File, Grant, Component}
use Rattle.world_history.specs.declared.messages.Message.{Message}
use Rattle.world_history.specs.State.{World, DriveAt, ClientAt, at_number}
use Rattle.world_history.specs.Handed.{is_addressed, client_posts, pending_op}
use Rattle.world_history.specs.Moves.{acts}
use Rattle.world_history.specs.Sending.{Move, move}
use Rattle.history_law.specs.BookMoments.{lines_in}
use Rattle.exchange_law.specs.Calls.{CallFine, GoodAnswer}
use Rattle.exchange_law.specs.Doing.{posted}
use Rattle.exchange_law.specs.InStep.{state_of}
use Rattle.exchange_law.specs.Meeting.{IsFitting, IsMet, AgreesAt, KeptGood}
use Rattle.exchange_law.proofs.HeldWorlds.{reached, readable_there}
use Rattle.cause_law.proofs.Given.{taken_covers}
use Rattle.ready_law.specs.Answered.{ends_call}
use Rattle.ready_law.specs.Ready.{stands, is_listed, is_lost, IsIdle, held_by}
use Rattle.ready_law.specs.Stepping.{holding, unasked, IsAnsweredAt}
use Rattle.ready_law.proofs.Calls.{ReadyCall, op_at, file_at_call, kept_at, own_at, lost_at, scene_at, IsIn, DeliversHead, answer_message}
use Rattle.ready_law.proofs.Going.{GoesOnBy}
use Rattle.ready_law.proofs.Stages.{AreTaken, Getting, Gets, GoesOn, Further, IsTaking, GaveBack, HasOneOf, HaveOwnClients, OthersRest}
use Rattle.ready_law.proofs.Stepping.{answers_step}
use Rattle.ready_law.proofs.AskingAsks.{in_step_there, step_silent, its_answer, answer_steps, asks_new}
use Rattle.ready_law.proofs.AskingClients.{answered_step, answer_read}
use Rattle.ready_law.proofs.AskingForms.{AskingLaws, Steps, BeginsToWork}
use Rattle.ready_law.proofs.AskingFrames.{serves_stays, caller_stays, IsKept, answered_stays, taken_stay, sent_more, aside_still}
use Rattle.ready_law.proofs.AskingGives.{last_grant}
use Rattle.ready_law.proofs.AskingGood.{ListsCall, is_good}
use Rattle.ready_law.proofs.AskingMoves.{delivered_steps}
use Rattle.layout_ops.specs.declared.envelope.Envelope.TheVariants as envelope
use Rattle.layout_ops.specs.Spelling.{EnvelopeFits}

-- ---- an answer to a client that gave its grant back

-- the client is idle and has no grant on the file, and no other party changes
record TakesBack (s : ReadyCall) (w : World) (m : Move) (c : ℕ) : Type 0 where
  at : ClientAt
  there : at_number (move w m).world.clients c ≡ Some at
  idle : IsIdle at
  released : held_by at (file_at_call s) ≡ None
  others : (d : ℕ) → d ≢ c → at_number (move w m).world.clients d ≡ at_number w.clients d
  server : (move w m).world.server ≡ w.server
  clock : (move w m).world.clock ≡ w.clock
  down : (move w m).world.down ≡ w.down
  drives : (move w m).world.drives ≡ w.drives
  posts : posted (acts w m.chosen m.action).posts ≡ []
  silent : (d : ℕ) → list_any (ends_call d) (lines_in w m) ≡ false

module _ (laws : AskingLaws) (s : ReadyCall) (w : World) (h : List Line) (k : IsIn s w h) (m : Move) (g : Grant) (a : Answer)
    (it : IsTaking s w g a) (rest : List Message) (d : DeliversHead s w m (answer_message a) rest) where
  fits : EnvelopeFits (envelope.Answer a)
  fits =
      subst (λ (z : Answer). EnvelopeFits (envelope.Answer z)) it.kept
      ((readable_there w h k.fair.moment k.fair.readable).answers g.client it.slot it.slot_is)

  number : it.at.state.number ≡ g.client
  number = (in_step_there laws w h k.fair g.client it.at it.there).number

  names : names_nobody a ≡ false
  names = rw it.status refl

  its : is_awaited it.at.state a it.request ≡ true
  its =
      rw (
        eq-eqb a.client it.at.state.number (it.client_is ∙ sym number),
        eq-eqb a.sequence it.request.sequence it.sequence,
        names,
      ) refl

  takes_back : TakesBack s w m g.client
  takes_back =
      let st =
      delivered_steps w m d.number g.client d.posted_as (answer_message a) it.at (Answers a) d.action_is d.found d.message_is
      (ap (λ (n : ℕ). node.Client n) it.client_is) it.there it.alive (answer_read a fits) in
      let t = answered_step it.at.state a it.request it.free it.due it.outstanding its in
      record {
        at = st.after;
        there = st.there;
        idle = record {
          alive = st.stopped ∙ it.alive;
          free = ap (λ (y : Client). y.call) st.state ∙ t.call;
          answered = ap (λ (y : Client). y.outstanding) st.state ∙ t.outstanding;
        };
        released =
            ap (λ (y : Client). held_of y.held (file_at_call s)) st.state
            ∙ ap (λ (hs : List Held). held_of hs (file_at_call s)) t.held ∙ it.released;
        others = st.others;
        server = st.server;
        clock = st.clock;
        down = st.down;
        drives = st.drives;
        posts =
            ap posted st.posts
            ∙ ap (λ (os : _). posted (filter is_addressed (client_posts g.client st.wrote st.logged os))) t.sends;
        silent = step_silent w m g.client it.at (pending_op it.at.state) _ st t.outcome;
      }

module _ (laws : AskingLaws) (begins_work : BeginsToWork) (s : ReadyCall) (w : World) (h : List Line) (k : IsIn s w h)
    (m : Move) (next : IsIn s (move w m).world (h ++ lines_in w m)) (a : Getting s w) where
  abbrev v : World
  v = (move w m).world

  -- ---- such an answer comes

  module _ (g : Grant) (gs : List Grant) (left_is : a.left ≡ g ∷ gs) (ts : List Message) (b : Answer)
      (it : IsTaking s w g b) (are : AreTaken s w gs ts) (rest : List Message)
      (d : DeliversHead s w m (answer_message b) rest) (is : rest ≡ ts ++ answer_message a.answer ∷ []) where
    stays : TakesBack s w m g.client
    stays = takes_back laws s w h k m g b it rest d

    other : s.client ≢ g.client
    other same =
        let at : it.at ≡ a.asks.caller.at =
        same_some it.at a.asks.caller.at (at_number w.clients g.client) it.there
        (ap (at_number w.clients) (sym same) ∙ a.asks.caller.there) in
        absurd (cc (sym it.free ∙ ap (λ (x : ClientAt). x.state.call) at ∙ a.asks.caller.call))

    own_left : HaveOwnClients (g ∷ gs)
    own_left = subst HaveOwnClients left_is a.own_left

    its_own : IsKept w v s.client
    its_own = record {
      client = stays.others s.client other;
      slot = ap (λ (z : Server). slot_of z.slots s.client) stays.server;
    }

    kept_beside : (x : ℕ) → x ≢ g.client → IsKept w v x
    kept_beside x differs = record {
      client = stays.others x differs;
      slot = ap (λ (z : Server). slot_of z.slots x) stays.server;
    }

    -- it gave its grant back
    gave_back : (e : ℕ) → e ≡ g.client → GaveBack s v (a.before ++ a.grant ∷ []) e
    gave_back e same =
        subst (GaveBack s v (a.before ++ a.grant ∷ [])) (sym same) (record {
          at = stays.at;
          there = stays.there;
          idle = stays.idle;
          released = stays.released;
          none = a.gone g (subst (In g) (sym left_is) (inl refl));
        })

    -- the client of another grant isn't done
    not_done : (e : ℕ) → e ≢ g.client → HasOneOf a.left e → HasOneOf gs e
    not_done e differs (x, i, is) = elim (subst (In x) left_is i) [
      | inl same ↦ absurd (differs (sym is ∙ ap (λ (y : Grant). y.client) same))
      | inr j ↦ (x, j, is)
    ]

    aside : OthersRest s v (a.before ++ a.grant ∷ []) gs
    aside e apart = elim (cases_eq e g.client) [
      | inl same ↦ inr (inr (gave_back e same))
      | inr differs ↦ elim (a.aside e apart) [
        | inl one ↦ inl (not_done e differs one)
        | inr (inl x) ↦ inr (inl (record { client = stays.others e differs ∙ x.client; grant = x.grant }))
        | inr (inr x) ↦
            inr (inr (record {
              at = x.at;
              there = stays.others e differs ∙ x.there;
              idle = x.idle;
              released = x.released;
              none = x.none;
            }))
      ]
    ]

    pub taken_goes_on : GoesOn s v (lines_in w m)
    taken_goes_on = Further (Gets (record {
      tries = a.tries;
      request = a.request;
      answer = a.answer;
      before = a.before;
      grant = a.grant;
      asks = record {
        args_are = a.asks.args_are;
        caller = caller_stays s w v _ _ its_own.client a.asks.caller;
        released = a.asks.released;
        uncovered = a.asks.uncovered;
        server = serves_stays s w v _ _ stays.server stays.clock stays.down a.asks.server;
        drives = stays.drives ∙ a.asks.drives;
      };
      own = a.own;
      client_is = a.client_is;
      others = a.others;
      left = gs;
      answered = answered_stays s w v a.request a.answer its_own a.answered;
      status = a.status;
      taken_by = ts;
      own_left = own_left.1;
      are_taken = taken_stay s w v gs ts (λ x i. kept_beside x.client (own_left.0 x i)) are;
      gone = λ x i. a.gone x (subst (In x) (sym left_is) (inr i));
      aside = aside;
      queue = d.queue_is ∙ ap (λ (ms : List Message). rest ++ ms) stays.posts ∙ append-nil rest ∙ is;
      sent = sent_more s w m _ _ [] a.sent d.count_is stays.posts (omega arith);
      expiry = a.expiry;
      layout = a.layout;
    })) (stays.silent s.client)

  -- ---- the layout comes

  module _ (none_left : a.left ≡ []) (rest : List Message) (d : DeliversHead s w m (answer_message a.answer) rest)
      (none_else : rest ≡ []) where
    abbrev c : Client
    c = a.asks.caller.at.state

    -- the client takes it
    record Takes : Type 0 where
      held : Held
      takes : taken a.answer (op_at s) ≡ Ok held

    by_good : GoodAnswer (AgreesAt w.server s.client) (op_at s) (Get a.tries) a.answer → Takes
    by_good (inl it) = record { held = it.1; takes = it.2 }
    by_good (inr it) = absurd (it.0 a.status)

    met : IsMet w.server s.client c
    met =
        subst (IsMet w.server s.client) (ap (state_of s.client) a.asks.caller.there)
        (laws.agree w h k.fair.moment k.fair.readable s.client)

    takes_it : Takes
    takes_it =
        let fine = subst (CallFine (KeptGood w.server s.client) c.held c.outstanding) a.asks.caller.call met.call in
        let asking = fine.1.1 in
        let same : asking.request ≡ a.request =
        same_some asking.request a.request c.outstanding asking.outstanding a.asks.caller.outstanding in
        by_good (subst (GoodAnswer (AgreesAt w.server s.client) (op_at s) (Get a.tries)) a.answered.kept
        (asking.known a.answered.slot a.answered.slot_is
        (a.answered.last ∙ ap (λ (r : Request). r.sequence) (sym same))))

    abbrev held : Held
    held = takes_it.held

    abbrev file_now : File
    file_now =
        record s.ready.file { kept = record (kept_at s) { grants = a.before ++ a.grant ∷ []; high = a.asks.server.high } }

    fitting : IsFitting w.server file_now
    fitting = (readable_there w h k.fair.moment k.fair.readable).files (file_at_call s) file_now a.asks.server.found

    uncovered_listed : (j : ℕ) → stands (slice_get (kept_at s).components j) ≡ is_listed (kept_at s) (own_at s) (op_at s) j
    uncovered_listed j = by (own_at s) a.asks.uncovered
      where
        by : (o : Option Held) → ((x : Held) → o ≡ Some x → covers x (op_at s) ≡ false)
            → stands (slice_get (kept_at s).components j) ≡ is_listed (kept_at s) o (op_at s) j
        by None none = refl
        by (Some x) none = rw (none x refl) refl

    lists : ListsCall s held
    lists =
        let layout = a.layout held takes_it.takes in
        record {
          map = layout.map;
          size = layout.size;
          checked = fitting.map;
          shape = (laws.shapes w (reached w h k.fair.moment) (file_at_call s) file_now a.asks.server.found).components;
          count = layout.count;
          unlisted = λ j at found none. missing_so j at found none (layout.listed j);
          listed = λ j. layout.listed j ∙ uncovered_listed j;
        }
      where
        missing_so : (j : ℕ) (at : Component) → slice_get (kept_at s).components j ≡ Some at
            → is_some (credential_in (slice_get takes_it.held.components j)) ≡ false
            → is_some (credential_in (slice_get takes_it.held.components j))
            ≡ stands (slice_get (kept_at s).components j) → at.missing ≡ true
        missing_so j at found none same = by at.missing (sym none ∙ same ∙ ap stands found)
          where
            by : (b : Bool) → false ≡ not b → b ≡ true
            by true e = refl
            by false e = absurd (cc e)

    answered_at : IsAnsweredAt c (op_at s) (Get a.tries) a.answer
    answered_at = record {
      pending = a.asks.caller.call;
      none_due = a.asks.caller.due;
      request = a.request;
      asked = a.asks.caller.outstanding;
      its = its_answer laws s w h k a.request a.answer (Get a.tries) a.asks.caller a.answered (inl a.status);
    }

    abbrev its_step : ClientStep
    its_step = step c (Hears node.Server (Answers a.answer))

    steps : Steps w m s.client a.asks.caller.at (Some (op_at s)) its_step
    steps =
        subst (λ (o : Option CallOp). Steps w m s.client a.asks.caller.at o its_step)
        (ap (option_map (λ (x : Call). x.op)) a.asks.caller.call)
        (answer_steps laws s w h k a.request a.answer (Get a.tries) a.asks.caller a.answered m rest d)

    within : (g : Grant) → In g (a.before ++ a.grant ∷ []) → (g.client ≡ s.client) ⊎ In g (kept_at s).grants
    within g i = elim (in_either g a.before (a.grant ∷ []) i) [
      | inl old ↦ inr (a.others g old)
      | inr (inl new) ↦ inl (ap (λ (x : Grant). x.client) new ∙ a.client_is)
      | inr (inr none) ↦ absurd none
    ]

    in_time : (j : ℕ) (at : Component) (x : DriveAt) → slice_get (kept_at s).components j ≡ Some at
        → is_lost (scene_at s) at ≡ false → at_number s.world.drives at.drive ≡ Some x → x.clock ≤ a.grant.expiry
    unfolding asked
    in_time j at x found up there =
        subst (λ (n : ℕ). x.clock ≤ n) (sym a.expiry) (s.ready.drives j at x found up there).lease

    pub layout_goes_on : GoesOn s v (lines_in w m)
    layout_goes_on = begins_work s w h m next (record {
      client = holding (unasked c) held;
      held = held;
      number = (in_step_there laws w h k.fair s.client a.asks.caller.at a.asks.caller.there).number;
      free = refl;
      none_due = a.asks.caller.due;
      holds = put_at c.held held (file_at_call s) (taken_covers a.answer (op_at s) held takes_it.takes).0;
      file = (taken_covers a.answer (op_at s) held takes_it.takes).0;
      covered = (taken_covers a.answer (op_at s) held takes_it.takes).1;
      good = is_good s held lists;
      size = lists.size;
      listed = λ j there. sym (lists.listed j) ∙ there;
      new =
          ap (λ (x : Server). admit (slot_of x.slots s.client) c.next) steps.server
          ∙ asks_new laws s w h k a.request a.answer (Get a.tries) a.asks.caller a.answered;
      before = a.asks.caller.at;
      alive = a.asks.caller.alive;
      result = its_step;
      step = steps;
      well =
          answers_step.given c (op_at s) a.tries a.answer held (lost_at s) answered_at a.status takes_it.takes
          (is_good s held lists);
      grants = a.before ++ a.grant ∷ [];
      grant = a.grant;
      granted = last_grant a.before a.grant s.client a.own a.client_is;
      others = within;
      aside =
          aside_still s w v (a.before ++ a.grant ∷ []) steps.others
          (subst (OthersRest s w (a.before ++ a.grant ∷ [])) none_left a.aside);
      server = serves_stays s w v _ _ steps.server steps.clock steps.down a.asks.server;
      in_time = in_time;
      drives = steps.drives ∙ a.asks.drives;
      queue = d.queue_is ∙ ap (λ (ms : List Message). ms ++ posted (acts w m.chosen m.action).posts) none_else;
      count = d.count_is;
      sent = a.sent;
    })

  -- ---- whichever comes

  by_left : (left : List Grant) → a.left ≡ left → (taken_by : List Message) → AreTaken s w left taken_by → (x : Message)
      (rest : List Message) → DeliversHead s w m x rest → x ∷ rest ≡ taken_by ++ answer_message a.answer ∷ []
      → GoesOn s v (lines_in w m)
  by_left [] left [] are x rest d is =
      let head : x ≡ answer_message a.answer = cc is in
      let tail : rest ≡ [] = cc is in
      layout_goes_on left rest (subst (λ (y : Message). DeliversHead s w m y rest) head d) tail
  by_left [] left (t ∷ ts) are x rest d is = absurd are
  by_left (g ∷ gs) left [] are x rest d is = absurd are
  by_left (g ∷ gs) left (t ∷ ts) are x rest d is =
      let head : x ≡ t = cc is in
      let tail : rest ≡ ts ++ answer_message a.answer ∷ [] = cc is in
      taken_goes_on g gs left ts are.0.0 are.0.1 are.1 rest
      (subst (λ (y : Message). DeliversHead s w m y rest) (head ∙ are.0.2) d) tail

pub getting_goes_on : AskingLaws → BeginsToWork → GoesOnBy Getting
getting_goes_on laws begins_work s w h k m next a x rest queue d =
    by_left laws begins_work s w h k m next a a.left refl a.taken_by a.are_taken x rest d (sym queue ∙ a.queue)
