-- The later stages of a ready call's event, and its opening move: they bring few messages, each short.
use Rattle.cause_law.proofs.Files.{few_there}
use Rattle.cause_law.proofs.MadeCommands.{IsMade, PhaseMade, begins_made, replied_made}
use Rattle.cause_law.proofs.MadeSteps.{CallMade, ClientMade, UnderMade, all_made}
use Rattle.client_rules.specs.Calls.{span_of}
use Rattle.client_rules.specs.Commands.{credential_in}
use Rattle.client_rules.specs.Going.{begins}
use Rattle.client_rules.specs.Grants.{covers, held_of}
use Rattle.client_rules.specs.History.{Calls, Hears, step, unless_refused}
use Rattle.client_rules.specs.Io.{awaited_in}
use Rattle.client_rules.specs.Layouts.{taken}
use Rattle.client_rules.specs.Messages.{Answers, Replies, Step as ClientStep, is_awaited, names_nobody}
use Rattle.client_rules.specs.Replies.{replied}
use Rattle.client_rules.specs.Requests.{get_args, return_args}
use Rattle.client_rules.specs.Steps.{calls, is_bad_range, is_spent, starts, writes_nothing}
use Rattle.client_rules.specs.declared.limits.TheConstants.{GREATEST_SEQUENCE, SPARE_REQUESTS}
use Rattle.component_law.specs.Listed.{ListsComponents}
use Rattle.component_law.specs.Sizes.{IsCommitted}
use Rattle.data_map.specs.Check.{IsChecked}
use Rattle.data_map.specs.declared.check.RawMap.{RawMap}
use Rattle.exchange_law.proofs.HeldWorlds.{reached, readable_there}
use Rattle.exchange_law.specs.Calls.{CallFine, GoodAnswer}
use Rattle.exchange_law.specs.Counters.{ClientCounts}
use Rattle.exchange_law.specs.InStep.{state_of}
use Rattle.exchange_law.specs.Meeting.{AgreesAt, IsFitting, IsMet, KeptGood}
use Rattle.generate_law.proofs.KeptHears.{commits_quietly}
use Rattle.generate_law.proofs.KeptMoves.{MOST_AT_ONCE, SendsLittle, asks_little, client_little, command_action, command_length, drive_little, little_of, not_many, works_little}
use Rattle.generate_law.proofs.KeptSizes.{Gets as GetsPlain, Returns as ReturnsPlain, committed_answer}
use Rattle.generate_law.proofs.KeptStages.{IsOfScenario, IsSmall, caller_hears, drive_hears, other_hears, server_hears}
use Rattle.layout_ops.specs.Spelling.{EnvelopeFits}
use Rattle.load_law.proofs.Runs.{each_call_sends_few}
use Rattle.osd_commands.specs.Commands.{reading, spelling}
use Rattle.osd_lists.proofs.Options.{same_some}
use Rattle.osd_lists.specs.declared.node.Node.{Node}
use Rattle.ready_law.proofs.AskingAsks.{answer_steps, has_number, in_step_there, its_answer}
use Rattle.ready_law.proofs.AskingClients.{answer_read, answered_step}
use Rattle.ready_law.proofs.AskingForms.{AskingLaws, Steps}
use Rattle.ready_law.proofs.AskingGood.{ListsCall, is_good}
use Rattle.ready_law.proofs.AskingMoves.{called_steps, delivered_steps}
use Rattle.ready_law.proofs.AskingReturns.{has_grant}
use Rattle.ready_law.proofs.AskingServed.{request_laws}
use Rattle.ready_law.proofs.Calls.{DeliversHead, IsIn, ReadyCall, answer_message, file_at_call, kept_at, lost_at, op_at, own_at, queue_at, request_message}
use Rattle.ready_law.proofs.Going.{OpensCall}
use Rattle.ready_law.proofs.ReadCommands.{awaited_are_read, made_under}
use Rattle.ready_law.proofs.ReportingGrants.{commit_may, commit_some}
use Rattle.ready_law.proofs.ReportingServed.{Awaits, file_now as committed_file, granted_to, head_of, is_served, request_comes}
use Rattle.ready_law.proofs.ServingCommits.{commit_sizes, committed, end_of}
use Rattle.ready_law.proofs.Stages.{AreOf, AreTaken, Committed, Committing, Getting, IsReplyTo, IsTaking, Working, command_message}
use Rattle.ready_law.proofs.Stepping.{answers_step, calls_step, replies_step}
use Rattle.ready_law.proofs.Together.{ReadyLaws}
use Rattle.ready_law.proofs.WorkingMessages.{IsFirstOf, first_of, none_of}
use Rattle.ready_law.proofs.WorkingStage.{grant_agrees}
use Rattle.ready_law.specs.Carried.{WorksUnder}
use Rattle.ready_law.specs.Ready.{is_listed, stands}
use Rattle.ready_law.specs.Stepping.{IsAnsweredAt, TakesCall, holding, unasked}
use Rattle.scenario_text.specs.declared.line.Line.{Line}
use Rattle.server_rules.specs.Grants.{grant_of}
use Rattle.server_rules.specs.Laws.{In}
use Rattle.std.proofs.Common.{ℕ, Bool, List, None, Ok, Option, Result, Some, [], ap, arith, false, inl, inr, is_some, length, not, refl, slice_get, subst, suc, sym, true, zero, ◌*◌, ◌++◌, ◌-◌, ◌∙◌, ◌∷◌, ◌≡◌, ◌≢◌, ◌≤◌, ◌⊎◌}
use Rattle.std.proofs.lemmas.Bool.{cases_Bool, eq-eqb, le-ltb, ne_eqb}
use Rattle.std.proofs.lemmas.List.{length-append}
use Rattle.stripe_plan.specs.Lost.{among}
use Rattle.world_history.specs.ClientNames.{Answer, Awaited, CallErr, CallOp, Client, Commit, Credential, First, Get, Held, Listed, Moved, Reply, Request, TimedOut, Waits}
use Rattle.world_history.specs.Handed.{pending_op}
use Rattle.world_history.specs.Sending.{Move}
use Rattle.world_history.specs.ServerNames.{Component, File, Grant}
use Rattle.world_history.specs.State.{ClientAt, World, at_number}
use Rattle.world_history.specs.declared.limits.TheConstants.{MAX_KEPT}
use Rattle.world_history.specs.declared.messages.Message.{Message}
use Rattle.load_law.specs.Load as load
use Rattle.layout_ops.specs.declared.envelope.Envelope.TheVariants as envelope
use Rattle.osd_lists.specs.declared.node.Node.TheVariants as node

module _ (all : ReadyLaws) (s : ReadyCall) (known : IsOfScenario s) (w : World) (h : List Line) (k : IsIn s w h) (m : Move) where
  abbrev laws : AskingLaws
  laws = all.asking

  abbrev n : ℕ
  n = (span_of (op_at s)).length

  -- ---- the layout comes

  module _ (a : Getting s w) where
    module _ (g : Grant) (b : Answer) (it : IsTaking s w g b) (rest : List Message)
        (d : DeliversHead s w m (answer_message b) rest) where
      taken_fits : EnvelopeFits (envelope.Answer b)
      taken_fits =
          subst (λ (z : Answer). EnvelopeFits (envelope.Answer z)) it.kept
          ((readable_there w h k.fair.moment k.fair.readable).answers g.client it.slot it.slot_is)

      number_is : it.at.state.number ≡ g.client
      number_is = (in_step_there laws w h k.fair g.client it.at it.there).number

      names : names_nobody b ≡ false
      names = rw it.status refl

      its_own : is_awaited it.at.state b it.request ≡ true
      its_own =
          rw (
            eq-eqb b.client it.at.state.number (it.client_is ∙ sym number_is),
            eq-eqb b.sequence it.request.sequence it.sequence,
            names,
          ) refl

      differs : g.client ≢ s.client
      differs same =
          let at : it.at ≡ a.asks.caller.at =
          same_some it.at a.asks.caller.at (at_number w.clients g.client) it.there
          (ap (at_number w.clients) same ∙ a.asks.caller.there) in
          absurd (cc (sym it.free ∙ ap (λ (x : ClientAt). x.state.call) at ∙ a.asks.caller.call))

      taken_small : IsSmall s w m (answer_message b)
      taken_small =
          let st =
          delivered_steps w m d.number g.client d.posted_as (answer_message b) it.at (Answers b) d.action_is d.found d.message_is
          (ap (λ (j : ℕ). node.Client j) it.client_is) it.there it.alive (answer_read b taken_fits) in
          let t = answered_step it.at.state b it.request it.free it.due it.outstanding its_own in
          record {
            little = client_little w m g.client it.at _ _ st [] t.sends (omega arith) tt;
            hears =
                other_hears s w m.chosen (answer_message b) g.client it.at (ap (λ (j : ℕ). node.Client j) it.client_is)
                differs it.there it.free;
          }

    module _ (rest : List Message) (d : DeliversHead s w m (answer_message a.answer) rest) where
      abbrev c : Client
      c = a.asks.caller.at.state

      record Takes : Type 0 where
        held : Held
        takes : taken a.answer (op_at s) ≡ Ok held

      by_good : GoodAnswer (AgreesAt w.server s.client) (op_at s) (Get a.tries) a.answer → Takes
      by_good (inl it) = record { held = it.1; takes = it.2 }
      by_good (inr it) = absurd (it.0 a.status)

      met : IsMet w.server s.client c
      met =
          subst (IsMet w.server s.client) (ap (state_of s.client) a.asks.caller.there)
          (laws.agree w h k.fair.moment k.fair.readable s.client)

      takes_it : Takes
      takes_it =
          let fine = subst (CallFine (KeptGood w.server s.client) c.held c.outstanding) a.asks.caller.call met.call in
          let asking = fine.1.1 in
          let same : asking.request ≡ a.request =
          same_some asking.request a.request c.outstanding asking.outstanding a.asks.caller.outstanding in
          by_good (subst (GoodAnswer (AgreesAt w.server s.client) (op_at s) (Get a.tries)) a.answered.kept
          (asking.known a.answered.slot a.answered.slot_is
          (a.answered.last ∙ ap (λ (r : Request). r.sequence) (sym same))))

      abbrev held : Held
      held = takes_it.held

      abbrev file_then : File
      file_then =
          record s.ready.file { kept = record (kept_at s) { grants = a.before ++ a.grant ∷ []; high = a.asks.server.high } }

      fitting : IsFitting w.server file_then
      fitting = (readable_there w h k.fair.moment k.fair.readable).files (file_at_call s) file_then a.asks.server.found

      uncovered_listed : (j : ℕ) → stands (slice_get (kept_at s).components j) ≡ is_listed (kept_at s) (own_at s) (op_at s) j
      uncovered_listed j = by (own_at s) a.asks.uncovered
        where
          by : (o : Option Held) → ((x : Held) → o ≡ Some x → covers x (op_at s) ≡ false)
              → stands (slice_get (kept_at s).components j) ≡ is_listed (kept_at s) o (op_at s) j
          by None none = refl
          by (Some x) none = rw (none x refl) refl

      lists : ListsCall s held
      lists =
          let layout = a.layout held takes_it.takes in
          record {
            map = layout.map;
            size = layout.size;
            checked = fitting.map;
            shape = (laws.shapes w (reached w h k.fair.moment) (file_at_call s) file_then a.asks.server.found).components;
            count = layout.count;
            unlisted = λ j at found none. missing_so j at found none (layout.listed j);
            listed = λ j. layout.listed j ∙ uncovered_listed j;
          }
        where
          missing_so : (j : ℕ) (at : Component) → slice_get (kept_at s).components j ≡ Some at
              → is_some (credential_in (slice_get takes_it.held.components j)) ≡ false
              → is_some (credential_in (slice_get takes_it.held.components j))
              ≡ stands (slice_get (kept_at s).components j) → at.missing ≡ true
          missing_so j at found none same = by at.missing (sym none ∙ same ∙ ap stands found)
            where
              by : (b : Bool) → false ≡ not b → b ≡ true
              by true e = refl
              by false e = absurd (cc e)

      answered_at : IsAnsweredAt c (op_at s) (Get a.tries) a.answer
      answered_at = record {
        pending = a.asks.caller.call;
        none_due = a.asks.caller.due;
        request = a.request;
        asked = a.asks.caller.outstanding;
        its = its_answer laws s w h k a.request a.answer (Get a.tries) a.asks.caller a.answered (inl a.status);
      }

      begun_few : length (begins held (op_at s)).sent ≤ MOST_AT_ONCE
      begun_few =
          let good = is_good s held lists in
          not_many held (op_at s) _
          (each_call_sends_few held (op_at s) good.checked good.complete (begins held (op_at s)) _ load.AtBegin)
          (ap (λ (r : RawMap). r.comps) lists.map ∙ known.comps) known.inside

      layout_small : IsSmall s w m (answer_message a.answer)
      layout_small =
          let good = is_good s held lists in
          let st = answer_steps laws s w h k a.request a.answer (Get a.tries) a.asks.caller a.answered m rest d in
          record {
            little =
                works_little w m s.client a.asks.caller.at _ _ st (holding (unasked c) held) held (op_at s) (lost_at s) []
                (begins held (op_at s))
                (answers_step.given c (op_at s) a.tries a.answer held (lost_at s) answered_at a.status takes_it.takes good)
                known.whole n known.short (begins_made held n good.checked (op_at s) (omega arith)) begun_few;
            hears =
                caller_hears s w m.chosen (answer_message a.answer) _ _
                (ap (λ (j : ℕ). node.Client j) a.answered.client_is) a.asks.caller;
          }

    by_taken : (left : List Grant) → a.left ≡ left → (taken_by : List Message) → AreTaken s w left taken_by → (x : Message)
        (rest : List Message) → DeliversHead s w m x rest → x ∷ rest ≡ taken_by ++ answer_message a.answer ∷ []
        → IsSmall s w m x
    by_taken [] left [] are x rest d is =
        let head : x ≡ answer_message a.answer = cc is in
        subst (IsSmall s w m) (sym head) (layout_small rest (subst (λ (y : Message). DeliversHead s w m y rest) head d))
    by_taken [] left (t ∷ ts) are x rest d is = absurd are
    by_taken (g ∷ gs) left [] are x rest d is = absurd are
    by_taken (g ∷ gs) left (t ∷ ts) are x rest d is =
        let head : x ≡ answer_message are.0.0 = (let first : x ≡ t = cc is in first ∙ are.0.2) in
        subst (IsSmall s w m) (sym head)
        (taken_small g are.0.0 are.0.1 rest (subst (λ (y : Message). DeliversHead s w m y rest) head d))

  pub getting_small : (a : Getting s w) (x : Message) (rest : List Message) → queue_at s w ≡ x ∷ rest
      → DeliversHead s w m x rest → IsSmall s w m x
  getting_small a x rest queue d = by_taken a a.left refl a.taken_by a.are_taken x rest d (sym queue ∙ a.queue)

  -- ---- the call works

  module _ (a : Working s w) where
    abbrev g : Held
    g = a.has.held

    agrees_map : g.map ≡ (kept_at s).map
    agrees_map =
        (grant_agrees laws s w h k a.has.caller.at a.has.caller.there g a.has.holds a.has.grants (kept_at s).size a.has.server
        a.has.grant a.has.granted).map

    abbrev under : (y : Awaited) → In y (awaited_in a.phase) → WorksUnder w s.client y
    under y mine = record {
      caller = a.has.caller.at;
      there = a.has.caller.there;
      call = record { op = op_at s; phase = a.phase };
      pending = a.has.caller.call;
      awaits = mine;
      held = g;
      holds = a.has.holds;
      file = record s.ready.file {
        kept = record (kept_at s) { grants = a.has.grants; size = (kept_at s).size; high = a.has.server.high };
      };
      found = a.has.server.found;
      quiet = s.ready.quiet;
      grant = a.has.grant;
      granted = a.has.granted;
    }

    command_small : (y : Awaited) → In y (awaited_in a.phase) → (x : Message) (rest : List Message)
        → x ≡ command_message s.client y → DeliversHead s w m x rest → IsSmall s w m x
    command_small y mine x rest is d =
        let made : IsMade g n y = made_under w h s.client y (under y mine) k.fair in
        let read : reading (spelling y.command) ≡ Ok y.command =
        awaited_are_read all.clear.answers all.clear.places all.clear.files all.clear.components w h k.fair s.client y
        (under y mine) in
        let long = command_length g n y made in
        let message_is : d.posted_as.message ≡ command_message s.client y = d.message_is ∙ is in
        record {
          little =
              drive_little w m d.number y.drive d.posted_as y.command d.action_is d.found
              (ap (λ (z : Message). z.to) message_is) (ap (λ (z : Message). z.body) message_is) read
              (command_action g n y made) (omega (arith, long, known.short));
          hears = drive_hears s w m.chosen x y.drive (ap (λ (z : Message). z.to) is);
        }

    phase_made : PhaseMade g n a.phase
    phase_made =
        let it : ClientMade a.has.caller.at.state =
        all_made w (reached w h k.fair.moment) s.client a.has.caller.at a.has.caller.there in
        subst (λ (o : Option Held). UnderMade o (op_at s) a.phase) a.has.holds
        (subst (CallMade a.has.caller.at.state.held) a.has.caller.call it.call)

    reply_small : (y : Awaited) → In y (awaited_in a.phase) → (x : Message) (rest : List Message)
        → IsReplyTo s.client y x → DeliversHead s w m x rest → IsSmall s w m x
    reply_small y mine x rest it d =
        let c : Client = a.has.caller.at.state in
        let r : Reply = it.tells.reply in
        let mv : Moved = replied g (op_at s) a.phase y r in
        let st : Steps w m s.client a.has.caller.at (pending_op c) (step c (Hears x.from (Replies r))) =
        delivered_steps w m d.number s.client d.posted_as x a.has.caller.at (Replies r) d.action_is d.found d.message_is
        it.to_is a.has.caller.there a.has.caller.alive it.tells.read in
        let well = replies_step c g (op_at s) (lost_at s) a.phase a.has.good a.well (record {
          pending = a.has.caller.call;
          holds = a.has.holds;
          free = a.has.caller.outstanding;
          none_due = a.has.caller.due;
        }) y mine r it.tells.done (sym it.tells.its) in
        let from_is : step c (Hears x.from (Replies r)) ≡ step c (Hears (node.Drive y.drive) (Replies r)) =
        ap (λ (j : Node). step c (Hears j (Replies r))) it.from_is in
        let stt : Steps w m s.client a.has.caller.at (pending_op c) (step c (Hears (node.Drive y.drive) (Replies r))) =
        subst (Steps w m s.client a.has.caller.at (pending_op c)) from_is st in
        record {
          little =
              works_little w m s.client a.has.caller.at (pending_op c) (step c (Hears (node.Drive y.drive) (Replies r))) stt c g
              (op_at s) (lost_at s) _ mv well known.whole n known.short
              (replied_made g n a.has.good.checked (op_at s) (omega arith) a.phase y r phase_made) (few y mine r);
          hears = caller_hears s w m.chosen x _ _ it.to_is a.has.caller;
        }
      where
        few : (z : Awaited) → In z (awaited_in a.phase) → (r : Reply)
            → length (replied g (op_at s) a.phase z r).sent ≤ MOST_AT_ONCE
        few z there r =
            let map_is : g.map ≡ a.begun.map = ap (λ (y : Held). y.map) a.run.same in
            let complete : length a.begun.components ≡ a.begun.map.comps =
            ap (λ (y : Held). length y.components) (sym a.run.same) ∙ a.has.good.complete
            ∙ ap (λ (y : RawMap). y.comps) map_is in
            let all : length (a.commands ++ (replied a.run.moved.held (op_at s) a.phase z r).sent)
            ≤ 6 * a.begun.map.comps * load.stripes_reached a.begun (op_at s) =
            each_call_sends_few a.begun (op_at s) (subst IsChecked map_is a.has.good.checked) complete
            (replied a.run.moved.held (op_at s) a.phase z r) _
            (load.AtReply a.run.moved a.commands a.phase z r a.run.deals a.run.turn there) in
            let many : length (a.commands ++ (replied a.run.moved.held (op_at s) a.phase z r).sent) ≤ MOST_AT_ONCE =
            not_many a.begun (op_at s) _ all
            (ap (λ (y : RawMap). y.comps) (sym map_is ∙ agrees_map) ∙ known.comps) known.inside in
            let parts = length-append a.commands (replied a.run.moved.held (op_at s) a.phase z r).sent in
            let same : length (replied a.run.moved.held (op_at s) a.phase z r).sent
            ≡ length (replied g (op_at s) a.phase z r).sent =
            ap (λ (y : Held). length (replied y (op_at s) a.phase z r).sent) a.run.held in
            omega (arith, many, parts, same)

  pub working_small : (a : Working s w) (x : Message) (rest : List Message) → queue_at s w ≡ x ∷ rest
      → DeliversHead s w m x rest → IsSmall s w m x
  working_small a x rest queue d =
      let f : IsFirstOf s.client a.waiting x rest =
      first_of s.client a.waiting x rest (subst (AreOf s.client a.waiting) queue a.queue) in
      let mine : In f.first (awaited_in a.phase) = a.awaited f.first (subst (In f.first) (sym f.are) (inl refl)) in
      elim f.is [
        | inl command ↦ command_small a f.first mine x rest command d
        | inr reply ↦ reply_small a f.first mine x rest reply d
      ]

  -- it never waits for a component that doesn't answer
  pub working_never_waits : (a : Working s w) → queue_at s w ≡ [] → ⊥
  working_never_waits a empty = by (awaited_in a.phase) refl
    where
      none_waits : a.waiting ≡ []
      none_waits = none_of s.client a.waiting (subst (AreOf s.client a.waiting) empty a.queue)

      gone : (lost : List ℕ) (j : ℕ) → lost ≡ [] → among j lost ≡ true → ⊥
      gone [] j none e = absurd (cc e)
      gone (x ∷ xs) j none e = absurd (cc none)

      by : (xs : List Awaited) → awaited_in a.phase ≡ xs → ⊥
      by [] none = a.well.some none
      by (y ∷ ys) some = elim (a.heard y (subst (In y) (sym some) (inl refl))) [
        | inl waits ↦ absurd (subst (In y) none_waits waits)
        | inr lost ↦ gone (lost_at s) y.ask.component known.whole lost
      ]

  -- ---- a commit

  pub committing_small : (a : Committing s w) (x : Message) (rest : List Message) → queue_at s w ≡ x ∷ rest
      → DeliversHead s w m x rest → IsSmall s w m x
  committing_small a x rest queue d =
      let q : Request = a.request in
      let one : x ∷ rest ≡ request_message q ∷ [] = sym queue ∙ a.queue in
      let head : x ≡ request_message q = cc one in
      let e = head_of d one in
      let has = a.has in
      let z : Awaits s w q = record {
        grants = has.grants;
        size = (kept_at s).size;
        server = has.server;
        asked = a.asked;
        phase = Waits (Commit a.timed);
        caller = has.caller;
      } in
      let comes = request_comes s w m q e z in
      let served =
      commit_sizes (request_laws laws) w h k.fair m.chosen e.number q.client q (committed_file s w m q e z) comes has.held (op_at s)
      a.args_are has.grant (granted_to s w m q e z has.grant has.granted)
      (commit_some laws s w h k a.timed q (kept_at s).size has)
      (commit_may laws s w h k a.timed q (kept_at s).size has a.past) in
      let c = committed q.client q (committed_file s w m q e z) (end_of (op_at s)) in
      let there = is_served s w m q e z c refl refl refl served in
      let size_is = committed_answer c.answer refl in
      subst (IsSmall s w m) (sym head) (record {
        little = little_of w m _ there.posts (omega arith) (omega (arith, size_is), tt);
        hears =
            server_hears s w m.chosen (request_message q) refl
            (commits_quietly w h k.fair m.chosen q comes.outstanding has.held (op_at s) a.args_are);
      })

  pub committed_small : (a : Committed s w) (x : Message) (rest : List Message) → queue_at s w ≡ x ∷ rest
      → DeliversHead s w m x rest → IsSmall s w m x
  committed_small a x rest queue d =
      let one : x ∷ rest ≡ answer_message a.answer ∷ [] = sym queue ∙ a.queue in
      let head : x ≡ answer_message a.answer = cc one in
      let e : DeliversHead s w m (answer_message a.answer) rest = subst (λ (y : Message). DeliversHead s w m y rest) head d in
      let c : Client = a.has.caller.at.state in
      let timed_none : a.timed ≡ [] = by a.timed refl in
      let at : IsAnsweredAt c (op_at s) (Commit []) a.answer = record {
        pending =
            a.has.caller.call
            ∙ ap (λ (ts : List TimedOut). Some (record { op = op_at s; phase = Waits (Commit ts) })) timed_none;
        none_due = a.has.caller.due;
        request = a.request;
        asked = a.has.caller.outstanding;
        its = its_answer laws s w h k a.request a.answer (Commit a.timed) a.has.caller a.answered (inl a.status);
      } in
      let st = answer_steps laws s w h k a.request a.answer (Commit a.timed) a.has.caller a.answered m rest e in
      let is = answers_step.committed c a.has.held (op_at s) a.answer at a.has.holds a.status in
      subst (IsSmall s w m) (sym head) (record {
        little =
            client_little w m s.client a.has.caller.at _ _ st [] (ap (λ (y : ClientStep). y.sends) is) (omega arith) tt;
        hears =
            caller_hears s w m.chosen (answer_message a.answer) _ _
            (ap (λ (j : ℕ). node.Client j) a.answered.client_is) a.has.caller;
      })
    where
      gone : (lost : List ℕ) (j : ℕ) → lost ≡ [] → among j lost ≡ true → ⊥
      gone [] j none e = absurd (cc e)
      gone (y ∷ ys) j none e = absurd (cc none)

      by : (ts : List TimedOut) → a.timed ≡ ts → a.timed ≡ []
      by [] is = is
      by (t ∷ ts) is =
          absurd (gone (lost_at s) t.ask.component known.whole (a.silent.lost t (subst (In t) (sym is) (inl refl))))

-- ---- the opening move

-- what stands in one of two lists of a length has its like in the other
its_like : {A B : Type 0} (xs : List A) (ys : List B) (j : ℕ) (x : A) → length ys ≡ length xs → slice_get xs j ≡ Some x
    → (y : B) × (slice_get ys j ≡ Some y)
its_like [] ys j x same e = absurd (cc e)
its_like (a ∷ xs) [] j x same e = absurd (cc same)
its_like (a ∷ xs) (b ∷ ys) zero x same e = (b, refl)
its_like (a ∷ xs) (b ∷ ys) (suc j) x same e = its_like xs ys j x (omega (arith, same)) e

starts_it : (c : Client) (op : CallOp) → c.call ≡ None → is_bad_range (span_of op) ≡ false → is_spent c.next ≡ false
    → calls c op ≡ Ok (starts c op)
unfolding calls
starts_it c op idle range numbers = rw (idle, range, numbers) refl

module _ (all : ReadyLaws) (s : ReadyCall) (known : IsOfScenario s) (m : Move) (o : OpensCall s m)
    (k : IsIn s s.world s.history) where
  abbrev base : AskingLaws
  base = all.asking

  abbrev most : ℕ
  most = (span_of (op_at s)).length

  abbrev caller : ClientAt
  caller = s.ready.caller

  abbrev own : Client
  own = s.ready.caller.state

  there : at_number s.world.clients s.client ≡ Some caller
  there = s.ready.there

  some_number : own.next ≢ 0
  some_number = has_number base s.world s.history k.fair s.client caller there

  none_due : own.due ≡ []
  none_due =
      base.rests s.world (reached s.world s.history k.fair.moment) s.client caller there s.ready.idle.free
      s.ready.idle.answered some_number

  numbers : is_spent own.next ≡ false
  numbers =
      let counts : ClientCounts own (length s.world.network.messages) =
      base.counts s.world (reached s.world s.history k.fair.moment) s.client caller there in
      let few : length s.world.network.messages ≤ MAX_KEPT = few_there s.world s.history k.fair.moment k.fair.few in
      rw (
        ne_eqb own.next 0 some_number,
        le-ltb (GREATEST_SEQUENCE - SPARE_REQUESTS) (own.next - 1) (omega (arith, counts.requests, few)),
      ) refl

  takes : TakesCall own (op_at s)
  takes = record {
    idle = s.ready.idle.free;
    free = s.ready.idle.answered;
    none_due = none_due;
    range = s.ready.range;
    numbers = numbers;
  }

  abbrev its_step : ClientStep
  its_step = step own (Calls (op_at s))

  starts_so : calls own (op_at s) ≡ Ok (starts own (op_at s))
  starts_so = starts_it own (op_at s) s.ready.idle.free s.ready.range numbers

  taken_so : calls own (op_at s) ≡ Ok its_step
  taken_so = starts_so ∙ sym (ap (λ (r : Result ClientStep CallErr). Ok (unless_refused own r)) starts_so)

  steps : Steps s.world m s.client caller (Some (op_at s)) its_step
  steps = called_steps s.world m s.client s.its caller its_step o.action_is there taken_so

  module _ (held : Held) (owned : own_at s ≡ Some held) (covered : covers held (op_at s) ≡ true) where
    granted : (g : Grant) × (grant_of (kept_at s).grants s.client ≡ Some g)
    granted = has_grant s held owned

    abbrev grant : Grant
    grant = granted.0

    here : held_of (state_of s.client (at_number s.world.clients s.client)).held (file_at_call s) ≡ Some held
    here = ap (λ (x : Option ClientAt). held_of (state_of s.client x).held (file_at_call s)) there ∙ owned

    agreed : IsMet s.world.server s.client (state_of s.client (at_number s.world.clients s.client))
    agreed = base.agree s.world s.history k.fair.moment k.fair.readable s.client

    components : ListsComponents s.world.server.drives (kept_at s) grant held.components
    components =
        base.listed s.world s.history k.fair.moment k.fair.readable s.client (file_at_call s) held s.ready.file grant here
        s.ready.found granted.1

    size_is : held.size ≡ (kept_at s).size
    size_is =
        by (base.sizes s.world s.history k.fair.moment k.fair.readable s.client (file_at_call s) held s.ready.file grant here
        s.ready.found granted.1)
      where
        by : (held.size ≡ (kept_at s).size)
            ⊎ IsCommitted s.world.server s.client (state_of s.client (at_number s.world.clients s.client)) s.ready.file
            → held.size ≡ (kept_at s).size
        by (inl same) = same
        by (inr later) =
            absurd (cc (sym (ap (λ (x : Option ClientAt). (state_of s.client x).outstanding) there ∙ s.ready.idle.answered)
            ∙ later.outstanding))

    file_fits : IsFitting s.world.server s.ready.file
    file_fits = (readable_there s.world s.history k.fair.moment k.fair.readable).files (file_at_call s) s.ready.file s.ready.found

    its_lists : ListsCall s held
    its_lists = record {
      map = (agreed.helds (file_at_call s) held here s.ready.file grant s.ready.found granted.1).map;
      size = size_is;
      checked = file_fits.map;
      shape =
          (base.shapes s.world (reached s.world s.history k.fair.moment) (file_at_call s) s.ready.file
          s.ready.found).components;
      count = components.count;
      unlisted = λ j at found none.
          let l = its_like (kept_at s).components held.components j at components.count found in
          (components.each j at l.0 found l.1).missing
          (no_credential l.0 (ap (λ (x : Option Listed). is_some (credential_in x)) (sym l.1) ∙ none));
      listed = λ j. so j (own_at s) owned;
    }
      where
        no_credential : (l : Listed) → is_some l.credential ≡ false → l.credential ≡ None
        no_credential l none = by l.credential refl none
          where
            by : (x : Option Credential) → l.credential ≡ x → is_some x ≡ false → l.credential ≡ None
            by None is e = is
            by (Some y) is e = absurd (cc e)

        so : (j : ℕ) (x : Option Held) → x ≡ Some held
            → is_some (credential_in (slice_get held.components j)) ≡ is_listed (kept_at s) x (op_at s) j
        so j x is = rw (is, covered) refl

    begins_little : writes_nothing (op_at s) ≡ false → SendsLittle s.world m
    begins_little some =
        let good = is_good s held its_lists in
        let few =
        not_many held (op_at s) _
        (each_call_sends_few held (op_at s) good.checked good.complete (begins held (op_at s)) _ load.AtBegin)
        (ap (λ (r : RawMap). r.comps) its_lists.map ∙ known.comps) known.inside in
        works_little s.world m s.client caller (Some (op_at s)) its_step steps own held (op_at s) (lost_at s) []
        (begins held (op_at s)) (calls_step.covered own held (op_at s) (lost_at s) takes some owned covered good)
        known.whole most known.short (begins_made held most good.checked (op_at s) (omega arith)) few

  by_held : writes_nothing (op_at s) ≡ false → (x : Option Held) → own_at s ≡ x → SendsLittle s.world m
  by_held some None none =
      asks_little s.world m s.client caller (Some (op_at s)) its_step steps own (op_at s) (Get 0) (get_args (op_at s))
      (calls_step.unheld own (op_at s) takes some none) (GetsPlain (op_at s) refl)
  by_held some (Some held) owned = elim (cases_Bool (covers held (op_at s))) [
    | inl covered ↦ begins_little held owned covered some
    | inr uncovered ↦
        asks_little s.world m s.client caller (Some (op_at s)) its_step steps own (op_at s) First (return_args held.number [])
        (calls_step.uncovered own held (op_at s) takes some owned uncovered) (ReturnsPlain held.number refl)
  ]

  pub opens_little : SendsLittle s.world m
  opens_little = elim (cases_Bool (writes_nothing (op_at s))) [
    | inl nothing ↦
        client_little s.world m s.client caller (Some (op_at s)) its_step steps []
        (ap (λ (t : ClientStep). t.sends) (calls_step.nothing own (op_at s) takes nothing)) (omega arith) tt
    | inr some ↦ by_held some (own_at s) refl
  ]
