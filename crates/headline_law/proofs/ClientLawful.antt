-- A move of a client, where the machine has the replies to the WRITEs that clients await: the events of each of its first lines
-- can happen.
use Rattle.std.proofs.Common.{◌≡◌, ◌==◌, ◌<◌, ℕ, true, List, [], zero, suc, take, Option, Some, None, refl, sym, ap, subst, ◌∙◌}
use Rattle.std.proofs.lemmas.Bool.{eqb-true}
use Rattle.data_map.specs.Check.{IsChecked}
use Rattle.layout_types.specs.declared.ioerrs.IoErr.{IoErr}
use Rattle.layout_ops.specs.declared.messages.Answer.{Answer}
use Rattle.osd_commands.specs.declared.replies.Reply.{Reply}
use Rattle.scenario_text.specs.declared.line.Line.{Line}
use Rattle.scenario_text.specs.declared.names.TheConstants.{CLIENTS}
use Rattle.server_rules.specs.Slots.{slot_of}
use Rattle.client_rules.specs.declared.limits.TheConstants.{PERFORMED}
use Rattle.client_rules.specs.Calls.{file_of}
use Rattle.client_rules.specs.Grants.{held_of}
use Rattle.client_rules.specs.History.{Input, Calls, Hears, TimesOut, Leaves, Resends, step}
use Rattle.client_rules.specs.Io.{awaited_in}
use Rattle.client_rules.specs.Replies.{answers}
use Rattle.history_law.specs.Moments.{lines_in, with_event}
use Rattle.history_law.specs.Counters.{GrantsAreCounted}
use Rattle.history_law.specs.Moves.{IsForClient}
use Rattle.history_law.specs.Turns.{AnswerComes, IsReplied}
use Rattle.world_history.specs.ClientNames.{Awaited, Call, CallOp, Client, Held, Request}
use Rattle.world_history.specs.Handed.{op_in, pending_op}
use Rattle.world_history.specs.Moves.{Action, Opens, acts}
use Rattle.world_history.specs.ServerNames.{File, Slot}
use Rattle.world_history.specs.Sending.{Move, move}
use Rattle.world_history.specs.State.{World}
use Rattle.exchange_law.specs.Meeting.{IsMet, IsReadableThrough}
use Rattle.exchange_law.specs.Requests.{OneRequest}
use Rattle.exchange_law.specs.Taking.{AnswersAreOwn}
use Rattle.exchange_law.specs.Text.{AreFew, AreOfText}
use Rattle.exchange_law.proofs.ClientMoves.{clients_always}
use Rattle.exchange_law.proofs.CountGrowing.{fewer, text_behind, text_front}
use Rattle.exchange_law.proofs.CountMoments.{reached}
use Rattle.exchange_law.proofs.RefusalClients.{Known}
use Rattle.fence_law.specs.Law.{IsCode}
use Rattle.fence_law.specs.Machine.{Lawful, after_all}
use Rattle.fence_law.specs.State.{State}
use Rattle.fence_law.proofs.Safe.{Safe}
use Rattle.plan_law.proofs.Codes.{layouts_are_codes}
use Rattle.file_simulation.specs.Calls.{IsClient}
use Rattle.file_simulation.specs.ClientEvents as table
use Rattle.file_simulation.specs.ClientEvents.{Going, going_in}
use Rattle.file_simulation.specs.EventLists.{Lines}
use Rattle.file_simulation.specs.Events.{joined, events_of}
use Rattle.file_simulation.specs.Relation.{client_of}
use Rattle.file_simulation.specs.Requests.{AwaitsNothing, IsOutstanding, RequestIs, RequestsAgree, kept_by, kept_for}
use Rattle.relation_law.specs.Frames.{ByClient}
use Rattle.relation_law.specs.Requests.{FirstMay}
use Rattle.relation_law.specs.RequestsClients.{AsksFor, NeedsHeld}
use Rattle.relation_law.specs.RequestsGoing.{MayLaws, TakesOwnAnswer}
use Rattle.relation_law.specs.Returns.{CantBeBorne, report_read}
use Rattle.relation_law.specs.Steps.{Follows, owed}
use Rattle.relation_law.specs.Working.{ClientWorks}
use Rattle.file_simulation.specs.Messages.{is_scatter}
use Rattle.relation_law.proofs.CallsFitting.{answer_fits}
use Rattle.relation_law.proofs.CallsOwnMove.{led_joined}
use Rattle.relation_law.proofs.ComponentsGoOn.{lawful_taken}
use Rattle.relation_law.proofs.FramesClient.{at_first}
use Rattle.relation_law.proofs.FramesParties as parties
use Rattle.relation_law.proofs.Heard.{heard}
use Rattle.relation_law.proofs.KeptCommits.{client_low}
use Rattle.relation_law.proofs.KeptGoing.{safe_of}
use Rattle.relation_law.proofs.MessagesAlways.{found_one}
use Rattle.relation_law.proofs.MessagesRun.{IsFine}
use Rattle.relation_law.proofs.OwnFacts.{goes_events, has_by, works_kept}
use Rattle.relation_law.proofs.PlanWorlds.{found_true}
use Rattle.relation_law.proofs.Plans.{PlanFacts, WasHeard}
use Rattle.relation_law.proofs.ReadsAnswers.{IsTold}
use Rattle.relation_law.proofs.RequestsClients.{clients_ask_for}
use Rattle.relation_law.proofs.RequestsLawful.{lawful_more}
use Rattle.relation_law.proofs.RequestsMay.{agrees, answer_may, own_is, through, readable}
use Rattle.relation_law.proofs.ReturnsRight.{RightLaws}
use Rattle.relation_law.proofs.ReturnsStands.{Reports, always_fine, reports_stand}
use Rattle.relation_law.proofs.SmallBytes.{IsSmall, asked_small, calls_small, pending_small, OpSmall}
use Rattle.headline_law.specs.ClientTold.{AreTold}
use Rattle.headline_law.specs.Parts.{ClientsAreLawful}
use Rattle.headline_law.proofs.ClientCases.{AnswerKnown, TurnKnown, turn_lawful}

-- what is known of the world
pub record ClientLaws : Type 0 where
  pub right : RightLaws
  pub own : AnswersAreOwn
  pub counted : GrantsAreCounted
  pub one : OneRequest

-- the text of a move's first line
pub first_text : (a : Action) (ls : List Line) (n : ℕ) → AreOfText (take (suc n) (with_event a ls)) → AreOfText (with_event a [])
first_text (Opens e) ls n text = (text.0, tt)
first_text a ls n text = tt

module _ (laws : ClientLaws) (w : World) (h : List Line) (m : Move) (n : ℕ) (f g : File) (s : State)
    (k : Follows w h m (suc n) f g s) (told : AreTold s w f) (j : Going) (goes : going_in w m.action ≡ Some j) where
  abbrev file : ℕ
  file = f.kept.number

  abbrev c : ℕ
  c = j.client

  abbrev x : Client
  x = j.state

  abbrev slot : Option Slot
  slot = slot_of w.server.slots j.client

  may : MayLaws
  may = record { in_step = laws.right.world.in_step; readable = laws.right.readable; own = laws.own }

  known : Known
  known = record {
    further = laws.right.world.more;
    counted = laws.counted;
    one = laws.one;
    in_step = laws.right.world.in_step;
  }

  text : AreOfText h
  text = text_front h (take (suc n) (lines_in w m)) k.calm.scenario.text

  few : AreFew h
  few = fewer h (take (suc n) (lines_in w m)) k.calm.scenario.few

  readable_through : IsReadableThrough h
  readable_through = through may w h m (suc n) f g s k

  its : ByClient w m.action j (acts w m.chosen m.action)
  its = parties.client_goes w h k.moment m k.is_due j goes

  low : j.client < CLIENTS
  low = client_low w h k.moment text j.client its.before its.found

  same_client : client_of w j.client ≡ j.state
  same_client = parties.client_before w m.action j (acts w m.chosen m.action) its

  agree : RequestsAgree f.kept.number f.kept.map s w.server j.client j.state
  agree = agrees may w h m (suc n) f g s k j goes low

  is_client : IsClient f.kept.number f.kept.map s j.client j.state
      (kept_for (slot_of w.server.slots j.client) j.state.outstanding)
  is_client =
      subst (λ (z : Client). IsClient file f.kept.map s c z (kept_for slot z.outstanding)) same_client
      (k.related.clients c low).client

  met : IsMet w.server j.client j.state
  met = subst (IsMet w.server c) same_client (laws.right.world.agree w h k.moment readable_through c)

  asks : AsksFor j.state
  asks = subst AsksFor same_client (clients_ask_for w (reached w h k.moment) c)

  reports : Reports w.server j.client j.state
  reports = subst (Reports w.server c) same_client (reports_stand laws.right.world w h k.moment readable_through c)

  checked : IsChecked f.kept.map
  checked = ((readable may w h m (suc n) f g s k).files f.kept.number f k.there).map

  code : IsCode s.layout
  code = subst IsCode (sym k.related.layout) (layouts_are_codes f.kept.map f.kept.first_tag checked)

  safe : Safe s
  safe = safe_of s k.run code

  fine : IsFine j.state
  fine =
      subst IsFine (sym its.state_is)
      (clients_always (λ i y. IsFine y) always_fine w (reached w h k.moment) c its.before its.found)

  works : ClientWorks j.state
  works =
      subst ClientWorks (sym its.state_is)
      (clients_always (λ i y. ClientWorks y) works_kept w (reached w h k.moment) c its.before its.found)

  outstanding_is : (r : Request) → j.state.outstanding ≡ Some r →
      IsOutstanding f.kept.number f.kept.map s (slot_of w.server.slots j.client) j.client j.state r
  outstanding_is r out = subst (λ (o : Option Request). RequestIs file f.kept.map s slot c x o) out agree.request

  rests : j.state.outstanding ≡ None → AwaitsNothing s j.client
  rests out = subst (λ (o : Option Request). RequestIs file f.kept.map s slot c x o) out agree.request

  -- ---- an answer

  module _ (a : Answer) (r : Request) (is : AnswerComes j.state j.input a) (out : j.state.outstanding ≡ Some r) where
    own : TakesOwnAnswer w j.client j.state a
    own = own_is may w h m (suc n) f g s k j goes low is.from is.message a is.is is.takes_it

    same_request : own.request ≡ r
    same_request = cc (sym own.outstanding ∙ out)

    kept : kept_by (slot_of w.server.slots j.client) r ≡ Some a
    kept = subst (λ (z : Request). kept_by slot z ≡ Some a) same_request own.kept

    answer_known : AnswerKnown f.kept.number f.kept.map j.client s j.state (slot_of w.server.slots j.client) a r
    answer_known = record {
      kept = kept;
      waits = outstanding_is r out;
      slot_is = agree.slot;
      served = own.served ∙ ap (λ (z : Request). z.sequence) same_request;
      fits = answer_fits file w.server c x r out a kept asks met
          (λ (op : CallOp) (report : List IoErr). CantBeBorne w.server c (file_of op) (report_read report)) reports;
      may = subst (λ (o : Option Request). FirstMay s (table.answered s file c x a o)) out
          (answer_may may w h m (suc n) f g s k j goes low is.from is.message a is.is is.takes_it);
    }

  -- ---- a reply

  was_heard : (drive : ℕ) (q : Reply) (call : Call) (hh : Held) (a : Awaited) → IsReplied j.state j.input drive q call hh a →
      q.verdict ≡ PERFORMED → WasHeard w j.client a q
  was_heard drive q call hh a r done =
      heard known w h k.moment few m.action c its.before drive q
      (subst (λ (i : Input). IsForClient w m.action c its.before i) r.is its.input_is) a
      (found_true (answers drive q) (awaited_in call.phase) a r.awaits) done

  was_told : (drive : ℕ) (q : Reply) (call : Call) (hh : Held) (a : Awaited) → IsReplied j.state j.input drive q call hh a →
      (file_of call.op == f.kept.number) ≡ true → (q.verdict == PERFORMED) ≡ true → is_scatter call.phase ≡ true →
      IsTold s j.client a
  was_told drive q call hh a r here done scatter =
      let z : WasHeard w c a q = was_heard drive q call hh a r (eqb-true q.verdict PERFORMED done) in
      told c low call (ap (λ (y : Client). y.call) same_client ∙ r.call_is) (eqb-true (file_of call.op) file here) scatter a
      z.reply (found_one (answers drive q) (awaited_in call.phase) a r.awaits)
      (record { told = z.replied; answers = z.answers; performed = z.performed })

  -- ---- the call's bytes

  small : (op : CallOp) → op_in j.state j.input ≡ Some op → IsSmall op
  small op about = by_input j.input its.input_is about
    where
      old : pending_op j.state ≡ Some op → IsSmall op
      old e =
          subst OpSmall (ap (λ (y : Client). pending_op y) (sym its.state_is) ∙ e)
          (pending_small its.before.state.call
          (calls_small laws.right.world.more w h k.moment text j.client its.before its.found))

      by_input : (i : Input) → IsForClient w m.action j.client its.before i → op_in j.state i ≡ Some op → IsSmall op
      by_input (Calls o) is e =
          let same : o ≡ op = cc e in
          subst IsSmall same
          (asked_small m.action []
          (first_text m.action (move w m).lines n (text_behind h (take (suc n) (lines_in w m)) k.calm.scenario.text))
          j.client o is)
      by_input (Hears from b) is e = old e
      by_input (TimesOut i) is e = old e
      by_input Leaves is e = old e
      by_input Resends is e = old e

  facts : Lawful s (table.at_first s f.kept.number j.client j.state j.input) →
      PlanFacts f.kept.number f.kept.map j.client s j.state (slot_of w.server.slots j.client) is_client j.input w
  facts lawful = record {
    tag = f.kept.first_tag;
    layout = k.related.layout;
    checked = checked;
    run = k.run;
    code = code;
    fine = fine;
    owned = at_first file c s x j.input;
    lawful = lawful;
    small = small;
    shown = λ call i is here reads.
        (k.related.clients c low).shown call i (ap (λ (y : Client). y.call) same_client ∙ is) here reads;
    heard = was_heard;
  }

  turn_known : TurnKnown f.kept.number f.kept.map j.client s j.state (slot_of w.server.slots j.client) is_client j.input w
  turn_known = record {
    safe = safe;
    fine = fine;
    works = works;
    met = met.call;
    has = λ op i is here.
        has_by i (held_of x.held file)
        (subst (λ (z : ℕ). NeedsHeld i (held_of x.held z)) (eqb-true (file_of op) file here) (asks.needs op i is));
    rests = rests;
    told = was_told;
    answered = answer_known;
    facts = facts;
  }

  -- ---- its lines

  abbrev lines : Lines
  lines = events_of s w (owed k.related) f m

  events_are : joined (events_of s w (owed k.related) f m)
      ≡ joined (table.client_goes s f.kept.number j.client j.state j.input)
  events_are = rw goes (led_joined m.action (table.client_goes s file c x j.input))

  fresh_lawful : (j.input ≡ Resends → ⊥) → Lawful s (joined (table.client_goes s f.kept.number j.client j.state j.input))
  fresh_lawful none =
      let z = turn_lawful file f.kept.map c s x slot is_client j.input w turn_known none in
      subst (Lawful s) (sym (goes_events s file c x j.input none))
      (lawful_more s (table.at_first s file c x j.input)
      (joined (table.at_end (after_all s (table.at_first s file c x j.input)) file c (op_in x j.input) (step x j.input))) z.0 z.1)

  by_input : (i : Input) → j.input ≡ i → Lawful s (joined (table.client_goes s f.kept.number j.client j.state j.input))
  by_input Resends is =
      subst (λ (i : Input). Lawful s (joined (table.client_goes s file c x i))) (sym is) tt
  by_input (Calls op) is = fresh_lawful (λ e. cc (sym is ∙ e))
  by_input (Hears from b) is = fresh_lawful (λ e. cc (sym is ∙ e))
  by_input (TimesOut i) is = fresh_lawful (λ e. cc (sym is ∙ e))
  by_input Leaves is = fresh_lawful (λ e. cc (sym is ∙ e))

  lines_lawful : Lawful s (joined (take (suc n) (events_of s w (owed k.related) f m)))
  lines_lawful =
      lawful_taken (suc n) s (events_of s w (owed k.related) f m)
      (subst (Lawful s) (sym events_are) (by_input j.input refl))

-- The events of a client's move can happen.
pub clients_are_lawful : ClientLaws → ClientsAreLawful
clients_are_lawful laws w h m zero f g s k j goes = tt
clients_are_lawful laws w h m (suc n) f g s k j goes =
    lines_lawful laws w h m n f g s k (λ c low. (k.related.clients c low).told) j goes
