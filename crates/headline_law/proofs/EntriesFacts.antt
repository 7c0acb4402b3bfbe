-- What is known of a client whose turn a cut lies in: `WalkFacts` of it, but for the commands that it sends.
-- Towards `CutsShowEntries` (`specs/Parts.antt`).
use Rattle.std.proofs.Common.{◌≡◌, ◌==◌, ◌<◌, ◌++◌, ℕ, Bool, true, List, map, take, Option, Some, None, Ok, refl, sym, ap, subst, ◌∙◌, if◌then◌else◌}
use Rattle.std.proofs.lemmas.Bool.{eq-eqb}
use Rattle.std.specs.Prelude.{option_map}
use Rattle.scenario_text.specs.declared.line.Line.{Line}
use Rattle.scenario_text.specs.declared.names.TheConstants.{CLIENTS}
use Rattle.layout_ops.specs.declared.messages.Answer.{Answer}
use Rattle.layout_types.specs.declared.ioerrs.IoErr.{IoErr}
use Rattle.osd_lists.specs.declared.node.Node.{Node}
use Rattle.data_map.specs.Check.{IsChecked}
use Rattle.server_rules.specs.Slots.{slot_of}
use Rattle.client_rules.specs.Calls.{file_of, span_of, bytes_of}
use Rattle.client_rules.specs.Grants.{held_of}
use Rattle.client_rules.specs.History.{Input, Calls, Hears, TimesOut, Leaves, Resends, step}
use Rattle.client_rules.specs.Io.{outs}
use Rattle.client_rules.specs.Messages.{Step, Message, TakesAnswer, takes, to_drive}
use Rattle.client_rules.specs.Replies.{timed_after}
use Rattle.client_rules.specs.Steps.{calls}
use Rattle.gather_law.proofs.Gathered.{long_enough}
use Rattle.world_history.specs.Calm.{moment_of}
use Rattle.world_history.specs.ClientNames.{Client, Call, CallOp, Held, Awaited, Request, RecallAnswer, Phase, Starts, Needs, Waits, Reads, Probes, Gathers, Scatters, Close, Outcome, AnswersRecall, Asks}
use Rattle.world_history.specs.Handed.{op_in}
use Rattle.world_history.specs.Moves.{acts}
use Rattle.world_history.specs.ReadLog.{Pending, Log, called_beside, entry_in}
use Rattle.world_history.specs.Sending.{Move}
use Rattle.world_history.specs.ServerNames.{File, Slot}
use Rattle.world_history.specs.State.{World, at_number}
use Rattle.history_law.specs.Moments.{lines_in}
use Rattle.history_law.specs.Moves.{IsForClient}
use Rattle.history_law.specs.Turns.{AnswerComes}
use Rattle.exchange_law.specs.Meeting.{IsMet, IsReadable, IsReadableThrough}
use Rattle.exchange_law.specs.Taking.{TakesOwn}
use Rattle.exchange_law.specs.Text.{AreOfText, AreFew}
use Rattle.exchange_law.proofs.ClientMoves.{clients_always}
use Rattle.exchange_law.proofs.CountGrowing.{fewer, text_front}
use Rattle.exchange_law.proofs.CountMoments.{reached}
use Rattle.exchange_law.proofs.HeldWorlds.{readable_there}
use Rattle.exchange_law.proofs.Knowing.{lawful_at}
use Rattle.fence_law.specs.Law.{IsCode}
use Rattle.fence_law.specs.Machine.{after_all}
use Rattle.fence_law.specs.State.{State}
use Rattle.fence_law.proofs.Safe.{Safe}
use Rattle.osd_objects.proofs.Entries.{lookup_inserted}
use Rattle.plan_law.proofs.Codes.{layouts_are_codes}
use Rattle.file_simulation.specs.Calls.{HeldIs, IsClient}
use Rattle.file_simulation.specs.ClientEvents as table
use Rattle.file_simulation.specs.ClientEvents.{Going, going_in}
use Rattle.file_simulation.specs.Relation.{client_of}
use Rattle.file_simulation.specs.Requests.{kept_by, kept_for, RequestsAgree}
use Rattle.file_simulation.specs.Showing.{Pairs}
use Rattle.relation_law.specs.CallsCases.{IsUnheld}
use Rattle.relation_law.specs.CallsFits.{AnswerFits}
use Rattle.relation_law.specs.CallsTurns.{IsWorking}
use Rattle.relation_law.specs.Frames.{ByClient}
use Rattle.relation_law.specs.RequestsClients.{AsksFor}
use Rattle.relation_law.specs.Returns.{CantBeBorne, CallReports, EndsBadly, report_read}
use Rattle.relation_law.proofs.CallsFitting.{answer_fits}
use Rattle.relation_law.proofs.KeptGoing.{safe_of}
use Rattle.relation_law.proofs.MessagesClients.{GathersFor}
use Rattle.relation_law.proofs.MessagesRun.{CallFits, IsFine}
use Rattle.relation_law.proofs.RequestsClients.{clients_ask_for}
use Rattle.relation_law.proofs.RequestsReturns.{HeldLaws, no_unheld}
use Rattle.relation_law.proofs.ReturnsStands.{Reports, always_fine, reports_stand}
use Rattle.relation_law.proofs.SomeWrites.{some_stores}
use Rattle.file_simulation.specs.Tied.{AreTied, CallTied}
use Rattle.headline_law.specs.Parts.{CutShown}
use Rattle.headline_law.proofs.EntriesActs.{never_resends}
use Rattle.headline_law.proofs.EntriesClient.{head_log, told_of}
use Rattle.headline_law.proofs.EntriesClients.{ClientLaws, TurnsAreTied, by, then_, low, agrees, call_tied}
use Rattle.headline_law.proofs.EntriesDone.{HoldsFor}
use Rattle.headline_law.proofs.EntriesEach.{turn_tied}
use Rattle.headline_law.proofs.EntriesMoved.{GathersSome, TimedSome}
use Rattle.headline_law.proofs.EntriesReach.{taken_free}
use Rattle.headline_law.proofs.EntriesRest.{none_logged}
use Rattle.headline_law.proofs.EntriesTurns.{TurnTied}
use Rattle.headline_law.proofs.EntriesWalk.{WalkFacts}

-- The commands of a turn, of which a line is there, go out under the grant that the machine's client holds.
abbrev pub CommandsAreHeld : Type 0
CommandsAreHeld =
    (w : World) (h : List Line) (m : Move) (count : ℕ) (f g : File) (s : State) (pairs : Pairs) →
    CutShown w h m count f g s pairs → AreTied w h s f.kept.number pairs → 0 < count → (j : Going) →
    going_in w m.action ≡ Some j →
    (call : Call) → (step j.state j.input).client.call ≡ Some call → (file_of call.op == f.kept.number) ≡ true →
    IsWorking call.phase → (rs : List RecallAnswer) (qs : List Request) (cs : List Awaited) →
    (step j.state j.input).sends ≡ map AnswersRecall rs ++ (map Asks qs ++ map to_drive cs) →
    HoldsFor f.kept.number j.client (after_all s (table.at_first s f.kept.number j.client j.state j.input)) pairs
    (entry_in (at_number (head_log j.client j.input (moment_of h).log).pending j.client)) (op_in j.state j.input)
    (step j.state j.input).client call cs

-- what is known of the world
pub record TurnLaws : Type 0 where
  pub client : ClientLaws
  pub held : HeldLaws

-- and of the commands of turns
pub record FactLaws : Type 0 where
  pub client : ClientLaws
  pub held : HeldLaws
  pub commands : CommandsAreHeld

abbrev pub turn_laws : FactLaws → TurnLaws
turn_laws laws = record { client = laws.client; held = laws.held }

module _ (laws : TurnLaws) (w : World) (h : List Line) (m : Move) (count : ℕ) (f g : File) (s : State) (pairs : Pairs)
    (k : CutShown w h m count f g s pairs) (tied : AreTied w h s f.kept.number pairs) (j : Going)
    (goes : going_in w m.action ≡ Some j) where
  abbrev file_ : ℕ
  file_ = f.kept.number

  abbrev c_ : ℕ
  c_ = j.client

  abbrev x_ : Client
  x_ = j.state

  abbrev t_ : Option Slot
  t_ = slot_of w.server.slots c_

  abbrev l_ : Log
  l_ = (moment_of h).log

  abbrev o_ : Option ℕ
  o_ = entry_in (at_number (head_log j.client j.input (moment_of h).log).pending j.client)

  pub its : ByClient w m.action j (acts w m.chosen m.action)
  its = by laws.client w h m count f g s pairs k tied j goes

  pub same : client_of w c_ ≡ x_
  same = then_ laws.client w h m count f g s pairs k tied j goes

  low_ : c_ < CLIENTS
  low_ = low laws.client w h m count f g s pairs k tied j goes

  pub text : AreOfText h
  text = text_front h (take count (lines_in w m)) k.shown.follows.calm.scenario.text

  few : AreFew h
  few = fewer h (take count (lines_in w m)) k.shown.follows.calm.scenario.few

  pub through : IsReadableThrough h
  through = laws.held.right.readable h (lawful_at w h k.shown.follows.moment) text few

  pub readable : IsReadable w
  readable = readable_there w h k.shown.follows.moment through

  pub agree : RequestsAgree file_ f.kept.map s w.server c_ x_
  agree =
      subst (λ (z : Client). RequestsAgree file_ f.kept.map s w.server c_ z) same (k.shown.follows.related.clients c_ low_).slot

  pub is_client : IsClient file_ f.kept.map s c_ x_ (kept_for t_ x_.outstanding)
  is_client =
      subst (λ (z : Client). IsClient file_ f.kept.map s c_ z (kept_for t_ z.outstanding)) same
      (k.shown.follows.related.clients c_ low_).client

  pub met : IsMet w.server c_ x_
  met = subst (IsMet w.server c_) same (laws.held.right.world.agree w h k.shown.follows.moment through c_)

  pub asks : AsksFor x_
  asks = subst AsksFor same (clients_ask_for w (reached w h k.shown.follows.moment) c_)

  pub reports : Reports w.server c_ x_
  reports = subst (Reports w.server c_) same (reports_stand laws.held.right.world w h k.shown.follows.moment through c_)

  pub safe : Safe s
  safe =
      let checked : IsChecked f.kept.map = (readable.files file_ f k.shown.follows.there).map in
      safe_of s k.shown.follows.run
      (subst IsCode (sym k.shown.follows.related.layout) (layouts_are_codes f.kept.map f.kept.first_tag checked))

  pub fine : IsFine x_
  fine =
      subst IsFine (sym its.state_is)
      (clients_always (λ n y. IsFine y) always_fine w (reached w h k.shown.follows.moment) j.client its.before its.found)

  -- a call that works holds a grant
  pub unheld_ : IsUnheld x_ j.input → ⊥
  unheld_ = no_unheld w.server c_ x_ j.input met

  -- the answer that is taken is the one that the server keeps for the outstanding request
  pub kept_it : (from : Node) (b : Message) (a : Answer) → j.input ≡ Hears from b → takes x_ from b ≡ Some (TakesAnswer a)
      → (r : Request) → x_.outstanding ≡ Some r → kept_by t_ r ≡ Some a
  kept_it from b a is took r out =
      let heard : IsForClient w m.action c_ its.before (Hears from b) =
      subst (IsForClient w m.action c_ its.before) is its.input_is in
      let d = heard.0 in
      let took_it : takes its.before.state d.posted.message.from b ≡ Some (TakesAnswer a) =
      ap (λ (n : Node). takes its.before.state n b) (sym heard.1) ∙ ap (λ (z : Client). takes z from b) (sym its.state_is)
      ∙ took in
      let own : TakesOwn w h c_ its.before.state d.posted a =
      laws.held.own w h k.shown.follows.moment c_ its.before its.found d.number d.posted d.there d.receiver b a heard.2 took_it in
      let same : own.request ≡ r =
      cc (sym own.outstanding ∙ ap (λ (z : Client). z.outstanding) (sym its.state_is) ∙ out) in
      ap (λ (o : Option Slot). kept_by o r) own.kept
      ∙ ap (λ (z : Bool). if z then Some own.slot.kept else None)
      (eq-eqb own.slot.last r.sequence (own.last ∙ ap (λ (z : Request). z.sequence) same))
      ∙ ap (λ (z : Answer). Some z) (sym (own.exact (readable.answers c_ own.slot own.kept)))

  pub answered_ : (a : Answer) (r : Request) → AnswerComes x_ j.input a → x_.outstanding ≡ Some r → AnswerFits file_ x_ a r
  answered_ a r n out =
      answer_fits file_ w.server c_ x_ r out a (kept_it n.from n.message a n.is n.takes_it r out) asks met
      (λ (op : CallOp) (report : List IoErr). CantBeBorne w.server c_ (file_of op) (report_read report)) reports

  closed_ : (op : CallOp) (u : Outcome) (report : List IoErr) →
      x_.call ≡ Some (record { op = op; phase = Waits (Close u report) }) → EndsBadly u
  closed_ op u report is =
      (subst (CallReports (λ (p : CallOp) (q : List IoErr). CantBeBorne w.server c_ (file_of p) (report_read q)) x_.held) is
      reports).reports.0

  size_ : (hh : Held) → held_of x_.held file_ ≡ Some hh → s.known_size c_ ≡ hh.size
  size_ hh has =
      let held : HeldIs file_ f.kept.map s c_ x_ (kept_for t_ x_.outstanding) (Some hh) =
      subst (HeldIs file_ f.kept.map s c_ x_ (kept_for t_ x_.outstanding)) has is_client.held in
      held.size

  gathers_ : (call : Call) (hh : Held) → x_.call ≡ Some call → held_of x_.held (file_of call.op) ≡ Some hh →
      GathersSome hh call.op call.phase
  gathers_ call hh is has = at call.phase refl
    where
      at : (p : Phase) → call.phase ≡ p → GathersSome hh call.op p
      at (Gathers io) e =
          let all : CallFits x_.held (Some call) = subst (CallFits x_.held) is fine.call in
          let for_ : GathersFor hh call.op io = rw e at (all.1 hh has) in
          λ got empty. some_stores hh.map (span_of call.op) (outs hh io.timed) (fine.usable (file_of call.op) hh has).checked
          for_.some.some for_.ready.can (bytes_of call.op) got empty
      at Starts e = tt
      at (Needs n) e = tt
      at (Waits n) e = tt
      at (Reads io) e = tt
      at (Probes io) e = tt
      at (Scatters io queue) e = tt

  times_ : (call : Call) (hh : Held) (a : Awaited) (xs : List Awaited) → x_.call ≡ Some call →
      held_of x_.held (file_of call.op) ≡ Some hh → TimedSome hh call.op call.phase a xs
  times_ call hh a xs is has = at call.phase refl
    where
      at : (p : Phase) → call.phase ≡ p → TimedSome hh call.op p a xs
      at (Gathers io) e =
          let all : CallFits x_.held (Some call) = subst (CallFits x_.held) is fine.call in
          let for_ : GathersFor hh call.op io = rw e at (all.1 hh has) in
          λ enough got empty. some_stores hh.map (span_of call.op) (outs hh (timed_after io.timed a xs))
          (fine.usable (file_of call.op) hh has).checked for_.some.some
          (long_enough hh call.op (timed_after io.timed a xs) enough) (bytes_of call.op) got empty
      at Starts e = tt
      at (Needs n) e = tt
      at (Waits n) e = tt
      at (Reads io) e = tt
      at (Probes io) e = tt
      at (Scatters io queue) e = tt

  -- no client that goes on sends its messages again
  pub never : j.input ≡ Resends → ⊥
  never = never_resends w m.chosen m.action j goes

  -- ---- the call's entry

  module _ (commands : CommandsAreHeld) (some : 0 < count)
      (taken : (op : CallOp) → j.input ≡ Calls op → (d : Step) × (calls j.state op ≡ Ok d)) where
    free : (op : CallOp) → j.input ≡ Calls op → x_.call ≡ None
    free op is = let d = taken op is in taken_free x_ op d.0 d.1

    fresh_ : (op : CallOp) → j.input ≡ Calls op → (o_ ≡ None) × (x_.call ≡ None)
    fresh_ op is =
        let none : at_number l_.pending c_ ≡ None =
        none_logged (at_number l_.pending c_)
        (agrees laws.client w h m count f g s pairs k tied j goes ∙ ap (option_map (λ (y : Call). y.op)) (free op is)) in (
          ap (λ (i : Input). entry_in (at_number (head_log c_ i l_).pending c_)) is
              ∙ ap (λ (o : Option Pending). entry_in (at_number (called_beside l_ c_ (told_of op) o).pending c_)) none
              ∙ ap entry_in (lookup_inserted l_.pending c_ _),
          free op is,
        )

    tie : CallTied s file_ c_ pairs o_ x_.call
    tie = by_input j.input refl
      where
        it : CallTied s file_ c_ pairs (entry_in (at_number l_.pending c_)) x_.call
        it = call_tied laws.client w h m count f g s pairs k tied j goes

        by_input : (i : Input) → j.input ≡ i → CallTied s file_ c_ pairs (entry_in (at_number
            (head_log c_ i l_).pending c_)) x_.call
        by_input (Calls op) is =
            subst (λ (o : Option Call). CallTied s file_ c_ pairs (entry_in (at_number (head_log c_ (Calls op) l_).pending c_)) o)
            (sym (free op is)) tt
        by_input (Hears n b) is = it
        by_input (TimesOut n) is = it
        by_input Leaves is = it
        by_input Resends is = it

    facts : (j.input ≡ Resends → ⊥) →
        WalkFacts file_ f.kept.map s c_ x_ j.input pairs o_ (kept_for t_ x_.outstanding)
    facts again = record {
      tie = tie;
      fresh = fresh_;
      again = again;
      fine = fine;
      formed = safe.formed;
      call = is_client.call;
      size = size_;
      unheld = unheld_;
      answered = answered_;
      closed = closed_;
      gathers = gathers_;
      times = times_;
      commands = commands w h m count f g s pairs k tied some j goes;
    }

    tied_so : TurnTied file_ c_ (after_all s (table.at_first s file_ c_ x_ j.input)) pairs o_ (op_in x_ j.input)
        (step x_ j.input)
    tied_so = by_input j.input refl
      where
        other : (i : Input) → j.input ≡ i → (i ≡ Resends → ⊥) →
            TurnTied file_ c_ (after_all s (table.at_first s file_ c_ x_ j.input)) pairs o_ (op_in x_ j.input) (step x_ j.input)
        other i is none =
            turn_tied file_ f.kept.map s c_ x_ j.input pairs o_ (kept_for t_ x_.outstanding) (facts (λ e. none (sym is ∙ e)))

        by_input : (i : Input) → j.input ≡ i →
            TurnTied file_ c_ (after_all s (table.at_first s file_ c_ x_ j.input)) pairs o_ (op_in x_ j.input) (step x_ j.input)
        by_input (Calls op) is = other (Calls op) is (λ e. cc e)
        by_input (Hears n b) is = other (Hears n b) is (λ e. cc e)
        by_input (TimesOut n) is = other (TimesOut n) is (λ e. cc e)
        by_input Leaves is = other Leaves is (λ e. cc e)
        by_input Resends is = absurd (never is)

-- Each turn is tied.
pub turns_are_tied : FactLaws → TurnsAreTied
turns_are_tied laws w h m count f g s pairs k tied some j goes taken =
    tied_so (turn_laws laws) w h m count f g s pairs k tied j goes laws.commands some taken
