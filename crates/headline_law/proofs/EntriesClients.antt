-- Each cut of a move of a client shows the entries of a file, if its turn is tied to them.
-- Towards `CutsShowEntries` (`specs/Parts.antt`).
use Rattle.std.proofs.Common.{◌≡◌, ◌<◌, ℕ, Bool, true, List, [], filter, length, take, Some, Ok, refl, sym, ap, subst, ◌∙◌}
use Rattle.std.specs.List.{fold}
use Rattle.scenario_text.specs.declared.line.Delivery.TheVariants as delivery
use Rattle.scenario_text.specs.declared.line.Line.{Line}
use Rattle.scenario_text.specs.declared.event.Event.TheVariants as scenario
use Rattle.scenario_text.specs.declared.names.TheConstants.{CLIENTS}
use Rattle.client_rules.specs.History.{Calls, step}
use Rattle.client_rules.specs.Messages.{Step}
use Rattle.client_rules.specs.Steps.{calls}
use Rattle.world_history.specs.ClientNames.{Client, CallOp, Outcome}
use Rattle.world_history.specs.Handed.{Post, is_addressed, client_posts, op_in, pending_op}
use Rattle.world_history.specs.Moves.{Action, Opens, Delivers, Pends, acts}
use Rattle.world_history.specs.Moves as moves
use Rattle.world_history.specs.Names.{is_tellable}
use Rattle.world_history.specs.ReadLog.{Pending, Log, log_after, entry_in}
use Rattle.world_history.specs.Calm.{moment_of}
use Rattle.world_history.specs.Sending.{Move, sent_lines}
use Rattle.world_history.specs.ServerNames.{File}
use Rattle.world_history.specs.State.{World, at_number}
use Rattle.history_law.specs.Moments.{IsMoment, with_event, lines_in}
use Rattle.history_law.specs.Moves.{front_of}
use Rattle.exchange_law.specs.Text.{AreOfText}
use Rattle.exchange_law.proofs.CountGrowing.{text_front}
use Rattle.fence_law.specs.Machine.{after_all}
use Rattle.fence_law.specs.State.{State}
use Rattle.file_simulation.proofs.Fronts.{move_begun}
use Rattle.file_simulation.specs.ClientEvents as table
use Rattle.file_simulation.specs.ClientEvents.{Going, going_in}
use Rattle.file_simulation.specs.Relation.{client_of}
use Rattle.file_simulation.specs.Showing.{Pairs}
use Rattle.name_law.specs.ClientSends.{ClientsSendToNamed}
use Rattle.name_law.specs.ClientTells.{OutcomesOfTextAreTold, CallsOfTextArePending}
use Rattle.relation_law.specs.Frames.{ByClient}
use Rattle.exchange_law.specs.Pending.{logged_op}
use Rattle.relation_law.specs.Steps.{owed, behind}
use Rattle.relation_law.proofs.FramesParties as parties
use Rattle.relation_law.proofs.KeptCommits.{client_low}
use Rattle.headline_law.specs.Parts.{CutShown, EntriesShown, lines_to, cut_at}
use Rattle.file_simulation.specs.Tied.{AreTied, CallTied, IsSingle}
use Rattle.headline_law.proofs.EntriesActs.{ActsSo, Turns, Refuses, acts_so}
use Rattle.headline_law.proofs.EntriesCalls.{Stands}
use Rattle.headline_law.proofs.EntriesClient.{head_log, none_front, none_more, none_end, none_sent}
use Rattle.headline_law.proofs.EntriesReach.{MoveReaches, client_reaches}
use Rattle.headline_law.proofs.EntriesRead.{NoneTaken, begun_untold}
use Rattle.headline_law.proofs.EntriesShown.{ReadingLaws, shown_of, pending_there, well_there, stands_there}
use Rattle.headline_law.proofs.EntriesTurns.{TurnTied}

-- what is known of clients' moves
pub record ClientLaws : Type 0 where
  pub reading : ReadingLaws
  pub calls : CallsOfTextArePending
  pub told : OutcomesOfTextAreTold
  pub named : ClientsSendToNamed

-- Each turn of a client, of which a line is there, is tied to the entries of a file.
abbrev pub TurnsAreTied : Type 0
TurnsAreTied =
    (w : World) (h : List Line) (m : Move) (count : ℕ) (f g : File) (s : State) (pairs : Pairs) →
    CutShown w h m count f g s pairs → AreTied w h s f.kept.number pairs → 0 < count → (j : Going) →
    going_in w m.action ≡ Some j → ((op : CallOp) → j.input ≡ Calls op → (d : Step) × (calls j.state op ≡ Ok d)) →
    TurnTied f.kept.number j.client (after_all s (table.at_first s f.kept.number j.client j.state j.input)) pairs
    (entry_in (at_number (head_log j.client j.input (moment_of h).log).pending j.client)) (op_in j.state j.input)
    (step j.state j.input)

-- ---- no answer of the server stands there

front_none : (a : Action) → NoneTaken (front_of a delivery.Taken)
front_none (Opens (scenario.Deliver n)) = (refl, tt)
front_none (Opens (scenario.Timeout c k)) = (refl, tt)
front_none (Opens e) = tt
front_none (Delivers n) = (refl, tt)
front_none (moves.TimesOut c k) = (refl, tt)
front_none (Pends c) = tt

event_none : (a : Action) (ls : List Line) → NoneTaken ls → NoneTaken (with_event a ls)
event_none (Opens e) ls n = (refl, n)
event_none (Delivers k) ls n = n
event_none (moves.TimesOut c k) ls n = n
event_none (Pends c) ls n = n

module _ (laws : ClientLaws) (w : World) (h : List Line) (m : Move) (count : ℕ) (f g : File) (s : State)
    (pairs : Pairs) (k : CutShown w h m count f g s pairs) (tied : AreTied w h s f.kept.number pairs) (j : Going)
    (goes : going_in w m.action ≡ Some j) where
  abbrev moment : IsMoment w h
  moment = k.shown.follows.moment

  pub by : ByClient w m.action j (acts w m.chosen m.action)
  by = parties.client_goes w h k.shown.follows.moment m k.shown.follows.is_due j goes

  pub then_ : client_of w j.client ≡ j.state
  then_ = parties.client_before w m.action j (acts w m.chosen m.action) by

  pub text : AreOfText h
  text = text_front h (take count (lines_in w m)) k.shown.follows.calm.scenario.text

  pub low : j.client < CLIENTS
  low = client_low w h moment text j.client by.before by.found

  pub out : (wrote : Bool) (logged : ℕ) →
      filter is_addressed (client_posts j.client wrote logged (step j.state j.input).sends)
      ≡ client_posts j.client wrote logged (step j.state j.input).sends
  out wrote logged =
      subst (λ (x : Client). filter is_addressed (client_posts j.client wrote logged (step x j.input).sends)
      ≡ client_posts j.client wrote logged (step x j.input).sends) (sym by.state_is)
      ((laws.named w h moment j.client by.before by.found j.input).all wrote logged)

  tellable : (u : Outcome) → (step j.state j.input).outcome ≡ Some u → is_tellable u ≡ true
  tellable u is =
      laws.told w h moment text m k.shown.follows.is_due j.client by.before by.found j.input by.input_is u
      (subst (λ (x : Client). (step x j.input).outcome ≡ Some u) by.state_is is)

  abbrev l : Log
  l = (moment_of h).log

  pub agrees : logged_op (at_number (moment_of h).log.pending j.client) ≡ pending_op j.state
  agrees =
      ap (λ (ps : List (ℕ × Pending)). logged_op (at_number ps j.client))
      (pending_there laws.reading w h m count f g s pairs k)
      ∙ laws.calls w h moment text j.client ∙ ap pending_op then_

  pub call_tied : CallTied s f.kept.number j.client pairs (entry_in (at_number (moment_of h).log.pending j.client)) j.state.call
  call_tied =
      subst (λ (x : Client). CallTied s f.kept.number j.client pairs (entry_in (at_number
      (moment_of h).log.pending j.client)) x.call)
      then_
      (subst (λ (ps : List (ℕ × Pending)). CallTied s f.kept.number j.client pairs (entry_in (at_number ps j.client))
      (client_of w j.client).call) (sym (pending_there laws.reading w h m count f g s pairs k)) (tied.calls j.client low))

  -- ---- its lines, if its turn is tied

  module _ (turns : TurnsAreTied) (some : 0 < count) where
    abbrev pub reached_so : Type 0
    reached_so =
        MoveReaches w m j goes (owed k.shown.follows.related) f s (moment_of h).log pairs
        (stands_there laws.reading w h m count f g s pairs k tied)
        (well_there laws.reading w h m count f g s pairs k) agrees count

    pub reached : MoveReaches w m j goes (owed k.shown.follows.related) f s (moment_of h).log pairs
        (stands_there laws.reading w h m count f g s pairs k tied)
        (well_there laws.reading w h m count f g s pairs k) agrees count
    reached =
        client_reaches w m j goes (owed k.shown.follows.related) f s (moment_of h).log pairs
        (stands_there laws.reading w h m count f g s pairs k tied) (well_there laws.reading w h m count f g s pairs k) agrees out
        tellable (λ taken. turns w h m count f g s pairs k tied some j goes taken) call_tied count

    -- ---- the log at the cut

    none_lines : NoneTaken (lines_in w m)
    unfolding sent_lines
    none_lines = by_acts (acts_so w m.chosen m.action j goes)
      where
        by_acts : ActsSo m.action j (acts w m.chosen m.action) → NoneTaken (lines_in w m)
        by_acts (Turns other taken wrote logged told posts) =
            event_none m.action _
            (none_more (acts w m.chosen m.action).told _
            (subst NoneTaken (sym told)
            (none_more (front_of m.action delivery.Taken) _ (front_none m.action)
            (none_end j.client (op_in j.state j.input) (step j.state j.input).outcome)))
            (subst (λ (ps : List Post). NoneTaken (sent_lines (length (acts w m.chosen m.action).world.network.messages) ps))
            (sym (posts ∙ out wrote logged))
            (none_sent j.client (length (acts w m.chosen m.action).world.network.messages) wrote logged
            (step j.state j.input).sends)))
        by_acts (Refuses op err is refuses front told posts) =
            event_none m.action _
            (none_more (acts w m.chosen m.action).told _ (subst NoneTaken (sym told) (refl, tt))
            (subst (λ (ps : List Post). NoneTaken (sent_lines (length (acts w m.chosen m.action).world.network.messages) ps))
            (sym posts) (no_posts (length (acts w m.chosen m.action).world.network.messages))))
          where
            no_posts : (n : ℕ) → NoneTaken (sent_lines n [])
            no_posts n = tt

    pub log_is : (moment_of (lines_to w h m count)).log ≡ fold log_after (moment_of h).log (take count (lines_in w m))
    log_is =
        begun_untold laws.reading.moments laws.reading.pending h (take count (lines_in w m)) (move_begun w m count)
        (none_front count (lines_in w m) none_lines)

    -- Its cut shows the entries, by these pairs.
    pub shows_by : (z : EntriesShown (lines_to w h m count) (cut_at k.shown.follows) f.kept.number pairs)
        × (z.pairs ≡ reached.0.pairs)
    shows_by =
        shown_of laws.reading w h m count f g s pairs k reached.0.pairs reached.0.more
        (subst (λ (q : Log). Stands f.kept.number (behind k.shown.follows.related m count) q reached.0.pairs) (sym log_is)
        reached.0.stands)

    -- Its cut shows the entries.
    abbrev pub client_shows : EntriesShown (lines_to w h m count) (cut_at k.shown.follows) f.kept.number pairs
    client_shows = shows_by.0

    pub shows_single : IsSingle client_shows.pairs
    shows_single = subst IsSingle (sym shows_by.1) reached.0.stands.single
