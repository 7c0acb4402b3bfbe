-- Behind a whole move of a client its pairs are tied.
-- Towards `CutsKeepEntries` (`specs/EntriesTied.antt`).
use Rattle.std.proofs.Common.{◌≡◌, ◌<◌, ◌++◌, ℕ, List, length, take, Option, Some, None, refl, sym, ap, subst, ◌∙◌, inl, inr, arith}
use Rattle.std.specs.List.{fold}
use Rattle.std.proofs.lemmas.Bool.{cases_eq}
use Rattle.std.proofs.lemmas.List.{take_all}
use Rattle.layout_ops.specs.declared.messages.Request.{Request}
use Rattle.scenario_text.specs.declared.line.Line.{Line}
use Rattle.scenario_text.specs.declared.names.TheConstants.{CLIENTS}
use Rattle.server_rules.specs.Laws.{In}
use Rattle.server_rules.specs.Slots.{slot_of}
use Rattle.client_rules.specs.History.{step}
use Rattle.world_history.specs.Calm.{moment_of}
use Rattle.world_history.specs.ClientNames.{Client, Call}
use Rattle.world_history.specs.Moves.{acts}
use Rattle.world_history.specs.ReadLog.{Pending, Log, log_after, log_in, entry_in}
use Rattle.world_history.specs.Sending.{Move, move}
use Rattle.world_history.specs.ServerNames.{Server, File, Slot}
use Rattle.world_history.specs.State.{World, at_number}
use Rattle.history_law.specs.Moments.{IsMoment, lines_in}
use Rattle.history_law.proofs.Ending.{next_moment}
use Rattle.exchange_law.specs.InStep.{ClientsAreInStep, IsAwaiting, StandsAt}
use Rattle.exchange_law.specs.Meeting.{KeptGood, IsMet, IsReadableThrough}
use Rattle.exchange_law.proofs.ClientMoves.{clients_always}
use Rattle.exchange_law.proofs.Knowing.{lawful_at}
use Rattle.exchange_law.specs.Messages.{last_before}
use Rattle.exchange_law.specs.Requests.{OneRequest}
use Rattle.exchange_law.proofs.CountMoments.{reached}
use Rattle.fence_law.specs.Machine.{Lawful as IsLawfulRun, after_all}
use Rattle.fence_law.specs.State.{State, Event}
use Rattle.fence_law.specs.Words.{In as InRun}
use Rattle.fence_law.proofs.Safe.{Safe}
use Rattle.file_simulation.specs.ClientEvents.{Going, going_in}
use Rattle.file_simulation.specs.EventLists.{entry_in as at_entry}
use Rattle.file_simulation.specs.Events.{joined, events_of}
use Rattle.file_simulation.specs.Claim.{IsCalmHistory, IsOfScenario}
use Rattle.file_simulation.specs.Relation.{IsRelated, client_of}
use Rattle.file_simulation.specs.Requests.{kept_for}
use Rattle.file_simulation.specs.Calls.{IsClient}
use Rattle.file_simulation.specs.Showing.{Pairs}
use Rattle.file_simulation.specs.Tied.{AreTied, CallTied, HasAsked, IsOver}
use Rattle.relation_law.specs.CallsFrames.{IsSpared}
use Rattle.relation_law.specs.Frames.{AreAll, IsOfClient, ByClient, ServerStays}
use Rattle.relation_law.specs.Steps.{Follows, FollowsWhole, CallsGoOn, behind, owed, whole_behind}
use Rattle.relation_law.proofs.CallsFrames.{spares_all}
use Rattle.relation_law.proofs.CallsOthers.{beside_client, beside_all}
use Rattle.relation_law.proofs.MessagesRun.{IsFine}
use Rattle.relation_law.proofs.ReturnsStands.{always_fine}
use Rattle.relation_law.proofs.FramesFiles.{file_stays}
use Rattle.relation_law.proofs.FramesParties as parties
use Rattle.relation_law.proofs.FramesStay.{all_joined, lines_taken, server_stays_all}
use Rattle.headline_law.specs.Parts.{CutShown, EventsHaveLines, lines_to, cut_at}
use Rattle.headline_law.proofs.EntriesBehind.{call_stays, call_more, over_there}
use Rattle.headline_law.proofs.EntriesBehindAsked.{asked_or_sent, outstanding_is_asked}
use Rattle.headline_law.proofs.EntriesBehindBeside.{AllFor, all_for, move_for}
use Rattle.headline_law.proofs.EntriesBehindOthers.{cut_tied}
use Rattle.headline_law.proofs.EntriesBehindOver.{IsOverIn, over_all}
use Rattle.headline_law.proofs.EntriesBehindOwn.{working_kind, sent_tied, call_here, new_unserved}
use Rattle.headline_law.proofs.EntriesClients as clients
use Rattle.headline_law.proofs.EntriesCuts.{ClientsKeepTied}
use Rattle.headline_law.proofs.EntriesFacts.{FactLaws, safe, turns_are_tied}
use Rattle.headline_law.proofs.EntriesRead.{cut_plain}
use Rattle.headline_law.proofs.EntriesShown.{pending_there}

-- what is known of the world, and of the machine behind the move
pub record BehindLaws : Type 0 where
  pub one : OneRequest
  pub in_step : ClientsAreInStep
  pub lines : EventsHaveLines
  pub calls : CallsGoOn

-- ---- the whole move

-- the move is followed whole
record WholeAt (w : World) (h : List Line) (m : Move) (count : ℕ) (f g : File) (s : State)
    (related : IsRelated s w f) : Type 0 where
  pub whole : FollowsWhole w h m f g s
  pub same : whole_behind whole ≡ behind related m count

whole_at : EventsHaveLines → (w : World) (h : List Line) (m : Move) (count : ℕ) (f g : File) (s : State) →
    (k : Follows w h m count f g s) → IsLawfulRun s (joined (take count (events_of s w (owed k.related) f m))) →
    length (lines_in w m) ≡ count → WholeAt w h m count f g s k.related
whole_at laws w h m count f g s k lawful full =
    let all : Follows w h m (length (lines_in w m)) f g s = record {
      moment = k.moment;
      is_due = k.is_due;
      text = k.text;
      room = k.room;
      calm = subst (λ (n : ℕ). IsCalmHistory (h ++ take n (lines_in w m))) (sym full) k.calm;
      there = k.there;
      goes = k.goes;
      run = k.run;
      related = k.related;
    } in
    let events : joined (take count (events_of s w (owed k.related) f m)) ≡ joined (events_of s w (owed k.related) f m) =
    ap (λ (n : ℕ). joined (take n (events_of s w (owed k.related) f m))) (sym full)
    ∙ laws w h m f g s (owed k.related) all in
    record {
      whole = record { follows = all; lawful = subst (IsLawfulRun s) events lawful };
      same = ap (after_all s) (sym events);
    }

module _ (facts : FactLaws) (laws : BehindLaws) (w : World) (h : List Line) (m : Move) (count : ℕ) (f g : File) (s : State)
    (pairs : Pairs) (k : CutShown w h m count f g s pairs) (tied : AreTied w h s f.kept.number pairs) (j : Going)
    (goes : going_in w m.action ≡ Some j) (some : 0 < count) (full : count ≡ length (lines_in w m)) where
  abbrev v : World
  v = (move w m).world

  abbrev t : State
  t = behind k.shown.follows.related m count

  abbrev es : List Event
  es = joined (take count (events_of s w (owed k.shown.follows.related) f m))

  abbrev r : clients.reached_so facts.client w h m count f g s pairs k tied j goes (turns_are_tied facts) some
  r = clients.reached facts.client w h m count f g s pairs k tied j goes (turns_are_tied facts) some

  abbrev more : Pairs
  more = r.0.pairs

  by : ByClient w m.action j (acts w m.chosen m.action)
  by = clients.by facts.client w h m count f g s pairs k tied j goes

  mine : AreAll (IsOfClient j.client) es
  mine =
      all_joined (IsOfClient j.client) (take count (events_of s w (owed k.shown.follows.related) f m))
      (lines_taken (IsOfClient j.client) count (events_of s w (owed k.shown.follows.related) f m)
      (parties.by_client_lines s w (owed k.shown.follows.related) f m j goes))

  safe_ : Safe s
  safe_ = safe (record { client = facts.client; held = facts.held }) w h m count f g s pairs k tied j goes

  server : v.server ≡ w.server
  server = parties.server_rests w m (parties.client_alone w m.action j goes)

  next : IsMoment v (h ++ lines_in w m)
  next = next_moment w h k.shown.follows.moment m k.shown.follows.is_due

  -- ---- the log

  abbrev q : Log
  q = fold log_after (moment_of h).log (take count (lines_in w m))

  pending : (log_in (lines_to w h m count)).pending ≡ q.pending
  pending =
      ap (λ (l : Log). l.pending)
      (sym (cut_plain facts.client.reading.moments facts.client.reading.pending facts.client.reading.lines
      facts.client.reading.more w h k.shown.follows.moment m count))
      ∙ ap (λ (l : Log). l.pending)
      (clients.log_is facts.client w h m count f g s pairs k tied j goes (turns_are_tied facts) some)

  all_lines : take count (lines_in w m) ≡ lines_in w m
  all_lines = take_all count (lines_in w m) (omega (arith, full))

  -- ---- the client that goes on

  low_ : j.client < CLIENTS
  low_ = clients.low facts.client w h m count f g s pairs k tied j goes

  is_client : IsClient f.kept.number g.kept.map t j.client (step j.state j.input).client
      (kept_for (slot_of v.server.slots j.client) (step j.state j.input).client.outstanding)
  is_client =
      let z : WholeAt w h m count f g s k.shown.follows.related =
      whole_at laws.lines w h m count f g s k.shown.follows k.lawful (sym full) in
      let number : g.kept.number ≡ f.kept.number =
      (file_stays w h k.shown.follows.moment m k.shown.follows.is_due f.kept.number f g k.shown.follows.there
      k.shown.follows.goes).same.number in
      subst (λ (n : ℕ). IsClient n g.kept.map t j.client (step j.state j.input).client
      (kept_for (slot_of v.server.slots j.client) (step j.state j.input).client.outstanding)) number
      (subst (λ (u : State). IsClient g.kept.number g.kept.map u j.client (step j.state j.input).client
      (kept_for (slot_of v.server.slots j.client) (step j.state j.input).client.outstanding)) z.same
      (subst (λ (x : Client). IsClient g.kept.number g.kept.map (whole_behind z.whole) j.client x
      (kept_for (slot_of v.server.slots j.client) x.outstanding)) (parties.client_behind w m j by)
      (laws.calls w h m f g s z.whole j.client low_)))

  -- the client is as clients are
  fine : IsFine (step j.state j.input).client
  fine =
      subst IsFine by.behind
      (clients_always (λ n y. IsFine y) always_fine v (reached v (h ++ lines_in w m) next) j.client by.after by.mine)

  through : IsReadableThrough (h ++ lines_in w m)
  through =
      let scenario : IsOfScenario (h ++ lines_in w m) =
      subst (λ (ls : List Line). IsOfScenario (h ++ ls)) all_lines k.shown.follows.calm.scenario in
      facts.held.right.readable (h ++ lines_in w m) (lawful_at v (h ++ lines_in w m) next) scenario.text scenario.few

  met : IsMet v.server j.client (step j.state j.input).client
  met =
      subst (IsMet v.server j.client) (parties.client_behind w m j by)
      (facts.held.right.world.agree v (h ++ lines_in w m) next through j.client)

  own : CallTied t f.kept.number j.client more (entry_in (at_number q.pending j.client)) (step j.state j.input).client.call
  own = by_call (step j.state j.input).client.call refl
    where
      by_call : (o : Option Call) → (step j.state j.input).client.call ≡ o →
          CallTied t f.kept.number j.client more (entry_in (at_number q.pending j.client)) o
      by_call None is = tt
      by_call (Some call) is = λ here. elim (r.1 (omega (arith, full)) call is here) [
        | inl z ↦ z
        | inr z ↦
            sent_tied g.kept.map j.client t more (entry_in (at_number q.pending j.client)) call.op
            (kept_for (slot_of v.server.slots j.client) (step j.state j.input).client.outstanding) call.phase z.0
            (working_kind (KeptGood v.server j.client) (step j.state j.input).client.held
            (step j.state j.input).client.outstanding (step j.state j.input).client.call call is z.0 fine.call met.call)
            (call_here f.kept.number g.kept.map t j.client
            (kept_for (slot_of v.server.slots j.client) (step j.state j.input).client.outstanding)
            (step j.state j.input).client.call call is here is_client.call) z.1
      ]

  -- ---- other clients

  beside : (c : ℕ) → (c ≡ j.client → ⊥) → CallTied t f.kept.number c more (entry_in (at_number q.pending c))
      (client_of w c).call → CallTied t f.kept.number c more (entry_in (at_number q.pending c)) (client_of v c).call
  beside c other =
      subst (λ (x : Client). CallTied t f.kept.number c more (entry_in (at_number q.pending c)) x.call)
      (sym (parties.client_beside w m j by c other))

  spared : (c : ℕ) → (c ≡ j.client → ⊥) → IsSpared s t c
  spared c other =
      spares_all c s es
      (beside_all c (IsOfClient j.client) (beside_client c j.client (λ e. other (sym e))) s es mine k.lawful safe_)

  others : (c : ℕ) → c < CLIENTS → (c ≡ j.client → ⊥) →
      CallTied t f.kept.number c more (entry_in (at_number q.pending c)) (client_of v c).call
  others c low other =
      let there : at_number q.pending c ≡ at_number (log_in h).pending c =
      all_for j.client (take count (lines_in w m))
      (subst (AllFor j.client) (sym all_lines)
      (move_for w m j goes (clients.out facts.client w h m count f g s pairs k tied j goes))) (moment_of h).log c other
      ∙ ap (λ (ps : List (ℕ × Pending)). at_number ps c) (pending_there facts.client.reading w h m count f g s pairs k) in
      beside c other
      (call_more t f.kept.number c pairs more (entry_in (at_number q.pending c)) (client_of w c).call r.0.more
      (call_stays s t f.kept.number c pairs (entry_in (at_number q.pending c)) (client_of w c).call (spared c other).last
      (ap at_entry (spared c other).call)
      (subst (λ (o : Option Pending). CallTied s f.kept.number c pairs (entry_in o) (client_of w c).call) (sym there)
      (tied.calls c low))))

  calls : (c : ℕ) → c < CLIENTS →
      CallTied t f.kept.number c more (entry_in (at_number (log_in (lines_to w h m count)).pending c)) (client_of v c).call
  calls c low =
      subst (λ (ps : List (ℕ × Pending)). CallTied t f.kept.number c more (entry_in (at_number ps c)) (client_of v c).call)
      (sym pending) (elim (cases_eq c j.client) [
        | inl same ↦
            subst (λ (n : ℕ). CallTied t f.kept.number n more (entry_in (at_number q.pending n)) (client_of v n).call) (sym same)
            (subst (λ (x : Client). CallTied t f.kept.number j.client more (entry_in (at_number q.pending j.client)) x.call)
            (sym (parties.client_behind w m j by)) own)
        | inr other ↦ others c low other
      ])

  -- ---- grants

  stays : ServerStays s t
  stays = server_stays_all j.client s es mine

  over_behind : (number : ℕ) → IsOver w s number → IsOver v t number
  over_behind number o =
      let z : IsOverIn t number = over_all number j.client s es mine k.lawful safe_ (record {
        acknowledged = o.acknowledged;
        unheld = o.unheld;
        untaken = o.untaken;
      }) in
      over_there w v t number server (record {
        low = o.low;
        acknowledged = z.acknowledged;
        unheld = z.unheld;
        untaken = z.untaken;
      })

  asked : (c : ℕ) (x : Request) (slot : Slot) → slot_of w.server.slots c ≡ Some slot → x.sequence ≡ slot.last →
      HasAsked v c x → HasAsked w c x
  asked c x slot is same i = elim (asked_or_sent laws.one w m c x i) [
    | inl old ↦ old
    | inr new ↦ elim new.from [
      | inl old ↦ outstanding_is_asked laws.one w (reached w h k.shown.follows.moment) c x old
      | inr number ↦
          let first : IsAwaiting (h ++ lines_in w m) c (slot_of v.server.slots c) (last_before (client_of v c).next) x =
          subst (StandsAt (h ++ lines_in w m) c (slot_of v.server.slots c) (last_before (client_of v c).next)) new.outstanding
          (laws.in_step v (h ++ lines_in w m) next c).stands in
          absurd (new_unserved h c (slot_of w.server.slots c) (client_of w c).next (client_of w c).outstanding slot x
          (laws.in_step w h k.shown.follows.moment c).stands is same first.first number)
    ]
  ]

  -- Behind the move all are tied.
  tied_behind : AreTied v (lines_to w h m count) t f.kept.number more
  tied_behind = record {
    single = r.0.stands.single;
    calls = calls;
    apart = λ a x i has y z there other held.
        tied.apart a x (subst (InRun a) stays.answers i) has y z (subst (λ (b : Server). In y b.files) server there) other held;
    over = λ c number slot x is taken had same returned.
        let before : slot_of w.server.slots c ≡ Some slot = sym (ap (λ (b : Server). slot_of b.slots c) server) ∙ is in
        over_behind number (tied.over c number slot x before taken (asked c x slot before same had) same returned);
  }

pub clients_keep_tied : (facts : FactLaws) → BehindLaws → ClientsKeepTied facts
clients_keep_tied facts laws w h m count f g s pairs k tied j goes some full =
    subst (AreTied (move w m).world (lines_to w h m count) (cut_at k.shown.follows) f.kept.number)
    (sym (clients.shows_by facts.client w h m count f g s pairs k tied j goes (turns_are_tied facts) some).1)
    (cut_tied w (move w m).world h (lines_to w h m count) m count f (behind k.shown.follows.related m count)
    (clients.reached facts.client w h m count f g s pairs k tied j goes (turns_are_tied facts) some).0.pairs
    (tied_behind facts laws w h m count f g s pairs k tied j goes some full))
