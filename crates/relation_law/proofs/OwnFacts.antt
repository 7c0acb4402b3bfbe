-- What a move of a calm history gives of the client that goes on: its call works as it should, and what its turn asks is there.
-- Towards `CallsGoOn` (`relation_law/specs/Steps.antt`).
use Rattle.std.proofs.Common.{◌≡◌, ◌==◌, ◌<◌, ◌≤◌, ◌+◌, ◌++◌, ◌^◌, ◌⊎◌, ℕ, true, false, List, [], ◌∷◌, Option, Some, None, refl, sym, ap, subst, ◌∙◌, inl, inr, arith}
use Rattle.std.proofs.lemmas.Bool.{cases_Bool, cases_eq, eq-eqb, ne_eqb, eqb-true}
use Rattle.layout_types.specs.declared.ioerrs.IoErr.{IoErr}
use Rattle.layout_ops.specs.declared.messages.Answer.{Answer}
use Rattle.osd_commands.specs.declared.replies.Reply.{Reply}
use Rattle.scenario_text.specs.declared.line.Line.{Line}
use Rattle.server_rules.specs.Laws.{In, last_of}
use Rattle.server_rules.specs.Slots.{slot_of}
use Rattle.client_rules.specs.declared.limits.TheConstants.{NONCES}
use Rattle.client_rules.specs.Calls.{file_of, span_of, bytes_of}
use Rattle.client_rules.specs.Grants.{held_of}
use Rattle.client_rules.specs.History.{Input, Calls, Hears, TimesOut, Leaves, Resends, step}
use Rattle.client_rules.specs.Io.{awaited_in, outs}
use Rattle.client_rules.specs.Messages.{Step}
use Rattle.client_rules.specs.Replies.{answers, timed_after}
use Rattle.gather_law.proofs.Gathered.{long_enough}
use Rattle.history_law.specs.Turns.{AnswerComes, IsReplied, IsTimed}
use Rattle.world_history.specs.ServerNames.{File, Slot}
use Rattle.world_history.specs.ClientNames.{Awaited, Client, Call, CallOp, Held, Need, First, Get, Commit, Report, Close, Outcome, Phase, Starts, Needs, Waits, Reads, Probes, Gathers, Scatters, Request}
use Rattle.world_history.specs.State.{World}
use Rattle.world_history.specs.Handed.{op_in}
use Rattle.world_history.specs.Moves.{acts}
use Rattle.world_history.specs.Sending.{Move, move}
use Rattle.exchange_law.specs.Counters.{ClientsAreCounted, ServerIsCounted}
use Rattle.exchange_law.specs.Text.{AreFew}
use Rattle.history_law.specs.BookMoments.{lines_in}
use Rattle.exchange_law.proofs.ClientMoves.{IsKeptByClients, clients_always}
use Rattle.exchange_law.proofs.CountGrowing.{as_many, fewer, text_front}
use Rattle.exchange_law.proofs.HeldWorlds.{next_moment, reached}
use Rattle.exchange_law.proofs.Replied.{read_at}
use Rattle.fence_law.specs.State.{State, Event}
use Rattle.fence_law.specs.Machine.{Lawful, after_all}
use Rattle.fence_law.proofs.Safe.{Safe, safe_all}
use Rattle.file_simulation.specs.ClientEvents as table
use Rattle.file_simulation.specs.ClientEvents.{Going, going_in}
use Rattle.file_simulation.specs.Events.{joined, events_of}
use Rattle.file_simulation.specs.Requests.{kept_by, AwaitsNothing, RequestIs}
use Rattle.exchange_law.specs.Messages.{last_before}
use Rattle.relation_law.specs.CallsTurns.{NeedHas, ReplyFits, TimeFits}
use Rattle.relation_law.specs.Frames.{AreAll, IsOfClient, ByClient}
use Rattle.relation_law.specs.Requests.{HasRested}
use Rattle.relation_law.specs.RequestsClients.{NeedsHeld}
use Rattle.relation_law.specs.Returns.{CantBeBorne, report_read}
use Rattle.relation_law.specs.Steps.{FollowsWhole, owed}
use Rattle.relation_law.proofs.CallsFitting.{answer_fits}
use Rattle.relation_law.proofs.CallsOwn.{OwnFits}
use Rattle.relation_law.proofs.CallsOwnMove.{client_there, led_joined}
use Rattle.relation_law.proofs.ComponentsGoOn.{lawful_front, lawful_behind}
use Rattle.relation_law.proofs.FramesParties.{by_client_lines}
use Rattle.relation_law.proofs.FramesStay.{all_joined, server_stays_all}
use Rattle.relation_law.proofs.MessagesAlways.{found_one}
use Rattle.relation_law.proofs.MessagesClients.{GathersFor}
use Rattle.relation_law.proofs.MessagesRun.{IsFine, CallFits}
use Rattle.relation_law.proofs.RequestsKept.{taken_all}
use Rattle.relation_law.proofs.RequestsPlain.{asking_stays_all, ended_plain}
use Rattle.relation_law.proofs.RequestsReturns.{HeldLaws, by, low, agree, asks, met, reports, safe, outstanding_is, unheld_, kept_it, served_it, not_next}
use Rattle.relation_law.proofs.RequestsTaken.{answer_taken_rests}
use Rattle.relation_law.proofs.ReturnsStands.{always_fine}
use Rattle.relation_law.specs.Working.{WorksUnder, ClientWorks}
use Rattle.relation_law.proofs.SomeWrites.{some_stores}
use Rattle.relation_law.proofs.TurnEnds.{TurnFacts, PlansFit, told_at, ends_well}
use Rattle.relation_law.proofs.WorksRun.{step_works, one_by_nonce, under}

-- ---- clients

pub works_kept : IsKeptByClients (λ n x. ClientWorks x)
works_kept = record {
  more = λ n k x w. w;
  made = λ n number. tt;
  steps = λ n x i number wrote logged w. step_works x w i;
}

held_in : (hs : List Held) (f : ℕ) (h : Held) → held_of hs f ≡ Some h → In h hs
unfolding held_of
held_in [] f h e = absurd (cc e)
held_in (x ∷ hs) f h e = elim (cases_Bool (x.file == f)) [
  | inl t ↦ let same : x ≡ h = cc (rw t at e) in inl (sym same)
  | inr n ↦ inr (held_in hs f h (rw n at e))
]

-- what a call needs of the server it needs under its grant
pub has_by : (n : Need) (o : Option Held) → NeedsHeld n o → NeedHas n o
has_by First o z = tt
has_by (Get tries) o z = tt
has_by (Commit timed) o z = z
has_by (Report timed) o z = z
has_by (Close u report) o z = z

-- ---- what a reply and a timeout ask of the client

module _ (x : Client) (i : Input) (fine : IsFine x) (works : ClientWorks x) where
  pub replied_fits : (drive : ℕ) (q : Reply) (call : Call) (hh : Held) (a : Awaited) → IsReplied x i drive q call hh a →
      (p : Phase) → call.phase ≡ p → ReplyFits hh call.op p a
  replied_fits drive q call hh a r (Scatters io queue) e =
      let z : WorksUnder hh (Scatters io queue) = subst (WorksUnder hh) e (under x works call hh r.call_is r.held) in
      let there : In a (awaited_in (Scatters io queue)) =
      subst (λ (p : Phase). In a (awaited_in p)) e (found_one (answers drive q) (awaited_in call.phase) a r.awaits) in
      (there, one_by_nonce hh (Scatters io queue) z a there, z.queue)
  replied_fits drive q call hh a r (Gathers io) e =
      let all : CallFits x.held (Some call) = subst (CallFits x.held) r.call_is fine.call in
      let gathers : GathersFor hh call.op io = rw e at (all.1 hh r.held) in
      λ got empty. some_stores hh.map (span_of call.op) (outs hh io.timed) (fine.usable (file_of call.op) hh r.held).checked
      gathers.some.some gathers.ready.can (bytes_of call.op) got empty
  replied_fits drive q call hh a r Starts e = tt
  replied_fits drive q call hh a r (Needs n) e = tt
  replied_fits drive q call hh a r (Waits n) e = tt
  replied_fits drive q call hh a r (Reads io) e = tt
  replied_fits drive q call hh a r (Probes io) e = tt

  pub timed_fits : (n : ℕ) (call : Call) (hh : Held) (a : Awaited) (xs : List Awaited) → IsTimed x i n call hh a xs →
      (p : Phase) → call.phase ≡ p → TimeFits hh call.op p a xs
  timed_fits n call hh a xs r (Scatters io queue) e =
      let z : WorksUnder hh (Scatters io queue) = subst (WorksUnder hh) e (under x works call hh r.call_is r.held) in
      z.queue
  timed_fits n call hh a xs r (Gathers io) e =
      let all : CallFits x.held (Some call) = subst (CallFits x.held) r.call_is fine.call in
      let gathers : GathersFor hh call.op io = rw e at (all.1 hh r.held) in
      λ enough got empty. some_stores hh.map (span_of call.op) (outs hh (timed_after io.timed a xs))
      (fine.usable (file_of call.op) hh r.held).checked gathers.some.some
      (long_enough hh call.op (timed_after io.timed a xs) enough) (bytes_of call.op) got empty
  timed_fits n call hh a xs r Starts e = tt
  timed_fits n call hh a xs r (Needs need) e = tt
  timed_fits n call hh a xs r (Waits need) e = tt
  timed_fits n call hh a xs r (Reads io) e = tt
  timed_fits n call hh a xs r (Probes io) e = tt

-- ---- events

-- what holds of all holds of the first
pub all_front : (P : Event → Type 0) (xs ys : List Event) → AreAll P (xs ++ ys) → AreAll P xs
all_front P [] ys all = tt
all_front P (x ∷ xs) ys all = (all.0, all_front P xs ys all.1)

-- the events of a turn are those of its first line, and then the rest
pub goes_events : (s : State) (file c : ℕ) (x : Client) (i : Input) → (i ≡ Resends → ⊥) →
    joined (table.client_goes s file c x i)
    ≡ table.at_first s file c x i
    ++ joined (table.at_end (after_all s (table.at_first s file c x i)) file c (op_in x i) (step x i))
goes_events s file c x (Calls op) none = refl
goes_events s file c x (Hears from b) none = refl
goes_events s file c x (TimesOut n) none = refl
goes_events s file c x Leaves none = refl
goes_events s file c x Resends none = absurd (none refl)

-- the events of the line that tells how the call ended, if one does
abbrev told_events : State → (file c : ℕ) → Option CallOp → Option Outcome → List Event
told_events s file c op None = []
told_events s file c op (Some u) = table.ended s file c op (Some u)

-- they stand before those of the messages
end_events : (s : State) (file c : ℕ) (op : Option CallOp) (t : Step) (u : Option Outcome) → t.outcome ≡ u →
    (rest : List Event) × (joined (table.at_end s file c op t) ≡ told_events s file c op u ++ rest)
end_events s file c op t None e = (joined (table.at_end s file c op t), refl)
end_events s file c op t (Some u) e = (
  joined (table.sends_all (after_all s (table.ended s file c op (Some u))) file c t.client t.sends),
  rw e refl,
)

-- ---- the slot

-- the last number that a client used isn't one behind the next
not_behind : (n m : ℕ) → m ≡ last_before n → m ≡ n + 1 → ⊥
not_behind n m last same = elim (cases_eq n 0) [
  | inl e ↦ let l = rw (eq-eqb n 0 e) at last in absurd (omega (arith, l, same, e))
  | inr e ↦ let l = rw (ne_eqb n 0 e) at last in absurd (omega (arith, l, same, e))
]

other_kept : (t : Option Slot) (r : Request) → (last_of t ≡ r.sequence → ⊥) → kept_by t r ≡ None
other_kept None r other = refl
other_kept (Some slot) r other = rw (ne_eqb slot.last r.sequence other) refl

-- ---- a move

-- what is known of the world
pub record OwnWorld : Type 0 where
  pub held : HeldLaws
  pub clients : ClientsAreCounted
  pub server : ServerIsCounted

module _ (laws : OwnWorld) (w : World) (h : List Line) (m : Move) (f g : File) (s : State) (k : FollowsWhole w h m f g s)
    (number : g.kept.number ≡ f.kept.number) (map : g.kept.map ≡ f.kept.map) (j : Going)
    (goes : going_in w m.action ≡ Some j) (none : j.input ≡ Resends → ⊥) where
  abbrev file : ℕ
  file = f.kept.number

  abbrev c : ℕ
  c = j.client

  abbrev x : Client
  x = j.state

  abbrev t : Option Slot
  t = slot_of w.server.slots j.client

  abbrev v : World
  v = (move w m).world

  its : ByClient w m.action j (acts w m.chosen m.action)
  its = by laws.held w h m f g s k j goes

  safe_ : Safe s
  safe_ = safe laws.held w h m f g s k j goes

  pub fine : IsFine x
  fine =
      subst IsFine (sym its.state_is)
      (clients_always (λ n y. IsFine y) always_fine w (reached w h k.follows.moment) j.client its.before its.found)

  works : ClientWorks x
  works =
      subst ClientWorks (sym its.state_is)
      (clients_always (λ n y. ClientWorks y) works_kept w (reached w h k.follows.moment) j.client its.before its.found)

  -- ---- the events

  its_events : joined (events_of s w (owed k.follows.related) f m) ≡ joined (table.client_goes s file c x j.input)
  its_events = rw goes (led_joined m.action (table.client_goes s file c x j.input))

  abbrev first : State
  first = after_all s (table.at_first s f.kept.number j.client j.state j.input)

  abbrev rest : List Event
  rest = joined (table.at_end first file c (op_in x j.input) (step x j.input))

  split : joined (events_of s w (owed k.follows.related) f m) ≡ table.at_first s file c x j.input ++ rest
  split = its_events ∙ goes_events s file c x j.input none

  lawful : Lawful s (table.at_first s file c x j.input ++ rest)
  lawful = subst (Lawful s) split k.lawful

  owned : AreAll (IsOfClient j.client) (table.at_first s file c x j.input ++ rest)
  owned =
      subst (AreAll (IsOfClient j.client)) split
      (all_joined (IsOfClient j.client) (events_of s w (owed k.follows.related) f m)
      (by_client_lines s w (owed k.follows.related) f m j goes))

  -- those of the first line are the client's, and can happen
  pub first_owned : AreAll (IsOfClient j.client) (table.at_first s f.kept.number j.client j.state j.input)
  first_owned = all_front (IsOfClient j.client) (table.at_first s file c x j.input) rest owned

  pub first_lawful : Lawful s (table.at_first s f.kept.number j.client j.state j.input)
  first_lawful = lawful_front s (table.at_first s file c x j.input) rest lawful

  first_safe : Safe (after_all s (table.at_first s f.kept.number j.client j.state j.input))
  first_safe =
      safe_all s (table.at_first s file c x j.input) (lawful_front s (table.at_first s file c x j.input) rest lawful) safe_

  behind : Lawful first rest
  behind = lawful_behind s (table.at_first s file c x j.input) rest lawful

  told_safe : (u : Option Outcome) → (step x j.input).outcome ≡ u →
      Safe (after_all first (told_events first file c (op_in x j.input) u))
  told_safe u e =
      let r = end_events first file c (op_in x j.input) (step x j.input) u e in
      safe_all first (told_events first file c (op_in x j.input) u)
      (lawful_front first (told_events first file c (op_in x j.input) u) r.0 (subst (Lawful first) r.1 behind)) first_safe

  all_behind : (xs ys : List Event) → AreAll (IsOfClient j.client) (xs ++ ys) → AreAll (IsOfClient j.client) ys
  all_behind [] ys all = all
  all_behind (z ∷ xs) ys all = all_behind xs ys all.1

  told_next : (u : Option Outcome) → (step x j.input).outcome ≡ u →
      (after_all first (told_events first file c (op_in x j.input) u)).next ≡ s.next
  told_next u e =
      let r = end_events first file c (op_in x j.input) (step x j.input) u e in
      let one = all_front (IsOfClient j.client) (table.at_first s file c x j.input) rest owned in
      let two =
      all_front (IsOfClient j.client) (told_events first file c (op_in x j.input) u) r.0
      (subst (AreAll (IsOfClient j.client)) r.1 (all_behind (table.at_first s file c x j.input) rest owned)) in
      (server_stays_all j.client first (told_events first file c (op_in x j.input) u) two).next
      ∙ (server_stays_all j.client s (table.at_first s file c x j.input) one).next

  told_same : (u : Option Outcome) → after_all first (told_events first file c (op_in x j.input) u)
      ≡ told_at file f.kept.map c s x t (client_there w h m f g s k number map j goes (low laws.held w h m f g s k j goes) none)
      j.input u
  told_same None = refl
  told_same (Some u) = refl

  told_waits : (u : Option Outcome) →
      (after_all first (told_events first file c (op_in x j.input) u)).waiting ≡ first.waiting
  told_waits None = refl
  told_waits (Some u) =
      (asking_stays_all first (table.ended first file c (op_in x j.input) (Some u))
      (ended_plain file c first (op_in x j.input) (Some u))).waiting

  -- ---- counters

  low_next : s.next ≤ 2 ^ 32
  low_next =
      let text = text_front h _ k.follows.calm.scenario.text in
      let few = fewer h _ k.follows.calm.scenario.few in
      let count = (laws.server w h k.follows.moment text).grants in
      let many = as_many w h (read_at w h k.follows.moment) in
      let next = k.follows.related.kept.next in
      omega (arith, count, few, many, next)

  whole_few : (n : ℕ) (hh : Held) → held_of (step x j.input).client.held n ≡ Some hh → hh.count < NONCES
  whole_few n hh held =
      let moment = next_moment w h k.follows.moment m k.follows.is_due in
      let counts = laws.clients v (reached v _ moment) j.client its.after its.mine in
      let many = as_many v _ (read_at v _ moment) in
      let few : AreFew (h ++ lines_in w m) =
      subst (λ (z : List Line). AreFew (h ++ z)) (taken_all (lines_in w m)) k.follows.calm.scenario.few in
      let one = counts.commands hh (held_in its.after.state.held n hh (ap (λ (y : Client). held_of y.held n)
      its.behind ∙ held)) in
      omega (arith, one, many, few)

  -- ---- requests

  rests : x.outstanding ≡ None → s.waiting c ≡ false
  rests out =
      let nothing : AwaitsNothing s c =
      subst (RequestIs file f.kept.map s t c x) out (agree laws.held w h m f g s k j goes).request in
      nothing.waiting

  unanswered : (r : Request) → r.sequence ≡ x.next → kept_by t r ≡ None
  unanswered r at = other_kept t r (λ last. no_slot (safe_.slots.near c) (last ∙ at))
    where
      no_slot : (((s.waiting c ≡ false) × (s.away c ≡ false) × (s.slot c ≡ s.sequence c))
          ⊎ ((((s.waiting c ≡ true) × (s.away c ≡ false)) ⊎ ((s.waiting c ≡ false) × (s.away c ≡ true)))
          × ((s.slot c ≡ s.sequence c) ⊎ (s.slot c + 1 ≡ s.sequence c)))) → last_of t ≡ x.next → ⊥
      no_slot near last =
          let a = agree laws.held w h m f g s k j goes in
          let slot : s.slot c ≡ x.next = a.slot ∙ last in
          elim near [
            | inl rests_ ↦ not_next x.next (s.sequence c) a.sequence (sym rests_.2 ∙ slot)
            | inr other ↦ elim other.1 [
              | inl same ↦ not_next x.next (s.sequence c) a.sequence (sym same ∙ slot)
              | inr behind_ ↦ not_behind x.next (s.sequence c) a.sequence (omega (arith, behind_, slot))
            ]
          ]

  rested : (a : Answer) → AnswerComes x j.input a →
      (after_all s (table.answered s file c x a x.outstanding)).waiting c ≡ false
  rested a n =
      let kept = kept_it laws.held w h m f g s k j goes n.from n.message a n.is n.takes_it n.request n.outstanding in
      let served = served_it laws.held w h m f g s k j goes n.from n.message a n.is n.takes_it n.request n.outstanding in
      let it = outstanding_is laws.held w h m f g s k j goes n.request n.outstanding in
      let r : HasRested c s (after_all s (table.answered s file c x a (Some n.request))) =
      answer_taken_rests file f.kept.map s c x t n.request (agree laws.held w h m f g s k j goes).slot served it a in
      subst (λ (o : Option Request). (after_all s (table.answered s file c x a o)).waiting c ≡ false) (sym n.outstanding)
      r.rests.waiting

  -- ---- all that the turn asks, where its writes have plans

  module _ (plans : PlansFit file f.kept.map c s x t
      (client_there w h m f g s k number map j goes (low laws.held w h m f g s k j goes) none) j.input) where
    pub facts : TurnFacts file f.kept.map c s x t
        (client_there w h m f g s k number map j goes (low laws.held w h m f g s k j goes) none) j.input
    facts = record {
      fine = fine;
      works = works;
      rests = rests;
      rested = rested;
      unanswered = unanswered;
      counts = whole_few;
      safe = λ u e. subst Safe (told_same u) (told_safe u e);
      next = λ u e. subst (λ (z : State). z.next ≤ 2 ^ 32) (told_same u) (rw (told_next u e) low_next);
      waits = λ u. ap (λ (z : State). z.waiting) (sym (told_same u)) ∙ told_waits u;
      first = first_safe;
      plans = plans;
    }

    -- The client and its turn are as they should be.
    pub own_fits : OwnFits file f.kept.map c s x t
        (client_there w h m f g s k number map j goes (low laws.held w h m f g s k j goes) none) j.input
    own_fits = record {
      safe = safe_;
      has = λ op n is here.
          has_by n (held_of x.held file)
          (subst (λ (z : ℕ). NeedsHeld n (held_of x.held z)) (eqb-true (file_of op) file here)
          ((asks laws.held w h m f g s k j goes).needs op n is));
      unheld = unheld_ laws.held w h m f g s k j goes;
      answered = λ a r n out.
          let kept = kept_it laws.held w h m f g s k j goes n.from n.message a n.is n.takes_it r out in (
            kept,
            outstanding_is laws.held w h m f g s k j goes r out,
            (agree laws.held w h m f g s k j goes).slot,
            answer_fits file w.server c x r out a kept (asks laws.held w h m f g s k j goes)
                (met laws.held w h m f g s k j goes)
                (λ (op : CallOp) (report : List IoErr). CantBeBorne w.server c (file_of op) (report_read report))
                (reports laws.held w h m f g s k j goes),
          );
      replied = λ drive q call hh a r here. replied_fits x j.input fine works drive q call hh a r call.phase refl;
      timed = λ n call hh a xs r here. timed_fits x j.input fine works n call hh a xs r call.phase refl;
      ends = λ es at d is turn y. ends_well file f.kept.map c s x t
          (client_there w h m f g s k number map j goes (low laws.held w h m f g s k j goes) none) j.input
          facts es at d is turn y;
    }
