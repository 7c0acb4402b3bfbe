-- A client's own move: what its call was shown, where it reads behind the move.
-- Towards `ReadsFollow` (`headline_law/specs/Parts.antt`).
use Rattle.std.proofs.Common.{◌≡◌, ◌==◌, ◌++◌, ◌<◌, ℕ, Bool, true, List, Option, Some, refl, sym, ap, subst, ◌∙◌, inl, inr, eq-eqb, arith}
use Rattle.data_map.specs.declared.check.RawMap.{RawMap}
use Rattle.layout_ops.specs.declared.messages.Answer.{Answer}
use Rattle.osd_commands.specs.declared.replies.Reply.{Reply}
use Rattle.scenario_text.specs.declared.line.Line.{Line}
use Rattle.scenario_text.specs.declared.names.TheConstants.{CLIENTS}
use Rattle.server_rules.specs.Laws.{In}
use Rattle.server_rules.specs.Slots.{slot_of}
use Rattle.client_rules.specs.declared.limits.TheConstants.{PERFORMED}
use Rattle.client_rules.specs.Calls.{file_of}
use Rattle.client_rules.specs.History.{Input, Calls, Hears, TimesOut, Leaves, Resends, step}
use Rattle.client_rules.specs.Io.{awaited_in, got_of}
use Rattle.client_rules.specs.Messages.{awaited_of}
use Rattle.client_rules.specs.Replies.{answers}
use Rattle.world_history.specs.ClientNames.{Awaited, Call, CallOp, Client, Column, Io, Phase, Starts, Needs, Waits, Reads, Probes, Gathers, Scatters}
use Rattle.world_history.specs.ServerNames.{File}
use Rattle.world_history.specs.State.{World}
use Rattle.world_history.specs.Moves.{acts}
use Rattle.world_history.specs.Sending.{Move, move}
use Rattle.history_law.specs.Moments.{IsMoment, lines_in}
use Rattle.history_law.specs.Moves.{IsForClient}
use Rattle.exchange_law.proofs.Awaited.{few_at}
use Rattle.fence_law.specs.State.{State, Event}
use Rattle.fence_law.specs.State.Call.{Reads as AtRead}
use Rattle.fence_law.specs.Machine.{after_all}
use Rattle.file_simulation.specs.Calls.{CallAt, CallIs, CallOn, IsClient}
use Rattle.file_simulation.specs.ClientEvents as table
use Rattle.file_simulation.specs.ClientEvents.{Going, going_in}
use Rattle.file_simulation.specs.Events.{joined, events_of}
use Rattle.file_simulation.specs.Messages.{AreShown, HasReplied, ShownIn, WasShown}
use Rattle.file_simulation.specs.Relation.{client_of}
use Rattle.file_simulation.specs.Requests.{kept_for}
use Rattle.relation_law.specs.Frames.{ByClient, IsSameFile}
use Rattle.relation_law.specs.ReadsShown.{ShownGrows}
use Rattle.relation_law.specs.Steps.{FollowsWhole, owed, whole_behind}
use Rattle.relation_law.proofs.CallsOwnMove.{behind_is, client_there, led_joined}
use Rattle.relation_law.proofs.ComponentsMoved.{behind as moment_behind, later, scenario}
use Rattle.relation_law.proofs.FramesFiles.{file_stays}
use Rattle.relation_law.proofs.FramesParties as parties
use Rattle.relation_law.proofs.Heard.{heard}
use Rattle.relation_law.proofs.MessagesAlways.{found_one}
use Rattle.relation_law.proofs.OwnFacts.{facts, own_fits}
use Rattle.relation_law.proofs.Plans.{WasHeard}
use Rattle.relation_law.proofs.PlanWorlds.{found_true}
use Rattle.relation_law.proofs.ReadsMoves.{by_action, replied_before_or_now}
use Rattle.relation_law.proofs.ReadsStay.{are_shown_stay, shown_grows, was_shown_stays}
use Rattle.relation_law.proofs.RequestsReturns.{is_client, low, then_}
use Rattle.relation_law.proofs.TurnEnds.{PlansFit}
use Rattle.headline_law.proofs.ReadsAwaits.{not_unused, stays_or_new}
use Rattle.headline_law.proofs.ReadsTurn.{ReadsOn, StaysAt, TurnReads, turn_reads}
use Rattle.headline_law.proofs.SentMove.{SentLaws, own_of, plans_of}
use Rattle.headline_law.proofs.SentMoved.{ReadsNow, WasGot}
use Rattle.headline_law.proofs.SentSince.{Continues, IoSince, IsGiven, IsNew, PhaseSince}
use Rattle.headline_law.proofs.SentTurn.{turn_behind}

-- what a phase that reads has got and awaits
pub record HasIo (p : Phase) (io : Io) : Type 0 where
  pub got : (col : Column) → WasGot p col → In col io.got
  pub awaited : awaited_in p ≡ io.awaited
  pub shown : (s : State) (w : World) (c j : ℕ) → ShownIn s w c j p → AreShown s w c j io

io_of : (p : Phase) → ReadsNow p → (io : Io) × HasIo p io
io_of (Reads io) now = (io, record { got = λ col i. i; awaited = refl; shown = λ s w c j k. k })
io_of (Probes io) now = (io, record { got = λ col i. i; awaited = refl; shown = λ s w c j k. k })
io_of (Gathers io) now = (io, record { got = λ col i. i; awaited = refl; shown = λ s w c j k. k })
io_of (Scatters io queue) now = absurd now
io_of Starts now = absurd now
io_of (Needs n) now = absurd now
io_of (Waits n) now = absurd now

-- a client whose call reads is at an entry
at_entry : (m : RawMap) (s : State) (c : ℕ) (op : CallOp) (o : Option Answer) (p : Phase) → ReadsNow p → CallIs m s c op o p →
    (n : ℕ) × (s.call c ≡ AtRead n)
at_entry m s c op o (Reads io) now k = (k.0, k.1.at_)
at_entry m s c op o (Probes io) now k = (k.0, k.1.at_)
at_entry m s c op o (Gathers io) now k = (k.0, k.1.at_)
at_entry m s c op o (Scatters io queue) now k = absurd now
at_entry m s c op o Starts now k = absurd now
at_entry m s c op o (Needs n) now k = absurd now
at_entry m s c op o (Waits n) now k = absurd now

module _ (laws : SentLaws) (w : World) (h : List Line) (m : Move) (f g : File) (s : State) (k : FollowsWhole w h m f g s)
    (j : Going) (goes : going_in w m.action ≡ Some j) where
  abbrev v : World
  v = (move w m).world

  abbrev t : State
  t = whole_behind k

  abbrev c : ℕ
  c = j.client

  abbrev x : Client
  x = j.state

  abbrev es : List Event
  es = joined (events_of s w (owed k.follows.related) f m)

  its : ByClient w m.action j (acts w m.chosen m.action)
  its = parties.client_goes w h k.follows.moment m k.follows.is_due j goes

  same : IsSameFile f g
  same = (file_stays w h k.follows.moment m k.follows.is_due f.kept.number f g k.follows.there k.follows.goes).same

  next : IsMoment (move w m).world (h ++ lines_in w m)
  next = moment_behind laws.moved w h m f g s k

  grows : ShownGrows s (whole_behind k)
  grows = shown_grows s es

  before_is : client_of w c ≡ x
  before_is = then_ laws.moved.held w h m f g s k j goes

  -- drives reply nothing in the move
  told_before : (d : ℕ) (r : Reply) → HasReplied v d c r → HasReplied w d c r
  told_before d r told = elim (replied_before_or_now w m d c r told) [
    | inl old ↦ old
    | inr now ↦
        let none = (by_action s w (owed k.follows.related) f m d c r now m.action now.number).0 in
        absurd (cc (sym none ∙ goes))
  ]

  -- what is awaited was awaited before, or no drive replied to it
  module _ (a : Awaited) (r : Reply) (awaits : In a (awaited_of (client_of (move w m).world j.client).call))
      (told : HasReplied (move w m).world a.drive j.client r) (ok : answers a.drive r a ≡ true) (done : r.verdict ≡ PERFORMED)
    where
      awaited_before : In a (awaited_of j.state.call)
      awaited_before =
          elim (stays_or_new laws.moved.known w h m k.follows.moment next
          (few_at v (h ++ lines_in w m) next (omega (arith, (later laws.moved w h m f g s k).few))) c a awaits) [
            | inl old ↦ subst (λ (y : Client). In a (awaited_of y.call)) before_is old
            | inr new ↦
                absurd (not_unused laws.moved.known laws.moved.senders.places w h k.follows.moment
                (scenario laws.moved w h m f g s k)
                a.drive c r (told_before a.drive r told) done a ok new)
          ]

  -- ---- a call

  module _ (call : Call) (n : ℕ) (at : (client_of (move w m).world j.client).call ≡ Some call)
      (here : file_of call.op ≡ f.kept.number) (runs : (whole_behind k).call j.client ≡ AtRead n) where
    low_ : j.client < CLIENTS
    low_ = low laws.moved.held w h m f g s k j goes

    -- ---- where what was sent is sent again

    resent : j.input ≡ Resends → ShownIn (whole_behind k) (move w m).world j.client n call.phase
    resent is = by_phase call.phase (related call at_before here runs_before)
      where
        at_before : (client_of w c).call ≡ Some call
        at_before =
            ap (λ (y : Client). y.call)
            (before_is ∙ sym (ap (λ (i : Input). (step x i).client) is) ∙ sym (parties.client_behind w m j its)) ∙ at

        events : es ≡ joined (table.client_goes s f.kept.number c x j.input)
        events = rw goes (led_joined m.action (table.client_goes s f.kept.number c x j.input))

        whole : whole_behind k ≡ s
        whole =
            ap (after_all s)
            (events ∙ ap (λ (i : Input). joined (table.client_goes s f.kept.number c x i)) is)

        runs_before : s.call c ≡ AtRead n
        runs_before = sym (ap (λ (z : State). z.call c) whole) ∙ runs

        related : (call : Call) → (client_of w c).call ≡ Some call → file_of call.op ≡ f.kept.number → s.call c ≡ AtRead n →
            ShownIn s w c n call.phase
        related call = (k.follows.related.clients c low_).shown call n

        old_shown : (io : Io) → AreShown s w c n io → AreShown t v c n io
        old_shown io k =
            are_shown_stay s t w v c n io grows (λ a r i p. inl (told_before a.drive r p.told)) k

        by_phase : (p : Phase) → ShownIn s w c n p → ShownIn t v c n p
        by_phase (Reads io) k = old_shown io k
        by_phase (Probes io) k = old_shown io k
        by_phase (Gathers io) k = old_shown io k
        by_phase (Scatters io queue) k = tt
        by_phase Starts k = tt
        by_phase (Needs need) k = tt
        by_phase (Waits need) k = tt

    -- ---- any other input

    module _ (none : j.input ≡ Resends → ⊥) where
      abbrev there : IsClient f.kept.number f.kept.map s j.client j.state
          (kept_for (slot_of w.server.slots j.client) j.state.outstanding)
      there = client_there w h m f g s k same.number same.map j goes (low laws.moved.held w h m f g s k j goes) none

      plans : PlansFit f.kept.number f.kept.map j.client s j.state (slot_of w.server.slots j.client) there j.input
      plans = plans_of laws w h m f g s k j goes none there

      abbrev first : List Event
      first = table.at_first s f.kept.number j.client j.state j.input

      abbrev Quiet : Call → Type 0
      Quiet y =
          StaysAt f.kept.number f.kept.map j.client s j.state (slot_of w.server.slots j.client) there j.input
          (table.at_first s f.kept.number j.client j.state j.input) y

      reads : TurnReads f.kept.number f.kept.map j.client s j.state (slot_of w.server.slots j.client) there j.input
          (table.at_first s f.kept.number j.client j.state j.input) (step j.state j.input)
      reads =
          turn_reads f.kept.number f.kept.map j.client s j.state (slot_of w.server.slots j.client) there j.input
          (facts (own_of laws) w h m f g s k same.number same.map j goes none plans)
          (own_fits (own_of laws) w h m f g s k same.number same.map j goes none plans) none

      on_file : (file_of call.op == f.kept.number) ≡ true
      on_file = eq-eqb (file_of call.op) f.kept.number here

      read_on : ReadsNow call.phase → ReadsOn f.kept.number f.kept.map j.client s j.state (slot_of w.server.slots j.client) there
          j.input (table.at_first s f.kept.number j.client j.state j.input) (step j.state j.input) call
      read_on now =
          reads call (ap (λ (y : Client). y.call) (sym (parties.client_behind w m j its)) ∙ at) on_file now

      behind_ : whole_behind k
          ≡ turn_behind f.kept.number f.kept.map j.client s j.state (slot_of w.server.slots j.client) there j.input
          (table.at_first s f.kept.number j.client j.state j.input) (step j.state j.input)
      behind_ =
          behind_is w h m f g s k same.number same.map j goes (low laws.moved.held w h m f g s k j goes) none

      module _ (io : Io)
          (awaits : (a : Awaited) → In a io.awaited → In a (awaited_of (client_of (move w m).world j.client).call)) where
        from_new : IsNew x j.input Quiet io → AreShown t v c n io
        from_new z = record {
          got = λ col i. absurd (z.got col i);
          replied = λ a r i told ok done. absurd (subst (In a) z.none (awaited_before a r (awaits a i) told ok done));
        }

        -- the call that goes on
        module _ (now : ReadsNow call.phase) (z : Continues j.state j.input Quiet call.op io) where
          old_here : file_of z.old.op ≡ f.kept.number
          old_here = ap file_of z.same ∙ here

          old_on : (file_of z.old.op == f.kept.number) ≡ true
          old_on = eq-eqb (file_of z.old.op) f.kept.number old_here

          abbrev answer : Option Answer
          answer = kept_for (slot_of w.server.slots j.client) j.state.outstanding

          its_call : CallIs f.kept.map s c z.old.op answer z.old.phase
          its_call =
              let one : CallOn (file_of z.old.op == f.kept.number) f.kept.map s c z.old answer =
              subst (CallAt f.kept.number f.kept.map s c answer) z.was
              (is_client laws.moved.held w h m f g s k j goes).call in
              subst (λ (b : Bool). CallOn b f.kept.map s c z.old answer) old_on one

          entry : (i : ℕ) × (s.call c ≡ AtRead i)
          entry = at_entry f.kept.map s c z.old.op answer z.old.phase z.reads its_call

          same_entry : entry.0 ≡ n
          same_entry =
              let both : AtRead entry.0 ≡ AtRead n =
              sym ((read_on now).entry entry.0 entry.1 (z.quiet old_on)) ∙ ap (λ (y : State). y.call c) (sym behind_) ∙ runs in
              cc both

          old_io : (y : Io) × HasIo z.old.phase y
          old_io = io_of z.old.phase z.reads

          shown : AreShown s w c entry.0 old_io.0
          shown =
              old_io.1.shown s w c entry.0
              ((k.follows.related.clients c low_).shown z.old entry.0 (ap (λ (y : Client). y.call) before_is ∙ z.was) old_here
              entry.1)

          -- what a reply of the move gave
          given : (col : Column) (u : IsGiven j.state j.input Quiet z.old col) → WasShown s entry.0 u.awaited.ask.component col
          given col u =
              let there_ : WasHeard w c u.awaited u.reply =
              heard laws.moved.known w h k.follows.moment (scenario laws.moved w h m f g s k).few m.action c its.before u.drive
              u.reply (subst (λ (i : Input). IsForClient w m.action c its.before i) u.is.is its.input_is) u.awaited
              (found_true (answers u.drive u.reply) (awaited_in z.old.phase) u.awaited u.is.awaits) u.performed in
              subst (WasShown s entry.0 u.awaited.ask.component) (there_.got ∙ sym u.column)
              (shown.replied u.awaited there_.reply
              (subst (In u.awaited) old_io.1.awaited
              (found_one (answers u.drive u.reply) (awaited_in z.old.phase) u.awaited u.is.awaits))
              there_.replied there_.answers there_.performed)

          from_old_at : AreShown t v c entry.0 io
          from_old_at = record {
            got = λ col i. elim (z.got col i) [
              | inl old ↦
                  let r = shown.got col (old_io.1.got col old) in
                  (r.0, was_shown_stays s t entry.0 r.0 col grows r.1)
              | inr u ↦
                  (u.awaited.ask.component, was_shown_stays s t entry.0 u.awaited.ask.component col grows (given col u))
            ];
            replied = λ a r i told ok done.
                let there_ : In a (awaited_in z.old.phase) =
                subst (λ (o : Option Call). In a (awaited_of o)) z.was (awaited_before a r (awaits a i) told ok done) in
                was_shown_stays s t entry.0 a.ask.component (got_of a r) grows
                (shown.replied a r (subst (In a) old_io.1.awaited there_) (told_before a.drive r told) ok done);
          }

          from_old : AreShown t v c n io
          from_old = subst (λ (i : ℕ). AreShown t v c i io) same_entry from_old_at

        either : ReadsNow call.phase → IoSince x j.input Quiet call.op io → AreShown t v c n io
        either now (inl z) = from_old now z
        either now (inr z) = from_new z

      others : ShownIn (whole_behind k) (move w m).world j.client n call.phase
      others = by_phase call.phase refl
        where
          in_call : (p : Phase) → call.phase ≡ p → (a : Awaited) → In a (awaited_in p) →
              In a (awaited_of (client_of (move w m).world j.client).call)
          in_call p e a i =
              subst (λ (o : Option Call). In a (awaited_of o)) (sym at) (subst (λ (q : Phase). In a (awaited_in q)) (sym e) i)

          reads_now : (p : Phase) → call.phase ≡ p → ReadsNow p → ReadsNow call.phase
          reads_now p e now = subst ReadsNow (sym e) now

          since : (p : Phase) → call.phase ≡ p → ReadsNow p → PhaseSince x j.input Quiet call.op p
          since p e now = subst (PhaseSince x j.input Quiet call.op) e (read_on (reads_now p e now)).since

          by_phase : (p : Phase) → call.phase ≡ p → ShownIn (whole_behind k) (move w m).world j.client n p
          by_phase (Reads io) e = either io (in_call (Reads io) e) (reads_now (Reads io) e tt) (since (Reads io) e tt)
          by_phase (Probes io) e = either io (in_call (Probes io) e) (reads_now (Probes io) e tt) (since (Probes io) e tt)
          by_phase (Gathers io) e = either io (in_call (Gathers io) e) (reads_now (Gathers io) e tt) (since (Gathers io) e tt)
          by_phase (Scatters io queue) e = tt
          by_phase Starts e = tt
          by_phase (Needs need) e = tt
          by_phase (Waits need) e = tt

    -- ---- both

    pub own_shown : ShownIn (whole_behind k) (move w m).world j.client n call.phase
    own_shown = by_input j.input refl
      where
        by_input : (i : Input) → j.input ≡ i → ShownIn (whole_behind k) (move w m).world j.client n call.phase
        by_input Resends is = resent is
        by_input (Calls op) is = others (λ e. cc (sym is ∙ e))
        by_input (Hears from b) is = others (λ e. cc (sym is ∙ e))
        by_input (TimesOut i) is = others (λ e. cc (sym is ∙ e))
        by_input Leaves is = others (λ e. cc (sym is ∙ e))
