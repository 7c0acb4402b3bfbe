-- A command of a working call comes to its drive: that of a lost component takes nothing, and any other one replies.
use Rattle.std.proofs.Common.{◌≡◌, ◌≢◌, ◌⊎◌, ◌≤◌, ◌+◌, ◌||◌, ◌++◌, ℕ, suc, Bool, true, false, List, [], ◌∷◌, length, filter, slice_get, Some, refl, sym, ap, subst, ◌∙◌, inl, inr, arith, if◌then◌else◌, le_trans}
use Rattle.std.proofs.lemmas.Bool.{cases_Bool}
use Rattle.std.proofs.lemmas.List.{append-nil}
use Rattle.osd_lists.specs.declared.node.Node.{Node}
use Rattle.osd_lists.specs.declared.node.Node.TheVariants as node
use Rattle.osd_commands.specs.declared.actions.Action.TheVariants.{Write}
use Rattle.osd_commands.specs.Commands.{spelling, reading}
use Rattle.osd_objects.specs.Store.{StoreState}
use Rattle.osd_drive.specs.Table.{first_fault}
use Rattle.osd_drive.specs.Effects.{state_by}
use Rattle.server_rules.specs.Laws.{In}
use Rattle.server_rules.proofs.Members.{in_front, in_behind, in_either, one_in}
use Rattle.stripe_plan.specs.Lost.{among}
use Rattle.client_rules.specs.Calls.{is_write}
use Rattle.client_rules.specs.Commands.{action_of, command, sealed}
use Rattle.client_rules.specs.Io.{awaited_in}
use Rattle.scenario_text.specs.declared.line.Line.{Line}
use Rattle.world_history.specs.ClientNames.{CallOp, Held, Awaited, TimedOut, Phase, Starts, Needs, Waits, Reads, Probes, Gathers, Scatters}
use Rattle.world_history.specs.ServerNames.{Component}
use Rattle.world_history.specs.declared.messages.Body.TheVariants.{Reply as OfReply}
use Rattle.world_history.specs.declared.messages.Message.{Message}
use Rattle.world_history.specs.State.{World, DriveAt, at_number}
use Rattle.world_history.specs.Drives.{command_in, judges}
use Rattle.world_history.specs.Handed.{Post}
use Rattle.world_history.specs.Moves.{acts}
use Rattle.world_history.specs.Sending.{Move, move}
use Rattle.history_law.specs.BookMoments.{lines_in}
use Rattle.exchange_law.specs.Doing.{posted}
use Rattle.ready_law.specs.Carried.{WorksUnder, CanServe, IsServedBy, reply_message, TellsDone}
use Rattle.ready_law.specs.Clear.{HasRoomTo}
use Rattle.ready_law.specs.Ready.{is_lost, IsTouched, IsInTime, write_end}
use Rattle.ready_law.specs.Reacting.{IsPhaseOf, IsAwaitedWell, timed_in, is_writing}
use Rattle.cause_law.proofs.MadeCommands.{IsMade}
use Rattle.ready_law.proofs.ReadCommands.{made_under}
use Rattle.ready_law.proofs.ReactingGood.{reached_there, same_end}
use Rattle.ready_law.proofs.AskingMoves.{IsUnread}
use Rattle.ready_law.proofs.Calls.{ReadyCall, scene_at, op_at, kept_at, lost_at, queue_at, IsIn, DeliversHead}
use Rattle.ready_law.proofs.Stages.{command_message, AreOf, HaveOwnNonces, is_to_drive, commands_in, DrivesGoOn, Working, Works, GoesOn, Further}
use Rattle.ready_law.proofs.WorkingForms.{WorkingLaws, UnderGrant}
use Rattle.ready_law.proofs.WorkingListed.{IsAwaitedAt, awaited_at}
use Rattle.ready_law.proofs.WorkingMessages.{of_both, commands_more, posted_length, own_both}
use Rattle.ready_law.proofs.WorkingTurns.{drives_on}
use Rattle.ready_law.proofs.WorkingStage.{under_at, kept_now}
use Rattle.ready_law.proofs.WorkingLost.{IsThere, is_none_or_deaf, lost_is_deaf, not_lost, other_stands}
use Rattle.ready_law.proofs.WorkingJudged.{IsJudged, deaf_takes_nothing, drive_judges, judged_state, least_stays}
use Rattle.ready_law.proofs.WorkingDrives.{still_works, drives_alike}

-- ---- an awaited command

writes_so : (b : Bool) → action_of b ≡ Write → b ≡ true
writes_so true e = refl
writes_so false e = absurd (cc e)

writing_call : (h : Held) (op : CallOp) (p : Phase) → IsPhaseOf h op p → is_writing p ≡ true → is_write op ≡ true
writing_call h op (Scatters io queue) is e = is
writing_call h op (Reads io) is e = absurd (cc e)
writing_call h op (Probes io) is e = absurd (cc e)
writing_call h op (Gathers io) is e = absurd (cc e)
writing_call h op Starts is e = absurd is
writing_call h op (Needs n) is e = absurd is
writing_call h op (Waits n) is e = absurd is

-- a WRITE carries as many bytes as it says
payload_long : (h : Held) (n : ℕ) (y : Awaited) → IsMade h n y → y.command.action ≡ Write
    → length y.command.payload ≡ y.command.length
unfolding command sealed
payload_long h n y m e =
    let writes : m.write ≡ true = writes_so m.write (sym (ap (λ (z : Awaited). z.command.action) m.is) ∙ e) in
    ap (λ (z : Awaited). length z.command.payload) m.is ∙ m.carries.0
    ∙ ap (λ (b : Bool). if b then m.store.ask.length else 0) writes
    ∙ sym (ap (λ (z : Awaited). z.command.length) m.is)

-- it is for the bytes that are asked
end_is : (h : Held) (op : CallOp) (timed : List TimedOut) (write : Bool) (y : Awaited) → IsAwaitedWell h op timed write y
    → y.command.offset + y.command.length ≡ y.ask.offset + y.ask.length
unfolding command sealed
end_is h op timed write y it =
    ap (λ (z : Awaited). z.command.offset + z.command.length) it.is
    ∙ sym (ap (λ (z : Awaited). z.ask.offset + z.ask.length) it.is)

action_so : (h : Held) (op : CallOp) (timed : List TimedOut) (write : Bool) (y : Awaited) → IsAwaitedWell h op timed write y
    → y.command.action ≡ Write → write ≡ true
unfolding command sealed
action_so h op timed write y it e = writes_so write (sym (ap (λ (z : Awaited). z.command.action) it.is) ∙ e)

-- less room is enough for less
less_room : (a b : ℕ) (s : StoreState) (object : ℕ) → a ≤ b → HasRoomTo b s object → HasRoomTo a s object
less_room a b s object less room = omega (arith, less, room)

or_false : (a b : Bool) → a ≡ false → b ≡ false → (a || b) ≡ false
or_false a b e f = ap (λ (x : Bool). x || b) e ∙ f

-- ---- it comes to its drive

module _ (laws : WorkingLaws) (s : ReadyCall) (w : World) (h : List Line) (i : IsIn s w h) (m : Move) (a : Working s w)
    (x : Message) (rest : List Message) (full : queue_at s w ≡ x ∷ rest) (d : DeliversHead s w m x rest) (y : Awaited)
    (ys : List Awaited) (waiting_is : a.waiting ≡ y ∷ ys) (is : x ≡ command_message s.client y)
    (rest_of : AreOf s.client ys rest) where
  abbrev v : World
  v = (move w m).world

  abbrev held : Held
  held = a.has.held

  abbrev k : ℕ
  k = y.ask.component

  abbrev under : UnderGrant s w held (kept_at s).size
  under = under_at laws s w h i a w refl refl refl (λ c other. refl)

  mine : In y (awaited_in a.phase)
  mine = a.awaited y (subst (In y) (sym waiting_is) (inl refl))

  well : IsAwaitedWell held (op_at s) (timed_in a.phase) (is_writing a.phase) y
  well = one_in (IsAwaitedWell held (op_at s) (timed_in a.phase) (is_writing a.phase)) (awaited_in a.phase) y a.well.awaited
      mine

  there : IsAwaitedAt s w held (kept_at s).size under y
  there = awaited_at s w held (kept_at s).size under (timed_in a.phase) (is_writing a.phase) y well

  own_nonces : HaveOwnNonces (y ∷ ys)
  own_nonces = subst HaveOwnNonces waiting_is a.own

  message_is : d.posted_as.message ≡ command_message s.client y
  message_is = d.message_is ∙ is

  to_it : d.posted_as.message.to ≡ node.Drive y.drive
  to_it = ap (λ (z : Message). z.to) message_is

  old_awaited : (z : Awaited) → In z ys → In z (awaited_in a.phase)
  old_awaited z j = a.awaited z (subst (In z) (sym waiting_is) (inr j))

  old_heard : (z : Awaited) → In z (awaited_in a.phase)
      → (z ≡ y) ⊎ In z ys ⊎ (among z.ask.component (lost_at s) ≡ true)
  old_heard z j = elim (a.heard z j) [
    | inr gone ↦ inr (inr gone)
    | inl waits ↦ elim (subst (In z) waiting_is waits) [
      | inl same ↦ inl same
      | inr other ↦ inr (inl other)
    ]
  ]

  counted_is : commands_in (queue_at s w) ≡ suc (commands_in rest)
  counted_is =
      ap commands_in full
      ∙ ap (λ (n : Node). length (if is_to_drive n then x ∷ filter (λ (z : Message). is_to_drive z.to) rest
      else filter (λ (z : Message). is_to_drive z.to) rest)) (ap (λ (z : Message). z.to) is)

  -- ---- a lost component

  module _ (lost : among k (lost_at s) ≡ true) where
    unread : IsUnread w m
    unread =
        deaf_takes_nothing w m d.number y.drive d.posted_as d.action_is d.found to_it (at_number w.drives y.drive) refl
        (ap (λ (n : ℕ). is_none_or_deaf (at_number w.drives n)) there.drive
        ∙ lost_is_deaf s w a.drives k there.component.at there.component.place laws.offline h i.fair there.component.gone lost)

    rest_left : queue_at s v ≡ rest
    rest_left = d.queue_is ∙ ap (λ (ps : List Post). rest ++ posted ps) unread.posts ∙ append-nil rest

    lost_heard : (z : Awaited) → In z (awaited_in a.phase) → In z ys ⊎ (among z.ask.component (lost_at s) ≡ true)
    lost_heard z j = elim (old_heard z j) [
      | inl same ↦ inr (ap (λ (b : Awaited). among b.ask.component (lost_at s)) same ∙ lost)
      | inr other ↦ other
    ]

    pub command_is_lost : GoesOn s v (lines_in w m)
    command_is_lost =
        Further
        (Works (still_works s w v a ys (record {
          clients = unread.clients;
          server = unread.server;
          clock = unread.clock;
          down = unread.down;
          drives = drives_on a.drives unread.drives;
          own = own_nonces.1;
          queue = subst (AreOf s.client ys) (sym rest_left) rest_of;
          awaited = old_awaited;
          heard = lost_heard;
          sent =
              omega (
                arith,
                d.count_is,
                ap (λ (ps : List Post). length ps) unread.posts,
                counted_is,
                ap commands_in rest_left,
              );
        })))
        (unread.lines s.client)

  -- ---- any other

  module _ (whole : among k (lost_at s) ≡ false) where
    abbrev at : Component
    at = there.component.at

    works : is_lost (scene_at s) at ≡ false
    works = not_lost s w a.drives k at there.component.place laws.lost whole

    stands : IsThere s w at.drive
    stands = other_stands s w a.drives k at there.component.place works

    in_time : IsInTime (scene_at s) (kept_at s) s.client stands.first
    in_time = s.ready.drives k at stands.first there.component.place works stands.stood

    abbrev works_under : WorksUnder w s.client y
    works_under = record {
      caller = a.has.caller.at;
      there = a.has.caller.there;
      call = record { op = op_at s; phase = a.phase };
      pending = a.has.caller.call;
      awaits = mine;
      held = held;
      holds = a.has.holds;
      file = record s.ready.file { kept = kept_now laws s w h i a };
      found = a.has.server.found;
      quiet = s.ready.quiet;
      grant = a.has.grant;
      granted = a.has.granted;
    }

    touched_there : is_write (op_at s) ≡ true → IsTouched (kept_at s) (op_at s) k
    touched_there writes = reached_there (kept_at s) held (op_at s) under.agrees.map writes k well.may.asks.reached

    writing : y.command.action ≡ Write → is_write (op_at s) ≡ true
    writing e =
        writing_call held (op_at s) a.phase a.well.kind
        (action_so held (op_at s) (timed_in a.phase) (is_writing a.phase) y well e)

    ends_low : (e : y.command.action ≡ Write)
        → y.command.offset + y.command.length ≤ write_end (kept_at s) (op_at s) k
    ends_low e =
        let low = well.may.end (action_so held (op_at s) (timed_in a.phase) (is_writing a.phase) y well e) in
        omega (
          arith,
          low,
          end_is held (op_at s) (timed_in a.phase) (is_writing a.phase) y well,
          same_end (kept_at s) held (op_at s) under.agrees.map (writing e) k,
        )

    room : y.command.action ≡ Write
        → HasRoomTo (y.command.offset + y.command.length) stands.now.state.store at.object
    room e =
        less_room _ (write_end (kept_at s) (op_at s) k) stands.now.state.store at.object (ends_low e)
        (a.drives.room (writing e) k at stands.now (touched_there (writing e)) there.component.place works stands.stands)

    abbrev can_serve : CanServe works_under
    can_serve = record {
      at = at;
      place = there.component.place;
      drive = stands.now;
      stands = stands.stands;
      works = stands.works;
      in_time =
          subst (λ (n : ℕ). n ≤ a.has.grant.expiry) (sym stands.clock)
          (a.in_time k at stands.first there.component.place works stands.stood);
      format = subst (λ (n : ℕ). n ≤ (kept_at s).format) (sym stands.least) in_time.format;
      room = room;
    }

    served : IsServedBy can_serve
    served = laws.served w h i.fair a.has.server.up s.client y works_under can_serve

    told : TellsDone (reply_message stands.now s.client y) y.command.nonce
    told = laws.read w h i.fair a.has.server.up s.client y works_under can_serve

    abbrev after : DriveAt
    after = (judges stands.now (reading (spelling y.command))).drive

    stands_there : at_number w.drives y.drive ≡ Some stands.now
    stands_there = ap (at_number w.drives) there.drive ∙ stands.stands

    judged : IsJudged w m y.drive after (reply_message stands.now s.client y)
    judged =
        subst (λ (z : Message). IsJudged w m y.drive (judges stands.now (command_in z.body)).drive
        (record { from = node.Drive y.drive; to = z.from; body = OfReply (judges stands.now (command_in z.body)).reply }))
        message_is
        (drive_judges w m d.number y.drive d.posted_as d.action_is d.found to_it stands.now stands_there
        (or_false stands.now.failed stands.now.down stands.works (stands.down ∙ in_time.up)))

    after_is : after
        ≡ record stands.now {
          state = state_by (first_fault stands.now.state stands.now.clock y.command) stands.now.state y.command;
        }
    after_is = judged_state stands.now (reading (spelling y.command)) y.command served.read

    -- what is written there takes no room that is needed
    room_left : (n : ℕ) (b : Component) (top : ℕ) → slice_get (kept_at s).components n ≡ Some b → b.drive ≡ y.drive
        → (is_write (op_at s) ≡ true → write_end (kept_at s) (op_at s) n ≤ top)
        → HasRoomTo top stands.now.state.store b.object → HasRoomTo top after.state.store b.object
    room_left n b top place on high old =
        let same : n ≡ k =
        laws.apart w h i.fair _ _ a.has.server.found n k b at place there.component.place (on ∙ there.drive) in
        let it : b ≡ at = cc (sym place ∙ ap (slice_get (kept_at s).components) same ∙ there.component.place) in
        let object : b.object ≡ y.command.object = ap (λ (z : Component). z.object) it ∙ sym there.object in
        subst (λ (z : DriveAt). HasRoomTo top z.state.store b.object) (sym after_is)
        (subst (λ (o : ℕ). HasRoomTo top (state_by
        (first_fault stands.now.state stands.now.clock y.command) stands.now.state y.command).store o) (sym object)
        (laws.room stands.now.state (first_fault stands.now.state stands.now.clock y.command) y.command top
        served.clear.placed.action
        (λ e. le_trans (subst (λ (j : ℕ). y.command.offset + length y.command.payload ≤ write_end (kept_at s) (op_at s) j)
        (sym same) (subst (λ (l : ℕ). y.command.offset + l ≤ write_end (kept_at s) (op_at s) k)
        (sym (payload_long held _ y (made_under w h s.client y works_under i.fair) e)) (ends_low e))) (high (writing e)))
        (subst (HasRoomTo top stands.now.state.store) object old)))

    drives_then : DrivesGoOn s v
    drives_then =
        drives_alike s w v y.drive a.drives (record {
          was = stands.now;
          stood = stands_there;
          now = after;
          drives = judged.drives;
          failed = ap (λ (z : DriveAt). z.failed) after_is;
          down = ap (λ (z : DriveAt). z.down) after_is;
          clock = ap (λ (z : DriveAt). z.clock) after_is;
          least =
              ap (λ (z : DriveAt). z.state.least) after_is
              ∙ least_stays (first_fault stands.now.state stands.now.clock y.command) stands.now.state y.command;
          room = room_left;
        })

    abbrev reply : Message
    reply = reply_message stands.now s.client y

    queue_then : queue_at s v ≡ rest ++ reply ∷ []
    queue_then = d.queue_is ∙ ap (λ (ms : List Message). rest ++ ms) judged.posts

    then_awaited : (z : Awaited) → In z (ys ++ y ∷ []) → In z (awaited_in a.phase)
    then_awaited z j = elim (in_either z ys (y ∷ []) j) [
      | inl old ↦ old_awaited z old
      | inr last ↦ elim last [
        | inl same ↦ subst (λ (b : Awaited). In b (awaited_in a.phase)) (sym same) mine
        | inr none ↦ absurd none
      ]
    ]

    then_heard : (z : Awaited) → In z (awaited_in a.phase)
        → In z (ys ++ y ∷ []) ⊎ (among z.ask.component (lost_at s) ≡ true)
    then_heard z j = elim (old_heard z j) [
      | inl same ↦ inl (in_behind z ys (y ∷ []) (inl same))
      | inr other ↦ elim other [
        | inl old ↦ inl (in_front z ys (y ∷ []) old)
        | inr gone ↦ inr gone
      ]
    ]

    differs : (z q : Awaited) → In z ys → In q (y ∷ []) → z.command.nonce ≢ q.command.nonce
    differs z q j (inl same) = λ e. own_nonces.0 z j (sym (e ∙ ap (λ (b : Awaited). b.command.nonce) same))
    differs z q j (inr none) = absurd none

    pub command_is_served : GoesOn s v (lines_in w m)
    command_is_served =
        Further
        (Works (still_works s w v a (ys ++ y ∷ []) (record {
          clients = judged.clients;
          server = judged.server;
          clock = judged.clock;
          down = judged.down;
          drives = drives_then;
          own = own_both ys (y ∷ []) own_nonces.1 ((λ z j. absurd j), tt) differs;
          queue =
              subst (AreOf s.client (ys ++ y ∷ [])) (sym queue_then)
              (of_both s.client ys (y ∷ []) rest (reply ∷ []) rest_of
              (inr (record { from_is = refl; to_is = refl; tells = told }), tt));
          awaited = then_awaited;
          heard = then_heard;
          sent =
              omega (
                arith,
                d.count_is,
                counted_is,
                ap commands_in queue_then ∙ commands_more rest (reply ∷ []),
                sym (posted_length (acts w m.chosen m.action).posts) ∙ ap (λ (ms : List Message). length ms) judged.posts,
              );
        })))
        (judged.lines s.client)

  -- either way the call works on
  pub command_goes_on : GoesOn s v (lines_in w m)
  command_goes_on = elim (cases_Bool (among k (lost_at s))) [
    | inl lost ↦ command_is_lost lost
    | inr whole ↦ command_is_served whole
  ]
