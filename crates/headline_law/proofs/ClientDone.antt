-- A drive replies that it performed a WRITE that a client's call awaits: the machine has its reply.
use Rattle.std.proofs.Common.{◌≡◌, ◌<◌, ℕ, Bool, true, false, List, [], ◌∷◌, nat_eq, find, map, Option, Some, None, Result, Ok, Err, refl, sym, ap, subst, ◌∙◌, inl, inr}
use Rattle.std.specs.Prelude.{not, ◌&&◌, ◌++◌, if◌then◌else◌}
use Rattle.std.proofs.lemmas.Bool.{and_parts, eqb-true, or_parts}
use Rattle.osd_lists.specs.declared.node.Node.TheVariants as node
use Rattle.osd_commands.specs.declared.actions.Action.TheVariants.{Write}
use Rattle.osd_commands.specs.declared.commands.Command.{Command}
use Rattle.osd_commands.specs.declared.commands.CommandErr.{CommandErr}
use Rattle.osd_commands.specs.declared.replies.Reply.{Reply}
use Rattle.osd_drive.specs.declared.verdict.Verdict.{Verdict}
use Rattle.osd_drive.specs.declared.verdict.Verdict.TheVariants as verdict
use Rattle.osd_drive.specs.Effects.{reply_by}
use Rattle.osd_drive.specs.State.{DriveState}
use Rattle.osd_drive.specs.Table.{Row, NoneApplies, first_row, first_fault, early_rows, rows_on_object, has_no_right, of_lane}
use Rattle.osd_objects.specs.declared.lanes.LaneEntry.{LaneEntry}
use Rattle.osd_objects.specs.Store.{object_at, lane_or_none}
use Rattle.scenario_text.specs.declared.line.Line.{Line}
use Rattle.scenario_text.specs.declared.names.TheConstants.{CLIENTS}
use Rattle.server_rules.specs.Laws.{In}
use Rattle.server_rules.proofs.Members.{in_map}
use Rattle.client_rules.specs.Replies.{answers}
use Rattle.world_history.specs.declared.messages.Posted.{Posted}
use Rattle.world_history.specs.ClientNames.{Awaited}
use Rattle.world_history.specs.Drives.{command_in, judges}
use Rattle.world_history.specs.Guesses.{unguessed}
use Rattle.world_history.specs.ServerNames.{File}
use Rattle.world_history.specs.Sending.{Move}
use Rattle.world_history.specs.State.{World, DriveAt, at_number}
use Rattle.world_history.specs.Stripes.{component_at}
use Rattle.history_law.proofs.HistoryTelling.{again_row}
use Rattle.component_law.specs.Sent.{IsSentByRun}
use Rattle.component_law.proofs.NamedLines.{are_named}
use Rattle.exchange_law.proofs.TakenLaw.{not_none}
use Rattle.fence_law.specs.Law.{IsCode}
use Rattle.fence_law.specs.Machine.{after, after_all}
use Rattle.fence_law.specs.State as machine
use Rattle.fence_law.specs.State.{State}
use Rattle.fence_law.specs.State.Event.{Performs}
use Rattle.fence_law.specs.Words.{In as InRun}
use Rattle.plan_law.proofs.Codes.{layouts_are_codes}
use Rattle.file_simulation.specs.Claim.{IsOfScenario}
use Rattle.file_simulation.specs.Components.{has_failed, object_on}
use Rattle.file_simulation.specs.DriveEvents.{judged, is_write}
use Rattle.file_simulation.specs.Messages.{WasSent}
use Rattle.relation_law.specs.DriveHearing.{IsLaidOut, IsOfClient}
use Rattle.relation_law.specs.ReadsDrive.{IsAwaitedBy}
use Rattle.relation_law.specs.Steps.{FollowsWhole, owed, whole_behind}
use Rattle.relation_law.proofs.ComponentsMachine.{single_run}
use Rattle.relation_law.proofs.ComponentsSenders.{client_sent, holder_is}
use Rattle.relation_law.proofs.ComponentsWorld.{awaits_same, laid_out}
use Rattle.relation_law.proofs.DriveFinding.{IsAt, found, sent_found}
use Rattle.relation_law.proofs.DriveMoves.{got_in}
use Rattle.relation_law.proofs.ReadsDrive.{replied_as, reply_nonce}
use Rattle.relation_law.proofs.ReadsMoves.{IsReplying, replying_events}
use Rattle.headline_law.specs.ClientTold.{IsDone, AwaitedWritesAreFound}
use Rattle.headline_law.proofs.DriveLawful.{DriveLaws}

-- ---- verdicts

is_done : (v : Verdict) (d : DriveState) (x : Command) → (reply_by v d x).verdict ≡ 0 → IsDone v
is_done verdict.Again d x e = inr refl
is_done v d x e = inl (replied_as v d x (λ again. cc again) e)

abbrev pub is_again : Verdict → Bool
is_again verdict.Again = true
is_again v = false

-- none of these rows has that verdict
abbrev pub are_others : List Row → Bool
are_others [] = true
are_others (r ∷ rows) = not (is_again r.1) && are_others rows

later_row : (b : Bool) (v rest : Verdict) → not (is_again v) ≡ true → (if b then v else rest) ≡ verdict.Again →
    (b ≡ false) × (rest ≡ verdict.Again)
later_row true v rest other e = absurd (cc (sym (ap (λ (u : Verdict). not (is_again u)) e) ∙ other))
later_row false v rest other e = (refl, e)

-- those in front of the one that has it don't apply
pub skipped : (front back : List Row) → are_others front ≡ true → first_row (front ++ back) ≡ verdict.Again → NoneApplies front
skipped [] back others e = tt
skipped (r ∷ front) back others e =
    let both = and_parts (not (is_again r.1)) (are_others front) others in
    let row = later_row r.0 r.1 (first_row (front ++ back)) both.0 e in
    (row.0, skipped front back both.1 row.1)

-- it has the right that it needs
pub is_allowed : (d : DriveState) (now : ℕ) (x : Command) → first_fault d now x ≡ verdict.Again → has_no_right x ≡ false
unfolding first_fault
is_allowed d now x again = (skipped (early_rows d now x) (rows_on_object d x) refl again).1.1.1.1.0

-- the lane has the nonce of a command that was performed before
in_lane : (o : Option LaneEntry) (n : ℕ) → of_lane (λ l. nat_eq l.nonce n) o ≡ true →
    (l : LaneEntry) × (o ≡ Some l) × (l.nonce ≡ n)
in_lane None n e = absurd (cc e)
in_lane (Some l) n e = (l, refl, eqb-true l.nonce n e)

-- ---- a WRITE

judged_write : (s : State) (w : World) (e : ℕ → ℕ) (f : File) (c d : ℕ) (at : DriveAt) (x : Command) (k : ℕ) (t : machine.Write) →
    first_fault at.state at.clock x ≡ verdict.Perform → component_at d x.object f.kept.components 0 ≡ Some k → s.lost k ≡ false →
    x.action ≡ Write → find (is_write c k x.nonce) s.writes ≡ Some t →
    judged s w e f d at (node.Client c) (Ok x) ≡ Performs t ∷ []
judged_write s w e f c d at x k t clear found stands action one = rw (clear, found, stands, action, one) refl

has_reply : (s : State) (t : machine.Write) (c n k : ℕ) → t.holder ≡ c → t.nonce ≡ n → t.at ≡ k →
    InRun (record { holder = c; nonce = n; at = k }) (after s (Performs t)).replies
has_reply s t c n k holder nonce at_ = inl (rw (holder, nonce, at_) refl)

-- ---- a reply

module _ (laws : DriveLaws) (are_found : AwaitedWritesAreFound) (w : World) (h : List Line) (m : Move) (f g : File) (s : State)
    (k : FollowsWhole w h m f g s) (scenario : IsOfScenario h) (clean : unguessed h ≡ true) (c : ℕ) (low : c < CLIENTS)
    (a : Awaited) (r : Reply) (by : IsAwaitedBy w f c a) (write : a.command.action ≡ Write) (ok : answers a.drive r a ≡ true)
    (zero_ : r.verdict ≡ 0) (z : IsReplying w m.action a.drive c r) where
  abbrev HasReply : State → Type 0
  HasReply t = InRun (record { holder = c; nonce = a.command.nonce; at = a.ask.component }) t.replies

  abbrev read : Result Command CommandErr → List machine.Event
  read o = judged s w (owed k.follows.related) f a.drive z.drive (node.Client c) o

  run : IsSentByRun w
  run = laws.made.run w h k.follows.moment (are_named h scenario.written)

  laid : IsLaidOut f
  laid = laid_out w h k.follows.moment (laws.made.fits w h k.follows.moment scenario.text) run f k.follows.there

  message_in : In z.delivered.posted.message (map (λ (p : Posted). p.message) w.network.messages)
  message_in =
      in_map (λ (p : Posted). p.message) z.delivered.posted w.network.messages
      (got_in w.network.messages z.delivered.number z.delivered.posted z.delivered.there)

  module _ (x : Command) (reads : command_in z.delivered.posted.message.body ≡ Ok x) (nonce : a.command.nonce ≡ x.nonce)
      (done : IsDone (first_fault z.drive.state z.drive.clock x)) where
    found_there : component_at a.drive x.object f.kept.components 0 ≡ Some a.ask.component
    found_there =
        are_found w h k.follows.moment scenario clean f k.follows.there c a x by write nonce (record {
          message = z.delivered.posted.message;
          sent = message_in;
          from = z.from;
          to = z.delivered.receiver;
          reads = reads;
          drive = z.drive;
          there = z.there;
          hears = z.hears;
          done = done;
        })

    t : IsAt f.kept.components a.drive x.object a.ask.component
    t = found a.drive x.object f.kept.components a.ask.component found_there

    -- the drive hears, so the component isn't lost
    stands : s.lost a.ask.component ≡ false
    stands =
        (k.follows.related.components a.ask.component t.component t.there).lost
        ∙ rw (
          t.present,
          ap (λ (n : ℕ). has_failed (at_number w.drives n)) t.drive ∙ ap has_failed z.there
              ∙ (or_parts z.drive.failed z.drive.down z.hears).0,
        ) refl

    -- it is performed now
    module _ (clear : first_fault z.drive.state z.drive.clock x ≡ verdict.Perform) where
      of : IsOfClient w a.drive c x
      of =
          client_sent laws.senders w h k.follows.moment scenario run z.delivered.posted.message a.drive c z.drive x message_in
          z.from z.delivered.receiver reads (record { there = z.there; hears = z.hears; clear = clear })

      same : a.command ≡ of.command
      same =
          awaits_same laws.known w h k.follows.moment scenario.few c a.drive of.command of.sent by.call by.is a by.awaits
          (nonce ∙ of.reads.nonce)

      action : of.command.action ≡ Write
      action = ap (λ (y : Command). y.action) (sym same) ∙ write

      sent : WasSent s c a.ask.component of.command
      sent =
          k.follows.related.sent.writes c a.drive a.ask.component of.command t.component of.sent action t.there
          (sym of.reads.object ∙ sym t.object_is) stands

      performed_now : read (Ok x) ≡ Performs sent.write ∷ []
      performed_now =
          let one : find (is_write c a.ask.component x.nonce) s.writes ≡ Some sent.write =
          ap (λ (n : ℕ). find (is_write c a.ask.component n) s.writes) of.reads.nonce
          ∙ sent_found s c a.ask.component of.command
          (single_run s (subst IsCode (sym k.follows.related.layout) (layouts_are_codes f.kept.map f.kept.first_tag laid.checked))
          k.follows.run) sent in
          judged_write s w (owed k.follows.related) f c a.drive z.drive x a.ask.component sent.write clear found_there stands
          (of.reads.action ∙ action) one

      reply_is : HasReply (after s (Performs sent.write))
      reply_is =
          has_reply s sent.write c a.command.nonce a.ask.component sent.holder
          (sent.nonce ∙ ap (λ (y : Command). y.nonce) (sym same))
          sent.at_

    -- or it was before
    lane : first_fault z.drive.state z.drive.clock x ≡ verdict.Again → HasReply s
    lane again =
        let holder =
        holder_is laws.senders w h k.follows.moment scenario run z.delivered.posted.message a.drive c x message_in z.from
        z.delivered.receiver reads (not_none x (is_allowed z.drive.state z.drive.clock x again)) in
        let row = and_parts _ _ (again_row z.drive.state z.drive.clock x again) in
        let l = in_lane (lane_or_none (object_at z.drive.state.store x.object) x.capability.holder) x.nonce row.1 in
        let where_ : object_on (at_number w.drives t.component.drive) t.component.object
        ≡ object_at z.drive.state.store x.object =
        ap (λ (n : ℕ). object_on (at_number w.drives n) t.component.object) t.drive
        ∙ ap (λ q. object_on q t.component.object) z.there
        ∙ ap (object_at z.drive.state.store) t.object_is in
        let there : lane_or_none (object_on (at_number w.drives t.component.drive) t.component.object) c ≡ Some l.0 =
        ap (λ o. lane_or_none o c) where_
        ∙ ap (lane_or_none (object_at z.drive.state.store x.object)) (sym holder.1) ∙ l.1 in
        subst (λ (n : ℕ). InRun (record { holder = c; nonce = n; at = a.ask.component }) s.replies) (l.2 ∙ sym nonce)
        (k.follows.related.sent.replied c a.ask.component t.component l.0 low t.there stands there)

    is_told : HasReply (after_all s (read (Ok x)))
    is_told = elim done [
      | inl clear ↦
          subst (λ (es : List machine.Event). HasReply (after_all s es)) (sym (performed_now clear)) (reply_is clear)
      | inr again ↦
          let none : read (Ok x) ≡ [] = rw again refl in
          subst (λ (es : List machine.Event). HasReply (after_all s es)) (sym none) (lane again)
    ]

  by_reading : (o : Result Command CommandErr) → command_in z.delivered.posted.message.body ≡ o → HasReply (after_all s (read o))
  unfolding judges
  by_reading (Err why) reads =
      let reply = z.reply ∙ ap (λ (o : Result Command CommandErr). (judges z.drive o).reply) reads in
      absurd (cc (sym (ap (λ (q : Reply). q.verdict) reply) ∙ zero_))
  by_reading (Ok x) reads =
      let reply : r ≡ reply_by (first_fault z.drive.state z.drive.clock x) z.drive.state x =
      z.reply ∙ ap (λ (o : Result Command CommandErr). (judges z.drive o).reply) reads in
      let nonce : r.nonce ≡ x.nonce =
      ap (λ (q : Reply). q.nonce) reply ∙ reply_nonce z.drive.state z.drive.clock x in
      let both = and_parts (nat_eq a.command.nonce r.nonce) _ ok in
      is_told x reads (eqb-true a.command.nonce r.nonce both.0 ∙ nonce)
      (is_done (first_fault z.drive.state z.drive.clock x) z.drive.state x (ap (λ (q : Reply). q.verdict) (sym reply) ∙ zero_))

  -- the machine has it behind the move
  pub reply_told : HasReply (whole_behind k)
  reply_told =
      subst (λ es. HasReply (after_all s es)) (sym (replying_events s w (owed k.follows.related) f m a.drive c r z))
      (by_reading (command_in z.delivered.posted.message.body) refl)
