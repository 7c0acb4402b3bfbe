-- What the reads of a client were shown, behind a move that isn't the client's.
-- Towards `ReadsGoOn` (`specs/Steps.antt`).
use Rattle.std.proofs.Common.{◌≡◌, ℕ, ◌==◌, true, Some, Result, Ok, Err, refl, sym, ap, subst, ◌∙◌, inl, inr, eqb-true}
use Rattle.std.specs.Prelude.{map}
use Rattle.std.proofs.lemmas.Bool.{and_parts}
use Rattle.world_history.specs.declared.messages.Posted.{Posted}
use Rattle.osd_lists.specs.declared.node.Node.TheVariants as node
use Rattle.osd_commands.specs.declared.commands.Command.{Command}
use Rattle.osd_commands.specs.declared.commands.CommandErr.{CommandErr}
use Rattle.osd_commands.specs.declared.replies.Reply.{Reply}
use Rattle.osd_drive.specs.declared.verdict.Verdict.TheVariants as verdict
use Rattle.osd_drive.specs.Table.{first_fault}
use Rattle.osd_drive.specs.Effects.{reply_by}
use Rattle.server_rules.specs.Laws.{In}
use Rattle.server_rules.proofs.Members.{in_map}
use Rattle.client_rules.specs.Calls.{file_of}
use Rattle.client_rules.specs.Io.{awaited_in, got_of}
use Rattle.client_rules.specs.Replies.{answers}
use Rattle.world_history.specs.ClientNames.{Call, Awaited, Phase, Starts, Needs, Waits, Reads, Probes, Gathers, Scatters}
use Rattle.world_history.specs.ServerNames.{File}
use Rattle.world_history.specs.State.{World}
use Rattle.world_history.specs.Drives.{command_in, judges}
use Rattle.world_history.specs.Sending.{Move, move}
use Rattle.fence_law.specs.State.{State}
use Rattle.fence_law.specs.State.Call.{Reads as AtRead}
use Rattle.fence_law.specs.Machine.{after_all}
use Rattle.file_simulation.specs.Components.{AreComponents}
use Rattle.file_simulation.specs.DriveEvents.{judged}
use Rattle.file_simulation.specs.Events.{joined, events_of}
use Rattle.file_simulation.specs.Messages.{WasShown, ShownIn}
use Rattle.file_simulation.specs.Relation.{client_of}
use Rattle.relation_law.specs.DriveHearing.{AwaitsOwn}
use Rattle.relation_law.specs.ReadsShown.{NewAreShown}
use Rattle.relation_law.specs.ReadsDrive.{IsAwaitedBy, StandsThere, AwaitWell}
use Rattle.relation_law.proofs.DriveMoves.{got_in}
use Rattle.relation_law.proofs.ReadsStay.{shown_grows, are_shown_stay}
use Rattle.relation_law.proofs.ReadsDrive.{replied_as, read_again, reply_nonce, read_shown}
use Rattle.relation_law.proofs.ReadsMoves.{IsReplying, replied_before_or_now, replying_events}

module _ (s : State) (w : World) (e : ℕ → ℕ) (f : File) (m : Move) (well : AwaitWell s w f) (is : AreComponents s w f)
    (c j : ℕ) (runs : s.call c ≡ AtRead j) where
  -- ---- a reply that comes in the move

  module _ (a : Awaited) (r : Reply) (by : IsAwaitedBy w f c a) (ok : answers a.drive r a ≡ true) (zero_ : r.verdict ≡ 0)
      (k : IsReplying w m.action a.drive c r) where
    -- the message that the drive judged
    message_in : In k.delivered.posted.message (map (λ (p : Posted). p.message) w.network.messages)
    message_in = in_map (λ (p : Posted). p.message) k.delivered.posted w.network.messages
        (got_in w.network.messages k.delivered.number k.delivered.posted k.delivered.there)

    -- it spelled the command that is awaited
    command_is : (x : Command) → command_in k.delivered.posted.message.body ≡ Ok x → a.command ≡ x
    unfolding judges
    command_is x reads =
        let reply : r ≡ reply_by (first_fault k.drive.state k.drive.clock x) k.drive.state x =
        k.reply ∙ ap (λ (o : Result Command CommandErr). (judges k.drive o).reply) reads in
        let nonce : r.nonce ≡ x.nonce =
        ap (λ (q : Reply). q.nonce) reply ∙ reply_nonce k.drive.state k.drive.clock x in
        let both = and_parts (a.command.nonce == r.nonce) _ ok in
        let own : AwaitsOwn w c x =
        well.own k.delivered.posted.message c a.drive x message_in k.from k.delivered.receiver reads in
        own.same by.call by.is a by.awaits (eqb-true a.command.nonce r.nonce both.0 ∙ nonce)

    by_reading : (o : Result Command CommandErr) → command_in k.delivered.posted.message.body ≡ o →
        WasShown (after_all s (judged s w e f a.drive k.drive (node.Client c) o)) j a.ask.component (got_of a r)
    unfolding judges
    by_reading (Err why) reads =
        let reply = k.reply ∙ ap (λ (o : Result Command CommandErr). (judges k.drive o).reply) reads in
        absurd (cc (sym (ap (λ (q : Reply). q.verdict) reply) ∙ zero_))
    by_reading (Ok x) reads =
        let same : a.command ≡ x = command_is x reads in
        let here : command_in k.delivered.posted.message.body ≡ Ok a.command = reads ∙ ap Ok (sym same) in
        let read = well.reads c j a by runs in
        let reply : r ≡ (judges k.drive (Ok a.command)).reply =
        k.reply ∙ ap (λ (o : Result Command CommandErr). (judges k.drive o).reply) here in
        let clear : first_fault k.drive.state k.drive.clock a.command ≡ verdict.Perform =
        replied_as (first_fault k.drive.state k.drive.clock a.command) k.drive.state a.command
        (read_again k.drive.state k.drive.clock a.command read.action_is)
        (sym (ap (λ (q : Reply). q.verdict) reply) ∙ zero_) in
        let own : AwaitsOwn w c a.command =
        well.own k.delivered.posted.message c a.drive a.command message_in k.from k.delivered.receiver here in
        let t : StandsThere s f a =
        well.stands c a.drive k.drive a by refl (record { there = k.there; hears = k.hears; clear = clear }) in
        subst
        (λ (o : Command). WasShown (after_all s (judged s w e f a.drive k.drive (node.Client c) (Ok o))) j a.ask.component
        (got_of a r)) same
        (subst
        (λ (q : Reply). WasShown (after_all s (judged s w e f a.drive k.drive (node.Client c) (Ok a.command))) j
        a.ask.component (got_of a q)) (sym reply)
        (read_shown s w e f c j a.drive k.drive a runs by read own t k.there refl (is a.ask.component t.component t.there) clear))

    reply_shown : WasShown (after_all s (joined (events_of s w e f m))) j a.ask.component (got_of a r)
    reply_shown =
        subst (λ es. WasShown (after_all s es) j a.ask.component (got_of a r)) (sym (replying_events s w e f m a.drive c r k))
        (by_reading (command_in k.delivered.posted.message.body) refl)

  -- ---- the call

  new_are_shown : (call : Call) → (client_of w c).call ≡ Some call → file_of call.op ≡ f.kept.number →
      NewAreShown w (move w m).world (after_all s (joined (events_of s w e f m))) c j (awaited_in call.phase)
  new_are_shown call at here a r i p = elim (replied_before_or_now w m a.drive c r p.told) [
    | inl old ↦ inl old
    | inr now ↦ inr (reply_shown a r (record { call = call; is = at; here = here; awaits = i }) p.answers p.performed now)
  ]

  -- what its reads were shown, behind the move
  pub shown_beside : (call : Call) → (client_of w c).call ≡ Some call → file_of call.op ≡ f.kept.number →
      ShownIn s w c j call.phase → ShownIn (after_all s (joined (events_of s w e f m))) (move w m).world c j call.phase
  shown_beside call at here h = by_phase call.phase (new_are_shown call at here) h
    where
      by_phase : (p : Phase) → NewAreShown w (move w m).world (after_all s (joined (events_of s w e f m))) c j (awaited_in p) →
          ShownIn s w c j p → ShownIn (after_all s (joined (events_of s w e f m))) (move w m).world c j p
      by_phase (Reads io) new h =
          are_shown_stay s (after_all s (joined (events_of s w e f m))) w (move w m).world c j io
          (shown_grows s (joined (events_of s w e f m))) new h
      by_phase (Probes io) new h =
          are_shown_stay s (after_all s (joined (events_of s w e f m))) w (move w m).world c j io
          (shown_grows s (joined (events_of s w e f m))) new h
      by_phase (Gathers io) new h =
          are_shown_stay s (after_all s (joined (events_of s w e f m))) w (move w m).world c j io
          (shown_grows s (joined (events_of s w e f m))) new h
      by_phase (Scatters io queue) new h = tt
      by_phase Starts new h = tt
      by_phase (Needs need) new h = tt
      by_phase (Waits need) new h = tt
