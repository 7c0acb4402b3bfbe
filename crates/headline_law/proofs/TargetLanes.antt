-- No client has a lane at the object of a rebuild's target, since none sent anything there.
use Rattle.std.proofs.Common.{◌≡◌, ◌<◌, ◌^◌, ℕ, List, Option, Some, None, refl, sym, ap, subst, ◌∙◌, arith, inl, inr}
use Rattle.osd_commands.specs.declared.commands.Command.{Command}
use Rattle.osd_commands.specs.Commands.{reading, spelling}
use Rattle.osd_lists.specs.declared.node.Node.{Node}
use Rattle.osd_lists.specs.declared.node.Node.TheVariants as node
use Rattle.osd_objects.specs.Lanes.{place_of}
use Rattle.osd_objects.specs.declared.lanes.LaneEntry.{LaneEntry}
use Rattle.scenario_text.specs.declared.line.Line.{Line}
use Rattle.scenario_text.specs.declared.line.Party.TheVariants as party
use Rattle.server_rules.specs.declared.limits.TheConstants.{SERVER_HOLDER}
use Rattle.server_rules.specs.Laws.{In}
use Rattle.server_rules.proofs.Members.{in_map}
use Rattle.world_history.specs.Reading.{sent_in}
use Rattle.world_history.specs.Spelled.{spelled}
use Rattle.world_history.specs.State.{World, DriveAt, at_number}
use Rattle.world_history.specs.declared.messages.Body.{Body}
use Rattle.world_history.specs.declared.messages.Message.{Message}
use Rattle.world_history.specs.declared.messages.Posted.{Posted}
use Rattle.world_history.specs.declared.messages.Sent.{Sent}
use Rattle.world_history.proofs.Parties.{party_client, party_drive}
use Rattle.history_law.specs.BookMoments.{IsMoment}
use Rattle.history_law.specs.Said.{said}
use Rattle.history_law.proofs.DriveLines.{drive_read, sent_read}
use Rattle.history_law.proofs.LaneLines.{letter, letters, in_get}
use Rattle.history_law.proofs.Spelled.{command_reads}
use Rattle.history_law.proofs.Heard.{letter_message}
use Rattle.cause_law.proofs.Objects.{placed_there}
use Rattle.exchange_law.specs.Lanes.{LanesAreOwn, IsFrom}
use Rattle.exchange_law.specs.Sent.{HasSent}
use Rattle.exchange_law.proofs.CountGrowing.{as_many}
use Rattle.exchange_law.proofs.CountMoments.{reached}
use Rattle.exchange_law.proofs.Knowing.{lawful_at}
use Rattle.exchange_law.proofs.PlaceWorlds.{PostPlaced}
use Rattle.exchange_law.proofs.Replied.{read_at}
use Rattle.exchange_law.proofs.LaneRows.{lane_found}
use Rattle.file_simulation.specs.Claim.{IsOfScenario}
use Rattle.file_simulation.specs.Components.{object_on}
use Rattle.relation_law.proofs.ComponentsMoved.{MovedLaws}
use Rattle.relation_law.proofs.ComponentsSenders.{placed_by, same_message}
use Rattle.relation_law.proofs.FramesFiles.{files_distinct}
use Rattle.relation_law.proofs.KeptServer.{at_place}
use Rattle.headline_law.specs.TargetLaws.{NoLanesAtTargets}
use Rattle.headline_law.proofs.SentUnaimed.{IsUnaimed}
use Rattle.headline_law.proofs.SentUntouched.{are_unaimed, is_backed}

module _ (laws : MovedLaws) (w : World) (h : List Line) (k : IsMoment w h) (scenario : IsOfScenario h) where
  -- what a client sent names no target
  unaimed : (c d : ℕ) (x : Command) → HasSent w c d x → IsUnaimed x.object w.server
  unaimed c d x has = are_unaimed laws w h k scenario c d x has (is_backed laws w h k scenario c d x has)

  -- a lane is of a command that the client sent
  record IsSentAt (c object : ℕ) : Type 0 where
    drive : ℕ
    command : Command
    sent : HasSent w c drive command
    same : object ≡ command.object

  sent_at : (c d object : ℕ) (l : LaneEntry) → IsFrom h (party.Client c) d object l → IsSentAt c object
  sent_at c d object l from =
      let read = read_at w h k in
      let q = letter_message w.network.messages (letter from.message)
      (subst (λ (ss : List Sent). In (letter from.message) (letters ss)) (sent_read w read.injected h read.drives)
      (in_map letter from.message (sent_in h) (in_get (sent_in h) from.number from.message from.there))) in
      let b : Message = q.0.message in
      let sender : b.from ≡ node.Client c = party_client b.from c (ap (λ (x : Sent). x.from) (sym q.2) ∙ from.sender) in
      let receiver : b.to ≡ node.Drive d = party_drive b.to d (ap (λ (x : Sent). x.to) (sym q.2) ∙ from.receiver) in
      let i : In b (said w.network.messages) = in_map (λ (p : Posted). p.message) q.0 w.network.messages q.1 in
      let fit = laws.answers h (lawful_at w h k) scenario.text scenario.few in
      let placed : PostPlaced (node.Client c) (node.Drive d) b.body =
      subst (λ (n : Node). PostPlaced (node.Client c) n b.body) receiver
      (subst (λ (n : Node). PostPlaced n b.to b.body) sender (placed_there w h k fit b i)) in
      let y = placed_by c d b.body placed in
      let has : HasSent w c d y.command =
      subst (λ (z : Body). In (record { from = node.Client c; to = node.Drive d; body = z }) (said w.network.messages)) y.is
      (subst (λ (z : Message). In z (said w.network.messages)) (same_message b (node.Client c) (node.Drive d) sender
      receiver) i) in
      let bytes : from.message.bytes ≡ spelling y.command = ap (λ (x : Sent). x.bytes) q.2 ∙ ap spelled y.is in
      let reads = command_reads y.command from.command (ap reading (sym bytes) ∙ from.read) in
      let used = (unaimed c d y.command has).given in
      let next : w.server.next_object < 2 ^ 64 =
      omega (arith, (laws.made.counted w h k scenario.text).objects, as_many w h read, scenario.few) in
      record {
        drive = d;
        command = y.command;
        sent = has;
        same = sym from.object_is ∙ reads.object (omega (arith, used, next));
      }

pub no_lanes : MovedLaws → LanesAreOwn → NoLanesAtTargets
no_lanes laws own w h k scenario clean f here t aim c o l low there lane =
    by_drive (at_number w.drives t.drive) refl there
  where
    by_drive : (a : Option DriveAt) → at_number w.drives t.drive ≡ a → object_on a t.object ≡ Some o → ⊥
    by_drive None is found = cc found
    by_drive (Some a) is found =
        let read = read_at w h k in
        let lanes = own h (lawful_at w h k) clean t.drive a
        (drive_read w read.injected h t.drive read.drives ∙ is) t.object o found in
        let its = lane_found o.lanes c (place_of o.lanes c) l refl lane in
        elim (lanes.own l its.0) [
          | inl server ↦ not_low (sym its.1 ∙ server.0)
          | inr client ↦
              let s = sent_at laws w h k scenario l.holder t.drive t.object l client.1 in
              (unaimed laws w h k scenario l.holder s.drive s.command s.sent).none f.kept.number f t
              (at_place w.server.files f (files_distinct w (reached w h k)) here) aim s.same
        ]
      where
        not_low : c ≡ SERVER_HOLDER → ⊥
        not_low e = omega (arith, low, e)
