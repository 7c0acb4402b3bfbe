-- What the server commands, and what drives have, is under numbers that the server used.
use Rattle.std.proofs.Common.{◌≡◌, ◌<◌, ◌^◌, ℕ, List, [], Option, Some, None, refl, sym, ap, subst, ◌∙◌, arith}
use Rattle.std.proofs.lemmas.List.{append-nil}
use Rattle.osd_commands.specs.declared.commands.Command.{Command}
use Rattle.osd_commands.specs.Commands.{reading}
use Rattle.osd_objects.specs.declared.object.StoredObject.{StoredObject}
use Rattle.scenario_text.specs.declared.line.Line.{Line}
use Rattle.server_rules.proofs.Members.{in_map}
use Rattle.world_history.specs.Reading.{sent_in}
use Rattle.world_history.specs.ServerNames.{Server}
use Rattle.world_history.specs.State.{World, DriveAt, at_number}
use Rattle.history_law.specs.BookMoments.{IsMoment}
use Rattle.history_law.specs.Unforged.{AreUnforged}
use Rattle.history_law.proofs.DriveEvents.{IsRead}
use Rattle.history_law.proofs.DriveLines.{drive_read}
use Rattle.history_law.proofs.Holding.{Holds, holds}
use Rattle.history_law.proofs.LaneLines.{letter, in_get}
use Rattle.history_law.proofs.Spelled.{command_reads}
use Rattle.history_law.proofs.Heard.{world_command}
use Rattle.exchange_law.specs.Counters.{ServerIsCounted}
use Rattle.exchange_law.proofs.CountGrowing.{as_many}
use Rattle.exchange_law.proofs.CountMoments.{at_moment}
use Rattle.exchange_law.proofs.Knowing.{lawful_at}
use Rattle.exchange_law.proofs.Replied.{read_at}
use Rattle.component_law.specs.Origin.{EachTagWasSent}
use Rattle.component_law.specs.Sent.{IsSentByRun}
use Rattle.component_law.specs.Tagged.{NoCommandIsAhead}
use Rattle.file_simulation.specs.Claim.{IsOfScenario}
use Rattle.file_simulation.specs.Components.{object_on}
use Rattle.file_simulation.specs.Messages.{HasCommanded}

-- the server's commands
pub commanded_used : NoCommandIsAhead → (w : World) → IsSentByRun w → (d : ℕ) (x : Command) → HasCommanded w d x →
    x.object < w.server.next_object
commanded_used ahead w run d x has =
    let all = (ahead run.acts run.named).1 run.acts [] (sym (append-nil run.acts)) in
    subst (λ (s : Server). x.object < s.next_object) (sym run.server) (all.1 d x (run.sends d x has)).used

module _ (ahead : NoCommandIsAhead) (given : EachTagWasSent) (counted : ServerIsCounted) (w : World) (h : List Line)
    (k : IsMoment w h) (scenario : IsOfScenario h) (unforged : AreUnforged h) (run : IsSentByRun w) where
  read : IsRead w h
  read = read_at w h k

  -- an object of a drive was created or tagged by a command of the server
  on_drive : (d n : ℕ) (a : DriveAt) (o : StoredObject) → at_number w.drives d ≡ Some a →
      object_on (Some a) n ≡ Some o → n < w.server.next_object
  on_drive d n a o there found =
      let g = given h (lawful_at w h k) unforged d a (drive_read w read.injected h d read.drives ∙ there) n o found in
      let c = world_command w h read (at_moment Holds holds w h k).numbers d g.message.bytes (record {
        message = letter g.message;
        sent = in_map letter g.message (sent_in h) (in_get (sent_in h) g.number g.message g.there);
        sender = g.sender;
        receiver = g.receiver;
        bytes_are = refl;
      }) in
      let reads = command_reads c.command g.command (ap reading (sym c.bytes_are) ∙ g.read) in
      let used : c.command.object < w.server.next_object = commanded_used ahead w run d c.command c.sent in
      let next : w.server.next_object < 2 ^ 64 =
      omega (arith, (counted w h k scenario.text).objects, as_many w h read, scenario.few) in
      let same : g.command.object ≡ c.command.object = reads.object (omega (arith, used, next)) in
      omega (arith, used, same, g.object_is)

  pub stored_used : (d n : ℕ) (o : StoredObject) → object_on (at_number w.drives d) n ≡ Some o → n < w.server.next_object
  stored_used d n o found = by (at_number w.drives d) refl found
    where
      by : (a : Option DriveAt) → at_number w.drives d ≡ a → object_on a n ≡ Some o → n < w.server.next_object
      by None there e = absurd (cc e)
      by (Some a) there e = on_drive d n a o there e
