-- Orders on a file whose job waits for a drive that failed, messages that are dropped and sent again, and files
-- that are refused.
-- The scenario:
-- drive d0 0b..0b 20000
-- fail d0
-- file f0 1 4 0 0 0 1 1
-- revoke f0
-- rebuild f0
-- audit f0
-- recall f0
-- resend s
-- drop 1
-- settle
-- deliver 1
-- declare d0
-- file f0 1 4 0 0 0 1 1
-- file f1 2 4 0 0 0 1 1
-- file f1 1 0 0 0 0 1 1
use Rattle.std.specs.Prelude.{List, [], ◌∷◌, refl, ◌≡◌}
use Rattle.scenario_text.specs.declared.event.Event.{Event}
use Rattle.scenario_text.specs.declared.event.Event.TheVariants as event
use Rattle.scenario_text.specs.declared.event.Sender.TheVariants as sender
use Rattle.scenario_text.specs.declared.line.Line.{Line}
use Rattle.scenario_text.specs.declared.line.Line.TheVariants as line
use Rattle.scenario_text.specs.declared.line.MapFault.TheVariants as map_fault
use Rattle.scenario_text.specs.declared.line.Note.TheVariants as note
use Rattle.scenario_text.specs.declared.line.Party.TheVariants as party
use Rattle.world_history.proofs.Played.{shown, sent, deaf, drive, file}
use Rattle.world_history.proofs.Opened.{opened}
use Rattle.world_history.proofs.OpenedText.{opened_text}
use Rattle.world_history.proofs.OpenedServer.{opened_server}
use Rattle.world_history.proofs.OpenedClient.{opened_client}

abbrev events : List Event
events =
    drive 0 ∷
    event.Fail 0 ∷
    file 0 1 1 ∷
    event.Revoke 0 ∷
    event.Rebuild 0 ∷
    event.Audit 0 ∷
    event.Recall 0 ∷
    event.Resend sender.Server ∷
    event.DropMessage 1 ∷
    event.Settle ∷
    event.Deliver 1 ∷
    event.Declare 0 ∷
    file 0 1 1 ∷
    file 1 2 1 ∷
    event.File 1 (record { components = 1; unit = 0; width = 0; depth = 0; mirrors = 0; algorithm = 1 }) 1 ∷
    []

abbrev lines : List Line
lines =
    line.Event (drive 0) ∷
    line.Event (event.Fail 0) ∷
    line.Event (file 0 1 1) ∷
    sent 0 party.Server (party.Drive 0) ∷
    deaf 0 ∷
    line.Event (event.Revoke 0) ∷
    line.Note 0 (note.Busy 0) ∷
    line.Event (event.Rebuild 0) ∷
    line.Note 0 (note.Busy 0) ∷
    line.Event (event.Audit 0) ∷
    line.Note 0 (note.Busy 0) ∷
    line.Event (event.Recall 0) ∷
    line.Event (event.Resend sender.Server) ∷
    sent 1 party.Server (party.Drive 0) ∷
    line.Event (event.DropMessage 1) ∷
    line.Event event.Settle ∷
    line.Event (event.Deliver 1) ∷
    deaf 1 ∷
    line.Event (event.Declare 0) ∷
    line.Note 0 note.Ready ∷
    line.Event (file 0 1 1) ∷
    line.Note 0 note.Exists ∷
    line.Event (file 1 2 1) ∷
    line.Note 1 (note.TooFew 0) ∷
    line.Event (event.File 1 (record {
      components = 1;
      unit = 0;
      width = 0;
      depth = 0;
      mirrors = 0;
      algorithm =
          1;
    }) 1) ∷
    line.Note 1 (note.BadMap map_fault.Unit) ∷
    []

pub plays : shown events ≡ lines
unfolding opened opened_server opened_client opened_text
plays = refl
