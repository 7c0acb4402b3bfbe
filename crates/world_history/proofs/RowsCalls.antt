-- Calls that are over at once, refused, left waiting, sent again and answered late; a client that was stopped.
-- The scenario:
-- drive d0 0b..0b 20000
-- client c0
-- fail d0
-- file f0 1 4 0 0 0 1 1
-- declare d0
-- call c0 write f0 0 -
-- call c0 read f0 0 1
-- do c0 read f0 0 1
-- leave c0
-- timeout c0 0
-- resend c0
-- deliver 1
-- deliver 2
-- do c0 read f0 0 262145
-- stop c0
-- settle
use Rattle.std.specs.Prelude.{List, [], ◌∷◌, refl, ◌≡◌}
use Rattle.scenario_text.specs.declared.event.Event.{Event}
use Rattle.scenario_text.specs.declared.event.Event.TheVariants as event
use Rattle.scenario_text.specs.declared.event.Call.TheVariants as call
use Rattle.scenario_text.specs.declared.event.Sender.TheVariants as sender
use Rattle.scenario_text.specs.declared.line.Line.{Line}
use Rattle.scenario_text.specs.declared.line.Line.TheVariants as line
use Rattle.scenario_text.specs.declared.line.Note.TheVariants as note
use Rattle.scenario_text.specs.declared.line.Outcome.TheVariants as outcome
use Rattle.scenario_text.specs.declared.line.Party.TheVariants as party
use Rattle.scenario_text.specs.declared.line.Refusal.TheVariants as refusal
use Rattle.world_history.proofs.Played.{shown, sent, taken, deaf, drive, file}
use Rattle.world_history.proofs.Opened.{opened}
use Rattle.world_history.proofs.OpenedText.{opened_text}
use Rattle.world_history.proofs.OpenedServer.{opened_server}
use Rattle.world_history.proofs.OpenedClient.{opened_client}

abbrev events : List Event
events =
    drive 0 ∷
    event.Client 0 ∷
    event.Fail 0 ∷
    file 0 1 1 ∷
    event.Declare 0 ∷
    event.Call 0 (call.Write 0 0 []) ∷
    event.Call 0 (call.Read 0 0 1) ∷
    event.Do 0 (call.Read 0 0 1) ∷
    event.Leave 0 ∷
    event.Timeout 0 0 ∷
    event.Resend (sender.Client 0) ∷
    event.Deliver 1 ∷
    event.Deliver 2 ∷
    event.Do 0 (call.Read 0 0 262145) ∷
    event.Stop 0 ∷
    event.Settle ∷
    []

abbrev lines : List Line
lines =
    line.Event (drive 0) ∷
    line.Event (event.Client 0) ∷
    line.Event (event.Fail 0) ∷
    line.Event (file 0 1 1) ∷
    sent 0 party.Server (party.Drive 0) ∷
    deaf 0 ∷
    line.Event (event.Declare 0) ∷
    line.Note 0 note.Ready ∷
    line.Event (event.Call 0 (call.Write 0 0 [])) ∷
    line.Ended 0 (outcome.WriteOk 0) ∷
    line.Event (event.Call 0 (call.Read 0 0 1)) ∷
    sent 1 (party.Client 0) party.Server ∷
    line.Event (event.Do 0 (call.Read 0 0 1)) ∷
    line.Refused 0 refusal.Busy ∷
    line.Event (event.Leave 0) ∷
    line.Refused 0 refusal.Busy ∷
    line.Event (event.Timeout 0 0) ∷
    line.TimedOut 0 0 ∷
    line.Event (event.Resend (sender.Client 0)) ∷
    sent 2 (party.Client 0) party.Server ∷
    line.Event (event.Deliver 1) ∷
    taken 1 ∷
    sent 3 party.Server (party.Client 0) ∷
    line.Event (event.Deliver 2) ∷
    taken 2 ∷
    sent 4 party.Server (party.Client 0) ∷
    line.Event (event.Do 0 (call.Read 0 0 262145)) ∷
    line.Refused 0 refusal.Busy ∷
    line.Event (event.Stop 0) ∷
    line.Event event.Settle ∷
    deaf 3 ∷
    deaf 4 ∷
    []

pub plays : shown events ≡ lines
unfolding opened opened_server opened_client opened_text
plays = refl
