-- A drive that failed: a file whose job waits, a call that asks three times, a declaration, a file that lacks too much.
-- The scenario:
-- drive d0 0b..0b 20000
-- client c0
-- fail d0
-- file f0 1 4 0 0 0 1 1
-- do c0 read f0 0 1
-- settle
-- declare d0
-- do c0 write f0 0 41
-- leave c0
-- stop c0
use Rattle.std.specs.Prelude.{List, [], ◌∷◌, refl, ◌≡◌}
use Rattle.scenario_text.specs.declared.event.Event.{Event}
use Rattle.scenario_text.specs.declared.event.Event.TheVariants as event
use Rattle.scenario_text.specs.declared.event.Call.TheVariants as call
use Rattle.scenario_text.specs.declared.line.CallKind.TheVariants as kind
use Rattle.scenario_text.specs.declared.line.Ending.TheVariants as ending
use Rattle.scenario_text.specs.declared.line.Line.{Line}
use Rattle.scenario_text.specs.declared.line.Line.TheVariants as line
use Rattle.scenario_text.specs.declared.line.Note.TheVariants as note
use Rattle.scenario_text.specs.declared.line.Party.TheVariants as party
use Rattle.world_history.proofs.Played.{shown, sent, taken, deaf, fails, drive, file}
use Rattle.world_history.proofs.Opened.{opened}
use Rattle.world_history.proofs.OpenedText.{opened_text}
use Rattle.world_history.proofs.OpenedServer.{opened_server}
use Rattle.world_history.proofs.OpenedClient.{opened_client}

abbrev events : List Event
events =
    drive 0 ∷
    event.Client 0 ∷
    event.Fail 0 ∷
    file 0 1 1 ∷
    event.Do 0 (call.Read 0 0 1) ∷
    event.Settle ∷
    event.Declare 0 ∷
    event.Do 0 (call.Write 0 0 (65 ∷ [])) ∷
    event.Leave 0 ∷
    event.Stop 0 ∷
    []

abbrev lines : List Line
lines =
    line.Event (drive 0) ∷
    line.Event (event.Client 0) ∷
    line.Event (event.Fail 0) ∷
    line.Event (file 0 1 1) ∷
    sent 0 party.Server (party.Drive 0) ∷
    deaf 0 ∷
    line.Event (event.Do 0 (call.Read 0 0 1)) ∷
    sent 1 (party.Client 0) party.Server ∷
    taken 1 ∷
    sent 2 party.Server (party.Client 0) ∷
    taken 2 ∷
    sent 3 (party.Client 0) party.Server ∷
    taken 3 ∷
    sent 4 party.Server (party.Client 0) ∷
    taken 4 ∷
    sent 5 (party.Client 0) party.Server ∷
    taken 5 ∷
    sent 6 party.Server (party.Client 0) ∷
    taken 6 ∷
    fails 0 kind.Read (ending.Fencing 0) ∷
    line.Event event.Settle ∷
    line.Event (event.Declare 0) ∷
    line.Note 0 note.Ready ∷
    line.Event (event.Do 0 (call.Write 0 0 (65 ∷ []))) ∷
    sent 7 (party.Client 0) party.Server ∷
    taken 7 ∷
    sent 8 party.Server (party.Client 0) ∷
    taken 8 ∷
    fails 0 kind.Write (ending.Degraded 0) ∷
    line.Event (event.Leave 0) ∷
    line.Event (event.Stop 0) ∷
    []

pub plays : shown events ≡ lines
unfolding opened opened_server opened_client opened_text
plays = refl
