-- Clocks, formats, bytes that spell no command, and a call past a limit.
-- The scenario:
-- drive d0 0b..0b 20000
-- client c0
-- clock d0 5
-- clock s 7
-- least d0 2
-- format s 2
-- inject d0 00
-- do c0 read f0 0 262145
-- do c0 read f9 0 1
use Rattle.std.specs.Prelude.{List, [], ◌∷◌, refl, ◌≡◌}
use Rattle.scenario_text.specs.declared.event.Event.{Event}
use Rattle.scenario_text.specs.declared.event.Event.TheVariants as event
use Rattle.scenario_text.specs.declared.event.Call.TheVariants as call
use Rattle.scenario_text.specs.declared.event.Machine.TheVariants as machine
use Rattle.scenario_text.specs.declared.line.CallKind.TheVariants as kind
use Rattle.scenario_text.specs.declared.line.Ending.TheVariants as ending
use Rattle.scenario_text.specs.declared.line.Line.{Line}
use Rattle.scenario_text.specs.declared.line.Line.TheVariants as line
use Rattle.scenario_text.specs.declared.line.Party.TheVariants as party
use Rattle.scenario_text.specs.declared.line.Refusal.TheVariants as refusal
use Rattle.scenario_text.specs.declared.line.Verdict.TheVariants as verdict
use Rattle.world_history.proofs.Played.{shown, sent, taken, fails, drive}
use Rattle.world_history.proofs.Opened.{opened}
use Rattle.world_history.proofs.OpenedText.{opened_text}
use Rattle.world_history.proofs.OpenedServer.{opened_server}
use Rattle.world_history.proofs.OpenedClient.{opened_client}

abbrev events : List Event
events =
    drive 0 ∷
    event.Client 0 ∷
    event.Clock (machine.Drive 0) 5 ∷
    event.Clock machine.Server 7 ∷
    event.Least 0 2 ∷
    event.Format 2 ∷
    event.Inject 0 (0 ∷ []) ∷
    event.Do 0 (call.Read 0 0 262145) ∷
    event.Do 0 (call.Read 9 0 1) ∷
    []

abbrev lines : List Line
lines =
    line.Event (drive 0) ∷
    line.Event (event.Client 0) ∷
    line.Event (event.Clock (machine.Drive 0) 5) ∷
    line.Event (event.Clock machine.Server 7) ∷
    line.Event (event.Least 0 2) ∷
    line.Event (event.Format 2) ∷
    line.Event (event.Inject 0 (0 ∷ [])) ∷
    line.Judged 0 verdict.Format ∷
    line.Event (event.Do 0 (call.Read 0 0 262145)) ∷
    line.Refused 0 refusal.BadRange ∷
    line.Event (event.Do 0 (call.Read 9 0 1)) ∷
    sent 0 (party.Client 0) party.Server ∷
    taken 0 ∷
    sent 1 party.Server (party.Client 0) ∷
    taken 1 ∷
    fails 0 kind.Read ending.NoFile ∷
    []

pub plays : shown events ≡ lines
unfolding opened opened_server opened_client opened_text
plays = refl
