-- A server that dies while a client may write, and is opened: it fences the file before it gives anything again, and
-- what came to it while it was down is lost. A drive that crashed hears nothing, and the fence waits for it; it ends
-- where the drive fails and is declared.
-- The world begins with drive 0, which is kept, client 0, and file 0 on that drive, on which client 1 has a grant.
-- Then the scenario goes on:
-- crash d0
-- crash s
-- do c0 read f0 0 1
-- reopen s
-- resend c0
-- settle
-- fail d0
-- declare d0
use Rattle.std.specs.Prelude.{true, false, List, [], ◌∷◌, ◌++◌, None, map, refl, ◌≡◌}
use Rattle.scenario_text.specs.declared.event.Event.{Event}
use Rattle.scenario_text.specs.declared.event.Event.TheVariants as event
use Rattle.scenario_text.specs.declared.event.Call.TheVariants as call
use Rattle.scenario_text.specs.declared.event.Machine.TheVariants as machine
use Rattle.scenario_text.specs.declared.event.Sender.TheVariants as sender
use Rattle.scenario_text.specs.declared.line.CallKind.TheVariants as kind
use Rattle.scenario_text.specs.declared.line.Ending.TheVariants as ending
use Rattle.scenario_text.specs.declared.line.Line.{Line}
use Rattle.scenario_text.specs.declared.line.Line.TheVariants as line
use Rattle.scenario_text.specs.declared.line.Note.TheVariants as note
use Rattle.scenario_text.specs.declared.line.Party.TheVariants as party
use Rattle.world_history.specs.ServerNames.{File, Still}
use Rattle.world_history.specs.State.{World, empty_world}
use Rattle.world_history.proofs.Played.{played_all, without_bytes, sent, taken, deaf, fails}
use Rattle.world_history.proofs.Opened.{opened}
use Rattle.world_history.proofs.OpenedText.{opened_text}
use Rattle.world_history.proofs.OpenedServer.{opened_server}
use Rattle.world_history.proofs.OpenedClient.{opened_client}

abbrev granted : File
granted = record {
  kept = record {
    number = 0;
    map = record { comps = 1; unit = 4; width = 0; depth = 0; mirrors = 0; algorithm = 1 };
    zoned = false;
    first_tag = 1;
    tag = 1;
    format = 1;
    size = 0;
    high = 1;
    ready = true;
    phase = Still;
    components = record { drive = 0; object = 65536; missing = false } ∷ [];
    grants = record {
      number = 1;
      client = 1;
      file = 0;
      rw = true;
      extending = true;
      first = 0;
      end = 1;
      expiry = 90;
    } ∷ [];
    ended = [];
  };
  spent = false;
  job = None;
}

abbrev made : World
made = (played_all empty_world (event.Disk 0 [] 20000 ∷ event.Client 0 ∷ [])).world

abbrev first : World
first = record made { server = record made.server { files = granted ∷ []; next_grant = 2 } }

abbrev events : List Event
events =
    event.Crash (machine.Drive 0) ∷
    event.Crash machine.Server ∷
    event.Do 0 (call.Read 0 0 1) ∷
    event.Reopen machine.Server ∷
    event.Resend (sender.Client 0) ∷
    event.Settle ∷
    event.Fail 0 ∷
    event.Declare 0 ∷
    []

abbrev lines : List Line
lines =
    line.Event (event.Crash (machine.Drive 0)) ∷
    line.Event (event.Crash machine.Server) ∷
    line.Event (event.Do 0 (call.Read 0 0 1)) ∷
    sent 0 (party.Client 0) party.Server ∷
    deaf 0 ∷
    fails 0 kind.Read ending.Pending ∷
    line.Event (event.Reopen machine.Server) ∷
    sent 1 party.Server (party.Drive 0) ∷
    line.Event (event.Resend (sender.Client 0)) ∷
    sent 2 (party.Client 0) party.Server ∷
    line.Event event.Settle ∷
    deaf 1 ∷
    taken 2 ∷
    sent 3 party.Server (party.Client 0) ∷
    taken 3 ∷
    sent 4 (party.Client 0) party.Server ∷
    taken 4 ∷
    sent 5 party.Server (party.Client 0) ∷
    taken 5 ∷
    sent 6 (party.Client 0) party.Server ∷
    taken 6 ∷
    sent 7 party.Server (party.Client 0) ∷
    taken 7 ∷
    fails 0 kind.Read (ending.Fencing 0) ∷
    line.Event (event.Fail 0) ∷
    line.Event (event.Declare 0) ∷
    line.Note 0 (note.Fenced 2) ∷
    line.Note 0 (note.Repaired 1 1) ∷
    []

pub plays : map without_bytes (played_all first events).lines ≡ lines
unfolding opened opened_server opened_client opened_text
plays = refl
