-- Which events are refused, and by which cause first.
-- The world: drives 0 and 1 with drive 0 failed, clients 0 and 1 with client 1 stopped, file 0, one message.
use Rattle.std.specs.Prelude.{List, [], ◌∷◌, Option, Some, None, refl, ◌≡◌, map}
use Rattle.scenario_text.specs.declared.event.Event.{Event}
use Rattle.scenario_text.specs.declared.event.Event.TheVariants as event
use Rattle.scenario_text.specs.declared.event.Call.TheVariants as call
use Rattle.scenario_text.specs.declared.event.Sender.TheVariants as sender
use Rattle.scenario_text.specs.declared.event.Machine.TheVariants as machine
use Rattle.server_rules.specs.Zoning.{put_in_zone}
use Rattle.world_history.specs.declared.err.WorldErr.{WorldErr}
use Rattle.world_history.specs.declared.err.WorldErr.TheVariants.{NoName, Taken, Dead, Alive, NotKept, Down, Running, NoMessage}
use Rattle.world_history.specs.State.{World, empty_world}
use Rattle.world_history.specs.Refusals.{refusal}
use Rattle.world_history.proofs.Played.{played_all, drive, file}
use Rattle.world_history.proofs.Opened.{opened}
use Rattle.world_history.proofs.OpenedServer.{opened_server}

abbrev world : World
world = (played_all empty_world (
    drive 0 ∷
    event.Client 0 ∷
    event.Client 1 ∷
    event.Fail 0 ∷
    event.Stop 1 ∷
    file 0 1 1 ∷
    drive 1 ∷
    [])).world

abbrev refused : List Event → List (Option WorldErr)
refused events = map (refusal world) events

-- what is to be made, and files
pub makes : refused (
    drive 0 ∷
    drive 2 ∷
    event.Client 1 ∷
    event.Client 2 ∷
    file 0 1 1 ∷
    event.Recall 0 ∷
    event.Recall 1 ∷
    event.Audit 1 ∷
    [])
    ≡ Some Taken ∷ None ∷ Some Taken ∷ None ∷ None ∷ None ∷ Some NoName ∷ Some NoName ∷ []
unfolding opened opened_server
makes = refl

-- drives
pub drives : refused (
    event.Fail 0 ∷
    event.Fail 1 ∷
    event.Fail 2 ∷
    event.Declare 0 ∷
    event.Declare 1 ∷
    event.Declare 2 ∷
    event.Inject 0 [] ∷
    event.Least 0 2 ∷
    event.Clock (machine.Drive 0) 1 ∷
    event.Clock machine.Server 1 ∷
    [])
    ≡ Some Dead ∷ None ∷ Some NoName ∷ None ∷ Some Alive ∷ Some NoName ∷ Some Dead ∷ Some Dead ∷ Some Dead ∷ None ∷ []
unfolding opened opened_server
drives = refl

-- clients; the files of calls needn't exist
pub clients : refused (
    event.Do 0 (call.Read 9 0 1) ∷
    event.Do 1 (call.Read 9 0 1) ∷
    event.Call 2 (call.Read 0 0 1) ∷
    event.Timeout 1 0 ∷
    event.Leave 2 ∷
    event.Stop 1 ∷
    event.Resend (sender.Client 1) ∷
    event.Resend sender.Server ∷
    [])
    ≡ None ∷ Some Dead ∷ Some NoName ∷ Some Dead ∷ Some NoName ∷ Some Dead ∷ Some Dead ∷ None ∷ []
unfolding opened opened_server
clients = refl

-- crashes and openings, while all that lives is up: drive 1 keeps nothing
pub restarts : refused (
    event.Crash (machine.Drive 0) ∷
    event.Crash (machine.Drive 1) ∷
    event.Crash (machine.Drive 2) ∷
    event.Reopen (machine.Drive 0) ∷
    event.Reopen (machine.Drive 1) ∷
    event.Reopen (machine.Drive 2) ∷
    event.Crash machine.Server ∷
    event.Reopen machine.Server ∷
    [])
    ≡ Some Dead ∷ Some NotKept ∷ Some NoName ∷ Some Dead ∷ Some NotKept ∷ Some NoName ∷ None ∷ Some Running ∷ []
unfolding opened opened_server
restarts = refl

-- messages, formats, and a drive that there isn't
pub others : refused (
    event.Deliver 0 ∷
    event.Deliver 1 ∷
    event.DropMessage 1 ∷
    event.Settle ∷
    event.Format 2 ∷
    event.Zone 9 1 ∷
    [])
    ≡ None ∷ Some (NoMessage 1) ∷ Some (NoMessage 1) ∷ None ∷ None ∷ Some NoName ∷ []
unfolding opened opened_server
others = refl

-- ---- while the server is down

-- The world: drive 0, which is kept, is down, drive 1 failed and is kept, client 0, file 0, one message.
abbrev down : World
down = (played_all empty_world (
    event.Disk 0 [] 20000 ∷
    event.Disk 1 [] 20000 ∷
    event.Client 0 ∷
    event.Crash (machine.Drive 0) ∷
    event.Fail 1 ∷
    file 0 1 1 ∷
    event.Crash machine.Server ∷
    [])).world

abbrev refused_then : List Event → List (Option WorldErr)
refused_then events = map (refusal down) events

-- drives: what is said of each of them comes before the server
pub drives_then : refused_then (
    drive 0 ∷
    drive 2 ∷
    event.Disk 1 [] 20000 ∷
    event.Disk 2 [] 20000 ∷
    event.Crash (machine.Drive 0) ∷
    event.Crash (machine.Drive 1) ∷
    event.Reopen (machine.Drive 0) ∷
    event.Reopen (machine.Drive 1) ∷
    event.Inject 0 [] ∷
    event.Least 0 2 ∷
    event.Clock (machine.Drive 0) 1 ∷
    event.Fail 0 ∷
    event.Declare 0 ∷
    event.Declare 1 ∷
    event.Declare 2 ∷
    [])
    ≡ Some Taken ∷ Some Down ∷ Some Taken ∷ Some Down ∷ Some Down ∷ Some Dead ∷ None ∷ Some Dead ∷ Some Down ∷ Some Down
    ∷ None ∷ None ∷ Some Alive ∷ Some Down ∷ Some NoName ∷ []
unfolding opened opened_server
drives_then = refl

-- the server and its files
pub server_then : refused_then (
    file 1 1 1 ∷
    event.Recall 0 ∷
    event.Recall 1 ∷
    event.Revoke 0 ∷
    event.Rebuild 0 ∷
    event.Audit 0 ∷
    event.Format 2 ∷
    event.Resend sender.Server ∷
    event.Clock machine.Server 1 ∷
    event.Crash machine.Server ∷
    event.Reopen machine.Server ∷
    [])
    ≡ Some Down ∷ Some Down ∷ Some NoName ∷ Some Down ∷ Some Down ∷ Some Down ∷ Some Down ∷ Some Down ∷ Some Down
    ∷ Some Down ∷ None ∷ []
unfolding opened opened_server
server_then = refl

-- clients and messages
pub others_then : refused_then (
    event.Client 1 ∷
    event.Do 0 (call.Read 0 0 1) ∷
    event.Resend (sender.Client 0) ∷
    event.Deliver 0 ∷
    event.DropMessage 0 ∷
    event.Settle ∷
    [])
    ≡ None ∷ None ∷ None ∷ None ∷ None ∷ None ∷ []
unfolding opened opened_server
others_then = refl

-- ---- zones

-- The world: drives 0 to 3, of which 0 and 1 are in a zone, and 1 and 2 failed.
abbrev zoned : World
zoned = (played_all empty_world (
    drive 0 ∷
    drive 1 ∷
    drive 2 ∷
    drive 3 ∷
    event.Zone 0 5 ∷
    event.Zone 1 5 ∷
    event.Fail 1 ∷
    event.Fail 2 ∷
    [])).world

-- a drive is put into a zone once, also into the same; of a failed one that is in a zone this is said first
pub zones : map (refusal zoned) (
    event.Zone 0 6 ∷
    event.Zone 0 5 ∷
    event.Zone 1 6 ∷
    event.Zone 2 6 ∷
    event.Zone 3 6 ∷
    event.Zone 4 6 ∷
    [])
    ≡ Some Taken ∷ Some Taken ∷ Some Taken ∷ Some Dead ∷ None ∷ Some NoName ∷ []
unfolding opened opened_server put_in_zone
zones = refl

-- the same while the server is down
pub zones_then : map (refusal (played_all zoned (event.Crash machine.Server ∷ [])).world) (
    event.Zone 0 6 ∷
    event.Zone 2 6 ∷
    event.Zone 3 6 ∷
    event.Zone 4 6 ∷
    [])
    ≡ Some Taken ∷ Some Dead ∷ Some Down ∷ Some NoName ∷ []
unfolding opened opened_server put_in_zone
zones_then = refl
