-- When an event isn't carried out: the first cause that applies.
use Rattle.std.specs.Prelude.{ℕ, Bool, ◌==◌, ◌&&◌, nat_lt, length, Option, Some, None, is_some, is_none, if◌then◌else◌}
use Rattle.std.specs.List.{list_any}
use Rattle.server_rules.specs.declared.server.Server.{Server}
use Rattle.server_rules.specs.Files.{file_at}
use Rattle.scenario_text.specs.declared.event.Sender.TheVariants as sender
use Rattle.scenario_text.specs.declared.event.Machine.TheVariants as machine
use Rattle.scenario_text.specs.declared.event.Event.{Event}
use Rattle.scenario_text.specs.declared.event.Event.TheVariants as event
use Rattle.world_history.specs.declared.err.WorldErr.{WorldErr}
use Rattle.world_history.specs.declared.err.WorldErr.TheVariants.{NoName, Taken, Dead, Alive, NotKept, Down, Running, NoMessage}
use Rattle.world_history.specs.State.{DriveAt, ClientAt, World, at_number}

-- ---- tests

-- there is no such file
abbrev pub lacks_file : World → (file : ℕ) → Bool
lacks_file w f = is_none (file_at w.server.files f)

-- a client that was stopped is dead
abbrev pub unless_stopped : Option ClientAt → Option WorldErr
unless_stopped None = Some NoName
unless_stopped (Some a) = if a.stopped then Some Dead else None

-- a drive that failed is dead
abbrev pub unless_failed : Option DriveAt → Option WorldErr
unless_failed None = Some NoName
unless_failed (Some a) = if a.failed then Some Dead else None

-- a drive that is declared has failed
abbrev pub if_failed : Option DriveAt → Option WorldErr
if_failed None = Some NoName
if_failed (Some a) = if a.failed then None else Some Alive

-- what is made doesn't exist
abbrev pub unless_there : Bool → Option WorldErr
unless_there exists = if exists then Some Taken else None

-- a drive that is down takes nothing but what a delivery, a clock or a failure brings
abbrev pub unless_deaf : Option DriveAt → Option WorldErr
unless_deaf None = Some NoName
unless_deaf (Some a) = if a.failed then Some Dead else if a.down then Some Down else None

-- only a drive that is kept crashes, and only while it is up
abbrev pub if_up : Option DriveAt → Option WorldErr
if_up None = Some NoName
if_up (Some a) =
    if a.failed then Some Dead else if a.stored then (if a.down then Some Down else None) else Some NotKept

-- only one that is down is opened again
abbrev pub if_down : Option DriveAt → Option WorldErr
if_down None = Some NoName
if_down (Some a) =
    if a.failed then Some Dead else if a.stored then (if a.down then None else Some Running) else Some NotKept

-- the server is down
abbrev pub unless_down : World → Option WorldErr
unless_down w = if w.down then Some Down else None

-- by the server the drive is in a zone
abbrev pub is_zoned : Server → (drive : ℕ) → Bool
is_zoned s d = list_any (λ x. (x.number == d) && is_some x.zone) s.drives

-- the first cause of two
abbrev pub first_of : Option WorldErr → Option WorldErr → Option WorldErr
first_of (Some cause) next = Some cause
first_of None next = next

-- ---- causes

-- an event of a living client
abbrev pub of_client : World → (client : ℕ) → Option WorldErr
of_client w c = unless_stopped (at_number w.clients c)

-- of a drive that stands
abbrev pub of_drive : World → (drive : ℕ) → Option WorldErr
of_drive w d = unless_failed (at_number w.drives d)

-- of a file
abbrev pub of_file : World → (file : ℕ) → Option WorldErr
of_file w f = if lacks_file w f then Some NoName else None

-- of a file, by the server
abbrev pub of_served_file : World → (file : ℕ) → Option WorldErr
of_served_file w f = first_of (of_file w f) (unless_down w)

-- of a drive that is to be made, which the server is told of
abbrev pub of_new_drive : World → (drive : ℕ) → Option WorldErr
of_new_drive w d = first_of (unless_there (is_some (at_number w.drives d))) (unless_down w)

-- only a drive that is in no zone, and stands, is put into one
abbrev pub unless_zoned : (zoned : Bool) → Option DriveAt → Option WorldErr
unless_zoned zoned None = Some NoName
unless_zoned zoned (Some a) = if zoned then Some Taken else if a.failed then Some Dead else None

-- of a drive that is to be put into a zone, which the server is told of
abbrev pub of_zone : World → (drive : ℕ) → Option WorldErr
of_zone w d = first_of (unless_zoned (is_zoned w.server d) (at_number w.drives d)) (unless_down w)

-- of a message
abbrev pub of_message : World → (number : ℕ) → Option WorldErr
of_message w number = if nat_lt number (length w.network.messages) then None else Some (NoMessage number)

-- why an event isn't carried out; None where it is
unfoldable pub refusal : World → Event → Option WorldErr
refusal w (event.Drive d key capacity) = of_new_drive w d
refusal w (event.Disk d key capacity) = of_new_drive w d
refusal w (event.Client c) = unless_there (is_some (at_number w.clients c))
refusal w (event.File f m tag) = unless_down w
refusal w (event.Least d format) = unless_deaf (at_number w.drives d)
refusal w (event.Format format) = unless_down w
refusal w (event.Do c x) = of_client w c
refusal w (event.Call c x) = of_client w c
refusal w (event.Deliver number) = of_message w number
refusal w (event.DropMessage number) = of_message w number
refusal w event.Settle = None
refusal w (event.Resend (sender.Client c)) = of_client w c
refusal w (event.Resend sender.Server) = unless_down w
refusal w (event.Timeout c component) = of_client w c
refusal w (event.Leave c) = of_client w c
refusal w (event.Inject d bytes) = unless_deaf (at_number w.drives d)
refusal w (event.Clock (machine.Drive d) time) = of_drive w d
refusal w (event.Clock machine.Server time) = unless_down w
refusal w (event.Recall f) = of_served_file w f
refusal w (event.Revoke f) = of_served_file w f
refusal w (event.Rebuild f) = of_served_file w f
refusal w (event.Audit f) = of_served_file w f
refusal w (event.Declare d) = first_of (if_failed (at_number w.drives d)) (unless_down w)
refusal w (event.Stop c) = of_client w c
refusal w (event.Fail d) = of_drive w d
refusal w (event.Crash (machine.Drive d)) = if_up (at_number w.drives d)
refusal w (event.Crash machine.Server) = unless_down w
refusal w (event.Reopen (machine.Drive d)) = if_down (at_number w.drives d)
refusal w (event.Reopen machine.Server) = if w.down then None else Some Running
refusal w (event.ZonedFile f m tag) = unless_down w
refusal w (event.Zone d zone) = of_zone w d
