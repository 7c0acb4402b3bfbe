-- The events of a file in a move of a drive.
use Rattle.std.specs.Prelude.{ℕ, ◌+◌, ◌==◌, ◌&&◌, not, Bool, true, false, nat_le, nat_lt, List, [], ◌∷◌, ◌++◌, find, length, slice_get, nat_eq, Option, Some, None, Result, Ok, Err, if◌then◌else◌}
use Rattle.std.specs.Cmp.Lexicographic.{pointwise}
use Rattle.osd_lists.specs.declared.node.Node.{Node}
use Rattle.osd_lists.specs.declared.node.Node.TheVariants as node
use Rattle.osd_commands.specs.declared.actions.Action.{Action}
use Rattle.osd_commands.specs.declared.actions.Action.TheVariants.{Read, Write, SetTag}
use Rattle.osd_commands.specs.declared.commands.Command.{Command}
use Rattle.osd_commands.specs.declared.commands.CommandErr.{CommandErr}
use Rattle.scenario_text.specs.declared.event.Event.{Event}
use Rattle.scenario_text.specs.declared.event.Event.TheVariants as scenario
use Rattle.scenario_text.specs.declared.line.Verdict.{Verdict}
use Rattle.scenario_text.specs.declared.line.Verdict.TheVariants as verdict
use Rattle.client_rules.specs.Calls.{file_of}
use Rattle.client_rules.specs.Io.{awaited_in}
use Rattle.world_history.specs.ServerNames.{File, Component}
use Rattle.world_history.specs.ClientNames.{Call, Awaited}
use Rattle.world_history.specs.declared.messages.Message.{Message}
use Rattle.world_history.specs.declared.messages.Posted.{Posted}
use Rattle.world_history.specs.State.{World, DriveAt, at_number}
use Rattle.world_history.specs.Spelled.{spelled}
use Rattle.world_history.specs.Drives.{command_in, verdict_on, is_deaf}
use Rattle.world_history.specs.Stripes.{component_at}
use Rattle.world_history.specs.Moves as moves
use Rattle.fence_law.specs.State as machine
use Rattle.fence_law.specs.State.{Event as event}
use Rattle.file_simulation.specs.Relation.{client_of}
use Rattle.file_simulation.specs.EventLists.{Lines, where_so, entry_of}

-- ---- what a drive performs

-- one of these commands has this nonce
abbrev pub awaits : (nonce : ℕ) → List Awaited → Bool
awaits nonce [] = false
awaits nonce (a ∷ xs) = if a.command.nonce == nonce then true else awaits nonce xs

-- a client's call on the file awaits a command with this nonce
abbrev pub is_running : (file nonce : ℕ) → Option Call → Bool
is_running file nonce None = false
is_running file nonce (Some call) = (file_of call.op == file) && awaits nonce (awaited_in call.phase)

-- the WRITE of the machine that the client sent to component k under this nonce
abbrev pub is_write : (c k nonce : ℕ) → machine.Write → Bool
is_write c k nonce m = (m.holder == c) && ((m.nonce == nonce) && (m.at == k))

-- it is performed, if there is one
abbrev pub performs : Option machine.Write → List machine.Event
performs None = []
performs (Some m) = event.Performs m ∷ []

-- a command of client c to component k: a READ shows its cells to the running call, if that awaits it
abbrev pub of_client : machine.State → World → (file k c : ℕ) → Command → Action → List machine.Event
of_client s w file k c x Read =
    where_so (is_running file x.nonce (client_of w c).call) (event.Shows (entry_of s c) k ∷ [])
of_client s w file k c x Write = performs (find (is_write c k x.nonce) s.writes)
of_client s w file k c x action = []

-- the cells of a command
abbrev pub cells_of : Command → (z : ℕ) → Bool
cells_of x z = nat_le x.offset z && nat_lt z (x.offset + length x.payload)

-- a command of the server to component k; a repair writes words of bytes e
abbrev pub of_server : (e : ℕ → ℕ) → (k : ℕ) → Command → Action → List machine.Event
of_server e k x SetTag = event.SetsTag k ∷ []
of_server e k x Write = event.Repairs k (cells_of x) e ∷ []
of_server e k x action = []

-- by who sent it
abbrev pub performed_of : machine.State → World → (e : ℕ → ℕ) → (file k : ℕ) → Command → Node → List machine.Event
performed_of s w e file k x (node.Client c) = of_client s w file k c x x.action
performed_of s w e file k x node.Server = of_server e k x x.action
performed_of s w e file k x (node.Drive d) = []

-- on a component of the file that isn't lost
abbrev pub performed_on : machine.State → World → (e : ℕ → ℕ) → File → Command → Node → Option ℕ → List machine.Event
performed_on s w e f x from None = []
performed_on s w e f x from (Some k) =
    where_so (not (s.lost k)) (performed_of s w e f.kept.number k x from)

-- ---- what a drive judges

-- it performs it
abbrev pub is_performed : Verdict → Bool
is_performed verdict.Perform = true
is_performed v = false

-- a drive judges a command that this party sent
abbrev pub judged : machine.State → World → (e : ℕ → ℕ) → File → (drive : ℕ) → DriveAt → Node → Result Command CommandErr
    → List machine.Event
judged s w e f d a from (Err cause) = []
judged s w e f d a from (Ok x) = where_so (is_performed (verdict_on a.state a.clock (Ok x)))
    (performed_on s w e f x from (component_at d x.object f.kept.components 0))

-- one that has failed or is down is deaf
abbrev pub heard : machine.State → World → (e : ℕ → ℕ) → File → (drive : ℕ) → Message → Option DriveAt
    → List machine.Event
heard s w e f d m None = []
heard s w e f d m (Some a) = where_so (not (is_deaf a)) (judged s w e f d a m.from (command_in m.body))

-- ---- a move

-- a message goes to a drive
abbrev pub heard_at : machine.State → World → (e : ℕ → ℕ) → File → Message → Node → List machine.Event
heard_at s w e f m (node.Drive d) = heard s w e f d m (at_number w.drives d)
heard_at s w e f m to = []

-- it was sent
abbrev pub delivered : machine.State → World → (e : ℕ → ℕ) → File → Option Posted → List machine.Event
delivered s w e f None = []
delivered s w e f (Some p) = heard_at s w e f p.message p.message.to

-- it is this drive
abbrev pub is_for : (drive : ℕ) → Node → Bool
is_for d (node.Drive k) = k == d
is_for d to = false

-- a message to this drive with these bytes
abbrev pub is_sent_as : (drive : ℕ) → (bytes : List ℕ) → Posted → Bool
is_sent_as d bytes p = is_for d p.message.to && pointwise nat_eq (spelled p.message.body) bytes

-- a drive fails: so does each component on it, from number k on
unfoldable pub fails_from : (drive : ℕ) → List Component → (k : ℕ) → List machine.Event
fails_from d [] k = []
fails_from d (at ∷ cs) k = where_so (at.drive == d) (event.Fails k ∷ []) ++ fails_from d cs (k + 1)

-- at the first line of an event. Injected bytes stand for the first message that was sent with them
abbrev pub opened : machine.State → World → (e : ℕ → ℕ) → File → Event → List machine.Event
opened s w e f (scenario.Deliver number) = delivered s w e f (slice_get w.network.messages number)
opened s w e f (scenario.Inject d bytes) = delivered s w e f (find (is_sent_as d bytes) w.network.messages)
opened s w e f (scenario.Fail d) = fails_from d f.kept.components 0
opened s w e f other = []

-- the events of a drive; they stand at the first line
abbrev pub drive_events : machine.State → World → (e : ℕ → ℕ) → File → moves.Action → Lines
drive_events s w e f (moves.Opens x) = opened s w e f x ∷ []
drive_events s w e f (moves.Delivers number) = delivered s w e f (slice_get w.network.messages number) ∷ []
drive_events s w e f action = []
