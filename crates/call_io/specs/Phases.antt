-- What the code keeps of a call, as the rules' phases.
use Rattle.call_io.specs.State.{Held, Io, Phase, Starts, Needs, Waits, Reads, Probes, Gathers, Scatters, Turn, Goes, Ends, Forgets, Moved}
use Rattle.client_rules.specs.Commands.{counted}
use Rattle.call_io.specs.declared.phase.CallIo.{CallIo}
use Rattle.call_io.specs.declared.phase.CallPhase.{CallPhase}
use Rattle.call_io.specs.declared.phase.CallPhase.TheVariants as phase
use Rattle.call_io.specs.declared.phase.CallTurn.{CallTurn}
use Rattle.call_io.specs.declared.phase.CallTurn.TheVariants as turn
use Rattle.call_io.specs.declared.phase.CallMove.{CallMove}

-- its dealings with the drives
abbrev pub io_of : CallIo → Io
io_of io = record { awaited = io.pending; got = io.got; timed = io.timed }

-- how far it has come
abbrev pub phase_of : CallPhase → Phase
phase_of phase.Starts = Starts
phase_of (phase.Needs need) = Needs need
phase_of (phase.Waits need) = Waits need
phase_of (phase.Reads io) = Reads (io_of io)
phase_of (phase.Probes io) = Probes (io_of io)
phase_of (phase.Gathers io) = Gathers (io_of io)
phase_of (phase.Scatters io queue) = Scatters (io_of io) queue

-- what becomes of it
abbrev pub turn_of : CallTurn → Turn
turn_of (turn.Goes p) = Goes (phase_of p)
turn_of (turn.Ends o) = Ends o
turn_of (turn.Forgets o) = Forgets o

-- what its dealings did, under this grant
abbrev pub moved_of : Held → CallMove → Moved
moved_of h m = record { held = h; turn = turn_of m.turn; sent = m.sent }

-- under the grant that counts what was sent
abbrev pub counted_move : Held → CallMove → Moved
counted_move h m = moved_of (counted h m.sent) m
