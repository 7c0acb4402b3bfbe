-- A reply where its command isn't awaited any more.
use Rattle.std.specs.Prelude.{ℕ, [], ◌∷◌, ◌++◌, ◌==◌, Option, if◌then◌else◌}
use Rattle.client_rules.specs.declared.limits.TheConstants.{PERFORMED}
use Rattle.call_io.specs.State.{CallOp, Held, Awaited, Phase, Starts, Needs, Waits, Reads, Probes, Gathers, Scatters, Goes, Moved, Reply}
use Rattle.client_rules.specs.Turns.{turned}
use Rattle.client_rules.specs.Calls.{span_of}
use Rattle.client_rules.specs.Grants.{clipped}
use Rattle.client_rules.specs.Io.{got_of}
use Rattle.client_rules.specs.Reads.{reads_on, probes_on}
use Rattle.client_rules.specs.Writes.{gathers_on, scatters_next}
use Rattle.client_rules.specs.Replies.{refused}
use Rattle.call_commands.specs.Pending.{left_by}

-- the phase without that command
abbrev pub heard_in : Phase → Option Awaited → Phase
heard_in (Reads io) a = Reads (record io { awaited = left_by io.awaited a })
heard_in (Probes io) a = Probes (record io { awaited = left_by io.awaited a })
heard_in (Gathers io) a = Gathers (record io { awaited = left_by io.awaited a })
heard_in (Scatters io queue) a = Scatters (record io { awaited = left_by io.awaited a }) queue
heard_in Starts a = Starts
heard_in (Needs need) a = Needs need
heard_in (Waits need) a = Waits need

-- with what a READ gives
abbrev pub kept_in : Phase → Awaited → Reply → Phase
kept_in (Reads io) a r = Reads (record io { got = io.got ++ got_of a r ∷ [] })
kept_in (Probes io) a r = Probes (record io { got = io.got ++ got_of a r ∷ [] })
kept_in (Gathers io) a r = Gathers (record io { got = io.got ++ got_of a r ∷ [] })
kept_in (Scatters io queue) a r = Scatters io queue
kept_in Starts a r = Starts
kept_in (Needs need) a r = Needs need
kept_in (Waits need) a r = Waits need

-- it goes on, where component k answered
abbrev pub goes_on : Held → CallOp → Phase → (k : ℕ) → Moved
goes_on h op (Reads io) k = reads_on h (clipped h.size (span_of op)) io.got io.timed [] io.awaited
goes_on h op (Probes io) k = probes_on h io.got io.timed [] io.awaited
goes_on h op (Gathers io) k = gathers_on h op io.got io.timed [] io.awaited
goes_on h op (Scatters io queue) k = scatters_next h op io.timed queue k io.awaited
goes_on h op Starts k = turned h (Goes Starts)
goes_on h op (Needs need) k = turned h (Goes (Needs need))
goes_on h op (Waits need) k = turned h (Goes (Waits need))

-- the reply to that command
abbrev pub answered : Held → CallOp → Phase → Awaited → Reply → Moved
answered h op phase a r =
    if r.verdict == PERFORMED then goes_on h op (kept_in phase a r) a.ask.component else refused h phase a r
