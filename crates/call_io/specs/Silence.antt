-- A component that timed out, in the phase that awaits it.
use Rattle.std.specs.Prelude.{ℕ, [], if◌then◌else◌}
use Rattle.call_io.specs.State.{CallOp, Held, TimedOut, Phase, Starts, Needs, Waits, Reads, Probes, Gathers, Scatters, Goes, Moved}
use Rattle.client_rules.specs.Turns.{turned, ended, closing}
use Rattle.client_rules.specs.Calls.{span_of}
use Rattle.client_rules.specs.Grants.{clipped}
use Rattle.client_rules.specs.Io.{timed_with}
use Rattle.client_rules.specs.Commands.{not_of}
use Rattle.client_rules.specs.Requests.{report_of}
use Rattle.client_rules.specs.Reads.{reads, probes}
use Rattle.client_rules.specs.Writes.{gathers, scatters_on, without_component, is_too_short}
use Rattle.client_rules.specs.declared.outcomes.Outcome.TheVariants.{Silent}

-- its commands aren't awaited any more
abbrev pub out_in : Phase → (k : ℕ) → TimedOut → Phase
out_in (Reads io) k t = Reads (record io { awaited = not_of k io.awaited; timed = timed_with t io.timed })
out_in (Probes io) k t = Probes (record io { awaited = not_of k io.awaited; timed = timed_with t io.timed })
out_in (Gathers io) k t = Gathers (record io { awaited = not_of k io.awaited; timed = timed_with t io.timed })
out_in (Scatters io queue) k t =
    Scatters (record io { awaited = not_of k io.awaited; timed = timed_with t io.timed }) queue
out_in Starts k t = Starts
out_in (Needs need) k t = Needs need
out_in (Waits need) k t = Waits need

-- the phase goes on without it
abbrev pub goes_without : Held → CallOp → Phase → (k : ℕ) → Moved
goes_without h op (Reads io) k = reads h (clipped h.size (span_of op)) io.got io.timed io.awaited
goes_without h op (Probes io) k = probes h io.got io.timed io.awaited
goes_without h op (Gathers io) k =
    if is_too_short h op io.timed then ended h (Silent k) else gathers h op io.got io.timed io.awaited
goes_without h op (Scatters io queue) k =
    if is_too_short h op io.timed then turned h (closing (Silent k) (report_of h io.timed))
    else scatters_on h op io.timed (without_component k queue) [] io.awaited
goes_without h op Starts k = turned h (Goes Starts)
goes_without h op (Needs need) k = turned h (Goes (Needs need))
goes_without h op (Waits need) k = turned h (Goes (Waits need))
