-- Replies of the drives, and drives that don't reply.
use Rattle.std.specs.Prelude.{ℕ, Bool, List, [], ◌∷◌, ◌++◌, ◌==◌, ◌&&◌, if◌then◌else◌}
use Rattle.client_rules.specs.declared.limits.TheConstants.{PERFORMED, OTHER_TAG}
use Rattle.client_rules.specs.State.{CallOp, Held, Awaited, TimedOut, Io, Phase, Starts, Needs, Waits, Reads, Probes, Gathers, Scatters, Outcome, Refused, Silent, Goes, Forgets, Moved, IoErr, Reply, Store}
use Rattle.client_rules.specs.Turns.{turned, ended, closing}
use Rattle.client_rules.specs.Calls.{span_of}
use Rattle.client_rules.specs.Grants.{clipped}
use Rattle.client_rules.specs.Requests.{error_at, errno_of, report_of}
use Rattle.client_rules.specs.Commands.{others, not_of}
use Rattle.client_rules.specs.Io.{got_of, first_of, timed_with}
use Rattle.client_rules.specs.Reads.{reads_on, reads, probes_on, probes}
use Rattle.client_rules.specs.Writes.{gathers_on, gathers, scatters_on, scatters_next, without_component, is_too_short}

-- ---- replies

-- a reply answers the command of its nonce to its drive
abbrev pub answers : (drive : ℕ) → Reply → Awaited → Bool
answers drive r a = (a.command.nonce == r.nonce) && (a.drive == drive)

-- how a call ends whose command was refused
abbrev pub refusal : Awaited → Reply → Outcome
refusal a r = Refused a.drive r.verdict r.detail

-- the refused command is reported where a WRITE was sent; else the grant goes back clean
abbrev pub refused_report : Held → Phase → Awaited → Reply → List IoErr
refused_report h (Scatters io queue) a r = error_at h a.write a.ask (errno_of r.verdict) ∷ []
refused_report h phase a r = []

-- an object with another tag means that the grant is over: it is forgotten. Else it is returned
unfoldable pub refused : Held → Phase → Awaited → Reply → Moved
refused h phase a r =
    if r.verdict == OTHER_TAG then turned h (Forgets (refusal a r))
    else turned h (closing (refusal a r) (refused_report h phase a r))

-- the phase goes on, with what was read
abbrev pub performed : Held → CallOp → Phase → Awaited → Reply → Moved
performed h op (Reads io) a r =
    reads_on h (clipped h.size (span_of op)) (io.got ++ got_of a r ∷ []) io.timed [] (others io.awaited a.command.nonce)
performed h op (Probes io) a r = probes_on h (io.got ++ got_of a r ∷ []) io.timed [] (others io.awaited a.command.nonce)
performed h op (Gathers io) a r =
    gathers_on h op (io.got ++ got_of a r ∷ []) io.timed [] (others io.awaited a.command.nonce)
performed h op (Scatters io queue) a r =
    scatters_next h op io.timed queue a.ask.component (others io.awaited a.command.nonce)
performed h op Starts a r = turned h (Goes Starts)
performed h op (Needs need) a r = turned h (Goes (Needs need))
performed h op (Waits need) a r = turned h (Goes (Waits need))

-- a reply to an awaited command
unfoldable pub replied : Held → CallOp → Phase → Awaited → Reply → Moved
replied h op phase a r = if r.verdict == PERFORMED then performed h op phase a r else refused h phase a r

-- ---- timeouts

-- the components that timed out, with that of these commands
abbrev pub timed_after : List TimedOut → Awaited → List Awaited → List TimedOut
timed_after timed a xs = timed_with (first_of a xs) timed

-- before the first WRITE: where too much is out the call ends, and the grant stays
unfoldable pub gather_timed : Held → CallOp → Io → (k : ℕ) → List TimedOut → Moved
gather_timed h op io k timed =
    if is_too_short h op timed then ended h (Silent k) else gathers h op io.got timed (not_of k io.awaited)

-- after it: where too much is out the grant is returned with a report
unfoldable pub scatter_timed : Held → CallOp → Io → (queue : List Store) → (k : ℕ) → List TimedOut → Moved
scatter_timed h op io queue k timed =
    if is_too_short h op timed then turned h (closing (Silent k) (report_of h timed))
    else scatters_on h op timed (without_component k queue) [] (not_of k io.awaited)

-- component k timed out, of which these commands are awaited
abbrev pub timed_out : Held → CallOp → Phase → (k : ℕ) → Awaited → List Awaited → Moved
timed_out h op (Reads io) k a xs =
    reads h (clipped h.size (span_of op)) io.got (timed_after io.timed a xs) (not_of k io.awaited)
timed_out h op (Probes io) k a xs = probes h io.got (timed_after io.timed a xs) (not_of k io.awaited)
timed_out h op (Gathers io) k a xs = gather_timed h op io k (timed_after io.timed a xs)
timed_out h op (Scatters io queue) k a xs = scatter_timed h op io queue k (timed_after io.timed a xs)
timed_out h op Starts k a xs = turned h (Goes Starts)
timed_out h op (Needs need) k a xs = turned h (Goes (Needs need))
timed_out h op (Waits need) k a xs = turned h (Goes (Waits need))
