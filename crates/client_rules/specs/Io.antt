-- What a call has of the drives: bytes that were read, components that are out, bytes that it needn't ask.
use Rattle.std.specs.Prelude.{ℕ, List, [], ◌∷◌, ◌++◌, ◌+◌, ◌-◌, nat_lt, length, map, take, replicate, if◌then◌else◌}
use Rattle.client_rules.specs.State.{Held, Awaited, TimedOut, Phase, Starts, Needs, Waits, Reads, Probes, Gathers, Scatters, Reply, Column, Stretch}
use Rattle.client_rules.specs.Grants.{missing_of}
use Rattle.client_rules.specs.Commands.{before}

-- ---- components that are out

-- those that the layout lists as missing, and those that timed out in the call
unfoldable pub outs : Held → List TimedOut → List ℕ
outs h timed = missing_of h ++ map (λ (t : TimedOut). t.ask.component) timed

-- the first of some commands, by stripe, component and offset
unfoldable pub first_of : Awaited → List Awaited → TimedOut
first_of a [] = record { write = a.write; ask = a.ask }
first_of a (b ∷ bs) = if before b.ask a.ask then first_of b bs else first_of a bs

-- one more component that timed out; components rise
unfoldable pub timed_with : TimedOut → List TimedOut → List TimedOut
timed_with t [] = t ∷ []
timed_with t (u ∷ us) = if nat_lt t.ask.component u.ask.component then t ∷ u ∷ us else u ∷ timed_with t us

-- ---- bytes that were read

-- n bytes of a reply; those that it doesn't carry are 0
abbrev pub carried : (n : ℕ) → List ℕ → List ℕ
carried n bytes = take n bytes ++ replicate (n - length bytes) 0

-- what the reply to a READ gives
abbrev pub got_of : Awaited → Reply → Column
got_of a r = record { position = a.ask.position; offset = a.ask.offset; bytes = carried a.ask.length r.payload }

-- ---- bytes that needn't be asked

-- those of a position that were read
abbrev pub got_stretch : Column → Stretch
got_stretch c = record { position = c.position; first = c.offset; end = c.offset + length c.bytes }

-- those that are awaited
abbrev pub awaited_stretch : Awaited → Stretch
awaited_stretch a = record { position = a.ask.position; first = a.ask.offset; end = a.ask.offset + a.ask.length }

-- both
unfoldable pub had : List Column → List Awaited → List Stretch
had got awaited = map got_stretch got ++ map awaited_stretch awaited

-- their positions
unfoldable pub had_positions : List Column → List Awaited → List ℕ
had_positions got awaited = map (λ (c : Column). c.position) got ++ map (λ (a : Awaited). a.ask.position) awaited

-- ---- commands

-- those that a phase awaits
abbrev pub awaited_in : Phase → List Awaited
awaited_in Starts = []
awaited_in (Needs need) = []
awaited_in (Waits need) = []
awaited_in (Reads io) = io.awaited
awaited_in (Probes io) = io.awaited
awaited_in (Gathers io) = io.awaited
awaited_in (Scatters io queue) = io.awaited
