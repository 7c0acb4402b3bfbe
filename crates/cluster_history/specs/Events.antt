-- The events of each step, and what is asked of them.
use Rattle.std.specs.Prelude.{ℕ, ◌<◌, List, [], ◌∷◌}
use Rattle.scenario_text.specs.declared.names.TheConstants.{DRIVES}
use Rattle.scenario_text.specs.declared.event.Event.{Event}
use Rattle.scenario_text.specs.declared.event.Event.TheVariants as event
use Rattle.scenario_text.specs.declared.event.Machine.TheVariants as machine
use Rattle.scenario_text.specs.declared.event.Sender.TheVariants as sender
use Rattle.scenario_text.specs.Spelling.{Fits}
use Rattle.cluster_history.specs.Steps.{Step, Knows, Raises, Makes, Hears, Obeys, Passes, Resends, Crashes, Opens, Takes, IsHit, Falls, Rises, IsLost, Begins, Calls, Learns, Misses, Leaves, SendsAgain, Ends}
use Rattle.cluster_history.specs.Deeds.{order_event, map_of, call_of}

-- a drive falls and rises
abbrev pub FallsAndRises : (Event → Type 0) → (drive : ℕ) → Type 0
FallsAndRises P d = P (event.Crash (machine.Drive d)) × P (event.Reopen (machine.Drive d))

-- so is each event that a step may have
abbrev pub EachEvent : (Event → Type 0) → Step → Type 0
EachEvent P (Knows d key capacity) = P (event.Disk d key capacity)
EachEvent P (Raises format) = P (event.Format format)
EachEvent P (Makes chosen f m) = P (event.File f (map_of m) 1) × ((d : ℕ) → d < DRIVES → FallsAndRises P d)
EachEvent P (Hears time chosen n) = P (event.Clock machine.Server time) × P (event.Deliver n)
EachEvent P (Obeys time chosen o) = P (event.Clock machine.Server time) × P (order_event o.order o.target)
EachEvent P (Passes time chosen from bytes) = Unit {0}
EachEvent P Resends = P (event.Resend sender.Server)
EachEvent P Crashes = P (event.Crash machine.Server)
EachEvent P Opens = P (event.Reopen machine.Server)
EachEvent P (Takes d time n) = P (event.Clock (machine.Drive d) time) × P (event.Deliver n)
EachEvent P (IsHit d time bytes) = P (event.Clock (machine.Drive d) time) × P (event.Inject d bytes)
EachEvent P (Falls d) = P (event.Crash (machine.Drive d))
EachEvent P (Rises d) = P (event.Reopen (machine.Drive d))
EachEvent P (IsLost d) = P (event.Fail d)
EachEvent P (Begins c) = P (event.Client c)
EachEvent P (Calls c op) = P (event.Call c (call_of op))
EachEvent P (Learns c n) = P (event.Deliver n)
EachEvent P (Misses c component) = P (event.Timeout c component)
EachEvent P (Leaves c) = P (event.Leave c)
EachEvent P (SendsAgain c) = P (event.Resend (sender.Client c))
EachEvent P (Ends c) = P (event.Stop c)

-- of several steps
abbrev pub EachStep : (Step → Type 0) → List Step → Type 0
EachStep P [] = Unit {0}
EachStep P (s ∷ steps) = P s × EachStep P steps

-- A line of a scenario's text can have the numbers and bytes of each step: times and capacities have 64 bits, a key has 20
-- bytes, drives and files are 0 to 63, and clients 0 to 15.
abbrev pub AreSpelled : List Step → Type 0
AreSpelled steps = EachStep (EachEvent Fits) steps

-- a drive takes nothing but messages of the parties
abbrev pub IsNoHit : Step → Type 0
IsNoHit (IsHit d time bytes) = ⊥
IsNoHit s = Unit {0}
