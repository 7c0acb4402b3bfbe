-- That a server went on over some steps, or was cut off.
use Rattle.std.specs.Prelude.{◌≡◌, ◌++◌, ℕ, List, Result, Ok, Err}
use Rattle.osd_bytes.specs.Asking.{Ends}
use Rattle.server_command.specs.declared.metadata_server.MetadataServer.{Ghosts}
use Rattle.server_command.specs.declared.serve_err.ServerServeErr.{ServerServeErr}
use Rattle.server_command.specs.declared.serve_err.ServerServeErr.TheVariants as stops
use Rattle.server_command.specs.Connections.{IsRefused, ServesAll}
use Rattle.server_command.specs.Cuts.{CutsAll}
use Rattle.server_command.specs.Kept.{BrokeOff, Carries, WentOn}
use Rattle.server_command.specs.Steps.{ServerStep}

-- it did these steps to their ends but for one at most, which was cut off
abbrev pub HasDone : {H : Type 0} → Ghosts H → (done cut_off : List ServerStep) → (old new : H) → Type 0
HasDone s done cut_off old new =
    Carries s.server s.is_over s.faults s.keeps s.moment s.left_since s.stands_for done cut_off old new

-- it did these steps, each to its end, and more may come: what kept it keeps it, and no call of the disk failed
abbrev pub WentBy : {H : Type 0} → Ghosts H → (done : List ServerStep) → (old new : H) → Type 0
WentBy s done old new = WentOn s.server s.is_over s.faults s.keeps s.moment s.left_since s.stands_for done old new

-- it was cut off behind these steps, or in one; the count of faults rose, where that is said
abbrev pub BrokeBy : {H : Type 0} → Ghosts H → (done cut_off : List ServerStep) → (failed : Type 0) → (old new : H) → Type 0
BrokeBy s done cut_off failed old new =
    BrokeOff s.server s.is_over s.faults s.keeps s.moment s.left_since s.stands_for done cut_off failed old new

-- ---- some steps

-- it did some steps, each to its end, and more may come
pub record Went {H : Type 0} (s : Ghosts H) (old new : H) : Type 0 where
  pub done : List ServerStep
  pub went : WentBy s done old new

-- it was cut off behind some steps, or in the last of them; the count of faults rose, where that is said
pub record Broke {H : Type 0} (s : Ghosts H) (failed : Type 0) (old new : H) : Type 0 where
  pub done : List ServerStep
  pub cut_off : List ServerStep
  pub broke : BrokeBy s done cut_off failed old new

-- it went on, or gives an error; that of a disk only if the count of faults rose
abbrev pub Goes : {H T E : Type 0} → Ghosts H → (disk_fault : E) → (old new : H) → Result T E → Type 0
Goes s disk_fault old new (Ok x) = Went s old new
Goes s disk_fault old new (Err e) = Broke s (e ≡ disk_fault) old new

-- ---- the steps of what it serves, in one list

-- the steps that it has done are those that it had done, and more, each done to its end
pub record GoesFrom {H : Type 0} (s : Ghosts H) (had has : List ServerStep) (old new : H) : Type 0 where
  pub done : List ServerStep
  pub are : has ≡ had ++ done
  pub went : WentBy s done old new

-- The steps that were served are those that it had done, and more, each done to its end. Behind them there may be one that wasn't
-- served: it was done to its end, or cut off.
pub record CutsFrom {H : Type 0} (s : Ghosts H) (failed : Type 0) (had served unserved : List ServerStep) (old new : H) : Type 0
  where
    pub done : List ServerStep
    pub handled : List ServerStep
    pub cut_off : List ServerStep
    pub are_served : served ≡ had ++ done
    pub are_unserved : unserved ≡ handled ++ cut_off
    pub broke : BrokeBy s (done ++ handled) cut_off failed old new

-- behind whatever it had done it did steps to their ends, of which this is so
abbrev pub Does : {H : Type 0} → Ghosts H → (old new : H) → (Is : (had has : List ServerStep) → Type 0) → Type 0
Does s old new Is = (had : List ServerStep) → (has : List ServerStep) × Is had has × GoesFrom s had has old new

-- or it was cut off, and this is so of the steps that were served, and of the one that wasn't
abbrev pub Breaks : {H : Type 0} → Ghosts H → (failed : Type 0) → (old new : H)
    → (Is : (had served unserved : List ServerStep) → Type 0) → Type 0
Breaks s failed old new Is =
    (had : List ServerStep) → (served : List ServerStep) × (unserved : List ServerStep) × Is had served unserved
    × CutsFrom s failed had served unserved old new

-- How serving so many connections ends. The steps of all connections are those of the server, in one list: so what was put, up to
-- any of them, is what steps gave that were done by then.
abbrev pub EndsServing : {H : Type 0} → Ghosts H → (connections : ℕ) → (old new : H) → (before now : Ends)
    → Result (Unit {0}) ServerServeErr → Type 0
EndsServing s connections old new before now (Ok x) =
    Does s old new (λ had has. ServesAll connections (s.server old) (s.server new) had has before now)
EndsServing s connections old new before now (Err stops.LinkFault) =
    Does s old new (λ had has. IsRefused connections (s.server old) (s.server new) had has before now)
EndsServing s connections old new before now (Err e) =
    Breaks s (e ≡ stops.DiskFault) old new (λ had. CutsAll connections (s.server old) had before now)
