-- Why an event isn't carried out, by the code.
use Rattle.std.specs.Prelude.{◌≡◌, Option, Some, None, ⊤, if◌then◌else◌}
use Rattle.scenario_text.specs.declared.event.Sender.{Sender}
use Rattle.scenario_text.specs.declared.event.Sender.TheVariants as sender
use Rattle.scenario_text.specs.declared.event.Machine.{Machine}
use Rattle.scenario_text.specs.declared.event.Machine.TheVariants as machine
use Rattle.world_history.specs.declared.err.WorldErr.{WorldErr}
use Rattle.world_history.specs.declared.err.WorldErr.TheVariants.{Running, KeptFull, Memory}
use Rattle.world_history.specs.State.{World, at_number}
use Rattle.world_history.specs.Refusals.{of_client, of_drive, if_up, if_down, unless_down}
use Rattle.layout_world.specs.declared.parties.Parties.{Parties}
use Rattle.layout_world.specs.State.{Shows}

-- in each world that the parties show, that is the cause
abbrev pub IsCause : Parties → (World → Option WorldErr) → Option WorldErr → Type 0
IsCause p cause_in r = (w : World) → Shows p w → r ≡ cause_in w

-- a cause that changes nothing
abbrev pub IsRefusal : WorldErr → Type 0
IsRefusal KeptFull = ⊥
IsRefusal Memory = ⊥
IsRefusal e = ⊤

-- a cause that ends the world
abbrev pub IsEnd : WorldErr → Type 0
IsEnd KeptFull = ⊤
IsEnd Memory = ⊤
IsEnd e = ⊥

-- why the clock of a machine isn't set
abbrev pub clock_cause : World → Machine → Option WorldErr
clock_cause w (machine.Drive d) = of_drive w d
clock_cause w machine.Server = unless_down w

-- why nothing is sent again
abbrev pub sender_cause : World → Sender → Option WorldErr
sender_cause w (sender.Client c) = of_client w c
sender_cause w sender.Server = unless_down w

-- why a machine doesn't crash
abbrev pub crash_cause : World → Machine → Option WorldErr
crash_cause w (machine.Drive d) = if_up (at_number w.drives d)
crash_cause w machine.Server = unless_down w

-- only a server that is down is opened again
abbrev pub if_server_down : World → Option WorldErr
if_server_down w = if w.down then None else Some Running

-- why a machine isn't opened again
abbrev pub reopen_cause : World → Machine → Option WorldErr
reopen_cause w (machine.Drive d) = if_down (at_number w.drives d)
reopen_cause w machine.Server = if_server_down w
