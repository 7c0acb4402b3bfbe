-- What the drives of the code do is what the world does.
use Rattle.std.specs.Prelude.{ℕ, List, ◌≡◌, Option, Some, None}
use Rattle.osd_commands.specs.Commands as commands
use Rattle.scenario_text.specs.declared.line.Verdict.{Verdict}
use Rattle.scenario_text.specs.declared.line.Line.TheVariants as line
use Rattle.world_history.specs.declared.messages.Message.{Message}
use Rattle.world_history.specs.State.{DriveAt, World, at_number}
use Rattle.world_history.specs.Spelled.{spelled, party_of}
use Rattle.world_history.specs.Handed.{drive_hears}
use Rattle.world_history.specs.Moves.{Act, changed as only_changed, tells, at_drive, injects}
use Rattle.world_network.specs.Acts.{IsHanded}
use Rattle.world_parties.specs.Drives.{Table, changed, Heard, heard, Injected, injected}

-- the world with these drives
abbrev pub with_drives : World → Table → World
with_drives w t = record w { drives = t }

-- what a drive did with the bytes of a message is what the world's does with the message
abbrev pub IsHeard : World → (drive : ℕ) → Message → Heard → Type 0
IsHeard w d m h = IsHanded (drive_hears w d m (at_number w.drives d)) (with_drives w h.drives) h.handed

abbrev pub DrivesHear : Type 0
DrivesHear = (w : World) (d : ℕ) (m : Message)
    → IsHeard w d m (heard w.drives d (party_of m.from) (commands.reading (spelled m.body)))

-- the verdict on injected bytes has its line, where there is such a drive
abbrev pub told_injected : World → (drive : ℕ) → Option Verdict → Act
told_injected w d None = only_changed w
told_injected w d (Some v) = tells w (line.Judged d v)

abbrev pub injects_as : World → (drive : ℕ) → Injected → Act
injects_as w d i = told_injected (with_drives w i.drives) d i.verdict

abbrev pub DrivesInject : Type 0
DrivesInject = (w : World) (d : ℕ) (bytes : List ℕ)
    → injects w d bytes ≡ injects_as w d (injected w.drives d (commands.reading bytes))

-- one drive is changed
abbrev pub DrivesChange : Type 0
DrivesChange = (w : World) (d : ℕ) (becomes : DriveAt → DriveAt)
    → at_drive w d becomes ≡ with_drives w (changed w.drives d becomes)
