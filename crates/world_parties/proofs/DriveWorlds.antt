-- The drives by number are those of the world.
use Rattle.std.proofs.Common.{◌≡◌, ℕ, Bool, true, false, List, Option, Some, None, refl, ap, sym}
use Rattle.std.specs.Prelude.{if◌then◌else◌}
use Rattle.std.specs.Ordering.{nat_cmp}
use Rattle.std.specs.BTreeMap.{is_at}
use Rattle.std.proofs.lemmas.Map.Steps.{set_value_same}
use Rattle.osd_commands.specs.Commands as commands
use Rattle.world_history.specs.declared.messages.Message.{Message}
use Rattle.world_history.specs.State.{DriveAt, World, at_number, with_number}
use Rattle.world_history.specs.Spelled.{party_of}
use Rattle.world_history.specs.Drives.{Judged, judges, command_in, is_deaf}
use Rattle.scenario_text.specs.declared.line.Delivery.TheVariants as delivery
use Rattle.world_history.specs.Handed.{drive_hears, drive_replies, quiet}
use Rattle.world_history.specs.Moves.{by_drive, injects, injects_at}
use Rattle.world_network.specs.Acts.{IsHanded}
use Rattle.world_parties.specs.Drives.{Table, unheard, replied, heard_at, heard_by, injected_by, changed_if}
use Rattle.world_parties.specs.DriveLaws.{with_drives, DrivesHear, DrivesInject, DrivesChange, injects_as}

replies : (w : World) (d : ℕ) (m : Message) (j : Judged)
    → IsHanded (drive_replies w d m.from j) (with_drives w (heard_at w.drives d (replied d (party_of m.from) j)).drives)
    (replied d (party_of m.from) j).handed
replies w d m j = record { world = refl; receipt = refl; act = record { lines = refl; sends = refl } }

stays_deaf : (w : World) (t : Table) → t ≡ w.drives → IsHanded (quiet w delivery.Deaf) (with_drives w t) unheard
stays_deaf w t e = record {
  world = ap (λ (x : Table). with_drives w x) (sym e);
  receipt = refl;
  act = record { lines = refl; sends = refl };
}

hears_if : (b : Bool) (w : World) (d : ℕ) (m : Message) (a : DriveAt) (j : Judged)
    → with_number w.drives d a ≡ w.drives
    → IsHanded (if b then quiet w delivery.Deaf else drive_replies w d m.from j)
    (with_drives w
    (heard_at w.drives d (if b then record { drive = a; handed = unheard } else replied d (party_of m.from) j)).drives)
    (if b then record { drive = a; handed = unheard } else replied d (party_of m.from) j).handed
hears_if true w d m a j s = stays_deaf w (with_number w.drives d a) s
hears_if false w d m a j s = replies w d m j

hears_by : (w : World) (d : ℕ) (m : Message) (o : Option DriveAt) → at_number w.drives d ≡ o
    → IsHanded (drive_hears w d m o) (with_drives w (heard_by w.drives d (party_of m.from) (command_in m.body) o).drives)
    (heard_by w.drives d (party_of m.from) (command_in m.body) o).handed
hears_by w d m None f = record { world = refl; receipt = refl; act = record { lines = refl; sends = refl } }
hears_by w d m (Some a) f =
    hears_if (is_deaf a) w d m a (judges a (command_in m.body)) (set_value_same (is_at (nat_cmp d)) w.drives a f)

pub drives_hear : DrivesHear
drives_hear w d m = hears_by w d m (at_number w.drives d) refl

injects_by : (w : World) (d : ℕ) (bytes : List ℕ) (o : Option DriveAt)
    → injects_at w d bytes o ≡ injects_as w d (injected_by w.drives d (commands.reading bytes) o)
injects_by w d bytes None = refl
injects_by w d bytes (Some a) = refl

pub drives_inject : DrivesInject
unfolding injects
drives_inject w d bytes = injects_by w d bytes (at_number w.drives d)

changes_by : (w : World) (d : ℕ) (becomes : DriveAt → DriveAt) (o : Option DriveAt)
    → by_drive w d becomes o ≡ with_drives w (changed_if w.drives d becomes o)
changes_by w d becomes None = refl
changes_by w d becomes (Some a) = refl

pub drives_change : DrivesChange
drives_change w d becomes = changes_by w d becomes (at_number w.drives d)
