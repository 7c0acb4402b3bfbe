-- A drive as a cluster text describes it.
use Rattle.std.specs.Prelude.{ℕ, List, ◌∷◌, [], nat_eq, Option}
use Rattle.std.specs.List.{find}
use Rattle.std.specs.Option.{option_and_then, option_map}
use Rattle.cluster_text.specs.declared.cluster.Cluster.{Cluster}
use Rattle.cluster_text.specs.declared.cluster.ClusterDrive.{ClusterDrive}
use Rattle.osd_drive.specs.State.{DriveState, new_drive}
use Rattle.osd_drive.specs.declared.keys.DriveKey.{DriveKey}
use Rattle.drive_command.specs.declared.own.TheConstants.{KEY_VERSION}

-- the table of the one key that the text has
abbrev pub keys_of : List ℕ → List DriveKey
keys_of key = record { version = KEY_VERSION; key = key } ∷ []

-- without objects, where the text has its key
abbrev pub core_from : ℕ → ClusterDrive → Option DriveState
core_from number d = option_map (λ key. new_drive number (keys_of key) d.capacity) d.key

-- the drive of a number
abbrev pub core_in : ℕ → Cluster → Option DriveState
core_in number c = option_and_then (core_from number) (find (λ d. nat_eq d.number number) c.drives)
