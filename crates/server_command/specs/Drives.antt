-- The server of a cluster before it makes a file: it knows the cluster's drives.
use Rattle.std.specs.Prelude.{◌≡◌, ℕ, Bool, true, List, [], ◌∷◌, nat_eq, nat_le, Option, Some, None, Result, Ok, Err, ⊤, if◌then◌else◌}
use Rattle.std.specs.List.{list_any}
use Rattle.zone_place.specs.declared.loads.TheConstants.{MAX_DRIVES}
use Rattle.cluster_text.specs.declared.cluster.Cluster.{Cluster}
use Rattle.cluster_text.specs.declared.cluster.ClusterDrive.{ClusterDrive}
use Rattle.cluster_text.specs.declared.errors.ClusterKind.{ClusterKind}
use Rattle.cluster_text.specs.declared.errors.ClusterKind.TheVariants.{Missing, Range, Repeated}
use Rattle.cluster_text.specs.declared.stop.CommandStop.{CommandStop}
use Rattle.cluster_text.specs.declared.stop.CommandStop.TheVariants.{BadCluster, Memory}
use Rattle.server_rules.specs.declared.server.Drive.{Drive}
use Rattle.server_rules.specs.declared.server.Server.{Server}
use Rattle.server_rules.specs.Making.{add_drive, new_server, set_format}

-- the server, or what is wrong with the cluster
abbrev pub Known : Type 0
Known = Result Server ClusterKind

-- one of these drives has the number
abbrev pub has_number : List Drive → (number : ℕ) → Bool
has_number ds number = list_any (λ d. nat_eq d.number number) ds

-- a drive of the cluster with its key, as the server has it
abbrev pub drive_with : ClusterDrive → (key : List ℕ) → Drive
drive_with d key = record { number = d.number; key = key; capacity = d.capacity; online = true; zone = None }

abbrev pub with_key : Server → ClusterDrive → (key : Option (List ℕ)) → Known
with_key s d None = Err Missing
with_key s d (Some key) =
    if nat_le MAX_DRIVES d.number then Err Range
    else if has_number s.drives d.number then Err Repeated
    else Ok (record s { drives = add_drive s.drives (drive_with d key) })

-- the server knows the drive too, which has to have its key and a new number below 64
abbrev pub with_drive : Server → ClusterDrive → Known
with_drive s d = with_key s d d.key

abbrev pub and_then : Known → (Server → Known) → Known
and_then (Ok s) more = more s
and_then (Err kind) more = Err kind

-- these drives, one after the other
abbrev pub with_drives : Server → List ClusterDrive → Known
with_drives s [] = Ok s
with_drives s (d ∷ ds) = and_then (with_drive s d) (λ t. with_drives t ds)

-- the server of a cluster, without its files
abbrev pub server_in : Cluster → Known
server_in c = and_then (with_drives (new_server []) c.drives) (λ s. Ok (set_format s c.format))

-- why there is no such server
abbrev pub StopsKnowing : Known → CommandStop → Type 0
StopsKnowing known (BadCluster kind) = known ≡ Err kind
StopsKnowing known Memory = ⊤
StopsKnowing known other = ⊥
