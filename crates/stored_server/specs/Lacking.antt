-- The drives and files of a cluster that its server lacks.
use Rattle.std.specs.Prelude.{◌≡◌, ◌<◌, Bool, true, false, List, [], ◌∷◌, length, is_some, Ok, Err, ⊤, if◌then◌else◌}
use Rattle.cluster_text.specs.declared.cluster.ClusterDrive.{ClusterDrive}
use Rattle.cluster_text.specs.declared.cluster.ClusterFile.{ClusterFile}
use Rattle.cluster_text.specs.declared.stop.CommandStop.TheVariants.{BadCluster, Memory}
use Rattle.osd_bytes.specs.Asking.{Ends}
use Rattle.server_rules.specs.declared.server.Server.{Server}
use Rattle.server_rules.specs.Files.{file_at}
use Rattle.server_rules.specs.Making.{online}
use Rattle.server_command.specs.Cuts.{CutsFile}
use Rattle.server_command.specs.Drives.{Known, and_then, has_number, with_drive}
use Rattle.server_command.specs.Files.{LosesFile, MakesFile, RefusesFile, StopsAt}
use Rattle.server_command.specs.Messages.{InTurn, Serving}
use Rattle.server_command.specs.Steps.{ServerStep}
use Rattle.server_command.specs.declared.server_stop.ServerStop.{ServerStop}
use Rattle.server_command.specs.declared.server_stop.ServerStop.TheVariants.{Command, DiskFault}

-- ---- drives

-- the server knows the drive too, if it knew none of its number
abbrev pub with_lacking : Server → ClusterDrive → Known
with_lacking s d = if has_number s.drives d.number then Ok s else with_drive s d

-- these drives, one after the other
abbrev pub with_all_lacking : Server → List ClusterDrive → Known
with_all_lacking s [] = Ok s
with_all_lacking s (d ∷ ds) = and_then (with_lacking s d) (λ t. with_all_lacking t ds)

-- why it doesn't: one of them is wrong, there was no memory, or the disk that keeps the server failed
abbrev pub StopsLacking : Known → ServerStop → Type 0
StopsLacking known (Command (BadCluster kind)) = known ≡ Err kind
StopsLacking known (Command Memory) = ⊤
StopsLacking known (Command other) = ⊥
StopsLacking known DiskFault = ⊤

-- ---- files

-- the server has a file of this number
abbrev pub has_file : Server → ClusterFile → Bool
has_file s f = is_some (file_at s.files f.number)

-- a file that the server has stays as it is; another is made
abbrev pub MakesUnless : (has : Bool) → ClusterFile → (s t : Serving) → Type 0
MakesUnless true f s t = t ≡ s
MakesUnless false f s t = MakesFile f s t

abbrev pub MakesLacking : ClusterFile → (s t : Serving) → Type 0
MakesLacking f s t = MakesUnless (has_file s.server f) f s t

-- one after the other
abbrev pub MakesAllLacking : List ClusterFile → (s t : Serving) → Type 0
MakesAllLacking fs s t = InTurn MakesLacking fs s t

-- some of these are made or there, and of the next, which the server lacks, a drive gives no record, or holds an object already
abbrev pub LosesLacking : List ClusterFile → (s : Serving) → Server → (has : List ServerStep) → Ends → Type 0
LosesLacking fs s server has ends =
    StopsAt MakesLacking (λ f u. (has_file u.server f ≡ false) × LosesFile f u server has ends) fs s

-- or the next, which the server lacks, was cut off
abbrev pub CutsLacking : List ClusterFile → (s : Serving) → (now : Ends) → (served unserved : List ServerStep) → Type 0
CutsLacking fs s now served unserved =
    StopsAt MakesLacking (λ f u. (has_file u.server f ≡ false) × CutsFile f u now served unserved) fs s

-- or the server refuses the next, which it lacks
abbrev pub RefusesLacking : List ClusterFile → (s : Serving) → Type 0
RefusesLacking fs s = StopsAt MakesLacking (λ f u. (has_file u.server f ≡ false) × RefusesFile f u.server) fs s

-- or for the next, which the server lacks, fewer drives are online than it has components
abbrev pub LacksDrivesFor : List ClusterFile → (s : Serving) → Type 0
LacksDrivesFor fs s =
    StopsAt MakesLacking (λ f u. (has_file u.server f ≡ false) × (length (online u.server.drives) < f.map.comps)) fs s
