-- What the command of a server leaves, and why it stops.
use Rattle.std.specs.Prelude.{◌≡◌, ◌⊎◌, ℕ, true, [], List, ◌++◌, take, Option, Ok, Err}
use Rattle.std.specs.Io.KnownBytes.{Appends}
use Rattle.osd_bytes.specs.Causes.{Rose}
use Rattle.osd_bytes.specs.Connections.{Standing}
use Rattle.cluster_text.specs.declared.cluster.Cluster.{Cluster}
use Rattle.cluster_text.specs.declared.cluster.Reader.TheVariants.{Server as ServerReads}
use Rattle.cluster_text.specs.declared.errors.ClusterKind.{ClusterKind}
use Rattle.cluster_text.specs.declared.errors.ClusterKind.TheVariants.{Range}
use Rattle.cluster_text.specs.Inputs.{GivesCluster, RefusesCluster, IsTooLong}
use Rattle.cluster_text.specs.Lines.{PutsLine, stop_line}
use Rattle.cluster_text.specs.Peers.{AddressesOfText, IsSettled}
use Rattle.cluster_text.specs.declared.stop.CommandStop.{CommandStop}
use Rattle.cluster_text.specs.declared.stop.CommandStop.TheVariants.{BadCluster, ReadFault, WriteFault, Memory}
use Rattle.cluster_text.specs.declared.stop.CommandStop.TheVariants.{Full, LinkFault}
use Rattle.osd_bytes.specs.Asking.{Ends}
use Rattle.server_rules.specs.declared.server.Server.{Server}
use Rattle.server_command.specs.declared.server_stop.ServerStop.{ServerStop}
use Rattle.server_command.specs.declared.server_stop.ServerStop.TheVariants.{Command, DiskFault}
use Rattle.server_command.specs.Messages.{serving}
use Rattle.server_command.specs.Connections.{IsRefused, ServesAll}
use Rattle.server_command.specs.Cuts.{CutsAll, CutsFiles}
use Rattle.server_command.specs.Drives.{server_in}
use Rattle.server_command.specs.Files.{LosesFiles, MakesFiles, RefusesFiles}
use Rattle.server_command.specs.Steps.{ServerStep}
use Rattle.cluster_text.specs.Lines.{listening_line, served_line}
use Rattle.cluster_text.specs.Outside.{Streams}

-- ---- serving over links that listen

-- all connections were accepted and served, and both lines went out
pub record Serves (connections : ℕ) (old new : Server) (had has : List ServerStep) (before now : Ends)
    (taken_before taken : Option (List ℕ)) : Type 0 where
  pub served : ServesAll connections old new had has before now
  pub told : Appends taken_before taken (listening_line ++ served_line connections)

-- a part of the first line went out before a connection was accepted, or a part of the second after all were served
abbrev pub CutsLine : (connections : ℕ) → (old new : Server) → (had has : List ServerStep) → (before now : Ends)
    → (taken_before taken : Option (List ℕ)) → Type 0
CutsLine connections old new had has before now taken_before taken =
    ((new ≡ old) × (now ≡ before) × (has ≡ had) × (upto : ℕ) × Appends taken_before taken (take upto listening_line))
    ⊎ (ServesAll connections old new had has before now
    × (upto : ℕ) × Appends taken_before taken (listening_line ++ take upto (served_line connections)))

-- the first line went out, and a connection was cut off
abbrev pub CutsConnections : (connections : ℕ) → (old : Server) → (had served unserved : List ServerStep) → (before now : Ends)
    → (taken_before taken : Option (List ℕ)) → Type 0
CutsConnections connections old had served unserved before now taken_before taken =
    Appends taken_before taken listening_line × CutsAll connections old had before now served unserved

-- nothing was told or asked, and no step was done
abbrev pub HasNotBegun : (had served unserved : List ServerStep) → (before now : Ends) → (taken_before taken : Option (List ℕ))
    → Type 0
HasNotBegun had served unserved before now taken_before taken =
    (now ≡ before) × (taken ≡ taken_before) × (served ≡ had) × (unserved ≡ [])

-- Why not all were accepted, served and told, what was told, and which steps were served; behind them there may be one that
-- wasn't.
abbrev pub StopsServing : (connections : ℕ) → (old new : Server) → (had served unserved : List ServerStep) → (before now : Ends)
    → (taken_before taken : Option (List ℕ)) → (failed_before failed : ℕ) → CommandStop → Type 0
StopsServing connections old new had served unserved before now taken_before taken failed_before failed WriteFault =
    CutsLine connections old new had served before now taken_before taken × (unserved ≡ []) × Rose failed_before failed
StopsServing connections old new had served unserved before now taken_before taken failed_before failed LinkFault =
    Appends taken_before taken listening_line × (unserved ≡ []) × IsRefused connections old new had served before now
StopsServing connections old new had served unserved before now taken_before taken failed_before failed Memory =
    HasNotBegun had served unserved before now taken_before taken
    ⊎ CutsConnections connections old had served unserved before now taken_before taken
StopsServing connections old new had served unserved before now taken_before taken failed_before failed other = ⊥

-- the same of a server that a disk may keep, which fails only while the server serves
abbrev pub StopsCore : (connections : ℕ) → (old new : Server) → (had served unserved : List ServerStep) → (before now : Ends)
    → (taken_before taken : Option (List ℕ)) → (failed_before failed : ℕ) → ServerStop → Type 0
StopsCore connections old new had served unserved before now taken_before taken failed_before failed (Command stop) =
    StopsServing connections old new had served unserved before now taken_before taken failed_before failed stop
StopsCore connections old new had served unserved before now taken_before taken failed_before failed DiskFault =
    CutsConnections connections old had served unserved before now taken_before taken

-- ---- as the server of a cluster

-- the links listen at the server's address, and know the cluster's server and drives
abbrev pub IsSettledAs : Cluster → Standing → Type 0
IsSettledAs cluster standing = IsSettled cluster cluster.server standing

-- the links have the addresses that they had, or those
abbrev pub SettlesAs : Cluster → (before now : Standing) → Type 0
SettlesAs cluster before now = (now ≡ before) ⊎ IsSettledAs cluster now

-- the server of the cluster made all its files with these steps: each CREATE, and what its answer brought, was an exchange with
-- its drive
pub record HasMade (cluster : Cluster) (before : Ends) (made : Server) (steps : List ServerStep) (now : Ends) : Type 0 where
  pub first : Server
  pub is : server_in cluster ≡ Ok first
  pub makes : MakesFiles cluster.files (serving first [] true [] before) (serving made [] true steps now)

-- and then it served all connections
pub record ServesIn (connections : ℕ) (cluster : Cluster) (before now : Ends) (standing : Standing)
    (taken_before taken : Option (List ℕ)) : Type 0 where
  pub settled : IsSettledAs cluster standing
  pub made : Server
  pub steps : List ServerStep
  pub between : Ends
  pub has_made : HasMade cluster before made steps between
  pub last : Server
  pub has : List ServerStep
  pub serves : Serves connections made last steps has between now taken_before taken

-- the cluster has no server, or its server refuses a file
abbrev pub HasNoServer : Cluster → Ends → ClusterKind → Type 0
HasNoServer cluster before kind =
    (server_in cluster ≡ Err kind)
    ⊎ ((kind ≡ Range) × (first : Server) × (server_in cluster ≡ Ok first)
    × RefusesFiles cluster.files (serving first [] true [] before))

-- the links weren't settled, and nothing else happened
pub record IsUnsettled (before now : Ends) : Type 0 where
  pub rose : Rose before.faults.listening now.faults.listening
  pub told : now.told ≡ before.told
  pub times : now.times ≡ before.times

-- while the files were made an exchange with a drive gave no record, or a drive held an object already
abbrev pub LosesMaking : Cluster → (before now : Ends) → Standing → Type 0
LosesMaking cluster before now standing =
    IsSettledAs cluster standing × (first : Server) × (server_in cluster ≡ Ok first)
    × (last : Server) × (has : List ServerStep) × LosesFiles cluster.files (serving first [] true [] before) last has now

-- the files were made, fewer connections were served, and then none could be accepted
pub record LosesServing (connections : ℕ) (cluster : Cluster) (before now : Ends) (standing : Standing) : Type 0 where
  pub settled : IsSettledAs cluster standing
  pub made : Server
  pub steps : List ServerStep
  pub between : Ends
  pub has_made : HasMade cluster before made steps between
  pub last : Server
  pub has : List ServerStep
  pub refused : IsRefused connections made last steps has between now
  pub rose : Rose before.faults.listening now.faults.listening

-- which of these it was, and what was told
abbrev pub LosesLinks : (connections : ℕ) → Cluster → (before now : Ends) → Standing
    → (taken_before taken : Option (List ℕ)) → Type 0
LosesLinks connections cluster before now standing taken_before taken =
    (IsUnsettled before now × (taken ≡ taken_before))
    ⊎ (LosesMaking cluster before now standing × (taken ≡ taken_before))
    ⊎ (LosesServing connections cluster before now standing × Appends taken_before taken listening_line)

-- the files were made, and a part of a line went out
pub record CutsLineIn (connections : ℕ) (cluster : Cluster) (before now : Ends) (standing : Standing)
    (taken_before taken : Option (List ℕ)) : Type 0 where
  pub settled : IsSettledAs cluster standing
  pub made : Server
  pub steps : List ServerStep
  pub between : Ends
  pub has_made : HasMade cluster before made steps between
  pub last : Server
  pub has : List ServerStep
  pub cuts : CutsLine connections made last steps has between now taken_before taken

-- the files were being made, and nothing was told
pub record CutsMakingIn (cluster : Cluster) (before now : Ends) (standing : Standing) (taken_before taken : Option (List ℕ))
    : Type 0 where
  pub settled : IsSettledAs cluster standing
  pub first : Server
  pub is : server_in cluster ≡ Ok first
  pub served : List ServerStep
  pub unserved : List ServerStep
  pub cuts : CutsFiles cluster.files (serving first [] true [] before) now served unserved
  pub silent : taken ≡ taken_before

-- the files were made, the first line went out, and a connection was cut off
pub record CutsServingIn (connections : ℕ) (cluster : Cluster) (before now : Ends) (standing : Standing)
    (taken_before taken : Option (List ℕ)) : Type 0 where
  pub settled : IsSettledAs cluster standing
  pub made : Server
  pub steps : List ServerStep
  pub between : Ends
  pub has_made : HasMade cluster before made steps between
  pub served : List ServerStep
  pub unserved : List ServerStep
  pub cuts : HasNotBegun steps served unserved between now taken_before taken
      ⊎ CutsConnections connections made steps served unserved between now taken_before taken

-- nothing was told, and nothing came or went
abbrev pub IsUntouched : (before now : Ends) → (taken_before taken : Option (List ℕ)) → Type 0
IsUntouched before now taken_before taken = (taken ≡ taken_before) × (now ≡ before)

-- where memory ran out
abbrev pub LacksMemory : (connections : ℕ) → Cluster → (before now : Ends) → Standing → (taken_before taken : Option (List ℕ))
    → Type 0
LacksMemory connections cluster before now standing taken_before taken =
    IsUntouched before now taken_before taken
    ⊎ CutsMakingIn cluster before now standing taken_before taken
    ⊎ CutsServingIn connections cluster before now standing taken_before taken

-- why not all connections were served, and what was told
abbrev pub StopsIn : (connections : ℕ) → Cluster → (before now : Ends) → Standing
    → (taken_before taken : Option (List ℕ)) → (failed_before failed : ℕ) → CommandStop → Type 0
StopsIn connections cluster before now standing taken_before taken failed_before failed (BadCluster kind) =
    HasNoServer cluster before kind
StopsIn connections cluster before now standing taken_before taken failed_before failed LinkFault =
    LosesLinks connections cluster before now standing taken_before taken
StopsIn connections cluster before now standing taken_before taken failed_before failed WriteFault =
    CutsLineIn connections cluster before now standing taken_before taken × Rose failed_before failed
StopsIn connections cluster before now standing taken_before taken failed_before failed Memory =
    LacksMemory connections cluster before now standing taken_before taken
StopsIn connections cluster before now standing taken_before taken failed_before failed other = ⊥

-- ---- the command

-- the text describes a cluster, and its server has made its files and served all connections
pub record ServesAs (connections : ℕ) (in_before in_now : Streams) (before now : Ends) (standing : Standing) : Type 0 where
  pub cluster : Cluster
  pub gives : GivesCluster ServerReads in_before.left in_now.left cluster
  pub serves : ServesIn connections cluster before now standing in_before.taken in_now.taken

-- the links have the addresses that they had, or those of the server of the cluster that the text describes
abbrev pub SettlesAsText : (in_before in_now : Option (List ℕ)) → (before now : Standing) → Type 0
SettlesAsText in_before in_now before now =
    (now ≡ before) ⊎ AddressesOfText ServerReads (λ c. c.server) in_before in_now now

-- Why it hasn't, and what it told till then. Links and clock are asked for nothing before there is a cluster.
abbrev pub StopsServer : (connections : ℕ) → (in_before in_now : Streams) → (before now : Ends) → Standing → CommandStop
    → Type 0
StopsServer connections in_before in_now before now standing (BadCluster kind) =
    RefusesCluster ServerReads in_before.left in_now.left kind × IsUntouched before now in_before.taken in_now.taken
StopsServer connections in_before in_now before now standing ReadFault =
    Rose in_before.reads_failed in_now.reads_failed × IsUntouched before now in_before.taken in_now.taken
StopsServer connections in_before in_now before now standing Full =
    IsTooLong in_before.left in_now.left × IsUntouched before now in_before.taken in_now.taken
StopsServer connections in_before in_now before now standing Memory =
    IsUntouched before now in_before.taken in_now.taken
    ⊎ ((c : Cluster) × GivesCluster ServerReads in_before.left in_now.left c
    × LacksMemory connections c before now standing in_before.taken in_now.taken)
StopsServer connections in_before in_now before now standing LinkFault =
    (c : Cluster) × GivesCluster ServerReads in_before.left in_now.left c
    × LosesLinks connections c before now standing in_before.taken in_now.taken
StopsServer connections in_before in_now before now standing WriteFault =
    (c : Cluster) × GivesCluster ServerReads in_before.left in_now.left c
    × CutsLineIn connections c before now standing in_before.taken in_now.taken
    × Rose in_before.writes_failed in_now.writes_failed

-- the same, and then the line that tells why
pub record EndsServer (connections : ℕ) (in_before in_now : Streams) (before now : Ends) (standing : Standing)
    (stop : CommandStop) : Type 0 where
  pub told : Streams
  pub why : StopsServer connections in_before told before now standing stop
  pub left : (in_now.left ≡ told.left) × (in_now.reads_failed ≡ told.reads_failed)
  pub line : PutsLine told.taken in_now.taken told.writes_failed in_now.writes_failed (stop_line stop)
