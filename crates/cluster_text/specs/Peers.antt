-- Whom the parties of a cluster know.
use Rattle.std.specs.Prelude.{◌≡◌, ℕ, List, ◌∷◌, map, Option}
use Rattle.osd_bytes.specs.Causes.{Rose}
use Rattle.osd_bytes.specs.Connections.{Standing}
use Rattle.osd_bytes.specs.Counts.{Faults}
use Rattle.osd_bytes.specs.declared.links.Peer.{Peer}
use Rattle.osd_lists.specs.declared.node.Node.TheVariants.{Server, Drive}
use Rattle.cluster_text.specs.declared.cluster.Cluster.{Cluster}
use Rattle.cluster_text.specs.declared.cluster.Reader.{Reader}
use Rattle.cluster_text.specs.Inputs.{GivesCluster}
use Rattle.cluster_text.specs.declared.cluster.ClusterDrive.{ClusterDrive}
use Rattle.cluster_text.specs.declared.stop.CommandStop.{CommandStop}
use Rattle.cluster_text.specs.declared.stop.CommandStop.TheVariants.{BadCluster, ReadFault, WriteFault, Memory, Full, LinkFault}

abbrev pub peer_of : ClusterDrive → Peer
peer_of d = record { node = Drive d.number; address = d.address }

-- the server, and then the drives
abbrev pub peers_of : Cluster → List Peer
peers_of c = record { node = Server; address = c.server } ∷ map peer_of c.drives

-- links listen at this address, if it isn't empty, and know the server and the drives of the cluster
abbrev pub IsSettled : Cluster → (listen : List ℕ) → Standing → Type 0
IsSettled cluster listen now = (now.listen ≡ listen) × (now.peers ≡ peers_of cluster)

-- the addresses of the links are those of the cluster that the text describes, which they listen at as this one
abbrev pub AddressesOfText : Reader → (Cluster → List ℕ) → (before now : Option (List ℕ)) → Standing → Type 0
AddressesOfText reader listen before now standing =
    (c : Cluster) × GivesCluster reader before now c × IsSettled c (listen c) standing

-- links listen where they did, and know whom they knew
abbrev pub KeepsAddresses : (before now : Standing) → Type 0
KeepsAddresses before now = (now.listen ≡ before.listen) × (now.peers ≡ before.peers)

-- why the links weren't settled
abbrev pub StopsSettling : (before now : Faults) → CommandStop → Type 0
StopsSettling before now LinkFault = Rose before.listening now.listening
StopsSettling before now Memory = now ≡ before
StopsSettling before now (BadCluster kind) = ⊥
StopsSettling before now ReadFault = ⊥
StopsSettling before now WriteFault = ⊥
StopsSettling before now Full = ⊥
