-- What comes of a source that has to give a cluster text, and why it doesn't.
use Rattle.std.specs.Prelude.{◌≡◌, ℕ, ◌+◌, ◌≤◌, List, length, ⊤, Option, Ok, Err}
use Rattle.std.specs.Io.KnownBytes.{Consumes, IsAtEnd}
use Rattle.osd_bytes.specs.Causes.{Rose}
use Rattle.osd_bytes.specs.declared.lines.TheConstants.{MAX_INPUT}
use Rattle.cluster_text.specs.declared.cluster.Cluster.{Cluster}
use Rattle.cluster_text.specs.declared.cluster.Reader.{Reader}
use Rattle.cluster_text.specs.declared.errors.ClusterErr.{ClusterErr}
use Rattle.cluster_text.specs.declared.errors.ClusterErr.TheVariants.{Refused, Memory as NoMemory}
use Rattle.cluster_text.specs.declared.errors.ClusterKind.{ClusterKind}
use Rattle.cluster_text.specs.Document.{cluster_of}
use Rattle.cluster_text.specs.declared.stop.CommandStop.{CommandStop}
use Rattle.cluster_text.specs.declared.stop.CommandStop.TheVariants.{BadCluster, ReadFault, WriteFault, Memory, Full, LinkFault}

abbrev pub stop_of : ClusterErr → CommandStop
stop_of (Refused kind) = BadCluster kind
stop_of NoMemory = Memory

-- these are all bytes that the source had, and no more than an input may have
pub record IsWhole (before after : Option (List ℕ)) (bytes : List ℕ) : Type 0 where
  pub came : Consumes before after bytes
  pub at_end : IsAtEnd after
  pub limit : length bytes ≤ MAX_INPUT

-- one byte more came than an input may have
pub record IsTooLong (before after : Option (List ℕ)) : Type 0 where
  pub bytes : List ℕ
  pub came : Consumes before after bytes
  pub passes : length bytes ≡ MAX_INPUT + 1

-- why not all bytes were read
abbrev pub StopsReading : (before after : Option (List ℕ)) → (failed_before failed : ℕ) → CommandStop → Type 0
StopsReading before after failed_before failed Full = IsTooLong before after
StopsReading before after failed_before failed ReadFault = Rose failed_before failed
StopsReading before after failed_before failed Memory = ⊤
StopsReading before after failed_before failed (BadCluster kind) = ⊥
StopsReading before after failed_before failed WriteFault = ⊥
StopsReading before after failed_before failed LinkFault = ⊥

-- the whole text describes the cluster
pub record GivesCluster (reader : Reader) (before after : Option (List ℕ)) (cluster : Cluster) : Type 0 where
  pub text : List ℕ
  pub whole : IsWhole before after text
  pub is : cluster_of reader text ≡ Ok cluster

-- the whole text is refused
pub record RefusesCluster (reader : Reader) (before after : Option (List ℕ)) (kind : ClusterKind) : Type 0 where
  pub text : List ℕ
  pub whole : IsWhole before after text
  pub is : cluster_of reader text ≡ Err (Refused kind)

-- why there is no cluster
abbrev pub StopsCluster : Reader → (before after : Option (List ℕ)) → (failed_before failed : ℕ) → CommandStop → Type 0
StopsCluster reader before after failed_before failed (BadCluster kind) = RefusesCluster reader before after kind
StopsCluster reader before after failed_before failed stop = StopsReading before after failed_before failed stop
