-- Why the command stops behind the cluster text.
use Rattle.std.proofs.Common.{inr}
use Rattle.osd_bytes.specs.Connections.{Standing}
use Rattle.cluster_text.specs.declared.cluster.Cluster.{Cluster}
use Rattle.cluster_text.specs.declared.stop.CommandStop.{CommandStop}
use Rattle.cluster_text.specs.declared.stop.CommandStop.TheVariants.{BadCluster, ReadFault, WriteFault, Memory, Full, LinkFault}
use Rattle.cluster_text.specs.Outside.{Streams}
use Rattle.command_words.specs.declared.words.ClientWords.{ClientWords}
use Rattle.client_command.specs.Inputs.{GivesWork}
use Rattle.client_command.specs.OnLinks.{OnLinks}
use Rattle.client_command.specs.Ends.{StopsClient, StopsWork}

module _ (words : ClientWords) (in_before in_now : Streams) (before now : OnLinks) (standing : Standing) where
  pub acting : (stop : CommandStop) (c : Cluster) (asked : ClientWords) → GivesWork words in_before.left in_now.left c asked
      → StopsWork asked c before now standing in_before.taken in_now.taken in_before.writes_failed in_now.writes_failed stop
      → StopsClient words in_before in_now before now standing stop
  acting (BadCluster kind) c asked gives s = absurd s
  acting ReadFault c asked gives s = absurd s
  acting WriteFault c asked gives s = (c, asked, gives, s)
  acting Memory c asked gives s = inr (c, asked, gives, s)
  acting Full c asked gives s = absurd s
  acting LinkFault c asked gives s = (c, asked, gives, s)
