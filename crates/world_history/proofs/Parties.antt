-- The node that a line names as a party.
use Rattle.std.proofs.Common.{refl, ◌≡◌, ap, ℕ}
use Rattle.osd_lists.specs.declared.node.Node.{Node}
use Rattle.osd_lists.specs.declared.node.Node.TheVariants as node
use Rattle.scenario_text.specs.declared.line.Party.TheVariants as party
use Rattle.world_history.specs.Spelled.{party_of}

pub party_server : (n : Node) → party_of n ≡ party.Server → n ≡ node.Server
party_server node.Server e = refl
party_server (node.Drive d) e = absurd (cc e)
party_server (node.Client c) e = absurd (cc e)

pub party_drive : (n : Node) (d : ℕ) → party_of n ≡ party.Drive d → n ≡ node.Drive d
party_drive (node.Drive k) d e = ap node.Drive (same e)
  where
    same : party.Drive k ≡ party.Drive d → k ≡ d
    same f = cc f
party_drive node.Server d e = absurd (cc e)
party_drive (node.Client c) d e = absurd (cc e)

pub party_client : (n : Node) (c : ℕ) → party_of n ≡ party.Client c → n ≡ node.Client c
party_client (node.Client k) c e = ap node.Client (same e)
  where
    same : party.Client k ≡ party.Client c → k ≡ c
    same f = cc f
party_client node.Server c e = absurd (cc e)
party_client (node.Drive d) c e = absurd (cc e)
