use Rattle.std.proofs.Common.{◌≡◌, ◌++◌, drop, map}
use Rattle.cluster_text.specs.Peers.{peer_of}
use Rattle.cluster_text.proofs.peers.push_drives.Given as goal

abbrev pub invariant-loop-drive : goal.invariant-loop-drive
invariant-loop-drive l = l.peers ++ map peer_of (drop l.drive-index l.fn.drives) ≡ l.fn.peers ++ map peer_of l.fn.drives
