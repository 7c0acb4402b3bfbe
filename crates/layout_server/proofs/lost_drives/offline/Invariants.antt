use Rattle.std.proofs.Common.{◌≡◌, ◌++◌, drop}
use Rattle.server_rules.specs.Orders.{offline}
use Rattle.layout_server.proofs.lost_drives.offline.Given as goal

abbrev pub invariant-loop-drive : goal.invariant-loop-drive
invariant-loop-drive l = l.left ++ offline (drop l.drive-index l.fn.drives) l.lost ≡ offline l.fn.drives l.lost
