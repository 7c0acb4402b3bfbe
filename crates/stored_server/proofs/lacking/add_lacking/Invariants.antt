use Rattle.std.proofs.Common.{◌≡◌, drop}
use Rattle.server_command.specs.GoesOn.{Went}
use Rattle.stored_server.specs.Lacking.{with_all_lacking}
use Rattle.stored_server.proofs.lacking.add_lacking.Given as goal

abbrev pub invariant-loop-drive : goal.invariant-loop-drive
invariant-loop-drive g l =
    (with_all_lacking (g.H.MetadataServer.server l.server) (drop l.drive-index l.fn.drives)
    ≡ with_all_lacking (g.H.MetadataServer.server l.initial.server) l.fn.drives)
    × Went g.H.MetadataServer l.initial.server l.server
