use Rattle.std.proofs.Common.{◌≡◌, take}
use Rattle.std.specs.Prelude.{filter}
use Rattle.stored_server.specs.Preparing.{is_new, picks}
use Rattle.stored_server.proofs.preparing.pick.Given as goal

abbrev pub invariant-loop-i : goal.invariant-loop-i
invariant-loop-i g l =
    l.picked ≡ filter (λ m. picks l.new (is_new (g.H.MetadataServer.knows l.server) m)) (take l.i l.sends)
