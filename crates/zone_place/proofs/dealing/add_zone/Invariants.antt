use Rattle.std.proofs.Common.{◌≡◌, ◌++◌, drop}
use Rattle.zone_place.proofs.Lines.{front}
use Rattle.zone_place.proofs.dealing.add_zone.Given as goal

abbrev pub invariant-loop-load : goal.invariant-loop-load
invariant-loop-load l = l.line ++ front l.zone l.left (drop l.load-index l.loads) ≡ l.fn.line ++ front l.zone l.most l.loads
