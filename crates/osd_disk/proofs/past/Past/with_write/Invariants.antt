use Rattle.std.proofs.Common.{[], ◌∷◌, ◌++◌}
use Rattle.osd_disk.specs.declared.calls.Call.TheVariants.{Write}
use Rattle.osd_disk.proofs.past.Past.with_write.Given as goal

abbrev pub ghost-from_call : goal.ghost-from_call
ghost-from_call a =
    record { first = a.self.now.first; calls = a.self.now.calls ++ Write a._at a._bytes.now ∷ []; fails = []; faults = 0 }
