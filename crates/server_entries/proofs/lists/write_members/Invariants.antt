use Rattle.std.proofs.Common.{◌≡◌, ◌++◌, drop}
use Rattle.std.specs.List.{AllByRecursion, flat_map}
use Rattle.server_entries.proofs.lists.write_members.Given as goal

-- what is still written makes the whole
abbrev pub invariant-loop-member : goal.invariant-loop-member
invariant-loop-member g l =
    (l.writer ++ flat_map g.T.Part.spelling (drop l.member-index l.list) ≡ l.fn.writer ++ flat_map g.T.Part.spelling l.list)
    × (AllByRecursion g.T.Part.fits (drop l.member-index l.list) → AllByRecursion g.T.Part.fits l.list)
    × AllByRecursion g.T.Part.writable (drop l.member-index l.list)
