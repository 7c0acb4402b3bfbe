use Rattle.std.proofs.Common.{◌≡◌, ◌++◌, ◌<◌, ◌^◌, drop}
use Rattle.std.specs.List.{AllByRecursion, flat_map}
use Rattle.xdr_codec.specs.Items.{u32_item}
use Rattle.server_notes.proofs.positions.write_members.Given as goal

-- what is still written makes the whole
abbrev pub invariant-loop-member : goal.invariant-loop-member
invariant-loop-member l =
    (l.writer ++ flat_map u32_item (drop l.member-index l.list) ≡ l.fn.writer ++ flat_map u32_item l.list)
    × (AllByRecursion (λ n. n < 2 ^ 32) (drop l.member-index l.list) → AllByRecursion (λ n. n < 2 ^ 32) l.list)
