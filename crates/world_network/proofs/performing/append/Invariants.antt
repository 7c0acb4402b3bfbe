use Rattle.std.proofs.Common.{◌≡◌, ◌≤◌, ◌-◌, ◌++◌, take, drop, length}
use Rattle.world_network.proofs.performing.append.Given as goal

abbrev pub invariant-loop-place : goal.invariant-loop-place
invariant-loop-place l = record {
  within : l.place ≤ length l.fn.told;
  count : length l.left ≡ length l.fn.told;
  lines : l.lines ≡ l.fn.lines ++ take l.place l.fn.told;
  rest : drop l.place l.left ≡ drop l.place l.fn.told;
}

abbrev pub decreases-loop-place : goal.decreases-loop-place
decreases-loop-place l = length l.left - l.place
