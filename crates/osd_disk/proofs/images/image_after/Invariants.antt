use Rattle.std.proofs.Common.{◌≡◌, ◌≤◌, ◌-◌, length, take}
use Rattle.osd_disk.specs.Calls.{all_done, left_after}
use Rattle.osd_disk.proofs.images.image_after.Given as goal

abbrev pub invariant-loop-at : goal.invariant-loop-at
invariant-loop-at l = record {
  bound : l.at ≤ length l.calls;
  seen : l.seen ≡ all_done (take l.at l.calls) l.first;
  left : left_after (take l.at l.calls) l.first (λ d. d ≡ l.first) l.left;
}

abbrev pub decreases-loop-at : goal.decreases-loop-at
decreases-loop-at l = length l.calls - l.at
