use Rattle.std.proofs.Common.{◌≤◌, ◌-◌, length, take}
use Rattle.osd_objects.specs.Pages.{IsOverlaid}
use Rattle.osd_objects.proofs.pages.put_over.Given as goal

abbrev pub invariant-loop-at : goal.invariant-loop-at
invariant-loop-at l = record {
  inside : l.at ≤ length l.bytes;
  overlaid : IsOverlaid l.fn.pages.entries l.offset (take l.at l.bytes) l.pages.entries;
}

abbrev pub decreases-loop-at : goal.decreases-loop-at
decreases-loop-at l = length l.bytes - l.at
