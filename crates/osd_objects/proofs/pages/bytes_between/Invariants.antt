use Rattle.std.proofs.Common.{◌≡◌, ◌≤◌, ◌-◌, max}
use Rattle.osd_objects.specs.Pages.{span}
use Rattle.osd_objects.proofs.pages.bytes_between.Given as goal

abbrev pub invariant-loop-at : goal.invariant-loop-at
invariant-loop-at l = record {
  from : l.offset ≤ l.at;
  upto : l.at ≤ max l.offset l.end;
  so_far : l.bytes ≡ span l.pages.entries l.offset (l.at - l.offset);
}

abbrev pub decreases-loop-at : goal.decreases-loop-at
decreases-loop-at l = l.end - l.at
