use Rattle.std.proofs.Common.{◌≡◌, ◌-◌}
use Rattle.osd_objects.specs.Pages.{with_pages, without_pages}
use Rattle.osd_objects.proofs.pages.fill.Given as goal

abbrev pub invariant-loop-number : goal.invariant-loop-number
invariant-loop-number l = record {
  forth : with_pages l.pages.entries l.number (l.end - l.number) ≡ with_pages l.fn.pages.entries l.first (l.end - l.first);
  back : without_pages l.pages.entries l.added.items ≡ l.fn.pages.entries;
}

abbrev pub decreases-loop-number : goal.decreases-loop-number
decreases-loop-number l = l.end - l.number
