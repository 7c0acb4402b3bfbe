use Rattle.std.proofs.Common.{◌≡◌, length}
use Rattle.osd_objects.specs.Pages.{without_pages}
use Rattle.osd_objects.proofs.pages.take_out.Given as goal

abbrev pub invariant-loop-number : goal.invariant-loop-number
invariant-loop-number l = without_pages l.pages.entries l.numbers.items ≡ without_pages l.fn.pages.entries l.fn.numbers.items

abbrev pub decreases-loop-number : goal.decreases-loop-number
decreases-loop-number l = length l.numbers.items
