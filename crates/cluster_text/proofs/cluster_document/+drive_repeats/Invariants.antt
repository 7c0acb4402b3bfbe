use Rattle.std.proofs.Common.{length}
use Rattle.cluster_text.proofs.cluster_document.+drive_repeats.Given as goal

abbrev pub decreases-drive_repeats : goal.decreases-drive_repeats
decreases-drive_repeats l = length l.drives.now
