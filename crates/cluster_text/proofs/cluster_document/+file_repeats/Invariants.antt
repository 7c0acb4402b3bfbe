use Rattle.std.proofs.Common.{length}
use Rattle.cluster_text.proofs.cluster_document.+file_repeats.Given as goal

abbrev pub decreases-file_repeats : goal.decreases-file_repeats
decreases-file_repeats l = length l.files.now
