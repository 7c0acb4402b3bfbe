use Rattle.std.proofs.Common.{length}
use Rattle.cluster_text.proofs.cluster_document.+address_repeats.Given as goal

abbrev pub decreases-address_repeats : goal.decreases-address_repeats
decreases-address_repeats l = length l.drives.now
