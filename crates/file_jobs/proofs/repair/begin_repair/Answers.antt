use Rattle.file_jobs.proofs.Rising.{are_inside}
use Rattle.file_jobs.proofs.repair.begin_repair.Goals as goal

pub new-repair-requires : goal.new-repair-requires
new-repair-requires c = are_inside 0 c.in_ok-ranges.ranges c.in_ok-ranges.ensures.rise
