use Rattle.world_network.proofs.Showing.{pending_is_shown, posts_are_shown, marks_are_shown}
use Rattle.world_network.proofs.Several.{postings_are_shown}
use Rattle.world_network.proofs.laws.network_shows.Goals as goal

pub returns-clause-pending : goal.returns-clause-pending
returns-clause-pending c = pending_is_shown

pub returns-clause-posts : goal.returns-clause-posts
returns-clause-posts c = posts_are_shown

pub returns-clause-marks : goal.returns-clause-marks
returns-clause-marks c = marks_are_shown

pub returns-clause-postings : goal.returns-clause-postings
returns-clause-postings c = postings_are_shown
