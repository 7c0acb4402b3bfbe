use Rattle.cause_law.proofs.Rooms.{no_lane_is_wanting}
use Rattle.cause_law.proofs.ending_laws.no_lane_is_wanting.Goals as goal

pub returns : goal.returns
returns c = no_lane_is_wanting c.awaited_are_taken.ensures c.refusals_were_awaited.ensures
