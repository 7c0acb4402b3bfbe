use Rattle.std.proofs.Common.{◌∙◌}
use Rattle.stripe_repair.proofs.GroupLaws.{all_in_group}
use Rattle.stripe_repair.proofs.group_cursor.GroupCursor.new.Goals as goal

pub returns : goal.returns
returns c = c.settled-spot.ensures.same ∙ all_in_group c.args.map c.args.group c.args.high
