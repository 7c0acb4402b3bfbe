-- What worked scenarios compute through of the world, under one name.
use Rattle.std.specs.Prelude.{ℕ}
use Rattle.world_history.specs.Told.{verdict_with}
use Rattle.world_history.specs.Drives.{judges}
use Rattle.world_history.specs.Moves.{delivers, calls_at, times_out, leaves, resends, pends, makes, gives, injects, begins}
use Rattle.world_history.specs.Sending.{sent_lines, fitting}
use Rattle.world_history.specs.Plans.{pending_from, rule_of}
use Rattle.world_history.specs.Refusals.{refusal}
use Rattle.world_history.specs.Reading.{grouped, sent_in}
use Rattle.world_history.specs.Stripes.{is_short_stripe, is_disturbed, is_torn, is_calm, component_at, marks_of}
use Rattle.world_history.proofs.Played.{plays, played_all}
use Rattle.osd_commands.specs.Commands.{reading as command_reading}

unfoldable pub opened : ℕ
unfolding verdict_with judges delivers calls_at times_out leaves resends pends makes gives injects begins sent_lines fitting
    pending_from rule_of refusal grouped sent_in is_short_stripe is_disturbed is_torn is_calm component_at marks_of plays
    played_all command_reading
opened = 0
