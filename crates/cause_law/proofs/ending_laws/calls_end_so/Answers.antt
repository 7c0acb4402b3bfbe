-- How calls end, from the laws of each way.
use Rattle.cause_law.proofs.Calls.{calls_end_so}
use Rattle.cause_law.proofs.ending_laws.calls_end_so.Goals as goal

pub returns : goal.returns
returns c =
    calls_end_so c.fronts_are_lawful.ensures c.calls_end_fair.ensures c.files_and_answers_are_readable.ensures
    c.no_call_of_text_ends_misplaced.ensures c.no_lane_is_wanting.ensures
    c.grants_are_fresh.ensures c.places_are_enough.ensures c.no_slot_is_spent.ensures
