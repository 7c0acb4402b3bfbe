-- How the work of a client ends.
use Rattle.std.specs.Prelude.{List, [], ◌∷◌, Option, Some, None}
use Rattle.layout_ops.specs.declared.orders.OrderResult.{OrderResult}
use Rattle.layout_ops.specs.declared.orders.OrderResult.TheVariants.{Started}
use Rattle.layout_ops.specs.Enumerations.{order_result_number}
use Rattle.client_rules.specs.declared.outcomes.Outcome.{Outcome}
use Rattle.client_rules.specs.declared.outcomes.Outcome.TheVariants.{WriteOk, ReadOk}
use Rattle.client_command.specs.declared.notices.Notice.{Notice}
use Rattle.client_command.specs.declared.notices.Notice.TheVariants.{TimedOut, Ended as EndedCall}
use Rattle.client_command.specs.declared.work_ends.ClientEnd.{ClientEnd}
use Rattle.client_command.specs.declared.work_ends.ClientEnd.TheVariants.{Done, Refused}
use Rattle.client_command.specs.declared.work_ends.Refusal.TheVariants.{Ended, Order}

-- a call is done where it wrote or read; any other outcome refuses it
abbrev pub end_by_outcome : Outcome → ClientEnd
end_by_outcome (WriteOk count) = Done
end_by_outcome (ReadOk bytes) = Done
end_by_outcome other = Refused (Ended other)

-- by the first end that is told
abbrev pub end_of : List Notice → Option ClientEnd
end_of [] = None
end_of (TimedOut component ∷ notices) = end_of notices
end_of (EndedCall outcome ∷ notices) = Some (end_by_outcome outcome)

-- an order is done where the server has begun with it
abbrev pub end_by_result : OrderResult → ClientEnd
end_by_result Started = Done
end_by_result other = Refused (Order (order_result_number other))
