-- The operations, orders and results of orders, and their numbers, both ways.
use Rattle.std.specs.Prelude.{ℕ, if◌then◌else◌, nat_eq, Option, Some, None}
use Rattle.layout_ops.specs.declared.operation.Operation.{Operation}
use Rattle.layout_ops.specs.declared.operation.Operation.TheVariants as operation
use Rattle.layout_ops.specs.declared.orders.OrderKind.{OrderKind}
use Rattle.layout_ops.specs.declared.orders.OrderKind.TheVariants as order
use Rattle.layout_ops.specs.declared.orders.OrderResult.{OrderResult}
use Rattle.layout_ops.specs.declared.orders.OrderResult.TheVariants as answer

-- the numbers of RFC 5661
abbrev pub operation_number : Operation → ℕ
operation_number operation.LayoutCommit = 49
operation_number operation.LayoutGet = 50
operation_number operation.LayoutReturn = 51

abbrev pub operation_of : ℕ → Option Operation
operation_of n =
    if nat_eq n 49 then Some operation.LayoutCommit
    else if nat_eq n 50 then Some operation.LayoutGet
    else if nat_eq n 51 then Some operation.LayoutReturn
    else None

abbrev pub order_number : OrderKind → ℕ
order_number order.Recall = 1
order_number order.Revoke = 2
order_number order.Declare = 3
order_number order.Rebuild = 4
order_number order.Audit = 5

abbrev pub order_of : ℕ → Option OrderKind
order_of n =
    if nat_eq n 1 then Some order.Recall
    else if nat_eq n 2 then Some order.Revoke
    else if nat_eq n 3 then Some order.Declare
    else if nat_eq n 4 then Some order.Rebuild
    else if nat_eq n 5 then Some order.Audit
    else None

abbrev pub order_result_number : OrderResult → ℕ
order_result_number answer.Started = 0
order_result_number answer.Busy = 1
order_result_number answer.Spent = 2
order_result_number answer.Unknown = 3

abbrev pub order_result_of : ℕ → Option OrderResult
order_result_of n =
    if nat_eq n 0 then Some answer.Started
    else if nat_eq n 1 then Some answer.Busy
    else if nat_eq n 2 then Some answer.Spent
    else if nat_eq n 3 then Some answer.Unknown
    else None
