pub mod Members
pub mod Components
pub mod Zoned
pub mod Placed
pub mod Runs
pub mod GrantLaws
pub mod FileLaws
pub mod HandlerLaws
pub mod StepLaws
pub mod SlotLaws
mod Opened
mod RowsOrders
mod RowsRequests
mod RowsAtOnce
mod RowsDeclared
mod RowsFence
mod RowsGet
mod RowsGroups
mod RowsLoss
mod RowsLost
mod RowsMirrors
mod RowsNoSpace
mod RowsNumbers
mod RowsOlder
mod RowsRebuild
mod RowsRepair
mod RowsRestart
mod RowsSpent
mod RowsTwoLost
mod RowsZones
