mod RowsGrants
pub mod WaitingMoves
pub mod Waiting
pub mod Numbering
pub mod Asked
pub mod Probed
pub mod KnownMaps
pub mod TakenMaps
pub mod Apart
pub mod ReadMoves
pub mod HeldGrants
pub mod OneWrite
pub mod ReadSteps
pub mod Others
mod Opened
mod RowsGather
mod RowsIntervals
mod RowsDegraded
mod RowsTakenLate
mod RowsTooMany
mod RowsSilentAfter
mod RowsSilentBefore
mod RowsPlain
mod RowsOneOut
mod RowsTwoOut
mod RowsReplicas
mod RowsLaterOut
mod RowsNothingLeft
mod RowsTag
mod RowsNoRoom
mod RowsRecallIdle
mod RowsAgain
mod RowsRecallInCall
mod RowsConflict
mod RowsBadCommit
mod RowsFirst
mod RowsLimits
mod RowsShort
mod RowsStatuses
mod RowsBadLayout
mod RowsTables
