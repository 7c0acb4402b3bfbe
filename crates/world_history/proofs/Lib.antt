pub mod DriveLines
pub mod Parties
pub mod Runs
pub mod Histories
mod Closed
pub mod Always
mod Going
pub mod ReadMessages
pub mod Causes
pub mod Pending
mod Played
mod Opened
mod OpenedServer
mod OpenedClient
mod RowsDeaf
mod RowsOrders
mod RowsCalls
mod RowsClocks
mod OpenedText
mod Spoken
mod RowsTorn
mod RowsMended
mod RowsTaken
mod RowsRefused
mod RowsRestart
