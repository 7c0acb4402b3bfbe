pub mod ServerNamed
pub mod ServerTells
pub mod ClientTells
pub mod ClientSends
pub mod DriveReplies
pub mod DriveNames
