pub mod Lists
mod Pending
pub mod Components
pub mod FileNotes
mod Targets
mod Jobs
mod Reports
mod Serving
pub mod Rounds
mod Lines
pub mod Steps
mod Finding
pub mod Making
mod Tags
mod FenceTags
pub mod Through
pub mod FileFacts
pub mod Failed
mod Outgoing
mod Others
pub mod Drives
pub mod Placing
pub mod Numbers
pub mod Answering
pub mod Trimming
pub mod StepTelling
pub mod Standing
pub mod Heads
pub mod Shapes
pub mod MoveOpening
pub mod Inside
pub mod MadeLines
pub mod OnDrives
pub mod Zones
pub mod Holders
pub mod Keeping
pub mod RequestWalk
pub mod Walking
pub mod ZoneMaking
pub mod Aiming
pub mod ZoneStepping
pub mod Failing
pub mod Zoned
mod Rows
pub mod Rests
pub mod Servers
pub mod Moves
pub mod Keys
pub mod Sealing
pub mod Server
mod Kept
mod Client
pub mod PartyAnswering
mod Knowing
pub mod SizeMoments
pub mod PartyKeeping
pub mod Offline
pub mod DrivesKnown
pub mod ListedSteps
pub mod ListedServing
pub mod Given
pub mod PartyStepping
pub mod ListedMoments
pub mod PartyLists
pub mod PartyJobs
pub mod OrderServing
pub mod OrderSteps
pub mod Histories
pub mod SentNumbers
pub mod ObjectJobs
pub mod ObjectSteps
pub mod ObjectRuns
pub mod Sent
pub mod Ends
pub mod PhaseJobs
pub mod PhaseServing
pub mod Going
pub mod PhaseSteps
pub mod Every
pub mod PhaseRuns
pub mod Within
pub mod BirthSent
pub mod StandAwaited
pub mod StandHeld
pub mod StandJobs
pub mod StandServing
pub mod StandOpens
pub mod StandSteps
pub mod StandRuns
pub mod BirthEnds
pub mod BirthJobs
pub mod BirthServing
pub mod BirthGoing
pub mod BirthSteps
pub mod BirthEvery
pub mod BirthRuns
pub mod Doing
pub mod Moments
pub mod KeptJobs
pub mod KeptOpening
pub mod KeptFits
pub mod Saying
mod Aging
mod Bodies
mod Holding
pub mod Telling
mod BarredLaw
mod HandedLaw
pub mod Rights
pub mod TagLines
pub mod OriginLaw
pub mod WithinLaw
pub mod There
pub mod Creating
pub mod Heard
pub mod TagTags
pub mod LeastLaw
pub mod InLines
pub mod OfflineServer
pub mod OfflineMoves
pub mod Shut
pub mod Without
pub mod NamedLines
pub mod SeenServer
pub mod NextMoves
pub mod Begun
pub mod Members
