-- Where a server that works is cut off, for want of memory or since the disk that keeps it failed: what went over the links,
-- which of its steps were served, and the one behind them, if there is one.
use Rattle.std.specs.Prelude.{◌≡◌, ◌⊎◌, ◌<◌, ◌≤◌, false, ℕ, List, [], ◌∷◌, ◌++◌, length, Option, Some, None, Ok}
use Rattle.osd_bytes.specs.Asking.{Answered, Ends, IsCutOff}
use Rattle.osd_bytes.specs.Clocks.{TellsTime}
use Rattle.osd_bytes.specs.Records.{records_of}
use Rattle.osd_bytes.specs.declared.inbox.TheConstants.{MAX_TAKEN}
use Rattle.osd_lists.specs.declared.node.Node.{Node}
use Rattle.osd_lists.specs.declared.node.Node.TheVariants.{Server as TheServer, Drive, Client}
use Rattle.cluster_text.specs.declared.cluster.ClusterFile.{ClusterFile}
use Rattle.server_requests.specs.declared.outgoing.Sent.{Sent}
use Rattle.server_rules.specs.declared.server.Server.{Server}
use Rattle.server_rules.specs.Envelopes.{on_bytes}
use Rattle.server_rules.specs.Files.{Step}
use Rattle.server_rules.specs.Making.{create_file}
use Rattle.server_command.specs.Connections.{AcceptsOne, ServesAll, ServesPieces, Takes, begins}
use Rattle.server_command.specs.Files.{Begins, Makes, MakesFile, StopsAt}
use Rattle.server_command.specs.Messages.{Handles, Rounds, ServesRecord, Serving, Works, WorksAll, sender_of}
use Rattle.server_command.specs.Notes.{TellsSome, note_texts}
use Rattle.server_command.specs.Steps.{ServerStep}
use Rattle.server_command.specs.Steps as steps
use Rattle.server_command.specs.declared.files.TheConstants.{FIRST_TAG}

-- nothing more was done
abbrev pub Rests : (s : Serving) → (now : Ends) → (served unserved : List ServerStep) → Type 0
Rests s now served unserved = (now ≡ s.ends) × (served ≡ s.done) × (unserved ≡ [])

-- ---- a record

-- A record was being handled at the next time of the clock: of what the server notes then some first lines were told, perhaps
-- none, and nothing of what that gives to send was sent. So the step wasn't served, whether it was done to its end or not.
pub record CutsHandle (from : Node) (message : List ℕ) (s : Serving) (now : Ends) (served unserved : List ServerStep)
    : Type 0 where
  pub time : ℕ
  pub tells : TellsTime s.ends.times now.times time
  -- what the placer named
  pub chosen : List ℕ
  pub told : TellsSome (note_texts (on_bytes s.server time chosen from message).notes) s.ends.told now.told
  pub faults : now.faults ≡ s.ends.faults
  pub before : served ≡ s.done
  pub step : unserved ≡ steps.Hears time chosen from message ∷ []

-- ---- a message

-- a record that came of a drive was being handled
abbrev pub CutsHearing : (drive : ℕ) → Option (List ℕ) → (s : Serving) → (now : Ends) → (served unserved : List ServerStep)
    → Type 0
CutsHearing drive None s now served unserved = ⊥
CutsHearing drive (Some bytes) s now served unserved = CutsHandle (Drive drive) bytes s now served unserved

-- the exchange with a drive was done, and then this happened
pub record CutsReply (drive : ℕ) (message : List ℕ) (s : Serving) (Then : Option (List ℕ) → Serving → Type 0) : Type 0 where
  pub came : Option (List ℕ)
  pub between : Ends
  pub answered : Answered (Drive drive) message s.ends.told between.told s.ends.faults between.faults came
  pub times : between.times ≡ s.ends.times
  pub behind : Then came (record s { ends = between })

-- the exchange itself was cut off
pub record CutsExchange (drive : ℕ) (message : List ℕ) (s : Serving) (now : Ends) (served unserved : List ServerStep)
    : Type 0 where
  pub cut : IsCutOff (Drive drive) message s.ends.told now.told s.ends.faults now.faults
  pub times : now.times ≡ s.ends.times
  pub before : served ≡ s.done
  pub none : unserved ≡ []

-- the exchange with a drive was cut off, or what came of it was being handled
abbrev pub CutsAsk : (drive : ℕ) → (message : List ℕ) → (s : Serving) → (now : Ends) → (served unserved : List ServerStep)
    → Type 0
CutsAsk drive message s now served unserved =
    CutsExchange drive message s now served unserved
    ⊎ CutsReply drive message s (λ came u. CutsHearing drive came u now served unserved)

-- of a message to anyone else nothing was put
abbrev pub CutsTo : Node → (message : List ℕ) → (s : Serving) → (now : Ends) → (served unserved : List ServerStep) → Type 0
CutsTo (Drive d) message s now served unserved = CutsAsk d message s now served unserved
CutsTo TheServer message s now served unserved = Rests s now served unserved
CutsTo (Client c) message s now served unserved = Rests s now served unserved

abbrev pub Cuts : Sent → (s : Serving) → (now : Ends) → (served unserved : List ServerStep) → Type 0
Cuts m s now served unserved = CutsTo m.to m.bytes s now served unserved

-- some of these messages were worked, and the next was cut off
abbrev pub CutsRound : (sender : Option Node) → List Sent → (s : Serving) → (now : Ends) → (served unserved : List ServerStep)
    → Type 0
CutsRound sender ms s now served unserved = StopsAt (Works sender) (λ m u. Cuts m u now served unserved) ms s

-- rounds of messages, until one was cut off
abbrev pub CutsWork : (sender : Option Node) → (s : Serving) → (now : Ends) → (served unserved : List ServerStep) → Type 0
CutsWork sender s now served unserved =
    (rounds : ℕ) × (u : Serving) × Rounds (Works sender) rounds s u
    × CutsRound sender u.waiting (record u { waiting = [] }) now served unserved

-- ---- files

-- a command to make an object was cut off so, or its exchange was done and nothing more: there was no memory for the note on what
-- came, or it wasn't kept that the drive made the object
abbrev pub CutsOn : (drive : ℕ) → (message : List ℕ) → (s : Serving) → (now : Ends) → (served unserved : List ServerStep) → Type 0
CutsOn drive message s now served unserved =
    CutsAsk drive message s now served unserved ⊎ CutsReply drive message s (λ came u. Rests u now served unserved)

-- a message to anyone else isn't sent
abbrev pub CutsMakeTo : Node → (message : List ℕ) → (s : Serving) → (now : Ends) → (served unserved : List ServerStep) → Type 0
CutsMakeTo (Drive d) message s now served unserved = CutsOn d message s now served unserved
CutsMakeTo TheServer message s now served unserved = ⊥
CutsMakeTo (Client c) message s now served unserved = ⊥

abbrev pub CutsMake : Sent → (s : Serving) → (now : Ends) → (served unserved : List ServerStep) → Type 0
CutsMake m s now served unserved = CutsMakeTo m.to m.bytes s now served unserved

-- some of these commands went on, and the next was cut off
abbrev pub CutsMakes : List Sent → (s : Serving) → (now : Ends) → (served unserved : List ServerStep) → Type 0
CutsMakes ms s now served unserved = StopsAt Makes (λ m u. CutsMake m u now served unserved) ms s

-- rounds of commands, until one was cut off
abbrev pub CutsMaking : (s : Serving) → (now : Ends) → (served unserved : List ServerStep) → Type 0
CutsMaking s now served unserved =
    (rounds : ℕ) × (u : Serving) × Rounds Makes rounds s u × CutsMakes u.waiting (record u { waiting = [] }) now served unserved

-- The server was beginning to make a file, on drives that the placer named: of what it notes then some first lines were told, if
-- the step was done to its end; and no command was sent.
pub record CutsBegin (file : ClusterFile) (s : Serving) (now : Ends) (served unserved : List ServerStep) : Type 0 where
  pub chosen : List ℕ
  pub told : (now.told ≡ s.ends.told)
      ⊎ ((step : Step) × (create_file s.server file.number file.map FIRST_TAG false chosen ≡ Ok step)
      × TellsSome (note_texts step.notes) s.ends.told now.told)
  pub faults : now.faults ≡ s.ends.faults
  pub times : now.times ≡ s.ends.times
  pub before : served ≡ s.done
  pub step : unserved ≡ steps.Makes file.number file.map FIRST_TAG chosen ∷ []

-- a file wasn't begun; or it was being begun, or its commands were being sent
abbrev pub CutsFile : ClusterFile → (s : Serving) → (now : Ends) → (served unserved : List ServerStep) → Type 0
CutsFile file s now served unserved =
    Rests s now served unserved ⊎ CutsBegin file s now served unserved
    ⊎ ((u : Serving) × Begins file s u × CutsMaking u now served unserved)

-- some of these files were made, and the next was cut off
abbrev pub CutsFiles : List ClusterFile → (s : Serving) → (now : Ends) → (served unserved : List ServerStep) → Type 0
CutsFiles files s now served unserved = StopsAt MakesFile (λ f u. CutsFile f u now served unserved) files s

-- ---- a connection

-- nothing was done with a record yet; or it was being handled, or what it brings was being worked
abbrev pub CutsRecord : (message : List ℕ) → (s : Serving) → (now : Ends) → (served unserved : List ServerStep) → Type 0
CutsRecord message s now served unserved =
    Rests s now served unserved ⊎ CutsHandle (sender_of message) message s now served unserved
    ⊎ ((u : Serving) × Handles (sender_of message) message s u
    × CutsWork (Some (sender_of message)) u now served unserved)

-- some of these records were served, and the next was cut off
abbrev pub CutsRecords : List (List ℕ) → (s : Serving) → (now : Ends) → (served unserved : List ServerStep) → Type 0
CutsRecords records s now served unserved = StopsAt ServesRecord (λ m u. CutsRecord m u now served unserved) records s

-- Pieces were taken, and the records that each made whole served, and then one more was: it went no further, or among the records
-- that became whole by it one was cut off.
pub record CutsStream (s : Serving) (now : Ends) (served unserved : List ServerStep) : Type 0 where
  pub pieces : ℕ
  pub taken : List ℕ
  pub last : Serving
  pub serves : ServesPieces pieces taken (records_of taken) s last
  pub piece : List ℕ
  pub between : Ends
  pub takes : Takes piece last.ends between
  pub limit : length (taken ++ piece) ≤ MAX_TAKEN
  pub cuts : Rests (record last { ends = between }) now served unserved
      ⊎ ((records : List (List ℕ)) × (records_of (taken ++ piece) ≡ records_of taken ++ records)
      × CutsRecords records (record last { ends = between }) now served unserved)

-- nothing was sent again yet; or that was being worked, or the stream was cut off
abbrev pub CutsConnection : (old : Server) → (had : List ServerStep) → (before now : Ends)
    → (served unserved : List ServerStep) → Type 0
CutsConnection old had before now served unserved =
    Rests (begins old had before) now served unserved ⊎ CutsWork None (begins old had before) now served unserved
    ⊎ ((resent : Serving) × WorksAll None (begins old had before) resent × CutsStream resent now served unserved)

-- Fewer connections were served whole, and then one that was accepted was cut off. What was put on them is what steps gave that
-- were served; of the one behind them, where there is one, nothing was.
pub record CutsAll (count : ℕ) (old : Server) (had : List ServerStep) (before now : Ends) (served unserved : List ServerStep)
    : Type 0 where
  pub whole : ℕ
  pub fewer : whole < count
  pub mid : Server
  pub between : Ends
  pub done : List ServerStep
  pub serves : ServesAll whole old mid had done before between
  pub accepted : Ends
  pub accepts : AcceptsOne between accepted
  pub cut : CutsConnection mid done accepted now served unserved
