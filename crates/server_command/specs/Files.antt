-- How the server of a cluster makes its files, and where it stops.
use Rattle.std.specs.Prelude.{◌≡◌, ◌⊎◌, ℕ, true, false, List, [], ◌∷◌, ◌++◌, Option, Some, None, Ok}
use Rattle.osd_bytes.specs.Connections.{after_notes}
use Rattle.osd_lists.specs.declared.node.Node.{Node}
use Rattle.osd_lists.specs.declared.node.Node.TheVariants.{Server as TheServer, Drive, Client}
use Rattle.data_map.specs.Check.{HasAlgorithm}
use Rattle.cluster_text.specs.declared.cluster.ClusterFile.{ClusterFile}
use Rattle.cluster_text.specs.declared.errors.ClusterKind.TheVariants.{Range}
use Rattle.cluster_text.specs.declared.stop.CommandStop.TheVariants.{BadCluster, LinkFault, Memory}
use Rattle.server_rules.specs.declared.server.Refusal.{Refusal}
use Rattle.server_rules.specs.declared.server.Server.{Server}
use Rattle.server_rules.specs.Files.{Step}
use Rattle.server_rules.specs.Making.{create_file, refusal}
use Rattle.server_requests.specs.declared.outgoing.Sent.{Sent}
use Rattle.server_requests.specs.Sending.{all_sent}
use Rattle.osd_bytes.specs.Asking.{Answered, Ends}
use Rattle.server_command.specs.Notes.{note_texts}
use Rattle.server_command.specs.Messages.{AsksDrive, InTurn, Rounds, Serving, UntilNone, serving}
use Rattle.server_command.specs.Faults.{fault_line}
use Rattle.server_command.specs.Steps.{ServerStep}
use Rattle.server_command.specs.Steps as steps
use Rattle.server_command.specs.declared.files.TheConstants.{FIRST_TAG}
use Rattle.server_command.specs.declared.server_stop.ServerStop.{ServerStop}
use Rattle.server_command.specs.declared.server_stop.ServerStop.TheVariants.{Command, DiskFault}

-- ---- where it stops

-- some of these were done one after the other, and the next one wasn't
pub record StopsAt {A : Type 0} (Does : A → Serving → Serving → Type 0) (Stops : A → Serving → Type 0) (xs : List A)
    (s : Serving) : Type 0 where
  pub done : List A
  pub next : A
  pub left : List A
  pub are : xs ≡ done ++ next ∷ left
  pub before : Serving
  pub does : InTurn Does done s before
  pub stops : Stops next before

-- Why, and behind which steps: a drive gave no record or holds an object already, the server refused a file, or it was cut off,
-- since there was no memory or the disk that keeps the server failed.
abbrev pub StopsBy : (lost : List ServerStep → Type 0) → (refused : Type 0) → (cut : (served unserved : List ServerStep) → Type 0)
    → ServerStop → (served unserved : List ServerStep) → Type 0
StopsBy lost refused cut (Command LinkFault) served unserved = lost served × (unserved ≡ [])
StopsBy lost refused cut (Command (BadCluster kind)) served unserved = (kind ≡ Range) × refused × (unserved ≡ [])
StopsBy lost refused cut (Command Memory) served unserved = cut served unserved
StopsBy lost refused cut (Command other) served unserved = ⊥
StopsBy lost refused cut DiskFault served unserved = cut served unserved

-- ---- commands to drives

-- a command goes to its drive, and a record comes which says that it made the object of a CREATE, or asks for another format;
-- it is handled; no other message is sent
abbrev pub MakesTo : Node → (message : List ℕ) → (s t : Serving) → Type 0
MakesTo (Drive d) message s t = (a : AsksDrive d message s t) × (fault_line d message a.came ≡ None)
MakesTo TheServer message s t = t ≡ s
MakesTo (Client c) message s t = t ≡ s

abbrev pub Makes : Sent → (s t : Serving) → Type 0
Makes m s t = MakesTo m.to m.bytes s t

-- no record comes of a command, or one that says anything else to a CREATE, and a note tells which; nothing else happens
pub record LosesDrive (drive : ℕ) (message : List ℕ) (s t : Serving) : Type 0 where
  pub came : Option (List ℕ)
  pub between : Ends
  pub answered : Answered (Drive drive) message s.ends.told between.told s.ends.faults between.faults came
  pub times : between.times ≡ s.ends.times
  pub line : List ℕ
  pub fault : fault_line drive message came ≡ Some line
  pub tells : t ≡ record s { ends = record between { told = after_notes (line ∷ []) between.told } }

abbrev pub LosesTo : Node → (message : List ℕ) → (s t : Serving) → Type 0
LosesTo (Drive d) message s t = LosesDrive d message s t
LosesTo TheServer message s t = ⊥
LosesTo (Client c) message s t = ⊥

abbrev pub Loses : Sent → (s t : Serving) → Type 0
Loses m s t = LosesTo m.to m.bytes s t

-- some of these commands go on, and the next stops
abbrev pub LosesIn : List Sent → (s t : Serving) → Type 0
LosesIn ms s t = StopsAt Makes (λ m u. Loses m u t) ms s

-- rounds of commands, until one stops
abbrev pub LosesAll : (s : Serving) → Server → (has : List ServerStep) → Ends → Type 0
LosesAll s server has ends =
    (rounds : ℕ) × (u : Serving) × Rounds Makes rounds s u
    × (waiting : List Sent) × LosesIn u.waiting (record u { waiting = [] }) (serving server waiting true has ends)

-- ---- files

-- the server begins to make a file, on drives that the placer named, and what it notes is told
pub record Begins (file : ClusterFile) (s t : Serving) : Type 0 where
  pub chosen : List ℕ
  pub step : Step
  pub is : create_file s.server file.number file.map FIRST_TAG false chosen ≡ Ok step
  pub begun : t ≡ record s {
    server = step.state;
    waiting = all_sent step.sends;
    done = s.done ++ steps.Makes file.number file.map FIRST_TAG chosen ∷ [];
    ends = record s.ends { told = after_notes (note_texts step.notes) s.ends.told };
  }

-- a file is made: each CREATE, and what its answer brings, is an exchange
abbrev pub MakesFile : ClusterFile → (s t : Serving) → Type 0
MakesFile file s t = (u : Serving) × Begins file s u × UntilNone Makes u t

abbrev pub LosesFile : ClusterFile → (s : Serving) → Server → (has : List ServerStep) → Ends → Type 0
LosesFile file s server has ends = (u : Serving) × Begins file s u × LosesAll u server has ends

-- the server refuses the file, or its map has no algorithm
abbrev pub RefusesFile : ClusterFile → Server → Type 0
RefusesFile file server =
    ((r : Refusal) × (refusal server file.number file.map false ≡ Some r)) ⊎ (HasAlgorithm file.map → ⊥)

-- one after the other
abbrev pub MakesFiles : List ClusterFile → (s t : Serving) → Type 0
MakesFiles files s t = InTurn MakesFile files s t

-- some of these files are made, and for the next a drive gives no record, or holds an object already
abbrev pub LosesFiles : List ClusterFile → (s : Serving) → Server → (has : List ServerStep) → Ends → Type 0
LosesFiles files s server has ends = StopsAt MakesFile (λ f u. LosesFile f u server has ends) files s

-- some of these files are made, and the server refuses the next
abbrev pub RefusesFiles : List ClusterFile → (s : Serving) → Type 0
RefusesFiles files s = StopsAt MakesFile (λ f u. RefusesFile f u.server) files s
