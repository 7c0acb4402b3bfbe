-- What a server does between its opening and its first connection.
use Rattle.std.specs.Prelude.{◌≡◌, ◌⊎◌, ℕ, Bool, true, false, not, List, [], ◌∷◌, ◌++◌, filter, Option, None, Some, Ok}
use Rattle.cluster_text.specs.declared.cluster.Cluster.{Cluster}
use Rattle.cluster_text.specs.declared.errors.ClusterKind.TheVariants.{Range}
use Rattle.cluster_text.specs.declared.stop.CommandStop.TheVariants.{BadCluster, LinkFault, Memory}
use Rattle.osd_bytes.specs.Asking.{Ends}
use Rattle.osd_bytes.specs.Connections.{after_notes}
use Rattle.server_rules.specs.declared.server.Server.{Server}
use Rattle.server_rules.specs.Making.{set_format}
use Rattle.server_requests.specs.declared.outgoing.Sent.{Sent}
use Rattle.server_state.specs.declared.step.Step.{Step}
use Rattle.osd_lists.specs.declared.node.Node.{Node}
use Rattle.osd_lists.specs.declared.node.Node.TheVariants.{Drive}
use Rattle.reply_matching.specs.Creations.{created_object}
use Rattle.server_command.specs.Cuts.{CutsMaking, CutsWork}
use Rattle.server_command.specs.Files.{LosesAll, Makes}
use Rattle.server_command.specs.Messages.{Serving, UntilNone, WorksAll, serving}
use Rattle.server_command.specs.Notes.{TellsSome, note_texts}
use Rattle.server_command.specs.Steps.{ServerStep}
use Rattle.server_command.specs.declared.server_stop.ServerStop.{ServerStop}
use Rattle.server_command.specs.declared.server_stop.ServerStop.TheVariants.{Command, DiskFault}
use Rattle.stored_server.specs.Lacking.{CutsLacking, LacksDrivesFor, LosesLacking, MakesAllLacking, with_all_lacking}

-- a message to make an object at a drive; `knows` tells which were made for the server, as its journal has it
abbrev pub is_new_at : (knows : ℕ → ℕ → Bool) → Node → (object : Option ℕ) → Bool
is_new_at knows (Drive d) (Some object) = not (knows d object)
is_new_at knows to object = false

-- the CREATE of an object that the server doesn't know to be made
abbrev pub is_new : (knows : ℕ → ℕ → Bool) → Sent → Bool
is_new knows m = is_new_at knows m.to (created_object m.bytes)

-- whether a message is picked, where those are that are new, or the others
abbrev pub picks : (new is : Bool) → Bool
picks true is = is
picks false is = not is

abbrev pub picked_of : (picks : Bool) → Sent → List Sent
picked_of true m = m ∷ []
picked_of false m = []

-- what the opening noted is told, and of what it gives to send this waits
abbrev pub opened : Server → Step → (waiting : List Sent) → (had : List ServerStep) → Ends → Serving
opened server step waiting had ends =
    serving server waiting true had (record ends { told = after_notes (note_texts step.notes) ends.told })

-- the CREATEs of the opening whose objects are new, and the rest of what it gives to send
abbrev pub new_of : (knows : ℕ → ℕ → Bool) → Step → List Sent
new_of knows step = filter (λ m. picks true (is_new knows m)) step.sends

abbrev pub rest_of : (knows : ℕ → ℕ → Bool) → Step → List Sent
rest_of knows step = filter (λ m. picks false (is_new knows m)) step.sends

-- First these CREATEs are made to their end, as those of a new file: an object that a drive holds already isn't taken for one
-- that was made. Then the rest is worked until nothing waits. There a drive that gives no record is left, as one is while
-- connections are served.
pub record Resumes (knows : ℕ → ℕ → Bool) (begun : Server) (step : Step) (had : List ServerStep) (before : Ends)
    (server : Server) (has : List ServerStep) (now : Ends) : Type 0 where
  pub made : Serving
  pub makes : UntilNone Makes (opened begun step (new_of knows step) had before) made
  pub worked : Serving
  pub works : WorksAll None (record made { waiting = rest_of knows step }) worked
  pub is : server ≡ worked.server
  pub steps : has ≡ worked.done
  pub ends : now ≡ worked.ends

-- or a drive made one of these objects not: it gave no record, or holds the object already, or refused
abbrev pub LosesResuming : (knows : ℕ → ℕ → Bool) → (begun : Server) → Step → (had : List ServerStep) → (before : Ends)
    → (last : Server) → (has : List ServerStep) → (now : Ends) → Type 0
LosesResuming knows begun step had before last has now =
    LosesAll (opened begun step (new_of knows step) had before) last has now

-- what the opening noted was being told, and nothing was sent
pub record CutsTelling (step : Step) (had : List ServerStep) (before now : Ends) (served unserved : List ServerStep)
    : Type 0 where
  pub told : TellsSome (note_texts step.notes) before.told now.told
  pub faults : now.faults ≡ before.faults
  pub times : now.times ≡ before.times
  pub same : served ≡ had
  pub none : unserved ≡ []

-- or these CREATEs, or the rest behind them, were cut off
abbrev pub CutsResuming : (knows : ℕ → ℕ → Bool) → (begun : Server) → Step → (had : List ServerStep) → (before now : Ends)
    → (served unserved : List ServerStep) → Type 0
CutsResuming knows begun step had before now served unserved =
    CutsTelling step had before now served unserved
    ⊎ CutsMaking (opened begun step (new_of knows step) had before) now served unserved
    ⊎ ((made : Serving) × UntilNone Makes (opened begun step (new_of knows step) had before) made
    × CutsWork None (record made { waiting = rest_of knows step }) now served unserved)

-- then the server's format is the cluster's at least, and it knows the cluster's drives; that takes steps too
pub record Settles (knew : ℕ → ℕ → Bool) (cluster : Cluster) (begun : Server) (step : Step) (had : List ServerStep)
    (before : Ends) (known : Server) (has : List ServerStep) (now : Ends) : Type 0 where
  pub server : Server
  pub resumed : List ServerStep
  pub resumes : Resumes knew begun step had before server resumed now
  pub has_all : with_all_lacking (set_format server cluster.format) cluster.drives ≡ Ok known
  pub more : List ServerStep
  pub steps : has ≡ resumed ++ more

-- or one of these steps was cut off: nothing was told or sent
pub record CutsSettling (knew : ℕ → ℕ → Bool) (begun : Server) (step : Step) (had : List ServerStep) (before now : Ends)
    (served unserved : List ServerStep) : Type 0 where
  pub server : Server
  pub resumed : List ServerStep
  pub resumes : Resumes knew begun step had before server resumed now
  pub more : List ServerStep
  pub steps : served ≡ resumed ++ more

-- and then it made the cluster's files that it lacked
pub record Prepares (knows : ℕ → ℕ → Bool) (cluster : Cluster) (begun : Server) (step : Step) (had : List ServerStep)
    (before : Ends) (made : Server) (has : List ServerStep) (now : Ends) : Type 0 where
  pub known : Server
  pub steps : List ServerStep
  pub between : Ends
  pub settles : Settles knows cluster begun step had before known steps between
  pub makes : MakesAllLacking cluster.files (serving known [] true steps between) (serving made [] true has now)

-- the server knew the cluster's drives, and of its work behind that this is so
abbrev pub OnceSettled : (knows : ℕ → ℕ → Bool) → Cluster → (begun : Server) → Step → (had : List ServerStep) → (before : Ends)
    → (Serving → Type 0) → Type 0
OnceSettled knows cluster begun step had before So =
    (known : Server) × (steps : List ServerStep) × (between : Ends)
    × Settles knows cluster begun step had before known steps between × So (serving known [] true steps between)

-- where it was cut off
abbrev pub CutsPreparing : (knows : ℕ → ℕ → Bool) → Cluster → (begun : Server) → Step → (had : List ServerStep)
    → (before now : Ends) → (served unserved : List ServerStep) → Type 0
CutsPreparing knows cluster begun step had before now served unserved =
    CutsResuming knows begun step had before now served unserved
    ⊎ CutsSettling knows begun step had before now served unserved
    ⊎ OnceSettled knows cluster begun step had before (λ s. CutsLacking cluster.files s now served unserved)

-- why it didn't: too few drives are online for a file of the cluster; a drive gave no record for a file that was made, or
-- held its object already and the journal doesn't tell that it made it, or refused; there was no memory, or the disk failed
abbrev pub StopsPreparing : (knows : ℕ → ℕ → Bool) → Cluster → (begun : Server) → Step → (had : List ServerStep)
    → (before : Ends) → (last : Server) → (now : Ends) → ServerStop → (served unserved : List ServerStep) → Type 0
StopsPreparing knows cluster begun step had before last now (Command (BadCluster kind)) served unserved =
    (kind ≡ Range) × (unserved ≡ []) × OnceSettled knows cluster begun step had before (λ s. LacksDrivesFor cluster.files s)
StopsPreparing knows cluster begun step had before last now (Command LinkFault) served unserved =
    (unserved ≡ []) × (LosesResuming knows begun step had before last served now
    ⊎ OnceSettled knows cluster begun step had before (λ s. LosesLacking cluster.files s last served now))
StopsPreparing knows cluster begun step had before last now (Command Memory) served unserved =
    CutsPreparing knows cluster begun step had before now served unserved
StopsPreparing knows cluster begun step had before last now (Command other) served unserved = ⊥
StopsPreparing knows cluster begun step had before last now DiskFault served unserved =
    CutsPreparing knows cluster begun step had before now served unserved
