-- What a server does with the connections that it accepts.
use Rattle.std.specs.Prelude.{◌≡◌, ◌⊎◌, ◌<◌, ◌≤◌, ℕ, zero, suc, true, List, [], ◌++◌, length, None, Ok}
use Rattle.osd_bytes.specs.Causes.{Rose}
use Rattle.osd_bytes.specs.Connections.{Accepts}
use Rattle.osd_bytes.specs.Counts.{NoFewer}
use Rattle.osd_bytes.specs.Records.{fresh, records_of, split}
use Rattle.osd_bytes.specs.Asking.{Ends}
use Rattle.osd_bytes.specs.Inboxes.{IsAtEnd, WasTaken}
use Rattle.osd_bytes.specs.declared.inbox.TheConstants.{MAX_TAKEN}
use Rattle.server_rules.specs.declared.server.Server.{Server}
use Rattle.server_rules.specs.Messages.{resend}
use Rattle.server_requests.specs.Sending.{all_sent}
use Rattle.server_command.specs.Messages.{InTurn, ServesRecord, Serving, WorksAll, serving}
use Rattle.server_command.specs.Steps.{ServerStep}

-- ---- what comes on a connection

-- these bytes were taken of the accepted connection, and nothing else happened
pub record Takes (piece : List ℕ) (before now : Ends) : Type 0 where
  pub told : WasTaken before.told now.told piece
  pub faults : NoFewer before.faults now.faults
  pub times : now.times ≡ before.times

-- so many pieces were taken, one after the other, and the records that each made whole served
abbrev pub ServesPieces : (pieces : ℕ) → (taken : List ℕ) → (records : List (List ℕ)) → (s t : Serving) → Type 0
ServesPieces zero taken records s t = (taken ≡ []) × (records ≡ []) × (t ≡ s)
ServesPieces (suc n) taken records s t =
    (before : List ℕ) × (piece : List ℕ) × (given : List (List ℕ)) × (more : List (List ℕ)) × (u : Serving) × (e : Ends)
    × ServesPieces n before given s u × Takes piece u.ends e × InTurn ServesRecord more (record u { ends = e }) t
    × (taken ≡ before ++ piece) × (records ≡ given ++ more)

-- why no more records come: a record was too long, the limit of bytes was taken, the call failed, or it is the end
abbrev pub IsOver : (taken : List ℕ) → (before now : Ends) → Type 0
IsOver taken before now =
    ((split fresh taken).begun ≡ None) ⊎ (length taken ≡ MAX_TAKEN)
    ⊎ Rose before.faults.accepted now.faults.accepted ⊎ IsAtEnd now.told

-- ---- connections

-- what jobs wait for is sent once more at the begin of a connection, behind the steps that the server had done
abbrev pub begins : Server → (had : List ServerStep) → Ends → Serving
begins server had ends = serving server (all_sent (resend server)) true had ends

-- each whole record that comes is served, up to the end, a call that fails, a record that is too long, or the limit of
-- bytes
pub record ServesStream (s : Serving) (new : Server) (has : List ServerStep) (now : Ends) : Type 0 where
  pub pieces : ℕ
  pub taken : List ℕ
  pub last : Serving
  pub served : ServesPieces pieces taken (records_of taken) s last
  pub limit : length taken ≤ MAX_TAKEN
  pub state : new ≡ last.server
  pub steps : has ≡ last.done
  pub ends : Takes [] last.ends now
  pub over : IsOver taken last.ends now

-- a connection that was accepted is served: what jobs wait for is worked, and then each whole record that comes
abbrev pub ServesConnection : (old new : Server) → (had has : List ServerStep) → (before now : Ends) → Type 0
ServesConnection old new had has before now =
    (resent : Serving) × WorksAll None (begins old had before) resent × ServesStream resent new has now

-- one more connection is accepted
pub record AcceptsOne (before now : Ends) : Type 0 where
  pub told : Accepts before.told now.told (Ok tt)
  pub faults : now.faults ≡ before.faults
  pub times : now.times ≡ before.times

-- so many connections are accepted and served, one after the other: these are the steps of all, behind those that the server had
-- done
abbrev pub ServesAll : (count : ℕ) → (old new : Server) → (had has : List ServerStep) → (before now : Ends) → Type 0
ServesAll zero old new had has before now = (new ≡ old) × (now ≡ before) × (has ≡ had)
ServesAll (suc n) old new had has before now =
    (s : Server) × (between : Ends) × (steps : List ServerStep) × ServesAll n old s had steps before between
    × (accepted : Ends) × AcceptsOne between accepted × ServesConnection s new steps has accepted now

-- no further one could be accepted, and nothing else happened
pub record AcceptsNone (before now : Ends) : Type 0 where
  pub told : now.told ≡ before.told
  pub times : now.times ≡ before.times
  pub faults : NoFewer before.faults now.faults
  pub rose : Rose before.faults.listening now.faults.listening

-- fewer were, and then none could be accepted
abbrev pub IsRefused : (count : ℕ) → (old new : Server) → (had has : List ServerStep) → (before now : Ends) → Type 0
IsRefused count old new had has before now =
    (n : ℕ) × (n < count) × (between : Ends) × ServesAll n old new had has before between × AcceptsNone between now
