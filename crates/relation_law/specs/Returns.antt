-- What the server finds of a report that a write broke off: it isn't one that may be taken as a loss.
use Rattle.std.specs.Prelude.{◌≡◌, ◌⊎◌, ℕ, true, false, List, [], ◌∷◌, Option, Some, None}
use Rattle.layout_types.specs.declared.ioerrs.IoErr.{IoErr}
use Rattle.server_rules.specs.Files.{file_at}
use Rattle.server_rules.specs.Grants.{grant_of}
use Rattle.server_rules.specs.Maps.{group_with}
use Rattle.server_rules.specs.Numbers.{among}
use Rattle.server_rules.specs.Return.{named, is_unreachable}
use Rattle.server_rules.specs.Standing.{is_beyond, lose_from}
use Rattle.client_rules.specs.Calls.{file_of}
use Rattle.client_rules.specs.Grants.{held_of}
use Rattle.client_rules.specs.Requests.{report_of}
use Rattle.client_rules.specs.Writes.{is_too_short}
pub use Rattle.cause_law.specs.Reports.{as_written, error_read, report_read}
use Rattle.world_history.specs.ServerNames.{Server, File, Kept, Grant}
use Rattle.world_history.specs.ClientNames.{Call, CallOp, Held, TimedOut, Need, Report, Close, Phase, Needs, Waits, Gathers, Scatters, Outcome, Refused, Silent}

-- ---- to the server

-- Without the components that the report names, if each entry names one, the group of one of them can't be decoded.
abbrev pub IsBeyondBearing : Kept → List IoErr → Type 0
IsBeyondBearing k report =
    (ks : List ℕ) → named report k.components ≡ Some ks →
    (n : ℕ) × (among n ks ≡ true) × (is_beyond k.map (lose_from ks k.components 0) (group_with k.map n) ≡ true)

-- so it is of client c's report on the file, if the server has a grant of the client there
abbrev pub CantBeBorne : Server → (c file : ℕ) → List IoErr → Type 0
CantBeBorne s c file report =
    (f : File) (g : Grant) → file_at s.files file ≡ Some f → grant_of f.kept.grants c ≡ Some g →
    IsBeyondBearing f.kept report

-- ---- to the client

-- Under the grant too much of the call's range timed out, and at its begin enough was there.
pub record IsTooShort (h : Held) (op : CallOp) (report : List IoErr) : Type 0 where
  pub timed : List TimedOut
  pub report_is : report ≡ report_of h timed
  pub short : is_too_short h op timed ≡ true
  pub enough : is_too_short h op [] ≡ false

-- the first entry is of a drive that was reached
abbrev pub IsOfRefusal : List IoErr → Type 0
IsOfRefusal [] = ⊥
IsOfRefusal (e ∷ es) = is_unreachable e.oer_errno ≡ false

-- why a write broke off
abbrev pub BreaksOff : Held → CallOp → List IoErr → Type 0
BreaksOff h op report = IsOfRefusal report ⊎ IsTooShort h op report

-- ---- phases

-- some component timed out
abbrev pub SomeTimedOut : List TimedOut → Type 0
SomeTimedOut [] = ⊥
SomeTimedOut (t ∷ ts) = Unit {0}

-- N holds of the report of a write that broke off
abbrev pub ReportsBy : (List IoErr → Type 0) → List IoErr → Type 0
ReportsBy N [] = Unit {0}
ReportsBy N (e ∷ es) = N (e ∷ es)

-- a drive refused, or didn't answer
abbrev pub EndsBadly : Outcome → Type 0
EndsBadly (Refused drive verdict detail) = Unit {0}
EndsBadly (Silent k) = Unit {0}
EndsBadly outcome = ⊥

-- what a call returns reports something if it may be taken as a loss, and N holds of it if its write broke off
abbrev pub NeedReports : (List IoErr → Type 0) → Need → Type 0
NeedReports N (Report timed) = SomeTimedOut timed
NeedReports N (Close outcome report) = EndsBadly outcome × ReportsBy N report
NeedReports N n = Unit {0}

abbrev pub PhaseReports : (List IoErr → Type 0) → Phase → Type 0
PhaseReports N (Needs n) = NeedReports N n
PhaseReports N (Waits n) = NeedReports N n
PhaseReports N p = Unit {0}

-- without what timed out, enough is there for the call's write
abbrev pub HasEnough : Held → CallOp → Type 0
HasEnough h op = is_too_short h op [] ≡ false

-- so it is while it gathers or scatters
abbrev pub WritesEnough : Held → CallOp → Phase → Type 0
WritesEnough h op (Gathers io) = HasEnough h op
WritesEnough h op (Scatters io queue) = HasEnough h op
WritesEnough h op p = Unit {0}

-- both, of a call under the grant that is held on its file, if one is
pub record ReportsWell (N : CallOp → List IoErr → Type 0) (hs : List Held) (call : Call) : Type 0 where
  pub reports : PhaseReports (N call.op) call.phase
  pub enough : (h : Held) → held_of hs (file_of call.op) ≡ Some h → WritesEnough h call.op call.phase

abbrev pub CallReports : (CallOp → List IoErr → Type 0) → List Held → Option Call → Type 0
CallReports N hs None = Unit {0}
CallReports N hs (Some call) = ReportsWell N hs call
