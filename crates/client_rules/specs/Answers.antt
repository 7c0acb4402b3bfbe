-- Answers of the server to a call's requests.
use Rattle.std.specs.Prelude.{ℕ, Bool, List, ◌+◌, ◌==◌, ◌&&◌, nat_lt, if◌then◌else◌}
use Rattle.layout_ops.specs.declared.statuses.TheConstants.{NFS4_OK, NFS4ERR_NOENT, NFS4ERR_BADLAYOUT, NFS4ERR_LAYOUTTRYLATER, NFS4ERR_LAYOUTUNAVAILABLE, NFS4ERR_RECALLCONFLICT}
use Rattle.client_rules.specs.declared.limits.TheConstants.{MAX_TRIES, NO_COMPONENT, LOSS_TAKEN}
use Rattle.client_rules.specs.State.{CallOp, Held, TimedOut, Get, Outcome, WriteOk, NoFile, HeldBy, Fencing, Degraded, Spent, Status, Silent, Turn, Ends, Forgets, Moved, Answer}
use Rattle.client_rules.specs.Turns.{turned, needing}
use Rattle.client_rules.specs.Calls.{span_of}
use Rattle.client_rules.specs.Results.{status_of}
use Rattle.client_rules.specs.Writes.{accounted, lowest}

-- ---- LAYOUTGET

-- asked again at once, unless this is the last time
unfoldable pub busy : (tries : ℕ) → Outcome → Turn
busy tries o = if nat_lt (tries + 1) MAX_TRIES then needing (Get (tries + 1)) else Ends o

-- no grant can be given any more, or that component lacks
abbrev pub unavailable : (detail : ℕ) → Outcome
unavailable detail = if detail == NO_COMPONENT then Spent else Degraded detail

-- a status with no layout
abbrev pub refused_with : (status detail tries : ℕ) → Turn
refused_with status detail tries =
    if status == NFS4ERR_NOENT then Ends NoFile
    else if status == NFS4ERR_LAYOUTTRYLATER then busy tries (HeldBy detail)
    else if status == NFS4ERR_RECALLCONFLICT then busy tries (Fencing detail)
    else if status == NFS4ERR_LAYOUTUNAVAILABLE then Ends (unavailable detail)
    else Ends (Status status detail)

-- an answer that gives none
unfoldable pub not_granted : Answer → (tries : ℕ) → Turn
not_granted a tries = refused_with (status_of a.results) a.detail tries

-- ---- LAYOUTCOMMIT

-- the new size is known, and the write goes on
abbrev pub committed : Held → CallOp → Answer → List TimedOut → Moved
committed h op a timed = turned (record h { size = a.size }) (accounted op timed)

-- BADLAYOUT says that the grant is over
unfoldable pub not_committed : (status detail : ℕ) → Turn
not_committed status detail =
    if status == NFS4ERR_BADLAYOUT then Forgets (Status status detail) else Ends (Status status detail)

-- any answer
unfoldable pub on_commit : Held → CallOp → Answer → List TimedOut → Moved
on_commit h op a timed =
    if status_of a.results == NFS4_OK then committed h op a timed
    else turned h (not_committed (status_of a.results) a.detail)

-- ---- LAYOUTRETURN

-- the report was taken as a loss
abbrev pub is_loss_taken : Answer → Bool
is_loss_taken a = (status_of a.results == NFS4_OK) && (a.detail == LOSS_TAKEN)

-- which acknowledges the write
unfoldable pub on_report : CallOp → Answer → List TimedOut → Outcome
on_report op a timed = if is_loss_taken a then WriteOk (span_of op).length else Silent (lowest timed)
