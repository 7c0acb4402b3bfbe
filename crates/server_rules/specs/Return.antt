-- LAYOUTRETURN: clean, taken as a loss, or with a fence.
use Rattle.std.specs.Prelude.{ℕ, Bool, true, false, List, [], ◌∷◌, Option, Some, None, ◌+◌, ◌==◌, ◌&&◌, not, length, take, drop, if◌then◌else◌}
use Rattle.std.specs.Int.{w64, from_be_bytes}
use Rattle.layout_ops.specs.declared.statuses.TheConstants.{NFS4_OK, NFS4ERR_LAYOUTUNAVAILABLE}
use Rattle.server_rules.specs.declared.limits.TheConstants.{GREATEST_TAG, NO_COMPONENT, LOSS_TAKEN, FIRST_PARTITION}
use Rattle.server_rules.specs.State.{RawMap, Component, Grant, Kept, IoErr, Revoking, Spent, Reported}
use Rattle.layout_types.specs.declared.objid.ObjId.{ObjId}
use Rattle.layout_types.specs.declared.ioerrs.Errno.{Errno}
use Rattle.layout_types.specs.declared.ioerrs.Errno.TheVariants.{Unreachable}
use Rattle.server_rules.specs.Maps.{group_with}
use Rattle.server_rules.specs.Numbers.{among}
use Rattle.server_rules.specs.Standing.{is_beyond, lose_from}
use Rattle.server_rules.specs.Grants.{grant_of, without}
use Rattle.server_rules.specs.Going.{Going, keeping, noting, noting_if}
use Rattle.server_rules.specs.Jobs.{fence_begins}
use Rattle.server_rules.specs.Served.{Served, says}

-- ---- the components that a report names

-- the 16 bytes spell the drive's number
unfoldable pub is_device : List ℕ → (drive : ℕ) → Bool
is_device bytes drive = (from_be_bytes w64 (take 8 bytes) == 0) && (from_be_bytes w64 (drop 8 bytes) == drive)

-- an object's name is that of the component's object
abbrev pub is_at : ObjId → Component → Bool
is_at o at = is_device o.oid_device_id at.drive
    && ((o.oid_partition_id == FIRST_PARTITION + at.drive) && (o.oid_object_id == at.object))

-- the component, from number k on, whose present or last object the entry names
unfoldable pub named_from : IoErr → List Component → (k : ℕ) → Option ℕ
named_from e [] k = None
named_from e (at ∷ cs) k = if is_at e.oer_component at then Some k else named_from e cs (k + 1)

-- the error says that the drive wasn't reached
abbrev pub is_unreachable : Errno → Bool
is_unreachable Unreachable = true
is_unreachable e = false

-- an entry for a drive that wasn't reached names a component
abbrev pub named_by : IoErr → List Component → Option ℕ
named_by e cs = if is_unreachable e.oer_errno then named_from e cs 0 else None

-- all of them, where each is there
abbrev pub and_others : Option ℕ → Option (List ℕ) → Option (List ℕ)
and_others None ks = None
and_others (Some k) None = None
and_others (Some k) (Some ks) = Some (k ∷ ks)

-- the components that the entries name, where each does
unfoldable pub named : List IoErr → List Component → Option (List ℕ)
named [] cs = Some []
named (e ∷ es) cs = and_others (named_by e cs) (named es cs)

-- ---- a report that is taken as a loss

-- no group of these can't be decoded
unfoldable pub none_beyond : RawMap → List Component → List ℕ → Bool
none_beyond m cs [] = true
none_beyond m cs (k ∷ ks) = not (is_beyond m cs (group_with m k)) && none_beyond m cs ks

-- the grant is the file's only one, and for writing
abbrev pub is_sole : Kept → Grant → Bool
is_sole f g = g.rw && (length f.grants == 1)

-- these, where no group of theirs can't be decoded then
abbrev pub bearable : Kept → Option (List ℕ) → Option (List ℕ)
bearable f None = None
bearable f (Some ks) = if none_beyond f.map (lose_from ks f.components 0) ks then Some ks else None

-- the components that become missing where the report is taken as a loss
unfoldable pub loss : Kept → Grant → List IoErr → Option (List ℕ)
loss f g report = if is_sole f g then bearable f (named report f.components) else None

-- ---- the rows

-- the row that applies
pub data Returned : Type 0 where
  NoGrant : Returned
  Clean : Returned
  Taken : (components : List ℕ) → Returned
  TooMany : Returned
  Fencing : Returned

-- a loss, or a fence where the tag isn't spent
abbrev pub by_loss : Kept → Option (List ℕ) → Returned
by_loss f (Some ks) = Taken ks
by_loss f None = if f.tag == GREATEST_TAG then TooMany else Fencing

-- an empty report is clean
abbrev pub by_report : Kept → Grant → List IoErr → Returned
by_report f g [] = Clean
by_report f g (e ∷ es) = by_loss f (loss f g (e ∷ es))

-- the client has a grant, or none
abbrev pub by_grant : Kept → List IoErr → Option Grant → Returned
by_grant f report None = NoGrant
by_grant f report (Some g) = by_report f g report

-- the row that applies on the file
unfoldable pub return_row : Kept → (client : ℕ) → List IoErr → Returned
return_row f client report = by_grant f report (grant_of f.grants client)

-- ---- what is done

-- the client's grant goes
abbrev pub ends_grant : Going → (client : ℕ) → Going
ends_grant go client = keeping go (record go.file.kept { grants = without go.file.kept.grants client })

-- a note for each of these, in rising order, from number k on
unfoldable pub reports_from : Going → List ℕ → List Component → (k : ℕ) → Going
reports_from go ks [] k = go
reports_from go ks (at ∷ cs) k = reports_from (noting_if (among k ks) go (Reported k)) ks cs (k + 1)

-- the components of these numbers become missing
unfoldable pub takes_loss : Going → List ℕ → Going
takes_loss go ks =
    reports_from (keeping go (record go.file.kept { components = lose_from ks go.file.kept.components 0 })) ks
    go.file.kept.components 0

-- what the row does
abbrev pub by_return : Going → (format client : ℕ) → Returned → Served
by_return go format client NoGrant = says go NFS4_OK 0
by_return go format client Clean = says (ends_grant go client) NFS4_OK 0
by_return go format client (Taken ks) = says (ends_grant (takes_loss go ks) client) NFS4_OK LOSS_TAKEN
by_return go format client TooMany = says (noting go Spent) NFS4ERR_LAYOUTUNAVAILABLE NO_COMPONENT
by_return go format client Fencing = says (fence_begins Revoking format go) NFS4_OK 0

-- a LAYOUTRETURN on a file
unfoldable pub returns_on : Going → (format client : ℕ) → List IoErr → Served
returns_on go format client report = by_return go format client (return_row go.file.kept client report)
