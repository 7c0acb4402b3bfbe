-- The rows as the code names them.
use Rattle.std.specs.Prelude.{ℕ, Bool, Option, Some, None, ◌==◌, ◌≤◌, ◌||◌, ◌+◌, ◌&&◌, not, nat_lt, if◌then◌else◌}
use Rattle.data_map.specs.declared.ranges.TheConstants.{MAX_FILE_SIZE}
use Rattle.layout_ops.specs.declared.statuses.TheConstants.{LAYOUTIOMODE4_READ, LAYOUTIOMODE4_RW}
use Rattle.server_rules.specs.declared.files.Kept.{Kept}
use Rattle.server_rules.specs.declared.grants.Grant.{Grant}
use Rattle.server_rules.specs.declared.files.Component.{Component}
use Rattle.server_rules.specs.declared.limits.TheConstants.{GREATEST_GRANT}
use Rattle.server_rules.specs.Grants.{asked}
use Rattle.server_rules.specs.Maps.{group_with, stands_in}
use Rattle.server_rules.specs.Standing.{is_beyond}
use Rattle.server_rules.specs.Get.{Early as EarlyRow, BadMode, Invalid, Unable, Waits, On, Late as LateRow, NoNumber, Lacks, Conflict, Gives}
use Rattle.server_rules.specs.Commit.{Committed as CommittedRow, NoGrant, Wrong, Sizes}
use Rattle.server_rules.specs.Return.{Returned as ReturnedRow, NoGrant as NoGrantLeft, Clean, Taken, TooMany, Fencing}
use Rattle.server_requests.specs.declared.get.Early.{Early}
use Rattle.server_requests.specs.declared.get.Early.TheVariants as early
use Rattle.server_requests.specs.declared.get.Wanted.{Wanted}
use Rattle.server_requests.specs.declared.get.Late.{Late}
use Rattle.server_requests.specs.declared.get.Late.TheVariants as late
use Rattle.server_requests.specs.declared.commit.Committed.{Committed}
use Rattle.server_requests.specs.declared.commit.Committed.TheVariants as committed
use Rattle.server_requests.specs.declared.give_back.Returned.{Returned}
use Rattle.server_requests.specs.declared.give_back.Returned.TheVariants as returned

-- ---- LAYOUTGET

abbrev pub early_rule : Early → EarlyRow
early_rule early.BadMode = BadMode
early_rule early.Invalid = Invalid
early_rule early.Unable = Unable
early_rule (early.Waits k) = Waits k
early_rule early.On = On

abbrev pub late_rule : Late → LateRow
late_rule late.NoNumber = NoNumber
late_rule (late.Lacks k) = Lacks k
late_rule (late.Conflict holder) = Conflict holder
late_rule late.Gives = Gives

-- a job waits for a component
abbrev pub by_waits : Option ℕ → EarlyRow
by_waits None = On
by_waits (Some k) = Waits k

-- the first row that looks at no grant, where a fence of the file was refused or not and its job waits for a component
unfoldable pub early_of : (spent : Bool) → Option ℕ → (iomode offset count : ℕ) → EarlyRow
early_of spent waits iomode offset count =
    if not ((iomode == LAYOUTIOMODE4_READ) || (iomode == LAYOUTIOMODE4_RW)) then BadMode
    else if (count == 0) || nat_lt MAX_FILE_SIZE (offset + count) then Invalid
    else if spent then Unable
    else by_waits waits

-- where the rows that look at grants apply, the bytes end in a file
abbrev pub IsFit : Early → (end : ℕ) → Type 0
IsFit early.On end = end ≤ MAX_FILE_SIZE
IsFit e end = Unit {0}

-- a grant is given only where a number is left for it
abbrev pub IsNumbered : Late → (number : ℕ) → Type 0
IsNumbered late.Gives number = number ≤ GREATEST_GRANT
IsNumbered row number = Unit {0}

-- the layout that is asked for is for writing too
abbrev pub is_rw : (iomode : ℕ) → Bool
is_rw iomode = iomode == LAYOUTIOMODE4_RW

-- the grant that a client would get for what it wants
abbrev pub asked_by : Kept → (number client now : ℕ) → Wanted → Grant
asked_by f number client now w = asked f number client now w.offset w.length (is_rw w.iomode)

-- a missing component of a group in which a stripe of the grant stands and that can't be decoded
abbrev pub is_lacked : Kept → Grant → (component : ℕ) → Component → Bool
is_lacked f g k at =
    at.missing && (stands_in f.map (group_with f.map k) g.first g.end && is_beyond f.map f.components (group_with f.map k))

-- ---- LAYOUTCOMMIT

abbrev pub committed_rule : Committed → CommittedRow
committed_rule committed.NoGrant = NoGrant
committed_rule committed.Wrong = Wrong
committed_rule (committed.Sizes size) = Sizes size

-- ---- LAYOUTRETURN

abbrev pub returned_rule : Returned → ReturnedRow
returned_rule returned.NoGrant = NoGrantLeft
returned_rule returned.Clean = Clean
returned_rule (returned.Taken ks) = Taken ks
returned_rule returned.TooMany = TooMany
returned_rule returned.Fencing = Fencing
