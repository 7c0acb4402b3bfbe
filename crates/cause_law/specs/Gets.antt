-- Why a LAYOUTGET is answered as it is: rows in order, in the words of the file's book.
use Rattle.std.specs.Prelude.{◌≡◌, ◌≢◌, ◌<◌, ◌≤◌, ◌+◌, ◌⊎◌, ℕ, false, true, List, [], ◌∷◌, ◌++◌, slice_get, Some}
use Rattle.data_map.specs.declared.ranges.TheConstants.{MAX_FILE_SIZE}
use Rattle.layout_ops.specs.declared.results.LayoutGetResult.TheVariants as get
use Rattle.layout_ops.specs.declared.results.Results.{Results}
use Rattle.layout_ops.specs.declared.results.Results.TheVariants as results
use Rattle.layout_ops.specs.declared.statuses.TheConstants.{LAYOUTIOMODE4_READ, LAYOUTIOMODE4_RW, NFS4ERR_BADIOMODE, NFS4ERR_INVAL, NFS4ERR_LAYOUTUNAVAILABLE, NFS4ERR_RECALLCONFLICT}
use Rattle.server_rules.specs.declared.limits.TheConstants.{GREATEST_TAG, GREATEST_GRANT, NO_COMPONENT}
use Rattle.server_rules.specs.Laws.{In, AreCompatible}
use Rattle.server_rules.specs.Layouts.{granted}
use Rattle.server_rules.specs.Maps.{group_with, stands_in}
use Rattle.server_rules.specs.Messages.{awaited_by}
use Rattle.server_rules.specs.Standing.{is_beyond}
use Rattle.world_history.specs.ServerNames.{File, Kept, Component, Drive, Grant, Awaited}

-- ---- words of the book

-- grants of different clients that can't be live beside each other
abbrev pub AreOpposed : Grant → Grant → Type 0
AreOpposed a b = (a.client ≢ b.client) × (AreCompatible a b → ⊥)

-- the lowest component of which a command is awaited
pub record IsLowest (awaited : List Awaited) (component : ℕ) : Type 0 where
  pub one : Awaited
  pub there : In one awaited
  pub its : one.component ≡ component
  pub least : (a : Awaited) → In a awaited → component ≤ a.component

-- A fence comes first: the client has a live grant, or a live one that is opposed to what is asked is expired.
pub record NeedsFence (now : ℕ) (live : List Grant) (wanted : Grant) : Type 0 where
  pub grant : Grant
  pub there : In grant live
  pub cause : (grant.client ≡ wanted.client) ⊎ (AreOpposed wanted grant × (grant.expiry < now))

-- a missing component of a group in which a stripe of the range stands and of which more positions have no present replica
-- than the code brings back
pub record IsLacked (f : Kept) (wanted : Grant) (component : ℕ) : Type 0 where
  pub at : Component
  pub found : slice_get f.components component ≡ Some at
  pub missing : at.missing ≡ true
  pub stands : stands_in f.map (group_with f.map component) wanted.first wanted.end ≡ true
  pub beyond : is_beyond f.map f.components (group_with f.map component) ≡ true

-- the lowest such
pub record IsLackedFirst (f : Kept) (wanted : Grant) (component : ℕ) : Type 0 where
  pub lacked : IsLacked f wanted component
  pub least : (k : ℕ) → IsLacked f wanted k → component ≤ k

-- The oldest of the live grants that are opposed to what is asked is this client's. They stand in the order in which they
-- were given.
pub record IsHeldBy (live : List Grant) (wanted : Grant) (holder : ℕ) : Type 0 where
  pub earlier : List Grant
  pub grant : Grant
  pub later : List Grant
  pub live_are : live ≡ earlier ++ grant ∷ later
  pub client_is : grant.client ≡ holder
  pub opposed : AreOpposed wanted grant
  pub oldest : (g : Grant) → In g earlier → AreOpposed wanted g → ⊥

-- ---- the rows

-- A LAYOUTGET on a file: the file as the book has it when the request comes, and behind its step; what is asked, and the grant
-- that this would be; the number of the next grant, and the time of the server's clock.
pub record Asking : Type 0 where
  pub before : File
  pub behind : File
  pub iomode : ℕ
  pub offset : ℕ
  pub count : ℕ
  pub wanted : Grant
  pub next : ℕ
  pub now : ℕ

-- what it comes to
pub data Row : Type 0 where
  BadMode : Row
  BadRange : Row
  -- a fence was refused when the server was opened
  LeftOpen : Row
  -- a job of the file waits
  Waits : (component : ℕ) → Row
  -- a fence is needed, and there is no further tag
  TagSpent : Row
  -- a fence is needed, begins, and waits
  Fences : (component : ℕ) → Row
  NoNumber : Row
  Lacks : (component : ℕ) → Row
  Held : (client : ℕ) → Row
  Gives : Row

-- the rows in their order
abbrev pub place : Row → ℕ
place BadMode = 0
place BadRange = 1
place LeftOpen = 2
place (Waits k) = 3
place TagSpent = 4
place (Fences k) = 5
place NoNumber = 6
place (Lacks k) = 7
place (Held c) = 8
place Gives = 9

-- a row applies
abbrev pub Applies : Asking → Row → Type 0
Applies a BadMode = (a.iomode ≢ LAYOUTIOMODE4_READ) × (a.iomode ≢ LAYOUTIOMODE4_RW)
Applies a BadRange = (a.count ≡ 0) ⊎ (MAX_FILE_SIZE < a.offset + a.count)
Applies a LeftOpen = a.before.spent ≡ true
Applies a (Waits k) = IsLowest (awaited_by a.before.job) k
Applies a TagSpent = NeedsFence a.now a.before.kept.grants a.wanted × (a.before.kept.tag ≡ GREATEST_TAG)
Applies a (Fences k) = NeedsFence a.now a.before.kept.grants a.wanted × IsLowest (awaited_by a.behind.job) k
Applies a NoNumber = GREATEST_GRANT < a.next
Applies a (Lacks k) = (a.wanted.rw ≡ true) × IsLackedFirst a.behind.kept a.wanted k
Applies a (Held c) = IsHeldBy a.behind.kept.grants a.wanted c
Applies a Gives = Unit {0}

-- and none before it does
pub record IsFirst (a : Asking) (r : Row) : Type 0 where
  pub applies : Applies a r
  pub none : (s : Row) → place s < place r → Applies a s → ⊥

-- ---- what else happens

-- the live grants at which the later rows look: those that were live, or none where a fence came first
pub data Left (a : Asking) : List Grant → Type 0 where
  AsTheyWere : (NeedsFence a.now a.before.kept.grants a.wanted → ⊥) → Left a a.before.kept.grants
  Ended : NeedsFence a.now a.before.kept.grants a.wanted → Left a []

-- those that are live behind the step
abbrev pub LeavesLive : Asking → Row → Type 0
LeavesLive a (Fences k) = a.behind.kept.grants ≡ []
LeavesLive a NoNumber = Left a a.behind.kept.grants
LeavesLive a (Lacks k) = Left a a.behind.kept.grants
LeavesLive a (Held c) = Left a a.behind.kept.grants
LeavesLive a Gives = (left : List Grant) × Left a left × (a.behind.kept.grants ≡ left ++ (a.wanted ∷ []))
LeavesLive a r = a.behind.kept.grants ≡ a.before.kept.grants

-- ---- what is answered

-- the number that goes with the status
abbrev pub detail_of : Row → ℕ
detail_of LeftOpen = NO_COMPONENT
detail_of (Waits k) = k
detail_of TagSpent = NO_COMPONENT
detail_of (Fences k) = k
detail_of NoNumber = NO_COMPONENT
detail_of (Lacks k) = k
detail_of (Held c) = c
detail_of r = 0

-- the result: the layout of the grant on the file as the book has it behind the step, or a refusal
abbrev pub result_of : List Drive → Kept → Grant → Row → Results
result_of ds f wanted BadMode = results.LayoutGet (get.Refused NFS4ERR_BADIOMODE)
result_of ds f wanted BadRange = results.LayoutGet (get.Refused NFS4ERR_INVAL)
result_of ds f wanted LeftOpen = results.LayoutGet (get.Refused NFS4ERR_LAYOUTUNAVAILABLE)
result_of ds f wanted (Waits k) = results.LayoutGet (get.Refused NFS4ERR_RECALLCONFLICT)
result_of ds f wanted TagSpent = results.LayoutGet (get.Refused NFS4ERR_LAYOUTUNAVAILABLE)
result_of ds f wanted (Fences k) = results.LayoutGet (get.Refused NFS4ERR_RECALLCONFLICT)
result_of ds f wanted NoNumber = results.LayoutGet (get.Refused NFS4ERR_LAYOUTUNAVAILABLE)
result_of ds f wanted (Lacks k) = results.LayoutGet (get.Refused NFS4ERR_LAYOUTUNAVAILABLE)
result_of ds f wanted (Held c) = results.LayoutGet (get.TryLater false)
result_of ds f wanted Gives = results.LayoutGet (get.Granted (granted ds f wanted))
