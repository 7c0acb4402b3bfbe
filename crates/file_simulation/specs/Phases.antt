-- What the server keeps of a file: its tag, size, phase and grants, and the ends of grants.
use Rattle.std.specs.Prelude.{◌≡◌, ℕ, ◌<◌, ◌≤◌, Bool, true, false, [], Option, Some, None}
use Rattle.data_map.specs.declared.check.RawMap.{RawMap}
use Rattle.server_rules.specs.Grants.{grant_of}
use Rattle.server_rules.specs.Laws.{In}
use Rattle.world_history.specs.ServerNames.{Server, File, Grant, Phase, Still, Fencing, Repairing, FencingAgain}
use Rattle.fence_law.specs.State as machine
use Rattle.fence_law.specs.Law.{IsUnsettled}
use Rattle.fence_law.specs.Words.{In as InRun}
use Rattle.plan_law.specs.FileLayout.{stripe_of_column}
use Rattle.file_simulation.specs.Grants.{GrantIs, covers_column}

-- ---- the phase

-- the machine's outstanding grant of a client is the one that the server keeps, with the file's tag; or neither has one
abbrev pub OutstandingIs : RawMap → (tag : ℕ) → Option Grant → Option machine.Grant → Type 0
OutstandingIs m tag None None = Unit {0}
OutstandingIs m tag (Some g) (Some x) = GrantIs m g x × (x.tag ≡ tag)
OutstandingIs m tag None (Some x) = ⊥
OutstandingIs m tag (Some g) None = ⊥

-- no fence is under way, and no repair: the live grants are outstanding, and while a job runs none was issued since the last
-- fence
pub record IsStill (s : machine.State) (f : File) : Type 0 where
  pub fencing : s.fencing ≡ false
  pub repairing : s.repairing ≡ false
  pub outstanding : (c : ℕ) → OutstandingIs f.kept.map f.kept.tag (grant_of f.kept.grants c) (s.outstanding c)
  pub ended : f.kept.ended ≡ []
  pub unused : (f.job ≡ None → ⊥) → s.granted_since ≡ false

-- a client's outstanding grant is one that the fence has ended, with the file's tag
pub record IsEnded (f : File) (c : ℕ) (x : machine.Grant) : Type 0 where
  pub grant : Grant
  pub ended : In grant f.kept.ended
  pub client : grant.client ≡ c
  pub same : GrantIs f.kept.map grant x
  pub tag : x.tag ≡ f.kept.tag

-- a fence is under way: no grant is live
pub record IsFencing (s : machine.State) (f : File) : Type 0 where
  pub fencing : s.fencing ≡ true
  pub repairing : s.repairing ≡ false
  pub live : f.kept.grants ≡ []
  pub outstanding : (c : ℕ) (x : machine.Grant) → s.outstanding c ≡ Some x → IsEnded f c x

-- its repair is under way, or a further fence before that begins again: no grant is outstanding
pub record IsRepairing (fencing : Bool) (s : machine.State) (f : File) : Type 0 where
  pub fences : s.fencing ≡ fencing
  pub repairing : s.repairing ≡ true
  pub live : f.kept.grants ≡ []
  pub outstanding : (c : ℕ) → s.outstanding c ≡ None
  pub unused : s.granted_since ≡ false
  pub older : s.ended_tag < s.tag

-- the machine is in the file's phase
abbrev pub PhaseIs : machine.State → File → Phase → Type 0
PhaseIs s f Still = IsStill s f
PhaseIs s f Fencing = IsFencing s f
PhaseIs s f Repairing = IsRepairing false s f
PhaseIs s f FencingAgain = IsRepairing true s f

-- what the machine has of what the server keeps of the file
pub record IsKept (s : machine.State) (server : Server) (f : File) : Type 0 where
  pub tag : s.tag ≡ f.kept.tag
  pub size : s.size ≡ f.kept.size
  pub phase : PhaseIs s f f.kept.phase
  pub next : s.next ≤ server.next_grant
  -- no grant is given before the file is made
  pub unready : f.kept.ready ≡ false → s.granted_since ≡ false

-- ---- how high grants reach

-- a grant for writing covers no column of a stripe from `high` on
abbrev pub IsBelowHigh : File → machine.Grant → Type 0
IsBelowHigh f x = x.rw ≡ true → (q : ℕ) → x.covers q ≡ true → stripe_of_column f.kept.map q < f.kept.high

-- a grant is in use: it is outstanding, held, or in an answer that its client still waits for
pub data IsInUse (s : machine.State) (x : machine.Grant) : Type 0 where
  Outstanding : (c : ℕ) → s.outstanding c ≡ Some x → IsInUse s x
  Held : (c : ℕ) → s.held c ≡ Some x → IsInUse s x
  Answered : (c size : ℕ) → s.waiting c ≡ true →
      InRun (record { client = c; sequence = s.sequence c; grant = Some x; size = size }) s.answers → IsInUse s x

-- a grant for writing that the file's fence has ended has the stripe of this column
pub record IsEndedAt (f : File) (x : ℕ) : Type 0 where
  pub grant : Grant
  pub ended : In grant f.kept.ended
  pub rw : grant.rw ≡ true
  pub has : covers_column f.kept.map grant.first grant.end x ≡ true

-- Grants in use and writes stay below `high`, and while a repair runs, what an unsettled write touches is of a grant that the
-- fence has ended, so that it is repaired.
pub record AreBelowHigh (s : machine.State) (f : File) : Type 0 where
  pub grants : (x : machine.Grant) → IsInUse s x → IsBelowHigh f x
  pub writes : (j x : ℕ) → (s.start j).is_write ≡ true → (s.start j).touch x ≡ true →
      stripe_of_column f.kept.map x < f.kept.high
  pub worked : s.repairing ≡ true → (j x : ℕ) → IsUnsettled s j → (s.start j).touch x ≡ true → IsEndedAt f x
