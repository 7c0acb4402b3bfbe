-- What the plans of a call ask under a grant.
use Rattle.std.specs.Prelude.{◌≡◌, ℕ, ◌+◌, ◌/◌, ◌^◌, ◌≤◌, ◌<◌, List, slice_get, Some}
use Rattle.std.specs.List.{AllByRecursion}
use Rattle.data_map.specs.Striping.{replicas}
use Rattle.stripe_plan.specs.declared.plan.Aim.{Aim}
use Rattle.stripe_plan.specs.Touched.{stripes}
use Rattle.stripe_plan.specs.Asks.{asks}
use Rattle.client_rules.specs.Io.{outs}
use Rattle.client_rules.specs.Reads.{first_present, probes_due}
use Rattle.server_rules.specs.declared.files.Kept.{Kept}
use Rattle.server_rules.specs.declared.grants.Grant.{Grant}
use Rattle.exchange_law.specs.PlaceState.{Credential, Listed, Held, Reach, TimedOut, Span, Stretch, Ask}
use Rattle.exchange_law.specs.Kept.{IsGrant}

-- A component that has a credential is asked bytes of its capability's range, which begin and end where numbers of 64
-- bits reach.
pub record AskFits (components : List Listed) (a : Ask) : Type 0 where
  pub listed : Listed
  pub found : slice_get components a.component ≡ Some listed
  pub credential : Credential
  pub has : listed.credential ≡ Some credential
  pub first : credential.capability.range_start ≤ a.offset
  pub end : a.offset + a.length ≤ credential.capability.range_start + credential.capability.range_len
  pub near : a.offset < 2 ^ 64
  pub short : a.length < 2 ^ 64

-- a range is inside a grant's bytes
abbrev pub IsHeldIn : Reach → Span → Type 0
IsHeldIn g r = (g.first ≤ r.offset) × (r.offset + r.length ≤ g.end)

-- A read, a gather and a scatter of such a range ask that alone, whichever components timed out, and whatever is had.
abbrev pub PlansAskInside : Type 0
PlansAskInside =
    (f : Kept) (g : Grant) (h : Held) → IsGrant f g h → (aim : Aim) (r : Span) (timed : List TimedOut)
    (had : List Stretch) → IsHeldIn h.reach r
    → AllByRecursion (AskFits h.components) (asks aim h.map r (outs h timed) had (stripes h.map r))

-- so does a read of no byte, which asks the position of the first component that isn't missing, or its group
abbrev pub ProbesAskInside : Type 0
ProbesAskInside =
    (f : Kept) (g : Grant) (h : Held) → IsGrant f g h → (timed : List TimedOut) (have : List ℕ) (k : ℕ)
    → first_present h.components 0 ≡ Some k
    → AllByRecursion (AskFits h.components) (probes_due h (outs h timed) have (k / replicas h.map))

-- both
pub record PlansStayInside : Type 0 where
  pub plans : PlansAskInside
  pub probes : ProbesAskInside
