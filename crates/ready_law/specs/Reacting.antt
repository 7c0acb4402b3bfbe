-- How a call goes on with the drives where it can leave out what is lost: each reply and each timeout of a lost component brings
-- it on, until it did what it was called for, or has no more to ask than a commit or a report of what timed out.
use Rattle.std.specs.Prelude.{◌≡◌, ◌≢◌, ◌⊎◌, ◌≤◌, ◌<◌, ◌+◌, ◌==◌, ℕ, Bool, true, false, List, [], ◌∷◌, ◌++◌, length, map, slice_get, Some, is_some, if◌then◌else◌}
use Rattle.std.specs.List.{AllByRecursion, range_with_len}
use Rattle.data_map.specs.Check.{IsChecked}
use Rattle.data_map.specs.Striping.{group_of, parities}
use Rattle.server_rules.specs.Laws.{In}
use Rattle.server_rules.specs.Maps.{group_with}
use Rattle.stripe_plan.specs.declared.plan.Aim.TheVariants as aim
use Rattle.stripe_plan.specs.declared.plan.Ask.{Ask}
use Rattle.stripe_plan.specs.declared.plan.Span.{Span}
use Rattle.stripe_plan.specs.declared.plan.Store.{Store}
use Rattle.stripe_plan.specs.Asks.{asks}
use Rattle.stripe_plan.specs.Lost.{among, positions_out}
use Rattle.stripe_plan.specs.Touched.{stripes}
use Rattle.client_rules.specs.declared.limits.TheConstants.{PERFORMED}
use Rattle.client_rules.specs.Calls.{span_of, is_write}
use Rattle.client_rules.specs.Commands.{credential_in, awaited_for, nonce_at, counted, others, of_component, not_of}
use Rattle.client_rules.specs.Going.{begins}
use Rattle.client_rules.specs.Grants.{clipped, missing_of}
use Rattle.client_rules.specs.Io.{outs, awaited_in}
use Rattle.client_rules.specs.Laws.{nonce_of}
use Rattle.client_rules.specs.Reads.{first_present}
use Rattle.client_rules.specs.Replies.{replied, timed_out}
use Rattle.client_rules.specs.Turns.{turned, needing}
use Rattle.client_rules.specs.Writes.{is_past_size}
use Rattle.exchange_law.specs.ClientNonces.{AllDiffer}
use Rattle.world_history.specs.ClientNames.{CallOp, Write, Read, Held, Awaited, TimedOut, Commit, Report, Phase, Reads, Probes, Gathers, Scatters, Outcome, WriteOk, ReadOk, Goes, Ends, Moved, Reply}
use Rattle.ready_law.specs.Enough.{AreAmong, IsEnough}
use Rattle.ready_law.specs.Ready.{greatest_end}

-- ---- calls that can leave out what is lost

-- the range that a call reaches under a grant: of a read what is below the size
abbrev pub reached_under : Held → CallOp → Span
reached_under h op = if is_write op then span_of op else clipped h.size (span_of op)

-- the stripes that it touches
abbrev pub touched_under : Held → CallOp → List ℕ
touched_under h op = stripes h.map (reached_under h op)

-- The layout lists a component, and the group of the first such has no more positions lost than its parity brings back.
pub record CanProbe (h : Held) (lost : List ℕ) : Type 0 where
  pub number : ℕ
  pub first : first_present h.components 0 ≡ Some number
  pub few : length (positions_out h.map lost (group_with h.map number)) ≤ parities h.map

-- Under the grant a call can leave out all of these components: the layout's missing ones are among them, no touched stripe has
-- more positions lost with them than its parity brings back, and a read of no byte has a component to ask.
pub record IsGood (h : Held) (op : CallOp) (lost : List ℕ) : Type 0 where
  pub checked : IsChecked h.map
  pub complete : length h.components ≡ h.map.comps
  pub missing : AreAmong (missing_of h) lost
  pub enough : IsEnough h.map lost (touched_under h op)
  pub probed : is_write op ≡ false → touched_under h op ≡ [] → CanProbe h lost

-- ---- what it asks

-- component k is one of the group of a touched stripe; of a read that touches none any is
abbrev pub IsReached : Held → CallOp → (k : ℕ) → Type 0
IsReached h op k =
    ((is_write op ≡ false) × (touched_under h op ≡ []))
    ⊎ ((s : ℕ) × In s (touched_under h op) × (group_of h.map s ≡ group_with h.map k))

-- where the call's last WRITE to component k ends, whatever is out
abbrev pub write_end_under : Held → CallOp → (k : ℕ) → ℕ
write_end_under h op k = greatest_end k (asks aim.Scatters h.map (span_of op) [] [] (stripes h.map (span_of op)))

-- the component is listed with a credential, and reached
pub record IsOfCall (h : Held) (op : CallOp) (k : ℕ) : Type 0 where
  pub listed : is_some (credential_in (slice_get h.components k)) ≡ true
  pub reached : IsReached h op k

-- a command for these bytes: its component isn't out, and a WRITE ends where the call's WRITEs do
pub record MayAsk (h : Held) (op : CallOp) (timed : List TimedOut) (write : Bool) (a : Ask) : Type 0 where
  pub asks : IsOfCall h op a.component
  pub there : among a.component (outs h timed) ≡ false
  pub end : write ≡ true → a.offset + a.length ≤ write_end_under h op a.component

-- it was made under the grant, with a nonce that the grant has given
pub record IsAwaitedWell (h : Held) (op : CallOp) (timed : List TimedOut) (write : Bool) (y : Awaited) : Type 0 where
  pub store : Store
  pub number : ℕ
  pub is : y ≡ awaited_for h write store (nonce_at h number)
  pub low : number ≤ h.count
  pub may : MayAsk h op timed write y.ask

-- ---- what timed out

abbrev pub components_of : List TimedOut → List ℕ
components_of timed = map (λ (t : TimedOut). t.ask.component) timed

-- numbers that rise
abbrev pub AreRising : List ℕ → Type 0
AreRising [] = Unit {0}
AreRising (j ∷ js) = AllByRecursion (λ (k : ℕ). j < k) js × AreRising js

-- a lost component that was asked
pub record IsLostThere (h : Held) (op : CallOp) (lost : List ℕ) (k : ℕ) : Type 0 where
  pub gone : among k lost ≡ true
  pub asked : IsOfCall h op k

-- the components that timed out are such, and rise
pub record AreTimedWell (h : Held) (op : CallOp) (lost : List ℕ) (timed : List TimedOut) : Type 0 where
  pub each : AllByRecursion (IsLostThere h op lost) (components_of timed)
  pub rise : AreRising (components_of timed)

-- ---- a phase in which it works with the drives

-- what timed out in it so far
abbrev pub timed_in : Phase → List TimedOut
timed_in (Reads io) = io.timed
timed_in (Probes io) = io.timed
timed_in (Gathers io) = io.timed
timed_in (Scatters io queue) = io.timed
timed_in p = []

-- the WRITEs that it has still to send
abbrev pub queue_in : Phase → List Store
queue_in (Scatters io queue) = queue
queue_in p = []

-- what it awaits are WRITEs
abbrev pub is_writing : Phase → Bool
is_writing (Scatters io queue) = true
is_writing p = false

-- the phase is one of the call's
abbrev pub IsPhaseOf : Held → CallOp → Phase → Type 0
IsPhaseOf h op (Reads io) = (is_write op ≡ false) × (((clipped h.size (span_of op)).length == 0) ≡ false)
IsPhaseOf h op (Probes io) = (is_write op ≡ false) × (((clipped h.size (span_of op)).length == 0) ≡ true)
IsPhaseOf h op (Gathers io) = is_write op ≡ true
IsPhaseOf h op (Scatters io queue) = is_write op ≡ true
IsPhaseOf h op p = ⊥

-- It awaits something, each with a nonce of its own, and nothing of a component that is out; and only lost ones timed out.
pub record WorksWell (h : Held) (op : CallOp) (lost : List ℕ) (p : Phase) : Type 0 where
  pub kind : IsPhaseOf h op p
  pub some : awaited_in p ≢ []
  pub timed : AreTimedWell h op lost (timed_in p)
  pub awaited : AllByRecursion (IsAwaitedWell h op (timed_in p) (is_writing p)) (awaited_in p)
  pub differ : AllDiffer (map nonce_of (awaited_in p))
  pub queue : AllByRecursion (λ (w : Store). MayAsk h op (timed_in p) true w.ask) (queue_in p)

-- ---- how it goes on

-- the call did what it was called for
abbrev pub EndsWell : CallOp → Outcome → Type 0
EndsWell (Write file offset bytes) (WriteOk n) = n ≡ length bytes
EndsWell (Read file offset count) (ReadOk bytes) = Unit {0}
EndsWell op o = ⊥

-- It goes on in this phase, and awaits the rest and what is sent; that has the next nonces of the grant.
pub record GoesOn (h : Held) (op : CallOp) (lost : List ℕ) (rest : List Awaited) (k : Held) (p : Phase)
    (sent : List Awaited) : Type 0
  where
    pub held : k ≡ counted h sent
    pub awaited : awaited_in p ≡ rest ++ sent
    pub nonces : map nonce_of sent ≡ range_with_len (nonce_at h h.count + 1) (length sent)
    pub above : AllByRecursion (λ (y : Awaited). nonce_at h h.count < nonce_of y) sent
    pub works : WorksWell k op lost p

-- All of a write's bytes are written, but for those of the components that timed out.
pub record IsWritten (h : Held) (op : CallOp) (lost : List ℕ) (rest : List Awaited) (timed : List TimedOut) : Type 0 where
  pub writes : is_write op ≡ true
  pub done : rest ≡ []
  pub well : AreTimedWell h op lost timed

-- A turn of a call under grant h, of which the rest is still awaited: it works on, or it ends well, or it commits a new size,
-- or it reports what timed out.
pub data TurnsWell (h : Held) (op : CallOp) (lost : List ℕ) (rest : List Awaited) (m : Moved) : Type 0 where
  WorksOn : (p : Phase) → m.turn ≡ Goes p → GoesOn h op lost rest m.held p m.sent → TurnsWell h op lost rest m
  IsDone : (o : Outcome) → m ≡ turned h (Ends o) → rest ≡ [] → EndsWell op o
      → (is_write op ≡ true → is_past_size h op ≡ false) → TurnsWell h op lost rest m
  Commits : (timed : List TimedOut) → m ≡ turned h (needing (Commit timed)) → is_past_size h op ≡ true
      → IsWritten h op lost rest timed → TurnsWell h op lost rest m
  Reports : (t : TimedOut) (timed : List TimedOut) → m ≡ turned h (needing (Report (t ∷ timed)))
      → is_past_size h op ≡ false → IsWritten h op lost rest (t ∷ timed) → TurnsWell h op lost rest m

-- ---- what is to be shown

-- so it begins
abbrev pub BeginsWell : Type 0
BeginsWell = (h : Held) (op : CallOp) (lost : List ℕ) → IsGood h op lost → TurnsWell h op lost [] (begins h op)

-- so it goes on at each reply that says that a command was performed
abbrev pub RepliesWell : Type 0
RepliesWell =
    (h : Held) (op : CallOp) (lost : List ℕ) (p : Phase) → IsGood h op lost → WorksWell h op lost p → (a : Awaited)
    → In a (awaited_in p) → (r : Reply) → r.verdict ≡ PERFORMED
    → TurnsWell h op lost (others (awaited_in p) (nonce_of a)) (replied h op p a r)

-- and where a lost component times out
abbrev pub TimesOutWell : Type 0
TimesOutWell =
    (h : Held) (op : CallOp) (lost : List ℕ) (p : Phase) → IsGood h op lost → WorksWell h op lost p → (k : ℕ)
    → among k lost ≡ true → (a : Awaited) (xs : List Awaited) → of_component k (awaited_in p) ≡ a ∷ xs
    → TurnsWell h op lost (not_of k (awaited_in p)) (timed_out h op p k a xs)
