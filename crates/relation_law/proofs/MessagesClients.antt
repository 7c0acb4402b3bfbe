-- What a client's call has of the drives, whatever came to the client since it was new: a read has all that it needs got or
-- awaited, and so has a gather.
-- Towards `EventsAreLawful` (`specs/Steps.antt`).
use Rattle.std.specs.Prelude.{◌≡◌, ◌≢◌, ◌⊎◌, ℕ, ◌/◌, ◌<◌, true, false, List, [], length, Some, None}
use Rattle.data_map.specs.declared.check.RawMap.{RawMap}
use Rattle.data_map.specs.Check.{IsChecked}
use Rattle.data_map.specs.Striping.{replicas}
use Rattle.stripe_plan.specs.Touched.{stripes}
use Rattle.stripe_plan.specs.Lost.{unwritable, unreadable}
use Rattle.stripe_plan.specs.Words.{answered}
use Rattle.stripe_plan.specs.Laws.{IsFetched}
use Rattle.stripe_plan.specs.declared.plan.Aim.TheVariants.{Reads as ToRead}
use Rattle.server_rules.specs.Laws.{In}
use Rattle.client_rules.specs.Calls.{span_of, is_write}
use Rattle.client_rules.specs.Commands.{awaited_for, nonce_at}
use Rattle.client_rules.specs.Grants.{held_of, clipped, is_for, missing_of}
use Rattle.client_rules.specs.Io.{outs}
use Rattle.client_rules.specs.Layouts.{granted_span}
use Rattle.world_history.specs.ClientNames.{CallOp, Held, Ask, Store, Column, Awaited, Io, Phase, Reads, Probes, Gathers, Outcome, Turn, Goes, Ends, Forgets, Moved}
use Rattle.client_rules.proofs.ReadMoves.{FitsOutcome, AnswersNone}
use Rattle.gather_law.specs.Ready.{IsSome, IsReady as IsGatherReady}
use Rattle.exchange_law.proofs.Had.{AreBelow}
use Rattle.exchange_law.proofs.RightMoves.{IsReady as IsReadReady}

-- ---- a grant

-- A held grant has a usable map and a component for each that the map has; where it is for writing, each stripe that it has
-- can be written.
pub record IsUsable (h : Held) : Type 0 where
  pub checked : IsChecked h.map
  pub long : length h.components ≡ h.map.comps
  pub writable : h.reach.rw ≡ true → unwritable h.map (missing_of h) (stripes h.map (granted_span h.reach)) ≡ None

-- each that a client holds is
abbrev pub AreUsable : List Held → Type 0
AreUsable hs = (file : ℕ) (h : Held) → held_of hs file ≡ Some h → IsUsable h

-- ---- commands

-- an ask goes to a component of its position
pub record IsPlaced (m : RawMap) (a : Ask) : Type 0 where
  pub position : a.component / replicas m ≡ a.position
  pub below : a.component < m.comps

-- a READ under a grant
pub record IsReadUnder (h : Held) (a : Awaited) : Type 0 where
  pub store : Store
  pub nonce : ℕ
  pub is : a ≡ awaited_for h false store nonce
  pub placed : IsPlaced h.map store.ask

abbrev pub AreReadsUnder : Held → List Awaited → Type 0
AreReadsUnder h xs = (a : Awaited) → In a xs → IsReadUnder h a

-- ---- phases

-- a call reads some bytes
pub record ReadsSome (h : Held) (op : CallOp) (io : Io) : Type 0 where
  pub is : is_write op ≡ false
  pub covers : is_for h.reach h.size op ≡ true
  pub some : 0 < (clipped h.size (span_of op)).length
  pub reads : AreReadsUnder h io.awaited
  pub ready : IsReadReady h.map (clipped h.size (span_of op)) (outs h io.timed) io.got io.awaited (nonce_at h h.count)

-- or none
pub record ReadsNone (h : Held) (op : CallOp) (io : Io) : Type 0 where
  pub is : is_write op ≡ false
  pub covers : is_for h.reach h.size op ≡ true
  pub none : (clipped h.size (span_of op)).length ≡ 0
  pub reads : AreReadsUnder h io.awaited
  pub nonces : AreBelow (nonce_at h h.count) io.awaited

-- it gathers for its write
pub record GathersFor (h : Held) (op : CallOp) (io : Io) : Type 0 where
  pub is : is_write op ≡ true
  pub some : IsSome op
  pub covers : is_for h.reach h.size op ≡ true
  pub reads : AreReadsUnder h io.awaited
  pub ready : IsGatherReady h.map (span_of op) (outs h io.timed) io.got io.awaited (nonce_at h h.count)

-- by the phase
abbrev pub IsFit : Held → CallOp → Phase → Type 0
IsFit h op (Reads io) = ReadsSome h op io
IsFit h op (Probes io) = ReadsNone h op io
IsFit h op (Gathers io) = GathersFor h op io
IsFit h op p = Unit {0}

-- ---- moves

-- a call has got these bytes in a phase that reads
abbrev pub HasGot : List Column → Phase → Type 0
HasGot got (Reads io) = io.got ≡ got
HasGot got (Probes io) = io.got ≡ got
HasGot got (Gathers io) = io.got ≡ got
HasGot got p = Unit {0}

-- What a read has got is some, and all that it needs of what can be read, where it has bytes to read.
pub record HasRead (m : RawMap) (h : Held) (op : CallOp) (got : List Column) (out : List ℕ) : Type 0 where
  pub some : got ≢ []
  pub all : ((clipped h.size (span_of op)).length ≡ 0)
      ⊎ ((unreadable m (clipped h.size (span_of op)) out (stripes m (clipped h.size (span_of op))) ≡ None)
      × IsFetched ToRead m (clipped h.size (span_of op)) got out)

-- a read that ends with bytes gives those that were got
abbrev pub ReadEnds : Held → CallOp → List Column → (bytes : List ℕ) → Type 0
ReadEnds h op got bytes =
    (out : List ℕ) × (bytes ≡ answered h.map (clipped h.size (span_of op)) got out) × HasRead h.map h op got out

abbrev pub EndsFit : Held → CallOp → List Column → Outcome → Type 0
EndsFit h op got o = FitsOutcome (ReadEnds h op got) o

abbrev pub TurnFits : Held → CallOp → List Column → Turn → Type 0
TurnFits h op got (Goes p) = IsFit h op p × HasGot got p
TurnFits h op got (Ends o) = EndsFit h op got o
TurnFits h op got (Forgets o) = AnswersNone o

-- the same grant, under which more commands were sent perhaps
pub record IsSameGrant (h k : Held) : Type 0 where
  pub file : k.file ≡ h.file
  pub map : k.map ≡ h.map
  pub reach : k.reach ≡ h.reach
  pub size : k.size ≡ h.size
  pub components : k.components ≡ h.components

-- what a call does with the drives, once it has got these bytes
pub record MovedFits (h : Held) (op : CallOp) (got : List Column) (m : Moved) : Type 0 where
  pub same : IsSameGrant h m.held
  pub turn : TurnFits m.held op got m.turn
