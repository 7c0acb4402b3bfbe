-- A gather keeps all that its write needs had or awaited, so that its scatter may begin.
use Rattle.std.specs.Prelude.{◌≡◌, ◌⊎◌, ◌<◌, ◌≤◌, ℕ, ◌+◌, List, [], ◌∷◌, length, map, None, false}
use Rattle.data_map.specs.Check.{IsChecked}
use Rattle.data_map.specs.Striping.{parities, group_width, position_of, offset_of}
use Rattle.stripe_plan.specs.declared.plan.Stretch.{Stretch}
use Rattle.stripe_plan.specs.declared.plan.Aim.TheVariants.{Gathers as ToGather}
use Rattle.stripe_plan.specs.Touched.{stripes, IsTouchedStripe}
use Rattle.stripe_plan.specs.Lost.{is_out, unwritable}
use Rattle.stripe_plan.specs.Asks.{needed}
use Rattle.stripe_plan.specs.Laws.{IsWithin}
use Rattle.server_rules.specs.Laws.{In}
use Rattle.client_rules.specs.Calls.{span_of, bytes_of}
use Rattle.client_rules.specs.Commands.{nonce_at, counted}
use Rattle.client_rules.specs.Io.{outs, had}
use Rattle.client_rules.specs.Laws.{nonce_of}
use Rattle.client_rules.specs.Replies.{performed, gather_timed}
use Rattle.client_rules.specs.Writes.{gathers, scatters, is_too_short}
use Rattle.plan_law.specs.Sending.{MayScatter}
use Rattle.exchange_law.specs.ClientNonces.{AllDiffer}
use Rattle.gather_law.specs.ClientState.{CallOp, Held, Awaited, TimedOut, Io, Gathers, Goes, Moved, Reply, Span, Column, RawMap}

-- ---- what a gather has

-- some stretch has the byte of position p at offset z
abbrev pub HasStretch : List Stretch → (p z : ℕ) → Type 0
HasStretch [] p z = ⊥
HasStretch (t ∷ ts) p z = ((t.position ≡ p) × (t.first ≤ z) × (z < t.end)) ⊎ HasStretch ts p z

-- the nonces of these commands differ, and none is above the number
pub record AreBelow (top : ℕ) (awaited : List Awaited) : Type 0 where
  pub differ : AllDiffer (map nonce_of awaited)
  pub below : (a : Awaited) → In a awaited → nonce_of a ≤ top

-- No touched stripe lacks more positions than it has parity; with parity all that the gather needs of positions that
-- aren't out is had or awaited; and what is awaited has nonces of its own.
pub record IsReady (m : RawMap) (r : Span) (out : List ℕ) (got : List Column) (awaited : List Awaited) (top : ℕ) : Type 0
  where
    pub can : unwritable m out (stripes m r) ≡ None
    pub needs : 0 < parities m → (s b c : ℕ) → IsTouchedStripe m r s → c < group_width m →
        is_out m out (position_of m s c) ≡ false → IsWithin b (needed ToGather m r out s c) →
        HasStretch (had got awaited) (position_of m s c) (offset_of m s b)
    pub nonces : AreBelow top awaited

-- ---- its moves

-- a call writes as many bytes as its range has, and some
pub record IsSome (op : CallOp) : Type 0 where
  pub long : length (bytes_of op) ≡ (span_of op).length
  pub some : 0 < (span_of op).length

-- the scatter begins, as it may; or the gather goes on, and is ready again
abbrev pub IsRight : Held → CallOp → Moved → Type 0
IsRight h op m =
    ((got : List Column) × (timed : List TimedOut) × (m ≡ scatters h op got timed) ×
    MayScatter h.map (span_of op) (bytes_of op) got (outs h timed)) ⊎
    ((io : Io) × (sent : List Awaited) × (m.turn ≡ Goes (Gathers io)) × (m.held ≡ counted h sent) ×
    IsReady h.map (span_of op) (outs h io.timed) io.got io.awaited (nonce_at h (h.count + length sent)))

-- So it is at the begin of a write that has bytes, where no touched stripe lacks too much; at each reply to a READ of a
-- gather that is performed; and where a component times out and not too much is out.
pub record GathersAreReady : Type 0 where
  pub begins : (h : Held) (op : CallOp) (got : List Column) (timed : List TimedOut) (awaited : List Awaited) →
      IsChecked h.map → IsSome op → unwritable h.map (outs h timed) (stripes h.map (span_of op)) ≡ None →
      AreBelow (nonce_at h h.count) awaited → IsRight h op (gathers h op got timed awaited)
  pub replies : (h : Held) (op : CallOp) (io : Io) (a : Awaited) (r : Reply) → IsChecked h.map → IsSome op →
      In a io.awaited → IsReady h.map (span_of op) (outs h io.timed) io.got io.awaited (nonce_at h h.count) →
      IsRight h op (performed h op (Gathers io) a r)
  pub times_out : (h : Held) (op : CallOp) (io : Io) (k : ℕ) (timed : List TimedOut) → IsChecked h.map → IsSome op →
      is_too_short h op timed ≡ false →
      IsReady h.map (span_of op) (outs h io.timed) io.got io.awaited (nonce_at h h.count) →
      IsRight h op (gather_timed h op io k timed)
