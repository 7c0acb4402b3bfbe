-- The guard of a write's start.
-- Towards `EventsAreLawful` (`specs/Steps.antt`).
use Rattle.std.proofs.Common.{◌≡◌, ℕ, ◌+◌, ◌<◌, ◌≤◌, Bool, true, false, List, length, refl, sym, ap, ◌∙◌, inl, inr, arith, ◌⊎◌}
use Rattle.std.specs.Prelude.{nat_le, ◌&&◌, ◌||◌, is_none}
use Rattle.std.specs.List.{All}
use Rattle.std.proofs.lemmas.Bool.{cases_Bool, and_parts}
use Rattle.std.proofs.lemmas.Bool.Decides.{nat_tests}
use Rattle.data_map.specs.declared.check.RawMap.{RawMap}
use Rattle.file_log.specs.Judge.{byte_for}
use Rattle.stripe_plan.specs.declared.plan.Column.{Column}
use Rattle.stripe_plan.specs.Lost.{among}
use Rattle.client_rules.specs.Calls.{span_of, bytes_of, is_write}
use Rattle.client_rules.specs.Grants.{is_for, covers_write, contains}
use Rattle.client_rules.specs.Io.{outs}
use Rattle.world_history.specs.ClientNames.{CallOp, Held, TimedOut}
use Rattle.fence_law.specs.Columns.{AreBytes, Agrees}
use Rattle.fence_law.specs.State.{State, Grant}
use Rattle.fence_law.specs.State.Event.{StartsWrite}
use Rattle.fence_law.specs.Machine.{Allowed}
use Rattle.fence_law.specs.Law.{byte_before, IsWholeAt}
use Rattle.plan_law.specs.FileLayout.{layout_of, column_at}
use Rattle.plan_law.specs.Writes.{touches_column, hits_cell, part_of}
use Rattle.plan_law.specs.Sending.{MayScatter}
use Rattle.plan_law.specs.Guards.{AreOut, IsGathered}
use Rattle.plan_law.proofs.Intervals.{in_is}
use Rattle.plan_law.proofs.Machine.{writes_may_start}
use Rattle.plan_law.proofs.Starts.{touch_is}
use Rattle.exchange_law.proofs.Reach.{is_listed}
use Rattle.file_simulation.specs.Grants.{LayoutIs}
use Rattle.file_simulation.specs.Calls.{IsHolding, IsGathering}
use Rattle.relation_law.proofs.ReadsShown.{AllShown, shown_is}

-- ---- components

-- what a client's grant leaves out is out for its calls
pub left_is_out : (m : RawMap) (x : Grant) (h : Held) (timed : List TimedOut) → LayoutIs m x h → length h.components ≡ m.comps →
    AreOut m x.left (outs h timed)
left_is_out m x h timed same long k low left = elim (cases_Bool (among k (outs h timed))) [
  | inl out ↦ out
  | inr there ↦
      let l = is_listed h timed k (omega (arith, low, long)) there in
      let listed : x.left k ≡ false = same.left k l.listed l.found ∙ ap is_none l.has in
      absurd (cc (sym left ∙ listed))
]

-- ---- a write's range

-- a grant that covers a write is for writing, and is extending where the write passes the size
pub write_room : (h : Held) (op : CallOp) → is_write op ≡ true → is_for h.reach h.size op ≡ true →
    (h.reach.rw ≡ true) × ((h.reach.extending ≡ true) ⊎ ((span_of op).offset + (span_of op).length ≤ h.size))
unfolding is_for covers_write
write_room h op writes covers =
    let end : ℕ = (span_of op).offset + (span_of op).length in
    let outer =
    and_parts h.reach.rw (contains h.reach (span_of op) && (h.reach.extending || nat_le end h.size)) (rw writes at covers) in
    let inner = and_parts (contains h.reach (span_of op)) (h.reach.extending || nat_le end h.size) outer.1 in
    (outer.0, either h.reach.extending end h.size inner.1)
  where
    either : (e : Bool) (end size : ℕ) → (e || nat_le end size) ≡ true → (e ≡ true) ⊎ (end ≤ size)
    either true end size t = inl refl
    either false end size t = inr (grind (arith, nat_tests, t))

-- ---- the start

-- a call writes some bytes, as many as its range has
pub record WritesBytes (op : CallOp) : Type 0 where
  pub is : is_write op ≡ true
  pub long : length (bytes_of op) ≡ (span_of op).length
  pub some : 0 < (span_of op).length
  pub small : All (λ v. v < 256) (bytes_of op)

-- entry j has gathered what the write of a client needs: what it got may scatter, and was shown to the entry
pub record HasGathered (m : RawMap) (s : State) (c : ℕ) (h : Held) (op : CallOp) (got : List Column) (timed : List TimedOut)
    (j : ℕ) : Type 0
  where
    pub gathering : IsGathering m s c op j
    pub may : MayScatter m (span_of op) (bytes_of op) got (outs h timed)
    pub shown : AllShown s j got

pub gathered_is : (m : RawMap) (tag : ℕ) (s : State) (c : ℕ) (h : Held) (op : CallOp) (got : List Column) (timed : List TimedOut)
    (j : ℕ) → s.layout ≡ layout_of m tag → (k : IsHolding m s c h) → length h.components ≡ m.comps → WritesBytes op →
    HasGathered m s c h op got timed j → IsWholeAt s →
    IsGathered m tag s j (span_of op) (bytes_of op) got (outs h timed) k.grant.left (byte_before s j)
gathered_is m tag s c h op got timed j lay k long w g whole =
    let seen : (x : ℕ) → touches_column m (span_of op) x ≡ true → Agrees s j x (byte_before s j) × AreBytes (byte_before s j) =
    λ x t. whole.replies c j x g.gathering.at_ (g.gathering.reach x t) in
    let first : touches_column m (span_of op) (column_at m (span_of op).offset) ≡ true =
    touch_is m (span_of op) (span_of op).offset g.may.checked
    (in_is (span_of op) (span_of op).offset (omega arith) (omega (arith, w.some))) in
    record {
      layout = lay;
      may = g.may;
      some = w.some;
      small = w.small;
      left_out = left_is_out m k.grant h timed k.same long;
      shown = shown_is m tag s j got lay g.shown;
      seen_bytes = (seen (column_at m (span_of op).offset) first).1;
      seen_agrees = λ x t. (seen x t).0;
    }

pub write_may_start : (m : RawMap) (tag : ℕ) (s : State) (c : ℕ) (h : Held) (op : CallOp) (got : List Column)
    (timed : List TimedOut) (j : ℕ) → s.layout ≡ layout_of m tag → (k : IsHolding m s c h) → length h.components ≡ m.comps →
    is_for h.reach h.size op ≡ true → WritesBytes op → HasGathered m s c h op got timed j → IsWholeAt s →
    Allowed s (StartsWrite c k.grant j (byte_for (span_of op).offset (bytes_of op)) (touches_column h.map (span_of op))
    (hits_cell h.map (span_of op) k.grant.left) (byte_before s j) ((span_of op).offset + (span_of op).length)
    (part_of h.map (span_of op)))
write_may_start m tag s c h op got timed j lay k long covers w g whole =
    let map : h.map ≡ m = k.same.agrees.map in
    let room = write_room h op w.is covers in
    let start = writes_may_start m tag s j (span_of op) (bytes_of op) got (outs h timed) k.grant.left (byte_before s j)
    (gathered_is m tag s c h op got timed j lay k long w g whole) in
    rw map (record {
      some = start.some;
      ends = start.ends;
      room = elim room.1 [
        | inl e ↦ inl (k.same.same.extending ∙ sym k.same.agrees.extending ∙ e)
        | inr l ↦ inr (omega (arith, l, k.size))
      ];
      has = k.held;
      may = k.same.same.rw ∙ sym k.same.agrees.rw ∙ room.0;
      gathers = g.gathering.at_;
      gathered = g.gathering.reach;
      touches = start.start.touches;
      hits = start.start.hits;
      lands = start.start.lands;
      misses = start.start.misses;
      bytes = start.bytes;
      sees = start.sees;
    })
