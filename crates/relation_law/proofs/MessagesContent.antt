-- Each Store of a scatter carries the content of the write's entry.
-- Towards `EventsAreLawful` (`specs/Steps.antt`).
use Rattle.std.proofs.Common.{◌≡◌, ℕ, suc, ◌+◌, ◌<◌, Bool, true, false, List, [], ◌∷◌, length, refl, sym, ◌∙◌, inl, inr, arith}
use Rattle.std.specs.Prelude.{Some, ◌&&◌, not, nat_lt, slice_index}
use Rattle.std.specs.List.{All}
use Rattle.std.proofs.lemmas.Bool.{cases_Bool, and_parts}
use Rattle.std.proofs.lemmas.Bool.Decides.{nat_tests}
use Rattle.data_map.specs.declared.check.RawMap.{RawMap}
use Rattle.file_log.specs.Judge.{byte_for}
use Rattle.stripe_plan.specs.declared.plan.Column.{Column}
use Rattle.stripe_plan.specs.declared.plan.Store.{Store}
use Rattle.stripe_plan.specs.Lost.{among}
use Rattle.stripe_plan.specs.Plans.{stores}
use Rattle.server_rules.specs.Laws.{In}
use Rattle.client_rules.specs.Calls.{span_of, bytes_of}
use Rattle.client_rules.specs.Io.{outs}
use Rattle.world_history.specs.ClientNames.{CallOp, Held, TimedOut}
use Rattle.fence_law.specs.Columns.{only, payload}
use Rattle.fence_law.specs.State.{State, Start}
use Rattle.fence_law.specs.Starts.{written_start}
use Rattle.fence_law.specs.Law.{byte_before, IsWholeAt}
use Rattle.plan_law.specs.FileLayout.{layout_of}
use Rattle.plan_law.specs.Writes.{touches_column, touches_cell, hits_cell, part_of, IsRightStore}
use Rattle.plan_law.proofs.Machine.{contents_are_carried}
use Rattle.plan_law.proofs.Stores.{stores_are_right}
use Rattle.file_simulation.specs.Calls.{IsHolding, CarriesContent}
use Rattle.relation_law.proofs.MessagesStarts.{WritesBytes, HasGathered, gathered_is, left_is_out}

-- ---- lists

-- what holds of all members holds of one
pub all_in : {A : Type 0} (P : A → Type 0) (xs : List A) (x : A) → All P xs → In x xs → P x
all_in P [] x h i = absurd i
all_in P (y ∷ xs) x h (inl e) = rw e (h 0 y (omega arith))
all_in P (y ∷ xs) x h (inr i) = all_in P xs x (λ k d lt. h (suc k) d (omega (arith, lt))) i

-- ---- what is hit

pub some_hit : (b : Bool) (u v : ℕ) → only b u ≡ Some v → b ≡ true
some_hit true u v e = refl
some_hit false u v e = absurd (cc e)

-- a cell that is hit is changed, in a component that the layout lists
pub hit_means : (m : RawMap) (op : CallOp) (left : ℕ → Bool) (k z : ℕ) → hits_cell m (span_of op) left k z ≡ true →
    (k < m.comps) × (left k ≡ false) × (touches_cell m (span_of op) k z ≡ true)
hit_means m op left k z e =
    let outer = and_parts (nat_lt k m.comps) (not (left k) && touches_cell m (span_of op) k z) e in
    let inner = and_parts (not (left k)) (touches_cell m (span_of op) k z) outer.1 in
    (grind (arith, nat_tests, outer.0), is_false (left k) inner.0, inner.1)
  where
    is_false : (b : Bool) → not b ≡ true → b ≡ false
    is_false true e = absurd (cc e)
    is_false false e = refl

-- ---- the entry of a write

-- what a call's write writes down, under grant h behind gather j
abbrev pub start_of : (m : RawMap) → (s : State) → (c : ℕ) → (h : Held) → IsHolding m s c h → CallOp → (j : ℕ) → Start
start_of m s c h k op j =
    written_start s c k.grant (byte_for (span_of op).offset (bytes_of op)) (touches_column h.map (span_of op))
    (hits_cell h.map (span_of op) k.grant.left) (byte_before s j) ((span_of op).offset + (span_of op).length)
    (part_of h.map (span_of op))

-- the Stores of its scatter
abbrev pub stores_of : Held → CallOp → List Column → List TimedOut → List Store
stores_of h op got timed = stores h.map (span_of op) (bytes_of op) got (outs h timed)

pub store_right : (m : RawMap) (s : State) (c : ℕ) (h : Held) (op : CallOp) (got : List Column) (timed : List TimedOut) (j : ℕ) →
    h.map ≡ m → HasGathered m s c h op got timed j → (w : Store) → In w (stores_of h op got timed) →
    IsRightStore m (span_of op) (bytes_of op) got (outs h timed) w
unfolding outs
store_right m s c h op got timed j map g w i =
    all_in (IsRightStore m (span_of op) (bytes_of op) got (outs h timed))
    (stores m (span_of op) (bytes_of op) got (outs h timed)) w
    (stores_are_right m (span_of op) (bytes_of op) got (outs h timed) g.may).0 (rw map at i)

listed_is : (left : ℕ → Bool) (k : ℕ) (out : List ℕ) → (left k ≡ true → among k out ≡ true) → among k out ≡ false → left k ≡ false
listed_is left k out f there = elim (cases_Bool (left k)) [
  | inl t ↦ absurd (cc (sym (f t) ∙ there))
  | inr g ↦ g
]

pub stores_carry : (m : RawMap) (tag : ℕ) (s : State) (c : ℕ) (h : Held) (op : CallOp) (got : List Column)
    (timed : List TimedOut) (j : ℕ) → s.layout ≡ layout_of m tag → (k : IsHolding m s c h) → length h.components ≡ m.comps →
    WritesBytes op → HasGathered m s c h op got timed j → IsWholeAt s → (w : Store) → In w (stores_of h op got timed) →
    CarriesContent (start_of m s c h k op j) w
unfolding outs
stores_carry m tag s c h op got timed j lay k long wb g whole w i =
    let map : h.map ≡ m = k.same.agrees.map in
    let right = store_right m s c h op got timed j map g w i in
    let content = all_in
    (λ (v : Store). (d : ℕ) → d < length v.bytes →
    payload s.layout (hits_cell m (span_of op) k.grant.left) (byte_for (span_of op).offset (bytes_of op)) (byte_before s j)
    v.ask.component (v.ask.offset + d) ≡ Some (slice_index v.bytes d))
    (stores m (span_of op) (bytes_of op) got (outs h timed)) w
    (contents_are_carried m tag s j (span_of op) (bytes_of op) got (outs h timed) k.grant.left (byte_before s j)
    (gathered_is m tag s c h op got timed j lay k long wb g whole)) (rw map at i) in
    rw map (record {
      bytes = content;
      part = right.part;
      just = λ z v e at. right.cells z (hit_means m op k.grant.left w.ask.component z (some_hit _ _ v e)).2 at;
      listed = listed_is k.grant.left w.ask.component (outs h timed)
          (left_is_out m k.grant h timed k.same long w.ask.component right.below) right.there;
    })
