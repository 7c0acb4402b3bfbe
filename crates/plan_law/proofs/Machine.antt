-- What the machine asks of a write's start and of a read's answer.
use Rattle.std.proofs.Common.{◌≡◌, ℕ, ◌+◌, ◌-◌, ◌<◌, Bool, true, false, List, length, get_or, sym, ap, subst, ◌∙◌, arith, inl}
use Rattle.std.proofs.Common.{inr}
use Rattle.std.specs.Prelude.{Some, slice_index}
use Rattle.std.specs.List.{All}
use Rattle.std.proofs.lemmas.Bool.{cases_Bool}
use Rattle.std.proofs.lemmas.Option.{same_Some}
use Rattle.file_log.specs.Judge.{byte_for}
use Rattle.file_log.proofs.Settled.{byte_inside}
use Rattle.data_map.specs.declared.check.RawMap.{RawMap}
use Rattle.stripe_plan.specs.declared.plan.Span.{Span}
use Rattle.stripe_plan.specs.declared.plan.Column.{Column}
use Rattle.stripe_plan.specs.declared.plan.Store.{Store}
use Rattle.stripe_plan.specs.Plans.{stores}
use Rattle.fence_law.specs.State.{State, Layout}
use Rattle.fence_law.specs.Columns.{AreBytes, overlaid, payload, Agrees}
use Rattle.plan_law.specs.FileLayout.{layout_of, column_at, column_of_cell}
use Rattle.plan_law.specs.Writes.{hits_cell, IsRightStore}
use Rattle.plan_law.specs.Guards.{IsGathered, WritesMayStart, ContentsAreCarried, ReadsMayAnswer}
use Rattle.plan_law.proofs.Starts.{new_inside, hit_is, changed_touched, starts_are_allowed, written_words_are_known}
use Rattle.plan_law.proofs.ReadBack.{replies_fit, reads_fit}
use Rattle.plan_law.proofs.Stores.{stores_are_right}

small_new : (r : Span) (bytes : List ℕ) (p v : ℕ) → length bytes ≡ r.length → All (λ v. v < 256) bytes →
    byte_for r.offset bytes p ≡ Some v → v < 256
small_new r bytes p v long small e =
    let i = new_inside r bytes p v long e in
    let in_ : p - r.offset < length bytes = omega (arith, i.0, i.1, long) in
    let is : v ≡ get_or bytes (p - r.offset) 0 =
    same_Some v (get_or bytes (p - r.offset) 0) (sym e ∙ byte_inside r.offset bytes p i.0 in_) in
    omega (arith, is, small (p - r.offset) 0 in_)

-- what was seen, and any data that agree with the replies, give one word to each cell that is hit
sees : (m : RawMap) (tag : ℕ) (b : State) (i : ℕ) (r : Span) (bytes : List ℕ) (got : List Column) (out : List ℕ) (left : ℕ →
    Bool) (seen : ℕ → ℕ) → IsGathered m tag b i r bytes got out left seen →
    (k z : ℕ) → hits_cell m r left k z ≡ true → (e : ℕ → ℕ) → AreBytes e → Agrees b i (column_of_cell m k z) e →
    (layout_of m tag).word k z (overlaid (byte_for r.offset bytes) seen) ≡ (layout_of m tag).word k z
    (overlaid (byte_for r.offset bytes) e)
sees m tag b i r bytes got out left seen g k z hit e eb agrees =
    let start = starts_are_allowed m tag r bytes out left g.may.checked g.may.long g.may.can g.left_out in
    written_words_are_known m r bytes got out left g.may k z hit seen e g.seen_bytes eb
    (replies_fit m tag b i (column_of_cell m k z) got seen g.layout g.shown
    (g.seen_agrees (column_of_cell m k z) (start.hits k z hit).1))
    (replies_fit m tag b i (column_of_cell m k z) got e g.layout g.shown agrees)

pub writes_may_start : WritesMayStart
writes_may_start m tag b i r bytes got out left seen g =
    let start = starts_are_allowed m tag r bytes out left g.may.checked g.may.long g.may.can g.left_out in
    let long = g.may.long in
    let last : ℕ = r.offset + (r.length - 1) in
    record {
      some = (
        last,
        get_or bytes (last - r.offset) 0,
        byte_inside r.offset bytes last (omega arith)
            (omega (arith, long, g.some)),
        omega (arith, g.some),
      );
      ends = λ p v e. (new_inside r bytes p v long e).1;
      start = rw g.layout start;
      bytes = λ p v e. small_new r bytes p v long g.small e;
      sees = λ k z hit e eb agrees. rw g.layout
          (sees m tag b i r bytes got out left seen g k z hit e eb
          (subst (λ (x : ℕ). Agrees b i x e) (ap (λ (y : Layout). y.cell_col k z) g.layout) agrees));
    }

store_carries : (m : RawMap) (tag : ℕ) (b : State) (i : ℕ) (r : Span) (bytes : List ℕ) (got : List Column) (out : List ℕ)
    (left : ℕ → Bool) (seen : ℕ → ℕ) → IsGathered m tag b i r bytes got out left seen →
    (w : Store) → IsRightStore m r bytes got out w → (j : ℕ) → j < length w.bytes →
    payload (layout_of m tag) (hits_cell m r left) (byte_for r.offset bytes) seen w.ask.component (w.ask.offset + j)
    ≡ Some (slice_index w.bytes j)
store_carries m tag b i r bytes got out left seen g w right j lt =
    let k : ℕ = w.ask.component in
    let z : ℕ = w.ask.offset + j in
    let listed : left w.ask.component ≡ false =
    elim (cases_Bool (left w.ask.component)) [
      | inl t ↦ absurd (cc (sym (g.left_out w.ask.component right.below t) ∙ right.there))
      | inr f ↦ f
    ] in
    let hit : hits_cell m r left w.ask.component (w.ask.offset + j) ≡ true = hit_is m r left w.ask.component
    (w.ask.offset + j) right.below listed (right.changed j lt) in
    let touched = changed_touched m r w.ask.component (w.ask.offset + j) g.may.checked (right.changed j lt) in
    let fits = replies_fit m tag b i (column_of_cell m w.ask.component (w.ask.offset + j)) got seen g.layout g.shown
    (g.seen_agrees (column_of_cell m w.ask.component (w.ask.offset + j)) touched) in
    rw hit (ap Some (sym (right.each j seen lt g.seen_bytes fits)))

pub contents_are_carried : ContentsAreCarried
contents_are_carried m tag b i r bytes got out left seen g = λ k d lt j below.
    rw g.layout (store_carries m tag b i r bytes got out left seen g (get_or (stores m r bytes got out) k d)
    ((stores_are_right m r bytes got out g.may).0 k d lt) j below)

pub reads_may_answer : ReadsMayAnswer
reads_may_answer m tag b j r got out is c can fetched shown p from to d db agrees =
    reads_fit m r got out p d c can fetched from to db
    (replies_fit m tag b j (column_at m p) got d is shown
    (subst (λ (x : ℕ). Agrees b j x d) (ap (λ (y : Layout). y.col p) is) agrees))
