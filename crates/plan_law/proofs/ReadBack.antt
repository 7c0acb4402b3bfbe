-- What a read gives, for all data that fit what it got of one column; and replies as what was got.
use Rattle.std.proofs.Common.{◌≡◌, ℕ, ◌+◌, ◌*◌, ◌/◌, ◌%◌, ◌<◌, true, false, List, sym, ap, ◌∙◌, arith, inl, inr}
use Rattle.std.specs.Prelude.{slice_index}
use Rattle.std.proofs.lemmas.Bool.{cases_Bool, lt-ltb}
use Rattle.std.proofs.lemmas.Nat.{div-mul-add, mod-mul-add}
use Rattle.data_map.specs.declared.check.RawMap.{RawMap}
use Rattle.data_map.specs.Check.{IsChecked}
use Rattle.data_map.specs.Striping.{replicas, stripe_of, data_unit_of, column_of, stripe_length, group_width, data_units}
use Rattle.data_map.specs.Striping.{parities, position_of, offset_of}
use Rattle.data_map.specs.Inverse.{unit_at, byte_at}
use Rattle.data_map.proofs.Numbers.{digits}
use Rattle.data_map.proofs.Striping.{column_below, data_unit_below, position_in_range, unit_found}
use Rattle.data_map.proofs.Shape.{replicas_inside}
use Rattle.stripe_plan.specs.declared.plan.Column.{Column}
use Rattle.stripe_plan.specs.declared.plan.Aim.TheVariants.{Reads}
use Rattle.stripe_plan.specs.Touched.{touches}
use Rattle.stripe_plan.specs.Lost.{is_out, is_hit}
use Rattle.stripe_plan.specs.Asks.{own_columns, needed}
use Rattle.stripe_plan.specs.Words.{got_at, answer_in}
use Rattle.stripe_plan.specs.Laws.{word_of, IsWithin, IsGot}
use Rattle.stripe_plan.proofs.Columning.{word_is, decoded_is}
use Rattle.stripe_plan.proofs.Covering.{column_touched, own_touched}
use Rattle.stripe_plan.proofs.ReadLaws.{hit_is, few_lost, stripe_touched}
use Rattle.plan_law.specs.FileLayout.{column_of_cell}
use Rattle.plan_law.specs.Got.{Fits}
use Rattle.plan_law.specs.Guards.{ReadsFit, RepliesFit}
use Rattle.plan_law.proofs.Cells.{with_parity, col_coded, col_plain, cell_plain}
use Rattle.plan_law.proofs.Codes.{same_col, same_word}
use Rattle.plan_law.proofs.Payloads.{fits_at}
use Rattle.plan_law.proofs.Outs.{lost_one}

-- without parity: of the unit of a byte
plain_fits : (m : RawMap) (got : List Column) (d : ℕ → ℕ) (l : ℕ) → IsChecked m → parities m ≡ 0 → Fits m got l d →
    IsGot got (position_of m (stripe_of m l) (data_unit_of m l)) (offset_of m (stripe_of m l) (column_of m l)) →
    got_at m got (stripe_of m l) (column_of m l) (data_unit_of m l) ≡ word_of m d (stripe_of m l) (column_of m l)
    (data_unit_of m l)
plain_fits m got d l c none fits is_got =
    let s : ℕ = stripe_of m l in
    let b : ℕ = column_of m l in
    let u : ℕ = data_unit_of m l in
    let wide : u < group_width m = omega (arith, data_unit_below m l c) in
    let bl : b < m.unit = column_below m l c in
    let p : ℕ = position_of m s u in
    let z : ℕ = offset_of m s b in
    let found = unit_found m s u b c wide bl in
    let here : p * replicas m / replicas m ≡ p =
    ap (λ x. x / replicas m) (let y : p * replicas m ≡ p * replicas m + 0 = omega arith in y)
    ∙ div-mul-add p (replicas m) 0 (omega arith) in
    let column : z % m.unit ≡ b = mod-mul-add _ m.unit b bl in
    let below : p * replicas m < m.comps = omega (arith, replicas_inside m p c (position_in_range m s u c wide)) in
    let col : column_of_cell m (p * replicas m) z ≡ l =
    cell_plain m (p * replicas m) z none ∙ ap (λ x. byte_at m x z) here
    ∙ ap (λ x. x * stripe_length m + unit_at m p z * m.unit + z % m.unit) found.0
    ∙ ap (λ x. s * stripe_length m + x * m.unit + z % m.unit) found.1 ∙ ap (λ x. s * stripe_length m + u * m.unit + x) column
    ∙ digits m.unit (data_units m) l c.some_unit in
    let fact = rw here at (fits (p * replicas m) z below col) in
    fact is_got ∙ ap (λ x. word_of m d x (z % m.unit) (unit_at m p z)) found.0 ∙ ap (λ x. word_of m d s x (unit_at m p z)) column
    ∙ ap (λ x. word_of m d s b x) found.1

pub reads_fit : ReadsFit
unfolding answer_in own_columns touches
reads_fit m r got out l d ch can fetched from to bytes fits =
    let s : ℕ = stripe_of m l in
    let c : ℕ = data_unit_of m l in
    let b : ℕ = column_of m l in
    let low : c < data_units m = data_unit_below m l ch in
    let wide : c < group_width m = omega (arith, low) in
    let bl : b < m.unit = column_below m l ch in
    let inside = own_touched m r l ch from to in
    let touch : touches m r s c ≡ true = lt-ltb _ _ (omega (arith, inside.0, inside.1)) in
    let stripe = stripe_touched m r l ch from to in
    let is : word_of m d s b c ≡ d l = word_is m d s b c low ∙ ap d (digits m.unit (data_units m) l ch.some_unit) in
    elim (cases_Bool (is_out m out (position_of m s c))) [
      | inl gone ↦
          let hit : is_hit m r out s ≡ true = hit_is m r out s 0 (data_units m) c (omega arith) (omega (arith, low)) touch gone in
          let few = few_lost m r out s ch (omega (arith, from, to)) can stripe hit in
          let some : 0 < parities m = omega (
            arith,
            few,
            lost_one m out s 0 (group_width m) c (omega arith)
                (omega (arith, wide)) gone,
          ) in
          let agrees = fits_at m got d s b ch some bl (rw (col_coded m l some) at fits) in
          let had : (k : ℕ) → k < group_width m → is_out m out (position_of m s k) ≡ false →
          got_at m got s b k ≡ word_of m d s b k =
          λ k lt there. agrees k lt (fetched s b k stripe lt there (rw hit (column_touched m r l ch from to))) in
          rw gone (ap (λ (xs : List ℕ). slice_index xs c) (decoded_is m got out d s b ch bytes had few) ∙ is)
      | inr there ↦
          let within : IsWithin b (needed Reads m r out s c) = elim (cases_Bool (is_hit m r out s)) [
            | inl hit ↦ rw hit (column_touched m r l ch from to)
            | inr free ↦ rw (free, lt-ltb c (data_units m) low, touch) (inl inside)
          ] in
          let is_got = fetched s b c stripe wide there within in
          rw there (elim (with_parity m) [
            | inl some ↦ fits_at m got d s b ch some bl (rw (col_coded m l some) at fits) c wide is_got
            | inr none ↦ plain_fits m got d l ch none (rw (col_plain m l none) at fits) is_got
          ] ∙ is)
    ]

-- a reply of any replica of the position fits
pub replies_fit : RepliesFit
replies_fit m tag b j x got d is shown agrees = λ k z below col g.
    let s = shown (k / replicas m) z g in
    let fact = rw is at agrees in
    sym s.5 ∙ fact s.0 s.1 s.2 z (lt-ltb s.0.at m.comps s.3) (same_col m s.0.at k z s.4 ∙ col) ∙ same_word m s.0.at k z d s.4
