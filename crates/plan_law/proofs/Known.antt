-- A column is known by the cells whose components aren't out, where not more positions are out than there is parity.
use Rattle.std.proofs.Common.{◌≡◌, ℕ, ◌+◌, ◌-◌, ◌*◌, ◌/◌, ◌%◌, ◌<◌, ◌≤◌, false, List, length, get_or, refl, sym, ap, ◌∙◌, arith}
use Rattle.std.proofs.Common.{inl, inr}
use Rattle.std.specs.Prelude.{◌⊎◌}
use Rattle.std.proofs.lemmas.Bool.{cases_Bool, cases_lt, lt-ltb}
use Rattle.std.proofs.lemmas.Nat.{div-mul-add, mod-mul-add}
use Rattle.std.proofs.lemmas.List.{get_or_past}
use Rattle.data_map.specs.declared.check.RawMap.{RawMap}
use Rattle.data_map.specs.Check.{IsChecked}
use Rattle.data_map.specs.Striping.{replicas, stripe_of, data_unit_of, column_of, stripe_length, group_of, group_width}
use Rattle.data_map.specs.Striping.{data_units, parities, position_of, offset_of}
use Rattle.data_map.specs.Inverse.{stripe_at, unit_at}
use Rattle.data_map.proofs.Numbers.{digits}
use Rattle.data_map.proofs.Striping.{column_below, data_unit_below, position_in_range, unit_found}
use Rattle.data_map.proofs.Shape.{replicas_inside}
use Rattle.parity_code.specs.Codeword.{codeword, AgreeOutside}
use Rattle.parity_code.proofs.DecodeLaws.{length_codeword}
use Rattle.stripe_plan.specs.Lost.{among, is_out, is_short, positions_out}
use Rattle.stripe_plan.specs.Words.{lost_from, code_of}
use Rattle.stripe_plan.specs.Laws.{data_at, word_of}
use Rattle.stripe_plan.proofs.Counting.{counted, among_lost, contained}
use Rattle.stripe_plan.proofs.Columning.{data_long, data_bytes, word_is, code_count}
use Rattle.plan_law.specs.FileLayout.{column_at, column_of_cell, word_in}
use Rattle.plan_law.specs.Known.{ColumnsAreKnown}
use Rattle.plan_law.proofs.Cells.{with_parity, col_coded, col_plain, cell_coded, cell_plain}
use Rattle.plan_law.proofs.OneColumn.{one_codeword}
use Rattle.plan_law.proofs.Parities.{out_are_lost}
use Rattle.plan_law.proofs.Outs.{component_there, lost_one}

pub few_short : (m : RawMap) (out : List ℕ) (s : ℕ) → IsChecked m → is_short m out s ≡ false →
    length (lost_from m out s 0 (group_width m)) ≤ parities m
unfolding is_short
few_short m out s ch short = elim (cases_lt (parities m) (length (positions_out m out (group_of m s)))) [
  | inl more ↦ absurd (cc (sym (lt-ltb (parities m) (length (positions_out m out (group_of m s))) more) ∙ short))
  | inr less ↦ omega (arith, less, counted m out s ch)
]

-- data that have the same words in the cells of a unit that isn't out
unit_same : (m : RawMap) (out : List ℕ) (l u : ℕ) (d e : ℕ → ℕ) → IsChecked m → u < group_width m →
    (0 < parities m) ⊎ (u ≡ data_unit_of m l) → is_out m out (position_of m (stripe_of m l) u) ≡ false →
    ((k z : ℕ) → k < m.comps → column_of_cell m k z ≡ column_at m l → among k out ≡ false → word_in m k z d ≡ word_in m k z e) →
    word_of m d (stripe_of m l) (column_of m l) u ≡ word_of m e (stripe_of m l) (column_of m l) u
unit_same m out l u d e c wide coded there same =
    let s : ℕ = stripe_of m l in
    let b : ℕ = column_of m l in
    let bl : b < m.unit = column_below m l c in
    let p : ℕ = position_of m s u in
    let z : ℕ = offset_of m s b in
    let found = unit_found m s u b c wide bl in
    let some = component_there m out p there in
    let k : ℕ = some.0 in
    let at_k : k ≡ p * replicas m + (k - p * replicas m) = omega (arith, some.1) in
    let here : k / replicas m ≡ p = ap (λ x. x / replicas m) at_k ∙ div-mul-add p (replicas m) (k - p * replicas m)
    (omega (arith, some.1, some.2)) in
    let column : z % m.unit ≡ b = mod-mul-add _ m.unit b bl in
    let below : k < m.comps = omega (arith, some.2, replicas_inside m p c (position_in_range m s u c wide)) in
    let is_s : stripe_at m (k / replicas m) z ≡ s = ap (λ x. stripe_at m x z) here ∙ found.0 in
    let is_u : unit_at m (k / replicas m) z ≡ u = ap (λ x. unit_at m x z) here ∙ found.1 in
    let word : (f : ℕ → ℕ) → word_in m k z f ≡ word_of m f s b u =
    λ f. ap (λ x. word_of m f x (z % m.unit) (unit_at m (k / replicas m) z)) is_s
    ∙ ap (λ x. word_of m f s x (unit_at m (k / replicas m) z)) column ∙ ap (λ x. word_of m f s b x) is_u in
    let col : column_of_cell m k z ≡ column_at m l = elim (with_parity m) [
      | inl more ↦ cell_coded m k z more ∙ ap (λ x. x * m.unit + z % m.unit) is_s ∙ ap (λ x. s * m.unit + x) column
          ∙ sym (col_coded m l more)
      | inr none ↦
          let is_d : u ≡ data_unit_of m l = elim coded [ inl x ↦ absurd (omega (arith, x, none)) | inr x ↦ x ] in
          cell_plain m k z none ∙ ap (λ x. x * stripe_length m + unit_at m (k / replicas m) z * m.unit + z % m.unit) is_s
          ∙ ap (λ x. s * stripe_length m + x * m.unit + z % m.unit) (is_u ∙ is_d)
          ∙ ap (λ x. s * stripe_length m + data_unit_of m l * m.unit + x) column
          ∙ digits m.unit (data_units m) l c.some_unit ∙ sym (col_plain m l none)
    ] in
    sym (word d) ∙ same k z below col some.3 ∙ word e

pub columns_are_known : ColumnsAreKnown
columns_are_known m out l d e c short db eb same =
    let s : ℕ = stripe_of m l in
    let b : ℕ = column_of m l in
    let u : ℕ = data_unit_of m l in
    let low : u < data_units m = data_unit_below m l c in
    let wide : u < group_width m = omega (arith, low) in
    let few = few_short m out s c short in
    let byte : (f : ℕ → ℕ) → word_of m f s b u ≡ f l = λ f. word_is m f s b u low
    ∙ ap f (digits m.unit (data_units m) l c.some_unit) in
    elim (cases_Bool (is_out m out (position_of m s u))) [
      | inr there ↦ sym (byte d) ∙ unit_same m out l u d e c wide (inr refl) there same ∙ byte e
      | inl gone ↦
          let some : 0 < parities m = omega (
            arith,
            few,
            lost_one m out s 0 (group_width m) u (omega arith)
                (omega (arith, wide)) gone,
          ) in
          let cw = codeword (code_of m) (data_at m d s b) in
          let ce = codeword (code_of m) (data_at m e s b) in
          let dl : length cw ≡ group_width m = length_codeword (code_of m) (data_at m d s b)
          ∙ omega (arith, data_long m d s b, code_count m, c.some_data) in
          let el : length ce ≡ group_width m = length_codeword (code_of m) (data_at m e s b)
          ∙ omega (arith, data_long m e s b, code_count m, c.some_data) in
          let agree : AgreeOutside (lost_from m out s 0 (group_width m)) cw ce = record {
            long = dl ∙ sym el;
            same = λ k none. elim (cases_lt k (group_width m)) [
              | inl inside ↦ elim (cases_Bool (is_out m out (position_of m s k))) [
                | inl out_ ↦ absurd (none (contained k (lost_from m out s 0 (group_width m))
                    (among_lost m out s 0 (group_width m) k (omega arith) (omega (arith, inside)) ∙ out_)))
                | inr there ↦ unit_same m out l k d e c inside (inl some) there same
              ]
              | inr beyond ↦ get_or_past cw k 0 (omega (arith, beyond, dl)) ∙ sym (get_or_past ce k 0 (omega (arith, beyond, el)))
            ];
          } in
          let long = data_long m d s b in
          let one = one_codeword (code_of m) (data_at m d s b) (data_at m e s b) (lost_from m out s 0 (group_width m))
          (data_bytes m d s b db) (data_bytes m e s b eb) (long ∙ sym (data_long m e s b)) (omega (arith, long, c.narrow))
          (out_are_lost m out d s b c few) agree in
          sym (byte d) ∙ ap (λ xs. get_or xs u 0) one ∙ byte e
    ]
