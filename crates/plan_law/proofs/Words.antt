-- The words of a column are known by the cells whose components aren't out.
use Rattle.std.proofs.Common.{◌≡◌, ℕ, ◌/◌, ◌%◌, ◌<◌, Bool, true, false, List, sym, ap, ◌∙◌, inl, inr}
use Rattle.std.proofs.lemmas.Bool.{cases_Bool, lt-ltb}
use Rattle.std.proofs.lemmas.Nat.{mod_below}
use Rattle.data_map.specs.declared.check.RawMap.{RawMap}
use Rattle.data_map.specs.Check.{IsChecked}
use Rattle.data_map.specs.Striping.{replicas, stripe_of, column_of}
use Rattle.data_map.specs.Inverse.{stripe_at, unit_at, byte_at}
use Rattle.data_map.proofs.Striping.{column_below, byte_stripe}
use Rattle.stripe_plan.specs.Lost.{among, is_short}
use Rattle.fence_law.specs.State.{State, Layout}
use Rattle.fence_law.specs.Columns.{AreBytes, Stood}
use Rattle.plan_law.specs.FileLayout.{layout_of, column_at, column_of_cell, word_in}
use Rattle.plan_law.specs.Known.{WordsAreKnown, HasSource, RebuildsAreKnown}
use Rattle.plan_law.proofs.Cells.{with_parity, col_coded, col_plain, cell_coded, cell_plain, digits_apart}
use Rattle.plan_law.proofs.Codes.{word_local, all_data, same_col, same_word}
use Rattle.plan_law.proofs.Known.{columns_are_known}

-- a byte of a cell's column is of the cell's stripe
stripe_is : (m : RawMap) (k z q : ℕ) → IsChecked m → column_at m q ≡ column_of_cell m k z →
    stripe_of m q ≡ stripe_at m (k / replicas m) z
stripe_is m k z q c e = elim (with_parity m) [
  | inl some ↦ (digits_apart m.unit (stripe_of m q) (column_of m q) (stripe_at m (k / replicas m) z) (z % m.unit)
      (column_below m q c) (mod_below z m.unit c.some_unit) (sym (col_coded m q some) ∙ e ∙ cell_coded m k z some)).0
  | inr none ↦
      let is : q ≡ byte_at m (k / replicas m) z = sym (col_plain m q none) ∙ e ∙ cell_plain m k z none in
      ap (stripe_of m) is ∙ byte_stripe m (stripe_at m (k / replicas m) z) (unit_at m (k / replicas m) z) (z % m.unit)
      (all_data m k z c none) (mod_below z m.unit c.some_unit)
]

pub words_are_known : WordsAreKnown
words_are_known m out k z d e c below short db eb same =
    word_local m k z d e c (λ q at. columns_are_known m out q d e c (ap (is_short m out) (stripe_is m k z q c at) ∙ short) db eb
    (λ f y lt col there. same f y lt (col ∙ at) there))

not_gone : (gone : ℕ → Bool) (out : List ℕ) (f : ℕ) → (gone f ≡ true → among f out ≡ true) → among f out ≡ false → gone f ≡ false
not_gone gone out f h there = elim (cases_Bool (gone f)) [ inl t ↦ absurd (cc (sym (h t) ∙ there)) | inr g ↦ g ]

-- a cell of the column whose component isn't gone has its word
stood_word : (m : RawMap) (tag : ℕ) (b : State) (k z f y : ℕ) (g : ℕ → ℕ) → b.layout ≡ layout_of m tag →
    Stood b (b.layout.cell_col k z) g → f < m.comps → column_of_cell m f y ≡ column_of_cell m k z → b.gone f ≡ false →
    b.cell f y ≡ word_in m f y g
stood_word m tag b k z f y g is s lt at there =
    s f y (ap (λ (x : Layout). x.is_cell f y) is ∙ lt-ltb f m.comps lt)
    (ap (λ (x : Layout). x.cell_col f y) is ∙ at ∙ sym (ap (λ (x : Layout). x.cell_col k z) is)) there
    ∙ ap (λ (x : Layout). x.word f y g) is

-- by a replica that isn't gone, or by the rest of the column
one_word : (m : RawMap) (tag : ℕ) (b : State) (out : List ℕ) (k z : ℕ) (d e : ℕ → ℕ) → IsChecked m →
    b.layout ≡ layout_of m tag → k < m.comps → HasSource m b.gone out k z → AreBytes d → AreBytes e →
    Stood b (b.layout.cell_col k z) d → Stood b (b.layout.cell_col k z) e → word_in m k z d ≡ word_in m k z e
one_word m tag b out k z d e c is below (inl s) db eb sd se =
    let col : column_of_cell m s.0 z ≡ column_of_cell m k z = same_col m s.0 k z s.2 in
    sym (same_word m s.0 k z d s.2) ∙ sym (stood_word m tag b k z s.0 z d is sd s.1 col s.3)
    ∙ stood_word m tag b k z s.0 z e is se s.1 col s.3 ∙ same_word m s.0 k z e s.2
one_word m tag b out k z d e c is below (inr s) db eb sd se =
    words_are_known m out k z d e c below s.1 db eb (λ f y lt at there.
    let stays = not_gone b.gone out f (s.0 f lt) there in
    sym (stood_word m tag b k z f y d is sd lt at stays) ∙ stood_word m tag b k z f y e is se lt at stays)

pub rebuilds_are_known : RebuildsAreKnown
rebuilds_are_known m tag b out k z d e c is below source db eb sd se =
    ap (λ (x : Layout). x.word k z d) is ∙ one_word m tag b out k z d e c is below source db eb sd se
    ∙ ap (λ (x : Layout). x.word k z e) (sym is)
