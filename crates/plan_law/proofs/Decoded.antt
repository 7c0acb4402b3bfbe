-- A column that has the words of some data but for lost units is decoded to all their words.
use Rattle.std.proofs.Common.{◌≡◌, ℕ, ◌+◌, ◌≤◌, List, [], ◌∷◌, length, get_or, sym, ap, ◌∙◌, arith, inl, inr}
use Rattle.std.proofs.lemmas.Bool.{cases_lt}
use Rattle.std.proofs.lemmas.List.{get_or_past}
use Rattle.data_map.specs.Striping.{group_width}
use Rattle.parity_code.specs.declared.code.Code.{Code}
use Rattle.parity_code.specs.Codeword.{count_of, codeword, AgreeOutside}
use Rattle.parity_code.specs.Decoding.{ArePositions, decoded}
use Rattle.parity_code.proofs.BackLaws.{AreLost, decoded_back}
use Rattle.parity_code.proofs.DecodeLaws.{length_codeword, count_most}
use Rattle.stripe_plan.specs.Words.{code_of}
use Rattle.stripe_plan.specs.Laws.{data_at}
use Rattle.stripe_plan.proofs.Columning.{data_long, data_bytes, code_count}
use Rattle.plan_law.specs.Known.{DecodedAreWords}

are_lost : (code : Code) (units n : ℕ) (lost : List ℕ) → ArePositions n lost → n ≡ units + count_of code →
    length lost ≤ count_of code → count_of code ≤ 2 → AreLost code units lost
are_lost code units n [] h e few most = tt
are_lost code units n (x ∷ []) h e few most = (omega (arith, few), omega (arith, e, h.below 0 0 (omega arith)))
are_lost code units n (x ∷ y ∷ []) h e few most =
    let two : count_of code ≡ 2 = omega (arith, few, most) in
    (two, h.rising 0 (omega arith), omega (arith, e, two, h.below 1 0 (omega arith)))
are_lost code units n (x ∷ y ∷ z ∷ zs) h e few most = absurd (omega (arith, few, most))

pub decoded_are_words : DecodedAreWords
decoded_are_words m s b d lost col c db at few long had = λ u.
    let ds = data_at m d s b in
    let dl = data_long m d s b in
    let cw = codeword (code_of m) ds in
    let wide : length cw ≡ group_width m = length_codeword (code_of m) ds ∙ omega (arith, dl, code_count m, c.some_data) in
    let agree : AgreeOutside lost cw col = record {
      long = wide ∙ sym long;
      same = λ k none. elim (cases_lt k (group_width m)) [
        | inl inside ↦ sym (had k inside none)
        | inr beyond ↦ get_or_past cw k 0 (omega (arith, beyond, wide)) ∙ sym (get_or_past col k 0 (omega (arith, beyond, long)))
      ];
    } in
    let are = are_lost (code_of m) (length ds) (group_width m) lost at (omega (arith, dl, code_count m, c.some_data))
    (omega (arith, few, code_count m)) (count_most (code_of m)) in
    ap (λ n. get_or (decoded n lost col) u 0) (sym dl)
    ∙ ap (λ xs. get_or xs u 0) (decoded_back (code_of m) ds lost col (data_bytes m d s b db)
    (omega (arith, dl, c.narrow)) are agree)
