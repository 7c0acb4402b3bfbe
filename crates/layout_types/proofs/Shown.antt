-- Text that is written piece after piece.
use Rattle.std.proofs.Common.{◌≡◌, ℕ, suc, add-one, get_or, ◌+◌, ◌<◌, ◌≤◌, List, [], ◌∷◌, ◌++◌, length, drop, Result, Ok, Err, refl, sym, ap, ◌∙◌, append_assoc, inl, inr}
use Rattle.std.specs.Prelude.{OnOk, IfOk}
use Rattle.std.proofs.Math.Seq.{drop-cons}
use Rattle.std.proofs.lemmas.List.{append-nil, drop_all}
use Rattle.osd_lists.specs.Blocks.{IsBytes}
use Rattle.xdr_codec.proofs.Codec.{IsCodec}
use Rattle.xdr_codec.specs.Reading.{Rest}
use Rattle.xdr_codec.proofs.ItemLaws.{bind_ok, ok_is}
use Rattle.layout_types.specs.declared.err.LayoutErr.{LayoutErr}
use Rattle.layout_types.specs.Grammar.{GivesOrMemory, whole}
use Rattle.layout_types.specs.Lines.{member_front, members_lines}
use Rattle.layout_types.specs.Leaves.{text_of, text_read, ShowsAs}
use Rattle.layout_types.proofs.Steps.{joined, all_found}

pub on_ok : {A E : Type 0} {P Q : Type 0} (r : Result A E) → OnOk r P → (P → Q) → OnOk r Q
on_ok (Ok x) p f = f p
on_ok (Err e) p f = tt

-- pieces behind a text, one after another
abbrev pub behind_each : List ℕ → List (List ℕ) → List ℕ
behind_each old [] = old
behind_each old (x ∷ xs) = behind_each (old ++ x) xs

pub one_after_another : (old x : List ℕ) (xs : List (List ℕ)) → behind_each old (x ∷ xs) ≡ old ++ joined (x ∷ xs)
one_after_another old x [] = refl
one_after_another old x (y ∷ zs) = one_after_another (old ++ x) y zs ∙ append_assoc old x (joined (y ∷ zs))

-- the text is that of a value that the bytes spell
pub shows_found : {V : Type 0} (part : Rest → Result (V × Rest) LayoutErr) (spelling : V → List ℕ) (Fits : V → Type 0)
    (lines : List ℕ → V → List ℕ) → IsCodec part spelling Fits → (bytes : List ℕ) → IsBytes bytes →
    (r : Result (List ℕ) LayoutErr) → GivesOrMemory (text_read part lines bytes) r →
    IfOk r (λ text. ShowsAs Fits spelling lines bytes text)
shows_found part spelling Fits lines codec bytes fits (Ok text) g =
    elim g [
      | inl memory ↦ absurd cc
      | inr same ↦
          let a = bind_ok (whole part bytes) (λ v. Ok (text_of lines v)) text (sym same) in
          let f = all_found part spelling Fits codec bytes fits (Ok a.0) (inr (sym a.1)) in
          (a.0, f.0, f.1, sym (ok_is _ _ a.2))
    ]
shows_found part spelling Fits lines codec bytes fits (Err e) g = tt

-- ---- the members of a list

pub shown_next : {V : Type 0} (lines : List ℕ → V → List ℕ) (path : List ℕ) (vs : List V) (n : ℕ) (v : V)
    (out new whole : List ℕ) → n < length vs → v ≡ get_or vs n v → new ≡ out ++ lines (member_front path n) v →
    out ++ members_lines lines path n (drop n vs) ≡ whole → new ++ members_lines lines path (n + 1) (drop (n + 1) vs) ≡ whole
unfolding members_lines
shown_next {V = V} lines path vs n v out new whole lt member more so_far =
    let rest : drop (suc n) vs ≡ drop (n + 1) vs = ap (λ (k : ℕ). drop k vs) (sym (add-one n)) in
    let split : drop n vs ≡ v ∷ drop (n + 1) vs =
    drop-cons vs n v lt ∙ ap (λ (y : V). y ∷ drop (suc n) vs) (sym member) ∙ ap (λ (t : List V). v ∷ t) rest in
    let back : out ++ members_lines lines path n (v ∷ drop (n + 1) vs) ≡ whole =
    ap (λ (t : List V). out ++ members_lines lines path n t) (sym split) ∙ so_far in
    ap (λ (t : List ℕ). t ++ members_lines lines path (n + 1) (drop (n + 1) vs)) more
    ∙ append_assoc out (lines (member_front path n) v) (members_lines lines path (n + 1) (drop (n + 1) vs)) ∙ back

pub shown_all : {V : Type 0} (lines : List ℕ → V → List ℕ) (path : List ℕ) (vs : List V) (n : ℕ) (out whole : List ℕ) →
    length vs ≤ n → out ++ members_lines lines path n (drop n vs) ≡ whole → out ≡ whole
unfolding members_lines
shown_all {V = V} lines path vs n out whole le so_far =
    let none : drop n vs ≡ [] = drop_all n vs le in
    sym (append-nil out) ∙ ap (λ (t : List V). out ++ members_lines lines path n t) (sym none) ∙ so_far
