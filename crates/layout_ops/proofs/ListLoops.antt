-- Reading and writing the members of a list one after another, as a loop does.
use Rattle.std.proofs.Common.{◌≡◌, ◌⊎◌, ℕ, zero, suc, ◌-◌, ◌+◌, ◌≤◌, ◌<◌, List, [], ◌∷◌, ◌++◌, length, Result, Ok, Err, refl, sym, ap, subst, ◌∙◌, append_assoc, arith, inl, inr}
use Rattle.std.specs.List.{flat_map, AllByRecursion}
use Rattle.std.proofs.lemmas.List.Concat.{flat_map-cons}
use Rattle.std.proofs.lemmas.List.{append-nil}
use Rattle.osd_lists.specs.Blocks.{IsBytes}
use Rattle.xdr_codec.specs.Items.{u32_item}
use Rattle.xdr_codec.specs.Reading.{Rest, ◌>>=◌}
use Rattle.xdr_codec.proofs.Codec.{IsCodec}
use Rattle.xdr_codec.proofs.ItemLaws.{bind_ok, ok_is}
use Rattle.layout_types.specs.Grammar.{list_item}
use Rattle.layout_types.specs.Spelling.{ListFits}
use Rattle.layout_types.proofs.Steps.{gathered, after}
use Rattle.layout_ops.specs.declared.err.OpErr.{OpErr}
use Rattle.layout_ops.specs.declared.err.OpErr.TheVariants.{Memory}
use Rattle.layout_ops.specs.Grammar.{members, list_in}
use Rattle.layout_ops.proofs.Steps.{step, Ends, in_parts, first}
use Rattle.layout_ops.proofs.Fields.{count_law}

-- ---- the loop that reads

-- what was read before, and what is still read
abbrev pub with_front : {V : Type 0} → List V → Result (List V × Rest) OpErr → Result (List V × Rest) OpErr
with_front front read = read >>= λ x. Ok (front ++ x.0, x.1)

-- the loop stands where reading from its place gives the whole
abbrev pub ReadSoFar : {V : Type 0} → (Rest → Result (V × Rest) OpErr) → List V → ℕ → Rest → ℕ → Rest → Type 0
ReadSoFar part front left i count whole = with_front front (members part left i) ≡ members part count whole

regroup : {V : Type 0} (front : List V) (v : V) (read : Result (List V × Rest) OpErr) →
    with_front front (read >>= λ x. Ok (v ∷ x.0, x.1)) ≡ with_front (front ++ v ∷ []) read
regroup {V = V} front v (Ok x) = ap (λ (vs : List V). Ok (vs, x.1)) (sym (append_assoc front (v ∷ []) x.0))
regroup front v (Err e) = refl

pub goes_on : {V : Type 0} (part : Rest → Result (V × Rest) OpErr) (front : List V) (count n : ℕ) (i whole : Rest) (v : V)
    (behind : Rest) → n < count → part i ≡ Ok (v, behind)
    → ReadSoFar part front (count - n) i count whole → ReadSoFar part (front ++ v ∷ []) (count - (n + 1)) behind count whole
unfolding members
goes_on part front count n i whole v behind lt read so_far =
    let k : count - n ≡ suc (count - (n + 1)) = omega arith in
    let one : with_front front (members part (count - n) i) ≡ with_front (front ++ v ∷ [])
    (members part (count - (n + 1)) behind) = rw (k, read) (regroup front v (members part (count - (n + 1)) behind)) in
    sym one ∙ so_far

pub ends : {V : Type 0} (part : Rest → Result (V × Rest) OpErr) (front : List V) (count n : ℕ) (i whole : Rest) (e : OpErr) →
    n < count → (e ≡ Memory) ⊎ (part i ≡ Err e)
    → ReadSoFar part front (count - n) i count whole → (e ≡ Memory) ⊎ (members part count whole ≡ Err e)
unfolding members
ends part front count n i whole e lt (inl memory) so_far = inl memory
ends part front count n i whole e lt (inr refused) so_far =
    let k : count - n ≡ suc (count - (n + 1)) = omega arith in
    let one : with_front front (members part (count - n) i) ≡ Err e = rw (k, refused) refl in
    inr (sym so_far ∙ one)

pub is_done : {V : Type 0} (part : Rest → Result (V × Rest) OpErr) (front : List V) (count n : ℕ) (i whole : Rest) → count ≤ n →
    ReadSoFar part front (count - n) i count whole → members part count whole ≡ Ok (front, i)
unfolding members
is_done {V = V} part front count n i whole le so_far =
    let k : count - n ≡ 0 = omega arith in
    let one : with_front front (members part (count - n) i) ≡ Ok (front, i) =
    rw k (ap (λ (vs : List V). Ok (vs, i)) (append-nil front)) in
    sym so_far ∙ one

-- ---- lists and their spelling

members_again : {V : Type 0} (part : Rest → Result (V × Rest) OpErr) (spelling : V → List ℕ) (Fits : V → Type 0) →
    IsCodec part spelling Fits → (vs : List V) (more : List ℕ) (at : ℕ) → AllByRecursion Fits vs →
    Ends (members part (length vs) (record { left = flat_map spelling vs ++ more; at = at })) vs more
unfolding members
members_again part spelling Fits codec [] more at fits = (at, refl)
members_again part spelling Fits codec (v ∷ vs) more at fits =
    let a = codec.again v (flat_map spelling vs ++ more) at fits.0 in
    let b = members_again part spelling Fits codec vs more a.0 fits.1 in
    let regroup : flat_map spelling (v ∷ vs) ++ more ≡ spelling v ++ (flat_map spelling vs ++ more) =
    ap (λ (t : List ℕ). t ++ more) (flat_map-cons spelling v vs) ∙ append_assoc (spelling v) (flat_map spelling vs) more in
    (b.0, ap (λ (t : List ℕ). members part (suc (length vs)) (record { left = t; at = at })) regroup ∙ rw (a.1, b.1) refl)

members_found : {V : Type 0} (part : Rest → Result (V × Rest) OpErr) (spelling : V → List ℕ) (Fits : V → Type 0) →
    IsCodec part spelling Fits → (n : ℕ) (i : Rest) (vs : List V) (j : Rest) → IsBytes i.left → members part n i ≡ Ok (vs, j) →
    (length vs ≡ n) × AllByRecursion Fits vs × (i.left ≡ flat_map spelling vs ++ j.left)
unfolding members
members_found {V = V} part spelling Fits codec zero i vs j bytes e =
    let both = ok_is ([], i) (vs, j) e in
    subst (λ (x : List V × Rest). (length x.0 ≡ 0) × AllByRecursion Fits x.0 × (i.left ≡ flat_map spelling x.0 ++ x.1.left)) both
    (refl, tt, refl)
members_found {V = V} part spelling Fits codec (suc n) i vs j bytes e =
    let a = step part spelling Fits i _ (vs, j) codec bytes e in
    let b = bind_ok _ _ (vs, j) a.2 in
    let f = members_found part spelling Fits codec n a.0.1 b.0.0 b.0.1 a.1.bytes b.1 in
    let both = ok_is _ (vs, j) b.2 in
    let front : i.left ≡ flat_map spelling (a.0.0 ∷ b.0.0) ++ b.0.1.left =
    a.1.front ∙ after (spelling a.0.0) _ _ f.2 ∙ sym (append_assoc (spelling a.0.0) (flat_map spelling b.0.0) b.0.1.left)
    ∙ ap (λ (t : List ℕ). t ++ b.0.1.left) (sym (flat_map-cons spelling a.0.0 b.0.0)) in
    subst (λ (x : List V × Rest). (length x.0 ≡ suc n) × AllByRecursion Fits x.0 × (i.left ≡ flat_map spelling x.0 ++ x.1.left))
    both (ap suc f.0, (a.1.fits, f.1), front)

list_again : {V : Type 0} (part : Rest → Result (V × Rest) OpErr) (spelling : V → List ℕ) (Fits : V → Type 0) →
    IsCodec part spelling Fits → (vs : List V) (more : List ℕ) (at : ℕ) → ListFits Fits vs →
    Ends (list_in part (record { left = list_item spelling vs ++ more; at = at })) vs more
unfolding list_in list_item
list_again part spelling Fits codec vs more at fits =
    in_parts (list_in part) (u32_item (length vs) ∷ flat_map spelling vs ∷ []) at vs more
    (first _ _ _ _ _ count_law (length vs) fits.0 (λ p. members_again part spelling Fits codec vs more p fits.1))

list_found : {V : Type 0} (part : Rest → Result (V × Rest) OpErr) (spelling : V → List ℕ) (Fits : V → Type 0) →
    IsCodec part spelling Fits → (i : Rest) (vs : List V) (j : Rest) → IsBytes i.left → list_in part i ≡ Ok (vs, j) →
    ListFits Fits vs × (i.left ≡ list_item spelling vs ++ j.left)
unfolding list_in list_item
list_found part spelling Fits codec i vs j bytes e =
    let a = step _ _ _ i _ (vs, j) count_law bytes e in
    let f = members_found part spelling Fits codec a.0.0 a.0.1 vs j a.1.bytes a.2 in
    let count : i.left ≡ u32_item (length vs) ++ a.0.1.left = rw (← f.0) at a.1.front in (
      (rw f.0 a.1.fits, f.1),
      gathered (u32_item (length vs) ∷ flat_map spelling vs ∷ []) i.left j.left (count ∙ after (u32_item (length vs)) _ _ f.2),
    )

pub list_law : {V : Type 0} {part : Rest → Result (V × Rest) OpErr} {spelling : V → List ℕ} {Fits : V → Type 0} →
    IsCodec part spelling Fits → IsCodec (list_in part) (list_item spelling) (ListFits Fits)
list_law {part = part} {spelling = spelling} {Fits = Fits} codec =
    record { again = list_again part spelling Fits codec; found = list_found part spelling Fits codec }
