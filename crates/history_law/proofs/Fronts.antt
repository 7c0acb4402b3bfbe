-- What is read at the front of bytes, where it isn't refused.
use Rattle.std.proofs.Common.{◌≡◌, ℕ, ◌+◌, ◌-◌, ◌≤◌, ◌<◌, cond, eqb, ltb, List, [], ◌++◌, length, drop, Option, Some, None, Result, Ok, Err, refl, sym, ap, subst, ◌∙◌, append_assoc, replicate, arith, inl, inr}
use Rattle.std.specs.Prelude.{slice_range}
use Rattle.std.proofs.lemmas.Bool.{eqb-true, ltb-false}
use Rattle.std.proofs.lemmas.List.{length-append, length-drop, length-replicate, nil_from_length}
use Rattle.osd_lists.specs.Blocks.{first_nonzero}
use Rattle.osd_lists.proofs.Options.{guard_ok}
use Rattle.xdr_codec.specs.declared.err.XdrErr.TheVariants.{TooMany, Trailing}
use Rattle.xdr_codec.specs.Items.{padded, u32_item, u64_item, fixed_item, opaque_item}
use Rattle.xdr_codec.specs.Reading.{Rest, ◌>>=◌, behind, u32_in, u64_in, count_in, body_in, unless_padding, opaque_in, end_of}
use Rattle.xdr_codec.proofs.Codec.{IsCodec}
use Rattle.xdr_codec.proofs.ItemLaws.{bind_ok, ok_is, chosen, err_is_not}

-- ---- a part

-- behind these bytes a part leaves what follows them, and its value is such
abbrev pub Gets : {V E : Type 0} → (Rest → Result (V × Rest) E) → List ℕ → (V → Type 0) → Type 0
Gets {V = V} part front P =
    (i : Rest) (more : List ℕ) (x : V × Rest) → i.left ≡ front ++ more → part i ≡ Ok x → P x.0 × (x.1.left ≡ more)

-- whatever its value is
abbrev pub Any : {V : Type 0} → V → Type 0
Any v = Unit {0}

-- what is spelled so is read
pub codec_gets : {V E : Type 0} {part : Rest → Result (V × Rest) E} {spelling : V → List ℕ} {Fits : V → Type 0}
    → IsCodec part spelling Fits → (v : V) → Fits v → Gets part (spelling v) (λ w. w ≡ v)
codec_gets {V = V} {part = part} codec v fits i more x at e =
    let a = codec.again v more i.at fits in
    let same : x ≡ (v, record { left = more; at = a.0 }) =
    ok_is x _ (sym e ∙ ap (λ (t : List ℕ). part (record { left = t; at = i.at })) at ∙ a.1) in
    (ap (λ (p : V × Rest). p.0) same, ap (λ (p : V × Rest). p.1.left) same)

-- the first part, and what is still read
pub next : {V W E Goal : Type 0} {part : Rest → Result (V × Rest) E} {P : V → Type 0} (front : List ℕ) (i : Rest)
    (rest : List ℕ) (f : V × Rest → Result W E) (y : W) → Gets part front P → i.left ≡ front ++ rest
    → (part i >>= f) ≡ Ok y → ((v : V) (j : Rest) → P v → j.left ≡ rest → f (v, j) ≡ Ok y → Goal) → Goal
next {part = part} front i rest f y gets at e then =
    let b = bind_ok (part i) f y e in
    let g = gets i rest b.0 at b.1 in
    then b.0.0 b.0.1 g.0 g.1 b.2

-- ---- numbers

pub number_32 : (n : ℕ) → Gets u32_in (u32_item n) Any
unfolding u32_in u32_item
number_32 n i more x at e =
    let g = guard_ok (ltb (length i.left) 4) _ _ x e in
    (tt, ap (λ (p : ℕ × Rest). p.1.left) (sym (ok_is _ x g.1)) ∙ rw at refl)

pub number_64 : (n : ℕ) → Gets u64_in (u64_item n) Any
unfolding u64_in u64_item
number_64 n i more x at e =
    let g = guard_ok (ltb (length i.left) 8) _ _ x e in
    (tt, ap (λ (p : ℕ × Rest). p.1.left) (sym (ok_is _ x g.1)) ∙ rw at refl)

-- nothing is read in no bytes
pub number_needs : (i : Rest) (x : ℕ × Rest) → u32_in i ≡ Ok x → i.left ≡ [] → ⊥
unfolding u32_in
number_needs i x e none =
    let g = guard_ok (ltb (length i.left) 4) _ _ x e in
    omega (arith, ltb-false (length i.left) 4 g.0, ap length none)

-- a count is within its limit
pub count_in_gets : (most n : ℕ) → Gets (count_in most) (u32_item n) (λ k. k ≤ most)
unfolding count_in
count_in_gets most n i more x at e =
    let b = bind_ok (u32_in i) (λ n. cond (ltb most n.0) (Err (TooMany i.at)) (Ok n)) x e in
    let g = guard_ok (ltb most b.0.0) _ _ x b.2 in
    let same : b.0 ≡ x = ok_is b.0 x g.1 in
    subst (λ (p : ℕ × Rest). (p.0 ≤ most) × (p.1.left ≡ more)) same
    (ltb-false _ _ g.0, (number_32 n i more b.0 at b.1).1)

-- ---- an opaque that is the last part

padding_ok : (at : ℕ) (o : Option ℕ) (x y : List ℕ × Rest) → unless_padding at o x ≡ Ok y → x ≡ y
padding_ok at None x y e = cc
padding_ok at (Some k) x y e = absurd cc

-- what a body leaves
body_leaves : (i : Rest) (start n : ℕ) (x : List ℕ × Rest) → body_in start n i ≡ Ok x
    → x.1.left ≡ drop (start + padded n) i.left
unfolding body_in
body_leaves i start n x e =
    let g = guard_ok (ltb (length i.left) (start + padded n)) _ _ x e in
    ap (λ (p : List ℕ × Rest). p.1.left)
    (sym (padding_ok i.at (first_nonzero i.left (start + n) (start + padded n))
    (slice_range i.left start (start + n), behind (start + padded n) i) x g.1))

pub length_opaque : (b : List ℕ) → length (opaque_item b) ≡ 4 + padded (length b)
unfolding opaque_item u32_item fixed_item
length_opaque b =
    let fill = length-replicate {A = ℕ} (padded (length b) - length b) 0 in
    omega (arith, length-append b (replicate (padded (length b) - length b) 0), fill)

split_opaque : (b more : List ℕ) → opaque_item b ++ more ≡ u32_item (length b) ++ (fixed_item b ++ more)
unfolding opaque_item
split_opaque b more = append_assoc (u32_item (length b)) (fixed_item b) more

-- one that is too long leaves bytes
pub long_leaves : (b : List ℕ) (i : Rest) (more : List ℕ) (x : List ℕ × Rest) → 65536 < length b
    → i.left ≡ opaque_item b ++ more → opaque_in 65536 i ≡ Ok x → x.1.left ≡ [] → ⊥
unfolding opaque_in
long_leaves b i more x long at e ends =
    let n = bind_ok (count_in 65536 i) (λ n. body_in 4 n.0 i) x e in
    let count : n.0.0 ≤ 65536 =
    (count_in_gets 65536 (length b) i (fixed_item b ++ more) n.0 (at ∙ split_opaque b more) n.1).0 in
    let left : [] ≡ drop (4 + padded n.0.0) i.left = sym ends ∙ body_leaves i 4 n.0.0 x n.2 in
    let size : length i.left ≡ (4 + padded (length b)) + length more =
    ap length at ∙ length-append (opaque_item b) more ∙ ap (λ (k : ℕ). k + length more) (length_opaque b) in
    let none : 0 ≡ length i.left - (4 + padded n.0.0) = ap length left ∙ length-drop (4 + padded n.0.0) i.left in
    omega (arith, long, count, size, none)

-- ---- the end

pub ended : (i : Rest) (done : Unit {0}) → end_of i ≡ Ok done → i.left ≡ []
unfolding end_of
ended i done e = elim (chosen (eqb (length i.left) 0) (Ok tt) (Err (Trailing i.at)) (Ok done) e) [
  | inl p ↦ nil_from_length i.left (eqb-true _ _ p.0)
  | inr p ↦ absurd (err_is_not _ _ p.1)
]
