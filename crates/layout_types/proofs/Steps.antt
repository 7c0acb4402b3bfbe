-- Laws of the parts of a structure.
use Rattle.std.proofs.Common.{◌≡◌, ℕ, zero, suc, ◌<◌, ◌≤◌, ◌^◌, true, false, eqb, List, [], ◌∷◌, ◌++◌, length, Option, None, Some, Result, Ok, Err, refl, sym, ap, subst, ◌∙◌, append_assoc, arith, inl, inr, FitsSigned}
use Rattle.std.specs.Prelude.{⊤, IfOk, OnOk}
use Rattle.std.specs.Int.{w64}
use Rattle.std.specs.List.{flat_map, AllByRecursion}
use Rattle.std.proofs.lemmas.Bool.{eqb-true}
use Rattle.std.proofs.lemmas.List.Concat.{flat_map-cons}
use Rattle.std.proofs.lemmas.List.{append-nil, nil_from_length}
use Rattle.osd_lists.specs.Blocks.{IsBytes}
use Rattle.xdr_codec.specs.declared.err.XdrErr.{XdrErr}
use Rattle.xdr_codec.specs.declared.err.XdrErr.TheVariants.{Trailing}
use Rattle.xdr_codec.specs.Items.{u32_item, u64_item, i64_item, bool_item, fixed_item, opaque_item}
use Rattle.xdr_codec.proofs.Codec.{IsCodec}
use Rattle.xdr_codec.specs.Reading.{Rest, ◌>>=◌, u32_in, u64_in, i64_in, bool_in, count_in, fixed_in, opaque_in, end_of}
use Rattle.xdr_codec.proofs.ItemLaws.{bind_ok, ok_is, err_is_not, rest_fits, chosen, u32_codec, u64_codec, i64_codec, bool_codec, count_codec, fixed_codec, opaque_codec}
use Rattle.layout_types.specs.declared.err.LayoutErr.{LayoutErr}
use Rattle.layout_types.specs.Spelling.{ListFits}
use Rattle.layout_types.specs.Grammar.{lifted, u32_part, u64_part, i64_part, bool_part, fixed_part, opaque_part, count_part, named, enum_part, optional_part, optional_item, OptionalFits, members, list_part, list_item, whole, GivesOrMemory}

-- ---- items

lifted_ok : {A : Type 0} (r : Result A XdrErr) (x : A) → lifted r ≡ Ok x → r ≡ Ok x
lifted_ok (Ok y) x e = cc
lifted_ok (Err d) x e = absurd cc

lift : {V : Type 0} (item : Rest → Result (V × Rest) XdrErr) (spelling : V → List ℕ) (Fits : V → Type 0) →
    IsCodec item spelling Fits → IsCodec (λ i. lifted (item i)) spelling Fits
lift item spelling Fits codec = record {
  again = λ v more at fits. let a = codec.again v more at fits in (a.0, ap lifted a.1);
  found = λ i v j fits e. codec.found i v j fits (lifted_ok (item i) (v, j) e);
}

pub u32_law : IsCodec u32_part u32_item (λ n. n < 2 ^ 32)
unfolding u32_part
u32_law = lift u32_in u32_item (λ n. n < 2 ^ 32) u32_codec

pub u64_law : IsCodec u64_part u64_item (λ n. n < 2 ^ 64)
unfolding u64_part
u64_law = lift u64_in u64_item (λ n. n < 2 ^ 64) u64_codec

pub i64_law : IsCodec i64_part i64_item (FitsSigned w64)
unfolding i64_part
i64_law = lift i64_in i64_item (FitsSigned w64) i64_codec

pub bool_law : IsCodec bool_part bool_item (λ b. ⊤)
unfolding bool_part
bool_law = lift bool_in bool_item (λ b. ⊤) bool_codec

pub fixed_law : (n : ℕ) → IsCodec (fixed_part n) fixed_item (λ v. length v ≡ n)
unfolding fixed_part
fixed_law n = lift (fixed_in n) fixed_item (λ v. length v ≡ n) (fixed_codec n)

pub opaque_law : IsCodec opaque_part opaque_item (λ v. length v ≤ 4096)
unfolding opaque_part
opaque_law = lift (opaque_in 4096) opaque_item (λ v. length v ≤ 4096) (opaque_codec 4096 (omega arith))

pub count_law : IsCodec count_part u32_item (λ n. n ≤ 1024)
unfolding count_part
count_law = lift (count_in 1024) u32_item (λ n. n ≤ 1024) (count_codec 1024 (omega arith))

-- ---- one part after another

-- what a part took from the front
pub record Took {V : Type 0} (spelling : V → List ℕ) (Fits : V → Type 0) (i : Rest) (x : V × Rest) : Type 0 where
  pub fits : Fits x.0
  pub front : i.left ≡ spelling x.0 ++ x.1.left
  pub bytes : IsBytes x.1.left

-- the first of several parts, and what is still read
pub step : {V W : Type 0} (part : Rest → Result (V × Rest) LayoutErr) (spelling : V → List ℕ) (Fits : V → Type 0) (i : Rest)
    (more : V × Rest → Result W LayoutErr) (y : W) →
    IsCodec part spelling Fits → IsBytes i.left → (part i >>= more) ≡ Ok y →
    (x : V × Rest) × Took spelling Fits i x × (more x ≡ Ok y)
step part spelling Fits i more y codec bytes e =
    let b = bind_ok (part i) more y e in
    let f = codec.found i b.0.0 b.0.1 bytes b.1 in
    (b.0, record { fits = f.0; front = f.1; bytes = rest_fits i.left (spelling b.0.0) b.0.1.left bytes f.1 }, b.2)

-- a spelling in parts, with what follows it
abbrev pub joined : List (List ℕ) → List ℕ
joined [] = []
joined (x ∷ []) = x
joined (x ∷ y ∷ zs) = x ++ joined (y ∷ zs)

abbrev pub joined_before : List (List ℕ) → List ℕ → List ℕ
joined_before [] more = more
joined_before (x ∷ xs) more = x ++ joined_before xs more

pub regrouped : (items : List (List ℕ)) (more : List ℕ) → joined items ++ more ≡ joined_before items more
regrouped [] more = refl
regrouped (x ∷ []) more = refl
regrouped (x ∷ y ∷ zs) more = append_assoc x (joined (y ∷ zs)) more ∙ ap (λ (t : List ℕ). x ++ t) (regrouped (y ∷ zs) more)

-- what was found part after part is the whole
pub gathered : (items : List (List ℕ)) (left more : List ℕ) → left ≡ joined_before items more → left ≡ joined items ++ more
gathered items left more e = e ∙ sym (regrouped items more)

pub after : (x y z : List ℕ) → y ≡ z → x ++ y ≡ x ++ z
after x y z e = ap (λ (t : List ℕ). x ++ t) e

-- a value and what follows it
abbrev pub Ends : {V : Type 0} → Result (V × Rest) LayoutErr → V → List ℕ → Type 0
Ends read v more = (end : ℕ) × (read ≡ Ok (v, record { left = more; at = end }))

-- a whole that is read part after part
pub in_parts : {V : Type 0} (reading : Rest → Result (V × Rest) LayoutErr) (items : List (List ℕ)) (at : ℕ) (v : V)
    (more : List ℕ) →
    Ends (reading (record { left = joined_before items more; at = at })) v more →
    Ends (reading (record { left = joined items ++ more; at = at })) v more
in_parts reading items at v more h =
    (h.0, ap (λ (t : List ℕ). reading (record { left = t; at = at })) (regrouped items more) ∙ h.1)

-- the first part of a value is read, and then the others
pub first : {V W : Type 0} {part : Rest → Result (V × Rest) LayoutErr} {spelling : V → List ℕ} {Fits : V → Type 0} (rest : List ℕ)
    (at : ℕ) (others : V × Rest → Result (W × Rest) LayoutErr) (w : W) (more : List ℕ) →
    IsCodec part spelling Fits → (v : V) → Fits v → ((p : ℕ) → Ends (others (v, record { left = rest; at = p })) w more) →
    Ends (part (record { left = spelling v ++ rest; at = at }) >>= others) w more
first rest at others w more codec v fits h =
    let a = codec.again v rest at fits in
    let b = h a.0 in
    (b.0, ap (λ r. r >>= others) a.1 ∙ b.1)

-- the last part
pub last : {V W : Type 0} {part : Rest → Result (V × Rest) LayoutErr} {spelling : V → List ℕ} {Fits : V → Type 0} (at : ℕ)
    (others : V × Rest → Result (W × Rest) LayoutErr) (w : W) (more : List ℕ) →
    IsCodec part spelling Fits → (v : V) → Fits v →
    ((p : ℕ) → others (v, record { left = more; at = p }) ≡ Ok (w, record { left = more; at = p })) →
    Ends (part (record { left = spelling v ++ more; at = at }) >>= others) w more
last at others w more codec v fits h = first more at others w more codec v fits (λ p. (p, h p))

-- ---- enumerations

named_ok : {V : Type 0} (at : ℕ) (n : ℕ × Rest) (o : Option V) (x : V × Rest) → named at n o ≡ Ok x →
    (v : V) × (o ≡ Some v) × ((v, n.1) ≡ x)
named_ok at n None x e = absurd cc
named_ok at n (Some v) x e = (v, refl, cc)

-- a table of names and numbers, both ways
pub record IsTable {V : Type 0} (of : ℕ → Option V) (number : V → ℕ) (Fits : V → Type 0) : Type 0 where
  pub back : (v : V) → Fits v → of (number v) ≡ Some v
  pub small : (v : V) → Fits v → number v < 2 ^ 32
  pub only : (n : ℕ) (v : V) → of n ≡ Some v → (number v ≡ n) × Fits v

pub enum_law : {V : Type 0} (of : ℕ → Option V) (number : V → ℕ) (Fits : V → Type 0) → IsTable of number Fits →
    IsCodec (enum_part of) (λ v. u32_item (number v)) Fits
unfolding enum_part
enum_law {V = V} of number Fits table = record {
  again = λ v more at fits. let a = u32_law.again (number v) more at (table.small v fits) in
      (a.0, rw (a.1, table.back v fits) refl);
  found = λ i v j fits e.
      let s = step u32_part u32_item (λ n. n < 2 ^ 32) i (λ n. named i.at n (of n.0)) (v, j) u32_law fits e in
      let n = named_ok i.at s.0 (of s.0.0) (v, j) s.2 in
      let t = table.only s.0.0 n.0 n.1 in
      subst (λ (p : V × Rest). Fits p.0 × (i.left ≡ u32_item (number p.0) ++ p.1.left)) n.2 (t.1, rw t.0 s.1.front);
}

-- ---- optional parts

optional_again : {V : Type 0} (part : Rest → Result (V × Rest) LayoutErr) (spelling : V → List ℕ) (Fits : V → Type 0) →
    IsCodec part spelling Fits → (o : Option V) (more : List ℕ) (at : ℕ) → OptionalFits Fits o →
    Ends (optional_part part (record { left = optional_item spelling o ++ more; at = at })) o more
unfolding optional_part
optional_again part spelling Fits codec None more at fits = last _ _ _ _ bool_law false tt (λ p. refl)
optional_again part spelling Fits codec (Some v) more at fits =
    in_parts (optional_part part) (bool_item true ∷ spelling v ∷ []) at (Some v) more
    (first _ _ _ _ _ bool_law true tt (λ p. last _ _ _ _ codec v fits (λ q. refl)))

optional_found : {V : Type 0} (part : Rest → Result (V × Rest) LayoutErr) (spelling : V → List ℕ) (Fits : V → Type 0) →
    IsCodec part spelling Fits → (i : Rest) (o : Option V) (j : Rest) → IsBytes i.left → optional_part part i ≡ Ok (o, j) →
    OptionalFits Fits o × (i.left ≡ optional_item spelling o ++ j.left)
unfolding optional_part
optional_found {V = V} part spelling Fits codec i o j bytes e =
    let a = step bool_part bool_item (λ b. ⊤) i _ (o, j) bool_law bytes e in
    elim (chosen a.0.0 _ _ _ a.2) [
      | inl p ↦
          let b = step part spelling Fits a.0.1 _ (o, j) codec a.1.bytes p.1 in
          let both = ok_is _ (o, j) b.2 in
          let front : i.left ≡ bool_item true ++ a.0.1.left = rw p.0 at a.1.front in
          subst (λ (x : Option V × Rest). OptionalFits Fits x.0 × (i.left ≡ optional_item spelling x.0 ++ x.1.left)) both (
            b.1.fits,
            gathered (bool_item true ∷ spelling b.0.0 ∷ []) i.left b.0.1.left
                (front ∙ after (bool_item true) _ _ b.1.front),
          )
      | inr p ↦
          let both = ok_is _ (o, j) p.1 in
          let front : i.left ≡ bool_item false ++ a.0.1.left = rw p.0 at a.1.front in
          subst (λ (x : Option V × Rest). OptionalFits Fits x.0 × (i.left ≡ optional_item spelling x.0 ++ x.1.left)) both
          (tt, front)
    ]

pub optional_law : {V : Type 0} {part : Rest → Result (V × Rest) LayoutErr} {spelling : V → List ℕ} {Fits : V → Type 0} →
    IsCodec part spelling Fits → IsCodec (optional_part part) (optional_item spelling) (OptionalFits Fits)
optional_law {part = part} {spelling = spelling} {Fits = Fits} codec =
    record { again = optional_again part spelling Fits codec; found = optional_found part spelling Fits codec }

-- ---- lists

members_again : {V : Type 0} (part : Rest → Result (V × Rest) LayoutErr) (spelling : V → List ℕ) (Fits : V → Type 0) →
    IsCodec part spelling Fits → (vs : List V) (more : List ℕ) (at : ℕ) → AllByRecursion Fits vs →
    Ends (members part (length vs) (record { left = flat_map spelling vs ++ more; at = at })) vs more
unfolding members
members_again part spelling Fits codec [] more at fits = (at, refl)
members_again part spelling Fits codec (v ∷ vs) more at fits =
    let a = codec.again v (flat_map spelling vs ++ more) at fits.0 in
    let b = members_again part spelling Fits codec vs more a.0 fits.1 in
    let regroup : flat_map spelling (v ∷ vs) ++ more ≡ spelling v ++ (flat_map spelling vs ++ more) =
    ap (λ (t : List ℕ). t ++ more) (flat_map-cons spelling v vs) ∙ append_assoc (spelling v) (flat_map spelling vs) more in
    (b.0, ap (λ (t : List ℕ). members part (suc (length vs)) (record { left = t; at = at })) regroup ∙ rw (a.1, b.1) refl)

members_found : {V : Type 0} (part : Rest → Result (V × Rest) LayoutErr) (spelling : V → List ℕ) (Fits : V → Type 0) →
    IsCodec part spelling Fits → (n : ℕ) (i : Rest) (vs : List V) (j : Rest) → IsBytes i.left → members part n i ≡ Ok (vs, j) →
    (length vs ≡ n) × AllByRecursion Fits vs × (i.left ≡ flat_map spelling vs ++ j.left)
unfolding members
members_found {V = V} part spelling Fits codec zero i vs j bytes e =
    let both = ok_is ([], i) (vs, j) e in
    subst (λ (x : List V × Rest). (length x.0 ≡ 0) × AllByRecursion Fits x.0 × (i.left ≡ flat_map spelling x.0 ++ x.1.left)) both
    (refl, tt, refl)
members_found {V = V} part spelling Fits codec (suc n) i vs j bytes e =
    let a = step part spelling Fits i _ (vs, j) codec bytes e in
    let b = bind_ok _ _ (vs, j) a.2 in
    let f = members_found part spelling Fits codec n a.0.1 b.0.0 b.0.1 a.1.bytes b.1 in
    let both = ok_is _ (vs, j) b.2 in
    let front : i.left ≡ flat_map spelling (a.0.0 ∷ b.0.0) ++ b.0.1.left =
    a.1.front ∙ after (spelling a.0.0) _ _ f.2 ∙ sym (append_assoc (spelling a.0.0) (flat_map spelling b.0.0) b.0.1.left)
    ∙ ap (λ (t : List ℕ). t ++ b.0.1.left) (sym (flat_map-cons spelling a.0.0 b.0.0)) in
    subst (λ (x : List V × Rest). (length x.0 ≡ suc n) × AllByRecursion Fits x.0 × (i.left ≡ flat_map spelling x.0 ++ x.1.left))
    both (ap suc f.0, (a.1.fits, f.1), front)

list_again : {V : Type 0} (part : Rest → Result (V × Rest) LayoutErr) (spelling : V → List ℕ) (Fits : V → Type 0) →
    IsCodec part spelling Fits → (vs : List V) (more : List ℕ) (at : ℕ) → ListFits Fits vs →
    Ends (list_part part (record { left = list_item spelling vs ++ more; at = at })) vs more
unfolding list_part list_item
list_again part spelling Fits codec vs more at fits =
    in_parts (list_part part) (u32_item (length vs) ∷ flat_map spelling vs ∷ []) at vs more
    (first _ _ _ _ _ count_law (length vs) fits.0 (λ p. members_again part spelling Fits codec vs more p fits.1))

list_found : {V : Type 0} (part : Rest → Result (V × Rest) LayoutErr) (spelling : V → List ℕ) (Fits : V → Type 0) →
    IsCodec part spelling Fits → (i : Rest) (vs : List V) (j : Rest) → IsBytes i.left → list_part part i ≡ Ok (vs, j) →
    ListFits Fits vs × (i.left ≡ list_item spelling vs ++ j.left)
unfolding list_part list_item
list_found part spelling Fits codec i vs j bytes e =
    let a = step _ _ _ i _ (vs, j) count_law bytes e in
    let f = members_found part spelling Fits codec a.0.0 a.0.1 vs j a.1.bytes a.2 in
    let count : i.left ≡ u32_item (length vs) ++ a.0.1.left = rw (← f.0) at a.1.front in (
      (rw f.0 a.1.fits, f.1),
      gathered (u32_item (length vs) ∷ flat_map spelling vs ∷ []) i.left j.left (count ∙ after (u32_item (length vs)) _ _ f.2),
    )

pub list_law : {V : Type 0} {part : Rest → Result (V × Rest) LayoutErr} {spelling : V → List ℕ} {Fits : V → Type 0} →
    IsCodec part spelling Fits → IsCodec (list_part part) (list_item spelling) (ListFits Fits)
list_law {part = part} {spelling = spelling} {Fits = Fits} codec =
    record { again = list_again part spelling Fits codec; found = list_found part spelling Fits codec }

-- ---- whole structures

pub end_ok : (i : Rest) (done : Unit {0}) → end_of i ≡ Ok done → i.left ≡ []
unfolding end_of
end_ok i done e =
    elim (chosen (eqb (length i.left) 0) (Ok tt) (Err (Trailing i.at)) (Ok done) e) [
      | inl p ↦ nil_from_length i.left (eqb-true _ _ p.0)
      | inr p ↦ absurd (err_is_not _ _ p.1)
    ]

whole_ok : {V : Type 0} (part : Rest → Result (V × Rest) LayoutErr) (bytes : List ℕ) (v : V) → whole part bytes ≡ Ok v →
    (j : Rest) × (part (record { left = bytes; at = 0 }) ≡ Ok (v, j)) × (j.left ≡ [])
unfolding whole
whole_ok part bytes v e =
    let a = bind_ok _ _ v e in
    let b = bind_ok _ _ v a.2 in
    let ended = end_ok a.0.1 b.0 (lifted_ok _ _ b.1) in
    let same : a.0.0 ≡ v = ok_is _ _ b.2 in
    (a.0.1, subst (λ (x : _). part (record { left = bytes; at = 0 }) ≡ Ok (x, a.0.1)) same a.1, ended)

-- what is read is spelled so
pub all_found : {V : Type 0} (part : Rest → Result (V × Rest) LayoutErr) (spelling : V → List ℕ) (Fits : V → Type 0) →
    IsCodec part spelling Fits → (bytes : List ℕ) → IsBytes bytes → (r : Result V LayoutErr) →
    GivesOrMemory (whole part bytes) r →
    IfOk r (λ v. Fits v × (bytes ≡ spelling v))
all_found part spelling Fits codec bytes fits (Ok v) g =
    elim g [
      | inl memory ↦ absurd cc
      | inr same ↦
          let a = whole_ok part bytes v (sym same) in
          let f = codec.found (record { left = bytes; at = 0 }) v a.0 fits a.1 in
          (f.0, f.1 ∙ ap (λ (t : List ℕ). spelling v ++ t) a.2 ∙ append-nil (spelling v))
    ]
all_found part spelling Fits codec bytes fits (Err e) g = tt

-- what is spelled so is read
pub all_again : {V : Type 0} (part : Rest → Result (V × Rest) LayoutErr) (spelling : V → List ℕ) (Fits : V → Type 0) →
    IsCodec part spelling Fits → (v : V) → Fits v → whole part (spelling v) ≡ Ok v
unfolding whole end_of
all_again part spelling Fits codec v fits =
    let a = codec.again v [] 0 fits in
    let same : part (record { left = spelling v; at = 0 }) ≡ Ok (v, record { left = []; at = a.0 }) =
    ap (λ (t : List ℕ). part (record { left = t; at = 0 })) (sym (append-nil (spelling v))) ∙ a.1 in
    rw same refl

pub all_only : {V : Type 0} (part : Rest → Result (V × Rest) LayoutErr) (spelling : V → List ℕ) (Fits : V → Type 0) →
    IsCodec part spelling Fits → (bytes : List ℕ) (r : Result V LayoutErr) → GivesOrMemory (whole part bytes) r →
    (v : V) → Fits v → bytes ≡ spelling v → GivesOrMemory (Ok v) r
all_only part spelling Fits codec bytes r g v fits e =
    elim g [
      | inl memory ↦ inl memory
      | inr same ↦ inr (same ∙ ap (whole part) e ∙ all_again part spelling Fits codec v fits)
    ]

-- no spelling begins another
pub all_alone : {V : Type 0} (part : Rest → Result (V × Rest) LayoutErr) (spelling : V → List ℕ) (Fits : V → Type 0) →
    IsCodec part spelling Fits → (bytes : List ℕ) → IsBytes bytes → (r : Result V LayoutErr) →
    GivesOrMemory (whole part bytes) r →
    IfOk r (λ v. (w : V) (more : List ℕ) → Fits w → spelling w ≡ bytes ++ more → more ≡ [])
all_alone part spelling Fits codec bytes fits (Ok v) g = λ w more fits_w e.
    let f = all_found part spelling Fits codec bytes fits (Ok v) g in
    let a = codec.again v more 0 f.0 in
    let b = codec.again w [] 0 fits_w in
    let one : part (record { left = spelling v ++ more; at = 0 }) ≡ Ok (w, record { left = []; at = b.0 }) =
    ap (λ (t : List ℕ). part (record { left = t; at = 0 }))
    (ap (λ (t : List ℕ). t ++ more) (sym f.1) ∙ sym e ∙ sym (append-nil (spelling w))) ∙ b.1 in
    let both = ok_is (v, record { left = more; at = a.0 }) (w, record { left = []; at = b.0 }) (sym a.1 ∙ one) in
    ap (λ (p : _ × Rest). p.1.left) both
all_alone part spelling Fits codec bytes fits (Err e) g = tt

-- what is written is read back
pub all_read_back : {V E : Type 0} (part : Rest → Result (V × Rest) LayoutErr) (spelling : V → List ℕ) (Fits : V → Type 0) →
    IsCodec part spelling Fits → (v : V) (r : Result (List ℕ) E) → IfOk r (λ b. b ≡ spelling v) → OnOk r (Fits v) →
    IfOk r (λ b. whole part b ≡ Ok v)
all_read_back part spelling Fits codec v (Ok b) e fits = ap (whole part) e ∙ all_again part spelling Fits codec v fits
all_read_back part spelling Fits codec v (Err d) e fits = tt
