-- Parts that are read one after another, whatever their refusals are.
use Rattle.std.proofs.Common.{◌≡◌, ℕ, List, ◌++◌, Result, Ok, ap, ◌∙◌}
use Rattle.osd_lists.specs.Blocks.{IsBytes}
use Rattle.xdr_codec.specs.Reading.{Rest, ◌>>=◌}
use Rattle.xdr_codec.proofs.Codec.{IsCodec}
use Rattle.xdr_codec.proofs.ItemLaws.{bind_ok, ok_is, rest_fits}
use Rattle.layout_types.proofs.Steps.{joined, joined_before, regrouped}

-- what a part took from the front
pub record Took {V : Type 0} (spelling : V → List ℕ) (Fits : V → Type 0) (i : Rest) (x : V × Rest) : Type 0 where
  pub fits : Fits x.0
  pub front : i.left ≡ spelling x.0 ++ x.1.left
  pub bytes : IsBytes x.1.left

-- the first of several parts, and what is still read
pub step : {V W E : Type 0} (part : Rest → Result (V × Rest) E) (spelling : V → List ℕ) (Fits : V → Type 0) (i : Rest)
    (more : V × Rest → Result W E) (y : W) →
    IsCodec part spelling Fits → IsBytes i.left → (part i >>= more) ≡ Ok y →
    (x : V × Rest) × Took spelling Fits i x × (more x ≡ Ok y)
step part spelling Fits i more y codec bytes e =
    let b = bind_ok (part i) more y e in
    let f = codec.found i b.0.0 b.0.1 bytes b.1 in
    (b.0, record { fits = f.0; front = f.1; bytes = rest_fits i.left (spelling b.0.0) b.0.1.left bytes f.1 }, b.2)

-- the same for whatever follows from it
pub took : {V W E Goal : Type 0} {part : Rest → Result (V × Rest) E} {spelling : V → List ℕ} {Fits : V → Type 0} (i : Rest)
    (more : V × Rest → Result W E) (y : W) →
    IsCodec part spelling Fits → IsBytes i.left → (part i >>= more) ≡ Ok y →
    ((v : V) (j : Rest) → Fits v → i.left ≡ spelling v ++ j.left → IsBytes j.left → more (v, j) ≡ Ok y → Goal) → Goal
took {part = part} {spelling = spelling} {Fits = Fits} i more y codec bytes e then =
    let a = step part spelling Fits i more y codec bytes e in
    then a.0.0 a.0.1 a.1.fits a.1.front a.1.bytes a.2

-- a value and what follows it
abbrev pub Ends : {V E : Type 0} → Result (V × Rest) E → V → List ℕ → Type 0
Ends read v more = (end : ℕ) × (read ≡ Ok (v, record { left = more; at = end }))

-- a whole that is read part after part
pub in_parts : {V E : Type 0} (reading : Rest → Result (V × Rest) E) (items : List (List ℕ)) (at : ℕ) (v : V) (more : List ℕ) →
    Ends (reading (record { left = joined_before items more; at = at })) v more →
    Ends (reading (record { left = joined items ++ more; at = at })) v more
in_parts reading items at v more h =
    (h.0, ap (λ (t : List ℕ). reading (record { left = t; at = at })) (regrouped items more) ∙ h.1)

-- the first part of a value is read, and then the others
pub first : {V W E : Type 0} {part : Rest → Result (V × Rest) E} {spelling : V → List ℕ} {Fits : V → Type 0} (rest : List ℕ)
    (at : ℕ) (others : V × Rest → Result (W × Rest) E) (w : W) (more : List ℕ) →
    IsCodec part spelling Fits → (v : V) → Fits v → ((p : ℕ) → Ends (others (v, record { left = rest; at = p })) w more) →
    Ends (part (record { left = spelling v ++ rest; at = at }) >>= others) w more
first rest at others w more codec v fits h =
    let a = codec.again v rest at fits in
    let b = h a.0 in
    (b.0, ap (λ r. r >>= others) a.1 ∙ b.1)

-- the last part
pub last : {V W E : Type 0} {part : Rest → Result (V × Rest) E} {spelling : V → List ℕ} {Fits : V → Type 0} (at : ℕ)
    (others : V × Rest → Result (W × Rest) E) (w : W) (more : List ℕ) →
    IsCodec part spelling Fits → (v : V) → Fits v →
    ((p : ℕ) → others (v, record { left = more; at = p }) ≡ Ok (w, record { left = more; at = p })) →
    Ends (part (record { left = spelling v ++ more; at = at }) >>= others) w more
last at others w more codec v fits h = first more at others w more codec v fits (λ p. (p, h p))

-- a part that is put under a name
abbrev pub named : {V W E : Type 0} → (V → W) → V × Rest → Result (W × Rest) E
named name v = Ok (name v.0, v.1)

pub put_under : {V W E : Type 0} (part : Rest → Result (V × Rest) E) (spelling : V → List ℕ) (Fits : V → Type 0) (i : Rest)
    (name : V → W) (w : W) (j : Rest) →
    IsCodec part spelling Fits → IsBytes i.left → (part i >>= named name) ≡ Ok (w, j) →
    (v : V) × (name v ≡ w) × Fits v × (i.left ≡ spelling v ++ j.left)
put_under {W = W} part spelling Fits i name w j codec bytes e =
    let a = step part spelling Fits i (named name) (w, j) codec bytes e in
    let both = ok_is (name a.0.0, a.0.1) (w, j) a.2 in
    let value : name a.0.0 ≡ w = ap (λ (p : W × Rest). p.0) both in
    let rest : a.0.1.left ≡ j.left = ap (λ (p : W × Rest). p.1.left) both in
    (a.0.0, value, a.1.fits, a.1.front ∙ ap (λ (t : List ℕ). spelling a.0.0 ++ t) rest)
