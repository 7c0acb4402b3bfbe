-- A layout that was read has a map of a known algorithm.
use Rattle.std.proofs.Common.{◌≡◌, ℕ, List, refl, sym, arith}
use Rattle.std.specs.Prelude.{Option, Some, None, Result, Ok, Err}
use Rattle.std.proofs.lemmas.Bool.Decides.{nat_tests}
use Rattle.data_map.specs.Check.{HasAlgorithm, IsAlgorithm}
use Rattle.xdr_codec.specs.Reading.{Rest, ◌>>=◌, end_of}
use Rattle.layout_types.specs.declared.err.LayoutErr.{LayoutErr}
use Rattle.layout_types.specs.declared.layout.Layout.{Layout}
use Rattle.layout_types.specs.Enumerations.{algorithm_of}
use Rattle.layout_types.specs.Grammar.{named, u32_part, u64_part, enum_part, list_part, lifted, whole}
use Rattle.layout_types.specs.Reading.{map_in, cred_in, layout_in}
use Rattle.client_rules.specs.State.{RawMap}

-- where both steps gave a value, the first did
second : {A B : Type 0} (x : Result A LayoutErr) (f : A → Result B LayoutErr) (y : B) → (x >>= f) ≡ Ok y → (a : A) × (f a ≡ Ok y)
second (Ok a) f y e = (a, e)
second (Err z) f y e = absurd (cc e)

-- and both values are known
both : {A B : Type 0} (x : Result A LayoutErr) (f : A → Result B LayoutErr) (y : B) → (x >>= f) ≡ Ok y →
    (a : A) × (x ≡ Ok a) × (f a ≡ Ok y)
both (Ok a) f y e = (a, refl, e)
both (Err z) f y e = absurd (cc e)

-- a value that was read
abbrev pub given : {A : Type 0} → A → Result A LayoutErr
given v = Ok v

-- what holds of a value holds of the one that it was given as
pub holds : {A : Type 0} (P : A → Type 0) (v x : A) → P v → given v ≡ given x → P x
holds P v x p e = let same : v ≡ x = cc e in rw same at p

algorithm_known : (n v : ℕ) → algorithm_of n ≡ Some v → IsAlgorithm v
algorithm_known n v e = grind (arith, nat_tests, e)

named_known : (at : ℕ) (n : ℕ × Rest) (o : Option ℕ) (x : ℕ × Rest) → algorithm_of n.0 ≡ o → named at n o ≡ Ok x → IsAlgorithm x.0
named_known at n None x known e = absurd (cc e)
named_known at n (Some v) x known e = let same : v ≡ x.0 = cc e in rw (sym same) (algorithm_known n.0 v known)

enum_known : (i : Rest) (x : ℕ × Rest) → enum_part algorithm_of i ≡ Ok x → IsAlgorithm x.0
unfolding enum_part
enum_known i x e = let n = second (u32_part i) _ x e in named_known i.at n.0 _ x refl n.1

map_known : (i : Rest) (x : RawMap × Rest) → map_in i ≡ Ok x → HasAlgorithm x.0
unfolding map_in
map_known i x e =
    let comps = second (u32_part i) _ x e in
    let unit = second (u64_part comps.0.1) _ x comps.1 in
    let width = second (u32_part unit.0.1) _ x unit.1 in
    let depth = second (u32_part width.0.1) _ x width.1 in
    let mirrors = second (u32_part depth.0.1) _ x depth.1 in
    let algorithm = both (enum_part algorithm_of mirrors.0.1) _ x mirrors.1 in
    holds (λ (y : RawMap × Rest). HasAlgorithm y.0) _ x (enum_known mirrors.0.1 algorithm.0 algorithm.1) algorithm.2

layout_known : (i : Rest) (x : Layout × Rest) → layout_in i ≡ Ok x → HasAlgorithm x.0.olo_map
unfolding layout_in
layout_known i x e =
    let m = both (map_in i) _ x e in
    let index = second (u32_part m.0.1) _ x m.2 in
    let components = second (list_part cred_in index.0.1) _ x index.1 in
    holds (λ (y : Layout × Rest). HasAlgorithm y.0.olo_map) _ x (map_known i m.0 m.1) components.1

pub whole_known : (bytes : List ℕ) (l : Layout) → whole layout_in bytes ≡ Ok l → HasAlgorithm l.olo_map
unfolding whole
whole_known bytes l e =
    let v = both (layout_in (record { left = bytes; at = 0 })) _ l e in
    let end = second (lifted (end_of v.0.1)) _ l v.2 in
    holds (λ (y : Layout). HasAlgorithm y.olo_map) _ l (layout_known (record { left = bytes; at = 0 }) v.0 v.1) end.1
