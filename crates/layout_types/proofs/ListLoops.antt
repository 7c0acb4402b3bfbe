-- Reading and writing the members of a list one after another, as a loop does.
use Rattle.std.proofs.Common.{◌≡◌, ◌⊎◌, ℕ, suc, ◌-◌, ◌+◌, ◌≤◌, ◌<◌, List, [], ◌∷◌, ◌++◌, length, Result, Ok, Err, refl, sym, ap, ◌∙◌, append_assoc, arith, inl, inr}
use Rattle.std.specs.List.{AllByRecursion}
use Rattle.std.proofs.lemmas.List.{append-nil, length-append}
use Rattle.xdr_codec.specs.Reading.{Rest, ◌>>=◌}
use Rattle.layout_types.specs.declared.err.LayoutErr.{LayoutErr}
use Rattle.layout_types.specs.declared.err.LayoutErr.TheVariants.{Memory}
use Rattle.layout_types.specs.Grammar.{members}

-- what was read before, and what is still read
abbrev pub with_front : {V : Type 0} → List V → Result (List V × Rest) LayoutErr → Result (List V × Rest) LayoutErr
with_front front read = read >>= λ x. Ok (front ++ x.0, x.1)

-- the loop stands where reading from its place gives the whole
abbrev pub ReadSoFar : {V : Type 0} → (Rest → Result (V × Rest) LayoutErr) → List V → ℕ → Rest → ℕ → Rest → Type 0
ReadSoFar part front left i count whole = with_front front (members part left i) ≡ members part count whole

regroup : {V : Type 0} (front : List V) (v : V) (read : Result (List V × Rest) LayoutErr) →
    with_front front (read >>= λ x. Ok (v ∷ x.0, x.1)) ≡ with_front (front ++ v ∷ []) read
regroup {V = V} front v (Ok x) = ap (λ (vs : List V). Ok (vs, x.1)) (sym (append_assoc front (v ∷ []) x.0))
regroup front v (Err e) = refl

pub goes_on : {V : Type 0} (part : Rest → Result (V × Rest) LayoutErr) (front : List V) (count n : ℕ) (i whole : Rest) (v : V)
    (behind : Rest) → n < count → part i ≡ Ok (v, behind)
    → ReadSoFar part front (count - n) i count whole → ReadSoFar part (front ++ v ∷ []) (count - (n + 1)) behind count whole
unfolding members
goes_on part front count n i whole v behind lt read so_far =
    let k : count - n ≡ suc (count - (n + 1)) = omega arith in
    let one : with_front front (members part (count - n) i) ≡ with_front (front ++ v ∷ [])
    (members part (count - (n + 1)) behind) = rw (k, read) (regroup front v (members part (count - (n + 1)) behind)) in
    sym one ∙ so_far

pub ends : {V : Type 0} (part : Rest → Result (V × Rest) LayoutErr) (front : List V) (count n : ℕ) (i whole : Rest)
    (e : LayoutErr) → n < count → (e ≡ Memory) ⊎ (part i ≡ Err e)
    → ReadSoFar part front (count - n) i count whole → (e ≡ Memory) ⊎ (members part count whole ≡ Err e)
unfolding members
ends part front count n i whole e lt (inl memory) so_far = inl memory
ends part front count n i whole e lt (inr refused) so_far =
    let k : count - n ≡ suc (count - (n + 1)) = omega arith in
    let one : with_front front (members part (count - n) i) ≡ Err e = rw (k, refused) refl in
    inr (sym so_far ∙ one)

-- the members so far and those that are left are as many as the count, and each fits
abbrev pub FitSoFar : {V : Type 0} → (V → Type 0) → List V → ℕ → ℕ → Type 0
FitSoFar Fits front left count = (length front + left ≡ count) × AllByRecursion Fits front

one_more : {V : Type 0} (Fits : V → Type 0) (vs : List V) (v : V) → AllByRecursion Fits vs → Fits v →
    AllByRecursion Fits (vs ++ v ∷ [])
one_more Fits [] v fits last = (last, tt)
one_more Fits (w ∷ vs) v fits last = (fits.0, one_more Fits vs v fits.1 last)

pub fit_on : {V : Type 0} (Fits : V → Type 0) (front : List V) (count n : ℕ) (v : V) → n < count → Fits v →
    FitSoFar Fits front (count - n) count → FitSoFar Fits (front ++ v ∷ []) (count - (n + 1)) count
fit_on Fits front count n v lt last so_far =
    (omega (arith, so_far.0, length-append front (v ∷ [])), one_more Fits front v so_far.1 last)

pub all_fit : {V : Type 0} (Fits : V → Type 0) (front : List V) (count n : ℕ) → count ≤ n →
    FitSoFar Fits front (count - n) count → (length front ≡ count) × AllByRecursion Fits front
all_fit Fits front count n le so_far = (omega (arith, so_far.0), so_far.1)

pub is_done : {V : Type 0} (part : Rest → Result (V × Rest) LayoutErr) (front : List V) (count n : ℕ) (i whole : Rest) →
    count ≤ n → ReadSoFar part front (count - n) i count whole → members part count whole ≡ Ok (front, i)
unfolding members
is_done {V = V} part front count n i whole le so_far =
    let k : count - n ≡ 0 = omega arith in
    let one : with_front front (members part (count - n) i) ≡ Ok (front, i) =
    rw k (ap (λ (vs : List V). Ok (vs, i)) (append-nil front)) in
    sym so_far ∙ one
