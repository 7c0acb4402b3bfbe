-- The reading of positions, one after another.
use Rattle.std.proofs.Common.{◌≡◌, ℕ, ◌+◌, List, [], ◌∷◌, ◌++◌, length, Result, Ok, Err, refl, sym, ap, subst, ◌∙◌, arith}
use Rattle.std.specs.Prelude.{⊤}
use Rattle.std.proofs.lemmas.List.{append_assoc, append-nil}
use Rattle.scenario_text.specs.declared.event.EventErr.{EventErr}
use Rattle.scenario_text.specs.Reading.{◌>>=◌, after, nothing, next_as, number_of, rising_of}

-- some numbers before those of a reading
abbrev pub prepend : List ℕ → Result (List ℕ) EventErr → Result (List ℕ) EventErr
prepend before (Ok ps) = Ok (before ++ ps)
prepend before (Err e) = Err e

prepend_more : (before : List ℕ) (p : ℕ) (r : Result (List ℕ) EventErr) →
    prepend (before ++ p ∷ []) r ≡ prepend before (prepend (p ∷ []) r)
prepend_more before p (Ok ps) = ap Ok (append_assoc before (p ∷ []) ps)
prepend_more before p (Err e) = refl

bind_is_prepend : (p : ℕ) (r : Result (List ℕ) EventErr) → (r >>= (λ ps. Ok (p ∷ ps))) ≡ prepend (p ∷ []) r
bind_is_prepend p (Ok ps) = refl
bind_is_prepend p (Err e) = refl

rising_step : (least : ℕ) (parts : List (List ℕ)) (p : ℕ) → next_as (number_of least 4294967295) parts ≡ Ok p
    → rising_of least parts ≡ prepend (p ∷ []) (rising_of (p + 1) (after parts))
unfolding rising_of
rising_step least [] p h = cc h
rising_step least (word ∷ parts) p h = rw h (bind_is_prepend p (rising_of (p + 1) parts))

pub positions_step : (all : Result (List ℕ) EventErr) (before : List ℕ) (least p : ℕ) (parts : List (List ℕ))
    → all ≡ prepend before (rising_of least parts) → next_as (number_of least 4294967295) parts ≡ Ok p
    → all ≡ prepend (before ++ p ∷ []) (rising_of (p + 1) (after parts))
positions_step all before least p parts h read =
    h ∙ ap (prepend before) (rising_step least parts p read) ∙ sym (prepend_more before p (rising_of (p + 1) (after parts)))

rising_err : (least : ℕ) (parts : List (List ℕ)) (e : EventErr) → (parts ≡ [] → ⊥) →
    next_as (number_of least 4294967295) parts ≡ Err e
    → rising_of least parts ≡ Err e
unfolding rising_of
rising_err least [] e some h = absurd (some refl)
rising_err least (word ∷ parts) e some h = rw h refl

pub positions_err : (all : Result (List ℕ) EventErr) (before : List ℕ) (least : ℕ) (parts : List (List ℕ)) (e : EventErr)
    → all ≡ prepend before (rising_of least parts) → (parts ≡ [] → ⊥) → next_as (number_of least 4294967295) parts ≡ Err e →
    all ≡ Err e
positions_err all before least parts e h some read = h ∙ ap (prepend before) (rising_err least parts e some read)

pub positions_done : (all : Result (List ℕ) EventErr) (before : List ℕ) (least : ℕ) (parts : List (List ℕ))
    → all ≡ prepend before (rising_of least parts) → parts ≡ [] → all ≡ Ok before
unfolding rising_of
positions_done all before least [] h e = h ∙ ap Ok (append-nil before)
positions_done all before least (word ∷ parts) h e = cc e

abbrev is_fine : {A : Type 0} → Result A EventErr → Type 0
is_fine (Ok x) = ⊤
is_fine (Err e) = ⊥

pub not_empty : (words : List (List ℕ)) (e : EventErr) → nothing words ≡ Err e → words ≡ [] → ⊥
not_empty [] e h is = subst is_fine h tt
not_empty (word ∷ words) e h is = absurd (omega (arith, ap length is))
