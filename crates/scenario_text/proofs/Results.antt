-- What an answer that is a value shows.
use Rattle.std.proofs.Common.{◌≡◌, ℕ, List, [], ◌∷◌, Result, Ok, Err, refl}
use Rattle.scenario_text.specs.declared.event.EventErr.{EventErr}
use Rattle.scenario_text.specs.Reading.{◌>>=◌, first, after, nothing}

-- what an `Ok` after `>>=` shows
pub bind_ok : {A B : Type 0} (r : Result A EventErr) (f : A → Result B EventErr) (y : B)
    → (r >>= f) ≡ Ok y → (x : A) × (r ≡ Ok x) × (f x ≡ Ok y)
bind_ok (Ok x) f y h = (x, refl, h)
bind_ok (Err e) f y h = cc h

abbrev pub good : {A : Type 0} → A → Result A EventErr
good x = Ok x

pub good_same : {A : Type 0} (x y : A) → good x ≡ good y → x ≡ y
good_same x y h = cc h

pub first_ok : (words : List (List ℕ)) (word : List ℕ) → first words ≡ Ok word → words ≡ word ∷ after words
first_ok [] word h = cc h
first_ok (w ∷ words) word h = cc h

pub end_ok : (words : List (List ℕ)) (u : Unit {0}) → nothing words ≡ Ok u → words ≡ []
end_ok [] u h = refl
end_ok (w ∷ words) u h = cc h
