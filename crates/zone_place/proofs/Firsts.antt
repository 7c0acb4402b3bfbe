-- The first of the drives, as the code finds it.
use Rattle.std.proofs.Common.{◌≡◌, Bool, true, false, Option, Some, None, refl, arith, inl, inr}
use Rattle.std.specs.Prelude.{if◌then◌else◌}
use Rattle.std.proofs.lemmas.Bool.{cases_Bool}
use Rattle.std.proofs.lemmas.Bool.Decides.{nat_tests}
use Rattle.zone_place.specs.declared.loads.ZoneLoad.{ZoneLoad}
use Rattle.zone_place.specs.Choosing.{comes_before, earlier}
use Rattle.zone_place.specs.Picking.{chosen_of}

-- of what was found and what is found behind, the first
abbrev pub first_from : Option ZoneLoad → Option ZoneLoad → Option ZoneLoad
first_from None o = o
first_from (Some l) o = earlier l o

pub before_all : (a b c : ZoneLoad) → comes_before a b ≡ true → comes_before b c ≡ true → comes_before a c ≡ true
before_all a b c p q = grind (arith, nat_tests)

not_before : (a b c : ZoneLoad) → comes_before a b ≡ false → comes_before b c ≡ false → comes_before a c ≡ false
not_before a b c p q = grind (arith, nat_tests)

pub first_more : (found : Option ZoneLoad) (l : ZoneLoad) (o : Option ZoneLoad) →
    first_from (chosen_of found l) o ≡ first_from found (earlier l o)
first_more None l o = refl
first_more (Some f) l None = elim (cases_Bool (comes_before f l)) [
  | inl p ↦ rw p refl
  | inr p ↦ rw p refl
]
first_more (Some f) l (Some m) = step (comes_before f l) (comes_before l m) refl refl
  where
    step : (fl lm : Bool) → comes_before f l ≡ fl → comes_before l m ≡ lm
        → first_from (if fl then Some f else Some l) (Some m) ≡ earlier f (if lm then Some l else Some m)
    step true true p q = rw (before_all f l m p q, p) refl
    step true false p q = refl
    step false true p q = rw (q, p) refl
    step false false p q = rw (q, not_before f l m p q) refl

pub first_none : (found : Option ZoneLoad) → first_from found None ≡ found
first_none None = refl
first_none (Some l) = refl
