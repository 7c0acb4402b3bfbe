-- The key of a table of a cluster text, and what follows one after the other.
use Rattle.std.proofs.Common.{◌≡◌, refl}
use Rattle.std.specs.Prelude.{ℕ, Bool, true, false, not, ◌&&◌, List, Option, Some, None, is_some, is_none}
use Rattle.std.specs.Result.{result_ok}
use Rattle.hex.specs.Hex.{decode_sized}
use Rattle.cluster_text.specs.Fields.{◌>>=◌, key_of}

-- both are there if the second is
pub bound : {A B : Type 0} (o : Option A) (f : A → Option B) (y : B) → (o >>= f) ≡ Some y →
    (x : A) × (o ≡ Some x) × (f x ≡ Some y)
bound (Some x) f y h = (x, refl, h)
bound None f y h = cc h

-- a key that is spelled and can be read is there
pub key_there : (digits : Option (List ℕ)) (key : Option (List ℕ)) → is_none digits ≡ false → key_of digits ≡ Some key →
    is_some key ≡ true
key_there None key there h = cc there
key_there (Some digits) key there h =
    let a = bound (result_ok (decode_sized digits 20)) (λ k. Some (Some k)) key h in
    let same : Some a.0 ≡ key = cc a.2 in rw (← same) refl

-- a key that is there and isn't of another type is a text
pub has_text : (there none : Bool) → not there ≡ false → (there && none) ≡ false → none ≡ false
has_text true none there h = h
has_text false none there h = cc there
