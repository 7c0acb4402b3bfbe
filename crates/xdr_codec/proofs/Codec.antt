-- A reading function and a spelling that are each other's inverse.
use Rattle.std.proofs.Common.{◌≡◌, ℕ, List, ◌++◌, Result, Ok}
use Rattle.osd_lists.specs.Blocks.{IsBytes}
use Rattle.xdr_codec.specs.Reading.{Rest}

pub record IsCodec {V E : Type 0} (reading : Rest → Result (V × Rest) E) (spelling : V → List ℕ)
    (Fits : V → Type 0) : Type 0 where
  -- what is spelled so is read, whatever follows it
  pub again : (v : V) (more : List ℕ) (at : ℕ) → Fits v →
      (end : ℕ) × (reading (record { left = spelling v ++ more; at = at }) ≡ Ok (v, record { left = more; at = end }))
  -- what is read is spelled so
  pub found : (i : Rest) (v : V) (j : Rest) → IsBytes i.left → reading i ≡ Ok (v, j) → Fits v × (i.left ≡ spelling v ++ j.left)
