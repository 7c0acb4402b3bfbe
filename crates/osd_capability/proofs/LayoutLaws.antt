-- What is read is spelled so, and what is spelled so is read.
use Rattle.std.proofs.Common.{◌≡◌, ℕ, ◌<◌, Bool, true, false, cond, eqb, not, List, [], ◌∷◌, length, get_or, take_all, drop, replicate, Option, None, Some, Result, Ok, Err, refl, sym, ◌∙◌, arith}
use Rattle.std.specs.Prelude.{IfOk, IsTrue, slice_range}
use Rattle.std.specs.Option.{option_or}
use Rattle.std.proofs.lemmas.List.{length-drop}
use Rattle.std.proofs.lemmas.Nat.{from_be_bytes-to_be_bytes_2, from_be_bytes-to_be_bytes_4, from_be_bytes-to_be_bytes_8}
use Rattle.std.proofs.lemmas.Bool.{eqb-true}
use Rattle.osd_lists.specs.Blocks.{first_nonzero, IsBytes}
use Rattle.osd_lists.proofs.BlockLaws.{next, zeros, option_or-none, IsBytes-range, number_16, number_32, number_64, below_16, below_32, below_64}
use Rattle.osd_capability.specs.declared.layout.Capability.{Capability}
use Rattle.osd_capability.specs.declared.layout.CapErr.{CapErr}
use Rattle.osd_capability.specs.declared.layout.CapErr.TheVariants.{Length, Format}
use Rattle.osd_capability.specs.Layout.{spelling, capability_at, stray, unless_reserved, reading, is_format, Fits}

guard_ok : (b : Bool) (f : CapErr) (r : Result Capability CapErr) (c : Capability) → cond (not b) (Err f) r ≡ Ok c →
    (b ≡ true) × (r ≡ Ok c)
guard_ok true f r c e = (refl, e)
guard_ok false f r c e = absurd cc

unless_reserved_ok : (o : Option ℕ) (x c : Capability) → unless_reserved o x ≡ Ok c → (o ≡ None) × (x ≡ c)
unless_reserved_ok None x c e = (refl, cc)
unless_reserved_ok (Some at) x c e = absurd cc

record IsRead (bytes : List ℕ) : Type 0 where
  pub long : length bytes ≡ 96
  pub format : is_format (get_or bytes 0 0) ≡ true
  pub one : slice_range bytes 1 2 ≡ replicate 1 0
  pub four : slice_range bytes 28 32 ≡ replicate 4 0
  pub last : slice_range bytes 64 96 ≡ replicate 32 0

read_ok : (bytes : List ℕ) (c : Capability) → reading bytes ≡ Ok c → IsRead bytes × (capability_at bytes ≡ c)
unfolding reading stray
read_ok bytes c e =
    let a = guard_ok (eqb (length bytes) 96) Length _ c e in
    let b = guard_ok (is_format (get_or bytes 0 0)) Format _ c a.1 in
    let d = unless_reserved_ok (stray bytes) (capability_at bytes) c b.1 in
    let front = option_or-none (option_or (first_nonzero bytes 1 2) (first_nonzero bytes 28 32))
    (first_nonzero bytes 64 96) d.0 in
    let two = option_or-none (first_nonzero bytes 1 2) (first_nonzero bytes 28 32) front.0 in
    let long : length bytes ≡ 96 = eqb-true _ _ a.0 in (
      record {
        long = long;
        format = b.0;
        one = zeros bytes 1 2 (omega arith) (omega arith) two.0;
        four = zeros bytes 28 32 (omega arith) (omega arith) two.1;
        last = zeros bytes 64 96 (omega arith) (omega arith) front.1;
      },
      d.1,
    )

first : (xs : List ℕ) → 0 < length xs → get_or xs 0 0 ∷ [] ≡ slice_range xs 0 1
first [] h = absurd (omega arith)
first (x ∷ xs) h = refl

spelled : (bytes : List ℕ) → IsBytes bytes → IsRead bytes → spelling (capability_at bytes) ≡ bytes
unfolding spelling capability_at
spelled bytes fits h =
    let long = h.long in
    next bytes 0 1 _ _ (omega arith) (first bytes (omega arith))
    (next bytes 1 2 _ _ (omega arith) (sym h.one)
    (next bytes 2 4 _ _ (omega arith) (number_16 bytes 2 4 fits refl (omega arith))
    (next bytes 4 8 _ _ (omega arith) (number_32 bytes 4 8 fits refl (omega arith))
    (next bytes 8 16 _ _ (omega arith) (number_64 bytes 8 16 fits refl (omega arith))
    (next bytes 16 20 _ _ (omega arith) (number_32 bytes 16 20 fits refl (omega arith))
    (next bytes 20 24 _ _ (omega arith) (number_32 bytes 20 24 fits refl (omega arith))
    (next bytes 24 28 _ _ (omega arith) (number_32 bytes 24 28 fits refl (omega arith))
    (next bytes 28 32 _ _ (omega arith) (sym h.four)
    (next bytes 32 40 _ _ (omega arith) (number_64 bytes 32 40 fits refl (omega arith))
    (next bytes 40 48 _ _ (omega arith) (number_64 bytes 40 48 fits refl (omega arith))
    (next bytes 48 56 _ _ (omega arith) (number_64 bytes 48 56 fits refl (omega arith))
    (next bytes 56 64 _ _ (omega arith) (number_64 bytes 56 64 fits refl (omega arith))
    (sym h.last ∙ take_all 32 (drop 64 bytes) (omega (arith, length-drop 64 bytes)))))))))))))))

fits_at : (bytes : List ℕ) → IsBytes bytes → IsTrue (is_format (get_or bytes 0 0)) → Fits (capability_at bytes)
unfolding capability_at
fits_at bytes fits e = record {
  format = e;
  key_version = below_16 _ (IsBytes-range bytes 2 4 fits);
  rights = below_32 _ (IsBytes-range bytes 4 8 fits);
  expiry = below_64 _ (IsBytes-range bytes 8 16 fits);
  grant = below_32 _ (IsBytes-range bytes 16 20 fits);
  holder = below_32 _ (IsBytes-range bytes 20 24 fits);
  tag = below_32 _ (IsBytes-range bytes 24 28 fits);
  partition = below_64 _ (IsBytes-range bytes 32 40 fits);
  object = below_64 _ (IsBytes-range bytes 40 48 fits);
  range_start = below_64 _ (IsBytes-range bytes 48 56 fits);
  range_len = below_64 _ (IsBytes-range bytes 56 64 fits);
}

pub reading-found : (bytes : List ℕ) (r : Result Capability CapErr) → IsBytes bytes → r ≡ reading bytes →
    IfOk r (λ c. Fits c × (bytes ≡ spelling c))
reading-found bytes (Ok c) fits e =
    let h = read_ok bytes c (sym e) in
    rw (← h.1) (fits_at bytes fits h.0.format, sym (spelled bytes fits h.0))
reading-found bytes (Err f) fits e = tt

-- what is spelled so is read
pub reading-spelling : (c : Capability) → Fits c → reading (spelling c) ≡ Ok c
unfolding reading spelling stray capability_at
reading-spelling c h =
    rw (
      h.format,
      from_be_bytes-to_be_bytes_2 c.key_version h.key_version,
      from_be_bytes-to_be_bytes_4 c.rights h.rights,
      from_be_bytes-to_be_bytes_8 c.expiry h.expiry,
      from_be_bytes-to_be_bytes_4 c.grant h.grant,
      from_be_bytes-to_be_bytes_4 c.holder h.holder,
      from_be_bytes-to_be_bytes_4 c.tag h.tag,
      from_be_bytes-to_be_bytes_8 c.partition h.partition,
      from_be_bytes-to_be_bytes_8 c.object h.object,
      from_be_bytes-to_be_bytes_8 c.range_start h.range_start,
      from_be_bytes-to_be_bytes_8 c.range_len h.range_len,
    ) refl

pub length-spelling : (c : Capability) → length (spelling c) ≡ 96
unfolding spelling
length-spelling c = refl

pub spelling-format : (c : Capability) → get_or (spelling c) 0 0 ≡ c.format
unfolding spelling
spelling-format c = refl
