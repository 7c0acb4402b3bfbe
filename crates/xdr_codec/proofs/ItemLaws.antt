-- Reading an item and spelling it are each other's inverse.
use Rattle.std.proofs.Common.{◌≡◌, ◌⊎◌, ℕ, ℤ, ◌+◌, ◌-◌, ◌<◌, ◌≤◌, ◌^◌, Bool, true, false, cond, eqb, ltb, List, [], ◌++◌, length, get_or, take, drop, replicate, Option, None, Some, Result, Ok, Err, refl, sym, ap, subst, ◌∙◌, append_assoc, arith, inl, inr, FitsSigned}
use Rattle.std.specs.Prelude.{OnOk, slice_range, ⊤}
use Rattle.std.proofs.Math.Facts.{Fits-of_z, sfits_to_z}
use Rattle.std.specs.Int.{Width, byte_len, w32, w64, from_be_bytes, to_be_bytes, cast_signed, cast_unsigned}
use Rattle.std.proofs.lemmas.Bool.{eqb-true, ltb-false, le-ltb}
use Rattle.std.proofs.lemmas.Int.{of_z-to_z, to_z-of_z}
use Rattle.std.proofs.lemmas.List.{take-append-drop, take_at, drop_at, length-append, length-take, length-replicate, get_or-append_right}
use Rattle.std.proofs.lemmas.Nat.{be_bytes_4, be_bytes_8, from_be_bytes-to_be_bytes_4, from_be_bytes-to_be_bytes_8}
use Rattle.osd_lists.specs.Blocks.{IsBytes, first_nonzero}
use Rattle.osd_lists.proofs.BlockLaws.{length-range, zeros, first_nonzero-zeros, IsBytes-range, below_32, below_64, next}
use Rattle.osd_lists.proofs.Options.{guard_ok}
use Rattle.xdr_codec.specs.declared.err.XdrErr.{XdrErr}
use Rattle.xdr_codec.specs.declared.err.XdrErr.TheVariants.{BadBool, TooMany}
use Rattle.xdr_codec.specs.Items.{padded, u32_item, u64_item, i64_item, bool_item, fixed_item, opaque_item}
use Rattle.xdr_codec.proofs.Codec.{IsCodec}
use Rattle.xdr_codec.specs.Reading.{number_in, Rest, behind, ◌>>=◌, u32_in, u64_in, i64_in, bool_in, count_in, body_in, unless_padding, fixed_in, opaque_in, Reads, ReadsInto, ReadsOrMemory, IsFront, TakesFront, TakesFrontOrMemory}

-- ---- steps

-- the value of a first step that was not refused
pub bind_ok : {A B E : Type 0} (r : Result A E) (f : A → Result B E) (y : B) → (r >>= f) ≡ Ok y →
    (x : A) × (r ≡ Ok x) × (f x ≡ Ok y)
bind_ok (Ok x) f y e = (x, refl, e)
bind_ok (Err d) f y e = absurd cc

abbrev done : {A E : Type 0} → A → Result A E
done x = Ok x

pub ok_is : {A E : Type 0} (x y : A) → done {E = E} x ≡ Ok y → x ≡ y
ok_is x y e = cc

-- which way a test went
pub chosen : {R : Type 0} (b : Bool) (x y z : R) → cond b x y ≡ z → ((b ≡ true) × (x ≡ z)) ⊎ ((b ≡ false) × (y ≡ z))
chosen true x y z e = inl (refl, e)
chosen false x y z e = inr (refl, e)

abbrev failed : {A E : Type 0} → E → Result A E
failed d = Err d

pub err_is_not : {A E : Type 0} (d : E) (x : A) → failed d ≡ Ok x → ⊥
err_is_not d x e = cc

pub rest_fits : (xs ys zs : List ℕ) → IsBytes xs → xs ≡ ys ++ zs → IsBytes zs
rest_fits xs ys zs fits e i =
    let at : (length ys + i) - length ys ≡ i = omega arith in
    let there : get_or (ys ++ zs) (length ys + i) 0 ≡ get_or zs i 0 =
    get_or-append_right ys zs (length ys) (length ys + i) 0 refl (omega arith) ∙ ap (λ (k : ℕ). get_or zs k 0) at in
    rw (← there, ← e) (fits (length ys + i))

-- ---- numbers

-- what the widths of 32 and 64 bits have in common
record IsWide (w : Width) (limit : ℕ) : Type 0 where
  pub len : (n : ℕ) → length (to_be_bytes w n) ≡ byte_len w
  pub back : (bytes : List ℕ) → length bytes ≡ byte_len w → IsBytes bytes → to_be_bytes w (from_be_bytes w bytes) ≡ bytes
  pub again : (n : ℕ) → n < limit → from_be_bytes w (to_be_bytes w n) ≡ n
  pub below : (bytes : List ℕ) → IsBytes bytes → from_be_bytes w bytes < limit

wide_32 : IsWide w32 (2 ^ 32)
wide_32 = record {
  len = λ n. refl;
  back = λ bytes len fits. be_bytes_4 bytes _ len fits refl;
  again = λ n lt. from_be_bytes-to_be_bytes_4 n lt;
  below = λ bytes fits. below_32 bytes fits;
}

wide_64 : IsWide w64 (2 ^ 64)
wide_64 = record {
  len = λ n. refl;
  back = λ bytes len fits. be_bytes_8 bytes _ len fits refl;
  again = λ n lt. from_be_bytes-to_be_bytes_8 n lt;
  below = λ bytes fits. below_64 bytes fits;
}

number_again : (w : Width) (limit : ℕ) → IsWide w limit → (n : ℕ) (more : List ℕ) (at : ℕ) → n < limit →
    number_in w (record { left = to_be_bytes w n ++ more; at = at }) ≡ Ok (n, record { left = more; at = at + byte_len w })
number_again w limit wide n more at fits =
    let len = wide.len n in
    let long : ltb (length (to_be_bytes w n ++ more)) (byte_len w) ≡ false =
    le-ltb _ _ (omega (arith, length-append (to_be_bytes w n) more)) in
    rw (long, take_at (to_be_bytes w n) more (byte_len w) len, drop_at (to_be_bytes w n) more (byte_len w) len, wide.again n fits)
    refl

number_found : (w : Width) (limit : ℕ) → IsWide w limit → (i : Rest) (n : ℕ) (j : Rest) → IsBytes i.left →
    number_in w i ≡ Ok (n, j) → (n < limit) × (i.left ≡ to_be_bytes w n ++ j.left)
number_found w limit wide i n j fits e =
    let g = guard_ok (ltb (length i.left) (byte_len w)) _ _ (n, j) e in
    let long : byte_len w ≤ length i.left = ltb-false _ _ g.0 in
    let whole : byte_len w - 0 ≡ byte_len w = omega arith in
    let both = ok_is (from_be_bytes w (take (byte_len w) i.left), behind (byte_len w) i) (n, j) g.1 in
    let number : from_be_bytes w (take (byte_len w) i.left) ≡ n = ap (λ (p : ℕ × Rest). p.0) both in
    let rest : drop (byte_len w) i.left ≡ j.left = ap (λ (p : ℕ × Rest). p.1.left) both in
    let front_fits : IsBytes (take (byte_len w) i.left) =
    subst (λ (k : ℕ). IsBytes (take k i.left)) whole (IsBytes-range i.left 0 (byte_len w) fits) in
    let front : to_be_bytes w n ≡ take (byte_len w) i.left =
    rw (← number) (wide.back (take (byte_len w) i.left) (omega (arith, length-take (byte_len w) i.left)) front_fits) in (
      rw (← number) (wide.below (take (byte_len w) i.left) front_fits),
      rw (front, ← rest) (sym (take-append-drop (byte_len w) i.left)),
    )

pub u32_codec : IsCodec u32_in u32_item (λ n. n < 2 ^ 32)
unfolding u32_in u32_item
u32_codec = record {
  again = λ n more at fits. (at + 4, number_again w32 (2 ^ 32) wide_32 n more at fits);
  found =
      number_found w32 (2 ^ 32) wide_32;
}

pub u64_codec : IsCodec u64_in u64_item (λ n. n < 2 ^ 64)
unfolding u64_in u64_item
u64_codec = record {
  again = λ n more at fits. (at + 8, number_again w64 (2 ^ 64) wide_64 n more at fits);
  found =
      number_found w64 (2 ^ 64) wide_64;
}

pub i64_codec : IsCodec i64_in i64_item (FitsSigned w64)
unfolding i64_in i64_item
i64_codec = record {
  again = λ z more at fits.
      let a = u64_codec.again (cast_unsigned w64 z) more at (Fits-of_z fits).fits in
      (a.0, rw (a.1, to_z-of_z w64 z fits) refl);
  found = λ i z j fits e.
      let b = bind_ok (u64_in i) (λ n. Ok (cast_signed w64 n.0, n.1)) (z, j) e in
      let f = u64_codec.found i b.0.0 b.0.1 fits b.1 in
      let both = ok_is (cast_signed w64 b.0.0, b.0.1) (z, j) b.2 in
      subst (λ (p : ℤ × Rest). FitsSigned w64 p.0 × (i.left ≡ i64_item p.0 ++ p.1.left)) both
      (sfits_to_z (record { fits = f.0 }), rw (of_z-to_z w64 b.0.0 f.0) f.1);
}

bool_again : (b : Bool) (more : List ℕ) (at : ℕ) →
    (end : ℕ) × (bool_in (record { left = bool_item b ++ more; at = at }) ≡ Ok (b, record { left = more; at = end }))
unfolding bool_in
bool_again false more at = let a = u32_codec.again 0 more at (omega arith) in (a.0, rw a.1 refl)
bool_again true more at = let a = u32_codec.again 1 more at (omega arith) in (a.0, rw a.1 refl)

bool_chosen : (i : Rest) (n : ℕ) (x : Rest) (at : ℕ) (v : Bool) (j : Rest) → i.left ≡ u32_item n ++ x.left →
    cond {A = Result (Bool × Rest) XdrErr} (eqb n 0) (Ok (false, x)) (cond (eqb n 1) (Ok (true, x)) (Err (BadBool at))) ≡ Ok
    (v, j) → i.left ≡ bool_item v ++ j.left
bool_chosen i n x at v j f e =
    elim (chosen (eqb n 0) _ _ _ e) [
      | inl p ↦ let both = ok_is (false, x) (v, j) p.1 in
          subst (λ (q : Bool × Rest). i.left ≡ bool_item q.0 ++ q.1.left) both (rw (eqb-true _ _ p.0) at f)
      | inr p ↦
          elim (chosen (eqb n 1) _ _ _ p.1) [
            | inl q ↦ let both = ok_is (true, x) (v, j) q.1 in
                subst (λ (q : Bool × Rest). i.left ≡ bool_item q.0 ++ q.1.left) both (rw (eqb-true _ _ q.0) at f)
            | inr q ↦ absurd (err_is_not _ _ q.1)
          ]
    ]

pub bool_codec : IsCodec bool_in bool_item (λ b. ⊤)
unfolding bool_in
bool_codec = record {
  again = λ b more at fits. bool_again b more at;
  found = λ i v j fits e.
      let b = bind_ok (u32_in i)
      (λ n. cond {A = Result (Bool × Rest) XdrErr} (eqb n.0 0) (Ok (false, n.1))
      (cond (eqb n.0 1) (Ok (true, n.1)) (Err (BadBool i.at)))) (v, j) e in
      let f = u32_codec.found i b.0.0 b.0.1 fits b.1 in
      (tt, bool_chosen i b.0.0 b.0.1 i.at v j f.1 b.2);
}

pub count_codec : (most : ℕ) → most < 2 ^ 32 → IsCodec (count_in most) u32_item (λ n. n ≤ most)
unfolding count_in
count_codec most small = record {
  again = λ n more at fits. let a = u32_codec.again n more at (omega arith) in (a.0, rw (a.1, le-ltb most n fits) refl);
  found = λ i n j fits e.
      let b = bind_ok (u32_in i) (λ n. cond (ltb most n.0) (Err (TooMany i.at)) (Ok n)) (n, j) e in
      let f = u32_codec.found i b.0.0 b.0.1 fits b.1 in
      let g = guard_ok (ltb most b.0.0) _ _ (n, j) b.2 in
      let both = ok_is b.0 (n, j) g.1 in
      subst (λ (p : ℕ × Rest). (p.0 ≤ most) × (i.left ≡ u32_item p.0 ++ p.1.left)) both (ltb-false _ _ g.0, f.1);
}

-- ---- bytes

slice_at : (head field more : List ℕ) (a b : ℕ) → length head ≡ a → a + length field ≡ b →
    slice_range (head ++ (field ++ more)) a b ≡ field
slice_at head field more a b p q =
    let width : b - a ≡ length field = omega arith in
    rw (drop_at head (field ++ more) a p, take_at field more (b - a) (sym width)) refl

behind_at : (head field more : List ℕ) (b : ℕ) → length head + length field ≡ b → drop b (head ++ (field ++ more)) ≡ more
behind_at head field more b p =
    rw (sym (append_assoc head field more)) (drop_at (head ++ field) more b (length-append head field ∙ p))

abbrev filler : ℕ → List ℕ
filler n = replicate (padded n - n) 0

body_again : (head body more : List ℕ) (start at : ℕ) → length head ≡ start →
    body_in start (length body) (record { left = head ++ ((body ++ filler (length body)) ++ more); at = at }) ≡ Ok
    (body, record { left = more; at = at + (start + padded (length body)) })
unfolding body_in
body_again head body more start at p =
    let n : ℕ = length body in
    let zeros : List ℕ = filler n in
    let fill : length zeros ≡ padded n - n = length-replicate {A = ℕ} (padded n - n) 0 in
    let grows : n ≤ padded n = omega arith in
    let left : List ℕ = head ++ ((body ++ zeros) ++ more) in
    let same : left ≡ head ++ (body ++ (zeros ++ more)) = ap (λ (t : List ℕ). head ++ t) (append_assoc body zeros more) in
    let twice : left ≡ (head ++ body) ++ (zeros ++ more) = same ∙ sym (append_assoc head body (zeros ++ more)) in
    let size : length left ≡ start + (padded n + length more) =
    omega (
      arith,
      length-append head ((body ++ zeros) ++ more),
      length-append (body ++ zeros) more,
      length-append body zeros,
    ) in
    let long : ltb (length left) (start + padded n) ≡ false = le-ltb _ _ (omega arith) in
    let front : slice_range left start (start + n) ≡ body =
    rw same (slice_at head body (zeros ++ more) start (start + n) p refl) in
    let filled : slice_range left (start + n) (start + padded n) ≡ replicate (padded n - n) 0 =
    rw twice (slice_at (head ++ body) zeros more (start + n) (start + padded n) (omega (arith, length-append head body))
    (omega arith)) in
    let none = first_nonzero-zeros left (start + n) (start + padded n) (padded n - n) filled in
    let rest : drop (start + padded n) left ≡ more =
    behind_at head (body ++ zeros) more (start + padded n) (omega (arith, length-append body zeros)) in
    rw (long, none, front, rest) refl

unless_padding_ok : (at : ℕ) (o : Option ℕ) (x y : List ℕ × Rest) → unless_padding at o x ≡ Ok y → (o ≡ None) × (x ≡ y)
unless_padding_ok at None x y e = (refl, cc)
unless_padding_ok at (Some k) x y e = absurd cc

body_found : (i : Rest) (start n : ℕ) (v : List ℕ) (j : Rest) → body_in start n i ≡ Ok (v, j) →
    (length v ≡ n) × ((v ++ filler n) ++ j.left ≡ drop start i.left)
unfolding body_in
body_found i start n v j e =
    let g = guard_ok (ltb (length i.left) (start + padded n)) _ _ (v, j) e in
    let long : start + padded n ≤ length i.left = ltb-false _ _ g.0 in
    let grows : n ≤ padded n = omega arith in
    let u = unless_padding_ok i.at (first_nonzero i.left (start + n) (start + padded n))
    (slice_range i.left start (start + n), behind (start + padded n) i) (v, j) g.1 in
    let value : slice_range i.left start (start + n) ≡ v = ap (λ (p : List ℕ × Rest). p.0) u.1 in
    let rest : drop (start + padded n) i.left ≡ j.left = ap (λ (p : List ℕ × Rest). p.1.left) u.1 in
    let width : (start + padded n) - (start + n) ≡ padded n - n = omega arith in
    let filled : filler n ≡ slice_range i.left (start + n) (start + padded n) =
    sym (zeros i.left (start + n) (start + padded n) (omega arith) long u.0 ∙ ap (λ (k : ℕ). replicate k 0) width) in
    let behind_body : filler n ++ j.left ≡ drop (start + n) i.left =
    next i.left (start + n) (start + padded n) (filler n) j.left (omega arith) filled (sym rest) in (
      rw (← value) (length-range i.left start (start + n) (omega arith) (omega arith) ∙ omega arith),
      append_assoc v (filler n) j.left
          ∙ next i.left start (start + n) v (filler n ++ j.left) (omega arith) (sym value) behind_body,
    )

pub fixed_codec : (n : ℕ) → IsCodec (fixed_in n) fixed_item (λ v. length v ≡ n)
unfolding fixed_item
fixed_codec n = record {
  again = λ v more at fits. (
    at + (0 + padded n),
    subst (λ (k : ℕ). fixed_in k (record { left = (v ++ filler (length v)) ++ more; at = at }) ≡ Ok
        (v, record { left = more; at = at + (0 + padded k) })) fits (body_again [] v more 0 at refl),
  );
  found = λ i v j fits e. let f = body_found i 0 n v j e in
      (f.0, sym (subst (λ (k : ℕ). (v ++ filler k) ++ j.left ≡ i.left) (sym f.0) f.1));
}

-- what follows the number
u32_rest : (left : List ℕ) (n : ℕ) (rest : List ℕ) → left ≡ u32_item n ++ rest → drop 4 left ≡ rest
unfolding u32_item
u32_rest left n rest e = rw e refl

pub length-u32 : (n : ℕ) → length (u32_item n) ≡ 4
unfolding u32_item
length-u32 n = refl

pub length-u64 : (n : ℕ) → length (u64_item n) ≡ 8
unfolding u64_item
length-u64 n = refl

pub length-bool : (b : Bool) → length (bool_item b) ≡ 4
length-bool false = length-u32 0
length-bool true = length-u32 1

pub length-device : (xs : List ℕ) → length xs ≡ 16 → length (fixed_item xs) ≡ 16
unfolding fixed_item
length-device xs e = length-append xs _ ∙ rw e refl

pub opaque_codec : (most : ℕ) → most < 2 ^ 32 → IsCodec (opaque_in most) opaque_item (λ v. length v ≤ most)
unfolding opaque_in opaque_item fixed_item
opaque_codec most small = record {
  again = λ v more at fits.
      let a = (count_codec most small).again (length v) (fixed_item v ++ more) at fits in (
        at + (4 + padded (length v)),
        ap (opaque_in most)
            (ap (λ (t : List ℕ). record { left = t; at = at }) (append_assoc (u32_item (length v)) (fixed_item v) more))
            ∙ rw a.1 (body_again (u32_item (length v)) v more 4 at (length-u32 (length v))),
      );
  found = λ i v j fits e.
      let b = bind_ok (count_in most i) (λ n. body_in 4 n.0 i) (v, j) e in
      let n = (count_codec most small).found i b.0.0 b.0.1 fits b.1 in
      let f = body_found i 4 b.0.0 v j b.2 in
      let body : fixed_item v ++ j.left ≡ b.0.1.left =
      subst (λ (k : ℕ). (v ++ filler k) ++ j.left ≡ b.0.1.left) (sym f.0) (f.1 ∙ u32_rest i.left b.0.0 b.0.1.left n.1) in
      (rw f.0 n.0, n.1 ∙ rw (← f.0, ← body) (sym (append_assoc (u32_item (length v)) (fixed_item v) j.left)));
}

-- ---- answers

pub read_found : {V : Type 0} (reading : Rest → Result (V × Rest) XdrErr) (spelling : V → List ℕ) (Fits : V → Type 0) (old : Rest)
    (r : Result V XdrErr) (new : Rest) →
    IsCodec reading spelling Fits → IsBytes old.left → Reads reading old r new → IsFront Fits spelling old r new
read_found reading spelling Fits old (Ok v) new codec fits e = codec.found old v new fits e
read_found reading spelling Fits old (Err d) new codec fits e = tt

read_takes : {V : Type 0} (reading : Rest → Result (V × Rest) XdrErr) (spelling : V → List ℕ) (Fits : V → Type 0) (old : Rest)
    (v : V) (more : List ℕ) →
    IsCodec reading spelling Fits → Fits v → old.left ≡ spelling v ++ more →
    (end : ℕ) × (reading old ≡ Ok (v, record { left = more; at = end }))
read_takes reading spelling Fits old v more codec fits e =
    let a = codec.again v more old.at fits in
    (a.0, ap (λ (t : List ℕ). reading (record { left = t; at = old.at })) e ∙ a.1)

pub read_only : {V : Type 0} (reading : Rest → Result (V × Rest) XdrErr) (spelling : V → List ℕ) (Fits : V → Type 0) (old : Rest)
    (r : Result V XdrErr) (new : Rest) →
    IsCodec reading spelling Fits → Reads reading old r new → TakesFront Fits spelling old r new
read_only {V = V} reading spelling Fits old (Ok w) new codec e v more fits front =
    let a = read_takes reading spelling Fits old v more codec fits front in
    let both = ok_is (w, new) (v, record { left = more; at = a.0 }) (sym e ∙ a.1) in
    let value : Ok w ≡ Ok v = ap (λ (p : V × Rest). Ok p.0) both in
    let rest : new.left ≡ more = ap (λ (p : V × Rest). p.1.left) both in
    (value, rest)
read_only {V = V} reading spelling Fits old (Err d) new codec e v more fits front =
    let a = read_takes reading spelling Fits old v more codec fits front in
    absurd (err_is_not _ _ (sym e.0 ∙ a.1))

pub read_found_or_memory : {V : Type 0} (reading : Rest → Result (V × Rest) XdrErr) (spelling : V → List ℕ) (Fits : V → Type 0)
    (old : Rest) (r : Result V XdrErr) (new : Rest) →
    IsCodec reading spelling Fits → IsBytes old.left → ReadsOrMemory reading old r new → IsFront Fits spelling old r new
read_found_or_memory reading spelling Fits old (Ok v) new codec fits e = codec.found old v new fits e
read_found_or_memory reading spelling Fits old (Err d) new codec fits e = tt

pub read_only_or_memory : {V : Type 0} (reading : Rest → Result (V × Rest) XdrErr) (spelling : V → List ℕ) (Fits : V → Type 0)
    (old : Rest) (r : Result V XdrErr) (new : Rest) →
    IsCodec reading spelling Fits → ReadsOrMemory reading old r new → TakesFrontOrMemory Fits spelling old r new
read_only_or_memory reading spelling Fits old (Ok w) new codec e v more fits front =
    inr (read_only reading spelling Fits old (Ok w) new codec e v more fits front)
read_only_or_memory reading spelling Fits old (Err d) new codec e v more fits front =
    elim e.0 [
      | inl memory ↦ inl (ap failed memory)
      | inr refused ↦ inr (read_only reading spelling Fits old (Err d) new codec (refused, e.1) v more fits front)
    ]

pub fixed_found : (n : ℕ) (old : Rest) (before : List ℕ) (r : Result (Unit {0}) XdrErr) (new : Rest) (out : List ℕ) →
    IsBytes old.left → ReadsInto (fixed_in n) old before r new out → OnOk r (old.left ≡ fixed_item out ++ new.left)
fixed_found n old before (Ok done) new out fits e = ((fixed_codec n).found old out new fits e).1
fixed_found n old before (Err d) new out fits e = tt

pub fixed_only : (n : ℕ) (old : Rest) (before : List ℕ) (r : Result (Unit {0}) XdrErr) (new : Rest) (out : List ℕ) →
    ReadsInto (fixed_in n) old before r new out →
    (v more : List ℕ) → length v ≡ n → old.left ≡ fixed_item v ++ more → (r ≡ Ok tt) × (out ≡ v) × (new.left ≡ more)
fixed_only n old before (Ok done) new out e v more fits front =
    let a = read_takes (fixed_in n) fixed_item (λ v. length v ≡ n) old v more (fixed_codec n) fits front in
    let both = ok_is (out, new) (v, record { left = more; at = a.0 }) (sym e ∙ a.1) in
    let value : out ≡ v = ap (λ (p : List ℕ × Rest). p.0) both in
    let rest : new.left ≡ more = ap (λ (p : List ℕ × Rest). p.1.left) both in
    (refl, value, rest)
fixed_only n old before (Err d) new out e v more fits front =
    let a = read_takes (fixed_in n) fixed_item (λ v. length v ≡ n) old v more (fixed_codec n) fits front in
    absurd (err_is_not _ _ (sym e.0 ∙ a.1))
