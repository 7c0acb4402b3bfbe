-- Vectors lane by lane.
use Rattle.std.proofs.Common.{◌≡◌, ℕ, ◌+◌, ◌*◌, ◌/◌, ◌%◌, ◌<◌, ◌≤◌, Bool, false, cond, List, length, get_or, map, replicate, refl, sym, ap, ◌∙◌, arith, w8}
use Rattle.std.specs.Prelude.{bit_and, bit_xor, nat_le}
use Rattle.std.proofs.lemmas.Nat.{and_mask}
use Rattle.std.proofs.lemmas.Simd.{length-zip2, get_or-zip2, get_or-replicate, length-replicate, Each1-from_get_or, SwzOk-from_below, length-swz_l, get_or-swz_l_below, swz_l, SwzOk, tops_compared, length-sel_l, get_or-sel_l, length-put_chunk, get_or-put_chunk_at, get_or-put_chunk_below, get_or-put_chunk_above}
use lib.Lanes.{zip2, put_chunk, sel_l, top}
use Rattle.gf256.specs.Field.{product}
use Rattle.gf256.proofs.Computed.{wrapping_double}
use Rattle.gf256.proofs.Laws.{two_product}
use Rattle.gf256.proofs.Halves.{of_halves}
use Rattle.gf256.specs.Lanes.{HasLanes, StoredAt}
use Rattle.gf256.specs.Tables.{HasProducts}
use Rattle.gf256.specs.declared.lanes.ProductTables.{ProductTables}

pub HasLanes-zip2 : (f : ℕ → ℕ → ℕ) (xs ys : List ℕ) → length xs ≡ 64 → length ys ≡ 64 →
    HasLanes (zip2 f xs ys) (λ k. f (get_or xs k 0) (get_or ys k 0))
HasLanes-zip2 f xs ys a b = record {
  long = length-zip2 f xs ys (a ∙ sym b) ∙ a;
  each = λ k lt. get_or-zip2 f xs ys k 0 0 0 (omega arith) (omega arith);
}

pub HasLanes-constant : (y : ℕ) → HasLanes (replicate 64 y) (λ _. y)
HasLanes-constant y = record { long = length-replicate 64 y; each = λ k lt. get_or-replicate 64 k y 0 lt }

pub HasLanes-splat : (f : ℕ → ℕ → ℕ) (xs : List ℕ) (y : ℕ) → length xs ≡ 64 →
    HasLanes (zip2 f xs (replicate 64 y)) (λ k. f (get_or xs k 0) y)
HasLanes-splat f xs y a =
    let both = HasLanes-zip2 f xs (replicate 64 y) a (length-replicate 64 y) in
    record {
      long = both.long;
      each =
          λ k lt. both.each k lt ∙ ap (λ (s : ℕ). f (get_or xs k 0) s) (get_or-replicate 64 k y 0 lt);
    }

pub HasLanes-same : (v : List ℕ) (f g : ℕ → ℕ) → ((k : ℕ) → k < 64 → f k ≡ g k) → HasLanes v f → HasLanes v g
HasLanes-same v f g same h = record { long = h.long; each = λ k lt. h.each k lt ∙ same k lt }

pub low_lanes : (xs : List ℕ) → length xs ≡ 64 → HasLanes (zip2 bit_and xs (replicate 64 15)) (λ k. get_or xs k 0 % 16)
low_lanes xs a = HasLanes-same _ _ _ (λ k lt. and_mask (get_or xs k 0) 4) (HasLanes-splat bit_and xs 15 a)

pub looked_up_ok : (at : List ℕ) → length at ≡ 64 → ((k : ℕ) → k < 64 → get_or at k 0 < 16) → SwzOk w8 16 64 0 at
looked_up_ok at a small =
    SwzOk-from_below w8 16 4 64 0 at refl (omega arith)
    (Each1-from_get_or (λ (j : ℕ). j < 16) at 0 (λ i lt. small i (omega arith)))

pub looked_up_lanes : (table at : List ℕ) → length at ≡ 64 → ((k : ℕ) → k < 64 → get_or at k 0 < 16) →
    HasLanes (swz_l w8 16 table 0 at) (λ k. get_or table (16 * (k / 16) + get_or at k 0) 0)
looked_up_lanes table at a small = record {
  long = length-swz_l w8 16 table 0 at ∙ a;
  each = λ k lt. let e : 0 + k ≡ k = omega arith in rw e at (get_or-swz_l_below w8 16 table 0 at k (omega arith) (small k lt));
}

pub stored : (at : ℕ) (old v : List ℕ) → length v ≡ 64 → at + 64 ≤ length old →
    StoredAt at (λ k. get_or v k 0) old (put_chunk at old v)
stored at old v long room = record {
  long = length-put_chunk at old v;
  inside = λ k lt. get_or-put_chunk_at at old v k 0 (omega arith) (omega arith);
  below = λ k lt. get_or-put_chunk_below at old v k 0 lt;
  above = λ k ge. get_or-put_chunk_above at old v k 0 (omega arith);
}

-- a lane's product, from the tables of both halves
pub lane : (c k x : ℕ) (t : ProductTables) (l h bl bh : List ℕ) → k < 64 → x < 256 → HasProducts c t
    → get_or l k 0 ≡ x % 16 → get_or h k 0 ≡ x / 16
    → get_or bl k 0 ≡ get_or t.low (16 * (k / 16) + get_or l k 0) 0 →
    get_or bh k 0 ≡ get_or t.high (16 * (k / 16) + get_or h k 0) 0
    → bit_xor (get_or bl k 0) (get_or bh k 0) ≡ product c x
lane c k x t l h bl bh lt byte tables l-is h-is is_bl is_bh =
    let l-at : (16 * (k / 16) + x % 16) % 16 ≡ x % 16 = omega arith in
    let h-at : (16 * (k / 16) + x / 16) % 16 ≡ x / 16 = omega arith in
    let bl-is : get_or bl k 0 ≡ product c (x % 16) =
    is_bl ∙ ap (λ (n : ℕ). get_or t.low (16 * (k / 16) + n) 0) l-is ∙ tables.low.each (16 * (k / 16) + x % 16) (omega arith)
    ∙ ap (product c) l-at in
    let bh-is : get_or bh k 0 ≡ product c (16 * (x / 16)) =
    is_bh ∙ ap (λ (n : ℕ). get_or t.high (16 * (k / 16) + n) 0) h-is ∙ tables.high.each (16 * (k / 16) + x / 16) (omega arith)
    ∙ ap (λ (n : ℕ). product c (16 * n)) h-at in
    rw (bl-is, bh-is) (of_halves c x)

-- twice each lane: the comparison picks the lanes that are reduced
pub doubled_lanes : (v : List ℕ) → length v ≡ 64 → ((k : ℕ) → k < 64 → get_or v k 0 < 256)
    → HasLanes (zip2 bit_xor (zip2 (λ a b. (a + b) % 256) v v)
    (sel_l (map (top 7) (zip2 (λ a b. cond (nat_le a b) 255 0) (replicate 64 128) v)) (replicate 64 29) (replicate 64 0)))
    (λ k. product 2 (get_or v k 0))
doubled_lanes v long small =
    let tops : List Bool = zip2 nat_le (replicate 64 128) v in
    let tops_long : length tops ≡ 64 = length-zip2 nat_le (replicate 64 128) v (sym long) in
    let picked : List ℕ = sel_l tops (replicate 64 29) (replicate 64 0) in
    let picked_long : length picked ≡ 64 = length-sel_l tops (replicate 64 29) (replicate 64 0) tops_long tops_long ∙ tops_long in
    let twice = HasLanes-zip2 (λ (a b : ℕ). (a + b) % 256) v v long long in
    let whole = HasLanes-zip2 bit_xor (zip2 (λ a b. (a + b) % 256) v v) picked twice.long picked_long in
    rw (tops_compared w8 nat_le (replicate 64 128) v) (record {
      long = whole.long;
      each = λ k lt.
          let test : get_or tops k false ≡ nat_le 128 (get_or v k 0) =
          get_or-zip2 nat_le (replicate 64 128) v k 0 0 false (omega arith) (omega arith)
          ∙ ap (λ (n : ℕ). nat_le n (get_or v k 0)) (get_or-replicate 64 k 128 0 lt) in
          let pick : get_or picked k 0 ≡ cond (nat_le 128 (get_or v k 0)) 29 0 =
          get_or-sel_l tops (replicate 64 29) (replicate 64 0) k 0 (omega arith) (omega arith) (omega arith)
          ∙ rw (test, get_or-replicate {A = ℕ} 64 k 29 0 lt, get_or-replicate {A = ℕ} 64 k 0 0 lt) refl in
          whole.each k lt
          ∙ rw (twice.each k lt, pick)
          (wrapping_double (get_or v k 0) (small k lt) ∙ sym (two_product (get_or v k 0) (small k lt)));
    })
