-- The places that the plan of a read or of a gather can ask, and that it asks none twice.
use Rattle.std.proofs.Common.{◌≡◌, ◌≤◌, ◌<◌, ℕ, zero, suc, ◌+◌, ◌-◌, ◌*◌, ◌/◌, ◌%◌, ◌==◌, false, List, [], ◌∷◌, length, map, Option, Some, None, refl, sym, subst, ap, ◌∙◌, inl, inr, arith}
use Rattle.std.specs.List.{flat_map, range_with_len}
use Rattle.std.proofs.lemmas.Bool.{cases_Bool, cases_eq, cases_lt}
use Rattle.std.proofs.lemmas.List.{length-map, map-append}
use Rattle.std.proofs.lemmas.List.FromFn.{length-range_with_len}
use Rattle.std.proofs.lemmas.Nat.{div-mul-add, mod-mul-add}
use Rattle.std.proofs.Math.Nat.{mul_assoc, mul_comm, mul-le-mul_left, mul-le-mul_right}
use Rattle.data_map.specs.declared.check.RawMap.{RawMap}
use Rattle.data_map.specs.Check.{IsChecked}
use Rattle.data_map.specs.Inverse.{unit_in, stripe_in}
use Rattle.data_map.specs.Striping.{replicas, positions, group_width, group_of, row_of, offset_of}
use Rattle.data_map.proofs.Shape.{whole_positions}
use Rattle.data_map.proofs.Striping.{group_inside, stripe_again}
use Rattle.stripe_plan.specs.declared.plan.Span.{Span}
use Rattle.stripe_plan.specs.declared.plan.Interval.{Interval}
use Rattle.stripe_plan.specs.declared.plan.Stretch.{Stretch}
use Rattle.stripe_plan.specs.declared.plan.Ask.{Ask}
use Rattle.stripe_plan.specs.declared.plan.Aim.{Aim}
use Rattle.stripe_plan.specs.Touched.{stripes, own, columns}
use Rattle.stripe_plan.specs.Lost.{among, source_from, source}
use Rattle.stripe_plan.specs.Asks.{needed, at_rows, without_each, asks_of, asks_source, asks_position, asks_place, asks_stripe, asks}
use Rattle.stripe_plan.specs.Laws.{IsWithin}
use Rattle.server_rules.specs.Laws.{In}
use Rattle.server_rules.proofs.Members.{in_either, in_map, in_mapped}
use Rattle.load_law.proofs.Lists.{AreDistinct, distinct_more, in_range, range_distinct, by_test, in_flat, flat_most}
use Rattle.load_law.proofs.Columns.{starts, IsEdge, AreInOrder, few_starts, columns_in_order, own_in_order, edge_starts, own_within, needed_is}
use Rattle.load_law.proofs.Cut.{AreInside, IsCut, IsPiece, ArePieces, left_of_each}
use Rattle.load_law.proofs.Asking.{Place, place_of, IsNew, AreNew}

-- ---- the places

-- those of a component that holds a position
abbrev pub places_on : RawMap → Span → (s i p k : ℕ) → List Place
places_on m r s i p k = map (λ (e : ℕ). (s, p, k, offset_of m s e)) (starts m r s (unit_in m s i))

-- those of a position's components
abbrev pub places_at : RawMap → Span → (s i p : ℕ) → List Place
places_at m r s i p = flat_map (places_on m r s i p) (range_with_len (p * replicas m) (replicas m))

-- those of a stripe's group
abbrev pub places_in : RawMap → Span → (s : ℕ) → List Place
places_in m r s =
    flat_map (λ (i : ℕ). places_at m r s i (group_of m s * group_width m + i)) (range_with_len 0 (group_width m))

-- those of some stripes
abbrev pub places : RawMap → Span → (ss : List ℕ) → List Place
places m r ss = flat_map (places_in m r) ss

-- the components of a stripe's group are among all
pub group_few : (m : RawMap) → IsChecked m → group_width m * replicas m ≤ m.comps
group_few m ch =
    let inside : group_width m ≤ positions m = omega (arith, group_inside m 0 ch) in
    omega (arith, mul-le-mul_right (replicas m) inside, whole_positions m ch)

-- so many for each of a group's components and each stripe are no more than so many for each component and each stripe
pub each_few : (n comps g r l all : ℕ) → g * r ≤ comps → all ≤ n * r * g * l → all ≤ n * comps * l
each_few n comps g r l all few most =
    let turn : n * r * g ≡ n * (g * r) = mul_assoc n r g ∙ ap (λ (x : ℕ). n * x) (mul_comm r g) in
    let less : n * r * g ≤ n * comps = rw turn (mul-le-mul_left n few) in
    omega (arith, most, mul-le-mul_right l less)

-- at most four for each component and each stripe
pub few_places : (m : RawMap) (r : Span) (ss : List ℕ) → IsChecked m → length (places m r ss) ≤ 4 * m.comps * length ss
few_places m r ss ch =
    each_few 4 m.comps (group_width m) (replicas m) (length ss) (length (places m r ss)) (group_few m ch)
    (flat_most (places_in m r) (4 * replicas m * group_width m) ss (λ s. in_group s))
  where
    on_component : (s i p k : ℕ) → length (places_on m r s i p k) ≤ 4
    on_component s i p k =
        omega (
          arith,
          length-map {B = Place} (starts m r s (unit_in m s i)) (λ (e : ℕ). (s, p, k, offset_of m s e)),
          few_starts m r s (unit_in m s i),
        )

    at_position : (s i p : ℕ) → length (places_at m r s i p) ≤ 4 * replicas m
    at_position s i p =
        rw (length-range_with_len (p * replicas m) (replicas m)) at
        (flat_most (places_on m r s i p) 4 (range_with_len (p * replicas m) (replicas m)) (on_component s i p))

    in_group : (s : ℕ) → length (places_in m r s) ≤ 4 * replicas m * group_width m
    in_group s =
        rw (length-range_with_len 0 (group_width m)) at
        (flat_most (λ (i : ℕ). places_at m r s i (group_of m s * group_width m + i)) (4 * replicas m)
        (range_with_len 0 (group_width m)) (λ i. at_position s i (group_of m s * group_width m + i)))

-- ---- edges as bytes of a component

abbrev pub IsEdgeAt : RawMap → Span → (s c : ℕ) → (y : ℕ) → Type 0
IsEdgeAt m r s c y = (e : ℕ) × IsEdge m r s c e × (y ≡ offset_of m s e)

abbrev pub IsTouchedAt : RawMap → Span → (s : ℕ) → (y : ℕ) → Type 0
IsTouchedAt m r s y = (b : ℕ) × IsWithin b (columns m r s) × (y ≡ offset_of m s b)

abbrev pub row_start : RawMap → (s : ℕ) → ℕ
row_start m s = row_of m s * m.unit

-- bytes of a position, between edges of its unit in some stripe
pub record IsEdged (m : RawMap) (r : Span) (t : Stretch) : Type 0 where
  pub stripe : ℕ
  pub place : ℕ
  pub wide : place < group_width m
  pub position : t.position ≡ group_of m stripe * group_width m + place
  pub low : row_start m stripe ≤ t.first
  pub high : t.end ≤ row_start m stripe + m.unit
  pub some : t.first < t.end
  pub first : IsEdgeAt m r stripe (unit_in m stripe place) t.first
  pub end : IsEdgeAt m r stripe (unit_in m stripe place) t.end

next_row : (p q unit : ℕ) → p < q → p * unit + unit ≤ q * unit
next_row p q unit less =
    let more : (p + 1) * unit ≡ p * unit + unit = omega arith in
    let most : (p + 1) * unit ≤ q * unit = mul-le-mul_right unit (omega (arith, less)) in
    omega (arith, more, most)

-- in a place of a stripe it is of another row, or between edges of this unit
edged_cut : (m : RawMap) (r : Span) (s i : ℕ) (t : Stretch) → IsChecked m → i < group_width m → IsEdged m r t
    → IsCut (group_of m s * group_width m + i) (row_start m s) (row_start m s + m.unit)
    (IsEdgeAt m r s (unit_in m s i)) t
edged_cut m r s i t ch wide x = λ e.
    let g : ℕ = group_width m in
    let whole : group_of m x.stripe * g + x.place ≡ group_of m s * g + i = sym x.position ∙ e in
    let group : group_of m x.stripe ≡ group_of m s =
    sym (div-mul-add (group_of m x.stripe) g x.place x.wide) ∙ ap (λ (y : ℕ). y / g) whole
    ∙ div-mul-add (group_of m s) g i wide in
    let place : x.place ≡ i =
    sym (mod-mul-add (group_of m x.stripe) g x.place x.wide) ∙ ap (λ (y : ℕ). y % g) whole
    ∙ mod-mul-add (group_of m s) g i wide in (
      omega (arith, x.some),
      elim (cases_eq (row_of m x.stripe) (row_of m s)) [
        | inl row ↦
            let stripe : x.stripe ≡ s =
            sym (stripe_again m x.stripe ch) ∙ ap (λ (y : ℕ). stripe_in m y (row_of m x.stripe)) group
            ∙ ap (λ (y : ℕ). stripe_in m (group_of m s) y) row ∙ stripe_again m s ch in
            let unit : (y : ℕ) → IsEdgeAt m r x.stripe (unit_in m x.stripe x.place) y → IsEdgeAt m r s (unit_in m s i) y =
            λ y w. subst (λ (n : ℕ). IsEdgeAt m r s (unit_in m s n) y) place
            (subst (λ (n : ℕ). IsEdgeAt m r n (unit_in m n x.place) y) stripe w) in
            inr (inr (unit t.first x.first, unit t.end x.end))
        | inr other ↦ elim (cases_lt (row_of m x.stripe) (row_of m s)) [
          | inl under ↦ inl (omega (arith, x.high, next_row (row_of m x.stripe) (row_of m s) m.unit under))
          | inr over ↦
              let above : row_of m s < row_of m x.stripe = omega (arith, over, other) in
              inr (inl (omega (arith, x.low, next_row (row_of m s) (row_of m x.stripe) m.unit above)))
        ]
      ],
    )

-- ---- what is needed, as bytes of a component

rows_inside : (m : RawMap) (r : Span) (s c from : ℕ) (is : List Interval) → AreInOrder m.unit from is
    → ((i : Interval) → In i is → IsEdge m r s c i.first × IsEdge m r s c i.end
    × ((b : ℕ) → i.first ≤ b → b < i.end → IsWithin b (columns m r s)))
    → AreInside (row_start m s + m.unit) (IsEdgeAt m r s c) (IsTouchedAt m r s) (row_start m s + from) (at_rows m s is)
rows_inside m r s c from [] k all = tt
rows_inside m r s c from (i ∷ is) k all =
    let its = all i (inl refl) in (
      record {
        low = omega (arith, k.0);
        order = omega (arith, k.1);
        high = omega (arith, k.2);
        first = (i.first, its.0, refl);
        end = (i.end, its.1, refl);
        touched = λ y l u.
            let column : ℕ = y - row_start m s in
            let there : y ≡ offset_of m s column = omega (arith, l) in
            (column, its.2 column (omega (arith, l)) (omega (arith, l, u)), there);
      },
      rows_inside m r s c i.end is k.3 (λ j n. all j (inr n)),
    )

-- one of some intervals holds their columns
within_in : (is : List Interval) (i : Interval) (b : ℕ) → In i is → i.first ≤ b → b < i.end → IsWithin b is
within_in [] i b j l u = absurd j
within_in (x ∷ is) i b (inl e) l u = inl (subst (λ (y : Interval). (y.first ≤ b) × (b < y.end)) e (l, u))
within_in (x ∷ is) i b (inr j) l u = inr (within_in is i b j l u)

needed_inside : (aim : Aim) (m : RawMap) (r : Span) (out : List ℕ) (s c : ℕ) → IsChecked m
    → AreInside (row_start m s + m.unit) (IsEdgeAt m r s c) (IsTouchedAt m r s) (row_start m s)
    (at_rows m s (needed aim m r out s c))
needed_inside aim m r out s c ch =
    let from : row_start m s + 0 ≡ row_start m s = omega arith in
    subst (λ (n : ℕ). AreInside (row_start m s + m.unit) (IsEdgeAt m r s c) (IsTouchedAt m r s) n
    (at_rows m s (needed aim m r out s c))) from
    (needed_is (λ (is : List Interval). AreInside (row_start m s + m.unit) (IsEdgeAt m r s c) (IsTouchedAt m r s)
    (row_start m s + 0) (at_rows m s is)) m r out s c tt
    (λ less t. rows_inside m r s c 0 (own m r s c ∷ []) (own_in_order m r s c t)
    (λ i j. elim j [
      | inl e ↦ subst (λ (x : Interval). IsEdge m r s c x.first × IsEdge m r s c x.end
          × ((b : ℕ) → x.first ≤ b → b < x.end → IsWithin b (columns m r s))) (sym e)
          (inl (inl refl), inl (inr (inl refl)), λ b l u. own_within m r s c b ch less l u)
      | inr none ↦ absurd none
    ]))
    (rows_inside m r s c 0 (columns m r s) (columns_in_order m r s ch)
    (λ i j. (
      inl (inr (inr (in_map (λ (x : Interval). x.first) i (columns m r s) j))),
      inr (in_map (λ (x : Interval). x.end) i (columns m r s) j),
      λ b l u. within_in (columns m r s) i b j l u,
    ))) aim)

-- ---- one position

-- the first of some components that isn't out is one of them
pub source_found : (out : List ℕ) (k n j : ℕ) → source_from out k n ≡ Some j → (k ≤ j) × (j < k + n) × (among j out ≡ false)
unfolding source_from
source_found out k zero j e = absurd (cc e)
source_found out k (suc n) j e = elim (cases_Bool (among k out)) [
  | inl gone ↦ let rest = source_found out (k + 1) n j (rw gone at e) in
      (omega (arith, rest.0), omega (arith, rest.1), rest.2)
  | inr there ↦ let same : k ≡ j = cc (rw there at e) in
      (omega (arith, same), omega (arith, same), subst (λ (x : ℕ). among x out ≡ false) same there)
]

-- the plan asks one component of a position
abbrev pub AsksOne : Aim → RawMap → List ℕ → Type 0
AsksOne aim m out = (s p : ℕ) (is : List Interval) → asks_position aim m out s p is ≡ asks_source s p (source m out p) is

-- a place's asks are those of its stripe and position
pub record IsAt (s p : ℕ) (b : Ask) : Type 0 where
  pub stripe : b.stripe ≡ s
  pub position : b.position ≡ p

module _ (aim : Aim) (m : RawMap) (r : Span) (out : List ℕ) (hs : List Stretch) (ss : List ℕ) (ch : IsChecked m)
    (one : AsksOne aim m out) (known : (t : Stretch) → In t hs → IsEdged m r t) where
  abbrev Fresh : Ask → Type 0
  Fresh b = IsNew (places m r ss) (IsEdged m r) out hs b

  -- those of a place of a stripe's group
  record AreOf (s p : ℕ) (due : List Ask) : Type 0 where
    at : (b : Ask) → In b due → IsAt s p b
    new : (b : Ask) → In b due → Fresh b
    once : AreDistinct (map place_of due)

  -- bytes of a component that holds the position
  module _ (s i k : ℕ) (listed : In s ss) (wide : i < group_width m)
      (from : (group_of m s * group_width m + i) * replicas m ≤ k)
      (to : k < (group_of m s * group_width m + i) * replicas m + replicas m) (there : among k out ≡ false) where
    abbrev position : ℕ
    position = group_of m s * group_width m + i

    abbrev Piece : Interval → Type 0
    Piece x = IsPiece position (IsEdgeAt m r s (unit_in m s i)) (IsTouchedAt m r s) hs x

    place_there : (x : Interval) → Piece x → In (s, position, k, x.first) (places m r ss)
    place_there x piece =
        let edge : ℕ = piece.first.0 in
        let same : piece.touched.0 ≡ edge = omega (arith, sym piece.touched.2 ∙ piece.first.2) in
        let start : In edge (starts m r s (unit_in m s i)) =
        edge_starts m r s (unit_in m s i) edge ch piece.first.1
        (subst (λ (b : ℕ). IsWithin b (columns m r s)) same piece.touched.1) in
        in_flat (places_in m r) s ss _ listed
        (in_flat (λ (j : ℕ). places_at m r s j (group_of m s * group_width m + j)) i (range_with_len 0 (group_width m)) _
        (in_range 0 (group_width m) i (omega arith) (omega (arith, wide)))
        (in_flat (places_on m r s i position) k (range_with_len (position * replicas m) (replicas m)) _
        (in_range (position * replicas m) (replicas m) k from to)
        (subst (λ (o : ℕ). In (s, position, k, o) (places_on m r s i position k)) (sym piece.first.2)
        (in_map (λ (e : ℕ). (s, position, k, offset_of m s e)) edge (starts m r s (unit_in m s i)) start))))

    piece_fresh : (x : Interval) → Piece x → row_start m s ≤ x.first → x.end ≤ row_start m s + m.unit
        → Fresh (record { stripe = s; position = position; component = k; offset = x.first; length = x.end - x.first })
    piece_fresh x piece low high =
        let end : x.end ≡ x.first + (x.end - x.first) = omega (arith, piece.some) in
        record {
          listed = place_there x piece;
          known = record {
            stripe = s;
            place = i;
            wide = wide;
            position = refl;
            low = low;
            high = omega (arith, end, high);
            some = omega (arith, piece.some);
            first = piece.first;
            end = subst (IsEdgeAt m r s (unit_in m s i)) end piece.end;
          };
          there = there;
          new = λ t j e same. elim (piece.free t j e) [
            | inl before ↦ omega (arith, before, same, (known t j).some)
            | inr behind ↦ omega (arith, behind, same, piece.some)
          ];
        }

    of_pieces : (first : ℕ) (xs : List Interval) → row_start m s ≤ first
        → ArePieces position (row_start m s) (row_start m s + m.unit) (IsEdgeAt m r s (unit_in m s i)) (IsTouchedAt m r s) hs
        first (row_start m s + m.unit) xs
        → AreOf s position (asks_of s position k xs)
        × ((b : Ask) → In b (asks_of s position k xs) → first ≤ b.offset)
    of_pieces first [] low k = (
      record { at = λ b j. absurd j; new = λ b j. absurd j; once = tt },
      λ b j. absurd j,
    )
    of_pieces first (x ∷ xs) low pieces =
        let rest = of_pieces x.end xs (omega (arith, low, pieces.1, pieces.0.some)) pieces.3 in
        let its : Fresh (record {
          stripe = s;
          position = position;
          component = k;
          offset = x.first;
          length = x.end - x.first;
        }) = piece_fresh x pieces.0 (omega (arith, low, pieces.1)) pieces.2 in (
          record {
            at = λ b j. elim j [
              | inl e ↦ record {
                stripe = ap (λ (a : Ask). a.stripe) e;
                position = ap (λ (a : Ask). a.position) e;
              }
              | inr n ↦ rest.0.at b n
            ];
            new = λ b j. elim j [ inl e ↦ subst Fresh (sym e) its | inr n ↦ rest.0.new b n ];
            once = (
              λ j.
                  let m = in_mapped place_of _ (asks_of s position k xs) j in
                  let same : x.first ≡ m.0.offset = ap (λ (y : Place). y.3) m.2 in
                  omega (arith, same, rest.1 m.0 m.1, pieces.0.some),
              rest.0.once,
            );
          },
          λ b j. elim j [
            | inl e ↦ let same : b.offset ≡ x.first = ap (λ (a : Ask). a.offset) e in omega (arith, same, pieces.1)
            | inr n ↦ omega (arith, rest.1 b n, pieces.1, pieces.0.some)
          ],
        )

  nothing_of : (s p : ℕ) → AreOf s p []
  nothing_of s p = record { at = λ b j. absurd j; new = λ b j. absurd j; once = tt }

  of_source : (s i : ℕ) (o : Option ℕ) (xs : List Interval) → In s ss → i < group_width m
      → source m out (group_of m s * group_width m + i) ≡ o
      → ArePieces (group_of m s * group_width m + i) (row_start m s) (row_start m s + m.unit)
      (IsEdgeAt m r s (unit_in m s i)) (IsTouchedAt m r s) hs (row_start m s) (row_start m s + m.unit) xs
      → AreOf s (group_of m s * group_width m + i) (asks_source s (group_of m s * group_width m + i) o xs)
  unfolding source
  of_source s i None xs listed wide is pieces = nothing_of s (group_of m s * group_width m + i)
  of_source s i (Some k) xs listed wide is pieces =
      let found = source_found out ((group_of m s * group_width m + i) * replicas m) (replicas m) k is in
      (of_pieces s i k listed wide found.0 found.1 found.2 (row_start m s) xs (omega arith) pieces).0

  of_place : (s i : ℕ) → In s ss → i < group_width m
      → AreOf s (group_of m s * group_width m + i) (asks_place aim m r out hs s i)
  unfolding asks_place
  of_place s i listed wide =
      let p : ℕ = group_of m s * group_width m + i in
      let c : ℕ = unit_in m s i in
      let is : List Interval = at_rows m s (needed aim m r out s (unit_in m s i)) in
      rw (one s p (without_each hs p is)) (of_source s i (source m out p) (without_each hs p is) listed wide refl
      (left_of_each p (row_start m s) (row_start m s + m.unit) (IsEdgeAt m r s c) (IsTouchedAt m r s) hs (row_start m s) is
      (λ t j. edged_cut m r s i t ch wide (known t j)) (omega arith) (needed_inside aim m r out s c ch)))

  -- those of a stripe
  record AreIn (s first : ℕ) (due : List Ask) : Type 0 where
    stripe : (b : Ask) → In b due → b.stripe ≡ s
    place : (b : Ask) → In b due → group_of m s * group_width m + first ≤ b.position
    new : (b : Ask) → In b due → Fresh b
    once : AreDistinct (map place_of due)

  of_stripe : (s i n : ℕ) → In s ss → i + n ≤ group_width m → AreIn s i (asks_stripe aim m r out hs s i n)
  unfolding asks_stripe
  of_stripe s i zero listed low = record {
    stripe = λ b j. absurd j;
    place = λ b j. absurd j;
    new = λ b j. absurd j;
    once = tt;
  }
  of_stripe s i (suc n) listed low =
      let front : List Ask = asks_place aim m r out hs s i in
      let back : List Ask = asks_stripe aim m r out hs s (i + 1) n in
      let its = of_place s i listed (omega (arith, low)) in
      let rest = of_stripe s (i + 1) n listed (omega (arith, low)) in
      record {
        stripe = λ b j. elim (in_either b front back j) [ inl x ↦ (its.at b x).stripe | inr y ↦ rest.stripe b y ];
        place = λ b j. elim (in_either b front back j) [
          | inl x ↦ omega (arith, (its.at b x).position)
          | inr y ↦ omega (arith, rest.place b y)
        ];
        new = λ b j. elim (in_either b front back j) [ inl x ↦ its.new b x | inr y ↦ rest.new b y ];
        once = rw (map-append place_of front back) (distinct_more (map place_of front) (map place_of back) its.once rest.once
            (λ z x y.
            let a = in_mapped place_of z front x in
            let b = in_mapped place_of z back y in
            let same : a.0.position ≡ b.0.position = ap (λ (w : Place). w.1) (sym a.2 ∙ b.2) in
            omega (arith, same, (its.at a.0 a.1).position, rest.place b.0 b.1)));
      }

  -- those of several
  record AreFrom (ts : List ℕ) (due : List Ask) : Type 0 where
    stripe : (b : Ask) → In b due → In b.stripe ts
    new : (b : Ask) → In b due → Fresh b
    once : AreDistinct (map place_of due)

  of_stripes : (ts : List ℕ) → AreDistinct ts → ((s : ℕ) → In s ts → In s ss) → AreFrom ts (asks aim m r out hs ts)
  unfolding asks
  of_stripes [] apart there = record { stripe = λ b j. absurd j; new = λ b j. absurd j; once = tt }
  of_stripes (s ∷ ts) apart there =
      let front : List Ask = asks_stripe aim m r out hs s 0 (group_width m) in
      let back : List Ask = asks aim m r out hs ts in
      let its = of_stripe s 0 (group_width m) (there s (inl refl)) (omega arith) in
      let rest = of_stripes ts apart.1 (λ u j. there u (inr j)) in
      record {
        stripe = λ b j. elim (in_either b front back j) [
          | inl x ↦ inl (its.stripe b x)
          | inr y ↦ inr (rest.stripe b y)
        ];
        new = λ b j. elim (in_either b front back j) [ inl x ↦ its.new b x | inr y ↦ rest.new b y ];
        once = rw (map-append place_of front back) (distinct_more (map place_of front) (map place_of back) its.once rest.once
            (λ z x y.
            let a = in_mapped place_of z front x in
            let b = in_mapped place_of z back y in
            let same : b.0.stripe ≡ s = sym (ap (λ (w : Place). w.0) (sym a.2 ∙ b.2)) ∙ its.stripe a.0 a.1 in
            apart.0 (subst (λ (u : ℕ). In u ts) same (rest.stripe b.0 b.1))));
      }

stripes_apart : (m : RawMap) (r : Span) → AreDistinct (stripes m r)
unfolding stripes
stripes_apart m r = by_test AreDistinct (r.length == 0) _ _ tt (range_distinct _ _)

-- what is due is new
pub due_new : (aim : Aim) (m : RawMap) (r : Span) (out : List ℕ) (hs : List Stretch) → IsChecked m → AsksOne aim m out
    → ((t : Stretch) → In t hs → IsEdged m r t)
    → AreNew (places m r (stripes m r)) (IsEdged m r) out hs (asks aim m r out hs (stripes m r))
due_new aim m r out hs ch one known =
    let all = of_stripes aim m r out hs (stripes m r) ch one known (stripes m r) (stripes_apart m r) (λ s i. i) in
    record { each = all.new; once = all.once }
