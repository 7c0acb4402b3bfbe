-- What the plan of a write stores, whatever its gather got: each byte of the range, and in its column something of each unit
-- of parity, at each replica that isn't out.
use Rattle.std.proofs.Common.{◌≡◌, ℕ, zero, suc, ◌+◌, ◌-◌, ◌*◌, ◌/◌, ◌%◌, ◌<◌, ◌≤◌, false, List, [], ◌∷◌, length, refl, sym, ap, subst, ◌∙◌, arith, inl, inr}
use Rattle.std.specs.Prelude.{slice_index, is_none, None}
use Rattle.std.proofs.lemmas.Bool.{cases_Bool, cases_eq, lt-ltb, le-ltb}
use Rattle.std.proofs.lemmas.Nat.{div-add-mod', mod_below}
use Rattle.std.proofs.lemmas.List.FromFn.{length-map-range_with_len, get_or-map-range_with_len}
use Rattle.data_map.specs.declared.check.RawMap.{RawMap}
use Rattle.data_map.specs.Check.{IsChecked}
use Rattle.data_map.specs.Inverse.{stripe_at}
use Rattle.data_map.specs.Striping.{replicas, parities, group_width, data_units, stripe_of, data_unit_of, column_of, position_of, offset_of}
use Rattle.data_map.proofs.Numbers.{digits}
use Rattle.data_map.proofs.Striping.{data_unit_below, column_below}
use Rattle.stripe_plan.specs.declared.plan.Span.{Span}
use Rattle.stripe_plan.specs.declared.plan.Column.{Column}
use Rattle.stripe_plan.specs.declared.plan.Ask.{Ask}
use Rattle.stripe_plan.specs.declared.plan.Store.{Store}
use Rattle.stripe_plan.specs.Touched.{end_of, stripes, own, IsTouchedStripe}
use Rattle.stripe_plan.specs.declared.plan.Aim.TheVariants.{Gathers}
use Rattle.stripe_plan.specs.Lost.{among, source_from, source, is_out, unwritable}
use Rattle.stripe_plan.specs.Asks.{changed}
use Rattle.stripe_plan.specs.Words.{bytes_at, word_at}
use Rattle.stripe_plan.specs.Words.{byte_at as byte_got}
use Rattle.stripe_plan.specs.Laws.{AreBytes, Agrees, over, word_of, IsWithin, IsGot, IsFetched}
use Rattle.stripe_plan.specs.Plans.{writes, written, filled, stores}
use Rattle.stripe_plan.proofs.Covering.{column_touched, own_touched}
use Rattle.stripe_plan.proofs.Parities.{changed_data, changed_all, own_one}
use Rattle.stripe_plan.proofs.ReadLaws.{stripes_are, stripe_touched}
use Rattle.stripe_plan.proofs.WriteLaws.{new_some, parity_is}
use Rattle.server_rules.specs.Laws.{In}
use Rattle.server_rules.proofs.Members.{in_mapped}
use Rattle.plan_law.specs.Writes.{IsCarried}
use Rattle.plan_law.proofs.Intervals.{Every}
use Rattle.plan_law.proofs.Parities.{parity_right}
use Rattle.plan_law.proofs.Stores.{IsForAsk, all_asks, unit_carried}
use Rattle.plan_law.proofs.Written.{place_is, word_for, got_for, written_for, written_got}

-- ---- a component that isn't out

source_there : (out : List ℕ) (k n j : ℕ) → k ≤ j → j < k + n → among j out ≡ false → is_none (source_from out k n) ≡ false
unfolding source_from
source_there out k zero j le lt there = absurd (omega (arith, le, lt))
source_there out k (suc n) j le lt there = elim (cases_Bool (among k out)) [
  | inl t ↦ elim (cases_eq k j) [
    | inl same ↦ absurd (cc (sym there ∙ ap (λ x. among x out) (sym same) ∙ t))
    | inr other ↦ rw t (source_there out (k + 1) n j (omega (arith, le, other)) (omega (arith, lt)) there)
  ]
  | inr f ↦ rw f refl
]

-- stands at its position
at_position : (m : RawMap) (k p : ℕ) → k / replicas m ≡ p → (p * replicas m ≤ k) × (k < p * replicas m + replicas m)
at_position m k p is =
    let whole = div-add-mod' k (replicas m) in
    let rest : k % replicas m < replicas m = mod_below k (replicas m) (omega arith) in
    let here : (k / replicas m * replicas m ≤ k) × (k < k / replicas m * replicas m + replicas m) =
    (omega (arith, whole), omega (arith, whole, rest)) in
    rw is at here

-- which isn't out either
position_there : (m : RawMap) (out : List ℕ) (k : ℕ) → among k out ≡ false → is_out m out (k / replicas m) ≡ false
unfolding source
position_there m out k there =
    let at_ = at_position m k (k / replicas m) refl in
    source_there out (k / replicas m * replicas m) (replicas m) k at_.0 at_.1 there

-- ---- what a store carries

every_in : {A : Type 0} (P : A → Type 0) (xs : List A) (x : A) → Every P xs → In x xs → P x
every_in P [] x all i = absurd i
every_in P (y ∷ xs) x all (inl e) = subst P (sym e) all.0
every_in P (y ∷ xs) x all (inr i) = every_in P xs x all.1 i

carrier : (ws : List Store) (k z : ℕ) → IsCarried ws k z →
    (w : Store) × In w ws × (w.ask.component ≡ k) × (w.ask.offset ≤ z) × (z < w.ask.offset + length w.bytes)
carrier [] k z g = absurd g
carrier (w ∷ ws) k z (inl g) = (w, inl refl, g.0, g.1, g.2)
carrier (w ∷ ws) k z (inr g) = let r = carrier ws k z g in (r.0, inr r.1, r.2, r.3, r.4)

-- a store of the plan for a place, with the byte that it carries there
pub record IsStoreOf (m : RawMap) (r : Span) (bytes : List ℕ) (got : List Column) (out : List ℕ) (k z v : ℕ) : Type 0
  where
    pub store : Store
    pub there : In store (stores m r bytes got out)
    pub component : store.ask.component ≡ k
    pub from : store.ask.offset ≤ z
    pub to : z < store.ask.offset + length store.bytes
    pub byte : v ≡ slice_index store.bytes (z - store.ask.offset)

module _ (m : RawMap) (r : Span) (bytes : List ℕ) (got : List Column) (out : List ℕ) (ch : IsChecked m)
    (some : 0 < r.length) where
  abbrev cols : List Column
  cols = written m r bytes got out (stripes m r)

  ask_word : (a : Ask) → IsForAsk m r out a → (j : ℕ) → j < length (filled cols a).bytes →
      slice_index (filled cols a).bytes j ≡ word_for m r bytes got out (a.component / replicas m) (a.offset + j)
  ask_word a f j lt =
      let long : length (bytes_at cols a.position a.offset a.length) ≡ a.length =
      length-map-range_with_len (byte_got cols a.position) a.offset a.length in
      let short : j < a.length = omega (arith, lt, long) in
      let x = f.each j short in
      let open_ : is_out m out a.position ≡ false =
      ap (is_out m out) (sym f.component) ∙ position_there m out a.component f.there in
      let is_got : IsGot cols a.position (a.offset + j) =
      rw (stripes_are m r some, sym x.1) (written_got m r bytes got out (stripe_of m r.offset)
      (stripe_of m (end_of r - 1) + 1 - stripe_of m r.offset) f.stripe f.unit x.0 a.position f.touched.0
      (omega (arith, f.touched.0, f.touched.1)) f.wide f.position open_ x.2) in
      get_or-map-range_with_len (byte_got cols a.position) a.offset a.length j (a.offset + j) 0 short refl
      ∙ got_for m r bytes got out cols a.position (a.offset + j) (written_for m r bytes got out (stripes m r) ch) is_got
      ∙ ap (λ q. word_for m r bytes got out q (a.offset + j)) (sym f.component)

  asks_are : Every (IsForAsk m r out) (writes m r out)
  asks_are =
      rw (stripes_are m r some) (all_asks m r out (stripe_of m r.offset)
      (stripe_of m (end_of r - 1) + 1 - stripe_of m r.offset) ch (λ s le lt. (le, omega (arith, lt, le))))

  store_word : (w : Store) → In w (stores m r bytes got out) → (j : ℕ) → j < length w.bytes →
      slice_index w.bytes j ≡ word_for m r bytes got out (w.ask.component / replicas m) (w.ask.offset + j)
  unfolding stores
  store_word w i =
      let x = in_mapped (filled cols) w (writes m r out) i in
      subst (λ (y : Store). (j : ℕ) → j < length y.bytes →
      slice_index y.bytes j ≡ word_for m r bytes got out (y.ask.component / replicas m) (y.ask.offset + j)) (sym x.2)
      (ask_word x.0 (every_in (IsForAsk m r out) (writes m r out) x.0 asks_are x.1))

  -- each store for a place carries the same byte there
  pub one_byte : (k z v : ℕ) → IsStoreOf m r bytes got out k z v → (w : Store) → In w (stores m r bytes got out) →
      w.ask.component ≡ k → w.ask.offset ≤ z → z < w.ask.offset + length w.bytes →
      v ≡ slice_index w.bytes (z - w.ask.offset)
  one_byte k z v x w i is from to =
      x.byte ∙ word x.store x.there x.component x.from x.to ∙ sym (word w i is from to)
    where
      word : (y : Store) → In y (stores m r bytes got out) → y.ask.component ≡ k → y.ask.offset ≤ z →
          z < y.ask.offset + length y.bytes →
          slice_index y.bytes (z - y.ask.offset) ≡ word_for m r bytes got out (k / replicas m) z
      word y j e low high =
          let on : y.ask.offset + (z - y.ask.offset) ≡ z = omega (arith, low) in
          store_word y j (z - y.ask.offset) (omega (arith, low, high))
          ∙ ap (λ c. word_for m r bytes got out (c / replicas m) (y.ask.offset + (z - y.ask.offset))) e
          ∙ ap (word_for m r bytes got out (k / replicas m)) on

  -- ---- a changed byte of a unit

  module _ (s u b : ℕ) (wide : u < group_width m) (touched : IsTouchedStripe m r s) (within : IsWithin b (changed m r s u))
      (column : b < m.unit) where
    unit_stored : (k : ℕ) → k / replicas m ≡ position_of m s u → among k out ≡ false →
        IsStoreOf m r bytes got out k (offset_of m s b) (word_at m r bytes got out s b u)
    unit_stored k at_ there =
        let inside = at_position m k (position_of m s u) at_ in
        let x = carrier (stores m r bytes got out) k (offset_of m s b)
        (unit_carried m r bytes got out s u b k wide some touched inside.0 inside.1 there within) in
        let p : ℕ = position_of m s u in
        let z : ℕ = offset_of m s b in
        let place = place_is m s u b p z ch wide column refl refl in
        let at_offset : ℕ = x.0.ask.offset + (z - x.0.ask.offset) in
        let on : at_offset ≡ z = omega (arith, x.3) in
        record {
          store = x.0;
          there = x.1;
          component = x.2;
          from = x.3;
          to = x.4;
          byte =
              ap (λ y. word_at m r bytes got out y b u) (sym place.0)
              ∙ ap (λ y. word_at m r bytes got out (stripe_at m p z) y u) (sym place.2)
              ∙ ap (λ y. word_at m r bytes got out (stripe_at m p z) (z % m.unit) y) (sym place.1)
              ∙ sym (store_word x.0 x.1 (z - x.0.ask.offset) (omega (arith, x.3, x.4))
              ∙ ap (λ c. word_for m r bytes got out (c / replicas m) at_offset) x.2
              ∙ ap (λ q. word_for m r bytes got out q at_offset) at_ ∙ ap (word_for m r bytes got out p) on);
        }

  -- ---- a byte of the range

  module _ (l : ℕ) (from : r.offset ≤ l) (to : l < end_of r) where
    abbrev s : ℕ
    s = stripe_of m l

    abbrev b : ℕ
    b = column_of m l

    low : data_unit_of m l < data_units m
    low = data_unit_below m l ch

    -- it is stored in its own unit
    pub own_stored : (k : ℕ) → k / replicas m ≡ position_of m (stripe_of m l) (data_unit_of m l) → among k out ≡ false →
        IsStoreOf m r bytes got out k (offset_of m (stripe_of m l) (column_of m l)) (slice_index bytes (l - r.offset))
    unfolding word_at
    own_stored k at_ there =
        let c : ℕ = data_unit_of m l in
        let inside = own_touched m r l ch from to in
        let whole = digits m.unit (data_units m) l ch.some_unit in
        let new = new_some m r bytes s b c (column_below m l ch) (omega (arith, whole, from)) (omega (arith, whole, to)) in
        let within : IsWithin b (changed m r s c) =
        rw (changed_data m r s c low, own_one m r s c (own m r s c) low refl (omega (arith, inside.0, inside.1)))
        (inl (inside.0, inside.1)) in
        let is : word_at m r bytes got out s b c ≡ slice_index bytes (l - r.offset) =
        rw (lt-ltb c (data_units m) low, new) (ap (λ n. slice_index bytes (n - r.offset)) whole) in
        subst (IsStoreOf m r bytes got out k (offset_of m s b)) is
        (unit_stored s c b (omega (arith, low)) (stripe_touched m r l ch from to) within (column_below m l ch) k at_ there)

    -- and something is stored in each unit of parity
    pub parity_stored : (u : ℕ) → data_units m ≤ u → u < group_width m →
        (k : ℕ) → k / replicas m ≡ position_of m (stripe_of m l) u → among k out ≡ false →
        IsStoreOf m r bytes got out k (offset_of m (stripe_of m l) (column_of m l))
        (word_at m r bytes got out (stripe_of m l) (column_of m l) u)
    parity_stored u high wide k at_ there =
        unit_stored s u b wide (stripe_touched m r l ch from to)
        (rw (changed_all m r s u high) (column_touched m r l ch from to)) (column_below m l ch) k at_ there

    -- which fits what was got
    pub parity_fits : (u : ℕ) → data_units m ≤ u → u < group_width m → unwritable m out (stripes m r) ≡ None →
        (0 < parities m → IsFetched Gathers m r got out) → (d : ℕ → ℕ) → AreBytes d → Agrees m got d →
        word_at m r bytes got out (stripe_of m l) (column_of m l) u ≡ word_of m (over r bytes d) (stripe_of m l) (column_of m l) u
    unfolding word_at
    parity_fits u high wide can fetched d db agrees =
        let some_parity : 0 < parities m = omega (arith, high, wide) in
        let up : data_units m + (u - data_units m) ≡ u = omega (arith, high) in
        rw (le-ltb u (data_units m) high) (
        parity_right m r bytes got out d s b (u - data_units m) ch db some can (fetched some_parity)
        (λ c lt g. agrees s b c lt g) (stripe_touched m r l ch from to) (column_below m l ch) (omega (arith, up, wide))
        (column_touched m r l ch from to)
        ∙ sym (parity_is m (over r bytes d) s b u ch high wide))
