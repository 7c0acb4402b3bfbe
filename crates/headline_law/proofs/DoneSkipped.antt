-- A piece of which a repair reads nothing: its columns are short, or each is the one copy of a byte.
-- Towards `DoneFollows` (`specs/Parts.antt`).
use Rattle.std.proofs.Common.{◌≡◌, ◌==◌, ℕ, zero, suc, ◌+◌, ◌-◌, ◌*◌, ◌/◌, ◌%◌, ◌<◌, ◌≤◌, Bool, true, nat_lt, List, [], ◌∷◌, length, slice_get, filter, Option, Some, None, refl, sym, ap, subst, ◌∙◌, inl, inr, arith, if◌then◌else◌}
use Rattle.std.specs.Prelude.{is_none}
use Rattle.std.specs.List.{range_with_len}
use Rattle.std.proofs.lemmas.Bool.{cases_Bool, eqb-true, eq-eqb, ne_eqb, lt-ltb}
use Rattle.std.proofs.lemmas.Bool.Decides.{nat_tests}
use Rattle.std.proofs.lemmas.Nat.{div-add-mod', div-mul-add, mod_below}
use Rattle.osd_lists.proofs.Slices.{some_at}
use Rattle.data_map.specs.declared.check.RawMap.{RawMap}
use Rattle.data_map.specs.Check.{IsChecked}
use Rattle.data_map.specs.Striping.{replicas, positions, group_width, parities, stripe_of, data_unit_of, group_of, position_of, offset_of, place_of}
use Rattle.data_map.specs.Inverse.{stripe_at, byte_at}
use Rattle.data_map.proofs.Shape.{replicas_inside, some_data}
use Rattle.data_map.proofs.Striping.{group_in_position, position_in_range, position_below, data_unit_below, found_again, group_inside}
use Rattle.server_rules.specs.Commands.{Reading, OfGroup}
use Rattle.server_rules.specs.Laws.{In}
use Rattle.server_rules.specs.Maps.{group_with}
use Rattle.server_rules.specs.Pieces.{reads}
use Rattle.server_rules.specs.Repair.{is_left, repair_reads}
use Rattle.server_rules.specs.Standing.{replica, lacking, is_short}
use Rattle.server_rules.proofs.Members.{in_filtered}
use Rattle.history_law.specs.Names.{Kept, Component, Piece}
use Rattle.fence_law.specs.Columns.{Short, Stands}
use Rattle.fence_law.specs.State.{State, Layout}
use Rattle.plan_law.specs.FileLayout.{layout_of, position_in, column_of_cell}
use Rattle.plan_law.proofs.Cells.{with_parity, is_coded, is_plain, cell_coded, cell_plain, stands_at, lies_there}
use Rattle.plan_law.proofs.Codes.{all_data, data_word}
use Rattle.plan_law.proofs.PieceRows.{place}
use Rattle.file_simulation.specs.Jobs.{HasColumn}
use Rattle.headline_law.proofs.OweAsked.{meant_in, meant_group}
use Rattle.headline_law.proofs.OweReplicas.{none_stands}

-- ---- a group that is short

range_in : (a n i : ℕ) → In i (range_with_len a n) → (a ≤ i) × (i < a + n)
range_in a zero i x = absurd x
range_in a (suc n) i (inl same) = (omega (arith, same), omega (arith, same))
range_in a (suc n) i (inr x) = let r = range_in (a + 1) n i x in (omega (arith, r.0), omega (arith, r.1))

some_in : (xs : List ℕ) → nat_lt 0 (length xs) ≡ true → (x : ℕ) × In x xs
some_in [] e = absurd (cc e)
some_in (x ∷ xs) e = (x, inl refl)

none_is : (o : Option ℕ) → is_none o ≡ true → o ≡ None
none_is None e = refl
none_is (Some n) e = absurd (cc e)

-- one of its positions has no present replica
short_position : (m : RawMap) (cs : List Component) (group : ℕ) → is_short m cs group ≡ true →
    (position : ℕ) × (group * group_width m ≤ position) × (position < group * group_width m + group_width m) ×
    (replica m cs position ≡ None)
unfolding lacking
short_position m cs group short =
    let x = some_in (filter (λ (p : ℕ). is_none (replica m cs p))
    (range_with_len (group * group_width m) (group_width m))) short in
    let r = in_filtered (λ (p : ℕ). is_none (replica m cs p)) x.0 (range_with_len (group * group_width m) (group_width m)) x.1 in
    let at = range_in (group * group_width m) (group_width m) x.0 r.0 in
    (x.0, at.0, at.1, none_is (replica m cs x.0) r.1)

module _ (t : State) (k : Kept) (tag : ℕ) (layout : t.layout ≡ layout_of k.map tag) (c : IsChecked k.map)
    (many : length k.components ≡ k.map.comps)
    (lost : (n : ℕ) (at : Component) → slice_get k.components n ≡ Some at → at.missing ≡ true → t.lost n ≡ true) where
  abbrev m : RawMap
  m = k.map

  below_of : (n z : ℕ) → t.layout.is_cell n z ≡ true → n < m.comps
  below_of n z is = less n (sym (ap (λ (l : Layout). l.is_cell n z) layout) ∙ is)
    where
      less : (n : ℕ) → nat_lt n k.map.comps ≡ true → n < k.map.comps
      less n e = grind (arith, nat_tests, e)

  col_of : (n z x : ℕ) → t.layout.cell_col n z ≡ x → column_of_cell m n z ≡ x
  col_of n z x col = sym (ap (λ (l : Layout). l.cell_col n z) layout) ∙ col

  first_of : (position : ℕ) → position * replicas m / replicas m ≡ position
  first_of position =
      ap (λ (x : ℕ). x / replicas k.map) (let y : position * replicas k.map ≡ position * replicas k.map + 0 = omega arith in y)
      ∙ div-mul-add position (replicas k.map) 0 (omega arith)

  -- a column is short that has a cell of a position of which all components are missing
  short_at : (position z x : ℕ) → position < positions m → column_of_cell m (position * replicas m) z ≡ x →
      ((n : ℕ) (at : Component) → slice_get k.components n ≡ Some at → n / replicas m ≡ position → at.missing ≡ true) →
      Short t x
  short_at position z x low col missing =
      let below : position * replicas k.map < k.map.comps = omega (arith, replicas_inside k.map position c low) in (
        position * replicas k.map,
        z,
        ap (λ (l : Layout). l.is_cell (position * replicas k.map) z) layout
            ∙ lt-ltb (position * replicas k.map) k.map.comps below,
        ap (λ (l : Layout). l.cell_col (position * replicas k.map) z) layout ∙ col,
        λ f y is col_ same.
            let under : f < k.map.comps = below_of f y is in
            let at = some_at k.components f (omega (arith, under, many)) in
            lost f at.0 at.1
            (missing f at.0 at.1
            (sym (ap (λ (l : Layout). l.position f) layout) ∙ same
            ∙ ap (λ (l : Layout). l.position (position * replicas k.map)) layout ∙ first_of position)),
      )

  -- with parity a column of a stripe has a cell of each position of its group
  coded_cell : 0 < parities m → (p : Piece) (x position : ℕ) → HasColumn m p x → position / group_width m ≡ group_of m p.stripe →
      column_of_cell m (position * replicas m) (offset_of m p.stripe (x % m.unit)) ≡ x
  coded_cell some p x position has group =
      let stripe : x / k.map.unit ≡ p.stripe =
      sym (ap (λ (b : Bool). if b then x / k.map.unit else stripe_of k.map x) (is_coded k.map some)) ∙ has.stripe in
      let unit : x % k.map.unit < k.map.unit = mod_below x k.map.unit c.some_unit in
      let at = place k.map p.stripe (x % k.map.unit) position c unit group in
      cell_coded k.map (position * replicas k.map) (offset_of k.map p.stripe (x % k.map.unit)) some
      ∙ ap (λ (q : ℕ). stripe_at k.map q (offset_of k.map p.stripe (x % k.map.unit)) * k.map.unit
      + offset_of k.map p.stripe (x % k.map.unit) % k.map.unit) (first_of position)
      ∙ ap (λ (s : ℕ). s * k.map.unit + offset_of k.map p.stripe (x % k.map.unit) % k.map.unit) at.0
      ∙ ap (λ (b : ℕ). p.stripe * k.map.unit + b) at.2
      ∙ ap (λ (s : ℕ). s * k.map.unit + x % k.map.unit) (sym stripe) ∙ div-add-mod' x k.map.unit

  plain_cell : parities m ≡ 0 → (x : ℕ) →
      column_of_cell m ((place_of m x).position * replicas m) (place_of m x).offset ≡ x
  plain_cell none x =
      cell_plain k.map ((place_of k.map x).position * replicas k.map) (place_of k.map x).offset none
      ∙ ap (λ (q : ℕ). byte_at k.map q (place_of k.map x).offset) (first_of (place_of k.map x).position) ∙ found_again k.map x c

  -- ---- no component of the group is present

  all_gone : (p : Piece) (x : ℕ) → HasColumn m p x →
      ((n : ℕ) (at : Component) → slice_get k.components n ≡ Some at → group_with m n ≡ group_of m p.stripe →
      at.missing ≡ true) → Short t x
  all_gone p x has missing = elim (with_parity k.map) [
    | inl some ↦
        let wide : 0 < group_width k.map = omega (arith, some_data k.map c) in
        let group = group_in_position k.map p.stripe 0 wide in
        short_at (position_of k.map p.stripe 0) (offset_of k.map p.stripe (x % k.map.unit)) x
        (position_in_range k.map p.stripe 0 c wide) (coded_cell some p x (position_of k.map p.stripe 0) has group)
        (λ n at there here. missing n at there (ap (λ (q : ℕ). q / group_width k.map) here ∙ group))
    | inr none ↦
        let stripe : stripe_of k.map x ≡ p.stripe =
        sym (ap (λ (b : Bool). if b then x / k.map.unit else stripe_of k.map x) (is_plain k.map none)) ∙ has.stripe in
        let wide : data_unit_of k.map x < group_width k.map = omega (arith, data_unit_below k.map x c) in
        let group : (place_of k.map x).position / group_width k.map ≡ group_of k.map p.stripe =
        group_in_position k.map (stripe_of k.map x) (data_unit_of k.map x) wide ∙ ap (group_of k.map) stripe in
        short_at (place_of k.map x).position (place_of k.map x).offset x (position_below k.map x c) (plain_cell none x)
        (λ n at there here. missing n at there (ap (λ (q : ℕ). q / group_width k.map) here ∙ group))
  ]

  -- ---- a byte without parity and mirrors

  -- has one copy, and is what that has
  one_copy : parities m ≡ 0 → k.map.mirrors ≡ 0 → (x : ℕ) →
      Stands t x (λ q. t.cell (place_of k.map q).position (place_of k.map q).offset)
  one_copy none alone x n z is col stands =
      let below = below_of n z is in
      let at : byte_at k.map (position_in k.map n) z ≡ x = sym (cell_plain k.map n z none) ∙ col_of n z x col in
      let lies = lies_there k.map (position_in k.map n) z c (stands_at k.map n c below) (all_data k.map n z c none) in
      let own : n / replicas k.map ≡ n =
      div-add-one n (replicas k.map) (ap (λ (i : ℕ). i + 1) alone) in
      sym (
      ap (λ (l : Layout). l.word n z (λ q. t.cell (place_of k.map q).position (place_of k.map q).offset)) layout
      ∙ data_word k.map n z (λ q. t.cell (place_of k.map q).position (place_of k.map q).offset) (all_data k.map n z c none)
      ∙ ap (λ (i : ℕ). t.cell i (place_of k.map (byte_at k.map (position_in k.map n) z)).offset) (lies.0 ∙ own)
      ∙ ap (t.cell n) lies.1
      )
    where
      div-add-one : (a b : ℕ) → b ≡ 1 → a / b ≡ a
      div-add-one a b one =
          ap (λ (i : ℕ). a / i) one ∙ ap (λ (i : ℕ). i / 1) (let y : a ≡ a * 1 + 0 = omega arith in y)
          ∙ div-mul-add a 1 0 (omega arith)

  -- ---- nothing is read

  none_read : (p : Piece) (nonce : ℕ) → reads k p nonce ≡ [] → (n : ℕ) (at : Component) →
      slice_get k.components n ≡ Some at → group_with m n ≡ group_of m p.stripe → at.missing ≡ true
  none_read p nonce none n at there group = elim (cases_Bool at.missing) [
    | inl gone ↦ gone
    | inr stands ↦
        let same : 0 + n ≡ n = omega arith in
        let r = meant_in k (OfGroup (group_of k.map p.stripe)) (Reading (offset_of k.map p.stripe p.column) p.count)
        k.components 0 nonce n at there stands
        (meant_group k (group_of k.map p.stripe) (0 + n) (ap (group_with k.map) same ∙ group)) in
        absurd (subst (In r.0) none r.1)
  ]

  -- each column of the piece that isn't short stands
  pub skipped : (p : Piece) (nonce x : ℕ) → repair_reads k p nonce ≡ [] → HasColumn k.map p x → (Short t x → ⊥) →
      (d : ℕ → ℕ) × Stands t x d
  unfolding repair_reads
  skipped p nonce x none has not_short = elim (cases_Bool (is_left k p)) [
    | inr read ↦ absurd (not_short (all_gone p x has (none_read p nonce (rw read at none))))
    | inl left ↦ elim (with_parity k.map) [
      | inl some ↦
          let short : is_short k.map k.components (group_of k.map p.stripe) ≡ true =
          sym (ap (λ (b : Bool). if b then k.map.mirrors == 0 else is_short k.map k.components (group_of k.map p.stripe))
          (ne_eqb (parities k.map) 0 (λ (z : parities k.map ≡ 0). omega (arith, some, z)))) ∙ left in
          let r = short_position k.map k.components (group_of k.map p.stripe) short in
          let group : r.0 / group_width k.map ≡ group_of k.map p.stripe = in_group r.0 r.1 r.2 in
          absurd (not_short (short_at r.0 (offset_of k.map p.stripe (x % k.map.unit)) x
          (omega (arith, r.2, group_inside k.map p.stripe c))
          (coded_cell some p x r.0 has group) (none_stands k.map r.0 k.components r.3)))
      | inr plain ↦
          let alone : (k.map.mirrors == 0) ≡ true =
          sym (ap (λ (b : Bool). if b then k.map.mirrors == 0 else is_short k.map k.components (group_of k.map p.stripe))
          (eq-eqb (parities k.map) 0 plain)) ∙ left in
          (_, one_copy plain (eqb-true k.map.mirrors 0 alone) x)
    ]
  ]
    where
      in_group : (q : ℕ) → group_of k.map p.stripe * group_width k.map ≤ q →
          q < group_of k.map p.stripe * group_width k.map + group_width k.map → q / group_width k.map ≡ group_of k.map p.stripe
      in_group q low high =
          let sum : q ≡ group_of k.map p.stripe * group_width k.map + (q - group_of k.map p.stripe * group_width k.map) =
          omega (arith, low) in
          ap (λ (y : ℕ). y / group_width k.map) sum
          ∙ div-mul-add (group_of k.map p.stripe) (group_width k.map) (q - group_of k.map p.stripe * group_width k.map)
          (omega (arith, low, high))
