-- What a repair writes of the rows that it read: words of the bytes of present replicas, and all that isn't there yet.
-- Towards `OweFollows` and `DoneFollows` (`specs/Parts.antt`).
use Rattle.std.proofs.Common.{◌≡◌, ◌⊎◌, ◌==◌, ℕ, ◌+◌, ◌-◌, ◌/◌, ◌%◌, ◌<◌, ◌≤◌, Bool, true, false, List, length, slice_get, slice_range, Option, Some, None, refl, sym, ap, subst, ◌∙◌, inl, inr, arith, if◌then◌else◌}
use Rattle.std.specs.Prelude.{get_or}
use Rattle.std.proofs.lemmas.Bool.{cases_eq, ne_eqb}
use Rattle.std.proofs.lemmas.List.{get_or-replicate}
use Rattle.std.proofs.lemmas.Nat.{mod_below}
use Rattle.std.proofs.lemmas.Option.{slice_get_within}
use Rattle.data_map.specs.declared.check.RawMap.{RawMap}
use Rattle.data_map.specs.Check.{IsChecked}
use Rattle.data_map.specs.Striping.{group_width, parities, data_units, stripe_of, column_of, data_unit_of, group_of, position_of, offset_of, place_of}
use Rattle.data_map.specs.Inverse.{stripe_at, byte_at}
use Rattle.data_map.proofs.Striping.{group_in_position, placed, column_below, data_unit_below, turned_below}
use Rattle.server_rules.specs.Columns.{row_from, row_at, unit_rows, unit_with, wanted, first_unlike, end_of}
use Rattle.server_rules.specs.Laws.{In}
use Rattle.server_rules.specs.Maps.{group_with}
use Rattle.server_rules.specs.Pieces.{stores, is_off}
use Rattle.server_rules.specs.Repair.{is_left}
use Rattle.server_rules.specs.Standing.{replica, is_short}
use Rattle.stripe_plan.specs.Touched.{unit_start}
use Rattle.stripe_repair.proofs.CodewordLaws.{row_long}
use Rattle.history_law.specs.Names.{Kept, Component, Awaited, Heard, Piece}
use Rattle.fence_law.specs.State.{State, Layout}
use Rattle.plan_law.specs.FileLayout.{layout_of, position_in, column_at, column_of_cell}
use Rattle.plan_law.specs.Pieces.{AreWords as AreRowWords}
use Rattle.plan_law.proofs.Cells.{with_parity, cell_coded, cell_plain, col_coded, col_plain, digits_apart, stands_at, lies_there}
use Rattle.plan_law.proofs.Codes.{lies_copy, all_data}
use Rattle.plan_law.proofs.PieceRows.{place, repairs_write_words}
use Rattle.file_simulation.specs.Jobs.{HasColumn, AreWords, AreSourced, IsSourced}
use Rattle.relation_law.proofs.RepairAsked.{wanted_long, first_within}
use Rattle.headline_law.specs.OweAsking.{IsOfPiece}
use Rattle.headline_law.proofs.OweReplicas.{IsReplica, replica_is, some_replica, not_short, IsPlaced, placed_in}
use Rattle.headline_law.proofs.OweUnlike.{store_at, stored_is, stored_in, unlike_off, IsCut, cut_is, off_is}

-- the rows that were read of a piece are cells of components that aren't gone, and the piece isn't left as it is
pub record RowsAre (t : State) (k : Kept) (p : Piece) (heard : List Heard) : Type 0 where
  pub right : is_left k p ≡ false
  pub rows : (n : ℕ) → IsOfPiece k p n → (t.gone n ≡ false) × ((i : ℕ) → i < p.count →
      get_or (row_from heard n p.count) i 0 ≡ t.cell n (offset_of k.map p.stripe p.column + i))

-- the byte of a place, as a replica has it; 0 where there is none
abbrev by_replica : (cell : ℕ → ℕ → ℕ) → (z : ℕ) → Option ℕ → ℕ
by_replica cell z None = 0
by_replica cell z (Some f) = cell f z

-- byte q of a file as the first present replica of its position has it
abbrev pub read_byte : RawMap → List Component → (cell : ℕ → ℕ → ℕ) → (q : ℕ) → ℕ
read_byte m cs cell q = by_replica cell (place_of m q).offset (replica m cs (place_of m q).position)

-- what is written of a component's cell
pub record IsWrittenTo (t : State) (e : ℕ → ℕ) (ws : List Awaited) (nonce n z : ℕ) : Type 0 where
  pub command : Awaited
  pub among : In command ws
  pub component : command.component ≡ n
  pub first : command.command.offset ≤ z
  pub past : z < command.command.offset + length command.command.payload
  pub word : get_or command.command.payload (z - command.command.offset) 0 ≡ t.layout.word n z e
  pub later : nonce ≤ command.command.nonce

module _ (t : State) (k : Kept) (tag : ℕ) (layout : t.layout ≡ layout_of k.map tag) (c : IsChecked k.map)
    (many : length k.components ≡ k.map.comps) (p : Piece) (heard : List Heard) (are : RowsAre t k p heard) where
  abbrev m : RawMap
  m = k.map

  abbrev e : ℕ → ℕ
  e = read_byte k.map k.components t.cell

  abbrev rows : List (List ℕ)
  rows = unit_rows k.map k.components p.stripe heard p.count

  abbrev want : ℕ → List ℕ
  want n = wanted k.map (unit_rows k.map k.components p.stripe heard p.count) (unit_with k.map p.stripe n) p.count

  abbrev have : ℕ → List ℕ
  have n = row_from heard n p.count

  -- a present replica of a position of the piece's group
  of_group : (position f : ℕ) → position / group_width m ≡ group_of m p.stripe → IsReplica m k.components position f →
      IsOfPiece k p f
  of_group position f group r = record {
    component = r.component;
    there = r.there;
    present = r.present;
    group = ap (λ (x : ℕ). x / group_width k.map) r.at ∙ group;
  }

  -- ---- words

  row_is : (u j : ℕ) → u < group_width m → j < p.count → (o : Option ℕ) →
      replica m k.components (position_of m p.stripe u) ≡ o →
      get_or (row_at heard o p.count) j 0 ≡ by_replica t.cell (offset_of m p.stripe (p.column + j)) o
  row_is u j wide low None is = get_or-replicate p.count j 0 0 low
  row_is u j wide low (Some f) is =
      let r = replica_is k.map (position_of k.map p.stripe u) k.components f is in
      (are.rows f (of_group (position_of k.map p.stripe u) f (group_in_position k.map p.stripe u wide) r)).1 j low
      ∙ ap (t.cell f) (omega arith)

  unit_is : p.count ≤ m.unit - p.column → (u j : ℕ) → u < data_units m → j < p.count →
      get_or (row_at heard (replica m k.components (position_of m p.stripe u)) p.count) j 0
      ≡ e (unit_start m p.stripe u + (p.column + j))
  unit_is inside u j low less =
      let at = placed k.map p.stripe u (p.column + j) low (omega (arith, inside, less)) in
      row_is u j (omega (arith, low)) less (replica k.map k.components (position_of k.map p.stripe u)) refl
      ∙ ap (λ (z : ℕ). by_replica t.cell z (replica k.map k.components (position_of k.map p.stripe u))) (sym at.1)
      ∙ ap (λ (x : ℕ). by_replica t.cell (place_of k.map (unit_start k.map p.stripe u + (p.column + j))).offset
      (replica k.map k.components x)) (sym at.0)

  words_of : p.count ≤ m.unit - p.column → (n : ℕ) → group_with m n ≡ group_of m p.stripe →
      AreRowWords m p.stripe p.column p.count n e (want n)
  words_of inside n group =
      repairs_write_words k.map k.components heard p.stripe p.column p.count e c (unit_is inside) n group

  -- the wanted byte of a column is the word of the cell there
  want_is : p.count ≤ m.unit - p.column → (n : ℕ) → group_with m n ≡ group_of m p.stripe → (j : ℕ) → j < p.count →
      get_or (want n) j 0 ≡ t.layout.word n (offset_of m p.stripe (p.column + j)) e
  want_is inside n group j low =
      words_of inside n group j (omega (arith, inside, low)) low
      ∙ ap (λ (l : Layout). l.word n (offset_of k.map p.stripe (p.column + j)) e) (sym layout)

  -- ---- sources

  stripe_is : 0 < parities m → (n j q : ℕ) → group_with m n ≡ group_of m p.stripe → p.column + j < m.unit →
      column_at m q ≡ column_of_cell m n (offset_of m p.stripe (p.column + j)) → stripe_of m q ≡ p.stripe
  stripe_is some n j q group below col =
      let at = place k.map p.stripe (p.column + j) (position_in k.map n) c below group in
      (digits_apart k.map.unit (stripe_of k.map q) (column_of k.map q)
      (stripe_at k.map (position_in k.map n) (offset_of k.map p.stripe (p.column + j)))
      (offset_of k.map p.stripe (p.column + j) % k.map.unit) (column_below k.map q c)
      (mod_below (offset_of k.map p.stripe (p.column + j)) k.map.unit c.some_unit)
      (sym (col_coded k.map q some) ∙ col ∙ cell_coded k.map n (offset_of k.map p.stripe (p.column + j)) some)).0 ∙ at.0

  -- with parity each position of the group has a present replica
  coded_replica : 0 < parities m → (q : ℕ) → stripe_of m q ≡ p.stripe →
      (f : ℕ) × (replica m k.components (place_of m q).position ≡ Some f) ×
      ((place_of m q).position / group_width m ≡ group_of m p.stripe)
  coded_replica some q stripe =
      let wide : data_unit_of k.map q < group_width k.map = omega (arith, data_unit_below k.map q c) in
      let turn = turned_below k.map (stripe_of k.map q) (data_unit_of k.map q) wide in
      let short : is_short k.map k.components (group_of k.map p.stripe) ≡ false =
      sym (ap (λ (b : Bool). if b then k.map.mirrors == 0 else is_short k.map k.components (group_of k.map p.stripe))
      (ne_eqb (parities k.map) 0 (λ (z : parities k.map ≡ 0). omega (arith, some, z)))) ∙ are.right in
      let group : group_of k.map (stripe_of k.map q) ≡ group_of k.map p.stripe = ap (group_of k.map) stripe in
      let r = not_short k.map k.components (group_of k.map (stripe_of k.map q)) (place_of k.map q).position
      (ap (is_short k.map k.components) group ∙ short) (omega arith) (omega (arith, turn)) in
      (r.0, r.1, group_in_position k.map (stripe_of k.map q) (data_unit_of k.map q) wide ∙ group)

  plain_replica : parities m ≡ 0 → (n : ℕ) → IsOfPiece k p n → (j q : ℕ) →
      column_at m q ≡ column_of_cell m n (offset_of m p.stripe (p.column + j)) →
      (f : ℕ) × (replica m k.components (place_of m q).position ≡ Some f) ×
      ((place_of m q).position / group_width m ≡ group_of m p.stripe)
  plain_replica none n of j q col =
      let z : ℕ = offset_of k.map p.stripe (p.column + j) in
      let below : n < k.map.comps = omega (arith, slice_get_within k.components n of.component of.there, many) in
      let same : q ≡ byte_at k.map (position_in k.map n) (offset_of k.map p.stripe (p.column + j)) =
      sym (col_plain k.map q none) ∙ col ∙ cell_plain k.map n (offset_of k.map p.stripe (p.column + j)) none in
      let lies = lies_there k.map (position_in k.map n) (offset_of k.map p.stripe (p.column + j)) c (stands_at k.map n c below)
      (all_data k.map n (offset_of k.map p.stripe (p.column + j)) c none) in
      let position : (place_of k.map q).position ≡ position_in k.map n =
      ap (λ (x : ℕ). (place_of k.map x).position) same ∙ lies.0 in
      let r = some_replica k.map (place_of k.map q).position k.components n of.component of.there of.present (sym position) in
      (r.0, r.1, ap (λ (x : ℕ). x / group_width k.map) position ∙ of.group)

  -- each byte of the column of a present component's cell is that of a copy that isn't gone
  sourced : (n : ℕ) → IsOfPiece k p n → (j : ℕ) → p.column + j < m.unit →
      IsSourced t e (t.layout.cell_col n (offset_of m p.stripe (p.column + j)))
  sourced n of j below q col =
      let at : column_at k.map q ≡ column_of_cell k.map n (offset_of k.map p.stripe (p.column + j)) =
      ap (λ (l : Layout). l.col q) (sym layout) ∙ col
      ∙ ap (λ (l : Layout). l.cell_col n (offset_of k.map p.stripe (p.column + j))) layout in
      let r = by_parity at (with_parity k.map) in
      let it = replica_is k.map (place_of k.map q).position k.components r.0 r.1 in (
        r.0,
        (place_of k.map q).offset,
        ap (λ (l : Layout). l.copy r.0 (place_of k.map q).offset q) layout
            ∙ lies_copy k.map r.0 (place_of k.map q).offset q (sym it.at, refl),
        (are.rows r.0 (of_group (place_of k.map q).position r.0 r.2 it)).0,
        ap (by_replica t.cell (place_of k.map q).offset) r.1,
      )
    where
      by_parity : column_at k.map q ≡ column_of_cell k.map n (offset_of k.map p.stripe (p.column + j)) →
          (0 < parities k.map) ⊎ (parities k.map ≡ 0) →
          (f : ℕ) × (replica k.map k.components (place_of k.map q).position ≡ Some f) ×
          ((place_of k.map q).position / group_width k.map ≡ group_of k.map p.stripe)
      by_parity at (inl some) = coded_replica some q (stripe_is some n j q of.group below at)
      by_parity at (inr none) = plain_replica none n of j q at

  -- ---- what is written

  cut : (n : ℕ) → IsCut (have n) (want n) (slice_range (want n) (first_unlike (have n) (want n)) (end_of (have n) (want n)))
      (first_unlike (have n) (want n))
  cut n = cut_is (have n) (want n) (first_within (have n) (want n))

  long : (n : ℕ) → length (want n) ≡ p.count
  long n = wanted_long k.map rows (unit_with k.map p.stripe n) p.count

  cut_word : p.count ≤ m.unit - p.column → (n : ℕ) → group_with m n ≡ group_of m p.stripe → (i : ℕ) →
      i < length (slice_range (want n) (first_unlike (have n) (want n)) (end_of (have n) (want n))) →
      get_or (slice_range (want n) (first_unlike (have n) (want n)) (end_of (have n) (want n))) i 0
      ≡ t.layout.word n ((offset_of m p.stripe p.column + first_unlike (have n) (want n)) + i) e
  cut_word inside n group i below =
      let sum : offset_of k.map p.stripe (p.column + (first_unlike (have n) (want n) + i))
      ≡ (offset_of k.map p.stripe p.column + first_unlike (have n) (want n)) + i = omega arith in
      (cut n).bytes_are i below
      ∙ want_is inside n group (first_unlike (have n) (want n) + i) (omega (arith, (cut n).inside, long n, below))
      ∙ ap (λ (z : ℕ). t.layout.word n z e) sum

  cut_sourced : p.count ≤ m.unit - p.column → (n : ℕ) → IsOfPiece k p n → (i : ℕ) →
      i < length (slice_range (want n) (first_unlike (have n) (want n)) (end_of (have n) (want n))) →
      IsSourced t e (t.layout.cell_col n ((offset_of m p.stripe p.column + first_unlike (have n) (want n)) + i))
  cut_sourced inside n of i below =
      let sum : offset_of k.map p.stripe (p.column + (first_unlike (have n) (want n) + i))
      ≡ (offset_of k.map p.stripe p.column + first_unlike (have n) (want n)) + i = omega arith in
      subst (λ (z : ℕ). IsSourced t e (t.layout.cell_col n z)) sum
      (sourced n of (first_unlike (have n) (want n) + i) (omega (arith, inside, (cut n).inside, long n, below)))

  -- each WRITE has words of these bytes, of copies that aren't gone
  pub rows_words : p.count ≤ k.map.unit - p.column → (nonce : ℕ) (a : Awaited) → In a (stores k p heard nonce) →
      AreWords t (read_byte k.map k.components t.cell) a.component a.command.offset a.command.payload ×
      AreSourced t (read_byte k.map k.components t.cell) a.component a.command.offset a.command.payload
  rows_words inside nonce a i =
      let st = stored_is k p rows heard k.components 0 nonce a i in
      let off = off_is k p (have (0 + st.index)) (want (0 + st.index)) st.component (0 + st.index) st.off in
      let same : 0 + st.index ≡ st.index = omega arith in
      let of : IsOfPiece k p (0 + st.index) = record {
        component = st.component;
        there = ap (slice_get k.components) same ∙ st.there;
        present = off.0;
        group = off.1;
      } in
      subst (λ (x : Awaited). AreWords t e x.component x.command.offset x.command.payload ×
      AreSourced t e x.component x.command.offset x.command.payload) (sym st.is) (
        λ j below. cut_word inside (0 + st.index) off.1 j below,
        λ j below. cut_sourced inside (0 + st.index) of j below,
      )

  written_at : p.count ≤ m.unit - p.column → (nonce n z : ℕ) (at : Component) → slice_get k.components n ≡ Some at →
      at.missing ≡ false → (l : IsPlaced m p n z) → (get_or (have n) l.index 0 ≡ get_or (want n) l.index 0 → ⊥) →
      IsWrittenTo t e (stores k p heard nonce) nonce n z
  written_at inside nonce n z at there stands l differ =
      let row : length (have n) ≡ p.count = row_long heard n p.count in
      let low : l.index < length (have n) = omega (arith, l.low, row) in
      let below : l.index < length (want n) = omega (arith, l.low, long n) in
      let off = unlike_off k p (have n) (want n) at n l.index stands l.group low below differ in
      let same : n ≡ 0 + n = omega arith in
      let r = stored_in k p rows heard k.components 0 nonce n at there
      (subst (λ (i : ℕ). is_off k p (have i) (want i) at i ≡ true) same off) in
      let span = (cut n).unlike l.index low below differ in
      let base : z ≡ offset_of k.map p.stripe p.column + l.index = l.offset ∙ omega arith in
      let back : first_unlike (have n) (want n)
      + (z - (offset_of k.map p.stripe p.column + first_unlike (have n) (want n))) ≡ l.index =
      omega (arith, base, span.0) in
      record {
        command = store_at k p rows heard at n r.0;
        among = subst (λ (i : ℕ). In (store_at k p rows heard at i r.0) (stores k p heard nonce)) (sym same) r.2;
        component = refl;
        first = omega (arith, base, span.0);
        past = omega (arith, base, span.1);
        word = (cut n).bytes_are (z - (offset_of k.map p.stripe p.column + first_unlike (have n) (want n)))
            (omega (arith, base, span.0, span.1))
            ∙ ap (λ (i : ℕ). get_or (want n) i 0) back ∙ want_is inside n l.group l.index l.low
            ∙ ap (λ (y : ℕ). t.layout.word n y e) (sym l.offset);
        later = r.1;
      }

  -- each cell of the piece of a present component has its word, or is written
  pub rows_owe : p.count ≤ k.map.unit - p.column → (nonce n z : ℕ) (at : Component) → slice_get k.components n ≡ Some at →
      at.missing ≡ false → HasColumn k.map p (column_of_cell k.map n z) →
      (t.cell n z ≡ t.layout.word n z (read_byte k.map k.components t.cell)) ⊎
      IsWrittenTo t (read_byte k.map k.components t.cell) (stores k p heard nonce) nonce n z
  rows_owe inside nonce n z at there stands has =
      let below : n < k.map.comps = omega (arith, slice_get_within k.components n at there, many) in
      let l = placed_in k.map p n z c below has in
      let of : IsOfPiece k p n = record { component = at; there = there; present = stands; group = l.group } in
      let base : offset_of k.map p.stripe p.column + l.index ≡ z = sym (l.offset ∙ omega arith) in
      elim (cases_eq (get_or (have n) l.index 0) (get_or (want n) l.index 0)) [
        | inl same ↦ inl (ap (t.cell n) (sym base) ∙ sym ((are.rows n of).1 l.index l.low) ∙ same
            ∙ want_is inside n l.group l.index l.low ∙ ap (λ (y : ℕ). t.layout.word n y e) (sym l.offset))
        | inr differ ↦ inr (written_at inside nonce n z at there stands l differ)
      ]
