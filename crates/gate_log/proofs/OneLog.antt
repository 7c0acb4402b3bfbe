-- Contents are a log in one way at most.
use Rattle.std.proofs.Common.{◌≡◌, inl, inr, ℕ, ◌+◌, ◌<◌, ◌≤◌, ◌^◌, List, [], ◌∷◌, ◌++◌, length, take, drop, refl, sym, ◌∙◌, ap, arith, append_assoc, length-append}
use Rattle.std.proofs.lemmas.List.{take_at, drop_at}
use Rattle.std.proofs.lemmas.Nat.{from_be_bytes-to_be_bytes_4}
use Rattle.std.specs.Int.{w32, to_be_bytes, from_be_bytes}
use Rattle.osd_lists.proofs.Slices.{head_same, tail_same}
use Rattle.gate_log.specs.declared.header.TheConstants.{HEADER_SIZE}
use Rattle.gate_log.specs.declared.entry.TheConstants.{MAX_BODY}
use Rattle.gate_log.specs.declared.form.Form.{Form}
use Rattle.gate_log.specs.declared.form.Form.TheVariants.{Plain, Checked}
use Rattle.gate_log.specs.Broken.{IsNoRecord, HasNoRecord, IsBrokenAt}
use Rattle.gate_log.specs.Forms.{IsBody, complement, head_of, head_size, record_of, size_of, tail_of, tail_size}
use Rattle.gate_log.specs.Logs.{Gated, records_of, IsRecord, AreRecords, bodies_of, IsFront, IsLog}

-- two parts of the same bytes, the first of them as long
pub one_split : (a b c d : List ℕ) → length a ≡ length b → a ++ c ≡ b ++ d → (a ≡ b) × (c ≡ d)
one_split a b c d same e = (
  sym (take_at a c (length a) refl) ∙ ap (λ (l : List ℕ). take (length a) l) e ∙ take_at b d (length a) (sym same),
  sym (drop_at a c (length a) refl) ∙ ap (λ (l : List ℕ). drop (length a) l) e ∙ drop_at b d (length a) (sym same),
)

-- numbers that begin the same bytes
pub same_number : (m n : ℕ) (x y : List ℕ) → m < 2 ^ 32 → n < 2 ^ 32 → to_be_bytes w32 m ++ x ≡ to_be_bytes w32 n ++ y →
    (m ≡ n) × (x ≡ y)
same_number m n x y low below e =
    let parts = one_split (to_be_bytes w32 m) (to_be_bytes w32 n) x y refl e in (
      sym (from_be_bytes-to_be_bytes_4 m low) ∙ ap (λ (l : List ℕ). from_be_bytes w32 l) parts.0
          ∙ from_be_bytes-to_be_bytes_4 n below,
      parts.1,
    )

-- heads that begin the same bytes
pub same_head : (f g : Form) (m n : ℕ) (x y : List ℕ) → m ≤ MAX_BODY → n ≤ MAX_BODY → head_of f m ++ x ≡ head_of g n ++ y →
    (f ≡ g) × (m ≡ n) × (x ≡ y)
same_head Plain Plain m n x y fits holds e =
    let same = same_number m n x y (omega (arith, fits)) (omega (arith, holds)) e in (refl, same.0, same.1)
same_head Plain Checked m n x y fits holds e =
    let same = same_number m (complement n) x (to_be_bytes w32 n ++ y) (omega (arith, fits)) (omega arith) e in
    absurd (omega (arith, fits, holds, same.0))
same_head Checked Plain m n x y fits holds e =
    let same = same_number (complement m) n (to_be_bytes w32 m ++ x) y (omega arith) (omega (arith, holds)) e in
    absurd (omega (arith, fits, holds, same.0))
same_head Checked Checked m n x y fits holds e =
    let first = same_number (complement m) (complement n) (to_be_bytes w32 m ++ x) (to_be_bytes w32 n ++ y)
    (omega arith) (omega arith) e in
    let same = same_number m n x y (omega (arith, fits)) (omega (arith, holds)) first.1 in (refl, same.0, same.1)

pub length_tail : (f : Form) (body : List ℕ) → length (tail_of f body) ≡ tail_size f
length_tail Plain body = refl
length_tail Checked body = refl

pub length_head : (f : Form) (len : ℕ) → length (head_of f len) ≡ head_size f
length_head Plain len = refl
length_head Checked len = refl

-- a record's head, its body and what follows
pub three : (f : Form) (body x : List ℕ) → record_of f body ++ x ≡ head_of f (length body) ++ (body ++ (tail_of f body ++ x))
three f body x =
    append_assoc (head_of f (length body)) (body ++ tail_of f body) x
    ∙ ap (λ (l : List ℕ). head_of f (length body) ++ l) (append_assoc body (tail_of f body) x)

pub length_record : (f : Form) (body : List ℕ) → length (record_of f body) ≡ size_of f (length body)
length_record f body =
    omega (
      arith,
      length_head f (length body),
      length_tail f body,
      length-append (head_of f (length body)) (body ++ tail_of f body),
      length-append body (tail_of f body),
    )

-- two records that stand at one place
pub same_record : (f g : Form) (body other x y : List ℕ) → IsBody body → IsBody other
    → record_of f body ++ x ≡ record_of g other ++ y → (f ≡ g) × (body ≡ other) × (x ≡ y)
same_record f g body other x y is also e =
    let heads = same_head f g (length body) (length other) (body ++ (tail_of f body ++ x)) (other ++ (tail_of g other ++ y))
    is.fits also.fits (sym (three f body x) ∙ e ∙ three g other y) in
    let bodies = one_split body other (tail_of f body ++ x) (tail_of g other ++ y) heads.1 heads.2 in
    let tails = one_split (tail_of f body) (tail_of g other) x y
    (ap (λ (h : Form). length (tail_of h body)) heads.0 ∙ length_tail g body ∙ sym (length_tail g other)) bodies.1 in
    (heads.0, bodies.0, tails.1)

-- a record before what follows it
apart : (r : Gated) (rs : List Gated) (x : List ℕ) →
    (record_of r.form r.body ++ records_of rs) ++ x ≡ record_of r.form r.body ++ (records_of rs ++ x)
apart r rs x = append_assoc (record_of r.form r.body) (records_of rs) x

same_gated : (r s : Gated) (x y : List ℕ) → IsRecord r → IsRecord s
    → record_of r.form r.body ++ x ≡ record_of s.form s.body ++ y → (r.body ≡ s.body) × (x ≡ y)
same_gated r s x y is also e =
    let same = same_record r.form s.form r.body s.body x y is.is_body also.is_body e in (same.1, same.2)

-- the same bodies, and the same bytes behind them
pub one_list : (rs ss : List Gated) (x y : List ℕ) → AreRecords rs → AreRecords ss
    → records_of rs ++ 0 ∷ x ≡ records_of ss ++ 0 ∷ y → (bodies_of rs ≡ bodies_of ss) × (x ≡ y)
one_list [] [] x y are others e = (refl, tail_same 0 0 x y e)
one_list [] (s ∷ ss) x y are others e = absurd (omega (arith, others.0.open_gate, head_same 0 s.gate _ _ e))
one_list (r ∷ rs) [] x y are others e = absurd (omega (arith, are.0.open_gate, head_same r.gate 0 _ _ e))
one_list (r ∷ rs) (s ∷ ss) x y are others e =
    let same = same_gated r s (records_of rs ++ 0 ∷ x) (records_of ss ++ 0 ∷ y) are.0 others.0
    (sym (apart r rs (0 ∷ x)) ∙ tail_same r.gate s.gate _ _ e ∙ apart s ss (0 ∷ y)) in
    let rest = one_list rs ss x y are.1 others.1 same.1 in (
      ap (λ (l : List (List ℕ)). r.body ∷ l) rest.0 ∙ ap (λ (b : List ℕ). b ∷ bodies_of ss) same.0,
      rest.1,
    )

pub one_log : (header : List ℕ) (bodies : List (List ℕ)) (other : List ℕ) (others : List (List ℕ)) (c : List ℕ) →
    IsLog header bodies c → IsLog other others c
    → (header ≡ other) × (bodies ≡ others)
one_log header bodies other others c is also =
    let f = is.is_front in
    let g = also.is_front in
    let one : c ≡ header ++ (records_of f.records ++ 0 ∷ is.rest) =
    is.contents ∙ ap (λ (l : List ℕ). l ++ 0 ∷ is.rest) f.front_is
    ∙ append_assoc header (records_of f.records) (0 ∷ is.rest) in
    let two : c ≡ other ++ (records_of g.records ++ 0 ∷ also.rest) =
    also.contents ∙ ap (λ (l : List ℕ). l ++ 0 ∷ also.rest) g.front_is
    ∙ append_assoc other (records_of g.records) (0 ∷ also.rest) in
    let parts = one_split header other _ _ (f.whole ∙ sym g.whole) (sym one ∙ two) in (
      parts.0,
      sym f.bodies_are ∙ (one_list f.records g.records is.rest also.rest f.are_records g.are_records parts.1).0
          ∙ g.bodies_are,
    )

-- behind records and a gate the bytes begin with a gate
first_gate : (ss : List Gated) (gate : ℕ) (y : List ℕ) → (g : ℕ) × (z : List ℕ) × (records_of ss ++ gate ∷ y ≡ g ∷ z)
first_gate [] gate y = (gate, y, refl)
first_gate (s ∷ ss) gate y = (s.gate, _, refl)

-- behind one gate stands no record, or one
no_record_there : (s : Gated) (ss : List Gated) (gate next : ℕ) (x y : List ℕ) → IsRecord s → IsNoRecord x →
    gate ∷ x ≡ records_of (s ∷ ss) ++ next ∷ y → ⊥
no_record_there s ss gate next x y is none e =
    let more = first_gate ss next y in
    none s.form s.body more.0 more.1 is.is_body (tail_same gate s.gate _ _ e ∙ apart s ss (next ∷ y)
    ∙ ap (λ (l : List ℕ). record_of s.form s.body ++ l) more.2)

none_there : (rs ss : List Gated) (gate : ℕ) (x y : List ℕ) → AreRecords rs → AreRecords ss → 0 < gate → IsNoRecord x →
    records_of rs ++ gate ∷ x ≡ records_of ss ++ 0 ∷ y → ⊥
none_there [] [] gate x y are others lo none e = omega (arith, lo, head_same gate 0 _ _ e)
none_there (r ∷ rs) [] gate x y are others lo none e = omega (arith, are.0.open_gate, head_same r.gate 0 _ _ e)
none_there [] (s ∷ ss) gate x y are others lo none e = no_record_there s ss gate 0 x y others.0 none e
none_there (r ∷ rs) (s ∷ ss) gate x y are others lo none e =
    let same = same_gated r s (records_of rs ++ gate ∷ x) (records_of ss ++ 0 ∷ y) are.0 others.0
    (sym (apart r rs (gate ∷ x)) ∙ tail_same r.gate s.gate _ _ e ∙ apart s ss (0 ∷ y)) in
    none_there rs ss gate x y are.1 others.1 lo none same.1

pub broken_is_none : (header : List ℕ) (bodies : List (List ℕ)) (c : List ℕ) (at : ℕ) → IsBrokenAt c at → IsLog header bodies c →
    ⊥
broken_is_none header bodies c at (inl short) is =
    let f = is.is_front in
    omega (
      arith,
      short.0,
      ap length is.contents,
      ap length f.front_is,
      f.whole,
      length-append is.front (0 ∷ is.rest),
      length-append header (records_of f.records),
    )
broken_is_none header bodies c at (inr cut) is =
    let f = is.is_front in
    let g = cut.is_front in
    let one : c ≡ header ++ (records_of f.records ++ 0 ∷ is.rest) =
    is.contents ∙ ap (λ (l : List ℕ). l ++ 0 ∷ is.rest) f.front_is
    ∙ append_assoc header (records_of f.records) (0 ∷ is.rest) in
    let two : c ≡ cut.header ++ (records_of g.records ++ cut.gate ∷ cut.rest) =
    cut.contents ∙ ap (λ (l : List ℕ). l ++ cut.gate ∷ cut.rest) g.front_is
    ∙ append_assoc cut.header (records_of g.records) (cut.gate ∷ cut.rest) in
    let parts = one_split cut.header header _ _ (g.whole ∙ sym f.whole) (sym two ∙ one) in
    none_there g.records f.records cut.gate cut.rest is.rest g.are_records f.are_records cut.open_gate cut.no_record parts.1

-- ---- the place where contents are broken

length_records : (r : Gated) (rs : List Gated) →
    length (records_of (r ∷ rs)) ≡ 1 + length (record_of r.form r.body) + length (records_of rs)
length_records r rs = omega (arith, length-append (record_of r.form r.body) (records_of rs))

one_place : (rs ss : List Gated) (g h : ℕ) (x y : List ℕ) → AreRecords rs → AreRecords ss → IsNoRecord x → IsNoRecord y →
    records_of rs ++ g ∷ x ≡ records_of ss ++ h ∷ y
    → length (records_of rs) ≡ length (records_of ss)
one_place [] [] g h x y are others here none e = refl
one_place [] (s ∷ ss) g h x y are others here none e = absurd (no_record_there s ss g h x y others.0 here e)
one_place (r ∷ rs) [] g h x y are others here none e = absurd (no_record_there r rs h g y x are.0 none (sym e))
one_place (r ∷ rs) (s ∷ ss) g h x y are others here none e =
    let same = same_gated r s (records_of rs ++ g ∷ x) (records_of ss ++ h ∷ y) are.0 others.0
    (sym (apart r rs (g ∷ x)) ∙ tail_same r.gate s.gate _ _ e ∙ apart s ss (h ∷ y)) in
    let alike = same_record r.form s.form r.body s.body (records_of rs ++ g ∷ x) (records_of ss ++ h ∷ y) are.0.is_body
    others.0.is_body (sym (apart r rs (g ∷ x)) ∙ tail_same r.gate s.gate _ _ e ∙ apart s ss (h ∷ y)) in
    omega (
      arith,
      length_records r rs,
      length_records s ss,
      ap (λ (f : Form). length (record_of f r.body)) alike.0,
      ap (λ (b : List ℕ). length (record_of s.form b)) alike.1,
      one_place rs ss g h x y are.1 others.1 here none same.1,
    )

behind_header : (c : List ℕ) (at : ℕ) → HasNoRecord c at → length c ≤ HEADER_SIZE → ⊥
behind_header c at cut short =
    let f = cut.is_front in
    omega (
      arith,
      short,
      ap length cut.contents,
      ap length f.front_is,
      f.whole,
      length-append cut.front (cut.gate ∷ cut.rest),
      length-append cut.header (records_of f.records),
    )

pub broken_at_one_place : (c : List ℕ) (at other : ℕ) → IsBrokenAt c at → IsBrokenAt c other → at ≡ other
broken_at_one_place c at other (inl short) (inl also) = short.1 ∙ sym also.1
broken_at_one_place c at other (inl short) (inr cut) = absurd (behind_header c other cut short.0)
broken_at_one_place c at other (inr cut) (inl short) = absurd (behind_header c at cut short.0)
broken_at_one_place c at other (inr cut) (inr also) =
    let f = cut.is_front in
    let g = also.is_front in
    let one : c ≡ cut.header ++ (records_of f.records ++ cut.gate ∷ cut.rest) =
    cut.contents ∙ ap (λ (l : List ℕ). l ++ cut.gate ∷ cut.rest) f.front_is
    ∙ append_assoc cut.header (records_of f.records) (cut.gate ∷ cut.rest) in
    let two : c ≡ also.header ++ (records_of g.records ++ also.gate ∷ also.rest) =
    also.contents ∙ ap (λ (l : List ℕ). l ++ also.gate ∷ also.rest) g.front_is
    ∙ append_assoc also.header (records_of g.records) (also.gate ∷ also.rest) in
    let parts = one_split cut.header also.header _ _ (f.whole ∙ sym g.whole) (sym one ∙ two) in
    let same = one_place f.records g.records cut.gate also.gate cut.rest also.rest f.are_records g.are_records cut.no_record
    also.no_record parts.1 in
    omega (
      arith,
      same,
      cut.place,
      also.place,
      ap length f.front_is,
      ap length g.front_is,
      f.whole,
      g.whole,
      length-append cut.header (records_of f.records),
      length-append also.header (records_of g.records),
    )

-- ---- how a log begins

-- records before a gate, whatever it is, are the first ones of the log that stands there
starts : (rs ss : List Gated) (gate : ℕ) (x y : List ℕ) → AreRecords rs → AreRecords ss →
    records_of rs ++ gate ∷ x ≡ records_of ss ++ 0 ∷ y → (more : List (List ℕ)) × (bodies_of ss ≡ bodies_of rs ++ more)
starts [] ss gate x y are others e = (bodies_of ss, refl)
starts (r ∷ rs) [] gate x y are others e = absurd (omega (arith, are.0.open_gate, head_same r.gate 0 _ _ e))
starts (r ∷ rs) (s ∷ ss) gate x y are others e =
    let same = same_gated r s (records_of rs ++ gate ∷ x) (records_of ss ++ 0 ∷ y) are.0 others.0
    (sym (apart r rs (gate ∷ x)) ∙ tail_same r.gate s.gate _ _ e ∙ apart s ss (0 ∷ y)) in
    let rest = starts rs ss gate x y are.1 others.1 same.1 in
    (rest.0, ap (λ (l : List (List ℕ)). s.body ∷ l) rest.1 ∙ ap (λ (b : List ℕ). b ∷ (bodies_of rs ++ rest.0)) (sym same.0))

-- a header and bodies before a gate are how the log begins
pub front_begins : (header : List ℕ) (bodies : List (List ℕ)) (front : List ℕ) (gate : ℕ) (rest other : List ℕ)
    (others : List (List ℕ)) (c : List ℕ) → IsFront header bodies front → c ≡ front ++ gate ∷ rest
    → IsLog other others c → (header ≡ other) × ((more : List (List ℕ)) × (others ≡ bodies ++ more))
front_begins header bodies front gate rest other others c f contents also =
    let g = also.is_front in
    let one : c ≡ header ++ (records_of f.records ++ gate ∷ rest) =
    contents ∙ ap (λ (l : List ℕ). l ++ gate ∷ rest) f.front_is ∙ append_assoc header (records_of f.records) (gate ∷ rest) in
    let two : c ≡ other ++ (records_of g.records ++ 0 ∷ also.rest) =
    also.contents ∙ ap (λ (l : List ℕ). l ++ 0 ∷ also.rest) g.front_is
    ∙ append_assoc other (records_of g.records) (0 ∷ also.rest) in
    let parts = one_split header other _ _ (f.whole ∙ sym g.whole) (sym one ∙ two) in
    let begins = starts f.records g.records gate rest also.rest f.are_records g.are_records parts.1 in
    (parts.0, (begins.0, sym g.bodies_are ∙ begins.1 ∙ ap (λ (l : List (List ℕ)). l ++ begins.0) f.bodies_are))
