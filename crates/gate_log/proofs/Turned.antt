-- One bit that turned in an appended record, or in its gate.
use Rattle.std.proofs.Common.{◌≡◌, ◌⊎◌, inl, inr, ℕ, zero, suc, ◌+◌, ◌<◌, ◌≤◌, ◌^◌, List, [], ◌∷◌, ◌++◌, length, get_or, refl, sym, ◌∙◌, ap, subst, arith, append_assoc, length-append}
use Rattle.std.specs.Prelude.{bit_xor}
use Rattle.std.specs.Int.{w32, to_be_bytes}
use Rattle.std.specs.Int.Bits.{xor_self, xor_zero_r}
use Rattle.std.proofs.lemmas.Bool.{cases_lt}
use Rattle.std.proofs.lemmas.Nat.{xor_of_8}
use Rattle.osd_lists.proofs.Slices.{head_same, tail_same}
use Rattle.osd_lists.specs.Blocks.{IsBytes}
use Rattle.gate_log.specs.declared.entry.TheConstants.{MAX_BODY, OPEN_GATE}
use Rattle.gate_log.specs.declared.form.Form.{Form}
use Rattle.gate_log.specs.declared.form.Form.TheVariants.{Plain, Checked}
use Rattle.gate_log.specs.declared.header.TheConstants.{HEADER_SIZE}
use Rattle.gate_log.specs.Checksum.{crc_32}
use Rattle.gate_log.specs.Forms.{IsBody, complement, record_of}
use Rattle.gate_log.specs.Logs.{Gated, records_of, AreRecords, bodies_of, IsLog}
use Rattle.gate_log.specs.Written.{appended, AreBodies, IsAppended, Turned}
use Rattle.gate_log.proofs.Appended.{same_list}
use Rattle.gate_log.proofs.Sums.{crc_low, one_byte, xor_cancel}
use Rattle.gate_log.proofs.OneLog.{length_record, one_split, same_number, same_record, three}

-- ---- a place in two parts of the bytes

-- The byte at this place became another one. W and then Z stood there, and now V and then Y do.
record Inside (W Z V Y before : List ℕ) (byte new : ℕ) : Type 0 where
  pub rest : List ℕ
  pub was : W ≡ before ++ byte ∷ rest
  pub now : V ≡ before ++ new ∷ rest
  pub same : Z ≡ Y

record Behind (W Z V Y before behind : List ℕ) (byte new : ℕ) : Type 0 where
  pub more : List ℕ
  pub before_is : before ≡ W ++ more
  pub same : W ≡ V
  pub was : Z ≡ more ++ byte ∷ behind
  pub now : more ++ new ∷ behind ≡ Y

-- where bytes are as long, the place is in the first part or behind it
in_part : (W Z V Y before behind : List ℕ) (byte new : ℕ) → length W ≡ length V → W ++ Z ≡ before ++ byte ∷ behind
    → before ++ new ∷ behind ≡ V ++ Y → Inside W Z V Y before byte new ⊎ Behind W Z V Y before behind byte new
in_part [] Z [] Y before behind byte new long was now =
    inr (record { more = before; before_is = refl; same = refl; was = was; now = now })
in_part [] Z (v ∷ V) Y before behind byte new long was now = absurd (omega (arith, long))
in_part (w ∷ W) Z [] Y before behind byte new long was now = absurd (omega (arith, long))
in_part (w ∷ W) Z (v ∷ V) Y [] behind byte new long was now =
    let parts = one_split W V Z Y (omega (arith, long)) (tail_same w byte _ _ was ∙ tail_same new v _ _ now) in
    inl (record {
      rest = W;
      was = ap (λ (b : ℕ). b ∷ W) (head_same w byte _ _ was);
      now = ap (λ (b : ℕ). b ∷ V) (sym (head_same new v _ _ now)) ∙ ap (λ (l : List ℕ). new ∷ l) (sym parts.0);
      same = parts.1;
    })
in_part (w ∷ W) Z (v ∷ V) Y (b ∷ before) behind byte new long was now =
    by (in_part W Z V Y before behind byte new (omega (arith, long)) (tail_same w b _ _ was) (tail_same b v _ _ now))
  where
    first : w ≡ b
    first = head_same w b _ _ was

    second : b ≡ v
    second = head_same b v _ _ now

    by : Inside W Z V Y before byte new ⊎ Behind W Z V Y before behind byte new
        → Inside (w ∷ W) Z (v ∷ V) Y (b ∷ before) byte new ⊎ Behind (w ∷ W) Z (v ∷ V) Y (b ∷ before) behind byte new
    by (inl i) = inl (record {
      rest = i.rest;
      was = ap (λ (x : ℕ). x ∷ W) first ∙ ap (λ (l : List ℕ). b ∷ l) i.was;
      now = ap (λ (x : ℕ). x ∷ V) (sym second) ∙ ap (λ (l : List ℕ). b ∷ l) i.now;
      same = i.same;
    })
    by (inr o) = inr (record {
      more = o.more;
      before_is = ap (λ (l : List ℕ). b ∷ l) o.before_is ∙ ap (λ (x : ℕ). x ∷ (W ++ o.more)) (sym first);
      same = ap (λ (x : ℕ). x ∷ W) (first ∙ second) ∙ ap (λ (l : List ℕ). v ∷ l) o.same;
      was = o.was;
      now = o.now;
    })

-- a part that is the same has the same byte there
same_there : (W Z V Y before : List ℕ) (byte new : ℕ) → Inside W Z V Y before byte new → W ≡ V → new ≡ byte
same_there W Z V Y before byte new i same =
    let parts = one_split before before (new ∷ i.rest) (byte ∷ i.rest) refl (sym i.now ∙ sym same ∙ i.was) in
    head_same new byte i.rest i.rest parts.1

-- ---- a length and the complement of one

-- the first two bytes of a length are small, and those of a complement are great
first_small : (n : ℕ) → n ≤ MAX_BODY → get_or (to_be_bytes w32 n) 0 0 ≡ 0
first_small n fits = omega (arith, fits)

first_great : (n : ℕ) → n ≤ MAX_BODY → 0 < get_or (to_be_bytes w32 (complement n)) 0 0
first_great n fits = omega (arith, fits)

second_small : (n : ℕ) → n ≤ MAX_BODY → get_or (to_be_bytes w32 n) 1 0 < 5
second_small n fits = omega (arith, fits)

second_great : (n : ℕ) → n ≤ MAX_BODY → 5 ≤ get_or (to_be_bytes w32 (complement n)) 1 0
second_great n fits = omega (arith, fits)

-- so one byte doesn't make the one of the other
no_length : (m n : ℕ) (Z Y before : List ℕ) (byte new : ℕ) → m ≤ MAX_BODY → n ≤ MAX_BODY
    → Inside (to_be_bytes w32 (complement m)) Z (to_be_bytes w32 n) Y before byte new → ⊥
no_length m n Z Y [] byte new fits holds i =
    let first = ap (λ (l : List ℕ). get_or l 1 0) i.was in
    let second = ap (λ (l : List ℕ). get_or l 1 0) i.now in
    omega (arith, second_small n holds, second_great m fits, first, second)
no_length m n Z Y (b ∷ before) byte new fits holds i =
    let first = ap (λ (l : List ℕ). get_or l 0 0) i.was in
    let second = ap (λ (l : List ℕ). get_or l 0 0) i.now in
    omega (arith, first_small n holds, first_great m fits, first, second)

-- ---- a record of which one byte became another

replaced : (before rest : List ℕ) (x y : ℕ) → IsBytes (before ++ x ∷ rest) → y < 256 → (i : ℕ)
    → get_or (before ++ y ∷ rest) i 0 < 256
replaced [] rest x y are few zero = few
replaced [] rest x y are few (suc i) = are (suc i)
replaced (b ∷ before) rest x y are few zero = are zero
replaced (b ∷ before) rest x y are few (suc i) = replaced before rest x y (λ j. are (suc j)) few i

module _ (body other X Y behind : List ℕ) (byte new : ℕ) (is : IsBody body) (also : IsBody other) (are : IsBytes body)
    (few : new < 256) (differ : new ≡ byte → ⊥) where
  abbrev C : List ℕ
  C = to_be_bytes w32 (crc_32 body)

  abbrev D : List ℕ
  D = to_be_bytes w32 (crc_32 other)

  abbrev M : List ℕ
  M = to_be_bytes w32 (length body)

  abbrev N : List ℕ
  N = to_be_bytes w32 (length other)

  abbrev V : List ℕ
  V = to_be_bytes w32 (complement (length body))

  abbrev W : List ℕ
  W = to_be_bytes w32 (complement (length other))

  -- in the checksum, or behind it
  last : (before : List ℕ) → body ≡ other → C ++ X ≡ before ++ byte ∷ behind → before ++ new ∷ behind ≡ D ++ Y
      → 4 ≤ length before
  last before same was now = by (in_part C X D Y before behind byte new refl was now)
    where
      by : Inside C X D Y before byte new ⊎ Behind C X D Y before behind byte new → 4 ≤ length before
      by (inl i) = absurd (differ (same_there C X D Y before byte new i
          (ap (λ (l : List ℕ). to_be_bytes w32 (crc_32 l)) same)))
      by (inr o) = omega (arith, ap length o.before_is, length-append C o.more, four)
        where
          four : length C ≡ 4
          four = refl

  -- in the body or behind it
  third : (before : List ℕ) → length body ≡ length other → body ++ (C ++ X) ≡ before ++ byte ∷ behind
      → before ++ new ∷ behind ≡ other ++ (D ++ Y) → length body + 4 ≤ length before
  third before long was now = by (in_part body (C ++ X) other (D ++ Y) before behind byte new long was now)
    where
      changed : (i : Inside body (C ++ X) other (D ++ Y) before byte new) → ⊥
      changed i =
          let now_are : IsBytes (before ++ byte ∷ i.rest) = subst IsBytes i.was are in
          let new_are : IsBytes other = subst IsBytes (sym i.now) (replaced before i.rest byte new now_are few) in
          let sums = same_number (crc_32 body) (crc_32 other) X Y (crc_low body are) (crc_low other new_are) i.same in
          let here : crc_32 (before ++ byte ∷ i.rest) ≡ crc_32 (before ++ new ∷ i.rest) =
          ap crc_32 (sym i.was) ∙ sums.0 ∙ ap crc_32 i.now in
          differ (sym (one_byte before i.rest byte new now_are few here))

      by : Inside body (C ++ X) other (D ++ Y) before byte new ⊎ Behind body (C ++ X) other (D ++ Y) before behind byte new
          → length body + 4 ≤ length before
      by (inl i) = absurd (changed i)
      by (inr o) =
          omega (arith, ap length o.before_is, length-append body o.more, last o.more o.same o.was o.now)

  -- in the length or behind it
  second : (before : List ℕ) → length body ≡ length other → M ++ (body ++ (C ++ X)) ≡ before ++ byte ∷ behind
      → before ++ new ∷ behind ≡ N ++ (other ++ (D ++ Y)) → length body + 8 ≤ length before
  second before long was now =
      by (in_part M (body ++ (C ++ X)) N (other ++ (D ++ Y)) before behind byte new refl was now)
    where
      by : Inside M (body ++ (C ++ X)) N (other ++ (D ++ Y)) before byte new
          ⊎ Behind M (body ++ (C ++ X)) N (other ++ (D ++ Y)) before behind byte new → length body + 8 ≤ length before
      by (inl i) = absurd (differ (same_there M _ N _ before byte new i (ap (λ (n : ℕ). to_be_bytes w32 n) long)))
      by (inr o) =
          omega (arith, ap length o.before_is, length-append M o.more, four, third o.more long o.was o.now)
        where
          four : length M ≡ 4
          four = refl

  -- in the length's complement or behind it
  first : (before : List ℕ) → to_be_bytes w32 (complement (length body)) ++ (M ++ (body ++ (C ++ X))) ≡ before ++ byte ∷ behind
      → before ++ new ∷ behind ≡ to_be_bytes w32 (complement (length other)) ++ (N ++ (other ++ (D ++ Y)))
      → length body + 12 ≤ length before
  first before was now = by (in_part V (M ++ (body ++ (C ++ X))) W (N ++ (other ++ (D ++ Y))) before behind byte new refl was now)
    where
      short : length body < 2 ^ 32
      short = omega (arith, is.fits)

      brief : length other < 2 ^ 32
      brief = omega (arith, also.fits)

      by : Inside V (M ++ (body ++ (C ++ X))) W (N ++ (other ++ (D ++ Y))) before byte new
          ⊎ Behind V (M ++ (body ++ (C ++ X))) W (N ++ (other ++ (D ++ Y))) before behind byte new
          → length body + 12 ≤ length before
      by (inl i) =
          let long = (same_number (length body) (length other) _ _ short brief i.same).0 in
          absurd (differ (same_there V _ W _ before byte new i (ap (λ (n : ℕ). to_be_bytes w32 (complement n)) long)))
      by (inr o) =
          let turned = (same_number (complement (length body)) (complement (length other)) o.more o.more (omega arith)
          (omega arith)
          (ap (λ (l : List ℕ). l ++ o.more) o.same)).0 in
          let long : length body ≡ length other = omega (arith, turned, is.fits, also.fits) in
          omega (arith, ap length o.before_is, length-append V o.more, four, second o.more long o.was o.now)
        where
          four : length V ≡ 4
          four = refl

  -- it isn't read as a record of the earlier form
  never_plain : (before Z : List ℕ) → to_be_bytes w32 (complement (length body)) ++ Z ≡ before ++ byte ∷ behind
      → before ++ new ∷ behind ≡ N ++ (other ++ Y) → ⊥
  never_plain before Z was now = by (in_part V Z N (other ++ Y) before behind byte new refl was now)
    where
      by : Inside V Z N (other ++ Y) before byte new ⊎ Behind V Z N (other ++ Y) before behind byte new → ⊥
      by (inl i) = no_length (length body) (length other) Z (other ++ Y) before byte new is.fits also.fits i
      by (inr o) =
          let turned = (same_number (complement (length body)) (length other) o.more o.more (omega arith)
          (omega (arith, also.fits)) (ap (λ (l : List ℕ). l ++ o.more) o.same)).0 in
          omega (arith, turned, is.fits, also.fits)

  -- the place is behind the record
  pub behind_record : (before : List ℕ) (g : Form) → record_of Checked body ++ X ≡ before ++ byte ∷ behind
      → before ++ new ∷ behind ≡ record_of g other ++ Y → length (record_of Checked body) ≤ length before
  behind_record before Plain was now =
      absurd (never_plain before (M ++ (body ++ (C ++ X))) (sym (three Checked body X) ∙ was) (now ∙ three Plain other Y))
  behind_record before Checked was now =
      omega (
        arith,
        length_record Checked body,
        first before (sym (three Checked body X) ∙ was) (now ∙ three Checked other Y),
      )

-- ---- records

-- what stands behind the first part
past : (W Z before behind : List ℕ) (byte : ℕ) → length W ≤ length before → W ++ Z ≡ before ++ byte ∷ behind
    → (more : List ℕ) × (before ≡ W ++ more) × (Z ≡ more ++ byte ∷ behind)
past [] Z before behind byte le e = (before, refl, e)
past (w ∷ W) Z [] behind byte le e = absurd (omega (arith, le))
past (w ∷ W) Z (b ∷ before) behind byte le e =
    let rest = past W Z before behind byte (omega (arith, le)) (tail_same w b _ _ e) in (
      rest.0,
      ap (λ (x : ℕ). x ∷ before) (sym (head_same w b _ _ e)) ∙ ap (λ (l : List ℕ). w ∷ l) rest.1,
      rest.2,
    )

bytes_left : (xs ys : List ℕ) → IsBytes (xs ++ ys) → (i : ℕ) → get_or xs i 0 < 256
bytes_left [] ys are zero = omega arith
bytes_left [] ys are (suc i) = omega arith
bytes_left (x ∷ xs) ys are zero = are zero
bytes_left (x ∷ xs) ys are (suc i) = bytes_left xs ys (λ j. are (suc j)) i

bytes_right : (xs ys : List ℕ) → IsBytes (xs ++ ys) → IsBytes ys
bytes_right [] ys are = are
bytes_right (x ∷ xs) ys are = bytes_right xs ys (λ j. are (suc j))

module _ (byte new : ℕ) (behind : List ℕ) (few : new < 256) (differ : new ≡ byte → ⊥)
    (stays_open : byte ≡ OPEN_GATE → 0 < new) where
  apart : (s : Gated) (ss : List Gated) (x : List ℕ) →
      (record_of s.form s.body ++ records_of ss) ++ x ≡ record_of s.form s.body ++ (records_of ss ++ x)
  apart s ss x = append_assoc (record_of s.form s.body) (records_of ss) x

  split : (body : List ℕ) (bodies : List (List ℕ)) (x : List ℕ) →
      (record_of Checked body ++ appended bodies) ++ x ≡ record_of Checked body ++ (appended bodies ++ x)
  split body bodies x = append_assoc (record_of Checked body) (appended bodies) x

  -- the records of the appended ones with one byte in another state
  pub same_bodies : (bodies : List (List ℕ)) (ss : List Gated) (x y before : List ℕ) → AreBodies bodies
      → IsBytes (appended bodies)
      → AreRecords ss → length before < length (appended bodies) → appended bodies ++ 0 ∷ x ≡ before ++ byte ∷ behind
      → before ++ new ∷ behind ≡ records_of ss ++ 0 ∷ y → bodies_of ss ≡ bodies
  same_bodies [] ss x y before are bytes others inside was now = absurd (omega (arith, inside))
  same_bodies (body ∷ bodies) [] x y [] are bytes others inside was now =
      let lifted = stays_open (sym (head_same OPEN_GATE byte _ _ was)) in
      absurd (omega (arith, lifted, head_same new 0 _ _ now))
  same_bodies (body ∷ bodies) [] x y (b ∷ before) are bytes others inside was now =
      absurd (omega (arith, head_same OPEN_GATE b _ _ was, head_same b 0 _ _ now))
  same_bodies (body ∷ bodies) (s ∷ ss) x y [] are bytes others inside was now =
      let whole = sym (split body bodies (0 ∷ x)) ∙ tail_same OPEN_GATE byte _ _ was ∙ tail_same new s.gate _ _ now
      ∙ apart s ss (0 ∷ y) in
      let same = same_record Checked s.form body s.body (appended bodies ++ 0 ∷ x) (records_of ss ++ 0 ∷ y) are.0
      others.0.is_body whole in
      ap (λ (b : List ℕ). b ∷ bodies_of ss) (sym same.1)
      ∙ ap (λ (l : List (List ℕ)). body ∷ l) (same_list bodies ss x y are.1 others.1 same.2)
  same_bodies (body ∷ bodies) (s ∷ ss) x y (b ∷ before) are bytes others inside was now =
      let e = sym (split body bodies (0 ∷ x)) ∙ tail_same OPEN_GATE b _ _ was in
      let f = tail_same b s.gate _ _ now ∙ apart s ss (0 ∷ y) in
      let after : IsBytes ((record_of Checked body) ++ appended bodies) = λ i. bytes (suc i) in
      let body_bytes : IsBytes body =
      bytes_left body (to_be_bytes w32 (crc_32 body))
      (bytes_left (body ++ to_be_bytes w32 (crc_32 body)) (appended bodies)
      (bytes_right (to_be_bytes w32 (complement (length body)) ++ to_be_bytes w32 (length body)) _
      (subst IsBytes (append_assoc (to_be_bytes w32 (complement (length body)) ++ to_be_bytes w32 (length body))
      (body ++ to_be_bytes w32 (crc_32 body)) (appended bodies)) after))) in
      let far = behind_record body s.body (appended bodies ++ 0 ∷ x) (records_of ss ++ 0 ∷ y) behind byte new are.0
      others.0.is_body
      body_bytes few differ before s.form e f in
      let more = past (record_of Checked body) (appended bodies ++ 0 ∷ x) before behind byte far e in
      let g = ap (λ (l : List ℕ). l ++ new ∷ behind) (sym more.1) ∙ f in
      let same = same_record Checked s.form body s.body (more.0 ++ new ∷ behind) (records_of ss ++ 0 ∷ y) are.0 others.0.is_body
      (sym (append_assoc (record_of Checked body) more.0 (new ∷ behind)) ∙ g) in
      let shorter : length more.0 < length (appended bodies) =
      omega (
        arith,
        inside,
        ap length more.1,
        length-append (record_of Checked body) more.0,
        length-append (record_of Checked body) (appended bodies),
      ) in
      ap (λ (l : List ℕ). l ∷ bodies_of ss) (sym same.1)
      ∙ ap (λ (l : List (List ℕ)). body ∷ l)
      (same_bodies bodies ss x y more.0 are.1 (bytes_right (record_of Checked body) (appended bodies) after) others.1 shorter
      more.2
      same.2)

-- ---- one bit

power : (bit : ℕ) → bit < 8 → (0 < 2 ^ bit) × (2 ^ bit ≤ 128)
power zero lt = (omega arith, omega arith)
power (suc zero) lt = (omega arith, omega arith)
power (suc (suc zero)) lt = (omega arith, omega arith)
power (suc (suc (suc zero))) lt = (omega arith, omega arith)
power (suc (suc (suc (suc zero)))) lt = (omega arith, omega arith)
power (suc (suc (suc (suc (suc zero))))) lt = (omega arith, omega arith)
power (suc (suc (suc (suc (suc (suc zero)))))) lt = (omega arith, omega arith)
power (suc (suc (suc (suc (suc (suc (suc zero))))))) lt = (omega arith, omega arith)
power (suc (suc (suc (suc (suc (suc (suc (suc n)))))))) lt = absurd (omega (arith, lt))

other_byte : (byte bit : ℕ) → bit < 8 → bit_xor byte (2 ^ bit) ≡ byte → ⊥
other_byte byte bit is e =
    let none : 2 ^ bit ≡ 0 = sym (xor_cancel byte (2 ^ bit)) ∙ ap (bit_xor byte) e ∙ xor_self byte in
    omega (arith, none, (power bit is).0)

still_open : (byte bit : ℕ) → bit < 8 → byte ≡ OPEN_GATE → 0 < bit_xor byte (2 ^ bit)
still_open byte bit is gate =
    elim (cases_lt 0 (bit_xor byte (2 ^ bit))) [
      | inl lt ↦ lt
      | inr le ↦
          let none : bit_xor byte (2 ^ bit) ≡ 0 = omega (arith, le) in
          let all : byte ≡ 2 ^ bit = sym (xor_zero_r byte) ∙ ap (bit_xor byte) (sym none) ∙ xor_cancel byte (2 ^ bit) in
          absurd (omega (arith, all, gate, (power bit is).1))
    ]

byte_there : (before behind : List ℕ) (byte : ℕ) → IsBytes (before ++ byte ∷ behind) → byte < 256
byte_there before behind byte are = bytes_right before (byte ∷ behind) are 0

pub turned_bit_shows : (header : List ℕ) (bodies : List (List ℕ)) (c d : List ℕ) (at : ℕ) → IsAppended header bodies c → IsBytes c
    → HEADER_SIZE ≤ at → at < HEADER_SIZE + length (appended bodies) → Turned at c d
    → (other : List ℕ) (others : List (List ℕ)) → IsLog other others d → (other ≡ header) × (others ≡ bodies)
turned_bit_shows header bodies c d at a are low high t other others log =
    let new = bit_xor t.byte (2 ^ t.bit) in
    let f = log.is_front in
    let was = sym a.contents ∙ t.was in
    let in_c = past header (appended bodies ++ 0 ∷ a.rest) t.before t.behind t.byte (omega (arith, low, t.place, a.whole)) was in
    let now : t.before ++ new ∷ t.behind ≡ other ++ (records_of f.records ++ 0 ∷ log.rest) =
    sym t.now ∙ log.contents ∙ ap (λ (l : List ℕ). l ++ 0 ∷ log.rest) f.front_is
    ∙ append_assoc other (records_of f.records) (0 ∷ log.rest) in
    let parts = one_split header other (in_c.0 ++ new ∷ t.behind) (records_of f.records ++ 0 ∷ log.rest) (a.whole ∙ sym f.whole)
    (sym (append_assoc header in_c.0 (new ∷ t.behind)) ∙ ap (λ (l : List ℕ). l ++ new ∷ t.behind) (sym in_c.1) ∙ now) in
    let bytes = bytes_left (appended bodies) (0 ∷ a.rest) (bytes_right header (appended bodies ++ 0 ∷ a.rest)
    (subst IsBytes a.contents are)) in
    let byte_is : t.byte < 256 = byte_there t.before t.behind t.byte (subst IsBytes t.was are) in
    let few : new < 256 = xor_of_8 t.byte (2 ^ t.bit) (omega (arith, byte_is)) (omega (arith, (power t.bit t.is_bit).1)) in (
      sym parts.0,
      sym f.bodies_are
          ∙ same_bodies t.byte new t.behind few (other_byte t.byte t.bit t.is_bit) (still_open t.byte t.bit t.is_bit) bodies
          f.records
          a.rest log.rest in_c.0 a.are_bodies bytes f.are_records
          (omega (arith, high, t.place, a.whole, ap length in_c.1, length-append header in_c.0)) in_c.2 parts.1,
    )
