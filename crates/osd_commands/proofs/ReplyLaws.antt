-- What is read is spelled so, and what is spelled so is read.
use Rattle.std.proofs.Common.{◌≡◌, ℕ, ◌+◌, ◌≤◌, true, false, eqb, ltb, List, [], ◌++◌, length, drop, replicate, Option, None, Some, Result, Ok, Err, refl, sym, ap, subst, ◌∙◌, arith}
use Rattle.std.specs.Prelude.{IfOk, slice_range}
use Rattle.std.specs.Int.{w16, w32, w64, to_be_bytes, from_be_bytes}
use Rattle.std.proofs.lemmas.Bool.{eqb-true, eq-eqb, ltb-false, le-ltb, leb-true, and_parts}
use Rattle.std.proofs.lemmas.List.{nil_from_length, length-append}
use Rattle.std.proofs.lemmas.Nat.{from_be_bytes-to_be_bytes_2, from_be_bytes-to_be_bytes_4, from_be_bytes-to_be_bytes_8}
use Rattle.osd_lists.specs.Blocks.{IsBytes}
use Rattle.osd_lists.proofs.BlockLaws.{next, joined, zeros, first_nonzero-zeros, IsBytes-range, number_16, number_32, number_64, below_32, below_64}
use Rattle.osd_lists.proofs.Options.{guard_ok}
use Rattle.osd_lists.proofs.Tests.{not_false}
use Rattle.osd_commands.specs.declared.commands.CommandErr.{CommandErr}
use Rattle.osd_commands.specs.declared.replies.Reply.{Reply}
use Rattle.osd_commands.specs.Commands.{ReadsAs}
use Rattle.osd_commands.proofs.Passing.{if_ok, same_length}
use Rattle.osd_commands.specs.Replies.{magic, fields, spelling, is_verdict, reply_at, sized, unless_reserved, reading, IsWhole, Fits}

reserved_ok : (bytes : List ℕ) (o : Option ℕ) (r : Reply) → unless_reserved bytes o ≡ Ok r →
    (o ≡ None) × (sized bytes (reply_at bytes) ≡ Ok r)
reserved_ok bytes None r e = (refl, e)
reserved_ok bytes (Some at) r e = absurd cc

-- ---- what is read

record IsRead (bytes : List ℕ) : Type 0 where
  pub long : 40 ≤ length bytes
  pub start : from_be_bytes w32 (slice_range bytes 0 4) ≡ magic
  pub zeros_36 : slice_range bytes 36 40 ≡ replicate 4 0
  pub stated : from_be_bytes w32 (slice_range bytes 32 36) ≡ length (drop 40 bytes)
  pub whole : IsWhole (reply_at bytes)

read_ok : (bytes : List ℕ) (r : Reply) → IsBytes bytes → reading bytes ≡ Ok r → IsRead bytes × (reply_at bytes ≡ r)
unfolding reading reply_at
read_ok bytes r fits e =
    let one = guard_ok _ _ _ r e in
    let two = guard_ok _ _ _ r one.1 in
    let three = guard_ok (ltb 6 (from_be_bytes w16 (slice_range bytes 4 6))) _ _ r two.1 in
    let four = guard_ok _ _ _ r three.1 in
    let five = reserved_ok bytes _ r four.1 in
    let six = if_ok _ _ (reply_at bytes) r five.1 in
    let long : 40 ≤ length bytes = ltb-false _ _ one.0 in
    let tests = and_parts _ _ six.0 in
    let stated : from_be_bytes w32 (slice_range bytes 32 36) ≡ length (drop 40 bytes) = eqb-true _ _ tests.0 in
    let action : from_be_bytes w16 (slice_range bytes 4 6) ≤ 6 = ltb-false _ _ three.0 in (
      record {
        long = long;
        start = eqb-true _ _ (not_false _ two.0);
        zeros_36 = zeros bytes 36 40 (omega arith) (omega arith) five.0;
        stated = stated;
        whole = record {
          action = action;
          verdict = not_false _ four.0;
          allowed = tests.1;
          payload = rw (← stated) (below_32 _ (IsBytes-range bytes 32 36 fits));
        };
      },
      six.1,
    )

fields_read : (bytes : List ℕ) → IsBytes bytes → IsRead bytes → fields (reply_at bytes) ≡ slice_range bytes 0 40
unfolding fields reply_at
fields_read bytes fits h =
    let long = h.long in
    let start : to_be_bytes w32 magic ≡ slice_range bytes 0 4 =
    ap (to_be_bytes w32) (sym h.start) ∙ number_32 bytes 0 4 fits refl (omega arith) in
    let stated : to_be_bytes w32 (length (drop 40 bytes)) ≡ slice_range bytes 32 36 =
    ap (to_be_bytes w32) (sym h.stated) ∙ number_32 bytes 32 36 fits refl (omega arith) in
    joined bytes 0 4 40 _ _ (omega arith) (omega arith) start
    (joined bytes 4 6 40 _ _ (omega arith) (omega arith) (number_16 bytes 4 6 fits refl (omega arith))
    (joined bytes 6 8 40 _ _ (omega arith) (omega arith) (number_16 bytes 6 8 fits refl (omega arith))
    (joined bytes 8 16 40 _ _ (omega arith) (omega arith) (number_64 bytes 8 16 fits refl (omega arith))
    (joined bytes 16 24 40 _ _ (omega arith) (omega arith) (number_64 bytes 16 24 fits refl (omega arith))
    (joined bytes 24 32 40 _ _ (omega arith) (omega arith) (number_64 bytes 24 32 fits refl (omega arith))
    (joined bytes 32 36 40 _ _ (omega arith) (omega arith) stated (sym h.zeros_36)))))))

spelled : (bytes : List ℕ) → IsBytes bytes → IsRead bytes → spelling (reply_at bytes) ≡ bytes
unfolding spelling reply_at
spelled bytes fits h = next bytes 0 40 _ (drop 40 bytes) (omega arith) (fields_read bytes fits h) refl

fits_at : (bytes : List ℕ) → IsBytes bytes → IsRead bytes → Fits (reply_at bytes)
unfolding reply_at
fits_at bytes fits h = record {
  whole = h.whole;
  numbers = record {
    object = below_64 _ (IsBytes-range bytes 8 16 fits);
    nonce = below_64 _ (IsBytes-range bytes 16 24 fits);
    detail = below_64 _ (IsBytes-range bytes 24 32 fits);
  };
}

reading-found : (bytes : List ℕ) (r : Reply) → IsBytes bytes → reading bytes ≡ Ok r → Fits r × (bytes ≡ spelling r)
reading-found bytes r fits e =
    let h = read_ok bytes r fits e in
    rw (← h.1) (fits_at bytes fits h.0, sym (spelled bytes fits h.0))

-- ---- what is spelled so

length-fields : (r : Reply) → length (fields r) ≡ 40
unfolding fields
length-fields r = refl

record HasParts (r : Reply) (bytes : List ℕ) : Type 0 where
  pub long : length bytes ≡ 40 + length r.payload
  pub start : slice_range bytes 0 4 ≡ to_be_bytes w32 magic
  pub action : slice_range bytes 4 6 ≡ to_be_bytes w16 r.action
  pub verdict : slice_range bytes 6 8 ≡ to_be_bytes w16 r.verdict
  pub object : slice_range bytes 8 16 ≡ to_be_bytes w64 r.object
  pub nonce : slice_range bytes 16 24 ≡ to_be_bytes w64 r.nonce
  pub detail : slice_range bytes 24 32 ≡ to_be_bytes w64 r.detail
  pub stated : slice_range bytes 32 36 ≡ to_be_bytes w32 (length r.payload)
  pub zeros_36 : slice_range bytes 36 40 ≡ replicate 4 0
  pub payload : drop 40 bytes ≡ r.payload

has_parts : (r : Reply) → HasParts r (spelling r)
unfolding spelling fields
has_parts r = record {
  long = length-append (fields r) r.payload ∙ omega (arith, length-fields r);
  start = refl;
  action = refl;
  verdict = refl;
  object = refl;
  nonce = refl;
  detail = refl;
  stated = refl;
  zeros_36 = refl;
  payload = refl;
}

at_parts : (r : Reply) (bytes : List ℕ) → Fits r → HasParts r bytes → reply_at bytes ≡ r
unfolding reply_at
at_parts r bytes fits h =
    let n = fits.numbers in
    let verdict : r.verdict ≤ 17 = leb-true _ _ (and_parts _ _ fits.whole.verdict).0 in
    rw (
      h.action,
      from_be_bytes-to_be_bytes_2 r.action (omega (arith, fits.whole.action)),
      h.verdict,
      from_be_bytes-to_be_bytes_2 r.verdict (omega arith),
      h.object,
      from_be_bytes-to_be_bytes_8 r.object n.object,
      h.nonce,
      from_be_bytes-to_be_bytes_8 r.nonce n.nonce,
      h.detail,
      from_be_bytes-to_be_bytes_8 r.detail n.detail,
      h.payload,
    ) refl

sized_parts : (r : Reply) (bytes : List ℕ) → Fits r → HasParts r bytes → sized bytes r ≡ Ok r
sized_parts r bytes fits h =
    rw (
      h.stated,
      from_be_bytes-to_be_bytes_4 (length r.payload) fits.whole.payload,
      eq-eqb (length r.payload) (length r.payload) refl,
      fits.whole.allowed,
    ) refl

-- what is spelled so is read
pub reading-reply : (r : Reply) → Fits r → reading (spelling r) ≡ Ok r
unfolding reading
reading-reply r fits =
    let bytes : List ℕ = spelling r in
    let h = has_parts r in
    let long : 40 ≤ length bytes = omega (arith, h.long) in
    let start : eqb (from_be_bytes w32 (slice_range bytes 0 4)) magic ≡ true = rw h.start refl in
    let low : r.verdict ≤ 17 = leb-true _ _ (and_parts _ _ fits.whole.verdict).0 in
    let action : from_be_bytes w16 (slice_range bytes 4 6) ≡ r.action =
    rw h.action (from_be_bytes-to_be_bytes_2 r.action (omega (arith, fits.whole.action))) in
    let verdict : from_be_bytes w16 (slice_range bytes 6 8) ≡ r.verdict =
    rw h.verdict (from_be_bytes-to_be_bytes_2 r.verdict (omega arith)) in
    let known : is_verdict (from_be_bytes w16 (slice_range bytes 6 8)) ≡ true = rw verdict fits.whole.verdict in
    let within : ltb 6 (from_be_bytes w16 (slice_range bytes 4 6)) ≡ false = rw action (le-ltb 6 r.action fits.whole.action) in
    let none = first_nonzero-zeros bytes 36 40 4 h.zeros_36 in
    rw (le-ltb (length bytes) 40 long, start, within, known, none, at_parts r bytes fits h) (sized_parts r bytes fits h)

-- ---- answers, which may also be that there is no memory

pub answer-found : (bytes : List ℕ) (x : Result Reply CommandErr) → IsBytes bytes → ReadsAs x (reading bytes) →
    IfOk x (λ r. Fits r × (bytes ≡ spelling r))
answer-found bytes (Ok r) fits e = reading-found bytes r fits e
answer-found bytes (Err f) fits e = tt

pub answer-only : (bytes : List ℕ) (x : Result Reply CommandErr) (r : Reply) → ReadsAs x (reading bytes) → Fits r →
    bytes ≡ spelling r → ReadsAs x (Ok r)
answer-only bytes x r answer fits e =
    subst (λ (whole : Result Reply CommandErr). ReadsAs x whole) (ap reading e ∙ reading-reply r fits) answer

-- no reply's bytes begin another's
spelling-alone : (bytes rest : List ℕ) (c d : Reply) → Fits c → bytes ≡ spelling c → Fits d → spelling d ≡ bytes ++ rest →
    rest ≡ []
spelling-alone bytes rest c d fits_c e fits_d longer =
    let one : HasParts c bytes = rw e (has_parts c) in
    let two : HasParts d (bytes ++ rest) = rw (← longer) (has_parts d) in
    let same : length c.payload ≡ length d.payload =
    same_length bytes rest 32 36 (length c.payload) (length d.payload) (omega arith)
    (omega (arith, one.long)) fits_c.whole.payload fits_d.whole.payload one.stated two.stated in
    nil_from_length rest (omega (arith, one.long, two.long, length-append bytes rest, same))

pub answer-alone : (bytes : List ℕ) (x : Result Reply CommandErr) → IsBytes bytes → ReadsAs x (reading bytes) →
    IfOk x (λ c. (d : Reply) (rest : List ℕ) → Fits d → spelling d ≡ bytes ++ rest → rest ≡ [])
answer-alone bytes (Ok c) fits e = λ d rest fits_d longer. let h = reading-found bytes c fits e in
    spelling-alone bytes rest c d h.0 h.1 fits_d longer
answer-alone bytes (Err f) fits e = tt
