-- What is read of a reply that was spelled, however wide its numbers: its verdict, and the lowest bits of the rest.
use Rattle.std.proofs.Common.{◌≡◌, ℕ, ◌%◌, ◌<◌, ◌^◌, List, length, Option, Some, None, Ok, refl, sym, ap, ◌∙◌, arith}
use Rattle.std.specs.Prelude.{slice_range, nat_lt, nat_eq, not}
use Rattle.osd_lists.specs.Blocks.{first_nonzero}
use Rattle.osd_lists.proofs.Options.{guard_ok}
use Rattle.osd_commands.specs.declared.commands.CommandErr.TheVariants.{Short, Magic, BadAction, Length}
use Rattle.std.specs.Int.{w16, w32, w64, to_be_bytes, from_be_bytes}
use Rattle.std.proofs.lemmas.Nat.{from_be_bytes-to_be_bytes_2}
use Rattle.osd_commands.specs.declared.replies.Reply.{Reply}
use Rattle.osd_commands.specs.Replies.{magic, action_at, verdict_at, is_verdict, is_sized, fields, spelling, reply_at, sized, unless_reserved, reading}
use Rattle.osd_commands.proofs.Passing.{if_ok}

-- a number of 8 bytes is read as far as these are wide
pub read_64 : (n : ℕ) → from_be_bytes w64 (to_be_bytes w64 n) ≡ n % 2 ^ 64
read_64 n = omega arith

reserved_ok : (bytes : List ℕ) (o : Option ℕ) (r : Reply) → unless_reserved bytes o ≡ Ok r
    → sized bytes (reply_at bytes) ≡ Ok r
reserved_ok bytes None r e = e
reserved_ok bytes (Some at) r e = absurd cc

pub read_at : (bytes : List ℕ) (r : Reply) → reading bytes ≡ Ok r → reply_at bytes ≡ r
unfolding reading reply_at
read_at bytes r e =
    let one = guard_ok (nat_lt (length bytes) 40) Short _ r e in
    let two = guard_ok (not (nat_eq (from_be_bytes w32 (slice_range bytes 0 4)) magic)) Magic _ r one.1 in
    let three = guard_ok (nat_lt 6 (action_at bytes)) (BadAction (action_at bytes)) _ r two.1 in
    let four = guard_ok (not (is_verdict (verdict_at bytes))) (BadAction (verdict_at bytes)) _ r three.1 in
    let five = reserved_ok bytes (first_nonzero bytes 36 40) r four.1 in
    (if_ok (is_sized bytes (action_at bytes) (verdict_at bytes) (length (reply_at bytes).payload))
    (Length (length (reply_at bytes).payload)) (reply_at bytes) r five).1

verdict_there : (r : Reply) → slice_range (spelling r) 6 8 ≡ to_be_bytes w16 r.verdict
unfolding spelling fields
verdict_there r = refl

nonce_there : (r : Reply) → slice_range (spelling r) 16 24 ≡ to_be_bytes w64 r.nonce
unfolding spelling fields
nonce_there r = refl

detail_there : (r : Reply) → slice_range (spelling r) 24 32 ≡ to_be_bytes w64 r.detail
unfolding spelling fields
detail_there r = refl

-- what is read
pub record ReadsAs (r read : Reply) : Type 0 where
  pub verdict : read.verdict ≡ r.verdict
  pub nonce : read.nonce ≡ r.nonce % 2 ^ 64
  pub detail : read.detail ≡ r.detail % 2 ^ 64

pub reply_read : (r read : Reply) → r.verdict < 2 ^ 16 → reading (spelling r) ≡ Ok read → ReadsAs r read
unfolding reply_at
reply_read r read low e =
    let is : reply_at (spelling r) ≡ read = read_at (spelling r) read e in
    record {
      verdict =
          ap (λ (x : Reply). x.verdict) (sym is) ∙ ap (from_be_bytes w16) (verdict_there r)
          ∙ from_be_bytes-to_be_bytes_2 r.verdict low;
      nonce =
          ap (λ (x : Reply). x.nonce) (sym is) ∙ ap (from_be_bytes w64) (nonce_there r) ∙ read_64 r.nonce;
      detail =
          ap (λ (x : Reply). x.detail) (sym is) ∙ ap (from_be_bytes w64) (detail_there r) ∙ read_64 r.detail;
    }
