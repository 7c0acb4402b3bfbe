-- The check value of each command has its length.
use Rattle.std.proofs.Common.{◌≡◌, ℕ, ◌-◌, Bool, true, false, cond, List, length, drop, replicate, ◌∙◌, arith, eqb}
use Rattle.std.proofs.lemmas.List.{drop_at, drop_all, length-append, length-replicate}
use Rattle.hmac_tags.specs.Mac.{hmac_sha1, hmac_sha256}
use Rattle.hmac_tags.proofs.Lengths.{long_sha1, long_sha256}
use Rattle.osd_capability.specs.declared.keys.CapKey.{CapKey}
use Rattle.osd_capability.specs.declared.keys.CapKey.TheVariants.{One, Two}
use Rattle.osd_capability.specs.Keys.{check_of}
use Rattle.osd_commands.specs.Commands.{IsCheck}

-- by the hash of the format
abbrev by_hash : (second : Bool) → (one two : List ℕ) → CapKey
by_hash b one two = cond b (Two two) (One one)

long_check : (b : Bool) (one two text : List ℕ) → length (check_of (by_hash b one two) text) ≡ 32
long_check true one two text = long_sha256 two text
long_check false one two text =
    length-append (hmac_sha1 one text) (replicate 12 0)
    ∙ omega (arith, long_sha1 one text, length-replicate {A = ℕ} 12 0)

zeros_behind : (b : Bool) (one two text : List ℕ)
    → drop (cond b 32 20) (check_of (by_hash b one two) text) ≡ replicate (32 - cond b 32 20) 0
zeros_behind true one two text = drop_all 32 (hmac_sha256 two text) (omega (arith, long_sha256 two text))
zeros_behind false one two text = drop_at (hmac_sha1 one text) (replicate 12 0) 20 (long_sha1 one text)

-- the value that a key gives has the form that a format wants
pub is_check : (format : ℕ) (one two text : List ℕ) → IsCheck format (check_of (by_hash (eqb format 2) one two) text)
is_check format one two text = record {
  long = long_check (eqb format 2) one two text;
  zeros = zeros_behind (eqb format 2) one two text;
}
