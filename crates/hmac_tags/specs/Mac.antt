-- HMAC of RFC 2104, over any hash of this block.
use Rattle.std.specs.Prelude.{ℕ, ◌-◌, List, ◌++◌, length, map, replicate, bit_xor, if◌then◌else◌, nat_lt}
use Rattle.sha1.specs.Sha1.{sha1}
use Rattle.sha2.specs.Sha256.{sha256}
use Rattle.hmac_tags.specs.declared.block.TheConstants.{BLOCK, INNER_PAD, OUTER_PAD}

-- the key that is used: one of more than a block is replaced by its hash
abbrev pub key_of : (List ℕ → List ℕ) → List ℕ → List ℕ
key_of hash key = if nat_lt BLOCK (length key) then hash key else key

-- a key of at most a block, with zeros to a whole block
abbrev pub zero_filled : List ℕ → List ℕ
zero_filled key = key ++ replicate (BLOCK - length key) 0

-- a key's block, each byte xored with one
abbrev pub padded : ℕ → List ℕ → List ℕ
padded pad key = map (λ b. bit_xor b pad) (zero_filled key)

-- the tag of a text under a key
unfoldable pub hmac : (List ℕ → List ℕ) → List ℕ → List ℕ → List ℕ
hmac hash key text = hash (padded OUTER_PAD (key_of hash key) ++ hash (padded INNER_PAD (key_of hash key) ++ text))

abbrev pub hmac_sha1 : List ℕ → List ℕ → List ℕ
hmac_sha1 key text = hmac sha1 key text

abbrev pub hmac_sha256 : List ℕ → List ℕ → List ℕ
hmac_sha256 key text = hmac sha256 key text
