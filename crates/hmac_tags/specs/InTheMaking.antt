-- The key that is made ready for tags, and the key and the text that a tag in the making has taken.
use Rattle.std.specs.Prelude.{ℕ, List, ◌++◌}
use Rattle.sha1.specs.Sha1.{sha1}
use Rattle.sha1.specs.Sha1 as S1
use Rattle.sha2.specs.Sha256.{sha256}
use Rattle.sha2.specs.Hashers as S256
use Rattle.hmac_tags.specs.declared.block.TheConstants.{INNER_PAD, OUTER_PAD}
use Rattle.hmac_tags.specs.Mac.{key_of, padded}
use Rattle.hmac_tags.specs.declared.sha1_tags.HmacKey.{HmacKey}
use Rattle.hmac_tags.specs.declared.sha1_tags.Hmac.{Hmac}
use Rattle.hmac_tags.specs.declared.sha256_tags.HmacKey256.{HmacKey256}
use Rattle.hmac_tags.specs.declared.sha256_tags.Hmac256.{Hmac256}

-- it has hashed the two pads of the key
pub record IsKeyed (k : HmacKey) (key : List ℕ) : Type 0 where
  pub inner : S1.Holds k.inner (padded INNER_PAD (key_of sha1 key))
  pub outer : S1.Holds k.outer (padded OUTER_PAD (key_of sha1 key))

pub record IsKeyed256 (k : HmacKey256) (key : List ℕ) : Type 0 where
  pub inner : S256.Holds256 k.inner (padded INNER_PAD (key_of sha256 key))
  pub outer : S256.Holds256 k.outer (padded OUTER_PAD (key_of sha256 key))

-- it has hashed the inner pad and the text, and the outer pad
pub record Holds (h : Hmac) (key text : List ℕ) : Type 0 where
  pub inner : S1.Holds h.inner (padded INNER_PAD (key_of sha1 key) ++ text)
  pub outer : S1.Holds h.outer (padded OUTER_PAD (key_of sha1 key))

pub record Holds256 (h : Hmac256) (key text : List ℕ) : Type 0 where
  pub inner : S256.Holds256 h.inner (padded INNER_PAD (key_of sha256 key) ++ text)
  pub outer : S256.Holds256 h.outer (padded OUTER_PAD (key_of sha256 key))
