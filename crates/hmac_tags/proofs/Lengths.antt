-- How long tags are.
use Rattle.std.proofs.Common.{◌≡◌, ℕ, List, length, refl}
use Rattle.sha1.specs.Sha1.{sha1, digest_bytes as sha1_bytes}
use Rattle.sha2.specs.Sha256.{sha256, digest_bytes as sha256_bytes}
use Rattle.hmac_tags.specs.Mac.{hmac, hmac_sha1, hmac_sha256}

pub long_sha1 : (key text : List ℕ) → length (hmac_sha1 key text) ≡ 20
unfolding hmac sha1 sha1_bytes
long_sha1 key text = refl

pub long_sha256 : (key text : List ℕ) → length (hmac_sha256 key text) ≡ 32
unfolding hmac sha256 sha256_bytes
long_sha256 key text = refl
