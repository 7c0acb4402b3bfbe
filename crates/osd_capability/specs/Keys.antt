-- The key of a capability, and the check value that it gives a text.
use Rattle.std.specs.Prelude.{ℕ, ◌-◌, List, ◌++◌, replicate, if◌then◌else◌, nat_eq}
use Rattle.hmac_tags.specs.Mac.{hmac_sha1, hmac_sha256}
use Rattle.osd_capability.specs.declared.layout.TheConstants.{FORMAT_SHA1, FORMAT_SHA256}
use Rattle.osd_capability.specs.declared.layout.Capability.{Capability}
use Rattle.osd_capability.specs.declared.keys.TheConstants.{CHECK_BYTES, SHA1_TAG_BYTES}
use Rattle.osd_capability.specs.declared.keys.CapKey.{CapKey}
use Rattle.osd_capability.specs.declared.keys.CapKey.TheVariants.{One, Two}
use Rattle.osd_capability.specs.Layout.{spelling}

-- HMAC of the bytes under the drive's key, over the hash of the format
abbrev pub key_of : List ℕ → Capability → CapKey
key_of key c =
    if nat_eq c.format FORMAT_SHA256 then Two (hmac_sha256 key (spelling c)) else One (hmac_sha1 key (spelling c))

-- the format of the capabilities that a key belongs to
abbrev pub format_of : CapKey → ℕ
format_of (One key) = FORMAT_SHA1
format_of (Two key) = FORMAT_SHA256

-- HMAC of the text, over the hash of the key's format, in the place of a check value
abbrev pub check_of : CapKey → List ℕ → List ℕ
check_of (One key) text = hmac_sha1 key text ++ replicate (CHECK_BYTES - SHA1_TAG_BYTES) 0
check_of (Two key) text = hmac_sha256 key text
