-- No key and one of zeros are alike to an HMAC.
use Rattle.std.specs.Prelude.{[], refl, ◌≡◌, replicate}
use Rattle.hmac_tags.specs.Mac.{hmac}
use Rattle.osd_capability.specs.Keys.{key_of}
use Rattle.osd_capability.specs.declared.layout.Capability.{Capability}

pub zeros_as_none : (c : Capability) → key_of (replicate 20 0) c ≡ key_of [] c
unfolding hmac
zeros_as_none c = refl
