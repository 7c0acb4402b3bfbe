-- A capability's key that was made ready for check values.
use Rattle.hmac_tags.specs.InTheMaking.{IsKeyed, IsKeyed256}
use Rattle.osd_capability.specs.declared.keys.CapKey.{CapKey}
use Rattle.osd_capability.specs.declared.keys.CapKey.TheVariants as key
use Rattle.osd_capability.specs.declared.keys.ReadyKey.{ReadyKey}
use Rattle.osd_capability.specs.declared.keys.ReadyKey.TheVariants as ready

-- it is of the key's variant, and has hashed the key
abbrev pub IsReadyFor : ReadyKey → CapKey → Type 0
IsReadyFor (ready.One hashed) (key.One bytes) = IsKeyed hashed bytes
IsReadyFor (ready.Two hashed) (key.Two bytes) = IsKeyed256 hashed bytes
IsReadyFor _ _ = ⊥
