-- Values and replies that a message can carry.
use Rattle.std.specs.Prelude.{ℕ, ◌≤◌, length, IfSome}
use Rattle.osd_objects.specs.Attributes.{Values, value_of}
use Rattle.osd_objects.specs.Store.{StoreState, attribute_bytes, object_at}
use Rattle.osd_drive.specs.declared.limits.TheConstants.{MAX_VALUE}

-- each attribute has at most MAX_VALUE bytes
abbrev pub AreShort : Values → Type 0
AreShort values = (number : ℕ) → length (attribute_bytes (value_of values number)) ≤ MAX_VALUE

-- so have those of all objects
abbrev pub HasShortValues : StoreState → Type 0
HasShortValues s = (object : ℕ) → IfSome (object_at s object) (λ o. AreShort o.attributes)
