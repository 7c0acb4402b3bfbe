-- The bytes of a capability, both ways.
use Rattle.std.specs.Prelude.{ℕ, ◌-◌, ◌<◌, ◌^◌, List, [], ◌∷◌, ◌++◌, length, slice_index, slice_range, replicate, Result, Ok, Err, Option, Some, None, Bool, ◌||◌, IsTrue, if◌then◌else◌, nat_eq, not}
use Rattle.std.specs.Option.{option_or}
use Rattle.std.specs.Int.{w16, w32, w64, to_be_bytes, from_be_bytes}
use Rattle.osd_lists.specs.Blocks.{first_nonzero}
use Rattle.osd_capability.specs.declared.layout.TheConstants.{CAPABILITY_BYTES, FIELDS, FORMAT_SHA1, FORMAT_SHA256}
use Rattle.osd_capability.specs.declared.layout.Capability.{Capability}
use Rattle.osd_capability.specs.declared.layout.CapErr.{CapErr}
use Rattle.osd_capability.specs.declared.layout.CapErr.TheVariants.{Length, Format, Reserved}

-- there are two formats
abbrev pub is_format : ℕ → Bool
is_format n = nat_eq n FORMAT_SHA1 || nat_eq n FORMAT_SHA256

-- the format, a zero, the numbers in order with four zeros after the tag, and zeros
unfoldable pub spelling : Capability → List ℕ
spelling c =
    (c.format ∷ [])
    ++ (replicate 1 0 ++ (to_be_bytes w16 c.key_version ++ (to_be_bytes w32 c.rights ++ (to_be_bytes w64 c.expiry
    ++ (to_be_bytes w32 c.grant ++ (to_be_bytes w32 c.holder ++ (to_be_bytes w32 c.tag ++ (replicate 4 0
    ++ (to_be_bytes w64 c.partition ++ (to_be_bytes w64 c.object
    ++ (to_be_bytes w64 c.range_start ++
    (to_be_bytes w64 c.range_len ++ replicate (CAPABILITY_BYTES - FIELDS) 0))))))))))))

-- the numbers at their places
unfoldable pub capability_at : List ℕ → Capability
capability_at bytes = record {
  format = slice_index bytes 0;
  key_version = from_be_bytes w16 (slice_range bytes 2 4);
  rights = from_be_bytes w32 (slice_range bytes 4 8);
  expiry = from_be_bytes w64 (slice_range bytes 8 16);
  grant = from_be_bytes w32 (slice_range bytes 16 20);
  holder = from_be_bytes w32 (slice_range bytes 20 24);
  tag = from_be_bytes w32 (slice_range bytes 24 28);
  partition = from_be_bytes w64 (slice_range bytes 32 40);
  object = from_be_bytes w64 (slice_range bytes 40 48);
  range_start = from_be_bytes w64 (slice_range bytes 48 56);
  range_len = from_be_bytes w64 (slice_range bytes 56 64);
}

-- the first place that must be 0 and isn't
unfoldable pub stray : List ℕ → Option ℕ
stray bytes = option_or (option_or (first_nonzero bytes 1 2) (first_nonzero bytes 28 32))
    (first_nonzero bytes FIELDS CAPABILITY_BYTES)

abbrev pub unless_reserved : Option ℕ → Capability → Result Capability CapErr
unless_reserved None c = Ok c
unless_reserved (Some at) c = Err (Reserved at)

-- the capability that bytes spell, or the first of the three refusals
unfoldable pub reading : List ℕ → Result Capability CapErr
reading bytes =
    if not (nat_eq (length bytes) CAPABILITY_BYTES) then Err Length
    else if not (is_format (slice_index bytes 0)) then Err Format
    else unless_reserved (stray bytes) (capability_at bytes)

-- each number fits its place, and the format is one that there is
pub record Fits (c : Capability) : Type 0 where
  pub format : IsTrue (is_format c.format)
  pub key_version : c.key_version < 2 ^ 16
  pub rights : c.rights < 2 ^ 32
  pub expiry : c.expiry < 2 ^ 64
  pub grant : c.grant < 2 ^ 32
  pub holder : c.holder < 2 ^ 32
  pub tag : c.tag < 2 ^ 32
  pub partition : c.partition < 2 ^ 64
  pub object : c.object < 2 ^ 64
  pub range_start : c.range_start < 2 ^ 64
  pub range_len : c.range_len < 2 ^ 64
