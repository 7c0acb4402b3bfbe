-- The values of a cluster text. Each is read where it is there and of its type, and None where it is out of its range.
use Rattle.std.specs.Prelude.{ℕ, ℤ, pos, Bool, ◌-◌, ◌&&◌, nat_le, nat_eq, List, Option, Some, None, is_ok, codes, if◌then◌else◌}
use Rattle.std.specs.List.{list_any}
use Rattle.std.specs.Result.{result_ok}
use Rattle.hex.specs.Hex.{decode_sized}
use Rattle.toml.specs.Data.{Members}
use Rattle.data_map.specs.Check.{checked}
use Rattle.data_map.specs.declared.check.RawMap.{RawMap}
use Rattle.data_map.specs.declared.check.TheConstants.{RAID_0, RAID_PQ}
use Rattle.cluster_text.specs.declared.cluster.ClusterDrive.{ClusterDrive}
use Rattle.cluster_text.specs.declared.cluster.ClusterFile.{ClusterFile}
use Rattle.cluster_text.specs.declared.fields.TheConstants.{MAX_DRIVES, MAX_FILES, MAX_FILE_COMPONENTS, MAX_U32, MAX_U64}
use Rattle.cluster_text.specs.Tables.{has, integer_at, text_at}

-- the next value, where there is this one
infixl 10 ◌>>=◌
abbrev pub ◌>>=◌ : {A B : Type 0} → Option A → (A → Option B) → Option B
Some x >>= f = f x
None >>= f = None

abbrev pub natural_of : ℤ → Option ℕ
natural_of (pos n) = Some n
natural_of other = None

abbrev pub in_range : (least most : ℕ) → ℕ → Option ℕ
in_range least most n = if nat_le least n && nat_le n most then Some n else None

abbrev pub number_at : (key : List ℕ) → (least most : ℕ) → Members → Option ℕ
number_at key least most t = integer_at key t >>= natural_of >>= in_range least most

-- host and port have a colon between them
abbrev pub with_colon : List ℕ → Option (List ℕ)
with_colon text = if list_any (λ b. nat_eq b 58) text then Some text else None

abbrev pub address_at : (key : List ℕ) → Members → Option (List ℕ)
address_at key t = text_at key t >>= with_colon

-- forty hexadecimal digits of either case
abbrev pub key_of : Option (List ℕ) → Option (Option (List ℕ))
key_of None = Some None
key_of (Some digits) = result_ok (decode_sized digits 20) >>= (λ key. Some (Some key))

abbrev pub key_in : Members → Option (Option (List ℕ))
key_in t = key_of (text_at (codes "key") t)

abbrev pub drive_in : Members → Option ClusterDrive
drive_in t =
    number_at (codes "number") 0 (MAX_DRIVES - 1) t >>= (λ number.
    address_at (codes "address") t >>= (λ address.
    key_in t >>= (λ key.
    number_at (codes "capacity") 0 MAX_U64 t >>= (λ capacity.
    Some (record { number = number; address = address; key = key; capacity = capacity })))))

abbrev pub map_in : Members → Option RawMap
map_in t =
    number_at (codes "components") 0 MAX_U32 t >>= (λ comps.
    number_at (codes "unit") 0 MAX_U64 t >>= (λ unit.
    number_at (codes "width") 0 MAX_U32 t >>= (λ width.
    number_at (codes "depth") 0 MAX_U32 t >>= (λ depth.
    number_at (codes "mirrors") 0 MAX_U32 t >>= (λ mirrors.
    number_at (codes "algorithm") RAID_0 RAID_PQ t >>= (λ algorithm.
    Some (record {
      comps = comps;
      unit = unit;
      width = width;
      depth = depth;
      mirrors = mirrors;
      algorithm = algorithm;
    })))))))

-- a map passes its check, and has no more components than a file may have and than there are drives
abbrev pub is_good_map : (drives : ℕ) → RawMap → Bool
is_good_map drives map = is_ok (checked map) && nat_le map.comps MAX_FILE_COMPONENTS && nat_le map.comps drives

abbrev pub file_in : (drives : ℕ) → Members → Option ClusterFile
file_in drives t =
    number_at (codes "number") 0 (MAX_FILES - 1) t >>= (λ number.
    map_in t >>= (λ map.
    if is_good_map drives map then Some (record { number = number; map = map }) else None))

-- 1 where the text doesn't say
abbrev pub format_in : Members → Option ℕ
format_in t = if has (codes "format") t then number_at (codes "format") 1 2 t else Some 1
