-- The keys and the types of a cluster text, which is a table with the lists `drive` and `file` of further tables.
use Rattle.std.specs.Prelude.{ℕ, ℤ, pos, Bool, true, false, not, ◌&&◌, ◌||◌, List, [], ◌∷◌, Option, Some, None, is_none, codes, nat_eq}
use Rattle.std.specs.List.{list_any}
use Rattle.std.specs.Option.{option_map_or}
use Rattle.std.specs.Str.{bytes_eq}
use Rattle.toml.specs.Data.{Items, Members, get_member, as_array}
use Rattle.cluster_text.specs.declared.cluster.Reader.{Reader}
use Rattle.cluster_text.specs.declared.cluster.Reader.TheVariants.{Drive as DriveReads, Server as ServerReads, Client as ClientReads}
use Rattle.cluster_text.specs.declared.shape.Section.{Section}
use Rattle.cluster_text.specs.declared.shape.Section.TheVariants.{Top, Drive, File}
use Rattle.cluster_text.specs.Tables.{are_tables, has, integer_at, keys_of, text_at, values_of}

-- ---- keys

abbrev pub is_one_of : List (List ℕ) → List ℕ → Bool
is_one_of words word = list_any (λ w. bytes_eq word w) words

-- the keys that a table of the kind may have
unfoldable pub is_key : Section → List ℕ → Bool
is_key Top key = is_one_of (codes "server" ∷ codes "format" ∷ codes "drive" ∷ codes "file" ∷ []) key
is_key Drive key = is_one_of (codes "number" ∷ codes "address" ∷ codes "key" ∷ codes "capacity" ∷ []) key
is_key File key = is_one_of
    (codes "number" ∷ codes "components" ∷ codes "unit" ∷ codes "width" ∷ codes "depth" ∷ codes "mirrors" ∷ codes "algorithm"
    ∷ [])
    key

abbrev pub has_other_key : Section → Members → Bool
has_other_key section t = list_any (λ key. not (is_key section key)) (keys_of t)

-- another key stands anywhere
unfoldable pub has_unknown : (top : Members) → (drives files : List Members) → Bool
has_unknown top drives files =
    has_other_key Top top || list_any (has_other_key Drive) drives || list_any (has_other_key File) files

-- ---- keys that are missing

abbrev pub lacks_key : List ℕ → Members → Bool
lacks_key key t = not (has key t)

abbrev pub lacks_drive_key : (needs_key : Bool) → Members → Bool
lacks_drive_key needs_key t =
    lacks_key (codes "number") t || lacks_key (codes "address") t || lacks_key (codes "capacity") t
    || needs_key && lacks_key (codes "key") t

abbrev pub lacks_file_key : Members → Bool
lacks_file_key t =
    lacks_key (codes "number") t || lacks_key (codes "components") t || lacks_key (codes "unit") t
    || lacks_key (codes "width") t || lacks_key (codes "depth") t || lacks_key (codes "mirrors") t
    || lacks_key (codes "algorithm") t

-- a table has this number
abbrev pub is_number : ℕ → ℤ → Bool
is_number n (pos m) = nat_eq m n
is_number n other = false

abbrev pub is_drive : ℕ → Members → Bool
is_drive n t = option_map_or (is_number n) (integer_at (codes "number") t) false

-- the drive that reads isn't there
abbrev pub lacks_drive : Reader → List Members → Bool
lacks_drive (DriveReads n) drives = not (list_any (is_drive n) drives)
lacks_drive ServerReads drives = false
lacks_drive ClientReads drives = false

-- a client needs no keys
abbrev pub needs_key : Reader → Bool
needs_key (DriveReads n) = true
needs_key ServerReads = true
needs_key ClientReads = false

-- a key is missing anywhere, or the drive that reads
unfoldable pub lacks : Reader → (top : Members) → (drives files : List Members) → Bool
lacks reader top drives files =
    lacks_key (codes "server") top || lacks_key (codes "drive") top
    || list_any (lacks_drive_key (needs_key reader)) drives || list_any lacks_file_key files || lacks_drive reader drives

-- ---- values of another type

abbrev pub holds_no_text : List ℕ → Members → Bool
holds_no_text key t = has key t && is_none (text_at key t)

abbrev pub holds_no_integer : List ℕ → Members → Bool
holds_no_integer key t = has key t && is_none (integer_at key t)

abbrev pub is_no_list : Option Items → Bool
is_no_list None = true
is_no_list (Some values) = not (are_tables (values_of values))

-- the key's value isn't a list of tables
abbrev pub holds_no_list : List ℕ → Members → Bool
holds_no_list key t = option_map_or (λ value. is_no_list (as_array value)) (get_member key t) false

abbrev pub is_wrong_drive : Members → Bool
is_wrong_drive t =
    holds_no_integer (codes "number") t || holds_no_text (codes "address") t || holds_no_text (codes "key") t
    || holds_no_integer (codes "capacity") t

abbrev pub is_wrong_file : Members → Bool
is_wrong_file t =
    holds_no_integer (codes "number") t || holds_no_integer (codes "components") t || holds_no_integer (codes "unit") t
    || holds_no_integer (codes "width") t || holds_no_integer (codes "depth") t || holds_no_integer (codes "mirrors") t
    || holds_no_integer (codes "algorithm") t

-- a value of another type stands anywhere
unfoldable pub is_wrong : (top : Members) → (drives files : List Members) → Bool
is_wrong top drives files =
    holds_no_text (codes "server") top || holds_no_integer (codes "format") top
    || holds_no_list (codes "drive") top || holds_no_list (codes "file") top
    || list_any is_wrong_drive drives || list_any is_wrong_file files
