-- What a cluster text stands for, or the first kind of fault in it.
use Rattle.std.specs.Prelude.{ℕ, Bool, false, ◌||◌, ◌&&◌, ◌∷◌, [], nat_eq, nat_le, nat_lt, List, length, map, Option, Some, None, Result, Ok, Err, codes, if◌then◌else◌}
use Rattle.std.specs.List.{list_any}
use Rattle.std.specs.Cmp.Lexicographic.{pointwise}
use Rattle.std.specs.Str.{is_utf8}
use Rattle.toml.specs.Data.{Members}
use Rattle.toml.specs.Parse.{parse_document}
use Rattle.cluster_text.specs.declared.cluster.Cluster.{Cluster}
use Rattle.cluster_text.specs.declared.cluster.Reader.{Reader}
use Rattle.cluster_text.specs.declared.errors.ClusterErr.{ClusterErr}
use Rattle.cluster_text.specs.declared.errors.ClusterErr.TheVariants.{Refused}
use Rattle.cluster_text.specs.declared.errors.ClusterKind.TheVariants.{Toml, Unknown, Missing, WrongType, Range, Repeated}
use Rattle.cluster_text.specs.declared.fields.TheConstants.{MAX_DRIVES, MAX_FILES}
use Rattle.cluster_text.specs.Tables.{tables_at}
use Rattle.cluster_text.specs.Shape.{has_unknown, lacks, is_wrong}
use Rattle.cluster_text.specs.Fields.{◌>>=◌, address_at, drive_in, file_in, format_in}

-- the table that a text in UTF-8 spells
unfoldable pub document_of : List ℕ → Option Members
document_of text = if is_utf8 text then parse_document text else None

-- all of these, where each is there
abbrev pub all_in : {A B : Type 0} → (A → Option B) → List A → Option (List B)
all_in f [] = Some []
all_in f (x ∷ xs) = f x >>= (λ y. all_in f xs >>= (λ ys. Some (y ∷ ys)))

-- there are some drives, but no more of them and of files than there may be
abbrev pub has_good_counts : (drives files : List Members) → Bool
has_good_counts drives files =
    nat_lt 0 (length drives) && nat_le (length drives) MAX_DRIVES && nat_le (length files) MAX_FILES

-- the cluster, where all values are in their ranges
unfoldable pub cluster_in : (top : Members) → (drives files : List Members) → Option Cluster
cluster_in top drives files =
    if has_good_counts drives files then
    (address_at (codes "server") top >>= (λ server.
    format_in top >>= (λ format.
    all_in drive_in drives >>= (λ ds.
    all_in (file_in (length drives)) files >>= (λ fs.
    Some (record { server = server; format = format; drives = ds; files = fs }))))))
    else None

-- a number stands twice
abbrev pub repeats : List ℕ → Bool
repeats [] = false
repeats (n ∷ ns) = list_any (λ m. nat_eq m n) ns || repeats ns

-- two addresses are spelled alike
abbrev pub shares : List (List ℕ) → Bool
shares [] = false
shares (a ∷ rest) = list_any (λ b. pointwise nat_eq b a) rest || shares rest

-- two drives have one number or one address, or two files one number
abbrev pub has_twice : Cluster → Bool
has_twice c =
    repeats (map (λ d. d.number) c.drives) || shares (map (λ d. d.address) c.drives) || repeats (map (λ f. f.number) c.files)

abbrev pub unrepeated : Option Cluster → Result Cluster ClusterErr
unrepeated None = Err (Refused Range)
unrepeated (Some c) = if has_twice c then Err (Refused Repeated) else Ok c

abbrev pub judged_parts : Reader → (top : Members) → (drives files : List Members) → Result Cluster ClusterErr
judged_parts reader top drives files =
    if has_unknown top drives files then Err (Refused Unknown)
    else if lacks reader top drives files then Err (Refused Missing)
    else if is_wrong top drives files then Err (Refused WrongType)
    else unrepeated (cluster_in top drives files)

abbrev pub judged : Reader → Members → Result Cluster ClusterErr
judged reader top = judged_parts reader top (tables_at (codes "drive") top) (tables_at (codes "file") top)

abbrev pub judged_document : Reader → Option Members → Result Cluster ClusterErr
judged_document reader None = Err (Refused Toml)
judged_document reader (Some top) = judged reader top

-- the cluster of a text, or the first kind of fault
abbrev pub cluster_of : Reader → List ℕ → Result Cluster ClusterErr
cluster_of reader text = judged_document reader (document_of text)
