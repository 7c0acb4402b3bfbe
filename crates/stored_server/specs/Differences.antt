-- What the text of a cluster has otherwise than the server that a journal kept, which stays as it is; and whether that server is
-- another cluster's.
use Rattle.std.specs.Prelude.{ℕ, Bool, true, false, List, [], ◌∷◌, ◌++◌, ◌==◌, ◌&&◌, not, nat_eq, map, codes, Option, Some, None}
use Rattle.std.specs.Cmp.Lexicographic.{pointwise}
use Rattle.std.specs.Fmt.{decimal}
use Rattle.std.specs.List.{list_any}
use Rattle.cluster_text.specs.declared.cluster.Cluster.{Cluster}
use Rattle.cluster_text.specs.declared.cluster.ClusterDrive.{ClusterDrive}
use Rattle.cluster_text.specs.declared.cluster.ClusterFile.{ClusterFile}
use Rattle.data_map.specs.declared.check.RawMap.{RawMap}
use Rattle.server_command.specs.Drives.{has_number}
use Rattle.server_rules.specs.declared.files.File.{File}
use Rattle.server_rules.specs.declared.server.Drive.{Drive}
use Rattle.server_rules.specs.declared.server.Server.{Server}
use Rattle.server_rules.specs.Files.{file_at}
use Rattle.stored_server.specs.declared.differences.Difference.{Difference}
use Rattle.stored_server.specs.declared.differences.Difference.TheVariants.{Key, Capacity, NoDrive, Map, NoFile}

-- this alone, if the test says so
abbrev pub only : {A : Type 0} → Bool → A → List A
only true x = x ∷ []
only false x = []

-- ---- drives

abbrev pub is_with_key : (number : ℕ) → (key : List ℕ) → Drive → Bool
is_with_key number key d = (d.number == number) && pointwise nat_eq d.key key

-- one of these drives has the number and the key
abbrev pub has_this_key : List Drive → (number : ℕ) → (key : List ℕ) → Bool
has_this_key ds number key = list_any (λ d. is_with_key number key d) ds

abbrev pub has_key : List Drive → (number : ℕ) → (key : Option (List ℕ)) → Bool
has_key ds number None = false
has_key ds number (Some key) = has_this_key ds number key

-- the number and the capacity
abbrev pub has_capacity : List Drive → (number capacity : ℕ) → Bool
has_capacity ds number capacity = list_any (λ d. (d.number == number) && (d.capacity == capacity)) ds

-- the server has this drive of the text, and not with the text's key
abbrev pub has_other_key : List Drive → ClusterDrive → Bool
has_other_key ds t = has_number ds t.number && not (has_key ds t.number t.key)

-- or not with its capacity
abbrev pub has_other_capacity : List Drive → ClusterDrive → Bool
has_other_capacity ds t = has_number ds t.number && not (has_capacity ds t.number t.capacity)

-- what the text says otherwise of the drives that the server has too
abbrev pub drives_differences : List Drive → (text : List ClusterDrive) → List Difference
drives_differences ds [] = []
drives_differences ds (t ∷ ts) =
    only (has_other_key ds t) (Key t.number) ++ (only (has_other_capacity ds t) (Capacity t.number) ++ drives_differences ds ts)

abbrev pub text_has_drive : (text : List ClusterDrive) → (number : ℕ) → Bool
text_has_drive text number = list_any (λ t. nat_eq t.number number) text

-- the server's drives that the text hasn't
abbrev pub further_drives : (text : List ClusterDrive) → List Drive → List Difference
further_drives text [] = []
further_drives text (d ∷ ds) = only (not (text_has_drive text d.number)) (NoDrive d.number) ++ further_drives text ds

-- ---- files

abbrev pub is_same_map : (a b : RawMap) → Bool
is_same_map a b =
    ((((a.comps == b.comps) && (a.unit == b.unit)) && (a.width == b.width)) && (a.depth == b.depth))
    && ((a.mirrors == b.mirrors) && (a.algorithm == b.algorithm))

-- the server has the file with another map
abbrev pub has_other_map : (has : Option File) → RawMap → Bool
has_other_map None map = false
has_other_map (Some f) map = not (is_same_map f.kept.map map)

abbrev pub files_differences : List File → (text : List ClusterFile) → List Difference
files_differences fs [] = []
files_differences fs (t ∷ ts) = only (has_other_map (file_at fs t.number) t.map) (Map t.number) ++ files_differences fs ts

abbrev pub text_has_file : (text : List ClusterFile) → (number : ℕ) → Bool
text_has_file text number = list_any (λ t. nat_eq t.number number) text

-- the files of these numbers that the text hasn't
abbrev pub further_files : (text : List ClusterFile) → (numbers : List ℕ) → List Difference
further_files text [] = []
further_files text (n ∷ ns) = only (not (text_has_file text n)) (NoFile n) ++ further_files text ns

-- ---- all

-- those of the drives in the order of the text, the drives that it hasn't, and so those of the files
abbrev pub differences : Cluster → Server → List Difference
differences text s =
    drives_differences s.drives text.drives
    ++ (further_drives text.drives s.drives
    ++ (files_differences s.files text.files ++ further_files text.files (map (λ f. f.kept.number) s.files)))

-- the note that tells of one
abbrev pub difference_line : Difference → List ℕ
difference_line (Key d) = codes "d" ++ (decimal d ++ codes " keeps the key that the journal has: the text has another")
difference_line (Capacity d) =
    codes "d" ++ (decimal d ++ codes " keeps the capacity that the journal has: the text has another")
difference_line (NoDrive d) = codes "d" ++ (decimal d ++ codes " is in the journal, and not in the text")
difference_line (Map f) = codes "f" ++ (decimal f ++ codes " keeps the map that the journal has: the text has another")
difference_line (NoFile f) = codes "f" ++ (decimal f ++ codes " is in the journal, and not in the text")

abbrev pub difference_lines : Cluster → Server → List (List ℕ)
difference_lines text s = map difference_line (differences text s)

-- ---- another cluster

-- the server has a drive of the text by its number
abbrev pub shares_number : (text : List ClusterDrive) → List Drive → Bool
shares_number text ds = list_any (λ t. has_number ds t.number) text

-- and one with the text's key
abbrev pub shares_key : (text : List ClusterDrive) → List Drive → Bool
shares_key text ds = list_any (λ t. has_key ds t.number t.key) text

-- it is another cluster's than the text describes
abbrev pub is_of_another : (text : List ClusterDrive) → List Drive → Bool
is_of_another text ds = shares_number text ds && not (shares_key text ds)
