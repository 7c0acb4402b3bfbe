-- What a text that a server may read says of its drives and files.
use Rattle.std.proofs.Common.{◌≡◌, ◌∙◌, ap, refl, subst, sym, arith}
use Rattle.std.proofs.lemmas.Bool.Decides.{nat_tests}
use Rattle.std.specs.Prelude.{ℕ, suc, codes, Bool, true, false, ◌-◌, ◌≤◌, ◌||◌, ◌&&◌, nat_le, if◌then◌else◌, List, [], ◌∷◌, length, map, Option, Some, None, is_some, is_none, Ok, Err}
use Rattle.std.specs.List.{list_any}
use Rattle.std.proofs.lemmas.Bool.{or_parts}
use Rattle.toml.specs.Data.{Members}
use Rattle.data_map.specs.Check.{HasAlgorithm}
use Rattle.data_map.specs.declared.check.RawMap.{RawMap}
use Rattle.data_map.specs.declared.check.TheConstants.{RAID_0, RAID_PQ}
use Rattle.cluster_text.specs.declared.cluster.Cluster.{Cluster}
use Rattle.cluster_text.specs.declared.cluster.ClusterDrive.{ClusterDrive}
use Rattle.cluster_text.specs.declared.cluster.ClusterFile.{ClusterFile}
use Rattle.cluster_text.specs.declared.cluster.Reader.TheVariants.{Server}
use Rattle.cluster_text.specs.declared.errors.ClusterErr.TheVariants.{Refused}
use Rattle.cluster_text.specs.declared.errors.ClusterKind.TheVariants.{Unknown, Missing, WrongType, Repeated}
use Rattle.cluster_text.specs.declared.fields.TheConstants.{MAX_DRIVES, MAX_FILES}
use Rattle.cluster_text.specs.Fields.{◌>>=◌, address_at, drive_in, file_in, format_in, in_range, is_good_map, key_in, map_in, natural_of, number_at}
use Rattle.cluster_text.specs.Document.{all_in, cluster_in, cluster_of, document_of, has_good_counts, judged, judged_document, repeats, shares, unrepeated}
use Rattle.cluster_text.specs.Shape.{has_unknown, is_wrong, is_wrong_drive, lacks, lacks_drive_key}
use Rattle.cluster_text.specs.Tables.{has, integer_at, tables_at, text_at}
use Rattle.cluster_text.proofs.Keys.{bound, key_there, has_text}

-- ---- what it says

-- each drive has its key and a number below 64
abbrev pub AreKnowable : List ClusterDrive → Type 0
AreKnowable [] = Unit {0}
AreKnowable (d ∷ ds) = (is_some d.key ≡ true) × (nat_le 64 d.number ≡ false) × AreKnowable ds

-- each file has a map that can be used with so many drives
abbrev pub AreMakeable : (drives : ℕ) → List ClusterFile → Type 0
AreMakeable n [] = Unit {0}
AreMakeable n (f ∷ fs) = (is_good_map n f.map ≡ true) × HasAlgorithm f.map × AreMakeable n fs

pub record IsSound (c : Cluster) : Type 0 where
  pub keys : AreKnowable c.drives
  pub drives : repeats (map (λ d. d.number) c.drives) ≡ false
  pub maps : AreMakeable (length c.drives) c.files
  pub files : repeats (map (λ f. f.number) c.files) ≡ false

-- ---- tests and options

in_range_is : (least most n m : ℕ) → in_range least most n ≡ Some m → (least ≤ m) × (m ≤ most)
in_range_is least most n m h = go (nat_le least n) (nat_le n most) refl refl h
  where
    go : (a b : Bool) → nat_le least n ≡ a → nat_le n most ≡ b → (if a && b then Some n else None) ≡ Some m →
        (least ≤ m) × (m ≤ most)
    go true true l u e = let same : n ≡ m = cc e in (grind (arith, nat_tests, l, same), grind (arith, nat_tests, u, same))
    go true false l u e = cc e
    go false b l u e = cc e

-- the number that a table has is in its range
number_fits : (key : List ℕ) (least most : ℕ) (t : Members) (n : ℕ) → number_at key least most t ≡ Some n →
    (least ≤ n) × (n ≤ most)
number_fits key least most t n h =
    let a = bound (integer_at key t >>= natural_of) (in_range least most) n h in in_range_is least most a.0 n a.2

-- ---- one table

not_above : (n : ℕ) → n ≤ 63 → nat_le 64 n ≡ false
not_above n h = grind (arith, nat_tests, h)

-- the limit of a capacity is written out, since its constant is private
drive_row : (t : Members) (d : ClusterDrive) → drive_in t ≡ Some d → lacks_drive_key true t ≡ false → is_wrong_drive t ≡ false
    → (is_some d.key ≡ true) × (nat_le 64 d.number ≡ false)
drive_row t d h lack wrong =
    let a = bound (number_at (codes "number") 0 (MAX_DRIVES - 1) t) _ d h in
    let b = bound (address_at (codes "address") t) _ d a.2 in
    let k = bound (key_in t) _ d b.2 in
    let e = bound (number_at (codes "capacity") 0 18446744073709551615 t) _ d k.2 in
    let same : record { number = a.0; address = b.0; key = k.0; capacity = e.0 } ≡ d = cc e.2 in
    let l = or_parts _ _ lack in
    let w = or_parts _ _ (or_parts _ _ wrong).0 in
    let text = has_text (has (codes "key") t) (is_none (text_at (codes "key") t)) l.1 w.1 in
    let some = key_there (text_at (codes "key") t) k.0 text k.1 in
    let fits = number_fits (codes "number") 0 (MAX_DRIVES - 1) t a.0 a.1 in
    let low = not_above a.0 fits.1 in
    (ap (λ (x : ClusterDrive). is_some x.key) (sym same) ∙ some, ap (λ (x : ClusterDrive). nat_le 64 x.number) (sym same) ∙ low)

map_row : (t : Members) (m : RawMap) → map_in t ≡ Some m → HasAlgorithm m
map_row t m h =
    let a = bound (number_at (codes "components") 0 4294967295 t) _ m h in
    let b = bound (number_at (codes "unit") 0 18446744073709551615 t) _ m a.2 in
    let d = bound (number_at (codes "width") 0 4294967295 t) _ m b.2 in
    let e = bound (number_at (codes "depth") 0 4294967295 t) _ m d.2 in
    let f = bound (number_at (codes "mirrors") 0 4294967295 t) _ m e.2 in
    let g = bound (number_at (codes "algorithm") RAID_0 RAID_PQ t) _ m f.2 in
    let same : g.0 ≡ m.algorithm = ap (λ (o : Option RawMap). algorithm_or g.0 o) g.2 in
    rw (← same) (number_fits (codes "algorithm") RAID_0 RAID_PQ t g.0 g.1)
  where
    algorithm_or : ℕ → Option RawMap → ℕ
    algorithm_or n None = n
    algorithm_or n (Some x) = x.algorithm

file_row : (n : ℕ) (t : Members) (f : ClusterFile) → file_in n t ≡ Some f → (is_good_map n f.map ≡ true) × HasAlgorithm f.map
file_row n t f h =
    let a = bound (number_at (codes "number") 0 (MAX_FILES - 1) t) _ f h in
    let b = bound (map_in t) _ f a.2 in
    go a.0 b.0 (is_good_map n b.0) refl (map_row t b.0 b.1) b.2
  where
    map_or : RawMap → Option ClusterFile → RawMap
    map_or m None = m
    map_or m (Some x) = x.map

    go : (number : ℕ) (m : RawMap) (good : Bool) → is_good_map n m ≡ good → HasAlgorithm m
        → (if good then Some (record { number = number; map = m }) else None) ≡ Some f →
        (is_good_map n f.map ≡ true) × HasAlgorithm f.map
    go number m true is algorithm e =
        let same : m ≡ f.map = ap (λ (o : Option ClusterFile). map_or m o) e in rw (← same) (is, algorithm)
    go number m false is algorithm e = cc e

-- ---- all tables

knowable : (ts : List Members) (ds : List ClusterDrive) → all_in drive_in ts ≡ Some ds →
    list_any (lacks_drive_key true) ts ≡ false
    → list_any is_wrong_drive ts ≡ false → (AreKnowable ds) × (length ds ≡ length ts)
knowable [] ds h lack wrong = let same : [] ≡ ds = cc h in rw (← same) (tt, refl)
knowable (t ∷ ts) ds h lack wrong =
    let a = bound (drive_in t) _ ds h in
    let b = bound (all_in drive_in ts) _ ds a.2 in
    let same : a.0 ∷ b.0 ≡ ds = cc b.2 in
    let l = or_parts (lacks_drive_key true t) (list_any (lacks_drive_key true) ts) lack in
    let w = or_parts (is_wrong_drive t) (list_any is_wrong_drive ts) wrong in
    let r = drive_row t a.0 a.1 l.0 w.0 in
    let rest = knowable ts b.0 b.1 l.1 w.1 in
    rw (← same) ((r.0, r.1, rest.0), ap suc rest.1)

makeable : (n : ℕ) (ts : List Members) (fs : List ClusterFile) → all_in (file_in n) ts ≡ Some fs → AreMakeable n fs
makeable n [] fs h = let same : [] ≡ fs = cc h in rw (← same) tt
makeable n (t ∷ ts) fs h =
    let a = bound (file_in n t) _ fs h in
    let b = bound (all_in (file_in n) ts) _ fs a.2 in
    let same : a.0 ∷ b.0 ≡ fs = cc b.2 in
    let r = file_row n t a.0 a.1 in
    rw (← same) (r.0, r.1, makeable n ts b.0 b.1)

-- ---- a text that is judged good

from_document : (o : Option Members) (c : Cluster) → judged_document Server o ≡ Ok c →
    (top : Members) × (judged Server top ≡ Ok c)
from_document None c h = cc h
from_document (Some top) c h = (top, h)

from_unrepeated : (a s b : Bool) (x c : Cluster) → (if a || s || b then Err (Refused Repeated) else Ok x) ≡ Ok c →
    (a ≡ false) × (b ≡ false) × (x ≡ c)
from_unrepeated true s b x c h = cc h
from_unrepeated false true b x c h = cc h
from_unrepeated false false true x c h = cc h
from_unrepeated false false false x c h = (refl, refl, cc h)

-- no number of a drive and none of a file stands twice
abbrev Unrepeated : Cluster → Type 0
Unrepeated c = (repeats (map (λ d. d.number) c.drives) ≡ false) × (repeats (map (λ f. f.number) c.files) ≡ false)

from_tests : (unknown lacking wrong : Bool) (o : Option Cluster) (c : Cluster)
    → (if unknown then Err (Refused Unknown) else if lacking then Err (Refused Missing) else if wrong then Err
    (Refused WrongType) else unrepeated o) ≡ Ok c
    → (lacking ≡ false) × (wrong ≡ false) × (o ≡ Some c) × Unrepeated c
from_tests true lacking wrong o c h = cc h
from_tests false true wrong o c h = cc h
from_tests false false true o c h = cc h
from_tests false false false None c h = cc h
from_tests false false false (Some x) c h =
    let u =
    from_unrepeated (repeats (map (λ d. d.number) x.drives)) (shares (map (λ d. d.address) x.drives))
    (repeats (map (λ f. f.number) x.files)) x c h in
    (refl, refl, ap (λ (y : Cluster). Some y) u.2, rw (← u.2) (u.0, u.1))

-- the drives and files of the tables
parts_of : (top : Members) (ds fs : List Members) (c : Cluster) → cluster_in top ds fs ≡ Some c
    → (all_in drive_in ds ≡ Some c.drives) × (all_in (file_in (length ds)) fs ≡ Some c.files)
unfolding cluster_in
parts_of top ds fs c h =
    go (has_good_counts ds fs) (address_at (codes "server") top) (format_in top) (all_in drive_in ds)
    (all_in (file_in (length ds)) fs) h
  where
    go : (good : Bool) (server : Option (List ℕ)) (format : Option ℕ) (drives : Option (List ClusterDrive))
        (files : Option (List ClusterFile))
        → (if good then (server >>=
        (λ s. format >>=
        (λ f. drives >>= (λ d. files >>= (λ x. Some (record { server = s; format = f; drives = d; files = x }))))))
        else None) ≡ Some c → (drives ≡ Some c.drives) × (files ≡ Some c.files)
    go false server format drives files e = cc e
    go true None format drives files e = cc e
    go true (Some s) None drives files e = cc e
    go true (Some s) (Some f) None files e = cc e
    go true (Some s) (Some f) (Some d) None e = cc e
    go true (Some s) (Some f) (Some d) (Some x) e =
        let same : record { server = s; format = f; drives = d; files = x } ≡ c = cc e in
        (ap (λ (y : Cluster). Some y.drives) same, ap (λ (y : Cluster). Some y.files) same)

lacks_none : (top : Members) (ds fs : List Members) → lacks Server top ds fs ≡ false → list_any (lacks_drive_key true) ds ≡ false
unfolding lacks
lacks_none top ds fs h = (or_parts _ _ (or_parts _ _ (or_parts _ _ h).0).0).1

wrong_none : (top : Members) (ds fs : List Members) → is_wrong top ds fs ≡ false → list_any is_wrong_drive ds ≡ false
unfolding is_wrong
wrong_none top ds fs h = (or_parts _ _ (or_parts _ _ h).0).1

pub sound : (text : List ℕ) (c : Cluster) → cluster_of Server text ≡ Ok c → IsSound c
sound text c h =
    let d = from_document (document_of text) c h in
    let ds = tables_at (codes "drive") d.0 in
    let fs = tables_at (codes "file") d.0 in
    let p = from_tests (has_unknown d.0 ds fs) (lacks Server d.0 ds fs) (is_wrong d.0 ds fs) (cluster_in d.0 ds fs) c d.1 in
    let parts = parts_of d.0 ds fs c p.2 in
    let k = knowable ds c.drives parts.0 (lacks_none d.0 ds fs p.0) (wrong_none d.0 ds fs p.1) in
    record {
      keys = k.0;
      drives = (p.3).0;
      maps = subst (λ (n : ℕ). AreMakeable n c.files) (sym k.1) (makeable (length ds) fs c.files parts.1);
      files = (p.3).1;
    }
