-- A text that a drive may read has its key: so the drive is always made.
use Rattle.std.proofs.Common.{◌≡◌, ◌≢◌, ◌∙◌, ap, refl, sym}
use Rattle.std.specs.Prelude.{ℕ, ℤ, pos, codes, Bool, true, false, ◌-◌, ◌||◌, ◌&&◌, nat_le, nat_eq, if◌then◌else◌, List, [], ◌∷◌, length, Option, Some, None, is_some, is_none, option_map, Ok, Err, cond}
use Rattle.std.specs.List.{find, list_any}
use Rattle.std.specs.Option.{option_and_then, option_map_or}
use Rattle.std.proofs.lemmas.Bool.{or_parts}
use Rattle.toml.specs.Data.{Members}
use Rattle.osd_lists.proofs.Tests.{not_false}
use Rattle.cluster_text.specs.declared.cluster.Cluster.{Cluster}
use Rattle.cluster_text.specs.declared.cluster.ClusterDrive.{ClusterDrive}
use Rattle.cluster_text.specs.declared.cluster.ClusterFile.{ClusterFile}
use Rattle.cluster_text.specs.declared.cluster.Reader.TheVariants.{Drive}
use Rattle.cluster_text.specs.declared.errors.ClusterErr.TheVariants.{Refused}
use Rattle.cluster_text.specs.declared.errors.ClusterKind.TheVariants.{Unknown, Missing, WrongType, Repeated}
use Rattle.cluster_text.specs.declared.fields.TheConstants.{MAX_DRIVES}
use Rattle.cluster_text.specs.Fields.{◌>>=◌, address_at, drive_in, file_in, format_in, in_range, key_in, natural_of, number_at}
use Rattle.cluster_text.specs.Document.{all_in, cluster_in, cluster_of, document_of, has_good_counts, has_twice, judged, judged_document, unrepeated}
use Rattle.cluster_text.specs.Shape.{has_unknown, is_drive, is_number, is_wrong, is_wrong_drive, lacks, lacks_drive_key}
use Rattle.cluster_text.specs.Tables.{has, integer_at, tables_at, text_at}
use Rattle.cluster_text.proofs.Keys.{bound, key_there, has_text}
use Rattle.osd_drive.specs.State.{new_drive}
use Rattle.drive_command.specs.Own.{core_from, core_in, keys_of}

-- ---- a text that is judged good

from_document : (n : ℕ) (o : Option Members) (c : Cluster) → judged_document (Drive n) o ≡ Ok c →
    (top : Members) × (judged (Drive n) top ≡ Ok c)
from_document n None c h = cc h
from_document n (Some top) c h = (top, h)

from_unrepeated : (r : Bool) (x c : Cluster) → (if r then Err (Refused Repeated) else Ok x) ≡ Ok c → x ≡ c
from_unrepeated true x c h = cc h
from_unrepeated false x c h = cc h

from_tests : (unknown lacking wrong : Bool) (o : Option Cluster) (c : Cluster)
    → (if unknown then Err (Refused Unknown) else if lacking then Err (Refused Missing) else if wrong then Err
    (Refused WrongType) else unrepeated o) ≡ Ok c
    → (lacking ≡ false) × (wrong ≡ false) × (o ≡ Some c)
from_tests true lacking wrong o c h = cc h
from_tests false true wrong o c h = cc h
from_tests false false true o c h = cc h
from_tests false false false None c h = cc h
from_tests false false false (Some x) c h = (
  refl,
  refl,
  ap (λ (y : Cluster). Some y)
      (from_unrepeated (has_twice x) x c h),
)

-- the drives of the tables
drives_of : (top : Members) (ds fs : List Members) (c : Cluster) → cluster_in top ds fs ≡ Some c →
    all_in drive_in ds ≡ Some c.drives
unfolding cluster_in
drives_of top ds fs c h =
    go (has_good_counts ds fs) (address_at (codes "server") top) (format_in top) (all_in drive_in ds)
    (all_in (file_in (length ds)) fs) h
  where
    go : (good : Bool) (server : Option (List ℕ)) (format : Option ℕ) (drives : Option (List ClusterDrive))
        (files : Option (List ClusterFile))
        → (if good then (server >>=
        (λ s. format >>=
        (λ f. drives >>= (λ d. files >>= (λ x. Some (record { server = s; format = f; drives = d; files = x }))))))
        else None) ≡ Some c → drives ≡ Some c.drives
    go false server format drives files e = cc e
    go true None format drives files e = cc e
    go true (Some s) None drives files e = cc e
    go true (Some s) (Some f) None files e = cc e
    go true (Some s) (Some f) (Some d) None e = cc e
    go true (Some s) (Some f) (Some d) (Some x) e =
        let same : record { server = s; format = f; drives = d; files = x } ≡ c = cc e in ap (λ (y : Cluster). Some y.drives) same

lacks_parts : (n : ℕ) (top : Members) (ds fs : List Members) → lacks (Drive n) top ds fs ≡ false
    → (list_any (lacks_drive_key true) ds ≡ false) × (list_any (is_drive n) ds ≡ true)
unfolding lacks
lacks_parts n top ds fs h =
    let a = or_parts _ _ h in
    let b = or_parts _ _ a.0 in
    let c = or_parts _ _ b.0 in
    (c.1, not_false (list_any (is_drive n) ds) a.1)

wrong_parts : (top : Members) (ds fs : List Members) → is_wrong top ds fs ≡ false → list_any is_wrong_drive ds ≡ false
unfolding is_wrong
wrong_parts top ds fs h = (or_parts _ _ (or_parts _ _ h).0).1

-- ---- one table of a drive

in_range_is : (least most n m : ℕ) → in_range least most n ≡ Some m → n ≡ m
in_range_is least most n m h = go (nat_le least n && nat_le n most) h
  where
    go : (b : Bool) → (if b then Some n else None) ≡ Some m → n ≡ m
    go true e = cc e
    go false e = cc e

natural_is : (z : ℤ) (n : ℕ) → natural_of z ≡ Some n → z ≡ pos n
natural_is (pos m) n h = let same : m ≡ n = cc h in ap pos same
natural_is other n h = cc h

-- the number that a table has
number_is : (t : Members) (n : ℕ) → number_at (codes "number") 0 (MAX_DRIVES - 1) t ≡ Some n →
    integer_at (codes "number") t ≡ Some (pos n)
number_is t n h =
    let a = bound (integer_at (codes "number") t >>= natural_of) (in_range 0 (MAX_DRIVES - 1)) n h in
    let b = bound (integer_at (codes "number") t) natural_of a.0 a.1 in
    b.1 ∙ ap (λ (z : ℤ). Some z) (natural_is b.0 a.0 b.2 ∙ ap pos (in_range_is 0 (MAX_DRIVES - 1) a.0 n a.2))

-- the table of a drive gives its number and its key; the limit of its capacity is written out, since its constant is private
row : (n : ℕ) (t : Members) (d : ClusterDrive) → drive_in t ≡ Some d → lacks_drive_key true t ≡ false → is_wrong_drive t ≡ false
    → (is_some d.key ≡ true) × (is_drive n t ≡ nat_eq d.number n)
row n t d h lack wrong =
    let a = bound (number_at (codes "number") 0 (MAX_DRIVES - 1) t) _ d h in
    let b = bound (address_at (codes "address") t) _ d a.2 in
    let k = bound (key_in t) _ d b.2 in
    let e = bound (number_at (codes "capacity") 0 18446744073709551615 t) _ d k.2 in
    let same : record { number = a.0; address = b.0; key = k.0; capacity = e.0 } ≡ d = cc e.2 in
    let l = or_parts _ _ lack in
    let w = or_parts _ _ (or_parts _ _ wrong).0 in
    let text = has_text (has (codes "key") t) (is_none (text_at (codes "key") t)) l.1 w.1 in
    let some = key_there (text_at (codes "key") t) k.0 text k.1 in
    let number = ap (λ (o : Option ℤ). option_map_or (is_number n) o false) (number_is t a.0 a.1) in
    (ap (λ (x : ClusterDrive). is_some x.key) (sym same) ∙ some, number ∙ ap (λ (x : ClusterDrive). nat_eq x.number n) same)

-- ---- all tables

core_some : (n : ℕ) (d : ClusterDrive) → is_some d.key ≡ true → is_some (core_from n d) ≡ true
core_some n d h = go d.key h
  where
    go : (key : Option (List ℕ)) → is_some key ≡ true → is_some (option_map (λ k. new_drive n (keys_of k) d.capacity) key) ≡ true
    go (Some k) e = refl
    go None e = cc e

found : (n : ℕ) (ts : List Members) (ds : List ClusterDrive) → all_in drive_in ts ≡ Some ds →
    list_any (lacks_drive_key true) ts ≡ false
    → list_any is_wrong_drive ts ≡ false → list_any (is_drive n) ts ≡ true →
    is_some (option_and_then (core_from n) (find (λ d. nat_eq d.number n) ds)) ≡ true
found n [] ds h lack wrong any = cc any
found n (t ∷ ts) ds h lack wrong any =
    let a = bound (drive_in t) _ ds h in
    let b = bound (all_in drive_in ts) _ ds a.2 in
    let same : a.0 ∷ b.0 ≡ ds = cc b.2 in
    let l = or_parts (lacks_drive_key true t) (list_any (lacks_drive_key true) ts) lack in
    let w = or_parts (is_wrong_drive t) (list_any is_wrong_drive ts) wrong in
    let r = row n t a.0 a.1 l.0 w.0 in
    rw (← same) (go (nat_eq (a.0).number n) refl a.0 b.0 r.0 (sym r.1) (λ rest. found n ts b.0 b.1 l.1 w.1 rest))
  where
    go : (test : Bool) → {x : Bool} → x ≡ test → (d : ClusterDrive) (rest : List ClusterDrive) → is_some d.key ≡ true
        → x ≡ is_drive n t →
        (list_any (is_drive n) ts ≡ true →
        is_some (option_and_then (core_from n) (find (λ d. nat_eq d.number n) rest)) ≡ true)
        → is_some (option_and_then (core_from n) (cond x (Some d) (find (λ d. nat_eq d.number n) rest))) ≡ true
    go true is d rest some tests more = rw is (core_some n d some)
    go false is d rest some tests more = rw is (more (ap (λ b. b || list_any (is_drive n) ts) (sym (sym tests ∙ is)) ∙ any))

none_is : {X : Type 0} (o : Option X) → is_some o ≡ true → o ≢ None
none_is None h = cc h
none_is (Some x) h = λ e. cc e

-- the drive is made
pub described : (n : ℕ) (text : List ℕ) (c : Cluster) → cluster_of (Drive n) text ≡ Ok c → core_in n c ≢ None
described n text c h =
    let d = from_document n (document_of text) c h in
    let ds = tables_at (codes "drive") d.0 in
    let fs = tables_at (codes "file") d.0 in
    let p = from_tests (has_unknown d.0 ds fs) (lacks (Drive n) d.0 ds fs) (is_wrong d.0 ds fs) (cluster_in d.0 ds fs) c d.1 in
    let l = lacks_parts n d.0 ds fs p.0 in
    none_is (core_in n c) (found n ds c.drives (drives_of d.0 ds fs c p.2) l.0 (wrong_parts d.0 ds fs p.1) l.1)
