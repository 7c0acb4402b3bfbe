-- A cluster that a text describes has a server, and that refuses none of its files.
use Rattle.std.proofs.Common.{◌≡◌, ◌∙◌, ap, refl, sym, subst, arith, inl, inr}
use Rattle.std.proofs.lemmas.Bool.{cases_Bool, or_parts, and_parts}
use Rattle.std.proofs.lemmas.Bool.Decides.{nat_tests}
use Rattle.std.specs.Prelude.{ℕ, ◌+◌, Bool, true, false, ◌&&◌, nat_eq, nat_le, nat_lt, if◌then◌else◌, List, [], ◌∷◌, ◌++◌, length, map, Option, Some, None, is_some, Result, Ok, Err, is_ok}
use Rattle.std.specs.List.{list_any}
use Rattle.data_map.specs.Check.{HasAlgorithm, bad_depth, bad_multiple, bad_unit, bad_width, checked, too_few, too_many}
use Rattle.data_map.specs.declared.check.MapErr.{MapErr}
use Rattle.data_map.specs.declared.check.RawMap.{RawMap}
use Rattle.cluster_text.specs.declared.cluster.Cluster.{Cluster}
use Rattle.cluster_text.specs.declared.cluster.ClusterDrive.{ClusterDrive}
use Rattle.cluster_text.specs.declared.cluster.ClusterFile.{ClusterFile}
use Rattle.cluster_text.specs.declared.errors.ClusterKind.{ClusterKind}
use Rattle.cluster_text.specs.Fields.{is_good_map}
use Rattle.cluster_text.specs.Document.{repeats}
use Rattle.osd_bytes.specs.Asking.{Ends}
use Rattle.server_rules.specs.declared.server.Drive.{Drive}
use Rattle.server_rules.specs.declared.server.Server.{Server}
use Rattle.server_rules.specs.Files.{file_at}
use Rattle.server_rules.specs.Making.{add_drive, checked_64, new_server, online, refusal, set_format}
use Rattle.server_command.specs.Messages.{serving}
use Rattle.server_command.specs.Drives.{Known, and_then, drive_with, has_number, server_in, with_drive, with_drives, with_key}
use Rattle.server_command.specs.Files.{RefusesFile, RefusesFiles}
use Rattle.server_command.proofs.Keeping.{files_keep, has_file}
use Rattle.server_command.specs.Ends.{HasNoServer}
use Rattle.server_command.proofs.Described.{AreKnowable, AreMakeable, IsSound}

swapped : (m n : ℕ) → nat_eq m n ≡ false → nat_eq n m ≡ false
swapped m n e = grind (arith, nat_tests, e)

-- ---- the drives

-- the server's drives have other numbers
abbrev Apart : List Drive → List ClusterDrive → Type 0
Apart ks [] = Unit {0}
Apart ks (d ∷ ds) = (has_number ks d.number ≡ false) × Apart ks ds

none_apart : (ds : List ClusterDrive) → Apart [] ds
none_apart [] = tt
none_apart (d ∷ ds) = (refl, none_apart ds)

added_number : (ks : List Drive) (k : Drive) (n : ℕ) → nat_eq k.number n ≡ false → has_number ks n ≡ false →
    has_number (add_drive ks k) n ≡ false
unfolding add_drive
added_number [] k n e h = rw e refl
added_number (j ∷ ks) k n e h =
    let b = or_parts (nat_eq j.number n) (has_number ks n) h in elim (cases_Bool (nat_lt j.number k.number)) [
      | inl t ↦ rw (t, b.0) (added_number ks k n e b.1)
      | inr z ↦ rw (z, e, b.0) b.1
    ]

added_apart : (ks : List Drive) (k : Drive) (ds : List ClusterDrive) →
    list_any (λ m. nat_eq m k.number) (map (λ d. d.number) ds) ≡ false
    → Apart ks ds → Apart (add_drive ks k) ds
added_apart ks k [] e a = tt
added_apart ks k (d ∷ ds) e a =
    let b = or_parts (nat_eq d.number k.number) (list_any (λ m. nat_eq m k.number) (map (λ x. x.number) ds)) e in
    (added_number ks k d.number (swapped d.number k.number b.0) a.0, added_apart ks k ds b.1 a.1)

added_online : (ks : List Drive) (k : Drive) → k.online ≡ true → length (online (add_drive ks k)) ≡ length (online ks) + 1
unfolding add_drive
added_online [] k e = rw e refl
added_online (j ∷ ks) k e = elim (cases_Bool (nat_lt j.number k.number)) [
  | inl t ↦ rw t (elim (cases_Bool j.online) [
    | inl o ↦ rw o (omega (arith, added_online ks k e))
    | inr o ↦ rw o (added_online ks k e)
  ])
  | inr z ↦ rw (z, e) (omega arith)
]

-- the server knows all of them, each online, and has the same files
pub record Knows (s : Server) (ds : List ClusterDrive) : Type 0 where
  pub server : Server
  pub is : with_drives s ds ≡ Ok server
  pub online : length (online server.drives) ≡ length (online s.drives) + length ds
  pub files : server.files ≡ s.files

key_in : (o : Option (List ℕ)) → is_some o ≡ true → (key : List ℕ) × (o ≡ Some key)
key_in None e = cc e
key_in (Some key) e = (key, refl)

known_one : (s : Server) (d : ClusterDrive) (key : List ℕ) → d.key ≡ Some key → nat_le 64 d.number ≡ false →
    has_number s.drives d.number ≡ false
    → with_drive s d ≡ Ok (record s { drives = add_drive s.drives (drive_with d key) })
known_one s d key e low new = ap (with_key s d) e ∙ rw (low, new) refl

knows : (s : Server) (ds : List ClusterDrive) → AreKnowable ds → repeats (map (λ d. d.number) ds) ≡ false → Apart s.drives ds →
    Knows s ds
knows s [] k r a = record { server = s; is = refl; online = omega arith; files = refl }
knows s (d ∷ ds) k r a =
    let key = key_in d.key k.0 in
    let next : Server = record s { drives = add_drive s.drives (drive_with d key.0) } in
    let n = or_parts (list_any (λ m. nat_eq m d.number) (map (λ x. x.number) ds)) (repeats (map (λ x. x.number) ds)) r in
    let rest = knows next ds k.2 n.1 (added_apart s.drives (drive_with d key.0) ds n.0 a.1) in
    record {
      server = rest.server;
      is = ap (λ (x : Known). and_then x (λ t. with_drives t ds)) (known_one s d key.0 key.1 k.1 a.0) ∙ rest.is;
      online = omega (arith, rest.online, added_online s.drives (drive_with d key.0) refl);
      files = rest.files;
    }

-- the server of a cluster has no file, and each drive online
pub record HasServer (c : Cluster) : Type 0 where
  pub server : Server
  pub is : server_in c ≡ Ok server
  pub online : length (online server.drives) ≡ length c.drives
  pub files : server.files ≡ []

has_server : (c : Cluster) → IsSound c → HasServer c
has_server c sound =
    let k = knows (new_server []) c.drives sound.keys sound.drives (none_apart c.drives) in
    record {
      server = set_format k.server c.format;
      is = ap (λ (x : Known). and_then x (λ s. Ok (set_format s c.format))) k.is;
      online = omega (arith, k.online);
      files = k.files;
    }

-- ---- the files

not_first : (b : Bool) (e : MapErr) (r : Result RawMap MapErr) → is_ok (if b then Err e else r) ≡ true →
    (b ≡ false) × (is_ok r ≡ true)
not_first true e r h = cc h
not_first false e r h = (refl, h)

checked_is : (m : RawMap) → is_ok (checked m) ≡ true → (bad_unit m ≡ false) × (checked m ≡ Ok m)
unfolding checked
checked_is m h =
    let a = not_first (bad_unit m) _ _ h in
    let b = not_first (too_many m) _ _ a.1 in
    let d = not_first (too_few m) _ _ b.1 in
    let e = not_first (bad_multiple m) _ _ d.1 in
    let f = not_first (bad_width m) _ _ e.1 in
    let g = not_first (bad_depth m) _ _ f.1 in
    (a.0, rw (a.0, b.0, d.0, e.0, f.0, g.0) refl)

few_enough : (n most : ℕ) → nat_le n most ≡ true → nat_lt most n ≡ false
few_enough n most e = grind (arith, nat_tests, e)

checked_as : (m : RawMap) → is_ok (checked m) ≡ true → nat_le m.comps 64 ≡ true → checked_64 m ≡ Ok m
unfolding checked_64
checked_as m h few =
    let c = checked_is m h in rw (c.0, few_enough m.comps 64 few) c.1

pub unrefused : (s : Server) (number : ℕ) (m : RawMap) (n : ℕ) → file_at s.files number ≡ None → length (online s.drives) ≡ n →
    is_good_map n m ≡ true
    → refusal s number m false ≡ None
unfolding refusal
unrefused s number m n none drives good =
    let a = and_parts (is_ok (checked m) && nat_le m.comps 64) (nat_le m.comps n) good in
    let b = and_parts (is_ok (checked m)) (nat_le m.comps 64) a.0 in
    rw (none, checked_as m b.0 b.1, drives, few_enough m.comps n a.1) refl

unrepeated : (done : List ClusterFile) (next : ClusterFile) (left : List ClusterFile) →
    repeats (map (λ f. f.number) (done ++ next ∷ left)) ≡ false
    → has_file done next.number ≡ false
unrepeated [] next left h = refl
unrepeated (f ∷ done) next left h =
    let n = or_parts (list_any (λ m. nat_eq m f.number) (map (λ x. x.number) (done ++ next ∷ left)))
    (repeats (map (λ x. x.number) (done ++ next ∷ left))) h in
    rw (swapped next.number f.number (in_middle done n.0)) (unrepeated done next left n.1)
  where
    in_middle : (fs : List ClusterFile) → list_any (λ m. nat_eq m f.number) (map (λ x. x.number) (fs ++ next ∷ left)) ≡ false
        → nat_eq next.number f.number ≡ false
    in_middle [] e = (or_parts (nat_eq next.number f.number) (list_any (λ m. nat_eq m f.number) (map (λ x. x.number) left)) e).0
    in_middle (g ∷ fs) e =
        in_middle fs
        (or_parts (nat_eq g.number f.number)
        (list_any (λ m. nat_eq m f.number) (map (λ x. x.number) (fs ++ next ∷ left))) e).1

pub makeable_at : (n : ℕ) (done : List ClusterFile) (next : ClusterFile) (left : List ClusterFile) →
    AreMakeable n (done ++ next ∷ left)
    → (is_good_map n next.map ≡ true) × HasAlgorithm next.map
makeable_at n [] next left h = (h.0, h.1)
makeable_at n (f ∷ done) next left h = makeable_at n done next left h.2

none_refused : (c : Cluster) (first : Server) (ends : Ends) → IsSound c → length (online first.drives) ≡ length c.drives →
    first.files ≡ []
    → RefusesFiles c.files (serving first [] true [] ends) → ⊥
unfolding file_at
none_refused c first ends sound drives files r =
    let kept = files_keep r.done (serving first [] true [] ends) r.before r.does in
    let apart = unrepeated r.done r.next r.left
    (subst (λ (fs : List ClusterFile). repeats (map (λ f. f.number) fs) ≡ false) r.are sound.files) in
    let none = kept.none (r.next).number apart (rw files refl) in
    let maps = makeable_at (length c.drives) r.done r.next r.left
    (subst (λ (fs : List ClusterFile). AreMakeable (length c.drives) fs) r.are sound.maps) in
    let many : length (online (r.before).server.drives) ≡ length c.drives =
    ap (λ (ds : List Drive). length (online ds)) kept.drives ∙ drives in
    go (unrefused (r.before).server (r.next).number (r.next).map (length c.drives) none many maps.0) maps.1 r.stops
  where
    go : refusal (r.before).server (r.next).number (r.next).map false ≡ None → HasAlgorithm (r.next).map →
        RefusesFile r.next (r.before).server → ⊥
    go none algorithm (inl some) = cc (sym none ∙ some.1)
    go none algorithm (inr without) = without algorithm

pub is_served : (c : Cluster) (ends : Ends) (kind : ClusterKind) → IsSound c → HasNoServer c ends kind → ⊥
is_served c ends kind sound (inl e) = cc (sym (has_server c sound).is ∙ e)
is_served c ends kind sound (inr r) =
    let h = has_server c sound in
    let same : h.server ≡ r.1 = cc (sym h.is ∙ r.2) in
    none_refused c r.1 ends sound (ap (λ (s : Server). length (online s.drives)) (sym same) ∙ h.online)
    (ap (λ (s : Server). s.files) (sym same) ∙ h.files) r.3
