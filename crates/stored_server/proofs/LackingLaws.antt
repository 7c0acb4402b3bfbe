-- The drives and files that a server lacks, and where the adding and the making of them stops.
use Rattle.std.specs.Prelude.{◌<◌, ◌&&◌, is_ok, is_some, length, nat_le, slice_get}
use Rattle.std.proofs.Common.{◌≡◌, ◌∙◌, ℕ, false, true, List, [], ◌∷◌, take, Option, Some, None, Ok, Err, ap, arith, inl, inr, refl, subst, sym}
use Rattle.std.proofs.lemmas.Bool.{and_parts, cases_Bool}
use Rattle.std.proofs.lemmas.Bool.Decides.{nat_tests}
use Rattle.data_map.specs.Check.{HasAlgorithm, checked}
use Rattle.osd_bytes.specs.Asking.{Ends}
use Rattle.cluster_text.specs.declared.cluster.ClusterDrive.{ClusterDrive}
use Rattle.cluster_text.specs.declared.cluster.ClusterFile.{ClusterFile}
use Rattle.cluster_text.specs.declared.errors.ClusterKind.{ClusterKind}
use Rattle.server_rules.specs.declared.server.Server.{Server}
use Rattle.cluster_text.specs.Fields.{is_good_map}
use Rattle.server_rules.specs.Files.{file_at}
use Rattle.server_rules.specs.Making.{add_drive, online}
use Rattle.server_command.proofs.Described.{AreKnowable, AreMakeable}
use Rattle.server_command.proofs.Refusing.{makeable_at, unrefused}
use Rattle.server_command.specs.Drives.{Known, and_then, drive_with, has_number, with_key}
use Rattle.server_command.specs.declared.server_stop.ServerStop.{ServerStop}
use Rattle.server_command.specs.Files.{LosesFile, RefusesFile, StopsBy}
use Rattle.server_command.specs.Messages.{InTurn, Serving}
use Rattle.server_command.proofs.MakingLaws.{stops_at, stops_by}
use Rattle.server_command.specs.Cuts.{CutsFile}
use Rattle.server_command.specs.Steps.{ServerStep}
use Rattle.stored_server.specs.Lacking.{CutsLacking, LacksDrivesFor, LosesLacking, MakesLacking, RefusesLacking, has_file, with_all_lacking, with_lacking}

-- ---- drives

-- one of them is known, or was added
pub one_more : (s t : Server) (d : ClusterDrive) (rest ds : List ClusterDrive) (r : Known) → ds ≡ d ∷ rest
    → with_lacking s d ≡ Ok t
    → with_all_lacking s ds ≡ r → with_all_lacking t rest ≡ r
one_more s t d rest ds r e is all =
    sym (ap (λ (k : Known). and_then k (λ u. with_all_lacking u rest)) is)
    ∙ (sym (ap (λ (xs : List ClusterDrive). with_all_lacking s xs) e) ∙ all)

key_there : (o : Option (List ℕ)) → is_some o ≡ true → (key : List ℕ) × (o ≡ Some key)
key_there None there = cc there
key_there (Some key) there = (key, refl)

-- a drive with a key and a low number is known then
one_known : (s : Server) (d : ClusterDrive) → is_some d.key ≡ true → nat_le 64 d.number ≡ false
    → (t : Server) × (with_lacking s d ≡ Ok t)
one_known s d some low = elim (cases_Bool (has_number s.drives d.number)) [
  | inl there ↦ (s, rw there refl)
  | inr new ↦
      let key = key_there d.key some in
      (record s { drives = add_drive s.drives (drive_with d key.0) }, rw new (ap (with_key s d) key.1 ∙ rw (low, new) refl))
]

-- so none of these is wrong
pub never_wrong : (s : Server) (ds : List ClusterDrive) (kind : ClusterKind) → AreKnowable ds
    → with_all_lacking s ds ≡ Err kind → ⊥
never_wrong s [] kind sound wrong = cc wrong
never_wrong s (d ∷ ds) kind sound wrong =
    let one = one_known s d sound.0 sound.1 in
    never_wrong one.0 ds kind sound.2 (sym (ap (λ (k : Known). and_then k (λ t. with_all_lacking t ds)) one.1) ∙ wrong)

-- ---- files

pub lacking_stops : (files : List ClusterFile) (i : ℕ) (f : ClusterFile) (s u : Serving) (server : Server) (ends : Ends)
    (stop : ServerStop) (served unserved : List ServerStep)
    → slice_get files i ≡ Some f → InTurn MakesLacking (take i files) s u → has_file u.server f ≡ false
    → StopsBy (λ has. LosesFile f u server has ends) (RefusesFile f u.server) (CutsFile f u ends) stop served unserved
    → StopsBy (λ has. LosesLacking files s server has ends) (RefusesLacking files s) (CutsLacking files s ends) stop served
    unserved
lacking_stops files i f s u server ends stop served unserved e made lacks h =
    stops_by (λ has. LosesFile f u server has ends) (λ has. LosesLacking files s server has ends) (RefusesFile f u.server)
    (RefusesLacking files s) (CutsFile f u ends) (CutsLacking files s ends) served unserved
    (λ l. stops_at MakesLacking (λ g v. (has_file v.server g ≡ false) × LosesFile g v server served ends) files i f s u e made
    (lacks, l))
    (λ r. stops_at MakesLacking (λ g v. (has_file v.server g ≡ false) × RefusesFile g v.server) files i f s u e made (lacks, r))
    (λ x. stops_at MakesLacking (λ g v. (has_file v.server g ≡ false) × CutsFile g v ends served unserved) files i f s u e made
    (lacks, x)) stop h

none_there : {A : Type 0} (o : Option A) → is_some o ≡ false → o ≡ None
none_there None there = refl
none_there (Some x) there = cc there

-- a file with a good map that the server lacks is refused for want of drives alone
few_for : (n : ℕ) (f : ClusterFile) (server : Server) → is_good_map n f.map ≡ true → HasAlgorithm f.map
    → has_file server f ≡ false → RefusesFile f server
    → length (online server.drives) < f.map.comps
few_for n f server good algorithm lacks (inr without) = absurd (without algorithm)
few_for n f server good algorithm lacks (inl refused) = elim (cases_Bool (nat_le f.map.comps (length (online server.drives)))) [
  | inl enough ↦
      let parts = and_parts (is_ok (checked f.map) && nat_le f.map.comps 64) (nat_le f.map.comps n) good in
      let none =
      unrefused server f.number f.map (length (online server.drives)) (none_there (file_at server.files f.number) lacks) refl
      (rw (parts.0, enough) refl) in
      absurd (cc (sym none ∙ refused.1))
  | inr few ↦ grind (arith, nat_tests, few)
]

pub few_drives : (n : ℕ) (files : List ClusterFile) (s : Serving) → AreMakeable n files → RefusesLacking files s
    → LacksDrivesFor files s
few_drives n files s sound r =
    let maps = makeable_at n r.done r.next r.left (subst (λ (fs : List ClusterFile). AreMakeable n fs) r.are sound) in record {
      done = r.done;
      next = r.next;
      left = r.left;
      are = r.are;
      before = r.before;
      does = r.does;
      stops = (r.stops.0, few_for n r.next (r.before).server maps.0 maps.1 r.stops.0 r.stops.1);
    }
