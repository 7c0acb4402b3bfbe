-- A file that is made fits, and so does what any step of the server leaves.
use Rattle.std.specs.List.{AllByRecursion}
use Rattle.std.proofs.Common.{◌≡◌, ◌==◌, ℕ, zero, suc, ◌+◌, ◌≤◌, ◌<◌, ◌++◌, Bool, true, false, List, [], ◌∷◌, Option, Some, None, Result, Ok, Err, is_some, flat_map, map, take, length, nat_lt, refl, ap, subst, ◌∙◌, arith, if◌then◌else◌}
use Rattle.std.proofs.lemmas.Bool.Decides.{nat_tests}
use Rattle.data_map.specs.declared.check.RawMap.{RawMap}
use Rattle.data_map.specs.declared.check.MapErr.{MapErr}
use Rattle.data_map.specs.declared.check.MapErr.TheVariants.{Unit as BadUnit, TooMany}
use Rattle.data_map.specs.Check.{HasAlgorithm, bad_unit, checked, IsChecked}
use Rattle.data_map.proofs.Checks.{checked_is_checked}
use Rattle.scenario_text.specs.declared.names.TheConstants.{FILES}
use Rattle.server_rules.specs.declared.limits.TheConstants.{MAX_FILE_COMPONENTS, GREATEST_TAG}
use Rattle.osd_capability.specs.Layout.{is_format}
use Rattle.world_history.specs.ServerNames.{Server, Kept, File, Drive, Awaited, Effects, Job, JobKind, Revoking, Work, Making, Creates, Refusal}
use Rattle.server_rules.specs.Commands.{Creating, All, is_meant, to_each, to_all}
use Rattle.server_rules.specs.Going.{Going, rests_or}
use Rattle.server_rules.specs.Jobs.{is_made, making, fence_begins}
use Rattle.server_rules.specs.Files.{still, begins, file_at, at_file, to_drives}
use Rattle.server_rules.specs.Openings.{crashed_file, is_unsettled, opens_made, opens_spent, opens_fenced, opens, opens_each, crash}
use Rattle.server_rules.specs.Messages.{awaited_by}
use Rattle.server_rules.specs.Making.{checked_64, by_check, refusal, drives_for, components_on, unmade, with_file, makes_file, set_format}
use Rattle.server_rules.specs.History.{Input, Makes, Adds, Zones, Formats, step}
use Rattle.server_rules.proofs.Components.{length_components}
use Rattle.server_rules.proofs.Placed.{length_made}
use Rattle.history_law.specs.Steps.{IsOrdered, with_added, with_zoned, new_file, StepCases}
use Rattle.history_law.proofs.Steps.{each_step}
use Rattle.history_law.specs.Placed.{AreNamed}
use Rattle.history_law.proofs.Placing.{greater_format}
use Rattle.history_law.proofs.Made.{AllNamed, for_named}
use Rattle.history_law.proofs.Inputs.{added_named, zoned_named}
use Rattle.exchange_law.specs.Files.{KeptFits}
use Rattle.exchange_law.proofs.Parts.{each_more, PartsFit, AllNear, JobFits}
use Rattle.exchange_law.proofs.Running.{Sound, From, here, over_runs}
use Rattle.exchange_law.proofs.Mending.{fence_runs, making_runs}
use Rattle.exchange_law.proofs.CountStepping.{FileFits, ServerFits, IsGiven, IsNamedOut, AreNamedOut, drives_out, length_drives, sent_near, wider_files, put_fits, add_fits, FoundFile, found_file, StepFits, quiet_fits, still_fits, RoundFits, no_files_fit, then_fits, round_fits, request_fits, answered_fits, recalled_fits, refused_fits, fenced_fits, told_fits, declared_fits}

-- ---- the map that a file is made with

abbrev IsGood : RawMap → Type 0
IsGood m = IsChecked m × (m.comps ≤ MAX_FILE_COMPONENTS)

by_tests : (m n : RawMap) (a b : Bool) → HasAlgorithm m → nat_lt MAX_FILE_COMPONENTS m.comps ≡ b
    → (if a then Err BadUnit else if b then Err TooMany else checked m) ≡ Ok n → IsGood m
by_tests m n true b h is e = absurd (cc e)
by_tests m n false true h is e = absurd (cc e)
by_tests m n false false h is e = (checked_is_checked m n h e, grind (arith, is, nat_tests))

by_result : (m : RawMap) (zoned : Bool) (ds : List Drive) (r : Result RawMap MapErr) → ((n : RawMap) → r ≡ Ok n → IsGood m)
    → by_check zoned ds r ≡ None → IsGood m
by_result m zoned ds (Err e) good none = absurd (cc none)
by_result m zoned ds (Ok n) good none = good n refl

by_name : (m : RawMap) (b : Bool) (x : Refusal) (o : Option Refusal) → (if b then Some x else o) ≡ None
    → (o ≡ None → IsGood m) → IsGood m
by_name m true x o e good = absurd (cc e)
by_name m false x o e good = good e

pub good_map : (s : Server) (number : ℕ) (m : RawMap) (zoned : Bool) → HasAlgorithm m → refusal s number m zoned ≡ None
    → IsGood m
unfolding refusal checked_64
good_map s number m zoned h none =
    by_name m (is_some (file_at s.files number)) _ _ none
    (by_result m zoned s.drives (checked_64 m)
    (λ n e. by_tests m n (bad_unit m) (nat_lt MAX_FILE_COMPONENTS m.comps) h refl e))

-- ---- its components

taken : (count : ℕ) (ns : List ℕ) → length (take count ns) ≤ count
taken zero ns = omega arith
taken (suc n) [] = omega arith
taken (suc n) (x ∷ ns) = omega (arith, taken n ns)

components_fit : (ns : List ℕ) (object n : ℕ) → object + length ns ≤ n → AllNamed ns
    → PartsFit n (components_on ns object)
unfolding components_on
components_fit [] object n l k = tt
components_fit (d ∷ ns) object n l k = (
  record { drive = k.0; object = omega (arith, l) },
  components_fit ns (object + 1) n (omega (arith, l)) k.1,
)

-- each is sent CREATE
creates_all : (f : Kept) (ns : List ℕ) (object k nonce : ℕ)
    → length (to_each f All Creating (components_on ns object) k nonce) ≡ length ns
unfolding to_each components_on is_meant
creates_all f [] object k nonce = refl
creates_all f (d ∷ ns) object k nonce = ap suc (creates_all f ns (object + 1) (k + 1) (nonce + 1))

sent_or : (cs : List Awaited) (g : Going) (kind : JobKind) (work : Work) (later : Going)
    → later.effects.sent ≡ g.effects.sent ++ [] → later.effects.object ≡ g.effects.object
    → ((rests_or cs g kind work later).effects.sent ≡ g.effects.sent ++ cs)
    × ((rests_or cs g kind work later).effects.object ≡ g.effects.object)
sent_or [] g kind work later e o = (e, o)
sent_or (c ∷ cs) g kind work later e o = (refl, refl)

-- ---- the step

module _ (s : Server) (number : ℕ) (m : RawMap) (tag : ℕ) (zoned : Bool) (chosen : List ℕ) (k : ServerFits s)
    (given : (number < FILES) × (tag ≤ GREATEST_TAG) × HasAlgorithm m) where
  abbrev new : File
  new = unmade s number m tag zoned (drives_for zoned s.drives m chosen)

  abbrev start : Going
  start = at_file (with_file s (unmade s number m tag zoned (drives_for zoned s.drives m chosen))) []
      (unmade s number m tag zoned (drives_for zoned s.drives m chosen))

  made_kept : IsGood m → refusal s number m zoned ≡ None → KeptFits (s.next_object + length new.kept.components) new.kept
  made_kept good none =
      let many = length_components (drives_for zoned s.drives m chosen) s.next_object in
      record {
        number = given.0;
        map = good.0;
        few = omega (arith, many, length_made s number m zoned chosen none, good.1);
        format = k.format;
        tag = given.1;
        size = omega arith;
        components =
            components_fit (drives_for zoned s.drives m chosen) s.next_object _ (omega (arith, many))
            (for_named zoned s.drives m chosen k.drives);
        grants = tt;
        ended = tt;
        high = omega arith;
      }

  made_sent : ((making start).effects.sent ≡ to_all new.kept All Creating s.next_nonce)
      × ((making start).effects.object ≡ s.next_object + length new.kept.components)
  unfolding making
  made_sent =
      sent_or (to_all new.kept All Creating s.next_nonce) start Making Creates (is_made start) refl refl

  pub made_file_fits : IsGood m → refusal s number m zoned ≡ None → StepFits s (makes_file s new)
  made_file_fits good none =
      let kept = made_kept good none in
      let r = making_runs start (record { kept = kept; drives = k.drives }) in
      let sent = made_sent in
      let long : length (to_drives s.drives (making start).effects.sent) ≡ length r.more =
      length_drives s.drives (making start).effects.sent ∙ ap (λ (ws : List Awaited). length ws) r.sent_is in
      let creates : length (making start).effects.sent ≡ length (drives_for zoned s.drives m chosen) =
      ap (λ (ws : List Awaited). length ws) sent.0
      ∙ creates_all new.kept (drives_for zoned s.drives m chosen) s.next_object 0 s.next_nonce in
      let same : length (to_drives s.drives (making start).effects.sent) ≡ length (making start).effects.sent =
      length_drives s.drives (making start).effects.sent in
      let many = length_components (drives_for zoned s.drives m chosen) s.next_object in
      let rises : s.next_object ≤ (making start).effects.object = omega (arith, sent.1) in
      let whole : s.next_object + length new.kept.components ≤ (making start).effects.object = omega (arith, sent.1) in
      record {
        fits = record {
          drives = k.drives;
          format = k.format;
          files =
              put_fits (making start).effects.object _ number (making start).file
              (add_fits (making start).effects.object s.files new
              (wider_files s.next_object (making start).effects.object s.files rises k.files)
              (wider_files (s.next_object + length new.kept.components) (making start).effects.object (new ∷ []) whole
              ((kept, tt), tt)).0)
              (r.kept, r.job);
          slots = k.slots;
        };
        named = drives_out s.drives (making start).effects.sent
            (sent_near (making start).effects.sent r.more r.sent_is r.near);
        nonces = omega (arith, r.rises, long);
        objects = omega (arith, sent.1, creates, same, many);
        recalls = omega arith;
        grows = rises;
      }

-- ---- what jobs wait for, again

awaited_near : (n tag : ℕ) (f : File) → JobFits n tag f.job → AllNear (awaited_by f.job)
awaited_near n tag f k = by_job f.job k
  where
    by_job : (o : Option Job) → JobFits n tag o → AllNear (awaited_by o)
    by_job None j = tt
    by_job (Some x) j = j.1

resent_out : (ds : List Drive) (n : ℕ) (fs : List File) → AllByRecursion (FileFits n) fs
    → AreNamedOut (flat_map (λ f. to_drives ds (awaited_by f.job)) fs)
resent_out ds n [] k = tt
resent_out ds n (f ∷ fs) k =
    each_more IsNamedOut (to_drives ds (awaited_by f.job)) _
    (drives_out ds (awaited_by f.job) (awaited_near n f.kept.tag f k.0.1)) (resent_out ds n fs k.1)

-- ---- a crash, and an opening

crashed_fit : (n : ℕ) (fs : List File) → AllByRecursion (FileFits n) fs
    → AllByRecursion (FileFits n) (map crashed_file fs)
crashed_fit n [] k = tt
crashed_fit n (f ∷ fs) k = ((k.0.0, tt), crashed_fit n fs k.1)

opens_run : (format : ℕ) (g : Going) → is_format format ≡ true → Sound g
    → JobFits g.effects.object g.file.kept.tag g.file.job → From g (opens format g)
unfolding opens opens_fenced
opens_run format g known s j = either (is_unsettled g.file.kept) (g.file.kept.tag == GREATEST_TAG) refl
  where
    made : (ready : Bool) → From g (opens_made g ready)
    made true = over_runs g s
    made false = making_runs g s

    either : (b spent : Bool) → (g.file.kept.tag == GREATEST_TAG) ≡ spent
        → From g (if b then (if spent then opens_spent g else fence_begins Revoking format g)
        else opens_made g g.file.kept.ready)
    either true true is = here (opens_spent g) (record { kept = s.kept; drives = s.drives }) j
    either true false is = fence_runs Revoking format g known s (grind (arith, is, s.kept.tag, nat_tests))
    either false spent is = made g.file.kept.ready

-- each file sends one command for a component at most, and a number goes with each
each_opened : (format : ℕ) (ds : List Drive) (fs : List File) (m : Effects) → is_format format ≡ true → AreNamed ds
    → AllByRecursion (FileFits m.object) fs → RoundFits m.nonce m.object m.sent (opens_each format ds fs m)
unfolding opens_each
each_opened format ds [] m known named k = no_files_fit m []
each_opened format ds (f ∷ fs) m known named k =
    let g : Going = record { file = f; effects = m; drives = ds; chosen = [] } in
    let h : Going = opens format g in
    let a = opens_run format g known (record { kept = k.0.0; drives = named }) k.0.1 in
    then_fits g h _ a
    (each_opened format ds fs h.effects known named (wider_files m.object h.effects.object fs a.objects k.1))

-- ---- any step

module _ (s : Server) (chosen : List ℕ) (i : Input) (k : ServerFits s) (g : IsGiven i) where
  pub ordered_fits : (f : File) → IsOrdered s i f → FileFits s.next_object f
  ordered_fits f is = subst (FoundFile s.next_object) is.found (found_file s.next_object s.files is.target k.files)

  made_fits : (n : ℕ) (m : RawMap) (tag : ℕ) (zoned : Bool) → i ≡ Makes n m tag zoned → refusal s n m zoned ≡ None
      → StepFits s (makes_file s (new_file s chosen n m tag zoned))
  made_fits n m tag zoned is none =
      let given : IsGiven (Makes n m tag zoned) = subst IsGiven is g in
      made_file_fits s n m tag zoned chosen k given (good_map s n m zoned given.2 none) none

  added_fits : (d : Drive) → i ≡ Adds d → StepFits s (still (with_added s d))
  added_fits d is =
      let given : IsGiven (Adds d) = subst IsGiven is g in
      quiet_fits s (with_added s d) (record {
        drives = added_named s.drives d k.drives given;
        format = k.format;
        files = k.files;
        slots = k.slots;
      }) refl refl refl

  zoned_fits : (d zone : ℕ) → i ≡ Zones d zone → StepFits s (still (with_zoned s d zone))
  zoned_fits d zone is =
      quiet_fits s (with_zoned s d zone) (record {
        drives = zoned_named s.drives d zone k.drives;
        format = k.format;
        files = k.files;
        slots = k.slots;
      }) refl refl refl

  format_fits : (n : ℕ) → i ≡ Formats n → StepFits s (still (set_format s n))
  format_fits n is =
      let given : IsGiven (Formats n) = subst IsGiven is g in
      quiet_fits s (set_format s n) (record {
        drives = k.drives;
        format = greater_format s.format n k.format given;
        files = k.files;
        slots = k.slots;
      }) refl refl refl

  pub step_cases : StepCases s chosen i (StepFits s)
  step_cases = record {
    rests = still_fits s k;
    asked = λ now q is. request_fits s now chosen q k is.named;
    answered = λ x is. answered_fits s chosen i x is k;
    recalled = λ f is. recalled_fits s chosen f k (ordered_fits f is);
    refused = λ f is n why. refused_fits s chosen f k (ordered_fits f is) n;
    fenced = λ f is kind none low. fenced_fits s chosen f k (ordered_fits f is) kind low;
    declared = λ d known. declared_fits s chosen d k;
    told = λ t now o is result fits. told_fits s o.order result t fits;
    made = made_fits;
    added = added_fits;
    zoned = zoned_fits;
    formats = format_fits;
    resends = λ is. record {
      fits = k;
      named = resent_out s.drives s.next_object s.files k.files;
      nonces = omega arith;
      objects = omega arith;
      recalls = omega arith;
      grows = omega arith;
    };
    crashes = λ is.
        quiet_fits s (crash s) (record {
          drives = k.drives;
          format = k.format;
          files = crashed_fit s.next_object s.files k.files;
          slots = k.slots;
        }) refl refl refl;
    opened = λ is low.
        round_fits s s.drives (opens_each s.format s.drives s.files (begins s)) k k.drives
        (each_opened s.format s.drives s.files (begins s) k.format k.drives k.files);
  }

  pub step_fits : StepFits s (step s chosen i)
  step_fits = each_step s chosen i (StepFits s) step_cases
