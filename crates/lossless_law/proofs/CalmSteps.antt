-- A step of a history at which no component becomes missing and no drive fails keeps it calm.
use Rattle.std.proofs.Common.{◌≡◌, inl, inr, ℕ, ◌==◌, Bool, true, false, List, [], ◌∷◌, Option, Some, None, length, map, refl, sym, ap, subst, ◌∙◌}
use Rattle.std.specs.List.{AllByRecursion}
use Rattle.std.proofs.lemmas.Bool.{cases_Bool}
use Rattle.server_rules.specs.Files.{Step as ServerStep, file_at}
use Rattle.server_rules.specs.declared.server.Server.{Server}
use Rattle.world_history.specs.ServerNames.{File}
use Rattle.world_history.specs.Reading.{Step}
use Rattle.world_history.specs.Book.{server_step, server_behind, sees_server}
use Rattle.world_history.specs.Calm.{Seen, with_components, with_grants, untold_file, begun_file, server_begins, begins, watched, mended_in, through, sees, is_told_taken, failed_after}
use Rattle.lossless_law.specs.Lossless.{TellsNoLoss}
use Rattle.lossless_law.proofs.NotShort.{HasAllComponents}
use Rattle.lossless_law.proofs.GoodMoments.{IsThere, AreThere, IsGood, all_good, watched_good, number_at}

-- ---- the server in the middle of a step

-- files that are there before and behind have one map
abbrev pub SameMaps : List File → List File → Type 0
SameMaps before behind =
    (n : ℕ) (f g : File) → file_at before n ≡ Some f → file_at behind n ≡ Some g → g.kept.map ≡ f.kept.map

grants_there : (f : File) (o : Option File) → IsThere f → IsThere (with_grants f o)
grants_there f None there = there
grants_there f (Some old) there = there

untold_there : (untold : Bool) (before : List File) (f : File) → IsThere f → IsThere (untold_file untold before f)
untold_there true before f there = grants_there f (file_at before f.kept.number) there
untold_there false before f there = there

untold_map : (untold : Bool) (before : List File) (f : File) → (untold_file untold before f).kept.map ≡ f.kept.map
untold_map true before f = of_grants (file_at before f.kept.number)
  where
    of_grants : (o : Option File) → (with_grants f o).kept.map ≡ f.kept.map
    of_grants None = refl
    of_grants (Some old) = refl
untold_map false before f = refl

begun_there : (untold : Bool) (before : List File) (f : File) (o : Option File) → IsThere f
    → ((old : File) → o ≡ Some old → IsThere old × (f.kept.map ≡ old.kept.map))
    → IsThere (with_components (untold_file untold before f) o)
begun_there untold before f None there olds = untold_there untold before f there
begun_there untold before f (Some old) there olds =
    let it : IsThere old × (f.kept.map ≡ old.kept.map) = olds old refl in
    let same : old.kept.map ≡ (untold_file untold before f).kept.map = sym it.1 ∙ sym (untold_map untold before f) in (
      it.0.0,
      subst (λ m. HasAllComponents (m, length old.kept.components)) same it.0.1,
    )

begun_number : (untold : Bool) (before : List File) (f : File) → (begun_file untold before f).kept.number ≡ f.kept.number
begun_number untold before f = of_old (untold_file untold before f) (file_at before f.kept.number) ∙ of_untold untold
  where
    of_old : (g : File) (o : Option File) → (with_components g o).kept.number ≡ g.kept.number
    of_old g None = refl
    of_old g (Some old) = refl

    of_grants : (o : Option File) → (with_grants f o).kept.number ≡ f.kept.number
    of_grants None = refl
    of_grants (Some old) = refl

    of_untold : (b : Bool) → (untold_file b before f).kept.number ≡ f.kept.number
    of_untold true = of_grants (file_at before f.kept.number)
    of_untold false = refl

begun_at : (untold : Bool) (before fs : List File) (n : ℕ) (x : File) → file_at (map (begun_file untold before) fs) n ≡ Some x
    → (g : File) × (file_at fs n ≡ Some g) × (x ≡ begun_file untold before g)
unfolding file_at
begun_at untold before [] n x e = absurd (cc e)
begun_at untold before (f ∷ fs) n x e = elim (cases_Bool (f.kept.number == n)) [
  | inl t ↦
      let here : ((begun_file untold before f).kept.number == n) ≡ true =
      ap (λ (k : ℕ). k == n) (begun_number untold before f) ∙ t in
      let same : begun_file untold before f ≡ x = cc (rw here at e) in
      (f, rw t refl, sym same)
  | inr z ↦
      let here : ((begun_file untold before f).kept.number == n) ≡ false =
      ap (λ (k : ℕ). k == n) (begun_number untold before f) ∙ z in
      let rest : (g : File) × (file_at fs n ≡ Some g) × (x ≡ begun_file untold before g) =
      begun_at untold before fs n x (rw here at e) in
      (rest.0, rw z rest.1, rest.2)
]

middle_there : (untold : Bool) (before behind : List File) → AreThere before → AreThere behind → SameMaps before behind
    → AreThere (map (begun_file untold before) behind)
middle_there untold before behind b a maps n x e =
    let it : (g : File) × (file_at behind n ≡ Some g) × (x ≡ begun_file untold before g) = begun_at untold before behind n x e in
    let number : it.0.kept.number ≡ n = number_at behind n it.0 it.1 in
    subst IsThere (sym it.2)
    (begun_there untold before it.0 (file_at before it.0.kept.number) (a n it.0 it.1)
    (λ old found.
    let there : file_at before n ≡ Some old = ap (λ (k : ℕ). file_at before k) (sym number) ∙ found in
    (b n old there, maps n old it.0 there it.1)))

server_there : (s : Server) (told : Bool) (did : Option ServerStep) → AreThere s.files → AreThere (server_behind s did).files
    → SameMaps s.files (server_behind s did).files → AreThere (server_begins s told did).files
server_there s told None b a maps = b
server_there s told (Some did) b a maps = middle_there _ s.files did.state.files b a maps

-- ---- a step

pub step_good : (s : Seen) (t : Step) → s.calm ≡ true → s.moment.failed ≡ []
    → failed_after s.moment.failed t.head ≡ s.moment.failed
    → AllByRecursion TellsNoLoss t.rest → AreThere s.server.server.files → AreThere (sees_server s.server t).server.files
    → SameMaps s.server.server.files (sees_server s.server t).server.files
    → ((sees s t).calm ≡ true) × ((sees s t).moment.failed ≡ [])
step_good s t calm failed head told b a maps =
    let did : Option ServerStep = server_step s.server t in
    let start : AreThere (begins s t did).server.files =
    server_there s.server.server (is_told_taken t.rest) (server_step s.server t) b a maps in
    let good : IsGood (through s t did) =
    all_good (mended_in (server_step s.server t)) (watched (record { moment = s.moment; calm = s.calm }) (begins s t did))
    t.rest told
    (record {
      there = start;
      failed = head ∙ failed;
      calm = watched_good s.calm (begins s t did) calm (head ∙ failed) start;
    }) in
    (good.calm, good.failed)
