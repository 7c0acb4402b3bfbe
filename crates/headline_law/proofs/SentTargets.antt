-- What a job makes of the components of its file: each stays in its place, or is made anew of the target, and the next
-- target is of a later component.
use Rattle.std.proofs.Common.{◌≡◌, ◌⊎◌, ◌==◌, ◌||◌, ◌<◌, ◌+◌, ℕ, zero, suc, Bool, true, false, List, [], ◌∷◌, slice_get, slice_set, Option, Some, None, refl, sym, ap, subst, ◌∙◌, arith, inl, inr, if◌then◌else◌}
use Rattle.std.proofs.lemmas.Option.{same_Some}
use Rattle.server_rules.specs.declared.limits.TheConstants.{GREATEST_TAG}
use Rattle.server_rules.specs.Files.{file_at, at_file}
use Rattle.server_rules.specs.Going.{Going, noting, with_components}
use Rattle.server_rules.specs.History.{Input, step}
use Rattle.server_rules.specs.Jobs.{fence_begins, loses, declares, declared_in, is_target, targets}
use Rattle.server_rules.specs.Making.{with_file}
use Rattle.server_rules.specs.Openings.{crashed_file, is_unsettled, opens_made, opens_fenced, opens}
use Rattle.server_rules.specs.Rebuild.{stands_at}
use Rattle.server_rules.specs.Replies.{Hearing, Older, Full, Done, Nothing, hearing, others, fills_up, heard_with, hears}
use Rattle.server_rules.specs.Standing.{any_on, lose_on, lose_from}
use Rattle.server_rules.proofs.FileLaws.{number_at}
use Rattle.server_rules.proofs.Runs.{ran_making}
use Rattle.history_law.specs.Names.{Server, File, Drive, Effects, Component, Awaited, Target, Job, JobKind, Revoking, Work, Creates, Fences, Fetches, Stores, Targets, Gathers, Fills, Lengths, Checks, NoSpace, Reply}
use Rattle.component_law.specs.Distinct.{AreDistinct}
use Rattle.component_law.specs.Objects.{target_in, target_of}
use Rattle.relation_law.proofs.Places.{IsPlaced, KeepPlaces, placed_then}
use Rattle.relation_law.proofs.Walk.{Place, AtFill, AtSources, AtRebuild, Asks, Makes, Raises, Reads, Writes, Aims, Sources, Filled, Measures, Checks_, JobCases, place_behind, lost_place, walk_loses, walk_fence, walk_making, walk_gone, walk_full, walk_waits}
use Rattle.relation_law.proofs.Ways.{IsAlike, alike_spent, FileWays, alike_lacks, alike_lost}
use Rattle.relation_law.proofs.WaysSteps.{files_go}

-- a component that is set is at its place
set_at : (cs : List Component) (n i : ℕ) (y b : Component) → slice_get (slice_set cs n y) i ≡ Some b →
    ((b ≡ y) × (i ≡ n)) ⊎ (slice_get cs i ≡ Some b)
set_at [] n i y b e = inr e
set_at (x ∷ cs) zero zero y b e = inl (cc (sym e), refl)
set_at (x ∷ cs) zero (suc i) y b e = inr e
set_at (x ∷ cs) (suc n) zero y b e = inr e
set_at (x ∷ cs) (suc n) (suc i) y b e = elim (set_at cs n i y b e) [
  | inl own ↦ inl (own.0, ap (λ (z : ℕ). suc z) own.1)
  | inr was ↦ inr was
]

module _ (f : File) where
  -- component k was in this place
  abbrev pub IsStill : (k : ℕ) → Component → Type 0
  IsStill k at = (a : Component) × (slice_get f.kept.components k ≡ Some a) × IsPlaced a at

  abbrev pub AllStill : List Component → Type 0
  AllStill cs = (k : ℕ) (at : Component) → slice_get cs k ≡ Some at → IsStill k at

  -- it has the object of the target that the file's job had
  abbrev pub IsRemade : Component → Type 0
  IsRemade at = (t : Target) × (target_of f.job ≡ Some t) × (at.object ≡ t.object)

  -- so is each below component n, and each other was in its place
  abbrev RemadeBelow : (n : ℕ) → List Component → Type 0
  RemadeBelow n cs =
      (k : ℕ) (at : Component) → slice_get cs k ≡ Some at → IsStill k at ⊎ (IsRemade at × (k < n))

  -- and each that is made anew is below the component of the present target
  abbrev pub AreRemade : List Component → Option Target → Type 0
  AreRemade cs o =
      (k : ℕ) (at : Component) → slice_get cs k ≡ Some at →
      IsStill k at ⊎ (IsRemade at × ((u : Target) → o ≡ Some u → k < u.component))

  still_remade : (cs : List Component) (o : Option Target) → AllStill cs → AreRemade cs o
  still_remade cs o still k at there = inl (still k at there)

  none_remade : (n : ℕ) (cs : List Component) → RemadeBelow n cs → AreRemade cs None
  none_remade n cs below k at there = elim (below k at there) [
    | inl old ↦ inl old
    | inr new ↦ inr (new.0, λ u is. absurd (cc is))
  ]

  aimed_remade : (t : Target) (cs : List Component) → RemadeBelow t.component cs → AreRemade cs (Some t)
  aimed_remade t cs below k at there = elim (below k at there) [
    | inl old ↦ inl old
    | inr new ↦ inr (new.0, λ u is. subst (λ (y : Target). k < y.component) (same_Some t u is) new.1)
  ]

  -- ---- places

  abbrev PlaceRemakes : Place → Going → Type 0
  PlaceRemakes (AtRebuild n) g = RemadeBelow n g.file.kept.components
  PlaceRemakes (AtFill t ps) g = AllStill g.file.kept.components × (target_of f.job ≡ Some t)
  PlaceRemakes (AtSources t p ps heard) g = AllStill g.file.kept.components × (target_of f.job ≡ Some t)
  PlaceRemakes place g = AllStill g.file.kept.components

  abbrev Remakes : Going → Type 0
  Remakes g = AreRemade g.file.kept.components (target_of g.file.job)

  asked_at : (g : Going) (place : Place) (work : Work) (ws : List Awaited) → PlaceRemakes place g →
      Asks g place work ws → AreRemade g.file.kept.components (target_in work)
  asked_at g place work ws q Makes = still_remade g.file.kept.components _ q
  asked_at g place work ws q Raises = still_remade g.file.kept.components _ q
  asked_at g place work ws q (Reads p ps short) = still_remade g.file.kept.components _ q
  asked_at g place work ws q (Writes p ps heard short) = still_remade g.file.kept.components _ q
  asked_at g place work ws q (Aims t) = aimed_remade t g.file.kept.components q
  asked_at g place work ws q (Sources t p ps) = still_remade g.file.kept.components _ q.0
  asked_at g place work ws q (Filled t p ps heard bytes is some) = still_remade g.file.kept.components _ q.0
  asked_at g place work ws q Measures = still_remade g.file.kept.components _ q
  asked_at g place work ws q (Checks_ p ps tally) = still_remade g.file.kept.components _ q

  below_more : (n : ℕ) (cs : List Component) → RemadeBelow n cs → RemadeBelow (n + 1) cs
  below_more n cs below k at there = elim (below k at there) [
    | inl old ↦ inl old
    | inr new ↦ inr (new.0, omega (arith, new.1))
  ]

  below_any : (n : ℕ) (cs : List Component) → AllStill cs → RemadeBelow n cs
  below_any n cs still k at there = inl (still k at there)

  remake_cases : JobCases PlaceRemakes Remakes
  remake_cases = record {
    asks = λ place work c cs kind g q a. asked_at g place work (c ∷ cs) q a;
    aims = λ t g q is. aimed_remade t g.file.kept.components q;
    readied = λ g q. still_remade g.file.kept.components _ q;
    rests_behind = λ g q. still_remade g.file.kept.components None q;
    built = λ n g q. none_remade n g.file.kept.components q;
    counted = λ t g q. still_remade g.file.kept.components _ q;
    raises = λ g q. q;
    skips = λ p ps g q e. q;
    unchanged = λ p ps heard g q e. q;
    repaired = λ short g q. q;
    begins = λ g q. below_any 0 g.file.kept.components q;
    passes = λ b n g q. below_more n g.file.kept.components q;
    builds = λ t g q k at there.
        elim (set_at g.file.kept.components t.component k (stands_at t) at there) [
          | inl own ↦
              inr ((t, q.1, ap (λ (y : Component). y.object) own.0), omega (arith, own.1))
          | inr was ↦ inl (q.0 k at was)
        ];
    loses_it = λ t p ps lacked g q e. below_any (t.component + 1) g.file.kept.components q.0;
    gone = λ t todo g q. below_any (t.component + 1) g.file.kept.components q.0;
    full = λ t todo g q. below_any (t.component + 1) g.file.kept.components q.0;
    zeros = λ t p ps heard g q e. q;
    lengths = λ g q. q;
    counts = λ p ps g q. q;
  }

  -- ---- the file as it is

  still_here : (g : Going) → g.file ≡ f → AllStill g.file.kept.components
  still_here g same =
      subst (λ (y : File). AllStill y.kept.components) (sym same)
      (λ k at there. (at, there, record { drive = refl; object = refl; missing = λ e. e }))

  still_kept : (cs ds : List Component) → KeepPlaces cs ds → AllStill cs → AllStill ds
  still_kept cs ds keeps still k at there =
      let was = keeps.back k at there in
      let o = still k was.0 was.1 in
      (o.0, o.1, placed_then o.0 was.0 at o.2 was.2)

  here : (g : Going) → g.file ≡ f → Remakes g
  here g same = still_remade g.file.kept.components _ (still_here g same)

  alike : (g h : Going) → IsAlike g h → Remakes g → Remakes h
  alike g h a m k at there =
      let was = a.places.back k at there in
      elim (m k was.0 was.1) [
        | inl old ↦ inl (old.0, old.1, placed_then old.0 was.0 at old.2 was.2)
        | inr new ↦
            inr (
              (new.0.0, new.0.1, was.2.object ∙ new.0.2),
              λ u is. new.1 u (sym (ap target_of a.job) ∙ is),
            )
      ]

  -- ---- a fence, an opening, and a crash

  fence : (kind : JobKind) (format : ℕ) (g : Going) → AllStill g.file.kept.components → Remakes (fence_begins kind format g)
  fence kind format g still = walk_fence PlaceRemakes Remakes remake_cases kind format g still

  opening : (g : Going) (format : ℕ) → g.file ≡ f → Remakes (opens format g)
  unfolding opens opens_fenced
  opening g format same =
      pick (is_unsettled g.file.kept) _ _
      (pick (g.file.kept.tag == GREATEST_TAG) _ _ (alike g _ (alike_spent g) (here g same))
      (fence Revoking format g (still_here g same)))
      (by_ready g.file.kept.ready)
    where
      pick : (b : Bool) (x y : Going) → Remakes x → Remakes y → Remakes (if b then x else y)
      pick true x y p q = p
      pick false x y p q = q

      by_ready : (b : Bool) → Remakes (opens_made g b)
      by_ready true = still_remade g.file.kept.components None (still_here g same)
      by_ready false = walk_making PlaceRemakes Remakes remake_cases g (still_here g same)

  crash : (g : Going) → g.file ≡ crashed_file f → Remakes g
  crash g same =
      subst (λ (y : File). AreRemade y.kept.components (target_of y.job)) (sym same)
      (still_remade f.kept.components _
      (λ k at there. (at, there, record { drive = refl; object = refl; missing = λ e. e })))

  -- ---- a job

  module _ (j : Job) (runs : f.job ≡ Some j) where
    aimed : (t : Target) (work : Work) → j.work ≡ work → target_in work ≡ Some t → target_of f.job ≡ Some t
    aimed t work is to = ap target_of runs ∙ ap target_in is ∙ to

    module _ (h : Going) (still : AllStill h.file.kept.components) (p : Awaited → Bool) (rest : List Awaited) (gone : Bool)
        (stays : Remakes h) where
      walked : (work : Work) → j.work ≡ work → PlaceRemakes (lost_place h.file.kept work) h → Remakes (loses h j work rest gone)
      walked work is q =
          walk_loses PlaceRemakes Remakes remake_cases h j work rest gone is (record {
            waits = λ c cs e. still_remade h.file.kept.components _ still;
            stays = stays;
            on = λ none. subst (λ (y : Work). PlaceRemakes (lost_place h.file.kept y) h) (sym is) q;
          })

      lost_target : (t : Target) (b : Bool) → j.work ≡ Targets t → Remakes (loses h j (Targets t) rest b)
      unfolding loses
      lost_target t true is =
          walk_gone PlaceRemakes Remakes remake_cases t [] h (still, aimed t (Targets t) is refl)
      lost_target t false is = stays

      -- a component is lost, or the target
      lost : (work : Work) → j.work ≡ work → Remakes (loses h j work rest gone)
      lost Creates is = walked Creates is still
      lost Fences is = walked Fences is still
      lost (Fetches todo short) is = walked (Fetches todo short) is still
      lost (Stores todo short b) is = walked (Stores todo short b) is still
      lost (Targets t) is = lost_target t gone is
      lost (Gathers t todo) is = walked (Gathers t todo) is (still, aimed t (Gathers t todo) is refl)
      lost (Fills t todo) is = walked (Fills t todo) is (still, aimed t (Fills t todo) is refl)
      lost Lengths is = walked Lengths is still
      lost (Checks todo tally) is = walked (Checks todo tally) is still

  -- ---- a reply

  module _ (m : Effects) (ds : List Drive) (chosen : List ℕ) (j : Job) (runs : f.job ≡ Some j) (a : Awaited) (r : Reply) where
    abbrev g : Going
    g = record { file = f; effects = m; drives = ds; chosen = chosen }

    still : AllStill f.kept.components
    still = still_here g refl

    -- a component lacks space
    abbrev lacks : Going
    lacks = noting (with_components g (lose_from (a.component ∷ []) f.kept.components 0)) (NoSpace a.component)

    lacks_alike : IsAlike g lacks
    lacks_alike = alike_lacks g a.component

    lacks_remakes : (work : Work) → j.work ≡ work → Remakes (loses lacks j work (others j.awaited a.command.nonce) false)
    lacks_remakes work is =
        lost j runs lacks (still_kept f.kept.components lacks.file.kept.components lacks_alike.places still) (λ x. true) _ false
        (alike g lacks lacks_alike (here g refl)) work is

    full_remakes : (work : Work) → j.work ≡ work → Remakes (fills_up g j a work)
    full_remakes (Targets t) is =
        walk_full PlaceRemakes Remakes remake_cases t [] g (still, aimed j runs t (Targets t) is refl)
    full_remakes (Gathers t todo) is =
        walk_full PlaceRemakes Remakes remake_cases t [] g (still, aimed j runs t (Gathers t todo) is refl)
    full_remakes (Fills t todo) is =
        walk_full PlaceRemakes Remakes remake_cases t [] g (still, aimed j runs t (Fills t todo) is refl)
    full_remakes Creates is = lacks_remakes Creates is
    full_remakes Fences is = lacks_remakes Fences is
    full_remakes (Fetches todo short) is = lacks_remakes (Fetches todo short) is
    full_remakes (Stores todo short b) is = lacks_remakes (Stores todo short b) is
    full_remakes Lengths is = lacks_remakes Lengths is
    full_remakes (Checks todo t) is = lacks_remakes (Checks todo t) is

    -- the job goes on
    behind : (work : Work) → j.work ≡ work → PlaceRemakes (place_behind f.kept work (heard_with j a r)) g
    behind Creates is = still
    behind Fences is = still
    behind (Fetches [] short) is = still
    behind (Fetches (p ∷ ps) short) is = still
    behind (Stores [] short b) is = still
    behind (Stores (p ∷ ps) short true) is = still
    behind (Stores (p ∷ ps) short false) is = still
    behind (Targets t) is = (still, aimed j runs t (Targets t) is refl)
    behind (Gathers t []) is = (still, aimed j runs t (Gathers t []) is refl)
    behind (Gathers t (p ∷ ps)) is = (still, aimed j runs t (Gathers t (p ∷ ps)) is refl)
    behind (Fills t []) is = (still, aimed j runs t (Fills t []) is refl)
    behind (Fills t (p ∷ ps)) is = (still, aimed j runs t (Fills t (p ∷ ps)) is refl)
    behind Lengths is = still
    behind (Checks [] tally) is = still
    behind (Checks (p ∷ ps) tally) is = still

    heard_remakes : (x : Hearing) → Remakes (hears g j a r x)
    heard_remakes Older = still_remade f.kept.components _ still
    heard_remakes Full = full_remakes j.work refl
    heard_remakes Done =
        walk_waits PlaceRemakes Remakes remake_cases g j j.work (others j.awaited a.command.nonce) (heard_with j a r)
        (λ c cs is. still_remade f.kept.components _ still) (λ none. behind j.work refl)
    heard_remakes Nothing = here g refl

  -- ---- a declaration

  declaring : (g : Going) (drive : ℕ) → g.file ≡ f → Remakes (declares g drive)
  unfolding declares
  declaring g drive same =
      pick (any_on drive g.file.kept.components || targets g.file.job drive) (declared_in h drive g.file.job) g
      (by_job g.file.job refl) (here g same)
    where
      pick : (b : Bool) (x y : Going) → Remakes x → Remakes y → Remakes (if b then x else y)
      pick true x y p q = p
      pick false x y p q = q

      h : Going
      h = with_components g (lose_on drive g.file.kept.components)

      lost_alike : IsAlike g h
      lost_alike = alike_lost g drive

      here_lost : Remakes h
      here_lost = alike g h lost_alike (here g same)

      by_job : (o : Option Job) → g.file.job ≡ o → Remakes (declared_in h drive o)
      by_job None is = here_lost
      by_job (Some j) is =
          lost j (ap (λ (y : File). y.job) (sym same) ∙ is) h
          (still_kept g.file.kept.components h.file.kept.components lost_alike.places (still_here g same)) (λ x. true) _
          (is_target j.work drive) here_lost j.work refl

-- ---- a step

-- a file that is made wasn't there
abbrev IsMade : Server → File → Type 0
IsMade s g = file_at s.files g.kept.number ≡ None

remake_ways : (s : Server) (chosen : List ℕ) (i : Input) → FileWays s chosen i Remakes (IsMade s)
remake_ways s chosen i = record {
  stays = λ f g j same. here f g same;
  alike = λ f g h a p. alike f g h a p;
  heard = λ x is.
      heard_remakes x.file (at_file s chosen x.file).effects s.drives chosen x.job is.runs x.awaited x.reply
      (hearing x.file.kept x.awaited x.reply);
  fenced = λ f g kind format j same. fence f kind format g (still_here f g same);
  declared = λ f g drive j same. declaring f g drive same;
  crashed = λ f g j same. crash f g same;
  opened = λ f g format j same. opening f g format same;
  made = λ f there none. ap (file_at s.files) (ran_making (at_file (with_file s f) [] f)).number ∙ there;
}

-- What a file has become behind a step: each component stays in its place, or has the object of the target, and then a target
-- behind the step is of a later component.
pub components_remade : (s : Server) (chosen : List ℕ) (i : Input) → AreDistinct s.files → (n : ℕ) (f g : File) →
    file_at s.files n ≡ Some f → file_at (step s chosen i).state.files n ≡ Some g →
    AreRemade f g.kept.components (target_of g.job)
components_remade s chosen i apart n f g there behind =
    elim (files_go s chosen i Remakes (IsMade s) (remake_ways s chosen i) apart n g behind) [
      | inl x ↦
          let same : x.before ≡ f = same_Some x.before f (sym x.there ∙ there) in
          let so : Remakes f x.going = subst (λ (y : File). Remakes y x.going) same x.so in
          subst (λ (y : File). AreRemade f y.kept.components (target_of y.job)) x.is so
      | inr new ↦
          absurd (cc (sym there ∙ ap (file_at s.files) (sym (number_at (step s chosen i).state.files n g behind)) ∙ new))
    ]
