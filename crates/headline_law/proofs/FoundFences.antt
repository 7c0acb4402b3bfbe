-- What a fence leaves of a file: its components stay as they were, until its tag is raised.
-- Towards `EachHeldBecame` (`headline_law/specs/FoundHeld.antt`).
use Rattle.std.proofs.Common.{◌≡◌, ◌⊎◌, ◌==◌, ◌||◌, ◌&&◌, ℕ, ◌+◌, ◌<◌, Bool, true, false, List, [], ◌∷◌, slice_get, Option, Some, None, zero, suc, refl, sym, ap, subst, ◌∙◌, inl, inr, arith, if◌then◌else◌}
use Rattle.std.proofs.lemmas.Bool.{cases_Bool, eqb-true}
use Rattle.osd_commands.specs.declared.actions.Action.TheVariants.{SetTag}
use Rattle.server_rules.specs.declared.limits.TheConstants.{NO_SPACE, OLD_FORMAT}
use Rattle.server_rules.specs.Audit.{audits, audit_begins}
use Rattle.server_rules.specs.Commands.{All, Raising, to_all}
use Rattle.server_rules.specs.Going.{Going, keeping, noting_if, with_components, rests_or}
use Rattle.server_rules.specs.Jobs.{ending, fenced, is_target, others_than, fence_begins, goes_on, waits_or_on, loses, declared_in, targets, declares}
use Rattle.server_rules.specs.Rebuild.{makes_or, rebuilds, target_for}
use Rattle.server_rules.specs.Repair.{after_repair, mended, repairs, repair_begins}
use Rattle.server_rules.specs.Replies.{Hearing, hearing, hears, heard_with, is_done, is_write, Older, Full, Done, Nothing, others}
use Rattle.server_rules.specs.Standing.{lose_on, any_on}
use Rattle.world_history.specs.ServerNames.{Kept, Component, JobKind, Making, Revoking, Rebuilding, Auditing, Job, Work, Fences, Awaited, Heard, Piece, Target, Tally, Reply, NoDrive, Still, Fencing}

-- ---- components

-- component a stands there, at place k
pub record IsStill (ds : List Component) (k : ℕ) (a : Component) : Type 0 where
  pub component : Component
  pub there : slice_get ds k ≡ Some component
  pub drive : component.drive ≡ a.drive
  pub object : component.object ≡ a.object
  pub present : component.missing ≡ false

module _ (Off : ℕ → Type 0) where
  -- each that is present stays where it is, or its drive is off
  abbrev pub AreKept : List Component → List Component → Type 0
  AreKept cs ds = (k : ℕ) (a : Component) → slice_get cs k ≡ Some a → a.missing ≡ false → Off a.drive ⊎ IsStill ds k a

  pub kept_same : (cs ds : List Component) → ds ≡ cs → AreKept cs ds
  kept_same cs ds same k a there present = inr (record {
    component = a;
    there = ap (λ (l : List Component). slice_get l k) same ∙ there;
    drive = refl;
    object = refl;
    present = present;
  })

  pub kept_on : (drive : ℕ) → Off drive → (cs : List Component) → AreKept cs (lose_on drive cs)
  unfolding lose_on
  kept_on drive off [] k a there present = absurd (cc there)
  kept_on drive off (b ∷ cs) zero a there present =
      let same : b ≡ a = cc there in
      elim (cases_Bool (b.drive == drive)) [
        | inl t ↦ inl (subst Off (sym (eqb-true b.drive drive t) ∙ ap (λ (y : Component). y.drive) same) off)
        | inr no_ ↦
            inr (record {
              component = b;
              there = rw no_ refl;
              drive = ap (λ (y : Component). y.drive) same;
              object = ap (λ (y : Component). y.object) same;
              present = ap (λ (y : Component). y.missing) same ∙ present;
            })
      ]
  kept_on drive off (b ∷ cs) (suc k) a there present = elim (kept_on drive off cs k a there present) [
    | inl gone ↦ inl gone
    | inr s ↦
        inr (record { component = s.component; there = s.there; drive = s.drive; object = s.object; present = s.present })
  ]

  pub kept_then : (cs ds es : List Component) → AreKept cs ds → es ≡ ds → AreKept cs es
  kept_then cs ds es on same = subst (AreKept cs) (sym same) on

  -- the file's fence runs, under its tag, or its tag is raised; a file that was made stays made
  abbrev pub ComesTo : Kept → Kept → Type 0
  ComesTo f k =
      AreKept f.components k.components × (f.ready ≡ true → k.ready ≡ true)
      × (((k.phase ≡ Fencing) × (k.tag ≡ f.tag)) ⊎ (f.tag < k.tag))

-- ---- behind a fence

-- these are the components and the tag, and the file is made or not
abbrev Has : List Component → (tag : ℕ) → Bool → Going → Type 0
Has cs t r g = (g.file.kept.components ≡ cs) × (g.file.kept.tag ≡ t) × (g.file.kept.ready ≡ r)

module _ (cs : List Component) (t : ℕ) (r : Bool) where
  abbrev Rest : Going → Type 0
  Rest g = Has cs t r g

  rest_or : (ws : List Awaited) (g : Going) (kind : JobKind) (work : Work) (later : Going) → Rest g → Rest later →
      Rest (rests_or ws g kind work later)
  rest_or [] g kind work later h l = l
  rest_or (w ∷ ws) g kind work later h l = h

  rest_audits : (g : Going) (ps : List Piece) (y : Tally) → Rest g → Rest (audits g ps y)
  unfolding audits
  rest_audits g [] y h = h
  rest_audits g (p ∷ ps) y h = rest_or _ g _ _ _ h (rest_audits g ps _ h)

  rest_audit : (g : Going) → Rest g → Rest (audit_begins g)
  unfolding audit_begins
  rest_audit g h = rest_or _ g _ _ _ h (rest_audits g _ _ h)

  rest_makes : (g : Going) (o : Option Target) (later : Going) → Rest g → Rest later → Rest (makes_or g o later)
  rest_makes g None later h l = l
  rest_makes g (Some x) later h l = h

  rest_if : (b : Bool) (g : Going) (k : ℕ) → Rest g → Rest (noting_if b g (NoDrive k))
  rest_if true g k h = h
  rest_if false g k h = h

  rest_rebuilds : (g : Going) (ds : List Component) (k : ℕ) → Rest g → Rest (rebuilds g ds k)
  unfolding rebuilds
  rest_rebuilds g [] k h = h
  rest_rebuilds g (at ∷ ds) k h =
      rest_makes g (target_for g at k) _ h
      (rest_rebuilds (noting_if at.missing g (NoDrive k)) ds (k + 1) (rest_if at.missing g k h))

  rest_after : (kind : JobKind) (g : Going) → Rest g → Rest (after_repair kind g)
  rest_after Making g h = h
  rest_after Revoking g h = h
  rest_after Rebuilding g h = rest_rebuilds g g.file.kept.components 0 h
  rest_after Auditing g h = rest_audit g h

  rest_repairs : (kind : JobKind) (g : Going) (ps : List Piece) (short : List ℕ) → Rest g → Rest (repairs kind g ps short)
  unfolding repairs
  rest_repairs kind g [] short h = rest_after kind (mended g short) h
  rest_repairs kind g (p ∷ ps) short h = rest_or _ g _ _ _ h (rest_repairs kind g ps _ h)

fenced_has : (kind : JobKind) (g : Going) →
    Has g.file.kept.components (g.file.kept.tag + 1) g.file.kept.ready (fenced kind g)
unfolding fenced repair_begins
fenced_has kind g =
    rest_repairs g.file.kept.components (g.file.kept.tag + 1) g.file.kept.ready kind _ _ [] (refl, refl, refl)

-- no job runs but the fence
abbrev pub FitsFence : Option Job → Type 0
FitsFence o = (j : Job) → o ≡ Some j → j.work ≡ Fences

module _ (Off : ℕ → Type 0) where
  -- behind the raise of the tag
  fenced_comes : (f : Kept) (kind : JobKind) (g : Going) → AreKept Off f.components g.file.kept.components →
      g.file.kept.tag ≡ f.tag → g.file.kept.ready ≡ f.ready → ComesTo Off f (fenced kind g).file.kept
  fenced_comes f kind g on tag ready =
      let r = fenced_has kind g in (
        kept_then Off f.components g.file.kept.components _ on r.0,
        λ e. r.2 ∙ ready ∙ e,
        inr (omega (arith, r.1, tag)),
      )

  -- it waits for its SET TAGs, or is over at once
  rests_comes : (f : Kept) (ws : List Awaited) (g : Going) (kind : JobKind) →
      AreKept Off f.components g.file.kept.components → g.file.kept.tag ≡ f.tag → g.file.kept.ready ≡ f.ready →
      g.file.kept.phase ≡ Fencing → ComesTo Off f (rests_or ws g kind Fences (fenced kind g)).file.kept
  rests_comes f [] g kind on tag ready phase = fenced_comes f kind g on tag ready
  rests_comes f (w ∷ ws) g kind on tag ready phase = (on, λ e. ready ∙ e, inl (phase, tag))

  waits_comes : (f : Kept) (ws : List Awaited) (g : Going) (j : Job) (heard : List Heard) →
      AreKept Off f.components g.file.kept.components → g.file.kept.tag ≡ f.tag → g.file.kept.ready ≡ f.ready →
      g.file.kept.phase ≡ Fencing → ComesTo Off f (waits_or_on g j Fences ws heard).file.kept
  unfolding goes_on
  waits_comes f [] g j heard on tag ready phase = fenced_comes f j.kind g on tag ready
  waits_comes f (w ∷ ws) g j heard on tag ready phase = (on, λ e. ready ∙ e, inl (phase, tag))

  pub fence_comes : (kind : JobKind) (format : ℕ) (g : Going) →
      (g.file.kept.phase ≡ Still) ⊎ (g.file.kept.phase ≡ Fencing) →
      ComesTo Off g.file.kept (fence_begins kind format g).file.kept
  unfolding fence_begins
  fence_comes kind format g at =
      rests_comes g.file.kept (to_all (ending g.file.kept format) All Raising g.effects.nonce)
      (keeping g (ending g.file.kept format)) kind (kept_same Off g.file.kept.components _ refl) refl refl (open_ at)
    where
      open_ : (g.file.kept.phase ≡ Still) ⊎ (g.file.kept.phase ≡ Fencing) →
          (ending g.file.kept format).phase ≡ Fencing
      open_ (inl e) = rw e refl
      open_ (inr e) = rw e refl

  -- where its phase stays
  pub stays_comes : (f : Kept) → f.phase ≡ Fencing → ComesTo Off f f
  stays_comes f phase = (kept_same Off f.components f.components refl, λ e. e, inl (phase, refl))

  -- ---- while a fence runs

  -- what is no WRITE isn't heard as full
  not_full : (p b v q : Bool) → b ≡ false →
      (if p then Older else (if b && v then Full else (if q then Done else Nothing))) ≡ Full → ⊥
  not_full true b v q none e = cc e
  not_full false true v q none e = cc none
  not_full false false v true none e = cc e
  not_full false false v false none e = cc e

  module _ (g : Going) (phase : g.file.kept.phase ≡ Fencing) where
    heard : (j : Job) (a : Awaited) (r : Reply) → j.work ≡ Fences → (x : Hearing) → (x ≡ Full → ⊥) →
        ComesTo Off g.file.kept (hears g j a r x).file.kept
    heard j a r work Older full = (kept_same Off g.file.kept.components g.file.kept.components refl, λ e. e, inl (phase, refl))
    heard j a r work Full full = absurd (full refl)
    heard j a r work Done full =
        subst (λ (y : Work). ComesTo Off g.file.kept
        (waits_or_on g j y (others j.awaited a.command.nonce) (heard_with j a r)).file.kept) (sym work)
        (waits_comes g.file.kept (others j.awaited a.command.nonce) g j (heard_with j a r)
        (kept_same Off g.file.kept.components g.file.kept.components refl) refl refl phase)
    heard j a r work Nothing full = stays_comes g.file.kept phase

    pub hears_comes : (j : Job) (a : Awaited) (r : Reply) → j.work ≡ Fences → a.command.action ≡ SetTag →
        ComesTo Off g.file.kept (hears g j a r (hearing g.file.kept a r)).file.kept
    unfolding hearing
    hears_comes j a r work action =
        heard j a r work (hearing g.file.kept a r)
        (not_full (r.verdict == OLD_FORMAT) (is_write a.command.action) (r.verdict == NO_SPACE) (is_done g.file.kept a r)
        (ap is_write action))

    declared_comes : (drive : ℕ) (o : Option Job) → FitsFence o → Off drive →
        ComesTo Off g.file.kept (declared_in (with_components g (lose_on drive g.file.kept.components)) drive o).file.kept
    unfolding loses
    declared_comes drive None fits off =
        (kept_on Off drive off g.file.kept.components, λ e. e, inl (phase, refl))
    declared_comes drive (Some j) fits off =
        let h : Going = with_components g (lose_on drive g.file.kept.components) in
        subst (λ (y : Work). ComesTo Off g.file.kept
        (loses h j y (others_than drive j.awaited) (is_target j.work drive)).file.kept) (sym (fits j refl))
        (waits_comes g.file.kept (others_than drive j.awaited) h j j.heard (kept_on Off drive off g.file.kept.components)
        refl refl phase)

    pub declares_comes : (drive : ℕ) → FitsFence g.file.job → Off drive → ComesTo Off g.file.kept (declares g drive).file.kept
    unfolding declares
    declares_comes drive fits off = elim (cases_Bool (any_on drive g.file.kept.components || targets g.file.job drive)) [
      | inl t ↦ rw t (declared_comes drive g.file.job fits off)
      | inr no_ ↦ rw no_ (stays_comes g.file.kept phase)
    ]
