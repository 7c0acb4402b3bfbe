-- A file whose components on a drive are declared missing: the events of the notes of the step can happen.
use Rattle.std.proofs.Common.{◌≡◌, ◌==◌, ◌||◌, ◌++◌, ◌<◌, ℕ, zero, suc, ◌+◌, Bool, true, false, List, [], ◌∷◌, Option, Some, None, refl, sym, ap, subst, ◌∙◌, inl, inr, if◌then◌else◌}
use Rattle.std.specs.Prelude.{slice_get}
use Rattle.std.proofs.lemmas.Bool.{cases_Bool}
use Rattle.data_map.specs.Inverse.{stripe_at}
use Rattle.server_rules.specs.Going.{Going, with_components}
use Rattle.server_rules.specs.History.{Input}
use Rattle.server_rules.specs.Jobs.{is_target, remakes, loses, others_than, declared_in, targets, declares}
use Rattle.server_rules.proofs.Components.{length_lost_on}
use Rattle.server_rules.specs.Standing.{any_on, lose_on}
use Rattle.component_law.specs.KeptWalk.{WorkFits}
use Rattle.component_law.proofs.KeptJobs.{same_but_components}
use Rattle.component_law.specs.Objects.{target_in}
use Rattle.world_history.specs.ServerNames.{File, Component, Effects, Drive, Piece, Target, Job, Work, Creates, Fences, Fetches, Stores, Targets, Gathers, Fills, Lengths, Checks}
use Rattle.world_history.specs.State.{World}
use Rattle.fence_law.specs.State.{State, Event}
use Rattle.fence_law.specs.Columns.{HaveNextTag}
use Rattle.fence_law.specs.State.Event.{Declares}
use Rattle.fence_law.specs.Machine.{Lawful, after, after_all}
use Rattle.fence_law.proofs.Safe.{Safe}
use Rattle.plan_law.specs.FileLayout.{position_in}
use Rattle.plan_law.specs.Known.{HasSource}
use Rattle.file_simulation.specs.EventLists.{where_so}
use Rattle.file_simulation.specs.Jobs.{AreDone, DoneIn}
use Rattle.file_simulation.specs.ServerEvents.{declared_from}
use Rattle.relation_law.specs.KeptSteps.{core, notes_events, IsSoFar}
use Rattle.relation_law.proofs.ComponentsNotes.{AreTold}
use Rattle.relation_law.proofs.KeptNotes.{lawful_supplies, walked}
use Rattle.relation_law.proofs.KeptRounds.{begun}
use Rattle.relation_law.proofs.Walk.{Place, AtStart, AtFence, AtRepair, AtFill, AtAudit, lost_place, waits_for, walk_gone, walk_loses}
use Rattle.headline_law.specs.ServerEnds.{IsSourced}
use Rattle.headline_law.specs.ServerLines.{NotesMay}
use Rattle.headline_law.proofs.ServerFences.{silent_told}
use Rattle.headline_law.proofs.ServerHears.{done_core, done_lost, no_piece}
use Rattle.headline_law.proofs.ServerNotes.{silent_may}
use Rattle.headline_law.proofs.ServerPlaces.{CanFill, Fits, Knows, EndsSourced, JobStands}
use Rattle.headline_law.proofs.ServerWalk.{IsLaid, Midway, May, cases}

-- what the machine has where the job goes on without what stood on the drive
abbrev pub LosesKnows : State → (drive : ℕ) → Job → Type 0
LosesKnows t drive j = j.work ≡ Fences → others_than drive j.awaited ≡ [] → HaveNextTag t

-- ---- the first line

-- what it leaves
pub record IsLeft (s t : State) : Type 0 where
  pub layout : t.layout ≡ s.layout
  pub lost : t.lost ≡ s.lost
  pub gone : t.gone ≡ s.gone
  pub cell : t.cell ≡ s.cell
  pub tag : t.tag ≡ s.tag
  pub replies : t.tag_replies ≡ s.tag_replies

pub declared_left : (s : State) (d : ℕ) (cs : List Component) (k : ℕ) → IsLeft s (after_all s (declared_from d cs k))
unfolding declared_from
declared_left s d [] k = record { layout = refl; lost = refl; gone = refl; cell = refl; tag = refl; replies = refl }
declared_left s d (at ∷ cs) k =
    either (at.drive == d) (declared_left (after s (Declares k)) d cs (k + 1)) (declared_left s d cs (k + 1))
  where
    either : (b : Bool) → IsLeft (after s (Declares k)) (after_all (after s (Declares k)) (declared_from d cs (k + 1)))
        → IsLeft s (after_all s (declared_from d cs (k + 1)))
        → IsLeft s (after_all s (where_so b (Declares k ∷ []) ++ declared_from d cs (k + 1)))
    either true x y = record {
      layout = x.layout;
      lost = x.lost;
      gone = x.gone;
      cell = x.cell;
      tag = x.tag;
      replies = x.replies;
    }
    either false x y = y

-- a component that is missing stays so
still_missing : (d : ℕ) (cs : List Component) (n : ℕ) (at : Component) → slice_get cs n ≡ Some at → at.missing ≡ true
    → (to : Component) × (slice_get (lose_on d cs) n ≡ Some to) × (to.missing ≡ true)
unfolding lose_on
still_missing d [] n at there gone = absurd (cc there)
still_missing d (x ∷ cs) zero at there gone =
    let same : x ≡ at = cc there in
    elim (cases_Bool (x.drive == d)) [
      | inl b ↦ rw b (record x { missing = true }, refl, refl)
      | inr b ↦ rw b (x, refl, ap (λ (y : Component). y.missing) same ∙ gone)
    ]
still_missing d (x ∷ cs) (suc n) at there gone = still_missing d cs n at there gone

module _ (next : ℕ) (s t : State) (w : World) (f : File) (i : Input) (safe : Safe t) (laid : IsLaid t f) (drive : ℕ)
    (left : IsLeft s t) (m : Effects) (ds : List Drive) (chosen : List ℕ) (none : notes_events t w f i m.notes ≡ [])
    (told : AreTold s t w f i (record f.kept { components = lose_on drive f.kept.components }) []) where
  abbrev start : Going
  start = record { file = f; effects = m; drives = ds; chosen = chosen }

  abbrev without : Going
  without = with_components start (lose_on drive f.kept.components)

  -- ---- a job runs

  module _ (j : Job) (k : JobStands s f j) (so_far : IsSoFar next true t f.kept) (knows : LosesKnows t drive j) where
    abbrev There : Place → Type 0
    There place = Midway next s t w f i safe laid place without

    begin : (place : Place) → Fits without.file place → Knows t without.file place → There place
    begin place fits known = record {
      behind = (walked next true t w f i (λ ns. Lawful t (notes_events t w f i ns)) (lawful_supplies next true t w f i)
          safe).alike
          f.kept (record f.kept { components = lose_on drive f.kept.components }) m.notes
          (same_but_components f.kept (lose_on drive f.kept.components))
          (begun next t w f i (λ ns. Lawful t (notes_events t w f i ns)) (λ busy. lawful_supplies next busy t w f i)
          true f.kept m.notes refl refl none so_far);
      told = silent_told s t w f i (record f.kept { components = lose_on drive f.kept.components }) m.notes none told;
      high = refl;
      many = length_lost_on drive f.kept.components;
      fits = fits;
      may = silent_may t w f i m.notes none;
      knows = λ l. subst (λ (es : List Event). Knows (after_all t es) without.file place) (sym none) known;
    }

    may_now : NotesMay t w f i m.notes
    may_now = silent_may t w f i m.notes none

    fills : (x : Target) → target_in j.work ≡ Some x → CanFill without.file x
    fills x is =
        let c : CanFill f x = k.fill x is in
        let r = still_missing drive f.kept.components x.component c.component c.there c.missing in
        record { still = c.still; busy = c.busy; alone = c.alone; component = r.0; there = r.1; missing = r.2 }

    done_now : (todo : List Piece) → AreDone s f todo → AreDone t (core f.kept) todo
    done_now todo done =
        done_lost s t f.kept todo left.layout (λ n z. ap (λ (q : ℕ → ℕ → ℕ). q n z) left.cell)
        (λ n e. ap (λ (q : ℕ → Bool). q n) left.lost ∙ e) (done_core s f todo done)

    sourced : (x : Target) → IsSourced s f x → IsSourced t without.file x
    sourced x h = subst (λ (g : ℕ → Bool). (z : ℕ) →
        stripe_at f.kept.map (position_in f.kept.map x.component) z < f.kept.high →
        (out : List ℕ) × HasSource f.kept.map g out x.component z) (sym left.gone) h

    -- where the job goes on without the component
    on : (work : Work) → j.work ≡ work → WorkFits f.kept.phase work → DoneIn s f work → EndsSourced s f work
        → (waits_for work ≡ true → others_than drive j.awaited ≡ [])
        → ((x : Target) → work ≡ Targets x → ⊥) → There (lost_place f.kept work)
    on Creates is fit done ends rest no_ = begin AtStart tt tt
    on Fences is fit done ends rest no_ = begin AtFence fit (knows is (rest refl))
    on (Fetches todo short) is fit done ends rest no_ = begin (AtRepair todo) fit (done_now todo done)
    on (Stores todo short b) is fit done ends rest no_ = begin (AtRepair todo) fit (done_now todo done)
    on (Targets x) is fit done ends rest no_ = absurd (no_ x refl)
    on (Gathers x todo) is fit done ends rest no_ =
        begin (AtFill x todo) (fills x (ap target_in is)) (λ e. sourced x (ends e))
    on (Fills x todo) is fit done ends rest no_ =
        begin (AtFill x todo) (fills x (ap target_in is)) (λ e. sourced x (ends e))
    on Lengths is fit done ends rest no_ = begin (AtAudit _) tt tt
    on (Checks todo tally) is fit done ends rest no_ = begin (AtAudit todo) tt tt

    loses_on : ((x : Target) → j.work ≡ Targets x → ⊥)
        → NotesMay t w f i
        (loses without j j.work (others_than drive j.awaited) (is_target j.work drive)).effects.notes
    loses_on no_ =
        walk_loses (λ place g. Midway next s t w f i safe laid place g) (λ g. May next s t w f i safe laid g)
        (cases next s t w f i safe laid) without j j.work (others_than drive j.awaited) (is_target j.work drive) refl
        (record {
          waits = λ c cs e. may_now;
          stays = may_now;
          on = λ rest. on j.work refl k.fits k.done k.ends rest (λ x e. no_ x e);
        })

    -- the target's object isn't there yet
    aims_may : (x : Target) → j.work ≡ Targets x → (b : Bool) → NotesMay t w f i (remakes without x b).effects.notes
    aims_may x is true =
        walk_gone (λ place g. Midway next s t w f i safe laid place g) (λ g. May next s t w f i safe laid g)
        (cases next s t w f i safe laid) x (no_piece ∷ []) without
        (begin (AtFill x (no_piece ∷ [])) (fills x (ap target_in is)) (λ e. absurd (cc e)))
    aims_may x is false = may_now

    loses_may : (work : Work) → j.work ≡ work
        → NotesMay t w f i
        (loses without j j.work (others_than drive j.awaited) (is_target j.work drive)).effects.notes
    unfolding loses
    loses_may (Targets x) is =
        subst (λ (y : Work). NotesMay t w f i
        (loses without j y (others_than drive j.awaited) (is_target y drive)).effects.notes) (sym is)
        (aims_may x is (x.drive == drive))
    loses_may Creates is = loses_on (λ x e. cc (sym is ∙ e))
    loses_may Fences is = loses_on (λ x e. cc (sym is ∙ e))
    loses_may (Fetches todo short) is = loses_on (λ x e. cc (sym is ∙ e))
    loses_may (Stores todo short b) is = loses_on (λ x e. cc (sym is ∙ e))
    loses_may (Gathers x todo) is = loses_on (λ y e. cc (sym is ∙ e))
    loses_may (Fills x todo) is = loses_on (λ y e. cc (sym is ∙ e))
    loses_may Lengths is = loses_on (λ x e. cc (sym is ∙ e))
    loses_may (Checks todo tally) is = loses_on (λ x e. cc (sym is ∙ e))

  -- ---- whether one runs or not

  module _ (stands : (j : Job) → f.job ≡ Some j → JobStands s f j × LosesKnows t drive j)
      (so_far : (f.job ≡ None → ⊥) → IsSoFar next true t f.kept) where
    by_job : (o : Option Job) → f.job ≡ o → NotesMay t w f i (declared_in without drive o).effects.notes
    by_job None is = silent_may t w f i m.notes none
    by_job (Some j) is =
        let x = stands j is in
        loses_may j x.0 (so_far (λ n. cc (sym is ∙ n))) x.1 j.work refl

    pub declares_may : NotesMay t w f i (declares start drive).effects.notes
    unfolding declares
    declares_may =
        pick (any_on drive f.kept.components || targets f.job drive) (declared_in without drive f.job) start
        (by_job f.job refl) (silent_may t w f i m.notes none)
      where
        pick : (b : Bool) (x y : Going) → NotesMay t w f i x.effects.notes → NotesMay t w f i y.effects.notes
            → NotesMay t w f i (if b then x else y).effects.notes
        pick true x y p q = p
        pick false x y p q = q
