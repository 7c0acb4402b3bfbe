-- No rebuild aims at an object that was a component's, so none at what a client sent something to.
use Rattle.std.proofs.Common.{◌≡◌, ◌<◌, ℕ, zero, suc, List, [], ◌∷◌, ◌++◌, append_assoc, length, slice_get, Some, refl, sym, ap, subst, ◌∙◌, inl, inr, arith}
use Rattle.std.proofs.lemmas.List.{append-nil}
use Rattle.std.proofs.lemmas.Option.{same_Some}
use Rattle.data_map.specs.declared.check.RawMap.{RawMap}
use Rattle.server_rules.specs.Files.{file_at}
use Rattle.server_rules.specs.History.{Act, Input, step, state_after}
use Rattle.server_rules.specs.Laws.{In}
use Rattle.server_rules.specs.Making.{new_server}
use Rattle.server_rules.proofs.FileLaws.{number_at}
use Rattle.server_rules.proofs.Members.{in_map}
use Rattle.world_history.specs.ServerNames.{Server, File, Component, Target}
use Rattle.history_law.proofs.Files.{Each, in_at}
use Rattle.component_law.specs.Objects.{AreOwned, IsOwned, objects_of, target_of}
use Rattle.component_law.specs.Distinct.{AreDistinct}
use Rattle.exchange_law.proofs.Shapes.{step_shaped}
use Rattle.cause_law.proofs.PlaceSteps.{Claims, step_since}
use Rattle.cause_law.proofs.PlaceMoments.{not_in}
use Rattle.relation_law.proofs.DriveMoves.{got_in}
use Rattle.relation_law.proofs.FramesFiles.{step_stays}
use Rattle.headline_law.proofs.SentPlaces.{after_more, distinct_over}
use Rattle.headline_law.proofs.SentTargets.{components_remade}

-- the number was given, and no rebuild aims at it
pub record IsUnaimed (o : ℕ) (s : Server) : Type 0 where
  pub given : o < s.next_object
  pub none : (n : ℕ) (f : File) (t : Target) → file_at s.files n ≡ Some f → target_of f.job ≡ Some t → t.object ≡ o → ⊥

-- an object of a list is a component's
object_of : (cs : List Component) (k o : ℕ) → slice_get (objects_of cs) k ≡ Some o →
    (c : Component) × (slice_get cs k ≡ Some c) × (c.object ≡ o)
object_of [] k o e = absurd (cc e)
object_of (c ∷ cs) zero o e = (c, refl, cc e)
object_of (c ∷ cs) (suc k) o e = object_of cs k o e

-- lists of one length have the same places
as_long : (cs ds : List Component) (k : ℕ) (c : Component) → length ds ≡ length cs → slice_get cs k ≡ Some c →
    (d : Component) × (slice_get ds k ≡ Some d)
as_long [] ds k c same e = absurd (cc e)
as_long (x ∷ cs) [] k c same e = absurd (cc same)
as_long (x ∷ cs) (d ∷ ds) zero c same e = (d, refl)
as_long (x ∷ cs) (d ∷ ds) (suc k) c same e = as_long cs ds k c (cc same) e

-- ---- a step

module _ (s : Server) (chosen : List ℕ) (i : Input) (apart : AreDistinct s.files) (owner : ℕ → ℕ)
    (owned : AreOwned owner (step s chosen i).state)
    (long : (n : ℕ) (f g : File) → file_at s.files n ≡ Some f → file_at (step s chosen i).state.files n ≡ Some g →
    length g.kept.components ≡ length f.kept.components) (o : ℕ) (u : IsUnaimed o s) where
  abbrev t : Server
  t = (step s chosen i).state

  -- the component of the target has another object behind the step
  other : (n : ℕ) (f g : File) (x : Target) → file_at s.files n ≡ Some f → file_at t.files n ≡ Some g →
      target_of g.job ≡ Some x → x.object ≡ o → slice_get (objects_of f.kept.components) x.component ≡ Some o → ⊥
  other n f g x there behind aims is has =
      let was = object_of f.kept.components x.component o has in
      let now = as_long f.kept.components g.kept.components x.component was.0 (long n f g there behind) was.1 in
      elim (components_remade s chosen i apart n f g there behind x.component now.0 now.1) [
        | inl still ↦
            let same : still.0 ≡ was.0 = same_Some still.0 was.0 (sym still.1 ∙ was.1) in
            let object : now.0.object ≡ x.object =
            still.2.object ∙ ap (λ (c : Component). c.object) same ∙ was.2 ∙ sym is in
            not_in (objects_of g.kept.components) x.object ((owned g (in_at t.files n g behind)).apart x aims)
            (subst (λ (y : ℕ). In y (objects_of g.kept.components)) object
            (in_map (λ (c : Component). c.object) now.0 g.kept.components
            (got_in g.kept.components x.component now.0 now.1)))
        | inr new ↦ let less = new.1 x aims in absurd (omega (arith, less))
      ]

  pub step_unaimed : IsUnaimed o (step s chosen i).state
  step_unaimed = record {
    given = let rises = (step_since s chosen i apart).rises in let low = u.given in omega (arith, rises, low);
    none = λ n g x behind aims is.
        let claim : Claims t n x.component o = record { file = g; found = behind; has = inr (x, aims, refl, is) } in
        elim ((step_since s chosen i apart).back n x.component o claim) [
          | inl old ↦ elim old.has [
            | inl has ↦ other n old.file g x old.found behind aims is has
            | inr (y, e, at, its) ↦ u.none n old.file y old.found e its
          ]
          | inr new ↦ let low = u.given in absurd (omega (arith, low, new))
        ];
  }

-- ---- a run

-- a file has a component for each of its map's
abbrev IsComplete : File → Type 0
IsComplete f = length f.kept.components ≡ f.kept.map.comps

step_complete : (s : Server) (chosen : List ℕ) (i : Input) → Each IsComplete s.files →
    Each IsComplete (step s chosen i).state.files
step_complete s chosen i all =
    step_shaped (λ (p : RawMap × ℕ). p.1 ≡ p.0.comps) s chosen i (λ n m tag zoned is none. refl) all

run_complete : (s : Server) (acts : List Act) → Each IsComplete s.files → Each IsComplete (state_after s acts).files
run_complete s [] all = all
run_complete s (a ∷ acts) all =
    run_complete (step s a.chosen a.input).state acts (step_complete s a.chosen a.input all)

-- so it has as many components behind a step
as_many : (s : Server) (chosen : List ℕ) (i : Input) → AreDistinct s.files → Each IsComplete s.files → (n : ℕ) (f g : File) →
    file_at s.files n ≡ Some f → file_at (step s chosen i).state.files n ≡ Some g →
    length g.kept.components ≡ length f.kept.components
as_many s chosen i apart all n f g there behind =
    step_complete s chosen i all g (in_at (step s chosen i).state.files n g behind)
    ∙ ap (λ (m : RawMap). m.comps) ((step_stays s chosen i apart).1 n f g there behind).map
    ∙ sym (all f (in_at s.files n f there))

module _ (run : List Act) (owner : ℕ → ℕ)
    (owned : (before after : List Act) → run ≡ before ++ after → AreOwned owner (state_after (new_server []) before)) where
  abbrev at : List Act → Server
  at acts = state_after (new_server []) acts

  later : (o : ℕ) (after before : List Act) → run ≡ before ++ after → IsUnaimed o (at before) → IsUnaimed o (at run)
  later o [] before is u = subst (λ (xs : List Act). IsUnaimed o (at xs)) (sym (is ∙ append-nil before)) u
  later o (a ∷ after) before is u =
      let next : at (before ++ a ∷ []) ≡ (step (at before) a.chosen a.input).state =
      after_more (new_server []) before (a ∷ []) in
      let again : run ≡ (before ++ a ∷ []) ++ after = is ∙ sym (append_assoc before (a ∷ []) after) in
      let apart : AreDistinct (at before).files = distinct_over (new_server []) before tt in
      let all : Each IsComplete (at before).files = run_complete (new_server []) before (λ f i. absurd i) in
      later o after (before ++ a ∷ []) again
      (subst (IsUnaimed o) (sym next)
      (step_unaimed (at before) a.chosen a.input apart owner
      (subst (AreOwned owner) next (owned (before ++ a ∷ []) after again))
      (as_many (at before) a.chosen a.input apart all) o u))

  -- what was a component's at some front of the run
  module _ (before after : List Act) (is : run ≡ before ++ after) (n : ℕ) (f : File)
      (there : file_at (state_after (new_server []) before).files n ≡ Some f) (k : ℕ) (c : Component)
      (found : slice_get f.kept.components k ≡ Some c) where
    own : IsOwned owner (at before).next_object f
    own = owned before after is f (in_at (at before).files n f there)

    among : In c.object (objects_of f.kept.components)
    among =
        in_map (λ (y : Component). y.object) c f.kept.components (got_in f.kept.components k c found)

    unaimed_there : IsUnaimed c.object (at before)
    unaimed_there = record {
      given = (own.components c.object among).0;
      none = λ i g t goes aims same_object.
          let its = (owned before after is g (in_at (at before).files i g goes)).target t aims in
          let number : n ≡ i =
          sym (number_at (at before).files n f there) ∙ sym (own.components c.object among).1 ∙ ap owner (sym same_object)
          ∙ its.1 ∙ number_at (at before).files i g goes in
          let same : f ≡ g =
          same_Some f g (sym there ∙ ap (file_at (at before).files) number ∙ goes) in
          not_in (objects_of f.kept.components) t.object
          (own.apart t (ap (λ (y : File). target_of y.job) same ∙ aims))
          (subst (λ (o : ℕ). In o (objects_of f.kept.components)) (sym same_object) among);
    }

    pub component_unaimed : IsUnaimed c.object (at run)
    component_unaimed = later c.object after before is unaimed_there
