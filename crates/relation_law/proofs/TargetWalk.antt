-- What a job makes of its target, place by place: a component is made anew only where nothing comes to the target any more.
use Rattle.std.proofs.Common.{◌≡◌, ◌⊎◌, ℕ, false, nat_lt, List, [], ◌∷◌, replicate, slice_get, Option, Some, None, refl, sym, ap, subst, ◌∙◌, inl, inr}
use Rattle.std.proofs.lemmas.Option.{same_Some}
use Rattle.osd_commands.specs.declared.commands.Command.{Command}
use Rattle.server_rules.specs.Columns.{end_of}
use Rattle.server_rules.specs.Going.{Going}
use Rattle.server_rules.specs.Rebuild.{made, to_fill}
use Rattle.history_law.specs.Names.{File, Phase, Component, Awaited, Piece, Target, Job, Work, Fills}
use Rattle.component_law.specs.Objects.{target_of}
use Rattle.relation_law.specs.Owning.{Coming, IsOld}
use Rattle.relation_law.proofs.OwningPlaces.{set_get}
use Rattle.relation_law.proofs.Walk.{Place, AtFill, AtSources, AtRebuild, Asks, Makes, Raises, Reads, Writes, Aims, Sources, Filled, Measures, Checks_, JobCases}

-- ---- what is awaited

-- one command
abbrev pub IsOne : List Awaited → Type 0
IsOne ws = (a : Awaited) × (ws ≡ a ∷ [])

-- a piece of zeros, which isn't written
abbrev pub IsOfZeros : Piece → List ℕ → Type 0
IsOfZeros p bytes = nat_lt 0 (end_of bytes (replicate p.count 0)) ≡ false

module _ (C : Coming) (f : File) where
  -- ---- components

  -- nothing comes to the target
  abbrev pub NoneComes : Target → Type 0
  NoneComes t = (x : Command) → C t.drive x → x.object ≡ t.object → ⊥

  -- it is the target of the file's job, and the phase is as it was
  abbrev pub IsAimed : Phase → Target → Type 0
  IsAimed p t = (target_of f.job ≡ Some t) × (p ≡ f.kept.phase)

  -- the component was made anew, and nothing comes to it
  pub record IsRebuilt (p : Phase) (at : Component) : Type 0 where
    pub none : (x : Command) → C at.drive x → x.object ≡ at.object → ⊥
    pub target : Target
    pub aimed : IsAimed p target

  -- each present one is one that the file had
  abbrev pub AllOld : List Component → Type 0
  AllOld cs = (k : ℕ) (at : Component) → slice_get cs k ≡ Some at → at.missing ≡ false → IsOld f k at

  -- or was made anew so
  abbrev pub OldOrRebuilt : Phase → List Component → Type 0
  OldOrRebuilt p cs =
      (k : ℕ) (at : Component) → slice_get cs k ≡ Some at → at.missing ≡ false → IsOld f k at ⊎ IsRebuilt p at

  pub all_old : (p : Phase) (cs : List Component) → AllOld cs → OldOrRebuilt p cs
  all_old p cs old k at there stands = inl (old k at there stands)

  -- where the job writes to a target, it was the file's target, and one command is awaited
  abbrev pub WritesOne : Option Job → Type 0
  WritesOne o =
      (j : Job) (t : Target) (todo : List Piece) → o ≡ Some j → j.work ≡ Fills t todo →
      (target_of f.job ≡ Some t) × IsOne j.awaited

  -- ---- places

  abbrev pub PlaceMakes : Place → Going → Type 0
  PlaceMakes (AtRebuild n) g = OldOrRebuilt g.file.kept.phase g.file.kept.components
  PlaceMakes (AtFill t ps) g =
      OldOrRebuilt g.file.kept.phase g.file.kept.components × IsAimed g.file.kept.phase t × (ps ≡ [] → NoneComes t)
  PlaceMakes (AtSources t p ps heard) g =
      OldOrRebuilt g.file.kept.phase g.file.kept.components × IsAimed g.file.kept.phase t
      × (IsOfZeros p (made g.file.kept t p heard) → ps ≡ [] → NoneComes t)
  PlaceMakes place g = AllOld g.file.kept.components

  abbrev pub Remakes : Going → Type 0
  Remakes g = OldOrRebuilt g.file.kept.phase g.file.kept.components × WritesOne g.file.job

  pub no_job : WritesOne None
  no_job j t todo none is = absurd (cc none)

  -- what is asked at a place
  made_at : (place : Place) (work : Work) (g : Going) (ws : List Awaited) → PlaceMakes place g → Asks g place work ws →
      OldOrRebuilt g.file.kept.phase g.file.kept.components
  made_at place work g ws q Makes = all_old g.file.kept.phase g.file.kept.components q
  made_at place work g ws q Raises = all_old g.file.kept.phase g.file.kept.components q
  made_at place work g ws q (Reads p ps short) = all_old g.file.kept.phase g.file.kept.components q
  made_at place work g ws q (Writes p ps heard short) = all_old g.file.kept.phase g.file.kept.components q
  made_at place work g ws q (Aims t) = q
  made_at place work g ws q (Sources t p ps) = q.0
  made_at place work g ws q (Filled t p ps heard bytes is some) = q.0
  made_at place work g ws q Measures = all_old g.file.kept.phase g.file.kept.components q
  made_at place work g ws q (Checks_ p ps tally) = all_old g.file.kept.phase g.file.kept.components q

  written_at : (place : Place) (work : Work) (g : Going) (ws : List Awaited) → PlaceMakes place g → Asks g place work ws →
      (t : Target) (todo : List Piece) → work ≡ Fills t todo → (target_of f.job ≡ Some t) × IsOne ws
  written_at place work g ws q Makes t todo is = absurd (cc is)
  written_at place work g ws q Raises t todo is = absurd (cc is)
  written_at place work g ws q (Reads p ps short) t todo is = absurd (cc is)
  written_at place work g ws q (Writes p ps heard short) t todo is = absurd (cc is)
  written_at place work g ws q (Aims u) t todo is = absurd (cc is)
  written_at place work g ws q (Sources u p ps) t todo is = absurd (cc is)
  written_at place work g ws q (Filled u p ps heard bytes made_ some) t todo is =
      let same : u ≡ t = cc is in (
        subst (λ (y : Target). target_of f.job ≡ Some y) same q.1.0,
        (to_fill g.file.kept u p bytes g.effects.nonce, refl),
      )
  written_at place work g ws q Measures t todo is = absurd (cc is)
  written_at place work g ws q (Checks_ p ps tally) t todo is = absurd (cc is)

  pub make_cases : JobCases PlaceMakes Remakes
  make_cases = record {
    asks = λ place work c cs kind g q a. (
      made_at place work g (c ∷ cs) q a,
      λ j t todo same is.
          let e : record { kind = kind; work = work; awaited = c ∷ cs; heard = [] } ≡ j = same_Some _ j same in
          let r = written_at place work g (c ∷ cs) q a t todo (ap (λ (y : Job). y.work) e ∙ is) in
          (r.0, (r.1.0, sym (ap (λ (y : Job). y.awaited) e) ∙ r.1.1)),
    );
    aims = λ t g q is. (
      q,
      λ j u todo same wrong. absurd (cc (ap (λ (y : Job). y.work) (same_Some _ j same) ∙ wrong)),
    );
    readied = λ g q. (all_old g.file.kept.phase g.file.kept.components q, no_job);
    rests_behind = λ g q. (all_old g.file.kept.phase g.file.kept.components q, no_job);
    built = λ n g q. (q, no_job);
    counted = λ t g q. (all_old g.file.kept.phase g.file.kept.components q, no_job);
    raises = λ g q. q;
    skips = λ p ps g q e. q;
    unchanged = λ p ps heard g q e. q;
    repaired = λ short g q. q;
    begins = λ g q. all_old g.file.kept.phase g.file.kept.components q;
    passes = λ b n g q. q;
    builds = λ t g q k at there stands.
        elim (set_get g.file.kept.components t.component k _ at there) [
          | inl own ↦
              inr (subst (IsRebuilt g.file.kept.phase) (sym own) (record { none = q.2 refl; target = t; aimed = q.1 }))
          | inr was ↦ q.0 k at was stands
        ];
    loses_it = λ t p ps lacked g q e. q.0;
    gone = λ t todo g q. q.0;
    full = λ t todo g q. q.0;
    zeros = λ t p ps heard g q e. (q.0, q.1, λ none. q.2 e none);
    lengths = λ g q. q;
    counts = λ p ps g q. q;
  }
