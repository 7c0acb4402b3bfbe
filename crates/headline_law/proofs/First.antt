-- What the part of a file in a step notes: a note that a component was made anew comes before all others of the file.
-- Towards `RebuiltIsFirst` (`specs/Parts.antt`).
use Rattle.std.proofs.Common.{◌≡◌, ◌||◌, ◌⊎◌, ◌++◌, ℕ, Bool, true, false, List, [], ◌∷◌, Option, Some, None, refl, sym, ap, subst, ◌∙◌, inl, inr, if◌then◌else◌}
use Rattle.server_rules.specs.Going.{Going, noting, noting_if, with_components}
use Rattle.server_rules.specs.Jobs.{making, fence_begins, loses, declares, declared_in, targets, is_target, others_than}
use Rattle.server_rules.specs.Laws.{In}
use Rattle.server_rules.specs.Replies.{Hearing, Older, Full, Done, Nothing, others, fills_up, heard_with, hears}
use Rattle.server_rules.specs.Standing.{lose_from, lose_on, any_on}
use Rattle.server_rules.proofs.Members.{in_behind, in_either}
use Rattle.world_history.specs.ServerNames.{Note, NoteKind, Rebuilt, NoDrive, NoSpace, Awaited, Job, JobKind, Work, Creates, Fences, Fetches, Stores, Targets, Gathers, Fills, Lengths, Checks, Reply}
use Rattle.relation_law.proofs.Walk.{Place, AtStart, AtFence, Behind, AtRepair, AtRows, AtRebuild, AtFill, AtSources, AtAudit, JobCases, place_behind, lost_place, walk_full, walk_fence, walk_making, walk_waits, walk_loses}
use Rattle.headline_law.proofs.ServerNotes.{last_or_among}
use Rattle.headline_law.proofs.TargetNoted.{NoneMade, IsOther}

-- ---- lists of notes

-- each of these notes that says that a component was made anew is the first on its file
abbrev pub AreFirst : List Note → Type 0
AreFirst ns =
    (front back : List Note) (x y : Note) (k d : ℕ) → ns ≡ front ++ (x ∷ back) → x.kind ≡ Rebuilt k d → In y front →
    y.file ≡ x.file → ⊥

-- so they are where none says so
pub none_first : (ns : List Note) → NoneMade ns → AreFirst ns
none_first ns none front back x y k d e kind there same =
    none x k d (subst (In x) (sym e) (in_behind x front (x ∷ back) (inl refl))) kind

-- and with a further note that doesn't say so, or is the first on its file
first_more : (ns : List Note) (z : Note) → AreFirst ns →
    ((k d : ℕ) (y : Note) → z.kind ≡ Rebuilt k d → In y ns → y.file ≡ z.file → ⊥) → AreFirst (ns ++ (z ∷ []))
first_more ns z first free front back x y k d e kind there same = elim (last_or_among ns z front x back e) [
  | inl r ↦
      free k d y (ap (λ (n : Note). n.kind) (sym r.1) ∙ kind) (subst (In y) r.0 there)
      (same ∙ ap (λ (n : Note). n.file) r.1)
  | inr r ↦ first front r.0 x y k d r.1 kind there same
]

pub no_notes : AreFirst []
no_notes = none_first [] (λ x k d i e. i)

-- one alone is
pub alone : (z : Note) → AreFirst (z ∷ [])
alone z = first_more [] z no_notes (λ k d y e i same. i)

-- ---- the part of the file with number n, behind the notes of others

module _ (before : List Note) (n : ℕ) where
  -- what is noted so far
  pub record Told (ns : List Note) : Type 0 where
    pub first : AreFirst ns
    pub own : (y : Note) → In y ns → In y before ⊎ (y.file ≡ n)

  -- nothing of the file is noted so far
  abbrev pub Untold : List Note → Type 0
  Untold ns = (y : Note) → In y ns → y.file ≡ n → ⊥

  abbrev pub Base : Going → Type 0
  Base g = Told g.effects.notes × (g.file.kept.number ≡ n)

  abbrev pub AtPlace : Place → Going → Type 0
  AtPlace (AtFill t ps) g = Base g × Untold g.effects.notes
  AtPlace (AtSources t p ps heard) g = Base g × Untold g.effects.notes
  AtPlace place g = Base g

  abbrev pub AllTold : Going → Type 0
  AllTold g = Told g.effects.notes

  base_of : (place : Place) (g : Going) → AtPlace place g → Base g
  base_of AtStart g q = q
  base_of AtFence g q = q
  base_of Behind g q = q
  base_of (AtRepair ps) g q = q
  base_of (AtRows p ps heard) g q = q
  base_of (AtRebuild m) g q = q
  base_of (AtFill t ps) g q = q.0
  base_of (AtSources t p ps heard) g q = q.0
  base_of (AtAudit ps) g q = q

  at_any : (place : Place) (g : Going) → Base g → Untold g.effects.notes → AtPlace place g
  at_any AtStart g base none = base
  at_any AtFence g base none = base
  at_any Behind g base none = base
  at_any (AtRepair ps) g base none = base
  at_any (AtRows p ps heard) g base none = base
  at_any (AtRebuild m) g base none = base
  at_any (AtFill t ps) g base none = (base, none)
  at_any (AtSources t p ps heard) g base none = (base, none)
  at_any (AtAudit ps) g base none = base

  -- a further note of the file
  own_more : (g : Going) (kind : NoteKind) → Base g → (y : Note) → In y (noting g kind).effects.notes →
      In y before ⊎ (y.file ≡ n)
  own_more g kind base y i =
      elim (in_either y g.effects.notes (record { file = g.file.kept.number; kind = kind } ∷ []) i) [
        | inl old ↦ base.0.own y old
        | inr (inl same) ↦ inr (ap (λ (x : Note). x.file) same ∙ base.1)
        | inr (inr z) ↦ absurd z
      ]

  more : (g : Going) (kind : NoteKind) → IsOther kind → Base g → AllTold (noting g kind)
  more g kind other base = record {
    first = first_more g.effects.notes (record { file = g.file.kept.number; kind = kind }) base.0.first
        (λ k d y e i same. other k d (sym e));
    own = own_more g kind base;
  }

  if_more : (b : Bool) (g : Going) (kind : NoteKind) → IsOther kind → Base g → AllTold (noting_if b g kind)
  if_more true g kind other base = more g kind other base
  if_more false g kind other base = base.0

  -- the first of the file
  starts : (g : Going) (kind : NoteKind) → Base g → Untold g.effects.notes → AllTold (noting g kind)
  starts g kind base none = record {
    first = first_more g.effects.notes (record { file = g.file.kept.number; kind = kind }) base.0.first
        (λ k d y e i same. none y i (same ∙ base.1));
    own = own_more g kind base;
  }

  told_cases : JobCases AtPlace AllTold
  told_cases = record {
    asks = λ place work c cs kind g q a. (base_of place g q).0;
    aims = λ t g q is. q.0;
    readied = λ g q. more g _ (λ a b z. cc z) q;
    rests_behind = λ g q. q.0;
    built = λ m g q. q.0;
    counted = λ t g q. more g _ (λ a b z. cc z) q;
    raises = λ g q. (more g _ (λ a b z. cc z) q, q.1);
    skips = λ p ps g q e. q;
    unchanged = λ p ps heard g q e. q;
    repaired = λ short g q. (more g _ (λ a b z. cc z) q, q.1);
    begins = λ g q. q;
    passes = λ b k g q. (if_more b g (NoDrive k) (λ a d z. cc z) q, q.1);
    builds = λ t g q. (starts g (Rebuilt t.component t.drive) q.0 q.1, q.0.1);
    loses_it = λ t p ps lacked g q e. (more g _ (λ a b z. cc z) q.0, q.0.1);
    gone = λ t todo g q. (more g (NoDrive t.component) (λ a b z. cc z) q.0, q.0.1);
    full = λ t todo g q. (more g (NoSpace t.component) (λ a b z. cc z) q.0, q.0.1);
    zeros = λ t p ps heard g q e. q;
    lengths = λ g q. q;
    counts = λ p ps g q. q;
  }

  -- ---- the fence, and a new file

  pub told_fence : (kind : JobKind) (format : ℕ) (g : Going) → Base g → AllTold (fence_begins kind format g)
  told_fence kind format g base = walk_fence AtPlace AllTold told_cases kind format g base

  pub told_making : (g : Going) → Base g → AllTold (making g)
  told_making g base = walk_making AtPlace AllTold told_cases g base

  -- ---- a component is lost

  told_loses : (g : Going) (j : Job) (work : Work) (rest : List Awaited) (gone : Bool) → j.work ≡ work →
      AtPlace (lost_place g.file.kept work) g → AllTold (loses g j work rest gone)
  told_loses g j work rest gone is q =
      walk_loses AtPlace AllTold told_cases g j work rest gone is
      (record {
        waits = λ c cs e. (base_of (lost_place g.file.kept work) g q).0;
        stays = (base_of (lost_place g.file.kept work) g q).0;
        on = λ waits. subst (λ (x : Work). AtPlace (lost_place g.file.kept x) g) (sym is) q;
      })

  pick : (b : Bool) (x y : Going) → AllTold x → AllTold y → AllTold (if b then x else y)
  pick true x y p q = p
  pick false x y p q = q

  pub told_declares : (drive : ℕ) (g : Going) → Base g → Untold g.effects.notes → AllTold (declares g drive)
  unfolding declares
  told_declares drive g base none =
      pick (any_on drive g.file.kept.components || targets g.file.job drive) (declared_in h drive g.file.job) g
      (by_job g.file.job) base.0
    where
      h : Going
      h = with_components g (lose_on drive g.file.kept.components)

      by_job : (o : Option Job) → AllTold (declared_in h drive o)
      by_job None = base.0
      by_job (Some j) =
          told_loses h j j.work (others_than drive j.awaited) (is_target j.work drive) refl
          (at_any (lost_place h.file.kept j.work) h base none)

  -- ---- a reply

  module _ (g : Going) (j : Job) (a : Awaited) (r : Reply) (base : Base g) (none : Untold g.effects.notes) where
    abbrev lacks : Going
    lacks = noting (with_components g (lose_from (a.component ∷ []) g.file.kept.components 0)) (NoSpace a.component)

    base_lacks : Base lacks
    base_lacks = (more g (NoSpace a.component) (λ x y z. cc z) base, base.1)

    told_lacks : (work : Work) → j.work ≡ work → AtPlace (lost_place lacks.file.kept work) lacks →
        AllTold (loses lacks j work (others j.awaited a.command.nonce) false)
    told_lacks work is q = told_loses lacks j work (others j.awaited a.command.nonce) false is q

    told_fills_up : (work : Work) → j.work ≡ work → AllTold (fills_up g j a work)
    told_fills_up Creates is = told_lacks Creates is base_lacks
    told_fills_up Fences is = told_lacks Fences is base_lacks
    told_fills_up (Fetches todo short) is = told_lacks (Fetches todo short) is base_lacks
    told_fills_up (Stores todo short b) is = told_lacks (Stores todo short b) is base_lacks
    told_fills_up (Targets t) is = walk_full AtPlace AllTold told_cases t [] g (base, none)
    told_fills_up (Gathers t todo) is = walk_full AtPlace AllTold told_cases t todo g (base, none)
    told_fills_up (Fills t todo) is = walk_full AtPlace AllTold told_cases t todo g (base, none)
    told_fills_up Lengths is = told_lacks Lengths is base_lacks
    told_fills_up (Checks todo t) is = told_lacks (Checks todo t) is base_lacks

    pub told_hears : (x : Hearing) → AllTold (hears g j a r x)
    told_hears Older = base.0
    told_hears Full = told_fills_up j.work refl
    told_hears Done =
        walk_waits AtPlace AllTold told_cases g j j.work (others j.awaited a.command.nonce) (heard_with j a r)
        (λ c cs e. base.0) (λ last. at_any (place_behind g.file.kept j.work (heard_with j a r)) g base none)
    told_hears Nothing = base.0
