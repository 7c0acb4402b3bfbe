-- How the job that makes a component anew goes on in a step of the server, place by place.
-- Towards `TargetsGo` (`specs/TargetGoes.antt`).
use Rattle.std.proofs.Common.{◌≡◌, ◌⊎◌, ℕ, zero, suc, ◌+◌, ◌<◌, true, false, nat_lt, List, [], ◌∷◌, replicate, slice_get, slice_set, Some, None, refl, sym, ap, subst, ◌∙◌, arith, inl, inr}
use Rattle.std.proofs.lemmas.Bool.{cases_eq}
use Rattle.std.proofs.lemmas.Option.{same_Some}
use Rattle.server_rules.specs.Columns.{end_of}
use Rattle.server_rules.specs.Going.{Going}
use Rattle.server_rules.specs.History.{Input}
use Rattle.server_rules.specs.Rebuild.{made, sources, to_fill}
use Rattle.server_rules.specs.Replies.{heard_with}
use Rattle.world_history.specs.ServerNames.{File, Kept, Component, Awaited, Piece, Target, Job, Work, Targets, Gathers}
use Rattle.component_law.specs.Objects.{target_in, target_of}
use Rattle.relation_law.proofs.Walk.{Place, AtRebuild, AtFill, AtSources, Asks, Makes, Raises, Reads as ReadsPiece, Writes as WritesPiece, Aims, Sources, Filled, Measures, Checks_, JobCases}
use Rattle.headline_law.specs.TargetGoes.{IsLastReply, made_of, AreNext, PastZeros, JobGoes, Reads, Writes, IsSameStill}

module _ (i : Input) (f : File) where
  -- ---- components

  -- the component is as it was, or the file's target was to be it
  abbrev pub WasOrAimed : File → (n : ℕ) → Component → Type 0
  WasOrAimed g n b =
      ((at : Component) × (slice_get g.kept.components n ≡ Some at) × (at.object ≡ b.object))
      ⊎ ((u : Target) × (target_of f.job ≡ Some u) × (u.component ≡ n))

  abbrev pub Common : Going → Type 0
  Common g = (n : ℕ) (b : Component) → slice_get f.kept.components n ≡ Some b → WasOrAimed g.file n b

  -- ---- places

  abbrev pub IsFree : Type 0
  IsFree = (u : Target) → target_of f.job ≡ Some u → ⊥

  abbrev pub Ahead : (n : ℕ) → Type 0
  Ahead n = (u : Target) → target_of f.job ≡ Some u → u.component < n

  -- the job had the target
  pub record Had (g : Going) (t : Target) : Type 0 where
    pub job : Job
    pub runs : f.job ≡ Some job
    pub aimed : target_in job.work ≡ Some t
    pub still : IsSameStill f.kept g.file.kept

  abbrev pub AtPlace : Place → Going → Type 0
  AtPlace (AtRebuild n) g = Common g × Ahead n
  AtPlace (AtFill t ps) g =
      Common g × ((had : Had g t) × ((p : Piece) (qs : List Piece) → ps ≡ p ∷ qs → AreNext i f had.job t (p ∷ qs)))
  AtPlace (AtSources t p ps heard) g =
      Common g × ((had : Had g t) × (had.job.work ≡ Gathers t (p ∷ ps)) × (g.file ≡ f)
      × ((r : IsLastReply i f had.job) × (heard ≡ heard_with had.job r.awaited r.reply)))
  AtPlace place g = Common g × IsFree

  -- ---- what comes of it

  pub data Went (g : Going) (l : Job) (t : Target) : Type 0 where
    IsNew : l.work ≡ Targets t → Common g → Ahead t.component → Went g l t
    IsOld : (j : Job) → f.job ≡ Some j → target_in j.work ≡ Some t → IsSameStill f.kept g.file.kept →
        JobGoes i f g.file j l t → Went g l t

  abbrev pub Out : Going → Type 0
  Out g = (l : Job) (t : Target) → g.file.job ≡ Some l → target_in l.work ≡ Some t → Went g l t

  pub none_out : (g : Going) → g.file.job ≡ None → Out g
  none_out g none l t runs aims = absurd (cc (sym none ∙ runs))

  pub unaimed : (g : Going) (j : Job) → g.file.job ≡ Some j → target_in j.work ≡ None → Out g
  unaimed g j runs none l t has aims =
      absurd (cc (sym none ∙ ap (λ (y : Job). target_in y.work) (same_Some j l (sym runs ∙ has)) ∙ aims))

  -- what a job asks
  asked : (g h : Going) (place : Place) (work : Work) (ws : List Awaited) → AtPlace place g → Asks g place work ws →
      (ws ≡ [] → ⊥) → h.file.kept ≡ g.file.kept → (l : Job) → h.file.job ≡ Some l → l.work ≡ work → l.awaited ≡ ws →
      l.heard ≡ [] → (t : Target) → target_in work ≡ Some t → Went h l t
  asked g h place work ws q Makes some same l runs is its heard t to = absurd (cc to)
  asked g h place work ws q Raises some same l runs is its heard t to = absurd (cc to)
  asked g h place work ws q (ReadsPiece p ps short) some same l runs is its heard t to = absurd (cc to)
  asked g h place work ws q (WritesPiece p ps rows short) some same l runs is its heard t to = absurd (cc to)
  asked g h place work ws q (Aims u) some same l runs is its heard t to =
      let one : u ≡ t = same_Some u t to in
      IsNew (is ∙ ap Targets one)
      (λ n b there. elim (q.0 n b there) [
        | inl was ↦ inl (was.0, ap (λ (y : Kept). slice_get y.components n) same ∙ was.1, was.2)
        | inr aim ↦ inr aim
      ]) (subst (λ (y : Target). Ahead y.component) one q.1)
  asked g h place work ws q (Sources u p ps) some same l runs is its heard t to =
      let one : u ≡ t = same_Some u t to in
      let had : Had g u = q.1.0 in
      IsOld had.job had.runs (had.aimed ∙ ap (λ (y : Target). Some y) one)
      (subst (IsSameStill f.kept) (sym same) had.still)
      (subst (λ (y : Target). JobGoes i f h.file had.job l y) one
      (Reads p ps g.effects.nonce is heard
      (its ∙ ap (λ (y : Kept). sources y u p g.effects.nonce) (sym same))
      (λ none. some (ap (λ (y : Kept). sources y u p g.effects.nonce) (sym same) ∙ none)) (q.1.1 p ps refl)))
  asked g h place work ws q (Filled u p ps rows bytes made_ some_) some same l runs is its heard t to =
      let one : u ≡ t = same_Some u t to in
      let had : Had g u = q.1.0 in
      let r : IsLastReply i f had.job = q.1.3.0 in
      let bytes_are : bytes ≡ made_of r u p =
      made_ ∙ ap (λ (y : File). made y.kept u p rows) q.1.2 ∙ ap (made f.kept u p) q.1.3.1 in
      IsOld had.job had.runs (had.aimed ∙ ap (λ (y : Target). Some y) one)
      (subst (IsSameStill f.kept) (sym same) had.still)
      (subst (λ (y : Target). JobGoes i f h.file had.job l y) one
      (Writes p ps g.effects.nonce q.1.1 is r
      (subst (λ (bs : List ℕ). nat_lt 0 (end_of bs (replicate p.count 0)) ≡ true) bytes_are some_)
      (its ∙ ap (λ (y : File). to_fill y.kept u p bytes g.effects.nonce ∷ []) q.1.2
      ∙ ap (λ (bs : List ℕ). to_fill f.kept u p bs g.effects.nonce ∷ []) bytes_are)))
  asked g h place work ws q Measures some same l runs is its heard t to = absurd (cc to)
  asked g h place work ws q (Checks_ p ps tally) some same l runs is its heard t to = absurd (cc to)

  -- a component that is set
  get_kept : (cs : List Component) (n k : ℕ) (y b : Component) → (n ≡ k → ⊥) → slice_get cs n ≡ Some b →
      slice_get (slice_set cs k y) n ≡ Some b
  get_kept [] n k y b other e = absurd (cc e)
  get_kept (x ∷ cs) zero zero y b other e = absurd (other refl)
  get_kept (x ∷ cs) zero (suc k) y b other e = e
  get_kept (x ∷ cs) (suc n) zero y b other e = e
  get_kept (x ∷ cs) (suc n) (suc k) y b other e = get_kept cs n k y b (λ same. other (ap suc same)) e

  past : (t : Target) (g : Going) → Had g t → Ahead (t.component + 1)
  past t g had u aim =
      let one : u ≡ t = same_Some u t (sym aim ∙ ap target_of had.runs ∙ had.aimed) in
      let same : u.component ≡ t.component = ap (λ (y : Target). y.component) one in
      omega (arith, same)

  pub target_cases : JobCases AtPlace Out
  target_cases = record {
    asks = λ place work c cs kind g q a l t runs aims.
        let it : record { kind = kind; work = work; awaited = c ∷ cs; heard = [] } ≡ l = same_Some _ l runs in
        asked g _ place work (c ∷ cs) q a (λ none. cc none) refl l runs (ap (λ (y : Job). y.work) (sym it))
        (ap (λ (y : Job). y.awaited) (sym it)) (ap (λ (y : Job). y.heard) (sym it)) t
        (ap (λ (y : Job). target_in y.work) it ∙ aims);
    aims = λ u g q is l t runs aims.
        let it = same_Some _ l runs in
        let one : u ≡ t = same_Some u t (ap (λ (y : Job). target_in y.work) it ∙ aims) in
        IsNew (ap (λ (y : Job). y.work) (sym it) ∙ ap Targets one) q.0 (subst (λ (y : Target). Ahead y.component) one q.1);
    readied = λ g q. none_out _ refl;
    rests_behind = λ g q. none_out _ refl;
    built = λ n g q. none_out _ refl;
    counted = λ t g q. none_out _ refl;
    raises = λ g q. q;
    skips = λ p ps g q e. q;
    unchanged = λ p ps heard g q e. q;
    repaired = λ short g q. q;
    begins = λ g q. (q.0, λ u aim. absurd (q.1 u aim));
    passes = λ b n g q. (q.0, λ u aim. let low = q.1 u aim in omega (arith, low));
    builds = λ t g q. (
      λ n b there. elim (cases_eq n t.component) [
        | inl same ↦ inr (t, ap target_of q.1.0.runs ∙ q.1.0.aimed, sym same)
        | inr other ↦ elim (q.0 n b there) [
          | inl was ↦ inl (was.0, get_kept g.file.kept.components n t.component _ was.0 other was.1, was.2)
          | inr aim ↦ inr aim
        ]
      ],
      past t g q.1.0,
    );
    loses_it = λ t p ps lacked g q e. (q.0, past t g q.1.0);
    gone = λ t todo g q. (q.0, past t g q.1.0);
    full = λ t todo g q. (q.0, past t g q.1.0);
    zeros = λ t p ps heard g q e. (
      q.0,
      (
        q.1.0,
        λ o qs is.
            let r : IsLastReply i f q.1.0.job = q.1.3.0 in
            let bytes_are : made g.file.kept t p heard ≡ made_of r t p =
            ap (λ (y : File). made y.kept t p heard) q.1.2 ∙ ap (made f.kept t p) q.1.3.1 in
            PastZeros p (q.1.1 ∙ ap (λ (xs : List Piece). Gathers t (p ∷ xs)) is) r
            (subst (λ (bs : List ℕ). nat_lt 0 (end_of bs (replicate p.count 0)) ≡ false) bytes_are e),
      ),
    );
    lengths = λ g q. q;
    counts = λ p ps g q. q;
  }
