-- What notes say of components that were made anew, over each function of jobs: the target stands there, and a reply came.
-- Towards `RebuiltWereTargets` (`specs/TargetLaws.antt`).
use Rattle.std.proofs.Common.{◌≡◌, ◌==◌, ◌||◌, ◌++◌, ℕ, zero, suc, Bool, true, false, List, [], ◌∷◌, slice_get, slice_set, Option, Some, None, refl, sym, ap, subst, ◌∙◌, inl, inr, if◌then◌else◌}
use Rattle.std.proofs.lemmas.Option.{same_Some}
use Rattle.server_rules.specs.declared.limits.TheConstants.{GREATEST_TAG}
use Rattle.server_rules.specs.Going.{Going, over, noting, noting_if, with_components}
use Rattle.server_rules.specs.Jobs.{making, fence_begins, waits_or_on, loses, declares, declared_in, is_target, others_than, targets}
use Rattle.server_rules.specs.Laws.{In}
use Rattle.server_rules.specs.Openings.{is_unsettled, opens_made, opens_spent, opens_fenced, opens}
use Rattle.server_rules.specs.Rebuild.{stands_at}
use Rattle.server_rules.specs.Replies.{Hearing, Older, Full, Done, Nothing, others, renews, fills_up, heard_with, hears}
use Rattle.server_rules.specs.Standing.{lose_from, lose_on, any_on}
use Rattle.server_rules.proofs.Members.{in_either}
use Rattle.world_history.specs.ServerNames.{File, Kept, Component, Note, NoteKind, Rebuilt, NoDrive, NoSpace, Spent, Awaited, Heard, Piece, Target, Job, JobKind, Revoking, Work, Creates, Fences, Fetches, Stores, Targets, Gathers, Fills, Lengths, Checks, Reply}
use Rattle.component_law.specs.Objects.{target_in, target_of}
use Rattle.relation_law.proofs.Walk.{Place, AtStart, AtFence, Behind, AtRepair, AtRows, AtRebuild, AtFill, AtSources, AtAudit, JobCases, standing, place_behind, walk_audits, walk_fills, walk_gone, walk_full, walk_repairs, walk_fence, walk_making, walk_waits}
use Rattle.headline_law.specs.TargetLaws.{IsAtPiece, JobsAreAtPieces}

-- ---- notes

-- none of these notes says that a component was made anew
abbrev pub NoneMade : List Note → Type 0
NoneMade ns = (x : Note) (k d : ℕ) → In x ns → x.kind ≡ Rebuilt k d → ⊥

-- a note of this kind doesn't say so
abbrev pub IsOther : NoteKind → Type 0
IsOther kind = (k d : ℕ) → Rebuilt k d ≡ kind → ⊥

pub none_more : (ns : List Note) (m : ℕ) (kind : NoteKind) → IsOther kind → NoneMade ns →
    NoneMade (ns ++ (record { file = m; kind = kind } ∷ []))
none_more ns m kind other none x k d i e = elim (in_either x ns (record { file = m; kind = kind } ∷ []) i) [
  | inl old ↦ none x k d old e
  | inr (inl same) ↦ other k d (sym e ∙ ap (λ (y : Note). y.kind) same)
  | inr (inr z) ↦ z
]

-- what was set is there
set_got : (cs : List Component) (n : ℕ) (y at : Component) → slice_get (slice_set cs n y) n ≡ Some at → at ≡ y
set_got [] n y at e = absurd (cc e)
set_got (x ∷ cs) zero y at e = sym (same_Some y at e)
set_got (x ∷ cs) (suc n) y at e = set_got cs n y at e

-- a piece
some_piece : Piece
some_piece = record { stripe = 0; column = 0; count = 0 }

-- ---- what is known of what was made anew

-- `R` says that a reply came
module _ (R : Type 0) (f : File) where
  -- component k of the file with number n was the target, and it stands on drive d
  pub record Made (g : Kept) (n k d : ℕ) : Type 0 where
    pub heard : R
    pub target : Target
    pub aimed : target_of f.job ≡ Some target
    pub file : n ≡ f.kept.number
    pub component : k ≡ target.component
    pub place : d ≡ target.drive
    pub object : (at : Component) → slice_get g.components k ≡ Some at → at.object ≡ target.object
    pub ready : g.ready ≡ f.kept.ready

  -- so it is of each note
  abbrev pub AllMade : Going → Type 0
  AllMade g = (x : Note) (k d : ℕ) → In x g.effects.notes → x.kind ≡ Rebuilt k d → Made g.file.kept x.file k d

  -- nothing was made anew so far
  abbrev pub Base : Going → Type 0
  Base g = NoneMade g.effects.notes × (g.file.kept.number ≡ f.kept.number) × (g.file.kept.ready ≡ f.kept.ready)

  abbrev pub AtPlace : Place → Going → Type 0
  AtPlace (AtRebuild n) g = AllMade g
  AtPlace (AtFill t ps) g = Base g × ((target_of f.job ≡ Some t) × (ps ≡ [] → R))
  AtPlace (AtSources t p ps heard) g = Base g × ((target_of f.job ≡ Some t) × R)
  AtPlace place g = Base g

  pub made_none : (g : Going) → NoneMade g.effects.notes → AllMade g
  made_none g none x k d i e = absurd (none x k d i e)

  out_of : (place : Place) (g : Going) → AtPlace place g → AllMade g
  out_of AtStart g q = made_none g q.0
  out_of AtFence g q = made_none g q.0
  out_of Behind g q = made_none g q.0
  out_of (AtRepair ps) g q = made_none g q.0
  out_of (AtRows p ps heard) g q = made_none g q.0
  out_of (AtRebuild n) g q = q
  out_of (AtFill t ps) g q = made_none g q.0.0
  out_of (AtSources t p ps heard) g q = made_none g q.0.0
  out_of (AtAudit ps) g q = made_none g q.0

  more : (g : Going) (kind : NoteKind) → IsOther kind → NoneMade g.effects.notes → AllMade (noting g kind)
  more g kind other none = made_none (noting g kind) (none_more g.effects.notes g.file.kept.number kind other none)

  all_if : (b : Bool) (g : Going) (kind : NoteKind) → IsOther kind → AllMade g → AllMade (noting_if b g kind)
  all_if true g kind other all x k d i e =
      elim (in_either x g.effects.notes (record { file = g.file.kept.number; kind = kind } ∷ []) i) [
        | inl old ↦ all x k d old e
        | inr (inl same) ↦ absurd (other k d (sym e ∙ ap (λ (y : Note). y.kind) same))
        | inr (inr z) ↦ absurd z
      ]
  all_if false g kind other all x k d i e = all x k d i e

  -- the target stands where its component was
  stands : (t : Target) (g : Going) → Base g → target_of f.job ≡ Some t → R → AllMade (standing g t)
  stands t g base aim heard x k d i e =
      elim (in_either x g.effects.notes (record { file = g.file.kept.number; kind = Rebuilt t.component t.drive } ∷ []) i) [
        | inl old ↦ absurd (base.0 x k d old e)
        | inr (inl same) ↦
            let its : Rebuilt t.component t.drive ≡ Rebuilt k d = sym (ap (λ (y : Note). y.kind) same) ∙ e in
            let component : t.component ≡ k = cc its in
            let place : t.drive ≡ d = cc its in
            record {
              heard = heard;
              target = t;
              aimed = aim;
              file = ap (λ (y : Note). y.file) same ∙ base.1;
              component = sym component;
              place = sym place;
              object = λ at there. ap (λ (y : Component). y.object)
                  (set_got g.file.kept.components t.component (stands_at t) at
                  (subst (λ (n : ℕ). slice_get (slice_set g.file.kept.components t.component (stands_at t)) n ≡ Some at)
                  (sym component) there));
              ready = base.2;
            }
        | inr (inr z) ↦ absurd z
      ]

  noted_cases : JobCases AtPlace AllMade
  noted_cases = record {
    asks = λ place work c cs kind g q a. out_of place g q;
    aims = λ t g q is. q;
    readied = λ g q. λ x k d i e.
        absurd (none_more g.effects.notes g.file.kept.number _ (λ a b z. cc z) q.0 x k d i e);
    rests_behind = λ g q. made_none (over g) q.0;
    built = λ n g q. q;
    counted = λ t g q. λ x k d i e.
        absurd (none_more g.effects.notes g.file.kept.number _ (λ a b z. cc z) q.0 x k d i e);
    raises = λ g q. (none_more g.effects.notes g.file.kept.number _ (λ a b z. cc z) q.0, q.1, q.2);
    skips = λ p ps g q e. q;
    unchanged = λ p ps heard g q e. q;
    repaired = λ short g q. (none_more g.effects.notes g.file.kept.number _ (λ a b z. cc z) q.0, q.1, q.2);
    begins = λ g q. made_none g q.0;
    passes = λ b k g q. all_if b g (NoDrive k) (λ a d z. cc z) q;
    builds = λ t g q. stands t g q.0 q.1.0 (q.1.1 refl);
    loses_it = λ t p ps lacked g q e. more g _ (λ a b z. cc z) q.0.0;
    gone = λ t todo g q. more g (NoDrive t.component) (λ a b z. cc z) q.0.0;
    full = λ t todo g q. more g (NoSpace t.component) (λ a b z. cc z) q.0.0;
    zeros = λ t p ps heard g q e. (q.0, (q.1.0, λ none. q.1.1));
    lengths = λ g q. q;
    counts = λ p ps g q. q;
  }

  pick : (b : Bool) (x y : Going) → AllMade x → AllMade y → AllMade (if b then x else y)
  pick true x y p q = p
  pick false x y p q = q

  -- ---- the fence, a new file, an opening

  pub made_fence : (kind : JobKind) (format : ℕ) (g : Going) → Base g → AllMade (fence_begins kind format g)
  made_fence kind format g base = walk_fence AtPlace AllMade noted_cases kind format g base

  pub made_making : (g : Going) → Base g → AllMade (making g)
  made_making g base = walk_making AtPlace AllMade noted_cases g base

  pub made_opens : (format : ℕ) (g : Going) → Base g → AllMade (opens format g)
  unfolding opens opens_fenced
  made_opens format g base =
      pick (is_unsettled g.file.kept) _ _
      (pick (g.file.kept.tag == GREATEST_TAG) (opens_spent g) _
      (made_none (opens_spent g) (none_more g.effects.notes g.file.kept.number Spent (λ a b z. cc z) base.0))
      (made_fence Revoking format g base))
      (by_ready g.file.kept.ready)
    where
      by_ready : (b : Bool) → AllMade (opens_made g b)
      by_ready true = made_none (over g) base.0
      by_ready false = made_making g base

  -- ---- a component is lost

  -- the job's target is the file's
  abbrev pub IsAim : Work → Type 0
  IsAim work = (t : Target) → target_in work ≡ Some t → target_of f.job ≡ Some t

  made_waits : (g : Going) (j : Job) (work : Work) (rest : List Awaited) (heard : List Heard) → Base g →
      AtPlace (place_behind g.file.kept work heard) g → AllMade (waits_or_on g j work rest heard)
  made_waits g j work rest heard base on =
      walk_waits AtPlace AllMade noted_cases g j work rest heard (λ c cs e. made_none g base.0) (λ none. on)

  ends : (t : Target) (g : Going) → Base g → target_of f.job ≡ Some t → AtPlace (AtFill t (some_piece ∷ [])) g
  ends t g base aim = (base, (aim, λ none. absurd (cc none)))

  made_loses : (g : Going) (j : Job) (work : Work) (rest : List Awaited) (gone : Bool) → Base g → IsAim work →
      IsAtPiece work → AllMade (loses g j work rest gone)
  unfolding loses
  made_loses g j Creates rest gone base aim piece = made_waits g j Creates rest j.heard base base
  made_loses g j Fences rest gone base aim piece = made_waits g j Fences rest j.heard base base
  made_loses g j (Fetches todo short) rest gone base aim piece =
      walk_repairs AtPlace AllMade noted_cases j.kind todo short g base
  made_loses g j (Stores [] short b) rest gone base aim piece =
      made_waits g j (Stores [] short true) rest j.heard base base
  made_loses g j (Stores (p ∷ ps) short b) rest gone base aim piece =
      made_waits g j (Stores (p ∷ ps) short true) rest j.heard base base
  made_loses g j (Targets t) rest true base aim piece =
      walk_gone AtPlace AllMade noted_cases t (some_piece ∷ []) g (ends t g base (aim t refl))
  made_loses g j (Targets t) rest false base aim piece = made_none g base.0
  made_loses g j (Gathers t todo) rest true base aim piece =
      walk_gone AtPlace AllMade noted_cases t (some_piece ∷ []) g (ends t g base (aim t refl))
  made_loses g j (Gathers t []) rest false base aim piece = absurd piece
  made_loses g j (Gathers t (p ∷ ps)) rest false base aim piece =
      walk_fills AtPlace AllMade noted_cases t (p ∷ ps) g (base, (aim t refl, λ none. absurd (cc none)))
  made_loses g j (Fills t todo) rest true base aim piece =
      walk_gone AtPlace AllMade noted_cases t (some_piece ∷ []) g (ends t g base (aim t refl))
  made_loses g j (Fills t []) rest false base aim piece = absurd piece
  made_loses g j (Fills t (p ∷ ps)) rest false base aim piece =
      walk_fills AtPlace AllMade noted_cases t (p ∷ ps) g (base, (aim t refl, λ none. absurd (cc none)))
  made_loses g j Lengths rest gone base aim piece = made_waits g j Lengths rest j.heard base base
  made_loses g j (Checks todo t) rest gone base aim piece = walk_audits AtPlace AllMade noted_cases todo t g base

  pub made_declares : (drive : ℕ) (g : Going) → g.file ≡ f → NoneMade g.effects.notes → JobsAreAtPieces f →
      AllMade (declares g drive)
  unfolding declares
  made_declares drive g same none pieces =
      pick (any_on drive g.file.kept.components || targets g.file.job drive) (declared_in h drive g.file.job) g
      (by_job g.file.job refl) (made_none g none)
    where
      h : Going
      h = with_components g (lose_on drive g.file.kept.components)

      by_job : (o : Option Job) → g.file.job ≡ o → AllMade (declared_in h drive o)
      by_job None is = made_none h none
      by_job (Some j) is =
          let runs : f.job ≡ Some j = ap (λ (y : File). y.job) (sym same) ∙ is in
          made_loses h j j.work (others_than drive j.awaited) (is_target j.work drive)
          (none, ap (λ (y : File). y.kept.number) same, ap (λ (y : File). y.kept.ready) same)
          (λ t to. ap target_of runs ∙ to) (pieces j runs)

  -- ---- a reply

  module _ (g : Going) (j : Job) (a : Awaited) (r : Reply) (base : Base g) (aim : IsAim j.work) (heard : R) where
    abbrev lacks : Going
    lacks = noting (with_components g (lose_from (a.component ∷ []) g.file.kept.components 0)) (NoSpace a.component)

    base_lacks : Base lacks
    base_lacks = (none_more g.effects.notes g.file.kept.number _ (λ x y z. cc z) base.0, base.1, base.2)

    made_lacks : (work : Work) → IsAim work → IsAtPiece work →
        AllMade (loses lacks j work (others j.awaited a.command.nonce) false)
    made_lacks work to piece =
        made_loses lacks j work (others j.awaited a.command.nonce) false base_lacks to piece

    made_fills_up : (work : Work) → IsAim work → AllMade (fills_up g j a work)
    made_fills_up Creates to = made_lacks Creates to tt
    made_fills_up Fences to = made_lacks Fences to tt
    made_fills_up (Fetches todo short) to = made_lacks (Fetches todo short) to tt
    made_fills_up (Stores todo short b) to = made_lacks (Stores todo short b) to tt
    made_fills_up (Targets t) to =
        walk_full AtPlace AllMade noted_cases t (some_piece ∷ []) g (ends t g base (to t refl))
    made_fills_up (Gathers t todo) to =
        walk_full AtPlace AllMade noted_cases t (some_piece ∷ []) g (ends t g base (to t refl))
    made_fills_up (Fills t todo) to =
        walk_full AtPlace AllMade noted_cases t (some_piece ∷ []) g (ends t g base (to t refl))
    made_fills_up Lengths to = made_lacks Lengths to tt
    made_fills_up (Checks todo t) to = made_lacks (Checks todo t) to tt

    goes_on : (work : Work) → IsAim work → (hs : List Heard) → AtPlace (place_behind g.file.kept work hs) g
    goes_on Creates to hs = base
    goes_on Fences to hs = base
    goes_on (Fetches [] short) to hs = base
    goes_on (Fetches (p ∷ ps) short) to hs = base
    goes_on (Stores [] short b) to hs = base
    goes_on (Stores (p ∷ ps) short true) to hs = base
    goes_on (Stores (p ∷ ps) short false) to hs = base
    goes_on (Targets t) to hs = (base, (to t refl, λ none. heard))
    goes_on (Gathers t []) to hs = (base, (to t refl, λ none. heard))
    goes_on (Gathers t (p ∷ ps)) to hs = (base, (to t refl, heard))
    goes_on (Fills t []) to hs = (base, (to t refl, λ none. heard))
    goes_on (Fills t (p ∷ ps)) to hs = (base, (to t refl, λ none. heard))
    goes_on Lengths to hs = base
    goes_on (Checks [] t) to hs = base
    goes_on (Checks (p ∷ ps) t) to hs = base

    pub made_hears : (x : Hearing) → AllMade (hears g j a r x)
    made_hears Older = made_none (renews g j a) base.0
    made_hears Full = made_fills_up j.work aim
    made_hears Done =
        made_waits g j j.work (others j.awaited a.command.nonce) (heard_with j a r) base
        (goes_on j.work aim (heard_with j a r))
    made_hears Nothing = made_none g base.0
