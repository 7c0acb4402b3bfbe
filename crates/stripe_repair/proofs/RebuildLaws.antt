-- How a rebuild goes on from piece to piece.
use Rattle.std.proofs.Common.{◌≡◌, ℕ, true, ◌<◌, ◌≤◌, List, [], ◌∷◌, Option, Some, None, length, drop, refl, sym, ap, ◌∙◌, arith, inl, inr}
use Rattle.std.specs.Prelude.{Result, Ok, Err, IfOk, IfSome, filter, slice_get, nat_lt, replicate, ◌==◌}
use Rattle.std.specs.List.{All}
use Rattle.std.proofs.lemmas.Bool.{cases_Bool, cases_lt}
use Rattle.std.proofs.lemmas.Bool.Decides.{eqb_tells, nat_tests}
use Rattle.std.proofs.lemmas.List.Elements.{All-nil, All-cons, All-tail}
use Rattle.osd_lists.specs.declared.memory.Memory.{Memory}
use Rattle.data_map.specs.declared.check.RawMap.{RawMap}
use Rattle.data_map.specs.declared.ranges.TheConstants.{MAX_FILE_SIZE}
use Rattle.data_map.specs.Check.{IsChecked}
use Rattle.data_map.specs.Striping.{group_of, parities}
use Rattle.server_rules.specs.declared.files.Kept.{Kept}
use Rattle.server_rules.specs.declared.jobs.Piece.{Piece}
use Rattle.server_rules.specs.declared.jobs.Heard.{Heard}
use Rattle.server_rules.specs.declared.jobs.Target.{Target}
use Rattle.server_rules.specs.declared.jobs.Awaited.{Awaited}
use Rattle.server_rules.specs.declared.jobs.JobKind.TheVariants.{Rebuilding}
use Rattle.server_rules.specs.declared.jobs.Work.TheVariants.{Gathers, Fills}
use Rattle.server_rules.specs.declared.notes.NoteKind.TheVariants.{Lost}
use Rattle.server_rules.specs.Going.{Going, noting, rests, rests_or}
use Rattle.server_rules.specs.Jobs.{gathered}
use Rattle.server_rules.specs.Maps.{group_with, pieces_in, pieces_along}
use Rattle.server_rules.specs.Standing.{lacking}
use Rattle.server_rules.specs.Columns.{end_of}
use Rattle.server_rules.specs.Rebuild.{group_for, sources, sources_by, fills, filling, made, to_fill, lost, goes_past}
use Rattle.stripe_repair.specs.declared.rebuild.FillStage.TheVariants.{Gathering}
use Rattle.stripe_repair.specs.declared.rebuild.FillStep.{FillStep}
use Rattle.stripe_repair.specs.Pieces.{IsPiece}
use Rattle.stripe_repair.specs.Repairing.{IsAt}
use Rattle.stripe_repair.specs.Restored.{fill_of, CanBeMade}
use Rattle.stripe_repair.specs.Filling.{RebuildState, IsPieceOf, comes_to, by_sources, sourced}
use Rattle.stripe_repair.proofs.PieceLaws.{along_are}
use Rattle.stripe_repair.proofs.LostLaws.{lost_count}

-- ---- its pieces

in_group : (m : RawMap) (t : Target) (ps : List Piece) → All IsPiece ps →
    All (IsPieceOf m t) (filter (λ p. group_of m p.stripe == group_with m t.component) ps)
in_group m t [] all = All-nil (IsPieceOf m t)
in_group m t (p ∷ ps) all = elim (eqb_tells (group_of m p.stripe) (group_with m t.component)) [
  | inl here ↦ rw here.0 (All-cons (IsPieceOf m t) p (filter (λ (q : Piece). group_of m q.stripe == group_with m t.component) ps)
      (record { piece = all 0 p (omega arith); group = here.1 }) (in_group m t ps (All-tail IsPiece p ps all)))
  | inr elsewhere ↦ rw elsewhere.0 (in_group m t ps (All-tail IsPiece p ps all))
]

pub pieces_of_target : (m : RawMap) (t : Target) (high : ℕ) → IsChecked m → high ≤ MAX_FILE_SIZE →
    All (IsPieceOf m t) (pieces_in m (group_with m t.component) high)
unfolding pieces_in
pieces_of_target m t high ch low =
    in_group m t (pieces_along m.unit 0 high) (along_are m.unit 0 high ch.short_unit (λ some. omega (arith, low)))

-- the first of them
pub first_is : (m : RawMap) (t : Target) (todo : List Piece) (o : Option Piece) → o ≡ slice_get todo 0 →
    All (IsPieceOf m t) todo → IfSome o (IsPieceOf m t)
first_is m t [] o e all = rw e tt
first_is m t (p ∷ ps) o e all = rw e (all 0 p (omega arith))

-- ---- what can be made

-- a piece that has sources
pub with_sources : (f : Kept) (t : Target) (p : Piece) (nonce : ℕ) (cs : List Awaited) → IsChecked f.map →
    group_of f.map p.stripe ≡ group_with f.map t.component → cs ≡ sources f t p nonce → (cs ≡ [] → ⊥) → CanBeMade f t p
unfolding sources
with_sources f t p nonce cs ch same is some none =
    let by : cs ≡ sources_by f t p nonce None = is ∙ ap (sources_by f t p nonce) none in
    let count = lost_count f.map f.components p.stripe ch in
    elim (cases_lt (parities f.map) (length (lacking f.map f.components (group_for f t)))) [
      | inl beyond ↦ absurd
          (some (rw (is_less (parities f.map) (length (lacking f.map f.components (group_for f t))) beyond) at by))
      | inr few ↦ rw (count, same) few
    ]
  where
    is_less : (a b : ℕ) → a < b → nat_lt a b ≡ true
    is_less a b l = grind (arith, nat_tests, l)

-- ---- the rules

by_list : (cs : List Awaited) (f : Kept) (g : Going) (t : Target) (todo : List Piece) → g.file.kept ≡ f →
    rests_or cs g Rebuilding (Gathers t todo) (lost g t) ≡ comes_to (by_sources f t cs) g
    (record { target = t; todo = todo; stage = Gathering })
by_list [] f g t todo e =
    ap (λ (k : Kept). goes_past (noting g (Lost t.component (lacking k.map k.components (group_for k t)))) t) e
by_list (c ∷ cs) f g t todo e = refl

fills_by : (f : Kept) (nonce : ℕ) (g : Going) (t : Target) (todo : List Piece) → IsAt f nonce g →
    fills g t todo ≡ comes_to (sourced f t (slice_get todo 0) nonce) g (record { target = t; todo = todo; stage = Gathering })
unfolding fills
fills_by f nonce g t [] at = refl
fills_by f nonce g t (p ∷ ps) at =
    let here : sources g.file.kept t p g.effects.nonce ≡ sources f t p nonce = rw (at.kept, at.nonce) refl in
    ap (λ (cs : List Awaited). rests_or cs g Rebuilding (Gathers t (p ∷ ps)) (lost g t)) here
    ∙ by_list (sources f t p nonce) f g t (p ∷ ps) at.kept

pub next_fills : (r : Result FillStep Memory) (f : Kept) (nonce : ℕ) (t : Target) (todo : List Piece) (o : Option Piece) →
    o ≡ slice_get todo 0 →
    IfOk r (λ step. step ≡ sourced f t o nonce) →
    IfOk r (λ step. (g : Going) → IsAt f nonce g →
    fills g t todo ≡ comes_to step g (record { target = t; todo = todo; stage = Gathering }))
next_fills (Ok step) f nonce t todo o first e = λ g at.
    fills_by f nonce g t todo at
    ∙ ap (λ (s : FillStep). comes_to s g (record { target = t; todo = todo; stage = Gathering }))
    (ap (λ (x : Option Piece). sourced f t x nonce) (sym first) ∙ sym e)
next_fills (Err x) f nonce t todo o first e = tt

-- ---- its sources are read, or its WRITE is answered

pub gathered_stores : (f : Kept) (nonce : ℕ) (g : Going) (t : Target) (todo : List Piece) (heard : List Heard) (p : Piece)
    (w : Awaited) → IsAt f nonce g → slice_get todo 0 ≡ Some p →
    fill_of f t p (made f t p heard) nonce ≡ Some w → gathered g t todo heard ≡ rests g Rebuilding (Fills t todo) w []
unfolding filling
gathered_stores f nonce g t [] heard p w at e is = absurd (cc e)
gathered_stores f nonce g t (q ∷ ps) heard p w at e is =
    let same : q ≡ p = cc e in
    let here : fill_of g.file.kept t p (made g.file.kept t p heard) g.effects.nonce ≡ Some w = rw (at.kept, at.nonce) is in
    rw same (chosen here)
  where
    chosen : fill_of g.file.kept t p (made g.file.kept t p heard) g.effects.nonce ≡ Some w →
        filling g t p ps (made g.file.kept t p heard) ≡ rests g Rebuilding (Fills t (p ∷ ps)) w []
    chosen h = elim (cases_Bool (nat_lt 0 (end_of (made g.file.kept t p heard) (replicate p.count 0)))) [
      | inl some ↦
          let is_it : to_fill g.file.kept t p (made g.file.kept t p heard) g.effects.nonce ≡ w = cc (rw some at h) in
          rw some (ap (λ (a : Awaited). rests g Rebuilding (Fills t (p ∷ ps)) a []) is_it)
      | inr zeros ↦ absurd (cc (rw zeros at h))
    ]

pub gathered_past : (f : Kept) (nonce : ℕ) (g : Going) (t : Target) (todo : List Piece) (heard : List Heard) (p : Piece) →
    IsAt f nonce g → slice_get todo 0 ≡ Some p →
    fill_of f t p (made f t p heard) nonce ≡ None → gathered g t todo heard ≡ fills g t (drop 1 todo)
unfolding filling
gathered_past f nonce g t [] heard p at e is = absurd (cc e)
gathered_past f nonce g t (q ∷ ps) heard p at e is =
    let same : q ≡ p = cc e in
    let here : fill_of g.file.kept t p (made g.file.kept t p heard) g.effects.nonce ≡ None = rw (at.kept, at.nonce) is in
    rw same (chosen here)
  where
    chosen : fill_of g.file.kept t p (made g.file.kept t p heard) g.effects.nonce ≡ None →
        filling g t p ps (made g.file.kept t p heard) ≡ fills g t ps
    chosen h = elim (cases_Bool (nat_lt 0 (end_of (made g.file.kept t p heard) (replicate p.count 0)))) [
      | inl some ↦ absurd (cc (rw some at h))
      | inr zeros ↦ rw zeros refl
    ]

pub gathered_ends : (g : Going) (t : Target) (todo : List Piece) (heard : List Heard) → slice_get todo 0 ≡ None →
    gathered g t todo heard ≡ fills g t todo
gathered_ends g t [] heard e = refl
gathered_ends g t (q ∷ ps) heard e = absurd (cc e)

-- what is the same for the rules
pub same_fill : (r : Result FillStep Memory) (f : Kept) (nonce : ℕ) (x y : Going → Going) (s : RebuildState) →
    ((g : Going) → IsAt f nonce g → x g ≡ y g) →
    IfOk r (λ step. (g : Going) → IsAt f nonce g → y g ≡ comes_to step g s) →
    IfOk r (λ step. (g : Going) → IsAt f nonce g → x g ≡ comes_to step g s)
same_fill (Ok step) f nonce x y s same e = λ g at. same g at ∙ e g at
same_fill (Err z) f nonce x y s same e = tt
