-- The pieces that a job still has to do begin inside a file of the greatest size, wherever the job goes on.
use Rattle.std.proofs.Common.{◌≡◌, ◌==◌, ℕ, zero, suc, ◌+◌, ◌-◌, ◌*◌, ◌/◌, ◌≤◌, ◌<◌, Bool, true, false, List, [], ◌∷◌, min, max, Option, Some, None, nat_lt, refl, sym, subst, inl, inr, arith, if◌then◌else◌}
use Rattle.std.proofs.Math.Nat.{max-eq_left, max-eq_right, mul-le-mul_right}
use Rattle.std.proofs.lemmas.Bool.{cases_lt}
use Rattle.data_map.specs.declared.check.RawMap.{RawMap}
use Rattle.data_map.specs.declared.ranges.TheConstants.{MAX_FILE_SIZE}
use Rattle.data_map.specs.Striping.{group_of, stripe_length}
use Rattle.server_rules.specs.declared.limits.TheConstants.{MAX_PIECE}
use Rattle.server_rules.specs.Grants.{joined, merged}
use Rattle.server_rules.specs.Going.{Going, with_components, noting, noting_if}
use Rattle.server_rules.specs.Jobs.{waits_or_on, loses}
use Rattle.server_rules.specs.Laws.{In}
use Rattle.server_rules.specs.Maps.{pieces_from, pieces_of, pieces_along, pieces, pieces_in}
use Rattle.server_rules.specs.Rebuild.{group_for}
use Rattle.server_rules.specs.declared.grants.Stripes.{Stripes}
use Rattle.server_rules.specs.Replies.{Hearing, Older, Full, Done, Nothing, others, fills_up, heard_with, hears}
use Rattle.server_rules.specs.Standing.{lose_from}
use Rattle.server_rules.proofs.Members.{in_either, in_filtered}
use Rattle.history_law.specs.Names.{Kept, Grant, Awaited, Heard, Piece, Target, Job, Work, Creates, Fences, Fetches, Stores, Targets, Gathers, Fills, Lengths, Checks, NoSpace, NoDrive, Reply}
use Rattle.exchange_law.specs.Files.{EndFits}
use Rattle.relation_law.proofs.Walk.{Place, AtStart, AtFence, Behind, AtRepair, AtRows, AtRebuild, AtFill, AtSources, AtAudit, Asks, Makes, Raises, Reads, Writes, Aims, Sources, Filled, Measures, Checks_, JobCases, place_behind, lost_place, broken, walk_waits, walk_loses, walk_full}

-- ---- pieces

-- a piece begins inside a file of the greatest size, and ends near its unit's end
pub record PieceFits (m : RawMap) (p : Piece) : Type 0 where
  pub stripe : p.stripe * stripe_length m ≤ MAX_FILE_SIZE
  pub columns : p.column + p.count ≤ m.unit + MAX_PIECE

abbrev pub AllFit : RawMap → List Piece → Type 0
AllFit m ps = (p : Piece) → In p ps → PieceFits m p

-- a stripe below a fitting end begins inside
below_end : (m : RawMap) (s end : ℕ) → s < end → EndFits m end → s * stripe_length m ≤ MAX_FILE_SIZE
below_end m s end low fits =
    let all : (s + 1) * stripe_length m ≤ end * stripe_length m = mul-le-mul_right (stripe_length m) (omega (arith, low)) in
    omega (arith, all, fits)

from_columns : (unit stripe column n : ℕ) (p : Piece) → In p (pieces_from unit stripe column n) →
    (p.stripe ≡ stripe) × (p.column + p.count ≤ column + n * MAX_PIECE)
unfolding pieces_from
from_columns unit stripe column zero p i = absurd i
from_columns unit stripe column (suc n) p (inl same) =
    rw same (refl, omega arith)
from_columns unit stripe column (suc n) p (inr i) =
    let r = from_columns unit stripe (column + MAX_PIECE) n p i in (r.0, omega (arith, r.1))

in_stripe : (unit stripe : ℕ) (p : Piece) → In p (pieces_of unit stripe) →
    (p.stripe ≡ stripe) × (p.column + p.count ≤ unit + MAX_PIECE)
in_stripe unit stripe p i =
    let r = from_columns unit stripe 0 ((unit + (MAX_PIECE - 1)) / MAX_PIECE) p i in
    (r.0, omega (arith, r.1))

pub along_fits : (unit stripe n : ℕ) (p : Piece) → In p (pieces_along unit stripe n) →
    (p.stripe < stripe + n) × (p.column + p.count ≤ unit + MAX_PIECE)
unfolding pieces_along
along_fits unit stripe zero p i = absurd i
along_fits unit stripe (suc n) p i = elim (in_either p (pieces_of unit stripe) (pieces_along unit (stripe + 1) n) i) [
  | inl here ↦ (let r = in_stripe unit stripe p here in (omega (arith, r.0), r.1))
  | inr later ↦ (let r = along_fits unit (stripe + 1) n p later in (omega (arith, r.0), r.1))
]

-- those of all stripes up to a fitting end
pub all_along : (m : RawMap) (end : ℕ) → EndFits m end → AllFit m (pieces_along m.unit 0 end)
all_along m end fits p i =
    let r = along_fits m.unit 0 end p i in
    record { stripe = below_end m p.stripe end (omega (arith, r.0)) fits; columns = r.1 }

in_group : (m : RawMap) (group end : ℕ) → EndFits m end → AllFit m (pieces_in m group end)
unfolding pieces_in
in_group m group end fits p i =
    all_along m end fits p (in_filtered (λ (x : Piece). group_of m x.stripe == group) p (pieces_along m.unit 0 end) i).0

-- ---- ranges

-- each range ends so
abbrev EndsFit : RawMap → List Stripes → Type 0
EndsFit m rs = (r : Stripes) → In r rs → EndFits m r.end

max_fits : (m : RawMap) (a b : ℕ) → EndFits m a → EndFits m b → EndFits m (max a b)
max_fits m a b x y = elim (cases_lt a b) [
  | inl low ↦ subst (EndFits m) (sym (max-eq_right (omega (arith, low)))) y
  | inr above ↦ subst (EndFits m) (sym (max-eq_left above)) x
]

with_first : (m : RawMap) (x : Stripes) (rs : List Stripes) → EndFits m x.end → EndsFit m rs → EndsFit m (x ∷ rs)
with_first m x rs fits all r (inl same) = subst (λ (y : Stripes). EndFits m y.end) (sym same) fits
with_first m x rs fits all r (inr i) = all r i

joined_fit : (m : RawMap) (r : Stripes) (rs : List Stripes) → EndFits m r.end → EndsFit m rs → EndsFit m (joined r rs)
unfolding joined
joined_fit m r [] fits all = with_first m r [] fits all
joined_fit m r (x ∷ xs) fits all =
    either (nat_lt x.end r.first) _ _
    (with_first m x (joined r xs) (all x (inl refl)) (joined_fit m r xs fits rest))
    (either (nat_lt r.end x.first) _ _ (with_first m r (x ∷ xs) fits all)
    (joined_fit m (record { first = min r.first x.first; end = max r.end x.end }) xs
    (max_fits m r.end x.end fits (all x (inl refl))) rest))
  where
    rest : EndsFit m xs
    rest y i = all y (inr i)

    either : (b : Bool) (ys zs : List Stripes) → EndsFit m ys → EndsFit m zs → EndsFit m (if b then ys else zs)
    either true ys zs p q = p
    either false ys zs p q = q

abbrev GrantEndsFit : RawMap → List Grant → Type 0
GrantEndsFit m gs = (g : Grant) → In g gs → EndFits m g.end

merged_fit : (m : RawMap) (gs : List Grant) → GrantEndsFit m gs → EndsFit m (merged gs)
unfolding merged
merged_fit m [] all = λ r i. absurd i
merged_fit m (g ∷ gs) all =
    let rest : EndsFit m (merged gs) = merged_fit m gs (λ x i. all x (inr i)) in
    either g.rw _ _ (joined_fit m (record { first = g.first; end = g.end }) (merged gs) (all g (inl refl)) rest) rest
  where
    either : (b : Bool) (ys zs : List Stripes) → EndsFit m ys → EndsFit m zs → EndsFit m (if b then ys else zs)
    either true ys zs p q = p
    either false ys zs p q = q

-- an empty range has no piece
none_along : (unit stripe n : ℕ) (p : Piece) → n ≡ 0 → In p (pieces_along unit stripe n) → ⊥
unfolding pieces_along
none_along unit stripe zero p e here = here
none_along unit stripe (suc n) p e here = absurd (omega (arith, e))

some_range : (unit : ℕ) (r : Stripes) (p : Piece) → In p (pieces_along unit r.first (r.end - r.first)) → r.first < r.end
some_range unit r p here = elim (cases_lt r.first r.end) [
  | inl low ↦ low
  | inr none ↦ absurd (none_along unit r.first (r.end - r.first) p (omega (arith, none)) here)
]

ranges_fit : (m : RawMap) (rs : List Stripes) → EndsFit m rs → AllFit m (pieces m.unit rs)
unfolding pieces pieces_along
ranges_fit m [] all p i = absurd i
ranges_fit m (r ∷ rs) all p i =
    elim (in_either p (pieces_along m.unit r.first (r.end - r.first)) (pieces m.unit rs) i) [
      | inl here ↦
          (let x = along_fits m.unit r.first (r.end - r.first) p here in record {
            stripe = below_end m p.stripe r.end (omega (arith, x.0, some_range m.unit r p here)) (all r (inl refl));
            columns = x.1;
          })
      | inr later ↦ ranges_fit m rs (λ x j. all x (inr j)) p later
    ]

-- ---- what is kept

-- `high` and the ends of grants fit
pub record KeptEnds (k : Kept) : Type 0 where
  pub high : EndFits k.map k.high
  pub ended : GrantEndsFit k.map k.ended
  pub grants : GrantEndsFit k.map k.grants

-- ---- the work of a job

unfoldable pub todo_of : Work → List Piece
todo_of (Fetches todo short) = todo
todo_of (Stores todo short broken) = todo
todo_of (Gathers t todo) = todo
todo_of (Fills t todo) = todo
todo_of (Checks todo tally) = todo
todo_of work = []

abbrev pub PiecesIn : RawMap → Option Job → Type 0
PiecesIn m None = Unit {0}
PiecesIn m (Some j) = AllFit m (todo_of j.work)

abbrev pub PiecesAt : Going → Type 0
PiecesAt g = PiecesIn g.file.kept.map g.file.job

-- ---- where a job goes on

abbrev pieces_at : Place → List Piece
pieces_at (AtRepair ps) = ps
pieces_at (AtRows p ps heard) = p ∷ ps
pieces_at (AtFill t ps) = ps
pieces_at (AtSources t p ps heard) = p ∷ ps
pieces_at (AtAudit ps) = ps
pieces_at place = []

pub record PlaceFits (place : Place) (g : Going) : Type 0 where
  pub ends : KeptEnds g.file.kept
  pub pieces : AllFit g.file.kept.map (pieces_at place)

none_fit : (m : RawMap) → AllFit m []
none_fit m p i = absurd i

rest_fit : (m : RawMap) (p : Piece) (ps : List Piece) → AllFit m (p ∷ ps) → AllFit m ps
rest_fit m p ps all x i = all x (inr i)

asks_fit : (g : Going) (place : Place) (work : Work) (ws : List Awaited) → PlaceFits place g → Asks g place work ws →
    AllFit g.file.kept.map (todo_of work)
unfolding todo_of
asks_fit g place work ws q Makes = none_fit g.file.kept.map
asks_fit g place work ws q Raises = none_fit g.file.kept.map
asks_fit g place work ws q (Reads p ps short) = q.pieces
asks_fit g place work ws q (Writes p ps heard short) = q.pieces
asks_fit g place work ws q (Aims t) = none_fit g.file.kept.map
asks_fit g place work ws q (Sources t p ps) = q.pieces
asks_fit g place work ws q (Filled t p ps heard bytes is some) = q.pieces
asks_fit g place work ws q Measures = none_fit g.file.kept.map
asks_fit g place work ws q (Checks_ p ps tally) = q.pieces

-- nothing is to be done there
resting : (place : Place) (g : Going) → pieces_at place ≡ [] → KeptEnds g.file.kept → PlaceFits place g
resting place g none ends = record { ends = ends; pieces = subst (AllFit g.file.kept.map) (sym none) (none_fit g.file.kept.map) }

noted_ends : (b : Bool) (n : ℕ) (g : Going) → KeptEnds g.file.kept → KeptEnds (noting_if b g (NoDrive n)).file.kept
noted_ends true n g q = q
noted_ends false n g q = q

pub place_cases : JobCases PlaceFits PiecesAt
unfolding todo_of
place_cases = record {
  asks = λ place work c cs kind g q a. asks_fit g place work (c ∷ cs) q a;
  aims = λ t g q is. none_fit g.file.kept.map;
  readied = λ g q. tt;
  rests_behind = λ g q. tt;
  built = λ n g q. tt;
  counted = λ t g q. tt;
  raises = λ g q. record {
    ends = record { high = q.ends.high; ended = q.ends.ended; grants = q.ends.grants };
    pieces = ranges_fit g.file.kept.map (merged g.file.kept.ended) (merged_fit g.file.kept.map g.file.kept.ended q.ends.ended);
  };
  skips = λ p ps g q e. record { ends = q.ends; pieces = rest_fit g.file.kept.map p ps q.pieces };
  unchanged = λ p ps heard g q e. record { ends = q.ends; pieces = rest_fit g.file.kept.map p ps q.pieces };
  repaired = λ short g q. resting Behind _ refl (record { high = q.ends.high; ended = λ x i. absurd i; grants = q.ends.grants });
  begins = λ g q. resting (AtRebuild 0) g refl q.ends;
  passes = λ b n g q. resting (AtRebuild (n + 1)) _ refl (noted_ends b n g q.ends);
  builds = λ t g q. resting (AtRebuild (t.component + 1)) _ refl
      (record { high = q.ends.high; ended = q.ends.ended; grants = q.ends.grants });
  loses_it = λ t p ps lacked g q e. resting (AtRebuild (t.component + 1)) _ refl q.ends;
  gone = λ t todo g q. resting (AtRebuild (t.component + 1)) _ refl q.ends;
  full = λ t todo g q. resting (AtRebuild (t.component + 1)) _ refl q.ends;
  zeros = λ t p ps heard g q e. record { ends = q.ends; pieces = rest_fit g.file.kept.map p ps q.pieces };
  lengths = λ g q. record { ends = q.ends; pieces = all_along g.file.kept.map g.file.kept.high q.ends.high };
  counts = λ p ps g q. record { ends = q.ends; pieces = rest_fit g.file.kept.map p ps q.pieces };
}

-- ---- nothing is awaited any more, or a component is lost

pub fits_behind : (g : Going) (work : Work) (heard : List Heard) → KeptEnds g.file.kept → AllFit g.file.kept.map (todo_of work) →
    PlaceFits (place_behind g.file.kept work heard) g
unfolding todo_of
fits_behind g Creates heard e q = resting AtStart g refl e
fits_behind g Fences heard e q = resting AtFence g refl e
fits_behind g (Fetches [] short) heard e q = record { ends = e; pieces = q }
fits_behind g (Fetches (p ∷ ps) short) heard e q = record { ends = e; pieces = q }
fits_behind g (Stores [] short b) heard e q = record { ends = e; pieces = q }
fits_behind g (Stores (p ∷ ps) short true) heard e q = record { ends = e; pieces = q }
fits_behind g (Stores (p ∷ ps) short false) heard e q = record { ends = e; pieces = rest_fit g.file.kept.map p ps q }
fits_behind g (Targets t) heard e q =
    record { ends = e; pieces = in_group g.file.kept.map (group_for g.file.kept t) g.file.kept.high e.high }
fits_behind g (Gathers t []) heard e q = record { ends = e; pieces = q }
fits_behind g (Gathers t (p ∷ ps)) heard e q = record { ends = e; pieces = q }
fits_behind g (Fills t []) heard e q = record { ends = e; pieces = q }
fits_behind g (Fills t (p ∷ ps)) heard e q = record { ends = e; pieces = rest_fit g.file.kept.map p ps q }
fits_behind g Lengths heard e q = record { ends = e; pieces = all_along g.file.kept.map g.file.kept.high e.high }
fits_behind g (Checks [] tally) heard e q = record { ends = e; pieces = q }
fits_behind g (Checks (p ∷ ps) tally) heard e q = record { ends = e; pieces = rest_fit g.file.kept.map p ps q }

pub fits_lost : (g : Going) (work : Work) → KeptEnds g.file.kept → AllFit g.file.kept.map (todo_of work) →
    PlaceFits (lost_place g.file.kept work) g
unfolding todo_of
fits_lost g Creates e q = resting AtStart g refl e
fits_lost g Fences e q = resting AtFence g refl e
fits_lost g (Fetches todo short) e q = record { ends = e; pieces = q }
fits_lost g (Stores todo short b) e q = record { ends = e; pieces = q }
fits_lost g (Targets t) e q = resting (AtFill t []) g refl e
fits_lost g (Gathers t todo) e q = record { ends = e; pieces = q }
fits_lost g (Fills t todo) e q = record { ends = e; pieces = q }
fits_lost g Lengths e q = record { ends = e; pieces = all_along g.file.kept.map g.file.kept.high e.high }
fits_lost g (Checks todo tally) e q = record { ends = e; pieces = q }

broken_fits : (m : RawMap) (work : Work) → AllFit m (todo_of work) → AllFit m (todo_of (broken work))
unfolding todo_of
broken_fits m (Stores todo short b) q = q
broken_fits m Creates q = q
broken_fits m Fences q = q
broken_fits m (Fetches todo short) q = q
broken_fits m (Targets t) q = q
broken_fits m (Gathers t todo) q = q
broken_fits m (Fills t todo) q = q
broken_fits m Lengths q = q
broken_fits m (Checks todo tally) q = q

module _ (g : Going) (j : Job) (ends : KeptEnds g.file.kept) (fit : AllFit g.file.kept.map (todo_of j.work)) where
  pub fits_loses : (rest : List Awaited) (gone : Bool) → PiecesAt g → PiecesAt (loses g j j.work rest gone)
  fits_loses rest gone here =
      walk_loses PlaceFits PiecesAt place_cases g j j.work rest gone refl (record {
        waits = λ c cs e. broken_fits g.file.kept.map j.work fit;
        stays = here;
        on = λ none. fits_lost g j.work ends fit;
      })

  fits_waits : (rest : List Awaited) (heard : List Heard) → PiecesAt (waits_or_on g j j.work rest heard)
  fits_waits rest heard =
      walk_waits PlaceFits PiecesAt place_cases g j j.work rest heard (λ c cs e. fit)
      (λ none. fits_behind g j.work heard ends fit)

fills_up_fits : (g : Going) (j : Job) (a : Awaited) (work : Work) → j.work ≡ work → g.file.job ≡ Some j →
    KeptEnds g.file.kept → AllFit g.file.kept.map (todo_of j.work) → PiecesAt (fills_up g j a work)
unfolding todo_of
fills_up_fits g j a work is runs ends fit = by_work work is
  where
    todo : (x : Work) → j.work ≡ x → AllFit g.file.kept.map (todo_of x)
    todo x e = subst (λ (y : Work). AllFit g.file.kept.map (todo_of y)) e fit

    h : Going
    h = noting (with_components g (lose_from (a.component ∷ []) g.file.kept.components 0)) (NoSpace a.component)

    ends_there : KeptEnds h.file.kept
    ends_there = record { high = ends.high; ended = ends.ended; grants = ends.grants }

    loses_it : (x : Work) → j.work ≡ x → PiecesAt (loses h j x (others j.awaited a.command.nonce) false)
    loses_it x e =
        subst (λ (y : Work). PiecesAt (loses h j y (others j.awaited a.command.nonce) false)) e
        (fits_loses h j ends_there fit (others j.awaited a.command.nonce) false
        (subst (PiecesIn g.file.kept.map) (sym runs) fit))

    full : (t : Target) (ps : List Piece) → AllFit g.file.kept.map ps → PlaceFits (AtFill t ps) g
    full t ps q = record { ends = ends; pieces = q }

    by_work : (x : Work) → j.work ≡ x → PiecesAt (fills_up g j a x)
    by_work (Targets t) e = walk_full PlaceFits PiecesAt place_cases t [] g (full t [] (none_fit g.file.kept.map))
    by_work (Gathers t ps) e = walk_full PlaceFits PiecesAt place_cases t ps g (full t ps (todo (Gathers t ps) e))
    by_work (Fills t ps) e = walk_full PlaceFits PiecesAt place_cases t ps g (full t ps (todo (Fills t ps) e))
    by_work Creates e = loses_it Creates e
    by_work Fences e = loses_it Fences e
    by_work (Fetches ps short) e = loses_it (Fetches ps short) e
    by_work (Stores ps short b) e = loses_it (Stores ps short b) e
    by_work Lengths e = loses_it Lengths e
    by_work (Checks ps t) e = loses_it (Checks ps t) e

pub fits_hears : (g : Going) (j : Job) (a : Awaited) (r : Reply) (x : Hearing) → g.file.job ≡ Some j →
    KeptEnds g.file.kept → AllFit g.file.kept.map (todo_of j.work) → PiecesAt (hears g j a r x)
fits_hears g j a r Older runs ends fit = fit
fits_hears g j a r Full runs ends fit = fills_up_fits g j a j.work refl runs ends fit
fits_hears g j a r Done runs ends fit = fits_waits g j ends fit (others j.awaited a.command.nonce) (heard_with j a r)
fits_hears g j a r Nothing runs ends fit = subst (PiecesIn g.file.kept.map) (sym runs) fit
