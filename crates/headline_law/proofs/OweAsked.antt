-- A repair asks each present component that it reads, and writes to none twice: over each function of jobs.
-- Towards `OweFollows` (`specs/Parts.antt`).
use Rattle.std.proofs.Common.{◌≡◌, ◌==◌, ◌&&◌, ◌||◌, ℕ, zero, suc, ◌+◌, ◌-◌, ◌/◌, ◌≤◌, Bool, true, false, not, List, [], ◌∷◌, map, slice_get, Option, Some, None, refl, sym, ap, subst, ◌∙◌, inl, inr, arith, if◌then◌else◌}
use Rattle.std.proofs.lemmas.Bool.{cases_eq, cases_Bool, eq-eqb, ne_eqb}
use Rattle.data_map.specs.declared.check.RawMap.{RawMap}
use Rattle.data_map.specs.Striping.{group_of, offset_of}
use Rattle.server_rules.specs.Columns.{row_from, unit_rows, unit_with, wanted}
use Rattle.server_rules.specs.Commands.{Ask, Reading, Which, OfGroup, is_meant, to_each, again_in_2}
use Rattle.server_rules.specs.Going.{Going, noting, with_components, waits_on}
use Rattle.server_rules.specs.Jobs.{loses, goes_on, declares, declared_in, is_target, others_than, targets, fence_begins, making}
use Rattle.server_rules.specs.Laws.{In}
use Rattle.server_rules.specs.Maps.{group_with, pieces_from, pieces_of, pieces_along, pieces}
use Rattle.server_rules.specs.Openings.{is_unsettled, opens_made, opens_fenced, opens}
use Rattle.server_rules.specs.declared.limits.TheConstants.{GREATEST_TAG, MAX_PIECE}
use Rattle.server_rules.specs.Pieces.{stores_from, is_off}
use Rattle.server_rules.specs.Repair.{is_left, repair_reads}
use Rattle.server_rules.specs.Replies.{Hearing, Older, Full, Done, Nothing, others, renewed, renews, fills_up, heard_with, hears}
use Rattle.server_rules.specs.Standing.{any_on, lose_on, lose_from}
use Rattle.server_rules.proofs.Members.{in_front, in_behind, in_either, in_filter, in_filtered, in_map, in_mapped}
use Rattle.history_law.specs.Names.{Kept, Component, Awaited, Heard, Piece, Job, JobKind, Revoking, Work, Creates, Fences, Fetches, Stores, Targets, Gathers, Fills, Lengths, Checks, NoSpace, Reply}
use Rattle.server_rules.specs.Grants.{merged}
use Rattle.server_rules.specs.declared.grants.Stripes.{Stripes}
use Rattle.relation_law.proofs.Walk.{Place, AtRepair, AtRows, lost_place, JobCases, Asks, Makes, Raises, Reads, Writes, Aims, Sources, Filled, Measures, Checks_, place_behind, broken, walk_waits, walk_loses, walk_full, walk_fence, walk_making, walk_on}
use Rattle.headline_law.specs.OweAsking.{IsRead, AreSingle, ReadsAll, AreInside, AsksIn, AsksOf}

-- ---- lists

-- each present component that is meant is sent its command
pub meant_in : (f : Kept) (which : Which) (ask : Ask) (cs : List Component) (k nonce i : ℕ) (at : Component) →
    slice_get cs i ≡ Some at → at.missing ≡ false → is_meant f which (k + i) ≡ true →
    (a : Awaited) × In a (to_each f which ask cs k nonce) × (a.component ≡ k + i)
unfolding to_each
meant_in f which ask [] k nonce i at there stands meant = absurd (cc there)
meant_in f which ask (x ∷ cs) k nonce zero at there stands meant =
    let same : x ≡ at = cc there in
    let here : is_meant f which k ≡ true = ap (is_meant f which) (omega arith) ∙ meant in
    let stands_ : x.missing ≡ false = ap (λ (y : Component). y.missing) same ∙ stands in
    let test : (not x.missing && is_meant f which k) ≡ true =
    ap (λ (b : Bool). not b && is_meant f which k) stands_ ∙ here in
    rw test (_, inl refl, omega arith)
meant_in f which ask (x ∷ cs) k nonce (suc i) at there stands meant =
    let next : (k + 1) + i ≡ k + suc i = omega arith in
    let meant_ : is_meant f which ((k + 1) + i) ≡ true = ap (is_meant f which) next ∙ meant in
    elim (cases_Bool (not x.missing && is_meant f which k)) [
      | inl sent ↦
          let r = meant_in f which ask cs (k + 1) (nonce + 1) i at there stands meant_ in
          rw sent (r.0, inr r.1, r.2 ∙ next)
      | inr none ↦
          let r = meant_in f which ask cs (k + 1) nonce i at there stands meant_ in rw none (r.0, r.1, r.2 ∙ next)
    ]

-- the WRITEs of a piece to the components from number k on go to these, each to another
stores_low : (f : Kept) (p : Piece) (rows : List (List ℕ)) (heard : List Heard) (cs : List Component) (k nonce : ℕ)
    (a : Awaited) → In a (stores_from f p rows heard cs k nonce) → k ≤ a.component
unfolding stores_from
stores_low f p rows heard [] k nonce a i = absurd i
stores_low f p rows heard (at ∷ cs) k nonce a i =
    elim (cases_Bool (is_off f p (row_from heard k p.count) (wanted f.map rows (unit_with f.map p.stripe k) p.count) at k)) [
      | inl off ↦ elim (rw off at i) [
        | inl e ↦ omega (arith, ap (λ (y : Awaited). y.component) e)
        | inr j ↦ let low = stores_low f p rows heard cs (k + 1) (nonce + 1) a j in omega (arith, low)
      ]
      | inr on ↦ let low = stores_low f p rows heard cs (k + 1) nonce a (rw on at i) in omega (arith, low)
    ]

single_more : (k : ℕ) (x : Awaited) (ws : List Awaited) → x.component ≡ k →
    ((a : Awaited) → In a ws → (k + 1) ≤ a.component) → AreSingle ws → AreSingle (x ∷ ws)
single_more k x ws at low single a b (inl i) (inl j) e = i ∙ sym j
single_more k x ws at low single a b (inl i) (inr j) e =
    let above = low b j in absurd (omega (arith, above, e, at, ap (λ (z : Awaited). z.component) i))
single_more k x ws at low single a b (inr i) (inl j) e =
    let above = low a i in absurd (omega (arith, above, e, at, ap (λ (z : Awaited). z.component) j))
single_more k x ws at low single a b (inr i) (inr j) e = single a b i j e

stores_single : (f : Kept) (p : Piece) (rows : List (List ℕ)) (heard : List Heard) (cs : List Component) (k nonce : ℕ) →
    AreSingle (stores_from f p rows heard cs k nonce)
unfolding stores_from
stores_single f p rows heard [] k nonce = λ a b i j e. absurd i
stores_single f p rows heard (at ∷ cs) k nonce =
    elim (cases_Bool (is_off f p (row_from heard k p.count) (wanted f.map rows (unit_with f.map p.stripe k) p.count) at k)) [
      | inl off ↦ rw off (single_more k _ _ refl (stores_low f p rows heard cs (k + 1) (nonce + 1))
          (stores_single f p rows heard cs (k + 1) (nonce + 1)))
      | inr on ↦ rw on (stores_single f p rows heard cs (k + 1) nonce)
    ]

-- ---- what is asked at a place

pub meant_group : (f : Kept) (g k : ℕ) → group_with f.map k ≡ g → is_meant f (OfGroup g) k ≡ true
unfolding is_meant
meant_group f g k same = eq-eqb (group_with f.map k) g same

reads_all : (f : Kept) (kind : JobKind) (work : Work) (p : Piece) (nonce : ℕ) → (repair_reads f p nonce ≡ [] → ⊥) →
    ReadsAll f (record { kind = kind; work = work; awaited = repair_reads f p nonce; heard = [] }) p
unfolding repair_reads
reads_all f kind work p nonce some = by_left (is_left f p) refl some
  where
    by_left : (b : Bool) → is_left f p ≡ b →
        ((if b then [] else to_each f (OfGroup (group_of f.map p.stripe))
        (Reading (offset_of f.map p.stripe p.column) p.count) f.components 0 nonce) ≡ [] → ⊥) →
        ReadsAll f (record {
          kind = kind;
          work = work;
          awaited = if b then [] else to_each f (OfGroup (group_of f.map p.stripe))
              (Reading (offset_of f.map p.stripe p.column) p.count) f.components 0 nonce;
          heard = [];
        }) p
    by_left true is none = absurd (none refl)
    by_left false is none = record {
      right = is;
      each = λ k of.
          let r = meant_in f (OfGroup (group_of f.map p.stripe)) (Reading (offset_of f.map p.stripe p.column) p.count)
          f.components 0 nonce k of.component of.there of.present
          (meant_group f (group_of f.map p.stripe) (0 + k) (ap (group_with f.map) (omega arith) ∙ of.group)) in
          inr (r.0, r.1, r.2 ∙ omega arith);
    }

-- the pieces that a repair goes on with lie within their units
abbrev Inside : Place → Going → Type 0
Inside (AtRepair ps) g = AreInside g.file.kept.map ps
Inside (AtRows p ps heard) g = AreInside g.file.kept.map (p ∷ ps)
Inside place g = Unit {0}

asked_all : (g : Going) (place : Place) (work : Work) (ws : List Awaited) (kind : JobKind) → (ws ≡ [] → ⊥) →
    Inside place g → Asks g place work ws →
    AsksIn g.file.kept (record { kind = kind; work = work; awaited = ws; heard = [] }) work
asked_all g place work ws kind some q Makes = tt
asked_all g place work ws kind some q Raises = tt
asked_all g place work ws kind some q (Reads p ps short) =
    (reads_all g.file.kept kind (Fetches (p ∷ ps) short) p g.effects.nonce some, q)
asked_all g place work ws kind some q (Writes p ps heard short) = (
  stores_single g.file.kept p (unit_rows g.file.kept.map g.file.kept.components p.stripe heard p.count) heard
      g.file.kept.components 0 g.effects.nonce,
  q,
)
asked_all g place work ws kind some q (Aims t) = tt
asked_all g place work ws kind some q (Sources t p ps) = tt
asked_all g place work ws kind some q (Filled t p ps heard bytes is more) = tt
asked_all g place work ws kind some q Measures = tt
asked_all g place work ws kind some q (Checks_ p ps tally) = tt

-- ---- the parts of a job

abbrev pub AsksAt : Going → Type 0
AsksAt g = AsksOf g.file.kept g.file.job

from_inside : (unit s column n : ℕ) (p : Piece) → In p (pieces_from unit s column n) → p.count ≤ unit - p.column
unfolding pieces_from
from_inside unit s column zero p i = absurd i
from_inside unit s column (suc n) p (inl same) =
    subst (λ (y : Piece). y.count ≤ unit - y.column) (sym same) (omega arith)
from_inside unit s column (suc n) p (inr i) = from_inside unit s (column + MAX_PIECE) n p i

along_inside : (unit s n : ℕ) (p : Piece) → In p (pieces_along unit s n) → p.count ≤ unit - p.column
unfolding pieces_along
along_inside unit s zero p i = absurd i
along_inside unit s (suc n) p i = elim (in_either p (pieces_of unit s) (pieces_along unit (s + 1) n) i) [
  | inl here ↦ from_inside unit s 0 ((unit + (MAX_PIECE - 1)) / MAX_PIECE) p here
  | inr later ↦ along_inside unit (s + 1) n p later
]

pub all_inside : (unit : ℕ) (rs : List Stripes) (p : Piece) → In p (pieces unit rs) → p.count ≤ unit - p.column
unfolding pieces
all_inside unit [] p i = absurd i
all_inside unit (r ∷ rs) p i = elim (in_either p (pieces_along unit r.first (r.end - r.first)) (pieces unit rs) i) [
  | inl here ↦ along_inside unit r.first (r.end - r.first) p here
  | inr later ↦ all_inside unit rs p later
]

ask_cases : JobCases Inside AsksAt
ask_cases = record {
  asks = λ place work c cs kind g q a. asked_all g place work (c ∷ cs) kind (λ e. cc e) q a;
  aims = λ t g q is. tt;
  readied = λ g q. tt;
  rests_behind = λ g q. tt;
  built = λ n g q. tt;
  counted = λ t g q. tt;
  raises = λ g q. all_inside g.file.kept.map.unit (merged g.file.kept.ended);
  skips = λ p ps g q e x i. q x (inr i);
  unchanged = λ p ps heard g q e x i. q x (inr i);
  repaired = λ short g q. tt;
  begins = λ g q. tt;
  passes = λ b n g q. tt;
  builds = λ t g q. tt;
  loses_it = λ t p ps lacked g q e. tt;
  gone = λ t todo g q. tt;
  full = λ t todo g q. tt;
  zeros = λ t p ps heard g q e. tt;
  lengths = λ g q. tt;
  counts = λ p ps g q. tt;
}

-- no two have one nonce
abbrev pub AreAlone : List Awaited → Type 0
AreAlone ws = (a b : Awaited) → In a ws → In b ws → a.command.nonce ≡ b.command.nonce → a ≡ b

abbrev Among : List Awaited → List Awaited → Type 0
Among rest ws = (a : Awaited) → In a rest → In a ws

single_among : (ws rest : List Awaited) → Among rest ws → AreSingle ws → AreSingle rest
single_among ws rest among single a b i j e = single a b (among a i) (among b j) e

-- ---- a component is lost

-- a repair that reads begins the piece again
begins_again : (h : Going) (kind : JobKind) (todo : List Piece) (short : List ℕ) → AreInside h.file.kept.map todo →
    AsksAt (goes_on kind (Stores todo short true) [] h)
begins_again h kind [] short inside = walk_on Inside AsksAt ask_cases kind (Stores [] short true) [] h inside
begins_again h kind (p ∷ ps) short inside = walk_on Inside AsksAt ask_cases kind (Stores (p ∷ ps) short true) [] h inside

-- where a job goes on
inside_behind : (g : Going) (j : Job) (work : Work) (heard : List Heard) → AsksIn g.file.kept j work →
    Inside (place_behind g.file.kept work heard) g
inside_behind g j Creates heard asks = tt
inside_behind g j Fences heard asks = tt
inside_behind g j (Fetches [] short) heard asks = λ p i. absurd i
inside_behind g j (Fetches (p ∷ ps) short) heard asks = asks.1
inside_behind g j (Stores [] short q) heard asks = λ p i. absurd i
inside_behind g j (Stores (p ∷ ps) short true) heard asks = asks.1
inside_behind g j (Stores (p ∷ ps) short false) heard asks = λ x i. asks.1 x (inr i)
inside_behind g j (Targets t) heard asks = tt
inside_behind g j (Gathers t []) heard asks = tt
inside_behind g j (Gathers t (p ∷ ps)) heard asks = tt
inside_behind g j (Fills t []) heard asks = tt
inside_behind g j (Fills t (p ∷ ps)) heard asks = tt
inside_behind g j Lengths heard asks = tt
inside_behind g j (Checks [] tally) heard asks = tt
inside_behind g j (Checks (p ∷ ps) tally) heard asks = tt

inside_lost : (g : Going) (j : Job) (work : Work) → AsksIn g.file.kept j work → Inside (lost_place g.file.kept work) g
inside_lost g j Creates asks = tt
inside_lost g j Fences asks = tt
inside_lost g j (Fetches [] short) asks = λ p i. absurd i
inside_lost g j (Fetches (p ∷ ps) short) asks = asks.1
inside_lost g j (Stores [] short q) asks = λ p i. absurd i
inside_lost g j (Stores (p ∷ ps) short q) asks = asks.1
inside_lost g j (Targets t) asks = tt
inside_lost g j (Gathers t todo) asks = tt
inside_lost g j (Fills t todo) asks = tt
inside_lost g j Lengths asks = tt
inside_lost g j (Checks todo tally) asks = tt

module _ (h : Going) (j : Job) (rest : List Awaited) (gone : Bool) (among : Among rest j.awaited) where
  waits_broken : (work : Work) → j.work ≡ work → ((todo : List Piece) (short : List ℕ) → work ≡ Fetches todo short → ⊥) →
      AsksIn h.file.kept j work → (c : Awaited) (cs : List Awaited) → rest ≡ c ∷ cs →
      AsksAt (waits_on h j (broken work) c cs j.heard)
  waits_broken Creates is other asks c cs e = tt
  waits_broken Fences is other asks c cs e = tt
  waits_broken (Fetches todo short) is other asks c cs e = absurd (other todo short refl)
  waits_broken (Stores [] short b) is other asks c cs e = tt
  waits_broken (Stores (p ∷ ps) short b) is other asks c cs e =
      (subst AreSingle e (single_among j.awaited rest among asks.0), asks.1)
  waits_broken (Targets t) is other asks c cs e = tt
  waits_broken (Gathers t todo) is other asks c cs e = tt
  waits_broken (Fills t todo) is other asks c cs e = tt
  waits_broken Lengths is other asks c cs e = tt
  waits_broken (Checks todo t) is other asks c cs e = tt

  by_walk : ((todo : List Piece) (short : List ℕ) → j.work ≡ Fetches todo short → ⊥) → AsksIn h.file.kept j j.work →
      AsksAt h → AsksAt (loses h j j.work rest gone)
  by_walk other asks here =
      walk_loses Inside AsksAt ask_cases h j j.work rest gone refl (record {
        waits = waits_broken j.work refl other asks;
        stays = here;
        on = λ none. inside_lost h j j.work asks;
      })

  pub asks_loses : (work : Work) → j.work ≡ work → AsksIn h.file.kept j work → AsksAt h → AsksAt (loses h j work rest gone)
  unfolding loses goes_on
  asks_loses (Fetches [] short) is asks here = begins_again h j.kind [] short (λ p i. absurd i)
  asks_loses (Fetches (p ∷ ps) short) is asks here = begins_again h j.kind (p ∷ ps) short asks.1
  asks_loses work is asks here =
      subst (λ (y : Work). AsksAt (loses h j y rest gone)) is
      (by_walk (λ todo short e. cc (sym is ∙ e)) (subst (AsksIn h.file.kept j) (sym is) asks) here)

-- a repair that doesn't read loses a component, and no more is asked
not_read : (k l : Kept) (j : Job) (work : Work) → l.map ≡ k.map →
    ((p : Piece) (ps : List Piece) (short : List ℕ) → work ≡ Fetches (p ∷ ps) short → ⊥) → AsksIn k j work → AsksIn l j work
not_read k l j Creates map other asks = tt
not_read k l j Fences map other asks = tt
not_read k l j (Fetches [] short) map other asks = tt
not_read k l j (Fetches (p ∷ ps) short) map other asks = absurd (other p ps short refl)
not_read k l j (Stores [] short q) map other asks = tt
not_read k l j (Stores (p ∷ ps) short q) map other asks =
    (asks.0, subst (λ (m : RawMap). AreInside m (p ∷ ps)) (sym map) asks.1)
not_read k l j (Targets t) map other asks = tt
not_read k l j (Gathers t todo) map other asks = tt
not_read k l j (Fills t todo) map other asks = tt
not_read k l j Lengths map other asks = tt
not_read k l j (Checks todo t) map other asks = tt

-- where a component is lost, the job asks all that is present then
pub loses_it : (k : Kept) (h : Going) (j : Job) (rest : List Awaited) (gone : Bool) → Among rest j.awaited →
    h.file.job ≡ Some j → h.file.kept.map ≡ k.map → (work : Work) → j.work ≡ work → AsksIn k j work →
    AsksAt (loses h j work rest gone)
unfolding loses goes_on
loses_it k h j rest gone among runs map (Fetches [] short) is asks = begins_again h j.kind [] short (λ p i. absurd i)
loses_it k h j rest gone among runs map (Fetches (p ∷ ps) short) is asks =
    begins_again h j.kind (p ∷ ps) short (subst (λ (m : RawMap). AreInside m (p ∷ ps)) (sym map) asks.1)
loses_it k h j rest gone among runs map work is asks =
    asks_loses h j rest gone among work is (not_read k h.file.kept j work map (λ p ps short e. cc e) asks)
    (subst (AsksOf h.file.kept) (sym runs)
    (subst (AsksIn h.file.kept j) (sym is) (not_read k h.file.kept j work map (λ p ps short e. cc e) asks)))

-- ---- a reply

module _ (g : Going) (j : Job) (a : Awaited) (r : Reply) (runs : g.file.job ≡ Some j) (i : In a j.awaited)
    (alone : AreAlone j.awaited) where
  -- what is sent again goes where it went
  same_place : (y : Awaited) → In y j.awaited → (renewed a (again_in_2 a g.effects.nonce) y).component ≡ y.component
  same_place y k = elim (cases_eq y.command.nonce a.command.nonce) [
    | inl same ↦ rw (eq-eqb y.command.nonce a.command.nonce same) (ap (λ (z : Awaited). z.component) (alone a y i k (sym same)))
    | inr other ↦ rw (ne_eqb y.command.nonce a.command.nonce other) refl
  ]

  renews_single : AreSingle j.awaited → AreSingle (map (renewed a (again_in_2 a g.effects.nonce)) j.awaited)
  renews_single single x y k l e =
      let p = in_mapped (renewed a (again_in_2 a g.effects.nonce)) x j.awaited k in
      let q = in_mapped (renewed a (again_in_2 a g.effects.nonce)) y j.awaited l in
      let same : p.0 ≡ q.0 =
      single p.0 q.0 p.1 q.1 (sym (same_place p.0 p.1) ∙ ap (λ (z : Awaited). z.component) (sym p.2) ∙ e
      ∙ ap (λ (z : Awaited). z.component) q.2 ∙ same_place q.0 q.1) in
      p.2 ∙ ap (renewed a (again_in_2 a g.effects.nonce)) same ∙ sym q.2

  pub renews_read : (k : ℕ) → IsRead j k →
      IsRead (record j { awaited = map (renewed a (again_in_2 a g.effects.nonce)) j.awaited }) k
  renews_read k (inl heard) = inl heard
  renews_read k (inr w) =
      inr (
        renewed a (again_in_2 a g.effects.nonce) w.0,
        in_map (renewed a (again_in_2 a g.effects.nonce)) w.0 j.awaited w.1,
        same_place w.0 w.1 ∙ w.2,
      )

  renews_asks : (work : Work) → AsksIn g.file.kept j work →
      AsksIn (renews g j a).file.kept (record j { awaited = map (renewed a (again_in_2 a g.effects.nonce)) j.awaited }) work
  renews_asks Creates asks = tt
  renews_asks Fences asks = tt
  renews_asks (Fetches [] short) asks = tt
  renews_asks (Fetches (p ∷ ps) short) asks = (
    record {
      right = asks.0.right;
      each = λ k of. renews_read k (asks.0.each k
          (record { component = of.component; there = of.there; present = of.present; group = of.group }));
    },
    asks.1,
  )
  renews_asks (Stores [] short q) asks = tt
  renews_asks (Stores (p ∷ ps) short q) asks = (renews_single asks.0, asks.1)
  renews_asks (Targets t) asks = tt
  renews_asks (Gathers t todo) asks = tt
  renews_asks (Fills t todo) asks = tt
  renews_asks Lengths asks = tt
  renews_asks (Checks todo t) asks = tt

  fewer : Among (others j.awaited a.command.nonce) j.awaited
  fewer y k = (in_filtered _ y j.awaited k).0

  -- what isn't awaited any more was heard
  pub heard_read : (c : Awaited) (cs : List Awaited) → others j.awaited a.command.nonce ≡ c ∷ cs → (work : Work) → (k : ℕ) →
      IsRead j k → IsRead (record { kind = j.kind; work = work; awaited = c ∷ cs; heard = heard_with j a r }) k
  heard_read c cs e work k (inl heard) = inl (heard.0, in_front heard.0 j.heard _ heard.1, heard.2)
  heard_read c cs e work k (inr w) = elim (cases_eq w.0.command.nonce a.command.nonce) [
    | inl same ↦ inl (
      record { component = a.component; payload = r.payload },
      in_behind (record { component = a.component; payload = r.payload }) j.heard _ (inl refl),
      ap (λ (z : Awaited). z.component) (alone a w.0 i w.1 (sym same)) ∙ w.2,
    )
    | inr other ↦ inr (
      w.0,
      subst (In w.0) e (in_filter _ w.0 j.awaited w.1 (ap not (ne_eqb w.0.command.nonce a.command.nonce other))),
      w.2,
    )
  ]

  waits_asks : (work : Work) → AsksIn g.file.kept j work → (c : Awaited) (cs : List Awaited) →
      others j.awaited a.command.nonce ≡ c ∷ cs → AsksAt (waits_on g j work c cs (heard_with j a r))
  waits_asks Creates asks c cs e = tt
  waits_asks Fences asks c cs e = tt
  waits_asks (Fetches [] short) asks c cs e = tt
  waits_asks (Fetches (p ∷ ps) short) asks c cs e =
      (record { right = asks.0.right; each = λ k of. heard_read c cs e (Fetches (p ∷ ps) short) k (asks.0.each k of) }, asks.1)
  waits_asks (Stores [] short q) asks c cs e = tt
  waits_asks (Stores (p ∷ ps) short q) asks c cs e =
      (subst AreSingle e (single_among j.awaited (others j.awaited a.command.nonce) fewer asks.0), asks.1)
  waits_asks (Targets t) asks c cs e = tt
  waits_asks (Gathers t todo) asks c cs e = tt
  waits_asks (Fills t todo) asks c cs e = tt
  waits_asks Lengths asks c cs e = tt
  waits_asks (Checks todo t) asks c cs e = tt

  abbrev Lacks : Going
  Lacks = noting (with_components g (lose_from (a.component ∷ []) g.file.kept.components 0)) (NoSpace a.component)

  fills_asks : (work : Work) → j.work ≡ work → AsksIn g.file.kept j work → AsksAt (fills_up g j a work)
  fills_asks (Targets t) is asks = walk_full Inside AsksAt ask_cases t [] g tt
  fills_asks (Gathers t todo) is asks = walk_full Inside AsksAt ask_cases t todo g tt
  fills_asks (Fills t todo) is asks = walk_full Inside AsksAt ask_cases t todo g tt
  fills_asks work is asks =
      loses_it g.file.kept Lacks j (others j.awaited a.command.nonce) false fewer runs refl work is asks

  pub asks_hears : (x : Hearing) → AsksIn g.file.kept j j.work → AsksAt (hears g j a r x)
  asks_hears Older asks = renews_asks j.work asks
  asks_hears Full asks = fills_asks j.work refl asks
  asks_hears Done asks =
      walk_waits Inside AsksAt ask_cases g j j.work (others j.awaited a.command.nonce) (heard_with j a r)
      (waits_asks j.work asks) (λ none. inside_behind g j j.work (heard_with j a r) asks)
  asks_hears Nothing asks = subst (AsksOf g.file.kept) (sym runs) asks

-- ---- a fence, an opening, a declaration

pub asks_fence : (kind : JobKind) (format : ℕ) (g : Going) → AsksAt (fence_begins kind format g)
asks_fence kind format g = walk_fence Inside AsksAt ask_cases kind format g tt

pub asks_making : (g : Going) → AsksAt (making g)
asks_making g = walk_making Inside AsksAt ask_cases g tt

pick : (b : Bool) (x y : Going) → AsksAt x → AsksAt y → AsksAt (if b then x else y)
pick true x y p q = p
pick false x y p q = q

pub asks_declares : (drive : ℕ) (g : Going) → AsksAt g → AsksAt (declares g drive)
unfolding declares
asks_declares drive g asks =
    pick (any_on drive g.file.kept.components || targets g.file.job drive) (declared_in h drive g.file.job) g
    (by_job g.file.job refl asks) asks
  where
    h : Going
    h = with_components g (lose_on drive g.file.kept.components)

    by_job : (o : Option Job) → g.file.job ≡ o → AsksOf g.file.kept o →
        AsksAt (declared_in (with_components g (lose_on drive g.file.kept.components)) drive o)
    by_job None is k = subst (AsksOf _) (sym is) tt
    by_job (Some j) is k =
        loses_it g.file.kept (with_components g (lose_on drive g.file.kept.components)) j (others_than drive j.awaited)
        (is_target j.work drive) (λ a i. (in_filtered _ a j.awaited i).0) is refl j.work refl k

pub asks_opens : (format : ℕ) (g : Going) → AsksAt g → AsksAt (opens format g)
unfolding opens opens_fenced
asks_opens format g asks =
    pick (is_unsettled g.file.kept) _ _
    (pick (g.file.kept.tag == GREATEST_TAG) _ _ asks (asks_fence Revoking format g)) (by_ready g.file.kept.ready)
  where
    by_ready : (b : Bool) → AsksAt (opens_made g b)
    by_ready true = tt
    by_ready false = walk_making Inside AsksAt ask_cases g tt
