-- What an audit has found so far, over each function of jobs: no bad stripe, where each piece that it looks at is as it should
-- be; and which rows it has heard or awaits.
-- Towards `AuditsFindNone` (`file_simulation/specs/Claim.antt`).
use Rattle.std.proofs.Common.{◌≡◌, ◌==◌, ◌||◌, ◌++◌, ℕ, zero, suc, ◌+◌, ◌-◌, ◌/◌, ◌≤◌, min, Bool, true, false, not, length, map, filter, List, [], ◌∷◌, slice_get, Option, Some, None, refl, sym, ap, subst, ◌∙◌, inl, inr, arith, if◌then◌else◌}
use Rattle.data_map.specs.declared.check.RawMap.{RawMap}
use Rattle.data_map.specs.Striping.{group_of, offset_of}
use Rattle.server_rules.specs.declared.limits.TheConstants.{GREATEST_TAG, MAX_PIECE}
use Rattle.server_rules.specs.Audit.{audits, audit_begins, checked, tallied}
use Rattle.server_rules.specs.Commands.{Reading, Measuring, Raising, All, OfGroup, again_in_2, to_all}
use Rattle.server_rules.specs.Going.{Going, keeping, noting, noting_if, with_components, rests_or}
use Rattle.server_rules.specs.Grants.{merged}
use Rattle.server_rules.specs.Jobs.{making, ending, fenced, fence_begins, goes_on, waits_or_on, loses, declares, declared_in, is_target, others_than, targets}
use Rattle.server_rules.specs.Laws.{In}
use Rattle.server_rules.specs.Maps.{group_with, pieces_from, pieces_of, pieces, pieces_along, pieces_in}
use Rattle.server_rules.specs.Numbers.{among}
use Rattle.server_rules.specs.Openings.{is_unsettled, opens_made, opens_fenced, opens}
use Rattle.server_rules.specs.Pieces.{reads, stores, short_with}
use Rattle.server_rules.specs.Rebuild.{rebuilds, group_for}
use Rattle.server_rules.specs.Repair.{after_repair, mended, repair_reads, repairs, storing, repair_begins}
use Rattle.server_rules.specs.Replies.{Hearing, Older, Full, Done, Nothing, others, renewed, renews, fills_up, heard_with, hears}
use Rattle.server_rules.specs.Standing.{lose_on, lose_from, any_on}
use Rattle.server_rules.proofs.Members.{in_either}
use Rattle.history_law.specs.Names.{Kept, Component, Awaited, Heard, Piece, Tally, Job, JobKind, Making, Revoking, Rebuilding, Auditing, Work, Creates, Fences, Fetches, Stores, Targets, Gathers, Fills, Lengths, Checks, Audit, Note, NoteKind, NoSpace, NoDrive, Reply}
use Rattle.relation_law.proofs.Walk.{Place, AtStart, AtRebuild, AtFill, AtSources, Asks, Makes, Raises, Reads, Writes, Aims, Sources, Filled, Measures, Checks_, JobCases, raised, walk_rebuilds, walk_fills, walk_gone, walk_full, walk_making, walk_on}
use Rattle.headline_law.specs.OweAsking.{IsOfPiece, IsRead}
use Rattle.headline_law.proofs.OweAsked.{AreAlone, meant_in, meant_group, renews_read, heard_read}

-- ---- what was found

-- each audit of which these notes tell found no bad stripe
abbrev pub NoneFound : List Note → Type 0
NoneFound ns =
    (m high short bad bytes : ℕ) → In (record { file = m; kind = Audit high short bad bytes }) ns → bad ≡ 0

-- the row of each present component of the piece was heard, or is awaited
abbrev pub ReadsEach : Kept → Job → Piece → Type 0
ReadsEach f j p = (k : ℕ) → IsOfPiece f p k → IsRead j k

abbrev pub ReadsFirst : Kept → Job → List Piece → Type 0
ReadsFirst f j [] = Unit {0}
ReadsFirst f j (p ∷ ps) = ReadsEach f j p

-- these pieces end with their units
abbrev pub AreCut : RawMap → List Piece → Type 0
AreCut m ps = (p : Piece) → In p ps → p.count ≤ m.unit - p.column

-- an audit has found no bad stripe so far, and reads all of its first piece
pub record HasFoundNone (f : Kept) (j : Job) (todo : List Piece) (t : Tally) : Type 0 where
  pub bad : t.bad ≡ []
  pub cut : AreCut f.map todo
  pub reads : ReadsFirst f j todo

abbrev pub FindsNone : Kept → Job → Work → Type 0
FindsNone f j (Checks todo t) = HasFoundNone f j todo t
FindsNone f j work = Unit {0}

-- by the job, if one runs
abbrev pub FindsNoneOf : Kept → Option Job → Type 0
FindsNoneOf f None = Unit {0}
FindsNoneOf f (Some j) = FindsNone f j j.work

-- where the file is, and what the step noted so far
abbrev pub IsClean : Going → Type 0
IsClean g = FindsNoneOf g.file.kept g.file.job × NoneFound g.effects.notes

-- the piece that was read is as it should be
abbrev pub Clears : Kept → Work → List Heard → Type 0
Clears f (Checks [] t) heard = t.bad ≡ []
Clears f (Checks (p ∷ ps) t) heard = ((checked f p heard t).bad ≡ []) × AreCut f.map ps
Clears f work heard = Unit {0}

-- ---- notes

abbrev pub IsQuietNote : NoteKind → Type 0
IsQuietNote kind = (high short bad bytes : ℕ) → Audit high short bad bytes ≡ kind → bad ≡ 0

pub none_more : (ns : List Note) (m : ℕ) (kind : NoteKind) → IsQuietNote kind → NoneFound ns →
    NoneFound (ns ++ (record { file = m; kind = kind } ∷ []))
none_more ns m kind quiet none n high short bad bytes i =
    elim (in_either (record { file = n; kind = Audit high short bad bytes }) ns (record { file = m; kind = kind } ∷ []) i) [
      | inl old ↦ none n high short bad bytes old
      | inr (inl e) ↦ quiet high short bad bytes (ap (λ (x : Note). x.kind) e)
      | inr (inr z) ↦ absurd z
    ]

pub none_if : (b : Bool) (g : Going) (kind : NoteKind) → IsQuietNote kind → NoneFound g.effects.notes →
    NoneFound (noting_if b g kind).effects.notes
none_if true g kind quiet none = none_more g.effects.notes g.file.kept.number kind quiet none
none_if false g kind quiet none = none

-- ---- small facts

-- what is kept but for map and components doesn't matter
same_piece : (k l : Kept) (p : Piece) (n : ℕ) → l.map ≡ k.map → l.components ≡ k.components → IsOfPiece l p n →
    IsOfPiece k p n
same_piece k l p n map_ components of = record {
  component = of.component;
  there = ap (λ (cs : List Component). slice_get cs n) (sym components) ∙ of.there;
  present = of.present;
  group = ap (λ (m : RawMap). group_with m n) (sym map_) ∙ of.group ∙ ap (λ (m : RawMap). group_of m p.stripe) map_;
}

same_finds : (k l : Kept) (j : Job) (work : Work) → l.map ≡ k.map → l.components ≡ k.components → FindsNone k j work →
    FindsNone l j work
same_finds k l j Creates m c finds = tt
same_finds k l j Fences m c finds = tt
same_finds k l j (Fetches todo short) m c finds = tt
same_finds k l j (Stores todo short b) m c finds = tt
same_finds k l j (Targets t) m c finds = tt
same_finds k l j (Gathers t todo) m c finds = tt
same_finds k l j (Fills t todo) m c finds = tt
same_finds k l j Lengths m c finds = tt
same_finds k l j (Checks todo t) m c finds = record {
  bad = finds.bad;
  cut = λ q i. subst (λ (x : RawMap). q.count ≤ x.unit - q.column) (sym m) (finds.cut q i);
  reads = by_todo todo finds.reads;
}
  where
    by_todo : (ps : List Piece) → ReadsFirst k j ps → ReadsFirst l j ps
    by_todo [] reads = tt
    by_todo (p ∷ ps) reads = λ n of. reads n (same_piece k l p n m c of)

pub same_found : (k l : Kept) (o : Option Job) → l.map ≡ k.map → l.components ≡ k.components → FindsNoneOf k o →
    FindsNoneOf l o
same_found k l None m c finds = tt
same_found k l (Some j) m c finds = same_finds k l j j.work m c finds

so_far : (k : Kept) (j : Job) (todo : List Piece) (t : Tally) → FindsNone k j (Checks todo t) →
    (t.bad ≡ []) × AreCut k.map todo
so_far k j todo t finds = (finds.bad, finds.cut)

-- ---- pieces

from_cut : (unit stripe column n : ℕ) (p : Piece) → In p (pieces_from unit stripe column n) → p.count ≤ unit - p.column
unfolding pieces_from
from_cut unit stripe column zero p i = absurd i
from_cut unit stripe column (suc n) p (inl same) = rw same (low MAX_PIECE (unit - column))
  where
    low : (a b : ℕ) → min a b ≤ b
    low a b = grind (arith)
from_cut unit stripe column (suc n) p (inr i) = from_cut unit stripe (column + MAX_PIECE) n p i

along_cut : (m : RawMap) (stripe n : ℕ) → AreCut m (pieces_along m.unit stripe n)
unfolding pieces_along
along_cut m stripe zero p i = absurd i
along_cut m stripe (suc n) p i = elim (in_either p (pieces_of m.unit stripe) (pieces_along m.unit (stripe + 1) n) i) [
  | inl here ↦ from_cut m.unit stripe 0 ((m.unit + (MAX_PIECE - 1)) / MAX_PIECE) p here
  | inr later ↦ along_cut m (stripe + 1) n p later
]

-- ---- an audit

reads_each : (f : Kept) (kind : JobKind) (work : Work) (p : Piece) (nonce : ℕ) (ws : List Awaited) → ws ≡ reads f p nonce →
    ReadsEach f (record { kind = kind; work = work; awaited = ws; heard = [] }) p
reads_each f kind work p nonce ws is k of =
    let r = meant_in f (OfGroup (group_of f.map p.stripe)) (Reading (offset_of f.map p.stripe p.column) p.count)
    f.components 0 nonce k of.component of.there of.present
    (meant_group f (group_of f.map p.stripe) (0 + k) (ap (group_with f.map) (omega arith) ∙ of.group)) in
    inr (r.0, subst (In r.0) (sym is) r.1, r.2 ∙ omega arith)

clean_audits : (ps : List Piece) (t : Tally) (g : Going) → t.bad ≡ [] → AreCut g.file.kept.map ps → NoneFound g.effects.notes →
    IsClean (audits g ps t)
unfolding audits
clean_audits [] t g empty cut none = (
  tt,
  none_more g.effects.notes g.file.kept.number _
      (λ high short bad bytes e. count high short bad bytes _ _ _ _ e
      ∙ ap (λ (xs : List ℕ). length (filter (λ (x : ℕ). not (among x t.short)) xs)) empty) none,
)
  where
    count : (a b c d e f g h : ℕ) → Audit a b c d ≡ Audit e f g h → c ≡ g
    count a b c d e f g h same = cc same
clean_audits (p ∷ ps) t g empty cut none =
    by_reads (clean_audits ps (tallied g.file.kept p t) g empty (λ q i. cut q (inr i)) none)
    (reads g.file.kept p g.effects.nonce) refl
  where
    by_reads : IsClean (audits g ps (tallied g.file.kept p t)) → (ws : List Awaited) → ws ≡ reads g.file.kept p g.effects.nonce →
        IsClean (rests_or ws g Auditing (Checks (p ∷ ps) (tallied g.file.kept p t)) (audits g ps (tallied g.file.kept p t)))
    by_reads on [] is = on
    by_reads on (c ∷ cs) is = (
      record {
        bad = empty;
        cut = cut;
        reads = reads_each g.file.kept Auditing (Checks (p ∷ ps) (tallied g.file.kept p t)) p g.effects.nonce (c ∷ cs) is;
      },
      none,
    )

-- it rests without reading rows, or what comes is clean
rests_clean : (ws : List Awaited) (g : Going) (kind : JobKind) (work : Work) (later : Going) →
    ((j : Job) → FindsNone g.file.kept j work) → NoneFound g.effects.notes → IsClean later →
    IsClean (rests_or ws g kind work later)
rests_clean [] g kind work later free none on = on
rests_clean (c ∷ cs) g kind work later free none on =
    (free (record { kind = kind; work = work; awaited = c ∷ cs; heard = [] }), none)

clean_audit : (g : Going) → NoneFound g.effects.notes → IsClean (audit_begins g)
unfolding audit_begins
clean_audit g none =
    rests_clean (to_all g.file.kept All Measuring g.effects.nonce) g Auditing Lengths _ (λ j. tt) none
    (clean_audits (pieces_along g.file.kept.map.unit 0 g.file.kept.high) _ g refl
    (along_cut g.file.kept.map 0 g.file.kept.high) none)

-- ---- what makes files and components

-- nothing of an audit is there
abbrev IsApart : Place → Type 0
IsApart AtStart = Unit {0}
IsApart (AtRebuild k) = Unit {0}
IsApart (AtFill t todo) = Unit {0}
IsApart (AtSources t p ps heard) = Unit {0}
IsApart place = ⊥

abbrev Apart : Place → Going → Type 0
Apart place g = IsApart place × NoneFound g.effects.notes

apart_asks : (g : Going) (place : Place) (work : Work) (ws : List Awaited) (j : Job) → IsApart place → Asks g place work ws →
    FindsNone g.file.kept j work
apart_asks g place work ws j apart Makes = tt
apart_asks g place work ws j apart Raises = tt
apart_asks g place work ws j apart (Reads p ps short) = tt
apart_asks g place work ws j apart (Writes p ps heard short) = tt
apart_asks g place work ws j apart (Aims t) = tt
apart_asks g place work ws j apart (Sources t p ps) = tt
apart_asks g place work ws j apart (Filled t p ps heard bytes is more) = tt
apart_asks g place work ws j apart Measures = tt
apart_asks g place work ws j apart (Checks_ p ps tally) = absurd apart

more : (g : Going) (kind : NoteKind) → IsQuietNote kind → NoneFound g.effects.notes →
    NoneFound (g.effects.notes ++ (record { file = g.file.kept.number; kind = kind } ∷ []))
more g kind quiet none = none_more g.effects.notes g.file.kept.number kind quiet none

apart_cases : JobCases Apart IsClean
apart_cases = record {
  asks = λ place work c cs kind g q a. (
    apart_asks g place work (c ∷ cs) (record { kind = kind; work = work; awaited = c ∷ cs; heard = [] }) q.0 a,
    q.1,
  );
  aims = λ t g q is. (tt, q.1);
  readied = λ g q. (tt, more g _ (λ a b c d e. absurd (cc e)) q.1);
  rests_behind = λ g q. absurd q.0;
  built = λ k g q. (tt, q.1);
  counted = λ t g q. absurd q.0;
  raises = λ g q. absurd q.0;
  skips = λ p ps g q e. absurd q.0;
  unchanged = λ p ps heard g q e. absurd q.0;
  repaired = λ short g q. absurd q.0;
  begins = λ g q. absurd q.0;
  passes = λ b k g q. (tt, none_if b g (NoDrive k) (λ a b c d e. absurd (cc e)) q.1);
  builds = λ t g q. (tt, more g _ (λ a b c d e. absurd (cc e)) q.1);
  loses_it = λ t p ps lacked g q e. (tt, more g _ (λ a b c d e. absurd (cc e)) q.1);
  gone = λ t todo g q. (tt, more g _ (λ a b c d e. absurd (cc e)) q.1);
  full = λ t todo g q. (tt, more g _ (λ a b c d e. absurd (cc e)) q.1);
  zeros = λ t p ps heard g q e. (tt, q.1);
  lengths = λ g q. absurd q.0;
  counts = λ p ps g q. absurd q.0;
}

pub clean_making : (g : Going) → NoneFound g.effects.notes → IsClean (making g)
clean_making g none = walk_making Apart IsClean apart_cases g (tt, none)

-- ---- repair, and the fence

clean_rebuild : (g : Going) → NoneFound g.effects.notes → IsClean (rebuilds g g.file.kept.components 0)
clean_rebuild g none = walk_rebuilds Apart IsClean apart_cases g.file.kept.components 0 g (tt, none)

clean_behind : (kind : JobKind) (g : Going) → NoneFound g.effects.notes → IsClean (after_repair kind g)
clean_behind Making g none = (tt, none)
clean_behind Revoking g none = (tt, none)
clean_behind Rebuilding g none = clean_rebuild g none
clean_behind Auditing g none = clean_audit g none

clean_repairs : (kind : JobKind) (ps : List Piece) (short : List ℕ) (g : Going) → NoneFound g.effects.notes →
    IsClean (repairs kind g ps short)
unfolding repairs
clean_repairs kind [] short g none =
    clean_behind kind (mended g short) (more g _ (λ a b c d e. absurd (cc e)) none)
clean_repairs kind (p ∷ ps) short g none =
    rests_clean (repair_reads g.file.kept p g.effects.nonce) g kind _ _ (λ j. tt) none
    (clean_repairs kind ps (short_with g.file.kept p short) g none)

clean_storing : (kind : JobKind) (p : Piece) (ps : List Piece) (short : List ℕ) (heard : List Heard) (g : Going) →
    NoneFound g.effects.notes → IsClean (storing kind g p ps short heard)
unfolding storing
clean_storing kind p ps short heard g none =
    rests_clean (stores g.file.kept p heard g.effects.nonce) g kind _ _ (λ j. tt) none (clean_repairs kind ps short g none)

clean_fenced : (kind : JobKind) (g : Going) → NoneFound g.effects.notes → IsClean (fenced kind g)
unfolding fenced repair_begins
clean_fenced kind g none =
    clean_repairs kind (pieces g.file.kept.map.unit (merged g.file.kept.ended)) [] (raised g)
    (more g _ (λ a b c d e. absurd (cc e)) none)

pub clean_fence : (kind : JobKind) (format : ℕ) (g : Going) → NoneFound g.effects.notes → IsClean (fence_begins kind format g)
unfolding fence_begins
clean_fence kind format g none =
    let h : Going = keeping g (ending g.file.kept format) in
    rests_clean (to_all h.file.kept All Raising h.effects.nonce) h kind Fences _ (λ j. tt) none (clean_fenced kind h none)

-- ---- a job goes on

clean_on : (kind : JobKind) (work : Work) (heard : List Heard) (g : Going) → Clears g.file.kept work heard →
    NoneFound g.effects.notes → IsClean (goes_on kind work heard g)
unfolding goes_on
clean_on kind Creates heard g clear none = (tt, more g _ (λ a b c d e. absurd (cc e)) none)
clean_on kind Fences heard g clear none = clean_fenced kind g none
clean_on kind (Fetches [] short) heard g clear none = clean_repairs kind [] short g none
clean_on kind (Fetches (p ∷ ps) short) heard g clear none = clean_storing kind p ps short heard g none
clean_on kind (Stores [] short b) heard g clear none = clean_repairs kind [] short g none
clean_on kind (Stores (p ∷ ps) short true) heard g clear none = clean_repairs kind (p ∷ ps) short g none
clean_on kind (Stores (p ∷ ps) short false) heard g clear none = clean_repairs kind ps short g none
clean_on kind (Targets t) heard g clear none =
    walk_fills Apart IsClean apart_cases t (pieces_in g.file.kept.map (group_for g.file.kept t) g.file.kept.high) g (tt, none)
clean_on kind (Gathers t []) heard g clear none = walk_fills Apart IsClean apart_cases t [] g (tt, none)
clean_on kind (Gathers t (p ∷ ps)) heard g clear none =
    walk_on Apart IsClean apart_cases kind (Gathers t (p ∷ ps)) heard g (tt, none)
clean_on kind (Fills t []) heard g clear none = walk_fills Apart IsClean apart_cases t [] g (tt, none)
clean_on kind (Fills t (p ∷ ps)) heard g clear none = walk_fills Apart IsClean apart_cases t ps g (tt, none)
clean_on kind Lengths heard g clear none =
    clean_audits (pieces_along g.file.kept.map.unit 0 g.file.kept.high) _ g refl
    (along_cut g.file.kept.map 0 g.file.kept.high) none
clean_on kind (Checks [] t) heard g clear none = clean_audits [] t g clear (λ q i. absurd i) none
clean_on kind (Checks (p ∷ ps) t) heard g clear none =
    clean_audits ps (checked g.file.kept p heard t) g clear.0 clear.1 none

-- it waits for the rest, or goes on
clean_waits : (g : Going) (j : Job) (work : Work) (rest : List Awaited) (heard : List Heard) →
    ((c : Awaited) (cs : List Awaited) → rest ≡ c ∷ cs →
    FindsNone g.file.kept (record { kind = j.kind; work = work; awaited = c ∷ cs; heard = heard }) work) →
    (rest ≡ [] → Clears g.file.kept work heard) → NoneFound g.effects.notes → IsClean (waits_or_on g j work rest heard)
clean_waits g j work [] heard waits on none = clean_on j.kind work heard g (on refl) none
clean_waits g j work (c ∷ cs) heard waits on none = (waits c cs refl, none)

-- a component is lost; an audit begins its piece again
clean_loses : (g : Going) (j : Job) (work : Work) (rest : List Awaited) (gone : Bool) → j.work ≡ work → g.file.job ≡ Some j →
    ((todo : List Piece) (t : Tally) → work ≡ Checks todo t → (t.bad ≡ []) × AreCut g.file.kept.map todo) →
    NoneFound g.effects.notes →
    IsClean (loses g j work rest gone)
unfolding loses
clean_loses g j Creates rest gone is runs empty none =
    clean_waits g j Creates rest j.heard (λ c cs e. tt) (λ e. tt) none
clean_loses g j Fences rest gone is runs empty none = clean_waits g j Fences rest j.heard (λ c cs e. tt) (λ e. tt) none
clean_loses g j (Fetches todo short) rest gone is runs empty none = clean_repairs j.kind todo short g none
clean_loses g j (Stores todo short b) rest gone is runs empty none =
    clean_waits g j (Stores todo short true) rest j.heard (λ c cs e. tt) (λ e. tt) none
clean_loses g j (Targets t) rest true is runs empty none = walk_gone Apart IsClean apart_cases t [] g (tt, none)
clean_loses g j (Targets t) rest false is runs empty none =
    (subst (FindsNoneOf g.file.kept) (sym runs) (subst (FindsNone g.file.kept j) (sym is) tt), none)
clean_loses g j (Gathers t todo) rest true is runs empty none = walk_gone Apart IsClean apart_cases t todo g (tt, none)
clean_loses g j (Gathers t todo) rest false is runs empty none = walk_fills Apart IsClean apart_cases t todo g (tt, none)
clean_loses g j (Fills t todo) rest true is runs empty none = walk_gone Apart IsClean apart_cases t todo g (tt, none)
clean_loses g j (Fills t todo) rest false is runs empty none = walk_fills Apart IsClean apart_cases t todo g (tt, none)
clean_loses g j Lengths rest gone is runs empty none = clean_waits g j Lengths rest j.heard (λ c cs e. tt) (λ e. tt) none
clean_loses g j (Checks todo t) rest gone is runs empty none =
    clean_audits todo t g (empty todo t refl).0 (empty todo t refl).1 none

-- ---- a reply

module _ (g : Going) (j : Job) (a : Awaited) (r : Reply) (runs : g.file.job ≡ Some j) (i : In a j.awaited)
    (alone : AreAlone j.awaited) (finds : FindsNone g.file.kept j j.work) (none : NoneFound g.effects.notes) where
  empty : (work : Work) → j.work ≡ work → (todo : List Piece) (t : Tally) → work ≡ Checks todo t →
      (t.bad ≡ []) × AreCut g.file.kept.map todo
  empty work is todo t e = so_far g.file.kept j todo t (subst (FindsNone g.file.kept j) (is ∙ e) finds)

  renews_finds : (work : Work) → FindsNone g.file.kept j work →
      FindsNone (renews g j a).file.kept (record j { awaited = map (renewed a (again_in_2 a g.effects.nonce)) j.awaited }) work
  renews_finds Creates f = tt
  renews_finds Fences f = tt
  renews_finds (Fetches todo short) f = tt
  renews_finds (Stores todo short b) f = tt
  renews_finds (Targets t) f = tt
  renews_finds (Gathers t todo) f = tt
  renews_finds (Fills t todo) f = tt
  renews_finds Lengths f = tt
  renews_finds (Checks [] t) f = record { bad = f.bad; cut = f.cut; reads = tt }
  renews_finds (Checks (p ∷ ps) t) f = record {
    bad = f.bad;
    cut = f.cut;
    reads = λ k of. renews_read g j a r runs i alone k (f.reads k
        (record { component = of.component; there = of.there; present = of.present; group = of.group }));
  }

  waits_finds : (work : Work) → FindsNone g.file.kept j work → (c : Awaited) (cs : List Awaited) →
      others j.awaited a.command.nonce ≡ c ∷ cs →
      FindsNone g.file.kept (record { kind = j.kind; work = work; awaited = c ∷ cs; heard = heard_with j a r }) work
  waits_finds Creates f c cs e = tt
  waits_finds Fences f c cs e = tt
  waits_finds (Fetches todo short) f c cs e = tt
  waits_finds (Stores todo short b) f c cs e = tt
  waits_finds (Targets t) f c cs e = tt
  waits_finds (Gathers t todo) f c cs e = tt
  waits_finds (Fills t todo) f c cs e = tt
  waits_finds Lengths f c cs e = tt
  waits_finds (Checks [] t) f c cs e = record { bad = f.bad; cut = f.cut; reads = tt }
  waits_finds (Checks (p ∷ ps) t) f c cs e = record {
    bad = f.bad;
    cut = f.cut;
    reads = λ k of. heard_read g j a r runs i alone c cs e (Checks (p ∷ ps) t) k (f.reads k of);
  }

  abbrev Lacks : Going
  Lacks = noting (with_components g (lose_from (a.component ∷ []) g.file.kept.components 0)) (NoSpace a.component)

  lacks : (work : Work) → j.work ≡ work → IsClean (loses Lacks j work (others j.awaited a.command.nonce) false)
  lacks work is =
      clean_loses Lacks j work (others j.awaited a.command.nonce) false is runs (empty work is)
      (more g _ (λ x y z u e. absurd (cc e)) none)

  full_clean : (work : Work) → j.work ≡ work → IsClean (fills_up g j a work)
  full_clean Creates is = lacks Creates is
  full_clean Fences is = lacks Fences is
  full_clean (Fetches todo short) is = lacks (Fetches todo short) is
  full_clean (Stores todo short b) is = lacks (Stores todo short b) is
  full_clean (Targets t) is = walk_full Apart IsClean apart_cases t [] g (tt, none)
  full_clean (Gathers t todo) is = walk_full Apart IsClean apart_cases t todo g (tt, none)
  full_clean (Fills t todo) is = walk_full Apart IsClean apart_cases t todo g (tt, none)
  full_clean Lengths is = lacks Lengths is
  full_clean (Checks todo t) is = lacks (Checks todo t) is

  -- where the last reply to a piece's READs has it as it should be, what comes is clean
  pub clean_hears : (x : Hearing) → (x ≡ Done → others j.awaited a.command.nonce ≡ [] →
      Clears g.file.kept j.work (heard_with j a r)) → IsClean (hears g j a r x)
  clean_hears Older clear = (renews_finds j.work finds, none)
  clean_hears Full clear = full_clean j.work refl
  clean_hears Done clear =
      clean_waits g j j.work (others j.awaited a.command.nonce) (heard_with j a r) (waits_finds j.work finds) (clear refl) none
  clean_hears Nothing clear = (subst (FindsNoneOf g.file.kept) (sym runs) finds, none)

-- ---- a declaration, an opening

pick : (b : Bool) (x y : Going) → IsClean x → IsClean y → IsClean (if b then x else y)
pick true x y p q = p
pick false x y p q = q

pub clean_declares : (drive : ℕ) (g : Going) → IsClean g → IsClean (declares g drive)
unfolding declares
clean_declares drive g clean =
    pick (any_on drive g.file.kept.components || targets g.file.job drive) (declared_in h drive g.file.job) g
    (by_job g.file.job refl clean.0) clean
  where
    h : Going
    h = with_components g (lose_on drive g.file.kept.components)

    by_job : (o : Option Job) → g.file.job ≡ o → FindsNoneOf g.file.kept o →
        IsClean (declared_in (with_components g (lose_on drive g.file.kept.components)) drive o)
    by_job None is finds = (subst (FindsNoneOf _) (sym is) tt, clean.1)
    by_job (Some j) is finds =
        clean_loses (with_components g (lose_on drive g.file.kept.components)) j j.work (others_than drive j.awaited)
        (is_target j.work drive) refl is
        (λ todo t e. so_far g.file.kept j todo t (subst (FindsNone g.file.kept j) e finds)) clean.1

pub clean_opens : (format : ℕ) (g : Going) → IsClean g → IsClean (opens format g)
unfolding opens opens_fenced
clean_opens format g clean =
    pick (is_unsettled g.file.kept) _ _
    (pick (g.file.kept.tag == GREATEST_TAG) _ _ (clean.0, more g _ (λ a b c d e. absurd (cc e)) clean.1)
    (clean_fence Revoking format g clean.1)) (by_ready g.file.kept.ready)
  where
    by_ready : (b : Bool) → IsClean (opens_made g b)
    by_ready true = (tt, clean.1)
    by_ready false = clean_making g clean.1
