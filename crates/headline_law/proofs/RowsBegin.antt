-- A job that begins a piece anew: it has heard nothing, and awaits new commands of present components.
-- Towards `RowsFollow` (`specs/Parts.antt`).
use Rattle.std.proofs.Common.{◌≡◌, ◌&&◌, ℕ, suc, ◌+◌, ◌≤◌, Bool, true, false, not, List, [], ◌∷◌, slice_get, Option, Some, None, refl, sym, ap, subst, ◌∙◌, inl, inr, arith, if◌then◌else◌}
use Rattle.std.proofs.lemmas.Option.{same_Some}
use Rattle.server_rules.specs.Audit.{audited}
use Rattle.server_rules.specs.Commands.{Ask, Which, is_meant, sent_to, to_each}
use Rattle.server_rules.specs.Going.{Going, over}
use Rattle.server_rules.specs.Jobs.{is_made}
use Rattle.server_rules.specs.Laws.{In}
use Rattle.server_rules.specs.Rebuild.{sources_by, sources, group_for}
use Rattle.server_rules.specs.Repair.{is_left, repair_reads}
use Rattle.server_rules.specs.Standing.{is_beyond}
use Rattle.history_law.specs.Names.{File, Kept, Component, Awaited, Piece, Target, Job, Work, Fetches, Gathers, Checks}
use Rattle.history_law.proofs.Quiet.{nonce_of}
use Rattle.relation_law.proofs.Walk.{Place, Asks, Makes, Raises, Reads, Writes, Aims, Sources, Filled, Measures, Checks_, JobCases}

-- ---- what is so of such a job

-- the work reads the rows of its first piece
abbrev pub is_reading : Work → Bool
is_reading (Fetches todo short) = true
is_reading (Gathers t todo) = true
is_reading (Checks todo tally) = true
is_reading work = false

-- component k of these is present, if it is there
abbrev pub IsPresent : List Component → (k : ℕ) → Type 0
IsPresent cs k = (at : Component) → slice_get cs k ≡ Some at → at.missing ≡ false

-- each of these commands goes to a present component
abbrev pub ArePresent : List Component → List Awaited → Type 0
ArePresent cs ws = (a : Awaited) → In a ws → IsPresent cs a.component

-- The job has heard nothing. What it awaits has nonces from this one on, and goes to present components.
pub record IsNewJob (least : ℕ) (k : Kept) (j : Job) : Type 0 where
  pub silent : j.heard ≡ []
  pub above : (a : Awaited) → In a j.awaited → least ≤ a.command.nonce
  pub present : ArePresent k.components j.awaited

-- so is a file's job, if it reads
abbrev pub BeginsAnew : (least : ℕ) → File → Type 0
BeginsAnew n f = (j : Job) → f.job ≡ Some j → is_reading j.work ≡ true → IsNewJob n f.kept j

-- ---- what is asked

-- a command with a nonce from this one on, to a present component
abbrev pub IsNew : List Component → (least : ℕ) → Awaited → Type 0
IsNew cs n a = (n ≤ a.command.nonce) × IsPresent cs a.component

abbrev AreNew : List Component → (least : ℕ) → List Awaited → Type 0
AreNew cs n ws = (a : Awaited) → In a ws → IsNew cs n a

new_or : (all : List Component) (n m : ℕ) (b : Bool) (x : Awaited) (ws bs : List Awaited) → n ≤ m →
    (b ≡ true → IsNew all n x) → AreNew all m ws → AreNew all n bs → AreNew all n (if b then x ∷ ws else bs)
new_or all n m true x ws bs low own more less a (inl e) = subst (IsNew all n) (sym e) (own refl)
new_or all n m true x ws bs low own more less a (inr i) = let r = more a i in (omega (arith, low, r.0), r.1)
new_or all n m false x ws bs low own more less a i = less a i

-- these components stand in the list from number k on
abbrev StandFrom : (all : List Component) → List Component → (k : ℕ) → Type 0
StandFrom all cs k = (i j : ℕ) (at : Component) → j ≡ k + i → slice_get cs i ≡ Some at → slice_get all j ≡ Some at

stand_next : (all : List Component) (x : Component) (cs : List Component) (k : ℕ) → StandFrom all (x ∷ cs) k →
    StandFrom all cs (k + 1)
stand_next all x cs k s i j at is there = s (suc i) j at (omega (arith, is)) there

present_first : (all : List Component) (x : Component) (cs : List Component) (k : ℕ) → StandFrom all (x ∷ cs) k →
    x.missing ≡ false → IsPresent all k
present_first all x cs k s present at there =
    let here : slice_get all k ≡ Some x = s 0 k x (omega arith) refl in
    ap (λ (y : Component). y.missing) (same_Some at x (sym there ∙ here)) ∙ present

not_missing : (b c : Bool) → (not b && c) ≡ true → b ≡ false
not_missing false c e = refl
not_missing true c e = absurd (cc e)

each_new : (all : List Component) (f : Kept) (which : Which) (ask : Ask) (cs : List Component) (k nonce : ℕ) →
    StandFrom all cs k → AreNew all nonce (to_each f which ask cs k nonce)
unfolding to_each
each_new all f which ask [] k nonce s = λ a i. absurd i
each_new all f which ask (x ∷ cs) k nonce s =
    let next : StandFrom all cs (k + 1) = stand_next all x cs k s in
    new_or all nonce (nonce + 1) (not x.missing && is_meant f which k) (sent_to f ask k x.drive x.object nonce) _ _
    (omega arith)
    (λ e. (
      let is = nonce_of f ask k x.drive x.object nonce in omega (arith, is),
      present_first all x cs k s (not_missing x.missing (is_meant f which k) e),
    ))
    (each_new all f which ask cs (k + 1) (nonce + 1) next) (each_new all f which ask cs (k + 1) nonce next)

all_new : (f : Kept) (which : Which) (ask : Ask) (nonce : ℕ) →
    AreNew f.components nonce (to_each f which ask f.components 0 nonce)
all_new f which ask nonce =
    each_new f.components f which ask f.components 0 nonce
    (λ i j at is there.
    let same : i ≡ j = omega (arith, is) in subst (λ (m : ℕ). slice_get f.components m ≡ Some at) same there)

none_or : (all : List Component) (n : ℕ) (b : Bool) (ws : List Awaited) → AreNew all n ws → AreNew all n (if b then [] else ws)
none_or all n true ws h a i = absurd i
none_or all n false ws h a i = h a i

repair_new : (f : Kept) (p : Piece) (nonce : ℕ) → AreNew f.components nonce (repair_reads f p nonce)
unfolding repair_reads
repair_new f p nonce = none_or f.components nonce (is_left f p) _ (all_new f _ _ nonce)

sources_new : (f : Kept) (t : Target) (p : Piece) (nonce : ℕ) → AreNew f.components nonce (sources f t p nonce)
unfolding sources
sources_new f t p nonce = by_replica _
  where
    by_replica : (o : Option ℕ) → AreNew f.components nonce (sources_by f t p nonce o)
    by_replica (Some j) = all_new f _ _ nonce
    by_replica None = none_or f.components nonce (is_beyond f.map f.components (group_for f t)) _ (all_new f _ _ nonce)

-- ---- each part of a job

-- nonces have come so far
abbrev pub HasCome : (least : ℕ) → Place → Going → Type 0
HasCome n place g = n ≤ g.effects.nonce

-- and the job begins anew
abbrev pub IsBegun : (least : ℕ) → Going → Type 0
IsBegun n g = (n ≤ g.effects.nonce) × BeginsAnew n g.file

new_job : (n : ℕ) (f : Kept) (nonce : ℕ) (j : Job) → n ≤ nonce → j.heard ≡ [] → AreNew f.components nonce j.awaited →
    IsNewJob n f j
new_job n f nonce j low silent all = record {
  silent = silent;
  above = λ a i. let r = all a i in omega (arith, low, r.0);
  present = λ a i. (all a i).1;
}

asked_new : (g : Going) (place : Place) (work : Work) (ws : List Awaited) → Asks g place work ws → is_reading work ≡ true →
    AreNew g.file.kept.components g.effects.nonce ws
asked_new g place work ws Makes e = absurd (cc e)
asked_new g place work ws Raises e = absurd (cc e)
asked_new g place work ws (Reads p ps short) e = repair_new g.file.kept p g.effects.nonce
asked_new g place work ws (Writes p ps heard short) e = absurd (cc e)
asked_new g place work ws (Aims t) e = absurd (cc e)
asked_new g place work ws (Sources t p ps) e = sources_new g.file.kept t p g.effects.nonce
asked_new g place work ws (Filled t p ps heard bytes made some) e = absurd (cc e)
asked_new g place work ws Measures e = absurd (cc e)
asked_new g place work ws (Checks_ p ps tally) e = all_new g.file.kept _ _ g.effects.nonce

no_job : (n : ℕ) (f : File) → f.job ≡ None → BeginsAnew n f
no_job n f none j runs = absurd (cc (sym none ∙ runs))

pub begin_cases : (n : ℕ) → JobCases (HasCome n) (IsBegun n)
begin_cases n = record {
  asks = λ place work c cs kind g q a. (
    omega (arith, q),
    λ j same reads.
        let it : record { kind = kind; work = work; awaited = c ∷ cs; heard = [] } ≡ j = same_Some _ j same in
        subst (IsNewJob n g.file.kept) it
        (new_job n g.file.kept g.effects.nonce (record { kind = kind; work = work; awaited = c ∷ cs; heard = [] }) q refl
        (asked_new g place work (c ∷ cs) a (ap (λ (y : Job). is_reading y.work) it ∙ reads))),
  );
  aims = λ t g q is. (
    omega (arith, q),
    λ j same reads.
        absurd (cc (ap (λ (y : Job). is_reading y.work) (same_Some _ j same) ∙ reads)),
  );
  readied = λ g q. (q, no_job n (is_made g).file refl);
  rests_behind = λ g q. (q, no_job n (over g).file refl);
  built = λ m g q. (q, no_job n (over g).file refl);
  counted = λ t g q. (q, no_job n (audited g t).file refl);
  raises = λ g q. q;
  skips = λ p ps g q e. q;
  unchanged = λ p ps heard g q e. q;
  repaired = λ short g q. q;
  begins = λ g q. q;
  passes = λ b m g q. q;
  builds = λ t g q. q;
  loses_it = λ t p ps lacked g q e. q;
  gone = λ t todo g q. q;
  full = λ t todo g q. q;
  zeros = λ t p ps heard g q e. q;
  lengths = λ g q. q;
  counts = λ p ps g q. q;
}
