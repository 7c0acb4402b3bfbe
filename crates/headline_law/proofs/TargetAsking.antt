-- Each source of a piece is asked, and a new file's job has no target.
-- Towards `EachTargetIsWellAsked` (`specs/TargetLaws.antt`).
use Rattle.std.proofs.Common.{◌≡◌, ℕ, ◌+◌, ◌/◌, Bool, true, false, List, [], ◌∷◌, Option, Some, None, refl, sym, ap, subst, ◌∙◌, arith, inl, eq-eqb, if◌then◌else◌}
use Rattle.data_map.specs.declared.check.RawMap.{RawMap}
use Rattle.data_map.specs.Striping.{replicas, offset_of}
use Rattle.server_rules.specs.Commands.{Which, Creating, Reading, All, Only, FirstsOf, is_meant, to_all}
use Rattle.server_rules.specs.Files.{at_file}
use Rattle.server_rules.specs.Going.{rests_or}
use Rattle.server_rules.specs.Jobs.{making, is_made}
use Rattle.server_rules.specs.Laws.{In}
use Rattle.server_rules.specs.Making.{with_file}
use Rattle.server_rules.specs.Maps.{group_with}
use Rattle.server_rules.specs.Rebuild.{sources_by, sources, position_for, group_for}
use Rattle.server_rules.specs.Standing.{replica, is_beyond}
use Rattle.world_history.specs.ServerNames.{Server, File, Kept, Component, Awaited, Piece, Target, Job, Making, Work, Creates, Fences, Fetches, Stores, Targets, Gathers, Fills, Lengths, Checks}
use Rattle.world_history.specs.State.{World}
use Rattle.component_law.specs.Objects.{target_in, target_of}
use Rattle.headline_law.proofs.OweAsked.{meant_in}
use Rattle.headline_law.proofs.OweReplicas.{replica_is}
use Rattle.headline_law.specs.TargetLaws.{IsAskedOrHeard, OfSources, OfEachSource, IsAtPiece, IsWellAsked}

-- ---- what is asked of the sources

-- each source of a piece is asked
pub asked_all : (f : Kept) (t : Target) (p : Piece) (nonce : ℕ) (l : Job) → l.awaited ≡ sources f t p nonce →
    (sources f t p nonce ≡ [] → ⊥) → OfEachSource (IsAskedOrHeard l) f t
unfolding sources is_meant
asked_all f t p nonce l is some = by_replica (replica f.map f.components (position_for f t)) refl is some
  where
    among : (which : Which) (k : ℕ) (position : ℕ) → l.awaited ≡ to_all f which (Reading (offset_of f.map p.stripe p.column)
        p.count) nonce →
        replica f.map f.components position ≡ Some k → is_meant f which k ≡ true → IsAskedOrHeard l k
    among which k position its first meant =
        let r = replica_is f.map position f.components k first in
        let zero_more : 0 + k ≡ k = omega arith in
        let a = meant_in f which (Reading (offset_of f.map p.stripe p.column) p.count) f.components 0 nonce k r.component
        r.there r.present (ap (is_meant f which) zero_more ∙ meant) in
        inl (a.0, subst (In a.0) (sym its) a.1, a.2 ∙ zero_more)

    by_replica : (o : Option ℕ) → replica f.map f.components (position_for f t) ≡ o →
        l.awaited ≡ sources_by f t p nonce o → (sources_by f t p nonce o ≡ [] → ⊥) → OfSources (IsAskedOrHeard l) f t o
    by_replica (Some k) first its more = among (Only k) k (position_for f t) its first (meant_one k)
      where
        meant_one : (n : ℕ) → is_meant f (Only n) n ≡ true
        meant_one n = eq-eqb n n refl
    by_replica None first its more =
        by_beyond (is_beyond f.map f.components (group_for f t)) refl its more
      where
        meant_first : (n : ℕ) → group_with f.map n ≡ group_for f t →
            replica f.map f.components (n / replicas f.map) ≡ Some n → is_meant f (FirstsOf (group_for f t)) n ≡ true
        meant_first n group own = rw (eq-eqb (group_with f.map n) (group_for f t) group, own) (eq-eqb n n refl)

        by_beyond : (b : Bool) → is_beyond f.map f.components (group_for f t) ≡ b →
            l.awaited ≡ (if b then [] else to_all f (FirstsOf (group_for f t))
            (Reading (offset_of f.map p.stripe p.column) p.count) nonce) →
            ((if b then [] else to_all f (FirstsOf (group_for f t))
            (Reading (offset_of f.map p.stripe p.column) p.count) nonce) ≡ [] → ⊥) →
            OfSources (IsAskedOrHeard l) f t None
        by_beyond true e its_ more_ = absurd (more_ refl)
        by_beyond false e its_ more_ =
            (e, λ n group own. among (FirstsOf (group_for f t)) n (n / replicas f.map) its_ own (meant_first n group own))

-- the sources are of the map and the components
pub sources_as : (P : ℕ → Type 0) (f g : Kept) (t : Target) → g.map ≡ f.map → g.components ≡ f.components →
    OfEachSource P f t → OfEachSource P g t
sources_as P f g t map_ components x =
    subst (λ (m : RawMap). OfEachSource P (record g { map = m }) t) (sym map_)
    (subst (λ (cs : List Component). OfEachSource P (record g { map = f.map; components = cs }) t) (sym components) x)

-- ---- a new file

pub making_aims : (s : Server) (chosen : List ℕ) (x : File) → target_of (making (at_file (with_file s x) [] x)).file.job ≡ None
unfolding making
making_aims s chosen x = by_asked (to_all (at_file (with_file s x) [] x).file.kept All Creating
    (at_file (with_file s x) [] x).effects.nonce)
  where
    by_asked : (ws : List Awaited) → target_of (rests_or ws (at_file (with_file s x) [] x) Making Creates
        (is_made (at_file (with_file s x) [] x))).file.job ≡ None
    by_asked [] = refl
    by_asked (c ∷ cs) = refl

-- a file without a target
pub free_asked : (w : World) (f : File) → target_of f.job ≡ None → IsWellAsked w f
free_asked w f none = record {
  asked = λ j t p ps runs is. absurd (cc (sym none ∙ ap target_of runs ∙ ap target_in is));
  planned = λ j t p runs aim. absurd (cc (sym none ∙ ap target_of runs ∙ aim));
  at_piece = λ j runs. by_work j.work (sym (ap target_of runs) ∙ none);
  written = λ j t todo a runs is. absurd (cc (sym none ∙ ap target_of runs ∙ ap target_in is));
  ends = λ t x aim. absurd (cc (sym none ∙ aim));
  only = λ t x aim. absurd (cc (sym none ∙ aim));
}
  where
    by_work : (work : Work) → target_in work ≡ None → IsAtPiece work
    by_work Creates e = tt
    by_work Fences e = tt
    by_work (Fetches todo short) e = tt
    by_work (Stores todo short b) e = tt
    by_work (Targets t) e = tt
    by_work (Gathers t []) e = absurd (cc e)
    by_work (Gathers t (p ∷ ps)) e = tt
    by_work (Fills t []) e = absurd (cc e)
    by_work (Fills t (p ∷ ps)) e = tt
    by_work Lengths e = tt
    by_work (Checks todo tally) e = tt
