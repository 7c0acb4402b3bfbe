-- A step that goes through all files: what the machine of one file has behind it. Notes on other files have no event.
-- Towards `KeptGoesOn` (`specs/Steps.antt`).
use Rattle.std.proofs.Common.{◌≡◌, ◌==◌, ℕ, ◌+◌, Bool, true, false, List, [], ◌∷◌, ◌++◌, Some, None, refl, sym, ap, subst, ◌∙◌, inl, inr, append_assoc}
use Rattle.std.proofs.lemmas.Bool.{cases_Bool, eqb-true, eq-eqb, ne_eqb, eqb-false}
use Rattle.std.proofs.lemmas.List.{append-nil}
use Rattle.server_rules.specs.Files.{file_at}
use Rattle.server_rules.specs.Going.{Going}
use Rattle.server_rules.specs.History.{Input}
use Rattle.server_rules.specs.Jobs.{declares}
use Rattle.server_rules.specs.Orders.{declares_each}
use Rattle.component_law.specs.Words.{Each}
use Rattle.component_law.specs.Distinct.{AreDistinct}
use Rattle.world_history.specs.ServerNames.{File, Kept, Still, Repairing, Note, NoteKind, Fenced, Repaired, Effects, Drive}
use Rattle.world_history.specs.State.{World}
use Rattle.fence_law.specs.State.{State, Event}
use Rattle.fence_law.specs.Machine.{Lawful, after_all}
use Rattle.file_simulation.specs.ServerEvents.{noted}
use Rattle.relation_law.specs.KeptSteps.{notes_events, behind_notes, IsSoFar, IsKeptAt, GoesAs, IsDone}
use Rattle.component_law.specs.KeptWalk.{noted_of, IsWalked, FileFits}
use Rattle.component_law.proofs.KeptJobs.{ends_declares}
use Rattle.relation_law.proofs.KeptNotes.{events_more, AreSupplied, IsBehind}
use Rattle.relation_law.proofs.KeptEnds.{kept_from}

-- ---- notes on other files

-- some notes stand behind others
abbrev pub IsFrom : (base ns : List Note) → Type 0
IsFrom base ns = (more : List Note) × (ns ≡ base ++ more)

pub from_more : (base ns : List Note) (n : Note) → IsFrom base ns → IsFrom base (ns ++ (n ∷ []))
from_more base ns n r =
    (r.0 ++ (n ∷ []), ap (λ (x : List Note). x ++ (n ∷ [])) r.1 ∙ append_assoc base r.0 (n ∷ []))

module _ (t : State) (w : World) (f : File) (i : Input) (base : List Note) (es : List Event) where
  -- they are of another file, and add no event
  abbrev pub Quiet : Kept → List Note → Type 0
  Quiet k ns = (k.number ≡ f.kept.number → ⊥) × IsFrom base ns × (notes_events t w f i ns ≡ es)

  quiet_more : (k l : Kept) (ns : List Note) (kind : NoteKind) → l.number ≡ k.number → Quiet k ns
      → Quiet l (noted_of k ns kind)
  quiet_more k l ns kind same h =
      let n : Note = record { file = k.number; kind = kind } in
      let none : noted (behind_notes t w f i ns) w f i n ≡ [] = rw (ne_eqb k.number f.kept.number h.0) refl in (
        λ e. h.0 (sym same ∙ e),
        from_more base ns n h.1,
        events_more t w f i ns n ∙ ap (λ (x : List Event). notes_events t w f i ns ++ x) none
            ∙ append-nil (notes_events t w f i ns) ∙ h.2,
      )

  pub quiet_walked : IsWalked Quiet
  quiet_walked = record {
    alike = λ k l ns a h. (λ e. h.0 (sym a.number ∙ e), h.1, h.2);
    plain = λ k ns kind p h. quiet_more k k ns kind refl h;
    fenced = λ k ns p h.
        quiet_more k (record k { tag = k.tag + 1; phase = Repairing }) ns (Fenced (k.tag + 1)) refl h;
    mended = λ k ns stripes short p h.
        quiet_more k (record k { ended = []; phase = Still }) ns (Repaired stripes short) refl h;
  }

-- ---- the file's own notes

-- what is given with all notes is given with the first of them
pub given_front : (next : ℕ) (busy : Bool) (t : State) (w : World) (f : File) (i : Input) (Given : List Note → Type 0)
    → AreSupplied next busy t w f i Given → (base more : List Note) → Given (base ++ more) → Given base
given_front next busy t w f i Given sup base [] g = subst Given (append-nil base) g
given_front next busy t w f i Given sup base (m ∷ more) g =
    sup.front base m
    (given_front next busy t w f i Given sup (base ++ (m ∷ [])) more (subst Given (sym (append_assoc base (m ∷ []) more)) g))

module _ (next : ℕ) (t : State) (w : World) (f : File) (i : Input) (Given : List Note → Type 0)
    (supplied : (busy : Bool) → AreSupplied next busy t w f i Given) where
  -- as it begins
  pub begun : (busy : Bool) (k : Kept) (ns : List Note) → k.number ≡ f.kept.number → k.map ≡ f.kept.map
      → notes_events t w f i ns ≡ []
      → IsSoFar next busy t k → IsBehind next busy t w f i Given k ns
  begun busy k ns number map none h = record {
    number = number;
    map = map;
    lawful = λ g. subst (Lawful t) (sym none) tt;
    so_far = λ g. subst (λ (x : List Event). IsSoFar next busy (after_all t x) k) (sym none) h;
  }

  -- as it ends
  pub done : (busy : Bool) (g : Going) → (busy ≡ false → g.file.job ≡ None)
      → IsBehind next busy t w f i Given g.file.kept g.effects.notes → IsDone next t w f i Given g
  done busy g u h = record {
    number = h.number;
    lawful = h.lawful;
    kept = λ x. kept_from next busy (behind_notes t w f i g.effects.notes) g.file u (h.so_far x);
  }

  -- with notes on other files behind them
  pub goes_as : (g : Going) (ns : List Note) → IsDone next t w f i Given g → IsFrom g.effects.notes ns
      → notes_events t w f i ns ≡ notes_events t w f i g.effects.notes → GoesAs next t w f i (Given ns) ns g.file
  goes_as g ns d from same =
      let front : Given ns → Given g.effects.notes = λ x.
      given_front next true t w f i Given (supplied true) g.effects.notes from.0 (subst Given from.1 x) in
      record {
        lawful = λ x. subst (Lawful t) (sym same) (d.lawful (front x));
        kept = λ x.
            subst (λ (es : List Event). IsKeptAt next (after_all t es) g.file) (sym same) (d.kept (front x));
      }

-- ---- rounds

-- a file that isn't this one has another number
abbrev pub AllOther : (number : ℕ) → List File → Type 0
AllOther n fs = Each (λ (x : File). x.kept.number ≡ n → ⊥) fs

-- the file of a round, and what the step's notes make of it
pub record HasGone (f : File) (fs : List File) (ns : List Note) (P : Going → Type 0) (Q : List Note → List Note → Type 0) : Type 0
  where
    pub going : Going
    pub found : file_at fs f.kept.number ≡ Some going.file
    pub is : P going
    pub behind : Q going.effects.notes ns

-- further notes of other files
abbrev pub AddsNone : State → World → File → Input → (base ns : List Note) → Type 0
AddsNone t w f i base ns = IsFrom base ns × (notes_events t w f i ns ≡ notes_events t w f i base)

module _ (w : World) (f : File) (i : Input) where
  -- the first file of a list
  pub front_is : (x : File) (fs : List File) → x.kept.number ≡ f.kept.number → file_at (x ∷ fs) f.kept.number ≡ Some x
  unfolding file_at
  front_is x fs e = rw (eq-eqb x.kept.number f.kept.number e) refl

  pub behind_is : (x : File) (fs : List File) → (x.kept.number ≡ f.kept.number → ⊥)
      → file_at (x ∷ fs) f.kept.number ≡ file_at fs f.kept.number
  unfolding file_at
  behind_is x fs ne = rw (ne_eqb x.kept.number f.kept.number ne) refl

  -- ---- a drive is declared

  module _ (t : State) (base : List Note) (es : List Event) (drive : ℕ) (ds : List Drive) where
    pub declared_others : (fs : List File) (m : Effects) (chosen : List ℕ) → AllOther f.kept.number fs
        → Each FileFits fs → IsFrom base m.notes → notes_events t w f i m.notes ≡ es
        → IsFrom base (declares_each drive ds fs m chosen).effects.notes
        × (notes_events t w f i (declares_each drive ds fs m chosen).effects.notes ≡ es)
    unfolding declares_each
    declared_others [] m chosen other fit from same = (from, same)
    declared_others (x ∷ fs) m chosen other fit from same =
        let g : Going = record { file = x; effects = m; drives = ds; chosen = chosen } in
        let e = ends_declares (Quiet t w f i base es) (quiet_walked t w f i base es) g drive
        ((other.0, from, same), fit.0) in
        declared_others fs (declares g drive).effects (declares g drive).chosen other.1 fit.1 e.0.1 e.0.2

  pub declared_round : (t : State) (drive : ℕ) (ds : List Drive) (P : Going → Type 0)
      → ((g : Going) → P g → g.file.kept.number ≡ f.kept.number)
      → ((m : Effects) (chosen : List ℕ) → notes_events t w f i m.notes ≡ []
      → P (declares (record { file = f; effects = m; drives = ds; chosen = chosen }) drive))
      → (fs : List File) (m : Effects) (chosen : List ℕ) → file_at fs f.kept.number ≡ Some f → AreDistinct fs
      → Each FileFits fs → notes_events t w f i m.notes ≡ []
      → HasGone f (declares_each drive ds fs m chosen).files (declares_each drive ds fs m chosen).effects.notes P
      (AddsNone t w f i)
  unfolding declares_each file_at
  declared_round t drive ds P number own [] m chosen there apart fit none = absurd (cc there)
  declared_round t drive ds P number own (x ∷ fs) m chosen there apart fit none =
      elim (cases_Bool (x.kept.number == f.kept.number)) [
        | inl here ↦
            let same : x ≡ f = cc (rw here at there) in
            let g : Going = record { file = x; effects = m; drives = ds; chosen = chosen } in
            let is : P (declares g drive) =
            subst (λ (y : File). P (declares (record { file = y; effects = m; drives = ds; chosen = chosen }) drive))
            (sym same) (own m chosen none) in
            let other : AllOther f.kept.number fs =
            subst (λ (n : ℕ). AllOther n fs) (eqb-true x.kept.number f.kept.number here) apart.0 in
            let rest = declared_others t (declares g drive).effects.notes
            (notes_events t w f i (declares g drive).effects.notes) drive ds fs (declares g drive).effects
            (declares g drive).chosen other fit.1 ([], sym (append-nil (declares g drive).effects.notes)) refl in
            record {
              going = declares g drive;
              found = front_is (declares g drive).file _ (number (declares g drive) is);
              is = is;
              behind = rest;
            }
        | inr z ↦
            let ne : x.kept.number ≡ f.kept.number → ⊥ = eqb-false x.kept.number f.kept.number z in
            let g : Going = record { file = x; effects = m; drives = ds; chosen = chosen } in
            let e = ends_declares (Quiet t w f i [] []) (quiet_walked t w f i [] []) g drive
            ((ne, (m.notes, refl), none), fit.0) in
            let r = declared_round t drive ds P number own fs (declares g drive).effects (declares g drive).chosen
            (rw z at there) apart.1 fit.1 e.0.2 in
            record {
              going = r.going;
              found = behind_is (declares g drive).file _ e.0.0 ∙ r.found;
              is = r.is;
              behind = r.behind;
            }
      ]
