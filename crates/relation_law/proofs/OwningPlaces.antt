-- While nothing may come to the components of a file, or a fence of it is over, a job goes on so from place to place.
use Rattle.std.proofs.Common.{◌≡◌, ◌⊎◌, ℕ, zero, suc, ◌+◌, Bool, true, false, List, [], ◌∷◌, ◌++◌, slice_get, slice_set, Some, refl, sym, ap, subst, ◌∙◌, inl, inr}
use Rattle.osd_commands.specs.declared.commands.Command.{Command}
use Rattle.server_rules.specs.Going.{Going, noting, noting_if, over, rests}
use Rattle.server_rules.proofs.Members.{in_front, in_behind}
use Rattle.history_law.specs.Names.{File, FencingAgain, Component, Target, Note, NoteKind, Fenced, NoDrive, Ready}
use Rattle.file_simulation.specs.Jobs.{IsOfPhase}
use Rattle.relation_law.specs.Owning.{Coming, IsOld, AreOfPhase, EndsFence}
use Rattle.server_rules.specs.Jobs.{is_made}
use Rattle.server_rules.specs.Audit.{audited}
use Rattle.relation_law.proofs.Walk.{Place, AtStart, AtFence, Behind, AtRepair, AtRows, AtRebuild, AtFill, AtSources, AtAudit, JobCases, standing, aims_at}

-- ---- components

pub set_get : (cs : List Component) (n i : ℕ) (y b : Component) → slice_get (slice_set cs n y) i ≡ Some b →
    (b ≡ y) ⊎ (slice_get cs i ≡ Some b)
set_get [] n i y b e = inr e
set_get (x ∷ cs) zero zero y b e = inl (cc (sym e))
set_get (x ∷ cs) zero (suc i) y b e = inr e
set_get (x ∷ cs) (suc n) zero y b e = inr e
set_get (x ∷ cs) (suc n) (suc i) y b e = set_get cs n i y b e

module _ (C : Coming) (f : File) where
  -- nothing comes to the present components that the file had
  abbrev pub Clear : List Component → Type 0
  Clear cs =
      (k : ℕ) (at : Component) (x : Command) → slice_get cs k ≡ Some at → at.missing ≡ false → IsOld f k at →
      C at.drive x → x.object ≡ at.object → ⊥

  -- a fence of the file is over
  abbrev pub Ended : Going → Type 0
  Ended g = EndsFence f.kept.number g.effects.notes

  -- no component had the target's object
  abbrev pub IsNew : Target → Type 0
  IsNew t = (k : ℕ) (b : Component) → slice_get f.kept.components k ≡ Some b → b.object ≡ t.object → ⊥

  abbrev pub HasNumber : Going → Type 0
  HasNumber g = g.file.kept.number ≡ f.kept.number

  -- at a place nothing comes, or a fence is over; where a fence is waited for again, anything may
  abbrev pub PlaceOwns : Place → Going → Type 0
  PlaceOwns AtFence g =
      HasNumber g × ((g.file.kept.phase ≡ FencingAgain) ⊎ (Ended g ⊎ Clear g.file.kept.components))
  PlaceOwns (AtFill t ps) g = HasNumber g × (Ended g ⊎ Clear g.file.kept.components) × IsNew t
  PlaceOwns (AtSources t p ps heard) g = HasNumber g × (Ended g ⊎ Clear g.file.kept.components) × IsNew t
  PlaceOwns place g = HasNumber g × (Ended g ⊎ Clear g.file.kept.components)

  abbrev pub Owns : Going → Type 0
  Owns g = Ended g ⊎ AreOfPhase C f g.file

  -- where nothing comes all is of the phase
  pub clear_owns : (g : File) → Clear g.kept.components → AreOfPhase C f g
  clear_owns g clear k at x there stands old comes object = absurd (clear k at x there stands old comes object)

  noted : (g : Going) (ns : List Note) → Ended g →
      Ended (record g { effects = record g.effects { notes = g.effects.notes ++ ns } })
  noted g ns e = (e.0, in_front (record { file = f.kept.number; kind = Fenced e.0 }) g.effects.notes ns e.1)

  noted_kind : (g : Going) (kind : NoteKind) → Ended g → Ended (noting g kind)
  noted_kind g kind e = noted g (record { file = g.file.kept.number; kind = kind } ∷ []) e

  -- one more note changes nothing
  more : (g : Going) (kind : NoteKind) → Ended g ⊎ Clear g.file.kept.components →
      Ended (noting g kind) ⊎ Clear g.file.kept.components
  more g kind (inl e) = inl (noted_kind g kind e)
  more g kind (inr clear) = inr clear

  more_if : (b : Bool) (g : Going) (kind : NoteKind) → Ended g ⊎ Clear g.file.kept.components →
      Ended (noting_if b g kind) ⊎ Clear g.file.kept.components
  more_if true g kind q = more g kind q
  more_if false g kind q = q

  -- the job rests or is over, and the components are as they were
  owns_by : (g h : Going) → h.effects.notes ≡ g.effects.notes → h.file.kept.components ≡ g.file.kept.components →
      Ended g ⊎ Clear g.file.kept.components → Owns h
  owns_by g h notes same (inl e) = inl (subst (EndsFence f.kept.number) (sym notes) e)
  owns_by g h notes same (inr clear) = inr (clear_owns h.file (subst Clear (sym same) clear))

  of_place : (place : Place) (g : Going) → PlaceOwns place g →
      ((place ≡ AtFence) × (g.file.kept.phase ≡ FencingAgain)) ⊎ (Ended g ⊎ Clear g.file.kept.components)
  of_place AtStart g q = inr q.1
  of_place AtFence g q = elim q.1 [ inl again ↦ inl (refl, again) | inr r ↦ inr r ]
  of_place Behind g q = inr q.1
  of_place (AtRepair ps) g q = inr q.1
  of_place (AtRows p ps heard) g q = inr q.1
  of_place (AtRebuild n) g q = inr q.1
  of_place (AtFill t ps) g q = inr q.1
  of_place (AtSources t p ps heard) g q = inr q.1
  of_place (AtAudit ps) g q = inr q.1

  -- while a fence begins again anything may come
  again_owns : (g : File) → g.kept.phase ≡ FencingAgain → AreOfPhase C f g
  again_owns g again k at x there stands old comes object = subst (IsOfPhase g k x) (sym again) tt

  -- the target stands where a component was
  clear_standing : (g : Going) (t : Target) → IsNew t → Clear g.file.kept.components →
      Clear (standing g t).file.kept.components
  clear_standing g t new clear k at x there stands old comes object =
      elim (set_get g.file.kept.components t.component k _ at there) [
        | inl own ↦ new k old.0 old.1 (old.2 ∙ ap (λ (y : Component). y.object) own)
        | inr was ↦ clear k at x was stands old comes object
      ]

  pub own_cases : JobCases PlaceOwns Owns
  own_cases = record {
    asks = λ place work c cs kind g q a. elim (of_place place g q) [
      | inl again ↦ inr (again_owns (rests g kind work c cs).file again.1)
      | inr r ↦ owns_by g (rests g kind work c cs) refl refl r
    ];
    aims = λ t g q is. owns_by g (aims_at g t) refl refl q.1;
    readied = λ g q. owns_by (noting g Ready) (is_made g) refl refl (more g Ready q.1);
    rests_behind = λ g q. owns_by g (over g) refl refl q.1;
    built = λ n g q. owns_by g (over g) refl refl q.1;
    counted = λ t g q. owns_by (noting g _) (audited g t) refl refl (more g _ q.1);
    raises = λ g q. (
      q.0,
      inl (
        g.file.kept.tag + 1,
        in_behind (record { file = f.kept.number; kind = Fenced (g.file.kept.tag + 1) }) g.effects.notes _
            (inl (ap (λ (n : ℕ). record { file = n; kind = Fenced (g.file.kept.tag + 1) }) (sym q.0))),
      ),
    );
    skips = λ p ps g q e. q;
    unchanged = λ p ps heard g q e. q;
    repaired = λ short g q. (q.0, more g _ q.1);
    begins = λ g q. q;
    passes = λ b n g q. (q.0, more_if b g (NoDrive n) q.1);
    builds = λ t g q. (
      q.0,
      elim q.1 [
        | inl e ↦ inl (noted_kind g _ e)
        | inr clear ↦ inr (clear_standing g t q.2 clear)
      ],
    );
    loses_it = λ t p ps lacked g q e. (q.0, more g _ q.1);
    gone = λ t todo g q. (q.0, more g _ q.1);
    full = λ t todo g q. (q.0, more g _ q.1);
    zeros = λ t p ps heard g q e. q;
    lengths = λ g q. q;
    counts = λ p ps g q. q;
  }
