-- The file of a number in a step.
use Rattle.std.proofs.Common.{◌≡◌, ℕ, ◌<◌, ◌∷◌, [], List, false, Option, Some, None, sym, ap, subst, ◌∙◌, inl, inr, eq-eqb, ne_eqb}
use Rattle.std.specs.List.{list_any}
use Rattle.std.proofs.lemmas.Bool.{cases_eq}
use Rattle.scenario_text.specs.declared.names.TheConstants.{FILES}
use Rattle.server_rules.specs.Files.{file_at}
use Rattle.server_rules.specs.History.{Input}
use Rattle.world_history.specs.ServerNames.{Component, File, Note, NoteKind}
use Rattle.component_law.specs.Words.{Each}
use Rattle.component_law.specs.Distinct.{AreDistinct}
use Rattle.component_law.specs.Components.{Paired, StandAlike, told_in, tells_rebuilt, without_drive}
use Rattle.component_law.specs.Going.{GoesOn, Goes}
use Rattle.component_law.proofs.FileNotes.{behind, any_rebuilt}
use Rattle.component_law.proofs.Rounds.{WentAs, WentEach, NoneHas}
use Rattle.component_law.proofs.Lines.{lines_of, told_here, told_beside, whole_here, whole_beside}

abbrev AreNumbered : List File → Type 0
AreNumbered fs = Each (λ (f : File). f.kept.number < FILES) fs

-- the notes between tell nothing of file n
abbrev Quiet : (n : ℕ) → (before after : List Note) → Type 0
Quiet n before after = record {
  told : (cs : List Component) → told_in n cs (lines_of after) ≡ told_in n cs (lines_of before);
  whole : list_any (tells_rebuilt n) (lines_of after) ≡ false → list_any (tells_rebuilt n) (lines_of before) ≡ false;
}

-- file n, before and behind notes
abbrev pub AtNumber : (out : Option ℕ) → (n : ℕ) → (before after : List Note) → Option File → Option File → Type 0
AtNumber out n before after None None = Unit {0}
AtNumber out n before after (Some f) (Some g) = record {
  map : g.kept.map ≡ f.kept.map;
  kinds : List NoteKind;
  told : (cs : List Component) → told_in n cs (lines_of after) ≡ behind (told_in n cs (lines_of before)) kinds;
  whole : list_any (tells_rebuilt n) (lines_of after) ≡ false
      → (any_rebuilt kinds ≡ false) × (list_any (tells_rebuilt n) (lines_of before) ≡ false);
  alike : Paired StandAlike (behind (without_drive out f.kept.components) kinds) g.kept.components;
  exact : any_rebuilt kinds ≡ false → g.kept.components ≡ behind (without_drive out f.kept.components) kinds;
}
AtNumber out n before after o p = ⊥

-- ---- notes on other files

quiet_one : (out : Option ℕ) (n : ℕ) (f g : File) (before after : List Note) → (f.kept.number ≡ n → ⊥)
    → f.kept.number < FILES → WentAs out f before g after → Quiet n before after
quiet_one out n f g before after other named w = record {
  told = λ cs. ap (λ (ns : List Note). told_in n cs (lines_of ns)) w.notes
      ∙ told_beside before f.kept.number n w.kinds cs other named w.tellable;
  whole = λ e. whole_beside before f.kept.number n w.kinds other named w.tellable
      (ap (λ (ns : List Note). list_any (tells_rebuilt n) (lines_of ns)) (sym w.notes) ∙ e);
}

quiet_each : (out : Option ℕ) (n : ℕ) (fs gs : List File) (before after : List Note) → NoneHas n fs → AreNumbered fs
    → WentEach out fs before gs after → Quiet n before after
quiet_each out n [] [] before after other named w = record {
  told = λ cs. ap (λ (ns : List Note). told_in n cs (lines_of ns)) w;
  whole = λ e. ap (λ (ns : List Note). list_any (tells_rebuilt n) (lines_of ns)) (sym w) ∙ e;
}
quiet_each out n [] (g ∷ gs) before after other named w = absurd w
quiet_each out n (f ∷ fs) [] before after other named w = absurd w
quiet_each out n (f ∷ fs) (g ∷ gs) before after other named w =
    let here : Quiet n before w.0 = quiet_one out n f g before w.0 other.0 named.0 w.1 in
    let more : Quiet n w.0 after = quiet_each out n fs gs w.0 after other.1 named.1 w.2 in
    record { told = λ cs. more.told cs ∙ here.told cs; whole = λ e. here.whole (more.whole e) }

-- ---- the file of the number

at_same : (out : Option ℕ) (f g : File) (fs gs : List File) (before middle after : List Note) → NoneHas f.kept.number fs
    → f.kept.number < FILES → AreNumbered fs → WentAs out f before g middle → WentEach out fs middle gs after
    → AtNumber out f.kept.number before after (Some f) (Some g)
at_same out f g fs gs before middle after other named all w ws =
    let n : ℕ = f.kept.number in
    let more : Quiet n middle after = quiet_each out n fs gs middle after other all ws in
    record {
      map = w.map;
      kinds = w.kinds;
      told = λ cs. more.told cs ∙ ap (λ (ns : List Note). told_in n cs (lines_of ns)) w.notes
          ∙ told_here before n w.kinds cs named w.tellable;
      whole = λ e. whole_here before n w.kinds named w.tellable
          (ap (λ (ns : List Note). list_any (tells_rebuilt n) (lines_of ns)) (sym w.notes) ∙ more.whole e);
      alike = w.alike;
      exact = w.exact;
    }

at_before : (out : Option ℕ) (n : ℕ) (before middle after : List Note) (o p : Option File) → Quiet n before middle
    → AtNumber out n middle after o p → AtNumber out n before after o p
at_before out n before middle after None None q a = tt
at_before out n before middle after None (Some g) q a = absurd a
at_before out n before middle after (Some f) None q a = absurd a
at_before out n before middle after (Some f) (Some g) q a = record {
  map = a.map;
  kinds = a.kinds;
  told = λ cs. a.told cs ∙ ap (λ (x : List Component). behind x a.kinds) (q.told cs);
  whole = λ e. ((a.whole e).0, q.whole (a.whole e).1);
  alike = a.alike;
  exact = a.exact;
}

pub at_number : (out : Option ℕ) (n : ℕ) (fs gs : List File) (before after : List Note) → AreDistinct fs → AreNumbered fs
    → WentEach out fs before gs after → AtNumber out n before after (file_at fs n) (file_at gs n)
unfolding file_at
at_number out n [] [] before after d named w = tt
at_number out n [] (g ∷ gs) before after d named w = absurd w
at_number out n (f ∷ fs) [] before after d named w = absurd w
at_number out n (f ∷ fs) (g ∷ gs) before after d named w = elim (cases_eq f.kept.number n) [
  | inl e ↦ rw (eq-eqb f.kept.number n e, eq-eqb g.kept.number n (w.1.number ∙ e))
      (subst (λ (x : ℕ). AtNumber out x before after (Some f) (Some g)) e
      (at_same out f g fs gs before w.0 after d.0 named.0 named.1 w.1 w.2))
  | inr o ↦ rw (ne_eqb f.kept.number n o, ne_eqb g.kept.number n (λ q. o (sym w.1.number ∙ q)))
      (at_before out n before w.0 after (file_at fs n) (file_at gs n)
      (quiet_one out n f g before w.0 o named.0 w.1) (at_number out n fs gs w.0 after d.1 named.1 w.2))
]

-- ---- it goes on as the lines tell

goes_on : (out : Option ℕ) (n : ℕ) (notes : List Note) (f g : File) → AtNumber out n [] notes (Some f) (Some g)
    → GoesOn out (lines_of notes) n f g
goes_on out n notes f g a = record {
  map = a.map;
  alike =
      subst (λ (cs : List Component). Paired StandAlike cs g.kept.components)
      (sym (a.told (without_drive out f.kept.components))) a.alike;
  exact = λ w. a.exact (a.whole w).0 ∙ sym (a.told (without_drive out f.kept.components));
}

pub goes : (i : Input) (out : Option ℕ) (n : ℕ) (notes : List Note) (o p : Option File) → AtNumber out n [] notes o p
    → Goes i out (lines_of notes) n o p
goes i out n notes None None a = tt
goes i out n notes None (Some g) a = absurd a
goes i out n notes (Some f) None a = absurd a
goes i out n notes (Some f) (Some g) a = goes_on out n notes f g a
