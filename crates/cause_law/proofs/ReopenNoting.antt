-- Behind a step a file has its tag as before, or a note of the step tells the one that it has.
use Rattle.std.proofs.Common.{◌≡◌, ◌⊎◌, ℕ, ◌<◌, false, List, [], ◌∷◌, Option, Some, None, refl, sym, ap, subst, ◌∙◌, inl, inr, eq-eqb, ne_eqb}
use Rattle.std.proofs.lemmas.Bool.{cases_eq, lt-ltb}
use Rattle.std.specs.List.{filter_map, cons_option}
use Rattle.scenario_text.specs.declared.names.TheConstants.{FILES}
use Rattle.scenario_text.specs.declared.line.Note.TheVariants as told
use Rattle.scenario_text.specs.declared.line.Line.{Line}
use Rattle.scenario_text.specs.declared.line.Line.TheVariants as line
use Rattle.server_rules.specs.Files.{file_at}
use Rattle.server_rules.specs.History.{Input, step}
use Rattle.server_rules.specs.Laws.{In}
use Rattle.server_rules.proofs.Members.{in_front, in_behind}
use Rattle.world_history.specs.Names.{known_note_line}
use Rattle.world_history.specs.ServerNames.{Server, File, Note, NoteKind, Fenced}
use Rattle.component_law.specs.Going.{taken_out}
use Rattle.component_law.specs.Naming.{IsNamedInput}
use Rattle.component_law.specs.Sound.{IsSound}
use Rattle.component_law.specs.Tags.{fence_note}
use Rattle.component_law.proofs.FileNotes.{noted_with, tag_behind}
use Rattle.component_law.proofs.Rounds.{WentAs, WentEach}
use Rattle.component_law.proofs.Steps.{makes, Went, went}

-- ---- notes

in_more : (x : Note) (before : List Note) (n : ℕ) (ks : List NoteKind) → In x before → In x (noted_with before n ks)
in_more x before n [] i = i
in_more x before n (k ∷ ks) i = in_front x (noted_with before n ks) _ (in_more x before n ks i)

in_kinds : (n tag : ℕ) (before : List Note) (ks : List NoteKind) → In (Fenced tag) ks
    → In (fence_note n tag) (noted_with before n ks)
in_kinds n tag before [] i = absurd i
in_kinds n tag before (k ∷ ks) (inl e) =
    in_behind (fence_note n tag) (noted_with before n ks) _
    (inl (ap (λ (kind : NoteKind). record { file = n; kind = kind }) e))
in_kinds n tag before (k ∷ ks) (inr i) =
    in_front (fence_note n tag) (noted_with before n ks) _ (in_kinds n tag before ks i)

-- the tag behind these is the former, or they tell it
told_tag : (t : ℕ) (ks : List NoteKind) → (tag_behind t ks ≡ t) ⊎ In (Fenced (tag_behind t ks)) ks
told_tag t [] = inl refl
told_tag t (Fenced u ∷ ks) = inr (inl refl)
told_tag t (k ∷ ks) = elim (told_tag t ks) [ inl e ↦ inl e | inr i ↦ inr (inr i) ]

-- ---- files one after another

went_more : (out : Option ℕ) (x : Note) (fs gs : List File) (before after : List Note) → WentEach out fs before gs after
    → In x before → In x after
went_more out x [] [] before after w i = subst (In x) (sym w) i
went_more out x [] (g ∷ gs) before after w i = absurd w
went_more out x (f ∷ fs) [] before after w i = absurd w
went_more out x (f ∷ fs) (g ∷ gs) before after w i =
    went_more out x fs gs w.0 after w.2
    (subst (In x) (sym w.1.notes) (in_more x before f.kept.number w.1.kinds i))

abbrev pub TellsTag : (n : ℕ) → File → File → List Note → Type 0
TellsTag n f g notes = (g.kept.tag ≡ f.kept.tag) ⊎ In (fence_note n g.kept.tag) notes

tells_here : (out : Option ℕ) (n : ℕ) (f g : File) (fs gs : List File) (before middle after : List Note)
    → f.kept.number ≡ n → WentAs out f before g middle → WentEach out fs middle gs after → TellsTag n f g after
tells_here out n f g fs gs before middle after here w ws = elim (told_tag f.kept.tag w.kinds) [
  | inl same ↦ inl (w.tags.0 ∙ same)
  | inr i ↦
      inr (went_more out (fence_note n g.kept.tag) fs gs middle after ws
      (subst (λ (m : ℕ). In (fence_note m g.kept.tag) middle) here
      (subst (In (fence_note f.kept.number g.kept.tag)) (sym w.notes)
      (in_kinds f.kept.number g.kept.tag before w.kinds
      (subst (λ (t : ℕ). In (Fenced t) w.kinds) (sym w.tags.0) i)))))
]

tells_each : (out : Option ℕ) (n : ℕ) (f g : File) (fs gs : List File) (before after : List Note)
    → WentEach out fs before gs after → file_at fs n ≡ Some f → file_at gs n ≡ Some g → TellsTag n f g after
unfolding file_at
tells_each out n f g [] gs before after w e d = absurd (cc e)
tells_each out n f g (h ∷ fs) [] before after w e d = absurd w
tells_each out n f g (h ∷ fs) (x ∷ gs) before after w e d = elim (cases_eq h.kept.number n) [
  | inl same ↦
      let first : h ≡ f = cc (rw (eq-eqb h.kept.number n same) at e) in
      let then : x ≡ g = cc (rw (eq-eqb x.kept.number n (w.1.number ∙ same)) at d) in
      subst (λ (y : File). TellsTag n f y after) then
      (subst (λ (y : File). TellsTag n y x after) first
      (tells_here out n h x fs gs before w.0 after same w.1 w.2))
  | inr other ↦
      tells_each out n f g fs gs w.0 after w.2 (rw (ne_eqb h.kept.number n other) at e)
      (rw (ne_eqb x.kept.number n (λ q. other (sym w.1.number ∙ q))) at d)
]

pub step_tells : (s : Server) (chosen : List ℕ) (i : Input) → IsSound s → IsNamedInput i → makes i ≡ false → (n : ℕ)
    (f g : File) → file_at s.files n ≡ Some f → file_at (step s chosen i).state.files n ≡ Some g
    → TellsTag n f g (step s chosen i).notes
step_tells s chosen i sound named none n f g e d =
    let w : Went (taken_out s i) s (step s chosen i) = went s chosen i sound named none in
    tells_each (taken_out s i) n f g s.files (step s chosen i).state.files [] (step s chosen i).notes w.each e d

-- ---- its line

skips : (l : Line) (o : Option Line) (ls : List Line) → In l ls → In l (cons_option o ls)
skips l None ls i = i
skips l (Some x) ls i = inr i

pub in_lines : (ns : List Note) (x : Note) (l : Line) → In x ns → known_note_line x ≡ Some l
    → In l (filter_map known_note_line ns)
in_lines [] x l i e = absurd i
in_lines (n ∷ ns) x l (inl same) e = rw (ap known_note_line (sym same) ∙ e) (inl refl)
in_lines (n ∷ ns) x l (inr i) e = skips l (known_note_line n) _ (in_lines ns x l i e)

pub fence_told : (n tag : ℕ) (ns : List Note) → n < FILES → In (fence_note n tag) ns
    → In (line.Note n (told.Fenced tag)) (filter_map known_note_line ns)
fence_told n tag ns known i =
    in_lines ns (fence_note n tag) (line.Note n (told.Fenced tag)) i (rw (lt-ltb n FILES known) refl)
