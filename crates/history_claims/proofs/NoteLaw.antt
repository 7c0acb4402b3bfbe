-- In each whole history each note of the server has its cause.
use Rattle.std.proofs.Common.{◌≡◌, ℕ, Bool, true, false, List, [], ◌∷◌, ◌++◌, Option, Some, None, refl, sym, ap, subst, ◌∙◌, inl, inr}
use Rattle.std.proofs.lemmas.Bool.{cases_Bool}
use Rattle.std.specs.List.{filter_map, cons_option}
use Rattle.server_rules.specs.Files.{Step, file_at}
use Rattle.server_rules.specs.History.{Input, step}
use Rattle.server_rules.specs.Laws.{In, ConflictsAreExact, AreSafe}
use Rattle.server_rules.proofs.Members.{in_filter, in_filtered}
use Rattle.scenario_text.specs.declared.line.Note.{Note as ToldNote}
use Rattle.scenario_text.specs.declared.line.Note.TheVariants as note
use Rattle.scenario_text.specs.declared.line.Line.{Line}
use Rattle.scenario_text.specs.declared.line.Line.TheVariants as line
use Rattle.world_history.specs.ServerNames.{Server, Note}
use Rattle.world_history.specs.State.{World}
use Rattle.world_history.specs.Told.{told_note}
use Rattle.world_history.specs.Names.{where_known, note_line, known_note_line}
use Rattle.world_history.specs.Sending.{Move, move}
use Rattle.world_history.specs.Book.{placed_in, server_after}
use Rattle.world_history.specs.History.{OneEventMore}
use Rattle.world_history.specs.Laws.{ServerGoesOn}
use Rattle.history_law.specs.Moves.{IsFileRefusal}
use Rattle.history_law.specs.BookMoments.{lines_in}
use Rattle.history_law.specs.Doing.{ServerMoves}
use Rattle.history_law.specs.Grants.{GrantsAreSafe}
use Rattle.history_law.specs.Read.{BookIsRead, StepIsRead}
use Rattle.history_law.proofs.Staying.{written_front}
use Rattle.history_law.proofs.Ending.{next_moment}
use Rattle.component_law.specs.Distinct.{AreDistinct}
use Rattle.component_law.specs.Seeing.{SeenIsSound}
use Rattle.cause_law.proofs.NoteLines.{is_note, IsOfNotes, rest_tells}
use Rattle.cause_law.proofs.CauseInputs.{IsMoved, IsShown, at_inputs}
use Rattle.cause_law.proofs.Changing.{at_place}
use Rattle.cause_law.proofs.Answering.{safe_at}
use Rattle.cause_law.proofs.Grants.{sound_at}
use Rattle.history_claims.specs.Notes as notes
use Rattle.history_claims.specs.Notes.{CausedOf, CausedAtFirst, HasCause, NotesAreCaused, EachNoteHasItsCause}
use Rattle.history_claims.proofs.NoteSteps.{Was, Of, AtFirst, notes_caused}

-- ---- lines that tell a note of a step

-- that a file isn't made is told by no step
abbrev pub is_told : ToldNote → Bool
is_told note.Exists = false
is_told (note.BadMap why) = false
is_told (note.TooFew online) = false
is_told (note.NoSpread online) = false
is_told n = true

abbrev pub tells_note : Line → Bool
tells_note (line.Note f n) = is_told n
tells_note l = false

no_note : (l : Line) → is_note l ≡ false → tells_note l ≡ false
no_note (line.Note f n) e = absurd (cc e)
no_note l e = refl

no_refusal : (file : ℕ) (n : ToldNote) → IsFileRefusal n → tells_note (line.Note file n) ≡ false
no_refusal file note.Exists q = refl
no_refusal file (note.BadMap why) q = refl
no_refusal file (note.TooFew online) q = refl
no_refusal file (note.NoSpread online) q = refl
no_refusal file n q = absurd q

refusal_is : (n : ToldNote) → is_told n ≡ false → IsFileRefusal n
refusal_is note.Exists e = tt
refusal_is (note.BadMap why) e = tt
refusal_is (note.TooFew online) e = tt
refusal_is (note.NoSpread online) e = tt
refusal_is n e = absurd (cc e)

pub of_notes : IsOfNotes tells_note
of_notes = record { others = no_note; refusals = no_refusal }

-- ---- the note of a line

-- a note that the line tells
pub record IsTold (ns : List Note) (file : ℕ) (n : ToldNote) : Type 0 where
  pub noted : Note
  pub there : In noted ns
  pub file_is : noted.file ≡ file
  pub kind_is : told_note noted.kind ≡ n

same_line : (f g : ℕ) (m n : ToldNote) → line.Note f m ≡ line.Note g n → (f ≡ g) × (m ≡ n)
same_line f g m n e = (cc e, cc e)

noted_by : (ns : List Note) (file : ℕ) (n : ToldNote) → In (line.Note file n) (filter_map known_note_line ns)
    → IsTold ns file n
noted_by [] file n i = absurd i
noted_by (x ∷ ns) file n i = by (known_note_line x) refl i (noted_by ns file n)
  where
    more : IsTold ns file n → IsTold (x ∷ ns) file n
    more t = record { noted = t.noted; there = inr t.there; file_is = t.file_is; kind_is = t.kind_is }

    it_is : (b : Bool) (l : Line) → where_known b (note_line x) ≡ Some l → note_line x ≡ l
    it_is true l e = cc e
    it_is false l e = absurd (cc e)

    by : (o : Option Line) → known_note_line x ≡ o → In (line.Note file n) (cons_option o (filter_map known_note_line ns))
        → (In (line.Note file n) (filter_map known_note_line ns) → IsTold ns file n) → IsTold (x ∷ ns) file n
    by None e i rest = more (rest i)
    by (Some l) e (inr i) rest = more (rest i)
    by (Some l) e (inl same) rest =
        let both = same_line x.file file (told_note x.kind) n (it_is _ l e ∙ sym same) in
        record { noted = x; there = inl refl; file_is = both.0; kind_is = both.1 }

-- ---- a step

module _ (exact : ConflictsAreExact) (moves : ServerMoves) (w : World) (h : List Line) (m : Move) (front : List Line) (l : Line)
    (after : List Line) (is : lines_in w m ≡ front ++ l ∷ after) (i : Input) (moved : IsMoved w h m front l after i)
    (safe : AreSafe w.server.files) (before : AreDistinct w.server.files)
    (behind : AreDistinct (step w.server (placed_in after) i).state.files) where
  abbrev its : Step
  its = step w.server (placed_in after) i

  of_step : (file : ℕ) (n : ToldNote) → IsTold its.notes file n → HasCause w.server its.state i file n
  of_step file n t = by (notes_caused exact w.server (placed_in after) i safe t.noted t.there)
    where
      by : Was w.server i its.state.drives its.state.files t.noted → HasCause w.server its.state i file n
      by (Of f g f_in g_in number own caused) =
          let here : f.kept.number ≡ file = sym own ∙ t.file_is in
          notes.Of f g
          (subst (λ (k : ℕ). file_at w.server.files k ≡ Some f) here (at_place w.server.files f before f_in))
          (subst (λ (k : ℕ). file_at its.state.files k ≡ Some g) (number ∙ here) (at_place its.state.files g behind g_in))
          (subst (CausedOf w.server its.state.drives i f g) t.kind_is caused)
      by (AtFirst g g_in own none caused) =
          let here : g.kept.number ≡ file = sym own ∙ t.file_is in
          notes.AtFirst g (ap (file_at w.server.files) (sym here) ∙ none)
          (subst (λ (k : ℕ). file_at its.state.files k ≡ Some g) here (at_place its.state.files g behind g_in))
          (subst (CausedAtFirst i g) t.kind_is caused)

  line_caused : (file : ℕ) (n : ToldNote) → In (line.Note file n) after → HasCause w.server its.state i file n
  line_caused file n j = elim (cases_Bool (is_told n)) [
    | inr z ↦ notes.NotMade (refusal_is n z)
    | inl t ↦
        of_step file n (noted_by its.notes file n
        (in_filtered tells_note (line.Note file n) (filter_map known_note_line its.notes)
        (subst (In (line.Note file n)) (rest_tells tells_note of_notes moves w h m front l after is i moved its moved.did)
        (in_filter tells_note (line.Note file n) after j t))).0)
  ]

module _ (exact : ConflictsAreExact) (safe : GrantsAreSafe) (moves : ServerMoves) (seen : SeenIsSound) (read : BookIsRead) where
  shown : IsShown NotesAreCaused
  shown = record {
    shows = λ w h k m d written front l after is i moved file n j.
        let upto : List Line = (h ++ front) ++ l ∷ after in
        let behind : AreDistinct (step w.server (placed_in after) i).state.files =
        subst (λ (s : Server). AreDistinct s.files) moved.state
        (sound_at seen read (move w m).world (h ++ lines_in w m) (next_moment w h k m d) written).distinct in
        subst (λ (s : Server). HasCause s (server_after upto) i file n) (sym moved.server)
        (subst (λ (s : Server). HasCause w.server s i file n) (sym moved.behind)
        (line_caused exact moves w h m front l after is i moved (safe_at safe w h k)
        (sound_at seen read w h k (written_front h (lines_in w m) written)).distinct behind file n j));
  }

  pub each_note_has_its_cause : StepIsRead → OneEventMore → ServerGoesOn → EachNoteHasItsCause
  each_note_has_its_cause step_read more on w h s written =
      at_inputs read step_read moves more on NotesAreCaused shown w h s written
