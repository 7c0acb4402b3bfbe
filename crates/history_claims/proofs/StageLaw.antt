-- In each whole history each stage of a job that ends is told.
use Rattle.std.proofs.Common.{◌≡◌, ◌⊎◌, ◌<◌, ℕ, Bool, true, false, List, [], ◌∷◌, ◌++◌, Option, Some, None, refl, sym, ap, subst, ◌∙◌, append_assoc, inl, inr}
use Rattle.std.proofs.lemmas.Bool.{lt-ltb}
use Rattle.std.specs.List.{filter_map, cons_option}
use Rattle.scenario_text.specs.declared.names.TheConstants.{FILES}
use Rattle.scenario_text.specs.declared.line.Line.{Line}
use Rattle.scenario_text.specs.declared.line.Line.TheVariants as line
use Rattle.server_rules.specs.Files.{Step, file_at, at_file}
use Rattle.server_rules.specs.Going.{Going}
use Rattle.server_rules.specs.History.{Input, Hears, Makes, Obeys, Adds, Zones, Formats, Resends, Crashes, Opens, unless_made, step}
use Rattle.server_rules.specs.Jobs.{making}
use Rattle.server_rules.specs.Laws.{In, AreSafe}
use Rattle.server_rules.specs.Making.{refusal, unless_refused, makes_file, with_file, unmade, drives_for, create_file}
use Rattle.server_rules.proofs.FileLaws.{number_at}
use Rattle.server_rules.proofs.Members.{in_either, in_filter, in_filtered}
use Rattle.world_history.specs.ServerNames.{Server, File, RawMap, Refusal, Note, NoteKind, Ready}
use Rattle.world_history.specs.State.{World}
use Rattle.world_history.specs.Told.{told_note}
use Rattle.world_history.specs.Names.{is_tellable_note, note_line, known_note_line}
use Rattle.world_history.specs.Sending.{Move, move}
use Rattle.world_history.specs.Book.{placed_in, server_seen}
use Rattle.world_history.specs.History.{OneEventMore}
use Rattle.world_history.specs.Laws.{ServerGoesOn}
use Rattle.history_law.specs.BookMoments.{lines_in}
use Rattle.history_law.specs.Doing.{ServerMoves}
use Rattle.history_law.specs.Grants.{GrantsAreSafe}
use Rattle.history_law.specs.Read.{AreWritten, BookIsRead, StepIsRead}
use Rattle.history_law.proofs.Ending.{next_moment}
use Rattle.history_law.proofs.Files.{in_at}
use Rattle.history_law.proofs.Staying.{written_front}
use Rattle.component_law.specs.Distinct.{AreDistinct}
use Rattle.component_law.specs.Going.{taken_out}
use Rattle.component_law.specs.Naming.{IsNamedInput}
use Rattle.component_law.specs.Seeing.{SeenIsSound}
use Rattle.component_law.specs.Sound.{IsSound}
use Rattle.component_law.proofs.FileFacts.{named_input}
use Rattle.component_law.proofs.FileNotes.{AreTellable, noted_with}
use Rattle.component_law.proofs.NamedLines.{named_line}
use Rattle.component_law.proofs.Rounds.{WentEach, each_at}
use Rattle.component_law.proofs.Steps.{makes, went}
use Rattle.cause_law.proofs.Answering.{safe_at}
use Rattle.cause_law.proofs.CauseInputs.{IsMoved, IsShown, at_inputs}
use Rattle.cause_law.proofs.Changing.{at_place}
use Rattle.cause_law.proofs.Grants.{sound_at}
use Rattle.cause_law.proofs.NoteLines.{rest_tells}
use Rattle.cause_law.proofs.Noting.{written_there}
use Rattle.history_claims.specs.Stages.{Stage, IsAt, StageGoes, Stays, Tells, Stops, StagesGo, EachStageHasItsEnd}
use Rattle.history_claims.proofs.NoteWalk.{New, Own, adds_making}
use Rattle.history_claims.proofs.NoteLaw.{is_told, tells_note, of_notes}
use Rattle.history_claims.proofs.StageSteps.{WentOn, OnAs, OnNoted, OnStopped, stages_go}

-- ---- lines can tell the notes

of_kinds : (n : ℕ) (before : List Note) (ks : List NoteKind) → AreTellable ks → (x : Note) → In x (noted_with before n ks)
    → In x before ⊎ (is_tellable_note x.kind ≡ true)
of_kinds n before [] a x i = inl i
of_kinds n before (k ∷ ks) a x i = elim (in_either x (noted_with before n ks) _ i) [
  | inl j ↦ of_kinds n before ks a.1 x j
  | inr (inl e) ↦ inr (ap (λ (y : Note). is_tellable_note y.kind) e ∙ a.0)
  | inr (inr none) ↦ absurd none
]

of_files : (out : Option ℕ) (fs gs : List File) (before after : List Note) → WentEach out fs before gs after → (x : Note)
    → In x after → In x before ⊎ (is_tellable_note x.kind ≡ true)
of_files out [] [] before after w x i = inl (subst (In x) w i)
of_files out [] (g ∷ gs) before after w x i = absurd w
of_files out (f ∷ fs) [] before after w x i = absurd w
of_files out (f ∷ fs) (g ∷ gs) before after w x i = elim (of_files out fs gs w.0 after w.2 x i) [
  | inr t ↦ inr t
  | inl j ↦ of_kinds f.kept.number before w.1.kinds w.1.tellable x (subst (In x) w.1.notes j)
]

-- a file that is made is noted ready at most
of_making : (s : Server) (n : ℕ) (m : RawMap) (tag : ℕ) (zoned : Bool) (chosen : List ℕ) (x : Note)
    → In x (unless_made s (create_file s n m tag zoned chosen)).notes → is_tellable_note x.kind ≡ true
unfolding create_file
of_making s n m tag zoned chosen x = by (refusal s n m zoned)
  where
    f : File
    f = unmade s n m tag zoned (drives_for zoned s.drives m chosen)

    g : Going
    g = at_file (with_file s f) [] f

    told : New (Own n (λ kind. is_tellable_note kind ≡ true)) [] (making g).effects.notes
    told = adds_making n s.drives (making g).file (λ kind. is_tellable_note kind ≡ true) ⊥ ⊥ g (λ none job ready. refl) refl refl
        refl

    by : (o : Option Refusal) → In x (unless_made s (unless_refused o (makes_file s f))).notes
        → is_tellable_note x.kind ≡ true
    by (Some why) j = absurd j
    by None j = elim (told x j) [ inl none ↦ absurd none | inr (own, t) ↦ t ]

tellable : (s : Server) (chosen : List ℕ) (i : Input) → IsSound s → IsNamedInput i → (x : Note)
    → In x (step s chosen i).notes → is_tellable_note x.kind ≡ true
tellable s chosen i sound named x = by i refl
  where
    others : makes i ≡ false → In x (step s chosen i).notes → is_tellable_note x.kind ≡ true
    others e j =
        elim (of_files (taken_out s i) s.files (step s chosen i).state.files [] (step s chosen i).notes
        (went s chosen i sound named e).each x j) [ inl none ↦ absurd none | inr t ↦ t ]

    by : (k : Input) → i ≡ k → In x (step s chosen i).notes → is_tellable_note x.kind ≡ true
    by (Makes n m tag zoned) e j =
        of_making s n m tag zoned chosen x (subst (λ (y : Input). In x (step s chosen y).notes) e j)
    by (Hears now from message) e j = others (ap makes e) j
    by (Obeys kind n) e j = others (ap makes e) j
    by (Adds d) e j = others (ap makes e) j
    by (Zones d zone) e j = others (ap makes e) j
    by (Formats n) e j = others (ap makes e) j
    by Resends e j = others (ap makes e) j
    by Crashes e j = others (ap makes e) j
    by Opens e j = others (ap makes e) j

skips : (l : Line) (o : Option Line) (ls : List Line) → In l ls → In l (cons_option o ls)
skips l None ls i = i
skips l (Some x) ls i = inr i

pub in_lines : (ns : List Note) (x : Note) → In x ns → x.file < FILES → is_tellable_note x.kind ≡ true
    → In (note_line x) (filter_map known_note_line ns)
in_lines [] x i low tells = absurd i
in_lines (n ∷ ns) x (inr i) low tells = skips (note_line x) (known_note_line n) _ (in_lines ns x i low tells)
in_lines (n ∷ ns) x (inl same) low tells =
    subst (λ (y : Note). In (note_line x) (cons_option (known_note_line y) (filter_map known_note_line ns))) same
    (rw (lt-ltb x.file FILES low, tells) (inl refl))

-- no step notes that a file isn't made
pub told_so : (k : NoteKind) → is_told (told_note k) ≡ true
told_so Ready = refl
told_so k = refl

-- ---- a step

module _ (moves : ServerMoves) (w : World) (h : List Line) (m : Move) (front : List Line) (l : Line) (after : List Line)
    (is : lines_in w m ≡ front ++ l ∷ after) (i : Input) (moved : IsMoved w h m front l after i)
    (safe : AreSafe w.server.files) (sound : IsSound w.server) (named : IsNamedInput i)
    (behind : AreDistinct (step w.server (placed_in after) i).state.files) where
  abbrev its : Step
  its = step w.server (placed_in after) i

  -- a note of the step is told
  pub line_told : (x : Note) → In x its.notes → x.file < FILES → is_told (told_note x.kind) ≡ true
      → In (note_line x) after
  line_told x j low tells =
      (in_filtered tells_note (note_line x) after
      (subst (In (note_line x))
      (sym (rest_tells tells_note of_notes moves w h m front l after is i moved its moved.did))
      (in_filter tells_note (note_line x) (filter_map known_note_line its.notes)
      (in_lines its.notes x j low (tellable w.server (placed_in after) i sound named x j)) tells))).0

  stage_told : (file : ℕ) (f : File) (st : Stage) → file_at w.server.files file ≡ Some f → IsAt st f.job
      → StageGoes i after file st (file_at its.state.files file)
  stage_told file f st found at =
      by (stages_go w.server (placed_in after) i safe sound.distinct f (in_at w.server.files file f found) st at)
    where
      here : f.kept.number ≡ file
      here = number_at w.server.files file f found

      low : f.kept.number < FILES
      low = each_at (λ (y : File). y.kept.number < FILES) w.server.files file f sound.files found

      by : WentOn i its.state.files its.notes f st → StageGoes i after file st (file_at its.state.files file)
      by (OnStopped e) = Stops e
      by (OnAs g g_in number at_) =
          Stays g (subst (λ (k : ℕ). file_at its.state.files k ≡ Some g) (number ∙ here)
          (at_place its.state.files g behind g_in)) at_
      by (OnNoted kind ends j) =
          Tells (told_note kind) ends
          (subst (λ (k : ℕ). In (line.Note k (told_note kind)) after) here
          (line_told (record { file = f.kept.number; kind = kind }) j low (told_so kind)))

module _ (safe : GrantsAreSafe) (moves : ServerMoves) (seen : SeenIsSound) (read : BookIsRead) where
  shown : IsShown StagesGo
  shown = record {
    shows = λ w h k m d written front l after is i moved file f st found at.
        let upto : List Line = (h ++ front) ++ l ∷ after in
        let all : AreWritten ((h ++ front) ++ l ∷ after) =
        subst AreWritten (ap (λ (ls : List Line). h ++ ls) is ∙ sym (append_assoc h front (l ∷ after))) written in
        let behind : AreDistinct (step w.server (placed_in after) i).state.files =
        subst (λ (s : Server). AreDistinct s.files) moved.state
        (sound_at seen read (move w m).world (h ++ lines_in w m) (next_moment w h k m d) written).distinct in
        subst (λ (s : Server). StageGoes i after file st (file_at s.files file)) (sym moved.behind)
        (stage_told moves w h m front l after is i moved (safe_at safe w h k)
        (sound_at seen read w h k (written_front h (lines_in w m) written))
        (named_input (server_seen (h ++ front)) l i moved.comes (named_line l (written_there (h ++ front) l after all))) behind
        file f st (subst (λ (s : Server). file_at s.files file ≡ Some f) moved.server found) at);
  }

  pub each_stage_has_its_end : StepIsRead → OneEventMore → ServerGoesOn → EachStageHasItsEnd
  each_stage_has_its_end step_read more on w h s written =
      at_inputs read step_read moves more on StagesGo shown w h s written
