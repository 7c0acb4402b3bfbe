-- In each whole history the grants that fences ended go on as the lines of each step tell.
use Rattle.std.proofs.Common.{◌≡◌, ◌<◌, ◌&&◌, ℕ, Bool, true, false, List, [], ◌∷◌, ◌++◌, filter, nat_lt, Option, Some, None, refl, sym, ap, subst, ◌∙◌, inl, inr}
use Rattle.std.specs.List.{filter_map}
use Rattle.std.proofs.lemmas.Bool.{cases_Bool, cases_eq, lt-ltb, ne_eqb}
use Rattle.scenario_text.specs.declared.names.TheConstants.{FILES}
use Rattle.scenario_text.specs.declared.line.Note.{Note as ToldNote}
use Rattle.scenario_text.specs.declared.line.Note.TheVariants as note
use Rattle.scenario_text.specs.declared.line.Line.{Line}
use Rattle.scenario_text.specs.declared.line.Line.TheVariants as line
use Rattle.server_rules.specs.Files.{Step, file_at, put_file, add_file, at_file}
use Rattle.server_rules.specs.Going.{Going}
use Rattle.server_rules.specs.History.{Input, Makes, step, unless_made}
use Rattle.server_rules.specs.Jobs.{making}
use Rattle.server_rules.specs.Laws.{In, AreSafe, FilesArePut}
use Rattle.server_rules.specs.Making.{refusal, unless_refused, makes_file, create_file, with_file}
use Rattle.server_rules.proofs.FileLaws.{number_at, not_there, put_other}
use Rattle.server_rules.proofs.Members.{in_filter, in_filtered}
use Rattle.world_history.specs.ServerNames.{Server, File, RawMap, Refusal, Note, NoteKind, Repaired}
use Rattle.world_history.specs.Told.{told_note}
use Rattle.world_history.specs.Names.{is_tellable_note, note_line, known_note_line}
use Rattle.world_history.specs.Sending.{Move}
use Rattle.world_history.specs.Book.{placed_in, server_after}
use Rattle.world_history.specs.History.{OneEventMore}
use Rattle.world_history.specs.Laws.{ServerGoesOn}
use Rattle.history_law.specs.Moves.{IsFileRefusal}
use Rattle.history_law.specs.BookMoments.{lines_in}
use Rattle.history_law.specs.Doing.{ServerMoves}
use Rattle.history_law.specs.Grants.{GrantsAreSafe}
use Rattle.history_law.specs.Read.{BookIsRead, StepIsRead}
use Rattle.history_law.proofs.Staying.{written_front}
use Rattle.history_law.specs.Steps.{new_file}
use Rattle.component_law.specs.Going.{IsMaking}
use Rattle.component_law.specs.Seeing.{SeenIsSound}
use Rattle.component_law.specs.Sound.{IsSound}
use Rattle.component_law.specs.Tags.{EachStepRaisesTags}
use Rattle.component_law.proofs.Making.{none_there, there, beside}
use Rattle.component_law.proofs.Rounds.{each_at}
use Rattle.cause_law.specs.Changes as changes
use Rattle.cause_law.specs.Changes.{Changes}
use Rattle.cause_law.specs.EndedGrants as ended
use Rattle.cause_law.specs.EndedGrants.{RepairOver, EndedGoOn, EndedGo, EachEndedHasItsCause}
use Rattle.cause_law.proofs.Answering.{safe_at}
use Rattle.cause_law.proofs.CauseInputs.{IsShown, at_inputs}
use Rattle.cause_law.proofs.EndedParts.{IsOver, GoesSo, part_making}
use Rattle.cause_law.proofs.EndedSteps.{ended_so}
use Rattle.cause_law.proofs.Grants.{sound_at}
use Rattle.cause_law.proofs.NoteLines.{is_note, IsOfNotes, rest_tells}
use Rattle.cause_law.proofs.Ordering.{changes_so}
use Rattle.cause_law.proofs.ReopenNoting.{in_lines as note_in_lines}

-- ---- lines and notes

abbrev tells_repair : Line → Bool
tells_repair (line.Note f (note.Repaired stripes left)) = true
tells_repair l = false

no_repair : (l : Line) → is_note l ≡ false → tells_repair l ≡ false
no_repair (line.Note f n) e = absurd (cc e)
no_repair l e = refl

refusal_none : (file : ℕ) (n : ToldNote) → IsFileRefusal n → tells_repair (line.Note file n) ≡ false
refusal_none f (note.Repaired stripes left) q = absurd q
refusal_none f n q = refl

of_repairs : IsOfNotes tells_repair
of_repairs = record { others = no_repair; refusals = refusal_none }

-- a note of file n that a repair is over has its line
line_there : (n : ℕ) (ns : List Note) → n < FILES → IsOver n ns → RepairOver n (filter_map known_note_line ns)
line_there n ns named (a, b, i) =
    (a, b, note_in_lines ns (record { file = n; kind = Repaired a b }) _ i (rw (lt-ltb n FILES named) refl))

abbrev note_of : ℕ → NoteKind → Note
note_of n k = record { file = n; kind = k }

-- and such a line is of a note
note_there : (n : ℕ) (ns : List Note) → RepairOver n (filter_map known_note_line ns) → IsOver n ns
note_there n ns (a, b, i) = (a, b, among ns i)
  where
    kind_is : (k : NoteKind) → note.Repaired a b ≡ told_note k → k ≡ Repaired a b
    kind_is (Repaired x y) e = cc e
    kind_is k e = absurd (cc e)

    pair : (m f : ℕ) (k l : NoteKind) → m ≡ f → k ≡ l → note_of m k ≡ note_of f l
    pair m f k l e d = rw (e, d) refl

    own : (x : Note) → line.Note n (note.Repaired a b) ≡ note_line x → record { file = n; kind = Repaired a b } ≡ x
    own x e =
        let file : n ≡ x.file = cc e in
        let kind : note.Repaired a b ≡ told_note x.kind = cc e in
        pair n x.file (Repaired a b) x.kind file (sym (kind_is x.kind kind))

    among : (xs : List Note) → In (line.Note n (note.Repaired a b)) (filter_map known_note_line xs)
        → In (record { file = n; kind = Repaired a b }) xs
    among [] j = absurd j
    among (x ∷ xs) j = elim (cases_Bool (nat_lt x.file FILES && is_tellable_note x.kind)) [
      | inl t ↦ elim (rw t at j) [ inl same ↦ inl (own x same) | inr k ↦ inr (among xs k) ]
      | inr z ↦ inr (among xs (rw z at j))
    ]

-- lines that tell the same of repairs
over_same : (n : ℕ) (ls ms : List Line) → filter tells_repair ls ≡ filter tells_repair ms → RepairOver n ls → RepairOver n ms
over_same n ls ms same (a, b, i) =
    let l : Line = line.Note n (note.Repaired a b) in
    (a, b, (in_filtered tells_repair l ms (subst (In l) same (in_filter tells_repair l ls i refl))).0)

-- ---- a file

-- by the notes of the step, and by its lines
in_lines : (n : ℕ) (f g : File) (ns : List Note) (lines : List Line) → f.kept.number ≡ n
    → (IsOver n ns → RepairOver n lines) → (RepairOver n lines → IsOver n ns) → GoesSo f g ns
    → EndedGoOn lines n (Some f) (Some g)
in_lines n f g ns lines is shows told (inl (over_now, none)) =
    ended.Taken f g (shows (subst (λ (k : ℕ). IsOver k ns) is over_now)) none
in_lines n f g ns lines is shows told (inr (not_, inl (under, grows))) =
    ended.Grows f g (λ o. not_ (subst (λ (k : ℕ). IsOver k ns) (sym is) (told o))) under grows
in_lines n f g ns lines is shows told (inr (not_, inr (none, same))) =
    ended.Stays f g (λ o. not_ (subst (λ (k : ℕ). IsOver k ns) (sym is) (told o))) none same

-- a new file has no ended grants
module _ (put : FilesArePut) (s : Server) (x : File) (absent : file_at s.files x.kept.number ≡ None)
    (none : x.kept.grants ≡ []) (none_ended : x.kept.ended ≡ []) where
  abbrev h : Going
  h = making (at_file (with_file s x) [] x)

  made_none : (n : ℕ) (g : File) → file_at s.files n ≡ None
      → file_at (put_file (add_file s.files x) x.kept.number h.file) n ≡ Some g → g.kept.ended ≡ []
  made_none n g before e = elim (cases_eq x.kept.number n) [
    | inl same ↦
        let part = part_making (at_file (with_file s x) [] x) (λ o. o.2) in
        let behind : file_at (put_file (add_file s.files x) x.kept.number h.file) x.kept.number ≡ Some h.file =
        (put (add_file s.files x) x.kept.number h.file x part.number
        (there s.files x (none_there s.files x.kept.number absent))).0 in
        let is : Some h.file ≡ Some g =
        sym behind ∙ ap (file_at (put_file (add_file s.files x) x.kept.number h.file)) same ∙ e in
        subst (λ (y : File). y.kept.ended ≡ []) (one h.file g is) (by part.goes)
    | inr other ↦
        let part = part_making (at_file (with_file s x) [] x) (λ o. o.2) in
        absurd (cc (sym before ∙ sym (beside s.files x n (ne_eqb x.kept.number n other))
        ∙ sym (put_other (add_file s.files x) x.kept.number h.file part.number n (ne_eqb x.kept.number n other)) ∙ e))
  ]
    where
      one : (y z : File) → Some y ≡ Some z → y ≡ z
      one y z q = cc q

      by : GoesSo x h.file h.effects.notes → h.file.kept.ended ≡ []
      by (inl o) = o.1
      by (inr (not_, inl (under, grows))) = grows ∙ rw (none_ended, none) refl
      by (inr (not_, inr (over_none, same))) = same ∙ none_ended

-- ---- a step

module _ (put : FilesArePut) (raise : EachStepRaisesTags) (s : Server) (safe : AreSafe s.files) (sound : IsSound s)
    (chosen : List ℕ) where
  created : (k : ℕ) (m : RawMap) (tag n : ℕ) (zoned : Bool) (g : File) → file_at s.files n ≡ None
      → file_at (step s chosen (Makes k m tag zoned)).state.files n ≡ Some g → g.kept.ended ≡ []
  unfolding create_file
  created k m tag n zoned g none = by (refusal s k m zoned) refl
    where
      x : File
      x = new_file s chosen k m tag zoned

      by : (o : Option Refusal) → refusal s k m zoned ≡ o
          → file_at (unless_made s (unless_refused o (makes_file s x))).state.files n ≡ Some g → g.kept.ended ≡ []
      by (Some why) e b = absurd (cc (sym none ∙ b))
      by None e b = made_none put s x (not_there s k m zoned e) refl refl n g none b

  module _ (i : Input) where
    abbrev did : Step
    did = step s chosen i

    made_so : (n : ℕ) (g : File) → file_at s.files n ≡ None → file_at did.state.files n ≡ Some g → g.kept.ended ≡ []
    made_so n g none behind = by (changes_so put raise s chosen safe sound i n)
      where
        making_so : (j : Input) → i ≡ j → IsMaking j n → g.kept.ended ≡ []
        making_so (Makes k m tag zoned) is making_it =
            created k m tag n zoned g none (subst (λ (y : Input). file_at (step s chosen y).state.files n ≡ Some g) is behind)
        making_so j is making_it = absurd making_it

        by_files : (o p : Option File) → o ≡ None → p ≡ Some g → Changes s i n o p → g.kept.ended ≡ []
        by_files None None a b c = absurd (cc b)
        by_files None (Some y) a b (changes.Made z making_it none_live size) = making_so i refl making_it
        by_files (Some y) p a b c = absurd (cc a)

        by : Changes s i n (file_at s.files n) (file_at did.state.files n) → g.kept.ended ≡ []
        by c = by_files (file_at s.files n) (file_at did.state.files n) none behind c

    goes_so : (n : ℕ) (lines : List Line) → (n < FILES → IsOver n did.notes → RepairOver n lines)
        → (RepairOver n lines → IsOver n did.notes) → (o p : Option File) → file_at s.files n ≡ o
        → file_at did.state.files n ≡ p → EndedGoOn lines n o p
    goes_so n lines shows told None None before behind = ended.Absent
    goes_so n lines shows told None (Some g) before behind = ended.Made g (made_so n g before behind)
    goes_so n lines shows told (Some f) None before behind =
        let r = raise s chosen i sound n f before in absurd (cc (sym behind ∙ r.there))
    goes_so n lines shows told (Some f) (Some g) before behind =
        let is : f.kept.number ≡ n = number_at s.files n f before in
        let named : n < FILES =
        subst (λ (k : ℕ). k < FILES) is
        (each_at (λ (x : File). x.kept.number < FILES) s.files n f sound.files before) in
        in_lines n f g did.notes lines is (shows named) told
        (ended_so put s safe sound.distinct n f before chosen i g behind)

module _ (put : FilesArePut) (raise : EachStepRaisesTags) (moves : ServerMoves) (seen : SeenIsSound) (safe : GrantsAreSafe)
    (read : BookIsRead) where
  shown : IsShown EndedGo
  shown = record {
    shows = λ w h k m d written front l after is i moved file.
        let upto : List Line = (h ++ front) ++ l ∷ after in
        let its : Step = step w.server (placed_in after) i in
        let same : filter tells_repair after ≡ filter tells_repair (filter_map known_note_line its.notes) =
        rest_tells tells_repair of_repairs moves w h m front l after is i moved its moved.did in
        subst (λ (s : Server). EndedGoOn after file (file_at s.files file) (file_at (server_after upto).files file))
        (sym moved.server)
        (subst (λ (s : Server). EndedGoOn after file (file_at w.server.files file) (file_at s.files file)) (sym moved.behind)
        (goes_so put raise w.server (safe_at safe w h k)
        (sound_at seen read w h k (written_front h (lines_in w m) written)) (placed_in after) i file after
        (λ named o. over_same file (filter_map known_note_line its.notes) after (sym same) (line_there file its.notes named o))
        (λ o. note_there file its.notes (over_same file after (filter_map known_note_line its.notes) same o))
        (file_at w.server.files file) (file_at its.state.files file) refl refl));
  }

  pub each_ended_has_its_cause : StepIsRead → OneEventMore → ServerGoesOn → EachEndedHasItsCause
  each_ended_has_its_cause step_read more on w h s written =
      at_inputs read step_read moves more on EndedGo shown w h s written
