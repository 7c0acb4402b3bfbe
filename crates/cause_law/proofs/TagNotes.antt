-- In each whole history the tag of a file changes exactly in the steps whose lines tell that a fence of it is over.
use Rattle.std.proofs.Common.{◌≡◌, ◌≤◌, ℕ, Bool, true, false, List, [], ◌∷◌, ◌++◌, filter, Option, Some, None, refl, sym, ap, subst, ◌∙◌, append_assoc, arith, inl, inr}
use Rattle.std.specs.List.{filter_map}
use Rattle.std.proofs.lemmas.Bool.{cases_Bool}
use Rattle.server_rules.specs.Files.{Step, file_at}
use Rattle.server_rules.specs.History.{Input, step}
use Rattle.scenario_text.specs.declared.line.Note.{Note}
use Rattle.scenario_text.specs.declared.line.Note.TheVariants as note
use Rattle.scenario_text.specs.declared.line.Line.{Line}
use Rattle.scenario_text.specs.declared.line.Line.TheVariants as line
use Rattle.world_history.specs.ServerNames.{Server, File}
use Rattle.world_history.specs.State.{World}
use Rattle.world_history.specs.Names.{known_note_line}
use Rattle.world_history.specs.Sending.{Move}
use Rattle.world_history.specs.Book.{placed_in, server_seen, server_after}
use Rattle.world_history.specs.History.{OneEventMore}
use Rattle.world_history.specs.Laws.{ServerGoesOn}
use Rattle.history_law.specs.Moves.{IsFileRefusal}
use Rattle.history_law.specs.BookMoments.{lines_in}
use Rattle.history_law.specs.Doing.{ServerMoves}
use Rattle.history_law.specs.Read.{AreWritten, BookIsRead, StepIsRead}
use Rattle.history_law.proofs.Staying.{written_front}
use Rattle.component_law.specs.Sound.{IsSound}
use Rattle.component_law.specs.FenceTags.{tag_told, tags_told, Rise, TagRises, EachStepTellsTags}
use Rattle.component_law.specs.Naming.{IsNamed}
use Rattle.component_law.specs.Seeing.{SeenIsSound}
use Rattle.component_law.proofs.FileFacts.{named_input}
use Rattle.component_law.proofs.NamedLines.{named_line}
use Rattle.cause_law.specs.FenceTags as tags
use Rattle.cause_law.specs.FenceTags.{TagGoes, TagsGo, EachTagHasItsCause}
use Rattle.cause_law.proofs.NoteLines.{is_note, IsOfNotes, rest_tells}
use Rattle.cause_law.proofs.Noting.{written_there}
use Rattle.cause_law.proofs.CauseInputs.{IsMoved, IsShown, at_inputs}
use Rattle.cause_law.proofs.Grants.{sound_at}
use Rattle.cause_law.proofs.TagSteps.{Near, stays_near}

-- ---- lines that tell that a fence is over

abbrev tells_fence : Line → Bool
tells_fence (line.Note f (note.Fenced tag)) = true
tells_fence l = false

no_fence : (l : Line) → is_note l ≡ false → tells_fence l ≡ false
no_fence (line.Note f n) e = absurd (cc e)
no_fence l e = refl

refusal_none : (file : ℕ) (n : Note) → IsFileRefusal n → tells_fence (line.Note file n) ≡ false
refusal_none f (note.Fenced tag) q = absurd q
refusal_none f n q = refl

of_fences : IsOfNotes tells_fence
of_fences = record { others = no_fence; refusals = refusal_none }

none_told : (n : ℕ) (l : Line) → tells_fence l ≡ false → tag_told n l ≡ []
none_told n (line.Note f (note.Fenced tag)) e = absurd (cc e)
none_told n l e = refl

tags_filter : (n : ℕ) (ls : List Line) → tags_told n ls ≡ tags_told n (filter tells_fence ls)
tags_filter n [] = refl
tags_filter n (l ∷ ls) = elim (cases_Bool (tells_fence l)) [
  | inl t ↦ rw t (ap (λ (ts : List ℕ). tag_told n l ++ ts) (tags_filter n ls))
  | inr z ↦ rw z (ap (λ (ts : List ℕ). ts ++ tags_told n ls) (none_told n l z) ∙ tags_filter n ls)
]

tags_same : (n : ℕ) (ls ms : List Line) → filter tells_fence ls ≡ filter tells_fence ms → tags_told n ls ≡ tags_told n ms
tags_same n ls ms e = tags_filter n ls ∙ ap (λ (x : List Line). tags_told n x) e ∙ sym (tags_filter n ms)

-- ---- at most one of them

at_least : (t : ℕ) (ts : List ℕ) (u : ℕ) → Rise t ts u → t ≤ u
at_least t [] u r = omega (arith, r)
at_least t (v ∷ vs) u r = let more = at_least v vs u r.1 in omega (arith, r.0, more)

by_tags : (i : Input) (lines : List Line) (n : ℕ) (f g : File) (ts : List ℕ) → tags_told n lines ≡ ts → Near f g
    → Rise f.kept.tag ts g.kept.tag → TagGoes i lines n (Some f) (Some g)
by_tags i lines n f g [] e x r = tags.Stays f g e r
by_tags i lines n f g (v ∷ []) e x r = tags.Raised f g (e ∙ ap (λ (t : ℕ). t ∷ []) (sym r.1)) (r.1 ∙ r.0)
by_tags i lines n f g (v ∷ w ∷ ws) e x r =
    let more = at_least w ws g.kept.tag r.1.1 in
    absurd (elim x.1 [
      | inl same ↦ omega (arith, r.0, r.1.0, more, same)
      | inr next ↦ omega (arith, r.0, r.1.0, more, next)
    ])

goes_so : (i : Input) (lines : List Line) (n : ℕ) (o p : Option File)
    → ((f g : File) → o ≡ Some f → p ≡ Some g → Near f g) → TagRises i lines n o p → TagGoes i lines n o p
goes_so i lines n None None x r = tags.Absent r
goes_so i lines n None (Some g) x r = tags.Made g r.1 r.0
goes_so i lines n (Some f) None x r = absurd r
goes_so i lines n (Some f) (Some g) x r = by_tags i lines n f g (tags_told n lines) refl (x f g refl refl) r

-- the same of lines that tell the same
told_so : (i : Input) (ls ms : List Line) (n : ℕ) (o p : Option File) → tags_told n ls ≡ tags_told n ms
    → TagRises i ls n o p → TagRises i ms n o p
told_so i ls ms n None None e r = sym e ∙ r
told_so i ls ms n None (Some g) e r = (sym e ∙ r.0, r.1)
told_so i ls ms n (Some f) None e r = r
told_so i ls ms n (Some f) (Some g) e r = subst (λ (ts : List ℕ). Rise f.kept.tag ts g.kept.tag) e r

-- ---- a step

module _ (moves : ServerMoves) (tells : EachStepTellsTags) (w : World) (h : List Line) (m : Move) (front : List Line)
    (l : Line) (after : List Line) (is : lines_in w m ≡ front ++ l ∷ after) (i : Input)
    (moved : IsMoved w h m front l after i) (named : IsNamed l) (sound : IsSound w.server) where
  abbrev its : Step
  its = step w.server (placed_in after) i

  shown_so : (n : ℕ) → TagGoes i after n (file_at w.server.files n) (file_at its.state.files n)
  shown_so n =
      goes_so i after n (file_at w.server.files n) (file_at its.state.files n)
      (λ f g before behind. stays_near w.server (placed_in after) i sound n f g before behind)
      (told_so i (filter_map known_note_line its.notes) after n (file_at w.server.files n) (file_at its.state.files n)
      (tags_same n (filter_map known_note_line its.notes) after
      (sym (rest_tells tells_fence of_fences moves w h m front l after is i moved its moved.did)))
      (tells w.server (placed_in after) i sound (named_input (server_seen (h ++ front)) l i moved.comes named) n))

module _ (moves : ServerMoves) (tells : EachStepTellsTags) (seen : SeenIsSound) (read : BookIsRead) where
  shown : IsShown TagsGo
  shown = record {
    shows = λ w h k m d written front l after is i moved file.
        let upto : List Line = (h ++ front) ++ l ∷ after in
        let all : AreWritten ((h ++ front) ++ l ∷ after) =
        subst AreWritten (ap (λ (ls : List Line). h ++ ls) is ∙ sym (append_assoc h front (l ∷ after))) written in
        subst (λ (s : Server). TagGoes i after file (file_at s.files file) (file_at (server_after upto).files file))
        (sym moved.server)
        (subst (λ (s : Server). TagGoes i after file (file_at w.server.files file) (file_at s.files file)) (sym moved.behind)
        (shown_so moves tells w h m front l after is i moved (named_line l (written_there (h ++ front) l after all))
        (sound_at seen read w h k (written_front h (lines_in w m) written)) file));
  }

  pub each_tag_has_its_cause : StepIsRead → OneEventMore → ServerGoesOn → EachTagHasItsCause
  each_tag_has_its_cause step_read more on w h s written =
      at_inputs read step_read moves more on TagsGo shown w h s written
