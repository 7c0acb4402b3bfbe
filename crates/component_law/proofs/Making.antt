-- A file is made; and what each step leaves.
use Rattle.std.proofs.Common.{◌≡◌, ℕ, ◌≤◌, ◌<◌, ◌==◌, ◌∷◌, [], List, Bool, true, false, Option, Some, None, nat_lt, length, refl, sym, ap, subst, ◌∙◌, arith, inl, inr, eq-eqb, ne_eqb}
use Rattle.std.proofs.lemmas.Bool.{cases_Bool, cases_eq}
use Rattle.scenario_text.specs.declared.names.TheConstants.{FILES}
use Rattle.scenario_text.specs.declared.line.Line.{Line}
use Rattle.server_rules.specs.Files.{Step, file_at, add_file, at_file}
use Rattle.server_rules.specs.Jobs.{making}
use Rattle.server_rules.specs.Making.{refusal, unless_refused, drives_for, unmade, with_file, makes_file, create_file}
use Rattle.server_rules.specs.History.{Input, Makes, step, unless_made}
use Rattle.server_rules.proofs.Components.{length_components}
use Rattle.server_rules.proofs.Placed.{length_made}
use Rattle.server_rules.proofs.FileLaws.{not_there}
use Rattle.world_history.specs.ServerNames.{Server, File, RawMap, Refusal, Note}
use Rattle.component_law.specs.Words.{Each}
use Rattle.component_law.specs.Distinct.{AreDistinct}
use Rattle.component_law.specs.Naming.{IsNamedInput}
use Rattle.component_law.specs.Sound.{IsAimed, IsSound, EachStepIsSound}
use Rattle.component_law.specs.Going.{taken_out, IsMaking, Goes, EachStepTells}
use Rattle.component_law.proofs.FileNotes.{tells_first}
use Rattle.component_law.proofs.Jobs.{ends_making}
use Rattle.component_law.proofs.Rounds.{WentEach, NoneHas, went_plain, went_put, stays_each, distinct_went, components_went, aimed_went, named_went}
use Rattle.component_law.proofs.Lines.{lines_of}
use Rattle.component_law.proofs.Finding.{at_number, goes}
use Rattle.component_law.proofs.Steps.{Went, went, makes}

-- ---- one file more

pub each_added : (P : File → Type 0) (fs : List File) (f : File) → Each P fs → P f → Each P (add_file fs f)
unfolding add_file
each_added P [] f h p = (p, tt)
each_added P (g ∷ fs) f h p = elim (cases_Bool (nat_lt g.kept.number f.kept.number)) [
  | inl t ↦ rw t (h.0, each_added P fs f h.1 p)
  | inr z ↦ rw z (p, h)
]

pub none_there : (fs : List File) (n : ℕ) → file_at fs n ≡ None → NoneHas n fs
unfolding file_at
none_there [] n e = tt
none_there (f ∷ fs) n e = elim (cases_eq f.kept.number n) [
  | inl s ↦ absurd (cc (rw (eq-eqb f.kept.number n s) at e))
  | inr o ↦ (o, none_there fs n (rw (ne_eqb f.kept.number n o) at e))
]

pub distinct_added : (fs : List File) (f : File) → AreDistinct fs → NoneHas f.kept.number fs → AreDistinct (add_file fs f)
unfolding add_file
distinct_added [] f d h = (tt, tt)
distinct_added (g ∷ fs) f d h = elim (cases_Bool (nat_lt g.kept.number f.kept.number)) [
  | inl t ↦
      rw t (each_added (λ (x : File). x.kept.number ≡ g.kept.number → ⊥) fs f d.0 (λ e. h.0 (sym e)), distinct_added fs f d.1 h.1)
  | inr z ↦ rw z (h, d)
]

pub there : (fs : List File) (f : File) → NoneHas f.kept.number fs → file_at (add_file fs f) f.kept.number ≡ Some f
unfolding file_at add_file
there [] f h = rw (eq-eqb f.kept.number f.kept.number refl) refl
there (g ∷ fs) f h = elim (cases_Bool (nat_lt g.kept.number f.kept.number)) [
  | inl t ↦ rw t (rw (ne_eqb g.kept.number f.kept.number h.0) (there fs f h.1))
  | inr z ↦ rw z (rw (eq-eqb f.kept.number f.kept.number refl) refl)
]

pub beside : (fs : List File) (f : File) (n : ℕ) → (f.kept.number == n) ≡ false → file_at (add_file fs f) n ≡ file_at fs n
unfolding file_at add_file
beside [] f n e = rw e refl
beside (g ∷ fs) f n e = elim (cases_Bool (nat_lt g.kept.number f.kept.number)) [
  | inl t ↦ rw t (elim (cases_Bool (g.kept.number == n)) [ inl x ↦ rw x refl | inr z ↦ rw z (beside fs f n e) ])
  | inr z ↦ rw z (rw e refl)
]

-- ---- it is made

-- the files with it
pub went_made : (s : Server) (f : File) → IsSound s → NoneHas f.kept.number s.files → IsAimed f
    → WentEach None (add_file s.files f) [] (makes_file s f).state.files (makes_file s f).notes
went_made s f h none a =
    went_put (add_file s.files f) f.kept.number f (making (at_file (with_file s f) [] f)).file []
    (making (at_file (with_file s f) [] f)).effects.notes (each_added IsAimed s.files f h.aimed a) (there s.files f none)
    (went_plain f [] (making (at_file (with_file s f) [] f))
    (ends_making f.kept [] (at_file (with_file s f) [] f) (tells_first (at_file (with_file s f) [] f))))

sound_made : (s : Server) (f : File) → IsSound s → NoneHas f.kept.number s.files → IsAimed f → f.kept.number < FILES
    → length f.kept.components ≤ f.kept.map.comps → IsSound (makes_file s f).state
sound_made s f h none a named few =
    let gs : List File = (makes_file s f).state.files in
    let notes : List Note = (makes_file s f).notes in
    let w : WentEach None (add_file s.files f) [] gs notes = went_made s f h none a in
    record {
      distinct = distinct_went None (add_file s.files f) gs [] notes (distinct_added s.files f h.distinct none) w;
      components = components_went None (add_file s.files f) gs [] notes
          (each_added (λ (x : File). length x.kept.components ≤ x.kept.map.comps) s.files f h.components few) w;
      aimed = aimed_went None (add_file s.files f) gs [] notes w;
      files = named_went None (add_file s.files f) gs [] notes
          (each_added (λ (x : File). x.kept.number < FILES) s.files f h.files named) w;
      drives = h.drives;
    }

-- the others go on
made_here : (i : Input) (out : Option ℕ) (ls : List Line) (n : ℕ) (o p : Option File) → o ≡ None → IsMaking i n
    → Goes i out ls n o p
made_here i out ls n None None e m = tt
made_here i out ls n None (Some g) e m = m
made_here i out ls n (Some f) p e m = absurd (cc e)

tells_made : (s : Server) (i : Input) (f : File) → taken_out s i ≡ None → IsSound s → NoneHas f.kept.number s.files → IsAimed f
    → f.kept.number < FILES → file_at s.files f.kept.number ≡ None → IsMaking i f.kept.number → (n : ℕ)
    → Goes i (taken_out s i) (lines_of (makes_file s f).notes) n (file_at s.files n)
    (file_at (makes_file s f).state.files n)
tells_made s i f out h none a named lacks m n =
    let gs : List File = (makes_file s f).state.files in
    let notes : List Note = (makes_file s f).notes in
    elim (cases_eq f.kept.number n) [
      | inl e ↦ made_here i (taken_out s i) (lines_of notes) n (file_at s.files n) (file_at gs n)
          (ap (λ (x : ℕ). file_at s.files x) (sym e) ∙ lacks) (subst (λ (x : ℕ). IsMaking i x) e m)
      | inr o ↦ rw out (subst (λ (q : Option File). Goes i None (lines_of notes) n q (file_at gs n))
          (beside s.files f n (ne_eqb f.kept.number n o))
          (goes i None n notes (file_at (add_file s.files f) n) (file_at gs n)
          (at_number None n (add_file s.files f) gs [] notes (distinct_added s.files f h.distinct none)
          (each_added (λ (x : File). x.kept.number < FILES) s.files f h.files named) (went_made s f h none a))))
    ]

-- ---- any step

sound_went : (out : Option ℕ) (s : Server) (did : Step) → IsSound s → Went out s did → IsSound did.state
sound_went out s did h w = record {
  distinct = distinct_went out s.files did.state.files [] did.notes h.distinct w.each;
  components = components_went out s.files did.state.files [] did.notes h.components w.each;
  aimed = aimed_went out s.files did.state.files [] did.notes w.each;
  files = named_went out s.files did.state.files [] did.notes h.files w.each;
  drives = w.known;
}

tells_went : (i : Input) (s : Server) (did : Step) → IsSound s → Went (taken_out s i) s did → (n : ℕ)
    → Goes i (taken_out s i) (lines_of did.notes) n (file_at s.files n) (file_at did.state.files n)
tells_went i s did h w n =
    goes i (taken_out s i) n did.notes (file_at s.files n) (file_at did.state.files n)
    (at_number (taken_out s i) n s.files did.state.files [] did.notes h.distinct h.files w.each)

-- a file that is made, or refused
sound_unless : (s : Server) (n : ℕ) (m : RawMap) (tag : ℕ) (zoned : Bool) (ds : List ℕ) (o : Option Refusal)
    → refusal s n m zoned ≡ o → IsSound s → n < FILES → (refusal s n m zoned ≡ None → length ds ≡ m.comps)
    → IsSound (unless_made s (unless_refused o (makes_file s (unmade s n m tag zoned ds)))).state
sound_unless s n m tag zoned ds (Some r) e h named many = h
sound_unless s n m tag zoned ds None e h named many =
    sound_made s (unmade s n m tag zoned ds) h (none_there s.files n (not_there s n m zoned e)) tt named
    (rw (length_components ds s.next_object) (omega (arith, many e)))

tells_unless : (s : Server) (n : ℕ) (m : RawMap) (tag : ℕ) (zoned : Bool) (ds : List ℕ) (o : Option Refusal)
    → refusal s n m zoned ≡ o → IsSound s → n < FILES → (k : ℕ)
    → Goes (Makes n m tag zoned) None
    (lines_of (unless_made s (unless_refused o (makes_file s (unmade s n m tag zoned ds)))).notes) k (file_at s.files k)
    (file_at (unless_made s (unless_refused o (makes_file s (unmade s n m tag zoned ds)))).state.files k)
tells_unless s n m tag zoned ds (Some r) e h named k =
    goes (Makes n m tag zoned) None k [] (file_at s.files k) (file_at s.files k)
    (at_number None k s.files s.files [] [] h.distinct h.files (stays_each s.files [] h.aimed))
tells_unless s n m tag zoned ds None e h named k =
    tells_made s (Makes n m tag zoned) (unmade s n m tag zoned ds) refl h (none_there s.files n (not_there s n m zoned e)) tt
    named (not_there s n m zoned e) refl k

sound_created : (s : Server) (chosen : List ℕ) (n : ℕ) (m : RawMap) (tag : ℕ) (zoned : Bool) → IsSound s → n < FILES
    → IsSound (step s chosen (Makes n m tag zoned)).state
unfolding create_file
sound_created s chosen n m tag zoned h named =
    sound_unless s n m tag zoned (drives_for zoned s.drives m chosen) (refusal s n m zoned) refl h named
    (length_made s n m zoned chosen)

tells_created : (s : Server) (chosen : List ℕ) (n : ℕ) (m : RawMap) (tag : ℕ) (zoned : Bool) → IsSound s → n < FILES
    → (k : ℕ)
    → Goes (Makes n m tag zoned) None (lines_of (step s chosen (Makes n m tag zoned)).notes) k (file_at s.files k)
    (file_at (step s chosen (Makes n m tag zoned)).state.files k)
unfolding create_file
tells_created s chosen n m tag zoned h named k =
    tells_unless s n m tag zoned (drives_for zoned s.drives m chosen) (refusal s n m zoned) refl h named k

-- each step
sound_by : (b : Bool) (s : Server) (chosen : List ℕ) (i : Input) → makes i ≡ b → IsSound s → IsNamedInput i
    → IsSound (step s chosen i).state
sound_by true s chosen (Makes n m tag zoned) e h named = sound_created s chosen n m tag zoned h named
sound_by true s chosen i e h named = absurd (cc e)
sound_by false s chosen i e h named = sound_went (taken_out s i) s (step s chosen i) h (went s chosen i h named e)

pub each_step_is_sound : EachStepIsSound
each_step_is_sound s chosen i h named = sound_by (makes i) s chosen i refl h named

tells_by : (b : Bool) (s : Server) (chosen : List ℕ) (i : Input) → makes i ≡ b → IsSound s → IsNamedInput i → (n : ℕ)
    → Goes i (taken_out s i) (lines_of (step s chosen i).notes) n (file_at s.files n)
    (file_at (step s chosen i).state.files n)
tells_by true s chosen (Makes k m tag zoned) e h named n = tells_created s chosen k m tag zoned h named n
tells_by true s chosen i e h named n = absurd (cc e)
tells_by false s chosen i e h named n = tells_went i s (step s chosen i) h (went s chosen i h named e) n

pub each_step_tells : EachStepTells
each_step_tells s chosen i h named n = tells_by (makes i) s chosen i refl h named n
