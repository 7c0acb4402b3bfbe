-- The tag of each file in a step, as the lines of its notes tell.
use Rattle.std.proofs.Common.{◌≡◌, ℕ, ◌<◌, ◌+◌, ◌++◌, ◌∷◌, [], List, Bool, true, false, Option, Some, None, refl, sym, ap, subst, ◌∙◌, append_assoc, inl, inr, eq-eqb, ne_eqb}
use Rattle.std.proofs.lemmas.Bool.{cases_eq}
use Rattle.std.proofs.lemmas.Grind.{flat_map-append}
use Rattle.std.proofs.lemmas.List.{append-nil}
use Rattle.scenario_text.specs.declared.names.TheConstants.{FILES}
use Rattle.scenario_text.specs.declared.line.Line.{Line}
use Rattle.server_rules.specs.Commands.{Creating, All, to_all}
use Rattle.server_rules.specs.Files.{Step, file_at, add_file, at_file}
use Rattle.server_rules.specs.Going.{Going, rests_or}
use Rattle.server_rules.specs.History.{Input, Makes, step, unless_made}
use Rattle.server_rules.specs.Jobs.{is_made, making}
use Rattle.server_rules.specs.Making.{refusal, unless_refused, drives_for, unmade, with_file, makes_file, create_file}
use Rattle.server_rules.proofs.FileLaws.{not_there}
use Rattle.world_history.specs.ServerNames.{Server, File, Awaited, Making, Creates, RawMap, Refusal, Note, NoteKind, Fenced, Ready}
use Rattle.world_history.specs.Names.{note_line}
use Rattle.component_law.specs.Words.{Each}
use Rattle.component_law.specs.Distinct.{AreDistinct}
use Rattle.component_law.specs.Naming.{IsNamedInput}
use Rattle.component_law.specs.Sound.{IsAimed, IsSound}
use Rattle.component_law.specs.Going.{taken_out}
use Rattle.component_law.specs.FenceTags.{tag_told, tags_told, Rise, IsMakingWith, TagRises, EachStepTellsTags}
use Rattle.component_law.proofs.FileNotes.{AreTellable, noted_with, tag_behind, AreNext}
use Rattle.component_law.proofs.Lines.{lines_of, one_line, line_more}
use Rattle.component_law.proofs.Rounds.{WentAs, WentEach, NoneHas, stays_each}
use Rattle.component_law.proofs.Making.{none_there, distinct_added, there, beside, each_added, went_made}
use Rattle.component_law.proofs.Steps.{Went, went, makes}

-- ---- notes of a file, the last one first

-- the tags that they tell, in order
abbrev tags_of : List NoteKind → List ℕ
tags_of [] = []
tags_of (Fenced tag ∷ ks) = tags_of ks ++ tag ∷ []
tags_of (k ∷ ks) = tags_of ks

rise_more : (t : ℕ) (ts : List ℕ) (u : ℕ) → Rise t ts u → Rise t (ts ++ (u + 1) ∷ []) (u + 1)
rise_more t [] u r = (ap (λ (x : ℕ). x + 1) r, refl)
rise_more t (v ∷ vs) u r = (r.0, rise_more v vs u r.1)

rise_of : (t : ℕ) (ks : List NoteKind) → AreNext t ks → Rise t (tags_of ks) (tag_behind t ks)
rise_of t [] h = refl
rise_of t (Fenced u ∷ ks) h =
    subst (λ (x : ℕ). Rise t (tags_of ks ++ x ∷ []) x) (sym h.0) (rise_more t (tags_of ks) (tag_behind t ks) (rise_of t ks h.1))
rise_of t (k ∷ ks) h = rise_of t ks h

-- ---- the lines of notes

one_same : (n : ℕ) (k : NoteKind) → tag_told n (note_line (record { file = n; kind = k })) ≡ tags_of (k ∷ [])
one_same n (Fenced tag) = rw (eq-eqb n n refl) refl
one_same n k = refl

one_other : (n m : ℕ) (k : NoteKind) → (m ≡ n → ⊥) → tag_told n (note_line (record { file = m; kind = k })) ≡ []
one_other n m (Fenced tag) other = rw (ne_eqb m n other) refl
one_other n m k other = refl

tags_more : (k : NoteKind) (ks : List NoteKind) → tags_of (k ∷ ks) ≡ tags_of ks ++ tags_of (k ∷ [])
tags_more (Fenced tag) ks = refl
tags_more k ks = sym (append-nil (tags_of ks))

-- one more line
told_more : (before : List Note) (n m : ℕ) (k : NoteKind) (ks : List NoteKind) → m < FILES → AreTellable (k ∷ ks)
    → tags_told n (lines_of (noted_with before m (k ∷ ks)))
    ≡ tags_told n (lines_of (noted_with before m ks)) ++ tag_told n (note_line (record { file = m; kind = k }))
told_more before n m k ks named known =
    ap (λ (ls : List Line). tags_told n ls) (line_more before m k ks named known.0)
    ∙ flat_map-append (tag_told n) (lines_of (noted_with before m ks)) (note_line (record { file = m; kind = k }) ∷ [])
    ∙ ap (λ (ts : List ℕ). tags_told n (lines_of (noted_with before m ks)) ++ ts)
    (append-nil (tag_told n (note_line (record { file = m; kind = k }))))

told_here : (before : List Note) (n : ℕ) (ks : List NoteKind) → n < FILES → AreTellable ks
    → tags_told n (lines_of (noted_with before n ks)) ≡ tags_told n (lines_of before) ++ tags_of ks
told_here before n [] named known = sym (append-nil (tags_told n (lines_of before)))
told_here before n (k ∷ ks) named known =
    told_more before n n k ks named known
    ∙ ap (λ (ts : List ℕ). tags_told n (lines_of (noted_with before n ks)) ++ ts) (one_same n k)
    ∙ ap (λ (ts : List ℕ). ts ++ tags_of (k ∷ [])) (told_here before n ks named known.1)
    ∙ append_assoc (tags_told n (lines_of before)) (tags_of ks) (tags_of (k ∷ []))
    ∙ ap (λ (ts : List ℕ). tags_told n (lines_of before) ++ ts) (sym (tags_more k ks))

told_beside : (before : List Note) (n m : ℕ) (ks : List NoteKind) → (m ≡ n → ⊥) → m < FILES → AreTellable ks
    → tags_told n (lines_of (noted_with before m ks)) ≡ tags_told n (lines_of before)
told_beside before n m [] other named known = refl
told_beside before n m (k ∷ ks) other named known =
    told_more before n m k ks named known
    ∙ ap (λ (ts : List ℕ). tags_told n (lines_of (noted_with before m ks)) ++ ts) (one_other n m k other)
    ∙ append-nil (tags_told n (lines_of (noted_with before m ks))) ∙ told_beside before n m ks other named known.1

-- ---- files one after another

abbrev AreNumbered : List File → Type 0
AreNumbered fs = Each (λ (f : File). f.kept.number < FILES) fs

abbrev IsQuiet : (n : ℕ) → (before after : List Note) → Type 0
IsQuiet n before after = tags_told n (lines_of after) ≡ tags_told n (lines_of before)

quiet_one : (out : Option ℕ) (n : ℕ) (f g : File) (before after : List Note) → (f.kept.number ≡ n → ⊥)
    → f.kept.number < FILES → WentAs out f before g after → IsQuiet n before after
quiet_one out n f g before after other named w =
    ap (λ (ns : List Note). tags_told n (lines_of ns)) w.notes ∙ told_beside before n f.kept.number w.kinds other named w.tellable

quiet_each : (out : Option ℕ) (n : ℕ) (fs gs : List File) (before after : List Note) → NoneHas n fs → AreNumbered fs
    → WentEach out fs before gs after → IsQuiet n before after
quiet_each out n [] [] before after other named w = ap (λ (ns : List Note). tags_told n (lines_of ns)) w
quiet_each out n [] (g ∷ gs) before after other named w = absurd w
quiet_each out n (f ∷ fs) [] before after other named w = absurd w
quiet_each out n (f ∷ fs) (g ∷ gs) before after other named w =
    quiet_each out n fs gs w.0 after other.1 named.1 w.2 ∙ quiet_one out n f g before w.0 other.0 named.0 w.1

-- file n, before and behind notes
abbrev Told : (n : ℕ) → (before after : List Note) → Option File → Option File → Type 0
Told n before after None None = IsQuiet n before after
Told n before after (Some f) (Some g) =
    (ts : List ℕ) × (tags_told n (lines_of after) ≡ tags_told n (lines_of before) ++ ts) × Rise f.kept.tag ts g.kept.tag
Told n before after o p = ⊥

told_same : (out : Option ℕ) (f g : File) (fs gs : List File) (before middle after : List Note) → NoneHas f.kept.number fs
    → f.kept.number < FILES → AreNumbered fs → WentAs out f before g middle → WentEach out fs middle gs after
    → Told f.kept.number before after (Some f) (Some g)
told_same out f g fs gs before middle after other named all w ws = (
  tags_of w.kinds,
  quiet_each out f.kept.number fs gs middle after other all ws
      ∙ ap (λ (ns : List Note). tags_told f.kept.number (lines_of ns)) w.notes
      ∙ told_here before f.kept.number w.kinds named w.tellable,
  subst (λ (u : ℕ). Rise f.kept.tag (tags_of w.kinds) u) (sym w.tags.0) (rise_of f.kept.tag w.kinds w.tags.1),
)

told_before : (n : ℕ) (before middle after : List Note) (o p : Option File) → IsQuiet n before middle
    → Told n middle after o p → Told n before after o p
told_before n before middle after None None q a = a ∙ q
told_before n before middle after None (Some g) q a = absurd a
told_before n before middle after (Some f) None q a = absurd a
told_before n before middle after (Some f) (Some g) q a =
    (a.0, a.1 ∙ ap (λ (ts : List ℕ). ts ++ a.0) q, a.2)

told_at : (out : Option ℕ) (n : ℕ) (fs gs : List File) (before after : List Note) → AreDistinct fs → AreNumbered fs
    → WentEach out fs before gs after → Told n before after (file_at fs n) (file_at gs n)
unfolding file_at
told_at out n [] [] before after d named w = ap (λ (ns : List Note). tags_told n (lines_of ns)) w
told_at out n [] (g ∷ gs) before after d named w = absurd w
told_at out n (f ∷ fs) [] before after d named w = absurd w
told_at out n (f ∷ fs) (g ∷ gs) before after d named w = elim (cases_eq f.kept.number n) [
  | inl e ↦ rw (eq-eqb f.kept.number n e, eq-eqb g.kept.number n (w.1.number ∙ e))
      (subst (λ (x : ℕ). Told x before after (Some f) (Some g)) e
      (told_same out f g fs gs before w.0 after d.0 named.0 named.1 w.1 w.2))
  | inr o ↦ rw (ne_eqb f.kept.number n o, ne_eqb g.kept.number n (λ q. o (sym w.1.number ∙ q)))
      (told_before n before w.0 after (file_at fs n) (file_at gs n)
      (quiet_one out n f g before w.0 o named.0 w.1) (told_at out n fs gs w.0 after d.1 named.1 w.2))
]

-- ---- a step that makes no file

rises : (i : Input) (n : ℕ) (notes : List Note) (o p : Option File) → Told n [] notes o p
    → TagRises i (lines_of notes) n o p
rises i n notes None None t = t
rises i n notes None (Some g) t = absurd t
rises i n notes (Some f) None t = absurd t
rises i n notes (Some f) (Some g) t =
    subst (λ (ts : List ℕ). Rise f.kept.tag ts g.kept.tag) (sym t.1) t.2

rises_went : (out : Option ℕ) (i : Input) (s : Server) (did : Step) → IsSound s → Went out s did → (n : ℕ)
    → TagRises i (lines_of did.notes) n (file_at s.files n) (file_at did.state.files n)
rises_went out i s did h w n =
    rises i n did.notes (file_at s.files n) (file_at did.state.files n)
    (told_at out n s.files did.state.files [] did.notes h.distinct h.files w.each)

-- ---- a file is made

-- it is noted as ready at most
made_plain : (s : Server) (f : File) (n : ℕ) → f.kept.number < FILES
    → tags_told n (lines_of (making (at_file s [] f)).effects.notes) ≡ []
unfolding making
made_plain s f n named = by (to_all f.kept All Creating s.next_nonce)
  where
    g : Going
    g = at_file s [] f

    by : (cs : List Awaited) → tags_told n (lines_of (rests_or cs g Making Creates (is_made g)).effects.notes) ≡ []
    by [] = ap (λ (ls : List Line). tags_told n ls) (one_line f.kept.number Ready named refl)
    by (c ∷ cs) = refl

-- it is the one that is to be made
new_one : (i : Input) (n tag : ℕ) (notes : List Note) (f : File) (o p : Option File) → o ≡ None → f.kept.tag ≡ tag
    → Told n [] notes (Some f) p → tags_told n (lines_of notes) ≡ [] → IsMakingWith i n tag
    → TagRises i (lines_of notes) n o p
new_one i n tag notes f None None e same t none m = none
new_one i n tag notes f None (Some g) e same t none m =
    (none, subst (IsMakingWith i n) (sym (by t.0 (sym t.1 ∙ none) t.2 ∙ same)) m)
  where
    by : (ts : List ℕ) → ts ≡ [] → Rise f.kept.tag ts g.kept.tag → g.kept.tag ≡ f.kept.tag
    by [] e r = r
    by (x ∷ ts) e r = absurd (cc e)
new_one i n tag notes f (Some h) p e same t none m = absurd (cc e)

rises_made : (s : Server) (i : Input) (f : File) → IsSound s → NoneHas f.kept.number s.files → IsAimed f
    → f.kept.number < FILES → file_at s.files f.kept.number ≡ None → IsMakingWith i f.kept.number f.kept.tag → (n : ℕ)
    → TagRises i (lines_of (makes_file s f).notes) n (file_at s.files n) (file_at (makes_file s f).state.files n)
rises_made s i f h none a named lacks m n =
    let gs : List File = (makes_file s f).state.files in
    let notes : List Note = (makes_file s f).notes in
    let told : Told n [] notes (file_at (add_file s.files f) n) (file_at gs n) =
    told_at None n (add_file s.files f) gs [] notes (distinct_added s.files f h.distinct none)
    (each_added (λ (x : File). x.kept.number < FILES) s.files f h.files named) (went_made s f h none a) in
    elim (cases_eq f.kept.number n) [
      | inl e ↦
          new_one i n f.kept.tag notes f (file_at s.files n) (file_at gs n) (ap (file_at s.files) (sym e) ∙ lacks) refl
          (subst (λ (o : Option File). Told n [] notes o (file_at gs n))
          (ap (file_at (add_file s.files f)) (sym e) ∙ there s.files f none) told)
          (made_plain (with_file s f) f n named) (subst (λ (x : ℕ). IsMakingWith i x f.kept.tag) e m)
      | inr o ↦
          rises i n notes (file_at s.files n) (file_at gs n)
          (subst (λ (q : Option File). Told n [] notes q (file_at gs n)) (beside s.files f n (ne_eqb f.kept.number n o)) told)
    ]

rises_unless : (s : Server) (n : ℕ) (m : RawMap) (tag : ℕ) (zoned : Bool) (ds : List ℕ) (o : Option Refusal)
    → refusal s n m zoned ≡ o → IsSound s → n < FILES → (k : ℕ)
    → TagRises (Makes n m tag zoned)
    (lines_of (unless_made s (unless_refused o (makes_file s (unmade s n m tag zoned ds)))).notes) k (file_at s.files k)
    (file_at (unless_made s (unless_refused o (makes_file s (unmade s n m tag zoned ds)))).state.files k)
rises_unless s n m tag zoned ds (Some r) e h named k =
    rises (Makes n m tag zoned) k [] (file_at s.files k) (file_at s.files k)
    (told_at None k s.files s.files [] [] h.distinct h.files (stays_each s.files [] h.aimed))
rises_unless s n m tag zoned ds None e h named k =
    rises_made s (Makes n m tag zoned) (unmade s n m tag zoned ds) h (none_there s.files n (not_there s n m zoned e)) tt
    named (not_there s n m zoned e) (refl, refl) k

rises_created : (s : Server) (chosen : List ℕ) (n : ℕ) (m : RawMap) (tag : ℕ) (zoned : Bool) → IsSound s → n < FILES
    → (k : ℕ)
    → TagRises (Makes n m tag zoned) (lines_of (step s chosen (Makes n m tag zoned)).notes) k (file_at s.files k)
    (file_at (step s chosen (Makes n m tag zoned)).state.files k)
unfolding create_file
rises_created s chosen n m tag zoned h named k =
    rises_unless s n m tag zoned (drives_for zoned s.drives m chosen) (refusal s n m zoned) refl h named k

-- ---- any step

rises_by : (b : Bool) (s : Server) (chosen : List ℕ) (i : Input) → makes i ≡ b → IsSound s → IsNamedInput i → (n : ℕ)
    → TagRises i (lines_of (step s chosen i).notes) n (file_at s.files n) (file_at (step s chosen i).state.files n)
rises_by true s chosen (Makes k m tag zoned) e h named n = rises_created s chosen k m tag zoned h named n
rises_by true s chosen i e h named n = absurd (cc e)
rises_by false s chosen i e h named n =
    rises_went (taken_out s i) i s (step s chosen i) h (went s chosen i h named e) n

pub each_step_tells_tags : EachStepTellsTags
each_step_tells_tags s chosen i h named n = rises_by (makes i) s chosen i refl h named n
