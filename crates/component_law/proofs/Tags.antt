-- The tag of each file through a step.
use Rattle.std.proofs.Common.{◌≡◌, ◌⊎◌, ℕ, ◌<◌, ◌≤◌, ◌++◌, ◌∷◌, [], List, Option, Some, None, refl, sym, ap, subst, ◌∙◌, arith, inl, inr, eq-eqb, ne_eqb, Bool}
use Rattle.std.proofs.lemmas.Bool.{cases_eq}
use Rattle.data_map.specs.declared.check.RawMap.{RawMap}
use Rattle.server_rules.specs.Files.{Step, file_at, add_file}
use Rattle.server_rules.specs.History.{Input, Hears, Makes, Obeys, Adds, Zones, Formats, Resends, Crashes, Opens, step, unless_made}
use Rattle.server_rules.specs.Laws.{In}
use Rattle.server_rules.specs.Making.{refusal, unless_refused, makes_file, unmade, drives_for, create_file}
use Rattle.server_rules.proofs.FileLaws.{not_there}
use Rattle.world_history.specs.ServerNames.{Server, File, Note, NoteKind, Refusal, Fenced}
use Rattle.component_law.specs.Distinct.{AreDistinct}
use Rattle.component_law.specs.Going.{taken_out}
use Rattle.component_law.specs.Sound.{IsSound}
use Rattle.component_law.specs.Tags.{fence_note, TagRises, EachStepRaisesTags}
use Rattle.component_law.proofs.FileNotes.{noted_with, tag_behind, AreNext}
use Rattle.component_law.proofs.Rounds.{WentAs, WentEach, NoneHas}
use Rattle.component_law.proofs.Steps.{Went, went}
use Rattle.component_law.proofs.Making.{went_made, distinct_added, none_there, beside}

-- ---- notes

in_one_more : (x y : Note) (ns : List Note) → In x (ns ++ y ∷ []) → In x ns ⊎ (x ≡ y)
in_one_more x y [] (inl e) = inr e
in_one_more x y [] (inr i) = absurd i
in_one_more x y (n ∷ ns) (inl e) = inl (inl e)
in_one_more x y (n ∷ ns) (inr i) = elim (in_one_more x y ns i) [ inl j ↦ inl (inr j) | inr e ↦ inr e ]

-- a note stood before, or is among these of the file
noted_among : (n tag m : ℕ) (before : List Note) (ks : List NoteKind) → In (fence_note n tag) (noted_with before m ks)
    → In (fence_note n tag) before ⊎ ((n ≡ m) × In (Fenced tag) ks)
noted_among n tag m before [] i = inl i
noted_among n tag m before (k ∷ ks) i =
    elim (in_one_more (fence_note n tag) (record { file = m; kind = k }) (noted_with before m ks) i) [
      | inl j ↦ elim (noted_among n tag m before ks j) [ inl old ↦ inl old | inr own ↦ inr (own.0, inr own.1) ]
      | inr e ↦ inr (ap (λ (x : Note). x.file) e, inl (ap (λ (x : Note). x.kind) e))
    ]

-- ---- later tags

at_least : (t : ℕ) (ks : List NoteKind) → AreNext t ks → t ≤ tag_behind t ks
at_least t [] h = omega arith
at_least t (Fenced u ∷ ks) h = let r = at_least t ks h.1 in omega (arith, r, h.0)
at_least t (k ∷ ks) h = at_least t ks h

later_in : (t u : ℕ) (ks : List NoteKind) → AreNext t ks → In (Fenced u) ks → t < u
later_in t u [] h i = absurd i
later_in t u (Fenced v ∷ ks) h (inl e) =
    let s : u ≡ v = cc e in
    let r = at_least t ks h.1 in
    omega (arith, s, r, h.0)
later_in t u (Fenced v ∷ ks) h (inr i) = later_in t u ks h.1 i
later_in t u (k ∷ ks) h (inl e) = absurd (cc e)
later_in t u (k ∷ ks) h (inr i) = later_in t u ks h i

-- ---- files one after another

-- what further notes say of file n stood before
quiet_notes : (out : Option ℕ) (n : ℕ) (fs gs : List File) (before after : List Note) → NoneHas n fs
    → WentEach out fs before gs after → (tag : ℕ) → In (fence_note n tag) after → In (fence_note n tag) before
quiet_notes out n [] [] before after none w tag i = subst (In (fence_note n tag)) w i
quiet_notes out n [] (g ∷ gs) before after none w tag i = absurd w
quiet_notes out n (f ∷ fs) [] before after none w tag i = absurd w
quiet_notes out n (f ∷ fs) (g ∷ gs) before after none w tag i =
    let here : In (fence_note n tag) w.0 = quiet_notes out n fs gs w.0 after none.1 w.2 tag i in
    elim (noted_among n tag f.kept.number before w.1.kinds (subst (In (fence_note n tag)) w.1.notes here)) [
      | inl old ↦ old
      | inr own ↦ absurd (none.0 (sym own.0))
    ]

-- the file of the number: its tag, and the notes that weren't there before
record Raised (n : ℕ) (f : File) (gs : List File) (before after : List Note) : Type 0 where
  behind : File
  there : file_at gs n ≡ Some behind
  rises : f.kept.tag ≤ behind.kept.tag
  later : (tag : ℕ) → In (fence_note n tag) after → In (fence_note n tag) before ⊎ (f.kept.tag < tag)

raised_here : (out : Option ℕ) (n : ℕ) (f g : File) (fs gs : List File) (before middle after : List Note)
    → f.kept.number ≡ n → NoneHas n fs → WentAs out f before g middle → WentEach out fs middle gs after
    → Raised n f (g ∷ gs) before after
unfolding file_at
raised_here out n f g fs gs before middle after e none w ws = record {
  behind = g;
  there = rw (eq-eqb g.kept.number n (w.number ∙ e)) refl;
  rises = subst (λ (u : ℕ). f.kept.tag ≤ u) (sym w.tags.0) (at_least f.kept.tag w.kinds w.tags.1);
  later = λ tag i.
      elim (noted_among n tag f.kept.number before w.kinds
      (subst (In (fence_note n tag)) w.notes (quiet_notes out n fs gs middle after none ws tag i))) [
        | inl old ↦ inl old
        | inr own ↦ inr (later_in f.kept.tag tag w.kinds w.tags.1 own.1)
      ];
}

raised_behind : (out : Option ℕ) (n : ℕ) (h g f : File) (fs gs : List File) (before middle after : List Note)
    → (h.kept.number ≡ n → ⊥) → WentAs out h before g middle → Raised n f gs middle after
    → Raised n f (g ∷ gs) before after
unfolding file_at
raised_behind out n h g f fs gs before middle after other w r = record {
  behind = r.behind;
  there = rw (ne_eqb g.kept.number n (λ q. other (sym w.number ∙ q))) r.there;
  rises = r.rises;
  later = λ tag i. elim (r.later tag i) [
    | inl j ↦ elim (noted_among n tag h.kept.number before w.kinds (subst (In (fence_note n tag)) w.notes j)) [
      | inl old ↦ inl old
      | inr own ↦ absurd (other (sym own.0))
    ]
    | inr l ↦ inr l
  ];
}

raised_each : (out : Option ℕ) (n : ℕ) (f : File) (fs gs : List File) (before after : List Note) → AreDistinct fs
    → WentEach out fs before gs after → file_at fs n ≡ Some f → Raised n f gs before after
unfolding file_at
raised_each out n f [] gs before after d w e = absurd (cc e)
raised_each out n f (h ∷ fs) [] before after d w e = absurd w
raised_each out n f (h ∷ fs) (g ∷ gs) before after d w e = elim (cases_eq h.kept.number n) [
  | inl same ↦
      let s : h ≡ f = cc (rw (eq-eqb h.kept.number n same) at e) in
      subst (λ (x : File). Raised n x (g ∷ gs) before after) s
      (raised_here out n h g fs gs before w.0 after same (subst (λ (x : ℕ). NoneHas x fs) same d.0) w.1 w.2)
  | inr other ↦ raised_behind out n h g f fs gs before w.0 after other w.1
      (raised_each out n f fs gs w.0 after d.1 w.2 (rw (ne_eqb h.kept.number n other) at e))
]

-- ---- a step

rises_in : (n : ℕ) (f : File) (gs : List File) (after : List Note) → Raised n f gs [] after → TagRises n f gs after
rises_in n f gs after r = record {
  behind = r.behind;
  there = r.there;
  rises = r.rises;
  later = λ tag i. elim (r.later tag i) [ inl none ↦ absurd none | inr l ↦ l ];
}

-- no note, and the files stay
rises_still : (n : ℕ) (f : File) (fs : List File) → file_at fs n ≡ Some f → TagRises n f fs []
rises_still n f fs e = record { behind = f; there = e; rises = omega arith; later = λ tag i. absurd i }

rises_made : (s : Server) (n : ℕ) (m : RawMap) (tag : ℕ) (zoned : Bool) (ds : List ℕ) (o : Option Refusal)
    → refusal s n m zoned ≡ o → IsSound s → (k : ℕ) (f : File) → file_at s.files k ≡ Some f
    → TagRises k f (unless_made s (unless_refused o (makes_file s (unmade s n m tag zoned ds)))).state.files
    (unless_made s (unless_refused o (makes_file s (unmade s n m tag zoned ds)))).notes
rises_made s n m tag zoned ds (Some r) e h k f at_k = rises_still k f s.files at_k
rises_made s n m tag zoned ds None e h k f at_k =
    let made : File = unmade s n m tag zoned ds in
    let none : NoneHas n s.files = none_there s.files n (not_there s n m zoned e) in
    rises_in k f (makes_file s made).state.files (makes_file s made).notes
    (raised_each None k f (add_file s.files made) _ [] _ (distinct_added s.files made h.distinct none)
    (went_made s made h none tt)
    (beside s.files made k (ne_eqb n k (λ q. there k n (sym q) at_k (not_there s n m zoned e))) ∙ at_k))
  where
    there : (k n : ℕ) → k ≡ n → file_at s.files k ≡ Some f → file_at s.files n ≡ None → ⊥
    there k n same one other = cc (sym one ∙ ap (λ (x : ℕ). file_at s.files x) same ∙ other)

rises_created : (s : Server) (chosen : List ℕ) (n : ℕ) (m : RawMap) (tag : ℕ) (zoned : Bool) → IsSound s → (k : ℕ)
    (f : File) → file_at s.files k ≡ Some f
    → TagRises k f (step s chosen (Makes n m tag zoned)).state.files (step s chosen (Makes n m tag zoned)).notes
unfolding create_file
rises_created s chosen n m tag zoned h k f e =
    rises_made s n m tag zoned (drives_for zoned s.drives m chosen) (refusal s n m zoned) refl h k f e

-- where files go on as in any step that makes none
rises_went : (out : Option ℕ) (s : Server) (did : Step) → IsSound s → Went out s did → (n : ℕ) (f : File)
    → file_at s.files n ≡ Some f → TagRises n f did.state.files did.notes
rises_went out s did h w n f e =
    rises_in n f did.state.files did.notes (raised_each out n f s.files did.state.files [] did.notes h.distinct w.each e)

rises_step : (s : Server) (chosen : List ℕ) (i : Input) → IsSound s → Went (taken_out s i) s (step s chosen i) → (n : ℕ)
    (f : File) → file_at s.files n ≡ Some f → TagRises n f (step s chosen i).state.files (step s chosen i).notes
rises_step s chosen i h w n f e = rises_went (taken_out s i) s (step s chosen i) h w n f e

pub each_step_raises_tags : EachStepRaisesTags
each_step_raises_tags s chosen (Makes k m tag zoned) h n f e = rises_created s chosen k m tag zoned h n f e
each_step_raises_tags s chosen (Adds d) h n f e = rises_still n f s.files e
each_step_raises_tags s chosen (Zones d zone) h n f e = rises_still n f s.files e
each_step_raises_tags s chosen (Hears now from m) h n f e =
    rises_step s chosen (Hears now from m) h (went s chosen (Hears now from m) h tt refl) n f e
each_step_raises_tags s chosen (Obeys kind k) h n f e =
    rises_step s chosen (Obeys kind k) h (went s chosen (Obeys kind k) h tt refl) n f e
each_step_raises_tags s chosen (Formats k) h n f e =
    rises_step s chosen (Formats k) h (went s chosen (Formats k) h tt refl) n f e
each_step_raises_tags s chosen Resends h n f e = rises_step s chosen Resends h (went s chosen Resends h tt refl) n f e
each_step_raises_tags s chosen Crashes h n f e = rises_step s chosen Crashes h (went s chosen Crashes h tt refl) n f e
each_step_raises_tags s chosen Opens h n f e = rises_step s chosen Opens h (went s chosen Opens h tt refl) n f e
