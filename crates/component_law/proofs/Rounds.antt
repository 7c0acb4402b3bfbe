-- Files in a step, one after another.
use Rattle.std.proofs.Common.{◌≡◌, ℕ, zero, suc, ◌<◌, ◌==◌, ◌∷◌, [], List, false, Option, Some, None, length, refl, sym, ap, subst, ◌∙◌, inl, inr}
use Rattle.std.proofs.lemmas.Bool.{cases_Bool}
use Rattle.scenario_text.specs.declared.names.TheConstants.{FILES}
use Rattle.scenario_text.specs.declared.line.Note.{Note as ToldNote}
use Rattle.scenario_text.specs.declared.line.Note.TheVariants as note
use Rattle.server_rules.specs.Going.{Going}
use Rattle.server_rules.specs.Files.{file_at, put_file}
use Rattle.server_rules.proofs.Components.{length_lost, length_lost_on}
use Rattle.world_history.specs.ServerNames.{Component, File, Note, NoteKind}
use Rattle.world_history.specs.Told.{told_note}
use Rattle.world_history.specs.Calm.{noted}
use Rattle.component_law.specs.Words.{Each}
use Rattle.component_law.specs.Distinct.{AreDistinct, HaveComponents}
use Rattle.component_law.specs.Components.{Paired, StandAlike, without_drive}
use Rattle.component_law.specs.Sound.{IsAimed}
use Rattle.component_law.specs.Apart.{AreApart}
use Rattle.component_law.proofs.Drives.{apart_on}
use Rattle.component_law.proofs.Components.{paired_length, stands_is, stood, alike_same}
use Rattle.component_law.proofs.FileNotes.{Ends, AreTellable, Tagged, noted_with, behind, any_rebuilt}
use Rattle.component_law.proofs.Serving.{without}

-- ---- what becomes of files

-- of one, with its notes behind those before
abbrev pub WentAs : (out : Option ℕ) → File → (before : List Note) → File → (after : List Note) → Type 0
WentAs out f before g after = record {
  number : g.kept.number ≡ f.kept.number;
  map : g.kept.map ≡ f.kept.map;
  kinds : List NoteKind;
  notes : after ≡ noted_with before f.kept.number kinds;
  tellable : AreTellable kinds;
  tags : Tagged f.kept.tag kinds g.kept.tag;
  alike : Paired StandAlike (behind (without_drive out f.kept.components) kinds) g.kept.components;
  exact : any_rebuilt kinds ≡ false → g.kept.components ≡ behind (without_drive out f.kept.components) kinds;
  aimed : IsAimed g;
  apart : AreApart f.kept.components → AreApart g.kept.components;
}

-- of each, in order
abbrev pub WentEach : (out : Option ℕ) → List File → (before : List Note) → List File → (after : List Note) → Type 0
WentEach out [] before [] after = after ≡ before
WentEach out (f ∷ fs) before (g ∷ gs) after =
    (middle : List Note) × WentAs out f before g middle × WentEach out fs middle gs after
WentEach out fs before gs after = ⊥

pub went_plain : (f : File) (before : List Note) (h : Going) → Ends f.kept before h
    → WentAs None f before h.file h.effects.notes
went_plain f before h e = record {
  number = e.0.number;
  map = e.0.map;
  kinds = e.0.kinds;
  notes = e.0.notes;
  tellable = e.0.tellable;
  tags = e.0.tags;
  alike = e.0.alike;
  exact = e.0.exact;
  aimed = e.1;
  apart = e.0.apart;
}

pub went_out : (d : ℕ) (f : File) (before : List Note) (h : Going) → Ends (without f.kept d) before h
    → WentAs (Some d) f before h.file h.effects.notes
went_out d f before h e = record {
  number = e.0.number;
  map = e.0.map;
  kinds = e.0.kinds;
  notes = e.0.notes;
  tellable = e.0.tellable;
  tags = e.0.tags;
  alike = e.0.alike;
  exact = e.0.exact;
  aimed = e.1;
  apart = λ x. e.0.apart (apart_on d f.kept.components x);
}

stays : (f : File) (before : List Note) → IsAimed f → WentAs None f before f before
stays f before a = record {
  number = refl;
  map = refl;
  kinds = [];
  notes = refl;
  tellable = tt;
  tags = (refl, tt);
  alike = alike_same f.kept.components;
  exact = λ e. refl;
  aimed = a;
  apart = λ x. x;
}

pub stays_each : (fs : List File) (before : List Note) → Each IsAimed fs → WentEach None fs before fs before
stays_each [] before h = refl
stays_each (f ∷ fs) before h = (before, stays f before h.0, stays_each fs before h.1)

-- one of them
pub went_put : (fs : List File) (m : ℕ) (f g : File) (before after : List Note) → Each IsAimed fs
    → file_at fs m ≡ Some f → WentAs None f before g after → WentEach None fs before (put_file fs m g) after
unfolding file_at put_file
went_put [] m f g before after a e w = absurd (cc e)
went_put (h ∷ hs) m f g before after a e w = elim (cases_Bool (h.kept.number == m)) [
  | inl t ↦
      let s : f ≡ h = cc (sym (rw t at e)) in
      rw t (after, subst (λ (x : File). WentAs None x before g after) s w, stays_each hs after a.1)
  | inr z ↦ rw z (before, stays h before a.0, went_put hs m f g before after a.1 (rw z at e) w)
]

-- ---- numbers

pub each_at : (P : File → Type 0) (fs : List File) (n : ℕ) (f : File) → Each P fs → file_at fs n ≡ Some f → P f
unfolding file_at
each_at P [] n f h e = absurd (cc e)
each_at P (g ∷ fs) n f h e = elim (cases_Bool (g.kept.number == n)) [
  | inl t ↦ let s : g ≡ f = cc (rw t at e) in subst P s h.0
  | inr z ↦ each_at P fs n f h.1 (rw z at e)
]

-- no file has the number
abbrev pub NoneHas : (number : ℕ) → List File → Type 0
NoneHas n fs = Each (λ (f : File). f.kept.number ≡ n → ⊥) fs

none_went : (out : Option ℕ) (n : ℕ) (fs gs : List File) (before after : List Note) → NoneHas n fs
    → WentEach out fs before gs after → NoneHas n gs
none_went out n [] [] before after h w = tt
none_went out n [] (g ∷ gs) before after h w = absurd w
none_went out n (f ∷ fs) [] before after h w = absurd w
none_went out n (f ∷ fs) (g ∷ gs) before after h w =
    (λ e. h.0 (sym w.1.number ∙ e), none_went out n fs gs w.0 after h.1 w.2)

pub distinct_went : (out : Option ℕ) (fs gs : List File) (before after : List Note) → AreDistinct fs
    → WentEach out fs before gs after → AreDistinct gs
distinct_went out [] [] before after h w = tt
distinct_went out [] (g ∷ gs) before after h w = absurd w
distinct_went out (f ∷ fs) [] before after h w = absurd w
distinct_went out (f ∷ fs) (g ∷ gs) before after h w = (
  rw w.1.number (none_went out f.kept.number fs gs w.0 after h.0 w.2),
  distinct_went out fs gs w.0 after h.1 w.2,
)

-- ---- how many components

length_stood : (cs : List Component) (k d : ℕ) → length (stood cs k d) ≡ length cs
length_stood [] k d = refl
length_stood (at ∷ cs) zero d = refl
length_stood (at ∷ cs) (suc k) d = ap (λ (n : ℕ). suc n) (length_stood cs k d)

length_noted : (cs : List Component) (what : ToldNote) → length (noted cs what) ≡ length cs
length_noted cs (note.NoSpace k) = length_lost (k ∷ []) cs 0
length_noted cs (note.Reported k) = length_lost (k ∷ []) cs 0
length_noted cs (note.Rebuilt k d) = ap (λ (x : List Component). length x) (stands_is cs k d) ∙ length_stood cs k d
length_noted cs what = refl

length_behind : (cs : List Component) (ks : List NoteKind) → length (behind cs ks) ≡ length cs
length_behind cs [] = refl
length_behind cs (k ∷ ks) = length_noted (behind cs ks) (told_note k) ∙ length_behind cs ks

length_out : (out : Option ℕ) (cs : List Component) → length (without_drive out cs) ≡ length cs
length_out None cs = refl
length_out (Some d) cs = length_lost_on d cs

pub components_went : (out : Option ℕ) (fs gs : List File) (before after : List Note) → HaveComponents fs
    → WentEach out fs before gs after → HaveComponents gs
components_went out [] [] before after h w = tt
components_went out [] (g ∷ gs) before after h w = absurd w
components_went out (f ∷ fs) [] before after h w = absurd w
components_went out (f ∷ fs) (g ∷ gs) before after h w =
    let same : length g.kept.components ≡ length f.kept.components =
    paired_length StandAlike (behind (without_drive out f.kept.components) w.1.kinds) g.kept.components w.1.alike
    ∙ length_behind (without_drive out f.kept.components) w.1.kinds ∙ length_out out f.kept.components in
    (rw (same, w.1.map) h.0, components_went out fs gs w.0 after h.1 w.2)

-- ---- what else stays

pub aimed_went : (out : Option ℕ) (fs gs : List File) (before after : List Note) → WentEach out fs before gs after
    → Each IsAimed gs
aimed_went out [] [] before after w = tt
aimed_went out [] (g ∷ gs) before after w = absurd w
aimed_went out (f ∷ fs) [] before after w = absurd w
aimed_went out (f ∷ fs) (g ∷ gs) before after w = (w.1.aimed, aimed_went out fs gs w.0 after w.2)

pub named_went : (out : Option ℕ) (fs gs : List File) (before after : List Note)
    → Each (λ (f : File). f.kept.number < FILES) fs → WentEach out fs before gs after
    → Each (λ (f : File). f.kept.number < FILES) gs
named_went out [] [] before after h w = tt
named_went out [] (g ∷ gs) before after h w = absurd w
named_went out (f ∷ fs) [] before after h w = absurd w
named_went out (f ∷ fs) (g ∷ gs) before after h w =
    (rw w.1.number h.0, named_went out fs gs w.0 after h.1 w.2)

pub apart_went : (out : Option ℕ) (fs gs : List File) (before after : List Note)
    → Each (λ (f : File). AreApart f.kept.components) fs → WentEach out fs before gs after
    → Each (λ (f : File). AreApart f.kept.components) gs
apart_went out [] [] before after h w = tt
apart_went out [] (g ∷ gs) before after h w = absurd w
apart_went out (f ∷ fs) [] before after h w = absurd w
apart_went out (f ∷ fs) (g ∷ gs) before after h w = (w.1.apart h.0, apart_went out fs gs w.0 after h.1 w.2)
