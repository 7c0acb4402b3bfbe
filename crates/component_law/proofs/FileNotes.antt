-- Notes of a file in a step, and what they make of its components.
use Rattle.std.proofs.Common.{◌≡◌, ℕ, ◌<◌, ◌+◌, ◌||◌, ◌++◌, ◌∷◌, [], List, Bool, true, false, slice_set, refl, sym, ap, ◌∙◌}
use Rattle.std.proofs.lemmas.Bool.{lt-ltb}
use Rattle.scenario_text.specs.declared.names.TheConstants.{DRIVES}
use Rattle.server_rules.specs.Going.{Going, keeping, with_components, noting, noting_if}
use Rattle.server_rules.specs.Standing.{lose_from, stood_on}
use Rattle.world_history.specs.ServerNames.{Component, Kept, Note, NoteKind, Repairing, Fenced, Rebuilt, NoSpace}
use Rattle.world_history.specs.Told.{told_note}
use Rattle.world_history.specs.Names.{is_tellable_note}
use Rattle.world_history.specs.Calm.{noted}
use Rattle.component_law.specs.Words.{Each}
use Rattle.component_law.specs.Components.{Paired, StandAlike, is_lacking}
use Rattle.component_law.specs.Sound.{IsAimed}
use Rattle.component_law.specs.Apart.{AreApart}
use Rattle.component_law.proofs.Drives.{apart_set, apart_lost}
use Rattle.component_law.proofs.Components.{paired_lost, lacking_stays, lost, alike_same, alike_made, stands_is}

-- ---- notes on one file, the last one first

-- they stand behind some others
abbrev pub noted_with : (before : List Note) → (number : ℕ) → List NoteKind → List Note
noted_with before n [] = before
noted_with before n (k ∷ ks) = noted_with before n ks ++ record { file = n; kind = k } ∷ []

-- the components behind them
abbrev pub behind : List Component → List NoteKind → List Component
behind cs [] = cs
behind cs (k ∷ ks) = noted (behind cs ks) (told_note k)

abbrev pub is_rebuilt : NoteKind → Bool
is_rebuilt (Rebuilt k d) = true
is_rebuilt k = false

abbrev pub any_rebuilt : List NoteKind → Bool
any_rebuilt [] = false
any_rebuilt (k ∷ ks) = is_rebuilt k || any_rebuilt ks

-- lines can tell them
abbrev pub AreTellable : List NoteKind → Type 0
AreTellable ks = Each (λ (k : NoteKind). is_tellable_note k ≡ true) ks

-- ---- the tag behind notes

-- the note tells that a fence is over
abbrev pub is_fenced : NoteKind → Bool
is_fenced (Fenced tag) = true
is_fenced k = false

-- it tells the tag from then on
abbrev pub tag_behind : (tag : ℕ) → List NoteKind → ℕ
tag_behind t [] = t
tag_behind t (Fenced u ∷ ks) = u
tag_behind t (k ∷ ks) = tag_behind t ks

-- which is the next one each time
abbrev pub AreNext : (tag : ℕ) → List NoteKind → Type 0
AreNext t [] = Unit {0}
AreNext t (Fenced u ∷ ks) = (u ≡ tag_behind t ks + 1) × AreNext t ks
AreNext t (k ∷ ks) = AreNext t ks

-- a file that had the one tag has the other behind them
abbrev pub Tagged : (tag : ℕ) → List NoteKind → (then : ℕ) → Type 0
Tagged t ks u = (u ≡ tag_behind t ks) × AreNext t ks

tagged_plain : (t : ℕ) (k : NoteKind) (ks : List NoteKind) (u : ℕ) → is_fenced k ≡ false → Tagged t ks u
    → Tagged t (k ∷ ks) u
tagged_plain t (Fenced v) ks u e h = absurd (cc e)
tagged_plain t k ks u e h = h

-- ---- a file in the middle of a step

-- The file that was k, before which these notes stood: it is the same file still, and its components are as its own notes
-- tell, but for the objects of those that were rebuilt.
abbrev pub Tells : Kept → (before : List Note) → Going → Type 0
Tells k before g = record {
  number : g.file.kept.number ≡ k.number;
  map : g.file.kept.map ≡ k.map;
  kinds : List NoteKind;
  notes : g.effects.notes ≡ noted_with before k.number kinds;
  tellable : AreTellable kinds;
  tags : Tagged k.tag kinds g.file.kept.tag;
  alike : Paired StandAlike (behind k.components kinds) g.file.kept.components;
  exact : any_rebuilt kinds ≡ false → g.file.kept.components ≡ behind k.components kinds;
  apart : AreApart k.components → AreApart g.file.kept.components;
}

-- and where its job makes a component anew, that is missing
abbrev pub Ends : Kept → (before : List Note) → Going → Type 0
Ends k before g = Tells k before g × IsAimed g.file

-- ---- notes come

note_more : (k : Kept) (before : List Note) (g : Going) (n : NoteKind) (ks : List NoteKind)
    → g.file.kept.number ≡ k.number → g.effects.notes ≡ noted_with before k.number ks
    → (noting g n).effects.notes ≡ noted_with before k.number (n ∷ ks)
note_more k before g n ks same notes =
    ap (λ (x : ℕ). g.effects.notes ++ record { file = x; kind = n } ∷ []) same
    ∙ ap (λ (ns : List Note). ns ++ record { file = k.number; kind = n } ∷ []) notes

-- one that tells of no component
pub tells_plain : (k : Kept) (before : List Note) (g : Going) (n : NoteKind)
    → ((cs : List Component) → noted cs (told_note n) ≡ cs) → is_rebuilt n ≡ false → is_tellable_note n ≡ true
    → is_fenced n ≡ false
    → Tells k before g → Tells k before (noting g n)
tells_plain k before g n plain whole known on h = record {
  number = h.number;
  map = h.map;
  kinds = n ∷ h.kinds;
  notes = note_more k before g n h.kinds h.number h.notes;
  tellable = (known, h.tellable);
  tags = tagged_plain k.tag n h.kinds g.file.kept.tag on h.tags;
  alike = rw (plain (behind k.components h.kinds)) h.alike;
  exact = λ e. h.exact (rw whole at e) ∙ sym (plain (behind k.components h.kinds));
  apart = h.apart;
}

-- one that tells of no component, perhaps
pub tells_if : (b : Bool) (k : Kept) (before : List Note) (g : Going) (n : NoteKind)
    → ((cs : List Component) → noted cs (told_note n) ≡ cs) → is_rebuilt n ≡ false → is_tellable_note n ≡ true
    → is_fenced n ≡ false
    → Tells k before g → Tells k before (noting_if b g n)
tells_if true k before g n plain whole known on h = tells_plain k before g n plain whole known on h
tells_if false k before g n plain whole known on h = h

lost_alike : (a b : Component) → StandAlike a b → StandAlike (lost a) (lost b)
lost_alike a b h = (h.0, refl)

-- there is no space for a component, which becomes missing
pub tells_lost : (k : Kept) (before : List Note) (g : Going) (c : ℕ) → Tells k before g
    → Tells k before (noting (with_components g (lose_from (c ∷ []) g.file.kept.components 0)) (NoSpace c))
tells_lost k before g c h = record {
  number = h.number;
  map = h.map;
  kinds = NoSpace c ∷ h.kinds;
  notes =
      note_more k before (with_components g (lose_from (c ∷ []) g.file.kept.components 0)) (NoSpace c) h.kinds h.number
      h.notes;
  tellable = (refl, h.tellable);
  tags = h.tags;
  alike =
      paired_lost StandAlike lost_alike (c ∷ []) (behind k.components h.kinds) g.file.kept.components 0 h.alike;
  exact = λ e. ap (λ (cs : List Component). lose_from (c ∷ []) cs 0) (h.exact e);
  apart = λ x. apart_lost (c ∷ []) g.file.kept.components (h.apart x);
}

-- or is missing as before
pub tells_full : (k : Kept) (before : List Note) (g : Going) (c : ℕ) → is_lacking g.file.kept.components c ≡ true
    → Tells k before g → Tells k before (noting g (NoSpace c))
tells_full k before g c l h = record {
  number = h.number;
  map = h.map;
  kinds = NoSpace c ∷ h.kinds;
  notes = note_more k before g (NoSpace c) h.kinds h.number h.notes;
  tellable = (refl, h.tellable);
  tags = h.tags;
  alike =
      rw (lacking_stays g.file.kept.components c l)
      at (paired_lost StandAlike lost_alike (c ∷ []) (behind k.components h.kinds) g.file.kept.components 0 h.alike);
  exact = λ e.
      sym (lacking_stays g.file.kept.components c l) ∙ ap (λ (cs : List Component). lose_from (c ∷ []) cs 0) (h.exact e);
  apart = h.apart;
}

-- a component stands anew
pub tells_made : (k : Kept) (before : List Note) (g : Going) (c : ℕ) (at : Component) → at.missing ≡ false
    → at.drive < DRIVES → stood_on at.drive g.file.kept.components ≡ false → Tells k before g
    → Tells k before (noting (with_components g (slice_set g.file.kept.components c at)) (Rebuilt c at.drive))
tells_made k before g c at there known free h = record {
  number = h.number;
  map = h.map;
  kinds = Rebuilt c at.drive ∷ h.kinds;
  notes =
      note_more k before (with_components g (slice_set g.file.kept.components c at)) (Rebuilt c at.drive) h.kinds h.number
      h.notes;
  tellable = (lt-ltb at.drive DRIVES known, h.tellable);
  tags = h.tags;
  alike =
      rw (stands_is (behind k.components h.kinds) c at.drive)
      (alike_made (behind k.components h.kinds) g.file.kept.components c at there h.alike);
  exact = λ e. absurd (cc e);
  apart = λ x. apart_set g.file.kept.components c at free (h.apart x);
}

-- a fence is over
pub tells_fenced : (k : Kept) (before : List Note) (g : Going) → Tells k before g
    → Tells k before
    (noting (keeping g (record g.file.kept { tag = g.file.kept.tag + 1; phase = Repairing }))
    (Fenced (g.file.kept.tag + 1)))
tells_fenced k before g h = record {
  number = h.number;
  map = h.map;
  kinds = Fenced (g.file.kept.tag + 1) ∷ h.kinds;
  notes =
      note_more k before (keeping g (record g.file.kept { tag = g.file.kept.tag + 1; phase = Repairing }))
      (Fenced (g.file.kept.tag + 1)) h.kinds h.number h.notes;
  tellable = (refl, h.tellable);
  tags = (refl, (ap (λ (t : ℕ). t + 1) h.tags.0, h.tags.1));
  alike = h.alike;
  exact = h.exact;
  apart = h.apart;
}

-- ---- a step begins

pub tells_first : (g : Going) → Tells g.file.kept g.effects.notes g
tells_first g = record {
  number = refl;
  map = refl;
  kinds = [];
  notes = refl;
  tellable = tt;
  tags = (refl, tt);
  alike = alike_same g.file.kept.components;
  exact = λ e. refl;
  apart = λ x. x;
}
