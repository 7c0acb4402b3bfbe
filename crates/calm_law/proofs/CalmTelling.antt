-- The notes of a step, each a moment.
use Rattle.std.proofs.Common.{◌≡◌, ℕ, ◌==◌, ◌&&◌, ◌∷◌, [], List, Bool, true, not, Option, Some, None, find, refl, sym, ap, subst, ◌∙◌, inl, inr}
use Rattle.std.specs.List.{fold}
use Rattle.std.proofs.lemmas.Bool.{cases_Bool}
use Rattle.osd_lists.proofs.Tests.{without_second}
use Rattle.scenario_text.specs.declared.line.Note.{Note}
use Rattle.scenario_text.specs.declared.line.Note.TheVariants as note
use Rattle.scenario_text.specs.declared.line.Line.{Line}
use Rattle.scenario_text.specs.declared.line.Line.TheVariants as line
use Rattle.server_rules.specs.Files.{file_at}
use Rattle.server_rules.specs.Numbers.{among}
use Rattle.world_history.specs.ServerNames.{File, Grant, Kept, Mended}
use Rattle.world_history.specs.Stripes.{Moment}
use Rattle.world_history.specs.Calm.{noted_in, moment_behind, Watched, watches}
use Rattle.world_calm.specs.declared.marks.Marked.{Marked}
use Rattle.world_calm.specs.Marking.{is_left, has_stripes, all_mended, any_harmed, mended_by as mended_one}
use Rattle.world_calm.specs.Seeing.{CalmState, KeptOf, looked, noted, notes, mended_by}
use Rattle.component_law.specs.Words.{is_there}
use Rattle.calm_law.specs.Logs.{KeepsLog}
use Rattle.calm_law.specs.Marks.{HaveMaps}
use Rattle.calm_law.specs.Harms.{HaveGrants, AreLeft, KeepsMoment}
use Rattle.calm_law.specs.Flagging.{IsQuiet}
use Rattle.calm_law.proofs.Noting.{with_noted, noted_at, notes_alike}
use Rattle.calm_law.proofs.Mending.{notes_mark}
use Rattle.calm_law.proofs.Harming.{calm_alike}

-- ---- what a note leaves

record Rest (c d : CalmState) : Type 0 where
  log : d.log ≡ c.log
  stopped : d.stopped ≡ c.stopped
  calm : d.calm ≡ c.calm

rest_mended : (c : CalmState) (o : Option Mended) → Rest c (mended_by c o)
rest_mended c None = record { log = refl; stopped = refl; calm = refl }
rest_mended c (Some r) = record { log = refl; stopped = refl; calm = refl }

rest_noted : (rs : List Mended) (c : CalmState) (n : ℕ) (what : Note) → Rest c (noted rs c n what)
rest_noted rs c n (note.NoSpace k) = record { log = refl; stopped = refl; calm = refl }
rest_noted rs c n (note.Reported k) = record { log = refl; stopped = refl; calm = refl }
rest_noted rs c n (note.Rebuilt k d) = record { log = refl; stopped = refl; calm = refl }
rest_noted rs c n (note.Repaired a b) = rest_mended c (find (λ (r : Mended). r.file == n) rs)
rest_noted rs c n what = record { log = refl; stopped = refl; calm = refl }

maps_noted : (there now : List File) (n : ℕ) (what : Note) → HaveMaps there now
    → HaveMaps there (noted_in now n what (file_at now n))
maps_noted there now n what h j f e =
    let g : (x : File) × (file_at now j ≡ Some x) × (x.kept.map ≡ f.kept.map) = h j f e in
    elim (noted_at now n j what) [
      | inl a ↦ (record g.0 { kept = record g.0.kept { components = _ } }, a.1 ∙ ap (with_noted what) g.1, g.2)
      | inr b ↦ (g.0, b.1 ∙ g.1, g.2)
    ]

grants_of : (kept : KeptOf) (there now : List File) (what : Note) (j : ℕ) (f : File) (o : Option File)
    → HaveGrants there now kept → is_there there j ≡ true → file_at now j ≡ o → with_noted what o ≡ Some f
    → (k : Kept) × (kept j ≡ Some k) × (k.grants ≡ f.kept.grants)
grants_of kept there now what j f None h i q e = absurd (cc e)
grants_of kept there now what j f (Some g) h i q e =
    let k : (x : Kept) × (kept j ≡ Some x) × (x.grants ≡ g.kept.grants) = h j g i q in
    (k.0, k.1, k.2 ∙ grants_some e)
  where
    grants_some : with_noted what (Some g) ≡ Some f → g.kept.grants ≡ f.kept.grants
    grants_some e = cc (ap (λ (o : Option File). grants_in o) e)
      where
        grants_in : Option File → Option (List Grant)
        grants_in None = None
        grants_in (Some x) = Some x.kept.grants

grants_noted : (kept : KeptOf) (there now : List File) (n : ℕ) (what : Note) → HaveGrants there now kept
    → HaveGrants there (noted_in now n what (file_at now n)) kept
grants_noted kept there now n what h j f i e = elim (noted_at now n j what) [
  | inl a ↦ grants_of kept there now what j f (file_at now j) h i refl (sym a.1 ∙ e)
  | inr b ↦ h j f i (sym b.1 ∙ e)
]

left_mended : (kept : KeptOf) (stopped : List ℕ) (r : Mended) (ms : List Marked) → AreLeft kept stopped ms
    → AreLeft kept stopped (all_mended ms r)
left_mended kept stopped r [] h = tt
left_mended kept stopped r (m ∷ ms) h = elim (cases_Bool (has_stripes (mended_one r m))) [
  | inl t ↦ rw t (one, left_mended kept stopped r ms h.1)
  | inr z ↦ rw z (left_mended kept stopped r ms h.1)
]
  where
    one : (mended_one r m).left ≡ is_left stopped kept (mended_one r m)
    one = elim (cases_Bool (m.file == r.file)) [ inl t ↦ rw t h.0 | inr z ↦ rw z h.0 ]

left_by_mended : (kept : KeptOf) (c : CalmState) (o : Option Mended) → AreLeft kept c.stopped c.marks
    → AreLeft kept (mended_by c o).stopped (mended_by c o).marks
left_by_mended kept c None h = h
left_by_mended kept c (Some r) h = left_mended kept c.stopped r c.marks h

left_noted : (kept : KeptOf) (rs : List Mended) (c : CalmState) (n : ℕ) (what : Note) → AreLeft kept c.stopped c.marks
    → AreLeft kept (noted rs c n what).stopped (noted rs c n what).marks
left_noted kept rs c n (note.NoSpace k) h = h
left_noted kept rs c n (note.Reported k) h = h
left_noted kept rs c n (note.Rebuilt k d) h = h
left_noted kept rs c n (note.Repaired a b) h = left_by_mended kept c (find (λ (r : Mended). r.file == n) rs) h
left_noted kept rs c n what h = h

-- ---- a note

note_keeps : (rs : List Mended) (there : List File) (kept : KeptOf) (m : Moment) (c : CalmState) (n : ℕ) (what : Note)
    → KeepsMoment there kept m c → KeepsMoment there kept (moment_behind rs m n what) (looked (noted rs c n what))
note_keeps rs there kept m c n what h =
    let r : Rest c (noted rs c n what) = rest_noted rs c n what in
    record {
      files = notes_alike rs there m.server.files m.failed c n what h.files;
      maps = maps_noted there m.server.files n what h.maps;
      grants = grants_noted kept there m.server.files n what h.grants;
      stopped = λ d. ap (among d) r.stopped ∙ h.stopped d;
      log = subst (KeepsLog m.log) (sym r.log) h.log;
      marks = notes_mark rs there m.server.files m.marks c n what h.maps h.marks;
      left = left_noted kept rs c n what h.left;
    }

-- ---- all of them

pub record Told (there : List File) (kept : KeptOf) (w : Watched) (c : CalmState) : Type 0 where
  pub moment : KeepsMoment there kept w.moment c
  pub calm : c.calm ≡ w.calm
  pub quiet : IsQuiet c

one_told : (rs : List Mended) (there : List File) (kept : KeptOf) (w : Watched) (c : CalmState) (l : Line)
    → Told there kept w c → Told there kept (watches rs w l) (notes rs c l)
one_told rs there kept w c (line.Note n what) h =
    let k : KeepsMoment there kept (moment_behind rs w.moment n what) (looked (noted rs c n what)) =
    note_keeps rs there kept w.moment c n what h.moment in
    record {
      moment = k;
      calm = ap (λ (b : Bool). b && not (any_harmed (noted rs c n what).files (noted rs c n what).marks))
          ((rest_noted rs c n what).calm ∙ h.calm)
          ∙ ap (λ (b : Bool). w.calm && b) (sym (calm_alike there kept (moment_behind rs w.moment n what)
          (looked (noted rs c n what)) k));
      quiet = λ e. without_second (noted rs c n what).calm (any_harmed (noted rs c n what).files (noted rs c n what).marks) e;
    }
one_told rs there kept w c l h = h

pub all_told : (rs : List Mended) (there : List File) (kept : KeptOf) (w : Watched) (c : CalmState) (lines : List Line)
    → Told there kept w c → Told there kept (fold (watches rs) w lines) (fold (notes rs) c lines)
all_told rs there kept w c [] h = h
all_told rs there kept w c (l ∷ ls) h =
    all_told rs there kept (watches rs w l) (notes rs c l) ls (one_told rs there kept w c l h)
