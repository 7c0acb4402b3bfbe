-- A file of a moment through the lines of a step.
use Rattle.std.proofs.Common.{if◌then◌else◌, ◌≡◌, ℕ, ◌==◌, ◌∷◌, [], List, Bool, true, false, Option, Some, None, refl, ap, ◌∙◌, inl, inr, eq-eqb, ne_eqb}
use Rattle.std.specs.List.{fold}
use Rattle.std.proofs.lemmas.Bool.{cases_eq}
use Rattle.scenario_text.specs.declared.line.Note.{Note as ToldNote}
use Rattle.scenario_text.specs.declared.line.Line.{Line}
use Rattle.scenario_text.specs.declared.line.Line.TheVariants as line
use Rattle.server_rules.specs.Files.{file_at}
use Rattle.server_rules.specs.Laws.{FilesArePut}
use Rattle.server_rules.proofs.FileLaws.{number_at}
use Rattle.world_history.specs.ServerNames.{Server, File, Component, Mended}
use Rattle.world_history.specs.Calm.{Watched, watches, noted, noted_in, with_components, with_grants, untold_file, begun_file, at_begin}
use Rattle.component_law.specs.Components.{told_by, told_in}
use Rattle.component_law.proofs.Begun.{begun_at as begun_each}

-- the file with these components
abbrev pub with_parts : File → List Component → File
with_parts f cs = record f { kept = record f.kept { components = cs } }

-- ---- notes

noted_beside : FilesArePut → (fs : List File) (m n : ℕ) (what : ToldNote) (o : Option File) → file_at fs m ≡ o
    → (m == n) ≡ false → file_at (noted_in fs m what o) n ≡ file_at fs n
noted_beside put fs m n what None e other = refl
noted_beside put fs m n what (Some f) e other =
    (put fs m (with_parts f (noted f.kept.components what)) f (number_at fs m f e) e).1 n other

noted_here : FilesArePut → (fs : List File) (n : ℕ) (what : ToldNote) (f : File) (o : Option File) → file_at fs n ≡ o
    → o ≡ Some f → file_at (noted_in fs n what o) n ≡ Some (with_parts f (noted f.kept.components what))
noted_here put fs n what f None e q = absurd (cc q)
noted_here put fs n what f (Some g) e q =
    let s : g ≡ f = cc q in
    (put fs n (with_parts g (noted g.kept.components what)) g (number_at fs n g e) e).0
    ∙ ap (λ (x : File). Some (with_parts x (noted x.kept.components what))) s

noted_at : FilesArePut → (fs : List File) (m n : ℕ) (what : ToldNote) (f : File) → file_at fs n ≡ Some f
    → file_at (noted_in fs m what (file_at fs m)) n
    ≡ Some (with_parts f (if m == n then noted f.kept.components what else f.kept.components))
noted_at put fs m n what f e = elim (cases_eq m n) [
  | inl i ↦ rw (i, eq-eqb n n refl) (noted_here put fs n what f (file_at fs n) refl e)
  | inr o ↦ rw (ne_eqb m n o) (noted_beside put fs m n what (file_at fs m) refl (ne_eqb m n o) ∙ e)
]

line_at : FilesArePut → (rs : List Mended) (w : Watched) (l : Line) (n : ℕ) (f : File)
    → file_at w.moment.server.files n ≡ Some f
    → file_at (watches rs w l).moment.server.files n ≡ Some (with_parts f (told_by n f.kept.components l))
line_at put rs w (line.Note m what) n f e = noted_at put w.moment.server.files m n what f e
line_at put rs w l n f e = e

pub through_at : FilesArePut → (rs : List Mended) (w : Watched) (ls : List Line) (n : ℕ) (f : File)
    → file_at w.moment.server.files n ≡ Some f
    → file_at (fold (watches rs) w ls).moment.server.files n ≡ Some (with_parts f (told_in n f.kept.components ls))
through_at put rs w [] n f e = e
through_at put rs w (l ∷ ls) n f e =
    through_at put rs (watches rs w l) ls n (with_parts f (told_by n f.kept.components l)) (line_at put rs w l n f e)

-- no drive fails at a note
line_failed : (rs : List Mended) (w : Watched) (l : Line) → (watches rs w l).moment.failed ≡ w.moment.failed
line_failed rs w (line.Note m what) = refl
line_failed rs w l = refl

pub through_failed : (rs : List Mended) (w : Watched) (ls : List Line)
    → (fold (watches rs) w ls).moment.failed ≡ w.moment.failed
through_failed rs w [] = refl
through_failed rs w (l ∷ ls) = through_failed rs (watches rs w l) ls ∙ line_failed rs w l

-- ---- where the step begins

components_map : (f : File) (o : Option File) → (with_components f o).kept.map ≡ f.kept.map
components_map f None = refl
components_map f (Some old) = refl

grants_map : (f : File) (o : Option File) → (with_grants f o).kept.map ≡ f.kept.map
grants_map f None = refl
grants_map f (Some old) = refl

untold_map : (untold : Bool) (before : List File) (f : File) → (untold_file untold before f).kept.map ≡ f.kept.map
untold_map true before f = grants_map f (file_at before f.kept.number)
untold_map false before f = refl

-- it has the components that it had before, and its map
parts_of : (f old : File) (o : Option File) → o ≡ Some old → (with_components f o).kept.components ≡ old.kept.components
parts_of f old None e = absurd (cc e)
parts_of f old (Some x) e = let s : x ≡ old = cc e in ap (λ (y : File). y.kept.components) s

pub begun_at : (untold : Bool) (before after : Server) (n : ℕ) (f g : File) → file_at before.files n ≡ Some f
    → file_at after.files n ≡ Some g
    → (b : File) × (file_at (at_begin untold before after).files n ≡ Some b) × (b.kept.map ≡ g.kept.map)
    × (b.kept.components ≡ f.kept.components)
begun_at untold before after n f g e q = (
  begun_file untold before.files g,
  begun_each untold before.files after.files n g q,
  components_map (untold_file untold before.files g) (file_at before.files g.kept.number)
      ∙ untold_map untold before.files g,
  parts_of (untold_file untold before.files g) f (file_at before.files g.kept.number)
      (ap (λ (x : ℕ). file_at before.files x) (number_at after.files n g q) ∙ e),
)
