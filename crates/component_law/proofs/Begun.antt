-- The files of a server at the beginning of its step.
use Rattle.std.proofs.Common.{◌≡◌, ℕ, ◌==◌, ◌∷◌, [], List, Bool, true, false, Option, Some, None, map, refl, ap, ◌∙◌, inl, inr}
use Rattle.std.proofs.lemmas.Bool.{cases_Bool}
use Rattle.server_rules.specs.Files.{file_at}
use Rattle.world_history.specs.ServerNames.{File}
use Rattle.world_history.specs.Calm.{with_components, with_grants, untold_file, begun_file}

pub begun_number : (u : Bool) (before : List File) (g : File) → (begun_file u before g).kept.number ≡ g.kept.number
begun_number u before g = of_untold (untold_file u before g) (untold_number u)
  where
    grants_number : (o : Option File) → (with_grants g o).kept.number ≡ g.kept.number
    grants_number None = refl
    grants_number (Some x) = refl

    untold_number : (u : Bool) → (untold_file u before g).kept.number ≡ g.kept.number
    untold_number true = grants_number (file_at before g.kept.number)
    untold_number false = refl

    parts_number : (f : File) (o : Option File) → (with_components f o).kept.number ≡ f.kept.number
    parts_number f None = refl
    parts_number f (Some x) = refl

    of_untold : (f : File) → f.kept.number ≡ g.kept.number
        → (with_components f (file_at before g.kept.number)).kept.number ≡ g.kept.number
    of_untold f e = parts_number f (file_at before g.kept.number) ∙ e

pub begun_at : (u : Bool) (before after : List File) (n : ℕ) (g : File) → file_at after n ≡ Some g
    → file_at (map (begun_file u before) after) n ≡ Some (begun_file u before g)
unfolding file_at
begun_at u before [] n g e = absurd (cc e)
begun_at u before (x ∷ xs) n g e = elim (cases_Bool (x.kept.number == n)) [
  | inl t ↦
      let s : x ≡ g = cc (rw t at e) in
      rw (begun_number u before x) (rw t (ap (λ (y : File). Some (begun_file u before y)) s))
  | inr z ↦ rw (begun_number u before x) (rw z (begun_at u before xs n g (rw z at e)))
]
