-- The components of a file stand on different drives, at each moment.
use Rattle.std.proofs.Common.{◌≡◌, ℕ, zero, suc, List, [], ◌∷◌, slice_get, Some, refl, sym, ap, ◌∙◌, inl, inr}
use Rattle.server_rules.specs.Files.{file_at}
use Rattle.server_rules.specs.Laws.{In}
use Rattle.scenario_text.specs.declared.line.Line.{Line}
use Rattle.world_history.specs.Book.{ServerSeen}
use Rattle.world_history.specs.ServerNames.{Component}
use Rattle.world_history.specs.History.{Lawful}
use Rattle.history_law.specs.Read.{BookIsRead}
use Rattle.component_law.specs.Apart.{AreApart}
use Rattle.component_law.specs.Naming.{AreNamed}
use Rattle.component_law.proofs.NamedLines.{are_named}
use Rattle.ready_law.specs.Losses.{StandApart}
use Rattle.ready_law.proofs.Losses.{elsewhere}
use Rattle.ready_law.proofs.WorkingForms.{FilesStandApart}

-- so it is by the book of each history that names what it makes
abbrev pub BooksStandApart : Type 0
BooksStandApart = (h : List Line) → Lawful h → AreNamed h → StandApart h

-- what stands at a place is in the list
pub got_in : {A : Type 0} (xs : List A) (n : ℕ) (x : A) → slice_get xs n ≡ Some x → In x xs
got_in [] n x e = absurd (cc e)
got_in (y ∷ xs) zero x e = let same : y ≡ x = cc e in inl (sym same)
got_in (y ∷ xs) (suc n) x e = inr (got_in xs n x e)

-- two on one drive are the same
one_place : (cs : List Component) → AreApart cs → (j k : ℕ) (a b : Component) → slice_get cs j ≡ Some a
    → slice_get cs k ≡ Some b → a.drive ≡ b.drive → j ≡ k
one_place [] apart j k a b at bt on = absurd (cc at)
one_place (c ∷ cs) apart zero zero a b at bt on = refl
one_place (c ∷ cs) apart zero (suc k) a b at bt on =
    let same : c ≡ a = cc at in
    absurd (elsewhere c.drive cs apart.0 b (got_in cs k b bt) (sym (ap (λ (z : Component). z.drive) same ∙ on)))
one_place (c ∷ cs) apart (suc j) zero a b at bt on =
    let same : c ≡ b = cc bt in
    absurd (elsewhere c.drive cs apart.0 a (got_in cs j a at) (on ∙ ap (λ (z : Component). z.drive) (sym same)))
one_place (c ∷ cs) apart (suc j) (suc k) a b at bt on = ap suc (one_place cs apart.1 j k a b at bt on)

pub files_stand_apart : BookIsRead → BooksStandApart → FilesStandApart
files_stand_apart read apart w h fair n f found j k a b at bt on =
    let book = ap (λ (x : ServerSeen). file_at x.server.files n) (read w h fair.moment fair.written) ∙ found in
    one_place f.kept.components (apart h fair.lawful (are_named h fair.written) n f book) j k a b at bt on
