-- What holds of each lawful history at each of its moments and lines.
use Rattle.std.proofs.Common.{◌≡◌, ◌++◌, ◌∷◌, [], List, Option, Some, None, sym, subst, ◌∙◌, append_assoc}
use Rattle.scenario_text.specs.declared.line.Line.{Line}
use Rattle.world_history.specs.Book.{book_of}
use Rattle.world_history.specs.ServerNames.{File}
use Rattle.world_history.specs.History.{Lawful, FrontsAreLawful}
use Rattle.history_law.specs.Safe.{AtEachMoment, AtEachLine}
use Rattle.component_law.specs.Apart.{AreApart}
use Rattle.component_law.specs.Naming.{AreNamed}
use Rattle.component_law.specs.OnDrives.{StandApart, ComponentsStandApart}
use Rattle.history_claims.specs.Sound.{HoldsIfLawful}
use Rattle.ready_law.specs.Losses.{FilesBearLosses, LossesAreBorne}

-- ---- moments and lines

pub at_moments : (P : List Line → Type 0) → FrontsAreLawful → HoldsIfLawful P → HoldsIfLawful (AtEachMoment P)
at_moments P fronts holds h l before after is = holds before (fronts before after (subst Lawful is l))

pub at_lines : (P : List Line → Line → Type 0) → FrontsAreLawful
    → ((before : List Line) (last : Line) → Lawful (before ++ last ∷ []) → P before last) → HoldsIfLawful (AtEachLine P)
at_lines P fronts holds h l before last after is =
    holds before last
    (fronts (before ++ last ∷ []) after (subst Lawful (is ∙ sym (append_assoc before (last ∷ []) after)) l))

-- ---- losses

-- the components of a file of the book stand on different drives
of_book : (o : Option File) (f : File) → o ≡ Some f → StandApart o → AreApart f.kept.components
of_book None f e x = absurd (cc e)
of_book (Some g) f e x = let same : g ≡ f = cc e in subst (λ (y : File). AreApart y.kept.components) same x.0

pub losses_at : ComponentsStandApart → LossesAreBorne → (h : List Line) → Lawful h → AreNamed h → AtEachMoment FilesBearLosses h
losses_at apart borne h l named before after is =
    borne before (λ file f found. of_book (book_of before file) f found (apart h l named before after is file))
