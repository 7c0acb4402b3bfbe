-- Which bytes of a component two grants of one file allow.
use Rattle.std.specs.Prelude.{◌≡◌, ℕ, true, List}
use Rattle.server_rules.specs.declared.files.Component.{Component}
use Rattle.server_rules.specs.declared.files.Kept.{Kept}
use Rattle.server_rules.specs.declared.grants.Grant.{Grant}
use Rattle.server_rules.specs.Laws.{In}
use Rattle.server_rules.specs.Layouts.{capability_for}
use Rattle.scenario_text.specs.declared.line.Line.{Line}
use Rattle.world_history.specs.Book.{book_of, live_in}
use Rattle.world_history.specs.History.{Lawful}
use Rattle.history_law.specs.Touching.{IsInside}

-- no byte of component k is inside the capabilities of both grants, whatever else the file keeps
abbrev pub AreApart : (k : ℕ) → Grant → Grant → Type 0
AreApart k a b =
    (f g : Kept) → f.map ≡ g.map → (at there : Component) (x : ℕ) → IsInside (capability_for f a at k) x
    → IsInside (capability_for g b there k) x → ⊥

-- behind these lines, of two live grants of a file of which one is for writing
abbrev pub AreRangesApart : List Line → Type 0
AreRangesApart h =
    (file : ℕ) (a b : Grant) → In a (live_in (book_of h file)) → In b (live_in (book_of h file)) → (a ≡ b → ⊥)
    → a.rw ≡ true → (k : ℕ) → AreApart k a b

-- so it is at each moment of a history
abbrev pub RangesAreApart : Type 0
RangesAreApart = (h : List Line) → Lawful h → AreRangesApart h
