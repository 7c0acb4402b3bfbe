-- Numbers come once, of grants and of the objects of components, whatever crashes come between.
use Rattle.std.specs.Prelude.{◌≡◌, ℕ, List, ◌∷◌, ◌++◌, slice_get, Option, Some, None}
use Rattle.layout_ops.specs.declared.results.LayoutGetOk.{LayoutGetOk}
use Rattle.layout_ops.specs.declared.results.LayoutGetResult.TheVariants as get
use Rattle.layout_ops.specs.declared.results.Results.TheVariants as results
use Rattle.server_rules.specs.History.{Input}
use Rattle.scenario_text.specs.declared.line.Line.{Line}
use Rattle.world_history.specs.ServerNames.{File, Component, ClientRequest}
use Rattle.world_history.specs.Book.{input_at, server_seen, server_after, book_of}
use Rattle.world_history.specs.State.{World}
use Rattle.world_history.specs.History.{StandsFor}
use Rattle.history_law.specs.BookMoments.{IsMoment}
use Rattle.history_law.specs.Read.{AreWritten}
use Rattle.cause_law.specs.Answers.{IsNew, EndsInAnswer}
use Rattle.cause_law.specs.Steps.{AtInputs}

-- ---- the layouts that are given

-- a new request comes at the line, and its answer in these further lines of the step gives this layout
pub record IsGiven (before : List Line) (l : Line) (i : Input) (rest : List Line) (ok : LayoutGetOk) : Type 0 where
  pub now : ℕ
  pub request : ClientRequest
  pub new : IsNew (server_after before) i now request
  pub answered : EndsInAnswer before l now request rest
  pub gives : answered.answer.results ≡ results.LayoutGet (get.Granted ok)

-- No layout that is given at a later line of these names the same grant.
abbrev pub NamesNoOther : (h : List Line) → (before : List Line) → Line → Input → (rest : List Line) → Type 0
NamesNoOther h before l i rest =
    (ok : LayoutGetOk) → IsGiven before l i rest ok → (middle : List Line) (m : Line) (after : List Line) (j : Input)
    → h ≡ before ++ l ∷ (middle ++ m ∷ after) → input_at (server_seen (before ++ l ∷ middle)) m ≡ Some j
    → (last : List Line) (other : LayoutGetOk) → IsGiven (before ++ l ∷ middle) m j last other
    → other.stateid ≡ ok.stateid → ⊥

-- so it is of each line at which something comes to the server
abbrev pub GrantsAreNamedOnce : List Line → Type 0
GrantsAreNamedOnce h = AtInputs (NamesNoOther h) h

-- in each whole history whose events a text may have
abbrev pub EachGrantIsNamedOnce : Type 0
EachGrantIsNamedOnce = (w : World) (h : List Line) → StandsFor w h → AreWritten h → GrantsAreNamedOnce h

-- ---- the objects of components

-- component k of a file, present or missing
abbrev pub component_of : Option File → (k : ℕ) → Option Component
component_of None k = None
component_of (Some f) k = slice_get f.kept.components k

-- a place in these lines at which the server rests: their end, or before a line at which something comes to it
pub data IsPlace (h before : List Line) : Type 0 where
  AtEnd : h ≡ before → IsPlace h before
  AtInput : (l : Line) (after : List Line) (i : Input) → h ≡ before ++ l ∷ after
      → input_at (server_seen before) l ≡ Some i → IsPlace h before

-- A component's object is its own: what has the same object number at the end of these lines, and at any place before, is the
-- same component of the same file.
abbrev pub ObjectsAreOwn : List Line → Type 0
ObjectsAreOwn h =
    (before : List Line) → IsPlace h before → (n k : ℕ) (a : Component) → component_of (book_of before n) k ≡ Some a
    → (m j : ℕ) (b : Component) → component_of (book_of h m) j ≡ Some b → a.object ≡ b.object → (n ≡ m) × (k ≡ j)

-- at each moment of a history
abbrev pub ObjectsAreOwnAt : List Line → Type 0
ObjectsAreOwnAt h = (w : World) → IsMoment w h → AreWritten h → ObjectsAreOwn h

abbrev pub EachObjectIsOwn : Type 0
EachObjectIsOwn = (h : List Line) → ObjectsAreOwnAt h
