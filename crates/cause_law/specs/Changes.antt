-- Which steps of the server make grants of a file live, end them, or change its size.
use Rattle.std.specs.Prelude.{◌≡◌, ◌≢◌, ◌⊎◌, ◌+◌, ℕ, true, List, [], ◌∷◌, ◌++◌, Option, Some, None}
use Rattle.server_rules.specs.declared.limits.TheConstants.{GREATEST_TAG}
use Rattle.server_rules.specs.History.{Input, Obeys, Opens}
use Rattle.server_rules.specs.Messages.{counters_have_room}
use Rattle.scenario_text.specs.declared.line.Line.{Line}
use Rattle.world_history.specs.ServerNames.{Server, File, Kept, Still, OrderKind, ToRevoke, ToRebuild, ToAudit, ClientRequest}
use Rattle.world_history.specs.Book.{server_after, book_of}
use Rattle.world_history.specs.State.{World}
use Rattle.world_history.specs.History.{StandsFor}
use Rattle.history_law.specs.Steps.{IsOrder}
use Rattle.history_law.specs.Fencing.{is_fencing}
use Rattle.component_law.specs.Going.{IsMaking}
use Rattle.history_law.specs.Read.{AreWritten}
use Rattle.cause_law.specs.Answers.{IsNew}
use Rattle.cause_law.specs.Steps.{AtInputs}

-- A fence of the file began, so no grant is live: it waits for replies to its SET TAGs, or is over, and the file has the next
-- tag.
pub record FenceBegan (before behind : File) : Type 0 where
  pub none : behind.kept.grants ≡ []
  pub fence : (is_fencing behind.job ≡ true) ⊎ (behind.kept.tag ≡ before.kept.tag + 1)

-- an order that begins with a fence
abbrev pub IsFencing : OrderKind → Type 0
IsFencing ToRevoke = Unit {0}
IsFencing ToRebuild = Unit {0}
IsFencing ToAudit = Unit {0}
IsFencing kind = ⊥

-- an order that is given at the server is taken always, one that comes in a message while the counters have room
abbrev pub TakesOrder : Server → Input → Type 0
TakesOrder s (Obeys kind n) = Unit {0}
TakesOrder s i = counters_have_room s ≡ true

-- the file has a live grant, or a fence of it, or the repair behind that, isn't over
abbrev pub IsUnsettled : Kept → Type 0
IsUnsettled f = (f.grants ≢ []) ⊎ (f.phase ≢ Still)

-- What begins a fence of the file beside a request: an order to revoke, to rebuild or to audit it, while no job of it runs; or
-- the server's opening, if the file has a grant, or a fence of it or the repair behind that is cut off. There is a further tag.
pub data BeginsFence (s : Server) (i : Input) (f : File) : Type 0 where
  ByOrder : (kind : OrderKind) → IsFencing kind → IsOrder i kind f.kept.number → TakesOrder s i → f.job ≡ None
      → f.kept.tag ≢ GREATEST_TAG → BeginsFence s i f
  ByOpening : i ≡ Opens → counters_have_room s ≡ true → IsUnsettled f.kept → f.kept.tag ≢ GREATEST_TAG
      → BeginsFence s i f

-- a new request on the file comes
pub record IsAskedOf (s : Server) (i : Input) (file : ℕ) : Type 0 where
  pub now : ℕ
  pub request : ClientRequest
  pub new : IsNew s i now request
  pub on : request.file ≡ file

-- How the live grants and the size of a file go on in a step: there is no such file, or it is made; they stay, and nothing
-- begins a fence; something does, and that ends all grants; or a new request on the file comes, and its answer's cause says
-- what changes.
pub data Changes (s : Server) (i : Input) (file : ℕ) : (before behind : Option File) → Type 0 where
  Absent : Changes s i file None None
  Made : (g : File) → IsMaking i file → g.kept.grants ≡ [] → g.kept.size ≡ 0 → Changes s i file None (Some g)
  Stays : (f g : File) → (BeginsFence s i f → ⊥) → g.kept.grants ≡ f.kept.grants → g.kept.size ≡ f.kept.size
      → Changes s i file (Some f) (Some g)
  Fenced : (f g : File) → BeginsFence s i f → FenceBegan f g → g.kept.size ≡ f.kept.size
      → Changes s i file (Some f) (Some g)
  Asked : (f g : File) → IsAskedOf s i file → Changes s i file (Some f) (Some g)

-- so it is of each file behind these lines of the step
abbrev pub ChangesFiles : (before : List Line) → Line → Input → (rest : List Line) → Type 0
ChangesFiles before l i rest =
    (file : ℕ) → Changes (server_after before) i file (book_of before file) (book_of (before ++ l ∷ rest) file)

abbrev pub GrantsHaveCauses : List Line → Type 0
GrantsHaveCauses h = AtInputs ChangesFiles h

-- in each whole history whose events a text may have
abbrev pub EachGrantHasItsCauses : Type 0
EachGrantHasItsCauses = (w : World) (h : List Line) → StandsFor w h → AreWritten h → GrantsHaveCauses h
