-- A step of the server, file by file: each file goes on by what one function does to it, or is new.
use Rattle.std.specs.Prelude.{◌≡◌, ◌⊎◌, ◌==◌, ℕ, true, List, [], Some, None, find, is_some}
use Rattle.server_rules.specs.Files.{Step, file_at, at_file}
use Rattle.server_rules.specs.History.{Input}
use Rattle.server_rules.specs.Jobs.{making, declares, fence_begins}
use Rattle.server_rules.specs.Laws.{In}
use Rattle.server_rules.specs.Making.{with_file}
use Rattle.server_rules.specs.Openings.{crashed_file, opens}
use Rattle.server_rules.specs.Orders.{offline}
use Rattle.server_rules.specs.Requests.{on_request}
use Rattle.world_history.specs.ServerNames.{Server, File, Drive, Effects, JobKind, ClientRequest}
use Rattle.history_law.specs.Steps.{IsAsked, Answering, IsAnswering, answered_file, IsOrdered}

-- `R ds f g` says how file f goes on as g in a step that leaves the drives ds, and `N g` what a file is whatever it was.

-- what stands under a number stood there, or is so whatever it was
abbrev pub GoesAt : (List Drive → File → File → Type 0) → (File → Type 0) → List Drive → List File → (number : ℕ) → File
    → Type 0
GoesAt R N ds fs n g = ((f : File) × (file_at fs n ≡ Some f) × R ds f g) ⊎ N g

abbrev pub AllGo : (List Drive → File → File → Type 0) → (File → Type 0) → List Drive → List File → List File → Type 0
AllGo R N ds fs gs = (n : ℕ) (g : File) → file_at gs n ≡ Some g → GoesAt R N ds fs n g

-- a client's request comes, or all files go on and each slot is as it was
pub data FilesGo (R : List Drive → File → File → Type 0) (N : File → Type 0) (s : Server) (chosen : List ℕ) (i : Input) (t
    : Step) : Type 0 where
  Quiet : AllGo R N t.state.drives s.files t.state.files → t.state.slots ≡ s.slots → FilesGo R N s chosen i t
  Asked : (now : ℕ) (q : ClientRequest) → IsAsked s i now q → t ≡ on_request s now chosen q → FilesGo R N s chosen i t

-- So it is in each step, where it is in each of these cases.
pub record FileCases (R : List Drive → File → File → Type 0) (N : File → Type 0) (s : Server) (chosen : List ℕ) (i :
    Input) : Type 0 where
  pub same : (ds : List Drive) (f : File) → R ds f f
  pub number : (ds : List Drive) (f g : File) → R ds f g → g.kept.number ≡ f.kept.number
  pub answered : (x : Answering) → IsAnswering s i x → N (answered_file s chosen x).file
  pub fenced : (f : File) → IsOrdered s i f → (kind : JobKind) → f.job ≡ None
      → R s.drives f (fence_begins kind s.format (at_file s chosen f)).file
  pub declared : (d : ℕ) → is_some (find (λ (x : Drive). x.number == d) s.drives) ≡ true → (f : File) → In f s.files
      → (m : Effects) (placed : List ℕ)
      → R (offline s.drives d) f
      (declares (record { file = f; effects = m; drives = offline s.drives d; chosen = placed }) d).file
  pub made : (f : File) → f.kept.grants ≡ [] → N (making (at_file (with_file s f) [] f)).file
  pub crashed : (f : File) → In f s.files → R s.drives f (crashed_file f)
  pub opened : (f : File) → In f s.files → (m : Effects)
      → R s.drives f (opens s.format (record { file = f; effects = m; drives = s.drives; chosen = [] })).file
