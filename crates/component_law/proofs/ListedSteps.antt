-- A step of the server leaves no other grants than before, but what a new request of a client is told.
use Rattle.std.proofs.Common.{◌≡◌, ◌⊎◌, ℕ, List, [], Some, ◌∙◌}
use Rattle.server_rules.specs.Files.{Step, file_at, at_file}
use Rattle.server_rules.specs.History.{Input, step}
use Rattle.server_rules.specs.Laws.{AreSafe}
use Rattle.server_rules.specs.Making.{with_file}
use Rattle.server_rules.specs.Orders.{offline}
use Rattle.server_rules.proofs.Runs.{ran_making}
use Rattle.world_history.specs.ServerNames.{Server, File, Drive}
use Rattle.history_law.specs.Files.{FilesGo, FileCases}
use Rattle.history_law.proofs.Files.{safe_in, files_go}
use Rattle.exchange_law.proofs.Grants.{hears_none}
use Rattle.component_law.specs.Listed.{IsOffline}
use Rattle.component_law.proofs.Offline.{now_out}
use Rattle.component_law.proofs.PartyKeeping.{Fewer, fewer_itself, fence_fewer, declares_fewer, opens_fewer}

abbrev pub Goes : List Drive → File → File → Type 0
Goes ds f g = Fewer (IsOffline ds) f.kept g.kept

abbrev pub HasNone : File → Type 0
HasNone g = g.kept.grants ≡ []

module _ (Off : ℕ → Type 0) where
  -- the file has no grants, or goes on with no others
  abbrev pub FewerAt : List File → (number : ℕ) → File → Type 0
  FewerAt fs n g = ((f : File) × (file_at fs n ≡ Some f) × Fewer Off f.kept g.kept) ⊎ (g.kept.grants ≡ [])

  abbrev pub AllFewer : List File → List File → Type 0
  AllFewer fs gs = (n : ℕ) (g : File) → file_at gs n ≡ Some g → FewerAt fs n g

-- a request comes, or all goes on with no other grants and the same slots
abbrev pub Did : (s : Server) (chosen : List ℕ) (i : Input) → Step → Type 0
Did s chosen i t = FilesGo Goes HasNone s chosen i t

cases : (s : Server) (chosen : List ℕ) (i : Input) → AreSafe s.files → FileCases Goes HasNone s chosen i
cases s chosen i safe = record {
  same = λ ds f. fewer_itself (IsOffline ds) f.kept;
  number = λ ds f g x. x.number;
  answered = λ x is.
      hears_none (at_file s chosen x.file) x.reply x.job x.awaited is.runs (safe_in s.files safe x.file is.there);
  fenced = λ f is kind none. fence_fewer (IsOffline s.drives) kind s.format (at_file s chosen f);
  declared = λ d known f there m placed.
      declares_fewer (IsOffline (offline s.drives d))
      (record { file = f; effects = m; drives = offline s.drives d; chosen = placed }) d
      (safe_in s.files safe f there) (now_out s.drives d known);
  made = λ f none. (ran_making (at_file (with_file s f) [] f)).grants ∙ none;
  crashed = λ f there. fewer_itself (IsOffline s.drives) f.kept;
  opened = λ f there m.
      opens_fewer (IsOffline s.drives) s.format
      (record { file = f; effects = m; drives = s.drives; chosen = [] });
}

pub step_did : (s : Server) (chosen : List ℕ) (i : Input) → AreSafe s.files → Did s chosen i (step s chosen i)
step_did s chosen i safe = files_go Goes HasNone s chosen i (cases s chosen i safe)
