-- A step of the server leaves no other grants than before, but what a new request of a client is told.
use Rattle.std.proofs.Common.{◌≡◌, ℕ, List, [], ◌∙◌}
use Rattle.world_history.specs.ServerNames.{Server, File, Drive}
use Rattle.server_rules.specs.Files.{at_file}
use Rattle.server_rules.specs.Going.{Going}
use Rattle.server_rules.specs.History.{Input, step}
use Rattle.server_rules.specs.Laws.{AreSafe}
use Rattle.server_rules.specs.Making.{with_file}
use Rattle.server_rules.specs.Orders.{offline}
use Rattle.server_rules.proofs.Runs.{ran_making}
use Rattle.history_law.specs.Files.{GoesAt, AllGo, FilesGo}
use Rattle.history_law.proofs.Files.{safe_in, files_go}
use Rattle.exchange_law.proofs.Grants.{Fewer, fewer_itself, fence_fewer, declares_fewer, opens_fewer, hears_none}

abbrev pub IsFewer : List Drive → File → File → Type 0
IsFewer ds f g = Fewer f.kept g.kept

abbrev pub HasNone : File → Type 0
HasNone g = g.kept.grants ≡ []

-- the file has no grants, or goes on with no others
abbrev pub FewerAt : List Drive → List File → (number : ℕ) → File → Type 0
FewerAt ds fs n g = GoesAt IsFewer HasNone ds fs n g

abbrev pub AllFewer : List Drive → List File → List File → Type 0
AllFewer ds fs gs = AllGo IsFewer HasNone ds fs gs

pub step_did : (s : Server) (chosen : List ℕ) (i : Input) → AreSafe s.files
    → FilesGo IsFewer HasNone s chosen i (step s chosen i)
step_did s chosen i safe = files_go IsFewer HasNone s chosen i (record {
  same = λ ds f. fewer_itself f.kept;
  number = λ ds f g x. x.number;
  answered = λ x is.
      hears_none (at_file s chosen x.file) x.reply x.job x.awaited is.runs (safe_in s.files safe x.file is.there);
  fenced = λ f is kind none. fence_fewer kind s.format (at_file s chosen f);
  declared = λ d known f there m placed.
      let go : Going = record { file = f; effects = m; drives = offline s.drives d; chosen = placed } in
      declares_fewer go d (safe_in s.files safe f there);
  made = λ f none. (ran_making (at_file (with_file s f) [] f)).grants ∙ none;
  crashed = λ f there. fewer_itself f.kept;
  opened = λ f there m. opens_fewer s.format (record { file = f; effects = m; drives = s.drives; chosen = [] });
})
