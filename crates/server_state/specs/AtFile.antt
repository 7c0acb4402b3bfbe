-- A request at the file of its number.
use Rattle.std.specs.Prelude.{List, Option, Some, None, ◌≡◌}
use Rattle.std.specs.Ordering.{nat_cmp}
use Rattle.std.specs.BTreeMap.{is_at}
use Rattle.std.specs.Map.{set_value}
use Rattle.server_rules.specs.declared.requests.ClientRequest.{ClientRequest}
use Rattle.server_rules.specs.declared.server.Drive.{Drive}
use Rattle.server_rules.specs.declared.server.Effects.{Effects}
use Rattle.server_rules.specs.Answers.{file_answer}
use Rattle.layout_ops.specs.Spelling.{ResultsWritable}
use Rattle.server_requests.specs.Telling.{told_rule}
use Rattle.file_jobs.specs.declared.job.FileState.{FileState}
use Rattle.server_state.specs.declared.outcome.Asking.{Asking}
use Rattle.server_state.specs.FileRequests.{Serves, Counts, LeavesFile, serves_for}
use Rattle.server_state.specs.declared.at_file.Served.{Served}
use Rattle.server_state.specs.Tables.{Table, entry_at}

-- what a request left of its file, and its answer
pub record ServedAt (q : Asking) (r : ClientRequest) (ds : List Drive) (f : FileState) (was : Effects) (v : Served)
    (new : FileState) (is : Effects) : Type 0 where
  pub rule : Serves (serves_for q r.args) f was v.outcome new is
  pub answer : v.answer ≡ file_answer ds new.kept r (told_rule v.outcome.told)
  pub writable : ResultsWritable v.answer.results
  pub numbers : Counts q.next_grant v.outcome
  pub leaves : LeavesFile f new

-- the request is served at the file of its number in the table; nothing happens if there is none
abbrev pub ServedIn : Asking → ClientRequest → List Drive → Table → Effects → Option Served → Table → Effects → Type 0
ServedIn q r ds old was None new is = (entry_at old r.file ≡ None) × (new ≡ old) × (is ≡ was)
ServedIn q r ds old was (Some v) new is =
    (f g : FileState) × (entry_at old r.file ≡ Some f) × (new ≡ set_value (is_at (nat_cmp r.file)) old g)
    × ServedAt q r ds f was v g is
