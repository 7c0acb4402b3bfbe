-- Answers and recalls, with the fields that carry no decision.
use Rattle.std.specs.Prelude.{ℕ, false, List, [], ◌∷◌, Option, Some, None, ◌+◌, ◌%◌, ◌==◌, if◌then◌else◌}
use Rattle.std.specs.Int.{w32, to_be_bytes}
use Rattle.layout_ops.specs.declared.statuses.TheConstants.{LAYOUTIOMODE4_ANY, NFS4_OK, NFS4ERR_LAYOUTTRYLATER}
use Rattle.layout_ops.specs.declared.results.LayoutGetResult.{LayoutGetResult}
use Rattle.layout_ops.specs.declared.results.LayoutGetResult.TheVariants as get
use Rattle.layout_ops.specs.declared.results.LayoutCommitResult.{LayoutCommitResult}
use Rattle.layout_ops.specs.declared.results.LayoutCommitResult.TheVariants as commit
use Rattle.layout_ops.specs.declared.results.LayoutReturnResult.{LayoutReturnResult}
use Rattle.layout_ops.specs.declared.results.LayoutReturnResult.TheVariants as return
use Rattle.layout_ops.specs.declared.results.Results.{Results}
use Rattle.layout_ops.specs.declared.results.Results.TheVariants as results
use Rattle.server_rules.specs.declared.limits.TheConstants.{WHOLE_FILE, RECALL_NUMBERS}
use Rattle.server_rules.specs.State.{Kept, Drive, Grant, ClientRequest, RequestArgs, Get, Commit, Return, Answer, Recall, Outgoing, Recalls}
use Rattle.server_rules.specs.Served.{Told}
use Rattle.server_rules.specs.Layouts.{stateid_of, granted}

-- ---- results

-- the result of a LAYOUTGET that is refused
abbrev pub get_refused : (status : ℕ) → LayoutGetResult
get_refused status = if status == NFS4ERR_LAYOUTTRYLATER then get.TryLater false else get.Refused status

-- the result of a LAYOUTCOMMIT, which tells no new size
abbrev pub commit_result : (status : ℕ) → LayoutCommitResult
commit_result status = if status == NFS4_OK then commit.Committed None else commit.Refused status

-- the result of a LAYOUTRETURN: the client has no layout of the file left
abbrev pub return_result : (status : ℕ) → LayoutReturnResult
return_result status = if status == NFS4_OK then return.Returned None else return.Refused status

-- the results of a request that is answered with a status and no layout
abbrev pub result_of : RequestArgs → (status : ℕ) → Results
result_of (Get iomode offset count) status = results.LayoutGet (get_refused status)
result_of (Commit last) status = results.LayoutCommit (commit_result status)
result_of (Return report) status = results.LayoutReturn (return_result status)

-- the layout of a grant, if there is one
abbrev pub result_with : List Drive → Kept → RequestArgs → (status : ℕ) → Option Grant → Results
result_with ds f args status None = result_of args status
result_with ds f args status (Some g) = results.LayoutGet (get.Granted (granted ds f g))

-- ---- answers

-- to a request
abbrev pub answer : ClientRequest → (detail size : ℕ) → Results → Answer
answer q detail size r = record {
  client = q.client;
  sequence = q.sequence;
  file = q.file;
  detail = detail;
  size = size;
  results = r;
}

-- one without a layout
abbrev pub plain_answer : ClientRequest → Told → (size : ℕ) → Answer
plain_answer q t size = answer q t.detail size (result_of q.args t.status)

-- one on a file, as the step left it
abbrev pub file_answer : List Drive → Kept → ClientRequest → Told → Answer
file_answer ds f q t = answer q t.detail f.size (result_with ds f q.args t.status t.grant)

-- ---- recalls

-- the recall of a grant: all layouts of the file, numbered by the low 32 bits of the count
abbrev pub recall_of : Grant → (count : ℕ) → Recall
recall_of g count = record {
  client = g.client;
  number = count % RECALL_NUMBERS;
  file = g.file;
  args = record {
    iomode = LAYOUTIOMODE4_ANY;
    changed = false;
    file = to_be_bytes w32 g.file;
    offset = 0;
    length = WHOLE_FILE;
    stateid = stateid_of g.number;
  };
}

-- the recalls of several grants, with rising numbers
unfoldable pub recalls_from : (count : ℕ) → List Grant → List Outgoing
recalls_from n [] = []
recalls_from n (g ∷ gs) = Recalls (recall_of g n) ∷ recalls_from (n + 1) gs
