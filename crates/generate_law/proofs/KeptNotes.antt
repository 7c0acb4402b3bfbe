-- What the server notes where it serves a client's request that begins no fence: nothing.
use Rattle.std.proofs.Common.{◌≡◌, ◌==◌, ◌&&◌, nat_le, ℕ, Bool, true, false, List, [], Option, Some, None, refl, ap, ◌∙◌, if◌then◌else◌}
use Rattle.layout_ops.specs.declared.statuses.TheConstants.{LAYOUTIOMODE4_RW}
use Rattle.osd_lists.specs.declared.node.Node.TheVariants as node
use Rattle.server_rules.specs.declared.limits.TheConstants.{MAX_CLIENT}
use Rattle.server_rules.specs.Commit.{Committed, NoGrant as NoGrantToCommit, Wrong, Sizes, by_commit, commit_row, commits}
use Rattle.server_rules.specs.Files.{Step, file_at, at_file}
use Rattle.server_rules.specs.Get.{Early, BadMode, Invalid, Unable, Waits, On, Late, NoNumber, Lacks, Conflict, Gives, early, must_fence, late, by_late, give_or_refuse, fence_first, on_grants, by_early, gets}
use Rattle.server_rules.specs.Going.{Going}
use Rattle.server_rules.specs.Grants.{grant_of, asked}
use Rattle.server_rules.specs.Messages.{Asks, counters_have_room, on_message}
use Rattle.server_rules.specs.Requests.{serves, carries_out, by_admit, on_request}
use Rattle.server_rules.specs.Return.{by_grant, by_return, return_row, returns_on}
use Rattle.server_rules.specs.Slots.{Admit, New, Again, Misordered, slot_of, admit}
use Rattle.world_history.specs.ServerNames.{Server, File, Grant, ClientRequest}

-- ---- a request at its file

late_quiet : (go : Going) (g : Grant) (l : Late) → (by_late go g l).going.effects ≡ go.effects
late_quiet go g NoNumber = refl
late_quiet go g (Lacks k) = refl
late_quiet go g (Conflict holder) = refl
late_quiet go g Gives = refl

grants_quiet : (go : Going) (next format now : ℕ) (g : Grant) → must_fence now go.file.kept.grants g ≡ false
    → (on_grants go next format now g).going.effects ≡ go.effects
unfolding on_grants give_or_refuse
grants_quiet go next format now g none =
    ap (λ (b : Bool). (if b then fence_first go next format g else give_or_refuse go next g).going.effects) none
    ∙ late_quiet go g (late go.file.kept next g)

early_quiet : (go : Going) (next format now : ℕ) (g : Grant) (e : Early) → must_fence now go.file.kept.grants g ≡ false
    → (by_early go next format now g e).going.effects ≡ go.effects
early_quiet go next format now g BadMode none = refl
early_quiet go next format now g Invalid none = refl
early_quiet go next format now g Unable none = refl
early_quiet go next format now g (Waits k) none = refl
early_quiet go next format now g On none = grants_quiet go next format now g none

pub get_quiet : (go : Going) (next format now client iomode offset count : ℕ)
    → must_fence now go.file.kept.grants (asked go.file.kept next client now offset count (iomode == LAYOUTIOMODE4_RW)) ≡ false
    → (gets go next format now client iomode offset count).going.effects ≡ go.effects
unfolding gets
get_quiet go next format now client iomode offset count none =
    early_quiet go next format now (asked go.file.kept next client now offset count (iomode == LAYOUTIOMODE4_RW))
    (early go.file iomode offset count) none

committed_quiet : (go : Going) (c : Committed) → (by_commit go c).going.effects ≡ go.effects
committed_quiet go NoGrantToCommit = refl
committed_quiet go Wrong = refl
committed_quiet go (Sizes size) = refl

pub commit_quiet : (go : Going) (client : ℕ) (last : Option ℕ) → (commits go client last).going.effects ≡ go.effects
unfolding commits
commit_quiet go client last = committed_quiet go (commit_row go.file.kept client last)

clean_quiet : (go : Going) (format client : ℕ) (o : Option Grant)
    → (by_return go format client (by_grant go.file.kept [] o)).going.effects ≡ go.effects
clean_quiet go format client None = refl
clean_quiet go format client (Some g) = refl

pub return_quiet : (go : Going) (format client : ℕ) → (returns_on go format client []).going.effects ≡ go.effects
unfolding returns_on return_row
return_quiet go format client = clean_quiet go format client (grant_of go.file.kept.grants client)

-- ---- its step

-- the request brings no note at its file
abbrev pub IsQuietAt : Server → (now : ℕ) → (chosen : List ℕ) → ClientRequest → Type 0
IsQuietAt s now chosen q =
    (f : File) → file_at s.files q.file ≡ Some f
    → (serves (at_file s chosen f) s.next_grant s.format now q.client q.args).going.effects.notes ≡ []

either : (b : Bool) (x y : Step) → x.notes ≡ [] → y.notes ≡ [] → (if b then x else y).notes ≡ []
either true x y p q = p
either false x y p q = q

file_quiet : (s : Server) (now : ℕ) (chosen : List ℕ) (q : ClientRequest) (o : Option File) → file_at s.files q.file ≡ o
    → IsQuietAt s now chosen q → (carries_out s now chosen q o).notes ≡ []
file_quiet s now chosen q None found quiet = refl
file_quiet s now chosen q (Some f) found quiet = quiet f found

admit_quiet : (s : Server) (now : ℕ) (chosen : List ℕ) (q : ClientRequest) (a : Admit) → IsQuietAt s now chosen q
    → (by_admit s now chosen q a).notes ≡ []
admit_quiet s now chosen q New quiet = file_quiet s now chosen q (file_at s.files q.file) refl quiet
admit_quiet s now chosen q (Again kept) quiet = refl
admit_quiet s now chosen q (Misordered expected) quiet = refl

pub request_quiet : (s : Server) (now : ℕ) (chosen : List ℕ) (c : ℕ) (q : ClientRequest) → IsQuietAt s now chosen q
    → (on_message s now chosen (node.Client c) (Asks q)).notes ≡ []
unfolding on_message on_request
request_quiet s now chosen c q quiet =
    either (counters_have_room s) _ _
    (either ((q.client == c) && nat_le c MAX_CLIENT) _ _
    (admit_quiet s now chosen q (admit (slot_of s.slots q.client) q.sequence) quiet) refl) refl
