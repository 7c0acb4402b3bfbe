-- What clients are told of a barred file, in each move: nothing new.
use Rattle.std.proofs.Common.{◌≡◌, ◌⊎◌, ◌==◌, ◌<◌, ℕ, true, List, [], ◌∷◌, ◌++◌, Option, Some, refl, sym, ap, subst, ◌∙◌, arith, inl, inr}
use Rattle.std.proofs.lemmas.Bool.{cases_Bool}
use Rattle.layout_ops.specs.declared.envelope.Envelope.TheVariants as envelope
use Rattle.layout_ops.specs.declared.results.Results.{Results}
use Rattle.layout_ops.specs.declared.results.Results.TheVariants as results
use Rattle.layout_ops.specs.declared.statuses.TheConstants.{NFS4ERR_LAYOUTTRYLATER}
use Rattle.layout_ops.specs.Spelling.{envelope_item}
use Rattle.server_rules.specs.Answers.{get_refused, result_of}
use Rattle.server_rules.specs.Files.{file_at}
use Rattle.server_rules.proofs.Members.{in_either}
use Rattle.scenario_text.specs.declared.line.Line.{Line}
use Rattle.world_history.specs.ServerNames.{Server, File, Kept, Drive, Grant, Answer, ClientRequest, RequestArgs, Get, Commit, Return}
use Rattle.cause_law.specs.Answers.{answer_line, GetIsCaused, IsCausedAt, IsCaused, NoFile, OnFile}
use Rattle.cause_law.specs.Commits.{Commits}
use Rattle.cause_law.specs.Commits as commit
use Rattle.cause_law.specs.Gets as row
use Rattle.cause_law.specs.Gets.{Asking, Row, LeavesLive, result_of as told_by}
use Rattle.cause_law.specs.Returns.{Returns}
use Rattle.cause_law.specs.Returns as return
use Rattle.cause_law.specs.Told.{WasSent}
use Rattle.cause_law.specs.Reopened.{crash_line, GiveLayout, GivesLayoutOf, ReadsNone, WasSentTo, TellNoneNew}

-- ---- results without a layout

get_none : (status : ℕ) → GiveLayout (results.LayoutGet (get_refused status)) → ⊥
get_none status g = elim (cases_Bool (status == NFS4ERR_LAYOUTTRYLATER)) [
  | inl e ↦ rw e at g
  | inr e ↦ rw e at g
]

pub plain_none : (args : RequestArgs) (status : ℕ) → GiveLayout (result_of args status) → ⊥
plain_none (Get iomode offset count) status g = get_none status g
plain_none (Commit last) status g = g
plain_none (Return report) status g = g

pub commit_none : (f g : Kept) (client : ℕ) (last : Option ℕ) (detail : ℕ) (r : Results) → Commits f g client last detail r
    → GiveLayout r → ⊥
commit_none f g client last detail r (commit.NoGrant l none same) gives = gives
commit_none f g client last detail r (commit.Sizes l h may same) gives = gives
commit_none f g client last detail r (commit.Wrong l h none same) gives = gives

pub return_none : (f g : Kept) (client : ℕ) (report : _) (detail : ℕ) (r : Results) → Returns f g client report detail r
    → GiveLayout r → ⊥
return_none f g client report detail r (return.NoGrant l none same) gives = gives
return_none f g client report detail r (return.Clean h same) gives = gives
return_none f g client report detail r (return.Taken l some loss same) gives = gives
return_none f g client report detail r (return.TagSpent l some h none tag same) gives = gives
return_none f g client report detail r (return.Fences l some h none tag grants size) gives = gives

-- the only row that gives a layout
pub gives_row : (ds : List Drive) (f : Kept) (g : Grant) (r : Row) → GiveLayout (told_by ds f g r) → r ≡ row.Gives
gives_row ds f g row.Gives x = refl
gives_row ds f g row.BadMode x = absurd x
gives_row ds f g row.BadRange x = absurd x
gives_row ds f g row.LeftOpen x = absurd x
gives_row ds f g (row.Waits k) x = absurd x
gives_row ds f g row.TagSpent x = absurd x
gives_row ds f g (row.Fences k) x = absurd x
gives_row ds f g row.NoNumber x = absurd x
gives_row ds f g (row.Lacks k) x = absurd x
gives_row ds f g (row.Held c) x = absurd x

-- ---- a file that gives none

-- the file before and behind the step: a fence of it was refused, or no grant is live behind
abbrev pub Bars : (f g : File) → Type 0
Bars f g = (f.spent ≡ true) ⊎ (g.kept.grants ≡ [])

some_left : (left : List Grant) (g : Grant) (gs : List Grant) → gs ≡ left ++ g ∷ [] → gs ≡ [] → ⊥
some_left [] g gs e none = cc (sym none ∙ e)
some_left (x ∷ left) g gs e none = cc (sym none ∙ e)

get_barred : (s : Server) (q : ClientRequest) (x : Asking) (a : Answer) → Bars x.before x.behind → GetIsCaused s q x a
    → GiveLayout a.results → ⊥
get_barred s q x a bars c gives =
    by_row (gives_row s.drives x.behind.kept x.wanted c.row
    (subst GiveLayout (ap (λ (b : Answer). b.results) c.is) gives)) bars
  where
    by_row : c.row ≡ row.Gives → Bars x.before x.behind → ⊥
    by_row e (inl spent) =
        c.first.none row.LeftOpen
        (subst (λ (r : Row). row.place row.LeftOpen < row.place r) (sym e) (omega arith)) spent
    by_row e (inr none) =
        let l : LeavesLive x row.Gives = subst (LeavesLive x) e c.live in
        some_left l.0 x.wanted x.behind.kept.grants l.2 none

args_barred : (s : Server) (now : ℕ) (q : ClientRequest) (f g : File) (a : Answer) (args : RequestArgs) → Bars f g
    → IsCausedAt s now q f g a args → GiveLayout a.results → ⊥
args_barred s now q f g a (Get iomode offset count) bars c gives = get_barred s q _ a bars c gives
args_barred s now q f g a (Commit last) bars (detail, r, c, is) gives =
    commit_none f.kept g.kept q.client last detail r c (subst GiveLayout (ap (λ (b : Answer). b.results) is) gives)
args_barred s now q f g a (Return report) bars (detail, r, c, is) gives =
    return_none f.kept g.kept q.client report detail r c (subst GiveLayout (ap (λ (b : Answer). b.results) is) gives)

-- an answer is about the file of its request
its_file : (s : Server) (now : ℕ) (q : ClientRequest) (f g : File) (a : Answer) (args : RequestArgs)
    → IsCausedAt s now q f g a args → a.file ≡ q.file
its_file s now q f g a (Get iomode offset count) c = ap (λ (b : Answer). b.file) c.is
its_file s now q f g a (Commit last) (detail, r, c, is) = ap (λ (b : Answer). b.file) is
its_file s now q f g a (Return report) (detail, r, c, is) = ap (λ (b : Answer). b.file) is

-- a new answer gives no layout of file n
pub new_none : (n : ℕ) (s t : Server) (now : ℕ) (q : ClientRequest) (a : Answer)
    → ((f g : File) → file_at s.files n ≡ Some f → file_at t.files n ≡ Some g → Bars f g) → IsCaused s t now q a
    → GivesLayoutOf n (envelope.Answer a) → ⊥
new_none n s t now q a bars (NoFile none is) (of, gives) =
    plain_none q.args _ (subst GiveLayout (ap (λ (b : Answer). b.results) is) gives)
new_none n s t now q a bars (OnFile f g found behind c) (of, gives) =
    let same : q.file ≡ n = sym (its_file s now q f g a q.args c) ∙ of in
    args_barred s now q f g a q.args
    (bars f g (subst (λ (k : ℕ). file_at s.files k ≡ Some f) same found)
    (subst (λ (k : ℕ). file_at t.files k ≡ Some g) same behind)) c gives

-- ---- a repeat

-- what was sent before a crash and behind it
pub sent_before : (n : ℕ) (before ls : List Line) (a : Answer) → TellNoneNew before n ls
    → WasSent (before ++ crash_line ∷ ls) a
    → WasSentTo before a.client (envelope_item (envelope.Answer a)) ⊎ ReadsNone n (envelope_item (envelope.Answer a))
sent_before n before ls a told s = elim (in_either (answer_line s.number a) before (crash_line ∷ ls) s.there) [
  | inl there ↦ inl (record { number = s.number; there = there })
  | inr (inl same) ↦ absurd (cc same)
  | inr (inr there) ↦ told s.number a.client (envelope_item (envelope.Answer a)) there
]
