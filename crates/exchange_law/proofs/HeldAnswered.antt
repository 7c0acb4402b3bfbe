-- The answer that the server makes of a call's LAYOUTGET or LAYOUTCOMMIT is good for the call.
use Rattle.std.proofs.Common.{◌≡◌, ◌⊎◌, ◌<◌, ◌≤◌, ◌==◌, ◌&&◌, ◌||◌, ◌*◌, ◌+◌, ◌-◌, ℕ, max, nat_lt, nat_le, length, Bool, true, false, List, Option, Some, None, Result, Ok, Err, inl, inr, arith, refl, sym, ap, subst, ◌∙◌, if◌then◌else◌}
use Rattle.std.proofs.lemmas.Bool.{cases_eq, eq-eqb, ne_eqb, eqb-false, lt-ltb, le-leb, leb-true, ltb-true, and_parts}
use Rattle.data_map.specs.declared.ranges.TheConstants.{MAX_FILE_SIZE}
use Rattle.data_map.specs.Striping.{stripe_length}
use Rattle.layout_types.specs.declared.err.LayoutErr.{LayoutErr}
use Rattle.layout_types.specs.declared.update.LayoutUpdate.{LayoutUpdate}
use Rattle.layout_types.specs.Grammar.{whole}
use Rattle.layout_types.specs.Reading.{update_in}
use Rattle.layout_ops.specs.declared.statuses.TheConstants.{LAYOUTIOMODE4_READ, LAYOUTIOMODE4_RW, NFS4_OK, NFS4ERR_BADLAYOUT, NFS4ERR_NOENT, NFS4ERR_LAYOUTTRYLATER}
use Rattle.layout_ops.specs.declared.messages.Answer.{Answer}
use Rattle.world_history.specs.ClientNames.{CallOp, Write, Read, Held, TimedOut, Get, Commit, Degraded, Spent as Unavailing, Turn, RawMap}
use Rattle.client_rules.specs.declared.limits.TheConstants.{MAX_TRIES, NO_COMPONENT}
use Rattle.client_rules.specs.Answers.{busy, unavailable, refused_with, not_granted}
use Rattle.client_rules.specs.Calls.{span_of, is_write}
use Rattle.client_rules.specs.Grants.{contains, covers_write, is_for}
use Rattle.client_rules.specs.Requests.{asked_span, get_args, commit_args, commit_of}
use Rattle.client_rules.specs.Results.{get_status, commit_status, status_of}
use Rattle.client_rules.specs.Steps.{is_bad_range}
use Rattle.world_history.specs.ServerNames.{Kept, Grant, Drive, ClientRequest, RequestArgs, Get as AsksGet, Commit as AsksCommit}
use Rattle.server_rules.specs.Answers.{get_refused, result_of, result_with, file_answer, commit_result}
use Rattle.server_rules.specs.Commit.{may_commit, commit_under, by_commit, commits}
use Rattle.server_rules.specs.Envelopes.{asked_in, commit_in}
use Rattle.server_rules.specs.Going.{Going}
use Rattle.server_rules.specs.Grants.{grant_of}
use Rattle.server_rules.specs.Requests.{serves, no_file, answer_without}
use Rattle.server_rules.specs.Served.{Served}
use Rattle.exchange_law.specs.Held.{Agrees}
use Rattle.exchange_law.specs.Calls.{IsFair, Writes, Passes, IsCall, TurnFair, GoodAnswer}
use Rattle.exchange_law.proofs.Covered.{inside_limit, limit_asked}
use Rattle.exchange_law.proofs.HeldServing.{IsRefusal, NoFile, Later, Fencing, Unavailable, IsTellable, gets_told}

-- ---- a refusal of a LAYOUTGET

either_fair : (b : Bool) (t u : Turn) → TurnFair t → TurnFair u → TurnFair (if b then t else u)
either_fair true t u x y = x
either_fair false t u x y = y

unavailable_fair : (detail : ℕ) → IsFair (unavailable detail)
unavailable_fair detail = by (detail == NO_COMPONENT)
  where
    by : (b : Bool) → IsFair (if b then Unavailing else Degraded detail)
    by true = tt
    by false = tt

refused_fair : (status detail tries : ℕ) → IsRefusal status → TurnFair (refused_with status detail tries)
unfolding busy
refused_fair status detail tries (NoFile e) = rw e tt
refused_fair status detail tries (Later e) = rw e (either_fair (nat_lt (tries + 1) MAX_TRIES) _ _ tt tt)
refused_fair status detail tries (Fencing e) = rw e (either_fair (nat_lt (tries + 1) MAX_TRIES) _ _ tt tt)
refused_fair status detail tries (Unavailable e) = rw e (unavailable_fair detail)

pub not_ok : (status : ℕ) → IsRefusal status → status ≡ NFS4_OK → ⊥
not_ok status (NoFile e) ok = absurd (omega (arith, e, ok))
not_ok status (Later e) ok = absurd (omega (arith, e, ok))
not_ok status (Fencing e) ok = absurd (omega (arith, e, ok))
not_ok status (Unavailable e) ok = absurd (omega (arith, e, ok))

refused_good : (P : ℕ → Held → Type 0) (op : CallOp) (tries : ℕ) (a : Answer) → IsRefusal (status_of a.results)
    → GoodAnswer P op (Get tries) a
unfolding not_granted
refused_good P op tries a refusal =
    inr (not_ok (status_of a.results) refusal, refused_fair (status_of a.results) a.detail tries refusal)

pub status_again : (status : ℕ) → get_status (get_refused status) ≡ status
status_again status = elim (cases_eq status NFS4ERR_LAYOUTTRYLATER) [
  | inl e ↦ rw (eq-eqb status NFS4ERR_LAYOUTTRYLATER e) (sym e)
  | inr other ↦ rw (ne_eqb status NFS4ERR_LAYOUTTRYLATER other) refl
]

-- what the LAYOUTGET of a call is
pub args_of_get : (op : CallOp) (q : ClientRequest) → asked_in (get_args op) ≡ Some q.args
    → AsksGet (if is_write op then LAYOUTIOMODE4_RW else LAYOUTIOMODE4_READ) (asked_span op).offset
    (asked_span op).length ≡ q.args
args_of_get op q e = cc e

-- without a grant it says why
pub none_good : (P : ℕ → Held → Type 0) (op : CallOp) (tries : ℕ) (ds : List Drive) (q : ClientRequest) (v : Served)
    → asked_in (get_args op) ≡ Some q.args → v.told.grant ≡ None → IsRefusal v.told.status
    → GoodAnswer P op (Get tries) (file_answer ds v.going.file.kept q v.told)
none_good P op tries ds q v is none refusal =
    let f : Kept = v.going.file.kept in
    let status : status_of (file_answer ds f q v.told).results ≡ v.told.status =
    ap (λ (o : Option Grant). status_of (result_with ds f q.args v.told.status o)) none
    ∙ ap (λ (a : RequestArgs). status_of (result_of a v.told.status)) (sym (args_of_get op q is))
    ∙ status_again v.told.status in
    refused_good P op tries (file_answer ds f q v.told) (subst IsRefusal (sym status) refusal)

-- so it does without a file
pub no_file_good : (P : ℕ → Held → Type 0) (op : CallOp) (tries : ℕ) (q : ClientRequest)
    → asked_in (get_args op) ≡ Some q.args → GoodAnswer P op (Get tries) (answer_without q)
no_file_good P op tries q is =
    let status : status_of (answer_without q).results ≡ NFS4ERR_NOENT =
    ap (λ (a : RequestArgs). status_of (result_of a (no_file a))) (sym (args_of_get op q is)) in
    refused_good P op tries (answer_without q) (NoFile status)

-- the range that a call asks is one
asked_some : (n : ℕ) → 0 < max n 1
asked_some n = omega arith

pub call_told : (go : Going) (next format now : ℕ) (q : ClientRequest) (op : CallOp)
    → is_bad_range (span_of op) ≡ false → asked_in (get_args op) ≡ Some q.args
    → IsTellable (serves go next format now q.client q.args)
call_told go next format now q op fine is =
    subst (λ (a : RequestArgs). IsTellable (serves go next format now q.client a)) (args_of_get op q is)
    (gets_told go next format now q.client (is_write op) (asked_span op).offset (asked_span op).length
    (asked_some (span_of op).length)
    (limit_asked (span_of op).offset (span_of op).length (inside_limit op fine)))

-- ---- a commit

-- what the LAYOUTCOMMIT of a call is
by_update : (last : Option ℕ) (r : Result LayoutUpdate LayoutErr) (a : RequestArgs) → commit_in last r ≡ Some a
    → AsksCommit last ≡ a
by_update last (Ok u) a e = cc e
by_update last (Err x) a e = absurd (cc e)

pub args_of_commit : (h : Held) (op : CallOp) (q : ClientRequest) → asked_in (commit_args h op) ≡ Some q.args
    → AsksCommit (Some ((span_of op).offset + (span_of op).length - 1)) ≡ q.args
args_of_commit h op q e = by_update _ (whole update_in (commit_of h.number (span_of op)).body) q.args e

extends_past : (e : Bool) (x y : ℕ) → (e || nat_le x y) ≡ true → nat_lt y x ≡ true → e ≡ true
extends_past true x y c p = refl
extends_past false x y c p = absurd (omega (arith, leb-true x y c, ltb-true y x p))

some_bytes : (n : ℕ) → (true && (n == 0)) ≡ false → 0 < n
some_bytes n e = let other = eqb-false n 0 e in omega (arith, other)

-- what is written behind the size, under a grant that agrees, may be committed
commit_inside : (m : RawMap) (g : Grant) (h : Held) (op : CallOp) → Agrees m g h → IsCall op → Writes (Some h) op
    → Passes (Some h) op → may_commit (stripe_length m) g ((span_of op).offset + (span_of op).length - 1) ≡ true
unfolding is_for covers_write may_commit
commit_inside m g h (Read file offset count) agrees is writes passes = absurd (cc writes.0)
commit_inside m g h (Write file offset bytes) agrees is writes passes =
    let n : ℕ = length bytes in
    let covered = and_parts h.reach.rw _ writes.1 in
    let more = and_parts (contains h.reach (record { offset = offset; length = n })) _ covered.1 in
    let inside = and_parts (nat_le h.reach.first offset) (nat_le (offset + n) h.reach.end) more.0 in
    let extends : g.extending ≡ true =
    sym agrees.extending ∙ extends_past h.reach.extending (offset + n) h.size more.1 passes in
    let some : 0 < n = some_bytes n is.some in
    let first : g.first * stripe_length m ≤ offset + n - 1 =
    omega (arith, agrees.first, leb-true h.reach.first offset inside.0, some) in
    let end : offset + n ≤ h.reach.end = leb-true (offset + n) h.reach.end inside.1 in
    let below : offset + n - 1 < g.end * stripe_length m = omega (arith, agrees.end, end, some) in
    let short : offset + n - 1 < MAX_FILE_SIZE = omega (arith, agrees.end, end, some) in
    rw (
      extends,
      le-leb (g.first * stripe_length m) (offset + n - 1) first,
      lt-ltb (offset + n - 1) (g.end * stripe_length m) below,
      lt-ltb (offset + n - 1) MAX_FILE_SIZE short,
    ) refl

-- the answer, by what was told
commit_answer : (P : ℕ → Held → Type 0) (op : CallOp) (timed : List TimedOut) (ds : List Drive) (q : ClientRequest)
    (last : Option ℕ) (v : Served) → AsksCommit last ≡ q.args → v.told.grant ≡ None
    → (v.told.status ≡ NFS4_OK) ⊎ ((v.told.status ≡ NFS4ERR_BADLAYOUT) × (v.told.detail ≡ 0))
    → GoodAnswer P op (Commit timed) (file_answer ds v.going.file.kept q v.told)
commit_answer P op timed ds q last v is none told = as_told told
  where
    status_is : status_of (file_answer ds v.going.file.kept q v.told).results
        ≡ commit_status (commit_result v.told.status)
    status_is =
        ap (λ (o : Option Grant). status_of (result_with ds v.going.file.kept q.args v.told.status o)) none
        ∙ ap (λ (a : RequestArgs). status_of (result_of a v.told.status)) (sym is)

    as_told : (v.told.status ≡ NFS4_OK) ⊎ ((v.told.status ≡ NFS4ERR_BADLAYOUT) × (v.told.detail ≡ 0))
        → GoodAnswer P op (Commit timed) (file_answer ds v.going.file.kept q v.told)
    as_told (inl ok) = inl (status_is ∙ ap (λ (n : ℕ). commit_status (commit_result n)) ok)
    as_told (inr over) = inr (status_is ∙ ap (λ (n : ℕ). commit_status (commit_result n)) over.0, over.1)

-- where the grant is one that agrees, or there is none
pub commit_good : (P : ℕ → Held → Type 0) (op : CallOp) (timed : List TimedOut) (h : Held) (ds : List Drive)
    (go : Going) (q : ClientRequest) (v : Served) → IsCall op → Writes (Some h) op → Passes (Some h) op
    → AsksCommit (Some ((span_of op).offset + (span_of op).length - 1)) ≡ q.args
    → v ≡ commits go q.client (Some ((span_of op).offset + (span_of op).length - 1))
    → ((g : Grant) → grant_of go.file.kept.grants q.client ≡ Some g → Agrees go.file.kept.map g h)
    → GoodAnswer P op (Commit timed) (file_answer ds v.going.file.kept q v.told)
unfolding commits commit_under
commit_good P op timed h ds go q v is writes passes args served agrees =
    subst (λ (u : Served). GoodAnswer P op (Commit timed) (file_answer ds u.going.file.kept q u.told)) (sym served)
    (under (grant_of go.file.kept.grants q.client) refl)
  where
    last : ℕ
    last = (span_of op).offset + (span_of op).length - 1

    done : Option Grant → Served
    done o = by_commit go (commit_under (stripe_length go.file.kept.map) go.file.kept.size (Some last) o)

    under : (o : Option Grant) → grant_of go.file.kept.grants q.client ≡ o
        → GoodAnswer P op (Commit timed) (file_answer ds (done o).going.file.kept q (done o).told)
    under None e = commit_answer P op timed ds q (Some last) (done None) args refl (inr (refl, refl))
    under (Some g) e =
        let may = commit_inside go.file.kept.map g h op (agrees g e) is writes passes in
        commit_answer P op timed ds q (Some last) (done (Some g)) args (rw may refl) (inl (rw may refl))

pub no_file_commit : (P : ℕ → Held → Type 0) (op : CallOp) (timed : List TimedOut) (last : Option ℕ)
    (q : ClientRequest) → AsksCommit last ≡ q.args → GoodAnswer P op (Commit timed) (answer_without q)
no_file_commit P op timed last q is =
    inr (ap (λ (a : RequestArgs). status_of (result_of a (no_file a))) (sym is), refl)
