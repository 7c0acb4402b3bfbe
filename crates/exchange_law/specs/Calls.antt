-- A client and its call, against what the server keeps for it.
use Rattle.std.specs.Prelude.{◌≡◌, ◌⊎◌, ℕ, true, false, List, Option, Some, None, Ok}
use Rattle.layout_ops.specs.declared.args.Args.{Args}
use Rattle.layout_ops.specs.declared.args.Args.TheVariants as args
use Rattle.layout_ops.specs.declared.messages.Answer.{Answer}
use Rattle.layout_ops.specs.declared.statuses.TheConstants.{NFS4_OK, NFS4ERR_BADLAYOUT}
use Rattle.world_history.specs.ClientNames.{Client, Call, CallOp, Held, Request, Need, First, Get, Commit, Report, Close, Phase, Starts, Needs, Waits, Reads, Probes, Gathers, Scatters, Outcome, Status, BadLayout, Turn, Goes, Ends, Forgets}
use Rattle.client_rules.specs.Answers.{not_granted}
use Rattle.client_rules.specs.Calls.{file_of, span_of, is_write}
use Rattle.client_rules.specs.Grants.{held_of, is_for}
use Rattle.client_rules.specs.Layouts.{taken}
use Rattle.client_rules.specs.Requests.{get_args, commit_args}
use Rattle.client_rules.specs.Results.{status_of}
use Rattle.client_rules.specs.Steps.{is_bad_range, writes_nothing}
use Rattle.client_rules.specs.Writes.{is_past_size}

-- ---- how calls end

-- with no status, and with no layout that can't be used
abbrev pub IsPlain : Outcome → Type 0
IsPlain (Status n detail) = ⊥
IsPlain (BadLayout why) = ⊥
IsPlain u = Unit {0}

-- a status only where the grant of a commit is over
abbrev pub IsFair : Outcome → Type 0
IsFair (Status n detail) = (n ≡ NFS4ERR_BADLAYOUT) × (detail ≡ 0)
IsFair (BadLayout why) = ⊥
IsFair u = Unit {0}

-- if it ended
abbrev pub EndsFair : Option Outcome → Type 0
EndsFair None = Unit {0}
EndsFair (Some u) = IsFair u

-- ---- what a call needs of the grant on its file

-- one is held
abbrev pub Has : Option Held → Type 0
Has None = ⊥
Has (Some h) = Unit {0}

-- for what the call writes
abbrev pub Writes : Option Held → CallOp → Type 0
Writes None op = ⊥
Writes (Some h) op = (is_write op ≡ true) × (is_for h.reach h.size op ≡ true)

-- which passes the file's size, as the client knows it
abbrev pub Passes : Option Held → CallOp → Type 0
Passes None op = ⊥
Passes (Some h) op = is_past_size h op ≡ true

abbrev pub NeedFine : Option Held → CallOp → Need → Type 0
NeedFine o op First = Has o
NeedFine o op (Get tries) = o ≡ None
NeedFine o op (Commit timed) = Writes o op × Passes o op
NeedFine o op (Report timed) = Has o
NeedFine o op (Close u report) = Has o × IsPlain u

-- ---- the outstanding request

-- it is no LAYOUTGET
abbrev pub IsNoGet : Args → Type 0
IsNoGet (args.LayoutGet a) = ⊥
IsNoGet a = Unit {0}

abbrev pub NoGet : Option Request → Type 0
NoGet None = Unit {0}
NoGet (Some r) = IsNoGet r.args

-- it asks this of this file, and K holds of it
pub record IsAsking (K : Request → Type 0) (o : Option Request) (file : ℕ) (a : Args) : Type 0 where
  pub request : Request
  pub outstanding : o ≡ Some request
  pub file_is : request.file ≡ file
  pub args_are : request.args ≡ a
  pub known : K request

-- a commit under the grant
pub record Commits (K : Request → Type 0) (o : Option Held) (out : Option Request) (op : CallOp) : Type 0 where
  pub writes : Writes o op
  pub passes : Passes o op
  pub held : Held
  pub holds : o ≡ Some held
  pub asks : IsAsking K out (file_of op) (commit_args held op)

-- ---- phases

-- what is asked for a call is known so
abbrev pub Knows : Type 1
Knows = CallOp → Need → Request → Type 0

abbrev pub WaitFine : Knows → Option Held → Option Request → CallOp → Need → Type 0
WaitFine K o out op First = NoGet out
WaitFine K o out op (Get tries) = (o ≡ None) × IsAsking (K op (Get tries)) out (file_of op) (get_args op)
WaitFine K o out op (Commit timed) = Commits (K op (Commit timed)) o out op
WaitFine K o out op (Report timed) = NoGet out
WaitFine K o out op (Close u report) = IsPlain u × NoGet out

-- of the grant that is held on the call's file, and the outstanding request
abbrev pub PhaseFine : Knows → Option Held → Option Request → CallOp → Phase → Type 0
PhaseFine K o out op Starts = NoGet out
PhaseFine K o out op (Needs n) = NeedFine o op n × NoGet out
PhaseFine K o out op (Waits n) = WaitFine K o out op n
PhaseFine K o out op (Reads io) = Has o × NoGet out
PhaseFine K o out op (Probes io) = Has o × NoGet out
PhaseFine K o out op (Gathers io) = Writes o op × NoGet out
PhaseFine K o out op (Scatters io queue) = Writes o op × NoGet out

-- a call passes no limit, and has something to do
pub record IsCall (op : CallOp) : Type 0 where
  pub range : is_bad_range (span_of op) ≡ false
  pub some : writes_nothing op ≡ false

abbrev pub CallFine : Knows → List Held → Option Request → Option Call → Type 0
CallFine K hs out None = NoGet out
CallFine K hs out (Some call) = IsCall call.op × PhaseFine K (held_of hs (file_of call.op)) out call.op call.phase

-- ---- a client

-- P holds of each grant that it holds, and its call is as it should be
pub record ClientFine (P : ℕ → Held → Type 0) (K : Knows) (c : Client) : Type 0 where
  pub helds : (file : ℕ) (h : Held) → held_of c.held file ≡ Some h → P file h
  pub call : CallFine K c.held c.outstanding c.call

-- ---- answers

-- what becomes of a call that was given no grant
abbrev pub TurnFair : Turn → Type 0
TurnFair (Goes (Needs (Get tries))) = Unit {0}
TurnFair (Goes p) = ⊥
TurnFair (Ends u) = IsFair u
TurnFair (Forgets u) = ⊥

-- A LAYOUTGET is answered by a grant that the client takes, of which P holds, or by a refusal that it knows; a
-- LAYOUTCOMMIT by no error but that the grant is over.
abbrev pub GoodAnswer : (P : ℕ → Held → Type 0) → CallOp → Need → Answer → Type 0
GoodAnswer P op (Get tries) a =
    ((status_of a.results ≡ NFS4_OK) × (h : Held) × (taken a op ≡ Ok h) × (h.file ≡ file_of op) × P (file_of op) h)
    ⊎ ((status_of a.results ≡ NFS4_OK → ⊥) × TurnFair (not_granted a tries))
GoodAnswer P op (Commit timed) a =
    (status_of a.results ≡ NFS4_OK) ⊎ ((status_of a.results ≡ NFS4ERR_BADLAYOUT) × (a.detail ≡ 0))
GoodAnswer P op n a = Unit {0}
