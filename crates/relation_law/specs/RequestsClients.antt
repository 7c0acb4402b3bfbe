-- What a client has asked: of its outstanding request and its call.
use Rattle.std.specs.Prelude.{◌≡◌, ℕ, List, [], Option, Some, None}
use Rattle.layout_types.specs.declared.ioerrs.IoErr.{IoErr}
use Rattle.layout_ops.specs.declared.args.Args.{Args}
use Rattle.layout_ops.specs.declared.args.Args.TheVariants as args
use Rattle.client_rules.specs.Calls.{file_of}
use Rattle.client_rules.specs.Grants.{held_of}
use Rattle.client_rules.specs.Requests.{return_args, report_of}
use Rattle.world_history.specs.ClientNames.{Client, CallOp, Held, Request, Need, First, Get, Commit, Report, Close, Phase, Needs, Waits}
use Rattle.world_history.specs.State.{World}
use Rattle.exchange_law.specs.Calls.{Has}
use Rattle.history_law.specs.Moments.{IsReached}
use Rattle.file_simulation.specs.Relation.{client_of}
use Rattle.relation_law.specs.Requests.{IsReturning}

abbrev pub IsGetting : Args → Type 0
IsGetting (args.LayoutGet a) = Unit {0}
IsGetting a = ⊥

abbrev pub IsCommitting : Args → Type 0
IsCommitting (args.LayoutCommit a) = Unit {0}
IsCommitting a = ⊥

-- a LAYOUTRETURN with that report
abbrev pub IsReturnOf : List IoErr → Args → Type 0
IsReturnOf report a = (number : ℕ) × (a ≡ return_args number report)

-- what a call asks that waits
abbrev pub AsksBy : Need → Args → Type 0
AsksBy First a = IsReturnOf [] a
AsksBy (Get tries) a = IsGetting a
AsksBy (Commit timed) a = IsCommitting a
AsksBy (Report timed) a = (h : Held) × IsReturnOf (report_of h timed) a
AsksBy (Close outcome report) a = IsReturnOf report a

-- all but a LAYOUTGET is asked under a grant
abbrev pub NeedsHeld : Need → Option Held → Type 0
NeedsHeld (Get tries) o = Unit {0}
NeedsHeld First o = Has o
NeedsHeld (Commit timed) o = Has o
NeedsHeld (Report timed) o = Has o
NeedsHeld (Close outcome report) o = Has o

-- a commit is needed
abbrev pub IsCommit : Need → Type 0
IsCommit (Commit timed) = Unit {0}
IsCommit n = ⊥

-- the phase of the call is this one
abbrev pub IsAtPhase : Client → CallOp → Phase → Type 0
IsAtPhase x op p = x.call ≡ Some (record { op = op; phase = p })

-- the call's request, which is outstanding
pub record HasAsked (x : Client) (op : CallOp) (n : Need) : Type 0 where
  pub request : Request
  pub outstanding : x.outstanding ≡ Some request
  pub file_is : request.file ≡ file_of op
  pub asks : AsksBy n request.args

-- A call that waits has asked what it needs; any other outstanding request is a clean return. Behind a return no grant is held on
-- its file, and what a call needs it needs under its grant.
pub record AsksFor (x : Client) : Type 0 where
  pub waits : (op : CallOp) (n : Need) → IsAtPhase x op (Waits n) → HasAsked x op n
  pub due : ((op : CallOp) (n : Need) → IsAtPhase x op (Waits n) → ⊥) → (r : Request) → x.outstanding ≡ Some r →
      IsReturnOf [] r.args
  pub gone : (r : Request) → x.outstanding ≡ Some r → IsReturning r.args → held_of x.held r.file ≡ None
  pub needs : (op : CallOp) (n : Need) → IsAtPhase x op (Needs n) → NeedsHeld n (held_of x.held (file_of op))
  pub commits : (op : CallOp) (n : Need) → IsAtPhase x op (Waits n) → IsCommit n → Has (held_of x.held (file_of op))

-- so it is of each client at each moment
abbrev pub ClientsAskFor : Type 0
ClientsAskFor = (w : World) → IsReached w → (c : ℕ) → AsksFor (client_of w c)
