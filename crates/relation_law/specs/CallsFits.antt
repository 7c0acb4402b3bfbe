-- What the proof that calls go on asks of the world: of a client's requests and of the answers to them.
use Rattle.std.specs.Prelude.{◌≡◌, ◌⊎◌, ◌==◌, ℕ, true, List, Some, None}
use Rattle.layout_ops.specs.declared.args.Args.{Args}
use Rattle.layout_ops.specs.declared.args.Args.TheVariants as args
use Rattle.layout_ops.specs.declared.messages.Answer.{Answer}
use Rattle.layout_ops.specs.declared.statuses.TheConstants.{NFS4_OK, NFS4ERR_BADLAYOUT}
use Rattle.client_rules.specs.Calls.{file_of}
use Rattle.client_rules.specs.Grants.{held_of}
use Rattle.client_rules.specs.Results.{status_of}
use Rattle.world_history.specs.ClientNames.{Client, CallOp, Request, TimedOut, IoErr, Need, Get, Commit, Report, Close, Needs, Waits, Outcome}
use Rattle.fence_law.specs.State.{State}
use Rattle.file_simulation.specs.Calls.{IsIdle}
use Rattle.relation_law.specs.CallsTurns.{NeedHas, OutcomeIs}

abbrev pub IsReturn : Args → Type 0
IsReturn (args.LayoutReturn a) = Unit {0}
IsReturn a = ⊥

abbrev pub IsGet : Args → Type 0
IsGet (args.LayoutGet a) = Unit {0}
IsGet a = ⊥

abbrev pub IsCommit : Args → Type 0
IsCommit (args.LayoutCommit a) = Unit {0}
IsCommit a = ⊥

-- what a call asks that waits
abbrev pub AskedFor : Need → Args → Type 0
AskedFor (Get tries) a = IsGet a
AskedFor (Commit timed) a = IsCommit a
AskedFor n a = IsReturn a

-- What is asked of a client whose outstanding request r is answered by a: the request is its call's, or a return that was
-- due; a commit is carried out or its grant is over; behind a report no grant is held; a call that closes has not ended
-- well; and what a call needs it needs under its grant. So it is of each answer that is taken (`proofs/CallsFitting.antt`).
pub record AnswerFits (file : ℕ) (x : Client) (a : Answer) (r : Request) : Type 0 where
  pub waits : (op : CallOp) (n : Need) → x.call ≡ Some (record { op = op; phase = Waits n }) →
      (r.file ≡ file_of op) × AskedFor n r.args
  pub due : ((op : CallOp) (n : Need) → x.call ≡ Some (record { op = op; phase = Waits n }) → ⊥) → IsReturn r.args
  pub commits : (op : CallOp) (timed : List TimedOut) → x.call ≡ Some (record { op = op; phase = Waits (Commit timed) }) →
      (status_of a.results ≡ NFS4_OK) ⊎ (status_of a.results ≡ NFS4ERR_BADLAYOUT)
  pub reports : (op : CallOp) (timed : List TimedOut) → x.call ≡ Some (record { op = op; phase = Waits (Report timed) }) →
      (file_of op == file) ≡ true → held_of x.held file ≡ None
  pub closes : (op : CallOp) (u : Outcome) (report : List IoErr) →
      x.call ≡ Some (record { op = op; phase = Waits (Close u report) }) → (s : State) (c : ℕ) → IsIdle s c →
      OutcomeIs s c op u
  pub needs : (op : CallOp) (n : Need) → x.call ≡ Some (record { op = op; phase = Needs n }) → (file_of op == file) ≡ true →
      NeedHas n (held_of x.held file)
