-- The requests of clients: what a turn of a client asks, and which events touch what the machine has of them.
use Rattle.std.specs.Prelude.{◌≡◌, ◌⊎◌, ◌+◌, ℕ, Bool, true, false, List, [], ◌∷◌, Option, Some, None}
use Rattle.layout_ops.specs.declared.args.Args.{Args}
use Rattle.layout_ops.specs.declared.args.Args.TheVariants as args
use Rattle.client_rules.specs.Going.{after_number}
use Rattle.client_rules.specs.Messages.{Step, sends_of}
use Rattle.world_history.specs.ClientNames.{Client, Call, Done, Phase, Request, Waits}
use Rattle.fence_law.specs.Machine.{Allowed, after}
use Rattle.fence_law.specs.Words.{In}
use Rattle.fence_law.specs.State.{State, Event, Grant, Request as MachineRequest, Answer as MachineAnswer}
use Rattle.fence_law.specs.State.Call.{Idle, Broken}
use Rattle.fence_law.specs.State.RequestKind.{Get, Return}
use Rattle.file_simulation.specs.EventLists.{entry_of}
use Rattle.file_simulation.specs.Requests.{Own, AwaitsNothing, phase_of, return_class}
use Rattle.fence_law.specs.State.Event.{Commits, AsksCommit, Asks, Grants, Refuses, Takes, AsksOther, ServesOther, TakesOther, GivesBack, Reports, Frees}

-- ---- a turn of a client

-- the phase waits for no answer of the server
abbrev pub waits_in : Phase → Bool
waits_in (Waits n) = true
waits_in phase = false

abbrev pub Works : Phase → Type 0
Works p = waits_in p ≡ false

-- no call waits for one
abbrev pub WorksCall : Option Call → Type 0
WorksCall None = Unit {0}
WorksCall (Some call) = Works call.phase

-- the call is as it was, or waits for no answer, before and behind
abbrev pub IsAsBefore : Option Call → Option Call → Type 0
IsAsBefore o p = (p ≡ o) ⊎ (WorksCall o × WorksCall p)

-- client y has asked nothing yet, or one request, which is outstanding since then
pub data Turned (y : Client) (d : Done) : Type 0 where
  NothingAsked : d.requests ≡ [] → d.client.outstanding ≡ y.outstanding → d.client.next ≡ y.next →
      ((r : Request) → y.outstanding ≡ Some r → IsAsBefore y.call d.client.call) → Turned y d
  OneAsked : (r : Request) → d.requests ≡ r ∷ [] → d.client.outstanding ≡ Some r → y.outstanding ≡ None →
      r.sequence ≡ y.next → d.client.next ≡ after_number y.next → Turned y d

-- so it has behind a step
pub record HasTurned (y : Client) (t : Step) : Type 0 where
  pub done : Done
  pub turned : Turned y done
  pub client : t.client ≡ done.client
  pub sends : t.sends ≡ sends_of done

-- ---- events

-- an event of no request of a client
abbrev pub IsPlain : Event → Type 0
IsPlain (Asks c rw) = ⊥
IsPlain (Grants c number rw range extending) = ⊥
IsPlain (Refuses c kind) = ⊥
IsPlain (Takes c o size) = ⊥
IsPlain (AsksOther c) = ⊥
IsPlain (ServesOther c) = ⊥
IsPlain (TakesOther c) = ⊥
IsPlain (GivesBack c g) = ⊥
IsPlain (Reports c g) = ⊥
IsPlain (Frees c) = ⊥
IsPlain e = Unit {0}

-- it leaves what the machine has of requests
abbrev pub AskingStays : State → State → Type 0
AskingStays s t = record {
  slot : t.slot ≡ s.slot;
  kept_grant : t.kept_grant ≡ s.kept_grant;
  kept_size : t.kept_size ≡ s.kept_size;
  sequence : t.sequence ≡ s.sequence;
  waiting : t.waiting ≡ s.waiting;
  away : t.away ≡ s.away;
  asked : t.asked ≡ s.asked;
  requests : t.requests ≡ s.requests;
  answers : t.answers ≡ s.answers;
}

-- what the machine has of client c's requests stays, and what was sent stays sent
abbrev pub HasStayed : (c : ℕ) → State → State → Type 0
HasStayed c s t = record {
  slot : t.slot c ≡ s.slot c;
  sequence : t.sequence c ≡ s.sequence c;
  waiting : t.waiting c ≡ s.waiting c;
  away : t.away c ≡ s.away c;
  asked : t.asked c ≡ s.asked c;
  requests : (r : MachineRequest) → In r s.requests → In r t.requests;
  answers : (a : MachineAnswer) → In a s.answers → In a t.answers;
}

-- the machine's client holds the grant that a return of this file gives back
abbrev pub HoldsWhatReturns : State → (c : ℕ) → Option Phase → Args → Type 0
HoldsWhatReturns s c phase (args.LayoutGet a) = Unit {0}
HoldsWhatReturns s c phase (args.LayoutCommit a) = Unit {0}
HoldsWhatReturns s c phase (args.LayoutReturn a) =
    (b : Bool) → return_class phase ≡ Own (Return b) → (g : Grant) × (s.held c ≡ Some g)

-- client c waits for nothing behind these events, which leave the numbers of its slot and of its last request
pub record HasRested (c : ℕ) (s t : State) : Type 0 where
  pub rests : AwaitsNothing t c
  pub slot : t.slot c ≡ s.slot c
  pub sequence : t.sequence c ≡ s.sequence c

-- a request goes out with a number, and the machine holds what it returns
pub record AsksWell (file : ℕ) (s : State) (c : ℕ) (y : Client) (r : Request) : Type 0 where
  pub some : r.sequence ≡ 0 → ⊥
  pub holds : r.file ≡ file → HoldsWhatReturns s c (phase_of y.call) r.args

-- what the server answered with a grant was a LAYOUTGET
abbrev pub GetsGetGrants : State → Type 0
GetsGetGrants s =
    (a : MachineAnswer) (g : Grant) → In a s.answers → a.grant ≡ Some g →
    (rw : Bool) × In (record { client = a.client; sequence = a.sequence; kind = Get rw }) s.requests

-- nor of a commit
abbrev pub IsSteady : Event → Type 0
IsSteady (Commits c j g) = ⊥
IsSteady e = IsPlain e

-- such events also leave the file's size
pub record SteadyStays (s t : State) : Type 0 where
  pub asking : AskingStays s t
  pub size : t.size ≡ s.size

-- The event answers the request of client c with this grant or none, and leaves all else of requests.
pub record TellsAnswer (u : State) (c : ℕ) (e : Event) (grant : Option Grant) : Type 0 where
  pub slot : (after u e).slot c ≡ u.slot c + 1
  pub sequence : (after u e).sequence ≡ u.sequence
  pub waiting : (after u e).waiting ≡ u.waiting
  pub away : (after u e).away ≡ u.away
  pub asked : (after u e).asked ≡ u.asked
  pub requests : (after u e).requests ≡ u.requests
  pub size : (after u e).size ≡ u.size
  pub sent : In (record { client = c; sequence = u.slot c + 1; grant = grant; size = u.size }) (after u e).answers

-- a LAYOUTRETURN
abbrev pub IsReturning : Args → Type 0
IsReturning (args.LayoutReturn a) = Unit {0}
IsReturning a = ⊥

-- the first of these events can happen, if there is one
abbrev pub FirstMay : State → List Event → Type 0
FirstMay s [] = Unit {0}
FirstMay s (e ∷ es) = Allowed s e

-- what the machine's client is at allows a request: it holds nothing and is idle for a LAYOUTGET, can ask a commit, is idle for a
-- clean return, or its write has broken off
abbrev pub CallAllows : State → (c : ℕ) → Option Phase → Args → Type 0
CallAllows s c phase (args.LayoutGet a) = record { held : s.held c ≡ None; idle : s.call c ≡ Idle }
CallAllows s c phase (args.LayoutCommit a) = Allowed (after s (AsksOther c)) (AsksCommit c (entry_of s c))
CallAllows s c phase (args.LayoutReturn a) = record {
  idle : return_class phase ≡ Own (Return true) → s.call c ≡ Idle;
  broken : return_class phase ≡ Own (Return false) → s.call c ≡ Broken;
}
