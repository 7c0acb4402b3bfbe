-- What holds of every step of a client.
use Rattle.std.specs.Prelude.{◌≡◌, ◌≢◌, ◌<◌, ◌≤◌, ℕ, ◌+◌, ◌==◌, ◌&&◌, not, if◌then◌else◌, List, [], ◌∷◌, ◌++◌, length, map, slice_index, Option, Some, None, Err}
use Rattle.std.specs.List.{range_with_len}
use Rattle.osd_lists.specs.declared.node.Node.{Node}
use Rattle.data_map.specs.Check.{IsChecked}
use Rattle.stripe_plan.specs.Words.{answered}
use Rattle.client_rules.specs.declared.limits.TheConstants.{PERFORMED}
use Rattle.client_rules.specs.State.{Client, Call, CallOp, CallErr, Held, Awaited, TimedOut, Phase, Starts, Needs, Waits, Reads, Probes, Gathers, Scatters, ReadOk, Moved, Reply, Answer, Column}
use Rattle.client_rules.specs.Calls.{file_of, span_of}
use Rattle.client_rules.specs.Grants.{clipped, held_of}
use Rattle.client_rules.specs.Commands.{nonce_at, of_component}
use Rattle.client_rules.specs.Io.{got_of}
use Rattle.client_rules.specs.Replies.{replied, timed_out}
use Rattle.client_rules.specs.Answers.{on_commit}
use Rattle.client_rules.specs.Going.{begins}
use Rattle.client_rules.specs.Messages.{Message, Taken, TakesReply, takes, awaited_of, still}
use Rattle.client_rules.specs.Steps.{calls, new_client}
use Rattle.client_rules.specs.History.{Input, Calls, Hears, TimesOut, step, state_after}

-- ---- a phase that waits for drives awaits something

-- something is awaited
abbrev pub Awaiting : List Awaited → Type 0
Awaiting [] = ⊥
Awaiting (a ∷ xs) = Unit {0}

-- so does a phase that waits for drives
abbrev pub Rests : Phase → Type 0
Rests Starts = Unit {0}
Rests (Needs need) = Unit {0}
Rests (Waits need) = Unit {0}
Rests (Reads io) = Awaiting io.awaited
Rests (Probes io) = Awaiting io.awaited
Rests (Gathers io) = Awaiting io.awaited
Rests (Scatters io queue) = Awaiting io.awaited

-- that of a call
abbrev pub RestsCall : Option Call → Type 0
RestsCall None = Unit {0}
RestsCall (Some call) = Rests call.phase

-- that of a client's call
abbrev pub IsResting : Client → Type 0
IsResting c = RestsCall c.call

-- each step keeps that, so it is so after any list of inputs to a new client
pub record EachRestAwaitsSomething : Type 0 where
  pub steps : (c : Client) (i : Input) → IsResting c → IsResting (step c i).client
  pub always : (number sequence : ℕ) (is : List Input) → IsResting (state_after (new_client number sequence) is)

-- ---- nonces count the commands of a grant

-- the nonce of a command
abbrev pub nonce_of : Awaited → ℕ
nonce_of a = a.command.nonce

-- the commands that were sent have the next nonces of the grant, one after another, and are counted
pub record IsNumbered (h : Held) (m : Moved) : Type 0 where
  pub same : m.held.number ≡ h.number
  pub counted : m.held.count ≡ h.count + length m.sent
  pub nonces : map nonce_of m.sent ≡ range_with_len (nonce_at h h.count + 1) (length m.sent)

-- so does all that a call does with the drives: at its begin, at a reply, a timeout, and the answer to a commit
pub record NoncesRise : Type 0 where
  pub begun : (h : Held) (op : CallOp) → IsNumbered h (begins h op)
  pub replied : (h : Held) (op : CallOp) (p : Phase) (a : Awaited) (r : Reply) → IsNumbered h (replied h op p a r)
  pub timed : (h : Held) (op : CallOp) (p : Phase) (k : ℕ) (a : Awaited) (xs : List Awaited) →
      IsNumbered h (timed_out h op p k a xs)
  pub committed : (h : Held) (op : CallOp) (a : Answer) (timed : List TimedOut) → IsNumbered h (on_commit h op a timed)
  -- nonces one after another rise, and none is below the first
  pub rising : (first n i j : ℕ) → i < j → j < n →
      slice_index (range_with_len first n) i < slice_index (range_with_len first n) j
  pub above : (first n i : ℕ) → i < n → first ≤ slice_index (range_with_len first n) i

-- ---- a read is answered from performed READs

-- a READ that was performed gives its bytes
abbrev pub with_reply : List Column → Option Taken → List Column
with_reply got (Some (TakesReply a r)) = if (r.verdict == PERFORMED) && not a.write then got ++ got_of a r ∷ [] else got
with_reply got t = got

-- a new call has read nothing
abbrev pub kept_by : Option Call → List Column → List Column
kept_by None got = []
kept_by (Some call) got = got

-- what the pending call has read once this came
abbrev pub read_after : Client → List Column → Input → List Column
read_after c got (Hears from m) = with_reply (kept_by c.call got) (takes c from m)
read_after c got i = kept_by c.call got

-- and once all of these came
abbrev pub read_by : Client → List Column → List Input → List Column
read_by c got [] = got
read_by c got (i ∷ is) = read_by (step c i).client (read_after c got i) is

-- these bytes are what the pending call's range has by what was read, under the grant that is held, with some
-- components out
pub record IsAnswer (c : Client) (got : List Column) (bytes : List ℕ) : Type 0 where
  pub call : Call
  pub pending : c.call ≡ Some call
  pub held : Held
  pub holds : held_of c.held (file_of call.op) ≡ Some held
  pub checked : IsChecked held.map
  pub some : got ≢ []
  pub out : List ℕ
  pub answer : bytes ≡ answered held.map (clipped held.size (span_of call.op)) got out

-- so a read is answered, after any list of inputs to a new client, by what the performed READs gave whose replies its
-- call took
abbrev pub ReadsTookReplies : Type 0
ReadsTookReplies =
    (number sequence : ℕ) (is : List Input) (i : Input) (bytes : List ℕ) →
    (step (state_after (new_client number sequence) is) i).outcome ≡ Some (ReadOk bytes) →
    IsAnswer (state_after (new_client number sequence) is)
    (read_after (state_after (new_client number sequence) is) (read_by (new_client number sequence) [] is) i) bytes

-- ---- a component is sent one WRITE at a time

-- none of these commands is to component k
abbrev pub NoneTo : (k : ℕ) → List Awaited → Type 0
NoneTo k [] = Unit {0}
NoneTo k (a ∷ xs) = (a.ask.component ≡ k → ⊥) × NoneTo k xs

-- no two of them are to one component
abbrev pub AreApart : List Awaited → Type 0
AreApart [] = Unit {0}
AreApart (a ∷ xs) = NoneTo a.ask.component xs × AreApart xs

-- those that a scatter awaits
abbrev pub WritesApart : Phase → Type 0
WritesApart (Scatters io queue) = AreApart io.awaited
WritesApart p = Unit {0}

-- those of a call
abbrev pub CallApart : Option Call → Type 0
CallApart None = Unit {0}
CallApart (Some call) = WritesApart call.phase

-- so it is after any list of inputs to a new client
abbrev pub OneWriteEach : Type 0
OneWriteEach = (number sequence : ℕ) (is : List Input) → CallApart (state_after (new_client number sequence) is).call

-- ---- what changes nothing

-- a message that isn't taken, a timeout of a component of which nothing is awaited, and a call that is refused
pub record OthersChangeNothing : Type 0 where
  pub untaken : (c : Client) (from : Node) (m : Message) → takes c from m ≡ None → step c (Hears from m) ≡ still c
  pub unawaited : (c : Client) (k : ℕ) → of_component k (awaited_of c.call) ≡ [] → step c (TimesOut k) ≡ still c
  pub refused : (c : Client) (op : CallOp) (e : CallErr) → calls c op ≡ Err e → step c (Calls op) ≡ still c
