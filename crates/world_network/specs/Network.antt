-- The messages that were ever sent, as their lines have them.
use Rattle.std.specs.Prelude.{◌≡◌, ℕ, ◌+◌, ◌<◌, ◌≤◌, ◌++◌, ◌&&◌, not, Bool, true, false, List, [], ◌∷◌, length, Option, None, Some, slice_get, slice_set}
use Rattle.scenario_text.specs.declared.line.Party.{Party}
use Rattle.scenario_text.specs.declared.line.Line.{Line}
use Rattle.scenario_text.specs.declared.line.Line.TheVariants as line
use Rattle.world_history.specs.declared.messages.Sent.{Sent}
use Rattle.world_history.specs.Reading.{arrived, left_out}

-- the messages by number, and the bytes that are kept
pub record NetworkState : Type 0 where
  pub messages : List Sent
  pub kept : ℕ

abbrev pub empty_network : NetworkState
empty_network = record { messages = []; kept = 0 }

-- neither delivered nor left out
abbrev pub is_pending : Sent → Bool
is_pending s = not s.delivered && not s.dropped

-- message `number` becomes another
pub record Changes (before : NetworkState) (number : ℕ) (change : Sent → Sent) (after : NetworkState) : Type 0 where
  pub message : Sent
  pub found : slice_get before.messages number ≡ Some message
  pub state : after ≡ record before { messages = slice_set before.messages number (change message) }

-- it was delivered
abbrev pub Delivers : NetworkState → ℕ → NetworkState → Type 0
Delivers before number after = Changes before number arrived after

-- it is left out when messages are settled
abbrev pub Drops : NetworkState → ℕ → NetworkState → Type 0
Drops before number after = Changes before number left_out after

-- none from one number on and below another is pending
abbrev pub NonePending : (first end : ℕ) → List Sent → Type 0
NonePending first end ps = (k : ℕ) (p : Sent) → first ≤ k → k < end → slice_get ps k ≡ Some p → is_pending p ≡ false

-- a pending message, below which none is from a number on
pub record IsLowestPending (first number : ℕ) (ps : List Sent) : Type 0 where
  pub from : first ≤ number
  pub message : Sent
  pub found : slice_get ps number ≡ Some message
  pub pending : is_pending message ≡ true
  pub below : NonePending first number ps

-- the lowest pending message from a number on, or that there is none
abbrev pub PendingIs : ℕ → List Sent → Option ℕ → Type 0
PendingIs first ps None = NonePending first (length ps) ps
PendingIs first ps (Some number) = IsLowestPending first number ps

-- ---- sending

-- a message that is sent
abbrev pub fresh : Party → Party → List ℕ → Sent
fresh from to bytes = record { from = from; to = to; bytes = bytes; delivered = false; dropped = false }

-- it is sent, with so many data bytes of a write that the log keeps
abbrev pub posted : NetworkState → Sent → (logged : ℕ) → NetworkState
posted n s logged = record { messages = n.messages ++ s ∷ []; kept = n.kept + (logged + length s.bytes) }

-- its line
abbrev pub line_of : NetworkState → Sent → Line
line_of n s = line.Message (length n.messages) s.from s.to s.bytes
