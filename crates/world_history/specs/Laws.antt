-- What holds of worlds and histories, for the crates above.
use Rattle.std.specs.Prelude.{◌≡◌, ℕ, ◌≤◌, ◌<◌, ◌++◌, false, true, List, [], ◌∷◌, length, map, slice_get, Some, None}
use Rattle.std.specs.List.{fold}
use Rattle.scenario_text.specs.declared.line.Line.{Line}
use Rattle.world_history.specs.State.{Posted, World, Sent}
use Rattle.world_history.specs.Spelled.{spelled, party_of}
use Rattle.world_history.specs.Plans.{is_pending, next_pending}
use Rattle.world_history.specs.History.{StandsFor}
use Rattle.world_history.specs.Reading.{is_head, steps_of, sent_after, sent_in}
use Rattle.world_history.specs.ReadDrives.{sees_drive, drive_seen}
use Rattle.world_history.specs.Book.{sees_server, server_seen}
use Rattle.world_history.specs.ReadLog.{log_after, log_in}
use Rattle.world_history.specs.Calm.{sees, seen}
use Rattle.world_history.specs.Guesses.{guards, guarded}
use Rattle.world_history.specs.Summing.{counts_line, summary_of}

-- ---- pending messages

-- none of the messages from one number on and below another is pending
abbrev pub NonePending : (first end : ℕ) → List Posted → Type 0
NonePending first end ps = (k : ℕ) (p : Posted) → first ≤ k → k < end → slice_get ps k ≡ Some p → is_pending p ≡ false

-- a pending message, below which none is from a number on
pub record IsLowestPending (first number : ℕ) (ps : List Posted) : Type 0 where
  pub from : first ≤ number
  pub message : Posted
  pub found : slice_get ps number ≡ Some message
  pub pending : is_pending message ≡ true
  pub below : NonePending first number ps

-- the next pending message is the lowest one, and there is none exactly where none is pending
abbrev pub NextIsLowest : Type 0
NextIsLowest =
    (w : World) (first number : ℕ) →
    (IsLowestPending first number w.network.messages → next_pending w first ≡ Some number) ×
    (NonePending first (length w.network.messages) w.network.messages → next_pending w first ≡ None)

-- ---- what is read goes on line by line

-- lines that begin with the first line of a step
abbrev pub BeginWithHead : List Line → Type 0
BeginWithHead [] = ⊥
BeginWithHead (l ∷ ls) = is_head l ≡ true

-- the steps of a history and further lines are its steps and theirs
abbrev pub StepsGoOn : Type 0
StepsGoOn = (h more : List Line) → BeginWithHead more → steps_of (h ++ more) ≡ steps_of h ++ steps_of more

-- so the server and the moment go on from where they were
abbrev pub ServerGoesOn : Type 0
ServerGoesOn =
    (h more : List Line) → BeginWithHead more
    → server_seen (h ++ more) ≡ fold sees_server (server_seen h) (steps_of more)

abbrev pub MomentGoesOn : Type 0
MomentGoesOn = (h more : List Line) → BeginWithHead more → seen (h ++ more) ≡ fold sees (seen h) (steps_of more)

-- and what is a fold over lines goes on with any lines
pub record LinesGoOn (h more : List Line) : Type 0 where
  pub messages : sent_in (h ++ more) ≡ fold sent_after (sent_in h) more
  pub drives : (d : ℕ) → drive_seen d (h ++ more) ≡ fold (sees_drive d) (drive_seen d h) more
  pub log : log_in (h ++ more) ≡ fold log_after (log_in h) more
  pub guesses : guarded (h ++ more) ≡ fold guards (guarded h) more
  pub summary : summary_of (h ++ more) ≡ fold counts_line (summary_of h) more

abbrev pub AllLinesGoOn : Type 0
AllLinesGoOn = (h more : List Line) → LinesGoOn h more

-- ---- what is read is what stands there

-- a message as the lines show it
abbrev pub shown : Posted → Sent
shown p = record {
  from = party_of p.message.from;
  to = party_of p.message.to;
  bytes = spelled p.message.body;
  delivered = p.delivered;
  dropped = p.dropped;
}

-- the messages that are read off a history are those of each world that stands for it, with their marks
abbrev pub MessagesAreRead : Type 0
MessagesAreRead = (w : World) (h : List Line) → StandsFor w h → sent_in h ≡ map shown w.network.messages
