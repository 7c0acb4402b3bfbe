-- What the code has, as the rules' server.
use Rattle.std.specs.Prelude.{ℕ, List, ◌≡◌, ◌≤◌, ◌+◌, ◌<◌, ◌^◌, [], ◌∷◌, ◌++◌, length}
use Rattle.server_rules.specs.declared.limits.TheConstants.{GREATEST_GRANT}
use Rattle.server_rules.specs.declared.server.Server.{Server}
use Rattle.server_rules.specs.declared.server.Effects.{Effects}
use Rattle.server_rules.specs.declared.server.Outgoing.TheVariants.{Answers}
use Rattle.server_rules.specs.Answers.{recalls_from}
use Rattle.server_rules.specs.Slots.{keep}
use Rattle.server_rules.specs.declared.requests.ClientRequest.{ClientRequest}
use Rattle.server_rules.specs.Requests.{carries_out}
use Rattle.server_rules.specs.Files.{file_at, to_drives, Step as RulesStep}
use Rattle.server_requests.specs.Sending.{all_sent}
use Rattle.server_state.specs.declared.state.State.{State}
use Rattle.server_state.specs.declared.step.Step.{Step}
use Rattle.server_state.specs.declared.at_file.Served.{Served}
use Rattle.server_state.specs.Tables.{files_in, without, AreEntries}
use Rattle.server_state.specs.Replies.{AreListed, AreListedBut}
use Rattle.server_state.specs.Standing.{AreCounted}
use Rattle.server_state.specs.Drives.{AreDrives}

abbrev pub server_of : State → Server
server_of s = record {
  files = files_in s.files.entries;
  slots = s.slots;
  drives = s.drives;
  next_grant = s.next_grant;
  next_object = s.next_object;
  next_nonce = s.next_nonce;
  next_recall = s.next_recall;
  format = s.format;
}

-- what holds between steps
pub record IsGood (s : State) : Type 0 where
  pub files : AreEntries s.files.entries
  pub grants : s.next_grant ≤ GREATEST_GRANT + 1
  pub drives : AreDrives s.drives
  pub replies : AreListed s.replies s.files.entries
  pub counts : AreCounted s.counts s.files.entries

-- what holds in the middle of a step at file n
pub record IsGoodBut (n : ℕ) (s : State) : Type 0 where
  pub files : AreEntries s.files.entries
  pub grants : s.next_grant ≤ GREATEST_GRANT + 1
  pub drives : AreDrives s.drives
  pub replies : AreListedBut n s.replies s.files.entries
  pub counts : AreCounted s.counts (without n s.files.entries)

-- what holds in the middle of a step at all files
pub record IsReady (s : State) : Type 0 where
  pub files : AreEntries s.files.entries
  pub grants : s.next_grant ≤ GREATEST_GRANT + 1
  pub drives : AreDrives s.drives

-- the counters of 64 bits have room
pub record HasRoom (s : Server) : Type 0 where
  pub nonce : s.next_nonce < 2 ^ 63
  pub object : s.next_object < 2 ^ 63
  pub recall : s.next_recall < 2 ^ 63

-- the step did what the rules say
pub record Did (out : Step) (new : Server) (s : RulesStep) : Type 0 where
  pub state : new ≡ s.state
  pub sends : out.sends ≡ all_sent s.sends
  pub notes : out.notes ≡ s.notes
  pub mended : out.mended ≡ s.mended

-- the rest of a request's step behind its file: it sends and counts, and keeps the answer
pub record Finishes (old : State) (m : Effects) (v : Served) (new : State) (out : Step) : Type 0 where
  pub state : new ≡ record old {
    slots = keep old.slots (record { client = v.answer.client; last = v.answer.sequence; kept = v.answer });
    next_grant = old.next_grant + v.outcome.numbers;
    next_recall = old.next_recall + length v.outcome.recalled;
    next_nonce = m.nonce;
    next_object = m.object;
  }
  pub sends : out.sends ≡ all_sent (to_drives old.drives m.sent
      ++ (recalls_from old.next_recall v.outcome.recalled ++ (Answers v.answer ∷ [])))
  pub notes : out.notes ≡ m.notes
  pub mended : out.mended ≡ m.mended

-- the rest of a step that sends to drives alone
pub record Settles (old : State) (m : Effects) (new : State) (out : Step) : Type 0 where
  pub state : new ≡ record old { next_nonce = m.nonce; next_object = m.object }
  pub sends : out.sends ≡ all_sent (to_drives old.drives m.sent)
  pub notes : out.notes ≡ m.notes
  pub mended : out.mended ≡ m.mended

-- a new request, carried out at the file of its number
abbrev pub carried_in : Server → (now : ℕ) → (chosen : List ℕ) → ClientRequest → RulesStep
carried_in s now chosen q = carries_out s now chosen q (file_at s.files q.file)
