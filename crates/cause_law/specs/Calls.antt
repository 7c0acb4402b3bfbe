-- How calls of clients end, in histories of a scenario's text with few messages.
use Rattle.std.specs.Prelude.{◌≡◌, true, false, List}
use Rattle.layout_ops.specs.declared.statuses.TheConstants.{NFS4ERR_BADLAYOUT}
use Rattle.scenario_text.specs.declared.line.Ending.{Ending}
use Rattle.scenario_text.specs.declared.line.Ending.TheVariants.{BadLayout, Status, Refused}
use Rattle.scenario_text.specs.declared.line.Line.{Line}
use Rattle.scenario_text.specs.declared.line.Line.TheVariants as line
use Rattle.scenario_text.specs.declared.line.Outcome.TheVariants.{Failed}
use Rattle.scenario_text.specs.declared.line.Refusal.TheVariants.{SlotSpent}
use Rattle.world_history.specs.Guesses.{unguessed}
use Rattle.world_history.specs.History.{Lawful}
use Rattle.history_law.specs.Safe.{AtEachLine}
use Rattle.exchange_law.specs.Histories.{IsMisplaced}
use Rattle.exchange_law.specs.LaneTaken.{is_of_lanes}
use Rattle.exchange_law.specs.Text.{AreOfText, AreFew}

-- No call ends since its layout can't be used, and with no status but that the grant of its commit is over. None is
-- refused by a drive since its command lies outside its capability, nor, as far as nothing was guessed, since an object
-- has no lane for the client or a later nonce in it.
abbrev pub EndsSo : List Line → Ending → Type 0
EndsSo before (BadLayout why) = ⊥
EndsSo before (Status status detail) = (status ≡ NFS4ERR_BADLAYOUT) × (detail ≡ 0)
EndsSo before (Refused drive v) = (IsMisplaced v → ⊥) × (unguessed before ≡ true → is_of_lanes v ≡ false)
EndsSo before e = Unit {0}

-- And no call is refused since its client has no sequence number left.
abbrev pub EndsAt : List Line → Line → Type 0
EndsAt before (line.Ended client (Failed call e)) = EndsSo before e
EndsAt before (line.Refused client SlotSpent) = ⊥
EndsAt before l = Unit {0}

-- so it is at each line of a lawful history of a scenario's text with few messages
abbrev pub CallsEndSo : Type 0
CallsEndSo = (h : List Line) → Lawful h → AreOfText h → AreFew h → AtEachLine EndsAt h
