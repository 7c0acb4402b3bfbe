-- No call is refused since its client has no sequence number left.
use Rattle.std.specs.Prelude.{List}
use Rattle.scenario_text.specs.declared.line.Refusal.TheVariants as refusal
use Rattle.scenario_text.specs.declared.line.Line.{Line}
use Rattle.scenario_text.specs.declared.line.Line.TheVariants as line
use Rattle.world_history.specs.History.{Lawful}
use Rattle.history_law.specs.Safe.{AtEachLine}
use Rattle.exchange_law.specs.Text.{AreFew}

-- a line doesn't say so
abbrev pub HasSlot : List Line → Line → Type 0
HasSlot before (line.Refused client refusal.SlotSpent) = ⊥
HasSlot before l = Unit {0}

-- no line of a lawful history with few messages does
abbrev pub NoSlotIsSpent : Type 0
NoSlotIsSpent = (h : List Line) → Lawful h → AreFew h → AtEachLine HasSlot h
