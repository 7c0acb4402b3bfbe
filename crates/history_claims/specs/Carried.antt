-- Messages are of bytes, and so is what the replies carry that a call met.
use Rattle.std.specs.Prelude.{List, [], ◌∷◌}
use Rattle.osd_lists.specs.Blocks.{IsBytes}
use Rattle.scenario_text.specs.declared.line.Outcome.TheVariants.{ReadOk}
use Rattle.scenario_text.specs.declared.line.Line.{Line}
use Rattle.scenario_text.specs.declared.line.Line.TheVariants as line
use Rattle.history_law.specs.Safe.{AtEachLine}
use Rattle.cause_law.specs.ReadBytes.{CarryBytes}
use Rattle.cause_law.specs.ReadCalls.{call_seen}

-- the line of a message shows bytes
abbrev pub IsCarried : Line → Type 0
IsCarried (line.Message number from to bytes) = IsBytes bytes
IsCarried l = Unit {0}

-- so do all lines
abbrev pub AreCarried : List Line → Type 0
AreCarried [] = Unit {0}
AreCarried (l ∷ ls) = IsCarried l × AreCarried ls

-- where a line tells that a read was answered, the replies that its call met carry bytes
abbrev pub MetBytesAt : List Line → Line → Type 0
MetBytesAt before (line.Ended c (ReadOk bytes)) = CarryBytes (call_seen c before).last.met
MetBytesAt before l = Unit {0}

-- so it is at each line of lines that show bytes
abbrev pub RepliesCarryBytes : Type 0
RepliesCarryBytes = (h : List Line) → AreCarried h → AtEachLine MetBytesAt h
