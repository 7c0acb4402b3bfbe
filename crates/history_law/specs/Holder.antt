-- Whose commands drives perform under the server's holder, in the words of the lines.
use Rattle.std.specs.Prelude.{List}
use Rattle.scenario_text.specs.declared.line.Verdict.TheVariants.{Perform}
use Rattle.scenario_text.specs.declared.line.Line.{Line}
use Rattle.scenario_text.specs.declared.line.Line.TheVariants as line
use Rattle.world_history.specs.History.{Lawful}
use Rattle.history_law.specs.Safe.{AtEachLine}
use Rattle.history_law.specs.Unforged.{AreUnforged}
use Rattle.history_law.specs.Reaching.{OwnAt, HolderIsServer}

-- At a line of any history: of what is injected it is so where nothing that was injected so far is forged.
abbrev pub OwnUnlessForged : List Line → Line → Type 0
OwnUnlessForged before (line.Judged drive Perform) = AreUnforged before → OwnAt before (line.Judged drive Perform)
OwnUnlessForged before l = OwnAt before l

-- so it is at each line of each lawful history
abbrev pub EachHolderIsOwn : Type 0
EachHolderIsOwn = (h : List Line) → Lawful h → AtEachLine OwnUnlessForged h

-- in a lawful history in which nothing is forged the server's holder is its own at each line
abbrev pub UnforgedHolderIsServer : Type 0
UnforgedHolderIsServer = (h : List Line) → Lawful h → AreUnforged h → HolderIsServer h
