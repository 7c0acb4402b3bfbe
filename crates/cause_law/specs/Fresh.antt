-- The grants that clients take are new to their objects.
use Rattle.std.specs.Prelude.{List}
use Rattle.scenario_text.specs.declared.line.Line.{Line}
use Rattle.exchange_law.specs.Awaited.{AreFewerThanNonces}
use Rattle.exchange_law.specs.Meeting.{IsReadableThrough}
use Rattle.exchange_law.specs.Given.{GrantsAreNew}

-- so it is up to the end of a history with few messages, where what is said at its moments fits its places
abbrev pub GrantsAreFresh : Type 0
GrantsAreFresh = (h : List Line) → IsReadableThrough h → AreFewerThanNonces h → GrantsAreNew h
