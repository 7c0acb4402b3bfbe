-- Behind more lines there are no fewer messages.
use Rattle.std.proofs.Common.{◌++◌, List, arith}
use Rattle.scenario_text.specs.declared.line.Line.{Line}
use Rattle.exchange_law.specs.Awaited.{AreFewerThanNonces}
use Rattle.exchange_law.proofs.CountGrowing.{longer}

-- so a history with few messages has few in each front
pub few_front : (h ls : List Line) → AreFewerThanNonces (h ++ ls) → AreFewerThanNonces h
few_front h ls few = omega (arith, longer h ls, few)
