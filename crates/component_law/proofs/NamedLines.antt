-- Lines that a text may have, and what they can name.
use Rattle.std.proofs.Common.{◌≡◌, ◌∷◌, [], List, true, false, true≢false, arith}
use Rattle.std.specs.Prelude.{nat_lt}
use Rattle.std.proofs.lemmas.Bool.Decides.{nat_tests}
use Rattle.scenario_text.specs.declared.names.TheConstants.{DRIVES, FILES}
use Rattle.scenario_text.specs.declared.event.Event.TheVariants as event
use Rattle.scenario_text.specs.declared.line.Line.{Line}
use Rattle.scenario_text.specs.declared.line.Line.TheVariants as line
use Rattle.history_law.specs.Read.{is_written_line, AreWritten}
use Rattle.component_law.specs.Naming.{IsNamed, AreNamed}
use Rattle.component_law.proofs.Shapes.{is_event}

pub named_line : (l : Line) → is_written_line l ≡ true → IsNamed l
named_line (line.Event (event.Drive d key capacity)) e = let test : nat_lt d DRIVES ≡ true = e in grind (arith, nat_tests, test)
named_line (line.Event (event.Disk d key capacity)) e = let test : nat_lt d DRIVES ≡ true = e in grind (arith, nat_tests, test)
named_line (line.Event (event.File f m tag)) e = let test : nat_lt f FILES ≡ true = e in grind (arith, nat_tests, test)
named_line (line.Event (event.ZonedFile f m tag)) e = let test : nat_lt f FILES ≡ true = e in grind (arith, nat_tests, test)
named_line l e = tt

pub are_named : (h : List Line) → AreWritten h → AreNamed h
are_named [] a = tt
are_named (l ∷ h) a = (named_line l a.0, are_named h a.1)

pub named_inside : (l : Line) → is_event l ≡ false → IsNamed l
named_inside (line.Event e) i = absurd (true≢false i)
named_inside l i = tt
