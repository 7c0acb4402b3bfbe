-- The flag at the first moment of a step.
use Rattle.std.specs.Prelude.{◌≡◌, true, false, ◌&&◌, not, List, Option}
use Rattle.scenario_text.specs.declared.line.Line.{Line}
use Rattle.world_history.specs.declared.messages.Sent.{Sent}
use Rattle.world_calm.specs.declared.calm.Performed.{Performed}
use Rattle.world_calm.specs.Marking.{any_harmed}
use Rattle.world_calm.specs.Seeing.{CalmState, KeptOf, begins}
use Rattle.component_law.specs.Words.{Each}
use Rattle.calm_law.specs.Marks.{IsReal}

-- where all was calm so far, nothing that is kept is harmed
abbrev pub IsQuiet : CalmState → Type 0
IsQuiet c = c.calm ≡ true → any_harmed c.files c.marks ≡ false

-- each mark that is kept is of an entry that isn't finished
abbrev pub AreReal : CalmState → Type 0
AreReal c = Each (IsReal c.log.entries) c.marks

-- at the first moment of a step the flag says whether something is harmed, though only what changed was looked at
abbrev pub BeginIsSeen : Type 0
BeginIsSeen =
    (kept : KeptOf) (c : CalmState) (ms : List Sent) (head : Line) (rest : List Line) (p : Option Performed)
    → IsQuiet c → AreReal c
    → (begins kept c ms head rest p).calm
    ≡ (c.calm && not (any_harmed (begins kept c ms head rest p).files (begins kept c ms head rest p).marks))
