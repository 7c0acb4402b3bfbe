-- The lines that tell of a client's work.
use Rattle.std.specs.Prelude.{ℕ, List, [], ◌∷◌, ◌++◌, codes}
use Rattle.std.specs.List.{flat_map}
use Rattle.std.specs.Fmt.{decimal}
use Rattle.scenario_text.specs.declared.line.CallKind.{CallKind}
use Rattle.scenario_text.specs.declared.line.Line.{Line}
use Rattle.scenario_text.specs.declared.line.Line.TheVariants as line
use Rattle.client_rules.specs.declared.outcomes.CallErr.{CallErr}
use Rattle.command_words.specs.declared.words.FirstNumber.{FirstNumber}
use Rattle.command_words.specs.declared.words.FirstNumber.TheVariants.{Given, Fresh}
use Rattle.client_command.specs.declared.notices.Notice.{Notice}
use Rattle.client_command.specs.declared.notices.Notice.TheVariants.{TimedOut, Ended}
use Rattle.world_history.specs.Told.{told_refusal}
use Rattle.world_history.specs.Names.{known_outcome}
use Rattle.world_history.specs.Handed.{end_line}

-- a component that timed out has its line, and an end that a line can tell
abbrev pub notice_lines : (client : ℕ) → CallKind → Notice → List Line
notice_lines client kind (TimedOut component) = line.TimedOut client component ∷ []
notice_lines client kind (Ended outcome) = end_line client (known_outcome kind outcome)

-- in order
abbrev pub call_lines : (client : ℕ) → CallKind → List Notice → List Line
call_lines client kind notices = flat_map (notice_lines client kind) notices

-- a call that isn't taken has one line
abbrev pub refusal_lines : (client : ℕ) → CallErr → List Line
refusal_lines client why = line.Refused client (told_refusal why) ∷ []

-- `order N`
abbrev pub order_line : (result : ℕ) → List ℕ
order_line result = codes "order " ++ (decimal result ++ (10 ∷ []))

-- `next Q`
abbrev pub next_line : (sequence : ℕ) → List ℕ
next_line sequence = codes "next " ++ (decimal sequence ++ (10 ∷ []))

-- the same number again if one was given
abbrev pub next_of : FirstNumber → List ℕ
next_of (Given sequence) = next_line sequence
next_of Fresh = []

-- `error number`: the client didn't learn a number
abbrev pub unnumbered_line : List ℕ
unnumbered_line = codes "error number" ++ (10 ∷ [])
