-- What the end of a transcript leaves.
use Rattle.std.specs.Prelude.{◌≡◌, ℕ, ◌<◌, List, [], ◌∷◌, length, take, codes, Option, Bool}
use Rattle.std.specs.Io.KnownBytes.{Appends}
use Rattle.osd_bytes.specs.Causes.{Rose}
use Rattle.scenario_text.specs.declared.line.Line.{Line}
use Rattle.scenario_text.specs.LineSpelling.{lines_text}
use Rattle.osd_replay.specs.Errors.{error_line}
use Rattle.osd_replay.specs.Puts.{Puts}
use Rattle.osd_replay.specs.declared.status.Status.{Status}
use Rattle.osd_replay.specs.declared.status.Status.TheVariants.{Done, BadWords, BadScenario, ReadFault, WriteFault}
use Rattle.osd_replay.specs.declared.status.Status.TheVariants.{Memory, Full}

-- the last line went out, or a part of it, or there was no memory for it
abbrev pub Finishes : Line → Option (List ℕ) → Option (List ℕ) → ℕ → ℕ → Status → Type 0
Finishes last before after failed_before failed Done =
    Appends before after (lines_text (last ∷ [])) × (failed ≡ failed_before)
Finishes last before after failed_before failed WriteFault =
    (upto : ℕ) × (upto < length (lines_text (last ∷ [])))
    × Appends before after (take upto (lines_text (last ∷ []))) × Rose failed_before failed
Finishes last before after failed_before failed Memory =
    (whole : Bool) × Puts before after failed_before failed (error_line 0 (codes "memory")) whole
Finishes last before after failed_before failed BadWords = ⊥
Finishes last before after failed_before failed ReadFault = ⊥
Finishes last before after failed_before failed (BadScenario number kind) = ⊥
Finishes last before after failed_before failed (Full quantity) = ⊥
