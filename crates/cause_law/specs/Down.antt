-- Whether the server is down, read off the lines.
use Rattle.std.specs.Prelude.{◌≡◌, Bool, true, false, List}
use Rattle.std.specs.List.{fold}
use Rattle.scenario_text.specs.declared.event.Event.TheVariants as event
use Rattle.scenario_text.specs.declared.event.Machine.TheVariants as machine
use Rattle.scenario_text.specs.declared.line.Line.{Line}
use Rattle.scenario_text.specs.declared.line.Line.TheVariants as line
use Rattle.world_history.specs.State.{World}
use Rattle.history_law.specs.Moments.{IsMoment}

-- it goes down with a crash, and up with an opening
abbrev pub down_after_line : Bool → Line → Bool
down_after_line down (line.Event (event.Crash machine.Server)) = true
down_after_line down (line.Event (event.Reopen machine.Server)) = false
down_after_line down l = down

-- it is down behind these lines
abbrev pub is_down : List Line → Bool
is_down h = fold down_after_line false h

-- so it is in each world that stands there
abbrev pub DownIsRead : Type 0
DownIsRead = (w : World) (h : List Line) → IsMoment w h → is_down h ≡ w.down
