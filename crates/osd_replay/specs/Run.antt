-- What a run of the program promises, by its words.
use Rattle.std.specs.Prelude.{◌≡◌, [], Option, Some, None}
use Rattle.osd_replay.specs.Complete.{Completes}
use Rattle.osd_replay.specs.Errors.{words_error}
use Rattle.osd_replay.specs.Ends.{Ends, PutsError}
use Rattle.osd_replay.specs.Replay.{Promises as ReplayPromises}
use Rattle.osd_replay.specs.Generate.{ReadsNothing, Promises as GeneratePromises}
use Rattle.osd_replay.specs.Inspect.{Promises as InspectPromises}
use Rattle.osd_replay.specs.declared.command.Command.{Command}
use Rattle.osd_replay.specs.declared.command.Command.TheVariants.{Replay, Generate, Inspect}
use Rattle.osd_replay.specs.declared.status.Status.{Status}
use Rattle.osd_replay.specs.declared.status.Status.TheVariants.{BadWords}

abbrev pub Promises : Option Command → Ends → Ends → Status → Type 0
Promises None before after status = (status ≡ BadWords) × PutsError before after [] words_error
Promises (Some Replay) before after status = ReplayPromises before after status × Completes before after status
Promises (Some (Generate seed calls)) before after status =
    ReadsNothing before after × GeneratePromises seed calls before after status
Promises (Some (Inspect inspection kind)) before after status = InspectPromises inspection kind before after status
