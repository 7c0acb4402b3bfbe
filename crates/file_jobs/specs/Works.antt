-- What a job does, as the rules see it, and what a step did so far.
use Rattle.std.specs.Prelude.{ℕ, List, [], ◌∷◌, ◌++◌, ◌+◌, length}
use Rattle.server_rules.specs.declared.jobs.Work.{Work}
use Rattle.server_rules.specs.declared.jobs.Work.TheVariants.{Creates, Fences, Targets, Lengths, Checks}
use Rattle.server_rules.specs.declared.jobs.Awaited.{Awaited}
use Rattle.server_rules.specs.declared.notes.NoteKind.{NoteKind}
use Rattle.server_rules.specs.declared.server.Effects.{Effects}
use Rattle.stripe_repair.specs.Repairing.{work_of as repair_of}
use Rattle.stripe_repair.specs.Filling.{fill_work_of}
use Rattle.file_jobs.specs.declared.job.Work.{Work as RunningWork}
use Rattle.file_jobs.specs.declared.job.Work.TheVariants.{Creates as Making, Fences as Fencing, Repairs as Repairing, Targets as Placing, Rebuilds as Filling, Lengths as Measuring, Checks as Checking}

-- cursors are the lists of their pieces
abbrev pub work_of : RunningWork → Work
work_of Making = Creates
work_of Fencing = Fences
work_of (Repairing r) = repair_of r
work_of (Placing t) = Targets t
work_of (Filling r) = fill_work_of r
work_of Measuring = Lengths
work_of (Checking a) = Checks a.todo a.tally

-- the step sends these commands
abbrev pub sends : Effects → List Awaited → Effects
sends m cs = record m { nonce = m.nonce + length cs; sent = m.sent ++ cs }

-- a note on a file
abbrev pub noted : Effects → (file : ℕ) → NoteKind → Effects
noted m file kind = record m { notes = m.notes ++ (record { file = file; kind = kind } ∷ []) }
