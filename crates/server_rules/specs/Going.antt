-- A file in the middle of a step, with what the step did so far.
use Rattle.std.specs.Prelude.{ℕ, Bool, List, [], ◌∷◌, ◌++◌, Some, None, ◌+◌, length, if◌then◌else◌}
use Rattle.server_rules.specs.State.{File, Kept, Job, JobKind, Work, Awaited, Heard, NoteKind, Effects, Drive, Component}

-- `chosen` are the drives that the placer names where it is asked, in order
pub record Going : Type 0 where
  pub file : File
  pub effects : Effects
  pub drives : List Drive
  pub chosen : List ℕ

-- ---- the file

-- what is kept of the file becomes this
abbrev pub keeping : Going → Kept → Going
keeping g k = record g { file = record g.file { kept = k } }

-- the file's components become these
abbrev pub with_components : Going → List Component → Going
with_components g cs = keeping g (record g.file.kept { components = cs })

-- no job runs any more
abbrev pub over : Going → Going
over g = record g { file = record g.file { job = None } }

-- ---- what the step did

-- the step notes this of the file
abbrev pub noting : Going → NoteKind → Going
noting g n =
    record g {
      effects = record g.effects {
        notes = g.effects.notes
            ++ (record { file = g.file.kept.number; kind = n } ∷ []);
      };
    }

-- the step notes this of the file if the test holds
abbrev pub noting_if : Bool → Going → NoteKind → Going
noting_if b g n = record g { effects = record g.effects { notes = if b then (noting g n).effects.notes else g.effects.notes } }

-- the step sends these commands
abbrev pub sending : Going → List Awaited → Going
sending g cs = record g { effects = record g.effects { nonce = g.effects.nonce + length cs; sent = g.effects.sent ++ cs } }

-- the job sends a command and others, and rests until they are answered
abbrev pub rests : Going → JobKind → Work → Awaited → List Awaited → Going
rests g kind work c cs =
    record
    (sending g (c ∷ cs)) {
      file = record
          g.file { job = Some (record { kind = kind; work = work; awaited = c ∷ cs; heard = [] }) };
    }

-- the job rests where it has something to send, else this is what comes
abbrev pub rests_or : List Awaited → Going → JobKind → Work → Going → Going
rests_or [] g kind work later = later
rests_or (c ∷ cs) g kind work later = rests g kind work c cs

-- the job waits on for a command and others
abbrev pub waits_on : Going → Job → Work → Awaited → List Awaited → List Heard → Going
waits_on g j work c cs heard =
    record
    g { file = record g.file { job = Some (record { kind = j.kind; work = work; awaited = c ∷ cs; heard = heard }) } }
