-- What is known of the world for the marks of a file, from the laws of histories and of the server.
use Rattle.world_history.specs.History.{OneEventMore}
use Rattle.world_history.specs.Laws.{MomentGoesOn}
use Rattle.history_law.specs.Read.{BookIsRead}
use Rattle.component_law.specs.Seeing.{SeenIsSound}
use Rattle.headline_law.specs.Ending.{NotesAreKnown}
use Rattle.headline_law.specs.MarksShown.{CutsShowTheirMarks}
use Rattle.headline_law.specs.Parts.{ServersKeepRuns, DrivesKeepRuns, CutsAreRuns, CutsShowCalm}
use Rattle.headline_law.proofs.CalmAhead.{cuts_are_runs, cuts_show_calm}
use Rattle.headline_law.proofs.CalmCuts.{cuts_are_seen}
use Rattle.headline_law.proofs.CalmDrives.{drives_keep_runs}
use Rattle.headline_law.proofs.CalmFailed.{failed_are_read}
use Rattle.headline_law.proofs.CalmGrants.{steps_end_grants}
use Rattle.headline_law.proofs.CalmServer.{MarkLaws}
use Rattle.headline_law.proofs.CalmServers.{servers_keep_runs}
use Rattle.headline_law.proofs.CalmAnswers.{followed_answers_fit}
use Rattle.headline_law.proofs.CalmTaken.{told_are_taken}
use Rattle.headline_law.proofs.MarksClients.{clients_keep_marks}
use Rattle.headline_law.proofs.EntriesShown.{ReadingLaws}
use Rattle.headline_law.proofs.MarksDrives.{drives_show_marks}
use Rattle.headline_law.proofs.MarksGo.{cuts_show_marks}
use Rattle.headline_law.proofs.MarksQuiet.{early_cuts_keep_marks}

-- the laws of the crates below
pub record CalmLaws : Type 0 where
  pub book : BookIsRead
  pub moment : MomentGoesOn
  pub more : OneEventMore
  pub sound : SeenIsSound
  pub known : NotesAreKnown

pub mark_laws : CalmLaws → MarkLaws
mark_laws laws = record {
  book = laws.book;
  seen = cuts_are_seen laws.book laws.moment laws.known (told_are_taken followed_answers_fit);
  grants = steps_end_grants laws.book laws.sound;
  failed = failed_are_read laws.more;
}

-- ---- the statements

pub servers_go : CalmLaws → ServersKeepRuns
servers_go laws = servers_keep_runs (mark_laws laws)

pub drives_go : CalmLaws → DrivesKeepRuns
drives_go laws = drives_keep_runs laws.book laws.moment

pub cuts_run : CalmLaws → CutsAreRuns
cuts_run laws = cuts_are_runs laws.book

pub cuts_calm : CalmLaws → CutsShowCalm
cuts_calm laws = cuts_show_calm laws.book

pub cuts_marked : CalmLaws → ReadingLaws → CutsShowTheirMarks
cuts_marked laws reading =
    cuts_show_marks (mark_laws laws) (clients_keep_marks laws.book laws.moment) (early_cuts_keep_marks laws.book laws.moment)
    (drives_show_marks (record { book = laws.book; reading = reading }))
