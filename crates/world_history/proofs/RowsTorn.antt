-- What is read off lines: a writer that stops between data and parity, and then a drive that fails.
use Rattle.std.specs.Prelude.{true, false, [], ◌∷◌, ◌++◌, refl, ◌≡◌, map}
use Rattle.file_log.specs.declared.entry.Entry.TheVariants.{Write}
use Rattle.scenario_text.specs.declared.event.Event.TheVariants as event
use Rattle.scenario_text.specs.declared.line.Line.TheVariants as line
use Rattle.scenario_text.specs.declared.line.Outcome.TheVariants as outcome
use Rattle.world_history.specs.Book.{book_of, live_in}
use Rattle.world_history.specs.ReadLog.{log_of}
use Rattle.world_history.specs.Stripes.{is_disturbed}
use Rattle.world_history.specs.Calm.{calm, moment_of}
use Rattle.world_history.specs.Guesses.{unguessed}
use Rattle.world_history.specs.Summing.{summary_of}
use Rattle.world_history.proofs.Opened.{opened}
use Rattle.world_history.proofs.OpenedServer.{opened_server}
use Rattle.world_history.proofs.OpenedText.{opened_text}
use Rattle.world_history.proofs.Spoken.{write, first, stops, fails}

-- ---- what is read

-- the write is in the log, and not acknowledged
pub log : log_of first 0 ≡ Write 0 write false ∷ []
unfolding opened opened_server opened_text
log = refl

-- its grant is live
pub live : map (λ g. g.number) (live_in (book_of first 0)) ≡ 1 ∷ []
unfolding opened opened_server opened_text
live = refl

-- its stripe is disturbed
pub disturbed : is_disturbed (moment_of first) 0 0 ≡ true
unfolding opened opened_server opened_text
disturbed = refl

-- a stripe that is torn alone is calm
pub still_calm : calm stops ≡ true
unfolding opened opened_server opened_text
still_calm = refl

-- and one that is short too isn't
pub not_calm : calm fails ≡ false
unfolding opened opened_server opened_text
not_calm = refl

-- once the write is acknowledged, it doesn't count any more
pub calm_again : calm (first ++ (line.Ended 0 (outcome.WriteOk 4) ∷ line.Event (event.Stop 0) ∷ line.Event
    (event.Fail 1) ∷ [])) ≡ true
unfolding opened opened_server opened_text
calm_again = refl

pub no_guess : unguessed fails ≡ true
unfolding opened opened_server opened_text
no_guess = refl

pub sums : summary_of fails ≡ record { calls = 1; ok = 0; writes = 1; reads = 0; read_bytes = 0; read_sum = 0 }
sums = refl
