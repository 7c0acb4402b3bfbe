-- What is read off lines: a repair takes the mark of its stripe away, and is calm with a failed drive behind it.
use Rattle.std.specs.Prelude.{ℕ, true, false, List, [], ◌∷◌, ◌++◌, refl, ◌≡◌}
use Rattle.osd_commands.specs.Replies as replies
use Rattle.scenario_text.specs.declared.event.Event.TheVariants as event
use Rattle.scenario_text.specs.declared.line.Line.{Line}
use Rattle.scenario_text.specs.declared.line.Line.TheVariants as line
use Rattle.scenario_text.specs.declared.line.Note.TheVariants as note
use Rattle.scenario_text.specs.declared.line.Party.TheVariants as party
use Rattle.world_history.specs.Calm.{calm, moment_of}
use Rattle.world_history.proofs.Played.{taken}
use Rattle.world_history.proofs.Spoken.{write, stops}
use Rattle.world_history.proofs.Opened.{opened}
use Rattle.world_history.proofs.OpenedServer.{opened_server}
use Rattle.world_history.proofs.OpenedText.{opened_text}

-- a drive's reply to a command that it performed
abbrev replied : (action object nonce : ℕ) → (payload : List ℕ) → List ℕ
replied action object nonce payload =
    replies.spelling (record {
      action = action;
      verdict = 0;
      object = object;
      nonce = nonce;
      detail = 0;
      payload =
          payload;
    })

-- it comes to the server
abbrev comes : (number drive action object nonce : ℕ) → (payload : List ℕ) → List Line
comes number d action object nonce payload =
    line.Message number (party.Drive d) party.Server (replied action object nonce payload) ∷ taken number ∷ []

-- SET TAG and READ of both components are answered, and then the WRITE of the parity
abbrev fenced : List Line
fenced =
    stops ++ (line.Event (event.Revoke 0) ∷ comes 9 0 6 65536 3 [] ++ comes 10 1 6 65537 4 [] ++ (line.Note 0
    (note.Fenced 2) ∷ []))

abbrev repaired : List Line
repaired =
    fenced ++ (comes 11 0 2 65536 5 write ++ (comes 12 1 2 65537 6 [] ++ (comes 13 1 3 65537 7 [] ++ (line.Note 0
    (note.Repaired 1 0) ∷ []))))

-- until then a failed drive breaks the calm
pub broken : calm (fenced ++ (line.Event (event.Fail 1) ∷ [])) ≡ false
unfolding opened opened_server opened_text
broken = refl

-- behind it none does
pub marks : (moment_of repaired).marks ≡ []
unfolding opened opened_server opened_text
marks = refl

pub calm_then : calm (repaired ++ (line.Event (event.Fail 1) ∷ [])) ≡ true
unfolding opened opened_server opened_text
calm_then = refl
