-- A client holds grants only on files that there are.
use Rattle.std.proofs.Common.{◌≡◌, ℕ, ◌++◌, List, [], ◌∷◌, Some, refl, ap, ◌∙◌}
use Rattle.scenario_text.specs.declared.line.Line.{Line}
use Rattle.server_rules.specs.Files.{file_at}
use Rattle.server_rules.specs.History.{Act, step, state_after}
use Rattle.server_rules.specs.Making.{new_server}
use Rattle.client_rules.specs.Grants.{held_of}
use Rattle.world_history.specs.ServerNames.{Server, File}
use Rattle.world_history.specs.ClientNames.{Held}
use Rattle.world_history.specs.History.{OneEventMore}
use Rattle.world_history.specs.State.{World}
use Rattle.history_law.specs.BookMoments.{IsMoment}
use Rattle.component_law.specs.Distinct.{AreDistinct}
use Rattle.exchange_law.specs.Meeting.{ClientsAgree, IsReadableThrough}
use Rattle.exchange_law.specs.Taking.{AnswersAreOwn}
use Rattle.cause_law.proofs.Moments.{WasHeld, stands}
use Rattle.file_simulation.specs.Relation.{client_of}
use Rattle.relation_law.proofs.FramesFiles.{step_stays}
use Rattle.headline_law.proofs.SentPlaces.{distinct_over}

-- a file stays over a run of the server
stays_over : (s : Server) (acts : List Act) → AreDistinct s.files → (n : ℕ) (f : File) → file_at s.files n ≡ Some f →
    (g : File) × (file_at (state_after s acts).files n ≡ Some g)
stays_over s [] d n f there = (f, there)
stays_over s (a ∷ acts) d n f there =
    let r = step_stays s a.chosen a.input d in
    let g = r.2 n f there in
    stays_over (step s a.chosen a.input).state acts r.0 n g.0 g.1

run_on : (s : Server) (before after : List Act) → state_after s (before ++ after) ≡ state_after (state_after s before) after
run_on s [] after = refl
run_on s (a ∷ before) after = run_on (step s a.chosen a.input).state before after

-- a file that was there at a front of a run is there at its end
pub was_there : (acts before after : List Act) (n : ℕ) (f : File) → acts ≡ before ++ after →
    file_at (state_after (new_server []) before).files n ≡ Some f →
    (g : File) × (file_at (state_after (new_server []) acts).files n ≡ Some g)
was_there acts before after n f run found =
    let r = stays_over (state_after (new_server []) before) after (distinct_over (new_server []) before tt) n f found in (
      r.0,
      ap (λ (s : Server). file_at s.files n) (ap (state_after (new_server [])) run ∙ run_on (new_server []) before after)
          ∙ r.1,
    )

pub held_file : OneEventMore → AnswersAreOwn → ClientsAgree → (w : World) (h : List Line) → IsMoment w h →
    IsReadableThrough h → (c n : ℕ) (x : Held) → held_of (client_of w c).held n ≡ Some x →
    (g : File) × (file_at w.server.files n ≡ Some g)
held_file more own agree w h k t c n x holds =
    let s = stands more own agree w h k t in
    let held : WasHeld s.run n x = s.helds c n x holds in
    let r = was_there s.run held.there.before held.there.after n held.file held.there.run held.there.found in
    (r.0, ap (λ (y : Server). file_at y.files n) s.is ∙ r.1)
