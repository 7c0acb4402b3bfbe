-- Each step of the server ends a file's grants as is asked: with `CalmWays` and `CalmBegun`, of each move that is followed.
use Rattle.std.proofs.Common.{◌≡◌, ℕ, List, take, Option, Some, None, refl, sym, ap, subst, ◌∙◌}
use Rattle.std.specs.List.{filter_map}
use Rattle.world_history.specs.Names.{known_note_line}
use Rattle.scenario_text.specs.declared.line.Line.{Line}
use Rattle.server_rules.specs.Files.{file_at}
use Rattle.server_rules.specs.History.{Input, step}
use Rattle.world_history.specs.ServerNames.{Server, File}
use Rattle.world_history.specs.Book.{ServerSeen}
use Rattle.history_law.specs.BookMoments.{lines_in}
use Rattle.history_law.specs.Read.{BookIsRead}
use Rattle.history_law.proofs.Staying.{written_front}
use Rattle.component_law.specs.Going.{Goes, taken_out}
use Rattle.component_law.specs.Distinct.{AreDistinct}
use Rattle.component_law.specs.Sound.{IsSound}
use Rattle.component_law.specs.Seeing.{SeenIsSound}
use Rattle.component_law.proofs.Making.{each_step_tells}
use Rattle.component_law.proofs.NamedLines.{are_named}
use Rattle.relation_law.proofs.FramesFiles.{files_distinct}
use Rattle.relation_law.proofs.FramesParties.{server_steps}
use Rattle.headline_law.specs.Ending.{StepsEndGrants}
use Rattle.headline_law.proofs.CalmLosses.{losses_are_harmless}
use Rattle.headline_law.proofs.CalmBegun.{fresh_begun}
use Rattle.headline_law.proofs.CalmCodes.{server_seen_is}
use Rattle.headline_law.proofs.CalmRows.{fresh_none}
use Rattle.headline_law.proofs.CalmWays.{fresh_behind}

-- the file behind the step
pub there_behind : (i : Input) (out : Option ℕ) (lines : List Line) (n : ℕ) (f : File) (p : Option File) →
    Goes i out lines n (Some f) p → (y : File) × (p ≡ Some y) × (y.kept.map ≡ f.kept.map)
there_behind i out lines n f None k = absurd k
there_behind i out lines n f (Some y) k = (y, refl, k.map)

pub steps_end_grants : BookIsRead → SeenIsSound → StepsEndGrants
steps_end_grants book sounds w h m count f g s k i is named placed =
    let sound : IsSound w.server =
    subst (λ (x : ServerSeen). IsSound x.server) (server_seen_is book w h m count f g s k)
    (sounds h (are_named h (written_front h (take count (lines_in w m)) k.calm.scenario.written))) in
    let apart : AreDistinct w.server.files = files_distinct w (record {
      before = k.moment.before;
      history = k.moment.history;
      stands = k.moment.stands;
      moves = k.moment.moves;
      world_is = k.moment.world_is;
    }) in
    let lines : List Line = filter_map known_note_line (step w.server placed i).notes in
    let goes =
    subst (λ (o : Option File). Goes i (taken_out w.server i) lines f.kept.number o
    (file_at (step w.server placed i).state.files f.kept.number)) k.there
    (each_step_tells w.server placed i sound named f.kept.number) in
    let y =
    there_behind i (taken_out w.server i) lines f.kept.number f
    (file_at (step w.server placed i).state.files f.kept.number) goes in
    let real : file_at (step w.server m.chosen i).state.files f.kept.number ≡ Some g =
    ap (λ (v : Server). file_at v.files f.kept.number) (sym (server_steps w m i is)) ∙ k.goes in
    record {
      file = y.0;
      there = y.1;
      map_stays = y.2;
      none = λ none.
          fresh_behind w.server placed i f k.there apart (fresh_none w.server.next_grant f.kept.grants none) y.0 y.1;
      begun = λ still may begins. fresh_begun w.server f k.there m.chosen placed i g y.0 may real y.1 begins;
      loss = losses_are_harmless w.server m.chosen placed i f.kept.number;
    }
