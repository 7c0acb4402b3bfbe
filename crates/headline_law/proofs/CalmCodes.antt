-- The layout of a file that is followed is a code, since its map can be used.
use Rattle.std.proofs.Common.{◌≡◌, ℕ, true, List, [], ◌∷◌, length, take, Some, refl, sym, ap, subst, ◌∙◌}
use Rattle.std.specs.List.{fold}
use Rattle.data_map.specs.Check.{IsChecked}
use Rattle.scenario_text.specs.declared.line.Line.{Line}
use Rattle.server_rules.specs.Files.{file_at}
use Rattle.world_history.specs.ServerNames.{File, Server}
use Rattle.world_history.specs.State.{World}
use Rattle.world_history.specs.Sending.{Move}
use Rattle.world_history.specs.Reading.{Step, Grouped, steps_of, is_head}
use Rattle.history_law.proofs.BookLines.{one_step}
use Rattle.component_law.proofs.Shapes.{Bare}
use Rattle.world_history.specs.Book.{ServerSeen}
use Rattle.world_history.specs.Calm.{Seen, seen, sees, first_seen, moment_of}
use Rattle.history_law.specs.BookMoments.{lines_in}
use Rattle.history_law.specs.Read.{server_of, BookIsRead}
use Rattle.exchange_law.proofs.Knowing.{lawful_at}
use Rattle.component_law.proofs.SeenServer.{seen_server}
use Rattle.fence_law.specs.Law.{IsCode}
use Rattle.fence_law.specs.State.{State}
use Rattle.plan_law.proofs.Codes.{layouts_are_codes}
use Rattle.file_simulation.specs.Claim.{IsOfScenario}
use Rattle.file_simulation.proofs.Fronts.{scenario_before}
use Rattle.relation_law.specs.Steps.{Follows}
use Rattle.relation_law.proofs.BirthsShaped.{files_are_shaped}

-- ---- the steps of lines

-- lines of which the first alone begins a step are that step
pub one_alone : (head : Line) (rest : List Line) → is_head head ≡ true → Bare rest →
    steps_of (head ∷ rest) ≡ record { head = head; rest = rest } ∷ []
one_alone head rest h bare = ap (λ (g : Grouped). g.steps) (one_step head rest h bare)

-- ---- the server of a moment

pub server_shown : (s : Seen) (ts : List Step) → s.moment.server ≡ s.server.server →
    (fold sees s ts).moment.server ≡ (fold sees s ts).server.server
server_shown s [] same = same
server_shown s (t ∷ ts) same = server_shown (sees s t) ts refl

module _ (book : BookIsRead) (w : World) (h : List Line) (m : Move) (count : ℕ) (f g : File) (s : State)
    (k : Follows w h m count f g s) where
  scenario : IsOfScenario h
  scenario = scenario_before h (take count (lines_in w m)) k.calm.scenario

  -- what is seen of the server, and of its files at the moment
  pub server_seen_is : (seen h).server ≡ server_of w
  server_seen_is = seen_server first_seen (steps_of h) ∙ book w h k.moment scenario.written

  pub server_there : (moment_of h).server ≡ w.server
  server_there = server_shown first_seen (steps_of h) refl ∙ ap (λ (x : ServerSeen). x.server) server_seen_is

  pub file_there : file_at (moment_of h).server.files f.kept.number ≡ Some f
  file_there = ap (λ (x : Server). file_at x.files f.kept.number) server_there ∙ k.there

  pub map_checked : IsChecked f.kept.map
  map_checked = (files_are_shaped h (lawful_at w h k.moment) scenario f.kept.number f file_there).0

  pub has_all : length f.kept.components ≡ f.kept.map.comps
  has_all = (files_are_shaped h (lawful_at w h k.moment) scenario f.kept.number f file_there).1

  pub code_of : IsCode s.layout
  code_of = subst IsCode (sym k.related.layout) (layouts_are_codes f.kept.map f.kept.first_tag map_checked)
