-- At each moment what a job awaits was sent in the lines before.
use Rattle.std.proofs.Common.{◌≡◌, ◌<◌, map, List, ◌++◌, Option, Some, None, refl, sym, ap, subst, inl, inr}
use Rattle.std.proofs.lemmas.Bool.{lt-ltb}
use Rattle.scenario_text.specs.declared.names.TheConstants.{DRIVES}
use Rattle.scenario_text.specs.declared.line.Line.{Line}
use Rattle.scenario_text.specs.declared.line.Line.TheVariants as line
use Rattle.scenario_text.specs.declared.line.Party.TheVariants as party
use Rattle.osd_commands.specs.Commands.{spelling}
use Rattle.server_rules.specs.Commands.{sealed}
use Rattle.server_rules.specs.Files.{Step, file_at, to_drive}
use Rattle.server_rules.specs.History.{Input, step}
use Rattle.server_rules.specs.Laws.{In}
use Rattle.server_rules.proofs.Members.{in_front, in_behind, in_map, in_filter}
use Rattle.world_history.specs.ServerNames.{Server, File, Awaited}
use Rattle.world_history.specs.State.{World}
use Rattle.world_history.specs.Handed.{Post, is_addressed, server_post}
use Rattle.world_history.specs.Moves.{acts}
use Rattle.world_history.specs.Sending.{Move, move}
use Rattle.world_history.specs.Book.{ServerSeen, step_by, server_behind, server_after, awaited_in}
use Rattle.world_history.specs.History.{OneEventMore}
use Rattle.history_law.proofs.Files.{in_at}
use Rattle.history_law.proofs.Moments.{always}
use Rattle.history_law.specs.Numbered.{Awaits}
use Rattle.history_law.proofs.JobSteps.{step_numbers}
use Rattle.history_law.specs.BookMoments.{IsMoment, lines_in}
use Rattle.history_law.specs.Doing.{input_in, did_in, ServerMoves}
use Rattle.history_law.specs.Read.{BookIsRead}
use Rattle.cause_law.specs.Awaiting.{WasSent, EachAwaitedWasSent}
use Rattle.cause_law.proofs.Telling.{sent_there}

abbrev AllSent : World → List Line → Type 0
AllSent w h = (a : Awaited) → Awaits w.server.files a → a.drive < DRIVES → WasSent h a

sent_on : (h ls : List Line) (a : Awaited) → WasSent h a → WasSent (h ++ ls) a
sent_on h ls a s = record {
  number = s.number;
  command = s.command;
  is = s.is;
  there = in_front (line.Message s.number party.Server (party.Drive a.drive) (spelling s.command)) h ls s.there;
}

module _ (moves : ServerMoves) where
  -- what the step of a move sends to a drive that a line can name stands in the move's lines
  sent_in : (w : World) (h : List Line) (m : Move) (t : Step) → did_in w m ≡ Some t → (a : Awaited)
      → In (to_drive t.state.drives a) t.sends → a.drive < DRIVES → WasSent (h ++ lines_in w m) a
  sent_in w h m t does a among named =
      let p : Post = server_post (to_drive t.state.drives a) in
      let posted : In p (acts w m.chosen m.action).posts =
      subst (In p) (sym ((moves w m).posts t does))
      (in_filter is_addressed p (map server_post t.sends) (in_map server_post (to_drive t.state.drives a) t.sends among)
      (lt-ltb a.drive DRIVES named)) in
      let r = sent_there w m p posted in
      record {
        number = r.0;
        command = sealed t.state.drives a;
        is = refl;
        there =
            in_behind
            (line.Message r.0 party.Server (party.Drive a.drive) (spelling (sealed t.state.drives a))) h (lines_in w m) r.1;
      }

  sent_behind : (w : World) (h : List Line) (m : Move) → AllSent w h → AllSent (move w m).world (h ++ lines_in w m)
  sent_behind w h m sent a waits named =
      by (input_in w m.action) refl (subst (λ (s : Server). Awaits s.files a) (moves w m).server waits)
    where
      by : (o : Option Input) → input_in w m.action ≡ o
          → Awaits (server_behind w.server (step_by w.server m.chosen o)).files a → WasSent (h ++ lines_in w m) a
      by None e old = sent_on h (lines_in w m) a (sent a old named)
      by (Some i) e now =
          let on = step_numbers w.server m.chosen i in
          elim (on.waits a now) [
            | inl old ↦ sent_on h (lines_in w m) a (sent a old named)
            | inr fresh ↦
                sent_in w h m (step w.server m.chosen i) (ap (step_by w.server m.chosen) e) a (on.goes_out a fresh) named
          ]

  all_sent : OneEventMore → (w : World) (h : List Line) → IsMoment w h → AllSent w h
  all_sent more w h k =
      always AllSent (record {
        starts = λ a i. absurd i.1;
        moves = λ v g at m d p. sent_behind v g m p;
      }) more w h k

  pub each_awaited_was_sent : BookIsRead → OneEventMore → EachAwaitedWasSent
  each_awaited_was_sent read more h w k written file a i named =
      let same : server_after h ≡ w.server = ap (λ (s : ServerSeen). s.server) (read w h k written) in
      by (file_at w.server.files file) refl
      (subst (λ (s : Server). In a (awaited_in (file_at s.files file))) same i)
    where
      by : (o : Option File) → file_at w.server.files file ≡ o → In a (awaited_in o) → WasSent h a
      by None e j = absurd j
      by (Some f) e j = all_sent more w h k a (f, in_at w.server.files file f e, j) named
