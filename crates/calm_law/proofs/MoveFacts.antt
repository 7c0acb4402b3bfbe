-- What a step of a move gives, by the laws of the book, of the network and of files.
use Rattle.std.proofs.Common.{◌≡◌, ℕ, List, true, true≢false, Option, Some, None, option_map, slice_get, refl, sym, ap, subst, ◌∙◌}
use Rattle.server_rules.specs.Files.{Step as ServerStep, file_at}
use Rattle.server_rules.specs.Numbers.{among}
use Rattle.server_rules.specs.History.{Input, step}
use Rattle.scenario_text.specs.declared.event.Event.TheVariants as event
use Rattle.scenario_text.specs.declared.line.Line.{Line}
use Rattle.scenario_text.specs.declared.line.Line.TheVariants as line
use Rattle.world_history.specs.declared.messages.Sent.{Sent}
use Rattle.world_history.specs.ServerNames.{Server, File}
use Rattle.world_history.specs.State.{World}
use Rattle.world_history.specs.Sending.{Move, move}
use Rattle.world_history.specs.Reading.{Step}
use Rattle.world_history.specs.Book.{ServerSeen, step_by, server_step, server_behind}
use Rattle.world_history.specs.Calm.{Seen, seen, returned_at, takes_loss, is_told_taken, mended_in, performed_at}
use Rattle.world_watch.specs.Sighted.{Table}
use Rattle.world_calm.specs.declared.calm.Performed.{Performed}
use Rattle.world_watch.specs.Steps.{injected_at, performed_at as performed_here}
use Rattle.history_law.specs.HistoryMoments.{IsReached}
use Rattle.calm_law.specs.Words.{kept_in}
use Rattle.calm_law.specs.Following.{StepFacts, PerformsAs}
use Rattle.history_law.specs.Doing.{input_in, did_in, ServerMoves}
use Rattle.history_law.specs.Read.{server_of}
use Rattle.component_law.specs.Messages.{messages_of}
use Rattle.calm_law.specs.Steps.{IsStepOf, IsInjected, StepTells, StepsTell}
use Rattle.component_law.specs.Moments.{WritesToOthers}
use Rattle.component_law.specs.Naming.{IsNamed, AreNamed}
use Rattle.calm_law.specs.Seeing.{ShowsFiles, MovesShowFiles}
use Rattle.calm_law.specs.Moving.{kept_by}
use Rattle.calm_law.proofs.MoveNotes.{tells, noted, move_tells}

-- ---- the server that is seen

kept_same : (o : Option File) → option_map (λ (f : File). f.kept) o ≡ kept_in o
kept_same None = refl
kept_same (Some f) = refl

-- the input of a step
input_of_step : (s : Server) (chosen : List ℕ) (o : Option Input) (did : ServerStep) → step_by s chosen o ≡ Some did
    → (i : Input) × (did ≡ step s chosen i)
input_of_step s chosen None did e = absurd (cc e)
input_of_step s chosen (Some i) did e =
    let same : step s chosen i ≡ did = cc in
    (i, sym same)

loss_told : ServerMoves → (w : World) (m : Move) (st : Step) (t : Table) (injected : List ℕ) (before : Line)
    → StepTells w m st t injected before → (o : Option ServerStep) → did_in w m ≡ o → takes_loss o ≡ true
    → is_told_taken st.rest ≡ true
loss_told moves w m st t injected before x None e l = absurd (true≢false (sym l))
loss_told moves w m st t injected before x (Some did) e l =
    let i : (j : Input) × (did ≡ step w.server m.chosen j) =
    input_of_step w.server m.chosen (input_in w m.action) did e in
    x.told did
    (record {
      server = record { input = i.0; chosen = m.chosen; sends = ap (λ (d : ServerStep). d.sends) i.1 };
      posts = (moves w m).posts did e;
    }) l

-- ---- a step of a move

-- what is known of it, behind the lines b
pub record IsOf (w : World) (m : Move) (t : Table) (b : List Line) (st : Step) (before : Line) : Type 0 where
  pub reached : IsReached w
  pub others : WritesToOthers w
  pub server : (seen b).server ≡ server_of w
  pub did : server_step (seen b).server st ≡ did_in w m
  pub step_is : IsStepOf w m st
  pub injected : IsInjected w m t (seen b).injected before
  pub tells : tells st.rest ≡ tells (move w m).lines
  pub declared : (d : ℕ) → st.head ≡ line.Event (event.Declare d) → among d (seen b).moment.failed ≡ true
  pub named : AreNamed b
  pub head : IsNamed st.head

pub step_facts : ServerMoves → StepsTell → MovesShowFiles → (w : World) (m : Move) (t : Table) (b : List Line) (st : Step)
    (before : Line) (p : Option Performed) → IsOf w m t b st before
    → p ≡ performed_here (messages_of (move w m).world) (injected_at t (messages_of (move w m).world) before) st.head
    → StepFacts (seen b) st (server_step (seen b).server st) (kept_by (move w m).world) (mended_in (did_in w m))
    (messages_of (move w m).world) p
step_facts moves net files w m t b st before p k e =
    let s : Seen = seen b in
    let did : Option ServerStep = server_step s.server st in
    let behind : server_behind s.server.server did ≡ (move w m).world.server =
    ap (λ (x : ServerSeen). server_behind x.server did) k.server
    ∙ ap (λ (o : Option ServerStep). server_behind w.server o) k.did ∙ sym (moves w m).server in
    let sent : s.server.sent ≡ messages_of w = ap (λ (x : ServerSeen). x.sent) k.server in
    let x : StepTells w m st t s.injected before = net w m st t s.injected before k.reached k.step_is k.injected in
    let shows : ShowsFiles s st did = files b st k.named k.head (record {
      notes = k.tells ∙ move_tells w m ∙ ap (λ (o : Option ServerStep). noted o) (sym k.did);
      declared = k.declared;
      sent = λ n y f from to. k.others n y (ap (λ (ms : List Sent). slice_get ms n) (sym sent) ∙ f) from to;
    }) in
    record {
      keeps = λ n. kept_same (file_at (move w m).world.server.files n)
          ∙ ap (λ (v : Server). kept_in (file_at v.files n)) (sym behind);
      mended = ap mended_in (sym k.did);
      told = λ l. loss_told moves w m st t s.injected before x (did_in w m) refl (ap takes_loss (sym k.did) ∙ l);
      maps = shows.maps;
      distinct = shows.distinct;
      components = shows.components;
      returned = x.returned ∙ ap (λ (ms : List Sent). returned_at ms st.head) (sym sent);
      performed = subst (λ (ms : List Sent). PerformsAs ms (messages_of (move w m).world)
          (performed_at ms s.injected st.head) p) (sym sent)
          (subst (λ (q : Option Performed). PerformsAs (messages_of w) (messages_of (move w m).world)
          (performed_at (messages_of w) s.injected st.head) q) (sym e) x.performed);
      shown = shows.shown;
      steady = shows.steady;
    }
