-- At each moment what a client reports of a write that broke off can't be borne by the server.
-- Towards `ReturnsAreRight` (`specs/KeptFollows.antt`).
use Rattle.std.proofs.Common.{◌≡◌, ℕ, List, [], Some, inl, inr, sym, ap, subst, ◌∙◌}
use Rattle.std.proofs.lemmas.List.{append-nil}
use Rattle.layout_types.specs.declared.ioerrs.IoErr.{IoErr}
use Rattle.scenario_text.specs.declared.line.Line.{Line}
use Rattle.client_rules.specs.Calls.{file_of}
use Rattle.client_rules.specs.Grants.{held_of}
use Rattle.client_rules.specs.History.{Input, step as client_step}
use Rattle.server_rules.specs.Files.{file_at}
use Rattle.server_rules.specs.History.{step}
use Rattle.server_rules.proofs.FileLaws.{file_in}
use Rattle.world_history.specs.ClientNames.{Client, CallOp, Held}
use Rattle.world_history.specs.ServerNames.{Server, File}
use Rattle.world_history.specs.History.{OneEventMore}
use Rattle.world_history.specs.State.{World, ClientAt, at_number}
use Rattle.history_law.specs.Grants.{GrantsAreSafe}
use Rattle.history_law.specs.BookMoments.{IsMoment}
use Rattle.history_law.proofs.Running.{parties_run}
use Rattle.history_law.specs.Moments.{IsReached}
use Rattle.component_law.specs.Objects.{objects_of, AllDiffer, AreOwned}
use Rattle.component_law.proofs.ObjectRuns.{each_object_is_owned}
use Rattle.exchange_law.specs.Calls.{CallFine}
use Rattle.exchange_law.specs.InStep.{ClientsAreInStep, state_of}
use Rattle.exchange_law.specs.Meeting.{KeptGood, IsReadableThrough, ClientsAgree}
use Rattle.exchange_law.specs.Shapes.{FilesHaveShape}
use Rattle.exchange_law.proofs.ClientMoves.{IsKeptByClients, clients_always}
use Rattle.exchange_law.proofs.ClientsWalk.{StepsKeep, holds_always}
use Rattle.exchange_law.proofs.HeldWorlds.{own_request, readable_fronts, readable_there, reached}
use Rattle.exchange_law.proofs.Shapes.{files_have_shape}
use Rattle.component_law.specs.Listed.{ComponentsAgree}
use Rattle.file_simulation.specs.Relation.{client_of}
use Rattle.relation_law.specs.Returns.{report_read, BreaksOff, CantBeBorne, CallReports}
use Rattle.relation_law.proofs.MessagesRun.{IsFine}
use Rattle.relation_law.proofs.MessagesAlways.{turn_is_fine, new_fine}
use Rattle.relation_law.proofs.ReturnsNamed.{short_beyond, refusal_beyond}
use Rattle.relation_law.proofs.ReturnsRun.{step_reports}
use Rattle.relation_law.proofs.ReturnsServer.{borne_behind, call_on}

-- ---- what is known of clients and of the server's objects

pub always_fine : IsKeptByClients (λ n x. IsFine x)
always_fine = record {
  more = λ n k x f. f;
  made = λ n number. new_fine number 1;
  steps = λ n x i number wrote logged f. turn_is_fine x i f;
}

pub shaped : FilesHaveShape
shaped = files_have_shape parties_run

pub objects_differ : (w : World) → IsReached w → (n : ℕ) (f : File) → file_at w.server.files n ≡ Some f
    → AllDiffer (objects_of f.kept.components)
objects_differ w at n f there =
    let run = (parties_run w at).server in
    let owned = each_object_is_owned run.acts in
    let all : AreOwned owned.0 w.server =
    subst (AreOwned owned.0) (sym run.is) (owned.1 run.acts [] (sym (append-nil run.acts))) in
    (all f (file_in w.server.files n f there)).differ

-- ---- a moment

-- what client c reports of its call can't be borne
abbrev pub Reports : Server → (c : ℕ) → Client → Type 0
Reports s c x =
    CallReports (λ (op : CallOp) (report : List IoErr). CantBeBorne s c (file_of op) (report_read report)) x.held x.call

abbrev Stands : World → Type 0
Stands w = (c : ℕ) → Reports w.server c (client_of w c)

-- what is known of the world
pub record ReturnsLaws : Type 0 where
  pub more : OneEventMore
  pub safe : GrantsAreSafe
  pub in_step : ClientsAreInStep
  pub agree : ClientsAgree
  pub listed : ComponentsAgree

module _ (laws : ReturnsLaws) where
  -- ---- a client's step

  module _ (w : World) (h : List Line) (k : IsMoment w h) (t : IsReadableThrough h) (s : Stands w) (c : ℕ) (a : ClientAt)
      (found : at_number w.clients c ≡ Some a) where
    same : client_of w c ≡ a.state
    same = ap (state_of c) found

    -- a write that breaks off in the step does so under a grant that lists the file's components
    broken : (op : CallOp) (x : Held) → held_of a.state.held (file_of op) ≡ Some x → (report : List IoErr)
        → BreaksOff x op report → CantBeBorne w.server c (file_of op) (report_read report)
    broken op x held report (inl refusal) f g there has = refusal_beyond f.kept report refusal
    broken op x held report (inr short) f g there has =
        let holds : held_of (client_of w c).held (file_of op) ≡ Some x =
        ap (λ (y : Client). held_of y.held (file_of op)) same ∙ held in
        let agrees = (laws.agree w h k t c).helds (file_of op) x holds f g there has in
        let fitting = (readable_there w h k t).files (file_of op) f there in
        short_beyond w.server.drives f.kept g x (laws.listed w h k t c (file_of op) x f g holds there has) agrees.map
        fitting.map (shaped w (reached w h k) (file_of op) f there).components
        (objects_differ w (reached w h k) (file_of op) f there)
        (λ n at found. ((fitting.fits c g has).capabilities n at found).object)
        op report short

    client_reports : (i : Input) → Reports w.server c (client_step a.state i).client
    client_reports i =
        step_reports (λ (op : CallOp) (report : List IoErr). CantBeBorne w.server c (file_of op) (report_read report)) a.state
        (clients_always (λ n x. IsFine x) always_fine w (reached w h k) c a found)
        (subst (Reports w.server c) same (s c)) broken i

  steps_keep : StepsKeep Reports IsReadableThrough
  steps_keep = record {
    front = readable_fronts;
    starts = λ n. tt;
    client = λ w h k t s c a found i heard. client_reports w h k t s c a found i;
    server = λ w h k m d t later s g c.
        let x : Client = client_of w c in
        let fine : CallFine (KeptGood w.server c) x.held x.outstanding x.call = (laws.agree w h k t c).call in
        call_on (KeptGood w.server c) x.outstanding
        (λ (op : CallOp) (report : List IoErr). CantBeBorne w.server c (file_of op) (report_read report))
        (λ (op : CallOp) (report : List IoErr).
        CantBeBorne (step w.server m.chosen g.input).state c (file_of op) (report_read report))
        (λ none op report b. borne_behind w.server m.chosen c x none (file_of op) (report_read report) b g.input
        (laws.safe w (reached w h k)) (own_request laws.in_step w h k (readable_there w h k t) c g.input g.heard)) x.held x.call
        fine (s c);
  }

  -- so it is at each moment
  pub reports_stand : (w : World) (h : List Line) → IsMoment w h → IsReadableThrough h → (c : ℕ)
      → Reports w.server c (client_of w c)
  reports_stand = holds_always Reports IsReadableThrough steps_keep laws.more
