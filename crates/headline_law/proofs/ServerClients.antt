-- What a calm history gives where the server carries out a client's request: all that the events of its step need.
use Rattle.std.proofs.Common.{◌≡◌, ◌==◌, ◌<◌, ℕ, Bool, true, false, List, [], ◌∷◌, Option, Some, None, refl, sym, ap, subst, ◌∙◌, arith, if◌then◌else◌}
use Rattle.std.proofs.lemmas.Bool.{true≢false, eq-eqb, ne_eqb}
use Rattle.std.proofs.lemmas.Option.{same_Some}
use Rattle.osd_lists.specs.declared.node.Node.TheVariants as node
use Rattle.layout_ops.specs.declared.args.Args.{Args}
use Rattle.layout_ops.specs.declared.args.Args.TheVariants as args
use Rattle.layout_types.specs.declared.ioerrs.IoErr.{IoErr}
use Rattle.scenario_text.specs.declared.line.Line.{Line}
use Rattle.scenario_text.specs.declared.names.TheConstants.{CLIENTS}
use Rattle.server_rules.specs.Envelopes.{asked_in}
use Rattle.server_rules.specs.Files.{at_file}
use Rattle.server_rules.specs.Grants.{grant_of}
use Rattle.server_rules.specs.History.{Hears}
use Rattle.server_rules.specs.Laws.{In, NoneBeside, last_of}
use Rattle.server_rules.specs.Messages.{Asks}
use Rattle.server_rules.specs.Requests.{answer_with}
use Rattle.server_rules.specs.Return.{Taken, return_row, by_return, ends_grant, takes_loss, returns_on}
use Rattle.server_rules.specs.Served.{says}
use Rattle.server_rules.specs.Slots.{slot_of}
use Rattle.client_rules.specs.Calls.{file_of}
use Rattle.client_rules.specs.Grants.{held_of}
use Rattle.world_history.specs.ServerNames.{File, Grant, Slot, Job, ClientRequest, RequestArgs, Commit as Commits, Return as Returns}
use Rattle.world_history.specs.ClientNames.{Client, Call, CallOp, Need, First, Get, Commit, Report, Close, Phase, Starts, Needs, Waits, Reads, Probes, Gathers, Scatters, Request, TimedOut}
use Rattle.world_history.specs.State.{World}
use Rattle.world_history.specs.Sending.{Move}
use Rattle.history_law.specs.Doing.{input_in}
use Rattle.history_law.proofs.Files.{in_at, safe_in}
use Rattle.exchange_law.specs.Meeting.{IsReadableThrough}
use Rattle.exchange_law.proofs.CountMoments.{reached}
use Rattle.exchange_law.proofs.HeldWorlds.{readable_there}
use Rattle.exchange_law.proofs.Knowing.{lawful_at}
use Rattle.component_law.specs.KeptWalk.{FileFits}
use Rattle.component_law.proofs.Moments.{allowed_at}
use Rattle.component_law.proofs.Rounds.{each_at}
use Rattle.fence_law.specs.State.{State}
use Rattle.fence_law.specs.State.{Event as event}
use Rattle.fence_law.specs.State.RequestKind.{Return}
use Rattle.fence_law.specs.Machine.{Allowed, Lawful}
use Rattle.file_simulation.specs.Calls.{IsClient}
use Rattle.file_simulation.specs.Relation.{client_of}
use Rattle.file_simulation.specs.Requests.{RequestClass, Own, Other, phase_of, return_class, class_by, class_of, kept_by, kept_for, ClassIs}
use Rattle.file_simulation.specs.ServerEvents.{is_served, returned}
use Rattle.relation_law.specs.Requests.{IsReturning, Works}
use Rattle.relation_law.specs.RequestsClients.{IsGetting, AsksBy, AsksFor}
use Rattle.relation_law.specs.RequestsGoing.{IsItsRequest, MayLaws, CarriesOut}
use Rattle.relation_law.specs.Steps.{Follows}
use Rattle.relation_law.proofs.AskedCalls.{commit_no_get, commit_no_return, is_returning, returns_by}
use Rattle.relation_law.proofs.CallsCarried.{waits_is}
use Rattle.relation_law.proofs.KeptCommits.{asker_low}
use Rattle.relation_law.proofs.KeptGiven.{turn_in, asked_up}
use Rattle.relation_law.proofs.KeptReady.{made_up, fit_by}
use Rattle.relation_law.proofs.OwnedBefore.{fit}
use Rattle.relation_law.proofs.RequestsAsking.{works_due}
use Rattle.relation_law.proofs.RequestsClients.{clients_ask_for}
use Rattle.relation_law.proofs.RequestsGuards.{serves_other_may, frees_may, refuses_may}
use Rattle.relation_law.proofs.RequestsHeard.{heard_in, its_request}
use Rattle.relation_law.proofs.RequestsMay.{carries_out}
use Rattle.relation_law.proofs.RequestsOn.{IsServed, served_is}
use Rattle.relation_law.proofs.ReturnsRight.{RightLaws, returns_at}
use Rattle.headline_law.proofs.ServerAsked.{AskedSo}
use Rattle.headline_law.proofs.ServerCommits.{CommitWaits}
use Rattle.headline_law.proofs.ServerGiven.{GivenLaws, scenario, stands_so}
use Rattle.headline_law.proofs.ServerNamed.{each_report_names_all}
use Rattle.headline_law.proofs.ServerOwn.{StandsSo}
use Rattle.headline_law.proofs.ServerLoss.{IsLoss, loss_row, loss_may}
use Rattle.headline_law.proofs.ServerReturns.{RequestMay, ReturnMay, by_row}

-- what is known of histories, for clients' requests
pub record ClientLaws : Type 0 where
  pub given : GivenLaws
  pub may : MayLaws
  pub right : RightLaws

-- a return's class is that of its call
class_returns : (p : Option Phase) (a : Args) → IsReturning a → class_by p a ≡ return_class p
class_returns p (args.LayoutGet y) i = absurd i
class_returns p (args.LayoutCommit y) i = absurd i
class_returns p (args.LayoutReturn y) i = refl

module _ (laws : ClientLaws) (w : World) (h : List Line) (m : Move) (count : ℕ) (f g : File) (s : State)
    (k : Follows w h m count f g s) (now : ℕ) (q : ClientRequest)
    (comes : input_in w m.action ≡ Some (Hears now (node.Client q.client) (Asks q)))
    (taken : is_served w.server q.client q ≡ true) where
  abbrev c : ℕ
  c = q.client

  abbrev file : ℕ
  file = f.kept.number

  abbrev x : Client
  x = client_of w q.client

  in_files : In f w.server.files
  in_files = in_at w.server.files f.kept.number f k.there

  pub served : IsServed w.server q.client q
  served = served_is w.server q.client q taken

  pub through : IsReadableThrough h
  through =
      laws.may.readable h (lawful_at w h k.moment) (scenario laws.given w h m count f g s k).text
      (scenario laws.given w h m count f g s k).few

  its : IsItsRequest w q.client q
  its =
      its_request w h q.client k.moment (laws.may.in_step w h k.moment q.client) (readable_there w h k.moment through) now q
      served.named (heard_in w m.action (Hears now (node.Client q.client) (Asks q)) comes) served.new

  low : q.client < CLIENTS
  low = asker_low w h k.moment (scenario laws.given w h m count f g s k).text q.client its.request its.outstanding

  pub carries : CarriesOut w s f q.client q
  carries = carries_out laws.may w h m count f g s k now q.client q comes low served

  abbrev r : Request
  r = carries.request

  -- ---- its class

  other_class : (q.file ≡ f.kept.number → ⊥) → class_of f.kept.number x r ≡ Other
  unfolding class_of
  other_class ne =
      ap (λ (b : Bool). if b then class_by (phase_of x.call) r.args else Other)
      (ne_eqb r.file f.kept.number (λ e. ne (carries.reads.file ∙ e)))

  here_class : q.file ≡ f.kept.number → class_of f.kept.number x r ≡ class_by (phase_of x.call) r.args
  unfolding class_of
  here_class here =
      ap (λ (b : Bool). if b then class_by (phase_of x.call) r.args else Other)
      (eq-eqb r.file f.kept.number (sym carries.reads.file ∙ here))

  class_waits : s.waiting q.client ≡ true → class_of f.kept.number x r ≡ Own (s.asked q.client)
  class_waits waits = by (class_of f.kept.number x r) refl carries.waits.waits
    where
      by : (o : RequestClass) → class_of f.kept.number x r ≡ o
          → ClassIs f.kept.map s q.client x (kept_by (slot_of w.server.slots q.client) r) o
          → class_of f.kept.number x r ≡ Own (s.asked q.client)
      by (Own kind) is y = is ∙ ap Own (sym y.asked)
      by Other is y = absurd (true≢false (sym waits ∙ y.waiting))

  class_away : s.waiting q.client ≡ false → class_of f.kept.number x r ≡ Other
  class_away away = by (class_of f.kept.number x r) refl carries.waits.waits
    where
      by : (o : RequestClass) → class_of f.kept.number x r ≡ o
          → ClassIs f.kept.map s q.client x (kept_by (slot_of w.server.slots q.client) r) o
          → class_of f.kept.number x r ≡ Other
      by (Own kind) is y = absurd (true≢false (sym y.waiting ∙ away))
      by Other is y = is

  serves : class_of f.kept.number x r ≡ Other → Allowed s (event.ServesOther q.client)
  serves =
      serves_other_may f.kept.number f.kept.map s q.client x (slot_of w.server.slots q.client) r carries.slot carries.waits
      carries.next

  request_may : RequestMay s q.client
  request_may = record {
    serves = λ away. serves (class_away away);
    frees = λ waits asked.
        frees_may f.kept.number f.kept.map s q.client x (slot_of w.server.slots q.client) r carries.slot carries.waits
        carries.next (class_waits waits ∙ ap Own asked);
    refuses = λ waits asked t stays.
        refuses_may f.kept.number f.kept.map s q.client x (slot_of w.server.slots q.client) r carries.slot carries.waits
        carries.next t stays (Return false) (class_waits waits ∙ ap Own asked) tt;
  }

  -- ---- what the client's call waits for

  asks : AsksFor x
  asks = clients_ask_for w (reached w h k.moment) q.client

  pub asked_by : (op : CallOp) (n : Need) → x.call ≡ Some (record { op = op; phase = Waits n })
      → (r.file ≡ file_of op) × AsksBy n r.args
  asked_by op n call =
      let it = asks.waits op n call in
      let same : it.request ≡ r = same_Some it.request r (sym it.outstanding ∙ carries.outstanding) in
      (ap (λ (z : Request). z.file) (sym same) ∙ it.file_is, subst (λ (z : Request). AsksBy n z.args) same it.asks)

  -- the server has no answer to it yet
  unanswered : kept_for (slot_of w.server.slots q.client) x.outstanding ≡ None
  unanswered = ap (kept_for (slot_of w.server.slots q.client)) carries.outstanding
      ∙ other (slot_of w.server.slots q.client) refl
    where
      other : (o : Option Slot) → slot_of w.server.slots q.client ≡ o → kept_by o r ≡ None
      other None e = refl
      other (Some slot) e =
          let next = carries.next in
          rw (ne_eqb slot.last r.sequence (λ last. absurd (omega (arith, next, ap last_of e ∙ last)))) refl

  pub client : IsClient f.kept.number f.kept.map s q.client x None
  client = subst (IsClient f.kept.number f.kept.map s q.client x) unanswered (k.related.clients q.client low).client

  -- ---- a commit

  module _ (here : q.file ≡ f.kept.number) (last : Option ℕ) (is : q.args ≡ Commits last) where
    told : asked_in r.args ≡ Some (Commits last)
    told = carries.reads.args ∙ ap (λ (z : RequestArgs). Some z) is

    no_get : IsGetting r.args → ⊥
    no_get = commit_no_get r.args last told

    no_return : IsReturning r.args → ⊥
    no_return = commit_no_return r.args last told

    commit_class : class_of f.kept.number x r ≡ Other
    commit_class = here_class here ∙ by r.args refl
      where
        by : (a : Args) → r.args ≡ a → class_by (phase_of x.call) a ≡ Other
        by (args.LayoutCommit y) e = refl
        by (args.LayoutGet y) e = absurd (no_get (subst IsGetting (sym e) tt))
        by (args.LayoutReturn y) e = absurd (no_return (subst IsReturning (sym e) tt))

    by_need : (op : CallOp) (n : Need) → x.call ≡ Some (record { op = op; phase = Waits n }) → CommitWaits s q.client
    by_need op (Commit timed) call =
        let on : (file_of op == f.kept.number) ≡ true =
        eq-eqb (file_of op) f.kept.number (sym (asked_by op (Commit timed) call).0 ∙ sym carries.reads.file ∙ here) in
        let z = waits_is f.kept.number f.kept.map q.client s x op timed call on client (answer_with w.server q
        (says (at_file w.server [] f) 0 0)) in
        record { entry = z.0; at_ = z.1.writing.at_; asked = z.1.writing.commit_is }
    by_need op First call = absurd (no_return (is_returning [] r.args (asked_by op First call).1))
    by_need op (Get tries) call = absurd (no_get (asked_by op (Get tries) call).1)
    by_need op (Report timed) call =
        let it = (asked_by op (Report timed) call).1 in absurd (no_return (is_returning _ r.args it.1))
    by_need op (Close o report) call = absurd (no_return (is_returning report r.args (asked_by op (Close o report) call).1))

    works : (op : CallOp) (p : Phase) → x.call ≡ Some (record { op = op; phase = p }) → Works p → CommitWaits s q.client
    works op p call free =
        absurd (no_return (is_returning [] r.args (works_due x op p call free asks r carries.outstanding)))

    by_phase : (op : CallOp) (p : Phase) → x.call ≡ Some (record { op = op; phase = p }) → CommitWaits s q.client
    by_phase op (Waits n) call = by_need op n call
    by_phase op Starts call = works op Starts call refl
    by_phase op (Needs n) call = works op (Needs n) call refl
    by_phase op (Reads io) call = works op (Reads io) call refl
    by_phase op (Probes io) call = works op (Probes io) call refl
    by_phase op (Gathers io) call = works op (Gathers io) call refl
    by_phase op (Scatters io queue) call = works op (Scatters io queue) call refl

    by_call : (o : Option Call) → x.call ≡ o → CommitWaits s q.client
    by_call None e =
        absurd (no_return (is_returning [] r.args (asks.due (λ op n at. absurd (cc (sym e ∙ at))) r carries.outstanding)))
    by_call (Some call) e = by_phase call.op call.phase e

    commit_so : Allowed s (event.ServesOther q.client) × CommitWaits s q.client
    commit_so = (serves commit_class, by_call x.call refl)

  -- ---- a return

  -- the call that reports what timed out
  pub record ReportsNow : Type 0 where
    pub op : CallOp
    pub timed : List TimedOut
    pub call : x.call ≡ Some (record { op = op; phase = Waits (Report timed) })

  module _ (here : q.file ≡ f.kept.number) (report : List IoErr) (is : q.args ≡ Returns report) where
    told_return : asked_in r.args ≡ Some (Returns report)
    told_return = carries.reads.args ∙ ap (λ (z : RequestArgs). Some z) is

    -- a return that the machine doesn't know as its own reports what timed out
    pub reports_now : s.waiting q.client ≡ false → ReportsNow
    reports_now away =
        by_call_ x.call refl
        (sym (class_returns (phase_of x.call) r.args (returns_by r.args report told_return)) ∙ sym (here_class here)
        ∙ class_away away)
      where
        by_phase_ : (o : CallOp) (p : Phase) → x.call ≡ Some (record { op = o; phase = p }) → return_class (Some p) ≡ Other
            → ReportsNow
        by_phase_ o (Waits (Report timed)) call e = record { op = o; timed = timed; call = call }
        by_phase_ o (Waits (Close u (y ∷ ys))) call e = absurd (cc e)
        by_phase_ o (Waits (Close u [])) call e = absurd (cc e)
        by_phase_ o (Waits First) call e = absurd (cc e)
        by_phase_ o (Waits (Get tries)) call e = absurd (cc e)
        by_phase_ o (Waits (Commit timed)) call e = absurd (cc e)
        by_phase_ o Starts call e = absurd (cc e)
        by_phase_ o (Needs n) call e = absurd (cc e)
        by_phase_ o (Reads io) call e = absurd (cc e)
        by_phase_ o (Probes io) call e = absurd (cc e)
        by_phase_ o (Gathers io) call e = absurd (cc e)
        by_phase_ o (Scatters io queue) call e = absurd (cc e)

        by_call_ : (o : Option Call) → x.call ≡ o → return_class (phase_of o) ≡ Other → ReportsNow
        by_call_ None call e = absurd (cc e)
        by_call_ (Some z) call e = by_phase_ z.op z.phase call e

    pub unheld : held_of x.held f.kept.number ≡ None
    unheld =
        ap (held_of x.held) (sym here ∙ carries.reads.file)
        ∙ asks.gone r carries.outstanding (returns_by r.args report told_return)

    -- no job runs while a client has a grant
    idle : (y : Grant) → grant_of f.kept.grants q.client ≡ Some y → f.job ≡ None
    idle y has = by f.job (safe_in w.server.files (laws.given.safe w (reached w h k.moment)) f in_files).alone
      where
        by : (o : Option Job) → NoneBeside o f.kept.grants → o ≡ None
        by None none = refl
        by (Some j) none = absurd (cc (sym (ap (λ (gs : List Grant). grant_of gs q.client) none) ∙ has))

    abbrev stands : StandsSo w.server.next_grant s w f
    stands = stands_so laws.given w h m count f g s k

    -- a report that is taken as a loss
    loss_so : (ks : List ℕ) → return_row f.kept q.client report ≡ Taken ks
        → Lawful s (event.ServesOther q.client ∷ [])
        → returned s q.client (s.waiting q.client) f
        (ends_grant (takes_loss (at_file w.server m.chosen f) ks) q.client).file ≡ event.ServesOther q.client ∷ []
        → ReturnMay w.server.next_grant s w f stands m.chosen now q report is request_may
        (by_return (at_file w.server m.chosen f) w.server.format q.client (Taken ks))
    loss_so ks row law seen =
        let l : IsLoss f.kept q.client report ks = loss_row f.kept q.client report ks row in
        let rn : ReportsNow = reports_now law.0.free in
        let file : file_of rn.op ≡ f.kept.number =
        sym (asked_by rn.op (Report rn.timed) rn.call).0 ∙ sym carries.reads.file ∙ here in
        loss_may w.server.next_grant s w f stands m.chosen now q report is request_may (idle l.grant l.has) ks l law client
        rn.op rn.timed rn.call (eq-eqb (file_of rn.op) f.kept.number file) unheld
        (λ x i.
        each_report_names_all laws.right.world laws.may.readable w h k.moment (scenario laws.given w h m count f g s k) f
        q.client r rn.op rn.timed report l.grant ks in_files low carries.outstanding (sym carries.reads.file ∙ here)
        rn.call file told_return l.has l.names x i) seen

    return_so : ReturnMay w.server.next_grant s w f stands m.chosen now q report is request_may
        (returns_on (at_file w.server m.chosen f) w.server.format q.client report)
    unfolding returns_on
    return_so =
        by_row w.server.next_grant s w f stands m.chosen now q report is request_may loss_so (return_row f.kept q.client report)
        refl (returns_at laws.right w h m count f g s k now q comes taken here report is)

  -- ---- all of them

  pub asked_so : AskedSo s w f m.chosen now q (stands_so laws.given w h m count f g s k)
  asked_so =
      let turn = turn_in w m.action (Hears now (node.Client q.client) (Asks q))
      (allowed_at w h k.moment m.action k.is_due) comes in
      let fit_ = fit laws.given.fenced.owned w h k.moment (scenario laws.given w h m count f g s k) in
      record {
        carries = carries;
        other = λ ne. serves (other_class ne);
        fits = each_at FileFits w.server.files f.kept.number f
            (fit_by w w.down refl fit_ (Hears now (node.Client q.client) (Asks q)) turn) k.there;
        made = λ none fresh.
            made_up w f (asked_up w (Hears now (node.Client q.client) (Asks q)) turn now q refl) fit_ in_files none;
        commits_so = commit_so;
        returns_so = λ here report is. (request_may, return_so here report is);
      }
