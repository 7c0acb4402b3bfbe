-- A new request that is taken as a loss is the report that its client's call waits to be answered: `LossesAreReports`
-- (`LossOthersLive.antt`).
use Rattle.std.proofs.Common.{◌≡◌, ℕ, true, List, [], ◌∷◌, take, Option, Some, None, refl, sym, ap, subst, ◌∙◌}
use Rattle.osd_lists.specs.declared.node.Node.TheVariants as node
use Rattle.layout_types.specs.declared.ioerrs.IoErr.{IoErr}
use Rattle.layout_ops.specs.declared.messages.Request.{Request}
use Rattle.scenario_text.specs.declared.line.Line.{Line}
use Rattle.client_rules.specs.Calls.{file_of}
use Rattle.server_rules.specs.Envelopes.{asked_in}
use Rattle.server_rules.specs.Files.{file_at}
use Rattle.server_rules.specs.Grants.{grant_of}
use Rattle.server_rules.specs.History.{Input, Hears}
use Rattle.server_rules.specs.Messages.{Asks}
use Rattle.server_rules.specs.Return.{Taken, by_grant, return_row}
use Rattle.server_rules.specs.Slots.{admit, slot_of}
use Rattle.world_history.specs.ClientNames.{Client, Call, CallOp, Need, First, Get, Commit, Report, Close, Phase, Starts, Needs, Waits, Reads, Probes, Gathers, Scatters, Outcome}
use Rattle.world_history.specs.ServerNames.{File, Grant, Kept, ClientRequest, RequestArgs, Return as Returns}
use Rattle.world_history.specs.Sending.{Move}
use Rattle.world_history.specs.State.{World, ClientAt, at_number}
use Rattle.history_law.specs.Doing.{input_in}
use Rattle.history_law.specs.Moments.{lines_in}
use Rattle.exchange_law.specs.InStep.{state_of}
use Rattle.exchange_law.specs.Meeting.{IsReadableThrough}
use Rattle.exchange_law.proofs.ClientMoves.{clients_always}
use Rattle.exchange_law.proofs.CountGrowing.{fewer, text_front}
use Rattle.exchange_law.proofs.HeldWorlds.{readable_there, reached}
use Rattle.exchange_law.proofs.Knowing.{lawful_at}
use Rattle.cause_law.proofs.Going.{CallShort, ClientShort}
use Rattle.cause_law.proofs.Moving.{none_short}
use Rattle.cause_law.proofs.ReportSteps.{new_short}
use Rattle.fence_law.specs.State.{State}
use Rattle.file_simulation.specs.Relation.{client_of}
use Rattle.file_simulation.specs.ServerEvents.{is_new}
use Rattle.file_simulation.specs.Showing.{Pairs}
use Rattle.relation_law.specs.Requests.{Works}
use Rattle.relation_law.specs.RequestsClients.{IsReturnOf, IsGetting, IsCommitting, AsksBy, AsksFor}
use Rattle.relation_law.specs.RequestsGoing.{IsItsRequest}
use Rattle.relation_law.specs.Returns.{error_read, report_read, CantBeBorne, CallReports}
use Rattle.relation_law.proofs.RequestsAsking.{works_due}
use Rattle.relation_law.proofs.RequestsClients.{clients_ask_for}
use Rattle.relation_law.proofs.RequestsHeard.{heard_in, its_request}
use Rattle.relation_law.proofs.ReturnsNamed.{never_taken}
use Rattle.relation_law.proofs.ReturnsRead.{read_report}
use Rattle.relation_law.proofs.ReturnsRight.{short_kept, return_asked, read_of}
use Rattle.relation_law.proofs.ReturnsStands.{Reports, reports_stand}
use Rattle.headline_law.specs.Parts.{CutShown}
use Rattle.headline_law.proofs.EntriesServerLoss.{TakesLoss}
use Rattle.headline_law.proofs.EntriesServerAgain.{ReturnsAreAsked, OthersAreApart}
use Rattle.headline_law.proofs.LossOthers.{IsLive, loss_live, others_are_apart}
use Rattle.headline_law.proofs.LossOthersLive.{LiveLaws, WaitsReport, LossesAreReports, new_is, returns_are_live}

-- a clean return is never taken as a loss
clean_untaken : (k : Kept) (c : ℕ) (report : List IoErr) (ks : List ℕ) → report ≡ [] → return_row k c report ≡ Taken ks → ⊥
unfolding return_row
clean_untaken k c report ks none row =
    by (grant_of k.grants c) (subst (λ (es : List IoErr). by_grant k es (grant_of k.grants c) ≡ Taken ks) none row)
  where
    by : (o : Option Grant) → by_grant k [] o ≡ Taken ks → ⊥
    by None e = cc e
    by (Some g) e = cc e

module _ (laws : LiveLaws) (w : World) (h : List Line) (m : Move) (count : ℕ) (f g : File) (s : State) (pairs : Pairs)
    (k : CutShown w h m count f g s pairs) (i : Input) (is : input_in w m.action ≡ Some i)
    (loss : TakesLoss w.server m.chosen i)
    (new : is_new (admit (slot_of w.server.slots loss.request.client) loss.request.sequence) ≡ true) where
  abbrev q : ClientRequest
  q = loss.request

  abbrev c : ℕ
  c = q.client

  abbrev x : Client
  x = client_of w c

  through : IsReadableThrough h
  through =
      laws.readable h (lawful_at w h k.shown.follows.moment)
      (text_front h (take count (lines_in w m)) k.shown.follows.calm.scenario.text)
      (fewer h (take count (lines_in w m)) k.shown.follows.calm.scenario.few)

  its : IsItsRequest w c q
  its =
      its_request w h c k.shown.follows.moment (laws.world.in_step w h k.shown.follows.moment c)
      (readable_there w h k.shown.follows.moment through) loss.now q loss.asked.named
      (heard_in w m.action (Hears loss.now (node.Client c) (Asks q)) (is ∙ ap (λ (j : Input). Some j) loss.asked.is))
      (new_is (admit (slot_of w.server.slots c) q.sequence) new)

  abbrev r : Request
  r = its.request

  live : IsLive w.server q
  live = loss_live w.server m.chosen i loss new

  abbrev report : List IoErr
  report = live.granted.report

  told : asked_in r.args ≡ Some (Returns report)
  told = its.reads.args ∙ ap (λ (a : RequestArgs). Some a) live.granted.args_are

  asks : AsksFor x
  asks = clients_ask_for w (reached w h k.shown.follows.moment) c

  reports : Reports w.server c x
  reports = reports_stand laws.world w h k.shown.follows.moment through c

  short : ClientShort x
  short = by (at_number w.clients c) refl
    where
      by : (o : Option ClientAt) → at_number w.clients c ≡ o → ClientShort (state_of c o)
      by None found = new_short c 1
      by (Some a) found =
          clients_always (λ n y. ClientShort y) short_kept w (reached w h k.shown.follows.moment) c a found

  clean : IsReturnOf [] r.args → WaitsReport w c q.file
  clean of =
      absurd (clean_untaken live.file.kept c report live.granted.components
      (read_report [] report none_short (read_of [] report r.args of told)) live.granted.row)

  broken : (op : CallOp) (u : Outcome) (e : IoErr) (es : List IoErr) →
      x.call ≡ Some (record { op = op; phase = Waits (Close u (e ∷ es)) }) → IsReturnOf (e ∷ es) r.args →
      file_of op ≡ q.file → WaitsReport w c q.file
  broken op u e es call of file =
      let short_ = subst CallShort call short.call in
      let is_read : report ≡ report_read (e ∷ es) =
      read_report (e ∷ es) report short_ (read_of (e ∷ es) report r.args of told) in
      let borne : CantBeBorne w.server c (file_of op) (report_read (e ∷ es)) =
      (subst (CallReports (λ (b : CallOp) (z : List IoErr). CantBeBorne w.server c (file_of b) (report_read z)) x.held) call
      reports).reports.1 in
      absurd (never_taken live.file.kept c (error_read e) (report_read es) (λ grant has. borne live.file grant
      (subst (λ (n : ℕ). file_at w.server.files n ≡ Some live.file) (sym file) live.there) has) live.granted.components
      (ap (return_row live.file.kept c) (sym is_read) ∙ live.granted.row))

  by_need : (op : CallOp) (n : Need) → x.call ≡ Some (record { op = op; phase = Waits n }) → AsksBy n r.args →
      file_of op ≡ q.file → WaitsReport w c q.file
  by_need op First call a file = clean a
  by_need op (Get tries) call a file = let z = return_asked r.args report told in absurd (subst IsGetting z.1 a)
  by_need op (Commit timed) call a file = let z = return_asked r.args report told in absurd (subst IsCommitting z.1 a)
  by_need op (Report timed) call a file = record { op = op; timed = timed; call = call; file_is = file }
  by_need op (Close u []) call a file = clean a
  by_need op (Close u (e ∷ es)) call a file = broken op u e es call a file

  works : (op : CallOp) (p : Phase) → x.call ≡ Some (record { op = op; phase = p }) → Works p → WaitsReport w c q.file
  works op p call free = clean (works_due x op p call free asks r its.outstanding)

  by_phase : (op : CallOp) (p : Phase) → x.call ≡ Some (record { op = op; phase = p }) → WaitsReport w c q.file
  by_phase op (Waits n) call =
      let a = asks.waits op n call in
      let same : a.request ≡ r = cc (sym a.outstanding ∙ its.outstanding) in
      by_need op n call (subst (λ (z : Request). AsksBy n z.args) same a.asks)
      (sym a.file_is ∙ ap (λ (z : Request). z.file) same ∙ sym its.reads.file)
  by_phase op Starts call = works op Starts call refl
  by_phase op (Needs n) call = works op (Needs n) call refl
  by_phase op (Reads io) call = works op (Reads io) call refl
  by_phase op (Probes io) call = works op (Probes io) call refl
  by_phase op (Gathers io) call = works op (Gathers io) call refl
  by_phase op (Scatters io queue) call = works op (Scatters io queue) call refl

  by_call : (o : Option Call) → x.call ≡ o → WaitsReport w c q.file
  by_call None call = clean (asks.due (λ op n at. absurd (cc (sym call ∙ at))) r its.outstanding)
  by_call (Some call) at = by_phase call.op call.phase at

pub losses_are_reports : LiveLaws → LossesAreReports
losses_are_reports laws w h m count f g s pairs k i is loss new =
    by_call laws w h m count f g s pairs k i is loss new (client_of w loss.request.client).call refl

-- So writes under a grant that is returned on another file are none of this one's.
pub others_hold : LiveLaws → ReturnsAreAsked → OthersAreApart
others_hold laws asked = others_are_apart (returns_are_live laws asked (losses_are_reports laws))
