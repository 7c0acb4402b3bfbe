-- A report that is new, and taken as a loss, returns the grant that the server has there: `ReturnsAreLive` (`LossOthers.antt`).
use Rattle.std.proofs.Common.{◌≡◌, ◌≤◌, ◌<◌, ◌^◌, ℕ, true, List, [], ◌∷◌, take, Some, inl, inr, refl, sym, ap, subst, ◌∙◌, arith}
use Rattle.osd_lists.specs.declared.node.Node.TheVariants as node
use Rattle.layout_types.specs.declared.ioerrs.IoErr.{IoErr}
use Rattle.layout_ops.specs.declared.args.Args.{Args}
use Rattle.layout_ops.specs.declared.args.Args.TheVariants as args
use Rattle.layout_ops.specs.declared.messages.Request.{Request}
use Rattle.scenario_text.specs.declared.line.Line.{Line}
use Rattle.client_rules.specs.Calls.{file_of}
use Rattle.client_rules.specs.Requests.{grant_in, return_args, stateid_of}
use Rattle.server_rules.specs.declared.limits.TheConstants.{GREATEST_GRANT}
use Rattle.server_rules.specs.Files.{file_at}
use Rattle.server_rules.specs.History.{Input, Hears}
use Rattle.server_rules.specs.Laws.{In}
use Rattle.server_rules.specs.Messages.{Asks}
use Rattle.server_rules.specs.Slots.{Admit, New, Again, Misordered, admit, slot_of}
use Rattle.server_rules.proofs.FileLaws.{file_in}
use Rattle.world_history.specs.declared.messages.Message.{Message}
use Rattle.world_history.specs.Calm.{returned_in}
use Rattle.world_history.specs.ClientNames.{CallOp, TimedOut, Report, Waits}
use Rattle.world_history.specs.ServerNames.{File, ClientRequest}
use Rattle.world_history.specs.Sending.{Move}
use Rattle.world_history.specs.State.{World}
use Rattle.history_law.specs.Doing.{input_in}
use Rattle.history_law.specs.Moments.{lines_in}
use Rattle.component_law.proofs.Server.{grant_in as grant_there}
use Rattle.exchange_law.specs.Doing.{said}
use Rattle.exchange_law.specs.Files.{AllFilesFit, GrantFits, KeptFits}
use Rattle.exchange_law.specs.Held.{Agrees}
use Rattle.exchange_law.specs.InStep.{IsInStep}
use Rattle.exchange_law.specs.Meeting.{IsReadableThrough}
use Rattle.exchange_law.specs.Messages.{EachMessage, AsksOf, WasAsked}
use Rattle.exchange_law.proofs.CountGrowing.{fewer, text_front}
use Rattle.exchange_law.proofs.HeldWorlds.{readable_there}
use Rattle.exchange_law.proofs.Knowing.{lawful_at}
use Rattle.exchange_law.proofs.Parts.{each_in}
use Rattle.exchange_law.proofs.RefusalTelling.{grant_read}
use Rattle.cause_law.specs.Readable.{FilesAndAnswersAreReadable}
use Rattle.fence_law.specs.State.{State}
use Rattle.file_simulation.specs.Relation.{client_of}
use Rattle.file_simulation.specs.ServerEvents.{is_new}
use Rattle.file_simulation.specs.Showing.{Pairs}
use Rattle.relation_law.specs.Requests.{IsReturning}
use Rattle.relation_law.specs.RequestsGoing.{IsItsRequest}
use Rattle.relation_law.proofs.RequestsHeard.{heard_in, its_request}
use Rattle.relation_law.proofs.ReturnsStands.{ReturnsLaws}
use Rattle.headline_law.specs.Parts.{CutShown}
use Rattle.headline_law.proofs.EntriesServerAgain.{ReturnsAreAsked}
use Rattle.headline_law.proofs.EntriesServerLoss.{TakesLoss}
use Rattle.headline_law.proofs.LossOthers.{ReturnsAreLive}
use Rattle.headline_law.proofs.LossOthersNamed.{NamesGrant, names_stand}

-- what is known of the world
pub record LiveLaws : Type 0 where
  pub world : ReturnsLaws
  pub readable : FilesAndAnswersAreReadable
  pub fits : AllFilesFit

-- the client's call waits for the answer to a report on the request's file
pub record WaitsReport (w : World) (c file : ℕ) : Type 0 where
  pub op : CallOp
  pub timed : List TimedOut
  pub call : (client_of w c).call ≡ Some (record { op = op; phase = Waits (Report timed) })
  pub file_is : file_of op ≡ file

-- What is taken as a loss is such a report, where the request is new.
abbrev pub LossesAreReports : Type 0
LossesAreReports =
    (w : World) (h : List Line) (m : Move) (count : ℕ) (f g : File) (s : State) (pairs : Pairs) →
    CutShown w h m count f g s pairs → (i : Input) → input_in w m.action ≡ Some i → (loss : TakesLoss w.server m.chosen i) →
    is_new (admit (slot_of w.server.slots loss.request.client) loss.request.sequence) ≡ true →
    WaitsReport w loss.request.client loss.request.file

pub new_is : (a : Admit) → is_new a ≡ true → a ≡ New
new_is New e = refl
new_is (Again kept) e = absurd (cc e)
new_is (Misordered expected) e = absurd (cc e)

pub each_said : (P : Message → Type 0) (ms : List Message) (x : Message) → EachMessage P ms → In x ms → P x
each_said P [] x k i = absurd i
each_said P (y ∷ ms) x k (inl e) = subst P (sym e) k.0
each_said P (y ∷ ms) x k (inr i) = each_said P ms x k.1 i

returning : (a : Args) (n : ℕ) → returned_in a ≡ Some n → IsReturning a
returning (args.LayoutReturn r) n e = tt
returning (args.LayoutGet r) n e = absurd (cc e)
returning (args.LayoutCommit r) n e = absurd (cc e)

same_some : (a b : ℕ) → Some a ≡ Some b → a ≡ b
same_some a b e = cc e

returns_it : (n : ℕ) (report : List IoErr) (a : Args) (number : ℕ) → a ≡ return_args n report → returned_in a ≡ Some number →
    grant_in (stateid_of n) ≡ number
returns_it n report a number is e = same_some (grant_in (stateid_of n)) number (sym (ap returned_in is) ∙ e)

pub returns_are_live : LiveLaws → ReturnsAreAsked → LossesAreReports → ReturnsAreLive
returns_are_live laws asked reports w h m count f g s pairs k i is loss d new x there y has number at_ =
    let q : ClientRequest = loss.request in
    let c : ℕ = q.client in
    let fo = k.shown.follows in
    let text = text_front h (take count (lines_in w m)) fo.calm.scenario.text in
    let few = fewer h (take count (lines_in w m)) fo.calm.scenario.few in
    let through : IsReadableThrough h = laws.readable h (lawful_at w h fo.moment) text few in
    let step : IsInStep w h c (client_of w c) = laws.world.in_step w h fo.moment c in
    let its : IsItsRequest w c q =
    its_request w h c fo.moment step (readable_there w h fo.moment through) loss.now q loss.asked.named
    (heard_in w m.action (Hears loss.now (node.Client c) (Asks q)) (is ∙ ap (λ (j : Input). Some j) loss.asked.is))
    (new_is (admit (slot_of w.server.slots c) q.sequence) new) in
    let z = asked w h m count f g s pairs k i is loss d number at_ in
    let was : WasAsked (client_of w c) z.0 =
    each_said (AsksOf c (client_of w c)) (said w.network.messages) _ step.asks z.1 refl refl in
    let same : z.0 ≡ its.request = was.outstanding its.request its.outstanding (z.2 ∙ its.reads.sequence) in
    let names : returned_in its.request.args ≡ Some number = ap (λ (r : Request). returned_in r.args) (sym same) ∙ z.3 in
    let p = reports w h m count f g s pairs k i is loss new in
    let n : NamesGrant w.server c (file_of p.op) its.request =
    names_stand laws.world w h fo.moment through c p.op p.timed its.request p.call its.outstanding
    (returning its.request.args number names) in
    let a : Agrees x.kept.map y n.held =
    n.agrees x y (subst (λ (file : ℕ). file_at w.server.files file ≡ Some x) (sym p.file_is) there) has in
    let kept : KeptFits w.server.next_object x.kept =
    each_in (λ (v : File). KeptFits w.server.next_object v.kept) w.server.files x (laws.fits w h fo.moment text)
    (file_in w.server.files q.file x there) in
    let fit : GrantFits x.kept.number x.kept.map y =
    each_in (GrantFits x.kept.number x.kept.map) x.kept.grants y kept.grants
    (grant_there x.kept.grants c y has).0 in
    let most : y.number ≤ GREATEST_GRANT = fit.number in
    let low : n.held.number < 2 ^ 32 = omega (arith, most, a.number) in
    let told : grant_in (stateid_of n.held.number) ≡ number =
    returns_it n.held.number n.report its.request.args number n.args_are names in
    sym a.number ∙ sym (grant_read n.held.number low) ∙ told
