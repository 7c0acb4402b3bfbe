-- Where the server carries out a client's return on the file, the machine has of it what the return's row needs.
-- Towards `KeptGoesOn` (`specs/Steps.antt`).
use Rattle.std.proofs.Common.{◌≡◌, ◌==◌, ◌<◌, ◌≤◌, ◌&&◌, ◌+◌, not, ℕ, suc, Bool, true, false, List, [], ◌∷◌, Option, Some, None, length, take, if◌then◌else◌, refl, sym, ap, subst, ◌∙◌, arith}
use Rattle.std.proofs.lemmas.Bool.{eq-eqb, ne_eqb}
use Rattle.layout_types.specs.declared.ioerrs.IoErr.{IoErr}
use Rattle.layout_ops.specs.declared.args.Args.{Args}
use Rattle.layout_ops.specs.declared.args.Args.TheVariants as args
use Rattle.layout_ops.specs.declared.args.LayoutReturnArgs.{LayoutReturnArgs}
use Rattle.layout_ops.specs.declared.messages.Answer.{Answer}
use Rattle.layout_types.specs.Grammar.{whole}
use Rattle.layout_types.specs.Reading.{update_in}
use Rattle.osd_lists.specs.declared.node.Node.TheVariants as node
use Rattle.scenario_text.specs.declared.line.Line.{Line}
use Rattle.scenario_text.specs.declared.names.TheConstants.{CLIENTS}
use Rattle.server_rules.specs.declared.limits.TheConstants.{GREATEST_TAG}
use Rattle.server_rules.specs.Envelopes.{asked_in}
use Rattle.server_rules.specs.Files.{file_at}
use Rattle.server_rules.specs.Grants.{grant_of}
use Rattle.server_rules.specs.History.{Hears}
use Rattle.server_rules.specs.Laws.{last_of}
use Rattle.server_rules.specs.Messages.{Asks}
use Rattle.server_rules.specs.Return.{Clean, Taken, TooMany, Fencing, return_row, by_grant, by_loss, loss}
use Rattle.server_rules.specs.Slots.{slot_of}
use Rattle.client_rules.specs.Calls.{file_of}
use Rattle.client_rules.specs.Grants.{held_of}
use Rattle.client_rules.specs.Requests.{return_args, report_of}
use Rattle.world_history.specs.ServerNames.{File, Kept, Grant, Slot, RequestArgs, ClientRequest, Return as Returns}
use Rattle.world_history.specs.ClientNames.{Client, Call, CallOp, Held, TimedOut, Request, Need, First, Get, Commit, Report, Close, Phase, Starts, Needs, Waits, Reads, Probes, Gathers, Scatters, Outcome}
use Rattle.world_history.specs.State.{World, ClientAt, at_number}
use Rattle.world_history.specs.Sending.{Move}
use Rattle.history_law.specs.BookMoments.{lines_in}
use Rattle.history_law.specs.Doing.{input_in}
use Rattle.exchange_law.specs.InStep.{state_of}
use Rattle.exchange_law.specs.Meeting.{IsReadableThrough}
use Rattle.exchange_law.specs.Text.{AreOfText, AreFew}
use Rattle.exchange_law.proofs.ClientMoves.{IsKeptByClients, clients_always}
use Rattle.exchange_law.proofs.CountGrowing.{fewer, text_front}
use Rattle.exchange_law.proofs.CountMoments.{reached}
use Rattle.exchange_law.proofs.HeldWorlds.{readable_there}
use Rattle.exchange_law.proofs.Knowing.{lawful_at}
use Rattle.cause_law.specs.Readable.{FilesAndAnswersAreReadable}
use Rattle.cause_law.proofs.Going.{CallShort, ClientShort}
use Rattle.cause_law.proofs.Moving.{none_short}
use Rattle.cause_law.proofs.ReportSteps.{step_short, new_short}
use Rattle.fence_law.specs.State.{State}
use Rattle.fence_law.specs.State.RequestKind.{Return}
use Rattle.file_simulation.specs.Calls.{HeldIs, HoldsNone, HoldsReported, reports_on, is_taken}
use Rattle.file_simulation.specs.Relation.{client_of}
use Rattle.file_simulation.specs.Requests.{Own, phase_of, return_class, class_of, kept_by, kept_for, ClassIs, IsOutstanding, RequestIs, RequestsAgree}
use Rattle.file_simulation.specs.ServerEvents.{is_served}
use Rattle.relation_law.specs.KeptAsked.{ReturnIs, IsClean, IsNothing, IsBroken, IsReport}
use Rattle.relation_law.specs.KeptFollows.{ReturnsAreRight}
use Rattle.relation_law.specs.Requests.{Works, IsReturning}
use Rattle.relation_law.specs.RequestsClients.{IsReturnOf, IsGetting, IsCommitting, AsksBy, AsksFor}
use Rattle.relation_law.specs.RequestsGoing.{IsItsRequest}
use Rattle.relation_law.specs.Returns.{error_read, report_read, SomeTimedOut, CantBeBorne, CallReports}
use Rattle.relation_law.specs.Steps.{Follows}
use Rattle.relation_law.proofs.KeptCommits.{asker_low}
use Rattle.relation_law.proofs.RequestsAsking.{works_due}
use Rattle.relation_law.proofs.RequestsClients.{clients_ask_for}
use Rattle.relation_law.proofs.RequestsHeard.{heard_in, its_request}
use Rattle.relation_law.proofs.RequestsOn.{served_is}
use Rattle.relation_law.proofs.RequestsServed.{commit_read}
use Rattle.relation_law.proofs.ReturnsNamed.{never_taken}
use Rattle.relation_law.proofs.ReturnsRead.{read_report, read_some}
use Rattle.relation_law.proofs.ReturnsStands.{ReturnsLaws, Reports, reports_stand}

-- ---- a client's reports are short

pub short_kept : IsKeptByClients (λ n x. ClientShort x)
short_kept = record {
  more = λ n k x s. s;
  made = λ n number. new_short number 1;
  steps = λ n x i number wrote logged s. step_short x i s;
}

-- ---- rows

-- a return with an entry isn't clean
not_clean : (k : Kept) (c : ℕ) (report : List IoErr) → (report ≡ [] → ⊥) → return_row k c report ≡ Clean → ⊥
unfolding return_row
not_clean k c [] some row = some refl
not_clean k c (e ∷ es) some row = by (grant_of k.grants c) row
  where
    by_test : (b : Bool) → (if b then TooMany else Fencing) ≡ Clean → ⊥
    by_test true x = cc x
    by_test false x = cc x

    lost : (o : Option (List ℕ)) → by_loss k o ≡ Clean → ⊥
    lost (Some ks) x = cc x
    lost None x = by_test (k.tag == GREATEST_TAG) x

    by : (o : Option Grant) → by_grant k (e ∷ es) o ≡ Clean → ⊥
    by None x = cc x
    by (Some g) x = lost (loss k g (e ∷ es)) x

-- one without is, or there is no grant
clean_row : (s : State) (k : Kept) (c : ℕ) (report : List IoErr) → report ≡ [] → s.waiting c ≡ true
    → s.asked c ≡ Return true → ReturnIs s c (return_row k c report)
unfolding return_row
clean_row s k c report none waits asked_ =
    subst (λ (es : List IoErr). ReturnIs s c (by_grant k es (grant_of k.grants c))) (sym none) (by (grant_of k.grants c))
  where
    by : (o : Option Grant) → ReturnIs s c (by_grant k [] o)
    by None = IsNothing waits asked_ refl
    by (Some g) = IsClean waits asked_ refl

-- ---- what the server keeps of a request that it carries out

unkept : (t : Option Slot) (r : Request) → last_of t + 1 ≡ r.sequence → kept_by t r ≡ None
unkept None r next = refl
unkept (Some t) r next = rw (ne_eqb t.last r.sequence (λ e. absurd (omega (arith, e, next)))) refl

-- ---- a return that is read

-- what the server reads as a return is one
pub return_asked : (a : Args) (report : List IoErr) → asked_in a ≡ Some (Returns report)
    → (z : LayoutReturnArgs) × (a ≡ args.LayoutReturn z)
return_asked (args.LayoutGet g) report e = absurd (cc e)
return_asked (args.LayoutReturn z) report e = (z, refl)
return_asked (args.LayoutCommit z) report e =
    absurd (cc (sym (commit_read z.last_write_offset (whole update_in z.body) (Returns report) e)))

pub read_of : (es report : List IoErr) (a : Args) → IsReturnOf es a → asked_in a ≡ Some (Returns report)
    → asked_in (return_args 0 es) ≡ Some (Returns report)
read_of es report a of e = subst (λ (z : Args). asked_in z ≡ Some (Returns report)) of.1 e

as_many : (h : Held) (ts : List TimedOut) → length (report_of h ts) ≡ length ts
unfolding report_of
as_many h [] = refl
as_many h (t ∷ ts) = ap (λ (n : ℕ). suc n) (as_many h ts)

-- a report of some components is read as one of some
some_reported : (h : Held) (ts : List TimedOut) (report : List IoErr) → SomeTimedOut ts → length ts ≤ 64
    → asked_in (return_args 0 (report_of h ts)) ≡ Some (Returns report) → report ≡ [] → ⊥
some_reported h ts report some few told =
    by (report_of h ts) (as_many h ts) told
  where
    by : (es : List IoErr) → length es ≡ length ts → asked_in (return_args 0 es) ≡ Some (Returns report) → report ≡ [] → ⊥
    by [] long t none = no_length ts some long
      where
        no_length : (us : List TimedOut) → SomeTimedOut us → length {A = IoErr} [] ≡ length us → ⊥
        no_length [] some_ l = some_
        no_length (u ∷ us) some_ l = cc l
    by (e ∷ es) long t none = read_some e es report (omega (arith, long, few)) t none

-- ---- at a move

-- what is known of the world
pub record RightLaws : Type 0 where
  pub world : ReturnsLaws
  pub readable : FilesAndAnswersAreReadable

module _ (laws : RightLaws) (w : World) (h : List Line) (m : Move) (count : ℕ) (f g : File) (s : State)
    (k : Follows w h m count f g s)
    (now : ℕ) (q : ClientRequest) (is : input_in w m.action ≡ Some (Hears now (node.Client q.client) (Asks q)))
    (served : is_served w.server q.client q ≡ true) (here : q.file ≡ f.kept.number) (report : List IoErr)
    (args_are : q.args ≡ Returns report) where
  abbrev c : ℕ
  c = q.client

  abbrev x : Client
  x = client_of w c

  abbrev t : Option Slot
  t = slot_of w.server.slots c

  text : AreOfText h
  text = text_front h (take count (lines_in w m)) k.calm.scenario.text

  few : AreFew h
  few = fewer h (take count (lines_in w m)) k.calm.scenario.few

  through : IsReadableThrough h
  through = laws.readable h (lawful_at w h k.moment) text few

  its : IsItsRequest w c q
  its =
      let takes = served_is w.server c q served in
      its_request w h c k.moment (laws.world.in_step w h k.moment c)
      (readable_there w h k.moment through) now q takes.named
      (heard_in w m.action (Hears now (node.Client c) (Asks q)) is) takes.new

  abbrev r : Request
  r = its.request

  on_file : r.file ≡ f.kept.number
  on_file = sym its.reads.file ∙ here

  told : asked_in r.args ≡ Some (Returns report)
  told = its.reads.args ∙ ap (λ (a : RequestArgs). Some a) args_are

  asks : AsksFor x
  asks = clients_ask_for w (reached w h k.moment) c

  low : c < CLIENTS
  low = asker_low w h k.moment text c r its.outstanding

  reports : Reports w.server c x
  reports = reports_stand laws.world w h k.moment through c

  short : ClientShort x
  short = by (at_number w.clients c) refl
    where
      by : (o : Option ClientAt) → at_number w.clients c ≡ o → ClientShort (state_of c o)
      by None found = new_short c 1
      by (Some a) found = clients_always (λ n y. ClientShort y) short_kept w (reached w h k.moment) c a found

  -- what it is to the machine
  waits : (o : Option Call) → x.call ≡ o → ClassIs f.kept.map s c x (kept_by t r) (return_class (phase_of o))
  unfolding class_of
  waits o call =
      let a = return_asked r.args report told in
      let agree : RequestsAgree f.kept.number f.kept.map s w.server c x = (k.related.clients c low).slot in
      let out : IsOutstanding f.kept.number f.kept.map s t c x r =
      subst (λ (z : Option Request). RequestIs f.kept.number f.kept.map s t c x z) its.outstanding agree.request in
      rw (eq-eqb r.file f.kept.number on_file, a.1, call) at out.waits

  -- a clean return
  clean : (o : Option Call) → x.call ≡ o → return_class (phase_of o) ≡ Own (Return true) → IsReturnOf [] r.args
      → ReturnIs s c (return_row f.kept c report)
  clean o call class of =
      let y = subst (ClassIs f.kept.map s c x (kept_by t r)) class (waits o call) in
      clean_row s f.kept c report (read_report [] report none_short (read_of [] report r.args of told)) y.waiting y.asked

  -- one of a write that broke off
  broken : (op : CallOp) (u : Outcome) (e : IoErr) (es : List IoErr)
      → x.call ≡ Some (record { op = op; phase = Waits (Close u (e ∷ es)) }) → IsReturnOf (e ∷ es) r.args
      → file_of op ≡ f.kept.number → ReturnIs s c (return_row f.kept c report)
  broken op u e es call of file =
      let y = waits (Some (record { op = op; phase = Waits (Close u (e ∷ es)) })) call in
      let short_ = subst CallShort call short.call in
      let is_read : report ≡ report_read (e ∷ es) =
      read_report (e ∷ es) report short_ (read_of (e ∷ es) report r.args of told) in
      let borne : CantBeBorne w.server c (file_of op) (report_read (e ∷ es)) =
      (subst (CallReports (λ (b : CallOp) (z : List IoErr). CantBeBorne w.server c (file_of b) (report_read z)) x.held) call
      reports).reports.1 in
      let row : (ks : List ℕ) → return_row f.kept c (report_read (e ∷ es)) ≡ Taken ks → ⊥ =
      never_taken f.kept c (error_read e) (report_read es) (λ grant has. borne f grant
      (subst (λ (n : ℕ). file_at w.server.files n ≡ Some f) (sym file) k.there) has) in
      IsBroken y.waiting y.asked (not_clean f.kept c report (λ none. cc (sym is_read ∙ none)))
      (λ ks taken. row ks (ap (return_row f.kept c) (sym is_read) ∙ taken))

  -- one that may be taken as a loss
  reported : (op : CallOp) (timed : List TimedOut) → x.call ≡ Some (record { op = op; phase = Waits (Report timed) })
      → (hh : Held) → IsReturnOf (report_of hh timed) r.args → file_of op ≡ f.kept.number
      → ReturnIs s c (return_row f.kept c report)
  reported op timed call hh of file =
      let y = waits (Some (record { op = op; phase = Waits (Report timed) })) call in
      let few_ : length timed ≤ 64 = subst CallShort call short.call in
      let some : SomeTimedOut timed =
      (subst (CallReports (λ (b : CallOp) (z : List IoErr). CantBeBorne w.server c (file_of b) (report_read z)) x.held) call
      reports).reports in
      let none : held_of x.held f.kept.number ≡ None =
      ap (held_of x.held) (sym on_file)
      ∙ asks.gone r its.outstanding (subst IsReturning (sym of.1) tt) in
      let o : Option Answer = kept_for t x.outstanding in
      let kept : kept_for t x.outstanding ≡ None =
      ap (kept_for t) its.outstanding ∙ unkept t r (sym its.next ∙ its.reads.sequence) in
      let flag : (reports_on f.kept.number x.call && not (is_taken (kept_for t x.outstanding))) ≡ true =
      rw (call, kept, eq-eqb (file_of op) f.kept.number file) refl in
      let held : HoldsNone s c x.outstanding (reports_on f.kept.number x.call && not (is_taken (kept_for t x.outstanding))) =
      subst (HeldIs f.kept.number f.kept.map s c x (kept_for t x.outstanding)) none
      (k.related.clients c low).client.held in
      let holds : HoldsReported s c x.outstanding = subst (HoldsNone s c x.outstanding) flag held in
      IsReport y.waiting
      (not_clean f.kept c report (some_reported hh timed report some few_ (read_of (report_of hh timed) report r.args of told)))
      holds.grant holds.held

  -- ---- by the call

  by_need : (op : CallOp) (n : Need) → x.call ≡ Some (record { op = op; phase = Waits n }) → AsksBy n r.args
      → file_of op ≡ f.kept.number → ReturnIs s c (return_row f.kept c report)
  by_need op First call a file = clean (Some (record { op = op; phase = Waits First })) call refl a
  by_need op (Get tries) call a file =
      let z = return_asked r.args report told in absurd (subst IsGetting z.1 a)
  by_need op (Commit timed) call a file =
      let z = return_asked r.args report told in absurd (subst IsCommitting z.1 a)
  by_need op (Report timed) call a file = reported op timed call a.0 a.1 file
  by_need op (Close u []) call a file = clean (Some (record { op = op; phase = Waits (Close u []) })) call refl a
  by_need op (Close u (e ∷ es)) call a file = broken op u e es call a file

  works : (op : CallOp) (p : Phase) → x.call ≡ Some (record { op = op; phase = p }) → Works p
      → return_class (Some p) ≡ Own (Return true) → ReturnIs s c (return_row f.kept c report)
  works op p call free class =
      clean (Some (record { op = op; phase = p })) call class (works_due x op p call free asks r its.outstanding)

  by_phase : (op : CallOp) (p : Phase) → x.call ≡ Some (record { op = op; phase = p })
      → ReturnIs s c (return_row f.kept c report)
  by_phase op (Waits n) call =
      let a = asks.waits op n call in
      let same : a.request ≡ r = cc (sym a.outstanding ∙ its.outstanding) in
      by_need op n call (subst (λ (z : Request). AsksBy n z.args) same a.asks)
      (sym a.file_is ∙ ap (λ (z : Request). z.file) same ∙ on_file)
  by_phase op Starts call = works op Starts call refl refl
  by_phase op (Needs n) call = works op (Needs n) call refl refl
  by_phase op (Reads io) call = works op (Reads io) call refl refl
  by_phase op (Probes io) call = works op (Probes io) call refl refl
  by_phase op (Gathers io) call = works op (Gathers io) call refl refl
  by_phase op (Scatters io queue) call = works op (Scatters io queue) call refl refl

  by_call : (o : Option Call) → x.call ≡ o → ReturnIs s c (return_row f.kept c report)
  by_call None call =
      clean None call refl (asks.due (λ op n at. absurd (cc (sym call ∙ at))) r its.outstanding)
  by_call (Some call) at = by_phase call.op call.phase at

-- Returns are as the machine has them, at any cut of the move.
pub returns_at : RightLaws → (w : World) (h : List Line) (m : Move) (count : ℕ) (f g : File) (s : State)
    → Follows w h m count f g s → (now : ℕ) (q : ClientRequest)
    → input_in w m.action ≡ Some (Hears now (node.Client q.client) (Asks q)) → is_served w.server q.client q ≡ true
    → q.file ≡ f.kept.number → (report : List IoErr) → q.args ≡ Returns report
    → ReturnIs s q.client (return_row f.kept q.client report)
returns_at laws w h m count f g s k now q is served here report args_are =
    by_call laws w h m count f g s k now q is served here report args_are (client_of w q.client).call refl

pub returns_are_right : RightLaws → ReturnsAreRight
returns_are_right laws w h m f g s k now q is served here report args_are =
    returns_at laws w h m (length (lines_in w m)) f g s k.follows now q is served here report args_are
