-- At each moment a client's report names each component that timed out, if the server has the client's grant, and each entry
-- names a component: `EachReportNamesAll` (`specs/ServerWorlds.antt`).
use Rattle.std.proofs.Common.{◌≡◌, ◌≤◌, ℕ, true, List, [], ◌∷◌, length, Some, refl, sym, ap, subst, ◌∙◌}
use Rattle.layout_types.specs.declared.ioerrs.IoErr.{IoErr}
use Rattle.scenario_text.specs.declared.line.Line.{Line}
use Rattle.client_rules.specs.Calls.{file_of}
use Rattle.client_rules.specs.Grants.{held_of}
use Rattle.client_rules.specs.History.{Input, step as client_step}
use Rattle.client_rules.specs.Requests.{object_of, error_at, return_args, report_of}
use Rattle.server_rules.specs.Envelopes.{asked_in}
use Rattle.server_rules.specs.Files.{file_at}
use Rattle.server_rules.specs.Laws.{In}
use Rattle.server_rules.specs.Numbers.{among}
use Rattle.server_rules.specs.Return.{named}
use Rattle.world_history.specs.ClientNames.{Client, CallOp, Held, Request, TimedOut, Report, Waits}
use Rattle.world_history.specs.ServerNames.{Server, Kept, Return as Returns}
use Rattle.world_history.specs.State.{World, ClientAt, at_number}
use Rattle.history_law.specs.Moments.{IsMoment}
use Rattle.component_law.proofs.PartyKeeping.{IsAlike}
use Rattle.cause_law.specs.Reports.{report_read}
use Rattle.cause_law.proofs.Going.{FoundShort, CallShort, ClientShort, found_short}
use Rattle.cause_law.proofs.Lengths.{ReportShort}
use Rattle.cause_law.proofs.Moving.{report_short}
use Rattle.cause_law.proofs.ReportSteps.{step_short}
use Rattle.cause_law.specs.Readable.{FilesAndAnswersAreReadable}
use Rattle.exchange_law.specs.Calls.{CallFine}
use Rattle.exchange_law.specs.InStep.{state_of}
use Rattle.exchange_law.specs.Meeting.{KeptGood, IsReadableThrough}
use Rattle.exchange_law.proofs.ClientMoves.{clients_always}
use Rattle.exchange_law.proofs.ClientsWalk.{StepsKeep, holds_always}
use Rattle.exchange_law.proofs.HeldWorlds.{own_request, readable_fronts, readable_there, reached}
use Rattle.exchange_law.proofs.Knowing.{lawful_at}
use Rattle.file_simulation.specs.Relation.{client_of}
use Rattle.relation_law.proofs.KeptServer.{at_place}
use Rattle.relation_law.proofs.FramesFiles.{files_distinct}
use Rattle.relation_law.proofs.ReturnsNamed.{same_names, each_named}
use Rattle.relation_law.proofs.ReturnsRead.{read_report}
use Rattle.relation_law.proofs.ReturnsRight.{short_kept}
use Rattle.relation_law.proofs.ReturnsServer.{OnGrants, stays_behind}
use Rattle.relation_law.proofs.ReturnsStands.{ReturnsLaws, shaped, objects_differ}
use Rattle.headline_law.specs.ServerWorlds.{EachReportNamesAll}
use Rattle.headline_law.proofs.ServerReports.{IsFrom, Asked, Before, Now, NoReturn, reports_asked}

-- if each entry of the report names a component of the file, each that timed out is named
abbrev NamesAll : List TimedOut → List IoErr → Kept → Type 0
NamesAll timed report k =
    (ks : List ℕ) → named report k.components ≡ Some ks → (t : TimedOut) → In t timed → among t.ask.component ks ≡ true

stays : (timed : List TimedOut) (report : List IoErr) (Off : ℕ → Type 0) (f k : Kept) → IsAlike Off f k → NamesAll timed report f
    → NamesAll timed report k
stays timed report Off f k a all ks names =
    let lose = a.components in
    all ks
    (sym (same_names report f.components k.components lose.count (λ n b found.
    let y = lose.each n b found in (y.0, y.1, y.2.drive, y.2.object))) ∙ names)

-- a report has the components of the grant
same_report : (k h : Held) → k.components ≡ h.components → (timed : List TimedOut) → report_of k timed ≡ report_of h timed
unfolding report_of error_at object_of
same_report k h same [] = refl
same_report k h same (t ∷ ts) =
    rw (same, same_report k h same ts) refl

-- so it is of the report that client c waits to be answered, if the server has its grant
abbrev pub Names : Server → (c : ℕ) → Client → Type 0
Names s c y =
    (op : CallOp) (timed : List TimedOut) (r : Request) → y.call ≡ Some (record { op = op; phase = Waits (Report timed) }) →
    y.outstanding ≡ Some r → (report : List IoErr) → asked_in r.args ≡ Some (Returns report) →
    OnGrants (NamesAll timed report) s c (file_of op)

abbrev Stands : World → Type 0
Stands w = (c : ℕ) → Names w.server c (client_of w c)

module _ (laws : ReturnsLaws) where
  -- ---- a client's step

  module _ (w : World) (h : List Line) (k : IsMoment w h) (t : IsReadableThrough h) (s : Stands w) (c : ℕ) (a : ClientAt)
      (found : at_number w.clients c ≡ Some a) where
    same : client_of w c ≡ a.state
    same = ap (state_of c) found

    fine : CallFine (KeptGood w.server c) a.state.held a.state.outstanding a.state.call
    fine = subst (λ (y : Client). CallFine (KeptGood w.server c) y.held y.outstanding y.call) same (laws.agree w h k t c).call

    -- a report by a grant that was held names each component that timed out
    named_by_held : (op : CallOp) (timed : List TimedOut) (r : Request) (report : List IoErr) (hh : Held)
        → IsFrom a.state (file_of op) hh → r.args ≡ return_args hh.number (report_of hh timed)
        → asked_in r.args ≡ Some (Returns report) → length timed ≤ 64
        → OnGrants (NamesAll timed report) w.server c (file_of op)
    named_by_held op timed r report hh from args told few f g there has ks names x i =
        let held : Held = from.held in
        let holds : held_of (client_of w c).held (file_of op) ≡ Some held =
        ap (λ (y : Client). held_of y.held (file_of op)) same ∙ from.was in
        let agrees = (laws.agree w h k t c).helds (file_of op) held holds f g there has in
        let fitting = (readable_there w h k t).files (file_of op) f there in
        let short : ReportShort (report_of held timed) =
        report_short held timed
        (subst FoundShort from.was
        (found_short a.state.held (file_of op)
        (clients_always (λ n y. ClientShort y) short_kept w (reached w h k) c a found).helds)) few in
        let told_ : asked_in (return_args hh.number (report_of held timed)) ≡ Some (Returns report) =
        ap asked_in (ap (return_args hh.number) (sym (same_report hh held from.components timed)) ∙ sym args) ∙ told in
        let is_read : report ≡ report_read (report_of held timed) = read_report (report_of held timed) report short told_ in
        each_named w.server.drives f.kept g held (laws.listed w h k t c (file_of op) held f g holds there has) agrees.map
        fitting.map (shaped w (reached w h k) (file_of op) f there).components
        (objects_differ w (reached w h k) (file_of op) f there)
        (λ n at found_. ((fitting.fits c g has).capabilities n at found_).object) timed ks
        (subst (λ (es : List IoErr). named es f.kept.components ≡ Some ks) is_read names) x i

    client_names : (i : Input) → Names w.server c (client_step a.state i).client
    client_names i op timed r call out report told =
        by (reports_asked a.state (KeptGood w.server c) fine i op timed r call out)
      where
        few : length timed ≤ 64
        few =
            subst CallShort call
            (step_short a.state i (clients_always (λ n y. ClientShort y) short_kept w (reached w h k) c a found)).call

        by : Asked a.state op timed r → OnGrants (NamesAll timed report) w.server c (file_of op)
        by (Before before asked) =
            s c op timed r (ap (λ (y : Client). y.call) same ∙ before)
            (ap (λ (y : Client). y.outstanding) same ∙ asked) report told
        by (Now hh from args) = named_by_held op timed r report hh from args told few
        by (NoReturn args) = absurd (cc (sym (ap asked_in args) ∙ told))

  steps_keep : StepsKeep Names IsReadableThrough
  steps_keep = record {
    front = readable_fronts;
    starts = λ n op timed r call. absurd (cc call);
    client = λ w h k t s c a found i heard. client_names w h k t s c a found i;
    server = λ w h k m d t later s g c op timed r call out report told.
        let x : Client = client_of w c in
        let fine_ : CallFine (KeptGood w.server c) x.held x.outstanding x.call = (laws.agree w h k t c).call in
        stays_behind w.server m.chosen c x
        (subst (CallFine (KeptGood w.server c) x.held x.outstanding) call fine_).1
        (file_of op) (NamesAll timed report) (stays timed report) (s c op timed r call out report told) g.input
        (laws.safe w (reached w h k)) (own_request laws.in_step w h k (readable_there w h k t) c g.input g.heard);
  }

  -- so it is at each moment
  names_stand : (w : World) (h : List Line) → IsMoment w h → IsReadableThrough h → (c : ℕ) → Names w.server c (client_of w c)
  names_stand = holds_always Names IsReadableThrough steps_keep laws.more

-- Each report names all that timed out, while the server has the grant.
pub each_report_names_all : ReturnsLaws → FilesAndAnswersAreReadable → EachReportNamesAll
each_report_names_all laws readable w h k scenario f c r op timed report g ks in_files low out file call of told has names t i =
    let through : IsReadableThrough h = readable h (lawful_at w h k) scenario.text scenario.few in
    names_stand laws w h k through c op timed r call out report told f g
    (subst (λ (n : ℕ). file_at w.server.files n ≡ Some f) (sym of)
    (at_place w.server.files f (files_distinct w (reached w h k)) in_files)) has ks names t i
