-- The server carries out a client's new request: behind the step the machine has of the client what it has, with the answer that
-- its slot keeps then.
-- Towards `CallsGoOn` (`relation_law/specs/Steps.antt`).
use Rattle.std.proofs.Common.{◌≡◌, ◌==◌, ◌&&◌, ◌<◌, not, max, ℕ, Bool, true, false, List, [], ◌∷◌, Option, Some, None, refl, sym, ap, subst, ◌∙◌, inl, inr, arith, if◌then◌else◌}
use Rattle.std.proofs.lemmas.Bool.{true≢false, cases_eq, eq-eqb, ne_eqb, eqb-true}
use Rattle.osd_lists.specs.declared.node.Node.TheVariants as node
use Rattle.data_map.specs.Check.{IsChecked}
use Rattle.layout_ops.specs.declared.messages.Answer.{Answer}
use Rattle.layout_ops.specs.declared.statuses.TheConstants.{LAYOUTIOMODE4_RW, NFS4_OK}
use Rattle.layout_types.specs.declared.ioerrs.IoErr.{IoErr}
use Rattle.scenario_text.specs.declared.line.Line.{Line}
use Rattle.scenario_text.specs.declared.names.TheConstants.{CLIENTS}
use Rattle.server_rules.specs.Laws.{last_of}
use Rattle.server_rules.specs.Envelopes.{asked_in}
use Rattle.server_rules.specs.Files.{Step, file_at, at_file}
use Rattle.server_rules.specs.Grants.{grant_of}
use Rattle.server_rules.specs.History.{Hears, step as server_step}
use Rattle.server_rules.specs.Messages.{Asks}
use Rattle.server_rules.specs.Requests.{serves, answer_with}
use Rattle.server_rules.specs.Slots.{slot_of, keep}
use Rattle.server_rules.proofs.FileLaws.{keep_same}
use Rattle.client_rules.specs.Calls.{file_of}
use Rattle.client_rules.specs.Grants.{held_of}
use Rattle.client_rules.specs.Answers.{is_loss_taken}
use Rattle.client_rules.specs.Results.{status_of}
use Rattle.world_history.specs.ServerNames.{File, Server, Slot, ClientRequest, RequestArgs, Get as Gets, Commit as Commits, Return as Returns}
use Rattle.world_history.specs.ClientNames.{Client, Call, CallOp, Need, First, Get, Commit, Report, Close, Phase, Starts, Needs, Waits, Reads, Probes, Gathers, Scatters, Request, TimedOut}
use Rattle.world_history.specs.State.{World}
use Rattle.world_history.specs.Sending.{Move, move}
use Rattle.history_law.specs.Doing.{input_in}
use Rattle.exchange_law.specs.Meeting.{IsReadableThrough}
use Rattle.exchange_law.proofs.CountGrowing.{fewer, text_front}
use Rattle.exchange_law.proofs.HeldWorlds.{readable_there, reached}
use Rattle.exchange_law.proofs.Knowing.{lawful_at}
use Rattle.fence_law.specs.Law.{IsCode}
use Rattle.fence_law.specs.State.{State, Event, Grant}
use Rattle.fence_law.specs.State.{Event as event}
use Rattle.fence_law.specs.State.Call.{Writes as AtWrite}
use Rattle.fence_law.specs.State.{RequestKind as kind}
use Rattle.fence_law.specs.Machine.{Lawful, after, after_all}
use Rattle.fence_law.proofs.Safe.{Safe}
use Rattle.plan_law.proofs.Codes.{layouts_are_codes}
use Rattle.file_simulation.specs.Calls.{IsClient, HeldIs, HoldsNone, reports_on, is_taken}
use Rattle.file_simulation.specs.EventLists.{where_so, entry_in, entry_of, of_grant}
use Rattle.file_simulation.specs.Events.{joined}
use Rattle.file_simulation.specs.Relation.{client_of}
use Rattle.file_simulation.specs.Requests.{kept_for, kept_by}
use Rattle.file_simulation.specs.ServerEvents as table
use Rattle.relation_law.specs.CallsFrames.{IsSpared}
use Rattle.relation_law.specs.Frames.{AreAll}
use Rattle.relation_law.specs.RequestsClients.{IsGetting, AsksBy, AsksFor}
use Rattle.relation_law.specs.RequestsGoing.{IsItsRequest, IsAnsweredBy}
use Rattle.relation_law.specs.Requests.{IsReturning, Works}
use Rattle.relation_law.specs.Steps.{FollowsWhole, KeptGoesOn, whole_behind}
use Rattle.relation_law.proofs.CallsCarried.{IsEvenCall, client_even, client_granted, client_committed, client_uncommitted, client_untaken, client_taken, waits_is, reporting_is, still_held}
use Rattle.relation_law.proofs.CallsFrames.{spared_more}
use Rattle.relation_law.proofs.CallsSpared.{client_spared}
use Rattle.relation_law.proofs.FramesParties as parties
use Rattle.relation_law.proofs.FramesStay.{all_more}
use Rattle.relation_law.proofs.KeptGoing.{safe_of}
use Rattle.relation_law.proofs.RequestsAsking.{works_due}
use Rattle.relation_law.proofs.RequestsClients.{clients_ask_for}
use Rattle.relation_law.proofs.RequestsHeard.{heard_in, its_request}
use Rattle.relation_law.proofs.RequestsOn.{IsServed, served_is, served_answered}
use Rattle.relation_law.proofs.RequestsOwn.{lines_are, server_is}
use Rattle.relation_law.proofs.RequestsReturns.{HeldLaws}
use Rattle.relation_law.proofs.AskedCalls.{get_no_commit, get_no_return, commit_no_get, commit_no_return, return_no_commit, is_returning, returns_by, WaitsFor, even_by, reports_so, quiet_report}
use Rattle.relation_law.proofs.AskedEvents.{IsQuiet, IsAsked, answer_is, quiet_spares, fences_quiet, asked_goes}
use Rattle.relation_law.proofs.AskedCommit.{committed_under, size_committed, held_some}

-- ---- a move

module _ (laws : HeldLaws) (keeps : KeptGoesOn) (w : World) (h : List Line) (m : Move) (f g : File) (s : State)
    (k : FollowsWhole w h m f g s) (number : g.kept.number ≡ f.kept.number) (map : g.kept.map ≡ f.kept.map) (now c : ℕ)
    (q : ClientRequest) (comes : input_in w m.action ≡ Some (Hears now (node.Client c) (Asks q))) (low : c < CLIENTS)
    (served : table.is_served w.server c q ≡ true) where
  abbrev file : ℕ
  file = f.kept.number

  abbrev did : Step
  did = server_step w.server m.chosen (Hears now (node.Client c) (Asks q))

  abbrev x : Client
  x = client_of w c

  abbrev p : Option Slot
  p = slot_of w.server.slots c

  abbrev v : World
  v = (move w m).world

  is : IsServed w.server c q
  is = served_is w.server c q served

  through : IsReadableThrough h
  through = laws.right.readable h (lawful_at w h k.follows.moment) (text_front h _ k.follows.calm.scenario.text)
      (fewer h _ k.follows.calm.scenario.few)

  its : IsItsRequest w c q
  its =
      its_request w h c k.follows.moment (laws.right.world.in_step w h k.follows.moment c)
      (readable_there w h k.follows.moment through) now q is.named
      (heard_in w m.action (Hears now (node.Client c) (Asks q)) comes) is.new

  abbrev r : Request
  r = its.request

  answered : IsAnsweredBy w.server now m.chosen q did
  answered = served_answered w.server m.chosen now c q is

  abbrev a : Answer
  a = answered.answer

  abbrev new : Slot
  new = record { client = q.client; last = q.sequence; kept = answered.answer }

  kept_behind : slot_of v.server.slots c ≡ Some new
  kept_behind =
      ap (λ (z : Server). slot_of z.slots c) (server_is w h m f g s k (Hears now (node.Client c) (Asks q)) comes)
      ∙ ap (λ (l : List Slot). slot_of l c) answered.slots
      ∙ ap (λ (n : ℕ). slot_of (keep w.server.slots new) n) (sym is.client) ∙ keep_same w.server.slots new

  client_same : client_of v c ≡ x
  client_same =
      parties.clients_rest w h k.follows.moment m k.follows.is_due
      (parties.server_alone w m.action (Hears now (node.Client c) (Asks q)) comes) c

  -- before the step the server has no answer to it, and behind the step this one
  none_for : kept_for p x.outstanding ≡ None
  none_for = ap (kept_for p) its.outstanding ∙ other p refl
    where
      other : (o : Option Slot) → p ≡ o → kept_by o r ≡ None
      other None e = refl
      other (Some slot) e =
          rw (ne_eqb slot.last r.sequence (λ last. next (ap last_of e ∙ last))) refl
        where
          next : last_of p ≡ r.sequence → ⊥
          next last = absurd (omega (arith, its.next, its.reads.sequence, last))

  answer_for : kept_for (slot_of v.server.slots c) (client_of v c).outstanding ≡ Some a
  answer_for =
      ap (λ (z : Client). kept_for (slot_of v.server.slots c) z.outstanding) client_same
      ∙ ap (kept_for (slot_of v.server.slots c)) its.outstanding ∙ ap (λ (o : Option Slot). kept_by o r) kept_behind
      ∙ rw (eq-eqb q.sequence r.sequence its.reads.sequence) refl

  before : IsClient file f.kept.map s c x None
  before = subst (IsClient file f.kept.map s c x) none_for (k.follows.related.clients c low).client

  checked : IsChecked f.kept.map
  checked = ((readable_there w h k.follows.moment through).files file f k.follows.there).map

  code : IsCode s.layout
  code =
      subst IsCode (sym k.follows.related.layout) (layouts_are_codes f.kept.map f.kept.first_tag checked)

  safe_ : Safe s
  safe_ = safe_of s k.follows.run code

  asks : AsksFor x
  asks = clients_ask_for w (reached w h k.follows.moment) c

  -- what the client's call waits for, it has asked by this request
  asked_by : (op : CallOp) (n : Need) → x.call ≡ Some (record { op = op; phase = Waits n }) →
      (r.file ≡ file_of op) × AsksBy n r.args
  asked_by op n call =
      let it = asks.waits op n call in
      let same : it.request ≡ r = cc (sym it.outstanding ∙ its.outstanding) in
      (ap (λ (z : Request). z.file) (sym same) ∙ it.file_is, subst (λ (z : Request). AsksBy n z.args) same it.asks)

  -- ---- the events

  seq : IsAsked w f g (Hears now (node.Client c) (Asks q)) c s did a
  seq = asked_goes w f g (Hears now (node.Client c) (Asks q)) c s did answered.others answered.answer answered.none answered.sends

  abbrev u : State
  u = seq.behind

  lawful : Lawful s (joined (table.server_goes s w did (Hears now (node.Client c) (Asks q)) (Some f) (Some g)))
  lawful = subst (Lawful s) (lines_are w h m f g s k (Hears now (node.Client c) (Asks q)) comes) k.lawful

  abbrev firsts : List Event
  firsts = table.served s q (table.is_ok (table.answer_of did.sends)) f g

  first_is : table.at_first s w.server did f g (Hears now (node.Client c) (Asks q)) ≡ firsts
  first_is = ap (λ (z : Bool). where_so z firsts) served

  abbrev lasts : List Event
  lasts = where_so (q.file == g.kept.number) (table.answered_here u c q.args a g)

  last_is : table.answered_to u w.server g a (Hears now (node.Client c) (Asks q)) ≡ lasts
  last_is = ap (λ (z : Bool). where_so (z && (q.file == g.kept.number)) (table.answered_here u c q.args a g)) served

  whole_is : whole_behind k ≡ after_all u lasts
  whole_is =
      ap (λ (es : List Event). after_all s es) (lines_are w h m f g s k (Hears now (node.Client c) (Asks q)) comes)
      ∙ seq.goes ∙ ap (after_all u) last_is

  abbrev Goal : State → Type 0
  Goal t = IsClient g.kept.number g.kept.map t c (client_of v c) (kept_for (slot_of v.server.slots c) (client_of v c).outstanding)

  -- it is enough to have the answer
  with_answer : IsClient file f.kept.map (after_all u lasts) c x (Some a) → Goal (whole_behind k)
  with_answer z = rw (number, map, answer_for, client_same, whole_is) z

  spared_from : (es : List Event) → firsts ≡ es → IsSpared (after_all s es) u c
  spared_from es e = subst (λ (l : List Event). IsSpared (after_all s l) u c) (first_is ∙ e) seq.spared

  -- where the first line's events leave the client
  quiet_first : (es : List Event) → firsts ≡ es → AreAll IsQuiet es → IsClient file f.kept.map u c x None
  quiet_first es e quiet =
      client_spared (after_all s es) u c (spared_from es e) file f.kept.map x None
      (client_spared s (after_all s es) c (quiet_spares c s es quiet) file f.kept.map x None before)

  quiet_last : (es : List Event) → lasts ≡ es → AreAll IsQuiet es → IsEvenCall file x.call → IsClient file f.kept.map u c x None →
      Goal (whole_behind k)
  quiet_last es e quiet even z =
      with_answer (subst (λ (l : List Event). IsClient file f.kept.map (after_all u l) c x (Some a)) (sym e)
      (client_even file f.kept.map c (after_all u es) x None (Some a) even
      (client_spared u (after_all u es) c (quiet_spares c u es quiet) file f.kept.map x None z)))

  -- ---- on another file

  another : (q.file ≡ file → ⊥) → Goal (whole_behind k)
  another other =
      quiet_last [] (ap (λ (b : Bool). where_so b (table.answered_here u c q.args a g))
      (ne_eqb q.file g.kept.number (λ e. other (e ∙ number)))) tt
      (even_by file x (λ timed z. elsewhere (Commit timed) z) (λ timed z. elsewhere (Report timed) z))
      (quiet_first (event.ServesOther q.client ∷ []) (ap (λ (b : Bool). if b then table.served_here s q.client q.args
      (table.is_ok (table.answer_of did.sends)) f g else event.ServesOther q.client ∷ []) (ne_eqb q.file file other)) (tt, tt))
    where
      elsewhere : (n : Need) → WaitsFor file x n → ⊥
      elsewhere n z =
          let it = asked_by z.0 n z.1 in
          other (its.reads.file ∙ it.0 ∙ eqb-true (file_of z.0) file z.2)

  -- ---- on the file

  module _ (here : q.file ≡ file) where
    firsts_are : firsts ≡ table.served_here s q.client q.args (table.is_ok (table.answer_of did.sends)) f g
    firsts_are = ap (λ (b : Bool). if b then table.served_here s q.client q.args
        (table.is_ok (table.answer_of did.sends)) f g else event.ServesOther q.client ∷ []) (eq-eqb q.file file here)

    lasts_are : lasts ≡ table.answered_here u c q.args a g
    lasts_are = ap (λ (b : Bool). where_so b (table.answered_here u c q.args a g))
        (eq-eqb q.file g.kept.number (here ∙ sym number))

    last_lawful : Lawful u lasts
    last_lawful = subst (Lawful u) last_is (seq.last lawful)

    -- what the file's server answered
    on_file : a ≡ answer_with w.server q
        (serves (at_file w.server m.chosen f) w.server.next_grant w.server.format now q.client q.args)
    on_file = (answered.on_file f (ap (file_at w.server.files) here ∙ k.follows.there)).0

    size_is : (whole_behind k).size ≡ a.size
    size_is =
        let there = (answered.on_file f (ap (file_at w.server.files) here ∙ k.follows.there)).1 in
        let same : (serves (at_file w.server m.chosen f) w.server.next_grant w.server.format now q.client q.args).going.file
        ≡ g =
        cc (sym there ∙ ap (file_at did.state.files) here
        ∙ ap (λ (z : Server). file_at z.files file) (sym (server_is w h m f g s k (Hears now (node.Client c) (Asks q)) comes))
        ∙ k.follows.goes) in
        (keeps w h m f g s k).size ∙ ap (λ (z : File). z.kept.size) (sym same) ∙ ap (λ (z : Answer). z.size) (sym on_file)

    -- ---- a LAYOUTGET

    gets : (iomode offset count : ℕ) → q.args ≡ Gets iomode offset count → Goal (whole_behind k)
    gets iomode offset count args_are = by_status (status_of a.results == NFS4_OK) refl
      where
        told : asked_in r.args ≡ Some (Gets iomode offset count)
        told = its.reads.args ∙ ap (λ (z : RequestArgs). Some z) args_are

        even : IsEvenCall file x.call
        even = even_by file x
            (λ timed z. get_no_commit r.args iomode offset count told (asked_by z.0 (Commit timed) z.1).1)
            (λ timed z. let it = (asked_by z.0 (Report timed) z.1).1 in
            get_no_return r.args iomode offset count told (is_returning _ r.args it.1))

        at_u : IsClient file f.kept.map u c x None
        at_u = quiet_first (table.fences f g) (firsts_are ∙ ap (λ (z : RequestArgs). table.served_here s q.client z
            (table.is_ok (table.answer_of did.sends)) f g) args_are) (fences_quiet f g)

        last_by : (b : Bool) → (status_of a.results == NFS4_OK) ≡ b →
            lasts ≡ table.get_answered c (iomode == LAYOUTIOMODE4_RW) b g
        last_by b e =
            lasts_are ∙ ap (λ (z : RequestArgs). table.answered_here u c z a g) args_are
            ∙ ap (λ (z : Bool). table.get_answered c (iomode == LAYOUTIOMODE4_RW) z g) e

        by_grant : (o : Option _) → grant_of g.kept.grants c ≡ o →
            lasts ≡ table.granted c (iomode == LAYOUTIOMODE4_RW) g.kept.map o → Goal (whole_behind k)
        by_grant None e l = quiet_last [] l tt even at_u
        by_grant (Some gr) e l =
            let may = (subst (Lawful u) l last_lawful).0 in
            with_answer (subst (λ (z : List Event). IsClient file f.kept.map (after_all u z) c x (Some a)) (sym l)
            (client_even file f.kept.map c _ x None (Some a) even
            (client_granted file f.kept.map c u x None gr.number (iomode == LAYOUTIOMODE4_RW) _ gr.extending may.new at_u)))

        by_status : (b : Bool) → (status_of a.results == NFS4_OK) ≡ b → Goal (whole_behind k)
        by_status true e = by_grant (grant_of g.kept.grants c) refl (last_by true e)
        by_status false e = quiet_last (event.Refuses c (kind.Get (iomode == LAYOUTIOMODE4_RW)) ∷ [])
            (last_by false e) (tt, tt) even at_u

    -- ---- a return

    returns : (report : List IoErr) → q.args ≡ Returns report → Goal (whole_behind k)
    returns report args_are = by_loss (is_loss_taken a) refl
      where
        told : asked_in r.args ≡ Some (Returns report)
        told = its.reads.args ∙ ap (λ (z : RequestArgs). Some z) args_are

        gone : held_of x.held file ≡ None
        gone = ap (held_of x.held) (sym here ∙ its.reads.file)
            ∙ asks.gone r its.outstanding (returns_by r.args report told)

        first_by : (b : Bool) → s.waiting q.client ≡ b → firsts ≡ table.returned s q.client b f g
        first_by b e = firsts_are ∙ ap (λ (z : RequestArgs). table.served_here s q.client z
            (table.is_ok (table.answer_of did.sends)) f g) args_are ∙ ap (λ (z : Bool). table.returned s q.client z f g) e

        kind_quiet : (n : _) → AreAll IsQuiet (table.return_served s q.client n f g)
        kind_quiet (kind.Return true) = (tt, tt)
        kind_quiet (kind.Return false) = all_more IsQuiet (table.fences f g) _ (fences_quiet f g) (tt, tt)
        kind_quiet (kind.Get b) = tt

        returned_quiet : (b : Bool) → AreAll IsQuiet (table.returned s q.client b f g)
        returned_quiet true = kind_quiet (s.asked q.client)
        returned_quiet false = (tt, fences_quiet f g)

        spared_u : IsSpared s u c
        spared_u =
            spared_more s (after_all s (table.returned s q.client (s.waiting q.client) f g)) u c
            (quiet_spares c s (table.returned s q.client (s.waiting q.client) f g) (returned_quiet (s.waiting q.client)))
            (spared_from (table.returned s q.client (s.waiting q.client) f g) (first_by (s.waiting q.client) refl))

        at_u : IsClient file f.kept.map u c x None
        at_u = quiet_first (table.returned s q.client (s.waiting q.client) f g) (first_by (s.waiting q.client) refl)
            (returned_quiet (s.waiting q.client))

        last_by : (b : Bool) → is_loss_taken a ≡ b → lasts ≡ where_so b (table.loss_answered u c)
        last_by b e =
            lasts_are ∙ ap (λ (z : RequestArgs). table.answered_here u c z a g) args_are
            ∙ ap (λ (z : Bool). where_so z (table.loss_answered u c)) e

        no_commit : (timed : List TimedOut) → WaitsFor file x (Commit timed) → ⊥
        no_commit timed z = return_no_commit r.args report told (asked_by z.0 (Commit timed) z.1).1

        -- one that isn't taken
        untaken : (b : Bool) → reports_on file x.call ≡ b → is_loss_taken a ≡ false → Goal (whole_behind k)
        untaken false e none =
            quiet_last [] (last_by false none) tt
            (even_by file x no_commit (λ timed z. true≢false (sym (quiet_report file x z.0 timed z.1 z.2) ∙ e))) at_u
        untaken true e none =
            let z = reports_so file x e in
            with_answer (subst (λ (l : List Event). IsClient file f.kept.map (after_all u l) c x (Some a))
            (sym (last_by false none))
            (client_untaken file f.kept.map c u x z.1 z.0 z.2 z.3 gone at_u a none))

        -- one that is taken as a loss
        taken : (b : Bool) → reports_on file x.call ≡ b → is_loss_taken a ≡ true → Goal (whole_behind k)
        taken false e loss =
            let may = (subst (Lawful u) (last_by true loss) last_lawful).0 in
            let held : HoldsNone u c x.outstanding (reports_on file x.call && not (is_taken None)) =
            subst (HeldIs file f.kept.map u c x None) gone at_u.held in
            let none : u.held c ≡ None = rw e at held in
            let runs = (safe_.calls.writes c (entry_of u c) (sym spared_u.call ∙ may.runs)).under in
            absurd (cc (sym none ∙ spared_u.held ∙ runs.1))
        taken true e loss =
            let z = reports_so file x e in
            let j : ℕ = (reporting_is file f.kept.map c u x z.1 z.0 z.2 z.3 gone at_u a).0 in
            let at_ : u.call c ≡ AtWrite j = (reporting_is file f.kept.map c u x z.1 z.0 z.2 z.3 gone at_u a).1.writing.at_ in
            let still = still_held file f.kept.map c u x z.1 z.0 z.2 z.3 gone at_u a in
            let last : lasts ≡ event.Acknowledges c j ∷ (event.Leaves c still.grant ∷ []) =
            last_by true loss
            ∙ ap (λ (n : ℕ). event.Acknowledges c n ∷ of_grant (u.held c) (λ y. event.Leaves c y ∷ [])) (ap entry_in at_)
            ∙ ap (λ (o : Option Grant). event.Acknowledges c j ∷ of_grant o (λ y. event.Leaves c y ∷ [])) still.held in
            with_answer (subst (λ (l : List Event). IsClient file f.kept.map (after_all u l) c x (Some a)) (sym last)
            (client_taken file f.kept.map c u x z.1 z.0 z.2 z.3 gone at_u a loss))

        by_loss : (b : Bool) → is_loss_taken a ≡ b → Goal (whole_behind k)
        by_loss true e = taken (reports_on file x.call) refl e
        by_loss false e = untaken (reports_on file x.call) refl e

    -- ---- a commit

    commits : (last : Option ℕ) → q.args ≡ Commits last → Goal (whole_behind k)
    commits last args_are = by_call x.call refl
      where
        told : asked_in r.args ≡ Some (Commits last)
        told = its.reads.args ∙ ap (λ (z : RequestArgs). Some z) args_are

        no_get : IsGetting r.args → ⊥
        no_get = commit_no_get r.args last told

        no_return : IsReturning r.args → ⊥
        no_return = commit_no_return r.args last told

        ok_is : table.is_ok (table.answer_of did.sends) ≡ (status_of a.results == NFS4_OK)
        ok_is = ap table.is_ok (ap table.answer_of answered.sends ∙ answer_is answered.others a answered.none)

        first_by : (b : Bool) → (status_of a.results == NFS4_OK) ≡ b → firsts ≡ event.ServesOther c ∷ table.committed s c b
        first_by b e =
            firsts_are ∙ ap (λ (z : RequestArgs). table.served_here s q.client z (table.is_ok (table.answer_of did.sends)) f g)
            args_are
            ∙ ap (λ (n : ℕ). event.ServesOther n ∷ table.committed s n (table.is_ok (table.answer_of did.sends))) is.client
            ∙ ap (λ (z : Bool). event.ServesOther c ∷ table.committed s c z) (ok_is ∙ e)

        none_last : lasts ≡ []
        none_last = lasts_are ∙ ap (λ (z : RequestArgs). table.answered_here u c z a g) args_are

        first_lawful : (es : List Event) → firsts ≡ es → Lawful s es
        first_lawful es e = subst (Lawful s) (first_is ∙ e) (seq.first lawful)

        at_s1 : IsClient file f.kept.map (after s (event.ServesOther c)) c x None
        at_s1 =
            client_spared s (after s (event.ServesOther c)) c (quiet_spares c s (event.ServesOther c ∷ []) (tt, tt)) file
            f.kept.map x
            None before

        commit_goes : (op : CallOp) (timed : List TimedOut) → x.call ≡ Some (record { op = op; phase = Waits (Commit timed) }) →
            (file_of op == file) ≡ true → (b : Bool) → (status_of a.results == NFS4_OK) ≡ b → Goal (whole_behind k)
        commit_goes op timed call on true good =
            let out0 = committed_under s w f k.follows.related.kept.phase m.chosen w.server.next_grant w.server.format now q
            last args_are
            (subst (λ (z : Answer). (status_of z.results == NFS4_OK) ≡ true) on_file good) in
            let out : s.outstanding c ≡ Some out0.0 = ap s.outstanding (sym is.client) ∙ out0.1 in
            let wait = waits_is file f.kept.map c (after s (event.ServesOther c)) x op timed call on at_s1 a in
            let j : ℕ = wait.0 in
            let at_ : s.call c ≡ AtWrite j = wait.1.writing.at_ in
            let first : firsts ≡ event.ServesOther c ∷ (event.Commits c j out0.0 ∷ []) =
            first_by true good
            ∙ ap (λ (o : Option Grant). event.ServesOther c ∷ of_grant o (λ y. event.Commits c (entry_of s c) y ∷ [])) out
            ∙ ap (λ (n : ℕ). event.ServesOther c ∷ (event.Commits c n out0.0 ∷ [])) (ap entry_in at_) in
            let l = first_lawful (event.ServesOther c ∷ (event.Commits c j out0.0 ∷ [])) first in
            let s1 : State = after s (event.ServesOther c) in
            let c1 : State = after s1 (event.Commits c j out0.0) in
            let has = held_some file f.kept.map s c x before asks op timed call on in
            let size = size_committed s code k.follows.run safe_ c j out0.0 out has.0 has.1 l in
            let whole : whole_behind k ≡ u = whole_is ∙ ap (after_all u) none_last in
            let a_size : a.size ≡ max (s1.known_size c) (s1.start j).end_ =
            sym size_is ∙ ap (λ (t : State). t.size) whole ∙ seq.size
            ∙ ap (λ (es : List Event). (after_all s es).size) (first_is ∙ first) ∙ size in
            let z : IsClient file f.kept.map c1 c x (Some a) =
            client_committed file f.kept.map c s1 x op timed call on at_s1 a out0.0 (eqb-true (status_of a.results) NFS4_OK good)
            a_size in
            with_answer (subst (λ (es : List Event). IsClient file f.kept.map (after_all u es) c x (Some a)) (sym none_last)
            (client_spared c1 u c (spared_from (event.ServesOther c ∷ (event.Commits c j out0.0 ∷ [])) first) file f.kept.map x
            (Some a) z))
        commit_goes op timed call on false bad =
            let wait = waits_is file f.kept.map c (after s (event.ServesOther c)) x op timed call on at_s1 a in
            let j : ℕ = wait.0 in
            let at_ : s.call c ≡ AtWrite j = wait.1.writing.at_ in
            let first : firsts ≡ event.ServesOther c ∷ (event.RefusesCommit c j ∷ []) =
            first_by false bad ∙ ap (λ (n : ℕ). event.ServesOther c ∷ (event.RefusesCommit c n ∷ [])) (ap entry_in at_) in
            let s1 : State = after s (event.ServesOther c) in
            let z : IsClient file f.kept.map (after s1 (event.RefusesCommit c j)) c x (Some a) =
            client_uncommitted file f.kept.map c s1 x op timed call on at_s1 a
            (λ ok. true≢false (sym (eq-eqb (status_of a.results) NFS4_OK ok) ∙ bad)) in
            with_answer (subst (λ (es : List Event). IsClient file f.kept.map (after_all u es) c x (Some a)) (sym none_last)
            (client_spared (after s1 (event.RefusesCommit c j)) u c
            (spared_from (event.ServesOther c ∷ (event.RefusesCommit c j ∷ [])) first) file f.kept.map x (Some a) z))

        by_need : (op : CallOp) (n : Need) → x.call ≡ Some (record { op = op; phase = Waits n }) → Goal (whole_behind k)
        by_need op (Commit timed) call =
            commit_goes op timed call
            (eq-eqb (file_of op) file (sym ((asked_by op (Commit timed) call).0) ∙ sym its.reads.file ∙ here))
            (status_of a.results == NFS4_OK) refl
        by_need op First call = absurd (no_return (is_returning [] r.args (asked_by op First call).1))
        by_need op (Get tries) call = absurd (no_get (asked_by op (Get tries) call).1)
        by_need op (Report timed) call =
            let it = (asked_by op (Report timed) call).1 in absurd (no_return (is_returning _ r.args it.1))
        by_need op (Close o report) call = absurd (no_return (is_returning report r.args (asked_by op (Close o report) call).1))

        works : (op : CallOp) (p : Phase) → x.call ≡ Some (record { op = op; phase = p }) → Works p → Goal (whole_behind k)
        works op p call free = absurd (no_return (is_returning [] r.args (works_due x op p call free asks r its.outstanding)))

        by_phase : (op : CallOp) (p : Phase) → x.call ≡ Some (record { op = op; phase = p }) → Goal (whole_behind k)
        by_phase op (Waits n) call = by_need op n call
        by_phase op Starts call = works op Starts call refl
        by_phase op (Needs n) call = works op (Needs n) call refl
        by_phase op (Reads io) call = works op (Reads io) call refl
        by_phase op (Probes io) call = works op (Probes io) call refl
        by_phase op (Gathers io) call = works op (Gathers io) call refl
        by_phase op (Scatters io queue) call = works op (Scatters io queue) call refl

        by_call : (o : Option Call) → x.call ≡ o → Goal (whole_behind k)
        by_call None e =
            absurd (no_return (is_returning [] r.args (asks.due (λ op n at. absurd (cc (sym e ∙ at))) r its.outstanding)))
        by_call (Some call) e = by_phase call.op call.phase e

    by_args : (z : RequestArgs) → q.args ≡ z → Goal (whole_behind k)
    by_args (Gets iomode offset count) e = gets iomode offset count e
    by_args (Commits last) e = commits last e
    by_args (Returns report) e = returns report e

  -- Behind the step the machine has of the client what it has.
  pub asked_client : IsClient g.kept.number g.kept.map (whole_behind k) c (client_of v c)
      (kept_for (slot_of v.server.slots c) (client_of v c).outstanding)
  asked_client = elim (cases_eq q.file file) [ inl here ↦ by_args here q.args refl | inr other ↦ another other ]
