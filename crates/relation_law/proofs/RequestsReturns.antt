-- Where a client asks to return a grant of the file, the machine's client holds one: `ReturnsAreHeld` holds.
-- Towards `RequestsGoOn` (`specs/Steps.antt`).
use Rattle.std.proofs.Common.{◌≡◌, ◌==◌, ◌<◌, ◌++◌, ℕ, Bool, true, false, List, [], ◌∷◌, Option, Some, None, Result, Ok, Err, length, take, refl, sym, ap, subst, ◌∙◌, arith, inl, inr, if◌then◌else◌}
use Rattle.std.proofs.lemmas.Bool.{cases_Bool, cases_eq, eqb-true, eq-eqb, ne_eqb}
use Rattle.std.specs.Prelude.{find}
use Rattle.scenario_text.specs.declared.line.Line.{Line}
use Rattle.scenario_text.specs.declared.names.TheConstants.{CLIENTS}
use Rattle.layout_ops.specs.declared.args.Args.{Args}
use Rattle.layout_ops.specs.declared.args.Args.TheVariants as args
use Rattle.layout_ops.specs.declared.messages.Answer.{Answer}
use Rattle.layout_types.specs.declared.ioerrs.IoErr.{IoErr}
use Rattle.osd_lists.specs.declared.node.Node.{Node}
use Rattle.server_rules.specs.Laws.{last_of}
use Rattle.client_rules.specs.declared.limits.TheConstants.{PERFORMED, OTHER_TAG}
use Rattle.client_rules.specs.Calls.{file_of}
use Rattle.client_rules.specs.Answers.{not_granted, on_commit}
use Rattle.client_rules.specs.Going.{quiet, moved, by_turn, with_held}
use Rattle.client_rules.specs.Grants.{held_of, put_held}
use Rattle.client_rules.specs.History.{Input, Calls, Hears, TimesOut, Leaves, Resends, step}
use Rattle.client_rules.specs.Messages.{Step, Message, TakesAnswer, takes, finished, on_call, on_phase, on_need, answered_get, commit_under, obeys, no_match}
use Rattle.client_rules.specs.Layouts.{taken}
use Rattle.client_rules.specs.Results.{status_of}
use Rattle.layout_ops.specs.declared.statuses.TheConstants.{NFS4_OK}
use Rattle.client_rules.specs.Io.{awaited_in}
use Rattle.client_rules.specs.Replies.{answers, refused, refusal, replied, timed_out}
use Rattle.client_rules.specs.Steps.{all_due}
use Rattle.client_rules.specs.Turns.{turned}
use Rattle.server_rules.specs.Slots.{slot_of}
use Rattle.data_map.specs.Check.{IsChecked}
use Rattle.world_history.specs.ServerNames.{Server, File, Slot}
use Rattle.world_history.specs.ClientNames.{Client, Call, CallOp, Held, Awaited, Reply, Request, Phase, Starts, Needs, Waits, Reads, Probes, Gathers, Scatters, Turn, Goes, Ends, Forgets, Need, First, Get, Commit, Report, Close, Outcome, WriteOk, ReadOk, Silent, Lost, Why, TimedOut, Moved, Done}
use Rattle.world_history.specs.Handed.{op_in}
use Rattle.world_history.specs.State.{World}
use Rattle.world_history.specs.Moves.{acts}
use Rattle.world_history.specs.Sending.{Move}
use Rattle.history_law.specs.BookMoments.{lines_in}
use Rattle.history_law.specs.Moves.{IsForClient}
use Rattle.history_law.specs.Turns.{with_start, IsReplied, AnswerComes}
use Rattle.exchange_law.specs.Calls.{CallFine, PhaseFine}
use Rattle.exchange_law.specs.Meeting.{KeptGood, IsMet, IsReadable, IsReadableThrough}
use Rattle.exchange_law.specs.Messages.{last_before}
use Rattle.exchange_law.specs.Taking.{AnswersAreOwn, TakesOwn}
use Rattle.exchange_law.specs.Text.{AreOfText, AreFew}
use Rattle.exchange_law.proofs.ClientKeeping.{none_left}
use Rattle.exchange_law.proofs.CountGrowing.{fewer, text_front}
use Rattle.exchange_law.proofs.CountMoments.{reached}
use Rattle.exchange_law.proofs.HeldWorlds.{readable_there}
use Rattle.exchange_law.proofs.Knowing.{lawful_at}
use Rattle.fence_law.specs.State.{State, Event, Grant}
use Rattle.fence_law.specs.Law.{IsCode}
use Rattle.fence_law.specs.Machine.{after_all}
use Rattle.fence_law.proofs.Safe.{Safe}
use Rattle.plan_law.proofs.Codes.{layouts_are_codes}
use Rattle.file_simulation.specs.Calls.{HeldIs, IsClient}
use Rattle.file_simulation.specs.ClientEvents as table
use Rattle.file_simulation.specs.ClientEvents.{Going, going_in}
use Rattle.file_simulation.specs.EventLists.{where_so, write_of}
use Rattle.file_simulation.specs.Relation.{client_of}
use Rattle.file_simulation.specs.Requests.{phase_of, kept_by, kept_for, IsOutstanding, RequestIs, RequestsAgree}
use Rattle.relation_law.specs.Frames.{ByClient}
use Rattle.relation_law.specs.CallsCases.{IsUnheld, EventCases}
use Rattle.relation_law.specs.Requests.{IsReturning, HoldsWhatReturns}
use Rattle.relation_law.specs.RequestsGoing.{ReturnsAreHeld, ended_behind, first_behind}
use Rattle.relation_law.specs.RequestsClients.{AsksFor}
use Rattle.relation_law.specs.Returns.{CantBeBorne, report_read}
use Rattle.relation_law.specs.Steps.{FollowsWhole}
use Rattle.relation_law.proofs.CallsFitting.{answer_fits}
use Rattle.relation_law.proofs.CallsReceived.{answered_mid}
use Rattle.relation_law.proofs.CallsWalk.{each_event_turn}
use Rattle.relation_law.proofs.FramesParties as parties
use Rattle.relation_law.proofs.KeptCommits.{client_low}
use Rattle.relation_law.proofs.KeptGoing.{safe_of}
use Rattle.relation_law.proofs.RequestsClients.{clients_ask_for}
use Rattle.relation_law.proofs.RequestsDealt.{file_of_moved, replied_file, timed_out_file}
use Rattle.relation_law.proofs.RequestsHeld.{moved_before, moved_same, finished_held}
use Rattle.relation_law.proofs.ReturnsRight.{RightLaws}
use Rattle.relation_law.proofs.ReturnsStands.{Reports, reports_stand}

-- a call that works holds a grant
pub no_unheld : (s : Server) (c : ℕ) (x : Client) (i : Input) → IsMet s c x → IsUnheld x i → ⊥
no_unheld s c x i met u =
    works u.call.phase u.awaits
    (subst (λ (o : Option Held). PhaseFine (KeptGood s c) o x.outstanding u.call.op u.call.phase) u.held
    (subst (CallFine (KeptGood s c) x.held x.outstanding) u.call_is met.call).1)
  where
    works : (p : Phase) → find (answers u.drive u.reply) (awaited_in p) ≡ Some u.awaited
        → PhaseFine (KeptGood s c) None x.outstanding u.call.op p → ⊥
    works Starts found fine = cc found
    works (Needs n) found fine = cc found
    works (Waits n) found fine = cc found
    works (Reads io) found fine = fine.0
    works (Probes io) found fine = fine.0
    works (Gathers io) found fine = fine.0
    works (Scatters io queue) found fine = fine.0

-- ---- events that leave what is held

-- the machine's client holds a grant
abbrev HoldsOne : State → (c : ℕ) → Type 0
HoldsOne s c = (g : Grant) × (s.held c ≡ Some g)

module _ (s : State) (c : ℕ) (one : HoldsOne s c) where
  performed_holds : (a : Awaited) (p : Phase) → HoldsOne (after_all s (table.performed s c a p)) c
  performed_holds a (Scatters io queue) = one
  performed_holds a Starts = one
  performed_holds a (Needs n) = one
  performed_holds a (Waits n) = one
  performed_holds a (Reads io) = one
  performed_holds a (Probes io) = one
  performed_holds a (Gathers io) = one

  refused_holds : (p : Phase) → HoldsOne (after_all s (table.refused s c p ++ [])) c
  refused_holds (Scatters io queue) = one
  refused_holds Starts = one
  refused_holds (Needs n) = one
  refused_holds (Waits n) = one
  refused_holds (Reads io) = one
  refused_holds (Probes io) = one
  refused_holds (Gathers io) = one

  -- a reply that isn't of another tag
  replied_holds : (a : Awaited) (q : Reply) (p : Phase) → ((q.verdict == PERFORMED) ≡ false → (q.verdict == OTHER_TAG) ≡ false)
      → HoldsOne (after_all s (table.replied s c a q p)) c
  replied_holds a q p other = elim (cases_Bool (q.verdict == PERFORMED)) [
    | inl t ↦ rw t (performed_holds a p)
    | inr f ↦ rw (f, other f) (refused_holds p)
  ]

  turned_holds : (t : Turn) → HoldsOne (after_all s (table.turned s c t)) c
  turned_holds (Ends (Silent k)) = one
  turned_holds (Ends (Lost ps)) = one
  turned_holds (Goes (Needs (Close u (e ∷ es)))) = one
  turned_holds t = one

  told_holds : (op : CallOp) (o : Outcome) → HoldsOne (after_all s (table.ended_with s c op o)) c
  told_holds op (WriteOk n) = elim (cases_Bool (n == 0)) [
    | inl t ↦ rw t one
    | inr f ↦ rw f (elim (cases_Bool (s.acknowledged (write_of s c))) [ inl t ↦ rw t one | inr g ↦ rw g one ])
  ]
  told_holds op (ReadOk bytes) = one
  told_holds op o = one

  -- what is held stays where a call has ended
  ended_holds : (file : ℕ) (op : Option CallOp) (o : Option Outcome) → HoldsOne (after_all s (table.ended s file c op o)) c
  ended_holds file (Some op) (Some o) = elim (cases_Bool (file_of op == file)) [
    | inl t ↦ rw t (told_holds op o)
    | inr f ↦ rw f one
  ]
  ended_holds file None o = one
  ended_holds file (Some op) None = one

-- the last number that a client used isn't the next one
pub not_next : (n m : ℕ) → m ≡ last_before n → m ≡ n → ⊥
not_next n m last same = elim (cases_eq n 0) [
  | inl e ↦ let l = rw (eq-eqb n 0 e) at last in absurd (omega (arith, l, same, e))
  | inr e ↦ let l = rw (ne_eqb n 0 e) at last in absurd (omega (arith, l, same, e))
]

-- ---- an answer

-- nothing was asked yet, and nothing is outstanding
abbrev pub AsksNone : Done → Type 0
AsksNone d = (d.requests ≡ []) × (d.client.outstanding ≡ None)

module _ (x : Client) (a : Answer) where
  abbrev freed : Done
  freed = quiet (record x { outstanding = None })

  turn_none : (d : Done) (op : CallOp) (t : Turn) → AsksNone d → AsksNone (by_turn d op t)
  turn_none d op (Goes p) k = k
  turn_none d op (Ends o) k = k
  turn_none d op (Forgets o) k = k

  given_none : (op : CallOp) (r : Result Held Why) → AsksNone (answered_get freed op r)
  given_none op (Err w) = (refl, refl)
  given_none op (Ok h) = (refl, refl)

  got_none : (op : CallOp) (tries : ℕ) (b : Bool)
      → AsksNone (if b then answered_get freed op (taken a op) else by_turn freed op (not_granted a tries))
  got_none op tries true = given_none op (taken a op)
  got_none op tries false = turn_none freed op (not_granted a tries) (refl, refl)

  commit_none : (op : CallOp) (timed : List TimedOut) (o : Option Held) → AsksNone (commit_under freed op a (Commit timed) o)
  commit_none op timed None = (refl, refl)
  commit_none op timed (Some h) =
      turn_none
      (record (with_held freed (on_commit h op a timed).held) { commands = (on_commit h op a timed).sent }) op
      (on_commit h op a timed).turn (refl, refl)

  need_none : (op : CallOp) (n : Need) → AsksNone (on_need freed op n a)
  need_none op First = (refl, refl)
  need_none op (Get tries) = got_none op tries (status_of a.results == NFS4_OK)
  need_none op (Commit timed) = commit_none op timed (held_of x.held (file_of op))
  need_none op (Report timed) = (refl, refl)
  need_none op (Close u report) = (refl, refl)

  phase_none : (op : CallOp) (p : Phase) → AsksNone (on_phase freed op p a)
  phase_none op (Waits n) = need_none op n
  phase_none op Starts = (refl, refl)
  phase_none op (Needs n) = (refl, refl)
  phase_none op (Reads io) = (refl, refl)
  phase_none op (Probes io) = (refl, refl)
  phase_none op (Gathers io) = (refl, refl)
  phase_none op (Scatters io queue) = (refl, refl)

  pub answered_asked : (o : Option Call) → AsksNone (on_call freed o a)
  answered_asked None = (refl, refl)
  answered_asked (Some call) = phase_none call.op call.phase

-- behind a reply of another tag no grant is held on the call's file
pub forgotten : (x : Client) (file : ℕ) (op : CallOp) (h : Held) (p : Phase) (a : Awaited) (q : Reply) → file_of op ≡ file
    → (q.verdict == PERFORMED) ≡ false → (q.verdict == OTHER_TAG) ≡ true
    → held_of (moved (quiet x) op (replied h op p a q)).client.held file ≡ None
unfolding replied refused
forgotten x file op h p a q here bad tag =
    rw (bad, tag) (subst (λ (n : ℕ). held_of (moved (quiet x) op (turned h (Forgets (refusal a q)))).client.held n ≡ None)
    here (none_left (put_held x.held h) (file_of op)))

-- ---- a turn

-- What is known of a client and of what the machine has of it.
record TurnLaws (file : ℕ) (s : State) (c : ℕ) (x : Client) (i : Input) : Type 0 where
  number : (r : Request) → x.outstanding ≡ Some r → r.sequence ≡ x.next → ⊥
  holding : (h : Held) → held_of x.held file ≡ Some h → HoldsOne s c
  unheld : IsUnheld x i → ⊥
  answered : (a : Answer) → AnswerComes x i a → (h : Held)
      → held_of (on_call (quiet (record x { outstanding = None })) x.call a).client.held file ≡ Some h
      → HoldsOne (after_all s (table.answered s file c x a x.outstanding)) c

module _ (file : ℕ) (s : State) (c : ℕ) (x : Client) (i : Input) (laws : TurnLaws file s c x i) (fresh : i ≡ Resends → ⊥)
  where
    abbrev Held_ : List Event → Step → Type 0
    Held_ es t =
        (r : Request) → t.client.outstanding ≡ Some r → r.sequence ≡ x.next → r.file ≡ file → IsReturning r.args
        → HoldsOne (after_all s es) c

    finish : (es : List Event) (d : Done) → d.requests ≡ []
        → ((r : Request) → d.client.outstanding ≡ Some r → r.sequence ≡ x.next → ⊥)
        → ((h : Held) → held_of d.client.held file ≡ Some h → HoldsOne (after_all s es) c) → Held_ es (finished d)
    finish es d none old held r out number here back =
        let it = finished_held x.next d none old r out number back in
        held it.0 (ap (held_of d.client.held) (sym here) ∙ it.1)

    module _ (op : CallOp) (h : Held) (has : held_of x.held (file_of op) ≡ Some h) (m : Moved) (same : m.held.file ≡ h.file)
      where
        dealt : (es : List Event)
            → ((k : Held) → held_of (moved (quiet x) op m).client.held file ≡ Some k → HoldsOne (after_all s es) c)
            → Held_ es (finished (moved (quiet x) op m))
        dealt es held =
            let both = moved_same (quiet x) op h has m same file in
            finish es (moved (quiet x) op m) both.0 (λ r out. laws.number r (sym both.1 ∙ out)) held

        held_one : (k : Held) → held_of (moved (quiet x) op m).client.held file ≡ Some k → HoldsOne s c
        held_one k e = let b = moved_before (quiet x) op h has m same file k e in laws.holding b.0 b.1

    reply : (drive : ℕ) (q : Reply) (call : Call) (h : Held) (a : Awaited) → IsReplied x i drive q call h a
        → Held_ (where_so (file_of call.op == file) (table.replied s c a q call.phase))
        (finished (moved (quiet x) call.op (replied h call.op call.phase a q)))
    reply drive q call h a k =
        let m : Moved = replied h call.op call.phase a q in
        let same : m.held.file ≡ h.file = file_of_moved h m (replied_file h call.op call.phase a q) in
        elim (cases_Bool (file_of call.op == file)) [
          | inl t ↦ rw t (dealt call.op h k.held m same (table.replied s c a q call.phase) (λ j e.
              replied_holds s c (held_one call.op h k.held m same j e) a q call.phase (λ bad.
              elim (cases_Bool (q.verdict == OTHER_TAG)) [
                | inl tag ↦ absurd (cc (sym e
                    ∙ forgotten x file call.op h call.phase a q (eqb-true (file_of call.op) file t) bad tag))
                | inr f ↦ f
              ])))
          | inr f ↦ rw f (dealt call.op h k.held m same [] (held_one call.op h k.held m same))
        ]

    cases : EventCases file s c x i Held_
    cases = record {
      rests = λ r out number here back. absurd (laws.number r out number);
      nothing = λ op is empty r out number here back. absurd (laws.number r out number);
      called = λ op is none. finish [] (quiet (with_start x op)) refl laws.number laws.holding;
      answered = λ a k.
          finish (table.answered s file c x a x.outstanding) (on_call (quiet (record x { outstanding = None })) x.call a)
          (answered_asked x a x.call).0 (λ r out number. cc (sym (answered_asked x a x.call).1 ∙ out)) (laws.answered a k);
      replied = reply;
      unheld = λ u es t. absurd (laws.unheld u);
      recalled = λ q is. finish [] (obeys x q) refl laws.number laws.holding;
      unmatched = λ q is. finish [] (no_match x q) refl laws.number laws.holding;
      timed = λ n call h a xs k.
          let m : Moved = timed_out h call.op call.phase n a xs in
          let same : m.held.file ≡ h.file = file_of_moved h m (timed_out_file h call.op call.phase n a xs) in
          elim (cases_Bool (file_of call.op == file)) [
            | inl t ↦ rw t (dealt call.op h k.held m same (table.turned s c m.turn) (λ j e.
                turned_holds s c (held_one call.op h k.held m same j e) m.turn))
            | inr f ↦ rw f (dealt call.op h k.held m same [] (held_one call.op h k.held m same))
          ];
      leaves = λ is. finish [] (quiet (record x { due = all_due x.due x.held })) refl laws.number laws.holding;
      resends = λ is es t. absurd (fresh is);
    }

    turn_holds : Held_ (table.at_first s file c x i) (step x i)
    turn_holds = each_event_turn file s c x i Held_ cases

-- ---- at a move

-- what is known of the world
pub record HeldLaws : Type 0 where
  pub right : RightLaws
  pub own : AnswersAreOwn

module _ (laws : HeldLaws) (w : World) (h : List Line) (m : Move) (f g : File) (s : State) (k : FollowsWhole w h m f g s)
    (j : Going) (goes : going_in w m.action ≡ Some j) where
  abbrev file_ : ℕ
  file_ = f.kept.number

  abbrev c_ : ℕ
  c_ = j.client

  abbrev x_ : Client
  x_ = j.state

  abbrev t_ : Option Slot
  t_ = slot_of w.server.slots c_

  pub by : ByClient w m.action j (acts w m.chosen m.action)
  by = parties.client_goes w h k.follows.moment m k.follows.is_due j goes

  pub then_ : client_of w c_ ≡ x_
  then_ = parties.client_before w m.action j (acts w m.chosen m.action) by

  text : AreOfText h
  text = text_front h (take (length (lines_in w m)) (lines_in w m)) k.follows.calm.scenario.text

  few : AreFew h
  few = fewer h (take (length (lines_in w m)) (lines_in w m)) k.follows.calm.scenario.few

  pub through : IsReadableThrough h
  through = laws.right.readable h (lawful_at w h k.follows.moment) text few

  pub readable : IsReadable w
  readable = readable_there w h k.follows.moment through

  pub low : c_ < CLIENTS
  low = client_low w h k.follows.moment text c_ by.before by.found

  pub agree : RequestsAgree file_ f.kept.map s w.server c_ x_
  agree =
      subst (λ (z : Client). RequestsAgree file_ f.kept.map s w.server c_ z) then_ (k.follows.related.clients c_ low).slot

  pub is_client : IsClient file_ f.kept.map s c_ x_ (kept_for t_ x_.outstanding)
  is_client =
      subst (λ (z : Client). IsClient file_ f.kept.map s c_ z (kept_for t_ z.outstanding)) then_
      (k.follows.related.clients c_ low).client

  pub met : IsMet w.server c_ x_
  met = subst (IsMet w.server c_) then_ (laws.right.world.agree w h k.follows.moment through c_)

  pub asks : AsksFor x_
  asks = subst AsksFor then_ (clients_ask_for w (reached w h k.follows.moment) c_)

  pub reports : Reports w.server c_ x_
  reports = subst (Reports w.server c_) then_ (reports_stand laws.right.world w h k.follows.moment through c_)

  pub safe : Safe s
  safe =
      let checked : IsChecked f.kept.map = (readable.files file_ f k.follows.there).map in
      safe_of s k.follows.run
      (subst IsCode (sym k.follows.related.layout) (layouts_are_codes f.kept.map f.kept.first_tag checked))

  pub outstanding_is : (r : Request) → x_.outstanding ≡ Some r → IsOutstanding file_ f.kept.map s t_ c_ x_ r
  outstanding_is r out = subst (λ (o : Option Request). RequestIs file_ f.kept.map s t_ c_ x_ o) out agree.request

  pub number_ : (r : Request) → x_.outstanding ≡ Some r → r.sequence ≡ x_.next → ⊥
  number_ r out same = not_next x_.next r.sequence ((outstanding_is r out).sequence ∙ agree.sequence) same

  holding_ : (hh : Held) → held_of x_.held file_ ≡ Some hh → HoldsOne s c_
  holding_ hh has =
      let held : HeldIs file_ f.kept.map s c_ x_ (kept_for t_ x_.outstanding) (Some hh) =
      subst (HeldIs file_ f.kept.map s c_ x_ (kept_for t_ x_.outstanding)) has is_client.held in
      (held.grant, held.held)

  -- a call that works holds a grant
  pub unheld_ : IsUnheld x_ j.input → ⊥
  unheld_ = no_unheld w.server c_ x_ j.input met

  -- the answer that is taken is the one that the server keeps for the outstanding request
  own_it : (from : Node) (b : Message) (a : Answer) → j.input ≡ Hears from b → takes x_ from b ≡ Some (TakesAnswer a)
      → (r : Request) → x_.outstanding ≡ Some r
      → (slot : Slot) × (t_ ≡ Some slot) × (slot.last ≡ r.sequence) × (a ≡ slot.kept)
  own_it from b a is took r out =
      let heard : IsForClient w m.action c_ by.before (Hears from b) =
      subst (IsForClient w m.action c_ by.before) is by.input_is in
      let d = heard.0 in
      let took_it : takes by.before.state d.posted.message.from b ≡ Some (TakesAnswer a) =
      ap (λ (n : Node). takes by.before.state n b) (sym heard.1) ∙ ap (λ (z : Client). takes z from b) (sym by.state_is)
      ∙ took in
      let own : TakesOwn w h c_ by.before.state d.posted a =
      laws.own w h k.follows.moment c_ by.before by.found d.number d.posted d.there d.receiver b a heard.2 took_it in
      let same : own.request ≡ r =
      cc (sym own.outstanding ∙ ap (λ (z : Client). z.outstanding) (sym by.state_is) ∙ out) in (
        own.slot,
        own.kept,
        own.last ∙ ap (λ (z : Request). z.sequence) same,
        own.exact (readable.answers c_ own.slot own.kept),
      )

  pub kept_it : (from : Node) (b : Message) (a : Answer) → j.input ≡ Hears from b → takes x_ from b ≡ Some (TakesAnswer a)
      → (r : Request) → x_.outstanding ≡ Some r → kept_by t_ r ≡ Some a
  kept_it from b a is took r out =
      let own = own_it from b a is took r out in
      ap (λ (o : Option Slot). kept_by o r) own.1
      ∙ ap (λ (z : Bool). if z then Some own.0.kept else None) (eq-eqb own.0.last r.sequence own.2)
      ∙ ap (λ (z : Answer). Some z) (sym own.3)

  -- which was carried out last of the client's
  pub served_it : (from : Node) (b : Message) (a : Answer) → j.input ≡ Hears from b → takes x_ from b ≡ Some (TakesAnswer a)
      → (r : Request) → x_.outstanding ≡ Some r → last_of t_ ≡ r.sequence
  served_it from b a is took r out = let own = own_it from b a is took r out in ap last_of own.1 ∙ own.2

  answered_ : (a : Answer) → AnswerComes x_ j.input a → (hh : Held)
      → held_of (on_call (quiet (record x_ { outstanding = None })) x_.call a).client.held file_ ≡ Some hh
      → HoldsOne (after_all s (table.answered s file_ c_ x_ a x_.outstanding)) c_
  answered_ a n hh has =
      let r : Request = n.request in
      let kept = kept_it n.from n.message a n.is n.takes_it r n.outstanding in
      let client : IsClient file_ f.kept.map s c_ x_ (Some a) =
      subst (λ (o : Option Answer). IsClient file_ f.kept.map s c_ x_ o) (ap (kept_for t_) n.outstanding ∙ kept) is_client in
      let fits =
      answer_fits file_ w.server c_ x_ r n.outstanding a kept asks met
      (λ (op : CallOp) (report : List IoErr). CantBeBorne w.server c_ (file_of op) (report_read report)) reports in
      let mid =
      answered_mid file_ f.kept.map c_ s safe.slots safe.holds safe.calls x_ t_ a r kept client (outstanding_is r n.outstanding)
      agree.slot fits in
      let t : State = after_all s (table.answered s file_ c_ x_ a (Some r)) in
      let held =
      subst (HeldIs file_ f.kept.map t c_ (on_call (quiet (record x_ { outstanding = None })) x_.call a).client None) has
      mid.held in
      subst (λ (o : Option Request). HoldsOne (after_all s (table.answered s file_ c_ x_ a o)) c_) (sym n.outstanding)
      (held.grant, held.held)

  turn : TurnLaws file_ s c_ x_ j.input
  turn = record { number = number_; holding = holding_; unheld = unheld_; answered = answered_ }

  back : (r : Request) → (step x_ j.input).client.outstanding ≡ Some r → r.sequence ≡ x_.next → r.file ≡ file_
      → IsReturning r.args → HoldsOne (ended_behind s file_ j) c_
  back r out number here returns =
      ended_holds (first_behind s file_ j) c_ (by_input j.input refl) file_ (op_in x_ j.input) (step x_ j.input).outcome
    where
      fresh : (i : Input) → j.input ≡ i → (i ≡ Resends → ⊥) → HoldsOne (first_behind s file_ j) c_
      fresh i is other = turn_holds file_ s c_ x_ j.input turn (λ e. other (sym is ∙ e)) r out number here returns

      by_input : (i : Input) → j.input ≡ i → HoldsOne (first_behind s file_ j) c_
      by_input Resends is = absurd (number_ r (subst (λ (i : Input). (step x_ i).client.outstanding ≡ Some r) is out) number)
      by_input (Calls op) is = fresh (Calls op) is (λ e. cc e)
      by_input (Hears n b) is = fresh (Hears n b) is (λ e. cc e)
      by_input (TimesOut n) is = fresh (TimesOut n) is (λ e. cc e)
      by_input Leaves is = fresh Leaves is (λ e. cc e)

  by_args : (r : Request) → (step x_ j.input).client.outstanding ≡ Some r → r.sequence ≡ x_.next → r.file ≡ file_
      → (a : Args) → r.args ≡ a
      → HoldsWhatReturns (ended_behind s file_ j) c_ (phase_of (step x_ j.input).client.call) a
  by_args r out number here (args.LayoutGet z) is = tt
  by_args r out number here (args.LayoutCommit z) is = tt
  by_args r out number here (args.LayoutReturn z) is = λ b class. back r out number here (subst IsReturning (sym is) tt)

-- Returns are held.
pub returns_are_held : HeldLaws → ReturnsAreHeld
returns_are_held laws w h m f g s k j goes r out number here = by_args laws w h m f g s k j goes r out number here r.args refl
