-- A read that a reply or a timeout ends is answered by what it got, which was shown; an answer of the server ends none.
use Rattle.std.proofs.Common.{◌≡◌, ◌==◌, ◌++◌, ℕ, Bool, true, false, List, [], ◌∷◌, Option, Some, None, refl, sym, subst, ◌∙◌, inl, inr, if◌then◌else◌}
use Rattle.data_map.specs.declared.check.RawMap.{RawMap}
use Rattle.data_map.specs.Check.{IsChecked}
use Rattle.stripe_plan.specs.declared.plan.Column.{Column}
use Rattle.stripe_plan.specs.Words.{answered}
use Rattle.layout_ops.specs.declared.messages.Answer.{Answer}
use Rattle.osd_commands.specs.declared.replies.Reply.{Reply}
use Rattle.server_rules.specs.Laws.{In}
use Rattle.server_rules.proofs.Members.{in_either}
use Rattle.client_rules.specs.declared.limits.TheConstants.{PERFORMED, OTHER_TAG}
use Rattle.client_rules.specs.Answers.{on_report}
use Rattle.client_rules.specs.Calls.{file_of, span_of}
use Rattle.client_rules.specs.Going.{quiet}
use Rattle.client_rules.specs.Grants.{held_of, clipped}
use Rattle.client_rules.specs.Io.{awaited_in, got_of}
use Rattle.client_rules.specs.Messages.{on_call, on_need, on_phase}
use Rattle.client_rules.proofs.ReadMoves.{FitsOutcome}
use Rattle.client_rules.proofs.ReadSteps.{report_fits}
use Rattle.world_history.specs.ClientNames.{Awaited, Call, CallOp, Client, Done, Held, Io, IoErr, Request, Need, First, Get, Commit, Report, Close, Outcome, Phase, Starts, Needs, Waits, Reads, Probes, Gathers, Scatters, ReadOk, Silent, Lost, Turn, Goes, Ends}
use Rattle.world_history.specs.State.{World}
use Rattle.fence_law.specs.Machine.{Allowed, after, after_all}
use Rattle.fence_law.specs.State.{State, Event}
use Rattle.fence_law.specs.State.{Event as event}
use Rattle.fence_law.specs.State.Call.{Idle, Broken, Reads as AtRead, Writes as AtWrite}
use Rattle.fence_law.specs.State.Commit.{NoCommit}
use Rattle.fence_law.proofs.Safe.{Safe}
use Rattle.fence_law.proofs.Words.{updated_same}
use Rattle.plan_law.specs.FileLayout.{layout_of}
use Rattle.file_simulation.specs.Calls.{CallIs, IsHolding, IsReading}
use Rattle.file_simulation.specs.ClientEvents as table
use Rattle.file_simulation.specs.EventLists.{entry_of, where_so}
use Rattle.file_simulation.specs.Messages.{AreShown, ShownIn, WasShown}
use Rattle.relation_law.specs.CallsFits.{AnswerFits}
use Rattle.relation_law.specs.CallsTurns.{IsWorking, OutcomeIs}
use Rattle.relation_law.proofs.CallsGuards.{entry_reads}
use Rattle.relation_law.proofs.MessagesClients.{HasRead, ReadEnds}
use Rattle.relation_law.proofs.MessagesGathers.{HasBytes}
use Rattle.relation_law.proofs.MessagesRun.{FineDone, call_bytes, held_gives, on_get_fine, over_fine, phased_fine}
use Rattle.relation_law.proofs.MessagesTaken.{taken_usable}
use Rattle.relation_law.proofs.MessagesTurns.{got_by}
use Rattle.relation_law.proofs.Plans.{WasHeard}
use Rattle.relation_law.proofs.ReadsAnswers.{answer_allowed}
use Rattle.relation_law.proofs.ReadsShown.{AllShown}

-- no read is answered
abbrev pub Never : List ℕ → Type 0
Never bytes = ⊥

-- ---- an answer of the server

module _ (file : ℕ) (s : State) (c : ℕ) (x : Client) (a : Answer) (r : Request) (fits : AnswerFits file x a r) where
  abbrev freed : Done
  freed = quiet (record x { outstanding = None })

  -- a call that closes has not ended with a read's answer
  closes : (op : CallOp) (u : Outcome) (report : List IoErr) →
      x.call ≡ Some (record { op = op; phase = Waits (Close u report) }) → FitsOutcome Never u
  closes op (ReadOk bytes) report is =
      let t : State = record s { call = λ d. Idle; commit = λ d. NoCommit } in
      let z : OutcomeIs t c op (ReadOk bytes) =
      fits.closes op (ReadOk bytes) report is t c (record { at_ = refl; commit = refl }) in
      cc z.1.at_
  closes op u report is = tt

  by_need : (op : CallOp) (n : Need) → x.call ≡ Some (record { op = op; phase = Waits n }) → FineDone Never freed → HasBytes op →
      FineDone Never (on_need freed op n a)
  by_need op First is f b = phased_fine Never freed op Starts f b (λ h o. tt)
  by_need op (Get tries) is f b = on_get_fine taken_usable Never freed op tries a f b
  by_need op (Commit timed) is f b = held_gives freed op a timed Never (held_of x.held (file_of op)) refl f b
  by_need op (Report timed) is f b = over_fine Never freed (on_report op a timed) f (report_fits Never op a timed)
  by_need op (Close u report) is f b = over_fine Never freed u f (closes op u report is)

  by_phase : (op : CallOp) (p : Phase) → x.call ≡ Some (record { op = op; phase = p }) → FineDone Never freed → HasBytes op →
      FineDone Never (on_phase freed op p a)
  by_phase op (Waits n) is f b = by_need op n is f b
  by_phase op Starts is f b = f
  by_phase op (Needs n) is f b = f
  by_phase op (Reads io) is f b = f
  by_phase op (Probes io) is f b = f
  by_phase op (Gathers io) is f b = f
  by_phase op (Scatters io queue) is f b = f

  -- so it answers no read
  pub answered_never : (o : Option Call) → x.call ≡ o → FineDone Never freed → FineDone Never (on_call freed o a)
  answered_never None is f = f
  answered_never (Some call) is f = by_phase call.op call.phase is f (call_bytes x.held x.call call is f.call)

-- ---- a read

-- what a reply gives was shown, and so was what the call had got
shown_more : (s : State) (w : World) (c j : ℕ) (io : Io) (a : Awaited) (q : Reply) → AreShown s w c j io → In a io.awaited →
    WasHeard w c a q → AllShown s j (io.got ++ got_of a q ∷ [])
shown_more s w c j io a q sh there heard col i = elim (in_either col io.got (got_of a q ∷ []) i) [
  | inl old ↦ sh.got col old
  | inr new ↦ elim new [
    | inl is ↦ (
      a.ask.component,
      subst (WasShown s j a.ask.component) (heard.got ∙ sym is)
          (sh.replied a heard.reply there heard.replied heard.answers heard.performed),
    )
    | inr none ↦ absurd none
  ]
]

module _ (m : RawMap) (tag : ℕ) (s : State) (c : ℕ) (h : Held) (op : CallOp) (w : World) (layout : s.layout ≡ layout_of m tag)
    (checked : IsChecked m) (safe : Safe s) (holding : IsHolding m s c h) where
  -- its answer is allowed
  abbrev MayBe : State → List ℕ → Type 0
  MayBe t bytes = Allowed t (event.Answers c (entry_of t c) (table.answer_from (span_of op).offset bytes))

  answer_may : (got : List Column) (bytes : List ℕ) → ReadEnds h op got bytes → (j : ℕ) → IsReading s c op j →
      AllShown s j got → MayBe s bytes
  answer_may got bytes (out, is, has) j reading shown =
      subst (λ (l : List ℕ). MayBe s l) (sym is)
      (subst (λ (n : ℕ). Allowed s (event.Answers c n (table.answer_from (span_of op).offset
      (answered h.map (clipped h.size (span_of op)) got out)))) (sym (entry_reads s c j reading.at_))
      (answer_allowed m tag s c h op j got out layout checked holding reading safe
      (subst (λ (n : RawMap). HasRead n h op got out) holding.same.agrees.map has) shown))

  -- ---- behind a reply

  forgot : (t : State) (j : ℕ) → (after t (event.Forgets c)).call c ≡ AtRead j → ⊥
  forgot t j e = cc (sym (updated_same t.call c Idle) ∙ e)

  -- a call of which a command was refused reads no more
  refused_none : (p : Phase) (b : Bool) (j : ℕ) →
      (after_all s (table.refused s c p ++ where_so b (event.Forgets c ∷ []))).call c ≡ AtRead j → ⊥
  refused_none (Scatters io queue) true j e = forgot (after s (event.Breaks c (entry_of s c))) j e
  refused_none (Scatters io queue) false j e = cc (sym (updated_same s.call c Broken) ∙ e)
  refused_none p true j e = forgot (after s (event.EndsRead c (entry_of s c))) j e
  refused_none p false j e = cc (sym (updated_same s.call c Idle) ∙ e)

  module _ (a : Awaited) (q : Reply) (o : Option Answer) where
    -- what comes of the verdict
    abbrev by_verdict : Bool → Phase → List Event
    by_verdict b p =
        if b then table.performed s c a p
        else table.refused s c p ++ where_so (q.verdict == OTHER_TAG) (event.Forgets c ∷ [])

    reply_by : (p : Phase) (b : Bool) → IsWorking p → CallIs m s c op o p → In a (awaited_in p) →
        ((j : ℕ) → s.call c ≡ AtRead j → ShownIn s w c j p) → (b ≡ true → WasHeard w c a q) → (bytes : List ℕ) →
        ReadEnds h op (got_by p ++ got_of a q ∷ []) bytes → (j : ℕ) → IsReading (after_all s (by_verdict b p)) c op j →
        MayBe (after_all s (by_verdict b p)) bytes
    reply_by p false works k there shown heard bytes ends j r = absurd (refused_none p (q.verdict == OTHER_TAG) j r.at_)
    reply_by (Reads io) true works k there shown heard bytes ends j r =
        answer_may (io.got ++ got_of a q ∷ []) bytes ends j r
        (shown_more s w c j io a q (shown j r.at_) there (heard refl))
    reply_by (Probes io) true works k there shown heard bytes ends j r =
        answer_may (io.got ++ got_of a q ∷ []) bytes ends j r
        (shown_more s w c j io a q (shown j r.at_) there (heard refl))
    reply_by (Gathers io) true works k there shown heard bytes ends j r =
        answer_may (io.got ++ got_of a q ∷ []) bytes ends j r
        (shown_more s w c j io a q (shown j r.at_) there (heard refl))
    reply_by (Scatters io queue) true works (n, k) there shown heard bytes ends j r =
        absurd (other n j (sym k.writing.at_ ∙ r.at_))
      where
        other : (n j : ℕ) → AtWrite n ≡ AtRead j → ⊥
        other n j e = cc e
    reply_by p true works k there shown heard bytes ends j r = absurd works

    -- a read that a reply ends
    pub reply_answers : (p : Phase) → IsWorking p → CallIs m s c op o p → In a (awaited_in p) →
        ((j : ℕ) → s.call c ≡ AtRead j → ShownIn s w c j p) → ((q.verdict == PERFORMED) ≡ true → WasHeard w c a q) →
        (bytes : List ℕ) → ReadEnds h op (got_by p ++ got_of a q ∷ []) bytes → (j : ℕ) →
        IsReading (after_all s (table.replied s c a q p)) c op j → MayBe (after_all s (table.replied s c a q p)) bytes
    reply_answers p works k there shown heard bytes ends j r =
        reply_by p (q.verdict == PERFORMED) works k there shown heard bytes ends j r

  -- ---- behind a timeout

  -- a call that still reads had no event
  turned_none : (t : Turn) (j : ℕ) → (after_all s (table.turned s c t)).call c ≡ AtRead j → table.turned s c t ≡ []
  turned_none (Ends (Silent n)) j e = absurd (cc (sym (updated_same s.call c Idle) ∙ e))
  turned_none (Ends (Lost ps)) j e = absurd (cc (sym (updated_same s.call c Idle) ∙ e))
  turned_none (Goes (Needs (Close u (i ∷ es)))) j e = absurd (cc (sym (updated_same s.call c Broken) ∙ e))
  turned_none t j e = refl

  time_by : (o : Option Answer) (p : Phase) → IsWorking p → CallIs m s c op o p →
      ((j : ℕ) → s.call c ≡ AtRead j → ShownIn s w c j p) → (bytes : List ℕ) → ReadEnds h op (got_by p) bytes → (j : ℕ) →
      IsReading s c op j → MayBe s bytes
  time_by o (Reads io) works k shown bytes ends j r = answer_may io.got bytes ends j r (shown j r.at_).got
  time_by o (Probes io) works k shown bytes ends j r = answer_may io.got bytes ends j r (shown j r.at_).got
  time_by o (Gathers io) works k shown bytes ends j r = answer_may io.got bytes ends j r (shown j r.at_).got
  time_by o (Scatters io queue) works (n, k) shown bytes ends j r = absurd (other n j (sym k.writing.at_ ∙ r.at_))
    where
      other : (n j : ℕ) → AtWrite n ≡ AtRead j → ⊥
      other n j e = cc e
  time_by o p works k shown bytes ends j r = absurd works

  -- a read that a timeout ends
  pub time_answers : (o : Option Answer) (p : Phase) → IsWorking p → CallIs m s c op o p →
      ((j : ℕ) → s.call c ≡ AtRead j → ShownIn s w c j p) → (t : Turn) → (bytes : List ℕ) → ReadEnds h op (got_by p) bytes →
      (j : ℕ) → IsReading (after_all s (table.turned s c t)) c op j → MayBe (after_all s (table.turned s c t)) bytes
  time_answers o p works k shown t bytes ends j r =
      let none : table.turned s c t ≡ [] = turned_none t j r.at_ in
      subst (λ (l : List Event). MayBe (after_all s l) bytes) (sym none)
      (time_by o p works k shown bytes ends j (subst (λ (l : List Event). IsReading (after_all s l) c op j) none r))
