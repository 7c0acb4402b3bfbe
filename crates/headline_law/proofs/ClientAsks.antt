-- The end of a client's turn: what it asks of the server, and what it sends to drives, has events that can happen.
use Rattle.std.proofs.Common.{◌≡◌, ◌==◌, ℕ, Bool, true, false, List, [], ◌∷◌, ◌++◌, map, Option, Some, None, refl, sym, ap, subst, ◌∙◌}
use Rattle.std.proofs.lemmas.Bool.{eq-eqb, eqb-true}
use Rattle.data_map.specs.declared.check.RawMap.{RawMap}
use Rattle.client_rules.specs.Calls.{file_of}
use Rattle.client_rules.specs.Going.{asks_server, asks_under, progressed, request_of, requests, returns}
use Rattle.client_rules.specs.Grants.{held_of}
use Rattle.client_rules.specs.Messages.{to_drive, sends_of}
use Rattle.client_rules.specs.Requests.{args_of, return_args}
use Rattle.history_law.proofs.Turns.{each_progress}
use Rattle.world_history.specs.ServerNames.{Slot}
use Rattle.world_history.specs.ClientNames.{Client, Call, CallOp, Held, Due, Request, Awaited, RecallAnswer, Need, First, Get, Commit, Report, Close, Phase, Starts, Needs, Waits, Reads, Probes, Gathers, Scatters, Done, Asks, AnswersRecall}
use Rattle.fence_law.specs.State.{State}
use Rattle.fence_law.specs.Machine.{Lawful, after_all}
use Rattle.file_simulation.specs.ClientEvents as table
use Rattle.file_simulation.specs.Requests.{kept_for, AwaitsNothing}
use Rattle.file_simulation.specs.Calls.{IsIdle, HeldIs, NeedIs, reports_on}
use Rattle.relation_law.specs.CallsTurns.{PhaseOn, EndIs, PendsAt, IsMid, NeedHas, IsWorking}
use Rattle.relation_law.specs.Requests.{CallAllows}
use Rattle.relation_law.proofs.CallsAsks.{asked_client, asked_args}
use Rattle.relation_law.proofs.CallsGuards.{asks_commit_allowed}
use Rattle.relation_law.proofs.CallsMid.{held_plain}
use Rattle.relation_law.proofs.CallsTurned.{returned}
use Rattle.relation_law.proofs.CallsTells.{recalls_told}
use Rattle.relation_law.proofs.RequestsAskLawful.{asks_lawful}
use Rattle.headline_law.proofs.ClientMessages.{MaySendThese, messages_more, recalls_may, commands_may}

-- ---- what the call needs allows what it asks

allows : (s : State) (c : ℕ) (op : CallOp) (n : Need) (q : Option Held) → NeedIs s c op n → NeedHas n q →
    (q ≡ None → s.held c ≡ None) → ((tries : ℕ) → n ≡ Get tries → q ≡ None) →
    CallAllows s c (Some (Waits n)) (asked_args op n q)
unfolding args_of
allows s c op First None idle has none gets = record { held = none refl; idle = idle.at_ }
allows s c op First (Some h) idle has none gets = record { idle = λ e. idle.at_; broken = λ e. absurd (cc e) }
allows s c op (Get tries) None idle has none gets = record { held = none refl; idle = idle.at_ }
allows s c op (Get tries) (Some h) idle has none gets = absurd (cc (gets tries refl))
allows s c op (Commit timed) (Some h) (j, k) has none gets = asks_commit_allowed s c op j k.writing
allows s c op (Report timed) (Some h) k has none gets = record { idle = λ e. absurd (cc e); broken = λ e. absurd (cc e) }
allows s c op (Close u []) (Some h) idle has none gets = record { idle = λ e. idle.at_; broken = λ e. absurd (cc e) }
allows s c op (Close u (i ∷ es)) (Some h) broken has none gets =
    record { idle = λ e. absurd (cc e); broken = λ e. broken.at_ }
allows s c op (Commit timed) None k has none gets = absurd has
allows s c op (Report timed) None k has none gets = absurd has
allows s c op (Close u report) None k has none gets = absurd has

-- ---- messages

-- one request, and then commands
one_may : (s : State) (file c : ℕ) (x : Client) (rs : List RecallAnswer) (qs : List Request) (r : Request)
    (cs : List Awaited) → qs ≡ [] → Lawful s (table.asks s file c x r) →
    MaySendThese (after_all s (table.asks s file c x r)) file c x (map to_drive cs) →
    MaySendThese s file c x (map AnswersRecall rs ++ (map Asks (qs ++ r ∷ []) ++ map to_drive cs))
one_may s file c x rs qs r cs none lawful rest =
    messages_more s file c x (map AnswersRecall rs) (map Asks (qs ++ r ∷ []) ++ map to_drive cs) (recalls_may s file c x rs)
    (subst (λ (t : State). MaySendThese t file c x (map Asks (qs ++ r ∷ []) ++ map to_drive cs))
    (sym (recalls_told s file c x rs))
    (subst (λ (l : List Request). MaySendThese s file c x (map Asks (l ++ r ∷ []) ++ map to_drive cs)) (sym none)
    (lawful, rest)))

-- none, and then commands
none_may : (s : State) (file c : ℕ) (x : Client) (rs : List RecallAnswer) (qs : List Request) (cs : List Awaited) →
    qs ≡ [] → MaySendThese s file c x (map to_drive cs) →
    MaySendThese s file c x (map AnswersRecall rs ++ (map Asks qs ++ map to_drive cs))
none_may s file c x rs qs cs none rest =
    messages_more s file c x (map AnswersRecall rs) (map Asks qs ++ map to_drive cs) (recalls_may s file c x rs)
    (subst (λ (t : State). MaySendThese t file c x (map Asks qs ++ map to_drive cs)) (sym (recalls_told s file c x rs))
    (subst (λ (l : List Request). MaySendThese s file c x (map Asks l ++ map to_drive cs)) (sym none) rest))

module _ (file : ℕ) (m : RawMap) (c : ℕ) (s : State) (op : Option CallOp) (slot : Option Slot) (d : Done)
    (k : IsMid file m s c (kept_for slot d.client.outstanding) op d) (over : d.outcome ≡ None) where
  abbrev y : Client
  y = d.client

  -- What is asked of a turn that ends so: a client without a request waits for nothing, one that needs a layout holds none, and
  -- the commands of a call that works may be sent.
  pub record EndMay : Type 0 where
    pub rests : y.outstanding ≡ None → AwaitsNothing s c
    pub gets : (p : CallOp) (tries : ℕ) → y.call ≡ Some (record { op = p; phase = Needs (Get tries) }) →
        held_of y.held (file_of p) ≡ None
    pub works : (call : Call) → y.call ≡ Some call → (file_of call.op == file) ≡ true → IsWorking call.phase →
        MaySendThese s file c y (map to_drive d.commands)

  module _ (may : EndMay) where
    abbrev pub IsSentSo : Done → Type 0
    IsSentSo e = MaySendThese s file c e.client (sends_of e)

    pends : (z : Option Call) → y.call ≡ z → PendsAt file m s c (kept_for slot y.outstanding) op None d.commands z
    pends z e = subst (λ q. PendsAt file m s c (kept_for slot y.outstanding) op None d.commands q) e
        (subst (λ u. PendsAt file m s c (kept_for slot y.outstanding) op u d.commands y.call) over k.call)

    on_by : (call : Call) → y.call ≡ Some call → (b : Bool) → (file_of call.op == file) ≡ b →
        PhaseOn b m s c call (kept_for slot y.outstanding) d.commands
    on_by call is b e =
        subst (λ z. PhaseOn z m s c call (kept_for slot y.outstanding) d.commands) e (pends (Some call) is)

    -- ---- commands

    none_now : d.commands ≡ [] → MaySendThese s file c y (map to_drive d.commands)
    none_now e = subst (λ (cs : List Awaited). MaySendThese s file c y (map to_drive cs)) (sym e) tt

    by_phase : (call : Call) → y.call ≡ Some call → (file_of call.op == file) ≡ true → (p : Phase) → call.phase ≡ p →
        PhaseOn true m s c (record { op = call.op; phase = p }) (kept_for slot y.outstanding) d.commands →
        MaySendThese s file c y (map to_drive d.commands)
    by_phase call is here Starts e w = none_now w.0
    by_phase call is here (Needs n) e w = none_now w.0
    by_phase call is here (Waits n) e w = none_now w.0
    by_phase call is here (Reads io) e w = may.works call is here (subst IsWorking (sym e) tt)
    by_phase call is here (Probes io) e w = may.works call is here (subst IsWorking (sym e) tt)
    by_phase call is here (Gathers io) e w = may.works call is here (subst IsWorking (sym e) tt)
    by_phase call is here (Scatters io queue) e w = may.works call is here (subst IsWorking (sym e) tt)

    by_here : (call : Call) → y.call ≡ Some call → (b : Bool) → (file_of call.op == file) ≡ b →
        MaySendThese s file c y (map to_drive d.commands)
    by_here call is true e = by_phase call is e call.phase refl (on_by call is true e)
    by_here call is false e = commands_may s file c y d.commands (λ t z. rw (is, e) refl)

    by_call : (z : Option Call) → y.call ≡ z → MaySendThese s file c y (map to_drive d.commands)
    by_call None e = commands_may s file c y d.commands (λ t z. rw e refl)
    by_call (Some call) e = by_here call e (file_of call.op == file) refl

    rests : IsSentSo d
    rests = none_may s file c y d.recalls d.requests d.commands k.unasked (by_call y.call refl)

    -- ---- the call asks

    module _ (p : CallOp) (n : Need) (is : y.call ≡ Some (record { op = p; phase = Needs n })) (out : y.outstanding ≡ None)
        (q : Option Held) (held : held_of y.held (file_of p) ≡ q) where
      abbrev x : Client
      x = asked_client y p n (asked_args p n q)

      abbrev r : Request
      r = request_of y (file_of p) (asked_args p n q)

      quiet : (file_of p == file) ≡ true → reports_on file y.call ≡ false
      quiet here = ap (reports_on file) is ∙ rw here refl

      -- without a grant the machine's client holds none
      holds_none : (here : (file_of p == file) ≡ true) → q ≡ None → s.held c ≡ None
      holds_none here none =
          let there : held_of y.held file ≡ None =
          subst (λ (f : ℕ). held_of y.held f ≡ None) (eqb-true (file_of p) file here) (held ∙ none) in
          held_plain file m s c y (record y { call = None }) (kept_for slot y.outstanding) None None (quiet here) refl
          (subst (HeldIs file m s c y (kept_for slot y.outstanding)) there k.held)

      allowed : (here : (file_of p == file) ≡ true) → CallAllows s c (Some (Waits n)) (asked_args p n q)
      allowed here =
          let there : held_of y.held file ≡ q =
          subst (λ (f : ℕ). held_of y.held f ≡ q) (eqb-true (file_of p) file here) held in
          allows s c p n q (on_by (record { op = p; phase = Needs n }) is true here).1
          (subst (NeedHas n) there (k.needs p n is here))
          (holds_none here)
          (λ tries same. sym held ∙ may.gets p tries (is ∙ ap (λ (z : Need). Some (record { op = p; phase = Needs z })) same))

      lawful : Lawful s (table.asks s file c x r)
      lawful = asks_lawful s c (may.rests out) file x r (λ e. allowed (eq-eqb (file_of p) file e))

      behind : (b : Bool) → (file_of p == file) ≡ b →
          MaySendThese (after_all s (table.asks s file c x r)) file c x (map to_drive d.commands)
      behind true here =
          let none : d.commands ≡ [] = (on_by (record { op = p; phase = Needs n }) is true here).0 in
          subst (λ (cs : List Awaited). MaySendThese (after_all s (table.asks s file c x r)) file c x (map to_drive cs))
          (sym none) tt
      behind false off = commands_may (after_all s (table.asks s file c x r)) file c x d.commands (λ t z. rw off refl)

      asks : IsSentSo (asks_server d p n (asked_args p n q))
      unfolding requests
      asks = one_may s file c x d.recalls d.requests r d.commands k.unasked lawful (behind (file_of p == file) refl)

    asks_of : (p : CallOp) (n : Need) (q : Option Held) → y.call ≡ Some (record { op = p; phase = Needs n }) →
        y.outstanding ≡ None → held_of y.held (file_of p) ≡ q → IsSentSo (asks_under d p n q)
    asks_of p n None is out held = asks p n is out None held
    asks_of p n (Some h) is out held = asks p n is out (Some h) held

    -- ---- a grant that is due goes back

    module _ (none : y.call ≡ None) (out : y.outstanding ≡ None) where
      idle : IsIdle s c
      idle = at_end op (pends None none)
        where
          at_end : (p : Option CallOp) → EndIs file s c p None → IsIdle s c
          at_end None w = w
          at_end (Some p) w = w

      quiet_now : (t : State) (x : Client) (cs : List Awaited) → x.call ≡ None → MaySendThese t file c x (map to_drive cs)
      quiet_now t x cs e = commands_may t file c x cs (λ u z. rw e refl)

      due_of : (u : Option Due) → IsSentSo (returns d u)
      unfolding requests
      due_of None = none_may s file c (record y { due = [] }) d.recalls d.requests d.commands k.unasked
          (quiet_now s (record y { due = [] }) d.commands none)
      due_of (Some u) =
          let x : Client = returned y u in
          let r : Request = request_of y u.file (return_args u.number []) in
          one_may s file c x d.recalls d.requests r d.commands k.unasked
          (asks_lawful s c (may.rests out) file x r
          (λ e. rw none (record { idle = λ z. idle.at_; broken = λ z. absurd (cc z) })))
          (quiet_now (after_all s (table.asks s file c x r)) x d.commands none)

    -- ---- to its end

    pub turn_may : IsSentSo (progressed d)
    turn_may = each_progress d IsSentSo (record {
      waits = λ r out. rests;
      works = λ call is out. rests;
      spent = λ none out z. rests;
      asks = λ p n h is out held. asks_of p n h is out held;
      gives_back = λ u none out some found. due_of none out u;
    })
