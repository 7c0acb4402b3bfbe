-- The end of a client's turn: a request may go out, and behind all its messages the machine has of the client what it has.
-- Towards `CallsGoOn` (`specs/Steps.antt`).
use Rattle.std.proofs.Common.{◌≡◌, ◌==◌, ℕ, ◌^◌, ◌<◌, Bool, true, false, List, [], ◌∷◌, ◌++◌, map, Option, Some, None, refl, sym, ap, subst, ◌∙◌}
use Rattle.std.proofs.lemmas.Bool.{true≢false, eqb-true, eq-eqb}
use Rattle.data_map.specs.declared.check.RawMap.{RawMap}
use Rattle.layout_ops.specs.declared.args.Args.{Args}
use Rattle.layout_ops.specs.declared.args.Args.TheVariants as args
use Rattle.client_rules.specs.Calls.{file_of}
use Rattle.client_rules.specs.Going.{after_number, asks_server, asks_under, due_behind, held_after, progressed, request_of, requests, returns}
use Rattle.client_rules.specs.Grants.{held_of, without_held}
use Rattle.client_rules.specs.Messages.{to_drive, sends_of}
use Rattle.client_rules.specs.Requests.{return_args}
use Rattle.exchange_law.proofs.ClientKeeping.{none_left}
use Rattle.history_law.proofs.Turns.{each_progress}
use Rattle.world_history.specs.ServerNames.{Slot}
use Rattle.world_history.specs.ClientNames.{Client, CallOp, Held, Due, Request, Awaited, RecallAnswer, Need, Phase, Needs, Waits, Done, Asks, AnswersRecall}
use Rattle.fence_law.specs.State.{State, Event}
use Rattle.fence_law.specs.State.{Event as event}
use Rattle.fence_law.specs.Machine.{after, after_all}
use Rattle.fence_law.proofs.Slots.{Slots}
use Rattle.fence_law.proofs.Holds.{Holds}
use Rattle.file_simulation.specs.EventLists.{of_grant}
use Rattle.file_simulation.specs.ClientEvents as table
use Rattle.file_simulation.specs.Requests.{kept_for, kept_by}
use Rattle.file_simulation.specs.Calls.{IsIdle, IsHolding, HeldIs, IsClient, reports_on}
use Rattle.relation_law.specs.CallsTurns.{PhaseOn, EndIs, PendsAt, IsMid, NeedHas}
use Rattle.relation_law.proofs.CallsSpared.{idle_spared}
use Rattle.relation_law.proofs.CallsSends.{asks_other_carried, gives_back_idle}
use Rattle.relation_law.proofs.CallsMid.{held_plain, without_other}
use Rattle.relation_law.proofs.CallsTells.{told, told_more, recalls_told, commands_quiet}
use Rattle.relation_law.proofs.CallsSettled.{SendsFit, turn_settles}
use Rattle.relation_law.proofs.CallsAsks.{asked_client, asked_args, asks_other, gives_back, request_behind, NumberFits}

-- ---- messages

one_told : (s : State) (file c : ℕ) (x : Client) (rs : List RecallAnswer) (qs : List Request) (r : Request)
    (cs : List Awaited) → qs ≡ [] →
    told s file c x (map AnswersRecall rs ++ (map Asks (qs ++ r ∷ []) ++ map to_drive cs))
    ≡ told (after_all s (table.asks s file c x r)) file c x (map to_drive cs)
unfolding told
one_told s file c x rs qs r cs none =
    told_more s file c x (map AnswersRecall rs) (map Asks (qs ++ r ∷ []) ++ map to_drive cs)
    ∙ ap (λ (t : State). told t file c x (map Asks (qs ++ r ∷ []) ++ map to_drive cs)) (recalls_told s file c x rs)
    ∙ ap (λ (l : List Request). told s file c x (map Asks (l ++ r ∷ []) ++ map to_drive cs)) none

none_told : (s : State) (file c : ℕ) (x : Client) (cs : List Awaited) → cs ≡ [] → told s file c x (map to_drive cs) ≡ s
unfolding told
none_told s file c x cs none = ap (λ (l : List Awaited). told s file c x (map to_drive l)) none

-- ---- grants of other files

pub after_other : (hs : List Held) (f n : ℕ) (a : Args) → (n ≡ f → ⊥) → held_of (held_after hs f a) n ≡ held_of hs n
after_other hs f n (args.LayoutGet a) ne = refl
after_other hs f n (args.LayoutCommit a) ne = refl
after_other hs f n (args.LayoutReturn a) ne = without_other hs f n ne

-- the client behind the return of this grant
abbrev pub returned : Client → Due → Client
returned y u = record y {
  due = due_behind y.held y.due;
  next = after_number y.next;
  outstanding = Some (request_of y u.file (return_args u.number []));
  held = without_held y.held u.file;
}

module _ (file : ℕ) (m : RawMap) (c : ℕ) (s : State) (holding : Holds s) (slots : Slots s) (op : Option CallOp)
    (slot : Option Slot) (d : Done) (k : IsMid file m s c (kept_for slot d.client.outstanding) op d)
    (over : d.outcome ≡ None) where
  abbrev y : Client
  y = d.client

  -- the machine has of the client what it has, behind what was done so far
  abbrev pub IsBehind : Done → Type 0
  IsBehind e = IsClient file m (told s file c e.client (sends_of e)) c e.client (kept_for slot e.client.outstanding)

  -- What is asked of a turn that ends so: its commands fit, a client that awaits no answer waits for none in the machine, no
  -- answer is kept to a request with the next number, and grants' numbers fit in requests.
  pub record EndFits : Type 0 where
    pub sends : SendsFit file m c (kept_for slot d.client.outstanding) s holding op d k over
    pub free : y.outstanding ≡ None → s.waiting c ≡ false
    pub unanswered : (r : Request) → r.sequence ≡ y.next → kept_by slot r ≡ None
    pub numbers : (h : Held) → held_of y.held file ≡ Some h → h.number < 2 ^ 32

  module _ (fits : EndFits) where
    rests : IsBehind d
    rests = turn_settles file m c (kept_for slot d.client.outstanding) s holding op d k over fits.sends

    -- ---- the call asks

    module _ (p : CallOp) (n : Need) (is : y.call ≡ Some (record { op = p; phase = Needs n })) (out : y.outstanding ≡ None)
      where
        held_none : HeldIs file m s c y None (held_of y.held file)
        held_none = subst (λ o. HeldIs file m s c y (kept_for slot o) (held_of y.held file)) out k.held

        pends : PendsAt file m s c (kept_for slot y.outstanding) op None d.commands (Some (record { op = p; phase = Needs n }))
        pends = subst (λ z. PendsAt file m s c (kept_for slot y.outstanding) op None d.commands z) is
            (subst (λ u. PendsAt file m s c (kept_for slot y.outstanding) op u d.commands y.call) over k.call)

        on_by : (b : Bool) → (file_of p == file) ≡ b →
            PhaseOn b m s c (record { op = p; phase = Needs n }) (kept_for slot y.outstanding) d.commands
        on_by b e =
            subst (λ z. PhaseOn z m s c (record { op = p; phase = Needs n }) (kept_for slot y.outstanding) d.commands) e pends

    -- it is over another file
    asks_beside : (p : CallOp) (n : Need) (a : Args) → y.call ≡ Some (record { op = p; phase = Needs n }) →
        y.outstanding ≡ None → (file_of p == file) ≡ false → IsBehind (asks_server d p n a)
    unfolding requests
    asks_beside p n a is out off =
        let x : Client = asked_client y p n a in
        let r : Request = request_of y (file_of p) a in
        let t : State = after s (event.AsksOther c) in
        let w : IsClient file m t c x (kept_for slot (Some r)) =
        asks_other file m c s slots k.used x (kept_for slot (Some r)) (fits.free out)
        (subst (λ q. HeldIs file m s c x (kept_for slot (Some r)) q)
        (sym (after_other y.held (file_of p) file a (λ e. other e)))
        (held_plain file m s c y x (kept_for slot y.outstanding) (kept_for slot (Some r)) (held_of y.held file) quiet
        (off_call (Waits n)) k.held))
        (rw off (idle_spared s t c (asks_other_carried s c) (on_by p n is out false off))) in
        subst (λ u. IsClient file m u c x (kept_for slot (Some r)))
        (sym (one_told s file c x d.recalls d.requests r d.commands k.unasked
        ∙ rw off (commands_quiet t file c x d.commands (λ u z. rw off refl)))) w
      where
        other : file ≡ file_of p → ⊥
        other e = true≢false (sym (eq-eqb (file_of p) file (sym e)) ∙ off)

        off_call : (q : Phase) → reports_on file (Some (record { op = p; phase = q })) ≡ false
        off_call q = rw off refl

        quiet : reports_on file y.call ≡ false
        quiet = ap (reports_on file) is ∙ off_call (Needs n)

    -- or over the file
    asks_here : (p : CallOp) (n : Need) (q : Option Held) → y.call ≡ Some (record { op = p; phase = Needs n }) →
        y.outstanding ≡ None → held_of y.held (file_of p) ≡ q → (file_of p == file) ≡ true →
        IsBehind (asks_server d p n (asked_args p n q))
    unfolding requests
    asks_here p n q is out held here =
        let a : Args = asked_args p n q in
        let x : Client = asked_client y p n a in
        let r : Request = request_of y (file_of p) a in
        let there : held_of y.held file ≡ q =
        ap (λ (i : ℕ). held_of y.held i) (sym (eqb-true (file_of p) file here)) ∙ held in
        let on = on_by p n is out true here in
        let w : IsClient file m (after_all s (table.asks_here s c (Some (Waits n)) a)) c x None =
        request_behind file m c s slots k.used (fits.free out) y p here n q is there (number_of q there)
        (held_none p n is out) on.1 (subst (NeedHas n) there (k.needs p n is here)) in
        subst (λ o. IsClient file m (told s file c x (sends_of (asks_server d p n a))) c x o) (sym (fits.unanswered r refl))
        (subst (λ u. IsClient file m u c x None)
        (sym (one_told s file c x d.recalls d.requests r d.commands k.unasked
        ∙ none_told (after_all s (table.asks s file c x r)) file c x d.commands on.0 ∙ rw here refl)) w)
      where
        number_of : (z : Option Held) → held_of y.held file ≡ z → NumberFits file m c s slots k.used (fits.free out) y p here z
        number_of None e = tt
        number_of (Some h) e = fits.numbers h e

    asks_either : (p : CallOp) (n : Need) (q : Option Held) → y.call ≡ Some (record { op = p; phase = Needs n }) →
        y.outstanding ≡ None → held_of y.held (file_of p) ≡ q → (b : Bool) → (file_of p == file) ≡ b →
        IsBehind (asks_server d p n (asked_args p n q))
    asks_either p n q is out held true here = asks_here p n q is out held here
    asks_either p n q is out held false off = asks_beside p n (asked_args p n q) is out off

    asks_of : (p : CallOp) (n : Need) (q : Option Held) → y.call ≡ Some (record { op = p; phase = Needs n }) →
        y.outstanding ≡ None → held_of y.held (file_of p) ≡ q → IsBehind (asks_under d p n q)
    asks_of p n None is out held = asks_either p n None is out held (file_of p == file) refl
    asks_of p n (Some h) is out held = asks_either p n (Some h) is out held (file_of p == file) refl

    -- ---- a grant that is due goes back

    module _ (none : y.call ≡ None) (out : y.outstanding ≡ None) where
      idle : IsIdle s c
      idle = at_end op (subst (λ z. PendsAt file m s c (kept_for slot y.outstanding) op None d.commands z) none
          (subst (λ u. PendsAt file m s c (kept_for slot y.outstanding) op u d.commands y.call) over k.call))
        where
          at_end : (p : Option CallOp) → EndIs file s c p None → IsIdle s c
          at_end None w = w
          at_end (Some p) w = w

      quiet_call : reports_on file y.call ≡ false
      quiet_call = ap (reports_on file) none

      none_now : (t : State) (x : Client) (cs : List Awaited) → x.call ≡ None → told t file c x (map to_drive cs) ≡ t
      none_now t x cs e = commands_quiet t file c x cs (λ v z. rw e refl)

      due_other : (u : Due) → (u.file == file) ≡ false → IsBehind (returns d (Some u))
      unfolding requests
      due_other u off =
          let x : Client = returned y u in
          let r : Request = request_of y u.file (return_args u.number []) in
          let t : State = after s (event.AsksOther c) in
          let w : IsClient file m t c x (kept_for slot (Some r)) =
          asks_other file m c s slots k.used x (kept_for slot (Some r)) (fits.free out)
          (subst (λ q. HeldIs file m s c x (kept_for slot (Some r)) q) (sym (without_other y.held u.file file (λ e. other e)))
          (held_plain file m s c y x (kept_for slot y.outstanding) (kept_for slot (Some r)) (held_of y.held file) quiet_call
          quiet_call k.held))
          (rw none (idle_spared s t c (asks_other_carried s c) idle)) in
          subst (λ v. IsClient file m v c x (kept_for slot (Some r)))
          (sym (one_told s file c x d.recalls d.requests r d.commands k.unasked
          ∙ rw off (none_now t x d.commands none))) w
        where
          other : file ≡ u.file → ⊥
          other e = true≢false (sym (eq-eqb u.file file (sym e)) ∙ off)

      -- behind the return the machine's client holds nothing
      due_events : (u : Due) → (u.file == file) ≡ true → (q : Option Held) → held_of y.held file ≡ q →
          IsClient file m (after_all s (of_grant (s.held c) (λ g. event.GivesBack c g ∷ []))) c (returned y u) None
      due_events u here q e = by_held q e
        where
          gone : held_of (without_held y.held u.file) file ≡ None
          gone = ap (λ (i : ℕ). held_of (without_held y.held u.file) i) (sym (eqb-true u.file file here))
              ∙ none_left y.held u.file

          holds : (z : Option Held) → held_of y.held file ≡ z → HeldIs file m s c y (kept_for slot y.outstanding) z
          holds z f = subst (λ i. HeldIs file m s c y (kept_for slot y.outstanding) i) f k.held

          plain_none : HeldIs file m s c y (kept_for slot y.outstanding) None → s.held c ≡ None
          plain_none w =
              held_plain file m s c y (record y { call = None }) (kept_for slot y.outstanding) None None quiet_call refl w

          by_held : (z : Option Held) → held_of y.held file ≡ z →
              IsClient file m (after_all s (of_grant (s.held c) (λ g. event.GivesBack c g ∷ []))) c (returned y u) None
          by_held None f = rw (plain_none (holds None f)) (record {
            held = rw (gone, none) (plain_none (holds None f));
            call = rw none idle;
            fresh = k.fresh;
            used = k.used;
          })
          by_held (Some h) f =
              let z : IsHolding m s c h = holds (Some h) f in
              rw z.held (gives_back file m c s slots k.used (returned y u) None z.grant gone quiet_call
              (rw none (gives_back_idle s c z.grant idle)))

      due_asked : (u : Due) → (u.file == file) ≡ true →
          table.asks s file c (returned y u) (request_of y u.file (return_args u.number []))
          ≡ of_grant (s.held c) (λ g. event.GivesBack c g ∷ [])
      due_asked u here = rw (here, none) refl

      due_here : (u : Due) → (u.file == file) ≡ true → IsBehind (returns d (Some u))
      unfolding requests
      due_here u here =
          let x : Client = returned y u in
          let r : Request = request_of y u.file (return_args u.number []) in
          let w = due_events u here (held_of y.held file) refl in
          subst (λ o. IsClient file m (told s file c x (sends_of (returns d (Some u)))) c x o) (sym (fits.unanswered r refl))
          (subst (λ v. IsClient file m v c x None)
          (sym (one_told s file c x d.recalls d.requests r d.commands k.unasked
          ∙ ap (λ (es : List Event). told (after_all s es) file c x (map to_drive d.commands)) (due_asked u here)
          ∙ none_now (after_all s (of_grant (s.held c) (λ g. event.GivesBack c g ∷ []))) x d.commands none)) w)

      due_by : (u : Due) (b : Bool) → (u.file == file) ≡ b → IsBehind (returns d (Some u))
      due_by u true here = due_here u here
      due_by u false off = due_other u off

      nothing_due : IsBehind (returns d None)
      nothing_due = subst (λ v. IsClient file m v c (record y { due = [] }) (kept_for slot y.outstanding))
          (sym
          (told_more s file c (record y { due = [] }) (map AnswersRecall d.recalls)
          (map Asks d.requests ++ map to_drive d.commands)
          ∙ ap (λ (t : State). told t file c (record y { due = [] }) (map Asks d.requests ++ map to_drive d.commands))
          (recalls_told s file c (record y { due = [] }) d.recalls)
          ∙ ap (λ (l : List Request). told s file c (record y { due = [] }) (map Asks l ++ map to_drive d.commands)) k.unasked
          ∙ none_now s (record y { due = [] }) d.commands none))
          (record { held = k.held; call = rw none idle; fresh = k.fresh; used = k.used })

      due_of : (u : Option Due) → IsBehind (returns d u)
      due_of None = nothing_due
      due_of (Some u) = due_by u (u.file == file) refl

    -- ---- to its end

    pub turn_ends : IsBehind (progressed d)
    turn_ends = each_progress d IsBehind (record {
      waits = λ r out. rests;
      works = λ call is out. rests;
      spent = λ none out z. rests;
      asks = λ p n h is out held. asks_of p n h is out held;
      gives_back = λ u none out some found. due_of none out u;
    })
