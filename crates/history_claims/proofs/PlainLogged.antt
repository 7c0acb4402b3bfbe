-- At each moment the pending read of a client that has read something, or awaits something, has an entry in the log; and so has
-- a call that has scattered, which is a write.
use Rattle.std.proofs.Common.{◌≡◌, ◌≢◌, ◌⊎◌, ℕ, true, false, List, [], ◌∷◌, ◌++◌, fold, Option, Some, None, refl, sym, ap, subst, ◌∙◌, inl, inr}
use Rattle.std.specs.Prelude.{option_map}
use Rattle.std.proofs.lemmas.Bool.{cases_eq}
use Rattle.std.proofs.lemmas.List.Sums.{fold-append}
use Rattle.scenario_text.specs.declared.event.Event.{Event}
use Rattle.scenario_text.specs.declared.line.Line.{Line}
use Rattle.server_rules.specs.Laws.{In}
use Rattle.client_rules.specs.Calls.{is_write}
use Rattle.client_rules.specs.History.{Input, state_after, step}
use Rattle.client_rules.specs.Laws.{read_after, read_by}
use Rattle.client_rules.specs.Messages.{awaited_of}
use Rattle.client_rules.specs.Steps.{new_client}
use Rattle.world_history.specs.ClientNames.{Client, Call, Awaited, Column}
use Rattle.world_history.specs.History.{OneEventMore}
use Rattle.world_history.specs.Moves.{Action, Opens, Delivers, TimesOut, Pends, acts}
use Rattle.world_history.specs.Plans.{due, due_in}
use Rattle.world_history.specs.ReadLog.{Pending, Log, log_after, log_after_event, empty_log, log_in}
use Rattle.world_history.specs.Sending.{Move, move, sends_all}
use Rattle.world_history.specs.State.{World, ClientAt, at_number}
use Rattle.history_law.specs.Moments.{IsMoment, plan_at, with_event, lines_in}
use Rattle.history_law.proofs.Moments.{always}
use Rattle.exchange_law.specs.InStep.{state_of, client_of}
use Rattle.exchange_law.specs.Pending.{logged_op, IsPendingAt}
use Rattle.exchange_law.proofs.HeldWorlds.{next_moment}
use Rattle.exchange_law.proofs.PendingEntries.{AreRising}
use Rattle.exchange_law.proofs.Turning.{Turn, ByServer, ByClient, ByDrive, Makes, Stops, Rests, AreSame, Becomes}
use Rattle.exchange_law.proofs.Turns.{acts_turn}
use Rattle.cause_law.proofs.Eventless.{NoEvent, later_plain, opens_plain}
use Rattle.headline_law.specs.Claim.{IsOfScenario}
use Rattle.history_claims.proofs.PlainPending.{IsIn, Goes, lines_go, event_keeps, event_rises, log_rises}
use Rattle.file_simulation.specs.Messages.{is_scatter}
use Rattle.history_claims.proofs.PlainReads.{HasWorked, awaits_some, read_worked, state_more, read_more}
use Rattle.history_claims.proofs.Wrote.{HasScattered, IsSound, AwaitsWrite, late_behind, always_sound}

-- ---- what is known

pub record LoggedLaws : Type 0 where
  pub more : OneEventMore
  pub pending : (w : World) (h : List Line) → IsMoment w h → IsOfScenario h → (c : ℕ) → IsPendingAt w (log_in h) c
  -- what a read awaits behind a move it awaited before, or its READ is sent in the move, so that the log has its entry
  pub sent : (w : World) (h : List Line) → IsMoment w h → (m : Move) →
      IsMoment (move w m).world (h ++ lines_in w m) → IsOfScenario (h ++ lines_in w m) → (c : ℕ) (call : Call) →
      (client_of (move w m).world c).call ≡ Some call → is_write call.op ≡ false →
      (a : Awaited) → In a (awaited_of (client_of (move w m).world c).call) →
      In a (awaited_of (client_of w c).call) ⊎ IsIn (log_in (h ++ lines_in w m)) c
  -- a call that scatters behind the move scattered before, or its WRITE is sent in the move; and it is a write
  pub wrote : (w : World) (h : List Line) → IsMoment w h → (m : Move) →
      IsMoment (move w m).world (h ++ lines_in w m) → IsOfScenario (h ++ lines_in w m) → (c : ℕ) (call : Call) →
      (client_of (move w m).world c).call ≡ Some call → is_scatter call.phase ≡ true →
      (a : Awaited) → In a (awaited_of (client_of (move w m).world c).call) →
      (HasScattered (client_of w c) ⊎ IsIn (log_in (h ++ lines_in w m)) c) × (is_write call.op ≡ true)

-- what a client has read after these inputs
abbrev pub reads_by : (c : ℕ) → List Input → List Column
reads_by c is = read_by (new_client c 1) [] is

-- A client went through some inputs; and if its pending call is a read that has worked, or has scattered, the log has its entry.
pub record OfClient (h : List Line) (c : ℕ) (x : Client) : Type 0 where
  pub inputs : List Input
  pub ran : x ≡ state_after (new_client c 1) inputs
  pub logged : IsOfScenario h → (k : HasWorked x (reads_by c inputs)) → is_write k.call.op ≡ false → IsIn (log_in h) c
  pub wrote : IsOfScenario h → (k : HasScattered x) → IsIn (log_in h) c × (is_write k.call.op ≡ true)

abbrev pub AreLogged : World → List Line → Type 0
AreLogged w h = (c : ℕ) (a : ClientAt) → at_number w.clients c ≡ Some a → OfClient h c a.state

-- whatever came to it
pub sound : {h : List Line} (c : ℕ) (x : Client) → OfClient h c x → IsSound x
sound c x o = subst IsSound (sym o.ran) (always_sound c 1 o.inputs)

-- ---- a move

-- the log behind the event's line, if the move has one
abbrev pub first_log : Log → Action → Log
first_log l (Opens e) = log_after_event l e
first_log l a = l

module _ (laws : LoggedLaws) (front : (h ls : List Line) → IsOfScenario (h ++ ls) → IsOfScenario h)
    (w : World) (h : List Line) (k : IsMoment w h) (m : Move) (d : due (plan_at k) w ≡ Some m.action) where
  abbrev v : World
  v = (move w m).world

  abbrev behind : List Line
  behind = h ++ lines_in w m

  next : IsMoment v behind
  next = next_moment w h k m d

  plain : NoEvent (move w m).lines
  plain = by (plan_at k).opening d
    where
      by : (o : Option Event) → due_in w (plan_at k).rule o ≡ Some m.action → NoEvent (move w m).lines
      by (Some e) is =
          let same : Opens e ≡ m.action = cc is in
          subst (λ (a : Action). NoEvent (sends_all (acts w m.chosen a)).lines) same
          (opens_plain w m.chosen e)
      by None is = later_plain w (plan_at k).rule m.chosen m.action is

  abbrev first : Log
  first = first_log (log_in h) m.action

  log_behind : log_in behind ≡ fold log_after first (move w m).lines
  log_behind = fold-append log_after empty_log h (lines_in w m) ∙ by m.action
    where
      by : (a : Action) → fold log_after (log_in h) (with_event a (move w m).lines)
          ≡ fold log_after (first_log (log_in h) a) (move w m).lines
      by (Opens e) = refl
      by (Delivers n) = refl
      by (TimesOut c j) = refl
      by (Pends c) = refl

  first_keeps : (c : ℕ) (p : Pending) → at_number (log_in h).pending c ≡ Some p → at_number first.pending c ≡ Some p
  first_keeps c p is = by m.action
    where
      by : (a : Action) → at_number (first_log (log_in h) a).pending c ≡ Some p
      by (Opens e) = event_keeps c (log_in h) e p is
      by (Delivers n) = is
      by (TimesOut q j) = is
      by (Pends q) = is

  goes : (c : ℕ) → Goes c first (log_in behind)
  goes c = subst (Goes c first) (sym log_behind) (lines_go c (move w m).lines first rises plain)
    where
      by : (a : Action) → AreRising (first_log (log_in h) a).pending
      by (Opens e) = event_rises (log_in h) e (log_rises h)
      by (Delivers n) = log_rises h
      by (TimesOut q j) = log_rises h
      by (Pends q) = log_rises h

      rises : AreRising first.pending
      rises = by m.action

  module _ (t : IsOfScenario behind) (c : ℕ) (call : Call) (is : (client_of v c).call ≡ Some call) where
    is_pending : at_number (log_in behind).pending c ≡ None → ⊥
    is_pending none =
        let o : Some call.op ≡ None =
        sym (ap (option_map (λ (z : Call). z.op)) is) ∙ sym (laws.pending v behind next t c) ∙ ap logged_op none in
        cc o

    -- an entry stays
    kept : IsIn (log_in h) c → IsIn (log_in behind) c
    kept i = elim ((goes c).logged (i.0, first_keeps c i.0 i.1, i.2)) [
      | inl there ↦ there
      | inr none ↦ absurd (is_pending none)
    ]

    -- a call that was pending before is the same one
    same_op : (was : Call) → (client_of w c).call ≡ Some was → call.op ≡ was.op
    same_op was before = by (at_number (log_in h).pending c) refl
      where
        old : logged_op (at_number (log_in h).pending c) ≡ Some was.op
        old = laws.pending w h k (front h (lines_in w m) t) c ∙ ap (option_map (λ (z : Call). z.op)) before

        new : logged_op (at_number (log_in behind).pending c) ≡ Some call.op
        new = laws.pending v behind next t c ∙ ap (option_map (λ (z : Call). z.op)) is

        by : (o : Option Pending) → at_number (log_in h).pending c ≡ o → call.op ≡ was.op
        by None none = absurd (cc (sym old ∙ ap logged_op none))
        by (Some p) some = elim (goes c).op [
          | inl same ↦
              let one : Some call.op ≡ Some was.op =
              sym new ∙ same ∙ ap logged_op (first_keeps c p some) ∙ sym (ap logged_op some) ∙ old in
              cc one
          | inr none ↦ absurd (is_pending none)
        ]

  -- ---- each client

  -- one that stays as it is
  stays_so : (c : ℕ) (x : Client) → OfClient h c x → client_of v c ≡ x → OfClient behind c x
  stays_so c x o same = record {
    inputs = o.inputs;
    ran = o.ran;
    logged = λ t k read.
        kept t c k.call (ap (λ (y : Client). y.call) same ∙ k.pending) (o.logged (front h (lines_in w m) t) k read);
    wrote = λ t k.
        let was = o.wrote (front h (lines_in w m) t) k in
        (kept t c k.call (ap (λ (y : Client). y.call) same ∙ k.pending) was.0, was.1);
  }

  -- one that goes on
  module _ (c : ℕ) (x y : Client) (i : Input) (o : OfClient h c x) (before : client_of w c ≡ x) (now : client_of v c ≡ y)
      (step_is : y ≡ (step x i).client) where
    module _ (t : IsOfScenario behind) (n : HasWorked y (reads_by c (o.inputs ++ i ∷ []))) (read : is_write n.call.op ≡ false)
      where
        now_call : (client_of v c).call ≡ Some n.call
        now_call = ap (λ (z : Client). z.call) now ∙ n.pending

        worked_before : HasWorked x (reads_by c o.inputs) → IsIn (log_in behind) c
        worked_before b =
            kept t c n.call now_call
            (o.logged (front h (lines_in w m) t) b
            (sym (ap is_write (same_op t c n.call now_call b.call (ap (λ (z : Client). z.call) before ∙ b.pending))) ∙ read))

        now_logged : (reads_by c (o.inputs ++ i ∷ []) ≢ []) ⊎ ((a : Awaited) × In a (awaited_of y.call)) → IsIn (log_in behind) c
        now_logged (inl some) =
            worked_before (read_worked x (reads_by c o.inputs) i (λ e.
            some (read_more (new_client c 1) [] o.inputs i
            ∙ ap (λ (z : Client). read_after z (reads_by c o.inputs) i) (sym o.ran) ∙ e)))
        now_logged (inr (a, j)) =
            elim (laws.sent w h k m next t c n.call now_call read a
            (subst (λ (z : Client). In a (awaited_of z.call)) (sym now) j)) [
              | inl b ↦
                  worked_before (awaits_some x (reads_by c o.inputs) a
                  (subst (λ (z : Client). In a (awaited_of z.call)) before b))
              | inr there ↦ there
            ]

    -- a call that has scattered
    module _ (t : IsOfScenario behind) (n : HasScattered y) where
      late_call : (client_of v c).call ≡ Some n.call
      late_call = ap (λ (z : Client). z.call) now ∙ n.pending

      late_before : HasScattered (client_of w c) → IsIn (log_in behind) c × (is_write n.call.op ≡ true)
      late_before b =
          let z : HasScattered x = subst HasScattered before b in
          let was = o.wrote (front h (lines_in w m) t) z in (
            kept t c n.call late_call was.0,
            ap is_write (same_op t c n.call late_call z.call (ap (λ (z : Client). z.call) before ∙ z.pending)) ∙ was.1,
          )

      late_now : AwaitsWrite y n.call → IsIn (log_in behind) c × (is_write n.call.op ≡ true)
      late_now a =
          let r =
          laws.wrote w h k m next t c n.call late_call a.scatters a.awaited
          (subst (λ (z : Client). In a.awaited (awaited_of z.call)) (sym now) a.there) in
          elim r.0 [
            | inl b ↦ late_before b
            | inr there ↦ (there, r.1)
          ]

      wrote_now : IsIn (log_in behind) c × (is_write n.call.op ≡ true)
      wrote_now =
          elim (late_behind x i (sound c x o)
          (record { call = n.call; pending = ap (λ (z : Client). z.call) (sym step_is) ∙ n.pending; late = n.late })) [
            | inl b ↦ late_before (subst HasScattered (sym before) b)
            | inr a ↦ late_now (subst (λ (z : Client). AwaitsWrite z n.call) (sym step_is) a)
          ]

    steps_on : OfClient behind c y
    steps_on = record {
      inputs = o.inputs ++ i ∷ [];
      ran =
          step_is ∙ ap (λ (z : Client). (step z i).client) o.ran ∙ sym (state_more (new_client c 1) o.inputs i);
      logged = λ t n read. now_logged t n read n.some;
      wrote = λ t n. wrote_now t n;
    }

  module _ (logged : AreLogged w h) where
    same_there : AreSame w v → AreLogged v behind
    same_there same c a found =
        stays_so c a.state (logged c a (sym (same c) ∙ found)) (ap (state_of c) found)

    one_there : (q : ℕ) (b : ClientAt) → Becomes w (acts w m.chosen m.action).world q b → OfClient behind q b.state →
        AreLogged v behind
    one_there q b becomes its c a found = elim (cases_eq c q) [
      | inl it ↦
          let one : Some b ≡ Some a = sym becomes.there ∙ ap (at_number v.clients) (sym it) ∙ found in
          let same : b ≡ a = cc one in
          subst (λ (n : ℕ). OfClient behind n a.state) (sym it)
          (subst (λ (z : ClientAt). OfClient behind q z.state) same its)
      | inr other ↦
          stays_so c a.state (logged c a (sym (becomes.others c other) ∙ found)) (ap (state_of c) found)
    ]

    turn_logged : Turn w m.action (acts w m.chosen m.action) → AreLogged v behind
    turn_logged (ByServer t) = same_there t.clients
    turn_logged (ByDrive t) = same_there t.clients
    turn_logged (Rests t) = same_there t.clients
    turn_logged (ByClient t) =
        one_there t.client t.now t.becomes
        (steps_on t.client t.caller.state t.now.state t.input (logged t.client t.caller t.found)
        (ap (state_of t.client) t.found) (ap (state_of t.client) t.becomes.there) t.state)
    turn_logged (Makes t) =
        one_there t.client t.now t.becomes (record {
          inputs = [];
          ran = t.state;
          logged = λ s n read.
              let none : None ≡ Some n.call = sym (ap (λ (z : Client). z.call) t.state) ∙ n.pending in absurd (cc none);
          wrote = λ s n.
              let none : None ≡ Some n.call = sym (ap (λ (z : Client). z.call) t.state) ∙ n.pending in absurd (cc none);
        })
    turn_logged (Stops t) =
        one_there t.client t.now t.becomes
        (subst (OfClient behind t.client) (sym t.state)
        (stays_so t.client t.caller.state (logged t.client t.caller t.found)
        (ap (state_of t.client) t.becomes.there ∙ t.state)))

    pub move_logged : AreLogged v behind
    move_logged = turn_logged (acts_turn w m.chosen m.action).turn

-- So it is at each moment.
pub all_logged : LoggedLaws → ((h ls : List Line) → IsOfScenario (h ++ ls) → IsOfScenario h) → (w : World) (h : List Line) →
    IsMoment w h → AreLogged w h
all_logged laws front =
    always AreLogged (record {
      starts = λ c a found. absurd (cc found);
      moves = λ w h k m d x. move_logged laws front w h k m d x;
    }) laws.more
