-- Each move, whoever makes it: the machine behind it has what the server keeps of the file.
-- Towards `KeptGoesOn` (`specs/Steps.antt`).
use Rattle.std.proofs.Common.{◌≡◌, ◌==◌, ◌&&◌, ℕ, ◌≤◌, Bool, true, false, nat_le, List, [], ◌∷◌, Option, Some, None, refl, sym, ap, subst, ◌∙◌, arith, inl, inr}
use Rattle.std.proofs.lemmas.Bool.{cases_Bool, cases_eq, eqb-true, eq-eqb, ne_eqb}
use Rattle.std.proofs.lemmas.Option.{same_Some}
use Rattle.osd_lists.specs.declared.node.Node.TheVariants.{Client as FromClient}
use Rattle.layout_ops.specs.declared.messages.Answer.{Answer}
use Rattle.server_rules.specs.declared.limits.TheConstants.{MAX_CLIENT}
use Rattle.server_rules.specs.Files.{Step, still, file_at, at_file}
use Rattle.server_rules.specs.History.{Input, Hears, step}
use Rattle.server_rules.specs.Laws.{is_taken_of}
use Rattle.server_rules.specs.Messages.{Asks, Replies, Orders, counters_have_room, on_message}
use Rattle.server_rules.specs.Requests.{serves, answer_with, keeps, answer_without, carried_out, only_answers, carries_out, by_admit, on_request}
use Rattle.server_rules.specs.Served.{Served}
use Rattle.server_rules.specs.Slots.{Admit, New, Again, Misordered, slot_of, admit}
use Rattle.server_rules.proofs.FileLaws.{number_at, put_other}
use Rattle.world_history.specs.ServerNames.{Server, File, ClientRequest}
use Rattle.world_history.specs.State.{World}
use Rattle.world_history.specs.Sending.{Move, move}
use Rattle.history_law.specs.Doing.{input_in}
use Rattle.fence_law.specs.State.{State, Event}
use Rattle.fence_law.specs.State.{Event as event}
use Rattle.fence_law.specs.Machine.{Lawful, after_all}
use Rattle.fence_law.proofs.Safe.{Safe}
use Rattle.file_simulation.specs.ClientEvents.{Going, going_in}
use Rattle.file_simulation.specs.EventLists.{where_so}
use Rattle.file_simulation.specs.Events.{joined, events_of}
use Rattle.file_simulation.specs.ServerEvents.{is_served, answered_to, sends_all, at_first, server_goes}
use Rattle.relation_law.specs.KeptAsked.{AsksRightly}
use Rattle.relation_law.specs.KeptSteps.{AllLight, notes_events, IsKeptAt, HearsNoOrder}
use Rattle.relation_law.proofs.FramesParties.{server_steps}
use Rattle.relation_law.proofs.KeptInputs.{IsIdleAt, FitsAt}
use Rattle.relation_law.proofs.KeptLines.{answer_alone}
use Rattle.relation_law.proofs.KeptMoves.{plain_step, server_joined, client_move, drive_move}
use Rattle.relation_law.proofs.KeptRequests.{ends_served, request_goes, beside, carried_sends}
use Rattle.relation_law.proofs.KeptRounds.{Quiet, quiet_walked}
use Rattle.relation_law.proofs.KeptServer.{IsReady, HasNumber, number_walked}

-- what the machine and the world have before a step of the server on the file
pub record IsServed (s : State) (w : World) (f : File) (i : Input) : Type 0 where
  pub ready : IsReady w f
  pub orders : HearsNoOrder i
  pub idle : IsIdleAt i w.server.files
  pub fit : FitsAt i w.server.files
  pub made : (now : ℕ) (q : ClientRequest) → i ≡ Hears now (FromClient q.client) (Asks q) → f.job ≡ None →
      f.kept.ready ≡ true
  pub asks : (now : ℕ) (q : ClientRequest) → i ≡ Hears now (FromClient q.client) (Asks q) →
      is_served w.server q.client q ≡ true → q.file ≡ f.kept.number → AsksRightly s f q

-- ---- a client's request

never_so : (b : Bool) (es : List Event) → where_so (b && false) es ≡ []
never_so true es = refl
never_so false es = refl

module _ (s : State) (w : World) (f : File) (chosen : List ℕ) (now c : ℕ) (q : ClientRequest) (safe : Safe s)
    (h : IsKeptAt w.server.next_grant s f) (k : IsServed s w f (Hears now (FromClient c) (Asks q))) where
  abbrev j : Input
  j = Hears now (FromClient c) (Asks q)

  abbrev Keeps : Step → Type 0
  Keeps did =
      (g : File) → file_at did.state.files f.kept.number ≡ Some g →
      Lawful s (joined (server_goes s w did j (Some f) (Some g))) →
      IsKeptAt did.state.next_grant (after_all s (joined (server_goes s w did j (Some f) (Some g)))) g

  beside_ : (did : Step) → file_at did.state.files f.kept.number ≡ Some f → w.server.next_grant ≤ did.state.next_grant
      → ((t : State) → notes_events t w f j did.notes ≡ []) → AllLight (at_first s w.server did f f j)
      → ((u : State) → joined (sends_all u w.server f j did.sends) ≡ []) → Keeps did
  beside_ = beside s w f chosen now c q safe h k.ready

  -- one that isn't carried out
  idle_still : is_served w.server c q ≡ false → Keeps (still w.server)
  unfolding notes_events sends_all
  idle_still no_ = beside_ (still w.server) k.ready.there (omega arith) (λ t. refl) (rw no_ tt) (λ u. refl)

  idle_answer : is_served w.server c q ≡ false → (a : Answer) → Keeps (only_answers w.server a)
  unfolding notes_events
  idle_answer no_ a =
      beside_ (only_answers w.server a) k.ready.there (omega arith) (λ t. refl) (rw no_ tt)
      (λ u. answer_alone w.server f j u a ∙ rw no_ refl)

  -- one on another file
  other_light : (did : Step) → (q.file ≡ f.kept.number → ⊥) → AllLight (at_first s w.server did f f j)
  other_light did ne = rw (ne_eqb q.file f.kept.number ne) (either (is_served w.server c q))
    where
      either : (b : Bool) → AllLight (where_so b (event.ServesOther q.client ∷ []))
      either true = (refl, tt)
      either false = tt

  other_quiet : (a : Answer) → (q.file ≡ f.kept.number → ⊥) → (u : State) → answered_to u w.server f a j ≡ []
  other_quiet a ne u = rw (ne_eqb q.file f.kept.number ne) (never_so (is_served w.server c q) _)

  without : file_at w.server.files q.file ≡ None → Keeps (only_answers (keeps w.server (answer_without q)) (answer_without q))
  unfolding notes_events
  without none =
      let ne : q.file ≡ f.kept.number → ⊥ = λ e.
      absurd (cc (sym (sym (ap (file_at w.server.files) e) ∙ none) ∙ k.ready.there)) in
      beside_ (only_answers (keeps w.server (answer_without q)) (answer_without q)) k.ready.there (omega arith) (λ t. refl)
      (other_light (only_answers (keeps w.server (answer_without q)) (answer_without q)) ne)
      (λ u. answer_alone w.server f j u (answer_without q) ∙ other_quiet (answer_without q) ne u)

  other : (x : File) → file_at w.server.files q.file ≡ Some x → (q.file ≡ f.kept.number → ⊥)
      → Keeps (carried_out w.server q (serves
      (at_file w.server chosen x) w.server.next_grant w.server.format now q.client q.args))
  unfolding notes_events
  other x found ne =
      let v : Served = serves (at_file w.server chosen x) w.server.next_grant w.server.format now q.client q.args in
      let is : x.kept.number ≡ q.file = number_at w.server.files q.file x found in
      let number : v.going.file.kept.number ≡ q.file =
      ends_served (HasNumber q.file) (number_walked q.file) (λ a b ns e m. e ∙ m) (at_file w.server chosen x)
      w.server.next_grant w.server.format now q.client q.args is in
      let quiet : (t : State) → Quiet t w f j [] [] v.going.file.kept v.going.effects.notes = λ t.
      ends_served (Quiet t w f j [] []) (quiet_walked t w f j [] [])
      (λ a b ns e m. (λ y. m.0 (sym e ∙ y), m.1, m.2)) (at_file w.server chosen x) w.server.next_grant w.server.format
      now q.client q.args ((λ e. ne (sym is ∙ e)), ([], refl), refl) in
      beside_ (carried_out w.server q v)
      (put_other w.server.files q.file v.going.file number f.kept.number (ne_eqb q.file f.kept.number ne) ∙ k.ready.there)
      (omega arith) (λ t. (quiet t).2) (other_light (carried_out w.server q v) ne)
      (λ u. carried_sends w.server f j u q v ∙ other_quiet (answer_with w.server q v) ne u)

  -- one on the file
  here : q.client ≡ c → is_served w.server c q ≡ true → (x : File) → file_at w.server.files q.file ≡ Some x
      → q.file ≡ f.kept.number
      → Keeps (carried_out w.server q (serves
      (at_file w.server chosen x) w.server.next_grant w.server.format now q.client q.args))
  here own taken x found e =
      let same : x ≡ f = same_Some x f (sym found ∙ ap (file_at w.server.files) e ∙ k.ready.there) in
      let i : Hears now (FromClient q.client) (Asks q) ≡ j = ap (λ (n : ℕ). Hears now (FromClient n) (Asks q)) own in
      let t : is_served w.server q.client q ≡ true = ap (λ (n : ℕ). is_served w.server n q) own ∙ taken in
      subst (λ (y : File).
      Keeps (carried_out w.server q (serves (at_file w.server chosen y) w.server.next_grant w.server.format now q.client q.args)))
      (sym same)
      (λ g at law.
      subst (λ (n : Input).
      Lawful s (joined (server_goes s w (carried_out w.server q (serves (at_file w.server chosen f) w.server.next_grant
      w.server.format now q.client q.args)) n (Some f) (Some g)))
      → IsKeptAt (carried_out w.server q (serves (at_file w.server chosen f) w.server.next_grant w.server.format now q.client
      q.args)).state.next_grant
      (after_all s (joined (server_goes s w (carried_out w.server q (serves (at_file w.server chosen f) w.server.next_grant
      w.server.format now q.client q.args)) n (Some f) (Some g)))) g) i
      (request_goes s w f chosen now q safe h k.ready k.fit (λ none fresh. k.made now q (sym i) none) t e (k.asks now q
      (sym i) t e) g at) law)

  carried : q.client ≡ c → is_served w.server c q ≡ true → (o : Option File) → file_at w.server.files q.file ≡ o
      → Keeps (carries_out w.server now chosen q o)
  carried own taken None found = without found
  carried own taken (Some x) found = elim (cases_eq q.file f.kept.number) [
    | inl e ↦ here own taken x found e
    | inr ne ↦ other x found ne
  ]

  admitted : q.client ≡ c → is_taken_of w.server c c q ≡ true → (a : Admit)
      → admit (slot_of w.server.slots c) q.sequence ≡ a → Keeps (by_admit w.server now chosen q a)
  admitted own taken New is = carried own (rw (taken, is) refl) (file_at w.server.files q.file) refl
  admitted own taken (Again kept) is = idle_answer (rw (taken, is) refl) kept
  admitted own taken (Misordered expected) is = idle_answer (rw (taken, is) refl) _

  untaken : is_taken_of w.server c c q ≡ false → is_served w.server c q ≡ false
  untaken e = rw e refl

  pub asked_step : Keeps (step w.server chosen j)
  unfolding on_message on_request
  asked_step = elim (cases_Bool (counters_have_room w.server)) [
    | inl low ↦ elim (cases_Bool ((q.client == c) && nat_le c MAX_CLIENT)) [
      | inl mine ↦
          let own : q.client ≡ c = eqb-true q.client c (first (q.client == c) (nat_le c MAX_CLIENT) mine) in
          let taken : is_taken_of w.server c c q ≡ true = rw (eq-eqb c c refl, low, mine) refl in
          let does : step w.server chosen j ≡
          by_admit w.server now chosen q (admit (slot_of w.server.slots q.client) q.sequence) = rw (low, mine) refl in
          subst Keeps (sym does)
          (admitted own taken (admit (slot_of w.server.slots q.client) q.sequence)
          (ap (λ (n : ℕ). admit (slot_of w.server.slots n) q.sequence) (sym own)))
      | inr no_ ↦
          let does : step w.server chosen j ≡ still w.server = rw (low, no_) refl in
          subst Keeps (sym does) (idle_still (untaken (rw (eq-eqb c c refl, low, no_) refl)))
    ]
    | inr full ↦
        let does : step w.server chosen j ≡ still w.server = rw full refl in
        subst Keeps (sym does) (idle_still (untaken (rw (eq-eqb c c refl, full) refl)))
  ]
    where
      first : (a b : Bool) → (a && b) ≡ true → a ≡ true
      first true b e = refl
      first false b e = e

-- ---- any step of the server

pub server_step : (s : State) (w : World) (f : File) (chosen : List ℕ) (i : Input) → Safe s
    → IsKeptAt w.server.next_grant s f → IsServed s w f i → (g : File)
    → file_at (step w.server chosen i).state.files f.kept.number ≡ Some g
    → Lawful s (joined (server_goes s w (step w.server chosen i) i (Some f) (Some g)))
    → IsKeptAt (step w.server chosen i).state.next_grant
    (after_all s (joined (server_goes s w (step w.server chosen i) i (Some f) (Some g)))) g
server_step s w f chosen (Hears now (FromClient c) (Asks q)) safe h k g found law =
    asked_step s w f chosen now c q safe h k g found law
server_step s w f chosen (Hears now (FromClient c) (Replies r)) safe h k g found law =
    plain_step s w f chosen (Hears now (FromClient c) (Replies r)) safe h k.ready tt k.orders k.idle k.fit g found law
server_step s w f chosen (Hears now (FromClient c) (Orders o)) safe h k g found law =
    plain_step s w f chosen (Hears now (FromClient c) (Orders o)) safe h k.ready tt k.orders k.idle k.fit g found law
server_step s w f chosen i safe h k g found law = plain_step s w f chosen i safe h k.ready tt k.orders k.idle k.fit g found law

-- ---- any move

pub server_move : (s : State) (w : World) (e : ℕ → ℕ) (f g : File) (m : Move) (i : Input) → input_in w m.action ≡ Some i
    → Safe s → IsKeptAt w.server.next_grant s f → IsServed s w f i
    → file_at (move w m).world.server.files f.kept.number ≡ Some g → Lawful s (joined (events_of s w e f m))
    → IsKeptAt (move w m).world.server.next_grant (after_all s (joined (events_of s w e f m))) g
server_move s w e f g m i is safe h k found law =
    let same = server_steps w m i is in
    let there : file_at (step w.server m.chosen i).state.files f.kept.number ≡ Some g =
    ap (λ (x : Server). file_at x.files f.kept.number) (sym same) ∙ found in
    let lines = server_joined s w e f g m i is k.ready.there there in
    let r = server_step s w f m.chosen i safe h k g there (subst (Lawful s) lines law) in
    subst (λ (x : Server). IsKeptAt x.next_grant (after_all s (joined (events_of s w e f m))) g) (sym same)
    (subst (λ (es : List Event). IsKeptAt (step w.server m.chosen i).state.next_grant (after_all s es) g) (sym lines) r)

-- the kept part of the relation lasts through each move, if the world is as `IsServed` says where the server goes on
pub each_move : (s : State) (w : World) (e : ℕ → ℕ) (f g : File) (m : Move) → Safe s → IsKeptAt w.server.next_grant s f
    → file_at w.server.files f.kept.number ≡ Some f → ((i : Input) → input_in w m.action ≡ Some i → IsServed s w f i)
    → file_at (move w m).world.server.files f.kept.number ≡ Some g → Lawful s (joined (events_of s w e f m))
    → IsKeptAt (move w m).world.server.next_grant (after_all s (joined (events_of s w e f m))) g
each_move s w e f g m safe h there k found law =
    by_going (going_in w m.action) refl (input_in w m.action) refl
  where
    by_input : (o : Option Input) → input_in w m.action ≡ o → going_in w m.action ≡ None
        → IsKeptAt (move w m).world.server.next_grant (after_all s (joined (events_of s w e f m))) g
    by_input None is none = drive_move s w e f g m none is safe h there found law
    by_input (Some i) is none = server_move s w e f g m i is safe h (k i is) found law

    by_going : (o : Option Going) → going_in w m.action ≡ o → (p : Option Input) → input_in w m.action ≡ p
        → IsKeptAt (move w m).world.server.next_grant (after_all s (joined (events_of s w e f m))) g
    by_going (Some c) is p input = client_move s w e f g m c is safe h there found law
    by_going None is p input = by_input p input is
