-- What a move of a client reaches of the entries of a file, as its turn is tied to them.
-- Towards `CutsShowEntries` (`specs/Parts.antt`).
use Rattle.std.proofs.Common.{◌≡◌, ℕ, zero, suc, Bool, true, false, List, [], ◌∷◌, ◌++◌, filter, length, Option, Some, None, Result, Ok, Err, refl, sym, ap, subst, ◌∙◌, inl, arith, append_assoc, if◌then◌else◌}
use Rattle.std.specs.Prelude.{is_some, option_map}
use Rattle.osd_objects.proofs.Entries.{lookup_inserted}
use Rattle.scenario_text.specs.declared.line.Delivery.TheVariants as delivery
use Rattle.scenario_text.specs.declared.line.Line.{Line}
use Rattle.scenario_text.specs.declared.line.Line.TheVariants as line
use Rattle.client_rules.specs.Calls.{span_of}
use Rattle.client_rules.specs.History.{Input, Calls, Hears, TimesOut, Leaves, Resends, step, unless_refused}
use Rattle.client_rules.specs.Messages.{Step, still}
use Rattle.client_rules.specs.Steps.{calls, starts, is_bad_range, is_spent}
use Rattle.world_history.specs.ClientNames.{Client, Call, CallOp, CallErr, Busy, BadRange, SlotSpent, Outcome}
use Rattle.world_history.specs.Handed.{Post, is_addressed, client_posts, ended_by, op_in, pending_op}
use Rattle.world_history.specs.Moves.{Act, acts}
use Rattle.world_history.specs.Names.{is_tellable}
use Rattle.world_history.specs.ReadLog.{Pending, Log, log_after, called_beside, refused, entry_in}
use Rattle.world_history.specs.Sending.{Move, move, sent_lines}
use Rattle.world_history.specs.ServerNames.{File}
use Rattle.world_history.specs.State.{World, at_number}
use Rattle.world_history.specs.Told.{told_refusal}
use Rattle.history_law.specs.Moments.{with_event, lines_in}
use Rattle.history_law.specs.Moves.{front_of}
use Rattle.fence_law.specs.Machine.{after_all}
use Rattle.fence_law.specs.State.{State, Event}
use Rattle.file_simulation.specs.ClientEvents as table
use Rattle.file_simulation.specs.ClientEvents.{Going, going_in}
use Rattle.file_simulation.specs.EventLists.{Lines}
use Rattle.file_simulation.specs.Events.{events_of, led_by}
use Rattle.file_simulation.specs.Showing.{Pairs}
use Rattle.exchange_law.specs.Pending.{logged_op}
use Rattle.exchange_law.proofs.PendingTurns.{EndsAs, turn_ends, calls_end}
use Rattle.file_simulation.specs.Tied.{CallTied, PhaseTied}
use Rattle.headline_law.proofs.EntriesActs.{ActsSo, Turns, Refuses, acts_so}
use Rattle.headline_law.proofs.EntriesCalls.{Stands, AreNamed}
use Rattle.headline_law.proofs.EntriesClient.{head_log, head_is, head_stands, called_well, told_of, op_back}
use Rattle.headline_law.proofs.EntriesFirst.{first_taking, all_silent}
use Rattle.headline_law.proofs.EntriesNamed.{IsWell, after_well}
use Rattle.headline_law.proofs.EntriesSends.{stands_on}
use Rattle.headline_law.proofs.EntriesTurns.{TurnTied, stays_so, EndTied}
use Rattle.headline_law.proofs.EntriesTurn.{rest_reaches}
use Rattle.headline_law.proofs.EntriesMove.{Shaped, shaped, shaped_reaches, CutReach, RestSo}
use Rattle.headline_law.proofs.EntriesRest.{logged_is, none_logged}

-- ---- a call that is taken, and one that is refused

none_is : (o : Option Call) → is_some o ≡ false → o ≡ None
none_is None e = refl
none_is (Some c) e = absurd (cc e)

pub taken_free : (x : Client) (op : CallOp) (d : Step) → calls x op ≡ Ok d → x.call ≡ None
unfolding calls
taken_free x op d e = by (is_some x.call) (is_bad_range (span_of op)) (is_spent x.next) refl e
  where
    by : (a b t : Bool) → is_some x.call ≡ a →
        (if a then Err Busy else if b then Err BadRange else if t then Err SlotSpent else Ok (starts x op)) ≡ Ok d →
        x.call ≡ None
    by true b t some e = absurd (cc e)
    by false b t none e = none_is x.call none

-- a busy client is refused as busy
busy_is : (x : Client) (op : CallOp) (e : CallErr) (call : Call) → x.call ≡ Some call → calls x op ≡ Err e → Busy ≡ e
unfolding calls
busy_is x op e call is q =
    let some : is_some x.call ≡ true = ap (λ (o : Option Call). is_some o) is in
    cc (sym (ap (λ (b : Bool). if b then Err Busy else if is_bad_range (span_of op) then Err BadRange
    else if is_spent x.next then Err SlotSpent else Ok (starts x op)) some) ∙ q)

-- the events of a turn, but for what is sent again
goes_lines : (s : State) (file c : ℕ) (x : Client) (i : Input) → (i ≡ Resends → ⊥) →
    table.client_goes s file c x i
    ≡ table.at_first s file c x i ∷ table.at_end (after_all s (table.at_first s file c x i)) file c (op_in x i) (step x i)
goes_lines s file c x (Calls op) other = refl
goes_lines s file c x (Hears from m) other = refl
goes_lines s file c x (TimesOut k) other = refl
goes_lines s file c x Leaves other = refl
goes_lines s file c x Resends other = absurd (other refl)

module _ (w : World) (m : Move) (g : Going) (goes : going_in w m.action ≡ Some g) (e : ℕ → ℕ) (f : File) (s : State) (l : Log)
    (pairs : Pairs) (k : Stands f.kept.number s l pairs) (well : IsWell l)
    (agrees : logged_op (at_number l.pending g.client) ≡ pending_op g.state) where
  abbrev file : ℕ
  file = f.kept.number

  abbrev c : ℕ
  c = g.client

  abbrev x : Client
  x = g.state

  abbrev first : List Event
  first = table.at_first s f.kept.number g.client g.state g.input

  abbrev pub first_state : State
  first_state = after_all s (table.at_first s f.kept.number g.client g.state g.input)

  -- the log behind the first line
  abbrev pub behind_head : Log
  behind_head = head_log g.client g.input l

  -- what the turn is asked to be
  abbrev pub IsTiedTurn : Type 0
  IsTiedTurn =
      TurnTied f.kept.number g.client first_state pairs (entry_in (at_number behind_head.pending g.client))
      (op_in g.state g.input) (step g.state g.input)

  abbrev pub MoveReaches : (n : ℕ) → Type 0
  MoveReaches n =
      CutReach f.kept.number s pairs (step g.state g.input).client g.client l (events_of s w e f m) (lines_in w m) n

  events_are : (g.input ≡ Resends → ⊥) → events_of s w e f m
      ≡ led_by m.action (first ∷ table.at_end first_state f.kept.number g.client (op_in g.state g.input) (step g.state g.input))
  events_are other =
      rw goes (ap (led_by m.action) (goes_lines s f.kept.number g.client g.state g.input other))

  -- ---- a turn

  -- the call that the turn is about is the pending one
  about : ((op : CallOp) → g.input ≡ Calls op → (d : Step) × (calls g.state op ≡ Ok d)) →
      logged_op (at_number behind_head.pending g.client) ≡ op_in g.state g.input
  about taken = by g.input refl
    where
      by : (i : Input) → g.input ≡ i →
          logged_op (at_number (head_log g.client i l).pending g.client) ≡ op_in g.state i
      by (Calls op) is =
          let d = taken op is in
          let free : at_number l.pending g.client ≡ None =
          none_logged (at_number l.pending g.client)
          (agrees ∙ ap (option_map (λ (y : Call). y.op)) (taken_free g.state op d.0 d.1)) in
          ap (λ (o : Option Pending). logged_op (at_number (called_beside l g.client (told_of op) o).pending g.client)) free
          ∙ ap logged_op (lookup_inserted l.pending g.client _)
          ∙ ap (λ (p : CallOp). Some p) (op_back op)
      by (Hears from b) is = agrees
      by (TimesOut n) is = agrees
      by Leaves is = agrees
      by Resends is = agrees

  ends_so : ((op : CallOp) → g.input ≡ Calls op → (d : Step) × (calls g.state op ≡ Ok d)) →
      EndsAs (op_in g.state g.input) (step g.state g.input).outcome (step g.state g.input).client.call
  ends_so taken = by g.input refl
    where
      by : (i : Input) → g.input ≡ i → EndsAs (op_in g.state i) (step g.state i).outcome (step g.state i).client.call
      by (Calls op) is =
          let d = taken op is in
          subst (λ (r : Result Step CallErr). EndsAs (Some op) (unless_refused g.state r).outcome
          (unless_refused g.state r).client.call) (sym d.1) (calls_end g.state op d.0 d.1)
      by (Hears from b) is = turn_ends g.state (Hears from b) (λ op q. cc q)
      by (TimesOut n) is = turn_ends g.state (TimesOut n) (λ op q. cc q)
      by Leaves is = turn_ends g.state Leaves (λ op q. cc q)
      by Resends is = turn_ends g.state Resends (λ op q. cc q)

  head_well : IsWell behind_head
  head_well = called_well g.client g.input l well

  turns : (a : Act) → (move w m).lines ≡ a.told ++ sent_lines (length a.world.network.messages) a.posts →
      (g.input ≡ Resends → ⊥) → ((op : CallOp) → g.input ≡ Calls op → (d : Step) × (calls g.state op ≡ Ok d)) →
      (wrote : Bool) (logged : ℕ) →
      a.told ≡ front_of m.action delivery.Taken ++ ended_by g.client (op_in g.state g.input) (step g.state g.input).outcome →
      a.posts ≡ client_posts g.client wrote logged (step g.state g.input).sends →
      IsTiedTurn → ((u : Outcome) → (step g.state g.input).outcome ≡ Some u → is_tellable u ≡ true) → (n : ℕ) → MoveReaches n
  turns a lines other taken wrote logged told posts tied tellable n =
      let number : ℕ = length a.world.network.messages in
      let ended : List Line = ended_by g.client (op_in g.state g.input) (step g.state g.input).outcome in
      let sent : List Line = sent_lines number (client_posts g.client wrote logged (step g.state g.input).sends) in
      let rest : List Line = ended ++ sent in
      let all : lines_in w m ≡ with_event m.action (front_of m.action delivery.Taken ++ rest) =
      ap (with_event m.action)
      (lines ∙ ap (λ (ls : List Line). ls ++ sent_lines number a.posts) told
      ∙ ap (λ (ps : List Post). (front_of m.action delivery.Taken ++ ended) ++ sent_lines number ps) posts
      ∙ append_assoc (front_of m.action delivery.Taken) ended sent) in
      let ends : Lines =
      table.at_end first_state f.kept.number g.client (op_in g.state g.input) (step g.state g.input) in
      subst
      (λ (ls : List Line). CutReach f.kept.number s pairs (step g.state g.input).client g.client l (events_of s w e f m) ls n)
      (sym all)
      (shaped_reaches f.kept.number s pairs (step g.state g.input).client g.client g.input l behind_head rest first ends
      (with_event m.action (front_of m.action delivery.Taken ++ rest)) (events_of s w e f m)
      (subst
      (λ (ev : Lines). Shaped g.client g.input rest first ends
      (with_event m.action (front_of m.action delivery.Taken ++ rest)) ev)
      (sym (events_are other)) (shaped w g rest first ends m.action goes)) k (λ y h. head_is g.client g.input l y h)
      (λ q. rest_reaches f.kept.number g.client first_state behind_head pairs
      (stands_on f.kept.number s behind_head pairs first
      (all_silent first (first_taking f.kept.number g.client s g.state g.input))
      (head_stands f.kept.number g.client g.input s l pairs head_well.1 k))
      head_well.0 (op_in g.state g.input) (step g.state g.input) (about taken) (ends_so taken) tied tellable wrote logged
      number q) n)

  -- ---- a call that is refused

  module _ (op : CallOp) (err : CallErr) (is : g.input ≡ Calls op) (refuses : calls g.state op ≡ Err err) where
    still_is : step g.state g.input ≡ still g.state
    still_is =
        ap (step g.state) is ∙ ap (unless_refused g.state) refuses

    first_none : first_state ≡ s
    first_none = ap (λ (i : Input). after_all s (table.at_first s f.kept.number g.client g.state i)) is

    ends_none : table.at_end first_state f.kept.number g.client (op_in g.state g.input) (step g.state g.input) ≡ []
    unfolding table.sends_all
    ends_none =
        ap (table.at_end first_state f.kept.number g.client (op_in g.state g.input)) still_is

    abbrev told_it : Line
    told_it = line.Refused g.client (told_refusal err)

    -- where a call is pending, the log is as it was
    log_back : (call : Call) → g.state.call ≡ Some call → log_after behind_head told_it ≡ l
    log_back call there =
        let p = logged_is (at_number l.pending g.client) call.op
        (agrees ∙ ap (option_map (λ (y : Call). y.op)) there) in
        let same : behind_head ≡ l =
        ap (λ (i : Input). head_log g.client i l) is
        ∙ ap (called_beside l g.client (told_of op)) p.1 in
        let busy : Busy ≡ err = busy_is g.state op err call there refuses in
        ap (λ (z : CallErr). refused behind_head g.client (told_refusal z)) (sym busy) ∙ same

    refused_stands : Stands f.kept.number first_state behind_head pairs →
        Stands f.kept.number first_state (log_after behind_head told_it) pairs
    refused_stands z = by err
      where
        named : (why : CallErr) → AreNamed (refused behind_head g.client (told_refusal why))
        named why = (after_well behind_head (line.Refused g.client (told_refusal why)) head_well).1

        by : (why : CallErr) →
            Stands f.kept.number first_state (log_after behind_head (line.Refused g.client (told_refusal why))) pairs
        by BadRange = record { paired = z.paired; single = z.single; named = named BadRange; untold = z.untold }
        by SlotSpent = record { paired = z.paired; single = z.single; named = named SlotSpent; untold = z.untold }
        by why = z

    head_now : Stands f.kept.number first_state behind_head pairs
    head_now =
        stands_on f.kept.number s behind_head pairs first
        (all_silent first (first_taking f.kept.number g.client s g.state g.input))
        (head_stands f.kept.number g.client g.input s l pairs head_well.1 k)

    abbrev RefusedSo : Lines → (n : ℕ) → Type 0
    RefusedSo ends n =
        RestSo f.kept.number s pairs (step g.state g.input).client g.client behind_head first ends (told_it ∷ []) n

    tied_still : CallTied s f.kept.number g.client pairs (entry_in (at_number l.pending g.client)) g.state.call →
        EndTied f.kept.number g.client first_state (log_after behind_head told_it) pairs (step g.state g.input).client
    tied_still tied call there here =
        let now : g.state.call ≡ Some call = sym (ap (λ (d : Step). d.client.call) still_is) ∙ there in
        let z : PhaseTied s g.client pairs (entry_in (at_number l.pending g.client)) call.phase =
        subst (CallTied s f.kept.number g.client pairs (entry_in (at_number l.pending g.client))) now tied here in
        inl (subst (λ (u : State). PhaseTied u g.client pairs
        (entry_in (at_number (log_after behind_head told_it).pending g.client)) call.phase) (sym first_none)
        (subst (λ (q : Log). PhaseTied s g.client pairs (entry_in (at_number q.pending g.client)) call.phase)
        (sym (log_back call now)) z))

    refused_rest : CallTied s f.kept.number g.client pairs (entry_in (at_number l.pending g.client)) g.state.call → (n : ℕ) →
        RefusedSo [] n
    refused_rest tied zero = (stays_so f.kept.number first_state behind_head pairs head_now, λ full. absurd (omega (arith, full)))
    refused_rest tied (suc zero) = (
      stays_so f.kept.number first_state (log_after behind_head told_it) pairs (refused_stands head_now),
      λ full. tied_still tied,
    )
    refused_rest tied (suc (suc n)) = (
      stays_so f.kept.number first_state (log_after behind_head told_it) pairs (refused_stands head_now),
      λ full. tied_still tied,
    )

    refused_reach : lines_in w m ≡ with_event m.action (front_of m.action delivery.Taken ++ told_it ∷ []) →
        CallTied s f.kept.number g.client pairs (entry_in (at_number l.pending g.client)) g.state.call → (n : ℕ) → MoveReaches n
    refused_reach lines tied n =
        let ends : Lines =
        table.at_end first_state f.kept.number g.client (op_in g.state g.input) (step g.state g.input) in
        subst
        (λ (ls : List Line). CutReach f.kept.number s pairs (step g.state g.input).client g.client l (events_of s w e f m) ls n)
        (sym lines)
        (shaped_reaches f.kept.number s pairs (step g.state g.input).client g.client g.input l behind_head (told_it ∷ []) first
        ends (with_event m.action (front_of m.action delivery.Taken ++ told_it ∷ [])) (events_of s w e f m)
        (subst
        (λ (ev : Lines). Shaped g.client g.input (told_it ∷ []) first ends
        (with_event m.action (front_of m.action delivery.Taken ++ told_it ∷ [])) ev)
        (sym (events_are (λ q. cc (sym is ∙ q)))) (shaped w g (told_it ∷ []) first ends m.action goes)) k
        (λ y h. head_is g.client g.input l y h)
        (λ q. subst (λ (ev : Lines). RefusedSo ev q) (sym ends_none) (refused_rest tied q)) n)

  -- Any move of a client.
  pub client_reaches : ((wrote : Bool) (logged : ℕ) →
      filter is_addressed (client_posts g.client wrote logged (step g.state g.input).sends)
      ≡ client_posts g.client wrote logged (step g.state g.input).sends) →
      ((u : Outcome) → (step g.state g.input).outcome ≡ Some u → is_tellable u ≡ true) →
      (((op : CallOp) → g.input ≡ Calls op → (d : Step) × (calls g.state op ≡ Ok d)) → IsTiedTurn) →
      CallTied s f.kept.number g.client pairs (entry_in (at_number l.pending g.client)) g.state.call → (n : ℕ) → MoveReaches n
  unfolding sent_lines
  client_reaches out tellable tied call n = by (acts_so w m.chosen m.action g goes)
    where
      by : ActsSo m.action g (acts w m.chosen m.action) → MoveReaches n
      by (Turns other taken wrote logged told posts) =
          turns (acts w m.chosen m.action) refl other taken wrote logged told (posts ∙ out wrote logged) (tied taken) tellable n
      by (Refuses op err is refuses front told posts) =
          refused_reach op err is refuses
          (ap (with_event m.action)
          (ap (λ (ls : List Line). ls ++ sent_lines (length (acts w m.chosen m.action).world.network.messages)
          (acts w m.chosen m.action).posts) told
          ∙ ap (λ (ps : List Post). (line.Refused g.client (told_refusal err) ∷ [])
          ++ sent_lines (length (acts w m.chosen m.action).world.network.messages) ps) posts
          ∙ none_sent (length (acts w m.chosen m.action).world.network.messages)
          ∙ ap (λ (ls : List Line). ls ++ line.Refused g.client (told_refusal err) ∷ []) (sym front))) call n
        where
          none_sent : (number : ℕ) → (line.Refused g.client (told_refusal err) ∷ []) ++ sent_lines number []
              ≡ line.Refused g.client (told_refusal err) ∷ []
          none_sent number = refl
