-- Few bytes are kept in the whole scenario, no event of it stops at their limit, and it is calm.
use Rattle.exchange_law.proofs.Bytes.{each_message_is_kept, within_the_limit_are_few}
use Rattle.exchange_law.specs.Text.{AreFew, AreOfText}
use Rattle.generate_law.proofs.EachRest.{Split, cut, front_plays}
use Rattle.generate_law.proofs.Events.{events_are}
use Rattle.generate_law.proofs.KeptCalls.{CallIsSmall, call_is_small}
use Rattle.generate_law.proofs.KeptHears.{NoLoss, both_no_loss}
use Rattle.generate_law.proofs.KeptOpening.{KeepsFew, client_keeps, drive_keeps, file_keeps}
use Rattle.generate_law.proofs.Opening.{client_made, drive_made, opening_rests, world_with}
use Rattle.generate_law.proofs.Readiness.{call_inside}
use Rattle.generate_law.proofs.Resting.{first_inside}
use Rattle.generate_law.proofs.Runs.{Goes, moved, next, none_due}
use Rattle.generate_law.proofs.Texts.{IsGood, call_good, client_good, drive_good, file_good, first_good, lines_good, scenario_is_text}
use Rattle.generate_law.specs.Calm.{ScenarioIsCalm}
use Rattle.generate_law.specs.Few.{MESSAGES_A_CALL}
use Rattle.generate_law.specs.Kept.{BYTES_A_CALL, FewAreKept, MOST_CALLS, NoneFillsUp, ScenarioGoesWell, ScenarioIsFew}
use Rattle.generate_law.specs.Opening.{EachCallRests, ScenarioCallsEndInOk, before_calls}
use Rattle.generate_law.specs.Plays.{Plays}
use Rattle.generate_law.specs.Quiet.{ScenarioIsUnguessed}
use Rattle.generate_law.specs.Rests.{FILE_SIZE}
use Rattle.generate_law.specs.Scenario.{call_event, call_of, calls_from, each_below, first_call, first_write, makes_drive, makes_file, next_random, opening, scenario_of}
use Rattle.history_law.specs.Read.{AreWritten}
use Rattle.lossless_law.specs.Lossless.{TellsNoLoss}
use Rattle.ready_law.proofs.Together.{ReadyLaws}
use Rattle.scenario_text.specs.declared.event.Event.{Event}
use Rattle.scenario_text.specs.declared.line.Line.{Line}
use Rattle.std.proofs.Common.{ℕ, List, None, Some, [], ap, append_assoc, arith, inl, inr, length, map, refl, subst, suc, sym, zero, ◌%◌, ◌*◌, ◌++◌, ◌+◌, ◌∙◌, ◌∷◌, ◌≡◌, ◌≤◌, ◌⊎◌}
use Rattle.std.proofs.Math.Nat.{mod-lt}
use Rattle.std.proofs.lemmas.List.{append-nil}
use Rattle.std.specs.List.{AllByRecursion}
use Rattle.world_history.specs.History.{AreCarried, StandsFor, Step, end_of, lines_of_steps}
use Rattle.world_history.specs.Moves.{Opens}
use Rattle.world_history.specs.Plans.{Alone, Plan, Rule, due, plan_of, rule_of, went_on}
use Rattle.world_history.specs.Refusals.{refusal}
use Rattle.world_history.specs.Runs.{AreDue, Carries, FillsUp, lines_of, plan_after, world_after}
use Rattle.world_history.specs.Sending.{Move, move}
use Rattle.world_history.specs.State.{World, empty_world}
use Rattle.world_history.specs.declared.limits.TheConstants.{MAX_KEPT}
use Rattle.scenario_text.specs.declared.line.Line.TheVariants as line
use Rattle.scenario_text.specs.declared.event.Event.TheVariants as event

-- ---- before the calls

-- each of these events keeps few bytes where it comes, and so does the world behind them
abbrev AllKeep : World → List Event → Type 0
AllKeep w [] = w.network.kept ≤ BYTES_A_CALL
AllKeep w (e ∷ es) = KeepsFew w e × ((v : World) (lines : List Line) → Carries w e lines v → AllKeep v es)

-- an event after which nothing is due leads to one world
alone_all : (w u : World) (e : Event) (es : List Event) → rule_of w e ≡ Alone
    → ((chosen : List ℕ) → moved w (Opens e) chosen ≡ u) → KeepsFew w e → AllKeep u es → AllKeep w (e ∷ es)
alone_all w u e es rule is keeps rest = (
  keeps,
  λ v lines c.
      let goes : Goes (plan_of w e) w v =
      record { moves = c.moves; are_due = c.are_due; over = c.over; world_is = c.world_is } in
      let n : (chosen : List ℕ) × Goes (went_on (plan_of w e) (Opens e)) (moved w (Opens e) chosen) v =
      next (plan_of w e) w v (Opens e) goes refl in
      let g : Goes (record { opening = None; rule = Alone }) (moved w (Opens e) n.0) v =
      subst (λ (r : Rule). Goes (record { opening = None; rule = r }) (moved w (Opens e) n.0) v) rule n.1 in
      let at : v ≡ u = none_due (record { opening = None; rule = Alone }) (moved w (Opens e) n.0) v g refl ∙ is n.0 in
      subst (λ (y : World). AllKeep y es) (sym at) rest,
)

file_all : AllKeep (world_with 6 3) (makes_file ∷ [])
file_all = (
  file_keeps,
  λ v lines c. subst (λ (y : World). y.network.kept ≤ BYTES_A_CALL) (sym c.world_is) (file_keeps c.moves c.are_due).0,
)

clients_all : AllKeep (world_with 6 0) (each_below (λ c. event.Client c) 3 ++ makes_file ∷ [])
unfolding rule_of
clients_all =
    alone_all (world_with 6 0) (world_with 6 1) (event.Client 0) (event.Client 1 ∷ event.Client 2 ∷ makes_file ∷ []) refl (client_made 0 (omega arith)) (client_keeps 0 (omega arith))
    (alone_all (world_with 6 1) (world_with 6 2) (event.Client 1) (event.Client 2 ∷ makes_file ∷ []) refl (client_made 1 (omega arith)) (client_keeps 1 (omega arith))
    (alone_all (world_with 6 2) (world_with 6 3) (event.Client 2) (makes_file ∷ []) refl (client_made 2 (omega arith)) (client_keeps 2 (omega arith))
    file_all))

abbrev then_clients : List Event
then_clients = event.Client 0 ∷ event.Client 1 ∷ event.Client 2 ∷ makes_file ∷ []

pub opening_all : AllKeep empty_world before_calls
unfolding rule_of
opening_all =
    alone_all (world_with 0 0) (world_with 1 0) (makes_drive 0) (makes_drive 1 ∷ makes_drive 2 ∷ makes_drive 3 ∷ makes_drive 4 ∷ makes_drive 5 ∷ then_clients) refl (drive_made 0 (omega arith)) (drive_keeps 0 (omega arith))
    (alone_all (world_with 1 0) (world_with 2 0) (makes_drive 1) (makes_drive 2 ∷ makes_drive 3 ∷ makes_drive 4 ∷ makes_drive 5 ∷ then_clients) refl (drive_made 1 (omega arith)) (drive_keeps 1 (omega arith))
    (alone_all (world_with 2 0) (world_with 3 0) (makes_drive 2) (makes_drive 3 ∷ makes_drive 4 ∷ makes_drive 5 ∷ then_clients) refl (drive_made 2 (omega arith)) (drive_keeps 2 (omega arith))
    (alone_all (world_with 3 0) (world_with 4 0) (makes_drive 3) (makes_drive 4 ∷ makes_drive 5 ∷ then_clients) refl (drive_made 3 (omega arith)) (drive_keeps 3 (omega arith))
    (alone_all (world_with 4 0) (world_with 5 0) (makes_drive 4) (makes_drive 5 ∷ then_clients) refl (drive_made 4 (omega arith)) (drive_keeps 4 (omega arith))
    (alone_all (world_with 5 0) (world_with 6 0) (makes_drive 5) then_clients refl (drive_made 5 (omega arith)) (drive_keeps 5 (omega arith))
    clients_all)))))

-- the lines of an event
event_no_loss : (e : Event) → TellsNoLoss (line.Event e)
event_no_loss e = tt

carried_no_loss : (w v : World) (e : Event) (lines : List Line) (c : Carries w e lines v) → NoLoss (lines_of w c.moves)
    → NoLoss lines
carried_no_loss w v e lines c told = subst NoLoss (sym c.lines_are) (tt, told)

steps_keep : (w : World) (es : List Event) (steps : List Step) → AllKeep w es → AreCarried w steps
    → map (λ (s : Step). s.event) steps ≡ es → ((end_of w steps).network.kept ≤ BYTES_A_CALL) × NoLoss (lines_of_steps steps)
steps_keep w [] [] k c is = (k, tt)
steps_keep w [] (s ∷ steps) k c is = absurd (cc is)
steps_keep w (e ∷ es) [] k c is = absurd (cc is)
steps_keep w (e ∷ es) (s ∷ steps) k c is =
    let same : s.event ≡ e = cc is in
    let others : map (λ (t : Step). t.event) steps ≡ es = cc is in
    let its : Carries w e s.lines s.after = subst (λ (x : Event). Carries w x s.lines s.after) same c.0 in
    let rest = steps_keep s.after es steps (k.1 s.after s.lines its) c.1 others in (
      rest.0,
      both_no_loss s.lines (lines_of_steps steps)
          (carried_no_loss w s.after e s.lines its (k.0 its.moves its.are_due).1) rest.1,
    )

front_keeps : (w : World) (es front : List Event) (e : Event) (back : List Event) (steps : List Step) → AllKeep w es
    → AreCarried w steps → map (λ (s : Step). s.event) steps ≡ front → es ≡ front ++ e ∷ back → KeepsFew (end_of w steps) e
front_keeps w [] [] e back [] k c is split = absurd (cc split)
front_keeps w (x ∷ es) [] e back [] k c is split =
    let same : x ≡ e = cc split in subst (KeepsFew w) same k.0
front_keeps w es [] e back (s ∷ steps) k c is split = absurd (cc is)
front_keeps w es (f ∷ front) e back [] k c is split = absurd (cc is)
front_keeps w [] (f ∷ front) e back (s ∷ steps) k c is split = absurd (cc split)
front_keeps w (x ∷ es) (f ∷ front) e back (s ∷ steps) k c is split =
    let same : s.event ≡ x = (let a : s.event ≡ f = cc is in let b : x ≡ f = cc split in a ∙ sym b) in
    let others : map (λ (t : Step). t.event) steps ≡ front = cc is in
    let rest : es ≡ front ++ e ∷ back = cc split in
    let its : Carries w x s.lines s.after = subst (λ (y : Event). Carries w y s.lines s.after) same c.0 in
    front_keeps s.after es front e back steps (k.1 s.after s.lines its) c.1 others rest

-- ---- texts

before_good : AllByRecursion IsGood before_calls
before_good = (
  drive_good 0 refl (omega arith),
  (
    drive_good 1 refl (omega arith),
    (
      drive_good 2 refl (omega arith),
      (
        drive_good 3 refl (omega arith),
        (
          drive_good 4 refl (omega arith),
          (
            drive_good 5 refl (omega arith),
            (
              client_good 0 (omega arith),
              (client_good 1 (omega arith), (client_good 2 (omega arith), (file_good, tt))),
            ),
          ),
        ),
      ),
    ),
  ),
)

before_texts : (w : World) (h : List Line) → Plays before_calls w h → AreWritten h × AreOfText h
before_texts w h p = lines_good h (subst (AllByRecursion IsGood) (sym (events_are before_calls w h p)) before_good)

-- ---- after some calls

-- few bytes are kept, there are few messages, and no loss is told
pub record IsLow (n : ℕ) (w : World) (h : List Line) : Type 0 where
  pub kept : w.network.kept ≤ BYTES_A_CALL * (n + 1)
  pub few : length w.network.messages ≤ BYTES_A_CALL + MESSAGES_A_CALL * n
  pub told : NoLoss h

before_low : (w : World) (h : List Line) → Plays before_calls w h → IsLow 0 w h
before_low w h p =
    let it = steps_keep empty_world before_calls p.stands.steps opening_all p.stands.carried p.events_are in
    let few : w.network.kept ≤ BYTES_A_CALL =
    subst (λ (y : World). y.network.kept ≤ BYTES_A_CALL) (sym p.stands.world_is) it.0 in
    let messages : length w.network.messages ≤ w.network.kept =
    each_message_is_kept w (record { before = w; history = h; stands = p.stands; moves = []; world_is = refl }) in
    record {
      kept = omega (arith, few);
      few = omega (arith, few, messages);
      told = subst NoLoss (sym p.stands.lines_are) it.1;
    }

few_so : (n : ℕ) (w : World) (h : List Line) → StandsFor w h → n ≤ 1001 → IsLow n w h → AreFew h
few_so n w h stands most low = within_the_limit_are_few w h stands (omega (arith, low.kept, most))

-- the last event of a history that has one more
record LastStep (w v : World) (e : Event) (ls : List Line) : Type 0 where
  lines : List Line
  carries : Carries w e lines v
  lines_are : ls ≡ lines

last_step : (w v : World) (e : Event) (steps : List Step) → AreCarried w steps → v ≡ end_of w steps
    → map (λ (s : Step). s.event) steps ≡ e ∷ [] → LastStep w v e (lines_of_steps steps)
last_step w v e [] c at is = absurd (cc is)
last_step w v e (s ∷ t ∷ steps) c at is =
    let more : t.event ∷ map (λ (x : Step). x.event) steps ≡ [] = cc is in absurd (cc more)
last_step w v e (s ∷ []) c at is =
    let same : s.event ≡ e = cc is in
    record {
      lines = s.lines;
      carries = subst (λ (y : World). Carries w e s.lines y) (sym at) (subst (λ (x : Event). Carries w x s.lines s.after) same c.0);
      lines_are = append-nil s.lines;
    }

-- one more call
more_low : (n : ℕ) (u v : World) (g lines : List Line) (e : Event) → IsLow n u g → (c : Carries u e lines v)
    → CallIsSmall u c.moves → IsLow (n + 1) v (g ++ lines)
more_low n u v g lines e low c small =
    let kept : v.network.kept ≤ u.network.kept + BYTES_A_CALL =
    subst (λ (y : World). y.network.kept ≤ u.network.kept + BYTES_A_CALL) (sym c.world_is) small.kept in
    let few : length v.network.messages ≤ length u.network.messages + MESSAGES_A_CALL =
    subst (λ (y : World). length y.network.messages ≤ length u.network.messages + MESSAGES_A_CALL) (sym c.world_is) small.few in
    record {
      kept = omega (arith, kept, low.kept);
      few = omega (arith, few, low.few);
      told = both_no_loss g lines low.told (carried_no_loss u v e lines c small.told);
    }

-- the calls and one behind them
calls_last : (n k x : ℕ) → (m z : ℕ) × (calls_from (suc n) k x ≡ calls_from n k x ++ call_event m z ∷ [])
calls_last zero k x = (k, x, refl)
calls_last (suc n) k x =
    let r = calls_last n (k + 1) (next_random x) in (r.0, r.1, ap (λ (es : List Event). call_event k x ∷ es) r.2)

module _ (all : ReadyLaws) (rests : EachCallRests) where
  -- the moves of the first call, and of each other one
  first_moves : (u : World) (g : List Line) → Plays before_calls u g → refusal u first_call ≡ None → (ms : List Move)
      → AreDue (plan_of u first_call) u ms → CallIsSmall u ms
  first_moves u g p allowed ms due_all =
      let low = before_low u g p in
      let text = before_texts u g p in
      call_is_small all 0 0 (omega arith) first_write first_inside u g p.stands (opening_rests u g p) text.0 text.1 refl
      first_good.fits allowed (omega (arith, low.few)) ms due_all

  call_moves : (seed n : ℕ) (u : World) (g : List Line) → n ≤ MOST_CALLS → Plays (scenario_of seed n) u g → IsLow (n + 1) u g
      → (m z : ℕ) → refusal u (call_event m z) ≡ None → (ms : List Move) → AreDue (plan_of u (call_event m z)) u ms
      → CallIsSmall u ms
  call_moves seed n u g most p low m z allowed ms due_all =
      let text = scenario_is_text seed n u g p in
      let few : AreFew g = few_so (n + 1) u g p.stands (omega (arith, most)) low in
      call_is_small all FILE_SIZE (m % 3) (mod-lt m {m = 3} (omega arith)) (call_of m z) (call_inside m z) u g p.stands
      (rests seed n u g p few) text.0 text.1 refl (call_good m z).fits allowed (omega (arith, low.few, most)) ms due_all

  pub low_after : (seed n : ℕ) (w : World) (h : List Line) → n ≤ MOST_CALLS → Plays (scenario_of seed n) w h → IsLow (n + 1) w h
  low_after seed zero w h most p =
      let s : Split empty_world w h before_calls (first_call ∷ []) = cut before_calls (first_call ∷ []) w h p in
      let front : Plays before_calls s.between (lines_of_steps s.front) = front_plays before_calls (first_call ∷ []) w h s in
      let l = last_step s.between w first_call s.back s.carried_back s.back_ends s.back_events in
      let small = first_moves s.between (lines_of_steps s.front) front l.carries.allowed l.carries.moves l.carries.are_due in
      subst (IsLow 1 w) (sym (s.lines_are ∙ ap (λ (ls : List Line). lines_of_steps s.front ++ ls) l.lines_are))
      (more_low 0 s.between w (lines_of_steps s.front) l.lines first_call (before_low s.between (lines_of_steps s.front) front)
      l.carries small)
  low_after seed (suc n) w h most p =
      let e = calls_last n 0 seed in
      let call : Event = call_event e.0 e.1 in
      let is : scenario_of seed (suc n) ≡ scenario_of seed n ++ call ∷ [] =
      ap (λ (es : List Event). opening ++ es) e.2 ∙ sym (append_assoc opening (calls_from n 0 seed) (call ∷ [])) in
      let again : Plays (scenario_of seed n ++ call ∷ []) w h = record { stands = p.stands; events_are = p.events_are ∙ is } in
      let s : Split empty_world w h (scenario_of seed n) (call ∷ []) = cut (scenario_of seed n) (call ∷ []) w h again in
      let front : Plays (scenario_of seed n) s.between (lines_of_steps s.front) =
      front_plays (scenario_of seed n) (call ∷ []) w h s in
      let low = low_after seed n s.between (lines_of_steps s.front) (omega (arith, most)) front in
      let l = last_step s.between w call s.back s.carried_back s.back_ends s.back_events in
      let small =
      call_moves seed n s.between (lines_of_steps s.front) (omega (arith, most)) front low e.0 e.1 l.carries.allowed
      l.carries.moves l.carries.are_due in
      let next : IsLow (n + 1 + 1) w (lines_of_steps s.front ++ l.lines) =
      more_low (n + 1) s.between w (lines_of_steps s.front) l.lines call low l.carries small in
      let number : n + 1 + 1 ≡ suc n + 1 = omega arith in
      subst (λ (k : ℕ). IsLow k w h) number
      (subst (IsLow (n + 1 + 1) w) (sym (s.lines_are ∙ ap (λ (ls : List Line). lines_of_steps s.front ++ ls) l.lines_are)) next)

  pub few_are_kept : FewAreKept
  few_are_kept seed n w h most p = let low = low_after seed n w h most p in omega (arith, low.kept)

  pub scenario_is_few : ScenarioIsFew
  scenario_is_few seed n w h most p =
      few_so (n + 1) w h p.stands (omega (arith, most)) (low_after seed n w h most p)

  -- ---- no event stops at the limit

  due_more : (p : Plan) (w : World) (ms : List Move) (m : Move) → AreDue p w ms
      → due (plan_after p ms) (world_after w ms) ≡ Some m.action → AreDue p w (ms ++ m ∷ [])
  due_more p w [] m d e = (e, tt)
  due_more p w (x ∷ ms) m d e = (d.0, due_more (went_on p x.action) (move w x).world ms m d.1 e)

  world_more : (w : World) (ms : List Move) (m : Move) → world_after w (ms ++ m ∷ []) ≡ (move (world_after w ms) m).world
  world_more w [] m = refl
  world_more w (x ∷ ms) m = world_more (move w x).world ms m

  never_full : (w : World) (e : Event) (lines : List Line)
      → ((ms : List Move) → AreDue (plan_of w e) w ms → (world_after w ms).network.kept ≤ MAX_KEPT) → FillsUp w e lines → ⊥
  never_full w e lines keeps f =
      let low : (world_after w (f.moves ++ f.last ∷ [])).network.kept ≤ MAX_KEPT =
      keeps (f.moves ++ f.last ∷ []) (due_more (plan_of w e) w f.moves f.last f.are_due f.last_is_due) in
      let behind : (move (world_after w f.moves) f.last).world.network.kept ≤ MAX_KEPT =
      subst (λ (y : World). y.network.kept ≤ MAX_KEPT) (world_more w f.moves f.last) low in
      absurd (omega (arith, behind, f.passes.1))

  -- where an event stands among the others
  two_parts : (e : Event) (back : List Event) (es fs front : List Event) → front ++ e ∷ back ≡ es ++ fs
      → ((rest : List Event) × (es ≡ front ++ e ∷ rest))
      ⊎ ((more : List Event) × (front ≡ es ++ more) × (more ++ e ∷ back ≡ fs))
  two_parts e back [] fs front is = inr (front, refl, is)
  two_parts e back (x ∷ es) fs [] is =
      let same : e ≡ x = cc is in inl (es, ap (λ (y : Event). y ∷ es) (sym same))
  two_parts e back (x ∷ es) fs (f ∷ front) is =
      let same : f ≡ x = cc is in
      let others : front ++ e ∷ back ≡ es ++ fs = cc is in
      elim (two_parts e back es fs front others) [
        | inl (rest, split) ↦
            inl (rest, ap (λ (ys : List Event). x ∷ ys) split ∙ ap (λ (y : Event). y ∷ (front ++ e ∷ rest)) (sym same))
        | inr (more, split, behind) ↦
            inr (more, ap (λ (y : Event). y ∷ front) same ∙ ap (λ (ys : List Event). x ∷ ys) split, behind)
      ]

  in_calls : (e : Event) (back : List Event) (n k x : ℕ) (front : List Event) → front ++ e ∷ back ≡ calls_from n k x
      → (j m z : ℕ) × (front ≡ calls_from j k x) × (e ≡ call_event m z) × (j ≤ n)
  in_calls e back zero k x [] is = absurd (cc is)
  in_calls e back zero k x (f ∷ front) is = absurd (cc is)
  in_calls e back (suc n) k x [] is = let same : e ≡ call_event k x = cc is in (0, k, x, refl, same, omega arith)
  in_calls e back (suc n) k x (f ∷ front) is =
      let same : f ≡ call_event k x = cc is in
      let others : front ++ e ∷ back ≡ calls_from n (k + 1) (next_random x) = cc is in
      let r = in_calls e back n (k + 1) (next_random x) front others in (
        suc r.0,
        r.1,
        r.2,
        ap (λ (y : Event). y ∷ front) same ∙ ap (λ (ys : List Event). call_event k x ∷ ys) r.3,
        r.4,
        omega (arith, r.5),
      )

  module _ (seed calls : ℕ) (most : calls ≤ MOST_CALLS) (front : List Event) (e : Event) (back : List Event) (w : World)
      (h lines : List Line) (p : Plays front w h) (f : FillsUp w e lines) where
    -- in the opening
    not_before : (rest : List Event) → before_calls ≡ front ++ e ∷ rest → ⊥
    not_before rest split =
        let keeps : KeepsFew (end_of empty_world p.stands.steps) e =
        front_keeps empty_world before_calls front e rest p.stands.steps opening_all p.stands.carried p.events_are split in
        let here : KeepsFew w e = subst (λ (y : World). KeepsFew y e) (sym p.stands.world_is) keeps in
        never_full w e lines (λ ms due_all. (let low = (here ms due_all).0 in omega (arith, low))) f

    -- at the first call
    not_first : front ≡ before_calls → e ≡ first_call → ⊥
    not_first is same =
        let again : Plays before_calls w h = record { stands = p.stands; events_are = p.events_are ∙ is } in
        let full : FillsUp w first_call lines = subst (λ (y : Event). FillsUp w y lines) same f in
        let low = before_low w h again in
        never_full w first_call lines (λ ms due_all.
        (let small = first_moves w h again full.allowed ms due_all in omega (arith, small.kept, low.kept))) full

    -- at another one
    not_later : (j m z : ℕ) → j ≤ calls → front ≡ scenario_of seed j → e ≡ call_event m z → ⊥
    not_later j m z few is same =
        let again : Plays (scenario_of seed j) w h = record { stands = p.stands; events_are = p.events_are ∙ is } in
        let full : FillsUp w (call_event m z) lines = subst (λ (y : Event). FillsUp w y lines) same f in
        let less : j ≤ MOST_CALLS = omega (arith, few, most) in
        let low = low_after seed j w h less again in
        never_full w (call_event m z) lines (λ ms due_all.
        (let small = call_moves seed j w h less again low m z full.allowed ms due_all in
        omega (arith, small.kept, low.kept, less))) full

    in_rest : (more : List Event) → front ≡ before_calls ++ more → more ++ e ∷ back ≡ first_call ∷ calls_from calls 0 seed → ⊥
    in_rest [] is behind =
        let same : e ≡ first_call = cc behind in not_first (is ∙ append-nil before_calls) same
    in_rest (b ∷ more) is behind =
        let same : b ≡ first_call = cc behind in
        let others : more ++ e ∷ back ≡ calls_from calls 0 seed = cc behind in
        let r = in_calls e back calls 0 seed more others in
        not_later r.0 r.1 r.2 r.5
        (is ∙ ap (λ (y : Event). before_calls ++ y ∷ more) same
        ∙ ap (λ (ys : List Event). before_calls ++ first_call ∷ ys) r.3) r.4

  pub none_fills_up : NoneFillsUp
  none_fills_up seed calls front e back w h lines most split p f =
      elim (two_parts e back before_calls (first_call ∷ calls_from calls 0 seed) front (sym split)) [
        | inl (rest, is) ↦ not_before seed calls most front e back w h lines p f rest is
        | inr (more, is, behind) ↦ in_rest seed calls most front e back w h lines p f more is behind
      ]

  -- ---- the whole scenario

  pub scenario_goes_well : ScenarioIsCalm → ScenarioIsUnguessed → ScenarioCallsEndInOk → ScenarioGoesWell
  scenario_goes_well is_calm is_unguessed end_ok seed calls w h most p =
      let few : AreFew h = scenario_is_few seed calls w h most p in
      record {
        calm = is_calm seed calls w h p (low_after seed calls w h most p).told;
        unguessed = is_unguessed seed calls w h p;
        few = few;
        ok = end_ok seed calls w h p few;
      }
