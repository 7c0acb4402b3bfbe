-- A step of the server that takes a report as a loss, cut by cut: before the line of its answer the log and the entries are as
-- they were, and behind it the log takes what was returned, and the machine has the events of the answer.
-- Towards `CutsShowEntries` (`specs/Parts.antt`).
use Rattle.std.proofs.Common.{◌≡◌, ◌⊎◌, ◌+◌, ◌++◌, ◌<◌, ◌≤◌, ℕ, zero, suc, Bool, true, false, List, [], ◌∷◌, take, map, filter, length, slice_get, Option, Some, None, refl, sym, ap, subst, ◌∙◌, inl, inr, arith, if◌then◌else◌}
use Rattle.std.specs.List.{filter_map, fold}
use Rattle.std.proofs.lemmas.Bool.{true≢false, or_cases, cases_lt}
use Rattle.osd_lists.specs.declared.node.Node.{Node}
use Rattle.osd_lists.specs.declared.node.Node.TheVariants as node
use Rattle.scenario_text.specs.declared.event.Event.{Event as Told}
use Rattle.scenario_text.specs.declared.event.Event.TheVariants as event
use Rattle.scenario_text.specs.declared.event.Machine.TheVariants as machine
use Rattle.scenario_text.specs.declared.line.Delivery.TheVariants as delivery
use Rattle.scenario_text.specs.declared.line.Line.{Line}
use Rattle.scenario_text.specs.declared.line.Line.TheVariants as line
use Rattle.server_rules.specs.History.{Input, step, Hears}
use Rattle.server_rules.specs.Messages as server_messages
use Rattle.world_history.specs.declared.messages.Posted.{Posted}
use Rattle.world_history.specs.Names.{known_note_line, note_line}
use Rattle.world_history.specs.ServerNames.{Note, Outgoing}
use Rattle.world_history.specs.State.{World}
use Rattle.world_history.specs.Handed.{is_addressed, server_post, quiet, server_takes, for_server, handed_to}
use Rattle.world_history.specs.Moves.{Action, Opens, Delivers, TimesOut, Pends, acts, begins, delivers, delivers_found, marked, told_delivered, knows_drive, has_algorithm, raw_of}
use Rattle.world_history.specs.Sending.{Move, sends_all, sent_line, sent_lines}
use Rattle.file_simulation.specs.Cuts.{lines_before}
use Rattle.world_history.specs.Reading.{Step}
use Rattle.world_history.specs.Calm.{Seen, seen, sees, moment_of, is_told_taken, sent_taken, returned_at, taken_by}
use Rattle.world_history.specs.Laws.{MomentGoesOn}
use Rattle.history_law.specs.Moments.{with_event, lines_in}
use Rattle.history_law.specs.Doing.{input_in, brought, brought_to, heard_of}
use Rattle.history_law.proofs.BookLines.{two_steps}
use Rattle.component_law.proofs.Shapes as shapes
use Rattle.component_law.proofs.Shapes.{Bare, Shape, Nothing, Left, delivers_shape}
use Rattle.headline_law.proofs.CalmCodes.{one_alone}
use Rattle.headline_law.proofs.CalmCuts.{bare_taken}
use Rattle.headline_law.proofs.EntriesRead.{step_log, step_taken}
use Rattle.headline_law.proofs.EntriesServerLines.{AllKeep, keep_all, front_keeps, server_lines_keep}

-- ---- a message that comes to the server

-- a request or a reply comes with a message, which the move delivers
pub record IsDelivered (w : World) (m : Move) (i : Input) : Type 0 where
  pub number : ℕ
  pub action : (m.action ≡ Delivers number) ⊎ (m.action ≡ Opens (event.Deliver number))
  pub comes : brought w (slice_get w.network.messages number) ≡ Some i

pub is_delivered : (w : World) (m : Move) (now : ℕ) (from : Node) (x : server_messages.Message) →
    input_in w m.action ≡ Some (Hears now from x) → IsDelivered w m (Hears now from x)
is_delivered w m now from x is = by_action m.action refl is
  where
    unless_not : (b : Bool) (j : Input) → (j ≡ Hears now from x → ⊥) → (if b then None else Some j) ≡ Some (Hears now from x) →
        ⊥
    unless_not true j none e = cc e
    unless_not false j none e = let same : j ≡ Hears now from x = cc e in none same

    if_not : (b : Bool) (j : Input) → (j ≡ Hears now from x → ⊥) → (if b then Some j else None) ≡ Some (Hears now from x) → ⊥
    if_not true j none e = let same : j ≡ Hears now from x = cc e in none same
    if_not false j none e = cc e

    by_event : (e : Told) → m.action ≡ Opens e → input_in w (Opens e) ≡ Some (Hears now from x) →
        IsDelivered w m (Hears now from x)
    by_event (event.Deliver n) act e = record { number = n; action = inr act; comes = e }
    by_event (event.Drive d key capacity) act e = absurd (unless_not (knows_drive w.server d) _ (λ q. cc q) e)
    by_event (event.Disk d key capacity) act e = absurd (unless_not (knows_drive w.server d) _ (λ q. cc q) e)
    by_event (event.File f y tag) act e = absurd (if_not (has_algorithm (raw_of y)) _ (λ q. cc q) e)
    by_event (event.ZonedFile f y tag) act e = absurd (if_not (has_algorithm (raw_of y)) _ (λ q. cc q) e)
    by_event (event.Crash machine.Server) act e = absurd (cc e)
    by_event (event.Crash (machine.Drive d)) act e = absurd (cc e)
    by_event (event.Reopen machine.Server) act e = absurd (cc e)
    by_event (event.Reopen (machine.Drive d)) act e = absurd (cc e)
    by_event y act e = absurd (cc e)

    by_action : (a : Action) → m.action ≡ a → input_in w a ≡ Some (Hears now from x) → IsDelivered w m (Hears now from x)
    by_action (Opens e) act r = by_event e act r
    by_action (Delivers n) act r = record { number = n; action = inl act; comes = r }
    by_action (TimesOut c k) act r = absurd (cc r)
    by_action (Pends c) act r = absurd (cc r)

-- ---- its lines

abbrev pub notes_of : World → List ℕ → Input → List Line
notes_of w chosen i = filter_map known_note_line (step w.server chosen i).notes

module _ (w : World) (chosen : List ℕ) (i : Input) (n : ℕ) where
  abbrev head : Line
  head = line.Delivered n delivery.Taken

  takes_are : (p : Posted) (from : Node) (o : Option server_messages.Message) → heard_of w.clock from o ≡ Some i →
      (told_delivered n (server_takes (marked w n p) chosen from o)).told ≡ head ∷ notes_of w chosen i
  takes_are p from None is = absurd (cc is)
  takes_are p from (Some x) is =
      let one : Hears w.clock from x ≡ i = cc is in ap (λ (y : Input). head ∷ notes_of w chosen y) one

  to_are : (p : Posted) (to : Node) → brought_to w p.message to ≡ Some i →
      (told_delivered n (handed_to (marked w n p) chosen p.message to)).told ≡ head ∷ notes_of w chosen i
  to_are p (node.Drive d) is = absurd (cc is)
  to_are p (node.Client c) is = absurd (cc is)
  to_are p node.Server is = either w.down is
    where
      either : (b : Bool) → (if b then None else heard_of w.clock p.message.from (for_server p.message)) ≡ Some i →
          (told_delivered n (if b then quiet (marked w n p) delivery.Deaf
          else server_takes (marked w n p) chosen p.message.from (for_server p.message))).told ≡ head ∷ notes_of w chosen i
      either true e = absurd (cc e)
      either false e = takes_are p p.message.from (for_server p.message) e

  found_are : (o : Option Posted) → brought w o ≡ Some i → (delivers_found w chosen n o).told ≡ head ∷ notes_of w chosen i
  found_are None is = absurd (cc is)
  found_are (Some p) is = to_are p p.message.to is

  pub delivered_told : brought w (slice_get w.network.messages n) ≡ Some i →
      (delivers w chosen n).told ≡ head ∷ notes_of w chosen i
  unfolding delivers
  delivered_told is = found_are (slice_get w.network.messages n) is

-- ---- the log behind them

module _ (moments : MomentGoesOn) (h : List Line) (n : ℕ) (rest : List Line) (bare : Bare rest)
    (keep : AllKeep (line.Delivered n delivery.Taken ∷ rest)) where
  abbrev l : Line
  l = line.Delivered n delivery.Taken

  -- what was returned in the message
  abbrev pub returned_there : Option ℕ
  returned_there = returned_at (seen h).server.sent l

  one_log : (moment_of (h ++ (l ∷ rest))).log ≡ taken_by (moment_of h).log (is_told_taken rest) returned_there
  one_log =
      ap (λ (s : Seen). s.moment.log)
      (moments h (l ∷ rest) refl ∙ ap (λ (ts : List Step). fold sees (seen h) ts) (one_alone l rest refl bare))
      ∙ step_log (seen h) (record { head = l; rest = rest })
      ∙ keep_all (l ∷ rest) keep (step_taken (seen h) (record { head = l; rest = rest }))

  two_log : (moment_of (h ++ (line.Event (event.Deliver n) ∷ l ∷ rest))).log
      ≡ taken_by (moment_of h).log (is_told_taken rest) returned_there
  two_log =
      let opened : Seen = sees (seen h) (record { head = line.Event (event.Deliver n); rest = [] }) in
      ap (λ (s : Seen). s.moment.log)
      (moments h (line.Event (event.Deliver n) ∷ l ∷ rest) refl
      ∙ ap (λ (ts : List Step). fold sees (seen h) ts) (two_steps (event.Deliver n) l rest refl bare))
      ∙ step_log opened (record { head = l; rest = rest })
      ∙ keep_all (l ∷ rest) keep (step_taken opened (record { head = l; rest = rest }))

-- ---- where the last line is the answer's

told_late : (ns : List Note) (x : Line) (q : ℕ) → length ns < q → sent_taken x ≡ true →
    is_told_taken (take q (map note_line ns ++ (x ∷ []))) ≡ true
told_late [] x zero low is = absurd (omega (arith, low))
told_late [] x (suc q) low is = rw is refl
told_late (n ∷ ns) x zero low is = absurd (omega (arith, low))
told_late (n ∷ ns) x (suc q) low is = told_late ns x q (omega (arith, low)) is

told_early : (ns : List Note) (x : Line) (q : ℕ) → q ≤ length ns →
    is_told_taken (take q (map note_line ns ++ (x ∷ []))) ≡ false
told_early ns x zero low = refl
told_early [] x (suc q) low = absurd (omega (arith, low))
told_early (n ∷ ns) x (suc q) low = told_early ns x q (omega (arith, low))

-- a message that says so stands alone
pub tail_is : (o : Outgoing) (number : ℕ) →
    is_told_taken (sent_lines number (filter is_addressed (map server_post (o ∷ [])))) ≡ true →
    (x : Line) × (sent_lines number (filter is_addressed (map server_post (o ∷ []))) ≡ x ∷ []) × (sent_taken x ≡ true)
unfolding sent_lines
tail_is o number e = by (is_addressed (server_post o)) e
  where
    by : (b : Bool) → is_told_taken (sent_lines number (if b then server_post o ∷ [] else [])) ≡ true →
        (x : Line) × (sent_lines number (if b then server_post o ∷ [] else []) ≡ x ∷ []) × (sent_taken x ≡ true)
    by false t = absurd (cc t)
    by true t = (
      sent_line number (server_post o).message,
      refl,
      elim (or_cases _ false t) [
        | inl yes_ ↦ yes_
        | inr no_ ↦ absurd (true≢false (sym no_))
      ],
    )

-- ---- any cut

-- The cut of a move that delivers a message to the server, behind whose line these follow.
module _ (moments : MomentGoesOn) (w : World) (h : List Line) (m : Move) (i : Input) (is : input_in w m.action ≡ Some i) (n : ℕ)
    (comes : brought w (slice_get w.network.messages n) ≡ Some i) (ns : List Note) (x : Line) (says : sent_taken x ≡ true)
    (lines : (sends_all (delivers w m.chosen n)).lines ≡ line.Delivered n delivery.Taken ∷ (map note_line ns ++ (x ∷ []))) where
  abbrev rest : List Line
  rest = map note_line ns ++ (x ∷ [])

  bare : Bare rest
  bare = by (delivers_shape w m.chosen n)
    where
      by : Shape (sends_all (delivers w m.chosen n)).lines → Bare rest
      by (Nothing e) = absurd (cc (sym e ∙ lines))
      by (Left c j e) = absurd (cc (sym e ∙ lines))
      by (shapes.Heads y) = let same : y.rest ≡ rest = cc (sym y.are ∙ lines) in subst Bare same y.bare

  -- before the line of the answer, or behind it, with as many lines behind that of the message
  pub data IsCut (count : ℕ) : Type 0 where
    Before : (q : ℕ) → count ≤ lines_before m.action + q → q ≤ length ns →
        is_told_taken (take count (lines_in w m)) ≡ false → IsCut count
    Behind : (q : ℕ) → count ≡ lines_before m.action + q → length ns < q →
        (moment_of (h ++ take count (lines_in w m))).log
        ≡ taken_by (moment_of h).log true (returned_at (seen h).server.sent (line.Delivered n delivery.Taken)) → IsCut count

  all_keep : AllKeep (lines_in w m)
  all_keep = server_lines_keep w m i is

  abbrev there : Option ℕ
  there = returned_at (seen h).server.sent (line.Delivered n delivery.Taken)

  alone_cut : m.action ≡ Delivers n → (count : ℕ) → IsCut count
  alone_cut act zero = Before zero (omega arith) (omega arith) refl
  alone_cut act (suc q) =
      let own : lines_in w m ≡ line.Delivered n delivery.Taken ∷ rest =
      ap (λ (a : Action). with_event a (sends_all (acts w m.chosen a)).lines) act ∙ lines in
      let cut : take (suc q) (lines_in w m) ≡ line.Delivered n delivery.Taken ∷ take q rest = ap (take (suc q)) own in
      let one : lines_before m.action ≡ 1 = ap lines_before act in
      elim (cases_lt (length ns) q) [
        | inr low ↦ Before q (omega (arith, one)) low (ap is_told_taken cut ∙ told_early ns x q low)
        | inl high ↦
            Behind q (omega (arith, one)) high
            (ap (λ (ls : List Line). (moment_of (h ++ ls)).log) cut
            ∙ one_log moments h n (take q rest) (bare_taken q rest bare)
            (subst AllKeep cut (front_keeps (suc q) (lines_in w m) all_keep))
            ∙ ap (λ (b : Bool). taken_by (moment_of h).log b there) (told_late ns x q high says))
      ]

  led_cut : m.action ≡ Opens (event.Deliver n) → (count : ℕ) → IsCut count
  unfolding begins
  led_cut act zero = Before zero (omega arith) (omega arith) refl
  led_cut act (suc zero) =
      let own : lines_in w m ≡ line.Event (event.Deliver n) ∷ line.Delivered n delivery.Taken ∷ rest =
      ap (λ (a : Action). with_event a (sends_all (acts w m.chosen a)).lines) act
      ∙ ap (λ (ls : List Line). line.Event (event.Deliver n) ∷ ls) lines in
      let two : lines_before m.action ≡ 2 = ap lines_before act in
      Before zero (omega (arith, two)) (omega arith) (ap (λ (ls : List Line). is_told_taken (take 1 ls)) own)
  led_cut act (suc (suc q)) =
      let own : lines_in w m ≡ line.Event (event.Deliver n) ∷ line.Delivered n delivery.Taken ∷ rest =
      ap (λ (a : Action). with_event a (sends_all (acts w m.chosen a)).lines) act
      ∙ ap (λ (ls : List Line). line.Event (event.Deliver n) ∷ ls) lines in
      let cut : take (suc (suc q)) (lines_in w m)
      ≡ line.Event (event.Deliver n) ∷ line.Delivered n delivery.Taken ∷ take q rest = ap (take (suc (suc q))) own in
      let two : lines_before m.action ≡ 2 = ap lines_before act in
      elim (cases_lt (length ns) q) [
        | inr low ↦ Before q (omega (arith, two)) low (ap is_told_taken cut ∙ told_early ns x q low)
        | inl high ↦
            Behind q (omega (arith, two)) high
            (ap (λ (ls : List Line). (moment_of (h ++ ls)).log) cut
            ∙ two_log moments h n (take q rest) (bare_taken q rest bare)
            (subst AllKeep cut (front_keeps (suc (suc q)) (lines_in w m) all_keep)).1
            ∙ ap (λ (b : Bool). taken_by (moment_of h).log b there) (told_late ns x q high says))
      ]

  pub cut_is : (m.action ≡ Delivers n) ⊎ (m.action ≡ Opens (event.Deliver n)) → (count : ℕ) → IsCut count
  cut_is (inl act) count = alone_cut act count
  cut_is (inr act) count = led_cut act count
