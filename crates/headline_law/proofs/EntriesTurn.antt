-- A client's turn behind its first line: how the call ended is told, if it has, and then the messages go out.
-- Towards `CutsShowEntries` (`specs/Parts.antt`).
use Rattle.std.proofs.Common.{◌≡◌, ◌==◌, ◌||◌, ◌≤◌, ◌+◌, ℕ, zero, suc, Bool, true, List, [], ◌∷◌, ◌++◌, length, take, map, Option, Some, None, refl, sym, ap, subst, ◌∙◌, arith, if◌then◌else◌}
use Rattle.std.specs.List.{fold}
use Rattle.std.specs.Prelude.{is_some, option_map}
use Rattle.scenario_text.specs.declared.line.Line.{Line}
use Rattle.scenario_text.specs.declared.line.Line.TheVariants as line
use Rattle.client_rules.specs.Calls.{file_of}
use Rattle.client_rules.specs.Messages.{Step, to_drive}
use Rattle.world_history.specs.ClientNames.{Call, CallOp, Outgoing, AnswersRecall, Asks, Outcome}
use Rattle.world_history.specs.Handed.{Post, client_posts, ended_by, end_line, is_write_out}
use Rattle.world_history.specs.Moves.{op_of}
use Rattle.world_history.specs.Names.{is_tellable, where_known}
use Rattle.world_history.specs.ReadLog.{Pending, Log, log_after, entry_in, ends}
use Rattle.world_history.specs.Sending.{sent_lines}
use Rattle.world_history.specs.State.{at_number}
use Rattle.world_history.specs.Told.{told_outcome, kind_of}
use Rattle.fence_law.specs.Machine.{after_all}
use Rattle.fence_law.specs.State.{State}
use Rattle.file_simulation.specs.ClientEvents as table
use Rattle.file_simulation.specs.EventLists.{Lines, and_behind}
use Rattle.file_simulation.specs.Events.{joined}
use Rattle.file_simulation.specs.Showing.{Pairs}
use Rattle.exchange_law.specs.Pending.{logged_op}
use Rattle.relation_law.proofs.KeptNotes.{after_both}
use Rattle.exchange_law.proofs.PendingEntries.{AreRising, removed_there}
use Rattle.exchange_law.proofs.PendingLines.{end_takes}
use Rattle.exchange_law.proofs.PendingTurns.{EndsAs}
use Rattle.headline_law.proofs.EntriesCalls.{Stands}
use Rattle.headline_law.proofs.EntriesEnds.{OutcomeTied}
use Rattle.headline_law.proofs.EntriesTold.{line_ends}
use Rattle.headline_law.proofs.EntriesMessages.{machine_to}
use Rattle.headline_law.proofs.EntriesTurns.{TurnTied, Reaches, stays_so, EndTied}
use Rattle.headline_law.proofs.EntriesRest.{logged_is, messages_reach}

-- ---- lengths

pub posts_long : (c : ℕ) (wrote : Bool) (logged : ℕ) (os : List Outgoing) → length (client_posts c wrote logged os) ≡ length os
posts_long c wrote logged [] = refl
posts_long c wrote logged (o ∷ os) = ap suc (posts_long c (wrote || is_write_out o) logged os)

lines_long : (number : ℕ) (ps : List Post) → length (sent_lines number ps) ≡ length ps
unfolding sent_lines
lines_long number [] = refl
lines_long number (p ∷ ps) = ap suc (lines_long (number + 1) ps)

pub sent_long : (number c : ℕ) (wrote : Bool) (logged : ℕ) (os : List Outgoing) →
    length (sent_lines number (client_posts c wrote logged os)) ≡ length os
sent_long number c wrote logged os = lines_long number (client_posts c wrote logged os) ∙ posts_long c wrote logged os

-- ---- the turn

module _ (file c : ℕ) (t : State) (l : Log) (pairs : Pairs) (k : Stands file t l pairs) (rising : AreRising l.pending)
    (op : Option CallOp) (d : Step) (agrees : logged_op (at_number l.pending c) ≡ op)
    (stays : EndsAs op d.outcome d.client.call) (tied : TurnTied file c t pairs (entry_in (at_number l.pending c)) op d)
    (tellable : (u : Outcome) → d.outcome ≡ Some u → is_tellable u ≡ true) (wrote : Bool) (logged number : ℕ) where
  -- the lines behind the first
  abbrev pub rest_lines : List Line
  rest_lines = ended_by c op d.outcome ++ sent_lines number (client_posts c wrote logged d.sends)

  abbrev pub RestReach : State → Log → (full : Type 0) → Type 0
  RestReach u m full = (r : Reaches file u m pairs) × (full → EndTied file c u m r.pairs d.client)

  -- the machine and the log behind the first n of these lines
  abbrev pub rest_machine : (n : ℕ) → State
  rest_machine n = after_all t (joined (take n (table.at_end t file c op d)))

  abbrev pub rest_log : (n : ℕ) → Log
  rest_log n = fold log_after l (take n rest_lines)

  -- what it sends
  abbrev pub all_sends : List Outgoing
  all_sends = map AnswersRecall tied.recalls ++ (map Asks tied.requests ++ map to_drive tied.commands)

  none_ended : (o : Option CallOp) → ended_by c o None ≡ []
  none_ended None = refl
  none_ended (Some p) = refl

  -- the call goes on, or none is pending
  goes_on : d.outcome ≡ None → (n : ℕ) → RestReach (rest_machine n) (rest_log n) (length rest_lines ≤ n)
  goes_on none n =
      let call : option_map (λ (x : Call). x.op) d.client.call ≡ op =
      subst (λ (u : Option Outcome). EndsAs op u d.client.call) none stays in
      let r = messages_reach file c t l pairs k d.client (agrees ∙ sym call) tied.recalls logged tied.requests tied.commands
      tied.goes wrote number n in
      let sends : List Outgoing = map AnswersRecall tied.recalls ++ (map Asks tied.requests ++ map to_drive tied.commands) in
      let lines : rest_lines ≡ sent_lines number (client_posts c wrote logged sends) =
      ap (λ (u : Option Outcome). ended_by c op u ++ sent_lines number (client_posts c wrote logged d.sends)) none
      ∙ ap (λ (ls : List Line). ls ++ sent_lines number (client_posts c wrote logged d.sends)) (none_ended op)
      ∙ ap (λ (os : List Outgoing). sent_lines number (client_posts c wrote logged os)) tied.sends in
      let events : table.at_end t file c op d ≡ table.sends_all t file c d.client sends =
      ap (λ (u : Option Outcome). by_outcome u) none
      ∙ ap (table.sends_all t file c d.client) tied.sends in
      subst (λ (es : Lines). RestReach (after_all t (joined (take n es))) (rest_log n) (length rest_lines ≤ n)) (sym events)
      (subst
      (λ (ls : List Line). RestReach (machine_to t file c d.client sends n) (fold log_after l (take n ls)) (length ls ≤ n))
      (sym lines) (r.0, λ full. r.1 (subst (λ (q : ℕ). q ≤ n) (sent_long number c wrote logged sends) full)))
    where
      by_outcome : Option Outcome → Lines
      by_outcome u =
          if is_some u then and_behind t (table.ended t file c op u) (λ s. table.sends_all s file c d.client d.sends)
          else table.sends_all t file c d.client d.sends

  -- it has ended
  module _ (u : Outcome) (is : d.outcome ≡ Some u) where
    about : (p : CallOp) × (op ≡ Some p)
    about = tied.about u is

    its : (p : Pending) × (at_number l.pending c ≡ Some p) × (op_of p.call ≡ about.0)
    its = logged_is (at_number l.pending c) about.0 (agrees ∙ about.1)

    same_op : Some (op_of its.0.call) ≡ op
    same_op = ap (λ (q : CallOp). Some q) its.2 ∙ sym about.1

    abbrev u2 : State
    u2 = after_all t (table.ended t file c op (Some u))

    abbrev l2 : Log
    l2 = fold log_after l (ended_by c op (Some u))

    ended_stands : Stands file (after_all t (table.ended t file c op (Some u))) (fold log_after l (ended_by c op (Some u))) pairs
    ended_stands =
        subst
        (λ (q : Option CallOp). Stands file (after_all t (table.ended t file c q (Some u)))
        (fold log_after l (ended_by c q (Some u))) pairs) same_op
        (line_ends file c t l pairs k rising its.0 its.1 u (tellable u is) (λ here.
        subst (λ (o : Option ℕ). OutcomeTied t c (op_of its.0.call) pairs o u) (ap entry_in its.1)
        (subst (λ (q : CallOp). OutcomeTied t c q pairs (entry_in (at_number l.pending c)) u) (sym its.2)
        (tied.ended u about.0 is about.1 (subst (λ (q : CallOp). (file_of q == file) ≡ true) its.2 here)))))

    ended_log : fold log_after l (ended_by c op (Some u)) ≡ ends l c (told_outcome (kind_of about.0) u)
    ended_log =
        ap (λ (q : Option CallOp). fold log_after l (ended_by c q (Some u))) about.1
        ∙ end_takes l c about.0 u (tellable u is)

    none_pending : at_number (fold log_after l (ended_by c op (Some u))).pending c ≡ None
    none_pending =
        ap (λ (m : Log). at_number m.pending c) ended_log ∙ removed_there c l.pending rising

    ended_line : ended_by c op (Some u) ≡ line.Ended c (told_outcome (kind_of about.0) u) ∷ []
    ended_line =
        ap (λ (q : Option CallOp). ended_by c q (Some u)) about.1
        ∙ ap (λ (b : Bool). end_line c (where_known b (told_outcome (kind_of about.0) u))) (tellable u is)

    over : (n : ℕ) → RestReach (rest_machine n) (rest_log n) (length rest_lines ≤ n)
    over n =
        let sends : List Outgoing = map AnswersRecall tied.recalls ++ (map Asks tied.requests ++ map to_drive tied.commands) in
        let y : Line = line.Ended c (told_outcome (kind_of about.0) u) in
        let lines : rest_lines ≡ y ∷ sent_lines number (client_posts c wrote logged sends) =
        ap (λ (q : Option Outcome). ended_by c op q ++ sent_lines number (client_posts c wrote logged d.sends)) is
        ∙ ap (λ (ls : List Line). ls ++ sent_lines number (client_posts c wrote logged d.sends)) ended_line
        ∙ ap (λ (os : List Outgoing). y ∷ sent_lines number (client_posts c wrote logged os)) tied.sends in
        let events : table.at_end t file c op d
        ≡ table.ended t file c op (Some u) ∷ table.sends_all u2 file c d.client sends =
        ap (λ (q : Option Outcome). by_outcome q) is
        ∙ ap (λ (os : List Outgoing). table.ended t file c op (Some u) ∷ table.sends_all u2 file c d.client os) tied.sends in
        let second : log_after l y ≡ l2 = ap (fold log_after l) (sym ended_line) in
        subst (λ (es : Lines). RestReach (after_all t (joined (take n es))) (rest_log n) (length rest_lines ≤ n)) (sym events)
        (subst
        (λ (ls : List Line). RestReach
        (after_all t (joined (take n (table.ended t file c op (Some u) ∷ table.sends_all u2 file c d.client sends))))
        (fold log_after l (take n ls)) (length ls ≤ n))
        (sym lines) (up_to y second n))
      where
        by_outcome : Option Outcome → Lines
        by_outcome q =
            if is_some q then and_behind t (table.ended t file c op q) (λ s. table.sends_all s file c d.client d.sends)
            else table.sends_all t file c d.client d.sends

        up_to : (y : Line) → log_after l y ≡ fold log_after l (ended_by c op (Some u)) → (n : ℕ) →
            RestReach
            (after_all t (joined (take n (table.ended t file c op (Some u)
            ∷ table.sends_all (after_all t (table.ended t file c op (Some u))) file c d.client all_sends))))
            (fold log_after l (take n (y ∷ sent_lines number (client_posts c wrote logged all_sends))))
            (length (y ∷ sent_lines number (client_posts c wrote logged all_sends)) ≤ n)
        up_to y second zero = (stays_so file t l pairs k, λ full. absurd (omega (arith, full)))
        up_to y second (suc n) =
            let r = messages_reach file c u2 l2 pairs ended_stands d.client
            (ap logged_op none_pending ∙ sym (ap (option_map (λ (x : Call). x.op)) (tied.over u is))) tied.recalls logged
            tied.requests tied.commands (λ call e here. absurd (cc (sym (tied.over u is) ∙ e))) wrote number n in
            subst
            (λ (v : State). RestReach v
            (fold log_after (log_after l y) (take n (sent_lines number (client_posts c wrote logged all_sends))))
            (length (y ∷ sent_lines number (client_posts c wrote logged all_sends)) ≤ suc n))
            (sym (after_both t (table.ended t file c op (Some u))
            (joined (take n (table.sends_all (after_all t (table.ended t file c op (Some u))) file c d.client all_sends)))))
            (subst
            (λ (m : Log). RestReach (machine_to u2 file c d.client all_sends n)
            (fold log_after m (take n (sent_lines number (client_posts c wrote logged all_sends))))
            (length (y ∷ sent_lines number (client_posts c wrote logged all_sends)) ≤ suc n)) (sym second) (
              r.0,
              λ full. absurd_or r.1 full,
            ))
          where
            absurd_or : {A : Type 0} → (length all_sends ≤ n → A) →
                length (y ∷ sent_lines number (client_posts c wrote logged all_sends)) ≤ suc n → A
            absurd_or go full =
                let long : length (sent_lines number (client_posts c wrote logged all_sends)) ≡ length all_sends =
                sent_long number c wrote logged all_sends in
                go (omega (arith, full, long))

  -- Up to each line of the turn.
  pub rest_reaches : (n : ℕ) → RestReach (rest_machine n) (rest_log n) (length rest_lines ≤ n)
  rest_reaches n = by_outcome d.outcome refl
    where
      by_outcome : (u : Option Outcome) → d.outcome ≡ u → RestReach (rest_machine n) (rest_log n) (length rest_lines ≤ n)
      by_outcome None is = goes_on is n
      by_outcome (Some u) is = over u is n
