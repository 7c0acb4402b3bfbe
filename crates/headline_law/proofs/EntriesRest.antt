-- A client's turn behind its first line, up to any line of it.
-- Towards `CutsShowEntries` (`specs/Parts.antt`).
use Rattle.std.proofs.Common.{◌≡◌, ◌==◌, ◌≤◌, ℕ, Bool, true, false, List, [], ◌++◌, length, map, Option, Some, None, refl, sym, ap, subst, ◌∙◌, inl, inr, append_assoc}
use Rattle.std.specs.Prelude.{option_map}
use Rattle.std.proofs.lemmas.Bool.{eqb-true, eq-eqb, true≢false}
use Rattle.client_rules.specs.Calls.{file_of, is_write}
use Rattle.client_rules.specs.Messages.{to_drive}
use Rattle.world_history.specs.ClientNames.{Client, Call, CallOp, Awaited, Request, RecallAnswer, Outgoing, AnswersRecall, Asks, Need, First, Get, Commit, Report, Close, Phase, Starts, Needs, Waits, Reads, Probes, Gathers, Scatters}
use Rattle.world_history.specs.Handed.{pending_op}
use Rattle.world_history.specs.Moves.{op_of}
use Rattle.world_history.specs.ReadLog.{Pending, Log, entry_in}
use Rattle.world_history.specs.State.{at_number}
use Rattle.fence_law.specs.State.{State}
use Rattle.file_simulation.specs.ClientEvents as table
use Rattle.file_simulation.specs.EventLists.{write_of, entry_of}
use Rattle.file_simulation.specs.Showing.{Pairs, IsPair}
use Rattle.relation_law.specs.CallsTurns.{IsWorking}
use Rattle.exchange_law.specs.Pending.{logged_op}
use Rattle.relation_law.proofs.CallsTells.{told, told_more, recalls_told}
use Rattle.file_simulation.specs.Tied.{NeedTied, PhaseTied}
use Rattle.headline_law.proofs.EntriesCalls.{Stands, CallAs}
use Rattle.headline_law.proofs.EntriesSends.{CommandIs, CommandGoes}
use Rattle.headline_law.proofs.EntriesMessages.{NotHere, machine_to, log_to, none_machine, none_log, all_commands, all_off}
use Rattle.headline_law.proofs.EntriesTurns.{Commanding, CallSends, to_servers, Reaches, stays_so, EndTied, recalled_same, same_write, behind_front}

-- ---- the tie of a phase by the machine

pub need_stays : (s t : State) (c : ℕ) (pairs : Pairs) (o : Option ℕ) (n : Need) → write_of t c ≡ write_of s c →
    NeedTied s c pairs o n → NeedTied t c pairs o n
need_stays s t c pairs o First same k = k
need_stays s t c pairs o (Get tries) same k = k
need_stays s t c pairs o (Commit timed) same k = (k.0, k.1, subst (IsPair pairs k.0) (sym same) k.2)
need_stays s t c pairs o (Report timed) same k = (k.0, k.1, subst (IsPair pairs k.0) (sym same) k.2)
need_stays s t c pairs o (Close outcome report) same k = k

-- requests leave it, but where commands are awaited none go out
pub phase_stays : (s t : State) (c : ℕ) (pairs : Pairs) (o : Option ℕ) (p : Phase) → write_of t c ≡ write_of s c →
    (IsWorking p → entry_of t c ≡ entry_of s c) → PhaseTied s c pairs o p → PhaseTied t c pairs o p
phase_stays s t c pairs o Starts same works k = k
phase_stays s t c pairs o (Needs n) same works k = need_stays s t c pairs o n same k
phase_stays s t c pairs o (Waits n) same works k = need_stays s t c pairs o n same k
phase_stays s t c pairs o (Reads io) same works k = (k.0, k.1, subst (IsPair pairs k.0) (sym (works tt)) k.2)
phase_stays s t c pairs o (Probes io) same works k = (k.0, k.1, subst (IsPair pairs k.0) (sym (works tt)) k.2)
phase_stays s t c pairs o (Gathers io) same works k = k
phase_stays s t c pairs o (Scatters io queue) same works k = (k.0, k.1, subst (IsPair pairs k.0) (sym same) k.2)

-- a pending call by its operation
pub logged_is : (o : Option Pending) (op : CallOp) → logged_op o ≡ Some op → (p : Pending) × (o ≡ Some p) × (op_of p.call ≡ op)
logged_is None op e = absurd (cc e)
logged_is (Some p) op e = (p, refl, cc e)

pub none_logged : (o : Option Pending) → logged_op o ≡ None → o ≡ None
none_logged None e = refl
none_logged (Some p) e = absurd (cc e)

module _ (file c : ℕ) (t : State) (l : Log) (pairs : Pairs) (k : Stands file t l pairs) (x : Client)
    (agrees : logged_op (at_number l.pending c) ≡ pending_op x) (recalls : List RecallAnswer) (logged : ℕ) where
  -- what all messages reach, where these are the requests and the commands
  abbrev pub MessagesReach : List Request → List Awaited → (wrote : Bool) (number n : ℕ) → Type 0
  MessagesReach requests commands wrote number n =
      (r : Reaches file
      (machine_to t file c x (map AnswersRecall recalls ++ (map Asks requests ++ map to_drive commands)) n)
      (log_to l c wrote logged number (map AnswersRecall recalls ++ (map Asks requests ++ map to_drive commands)) n) pairs)
      × (length (map AnswersRecall recalls ++ (map Asks requests ++ map to_drive commands)) ≤ n →
      EndTied file c (machine_to t file c x (map AnswersRecall recalls ++ (map Asks requests ++ map to_drive commands)) n)
      (log_to l c wrote logged number (map AnswersRecall recalls ++ (map Asks requests ++ map to_drive commands)) n) r.pairs x)

  abbrev ReachesSo : State → List Outgoing → (wrote : Bool) (number n : ℕ) → Type 0
  ReachesSo u os wrote number n =
      (r : Reaches file (machine_to u file c x os n) (log_to l c wrote logged number os n) pairs)
      × (length os ≤ n → EndTied file c (machine_to u file c x os n) (log_to l c wrote logged number os n) r.pairs x)

  -- behind those to the server
  behind_servers : (requests : List Request) (commands : List Awaited) →
      ((wrote : Bool) (number n : ℕ) →
      Stands file (told t file c x (map AnswersRecall recalls ++ map Asks requests)) l pairs →
      ReachesSo (told t file c x (map AnswersRecall recalls ++ map Asks requests)) (map to_drive commands) wrote number n) →
      (wrote : Bool) (number n : ℕ) → MessagesReach requests commands wrote number n
  behind_servers requests commands later wrote number n =
      subst (λ (os : List Outgoing). ReachesSo t os wrote number n)
      (append_assoc (map AnswersRecall recalls) (map Asks requests) (map to_drive commands))
      (behind_front file c x (map AnswersRecall recalls ++ map Asks requests) (map to_drive commands)
      (to_servers recalls requests) t l pairs k logged (λ u m ps. EndTied file c u m ps x) later wrote number n)

  -- where no call on the file is pending
  off_reach : ((u : State) (a : Awaited) → table.sends u file c x (to_drive a) ≡ []) → NotHere file c l →
      ((call : Call) → x.call ≡ Some call → (file_of call.op == file) ≡ true → ⊥) → (requests : List Request)
      (commands : List Awaited) (wrote : Bool) (number n : ℕ) → MessagesReach requests commands wrote number n
  off_reach none off away requests commands wrote number n =
      behind_servers requests commands (λ wrote number n k.
      let u : State = told t file c x (map AnswersRecall recalls ++ map Asks requests) in
      let r = all_off file c u x commands (none u) l pairs k off wrote logged number n in (
        record {
          pairs = pairs;
          more = λ i j q. q;
          stands =
              subst
              (λ (v : State). Stands file v (log_to l c wrote logged number (map to_drive commands) n) pairs)
              (sym r.0) r.1;
        },
        λ low call is here. absurd (away call is here),
      )) wrote number n

  -- where no command goes out
  none_reach : (requests : List Request) → ((call : Call) → x.call ≡ Some call → (file_of call.op == file) ≡ true →
      PhaseTied t c pairs (entry_in (at_number l.pending c)) call.phase × (IsWorking call.phase → requests ≡ [])) →
      (wrote : Bool) (number n : ℕ) → MessagesReach requests [] wrote number n
  unfolding told
  none_reach requests tied wrote number n =
      behind_servers requests [] (λ wrote number n k.
      let u : State = told t file c x (map AnswersRecall recalls ++ map Asks requests) in
      let same = recalled_same file c x recalls requests t in
      let at_ : machine_to u file c x [] n ≡ u = none_machine u file c x n in
      let log_ : log_to l c wrote logged number [] n ≡ l = none_log l c wrote logged number n in
      subst
      (λ (v : State). (r : Reaches file v (log_to l c wrote logged number [] n) pairs)
      × (0 ≤ n → EndTied file c v (log_to l c wrote logged number [] n) r.pairs x)) (sym at_)
      (subst (λ (m : Log). (r : Reaches file u m pairs) × (0 ≤ n → EndTied file c u m r.pairs x)) (sym log_) (
        stays_so file u l pairs k,
        λ low call is here.
            let z = tied call is here in
            inl (phase_stays t u c pairs (entry_in (at_number l.pending c)) call.phase (same_write t u c same)
            (λ works. ap (λ (v : State). entry_of v c) (quiet requests (z.1 works))) z.0),
      ))) wrote number n
    where
      quiet : (qs : List Request) → qs ≡ [] → told t file c x (map AnswersRecall recalls ++ map Asks qs) ≡ t
      quiet qs e =
          told_more t file c x (map AnswersRecall recalls) (map Asks qs)
          ∙ ap (λ (rs : List Request). told (told t file c x (map AnswersRecall recalls)) file c x (map Asks rs)) e
          ∙ recalls_told t file c x recalls

  -- where a call on the file sends commands
  module _ (call : Call) (is : x.call ≡ Some call) (here : (file_of call.op == file) ≡ true) (p : Pending)
      (has : at_number l.pending c ≡ Some p) (op : op_of p.call ≡ call.op) where
    abbrev o : Option ℕ
    o = entry_in (at_number l.pending c)

    entry_is : p.entry ≡ entry_in (at_number l.pending c)
    entry_is = sym (ap entry_in has)

    commands_reach : (commands : List Awaited) → Commanding file c t pairs (entry_in (at_number l.pending c)) x call [] commands →
        (wrote : Bool) (number n : ℕ) → MessagesReach [] commands wrote number n
    unfolding told
    commands_reach commands z wrote number n =
        behind_servers [] commands (λ wrote number n k.
        let v : State = told t file c x (map AnswersRecall recalls ++ []) in
        let same : v ≡ t =
        told_more t file c x (map AnswersRecall recalls) [] ∙ recalls_told t file c x recalls in
        subst (λ (u : State). ReachesSo u (map to_drive commands) wrote number n) (sym same)
        (from_here (subst (λ (u : State). Stands file u l pairs) same k) wrote number n)) wrote number n
      where
        call_is : x.call ≡ Some (record { op = op_of p.call; phase = call.phase })
        call_is = is ∙ ap (λ (q : CallOp). Some (record { op = q; phase = call.phase })) (sym op)

        from_here : Stands file t l pairs → (wrote : Bool) (number n : ℕ) → ReachesSo t (map to_drive commands) wrote number n
        from_here k wrote number n =
            let r : CommandGoes file c t (machine_to t file c x (map to_drive commands) n)
            (log_to l c wrote logged number (map to_drive commands) n) pairs p.call =
            all_commands file c x p.call call.phase call_is (ap (λ (q : CallOp). file_of q == file) op ∙ here)
            (ap file_of op ∙ eqb-true (file_of call.op) file here) z.held z.grant z.holds commands
            (λ a i. subst (λ (q : CallOp). CommandIs z.grant (is_write q) a.command) (sym op) (z.each a i)) t l pairs k
            p.entry has z.has
            (subst (λ (q : Option ℕ). CallAs pairs (is_write (op_of p.call)) q (t.call c)) (sym entry_is)
            (subst (λ (q : CallOp). CallAs pairs (is_write q) (entry_in (at_number l.pending c)) (t.call c)) (sym op) z.at_))
            wrote logged number n in (
              record { pairs = r.pairs; more = r.more; stands = r.stands },
              λ low y y_is y_here.
                  let both : Some call ≡ Some y = sym is ∙ y_is in
                  let one : call ≡ y = cc both in
                  inr (
                    subst (λ (q : Call). IsWorking q.phase) one z.works,
                    subst (λ (q : Call). CallAs r.pairs (is_write q.op)
                        (entry_in (at_number (log_to l c wrote logged number (map to_drive commands) n).pending c))
                        ((machine_to t file c x (map to_drive commands) n).call c)) one
                        (subst (λ (q : CallOp). CallAs r.pairs (is_write q)
                        (entry_in (at_number (log_to l c wrote logged number (map to_drive commands) n).pending c))
                        ((machine_to t file c x (map to_drive commands) n).call c)) op
                        (subst (λ (q : Option Pending). CallAs r.pairs (is_write (op_of p.call)) (entry_in q)
                        ((machine_to t file c x (map to_drive commands) n).call c)) (sym r.has) r.as_)),
                  ),
            )

  -- All messages of a turn, up to any of them.
  pub messages_reach : (requests : List Request) (commands : List Awaited) →
      ((call : Call) → x.call ≡ Some call → (file_of call.op == file) ≡ true →
      CallSends file c t pairs (entry_in (at_number l.pending c)) x call requests commands) →
      (wrote : Bool) (number n : ℕ) → MessagesReach requests commands wrote number n
  messages_reach requests commands goes wrote number n = by_call x.call refl
    where
      by_file : (call : Call) → x.call ≡ Some call → (b : Bool) → (file_of call.op == file) ≡ b →
          MessagesReach requests commands wrote number n
      by_file call is false away =
          let p = logged_is (at_number l.pending c) call.op
          (agrees ∙ ap (option_map (λ (y : Call). y.op)) is) in
          off_reach (λ u a. rw (is, away) refl)
          (λ q has here.
          let both : Some p.0 ≡ Some q = sym p.1 ∙ has in
          let one : p.0 ≡ q = cc both in
          let its : file_of call.op ≡ file =
          ap file_of (sym p.2) ∙ ap (λ (z : Pending). file_of (op_of z.call)) one ∙ here in
          absurd (true≢false (sym (eq-eqb (file_of call.op) file its) ∙ away)))
          (λ y y_is here.
          let both : Some call ≡ Some y = sym is ∙ y_is in
          let one : call ≡ y = cc both in
          absurd (true≢false (sym here ∙ ap (λ (q : Call). file_of q.op == file) (sym one) ∙ away)))
          requests commands wrote number n
      by_file call is true here = by_sends (goes call is here)
        where
          p : (p : Pending) × (at_number l.pending c ≡ Some p) × (op_of p.call ≡ call.op)
          p = logged_is (at_number l.pending c) call.op (agrees ∙ ap (option_map (λ (y : Call). y.op)) is)

          by_sends : CallSends file c t pairs (entry_in (at_number l.pending c)) x call requests commands →
              MessagesReach requests commands wrote number n
          by_sends (inl z) =
              subst (λ (cs : List Awaited). MessagesReach requests cs wrote number n) (sym z.0)
              (none_reach requests (λ y y_is y_here.
              let both : Some call ≡ Some y = sym is ∙ y_is in
              let one : call ≡ y = cc both in
              subst (λ (q : Call). PhaseTied t c pairs (entry_in (at_number l.pending c)) q.phase
              × (IsWorking q.phase → requests ≡ [])) one (z.1, z.2)) wrote number n)
          by_sends (inr z) =
              subst (λ (qs : List Request). MessagesReach qs commands wrote number n) (sym z.alone)
              (commands_reach call is here p.0 p.1 p.2 commands
              (subst (λ (qs : List Request). Commanding file c t pairs (entry_in (at_number l.pending c)) x call qs commands)
              z.alone z) wrote number n)

      by_call : (o : Option Call) → x.call ≡ o → MessagesReach requests commands wrote number n
      by_call None is =
          let none : at_number l.pending c ≡ None =
          none_logged (at_number l.pending c) (agrees ∙ ap (option_map (λ (y : Call). y.op)) is) in
          off_reach (λ u a. rw is refl) (λ q has here. absurd (cc (sym has ∙ none)))
          (λ y y_is here. absurd (cc (sym is ∙ y_is))) requests commands wrote number n
      by_call (Some call) is = by_file call is (file_of call.op == file) refl
