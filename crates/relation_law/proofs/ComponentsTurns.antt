-- What a client newly sends in a turn, under a grant of a file, has a nonce above what it had used under that grant.
-- Towards `ComponentsGoOn` (`specs/Steps.antt`).
use Rattle.std.proofs.Common.{◌≡◌, ◌⊎◌, ◌==◌, ℕ, ◌<◌, ◌≤◌, Bool, true, false, List, [], map, Option, Some, None, Result, Ok, Err, refl, sym, subst, ◌∙◌, inl, inr, arith, if◌then◌else◌}
use Rattle.layout_ops.specs.declared.args.Args.{Args}
use Rattle.layout_ops.specs.declared.args.Args.TheVariants as args
use Rattle.layout_ops.specs.declared.messages.Answer.{Answer}
use Rattle.layout_ops.specs.declared.statuses.TheConstants.{NFS4_OK}
use Rattle.osd_commands.specs.declared.commands.Command.{Command}
use Rattle.server_rules.specs.Laws.{In}
use Rattle.server_rules.proofs.Members.{in_either, in_mapped}
use Rattle.client_rules.specs.Answers.{not_granted, on_commit}
use Rattle.client_rules.specs.Calls.{file_of}
use Rattle.client_rules.specs.Commands.{nonce_at}
use Rattle.client_rules.specs.Going.{quiet, moved, with_held, by_turn, begins, begun, progressed, held_after, requests, asks_under, returns}
use Rattle.client_rules.specs.Grants.{held_of, put_held, without_held}
use Rattle.client_rules.specs.History.{Input, step}
use Rattle.client_rules.specs.Io.{awaited_in}
use Rattle.client_rules.specs.Laws.{IsNumbered}
use Rattle.client_rules.specs.Layouts.{taken}
use Rattle.client_rules.specs.Messages.{Step, still, to_drive, sends_of, finished, answered_get, commit_under, on_need, on_phase, on_call, obeys, no_match, awaited_of}
use Rattle.client_rules.specs.Replies.{replied, timed_out, answers}
use Rattle.client_rules.specs.Requests.{get_args, args_of, return_args}
use Rattle.client_rules.specs.Results.{status_of}
use Rattle.client_rules.specs.Steps.{all_due, resent}
use Rattle.client_rules.proofs.Numbering.{nonces_rise}
use Rattle.client_rules.proofs.HeldGrants.{held_file}
use Rattle.world_history.specs.ClientNames.{Client, Call, CallOp, Held, Due, Awaited, TimedOut, Need, First, Get, Commit, Report, Close, Phase, Starts, Needs, Waits, Reads, Probes, Gathers, Scatters, Turn, Goes, Ends, Forgets, Moved, Done, Why, AnswersRecall, Asks, ToDrive}
use Rattle.history_law.specs.Turns.{with_start, AnswerComes, TurnCases, FinishCases}
use Rattle.history_law.proofs.Turns.{each_turn, each_finish}
use Rattle.exchange_law.specs.Sent.{IsBacked, Names}
use Rattle.exchange_law.proofs.ClientKeeping.{put_read, without_read}
use Rattle.exchange_law.proofs.Kept.{IsKept, begins_kept, replied_kept, timed_out_kept, on_commit_kept}
use Rattle.exchange_law.proofs.LaneGrowing.{names_of, names_same, new_nonce}
use Rattle.exchange_law.proofs.LaneMoves.{PhaseFine, MovedWell, begins_well, replied_well, timed_well, on_commit_well}
use Rattle.exchange_law.proofs.RefusalSending.{resent_awaited}
use Rattle.relation_law.proofs.MessagesAlways.{found_one}

-- of grants of a file nothing was used past this nonce; and `owner` says whose objects grants name
module _ (file used : ℕ) (owner : ℕ → ℕ) where
  -- a command to an object of the file has a later nonce
  abbrev pub IsAbove : Command → Type 0
  IsAbove y = IsBacked y → owner y.object ≡ file → used < y.nonce

  pub record AreOver (hs : List Held) : Type 0 where
    pub over : (h : Held) → held_of hs file ≡ Some h → used ≤ nonce_at h h.count
    pub owned : (n : ℕ) (h : Held) → held_of hs n ≡ Some h → (k o : ℕ) → Names h k o → owner o ≡ n

  pub record DoneOver (d : Done) : Type 0 where
    pub held : AreOver d.client.held
    pub sent : (a : Awaited) → In a d.commands → IsAbove a.command

  -- ---- grants

  fewer : (hs ks : List Held) → ((n : ℕ) (h : Held) → held_of ks n ≡ Some h → held_of hs n ≡ Some h) → AreOver hs → AreOver ks
  fewer hs ks less k = record { over = λ h e. k.over h (less file h e); owned = λ n h e. k.owned n h (less n h e) }

  without_over : (hs : List Held) (n : ℕ) → AreOver hs → AreOver (without_held hs n)
  without_over hs n k = fewer hs (without_held hs n) (λ j h e. without_read hs n j h e) k

  after_over : (hs : List Held) (n : ℕ) (a : Args) → AreOver hs → AreOver (held_after hs n a)
  after_over hs n (args.LayoutGet x) k = k
  after_over hs n (args.LayoutCommit x) k = k
  after_over hs n (args.LayoutReturn x) k = without_over hs n k

  put_over : (hs : List Held) (g : Held) → (g.file ≡ file → used ≤ nonce_at g g.count) →
      ((k o : ℕ) → Names g k o → owner o ≡ g.file) → AreOver hs → AreOver (put_held hs g)
  put_over hs g low own k = record {
    over = λ h e. elim (put_read hs g file h e) [
      | inl new ↦ subst (λ (x : Held). used ≤ nonce_at x x.count) new.1 (low new.0)
      | inr old ↦ k.over h old.1
    ];
    owned = λ n h e. elim (put_read hs g n h e) [
      | inl new ↦ λ i o names. own i o (subst (λ (x : Held). Names x i o) (sym new.1) names) ∙ new.0
      | inr old ↦ k.owned n h old.1
    ];
  }

  -- ---- what a call does with the drives

  module _ (d : Done) (op : CallOp) (h : Held) (m : Moved) (old : List Awaited)
      (there : held_of d.client.held (file_of op) ≡ Some h) (numbers : IsNumbered h m) (kept : IsKept h m)
      (well : MovedWell h old m) (k : DoneOver d) where
    file_is : m.held.file ≡ file_of op
    file_is = kept.file ∙ held_file d.client.held (file_of op) h there

    used_before : file_of op ≡ file → used ≤ nonce_at h h.count
    used_before same = k.held.over h (subst (λ (n : ℕ). held_of d.client.held n ≡ Some h) same there)

    named : (i o : ℕ) → Names h i o → owner o ≡ file_of op
    named i o names = k.held.owned (file_of op) h there i o names

    put : AreOver (put_held d.client.held m.held)
    put =
        put_over d.client.held m.held (λ same.
        let low = used_before (sym file_is ∙ same) in omega (arith, low, numbers.same, numbers.counted))
        (λ i o names. named i o (names_same m.held h i o well.components names) ∙ sym file_is) k.held

    sent_over : (a : Awaited) → In a m.sent → IsAbove a.command
    sent_over a i backed own =
        let name = named a.ask.component a.command.object (names_of h a (well.of a i) backed) in
        let low = used_before (sym name ∙ own) in
        let new = (new_nonce (λ y. Command) h m numbers a i).0 in
        omega (arith, low, new)

    by_turn_over : (t : Turn) → DoneOver (by_turn (record (with_held d m.held) { commands = m.sent }) op t)
    by_turn_over (Goes p) = record { held = put; sent = sent_over }
    by_turn_over (Ends o) = record { held = put; sent = sent_over }
    by_turn_over (Forgets o) = record { held = without_over (put_held d.client.held m.held) (file_of op) put; sent = sent_over }

    pub moved_over : DoneOver (moved d op m)
    moved_over = by_turn_over m.turn

  -- ---- to the end of a turn

  asks_over : (d : Done) (op : CallOp) (n : Need) (o : Option Held) → DoneOver d → DoneOver (asks_under d op n o)
  unfolding requests
  asks_over d op n None k = record { held = after_over d.client.held (file_of op) (get_args op) k.held; sent = k.sent }
  asks_over d op n (Some h) k = record { held = after_over d.client.held (file_of op) (args_of h op n) k.held; sent = k.sent }

  returns_over : (d : Done) (u : Option Due) → DoneOver d → DoneOver (returns d u)
  unfolding requests
  returns_over d None k = record { held = k.held; sent = k.sent }
  returns_over d (Some u) k = record {
    held = after_over d.client.held u.file (return_args u.number []) k.held;
    sent = k.sent;
  }

  finishes : FinishCases DoneOver
  finishes = record {
    needs = λ d op n k is out first. record { held = k.held; sent = k.sent };
    begun = λ d op h k is held cover.
        moved_over d op h (begins h op) [] held (nonces_rise.begun h op) (begins_kept h op) (begins_well h [] op) k;
    asks = λ d op n h k is out held. asks_over d op n h k;
    gives_back = λ d u k none out. returns_over d u k;
  }

  -- what a turn sends to drives is above, or was awaited before
  abbrev pub SendsOver : List Awaited → Step → Type 0
  SendsOver old t =
      (n : ℕ) (y : Command) → In (ToDrive n y) t.sends → ((a : Awaited) × In a old × (a.drive ≡ n) × (a.command ≡ y)) ⊎ IsAbove y

  command_of : (n : ℕ) (y : Command) (a : Awaited) → ToDrive n y ≡ to_drive a → (a.drive ≡ n) × (a.command ≡ y)
  command_of n y a e = (cc (sym e), cc (sym e))

  pub in_sends : (e : Done) (n : ℕ) (y : Command) → In (ToDrive n y) (sends_of e) →
      (a : Awaited) × In a e.commands × (a.command ≡ y)
  in_sends e n y i = elim (in_either (ToDrive n y) (map AnswersRecall e.recalls) _ i) [
    | inl j ↦ let r = in_mapped AnswersRecall (ToDrive n y) e.recalls j in absurd (cc r.2)
    | inr j ↦ elim (in_either (ToDrive n y) (map Asks e.requests) _ j) [
      | inl q ↦ let r = in_mapped Asks (ToDrive n y) e.requests q in absurd (cc r.2)
      | inr q ↦
          let r = in_mapped to_drive (ToDrive n y) e.commands q in (r.0, r.1, (command_of n y r.0 r.2).1)
    ]
  ]

  finished_over : (old : List Awaited) (d : Done) → DoneOver d → SendsOver old (finished d)
  unfolding finished
  finished_over old d k n y i =
      let all = each_finish DoneOver finishes d k in
      let r = in_sends (progressed (begun d)) n y i in
      inr (subst IsAbove r.2 (all.sent r.0 r.1))

  -- ---- answers

  module _ (x : Client) (a : Answer) (k : AreOver x.held)
      (new : (call : Call) (tries : ℕ) (g : Held) → x.call ≡ Some call → call.phase ≡ Waits (Get tries) → taken a call.op ≡ Ok g →
      (g.file ≡ file → used ≤ nonce_at g g.count) × ((i o : ℕ) → Names g i o → owner o ≡ g.file)) where
    abbrev freed : Done
    freed = quiet (record x { outstanding = None })

    as_it_is : DoneOver freed
    as_it_is = record { held = k; sent = λ b i. absurd i }

    turn_over : (op : CallOp) (t : Turn) → DoneOver (by_turn freed op t)
    turn_over op (Goes p) = record { held = k; sent = λ b i. absurd i }
    turn_over op (Ends o) = record { held = k; sent = λ b i. absurd i }
    turn_over op (Forgets o) = record { held = without_over x.held (file_of op) k; sent = λ b i. absurd i }

    got : (call : Call) (tries : ℕ) → x.call ≡ Some call → call.phase ≡ Waits (Get tries) → (r : Result Held Why) →
        taken a call.op ≡ r → DoneOver (answered_get freed call.op r)
    got call tries is at (Err why) e = record { held = k; sent = λ b i. absurd i }
    got call tries is at (Ok g) e =
        let n = new call tries g is at e in
        record { held = put_over x.held g n.0 n.1 k; sent = λ b i. absurd i }

    either_over : (b : Bool) (d e : Done) → DoneOver d → DoneOver e → DoneOver (if b then d else e)
    either_over true d e p q = p
    either_over false d e p q = q

    commit_over : (op : CallOp) (timed : List TimedOut) (o : Option Held) → held_of x.held (file_of op) ≡ o →
        DoneOver (commit_under freed op a (Commit timed) o)
    commit_over op timed None e = as_it_is
    commit_over op timed (Some h) e =
        moved_over freed op h (on_commit h op a timed) [] e (nonces_rise.committed h op a timed) (on_commit_kept h op a timed)
        (on_commit_well h [] op a timed) as_it_is

    by_need : (call : Call) (n : Need) → x.call ≡ Some call → call.phase ≡ Waits n → DoneOver (on_need freed call.op n a)
    by_need call First is at = record { held = k; sent = λ b i. absurd i }
    by_need call (Get tries) is at =
        either_over (status_of a.results == NFS4_OK) (answered_get freed call.op (taken a call.op))
        (by_turn freed call.op (not_granted a tries)) (got call tries is at (taken a call.op) refl)
        (turn_over call.op (not_granted a tries))
    by_need call (Commit timed) is at = commit_over call.op timed (held_of x.held (file_of call.op)) refl
    by_need call (Report timed) is at = record { held = k; sent = λ b i. absurd i }
    by_need call (Close u report) is at = record { held = k; sent = λ b i. absurd i }

    by_phase : (call : Call) (p : Phase) → x.call ≡ Some call → call.phase ≡ p → DoneOver (on_phase freed call.op p a)
    by_phase call (Waits n) is at = by_need call n is at
    by_phase call Starts is at = as_it_is
    by_phase call (Needs n) is at = as_it_is
    by_phase call (Reads io) is at = as_it_is
    by_phase call (Probes io) is at = as_it_is
    by_phase call (Gathers io) is at = as_it_is
    by_phase call (Scatters io queue) is at = as_it_is

    pub answered_over : (o : Option Call) → x.call ≡ o → DoneOver (on_call freed o a)
    answered_over None is = as_it_is
    answered_over (Some call) is = by_phase call call.phase is refl

  -- ---- each turn

  module _ (x : Client) (i : Input) (k : AreOver x.held)
      (fine : (call : Call) → x.call ≡ Some call → PhaseFine call.phase)
      (new : (a : Answer) → AnswerComes x i a → (call : Call) (tries : ℕ) (g : Held) → x.call ≡ Some call →
      call.phase ≡ Waits (Get tries) → taken a call.op ≡ Ok g →
      (g.file ≡ file → used ≤ nonce_at g g.count) × ((j o : ℕ) → Names g j o → owner o ≡ g.file)) where
    abbrev old : List Awaited
    old = awaited_of x.call

    rested : (y : Client) → y.held ≡ x.held → DoneOver (quiet y)
    rested y same = record { held = subst AreOver (sym same) k; sent = λ a j. absurd j }

    resends_over : SendsOver (awaited_of x.call) (record (still x) { sends = resent x })
    resends_over n y j = let r = resent_awaited x n y j in inl (r.awaited, r.there, r.drive, r.command)

    cases : TurnCases x i (SendsOver (awaited_of x.call))
    cases = record {
      rests = λ n y j. absurd j;
      nothing = λ op is none n y j. absurd j;
      called = λ op is none can. finished_over old (quiet (with_start x op)) (rested (with_start x op) refl);
      answered = λ a q. finished_over old (on_call (quiet (record x { outstanding = None })) x.call a)
          (answered_over x a k (new a q) x.call refl);
      replied = λ drive q call h a r.
          finished_over old (moved (quiet x) call.op (replied h call.op call.phase a q))
          (moved_over (quiet x) call.op h (replied h call.op call.phase a q) (awaited_in call.phase) r.held
          (nonces_rise.replied h call.op call.phase a q) (replied_kept h call.op call.phase a q)
          (replied_well h call.op call.phase a q (fine call r.call_is)
          (found_one (answers drive q) (awaited_in call.phase) a r.awaits)) (rested x refl));
      unheld = finished_over old (quiet x) (rested x refl);
      recalled = λ q is. finished_over old (obeys x q) (record { held = k; sent = λ a j. absurd j });
      unmatched = λ q is. finished_over old (no_match x q) (record { held = k; sent = λ a j. absurd j });
      timed = λ n call h a xs r.
          finished_over old (moved (quiet x) call.op (timed_out h call.op call.phase n a xs))
          (moved_over (quiet x) call.op h (timed_out h call.op call.phase n a xs) (awaited_in call.phase) r.held
          (nonces_rise.timed h call.op call.phase n a xs) (timed_out_kept h call.op call.phase n a xs)
          (timed_well h call.op call.phase n a xs (fine call r.call_is)) (rested x refl));
      leaves = λ is. finished_over old (quiet (record x { due = all_due x.due x.held }))
          (rested (record x { due = all_due x.due x.held }) refl);
      resends = λ is. resends_over;
    }

    -- what the turn sends to drives is above, or was awaited before
    pub turn_sends : SendsOver (awaited_of x.call) (step x i)
    turn_sends = each_turn x i (SendsOver (awaited_of x.call)) cases
