-- An answered read has what was read of the drives in its call.
use Rattle.std.specs.Prelude.{option_map, is_some, Ok, Err}
use Rattle.std.proofs.Common.{◌≡◌, ◌≢◌, ◌⊎◌, ℕ, ◌++◌, ◌∷◌, [], List, Bool, Option, Some, None, fold, refl, sym, ap, subst, ◌∙◌, inl, inr, if◌then◌else◌}
use Rattle.stripe_plan.specs.Laws.{Agrees}
use Rattle.scenario_text.specs.declared.line.Outcome.TheVariants as outcome
use Rattle.scenario_text.specs.declared.line.CallKind.{CallKind}
use Rattle.scenario_text.specs.declared.line.Line.{Line}
use Rattle.scenario_text.specs.declared.line.Line.TheVariants as line
use Rattle.world_history.specs.ClientNames.{Client, Call, CallOp, Busy, BadRange, SlotSpent, Awaited, Outcome, WriteOk, ReadOk, NoFile, HeldBy, Fencing, Degraded, Spent, Status, Refused, Silent, Lost, BadLayout, Request, Answer, Column, Held}
use Rattle.client_rules.specs.Commands.{of_component}
use Rattle.client_rules.specs.Grants.{held_of}
use Rattle.client_rules.specs.Calls.{file_of, span_of}
use Rattle.client_rules.specs.Messages.{Taken, TakesAnswer, TakesReply, TakesRecall, awaited_of, takes}
use Rattle.client_rules.specs.Steps.{new_client, is_bad_range, is_spent, starts, calls}
use Rattle.client_rules.specs.History.{Input, Calls, Hears, TimesOut, Leaves, Resends, unless_refused, step, state_after}
use Rattle.client_rules.specs.Laws.{with_reply, kept_by, read_after, read_by, ReadsTookReplies}
use Rattle.exchange_law.specs.ClientAnswers.{ReadsAreRight}
use Rattle.world_history.specs.State.{ClientAt}
use Rattle.world_history.specs.declared.messages.Sent.{Sent}
use Rattle.world_history.specs.Told.{kind_of, told_outcome}
use Rattle.cause_law.specs.Met.{Met, since, with_answer, with_taken, with_timeout, with_silence, met_after, met_by}
use Rattle.cause_law.specs.Caused.{call_in}
use Rattle.cause_law.specs.ReadClients.{went}
use Rattle.cause_law.specs.ReadCalls.{line_input, LastStep, stepped, after_input, CallSeen, sees_call, call_seen}
use Rattle.cause_law.specs.Ended.{CausedAt}
use Rattle.cause_law.specs.Read.{read_in, IsOfReplies, AnswersAt, AnswersAreOfReplies}
use Rattle.client_rules.proofs.ReadSteps.{reads_took_replies}
use Rattle.exchange_law.proofs.RightSteps.{reads_are_right}
use Rattle.cause_law.proofs.CallHistories.{ends_are_caused}
use Rattle.cause_law.proofs.CallLines.{IsNew, Becomes, line_becomes, line_arrives}

-- ---- what a client has read by its rules' laws is what its call has met

read_since : (o : Option Call) (ms : List Met) → kept_by o (read_in ms) ≡ read_in (since o ms)
unfolding read_in
read_since None ms = refl
read_since (Some call) ms = refl

read_answer : (o : Option Request) (a : Answer) (ms : List Met) → read_in ms ≡ read_in (with_answer o a ms)
unfolding read_in
read_answer None a ms = refl
read_answer (Some r) a ms = refl

read_taken : (c : Client) (t : Option Taken) (ms : List Met) → with_reply (read_in ms) t ≡ read_in (with_taken c t ms)
unfolding read_in
read_taken c None ms = refl
read_taken c (Some (TakesAnswer a)) ms = read_answer c.outstanding a ms
read_taken c (Some (TakesReply a r)) ms = refl
read_taken c (Some (TakesRecall r)) ms = refl

read_timeout : (k : ℕ) (o : Option Held) (xs : List Awaited) (ms : List Met)
    → read_in ms ≡ read_in (with_timeout k o xs ms)
unfolding read_in
read_timeout k None xs ms = refl
read_timeout k (Some h) [] ms = refl
read_timeout k (Some h) (a ∷ xs) ms = refl

read_silence : (c : Client) (k : ℕ) (o : Option Call) (ms : List Met) → read_in ms ≡ read_in (with_silence c k o ms)
read_silence c k None ms = refl
read_silence c k (Some call) ms =
    read_timeout k (held_of c.held (file_of call.op)) (of_component k (awaited_of (Some call))) ms

read_more : (c : Client) (ms : List Met) (i : Input) → read_after c (read_in ms) i ≡ read_in (met_after c ms i)
read_more c ms (Calls op) = read_since c.call ms
read_more c ms (Hears from m) =
    ap (λ (got : List Column). with_reply got (takes c from m)) (read_since c.call ms)
    ∙ read_taken c (takes c from m) (since c.call ms)
read_more c ms (TimesOut k) = read_since c.call ms ∙ read_silence c k c.call (since c.call ms)
read_more c ms Leaves = read_since c.call ms
read_more c ms Resends = read_since c.call ms

read_all : (c : Client) (ms : List Met) (is : List Input) → read_by c (read_in ms) is ≡ read_in (met_by c ms is)
read_all c ms [] = refl
read_all c ms (i ∷ is) =
    ap (λ (got : List Column). read_by (step c i).client got is) (read_more c ms i)
    ∙ read_all (step c i).client (met_after c ms i) is

read_all_first : (c : Client) (is : List Input) → read_by c [] is ≡ read_in (met_by c [] is)
unfolding read_in
read_all_first c is = read_all c [] is

-- ---- a client that is read off the lines

-- one that has no call has met nothing that counts
abbrev MetBy : ℕ → List Input → Client → List Met → Type 0
MetBy k is x ms = (ms ≡ met_by (new_client k 1) [] is) ⊎ (x.call ≡ None)

-- it is a new one after some inputs, and its call has met what these say
record Ran (x : Client) (ms : List Met) : Type 0 where
  number : ℕ
  inputs : List Input
  state : x ≡ state_after (new_client number 1) inputs
  met : MetBy number inputs x ms

none_before : (x : Client) (ms ns : List Met) (i : Input) → x.call ≡ None → met_after x ms i ≡ met_after x ns i
none_before x ms ns i none = by_input i
  where
    same : since x.call ms ≡ since x.call ns
    same = ap (λ (o : Option Call). since o ms) none ∙ sym (ap (λ (o : Option Call). since o ns) none)

    by_input : (j : Input) → met_after x ms j ≡ met_after x ns j
    by_input (Calls op) = same
    by_input (Hears from m) = ap (with_taken x (takes x from m)) same
    by_input (TimesOut k) = ap (with_silence x k x.call) same
    by_input Leaves = same
    by_input Resends = same

state_more : (c : Client) (is : List Input) (i : Input) → state_after c (is ++ i ∷ []) ≡ (step (state_after c is) i).client
state_more c [] i = refl
state_more c (j ∷ is) i = state_more (step c j).client is i

pub met_more : (c : Client) (ms : List Met) (is : List Input) (i : Input)
    → met_by c ms (is ++ i ∷ []) ≡ met_after (state_after c is) (met_by c ms is) i
met_more c ms [] i = refl
met_more c ms (j ∷ is) i = met_more (step c j).client (met_after c ms j) is i

-- what it has met behind a further input
met_then : (x : Client) (ms : List Met) (r : Ran x ms) (i : Input)
    → met_after x ms i ≡ met_by (new_client r.number 1) [] (r.inputs ++ i ∷ [])
met_then x ms r i =
    elim r.met [
      | inl same ↦ ap (λ (l : List Met). met_after x l i) same
      | inr none ↦ none_before x ms (met_by (new_client r.number 1) [] r.inputs) i none
    ]
    ∙ ap (λ (y : Client). met_after y (met_by (new_client r.number 1) [] r.inputs) i) r.state
    ∙ sym (met_more (new_client r.number 1) [] r.inputs i)

ran_more : (x : Client) (ms : List Met) (i : Input) → Ran x ms → Ran (step x i).client (met_after x ms i)
ran_more x ms i r = record {
  number = r.number;
  inputs = r.inputs ++ i ∷ [];
  state = ap (λ (y : Client). (step y i).client) r.state ∙ sym (state_more (new_client r.number 1) r.inputs i);
  met = inl (met_then x ms r i);
}

-- ---- an answered read

module _ (took : ReadsTookReplies) (are_right : ReadsAreRight) where
  -- a call that is taken finds none pending
  busy : (x : Client) (op : CallOp) (call : Call) (o : Outcome) → x.call ≡ Some call
      → (step x (Calls op)).outcome ≡ Some o → ⊥
  unfolding calls
  busy x op call o is e =
      absurd (cc (sym (ap (λ (b : Bool). (unless_refused x (if b then Err Busy
      else if is_bad_range (span_of op) then Err BadRange
      else if is_spent x.next then Err SlotSpent
      else Ok (starts x op))).outcome) (ap is_some is)) ∙ e))

  pub call_of : (x : Client) (i : Input) (call : Call) (o : Outcome) → x.call ≡ Some call → (step x i).outcome ≡ Some o
      → call_in x i ≡ Some call.op
  call_of x (Calls op) call o is e = absurd (busy x op call o is e)
  call_of x (Hears from m) call o is e = ap (option_map (λ (c : Call). c.op)) is
  call_of x (TimesOut k) call o is e = ap (option_map (λ (c : Call). c.op)) is
  call_of x Leaves call o is e = ap (option_map (λ (c : Call). c.op)) is
  call_of x Resends call o is e = ap (option_map (λ (c : Call). c.op)) is

  answered : (k : ℕ) (is : List Input) (t : LastStep) (i : Input) (bytes : List ℕ)
      → met_after (state_after (new_client k 1) is) t.met i ≡ met_by (new_client k 1) [] (is ++ i ∷ [])
      → (step (state_after (new_client k 1) is) i).outcome ≡ Some (ReadOk bytes)
      → IsOfReplies (stepped (state_after (new_client k 1) is) t i) bytes
  answered k is t i bytes met e =
      let x : Client = state_after (new_client k 1) is in
      let r = are_right k 1 is i bytes e in
      let a = took k 1 is i bytes e in
      let got : read_after x (read_by (new_client k 1) [] is) i ≡ read_in (met_after x t.met i) =
      ap (λ (cs : List Column). read_after x cs i) (read_all_first (new_client k 1) is)
      ∙ read_more x (met_by (new_client k 1) [] is) i
      ∙ ap read_in (sym (met_more (new_client k 1) [] is i)) ∙ ap read_in (sym met) in
      record {
        op = r.call.op;
        call = call_of x i r.call (ReadOk bytes) r.pending e;
        held = r.held;
        holds = r.holds;
        some = subst (λ (cs : List Column). cs ≢ []) got a.some;
        right = λ d b g.
            r.right d b (subst (λ (cs : List Column). Agrees r.held.map cs d) (sym got) g);
      }

-- ---- what holds of each answered read whatever came to its client, in the lines

module _ (P : LastStep → List ℕ → Type 0)
    (holds : (k : ℕ) (is : List Input) (t : LastStep) (i : Input) (bytes : List ℕ)
    → met_after (state_after (new_client k 1) is) t.met i ≡ met_by (new_client k 1) [] (is ++ i ∷ [])
    → (step (state_after (new_client k 1) is) i).outcome ≡ Some (ReadOk bytes)
    → P (stepped (state_after (new_client k 1) is) t i) bytes) where
  -- what is read of a call in the lines
  record IsRun (s : CallSeen) : Type 0 where
    ran : (a : ClientAt) → s.seen.client ≡ Some a → Ran a.state s.last.met
    reads : (bytes : List ℕ) → s.last.outcome ≡ Some (ReadOk bytes) → P s.last bytes

  same_client : (a b : ClientAt) → Some a ≡ Some b → a ≡ b
  same_client a b e = cc e

  new_ran : (b : ClientAt) (ms : List Met) → IsNew b → Ran b.state ms
  new_ran b ms new =
      record { number = new.0; inputs = []; state = new.1; met = inr (ap (λ (x : Client). x.call) new.1) }

  module _ (c : ℕ) (sent : List Sent) (t : LastStep)
      (reads : (bytes : List ℕ) → t.outcome ≡ Some (ReadOk bytes) → P t bytes) (l : Line) where
    by_input : (a : ClientAt) → Ran a.state t.met → (i : Option Input) → (o : Option ClientAt) → Becomes a i o
        → IsRun (record { seen = record { sent = []; client = o }; last = after_input a.state t i })
    by_input a x None o b = record {
      ran = λ d e. subst (λ (y : ClientAt). Ran y.state t.met) (same_client b.0 d (sym b.1 ∙ e)) (elim b.2 [
        | inl same ↦ subst (λ (z : Client). Ran z t.met) (sym same) x
        | inr new ↦ new_ran b.0 t.met new
      ]);
      reads = reads;
    }
    by_input a x (Some i) o b = record {
      ran = λ d e. subst (λ (y : ClientAt). Ran y.state (met_after a.state t.met i))
          (same_client (went a i (step a.state i)) d (sym b ∙ e)) (ran_more a.state t.met i x);
      reads = λ bytes e.
          subst (λ (z : Client). P (stepped z t i) bytes) (sym x.state)
          (holds x.number x.inputs t i bytes
          (ap (λ (z : Client). met_after z t.met i) (sym x.state) ∙ met_then a.state t.met x i)
          (ap (λ (z : Client). (step z i).outcome) (sym x.state) ∙ e));
    }

    on_line : (o : Option ClientAt) → ((a : ClientAt) → o ≡ Some a → Ran a.state t.met)
        → IsRun (sees_call c (record { seen = record { sent = sent; client = o }; last = t }) l)
    on_line None x = record { ran = λ d e. new_ran d t.met (line_arrives c sent l d e); reads = reads }
    on_line (Some a) x =
        let r = by_input a (x a refl) (line_input c sent l a) _ (line_becomes c sent a l) in
        record { ran = r.ran; reads = r.reads }

  all_run : (c : ℕ) (s : CallSeen) (h : List Line) → IsRun s → IsRun (fold (sees_call c) s h)
  all_run c s [] x = x
  all_run c s (l ∷ h) x =
      all_run c (sees_call c s l) h (on_line c s.seen.sent s.last x.reads l s.seen.client x.ran)

  read_ended : (c : ℕ) (h : List Line) (bytes : List ℕ) → (call_seen c h).last.outcome ≡ Some (ReadOk bytes)
      → P (call_seen c h).last bytes
  read_ended c h bytes e =
      (all_run c _ h (record { ran = λ a e. absurd (cc e); reads = λ u e. absurd (cc e) })).reads bytes e

  -- the outcome of a read that is told as answered
  told_read : (kind : CallKind) (f : Outcome) (bytes : List ℕ) → outcome.ReadOk bytes ≡ told_outcome kind f
      → f ≡ ReadOk bytes
  told_read kind (ReadOk read) bytes e = let same : bytes ≡ read = cc e in ap (λ (l : List ℕ). ReadOk l) (sym same)
  told_read kind (WriteOk n) bytes e = absurd (cc e)
  told_read kind NoFile bytes e = absurd (cc e)
  told_read kind (HeldBy c) bytes e = absurd (cc e)
  told_read kind (Fencing n) bytes e = absurd (cc e)
  told_read kind (Degraded n) bytes e = absurd (cc e)
  told_read kind Spent bytes e = absurd (cc e)
  told_read kind (Status s d) bytes e = absurd (cc e)
  told_read kind (Refused d v n) bytes e = absurd (cc e)
  told_read kind (Silent n) bytes e = absurd (cc e)
  told_read kind (Lost ps) bytes e = absurd (cc e)
  told_read kind (BadLayout why) bytes e = absurd (cc e)

  -- so it does where a line tells the answer
  pub told_so : (before : List Line) (c : ℕ) (bytes : List ℕ) → CausedAt before (line.Ended c (outcome.ReadOk bytes))
      → P (call_seen c before).last bytes
  told_so before c bytes x =
      read_ended c before bytes
      (x.ended ∙ ap (λ (f : Outcome). Some f) (told_read (kind_of x.op) x.outcome bytes x.is))

at_line : (before : List Line) (l : Line) → CausedAt before l → AnswersAt before l
at_line before (line.Ended c (outcome.ReadOk bytes)) x =
    told_so IsOfReplies (answered reads_took_replies reads_are_right) before c bytes x
at_line before (line.Ended c (outcome.WriteOk n)) x = tt
at_line before (line.Ended c (outcome.Failed kind e)) x = tt
at_line before l x = tt

pub answers_are_of_replies : AnswersAreOfReplies
answers_are_of_replies h l before x after is = at_line before x (ends_are_caused h l before x after is)
