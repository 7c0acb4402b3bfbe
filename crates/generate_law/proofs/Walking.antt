-- The lines of one event of a history: what they make of the log and of the summary, where no call is pending before it.
use Rattle.std.proofs.Common.{◌≡◌, ℕ, Bool, true, false, List, [], ◌∷◌, ◌++◌, length, Some, refl, sym, ap, subst, ◌∙◌, append_assoc, inl, inr}
use Rattle.std.specs.List.{list_any}
use Rattle.std.proofs.lemmas.Bool.{true≢false, eq-eqb, or_parts}
use Rattle.std.proofs.lemmas.List.{append-nil}
use Rattle.std.proofs.lemmas.List.Folds.{list_any-append}
use Rattle.std.proofs.lemmas.List.Sums.{fold-append}
use Rattle.scenario_text.specs.declared.event.Call.{Call}
use Rattle.scenario_text.specs.declared.event.Call.TheVariants as call
use Rattle.scenario_text.specs.declared.event.Event.{Event}
use Rattle.scenario_text.specs.declared.event.Event.TheVariants as event
use Rattle.scenario_text.specs.declared.line.Outcome.{Outcome}
use Rattle.scenario_text.specs.declared.line.Outcome.TheVariants as outcome
use Rattle.scenario_text.specs.declared.line.Line.{Line}
use Rattle.scenario_text.specs.declared.line.Line.TheVariants as line
use Rattle.world_history.specs.declared.summary.Summary.{Summary}
use Rattle.world_history.specs.Moves.{op_of}
use Rattle.world_history.specs.ReadLog.{Pending, Logged, Log, empty_log, ended_entry, log_after, log_after_event, log_in}
use Rattle.world_history.specs.State.{at_number}
use Rattle.world_history.specs.Summing.{counts_call, counts_event, counts_line, counts_outcome, no_summary, summary_of}
use Rattle.history_law.specs.Safe.{AtEachLine}
use Rattle.history_law.proofs.Each.{EachBehind}
use Rattle.cause_law.specs.Lines.{is_event}
use Rattle.cause_law.proofs.Eventless.{NoEvent, first_plain}
use Rattle.ready_law.specs.Answered.{EndsOk, IsOk, ends_call}
use Rattle.history_claims.specs.Logged.{IsCalled, IsLoggedAt}
use Rattle.generate_law.proofs.OneEntry.{IsStill, Runs, HasBegun, HasEnded, call_runs, runs_line, runs_one, end_closes, still_line, still_none, unlogged_none, logged}
use Rattle.generate_law.proofs.PlainSums.{first_entry}

-- ---- what each line of some lines tells

each_of : (P : List Line → Line → Type 0) (h : List Line) → AtEachLine P h → (b ls rest : List Line)
    → h ≡ b ++ (ls ++ rest) → EachBehind P b ls
each_of P h at b [] rest is = tt
each_of P h at b (y ∷ ls) rest is = (
  at b y (ls ++ rest) is,
  each_of P h at (b ++ y ∷ []) ls rest (is ∙ sym (append_assoc b (y ∷ []) (ls ++ rest))),
)

log_more : (b : List Line) (y : Line) → log_in (b ++ y ∷ []) ≡ log_after (log_in b) y
log_more b y = fold-append log_after empty_log b (y ∷ [])

summary_more : (b : List Line) (y : Line) → summary_of (b ++ y ∷ []) ≡ counts_line (summary_of b) y
summary_more b y = fold-append counts_line no_summary b (y ∷ [])

-- a line that begins no event, and tells of no pending call that it ended in ok, counts nothing
same_count : (b : List Line) (y : Line) (s : Summary) → is_event y ≡ false → IsLoggedAt b y
    → ((k : ℕ) (o : Outcome) → y ≡ line.Ended k o → IsCalled (log_in b) k → ⊥) → counts_line s y ≡ s
same_count b (line.Event e) s plain told none = absurd (true≢false plain)
same_count b (line.Ended k (outcome.WriteOk n)) s plain told none = absurd (none k (outcome.WriteOk n) refl told.0)
same_count b (line.Ended k (outcome.ReadOk bytes)) s plain told none =
    absurd (none k (outcome.ReadOk bytes) refl (told.pending, told.there))
same_count b (line.Ended k (outcome.Failed kind why)) s plain told none = refl
same_count b y s plain told none = refl

-- ---- lines one by one

-- What is so of the log stays so at each line that begins no event and isn't excepted, and each pending call's end is excepted:
-- then it is so behind the lines, and they count nothing.
module _ (Q : Log → Type 0) (excepted : Line → Bool)
    (step : (l : Log) (y : Line) → is_event y ≡ false → excepted y ≡ false → Q l → Q (log_after l y))
    (pending : (l : Log) (k : ℕ) (o : Outcome) → Q l → IsCalled l k → excepted (line.Ended k o) ≡ true) where
  walk : (ls b : List Line) → NoEvent ls → list_any excepted ls ≡ false → EachBehind IsLoggedAt b ls → Q (log_in b)
      → Q (log_in (b ++ ls)) × (summary_of (b ++ ls) ≡ summary_of b)
  walk [] b plain quiet told q =
      (subst (λ (x : List Line). Q (log_in x)) (sym (append-nil b)) q, ap summary_of (append-nil b))
  walk (y ∷ ls) b plain quiet told q =
      let p = first_plain y ls plain in
      let s = or_parts (excepted y) (list_any excepted ls) quiet in
      let next : Q (log_in (b ++ y ∷ [])) = subst Q (sym (log_more b y)) (step (log_in b) y p.0 s.0 q) in
      let r = walk ls (b ++ y ∷ []) p.1 s.1 told.1 next in
      let again : (b ++ y ∷ []) ++ ls ≡ b ++ y ∷ ls = append_assoc b (y ∷ []) ls in
      let same : counts_line (summary_of b) y ≡ summary_of b =
      same_count b y (summary_of b) p.0 told.0 (λ k o is called.
      true≢false (sym (pending (log_in b) k o q called) ∙ ap excepted (sym is) ∙ s.0)) in
      (subst (λ (x : List Line). Q (log_in x)) again r.0, ap summary_of (sym again) ∙ r.1 ∙ summary_more b y ∙ same)

-- ---- where nothing is pending

abbrev none_excepted : Line → Bool
none_excepted y = false

none_in_all : (ls : List Line) → list_any none_excepted ls ≡ false
none_in_all [] = refl
none_in_all (y ∷ ls) = none_in_all ls

still_walk : (es : List Logged) (ls b : List Line) → NoEvent ls → EachBehind IsLoggedAt b ls → IsStill es (log_in b)
    → IsStill es (log_in (b ++ ls)) × (summary_of (b ++ ls) ≡ summary_of b)
still_walk es ls b plain told s =
    walk (IsStill es) none_excepted (λ l y p q k. still_line es l y p k) (λ l k o q called.
    absurd (cc (sym (still_none es l k q).0 ∙ called.1))) ls b plain (none_in_all ls) told s

-- no call comes with the event
abbrev pub IsNoCall : Event → Type 0
IsNoCall (event.Do c x) = ⊥
IsNoCall (event.Call c x) = ⊥
IsNoCall e = Unit {0}

no_call_log : (l : Log) (e : Event) → IsNoCall e → log_after_event l e ≡ l
no_call_log l (event.Do c x) none = absurd none
no_call_log l (event.Call c x) none = absurd none
no_call_log l e none = refl

no_call_count : (s : Summary) (e : Event) → IsNoCall e → counts_event s e ≡ s
no_call_count s (event.Do c x) none = absurd none
no_call_count s (event.Call c x) none = absurd none
no_call_count s e none = refl

-- ---- a call

-- a write of some bytes, or a read
abbrev pub IsFilled : Call → Type 0
IsFilled (call.Write file offset bytes) = length bytes ≡ 0 → ⊥
IsFilled (call.Read file offset count) = Unit {0}

-- a call of the client is pending, and has an entry
abbrev HasEntry : Log → (client : ℕ) → Type 0
HasEntry l c = (p : Pending) × (at_number l.pending c ≡ Some p) × ((n : ℕ) × (p.entry ≡ Some n))

-- so it is where such a call ends in ok
entry_there : (b : List Line) (c : ℕ) (x : Call) (o : Outcome) → IsOk (op_of x) o → IsFilled x
    → IsLoggedAt b (line.Ended c o) → HasEntry (log_in b) c
entry_there b c (call.Write file offset bytes) (outcome.WriteOk n) ok filled told =
    let own = told.1 (λ none. filled (sym ok ∙ none)) in (own.pending, own.there, (own.number, own.entry))
entry_there b c (call.Read file offset count) (outcome.ReadOk bytes) ok filled told =
    (told.pending, told.there, (told.number, told.entry))
entry_there b c (call.Write file offset bytes) (outcome.ReadOk answer) ok filled told = absurd ok
entry_there b c (call.Write file offset bytes) (outcome.Failed kind why) ok filled told = absurd ok
entry_there b c (call.Read file offset count) (outcome.WriteOk n) ok filled told = absurd ok
entry_there b c (call.Read file offset count) (outcome.Failed kind why) ok filled told = absurd ok

-- ---- an event

module _ (h : List Line) (told : AtEachLine IsLoggedAt h) (b body after : List Line) (plain : NoEvent body) where
  -- an event without a call leaves the log and the summary
  module _ (e : Event) (none : IsNoCall e) (is : h ≡ b ++ line.Event e ∷ (body ++ after)) (es : List Logged)
      (s : IsStill es (log_in b)) where
    abbrev own : Line
    own = line.Event e

    split : h ≡ (b ++ own ∷ []) ++ (body ++ after)
    split = is ∙ sym (append_assoc b (own ∷ []) (body ++ after))

    begun : IsStill es (log_in (b ++ own ∷ []))
    begun = subst (IsStill es) (sym (log_more b own ∙ no_call_log (log_in b) e none)) s

    walked : IsStill es (log_in ((b ++ own ∷ []) ++ body))
        × (summary_of ((b ++ own ∷ []) ++ body) ≡ summary_of (b ++ own ∷ []))
    walked = still_walk es body (b ++ own ∷ []) plain (each_of IsLoggedAt h told (b ++ own ∷ []) body after split) begun

    again : (b ++ own ∷ []) ++ body ≡ b ++ own ∷ body
    again = append_assoc b (own ∷ []) body

    pub stays : IsStill es (log_in (b ++ own ∷ body)) × (summary_of (b ++ own ∷ body) ≡ summary_of b)
    stays = (
      subst (λ (x : List Line). IsStill es (log_in x)) again walked.0,
      ap summary_of (sym again) ∙ walked.1 ∙ summary_more b own ∙ no_call_count (summary_of b) e none,
    )

  -- a call that ended in ok adds its entry, and counts
  module _ (c : ℕ) (x : Call) (is : h ≡ b ++ line.Event (event.Do c x) ∷ (body ++ after)) (e : EndsOk c (op_of x) body)
      (filled : IsFilled x) (old : List Logged) (s : IsStill old (log_in b)) where
    abbrev does : Line
    does = line.Event (event.Do c x)

    abbrev its : Line
    its = line.Ended c e.outcome

    -- the lines up to the event's own, up to the end of the call, and to its line
    abbrev b1 : List Line
    b1 = b ++ does ∷ []

    abbrev b2 : List Line
    b2 = b1 ++ e.front

    abbrev b3 : List Line
    b3 = b2 ++ its ∷ []

    split1 : h ≡ b1 ++ (e.front ++ its ∷ (e.back ++ after))
    split1 =
        is ∙ sym (append_assoc b (does ∷ []) (body ++ after))
        ∙ ap (λ (ls : List Line). b1 ++ (ls ++ after)) e.lines_are
        ∙ ap (λ (ls : List Line). b1 ++ ls) (append_assoc e.front (its ∷ e.back) after)

    split2 : h ≡ b2 ++ its ∷ (e.back ++ after)
    split2 = split1 ∙ sym (append_assoc b1 e.front (its ∷ (e.back ++ after)))

    split3 : h ≡ b3 ++ (e.back ++ after)
    split3 = split2 ∙ sym (append_assoc b2 (its ∷ []) (e.back ++ after))

    whole : b3 ++ e.back ≡ b ++ does ∷ body
    whole =
        append_assoc b2 (its ∷ []) e.back ∙ append_assoc b1 e.front (its ∷ e.back)
        ∙ ap (λ (ls : List Line). b1 ++ ls) (sym e.lines_are) ∙ append_assoc b (does ∷ []) body

    plain_parts : NoEvent e.front × NoEvent e.back
    plain_parts =
        or_parts (list_any is_event e.front) (list_any is_event e.back)
        (sym (list_any-append is_event e.front (its ∷ e.back)) ∙ ap (list_any is_event) (sym e.lines_are) ∙ plain)

    -- up to its end the call runs
    running : Runs c old x (log_in b2) × (summary_of b2 ≡ summary_of b1)
    running =
        walk (Runs c old x) (ends_call c) (λ l y p q k. runs_line c old x l y p q k) (λ l k o r called.
        eq-eqb k c (runs_one c old x l k called.0 r called.1)) e.front b1 plain_parts.0 e.once.0
        (each_of IsLoggedAt h told b1 e.front (its ∷ (e.back ++ after)) split1)
        (subst (Runs c old x) (sym (log_more b does)) (call_runs c old x (log_in b) s))

    -- its entry has begun
    begun_by : Runs c old x (log_in b2) → HasBegun c old x (log_in b2)
    begun_by (inl k) =
        let p = entry_there b2 c x e.outcome e.ok filled (told b2 its (e.back ++ after) split2) in
        absurd (unlogged_none c old x (log_in b2) p.0 p.2.0 k p.1 p.2.1)
    begun_by (inr k) = k

    ended : HasEnded c old x e.outcome (log_in b3)
    ended =
        subst (HasEnded c old x e.outcome) (sym (log_more b2 its))
        (end_closes c old x e.outcome (log_in b2) e.ok (begun_by running.0))

    -- behind its end nothing is pending
    over : IsStill (old ++ logged c old x ended.grant (ended_entry (first_entry x) e.outcome) ∷ []) (log_in (b3 ++ e.back))
        × (summary_of (b3 ++ e.back) ≡ summary_of b3)
    over =
        still_walk (old ++ logged c old x ended.grant (ended_entry (first_entry x) e.outcome) ∷ []) e.back b3 plain_parts.1
        (each_of IsLoggedAt h told b3 e.back after split3) ended.still

    pub added : HasEnded c old x e.outcome (log_in (b ++ does ∷ body))
        × (summary_of (b ++ does ∷ body) ≡ counts_outcome (counts_call (summary_of b) x) e.outcome)
    added = (
      subst (λ (ls : List Line). HasEnded c old x e.outcome (log_in ls)) whole (record { grant = ended.grant; still = over.0 }),
      ap summary_of (sym whole) ∙ over.1 ∙ summary_more b2 its
          ∙ ap (λ (z : Summary). counts_outcome z e.outcome) (running.1 ∙ summary_more b does),
    )
