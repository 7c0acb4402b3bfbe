-- Event by event, the log of the scenario's file is that of its calls, and so is the summary.
use Rattle.std.proofs.Common.{◌≡◌, ◌⊎◌, ◌==◌, ◌+◌, ◌%◌, if◌then◌else◌, ℕ, zero, suc, Bool, true, false, List, [], ◌∷◌, ◌++◌, fold, length, map, filter, replicate, refl, sym, ap, subst, ◌∙◌, append_assoc, arith, inl, inr}
use Rattle.std.specs.List.{AllByRecursion}
use Rattle.std.proofs.lemmas.Bool.{true≢false, cases_Bool, eq-eqb}
use Rattle.std.proofs.lemmas.List.{append-nil, length-replicate, map-append}
use Rattle.std.proofs.lemmas.List.Elements.{filter-append}
use Rattle.std.proofs.lemmas.List.Sums.{fold-append}
use Rattle.client_rules.specs.Calls.{file_of}
use Rattle.file_log.specs.declared.entry.Entry.{Entry}
use Rattle.file_log.specs.Judge.{Accepts, new_file}
use Rattle.file_log.proofs.Settled.{new_is_settled}
use Rattle.scenario_text.specs.declared.event.Call.{Call}
use Rattle.scenario_text.specs.declared.event.Call.TheVariants as call
use Rattle.scenario_text.specs.declared.event.Event.{Event}
use Rattle.scenario_text.specs.declared.event.Event.TheVariants as event
use Rattle.scenario_text.specs.declared.line.Line.{Line}
use Rattle.scenario_text.specs.declared.line.Line.TheVariants as line
use Rattle.world_history.specs.declared.summary.Summary.{Summary}
use Rattle.world_history.specs.Calm.{calm}
use Rattle.world_history.specs.Moves.{op_of}
use Rattle.world_history.specs.ReadLog.{Logged, log_in, log_of}
use Rattle.world_history.specs.State.{World, empty_world}
use Rattle.world_history.specs.Summing.{counts_call, counts_outcome, no_summary, summary_of}
use Rattle.world_history.specs.History.{Step, AreCarried, StandsFor, Lawful, lines_of_steps}
use Rattle.world_history.specs.History.Begins.{Nothing}
use Rattle.history_law.specs.Safe.{AtEachLine}
use Rattle.cause_law.specs.Lines.{is_event}
use Rattle.cause_law.proofs.Eventless.{NoEvent, more_plain}
use Rattle.exchange_law.specs.Text.{AreFew}
use Rattle.ready_law.specs.Answered.{EndsOk}
use Rattle.ready_law.specs.Events.{BeginsWithEvent, IsOver}
use Rattle.headline_law.specs.Claim.{HeadlineHolds, IsRight}
use Rattle.history_claims.specs.Logged.{EndedAreLogged, IsLoggedAt}
use Rattle.generate_law.specs.Opening.{ScenarioCallsEndInOk}
use Rattle.generate_law.specs.Plays.{Plays}
use Rattle.generate_law.specs.Scenario.{call_event, calls_from, length_of, next_random, offset_of, opening, scenario_of}
use Rattle.generate_law.specs.Sums.{Counted, SummaryIsPlain, after_event, no_count, plain_summary}
use Rattle.generate_law.proofs.Counting.{scenario_has_counts}
use Rattle.generate_law.proofs.Events.{events_in, events_are, events_more, none_in}
use Rattle.generate_law.proofs.OneEntry.{IsStill, HasEnded, logged}
use Rattle.generate_law.proofs.PlainSums.{Done, IsGood, after_done, counts_done, entry_of, events_ok, sums}
use Rattle.generate_law.proofs.Refusing.{scenario_is_unguessed}
use Rattle.generate_law.proofs.Texts.{scenario_is_text}
use Rattle.generate_law.proofs.Walking.{IsFilled, IsNoCall, added, stays}

-- ---- the scenario's events

-- no call without its answers, and each call is on file 0, a write of some bytes, or a read
abbrev IsFitting : Event → Type 0
IsFitting (event.Do c x) = (file_of (op_of x) ≡ 0) × IsFilled x
IsFitting (event.Call c x) = ⊥
IsFitting e = Unit {0}

call_fits : (k x : ℕ) → IsFitting (call_event k x)
call_fits k x = either (k % 2 == 0)
  where
    some : length (replicate (length_of x) (k % 256)) ≡ 0 → ⊥
    some none = absurd (omega (arith, sym (length-replicate (length_of x) (k % 256)) ∙ none))

    either : (b : Bool) → IsFitting (event.Do (k % 3) (if b then call.Write 0 (offset_of x) (replicate (length_of x) (k % 256))
        else call.Read 0 (offset_of x) (length_of x)))
    either true = (refl, some)
    either false = (refl, tt)

calls_fit : (n k x : ℕ) → AllByRecursion IsFitting (calls_from n k x)
calls_fit zero k x = tt
calls_fit (suc n) k x = (call_fits k x, calls_fit n (k + 1) (next_random x))

both : {A : Type 0} (P : A → Type 0) (xs ys : List A) → AllByRecursion P xs → AllByRecursion P ys → AllByRecursion P (xs ++ ys)
both P [] ys p q = q
both P (x ∷ xs) ys p q = (p.0, both P xs ys p.1 q)

scenario_fits : (seed calls : ℕ) → AllByRecursion IsFitting (scenario_of seed calls)
scenario_fits seed calls =
    both IsFitting opening (calls_from calls 0 seed)
    (tt, (tt, (tt, (tt, (tt, (tt, (tt, (tt, (tt, (tt, ((refl, λ (e : 1 ≡ 0). absurd (cc e)), tt)))))))))))
    (calls_fit calls 0 seed)

-- ---- lines

-- what follows is another event, or nothing
abbrev Follows : List Line → Type 0
Follows ls = BeginsWithEvent ls ⊎ (ls ≡ [])

-- the lines up to the next event, and those from it on
record Parted (ls : List Line) : Type 0 where
  body : List Line
  after : List Line
  are : ls ≡ body ++ after
  plain : NoEvent body
  follows : Follows after

part : (ls : List Line) → Parted ls
part [] = record { body = []; after = []; are = refl; plain = refl; follows = inr refl }
part (y ∷ ls) = elim (cases_Bool (is_event y)) [
  | inl it ↦ record { body = []; after = y ∷ ls; are = refl; plain = refl; follows = inl it }
  | inr other ↦
      let r = part ls in record {
        body = y ∷ r.body;
        after = r.after;
        are = ap (λ (xs : List Line). y ∷ xs) r.are;
        plain = more_plain y r.body other r.plain;
        follows = r.follows;
      }
]

-- a history begins with an event, if with anything
begins_so : (w : World) (h : List Line) → StandsFor w h → Follows h
begins_so w h s = subst Follows (sym s.lines_are) (by s.steps s.carried)
  where
    by : (steps : List Step) → AreCarried empty_world steps → Follows (lines_of_steps steps)
    by [] c = inr refl
    by (t ∷ steps) c = inl (subst (λ (ls : List Line). BeginsWithEvent (ls ++ lines_of_steps steps)) (sym c.0.lines_are) refl)

-- the first of some events stands in the first line
record HasFirst (e : Event) (es : List Event) (ls : List Line) : Type 0 where
  behind : List Line
  are : ls ≡ line.Event e ∷ behind
  others : events_in behind ≡ es

first_of : (e : Event) (es : List Event) (ls : List Line) → Follows ls → events_in ls ≡ e ∷ es → HasFirst e es ls
first_of e es [] f is = absurd (cc is)
first_of e es (line.Event d ∷ ls) f is =
    let same : d ≡ e = cc is in
    let rest : events_in ls ≡ es = cc is in
    record { behind = ls; are = ap (λ (z : Event). line.Event z ∷ ls) same; others = rest }
first_of e es (y ∷ ls) (inl b) is = absurd (true≢false (sym b))
first_of e es (y ∷ ls) (inr none) is = absurd (cc none)

none_left : (ls : List Line) → Follows ls → events_in ls ≡ [] → ls ≡ []
none_left [] f is = refl
none_left (line.Event d ∷ ls) f is = absurd (cc is)
none_left (y ∷ ls) (inl b) is = absurd (true≢false (sym b))
none_left (y ∷ ls) (inr none) is = absurd (cc none)

-- ---- the log of the file

-- what the judge reads of some entries
abbrev read_of : List Logged → List Entry
read_of es = map (λ (e : Logged). e.entry) (filter (λ (e : Logged). e.file == 0) es)

-- an entry more on the file
read_more : (old : List Logged) (e : Logged) → e.file ≡ 0 → read_of (old ++ e ∷ []) ≡ read_of old ++ e.entry ∷ []
read_more old e its =
    ap (map (λ (z : Logged). z.entry)) (filter-append (λ (z : Logged). z.file == 0) old (e ∷ [])
    ∙ ap (λ (b : Bool). filter (λ (z : Logged). z.file == 0) old ++ (if b then e ∷ [] else [])) (eq-eqb e.file 0 its))
    ∙ map-append (λ (z : Logged). z.entry) (filter (λ (z : Logged). z.file == 0) old) (e ∷ [])

-- What there is behind some of the events: nothing is pending, the log of the file is that of these calls, which ended in ok,
-- and so are the summary and the counts on one list of bytes.
record IsTallied (b : List Line) : Type 0 where
  done : List Done
  still : IsStill (log_in b).entries (log_in b)
  log : log_of b 0 ≡ map entry_of done
  summary : summary_of b ≡ fold counts_done no_summary done
  plain : fold after_event no_count (events_in b) ≡ fold after_done no_count done
  good : AllByRecursion IsGood done

none_tallied : IsTallied []
none_tallied = record {
  done = [];
  still = record { pending = refl; entries = refl };
  log = refl;
  summary = refl;
  plain = refl;
  good = tt;
}

-- ---- an event more

module _ (h : List Line) (told : AtEachLine IsLoggedAt h) (b body after : List Line) (plain : NoEvent body) (t : IsTallied b)
  where
    -- an event without a call
    module _ (e : Event) (none : IsNoCall e) (is : h ≡ b ++ line.Event e ∷ (body ++ after)) where
      goes : IsStill (log_in b).entries (log_in (b ++ line.Event e ∷ body))
          × (summary_of (b ++ line.Event e ∷ body) ≡ summary_of b)
      goes = stays h told b body after plain e none is (log_in b).entries t.still

      no_call_more : IsTallied (b ++ line.Event e ∷ body)
      no_call_more = record {
        done = t.done;
        still = record { pending = goes.0.pending; entries = refl };
        log = ap read_of goes.0.entries ∙ t.log;
        summary = goes.1 ∙ t.summary;
        plain = ap (fold after_event no_count) (events_more b (line.Event e ∷ body))
            ∙ ap (λ (es : List Event). fold after_event no_count (events_in b ++ e ∷ es)) (none_in body plain)
            ∙ fold-append after_event no_count (events_in b) (e ∷ [])
            ∙ same (fold after_event no_count (events_in b)) e none ∙ t.plain;
        good = t.good;
      }
        where
          same : (k : Counted) (d : Event) → IsNoCall d → after_event k d ≡ k
          same k (event.Do c x) n = absurd n
          same k (event.Call c x) n = absurd n
          same k d n = refl

    -- a call
    module _ (c : ℕ) (x : Call) (is : h ≡ b ++ line.Event (event.Do c x) ∷ (body ++ after)) (e : EndsOk c (op_of x) body)
        (on_file : file_of (op_of x) ≡ 0) (filled : IsFilled x) where
      abbrev whole : List Line
      whole = b ++ line.Event (event.Do c x) ∷ body

      abbrev its : Done
      its = record { call = x; outcome = e.outcome }

      more : HasEnded c (log_in b).entries x e.outcome (log_in whole)
          × (summary_of whole ≡ counts_outcome (counts_call (summary_of b) x) e.outcome)
      more = added h told b body after plain c x is e filled (log_in b).entries t.still

      call_more : IsTallied whole
      call_more = record {
        done = t.done ++ its ∷ [];
        still = record { pending = more.0.still.pending; entries = refl };
        log = ap read_of more.0.still.entries
            ∙ read_more (log_in b).entries (logged c (log_in b).entries x more.0.grant (entry_of its)) on_file
            ∙ ap (λ (es : List Entry). es ++ entry_of its ∷ []) t.log ∙ sym (map-append entry_of t.done (its ∷ []));
        summary = more.1 ∙ ap (λ (z : Summary). counts_done z its) t.summary
            ∙ sym (fold-append counts_done no_summary t.done (its ∷ []));
        plain = ap (fold after_event no_count) (events_more b (line.Event (event.Do c x) ∷ body))
            ∙ ap (λ (es : List Event). fold after_event no_count (events_in b ++ event.Do c x ∷ es)) (none_in body plain)
            ∙ fold-append after_event no_count (events_in b) (event.Do c x ∷ [])
            ∙ ap (λ (k : Counted). after_done k its) t.plain ∙ sym (fold-append after_done no_count t.done (its ∷ []));
        good = both IsGood t.done (its ∷ []) t.good (e.ok, tt);
      }

-- ---- all events

module _ (ends : ScenarioCallsEndInOk) (ended_logged : EndedAreLogged) (right : HeadlineHolds) (seed calls : ℕ) (w : World)
    (h : List Line) (p : Plays (scenario_of seed calls) w h) (few : AreFew h) where
  lawful : Lawful h
  lawful = record {
    world = w;
    whole = h;
    stands = p.stands;
    last = [];
    begins = Nothing refl;
    lines_are = sym (append-nil h);
  }

  told_so : AtEachLine IsLoggedAt h
  told_so =
      let text = scenario_is_text seed calls w h p in ended_logged h lawful text.0 text.1 few

  one_event : (e : Event) → IsFitting e → (b body after : List Line) → h ≡ b ++ line.Event e ∷ (body ++ after) → NoEvent body
      → Follows after → IsTallied b → IsTallied (b ++ line.Event e ∷ body)
  one_event (event.Do c x) fits b body after is plain follows t =
      call_more h told_so b body after plain t c x is (ends seed calls w h p few b body c x (over follows)) fits.0 fits.1
    where
      over : Follows after → IsOver h b (event.Do c x) body
      over (inl another) = record { after = after; lines_are = is; alone = plain; closed = inl another }
      over (inr none) = record { after = after; lines_are = is; alone = plain; closed = inr (none, (w, p.stands)) }
  one_event (event.Call c x) fits b body after is plain follows t = absurd fits
  one_event e fits b body after is plain follows t = no_call_more h told_so b body after plain t e tt is

  all_events : (es : List Event) → AllByRecursion IsFitting es → (b ls : List Line) → h ≡ b ++ ls → Follows ls
      → events_in ls ≡ es → IsTallied b → IsTallied h
  all_events [] fits b ls is follows are t =
      subst IsTallied (sym (is ∙ ap (λ (xs : List Line). b ++ xs) (none_left ls follows are) ∙ append-nil b)) t
  all_events (e ∷ es) fits b ls is follows are t =
      let first = first_of e es ls follows are in
      let r = part first.behind in
      let split : h ≡ b ++ line.Event e ∷ (r.body ++ r.after) =
      is ∙ ap (λ (xs : List Line). b ++ xs) (first.are ∙ ap (λ (xs : List Line). line.Event e ∷ xs) r.are) in
      let rest : events_in r.after ≡ es =
      ap (λ (xs : List Event). xs ++ events_in r.after) (sym (none_in r.body r.plain)) ∙ sym (events_more r.body r.after)
      ∙ ap events_in (sym r.are) ∙ first.others in
      all_events es fits.1 (b ++ line.Event e ∷ r.body) r.after
      (split ∙ sym (append_assoc b (line.Event e ∷ r.body) r.after)) r.follows rest
      (one_event e fits.0 b r.body r.after split r.plain r.follows t)

  tallied : IsTallied h
  tallied =
      all_events (scenario_of seed calls) (scenario_fits seed calls) [] h refl (begins_so w h p.stands)
      (events_are (scenario_of seed calls) w h p) none_tallied

  -- ---- the summary

  module _ (is_calm : calm h ≡ true) where
    accepted : Accepts (log_of h 0)
    accepted =
        let text = scenario_is_text seed calls w h p in
        let r : IsRight h = right h lawful (record {
          scenario = record { written = text.0; text = text.1; few = few };
          is_calm = is_calm;
          is_unguessed = scenario_is_unguessed seed calls w h p;
        }) in
        r.accepted 0

    sum_is : summary_of h ≡ plain_summary (scenario_of seed calls)
    sum_is =
        tallied.summary
        ∙ sums tallied.done new_file no_count new_is_settled tallied.good (subst Accepts tallied.log accepted)
        ∙ ap (λ (k : Counted). k.summary) (sym tallied.plain)
        ∙ ap plain_summary (events_are (scenario_of seed calls) w h p)

    all_ok : (summary_of h).ok ≡ calls + 1
    all_ok =
        ap (λ (s : Summary). s.ok) sum_is ∙ events_ok (scenario_of seed calls) no_count refl
        ∙ ap (λ (s : Summary). s.calls) (sym sum_is) ∙ (scenario_has_counts seed calls w h p).calls_are

pub summary_is_plain : ScenarioCallsEndInOk → EndedAreLogged → HeadlineHolds → SummaryIsPlain
summary_is_plain ends ended_logged right seed calls w h p few is_calm = record {
  sum = sum_is ends ended_logged right seed calls w h p few is_calm;
  all_ok = all_ok ends ended_logged right seed calls w h p few is_calm;
}
