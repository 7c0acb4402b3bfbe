-- A ready read of a calm event gives what the writes before it leave, where each was acknowledged.
use Rattle.std.proofs.Common.{◌≡◌, ◌&&◌, ℕ, Bool, true, false, List, [], ◌∷◌, ◌++◌, fold, Option, Some, None, refl, sym, ap, subst, ◌∙◌, append_assoc, inl, inr}
use Rattle.std.specs.Prelude.{option_map}
use Rattle.std.specs.List.{list_any}
use Rattle.std.proofs.lemmas.Bool.{or_parts}
use Rattle.std.proofs.lemmas.List.Folds.{list_any-append}
use Rattle.std.proofs.lemmas.List.Sums.{fold-append}
use Rattle.file_log.specs.declared.entry.Entry.{Entry}
use Rattle.file_log.specs.declared.entry.Entry.TheVariants as entry
use Rattle.file_log.specs.Judge.{Candidates, Finds, IsRange, AcceptsFrom, Accepts, after_entry, candidates_from, new_file}
use Rattle.file_log.specs.OneList.{written, AllAcknowledged, IsPlain, IsRangeFound}
use Rattle.file_log.proofs.Settled.{new_is_settled}
use Rattle.scenario_text.specs.declared.event.Call.TheVariants as call
use Rattle.scenario_text.specs.declared.event.Event.TheVariants as event
use Rattle.scenario_text.specs.declared.line.Outcome.{Outcome}
use Rattle.scenario_text.specs.declared.line.Outcome.TheVariants as outcome
use Rattle.scenario_text.specs.declared.line.Line.{Line}
use Rattle.scenario_text.specs.declared.line.Line.TheVariants as line
use Rattle.server_rules.specs.Laws.{In}
use Rattle.server_rules.proofs.Members.{in_front, in_behind}
use Rattle.world_history.specs.ClientNames.{Call, Read}
use Rattle.world_history.specs.State.{World, ClientAt, at_number}
use Rattle.world_history.specs.Handed.{pending_op}
use Rattle.world_history.specs.History.{Lawful, FrontsAreLawful}
use Rattle.world_history.specs.Guesses.{Guarded, guards, unguessed}
use Rattle.world_history.specs.ReadLog.{Pending, Logged, log_after, empty_log, log_in, log_of}
use Rattle.world_history.specs.Calm.{calm}
use Rattle.history_law.specs.Moments.{IsMoment}
use Rattle.history_law.specs.Read.{AreWritten}
use Rattle.history_law.proofs.Staying.{written_front}
use Rattle.exchange_law.specs.InStep.{state_of}
use Rattle.exchange_law.specs.Pending.{logged_op, IsPendingAt}
use Rattle.exchange_law.specs.Text.{AreOfText, AreFew}
use Rattle.exchange_law.proofs.CountGrowing.{fewer, text_front}
use Rattle.cause_law.proofs.Unanswered.{between}
use Rattle.ready_law.specs.Answered.{scene_in, EndsOk, IsOk, ReadyIsAnswered}
use Rattle.ready_law.specs.Events.{is_event, IsOver, EventsStandApart}
use Rattle.ready_law.specs.Ready.{Scene, scene_of, IsReady}
use Rattle.ready_law.specs.Worlds.{ScenesAreRead}
use Rattle.ready_law.proofs.Walking.{clean_behind}
use Rattle.headline_law.specs.Claim.{IsRight, HeadlineHolds}
use Rattle.history_claims.specs.Logged.{EndedAreLogged}
use Rattle.history_claims.specs.Plain.{AreOnlyOf, ReadyCallsAreAlone, ReadyReadsArePlain}
use Rattle.history_claims.proofs.PlainLog.{Runs, HasBegun, IsAnsweredIn, lines_run, call_runs, end_answers, lines_behind, file_log}

-- ---- what the judge says of the log

-- the entries before are accepted, and the read finds what it needs behind them
read_finds : (d : Candidates) (log more : List Entry) (offset count : ℕ) (bytes : List ℕ) →
    AcceptsFrom d (log ++ entry.Read offset count (Some bytes) ∷ more) →
    AcceptsFrom d log × Finds (candidates_from d log) offset count bytes
read_finds d [] more offset count bytes a = (tt, a.0)
read_finds d (e ∷ es) more offset count bytes a =
    let r = read_finds (after_entry d e) es more offset count bytes a.1 in ((a.0, r.0), r.1)

-- Where each write was acknowledged, the answer is the range of what they leave.
answer_is_range : IsPlain → IsRangeFound → (log more : List Entry) (offset count : ℕ) (bytes : List ℕ) →
    AllAcknowledged log → Accepts (log ++ entry.Read offset count (Some bytes) ∷ more) →
    IsRange (written [] log) offset count bytes
answer_is_range plain found log more offset count bytes all a =
    let r = read_finds new_file log more offset count bytes a in
    found (candidates_from new_file log) (written [] log) offset count bytes (plain new_file [] log new_is_settled all r.0) r.1

-- ---- lists

in_middle : (xs ys : List Line) (l : Line) → In l (xs ++ l ∷ ys)
in_middle [] ys l = inl refl
in_middle (x ∷ xs) ys l = inr (in_middle xs ys l)

-- ---- no call of the client is pending by the log

none_logged : (o : Option Pending) → logged_op o ≡ None → o ≡ None
none_logged None e = refl
none_logged (Some p) e = absurd (cc e)

-- ---- what is known

pub record PlainLaws : Type 0 where
  pub fronts : FrontsAreLawful
  pub plain : IsPlain
  pub range : IsRangeFound
  pub answered : ReadyIsAnswered
  pub right : HeadlineHolds
  pub alone : ReadyCallsAreAlone
  pub logged : EndedAreLogged
  pub apart : EventsStandApart
  pub scenes : ScenesAreRead
  pub pending : (w : World) (h : List Line) → IsMoment w h → AreOfText h → (c : ℕ) → IsPendingAt w (log_in h) c

module _ (laws : PlainLaws) (h : List Line) (lawful : Lawful h) (are_written : AreWritten h) (of_text : AreOfText h)
    (few : AreFew h) (before body : List Line) (c file offset count : ℕ)
    (over : IsOver h before (event.Do c (call.Read file offset count)) body) where
  abbrev own : Line
  own = line.Event (event.Do c (call.Read file offset count))

  -- the lines up to the event's end
  abbrev whole : List Line
  whole = before ++ own ∷ body

  split : h ≡ whole ++ over.after
  split = over.lines_are ∙ sym (append_assoc before (own ∷ body) over.after)

  module _ (ready : IsReady (scene_in before) c (Read file offset count)) where
    -- nothing is guessed up to there
    clean : unguessed whole ≡ true
    clean =
        ap unguessed (sym (append_assoc before (own ∷ []) body))
        ∙ clean_behind (before ++ own ∷ []) body over.alone
        (ap (λ (g : Guarded). g.unguessed) (fold-append guards _ before (own ∷ []))
        ∙ ap (λ (b : Bool). b && true) ready.unguessed)

    right_there : calm whole ≡ true → IsRight whole
    right_there is_calm =
        laws.right whole (laws.fronts whole over.after (subst Lawful split lawful)) (record {
          scenario = record {
            written = written_front whole over.after (subst AreWritten split are_written);
            text = text_front whole over.after (subst AreOfText split of_text);
            few = fewer whole over.after (subst AreFew split few);
          };
          is_calm = is_calm;
          is_unguessed = clean;
        })

    -- no call of the client is pending before it
    none_pending : at_number (log_in before).pending c ≡ None
    none_pending =
        let a = laws.apart h before (event.Do c (call.Read file offset count)) body lawful over in
        let scene : scene_in before ≡ scene_of a.world before =
        laws.scenes a.world before a.stands
        (written_front before (own ∷ (body ++ over.after)) (subst AreWritten over.lines_are are_written)) in
        let there : at_number a.world.clients c ≡ Some ready.caller =
        subst (λ (z : Scene). z.client c ≡ Some ready.caller) scene ready.there in
        none_logged (at_number (log_in before).pending c)
        (laws.pending a.world before (between a.world before a.stands)
        (text_front before (own ∷ (body ++ over.after)) (subst AreOfText over.lines_are of_text)) c
        ∙ ap (λ (o : Option ClientAt). pending_op (state_of c o)) there
        ∙ ap (option_map (λ (z : Call). z.op)) ready.idle.free)

    -- ---- the line that tells the end

    module _ (e : EndsOk c (Read file offset count) body) (bytes : List ℕ) (is : e.outcome ≡ outcome.ReadOk bytes) where
      abbrev its : Line
      its = line.Ended c (outcome.ReadOk bytes)

      body_is : body ≡ e.front ++ its ∷ e.back
      body_is = e.lines_are ∙ ap (λ (o : Outcome). e.front ++ line.Ended c o ∷ e.back) is

      alone : AreOnlyOf c body
      alone = laws.alone h lawful are_written of_text few before body c (call.Read file offset count) over ready

      plain_parts : (list_any is_event e.front ≡ false) × (list_any is_event e.back ≡ false)
      plain_parts =
          let all : list_any is_event (e.front ++ its ∷ e.back) ≡ false =
          ap (list_any is_event) (sym body_is) ∙ over.alone in
          or_parts (list_any is_event e.front) (list_any is_event e.back)
          (sym (list_any-append is_event e.front (its ∷ e.back)) ∙ all)

      only_front : AreOnlyOf c e.front
      only_front l i = alone l (subst (In l) (sym body_is) (in_front l e.front (its ∷ e.back) i))

      only_back : AreOnlyOf c e.back
      only_back l i = alone l (subst (In l) (sym body_is) (in_behind l e.front (its ∷ e.back) (inr i)))

      -- the lines before it
      abbrev upto : List Line
      upto = before ++ own ∷ e.front

      abbrev old : List Logged
      old = (log_in before).entries

      log_upto : log_in upto ≡ fold log_after (log_after (log_in before) own) e.front
      log_upto = fold-append log_after empty_log before (own ∷ e.front)

      runs : Runs c file offset count old (log_in upto)
      runs =
          subst (Runs c file offset count old) (sym log_upto)
          (lines_run c file offset count old e.front (log_after (log_in before) own) plain_parts.0 e.once.0 only_front
          (call_runs c file offset count old (log_in before) none_pending refl))

      upto_is : h ≡ upto ++ its ∷ (e.back ++ over.after)
      upto_is =
          split
          ∙ ap (λ (ls : List Line). (before ++ own ∷ ls) ++ over.after) body_is
          ∙ append_assoc before (own ∷ (e.front ++ its ∷ e.back)) over.after
          ∙ ap (λ (ls : List Line). before ++ own ∷ ls) (append_assoc e.front (its ∷ e.back) over.after)
          ∙ sym (append_assoc before (own ∷ e.front) (its ∷ (e.back ++ over.after)))

      -- the read was logged
      begun : HasBegun c file offset count old (log_in upto)
      begun = by runs
        where
          by : Runs c file offset count old (log_in upto) → HasBegun c file offset count old (log_in upto)
          by (inl k) =
              let n = laws.logged h lawful are_written of_text few upto its (e.back ++ over.after) upto_is in
              let one : Some n.pending ≡ Some (record { call = call.Read file offset count; entry = None }) =
              sym n.there ∙ k.pending in
              let same : n.pending ≡ record { call = call.Read file offset count; entry = None } = cc one in
              let none : None ≡ Some n.number = sym (ap (λ (p : Pending). p.entry) same) ∙ n.entry in absurd (cc none)
          by (inr k) = k

      log_whole : log_in whole ≡ fold log_after (log_after (log_in upto) its) e.back
      log_whole =
          ap (λ (ls : List Line). log_in (before ++ own ∷ ls)) body_is
          ∙ ap log_in (sym (append_assoc before (own ∷ e.front) (its ∷ e.back)))
          ∙ fold-append log_after empty_log upto (its ∷ e.back)

      answered : IsAnsweredIn c file offset count old bytes (log_in whole)
      answered =
          subst (IsAnsweredIn c file offset count old bytes) (sym log_whole)
          (lines_behind c file offset count old bytes e.back (log_after (log_in upto) its) plain_parts.1 e.once.1 only_back
          (end_answers c file offset count old (log_in upto) bytes begun))

      is_range : calm whole ≡ true → AllAcknowledged (log_of before file) →
          IsRange (written [] (log_of before file)) offset count bytes
      is_range is_calm all =
          answer_is_range laws.plain laws.range (log_of before file) _ offset count bytes all
          (subst Accepts (file_log c file offset count old bytes (log_in whole) answered)
          ((right_there is_calm).accepted file))

      it_is_there : In its body
      it_is_there = subst (In its) (sym body_is) (in_middle e.front e.back its)

    -- ---- the outcome

    bytes_of : (o : Outcome) → IsOk (Read file offset count) o → (bytes : List ℕ) × (o ≡ outcome.ReadOk bytes)
    bytes_of (outcome.ReadOk bytes) ok = (bytes, refl)
    bytes_of (outcome.WriteOk n) ok = absurd ok
    bytes_of (outcome.Failed kind why) ok = absurd ok

    reads_plain : calm whole ≡ true → AllAcknowledged (log_of before file) → (bytes : List ℕ)
        × In (line.Ended c (outcome.ReadOk bytes)) body
        × IsRange (written [] (log_of before file)) offset count bytes
    reads_plain is_calm all =
        let e = (laws.answered h lawful are_written of_text few before body c (call.Read file offset count) over ready).0 in
        let b = bytes_of e.outcome e.ok in
        (b.0, it_is_there e b.0 b.1, is_range e b.0 b.1 is_calm all)

-- Each ready read of a calm event is plain.
pub ready_reads_are_plain : PlainLaws → ReadyReadsArePlain
ready_reads_are_plain laws h lawful are_written of_text few before body c file offset count over ready is_calm all =
    reads_plain laws h lawful are_written of_text few before body c file offset count over ready is_calm all
