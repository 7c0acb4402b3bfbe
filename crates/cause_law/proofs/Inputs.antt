-- So it is where the server answers.
use Rattle.std.proofs.Common.{◌≡◌, ℕ, ◌+◌, ◌==◌, nat_lt, Bool, true, false, List, [], ◌∷◌, Option, Some, None, Result, Ok, Err, length, refl, sym, ap, subst, ◌∙◌, inl, inr, if◌then◌else◌}
use Rattle.std.specs.Option.{option_or}
use Rattle.std.proofs.lemmas.Bool.{eqb-true}
use Rattle.layout_ops.specs.declared.args.Args.{Args}
use Rattle.layout_ops.specs.declared.args.Args.TheVariants as args
use Rattle.layout_ops.specs.declared.statuses.TheConstants.{NFS4_OK, NFS4ERR_BADLAYOUT}
use Rattle.client_rules.specs.declared.limits.TheConstants.{MAX_TRIES}
use Rattle.world_history.specs.ClientNames.{CallOp, Held, TimedOut, Need, First, Get, Commit, Report, Close, Starts, Outcome, WriteOk, Status, Silent, BadLayout, Why, Turn, Ends, Done, Request, Answer}
use Rattle.client_rules.specs.Calls.{file_of, span_of}
use Rattle.client_rules.specs.Grants.{held_of, put_held}
use Rattle.client_rules.specs.Results.{status_of}
use Rattle.client_rules.specs.Layouts.{taken}
use Rattle.client_rules.specs.Turns.{turned, needing}
use Rattle.client_rules.specs.Answers.{busy, refused_with, not_granted, committed, not_committed, on_commit, is_loss_taken, on_report}
use Rattle.client_rules.specs.Going.{phased, over, by_turn}
use Rattle.client_rules.specs.Messages.{answered_get, on_get, commit_under, on_need}
use Rattle.client_rules.proofs.HeldGrants.{put_at}
use Rattle.cause_law.specs.Met.{Met, Answered, busy_status, busy_args, given_args, grant_under, failure_args, failure_at, lost_under, first_refusal, first_beyond}
use Rattle.cause_law.specs.Caused.{failure_of}
use Rattle.cause_law.proofs.Fetching.{failed_answers}
use Rattle.cause_law.proofs.Trace.{whole_failed, IsReturn, IsPlain, return_plain, return_gives, return_fails, return_quiet, busy_same, answered_works, answered_decided, EndsSo, last_says, lost_write, Decided, decided_ends}
use Rattle.cause_law.proofs.Working.{WritesOn, GoodTurn, GoodMoved, either_turn, turned_good, write_ends, accounted_good}
use Rattle.cause_law.proofs.Given.{IsGet, get_busy, get_gives, get_fails, NotGiven, Says, Again, not_given, taken_covers, again_works, again_ends, again_count, last_try, first_tries}
use Rattle.cause_law.proofs.Steps.{ReturnsOnly, Asking, Returning, WaitsGood, IsCommit, IsFor, Told, GoodDone, either_done, over_good, moved_good}

-- ---- answers

module _ (before : List Held) (mine : Option CallOp) (ms : List Met) where
  -- what it waited for is answered
  module _ (op : CallOp) (is : mine ≡ Some op) (r : Request) (a : Answer) (d : Done)
      (held : d.client.held ≡ before) (free : d.client.outstanding ≡ None) (told : d.outcome ≡ None) where
    abbrev now : List Met
    now = Answered r a ∷ ms

    abbrev Good : Done → Type 0
    Good e = GoodDone before mine now e

    nothing_out : ReturnsOnly d.client.outstanding
    nothing_out = subst ReturnsOnly (sym free) tt

    none_told : Told before mine now d.outcome
    none_told = subst (Told before mine now) (sym told) tt

    starts_again : IsReturn r.args → Returning op ms → Good (phased d op Starts)
    starts_again return x =
        let same : grant_under d.client.held op now ≡ held_of d.client.held (file_of op) =
        ap (λ (o : Option Held). option_or o (held_of d.client.held (file_of op))) (return_gives op r.args a return) in
        record {
          call = (
            is,
            (
              nothing_out,
              record {
                works = answered_works op r a ms [] (return_plain r.args a return) x.works;
                quiet = x.quiet;
                says = return_quiet op r.args a ms return x.works.silent;
                next = inl (ap length (busy_same r a ms (return_plain r.args a return)) ∙ x.count);
                under = same;
              },
            ),
            subst (λ (hs : List Held). grant_under hs op now ≡ held_of d.client.held (file_of op)) held same,
          );
          outcome = none_told;
        }

    -- ---- a LAYOUTGET

    module _ (tries : ℕ) (get : IsGet r.args) (x : Asking before op ms tries) where
      abbrev status : ℕ
      status = status_of a.results

      plain : status ≡ NFS4_OK → IsPlain r a
      plain e = get_busy r.args a get ∙ ap (λ (s : ℕ). busy_status s a.detail) e

      -- the grant of the step, where none is given
      none_given : given_args op r.args a ≡ None → grant_under before op now ≡ None
      none_given e = ap (λ (o : Option Held). option_or o (held_of before (file_of op))) e ∙ x.none

      ends_saying : (o : Outcome) → IsPlain r a → given_args op r.args a ≡ None → failure_args op r.args a ms ≡ Some o
          → failure_of o ≡ Some o → EndsSo (grant_under before op now) op now o
      ends_saying o p none says fails = record {
        cause =
            last_says (grant_under before op now) op now [] (answered_works op r a ms [] p x.works)
            (ap (lost_under op now) (none_given none)) ∙ says ∙ sym fails;
        whole = whole_failed op o fails;
        answer = failed_answers (grant_under before op now) op now o fails;
      }

      given : (t : Result Held Why) → taken a op ≡ t → (status == NFS4_OK) ≡ true → Good (answered_get d op t)
      given (Err w) took ok =
          let e : status ≡ NFS4_OK = eqb-true status NFS4_OK ok in
          over_good before mine now d op (BadLayout w) is nothing_out
          (ends_saying (BadLayout w) (plain e) (get_gives op r.args a get ∙ rw (ok, took) refl)
          (get_fails op r.args a ms get ∙ rw (ok, took) refl) refl)
      given (Ok h) took ok =
          let e : status ≡ NFS4_OK = eqb-true status NFS4_OK ok in
          let c = taken_covers a op h took in
          let there : held_of (put_held d.client.held h) (file_of op) ≡ Some h =
          put_at d.client.held h (file_of op) c.0 in
          let gives : given_args op r.args a ≡ Some h = get_gives op r.args a get ∙ rw (ok, took) refl in
          let under : (hs : List Held) → grant_under hs op now ≡ Some h =
          λ hs. ap (λ (o : Option Held). option_or o (held_of hs (file_of op))) gives in
          record {
            call = (
              is,
              (
                nothing_out,
                record {
                  works = answered_works op r a ms [] (plain e) x.works;
                  quiet = x.quiet;
                  says = get_fails op r.args a ms get ∙ rw (ok, took) refl;
                  next = inr (h, there, c.1);
                  under = under (put_held d.client.held h) ∙ sym there;
                },
              ),
              under before ∙ sym there,
            );
            outcome = none_told;
          }

      asks_again : (o : Outcome) → busy_args r.args a ≡ Some o → (b : Bool) → nat_lt (tries + 1) MAX_TRIES ≡ b
          → failure_of o ≡ Some o → Good (by_turn d op (if b then needing (Get (tries + 1)) else Ends o))
      asks_again o says true less fails = record {
        call = (
          is,
          (
            nothing_out,
            record {
              works = again_works op r a ms o tries x.count (first_tries tries less) x.works;
              quiet = x.quiet;
              count = again_count r a ms o tries says x.count;
              less = first_tries tries less;
              none = subst (λ (hs : List Held). held_of hs (file_of op) ≡ None) (sym held) x.none;
            },
          ),
          tt,
        );
        outcome = none_told;
      }
      asks_again o says false less fails =
          over_good before mine now d op o is nothing_out (record {
            cause =
                ap (λ (u : Option Outcome). option_or (option_or u (option_or (first_refusal now)
                (option_or (first_beyond op now) (lost_under op now (grant_under before op now))))) (failure_at op now))
                (again_ends op r a ms o tries says x.count (last_try tries x.less less) x.works) ∙ sym fails;
            whole = whole_failed op o fails;
            answer = failed_answers (grant_under before op now) op now o fails;
          })

      not_given_good : (status == NFS4_OK) ≡ false → NotGiven status a.detail tries
          → Good (by_turn d op (refused_with status a.detail tries))
      unfolding busy
      not_given_good bad (Says o turn plain_ says fails) =
          subst (λ (t : Turn). Good (by_turn d op t)) (sym turn)
          (over_good before mine now d op o is nothing_out
          (ends_saying o (get_busy r.args a get ∙ plain_) (get_gives op r.args a get ∙ rw bad refl)
          (get_fails op r.args a ms get ∙ rw bad says) fails))
      not_given_good bad (Again o turn says fails) =
          subst (λ (t : Turn). Good (by_turn d op t)) (sym turn)
          (asks_again o (get_busy r.args a get ∙ says) (nat_lt (tries + 1) MAX_TRIES) refl fails)

      pub on_get_good : Good (on_get d op tries a)
      unfolding not_granted
      on_get_good =
          either_done before mine now (status == NFS4_OK) _ _ (λ ok. given (taken a op) refl ok)
          (λ bad. not_given_good bad (not_given status a.detail tries))

    -- ---- a LAYOUTCOMMIT

    module _ (timed : List TimedOut) (commit : IsCommit r.args) (h : Held) (there : held_of before (file_of op) ≡ Some h)
        (x : WritesOn op ms timed) where
      commit_plain : IsPlain r a
      commit_plain = by_args r.args commit
        where
          by_args : (y : Args) → IsCommit y → busy_args y a ≡ None
          by_args (args.LayoutGet y) is = absurd is
          by_args (args.LayoutCommit y) is = refl
          by_args (args.LayoutReturn y) is = absurd is

      commit_gives : given_args op r.args a ≡ None
      commit_gives = by_args r.args commit
        where
          by_args : (y : Args) → IsCommit y → given_args op y a ≡ None
          by_args (args.LayoutGet y) is = absurd is
          by_args (args.LayoutCommit y) is = refl
          by_args (args.LayoutReturn y) is = absurd is

      commit_fails : failure_args op r.args a ms
          ≡ (if status_of a.results == NFS4_OK then None else Some (Status (status_of a.results) a.detail))
      commit_fails = by_args r.args commit
        where
          by_args : (y : Args) → IsCommit y → failure_args op y a ms
              ≡ (if status_of a.results == NFS4_OK then None else Some (Status (status_of a.results) a.detail))
          by_args (args.LayoutGet y) is = absurd is
          by_args (args.LayoutCommit y) is = refl
          by_args (args.LayoutReturn y) is = absurd is

      goes_on : WritesOn op now timed
      goes_on = record { writes = x.writes; works = answered_works op r a ms timed commit_plain x.works }

      under : grant_under before op now ≡ Some h
      under = ap (λ (o : Option Held). option_or o (held_of before (file_of op))) commit_gives ∙ there

      status_ends : (status_of a.results == NFS4_OK) ≡ false
          → EndsSo (Some h) op now (Status (status_of a.results) a.detail)
      status_ends bad = record {
        cause =
            last_says (Some h) op now timed goes_on.works (lost_write (Some h) op now x.writes)
            ∙ commit_fails ∙ rw bad refl;
        whole = tt;
        answer = tt;
      }

      commit_moved : GoodMoved h op (on_commit h op a timed) now
      unfolding on_commit not_committed GoodTurn
      commit_moved = by_status (status_of a.results == NFS4_OK) refl
        where
          by_status : (b : Bool) → (status_of a.results == NFS4_OK) ≡ b
              → GoodMoved h op (if b then committed h op a timed
              else turned h (not_committed (status_of a.results) a.detail)) now
          by_status true ok = record {
            file = refl;
            turn = accounted_good h _ op timed now goes_on (commit_fails ∙ rw ok refl);
          }
          by_status false bad =
              turned_good h op _ now
              (either_turn h h op now (status_of a.results == NFS4ERR_BADLAYOUT) _ _ (λ is. status_ends bad)
              (λ is. status_ends bad))

      pub on_commit_good : Good (commit_under d op a (Commit timed) (held_of d.client.held (file_of op)))
      on_commit_good =
          let here : held_of d.client.held (file_of op) ≡ Some h =
          ap (λ (hs : List Held). held_of hs (file_of op)) held ∙ there in
          subst (λ (o : Option Held). Good (commit_under d op a (Commit timed) o)) (sym here)
          (moved_good before mine now d op h (on_commit h op a timed) is under here nothing_out commit_moved none_told)

    -- ---- a LAYOUTRETURN

    reported_good : (t : TimedOut) (ts : List TimedOut) → IsReturn r.args → WritesOn op ms (t ∷ ts)
        → Good (over d (on_report op a (t ∷ ts)))
    unfolding on_report
    reported_good t ts return x = by_answer (is_loss_taken a) refl
      where
        by_answer : (b : Bool) → is_loss_taken a ≡ b
            → Good (over d (if b then WriteOk (span_of op).length else Silent t.ask.component))
        by_answer b e =
            let w : WritesOn op now (t ∷ ts) = record {
              writes = x.writes;
              works = answered_works op r a ms (t ∷ ts) (return_plain r.args a return) x.works;
            } in
            let says : failure_at op now ≡ (if b then None else Some (Silent t.ask.component)) =
            return_fails op r.args a ms return ∙ rw (e, x.works.silent) refl in
            over_good before mine now d op _ is nothing_out (ended b says w)
          where
            ended : (b : Bool) → failure_at op now ≡ (if b then None else Some (Silent t.ask.component))
                → WritesOn op now (t ∷ ts)
                → EndsSo (grant_under before op now) op now (if b then WriteOk (span_of op).length else Silent t.ask.component)
            ended true says w = write_ends (grant_under before op now) op now (t ∷ ts) w says
            ended false says w = record {
              cause =
                  last_says (grant_under before op now) op now (t ∷ ts) w.works
                  (lost_write (grant_under before op now) op now w.writes) ∙ says;
              whole = tt;
              answer = tt;
            }

    closed_good : (o : Outcome) → IsReturn r.args → Decided op ms o → Good (over d o)
    closed_good o return x =
        over_good before mine now d op o is nothing_out
        (decided_ends (grant_under before op now) op now o (answered_decided op r a ms o (return_plain r.args a return) x))

    -- ---- any

    pub on_need_good : (n : Need) → IsFor n r.args → WaitsGood before op n ms → Good (on_need d op n a)
    on_need_good First for x = starts_again for x
    on_need_good (Get tries) for x = on_get_good tries for x
    on_need_good (Commit timed) for x = on_commit_good timed for x.0.0 x.0.1 x.1
    on_need_good (Report []) for x = absurd x
    on_need_good (Report (t ∷ ts)) for x = reported_good t ts for x
    on_need_good (Close o report) for x = closed_good o for x
