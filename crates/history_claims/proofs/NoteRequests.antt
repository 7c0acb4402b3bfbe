-- What a request notes of its file has its cause.
use Rattle.std.proofs.Common.{◌≡◌, ◌≢◌, ◌==◌, ◌||◌, ◌<◌, ℕ, suc, ◌+◌, Bool, true, false, not, nat_lt, List, [], ◌∷◌, slice_get, Option, Some, None, refl, sym, ap, subst, ◌∙◌, arith, inl, inr, if◌then◌else◌}
use Rattle.std.proofs.lemmas.Bool.{cases_Bool, eqb-true, false≢true}
use Rattle.std.proofs.lemmas.Bool.Decides.{nat_tests}
use Rattle.data_map.specs.declared.ranges.TheConstants.{MAX_FILE_SIZE}
use Rattle.layout_ops.specs.declared.statuses.TheConstants.{LAYOUTIOMODE4_READ, LAYOUTIOMODE4_RW}
use Rattle.layout_ops.specs.declared.results.Results.{Results}
use Rattle.server_rules.specs.declared.limits.TheConstants.{GREATEST_TAG, LOSS_TAKEN, NO_COMPONENT}
use Rattle.server_rules.specs.Commit.{Committed, Wrong, Sizes, NoGrant as NoCommit, by_commit, commits, commit_row}
use Rattle.server_rules.specs.Files.{at_file}
use Rattle.server_rules.specs.Get as rows
use Rattle.server_rules.specs.Get.{Early, by_job, early, must_fence, Late, by_late, late, give_or_refuse, after_fence, fence_then, fence_first, on_grants, by_early, gets}
use Rattle.server_rules.specs.Going.{Going, keeping, noting, noting_if}
use Rattle.server_rules.specs.Grants.{grant_of, asked}
use Rattle.server_rules.specs.History.{Input}
use Rattle.server_rules.specs.Jobs.{fence_begins}
use Rattle.server_rules.specs.Laws.{In, ConflictsAreExact, Apart}
use Rattle.server_rules.specs.Messages.{awaited_by}
use Rattle.server_rules.specs.Numbers.{among}
use Rattle.server_rules.specs.Requests.{serves}
use Rattle.server_rules.specs.Return as returning
use Rattle.server_rules.specs.Return.{named, none_beyond, is_sole, bearable, loss, by_loss, by_grant, return_row, reports_from, takes_loss, by_return, returns_on}
use Rattle.server_rules.specs.Served.{Served}
use Rattle.server_rules.specs.Standing.{lose_from}
use Rattle.world_history.specs.ServerNames.{Server, File, Kept, Component, Job, Grant, Revoking, Spent, Reported, ClientRequest, RequestArgs, Get, Commit, Return, IoErr}
use Rattle.cause_law.specs.Answers.{asking, IsNew}
use Rattle.cause_law.specs.Changes.{IsAskedOf}
use Rattle.cause_law.specs.Commits.{HasGrant}
use Rattle.cause_law.specs.Gets.{IsLowest, NeedsFence, Asking, Row, BadMode, BadRange, LeftOpen, Waits, TagSpent, place, Applies, IsFirst}
use Rattle.cause_law.specs.Returns as return_rows
use Rattle.cause_law.specs.Returns.{LosesSome, Returns}
use Rattle.cause_law.proofs.Returning.{return_comes}
use Rattle.cause_law.proofs.Words.{needs}
use Rattle.history_claims.specs.Notes.{ByGet, ByReturn, IsReported}
use Rattle.history_claims.proofs.NoteWalk.{New, none_new, then_new, one_new, Own, adds_fence}
use Rattle.history_claims.proofs.NoteCauses.{Caused, Says, says_spent}

-- ---- the row for a spent tag

-- no row before it applies to a file on which no job runs, if mode and range are in order and its opening left nothing
spent_first : (x : Asking) → ((x.iomode == LAYOUTIOMODE4_READ) || (x.iomode == LAYOUTIOMODE4_RW)) ≡ true
    → ((x.count == 0) || nat_lt MAX_FILE_SIZE (x.offset + x.count)) ≡ false → x.before.spent ≡ false → x.before.job ≡ None
    → NeedsFence x.now x.before.kept.grants x.wanted → x.before.kept.tag ≡ GREATEST_TAG → IsFirst x TagSpent
spent_first x mode range open_ job needs_it tag = record { applies = (needs_it, tag); none = none }
  where
    none : (r : Row) → place r < 4 → Applies x r → ⊥
    none BadMode l y = absurd (grind (arith, nat_tests, mode, y))
    none BadRange l y = absurd (grind (arith, nat_tests, range, y))
    none LeftOpen l y = false≢true (sym open_ ∙ y)
    none (Waits k) l y = (subst (λ (o : Option Job). IsLowest (awaited_by o) k) job y).there
    none r l y = absurd (omega (arith, l))

-- the early rows don't apply
pub record NoneEarly (f : File) (iomode offset count : ℕ) : Type 0 where
  pub mode : ((iomode == LAYOUTIOMODE4_READ) || (iomode == LAYOUTIOMODE4_RW)) ≡ true
  pub range : ((count == 0) || nat_lt MAX_FILE_SIZE (offset + count)) ≡ false
  pub open_ : f.spent ≡ false
  pub job : f.job ≡ None

on_early : (f : File) (iomode offset count : ℕ) → early f iomode offset count ≡ rows.On → NoneEarly f iomode offset count
unfolding early
on_early f iomode offset count =
    by ((iomode == LAYOUTIOMODE4_READ) || (iomode == LAYOUTIOMODE4_RW)) refl
    ((count == 0) || nat_lt MAX_FILE_SIZE (offset + count)) refl f.spent refl f.job refl
  where
    by : (b : Bool) → ((iomode == LAYOUTIOMODE4_READ) || (iomode == LAYOUTIOMODE4_RW)) ≡ b → (c : Bool)
        → ((count == 0) || nat_lt MAX_FILE_SIZE (offset + count)) ≡ c → (d : Bool) → f.spent ≡ d → (o : Option Job)
        → f.job ≡ o
        → (if not b then rows.BadMode else if c then rows.Invalid else if d then rows.Unable else by_job o) ≡ rows.On
        → NoneEarly f iomode offset count
    by true m false r false s None j e = record { mode = m; range = r; open_ = s; job = j }
    by true m false r false s (Some x) j e = absurd (cc e)
    by true m false r true s o j e = absurd (cc e)
    by true m true r d s o j e = absurd (cc e)
    by false m c r d s o j e = absurd (cc e)

-- ---- the components that a report names

named_by_loss : (f : Kept) (g : Grant) (report : List IoErr) (ks : List ℕ) → loss f g report ≡ Some ks
    → named report f.components ≡ Some ks
unfolding loss
named_by_loss f g report ks = of_sole (is_sole f g)
  where
    of_named : (o : Option (List ℕ)) → bearable f o ≡ Some ks → o ≡ Some ks
    of_named None e = absurd (cc e)
    of_named (Some js) e = of_test (none_beyond f.map (lose_from js f.components 0) js) e
      where
        of_test : (b : Bool) → (if b then Some js else None) ≡ Some ks → Some js ≡ Some ks
        of_test true e = e
        of_test false e = absurd (cc e)

    of_sole : (b : Bool) → (if b then bearable f (named report f.components) else None) ≡ Some ks
        → named report f.components ≡ Some ks
    of_sole true e = of_named (named report f.components) e
    of_sole false e = absurd (cc e)

named_by_row : (f : Kept) (client : ℕ) (report : List IoErr) (ks : List ℕ)
    → return_row f client report ≡ returning.Taken ks → named report f.components ≡ Some ks
unfolding return_row
named_by_row f client report ks = of_grant (grant_of f.grants client) report
  where
    of_loss : (report : List IoErr) (g : Grant) (o : Option (List ℕ)) → loss f g report ≡ o
        → by_loss f o ≡ returning.Taken ks → named report f.components ≡ Some ks
    of_loss report g (Some js) l e =
        let same : js ≡ ks = cc e in
        named_by_loss f g report js l ∙ ap (λ (xs : List ℕ). Some xs) same
    of_loss report g None l e = of_tag (f.tag == GREATEST_TAG) e
      where
        of_tag : (b : Bool) → (if b then returning.TooMany else returning.Fencing) ≡ returning.Taken ks
            → named report f.components ≡ Some ks
        of_tag true e = absurd (cc e)
        of_tag false e = absurd (cc e)

    of_grant : (o : Option Grant) (report : List IoErr) → by_grant f report o ≡ returning.Taken ks
        → named report f.components ≡ Some ks
    of_grant None report e = absurd (cc e)
    of_grant (Some g) [] e = absurd (cc e)
    of_grant (Some g) (x ∷ xs) e = of_loss (x ∷ xs) g (loss f g (x ∷ xs)) refl e

-- by what is answered
took_loss : (before behind : Kept) (client : ℕ) (report : List IoErr) (detail : ℕ) (r : Results)
    → Returns before behind client report detail r → detail ≡ LOSS_TAKEN → (report ≢ []) × LosesSome before client report
took_loss f g c _ _ _ (return_rows.NoGrant report none same) e = absurd (cc e)
took_loss f g c _ _ _ (return_rows.Clean has same) e = absurd (cc e)
took_loss f g c _ _ _ (return_rows.Taken report some l same) e = (some, l)
took_loss f g c _ _ _ (return_rows.TagSpent report some has none tag same) e = absurd (cc e)
took_loss f g c _ _ _ (return_rows.Fences report some has none tag grants size) e = absurd (cc e)

took_none : (before behind : Kept) (client : ℕ) (report : List IoErr) (detail : ℕ) (r : Results)
    → Returns before behind client report detail r → detail ≡ NO_COMPONENT
    → (report ≢ []) × HasGrant before client × (LosesSome before client report → ⊥) × (before.tag ≡ GREATEST_TAG)
took_none f g c _ _ _ (return_rows.NoGrant report none same) e = absurd (cc e)
took_none f g c _ _ _ (return_rows.Clean has same) e = absurd (cc e)
took_none f g c _ _ _ (return_rows.Taken report some l same) e = absurd (cc e)
took_none f g c _ _ _ (return_rows.TagSpent report some has none tag same) e = (some, has, none, tag)
took_none f g c _ _ _ (return_rows.Fences report some has none tag grants size) e = absurd (cc e)

-- one of a set
in_among : (k : ℕ) (ks : List ℕ) → among k ks ≡ true → In k ks
unfolding among
in_among k [] e = absurd (cc e)
in_among k (j ∷ ks) e = elim (cases_Bool (k == j)) [
  | inl t ↦ inl (eqb-true k j t)
  | inr z ↦ inr (in_among k ks (rw z at e))
]

-- ---- a request

module _ (exact : ConflictsAreExact) (s : Server) (i : Input) (f z : File) (chosen : List ℕ) (now : ℕ) (q : ClientRequest)
    (new : IsNew s i now q) (on : q.file ≡ f.kept.number) (apart : Apart f.kept.grants) where
  abbrev go : Going
  go = at_file s chosen f

  abbrev Tells : Going → Type 0
  Tells h = Says s s.drives i f z go h

  abbrev its : IsAskedOf s i f.kept.number
  its = record { now = now; request = q; new = new; on = on }

  -- a fence notes nothing that is of a rebuild or an audit
  fence_tells : (format : ℕ) → Tells (fence_begins Revoking format go)
  fence_tells format =
      adds_fence f.kept.number s.drives (fence_begins Revoking format go).file (Caused s s.drives i f z) ⊥ ⊥ (record {
        fenced = λ tag. tt;
        repaired = λ stripes short. tt;
        rebuilt = λ k d. tt;
        passed = λ r k at there missing none. absurd r;
        lost = λ r t p nonce none. absurd r;
        audits = λ a none found x job. absurd a;
      }) Revoking (λ e. absurd (cc e)) (λ e. absurd (cc e)) format go refl refl refl

  -- ---- LAYOUTGET

  module _ (iomode offset count : ℕ) (args : q.args ≡ Get iomode offset count) where
    abbrev wanted : Grant
    wanted = asked f.kept s.next_grant q.client now offset count (iomode == LAYOUTIOMODE4_RW)

    given_tells : (h : Going) (g : Grant) → Tells h → Tells (give_or_refuse h s.next_grant g).going
    unfolding give_or_refuse
    given_tells h g t = by (late h.file.kept s.next_grant g)
      where
        by : (l : Late) → Tells (by_late h g l).going
        by rows.NoNumber = t
        by (rows.Lacks k) = t
        by (rows.Conflict c) = t
        by rows.Gives = t

    after_tells : (h : Going) (g : Grant) (o : Option Job) → Tells h → Tells (after_fence h s.next_grant g o).going
    after_tells h g None t = given_tells h g t
    after_tells h g (Some j) t = t

    spent_tells : NoneEarly f iomode offset count → must_fence now f.kept.grants wanted ≡ true → (b : Bool)
        → (f.kept.tag == GREATEST_TAG) ≡ b
        → (if b then noting go Spent else (fence_then (fence_begins Revoking s.format go) s.next_grant wanted).going).file ≡ z
        → Tells (if b then noting go Spent else (fence_then (fence_begins Revoking s.format go) s.next_grant wanted).going)
    spent_tells none must true e file =
        let tag : f.kept.tag ≡ GREATEST_TAG = eqb-true f.kept.tag GREATEST_TAG e in
        says_spent s s.drives i f z go refl file tag (ByGet its iomode offset count args
        (spent_first (asking f z s.next_grant now q.client iomode offset count) none.mode none.range none.open_ none.job
        (needs exact now f.kept.grants wanted must) tag))
    spent_tells none must false e file =
        after_tells (fence_begins Revoking s.format go) wanted (fence_begins Revoking s.format go).file.job
        (fence_tells s.format)

    grants_tell : NoneEarly f iomode offset count → (on_grants go s.next_grant s.format now wanted).going.file ≡ z
        → Tells (on_grants go s.next_grant s.format now wanted).going
    unfolding on_grants fence_first
    grants_tell none file = by (must_fence now f.kept.grants wanted) refl file
      where
        spent_by : must_fence now f.kept.grants wanted ≡ true → (b : Bool) → (f.kept.tag == GREATEST_TAG) ≡ b → (v w : Served)
            → v.going ≡ noting go Spent
            → w ≡ fence_then (fence_begins Revoking s.format go) s.next_grant wanted → (if b then v else w).going.file ≡ z
            → Tells (if b then v else w).going
        spent_by must true e v w is same file =
            subst Tells (sym is) (spent_tells none must true e (ap (λ (g : Going). g.file) (sym is) ∙ file))
        spent_by must false e v w is same file =
            subst (λ (x : Served). Tells x.going) (sym same)
            (spent_tells none must false e (ap (λ (x : Served). x.going.file) (sym same) ∙ file))

        by : (b : Bool) → must_fence now f.kept.grants wanted ≡ b
            → (if b then fence_first go s.next_grant s.format wanted else give_or_refuse go s.next_grant wanted).going.file ≡ z
            → Tells (if b then fence_first go s.next_grant s.format wanted else give_or_refuse go s.next_grant wanted).going
        by true e done = spent_by e (f.kept.tag == GREATEST_TAG) refl _ _ refl refl done
        by false e done = given_tells go wanted (none_new (Own f.kept.number (Caused s s.drives i f z)) go.effects.notes)

    gets_tell : (gets go s.next_grant s.format now q.client iomode offset count).going.file ≡ z
        → Tells (gets go s.next_grant s.format now q.client iomode offset count).going
    unfolding gets
    gets_tell file = by (early f iomode offset count) refl file
      where
        none : Tells go
        none = none_new (Own f.kept.number (Caused s s.drives i f z)) go.effects.notes

        by : (e : Early) → early f iomode offset count ≡ e
            → (by_early go s.next_grant s.format now wanted e).going.file ≡ z
            → Tells (by_early go s.next_grant s.format now wanted e).going
        by rows.BadMode is done = none
        by rows.Invalid is done = none
        by rows.Unable is done = none
        by (rows.Waits k) is done = none
        by rows.On is done = grants_tell (on_early f iomode offset count is) done

  -- ---- LAYOUTCOMMIT and LAYOUTRETURN

  commits_tell : (last : Option ℕ) → Tells (commits go q.client last).going
  unfolding commits
  commits_tell last = by (commit_row f.kept q.client last)
    where
      by : (c : Committed) → Tells (by_commit go c).going
      by NoCommit = none_new (Own f.kept.number (Caused s s.drives i f z)) go.effects.notes
      by Wrong = none_new (Own f.kept.number (Caused s s.drives i f z)) go.effects.notes
      by (Sizes size) = none_new (Own f.kept.number (Caused s s.drives i f z)) go.effects.notes

  module _ (report : List IoErr) (args : q.args ≡ Return report) where
    -- notes that are told of these components
    reports_tell : (h : Going) (ks : List ℕ) (cs : List Component) (k : ℕ) → h.file.kept.number ≡ f.kept.number
        → ((j : ℕ) (at : Component) → slice_get cs j ≡ Some at → among (k + j) ks ≡ true → IsReported s i f (k + j))
        → New (Own f.kept.number (Caused s s.drives i f z)) h.effects.notes (reports_from h ks cs k).effects.notes
    unfolding reports_from
    reports_tell h ks [] k own named_so = none_new (Own f.kept.number (Caused s s.drives i f z)) h.effects.notes
    reports_tell h ks (at ∷ cs) k own named_so =
        then_new (Own f.kept.number (Caused s s.drives i f z)) h.effects.notes
        (noting_if (among k ks) h (Reported k)).effects.notes (reports_from h ks (at ∷ cs) k).effects.notes
        (first (among k ks) refl)
        (reports_tell (noting_if (among k ks) h (Reported k)) ks cs (k + 1) own (λ j x there told.
        subst (IsReported s i f) (omega arith) (named_so (suc j) x there (ap (λ (n : ℕ). among n ks) (omega arith) ∙ told))))
      where
        first : (b : Bool) → among k ks ≡ b
            → New (Own f.kept.number (Caused s s.drives i f z)) h.effects.notes (noting_if b h (Reported k)).effects.notes
        first false e = none_new (Own f.kept.number (Caused s s.drives i f z)) h.effects.notes
        first true e =
            one_new (Own f.kept.number (Caused s s.drives i f z)) h.effects.notes
            (record { file = h.file.kept.number; kind = Reported k }) (
              own,
              subst (IsReported s i f) (omega arith) (named_so 0 at refl (ap (λ (n : ℕ). among n ks) (omega arith) ∙ e)),
            )

    taken_tells : (ks : List ℕ) → return_row f.kept q.client report ≡ returning.Taken ks
        → Tells (by_return go s.format q.client (returning.Taken ks)).going
    unfolding takes_loss returns_on
    taken_tells ks is =
        reports_tell (keeping go (record f.kept { components = lose_from ks f.kept.components 0 })) ks f.kept.components 0 refl
        (λ j at there told. record {
          asked = its;
          report = report;
          args = args;
          some = took.0;
          loss = took.1;
          named = subst (In (0 + j)) named_are (in_among (0 + j) ks told);
          at = at;
          found = ap (slice_get f.kept.components) (omega arith) ∙ there;
        })
      where
        took : (report ≢ []) × LosesSome f.kept q.client report
        took =
            took_loss _ _ _ _ _ _ (return_comes s.drives go q.client apart s.format report)
            (ap (λ (r : returning.Returned). (by_return go s.format q.client r).told.detail) is)

        same_list : (xs ys : List ℕ) → Some xs ≡ Some ys → xs ≡ ys
        same_list xs ys e = cc e

        named_are : ks ≡ took.1.components
        named_are =
            same_list ks took.1.components
            (sym (named_by_row f.kept q.client report ks is) ∙ took.1.loss.names)

    returns_tell : (returns_on go s.format q.client report).going.file ≡ z
        → Tells (returns_on go s.format q.client report).going
    unfolding returns_on
    returns_tell file = by (return_row f.kept q.client report) refl file
      where
        none : Tells go
        none = none_new (Own f.kept.number (Caused s s.drives i f z)) go.effects.notes

        by : (r : returning.Returned) → return_row f.kept q.client report ≡ r
            → (by_return go s.format q.client r).going.file ≡ z → Tells (by_return go s.format q.client r).going
        by returning.NoGrant is done = none
        by returning.Clean is done = none
        by (returning.Taken ks) is done = taken_tells ks is
        by returning.Fencing is done = fence_tells s.format
        by returning.TooMany is done =
            let t =
            took_none _ _ _ _ _ _ (return_comes s.drives go q.client apart s.format report)
            (ap (λ (r : returning.Returned). (by_return go s.format q.client r).told.detail) is) in
            says_spent s s.drives i f z go refl done t.3 (ByReturn its report args t.0 t.1 t.2)

  pub serves_tell : (args : RequestArgs) → q.args ≡ args
      → (serves go s.next_grant s.format now q.client args).going.file ≡ z
      → Tells (serves go s.next_grant s.format now q.client args).going
  serves_tell (Get iomode offset count) args file = gets_tell iomode offset count args file
  serves_tell (Commit last) args file = commits_tell last
  serves_tell (Return report) args file = returns_tell report args file
