-- An answer that takes a loss has one form, and goes to a client that a line can name.
use Rattle.std.proofs.Common.{◌≡◌, ◌≤◌, ◌==◌, ℕ, ◌∷◌, [], List, Bool, true, false, ◌&&◌, nat_le, Option, Some, None, refl, arith, if◌then◌else◌}
use Rattle.std.proofs.lemmas.Bool.Decides.{nat_tests}
use Rattle.layout_ops.specs.declared.messages.Answer.{Answer}
use Rattle.layout_ops.specs.declared.results.Results.{Results}
use Rattle.layout_ops.specs.declared.results.Results.TheVariants as results
use Rattle.layout_ops.specs.declared.results.LayoutReturnResult.TheVariants as return
use Rattle.layout_ops.specs.declared.statuses.TheConstants.{NFS4_OK, NFS4ERR_SEQ_MISORDERED}
use Rattle.client_rules.specs.declared.limits.TheConstants.{LOSS_TAKEN}
use Rattle.client_rules.specs.Results.{status_of}
use Rattle.client_rules.specs.Answers.{is_loss_taken}
use Rattle.server_rules.specs.declared.limits.TheConstants.{MAX_CLIENT, GREATEST_TAG}
use Rattle.world_history.specs.ServerNames.{Server, Slot, Kept, Drive, Grant, Job, ClientRequest, RequestArgs, Get, Commit, Return, IoErr, Outgoing}
use Rattle.server_rules.specs.Served.{Served}
use Rattle.server_rules.specs.Answers.{result_of, result_with}
use Rattle.server_rules.specs.Files.{Step, at_file}
use Rattle.server_rules.specs.Going.{Going}
use Rattle.server_rules.specs.Get.{Early, BadMode, Invalid, Unable, Waits, On, Late, NoNumber, Lacks, Conflict, Gives, by_late, late, give_or_refuse, after_fence, fence_first, on_grants, must_fence, by_early, gets}
use Rattle.server_rules.specs.Commit.{Committed, NoGrant, Wrong, Sizes, by_commit, commits}
use Rattle.server_rules.specs.Return.{Returned, NoGrant as NotHeld, Clean, Taken, TooMany, Fencing, by_return, returns_on}
use Rattle.server_rules.specs.Requests.{serves, no_file}
use Rattle.server_rules.specs.History.{Input, Act, step, state_after}
use Rattle.history_law.specs.Answers.{AnswersOnly, SlotsKeep, StepAnswers, RequestAnswers}
use Rattle.history_law.proofs.Answers.{step_answers}

-- ---- one form

-- a return that isn't refused
abbrev pub returned : Results
returned = results.LayoutReturn (return.Returned None)

-- results with that detail take a loss
abbrev is_taken : Results → (detail : ℕ) → Bool
is_taken r detail = (status_of r == NFS4_OK) && (detail == LOSS_TAKEN)

abbrev IsSo : Results → (detail : ℕ) → Type 0
IsSo r detail = is_taken r detail ≡ true → r ≡ returned

pub record IsPlain (a : Answer) : Type 0 where
  pub named : nat_le a.client MAX_CLIENT ≡ true
  pub results : is_loss_taken a ≡ true → a.results ≡ returned

-- ---- what is told at a file

abbrev ToldSo : RequestArgs → Served → Type 0
ToldSo a v = (ds : List Drive) (f : Kept) → IsSo (result_with ds f a v.told.status v.told.grant) v.told.detail

either_served : (a : RequestArgs) (b : Bool) (x y : Served) → ToldSo a x → ToldSo a y → ToldSo a (if b then x else y)
either_served a true x y p q = p
either_served a false x y p q = q

module _ (iomode offset count : ℕ) where
  abbrev asked : RequestArgs
  asked = Get iomode offset count

  late_so : (go : Going) (g : Grant) (l : Late) → ToldSo asked (by_late go g l)
  late_so go g NoNumber ds f e = absurd (cc e)
  late_so go g (Lacks k) ds f e = absurd (cc e)
  late_so go g (Conflict holder) ds f e = absurd (cc e)
  late_so go g Gives ds f e = absurd (cc e)

  give_so : (go : Going) (next : ℕ) (g : Grant) → ToldSo asked (give_or_refuse go next g)
  unfolding give_or_refuse
  give_so go next g = late_so go g (late go.file.kept next g)

  after_so : (go : Going) (next : ℕ) (g : Grant) (j : Option Job) → ToldSo asked (after_fence go next g j)
  after_so go next g None ds f e = give_so go next g ds f e
  after_so go next g (Some j) ds f e = absurd (cc e)

  fence_so : (go : Going) (next format : ℕ) (g : Grant) → ToldSo asked (fence_first go next format g)
  unfolding fence_first
  fence_so go next format g =
      either_served asked (go.file.kept.tag == GREATEST_TAG) _ _ (λ ds f e. absurd (cc e)) (after_so _ next g _)

  grants_so : (go : Going) (next format now : ℕ) (g : Grant) → ToldSo asked (on_grants go next format now g)
  unfolding on_grants
  grants_so go next format now g =
      either_served asked (must_fence now go.file.kept.grants g) _ _ (fence_so go next format g) (give_so go next g)

  early_so : (go : Going) (next format now : ℕ) (g : Grant) (e : Early) → ToldSo asked (by_early go next format now g e)
  early_so go next format now g BadMode ds f e = absurd (cc e)
  early_so go next format now g Invalid ds f e = absurd (cc e)
  early_so go next format now g Unable ds f e = absurd (cc e)
  early_so go next format now g (Waits k) ds f e = absurd (cc e)
  early_so go next format now g On ds f e = grants_so go next format now g ds f e

commit_so : (last : Option ℕ) (go : Going) (c : Committed) → ToldSo (Commit last) (by_commit go c)
commit_so last go NoGrant ds f e = absurd (cc e)
commit_so last go Wrong ds f e = absurd (cc e)
commit_so last go (Sizes size) ds f e = absurd (cc e)

module _ (report : List IoErr) where
  return_so : (go : Going) (format client : ℕ) (r : Returned) → ToldSo (Return report) (by_return go format client r)
  return_so go format client NotHeld ds f e = absurd (cc e)
  return_so go format client Clean ds f e = absurd (cc e)
  return_so go format client (Taken ks) ds f e = refl
  return_so go format client TooMany ds f e = absurd (cc e)
  return_so go format client Fencing ds f e = absurd (cc e)

served_so : (go : Going) (next format now client : ℕ) (a : RequestArgs) → ToldSo a (serves go next format now client a)
unfolding gets commits returns_on
served_so go next format now client (Get iomode offset count) = early_so iomode offset count go next format now _ _
served_so go next format now client (Commit last) = commit_so last go _
served_so go next format now client (Return report) = return_so report go format client _

-- ---- answers

no_file_so : (a : RequestArgs) → IsSo (result_of a (no_file a)) 0
no_file_so (Get iomode offset count) e = absurd (cc e)
no_file_so (Commit last) e = absurd (cc e)
no_file_so (Return report) e = absurd (cc e)

misordered_so : (a : RequestArgs) (expected : ℕ) → IsSo (result_of a NFS4ERR_SEQ_MISORDERED) expected
misordered_so (Get iomode offset count) expected e = absurd (cc e)
misordered_so (Commit last) expected e = absurd (cc e)
misordered_so (Return report) expected e = absurd (cc e)

-- ---- what is kept and sent

abbrev pub SlotsPlain : List Slot → Type 0
SlotsPlain ss = SlotsKeep IsPlain ss

abbrev pub SendsPlain : List Outgoing → Type 0
SendsPlain os = AnswersOnly IsPlain os

abbrev pub StepPlain : Step → Type 0
StepPlain t = StepAnswers IsPlain t

named_too : (c : ℕ) → c ≤ MAX_CLIENT → nat_le c MAX_CLIENT ≡ true
named_too c l = grind (arith, l, nat_tests)

plain_answers : (s : Server) (now : ℕ) (chosen : List ℕ) (q : ClientRequest) → nat_le q.client MAX_CLIENT ≡ true
    → RequestAnswers IsPlain s now chosen q
plain_answers s now chosen q named = record {
  misordered = λ expected. record { named = named; results = misordered_so q.args expected };
  without = record { named = named; results = no_file_so q.args };
  served = λ f found.
      let v : Served = serves (at_file s chosen f) s.next_grant s.format now q.client q.args in
      record {
        named = named;
        results = served_so (at_file s chosen f) s.next_grant s.format now q.client q.args s.drives v.going.file.kept;
      };
}

pub step_plain : (s : Server) (chosen : List ℕ) (i : Input) → SlotsPlain s.slots → StepPlain (step s chosen i)
step_plain s chosen i h =
    step_answers IsPlain s chosen i h (λ now q is. plain_answers s now chosen q (named_too q.client is.named))

pub runs_plain : (s : Server) (acts : List Act) → SlotsPlain s.slots → SlotsPlain (state_after s acts).slots
runs_plain s [] h = h
runs_plain s (a ∷ acts) h =
    runs_plain (step s a.chosen a.input).state acts (step_plain s a.chosen a.input h).slots
