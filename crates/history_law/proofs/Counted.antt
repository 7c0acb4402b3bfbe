-- A step of the server gives one grant at most, and then it answers.
use Rattle.std.proofs.Common.{◌≡◌, ◌==◌, ℕ, ◌+◌, ◌≤◌, ◌++◌, ◌∷◌, [], List, Bool, true, false, nat_lt, Option, Some, None, length, map, filter, refl, sym, ap, subst, arith, if◌then◌else◌}
use Rattle.std.proofs.lemmas.Bool.Decides.{nat_tests}
use Rattle.std.proofs.lemmas.List.{append_assoc}
use Rattle.scenario_text.specs.declared.names.TheConstants.{CLIENTS}
use Rattle.server_rules.specs.declared.limits.TheConstants.{MAX_CLIENT, GREATEST_TAG}
use Rattle.server_rules.specs.declared.requests.RequestArgs.{RequestArgs}
use Rattle.server_rules.specs.declared.requests.RequestArgs.TheVariants.{Get, Commit, Return}
use Rattle.server_rules.specs.declared.requests.ClientRequest.{ClientRequest}
use Rattle.server_rules.specs.declared.server.Server.{Server}
use Rattle.server_rules.specs.declared.server.Outgoing.{Outgoing}
use Rattle.server_rules.specs.declared.grants.Grant.{Grant}
use Rattle.server_rules.specs.declared.jobs.Job.{Job}
use Rattle.server_rules.specs.declared.server.Outgoing.TheVariants.{Answers}
use Rattle.server_rules.specs.Answers.{recalls_from}
use Rattle.server_rules.specs.Files.{Step, at_file, to_drives}
use Rattle.server_rules.specs.Going.{Going}
use Rattle.server_rules.specs.Served.{Served}
use Rattle.server_rules.specs.Get.{Early, BadMode, Invalid, Unable, Waits, On, Late, NoNumber, Lacks, Conflict, Gives, by_late, late, give_or_refuse, after_fence, fence_first, on_grants, must_fence, by_early, gets}
use Rattle.server_rules.specs.Commit.{Committed, NoGrant, Wrong, Sizes, by_commit, commits}
use Rattle.server_rules.specs.Return.{Returned, NoGrant as NotHeld, Clean, Taken, TooMany, Fencing, by_return, returns_on}
use Rattle.server_rules.specs.Requests.{serves, answer_with, carried_out, on_request}
use Rattle.server_rules.specs.History.{Input, step}
use Rattle.world_history.specs.Handed.{Post, is_addressed, server_post}
use Rattle.history_law.specs.Answers.{ServerDid, Quiet, Asked}
use Rattle.history_law.proofs.Answers.{step_did}
use Rattle.history_law.proofs.Steps.{each_request}

-- ---- one grant at most

abbrev AtMostOne : Served → Type 0
AtMostOne v = v.numbers ≤ 1

either_served : (b : Bool) (x y : Served) → AtMostOne x → AtMostOne y → AtMostOne (if b then x else y)
either_served true x y p q = p
either_served false x y p q = q

late_one : (go : Going) (g : Grant) (l : Late) → AtMostOne (by_late go g l)
late_one go g NoNumber = omega arith
late_one go g (Lacks k) = omega arith
late_one go g (Conflict holder) = omega arith
late_one go g Gives = omega arith

give_one : (go : Going) (next : ℕ) (g : Grant) → AtMostOne (give_or_refuse go next g)
unfolding give_or_refuse
give_one go next g = late_one go g (late go.file.kept next g)

after_one : (go : Going) (next : ℕ) (g : Grant) (j : Option Job) → AtMostOne (after_fence go next g j)
after_one go next g None = give_one go next g
after_one go next g (Some j) = omega arith

fence_one : (go : Going) (next format : ℕ) (g : Grant) → AtMostOne (fence_first go next format g)
unfolding fence_first
fence_one go next format g =
    either_served (go.file.kept.tag == GREATEST_TAG) _ _ (omega arith) (after_one _ next g _)

grants_one : (go : Going) (next format now : ℕ) (g : Grant) → AtMostOne (on_grants go next format now g)
unfolding on_grants
grants_one go next format now g =
    either_served (must_fence now go.file.kept.grants g) _ _ (fence_one go next format g) (give_one go next g)

early_one : (go : Going) (next format now : ℕ) (g : Grant) (e : Early) → AtMostOne (by_early go next format now g e)
early_one go next format now g BadMode = omega arith
early_one go next format now g Invalid = omega arith
early_one go next format now g Unable = omega arith
early_one go next format now g (Waits k) = omega arith
early_one go next format now g On = grants_one go next format now g

commit_one : (go : Going) (c : Committed) → AtMostOne (by_commit go c)
commit_one go NoGrant = omega arith
commit_one go Wrong = omega arith
commit_one go (Sizes size) = omega arith

return_one : (go : Going) (format client : ℕ) (r : Returned) → AtMostOne (by_return go format client r)
return_one go format client NotHeld = omega arith
return_one go format client Clean = omega arith
return_one go format client (Taken ks) = omega arith
return_one go format client TooMany = omega arith
return_one go format client Fencing = omega arith

served_one : (go : Going) (next format now client : ℕ) (a : RequestArgs) → AtMostOne (serves go next format now client a)
unfolding gets commits returns_on
served_one go next format now client (Get iomode offset count) = early_one go next format now _ _
served_one go next format now client (Commit last) = commit_one go _
served_one go next format now client (Return report) = return_one go format client _

-- ---- and an answer

-- what is sent of some messages
abbrev pub posts_of : List Outgoing → List Post
posts_of os = filter is_addressed (map server_post os)

kept_length : (b : Bool) (p : Post) (ps : List Post) → length ps ≤ length (if b then p ∷ ps else ps)
kept_length true p ps = omega arith
kept_length false p ps = omega arith

last_counts : (os : List Outgoing) (o : Outgoing) → is_addressed (server_post o) ≡ true → 1 ≤ length (posts_of (os ++ o ∷ []))
last_counts [] o named =
    subst (λ (b : Bool). 1 ≤ length (if b then server_post o ∷ [] else [])) (sym named) (omega arith)
last_counts (x ∷ os) o named =
    longer (length (posts_of (os ++ o ∷ []))) _ (last_counts os o named)
    (kept_length (is_addressed (server_post x)) (server_post x) (posts_of (os ++ o ∷ [])))
  where
    longer : (a b : ℕ) → 1 ≤ a → a ≤ b → 1 ≤ b
    longer a b l m = omega (arith, l, m)

-- no more grants than messages that are sent
pub record Counted (s : Server) (t : Step) : Type 0 where
  pub grants : t.state.next_grant ≤ s.next_grant + length (posts_of t.sends)

none_given : (s : Server) (t : Step) → t.state.next_grant ≡ s.next_grant → Counted s t
none_given s t same = record { grants = omega (arith, same) }

out_counted : (s : Server) (q : ClientRequest) (v : Served) → AtMostOne v → q.client ≤ MAX_CLIENT
    → Counted s (carried_out s q v)
out_counted s q v one named =
    let front = to_drives s.drives v.going.effects.sent in
    let recalled = recalls_from s.next_recall v.recalled in
    let sent : 1 ≤ length (posts_of ((front ++ recalled) ++ Answers (answer_with s q v) ∷ [])) =
    last_counts (front ++ recalled) (Answers (answer_with s q v)) (named_too q.client named) in
    let same : length (posts_of ((front ++ recalled) ++ Answers (answer_with s q v) ∷ []))
    ≡ length (posts_of (front ++ (recalled ++ Answers (answer_with s q v) ∷ []))) =
    ap (λ (os : List Outgoing). length (posts_of os)) (append_assoc front recalled (Answers (answer_with s q v) ∷ [])) in
    record { grants = omega (arith, one, sent, same) }
  where
    named_too : (c : ℕ) → c ≤ MAX_CLIENT → nat_lt c CLIENTS ≡ true
    named_too c is = grind (arith, is, nat_tests)

asked_counted : (s : Server) (now : ℕ) (chosen : List ℕ) (q : ClientRequest) → q.client ≤ MAX_CLIENT
    → Counted s (on_request s now chosen q)
asked_counted s now chosen q named = each_request s now chosen q (Counted s) (record {
  again = λ kept is. none_given s _ refl;
  misordered = λ expected is. none_given s _ refl;
  without = λ new none. none_given s _ refl;
  served = λ new f found.
      out_counted s q (serves (at_file s chosen f) s.next_grant s.format now q.client q.args)
      (served_one (at_file s chosen f) s.next_grant s.format now q.client q.args) named;
})

-- ---- any step

module _ (s : Server) (chosen : List ℕ) (i : Input) where
  by_did : (t : Step) → ServerDid s chosen i t → Counted s t
  by_did t (Quiet q) = none_given s t q.grants
  by_did t (Asked now q is done) = subst (Counted s) (sym done) (asked_counted s now chosen q is.named)

  pub step_counted : Counted s (step s chosen i)
  step_counted = by_did (step s chosen i) (step_did s chosen i)
