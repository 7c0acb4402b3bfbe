-- A step of the server that takes a report as a loss tells only of the components that were reported.
use Rattle.std.proofs.Common.{◌≡◌, ◌⊎◌, ◌+◌, ◌==◌, ◌&&◌, ◌||◌, ◌++◌, ℕ, Bool, true, false, List, [], ◌∷◌, flat_map, Option, Some, None, refl, sym, ap, subst, ◌∙◌, inl, inr, eq-eqb, le-leb, if◌then◌else◌}
use Rattle.std.specs.List.{list_any}
use Rattle.std.proofs.lemmas.Bool.{true≢false, or_cases}
use Rattle.server_rules.specs.declared.limits.TheConstants.{GREATEST_TAG}
use Rattle.layout_ops.specs.declared.statuses.TheConstants.{NFS4_OK}
use Rattle.server_rules.specs.declared.limits.TheConstants.{MAX_CLIENT}
use Rattle.client_rules.specs.declared.limits.TheConstants.{LOSS_TAKEN}
use Rattle.client_rules.specs.Results.{status_of}
use Rattle.layout_types.specs.declared.ioerrs.IoErr.{IoErr}
use Rattle.client_rules.specs.Answers.{is_loss_taken}
use Rattle.server_rules.specs.Commit.{Committed, NoGrant as NotCommitted, Wrong, Sizes, commit_row, by_commit, commits}
use Rattle.server_rules.specs.Files.{Step, file_at, at_file, begins, to_drives}
use Rattle.server_rules.specs.Get.{Early, BadMode, Invalid, Unable, Waits, On, Late, NoNumber, Lacks, Conflict, Gives, early, late, must_fence, by_late, give_or_refuse, after_fence, fence_first, on_grants, by_early, gets}
use Rattle.server_rules.specs.Going.{Going, noting, noting_if}
use Rattle.server_rules.specs.History.{Input, step}
use Rattle.server_rules.specs.Jobs.{fence_begins, making}
use Rattle.server_rules.specs.Laws.{In}
use Rattle.server_rules.specs.Messages.{on_message, awaited_by}
use Rattle.server_rules.specs.Numbers.{among}
use Rattle.server_rules.specs.Answers.{recalls_from, result_with}
use Rattle.server_rules.specs.Orders.{declare, declares_each, offline}
use Rattle.server_rules.specs.Openings.{opens_each}
use Rattle.server_rules.specs.Making.{with_file}
use Rattle.server_rules.specs.Requests.{serves, answer_with, carried_out, carries_out, by_admit, on_request}
use Rattle.server_rules.specs.Return.{Returned, NoGrant, Clean, Taken, TooMany, Fencing, return_row, by_return, returns_on, reports_from, takes_loss as takes}
use Rattle.server_rules.specs.Served.{Served}
use Rattle.server_rules.specs.Slots.{Admit, New, Again, Misordered, admit, slot_of}
use Rattle.world_history.specs.ServerNames.{Server, File, Component, Effects, Grant, Drive, Awaited, Job, Note, Outgoing, Answers, ClientRequest, RequestArgs, Get, Commit, Return, Revoking, Reported}
use Rattle.world_history.specs.Calm.{is_taken_out}
use Rattle.history_law.specs.Steps.{IsAsked, StepCases, answered_file, new_file}
use Rattle.history_law.proofs.Steps.{each_step}
use Rattle.headline_law.specs.Ending.{is_dangerous, AreHarmless, LossesAreHarmless}

-- ---- what is sent

any_more : (xs ys : List Outgoing) → list_any is_taken_out (xs ++ ys) ≡ true →
    (list_any is_taken_out xs ≡ true) ⊎ (list_any is_taken_out ys ≡ true)
any_more [] ys e = inr e
any_more (x ∷ xs) ys e = elim (or_cases (is_taken_out x) (list_any is_taken_out (xs ++ ys)) e) [
  | inl one ↦ inl (rw one refl)
  | inr later ↦ elim (any_more xs ys later) [
    | inl front ↦ inl (either_true (is_taken_out x) front)
    | inr back ↦ inr back
  ]
]
  where
    either_true : (b : Bool) → list_any is_taken_out xs ≡ true → (b || list_any is_taken_out xs) ≡ true
    either_true true f = refl
    either_true false f = f

no_drive : (ds : List Drive) (cs : List Awaited) → list_any is_taken_out (to_drives ds cs) ≡ false
no_drive ds [] = refl
no_drive ds (c ∷ cs) = no_drive ds cs

no_recall : (n : ℕ) (gs : List Grant) → list_any is_taken_out (recalls_from n gs) ≡ false
unfolding recalls_from
no_recall n [] = refl
no_recall n (g ∷ gs) = no_recall (n + 1) gs

-- ---- a request's rows

reported_only : (file : ℕ) (go : Going) (ks : List ℕ) (cs : List Component) (k : ℕ) →
    AreHarmless file go.effects.notes → AreHarmless file (reports_from go ks cs k).effects.notes
unfolding reports_from
reported_only file go ks [] k h = h
reported_only file go ks (at ∷ cs) k h =
    reported_only file (noting_if (among k ks) go (Reported k)) ks cs (k + 1) (more (among k ks))
  where
    last : (ns : List Note) (n : Note) → is_dangerous n.kind ≡ false → AreHarmless file ns → AreHarmless file (ns ++ n ∷ [])
    last [] n plain all x (inl same) here danger =
        true≢false (sym danger ∙ ap (λ (y : Note). is_dangerous y.kind) same ∙ plain)
    last [] n plain all x (inr i) here danger = absurd i
    last (y ∷ ns) n plain all x (inl same) here danger = all x (inl same) here danger
    last (y ∷ ns) n plain all x (inr i) here danger = last ns n plain (λ z j. all z (inr j)) x i here danger

    more : (b : Bool) → AreHarmless file (noting_if b go (Reported k)).effects.notes
    more true = last go.effects.notes _ refl h
    more false = h

loss_only : (file : ℕ) (go : Going) (ks : List ℕ) → AreHarmless file go.effects.notes →
    AreHarmless file (takes go ks).effects.notes
unfolding takes
loss_only file go ks h = reported_only file _ ks go.file.kept.components 0 h

-- what is answered to such a request says that a report was taken
abbrev pub says_so : List Drive → RequestArgs → Served → Bool
says_so ds args v =
    (status_of (result_with ds v.going.file.kept args v.told.status v.told.grant) == NFS4_OK) && (v.told.detail == LOSS_TAKEN)

module _ (ds : List Drive) where
  -- a LAYOUTGET
  abbrev pub Gets : Served → Type 0
  Gets v = (iomode offset count : ℕ) → says_so ds (Get iomode offset count) v ≡ false

  either_gets : (b : Bool) (x y : Served) → Gets x → Gets y → Gets (if b then x else y)
  either_gets true x y p q = p
  either_gets false x y p q = q

  late_gets : (go : Going) (x : Grant) (l : Late) → Gets (by_late go x l)
  late_gets go x NoNumber = λ a b c. refl
  late_gets go x (Lacks k) = λ a b c. refl
  late_gets go x (Conflict holder) = λ a b c. refl
  late_gets go x Gives = λ a b c. refl

  given_gets : (go : Going) (next : ℕ) (x : Grant) → Gets (give_or_refuse go next x)
  unfolding give_or_refuse
  given_gets go next x = late_gets go x (late go.file.kept next x)

  after_gets : (go : Going) (next : ℕ) (x : Grant) (o : Option Job) → Gets (after_fence go next x o)
  after_gets go next x None = given_gets go next x
  after_gets go next x (Some j) = λ a b c. refl

  first_gets : (go : Going) (next format : ℕ) (x : Grant) → Gets (fence_first go next format x)
  unfolding fence_first
  first_gets go next format x =
      either_gets (go.file.kept.tag == GREATEST_TAG) _ _ (λ a b c. refl)
      (after_gets (fence_begins Revoking format go) next x (fence_begins Revoking format go).file.job)

  pub early_gets : (go : Going) (next format now : ℕ) (x : Grant) (e : Early) → Gets (by_early go next format now x e)
  unfolding on_grants
  early_gets go next format now x BadMode = λ a b c. refl
  early_gets go next format now x Invalid = λ a b c. refl
  early_gets go next format now x Unable = λ a b c. refl
  early_gets go next format now x (Waits k) = λ a b c. refl
  early_gets go next format now x On =
      either_gets (must_fence now go.file.kept.grants x) _ _ (first_gets go next format x) (given_gets go next x)

  pub commit_says : (go : Going) (last : Option ℕ) (c : Committed) → says_so ds (Commit last) (by_commit go c) ≡ false
  commit_says go last NotCommitted = refl
  commit_says go last Wrong = refl
  commit_says go last (Sizes size) = refl

  -- of two steps that differ by the drives of the placer
  module _ (file : ℕ) (f : File) (m : Effects) (drives : List Drive) (chosen placed : List ℕ) (quiet : m.notes ≡ []) where
    abbrev go : Going
    go = record { file = f; effects = m; drives = drives; chosen = chosen }

    abbrev to : Going
    to = record { file = f; effects = m; drives = drives; chosen = placed }

    none_yet : AreHarmless file m.notes
    none_yet x i here danger = absurd (subst (In x) quiet i)

    return_fine : (format client : ℕ) (report : List IoErr) (r : Returned) →
        says_so ds (Return report) (by_return to format client r) ≡ true →
        AreHarmless file (by_return go format client r).going.effects.notes
    return_fine format client report NoGrant e = absurd (true≢false (sym e))
    return_fine format client report Clean e = absurd (true≢false (sym e))
    return_fine format client report (Taken ks) e = loss_only file go ks none_yet
    return_fine format client report TooMany e = absurd (true≢false (sym e))
    return_fine format client report Fencing e = absurd (true≢false (sym e))

    served_fine : (next format now client : ℕ) (args : RequestArgs) →
        says_so ds args (serves to next format now client args) ≡ true →
        AreHarmless file (serves go next format now client args).going.effects.notes
    unfolding gets commits returns_on
    served_fine next format now client (Get iomode offset count) e =
        absurd (true≢false (sym e
        ∙ early_gets to next format now _ (early f iomode offset count) iomode offset count))
    served_fine next format now client (Commit last) e =
        absurd (true≢false (sym e ∙ commit_says to last (commit_row f.kept client last)))
    served_fine next format now client (Return report) e =
        return_fine format client report (return_row f.kept client report) e

-- ---- a request

none_told : (file : ℕ) (ns : List Note) → ns ≡ [] → AreHarmless file ns
none_told file ns none x i here danger = absurd (subst (In x) none i)

-- the answer alone counts
pub answer_alone : (s : Server) (q : ClientRequest) (v : Served) → list_any is_taken_out (carried_out s q v).sends ≡ true →
    is_loss_taken (answer_with s q v) ≡ true
answer_alone s q v e =
    elim (any_more (to_drives s.drives v.going.effects.sent) _ e) [
      | inl front ↦ absurd (true≢false (sym front ∙ no_drive s.drives v.going.effects.sent))
      | inr back ↦ elim (any_more (recalls_from s.next_recall v.recalled) (Answers (answer_with s q v) ∷ []) back) [
        | inl recalls ↦ absurd (true≢false (sym recalls ∙ no_recall s.next_recall v.recalled))
        | inr last ↦ elim (or_cases (is_loss_taken (answer_with s q v)) false last) [
          | inl yes_ ↦ yes_
          | inr no_ ↦ absurd (true≢false (sym no_))
        ]
      ]
    ]

requests_fine : (s : Server) (now : ℕ) (chosen placed : List ℕ) (q : ClientRequest) (file : ℕ) →
    list_any is_taken_out (on_request s now placed q).sends ≡ true → AreHarmless file (on_request s now chosen q).notes
unfolding on_request
requests_fine s now chosen placed q file e = by (admit (slot_of s.slots q.client) q.sequence) e
  where
    carried : (o : Option File) → list_any is_taken_out (carries_out s now placed q o).sends ≡ true →
        AreHarmless file (carries_out s now chosen q o).notes
    carried None l = none_told file [] refl
    carried (Some f) l =
        served_fine s.drives file f (begins s) s.drives chosen placed refl s.next_grant s.format now q.client q.args
        (answer_alone s q (serves (at_file s placed f) s.next_grant s.format now q.client q.args) l)

    by : (a : Admit) → list_any is_taken_out (by_admit s now placed q a).sends ≡ true →
        AreHarmless file (by_admit s now chosen q a).notes
    by New l = carried (file_at s.files q.file) l
    by (Again kept) l = none_told file [] refl
    by (Misordered expected) l = none_told file [] refl

-- ---- any step

-- what comes is a request whose step takes a report
pub record WasAsked (s : Server) (placed : List ℕ) (i : Input) : Type 0 where
  pub now : ℕ
  pub request : ClientRequest
  pub asked : IsAsked s i now request
  pub taken : list_any is_taken_out (on_request s now placed request).sends ≡ true

module _ (s : Server) (placed : List ℕ) (i : Input) where
  abbrev pub Goal : Step → Type 0
  Goal t = list_any is_taken_out t.sends ≡ true → WasAsked s placed i

  to_drives_only : (ds : List Drive) (cs : List Awaited) → list_any is_taken_out (to_drives ds cs) ≡ true →
      WasAsked s placed i
  to_drives_only ds cs e = absurd (true≢false (sym e ∙ no_drive ds cs))

  resent : (fs : List File) → list_any is_taken_out (flat_map (λ f. to_drives s.drives (awaited_by f.job)) fs) ≡ true →
      WasAsked s placed i
  resent [] e = absurd (true≢false (sym e))
  resent (f ∷ fs) e = elim (any_more (to_drives s.drives (awaited_by f.job)) _ e) [
    | inl front ↦ to_drives_only s.drives (awaited_by f.job) front
    | inr back ↦ resent fs back
  ]

  pub cases : StepCases s placed i Goal
  unfolding declare
  cases = record {
    rests = λ e. absurd (true≢false (sym e));
    asked = λ now q is e. record { now = now; request = q; asked = is; taken = e };
    answered = λ x is. to_drives_only s.drives (answered_file s placed x).effects.sent;
    recalled = λ f is e. absurd (true≢false (sym e ∙ no_recall s.next_recall f.kept.grants));
    refused = λ f is n why. to_drives_only s.drives (noting (at_file s placed f) n).effects.sent;
    fenced = λ f is kind none low.
        to_drives_only s.drives (fence_begins kind s.format (at_file s placed f)).effects.sent;
    declared = λ d known.
        to_drives_only (offline s.drives d)
        (declares_each d (offline s.drives d) s.files (begins s) placed).effects.sent;
    told = λ t now o is result goal e. elim (any_more t.sends _ e) [
      | inl front ↦ goal front
      | inr back ↦ absurd (true≢false (sym back))
    ];
    made = λ n m tag zoned is none.
        let f : File = new_file s placed n m tag zoned in
        to_drives_only s.drives (making (at_file (with_file s f) [] f)).effects.sent;
    added = λ d is e. absurd (true≢false (sym e));
    zoned = λ d zone is e. absurd (true≢false (sym e));
    formats = λ n is e. absurd (true≢false (sym e));
    resends = λ is. resent s.files;
    crashes = λ is e. absurd (true≢false (sym e));
    opened = λ is low. to_drives_only s.drives (opens_each s.format s.drives s.files (begins s)).effects.sent;
  }

pub asked_step : (s : Server) (ds : List ℕ) (i : Input) (now : ℕ) (q : ClientRequest) → IsAsked s i now q →
    step s ds i ≡ on_request s now ds q
unfolding on_message
asked_step s ds i now q k =
    ap (step s ds) k.is ∙ rw (k.low, eq-eqb q.client q.client refl, le-leb q.client MAX_CLIENT k.named) refl

pub losses_are_harmless : LossesAreHarmless
losses_are_harmless s chosen placed i file e =
    let was : WasAsked s placed i = each_step s placed i (Goal s placed i) (cases s placed i) e in
    subst (λ (t : Step). AreHarmless file t.notes) (sym (asked_step s chosen i was.now was.request was.asked))
    (requests_fine s was.now chosen placed was.request file was.taken)
