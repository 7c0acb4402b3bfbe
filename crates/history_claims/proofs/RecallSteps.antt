-- What a step of the server recalls it has to.
use Rattle.std.proofs.Common.{◌≡◌, ◌≢◌, ◌<◌, ◌≤◌, ◌==◌, ◌+◌, ◌++◌, ◌∷◌, ℕ, Bool, true, false, List, [], append_assoc, length, flat_map, Option, Some, None, refl, sym, ap, subst, ◌∙◌, arith, inl, inr, if◌then◌else◌}
use Rattle.std.proofs.lemmas.Bool.{eq-eqb, false≢true}
use Rattle.std.proofs.lemmas.Bool.Decides.{nat_tests}
use Rattle.osd_lists.specs.declared.node.Node.{Node}
use Rattle.osd_lists.specs.declared.node.Node.TheVariants.{Server as FromServer, Drive as FromDrive, Client as FromClient}
use Rattle.layout_ops.specs.declared.statuses.TheConstants.{LAYOUTIOMODE4_RW, NFS4ERR_LAYOUTTRYLATER, NFS4ERR_LAYOUTUNAVAILABLE}
use Rattle.server_rules.specs.declared.limits.TheConstants.{GREATEST_TAG, NO_COMPONENT}
use Rattle.server_rules.specs.Answers.{recall_of, recalls_from, result_with}
use Rattle.server_rules.specs.Commit.{Committed, NoGrant as NoCommit, Wrong, Sizes, commit_row, by_commit, commits}
use Rattle.server_rules.specs.Files.{Step, still, file_at, at_file, to_drive, to_drives, step_at}
use Rattle.server_rules.specs.Get as rows
use Rattle.server_rules.specs.Get.{Early, Late, lowest, early, must_fence, late, by_late, give_or_refuse, after_fence, fence_then, fence_first, on_grants, by_early, gets}
use Rattle.server_rules.specs.Going.{Going, noting}
use Rattle.server_rules.specs.Grants.{conflicts, against, asked}
use Rattle.server_rules.specs.History.{Input, Hears, Makes, Obeys, Adds, Zones, Formats, Resends, Crashes, Opens, step}
use Rattle.server_rules.specs.Jobs.{fence_begins}
use Rattle.server_rules.specs.Laws.{In, ConflictsAreExact, FilesArePut, AreSafe, is_taken_of}
use Rattle.server_rules.specs.Messages.{Message, Asks, Replies, Orders, counters_have_room, on_message, awaited_by}
use Rattle.server_rules.specs.Orders.{Ordered, begins_job, starts, recalls_on, declare, declares_known, ordered, with_result}
use Rattle.server_rules.specs.Requests.{serves, answer_with, carried_out, on_request}
use Rattle.server_rules.specs.Return.{Returned, NoGrant, Clean, Taken, TooMany, Fencing, return_row, by_return, returns_on}
use Rattle.server_rules.specs.Served.{Served, says}
use Rattle.server_rules.specs.Slots.{New, slot_of, admit}
use Rattle.server_rules.proofs.HandlerLaws.{fence_leaves_none}
use Rattle.server_rules.proofs.Members.{in_either, in_mapped, in_filtered}
use Rattle.world_history.specs.ServerNames.{Server, File, Drive, Grant, Awaited, Job, JobKind, Revoking, Rebuilding, Auditing, Answer, ClientRequest, RequestArgs, Get, Commit, Return, OrderKind, ToRecall, ToRevoke, ToDeclare, ToRebuild, ToAudit, HasStarted, IsSpent, Busy, Spent, Recall, Outgoing, Recalls, Answers}
use Rattle.history_law.specs.Steps.{IsAsked, IsOrder, Here, Sent}
use Rattle.history_law.proofs.Steps.{each_request, each_step}
use Rattle.cause_law.specs.Gets.{AreOpposed}
use Rattle.cause_law.proofs.Causing.{Answered, request_answered}
use Rattle.history_claims.specs.Recalled.{IsInTheWay, IsRecalled, ByOrder, InTheWay}

-- ---- recalls of some grants

-- one of them
record IsOne (n : ℕ) (gs : List Grant) (r : Recall) : Type 0 where
  grant : Grant
  there : In grant gs
  count : ℕ
  is : r ≡ recall_of grant count
  first : n ≤ count
  counted : count < n + length gs

in_recalls : (n : ℕ) (gs : List Grant) (r : Recall) → In (Recalls r) (recalls_from n gs) → IsOne n gs r
unfolding recalls_from
in_recalls n [] r i = absurd i
in_recalls n (g ∷ gs) r (inl e) =
    let same : r ≡ recall_of g n = own e in
    record {
      grant = g;
      there = inl refl;
      count = n;
      is = same;
      first = omega arith;
      counted = omega arith;
    }
  where
    own : Recalls r ≡ Recalls (recall_of g n) → r ≡ recall_of g n
    own x = cc x
in_recalls n (g ∷ gs) r (inr i) =
    let o : IsOne (n + 1) gs r = in_recalls (n + 1) gs r i in
    record {
      grant = o.grant;
      there = inr o.there;
      count = o.count;
      is = o.is;
      first = omega (arith, o.first);
      counted = omega (arith, o.counted);
    }

none_to_drives : (ds : List Drive) (cs : List Awaited) (r : Recall) → In (Recalls r) (to_drives ds cs) → ⊥
none_to_drives ds cs r i = let x = in_mapped (to_drive ds) (Recalls r) cs i in cc x.2

no_answer : (a : Answer) (r : Recall) → In (Recalls r) (Answers a ∷ []) → ⊥
no_answer a r (inl e) = cc e
no_answer a r (inr i) = i

none_resent : (ds : List Drive) (fs : List File) (r : Recall)
    → In (Recalls r) (flat_map (λ (f : File). to_drives ds (awaited_by f.job)) fs) → ⊥
none_resent ds [] r i = i
none_resent ds (f ∷ fs) r i = elim (in_either (Recalls r) (to_drives ds (awaited_by f.job)) _ i) [
  | inl j ↦ none_to_drives ds (awaited_by f.job) r j
  | inr j ↦ none_resent ds fs r j
]

none_in : (g : Grant) {gs : List Grant} → gs ≡ [] → In g gs → ⊥
none_in g none j = subst (In g) none j

-- ---- what a LAYOUTGET recalls

-- nobody; or the holders of the grants that conflict with what is asked, and the answer says so
data Recalling (wanted : Grant) (live : List Grant) (v : Served) : Type 0 where
  Nobody : v.recalled ≡ [] → Recalling wanted live v
  Holders : v.recalled ≡ against live wanted → v.told.status ≡ NFS4ERR_LAYOUTTRYLATER → v.told.grant ≡ None
      → Recalling wanted live v

module _ (wanted : Grant) where
  by_row : (go : Going) (r : Late) → Recalling wanted go.file.kept.grants (by_late go wanted r)
  by_row go rows.NoNumber = Nobody refl
  by_row go (rows.Lacks k) = Nobody refl
  by_row go (rows.Conflict holder) = Holders refl refl refl
  by_row go rows.Gives = Nobody refl

  given : (go : Going) (next : ℕ) → Recalling wanted go.file.kept.grants (give_or_refuse go next wanted)
  unfolding give_or_refuse
  given go next = by_row go (late go.file.kept next wanted)

  -- where none is live, nobody is recalled
  nobody : (v : Served) → Recalling wanted [] v → v.recalled ≡ []
  nobody v (Nobody e) = e
  nobody v (Holders e t g) = e

  fenced : (go : Going) (next : ℕ) (j : Option Job) → go.file.kept.grants ≡ [] → (after_fence go next wanted j).recalled ≡ []
  fenced go next None none =
      nobody (give_or_refuse go next wanted)
      (subst (λ (gs : List Grant). Recalling wanted gs (give_or_refuse go next wanted)) none (given go next))
  fenced go next (Some j) none = refl

  with_fence : (go : Going) (next format : ℕ) → (fence_first go next format wanted).recalled ≡ []
  unfolding fence_first
  with_fence go next format = by (go.file.kept.tag == GREATEST_TAG)
    where
      by : (b : Bool) → (if b then says (noting go Spent) NFS4ERR_LAYOUTUNAVAILABLE NO_COMPONENT
          else fence_then (fence_begins Revoking format go) next wanted).recalled ≡ []
      by true = refl
      by false =
          fenced (fence_begins Revoking format go) next (fence_begins Revoking format go).file.job
          (fence_leaves_none Revoking format go)

  by_grants : (go : Going) (next format now : ℕ) → Recalling wanted go.file.kept.grants (on_grants go next format now wanted)
  unfolding on_grants
  by_grants go next format now = by (must_fence now go.file.kept.grants wanted)
    where
      by : (b : Bool) → Recalling wanted go.file.kept.grants
          (if b then fence_first go next format wanted else give_or_refuse go next wanted)
      by true = Nobody (with_fence go next format)
      by false = given go next

  by_first_rows : (go : Going) (next format now : ℕ) (r : Early)
      → Recalling wanted go.file.kept.grants (by_early go next format now wanted r)
  by_first_rows go next format now rows.BadMode = Nobody refl
  by_first_rows go next format now rows.Invalid = Nobody refl
  by_first_rows go next format now rows.Unable = Nobody refl
  by_first_rows go next format now (rows.Waits k) = Nobody refl
  by_first_rows go next format now rows.On = by_grants go next format now

get_recalls : (go : Going) (next format now client iomode offset count : ℕ)
    → Recalling (asked go.file.kept next client now offset count (iomode == LAYOUTIOMODE4_RW)) go.file.kept.grants
    (gets go next format now client iomode offset count)
unfolding gets
get_recalls go next format now client iomode offset count =
    by_first_rows (asked go.file.kept next client now offset count (iomode == LAYOUTIOMODE4_RW)) go next format now
    (early go.file iomode offset count)

commit_recalls : (go : Going) (client : ℕ) (last : Option ℕ) → (commits go client last).recalled ≡ []
unfolding commits
commit_recalls go client last = by (commit_row go.file.kept client last)
  where
    by : (c : Committed) → (by_commit go c).recalled ≡ []
    by NoCommit = refl
    by Wrong = refl
    by (Sizes size) = refl

return_recalls : (go : Going) (format client : ℕ) (report : _) → (returns_on go format client report).recalled ≡ []
unfolding returns_on
return_recalls go format client report = by (return_row go.file.kept client report)
  where
    by : (r : Returned) → (by_return go format client r).recalled ≡ []
    by NoGrant = refl
    by Clean = refl
    by (Taken ks) = refl
    by TooMany = refl
    by Fencing = refl

-- ---- why a recall is sent

pub record Why (s t : Server) (i : Input) (r : Recall) : Type 0 where
  pub grant : Grant
  pub count : ℕ
  pub is : r ≡ recall_of grant count
  pub first : s.next_recall ≤ count
  pub counted : count < t.next_recall
  pub why : IsRecalled s t i grant

last_same : (xs ys : List Outgoing) (a b : Outgoing) → xs ++ a ∷ [] ≡ ys ++ b ∷ [] → a ≡ b
last_same [] [] a b e = cc e
last_same [] (y ∷ []) a b e = absurd (cc e)
last_same [] (y ∷ z ∷ ys) a b e = absurd (cc e)
last_same (x ∷ []) [] a b e = absurd (cc e)
last_same (x ∷ z ∷ xs) [] a b e = absurd (cc e)
last_same (x ∷ xs) (y ∷ ys) a b e =
    let rest : xs ++ a ∷ [] ≡ ys ++ b ∷ [] = cc e in last_same xs ys a b rest

its_taken : (s : Server) (i : Input) (now : ℕ) (q : ClientRequest) → IsAsked s i now q
    → is_taken_of s q.client q.client q ≡ true
its_taken s i now q is = taken is.low
  where
    taken : counters_have_room s ≡ true → is_taken_of s q.client q.client q ≡ true
    taken low = rw (eq-eqb q.client q.client refl, low) (grind (arith, nat_tests, is.named))

opposed_is : ConflictsAreExact → (a b : Grant) → conflicts a b ≡ true → AreOpposed a b
unfolding conflicts
opposed_is exact a b e =
    let other : (a.client ≡ b.client → ⊥) = λ same. grind (arith, nat_tests, e, same) in
    (other, λ c. absurd (false≢true (sym ((exact a b other).1 c) ∙ e)))

module _ (exact : ConflictsAreExact) (put : FilesArePut) (s : Server) (chosen : List ℕ) (i : Input) (before : AreSafe s.files)
    (behind : AreSafe (step s chosen i).state.files) where
  abbrev Recalled : Step → Type 0
  Recalled t = (r : Recall) → In (Recalls r) t.sends → Why s t.state i r

  -- ---- a request

  module _ (now : ℕ) (q : ClientRequest) (asks : IsAsked s i now q) (own : on_request s now chosen q ≡ step s chosen i) where
    abbrev did : Step
    did = on_request s now chosen q

    abbrev served : File → Served
    served f = serves (at_file s chosen f) s.next_grant s.format now q.client q.args

    -- the answer of the step tells that
    told : (f : File) → carried_out s q (served f) ≡ did → admit (slot_of s.slots q.client) q.sequence ≡ New
        → file_at s.files q.file ≡ Some f → (iomode offset count : ℕ) → q.args ≡ Get iomode offset count
        → (g : Grant) → In g f.kept.grants
        → AreOpposed (asked f.kept s.next_grant q.client now offset count (iomode == LAYOUTIOMODE4_RW)) g
        → (served f).told.status ≡ NFS4ERR_LAYOUTTRYLATER → (served f).told.grant ≡ None
        → IsInTheWay s did.state i g
    told f is new found iomode offset count args g live opposed status none =
        let it : Answered s now q did =
        request_answered exact put s now chosen q new before (subst (λ (t : Step). AreSafe t.state.files) (sym own) behind) in
        let last : Answers (answer_with s q (served f)) ≡ Answers it.answer =
        last_same (to_drives s.drives (served f).going.effects.sent ++ recalls_from s.next_recall (served f).recalled) it.front
        (Answers (answer_with s q (served f))) (Answers it.answer)
        (append_assoc (to_drives s.drives (served f).going.effects.sent) (recalls_from s.next_recall (served f).recalled)
        (Answers (answer_with s q (served f)) ∷ [])
        ∙ ap (λ (t : Step). t.sends) is ∙ it.sends_are) in
        let same : answer_with s q (served f) ≡ it.answer = cc last in
        record {
          now = now;
          request = q;
          new = record { comes = asks.is; taken = its_taken s i now q asks; new = new };
          file = f;
          found = found;
          iomode = iomode;
          offset = offset;
          count = count;
          asks = args;
          live = live;
          opposed = opposed;
          answer = it.answer;
          caused = it.caused;
          later =
              ap (λ (a : Answer). a.results) (sym same)
              ∙ ap (λ (a : RequestArgs).
              result_with s.drives (served f).going.file.kept a (served f).told.status (served f).told.grant) args
              ∙ ap (λ (n : ℕ). result_with s.drives (served f).going.file.kept (Get iomode offset count) n (served f).told.grant)
              status
              ∙ ap (λ (o : Option Grant).
              result_with s.drives (served f).going.file.kept (Get iomode offset count) NFS4ERR_LAYOUTTRYLATER o) none;
        }

    -- which it recalls
    holders : (f : File) → carried_out s q (served f) ≡ did → admit (slot_of s.slots q.client) q.sequence ≡ New
        → file_at s.files q.file ≡ Some f → (args : RequestArgs) → q.args ≡ args → (g : Grant) → In g (served f).recalled
        → IsInTheWay s did.state i g
    holders f is new found (Commit last) args g j =
        absurd (none_in g (ap (λ (a : RequestArgs). (serves (at_file s chosen f) s.next_grant s.format now q.client a).recalled)
        args ∙ commit_recalls (at_file s chosen f) q.client last) j)
    holders f is new found (Return report) args g j =
        absurd (none_in g (ap (λ (a : RequestArgs). (serves (at_file s chosen f) s.next_grant s.format now q.client a).recalled)
        args ∙ return_recalls (at_file s chosen f) s.format q.client report) j)
    holders f is new found (Get iomode offset count) args g j =
        by (subst (λ (a : RequestArgs). Recalling wanted f.kept.grants
        (serves (at_file s chosen f) s.next_grant s.format now q.client a)) (sym args)
        (get_recalls (at_file s chosen f) s.next_grant s.format now q.client iomode offset count))
      where
        wanted : Grant
        wanted = asked f.kept s.next_grant q.client now offset count (iomode == LAYOUTIOMODE4_RW)

        by : Recalling wanted f.kept.grants (served f) → IsInTheWay s did.state i g
        by (Nobody e) = absurd (none_in g e j)
        by (Holders e status none) =
            let x = in_filtered (conflicts wanted) g f.kept.grants (subst (In g) e j) in
            told f is new found iomode offset count args g x.0 (opposed_is exact wanted g x.1) status none

    asked_recalls : Recalled did
    asked_recalls = each_request s now chosen q So (record {
      again = λ kept is done r j. absurd (no_answer _ r j);
      misordered = λ expected is done r j. absurd (no_answer _ r j);
      without = λ new none done r j. absurd (no_answer _ r j);
      served = λ new f found done r j.
          elim (in_either (Recalls r) (to_drives s.drives (served f).going.effects.sent) _ j) [
            | inl x ↦ absurd (none_to_drives s.drives (served f).going.effects.sent r x)
            | inr x ↦ elim (in_either (Recalls r) (recalls_from s.next_recall (served f).recalled) _ x) [
              | inr y ↦ absurd (no_answer _ r y)
              | inl y ↦
                  let o : IsOne s.next_recall (served f).recalled r = in_recalls s.next_recall (served f).recalled r y in
                  record {
                    grant = o.grant;
                    count = o.count;
                    is = o.is;
                    first = o.first;
                    counted = o.counted;
                    why = InTheWay (subst (λ (t : Step). IsInTheWay s t.state i o.grant) (sym done)
                        (holders f done new found q.args refl o.grant o.there));
                  }
            ]
          ];
    }) refl
      where
        So : Step → Type 0
        So t = t ≡ did → Recalled t

  -- ---- an order

  either_order : (b : Bool) (x y : Ordered) → Recalled x.step → Recalled y.step → Recalled (if b then x else y).step
  either_order true x y p q = p
  either_order false x y p q = q

  nobody_at : (n : ℕ) (g : Going) → Recalled (step_at s n g)
  nobody_at n g r j = absurd (none_to_drives s.drives g.effects.sent r j)

  begun : (kind : JobKind) (f : File) (j : Option Job) → Recalled (begins_job s chosen kind f j).step
  begun kind f (Some j) = nobody_at f.kept.number (noting (at_file s chosen f) (Busy (lowest j.awaited)))
  begun kind f None =
      either_order (f.kept.tag == GREATEST_TAG) (record {
        step = step_at s f.kept.number (noting (at_file s chosen f) Spent);
        result = IsSpent;
      }) (record {
        step = step_at s f.kept.number (fence_begins kind s.format (at_file s chosen f));
        result = HasStarted;
      }) (nobody_at f.kept.number (noting (at_file s chosen f) Spent))
      (nobody_at f.kept.number (fence_begins kind s.format (at_file s chosen f)))

  started : (kind : JobKind) (o : Option File) → Recalled (starts s chosen kind o).step
  started kind None = λ r j. absurd j
  started kind (Some f) = begun kind f f.job

  declared : (n : ℕ) (b : Bool) → Recalled (declares_known s chosen n b).step
  unfolding declare
  declared n true r j = absurd (none_to_drives _ _ r j)
  declared n false r j = absurd j

  holders_asked : (n : ℕ) → IsOrder i ToRecall n → (o : Option File) → file_at s.files n ≡ o → Recalled (recalls_on s o).step
  holders_asked n order None found r j = absurd j
  holders_asked n order (Some f) found r j =
      let o : IsOne s.next_recall f.kept.grants r = in_recalls s.next_recall f.kept.grants r j in
      record {
        grant = o.grant;
        count = o.count;
        is = o.is;
        first = o.first;
        counted = o.counted;
        why = ByOrder n f order found o.there;
      }

  obeyed : (kind : OrderKind) (n : ℕ) → IsOrder i kind n → Recalled (ordered s chosen kind n).step
  unfolding ordered
  obeyed ToRecall n order = holders_asked n order (file_at s.files n) refl
  obeyed ToRevoke n order = started Revoking (file_at s.files n)
  obeyed ToDeclare n order = declared n _
  obeyed ToRebuild n order = started Rebuilding (file_at s.files n)
  obeyed ToAudit n order = started Auditing (file_at s.files n)

  told_order : (kind : OrderKind) (o : Ordered) → Recalled o.step → Recalled (with_result kind o)
  told_order kind o p r j = elim (in_either (Recalls r) o.step.sends _ j) [
    | inl x ↦ by (p r x)
    | inr (inl e) ↦ absurd (cc e)
    | inr (inr none) ↦ absurd none
  ]
    where
      by : Why s o.step.state i r → Why s o.step.state i r
      by x = x

  -- ---- anything else

  others : ((kind : OrderKind) (n : ℕ) → IsOrder i kind n → ⊥) → Recalled (step s chosen i)
  others unordered = each_step s chosen i So (record {
    rests = λ done r j. absurd j;
    asked = λ now q asks done. asked_recalls now q asks done;
    answered = λ x is done r j. absurd (none_to_drives _ _ r j);
    recalled = λ f x. absurd (unordered x.kind x.target x.order);
    refused = λ f x n why. absurd (unordered x.kind x.target x.order);
    fenced = λ f x kind none tag. absurd (unordered x.kind x.target x.order);
    declared = λ d there done. declared_so d done;
    told = λ t now o is. absurd (unordered o.order o.target (Sent now o is refl refl));
    made = λ n m tag zoned is fine done r j. absurd (none_to_drives _ _ r j);
    added = λ d is done r j. absurd j;
    zoned = λ d zone is done r j. absurd j;
    formats = λ n is done r j. absurd j;
    resends = λ is done r j. absurd (none_resent s.drives s.files r j);
    crashes = λ is done r j. absurd j;
    opened = λ is low done r j. absurd (none_to_drives _ _ r j);
  }) refl
    where
      So : Step → Type 0
      So t = t ≡ step s chosen i → Recalled t

      declared_so : (d : ℕ) → So (declare s chosen d)
      declared_so d done = declared d true

  either_step : (b : Bool) (x y : Step) → Recalled x → Recalled y → Recalled (if b then x else y)
  either_step true x y p q = p
  either_step false x y p q = q

  heard : (now : ℕ) (from : Node) (m : Message) → i ≡ Hears now from m → Recalled (step s chosen i)
  unfolding on_message
  heard now FromServer (Orders o) is =
      subst (λ (x : Input). Recalled (step s chosen x)) (sym is)
      (either_step (counters_have_room s) (with_result o.order (ordered s chosen o.order o.target)) (still s)
      (told_order o.order (ordered s chosen o.order o.target) (obeyed o.order o.target (Sent now o is refl refl)))
      (λ r j. absurd j))
  heard now FromServer (Asks q) is = others (λ kind n order. none_order order)
    where
      none_order : {kind : OrderKind} {n : ℕ} → IsOrder i kind n → ⊥
      none_order (Here e) = cc (sym is ∙ e)
      none_order (Sent t o e k d) = cc (sym is ∙ e)
  heard now FromServer (Replies x) is = others (λ kind n order. none_order order)
    where
      none_order : {kind : OrderKind} {n : ℕ} → IsOrder i kind n → ⊥
      none_order (Here e) = cc (sym is ∙ e)
      none_order (Sent t o e k d) = cc (sym is ∙ e)
  heard now (FromDrive d) m is = others (λ kind n order. none_order order)
    where
      none_order : {kind : OrderKind} {n : ℕ} → IsOrder i kind n → ⊥
      none_order (Here e) = cc (sym is ∙ e)
      none_order (Sent t o e k x) = cc (sym is ∙ e)
  heard now (FromClient c) m is = others (λ kind n order. none_order order)
    where
      none_order : {kind : OrderKind} {n : ℕ} → IsOrder i kind n → ⊥
      none_order (Here e) = cc (sym is ∙ e)
      none_order (Sent t o e k x) = cc (sym is ∙ e)

  abbrev IsNoOrder : Input → Type 0
  IsNoOrder (Hears now from m) = ⊥
  IsNoOrder (Obeys kind n) = ⊥
  IsNoOrder x = Unit {0}

  not_ordered : IsNoOrder i → (kind : OrderKind) (n : ℕ) → IsOrder i kind n → ⊥
  not_ordered unordered kind n (Here e) = subst IsNoOrder e unordered
  not_ordered unordered kind n (Sent now o e k d) = subst IsNoOrder e unordered

  pub step_recalls : Recalled (step s chosen i)
  step_recalls = by i refl
    where
      other : IsNoOrder i → Recalled (step s chosen i)
      other unordered = others (not_ordered unordered)

      by : (x : Input) → i ≡ x → Recalled (step s chosen i)
      by (Hears now from m) is = heard now from m is
      by (Obeys kind n) is =
          subst (λ (x : Input). Recalled (step s chosen x)) (sym is) (obeyed kind n (Here is))
      by (Makes n m tag zoned) is = other (subst IsNoOrder (sym is) tt)
      by (Adds d) is = other (subst IsNoOrder (sym is) tt)
      by (Zones d zone) is = other (subst IsNoOrder (sym is) tt)
      by (Formats n) is = other (subst IsNoOrder (sym is) tt)
      by Resends is = other (subst IsNoOrder (sym is) tt)
      by Crashes is = other (subst IsNoOrder (sym is) tt)
      by Opens is = other (subst IsNoOrder (sym is) tt)
