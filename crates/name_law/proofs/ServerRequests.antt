-- What a request leaves of its file, sends and notes, and whose grants it recalls: lines can name it all.
use Rattle.std.proofs.Common.{◌≡◌, ◌==◌, ℕ, ◌+◌, ◌<◌, Bool, true, false, List, [], ◌∷◌, ◌++◌, filter, Option, Some, None, refl, sym, subst, inl, inr, if◌then◌else◌}
use Rattle.scenario_text.specs.declared.names.TheConstants.{CLIENTS}
use Rattle.server_rules.specs.declared.limits.TheConstants.{GREATEST_TAG}
use Rattle.server_rules.specs.Laws.{In}
use Rattle.server_rules.specs.Numbers.{among}
use Rattle.server_rules.specs.Going.{Going, noting_if, with_components, keeping}
use Rattle.server_rules.specs.Grants.{asked, conflicts}
use Rattle.server_rules.specs.Standing.{lose_from}
use Rattle.server_rules.specs.Jobs.{fence_begins}
use Rattle.server_rules.specs.Served.{Served}
use Rattle.server_rules.specs.Get.{Early, BadMode, Invalid, Unable, Waits, On, Late, NoNumber, Lacks, Conflict, Gives, high_after, by_late, late, give_or_refuse, after_fence, fence_first, on_grants, must_fence, by_early, gets}
use Rattle.server_rules.specs.Commit.{Committed, NoGrant, Wrong, Sizes, by_commit, commits}
use Rattle.server_rules.specs.Return.{Returned, NoGrant as NotHeld, Clean, Taken, TooMany, Fencing as ToFence, ends_grant, reports_from, takes_loss, by_return, returns_on}
use Rattle.server_rules.specs.Requests.{serves}
use Rattle.server_rules.proofs.Members.{in_either, in_filtered}
use Rattle.world_history.specs.ServerNames.{Grant, Component, Job, Kept, Revoking, Reported, RequestArgs, Get, Commit, Return}
use Rattle.name_law.specs.ServerNamed.{AreOfNamed}
use Rattle.name_law.proofs.ServerAwaited.{lost_from}
use Rattle.name_law.proofs.ServerJobs.{Owns, Ends, owns_noting, owns_noting_if, owns_with, ends_fence}

-- ---- grants

filtered_of : (p : Grant → Bool) (gs : List Grant) → AreOfNamed gs → AreOfNamed (filter p gs)
filtered_of p gs h g i = h g (in_filtered p g gs i).0

more_of : (gs : List Grant) (g : Grant) → AreOfNamed gs → g.client < CLIENTS → AreOfNamed (gs ++ g ∷ [])
more_of gs g h own x i = elim (in_either x gs (g ∷ []) i) [
  | inl j ↦ h x j
  | inr j ↦ last j
]
  where
    last : In x (g ∷ []) → x.client < CLIENTS
    last (inl same) = subst (λ (y : Grant). y.client < CLIENTS) (sym same) own
    last (inr none) = absurd none

-- the file has other grants
owns_grants : (g : Going) (gs : List Grant) (high : ℕ) → AreOfNamed gs → Owns g
    → Owns (keeping g (record g.file.kept { grants = gs; high = high }))
owns_grants g gs high of h = record {
  number = h.number;
  drives = h.drives;
  components = h.components;
  grants = of;
  sent = h.sent;
  notes = h.notes;
}

ends_without : (g : Going) (client : ℕ) → Ends g → Ends (ends_grant g client)
ends_without g client h = (
  record {
    number = h.0.number;
    drives = h.0.drives;
    components = h.0.components;
    grants = filtered_of _ g.file.kept.grants h.0.grants;
    sent = h.0.sent;
    notes = h.0.notes;
  },
  h.1,
)

-- ---- what is served

-- lines can name what is left, and the holders of the grants that are recalled
abbrev pub IsServed : Served → Type 0
IsServed v = Ends v.going × AreOfNamed v.recalled

none_recalled : AreOfNamed []
none_recalled g i = absurd i

either_served : (b : Bool) (x y : Served) → IsServed x → IsServed y → IsServed (if b then x else y)
either_served true x y p q = p
either_served false x y p q = q

-- ---- LAYOUTGET

served_late : (go : Going) (g : Grant) (l : Late) → g.client < CLIENTS → Ends go → IsServed (by_late go g l)
served_late go g NoNumber own h = (h, none_recalled)
served_late go g (Lacks k) own h = (h, none_recalled)
served_late go g (Conflict holder) own h = (h, filtered_of (conflicts g) go.file.kept.grants h.0.grants)
served_late go g Gives own h = (
  (
    owns_grants go (go.file.kept.grants ++ g ∷ []) (high_after go.file.kept.high g)
        (more_of go.file.kept.grants g h.0.grants own) h.0,
    h.1,
  ),
  none_recalled,
)

served_given : (go : Going) (next : ℕ) (g : Grant) → g.client < CLIENTS → Ends go → IsServed (give_or_refuse go next g)
unfolding give_or_refuse
served_given go next g own h = served_late go g (late go.file.kept next g) own h

served_after : (go : Going) (next : ℕ) (g : Grant) (j : Option Job) → g.client < CLIENTS → Ends go
    → IsServed (after_fence go next g j)
served_after go next g None own h = served_given go next g own h
served_after go next g (Some j) own h = (h, none_recalled)

served_first : (go : Going) (next format : ℕ) (g : Grant) → g.client < CLIENTS → Ends go
    → IsServed (fence_first go next format g)
unfolding fence_first
served_first go next format g own h =
    either_served (go.file.kept.tag == GREATEST_TAG) _ _ ((owns_noting go _ refl h.0, h.1), none_recalled)
    (served_after (fence_begins Revoking format go) next g (fence_begins Revoking format go).file.job own
    (ends_fence Revoking format go h.0))

served_grants : (go : Going) (next format now : ℕ) (g : Grant) → g.client < CLIENTS → Ends go
    → IsServed (on_grants go next format now g)
unfolding on_grants
served_grants go next format now g own h =
    either_served (must_fence now go.file.kept.grants g) _ _ (served_first go next format g own h)
    (served_given go next g own h)

served_early : (go : Going) (next format now : ℕ) (g : Grant) (e : Early) → g.client < CLIENTS → Ends go
    → IsServed (by_early go next format now g e)
served_early go next format now g BadMode own h = (h, none_recalled)
served_early go next format now g Invalid own h = (h, none_recalled)
served_early go next format now g Unable own h = (h, none_recalled)
served_early go next format now g (Waits k) own h = (h, none_recalled)
served_early go next format now g On own h = served_grants go next format now g own h

asker : (f : Kept) (number client now offset count : ℕ) (writes : Bool)
    → (asked f number client now offset count writes).client ≡ client
unfolding asked
asker f number client now offset count writes = refl

-- ---- LAYOUTCOMMIT and LAYOUTRETURN

served_commit : (go : Going) (c : Committed) → Ends go → IsServed (by_commit go c)
served_commit go NoGrant h = (h, none_recalled)
served_commit go Wrong h = (h, none_recalled)
served_commit go (Sizes size) h = (h, none_recalled)

ends_reports : (go : Going) (ks : List ℕ) (cs : List Component) (k : ℕ) → Ends go → Ends (reports_from go ks cs k)
unfolding reports_from
ends_reports go ks [] k h = h
ends_reports go ks (at ∷ cs) k h =
    ends_reports (noting_if (among k ks) go (Reported k)) ks cs (k + 1)
    (owns_noting_if (among k ks) go (Reported k) refl h.0, h.1)

ends_loss : (go : Going) (ks : List ℕ) → Ends go → Ends (takes_loss go ks)
unfolding takes_loss
ends_loss go ks h =
    ends_reports (with_components go (lose_from ks go.file.kept.components 0)) ks go.file.kept.components 0
    (owns_with go (lose_from ks go.file.kept.components 0) (lost_from ks go.file.kept.components 0 h.0.components) h.0, h.1)

served_return : (go : Going) (format client : ℕ) (r : Returned) → Ends go → IsServed (by_return go format client r)
served_return go format client NotHeld h = (h, none_recalled)
served_return go format client Clean h = (ends_without go client h, none_recalled)
served_return go format client (Taken ks) h = (ends_without (takes_loss go ks) client (ends_loss go ks h), none_recalled)
served_return go format client TooMany h = ((owns_noting go _ refl h.0, h.1), none_recalled)
served_return go format client ToFence h = (ends_fence Revoking format go h.0, none_recalled)

pub served : (go : Going) (next format now client : ℕ) (args : RequestArgs) → client < CLIENTS → Ends go
    → IsServed (serves go next format now client args)
unfolding gets commits returns_on
served go next format now client (Get iomode offset count) own h =
    served_early go next format now _ _
    (subst (λ (c : ℕ). c < CLIENTS) (sym (asker go.file.kept next client now offset count _)) own) h
served go next format now client (Commit last) own h = served_commit go _ h
served go next format now client (Return report) own h = served_return go format client _ h
