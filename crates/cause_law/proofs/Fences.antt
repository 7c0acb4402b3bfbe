-- A fence of a file that is under way, in whatever the server does: it is still under way, or the file has the next tag.
use Rattle.std.proofs.Common.{◌≡◌, ◌⊎◌, ◌==◌, ◌||◌, ℕ, ◌+◌, Bool, true, false, List, [], ◌∷◌, Option, Some, None, refl, sym, ap, ◌∙◌, inl, inr, if◌then◌else◌}
use Rattle.std.proofs.lemmas.Bool.{cases_Bool, false≢true}
use Rattle.server_rules.specs.declared.limits.TheConstants.{GREATEST_TAG}
use Rattle.server_rules.specs.Commands.{Raising, All, to_all}
use Rattle.server_rules.specs.Commit.{Committed, NoGrant, Wrong, Sizes, by_commit, commits}
use Rattle.server_rules.specs.Get.{Early, BadMode, Invalid, Unable, Waits, On, Late, NoNumber, Lacks, Conflict, Gives, by_late, late, give_or_refuse, after_fence, fence_first, on_grants, must_fence, by_early, gets}
use Rattle.server_rules.specs.Going.{Going, keeping, noting, noting_if, with_components, rests_or}
use Rattle.server_rules.specs.Jobs.{fencing, ending, fenced, fence_begins, waits_or_on, goes_on, loses, declared_in, targets, is_target, others_than, declares}
use Rattle.server_rules.specs.Numbers.{among}
use Rattle.server_rules.specs.Openings.{is_still}
use Rattle.server_rules.specs.Replies.{Hearing, Older, Full, Done, Nothing, fills_up, others, hears}
use Rattle.server_rules.specs.Requests.{serves}
use Rattle.server_rules.specs.Return.{Returned, NoGrant as NotHeld, Clean, Taken, TooMany, Fencing as ToFence, reports_from, takes_loss, by_return, returns_on}
use Rattle.server_rules.specs.Served.{Served}
use Rattle.server_rules.specs.Standing.{any_on, lose_on, lose_from}
use Rattle.history_law.specs.Names.{File, Kept, Phase, Still, Fencing, Repairing, FencingAgain, Component, Grant, Awaited, Heard, Job, JobKind, Revoking, Work, Creates, Fences, Fetches, Stores, Targets, Gathers, Fills, Lengths, Checks, Reply, NoSpace, Reported, RequestArgs, Get, Commit, Return, Fenced as FenceOver}
use Rattle.history_law.specs.Fencing.{is_fences, is_fencing}
use Rattle.history_law.proofs.Quiet.{quiet_repair}

module _ (tag : ℕ) where
  abbrev pub IsUnder : File → Type 0
  IsUnder f = (is_fencing f.job ≡ true) × (is_still f.kept.phase ≡ false) × (f.kept.tag ≡ tag)

  abbrev pub Fence : File → Type 0
  Fence f = IsUnder f ⊎ (f.kept.tag ≡ tag + 1)

  -- ---- the fence

  is_over : (kind : JobKind) (g : Going) → g.file.kept.tag ≡ tag → (fenced kind g).file.kept.tag ≡ tag + 1
  unfolding fenced
  is_over kind g is =
      (quiet_repair (λ (k : Kept). k.tag ≡ g.file.kept.tag + 1) (record { mends = λ k e. e }) kind
      (noting (keeping g (record g.file.kept { tag = g.file.kept.tag + 1; phase = Repairing }))
      (FenceOver (g.file.kept.tag + 1))) refl).kept
      ∙ ap (λ (t : ℕ). t + 1) is

  moves_on : (p : Phase) → is_still (fencing p) ≡ false
  moves_on Still = refl
  moves_on Fencing = refl
  moves_on Repairing = refl
  moves_on FencingAgain = refl

  asks_or : (kind : JobKind) (g : Going) (cs : List Awaited) → is_still g.file.kept.phase ≡ false → g.file.kept.tag ≡ tag
      → Fence (rests_or cs g kind Fences (fenced kind g)).file
  asks_or kind g [] p is = inr (is_over kind g is)
  asks_or kind g (c ∷ cs) p is = inl (refl, p, is)

  pub fence_goes : (kind : JobKind) (format : ℕ) (g : Going) → g.file.kept.tag ≡ tag → Fence (fence_begins kind format g).file
  unfolding fence_begins
  fence_goes kind format g is =
      let f : Going = keeping g (ending g.file.kept format) in
      asks_or kind f (to_all f.file.kept All Raising f.effects.nonce) (moves_on g.file.kept.phase) is

  -- ---- a reply, and a drive that is declared

  fence_waits : (g : Going) (j : Job) (rest : List Awaited) (heard : List Heard) → is_still g.file.kept.phase ≡ false
      → g.file.kept.tag ≡ tag → Fence (waits_or_on g j Fences rest heard).file
  unfolding goes_on
  fence_waits g j [] heard p is = inr (is_over j.kind g is)
  fence_waits g j (c ∷ cs) heard p is = inl (refl, p, is)

  fence_loses : (g : Going) (j : Job) (rest : List Awaited) (gone : Bool) → is_still g.file.kept.phase ≡ false
      → g.file.kept.tag ≡ tag → Fence (loses g j Fences rest gone).file
  unfolding loses
  fence_loses g j rest gone p is = fence_waits g j rest j.heard p is

  its_fence : (w : Work) → is_fences w ≡ true → w ≡ Fences
  its_fence Fences e = refl
  its_fence Creates e = absurd (cc e)
  its_fence (Fetches todo short) e = absurd (cc e)
  its_fence (Stores todo short broken) e = absurd (cc e)
  its_fence (Targets t) e = absurd (cc e)
  its_fence (Gathers t todo) e = absurd (cc e)
  its_fence (Fills t todo) e = absurd (cc e)
  its_fence Lengths e = absurd (cc e)
  its_fence (Checks todo t) e = absurd (cc e)

  of_job : (f : File) (j : Job) → f.job ≡ Some j → is_fencing f.job ≡ true → j.work ≡ Fences
  of_job f j runs e = its_fence j.work (sym (ap is_fencing runs) ∙ e)

  full : (g : Going) (j : Job) (a : Awaited) (w : Work) → w ≡ Fences → is_still g.file.kept.phase ≡ false
      → g.file.kept.tag ≡ tag → Fence (fills_up g j a w).file
  full g j a w same p is =
      rw same
      (fence_loses (noting (with_components g (lose_from (a.component ∷ []) g.file.kept.components 0)) (NoSpace a.component))
      j (others j.awaited a.command.nonce) false p is)

  pub fence_hears : (g : Going) (j : Job) (a : Awaited) (r : Reply) (x : Hearing) → g.file.job ≡ Some j → IsUnder g.file
      → Fence (hears g j a r x).file
  fence_hears g j a r Older runs u = inl (rw (of_job g.file j runs u.0) refl, u.1, u.2)
  fence_hears g j a r Full runs u = full g j a j.work (of_job g.file j runs u.0) u.1 u.2
  fence_hears g j a r Done runs u =
      rw (of_job g.file j runs u.0) (fence_waits g j (others j.awaited a.command.nonce) _ u.1 u.2)
  fence_hears g j a r Nothing runs u = inl u

  work_lost : (g : Going) (j : Job) (w : Work) (rest : List Awaited) (gone : Bool) → w ≡ Fences
      → is_still g.file.kept.phase ≡ false → g.file.kept.tag ≡ tag → Fence (loses g j w rest gone).file
  work_lost g j w rest gone same p is = rw same (fence_loses g j rest gone p is)

  in_job : (g : Going) (d : ℕ) (o : Option Job) → is_fencing o ≡ true → is_still g.file.kept.phase ≡ false
      → g.file.kept.tag ≡ tag → Fence (declared_in g d o).file
  in_job g d None f p is = absurd (false≢true f)
  in_job g d (Some j) f p is = work_lost g j j.work (others_than d j.awaited) (is_target j.work d) (its_fence j.work f) p is

  pub fence_declared : (g : Going) (d : ℕ) → IsUnder g.file → Fence (declares g d).file
  unfolding declares
  fence_declared g d u = elim (cases_Bool (any_on d g.file.kept.components || targets g.file.job d)) [
    | inl e ↦ rw e (in_job (with_components g (lose_on d g.file.kept.components)) d g.file.job u.0 u.1 u.2)
    | inr e ↦ rw e (inl u)
  ]

  -- ---- a request

  abbrev End : Going → Type 0
  End g = Fence g.file

  either : (b : Bool) (x y : Served) → End x.going → End y.going → End (if b then x else y).going
  either true x y p q = p
  either false x y p q = q

  by_late_row : (go : Going) (g : Grant) (l : Late) → End go → End (by_late go g l).going
  by_late_row go g NoNumber h = h
  by_late_row go g (Lacks k) h = h
  by_late_row go g (Conflict holder) h = h
  by_late_row go g Gives h = h

  given : (go : Going) (next : ℕ) (g : Grant) → End go → End (give_or_refuse go next g).going
  unfolding give_or_refuse
  given go next g h = by_late_row go g (late go.file.kept next g) h

  after : (go : Going) (next : ℕ) (g : Grant) (j : Option Job) → End go → End (after_fence go next g j).going
  after go next g None h = given go next g h
  after go next g (Some j) h = h

  first : (go : Going) (next format : ℕ) (g : Grant) → IsUnder go.file → End (fence_first go next format g).going
  unfolding fence_first
  first go next format g u =
      either (go.file.kept.tag == GREATEST_TAG) _ _ (inl u)
      (after (fence_begins Revoking format go) next g (fence_begins Revoking format go).file.job
      (fence_goes Revoking format go u.2))

  grants : (go : Going) (next format now : ℕ) (g : Grant) → IsUnder go.file → End (on_grants go next format now g).going
  unfolding on_grants
  grants go next format now g u =
      either (must_fence now go.file.kept.grants g) _ _ (first go next format g u) (given go next g (inl u))

  by_early_row : (go : Going) (next format now : ℕ) (g : Grant) (e : Early) → IsUnder go.file
      → End (by_early go next format now g e).going
  by_early_row go next format now g BadMode u = inl u
  by_early_row go next format now g Invalid u = inl u
  by_early_row go next format now g Unable u = inl u
  by_early_row go next format now g (Waits k) u = inl u
  by_early_row go next format now g On u = grants go next format now g u

  committed : (go : Going) (c : Committed) → IsUnder go.file → End (by_commit go c).going
  committed go NoGrant u = inl u
  committed go Wrong u = inl u
  committed go (Sizes size) u = inl u

  reported : (go : Going) (ks : List ℕ) (cs : List Component) (k : ℕ) → IsUnder go.file
      → IsUnder (reports_from go ks cs k).file
  unfolding reports_from
  reported go ks [] k u = u
  reported go ks (at ∷ cs) k u = reported (noting_if (among k ks) go (Reported k)) ks cs (k + 1) u

  lost : (go : Going) (ks : List ℕ) → IsUnder go.file → IsUnder (takes_loss go ks).file
  unfolding takes_loss
  lost go ks u = reported (with_components go (lose_from ks go.file.kept.components 0)) ks go.file.kept.components 0 u

  returned : (go : Going) (format client : ℕ) (r : Returned) → IsUnder go.file → End (by_return go format client r).going
  returned go format client NotHeld u = inl u
  returned go format client Clean u = inl u
  returned go format client (Taken ks) u = inl (lost go ks u)
  returned go format client TooMany u = inl u
  returned go format client ToFence u = fence_goes Revoking format go u.2

  pub fence_served : (go : Going) (next format now client : ℕ) (args : RequestArgs) → IsUnder go.file
      → End (serves go next format now client args).going
  unfolding gets commits returns_on
  fence_served go next format now client (Get iomode offset count) u = by_early_row go next format now _ _ u
  fence_served go next format now client (Commit last) u = committed go _ u
  fence_served go next format now client (Return report) u = returned go format client _ u
