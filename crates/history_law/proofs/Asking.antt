-- The three requests, a declaration, and an opening, at a file.
use Rattle.std.proofs.Common.{◌≡◌, ◌⊎◌, ◌==◌, ◌||◌, ℕ, ◌+◌, Bool, true, false, not, List, [], ◌∷◌, Option, Some, None, refl, sym, ap, subst, ◌∙◌, inl, inr, if◌then◌else◌}
use Rattle.std.proofs.lemmas.Bool.{eq-eqb, ne_eqb}
use Rattle.server_rules.specs.declared.limits.TheConstants.{GREATEST_TAG}
use Rattle.history_law.specs.Names.{Grant, Component, Job, Work, NoteKind, Revoking, Fences, Spent, Reported, RequestArgs, Get, Commit, Return}
use Rattle.server_rules.specs.Standing.{any_on, lose_on, lose_from}
use Rattle.server_rules.specs.Numbers.{among}
use Rattle.server_rules.specs.Going.{Going, over, keeping, with_components, noting, noting_if}
use Rattle.server_rules.specs.Messages.{awaited_by}
use Rattle.server_rules.specs.Jobs.{fence_begins, loses, is_target, targets, others_than, declared_in, declares}
use Rattle.server_rules.specs.Served.{Served}
use Rattle.server_rules.specs.Get.{Early, BadMode, Invalid, Unable, Waits, On, Late, NoNumber, Lacks, Conflict, Gives, by_late, late, give_or_refuse, after_fence, fence_first, on_grants, must_fence, by_early, gets}
use Rattle.server_rules.specs.Commit.{Committed, NoGrant, Wrong, Sizes, by_commit, commits}
use Rattle.server_rules.specs.Return.{Returned, NoGrant as NotHeld, Clean, Taken, TooMany, Fencing as ToFence, reports_from, takes_loss, ends_grant, by_return, returns_on}
use Rattle.server_rules.specs.Requests.{serves}
use Rattle.server_rules.specs.Openings.{opens, opens_made, opens_spent, opens_fenced, is_unsettled}
use Rattle.server_rules.specs.Laws.{In}
use Rattle.server_rules.proofs.Members.{in_filtered, in_filter}
use Rattle.history_law.specs.Fencing.{Reached, is_fences, is_fencing, Raises, IsAsked, IsFencing}
use Rattle.history_law.proofs.Quiet.{is_fenced, NoEnd, no_end_behind, quiet_over}
use Rattle.history_law.proofs.Fences.{Fencing, WasFencing, Handled, IsAsHere, quiet_handled, fenced_kind, handled_here, handled_fence, handled_making, fencing_waits, goes_loses, other_loses}
use Rattle.history_law.proofs.Hearing.{fences_is}

-- ---- what stays

-- nothing of it changes that a fence asks for, and it sends nothing more
pub record Stays (g h : Going) : Type 0 where
  pub job : h.file.job ≡ g.file.job
  pub number : h.file.kept.number ≡ g.file.kept.number
  pub tag : h.file.kept.tag ≡ g.file.kept.tag
  pub components : (at : Component) → In at h.file.kept.components → at.missing ≡ false → In at g.file.kept.components
  pub sent : h.effects.sent ≡ g.effects.sent
  pub nonce : h.effects.nonce ≡ g.effects.nonce
  pub notes : NoEnd g.effects.notes h.effects.notes

fencing_stays : (R : Reached) (g h : Going) → Stays g h → IsFencing R g.file → IsFencing R h.file
fencing_stays R g h s f = record {
  raises = λ a i. subst (λ (t : ℕ). Raises t a) (sym s.tag)
      (f.raises a (subst (λ (o : Option Job). In a (awaited_by o)) s.job i));
  each = λ at i there.
      subst (λ (o : Option Job). IsAsked (awaited_by o) at ⊎ (R at.drive at.object (h.file.kept.tag + 1) ≡ true))
      (sym s.job)
      (subst (λ (t : ℕ). IsAsked (awaited_by g.file.job) at ⊎ (R at.drive at.object (t + 1) ≡ true)) (sym s.tag)
      (f.each at (s.components at i there) there));
}

-- behind what was handled
pub handled_stays : (R : Reached) (g h k : Going) → Handled R g h → Stays h k → Handled R g k
handled_stays R g h k d s = record {
  goes = record {
    number_is = s.number ∙ d.goes.number_is;
    tag_is = elim d.goes.tag_is [ inl e ↦ inl (s.tag ∙ e) | inr e ↦ inr (s.tag ∙ e) ];
    fresh = d.goes.fresh;
    sent_is = s.sent ∙ d.goes.sent_is;
    rises = s.nonce ∙ d.goes.rises;
    numbered = d.goes.numbered;
    owned = d.goes.owned;
    waits = λ a i. d.goes.waits a (subst (λ (o : Option Job). In a (awaited_by o)) s.job i);
  };
  fences = λ was. let f = d.fences was in record {
    fencing = λ e. fencing_stays R h k s (f.fencing (ap is_fencing (sym s.job) ∙ e));
    ended = λ x tag i e. elim (f.ended x tag (s.notes x i (fenced_kind x tag e)) e) [
      | inl there ↦ inl there
      | inr (file, own, all) ↦ inr (
        file ∙ sym s.number,
        s.tag
            ∙ own,
        λ at j there. all at (s.components at j there) there,
      )
    ];
  };
}

stays_here : (g : Going) → Stays g g
stays_here g = record {
  job = refl;
  number = refl;
  tag = refl;
  components = λ at i there. i;
  sent = refl;
  nonce = refl;
  notes = λ x i e. i;
}

stays_noted : (g : Going) (kind : NoteKind) → is_fenced kind ≡ false → Stays g (noting g kind)
stays_noted g kind none = record {
  job = refl;
  number = refl;
  tag = refl;
  components = λ at i there. i;
  sent = refl;
  nonce = refl;
  notes = no_end_behind g.effects.notes g.file.kept.number kind none;
}

pub handled_noted : (R : Reached) (g : Going) (kind : NoteKind) → is_fenced kind ≡ false → Handled R g (noting g kind)
handled_noted R g kind none = handled_stays R g g (noting g kind) (handled_here R g) (stays_noted g kind none)

-- ---- LAYOUTGET

stays_late : (go : Going) (g : Grant) (l : Late) → Stays go (by_late go g l).going
stays_late go g NoNumber = stays_here go
stays_late go g (Lacks k) = stays_here go
stays_late go g (Conflict holder) = stays_here go
stays_late go g Gives = record {
  job = refl;
  number = refl;
  tag = refl;
  components = λ at i there. i;
  sent = refl;
  nonce = refl;
  notes = λ x i e. i;
}

stays_given : (go : Going) (next : ℕ) (g : Grant) → Stays go (give_or_refuse go next g).going
unfolding give_or_refuse
stays_given go next g = stays_late go g (late go.file.kept next g)

stays_after : (go : Going) (next : ℕ) (g : Grant) (j : Option Job) → Stays go (after_fence go next g j).going
stays_after go next g None = stays_given go next g
stays_after go next g (Some j) = stays_here go

either_served : (R : Reached) (go : Going) (b : Bool) (x y : Served) → Handled R go x.going → Handled R go y.going
    → Handled R go (if b then x else y).going
either_served R go true x y p q = p
either_served R go false x y p q = q

handled_first : (R : Reached) (go : Going) (next format : ℕ) (g : Grant)
    → Handled R go (fence_first go next format g).going
unfolding fence_first
handled_first R go next format g =
    either_served R go (go.file.kept.tag == GREATEST_TAG) _ _ (handled_noted R go Spent refl)
    (handled_stays R go (fence_begins Revoking format go) _ (handled_fence R Revoking format go)
    (stays_after (fence_begins Revoking format go) next g (fence_begins Revoking format go).file.job))

handled_grants : (R : Reached) (go : Going) (next format now : ℕ) (g : Grant)
    → Handled R go (on_grants go next format now g).going
unfolding on_grants
handled_grants R go next format now g =
    either_served R go (must_fence now go.file.kept.grants g) _ _ (handled_first R go next format g)
    (handled_stays R go go _ (handled_here R go) (stays_given go next g))

handled_early : (R : Reached) (go : Going) (next format now : ℕ) (g : Grant) (e : Early)
    → Handled R go (by_early go next format now g e).going
handled_early R go next format now g BadMode = handled_here R go
handled_early R go next format now g Invalid = handled_here R go
handled_early R go next format now g Unable = handled_here R go
handled_early R go next format now g (Waits k) = handled_here R go
handled_early R go next format now g On = handled_grants R go next format now g

-- ---- LAYOUTCOMMIT and LAYOUTRETURN

stays_commit : (go : Going) (c : Committed) → Stays go (by_commit go c).going
stays_commit go NoGrant = stays_here go
stays_commit go Wrong = stays_here go
stays_commit go (Sizes size) = record {
  job = refl;
  number = refl;
  tag = refl;
  components = λ at i there. i;
  sent = refl;
  nonce = refl;
  notes = λ x i e. i;
}

-- those that are lost are missing, and all others stay
lost_or : (b : Bool) (at x : Component) (xs ys : List Component) → (In at xs → at.missing ≡ false → In at ys)
    → In at ((if b then record x { missing = true } else x) ∷ xs) → at.missing ≡ false → In at (x ∷ ys)
lost_or true at x xs ys rest (inl e) there = absurd (cc (sym there ∙ ap (λ (y : Component). y.missing) e))
lost_or false at x xs ys rest (inl e) there = inl e
lost_or true at x xs ys rest (inr i) there = inr (rest i there)
lost_or false at x xs ys rest (inr i) there = inr (rest i there)

pub in_lost_from : (ks : List ℕ) (cs : List Component) (k : ℕ) (at : Component) → In at (lose_from ks cs k)
    → at.missing ≡ false → In at cs
unfolding lose_from
in_lost_from ks [] k at i there = absurd i
in_lost_from ks (x ∷ cs) k at i there =
    lost_or (among k ks) at x (lose_from ks cs (k + 1)) cs (in_lost_from ks cs (k + 1) at) i there

pub in_lost_on : (drive : ℕ) (cs : List Component) (at : Component) → In at (lose_on drive cs) → at.missing ≡ false
    → In at cs × (at.drive ≡ drive → ⊥)
unfolding lose_on
in_lost_on drive [] at i there = absurd i
in_lost_on drive (x ∷ cs) at (inl e) there = here (x.drive == drive) (λ same. ne_eqb_not x.drive drive same) e
  where
    ne_eqb_not : (a b : ℕ) → (a == b) ≡ false → a ≡ b → ⊥
    ne_eqb_not a b e same = cc (sym e ∙ eq-eqb a b same)

    here : (b : Bool) → (b ≡ false → x.drive ≡ drive → ⊥) → at ≡ (if b then record x { missing = true } else x)
        → In at (x ∷ cs) × (at.drive ≡ drive → ⊥)
    here true other e = absurd (cc (sym there ∙ ap (λ (y : Component). y.missing) e))
    here false other e = (inl e, λ same. other refl (ap (λ (y : Component). y.drive) (sym e) ∙ same))
in_lost_on drive (x ∷ cs) at (inr i) there =
    let r = in_lost_on drive cs at i there in (inr r.0, r.1)

if_noted : (b : Bool) (go : Going) (kind : NoteKind) → is_fenced kind ≡ false
    → NoEnd go.effects.notes (if b then (noting go kind).effects.notes else go.effects.notes)
if_noted true go kind none = no_end_behind go.effects.notes go.file.kept.number kind none
if_noted false go kind none = λ x i e. i

stays_then : (g h k : Going) → Stays g h → Stays h k → Stays g k
stays_then g h k a b = record {
  job = b.job ∙ a.job;
  number = b.number ∙ a.number;
  tag = b.tag ∙ a.tag;
  components = λ at i there. a.components at (b.components at i there) there;
  sent = b.sent ∙ a.sent;
  nonce = b.nonce ∙ a.nonce;
  notes = λ x i e. a.notes x (b.notes x i e) e;
}

stays_if_noted : (b : Bool) (g : Going) (kind : NoteKind) → is_fenced kind ≡ false → Stays g (noting_if b g kind)
stays_if_noted b g kind none = record {
  job = refl;
  number = refl;
  tag = refl;
  components = λ at i there. i;
  sent = refl;
  nonce = refl;
  notes = if_noted b g kind none;
}

stays_reports : (go : Going) (ks : List ℕ) (cs : List Component) (k : ℕ) → Stays go (reports_from go ks cs k)
unfolding reports_from
stays_reports go ks [] k = stays_here go
stays_reports go ks (at ∷ cs) k =
    stays_then go (noting_if (among k ks) go (Reported k)) _ (stays_if_noted (among k ks) go (Reported k) refl)
    (stays_reports (noting_if (among k ks) go (Reported k)) ks cs (k + 1))

stays_lost : (go : Going) (ks : List ℕ) → Stays go (takes_loss go ks)
unfolding takes_loss
stays_lost go ks =
    let h : Going = keeping go (record go.file.kept { components = lose_from ks go.file.kept.components 0 }) in
    stays_then go h _ (record {
      job = refl;
      number = refl;
      tag = refl;
      components = in_lost_from ks go.file.kept.components 0;
      sent = refl;
      nonce = refl;
      notes = λ x i e. i;
    }) (stays_reports h ks go.file.kept.components 0)

stays_ended : (go : Going) (client : ℕ) → Stays go (ends_grant go client)
stays_ended go client = record {
  job = refl;
  number = refl;
  tag = refl;
  components = λ at i there. i;
  sent = refl;
  nonce = refl;
  notes = λ x i e. i;
}

handled_return : (R : Reached) (go : Going) (format client : ℕ) (r : Returned)
    → Handled R go (by_return go format client r).going
handled_return R go format client NotHeld = handled_here R go
handled_return R go format client Clean = handled_stays R go go _ (handled_here R go) (stays_ended go client)
handled_return R go format client (Taken ks) =
    handled_stays R go go _ (handled_here R go)
    (stays_then go (takes_loss go ks) _ (stays_lost go ks) (stays_ended (takes_loss go ks) client))
handled_return R go format client TooMany = handled_noted R go Spent refl
handled_return R go format client ToFence = handled_fence R Revoking format go

-- ---- a request

pub handled_served : (R : Reached) (go : Going) (next format now client : ℕ) (args : RequestArgs)
    → Handled R go (serves go next format now client args).going
unfolding gets commits returns_on
handled_served R go next format now client (Get iomode offset count) = handled_early R go next format now _ _
handled_served R go next format now client (Commit last) =
    handled_stays R go go _ (handled_here R go) (stays_commit go _)
handled_served R go next format now client (Return report) = handled_return R go format client _

-- ---- a declaration

-- behind a declaration what is left is awaited of each component that isn't missing
fence_declared : (R : Reached) (g : Going) (j : Job) (drive : ℕ) (gone : Bool) → g.file.job ≡ Some j → j.work ≡ Fences
    → IsFencing R g.file
    → Fencing R g.effects.notes
    (loses (with_components g (lose_on drive g.file.kept.components)) j Fences (others_than drive j.awaited) gone)
unfolding loses
fence_declared R g j drive gone job work f =
    fencing_waits R (with_components g (lose_on drive g.file.kept.components)) j (others_than drive j.awaited) j.heard
    (λ a i. f.raises a (subst (λ (o : Option Job). In a (awaited_by o)) (sym job) (in_filtered _ a j.awaited i).0))
    (λ at i there.
    let was = in_lost_on drive g.file.kept.components at i there in
    elim (subst (λ (o : Option Job). IsAsked (awaited_by o) at
    ⊎ (R at.drive at.object (g.file.kept.tag + 1) ≡ true)) job
    (f.each at was.0 there)) [
      | inl (a, k, own, object) ↦ inl (
        a,
        in_filter _ a j.awaited k (ap not (ne_eqb a.drive drive (λ (e : a.drive ≡ drive). was.1 (sym own ∙ e)))),
        own,
        object,
      )
      | inr r ↦ inr r
    ])

handled_declared : (R : Reached) (g : Going) (drive : ℕ) (o : Option Job) → g.file.job ≡ o
    → Handled R g (declared_in (with_components g (lose_on drive g.file.kept.components)) drive o)
handled_declared R g drive None job =
    handled_stays R g g _ (handled_here R g) (record {
      job = refl;
      number = refl;
      tag = refl;
      components = λ at i there. (in_lost_on drive g.file.kept.components at i there).0;
      sent = refl;
      nonce = refl;
      notes = λ x i e. i;
    })
handled_declared R g drive (Some j) job = record {
  goes = goes_loses h j j.work (others_than drive j.awaited) (is_target j.work drive)
      (λ a i. subst (λ (o : Option Job). In a (awaited_by o)) (sym job) (in_filtered _ a j.awaited i).0);
  fences = by_work (is_fences j.work) refl;
}
  where
    h : Going
    h = with_components g (lose_on drive g.file.kept.components)

    by_work : (b : Bool) → is_fences j.work ≡ b → WasFencing R g.file
        → Fencing R g.effects.notes (loses h j j.work (others_than drive j.awaited) (is_target j.work drive))
    by_work false e was =
        other_loses R h j j.work (others_than drive j.awaited) (is_target j.work drive) e (ap is_fencing job ∙ e)
    by_work true e was =
        subst (λ (w : Work). Fencing R g.effects.notes (loses h j w (others_than drive j.awaited) (is_target j.work
        drive)))
        (sym (fences_is j.work e))
        (fence_declared R g j drive (is_target j.work drive) job (fences_is j.work e) (was (ap is_fencing job ∙ e)))

either_going : (R : Reached) (g : Going) (b : Bool) (x y : Going) → Handled R g x → Handled R g y
    → Handled R g (if b then x else y)
either_going R g true x y p q = p
either_going R g false x y p q = q

pub handled_declares : (R : Reached) (g : Going) (drive : ℕ) → Handled R g (declares g drive)
unfolding declares
handled_declares R g drive =
    either_going R g (any_on drive g.file.kept.components || targets g.file.job drive) _ _
    (handled_declared R g drive g.file.job refl) (handled_here R g)

-- ---- an opening

opened_made : (R : Reached) (g : Going) (ready : Bool) → Handled R g (opens_made g ready)
opened_made R g true = quiet_handled R g (over g) (quiet_over (IsAsHere g) g (refl, refl))
opened_made R g false = handled_making R g

opened_spent : (R : Reached) (g : Going) → Handled R g (opens_spent g)
opened_spent R g = handled_stays R g g (opens_spent g) (handled_here R g) (record {
  job = refl;
  number = refl;
  tag = refl;
  components = λ at i there. i;
  sent = refl;
  nonce = refl;
  notes = no_end_behind g.effects.notes g.file.kept.number Spent refl;
})

opened_fenced : (R : Reached) (format : ℕ) (g : Going) → Handled R g (opens_fenced format g)
unfolding opens_fenced
opened_fenced R format g =
    either_going R g (g.file.kept.tag == GREATEST_TAG) _ _ (opened_spent R g) (handled_fence R Revoking format g)

pub handled_opened : (R : Reached) (format : ℕ) (g : Going) → Handled R g (opens format g)
unfolding opens
handled_opened R format g =
    either_going R g (is_unsettled g.file.kept) _ _ (opened_fenced R format g) (opened_made R g g.file.kept.ready)
