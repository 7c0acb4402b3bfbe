-- A drive's reply, and a declaration, at a file.
use Rattle.std.proofs.Common.{◌≡◌, ◌⊎◌, ◌≤◌, ◌&&◌, ◌==◌, ℕ, ◌+◌, Bool, true, false, not, find, List, [], ◌∷◌, map, Option, Some, None, refl, sym, ap, subst, ◌∙◌, arith, inl, inr, if◌then◌else◌}
use Rattle.std.proofs.lemmas.Bool.{cases_eq, eq-eqb, ne_eqb}
use Rattle.osd_commands.specs.declared.actions.Action.{Action}
use Rattle.osd_commands.specs.declared.actions.Action.TheVariants.{SetTag}
use Rattle.history_law.specs.Names.{Kept, File, Component, Awaited, Job, Work, Reply, NoteKind, Creates, Fences, Fetches, Stores, Targets, Gathers, Fills, Lengths, Checks, NoSpace}
use Rattle.server_rules.specs.Commands.{again_in_2}
use Rattle.server_rules.specs.Standing.{lose_from}
use Rattle.server_rules.specs.Going.{Going, with_components, noting}
use Rattle.server_rules.specs.Messages.{awaited_by}
use Rattle.server_rules.specs.Jobs.{waits_or_on}
use Rattle.server_rules.specs.Replies.{Hearing, Older, Full, Done, Nothing, is_write, is_done, hearing, others, renewed, renews, fills_up, heard_with, hears, answers, heard_by, heard_in, on_reply}
use Rattle.server_rules.specs.Laws.{In}
use Rattle.server_rules.proofs.Members.{in_mapped, in_map, in_filtered, in_filter}
use Rattle.history_law.specs.Fencing.{Reached, is_fences, is_fencing, Raises, IsAsked, IsFencing, TellsRaised}
use Rattle.history_law.proofs.Lists.{numbered_from}
use Rattle.history_law.proofs.Owned.{one_owned}
use Rattle.history_law.proofs.Quiet.{is_fenced, no_end_behind, quiet_full}
use Rattle.history_law.proofs.Fences.{Goes, GoesFrom, Fencing, WasFencing, IsAsHere, quiet_goes, quiet_fencing, fenced_kind, goes_here, fencing_here, goes_waits, fencing_waits, other_waits, goes_loses, other_loses, goes_left}

-- ---- tests

pub fences_is : (w : Work) → is_fences w ≡ true → w ≡ Fences
fences_is Creates e = absurd (cc e)
fences_is Fences e = refl
fences_is (Fetches ps short) e = absurd (cc e)
fences_is (Stores ps short broken) e = absurd (cc e)
fences_is (Targets t) e = absurd (cc e)
fences_is (Gathers t ps) e = absurd (cc e)
fences_is (Fills t ps) e = absurd (cc e)
fences_is Lengths e = absurd (cc e)
fences_is (Checks ps t) e = absurd (cc e)

pub found_in : (p : Awaited → Bool) (ws : List Awaited) (a : Awaited) → find p ws ≡ Some a → In a ws × (p a ≡ true)
found_in p [] a e = absurd (cc e)
found_in p (x ∷ ws) a e = either (p x) refl (found_in p ws a) e
  where
    same : Some x ≡ Some a → x ≡ a
    same f = cc f

    either : (b : Bool) → p x ≡ b → (find p ws ≡ Some a → In a ws × (p a ≡ true))
        → (if b then Some x else find p ws) ≡ Some a → In a (x ∷ ws) × (p a ≡ true)
    either true is rest f = (inl (sym (same f)), subst (λ (y : Awaited). p y ≡ true) (same f) is)
    either false is rest f = let r = rest f in (inr r.0, r.1)

-- only a WRITE finds no space
pub full_is_write : (f : Kept) (a : Awaited) (r : Reply) → hearing f a r ≡ Full → is_write a.command.action ≡ true
unfolding hearing
full_is_write f a r e = by_old (r.verdict == 17) e
  where
    by_done : (b : Bool) → (if b then Done else Nothing) ≡ Full → is_write a.command.action ≡ true
    by_done true x = absurd (cc x)
    by_done false x = absurd (cc x)

    by_full : (w n : Bool) → w ≡ is_write a.command.action
        → (if w && n then Full else if is_done f a r then Done else Nothing) ≡ Full → is_write a.command.action ≡ true
    by_full true n is x = sym is
    by_full false n is x = by_done (is_done f a r) x

    by_old : (b : Bool)
        → (if b then Older else if is_write a.command.action && (r.verdict == 11) then Full
        else if is_done f a r then Done else Nothing) ≡ Full → is_write a.command.action ≡ true
    by_old true x = absurd (cc x)
    by_old false x = by_full (is_write a.command.action) (r.verdict == 11) refl x

pub done_is_done : (f : Kept) (a : Awaited) (r : Reply) → hearing f a r ≡ Done → is_done f a r ≡ true
unfolding hearing
done_is_done f a r e = by_old (r.verdict == 17) e
  where
    by_done : (b : Bool) → (if b then Done else Nothing) ≡ Done → b ≡ true
    by_done true x = refl
    by_done false x = absurd (cc x)

    by_full : (w : Bool) → (if w then Full else if is_done f a r then Done else Nothing) ≡ Done → is_done f a r ≡ true
    by_full true x = absurd (cc x)
    by_full false x = by_done (is_done f a r) x

    by_old : (b : Bool)
        → (if b then Older else if is_write a.command.action && (r.verdict == 11) then Full
        else if is_done f a r then Done else Nothing) ≡ Done → is_done f a r ≡ true
    by_old true x = absurd (cc x)
    by_old false x = by_full (is_write a.command.action && (r.verdict == 11)) x

-- ---- the command goes again

module _ (a b : Awaited) where
  renewed_by : (t : Bool) (y : Awaited) → ((if t then b else y) ≡ y) ⊎ ((if t then b else y) ≡ b)
  renewed_by true y = inr refl
  renewed_by false y = inl refl

  in_renewed : (ws : List Awaited) (x : Awaited) → In x (map (renewed a b) ws) → In x ws ⊎ (x ≡ b)
  in_renewed ws x i =
      let r = in_mapped (renewed a b) x ws i in
      elim (renewed_by (r.0.command.nonce == a.command.nonce) r.0) [
        | inl old ↦ inl (subst (λ (y : Awaited). In y ws) (sym (r.2 ∙ old)) r.1)
        | inr new ↦ inr (r.2 ∙ new)
      ]

goes_renews : (g : Going) (j : Job) (a : Awaited) → In a j.awaited
    → ((x : Awaited) → In x j.awaited → In x (awaited_by g.file.job)) → GoesFrom g (renews g j a)
goes_renews g j a here there = record {
  number_is = refl;
  tag_is = inl refl;
  fresh = again_in_2 a g.effects.nonce ∷ [];
  sent_is = refl;
  rises = refl;
  numbered = (refl, tt);
  owned = λ was. one_owned (again_in_2 a g.effects.nonce) (was a (there a here));
  waits = λ x i. elim (in_renewed a (again_in_2 a g.effects.nonce) j.awaited x i) [
    | inl old ↦ inl (there x old)
    | inr new ↦ inr (inl new)
  ];
}

-- no other command of the job has the nonce of this one
abbrev pub IsAlone : List Awaited → Awaited → Type 0
IsAlone ws a = (x : Awaited) → In x ws → x.command.nonce ≡ a.command.nonce → x ≡ a

-- what a fence of this tag waits for
record IsLeft (R : Reached) (tag : ℕ) (cs : List Component) (ws : List Awaited) : Type 0 where
  raises : (x : Awaited) → In x ws → Raises tag x
  each : (at : Component) → In at cs → at.missing ≡ false → IsAsked ws at ⊎ (R at.drive at.object (tag + 1) ≡ true)

left_renewed : (R : Reached) (tag : ℕ) (cs : List Component) (ws : List Awaited) (a : Awaited) (n : ℕ) → In a ws
    → IsAlone ws a
    → IsLeft R tag cs ws → IsLeft R tag cs (map (renewed a (again_in_2 a n)) ws)
left_renewed R tag cs ws a n here alone left = record {
  raises = λ x i. elim (in_renewed a b ws x i) [
    | inl old ↦ left.raises x old
    | inr new ↦ subst (Raises tag) (sym new) again
  ];
  each = λ at i there. elim (left.each at i there) [
    | inl (y, k, drive, object) ↦ inl (
      renewed a b y,
      in_map (renewed a b) y ws k,
      same_drive y k ∙ drive,
      same_object y k ∙ object,
    )
    | inr r ↦ inr r
  ];
}
  where
    b : Awaited
    b = again_in_2 a n

    again : Raises tag b
    again = let r = left.raises a here in record { action = r.action; tagged = r.tagged; holder = r.holder }

    same_drive : (y : Awaited) → In y ws → (renewed a b y).drive ≡ y.drive
    same_drive y k = elim (cases_eq y.command.nonce a.command.nonce) [
      | inl e ↦ either (y.command.nonce == a.command.nonce) (ap (λ (x : Awaited). x.drive) (sym (alone y k e)))
      | inr ne ↦ ap (λ (t : Bool). (if t then b else y).drive) (ne_eqb _ _ ne)
    ]
      where
        either : (t : Bool) → a.drive ≡ y.drive → (if t then b else y).drive ≡ y.drive
        either true e = e
        either false e = refl

    same_object : (y : Awaited) → In y ws → (renewed a b y).command.object ≡ y.command.object
    same_object y k = elim (cases_eq y.command.nonce a.command.nonce) [
      | inl e ↦ either (y.command.nonce == a.command.nonce) (ap (λ (x : Awaited). x.command.object) (sym (alone y k e)))
      | inr ne ↦ ap (λ (t : Bool). (if t then b else y).command.object) (ne_eqb _ _ ne)
    ]
      where
        either : (t : Bool) → a.command.object ≡ y.command.object
            → (if t then b else y).command.object ≡ y.command.object
        either true e = e
        either false e = refl

-- ---- the command is answered

left_others : (R : Reached) (tag : ℕ) (cs : List Component) (ws : List Awaited) (a : Awaited) → IsAlone ws a
    → R a.drive a.command.object (tag + 1) ≡ true → IsLeft R tag cs ws → IsLeft R tag cs (others ws a.command.nonce)
left_others R tag cs ws a alone done left = record {
  raises = λ x i. left.raises x (in_filtered _ x ws i).0;
  each = λ at i there. elim (left.each at i there) [
    | inl (y, k, drive, object) ↦ elim (cases_eq y.command.nonce a.command.nonce) [
      | inl e ↦
          let same : y ≡ a = alone y k e in
          inr (
          ap (λ (d : ℕ). R d at.object (tag + 1)) (sym drive)
          ∙ ap (λ (o : ℕ). R y.drive o (tag + 1)) (sym object)
          ∙ ap (λ (x : Awaited). R x.drive x.command.object (tag + 1)) same ∙ done
          )
      | inr ne ↦ inl (y, in_filter _ y ws k (ap not (ne_eqb _ _ ne)), drive, object)
    ]
    | inr r ↦ inr r
  ];
}

-- ---- what is heard

-- behind a note that ends no fence
pub fencing_noted : (R : Reached) (g h : Going) (kind : NoteKind) → is_fenced kind ≡ false
    → Fencing R (noting g kind).effects.notes h → Fencing R g.effects.notes h
fencing_noted R g h kind none f = record {
  fencing = f.fencing;
  ended = λ x tag i e. elim (f.ended x tag i e) [
    | inl there ↦ inl (no_end_behind g.effects.notes g.file.kept.number kind none x there (fenced_kind x tag e))
    | inr own ↦ inr own
  ];
}

goes_full : (g : Going) (j : Job) (a : Awaited) (work : Work) → ((x : Awaited) → In x j.awaited
    → In x (awaited_by g.file.job))
    → GoesFrom g (fills_up g j a work)
goes_full g j a (Targets t) there = quiet_goes _ _ _ _ _ _ _ (quiet_full (IsAsHere g) g t (refl, refl))
goes_full g j a (Gathers t ps) there = quiet_goes _ _ _ _ _ _ _ (quiet_full (IsAsHere g) g t (refl, refl))
goes_full g j a (Fills t ps) there = quiet_goes _ _ _ _ _ _ _ (quiet_full (IsAsHere g) g t (refl, refl))
goes_full g j a work there =
    goes_loses (noting (with_components g (lose_from (a.component ∷ []) g.file.kept.components 0)) (NoSpace
    a.component)) j
    work (others j.awaited a.command.nonce) false (λ x i. there x (in_filtered _ x j.awaited i).0)

other_full : (R : Reached) (g : Going) (j : Job) (a : Awaited) (work : Work) → is_fences work ≡ false
    → is_fencing g.file.job ≡ false → Fencing R g.effects.notes (fills_up g j a work)
other_full R g j a Fences e none = absurd (cc e)
other_full R g j a (Targets t) e none =
    quiet_fencing R _ _ _ _ _ (quiet_full (IsAsHere g) g t (refl, refl))
other_full R g j a (Gathers t ps) e none =
    quiet_fencing R _ _ _ _ _ (quiet_full (IsAsHere g) g t (refl, refl))
other_full R g j a (Fills t ps) e none =
    quiet_fencing R _ _ _ _ _ (quiet_full (IsAsHere g) g t (refl, refl))
other_full R g j a work e none =
    let h : Going = with_components g (lose_from (a.component ∷ []) g.file.kept.components 0) in
    fencing_noted R h _ (NoSpace a.component) refl
    (other_loses R (noting h (NoSpace a.component)) j work (others j.awaited a.command.nonce) false e none)

pub goes_hears : (g : Going) (j : Job) (a : Awaited) (r : Reply) (x : Hearing) → In a j.awaited
    → ((y : Awaited) → In y j.awaited → In y (awaited_by g.file.job)) → GoesFrom g (hears g j a r x)
goes_hears g j a r Older here there = goes_renews g j a here there
goes_hears g j a r Full here there = goes_full g j a j.work there
goes_hears g j a r Done here there =
    goes_waits g j j.work (others j.awaited a.command.nonce) (heard_with j a r) (awaited_by g.file.job)
    (λ y i. there y (in_filtered _ y j.awaited i).0)
goes_hears g j a r Nothing here there = goes_here g

-- ---- what is left when a command is answered

-- the others, or new ones
abbrev pub IsLeftOf : Going → Job → Awaited → Going → Type 0
IsLeftOf g j a h =
    (y : Awaited) → In y (awaited_by h.file.job)
    → In y (others j.awaited a.command.nonce) ⊎ (g.effects.nonce ≤ y.command.nonce)

left_of : (g : Going) (j : Job) (a : Awaited) (h : Going)
    → Goes g.file.kept.number g.file.kept.tag g.effects.nonce g.effects.sent (others j.awaited a.command.nonce) h
    → IsLeftOf g j a h
left_of g j a h x y i = elim (x.waits y i) [
  | inl old ↦ inl old
  | inr new ↦ inr (numbered_from g.effects.nonce x.fresh y x.numbered new).0
]

left_renews : (g : Going) (j : Job) (a : Awaited) → IsLeftOf g j a (renews g j a)
left_renews g j a y i =
    let r = in_mapped (renewed a (again_in_2 a g.effects.nonce)) y j.awaited i in
    elim (cases_eq r.0.command.nonce a.command.nonce) [
      | inl e ↦ inr (newer r.0 e y r.2)
      | inr ne ↦ inl (subst (λ (x : Awaited). In x (others j.awaited a.command.nonce)) (sym (r.2 ∙ same r.0 ne))
          (in_filter _ r.0 j.awaited r.1 (ap not (ne_eqb _ _ ne))))
    ]
  where
    same : (x : Awaited) → (x.command.nonce ≡ a.command.nonce → ⊥) → renewed a (again_in_2 a g.effects.nonce) x ≡ x
    same x ne = ap (λ (t : Bool). if t then again_in_2 a g.effects.nonce else x) (ne_eqb _ _ ne)

    newer : (x : Awaited) → x.command.nonce ≡ a.command.nonce → (z : Awaited)
        → z ≡ renewed a (again_in_2 a g.effects.nonce) x → g.effects.nonce ≤ z.command.nonce
    newer x e z is =
        let it : z ≡ again_in_2 a g.effects.nonce =
        is ∙ ap (λ (t : Bool). if t then again_in_2 a g.effects.nonce else x) (eq-eqb _ _ e) in
        let nonce : z.command.nonce ≡ g.effects.nonce = ap (λ (v : Awaited). v.command.nonce) it in
        omega (arith, nonce)

left_full : (g : Going) (j : Job) (a : Awaited) (work : Work) → IsLeftOf g j a (fills_up g j a work)
left_full g j a (Targets t) =
    left_of g j a _ (quiet_goes _ _ _ _ _ _ _ (quiet_full (IsAsHere g) g t (refl, refl)))
left_full g j a (Gathers t ps) =
    left_of g j a _ (quiet_goes _ _ _ _ _ _ _ (quiet_full (IsAsHere g) g t (refl, refl)))
left_full g j a (Fills t ps) =
    left_of g j a _ (quiet_goes _ _ _ _ _ _ _ (quiet_full (IsAsHere g) g t (refl, refl)))
left_full g j a work =
    left_of g j a _
    (goes_left (noting (with_components g (lose_from (a.component ∷ []) g.file.kept.components 0)) (NoSpace a.component)) j
    work (others j.awaited a.command.nonce) false (others j.awaited a.command.nonce) (λ x i. i) (λ t e. absurd (cc e)))

-- behind a reply that counts
pub left_hears : (g : Going) (j : Job) (a : Awaited) (r : Reply) (x : Hearing) → (x ≡ Nothing → ⊥)
    → IsLeftOf g j a (hears g j a r x)
left_hears g j a r Older counts = left_renews g j a
left_hears g j a r Full counts = left_full g j a j.work
left_hears g j a r Done counts =
    left_of g j a _
    (goes_waits g j j.work (others j.awaited a.command.nonce) (heard_with j a r) (others j.awaited a.command.nonce) (λ y i. i))
left_hears g j a r Nothing counts = absurd (counts refl)

-- a job that is no fence
other_hears : (R : Reached) (g : Going) (j : Job) (a : Awaited) (r : Reply) (x : Hearing) → is_fences j.work ≡ false
    → is_fencing g.file.job ≡ false → Fencing R g.effects.notes (hears g j a r x)
other_hears R g j a r Older e none = record {
  fencing = λ t. absurd (cc (sym t ∙ e));
  ended = λ y tag i t. inl i;
}
other_hears R g j a r Full e none = other_full R g j a j.work e none
other_hears R g j a r Done e none = other_waits R g j j.work (others j.awaited a.command.nonce) (heard_with j a r) e
other_hears R g j a r Nothing e none = fencing_here R g (λ t. absurd (cc (sym t ∙ none)))

set_tag_writes : (a : Action) → a ≡ SetTag → is_write a ≡ true → ⊥
set_tag_writes a is e = cc (sym e ∙ ap is_write is)

-- a fence
fence_hears : (R : Reached) (g : Going) (j : Job) (a : Awaited) (r : Reply) (x : Hearing) → hearing g.file.kept a r ≡ x
    → j.work ≡ Fences → g.file.job ≡ Some j → In a j.awaited → IsAlone j.awaited a
    → (is_done g.file.kept a r ≡ true → R a.drive a.command.object (g.file.kept.tag + 1) ≡ true)
    → IsLeft R g.file.kept.tag g.file.kept.components j.awaited → Fencing R g.effects.notes (hears g j a r x)
fence_hears R g j a r Older is work job here alone done left =
    let rest = left_renewed R g.file.kept.tag g.file.kept.components j.awaited a g.effects.nonce here alone left in
    record {
      fencing = λ e. record { raises = rest.raises; each = rest.each };
      ended = λ y tag i e. inl i;
    }
fence_hears R g j a r Full is work job here alone done left =
    absurd (set_tag_writes a.command.action (left.raises a here).action (full_is_write g.file.kept a r is))
fence_hears R g j a r Done is work job here alone done left =
    let rest = left_others R g.file.kept.tag g.file.kept.components j.awaited a alone
    (done (done_is_done g.file.kept a r is)) left in
    subst (λ (w : Work). Fencing R g.effects.notes (waits_or_on g j w (others j.awaited a.command.nonce) (heard_with j
    a r)))
    (sym work) (fencing_waits R g j (others j.awaited a.command.nonce) (heard_with j a r) rest.raises rest.each)
fence_hears R g j a r Nothing is work job here alone done left =
    record {
      fencing = λ e. record {
        raises = subst (λ (o : Option Job). (x : Awaited) → In x (awaited_by o)
            → Raises g.file.kept.tag x) (sym job) left.raises;
        each = λ at i there. subst (λ (o : Option Job). IsAsked (awaited_by o) at
            ⊎ (R at.drive at.object (g.file.kept.tag + 1) ≡ true))
            (sym job) (left.each at i there);
      };
      ended = λ y tag i e. inl i;
    }

-- ---- a reply at a file

-- where it is an answer, at most one command of the job has its nonce, and it tells truly that a tag was reached
pub record IsTruth (R : Reached) (f : File) (drive : ℕ) (r : Reply) : Type 0 where
  pub alone : (x y : Awaited) → In x (awaited_by f.job) → In y (awaited_by f.job)
      → x.command.nonce ≡ y.command.nonce → x ≡ y
  pub tells : TellsRaised R f drive r

pub data Heard (R : Reached) (g : Going) (drive : ℕ) (r : Reply) : Option Going → Type 0 where
  Unheard : Heard R g drive r None
  IsHeard : (h : Going) → GoesFrom g h
      → (WasFencing R g.file → IsTruth R g.file drive r → Fencing R g.effects.notes h) → Heard R g drive r (Some h)

heard_by_job : (R : Reached) (g : Going) (drive : ℕ) (r : Reply) (j : Job) (o : Option Awaited) → g.file.job ≡ Some j
    → find (answers drive r) j.awaited ≡ o → Heard R g drive r (heard_by g r j o)
heard_by_job R g drive r j None job e = Unheard
heard_by_job R g drive r j (Some a) job e =
    let found = found_in (answers drive r) j.awaited a e in
    IsHeard (hears g j a r (hearing g.file.kept a r))
    (goes_hears g j a r (hearing g.file.kept a r) found.0
    (λ y i. subst (λ (o : Option Job). In y (awaited_by o)) (sym job) i))
    (λ was truth. by_work (is_fences j.work) refl found was truth)
  where
    in_job : (y : Awaited) → In y j.awaited → In y (awaited_by g.file.job)
    in_job y i = subst (λ (o : Option Job). In y (awaited_by o)) (sym job) i

    by_work : (b : Bool) → is_fences j.work ≡ b → In a j.awaited × (answers drive r a ≡ true) → WasFencing R g.file
        → IsTruth R g.file drive r → Fencing R g.effects.notes (hears g j a r (hearing g.file.kept a r))
    by_work false e found was t =
        other_hears R g j a r (hearing g.file.kept a r) e (ap is_fencing job ∙ e)
    by_work true e found was t =
        let was_here : IsFencing R g.file = was (ap is_fencing job ∙ e) in
        fence_hears R g j a r (hearing g.file.kept a r) refl (fences_is j.work e) job found.0
        (λ x i same. t.alone x a (in_job x i) (in_job a found.0) same)
        (λ done. t.tells a (in_job a found.0) (was_here.raises a (in_job a found.0)) found.1 done)
        (record {
          raises = subst (λ (o : Option Job). (x : Awaited) → In x (awaited_by o)
              → Raises g.file.kept.tag x) job was_here.raises;
          each = subst (λ (o : Option Job). (at : Component) → In at g.file.kept.components → at.missing ≡ false
              → IsAsked (awaited_by o) at ⊎ (R at.drive at.object (g.file.kept.tag + 1) ≡ true)) job was_here.each;
        })

heard_in_file : (R : Reached) (g : Going) (drive : ℕ) (r : Reply) (o : Option Job) → g.file.job ≡ o
    → Heard R g drive r (heard_in g drive r o)
heard_in_file R g drive r None e = Unheard
heard_in_file R g drive r (Some j) e = heard_by_job R g drive r j (find (answers drive r) j.awaited) e refl

pub heard_reply : (R : Reached) (g : Going) (drive : ℕ) (r : Reply) → Heard R g drive r (on_reply g drive r)
unfolding on_reply
heard_reply R g drive r = heard_in_file R g drive r g.file.job refl
