-- What a file's job awaits, by its work, while each component that isn't missing has its object or gets it.
use Rattle.std.proofs.Common.{◌≡◌, ℕ, ◌+◌, Bool, true, false, not, List, [], Option, Some, None, map, refl, sym, ap, subst, ◌∙◌, inl, inr}
use Rattle.osd_commands.specs.declared.actions.Action.TheVariants.{Create}
use Rattle.server_rules.specs.Commands.{again_in_2}
use Rattle.server_rules.specs.Jobs.{others_than}
use Rattle.server_rules.specs.Laws.{In}
use Rattle.server_rules.specs.Messages.{awaited_by}
use Rattle.server_rules.specs.Replies.{others, renewed}
use Rattle.server_rules.specs.Standing.{lose_on}
use Rattle.history_law.specs.Names.{File, Component, Awaited, Target, Job, Work, Creates, Fences, Targets, Gathers, Fills}
use Rattle.history_law.specs.Fencing.{Reached, is_fences, is_fencing, Raises, IsFencing}
use Rattle.history_law.proofs.Asking.{in_lost_on}
use Rattle.history_law.proofs.Hearing.{IsAlone}
use Rattle.component_law.specs.Objects.{target_in, target_of}
use Rattle.component_law.specs.Standing.{IsCreate, makes_objects, is_making, is_creates, is_new, IsUnmade, IsStanding}
use Rattle.component_law.proofs.StandAwaited.{AllAre, IsOther, filtered_are, renewed_are, IsSought, sought_others, sought_renewed, sought_than}

-- ---- components

-- so it is with each that isn't missing
abbrev pub EachPresent : (Component → Type 0) → List Component → Type 0
EachPresent S cs = (at : Component) → In at cs → at.missing ≡ false → S at

-- the objects that have reached the tag
abbrev pub reach : Reached → (tag drive object : ℕ) → Bool
reach R tag drive object = R drive object tag

abbrev pub AllReach : Reached → (tag : ℕ) → List Component → Type 0
AllReach R tag cs = EachPresent (λ (at : Component). R at.drive at.object tag ≡ true) cs

-- the object's CREATE is awaited, or it has reached the tag
abbrev pub IsMade : Reached → (tag : ℕ) → List Awaited → (drive object : ℕ) → Type 0
IsMade R tag ws drive object = IsSought (IsCreate tag) (reach R tag) ws drive object

abbrev pub AllMade : Reached → (tag : ℕ) → List Awaited → List Component → Type 0
AllMade R tag ws cs = EachPresent (λ (at : Component). IsMade R tag ws at.drive at.object) cs

-- its SET TAG is awaited, or it has reached the next tag
abbrev pub AllRise : Reached → (tag : ℕ) → List Awaited → List Component → Type 0
AllRise R tag ws cs =
    EachPresent (λ (at : Component). IsSought (Raises tag) (reach R (tag + 1)) ws at.drive at.object) cs

-- where it is a CREATE, it is one under that tag
abbrev pub IsTagged : (tag : ℕ) → Awaited → Type 0
IsTagged tag a = a.command.action ≡ Create → IsCreate tag a

-- all of these that aren't missing are among those
abbrev pub IsPart : (ds cs : List Component) → Type 0
IsPart ds cs = (at : Component) → In at ds → at.missing ≡ false → In at cs

-- ---- a job

-- The file is ready, and each component that isn't missing has reached the tag: so it is but while a new file is made.
-- What is kept of that one is `unmade`.
abbrev pub IsOwn : Reached → (tag : ℕ) → List Component → (ready : Bool) → Type 0
IsOwn R tag cs ready = (ready ≡ true) × AllReach R tag cs

abbrev pub IsNew : (ready : Bool) → (unmade : Type 0) → Type 0
IsNew ready unmade = unmade × (ready ≡ false)

abbrev pub Holds : Reached → (tag : ℕ) → List Component → (ready : Bool) → (unmade : Type 0) → Work → List Awaited → Type 0
Holds R tag cs ready unmade Creates ws = IsNew ready unmade × AllMade R tag ws cs × AllAre (IsTagged tag) ws
Holds R tag cs ready unmade Fences ws = IsOwn R tag cs ready × AllAre (Raises tag) ws × AllRise R tag ws cs
Holds R tag cs ready unmade (Targets t) ws =
    IsOwn R tag cs ready × AllAre (IsTagged tag) ws × IsMade R tag ws t.drive t.object
Holds R tag cs ready unmade (Gathers t todo) ws =
    IsOwn R tag cs ready × AllAre IsOther ws × (R t.drive t.object tag ≡ true)
Holds R tag cs ready unmade (Fills t todo) ws =
    IsOwn R tag cs ready × AllAre IsOther ws × (R t.drive t.object tag ≡ true)
Holds R tag cs ready unmade work ws = IsOwn R tag cs ready × AllAre IsOther ws

-- without a job all is there
abbrev pub Ends : Reached → (tag : ℕ) → List Component → (ready : Bool) → (unmade : Type 0) → Option Job → Type 0
Ends R tag cs ready unmade None = IsOwn R tag cs ready
Ends R tag cs ready unmade (Some j) = Holds R tag cs ready unmade j.work j.awaited

abbrev pub FileEnds : Reached → File → Type 0
FileEnds R f = Ends R f.kept.tag f.kept.components f.kept.ready (IsUnmade f.kept) f.job

-- what is left where components became missing; of a target that is gone nothing is
abbrev pub Lasts : Reached → (tag : ℕ) → List Component → (ready : Bool) → (unmade : Type 0) → Work → List Awaited → Type 0
Lasts R tag cs ready unmade (Targets t) rest = IsOwn R tag cs ready
Lasts R tag cs ready unmade work rest = Holds R tag cs ready unmade work rest

-- ---- an answer

module _ (R : Reached) (tag : ℕ) (cs : List Component) (ready : Bool) (unmade : Type 0) where
  -- the command is answered
  pub holds_others : (work : Work) (ws : List Awaited) (a : Awaited) → IsAlone ws a
      → (Raises tag a → R a.drive a.command.object (tag + 1) ≡ true)
      → (IsCreate tag a → R a.drive a.command.object tag ≡ true) → Holds R tag cs ready unmade work ws
      → Holds R tag cs ready unmade work (others ws a.command.nonce)
  holds_others Creates ws a alone raised made h = (
    h.0,
    λ at i there. sought_others (IsCreate tag) (reach R tag) ws a alone made at.drive at.object (h.1 at i there),
    filtered_are (IsTagged tag) _ ws h.2,
  )
  holds_others Fences ws a alone raised made h = (
    h.0,
    filtered_are (Raises tag) _ ws h.1,
    λ at i there. sought_others (Raises tag) (reach R (tag + 1)) ws a alone raised at.drive at.object (h.2 at i there),
  )
  holds_others (Targets t) ws a alone raised made h = (
    h.0,
    filtered_are (IsTagged tag) _ ws h.1,
    sought_others (IsCreate tag) (reach R tag) ws a alone made t.drive t.object h.2,
  )
  holds_others (Gathers t todo) ws a alone raised made h = (h.0, filtered_are IsOther _ ws h.1, h.2)
  holds_others (Fills t todo) ws a alone raised made h = (h.0, filtered_are IsOther _ ws h.1, h.2)
  holds_others work ws a alone raised made h = (h.0, filtered_are IsOther _ ws h.1)

  tagged_again : (a : Awaited) (n : ℕ) → IsTagged tag a → IsTagged tag (again_in_2 a n)
  tagged_again a n h e = let x = h e in record { action = x.action; tagged = x.tagged; holder = x.holder }

  create_again : (a : Awaited) (n : ℕ) → IsCreate tag a → IsCreate tag (again_in_2 a n)
  create_again a n x = record { action = x.action; tagged = x.tagged; holder = x.holder }

  raises_again : (a : Awaited) (n : ℕ) → Raises tag a → Raises tag (again_in_2 a n)
  raises_again a n x = record { action = x.action; tagged = x.tagged; holder = x.holder }

  -- the command goes again
  pub holds_renewed : (work : Work) (ws : List Awaited) (a : Awaited) (n : ℕ) → In a ws → IsAlone ws a
      → Holds R tag cs ready unmade work ws → Holds R tag cs ready unmade work (map (renewed a (again_in_2 a n)) ws)
  holds_renewed Creates ws a n i alone h = (
    h.0,
    λ at j there.
        sought_renewed (IsCreate tag) (reach R tag) ws a n alone (create_again a n) at.drive at.object (h.1 at j there),
    renewed_are (IsTagged tag) ws a n (tagged_again a n (h.2 a i)) h.2,
  )
  holds_renewed Fences ws a n i alone h = (
    h.0,
    renewed_are (Raises tag) ws a n (raises_again a n (h.1 a i)) h.1,
    λ at j there.
        sought_renewed (Raises tag) (reach R (tag + 1)) ws a n alone (raises_again a n) at.drive at.object
        (h.2 at j there),
  )
  holds_renewed (Targets t) ws a n i alone h = (
    h.0,
    renewed_are (IsTagged tag) ws a n (tagged_again a n (h.1 a i)) h.1,
    sought_renewed (IsCreate tag) (reach R tag) ws a n alone (create_again a n) t.drive t.object h.2,
  )
  holds_renewed (Gathers t todo) ws a n i alone h = (h.0, renewed_are IsOther ws a n (h.1 a i) h.1, h.2)
  holds_renewed (Fills t todo) ws a n i alone h = (h.0, renewed_are IsOther ws a n (h.1 a i) h.1, h.2)
  holds_renewed work ws a n i alone h = (h.0, renewed_are IsOther ws a n (h.1 a i) h.1)

  -- ---- components that are lost

  pub part_present : (S : Component → Type 0) (ds : List Component) → IsPart ds cs → EachPresent S cs
      → EachPresent S ds
  part_present S ds part h at i there = h at (part at i there) there

  own_part : (ds : List Component) → IsPart ds cs → IsOwn R tag cs ready → IsOwn R tag ds ready
  own_part ds part h = (h.0, λ at i there. h.1 at (part at i there) there)

  pub holds_lost : (ds : List Component) (work : Work) (ws : List Awaited) → IsPart ds cs
      → Holds R tag cs ready unmade work ws → Holds R tag ds ready unmade work ws
  holds_lost ds Creates ws part h = (h.0, part_present _ ds part h.1, h.2)
  holds_lost ds Fences ws part h = (own_part ds part h.0, h.1, part_present _ ds part h.2)
  holds_lost ds (Targets t) ws part h = (own_part ds part h.0, h.1, h.2)
  holds_lost ds (Gathers t todo) ws part h = (own_part ds part h.0, h.1, h.2)
  holds_lost ds (Fills t todo) ws part h = (own_part ds part h.0, h.1, h.2)
  holds_lost ds work ws part h = (own_part ds part h.0, h.1)

  pub ends_lost : (ds : List Component) (o : Option Job) → IsPart ds cs → Ends R tag cs ready unmade o
      → Ends R tag ds ready unmade o
  ends_lost ds None part h = own_part ds part h
  ends_lost ds (Some j) part h = holds_lost ds j.work j.awaited part h

  pub lasts : (work : Work) (ws : List Awaited) → Holds R tag cs ready unmade work ws → Lasts R tag cs ready unmade work ws
  lasts (Targets t) ws h = h.0
  lasts work ws h = h

  -- a drive is declared, and what is awaited of it
  declared_part : (drive : ℕ) → IsPart (lose_on drive cs) cs
  declared_part drive at i there = (in_lost_on drive cs at i there).0

  pub lasts_declared : (drive : ℕ) (work : Work) (ws : List Awaited) → Holds R tag cs ready unmade work ws
      → Lasts R tag (lose_on drive cs) ready unmade work (others_than drive ws)
  lasts_declared drive Creates ws h = (
    h.0,
    λ at i there.
        let was = in_lost_on drive cs at i there in
        sought_than (IsCreate tag) (reach R tag) ws drive at.drive at.object was.1 (h.1 at was.0 there),
    filtered_are (IsTagged tag) _ ws h.2,
  )
  lasts_declared drive Fences ws h = (
    own_part (lose_on drive cs) (declared_part drive) h.0,
    filtered_are (Raises tag) _ ws h.1,
    λ at i there.
        let was = in_lost_on drive cs at i there in
        sought_than (Raises tag) (reach R (tag + 1)) ws drive at.drive at.object was.1 (h.2 at was.0 there),
  )
  lasts_declared drive (Targets t) ws h = own_part (lose_on drive cs) (declared_part drive) h.0
  lasts_declared drive (Gathers t todo) ws h =
      (own_part (lose_on drive cs) (declared_part drive) h.0, filtered_are IsOther _ ws h.1, h.2)
  lasts_declared drive (Fills t todo) ws h =
      (own_part (lose_on drive cs) (declared_part drive) h.0, filtered_are IsOther _ ws h.1, h.2)
  lasts_declared drive work ws h =
      (own_part (lose_on drive cs) (declared_part drive) h.0, filtered_are IsOther _ ws h.1)

  pub ends_declared : (drive : ℕ) (o : Option Job) → Ends R tag cs ready unmade o → Ends R tag (lose_on drive cs) ready unmade o
  ends_declared drive o h = ends_lost (lose_on drive cs) o (declared_part drive) h

  -- ---- grants

  -- a file with a grant waits for no CREATE
  holds_granted : (work : Work) (ws : List Awaited) → (unmade → ⊥) → Holds R tag cs ready unmade work ws
      → IsOwn R tag cs ready
  holds_granted Creates ws some h = absurd (some h.0.0)
  holds_granted work ws some h = h.0

  pub ends_granted : (o : Option Job) → (unmade → ⊥) → Ends R tag cs ready unmade o → IsOwn R tag cs ready
  ends_granted None some h = h
  ends_granted (Some j) some h = holds_granted j.work j.awaited some h

  -- a grant goes
  holds_without : (rest : Type 0) (work : Work) (ws : List Awaited) → (unmade → rest)
      → Holds R tag cs ready unmade work ws → Holds R tag cs ready rest work ws
  holds_without rest Creates ws none h = ((none h.0.0, h.0.1), h.1, h.2)
  holds_without rest work ws none h = h

  pub ends_without : (rest : Type 0) (o : Option Job) → (unmade → rest) → Ends R tag cs ready unmade o
      → Ends R tag cs ready rest o
  ends_without rest None none h = h
  ends_without rest (Some j) none h = holds_without rest j.work j.awaited none h

-- ---- a file that stands

-- the file stands, where its job makes objects or doesn't, awaits these, has that target, and is a new file's or isn't
abbrev pub Stands : Reached → (tag : ℕ) → List Component → (ready : Bool) → (unmade : Type 0) → (making : Bool)
    → List Awaited → Option Target → (new : Bool) → Type 0
Stands R tag cs ready unmade making ws target new =
    (making ≡ false → AllAre IsOther ws) × AllAre (IsTagged tag) ws × AllMade R tag ws cs
    × ((t : Target) → target ≡ Some t → IsMade R tag ws t.drive t.object) × (new ≡ not ready)
    × (ready ≡ true → AllReach R tag cs) × (ready ≡ false → unmade)

is_ready : (ready : Bool) → false ≡ not ready → ready ≡ true
is_ready true e = refl
is_ready false e = absurd (cc e)

not_ready : (ready : Bool) → true ≡ not ready → ready ≡ false
not_ready true e = absurd (cc e)
not_ready false e = refl

module _ (R : Reached) (tag : ℕ) (cs : List Component) (ready : Bool) (unmade : Type 0) where
  -- no CREATE is awaited
  reached : (ws : List Awaited) (drive object : ℕ) → AllAre IsOther ws → IsMade R tag ws drive object
      → R drive object tag ≡ true
  reached ws drive object others s = elim s [
    | inl (a, i, create, own, its) ↦ absurd (others a i create.action)
    | inr r ↦ r
  ]

  own : false ≡ not ready → (ready ≡ true → AllReach R tag cs) → IsOwn R tag cs ready
  own e made = let r = is_ready ready e in (r, made r)

  into_work : (work : Work) (ws : List Awaited)
      → Stands R tag cs ready unmade (makes_objects work) ws (target_in work) (is_creates work)
      → (is_fences work ≡ true → AllAre (Raises tag) ws × AllRise R tag ws cs)
      → Holds R tag cs ready unmade work ws
  into_work Creates ws x fences = let r = not_ready ready x.4 in ((x.6 r, r), x.2, x.1)
  into_work Fences ws x fences = let f = fences refl in (own x.4 x.5, f.0, f.1)
  into_work (Targets t) ws x fences = (own x.4 x.5, x.1, x.3 t refl)
  into_work (Gathers t todo) ws x fences =
      (own x.4 x.5, x.0 refl, reached ws t.drive t.object (x.0 refl) (x.3 t refl))
  into_work (Fills t todo) ws x fences =
      (own x.4 x.5, x.0 refl, reached ws t.drive t.object (x.0 refl) (x.3 t refl))
  into_work work ws x fences = (own x.4 x.5, x.0 refl)

  pub into_job : (o : Option Job)
      → Stands R tag cs ready unmade (is_making o) (awaited_by o) (target_of o) (is_new o)
      → (is_fencing o ≡ true → AllAre (Raises tag) (awaited_by o) × AllRise R tag (awaited_by o) cs)
      → Ends R tag cs ready unmade o
  into_job None x fences = own x.4 x.5
  into_job (Some j) x fences = into_work j.work j.awaited x fences

  -- a job that awaits no CREATE
  plain : (making : Bool) (ws : List Awaited) (target : Option Target) → IsOwn R tag cs ready → AllAre IsOther ws
      → ((t : Target) → target ≡ Some t → R t.drive t.object tag ≡ true)
      → Stands R tag cs ready unmade making ws target false
  plain making ws target all others aim = (
    λ e. others,
    λ a i e. absurd (others a i e),
    λ at i there. inr (all.1 at i there),
    λ t e. inr (aim t e),
    ap not (sym all.0),
    λ e. all.1,
    λ e. absurd (cc (sym all.0 ∙ e)),
  )

  same_target : (S : Target → Type 0) (t u : Target) → Some t ≡ Some u → S t → S u
  same_target S t u e s = subst S (same e) s
    where
      same : Some t ≡ Some u → t ≡ u
      same x = cc x

  out_work : (work : Work) (ws : List Awaited) → Holds R tag cs ready unmade work ws
      → Stands R tag cs ready unmade (makes_objects work) ws (target_in work) (is_creates work)
  out_work Creates ws h = (
    λ e. absurd (cc e),
    h.2,
    h.1,
    λ t e. absurd (cc e),
    ap not (sym h.0.1),
    λ e. absurd (cc (sym h.0.1 ∙ e)),
    λ e. h.0.0,
  )
  out_work Fences ws h =
      plain false ws None h.0 (λ a i e. cc (sym (h.1 a i).action ∙ e)) (λ t e. absurd (cc e))
  out_work (Targets t) ws h = (
    λ e. absurd (cc e),
    h.1,
    λ at i there. inr (h.0.1 at i there),
    λ u e. same_target (λ (x : Target). IsMade R tag ws x.drive x.object) t u e h.2,
    ap not (sym h.0.0),
    λ e. h.0.1,
    λ e. absurd (cc (sym h.0.0 ∙ e)),
  )
  out_work (Gathers t todo) ws h =
      plain false ws (Some t) h.0 h.1
      (λ u e. same_target (λ (x : Target). R x.drive x.object tag ≡ true) t u e h.2)
  out_work (Fills t todo) ws h =
      plain false ws (Some t) h.0 h.1
      (λ u e. same_target (λ (x : Target). R x.drive x.object tag ≡ true) t u e h.2)
  out_work work ws h = plain false ws None h.0 h.1 (λ t e. absurd (cc e))

  pub out_job : (o : Option Job) → Ends R tag cs ready unmade o
      → Stands R tag cs ready unmade (is_making o) (awaited_by o) (target_of o) (is_new o)
  out_job None h = plain false [] None h (λ a i. absurd i) (λ t e. absurd (cc e))
  out_job (Some j) h = out_work j.work j.awaited h

pub into : (R : Reached) (f : File) → IsStanding R f → (is_fencing f.job ≡ true → IsFencing R f) → FileEnds R f
into R f s fences =
    into_job R f.kept.tag f.kept.components f.kept.ready (IsUnmade f.kept) f.job
    (s.quiet, s.creates, s.each, s.target, s.makes, s.settled.made, s.settled.unmade)
    (λ e.
    let x = fences e in (
      x.raises,
      λ at i there. elim (x.each at i there) [
        | inl (a, j, own, its) ↦ inl (a, j, x.raises a j, own, its)
        | inr r ↦ inr r
      ],
    ))

pub out : (R : Reached) (f : File) → FileEnds R f → IsStanding R f
out R f h =
    let x = out_job R f.kept.tag f.kept.components f.kept.ready (IsUnmade f.kept) f.job h in
    record {
      settled = record { made = x.5; unmade = x.6 };
      makes = x.4;
      quiet = x.0;
      creates = x.1;
      each = x.2;
      target = x.3;
    }
