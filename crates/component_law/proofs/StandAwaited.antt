-- What a job awaits: the objects that its commands go to, and what answers and declarations leave of it.
use Rattle.std.proofs.Common.{◌≡◌, ◌⊎◌, ◌&&◌, ◌==◌, ℕ, zero, suc, ◌+◌, Bool, true, false, not, List, [], ◌∷◌, map, filter, slice_set, Option, Some, None, refl, sym, ap, subst, ◌∙◌, inl, inr, if◌then◌else◌}
use Rattle.std.proofs.lemmas.Bool.{cases_eq, eq-eqb, ne_eqb}
use Rattle.osd_commands.specs.declared.actions.Action.TheVariants.{Create}
use Rattle.server_rules.specs.Columns.{row_from, unit_with, wanted}
use Rattle.server_rules.specs.Commands.{Ask, Creating, Raising, Reading, Writing, Measuring, Which, All, is_meant, command_for, sent_to, to_each, again_in_2}
use Rattle.server_rules.specs.Jobs.{others_than}
use Rattle.server_rules.specs.Laws.{In}
use Rattle.server_rules.specs.Pieces.{stores_from, is_off}
use Rattle.server_rules.specs.Rebuild.{sources_by, group_for}
use Rattle.server_rules.specs.Repair.{is_left, repair_reads}
use Rattle.server_rules.specs.Replies.{others, renewed}
use Rattle.server_rules.specs.Standing.{is_beyond}
use Rattle.server_rules.proofs.Members.{in_mapped, in_map, in_filtered, in_filter}
use Rattle.history_law.specs.Names.{Kept, Piece, Heard, Component, Awaited, Target}
use Rattle.history_law.specs.Fencing.{IsAsked}
use Rattle.history_law.proofs.Fences.{first_asked, later_asked}
use Rattle.history_law.proofs.Hearing.{IsAlone}
use Rattle.component_law.proofs.BirthSent.{is_creating}

-- ---- all that is awaited

abbrev pub AllAre : (Awaited → Type 0) → List Awaited → Type 0
AllAre P ws = (a : Awaited) → In a ws → P a

pub none_are : (P : Awaited → Type 0) → AllAre P []
none_are P a i = absurd i

pub one_is : (P : Awaited → Type 0) (x : Awaited) → P x → AllAre P (x ∷ [])
one_is P x h a (inl e) = subst P (sym e) h
one_is P x h a (inr i) = absurd i

pub filtered_are : (P : Awaited → Type 0) (p : Awaited → Bool) (ws : List Awaited) → AllAre P ws
    → AllAre P (filter p ws)
filtered_are P p ws h a i = h a (in_filtered p a ws i).0

pub renewed_are : (P : Awaited → Type 0) (ws : List Awaited) (a : Awaited) (n : ℕ) → P (again_in_2 a n) → AllAre P ws
    → AllAre P (map (renewed a (again_in_2 a n)) ws)
renewed_are P ws a n again h x i =
    let r = in_mapped (renewed a (again_in_2 a n)) x ws i in
    subst P (sym r.2) (either (r.0.command.nonce == a.command.nonce) r.0 (h r.0 r.1))
  where
    either : (t : Bool) (y : Awaited) → P y → P (if t then again_in_2 a n else y)
    either true y own = again
    either false y own = own

-- ---- an object that a command goes to

-- Q says which commands these are, and T where one was answered
module _ (Q : Awaited → Type 0) (T : (drive object : ℕ) → Bool) where
  -- one of these that is awaited goes there, or was answered
  abbrev pub IsSought : List Awaited → (drive object : ℕ) → Type 0
  IsSought ws drive object =
      ((a : Awaited) × In a ws × Q a × (a.drive ≡ drive) × (a.command.object ≡ object)) ⊎ (T drive object ≡ true)

  pub sought_asked : (ws : List Awaited) (at : Component) → AllAre Q ws → IsAsked ws at
      → IsSought ws at.drive at.object
  sought_asked ws at all (a, i, own, its) = inl (a, i, all a i, own, its)

  -- nothing is awaited
  pub sought_none : (drive object : ℕ) → IsSought [] drive object → T drive object ≡ true
  sought_none drive object s = elim s [ inl (a, none, q, own, its) ↦ absurd none | inr done ↦ done ]

  -- the command is answered
  pub sought_others : (ws : List Awaited) (a : Awaited) → IsAlone ws a → (Q a → T a.drive a.command.object ≡ true)
      → (drive object : ℕ) → IsSought ws drive object → IsSought (others ws a.command.nonce) drive object
  sought_others ws a alone done drive object s = elim s [
    | inl (y, k, q, own, its) ↦ elim (cases_eq y.command.nonce a.command.nonce) [
      | inl e ↦ inr (answered y (alone y k e) q own its)
      | inr ne ↦ inl (y, in_filter _ y ws k (ap not (ne_eqb _ _ ne)), q, own, its)
    ]
    | inr r ↦ inr r
  ]
    where
      answered : (y : Awaited) → y ≡ a → Q y → y.drive ≡ drive → y.command.object ≡ object → T drive object ≡ true
      answered y same q own its =
          ap (λ (d : ℕ). T d object) (sym own) ∙ ap (λ (o : ℕ). T y.drive o) (sym its)
          ∙ ap (λ (x : Awaited). T x.drive x.command.object) same ∙ done (subst Q same q)

  -- the command goes again
  pub sought_renewed : (ws : List Awaited) (a : Awaited) (n : ℕ) → IsAlone ws a → (Q a → Q (again_in_2 a n))
      → (drive object : ℕ) → IsSought ws drive object
      → IsSought (map (renewed a (again_in_2 a n)) ws) drive object
  sought_renewed ws a n alone again drive object s = elim s [
    | inl (y, k, q, own, its) ↦ elim (cases_eq y.command.nonce a.command.nonce) [
      | inl e ↦
          let same : y ≡ a = alone y k e in
          inl (
            b,
            subst (λ (x : Awaited). In x (map (renewed a b) ws)) (new y e) (in_map (renewed a b) y ws k),
            again (subst Q same q),
            ap (λ (x : Awaited). x.drive) (sym same) ∙ own,
            ap (λ (x : Awaited). x.command.object) (sym same) ∙ its,
          )
      | inr ne ↦
          inl (
            y,
            subst (λ (x : Awaited). In x (map (renewed a b) ws)) (old y ne) (in_map (renewed a b) y ws k),
            q,
            own,
            its,
          )
    ]
    | inr r ↦ inr r
  ]
    where
      b : Awaited
      b = again_in_2 a n

      new : (y : Awaited) → y.command.nonce ≡ a.command.nonce → renewed a b y ≡ b
      new y e = ap (λ (t : Bool). if t then b else y) (eq-eqb _ _ e)

      old : (y : Awaited) → (y.command.nonce ≡ a.command.nonce → ⊥) → renewed a b y ≡ y
      old y ne = ap (λ (t : Bool). if t then b else y) (ne_eqb _ _ ne)

  -- another drive is declared
  pub sought_than : (ws : List Awaited) (declared drive object : ℕ) → (drive ≡ declared → ⊥)
      → IsSought ws drive object → IsSought (others_than declared ws) drive object
  sought_than ws declared drive object other s = elim s [
    | inl (y, k, q, own, its) ↦
        inl (
          y,
          in_filter _ y ws k (ap not (ne_eqb y.drive declared (λ (e : y.drive ≡ declared). other (sym own ∙ e)))),
          q,
          own,
          its,
        )
    | inr r ↦ inr r
  ]

-- ---- one to each component

-- it isn't a CREATE
abbrev pub IsOther : Awaited → Type 0
IsOther a = a.command.action ≡ Create → ⊥

pub other_for : (f : Kept) (ask : Ask) (k drive object nonce : ℕ) → is_creating ask ≡ false
    → IsOther (sent_to f ask k drive object nonce)
other_for f Creating k drive object nonce own e = cc own
other_for f Raising k drive object nonce own e = cc e
other_for f (Reading offset len) k drive object nonce own e = cc e
other_for f (Writing offset bytes) k drive object nonce own e = cc e
other_for f Measuring k drive object nonce own e = cc e

pub object_for : (f : Kept) (ask : Ask) (k drive object nonce : ℕ)
    → (command_for f ask k drive object nonce).object ≡ object
object_for f Creating k drive object nonce = refl
object_for f Raising k drive object nonce = refl
object_for f (Reading offset len) k drive object nonce = refl
object_for f (Writing offset bytes) k drive object nonce = refl
object_for f Measuring k drive object nonce = refl

first_or : (P : Awaited → Type 0) (b : Bool) (x : Awaited) (ws bs : List Awaited) → P x → AllAre P ws → AllAre P bs
    → AllAre P (if b then x ∷ ws else bs)
first_or P true x ws bs own more less a (inl e) = subst P (sym e) own
first_or P true x ws bs own more less a (inr i) = more a i
first_or P false x ws bs own more less a i = less a i

pub each_are : (P : Awaited → Type 0) (f : Kept) (which : Which) (ask : Ask) (cs : List Component) (k nonce : ℕ)
    → ((j drive object n : ℕ) → P (sent_to f ask j drive object n)) → AllAre P (to_each f which ask cs k nonce)
unfolding to_each
each_are P f which ask [] k nonce own = none_are P
each_are P f which ask (at ∷ cs) k nonce own =
    first_or P (not at.missing && is_meant f which k) _ _ _ (own k at.drive at.object nonce)
    (each_are P f which ask cs (k + 1) (nonce + 1) own) (each_are P f which ask cs (k + 1) nonce own)

pub others_each : (f : Kept) (which : Which) (ask : Ask) (cs : List Component) (k nonce : ℕ)
    → is_creating ask ≡ false → AllAre IsOther (to_each f which ask cs k nonce)
others_each f which ask cs k nonce own =
    each_are IsOther f which ask cs k nonce (λ j drive object n. other_for f ask j drive object n own)

-- each that isn't missing is asked
pub asked_each : (f : Kept) (ask : Ask) (cs : List Component) (k nonce : ℕ) (at : Component) → In at cs
    → at.missing ≡ false → IsAsked (to_each f All ask cs k nonce) at
unfolding to_each is_meant
asked_each f ask [] k nonce at i there = absurd i
asked_each f ask (x ∷ cs) k nonce at (inl same) there =
    first_asked (not x.missing && true) (sent_to f ask k x.drive x.object nonce) _ _ at
    (ap (λ (b : Bool). not b && true) (ap (λ (y : Component). y.missing) (sym same) ∙ there))
    (ap (λ (y : Component). y.drive) (sym same))
    (object_for f ask k x.drive x.object nonce ∙ ap (λ (y : Component). y.object) (sym same))
asked_each f ask (x ∷ cs) k nonce at (inr i) there =
    later_asked (not x.missing && true) _ _ _ at (asked_each f ask cs (k + 1) (nonce + 1) at i there)
    (asked_each f ask cs (k + 1) nonce at i there)

-- ---- commands that make no object

pub stores_others : (f : Kept) (p : Piece) (rows : List (List ℕ)) (heard : List Heard) (cs : List Component)
    (k nonce : ℕ) → AllAre IsOther (stores_from f p rows heard cs k nonce)
unfolding stores_from
stores_others f p rows heard [] k nonce = none_are IsOther
stores_others f p rows heard (at ∷ cs) k nonce =
    first_or IsOther
    (is_off f p (row_from heard k p.count) (wanted f.map rows (unit_with f.map p.stripe k) p.count) at k)
    _ _ _ (λ e. cc e) (stores_others f p rows heard cs (k + 1) (nonce + 1))
    (stores_others f p rows heard cs (k + 1) nonce)

either_are : (P : Awaited → Type 0) (b : Bool) (ws bs : List Awaited) → AllAre P ws → AllAre P bs
    → AllAre P (if b then ws else bs)
either_are P true ws bs h i = h
either_are P false ws bs h i = i

pub repair_others : (f : Kept) (p : Piece) (nonce : ℕ) → AllAre IsOther (repair_reads f p nonce)
unfolding repair_reads
repair_others f p nonce =
    either_are IsOther (is_left f p) _ _ (none_are IsOther) (others_each f _ _ f.components 0 nonce refl)

pub sources_others : (f : Kept) (t : Target) (p : Piece) (nonce : ℕ) (o : Option ℕ)
    → AllAre IsOther (sources_by f t p nonce o)
sources_others f t p nonce (Some j) = others_each f _ _ f.components 0 nonce refl
sources_others f t p nonce None =
    either_are IsOther (is_beyond f.map f.components (group_for f t)) _ _ (none_are IsOther)
    (others_each f _ _ f.components 0 nonce refl)

-- ---- components that are set or lost

pub in_set : (cs : List Component) (i : ℕ) (y x : Component) → In x (slice_set cs i y) → (x ≡ y) ⊎ In x cs
in_set [] i y x j = absurd j
in_set (z ∷ cs) zero y x (inl e) = inl e
in_set (z ∷ cs) zero y x (inr j) = inr (inr j)
in_set (z ∷ cs) (suc i) y x (inl e) = inr (inl e)
in_set (z ∷ cs) (suc i) y x (inr j) = elim (in_set cs i y x j) [ inl e ↦ inl e | inr k ↦ inr (inr k) ]

-- ---- what a reply is to its command
