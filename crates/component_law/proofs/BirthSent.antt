-- The commands of a job: their tags, beside those that the file had when the numbers of their objects were given.
use Rattle.std.proofs.Common.{◌≡◌, ℕ, ◌+◌, ◌&&◌, ◌<◌, ◌≤◌, Bool, true, false, not, List, [], ◌∷◌, Option, Some, None, refl, sym, subst, inl, inr, if◌then◌else◌}
use Rattle.osd_commands.specs.declared.actions.Action.TheVariants.{Create}
use Rattle.server_rules.specs.Columns.{row_from, unit_with, wanted}
use Rattle.server_rules.specs.Commands.{Ask, Creating, Raising, Reading, Writing, Measuring, Which, is_meant, sent_to, to_each}
use Rattle.server_rules.specs.Laws.{In}
use Rattle.server_rules.specs.Pieces.{stores_from, is_off}
use Rattle.server_rules.specs.Rebuild.{sources_by, group_for}
use Rattle.server_rules.specs.Repair.{is_left, repair_reads}
use Rattle.server_rules.specs.Standing.{is_beyond}
use Rattle.history_law.specs.Names.{Kept, Piece, Heard, Component, Awaited, Target}
use Rattle.component_law.specs.Objects.{objects_of}

-- the number was given, to a file that had this tag or an earlier one
abbrev pub IsBorn : (birth : ℕ → ℕ) → (next object tag : ℕ) → Type 0
IsBorn birth m o t = (o < m) × (birth o ≤ t)

-- the objects are
abbrev pub AllBorn : (birth : ℕ → ℕ) → (next tag : ℕ) → List Component → Type 0
AllBorn birth m t cs = (o : ℕ) → In o (objects_of cs) → IsBorn birth m o t

-- The command's tag isn't earlier; and where it makes the object, the file had its present tag by then.
abbrev pub IsAsked : (birth : ℕ → ℕ) → (next tag : ℕ) → Awaited → Type 0
IsAsked birth m t a =
    IsBorn birth m a.command.object a.command.capability.tag
    × (a.command.action ≡ Create → t ≤ birth a.command.object)

abbrev pub AllAsked : (birth : ℕ → ℕ) → (next tag : ℕ) → List Awaited → Type 0
AllAsked birth m t ws = (a : Awaited) → In a ws → IsAsked birth m t a

-- a CREATE
abbrev pub is_creating : Ask → Bool
is_creating Creating = true
is_creating ask = false

-- when the numbers of the objects were given, the file had this tag or a later one
abbrev pub AllNew : (birth : ℕ → ℕ) → (tag : ℕ) → List Component → Type 0
AllNew birth t cs = (o : ℕ) → In o (objects_of cs) → t ≤ birth o

module _ (birth : ℕ → ℕ) (m : ℕ) where
  abbrev All : ℕ → List Awaited → Type 0
  All t ws = AllAsked birth m t ws

  none_asked : (t : ℕ) → All t []
  none_asked t a i = absurd i

  pub one_asked : (t : ℕ) (x : Awaited) → IsAsked birth m t x → All t (x ∷ [])
  one_asked t x o a (inl e) = subst (IsAsked birth m t) (sym e) o
  one_asked t x o a (inr i) = absurd i

  pub asked_for : (f : Kept) (ask : Ask) (k drive object nonce : ℕ) → IsBorn birth m object f.tag
      → (is_creating ask ≡ true → f.tag ≤ birth object) → IsAsked birth m f.tag (sent_to f ask k drive object nonce)
  asked_for f Creating k drive object nonce u r = (u, λ e. r refl)
  asked_for f Raising k drive object nonce u r = (u, λ e. absurd (cc e))
  asked_for f (Reading offset len) k drive object nonce u r = (u, λ e. absurd (cc e))
  asked_for f (Writing offset bytes) k drive object nonce u r = (u, λ e. absurd (cc e))
  asked_for f Measuring k drive object nonce u r = (u, λ e. absurd (cc e))

  first_or : (t : ℕ) (b : Bool) (x : Awaited) (ws bs : List Awaited) → IsAsked birth m t x → All t ws → All t bs
      → All t (if b then x ∷ ws else bs)
  first_or t true x ws bs o more less a (inl e) = subst (IsAsked birth m t) (sym e) o
  first_or t true x ws bs o more less a (inr i) = more a i
  first_or t false x ws bs o more less a i = less a i

  pub each_asked : (f : Kept) (which : Which) (ask : Ask) (cs : List Component) (k nonce : ℕ) → AllBorn birth m f.tag cs
      → (is_creating ask ≡ true → AllNew birth f.tag cs) → All f.tag (to_each f which ask cs k nonce)
  unfolding to_each
  each_asked f which ask [] k nonce u r = none_asked f.tag
  each_asked f which ask (at ∷ cs) k nonce u r =
      first_or f.tag (not at.missing && is_meant f which k) _ _ _
      (asked_for f ask k at.drive at.object nonce (u at.object (inl refl)) (λ e. r e at.object (inl refl)))
      (each_asked f which ask cs (k + 1) (nonce + 1) (λ o i. u o (inr i)) (λ e o i. r e o (inr i)))
      (each_asked f which ask cs (k + 1) nonce (λ o i. u o (inr i)) (λ e o i. r e o (inr i)))

  pub stores_asked : (f : Kept) (p : Piece) (rows : List (List ℕ)) (heard : List Heard) (cs : List Component)
      (k nonce : ℕ) → AllBorn birth m f.tag cs → All f.tag (stores_from f p rows heard cs k nonce)
  unfolding stores_from
  stores_asked f p rows heard [] k nonce u = none_asked f.tag
  stores_asked f p rows heard (at ∷ cs) k nonce u =
      first_or f.tag
      (is_off f p (row_from heard k p.count) (wanted f.map rows (unit_with f.map p.stripe k) p.count) at k) _ _ _
      (u at.object (inl refl), λ e. absurd (cc e))
      (stores_asked f p rows heard cs (k + 1) (nonce + 1) (λ o i. u o (inr i)))
      (stores_asked f p rows heard cs (k + 1) nonce (λ o i. u o (inr i)))

  either_asked : (t : ℕ) (b : Bool) (ws bs : List Awaited) → All t ws → All t bs → All t (if b then ws else bs)
  either_asked t true ws bs h i = h
  either_asked t false ws bs h i = i

  pub repair_asked : (f : Kept) (p : Piece) (nonce : ℕ) → AllBorn birth m f.tag f.components
      → All f.tag (repair_reads f p nonce)
  unfolding repair_reads
  repair_asked f p nonce u =
      either_asked f.tag (is_left f p) _ _ (none_asked f.tag)
      (each_asked f _ _ f.components 0 nonce u (λ e. absurd (cc e)))

  pub sources_asked : (f : Kept) (t : Target) (p : Piece) (nonce : ℕ) (o : Option ℕ)
      → AllBorn birth m f.tag f.components → All f.tag (sources_by f t p nonce o)
  sources_asked f t p nonce (Some j) u = each_asked f _ _ f.components 0 nonce u (λ e. absurd (cc e))
  sources_asked f t p nonce None u =
      either_asked f.tag (is_beyond f.map f.components (group_for f t)) _ _ (none_asked f.tag)
      (each_asked f _ _ f.components 0 nonce u (λ e. absurd (cc e)))
