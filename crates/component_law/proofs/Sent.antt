-- The commands of a job: which objects they go to, and with which tag.
use Rattle.std.proofs.Common.{◌≡◌, ℕ, ◌+◌, ◌&&◌, ◌<◌, Bool, true, false, not, List, [], ◌∷◌, Option, Some, None, refl, sym, subst, arith, inl, inr, if◌then◌else◌}
use Rattle.server_rules.specs.Columns.{row_from, unit_with, wanted}
use Rattle.server_rules.specs.Commands.{Ask, Creating, Raising, Reading, Writing, Measuring, Which, is_meant, sent_to, to_each}
use Rattle.server_rules.specs.Laws.{In}
use Rattle.server_rules.specs.Pieces.{stores_from, is_off}
use Rattle.server_rules.specs.Rebuild.{sources_by, group_for}
use Rattle.server_rules.specs.Repair.{is_left, repair_reads}
use Rattle.server_rules.specs.Standing.{is_beyond}
use Rattle.history_law.specs.Names.{Kept, Piece, Heard, Component, Awaited, Target}
use Rattle.component_law.specs.Objects.{objects_of}
use Rattle.component_law.specs.Tagged.{fence_open, IsBehind}

-- the number is the file's, and was used
abbrev pub IsUsed : (ℕ → Type 0) → (next : ℕ) → ℕ → Type 0
IsUsed P m o = P o × (o < m)

-- it goes to such an object, and isn't past the file
abbrev pub IsMine : (ℕ → Type 0) → (next : ℕ) → Kept → Awaited → Type 0
IsMine P m k a = IsUsed P m a.command.object × IsBehind k a.command

abbrev pub AllMine : (ℕ → Type 0) → (next : ℕ) → Kept → List Awaited → Type 0
AllMine P m k ws = (a : Awaited) → In a ws → IsMine P m k a

-- a SET TAG
abbrev pub is_raising : Ask → Bool
is_raising Raising = true
is_raising ask = false

-- the objects are
abbrev pub AllUsed : (ℕ → Type 0) → (next : ℕ) → List Component → Type 0
AllUsed P m cs = (o : ℕ) → In o (objects_of cs) → IsUsed P m o

module _ (P : ℕ → Type 0) (m : ℕ) where
  abbrev All : Kept → List Awaited → Type 0
  All f ws = AllMine P m f ws

  pub none_mine : (f : Kept) → All f []
  none_mine f a i = absurd i

  pub one_mine : (f : Kept) (x : Awaited) → IsMine P m f x → All f (x ∷ [])
  one_mine f x o a (inl e) = subst (IsMine P m f) (sym e) o
  one_mine f x o a (inr i) = absurd i

  pub mine_for : (f : Kept) (ask : Ask) (k drive object nonce : ℕ) → IsUsed P m object
      → (is_raising ask ≡ true → fence_open f ≡ true) → IsMine P m f (sent_to f ask k drive object nonce)
  mine_for f Creating k drive object nonce u r = (u, (omega arith, λ e. absurd (cc e)))
  mine_for f Raising k drive object nonce u r = (u, (omega arith, λ e. inr (r refl)))
  mine_for f (Reading offset len) k drive object nonce u r = (u, (omega arith, λ e. absurd (cc e)))
  mine_for f (Writing offset bytes) k drive object nonce u r = (u, (omega arith, λ e. absurd (cc e)))
  mine_for f Measuring k drive object nonce u r = (u, (omega arith, λ e. absurd (cc e)))

  first_or : (f : Kept) (b : Bool) (x : Awaited) (ws bs : List Awaited) → IsMine P m f x → All f ws → All f bs
      → All f (if b then x ∷ ws else bs)
  first_or f true x ws bs o more less a (inl e) = subst (IsMine P m f) (sym e) o
  first_or f true x ws bs o more less a (inr i) = more a i
  first_or f false x ws bs o more less a i = less a i

  pub each_mine : (f : Kept) (which : Which) (ask : Ask) (cs : List Component) (k nonce : ℕ) → AllUsed P m cs
      → (is_raising ask ≡ true → fence_open f ≡ true) → All f (to_each f which ask cs k nonce)
  unfolding to_each
  each_mine f which ask [] k nonce u r = none_mine f
  each_mine f which ask (at ∷ cs) k nonce u r =
      first_or f (not at.missing && is_meant f which k) _ _ _
      (mine_for f ask k at.drive at.object nonce (u at.object (inl refl)) r)
      (each_mine f which ask cs (k + 1) (nonce + 1) (λ o i. u o (inr i)) r)
      (each_mine f which ask cs (k + 1) nonce (λ o i. u o (inr i)) r)

  pub stores_mine : (f : Kept) (p : Piece) (rows : List (List ℕ)) (heard : List Heard) (cs : List Component)
      (k nonce : ℕ) → AllUsed P m cs → All f (stores_from f p rows heard cs k nonce)
  unfolding stores_from
  stores_mine f p rows heard [] k nonce u = none_mine f
  stores_mine f p rows heard (at ∷ cs) k nonce u =
      first_or f (is_off f p (row_from heard k p.count) (wanted f.map rows (unit_with f.map p.stripe k) p.count) at k)
      _ _ _ (u at.object (inl refl), (omega arith, λ e. absurd (cc e)))
      (stores_mine f p rows heard cs (k + 1) (nonce + 1) (λ o i. u o (inr i)))
      (stores_mine f p rows heard cs (k + 1) nonce (λ o i. u o (inr i)))

  either_mine : (f : Kept) (b : Bool) (ws bs : List Awaited) → All f ws → All f bs → All f (if b then ws else bs)
  either_mine f true ws bs h i = h
  either_mine f false ws bs h i = i

  pub repair_mine : (f : Kept) (p : Piece) (nonce : ℕ) → AllUsed P m f.components → All f (repair_reads f p nonce)
  unfolding repair_reads
  repair_mine f p nonce u =
      either_mine f (is_left f p) _ _ (none_mine f) (each_mine f _ _ f.components 0 nonce u (λ e. absurd (cc e)))

  pub sources_mine : (f : Kept) (t : Target) (p : Piece) (nonce : ℕ) (o : Option ℕ) → AllUsed P m f.components
      → All f (sources_by f t p nonce o)
  sources_mine f t p nonce (Some j) u = each_mine f _ _ f.components 0 nonce u (λ e. absurd (cc e))
  sources_mine f t p nonce None u =
      either_mine f (is_beyond f.map f.components (group_for f t)) _ _ (none_mine f)
      (each_mine f _ _ f.components 0 nonce u (λ e. absurd (cc e)))
