-- A command that is placed is given no verdict on where it lies.
use Rattle.std.proofs.Common.{◌≡◌, ◌⊎◌, ℕ, ◌+◌, Bool, true, false, List, [], ◌∷◌, ◌++◌, refl, ap, inl, inr, if◌then◌else◌}
use Rattle.std.proofs.lemmas.Bool.{eq-eqb, le-leb}
use Rattle.osd_lists.proofs.Tests.{and_false}
use Rattle.osd_commands.specs.declared.actions.Action.{Action}
use Rattle.osd_commands.specs.declared.actions.Action.TheVariants.{Read, Write}
use Rattle.osd_commands.specs.declared.commands.Command.{Command}
use Rattle.osd_drive.specs.declared.limits.TheConstants.{FIRST_PARTITION}
use Rattle.osd_drive.specs.declared.store_view.StoreView.{StoreView}
use Rattle.osd_drive.specs.declared.verdict.Verdict.{Verdict}
use Rattle.osd_drive.specs.State.{DriveState, view_of}
use Rattle.osd_drive.specs.Table.{is_set_attr, has_range, has_no_right, is_elsewhere, is_out_of_range, Row, early_rows, late_rows, first_row, first_fault}
use Rattle.exchange_law.specs.Placed.{IsPlaced, IsMisplaced, PlacedAreNeverMisplaced}

-- ---- the three rows

no_other : (a : Action) → (a ≡ Read) ⊎ (a ≡ Write) → is_set_attr a ≡ false
no_other a (inl e) = ap is_set_attr e
no_other a (inr e) = ap is_set_attr e

rights : (drive : ℕ) (c : Command) → IsPlaced drive c → has_no_right c ≡ false
rights drive c p = rw (p.right, no_other c.action p.action) refl

elsewhere : (drive : ℕ) (c : Command) → IsPlaced drive c → is_elsewhere drive c ≡ false
elsewhere drive c p =
    rw (
      eq-eqb c.partition c.capability.partition p.partition,
      eq-eqb c.object c.capability.object p.object,
      eq-eqb c.partition (FIRST_PARTITION + drive) p.here,
    ) refl

out_of_range : (drive : ℕ) (c : Command) → IsPlaced drive c → is_out_of_range c ≡ false
out_of_range drive c p =
    rw (
      le-leb c.capability.range_start c.offset p.first,
      le-leb (c.offset + c.length) (c.capability.range_start + c.capability.range_len) p.end,
    ) (and_false (has_range c.action))

-- ---- the table

row_not : (b : Bool) (v w : Verdict) → (IsMisplaced v → b ≡ false) → (IsMisplaced w → ⊥)
    → IsMisplaced (if b then v else w) → ⊥
row_not true v w own rest m = cc (own m)
row_not false v w own rest m = rest m

-- no row with such a verdict applies
abbrev NoneMisplaced : List Row → Type 0
NoneMisplaced [] = Unit {0}
NoneMisplaced (r ∷ rows) = (IsMisplaced r.1 → r.0 ≡ false) × NoneMisplaced rows

rows_not : (rows : List Row) → NoneMisplaced rows → IsMisplaced (first_row rows) → ⊥
rows_not [] none m = m
rows_not (r ∷ rows) none m = row_not r.0 r.1 (first_row rows) none.0 (rows_not rows none.1) m

more_not : (rows more : List Row) → NoneMisplaced rows → NoneMisplaced more → NoneMisplaced (rows ++ more)
more_not [] more k l = l
more_not (r ∷ rows) more k l = (k.0, more_not rows more k.1 l)

late_not : (s : StoreView) (c : Command) → NoneMisplaced (late_rows s c)
late_not s c = (
  λ m. absurd m,
  (
    λ m. absurd m,
    (
      λ m. absurd m,
      (
        λ m. absurd m,
        (
          λ m. absurd m,
          (
            λ m. absurd m,
            (
              λ m. absurd m,
              (λ m. absurd m, (λ m. absurd m, tt)),
            ),
          ),
        ),
      ),
    ),
  ),
)

early_not : (d : DriveState) (now : ℕ) (c : Command) → IsPlaced d.number c → NoneMisplaced (early_rows d now c)
early_not d now c p = (
  λ m. absurd m,
  (
    λ m. absurd m,
    (
      λ m. absurd m,
      (
        λ m. absurd m,
        (
          λ m. rights d.number c p,
          (λ m. elsewhere d.number c p, (λ m. out_of_range d.number c p, tt)),
        ),
      ),
    ),
  ),
)

pub never_misplaced : PlacedAreNeverMisplaced
unfolding first_fault
never_misplaced d now c p m =
    rows_not (early_rows d now c ++ late_rows (view_of d.store c) c)
    (more_not (early_rows d now c) (late_rows (view_of d.store c) c) (early_not d now c p)
    (late_not (view_of d.store c) c)) m
