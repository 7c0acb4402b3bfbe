-- What a call leaves of a file's size, of the grants and of the drives.
use Rattle.std.proofs.Common.{◌≡◌, ◌≤◌, ◌+◌, ◌&&◌, not, max, if◌then◌else◌, ℕ, Bool, true, false, List, Option, Some, None, is_some, option_map, refl, sym, ap, subst, ◌∙◌, arith}
use Rattle.client_rules.specs.Calls.{is_write, span_of}
use Rattle.client_rules.specs.Steps.{writes_nothing}
use Rattle.world_history.specs.ClientNames.{CallOp, Held}
use Rattle.world_history.specs.ServerNames.{Kept, Grant}
use Rattle.world_history.specs.State.{World, DriveAt, at_number}
use Rattle.ready_law.specs.Clear.{HasRoomTo}
use Rattle.ready_law.specs.Rested.{size_after, IsAsBefore}
use Rattle.ready_law.proofs.Calls.{ReadyCall}
use Rattle.ready_law.proofs.Stages.{DrivesGoOn}

-- ---- the size

-- a write of no byte leaves it
pub nothing_grows : (f : Kept) (op : CallOp) → writes_nothing op ≡ true → size_after f op ≡ f.size
nothing_grows f op nothing =
    ap (λ (b : Bool). if is_write op && not b then max f.size ((span_of op).offset + (span_of op).length) else f.size) nothing
    ∙ either (is_write op)
  where
    either : (b : Bool)
        → (if b && false then max f.size ((span_of op).offset + (span_of op).length) else f.size) ≡ f.size
    either true = refl
    either false = refl

-- so does a read
pub read_keeps : (f : Kept) (op : CallOp) → is_write op ≡ false → size_after f op ≡ f.size
read_keeps f op reads = rw reads refl

-- and a write inside the size
pub inside_keeps : (f : Kept) (op : CallOp) → (span_of op).offset + (span_of op).length ≤ f.size → size_after f op ≡ f.size
inside_keeps f op low = either (is_write op && not (writes_nothing op))
  where
    either : (b : Bool) → (if b then max f.size ((span_of op).offset + (span_of op).length) else f.size) ≡ f.size
    either true = omega (arith, low)
    either false = refl

-- another one raises it
pub write_grows : (f : Kept) (op : CallOp) → is_write op ≡ true → writes_nothing op ≡ false
    → size_after f op ≡ max f.size ((span_of op).offset + (span_of op).length)
write_grows f op writes some =
    ap (λ (b : Bool). if b && not (writes_nothing op) then max f.size ((span_of op).offset + (span_of op).length)
    else f.size) writes
    ∙ ap (λ (b : Bool). if not b then max f.size ((span_of op).offset + (span_of op).length) else f.size) some

-- ---- grants

-- where two have the same number, or none, there are both or none
pub same_some_of : (o : Option Held) (p : Option Grant)
    → option_map (λ (h : Held). h.number) o ≡ option_map (λ (g : Grant). g.number) p → is_some o ≡ is_some p
same_some_of None None e = refl
same_some_of (Some h) (Some g) e = refl
same_some_of None (Some g) e = absurd (cc e)
same_some_of (Some h) None e = absurd (cc e)

-- ---- drives

as_it_was : (o : Option DriveAt) → IsAsBefore o o
as_it_was None = refl
as_it_was (Some a) = (a, refl, refl, refl, refl, refl)

-- the drives are as the call's readiness has them
pub drives_begin : (s : ReadyCall) (v : World) → v.drives ≡ s.world.drives → DrivesGoOn s v
drives_begin s v same = record {
  each = λ d.
      subst (λ (ds : List (ℕ × DriveAt)). IsAsBefore (at_number s.world.drives d) (at_number ds d)) (sym same)
      (as_it_was (at_number s.world.drives d));
  stays = λ k at a b top place was now low old.
      let is : a ≡ b = cc (sym was ∙ sym (ap (λ (ds : List (ℕ × DriveAt)). at_number ds at.drive) same) ∙ now) in
      subst (λ (x : DriveAt). HasRoomTo top x.state.store at.object) is old;
  room = λ writes k at a touched place works stands.
      (s.ready.writes writes).room k at a touched place works
      (ap (λ (ds : List (ℕ × DriveAt)). at_number ds at.drive) (sym same) ∙ stands);
}
