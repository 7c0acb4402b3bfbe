-- Whether a read goes on or ends.
use Rattle.std.proofs.Common.{◌≡◌, ℕ, List, [], ◌∷◌, refl, sym, ap, ◌∙◌, inl, inr, arith}
use Rattle.std.specs.Prelude.{Option, Some, None, Result, Ok, Err, IfOk}
use Rattle.client_rules.specs.Turns.{turned}
use Rattle.client_rules.specs.Writes.{gathers_on, scatters}
use Rattle.call_io.specs.declared.phase.CallPhase.{CallPhase}
use Rattle.call_io.specs.declared.phase.CallTurn.{CallTurn}
use Rattle.call_io.specs.declared.phase.CallTurn.TheVariants.{Goes as IsGoing}
use Rattle.call_io.specs.declared.phase.CallMove.{CallMove}
use Rattle.call_io.specs.Phases.{counted_move, phase_of, turn_of}
use Rattle.stripe_plan.specs.Touched.{stripes}
use Rattle.stripe_plan.specs.Plans.{unless_lost, Gives, assemble, apply_and_encode, plan_stores, stores, written, writes}
use Rattle.stripe_plan.specs.declared.plan.Part.{Part}
use Rattle.stripe_plan.specs.Plans.{columns_of, filled_each}
use Rattle.stripe_plan.specs.Words.{answered}
use Rattle.client_rules.specs.Commands.{counted}
use Rattle.client_rules.specs.Io.{outs}
use Rattle.client_rules.specs.Reads.{reads_on}
use Rattle.call_io.specs.State.{Held, Awaited, TimedOut, Span, Column, Reads, ReadOk, Goes, Ends, Moved, RawMap, Store, CallOp, Gathers}

-- what a plan gives where it is one
pub told : {X : Type 0} (o : Option (List ℕ)) (x y : X) → Gives (unless_lost o x) (Ok y) → y ≡ x
told None x y (inl e) = absurd (cc e)
told None x y (inr e) = cc e
told (Some ps) x y (inl e) = absurd (cc e)
told (Some ps) x y (inr e) = absurd (cc e)

pub answer_told : (m : RawMap) (r : Span) (got : List Part) (out bytes : List ℕ) → Gives (assemble m r got out) (Ok bytes) →
    bytes ≡ answered m r (columns_of m got) out
unfolding assemble
answer_told m r got out bytes g = told _ _ bytes g

pub reads_go : (h : Held) (r : Span) (got : List Column) (timed : List TimedOut) (sent xs : List Awaited) → (xs ≡ [] → ⊥) →
    reads_on h r got timed sent xs ≡ record {
      held = counted h sent;
      turn =
          Goes (Reads (record { awaited = xs; got = got; timed = timed }));
      sent = sent;
    }
unfolding reads_on
reads_go h r got timed sent [] n = absurd (n refl)
reads_go h r got timed sent (a ∷ xs) n = refl

pub reads_end : (h : Held) (r : Span) (got : List Column) (timed : List TimedOut) (sent xs : List Awaited) (bytes : List ℕ) →
    xs ≡ [] → bytes ≡ answered h.map r got (outs h timed) →
    reads_on h r got timed sent xs ≡ record { held = counted h sent; turn = Ends (ReadOk bytes); sent = sent }
unfolding reads_on
reads_end h r got timed sent xs bytes e b = rw (e, b) refl

-- ---- writes with their bytes

-- the plan of a scatter, as its asks with their bytes
pub stores_told : (m : RawMap) (r : Span) (cols : List Column) (out : List ℕ) (ws : List Store) →
    plan_stores m r cols out ≡ Ok ws → ws ≡ filled_each cols (writes m r out)
unfolding plan_stores
stores_told m r cols out ws e = told _ _ ws (inr (sym e))

pub columns_told : (m : RawMap) (r : Span) (bytes : List ℕ) (got : List Part) (out : List ℕ) (cols : List Column) →
    Gives (apply_and_encode m r bytes got out) (Ok cols) → cols ≡ written m r bytes (columns_of m got) out (stripes m r)
unfolding apply_and_encode
columns_told m r bytes got out cols g = told _ _ cols g

-- ---- a gather goes on or is over

pub gathers_go : (h : Held) (op : CallOp) (got : List Column) (timed : List TimedOut) (sent xs : List Awaited) → (xs ≡ [] → ⊥) →
    gathers_on h op got timed sent xs ≡ record {
      held = counted h sent;
      turn =
          Goes (Gathers (record { awaited = xs; got = got; timed = timed }));
      sent = sent;
    }
unfolding gathers_on
gathers_go h op got timed sent [] n = absurd (n refl)
gathers_go h op got timed sent (a ∷ xs) n = refl

pub gathers_over : (h : Held) (op : CallOp) (got : List Column) (timed : List TimedOut) (sent xs : List Awaited) → xs ≡ [] →
    scatters h op got timed ≡ gathers_on h op got timed sent xs
unfolding gathers_on
gathers_over h op got timed sent xs e = rw e refl

-- ---- a result by an equal one

pub ok_same : {E : Type 0} (res : Result CallMove E) (h : Held) (x y : Moved) → x ≡ y → IfOk res (λ m. counted_move h m ≡ x) →
    IfOk res (λ m. counted_move h m ≡ y)
ok_same (Ok m) h x y e k = k ∙ e
ok_same (Err z) h x y e k = k

-- ---- it goes on as it was

none_counted : (h : Held) → counted h [] ≡ h
none_counted h = ap (λ (n : ℕ). record h { count = n }) (omega arith)

pub stays_in : (h : Held) (p : CallPhase) (m : CallMove) → m.turn ≡ IsGoing p → m.sent ≡ [] →
    counted_move h m ≡ turned h (Goes (phase_of p))
stays_in h p m e f = ap (λ (t : CallTurn). record { held = counted h m.sent; turn = turn_of t; sent = m.sent }) e
    ∙ ap (λ (xs : List Awaited). record { held = counted h xs; turn = Goes (phase_of p); sent = xs }) f
    ∙ ap (λ (g : Held). turned g (Goes (phase_of p))) (none_counted h)

pub stores_eq : (m : RawMap) (r : Span) (bytes : List ℕ) (got : List Column) (out : List ℕ) (cols : List Column) →
    cols ≡ written m r bytes got out (stripes m r) → stores m r bytes got out ≡ filled_each cols (writes m r out)
unfolding stores
stores_eq m r bytes got out cols e = rw e refl
