-- What became of each grant that a client holds, or is to take from an answer that the server keeps for it, from each moment to
-- the next.
-- Towards `EachHeldBecame` (`headline_law/specs/FoundHeld.antt`).
use Rattle.std.proofs.Common.{◌≡◌, ℕ, ◌++◌, List, slice_get, Some, Ok, sym, ap, ◌∙◌}
use Rattle.layout_ops.specs.declared.messages.Answer.{Answer}
use Rattle.scenario_text.specs.declared.line.Line.{Line}
use Rattle.client_rules.specs.Grants.{held_of}
use Rattle.client_rules.specs.Layouts.{taken}
use Rattle.server_rules.specs.Slots.{slot_of}
use Rattle.world_history.specs.ClientNames.{Client, CallOp, Held}
use Rattle.world_history.specs.ServerNames.{Server, Slot}
use Rattle.world_history.specs.Moves.{acts}
use Rattle.world_history.specs.Plans.{due}
use Rattle.world_history.specs.Sending.{Move, move}
use Rattle.world_history.specs.State.{World, at_number}
use Rattle.history_law.specs.Moments.{IsMoment, lines_in, plan_at}
use Rattle.history_law.specs.Unforged.{AreUnforged}
use Rattle.history_law.proofs.Unforged.{unforged_front}
use Rattle.exchange_law.specs.Doing.{ServerGoes}
use Rattle.exchange_law.specs.InStep.{state_of}
use Rattle.exchange_law.proofs.HeldMoving.{IsSame}
use Rattle.exchange_law.proofs.ClientsWalk.{always_of_each}
use Rattle.exchange_law.proofs.HeldHearing.{step_is_fine}
use Rattle.exchange_law.proofs.HeldWorlds.{none_held, none_kept}
use Rattle.file_simulation.specs.Claim.{IsOfScenario}
use Rattle.file_simulation.specs.Relation.{client_of}
use Rattle.file_simulation.proofs.Fronts.{scenario_before}
use Rattle.relation_law.proofs.ComponentsMoved.{MovedLaws}
use Rattle.headline_law.specs.FoundHeld.{Became, BecameAt, EachHeldBecame, IsListedWith, Lasts, Ended}
use Rattle.headline_law.proofs.SentHeld.{readable_then}

-- ---- a moment

-- so it is of what a call takes from the answer
abbrev pub AnswerBecame : World → (c : ℕ) → Answer → Type 0
AnswerBecame w c a = (op : CallOp) (x : Held) → taken a op ≡ Ok x → BecameAt w c a.file x

-- of all that client c holds, or is to take
pub record AllBecame (w : World) (c : ℕ) : Type 0 where
  pub slot : (t : Slot) → slot_of w.server.slots c ≡ Some t → AnswerBecame w c t.kept
  pub helds : (n : ℕ) (x : Held) → held_of (client_of w c).held n ≡ Some x → BecameAt w c n x

-- what the parties' moves do to it: where the server rests it stays, and so it does over a step of the server
pub record BecameGoes : Type 0 where
  pub rests : (w : World) (h : List Line) (k : IsMoment w h) (m : Move) → due (plan_at k) w ≡ Some m.action →
      IsOfScenario (h ++ lines_in w m) → AreUnforged (h ++ lines_in w m) → (move w m).world.server ≡ w.server → (c n : ℕ)
      (x : Held) → BecameAt w c n x → BecameAt (move w m).world c n x
  pub serves : (w : World) (h : List Line) (k : IsMoment w h) (m : Move) → due (plan_at k) w ≡ Some m.action →
      IsOfScenario (h ++ lines_in w m) → AreUnforged (h ++ lines_in w m) → ServerGoes w m.chosen (acts w m.chosen m.action) →
      (c : ℕ) → AllBecame w c → AllBecame (move w m).world c

same_became : (w : World) (c n : ℕ) (x y : Held) → IsSame x y → BecameAt w c n x → BecameAt w c n y
same_became w c n x y same b = record { file = b.file; there = b.there; became = by b.became }
  where
    listed : (k : ℕ) (l : _) (cr : _) → IsListedWith y k l cr → IsListedWith x k l cr
    listed k l cr i = record { found = ap (λ (ls : List _). slice_get ls k) (sym same.components) ∙ i.found; has = i.has }

    by : Became w c b.file x → Became w c b.file y
    by (Lasts open_ each) = Lasts open_ (λ k l cr i. each k l cr (listed k l cr i))
    by (Ended each) = Ended (λ k l cr i. each k l cr (listed k l cr i))

-- ---- at each moment

-- so it is of all that a client holds that is as x
abbrev Holds : World → (c : ℕ) → Client → Type 0
Holds w c x =
    ((t : Slot) → slot_of w.server.slots c ≡ Some t → AnswerBecame w c t.kept) ×
    ((n : ℕ) (y : Held) → held_of x.held n ≡ Some y → BecameAt w c n y)

abbrev IsFair : List Line → Type 0
IsFair h = IsOfScenario h × AreUnforged h

module _ (laws : MovedLaws) (goes : BecameGoes) where
  holds : (w : World) (h : List Line) → IsMoment w h → IsFair h → (c : ℕ) → Holds w c (client_of w c)
  holds =
      always_of_each Holds IsFair (record {
        front = λ h ls t. (scenario_before h ls t.0, unforged_front h ls t.1);
        starts = λ c. (λ slot e. absurd (none_kept c slot e), λ n x e. absurd (none_held n x e));
        rests = λ w h k m d t server c x b. (
          λ slot e op y took.
              goes.rests w h k m d t.0 t.1 server c slot.kept.file y
              (b.0 slot (sym (ap (λ (z : Server). slot_of z.slots c) server) ∙ e) op y took),
          λ n y e. goes.rests w h k m d t.0 t.1 server c n y (b.1 n y e),
        );
        client = λ w h k t s c a found i heard. (
          (s c).0,
          (step_is_fine laws.held.own laws.held.right.world.agree (BecameAt w c) (same_became w c) w h k
              (readable_then laws.held laws.fresh w h k t.0) c a found (s c).1 (s c).0 i heard).helds,
        );
        server = λ w h k m d before t s g c.
            let same : client_of (move w m).world c ≡ client_of w c = ap (λ (xs : _). state_of c (at_number xs c)) g.clients in
            let b : AllBecame (move w m).world c =
            goes.serves w h k m d t.0 t.1 g c (record { slot = (s c).0; helds = (s c).1 }) in
            (b.slot, λ n y e. b.helds n y (ap (λ (z : Client). held_of z.held n) same ∙ e));
      }) laws.held.right.world.more

  pub each_held_became : EachHeldBecame
  each_held_became w h k scenario fair c n x e = (holds w h k (scenario, fair) c).1 n x e
