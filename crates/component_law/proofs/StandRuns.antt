-- Over any run of a server in turn whose counters have room, what is kept of a file says whether it was made.
use Rattle.std.proofs.Common.{◌≡◌, ◌⊎◌, ◌&&◌, ◌≤◌, ℕ, Bool, true, false, nat_lt, List, [], ◌∷◌, ◌++◌, refl, sym, ap, subst, ◌∙◌, arith, inl, inr}
use Rattle.std.proofs.lemmas.Bool.Decides.{nat_tests}
use Rattle.server_rules.specs.declared.limits.TheConstants.{COUNTERS_END}
use Rattle.server_rules.specs.History.{Input, Opens, Act, step, state_after}
use Rattle.server_rules.specs.Laws.{In}
use Rattle.server_rules.specs.Making.{new_server}
use Rattle.server_rules.specs.Messages.{counters_have_room}
use Rattle.history_law.specs.Names.{Server, File, Awaited}
use Rattle.history_law.specs.Numbered.{Awaits}
use Rattle.history_law.specs.Fencing.{Reached, AreFencing, IsHeardTruly}
use Rattle.history_law.proofs.Lists.{numbered_alone}
use Rattle.history_law.proofs.JobSteps.{run_numbers, fences_wait}
use Rattle.history_law.proofs.Recalling.{step_counts}
use Rattle.history_law.proofs.Running.{server_more}
use Rattle.component_law.specs.Objects.{AreOwned}
use Rattle.history_law.specs.Moves.{down_behind}
use Rattle.component_law.specs.Turns.{in_turn}
use Rattle.component_law.specs.Standing.{IsSettled, StandsBy, AreStanding, AreMadeTruly}
use Rattle.component_law.proofs.ObjectSteps.{step_owns}
use Rattle.component_law.proofs.StandSteps.{each_step_stands}

-- what is kept, of either half
pub settled_by : (down : Bool) (R : Reached) (f : File) → StandsBy down R f → IsSettled R f
settled_by true R f h = h.settled
settled_by false R f h = h.settled

-- ---- no two commands that are awaited have one nonce

alone_in : (acts : List Act) (a b : Awaited) → Awaits (state_after (new_server []) acts).files a
    → Awaits (state_after (new_server []) acts).files b → a.command.nonce ≡ b.command.nonce → a ≡ b
alone_in acts a b x y e =
    let r = run_numbers (new_server []) acts in
    numbered_alone (new_server []).next_nonce r.fresh a b r.numbered (fresh a r.fresh (r.waits a x))
    (fresh b r.fresh (r.waits b y)) e
  where
    fresh : (c : Awaited) (cs : List Awaited) → Awaits (new_server []).files c ⊎ In c cs → In c cs
    fresh c cs (inl (f, none, i)) = absurd none
    fresh c cs (inr i) = i

-- ---- at a moment of a run

-- each object has reached each tag
abbrev reached_all : Reached
reached_all drive object tag = true

pub record IsAt (down : Bool) (s : Server) : Type 0 where
  pub acts : List Act
  pub is : s ≡ state_after (new_server []) acts
  pub owner : ℕ → ℕ
  pub owned : AreOwned owner s
  pub fencing : AreFencing reached_all s.files
  pub standing : AreStanding down reached_all s.files

pub starts : IsAt false (new_server [])
starts = record {
  acts = [];
  is = refl;
  owner = λ o. o;
  owned = λ f i. absurd i;
  fencing = λ f i e. absurd i;
  standing = λ f i. absurd i;
}

heard : (down : Bool) (s : Server) → IsAt down s → (i : Input) → IsHeardTruly reached_all s i
heard down s at i = record {
  alone = λ a b x y e.
      alone_in at.acts a b (subst (λ (t : Server). Awaits t.files a) at.is x)
      (subst (λ (t : Server). Awaits t.files b) at.is y) e;
  tells = λ now drive r is low f j a k raises answer done. refl;
}

made : (s : Server) (i : Input) → AreMadeTruly reached_all s i
made s i now drive r is low f j a k create answer done = refl

pub goes_on : (down : Bool) (s : Server) (a : Act) → IsAt down s → in_turn down a.input ≡ true
    → (a.input ≡ Opens → counters_have_room s ≡ true)
    → IsAt (down_behind down a.input) (step s a.chosen a.input).state
goes_on down s a at turn low =
    let k = (step_owns s a.chosen a.input).keeps at.owner at.owned in
    let h = heard down s at a.input in
    record {
      acts = at.acts ++ a ∷ [];
      is =
          ap (λ (x : Server). (step x a.chosen a.input).state) at.is
          ∙ sym (server_more (new_server []) at.acts a);
      owner = k.later;
      owned = k.owned;
      fencing = (fences_wait reached_all s a.chosen a.input at.fencing h).fencing;
      standing =
          each_step_stands reached_all s down a.chosen a.input turn low at.fencing at.standing h (made s a.input);
    }

-- ---- counters only rise

objects_rise : (s : Server) (acts : List Act) (owner : ℕ → ℕ) → AreOwned owner s
    → s.next_object ≤ (state_after s acts).next_object
objects_rise s [] owner own = omega arith
objects_rise s (a ∷ acts) owner own =
    let k = (step_owns s a.chosen a.input).keeps owner own in
    let rest = objects_rise (step s a.chosen a.input).state acts k.later k.owned in
    omega (arith, k.rises, rest)

recalls_rise : (s : Server) (acts : List Act) → s.next_recall ≤ (state_after s acts).next_recall
recalls_rise s [] = omega arith
recalls_rise s (a ∷ acts) =
    let one = step_counts s a.chosen a.input in
    let rest = recalls_rise (step s a.chosen a.input).state acts in
    omega (arith, one.rises, rest)

below : (m n k : ℕ) → m ≤ n → nat_lt n k ≡ true → nat_lt m k ≡ true
below m n k le e = grind (arith, le, e, nat_tests)

all_below : (a b c p q r : Bool) → (a ≡ true → p ≡ true) → (b ≡ true → q ≡ true) → (c ≡ true → r ≡ true)
    → (a && (b && c)) ≡ true → (p && (q && r)) ≡ true
all_below true true c p q r x y z e = rw (x refl, y refl) (z e)
all_below true false c p q r x y z e = absurd (cc e)
all_below false b c p q r x y z e = absurd (cc e)

-- so they had room before
pub room_before : (down : Bool) (s : Server) (acts : List Act) → IsAt down s
    → counters_have_room (state_after s acts) ≡ true → counters_have_room s ≡ true
unfolding counters_have_room
room_before down s acts at e =
    let t : Server = state_after s acts in
    let nonces : s.next_nonce ≤ t.next_nonce = omega (arith, (run_numbers s acts).rises) in
    all_below (nat_lt t.next_nonce COUNTERS_END) (nat_lt t.next_object COUNTERS_END)
    (nat_lt t.next_recall COUNTERS_END) (nat_lt s.next_nonce COUNTERS_END) (nat_lt s.next_object COUNTERS_END)
    (nat_lt s.next_recall COUNTERS_END)
    (λ x. below s.next_nonce t.next_nonce COUNTERS_END nonces x)
    (λ x. below s.next_object t.next_object COUNTERS_END (objects_rise s acts at.owner at.owned) x)
    (λ x. below s.next_recall t.next_recall COUNTERS_END (recalls_rise s acts) x) e
