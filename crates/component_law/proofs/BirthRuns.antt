-- Over any run of a server in turn, nothing was sent under an earlier tag than that of a CREATE that is awaited.
use Rattle.std.proofs.Common.{◌≡◌, ℕ, ◌≤◌, Bool, true, false, List, [], ◌∷◌, refl, ap, ◌∙◌, arith, inl, inr}
use Rattle.server_rules.specs.History.{Act, step, state_after}
use Rattle.server_rules.specs.Laws.{In}
use Rattle.server_rules.specs.Making.{new_server}
use Rattle.server_rules.specs.Messages.{counters_have_room}
use Rattle.server_rules.proofs.Members.{in_either}
use Rattle.history_law.specs.Names.{Server, File, Command, ToDrive}
use Rattle.component_law.proofs.ObjectSteps.{Agree}
use Rattle.component_law.specs.Objects.{objects_of}
use Rattle.component_law.specs.Tagged.{sent_over}
use Rattle.history_law.specs.Moves.{down_behind}
use Rattle.component_law.specs.Turns.{AreInTurn}
use Rattle.component_law.specs.First.{CreatesAreFirst}
use Rattle.component_law.proofs.BirthEnds.{born_later}
use Rattle.component_law.proofs.BirthGoing.{AreFine, IsSent}
use Rattle.component_law.proofs.StandRuns.{settled_by, IsAt, starts, goes_on, room_before}
use Rattle.component_law.proofs.BirthSteps.{HaveFirst}
use Rattle.component_law.proofs.BirthEvery.{step_keeps}

-- what holds at the end of a run
record Runs (birth : ℕ → ℕ) (s : Server) (acts : List Act) : Type 0 where
  later : ℕ → ℕ
  agree : Agree birth later s.next_object
  rises : s.next_object ≤ (state_after s acts).next_object
  fine : AreFine later (state_after s acts)
  sent : (drive : ℕ) (c : Command) → In (ToDrive drive c) (sent_over s acts)
      → IsSent later (state_after s acts).next_object c

-- a file that isn't ready has its first tag
firsts : (down : Bool) (s : Server) → IsAt down s → HaveFirst s.files
firsts down s at f i e = ((settled_by down _ f (at.standing f i)).unmade e).2

runs : (birth : ℕ → ℕ) (s : Server) (down : Bool) (acts : List Act) → IsAt down s → AreInTurn down acts
    → counters_have_room (state_after s acts) ≡ true → AreFine birth s → Runs birth s acts
unfolding sent_over
runs birth s down [] at turns low own = record {
  later = birth;
  agree = λ o less. refl;
  rises = omega arith;
  fine = own;
  sent = λ drive c i. absurd i;
}
runs birth s down (a ∷ acts) at turns low own =
    let t : Server = (step s a.chosen a.input).state in
    let g = step_keeps birth s a.chosen a.input (firsts down s at) own in
    let next = goes_on down s a at turns.0 (λ is. room_before down s (a ∷ acts) at low) in
    let r = runs g.later t (down_behind down a.input) acts next turns.1 low g.fine in
    record {
      later = r.later;
      agree = λ o less. r.agree o (omega (arith, less, g.rises)) ∙ g.agree o less;
      rises = omega (arith, g.rises, r.rises);
      fine = r.fine;
      sent = λ drive c i. elim (in_either (ToDrive drive c) (step s a.chosen a.input).sends _ i) [
        | inl j ↦
            born_later g.later r.later t.next_object (state_after t acts).next_object c.object c.capability.tag r.agree
            r.rises (g.sent drive c j)
        | inr j ↦ r.sent drive c j
      ];
    }

pub creates_are_first : CreatesAreFirst
creates_are_first acts turns low f i a w create drive c j object =
    let r = runs (λ o. o) (new_server []) false acts starts turns low (λ g k. absurd k) in
    let made : f.kept.tag ≤ r.later a.command.object = ((r.fine f i).2 a w).1 create in
    let sent = r.sent drive c j in
    omega (arith, made, ap r.later object, sent.1)

-- a file that isn't ready has its first tag at the end of such a run
pub firsts_over : (s : Server) (down : Bool) (acts : List Act) → IsAt down s → AreInTurn down acts
    → counters_have_room (state_after s acts) ≡ true → HaveFirst (state_after s acts).files
firsts_over s down [] at turns low = firsts down s at
firsts_over s down (a ∷ acts) at turns low =
    firsts_over (step s a.chosen a.input).state (down_behind down a.input) acts
    (goes_on down s a at turns.0 (λ is. room_before down s (a ∷ acts) at low)) turns.1 low

-- and nothing that was sent to an object of a file is under an earlier tag than the file's first
pub none_is_earlier : (acts : List Act) → AreInTurn false acts
    → counters_have_room (state_after (new_server []) acts) ≡ true → (f : File)
    → In f (state_after (new_server []) acts).files → (drive : ℕ) (c : Command)
    → In (ToDrive drive c) (sent_over (new_server []) acts) → In c.object (objects_of f.kept.components)
    → f.kept.first_tag ≤ c.capability.tag
none_is_earlier acts turns low f i drive c j object =
    let r = runs (λ o. o) (new_server []) false acts starts turns low (λ g k. absurd k) in
    let since : f.kept.first_tag ≤ r.later c.object = (r.fine f i).3 c.object object in
    let sent = r.sent drive c j in
    omega (arith, since, sent.1)
