-- A grant that was taken out for a move, and put back by it.
use Rattle.std.specs.Prelude.{ℕ, List, [], ◌∷◌, Option, Some, None, refl, ◌≡◌, ◌==◌}
use Rattle.std.proofs.Common.{arith, inl, inr, ap}
use Rattle.std.proofs.lemmas.Bool.{cases_Bool}
use Rattle.std.proofs.lemmas.Bool.Decides.{nat_tests}
use Rattle.client_rules.specs.declared.calls.Call.{Call}
use Rattle.client_rules.specs.declared.calls.CallOp.{CallOp}
use Rattle.client_rules.specs.declared.grants.Held.{Held}
use Rattle.client_rules.specs.declared.steps.Turn.{Turn}
use Rattle.client_rules.specs.declared.steps.Turn.TheVariants.{Goes, Ends, Forgets}
use Rattle.client_rules.specs.declared.steps.Moved.{Moved}
use Rattle.client_rules.specs.declared.steps.Done.{Done}
use Rattle.client_rules.specs.Grants.{held_of, put_held, without_held}
use Rattle.client_rules.specs.Going.{by_turn, moved}

-- where none is found, taking it out changes nothing
pub none_left : (hs : List Held) (f : ℕ) → held_of hs f ≡ None → without_held hs f ≡ hs
unfolding held_of without_held
none_left [] f e = refl
none_left (g ∷ hs) f e = elim (cases_Bool (g.file == f)) [
  | inl t ↦ absurd (cc (rw t at e))
  | inr z ↦ rw z (ap (λ (x : List Held). g ∷ x) (none_left hs f (rw z at e)))
]

-- the state with other held grants, and another call
abbrev pub taken_up : Done → List Held → Option Call → Done
taken_up d hs call = record d { client = record d.client { held = hs; call = call } }

pub turned_alike : (d : Done) (op : CallOp) (t : Turn) (call : Option Call) →
    by_turn (taken_up d d.client.held call) op t ≡ by_turn d op t
turned_alike d op (Goes p) call = refl
turned_alike d op (Ends o) call = refl
turned_alike d op (Forgets o) call = refl

-- the move puts it back where it stood
pub moved_alike : (d : Done) (hs : List Held) (call : Option Call) (op : CallOp) (m : Moved) →
    put_held hs m.held ≡ put_held d.client.held m.held → moved (taken_up d hs call) op m ≡ moved d op m
moved_alike d hs call op m e =
    rw e
    (turned_alike (record d { client = record d.client { held = put_held d.client.held m.held }; commands = m.sent })
    op m.turn call)
