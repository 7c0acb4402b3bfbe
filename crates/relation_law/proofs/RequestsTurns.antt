-- What a turn of a client asks: nothing, or one request with the next number.
use Rattle.std.proofs.Common.{◌≡◌, ℕ, true, List, [], ◌∷◌, ◌++◌, Option, Some, None, refl, sym, ap, subst, ◌∙◌, inl, inr}
use Rattle.layout_ops.specs.declared.args.Args.{Args}
use Rattle.client_rules.specs.Calls.{file_of}
use Rattle.client_rules.specs.Going.{quiet, moved, phased, by_turn, begins, begun, progressed, asks_under, returns, requests, due_behind, request_of, after_number}
use Rattle.client_rules.specs.Grants.{covers, held_of, put_held}
use Rattle.client_rules.specs.Messages.{finished}
use Rattle.client_rules.specs.Requests.{args_of, get_args, return_args}
use Rattle.world_history.specs.ClientNames.{Client, Call, CallOp, Held, Due, Request, Need, Needs, Waits, Turn, Goes, Ends, Forgets, Moved, Done}
use Rattle.history_law.specs.Turns.{IsBeginning, IsNeeding, FinishCases}
use Rattle.history_law.proofs.Turns.{each_finish}
use Rattle.relation_law.specs.Requests.{WorksCall, IsAsBefore, Turned, NothingAsked, OneAsked, HasTurned}
use Rattle.relation_law.proofs.RequestsMoves.{WorksTurn, WorksMoved, turn_of, begins_works}

-- ---- a call goes on

works_turn : (d : Done) (op : CallOp) (t : Turn) → WorksTurn t → WorksCall (by_turn d op t).client.call
unfolding WorksTurn
works_turn d op (Goes p) w = w
works_turn d op (Ends o) w = tt
works_turn d op (Forgets o) w = tt

pub turn_stays : (d : Done) (op : CallOp) (t : Turn) → ((by_turn d op t).requests ≡ d.requests)
    × ((by_turn d op t).client.outstanding ≡ d.client.outstanding) × ((by_turn d op t).client.next ≡ d.client.next)
turn_stays d op (Goes p) = (refl, refl, refl)
turn_stays d op (Ends o) = (refl, refl, refl)
turn_stays d op (Forgets o) = (refl, refl, refl)

works_before : (o p q : Option Call) → IsAsBefore o p → WorksCall p → WorksCall q → IsAsBefore o q
works_before o p q (inl same) w v = inr (subst WorksCall same w, v)
works_before o p q (inr both) w v = inr (both.0, v)

-- the client with the grant as the drives' part of the call left it, and the commands that it sends
abbrev dealt : Done → Moved → Done
dealt d m = record d { client = record d.client { held = put_held d.client.held m.held }; commands = m.sent }

-- it goes on from a phase that waits for no answer
pub moved_turned : (y : Client) (d : Done) (op : CallOp) (m : Moved) → Turned y d → WorksCall d.client.call
    → WorksMoved m → Turned y (moved d op m)
moved_turned y d op m (NothingAsked none out next before) works w =
    let s = turn_stays (dealt d m) op m.turn in
    NothingAsked (s.0 ∙ none) (s.1 ∙ out) (s.2 ∙ next)
    (λ r is. works_before y.call d.client.call _ (before r is) works
    (works_turn (dealt d m) op m.turn
    (turn_of m w)))
moved_turned y d op m (OneAsked r one out none number next) works w =
    let s = turn_stays (dealt d m) op m.turn in
    OneAsked r (s.0 ∙ one) (s.1 ∙ out) none number (s.2 ∙ next)

-- ---- to the end of a turn

none_some : {r : Request} {o : Option Request} → o ≡ Some r → o ≡ None → ⊥
none_some is none = cc (sym is ∙ none)

module _ (y : Client) where
  needs : (d : Done) (op : CallOp) (n : Need) → Turned y d → IsBeginning d.client op → d.client.outstanding ≡ None
      → Turned y (phased d op (Needs n))
  needs d op n (NothingAsked none out next before) is free =
      NothingAsked none out next (λ r e. absurd (none_some (out ∙ e) free))
  needs d op n (OneAsked r one out none number next) is free = absurd (none_some out free)

  begins_on : (d : Done) (op : CallOp) (h : Held) → Turned y d → IsBeginning d.client op
      → held_of d.client.held (file_of op) ≡ Some h → covers h op ≡ true → Turned y (moved d op (begins h op))
  begins_on d op h q is held covered =
      moved_turned y d op (begins h op) q (subst WorksCall (sym is) refl) (begins_works h op)

  -- a request is sent
  asked : (d e : Done) (file : ℕ) (a : Args) → Turned y d → d.client.outstanding ≡ None → e.requests ≡ d.requests
      → e.client.next ≡ d.client.next → Turned y (requests e file a)
  unfolding requests
  asked d e file a (NothingAsked none out next before) free same number =
      OneAsked (request_of e.client file a)
      (ap (λ (rs : List Request). rs ++ request_of e.client file a ∷ []) (same ∙ none)) refl (sym out ∙ free)
      (number ∙ next) (ap after_number (number ∙ next))
  asked d e file a (OneAsked r one out none number next) free same numbers = absurd (none_some out free)

  asks : (d : Done) (op : CallOp) (n : Need) (h : Option Held) → Turned y d → IsNeeding d.client op n
      → d.client.outstanding ≡ None → held_of d.client.held (file_of op) ≡ h → Turned y (asks_under d op n h)
  asks d op n None q is free held = asked d (phased d op (Waits n)) (file_of op) (get_args op) q free refl refl
  asks d op n (Some h) q is free held = asked d (phased d op (Waits n)) (file_of op) (args_of h op n) q free refl refl

  gives_back : (d : Done) (u : Option Due) → Turned y d → d.client.call ≡ None → d.client.outstanding ≡ None
      → Turned y (returns d u)
  gives_back d None (NothingAsked none out next before) idle free = NothingAsked none out next before
  gives_back d None (OneAsked r one out none number next) idle free = absurd (none_some out free)
  gives_back d (Some u) q idle free =
      asked d (record d { client = record d.client { due = due_behind d.client.held d.client.due } }) u.file
      (return_args u.number []) q free refl refl

  finish : FinishCases (Turned y)
  finish = record {
    needs = λ d op n q is out first. needs d op n q is out;
    begun = begins_on;
    asks = asks;
    gives_back = gives_back;
  }

  pub finished_turned : (d : Done) → Turned y d → HasTurned y (finished d)
  unfolding finished
  finished_turned d q = record {
    done = progressed (begun d);
    turned = each_finish (Turned y) finish d q;
    client = refl;
    sends = refl;
  }

  pub quiet_turned : (x : Client) → x.outstanding ≡ y.outstanding → x.next ≡ y.next
      → ((r : Request) → y.outstanding ≡ Some r → IsAsBefore y.call x.call) → Turned y (quiet x)
  quiet_turned x out next before = NothingAsked refl out next before
