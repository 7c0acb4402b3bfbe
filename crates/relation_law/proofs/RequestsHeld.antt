-- A client that asks to return a grant: in the middle of its turn it holds that grant, and so does the machine's client.
-- Towards `ReturnsAreHeld` (`specs/RequestsGoing.antt`).
use Rattle.std.proofs.Common.{◌≡◌, ◌⊎◌, ◌++◌, ℕ, List, [], ◌∷◌, Option, Some, None, refl, sym, ap, ◌∙◌, inl, inr}
use Rattle.client_rules.specs.Calls.{file_of}
use Rattle.client_rules.specs.Going.{moved, by_turn, with_held, begins, begun, progressed, asks_under, returns, requests}
use Rattle.client_rules.specs.Grants.{held_of, put_held}
use Rattle.client_rules.specs.Messages.{finished}
use Rattle.client_rules.proofs.HeldGrants.{held_file}
use Rattle.world_history.specs.ClientNames.{CallOp, Held, Due, Request, Need, Turn, Goes, Ends, Forgets, Moved, Done}
use Rattle.exchange_law.proofs.ClientKeeping.{put_read, without_read}
use Rattle.history_law.proofs.Turns.{each_begin, each_progress}
use Rattle.relation_law.specs.Requests.{IsReturning}
use Rattle.relation_law.proofs.RequestsDealt.{file_of_moved, begins_file}
use Rattle.relation_law.proofs.RequestsHolds.{return_is_held}

-- ---- a call goes on with the drives

module _ (d : Done) (op : CallOp) (h : Held) (held : held_of d.client.held (file_of op) ≡ Some h) (m : Moved)
    (same : m.held.file ≡ h.file) (file : ℕ) where
  abbrev hs : List Held
  hs = put_held d.client.held m.held

  abbrev Before : List Held → Type 0
  Before gs = (j : Held) → held_of gs file ≡ Some j → (k : Held) × (held_of d.client.held file ≡ Some k)

  put_before : Before hs
  put_before j e = elim (put_read d.client.held m.held file j e) [
    | inl it ↦
        let here : file_of op ≡ file = sym (same ∙ held_file d.client.held (file_of op) h held) ∙ it.0 in
        (h, ap (held_of d.client.held) (sym here) ∙ held)
    | inr other ↦ (j, other.1)
  ]

  turn_before : (t : Turn) → Before (by_turn (record (with_held d m.held) { commands = m.sent }) op t).client.held
  turn_before (Goes p) = put_before
  turn_before (Ends o) = put_before
  turn_before (Forgets o) = λ j e. put_before j (without_read hs (file_of op) file j e)

  turn_same : (t : Turn)
      → ((by_turn (record (with_held d m.held) { commands = m.sent }) op t).requests ≡ d.requests)
      × ((by_turn (record (with_held d m.held) { commands = m.sent }) op t).client.outstanding ≡ d.client.outstanding)
  turn_same (Goes p) = (refl, refl)
  turn_same (Ends o) = (refl, refl)
  turn_same (Forgets o) = (refl, refl)

  -- a grant that is held behind it was held before
  pub moved_before : Before (moved d op m).client.held
  moved_before = turn_before m.turn

  pub moved_same : ((moved d op m).requests ≡ d.requests) × ((moved d op m).client.outstanding ≡ d.client.outstanding)
  moved_same = turn_same m.turn

-- ---- a call begins

record IsBegun (file : ℕ) (d e : Done) : Type 0 where
  requests : e.requests ≡ d.requests
  outstanding : e.client.outstanding ≡ d.client.outstanding
  held : (j : Held) → held_of e.client.held file ≡ Some j → (k : Held) × (held_of d.client.held file ≡ Some k)

begun_so : (file : ℕ) (d : Done) → IsBegun file d (begun d)
begun_so file d = each_begin d (IsBegun file d) (record {
  stays = record { requests = refl; outstanding = refl; held = λ j e. (j, e) };
  needs = λ op n is out first. record { requests = refl; outstanding = refl; held = λ j e. (j, e) };
  begun = λ op h is held cover.
      let file_same = file_of_moved h (begins h op) (begins_file h op) in
      let both = moved_same d op h held (begins h op) file_same file in
      record {
        requests = both.0;
        outstanding = both.1;
        held = moved_before d op h held (begins h op) file_same file;
      };
})

-- ---- a request goes out

-- what is outstanding then was before, or is the one that was asked
asked_or_old : (d : Done) → d.requests ≡ [] → (r : Request) → (progressed d).client.outstanding ≡ Some r
    → (d.client.outstanding ≡ Some r) ⊎ ((progressed d).requests ≡ r ∷ [])
unfolding requests
asked_or_old d none = each_progress d (λ e. (r : Request) → e.client.outstanding ≡ Some r
    → (d.client.outstanding ≡ Some r) ⊎ (e.requests ≡ r ∷ [])) (record {
      waits = λ q out r e. inl e;
      works = λ call is out r e. inl e;
      spent = λ idle out z r e. inl e;
      asks = λ op n h is out held. asks op n h;
      gives_back = λ u idle out left is. gives_back u;
    })
  where
    first_of : (before : List Request) (q r : Request) → before ≡ [] → Some q ≡ Some r → before ++ q ∷ [] ≡ r ∷ []
    first_of before q r empty e =
        let same : q ≡ r = cc e in
        ap (λ (xs : List Request). xs ++ q ∷ []) empty ∙ ap (λ (z : Request). z ∷ []) same

    asks : (op : CallOp) (n : Need) (h : Option Held) (r : Request) → (asks_under d op n h).client.outstanding ≡ Some r
        → (d.client.outstanding ≡ Some r) ⊎ ((asks_under d op n h).requests ≡ r ∷ [])
    asks op n None r e = inr (first_of d.requests _ r none e)
    asks op n (Some h) r e = inr (first_of d.requests _ r none e)

    gives_back : (u : Option Due) (r : Request) → (returns d u).client.outstanding ≡ Some r
        → (d.client.outstanding ≡ Some r) ⊎ ((returns d u).requests ≡ r ∷ [])
    gives_back None r e = inl e
    gives_back (Some u) r e = inr (first_of d.requests _ r none e)

-- ---- to the end of a turn

-- what is outstanding then was so before, or it doesn't return a grant, or it returns one that was held in the middle of the turn
pub finished_returns : (d : Done) → d.requests ≡ [] → (r : Request) → (finished d).client.outstanding ≡ Some r
    → IsReturning r.args → (d.client.outstanding ≡ Some r) ⊎ ((h : Held) × (held_of d.client.held r.file ≡ Some h))
unfolding finished
finished_returns d none r out back =
    let b = begun_so r.file d in
    let none_yet : (begun d).requests ≡ [] = b.requests ∙ none in
    elim (asked_or_old (begun d) none_yet r out) [
      | inl before ↦ inl (sym b.outstanding ∙ before)
      | inr one ↦ let it = return_is_held (begun d) none_yet r one back in inr (b.held it.0 it.1)
    ]

-- a return that goes out with number `next` is of a grant that was held in the middle of the turn
pub finished_held : (next : ℕ) (d : Done) → d.requests ≡ []
    → ((r : Request) → d.client.outstanding ≡ Some r → r.sequence ≡ next → ⊥) → (r : Request)
    → (finished d).client.outstanding ≡ Some r → r.sequence ≡ next → IsReturning r.args
    → (h : Held) × (held_of d.client.held r.file ≡ Some h)
finished_held next d none old r out number back = elim (finished_returns d none r out back) [
  | inl before ↦ absurd (old r before number)
  | inr it ↦ it
]
