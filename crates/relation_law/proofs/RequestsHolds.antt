-- A client returns a grant only while it holds one on that file.
-- Towards `ReturnsAreHeld` (`specs/RequestsGoing.antt`).
use Rattle.std.proofs.Common.{◌≡◌, ◌==◌, true, List, [], ◌∷◌, ◌++◌, Option, Some, None, find, refl, sym, ap, subst, ◌∙◌, inl, inr}
use Rattle.std.proofs.lemmas.Bool.{cases_Bool, true≢false}
use Rattle.client_rules.specs.Calls.{file_of}
use Rattle.client_rules.specs.Going.{asks_under, returns, requests, progressed, is_held}
use Rattle.client_rules.specs.Grants.{held_of}
use Rattle.world_history.specs.ClientNames.{CallOp, Held, Due, Request, Need, Done}
use Rattle.history_law.proofs.Turns.{each_progress}
use Rattle.relation_law.specs.Requests.{IsReturning}

-- ---- a grant that is due is held

due_held : (hs : List Held) (u : Due) → is_held hs u ≡ true → (h : Held) × (held_of hs u.file ≡ Some h)
unfolding held_of
due_held [] u is = absurd (true≢false (sym is))
due_held (h ∷ hs) u is = elim (cases_Bool (h.file == u.file)) [
  | inl here ↦ rw here (h, refl)
  | inr there ↦ rw there (due_held hs u (rw there at is))
]

found_held : (hs : List Held) (us : List Due) (u : Due) → find (is_held hs) us ≡ Some u → is_held hs u ≡ true
found_held hs [] u e = absurd (cc e)
found_held hs (x ∷ us) u e = elim (cases_Bool (is_held hs x)) [
  | inl yes_ ↦ let same : x ≡ u = cc (rw yes_ at e) in subst (λ (z : Due). is_held hs z ≡ true) same yes_
  | inr no_ ↦ found_held hs us u (rw no_ at e)
]

-- ---- a return goes out

-- a request that d has sent returns a grant on a file that is held before
abbrev ReturnsHeld : List Held → Done → Type 0
ReturnsHeld hs d =
    (r : Request) → d.requests ≡ r ∷ [] → IsReturning r.args → (h : Held) × (held_of hs r.file ≡ Some h)

one_is : (before : List Request) (q r : Request) → before ≡ [] → before ++ q ∷ [] ≡ r ∷ [] → q ≡ r
one_is [] q r none e = cc e
one_is (x ∷ before) q r none e = absurd (cc none)

module _ (d : Done) (none : d.requests ≡ []) where
  nothing : ReturnsHeld d.client.held d
  nothing r one back = absurd (cc (sym none ∙ one))

  asks : (op : CallOp) (n : Need) (h : Option Held) → held_of d.client.held (file_of op) ≡ h
      → ReturnsHeld d.client.held (asks_under d op n h)
  unfolding requests
  asks op n None held r one back = absurd (subst IsReturning
      (sym (ap (λ (q : Request). q.args) (one_is d.requests _ r none one))) back)
  asks op n (Some h) held r one back =
      (h, ap (held_of d.client.held) (sym (ap (λ (q : Request). q.file) (one_is d.requests _ r none one))) ∙ held)

  gives_back : (u : Option Due) → find (is_held d.client.held) d.client.due ≡ u → ReturnsHeld d.client.held (returns d u)
  unfolding requests
  gives_back None found r one back = absurd (cc (sym none ∙ one))
  gives_back (Some u) found r one back =
      let it = due_held d.client.held u (found_held d.client.held d.client.due u found) in
      (it.0, ap (held_of d.client.held) (sym (ap (λ (q : Request). q.file) (one_is d.requests _ r none one))) ∙ it.1)

  -- where nothing was asked before, a return that goes out is of a grant that is held
  pub return_is_held : ReturnsHeld d.client.held (progressed d)
  return_is_held = each_progress d (ReturnsHeld d.client.held) (record {
    waits = λ r out. nothing;
    works = λ call is out. nothing;
    spent = λ idle out z. nothing;
    asks = λ op n h is out held. asks op n h held;
    gives_back = λ u idle out left is. gives_back u is;
  })
