-- From one point to a later one, or to an end.
use Rattle.std.proofs.Common.{◌≡◌, ℕ, ◌+◌, List, [], ◌∷◌, ◌++◌, Option, None, Some, refl, sym, subst, arith, ◌∙◌, append_assoc}
use Rattle.node_loop.specs.Nodes.{Held, Sets}
use Rattle.node_loop.specs.Points.{Goes, Here, Moves, Stops, Work, holding}
use Rattle.node_loop.specs.Serving.{Ran}
use Rattle.node_loop.specs.Steps.{Heard, Step, happened, waits_in}
use Rattle.node_loop.specs.Steps.Step.{Happens, Hears, Resends, Posts, Loses}
use Rattle.node_loop.specs.declared.party.Message.{Message}
use Rattle.node_loop.specs.declared.party.Party.{Ghosts}
use Rattle.port_loop.specs.Ports.{Adds, waits_of}
use Rattle.port_loop.specs.Serving.{AddsAll, Desk}
use Rattle.port_loop.specs.declared.ports.Happening.{Happening}
use Rattle.port_loop.proofs.ListLaws.{adds-more, adds-none, adds-one, everywhere, same}
use Rattle.node_loop.proofs.HearingLaws.{goes-ran}

happened-append : {C : Type 0} (a b : List (Step C)) → happened (a ++ b) ≡ happened a ++ happened b
happened-append [] b = refl
happened-append (Happens x ∷ a) b = rw (happened-append a b) refl
happened-append (Hears h ∷ a) b = happened-append a b
happened-append (Resends ∷ a) b = happened-append a b
happened-append (Posts p m ∷ a) b = happened-append a b
happened-append (Loses m ∷ a) b = happened-append a b

waits-append : {C : Type 0} (a b : List (Step C)) → waits_in (a ++ b) ≡ waits_in b + waits_in a
waits-append [] b = omega arith
waits-append (Happens x ∷ a) b = let more : waits_in (a ++ b) ≡ waits_in b + waits_in a = waits-append a b in omega (arith, more)
waits-append (Hears h ∷ a) b = waits-append a b
waits-append (Resends ∷ a) b = waits-append a b
waits-append (Posts p m ∷ a) b = waits-append a b
waits-append (Loses m ∷ a) b = waits-append a b

adds-then : {C : Type 0} (x y : List (Step C)) (a b c : Option (List Happening)) → AddsAll (happened x) a b
    → AddsAll (happened y) b c → AddsAll (happened (y ++ x)) a c
adds-then x y a b c e f = rw (happened-append y x) (adds-more (happened x) (happened y) a b c e f)

-- the same place
pub moves-zero : {H : Type 0} {v : Ghosts H} {a b : Here H} {w x : Work}
    → b.told ≡ a.told
    → ((first : v.State) (since : Desk H) (steps : List (Step v.Choice)) → Goes v first since a w steps →
    Goes v first since b x steps)
    → Moves 0 v a w b x
moves-zero {H} {v} {a} {b} told h = λ first since steps g. ([], adds-none a.told b.told told, h first since steps g, refl)

-- something happened
pub moves-happens : {H : Type 0} {v : Ghosts H} {a b : Here H} {w x : Work} (happening : Happening)
    → Adds happening a.told b.told
    → ((first : v.State) (since : Desk H) (steps : List (Step v.Choice)) → Goes v first since a w steps →
    Goes v first since b x (Happens happening ∷ steps))
    → Moves (waits_of happening) v a w b x
moves-happens {H} {v} {a} {b} happening told h =
    λ first since steps g. (Happens happening ∷ [], adds-one happening a.told b.told told, h first since steps g, omega arith)

-- two things happened
pub moves-two : {H : Type 0} {v : Ghosts H} {a b : Here H} {w x : Work} (h k : Happening) (between : Option (List Happening))
    → Adds h a.told between → Adds k between b.told
    → ((first : v.State) (since : Desk H) (steps : List (Step v.Choice)) → Goes v first since a w steps →
    Goes v first since b x (Happens k ∷ Happens h ∷ steps))
    → Moves (waits_of h + waits_of k) v a w b x
moves-two {H} {v} {a} {b} h k between e f goes = λ first since steps g. (
  Happens k ∷ Happens h ∷ [],
  adds-more (h ∷ []) (k ∷ []) a.told between b.told (adds-one h a.told between e) (adds-one k between b.told f),
  goes first since steps g,
  omega arith,
)

-- a step of the loop itself
pub moves-posts : {H : Type 0} {v : Ghosts H} {a b : Here H} {w x : Work} (p : ℕ) (m : Message)
    → b.told ≡ a.told
    → ((first : v.State) (since : Desk H) (steps : List (Step v.Choice)) → Goes v first since a w steps →
    Goes v first since b x (Posts p m ∷ steps))
    → Moves 0 v a w b x
moves-posts {H} {v} {a} {b} p m told h =
    λ first since steps g. (Posts p m ∷ [], adds-none a.told b.told told, h first since steps g, refl)

pub moves-loses : {H : Type 0} {v : Ghosts H} {a b : Here H} {w x : Work} (m : Message)
    → b.told ≡ a.told
    → ((first : v.State) (since : Desk H) (steps : List (Step v.Choice)) → Goes v first since a w steps →
    Goes v first since b x (Loses m ∷ steps))
    → Moves 0 v a w b x
moves-loses {H} {v} {a} {b} m told h =
    λ first since steps g. (Loses m ∷ [], adds-none a.told b.told told, h first since steps g, refl)

pub moves-resends : {H : Type 0} {v : Ghosts H} {a b : Here H} {w x : Work}
    → b.told ≡ a.told
    → ((first : v.State) (since : Desk H) (steps : List (Step v.Choice)) → Goes v first since a w steps →
    Goes v first since b x (Resends ∷ steps))
    → Moves 0 v a w b x
moves-resends {H} {v} {a} {b} told h =
    λ first since steps g. (Resends ∷ [], adds-none a.told b.told told, h first since steps g, refl)

pub moves-hears : {H : Type 0} {v : Ghosts H} {a b : Here H} {w x : Work} (heard : Heard v.Choice)
    → b.told ≡ a.told
    → ((first : v.State) (since : Desk H) (steps : List (Step v.Choice)) → Goes v first since a w steps →
    Goes v first since b x (Hears heard ∷ steps))
    → Moves 0 v a w b x
moves-hears {H} {v} {a} {b} heard told h =
    λ first since steps g. (Hears heard ∷ [], adds-none a.told b.told told, h first since steps g, refl)

-- ---- one move after the other

pub moves-then : {H : Type 0} {n k : ℕ} {v : Ghosts H} {a b c : Here H} {w x y : Work}
    → Moves n v a w b x → Moves k v b x c y → Moves (n + k) v a w c y
moves-then {H} {n} {k} {v} {a} {b} {c} {w} {x} {y} l m = λ first since steps g.
    let i = l first since steps g in
    let j = m first since (i.0 ++ steps) i.2 in (
      j.0 ++ i.0,
      adds-then i.0 j.0 a.told b.told c.told i.1 j.1,
      subst (λ (l : List (Step v.Choice)). Goes v first since c y l) (sym (append_assoc j.0 i.0 steps)) j.2,
      sum i.0 j.0 i.3 j.3,
    )
  where
    sum : (x y : List (Step v.Choice)) → waits_in x ≡ n → waits_in y ≡ k → waits_in (y ++ x) ≡ n + k
    sum x y e f = let all : waits_in (y ++ x) ≡ waits_in x + waits_in y = waits-append y x in omega (arith, all, e, f)

pub moves-stop : {H : Type 0} {n : ℕ} {v : Ghosts H} {a b : Here H} (c : Here H) {w x : Work}
    → Moves n v a w b x → Stops v b x c → Stops v a w c
moves-stop {H} {n} {v} {a} {b} c {w} {x} l m = λ first since steps g.
    let i = l first since steps g in
    let j = m first since (i.0 ++ steps) i.2 in (
      j.0 ++ i.0,
      adds-then i.0 j.0 a.told b.told c.told i.1 j.1,
      subst (λ (l : List (Step v.Choice)). Ran v first since c.desk l) (sym (append_assoc j.0 i.0 steps)) j.2,
    )

pub stops-here : {H : Type 0} {n : ℕ} {v : Ghosts H} {a b : Here H} {w x : Work}
    → Moves n v a w b x → Stops v a w b
stops-here {H} {n} {v} {a} {b} m = λ first since steps g.
    let i = m first since steps g in (i.0, i.1, goes-ran i.2)

-- memory was missing before anything was done, or what it was needed for makes no difference
pub stops-at : {H : Type 0} {v : Ghosts H} (a b : Here H) (w : Work) → b.told ≡ a.told → b.desk ≡ a.desk → Stops v a w b
stops-at {H} {v} a b w told desk = λ first since steps g.
    ([], adds-none a.told b.told told, subst (λ (d : Desk H). Ran v first since d steps) (sym desk) (goes-ran g))

-- ---- connections in hand

pub holding-here : (p : ℕ) (s : Held) (at : ℕ → Option Held) → holding p s at p ≡ Some s
holding-here p s at = rw (same p) refl

pub holding-sets : (p : ℕ) (s t : Held) (at : ℕ → Option Held) → Sets p (Some t) (holding p s at) (holding p t at)
holding-sets p s t at = record { here = rw (same p) refl; there = λ q ne. rw ne refl }

-- a lifted one is in hand
pub held-sets : (p : ℕ) (t : Held) (at bt : ℕ → Option Held) → Sets p None at bt → Sets p (Some t) at (holding p t bt)
held-sets p t at bt sets = record { here = rw (same p) refl; there = λ q ne. rw ne (sets.there q ne) }

pub new-sets : (p : ℕ) (t : Held) (at : ℕ → Option Held) → Sets p (Some t) at (holding p t at)
new-sets p t at = record { here = rw (same p) refl; there = λ q ne. rw ne refl }

-- one that was lifted and laid again, with another in its place
pub laid-sets : (p : ℕ) (t : Held) (at bt ct : ℕ → Option Held) → Sets p None at bt → Sets p (Some t) bt ct → Sets p
    (Some t) at ct
laid-sets p t at bt ct lifted laid = record { here = laid.here; there = λ q ne. laid.there q ne ∙ lifted.there q ne }

pub laid-same : (p : ℕ) (s : Held) (at bt : ℕ → Option Held) → Sets p (Some s) at bt → (q : ℕ) → bt q ≡ holding p s at q
laid-same p s at bt sets q =
    everywhere (λ r. bt r ≡ holding p s at r) p q (sets.here ∙ rw (same p) refl) (λ ne. sets.there q ne ∙ rw ne refl)

pub lifted-same : (p : ℕ) (s : Held) (at bt : ℕ → Option Held) → at p ≡ Some s → Sets p None at bt →
    (q : ℕ) → holding p s bt q ≡ at q
lifted-same p s at bt is sets q =
    everywhere (λ r. holding p s bt r ≡ at r) p q (rw (same p) (sym is)) (λ ne. rw ne (sets.there q ne))

-- one that was lifted and laid again
pub laid-again : (p : ℕ) (s : Held) (at bt ct : ℕ → Option Held) → at p ≡ Some s → Sets p None at bt → Sets p (Some s) bt ct
    → (q : ℕ) → ct q ≡ at q
laid-again p s at bt ct is lifted laid q =
    everywhere (λ r. ct r ≡ at r) p q (laid.here ∙ sym is) (λ ne. laid.there q ne ∙ lifted.there q ne)

pub absent-same : (p : ℕ) (at bt : ℕ → Option Held) → at p ≡ None → Sets p None at bt → (q : ℕ) → bt q ≡ at q
absent-same p at bt none sets q =
    everywhere (λ r. bt r ≡ at r) p q (sets.here ∙ sym none) (λ ne. sets.there q ne)
