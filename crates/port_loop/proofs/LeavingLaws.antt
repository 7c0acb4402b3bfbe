-- From one point to a later one, or to an end.
use Rattle.std.proofs.Common.{◌≡◌, ℕ, ◌+◌, List, [], ◌∷◌, ◌++◌, Option, None, Some, refl, sym, subst, arith, ◌∙◌, append_assoc}
use Rattle.port_loop.specs.Points.{Around, Goes, Moves, Sets, Stops, Work, holding}
use Rattle.port_loop.specs.Ports.{Adds, waits_of}
use Rattle.port_loop.specs.declared.ports.Happening.{Happening}
use Rattle.port_loop.specs.declared.handler.Handler.{Ghosts}
use Rattle.port_loop.specs.Serving.{Desk, Ran}
use Rattle.port_loop.specs.Sessions.{Sess}
use Rattle.port_loop.specs.Steps.{Handled, Step}
use Rattle.port_loop.specs.Steps.Step.{Happens, Handles}
use Rattle.port_loop.proofs.ListLaws.{adds-none, adds-one, adds-then, everywhere, same, waits-append}
use Rattle.port_loop.proofs.StepLaws.{goes-ran}

pub moves-zero : {H : Type 0} {v : Ghosts H} {a b : Around H} {w x : Work} {at bt : ℕ → Option Sess}
    → b.told ≡ a.told
    → ((first : v.State) (since : Desk H) (steps : List Step) → Goes v first since a w at steps →
    Goes v first since b x bt steps)
    → Moves 0 v a w at b x bt
moves-zero {H} {v} {a} {b} told h = λ first since steps g. ([], adds-none a.told b.told told, h first since steps g, refl)

pub moves-one : {H : Type 0} {v : Ghosts H} {a b : Around H} {w x : Work} {at bt : ℕ → Option Sess}
    (happening : Happening)
    → Adds happening a.told b.told
    → ((first : v.State) (since : Desk H) (steps : List Step) → Goes v first since a w at steps →
    Goes v first since b x bt (Happens happening ∷ steps))
    → Moves (waits_of happening) v a w at b x bt
moves-one {H} {v} {a} {b} happening told h =
    λ first since steps g. (Happens happening ∷ [], adds-one happening a.told b.told told, h first since steps g, omega arith)

pub moves-handles : {H : Type 0} {v : Ghosts H} {a b : Around H} {w x : Work} {at bt : ℕ → Option Sess}
    (handled : Handled)
    → b.told ≡ a.told
    → ((first : v.State) (since : Desk H) (steps : List Step) → Goes v first since a w at steps →
    Goes v first since b x bt (Handles handled ∷ steps))
    → Moves 0 v a w at b x bt
moves-handles {H} {v} {a} {b} handled told h =
    λ first since steps g. (Handles handled ∷ [], adds-none a.told b.told told, h first since steps g, refl)

pub moves-then : {H : Type 0} {n k : ℕ} {v : Ghosts H} {a b c : Around H} {w x y : Work}
    {at bt ct : ℕ → Option Sess}
    → Moves n v a w at b x bt → Moves k v b x bt c y ct → Moves (n + k) v a w at c y ct
moves-then {H} {n} {k} {v} {a} {b} {c} {w} {x} {y} {at} {bt} {ct} l m = λ first since steps g.
    let i = l first since steps g in
    let j = m first since (i.0 ++ steps) i.2 in (
      j.0 ++ i.0,
      adds-then i.0 j.0 a.told b.told c.told i.1 j.1,
      subst (λ (l : List Step). Goes v first since c y ct l) (sym (append_assoc j.0 i.0 steps)) j.2,
      waits-append i.0 j.0 n k i.3 j.3,
    )

pub moves-stop : {H : Type 0} {n : ℕ} {v : Ghosts H} {a b : Around H} (c : Around H) {w x : Work}
    {at bt : ℕ → Option Sess}
    → Moves n v a w at b x bt → Stops v b x bt c → Stops v a w at c
moves-stop {H} {n} {v} {a} {b} c {w} {x} {at} {bt} l m = λ first since steps g.
    let i = l first since steps g in
    let j = m first since (i.0 ++ steps) i.2 in (
      j.0 ++ i.0,
      adds-then i.0 j.0 a.told b.told c.told i.1 j.1,
      subst (λ (l : List Step). Ran v first since c.desk l) (sym (append_assoc j.0 i.0 steps)) j.2,
    )

pub stops-here : {H : Type 0} {n : ℕ} {v : Ghosts H} {a b : Around H} {w x : Work} {at bt : ℕ → Option Sess}
    → Moves n v a w at b x bt → Stops v a w at b
stops-here {H} {n} {v} {a} {b} m = λ first since steps g.
    let i = m first since steps g in (i.0, i.1, goes-ran i.2)

-- ---- sessions in hand

pub holding-here : (p : ℕ) (s : Sess) (at : ℕ → Option Sess) → holding p s at p ≡ Some s
holding-here p s at = rw (same p) refl

pub holding-sets : (p : ℕ) (s t : Sess) (at : ℕ → Option Sess) → Sets p (Some t) (holding p s at) (holding p t at)
holding-sets p s t at = record { here = rw (same p) refl; there = λ q ne. rw ne refl }

pub lifted-sets : (p : ℕ) (t : Sess) (at bt : ℕ → Option Sess) → Sets p None at bt → Sets p (Some t) at (holding p t bt)
lifted-sets p t at bt sets = record { here = rw (same p) refl; there = λ q ne. rw ne (sets.there q ne) }

pub dropped-sets : (p : ℕ) (s : Sess) (at : ℕ → Option Sess) → at p ≡ None → Sets p None (holding p s at) at
dropped-sets p s at none = record { here = none; there = λ q ne. rw ne refl }

pub laid-same : (p : ℕ) (s : Sess) (at bt : ℕ → Option Sess) → Sets p (Some s) at bt → (q : ℕ) → bt q ≡ holding p s at q
laid-same p s at bt sets q =
    everywhere (λ r. bt r ≡ holding p s at r) p q (sets.here ∙ rw (same p) refl) (λ ne. sets.there q ne ∙ rw ne refl)

pub lifted-same : (p : ℕ) (s : Sess) (at bt : ℕ → Option Sess) → at p ≡ Some s → Sets p None at bt →
    (q : ℕ) → holding p s bt q ≡ at q
lifted-same p s at bt is sets q =
    everywhere (λ r. holding p s bt r ≡ at r) p q (rw (same p) (sym is)) (λ ne. rw ne (sets.there q ne))

pub absent-same : (p : ℕ) (at bt : ℕ → Option Sess) → at p ≡ None → Sets p None at bt → (q : ℕ) → bt q ≡ at q
absent-same p at bt none sets q =
    everywhere (λ r. bt r ≡ at r) p q (sets.here ∙ sym none) (λ ne. sets.there q ne)
