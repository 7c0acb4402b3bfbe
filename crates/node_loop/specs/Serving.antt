-- What a party does among nodes over many connections.
use Rattle.std.specs.Prelude.{◌≡◌, ◌⊎◌, ⊤, ℕ, ◌≤◌, List, [], ◌∷◌, Option, Result, Ok, Err}
use Rattle.osd_bytes.specs.Clocks.{TellsTime}
use Rattle.node_loop.specs.Rules.{rules_of}
use Rattle.node_loop.specs.Steps.{Follows, Heard, IsFrontOnEach, Lawful, Settled, Step, happened, state_in, waits_in}
use Rattle.node_loop.specs.Steps.Step.{Hears}
use Rattle.node_loop.specs.declared.party.Party.{Ghosts}
use Rattle.port_loop.specs.Ports.{over_in}
use Rattle.port_loop.specs.Serving.{AddsAll, Desk}
use Rattle.port_loop.specs.declared.ports.Happening.{Happening}
use Rattle.port_loop.specs.declared.serving.LoopErr.{LoopErr}
use Rattle.port_loop.specs.declared.serving.LoopErr.TheVariants.{PortFault, HandlerFault, Memory}

-- each record of these steps was heard to its end, one after the other, at the next time of the clock
abbrev pub HearsAll : {H : Type 0} (v : Ghosts H) → (before : Desk H) → List (Step v.Choice) → (now : Desk H) → Type 0
HearsAll {H} v before [] now = now ≡ before
HearsAll {H} v before (Hears h ∷ older) now =
    (mid : Desk H) × HearsAll v before older mid × TellsTime mid.times now.times h.time
    × v.hears h.chosen h.time h.from h.message mid.handler now.handler
HearsAll {H} v before (s ∷ older) now = HearsAll v before older now

-- the steps to their ends, and the party as they leave it
pub record HasHeard {H : Type 0} (v : Ghosts H) (first : v.State) (before now : Desk H) (steps : List (Step v.Choice)) : Type 0
  where
    pub desk : HearsAll v before steps now
    pub state : v.state now.handler ≡ state_in (rules_of v) first steps

-- After these steps the call failed for the next record of all that were taken, at the next time of the clock.
pub record BreaksOff {H : Type 0} (v : Ghosts H) (first : v.State) (before now : Desk H) (steps : List (Step v.Choice)) : Type 0
  where
    pub mid : Desk H
    pub heard : HasHeard v first before mid steps
    pub next : Heard v.Choice
    pub follows : Follows (rules_of v) first (Hears next) steps
    pub tells : TellsTime mid.times now.times next.time
    pub fails : v.fails next.chosen next.time next.from next.message mid.handler now.handler

-- These lawful steps were made since a first state: what was put on each connection is a front of what was posted on it. Each
-- record was heard to its end, but perhaps one more, which broke off and of which nothing was posted.
pub record Ran {H : Type 0} (v : Ghosts H) (first : v.State) (before now : Desk H) (steps : List (Step v.Choice)) : Type 0 where
  pub lawful : Lawful (rules_of v) first steps
  pub fronts : IsFrontOnEach steps
  pub heard : HasHeard v first before now steps ⊎ BreaksOff v first before now steps

-- all is settled, and each record was heard to its end
pub record Stands {H : Type 0} (v : Ghosts H) (first : v.State) (before now : Desk H) (steps : List (Step v.Choice)) : Type 0
  where
    pub settled : Settled (rules_of v) first steps
    pub heard : HasHeard v first before now steps
    pub goes_on : v.goes_on now.handler

-- unless the party failed or memory was missing, all is settled; at the end so many connections that others began are over, or
-- the loop has waited as often as it was to
abbrev pub Finishes : {H : Type 0} (v : Ghosts H) → (first : v.State) → (before now : Desk H) → (connections turns : ℕ)
    → List (Step v.Choice) → Result ⊤ LoopErr → Type 0
Finishes v first before now connections turns steps (Ok done) =
    Stands v first before now steps × ((connections ≤ over_in (happened steps)) ⊎ (waits_in steps ≡ turns))
Finishes v first before now connections turns steps (Err PortFault) = Stands v first before now steps
Finishes v first before now connections turns steps (Err HandlerFault) = ⊤
Finishes v first before now connections turns steps (Err Memory) = ⊤

abbrev pub Serves : {H : Type 0} → Ghosts H → (before now : Desk H) → (told_before told_now : Option (List Happening))
    → (connections turns : ℕ) → Result ⊤ LoopErr → Type 0
Serves v before now told_before told_now connections turns result =
    (steps : List (Step v.Choice)) × AddsAll (happened steps) told_before told_now
    × Ran v (v.state before.handler) before now steps
    × Finishes v (v.state before.handler) before now connections turns steps result
