-- What a loop over many connections does.
use Rattle.std.specs.Prelude.{◌≡◌, ◌⊎◌, ⊤, ℕ, Bool, if◌then◌else◌, List, [], ◌∷◌, ◌++◌, Option, None, option_map, Result, Ok, Err}
use Rattle.osd_bytes.specs.Clocks.{TellsTime}
use Rattle.port_loop.specs.declared.handler.Handler.{Ghosts}
use Rattle.port_loop.specs.declared.handler.HandlerErr.{HandlerErr}
use Rattle.port_loop.specs.declared.handler.HandlerErr.TheVariants.{Failed, Memory as NoMemory}
use Rattle.port_loop.specs.declared.serving.LoopErr.{LoopErr}
use Rattle.port_loop.specs.declared.serving.LoopErr.TheVariants.{PortFault, HandlerFault, Memory}
use Rattle.port_loop.specs.declared.ports.Happening.{Happening}
use Rattle.port_loop.specs.Ports.{over_in}
use Rattle.port_loop.specs.Steps.{Follows, Handled, IsFrontOnEach, Lawful, Settled, Step, after_all, handled_in, happened, waits_in}
use Rattle.port_loop.specs.Steps.Step.{Handles}

-- how the loop ends if the handler does
abbrev pub loop_err : HandlerErr → LoopErr
loop_err Failed = HandlerFault
loop_err NoMemory = Memory

-- so much more happened
abbrev pub onto : List Happening → Option (List Happening) → Option (List Happening)
onto more told = option_map (λ l. more ++ l) told

-- the same, unless it isn't told any more what happened
abbrev pub AddsAll : List Happening → (before now : Option (List Happening)) → Type 0
AddsAll more before now = (now ≡ None) ⊎ (now ≡ onto more before)

-- ---- what the handler and the clock do

-- a handler, and the times that its clock tells
pub record Desk (H : Type 0) : Type 0 where
  pub handler : H
  pub times : Option (List ℕ)

abbrev pub desk_at : {H : Type 0} → H → Option (List ℕ) → Desk H
desk_at handler times = record { handler = handler; times = times }

-- these records were handled, one after the other and each to its end, at the next time of the clock
abbrev pub HandlesAll : {H : Type 0} → Ghosts H → (before : Desk H) → List Handled → (now : Desk H) → Type 0
HandlesAll {H} v before [] now = now ≡ before
HandlesAll {H} v before (h ∷ hs) now =
    (between : Desk H) × TellsTime before.times between.times h.time
    × v.handles h.time h.message before.handler between.handler × HandlesAll v between hs now

-- After some steps the call failed for the next record of all that were taken, at the next time of the clock. That one was
-- handled all the same, as the last step, or not.
pub record BreaksOff {H : Type 0} (v : Ghosts H) (first : v.State) (before now : Desk H) (steps : List Step) : Type 0 where
  pub older : List Step
  pub mid : Desk H
  pub handles : HandlesAll v before (handled_in older) mid
  pub next : Handled
  pub follows : Follows v.reply_to v.state_after first (Handles next) older
  pub tells : TellsTime mid.times now.times next.time
  pub is_handled : Bool
  pub fails : v.fails next.time next.message is_handled mid.handler now.handler
  pub are : steps ≡ (if is_handled then Handles next ∷ older else older)

-- ---- the loop

-- These lawful steps were made since a first state: what was put on each connection are replies to its records, in order. Each
-- record was handled to its end, but perhaps one that broke off.
pub record Ran {H : Type 0} (v : Ghosts H) (first : v.State) (before now : Desk H) (steps : List Step) : Type 0 where
  pub lawful : Lawful v.reply_to v.state_after first steps
  pub fronts : IsFrontOnEach v.reply_to v.state_after first steps
  pub state : v.state now.handler ≡ after_all v.state_after first (handled_in steps)
  pub desk : HandlesAll v before (handled_in steps) now ⊎ BreaksOff v first before now steps

-- all is settled, and each record was handled to its end
pub record Stands {H : Type 0} (v : Ghosts H) (first : v.State) (before now : Desk H) (steps : List Step) : Type 0 where
  pub settled : Settled v.reply_to v.state_after first steps
  pub desk : HandlesAll v before (handled_in steps) now
  pub goes_on : v.goes_on now.handler

-- unless the handler failed or memory was missing, all is settled; at the end so many connections are over, or the loop has
-- waited as often as it was to
abbrev pub Finishes : {H : Type 0} → (v : Ghosts H) → (first : v.State) → (before now : Desk H) → (connections turns : ℕ)
    → List Step → Result ⊤ LoopErr → Type 0
Finishes v first before now connections turns steps (Ok done) =
    Stands v first before now steps × ((over_in (happened steps) ≡ connections) ⊎ (waits_in steps ≡ turns))
Finishes v first before now connections turns steps (Err PortFault) = Stands v first before now steps
Finishes v first before now connections turns steps (Err HandlerFault) = ⊤
Finishes v first before now connections turns steps (Err Memory) = ⊤

abbrev pub Serves : {H : Type 0} → Ghosts H → (before now : Desk H) → (told_before told_now : Option (List Happening))
    → (connections turns : ℕ) → Result ⊤ LoopErr → Type 0
Serves v before now told_before told_now connections turns result =
    (steps : List Step) × AddsAll (happened steps) told_before told_now
    × Ran v (v.state before.handler) before now steps
    × Finishes v (v.state before.handler) before now connections turns steps result
