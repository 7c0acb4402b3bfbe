-- The verdict with which a call ends was given on a command that it awaited, so it tells of no lane.
use Rattle.std.proofs.Common.{◌≡◌, ℕ, true, false, List, [], ◌∷◌, ◌++◌, refl, sym, ap, ◌∙◌, append_assoc, inl, inr}
use Rattle.osd_commands.specs.Commands.{reading}
use Rattle.scenario_text.specs.declared.event.Event.TheVariants as event
use Rattle.scenario_text.specs.declared.line.Delivery.TheVariants.{Judged}
use Rattle.scenario_text.specs.declared.line.Ending.TheVariants.{Refused}
use Rattle.scenario_text.specs.declared.line.Outcome.TheVariants.{Failed}
use Rattle.scenario_text.specs.declared.line.Verdict.{Verdict}
use Rattle.scenario_text.specs.declared.line.Verdict.TheVariants as verdict
use Rattle.scenario_text.specs.declared.line.Line.{Line}
use Rattle.scenario_text.specs.declared.line.Line.TheVariants as line
use Rattle.world_history.specs.State.{at_number}
use Rattle.world_history.specs.Drives.{verdict_on}
use Rattle.world_history.specs.Guesses.{unguessed}
use Rattle.exchange_law.specs.Judged.{carried}
use Rattle.exchange_law.specs.Awaited.{IsBehind, WasAwaited, AwaitedAt, RefusalsWereAwaited}
use Rattle.history_law.proofs.Coming.{clean_front}
use Rattle.exchange_law.specs.Given.{GrantsAreNew}
use Rattle.exchange_law.specs.LaneTaken.{is_of_lanes, AwaitedAreTaken}
use Rattle.cause_law.specs.Rooms.{HasRoom, PlacesSuffice, NoLaneIsWanting}

-- a reply carries such a verdict only where there was one
as_carried : (v : Verdict) → is_of_lanes (carried v) ≡ is_of_lanes v
as_carried (verdict.Tag current) = refl
as_carried (verdict.NoSpace free) = refl
as_carried (verdict.Stale last) = refl
as_carried v = refl

-- the lines of a moment are the first of those behind it
pub record IsFront (front whole : List Line) : Type 0 where
  pub rest : List Line
  pub is : whole ≡ front ++ rest

behind_front : (before lines more whole : List Line) (n : ℕ) → IsBehind before lines n → whole ≡ before ++ more
    → IsFront lines whole
behind_front before lines more whole n (inl e) is = record { rest = more; is = is ∙ ap (λ (ls : List Line). ls ++ more) e }
behind_front before lines more whole n (inr e) is = record {
  rest = line.Event (event.Deliver n) ∷ more;
  is =
      is ∙ ap (λ (ls : List Line). ls ++ more) e
      ∙ append_assoc lines (line.Event (event.Deliver n) ∷ []) more;
}

given_front : (front whole : List Line) → IsFront front whole → GrantsAreNew whole → GrantsAreNew front
given_front front whole f given w before after is k =
    given w before (after ++ f.rest)
    (f.is ∙ ap (λ (ls : List Line). ls ++ f.rest) is ∙ append_assoc before after f.rest) k

module _ (taken : AwaitedAreTaken) (h : List Line) (clean : unguessed h ≡ true) (given : GrantsAreNew h)
    (places : PlacesSuffice h) where
  not_of_lanes : (before : List Line) (l : Line) (after : List Line) → h ≡ before ++ l ∷ after → (c d : ℕ)
      → (v : Verdict) → WasAwaited before c d v → is_of_lanes v ≡ false
  not_of_lanes before l after is c d v a =
      let j = a.judged in
      let whole : h ≡ j.before ++ ((line.Delivered j.number (Judged j.found) ∷ j.after) ++ l ∷ after) =
      is ∙ ap (λ (ls : List Line). ls ++ l ∷ after) j.lines_are
      ∙ append_assoc j.before (line.Delivered j.number (Judged j.found) ∷ j.after) (l ∷ after) in
      let f = behind_front j.before a.lines _ h j.number a.behind whole in
      let found : is_of_lanes j.found ≡ false =
      ap is_of_lanes (a.verdict ∙ ap (λ bytes. verdict_on a.device.state a.device.clock (reading bytes)) a.bytes_are)
      ∙ taken a.world a.lines a.moment (clean_front a.lines f.rest (ap unguessed (sym f.is) ∙ clean))
      (given_front a.lines h f given) (places a.world a.lines f.rest f.is a.moment) c a.caller a.there a.command
      a.awaits a.device (ap (at_number a.world.drives) a.drive_is ∙ a.stands) in
      ap is_of_lanes j.same ∙ as_carried j.found ∙ found

  room_at : (before : List Line) (l : Line) (after : List Line) → h ≡ before ++ l ∷ after → AwaitedAt before l
      → HasRoom before l
  room_at before (line.Ended c (Failed kind (Refused d v))) after is awaited =
      λ few. not_of_lanes before _ after is c d v (awaited few)
  room_at before l after is awaited = tt

pub no_lane_is_wanting : AwaitedAreTaken → RefusalsWereAwaited → NoLaneIsWanting
no_lane_is_wanting taken refusals h l clean given places before x after is =
    room_at taken h clean given places before x after is (refusals h l before x after is)
