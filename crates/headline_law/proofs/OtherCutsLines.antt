-- What the first lines of a move tell of drives: before the line with which its step begins, what was told before the move, and
-- from that line on what all its lines tell.
use Rattle.std.proofs.Common.{◌≡◌, ◌<◌, ◌≤◌, ◌++◌, ℕ, zero, suc, Bool, true, false, List, [], ◌∷◌, take, drop, Some, refl, sym, ap, subst, ◌∙◌, arith, append_assoc, if◌then◌else◌}
use Rattle.std.specs.List.{fold}
use Rattle.std.proofs.lemmas.Bool.{true≢false}
use Rattle.std.proofs.lemmas.List.{take-append-drop}
use Rattle.std.proofs.lemmas.List.Sums.{fold-append}
use Rattle.scenario_text.specs.declared.event.Event.{Event}
use Rattle.scenario_text.specs.declared.event.Event.TheVariants as event
use Rattle.scenario_text.specs.declared.line.Line.{Line}
use Rattle.scenario_text.specs.declared.line.Line.TheVariants as line
use Rattle.world_history.specs.Calm.{failed_after, moment_of}
use Rattle.world_history.specs.Moves.{Action, Opens, Delivers, TimesOut, Pends, acts, begins, delivers, pends, times_out}
use Rattle.world_history.specs.Plans.{due}
use Rattle.world_history.specs.ReadDrives.{DriveSeen, drive_after, drive_after_line, drive_seen, sees_drive}
use Rattle.world_history.specs.Reading.{is_head}
use Rattle.world_history.specs.Sending.{Move, sends_all}
use Rattle.world_history.specs.State.{World}
use Rattle.history_law.specs.BookMoments.{IsMoment, lines_in, plan_at, with_event}
use Rattle.history_law.specs.Read.{leads}
use Rattle.history_law.proofs.DriveLines.{reads_on}
use Rattle.exchange_law.proofs.PendingMoves.{opening_allowed}
use Rattle.component_law.specs.Opening.{is_opening}
use Rattle.component_law.proofs.Failed.{failed_in}
use Rattle.component_law.proofs.MoveOpening.{begins_bare, opens_headed}
use Rattle.component_law.proofs.Shapes.{Bare, Shape, Nothing, Left, Heads, IsHeaded, delivers_shape, pends_shape, sent_bare, times_shape}
use Rattle.file_simulation.specs.Cuts.{lines_before}
use Rattle.headline_law.specs.Parts.{lines_to}
use Rattle.headline_law.proofs.CalmCuts.{not_opening}

-- ---- lines that tell nothing of drives

abbrev pub TellsNone : Line → Type 0
TellsNone l =
    ((d : ℕ) (s : DriveSeen) → drive_after_line d s l ≡ s.drive) × ((ds : List ℕ) → failed_after ds l ≡ ds)

abbrev pub TellNone : List Line → Type 0
TellNone [] = Unit {0}
TellNone (l ∷ ls) = TellsNone l × TellNone ls

-- one with which no step begins
bare_line : (l : Line) → is_head l ≡ false → TellsNone l
bare_line (line.Event e) bare = absurd (true≢false bare)
bare_line (line.Delivered n delivery) bare = absurd (true≢false bare)
bare_line (line.Judged d verdict) bare = absurd (true≢false bare)
bare_line l bare = (λ d s. refl, λ ds. refl)

pub bare_none : (ls : List Line) → Bare ls → TellNone ls
bare_none [] bare = tt
bare_none (l ∷ ls) bare = (bare_line l bare.0, bare_none ls bare.1)

-- the line of an event behind which a step of its own begins
leading_none : (e : Event) → leads e ≡ true → TellsNone (line.Event e)
leading_none (event.Deliver n) leading = (λ d s. refl, λ ds. refl)
leading_none (event.Timeout c n) leading = (λ d s. refl, λ ds. refl)
leading_none (event.Inject d bytes) leading = (λ k s. refl, λ ds. refl)
leading_none e leading = absurd (true≢false (sym leading))

drives_stay : (d : ℕ) (s : DriveSeen) (ls : List Line) → TellNone ls → (fold (sees_drive d) s ls).drive ≡ s.drive
drives_stay d s [] none = refl
drives_stay d s (l ∷ ls) none = drives_stay d (sees_drive d s l) ls none.1 ∙ none.0.0 d s

failed_stay : (ds : List ℕ) (ls : List Line) → TellNone ls → fold failed_after ds ls ≡ ds
failed_stay ds [] none = refl
failed_stay ds (l ∷ ls) none = failed_stay (failed_after ds l) ls none.1 ∙ none.0.1 ds

-- ---- lines that tell the same of drives

pub record TellAlike (h u : List Line) : Type 0 where
  pub drives : (d : ℕ) → drive_after u d ≡ drive_after h d
  pub failed : (moment_of u).failed ≡ (moment_of h).failed

pub none_more : (h ls : List Line) → TellNone ls → TellAlike h (h ++ ls)
none_more h ls none = record {
  drives = λ d.
      ap (λ (x : DriveSeen). x.drive) (reads_on h ls d (drive_seen d h) refl)
      ∙ drives_stay d (drive_seen d h) ls none;
  failed =
      failed_in (h ++ ls) ∙ fold-append failed_after [] h ls ∙ failed_stay (fold failed_after [] h) ls none ∙ sym (failed_in h);
}

-- ---- which lines of a move begin steps

bare_behind : (n : ℕ) (ls : List Line) → Bare ls → Bare (drop n ls)
bare_behind zero ls bare = bare
bare_behind (suc n) [] bare = tt
bare_behind (suc n) (l ∷ ls) bare = bare_behind n ls bare.1

shaped_behind : (n : ℕ) (ls : List Line) → Shape ls → 1 ≤ n → Bare (drop n ls)
shaped_behind zero ls shape low = absurd (omega (arith, low))
shaped_behind (suc n) ls (Nothing e) low = subst (λ (xs : List Line). Bare (drop (suc n) xs)) (sym e) tt
shaped_behind (suc n) ls (Left c k e) low = subst (λ (xs : List Line). Bare (drop (suc n) xs)) (sym e) (bare_behind n [] tt)
shaped_behind (suc n) ls (Heads x) low =
    subst (λ (xs : List Line). Bare (drop (suc n) xs)) (sym x.are) (bare_behind n x.rest x.bare)

-- behind the line of an event
led_behind : (n : ℕ) (l : Line) (ls : List Line) → IsHeaded ls → 2 ≤ n → Bare (drop n (l ∷ ls))
led_behind zero l ls x low = absurd (omega (arith, low))
led_behind (suc n) l ls x low = shaped_behind n ls (Heads x) (omega (arith, low))

own_behind : (n : ℕ) (l : Line) (ls : List Line) → Bare ls → 1 ≤ n → Bare (drop n (l ∷ ls))
own_behind zero l ls bare low = absurd (omega (arith, low))
own_behind (suc n) l ls bare low = bare_behind n ls bare

is_leading : (e : Event) → leads e ≡ true → is_opening e ≡ true
is_leading (event.Deliver n) leading = refl
is_leading (event.Timeout c n) leading = refl
is_leading (event.Inject d bytes) leading = refl
is_leading e leading = absurd (true≢false (sym leading))

module _ (w : World) (h : List Line) (m : Move) (k : IsMoment w h) (is_due : due (plan_at k) w ≡ Some m.action) where
  act_behind : (n : ℕ) (a : Action) → m.action ≡ a → lines_before a ≤ n →
      Bare (drop n (with_event a (sends_all (acts w m.chosen a)).lines))
  act_behind n (Opens e) is low = by (leads e) refl low
    where
      by : (b : Bool) → leads e ≡ b → (if b then 2 else 1) ≤ n →
          Bare (drop n (line.Event e ∷ (sends_all (begins w m.chosen e)).lines))
      by true leading few =
          led_behind n (line.Event e) (sends_all (begins w m.chosen e)).lines
          (opens_headed w m.chosen e (is_leading e leading)
          (opening_allowed w h k e (is_due ∙ ap (λ (x : Action). Some x) is))) few
      by false own few =
          own_behind n (line.Event e) (sends_all (begins w m.chosen e)).lines
          (sent_bare (begins w m.chosen e) (begins_bare w m.chosen e (not_opening e own))) few
  act_behind n (Delivers j) is low = shaped_behind n (sends_all (delivers w m.chosen j)).lines (delivers_shape w m.chosen j) low
  act_behind n (TimesOut c j) is low = shaped_behind n (sends_all (times_out w c j)).lines (times_shape w c j) low
  act_behind n (Pends c) is low = shaped_behind n (sends_all (pends w c)).lines (pends_shape w c) low

  -- from the line on with which the step begins
  pub begun_alike : (count : ℕ) → lines_before m.action ≤ count → TellAlike (lines_to w h m count) (h ++ lines_in w m)
  begun_alike count low =
      subst (TellAlike (lines_to w h m count))
      (append_assoc h (take count (lines_in w m)) (drop count (lines_in w m))
      ∙ ap (λ (ls : List Line). h ++ ls) (take-append-drop count (lines_in w m)))
      (none_more (lines_to w h m count) (drop count (lines_in w m))
      (bare_none (drop count (lines_in w m)) (act_behind count m.action refl low)))

-- ---- before the step begins

early_none : (a : Action) (ls : List Line) (n : ℕ) → n < lines_before a → TellNone (take n (with_event a ls))
early_none (Opens e) ls n low = by (leads e) refl n low
  where
    by : (b : Bool) → leads e ≡ b → (n : ℕ) → n < (if b then 2 else 1) → TellNone (take n (line.Event e ∷ ls))
    by b is zero few = tt
    by true leading (suc zero) few = (leading_none e leading, tt)
    by true leading (suc (suc n)) few = absurd (omega (arith, few))
    by false own (suc n) few = absurd (omega (arith, few))
early_none a ls zero low = tt
early_none (Delivers j) ls (suc n) low = absurd (omega (arith, low))
early_none (TimesOut c j) ls (suc n) low = absurd (omega (arith, low))
early_none (Pends c) ls (suc n) low = absurd (omega (arith, low))

pub early_alike : (w : World) (h : List Line) (m : Move) (count : ℕ) → count < lines_before m.action →
    TellAlike h (lines_to w h m count)
early_alike w h m count low =
    none_more h (take count (lines_in w m)) (early_none m.action (sends_all (acts w m.chosen m.action)).lines count low)
