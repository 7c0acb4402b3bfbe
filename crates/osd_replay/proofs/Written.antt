-- Events that the text of a scenario may have.
use Rattle.std.proofs.Common.{◌<◌, ◌≤◌, ◌==◌, ◌%◌, ℕ, zero, suc, ◌+◌, ◌++◌, ◌∷◌, [], List, Bool, true, false, replicate, if◌then◌else◌, refl, sym, subst, arith, inl, inr}
use Rattle.osd_lists.specs.Blocks.{IsBytes}
use Rattle.scenario_text.specs.declared.event.Call.{Call}
use Rattle.scenario_text.specs.declared.event.Call.TheVariants as call
use Rattle.scenario_text.specs.declared.event.Event.{Event}
use Rattle.scenario_text.specs.declared.event.Event.TheVariants as event
use Rattle.scenario_text.specs.Spelling.{Fits}
use Rattle.history_claims.specs.Texts.{EventsFit}
use Rattle.osd_replay.specs.Replay.{HasEvents}
use Rattle.generate_law.specs.Scenario.{makes_drive, makes_file, call_event, calls_from, next_random, offset_of, length_of, opening, scenario_of}

-- the lines of a scenario spell such events
pub events_fit : (lines : List (List ℕ)) (events : List Event) → HasEvents lines events → EventsFit events
events_fit [] events h = subst EventsFit (sym h) tt
events_fit (line ∷ lines) events (inl h) = events_fit lines events h.1
events_fit (line ∷ lines) events (inr h) = subst EventsFit (sym h.2) (h.3, events_fit lines h.1 h.5)

-- ---- lists

pub fit_front : (xs ys : List Event) → EventsFit (xs ++ ys) → EventsFit xs
fit_front [] ys f = tt
fit_front (x ∷ xs) ys f = (f.0, fit_front xs ys f.1)

pub fit_last : (xs : List Event) (e : Event) → EventsFit (xs ++ e ∷ []) → Fits e
fit_last [] e f = f.0
fit_last (x ∷ xs) e f = fit_last xs e f.1

pub fit_more : (xs ys : List Event) → EventsFit xs → EventsFit ys → EventsFit (xs ++ ys)
fit_more [] ys a b = b
fit_more (x ∷ xs) ys a b = (a.0, fit_more xs ys a.1 b)

-- ---- a scenario that is made from a seed

bytes_alike : (n b : ℕ) → b < 256 → IsBytes (replicate n b)
bytes_alike zero b l i = omega arith
bytes_alike (suc n) b l zero = l
bytes_alike (suc n) b l (suc i) = bytes_alike n b l i

drive_fits : (d : ℕ) → d < 64 → Fits (makes_drive d)
drive_fits d l =
    (tt, (l, ((refl, bytes_alike 20 11 (omega arith)), ((omega arith, omega arith), tt))))

client_fits : (c : ℕ) → c < 16 → Fits (event.Client c)
client_fits c l = (tt, (l, tt))

file_fits : Fits makes_file
file_fits = (
  tt,
  (
    omega arith,
    (
      (omega arith, omega arith),
      (
        (omega arith, omega arith),
        (
          (omega arith, omega arith),
          (
            (omega arith, omega arith),
            ((omega arith, omega arith), ((omega arith, omega arith), ((omega arith, omega arith), tt))),
          ),
        ),
      ),
    ),
  ),
)

writes_fit : (c offset n b : ℕ) → c < 16 → offset ≤ 300000 → b < 256
    → Fits (event.Do c (call.Write 0 offset (replicate n b)))
writes_fit c offset n b l m k =
    (tt, (l, (tt, (omega arith, ((omega arith, omega (arith, m)), (bytes_alike n b k, tt))))))

reads_fit : (c offset len : ℕ) → c < 16 → offset ≤ 300000 → len ≤ 1000
    → Fits (event.Do c (call.Read 0 offset len))
reads_fit c offset len l m k =
    (tt, (l, (tt, (omega arith, ((omega arith, omega (arith, m)), ((omega arith, omega (arith, k)), tt))))))

either_fits : (b : Bool) (c : ℕ) (x y : Call) → Fits (event.Do c x) → Fits (event.Do c y)
    → Fits (event.Do c (if b then x else y))
either_fits true c x y p q = p
either_fits false c x y p q = q

call_fits : (k x : ℕ) → Fits (call_event k x)
call_fits k x =
    let client : k % 3 < 16 = omega arith in
    let offset : offset_of x ≤ 300000 = omega arith in
    either_fits (k % 2 == 0) (k % 3) _ _
    (writes_fit (k % 3) (offset_of x) (length_of x) (k % 256) client offset (omega arith))
    (reads_fit (k % 3) (offset_of x) (length_of x) client offset (omega arith))

calls_fit : (n k x : ℕ) → EventsFit (calls_from n k x)
calls_fit zero k x = tt
calls_fit (suc n) k x = (call_fits k x, calls_fit n (k + 1) (next_random x))

opening_fits : EventsFit opening
opening_fits = (
  drive_fits 0 (omega arith),
  (
    drive_fits 1 (omega arith),
    (
      drive_fits 2 (omega arith),
      (
        drive_fits 3 (omega arith),
        (
          drive_fits 4 (omega arith),
          (
            drive_fits 5 (omega arith),
            (
              client_fits 0 (omega arith),
              (
                client_fits 1 (omega arith),
                (
                  client_fits 2 (omega arith),
                  (file_fits, (writes_fit 0 262143 1 0 (omega arith) (omega arith) (omega arith), tt)),
                ),
              ),
            ),
          ),
        ),
      ),
    ),
  ),
)

pub scenario_fits : (seed calls : ℕ) → EventsFit (scenario_of seed calls)
scenario_fits seed calls = fit_more opening (calls_from calls 0 seed) opening_fits (calls_fit calls 0 seed)
