-- The scenario is one of a scenario's text: a line can spell each of its events.
use Rattle.std.proofs.Common.{◌≡◌, ◌<◌, ◌≤◌, ◌%◌, ◌/◌, ◌+◌, ◌^◌, ◌==◌, if◌then◌else◌, ℕ, zero, suc, Bool, true, false, List, [], ◌∷◌, ◌++◌, get_or, replicate, refl, sym, subst, arith}
use Rattle.std.specs.List.{AllByRecursion}
use Rattle.std.proofs.Math.Nat.{mod-lt}
use Rattle.scenario_text.specs.Parts.{AllFit}
use Rattle.scenario_text.specs.Spelling.{Fits, call_parts}
use Rattle.scenario_text.specs.declared.event.Call.TheVariants as call
use Rattle.scenario_text.specs.declared.event.Event.{Event}
use Rattle.scenario_text.specs.declared.event.Event.TheVariants as event
use Rattle.scenario_text.specs.declared.line.Line.{Line}
use Rattle.scenario_text.specs.declared.line.Line.TheVariants as line
use Rattle.world_history.specs.State.{World}
use Rattle.history_law.specs.Read.{AreWritten, is_written}
use Rattle.exchange_law.specs.Text.{AreOfText}
use Rattle.generate_law.specs.Plays.{Plays}
use Rattle.generate_law.specs.Scenario.{call_event, call_of, calls_from, first_call, length_of, makes_drive, makes_file, next_random, offset_of, opening, scenario_of}
use Rattle.generate_law.proofs.Events.{events_in, events_are}
use Rattle.generate_law.proofs.Readiness.{length_low, offset_low}

-- the text of a scenario has the event
pub record IsGood (e : Event) : Type 0 where
  pub written : is_written e ≡ true
  pub fits : Fits e

pub lines_good : (ls : List Line) → AllByRecursion IsGood (events_in ls) → AreWritten ls × AreOfText ls
lines_good [] g = (tt, tt)
lines_good (line.Event e ∷ ls) g = let r = lines_good ls g.1 in ((g.0.written, r.0), (g.0.fits, r.1))
lines_good (l ∷ ls) g = let r = lines_good ls g in ((refl, r.0), (tt, r.1))

-- ---- each event

same_bytes : (n b i : ℕ) → b < 256 → get_or (replicate n b) i 0 < 256
same_bytes zero b i low = omega arith
same_bytes (suc n) b zero low = low
same_bytes (suc n) b (suc i) low = same_bytes n b i low

pub drive_good : (d : ℕ) → is_written (makes_drive d) ≡ true → d < 64 → IsGood (makes_drive d)
drive_good d named low = record {
  written = named;
  fits = (tt, (low, ((refl, λ i. same_bytes 20 11 i (omega arith)), ((omega arith, omega arith), tt))));
}

pub client_good : (c : ℕ) → c < 16 → IsGood (event.Client c)
client_good c low = record { written = refl; fits = (tt, (low, tt)) }

pub file_good : IsGood makes_file
file_good = record {
  written = refl;
  fits = (
    tt,
    (
      omega arith,
      (
        (omega arith, omega arith),
        (
          (omega arith, omega arith),
          (
            (omega arith, omega arith),
            (
              (omega arith, omega arith),
              (
                (omega arith, omega arith),
                ((omega arith, omega arith), ((omega arith, omega arith), tt)),
              ),
            ),
          ),
        ),
      ),
    ),
  );
}

pub first_good : IsGood first_call
first_good = record {
  written = refl;
  fits = (tt, (omega arith, (tt, (omega arith, ((omega arith, omega arith), (λ i. same_bytes 1 0 i (omega arith), tt))))));
}

call_fits : (k x : ℕ) → AllFit (call_parts (call_of k x))
call_fits k x = either (k % 2 == 0)
  where
    either : (b : Bool) → AllFit (call_parts (if b then call.Write 0 (offset_of x) (replicate (length_of x) (k % 256))
        else call.Read 0 (offset_of x) (length_of x)))
    either true = (
      tt,
      (
        omega arith,
        (
          (omega arith, omega (arith, offset_low x)),
          (λ i. same_bytes (length_of x) (k % 256) i (mod-lt k (omega arith)), tt),
        ),
      ),
    )
    either false = (
      tt,
      (
        omega arith,
        ((omega arith, omega (arith, offset_low x)), ((omega arith, omega (arith, length_low x)), tt)),
      ),
    )

pub call_good : (k x : ℕ) → IsGood (call_event k x)
call_good k x = record {
  written = refl;
  fits = (tt, (omega (arith, mod-lt k {m = 3} (omega arith)), call_fits k x));
}

calls_good : (n k x : ℕ) → AllByRecursion IsGood (calls_from n k x)
calls_good zero k x = tt
calls_good (suc n) k x = (call_good k x, calls_good n (k + 1) (next_random x))

all_more : (xs ys : List Event) → AllByRecursion IsGood xs → AllByRecursion IsGood ys → AllByRecursion IsGood (xs ++ ys)
all_more [] ys g h = h
all_more (x ∷ xs) ys g h = (g.0, all_more xs ys g.1 h)

opening_good : AllByRecursion IsGood opening
opening_good = (
  drive_good 0 refl (omega arith),
  (
    drive_good 1 refl (omega arith),
    (
      drive_good 2 refl (omega arith),
      (
        drive_good 3 refl (omega arith),
        (
          drive_good 4 refl (omega arith),
          (
            drive_good 5 refl (omega arith),
            (
              client_good 0 (omega arith),
              (
                client_good 1 (omega arith),
                (
                  client_good 2 (omega arith),
                  (file_good, (first_good, tt)),
                ),
              ),
            ),
          ),
        ),
      ),
    ),
  ),
)

-- so is the whole history
pub scenario_is_text : (seed calls : ℕ) (w : World) (h : List Line) → Plays (scenario_of seed calls) w h
    → AreWritten h × AreOfText h
scenario_is_text seed calls w h p =
    lines_good h
    (subst (AllByRecursion IsGood) (sym (events_are (scenario_of seed calls) w h p))
    (all_more opening (calls_from calls 0 seed) opening_good (calls_good calls 0 seed)))
