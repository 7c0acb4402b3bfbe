-- A step in which the server does nothing leaves the marks and the server; so does a cut of the server's move before its step
-- begins.
use Rattle.std.proofs.Common.{◌≡◌, ◌⊎◌, ◌<◌, ◌==◌, ◌++◌, ℕ, zero, suc, List, [], ◌∷◌, take, find, Option, Some, None, refl, sym, ap, subst, ◌∙◌, inl, inr, arith, append-nil}
use Rattle.std.specs.List.{fold}
use Rattle.scenario_text.specs.declared.event.Event.{Event}
use Rattle.scenario_text.specs.declared.event.Event.TheVariants as event
use Rattle.scenario_text.specs.declared.line.Note.{Note as ToldNote}
use Rattle.scenario_text.specs.declared.line.Note.TheVariants as note
use Rattle.scenario_text.specs.declared.line.Line.{Line}
use Rattle.scenario_text.specs.declared.line.Line.TheVariants as line
use Rattle.server_rules.specs.History.{Input}
use Rattle.world_history.specs.ServerNames.{File, Mended}
use Rattle.world_history.specs.State.{World}
use Rattle.world_history.specs.Moves.{Action, Opens, Delivers, TimesOut, Pends, acts}
use Rattle.world_history.specs.Sending.{Move, sends_all}
use Rattle.world_history.specs.Reading.{Step}
use Rattle.world_history.specs.Book.{ServerSeen, server_step, server_behind}
use Rattle.world_history.specs.Stripes.{Mark}
use Rattle.world_history.specs.Calm.{Seen, Watched, seen, sees, moment_of, marks_at, marks_behind, moment_behind, watches}
use Rattle.world_history.specs.Laws.{MomentGoesOn}
use Rattle.history_law.specs.BookMoments.{with_event, lines_in}
use Rattle.history_law.specs.Doing.{input_in}
use Rattle.history_law.specs.Read.{BookIsRead, server_of}
use Rattle.file_simulation.specs.Cuts.{lines_before}
use Rattle.headline_law.specs.MarksShown.{IsKept, EarlyCutsKeepMarks}
use Rattle.headline_law.proofs.CalmCodes.{one_alone, server_seen_is, server_there}

-- ---- a step in which the server does nothing

-- no repair ends in it
none_mended : (ks : List Mark) (what : ToldNote) (o : Option File) (n : ℕ) →
    marks_behind ks what o (find (λ (r : Mended). r.file == n) []) ≡ ks
none_mended ks (note.Repaired stripes short) None n = refl
none_mended ks (note.Repaired stripes short) (Some f) n = refl
none_mended ks what o n = refl

lines_keep : (wd : Watched) (ls : List Line) → (fold (watches []) wd ls).moment.marks ≡ wd.moment.marks
lines_keep wd [] = refl
lines_keep wd (l ∷ ls) = lines_keep (watches [] wd l) ls ∙ one l
  where
    at_note : (n : ℕ) (what : ToldNote) → (moment_behind [] wd.moment n what).marks ≡ wd.moment.marks
    at_note n what = none_mended wd.moment.marks what _ n

    one : (x : Line) → (watches [] wd x).moment.marks ≡ wd.moment.marks
    one (line.Note n what) = at_note n what
    one x = refl

pub step_leaves : (s : Seen) (t : Step) → server_step s.server t ≡ None → (sees s t).moment.server ≡ s.server.server
step_leaves s t none = ap (server_behind s.server.server) none

pub step_keeps : (s : Seen) (t : Step) → server_step s.server t ≡ None →
    (sees s t).moment.marks ≡ s.moment.marks ++ marks_at s t.head
step_keeps s t none = rw none (lines_keep _ t.rest)

-- ---- before the server's step begins

abbrev IsEarly : ℕ → Type 0
IsEarly n = (n ≡ 0) ⊎ (n ≡ 1)

below_one : (n : ℕ) → n < 1 → n ≡ 0
below_one n less = omega (arith, less)

below_two : (n : ℕ) → n < 2 → IsEarly n
below_two zero less = inl refl
below_two (suc zero) less = inr refl
below_two (suc (suc n)) less = absurd (omega (arith, less))

module _ (goes : MomentGoesOn) (w : World) (h : List Line) (here : (seen h).server ≡ server_of w)
    (there : (moment_of h).server ≡ w.server) where
  pub no_lines : IsKept w h (moment_of (h ++ []))
  no_lines = subst (λ (x : List Line). IsKept w h (moment_of x)) (sym (append-nil h)) (refl, there)

  nothing_yet : (n : ℕ) (ls : List Line) → n ≡ 0 → IsKept w h (moment_of (h ++ take n ls))
  nothing_yet n ls none = subst (λ (x : ℕ). IsKept w h (moment_of (h ++ take x ls))) (sym none) no_lines

  -- behind the line of the event that delivers a message
  led : (n j : ℕ) (ls : List Line) → n ≡ 1 → IsKept w h (moment_of (h ++ take n (line.Event (event.Deliver j) ∷ ls)))
  led n j ls one =
      subst (λ (x : ℕ). IsKept w h (moment_of (h ++ take x (line.Event (event.Deliver j) ∷ ls)))) (sym one)
      (subst (λ (x : Seen). IsKept w h x.moment)
      (sym (goes h (line.Event (event.Deliver j) ∷ []) refl
      ∙ ap (λ (ts : List Step). fold sees (seen h) ts) (one_alone (line.Event (event.Deliver j)) [] refl tt)))
      (append-nil (moment_of h).marks, ap (λ (x : ServerSeen). x.server) here))

  by_action : (m : Move) (count : ℕ) (i : Input) (x : Action) → m.action ≡ x → input_in w x ≡ Some i →
      count < lines_before x → IsKept w h (moment_of (h ++ take count (lines_in w m)))
  by_action m count i (Delivers n) act is less = nothing_yet count (lines_in w m) (below_one count less)
  by_action m count i (TimesOut c j) act is less = nothing_yet count (lines_in w m) (below_one count less)
  by_action m count i (Pends c) act is less = nothing_yet count (lines_in w m) (below_one count less)
  by_action m count i (Opens e) act is less = by_event e act is less
    where
      early : (n : ℕ) → m.action ≡ Opens (event.Deliver n) → IsEarly count →
          IsKept w h (moment_of (h ++ take count (lines_in w m)))
      early n at (inl none) = nothing_yet count (lines_in w m) none
      early n at (inr one) =
          subst
          (λ (x : Action). IsKept w h (moment_of (h ++ take count (with_event x (sends_all (acts w m.chosen x)).lines))))
          (sym at)
          (led count n (sends_all (acts w m.chosen (Opens (event.Deliver n)))).lines one)

      by_event : (y : Event) → m.action ≡ Opens y → input_in w (Opens y) ≡ Some i → count < lines_before (Opens y) →
          IsKept w h (moment_of (h ++ take count (lines_in w m)))
      by_event (event.Deliver n) r given below = early n r (below_two count below)
      by_event (event.Timeout c j) r given below = absurd (cc given)
      by_event (event.Inject d bytes) r given below = absurd (cc given)
      by_event y r given below = nothing_yet count (lines_in w m) (below_one count below)

pub early_cuts_keep_marks : BookIsRead → MomentGoesOn → EarlyCutsKeepMarks
early_cuts_keep_marks book goes w h m count f g s k i is less =
    by_action goes w h (server_seen_is book w h m count f g s k) (server_there book w h m count f g s k) m count i m.action
    refl is less
