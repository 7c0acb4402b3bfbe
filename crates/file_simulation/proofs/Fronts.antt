-- A history before a move is calm and unguessed if it is so with the first lines of the move. That isn't so of every front
-- of a history: one that is cut inside a step of the server may be disturbed where the whole step is calm.
use Rattle.std.proofs.Common.{◌≡◌, ℕ, ◌++◌, ◌∷◌, zero, suc, [], List, true, length, take, refl, sym, ap, subst, ◌∙◌}
use Rattle.std.specs.List.{fold}
use Rattle.std.proofs.lemmas.List.{append-nil}
use Rattle.osd_lists.proofs.Tests.{first_true}
use Rattle.scenario_text.specs.declared.line.CallKind.{CallKind}
use Rattle.scenario_text.specs.declared.line.Line.{Line}
use Rattle.scenario_text.specs.declared.line.Line.TheVariants as line
use Rattle.world_history.specs.ServerNames.{Mended}
use Rattle.world_history.specs.State.{World}
use Rattle.world_history.specs.Moves.{Action, Opens, Delivers, TimesOut, Pends, delivers, times_out, pends, acts}
use Rattle.world_history.specs.Sending.{Move, sends_all}
use Rattle.world_history.specs.Reading.{Step, steps_of}
use Rattle.world_history.specs.Book.{server_step}
use Rattle.world_history.specs.Stripes.{is_calm}
use Rattle.world_history.specs.Calm.{Seen, Watched, watches, watched, begins, mended_in, moment_behind, sees, seen, calm}
use Rattle.world_history.specs.Guesses.{Guarded, guarded, unguessed}
use Rattle.world_history.specs.Laws.{BeginWithHead, MomentGoesOn, AllLinesGoOn}
use Rattle.history_law.specs.BookMoments.{with_event, lines_in}
use Rattle.history_law.proofs.Coming.{clean_before}
use Rattle.history_law.proofs.Staying.{written_front}
use Rattle.exchange_law.proofs.CountGrowing.{fewer, text_front}
use Rattle.component_law.specs.LeftPending.{left_pending, PendingIsRead}
use Rattle.component_law.proofs.Shapes.{Shape, Nothing, Left, Heads, delivers_shape, times_shape, pends_shape}
use Rattle.file_simulation.specs.Claim.{IsOfScenario, IsCalmHistory}

-- ---- calm, and nothing guessed

line_calm : (rs : List Mended) (w : Watched) (l : Line) → (watches rs w l).calm ≡ true → w.calm ≡ true
line_calm rs w (line.Note f what) e = first_true w.calm (is_calm (moment_behind rs w.moment f what)) e
line_calm rs w l e = e

lines_calm : (rs : List Mended) (w : Watched) (ls : List Line) → (fold (watches rs) w ls).calm ≡ true → w.calm ≡ true
lines_calm rs w [] e = e
lines_calm rs w (l ∷ ls) e = line_calm rs w l (lines_calm rs (watches rs w l) ls e)

step_calm : (s : Seen) (t : Step) → (sees s t).calm ≡ true → s.calm ≡ true
step_calm s t e =
    first_true s.calm (is_calm (begins s t (server_step s.server t)))
    (lines_calm (mended_in (server_step s.server t))
    (watched (record { moment = s.moment; calm = s.calm }) (begins s t (server_step s.server t))) t.rest e)

steps_calm : (s : Seen) (ts : List Step) → (fold sees s ts).calm ≡ true → s.calm ≡ true
steps_calm s [] e = e
steps_calm s (t ∷ ts) e = step_calm s t (steps_calm (sees s t) ts e)

unguessed_before : AllLinesGoOn → (h more : List Line) → unguessed (h ++ more) ≡ true → unguessed h ≡ true
unguessed_before lines h more e =
    clean_before (guarded h) more (ap (λ (g : Guarded). g.unguessed) (sym (lines h more).guesses) ∙ e)

-- ---- a scenario's text

pub scenario_before : (h more : List Line) → IsOfScenario (h ++ more) → IsOfScenario h
scenario_before h more s = record {
  written = written_front h more s.written;
  text = text_front h more s.text;
  few = fewer h more s.few;
}

-- ---- the first lines of a move

-- there are none; or one, that a call is left pending; or the first of them begins a step
pub data Begun (ls : List Line) : Type 0 where
  NoLine : ls ≡ [] → Begun ls
  Pending : (c : ℕ) (k : CallKind) → ls ≡ left_pending c k ∷ [] → Begun ls
  Headed : BeginWithHead ls → Begun ls

headed_if : (ls xs : List Line) → ls ≡ xs → BeginWithHead xs → Begun ls
headed_if ls xs e b = Headed (rw e b)

shape_begun : (ls : List Line) → Shape ls → Begun ls
shape_begun ls (Nothing e) = NoLine e
shape_begun ls (Left c k e) = Pending c k e
shape_begun ls (Heads x) = headed_if ls (x.head ∷ x.rest) x.are x.begins

act_begun : (w : World) (chosen : List ℕ) (a : Action) → Begun (with_event a (sends_all (acts w chosen a)).lines)
act_begun w chosen (Opens e) = Headed refl
act_begun w chosen (Delivers n) = shape_begun (sends_all (delivers w chosen n)).lines (delivers_shape w chosen n)
act_begun w chosen (TimesOut c k) = shape_begun (sends_all (times_out w c k)).lines (times_shape w c k)
act_begun w chosen (Pends c) = shape_begun (sends_all (pends w c)).lines (pends_shape w c)

abbrev no_lines : List Line
no_lines = []

none_taken : (n : ℕ) → take n no_lines ≡ []
none_taken zero = refl
none_taken (suc n) = refl

front_begun : (n : ℕ) (ls : List Line) → Begun ls → Begun (take n ls)
front_begun zero ls b = NoLine refl
front_begun (suc n) ls (NoLine e) = NoLine (ap (λ (xs : List Line). take (suc n) xs) e)
front_begun (suc n) ls (Pending c k e) =
    Pending c k
    (ap (λ (xs : List Line). take (suc n) xs) e ∙ ap (λ (xs : List Line). left_pending c k ∷ xs) (none_taken n))
front_begun (suc n) [] (Headed b) = absurd b
front_begun (suc n) (l ∷ ls) (Headed b) = Headed b

pub move_begun : (w : World) (m : Move) (n : ℕ) → Begun (take n (lines_in w m))
move_begun w m n = front_begun n (lines_in w m) (act_begun w m.chosen m.action)

-- ---- the history before them

calm_before : MomentGoesOn → PendingIsRead → (h ls : List Line) → Begun ls → calm (h ++ ls) ≡ true → calm h ≡ true
calm_before goes pending h ls (NoLine e) q =
    ap (λ (x : List Line). calm x) (sym (append-nil h)) ∙ ap (λ (x : List Line). calm (h ++ x)) (sym e) ∙ q
calm_before goes pending h ls (Pending c k e) q =
    ap (λ (s : Seen). s.calm) (sym (pending h c k)) ∙ ap (λ (x : List Line). calm (h ++ x)) (sym e) ∙ q
calm_before goes pending h ls (Headed b) q =
    steps_calm (seen h) (steps_of ls) (ap (λ (s : Seen). s.calm) (sym (goes h ls b)) ∙ q)

pub before_move : MomentGoesOn → AllLinesGoOn → PendingIsRead → (w : World) (h : List Line) (m : Move) (n : ℕ) →
    IsCalmHistory (h ++ take n (lines_in w m)) → IsCalmHistory h
before_move goes lines pending w h m n c = record {
  scenario = scenario_before h (take n (lines_in w m)) c.scenario;
  is_calm = calm_before goes pending h (take n (lines_in w m)) (move_begun w m n) c.is_calm;
  is_unguessed = unguessed_before lines h (take n (lines_in w m)) c.is_unguessed;
}

all_taken : (ls : List Line) → take (length ls) ls ≡ ls
all_taken [] = refl
all_taken (l ∷ ls) = ap (λ (xs : List Line). l ∷ xs) (all_taken ls)

-- so it is of a whole move
pub before_all : MomentGoesOn → AllLinesGoOn → PendingIsRead → (w : World) (h : List Line) (m : Move) →
    IsCalmHistory (h ++ lines_in w m) → IsCalmHistory h
before_all goes lines pending w h m c =
    before_move goes lines pending w h m (length (lines_in w m))
    (subst (λ (xs : List Line). IsCalmHistory (h ++ xs)) (sym (all_taken (lines_in w m))) c)
