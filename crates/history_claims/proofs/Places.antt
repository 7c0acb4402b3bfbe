-- What the lines of each move have, those of each lawful history have.
use Rattle.std.proofs.Common.{◌≡◌, ◌++◌, ◌∷◌, [], List, Some, refl, sym, ap, subst, ◌∙◌, append_assoc}
use Rattle.std.proofs.lemmas.List.{append-nil}
use Rattle.scenario_text.specs.declared.event.Event.{Event}
use Rattle.scenario_text.specs.declared.line.Line.{Line}
use Rattle.scenario_text.specs.declared.line.Line.TheVariants as line
use Rattle.world_history.specs.State.{World}
use Rattle.world_history.specs.Sending.{Move, move}
use Rattle.world_history.specs.Plans.{due, plan_of}
use Rattle.world_history.specs.Runs.{world_after, lines_of, AreDue, CarriesPart}
use Rattle.world_history.specs.History.{StandsFor, OneEventMore, Begins, Lawful}
use Rattle.world_history.specs.History.Begins.{Nothing, Part}
use Rattle.world_history.proofs.Always.{opening}
use Rattle.history_law.specs.Moments.{IsMoment, plan_at, lines_so_far, lines_in}
use Rattle.history_law.specs.Safe.{AtEachLine}
use Rattle.history_law.proofs.Each.{EachBehind, each_more, each_front, at_each_line}
use Rattle.history_law.proofs.Histories.{cut_at}
use Rattle.history_law.proofs.Moments.{always}
use Rattle.cause_law.proofs.Unanswered.{between}

-- ---- a lawful history and the lines that are left out of its last move lead to a moment

-- a world behind these lines and further ones
abbrev IsBefore : List Line → Type 0
IsBefore h = (w : World) × (more : List Line) × IsMoment w (h ++ more)

part : (v : World) (whole last h : List Line) (e : Event) (c : CarriesPart v e last) (ms : List Move) → c.moves ≡ ms
    → StandsFor v whole → h ≡ whole ++ last → IsBefore h
part v whole last h e c [] none s is =
    let first = opening e [] in
    let lines = (move v first).lines in
    let own : line.Event e ∷ [] ≡ last ++ c.part.0 = ap (λ (l : List Move). line.Event e ∷ lines_of v l) (sym none)
    ∙ c.part.1 in
    let cut : whole ++ (line.Event e ∷ lines) ≡ h ++ (c.part.0 ++ lines) =
    cut_at h whole last (c.part.0 ++ lines) (line.Event e ∷ lines) is
    (ap (λ (l : List Line). l ++ lines) own ∙ append_assoc last c.part.0 lines) in
    let k : IsMoment (move v first).world (whole ++ lines_so_far v e (first ∷ [])) = record {
      before = v;
      history = whole;
      stands = s;
      event = e;
      allowed = c.allowed;
      moves = first ∷ [];
      are_due = (refl, tt);
      world_is = refl;
      lines_are = refl;
    } in (
      (move v first).world,
      c.part.0 ++ lines,
      subst (IsMoment (move v first).world)
          (ap (λ (l : List Line). whole ++ line.Event e ∷ l) (append-nil lines) ∙ cut) k,
    )
part v whole last h e c (m ∷ ms) some s is =
    let lines : line.Event e ∷ lines_of v (m ∷ ms) ≡ last ++ c.part.0 =
    ap (λ (l : List Move). line.Event e ∷ lines_of v l) (sym some) ∙ c.part.1 in
    let k : IsMoment (world_after v (m ∷ ms)) (whole ++ lines_so_far v e (m ∷ ms)) = record {
      before = v;
      history = whole;
      stands = s;
      event = e;
      allowed = c.allowed;
      moves = m ∷ ms;
      are_due = subst (AreDue (plan_of v e) v) some c.are_due;
      world_is = refl;
      lines_are = refl;
    } in (
      world_after v (m ∷ ms),
      c.part.0,
      subst (IsMoment (world_after v (m ∷ ms))) (cut_at h whole last c.part.0 (line.Event e ∷ lines_of v (m ∷ ms)) is lines) k,
    )

begun : (v : World) (whole last h : List Line) → StandsFor v whole → Begins v last → h ≡ whole ++ last → IsBefore h
begun v whole last h s (Nothing none) is = (
  v,
  [],
  subst (IsMoment v) (sym (append-nil h ∙ is ∙ ap (λ (l : List Line). whole ++ l) none ∙ append-nil whole))
      (between v whole s),
)
begun v whole last h s (Part e c) is = part v whole last h e c c.moves refl s is

pub moment_behind : (h : List Line) → Lawful h → IsBefore h
moment_behind h l = begun l.world l.whole l.last h l.stands l.begins l.lines_are

-- ---- the lines of each move

-- so it is of the lines of a move and those before it
abbrev pub OfMoves : (List Line → Line → Type 0) → Type 0
OfMoves P = (w : World) (h : List Line) (k : IsMoment w h) (m : Move) → due (plan_at k) w ≡ Some m.action
    → EachBehind P h (lines_in w m)

pub at_lines : (P : List Line → Line → Type 0) → OneEventMore → OfMoves P → (h : List Line) → Lawful h → AtEachLine P h
at_lines P more moves h l =
    let there = moment_behind h l in
    let all : EachBehind P [] (h ++ there.1) =
    always (λ (w : World) (g : List Line). EachBehind P [] g) (record {
      starts = tt;
      moves = λ w g k m d x. each_more P [] g (lines_in w m) x (moves w g k m d);
    }) more there.0 (h ++ there.1) there.2 in
    at_each_line P h (each_front P [] h there.1 all)
