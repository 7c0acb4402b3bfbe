-- No line of a history tells that a call ended unfairly.
use Rattle.std.proofs.Common.{◌≡◌, ℕ, ◌++◌, ◌∷◌, [], List, Some, refl, sym, ap, subst, ◌∙◌, append_assoc}
use Rattle.std.proofs.lemmas.List.{append-nil}
use Rattle.scenario_text.specs.declared.event.Event.{Event}
use Rattle.scenario_text.specs.declared.event.Event.TheVariants as event
use Rattle.scenario_text.specs.declared.line.Line.{Line}
use Rattle.scenario_text.specs.declared.line.Line.TheVariants as line
use Rattle.world_history.specs.State.{World}
use Rattle.world_history.specs.Moves.{Action, Opens, Delivers, TimesOut, Pends, acts}
use Rattle.world_history.specs.Plans.{plan_of}
use Rattle.world_history.specs.Refusals.{refusal}
use Rattle.world_history.specs.Runs.{world_after, lines_of, AreDue, CarriesPart}
use Rattle.world_history.specs.Sending.{Move, move}
use Rattle.world_history.specs.History.{StandsFor, Begins, Nothing, Part, Lawful, OneEventMore}
use Rattle.world_history.specs.ServerNames.{File}
use Rattle.server_rules.specs.Files.{file_at}
use Rattle.server_rules.specs.Laws.{SlotsAreKept, AreSafe}
use Rattle.history_law.specs.Grants.{GrantsAreSafe}
use Rattle.history_law.specs.Safe.{AtEachLine}
use Rattle.history_law.proofs.Each.{EachBehind, each_more, each_front, at_each_line}
use Rattle.history_law.specs.BookMoments.{IsMoment, lines_so_far, lines_in, with_event}
use Rattle.exchange_law.specs.InStep.{state_of}
use Rattle.exchange_law.specs.Taking.{AnswersAreOwn}
use Rattle.exchange_law.proofs.SlotMoments.{always}
use Rattle.exchange_law.specs.Ends.{EndsAt, CallsEndFair}
use Rattle.exchange_law.specs.Shapes.{HasShape, FilesHaveShape}
use Rattle.exchange_law.specs.Meeting.{IsMet, IsReadableThrough}
use Rattle.exchange_law.proofs.HeldLines.{Fine, AreFine, sent_fine, more_fine, acts_fine}
use Rattle.exchange_law.proofs.HeldWorlds.{HoldsOfFronts, AreReadable, readable_fronts, readable_there, reached, clients_agree, client_fine}

module _ (T : List Line → Type 0) (front : HoldsOfFronts T) where
  -- at a line before which T holds
  abbrev pub WhereHeld : List Line → Line → Type 0
  WhereHeld before l = T before → Fine l

  each_held : (before ls : List Line) → (T before → AreFine ls) → EachBehind WhereHeld before ls
  each_held before [] each = tt
  each_held before (l ∷ ls) each = (
    λ t. (each t).0,
    each_held (before ++ l ∷ []) ls (λ t. (each (front before (l ∷ []) t)).1),
  )

  with_fine : (action : Action) (ls : List Line) → AreFine ls → AreFine (with_event action ls)
  with_fine (Opens e) ls x = (tt, x)
  with_fine (Delivers n) ls x = x
  with_fine (TimesOut c j) ls x = x
  with_fine (Pends c) ls x = x

  module _ (kept : SlotsAreKept) (more : OneEventMore)
      (safe : (w : World) (h : List Line) → IsMoment w h → AreSafe w.server.files) (own : AnswersAreOwn)
      (shapes : (w : World) (h : List Line) → IsMoment w h → (n : ℕ) (f : File) → file_at w.server.files n ≡ Some f
      → HasShape f.kept)
      (readable : AreReadable T) where
    abbrev Told : World → List Line → Type 0
    Told w h = EachBehind WhereHeld [] h

    move_told : (w : World) (h : List Line) (k : IsMoment w h) (m : Move) → T h → AreFine (lines_in w m)
    move_told w h k m t =
        with_fine m.action (move w m).lines
        (more_fine (acts w m.chosen m.action).told _
        (acts_fine w (λ c a found i heard.
        (client_fine kept more safe own shapes T front readable w h k t c a found
        (subst (IsMet w.server c) (ap (state_of c) found)
        (clients_agree kept more safe own shapes T front readable w h k t c)) i heard).outcome) m.chosen m.action)
        (sent_fine _ (acts w m.chosen m.action).posts))

    told : (w : World) (h : List Line) → IsMoment w h → Told w h
    told w h k =
        always Told (record {
          starts = tt;
          moves =
              λ u g j m d x.
              each_more WhereHeld [] g (lines_in u m) x (each_held g (lines_in u m) (move_told u g j m));
        }) more w h k

    -- a world that stands for a history is at a moment, whatever comes then
    between : (w : World) (h : List Line) → StandsFor w h → IsMoment w h
    unfolding refusal
    between w h s = record {
      before = w;
      history = h;
      stands = s;
      event = event.Settle;
      allowed = refl;
      moves = [];
      are_due = tt;
      world_is = refl;
      lines_are = sym (append-nil h);
    }

    part_told : (w : World) (whole last : List Line) (e : Event) (c : CarriesPart w e last) (ms : List Move)
        → c.moves ≡ ms → StandsFor w whole → EachBehind WhereHeld [] (whole ++ last)
    part_told w whole last e c [] none s =
        let own_line : line.Event e ∷ [] ≡ last ++ c.part.0 =
        ap (λ (l : List Move). line.Event e ∷ lines_of w l) (sym none) ∙ c.part.1 in
        let all : EachBehind WhereHeld [] (whole ++ (line.Event e ∷ [])) =
        each_more WhereHeld [] whole (line.Event e ∷ []) (told w whole (between w whole s)) (λ t. tt, tt) in
        each_front WhereHeld [] (whole ++ last) c.part.0
        (subst (EachBehind WhereHeld [])
        (ap (λ (l : List Line). whole ++ l) own_line ∙ sym (append_assoc whole last c.part.0)) all)
    part_told w whole last e c (m ∷ ms) some s =
        let due : AreDue (plan_of w e) w (m ∷ ms) = subst (AreDue (plan_of w e) w) some c.are_due in
        let moment : IsMoment (world_after w (m ∷ ms)) (whole ++ lines_so_far w e (m ∷ ms)) = record {
          before = w;
          history = whole;
          stands = s;
          event = e;
          allowed = c.allowed;
          moves = m ∷ ms;
          are_due = due;
          world_is = refl;
          lines_are = refl;
        } in
        let lines : lines_so_far w e (m ∷ ms) ≡ last ++ c.part.0 =
        ap (λ (l : List Move). line.Event e ∷ lines_of w l) (sym some) ∙ c.part.1 in
        each_front WhereHeld [] (whole ++ last) c.part.0
        (subst (EachBehind WhereHeld [])
        (ap (λ (l : List Line). whole ++ l) lines ∙ sym (append_assoc whole last c.part.0))
        (told (world_after w (m ∷ ms)) (whole ++ lines_so_far w e (m ∷ ms)) moment))

    begun_told : (w : World) (whole last : List Line) → StandsFor w whole → Begins w last
        → EachBehind WhereHeld [] (whole ++ last)
    begun_told w whole last s (Nothing none) =
        subst (λ (l : List Line). EachBehind WhereHeld [] (whole ++ l)) (sym none)
        (subst (EachBehind WhereHeld []) (sym (append-nil whole)) (told w whole (between w whole s)))
    begun_told w whole last s (Part e c) = part_told w whole last e c c.moves refl s

    pub lines_told : (h : List Line) → Lawful h → EachBehind WhereHeld [] h
    lines_told h l =
        subst (EachBehind WhereHeld []) (sym l.lines_are) (begun_told l.world l.whole l.last l.stands l.begins)

    -- what is said of a line says nothing of those before it
    any_before : (before : List Line) (l : Line) → Fine l → EndsAt before l
    any_before before l x = x

    pub ends_fair : (h : List Line) → Lawful h → T h → AtEachLine EndsAt h
    ends_fair h l t before x after is =
        any_before before x
        (at_each_line WhereHeld h (lines_told h l) before x after is
        (front before (x ∷ after) (subst T is t)))

pub calls_end_fair : SlotsAreKept → OneEventMore → GrantsAreSafe → AnswersAreOwn → FilesHaveShape → CallsEndFair
calls_end_fair kept more safe own shapes h l t =
    ends_fair IsReadableThrough readable_fronts kept more (λ w g k. safe w (reached w g k)) own
    (λ w g k. shapes w (reached w g k)) readable_there h l t
