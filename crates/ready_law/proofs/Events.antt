-- An event that is over stands apart in a lawful history.
use Rattle.std.proofs.Common.{◌≡◌, ◌⊎◌, List, [], ◌∷◌, ◌++◌, true, true≢false, refl, sym, ap, subst, ◌∙◌, append_assoc, inl, inr}
use Rattle.std.proofs.lemmas.List.{append-nil}
use Rattle.scenario_text.specs.declared.event.Event.{Event}
use Rattle.scenario_text.specs.declared.line.Line.{Line}
use Rattle.scenario_text.specs.declared.line.Line.TheVariants as line
use Rattle.world_history.specs.State.{World, empty_world}
use Rattle.world_history.specs.Runs.{lines_of, Carries}
use Rattle.world_history.specs.History.{Step, AreCarried, end_of, lines_of_steps, StandsFor, Begins, OneEventMore}
use Rattle.world_history.specs.History.Begins.{Nothing, Part}
use Rattle.ready_law.specs.Events.{is_event, BeginsWithEvent, StandsApart, EventsStandApart}
use Rattle.cause_law.proofs.Eventless.{NoEvent, first_plain, moves_plain}

-- ---- lists of lines

-- none, or an event's first
abbrev Starts : List Line → Type 0
Starts [] = Unit {0}
Starts (l ∷ ls) = is_event l ≡ true

begins_starts : (ls : List Line) → BeginsWithEvent ls → Starts ls
begins_starts [] b = absurd b
begins_starts (l ∷ ls) b = b

-- up to the first event two lists agree
same_front : (a b c d : List Line) → NoEvent a → NoEvent c → Starts b → Starts d → a ++ b ≡ c ++ d → (a ≡ c) × (b ≡ d)
same_front [] b [] d na nc sb sd e = (refl, e)
same_front [] [] (y ∷ c) d na nc sb sd e = absurd (cc e)
same_front [] (x ∷ b) (y ∷ c) d na nc sb sd e =
    let heads : x ≡ y = cc in absurd (true≢false (sym sb ∙ ap is_event heads ∙ (first_plain y c nc).0))
same_front (x ∷ a) b [] [] na nc sb sd e = absurd (cc e)
same_front (x ∷ a) b [] (y ∷ d) na nc sb sd e =
    let heads : x ≡ y = cc in absurd (true≢false (sym sd ∙ ap is_event (sym heads) ∙ (first_plain x a na).0))
same_front (x ∷ a) b (y ∷ c) d na nc sb sd e =
    let heads : x ≡ y = cc in
    let tails : a ++ b ≡ c ++ d = cc in
    let rest = same_front a b c d (first_plain x a na).1 (first_plain y c nc).1 sb sd tails in
    (ap (λ (z : Line). z ∷ a) heads ∙ ap (λ (l : List Line). y ∷ l) rest.0, rest.1)

-- lines without an event stand whole before one
reach : (a rest before d : List Line) → NoEvent a → BeginsWithEvent d → a ++ rest ≡ before ++ d
    → (x : List Line) × (before ≡ a ++ x) × (rest ≡ x ++ d)
reach [] rest before d n b e = (before, refl, e)
reach (x ∷ a) rest [] [] n b e = absurd b
reach (x ∷ a) rest [] (y ∷ d) n b e =
    let heads : x ≡ y = cc in absurd (true≢false (sym b ∙ ap is_event (sym heads) ∙ (first_plain x a n).0))
reach (x ∷ a) rest (y ∷ before) d n b e =
    let heads : x ≡ y = cc in
    let tails : a ++ rest ≡ before ++ d = cc in
    let r = reach a rest before d (first_plain x a n).1 b tails in
    (r.0, ap (λ (z : Line). z ∷ before) (sym heads) ∙ ap (λ (l : List Line). x ∷ l) r.1, r.2)

no_middle : (before ls : List Line) (l : Line) → [] ≡ before ++ l ∷ ls → ⊥
no_middle [] ls l e = cc e
no_middle (x ∷ before) ls l e = cc e

no_end : (a b : List Line) → BeginsWithEvent b → NoEvent (a ++ b) → ⊥
no_end [] [] b n = b
no_end [] (l ∷ ls) b n = true≢false (sym b ∙ (first_plain l ls n).0)
no_end (x ∷ a) ls b n = no_end a ls b (first_plain x (a ++ ls) n).1

still_begins : (b more : List Line) → BeginsWithEvent b → BeginsWithEvent (b ++ more)
still_begins [] more b = absurd b
still_begins (l ∷ ls) more b = b

-- ---- the last event, and further ones

last_starts : (w : World) (last : List Line) → Begins w last → Starts last
last_starts w [] b = tt
last_starts w (l ∷ ls) (Nothing e) = absurd (cc e)
last_starts w (l ∷ ls) (Part e c) =
    let is : line.Event e ∷ lines_of w c.moves ≡ l ∷ (ls ++ c.part.0) = c.part.1 in
    let head : line.Event e ≡ l = cc is in
    ap is_event (sym head)

steps_start : (w : World) (steps : List Step) (last : List Line) → AreCarried w steps → Begins (end_of w steps) last
    → Starts (lines_of_steps steps ++ last)
steps_start w [] last r b = last_starts w last b
steps_start w (s ∷ steps) last r b =
    subst (λ (ls : List Line). Starts ((ls ++ lines_of_steps steps) ++ last)) (sym r.0.lines_are) refl

-- no event is over in the last one, which may be cut
alone_last : (e : Event) (ls : List Line) → NoEvent ls → (before : List Line) (x : Event) (body after : List Line)
    → BeginsWithEvent after → line.Event e ∷ ls ≡ before ++ line.Event x ∷ (body ++ after) → ⊥
alone_last e ls n [] x body after b is =
    let tails : ls ≡ body ++ after = cc is in no_end body after b (subst NoEvent tails n)
alone_last e ls n (y ∷ before) x body after b is =
    let tails : ls ≡ before ++ line.Event x ∷ (body ++ after) = cc is in
    no_end before (line.Event x ∷ (body ++ after)) refl (subst NoEvent tails n)

not_last : (w : World) (last : List Line) → Begins w last → (before : List Line) (e : Event) (body after : List Line)
    → BeginsWithEvent after ⊎ (last ≡ []) → last ≡ before ++ line.Event e ∷ (body ++ after) → ⊥
not_last w last b before e body after (inr none) is = no_middle before (body ++ after) (line.Event e) (sym none ∙ is)
not_last w last (Nothing none) before e body after (inl s) is =
    no_middle before (body ++ after) (line.Event e) (sym none ∙ is)
not_last w last (Part x c) before e body after (inl s) is =
    alone_last x (lines_of w c.moves) (moves_plain w x c.moves c.are_due) before e body (after ++ c.part.0)
    (still_begins after c.part.0 s)
    (c.part.1 ∙ ap (λ (l : List Line). l ++ c.part.0) is
    ∙ append_assoc before (line.Event e ∷ (body ++ after)) c.part.0
    ∙ ap (λ (l : List Line). before ++ line.Event e ∷ l) (append_assoc body after c.part.0))

-- the event is the first of some steps, or behind it
at_step : (w : World) (g : List Line) (s : StandsFor w g) (x : Step) (c : Carries w x.event x.lines x.after)
    (rest : List Line) → Starts rest → (before : List Line) (e : Event) (body after : List Line) → NoEvent body
    → Starts after → x.lines ++ rest ≡ before ++ line.Event e ∷ (body ++ after)
    → StandsApart (g ++ before) e body
    ⊎ ((z : List Line) × (before ≡ x.lines ++ z) × (rest ≡ z ++ line.Event e ∷ (body ++ after)))
at_step w g s x c rest sr [] e body after n sa is =
    let all : line.Event x.event ∷ (lines_of w c.moves ++ rest) ≡ line.Event e ∷ (body ++ after) =
    ap (λ (l : List Line). l ++ rest) (sym c.lines_are) ∙ is in
    let same : x.event ≡ e = cc all in
    let tails : lines_of w c.moves ++ rest ≡ body ++ after = cc all in
    let own : lines_of w c.moves ≡ body =
    (same_front (lines_of w c.moves) rest body after (moves_plain w x.event c.moves c.are_due) n sr sa
    tails).0 in
    let lines : x.lines ≡ line.Event e ∷ body =
    c.lines_are ∙ ap (λ (y : Event). line.Event y ∷ lines_of w c.moves) same
    ∙ ap (λ (l : List Line). line.Event e ∷ l) own in
    inl (record {
      world = w;
      stands = subst (StandsFor w) (sym (append-nil g)) s;
      next = x.after;
      carries =
          subst (λ (l : List Line). Carries w e l x.after) lines
          (subst (λ (y : Event). Carries w y x.lines x.after) same c);
    })
at_step w g s x c rest sr (y ∷ before) e body after n sa is =
    let all : line.Event x.event ∷ (lines_of w c.moves ++ rest) ≡ y ∷ (before ++ line.Event e ∷ (body ++ after)) =
    ap (λ (l : List Line). l ++ rest) (sym c.lines_are) ∙ is in
    let head : line.Event x.event ≡ y = cc all in
    let tails : lines_of w c.moves ++ rest ≡ before ++ line.Event e ∷ (body ++ after) = cc all in
    let r =
    reach (lines_of w c.moves) rest before (line.Event e ∷ (body ++ after))
    (moves_plain w x.event c.moves c.are_due) refl tails in
    inr (
      r.0,
      ap (λ (l : Line). l ∷ before) (sym head) ∙ ap (λ (l : List Line). line.Event x.event ∷ l) r.1
          ∙ ap (λ (l : List Line). l ++ r.0) (sym c.lines_are),
      r.2,
    )

module _ (one_more : OneEventMore) where
  find : (w : World) (g : List Line) → StandsFor w g → (steps : List Step) → AreCarried w steps
      → (last : List Line) → Begins (end_of w steps) last
      → (before : List Line) (e : Event) (body after : List Line) → NoEvent body → Starts after
      → BeginsWithEvent after ⊎ (last ≡ [])
      → lines_of_steps steps ++ last ≡ before ++ line.Event e ∷ (body ++ after) → StandsApart (g ++ before) e body
  find w g s [] r last b before e body after n sa closed is =
      absurd (not_last w last b before e body after closed is)
  find w g s (x ∷ steps) r last b before e body after n sa closed is =
      let at =
      at_step w g s x r.0 (lines_of_steps steps ++ last) (steps_start x.after steps last r.1 b) before e body after n sa
      (sym (append_assoc x.lines (lines_of_steps steps) last) ∙ is) in
      elim at [
        | inl here ↦ here
        | inr behind ↦
            subst (λ (l : List Line). StandsApart l e body)
            (append_assoc g x.lines behind.0 ∙ ap (λ (l : List Line). g ++ l) (sym behind.1))
            (find x.after (g ++ x.lines) (one_more w x.after g x.lines x.event s r.0) steps r.1 last b behind.0 e body
            after n sa closed behind.2)
      ]

  stands_empty : StandsFor empty_world []
  stands_empty = record { steps = []; carried = tt; world_is = refl; lines_are = refl }

  pub events_stand_apart : EventsStandApart
  events_stand_apart h before e body l over = elim over.closed [
    | inl more ↦
        find empty_world [] stands_empty l.stands.steps l.stands.carried l.last
        (subst (λ (x : World). Begins x l.last) l.stands.world_is l.begins) before e body over.after over.alone
        (begins_starts over.after more) (inl more)
        (ap (λ (x : List Line). x ++ l.last) (sym l.stands.lines_are) ∙ sym l.lines_are ∙ over.lines_are)
    | inr whole ↦
        let s : StandsFor whole.1.0 h = whole.1.1 in
        find empty_world [] stands_empty s.steps s.carried [] (Nothing refl) before e body over.after over.alone
        (subst Starts (sym whole.0) tt) (inr refl)
        (append-nil (lines_of_steps s.steps) ∙ sym s.lines_are ∙ over.lines_are)
  ]
