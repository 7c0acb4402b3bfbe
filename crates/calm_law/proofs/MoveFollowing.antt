-- What is kept follows the moves of an event.
use Rattle.std.proofs.Common.{◌≡◌, ◌++◌, ◌∷◌, [], List, true, false, Some, None, map, fold, refl, sym, ap, subst, ◌∙◌, inl, inr}
use Rattle.std.proofs.lemmas.Bool.{cases_Bool}
use Rattle.std.proofs.lemmas.List.{append-nil}
use Rattle.scenario_text.specs.declared.event.Event.{Event}
use Rattle.scenario_text.specs.declared.line.Line.{Line}
use Rattle.scenario_text.specs.declared.line.Line.TheVariants as line
use Rattle.world_history.specs.declared.messages.Sent.{Sent}
use Rattle.world_history.specs.ServerNames.{Mended}
use Rattle.world_history.specs.State.{World}
use Rattle.world_history.specs.Moves.{Action, Opens, begins, acts}
use Rattle.world_history.specs.Sending.{Move, move, sends_all}
use Rattle.world_history.specs.Plans.{due}
use Rattle.world_history.specs.Laws.{MomentGoesOn, shown}
use Rattle.world_history.specs.Reading.{Step, is_head}
use Rattle.world_history.specs.Book.{server_step}
use Rattle.world_history.specs.Calm.{Seen, sees, seen, mended_in}
use Rattle.world_history.specs.Guesses.{guarded}
use Rattle.world_watch.specs.Sighted.{Table}
use Rattle.world_watch.specs.Tied.{AreOf}
use Rattle.world_calm.specs.Seeing.{CalmState, KeptOf}
use Rattle.world_watch.specs.Steps.{injected_at, performed_at, sees_move}
use Rattle.calm_law.specs.Following.{Follows, StepFacts, FollowsOn, FollowsEvents}
use Rattle.component_law.specs.LeftPending.{PendingIsRead, left_pending}
use Rattle.component_law.specs.Opening.{is_opening}
use Rattle.world_history.specs.Refusals.{refusal}
use Rattle.history_law.specs.BookMoments.{IsMoment, with_event, lines_in, plan_at}
use Rattle.history_law.specs.Doing.{did_in}
use Rattle.history_law.specs.Read.{AreWritten}
use Rattle.history_law.proofs.BookLines.{two_steps}
use Rattle.calm_law.specs.Moving.{Read, MovesGive, MoveFollows, kept_by, sees_one, performed_in, reads}
use Rattle.component_law.proofs.Shapes.{Bare, Shape, IsHeaded, Nothing, Left, Heads, sent_bare}
use Rattle.component_law.proofs.MoveOpening.{opens_headed, begins_bare}
use Rattle.calm_law.proofs.MoveStepping.{steps_one, sees_plain, sees_behind, sees_left, reads_plain, reads_behind}
use Rattle.component_law.proofs.NextMoves.{is_opens, first_begun, acts_shape, plain_lines}

-- ---- one step

follows_plain : FollowsOn → MomentGoesOn → (b : List Line) (kept : KeptOf) (rs : List Mended) (t : Table) (ms : List Sent)
    (c : CalmState) (head : Line) (rest : List Line) → is_head head ≡ true → Bare rest → Follows (seen b) c
    → StepFacts (seen b) (record { head = head; rest = rest })
    (server_step (seen b).server (record { head = head; rest = rest })) kept rs ms (performed_at ms None head)
    → Follows (seen (b ++ head ∷ rest)) (sees_move kept rs t ms c (head ∷ rest))
follows_plain on goes b kept rs t ms c head rest h bare f facts =
    let step : Step = record { head = head; rest = rest } in
    let then_ : seen (b ++ head ∷ rest) ≡ sees (seen b) step =
    goes b (head ∷ rest) h ∙ ap (λ (ts : List Step). fold sees (seen b) ts) (steps_one head rest h bare) in
    subst (λ (x : Seen). Follows x (sees_move kept rs t ms c (head ∷ rest))) (sym then_)
    (subst (λ (x : CalmState). Follows (sees (seen b) step) x) (sym (sees_plain kept rs t ms c head rest h bare))
    (on (seen b) step kept rs ms (performed_at ms None head) c f facts))

follows_behind : FollowsOn → FollowsEvents → MomentGoesOn → (b : List Line) (e : Event) (kept : KeptOf) (rs : List Mended)
    (t : Table) (ms : List Sent) (c : CalmState) (head : Line) (rest : List Line) → is_opening e ≡ true
    → is_head head ≡ true → Bare rest → Follows (seen b) c
    → StepFacts (seen (b ++ line.Event e ∷ [])) (record { head = head; rest = rest })
    (server_step (seen (b ++ line.Event e ∷ [])).server (record { head = head; rest = rest })) kept rs ms
    (performed_at ms (injected_at t ms (line.Event e)) head)
    → Follows (seen (b ++ line.Event e ∷ head ∷ rest)) (sees_move kept rs t ms c (line.Event e ∷ head ∷ rest))
follows_behind on events goes b e kept rs t ms c head rest o h bare f facts =
    let own : Step = record { head = line.Event e; rest = [] } in
    let step : Step = record { head = head; rest = rest } in
    let one : seen (b ++ line.Event e ∷ []) ≡ sees (seen b) own =
    goes b (line.Event e ∷ []) refl ∙ ap (λ (ts : List Step). fold sees (seen b) ts) (steps_one (line.Event e) [] refl tt) in
    let two : seen (b ++ line.Event e ∷ head ∷ rest) ≡ sees (sees (seen b) own) step =
    goes b (line.Event e ∷ head ∷ rest) refl
    ∙ ap (λ (ts : List Step). fold sees (seen b) ts) (two_steps e head rest h bare) in
    let there : Follows (seen (b ++ line.Event e ∷ [])) c =
    subst (λ (x : Seen). Follows x c) (sym one) (events (seen b) c e o f) in
    subst (λ (x : Seen). Follows x (sees_move kept rs t ms c (line.Event e ∷ head ∷ rest)))
    (ap (λ (x : Seen). sees x step) one ∙ sym two)
    (subst (λ (x : CalmState). Follows (sees (seen (b ++ line.Event e ∷ [])) step) x)
    (sym (sees_behind kept rs t ms c (line.Event e) head rest h))
    (on (seen (b ++ line.Event e ∷ [])) step kept rs ms (performed_at ms (injected_at t ms (line.Event e)) head) c there facts))

-- ---- one move

-- where its own lines are none, or one that tells that a call is left pending, or a step
-- a step that is all of its lines
follows_step : FollowsOn → MomentGoesOn → (b : List Line) (head : Line) (rest : List Line) (kept : KeptOf) (rs : List Mended)
    (t : Table) (ms : List Sent) (c : CalmState) → is_head head ≡ true → Bare rest → Follows (seen b) c
    → ((r : Read) → reads (head ∷ rest) ≡ Some r → StepFacts (seen (b ++ r.before)) r.step
    (server_step (seen (b ++ r.before)).server r.step) kept rs ms (performed_in t ms r))
    → Follows (seen (b ++ head ∷ rest)) (sees_move kept rs t ms c (head ∷ rest))
follows_step on goes b head rest kept rs t ms c h bare f facts =
    let r : Read = record { before = []; step = record { head = head; rest = rest } } in
    follows_plain on goes b kept rs t ms c head rest h bare f
    (subst (λ (x : List Line). StepFacts (seen x) r.step (server_step (seen x).server r.step) kept rs ms
    (performed_in t ms r)) (append-nil b) (facts r (reads_plain head rest h bare)))

follows_shape : FollowsOn → MomentGoesOn → PendingIsRead → (b ls : List Line) (kept : KeptOf) (rs : List Mended) (t : Table)
    (ms : List Sent) (c : CalmState) → Shape ls → Follows (seen b) c
    → ((r : Read) → reads ls ≡ Some r → StepFacts (seen (b ++ r.before)) r.step
    (server_step (seen (b ++ r.before)).server r.step) kept rs ms (performed_in t ms r))
    → Follows (seen (b ++ ls)) (sees_move kept rs t ms c ls)
follows_shape on goes left b ls kept rs t ms c (Nothing e) f facts =
    subst (λ (x : List Line). Follows (seen (b ++ x)) (sees_move kept rs t ms c x)) (sym e)
    (subst (λ (x : List Line). Follows (seen x) c) (sym (append-nil b)) f)
follows_shape on goes left b ls kept rs t ms c (Left k kind e) f facts =
    subst (λ (x : List Line). Follows (seen (b ++ x)) (sees_move kept rs t ms c x)) (sym e)
    (subst (λ (x : Seen). Follows x (sees_move kept rs t ms c (left_pending k kind ∷ []))) (sym (left b k kind))
    (subst (λ (x : CalmState). Follows (seen b) x) (sym (sees_left kept rs t ms c k kind)) f))
follows_shape on goes left b ls kept rs t ms c (Heads h) f facts =
    subst (λ (x : List Line). Follows (seen (b ++ x)) (sees_move kept rs t ms c x)) (sym h.are)
    (follows_step on goes b h.head h.rest kept rs t ms c h.begins h.bare f
    (λ r i. facts r (ap (λ (x : List Line). reads x) h.are ∙ i)))

follows_opens : FollowsOn → FollowsEvents → MomentGoesOn → PendingIsRead → (b : List Line) (e : Event) (ls : List Line)
    (kept : KeptOf) (rs : List Mended) (t : Table) (ms : List Sent) (c : CalmState)
    → (is_opening e ≡ true → IsHeaded ls) → (is_opening e ≡ false → Bare ls) → Follows (seen b) c
    → ((r : Read) → reads (line.Event e ∷ ls) ≡ Some r → StepFacts (seen (b ++ r.before)) r.step
    (server_step (seen (b ++ r.before)).server r.step) kept rs ms (performed_in t ms r))
    → Follows (seen (b ++ line.Event e ∷ ls)) (sees_move kept rs t ms c (line.Event e ∷ ls))
follows_opens on events goes left b e ls kept rs t ms c headed bare f facts = elim (cases_Bool (is_opening e)) [
  | inl o ↦
      let h : IsHeaded ls = headed o in
      let r : Read = record { before = line.Event e ∷ []; step = record { head = h.head; rest = h.rest } } in
      subst (λ (x : List Line). Follows (seen (b ++ line.Event e ∷ x)) (sees_move kept rs t ms c (line.Event e ∷ x)))
      (sym h.are)
      (follows_behind on events goes b e kept rs t ms c h.head h.rest o h.begins h.bare f
      (facts r (ap (λ (x : List Line). reads (line.Event e ∷ x)) h.are ∙ reads_behind (line.Event e) h.head h.rest h.begins)))
  | inr o ↦
      follows_step on goes b (line.Event e) ls kept rs t ms c refl (bare o) f facts
]

-- a move that begins no event
follows_next : FollowsOn → MomentGoesOn → PendingIsRead → MovesGive → (w : World) (h : List Line) (k : IsMoment w h)
    (m : Move) (t : Table) (c : CalmState) → due (plan_at k) w ≡ Some m.action → AreWritten (h ++ lines_in w m)
    → AreOf (guarded k.history).sent t → Follows (seen h) c → lines_in w m ≡ (move w m).lines → Shape (move w m).lines
    → Follows (seen (h ++ lines_in w m)) (sees_one t c w m)
follows_next on goes left gives w h k m t c next written of f lines shape =
    follows_shape on goes left h (lines_in w m) (kept_by (move w m).world) (mended_in (did_in w m)) t
    (map shown (move w m).world.network.messages) c (subst (λ (ls : List Line). Shape ls) (sym lines) shape) f
    (λ r i. gives w h k m t r next written of i)

-- one that begins an event
follows_first : FollowsOn → FollowsEvents → MomentGoesOn → PendingIsRead → MovesGive → (w : World) (h : List Line)
    (k : IsMoment w h) (m : Move) (t : Table) (c : CalmState) → due (plan_at k) w ≡ Some m.action
    → AreWritten (h ++ lines_in w m) → AreOf (guarded k.history).sent t → Follows (seen h) c → (e : Event)
    → m.action ≡ Opens e → Follows (seen (h ++ lines_in w m)) (sees_one t c w m)
follows_first on events goes left gives w h k m t c next written of f e q =
    let lines : lines_in w m ≡ line.Event e ∷ (move w m).lines =
    ap (λ (a : Action). with_event a (move w m).lines) q in
    let allowed : refusal w e ≡ None = (first_begun w h k e (next ∙ ap (λ (a : Action). Some a) q)).allowed in
    subst (λ (ls : List Line). Follows (seen (h ++ ls)) (sees_move (kept_by (move w m).world) (mended_in (did_in w m)) t
    (map shown (move w m).world.network.messages) c ls)) (sym lines)
    (follows_opens on events goes left h e (move w m).lines (kept_by (move w m).world) (mended_in (did_in w m)) t
    (map shown (move w m).world.network.messages) c
    (λ o. subst (λ (a : Action). IsHeaded (sends_all (acts w m.chosen a)).lines) (sym q)
    (opens_headed w m.chosen e o allowed))
    (λ o. subst (λ (a : Action). Bare (sends_all (acts w m.chosen a)).lines) (sym q)
    (sent_bare (begins w m.chosen e) (begins_bare w m.chosen e o))) f
    (λ r i. gives w h k m t r next written of (ap (λ (ls : List Line). reads ls) lines ∙ i)))

by_action : FollowsOn → FollowsEvents → MomentGoesOn → PendingIsRead → MovesGive → (w : World) (h : List Line)
    (k : IsMoment w h) (m : Move) (t : Table) (c : CalmState) → due (plan_at k) w ≡ Some m.action
    → AreWritten (h ++ lines_in w m) → AreOf (guarded k.history).sent t → Follows (seen h) c → (a : Action)
    → m.action ≡ a → Follows (seen (h ++ lines_in w m)) (sees_one t c w m)
by_action on events goes left gives w h k m t c next written of f (Opens e) q =
    follows_first on events goes left gives w h k m t c next written of f e q
by_action on events goes left gives w h k m t c next written of f a q =
    let late : is_opens m.action ≡ false = ap (λ (x : Action). is_opens x) q in
    follows_next on goes left gives w h k m t c next written of f (plain_lines m.action (move w m).lines late)
    (acts_shape w m.chosen m.action late)

pub move_follows : FollowsOn → FollowsEvents → PendingIsRead → MomentGoesOn → MovesGive → MoveFollows
move_follows on events left goes gives w h k m t c next written of f =
    by_action on events goes left gives w h k m t c next written of f m.action refl
