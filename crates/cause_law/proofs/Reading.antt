-- A line at which something comes to the server is the only one of its move, and what its step does is read there.
use Rattle.std.proofs.Common.{◌≡◌, Bool, true, List, [], ◌∷◌, ◌++◌, Option, Some, None, refl, sym, ap, subst, ◌∙◌, append_assoc, inl, inr}
use Rattle.std.proofs.lemmas.Bool.{cases_Bool, false≢true}
use Rattle.std.specs.List.{fold}
use Rattle.std.proofs.lemmas.List.{append-nil}
use Rattle.server_rules.specs.Files.{Step as ServerStep}
use Rattle.server_rules.specs.History.{Input}
use Rattle.server_rules.proofs.Members.{in_behind}
use Rattle.scenario_text.specs.declared.line.Line.{Line}
use Rattle.scenario_text.specs.declared.line.Line.TheVariants as line
use Rattle.world_history.specs.State.{World}
use Rattle.world_history.specs.Sending.{Move}
use Rattle.world_history.specs.Reading.{is_head, Step, Grouped, grouped_with, grouped, steps_of}
use Rattle.world_history.specs.Book.{ServerSeen, placed_in, input_at, step_by, server_step, server_behind, sees_server, server_seen, server_after}
use Rattle.world_history.specs.Laws.{ServerGoesOn}
use Rattle.history_law.specs.BookMoments.{lines_in}
use Rattle.history_law.specs.Doing.{did_in}
use Rattle.history_law.specs.Read.{ReadsAs}
use Rattle.history_law.specs.StepEnds.{BeginNone}
use Rattle.history_law.proofs.Behind.{none_behind}

-- ---- steps of lines

head_step : (l : Line) (ls : List Line) → is_head l ≡ true
    → grouped (l ∷ ls) ≡ record { loose = []; steps = record { head = l; rest = (grouped ls).loose } ∷ (grouped ls).steps }
unfolding grouped
head_step l ls head = ap (λ (b : Bool). grouped_with b l (grouped ls)) head

one_seen : (s : ServerSeen) (l : Line) → is_head l ≡ true
    → fold sees_server s (steps_of (l ∷ [])) ≡ sees_server s (record { head = l; rest = [] })
unfolding grouped
one_seen s l head = ap (λ (g : Grouped). fold sees_server s g.steps) (head_step l [] head)

loose_all : (ls : List Line) → (grouped ls).steps ≡ [] → ((grouped ls).loose ≡ ls) × BeginNone ls
unfolding grouped
loose_all [] e = (refl, λ l i. absurd i)
loose_all (l ∷ ls) e = elim (cases_Bool (is_head l)) [
  | inl t ↦ absurd (cc (rw t at e))
  | inr z ↦
      let r = loose_all ls (rw z at e) in
      (rw z (ap (λ (xs : List Line). l ∷ xs) r.0), λ x i. elim i [ inl same ↦ rw same z | inr j ↦ r.1 x j ])
]

some_step : (ys after : List Line) (l : Line) → is_head l ≡ true → (grouped (ys ++ l ∷ after)).steps ≡ [] → ⊥
some_step ys after l head e =
    false≢true (sym ((loose_all (ys ++ l ∷ after) e).1 l (in_behind l ys (l ∷ after) (inl refl))) ∙ head)

-- ---- what comes to the server

pub input_head : (s : ServerSeen) (l : Line) (i : Input) → input_at s l ≡ Some i → is_head l ≡ true
input_head s (line.Event e) i is = refl
input_head s (line.Delivered number delivery) i is = refl
input_head s l i is = absurd (cc is)

-- the step at the line does what the move is, and none begins behind the line
pub record IsRead (w : World) (h front : List Line) (l : Line) (after : List Line) (m : Move) : Type 0 where
  pub server : server_after (h ++ front) ≡ server_after h
  pub does : server_step (server_seen (h ++ front)) (record { head = l; rest = after }) ≡ did_in w m
  pub alone : BeginNone after

-- something comes at the line
abbrev Comes : List Line → Line → Type 0
Comes h l = (i : Input) × (input_at (server_seen h) l ≡ Some i)

something : (s : ServerSeen) (l : Line) (rest : List Line) (i : Input) → input_at s l ≡ Some i
    → server_step s (record { head = l; rest = rest }) ≡ None → ⊥
something s l rest i is none = absurd (cc (sym (ap (step_by s.server (placed_in rest)) is) ∙ none))

module _ (on : ServerGoesOn) (w : World) (h : List Line) (m : Move) where
  abbrev Reads : List Step → Type 0
  Reads ts = ReadsAs (server_seen h) (did_in w m) ts

  -- the line is the first
  at_first : (l : Line) (after : List Line) → Comes h l → Reads (steps_of (l ∷ after)) → IsRead w h [] l after m
  at_first l after c r =
      let head : is_head l ≡ true = input_head (server_seen h) l c.0 c.1 in
      by_steps head (grouped after).steps refl
      (subst (λ (g : Grouped). Reads g.steps) (head_step l after head) r)
    where
      by_steps : is_head l ≡ true → (ts : List Step) → (grouped after).steps ≡ ts
          → Reads (record { head = l; rest = (grouped after).loose } ∷ ts) → IsRead w h [] l after m
      by_steps head [] none x =
          let a = loose_all after none in
          record {
            server = ap server_after (append-nil h);
            does = ap (λ (g : List Line). server_step (server_seen g) (record { head = l; rest = after })) (append-nil h)
                ∙ ap (λ (rest : List Line). server_step (server_seen h) (record { head = l; rest = rest })) (sym a.0) ∙ x;
            alone = a.1;
          }
      by_steps head (u ∷ []) some x = absurd (something (server_seen h) l (grouped after).loose c.0 c.1 x.0.nothing)
      by_steps head (u ∷ v ∷ ts) some x = absurd x

  -- the line is the second
  at_second : (x l : Line) (after : List Line) → is_head x ≡ true → Comes (h ++ x ∷ []) l → Reads (steps_of (x ∷ l ∷ after))
      → IsRead w h (x ∷ []) l after m
  at_second x l after first c r =
      let head : is_head l ≡ true = input_head (server_seen (h ++ x ∷ [])) l c.0 c.1 in
      by_steps (grouped after).steps refl
      (subst (λ (g : Grouped). Reads (record { head = x; rest = g.loose } ∷ g.steps)) (head_step l after head)
      (subst (λ (g : Grouped). Reads g.steps) (head_step x (l ∷ after) first) r))
    where
      o : Step
      o = record { head = x; rest = [] }

      seen : server_seen (h ++ x ∷ []) ≡ sees_server (server_seen h) o
      seen = on h (x ∷ []) first ∙ one_seen (server_seen h) x first

      by_steps : (ts : List Step) → (grouped after).steps ≡ ts
          → Reads (o ∷ record { head = l; rest = (grouped after).loose } ∷ ts)
          → IsRead w h (x ∷ []) l after m
      by_steps [] none y =
          let a = loose_all after none in
          record {
            server = ap (λ (s : ServerSeen). s.server) seen
                ∙ ap (λ (t : Option ServerStep). server_behind (server_seen h).server t) y.0.nothing;
            does = ap (λ (s : ServerSeen). server_step s (record { head = l; rest = after })) seen
                ∙ ap (λ (rest : List Line). server_step (sees_server (server_seen h) o) (record {
                  head = l;
                  rest = rest;
                })) (sym a.0)
                ∙ y.1;
            alone = a.1;
          }
      by_steps (u ∷ ts) some y = absurd y

  -- and there is no third
  no_third : (x y : Line) (ys : List Line) (l : Line) (after : List Line) → is_head x ≡ true → is_head y ≡ true
      → is_head l ≡ true → Reads (steps_of (x ∷ y ∷ (ys ++ l ∷ after))) → ⊥
  no_third x y ys l after first second head r =
      by_steps (grouped (ys ++ l ∷ after)).steps refl
      (subst (λ (g : Grouped). Reads (record { head = x; rest = g.loose } ∷ g.steps)) (head_step y (ys ++ l ∷ after) second)
      (subst (λ (g : Grouped). Reads g.steps) (head_step x (y ∷ (ys ++ l ∷ after)) first) r))
    where
      by_steps : (ts : List Step) → (grouped (ys ++ l ∷ after)).steps ≡ ts
          → Reads (record { head = x; rest = [] } ∷ record { head = y; rest = (grouped (ys ++ l ∷ after)).loose } ∷ ts) → ⊥
      by_steps [] none z = some_step ys after l head none
      by_steps (u ∷ ts) some z = z

  -- all lines before it begin steps
  before_head : (front : List Line) (x : Line) (ys : List Line) (l : Line) (after : List Line)
      → lines_in w m ≡ front ++ x ∷ (ys ++ l ∷ after) → is_head l ≡ true → is_head x ≡ true
  before_head front x ys l after is head = elim (cases_Bool (is_head x)) [
    | inl t ↦ t
    | inr z ↦
        absurd
        (false≢true (sym (none_behind w m front (ys ++ l ∷ after) x is z l (in_behind l ys (l ∷ after) (inl refl))) ∙ head))
  ]

  pub line_read : (front : List Line) (l : Line) (after : List Line) → lines_in w m ≡ front ++ l ∷ after → Comes (h ++ front) l
      → Reads (steps_of (lines_in w m)) → IsRead w h front l after m
  line_read [] l after is c r =
      at_first l after (c.0, subst (λ (g : List Line). input_at (server_seen g) l ≡ Some c.0) (append-nil h) c.1)
      (subst (λ (ls : List Line). Reads (steps_of ls)) is r)
  line_read (x ∷ []) l after is c r =
      at_second x l after (before_head [] x [] l after is (input_head (server_seen (h ++ x ∷ [])) l c.0 c.1)) c
      (subst (λ (ls : List Line). Reads (steps_of ls)) is r)
  line_read (x ∷ y ∷ ys) l after is c r =
      let head : is_head l ≡ true = input_head (server_seen (h ++ x ∷ y ∷ ys)) l c.0 c.1 in
      absurd (no_third x y ys l after (before_head [] x (y ∷ ys) l after is head) (before_head (x ∷ []) y ys l after is head) head
      (subst (λ (ls : List Line). Reads (steps_of ls)) is r))

-- ---- lines before one that begins a step

abbrev pub AllHeads : List Line → Type 0
AllHeads [] = Unit {0}
AllHeads (l ∷ ls) = (is_head l ≡ true) × AllHeads ls

-- each of them begins one
pub all_heads : (w : World) (m : Move) (front : List Line) (l : Line) (after : List Line)
    → lines_in w m ≡ front ++ l ∷ after → is_head l ≡ true → AllHeads front
all_heads w m front l after is head = from [] front is
  where
    from : (before rest : List Line) → lines_in w m ≡ before ++ (rest ++ l ∷ after) → AllHeads rest
    from before [] e = tt
    from before (x ∷ rest) e = (
      elim (cases_Bool (is_head x)) [
        | inl t ↦ t
        | inr z ↦
            absurd
            (false≢true
            (sym (none_behind w m before (rest ++ l ∷ after) x e z l (in_behind l rest (l ∷ after) (inl refl))) ∙ head))
      ],
      from (before ++ x ∷ []) rest (e ∙ sym (append_assoc before (x ∷ []) (rest ++ l ∷ after))),
    )
