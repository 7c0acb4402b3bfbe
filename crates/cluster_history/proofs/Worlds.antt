-- An event of one move, of a world that is as a cluster.
use Rattle.std.proofs.Common.{◌≡◌, ℕ, ◌+◌, Bool, true, false, List, [], ◌∷◌, ◌++◌, Option, Some, None, length, map, arith, refl, sym, ap, subst, ◌∙◌, append_assoc}
use Rattle.std.specs.Prelude.{not}
use Rattle.std.proofs.lemmas.List.{append-nil, map-append, length-map}
use Rattle.scenario_text.specs.declared.event.Event.{Event}
use Rattle.scenario_text.specs.declared.line.Line.{Line}
use Rattle.scenario_text.specs.declared.line.Line.TheVariants as line
use Rattle.world_history.specs.declared.messages.Message.{Message}
use Rattle.world_history.specs.declared.messages.Posted.{Posted}
use Rattle.world_history.specs.State.{World, Network}
use Rattle.world_history.specs.Handed.{Post}
use Rattle.world_history.specs.Moves.{Act, Opens, begins}
use Rattle.world_history.specs.Sending.{Move, move, fresh, with_posts, sent_line, sent_lines, sends_all}
use Rattle.world_history.specs.Plans.{Rule, Alone, Plan, due, went_on, plan_of, rule_of}
use Rattle.world_history.specs.Refusals.{refusal}
use Rattle.world_history.specs.Runs.{Carries, IsOver, plan_after}
use Rattle.world_history.specs.History.{StandsFor}
use Rattle.world_history.proofs.Histories.{one_event_more}
use Rattle.history_law.specs.Said.{said, posted}
use Rattle.cluster_history.specs.State.{Cluster}
use Rattle.cluster_history.specs.Steps.{Step}
use Rattle.cluster_history.specs.Deeds.{Deed}
use Rattle.cluster_history.specs.History.{message_lines, lines_of, sending, deed, after, told}
use Rattle.cluster_history.specs.Like.{cluster_of, AreStored, IsLike, LeadsTo}

-- ---- what is sent

pub said_fresh : (ps : List Post) → said (map fresh ps) ≡ posted ps
said_fresh [] = refl
said_fresh (p ∷ ps) = ap (λ (l : List Message). p.message ∷ l) (said_fresh ps)

pub said_more : (ms : List Posted) (ps : List Post) → said (ms ++ map fresh ps) ≡ said ms ++ posted ps
said_more ms ps =
    map-append (λ (p : Posted). p.message) ms (map fresh ps) ∙ ap (λ (l : List Message). said ms ++ l) (said_fresh ps)

pub lines_posted : (n : ℕ) (ps : List Post) → sent_lines n ps ≡ message_lines n (posted ps)
unfolding sent_lines message_lines
lines_posted n [] = refl
lines_posted n (p ∷ ps) = ap (λ (l : List Line). sent_line n p.message ∷ l) (lines_posted (n + 1) ps)

-- ---- an act

-- The act of an event is what a step comes to: the world then, before anything is sent, is as the cluster then, and the same
-- is told and given to send.
pub record IsDone (d : Deed) (e : Event) (a : Act) : Type 0 where
  pub same : cluster_of a.world ≡ d.cluster
  pub stored : AreStored a.world.drives
  pub lines : line.Event e ∷ a.told ≡ d.lines
  pub gives : posted a.posts ≡ d.gives
  pub behind : d.behind ≡ []

pub sent_same : (a : Act) → cluster_of (sends_all a).world
    ≡ record (cluster_of a.world) { sent = said a.world.network.messages ++ posted a.posts }
sent_same a =
    ap (λ (l : List Message). record (cluster_of a.world) { sent = l }) (said_more a.world.network.messages a.posts)

pub lines_same : (a : Act) → (sends_all a).lines
    ≡ a.told ++ message_lines (length (said a.world.network.messages)) (posted a.posts)
lines_same a =
    ap (λ (l : List Line). a.told ++ l) (lines_posted (length a.world.network.messages) a.posts)
    ∙ ap (λ (n : ℕ). a.told ++ message_lines n (posted a.posts))
    (sym (length-map a.world.network.messages (λ (p : Posted). p.message)))

-- what it gives, by the act alone
abbrev of_act : Event → Act → Deed
of_act e a = record { cluster = cluster_of a.world; lines = line.Event e ∷ a.told; gives = posted a.posts; behind = [] }

is_of_act : (d : Deed) (e : Event) (a : Act) → IsDone d e a → of_act e a ≡ d
is_of_act d e a i =
    ap (λ (k : Cluster). record (of_act e a) { cluster = k }) i.same
    ∙ ap (λ (l : List Line). record { cluster = d.cluster; lines = l; gives = posted a.posts; behind = [] }) i.lines
    ∙ ap (λ (l : List Message). record { cluster = d.cluster; lines = d.lines; gives = l; behind = [] }) i.gives
    ∙ ap (λ (l : List Line). record { cluster = d.cluster; lines = d.lines; gives = d.gives; behind = l }) (sym i.behind)

-- ---- an event

carries_alone : (w : World) (e : Event) (chosen : List ℕ) → refusal w e ≡ None → rule_of w e ≡ Alone
    → Carries w e (line.Event e ∷ (move w (record { action = Opens e; chosen = chosen })).lines)
    (move w (record { action = Opens e; chosen = chosen })).world
carries_alone w e chosen allowed alone =
    let m : Move = record { action = Opens e; chosen = chosen } in
    record {
      allowed = allowed;
      moves = m ∷ [];
      are_due = (refl, tt);
      over = subst (λ (r : Rule). due (record { opening = None; rule = r }) (move w m).world ≡ None) (sym alone) refl;
      lines_are = ap (λ (l : List Line). line.Event e ∷ l) (sym (append-nil (move w m).lines));
      world_is = refl;
    }

lines_by_act : (e : Event) (a : Act) → line.Event e ∷ (sends_all a).lines ≡ lines_of (of_act e a)
lines_by_act e a =
    ap (λ (l : List Line). line.Event e ∷ l) (lines_same a)
    ∙ ap (λ (l : List Line). line.Event e ∷ (a.told ++ l))
    (sym (append-nil (message_lines (length (said a.world.network.messages)) (posted a.posts))))

-- one event, of one move, is a step
pub event_goes : (w : World) (h : List Line) (e : Event) (chosen : List ℕ) → StandsFor w h → refusal w e ≡ None
    → rule_of w e ≡ Alone → (d : Deed) → IsDone d e (begins w chosen e) → LeadsTo (h ++ lines_of d) (sending d)
event_goes w h e chosen s allowed alone d i =
    let a : Act = begins w chosen e in
    subst (λ (x : Deed). LeadsTo (h ++ lines_of x) (sending x)) (is_of_act d e a i)
    (record {
      world = (sends_all a).world;
      stands =
          subst (λ (l : List Line). StandsFor (sends_all a).world (h ++ l)) (lines_by_act e a)
          (one_event_more w (sends_all a).world h (line.Event e ∷ (sends_all a).lines) e s
          (carries_alone w e chosen allowed alone));
      like = record { same = sent_same a; stored = i.stored };
    })

pub nothing_sent : (n : Network) → with_posts n [] ≡ n
nothing_sent n =
    let same : n.kept + 0 ≡ n.kept = omega arith in
    ap (λ (ms : List Posted). record { messages = ms; kept = n.kept + 0 }) (append-nil n.messages)
    ∙ ap (λ (k : ℕ). record { messages = n.messages; kept = k }) same

-- one that only changes the world
pub event_changes : (w : World) (h : List Line) (e : Event) → StandsFor w h → refusal w e ≡ None → rule_of w e ≡ Alone
    → (v : World) → begins w [] e ≡ record { world = v; told = []; posts = [] } → StandsFor v (h ++ line.Event e ∷ [])
unfolding sent_lines
event_changes w h e s allowed alone v is =
    let a : Act = begins w [] e in
    let there : StandsFor (sends_all a).world (h ++ line.Event e ∷ (sends_all a).lines) =
    one_event_more w (sends_all a).world h (line.Event e ∷ (sends_all a).lines) e s (carries_alone w e [] allowed alone) in
    let moved : StandsFor (record v { network = with_posts v.network [] }) (h ++ line.Event e ∷ []) =
    subst (λ (x : Act). StandsFor (sends_all x).world (h ++ line.Event e ∷ (sends_all x).lines)) is there in
    subst (λ (n : Network). StandsFor (record v { network = n }) (h ++ line.Event e ∷ [])) (nothing_sent v.network) moved

-- ---- a step

-- a line of its own, an event that only changes the world, stands first
pub behind_line : (h : List Line) (l : Line) (d : Deed) → LeadsTo ((h ++ l ∷ []) ++ lines_of d) (sending d)
    → LeadsTo (h ++ lines_of (record d { lines = l ∷ d.lines })) (sending d)
behind_line h l d x = subst (λ (ls : List Line). LeadsTo ls (sending d)) (append_assoc h (l ∷ []) (lines_of d)) x

-- what a step comes to is what it comes to by the cluster's look-ups
pub by_deed : (h : List Line) (k : Cluster) (s : Step) (d : Deed) → deed k s ≡ d → LeadsTo (h ++ lines_of d) (sending d)
    → LeadsTo (h ++ told k s) (after k s)
by_deed h k s d is x = subst (λ (y : Deed). LeadsTo (h ++ lines_of y) (sending y)) (sym is) x
