-- How a loop goes by one step more.
use Rattle.std.proofs.Common.{◌≡◌, ◌<◌, ◌≤◌, ℕ, ◌-◌, ◌^◌, true, false, min, nat_eq, List, ◌∷◌, ◌++◌, Option, sym, subst, ◌∙◌, arith}
use Rattle.osd_lists.specs.declared.node.Node.{Node}
use Rattle.node_loop.specs.Nodes.{Held}
use Rattle.node_loop.specs.Points.{CanRead, Goes, Here, IsAs, IsReading, Look, Rests, Work, blank, is_at, is_read, look}
use Rattle.node_loop.specs.Serving.{HasHeard}
use Rattle.node_loop.specs.Rules.{rules_of}
use Rattle.node_loop.specs.Steps.{Follows, Step, happened, heard_in, is_due, waiting_in, way_to}
use Rattle.node_loop.specs.declared.party.Party.{Ghosts}
use Rattle.port_loop.specs.Ports.{over_in}
use Rattle.port_loop.specs.Serving.{Desk}
use Rattle.port_loop.specs.Steps.{taken_in}
use Rattle.node_loop.proofs.LookLaws.{apart, by-number, either-way, is_about, look-other}

-- what is to be shown of one step more
pub record GoesBy {H : Type 0} (v : Ghosts H) (first : v.State) (since : Desk H) (a b : Here H) (w y : Work)
    (steps : List (Step v.Choice)) (x : Step v.Choice) : Type 0 where
  pub follows : Follows (rules_of v) first x steps
  pub heard : HasHeard v first since b.desk (x ∷ steps)
  pub taken : taken_in (happened (x ∷ steps)) ≡ heard_in (x ∷ steps) ++ y.pending
  pub waiting : waiting_in (rules_of v) first (x ∷ steps) ≡ y.waiting
  pub due : is_due (x ∷ steps) ≡ y.due
  pub over : b.over ≡ min (over_in (happened (x ∷ steps))) (2 ^ 64 - 1)
  pub ways : (n : Node) → way_to n (x ∷ steps) ≡ b.ways n
  pub read : IsReading (x ∷ steps) y.reading
  pub here : (q : ℕ) → is_about x q ≡ true → IsAs (look q (x ∷ steps)) (b.at q)
  pub reads : (q : ℕ) → is_about x q ≡ true → is_read y.reading q ≡ false → CanRead (b.at q)
  pub rests : (q : ℕ) → is_about x q ≡ true → is_at y.writing q ≡ false → Rests (b.at q)
  pub there : (q : ℕ) → is_about x q ≡ false → b.at q ≡ a.at q
  pub still_read : (q : ℕ) → is_about x q ≡ false → is_read y.reading q ≡ false → is_read w.reading q ≡ false
  pub still_put : (q : ℕ) → is_about x q ≡ false → is_at y.writing q ≡ false → is_at w.writing q ≡ false
  pub unused : (q : ℕ) → b.opened ≤ q → look q (x ∷ steps) ≡ blank

pub goes-by : {H : Type 0} {v : Ghosts H} {first : v.State} {since : Desk H} {a b : Here H} {w y : Work}
    {steps : List (Step v.Choice)} {x : Step v.Choice} → Goes v first since a w steps
    → GoesBy v first since a b w y steps x → Goes v first since b y (x ∷ steps)
goes-by {H} {v} {first} {since} {a} {b} {w} {y} {steps} {x} g s = record {
  lawful = (s.follows, g.lawful);
  heard = s.heard;
  taken = s.taken;
  waiting = s.waiting;
  due = s.due;
  over = s.over;
  ways = s.ways;
  each = λ q. either-way (is_about x q) (s.here q) (λ ne.
      subst (λ (l : Look). IsAs l (b.at q)) (sym (look-other q x steps ne))
      (subst (λ (o : Option Held). IsAs (look q steps) o) (sym (s.there q ne)) (g.each q)));
  read = s.read;
  reads = λ q free. either-way (is_about x q) (λ e. s.reads q e free) (λ ne.
      subst (λ (o : Option Held). CanRead o) (sym (s.there q ne)) (g.reads q (s.still_read q ne free)));
  rests = λ q free. either-way (is_about x q) (λ e. s.rests q e free) (λ ne.
      subst (λ (o : Option Held). Rests o) (sym (s.there q ne)) (g.rests q (s.still_put q ne free)));
  unused = s.unused;
}

-- ---- what a loop that goes shows

-- of a step that is about one open connection, the others' numbers that weren't given stay so
pub unused-on : {C : Type 0} (p : ℕ) (x : Step C) (steps : List (Step C)) → (look p steps).stands ≡ true
    → ((q : ℕ) → nat_eq p q ≡ false → is_about x q ≡ false) → (q : ℕ) → look q steps ≡ blank → look q (x ∷ steps) ≡ blank
unused-on {C} p x steps stands about q u = look-other q x steps (about q (apart steps p q stands u)) ∙ u

-- of a step about a connection whose number was given
pub unused-below : {C : Type 0} (p n : ℕ) (x : Step C) (steps : List (Step C)) → p < n
    → ((q : ℕ) → nat_eq p q ≡ false → is_about x q ≡ false) → (q : ℕ) → n ≤ q → look q steps ≡ blank → look q (x ∷ steps) ≡ blank
unused-below p n x steps less about q above u =
    look-other q x steps (about q (either-way (nat_eq p q)
    (λ e. absurd (by-number (λ r. n ≤ r → ⊥) p (λ (l : n ≤ p). omega (arith, l, less)) q e above)) (λ ne. ne))) ∙ u
