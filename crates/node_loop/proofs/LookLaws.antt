-- One connection, after one step more.
use Rattle.std.proofs.Common.{◌≡◌, ℕ, ◌+◌, ◌-◌, ◌^◌, Bool, true, false, min, nat_eq, if◌then◌else◌, List, ◌∷◌, Option, None, Some, refl, sym, ap, subst, ◌∙◌, arith}
use Rattle.std.proofs.lemmas.Bool.{eqb-true}
use Rattle.osd_lists.specs.declared.node.Node.{Node}
use Rattle.node_loop.specs.Nodes.{Held}
use Rattle.node_loop.specs.Points.{IsAs, IsKept, IsReading, Look, Reading, blank, is_of_others, look, over_after}
use Rattle.node_loop.specs.Serving.{HasHeard, HearsAll}
use Rattle.node_loop.specs.Rules.{rules_of}
use Rattle.node_loop.specs.Steps.{Step, state_in}
use Rattle.node_loop.specs.Steps.Step.{Happens, Hears, Resends, Posts, Loses}
use Rattle.node_loop.specs.declared.party.Party.{Ghosts}
use Rattle.port_loop.specs.Serving.{Desk}
use Rattle.port_loop.specs.declared.ports.Happening.TheVariants.{Began, Opened, Refused, Came, Went, Failed, Drained, Ended, Closed, Passed}

-- the step is about this connection
abbrev pub is_about : {C : Type 0} → Step C → ℕ → Bool
is_about (Happens (Began p)) q = nat_eq p q
is_about (Happens (Opened p to)) q = nat_eq p q
is_about (Happens (Refused to)) q = false
is_about (Happens (Came p bytes)) q = nat_eq p q
is_about (Happens (Went p bytes full)) q = nat_eq p q
is_about (Happens (Failed p)) q = nat_eq p q
is_about (Happens (Drained p)) q = nat_eq p q
is_about (Happens (Ended p)) q = nat_eq p q
is_about (Happens (Closed p)) q = nat_eq p q
is_about (Happens Passed) q = false
is_about (Hears h) q = false
is_about Resends q = false
is_about (Posts p m) q = nat_eq p q
is_about (Loses m) q = false

pub look-other : {C : Type 0} (q : ℕ) (x : Step C) (steps : List (Step C)) → is_about x q ≡ false
    → look q (x ∷ steps) ≡ look q steps
look-other q (Happens (Began p)) steps ne = rw ne refl
look-other q (Happens (Opened p to)) steps ne = rw ne refl
look-other q (Happens (Refused to)) steps ne = refl
look-other q (Happens (Came p bytes)) steps ne = rw ne refl
look-other q (Happens (Went p bytes full)) steps ne = rw ne refl
look-other q (Happens (Failed p)) steps ne = refl
look-other q (Happens (Drained p)) steps ne = rw ne refl
look-other q (Happens (Ended p)) steps ne = rw ne refl
look-other q (Happens (Closed p)) steps ne = rw ne refl
look-other q (Happens Passed) steps ne = refl
look-other q (Hears h) steps ne = refl
look-other q Resends steps ne = refl
look-other q (Posts p m) steps ne = rw ne refl
look-other q (Loses m) steps ne = refl

pub either-way : {P : Type 0} (b : Bool) → (b ≡ true → P) → (b ≡ false → P) → P
either-way true f g = f refl
either-way false f g = g refl

-- of one connection, by its number
pub by-number : (P : ℕ → Type 0) (p : ℕ) → P p → (q : ℕ) → nat_eq p q ≡ true → P q
by-number P p here q e = subst P (eqb-true p q e) here

-- ---- what is kept of it

pub kept : (l : Look) (o : Option Held) (s : Held) → o ≡ Some s → IsAs l o → IsKept l s
kept l o s e h = subst (λ (x : Option Held). IsAs l x) e h

pub keeps : (l : Look) (o : Option Held) (s : Held) → o ≡ Some s → IsKept l s → IsAs l o
keeps l o s e h = subst (λ (x : Option Held). IsAs l x) (sym e) h

pub keeps-none : (l : Look) (o : Option Held) → o ≡ None → (l.stands ≡ false) × (l.guest ≡ false) → IsAs l o
keeps-none l o e h = subst (λ (x : Option Held). IsAs l x) (sym e) h

-- an open connection isn't among those whose numbers weren't given
pub apart : {C : Type 0} (steps : List (Step C)) (p q : ℕ) → (look p steps).stands ≡ true → look q steps ≡ blank
    → nat_eq p q ≡ false
apart {C} steps p q stands unused =
    either-way (nat_eq p q) (λ e. absurd (cc (sym (by-number (λ r. (look r steps).stands ≡ true) p stands q e)
    ∙ ap (λ (l : Look). l.stands) unused))) (λ ne. ne)

-- ---- the connection of which a piece was read

pub reading-on : {C : Type 0} (x : Step C) (steps : List (Step C)) (r : Option Reading)
    → ((q : ℕ) → is_about x q ≡ true → (look q steps).known ≡ true
    → ((look q (x ∷ steps)).known ≡ true) × ((look q (x ∷ steps)).asked ≡ (look q steps).asked))
    → IsReading steps r → IsReading (x ∷ steps) r
reading-on x steps None stays h = tt
reading-on x steps (Some r) stays h =
    either-way (is_about x r.port)
    (λ e. let s = stays r.port e h.0 in (s.0, s.1 ∙ h.1))
    (λ ne. (
      ap (λ (l : Look). l.known) (look-other r.port x steps ne) ∙ h.0,
      ap (λ (l : Look). l.asked) (look-other r.port x steps ne) ∙ h.1,
    ))

-- ---- records that were heard, and connections that are over

pub heard-on : {H : Type 0} {v : Ghosts H} {first : v.State} {since d e : Desk H} {old new : List (Step v.Choice)}
    → HasHeard v first since d old → e ≡ d → (HearsAll v since old d → HearsAll v since new d)
    → state_in (rules_of v) first new ≡ state_in (rules_of v) first old → HasHeard v first since e new
heard-on {H} {v} {first} {since} {d} {e} {old} {new} h same more state = record {
  desk = subst (λ (x : Desk H). HearsAll v since new x) (sym same) (more h.desk);
  state = ap (λ (x : Desk H). v.state x.handler) same ∙ h.state ∙ sym state;
}

pub over-more : (to : Option Node) (n m k : ℕ) (guest : Bool) → guest ≡ is_of_others to → n ≡ min k (2 ^ 64 - 1)
    → m ≡ over_after to n → m ≡ min (if guest then k + 1 else k) (2 ^ 64 - 1)
over-more None n m k guest e old new = rw e (omega (arith, old, new))
over-more (Some to) n m k guest e old new = rw e (new ∙ old)
