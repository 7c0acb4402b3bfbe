-- The server that is read off the lines of a history.
use Rattle.std.proofs.Common.{◌≡◌, ℕ, ◌∷◌, [], List, Bool, true, false, Option, Some, None, refl}
use Rattle.std.specs.List.{fold}
use Rattle.scenario_text.specs.declared.line.Line.{Line}
use Rattle.server_rules.specs.History.{Input}
use Rattle.world_history.specs.ServerNames.{Server}
use Rattle.world_history.specs.Reading.{is_head, Step, Grouped, grouped_with, grouped, steps_of}
use Rattle.world_history.specs.Book.{input_at, step_by, placed_in, server_behind, sees_server}
use Rattle.world_history.specs.Calm.{Seen, seen, sees, first_seen}
use Rattle.component_law.specs.Words.{Each}
use Rattle.component_law.specs.Naming.{IsNamed, AreNamed, IsNamedInput}
use Rattle.component_law.specs.Sound.{IsSound}
use Rattle.component_law.specs.Seeing.{SeenIsSound}
use Rattle.component_law.proofs.Making.{each_step_is_sound}
use Rattle.component_law.proofs.FileFacts.{named_input}

pub seen_server : (s : Seen) (ts : List Step) → (fold sees s ts).server ≡ fold sees_server s.server ts
seen_server s [] = refl
seen_server s (t ∷ ts) = seen_server (sees s t) ts

step_sound : (s : Server) (placed : List ℕ) (o : Option Input) → IsSound s → ((i : Input) → o ≡ Some i → IsNamedInput i)
    → IsSound (server_behind s (step_by s placed o))
step_sound s placed None h named = h
step_sound s placed (Some i) h named = each_step_is_sound s placed i h (named i refl)

-- what holds of what is seen
abbrev pub Reads : Seen → Type 0
Reads s = (s.moment.server ≡ s.server.server) × IsSound s.server.server

reads_on : (s : Seen) (t : Step) → IsNamed t.head → Reads s → Reads (sees s t)
reads_on s t named h = (
  refl,
  step_sound s.server.server (placed_in t.rest) (input_at s.server t.head) h.1
      (λ i e. named_input s.server t.head i e named),
)

reads_all : (s : Seen) (ts : List Step) → Each (λ (t : Step). IsNamed t.head) ts → Reads s → Reads (fold sees s ts)
reads_all s [] named h = h
reads_all s (t ∷ ts) named h = reads_all (sees s t) ts named.1 (reads_on s t named.0 h)

heads_with : (b : Bool) (l : Line) (g : Grouped) → IsNamed l → Each (λ (t : Step). IsNamed t.head) g.steps
    → Each (λ (t : Step). IsNamed t.head) (grouped_with b l g).steps
heads_with true l g n h = (n, h)
heads_with false l g n h = h

heads_named : (h : List Line) → AreNamed h → Each (λ (t : Step). IsNamed t.head) (grouped h).steps
unfolding grouped
heads_named [] n = tt
heads_named (l ∷ ls) n = heads_with (is_head l) l (grouped ls) n.0 (heads_named ls n.1)

pub seen_reads : (h : List Line) → AreNamed h → Reads (seen h)
seen_reads h n = reads_all first_seen (steps_of h) (heads_named h n)
    (refl, record { distinct = tt; components = tt; aimed = tt; files = tt; drives = tt })

pub seen_is_sound : SeenIsSound
seen_is_sound h n = (seen_reads h n).1
