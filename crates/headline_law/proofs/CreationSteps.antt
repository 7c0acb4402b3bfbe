-- The files that are read off further lines: those that were there stay, and a file comes with an event that makes it.
-- Towards `EachCreationIsShown` (`file_simulation/specs/Simulation.antt`) and `NoneIsLogged` (`specs/Conclusion.antt` there).
use Rattle.std.proofs.Common.{◌≡◌, ◌++◌, ℕ, Bool, true, false, List, [], ◌∷◌, Option, Some, None, slice_get, refl, ap, ◌∙◌}
use Rattle.std.specs.List.{fold}
use Rattle.std.proofs.lemmas.List.{append-nil}
use Rattle.scenario_text.specs.declared.event.Event.{Event}
use Rattle.scenario_text.specs.declared.event.Event.TheVariants as event
use Rattle.scenario_text.specs.declared.event.Machine.TheVariants as machine
use Rattle.scenario_text.specs.declared.line.Delivery.TheVariants as delivery
use Rattle.scenario_text.specs.declared.line.Line.{Line}
use Rattle.scenario_text.specs.declared.line.Line.TheVariants as line
use Rattle.scenario_text.specs.declared.line.Party.{Party}
use Rattle.scenario_text.specs.declared.line.Party.TheVariants as party
use Rattle.server_rules.specs.Envelopes.{message_in}
use Rattle.server_rules.specs.Files.{file_at}
use Rattle.server_rules.specs.History.{Input, Makes, step}
use Rattle.server_rules.specs.Messages.{Message}
use Rattle.world_history.specs.declared.messages.Sent.{Sent}
use Rattle.world_history.specs.ServerNames.{Server, File}
use Rattle.world_history.specs.Spelled.{node_of}
use Rattle.world_history.specs.Reading.{Step, Grouped, grouped_with, is_head, grouped, steps_of}
use Rattle.world_history.specs.Book.{ServerSeen, input_of, input_at, heard_from, heard_for, heard, step_by, server_behind, placed_in, sees_server}
use Rattle.world_history.specs.Calm.{Seen, seen}
use Rattle.world_history.specs.Laws.{MomentGoesOn}
use Rattle.component_law.specs.LeftPending.{PendingIsRead}
use Rattle.component_law.specs.Going.{IsMaking, EachStepTells}
use Rattle.component_law.specs.Naming.{IsNamed, IsNamedInput}
use Rattle.component_law.specs.Distinct.{AreDistinct}
use Rattle.component_law.specs.Sound.{IsSound, EachStepIsSound}
use Rattle.component_law.specs.Words.{Each}
use Rattle.component_law.proofs.FileFacts.{named_input}
use Rattle.component_law.proofs.SeenServer.{seen_server}
use Rattle.file_simulation.proofs.Fronts.{Begun, NoLine, Pending, Headed}
use Rattle.relation_law.proofs.FramesFiles.{step_stays}
use Rattle.headline_law.proofs.BirthAnswers.{IsFile}

-- ---- the heads of steps

heads_with : (P : Line → Type 0) (b : Bool) (l : Line) (g : Grouped) → P l → Each (λ (t : Step). P t.head) g.steps →
    Each (λ (t : Step). P t.head) (grouped_with b l g).steps
heads_with P true l g own all = (own, all)
heads_with P false l g own all = all

-- what holds of each line holds of the head of each step
heads_each : (P : Line → Type 0) (ls : List Line) → Each P ls → Each (λ (t : Step). P t.head) (steps_of ls)
unfolding grouped
heads_each P [] all = tt
heads_each P (l ∷ ls) all = heads_with P (is_head l) l (grouped ls) all.0 (heads_each P ls all.1)

-- What is read of the server behind further lines: it goes on over some of their steps.
pub record GoesOver (P : Line → Type 0) (h ls : List Line) : Type 0 where
  pub steps : List Step
  pub heads : Each (λ (t : Step). P t.head) steps
  pub server : (seen (h ++ ls)).server ≡ fold sees_server (seen h).server steps

pub goes_over : MomentGoesOn → PendingIsRead → (P : Line → Type 0) (h ls : List Line) → Begun ls → Each P ls → GoesOver P h ls
goes_over moments pending P h ls (NoLine e) all = record {
  steps = [];
  heads = tt;
  server = ap (λ (xs : List Line). (seen (h ++ xs)).server) e ∙ ap (λ (xs : List Line). (seen xs).server) (append-nil h);
}
goes_over moments pending P h ls (Pending c k e) all = record {
  steps = [];
  heads = tt;
  server = ap (λ (xs : List Line). (seen (h ++ xs)).server) e ∙ ap (λ (s : Seen). s.server) (pending h c k);
}
goes_over moments pending P h ls (Headed b) all = record {
  steps = steps_of ls;
  heads = heads_each P ls all;
  server = ap (λ (s : Seen). s.server) (moments h ls b) ∙ seen_server (seen h) (steps_of ls);
}

-- ---- files stay

step_has : (s : Server) (placed : List ℕ) (n : ℕ) (o : Option Input) → AreDistinct s.files → IsFile s n →
    AreDistinct (server_behind s (step_by s placed o)).files × IsFile (server_behind s (step_by s placed o)) n
step_has s placed n None distinct has = (distinct, has)
step_has s placed n (Some i) distinct has =
    let r = step_stays s placed i distinct in (r.0, r.2 n has.0 has.1)

pub files_stay : (n : ℕ) (s : ServerSeen) (ts : List Step) → AreDistinct s.server.files → IsFile s.server n →
    IsFile (fold sees_server s ts).server n
files_stay n s [] distinct has = has
files_stay n s (t ∷ ts) distinct has =
    let r = step_has s.server (placed_in t.rest) n (input_at s t.head) distinct has in
    files_stay n (sees_server s t) ts r.0 r.1

-- ---- files come

-- the line of an event that makes no file, or any other line
abbrev pub MakesNone : Line → Type 0
MakesNone (line.Event (event.File f m tag)) = ⊥
MakesNone (line.Event (event.ZonedFile f m tag)) = ⊥
MakesNone l = Unit {0}

-- what comes to the server makes no file
abbrev NoMaking : Option Input → Type 0
NoMaking None = Unit {0}
NoMaking (Some (Makes n m tag zoned)) = ⊥
NoMaking (Some i) = Unit {0}

event_none : (e : Event) → MakesNone (line.Event e) → NoMaking (input_of e)
event_none (event.File f m tag) none = absurd none
event_none (event.ZonedFile f m tag) none = absurd none
event_none (event.Zone d zone) none = tt
event_none (event.Drive d key capacity) none = tt
event_none (event.Disk d key capacity) none = tt
event_none (event.Format format) none = tt
event_none (event.Recall f) none = tt
event_none (event.Revoke f) none = tt
event_none (event.Rebuild f) none = tt
event_none (event.Audit f) none = tt
event_none (event.Declare d) none = tt
event_none (event.Crash machine.Server) none = tt
event_none (event.Reopen machine.Server) none = tt
event_none e none = tt

from_none : (now : ℕ) (p : Party) (o : Option Message) → NoMaking (heard_from now p o)
from_none now p None = tt
from_none now p (Some x) = tt

for_none : (now : ℕ) (s : Sent) (to : Party) → NoMaking (heard_for now s to)
for_none now s party.Server = from_none now s.from (message_in (node_of s.from) s.bytes)
for_none now s (party.Drive d) = tt
for_none now s (party.Client c) = tt

heard_none : (now : ℕ) (o : Option Sent) → NoMaking (heard now o)
heard_none now None = tt
heard_none now (Some s) = for_none now s s.to

line_none : (s : ServerSeen) (l : Line) → MakesNone l → NoMaking (input_at s l)
line_none s (line.Event e) none = event_none e none
line_none s (line.Delivered number delivery.Deaf) none = tt
line_none s (line.Delivered number d) none = heard_none s.clock (slice_get s.sent number)
line_none s l none = tt

not_making : (n : ℕ) (i : Input) → NoMaking (Some i) → IsMaking i n → ⊥
not_making n (Makes k m tag zoned) none making = none
not_making n i none making = making

module _ (tells : EachStepTells) (each_sound : EachStepIsSound) (n : ℕ) where
  -- a step in which a file comes makes it
  pub comes_making : (s : Server) (placed : List ℕ) (i : Input) → IsSound s → IsNamedInput i → (f : File) →
      file_at s.files n ≡ None → file_at (step s placed i).state.files n ≡ Some f → IsMaking i n
  comes_making s placed i sound named f absent there =
      let goes = tells s placed i sound named n in rw (absent, there) at goes

  still_none : (s : Server) (placed : List ℕ) (i : Input) → IsSound s → IsNamedInput i → NoMaking (Some i) →
      file_at s.files n ≡ None → (o : Option File) → file_at (step s placed i).state.files n ≡ o →
      file_at (step s placed i).state.files n ≡ None
  still_none s placed i sound named none absent None is = is
  still_none s placed i sound named none absent (Some f) is =
      absurd (not_making n i none (comes_making s placed i sound named f absent is))

  -- so none comes in steps that make none
  step_none : (s : ServerSeen) (t : Step) (o : Option Input) → input_at s t.head ≡ o → IsSound s.server → IsNamed t.head →
      NoMaking o → file_at s.server.files n ≡ None →
      IsSound (server_behind s.server (step_by s.server (placed_in t.rest) o))
      × (file_at (server_behind s.server (step_by s.server (placed_in t.rest) o)).files n ≡ None)
  step_none s t None is sound named none absent = (sound, absent)
  step_none s t (Some i) is sound named none absent =
      let name = named_input s t.head i is named in (
        each_sound s.server (placed_in t.rest) i sound name,
        still_none s.server (placed_in t.rest) i sound name none absent _ refl,
      )

  pub none_comes : (s : ServerSeen) (ts : List Step) → IsSound s.server → Each (λ (t : Step). IsNamed t.head) ts →
      Each (λ (t : Step). MakesNone t.head) ts → file_at s.server.files n ≡ None →
      file_at (fold sees_server s ts).server.files n ≡ None
  none_comes s [] sound named none absent = absent
  none_comes s (t ∷ ts) sound named none absent =
      let r = step_none s t (input_at s t.head) refl sound named.0 (line_none s t.head none.0) absent in
      none_comes (sees_server s t) ts r.0 named.1 none.1 r.1
