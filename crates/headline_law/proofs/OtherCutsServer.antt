-- The server that is read off the first lines of a move is the one before the move, if nothing comes to it there, or its step
-- hasn't begun: so is each file.
-- Towards `OthersShowFiles` (`specs/Parts.antt`).
use Rattle.std.proofs.Common.{◌≡◌, ◌⊎◌, ◌<◌, ◌++◌, ℕ, zero, suc, Bool, true, false, List, [], ◌∷◌, take, Option, Some, None, refl, sym, ap, subst, ◌∙◌, inl, inr, append-nil}
use Rattle.std.specs.List.{fold}
use Rattle.std.proofs.lemmas.Option.{same_Some}
use Rattle.scenario_text.specs.declared.line.Line.{Line}
use Rattle.server_rules.specs.Files.{Step as ServerStep, file_at}
use Rattle.server_rules.specs.History.{Input}
use Rattle.world_history.specs.ServerNames.{File, Server}
use Rattle.world_history.specs.State.{World}
use Rattle.world_history.specs.Sending.{Move}
use Rattle.world_history.specs.Reading.{Step, Grouped, grouped, grouped_with, is_head, steps_of}
use Rattle.world_history.specs.Book.{ServerSeen, input_at, placed_in, sees_server, server_behind, server_seen, server_step, step_by}
use Rattle.world_history.specs.Calm.{Seen, first_seen, moment_of, seen}
use Rattle.world_history.specs.Laws.{MomentGoesOn}
use Rattle.history_law.specs.BookMoments.{lines_in}
use Rattle.history_law.specs.Doing.{input_in}
use Rattle.history_law.specs.Read.{BookIsRead, ReadsAs, StepIsRead, server_of}
use Rattle.exchange_law.proofs.CountWorlds.{text_written}
use Rattle.component_law.specs.LeftPending.{PendingIsRead}
use Rattle.component_law.proofs.SeenServer.{seen_server}
use Rattle.fence_law.specs.State.{State}
use Rattle.file_simulation.specs.Cuts.{lines_before}
use Rattle.file_simulation.proofs.Fronts.{Begun, NoLine, Headed, move_begun}
use Rattle.file_simulation.proofs.Fronts.Begun.{Pending as LeftPending}
use Rattle.relation_law.specs.Steps.{Follows}
use Rattle.headline_law.specs.Parts.{OthersShowFiles, lines_to}
use Rattle.headline_law.proofs.CalmCodes.{server_seen_is, server_shown, server_there}
use Rattle.headline_law.proofs.MarksQuiet.{early_cuts_keep_marks}

-- ---- laws of histories

pub record ReadCutLaws : Type 0 where
  pub book : BookIsRead
  pub reads : StepIsRead
  pub moments : MomentGoesOn
  pub pending : PendingIsRead

-- ---- the steps of first lines

-- They are the first of these steps, and the last of them may end earlier.
abbrev AreFirstSteps : List Step → List Step → Type 0
AreFirstSteps [] us = Unit {0}
AreFirstSteps (t ∷ ts) [] = ⊥
AreFirstSteps (t ∷ ts) (u ∷ us) = (t.head ≡ u.head) × ((t ≡ u) ⊎ (ts ≡ [])) × AreFirstSteps ts us

-- So are steps, and the lines before them are the same unless there is no step.
abbrev IsFront : Grouped → Grouped → Type 0
IsFront g k = AreFirstSteps g.steps k.steps × ((g.loose ≡ k.loose) ⊎ (g.steps ≡ []))

with_line : (b : Bool) (l : Line) (g k : Grouped) → IsFront g k → IsFront (grouped_with b l g) (grouped_with b l k)
with_line true l g k c = (
  (
    refl,
    elim c.1 [ inl e ↦ inl (ap (λ (ls : List Line). record { head = l; rest = ls }) e) | inr e ↦ inr e ],
    c.0,
  ),
  inl refl,
)
with_line false l g k c = (
  c.0,
  elim c.1 [ inl e ↦ inl (ap (λ (ls : List Line). l ∷ ls) e) | inr e ↦ inr e ],
)

front_steps : (n : ℕ) (ls : List Line) → IsFront (grouped (take n ls)) (grouped ls)
unfolding grouped
front_steps zero ls = (tt, inr refl)
front_steps (suc n) [] = (tt, inl refl)
front_steps (suc n) (l ∷ ls) = with_line (is_head l) l (grouped (take n ls)) (grouped ls) (front_steps n ls)

-- ---- steps in which the server does nothing

none_comes : (s : ServerSeen) (t : Step) → server_step s t ≡ None → input_at s t.head ≡ None
none_comes s t none = by (input_at s t.head) none
  where
    by : (o : Option Input) → step_by s.server (placed_in t.rest) o ≡ None → o ≡ None
    by None e = refl
    by (Some i) e = absurd (cc e)

-- a step with the same head leaves the server too
leaves : (s : ServerSeen) (t u : Step) → t.head ≡ u.head → server_step s u ≡ None → (sees_server s t).server ≡ s.server
leaves s t u same none =
    ap (λ (o : Option Input). server_behind s.server (step_by s.server (placed_in t.rest) o))
    (ap (input_at s) same ∙ none_comes s u none)

all_leave : (s : ServerSeen) (ts us : List Step) → AreFirstSteps ts us → ReadsAs s None us →
    (fold sees_server s ts).server ≡ s.server
all_leave s [] us c r = refl
all_leave s (t ∷ ts) [] c r = absurd c
all_leave s (t ∷ []) (u ∷ []) c r = leaves s t u c.0 r
all_leave s (t ∷ v ∷ ts) (u ∷ []) c r = absurd c.2
all_leave s (t ∷ []) (o ∷ u ∷ []) c r = leaves s t o c.0 r.0.nothing
all_leave s (t ∷ v ∷ []) (o ∷ u ∷ []) c r = elim c.1 [
  | inr none ↦ absurd (cc none)
  | inl same ↦
      leaves (sees_server s t) v u c.2.0
      (subst (λ (x : Step). server_step (sees_server s x) u ≡ None) (sym same) r.1)
      ∙ leaves s t o c.0 r.0.nothing
]
all_leave s (t ∷ v ∷ x ∷ ts) (o ∷ u ∷ []) c r = absurd c.2.2
all_leave s (t ∷ ts) (o ∷ u ∷ y ∷ us) c r = absurd r

-- ---- a move in which nothing comes to the server

module _ (laws : ReadCutLaws) (w : World) (h : List Line) (m : Move) (count : ℕ) (f g : File) (s : State)
    (k : Follows w h m count f g s) (nothing : input_in w m.action ≡ None) where
  abbrev cut : List Line
  cut = take count (lines_in w m)

  here : (seen h).server ≡ server_of w
  here = server_seen_is laws.book w h m count f g s k

  reads : ReadsAs (seen h).server None (steps_of (lines_in w m))
  reads =
      subst (λ (x : ServerSeen). ReadsAs x None (steps_of (lines_in w m))) (sym (seen_server first_seen (steps_of h)))
      (subst (λ (o : Option ServerStep). ReadsAs (server_seen h) o (steps_of (lines_in w m)))
      (ap (step_by w.server m.chosen) nothing)
      (laws.reads w h k.moment m k.is_due (text_written (h ++ lines_in w m) k.text)))

  begun : Begun cut → (moment_of (h ++ cut)).server ≡ w.server
  begun (NoLine e) =
      ap (λ (ls : List Line). (moment_of (h ++ ls)).server) e
      ∙ ap (λ (ls : List Line). (moment_of ls).server) (append-nil h) ∙ server_there laws.book w h m count f g s k
  begun (LeftPending c j e) =
      ap (λ (ls : List Line). (moment_of (h ++ ls)).server) e
      ∙ ap (λ (x : Seen). x.moment.server) (laws.pending h c j) ∙ server_there laws.book w h m count f g s k
  begun (Headed b) =
      ap (λ (x : Seen). x.moment.server) (laws.moments h cut b)
      ∙ server_shown (seen h) (steps_of cut) (server_shown first_seen (steps_of h) refl)
      ∙ ap (λ (x : ServerSeen). x.server) (seen_server (seen h) (steps_of cut))
      ∙ all_leave (seen h).server (steps_of cut) (steps_of (lines_in w m)) (front_steps count (lines_in w m)).0 reads
      ∙ ap (λ (x : ServerSeen). x.server) here

  nothing_comes : (moment_of (lines_to w h m count)).server ≡ w.server
  nothing_comes = begun (move_begun w m count)

-- ---- files

-- The server of the moment is the world's.
pub other_server : ReadCutLaws → (w : World) (h : List Line) (m : Move) (count : ℕ) (f g : File) (s : State) →
    Follows w h m count f g s → (input_in w m.action ≡ None) ⊎ (count < lines_before m.action) →
    (moment_of (lines_to w h m count)).server ≡ w.server
other_server laws w h m count f g s k (inl nothing) = nothing_comes laws w h m count f g s k nothing
other_server laws w h m count f g s k (inr early) = by (input_in w m.action) refl
  where
    by : (o : Option Input) → input_in w m.action ≡ o → (moment_of (lines_to w h m count)).server ≡ w.server
    by None is = nothing_comes laws w h m count f g s k is
    by (Some i) is = (early_cuts_keep_marks laws.book laws.moments w h m count f g s k i is early).1

pub others_show_files : ReadCutLaws → OthersShowFiles
others_show_files laws w h m count f g s k other x there =
    same_Some x f
    (sym there ∙ ap (λ (y : Server). file_at y.files f.kept.number) (other_server laws w h m count f g s k other) ∙ k.there)
