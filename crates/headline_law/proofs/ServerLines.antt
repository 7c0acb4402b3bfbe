-- A step of the server line by line: if the events of each line can happen where those before it did and the run is calm, then
-- those of the first lines can, as long as the run stays calm.
use Rattle.std.proofs.Common.{◌≡◌, ℕ, zero, suc, ◌+◌, ◌≤◌, List, [], ◌∷◌, ◌++◌, take, Some, refl, sym, ap, subst, arith}
use Rattle.layout_ops.specs.declared.messages.Answer.{Answer}
use Rattle.server_rules.specs.Answers.{recalls_from}
use Rattle.server_rules.specs.Files.{Step, to_drives}
use Rattle.server_rules.specs.History.{Input}
use Rattle.world_history.specs.ServerNames.{Server, File, Drive, Grant, Awaited, Note, Outgoing, Answers}
use Rattle.world_history.specs.State.{World}
use Rattle.fence_law.specs.State.{State, Event}
use Rattle.fence_law.specs.Machine.{Lawful, after_all}
use Rattle.file_simulation.specs.EventLists.{Lines}
use Rattle.file_simulation.specs.Events.{joined}
use Rattle.file_simulation.specs.ServerEvents.{answered_to, sends_all, notes_all, noted, at_first, server_goes}
use Rattle.file_simulation.specs.Showing.{IsRun}
use Rattle.relation_law.specs.KeptSteps.{notes_events, behind_notes}
use Rattle.relation_law.proofs.KeptNotes.{after_both, lawful_both}
use Rattle.headline_law.specs.ServerLines.{MayGo, NotesMay}

-- ---- up to a line

-- the run is calm up to each of the first n lines whose events can happen
abbrev pub StaysRun : State → Lines → (n : ℕ) → Type 0
StaysRun s ls n = (k : ℕ) → k ≤ n → Lawful s (joined (take k ls)) → IsRun (after_all s (joined (take k ls)))

pub may_take : (s : State) (ls : Lines) (n : ℕ) → (IsRun s → MayGo s ls) → StaysRun s ls n → Lawful s (joined (take n ls))
unfolding MayGo
may_take s ls zero m runs = tt
may_take s [] (suc n) m runs = tt
may_take s (es ∷ ls) (suc n) m runs =
    let d = m (runs 0 (omega arith) tt) in
    lawful_both s es (joined (take n ls)) d.0
    (may_take (after_all s es) ls n d.1
    (λ k low l.
    subst IsRun (after_both s es (joined (take k ls)))
    (runs (suc k) (omega (arith, low)) (lawful_both s es (joined (take k ls)) d.0 l))))

-- ---- lines without events

-- a line of none before others
pub led_go : (s : State) (ls : Lines) → MayGo s ls → MayGo s ([] ∷ ls)
unfolding MayGo
led_go s ls m = (tt, λ r. m)

-- ---- the notes of a step, and what it sends

-- the notes behind the first one
later_notes : (t : State) (w : World) (f : File) (i : Input) (n : Note) (ns : List Note) → NotesMay t w f i (n ∷ ns)
    → Lawful t (noted t w f i n) → NotesMay (after_all t (noted t w f i n)) w f i ns
unfolding notes_events
later_notes t w f i n ns may law before x after is lawful run =
    let u : State = after_all t (noted t w f i n) in
    let same : after_all t (noted t w f i n ++ notes_events u w f i before) ≡ behind_notes u w f i before =
    after_both t (noted t w f i n) (notes_events u w f i before) in
    subst (λ (z : State). Lawful z (noted z w f i x)) same
    (may (n ∷ before) x after (ap (λ (l : List Note). n ∷ l) is)
    (lawful_both t (noted t w f i n) (notes_events u w f i before) law lawful)
    (subst IsRun (sym same) run))

pub notes_go : (t : State) (w : World) (f g : File) (i : Input) (os : List Outgoing) (ns : List Note) → NotesMay t w f i ns
    → (Lawful t (notes_events t w f i ns) → IsRun (behind_notes t w f i ns)
    → MayGo (behind_notes t w f i ns) (sends_all (behind_notes t w f i ns) w.server g i os))
    → IsRun t → MayGo t (notes_all t w f g i os ns)
unfolding MayGo notes_events notes_all
notes_go t w f g i os [] may sends run = sends tt run
notes_go t w f g i os (n ∷ ns) may sends run =
    let law : Lawful t (noted t w f i n) = may [] n ns refl tt run in
    let u : State = after_all t (noted t w f i n) in (
      law,
      notes_go u w f g i os ns (later_notes t w f i n ns may law)
          (λ l q.
          let same : after_all t (noted t w f i n ++ notes_events u w f i ns) ≡ behind_notes u w f i ns =
          after_both t (noted t w f i n) (notes_events u w f i ns) in
          subst (λ (z : State). MayGo z (sends_all z w.server g i os)) same
          (sends (lawful_both t (noted t w f i n) (notes_events u w f i ns) law l) (subst IsRun (sym same) q))),
    )

-- commands and recalls have no events
pub drives_go : (s : State) (server : Server) (g : File) (i : Input) (ds : List Drive) (cs : List Awaited) (os : List Outgoing)
    → MayGo s (sends_all s server g i os) → MayGo s (sends_all s server g i (to_drives ds cs ++ os))
unfolding MayGo sends_all
drives_go s server g i ds [] os m = m
drives_go s server g i ds (c ∷ cs) os m = (tt, λ r. drives_go s server g i ds cs os m)

pub recalls_go : (s : State) (server : Server) (g : File) (i : Input) (n : ℕ) (gs : List Grant) (os : List Outgoing)
    → MayGo s (sends_all s server g i os) → MayGo s (sends_all s server g i (recalls_from n gs ++ os))
unfolding MayGo sends_all recalls_from
recalls_go s server g i n [] os m = m
recalls_go s server g i n (x ∷ gs) os m = (tt, λ r. recalls_go s server g i (n + 1) gs os m)

-- the answer at the end
pub answer_go : (s : State) (server : Server) (g : File) (i : Input) (a : Answer) → Lawful s (answered_to s server g a i)
    → MayGo s (sends_all s server g i (Answers a ∷ []))
unfolding MayGo sends_all
answer_go s server g i a l = (l, λ r. tt)

-- ---- a whole step

nil_front : (es fs : List Event) → es ++ fs ≡ [] → (es ≡ []) × (fs ≡ [])
nil_front [] fs e = (refl, e)
nil_front (x ∷ es) fs e = absurd (cc e)

-- lines that have no event together
pub none_go : (s : State) (ls : Lines) → joined ls ≡ [] → MayGo s ls
unfolding MayGo
none_go s [] none = tt
none_go s (es ∷ ls) none =
    let x = nil_front es (joined ls) none in
    (subst (Lawful s) (sym x.0) tt, λ r. none_go (after_all s es) ls x.1)

-- the events of a step of the server can happen: those of its first line, of its notes, and of what it sends
pub record StepMay (s : State) (w : World) (f g : File) (i : Input) (did : Step) : Type 0 where
  pub first : Lawful s (at_first s w.server did f g i)
  pub notes : NotesMay (after_all s (at_first s w.server did f g i)) w f i did.notes
  pub sends : Lawful (after_all s (at_first s w.server did f g i))
      (notes_events (after_all s (at_first s w.server did f g i)) w f i did.notes) →
      IsRun (behind_notes (after_all s (at_first s w.server did f g i)) w f i did.notes) →
      MayGo (behind_notes (after_all s (at_first s w.server did f g i)) w f i did.notes)
      (sends_all (behind_notes (after_all s (at_first s w.server did f g i)) w f i did.notes) w.server g i did.sends)

pub step_goes : (s : State) (w : World) (f g : File) (i : Input) (did : Step) → StepMay s w f g i did
    → MayGo s (server_goes s w did i (Some f) (Some g))
unfolding MayGo
step_goes s w f g i did k =
    (k.first, notes_go (after_all s (at_first s w.server did f g i)) w f g i did.sends did.notes k.notes k.sends)
