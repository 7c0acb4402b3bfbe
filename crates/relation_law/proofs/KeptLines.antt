-- The lines of a step of the server as one list of events: those of the first line, of the notes, and of the answer.
-- Towards `KeptGoesOn` (`specs/Steps.antt`).
use Rattle.std.proofs.Common.{◌≡◌, ℕ, ◌+◌, List, [], ◌∷◌, ◌++◌, Some, refl, sym, ap, ◌∙◌, append_assoc}
use Rattle.std.proofs.lemmas.List.{append-nil}
use Rattle.layout_ops.specs.declared.messages.Answer.{Answer}
use Rattle.osd_lists.specs.declared.node.Node.TheVariants.{Server as FromServer, Client as FromClient, Drive as FromDrive}
use Rattle.server_rules.specs.Answers.{recalls_from}
use Rattle.server_rules.specs.Files.{Step, to_drives}
use Rattle.server_rules.specs.History.{Input, Hears, Makes, Obeys, Adds, Zones, Formats, Resends, Crashes, Opens}
use Rattle.server_rules.specs.Messages.{Asks, Replies, Orders}
use Rattle.world_history.specs.ServerNames.{Server, File, Drive, Grant, Awaited, Note, Outgoing, ToDrive, Recalls, Answers, AnswersOrder}
use Rattle.world_history.specs.State.{World}
use Rattle.fence_law.specs.State.{State, Event}
use Rattle.fence_law.specs.Machine.{after_all}
use Rattle.file_simulation.specs.EventLists.{Lines}
use Rattle.file_simulation.specs.Events.{joined}
use Rattle.file_simulation.specs.ServerEvents.{answered_to, sends_all, notes_all, noted, at_first, server_goes}
use Rattle.relation_law.specs.Frames.{AreAll, LinesAre}
use Rattle.relation_law.specs.KeptSteps.{notes_events, behind_notes, first_of}
use Rattle.relation_law.proofs.KeptInputs.{IsNoRequest}
use Rattle.relation_law.proofs.KeptNotes.{after_both}

-- ---- lines

pub joined_both : (x y : Lines) → joined (x ++ y) ≡ joined x ++ joined y
joined_both [] y = refl
joined_both (es ∷ x) y = ap (λ (l : List Event). es ++ l) (joined_both x y) ∙ sym (append_assoc es (joined x) (joined y))

abbrev pub NoEvent : Event → Type 0
NoEvent e = ⊥

none_all : (es : List Event) → AreAll NoEvent es → es ≡ []
none_all [] a = refl
none_all (e ∷ es) a = absurd a.0

pub joined_never : (x : Lines) → LinesAre NoEvent x → joined x ≡ []
joined_never [] a = refl
joined_never (es ∷ x) a = rw (none_all es a.0) (joined_never x a.1)

-- ---- what is sent

module _ (server : Server) (g : File) (i : Input) where
  -- commands and recalls have no event
  pub drives_none : (s : State) (ds : List Drive) (cs : List Awaited) (os : List Outgoing)
      → joined (sends_all s server g i (to_drives ds cs ++ os)) ≡ joined (sends_all s server g i os)
  unfolding sends_all
  drives_none s ds [] os = refl
  drives_none s ds (c ∷ cs) os = drives_none s ds cs os

  pub recalls_none : (s : State) (n : ℕ) (gs : List Grant) (os : List Outgoing)
      → joined (sends_all s server g i (recalls_from n gs ++ os)) ≡ joined (sends_all s server g i os)
  unfolding sends_all recalls_from
  recalls_none s n [] os = refl
  recalls_none s n (x ∷ gs) os = recalls_none s (n + 1) gs os

  pub answer_alone : (s : State) (a : Answer) → joined (sends_all s server g i (Answers a ∷ [])) ≡ answered_to s server g a i
  unfolding sends_all
  answer_alone s a = append-nil (answered_to s server g a i)

-- a step that isn't of a request has none at all
quiet_answer : (s : State) (server : Server) (g : File) (a : Answer) (i : Input) → IsNoRequest i
    → answered_to s server g a i ≡ []
quiet_answer s server g a (Hears now (FromClient c) (Asks q)) n = absurd n
quiet_answer s server g a (Hears now (FromClient c) (Replies r)) n = refl
quiet_answer s server g a (Hears now (FromClient c) (Orders o)) n = refl
quiet_answer s server g a (Hears now FromServer m) n = refl
quiet_answer s server g a (Hears now (FromDrive d) m) n = refl
quiet_answer s server g a (Makes number m tag zoned) n = refl
quiet_answer s server g a (Obeys kind target) n = refl
quiet_answer s server g a (Adds d) n = refl
quiet_answer s server g a (Zones d zone) n = refl
quiet_answer s server g a (Formats format) n = refl
quiet_answer s server g a Resends n = refl
quiet_answer s server g a Crashes n = refl
quiet_answer s server g a Opens n = refl

pub sends_none : (server : Server) (g : File) (i : Input) → IsNoRequest i → (s : State) (os : List Outgoing)
    → joined (sends_all s server g i os) ≡ []
unfolding sends_all
sends_none server g i n s [] = refl
sends_none server g i n s (Answers a ∷ os) =
    rw (quiet_answer s server g a i n) (sends_none server g i n s os)
sends_none server g i n s (ToDrive d c ∷ os) = sends_none server g i n s os
sends_none server g i n s (Recalls r ∷ os) = sends_none server g i n s os
sends_none server g i n s (AnswersOrder o ∷ os) = sends_none server g i n s os

-- ---- a step

pub notes_joined : (t : State) (w : World) (f g : File) (i : Input) (os : List Outgoing) (ns : List Note)
    → joined (notes_all t w f g i os ns)
    ≡ notes_events t w f i ns ++ joined (sends_all (behind_notes t w f i ns) w.server g i os)
unfolding notes_all notes_events
notes_joined t w f g i os [] = refl
notes_joined t w f g i os (n ∷ ns) =
    let es : List Event = noted t w f i n in
    let u : State = after_all t es in
    ap (λ (x : List Event). es ++ x) (notes_joined u w f g i os ns)
    ∙ ap (λ (x : State). es ++ (notes_events u w f i ns ++ joined (sends_all x w.server g i os)))
    (sym (after_both t es (notes_events u w f i ns)))
    ∙ sym (append_assoc es (notes_events u w f i ns)
    (joined (sends_all (after_all t (es ++ notes_events u w f i ns)) w.server g i os)))

-- the first line of a step that isn't of a request
pub first_is : (s : State) (server : Server) (did : Step) (f g : File) (i : Input) → IsNoRequest i
    → at_first s server did f g i ≡ first_of f g i
first_is s server did f g (Hears now (FromClient c) (Asks q)) n = absurd n
first_is s server did f g (Hears now (FromClient c) (Replies r)) n = refl
first_is s server did f g (Hears now (FromClient c) (Orders o)) n = refl
first_is s server did f g (Hears now FromServer m) n = refl
first_is s server did f g (Hears now (FromDrive d) m) n = refl
first_is s server did f g (Makes number m tag zoned) n = refl
first_is s server did f g (Obeys kind target) n = refl
first_is s server did f g (Adds d) n = refl
first_is s server did f g (Zones d zone) n = refl
first_is s server did f g (Formats format) n = refl
first_is s server did f g Resends n = refl
first_is s server did f g Crashes n = refl
first_is s server did f g Opens n = refl

pub plain_joined : (s : State) (w : World) (did : Step) (i : Input) (f g : File) → IsNoRequest i
    → joined (server_goes s w did i (Some f) (Some g))
    ≡ first_of f g i ++ notes_events (after_all s (first_of f g i)) w f i did.notes
plain_joined s w did i f g n =
    let t : State = after_all s (first_of f g i) in
    ap (λ (es : List Event). es ++ joined (notes_all (after_all s es) w f g i did.sends did.notes))
    (first_is s w.server did f g i n)
    ∙ ap (λ (es : List Event). first_of f g i ++ es) (notes_joined t w f g i did.sends did.notes
    ∙ ap (λ (es : List Event). notes_events t w f i did.notes ++ es)
    (sends_none w.server g i n (behind_notes t w f i did.notes) did.sends) ∙ append-nil (notes_events t w f i did.notes))
