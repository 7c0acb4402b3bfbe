-- The events of a step of the server on a client's new request: those of its notes leave what the machine has of the client, and
-- those of the answer stand last.
-- Towards `CallsGoOn` (`relation_law/specs/Steps.antt`).
use Rattle.std.proofs.Common.{◌≡◌, ◌==◌, ◌++◌, ℕ, Bool, true, false, List, [], ◌∷◌, Option, Some, None, refl, ap, subst, ◌∙◌, if◌then◌else◌}
use Rattle.history_law.specs.Answers.{AnswersOnly, Never}
use Rattle.server_rules.specs.Files.{Step}
use Rattle.server_rules.specs.History.{Input}
use Rattle.layout_ops.specs.declared.messages.Answer.{Answer}
use Rattle.world_history.specs.ServerNames as server_rules
use Rattle.world_history.specs.ServerNames.{File, Note, NoteKind, Outgoing, ToDrive, Recalls, Answers, AnswersOrder}
use Rattle.world_history.specs.State.{World, at_number}
use Rattle.fence_law.specs.State.{State, Event}
use Rattle.fence_law.specs.State.Event.{Fails, Drops, Declares, Loses, Rebuilds, Fences, Fenced, Refenced, Repaired, Refuses, ServesOther, Frees}
use Rattle.fence_law.specs.Machine.{Lawful, after, after_all}
use Rattle.file_simulation.specs.Components.{has_failed}
use Rattle.file_simulation.specs.Events.{joined}
use Rattle.file_simulation.specs.ServerEvents as table
use Rattle.relation_law.specs.CallsFrames.{IsBeside, AreBeside, IsSpared}
use Rattle.relation_law.specs.Frames.{AreAll}
use Rattle.relation_law.proofs.CallsFrames.{spared_same, spared_more, spares_all}
use Rattle.relation_law.proofs.ComponentsGoOn.{lawful_front, lawful_behind}
use Rattle.relation_law.proofs.FramesClient.{where_all}
use Rattle.relation_law.proofs.RequestsLines.{answer_last, steady_stays, noted_plain}
use Rattle.relation_law.proofs.KeptNotes.{after_both}

-- ---- events that leave a client

-- an event that neither issues a grant, nor is of a commit, nor takes a loss
abbrev pub IsQuiet : Event → Type 0
IsQuiet (Fails k) = Unit {0}
IsQuiet (Drops k) = Unit {0}
IsQuiet (Declares k) = Unit {0}
IsQuiet (Loses c k) = Unit {0}
IsQuiet (Rebuilds k cells) = Unit {0}
IsQuiet Fences = Unit {0}
IsQuiet Fenced = Unit {0}
IsQuiet Refenced = Unit {0}
IsQuiet (Repaired done e) = Unit {0}
IsQuiet (Refuses c kind) = Unit {0}
IsQuiet (ServesOther c) = Unit {0}
IsQuiet (Frees c) = Unit {0}
IsQuiet e = ⊥

quiet_one : (c : ℕ) (s : State) (e : Event) → IsQuiet e → IsBeside c s e
quiet_one c s (Fails k) q = tt
quiet_one c s (Drops k) q = tt
quiet_one c s (Declares k) q = tt
quiet_one c s (Loses d k) q = tt
quiet_one c s (Rebuilds k cells) q = tt
quiet_one c s Fences q = tt
quiet_one c s Fenced q = tt
quiet_one c s Refenced q = tt
quiet_one c s (Repaired done e) q = tt
quiet_one c s (Refuses d kind) q = tt
quiet_one c s (ServesOther d) q = tt
quiet_one c s (Frees d) q = tt
quiet_one c s e q = absurd q

pub quiet_all : (c : ℕ) (s : State) (es : List Event) → AreAll IsQuiet es → AreBeside c s es
quiet_all c s [] all = tt
quiet_all c s (e ∷ es) all = (quiet_one c s e all.0, quiet_all c (after s e) es all.1)

-- such events leave each client
pub quiet_spares : (c : ℕ) (s : State) (es : List Event) → AreAll IsQuiet es → IsSpared s (after_all s es) c
quiet_spares c s es all = spares_all c s es (quiet_all c s es all)

pub fences_quiet : (f g : File) → AreAll IsQuiet (table.fences f g)
fences_quiet f g = where_all IsQuiet (table.begins_fence f g) (Fences ∷ []) (tt, tt)

-- ---- notes

lacks_quiet : (missing lost : Bool) (k : ℕ) → AreAll IsQuiet (table.lacks_space missing lost k)
lacks_quiet true lost k = tt
lacks_quiet false true k = (tt, tt)
lacks_quiet false false k = (tt, tt)

reported_quiet : (k : ℕ) (o : Option ℕ) → AreAll IsQuiet (table.reported k o)
reported_quiet k None = tt
reported_quiet k (Some c) = (tt, tt)

over_quiet : (b : Bool) → AreAll IsQuiet ((if b then Refenced else Fenced) ∷ [])
over_quiet true = (tt, tt)
over_quiet false = (tt, tt)

noted_here_quiet : (s : State) (w : World) (f : File) (i : Input) (n : NoteKind) → AreAll IsQuiet (table.noted_here s w f i n)
noted_here_quiet s w f i (server_rules.Fenced tag) = over_quiet s.repairing
noted_here_quiet s w f i (server_rules.Repaired stripes short) = (tt, tt)
noted_here_quiet s w f i (server_rules.NoSpace k) = lacks_quiet (s.missing k) (s.lost k) k
noted_here_quiet s w f i (server_rules.Reported k) = reported_quiet k (table.asker i)
noted_here_quiet s w f i (server_rules.Rebuilt k d) = (tt, where_all IsQuiet (has_failed (at_number w.drives d)) _ (tt, tt))
noted_here_quiet s w f i n = tt

pub noted_quiet : (s : State) (w : World) (f : File) (i : Input) (n : Note) → AreAll IsQuiet (table.noted s w f i n)
noted_quiet s w f i n = where_all IsQuiet (n.file == f.kept.number) _ (noted_here_quiet s w f i n.kind)

-- ---- from the first line to the answer

-- the answer of a step is the last of what it sends
pub answer_is : (os : List Outgoing) (a : Answer) → AnswersOnly Never os → table.answer_of (os ++ Answers a ∷ []) ≡ Some a
unfolding table.answer_of
answer_is [] a none = refl
answer_is (ToDrive d x ∷ os) a none = answer_is os a none
answer_is (Recalls r ∷ os) a none = answer_is os a none
answer_is (Answers b ∷ os) a none = absurd none.0
answer_is (AnswersOrder b ∷ os) a none = answer_is os a none

module _ (w : World) (f g : File) (i : Input) (c : ℕ) where
  -- The machine behind the notes has of client c what it had, and the file's size; and the events of the messages come next.
  pub record IsNoted (s : State) (os : List Outgoing) (ns : List Note) : Type 0 where
    pub behind : State
    pub spared : IsSpared s behind c
    pub size : behind.size ≡ s.size
    pub goes : after_all s (joined (table.notes_all s w f g i os ns))
        ≡ after_all behind (joined (table.sends_all behind w.server g i os))
    pub lawful : Lawful s (joined (table.notes_all s w f g i os ns)) →
        Lawful behind (joined (table.sends_all behind w.server g i os))

  pub notes_go : (s : State) (os : List Outgoing) (ns : List Note) → IsNoted s os ns
  unfolding table.notes_all
  notes_go s os [] = record {
    behind = s;
    spared = spared_same s c;
    size = refl;
    goes = refl;
    lawful = λ l. l;
  }
  notes_go s os (n ∷ ns) =
      let t : State = after_all s (table.noted s w f i n) in
      let r = notes_go t os ns in
      record {
        behind = r.behind;
        spared = spared_more s t r.behind c (quiet_spares c s (table.noted s w f i n) (noted_quiet s w f i n)) r.spared;
        size = r.size ∙ (steady_stays s (table.noted s w f i n) (noted_plain s w f i n)).size;
        goes = after_both s (table.noted s w f i n) (joined (table.notes_all t w f g i os ns)) ∙ r.goes;
        lawful = λ l. r.lawful (lawful_behind s (table.noted s w f i n) (joined (table.notes_all t w f g i os ns)) l);
      }

  -- commands and recalls have no event, so what can happen of the answer stands first
  answer_lawful : (s : State) (os : List Outgoing) (a : Answer) → AnswersOnly Never os →
      Lawful s (joined (table.sends_all s w.server g i (os ++ Answers a ∷ []))) →
      Lawful s (table.answered_to s w.server g a i)
  unfolding table.sends_all
  answer_lawful s [] a none l = lawful_front s (table.answered_to s w.server g a i) _ l
  answer_lawful s (ToDrive d x ∷ os) a none l = answer_lawful s os a none l
  answer_lawful s (Recalls r ∷ os) a none l = answer_lawful s os a none l
  answer_lawful s (Answers b ∷ os) a none l = absurd none.0
  answer_lawful s (AnswersOrder b ∷ os) a none l = answer_lawful s os a none l

  -- Of a step whose answer stands last: the machine before the answer's events.
  pub record IsAsked (s : State) (did : Step) (a : Answer) : Type 0 where
    pub behind : State
    pub spared : IsSpared (after_all s (table.at_first s w.server did f g i)) behind c
    pub size : behind.size ≡ (after_all s (table.at_first s w.server did f g i)).size
    pub goes : after_all s (joined (table.server_goes s w did i (Some f) (Some g)))
        ≡ after_all behind (table.answered_to behind w.server g a i)
    pub first : Lawful s (joined (table.server_goes s w did i (Some f) (Some g))) →
        Lawful s (table.at_first s w.server did f g i)
    pub last : Lawful s (joined (table.server_goes s w did i (Some f) (Some g))) →
        Lawful behind (table.answered_to behind w.server g a i)

  pub asked_goes : (s : State) (did : Step) (os : List Outgoing) (a : Answer) → AnswersOnly Never os →
      did.sends ≡ os ++ Answers a ∷ [] → IsAsked s did a
  asked_goes s did os a none is =
      let first : List Event = table.at_first s w.server did f g i in
      let t : State = after_all s first in
      let r = notes_go t did.sends did.notes in
      let rest : List Event = joined (table.notes_all t w f g i did.sends did.notes) in
      record {
        behind = r.behind;
        spared = r.spared;
        size = r.size;
        goes =
            after_both s first rest ∙ r.goes
            ∙ ap (λ (l : List Outgoing). after_all r.behind (joined (table.sends_all r.behind w.server g i l))) is
            ∙ answer_last w f g i r.behind os a none;
        first = λ l. lawful_front s first rest l;
        last = λ l. answer_lawful r.behind os a none
            (subst (λ (z : List Outgoing). Lawful r.behind (joined (table.sends_all r.behind w.server g i z))) is
            (r.lawful (lawful_behind s first rest l)));
      }
