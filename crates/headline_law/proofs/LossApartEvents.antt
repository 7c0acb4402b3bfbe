-- Each grant that the machine gives in a step of the server is live in the file behind it.
use Rattle.std.proofs.Common.{◌≡◌, ◌⊎◌, ◌==◌, ◌&&◌, ◌+◌, ℕ, Bool, true, false, List, [], ◌∷◌, Option, Some, None, refl, sym, ap, subst, ◌∙◌, inl, inr}
use Rattle.osd_lists.specs.declared.node.Node.{Node}
use Rattle.osd_lists.specs.declared.node.Node.TheVariants as node
use Rattle.layout_ops.specs.declared.messages.Answer.{Answer}
use Rattle.layout_ops.specs.declared.statuses.TheConstants.{NFS4_OK, LAYOUTIOMODE4_RW}
use Rattle.client_rules.specs.Answers.{is_loss_taken}
use Rattle.client_rules.specs.Results.{status_of}
use Rattle.server_rules.specs.Files.{Step, file_at}
use Rattle.server_rules.specs.Grants.{grant_of}
use Rattle.server_rules.specs.History.{Input, Hears, Makes, Obeys, Adds, Zones, Formats, Resends, Crashes, Opens}
use Rattle.server_rules.specs.Laws.{In}
use Rattle.server_rules.specs.Messages.{Message, Asks, Replies, Orders}
use Rattle.data_map.specs.declared.check.RawMap.{RawMap}
use Rattle.world_history.specs.State.{World}
use Rattle.world_history.specs.ServerNames as server_rules
use Rattle.world_history.specs.ServerNames.{Server, File, Component, Note, RequestArgs, Get as Gets, Commit as Commits, Return as Returns, Outgoing, Answers, OrderKind, ToRecall, ToRevoke, ToDeclare, ToRebuild, ToAudit}
use Rattle.fence_law.specs.Machine.{after, after_all}
use Rattle.fence_law.specs.Starts.{granted}
use Rattle.fence_law.specs.State as machine
use Rattle.fence_law.specs.State.{State, Event, RequestKind}
use Rattle.fence_law.specs.State.Event.{Grants, Refuses, Frees}
use Rattle.fence_law.specs.State.RequestKind.{Get, Return}
use Rattle.fence_law.specs.Words.{In as InRun}
use Rattle.file_simulation.specs.ServerEvents as table
use Rattle.relation_law.specs.Frames.{AreAll, LinesAre}
use Rattle.relation_law.specs.Requests.{IsSteady}
use Rattle.relation_law.proofs.FramesClient.{where_all, grant_all, either_all}
use Rattle.relation_law.proofs.FramesStay.{all_as, all_more, related_by_all}
use Rattle.relation_law.proofs.KeptEnds.{found_grant}
use Rattle.relation_law.proofs.RequestsLines.{noted_plain}

-- ---- an event

-- a live grant of the file has this number
abbrev pub HasLive : File → (number : ℕ) → Type 0
HasLive g number = (x : server_rules.Grant) × In x g.kept.grants × (x.number ≡ number)

-- a grant that is given is live in the file
abbrev pub GivesLive : File → Event → Type 0
GivesLive g (Grants c number wide range extending) = HasLive g number
GivesLive g e = Unit {0}

steady_gives : (g : File) (e : Event) → IsSteady e → GivesLive g e
steady_gives g (Grants c number wide range extending) k = absurd k
steady_gives g e k = tt

-- an answer with a grant is an old one, or its grant is live in the file
abbrev pub AnswersLive : File → State → State → Type 0
AnswersLive g s t =
    (a : machine.Answer) (x : machine.Grant) → InRun a t.answers → a.grant ≡ Some x → InRun a s.answers ⊎ HasLive g x.number

none_told : (g : File) (s t : State) (b : machine.Answer) → b.grant ≡ None → t.answers ≡ b ∷ s.answers → AnswersLive g s t
none_told g s t b none same a x i is = by (subst (InRun a) same i)
  where
    by : (a ≡ b) ⊎ InRun a s.answers → InRun a s.answers ⊎ HasLive g x.number
    by (inl e) = absurd (cc (sym none ∙ sym (ap (λ (y : machine.Answer). y.grant) e) ∙ is))
    by (inr old) = inl old

-- the answer that gives the grant is new
live_given : (g : File) (s : State) (b : machine.Answer) (y : machine.Grant) → b.grant ≡ Some y → HasLive g y.number →
    (a : machine.Answer) (x : machine.Grant) → InRun a (b ∷ s.answers) → a.grant ≡ Some x →
    InRun a s.answers ⊎ HasLive g x.number
live_given g s b y own k a x (inl e) is =
    let same : y ≡ x = cc (sym own ∙ sym (ap (λ (z : machine.Answer). z.grant) e) ∙ is) in
    inr (k.0, k.1, k.2 ∙ ap (λ (z : machine.Grant). z.number) same)
live_given g s b y own k a x (inr i) is = inl i

live_one : (g : File) (s : State) (e : Event) → GivesLive g e → AnswersLive g s (after s e)
live_one g s (Grants c number wide range extending) k =
    live_given g s _ (granted s c number wide range extending) refl k
live_one g s (Refuses c kind) k = none_told g s (after s (Refuses c kind)) _ refl refl
live_one g s (Frees c) k = none_told g s (after s (Frees c)) _ refl refl
live_one g s e k = λ a x i is. inl i

pub live_all : (g : File) (s : State) (es : List Event) → AreAll (GivesLive g) es → AnswersLive g s (after_all s es)
live_all g = related_by_all (GivesLive g) (AnswersLive g) (λ s a x i is. inl i)
    (λ s t u p q a x i is. elim (q a x i is) [ inl old ↦ p a x old is | inr live ↦ inr live ]) (live_one g)

-- ---- the first line

module _ (g : File) where
  abbrev So : List Event → Type 0
  So = AreAll (GivesLive g)

  module _ (s : State) (f : File) where
    fences_so : So (table.fences f g)
    fences_so = where_all (GivesLive g) (table.begins_fence f g) _ (tt, tt)

    return_so : (c : ℕ) (kind : RequestKind) → So (table.return_served s c kind f g)
    return_so c (Return true) = (tt, tt)
    return_so c (Return false) = all_more (GivesLive g) (table.fences f g) _ fences_so (tt, tt)
    return_so c (Get rw) = tt

    returned_so : (c : ℕ) (waits : Bool) → So (table.returned s c waits f g)
    returned_so c true = return_so c (s.asked c)
    returned_so c false = (tt, fences_so)

    committed_so : (c : ℕ) (ok : Bool) → So (table.committed s c ok)
    committed_so c true = grant_all (GivesLive g) (s.outstanding c) _ (λ x. (tt, tt))
    committed_so c false = (tt, tt)

    here_so : (c : ℕ) (a : RequestArgs) (ok : Bool) → So (table.served_here s c a ok f g)
    here_so c (Gets iomode offset count) ok = fences_so
    here_so c (Commits last) ok = (tt, committed_so c ok)
    here_so c (Returns report) ok = returned_so c (s.waiting c)

    declared_so : (d : ℕ) (cs : List Component) (k : ℕ) → So (table.declared_from d cs k)
    unfolding table.declared_from
    declared_so d [] k = tt
    declared_so d (at ∷ cs) k =
        all_more (GivesLive g) _ (table.declared_from d cs (k + 1)) (where_all (GivesLive g) (at.drive == d) _ (tt, tt))
        (declared_so d cs (k + 1))

    ordered_so : (kind : OrderKind) (n : ℕ) → So (table.ordered f g kind n)
    ordered_so ToDeclare d = declared_so d f.kept.components 0
    ordered_so ToRecall n = tt
    ordered_so ToRevoke n = where_all (GivesLive g) (n == f.kept.number) _ fences_so
    ordered_so ToRebuild n = where_all (GivesLive g) (n == f.kept.number) _ fences_so
    ordered_so ToAudit n = where_all (GivesLive g) (n == f.kept.number) _ fences_so

    heard_so : (server : Server) (did : Step) (from : Node) (m : Message) → So (table.heard s server did f g from m)
    heard_so server did (node.Client c) (Asks q) =
        where_all (GivesLive g) (table.is_served server c q) _
        (either_all (GivesLive g) (q.file == f.kept.number) _ _
        (here_so q.client q.args (table.is_ok (table.answer_of did.sends))) (tt, tt))
    heard_so server did (node.Client c) (Replies r) = tt
    heard_so server did (node.Client c) (Orders o) = tt
    heard_so server did node.Server m = tt
    heard_so server did (node.Drive d) m = tt

    first_so : (server : Server) (did : Step) (i : Input) → So (table.at_first s server did f g i)
    first_so server did (Hears now from m) = heard_so server did from m
    first_so server did (Obeys kind n) = ordered_so kind n
    first_so server did Opens = fences_so
    first_so server did (Makes n m tag zoned) = tt
    first_so server did (Adds d) = tt
    first_so server did (Zones d zone) = tt
    first_so server did (Formats n) = tt
    first_so server did Resends = tt
    first_so server did Crashes = tt

  -- ---- the answer

  granted_so : (c : ℕ) (rw : Bool) (m : RawMap) (o : Option server_rules.Grant) → grant_of g.kept.grants c ≡ o →
      So (table.granted c rw m o)
  granted_so c rw m None is = tt
  granted_so c rw m (Some x) is = ((x, (found_grant g.kept.grants c x is).0, refl), tt)

  get_so : (c : ℕ) (rw ok : Bool) → So (table.get_answered c rw ok g)
  get_so c rw true = granted_so c rw g.kept.map (grant_of g.kept.grants c) refl
  get_so c rw false = (tt, tt)

  module _ (s : State) where
    answer_so : (c : ℕ) (r : RequestArgs) (a : Answer) → So (table.answered_here s c r a g)
    answer_so c (Gets iomode offset count) a = get_so c (iomode == LAYOUTIOMODE4_RW) (status_of a.results == NFS4_OK)
    answer_so c (Commits last) a = tt
    answer_so c (Returns report) a =
        where_all (GivesLive g) (is_loss_taken a) _ (tt, grant_all (GivesLive g) (s.held c) _ (λ x. (tt, tt)))

    answered_so : (server : Server) (a : Answer) (i : Input) → So (table.answered_to s server g a i)
    answered_so server a (Hears now (node.Client c) (Asks q)) =
        where_all (GivesLive g) (table.is_served server c q && (q.file == g.kept.number)) _ (answer_so c q.args a)
    answered_so server a (Hears now (node.Client c) (Replies r)) = tt
    answered_so server a (Hears now (node.Client c) (Orders o)) = tt
    answered_so server a (Hears now node.Server m) = tt
    answered_so server a (Hears now (node.Drive d) m) = tt
    answered_so server a (Obeys kind n) = tt
    answered_so server a Opens = tt
    answered_so server a (Makes n m tag zoned) = tt
    answered_so server a (Adds d) = tt
    answered_so server a (Zones d zone) = tt
    answered_so server a (Formats n) = tt
    answered_so server a Resends = tt
    answered_so server a Crashes = tt

    sent_so : (server : Server) (i : Input) (o : Outgoing) → So (table.sent s server g i o)
    sent_so server i (Answers a) = answered_so server a i
    sent_so server i o = tt

  -- ---- the lines

  sends_so : (s : State) (server : Server) (i : Input) (os : List Outgoing) →
      LinesAre (GivesLive g) (table.sends_all s server g i os)
  unfolding table.sends_all
  sends_so s server i [] = tt
  sends_so s server i (o ∷ os) = (sent_so s server i o, sends_so (after_all s (table.sent s server g i o)) server i os)

  notes_so : (s : State) (w : World) (f : File) (i : Input) (os : List Outgoing) (ns : List Note) →
      LinesAre (GivesLive g) (table.notes_all s w f g i os ns)
  unfolding table.notes_all
  notes_so s w f i os [] = sends_so s w.server i os
  notes_so s w f i os (n ∷ ns) = (
    all_as IsSteady (GivesLive g) (steady_gives g) (table.noted s w f i n) (noted_plain s w f i n),
    notes_so (after_all s (table.noted s w f i n)) w f i os ns,
  )

  goes_so : (s : State) (w : World) (did : Step) (i : Input) (o p : Option File) → p ≡ Some g →
      LinesAre (GivesLive g) (table.server_goes s w did i o p)
  goes_so s w did i None p is = tt
  goes_so s w did i (Some f) None is = tt
  goes_so s w did i (Some f) (Some y) is =
      let same : y ≡ g = cc is in
      subst (λ (z : File). LinesAre (GivesLive g) (table.server_goes s w did i (Some f) (Some z))) (sym same) (
        first_so s f w.server did i,
        notes_so (after_all s (table.at_first s w.server did f g i)) w f i did.sends did.notes,
      )

  -- of a step that leaves this file
  pub step_gives_live : (s : State) (w : World) (file : ℕ) (i : Input) (did : Step) → file_at did.state.files file ≡ Some g →
      LinesAre (GivesLive g) (table.server_events s w file (Some i) (Some did))
  step_gives_live s w file i did is = goes_so s w did i (file_at w.server.files file) (file_at did.state.files file) is
