-- The first line of a step of the server: its events end no calm, and begin a fence only where the file is seen to begin one.
use Rattle.std.proofs.Common.{◌≡◌, ◌⊎◌, ◌+◌, ◌==◌, ℕ, Bool, true, false, List, [], ◌∷◌, Option, Some, None, refl, inl, inr, if◌then◌else◌}
use Rattle.std.proofs.lemmas.Bool.{cases_Bool, eqb-true}
use Rattle.osd_lists.specs.declared.node.Node.{Node}
use Rattle.osd_lists.specs.declared.node.Node.TheVariants as node
use Rattle.server_rules.specs.Files.{Step}
use Rattle.server_rules.specs.History.{Input, Hears, Makes, Obeys, Adds, Zones, Formats, Resends, Crashes, Opens}
use Rattle.server_rules.specs.Messages.{Message, Asks, Replies, Orders}
use Rattle.world_history.specs.ServerNames.{Server, File, Component, RequestArgs, Get as Gets, Commit as Commits, Return as Returns, ClientRequest, OrderKind, JobKind, Revoking, Rebuilding, Auditing, ToRecall, ToRevoke, ToDeclare, ToRebuild, ToAudit}
use Rattle.fence_law.specs.State as machine
use Rattle.fence_law.specs.State.{State, Event}
use Rattle.fence_law.specs.State.Event.{Declares}
use Rattle.fence_law.specs.State.RequestKind.{Get, Return}
use Rattle.file_simulation.specs.EventLists.{where_so, of_grant, entry_of}
use Rattle.file_simulation.specs.ServerEvents as table
use Rattle.relation_law.specs.Frames.{AreAll}
use Rattle.relation_law.proofs.FramesStay.{all_more}
use Rattle.relation_law.proofs.FramesClient.{where_all}
use Rattle.headline_law.specs.Ending.{MayBegin, ByRequest, ByOrder, ByOpening, IsJobOrder}
use Rattle.headline_law.proofs.CalmEvents.{IsPeaceful, PerformsNone, LosesNone}
use Rattle.headline_law.proofs.CalmNotes.{FencesNone}

-- an event of a first line, where a fence may begin or not
abbrev pub IsFirst : (begins : Bool) → Event → Type 0
IsFirst true e = IsPeaceful e × PerformsNone e × LosesNone e
IsFirst false e = IsPeaceful e × PerformsNone e × LosesNone e × FencesNone e

either_first : (P : Event → Type 0) (b : Bool) (es fs : List Event) → AreAll P es → AreAll P fs →
    AreAll P (if b then es else fs)
either_first P true es fs a c = a
either_first P false es fs a c = c

granted_first : (P : Event → Type 0) (o : Option machine.Grant) (does : machine.Grant → List Event) →
    ((g : machine.Grant) → AreAll P (does g)) → AreAll P (of_grant o does)
granted_first P None does a = tt
granted_first P (Some g) does a = a g

pub first_events : (s : State) (server : Server) (did : Step) (f g : File) (i : Input) (b : Bool) →
    table.begins_fence f g ≡ b → AreAll (IsFirst b) (table.at_first s server did f g i)
unfolding table.declared_from
first_events s server did f g i b is = by i
  where
    P : Event → Type 0
    P = IsFirst b

    fence : AreAll P (table.fences f g)
    fence = so b is
      where
        so : (c : Bool) → table.begins_fence f g ≡ c → AreAll (IsFirst c) (table.fences f g)
        so true e = rw e ((tt, tt, tt), tt)
        so false e = rw e tt

    plain : (e : Event) → IsFirst true e → IsFirst false e → P e
    plain e x y = so b
      where
        so : (c : Bool) → IsFirst c e
        so true = x
        so false = y

    served_one : (c : ℕ) → P (machine.Event.ServesOther c)
    served_one c = plain (machine.Event.ServesOther c) (tt, tt, tt) (tt, tt, tt, tt)

    return_first : (c : ℕ) (kind : machine.RequestKind) → AreAll P (table.return_served s c kind f g)
    return_first c (Return true) = (plain (machine.Event.Frees c) (tt, tt, tt) (tt, tt, tt, tt), tt)
    return_first c (Return false) =
        all_more P (table.fences f g) _ fence
        (plain (machine.Event.Refuses c (Return false)) (tt, tt, tt) (tt, tt, tt, tt), tt)
    return_first c (Get wide) = tt

    returned_first : (c : ℕ) (waits : Bool) → AreAll P (table.returned s c waits f g)
    returned_first c true = return_first c (s.asked c)
    returned_first c false = (served_one c, fence)

    committed_first : (c : ℕ) (ok : Bool) → AreAll P (table.committed s c ok)
    committed_first c true =
        granted_first P (s.outstanding c) _
        (λ x. (plain (machine.Event.Commits c (entry_of s c) x) (tt, tt, tt) (tt, tt, tt, tt), tt))
    committed_first c false =
        (plain (machine.Event.RefusesCommit c (entry_of s c)) (tt, tt, tt) (tt, tt, tt, tt), tt)

    served_first : (c : ℕ) (a : RequestArgs) (ok : Bool) → AreAll P (table.served_here s c a ok f g)
    served_first c (Gets iomode offset count) ok = fence
    served_first c (Commits last) ok = (served_one c, committed_first c ok)
    served_first c (Returns report) ok = returned_first c (s.waiting c)

    heard_first : (from : Node) (m : Message) → AreAll P (table.heard s server did f g from m)
    heard_first (node.Client c) (Asks q) =
        where_all P (table.is_served server c q) _
        (either_first P (q.file == f.kept.number) _ _
        (served_first q.client q.args (table.is_ok (table.answer_of did.sends))) (served_one q.client, tt))
    heard_first (node.Client c) (Replies r) = tt
    heard_first (node.Client c) (Orders o) = tt
    heard_first node.Server m = tt
    heard_first (node.Drive d) m = tt

    by : (j : Input) → AreAll P (table.at_first s server did f g j)
    by (Hears now from m) = heard_first from m
    by (Obeys ToDeclare d) = declared f.kept.components 0
      where
        declared : (cs : List Component) (k : ℕ) → AreAll P (table.declared_from d cs k)
        declared [] k = tt
        declared (at ∷ cs) k =
            all_more P (where_so (at.drive == d) (Declares k ∷ [])) (table.declared_from d cs (k + 1))
            (where_all P (at.drive == d) (Declares k ∷ []) (plain (Declares k) (tt, tt, tt) (tt, tt, tt, tt), tt))
            (declared cs (k + 1))
    by (Obeys ToRecall n) = tt
    by (Obeys ToRevoke n) = where_all P (n == f.kept.number) _ fence
    by (Obeys ToRebuild n) = where_all P (n == f.kept.number) _ fence
    by (Obeys ToAudit n) = where_all P (n == f.kept.number) _ fence
    by Opens = fence
    by (Makes n m tag zoned) = tt
    by (Adds d) = tt
    by (Zones d zone) = tt
    by (Formats n) = tt
    by Resends = tt
    by Crashes = tt

-- ---- which input may begin a fence

-- no fence begins at the line, or what comes may begin one
pub first_form : (s : State) (server : Server) (did : Step) (f g : File) (i : Input) →
    AreAll FencesNone (table.at_first s server did f g i) ⊎ MayBegin server f i
unfolding table.declared_from
first_form s server did f g i = by i refl
  where
    asked : (now c : ℕ) (q : ClientRequest) → i ≡ Hears now (node.Client c) (Asks q) →
        AreAll FencesNone (table.heard s server did f g (node.Client c) (Asks q)) ⊎ MayBegin server f i
    asked now c q is = elim (cases_Bool (table.is_served server c q)) [
      | inr z ↦ rw z (inl tt)
      | inl t ↦ elim (cases_Bool (q.file == f.kept.number)) [
        | inl here ↦ inr (ByRequest now c q is t (eqb-true q.file f.kept.number here))
        | inr other ↦ rw (t, other) (inl (tt, tt))
      ]
    ]

    ordered : (kind : OrderKind) (job : JobKind) (n : ℕ) → i ≡ Obeys kind n → IsJobOrder kind job →
        AreAll FencesNone (where_so (n == f.kept.number) (table.fences f g)) ⊎ MayBegin server f i
    ordered kind job n is of = elim (cases_Bool (n == f.kept.number)) [
      | inl here ↦ inr (ByOrder kind job n is of (eqb-true n f.kept.number here))
      | inr other ↦ rw other (inl tt)
    ]

    declared : (d : ℕ) (cs : List Component) (k : ℕ) → AreAll FencesNone (table.declared_from d cs k)
    declared d [] k = tt
    declared d (at ∷ cs) k =
        all_more FencesNone (where_so (at.drive == d) (Declares k ∷ [])) (table.declared_from d cs (k + 1))
        (where_all FencesNone (at.drive == d) (Declares k ∷ []) (tt, tt)) (declared d cs (k + 1))

    heard : (now : ℕ) (from : Node) (m : Message) → i ≡ Hears now from m →
        AreAll FencesNone (table.heard s server did f g from m) ⊎ MayBegin server f i
    heard now (node.Client c) (Asks q) is = asked now c q is
    heard now (node.Client c) (Replies r) is = inl tt
    heard now (node.Client c) (Orders o) is = inl tt
    heard now node.Server m is = inl tt
    heard now (node.Drive d) m is = inl tt

    by : (j : Input) → i ≡ j → AreAll FencesNone (table.at_first s server did f g j) ⊎ MayBegin server f i
    by (Hears now from m) is = heard now from m is
    by (Obeys ToDeclare d) is = inl (declared d f.kept.components 0)
    by (Obeys ToRecall n) is = inl tt
    by (Obeys ToRevoke n) is = ordered ToRevoke Revoking n is refl
    by (Obeys ToRebuild n) is = ordered ToRebuild Rebuilding n is refl
    by (Obeys ToAudit n) is = ordered ToAudit Auditing n is refl
    by Opens is = inr (ByOpening is)
    by (Makes n m tag zoned) is = inl tt
    by (Adds d) is = inl tt
    by (Zones d zone) is = inl tt
    by (Formats n) is = inl tt
    by Resends is = inl tt
    by Crashes is = inl tt
