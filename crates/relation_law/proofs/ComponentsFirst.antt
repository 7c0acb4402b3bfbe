-- The first line of a step of the server, and the lines of its messages: which events stand there, and what they leave of
-- the components.
-- Towards `ComponentsGoOn` (`specs/Steps.antt`).
use Rattle.std.proofs.Common.{◌≡◌, ◌==◌, ◌&&◌, ℕ, Bool, true, false, List, [], ◌∷◌, Option, Some, None, refl, sym, ap, ◌∙◌}
use Rattle.osd_lists.specs.declared.node.Node.{Node}
use Rattle.osd_lists.specs.declared.node.Node.TheVariants as node
use Rattle.layout_ops.specs.declared.messages.Answer.{Answer}
use Rattle.layout_ops.specs.declared.statuses.TheConstants.{NFS4_OK, LAYOUTIOMODE4_RW}
use Rattle.server_rules.specs.Files.{Step}
use Rattle.server_rules.specs.Grants.{grant_of}
use Rattle.server_rules.specs.History.{Input, Hears, Makes, Obeys, Adds, Zones, Formats, Resends, Crashes, Opens}
use Rattle.server_rules.specs.Messages.{Message, Asks as AsksServer, Replies as RepliesServer, Orders as OrdersServer}
use Rattle.client_rules.specs.Results.{status_of}
use Rattle.client_rules.specs.Answers.{is_loss_taken}
use Rattle.world_history.specs.ServerNames as server_rules
use Rattle.world_history.specs.ServerNames.{Server, File, RequestArgs, Get as Gets, Commit as Commits, Return as Returns, Outgoing, Answers, ToRecall, ToRevoke, ToDeclare, ToRebuild, ToAudit}
use Rattle.fence_law.specs.State as machine
use Rattle.fence_law.specs.State.{State, Event}
use Rattle.fence_law.specs.State.{Event as event}
use Rattle.fence_law.specs.State.RequestKind.{Get, Return}
use Rattle.fence_law.specs.Machine.{after, after_all}
use Rattle.file_simulation.specs.EventLists.{entry_of}
use Rattle.file_simulation.specs.Events.{joined}
use Rattle.file_simulation.specs.ServerEvents as table
use Rattle.relation_law.specs.Frames.{AreAll}
use Rattle.relation_law.specs.ComponentsWalk.{IsPlain}
use Rattle.relation_law.proofs.FramesStay.{all_more}
use Rattle.relation_law.proofs.FramesClient.{where_all, grant_all, either_all}
use Rattle.relation_law.proofs.ComponentsNotes.{Leaves, leaves_as}

-- ---- which events there are

-- P is so of each event that may stand at the first line, but for a declaration, or at the line of a message; a grant is of
-- the file's grants
pub record AreSuch (g : File) (P : Event → Type 0) : Type 0 where
  pub fences : P event.Fences
  pub serves : (c : ℕ) → P (event.ServesOther c)
  pub commits : (c j : ℕ) (x : machine.Grant) → P (event.Commits c j x)
  pub refuses_commit : (c j : ℕ) → P (event.RefusesCommit c j)
  pub frees : (c : ℕ) → P (event.Frees c)
  pub refuses : (c : ℕ) (kind : machine.RequestKind) → P (event.Refuses c kind)
  pub acknowledges : (c j : ℕ) → P (event.Acknowledges c j)
  pub leaves : (c : ℕ) (x : machine.Grant) → P (event.Leaves c x)
  pub grants : (c number : ℕ) (rw : Bool) (range : ℕ → Bool) (extending : Bool) (x : server_rules.Grant) →
      grant_of g.kept.grants c ≡ Some x → P (event.Grants c number rw range extending)

module _ (P : Event → Type 0) (s : State) (server : Server) (did : Step) (f g : File) (k : AreSuch g P) where
  fence_such : AreAll P (table.fences f g)
  fence_such = where_all P (table.begins_fence f g) _ (k.fences, tt)

  -- ---- the first line

  return_such : (c : ℕ) (kind : machine.RequestKind) → AreAll P (table.return_served s c kind f g)
  return_such c (Return true) = (k.frees c, tt)
  return_such c (Return false) = all_more P (table.fences f g) _ fence_such (k.refuses c (Return false), tt)
  return_such c (Get rw) = tt

  returned_such : (c : ℕ) (waits : Bool) → AreAll P (table.returned s c waits f g)
  returned_such c true = return_such c (s.asked c)
  returned_such c false = (k.serves c, fence_such)

  committed_such : (c : ℕ) (ok : Bool) → AreAll P (table.committed s c ok)
  committed_such c true = grant_all P (s.outstanding c) _ (λ x. (k.commits c (entry_of s c) x, tt))
  committed_such c false = (k.refuses_commit c (entry_of s c), tt)

  served_such : (c : ℕ) (a : RequestArgs) (ok : Bool) → AreAll P (table.served_here s c a ok f g)
  served_such c (Gets iomode offset count) ok = fence_such
  served_such c (Commits last) ok = (k.serves c, committed_such c ok)
  served_such c (Returns report) ok = returned_such c (s.waiting c)

  heard_such : (from : Node) (m : Message) → AreAll P (table.heard s server did f g from m)
  heard_such (node.Client c) (AsksServer q) =
      where_all P (table.is_served server c q) _
      (either_all P (q.file == f.kept.number) _ _
      (served_such q.client q.args (table.is_ok (table.answer_of did.sends))) (k.serves q.client, tt))
  heard_such (node.Client c) (RepliesServer r) = tt
  heard_such (node.Client c) (OrdersServer o) = tt
  heard_such node.Server m = tt
  heard_such (node.Drive d) m = tt

  pub first_such : (i : Input) → IsPlain i → AreAll P (table.at_first s server did f g i)
  first_such (Hears now from m) none = heard_such from m
  first_such (Obeys ToDeclare n) none = absurd none
  first_such (Obeys ToRecall n) none = tt
  first_such (Obeys ToRevoke n) none = where_all P (n == f.kept.number) _ fence_such
  first_such (Obeys ToRebuild n) none = where_all P (n == f.kept.number) _ fence_such
  first_such (Obeys ToAudit n) none = where_all P (n == f.kept.number) _ fence_such
  first_such Opens none = fence_such
  first_such (Makes n m tag zoned) none = tt
  first_such (Adds d) none = tt
  first_such (Zones d zone) none = tt
  first_such (Formats n) none = tt
  first_such Resends none = tt
  first_such Crashes none = tt

-- ---- messages

module _ (P : Event → Type 0) (server : Server) (g : File) (k : AreSuch g P) where
  granted_such : (c : ℕ) (rw : Bool) (o : Option server_rules.Grant) → grant_of g.kept.grants c ≡ o →
      AreAll P (table.granted c rw g.kept.map o)
  granted_such c rw None e = tt
  granted_such c rw (Some x) e = (k.grants c x.number rw _ x.extending x e, tt)

  got_such : (c : ℕ) (rw ok : Bool) → AreAll P (table.get_answered c rw ok g)
  got_such c rw true = granted_such c rw (grant_of g.kept.grants c) refl
  got_such c rw false = (k.refuses c (Get rw), tt)

  loss_such : (s : State) (c : ℕ) → AreAll P (table.loss_answered s c)
  loss_such s c = (k.acknowledges c (entry_of s c), grant_all P (s.held c) _ (λ x. (k.leaves c x, tt)))

  answered_such : (s : State) (c : ℕ) (a : RequestArgs) (b : Answer) → AreAll P (table.answered_here s c a b g)
  answered_such s c (Gets iomode offset count) b = got_such c (iomode == LAYOUTIOMODE4_RW) (status_of b.results == NFS4_OK)
  answered_such s c (Commits last) b = tt
  answered_such s c (Returns report) b = where_all P (is_loss_taken b) _ (loss_such s c)

  to_such : (s : State) (a : Answer) (i : Input) → AreAll P (table.answered_to s server g a i)
  to_such s a (Hears now (node.Client c) (AsksServer q)) =
      where_all P (table.is_served server c q && (q.file == g.kept.number)) _ (answered_such s c q.args a)
  to_such s a (Hears now (node.Client c) (RepliesServer r)) = tt
  to_such s a (Hears now (node.Client c) (OrdersServer o)) = tt
  to_such s a (Hears now node.Server m) = tt
  to_such s a (Hears now (node.Drive d) m) = tt
  to_such s a (Obeys kind n) = tt
  to_such s a Opens = tt
  to_such s a (Makes n m tag zoned) = tt
  to_such s a (Adds d) = tt
  to_such s a (Zones d zone) = tt
  to_such s a (Formats n) = tt
  to_such s a Resends = tt
  to_such s a Crashes = tt

  sent_such : (s : State) (i : Input) (o : Outgoing) → AreAll P (table.sent s server g i o)
  sent_such s i (Answers a) = to_such s a i
  sent_such s i o = tt

  pub sends_such : (s : State) (i : Input) (os : List Outgoing) → AreAll P (joined (table.sends_all s server g i os))
  unfolding table.sends_all
  sends_such s i [] = tt
  sends_such s i (o ∷ os) =
      all_more P (table.sent s server g i o) _ (sent_such s i o)
      (sends_such (after_all s (table.sent s server g i o)) i os)

-- ---- what they leave

-- an event leaves each component
abbrev pub Spares : Event → Type 0
Spares (event.Fails k) = ⊥
Spares (event.Drops k) = ⊥
Spares (event.Declares k) = ⊥
Spares (event.Loses c k) = ⊥
Spares (event.Rebuilds k cells) = ⊥
Spares (event.SetsTag k) = ⊥
Spares (event.Performs m) = ⊥
Spares (event.PerformsLost m) = ⊥
Spares (event.Repairs k cells e) = ⊥
Spares e = Unit {0}

spared_one : (s : State) (e : Event) (j : ℕ) → Spares e → Leaves s (after s e) j
spared_one s (event.Fails k) j no_ = absurd no_
spared_one s (event.Drops k) j no_ = absurd no_
spared_one s (event.Declares k) j no_ = absurd no_
spared_one s (event.Loses c k) j no_ = absurd no_
spared_one s (event.Rebuilds k cells) j no_ = absurd no_
spared_one s (event.SetsTag k) j no_ = absurd no_
spared_one s (event.Performs m) j no_ = absurd no_
spared_one s (event.PerformsLost m) j no_ = absurd no_
spared_one s (event.Repairs k cells e) j no_ = absurd no_
spared_one s e j spares = record { missing = refl; lost = refl; tag = refl; cells = λ z. refl }

pub spared : (s : State) (es : List Event) (j : ℕ) → AreAll Spares es → Leaves s (after_all s es) j
spared s [] j all = leaves_as s s j refl
spared s (e ∷ es) j all =
    let one = spared_one s e j all.0 in
    let rest = spared (after s e) es j all.1 in
    record {
      missing = rest.missing ∙ one.missing;
      lost = rest.lost ∙ one.lost;
      tag = rest.tag ∙ one.tag;
      cells = λ z. rest.cells z ∙ one.cells z;
    }

pub such_spares : (g : File) → AreSuch g Spares
such_spares g = record {
  fences = tt;
  serves = λ c. tt;
  commits = λ c j x. tt;
  refuses_commit = λ c j. tt;
  frees = λ c. tt;
  refuses = λ c kind. tt;
  acknowledges = λ c j. tt;
  leaves = λ c x. tt;
  grants = λ c number rw range extending x e. tt;
}

-- an event issues no grant
abbrev pub IssuesNone : Event → Type 0
IssuesNone (event.Grants c number rw range extending) = ⊥
IssuesNone e = Unit {0}

unissued_one : (s : State) (e : Event) → IssuesNone e → s.granted_since ≡ false → (after s e).granted_since ≡ false
unissued_one s (event.Grants c number rw range extending) no_ h = absurd no_
unissued_one s event.Fenced ok h = refl
unissued_one s event.Refenced ok h = refl
unissued_one s e ok h = h

pub unissued : (s : State) (es : List Event) → AreAll IssuesNone es → s.granted_since ≡ false →
    (after_all s es).granted_since ≡ false
unissued s [] all h = h
unissued s (e ∷ es) all h = unissued (after s e) es all.1 (unissued_one s e all.0 h)

-- so it is where the file has no grant
pub such_issue : (g : File) → g.kept.grants ≡ [] → AreSuch g IssuesNone
such_issue g none = record {
  fences = tt;
  serves = λ c. tt;
  commits = λ c j x. tt;
  refuses_commit = λ c j. tt;
  frees = λ c. tt;
  refuses = λ c kind. tt;
  acknowledges = λ c j. tt;
  leaves = λ c x. tt;
  grants = λ c number rw range extending x e. nothing c x (sym (ap (λ gs. grant_of gs c) none) ∙ e);
}
  where
    nothing : (c : ℕ) (x : server_rules.Grant) → grant_of [] c ≡ Some x → ⊥
    nothing c x e = cc e
