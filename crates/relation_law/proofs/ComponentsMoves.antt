-- Each whole move keeps what the machine has of the components.
-- Towards `ComponentsGoOn` (`specs/Steps.antt`).
use Rattle.std.proofs.Common.{◌≡◌, ◌==◌, ◌++◌, ℕ, ◌+◌, false, List, [], ◌∷◌, slice_get, Some, refl, sym, ap, subst, ◌∙◌}
use Rattle.std.specs.Prelude.{find, is_some}
use Rattle.std.proofs.lemmas.List.{append-nil}
use Rattle.std.proofs.Common.{append_assoc}
use Rattle.osd_lists.specs.declared.node.Node.{Node}
use Rattle.osd_lists.specs.declared.node.Node.TheVariants as node
use Rattle.server_rules.specs.Files.{Step, file_at}
use Rattle.server_rules.specs.History.{Input, Hears, Makes, Obeys, Adds, Zones, Formats, Resends, Crashes, Opens, step}
use Rattle.server_rules.specs.Messages.{Message, Asks, Replies, Orders}
use Rattle.server_rules.specs.Orders.{offline, ordered}
use Rattle.world_history.specs.ServerNames.{File, Component, Note, Drive, ToRecall, ToRevoke, ToDeclare, ToRebuild, ToAudit}
use Rattle.world_history.specs.State.{World}
use Rattle.component_law.specs.Distinct.{AreDistinct}
use Rattle.fence_law.specs.Words.{In as InRun}
use Rattle.fence_law.specs.State.{State, Event}
use Rattle.fence_law.specs.State.{Event as event}
use Rattle.fence_law.specs.Machine.{after_all}
use Rattle.fence_law.proofs.Safe.{Safe}
use Rattle.file_simulation.specs.Components.{AreComponents}
use Rattle.file_simulation.specs.EventLists.{Lines, where_so}
use Rattle.file_simulation.specs.Events.{joined}
use Rattle.file_simulation.specs.ServerEvents as table
use Rattle.relation_law.specs.ComponentsBehind.{RebuiltStand}
use Rattle.relation_law.specs.ComponentsFacts.{IsFair, OfServer, AreReplied}
use Rattle.relation_law.specs.ComponentsWalk.{noted_after, IsPlain}
use Rattle.relation_law.specs.Frames.{AreAll, LinesAre, IsOfServer}
use Rattle.relation_law.proofs.FramesStay.{all_more, all_joined}
use Rattle.relation_law.proofs.FramesClient.{where_all}
use Rattle.relation_law.proofs.FramesServer.{at_first, noted_all}
use Rattle.relation_law.proofs.FramesOthers.{clients_by_server, replies_by_server}
use Rattle.relation_law.proofs.ComponentsFirst.{first_such, sends_such, Spares, spared, such_spares, IssuesNone, unissued, such_issue}
use Rattle.relation_law.proofs.ComponentsNotes.{Told, AreTold, told_left}
use Rattle.relation_law.proofs.ComponentsServer.{start_told, declared_told, notes_state, notes_unissued, IsGone, server_components, server_lanes}
use Rattle.relation_law.proofs.ComponentsSteps.{AreAimed, tells_step, declared}
use Rattle.relation_law.proofs.DriveStays.{IsAlike}
use Rattle.relation_law.proofs.KeptNotes.{after_both}

-- ---- lists

abbrev Never : Event → Type 0
Never e = ⊥

pub none_joined : (lines : Lines) → LinesAre Never lines → joined lines ≡ []
none_joined [] all = refl
none_joined ([] ∷ rest) all = none_joined rest all.1
none_joined ((e ∷ es) ∷ rest) all = absurd all.0.0

pub joined_more : (xs ys : Lines) → joined (xs ++ ys) ≡ joined xs ++ joined ys
joined_more [] ys = refl
joined_more (es ∷ xs) ys = ap (λ (l : List Event). es ++ l) (joined_more xs ys) ∙ sym (append_assoc es (joined xs) (joined ys))

-- ---- a step of the server

module _ (s : State) (w : World) (f g : File) (chosen : List ℕ) (is : AreComponents s w f)
    (there : file_at w.server.files f.kept.number ≡ Some f) (apart : AreDistinct w.server.files)
    (aimed : AreAimed w.server.files) where
  -- the machine behind the first line
  abbrev pub First : Input → State
  First i = after_all s (table.at_first s w.server (step w.server chosen i) f g i)

  abbrev pub IsTold : Input → Type 0
  IsTold i =
      file_at (step w.server chosen i).state.files f.kept.number ≡ Some g →
      AreTold s (First i) w f i g.kept (step w.server chosen i).notes

  plain_told : (i : Input) → IsPlain i → IsTold i
  plain_told i plain goes =
      tells_step s (First i) w f i there apart aimed
      (start_told s (First i) w f i (λ j. spared s (table.at_first s w.server (step w.server chosen i) f g i) j
      (first_such Spares s w.server (step w.server chosen i) f g (such_spares g) i plain)) is)
      chosen i refl plain g goes

  declared_so : (d : ℕ) → IsFair w f (Obeys ToDeclare d) → IsTold (Obeys ToDeclare d)
  unfolding ordered
  declared_so d fair goes =
      declared s (First (Obeys ToDeclare d)) w f (Obeys ToDeclare d) there apart aimed d (offline w.server.drives d)
      (declared_told s w f (Obeys ToDeclare d) d fair.0 is) chosen
      (is_some (find (λ (x : Drive). x.number == d) w.server.drives)) fair.1 refl g goes

  plain_hears : (now : ℕ) (from : Node) (m : Message) → IsFair w f (Hears now from m) → IsPlain (Hears now from m)
  plain_hears now node.Server (Orders o) fair = absurd fair
  plain_hears now node.Server (Asks q) fair = tt
  plain_hears now node.Server (Replies r) fair = tt
  plain_hears now (node.Client c) m fair = tt
  plain_hears now (node.Drive d) m fair = tt

  -- behind the notes of each step all is told
  pub step_told : (i : Input) → IsFair w f i → IsTold i
  step_told (Obeys ToDeclare d) fair = declared_so d fair
  step_told (Obeys ToRecall n) fair = plain_told (Obeys ToRecall n) tt
  step_told (Obeys ToRevoke n) fair = plain_told (Obeys ToRevoke n) tt
  step_told (Obeys ToRebuild n) fair = plain_told (Obeys ToRebuild n) tt
  step_told (Obeys ToAudit n) fair = plain_told (Obeys ToAudit n) tt
  step_told (Hears now from m) fair = plain_told (Hears now from m) (plain_hears now from m fair)
  step_told (Makes n m tag zoned) fair = plain_told (Makes n m tag zoned) tt
  step_told (Adds d) fair = plain_told (Adds d) tt
  step_told (Zones d zone) fair = plain_told (Zones d zone) tt
  step_told (Formats n) fair = plain_told (Formats n) tt
  step_told Resends fair = plain_told Resends tt
  step_told Crashes fair = plain_told Crashes tt
  step_told Opens fair = plain_told Opens tt

  -- where the file has no grant behind it, none was issued
  declares_none : (d : ℕ) (cs : List Component) (k : ℕ) → AreAll IssuesNone (table.declared_from d cs k)
  unfolding table.declared_from
  declares_none d [] k = tt
  declares_none d (at ∷ cs) k =
      all_more IssuesNone (where_so (at.drive == d) (event.Declares k ∷ [])) (table.declared_from d cs (k + 1))
      (where_all IssuesNone (at.drive == d) (event.Declares k ∷ []) (tt, tt)) (declares_none d cs (k + 1))

  first_none : g.kept.grants ≡ [] → (i : Input) → IsFair w f i →
      AreAll IssuesNone (table.at_first s w.server (step w.server chosen i) f g i)
  first_none none (Obeys ToDeclare d) fair = declares_none d f.kept.components 0
  first_none none (Hears now from m) fair =
      first_such IssuesNone s w.server (step w.server chosen (Hears now from m)) f g (such_issue g none) (Hears now from m)
      (plain_hears now from m fair)
  first_none none (Obeys ToRecall n) fair = tt
  first_none none (Obeys ToRevoke n) fair =
      first_such IssuesNone s w.server (step w.server chosen (Obeys ToRevoke n)) f g (such_issue g none) (Obeys ToRevoke n) tt
  first_none none (Obeys ToRebuild n) fair =
      first_such IssuesNone s w.server (step w.server chosen (Obeys ToRebuild n)) f g (such_issue g none) (Obeys ToRebuild n) tt
  first_none none (Obeys ToAudit n) fair =
      first_such IssuesNone s w.server (step w.server chosen (Obeys ToAudit n)) f g (such_issue g none) (Obeys ToAudit n) tt
  first_none none (Makes n m tag zoned) fair = tt
  first_none none (Adds d) fair = tt
  first_none none (Zones d zone) fair = tt
  first_none none (Formats n) fair = tt
  first_none none Resends fair = tt
  first_none none Crashes fair = tt
  first_none none Opens fair =
      first_such IssuesNone s w.server (step w.server chosen Opens) f g (such_issue g none) Opens tt

-- ---- the server's move

module _ (s : State) (w v : World) (f g : File) (i : Input) (chosen : List ℕ) (safe : Safe s) (is : AreComponents s w f)
    (there : file_at w.server.files f.kept.number ≡ Some f)
    (goes : file_at (step w.server chosen i).state.files f.kept.number ≡ Some g) (tag : s.tag ≡ f.kept.tag)
    (alike : IsAlike w v) (r : OfServer w v f g i) where
  abbrev did : Step
  did = step w.server chosen i

  abbrev t0 : State
  t0 = after_all s (table.at_first s w.server did f g i)

  abbrev t1 : State
  t1 = noted_after t0 w f i did.notes

  abbrev pub step_events : List Event
  step_events = joined (table.server_goes s w did i (Some f) (Some g))

  abbrev t : State
  t = after_all s step_events

  state_is : after_all s step_events ≡ after_all t1 (joined (table.sends_all t1 w.server g i did.sends))
  state_is =
      after_both s (table.at_first s w.server did f g i) (joined (table.notes_all t0 w f g i did.sends did.notes))
      ∙ notes_state t0 w f g i did.sends did.notes

  told : AreTold s t0 w f i g.kept did.notes
  told = step_told s w f g chosen is there r.apart r.aimed i r.fair goes

  pub told_then : (k : ℕ) (at : Component) → slice_get g.kept.components k ≡ Some at →
      Told s (after_all s step_events) w f did.notes k at
  told_then k at found =
      subst (λ (u : State). Told s u w f did.notes k at) (sym state_is)
      (subst (λ (ns : List Note). Told s (after_all t1 (joined (table.sends_all t1 w.server g i did.sends))) w f ns k at)
      (append-nil did.notes)
      (told_left s t1 (after_all t1 (joined (table.sends_all t1 w.server g i did.sends))) w f did.notes [] k at
      (spared t1 (joined (table.sends_all t1 w.server g i did.sends)) k
      (sends_such Spares w.server g (such_spares g) t1 i did.sends)) (told.each k at found)))

  unused : g.kept.grants ≡ [] → s.granted_since ≡ false → (after_all s step_events).granted_since ≡ false
  unused none h =
      ap (λ (u : State). u.granted_since) state_is
      ∙ unissued t1 (joined (table.sends_all t1 w.server g i did.sends))
      (sends_such IssuesNone w.server g (such_issue g none) t1 i did.sends)
      (notes_unissued t0 w f i did.notes
      (unissued s (table.at_first s w.server did f g i)
      (first_none s w f g chosen is there r.apart r.aimed none i r.fair) h))

  of_server : AreAll (IsOfServer (table.asker i)) step_events
  of_server =
      all_joined (IsOfServer (table.asker i)) (table.server_goes s w did i (Some f) (Some g)) (
        at_first s w.server did f g i,
        noted_all (after_all s (table.at_first s w.server did f g i)) w f g i did.sends did.notes,
      )

  gone : RebuiltStand (after_all s step_events) v f g did.notes → IsGone s (after_all s step_events) w v f g did.notes
  gone rebuilt = record {
    components = is;
    alike = alike;
    tags = safe.tags;
    tag = tag;
    rises = r.rises;
    first_tag = r.first_tag;
    count = r.count;
    unready = r.unready;
    rebuilt = rebuilt;
    clients = clients_by_server (table.asker i) s step_events of_server;
    replies = replies_by_server (table.asker i) s step_events of_server;
    unused = unused;
  }

  -- the components are behind it as the machine has them, where those that are made anew are
  pub step_components : RebuiltStand (after_all s step_events) v f g did.notes →
      AreComponents (after_all s step_events) v g
  step_components rebuilt =
      server_components s (after_all s step_events) w v f g did.notes (gone rebuilt) told_then

  -- and the machine has the replies to what stands in clients' lanes
  pub step_replied : RebuiltStand (after_all s step_events) v f g did.notes → AreReplied s w f →
      AreReplied (after_all s step_events) v g
  step_replied rebuilt replied c k at l below found lost lane =
      let was = server_lanes s (after_all s step_events) w v f g did.notes (gone rebuilt) told_then k at found lost c l below
      lane in
      subst (InRun (record { holder = c; nonce = l.nonce; at = k }))
      (sym (replies_by_server (table.asker i) s step_events of_server).replies)
      (replied c k at l below was.0 was.1 was.2)
