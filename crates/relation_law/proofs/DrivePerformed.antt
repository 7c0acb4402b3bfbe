-- What a drive performs, by who sent it: the file's events may happen, and lead to a machine that has the components.
-- Towards `ComponentsGoOn` (`specs/Steps.antt`).
use Rattle.std.proofs.Common.{◌≡◌, ◌⊎◌, ℕ, ◌<◌, ◌≤◌, Bool, true, false, not, List, [], ◌∷◌, slice_get, Option, Some, None, refl, sym, ap, subst, ◌∙◌, inl, inr}
use Rattle.std.specs.Prelude.{find}
use Rattle.osd_lists.specs.declared.node.Node.{Node}
use Rattle.osd_lists.specs.declared.node.Node.TheVariants as node
use Rattle.osd_commands.specs.declared.actions.Action.{Action}
use Rattle.osd_commands.specs.declared.actions.Action.TheVariants as action
use Rattle.osd_commands.specs.declared.commands.Command.{Command}
use Rattle.osd_drive.specs.Effects.{performed}
use Rattle.scenario_text.specs.declared.names.TheConstants.{CLIENTS}
use Rattle.world_history.specs.ServerNames.{File, Component}
use Rattle.world_history.specs.State.{World, DriveAt}
use Rattle.world_history.specs.Stripes.{component_at}
use Rattle.fence_law.specs.State.{State, Event}
use Rattle.fence_law.specs.State.Event.{Performs, SetsTag, Repairs, Shows}
use Rattle.fence_law.specs.Machine.{Lawful, after, after_all}
use Rattle.fence_law.proofs.Safe.{Safe}
use Rattle.file_simulation.specs.Components.{StandsAs, IsComponent, AreComponents}
use Rattle.file_simulation.specs.Messages.{AreSent, WasSent}
use Rattle.file_simulation.specs.Phases.{PhaseIs}
use Rattle.file_simulation.specs.Jobs.{AreOwned, OweWords}
use Rattle.file_simulation.specs.Relation.{client_of}
use Rattle.file_simulation.specs.EventLists.{where_so, entry_of}
use Rattle.file_simulation.specs.DriveEvents.{is_running, is_write, performs, of_client, of_server, cells_of, performed_of, performed_on}
use Rattle.relation_law.specs.DriveHearing.{IsPerformed, IsOfClient, IsOfServer, IsOfSender, IsLaidOut, AreFirst, ShowsRight, AreShownRight}
use Rattle.relation_law.proofs.ComponentsMachine.{AreSingle}
use Rattle.relation_law.proofs.ComponentsKept.{LanesKept, LanesGo}
use Rattle.relation_law.proofs.DriveFinding.{IsAt, found, none_there, sent_found}
use Rattle.relation_law.proofs.DriveObjects.{rests}
use Rattle.relation_law.proofs.DriveReads.{sent_read}
use Rattle.relation_law.proofs.DriveWorld.{IsBehind}
use Rattle.relation_law.proofs.DrivePerforms.{PerformsWrite, performs_allowed, performs_stands, performs_lanes}
use Rattle.relation_law.proofs.DriveServer.{PerformsServer, sets_allowed, sets_stands, repairs_allowed, repairs_stands, created_stands, created_unready, attr_stands, sets_lanes, repairs_lanes, attr_lanes, created_lanes}
use Rattle.relation_law.proofs.DriveActs.{Touches, touches_performs, touches_sets, touches_repairs, rests_same, rests_shows, all_go, none_go, idle_go, lanes_all, lanes_none, lanes_idle}

-- these events may happen, and lead to a machine that has the components of the file
pub record GoWell (s : State) (w v : World) (f : File) (events : List Event) : Type 0 where
  pub lawful : Lawful s events
  pub components : AreComponents (after_all s events) v f
  pub lanes : LanesGo w v (after_all s events) f

-- what is known of a file before a drive performs a command
pub record IsReady (s : State) (w : World) (f : File) : Type 0 where
  pub safe : Safe s
  pub single : AreSingle s
  pub laid : IsLaidOut f
  pub inside : (k : ℕ) (at : Component) → slice_get f.kept.components k ≡ Some at → k < s.layout.components
  pub first : AreFirst w f
  pub components : AreComponents s w f
  pub sent : AreSent s w f
  pub phase : PhaseIs s f f.kept.phase
  pub owned : AreOwned s w f
  pub owe : OweWords s w f

module _ (s : State) (w v : World) (f : File) (r : IsReady s w f) (d : ℕ) (a b : DriveAt) (x : Command)
    (p : IsPerformed w d a x) (g : IsBehind w v d a b) (becomes : b.state ≡ performed a.state x)
    (same : b.failed ≡ a.failed) where
  -- ---- a component that stands

  module _ (k : ℕ) (at : IsAt f.kept.components d x.object k) (lost : s.lost k ≡ false) where
    is : IsComponent s w f k at.component
    is = r.components k at.component at.there

    stands : StandsAs s w f k at.component
    stands = is.stands lost

    -- no other has the object
    alone : (i : ℕ) → IsAt f.kept.components d x.object i → i ≡ k
    alone i other =
        r.laid.differ i k other.component at.component other.there at.there (other.object_is ∙ sym at.object_is)

    its : (y : Component) → slice_get f.kept.components k ≡ Some y → at.component ≡ y
    its y there = some (sym at.there ∙ there)
      where
        some : Some at.component ≡ Some y → at.component ≡ y
        some e = cc e

    -- where it stands behind the event, so do all
    go : (t : State) → Touches s t k → StandsAs t v f k at.component → AreComponents t v f
    go t touch behind =
        all_go s w v f d a b x p r.laid g becomes same r.components t k touch alone
        (λ y there l old. subst (λ (z : Component). StandsAs t v f k z) (its y there) behind)

    lanes_go : (t : State) → Touches s t k → LanesKept w v t k at.component → LanesGo w v t f
    lanes_go t touch behind =
        lanes_all s w v f d a b x p r.laid g becomes same r.components t k touch alone
        (λ y there. subst (λ (z : Component). LanesKept w v t k z) (its y there) behind)

    -- ---- a client's

    module _ (c : ℕ) (of : IsOfClient w d c x) where
      writes : x.action ≡ action.Write → GoWell s w v f (performs (find (is_write c k x.nonce) s.writes))
      writes write =
          let sent : WasSent s c k x =
          sent_read s c k of.command x of.reads of.capability write
          (r.sent.writes c d k of.command at.component of.sent (sym of.reads.action ∙ write) at.there
          (sym of.reads.object ∙ sym at.object_is) lost) in
          let q : PerformsWrite s w f d c k a x at.component = record {
            performed = p;
            of = of;
            write = write;
            there = at.there;
            drive = at.drive;
            object = sym at.object_is;
            lost = lost;
            stands = stands;
            sent = sent;
            inside = r.inside k at.component at.there;
          } in
          subst (λ (es : List Event). GoWell s w v f es) (ap performs (sym (sent_found s c k x r.single sent)))
          (record {
            lawful = (performs_allowed s w v f d c k a b x at.component q g becomes r.safe, tt);
            components =
                go (after s (Performs sent.write))
                (subst (Touches s (after s (Performs sent.write))) sent.at_
                (touches_performs s sent.write r.safe.known sent.sent
                (subst (λ (n : ℕ). (e : ℕ) → e < CLIENTS → s.last_nonce n e ≤ s.nonce e) (sym sent.at_) is.nonces)))
                (performs_stands s w v f d c k a b x at.component q g becomes);
            lanes =
                lanes_go (after s (Performs sent.write))
                (subst (Touches s (after s (Performs sent.write))) sent.at_
                (touches_performs s sent.write r.safe.known sent.sent
                (subst (λ (n : ℕ). (e : ℕ) → e < CLIENTS → s.last_nonce n e ≤ s.nonce e) (sym sent.at_) is.nonces)))
                (performs_lanes s w v f d c k a b x at.component q g becomes);
          })

      shows : (y : Bool) → is_running f.kept.number x.nonce (client_of w c).call ≡ y → x.action ≡ action.Read →
          ShowsRight s w f c k x → GoWell s w v f (where_so y (Shows (entry_of s c) k ∷ []))
      shows true run read right = record {
        lawful = (right run lost, tt);
        components =
            idle_go s w v f d a b x p r.laid g becomes same r.components (after s (Shows (entry_of s c) k))
            (rests_shows s (entry_of s c) k) (rests a.state x (inl read));
        lanes =
            lanes_idle s w v f d a b x p r.laid g becomes same r.components (after s (Shows (entry_of s c) k))
            (rests a.state x (inl read));
      }
      shows false run read right = record {
        lawful = tt;
        components =
            idle_go s w v f d a b x p r.laid g becomes same r.components s (rests_same s) (rests a.state x (inl read));
        lanes = lanes_idle s w v f d a b x p r.laid g becomes same r.components s (rests a.state x (inl read));
      }

      pub of_client_goes : (x.action ≡ action.Read → ShowsRight s w f c k x) →
          GoWell s w v f (of_client s w f.kept.number k c x x.action)
      of_client_goes right = elim of.action [
        | inl read ↦
            subst (λ (y : Action). GoWell s w v f (of_client s w f.kept.number k c x y)) (sym read)
            (shows (is_running f.kept.number x.nonce (client_of w c).call) refl read (right read))
        | inr write ↦
            subst (λ (y : Action). GoWell s w v f (of_client s w f.kept.number k c x y)) (sym write) (writes write)
      ]

    -- ---- the server's

    module _ (of : IsOfServer w d x) where
      q : PerformsServer s w f d k a x at.component
      q = record {
        performed = p;
        of = of;
        there = at.there;
        drive = at.drive;
        object = sym at.object_is;
        lost = lost;
        stands = stands;
      }

      rest : (y : Action) → (x.action ≡ y) → (x.action ≡ action.Read) ⊎ (x.action ≡ action.GetAttr) → AreComponents s v f
      rest y e idle =
          idle_go s w v f d a b x p r.laid g becomes same r.components s (rests_same s) (rests a.state x idle)

      rest_lanes : (x.action ≡ action.Read) ⊎ (x.action ≡ action.GetAttr) → LanesGo w v s f
      rest_lanes idle = lanes_idle s w v f d a b x p r.laid g becomes same r.components s (rests a.state x idle)

      touches_self : Touches s s k
      touches_self = record {
        tags = λ i other. refl;
        cells = λ i other z. refl;
        lanes = λ i other c. refl;
        own = is.nonces;
        nonce = λ c. refl;
        lost = λ i. refl;
        missing = λ i. refl;
        unused = refl;
        replies = λ i n y. y;
      }

      of_server_by : (y : Action) → x.action ≡ y → GoWell s w v f (of_server r.owe.bytes k x y)
      of_server_by action.Create e = record {
        lawful = tt;
        components =
            go s touches_self
            (created_stands s w v f d k a b x at.component q g becomes e
            (of.reads.tag
            ∙ r.first d k of.command at.component (created_unready s w v f d k a b x at.component q g becomes e) at.there of.sent
            (sym of.reads.action ∙ e) (sym of.reads.object ∙ sym at.object_is)));
        lanes = lanes_go s touches_self (created_lanes s w v f d k a b x at.component q g becomes e s);
      }
      of_server_by action.Read e = record { lawful = tt; components = rest action.Read e (inl e); lanes = rest_lanes (inl e) }
      of_server_by action.Write e = record {
        lawful = (repairs_allowed s w v f d k a b x at.component q g becomes e r.phase r.owned r.owe, tt);
        components =
            go (after s (Repairs k (cells_of x) r.owe.bytes)) (touches_repairs s k (cells_of x) r.owe.bytes is.nonces)
            (repairs_stands s w v f d k a b x at.component q g becomes e r.owe);
        lanes =
            lanes_go (after s (Repairs k (cells_of x) r.owe.bytes)) (touches_repairs s k (cells_of x) r.owe.bytes is.nonces)
            (repairs_lanes s w v f d k a b x at.component q g becomes e (after s (Repairs k (cells_of x) r.owe.bytes)));
      }
      of_server_by action.GetAttr e = record {
        lawful = tt;
        components = rest action.GetAttr e (inr e);
        lanes = rest_lanes (inr e);
      }
      of_server_by action.SetAttr e = record {
        lawful = tt;
        components = go s touches_self (attr_stands s w v f d k a b x at.component q g becomes e);
        lanes = lanes_go s touches_self (attr_lanes s w v f d k a b x at.component q g becomes e s);
      }
      of_server_by action.SetTag e = record {
        lawful = (sets_allowed s w v f d k a b x at.component q g becomes e r.sent, tt);
        components =
            go (after s (SetsTag k)) (touches_sets s k is.nonces)
            (sets_stands s w v f d k a b x at.component q g becomes e);
        lanes =
            lanes_go (after s (SetsTag k)) (touches_sets s k is.nonces)
            (sets_lanes s w v f d k a b x at.component q g becomes e (after s (SetsTag k)));
      }

      pub of_server_goes : GoWell s w v f (of_server r.owe.bytes k x x.action)
      of_server_goes = of_server_by x.action refl

  -- ---- whoever sent it, and wherever it goes

  nothing : ((i : ℕ) → s.lost i ≡ false → IsAt f.kept.components d x.object i → ⊥) → GoWell s w v f []
  nothing apart = record {
    lawful = tt;
    components = none_go s w v f d a b x p r.laid g becomes same r.components s (rests_same s) apart;
    lanes = lanes_none s w v f d a b x p r.laid g becomes same r.components s (rests_same s) apart;
  }

  stands_by : (from : Node) → IsOfSender w d x from → AreShownRight s w f d x from → (k : ℕ) →
      IsAt f.kept.components d x.object k → s.lost k ≡ false →
      GoWell s w v f (performed_of s w r.owe.bytes f.kept.number k x from)
  stands_by (node.Client c) of right k at lost =
      of_client_goes k at lost c of (right k at.component at.there at.present at.drive at.object_is)
  stands_by node.Server of right k at lost = of_server_goes k at lost of
  stands_by (node.Drive e) of right k at lost = absurd of

  by_lost : (from : Node) → IsOfSender w d x from → AreShownRight s w f d x from → (k : ℕ) → IsAt f.kept.components d x.object k →
      (l : Bool) → s.lost k ≡ l →
      GoWell s w v f (where_so (not l) (performed_of s w r.owe.bytes f.kept.number k x from))
  by_lost from of right k at false lost = stands_by from of right k at lost
  by_lost from of right k at true lost =
      nothing (λ i stands other. absurd (cc (sym stands ∙ ap s.lost (r.laid.differ i k other.component at.component
      other.there at.there (other.object_is ∙ sym at.object_is)) ∙ lost)))

  by_place : (from : Node) → IsOfSender w d x from → AreShownRight s w f d x from → (o : Option ℕ) →
      component_at d x.object f.kept.components 0 ≡ o → GoWell s w v f (performed_on s w r.owe.bytes f x from o)
  by_place from of right None e =
      nothing (λ i stands other. none_there d x.object f.kept.components e i other)
  by_place from of right (Some k) e =
      by_lost from of right k (found d x.object f.kept.components k e) (s.lost k) refl

  pub performed_goes : (from : Node) → IsOfSender w d x from → AreShownRight s w f d x from →
      GoWell s w v f (performed_on s w r.owe.bytes f x from (component_at d x.object f.kept.components 0))
  performed_goes from of right = by_place from of right (component_at d x.object f.kept.components 0) refl
