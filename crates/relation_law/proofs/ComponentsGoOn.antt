-- Behind each whole move the components are as the machine has them, and it has the replies to what stands in lanes.
-- Towards `ComponentsGoOn` (`specs/Steps.antt`).
use Rattle.std.proofs.Common.{◌≡◌, ◌⊎◌, ◌++◌, ℕ, ◌<◌, Bool, true, false, List, [], ◌∷◌, length, take, zero, suc, Option, Some, None, refl, sym, ap, subst, ◌∙◌, inl, inr, arith}
use Rattle.std.proofs.lemmas.List.{append-nil}
use Rattle.std.proofs.lemmas.Option.{slice_get_within}
use Rattle.osd_commands.specs.declared.actions.Action.TheVariants.{Write}
use Rattle.osd_commands.specs.declared.commands.Command.{Command}
use Rattle.osd_objects.specs.Store.{lane_or_none}
use Rattle.scenario_text.specs.declared.names.TheConstants.{CLIENTS}
use Rattle.exchange_law.specs.Sent.{HasSent}
use Rattle.scenario_text.specs.declared.line.Line.{Line}
use Rattle.server_rules.specs.Files.{file_at}
use Rattle.server_rules.specs.History.{Input, step}
use Rattle.world_history.specs.ServerNames.{File, Server}
use Rattle.world_history.specs.State.{World, at_number}
use Rattle.world_history.specs.Moves.{acts}
use Rattle.world_history.specs.Sending.{Move, move}
use Rattle.world_history.specs.Plans.{due}
use Rattle.world_history.specs.Book.{step_by}
use Rattle.history_law.specs.Doing.{input_in, did_in}
use Rattle.history_law.specs.BookMoments.{IsMoment, plan_at}
use Rattle.component_law.proofs.Moments.{allowed_at}
use Rattle.fence_law.specs.Law.{IsCode}
use Rattle.fence_law.specs.Machine.{Lawful, after, after_all}
use Rattle.fence_law.specs.State.{State, Event, WriteReply}
use Rattle.fence_law.specs.State.Event.{Fails, Drops, Declares, Loses, Rebuilds, Performs, PerformsLost}
use Rattle.fence_law.proofs.Words.{updated_read}
use Rattle.fence_law.specs.Words.{In as InRun}
use Rattle.fence_law.proofs.Safe.{Safe}
use Rattle.plan_law.proofs.Codes.{layouts_are_codes}
use Rattle.file_simulation.specs.ClientEvents.{Going, going_in}
use Rattle.file_simulation.specs.Components.{AreComponents, object_on}
use Rattle.file_simulation.specs.DriveEvents.{drive_events}
use Rattle.file_simulation.specs.EventLists.{Lines}
use Rattle.file_simulation.specs.Events.{joined, events_at, events_of}
use Rattle.file_simulation.specs.Relation.{IsRelated}
use Rattle.file_simulation.specs.ServerEvents as table
use Rattle.file_simulation.specs.ServerEvents.{server_events}
use Rattle.file_simulation.specs.Showing.{IsRun}
use Rattle.relation_law.specs.ComponentsBehind.{RebuiltStand}
use Rattle.relation_law.specs.ComponentsFacts.{OfClients, OfDrives, OfServer, AreReplied}
use Rattle.relation_law.specs.ComponentsMove.{OfMove}
use Rattle.relation_law.specs.DriveHearing.{IsLaidOut, AwaitedAreSent, NoneIsGuessed}
use Rattle.relation_law.specs.Frames.{AreAll, IsOfClient, IsOfDrive, ServerStays, ByClient}
use Rattle.relation_law.specs.Steps.{Follows, FollowsWhole, owed, whole_behind}
use Rattle.relation_law.proofs.FramesStay.{all_joined, server_stays_all}
use Rattle.relation_law.proofs.FramesParties.{by_client_lines, by_drive_lines, client_goes, server_alone, server_rests, server_steps, drive_quiet}
use Rattle.relation_law.proofs.ComponentsClients.{client_components}
use Rattle.relation_law.proofs.ComponentsMachine.{right_run, single_run}
use Rattle.relation_law.proofs.RequestsMoments.{joined_led}
use Rattle.relation_law.proofs.ComponentsMoves.{none_joined, joined_more, step_components, step_replied}
use Rattle.relation_law.proofs.DriveAlike.{server_move_alike}
use Rattle.relation_law.proofs.DriveMoves.{drives_go}
use Rattle.relation_law.proofs.DrivePerformed.{GoWell, IsReady}
use Rattle.relation_law.proofs.DriveStays.{IsAlike}

-- ---- events

-- what happens first of lawful events is lawful
pub lawful_front : (s : State) (xs ys : List Event) → Lawful s (xs ++ ys) → Lawful s xs
lawful_front s [] ys l = tt
lawful_front s (e ∷ xs) ys l = (l.0, lawful_front (after s e) xs ys l.1)

pub lawful_behind : (s : State) (xs ys : List Event) → Lawful s (xs ++ ys) → Lawful (after_all s xs) ys
lawful_behind s [] ys l = l
lawful_behind s (e ∷ xs) ys l = lawful_behind (after s e) xs ys l.1

lawful_both : (s : State) (xs ys : List Event) → Lawful s xs → Lawful (after_all s xs) ys → Lawful s (xs ++ ys)
lawful_both s [] ys l r = r
lawful_both s (e ∷ xs) ys l r = (l.0, lawful_both (after s e) xs ys l.1 r)

-- so are the events of the first lines
pub lawful_taken : (n : ℕ) (s : State) (lines : Lines) → Lawful s (joined lines) → Lawful s (joined (take n lines))
lawful_taken zero s lines l = tt
lawful_taken (suc n) s [] l = tt
lawful_taken (suc n) s (es ∷ rest) l =
    lawful_both s es (joined (take n rest)) (lawful_front s es (joined rest) l)
    (lawful_taken n (after_all s es) rest (lawful_behind s es (joined rest) l))

-- ---- what drives' events leave

lost_by_drive : (s : State) (e : Event) → IsOfDrive e → (i : ℕ) → (after s e).lost i ≡ false → s.lost i ≡ false
lost_by_drive s (Fails k) is i h = grind (arith, h, updated_read s.lost k true i)
lost_by_drive s (Drops k) is i h = absurd is
lost_by_drive s (Declares k) is i h = absurd is
lost_by_drive s (Loses c k) is i h = absurd is
lost_by_drive s (Rebuilds k cells) is i h = absurd is
lost_by_drive s e is i h = h

-- what isn't lost behind them wasn't lost
pub lost_by_drives : (s : State) (es : List Event) → AreAll IsOfDrive es → (i : ℕ) → (after_all s es).lost i ≡ false →
    s.lost i ≡ false
lost_by_drives s [] all i h = h
lost_by_drives s (e ∷ es) all i h = lost_by_drive s e all.0 i (lost_by_drives (after s e) es all.1 i h)

replies_by_drive : (s : State) (e : Event) → IsOfDrive e → (r : WriteReply) → InRun r s.replies → InRun r (after s e).replies
replies_by_drive s (Performs m) is r i = inr i
replies_by_drive s (PerformsLost m) is r i = absurd is
replies_by_drive s e is r i = i

-- and replies stay
pub replies_by_drives : (s : State) (es : List Event) → AreAll IsOfDrive es → (r : WriteReply) → InRun r s.replies →
    InRun r (after_all s es).replies
replies_by_drives s [] all r i = i
replies_by_drives s (e ∷ es) all r i = replies_by_drives (after s e) es all.1 r (replies_by_drive s e all.0 r i)

-- ---- a move

module _ (w : World) (h : List Line) (m : Move) (f g : File) (s : State) (moment : IsMoment w h)
    (is_due : due (plan_at moment) w ≡ Some m.action) (there : file_at w.server.files f.kept.number ≡ Some f)
    (run : IsRun s) (k : IsRelated s w f) where
  abbrev v : World
  v = (move w m).world

  abbrev events : List Event
  events = joined (events_of s w (owed k) f m)

  abbrev t : State
  t = after_all s events

  same_file : file_at (move w m).world.server.files f.kept.number ≡ Some g → (move w m).world.server ≡ w.server → f ≡ g
  same_file goes same =
      let both : Some f ≡ Some g = sym there ∙ ap (λ (x : Server). file_at x.files f.kept.number) (sym same) ∙ goes in
      cc both

  coded : IsLaidOut f → IsCode s.layout
  coded laid = subst IsCode (sym k.layout) (layouts_are_codes f.kept.map f.kept.first_tag laid.checked)

  safe : IsLaidOut f → Safe s
  safe laid = (right_run s (coded laid) run).sure.safe

  -- ---- of a client

  module _ (x : Going) (is : going_in w m.action ≡ Some x) where
    stay : ServerStays s (after_all s (joined (events_of s w (owed k) f m)))
    stay =
        server_stays_all x.client s (joined (events_of s w (owed k) f m))
        (all_joined (IsOfClient x.client) (events_of s w (owed k) f m) (by_client_lines s w (owed k) f m x is))

    by : ByClient w m.action x (acts w m.chosen m.action)
    by = client_goes w h moment m is_due x is

    pub by_client : Lawful s (joined (events_of s w (owed k) f m)) →
        OfClients s w (move w m).world f →
        AreComponents (after_all s (joined (events_of s w (owed k) f m))) (move w m).world f
    by_client lawful o =
        client_components s w v f (joined (events_of s w (owed k) f m)) lawful stay by.drives k.components
        (λ n at there stands.
        subst (λ (q : ℕ → ℕ → ℕ). (c d : ℕ) (y : Command) → c < CLIENTS → HasSent v c d y → y.action ≡ Write →
        y.object ≡ at.object → HasSent w c d y ⊎ (q n c < y.nonce)) (sym stay.last_nonce) (o n at there stands))

    pub client_replied : AreReplied (after_all s (joined (events_of s w (owed k) f m))) (move w m).world f
    client_replied c i at l below found lost lane =
        subst (InRun (record { holder = c; nonce = l.nonce; at = i })) (sym stay.replies)
        (k.sent.replied c i at l below found (sym (ap (λ (q : ℕ → Bool). q i) stay.lost) ∙ lost)
        (ap (λ xs. lane_or_none (object_on (at_number xs at.drive) at.object) c) (sym by.drives) ∙ lane))

    pub client_file : file_at (move w m).world.server.files f.kept.number ≡ Some g → f ≡ g
    client_file goes = same_file goes by.server

  -- ---- of a drive

  module _ (none : going_in w m.action ≡ None) (nothing : input_in w m.action ≡ None) where
    pub its_events : joined (events_of s w (owed k) f m) ≡ joined (drive_events s w (owed k) f m.action)
    its_events =
        joined_led m.action (events_at s w (owed k) f m (going_in w m.action))
        ∙ ap (λ (o : Option Going). joined (events_at s w (owed k) f m o)) none
        ∙ ap (λ (o : Option Input). joined (server_events s w f.kept.number o (did_in w m)
        ++ drive_events s w (owed k) f m.action)) nothing

    ready : IsLaidOut f → OfDrives s w f → IsReady s w f
    ready laid o = record {
      safe = safe laid;
      single = single_run s (coded laid) run;
      laid = laid;
      inside = λ i at found.
          let low : i < length f.kept.components = slice_get_within f.kept.components i at found in
          omega (arith, low, laid.components, ap (λ (y : _). y.components) k.layout);
      first = o.first;
      components = k.components;
      sent = k.sent;
      phase = k.kept.phase;
      owned = k.jobs.owned;
      owe = k.jobs.owe;
    }

    pub by_drive : IsLaidOut f → OfDrives s w f → AwaitedAreSent w → NoneIsGuessed w m.action →
        GoWell s w (move w m).world f (joined (events_of s w (owed k) f m))
    unfolding ready
    by_drive laid o sent guess =
        subst (GoWell s w v f) (sym its_events)
        (drives_go s w f (ready laid o) o.senders sent m.chosen m.action (allowed_at w h moment m.action is_due) guess none)

    pub drive_file : file_at (move w m).world.server.files f.kept.number ≡ Some g → f ≡ g
    drive_file goes = same_file goes (server_rests w m nothing)

    pub drive_replied : GoWell s w (move w m).world f (joined (events_of s w (owed k) f m)) →
        AreReplied (after_all s (joined (events_of s w (owed k) f m))) (move w m).world f
    drive_replied well c i at l below found lost lane =
        let all = all_joined IsOfDrive (events_of s w (owed k) f m) (by_drive_lines s w (owed k) f m none nothing) in
        elim (well.lanes i at found lost c l below lane) [
          | inl old ↦
              replies_by_drives s (joined (events_of s w (owed k) f m)) all (record { holder = c; nonce = l.nonce; at = i })
              (k.sent.replied c i at l below found (lost_by_drives s (joined (events_of s w (owed k) f m)) all i lost) old)
          | inr new ↦ new
        ]

  -- ---- of the server

  module _ (i : Input) (is : input_in w m.action ≡ Some i) (goes : file_at (move w m).world.server.files f.kept.number ≡ Some g)
    where
      none : going_in w m.action ≡ None
      none = server_alone w m.action i is

      pub goes_there : file_at (step w.server m.chosen i).state.files f.kept.number ≡ Some g
      goes_there = ap (λ (x : Server). file_at x.files f.kept.number) (sym (server_steps w m i is)) ∙ goes

      pub events_are : joined (events_of s w (owed k) f m)
          ≡ joined (table.server_goes s w (step w.server m.chosen i) i (Some f) (Some g))
      events_are =
          joined_led m.action (events_at s w (owed k) f m (going_in w m.action))
          ∙ ap (λ (o : Option Going). joined (events_at s w (owed k) f m o)) none
          ∙ joined_more (server_events s w f.kept.number (input_in w m.action) (did_in w m))
          (drive_events s w (owed k) f m.action)
          ∙ ap (λ (es : List Event). joined (server_events s w f.kept.number (input_in w m.action) (did_in w m)) ++ es)
          (none_joined (drive_events s w (owed k) f m.action) (drive_quiet s w (owed k) f m.action i is))
          ∙ append-nil (joined (server_events s w f.kept.number (input_in w m.action) (did_in w m)))
          ∙ ap (λ (o : Option Input). joined (server_events s w f.kept.number o (step_by w.server m.chosen o))) is
          ∙ ap (λ (o : Option File). joined (table.server_goes s w (step w.server m.chosen i) i o
          (file_at (step w.server m.chosen i).state.files f.kept.number))) there
          ∙ ap (λ (o : Option File). joined (table.server_goes s w (step w.server m.chosen i) i (Some f) o)) goes_there

      pub alike : AwaitedAreSent w → IsAlike w (move w m).world
      alike sent = server_move_alike w m.chosen sent m.action (allowed_at w h moment m.action is_due) none i is

      abbrev Rebuilt : List Event → Type 0
      Rebuilt es = RebuiltStand (after_all s es) (move w m).world f g (step w.server m.chosen i).notes

      pub by_server : IsLaidOut f → AwaitedAreSent w → OfServer w (move w m).world f g i →
          RebuiltStand (after_all s (joined (events_of s w (owed k) f m))) (move w m).world f g
          (step w.server m.chosen i).notes →
          AreComponents (after_all s (joined (events_of s w (owed k) f m))) (move w m).world g
      by_server laid sent o rebuilt =
          subst (λ (es : List Event). AreComponents (after_all s es) (move w m).world g) (sym events_are)
          (step_components s w v f g i m.chosen (safe laid) k.components there goes_there k.kept.tag (alike sent) o
          (subst Rebuilt events_are rebuilt))

      pub server_replied : IsLaidOut f → AwaitedAreSent w → OfServer w (move w m).world f g i →
          RebuiltStand (after_all s (joined (events_of s w (owed k) f m))) (move w m).world f g
          (step w.server m.chosen i).notes →
          AreReplied (after_all s (joined (events_of s w (owed k) f m))) (move w m).world g
      server_replied laid sent o rebuilt =
          subst (λ (es : List Event). AreReplied (after_all s es) (move w m).world g) (sym events_are)
          (step_replied s w v f g i m.chosen (safe laid) k.components there goes_there k.kept.tag (alike sent) o
          (subst Rebuilt events_are rebuilt) k.sent.replied)

-- ---- all of them

module _ (w : World) (h : List Line) (m : Move) (f g : File) (s : State) (k : FollowsWhole w h m f g s)
    (o : OfMove k) where
  abbrev Goal : Type 0
  Goal = AreComponents (whole_behind k) (move w m).world g × AreReplied (whole_behind k) (move w m).world g

  abbrev Behind : File → Type 0
  Behind x = AreComponents (whole_behind k) (move w m).world x × AreReplied (whole_behind k) (move w m).world x

  parties : (x : Option Going) → going_in w m.action ≡ x → (i : Option Input) → input_in w m.action ≡ i → Goal
  parties (Some x) is i at =
      let c = k.follows in
      subst Behind (client_file w h m f g s c.moment c.is_due c.there c.run c.related x is c.goes) (
        by_client w h m f g s c.moment c.is_due c.there c.run c.related x is k.lawful (o.client x is),
        client_replied w h m f g s c.moment c.is_due c.there c.run c.related x is,
      )
  parties None rests (Some i) is =
      let c = k.follows in (
        by_server w h m f g s c.moment c.is_due c.there c.run c.related i is c.goes o.laid o.awaited (o.server i is).0
            (o.server i is).1,
        server_replied w h m f g s c.moment c.is_due c.there c.run c.related i is c.goes o.laid o.awaited (o.server i is).0
            (o.server i is).1,
      )
  parties None rests None nothing =
      let c = k.follows in
      let well = by_drive w h m f g s c.moment c.is_due c.there c.run c.related rests nothing o.laid (o.drive rests nothing).0
      o.awaited (o.drive rests nothing).1 in
      subst Behind (drive_file w h m f g s c.moment c.is_due c.there c.run c.related rests nothing c.goes)
      (well.components, drive_replied w h m f g s c.moment c.is_due c.there c.run c.related rests nothing well)

  both : Goal
  both = parties (going_in w m.action) refl (input_in w m.action) refl

  -- the components behind a whole move
  pub components_go_on : AreComponents (whole_behind k) (move w m).world g
  components_go_on = both.0

  -- and the replies to what stands in clients' lanes
  pub replied_goes_on : AreReplied (whole_behind k) (move w m).world g
  replied_goes_on = both.1

-- ---- the first lines of a drive's move

-- their events may happen
pub drive_lawful : (w : World) (h : List Line) (m : Move) (count : ℕ) (f g : File) (s : State) (k : Follows w h m count f g s) →
    going_in w m.action ≡ None → input_in w m.action ≡ None → IsLaidOut f → OfDrives s w f → AwaitedAreSent w →
    NoneIsGuessed w m.action → Lawful s (joined (take count (events_of s w (owed k.related) f m)))
drive_lawful w h m count f g s k rests nothing laid o sent guess =
    lawful_taken count s (events_of s w (owed k.related) f m)
    (by_drive w h m f g s k.moment k.is_due k.there k.run k.related rests nothing laid o sent guess).lawful
