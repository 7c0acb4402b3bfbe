-- Where a client or the server sends its messages again, the entries of the log are paired as they were.
-- Towards `CutsShowEntries` (`specs/Parts.antt`).
use Rattle.std.proofs.Common.{◌≡◌, ℕ, zero, suc, ◌+◌, Bool, true, false, List, [], ◌∷◌, ◌++◌, filter, length, map, take, Option, Some, None, refl, sym, ap, subst, ◌∙◌, if◌then◌else◌, ◌==◌, inl, inr, arith}
use Rattle.std.proofs.lemmas.Bool.{cases_eq}
use Rattle.std.proofs.lemmas.List.{take_all}
use Rattle.client_rules.specs.Calls.{file_of}
use Rattle.std.specs.List.{fold, flat_map}
use Rattle.std.proofs.lemmas.List.Concat.{flat_map-cons}
use Rattle.scenario_text.specs.declared.event.Event.TheVariants as scenario
use Rattle.scenario_text.specs.declared.event.Sender.{Sender}
use Rattle.scenario_text.specs.declared.event.Sender.TheVariants as sender
use Rattle.scenario_text.specs.declared.line.Line.{Line}
use Rattle.scenario_text.specs.declared.line.Line.TheVariants as line
use Rattle.server_rules.specs.Files.{to_drives}
use Rattle.server_rules.specs.Messages.{awaited_by, resend}
use Rattle.client_rules.specs.History.{Resends, step}
use Rattle.client_rules.specs.Steps.{resent}
use Rattle.world_history.specs.Calm.{moment_of, sent_taken}
use Rattle.world_history.specs.ClientNames.{Client, CallOp, Call}
use Rattle.world_history.specs.Handed.{Post, is_addressed, client_posts, data_in, ended_by, op_in, pending_op, server_post, wrote_in, client_goes}
use Rattle.world_history.specs.Moves as world
use Rattle.world_history.specs.Moves.{Action, Opens, acts}
use Rattle.world_history.specs.ReadLog.{Log, Logged, Pending, log_after, entry_in, log_in}
use Rattle.world_history.specs.Sending.{Move, sends_all, sent_line, sent_lines}
use Rattle.world_history.specs.ServerNames as server_rules
use Rattle.world_history.specs.ServerNames.{File}
use Rattle.world_history.specs.State.{World, ClientAt, at_number}
use Rattle.history_law.specs.Moments.{IsMoment, with_event, lines_in}
use Rattle.exchange_law.specs.InStep.{state_of}
use Rattle.exchange_law.specs.Text.{AreOfText}
use Rattle.exchange_law.proofs.ClientMoves.{clients_always}
use Rattle.exchange_law.proofs.CountGrowing.{text_front}
use Rattle.exchange_law.proofs.CountMoments.{reached}
use Rattle.fence_law.specs.State.{State}
use Rattle.file_simulation.proofs.Fronts.{move_begun}
use Rattle.file_simulation.specs.Relation.{client_of}
use Rattle.file_simulation.specs.Showing.{Pairs, ArePaired}
use Rattle.file_simulation.specs.Tied.{AreTied, CallTied}
use Rattle.exchange_law.specs.Pending.{logged_op}
use Rattle.relation_law.specs.Working.{ClientWorks}
use Rattle.relation_law.proofs.KeptCommits.{client_low}
use Rattle.relation_law.proofs.MessagesRun.{IsFine}
use Rattle.relation_law.proofs.OwnFacts.{works_kept}
use Rattle.relation_law.proofs.ReturnsStands.{always_fine}
use Rattle.headline_law.specs.Parts.{CutShown, lines_to}
use Rattle.headline_law.proofs.CalmSends.{out_back}
use Rattle.headline_law.proofs.EntriesClient.{none_front, none_sent}
use Rattle.headline_law.proofs.EntriesClients.{ClientLaws}
use Rattle.headline_law.proofs.EntriesQuiet.{Leaves, AllLeave, ResendsLeaveEntries, front_leaves, leaves_all, leaves_none}
use Rattle.headline_law.proofs.EntriesRead.{NoneTaken, begun_untold, cut_plain}
use Rattle.headline_law.proofs.EntriesBehindBeside.{all_for, sent_for}
use Rattle.headline_law.proofs.EntriesBehindLines.{ResendsLeaveCalls, leaves_calls}
use Rattle.headline_law.proofs.EntriesResends.{resent_paired, resent_pending}
use Rattle.headline_law.proofs.EntriesShown.{pending_there, stands_there}

-- ---- what the server sends again

-- these are commands to drives
abbrev AllToDrives : List server_rules.Outgoing → Type 0
AllToDrives [] = Unit {0}
AllToDrives (server_rules.ToDrive d x ∷ os) = AllToDrives os
AllToDrives (o ∷ os) = ⊥

to_drives_more : (ds : List server_rules.Drive) (cs : List server_rules.Awaited) (os : List server_rules.Outgoing) →
    AllToDrives os → AllToDrives (to_drives ds cs ++ os)
to_drives_more ds [] os k = k
to_drives_more ds (a ∷ cs) os k = to_drives_more ds cs os k

resend_drives : (ds : List server_rules.Drive) (fs : List File) →
    AllToDrives (flat_map (λ (f : File). to_drives ds (awaited_by f.job)) fs)
resend_drives ds [] = tt
resend_drives ds (f ∷ fs) =
    subst AllToDrives (sym (flat_map-cons (λ (g : File). to_drives ds (awaited_by g.job)) f fs))
    (to_drives_more ds (awaited_by f.job) _ (resend_drives ds fs))

drive_line : (d : ℕ) (x : server_rules.Command) (n : ℕ) →
    Leaves (sent_line n (server_post (server_rules.ToDrive d x)).message)
drive_line d x n = record {
  entries = λ q. refl;
  calls = λ q c. refl;
  untaken = by (sent_taken (sent_line n (server_post (server_rules.ToDrive d x)).message)) refl;
}
  where
    by : (b : Bool) → sent_taken (sent_line n (server_post (server_rules.ToDrive d x)).message) ≡ b → b ≡ false
    by false e = refl
    by true e = absurd (cc (out_back (server_rules.ToDrive d x) (λ a z. absurd (cc z)) n e))

drive_lines : (os : List server_rules.Outgoing) → AllToDrives os → (n : ℕ) →
    AllLeave (sent_lines n (filter is_addressed (map server_post os)))
unfolding sent_lines
drive_lines [] k n = tt
drive_lines (server_rules.ToDrive d x ∷ os) k n =
    by (is_addressed (server_post (server_rules.ToDrive d x))) (drive_lines os k (n + 1)) (drive_lines os k n)
  where
    by : (b : Bool) → AllLeave (sent_lines (n + 1) (filter is_addressed (map server_post os))) →
        AllLeave (sent_lines n (filter is_addressed (map server_post os))) →
        AllLeave (sent_lines n (if b then server_post (server_rules.ToDrive d x) ∷ filter is_addressed (map server_post os)
        else filter is_addressed (map server_post os)))
    by true next now = (drive_line d x n, next)
    by false next now = now
drive_lines (server_rules.Recalls r ∷ os) k n = absurd k
drive_lines (server_rules.Answers a ∷ os) k n = absurd k
drive_lines (server_rules.AnswersOrder a ∷ os) k n = absurd k

-- ---- what a client sends again

none_ended : (c : ℕ) (o : Option CallOp) → ended_by c o None ≡ []
none_ended c None = refl
none_ended c (Some op) = refl

none_lines : (n : ℕ) → AllLeave (sent_lines n [])
unfolding sent_lines
none_lines n = tt

module _ (laws : ClientLaws) (w : World) (h : List Line) (m : Move) (count : ℕ) (f g : File) (s : State) (pairs : Pairs)
    (k : CutShown w h m count f g s pairs) (tied : AreTied w h s f.kept.number pairs) where
  abbrev l : Log
  l = (moment_of h).log

  moment : IsMoment w h
  moment = k.shown.follows.moment

  text : AreOfText h
  text = text_front h (take count (lines_in w m)) k.shown.follows.calm.scenario.text

  -- lines that tell of no answer, and leave the entries paired up to any of them
  record LeavesPaired (ls : List Line) : Type 0 where
    untaken : NoneTaken ls
    paired : (n : ℕ) → ArePaired s f.kept.number (fold log_after l (take n ls)).entries pairs
    calls : (d : ℕ) (call : Call) → (client_of w d).call ≡ Some call → (file_of call.op == f.kept.number) ≡ true →
        entry_in (at_number (fold log_after l ls).pending d) ≡ entry_in (at_number l.pending d)

  leaves_paired : (ls : List Line) → AllLeave ls → LeavesPaired ls
  leaves_paired ls all = record {
    untaken = leaves_none ls all;
    paired = λ n.
        subst (λ (es : List Logged). ArePaired s f.kept.number es pairs)
        (sym (leaves_all (take n ls) (front_leaves n ls all) l)) k.shown.shown.paired;
    calls = λ d call is here. leaves_calls ls all l d;
  }

  -- ---- the server

  server_resends : (a : Action) → a ≡ Opens (scenario.Resend sender.Server) →
      LeavesPaired (with_event a (sends_all (acts w m.chosen a)).lines)
  unfolding world.begins world.gives sent_lines
  server_resends a is =
      subst (λ (b : Action). LeavesPaired (with_event b (sends_all (acts w m.chosen b)).lines)) (sym is)
      (leaves_paired (line.Event (scenario.Resend sender.Server) ∷ sent_lines (length w.network.messages)
      (filter is_addressed (map server_post (resend w.server)))) (
        record { entries = λ q. refl; untaken = refl; calls = λ q d. refl },
        drive_lines (resend w.server) (resend_drives w.server.drives w.server.files) (length w.network.messages),
      ))

  -- ---- a client

  module _ (c : ℕ) (a : ClientAt) (found : at_number w.clients c ≡ Some a) where
    same : client_of w c ≡ a.state
    same = ap (state_of c) found

    agrees : logged_op (at_number (moment_of h).log.pending c) ≡ pending_op a.state
    agrees =
        ap (λ (ps : List (ℕ × Pending)). logged_op (at_number ps c))
        (pending_there laws.reading w h m count f g s pairs k)
        ∙ laws.calls w h moment text c ∙ ap pending_op same

    call_tied : CallTied s f.kept.number c pairs (entry_in (at_number (moment_of h).log.pending c)) a.state.call
    call_tied =
        subst (λ (x : Client). CallTied s f.kept.number c pairs (entry_in (at_number (moment_of h).log.pending c)) x.call) same
        (subst (λ (ps : List (ℕ × Pending)). CallTied s f.kept.number c pairs (entry_in (at_number ps c)) (client_of w c).call)
        (sym (pending_there laws.reading w h m count f g s pairs k)) (tied.calls c (client_low w h moment text c a found)))

    fine : IsFine a.state
    fine = clients_always (λ n x. IsFine x) always_fine w (reached w h moment) c a found

    works : ClientWorks a.state
    works = clients_always (λ n x. ClientWorks x) works_kept w (reached w h moment) c a found

    client_lines : (wrote : Bool) (logged number : ℕ) →
        LeavesPaired (line.Event (scenario.Resend (sender.Client c))
        ∷ sent_lines number (client_posts c wrote logged (resent a.state)))
    client_lines wrote logged number = record {
      untaken = (refl, none_sent c number wrote logged (resent a.state));
      paired = paired_to;
      calls = λ d call is here. elim (cases_eq d c) [
        | inl one ↦ own d one call is here
        | inr other ↦
            ap entry_in (all_for c (sent_lines number (client_posts c wrote logged (resent a.state)))
            (sent_for c number wrote logged (resent a.state)) l d other)
      ];
    }
      where
        own : (d : ℕ) → d ≡ c → (call : Call) → (client_of w d).call ≡ Some call →
            (file_of call.op == f.kept.number) ≡ true →
            entry_in (at_number (fold log_after l (sent_lines number (client_posts c wrote logged (resent a.state)))).pending d)
            ≡ entry_in (at_number l.pending d)
        own d one call is here =
            let its : a.state.call ≡ Some call =
            ap (λ (x : Client). x.call) (sym same) ∙ ap (λ (n : ℕ). (client_of w n).call) (sym one) ∙ is in
            let n : ℕ = length (sent_lines number (client_posts c wrote logged (resent a.state))) in
            ap (λ (ls : List Line). entry_in (at_number (fold log_after l ls).pending d))
            (sym (take_all n (sent_lines number (client_posts c wrote logged (resent a.state))) (omega arith)))
            ∙ ap (λ (ps : List (ℕ × Pending)). entry_in (at_number ps d))
            (resent_pending s f.kept.number c pairs a.state l
            (stands_there laws.reading w h m count f g s pairs k tied) agrees call_tied fine works
            (λ y y_is.
            let both : Some call ≡ Some y = sym its ∙ y_is in
            let it : call ≡ y = cc both in
            subst (λ (z : Call). (file_of z.op == f.kept.number) ≡ true) it here) wrote logged number n)

        paired_to : (n : ℕ) → ArePaired s f.kept.number
            (fold log_after l (take n (line.Event (scenario.Resend (sender.Client c))
            ∷ sent_lines number (client_posts c wrote logged (resent a.state))))).entries pairs
        paired_to zero = k.shown.shown.paired
        paired_to (suc n) =
            resent_paired s f.kept.number c pairs a.state l (stands_there laws.reading w h m count f g s pairs k tied) agrees
            call_tied fine works wrote logged number n

    its_lines : LeavesPaired (line.Event (scenario.Resend (sender.Client c))
        ∷ (sends_all (world.acted (client_goes w c a Resends))).lines)
    its_lines =
        let number : ℕ = length w.network.messages in
        let wrote : Bool = wrote_in a Resends in
        let logged : ℕ = data_in (op_in a.state Resends) in
        subst (λ (ls : List Line). LeavesPaired (line.Event (scenario.Resend (sender.Client c))
        ∷ (ls ++ sent_lines number (filter is_addressed (client_posts c wrote logged (step a.state Resends).sends)))))
        (sym (none_ended c (op_in a.state Resends)))
        (subst (λ (ps : List Post). LeavesPaired (line.Event (scenario.Resend (sender.Client c)) ∷ sent_lines number ps))
        (sym ((laws.named w h moment c a found Resends).all wrote logged)) (client_lines wrote logged number))

  client_resends : (c : ℕ) (a : Action) → a ≡ Opens (scenario.Resend (sender.Client c)) →
      LeavesPaired (with_event a (sends_all (acts w m.chosen a)).lines)
  unfolding world.begins world.resends
  client_resends c a is =
      subst (λ (b : Action). LeavesPaired (with_event b (sends_all (acts w m.chosen b)).lines)) (sym is)
      (by (at_number w.clients c) refl)
    where
      by : (o : Option ClientAt) → at_number w.clients c ≡ o →
          LeavesPaired (line.Event (scenario.Resend (sender.Client c))
          ∷ (sends_all (world.by_client w (λ (b : ClientAt). world.acted (client_goes w c b Resends)) o)).lines)
      by None e =
          leaves_paired (line.Event (scenario.Resend (sender.Client c)) ∷ sent_lines (length w.network.messages) [])
          (record { entries = λ q. refl; untaken = refl; calls = λ q d. refl }, none_lines (length w.network.messages))
      by (Some b) e = its_lines c b e

  its : (from : Sender) → m.action ≡ Opens (scenario.Resend from) → LeavesPaired (lines_in w m)
  its (sender.Client c) is = client_resends c m.action is
  its sender.Server is = server_resends m.action is

  resends_leave : (from : Sender) → m.action ≡ Opens (scenario.Resend from) →
      ArePaired s f.kept.number (moment_of (lines_to w h m count)).log.entries pairs
  resends_leave from is =
      let z : LeavesPaired (lines_in w m) = its from is in
      subst (λ (q : Log). ArePaired s f.kept.number q.entries pairs)
      (sym (begun_untold laws.reading.moments laws.reading.pending h (take count (lines_in w m)) (move_begun w m count)
      (none_front count (lines_in w m) z.untaken))) (z.paired count)

  resends_calls : (from : Sender) → m.action ≡ Opens (scenario.Resend from) → count ≡ length (lines_in w m) → (d : ℕ)
      (call : Call) → (client_of w d).call ≡ Some call → (file_of call.op == f.kept.number) ≡ true →
      entry_in (at_number (log_in (lines_to w h m count)).pending d) ≡ entry_in (at_number (log_in h).pending d)
  resends_calls from is full d call had here =
      let z : LeavesPaired (lines_in w m) = its from is in
      ap (λ (q : Log). entry_in (at_number q.pending d))
      (sym (cut_plain laws.reading.moments laws.reading.pending laws.reading.lines laws.reading.more w h moment m count))
      ∙ ap (λ (q : Log). entry_in (at_number q.pending d))
      (begun_untold laws.reading.moments laws.reading.pending h (take count (lines_in w m)) (move_begun w m count)
      (none_front count (lines_in w m) z.untaken))
      ∙ ap (λ (ls : List Line). entry_in (at_number (fold log_after l ls).pending d))
      (take_all count (lines_in w m) (omega (arith, full)))
      ∙ z.calls d call had here
      ∙ ap (λ (ps : List (ℕ × Pending)). entry_in (at_number ps d)) (pending_there laws.reading w h m count f g s pairs k)

-- Messages that are sent again leave the entries.
pub resends_leave_entries : ClientLaws → ResendsLeaveEntries
resends_leave_entries laws w h m count f g s pairs k tied from is = resends_leave laws w h m count f g s pairs k tied from is

-- and the entries of pending calls on the file.
pub resends_leave_calls : ClientLaws → ResendsLeaveCalls
resends_leave_calls laws w h m count f g s pairs k tied from is full d call had here =
    resends_calls laws w h m count f g s pairs k tied from is full d call had here
