-- The events of a client's messages can happen, each behind those of the messages before it.
use Rattle.std.proofs.Common.{◌≡◌, ◌==◌, ℕ, true, false, List, [], ◌∷◌, ◌++◌, map, Some, refl, sym, ap, subst, ◌∙◌, inl, inr}
use Rattle.data_map.specs.declared.check.RawMap.{RawMap}
use Rattle.data_map.specs.Check.{IsChecked}
use Rattle.osd_commands.specs.declared.commands.Command.{Command}
use Rattle.client_rules.specs.Calls.{file_of, is_write, span_of}
use Rattle.client_rules.specs.Grants.{held_of, is_for}
use Rattle.client_rules.specs.Messages.{to_drive}
use Rattle.world_history.specs.ClientNames.{Client, Call, Held, Awaited, Store, Io, RecallAnswer, Outgoing, AnswersRecall}
use Rattle.fence_law.specs.State.{State, Grant, Event}
use Rattle.fence_law.specs.State as machine
use Rattle.fence_law.specs.State.{Event as event}
use Rattle.fence_law.specs.State.Call.{Reads as AtRead}
use Rattle.fence_law.specs.Machine.{Allowed, Lawful, after, after_all}
use Rattle.fence_law.proofs.Words.{updated_same}
use Rattle.plan_law.specs.FileLayout.{layout_of}
use Rattle.plan_law.specs.Writes.{touches_column}
use Rattle.file_simulation.specs.EventLists.{where_so, entry_of, is_idle}
use Rattle.file_simulation.specs.Events.{joined}
use Rattle.file_simulation.specs.ClientEvents as table
use Rattle.file_simulation.specs.Calls.{IsGathering, IsHolding, IsIdle}
use Rattle.relation_law.specs.CallsTurns.{PendsRead, PendsGather, IsSending, stores_of, store_of}
use Rattle.relation_law.specs.MessagesSending.{RiseFrom}
use Rattle.relation_law.proofs.CallsGuards.{entry_writes}
use Rattle.relation_law.proofs.CallsOut.{write_sent}
use Rattle.relation_law.proofs.CallsSends.{gather_starts}
use Rattle.relation_law.proofs.CallsStarts.{IsPlannedAt, gathered_none, sending, first_events, idle_events}
use Rattle.relation_law.proofs.CallsTells.{told, CommandsFit, read_command, one_sent}
use Rattle.relation_law.proofs.MessagesScatter.{write_starts}
use Rattle.relation_law.proofs.ReadsStarts.{read_may_start, gather_may_start}
use Rattle.relation_law.proofs.RequestsLawful.{lawful_more}
use Rattle.relation_law.proofs.KeptNotes.{after_both}

-- The events of each of these messages can happen, behind those of the messages before it.
abbrev pub MaySendThese : State → (file c : ℕ) → Client → List Outgoing → Type 0
MaySendThese s file c x [] = Unit {0}
MaySendThese s file c x (o ∷ os) =
    Lawful s (table.sends s file c x o) × MaySendThese (after_all s (table.sends s file c x o)) file c x os

pub messages_lawful : (s : State) (file c : ℕ) (x : Client) (os : List Outgoing) → MaySendThese s file c x os →
    Lawful s (joined (table.sends_all s file c x os))
unfolding table.sends_all
messages_lawful s file c x [] k = tt
messages_lawful s file c x (o ∷ os) k =
    lawful_more s (table.sends s file c x o) (joined (table.sends_all (after_all s (table.sends s file c x o)) file c x os)) k.0
    (messages_lawful (after_all s (table.sends s file c x o)) file c x os k.1)

pub messages_more : (s : State) (file c : ℕ) (x : Client) (os ps : List Outgoing) → MaySendThese s file c x os →
    MaySendThese (told s file c x os) file c x ps → MaySendThese s file c x (os ++ ps)
unfolding told
messages_more s file c x [] ps k l = l
messages_more s file c x (o ∷ os) ps k l = (k.0, messages_more (after_all s (table.sends s file c x o)) file c x os ps k.1 l)

-- by the events of the first message
by_events : (s : State) (file c : ℕ) (x : Client) (o : Outgoing) (os : List Outgoing) (es : List Event) →
    table.sends s file c x o ≡ es → Lawful s es → MaySendThese (after_all s es) file c x os → MaySendThese s file c x (o ∷ os)
by_events s file c x o os es e lawful rest =
    subst (λ (l : List Event). Lawful s l × MaySendThese (after_all s l) file c x os) (sym e) (lawful, rest)

-- where these stand before the events that it would have behind them
behind_events : (s : State) (file c : ℕ) (x : Client) (o : Outgoing) (os : List Outgoing) (es : List Event) →
    table.sends s file c x o ≡ es ++ table.sends (after_all s es) file c x o → Lawful s es →
    MaySendThese (after_all s es) file c x (o ∷ os) → MaySendThese s file c x (o ∷ os)
behind_events s file c x o os es e lawful rest =
    let fs : List Event = table.sends (after_all s es) file c x o in
    by_events s file c x o os (es ++ fs) e (lawful_more s es fs lawful rest.0)
    (subst (λ (t : State). MaySendThese t file c x os) (sym (after_both s es fs)) rest.1)

-- answers to recalls have no event
pub recalls_may : (s : State) (file c : ℕ) (x : Client) (rs : List RecallAnswer) → MaySendThese s file c x (map AnswersRecall rs)
recalls_may s file c x [] = tt
recalls_may s file c x (r ∷ rs) = (tt, recalls_may s file c x rs)

-- nor have commands of a call on another file, or behind a call that is over
pub commands_may : (s : State) (file c : ℕ) (x : Client) (cs : List Awaited) →
    ((t : State) (k : Command) → table.commands_in t file c x k x.call ≡ []) → MaySendThese s file c x (map to_drive cs)
commands_may s file c x [] none = tt
commands_may s file c x (a ∷ cs) none =
    by_events s file c x (to_drive a) (map to_drive cs) [] (none s a.command) tt (commands_may s file c x cs none)

module _ (file c : ℕ) (x : Client) (call : Call) (call_is : x.call ≡ Some call) (here : (file_of call.op == file) ≡ true)
    (h : Held) (holds : held_of x.held file ≡ Some h) where
  -- ---- READs

  -- while an entry runs nothing more starts
  reads_run : (s : State) (g : Grant) (cs : List Awaited) (j : ℕ) → s.held c ≡ Some g → s.call c ≡ AtRead j →
      CommandsFit x h false cs → MaySendThese s file c x (map to_drive cs)
  reads_run s g [] j has at_ f = tt
  reads_run s g (a ∷ cs) j has at_ f =
      by_events s file c x (to_drive a) (map to_drive cs) []
      (read_command file c x call call_is here h holds s g a has f.0
      ∙ ap (λ (k : machine.Call). where_so (is_idle k) (table.starts c h call.op g)) at_) tt
      (reads_run s g cs j has at_ f.1)

  -- the first one starts the call's entry
  starts_is : (s : State) (g : Grant) (a : Awaited) → s.held c ≡ Some g → IsIdle s c → CommandsFit x h false (a ∷ []) →
      table.sends s file c x (to_drive a) ≡ table.starts c h call.op g
  starts_is s g a has idle f =
      read_command file c x call call_is here h holds s g a has f.0
      ∙ ap (λ (k : machine.Call). where_so (is_idle k) (table.starts c h call.op g)) idle.at_

  module _ (m : RawMap) (tag : ℕ) (checked : IsChecked m) (s : State) (k : IsHolding m s c h)
      (layout : s.layout ≡ layout_of m tag)
      (covers : is_for h.reach h.size call.op ≡ true) where
    pub reads_may : is_write call.op ≡ false → (cs : List Awaited) → CommandsFit x h false cs → PendsRead s c call.op cs →
        MaySendThese s file c x (map to_drive cs)
    reads_may reads cs f (inl (j, r)) = reads_run s k.grant cs j k.held r.at_ f
    reads_may reads [] f (inr (idle, some)) = tt
    reads_may reads (a ∷ cs) f (inr (idle, some)) =
        by_events s file c x (to_drive a) (map to_drive cs) (table.starts_read c h call.op k.grant)
        (starts_is s k.grant a k.held idle (f.0, tt) ∙ rw reads refl)
        (read_may_start m tag s c h call.op checked layout k idle.at_ reads covers, tt)
        (reads_run (after_all s (table.starts_read c h call.op k.grant)) k.grant cs s.count k.held
        (updated_same s.call c (AtRead s.count)) f.1)

    pub gathers_may : is_write call.op ≡ true → (cs : List Awaited) → CommandsFit x h false cs →
        PendsGather m s c call.op cs → MaySendThese s file c x (map to_drive cs)
    gathers_may writes cs f (inl (j, r)) = reads_run s k.grant cs j k.held r.at_ f
    gathers_may writes [] f (inr (idle, some)) = tt
    gathers_may writes (a ∷ cs) f (inr (idle, some)) =
        by_events s file c x (to_drive a) (map to_drive cs) (table.starts_gather c h call.op k.grant)
        (starts_is s k.grant a k.held idle (f.0, tt) ∙ rw writes refl)
        (gather_may_start m tag s c h call.op checked layout k idle.at_ writes covers, tt)
        (reads_run (after_all s (table.starts_gather c h call.op k.grant)) k.grant cs s.count k.held
        (updated_same s.call c (AtRead s.count)) f.1)

  -- ---- WRITEs

  -- of a write that runs
  pub sending_may : (s : State) (g : Grant) (io : Io) (queue : List Store) (cs : List Awaited) → s.held c ≡ Some g →
      RiseFrom (s.nonce c) cs → CommandsFit x h true cs → IsSending s c call.op io queue cs →
      MaySendThese s file c x (map to_drive cs)
  sending_may s g io queue [] has rise f k = tt
  sending_may s g io queue (a ∷ cs) has rise f k =
      let at_ = k.scattering.writing.at_ in
      let e : entry_of s c ≡ k.entry = entry_writes s c k.entry at_ in
      let content = k.scattering.content (store_of a) (inl refl) in
      let t : State = after s (event.Sends c a.ask.component g (entry_of s c) a.ask.offset a.command.nonce) in
      by_events s file c x (to_drive a) (map to_drive cs)
      (event.Sends c a.ask.component g (entry_of s c) a.ask.offset a.command.nonce ∷ [])
      (one_sent file c x call call_is here h holds s g a has k.entry at_ f.0) (
        record {
          new = rise.0;
          runs = at_ ∙ ap machine.Call.Writes (sym e);
          has = has;
          listed = ap (λ (n : ℕ). (s.start n).left a.ask.component) e ∙ content.listed;
          first = k.scattering.out.queued (store_of a) (inl refl);
        },
        tt,
      )
      (sending_may t g io queue cs has
      (subst (λ (n : ℕ). RiseFrom n cs) (sym (updated_same s.nonce c a.command.nonce)) rise.1) f.1
      (record {
        entry = k.entry;
        before = k.before ++ a ∷ [];
        awaited = k.awaited ∙ sym (append_one k.before a cs);
        scattering =
            write_sent s c call.op io.got io.timed k.before (store_of a) (stores_of cs ++ queue) k.entry k.scattering g
            (entry_of s c) a refl;
      }))
    where
      append_one : (xs : List Awaited) (b : Awaited) (ys : List Awaited) → (xs ++ b ∷ []) ++ ys ≡ xs ++ b ∷ ys
      append_one [] b ys = refl
      append_one (z ∷ xs) b ys = ap (λ (l : List Awaited). z ∷ l) (append_one xs b ys)

  -- of one that starts behind its gather
  pub gathered_may : (m : RawMap) (s : State) (k : IsHolding m s c h) (io : Io) (queue : List Store) (a : Awaited)
      (cs : List Awaited) →
      Allowed s (write_starts s c h call.op k.grant.left k.grant (entry_of s c)) → RiseFrom (s.nonce c) (a ∷ cs) →
      CommandsFit x h true (a ∷ cs) → (i : ℕ) → IsGathering m s c call.op i → io.awaited ≡ a ∷ cs →
      IsPlannedAt s c h call.op k.grant io queue (a ∷ cs) → MaySendThese s file c x (map to_drive (a ∷ cs))
  gathered_may m s k io queue a cs may rise f i gathering all plan =
      let g : Grant = k.grant in
      let es : List Event = table.starts_write s c (entry_of s c) h call.op g in
      let t : State = after_all s es in
      let runs : IsSending t c call.op io queue (a ∷ cs) =
      sending file c x call call_is here h holds m s g io queue a cs k.held k.nonce f i gathering all plan in
      let one : table.sends t file c x (to_drive a)
      ≡ event.Sends c a.ask.component g (entry_of t c) a.command.offset a.command.nonce ∷ [] =
      one_sent file c x call call_is here h holds t g a k.held runs.entry runs.scattering.writing.at_ f.0
      ∙ ap (λ (n : ℕ). event.Sends c a.ask.component g (entry_of t c) n a.command.nonce ∷ []) (sym f.0.offset) in
      behind_events s file c x (to_drive a) (map to_drive cs) es
      (first_events file c x call call_is here h holds m s g io queue a cs k.held k.nonce f i gathering all plan
      ∙ ap (λ (l : List Event). es ++ l) (sym one)) (may, tt)
      (sending_may t g io queue (a ∷ cs) k.held rise f runs)

  -- or behind an empty one
  pub idle_may : (m : RawMap) (s : State) (k : IsHolding m s c h) (io : Io) (queue : List Store) (a : Awaited)
      (cs : List Awaited) → IsIdle s c → CommandsFit x h true (a ∷ cs) → io.awaited ≡ a ∷ cs →
      IsPlannedAt (gathered_none s c h call.op k.grant) c h call.op k.grant io queue (a ∷ cs) →
      Allowed s (event.StartsRead c k.grant 0 0 (touches_column h.map (span_of call.op))) →
      MaySendThese (gathered_none s c h call.op k.grant) file c x (map to_drive (a ∷ cs)) →
      MaySendThese s file c x (map to_drive (a ∷ cs))
  idle_may m s k io queue a cs idle f all plan may rest =
      let g : Grant = k.grant in
      let u : State = gathered_none s c h call.op g in
      let first : table.sends u file c x (to_drive a)
      ≡ table.sends_first u c h call.op (Some a.ask.component) a.command g =
      first_events file c x call call_is here h holds h.map u g io queue a cs k.held k.nonce f s.count
      (gather_starts h.map s c call.op g idle k.held) all plan in
      behind_events s file c x (to_drive a) (map to_drive cs) (table.starts_gather c h call.op g)
      (idle_events file c x call call_is here h holds s g io queue a cs k.held k.nonce f idle all plan
      ∙ ap (λ (l : List Event). table.starts_gather c h call.op g ++ l) (sym first)) (may, tt) rest
