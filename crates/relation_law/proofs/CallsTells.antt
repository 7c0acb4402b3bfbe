-- What a client's turn sends: the machine behind the events of its messages.
-- Towards `CallsGoOn` (`specs/Steps.antt`).
use Rattle.std.proofs.Common.{◌≡◌, ◌==◌, ℕ, ◌+◌, ◌*◌, ◌≤◌, Bool, true, false, List, [], ◌∷◌, ◌++◌, map, Option, Some, append_assoc, refl, sym, ap, subst, ◌∙◌, inl, inr, if◌then◌else◌}
use Rattle.std.proofs.lemmas.Bool.{true≢false}
use Rattle.std.proofs.lemmas.List.{append-nil}
use Rattle.fence_law.proofs.Words.{updated_same}
use Rattle.data_map.specs.declared.check.RawMap.{RawMap}
use Rattle.osd_drive.specs.Table.{is_write as is_write_action}
use Rattle.osd_commands.specs.declared.commands.Command.{Command}
use Rattle.client_rules.specs.declared.limits.TheConstants.{NONCES}
use Rattle.client_rules.specs.Calls.{file_of, span_of, is_write}
use Rattle.client_rules.specs.Grants.{held_of, clipped}
use Rattle.client_rules.specs.Messages.{to_drive}
use Rattle.client_rules.specs.Steps.{awaited_component}
use Rattle.world_history.specs.ClientNames.{Client, Call, Held, Awaited, Store, Io, RecallAnswer, Outgoing, AnswersRecall}
use Rattle.fence_law.specs.State.{State, Grant, Event}
use Rattle.fence_law.specs.State as machine
use Rattle.fence_law.specs.State.{Event as event}
use Rattle.fence_law.specs.State.Call.{Idle, Writes as AtWrite, Reads as AtRead}
use Rattle.fence_law.specs.Machine.{after, after_all}
use Rattle.plan_law.specs.Writes.{touches_column}
use Rattle.file_simulation.specs.EventLists.{where_so, entry_of, is_idle, is_writing}
use Rattle.file_simulation.specs.Events.{joined}
use Rattle.file_simulation.specs.ClientEvents as table
use Rattle.file_simulation.specs.Calls.{IsReading, IsGathering, IsScattering}
use Rattle.relation_law.specs.CallsTurns.{PendsRead, PendsGather, IsSending, store_of, stores_of}
use Rattle.relation_law.proofs.CallsEnded.{IsUnmoved}
use Rattle.relation_law.proofs.CallsSends.{read_starts, gather_starts}
use Rattle.relation_law.proofs.CallsOut.{write_sent}
use Rattle.relation_law.proofs.KeptNotes.{after_both}

-- ---- messages, one behind the other

unfoldable pub told : State → (file c : ℕ) → Client → List Outgoing → State
told s file c x [] = s
told s file c x (o ∷ os) = told (after_all s (table.sends s file c x o)) file c x os

pub told_is : (s : State) (file c : ℕ) (x : Client) (os : List Outgoing) →
    after_all s (joined (table.sends_all s file c x os)) ≡ told s file c x os
unfolding told table.sends_all
told_is s file c x [] = refl
told_is s file c x (o ∷ os) =
    after_both s (table.sends s file c x o) (joined (table.sends_all (after_all s (table.sends s file c x o)) file c x os))
    ∙ told_is (after_all s (table.sends s file c x o)) file c x os

pub told_more : (s : State) (file c : ℕ) (x : Client) (os ps : List Outgoing) →
    told s file c x (os ++ ps) ≡ told (told s file c x os) file c x ps
unfolding told
told_more s file c x [] ps = refl
told_more s file c x (o ∷ os) ps = told_more (after_all s (table.sends s file c x o)) file c x os ps

-- by the events of the first message
pub told_by : (s : State) (file c : ℕ) (x : Client) (o : Outgoing) (os : List Outgoing) (es : List Event) →
    table.sends s file c x o ≡ es → told s file c x (o ∷ os) ≡ told (after_all s es) file c x os
unfolding told
told_by s file c x o os es e = ap (λ (l : List Event). told (after_all s l) file c x os) e

-- answers to recalls have no event
pub recalls_told : (s : State) (file c : ℕ) (x : Client) (rs : List RecallAnswer) → told s file c x (map AnswersRecall rs) ≡ s
unfolding told
recalls_told s file c x [] = refl
recalls_told s file c x (r ∷ rs) = recalls_told s file c x rs

-- nor have commands of a call on another file, or behind a call that is over
pub commands_quiet : (s : State) (file c : ℕ) (x : Client) (cs : List Awaited) →
    ((t : State) (k : Command) → table.commands_in t file c x k x.call ≡ []) → told s file c x (map to_drive cs) ≡ s
unfolding told
commands_quiet s file c x [] none = refl
commands_quiet s file c x (a ∷ cs) none =
    told_by s file c x (to_drive a) (map to_drive cs) [] (none s a.command) ∙ commands_quiet s file c x cs none

-- ---- the commands of a call on the file

-- What a command is: one of this kind, to the component that its nonce names, at the offset that is asked, with a nonce of
-- the grant.
pub record CommandFits (x : Client) (h : Held) (write : Bool) (a : Awaited) : Type 0 where
  pub action : is_write_action a.command.action ≡ write
  pub named : awaited_component x a.command.nonce ≡ Some a.ask.component
  pub offset : a.command.offset ≡ a.ask.offset
  pub nonce : a.command.nonce ≤ h.number * NONCES + h.count

abbrev pub CommandsFit : Client → Held → (write : Bool) → List Awaited → Type 0
CommandsFit x h write [] = Unit {0}
CommandsFit x h write (a ∷ cs) = CommandFits x h write a × CommandsFit x h write cs

unmoved : (s : State) (c : ℕ) → IsUnmoved s s c
unmoved s c = record { held = refl; size = refl; nonce = refl; waiting = refl; sequence = refl; answers = refl; next = refl }

module _ (file c : ℕ) (x : Client) (call : Call) (call_is : x.call ≡ Some call) (here : (file_of call.op == file) ≡ true)
    (h : Held) (holds : held_of x.held file ≡ Some h) where
  -- the events of a command
  abbrev of_command : State → Awaited → List Event
  of_command s a = table.sends s file c x (to_drive a)

  -- under the machine's grant
  under : (s : State) (g : Grant) (a : Awaited) → s.held c ≡ Some g →
      of_command s a ≡ (if is_write_action a.command.action
      then table.sends_write s c h call.op (awaited_component x a.command.nonce) a.command g
      else table.sends_read s c h call.op g)
  under s g a has = rw (call_is, here, holds, has) refl

  -- ---- READs

  pub read_command : (s : State) (g : Grant) (a : Awaited) → s.held c ≡ Some g → CommandFits x h false a →
      of_command s a ≡ where_so (is_idle (s.call c)) (table.starts c h call.op g)
  read_command s g a has f = under s g a has ∙ by_action (is_write_action a.command.action) f.action
    where
      by_action : (b : Bool) → b ≡ false →
          (if b then table.sends_write s c h call.op (awaited_component x a.command.nonce) a.command g
          else table.sends_read s c h call.op g) ≡ table.sends_read s c h call.op g
      by_action false e = refl
      by_action true e = absurd (true≢false e)

  -- while an entry runs nothing more starts
  pub reads_on : (s : State) (g : Grant) (cs : List Awaited) (j : ℕ) → s.held c ≡ Some g → s.call c ≡ AtRead j →
      CommandsFit x h false cs → told s file c x (map to_drive cs) ≡ s
  unfolding told
  reads_on s g [] j has at_ f = refl
  reads_on s g (a ∷ cs) j has at_ f =
      told_by s file c x (to_drive a) (map to_drive cs) []
      (read_command s g a has f.0 ∙ ap (λ (k : machine.Call). where_so (is_idle k) (table.starts c h call.op g)) at_)
      ∙ reads_on s g cs j has at_ f.1

  first_read : (s : State) (g : Grant) (a : Awaited) (cs : List Awaited) → s.held c ≡ Some g → s.call c ≡ Idle →
      CommandsFit x h false (a ∷ cs) →
      told s file c x (map to_drive (a ∷ cs)) ≡ told (after_all s (table.starts c h call.op g)) file c x (map to_drive cs)
  first_read s g a cs has at_ f =
      told_by s file c x (to_drive a) (map to_drive cs) (table.starts c h call.op g)
      (read_command s g a has f.0 ∙ ap (λ (k : machine.Call). where_so (is_idle k) (table.starts c h call.op g)) at_)

  pub reads_told : (s : State) (g : Grant) (cs : List Awaited) → s.held c ≡ Some g → is_write call.op ≡ false →
      CommandsFit x h false cs → PendsRead s c call.op cs →
      IsUnmoved s (told s file c x (map to_drive cs)) c
      × ((j : ℕ) × IsReading (told s file c x (map to_drive cs)) c call.op j)
  reads_told s g cs has reads f (inl (j, k)) = rw (reads_on s g cs j has k.at_ f) (unmoved s c, (j, k))
  reads_told s g [] has reads f (inr (idle, some)) = absurd some
  reads_told s g (a ∷ cs) has reads f (inr (idle, some)) =
      let lo : ℕ = (span_of call.op).offset in
      let hi : ℕ = (span_of call.op).offset + (span_of call.op).length in
      let reach : ℕ → Bool = touches_column h.map (clipped h.size (span_of call.op)) in
      let t : State = after s (event.StartsRead c g lo hi reach) in
      let k : IsReading t c call.op s.count = read_starts s c call.op g reach idle has in
      rw (first_read s g a cs has idle.at_ f, reads, reads_on t g cs s.count has k.at_ f.1) (
        record { held = refl; size = refl; nonce = refl; waiting = refl; sequence = refl; answers = refl; next = refl },
        (s.count, k),
      )

  pub gathers_told : (m : RawMap) → h.map ≡ m → (s : State) (g : Grant) (cs : List Awaited) → s.held c ≡ Some g →
      is_write call.op ≡ true → CommandsFit x h false cs → PendsGather m s c call.op cs →
      IsUnmoved s (told s file c x (map to_drive cs)) c
      × ((j : ℕ) × IsGathering m (told s file c x (map to_drive cs)) c call.op j)
  gathers_told m map_is s g cs has writes f (inl (j, k)) = rw (reads_on s g cs j has k.at_ f) (unmoved s c, (j, k))
  gathers_told m map_is s g [] has writes f (inr (idle, some)) = absurd some
  gathers_told m map_is s g (a ∷ cs) has writes f (inr (idle, some)) =
      let t : State = after s (event.StartsRead c g 0 0 (touches_column h.map (span_of call.op))) in
      let k : IsGathering h.map t c call.op s.count = gather_starts h.map s c call.op g idle has in
      rw (first_read s g a cs has idle.at_ f, writes, reads_on t g cs s.count has k.at_ f.1) (
        record { held = refl; size = refl; nonce = refl; waiting = refl; sequence = refl; answers = refl; next = refl },
        (s.count, subst (λ n. IsGathering n t c call.op s.count) map_is k),
      )

  -- ---- WRITEs

  pub write_command : (s : State) (g : Grant) (a : Awaited) → s.held c ≡ Some g → CommandFits x h true a →
      of_command s a ≡ table.sends_write s c h call.op (Some a.ask.component) a.command g
  write_command s g a has f =
      under s g a has ∙ by_action (is_write_action a.command.action) f.action
      ∙ ap (λ (k : Option ℕ). table.sends_write s c h call.op k a.command g) f.named
    where
      by_action : (b : Bool) → b ≡ true →
          (if b then table.sends_write s c h call.op (awaited_component x a.command.nonce) a.command g
          else table.sends_read s c h call.op g)
          ≡ table.sends_write s c h call.op (awaited_component x a.command.nonce) a.command g
      by_action true e = refl
      by_action false e = absurd (true≢false (sym e))

  -- one part goes out
  abbrev part_sent : State → Grant → Awaited → State
  part_sent s g a = after s (event.Sends c a.ask.component g (entry_of s c) a.ask.offset a.command.nonce)

  pub one_sent : (s : State) (g : Grant) (a : Awaited) → s.held c ≡ Some g → (j : ℕ) → s.call c ≡ AtWrite j →
      CommandFits x h true a →
      of_command s a ≡ event.Sends c a.ask.component g (entry_of s c) a.ask.offset a.command.nonce ∷ []
  one_sent s g a has j at_ f =
      write_command s g a has f
      ∙ by_call (s.call c) at_
      ∙ ap (λ (n : ℕ). event.Sends c a.ask.component g (entry_of s c) n a.command.nonce ∷ []) f.offset
    where
      by_call : (k : machine.Call) → k ≡ AtWrite j →
          (if is_writing k then table.sends_on s c (Some a.ask.component) a.command g
          else if is_idle k then table.sends_behind s c h call.op (Some a.ask.component) a.command g
          else table.sends_first s c h call.op (Some a.ask.component) a.command g)
          ≡ table.sends_on s c (Some a.ask.component) a.command g
      by_call k e = rw e refl

  -- behind the WRITEs the machine has of the client what it had, but for their nonces
  abbrev pub IsBeyond : (s t : State) → Type 0
  IsBeyond s t = record {
    held : t.held c ≡ s.held c;
    size : t.known_size c ≡ s.known_size c;
    nonce : t.nonce c ≤ h.number * NONCES + h.count;
    waiting : t.waiting c ≡ s.waiting c;
    next : t.next ≡ s.next;
  }

  pub beyond_more : (s t u : State) → IsBeyond s t → IsBeyond t u → IsBeyond s u
  beyond_more s t u a b = record {
    held = b.held ∙ a.held;
    size = b.size ∙ a.size;
    nonce = b.nonce;
    waiting = b.waiting ∙ a.waiting;
    next = b.next ∙ a.next;
  }

  pub all_sent : (s : State) (g : Grant) (io : Io) (queue : List Store) (cs : List Awaited) → s.held c ≡ Some g →
      s.nonce c ≤ h.number * NONCES + h.count → CommandsFit x h true cs → IsSending s c call.op io queue cs →
      IsBeyond s (told s file c x (map to_drive cs))
      × ((j : ℕ) × IsScattering (told s file c x (map to_drive cs)) c call.op io queue j)
  unfolding told
  all_sent s g io queue [] has low f k = (
    record { held = refl; size = refl; nonce = low; waiting = refl; next = refl },
    (
      k.entry,
      got_more s k.entry io queue k.before
          (subst (λ l. io.awaited ≡ l) (append-nil k.before) k.awaited) k.scattering,
    ),
  )
    where
      got_more : (t : State) (j : ℕ) (y : Io) (ws : List Store) (before : List Awaited) → y.awaited ≡ before →
          IsScattering t c call.op (record { awaited = before; got = y.got; timed = y.timed }) ws j →
          IsScattering t c call.op y ws j
      got_more t j y ws before e z =
          subst (λ l. IsScattering t c call.op (record { awaited = l; got = y.got; timed = y.timed }) ws j) (sym e) z
  all_sent s g io queue (a ∷ cs) has low f k =
      let t : State = part_sent s g a in
      let sent : IsScattering t c call.op (record { awaited = k.before ++ a ∷ []; got = io.got; timed = io.timed })
      (stores_of cs ++ queue) k.entry =
      write_sent s c call.op io.got io.timed k.before (store_of a) (stores_of cs ++ queue) k.entry k.scattering g
      (entry_of s c) a refl in
      let rest = all_sent t g io queue cs has (nonce_now t) f.1
      (record {
        entry = k.entry;
        before = k.before ++ a ∷ [];
        awaited = k.awaited ∙ sym (append_assoc k.before (a ∷ []) cs);
        scattering = sent;
      }) in
      let e : told s file c x (map to_drive (a ∷ cs)) ≡ told t file c x (map to_drive cs) =
      told_by s file c x (to_drive a) (map to_drive cs)
      (event.Sends c a.ask.component g (entry_of s c) a.ask.offset a.command.nonce ∷ [])
      (one_sent s g a has k.entry k.scattering.writing.at_ f.0) in
      rw e (
        beyond_more s t (told t file c x (map to_drive cs))
            (record { held = refl; size = refl; nonce = nonce_now t; waiting = refl; next = refl }) rest.0,
        rest.1,
      )
    where
      nonce_now : (t : State) → (part_sent s g a).nonce c ≤ h.number * NONCES + h.count
      nonce_now t = rw (updated_same s.nonce c a.command.nonce) f.0.nonce
