-- Behind the lines of a move's messages a WRITE has the entry that its client's pending call has there.
-- Towards `SentAreLogged` (`proofs/MarksNewLogged.antt`).
use Rattle.std.proofs.Common.{◌≡◌, ◌+◌, ℕ, List, [], ◌∷◌, length, slice_get, zero, suc, true, false, Option, Some, None, Result, Ok, Err, refl, sym, ap, subst, arith, ◌∙◌, inl, inr}
use Rattle.std.specs.List.{fold}
use Rattle.std.proofs.lemmas.Bool.{cases_eq, true≢false}
use Rattle.osd_objects.proofs.Entries.{lookup_beside, lookup_inserted}
use Rattle.osd_commands.specs.declared.actions.Action.{Action}
use Rattle.osd_commands.specs.declared.actions.Action.TheVariants as action
use Rattle.osd_commands.specs.declared.commands.Command.{Command}
use Rattle.osd_commands.specs.declared.commands.CommandErr.{CommandErr}
use Rattle.osd_commands.specs.Commands as commands
use Rattle.file_log.specs.declared.entry.Entry.{Entry}
use Rattle.file_log.specs.declared.entry.Entry.TheVariants as entry
use Rattle.scenario_text.specs.declared.event.Call.{Call}
use Rattle.scenario_text.specs.declared.event.Call.TheVariants as call
use Rattle.scenario_text.specs.declared.line.Party.{Party}
use Rattle.scenario_text.specs.declared.line.Party.TheVariants as party
use Rattle.client_rules.specs.Calls.{is_write}
use Rattle.world_history.specs.Moves.{op_of}
use Rattle.world_history.specs.Handed.{Post}
use Rattle.world_history.specs.ReadLog.{Log, Pending, log_after, entry_in, begins_beside, sends, sends_as, sends_in, sends_command, sends_write, sends_read, number_then}
use Rattle.world_history.specs.Sending.{sent_line, sent_lines}
use Rattle.world_history.specs.State.{at_number}
use Rattle.headline_law.proofs.MarksWritesLog.{sent_before}

-- what is so of a pending call stays so where its entry begins
abbrev pub StaysSo : (Option Pending → Type 0) → Type 0
StaysSo K = (p : Pending) (n : ℕ) → p.entry ≡ None → K (Some p) → K (Some (record p { entry = Some n }))

module _ (K : Option Pending → Type 0) (stays : StaysSo K) (c : ℕ) where
  abbrev Now : Log → Type 0
  Now l = K (at_number l.pending c)

  module _ (l : Log) (has : K (at_number l.pending c)) (number b : ℕ) where
    begun : (p : Pending) → at_number l.pending b ≡ Some p → (f g : ℕ) (e : Entry) (o : Option ℕ) → p.entry ≡ o →
        Now (begins_beside l b p f g e o)
    begun p there f g e (Some n) is = has
    begun p there f g e None is = elim (cases_eq c b) [
      | inl same ↦
          subst K
          (sym (lookup_inserted l.pending b (record p { entry = Some (length l.entries) }))
          ∙ ap (at_number (begins_beside l b p f g e None).pending) (sym same))
          (stays p (length l.entries) is (subst K (ap (at_number l.pending) same ∙ there) has))
      | inr other ↦ subst K (sym (lookup_beside l.pending b c _ other)) has
    ]

    by_write : (p : Pending) → at_number l.pending b ≡ Some p → (x : Command) (y : Call) → Now (sends_write l number b p x y)
    by_write p there x (call.Write f offset bytes) = begun p there f x.capability.grant _ p.entry refl
    by_write p there x (call.Read f offset count) = has

    by_read : (p : Pending) → at_number l.pending b ≡ Some p → (x : Command) (y : Call) → Now (sends_read l b p x y)
    by_read p there x (call.Write f offset bytes) = has
    by_read p there x (call.Read f offset count) = begun p there f x.capability.grant _ p.entry refl

    by_command : (p : Pending) → at_number l.pending b ≡ Some p → (x : Command) (a : Action) →
        Now (sends_command l number b p x a)
    by_command p there x action.Write = by_write p there x p.call
    by_command p there x action.Read = by_read p there x p.call
    by_command p there x a = has

    by_pending : (x : Command) (o : Option Pending) → at_number l.pending b ≡ o → Now (sends_in l number b x o)
    by_pending x None is = has
    by_pending x (Some p) is = by_command p is x x.action

    by_bytes : (r : Result Command CommandErr) → Now (sends_as l number b r)
    by_bytes (Ok x) = by_pending x (at_number l.pending b) refl
    by_bytes (Err e) = has

  one_keeps : (l : Log) (number : ℕ) (from_ to : Party) (bytes : List ℕ) → Now l → Now (sends l number from_ to bytes)
  one_keeps l number (party.Client b) (party.Drive d) bytes has = by_bytes l has number b (commands.reading bytes)
  one_keeps l number from_ to bytes has = has

  -- so it is behind all messages
  pub all_keep : (number : ℕ) (l : Log) (ps : List Post) → Now l → Now (fold log_after l (sent_lines number ps))
  unfolding sent_lines
  all_keep number l [] has = has
  all_keep number l (p ∷ ps) has =
      all_keep (number + 1) (log_after l (sent_line number p.message)) ps (one_keeps l number _ _ _ has)

-- ---- a WRITE of a write

abbrev pub HasNow : (at_ : ℕ) → Option Pending → Type 0
HasNow at_ o = entry_in o ≡ Some at_

abbrev pub Writes : Option Pending → Type 0
Writes o = (p : Pending) × (o ≡ Some p) × (is_write (op_of p.call) ≡ true)

has_stays : (at_ : ℕ) → StaysSo (HasNow at_)
has_stays at_ p n none has = absurd (cc (sym none ∙ has))

same_pending : (p q : Pending) → Some p ≡ Some q → p ≡ q
same_pending p q e = cc e

writes_stay : StaysSo Writes
writes_stay p n none k = (
  record p { entry = Some n },
  refl,
  ap (λ (q : Pending). is_write (op_of q.call)) (same_pending p k.0 k.1) ∙ k.2,
)

-- the entry of message `number`, and of the pending call
abbrev pub Logs : (number c : ℕ) → Log → Type 0
Logs number c m = (at_ : ℕ) × (at_number m.writes number ≡ Some at_) × HasNow at_ (at_number m.pending c)

written : (l : Log) (number c : ℕ) (x : Command) (p : Pending) → at_number l.pending c ≡ Some p → (y : Call) →
    is_write (op_of y) ≡ true → Logs number c (sends_write l number c p x y)
written l number c x p there (call.Read f offset count) w = absurd (true≢false (sym w))
written l number c x p there (call.Write f offset bytes) w = (
  number_then (length l.entries) p.entry,
  lookup_inserted l.writes number (number_then (length l.entries) p.entry),
  by p.entry refl,
)
  where
    by : (o : Option ℕ) → p.entry ≡ o →
        HasNow (number_then (length l.entries) o)
        (at_number (begins_beside l c p f x.capability.grant (entry.Write offset bytes false) o).pending c)
    by None is = ap entry_in (lookup_inserted l.pending c (record p { entry = Some (length l.entries) }))
    by (Some n) is = ap entry_in there ∙ is

pub written_now : (l : Log) (number c : ℕ) (x : Command) → x.action ≡ action.Write → Writes (at_number l.pending c) →
    Logs number c (sends_as l number c (Ok x))
written_now l number c x write k =
    subst (λ (o : Option Pending). Logs number c (sends_in l number c x o)) (sym k.1)
    (subst (λ (a : Action). Logs number c (sends_command l number c k.0 x a)) (sym write)
    (written l number c x k.0 k.1 k.0.call k.2))

-- Behind all messages, where the bytes of one are read as a WRITE.
pub all_written : (c d number : ℕ) (l : Log) (ps : List Post) (k : ℕ) (p : Post) (x : Command) → slice_get ps k ≡ Some p →
    ((m : Log) (n : ℕ) → log_after m (sent_line n p.message) ≡ sends_as m n c (Ok x)) → x.action ≡ action.Write →
    Writes (at_number l.pending c) → Logs (number + k) c (fold log_after l (sent_lines number ps))
unfolding sent_lines
all_written c d number l [] k p x there line write w = absurd (cc there)
all_written c d number l (q ∷ ps) zero p x there line write w =
    let same : q ≡ p = cc there in
    let m : Log = log_after l (sent_line number q.message) in
    let now : Logs number c (log_after l (sent_line number q.message)) =
    subst (Logs number c) (sym (ap (λ (y : Post). log_after l (sent_line number y.message)) same ∙ line l number))
    (written_now l number c x write w) in
    subst (λ (n : ℕ). Logs n c (fold log_after m (sent_lines (number + 1) ps))) (omega arith) (
      now.0,
      sent_before m (number + 1) number ps (omega arith) ∙ now.1,
      all_keep (HasNow now.0) (has_stays now.0) c (number + 1) m ps now.2,
    )
all_written c d number l (q ∷ ps) (suc k) p x there line write w =
    subst (λ (n : ℕ). Logs n c (fold log_after (log_after l (sent_line number q.message)) (sent_lines (number + 1) ps)))
    (omega arith)
    (all_written c d (number + 1) (log_after l (sent_line number q.message)) ps k p x there line write
    (one_keeps Writes writes_stay c l number _ _ _ w))
