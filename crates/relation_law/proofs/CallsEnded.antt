-- The line that tells how a call has ended: behind its events the client is at nothing.
-- Towards `CallsGoOn` (`specs/Steps.antt`).
use Rattle.std.proofs.Common.{◌≡◌, ◌==◌, not, ℕ, ◌*◌, ◌<◌, Bool, true, false, [], ◌∷◌, Option, Some, None, refl, sym, subst, ◌∙◌, inl, inr}
use Rattle.std.specs.Prelude.{nat_lt}
use Rattle.std.proofs.lemmas.Bool.{cases_Bool, eq-eqb, ne_eqb}
use Rattle.data_map.specs.declared.check.RawMap.{RawMap}
use Rattle.layout_ops.specs.declared.messages.Answer.{Answer}
use Rattle.file_log.specs.Judge.{byte_for}
use Rattle.client_rules.specs.declared.limits.TheConstants.{NONCES}
use Rattle.client_rules.specs.Calls.{file_of, span_of, bytes_of}
use Rattle.client_rules.specs.Grants.{held_of}
use Rattle.world_history.specs.ClientNames.{Call, CallOp, Write, Read, Outcome, WriteOk, ReadOk, Done}
use Rattle.fence_law.specs.Words.{In as InRun}
use Rattle.fence_law.specs.State.{State, Grant}
use Rattle.fence_law.specs.State.{Event as event}
use Rattle.fence_law.specs.Machine.{after, after_all}
use Rattle.fence_law.proofs.Formed.{Formed}
use Rattle.file_simulation.specs.EventLists.{where_so, entry_of}
use Rattle.file_simulation.specs.ClientEvents as table
use Rattle.file_simulation.specs.Calls.{IsWriteOf, IsIdle}
use Rattle.relation_law.specs.CallsTurns.{WriteEnds, OutcomeIs, OutcomeOn, EndIs, PendsAt, IsMid}
use Rattle.relation_law.proofs.CallsFirst.{answers_idle, acknowledges_idle, tells_idle}
use Rattle.relation_law.proofs.CallsMid.{held_as}

-- ---- a write has bytes

none_of_none : (offset p : ℕ) → byte_for offset [] p ≡ None
none_of_none offset p = elim (cases_Bool (nat_lt p offset)) [ inl t ↦ rw t refl | inr f ↦ rw f refl ]

pub no_byte : (offset p v : ℕ) → byte_for offset [] p ≡ Some v → ⊥
no_byte offset p v e = cc (sym (none_of_none offset p) ∙ e)

bytes_some : (op : CallOp) (p v : ℕ) → byte_for (span_of op).offset (bytes_of op) p ≡ Some v → (span_of op).length ≡ 0 → ⊥
bytes_some (Write file offset []) p v e z = no_byte offset p v e
bytes_some (Write file offset (b ∷ bs)) p v e z = cc z
bytes_some (Read file offset count) p v e z = no_byte offset p v e

pub write_some : (s : State) (op : CallOp) (j : ℕ) → Formed s → j < s.count → IsWriteOf s op j → (span_of op).length ≡ 0 → ⊥
write_some s op j f low w z =
    let x = (f j low).some w.write in bytes_some op x.0 x.1 (sym (w.bytes x.0) ∙ x.2) z

-- ---- the same but for the call

-- what the machine has of a client's requests and grant
abbrev pub IsUnmoved : (s t : State) → (c : ℕ) → Type 0
IsUnmoved s t c = record {
  held : t.held c ≡ s.held c;
  size : t.known_size c ≡ s.known_size c;
  nonce : t.nonce c ≡ s.nonce c;
  waiting : t.waiting c ≡ s.waiting c;
  sequence : t.sequence c ≡ s.sequence c;
  answers : t.answers ≡ s.answers;
  next : t.next ≡ s.next;
}

pub fresh_unmoved : (s t : State) (c : ℕ) → IsUnmoved s t c →
    ((g : Grant) (size : ℕ) → s.waiting c ≡ true →
    InRun (record { client = c; sequence = s.sequence c; grant = Some g; size = size }) s.answers →
    s.nonce c < g.number * NONCES) →
    (g : Grant) (size : ℕ) → t.waiting c ≡ true →
    InRun (record { client = c; sequence = t.sequence c; grant = Some g; size = size }) t.answers →
    t.nonce c < g.number * NONCES
fresh_unmoved s t c k f g size e i = rw k.nonce (f g size (sym k.waiting ∙ e)
    (subst (λ n. InRun (record { client = c; sequence = n; grant = Some g; size = size }) s.answers) k.sequence
    (subst (λ l. InRun (record { client = c; sequence = t.sequence c; grant = Some g; size = size }) l) k.answers i)))

module _ (file : ℕ) (m : RawMap) (c : ℕ) (o : Option Answer) where
  -- the call is over
  over_mid : (s t : State) (op : Option CallOp) (d : Done) → IsUnmoved s t c → IsIdle t c → d.client.call ≡ None →
      IsMid file m s c o op d → IsMid file m t c o op (record d { outcome = None })
  over_mid s t op d k idle none w = record {
    held = held_as file m s t c d.client o (held_of d.client.held file) k.held k.size k.nonce w.held;
    call = rw none (at_end op idle);
    fresh = fresh_unmoved s t c k w.fresh;
    used = rw (k.nonce, k.next) w.used;
    about = w.about;
    ended = λ u e. absurd (cc e);
    unasked = w.unasked;
    needs = w.needs;
  }
    where
      at_end : (p : Option CallOp) → IsIdle t c → EndIs file t c p None
      at_end None i = i
      at_end (Some p) i = i

  -- the write was acknowledged, or its report was taken
  written_over : (s : State) (op : Option CallOp) (d : Done) (call_op : CallOp) (count : ℕ) → Formed s → d.client.call ≡ None →
      IsMid file m s c o op d → WriteEnds s c call_op count →
      IsMid file m (after_all s (where_so (not (count == 0)) (table.write_told s c))) c o op (record d { outcome = None })
  written_over s op d call_op count f none w (inl k) =
      rw (eq-eqb count 0 k.0) (over_mid s s op d (record {
        held = refl;
        size = refl;
        nonce = refl;
        waiting = refl;
        sequence = refl;
        answers = refl;
        next = refl;
      }) k.1 none w)
  written_over s op d call_op count f none w (inr (length_is, inl (j, k))) =
      rw (
        ne_eqb count 0 (λ z. write_some s call_op j f k.writing.running.below k.writing.write (sym length_is ∙ z)),
        k.writing.last,
        k.writing.running.unfinished,
      )
      (over_mid s (after (after s (event.Acknowledges c j)) (event.Tells j)) op d
      (record { held = refl; size = refl; nonce = refl; waiting = refl; sequence = refl; answers = refl; next = refl })
      (tells_idle (after s (event.Acknowledges c j)) c j (acknowledges_idle s c j k.writing.commit_is)) none w)
  written_over s op d call_op count f none w (inr (length_is, inr (j, k))) =
      rw (ne_eqb count 0 (λ z. write_some s call_op j f k.below k.write (sym length_is ∙ z)), k.last, k.acknowledged)
      (over_mid s (after s (event.Tells j)) op d
      (record { held = refl; size = refl; nonce = refl; waiting = refl; sequence = refl; answers = refl; next = refl })
      (tells_idle s c j (record { at_ = k.at_; commit = k.commit })) none w)

  -- nothing is told
  plain_over : (s : State) (op : Option CallOp) (d : Done) → d.client.call ≡ None → IsMid file m s c o op d → IsIdle s c →
      IsMid file m s c o op (record d { outcome = None })
  plain_over s op d none w idle =
      over_mid s s op d (record {
        held = refl;
        size = refl;
        nonce = refl;
        waiting = refl;
        sequence = refl;
        answers = refl;
        next = refl;
      }) idle none w

  by_outcome : (s : State) (op : Option CallOp) (d : Done) (call_op : CallOp) (u : Outcome) → Formed s → d.client.call ≡ None →
      IsMid file m s c o op d → OutcomeIs s c call_op u →
      IsMid file m (after_all s (table.ended_with s c call_op u)) c o op (record d { outcome = None })
  by_outcome s op d call_op (WriteOk count) f none w k = written_over s op d call_op count f none w k
  by_outcome s op d call_op (ReadOk bytes) f none w k =
      over_mid s (after s (event.Answers c (entry_of s c) (table.answer_from (span_of call_op).offset bytes))) op d
      (record { held = refl; size = refl; nonce = refl; waiting = refl; sequence = refl; answers = refl; next = refl })
      (answers_idle s c (entry_of s c) (table.answer_from (span_of call_op).offset bytes) k.1.commit) none w
  by_outcome s op d call_op u f none w k = plain_over s op d none w k

  by_here : (s : State) (op : Option CallOp) (d : Done) (call_op : CallOp) (u : Outcome) (b : Bool) → Formed s →
      d.client.call ≡ None → IsMid file m s c o op d → OutcomeOn b s c call_op u →
      IsMid file m (after_all s (where_so b (table.ended_with s c call_op u))) c o op (record d { outcome = None })
  by_here s op d call_op u true f none w k = by_outcome s op d call_op u f none w k
  by_here s op d call_op u false f none w k = plain_over s op d none w k

  by_op : (s : State) (op p : Option CallOp) (d : Done) (u : Outcome) → Formed s → d.client.call ≡ None →
      IsMid file m s c o op d → EndIs file s c p (Some u) →
      IsMid file m (after_all s (table.ended s file c p (Some u))) c o op (record d { outcome = None })
  by_op s op None d u f none w k = plain_over s op d none w k
  by_op s op (Some p) d u f none w k = by_here s op d p u (file_of p == file) f none w k

  -- the line's events
  pub ended_mid : (s : State) (op : Option CallOp) (d : Done) (u : Outcome) → d.outcome ≡ Some u → Formed s →
      IsMid file m s c o op d →
      IsMid file m (after_all s (table.ended s file c op (Some u))) c o op (record d { outcome = None })
  ended_mid s op d u is f w =
      let none = w.ended u is in by_op s op op d u f none w
      (subst (λ (x : Option Outcome). EndIs file s c op x) is
      (subst (λ (x : Option Call). PendsAt file m s c o op d.outcome d.commands x) none w.call))
