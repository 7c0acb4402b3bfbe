-- The line that tells how a client's call has ended: its events can happen.
use Rattle.std.proofs.Common.{◌≡◌, ◌==◌, not, ℕ, Bool, true, false, Option, Some, None, refl, sym, ◌∙◌, inl, inr}
use Rattle.std.proofs.lemmas.Bool.{eq-eqb, ne_eqb}
use Rattle.client_rules.specs.Calls.{file_of, span_of}
use Rattle.world_history.specs.ClientNames.{CallOp, Outcome, WriteOk, ReadOk}
use Rattle.fence_law.specs.State.{State}
use Rattle.fence_law.specs.State.{Event as event}
use Rattle.fence_law.specs.Machine.{Allowed, Lawful, after}
use Rattle.fence_law.proofs.Formed.{Formed}
use Rattle.fence_law.proofs.Words.{updated_same}
use Rattle.file_simulation.specs.EventLists.{where_so, entry_of}
use Rattle.file_simulation.specs.ClientEvents as table
use Rattle.relation_law.specs.CallsTurns.{WriteEnds, OutcomeIs, OutcomeOn, EndIs}
use Rattle.relation_law.proofs.CallsEnded.{write_some}
use Rattle.relation_law.proofs.CallsGuards.{acknowledges_allowed, tells_allowed}

module _ (s : State) (c : ℕ) (formed : Formed s) where
  -- a write is acknowledged, unless its report was taken
  written_lawful : (op : CallOp) (count : ℕ) → WriteEnds s c op count →
      Lawful s (where_so (not (count == 0)) (table.write_told s c))
  written_lawful op count (inl k) = rw (eq-eqb count 0 k.0) tt
  written_lawful op count (inr (length_is, inl (j, k))) =
      rw (
        ne_eqb count 0 (λ z. write_some s op j formed k.writing.running.below k.writing.write (sym length_is ∙ z)),
        k.writing.last,
        k.writing.running.unfinished,
      ) (
        acknowledges_allowed s c op j k.writing k.out k.fits,
        (
          tells_allowed (after s (event.Acknowledges c j)) j k.writing.running.below (updated_same s.acknowledged j true),
          tt,
        ),
      )
  written_lawful op count (inr (length_is, inr (j, k))) =
      rw (
        ne_eqb count 0 (λ z. write_some s op j formed k.below k.write (sym length_is ∙ z)),
        k.last,
        k.acknowledged,
      ) (tells_allowed s j k.below k.acknowledged, tt)

  -- a read may be answered so
  abbrev pub MayAnswer : CallOp → Outcome → Type 0
  MayAnswer op (ReadOk bytes) = Allowed s (event.Answers c (entry_of s c) (table.answer_from (span_of op).offset bytes))
  MayAnswer op u = Unit {0}

  by_outcome : (op : CallOp) (u : Outcome) → OutcomeIs s c op u → MayAnswer op u → Lawful s (table.ended_with s c op u)
  by_outcome op (WriteOk count) k may = written_lawful op count k
  by_outcome op (ReadOk bytes) k may = (may, tt)
  by_outcome op u k may = tt

  by_here : (b : Bool) (op : CallOp) (u : Outcome) → OutcomeOn b s c op u → (b ≡ true → MayAnswer op u) →
      Lawful s (where_so b (table.ended_with s c op u))
  by_here true op u k may = by_outcome op u k (may refl)
  by_here false op u k may = tt

  -- of a call on any file
  pub ended_lawful : (file : ℕ) (p : Option CallOp) (u : Outcome) → EndIs file s c p (Some u) →
      ((op : CallOp) → p ≡ Some op → (file_of op == file) ≡ true → MayAnswer op u) →
      Lawful s (table.ended s file c p (Some u))
  ended_lawful file None u k may = tt
  ended_lawful file (Some op) u k may = by_here (file_of op == file) op u k (may op refl)
