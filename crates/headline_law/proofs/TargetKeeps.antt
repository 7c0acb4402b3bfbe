-- What is known of a rebuild's target stays known, where the machine's bytes, what isn't gone, the file and what was sent stay.
use Rattle.std.proofs.Common.{◌≡◌, ◌⊎◌, ℕ, ◌+◌, ◌<◌, ◌≤◌, false, List, slice_get, Some, sym, ap, subst, ◌∙◌, inl, inr}
use Rattle.std.proofs.lemmas.Bool.{cases_Bool, true≢false}
use Rattle.data_map.specs.declared.check.RawMap.{RawMap}
use Rattle.osd_commands.specs.declared.commands.Command.{Command}
use Rattle.osd_objects.specs.declared.object.StoredObject.{StoredObject}
use Rattle.server_rules.specs.Laws.{In}
use Rattle.server_rules.specs.Maps.{group_with, pieces_in}
use Rattle.world_history.specs.ServerNames.{File, Component, Piece, Target}
use Rattle.world_history.specs.State.{World, at_number}
use Rattle.history_law.specs.Spent.{IsSpent}
use Rattle.fence_law.specs.State as machine
use Rattle.fence_law.specs.State.{State}
use Rattle.fence_law.specs.Law.{IsCode, byte_before}
use Rattle.plan_law.specs.FileLayout.{column_of_cell}
use Rattle.plan_law.specs.Known.{HasSource}
use Rattle.file_simulation.specs.Components.{object_on, has_failed}
use Rattle.file_simulation.specs.Jobs.{IsDone, IsInHead, IsFill, IsFilled, IsTarget, AreWords, stripe_for, word_now}
use Rattle.headline_law.specs.TargetGoes.{IsSameStill}

-- the machine has the bytes that it had, and what wasn't gone isn't gone
pub record IsSameMachine (s t : State) : Type 0 where
  pub bytes : (q : ℕ) → byte_before t t.count q ≡ byte_before s s.count q
  pub layout : t.layout ≡ s.layout
  pub gone : (k : ℕ) → s.gone k ≡ false → t.gone k ≡ false

pub same_words : (s t : State) → IsCode s.layout → IsSameMachine s t → (k z : ℕ) → word_now t k z ≡ word_now s k z
same_words s t code same k z =
    ap (λ (y : machine.Layout). y.word k z (byte_before t t.count)) same.layout
    ∙ code.local k z (byte_before t t.count) (byte_before s s.count) (λ q here. same.bytes q)

pub source_stays : (m : RawMap) (s t : State) → ((k : ℕ) → s.gone k ≡ false → t.gone k ≡ false) → (out : List ℕ) (k z : ℕ) →
    HasSource m s.gone out k z → HasSource m t.gone out k z
source_stays m s t stays out k z (inl x) = inl (x.0, x.1, x.2, stays x.0 x.3)
source_stays m s t stays out k z (inr x) = inr (
  λ n low gone. elim (cases_Bool (s.gone n)) [
    | inl was ↦ x.0 n low was
    | inr not_was ↦ absurd (true≢false (sym gone ∙ stays n not_was))
  ],
  x.1,
)

-- an object that has what a rebuild makes
pub filled_as : (s t : State) (f g : File) (u : Target) (todo : List Piece) (o : StoredObject) → IsCode s.layout →
    IsSameMachine s t → IsSameStill f.kept g.kept → IsFilled s f u todo o → IsFilled t g u todo o
filled_as s t f g u todo o code same still x = record {
  tag = x.tag ∙ sym still.tag;
  done = λ z low done.
      x.done z
      (subst (λ (n : ℕ). stripe_for f.kept.map u.component z < n) still.high
      (subst (λ (m : RawMap). stripe_for m u.component z < g.kept.high) still.map low))
      (subst (λ (m : RawMap). IsDone m todo (column_of_cell m u.component z)) still.map done)
      ∙ sym (same_words s t code same u.component z);
  others = λ z. elim (x.others z) [
    | inl word ↦ inl (word ∙ sym (same_words s t code same u.component z))
    | inr zero ↦ inr zero
  ];
  above = λ z above.
      x.above z
      (subst (λ (n : ℕ). n ≤ stripe_for f.kept.map u.component z) still.high
      (subst (λ (m : RawMap). g.kept.high ≤ stripe_for m u.component z) still.map above));
}

-- What a move leaves of the target. What the server newly sends to it lies in the first piece to do, and has the words.
pub record LeavesTarget (s t : State) (w v : World) (f g : File) (u : Target) (todo : List Piece) : Type 0 where
  pub same : IsSameMachine s t
  pub still : IsSameStill f.kept g.kept
  pub apart : (k : ℕ) (at : Component) → slice_get g.kept.components k ≡ Some at → at.object ≡ u.object → ⊥
  pub fills : (x : Command) → IsFill v u x →
      IsFill w u x ⊎ (AreWords s (byte_before s s.count) u.component x.offset x.payload × IsInHead f.kept.map todo u.component x)
  pub unspent : (x : Command) → (IsSpent (at_number v.drives u.drive) x → ⊥) → IsSpent (at_number w.drives u.drive) x → ⊥
  pub objects : has_failed (at_number v.drives u.drive) ≡ false → (o : StoredObject) →
      object_on (at_number v.drives u.drive) u.object ≡ Some o → IsFilled s f u todo o

pub target_as : (s t : State) (w v : World) (f g : File) (u : Target) (todo : List Piece) → IsCode s.layout →
    LeavesTarget s t w v f g u todo → IsTarget s w f u todo → IsTarget t v g u todo
target_as s t w v f g u todo code l x = record {
  apart = l.apart;
  words = λ y fill. elim (l.fills y fill) [
    | inl old ↦ λ i low. x.words y old i low ∙ sym (same_words s t code l.same u.component (y.offset + i))
    | inr new ↦ λ i low. new.0 i low ∙ sym (same_words s t code l.same u.component (y.offset + i))
  ];
  head = λ y fill unspent.
      subst (λ (m : RawMap). IsInHead m todo u.component y) (sym l.still.map) (elim (l.fills y fill) [
        | inl old ↦ x.head y old (l.unspent y unspent)
        | inr new ↦ new.1
      ]);
  object = λ lives o is. filled_as s t f g u todo o code l.same l.still (l.objects lives o is);
  source = λ begun.
      let r = x.source (record {
        piece = begun.piece;
        planned = subst (λ (n : ℕ). In begun.piece (pieces_in f.kept.map (group_with f.kept.map u.component) n)) l.still.high
            (subst (λ (m : RawMap). In begun.piece (pieces_in m (group_with m u.component) g.kept.high)) l.still.map
            begun.planned);
        done = begun.done;
      }) in (
        r.0,
        λ z. subst (λ (m : RawMap). HasSource m t.gone r.0 u.component z) (sym l.still.map)
            (source_stays f.kept.map s t l.same.gone r.0 u.component z (r.1 z)),
      );
}
