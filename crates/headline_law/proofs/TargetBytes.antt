-- While a file is still, no grant is outstanding and none is given: then the machine keeps its bytes, and what isn't gone, in
-- each move. A write that is acknowledged late was performed before, and its bytes count already.
use Rattle.std.proofs.Common.{◌≡◌, ℕ, ◌≤◌, Bool, true, false, List, [], ◌∷◌, None, refl, sym, ap, ◌∙◌, arith, inl, inr}
use Rattle.std.proofs.lemmas.Bool.{cases_eq, true≢false, eqb-true}
use Rattle.fence_law.specs.State.{State, Event}
use Rattle.fence_law.specs.State.Event.{Grants, Frees, Fences, Fenced, Refenced, StartsWrite, StartsRead, Performs, Acknowledges, Loses, Leaves, Repairs, Repaired, Rebuilds}
use Rattle.fence_law.specs.Machine.{Allowed, Lawful, after, after_all}
use Rattle.fence_law.specs.Starts.{written_start, read_start, rebuilt_start}
use Rattle.fence_law.specs.Words.{updated}
use Rattle.fence_law.proofs.Chosen.{Late_ack, at_acks}
use Rattle.fence_law.proofs.Ends.{late_added}
use Rattle.fence_law.proofs.Held.{at_new}
use Rattle.fence_law.proofs.Later.{unsettled_none}
use Rattle.fence_law.proofs.Open.{now_fresh, fresh_open}
use Rattle.fence_law.proofs.Parts.{pf_row}
use Rattle.fence_law.proofs.Safe.{Safe, keep_safe}
use Rattle.fence_law.proofs.Words.{updated_at, updated_other}
use Rattle.fence_law.proofs.EveryRun.{tag_next}
use Rattle.headline_law.proofs.TargetKeeps.{IsSameMachine}

-- ---- what only rises

tag_rises : (b : State) (es : List Event) → b.tag ≤ (after_all b es).tag
tag_rises b [] = omega arith
tag_rises b (e ∷ es) =
    let one : b.tag ≤ (after b e).tag = tag_next b e in
    let rest : (after b e).tag ≤ (after_all (after b e) es).tag = tag_rises (after b e) es in omega (arith, one, rest)

-- a grant that was issued, and a fence that was begun, until the next fence is over
abbrev Marks : State → State → Type 0
Marks b t = (b.granted_since ≡ true → t.granted_since ≡ true) × (b.fencing ≡ true → t.fencing ≡ true)

mark_one : (b : State) (e : Event) → (after b e).tag ≤ b.tag → Marks b (after b e)
mark_one b Fenced low = absurd (omega (arith, low))
mark_one b Refenced low = absurd (omega (arith, low))
mark_one b (Grants c number rw range extending) low = (λ x. refl, λ x. x)
mark_one b Fences low = (λ x. x, λ x. refl)
mark_one b e low = (λ x. x, λ x. x)

marks_stay : (b : State) (es : List Event) → (after_all b es).tag ≤ b.tag → Marks b (after_all b es)
marks_stay b [] low = (λ x. x, λ x. x)
marks_stay b (e ∷ es) low =
    let one : b.tag ≤ (after b e).tag = tag_next b e in
    let rest : (after b e).tag ≤ (after_all (after b e) es).tag = tag_rises (after b e) es in
    let x = mark_one b e (omega (arith, low, rest)) in
    let y = marks_stay (after b e) es (omega (arith, low, one)) in
    (λ z. y.0 (x.0 z), λ z. y.1 (x.1 z))

-- ---- while nothing is granted

-- no fence and no repair runs, no grant is outstanding, and none was issued since the last fence
pub record IsIdle (b : State) : Type 0 where
  pub fencing : b.fencing ≡ false
  pub repairing : b.repairing ≡ false
  pub outstanding : (c : ℕ) → b.outstanding c ≡ None
  pub unused : b.granted_since ≡ false

-- so it is at the end, under the same tag
pub record EndsIdle (b t : State) : Type 0 where
  pub tag : t.tag ≤ b.tag
  pub fencing : t.fencing ≡ false
  pub unused : t.granted_since ≡ false

same_here : (b : State) → IsSameMachine b b
same_here b = record { bytes = λ q. refl; layout = refl; gone = λ k x. x }

same_then : (s b t : State) → IsSameMachine s b → IsSameMachine b t → IsSameMachine s t
same_then s b t x y = record {
  bytes = λ q. y.bytes q ∙ x.bytes q;
  layout = y.layout ∙ x.layout;
  gone = λ k z. y.gone k (x.gone k z);
}

-- ---- one event

-- an event that ends or begins something isn't allowed, or isn't so at the end
abbrev Fits : State → Event → State → Type 0
Fits b e t = EndsIdle b t × Marks (after b e) t

same_one : (b : State) (e : Event) → Allowed b e → Safe b → Late_ack b → IsIdle b → (t : State) → Fits b e t →
    IsSameMachine b (after b e)
same_one b (StartsWrite c g i d touch hit seen past part) a safe late idle t fits = record {
  bytes = λ q. at_new b (written_start b c g d touch hit seen past part) (λ k z. false) q;
  layout = refl;
  gone = λ k x. x;
}
same_one b (StartsRead c g lo hi reach) a safe late idle t fits = record {
  bytes = λ q. at_new b (read_start b c g lo hi reach) (λ k z. false) q;
  layout = refl;
  gone = λ k x. x;
}
same_one b (Acknowledges c j) a safe late idle t fits = record {
  bytes = λ q.
      at_acks b c j b.count q a safe.code safe.calls safe.running safe.formed safe.done safe.dead late
      (λ u touch. absurd (unsettled_none b j idle.repairing safe.open_granted idle.outstanding u));
  layout = refl;
  gone = λ k x. x;
}
same_one b (Rebuilds n cells) a safe late idle t fits = record {
  bytes = λ q. at_new b (rebuilt_start b n cells) (λ f y. updated (λ w. false) n true f) q;
  layout = refl;
  gone = λ k x. elim (cases_eq k n) [
    | inl same ↦ updated_at b.gone n false k same
    | inr other ↦ updated_other b.gone n false k other ∙ x
  ];
}
same_one b (Repairs k which e) a safe late idle t fits = absurd (true≢false (sym a.at_work ∙ idle.repairing))
same_one b (Repaired done e) a safe late idle t fits = absurd (true≢false (sym a.runs ∙ idle.repairing))
same_one b Fenced a safe late idle t fits = absurd (true≢false (sym a.runs ∙ idle.fencing))
same_one b Refenced a safe late idle t fits = absurd (true≢false (sym a.runs ∙ idle.fencing))
same_one b (Grants c number rw range extending) a safe late idle t fits =
    absurd (true≢false (sym (fits.1.0 refl) ∙ fits.0.unused))
same_one b (Loses c k) a safe late idle t fits = absurd (cc (sym (idle.outstanding c) ∙ a.has.1))
same_one b e a safe late idle t fits = record { bytes = λ q. refl; layout = refl; gone = λ k x. x }

late_one : (b : State) (e : Event) → Allowed b e → Safe b → Late_ack b → IsIdle b → Late_ack (after b e)
late_one b (StartsWrite c g i d touch hit seen past part) a safe h idle =
    late_added b (written_start b c g d touch hit seen past part) (λ k z. false) (λ w al. eqb-true g.tag b.tag al) h
late_one b (StartsRead c g lo hi reach) a safe h idle =
    late_added b (read_start b c g lo hi reach) (λ k z. false) (λ w. absurd (true≢false (sym w))) h
late_one b (Rebuilds k cells) a safe h idle =
    late_added b (rebuilt_start b k cells) (λ f y. updated (λ w. false) k true f) (λ w. absurd (true≢false (sym w))) h
late_one b (Acknowledges c i) a safe h idle = λ j p v o full byte. elim (cases_eq j i) [
  | inl e ↦ ap (λ (y : ℕ → Bool). y p) (updated_at b.chosen i (λ z. true) j e)
  | inr ne ↦
      ap (λ (y : ℕ → Bool). y p) (updated_other b.chosen i (λ z. true) j ne)
      ∙ h j p v (o.0, o.1, o.2, sym (updated_other b.acknowledged i true j ne) ∙ o.3, o.4, o.5) full byte
]
late_one b (Performs w) a safe h idle = λ j p v o full byte.
    let op = fresh_open b w a.comes (now_fresh b w a safe.tags safe.formed safe.known) safe.known safe.dead safe.unacked in
    let ne : j ≡ w.entry → ⊥ = λ e. grind (arith, op.4, e, o.4) in
    h j p v o (λ x y z content. sym (ap (λ (q : ℕ → ℕ → Bool). q x y) (pf_row b w j ne)) ∙ full x y z content) byte
late_one b (Repairs k which e) a safe h idle = absurd (true≢false (sym a.at_work ∙ idle.repairing))
late_one b (Repaired done e) a safe h idle = absurd (true≢false (sym a.runs ∙ idle.repairing))
late_one b Fenced a safe h idle = absurd (true≢false (sym a.runs ∙ idle.fencing))
late_one b Refenced a safe h idle = absurd (true≢false (sym a.runs ∙ idle.fencing))
late_one b e a safe h idle = h

idle_one : (b : State) (e : Event) → Allowed b e → IsIdle b → (t : State) → Fits b e t → IsIdle (after b e)
idle_one b (Grants c number rw range extending) a idle t fits =
    absurd (true≢false (sym (fits.1.0 refl) ∙ fits.0.unused))
idle_one b Fences a idle t fits = absurd (true≢false (sym (fits.1.1 refl) ∙ fits.0.fencing))
idle_one b Fenced a idle t fits = absurd (true≢false (sym a.runs ∙ idle.fencing))
idle_one b Refenced a idle t fits = absurd (true≢false (sym a.runs ∙ idle.fencing))
idle_one b (Repaired done e) a idle t fits = absurd (true≢false (sym a.runs ∙ idle.repairing))
idle_one b (Frees c) a idle t fits = record {
  fencing = idle.fencing;
  repairing = idle.repairing;
  outstanding = λ d. elim (cases_eq d c) [
    | inl same ↦ updated_at b.outstanding c None d same
    | inr other ↦ updated_other b.outstanding c None d other ∙ idle.outstanding d
  ];
  unused = idle.unused;
}
idle_one b (Leaves c g) a idle t fits = record {
  fencing = idle.fencing;
  repairing = idle.repairing;
  outstanding = λ d. elim (cases_eq d c) [
    | inl same ↦ updated_at b.outstanding c None d same
    | inr other ↦ updated_other b.outstanding c None d other ∙ idle.outstanding d
  ];
  unused = idle.unused;
}
idle_one b e a idle t fits = record {
  fencing = idle.fencing;
  repairing = idle.repairing;
  outstanding = idle.outstanding;
  unused = idle.unused;
}

-- ---- all events of a move

pub same_machine : (b : State) (es : List Event) → Lawful b es → Safe b → Late_ack b → IsIdle b →
    EndsIdle b (after_all b es) → IsSameMachine b (after_all b es)
same_machine b [] l safe late idle ends = same_here b
same_machine b (e ∷ es) l safe late idle ends =
    let t : State = after_all (after b e) es in
    let one : b.tag ≤ (after b e).tag = tag_next b e in
    let rest : (after b e).tag ≤ (after_all (after b e) es).tag = tag_rises (after b e) es in
    let low : (after_all (after b e) es).tag ≤ (after b e).tag = omega (arith, ends.tag, one) in
    let fits : Fits b e (after_all (after b e) es) = (ends, marks_stay (after b e) es low) in
    same_then b (after b e) (after_all (after b e) es) (same_one b e l.0 safe late idle (after_all (after b e) es) fits)
    (same_machine (after b e) es l.1 (keep_safe b e l.0 safe) (late_one b e l.0 safe late idle)
    (idle_one b e l.0 idle (after_all (after b e) es) fits)
    (record { tag = low; fencing = ends.fencing; unused = ends.unused }))
