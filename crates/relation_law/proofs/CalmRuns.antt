-- Events of a client keep a run calm: no write is performed by them, and no column loses a component.
-- Towards `CallsGoOn` (`relation_law/specs/Steps.antt`).
use Rattle.std.proofs.Common.{◌≡◌, ◌<◌, ◌+◌, ◌++◌, ℕ, Bool, true, false, List, [], ◌∷◌, sym, ap, subst, ◌∙◌, inl, inr, arith}
use Rattle.std.proofs.lemmas.Bool.{true≢false, cases_eq}
use Rattle.fence_law.specs.Columns.{IsCalm, Torn}
use Rattle.fence_law.specs.Law.{IsCode, IsWholeAt, Calms, reached}
use Rattle.fence_law.specs.Machine.{Lawful, after, after_all, new_file_state}
use Rattle.fence_law.specs.Starts.{written_start, read_start}
use Rattle.fence_law.specs.State.{State, Event, Start, Layout}
use Rattle.fence_law.specs.State.Event.{Asks, Takes, AsksOther, TakesOther, GivesBack, Reports, Forgets, StartsWrite, Sends, Learns, Acknowledges, Breaks, StartsRead, Answers, EndsRead, Tells, AsksCommit, TakesCommit, TakesRefusal}
use Rattle.fence_law.specs.Words.{updated}
use Rattle.fence_law.proofs.Judge.{is_whole}
use Rattle.fence_law.proofs.Words.{updated_at, updated_other}
use Rattle.file_simulation.specs.Showing.{IsRun}
use Rattle.relation_law.specs.Frames.{AreAll, IsOfClient}
use Rattle.relation_law.proofs.FramesStay.{server_stays_all}
use Rattle.relation_law.proofs.RequestsLawful.{lawful_more}
use Rattle.relation_law.proofs.KeptNotes.{after_both}

-- ---- one event

-- with one entry more, of which nothing was performed, and the others as they were
abbrev Entered : State → Start → State
Entered s y = record s {
  count = s.count + 1;
  start = updated s.start s.count y;
  applied = updated s.applied s.count (λ k z. false);
  acknowledged = updated s.acknowledged s.count false;
}

torn_entered : (s : State) (y : Start) (x : ℕ) → Torn (Entered s y) x → Torn s x
torn_entered s y x t = elim (cases_eq t.0 s.count) [
  | inl new ↦
      absurd (true≢false (sym t.11
      ∙ ap (λ (f : ℕ → ℕ → Bool). f t.1 t.2) (updated_at s.applied s.count (λ k z. false) t.0 new)))
  | inr old ↦
      let start : updated s.start s.count y t.0 ≡ s.start t.0 = updated_other s.start s.count y t.0 old in
      let applied : updated s.applied s.count (λ k z. false) t.0 ≡ s.applied t.0 =
      updated_other s.applied s.count (λ k z. false) t.0 old in
      let acknowledged : updated s.acknowledged s.count false t.0 ≡ s.acknowledged t.0 =
      updated_other s.acknowledged s.count false t.0 old in
      let low : t.0 < s.count + 1 = t.5 in (
        t.0,
        t.1,
        t.2,
        t.3,
        t.4,
        omega (arith, low, old),
        sym (ap (λ (q : Start). q.is_write) start) ∙ t.6,
        sym acknowledged ∙ t.7,
        sym (ap (λ (q : Start). q.content t.1 t.2) start) ∙ t.8,
        t.9,
        t.10,
        sym (ap (λ (f : ℕ → ℕ → Bool). f t.1 t.2) applied) ∙ t.11,
        subst (λ (q : Start). q.tag < s.tag) start t.12,
      )
]

torn_acknowledged : (s : State) (c j x : ℕ) → Torn (after s (Acknowledges c j)) x → Torn s x
torn_acknowledged s c j x t = elim (cases_eq t.0 j) [
  | inl this ↦ absurd (true≢false (sym (updated_at s.acknowledged j true t.0 this) ∙ t.7))
  | inr other ↦ (
    t.0,
    t.1,
    t.2,
    t.3,
    t.4,
    t.5,
    t.6,
    sym (updated_other s.acknowledged j true t.0 other) ∙ t.7,
    t.8,
    t.9,
    t.10,
    t.11,
    t.12,
  )
]

client_calm : (c : ℕ) (s : State) (e : Event) → IsOfClient c e → IsCalm s → IsCalm (after s e)
client_calm c s (Acknowledges d j) is calm = λ x coded torn short. calm x coded (torn_acknowledged s d j x torn) short
client_calm c s (StartsRead d g lo hi reach) is calm =
    λ x coded torn short. calm x coded (torn_entered s (read_start s d g lo hi reach) x torn) short
client_calm c s (StartsWrite d g i bytes touch hit seen past part) is calm =
    λ x coded torn short. calm x coded (torn_entered s (written_start s d g bytes touch hit seen past part) x torn) short
client_calm c s (Asks d rw) is calm = calm
client_calm c s (Takes d o size) is calm = calm
client_calm c s (AsksOther d) is calm = calm
client_calm c s (TakesOther d) is calm = calm
client_calm c s (GivesBack d g) is calm = calm
client_calm c s (Reports d g) is calm = calm
client_calm c s (Forgets d) is calm = calm
client_calm c s (Sends d k g j i v) is calm = calm
client_calm c s (Learns d k j v i) is calm = calm
client_calm c s (Breaks d j) is calm = calm
client_calm c s (Answers d j bytes) is calm = calm
client_calm c s (EndsRead d j) is calm = calm
client_calm c s (Tells j) is calm = calm
client_calm c s (AsksCommit d j) is calm = calm
client_calm c s (TakesCommit d j) is calm = calm
client_calm c s (TakesRefusal d j) is calm = calm
client_calm c s e is calm = absurd is

client_calms : (c : ℕ) (s : State) (es : List Event) → AreAll (IsOfClient c) es → IsCalm s → Calms s es
client_calms c s [] all calm = calm
client_calms c s (e ∷ es) all calm = (calm, client_calms c (after s e) es all.1 (client_calm c s e all.0 calm))

-- ---- runs

pub calms_more : (s : State) (es fs : List Event) → Calms s es → Calms (after_all s es) fs → Calms s (es ++ fs)
calms_more s [] fs k m = m
calms_more s (e ∷ es) fs k m = (k.0, calms_more (after s e) es fs k.1 m)

pub calm_end : (s : State) (es : List Event) → Calms s es → IsCalm (after_all s es)
calm_end s [] k = k
calm_end s (e ∷ es) k = calm_end (after s e) es k.1

pub calm_now : (s : State) → IsRun s → IsCalm s
calm_now s run = subst IsCalm (sym run.state) (calm_end (new_file_state s.layout) run.events run.calm)

-- Behind what a client does a run is one.
pub client_run : (c : ℕ) (s : State) → IsRun s → (es : List Event) → AreAll (IsOfClient c) es → Lawful s es →
    IsRun (after_all s es)
client_run c s run es owned lawful =
    let layout : (after_all s es).layout ≡ s.layout = (server_stays_all c s es owned).layout in
    let lawful_there : Lawful (reached s.layout run.events) es =
    subst (λ (z : State). Lawful z es) run.state lawful in
    let calms_there : Calms (reached s.layout run.events) es =
    subst (λ (z : State). Calms z es) run.state (client_calms c s es owned (calm_now s run)) in
    let there : after_all (new_file_state s.layout) (run.events ++ es) ≡ after_all s es =
    after_both (new_file_state s.layout) run.events es ∙ ap (λ (z : State). after_all z es) (sym run.state) in
    record {
      events = run.events ++ es;
      lawful = subst (λ (l : Layout). Lawful (new_file_state l) (run.events ++ es)) (sym layout)
          (lawful_more (new_file_state s.layout) run.events es run.lawful lawful_there);
      calm = subst (λ (l : Layout). Calms (new_file_state l) (run.events ++ es)) (sym layout)
          (calms_more (new_file_state s.layout) run.events es run.calm calms_there);
      state = sym there ∙ ap (λ (l : Layout). reached l (run.events ++ es)) (sym layout);
    }

pub whole_now : (s : State) → IsRun s → IsCode s.layout → IsWholeAt s
whole_now s run code =
    subst IsWholeAt (sym run.state) (is_whole s.layout run.events code run.lawful run.calm)
