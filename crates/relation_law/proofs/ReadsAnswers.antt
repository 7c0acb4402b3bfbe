-- The guards of a read's answer, and of what a client learns of its WRITEs.
-- Towards `EventsAreLawful` (`specs/Steps.antt`).
use Rattle.std.proofs.Common.{◌≡◌, ◌≢◌, ℕ, ◌+◌, ◌-◌, ◌<◌, ◌≤◌, true, List, [], ◌∷◌, refl, sym, ap, ◌∙◌, inl, inr, arith}
use Rattle.std.specs.Prelude.{min}
use Rattle.std.proofs.lemmas.Bool.Decides.{nat_tests}
use Rattle.std.proofs.lemmas.List.FromFn.{get_or-map-range_with_len}
use Rattle.data_map.specs.declared.check.RawMap.{RawMap}
use Rattle.data_map.specs.Check.{IsChecked}
use Rattle.stripe_plan.specs.declared.plan.Column.{Column}
use Rattle.stripe_plan.specs.declared.plan.Span.{Span}
use Rattle.stripe_plan.specs.Touched.{end_of}
use Rattle.stripe_plan.specs.Words.{answer_at, answered}
use Rattle.server_rules.specs.Laws.{In}
use Rattle.client_rules.specs.Calls.{span_of}
use Rattle.client_rules.specs.Grants.{clipped}
use Rattle.world_history.specs.ClientNames.{CallOp, Held, Awaited, Io, Store}
use Rattle.fence_law.specs.Columns.{spans}
use Rattle.fence_law.specs.State.{State, ReadReply}
use Rattle.fence_law.specs.State.Event.{Answers, Learns}
use Rattle.fence_law.specs.Machine.{Allowed}
use Rattle.fence_law.specs.Words.{In as InRun}
use Rattle.fence_law.proofs.Safe.{Safe}
use Rattle.plan_law.specs.FileLayout.{layout_of}
use Rattle.plan_law.proofs.Machine.{reads_may_answer}
use Rattle.file_simulation.specs.Calls.{IsHolding, IsReading, IsScattering}
use Rattle.file_simulation.specs.ClientEvents.{answer_from}
use Rattle.relation_law.proofs.MessagesClients.{HasRead}
use Rattle.relation_law.proofs.ReadsShown.{AllShown, shown_is}

-- ---- a read

inside : (lo n p : ℕ) → spans lo n p ≡ true → (lo ≤ p) × (p < lo + n)
inside lo n p e = (grind (arith, nat_tests, e), grind (arith, nat_tests, e))

some_told : (s : State) (j : ℕ) (got : List Column) → got ≢ [] → AllShown s j got →
    (r : ReadReply) × InRun r s.shown × (r.entry ≡ j)
some_told s j [] some h = absurd (some refl)
some_told s j (col ∷ cols) some h = let k = h col (inl refl) in (k.1.reply, k.1.shown, k.1.entry)

-- the answer at a position
answer_is : (m : RawMap) (r : Span) (got : List Column) (out : List ℕ) (p : ℕ) → r.offset ≤ p → p < end_of r →
    answer_from r.offset (answered m r got out) p ≡ answer_at m got out p
unfolding answered
answer_is m r got out p low high =
    get_or-map-range_with_len (answer_at m got out) r.offset r.length (p - r.offset) p 0 (omega (arith, low, high))
    (omega (arith, low))

pub answer_allowed : (m : RawMap) (tag : ℕ) (s : State) (c : ℕ) (h : Held) (op : CallOp) (j : ℕ) (got : List Column)
    (out : List ℕ) → s.layout ≡ layout_of m tag → IsChecked m → IsHolding m s c h → IsReading s c op j → Safe s →
    HasRead m h op got out → AllShown s j got →
    Allowed s (Answers c j (answer_from (span_of op).offset (answered h.map (clipped h.size (span_of op)) got out)))
answer_allowed m tag s c h op j got out lay ch k run safe has shown =
    let map : h.map ≡ m = k.same.agrees.map in
    let r : Span = clipped h.size (span_of op) in
    let x = safe.formed j run.running.below in
    record {
      runs = run.at_;
      told = some_told s j got has.some shown;
      all = λ p want d bytes agrees.
          let asked = sym (x.asks (safe.running.reads c j run.at_) p) ∙ want in
          let i = inside (s.start j).from_ (min (s.start j).to_ (s.start j).clip - (s.start j).from_) p asked in
          let low : r.offset ≤ p = omega (arith, i.0, run.first) in
          let end_ : min (s.start j).to_ (s.start j).clip ≡ min ((span_of op).offset + (span_of op).length) h.size =
          ap (λ (n : ℕ). min n (s.start j).clip) run.past
          ∙ ap (min ((span_of op).offset + (span_of op).length)) (run.clip ∙ k.size) in
          let high : p < end_of r = omega (arith, i.0, i.1, run.first, end_) in
          elim has.all [
            | inl none ↦ absurd (omega (arith, none, low, high))
            | inr all ↦ rw map (answer_is m r got out p low high
                ∙ reads_may_answer m tag s j r got out lay ch all.0 all.1 (shown_is m tag s j got lay shown) p low high d
                bytes agrees)
          ];
    }

-- ---- a WRITE

-- each reply that a WRITE which the call awaits was performed is one of the machine's
abbrev pub IsTold : State → (c : ℕ) → Awaited → Type 0
IsTold s c a = InRun (record { holder = c; nonce = a.command.nonce; at = a.ask.component }) s.replies

pub learns_allowed : (s : State) (c : ℕ) (op : CallOp) (io : Io) (queue : List Store) (j : ℕ) (a : Awaited) →
    IsScattering s c op io queue j → In a io.awaited → IsTold s c a →
    Allowed s (Learns c a.ask.component j a.command.nonce a.ask.offset)
learns_allowed s c op io queue j a sc i told = record { runs = sc.writing.at_; sent = sc.out.sent a i; comes = told }
