-- What was shown to a call stays shown, and what a drive reads of a component is shown.
-- Towards `ReadsGoOn` (`specs/Steps.antt`).
use Rattle.std.proofs.Common.{◌≡◌, ℕ, zero, suc, ◌+◌, ◌-◌, ◌<◌, ◌≤◌, List, [], ◌∷◌, length, take, drop, get_or, refl, sym, ap, ◌∙◌, inl, inr, arith}
use Rattle.std.specs.Prelude.{replicate}
use Rattle.std.proofs.lemmas.Bool.{cases_lt}
use Rattle.std.proofs.lemmas.List.{length-append, length-take, length-drop, length-replicate, get_or_append_left, get_or-append_right, get_or-take, get_or-drop, get_or-replicate}
use Rattle.osd_objects.specs.declared.object.StoredObject.{StoredObject}
use Rattle.osd_commands.specs.declared.replies.Reply.{Reply}
use Rattle.client_rules.specs.Io.{carried, got_of}
use Rattle.world_history.specs.ClientNames.{Awaited, Io, Column}
use Rattle.world_history.specs.State.{World}
use Rattle.fence_law.specs.State.{State, Event, ReadReply}
use Rattle.fence_law.specs.State.Event.{Shows}
use Rattle.fence_law.specs.Words.{In as InRun}
use Rattle.fence_law.specs.Machine.{after, after_all}
use Rattle.fence_law.proofs.SmallFiles.{same_map}
use Rattle.file_simulation.specs.Components.{IsMade}
use Rattle.file_simulation.specs.Messages.{WasShown, AreShown}
use Rattle.relation_law.specs.ReadsShown.{ShownGrows, NewAreShown}
use Rattle.relation_law.proofs.ReadsShown.{AllShown}

-- ---- the machine

one_more : (s : State) (e : Event) (r : ReadReply) → InRun r s.shown → InRun r (after s e).shown
one_more s (Shows j k) r i = inr i
one_more s e r i = i

pub shown_grows : (s : State) (es : List Event) → ShownGrows s (after_all s es)
shown_grows s [] = record { layout = refl; shown = λ r i. i }
shown_grows s (e ∷ es) =
    let rest = shown_grows (after s e) es in
    record { layout = rest.layout ∙ same_map s e; shown = λ r i. rest.shown r (one_more s e r i) }

pub was_shown_stays : (s t : State) (j k : ℕ) (col : Column) → ShownGrows s t → WasShown s j k col → WasShown t j k col
was_shown_stays s t j k col g w = record {
  below = rw g.layout w.below;
  position = rw g.layout w.position;
  reply = w.reply;
  shown = g.shown w.reply w.shown;
  entry = w.entry;
  at_ = w.at_;
  cells = w.cells;
}

pub all_shown_stay : (s t : State) (j : ℕ) (got : List Column) → ShownGrows s t → AllShown s j got → AllShown t j got
all_shown_stay s t j got g h = λ col i. (let k = h col i in (k.0, was_shown_stays s t j k.0 col g k.1))

-- ---- a call

-- beside a move that isn't the client's
pub are_shown_stay : (s t : State) (w v : World) (c j : ℕ) (io : Io) → ShownGrows s t → NewAreShown w v t c j io.awaited →
    AreShown s w c j io → AreShown t v c j io
are_shown_stay s t w v c j io g new h = record {
  got = all_shown_stay s t j io.got g h.got;
  replied = λ a r i told answers performed.
      elim (new a r i (record { told = told; answers = answers; performed = performed })) [
        | inl old ↦ was_shown_stays s t j a.ask.component (got_of a r) g (h.replied a r i old answers performed)
        | inr now ↦ now
      ];
}

-- ---- bytes

-- bytes behind the end are 0
past_end : (bs : List ℕ) (i : ℕ) → length bs ≤ i → get_or bs i 0 ≡ 0
past_end [] i l = refl
past_end (b ∷ bs) zero l = absurd (omega (arith, l))
past_end (b ∷ bs) (suc i) l = past_end bs i (omega (arith, l))

-- what a READ carries of an object are its bytes, and zeros behind them
pub carried_cells : (bs : List ℕ) (offset n i : ℕ) → i < n →
    get_or (carried n (take n (drop offset bs))) i 0 ≡ get_or bs (offset + i) 0
carried_cells bs offset n i low =
    let part : List ℕ = take n (drop offset bs) in
    let front : List ℕ = take n part in
    let long : length front ≡ length part = length_twice n (drop offset bs) in
    elim (cases_lt i (length part)) [
      | inl inside ↦
          get_or_append_left front (replicate (n - length part) 0) 0 i (omega (arith, long, inside))
          ∙ get_or-take n part i 0 low ∙ get_or-take n (drop offset bs) i 0 low ∙ get_or-drop offset bs i 0
      | inr past ↦
          let end_ : length (drop offset bs) ≤ i = omega (arith, length-take n (drop offset bs), past, low) in
          get_or-append_right front (replicate (n - length part) 0) (length front) i 0 refl (omega (arith, long, past))
          ∙ get_or-replicate (n - length part) (i - length front) 0 0 (omega (arith, long, past, low))
          ∙ sym (past_end bs (offset + i) (omega (arith, end_, length-drop offset bs)))
    ]
  where
    length_twice : (n : ℕ) (xs : List ℕ) → length (take n (take n xs)) ≡ length (take n xs)
    length_twice n xs = omega (arith, length-take n (take n xs), length-take n xs)

carried_long : (n : ℕ) (bytes : List ℕ) → length bytes ≤ n → length (carried n bytes) ≡ n
carried_long n bytes l =
    let none : ℕ = 0 in
    omega (
      arith,
      length-append (take n bytes) (replicate (n - length bytes) none),
      length-take n bytes,
      length-replicate (n - length bytes) none,
      l,
    )

-- ---- a drive reads

-- a READ of component k gives its cells
pub record ReadsCells (k : ℕ) (a : Awaited) (r : Reply) (o : StoredObject) : Type 0 where
  pub component : a.ask.component ≡ k
  pub payload : r.payload ≡ take a.ask.length (drop a.ask.offset o.content.bytes)

-- so it is shown to entry j
pub shown_now : (s : State) (j k : ℕ) (a : Awaited) (r : Reply) (o : StoredObject) → k < s.layout.components →
    s.layout.position k ≡ a.ask.position → IsMade s k o → ReadsCells k a r o →
    WasShown (after s (Shows j k)) j a.ask.component (got_of a r)
shown_now s j k a r o low position made reads = rw reads.component (record {
  below = low;
  position = position;
  reply = record { entry = j; at = k; cells = s.cell k };
  shown = inl refl;
  entry = refl;
  at_ = refl;
  cells = λ i l.
      let short : length (take a.ask.length (drop a.ask.offset o.content.bytes)) ≤ a.ask.length =
      omega (arith, length-take a.ask.length (drop a.ask.offset o.content.bytes)) in
      let long : length (carried a.ask.length r.payload) ≡ a.ask.length =
      ap (λ (bs : List ℕ). length (carried a.ask.length bs)) reads.payload
      ∙ carried_long a.ask.length (take a.ask.length (drop a.ask.offset o.content.bytes)) short in
      made.cells (a.ask.offset + i)
      ∙ sym (ap (λ (bs : List ℕ). get_or (carried a.ask.length bs) i 0) reads.payload
      ∙ carried_cells o.content.bytes a.ask.offset a.ask.length i (omega (arith, l, long)));
})
