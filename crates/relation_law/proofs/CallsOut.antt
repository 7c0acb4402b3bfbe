-- The WRITEs of a running write: one more is sent.
-- Towards `CallsGoOn` (`specs/Steps.antt`).
use Rattle.std.proofs.Common.{◌≡◌, ◌⊎◌, ℕ, Bool, true, false, List, [], ◌∷◌, ◌++◌, refl, sym, ap, ◌∙◌, inl, inr, filter, if◌then◌else◌}
use Rattle.std.proofs.lemmas.Bool.{true≢false, cases_eq}
use Rattle.server_rules.specs.Laws.{In}
use Rattle.server_rules.proofs.Members.{in_either, in_front, in_behind, in_filtered}
use Rattle.world_history.specs.ClientNames.{CallOp, Awaited, TimedOut, Store, Column}
use Rattle.fence_law.specs.Words.{updated}
use Rattle.fence_law.specs.State.{State, Grant, PartState}
use Rattle.fence_law.specs.State.Commit.{NoCommit}
use Rattle.fence_law.specs.State.PartState.{NotSent, Sent, Done}
use Rattle.fence_law.specs.State.Event.{Sends}
use Rattle.fence_law.specs.Machine.{after}
use Rattle.fence_law.proofs.Words.{updated_same, updated_other}
use Rattle.file_simulation.specs.Calls.{IsAwaited, IsQueued, IsTimedOut, IsOver, PartsDiffer, IsWriting, IsScattering}

-- ---- lists

in_kept : {A : Type 0} (b : Bool) (x y : A) (ys : List A) → In x ys → In x (if b then y ∷ ys else ys)
in_kept true x y ys i = inr i
in_kept false x y ys i = i

in_first : {A : Type 0} (b : Bool) (x y : A) (ys : List A) → x ≡ y → b ≡ true → In x (if b then y ∷ ys else ys)
in_first true x y ys e on = inl e
in_first false x y ys e on = absurd (true≢false (sym on))

-- what is there and passes a test is among what passes it
pub in_passed : {A : Type 0} (p : A → Bool) (x : A) (xs : List A) → In x xs → p x ≡ true → In x (filter p xs)
in_passed p x [] i on = absurd i
in_passed p x (y ∷ xs) (inl e) on = in_first (p y) x y (filter p xs) e (ap p (sym e) ∙ on)
in_passed p x (y ∷ xs) (inr i) on = in_kept (p y) x y (filter p xs) (in_passed p x xs i on)

-- of some WRITEs that are for different parts
differ_kept : (b : Bool) (w : Store) (ws : List Store) → ((q : Store) → In q ws → q.ask.component ≡ w.ask.component →
    q.ask.offset ≡ w.ask.offset → ⊥) → PartsDiffer ws → PartsDiffer (if b then w ∷ ws else ws)
differ_kept true w ws f k = (f, k)
differ_kept false w ws f k = k

pub differ_filter : (p : Store → Bool) (ws : List Store) → PartsDiffer ws → PartsDiffer (filter p ws)
differ_filter p [] k = tt
differ_filter p (w ∷ ws) k =
    differ_kept (p w) w (filter p ws) (λ q i x y. k.0 q (in_filtered p q ws i).0 x y) (differ_filter p ws k.1)

-- ---- one part

-- the part of a component, and all others
pub two_same : (f : ℕ → ℕ → ℕ → PartState) (c k i : ℕ) (v : PartState) →
    updated f c (updated (f c) k (updated (f c k) i v)) c k i ≡ v
two_same f c k i v =
    ap (λ (h : ℕ → ℕ → PartState). h k i) (updated_same f c (updated (f c) k (updated (f c k) i v)))
    ∙ ap (λ (h : ℕ → PartState). h i) (updated_same (f c) k (updated (f c k) i v))
    ∙ updated_same (f c k) i v

pub two_other : (f : ℕ → ℕ → ℕ → PartState) (c k i : ℕ) (v : PartState) (n j : ℕ) → (n ≡ k → j ≡ i → ⊥) →
    updated f c (updated (f c) k (updated (f c k) i v)) c n j ≡ f c n j
two_other f c k i v n j ne =
    ap (λ (h : ℕ → ℕ → PartState). h n j) (updated_same f c (updated (f c) k (updated (f c k) i v)))
    ∙ elim (cases_eq n k) [
      | inl e ↦ rw e (ap (λ (h : ℕ → PartState). h j) (updated_same (f c) k (updated (f c k) i v))
          ∙ updated_other (f c k) i v j (ne e))
      | inr other ↦ ap (λ (h : ℕ → PartState). h j) (updated_other (f c) k (updated (f c k) i v) n other)
    ]

-- ---- the same entry

pub writing_same : (s t : State) (c : ℕ) (op : CallOp) (j : ℕ) → t.call c ≡ s.call c → t.commit c ≡ s.commit c →
    t.count ≡ s.count → t.start ≡ s.start → t.held c ≡ s.held c → t.acknowledged ≡ s.acknowledged →
    IsWriting s c op NoCommit j → IsWriting t c op NoCommit j
writing_same s t c op j a b n e f g w = record {
  at_ = a ∙ w.at_;
  commit_is = b ∙ w.commit_is;
  running = record {
    below = rw n w.running.below;
    client = rw e w.running.client;
    under = λ x h. rw e (w.running.under x (sym f ∙ h));
    unfinished = rw g w.running.unfinished;
  };
  write = record {
    write = rw e w.write.write;
    bytes = λ p. rw e (w.write.bytes p);
    past = rw e w.write.past;
    listed = rw e w.write.listed;
  };
  last = rw (e, n) w.last;
}

-- ---- a WRITE is sent

module _ (s : State) (c : ℕ) (op : CallOp) (got : List Column) (timed : List TimedOut) (before : List Awaited) (w : Store)
    (queue : List Store) (j : ℕ)
    (k : IsScattering s c op (record { awaited = before; got = got; timed = timed }) (w ∷ queue) j) (g : Grant) (n : ℕ)
    (a : Awaited) (ask : a.ask ≡ w.ask) where
  abbrev t : State
  t = after s (Sends c w.ask.component g n w.ask.offset a.command.nonce)

  abbrev kc : ℕ
  kc = w.ask.component

  abbrev ki : ℕ
  ki = w.ask.offset

  now : t.out c kc ki ≡ Sent a.command.nonce
  now = two_same s.out c kc ki (Sent a.command.nonce)

  still : (q i : ℕ) → (q ≡ kc → i ≡ ki → ⊥) → t.out c q i ≡ s.out c q i
  still q i ne = two_other s.out c kc ki (Sent a.command.nonce) q i ne

  unsent : s.out c kc ki ≡ NotSent
  unsent = k.out.queued w (inl refl)

  -- what isn't unsent is another part
  at_part : (q i : ℕ) → q ≡ kc → i ≡ ki → s.out c q i ≡ NotSent
  at_part q i x y = rw (x, y) unsent

  apart : (v : ℕ) (q i : ℕ) → s.out c q i ≡ Sent v → q ≡ kc → i ≡ ki → ⊥
  apart v q i e x y = cc (sym e ∙ at_part q i x y)

  apart_done : (q i : ℕ) → s.out c q i ≡ Done → q ≡ kc → i ≡ ki → ⊥
  apart_done q i e x y = cc (sym e ∙ at_part q i x y)

  sent_part : (q i v : ℕ) → s.out c q i ≡ Sent v → t.out c q i ≡ Sent v
  sent_part q i v e = still q i (apart v q i e) ∙ e

  same_part : (b : Awaited) → b ≡ a → t.out c b.ask.component b.ask.offset ≡ Sent b.command.nonce
  same_part b e = rw (e, ask) now

  is_sent : (b : Awaited) → In b (before ++ a ∷ []) → t.out c b.ask.component b.ask.offset ≡ Sent b.command.nonce
  is_sent b i = elim (in_either b before (a ∷ []) i) [
    | inl old ↦ sent_part b.ask.component b.ask.offset b.command.nonce (k.out.sent b old)
    | inr (inl e) ↦ same_part b e
    | inr (inr none) ↦ absurd none
  ]

  component_is : a.ask.component ≡ kc
  component_is = ap (λ x. x.component) ask

  offset_is : a.ask.offset ≡ ki
  offset_is = ap (λ x. x.offset) ask

  queued_part : (q : ℕ) (i : ℕ) → IsQueued (w ∷ queue) q i → IsAwaited (before ++ a ∷ []) q i ⊎ IsQueued queue q i
  queued_part q i (x, inl e, y, z) = inl (
    a,
    in_behind a before (a ∷ []) (inl refl),
    component_is ∙ ap (λ (u : Store). u.ask.component) (sym e) ∙ y,
    offset_is ∙ ap (λ (u : Store). u.ask.offset) (sym e) ∙ z,
  )
  queued_part q i (x, inr old, y, z) = inr (x, old, y, z)

  over_part : (q i : ℕ) → IsOver s c j timed q i → IsOver t c j timed q i
  over_part q i (inl done) = inl (still q i (apart_done q i done) ∙ done)
  over_part q i (inr other) = inr other

  awaited_part : (q i : ℕ) → IsAwaited before q i → IsAwaited (before ++ a ∷ []) q i
  awaited_part q i (x, old, y, z) = (x, in_front x before (a ∷ []) old, y, z)

  known_part : (q i v : ℕ) → t.out c q i ≡ Sent v → IsAwaited (before ++ a ∷ []) q i ⊎ IsTimedOut timed q
  known_part q i v e = elim (cases_eq q kc) [
    | inl x ↦ elim (cases_eq i ki) [
      | inl y ↦ inl (a, in_behind a before (a ∷ []) (inl refl), component_is ∙ sym x, offset_is ∙ sym y)
      | inr y ↦ old (λ p r. y r)
    ]
    | inr x ↦ old (λ p r. x p)
  ]
    where
      old : (q ≡ kc → i ≡ ki → ⊥) → IsAwaited (before ++ a ∷ []) q i ⊎ IsTimedOut timed q
      old ne = elim (k.out.known q i v (sym (still q i ne) ∙ e)) [
        | inl b ↦ inl (awaited_part q i b)
        | inr b ↦ inr b
      ]

  pub write_sent : IsScattering t c op (record { awaited = before ++ a ∷ []; got = got; timed = timed }) queue j
  write_sent = record {
    writing = writing_same s t c op j refl refl refl refl refl refl k.writing;
    clip = k.clip;
    out = record {
      sent = is_sent;
      queued = λ q i. still q.ask.component q.ask.offset (λ x y. k.differ.0 q i x y) ∙ k.out.queued q (inr i);
      others = λ q z v e. elim (k.out.others q z v e) [
        | inl b ↦ inl (awaited_part q ((s.start j).part q z) b)
        | inr (inl b) ↦ elim (queued_part q ((s.start j).part q z) b) [ inl y ↦ inl y | inr y ↦ inr (inl y) ]
        | inr (inr b) ↦ inr (inr (over_part q ((s.start j).part q z) b))
      ];
      known = known_part;
    };
    content = λ q i. k.content q (inr i);
    differ = k.differ.1;
  }
