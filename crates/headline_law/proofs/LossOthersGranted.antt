-- Each grant that a client of the machine holds, and each write's grant, stands in one of its answers.
-- Towards `OthersAreApart` (`EntriesServerAgain.antt`).
use Rattle.std.proofs.Common.{◌≡◌, ◌⊎◌, inl, inr, ℕ, ◌+◌, ◌<◌, true, Option, Some, None, List, [], ◌∷◌, refl, sym, ap, subst, ◌∙◌, arith}
use Rattle.std.proofs.lemmas.Bool.{true≢false}
use Rattle.fence_law.specs.State.{State, Grant, Answer, Start, Layout}
use Rattle.fence_law.specs.State.{Event}
use Rattle.fence_law.specs.State.Event.{Grants, Refuses, Takes, GivesBack, Reports, Forgets, Frees, StartsWrite, StartsRead, Leaves, TakesRefusal, Repairs, Rebuilds}
use Rattle.fence_law.specs.Machine.{Allowed, after, after_all, Lawful, new_file_state}
use Rattle.fence_law.specs.Starts.{written_start, read_start, repair_start, rebuilt_start}
use Rattle.fence_law.specs.Words.{In, updated}
use Rattle.fence_law.proofs.Words.{updated_read}
use Rattle.file_simulation.specs.Showing.{IsRun}

-- a grant of this number stands in an answer
pub record IsAnswered (b : State) (number : ℕ) : Type 0 where
  pub answer : Answer
  pub stands : In answer b.answers
  pub grant : Grant
  pub gives : answer.grant ≡ Some grant
  pub number_is : grant.number ≡ number

-- so does each that is held, and that of each write
pub record AreAnswered (b : State) : Type 0 where
  pub held : (c : ℕ) (g : Grant) → b.held c ≡ Some g → IsAnswered b g.number
  pub writes : (j : ℕ) → j < b.count → (b.start j).is_write ≡ true → IsAnswered b (b.start j).grant

-- ---- events

-- no answer is taken away
abbrev HasTold : State → State → Type 0
HasTold b t = (a : Answer) → In a b.answers → In a t.answers

answered_still : (b t : State) → HasTold b t → (n : ℕ) → IsAnswered b n → IsAnswered t n
answered_still b t more n k = record {
  answer = k.answer;
  stands = more k.answer k.stands;
  grant = k.grant;
  gives = k.gives;
  number_is = k.number_is;
}

-- what is held was held, or is answered, and no entry is new
kept : (b t : State) → HasTold b t → ((c : ℕ) (g : Grant) → t.held c ≡ Some g → (b.held c ≡ Some g) ⊎ IsAnswered b g.number) →
    t.count ≡ b.count → t.start ≡ b.start → AreAnswered b → AreAnswered t
kept b t more held count start h = record {
  held = λ c g e. elim (held c g e) [
    | inl old ↦ answered_still b t more g.number (h.held c g old)
    | inr new ↦ answered_still b t more g.number new
  ];
  writes = λ j low. subst (λ (s : ℕ → Start). (s j).is_write ≡ true → IsAnswered t (s j).grant) (sym start)
      (λ write. answered_still b t more (b.start j).grant (h.writes j (omega (arith, low, count)) write));
}

-- a client holds nothing any more
lets_go : (b : State) (c : ℕ) (d : ℕ) (g : Grant) → updated b.held c None d ≡ Some g →
    (b.held d ≡ Some g) ⊎ IsAnswered b g.number
lets_go b c d g e = elim (updated_read b.held c None d).1 [
  | inl here ↦ absurd (cc (sym here.1 ∙ e))
  | inr other ↦ inl (sym other.1 ∙ e)
]

-- a client takes an answer
takes : (b : State) (c : ℕ) (o : Option Grant) (size : ℕ) → Allowed b (Takes c o size) → (d : ℕ) (g : Grant) →
    updated b.held c o d ≡ Some g → (b.held d ≡ Some g) ⊎ IsAnswered b g.number
takes b c o size a d g e = elim (updated_read b.held c o d).1 [
  | inl here ↦ inr (record {
    answer = record { client = c; sequence = b.sequence c; grant = o; size = size };
    stands = a.comes;
    grant = g;
    gives = sym here.1 ∙ e;
    number_is = refl;
  })
  | inr other ↦ inl (sym other.1 ∙ e)
]

-- a further entry, which is no write, or under a grant that is held
starts : (b t : State) (s : Start) → t.held ≡ b.held → t.answers ≡ b.answers → t.count ≡ b.count + 1 →
    t.start ≡ updated b.start b.count s → (s.is_write ≡ true → IsAnswered b s.grant) → AreAnswered b → AreAnswered t
starts b t s held answers count start own h = record {
  held = λ c g e. still g.number (h.held c g (sym (ap (λ (f : ℕ → Option Grant). f c) held) ∙ e));
  writes = λ j low. subst (λ (f : ℕ → Start). (f j).is_write ≡ true → IsAnswered t (f j).grant) (sym start) (entry j low);
}
  where
    still : (n : ℕ) → IsAnswered b n → IsAnswered t n
    still n k = answered_still b t (λ a i. subst (In a) (sym answers) i) n k

    entry : (j : ℕ) → j < t.count → (updated b.start b.count s j).is_write ≡ true →
        IsAnswered t (updated b.start b.count s j).grant
    entry j low = elim (updated_read b.start b.count s j).1 [
      | inl here ↦
          subst (λ (x : Start). x.is_write ≡ true → IsAnswered t x.grant) (sym here.1)
          (λ write. still s.grant (own write))
      | inr other ↦
          subst (λ (x : Start). x.is_write ≡ true → IsAnswered t x.grant) (sym other.1)
          (λ write. still (b.start j).grant (h.writes j (omega (arith, low, count, other.0)) write))
    ]

keep_answered : (b : State) (e : Event) → Allowed b e → AreAnswered b → AreAnswered (after b e)
keep_answered b (Grants c number rw range extending) a h = kept b _ (λ x i. inr i) (λ d g e. inl e) refl refl h
keep_answered b (Refuses c kind) a h = kept b _ (λ x i. inr i) (λ d g e. inl e) refl refl h
keep_answered b (Frees c) a h = kept b _ (λ x i. inr i) (λ d g e. inl e) refl refl h
keep_answered b (Takes c o size) a h = kept b _ (λ x i. i) (takes b c o size a) refl refl h
keep_answered b (GivesBack c g) a h = kept b _ (λ x i. i) (lets_go b c) refl refl h
keep_answered b (Reports c g) a h = kept b _ (λ x i. i) (lets_go b c) refl refl h
keep_answered b (Forgets c) a h = kept b _ (λ x i. i) (lets_go b c) refl refl h
keep_answered b (TakesRefusal c j) a h = kept b _ (λ x i. i) (lets_go b c) refl refl h
keep_answered b (Leaves c g) a h = kept b _ (λ x i. i) (lets_go b c) refl refl h
keep_answered b (StartsWrite c g i d touch hit seen e1 part) a h =
    starts b _ (written_start b c g d touch hit seen e1 part) refl refl refl refl (λ write. h.held c g a.has) h
keep_answered b (StartsRead c g lo hi reach) a h =
    starts b _ (read_start b c g lo hi reach) refl refl refl refl (λ write. absurd (true≢false (sym write))) h
keep_answered b (Repairs k cells e) a h =
    starts b _ (repair_start b k cells e) refl refl refl refl (λ write. absurd (true≢false (sym write))) h
keep_answered b (Rebuilds k cells) a h =
    starts b _ (rebuilt_start b k cells) refl refl refl refl (λ write. absurd (true≢false (sym write))) h
keep_answered b e a h = kept b (after b e) (λ x i. i) (λ d g q. inl q) refl refl h

keep_all : (b : State) (es : List Event) → Lawful b es → AreAnswered b → AreAnswered (after_all b es)
keep_all b [] l h = h
keep_all b (e ∷ es) l h = keep_all (after b e) es l.1 (keep_answered b e l.0 h)

first_answered : (m : Layout) → AreAnswered (new_file_state m)
first_answered m = record {
  held = λ c g e. absurd (cc e);
  writes = λ j low write. absurd (omega (arith, low));
}

pub run_answered : (s : State) → IsRun s → AreAnswered s
run_answered s r =
    subst AreAnswered (sym r.state) (keep_all (new_file_state s.layout) r.events r.lawful (first_answered s.layout))
