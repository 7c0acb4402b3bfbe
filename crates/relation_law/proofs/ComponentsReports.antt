-- Reported components in the machine, and notes of another file.
-- Towards `ComponentsGoOn` (`specs/Steps.antt`).
use Rattle.std.proofs.Common.{◌≡◌, ◌==◌, ◌++◌, ℕ, ◌+◌, ◌<◌, Bool, true, false, zero, suc, List, [], ◌∷◌, slice_get, Option, Some, refl, sym, ap, subst, ◌∙◌, inl, inr, arith, append_assoc, if◌then◌else◌}
use Rattle.std.proofs.lemmas.Bool.{cases_Bool, ne_eqb}
use Rattle.std.proofs.lemmas.List.{append-nil}
use Rattle.server_rules.specs.History.{Input}
use Rattle.server_rules.specs.Numbers.{among}
use Rattle.world_history.specs.ServerNames.{File, Kept, Component, Note, NoteKind, Reported}
use Rattle.world_history.specs.State.{World}
use Rattle.fence_law.specs.State.{State}
use Rattle.fence_law.specs.State.Event.{Loses}
use Rattle.fence_law.specs.Machine.{after, after_all}
use Rattle.fence_law.proofs.Words.{updated_same, updated_other}
use Rattle.file_simulation.specs.EventLists.{where_so}
use Rattle.file_simulation.specs.ServerEvents as table
use Rattle.relation_law.specs.ComponentsWalk.{noted_after, reports_of, IsWalked, TakesReports}
use Rattle.relation_law.proofs.ComponentsNotes.{noted_more, own_note, Told, AreTold, Leaves, leaves_as, Falls, lost_at, told_left, told_lost}

-- ---- reports

falls_later : (t u v : State) (j : ℕ) → Leaves t u j → Falls u v j → Falls t v j
falls_later t u v j l k = record {
  missing = k.missing;
  lost = k.lost;
  tag = k.tag ∙ l.tag;
  cells = λ z. k.cells z ∙ l.cells z;
}

leaves_later : (t u v : State) (j : ℕ) → Leaves t u j → Leaves u v j → Leaves t v j
leaves_later t u v j l k = record {
  missing = k.missing ∙ l.missing;
  lost = k.lost ∙ l.lost;
  tag = k.tag ∙ l.tag;
  cells = λ z. k.cells z ∙ l.cells z;
}

-- behind a loss component j has fallen, and stays so behind what leaves it
falls_on : (t u v : State) (j : ℕ) → Falls t u j → Leaves u v j → Falls t v j
falls_on t u v j k l = record {
  missing = l.missing ∙ k.missing;
  lost = l.lost ∙ k.lost;
  tag = l.tag ∙ k.tag;
  cells = λ z. l.cells z ∙ k.cells z;
}

loses_own : (t : State) (c n : ℕ) → Falls t (after t (Loses c n)) n
loses_own t c n = record {
  missing = updated_same t.missing n true;
  lost = updated_same t.lost n true;
  tag = refl;
  cells = λ z. refl;
}

loses_other : (t : State) (c n j : ℕ) → (j ≡ n → ⊥) → Leaves t (after t (Loses c n)) j
loses_other t c n j other = record {
  missing = updated_other t.missing n true j other;
  lost = updated_other t.lost n true j other;
  tag = refl;
  cells = λ z. refl;
}

-- what the notes of reports make of the machine
record AreReported (t u : State) (ks : List ℕ) (cs : List Component) (n : ℕ) : Type 0 where
  low : (j : ℕ) → j < n → Leaves t u j
  hit : (k j : ℕ) (at : Component) → j ≡ n + k → slice_get cs k ≡ Some at → among j ks ≡ true → Falls t u j
  spared : (k j : ℕ) (at : Component) → j ≡ n + k → slice_get cs k ≡ Some at → among j ks ≡ false → Leaves t u j

module _ (w : World) (f : File) (i : Input) (c : ℕ) (asked : table.asker i ≡ Some c) (number : ℕ)
    (own : number ≡ f.kept.number) where
  one_report : (t : State) (n : ℕ) →
      noted_after t w f i (record { file = number; kind = Reported n } ∷ []) ≡ after t (Loses c n)
  one_report t n =
      own_note t w f i number (Reported n) own ∙ ap (λ (o : Option ℕ). after_all t (table.reported n o)) asked

  reported_after : (t : State) (ks : List ℕ) (cs : List Component) (n : ℕ) →
      AreReported t (noted_after t w f i (reports_of number ks cs n)) ks cs n
  unfolding reports_of noted_after
  reported_after t ks [] n = record {
    low = λ j less. leaves_as t t j refl;
    hit = λ k j at is e. absurd (cc e);
    spared = λ k j at is e. absurd (cc e);
  }
  reported_after t ks (at ∷ cs) n =
      by_test (among n ks) refl (λ v. reported_after v ks cs (n + 1))
    where
      more : List Note
      more = reports_of number ks cs (n + 1)

      one : (v u : State) → u ≡ noted_after v w f i (reports_of number ks cs (n + 1)) → ((j : ℕ) → (j ≡ n → ⊥) → Leaves t v j) →
          ((among n ks ≡ true → Falls t v n) × (among n ks ≡ false → Leaves t v n)) →
          AreReported v (noted_after v w f i (reports_of number ks cs (n + 1))) ks cs (n + 1) → AreReported t u ks (at ∷ cs) n
      one v u is other here k = subst (λ (x : State). AreReported t x ks (at ∷ cs) n) (sym is) (record {
        low = λ j less. leaves_later t v _ j (other j (λ e. absurd (omega (arith, less, e)))) (k.low j (omega (arith, less)));
        hit = hits;
        spared = spares;
      })
        where
          hits : (x j : ℕ) (y : Component) → j ≡ n + x → slice_get (at ∷ cs) x ≡ Some y → among j ks ≡ true →
              Falls t (noted_after v w f i (reports_of number ks cs (n + 1))) j
          hits zero j y e there m =
              let same : n ≡ j = omega (arith, e) in
              subst (λ (q : ℕ). Falls t (noted_after v w f i (reports_of number ks cs (n + 1))) q) same
              (falls_on t v _ n (here.0 (ap (λ (q : ℕ). among q ks) same ∙ m)) (k.low n (omega arith)))
          hits (suc x) j y e there m =
              falls_later t v _ j (other j (λ q. absurd (omega (arith, e, q)))) (k.hit x j y (omega (arith, e)) there m)

          spares : (x j : ℕ) (y : Component) → j ≡ n + x → slice_get (at ∷ cs) x ≡ Some y → among j ks ≡ false →
              Leaves t (noted_after v w f i (reports_of number ks cs (n + 1))) j
          spares zero j y e there m =
              let same : n ≡ j = omega (arith, e) in
              subst (λ (q : ℕ). Leaves t (noted_after v w f i (reports_of number ks cs (n + 1))) q) same
              (leaves_later t v _ n (here.1 (ap (λ (q : ℕ). among q ks) same ∙ m)) (k.low n (omega arith)))
          spares (suc x) j y e there m =
              leaves_later t v _ j (other j (λ q. absurd (omega (arith, e, q)))) (k.spared x j y (omega (arith, e)) there m)

      by_test : (b : Bool) → among n ks ≡ b →
          ((v : State) → AreReported v (noted_after v w f i (reports_of number ks cs (n + 1))) ks cs (n + 1)) →
          AreReported t (noted_after t w f i ((if b then record { file = number; kind = Reported n } ∷ [] else [])
          ++ reports_of number ks cs (n + 1))) ks (at ∷ cs) n
      by_test true e rest =
          one (after t (Loses c n)) _
          (noted_more t w f i (record { file = number; kind = Reported n } ∷ []) (reports_of number ks cs (n + 1))
          ∙ ap (λ (v : State). noted_after v w f i (reports_of number ks cs (n + 1))) (one_report t n))
          (λ j other. loses_other t c n j other)
          (λ h. loses_own t c n, λ z. absurd (cc (sym e ∙ z))) (rest (after t (Loses c n)))
      by_test false e rest =
          one t _ refl (λ j other. leaves_as t t j refl)
          (λ h. absurd (cc (sym e ∙ h)), λ z. leaves_as t t n refl) (rest t)

-- a report that is taken makes the same of both
pub takes_reports : (s t : State) (w : World) (f : File) (i : Input) (c : ℕ) → table.asker i ≡ Some c →
    TakesReports (λ k ns. AreTold s t w f i k ns)
takes_reports s t w f i c asked k ns ks h = record {
  number = h.number;
  each = λ j to e.
      let r = lost_at ks k.components 0 j to e in
      let place : 0 + j ≡ j = omega arith in
      let here : j ≡ 0 + j = omega arith in
      let old = h.each j r.before r.there in
      let u : State = noted_after t w f i ns in
      let v = reported_after w f i c asked k.number h.number (noted_after t w f i ns) ks k.components 0 in
      let is = noted_more t w f i ns (reports_of k.number ks k.components 0) in
      subst (λ (x : State). Told s x w f (ns ++ reports_of k.number ks k.components 0) j to) (sym is)
      (elim (cases_Bool (among j ks)) [
        | inl m ↦
            let gone : to ≡ record r.before { missing = true } = r.hit (ap (λ (q : ℕ). among q ks) place ∙ m) in
            let falls = v.hit j j r.before here r.there m in
            told_lost s (noted_after t w f i ns) _ w f ns _ j r.before to (ap (λ (y : Component). y.missing) gone)
            (ap (λ (y : Component). y.drive) gone) (ap (λ (y : Component). y.object) gone) falls.missing falls.lost
            falls.tag falls.cells old
        | inr z ↦
            let same : to ≡ r.before = r.spared (ap (λ (q : ℕ). among q ks) place ∙ z) in
            subst (λ (y : Component). Told s (noted_after (noted_after t w f i ns) w f i
            (reports_of k.number ks k.components 0)) w f (ns ++ reports_of k.number ks k.components 0) j y) (sym same)
            (told_left s (noted_after t w f i ns) _ w f ns _ j r.before (v.spared j j r.before here r.there z) old)
      ]);
}

-- ---- notes of one file

-- all of these notes are of that file
pub AllOf : (number : ℕ) → List Note → Type 0
AllOf n [] = Unit {0}
AllOf n (m ∷ ms) = (m.file ≡ n) × AllOf n ms

all_more : (n : ℕ) (ms ks : List Note) → AllOf n ms → AllOf n ks → AllOf n (ms ++ ks)
unfolding AllOf
all_more n [] ks a b = b
all_more n (m ∷ ms) ks a b = (a.0, all_more n ms ks a.1 b)

all_reports : (n : ℕ) (ks : List ℕ) (cs : List Component) (k : ℕ) → AllOf n (reports_of n ks cs k)
unfolding reports_of AllOf
all_reports n ks [] k = tt
all_reports n ks (at ∷ cs) k = all_more n _ (reports_of n ks cs (k + 1)) (one (among k ks)) (all_reports n ks cs (k + 1))
  where
    one : (b : Bool) → AllOf n (if b then record { file = n; kind = Reported k } ∷ [] else [])
    one true = (refl, tt)
    one false = tt

-- what is kept is of file n, and its notes stand behind these
pub record Alone (n : ℕ) (base : List Note) (k : Kept) (ns : List Note) : Type 0 where
  pub number : k.number ≡ n
  pub more : List Note
  pub is : ns ≡ base ++ more
  pub all : AllOf n more

alone_more : (n : ℕ) (base : List Note) (k l : Kept) (ns ms : List Note) → l.number ≡ k.number → AllOf k.number ms →
    Alone n base k ns → Alone n base l (ns ++ ms)
alone_more n base k l ns ms same all h = record {
  number = same ∙ h.number;
  more = h.more ++ ms;
  is = ap (λ (x : List Note). x ++ ms) h.is ∙ append_assoc base h.more ms;
  all = all_more n h.more ms h.all (subst (λ (q : ℕ). AllOf q ms) h.number all);
}

one_note : (k : Kept) (kind : NoteKind) → AllOf k.number (record { file = k.number; kind = kind } ∷ [])
unfolding AllOf
one_note k kind = (refl, tt)

pub alone_walked : (n : ℕ) (base : List Note) → IsWalked (λ k ns. Alone n base k ns)
alone_walked n base = record {
  same = λ k l ns number components h. record { number = number ∙ h.number; more = h.more; is = h.is; all = h.all };
  silent = λ k ns kind p h. alone_more n base k k ns _ refl (one_note k kind) h;
  lost = λ k ns m h. alone_more n base k _ ns _ refl (one_note k _) h;
  full = λ k ns m lacks h. alone_more n base k k ns _ refl (one_note k _) h;
  rebuilt = λ k ns t h. alone_more n base k _ ns _ refl (one_note k _) h;
}

pub alone_reports : (n : ℕ) (base : List Note) → TakesReports (λ k ns. Alone n base k ns)
alone_reports n base k ns ks h = alone_more n base k _ ns _ refl (all_reports k.number ks k.components 0) h

pub alone_first : (k : Kept) (base : List Note) → Alone k.number base k base
unfolding AllOf
alone_first k base = record { number = refl; more = []; is = sym (append-nil base); all = tt }

-- ---- notes of another file have no event

quiet_notes : (t : State) (w : World) (f : File) (i : Input) (n : ℕ) (ns : List Note) → (n ≡ f.kept.number → ⊥) →
    AllOf n ns → noted_after t w f i ns ≡ t
unfolding AllOf noted_after
quiet_notes t w f i n [] other all = refl
quiet_notes t w f i n (m ∷ ns) other all =
    let none : (m.file == f.kept.number) ≡ false =
    ne_eqb m.file f.kept.number (λ e. other (sym all.0 ∙ e)) in
    ap (λ (b : Bool). noted_after (after_all t (where_so b (table.noted_here t w f i m.kind))) w f i ns) none
    ∙ quiet_notes t w f i n ns other all.1

-- so all components stay told
pub quiet_told : (s t : State) (w : World) (f : File) (i : Input) (k : Kept) (n : ℕ) (base ns : List Note) (x : Kept) →
    (n ≡ f.kept.number → ⊥) → AreTold s t w f i k base → Alone n base x ns → AreTold s t w f i k ns
quiet_told s t w f i k n base ns x other h a =
    subst (λ (m : List Note). AreTold s t w f i k m) (sym a.is) (record {
      number = h.number;
      each = λ j at e.
          told_left s (noted_after t w f i base) _ w f base a.more j at
          (leaves_as (noted_after t w f i base) _ j
          (noted_more t w f i base a.more ∙ quiet_notes (noted_after t w f i base) w f i n a.more other a.all))
          (h.each j at e);
    })
