-- The four calls that add records, one after another.
use Rattle.std.proofs.Common.{◌≡◌, ◌⊎◌, inl, ℕ, ◌+◌, ◌≤◌, List, [], ◌∷◌, ◌++◌, length, drop, Bool, IsTrue, refl, sym, ◌∙◌, ap, subst, arith, length-append}
use Rattle.std.proofs.lemmas.List.{append-nil}
use Rattle.osd_disk.specs.Crashes.{Holds, Torn, Follows, Narrows, Only, Elapses, LeavesOnly}
use Rattle.osd_disk.proofs.Moments.{started, goes_on}
use Rattle.gate_log.specs.declared.entry.TheConstants.{OPEN_GATE}
use Rattle.gate_log.specs.declared.form.Form.TheVariants.{Checked}
use Rattle.gate_log.specs.Entries.{pieces_of}
use Rattle.gate_log.specs.Forms.{record_of}
use Rattle.gate_log.specs.Logs.{IsLog}
use Rattle.gate_log.specs.Pieces.{AddBodies}
use Rattle.gate_log.specs.Standing.{StandsAt}
use Rattle.gate_log.specs.Written.{appended, AreBodies, IsAppended}
use Rattle.gate_log.proofs.Fronts.{closed, front_appended, pieces_behind}
use Rattle.gate_log.proofs.Crash.{stage_crash, gate_crash, written_behind, written_gate, next_place}
use Rattle.gate_log.proofs.Appended.{appended_grows}

-- bytes that aren't none are of some bodies
pub adds : (more : List (List ℕ)) (pieces : List ℕ) → AreBodies more → pieces ≡ pieces_of more → (pieces ≡ [] → ⊥)
    → AddBodies more pieces
adds [] pieces are is some = absurd (some is)
adds (body ∷ others) pieces are is some = record { are_bodies = are; some = omega arith; bytes_are = is }

-- and no bytes are of none
no_more : (more : List (List ℕ)) (pieces : List ℕ) → pieces ≡ pieces_of more → pieces ≡ [] → more ≡ []
no_more [] pieces is none = refl
no_more (body ∷ others) pieces is none =
    absurd (omega (
      arith,
      ap length (sym none ∙ is),
      length-append (record_of Checked body) (appended others ++ 0 ∷ []),
      length-append (appended others) (0 ∷ []),
    ))

pub still : (P : List (List ℕ) → Type 0) (bodies more : List (List ℕ)) (pieces : List ℕ) → pieces ≡ pieces_of more → pieces ≡ []
    → P bodies → P (bodies ++ more)
still P bodies more pieces is none so =
    subst (λ (l : List (List ℕ)). P (bodies ++ l)) (sym (no_more more pieces is none))
    (subst P (sym (append-nil bodies)) so)

-- while nothing is written
pub leaves_still : {D : Type 0} (tells : D → Bool) (seen : D → List ℕ) (may_leave : D → List ℕ → Type 0) (moment : D → ℕ)
    (left_since : D → ℕ → List ℕ → Type 0)
    (only_now : (d : D) (c : List ℕ) → left_since d (moment d) c → may_leave d c)
    (header : List ℕ) (bodies more : List (List ℕ)) (old : D) (end : ℕ)
    (s : StandsAt tells seen may_leave header bodies old end 0)
    → LeavesOnly moment left_since old old (λ c. IsLog header bodies c ⊎ IsLog header (bodies ++ more) c)
leaves_still tells seen may_leave moment left_since only_now header bodies more old end s =
    started moment left_since old (λ c. IsLog header bodies c ⊎ IsLog header (bodies ++ more) c)
    (λ c left. inl (closed header bodies s.front s.is_front c s.rest (s.durable c (only_now old c left) ∙ s.contents)))

module _ {D : Type 0} (tells : D → Bool) (seen : D → List ℕ) (may_leave : D → List ℕ → Type 0) (moment : D → ℕ)
    (left_since : D → ℕ → List ℕ → Type 0)
    (only_now : (d : D) (c : List ℕ) → left_since d (moment d) c → may_leave d c)
    (header : List ℕ) (bodies more : List (List ℕ)) (pieces : List ℕ) (a : AddBodies more pieces) (old : D) (end : ℕ)
    (s : StandsAt tells seen may_leave header bodies old end 0) where
  abbrev pub P : List ℕ → Type 0
  P c = IsLog header bodies c ⊎ IsLog header (bodies ++ more) c

  abbrev pub Left : D → Type 0
  Left d = LeavesOnly moment left_since old d P

  only : Only (s.front ++ 0 ∷ s.rest) (may_leave old)
  only = subst (λ f. Only f (may_leave old)) s.contents s.durable

  begun : Left old
  begun = leaves_still tells seen may_leave moment left_since only_now header bodies more old end s

  module _ (n : ℕ) (one : D) (crash : Follows (Torn (end + 1) n) (may_leave old) (may_leave one))
      (time : Elapses (moment old) (moment one) (left_since old) (left_since one) (may_leave one)) where
    first : (c : List ℕ) → may_leave one c → IsLog header bodies c
    first = stage_crash header bodies s.front s.is_front end s.place n s.rest (may_leave old) (may_leave one) only crash

    pub staged : Left one
    staged = goes_on moment left_since old old one P (may_leave one) begun time (λ c now. inl (first c now))

    module _ (two : D) (keeps : Narrows (may_leave one) (may_leave two))
        (time2 : Elapses (moment one) (moment two) (left_since one) (left_since two) (may_leave two)) where
      pub settled : Left two
      settled = goes_on moment left_since old one two P (may_leave two) staged time2 (λ c now. inl (first c (keeps c now)))

      module _ (written : IsTrue (tells old) → end + 1 ≤ length (seen old) → Holds (seen old) (end + 1) pieces (seen one))
          (told1 : tells one ≡ tells old) (same : seen two ≡ seen one)
          (durable : IsTrue (tells one) → Only (seen one) (may_leave two)) where
        abbrev pub tail : List ℕ
        tail = drop (length pieces) s.rest

        fits : end + 1 ≤ length (seen old)
        fits = omega (arith, ap length s.contents, s.place, length-append s.front (0 ∷ s.rest))

        pub stage_is : seen one ≡ s.front ++ 0 ∷ (pieces_of more ++ tail)
        stage_is =
            written_behind header bodies s.front s.is_front end s.place pieces s.rest (seen one)
            (subst (λ f. Holds f (end + 1) pieces (seen one)) s.contents (written s.told fits))
            ∙ ap (λ (l : List ℕ). s.front ++ 0 ∷ (l ++ tail)) a.bytes_are

        gate_fits : end ≤ length (seen two)
        gate_fits = omega (arith, ap length (same ∙ stage_is), s.place, length-append s.front (0 ∷ (pieces_of more ++ tail)))

        only_staged : Only (s.front ++ 0 ∷ (pieces_of more ++ tail)) (may_leave two)
        only_staged = subst (λ f. Only f (may_leave two)) stage_is (durable (subst IsTrue (sym told1) s.told))

        module _ (three : D) (crash3 : Follows (Torn end 1) (may_leave two) (may_leave three))
            (time3 : Elapses (moment two) (moment three) (left_since two) (left_since three) (may_leave three)) where
          second : (c : List ℕ) → may_leave three c → P c
          second = gate_crash header bodies s.front s.is_front end s.place more tail (may_leave two)
              (may_leave three) a.are_bodies a.some only_staged crash3

          pub gated : Left three
          gated = goes_on moment left_since old two three P (may_leave three) settled time3 second

          module _ (four : D) (keeps4 : Narrows (may_leave three) (may_leave four))
              (time4 : Elapses (moment three) (moment four) (left_since three) (left_since four) (may_leave four)) where
            pub done : Left four
            done = goes_on moment left_since old three four P (may_leave four) gated time4 (λ c now. second c (keeps4 c now))

            module _ (told2 : tells two ≡ tells one) (told3 : tells three ≡ tells two) (told4 : tells four ≡ tells three)
                (holds : IsTrue (tells two) → end ≤ length (seen two) → Holds (seen two) end (OPEN_GATE ∷ []) (seen three))
                (same4 : seen four ≡ seen three) where
              two_tells : IsTrue (tells two)
              two_tells = subst IsTrue (sym (told2 ∙ told1)) s.told

              three_tells : IsTrue (tells three)
              three_tells = subst IsTrue (sym told3) two_tells

              records_are : seen four ≡ (s.front ++ appended more) ++ 0 ∷ tail
              records_are = same4
                  ∙ written_gate header bodies s.front s.is_front end s.place (pieces_of more ++ tail) (seen three)
                  (subst (λ f. Holds f end (OPEN_GATE ∷ []) (seen three)) (same ∙ stage_is) (holds two_tells gate_fits))
                  ∙ pieces_behind header bodies s.front s.is_front more tail a.some

              pub at_rest : (next : ℕ) → next ≡ end + length pieces → (IsTrue (tells three) → Only (seen three) (may_leave four))
                  → StandsAt tells seen may_leave header (bodies ++ more) four next 0
              at_rest next ends durable4 = record {
                told = subst IsTrue (sym told4) three_tells;
                front = s.front ++ appended more;
                is_front = front_appended header bodies s.front s.is_front more a.are_bodies;
                rest = tail;
                contents = records_are;
                place = ends ∙ ap (λ (l : List ℕ). end + length l) a.bytes_are
                    ∙ next_place header bodies s.front s.is_front end s.place more a.some;
                durable = subst (λ f. Only f (may_leave four)) (sym same4) (durable4 three_tells);
              }

              -- each record was appended, and so were these
              pub written_on : IsAppended header bodies (seen old) → IsAppended header (bodies ++ more) (seen four)
              written_on was = appended_grows header bodies more (seen old) (seen four) s.front s.rest tail s.is_front s.contents
                  a.are_bodies records_are was
