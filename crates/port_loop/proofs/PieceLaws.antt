-- A piece that is read byte by byte.
use Rattle.std.proofs.Common.{◌≡◌, ℕ, ◌+◌, List, [], ◌∷◌, ◌++◌, take, drop, Option, None, Some, refl, sym, ap, ◌∙◌, append_assoc}
use Rattle.std.specs.Prelude.{slice_get}
use Rattle.std.proofs.lemmas.List.{append-nil, take-append-drop}
use Rattle.osd_bytes.specs.Records.{Begun, Split, Step, after, split, then_split}
use Rattle.osd_bytes.specs.Records.Step.{Goes, Gives, Breaks}
use Rattle.osd_bytes.proofs.RecordLaws.{behind, carried, split-append}
use Rattle.port_loop.proofs.ListLaws.{take-got}

-- one byte more
pub split-more : (b c : Begun) (rs more : List (List ℕ)) (bytes : List ℕ) (x : ℕ) (end : Option Begun)
    → split b bytes ≡ record { records = rs; begun = Some c } → split c (x ∷ []) ≡ record { records = more; begun = end }
    → split b (bytes ++ x ∷ []) ≡ record { records = rs ++ more; begun = end }
split-more b c rs more bytes x end e f =
    split-append b bytes (x ∷ []) ∙ ap (λ (s : Split). carried s.records s.begun (x ∷ [])) e ∙ ap (behind rs) f

-- a byte after which a record is too long gives none
broke-step : (s : Step) → (then_split s (λ c. split c [])).begun ≡ None →
    then_split s (λ c. split c []) ≡ record { records = []; begun = None }
unfolding split
broke-step (Goes d) e = absurd (cc e)
broke-step (Gives r) e = absurd (cc e)
broke-step Breaks e = refl

broke-one : (c : Begun) (x : ℕ) → (split c (x ∷ [])).begun ≡ None → split c (x ∷ []) ≡ record { records = []; begun = None }
unfolding split
broke-one c x e = broke-step (after c x) e

split-broken : (b : Begun) (rs : List (List ℕ)) (bytes rest : List ℕ)
    → split b bytes ≡ record { records = rs; begun = None } → split b (bytes ++ rest) ≡ record { records = rs; begun = None }
split-broken b rs bytes rest e = split-append b bytes rest ∙ ap (λ (s : Split). carried s.records s.begun rest) e

-- a piece up to a byte after which a record is too long
pub piece-broken : (b c : Begun) (rs : List (List ℕ)) (piece : List ℕ) (i x : ℕ)
    → split b (take i piece) ≡ record { records = rs; begun = Some c } → take (i + 1) piece ≡ take i piece ++ x ∷ []
    → (split c (x ∷ [])).begun ≡ None → split b piece ≡ record { records = rs; begun = None }
piece-broken b c rs piece i x e takes broken =
    ap (split b) (sym (take-append-drop (i + 1) piece))
    ∙ split-broken b rs (take (i + 1) piece) (drop (i + 1) piece)
    (ap (split b) takes ∙ split-more b c rs [] (take i piece) x None e (broke-one c x broken)
    ∙ ap (λ (l : List (List ℕ)). record { records = l; begun = None }) (append-nil rs))

-- one record more of some
pub pushed-more : (all old new more : List (List ℕ)) (i : ℕ) (x : List ℕ) → old ≡ all ++ take i more
    → slice_get more i ≡ Some x → new ≡ old ++ x ∷ [] → new ≡ all ++ take (i + 1) more
pushed-more all old new more i x old_is got is =
    is ∙ ap (λ (l : List (List ℕ)). l ++ x ∷ []) old_is ∙ append_assoc all (take i more) (x ∷ [])
    ∙ ap (λ (l : List (List ℕ)). all ++ l) (sym (take-got more i x got))
