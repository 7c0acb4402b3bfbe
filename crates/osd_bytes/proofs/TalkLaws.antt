-- What is taken and put one after the other, and the times that a clock tells.
use Rattle.std.proofs.Common.{◌≡◌, ℕ, List, [], ◌∷◌, ◌++◌, Option, Some, refl, sym, ap, subst, ◌∙◌, append_assoc}
use Rattle.std.proofs.lemmas.List.{append-nil}
use Rattle.osd_bytes.specs.Connections.{Traffic, after_notes, with_notes}
use Rattle.osd_bytes.specs.Clocks.{TellsTime}
use Rattle.osd_bytes.specs.Inboxes.{WasPut, WasTaken, Talked, Told, with_newest_talk}

pub talked-nil : (o : Option Traffic) → Talked o o [] [] []
talked-nil o = record {
  none = λ e. e;
  some = λ a talks t e. (
    t.left,
    refl,
    e ∙ ap (λ (p : List ℕ). Some (with_newest_talk a talks (record { left = t.left; put = p }))) (sym (append-nil t.put))
        ∙ ap
        (λ (ns : List (List ℕ)). Some
        (with_newest_talk (record a { notes = ns }) talks (record { left = t.left; put = t.put ++ [] })))
        (sym (append-nil a.notes)),
  );
}

pub talked-taken : (o m n : Option Traffic) (taken put piece : List ℕ) (notes : List (List ℕ))
    → Talked o m taken put notes → WasTaken m n piece → Talked o n (taken ++ piece) put notes
talked-taken o m n taken put piece notes d w = record {
  none = λ e. w.none (d.none e);
  some = λ a talks t e.
      let l = d.some a talks t e in
      let k = w.some (with_notes notes a) talks (record { left = l.0; put = t.put ++ put }) l.2 in (
        k.0,
        l.1 ∙ ap (λ (x : List ℕ). taken ++ x) k.1 ∙ sym (append_assoc taken piece k.0),
        k.2,
      );
}

pub talked-put : (o m n : Option Traffic) (taken put bytes : List ℕ) (notes : List (List ℕ))
    → Talked o m taken put notes → WasPut m n bytes → Talked o n taken (put ++ bytes) notes
talked-put o m n taken put bytes notes d w = record {
  none = λ e. w.none (d.none e);
  some = λ a talks t e.
      let l = d.some a talks t e in (
        l.0,
        l.1,
        w.some (with_notes notes a) talks (record { left = l.0; put = t.put ++ put }) l.2
            ∙ ap (λ (p : List ℕ). Some (with_newest_talk (with_notes notes a) talks (record { left = l.0; put = p })))
            (append_assoc t.put put bytes),
      );
}

pub talked-noted : (o m n : Option Traffic) (taken put : List ℕ) (notes lines : List (List ℕ))
    → Talked o m taken put notes → n ≡ after_notes lines m → Talked o n taken put (notes ++ lines)
talked-noted o m n taken put notes lines d w = record {
  none = λ e. w ∙ ap (λ (x : Option Traffic). after_notes lines x) (d.none e);
  some = λ a talks t e.
      let l = d.some a talks t e in (
        l.0,
        l.1,
        w ∙ ap (λ (x : Option Traffic). after_notes lines x) l.2
            ∙ ap
            (λ (ns : List (List ℕ)). Some
            (with_newest_talk (record a { notes = ns }) talks (record { left = l.0; put = t.put ++ put })))
            (append_assoc a.notes notes lines),
      );
}

pub talked-same : (o m n : Option Traffic) (taken put : List ℕ) (notes : List (List ℕ))
    → Talked o m taken put notes → n ≡ m → Talked o n taken put notes
talked-same o m n taken put notes d e = subst (λ (x : Option Traffic). Talked o x taken put notes) (sym e) d

pub told-then : (o m n : Option (List ℕ)) (times : List ℕ) (time : ℕ) → Told o times m → TellsTime m n time →
    Told o (times ++ time ∷ []) n
told-then o m n [] time e w = (n, subst (λ (x : Option (List ℕ)). TellsTime x n time) e w, refl)
told-then o m n (t ∷ ts) time d w = (d.0, d.1, told-then d.0 m n ts time d.2 w)
