-- Words joined by a separator, or each behind one.
use Rattle.std.proofs.Common.{◌≡◌, ℕ, ◌+◌, ◌-◌, ◌<◌, ◌≤◌, List, [], ◌∷◌, ◌++◌, length, take, drop, map, get_or, sym, ap, ◌∙◌, arith}
use Rattle.std.specs.Fmt.{decimal}
use Rattle.std.specs.List.{join_with_byte}
use Rattle.std.proofs.lemmas.List.{append_assoc, append-nil, take_all, take_more, map-append}
use Rattle.scenario_text.specs.Words.{behind}
use Rattle.scenario_text.specs.Written.{written}
use Rattle.scenario_text.specs.declared.write.Word.{Word}
use Rattle.scenario_text.specs.Parts.{positions_word}

pub behind_push : (separator : ℕ) (words : List (List ℕ)) (word : List ℕ)
    → behind separator (words ++ word ∷ []) ≡ behind separator words ++ (separator ∷ word)
behind_push separator [] word = ap (λ (x : List ℕ). separator ∷ x) (append-nil word)
behind_push separator (w ∷ words) word =
    ap (λ (x : List ℕ). separator ∷ x)
    (ap (λ (x : List ℕ). w ++ x) (behind_push separator words word)
    ∙ sym (append_assoc w (behind separator words) (separator ∷ word)))

pub further_step : (ps : List ℕ) (i : ℕ) → i < length ps
    → behind 44 (map decimal (take (i + 1) ps)) ≡ behind 44 (map decimal (take i ps)) ++ (44 ∷ decimal (get_or ps i 0))
further_step ps i lt =
    rw (take_more ps i 0 lt, map-append) (behind_push 44 (map decimal (take i ps)) (decimal (get_or ps i 0)))

pub joined_is : (separator : ℕ) (word : List ℕ) (words : List (List ℕ)) →
    join_with_byte separator (word ∷ words) ≡ word ++ behind separator words
joined_is separator word [] = sym (append-nil word)
joined_is separator word (next ∷ words) =
    ap (λ (x : List ℕ). word ++ (separator ∷ x)) (joined_is separator next words)

pub further_out : (initial out pushed new text ps : List ℕ) (i : ℕ) → i < length ps →
    out ≡ initial ++ behind 44 (map decimal (take i ps))
    → pushed ≡ out ++ 44 ∷ [] → new ≡ pushed ++ text → text ≡ decimal (get_or ps i 0)
    → new ≡ initial ++ behind 44 (map decimal (take (i + 1) ps))
further_out initial out pushed new text ps i lt e_out e_pushed e_new e_text =
    rw (e_new, e_pushed, e_out, e_text, further_step ps i lt) (simp append_assoc)

pub positions_out : (ps out first new text : List ℕ) → 1 ≤ length ps → text ≡ decimal (get_or ps 0 0) → first ≡ out ++ text
    → new ≡ first ++ behind 44 (map decimal (take (length ps - 1) (drop 1 ps))) → new ≡ out ++ positions_word ps
positions_out [] out first new text len is e_first e_new = absurd (omega arith)
positions_out (p ∷ ps) out first new text len is e_first e_new =
    let whole : take (length (p ∷ ps) - 1) ps ≡ ps = take_all (length (p ∷ ps) - 1) ps (omega arith) in
    let joined = joined_is 44 (decimal p) (map decimal ps) in
    rw (e_new, e_first, is, whole, joined) (append_assoc out (decimal p) (behind 44 (map decimal ps)))

-- one more word is out
pub word_out : (initial out pushed new : List ℕ) (words : List Word) (i : ℕ) (d : Word) → i < length words
    → out ≡ initial ++ behind 32 (map written (take i words)) → pushed ≡ out ++ 32 ∷ [] →
    new ≡ pushed ++ written (get_or words i d)
    → new ≡ initial ++ behind 32 (map written (take (i + 1) words))
word_out initial out pushed new words i d lt e_out e_pushed e_new =
    let more : behind 32 (map written (take (i + 1) words)) ≡ behind 32
    (map written (take i words)) ++ (32 ∷ written (get_or words i d)) =
    rw (take_more words i d lt, map-append) (behind_push 32 (map written (take i words)) (written (get_or words i d))) in
    rw (e_new, e_pushed, e_out, more) (simp append_assoc)
