-- A log that is judged entry by entry.
use Rattle.std.proofs.Common.{◌≡◌, ℕ, ◌+◌, ◌<◌, List, [], ◌∷◌, ◌++◌, length, take, drop, get_or, sym, ap, subst, ◌∙◌, drop-cons, add-one}
use Rattle.std.proofs.lemmas.List.{take_more, take-append-drop}
use Rattle.file_log.specs.declared.entry.Entry.{Entry}
use Rattle.file_log.specs.Judge.{Candidates, new_file, after_entry, Fits, Accepts, AcceptsFrom, candidates, candidates_from}
use Rattle.file_log.proofs.Settled.{accepts_more, candidates_more}

pub candidates_next : (log : List Entry) (i : ℕ) (e : Entry) → i < length log →
    candidates (take (i + 1) log) ≡ after_entry (candidates (take i log)) (get_or log i e)
candidates_next log i e inside =
    ap candidates (take_more log i e inside) ∙ candidates_more new_file (take i log) (get_or log i e ∷ [])

pub accepts_next : (log : List Entry) (i : ℕ) (e : Entry) → i < length log → Accepts (take i log) →
    Fits (candidates (take i log)) (get_or log i e) → Accepts (take (i + 1) log)
accepts_next log i e inside before fits =
    subst Accepts (sym (take_more log i e inside)) (accepts_more new_file (take i log) (get_or log i e ∷ []) before (fits, tt))

-- the entry behind the front of an accepted log fits
fits_behind : (c : Candidates) (front : List Entry) (e : Entry) (rest : List Entry) → AcceptsFrom c (front ++ e ∷ rest) →
    Fits (candidates_from c front) e
fits_behind c [] e rest h = h.0
fits_behind c (f ∷ front) e rest h = fits_behind (after_entry c f) front e rest h.1

pub accepted_fits : (log : List Entry) (i : ℕ) (e : Entry) → i < length log → Accepts log →
    Fits (candidates (take i log)) (get_or log i e)
accepted_fits log i e inside h =
    let whole : log ≡ take i log ++ (get_or log i e ∷ drop (i + 1) log) =
    sym (take-append-drop i log)
    ∙ ap (λ (x : List Entry). take i log ++ x)
    (drop-cons log i e inside ∙ ap (λ j. get_or log i e ∷ drop j log) (sym (add-one i))) in
    fits_behind new_file (take i log) (get_or log i e) (drop (i + 1) log) (subst Accepts whole h)
