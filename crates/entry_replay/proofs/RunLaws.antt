-- Entries one after another.
use Rattle.std.specs.Prelude.{ℕ, List, [], ◌∷◌, ◌++◌, Option, Some, None, ◌≡◌, ◌+◌, ◌<◌, length, take, drop, refl}
use Rattle.std.proofs.Common.{ap, sym, get_or, ◌∙◌}
use Rattle.std.proofs.lemmas.List.{take-append-drop, take_more}
use Rattle.server_rules.specs.declared.server.Server.{Server}
use Rattle.server_entries.specs.declared.entry.Entry.{Entry}
use Rattle.server_entries.specs.Applying.{after_entry, applied, applied_all, applied_to}

applied_append : (s : Option Server) (es fs : List Entry) → applied_to s (es ++ fs) ≡ applied_to (applied_to s es) fs
applied_append s [] fs = refl
applied_append s (e ∷ es) fs = applied_append (after_entry s e) es fs

none_on : (es : List Entry) → applied_to None es ≡ None
none_on [] = refl
none_on (e ∷ es) = none_on es

-- one entry more
pub one_more : (s t : Server) (es : List Entry) (i : ℕ) (e : Entry) (made : Option Server) → i < length es → e ≡ get_or es i e →
    applied_all s (take i es) ≡ Some t → applied t e ≡ made →
    applied_all s (take (i + 1) es) ≡ made
one_more s t es i e made inside here before makes =
    ap (applied_all s) (take_more es i e inside)
    ∙ applied_append (Some s) (take i es) (get_or es i e ∷ [])
    ∙ ap (λ (o : Option Server). after_entry o (get_or es i e)) before
    ∙ ap (applied t) (sym here)
    ∙ makes

-- nothing can be made of one, and so nothing of all
pub none_of_all : (s : Server) (es : List Entry) (n : ℕ) → applied_all s (take n es) ≡ None → applied_all s es ≡ None
none_of_all s es n none =
    ap (applied_all s) (sym (take-append-drop n es))
    ∙ applied_append (Some s) (take n es) (drop n es)
    ∙ ap (λ (o : Option Server). applied_to o (drop n es)) none ∙ none_on (drop n es)
