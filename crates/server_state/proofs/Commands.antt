-- Several commands, one after the other.
use Rattle.std.specs.Prelude.{ℕ, Bool, true, false, List, [], ◌∷◌, ◌≡◌, ◌==◌, ◌&&◌, ◌||◌, not, refl}
use Rattle.std.proofs.Common.{inl, inr, ap, sym, ◌∙◌}
use Rattle.std.proofs.lemmas.Bool.{cases_Bool}
use Rattle.server_rules.specs.declared.jobs.Awaited.{Awaited}
use Rattle.server_state.specs.Index.{is_of, are_to}

-- the reply is to the first of these or to another one
first_or : (a : Awaited) (cs : List Awaited) (x d : ℕ) →
    are_to (a ∷ cs) x d ≡ (((a.command.nonce == x) && (a.drive == d)) || are_to cs x d)
unfolding are_to
first_or a cs x d = elim (cases_Bool ((a.command.nonce == x) && (a.drive == d))) [ inl t ↦ rw t refl | inr f ↦ rw f refl ]

one_of : (here file rest old : Bool) → ((file && rest) || ((here && file) || old)) ≡ ((file && (here || rest)) || old)
one_of true true true old = refl
one_of true true false old = refl
one_of true false rest old = refl
one_of false true rest old = refl
one_of false false rest old = refl

none_of : (here file rest old : Bool) →
    (not (file && rest) && (not (here && file) && old)) ≡ (not (file && (here || rest)) && old)
none_of true true true old = refl
none_of true true false old = refl
none_of true false rest old = refl
none_of false true true old = refl
none_of false true false old = refl
none_of false false rest old = refl

-- those that are left are still to be added
abbrev pub Adds : List Awaited → (file : ℕ) → (now old : Bool) → (x d m : ℕ) → (all : List Awaited) → Type 0
Adds left file now old x d m all = (((file == m) && are_to left x d) || now) ≡ (((file == m) && are_to all x d) || old)

pub adds_on : (left rest all : List Awaited) (a : Awaited) (file x d m : ℕ) (now next old : Bool) → left ≡ a ∷ rest →
    next ≡ (is_of a.command.nonce a.drive file x d m || now) → Adds left file now old x d m all →
    Adds rest file next old x d m all
adds_on left rest all a file x d m now next old e n h =
    ap (λ (z : Bool). ((file == m) && are_to rest x d) || z) n
    ∙ one_of ((a.command.nonce == x) && (a.drive == d)) (file == m) (are_to rest x d) now
    ∙ ap (λ (z : Bool). ((file == m) && z) || now) (sym (first_or a rest x d))
    ∙ ap (λ (cs : List Awaited). ((file == m) && are_to cs x d) || now) (sym e)
    ∙ h

no_more : (b c : Bool) → ((b && false) || c) ≡ c
no_more true c = refl
no_more false c = refl

pub added_all : (left all : List Awaited) (file x d m : ℕ) (now old : Bool) → left ≡ [] → Adds left file now old x d m all →
    now ≡ (((file == m) && are_to all x d) || old)
unfolding are_to
added_all left all file x d m now old e h =
    sym (no_more (file == m) now) ∙ ap (λ (cs : List Awaited). ((file == m) && are_to cs x d) || now) (sym e) ∙ h

-- those that are left are still to be removed
abbrev pub Removes : List Awaited → (file : ℕ) → (now old : Bool) → (x d m : ℕ) → (all : List Awaited) → Type 0
Removes left file now old x d m all = (not ((file == m) && are_to left x d) && now) ≡ (not ((file == m) && are_to all x d) && old)

pub removes_on : (left rest all : List Awaited) (a : Awaited) (file x d m : ℕ) (now next old : Bool) → left ≡ a ∷ rest →
    next ≡ (not (is_of a.command.nonce a.drive file x d m) && now) → Removes left file now old x d m all →
    Removes rest file next old x d m all
removes_on left rest all a file x d m now next old e n h =
    ap (λ (z : Bool). not ((file == m) && are_to rest x d) && z) n
    ∙ none_of ((a.command.nonce == x) && (a.drive == d)) (file == m) (are_to rest x d) now
    ∙ ap (λ (z : Bool). not ((file == m) && z) && now) (sym (first_or a rest x d))
    ∙ ap (λ (cs : List Awaited). not ((file == m) && are_to cs x d) && now) (sym e)
    ∙ h

none_left : (b c : Bool) → (not (b && false) && c) ≡ c
none_left true c = refl
none_left false c = refl

pub removed_all : (left all : List Awaited) (file x d m : ℕ) (now old : Bool) → left ≡ [] → Removes left file now old x d m all →
    now ≡ (not ((file == m) && are_to all x d) && old)
unfolding are_to
removed_all left all file x d m now old e h =
    sym (none_left (file == m) now) ∙ ap (λ (cs : List Awaited). not ((file == m) && are_to cs x d) && now) (sym e) ∙ h
