-- Held grants, found by their files; their maps are checked.
use Rattle.std.proofs.Common.{◌≡◌, ℕ, ◌==◌, List, [], ◌∷◌, refl, sym, ap, ◌∙◌, inl, inr, eq-eqb, ne_eqb}
use Rattle.std.specs.Prelude.{nat_lt, Some}
use Rattle.std.proofs.lemmas.Bool.{cases_Bool, cases_eq}
use Rattle.data_map.specs.Check.{IsChecked}
use Rattle.layout_ops.specs.declared.args.Args.{Args}
use Rattle.layout_ops.specs.declared.args.Args.TheVariants as args
use Rattle.client_rules.specs.State.{Held}
use Rattle.client_rules.specs.Grants.{held_of, put_held, without_held}
use Rattle.client_rules.specs.Going.{held_after}

-- their maps are checked
abbrev pub AreChecked : List Held → Type 0
AreChecked [] = Unit {0}
AreChecked (h ∷ hs) = IsChecked h.map × AreChecked hs

pub put_checked : (hs : List Held) (h : Held) → AreChecked hs → IsChecked h.map → AreChecked (put_held hs h)
unfolding put_held
put_checked [] h x ch = (ch, tt)
put_checked (g ∷ gs) h x ch = elim (cases_Bool (g.file == h.file)) [
  | inl t ↦ rw t (ch, x.1)
  | inr f ↦ elim (cases_Bool (nat_lt h.file g.file)) [
    | inl u ↦ rw (f, u) (ch, x)
    | inr v ↦ rw (f, v) (x.0, put_checked gs h x.1 ch)
  ]
]

pub without_checked : (hs : List Held) (file : ℕ) → AreChecked hs → AreChecked (without_held hs file)
unfolding without_held
without_checked [] file x = tt
without_checked (g ∷ gs) file x = elim (cases_Bool (g.file == file)) [
  | inl t ↦ rw t (without_checked gs file x.1)
  | inr f ↦ rw f (x.0, without_checked gs file x.1)
]

pub after_checked : (hs : List Held) (file : ℕ) (a : Args) → AreChecked hs → AreChecked (held_after hs file a)
after_checked hs file (args.LayoutGet a) x = x
after_checked hs file (args.LayoutCommit a) x = x
after_checked hs file (args.LayoutReturn a) x = without_checked hs file x

pub held_checked : (hs : List Held) (file : ℕ) (h : Held) → AreChecked hs → held_of hs file ≡ Some h → IsChecked h.map
unfolding held_of
held_checked [] file h x e = absurd (cc e)
held_checked (g ∷ gs) file h x e = elim (cases_eq g.file file) [
  | inl same ↦ let g_is_h : Some g ≡ Some h = rw (eq-eqb g.file file same) at e in let it : g ≡ h = cc g_is_h in rw it at x.0
  | inr other ↦ held_checked gs file h x.1 (rw (ne_eqb g.file file other) at e)
]

pub held_file : (hs : List Held) (file : ℕ) (h : Held) → held_of hs file ≡ Some h → h.file ≡ file
unfolding held_of
held_file [] file h e = absurd (cc e)
held_file (g ∷ gs) file h e = elim (cases_eq g.file file) [
  | inl same ↦ let g_is_h : Some g ≡ Some h = rw (eq-eqb g.file file same) at e in let it : g ≡ h = cc g_is_h in rw it at same
  | inr other ↦ held_file gs file h (rw (ne_eqb g.file file other) at e)
]

pub put_found : (hs : List Held) (h : Held) → held_of (put_held hs h) h.file ≡ Some h
unfolding held_of put_held
put_found [] h = rw (eq-eqb h.file h.file refl) refl
put_found (g ∷ gs) h = elim (cases_eq g.file h.file) [
  | inl same ↦ rw (eq-eqb g.file h.file same, eq-eqb h.file h.file refl) refl
  | inr other ↦ elim (cases_Bool (nat_lt h.file g.file)) [
    | inl u ↦ rw (ne_eqb g.file h.file other, u, eq-eqb h.file h.file refl) refl
    | inr v ↦ rw (ne_eqb g.file h.file other, v, ne_eqb g.file h.file other) (put_found gs h)
  ]
]

pub put_at : (hs : List Held) (h : Held) (file : ℕ) → h.file ≡ file → held_of (put_held hs h) file ≡ Some h
put_at hs h file e = ap (λ (f : ℕ). held_of (put_held hs h) f) (sym e) ∙ put_found hs h
