-- How what a step does at a file goes with the drives that a placer names.
use Rattle.std.proofs.Common.{◌≡◌, ℕ, ◌+◌, ◌∷◌, [], List, ◌++◌, Bool, true, false, ◌&&◌, not, max, refl, sym, ap, ◌∙◌, arith, flat_map, if◌then◌else◌, ◌⊎◌, inl, inr, is_some}
use Rattle.std.proofs.lemmas.List.{append-nil}
use Rattle.std.proofs.lemmas.Bool.Decides.{nat_tests}
use Rattle.osd_capability.specs.Layout.{is_format}
use Rattle.osd_drive.specs.Table.{is_create}
use Rattle.world_history.specs.ServerNames.{Kept, Component, Drive, Awaited, Effects, JobKind, Work}
use Rattle.server_rules.specs.Commands.{Ask, Which, command_for, is_meant, to_each}
use Rattle.server_rules.specs.Going.{Going, rests, rests_or}
use Rattle.history_law.specs.Placed.{AreNamed}
use Rattle.history_law.proofs.Creating.{place, place_other}

-- ---- what a step does at a file

-- what a step sent before, and the drives that a placer names
pub record Given : Type 0 where
  pub sent : List Awaited
  pub chosen : List ℕ

abbrev pub given : List Awaited → List ℕ → Given
given sent chosen = record { sent = sent; chosen = chosen }

-- the same, with what is given
abbrev pub choosing : Going → Given → Going
choosing g x = record g { effects = record g.effects { sent = x.sent }; chosen = x.chosen }

-- the same, with these drives of the placer left
abbrev pub left_with : Going → List ℕ → Going
left_with g c = record g { chosen = c }

-- what a step did, but for what it sent
abbrev pub unsent : Effects → Effects
unsent m = record m { sent = [] }

-- Both keep the same of the file, and did the same but for what they sent; a job runs in both, or in neither.
pub record IsAlike (g h : Going) : Type 0 where
  pub kept : g.file.kept ≡ h.file.kept
  pub runs : is_some g.file.job ≡ is_some h.file.job
  pub effects : unsent g.effects ≡ unsent h.effects

pub alike_same : (g h : Going) → g.file ≡ h.file → unsent g.effects ≡ unsent h.effects → IsAlike g h
alike_same g h file effects = record {
  kept = ap (λ f. f.kept) file;
  runs = ap (λ f. is_some f.job) file;
  effects = effects;
}

-- its format is one that there is, and lines can name the drives
abbrev pub Fit : Going → Type 0
Fit g = record { format : is_format g.file.kept.format ≡ true; drives : AreNamed g.drives }

-- the drives of the CREATEs among some commands
abbrev pub placed_of : List Drive → List Awaited → List ℕ
placed_of ds cs = flat_map (place ds) cs

-- With `h` a step goes on that has sent some commands; `f` says how it goes on with other drives of the placer. Where
-- these begin with the drives of the CREATEs that it sends, it goes on so, and has used them up; with any it goes on alike.
pub record Placed (ds : List Drive) (sent : List Awaited) (h : Going) (f : Given → Going) : Type 0 where
  pub more : List Awaited
  pub sends : h.effects.sent ≡ sent ++ more
  pub same : (rest : List ℕ) → f (given sent (placed_of ds more ++ rest)) ≡ left_with h rest
  pub alike : (x : Given) → IsAlike (f x) h
  pub format : is_format h.file.kept.format ≡ true

-- ---- nothing is sent, or no CREATE

pub placed_here : (g : Going) → Fit g → Placed g.drives g.effects.sent g (choosing g)
placed_here g h = record {
  more = [];
  sends = sym (append-nil g.effects.sent);
  same = λ rest. refl;
  alike = λ x. alike_same _ _ refl refl;
  format = h.format;
}

pub placed_rests : (g : Going) (kind : JobKind) (work : Work) (c : Awaited) (cs : List Awaited) → Fit g
    → placed_of g.drives (c ∷ cs) ≡ []
    → Placed g.drives g.effects.sent (rests g kind work c cs) (λ x. rests (choosing g x) kind work c cs)
placed_rests g kind work c cs h none = record {
  more = c ∷ cs;
  sends = refl;
  same = λ rest. ap (λ (ns : List ℕ). left_with (rests g kind work c cs) (ns ++ rest)) none;
  alike = λ x. alike_same _ _ refl refl;
  format = h.format;
}

pub placed_or : (cs : List Awaited) (g : Going) (kind : JobKind) (work : Work) (later : Going) (f : Given → Going)
    → Fit g
    → placed_of g.drives cs ≡ [] → Placed g.drives g.effects.sent later f
    → Placed g.drives g.effects.sent (rests_or cs g kind work later) (λ x. rests_or cs (choosing g x) kind work (f x))
placed_or [] g kind work later f h none p = p
placed_or (c ∷ cs) g kind work later f h none p = placed_rests g kind work c cs h none

-- ---- commands that are no CREATE

abbrev pub IsOther : Ask → Type 0
IsOther ask = (f : Kept) (k drive object nonce : ℕ) → is_create (command_for f ask k drive object nonce).action ≡ false

pub none_beside : (ds : List Drive) (b : Bool) (c : Awaited) (cs later : List Awaited)
    → is_create c.command.action ≡ false
    → placed_of ds cs ≡ [] → placed_of ds later ≡ [] → placed_of ds (if b then c ∷ cs else later) ≡ []
none_beside ds true c cs later plain p q = ap (λ (ns : List ℕ). ns ++ placed_of ds cs) (place_other ds c plain) ∙ p
none_beside ds false c cs later plain p q = q

pub none_each : (ds : List Drive) (f : Kept) (which : Which) (ask : Ask) (all : List Component) (k nonce : ℕ)
    → IsOther ask
    → placed_of ds (to_each f which ask all k nonce) ≡ []
unfolding to_each
none_each ds f which ask [] k nonce plain = refl
none_each ds f which ask (at ∷ all) k nonce plain =
    none_beside ds (not at.missing && is_meant f which k) _ _ _ (plain f k at.drive at.object nonce)
    (none_each ds f which ask all (k + 1) (nonce + 1) plain) (none_each ds f which ask all (k + 1) nonce plain)

pub none_one : (ds : List Drive) (c : Awaited) → is_create c.command.action ≡ false → placed_of ds (c ∷ []) ≡ []
none_one ds c plain = none_beside ds true c [] [] plain refl refl

-- ---- formats

one_of : (n : ℕ) → is_format n ≡ true → (n ≡ 1) ⊎ (n ≡ 2)
one_of n e = grind (arith, e, nat_tests)

-- the greater of two is one of them
pub greater_format : (m n : ℕ) → is_format m ≡ true → is_format n ≡ true → is_format (max m n) ≡ true
greater_format m n e h = elim (one_of m e) [
  | inl a ↦ elim (one_of n h) [ inl b ↦ rw (a, b) refl | inr b ↦ rw (a, b) refl ]
  | inr a ↦ elim (one_of n h) [ inl b ↦ rw (a, b) refl | inr b ↦ rw (a, b) refl ]
]
