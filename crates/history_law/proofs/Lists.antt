-- Commands that are numbered.
use Rattle.std.proofs.Common.{◌≡◌, ℕ, ◌+◌, ◌≤◌, ◌<◌, List, [], ◌∷◌, ◌++◌, length, sym, subst, ◌∙◌, arith, inl, inr}
use Rattle.history_law.specs.Names.{Awaited}
use Rattle.server_rules.specs.Laws.{In}
use Rattle.history_law.specs.Numbered.{Numbered}

-- ---- commands that are numbered

pub numbered_from : (n : ℕ) (ws : List Awaited) (a : Awaited) → Numbered n ws → In a ws
    → (n ≤ a.command.nonce) × (a.command.nonce < n + length ws)
numbered_from n [] a h i = absurd i
numbered_from n (b ∷ ws) a h (inl e) =
    let is : a.command.nonce ≡ n = subst (λ (x : Awaited). x.command.nonce ≡ n) (sym e) h.0 in
    (omega (arith, is), omega (arith, is))
numbered_from n (b ∷ ws) a h (inr i) =
    let r = numbered_from (n + 1) ws a h.1 i in (omega (arith, r.0), omega (arith, r.1))

pub numbered_alone : (n : ℕ) (ws : List Awaited) (a b : Awaited) → Numbered n ws → In a ws → In b ws
    → a.command.nonce ≡ b.command.nonce → a ≡ b
numbered_alone n [] a b h i j e = absurd i
numbered_alone n (x ∷ ws) a b h (inl p) (inl q) e = p ∙ sym q
numbered_alone n (x ∷ ws) a b h (inl p) (inr j) e =
    let is : a.command.nonce ≡ n = subst (λ (y : Awaited). y.command.nonce ≡ n) (sym p) h.0 in
    absurd (omega (arith, is, e, (numbered_from (n + 1) ws b h.1 j).0))
numbered_alone n (x ∷ ws) a b h (inr i) (inl q) e =
    let is : b.command.nonce ≡ n = subst (λ (y : Awaited). y.command.nonce ≡ n) (sym q) h.0 in
    absurd (omega (arith, is, e, (numbered_from (n + 1) ws a h.1 i).0))
numbered_alone n (x ∷ ws) a b h (inr i) (inr j) e = numbered_alone (n + 1) ws a b h.1 i j e

pub numbered_at : (m n : ℕ) (ws : List Awaited) → m ≡ n → Numbered m ws → Numbered n ws
numbered_at m n ws e h = subst (λ (k : ℕ). Numbered k ws) e h

pub numbered_more : (n : ℕ) (ws bs : List Awaited) → Numbered n ws → Numbered (n + length ws) bs → Numbered n (ws ++ bs)
numbered_more n [] bs h i = numbered_at (n + 0) n bs (omega arith) i
numbered_more n (a ∷ ws) bs h i =
    (h.0, numbered_more (n + 1) ws bs h.1 (numbered_at (n + length (a ∷ ws)) ((n + 1) + length ws) bs (omega arith) i))
