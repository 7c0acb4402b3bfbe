-- What holds of the machine of a run, whatever stands for it: its invariants, and that WRITEs of one client differ by their
-- nonces.
-- Towards `ComponentsGoOn` (`specs/Steps.antt`).
use Rattle.std.proofs.Common.{◌≡◌, ℕ, List, [], ◌∷◌, sym, ap, subst, ◌∙◌, inl, inr, arith}
use Rattle.fence_law.specs.Words.{In}
use Rattle.fence_law.specs.State.{State, Event, Write, Grant}
use Rattle.fence_law.specs.State.Event.{Sends}
use Rattle.fence_law.specs.Machine.{Allowed, Lawful, after, after_all, new_file_state}
use Rattle.fence_law.specs.Law.{IsCode}
use Rattle.fence_law.proofs.Judge.{Right, right_end}
use Rattle.fence_law.proofs.Open.{Known}
use Rattle.fence_law.proofs.Safe.{Safe, keep_safe, safe_first}
use Rattle.file_simulation.specs.Showing.{IsRun}

-- the invariants of a lawful and calm run
pub right_run : (s : State) → IsCode s.layout → IsRun s → Right s
right_run s code run =
    subst Right (sym run.state) (right_end s.layout run.events code run.lawful run.calm)

-- no two WRITEs of one client have one nonce
abbrev pub AreSingle : State → Type 0
AreSingle b = (m n : Write) → In m b.writes → In n b.writes → m.holder ≡ n.holder → m.nonce ≡ n.nonce → m ≡ n

single_sends : (b : State) (c k : ℕ) (g : Grant) (j i v : ℕ) → Allowed b (Sends c k g j i v) → Known b → AreSingle b →
    AreSingle (after b (Sends c k g j i v))
single_sends b c k g j i v a known h m n (inl e) (inl f) holder nonce = e ∙ sym f
single_sends b c k g j i v a known h m n (inl e) (inr o) holder nonce =
    absurd (omega (
      arith,
      a.new,
      (known n o).nonce,
      ap b.nonce (sym holder ∙ ap (λ (w : Write). w.holder) e),
      sym nonce ∙ ap (λ (w : Write). w.nonce) e,
    ))
single_sends b c k g j i v a known h m n (inr o) (inl f) holder nonce =
    absurd (omega (
      arith,
      a.new,
      (known m o).nonce,
      ap b.nonce (holder ∙ ap (λ (w : Write). w.holder) f),
      nonce ∙ ap (λ (w : Write). w.nonce) f,
    ))
single_sends b c k g j i v a known h m n (inr o) (inr p) holder nonce = h m n o p holder nonce

keep_single : (b : State) (e : Event) → Allowed b e → Known b → AreSingle b → AreSingle (after b e)
keep_single b (Sends c k g j i v) a known h = single_sends b c k g j i v a known h
keep_single b e a known h = h

single_all : (b : State) (es : List Event) → Lawful b es → Safe b → AreSingle b → AreSingle (after_all b es)
single_all b [] l s h = h
single_all b (e ∷ es) l s h = single_all (after b e) es l.1 (keep_safe b e l.0 s) (keep_single b e l.0 s.known h)

pub single_run : (s : State) → IsCode s.layout → IsRun s → AreSingle s
single_run s code run =
    subst AreSingle (sym run.state)
    (single_all (new_file_state s.layout) run.events run.lawful (safe_first s.layout code) (λ m n i. absurd i))
