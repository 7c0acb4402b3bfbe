-- What holds of a client's grants and of what its call awaits, and what keeps it.
use Rattle.std.proofs.Common.{◌≡◌, ◌≢◌, ℕ, List, Option, Some, None, sym, subst, ◌∙◌, inl, inr}
use Rattle.layout_ops.specs.declared.args.Args.{Args}
use Rattle.layout_ops.specs.declared.args.Args.TheVariants as args
use Rattle.server_rules.specs.Laws.{In}
use Rattle.exchange_law.specs.ClientState.{Call, Held, Awaited, Command, Moved}
use Rattle.client_rules.specs.Calls.{file_of}
use Rattle.client_rules.specs.Grants.{held_of, put_held, without_held}
use Rattle.client_rules.specs.Going.{held_after}
use Rattle.client_rules.specs.Io.{awaited_in}
use Rattle.client_rules.specs.Messages.{awaited_of}
use Rattle.client_rules.specs.Laws.{IsNumbered}
use Rattle.exchange_law.proofs.ClientKeeping.{put_read, without_read}
use Rattle.exchange_law.specs.Sent.{Names}
use Rattle.exchange_law.proofs.LaneMoves.{AreOf, PhaseFine, MovedWell}
use Rattle.exchange_law.proofs.LaneGrowing.{With, HeldFine, Single, AreLatest, names_same, moved_held, moved_other}

-- ---- grants

-- no component of the one has an object of the other
abbrev pub AreBeside : Held → Held → Type 0
AreBeside h j = (k i object : ℕ) → Names h k object → Names j i object → ⊥

-- nonces are below each grant's last, and no two components have one object, be they of one grant or of two
pub record HeldsFine (S : Command → Type 0) (hs : List Held) : Type 0 where
  pub nonces : (f : ℕ) (j : Held) → held_of hs f ≡ Some j → HeldFine S j
  pub single : (f : ℕ) (j : Held) → held_of hs f ≡ Some j → Single j
  pub apart : (f g : ℕ) (j i : Held) → held_of hs f ≡ Some j → held_of hs g ≡ Some i → f ≢ g → AreBeside j i

-- what a call awaits is of its grant, and no WRITE to the object of an awaited one has a later nonce
pub record CallFine (S : Command → Type 0) (hs : List Held) (call : Call) : Type 0 where
  pub fine : PhaseFine call.phase
  pub of : (j : Held) → held_of hs (file_of call.op) ≡ Some j → AreOf j (awaited_in call.phase)
  pub latest : AreLatest S (awaited_in call.phase)

abbrev pub CallsFine : (Command → Type 0) → List Held → Option Call → Type 0
CallsFine S hs None = Unit {0}
CallsFine S hs (Some call) = CallFine S hs call

-- these were sent
abbrev pub AreSent : (Command → Type 0) → List Awaited → Type 0
AreSent S xs = (x : Awaited) → In x xs → S x.command

pub record ClientFine (S : Command → Type 0) (hs : List Held) (o : Option Call) : Type 0 where
  pub helds : HeldsFine S hs
  pub call : CallsFine S hs o
  pub sent : AreSent S (awaited_of o)

-- ---- fewer commands

module _ (S T : Command → Type 0) (less : (y : Command) → T y → S y) where
  pub fewer_held : (h : Held) → HeldFine S h → HeldFine T h
  fewer_held h f k y t b n = f k y (less y t) b n

  pub fewer_helds : (hs : List Held) → HeldsFine S hs → HeldsFine T hs
  fewer_helds hs f = record {
    nonces = λ g j e. fewer_held j (f.nonces g j e);
    single = f.single;
    apart = f.apart;
  }

  fewer_latest : (xs : List Awaited) → AreLatest S xs → AreLatest T xs
  fewer_latest xs f x i w b y t a c e = f x i w b y (less y t) a c e

  fewer_call : (hs : List Held) (o : Option Call) → CallsFine S hs o → CallsFine T hs o
  fewer_call hs None f = tt
  fewer_call hs (Some call) f = record {
    fine = f.fine;
    of = f.of;
    latest = fewer_latest (awaited_in call.phase) f.latest;
  }

  pub fewer : (hs : List Held) (o : Option Call) → ClientFine S hs o → AreSent T (awaited_of o) → ClientFine T hs o
  fewer hs o f sent = record { helds = fewer_helds hs f.helds; call = fewer_call hs o f.call; sent = sent }

-- ---- a grant that is put, or taken out

module _ (S : Command → Type 0) (hs : List Held) where
  pub put_fine : (k : Held) → HeldsFine S hs → HeldFine S k → Single k
      → ((f : ℕ) (j : Held) → k.file ≢ f → held_of hs f ≡ Some j → AreBeside k j) → HeldsFine S (put_held hs k)
  put_fine k fine new single beside = record {
    nonces = λ f j e. elim (put_read hs k f j e) [
      | inl a ↦ subst (HeldFine S) a.1 new
      | inr b ↦ fine.nonces f j b.1
    ];
    single = λ f j e. elim (put_read hs k f j e) [
      | inl a ↦ subst Single a.1 single
      | inr b ↦ fine.single f j b.1
    ];
    apart = λ f g j i e d other. elim (put_read hs k f j e) [
      | inl a ↦ elim (put_read hs k g i d) [
        | inl b ↦ absurd (other (sym a.0 ∙ b.0))
        | inr c ↦ subst (λ (x : Held). AreBeside x i) a.1 (beside g i c.0 c.1)
      ]
      | inr b ↦ elim (put_read hs k g i d) [
        | inl a ↦ subst (λ (x : Held). AreBeside j x) a.1 (λ m n o x y. beside f j b.0 b.1 n m o y x)
        | inr c ↦ fine.apart f g j i b.1 c.1 other
      ]
    ];
  }

  pub without_fine : (file : ℕ) → HeldsFine S hs → HeldsFine S (without_held hs file)
  without_fine file fine = record {
    nonces = λ f j e. fine.nonces f j (without_read hs file f j e);
    single = λ f j e. fine.single f j (without_read hs file f j e);
    apart = λ f g j i e d other. fine.apart f g j i (without_read hs file f j e) (without_read hs file g i d) other;
  }

  pub after_fine : (file : ℕ) (a : Args) → HeldsFine S hs → HeldsFine S (held_after hs file a)
  after_fine file (args.LayoutGet a) fine = fine
  after_fine file (args.LayoutCommit a) fine = fine
  after_fine file (args.LayoutReturn a) fine = without_fine file fine

  -- ---- what a call does with the drives

  same_single : (k h : Held) → k.components ≡ h.components → Single h → Single k
  same_single k h e single i j o m n = single i j o (names_same k h i o e m) (names_same k h j o e n)

  pub moved_helds : (f : ℕ) (h : Held) (m : Moved) (old : List Awaited) → held_of hs f ≡ Some h → m.held.file ≡ f
      → IsNumbered h m → MovedWell h old m → HeldsFine S hs → HeldsFine (With S m.sent) (put_held hs m.held)
  moved_helds f h m old there file numbers well fine = record {
    nonces = λ g j e. elim (put_read hs m.held g j e) [
      | inl a ↦ subst (HeldFine (With S m.sent)) a.1 (moved_held S h m numbers old (fine.nonces f h there) well)
      | inr b ↦ moved_other S h j m.sent (fine.nonces g j b.1)
          (fine.apart f g h j there b.1 (λ e. b.0 (file ∙ e))) well.of
    ];
    single = λ g j e. elim (put_read hs m.held g j e) [
      | inl a ↦ subst Single a.1 (same_single m.held h well.components (fine.single f h there))
      | inr b ↦ fine.single g j b.1
    ];
    apart = λ g l j i e d other. elim (put_read hs m.held g j e) [
      | inl a ↦ elim (put_read hs m.held l i d) [
        | inl b ↦ absurd (other (sym a.0 ∙ b.0))
        | inr c ↦ subst (λ (x : Held). AreBeside x i) a.1 (beside l i c.0 c.1)
      ]
      | inr b ↦ elim (put_read hs m.held l i d) [
        | inl a ↦ subst (λ (x : Held). AreBeside j x) a.1 (λ p q o x y. beside g j b.0 b.1 q p o y x)
        | inr c ↦ fine.apart g l j i b.1 c.1 other
      ]
    ];
  }
    where
      beside : (l : ℕ) (i : Held) → m.held.file ≢ l → held_of hs l ≡ Some i → AreBeside m.held i
      beside l i other e p q o x y =
          fine.apart f l h i there e (λ same. other (file ∙ same)) p q o
          (names_same m.held h p o well.components x) y
