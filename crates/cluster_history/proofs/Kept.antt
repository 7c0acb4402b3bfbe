-- What a cluster has of a world is there in the world; and each drive keeps what it has over a crash.
use Rattle.std.proofs.Common.{◌≡◌, ℕ, ◌<◌, Bool, true, false, cond, List, [], ◌∷◌, Option, Some, None, length, refl, sym, ap, subst, ◌∙◌, arith, ltb}
use Rattle.std.specs.Prelude.{slice_get, nat_lt, not, if◌then◌else◌}
use Rattle.std.specs.Ordering.{nat_cmp, match_ordering}
use Rattle.std.specs.declared.cmp.Ordering.{Ordering}
use Rattle.std.specs.declared.cmp.Ordering.TheVariants.{Less, Equal, Greater}
use Rattle.std.specs.BTreeMap.{is_at}
use Rattle.std.proofs.lemmas.Bool.Decides.{nat_tests}
use Rattle.std.proofs.lemmas.Option.{slice_get_within}
use Rattle.world_history.specs.declared.err.WorldErr.{WorldErr}
use Rattle.world_history.specs.declared.messages.Message.{Message}
use Rattle.world_history.specs.declared.messages.Posted.{Posted}
use Rattle.world_history.specs.State.{World, DriveAt, ClientAt, at_number, with_number, and_number}
use Rattle.world_history.specs.Refusals.{of_message}
use Rattle.history_law.specs.Said.{said}
use Rattle.osd_lists.specs.declared.node.Node.{Node}
use Rattle.cluster_history.specs.State.{DriveHere, ClientHere}
use Rattle.cluster_history.specs.Steps.{WasSentTo}
use Rattle.cluster_history.specs.Like.{drive_of, client_of, cluster_of, each_as, AreStored}
use Rattle.cluster_history.proofs.Lists.{found_from, listed_from}

-- ---- drives that are stored

found_if : (b : Bool) (e : ℕ × DriveAt) (o : Option DriveAt) (a : DriveAt) → cond b (Some e.1) o ≡ Some a → e.1.stored ≡ true
    → (o ≡ Some a → a.stored ≡ true) → a.stored ≡ true
found_if true e o a found s rest = let it : e.1 ≡ a = cc found in ap (λ (x : DriveAt). x.stored) (sym it) ∙ s
found_if false e o a found s rest = rest found

pub found_stored : (ds : List (ℕ × DriveAt)) (d : ℕ) (a : DriveAt) → AreStored ds → at_number ds d ≡ Some a → a.stored ≡ true
found_stored [] d a s found = absurd (cc found)
found_stored (e ∷ ds) d a s found =
    found_if (is_at (nat_cmp d) e.0) e (at_number ds d) a found s.0 (λ rest. found_stored ds d a s.1 rest)

put_if : (b : Bool) (e : ℕ × DriveAt) (a : DriveAt) (xs ys : List (ℕ × DriveAt)) → a.stored ≡ true → AreStored (e ∷ xs)
    → AreStored ys → AreStored (cond b ((e.0, a) ∷ xs) (e ∷ ys))
put_if true e a xs ys is s rest = (is, s.1)
put_if false e a xs ys is s rest = (s.0, rest)

pub put_stored : (ds : List (ℕ × DriveAt)) (d : ℕ) (a : DriveAt) → AreStored ds → a.stored ≡ true
    → AreStored (with_number ds d a)
put_stored [] d a s is = tt
put_stored (e ∷ ds) d a s is =
    put_if (is_at (nat_cmp d) e.0) e a ds (with_number ds d a) is s (put_stored ds d a s.1 is)

more_if : (o : Ordering) (d : ℕ) (e : ℕ × DriveAt) (a : DriveAt) (xs ys : List (ℕ × DriveAt)) → a.stored ≡ true
    → AreStored (e ∷ xs) → AreStored ys
    → AreStored (match_ordering o ((d, a) ∷ e ∷ xs) ((e.0, a) ∷ xs) (e ∷ ys))
more_if Less d e a xs ys is s rest = (is, s)
more_if Equal d e a xs ys is s rest = (is, s.1)
more_if Greater d e a xs ys is s rest = (s.0, rest)

pub more_stored : (ds : List (ℕ × DriveAt)) (d : ℕ) (a : DriveAt) → AreStored ds → a.stored ≡ true
    → AreStored (and_number ds d a)
more_stored [] d a s is = (is, tt)
more_stored (e ∷ ds) d a s is =
    more_if (nat_cmp d e.0) d e a ds (and_number ds d a) is s (more_stored ds d a s.1 is)

-- ---- what is there

-- a drive
pub record DriveThere (w : World) (d : ℕ) (h : DriveHere) : Type 0 where
  pub at : DriveAt
  pub found : at_number w.drives d ≡ Some at
  pub same : drive_of at ≡ h
  pub shown : at_number (cluster_of w).drives d ≡ Some (drive_of at)

pub drive_there : (w : World) (d : ℕ) (h : DriveHere) → at_number (cluster_of w).drives d ≡ Some h → DriveThere w d h
drive_there w d h e =
    let f : (a : DriveAt) × (at_number w.drives d ≡ Some a) × (drive_of a ≡ h) = found_from drive_of w.drives d h e in
    record { at = f.0; found = f.1; same = f.2; shown = e ∙ ap (λ (x : DriveHere). Some x) (sym f.2) }

-- a client
pub record ClientThere (w : World) (c : ℕ) (h : ClientHere) : Type 0 where
  pub at : ClientAt
  pub found : at_number w.clients c ≡ Some at
  pub same : client_of at ≡ h
  pub shown : at_number (cluster_of w).clients c ≡ Some (client_of at)

pub client_there : (w : World) (c : ℕ) (h : ClientHere) → at_number (cluster_of w).clients c ≡ Some h → ClientThere w c h
client_there w c h e =
    let f : (a : ClientAt) × (at_number w.clients c ≡ Some a) × (client_of a ≡ h) = found_from client_of w.clients c h e in
    record { at = f.0; found = f.1; same = f.2; shown = e ∙ ap (λ (x : ClientHere). Some x) (sym f.2) }

-- a message
pub record MessageThere (w : World) (n : ℕ) (to : Node) : Type 0 where
  pub posted : Posted
  pub found : slice_get w.network.messages n ≡ Some posted
  pub shown : slice_get (cluster_of w).sent n ≡ Some posted.message
  pub receiver : posted.message.to ≡ to
  pub allowed : of_message w n ≡ None

pub below_none : (n m : ℕ) → n < m → (e : WorldErr) → (if nat_lt n m then None else Some e) ≡ None
below_none n m l e = let t : nat_lt n m ≡ true = grind (arith, nat_tests, l) in rw t refl

pub message_there : (w : World) (n : ℕ) (to : Node) → WasSentTo (cluster_of w) n to → MessageThere w n to
message_there w n to s =
    let f : (p : Posted) × (slice_get w.network.messages n ≡ Some p) × (p.message ≡ s.message) =
    listed_from (λ (p : Posted). p.message) w.network.messages n s.message s.there in
    record {
      posted = f.0;
      found = f.1;
      shown = s.there ∙ ap (λ (m : Message). Some m) (sym f.2);
      receiver = ap (λ (m : Message). m.to) f.2 ∙ s.receiver;
      allowed = below_none n (length w.network.messages) (slice_get_within w.network.messages n f.0 f.1) _;
    }

-- ---- tests

pub not_true : (b : Bool) → not b ≡ true → b ≡ false
not_true true e = absurd (cc e)
not_true false e = refl

pub not_false : (b : Bool) → not b ≡ false → b ≡ true
not_false true e = refl
not_false false e = absurd (cc e)
