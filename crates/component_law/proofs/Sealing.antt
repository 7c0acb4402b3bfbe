-- A drive that has one key opens what is sealed with it.
use Rattle.std.specs.Cmp.Lexicographic.{pointwise}
use Rattle.std.proofs.Common.{◌≡◌, ◌==◌, ℕ, ◌++◌, [], ◌∷◌, List, Bool, true, false, not, nat_eq, Option, Some, None, is_none, find, is_some, refl, sym, ap, subst, ◌∙◌}
use Rattle.std.proofs.lemmas.Bool.{eq-eqb}
use Rattle.osd_capability.specs.Keys.{key_of, check_of}
use Rattle.osd_commands.specs.Commands.{head, fields}
use Rattle.osd_drive.specs.declared.keys.DriveKey.{DriveKey}
use Rattle.osd_drive.specs.State.{DriveState, key_of_version}
use Rattle.osd_drive.specs.Table.{has_no_key, has_wrong_check, fails_check}
use Rattle.server_rules.specs.declared.limits.TheConstants.{KEY_VERSION}
use Rattle.server_rules.specs.Commands.{key_in, key_at, check_under, sealed}
use Rattle.scenario_text.specs.declared.line.Line.{Line}
use Rattle.world_history.specs.ServerNames.{Awaited, Drive}
use Rattle.world_history.specs.Drives.{first_key}
use Rattle.world_history.specs.State.{World, DriveAt, at_number}
use Rattle.world_history.specs.History.{OneEventMore}
use Rattle.world_history.specs.Plans.{due}
use Rattle.world_history.specs.Sending.{Move, move}
use Rattle.history_law.specs.BookMoments.{IsMoment, plan_at}
use Rattle.component_law.specs.Keys.{HasItsKey, KeysAreKnown}
use Rattle.component_law.proofs.Servers.{keys_for, known_keys}
use Rattle.component_law.proofs.Moves.{keys_of}
use Rattle.component_law.proofs.Keys.{Made, AreKnown, are_known, keys_stay}
use Rattle.component_law.proofs.DrivesKnown.{known_same}
use Rattle.component_law.proofs.Given.{KeepKeys}

pub same_bytes : (xs : List ℕ) → pointwise nat_eq xs xs ≡ true
same_bytes [] = refl
same_bytes (x ∷ xs) = rw (eq-eqb x x refl) (same_bytes xs)

module _ (s : DriveState) (ds : List Drive) (key : List ℕ) (keys : s.keys ≡ first_key key ∷ []) (c : Awaited)
    (version : c.command.capability.key_version ≡ KEY_VERSION) where
  found : key_of_version s.keys c.command.capability.key_version ≡ Some (first_key key)
  found =
      ap (λ (ks : List DriveKey). key_of_version ks c.command.capability.key_version) keys
      ∙ ap (λ (v : ℕ). key_of_version (first_key key ∷ []) v) version

  has_key : has_no_key s (sealed ds c) ≡ false
  has_key = ap (λ (o : Option DriveKey). is_none o) found

  opens_it : key_at ds c.drive ≡ key → has_wrong_check s (sealed ds c) ≡ false
  unfolding check_under head fields
  opens_it known =
      ap (λ (o : Option DriveKey). fails_check o (sealed ds c)) found
      ∙ ap (λ (k : List ℕ). not (pointwise nat_eq (check_under k c.command)
      (check_of (key_of key c.command.capability) (head c.command ++ c.command.payload)))) known
      ∙ ap (λ (b : Bool). not b) (same_bytes (check_under key c.command))

-- ---- at a moment

abbrev the_key : Option (List DriveKey) → List ℕ
the_key (Some (k ∷ ks)) = k.key
the_key (Some []) = []
the_key None = []

known_as : (o : Option Drive) (key : List ℕ) → Some (first_key key ∷ []) ≡ keys_for o → key_in o ≡ key
known_as None key e = absurd (cc e)
known_as (Some x) key e = sym (ap the_key e)

key_known : (ds : List Drive) (d : ℕ) (key : List ℕ) → Some (first_key key ∷ []) ≡ known_keys ds d
    → key_at ds d ≡ key
unfolding key_at
key_known ds d key e = known_as (find (λ (x : Drive). x.number == d) ds) key e

-- so keys stay as the server has them
found_keys : (o : Option Drive) → is_some o ≡ true → keys_for o ≡ Some (first_key (key_in o) ∷ [])
found_keys None e = absurd (cc e)
found_keys (Some x) e = refl

pub keys_kept : (w : World) (h : List Line) (k : IsMoment w h) (m : Move) → due (plan_at k) w ≡ Some m.action
    → AreKnown w h → KeepKeys w.server.drives (move w m).world.server.drives
unfolding key_at
keys_kept w h k m d a n e =
    let has : known_keys w.server.drives n ≡ Some (first_key (key_at w.server.drives n) ∷ []) =
    found_keys (find (λ (x : Drive). x.number == n) w.server.drives) e in
    let then : known_keys (move w m).world.server.drives n ≡ Some (first_key (key_at w.server.drives n) ∷ []) =
    keys_stay w h k a n (first_key (key_at w.server.drives n) ∷ []) has m.chosen m.action d in (
      known_same w.server.drives (move w m).world.server.drives n (then ∙ sym has) e,
      key_known (move w m).world.server.drives n (key_at w.server.drives n) (sym then),
    )

has_its_key : (w : World) (h : List Line) (d : ℕ) (a : DriveAt) → at_number w.drives d ≡ Some a → AreKnown w h
    → HasItsKey w h d a
has_its_key w h d a found k =
    let m : Made h d (Some a.state.keys) = subst (λ (o : Option DriveAt). Made h d (keys_of o)) found (k.made d) in
    let known : key_at w.server.drives d ≡ m.0 =
    key_known w.server.drives d m.0
    (sym (ap (λ (ks : List DriveKey). Some ks) m.4) ∙ sym (ap keys_of found) ∙ k.same d) in
    record {
      key = m.0;
      capacity = m.1;
      stored = m.2;
      made = m.3;
      keys = m.4;
      known = known;
      has = λ c version. has_key a.state w.server.drives m.0 m.4 c version;
      opens = λ c to version. opens_it a.state w.server.drives m.0 m.4 c version
          (ap (λ (n : ℕ). key_at w.server.drives n) to ∙ known);
    }

pub keys_are_known : OneEventMore → KeysAreKnown
keys_are_known more w h k d a found = has_its_key w h d a found (are_known more w h k)
