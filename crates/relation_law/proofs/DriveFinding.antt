-- Which component a command of a drive goes to, and which WRITE of the machine it is.
-- Towards `ComponentsGoOn` (`specs/Steps.antt`).
use Rattle.std.proofs.Common.{◌≡◌, ℕ, ◌+◌, ◌==◌, ◌&&◌, Bool, true, false, not, List, [], ◌∷◌, zero, suc, slice_get, Some, None, refl, sym, ap, subst, ◌∙◌, inl, inr, arith, eq-eqb}
use Rattle.std.specs.Prelude.{find}
use Rattle.std.proofs.lemmas.Bool.{cases_Bool, eqb-true, and_parts}
use Rattle.std.proofs.lemmas.Option.{same_Some}
use Rattle.osd_commands.specs.declared.commands.Command.{Command}
use Rattle.fence_law.specs.Words.{In}
use Rattle.fence_law.specs.State.{State, Write}
use Rattle.world_history.specs.ServerNames.{Component}
use Rattle.world_history.specs.Stripes.{component_at}
use Rattle.file_simulation.specs.Messages.{WasSent}
use Rattle.file_simulation.specs.DriveEvents.{is_write}
use Rattle.relation_law.proofs.ComponentsMachine.{AreSingle}

-- ---- a component

-- component k, which isn't missing, has this object on this drive
pub record IsAt (cs : List Component) (d object k : ℕ) : Type 0 where
  pub component : Component
  pub there : slice_get cs k ≡ Some component
  pub present : component.missing ≡ false
  pub drive : component.drive ≡ d
  pub object_is : component.object ≡ object

abbrev test : (d object : ℕ) → Component → Bool
test d object at = not at.missing && ((at.drive == d) && (at.object == object))

tested : (d object : ℕ) (at : Component) → test d object at ≡ true →
    (at.missing ≡ false) × (at.drive ≡ d) × (at.object ≡ object)
tested d object at e =
    let one = and_parts (not at.missing) _ e in
    let two = and_parts (at.drive == d) _ one.1 in
    (present at.missing one.0, eqb-true at.drive d two.0, eqb-true at.object object two.1)
  where
    present : (b : Bool) → not b ≡ true → b ≡ false
    present true e = absurd (cc e)
    present false e = refl

-- the one that is found from number n on, at place i of these
found_from : (d object : ℕ) (cs : List Component) (n k : ℕ) → component_at d object cs n ≡ Some k →
    (i : ℕ) × (k ≡ n + i) × IsAt cs d object i
unfolding component_at
found_from d object [] n k e = absurd (cc e)
found_from d object (at ∷ cs) n k e = elim (cases_Bool (test d object at)) [
  | inl here ↦
      let is = tested d object at here in
      let first : n ≡ k = same_Some n k (rw here at e) in
      (0, omega (arith, first), record { component = at; there = refl; present = is.0; drive = is.1; object_is = is.2 })
  | inr past ↦
      let r = found_from d object cs (n + 1) k (rw past at e) in (
        suc r.0,
        omega (arith, r.1),
        record {
          component = r.2.component;
          there = r.2.there;
          present = r.2.present;
          drive = r.2.drive;
          object_is = r.2.object_is;
        },
      )
]

pub found : (d object : ℕ) (cs : List Component) (k : ℕ) → component_at d object cs 0 ≡ Some k → IsAt cs d object k
found d object cs k e =
    let r = found_from d object cs 0 k e in
    let same : r.0 ≡ k = omega (arith, r.1) in
    subst (IsAt cs d object) same r.2

-- one that is there is found
pub is_found : (d object : ℕ) (cs : List Component) (n i : ℕ) → IsAt cs d object i →
    (k : ℕ) × (component_at d object cs n ≡ Some k)
unfolding component_at
is_found d object [] n i is = absurd (cc is.there)
is_found d object (at ∷ cs) n zero is =
    let same : at ≡ is.component = same_Some at is.component is.there in
    let drive : at.drive ≡ d = ap (λ (y : Component). y.drive) same ∙ is.drive in
    let object_is : at.object ≡ object = ap (λ (y : Component). y.object) same ∙ is.object_is in
    (n, rw (ap (λ (y : Component). y.missing) same ∙ is.present, eq-eqb at.drive d drive, eq-eqb at.object object object_is) refl)
is_found d object (at ∷ cs) n (suc i) is = elim (cases_Bool (test d object at)) [
  | inl here ↦ (n, rw here refl)
  | inr past ↦
      let r = is_found d object cs (n + 1) i (record {
        component = is.component;
        there = is.there;
        present = is.present;
        drive = is.drive;
        object_is = is.object_is;
      }) in
      (r.0, rw past r.1)
]

-- where none is found, none is there
pub none_there : (d object : ℕ) (cs : List Component) → component_at d object cs 0 ≡ None → (k : ℕ) → IsAt cs d object k → ⊥
none_there d object cs e k is = let r = is_found d object cs 0 k is in cc (sym e ∙ r.1)

-- ---- a WRITE

found_one : (p : Write → Bool) (xs : List Write) (x : Write) → In x xs → p x ≡ true →
    (m : Write) × (find p xs ≡ Some m) × In m xs × (p m ≡ true)
found_one p [] x i e = absurd i
found_one p (y ∷ xs) x i e = elim (cases_Bool (p y)) [
  | inl here ↦ (y, rw here refl, inl refl, here)
  | inr past ↦ elim i [
    | inl same ↦ absurd (cc (sym past ∙ ap p (sym same) ∙ e))
    | inr o ↦ let r = found_one p xs x o e in (r.0, rw past r.1, inr r.2, r.3)
  ]
]

-- the one that the machine's client sent is found
pub sent_found : (s : State) (c k : ℕ) (x : Command) → AreSingle s → (sent : WasSent s c k x) →
    find (is_write c k x.nonce) s.writes ≡ Some sent.write
sent_found s c k x single sent =
    let m : Write = sent.write in
    let is : is_write c k x.nonce m ≡ true =
    rw (eq-eqb m.holder c sent.holder, eq-eqb m.nonce x.nonce sent.nonce, eq-eqb m.at k sent.at_) refl in
    let r = found_one (is_write c k x.nonce) s.writes m sent.sent is in
    let one = and_parts (r.0.holder == c) _ r.3 in
    let two = and_parts (r.0.nonce == x.nonce) _ one.1 in
    r.1 ∙ ap (λ (y : Write). Some y) (single r.0 m r.2 sent.sent
    (eqb-true r.0.holder c one.0 ∙ sym sent.holder) (eqb-true r.0.nonce x.nonce two.0 ∙ sym sent.nonce))
