-- Over any run there is one owner for each object number.
use Rattle.std.proofs.Common.{◌≡◌, ℕ, ◌<◌, List, [], ◌∷◌, ◌++◌, refl, subst, ◌∙◌, arith}
use Rattle.osd_lists.proofs.Slices.{head_same, tail_same}
use Rattle.server_rules.specs.Making.{new_server}
use Rattle.server_rules.specs.History.{Act, step, state_after}
use Rattle.history_law.specs.Names.{Server}
use Rattle.component_law.specs.Objects.{AreOwned, EachObjectIsOwned}
use Rattle.component_law.proofs.ObjectSteps.{Agree, owned_later, step_owns}

-- what is owned at each moment from a server on
record Runs (owner : ℕ → ℕ) (s : Server) (acts : List Act) : Type 0 where
  later : ℕ → ℕ
  agree : Agree owner later s.next_object
  owned : (before after : List Act) → acts ≡ before ++ after → AreOwned later (state_after s before)

here : (owner later : ℕ → ℕ) (s : Server) → Agree owner later s.next_object → AreOwned owner s → AreOwned later s
here owner later s agree own f i =
    owned_later owner later s.next_object s.next_object f agree (omega arith) (own f i)

runs : (owner : ℕ → ℕ) (s : Server) (acts : List Act) → AreOwned owner s → Runs owner s acts
runs owner s [] own = record { later = owner; agree = λ o less. refl; owned = owned }
  where
    owned : (before after : List Act) → [] ≡ before ++ after → AreOwned owner (state_after s before)
    owned [] after e = own
    owned (b ∷ before) after e = absurd (cc e)
runs owner s (a ∷ acts) own =
    let k = (step_owns s a.chosen a.input).keeps owner own in
    let r = runs k.later (step s a.chosen a.input).state acts k.owned in
    let agree = λ (o : ℕ) (less : o < s.next_object). r.agree o (omega (arith, less, k.rises)) ∙ k.agree o less in
    record {
      later = r.later;
      agree = agree;
      owned = λ before after e. owned r.later r.owned (here owner r.later s agree own) before after e;
    }
  where
    owned : (later : ℕ → ℕ) → ((before after : List Act) → acts ≡ before ++ after
        → AreOwned later (state_after (step s a.chosen a.input).state before)) → AreOwned later s
        → (before after : List Act) → a ∷ acts ≡ before ++ after → AreOwned later (state_after s before)
    owned later rest first [] after e = first
    owned later rest first (b ∷ before) after e =
        subst (λ (x : Act). AreOwned later (state_after (step s x.chosen x.input).state before))
        (head_same a b acts (before ++ after) e) (rest before after (tail_same a b acts (before ++ after) e))

pub each_object_is_owned : EachObjectIsOwned
each_object_is_owned acts =
    let r = runs (λ o. o) (new_server []) acts (λ f i. absurd i) in (r.later, r.owned)
