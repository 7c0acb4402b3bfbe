-- The opening of a server: what the machine of one file has behind it.
-- Towards `KeptGoesOn` (`specs/Steps.antt`).
use Rattle.std.proofs.Common.{◌≡◌, ◌==◌, ◌&&◌, ◌||◌, ℕ, Bool, true, false, not, List, [], ◌∷◌, Some, refl, sym, ap, subst, ◌∙◌, inl, inr}
use Rattle.std.proofs.lemmas.Bool.{cases_Bool, eqb-true, eq-eqb, eqb-false}
use Rattle.std.proofs.lemmas.List.{append-nil}
use Rattle.server_rules.specs.declared.limits.TheConstants.{GREATEST_TAG}
use Rattle.component_law.specs.Tagged.{is_fence, fence_open}
use Rattle.server_rules.specs.Files.{file_at}
use Rattle.server_rules.specs.Going.{Going}
use Rattle.server_rules.specs.History.{Input}
use Rattle.server_rules.specs.Openings.{is_unsettled, opens_made, opens_fenced, opens, opens_each}
use Rattle.component_law.specs.Words.{Each}
use Rattle.component_law.specs.Distinct.{AreDistinct}
use Rattle.world_history.specs.ServerNames.{File, Kept, Still, Note, Effects, Drive, Revoking}
use Rattle.world_history.specs.State.{World}
use Rattle.fence_law.specs.State.{State, Event}
use Rattle.file_simulation.specs.ServerEvents.{begins_fence}
use Rattle.relation_law.specs.KeptSteps.{notes_events}
use Rattle.component_law.specs.KeptWalk.{IsWalked}
use Rattle.component_law.proofs.KeptJobs.{ends_opened}
use Rattle.relation_law.proofs.KeptEnds.{fence_shows}
use Rattle.relation_law.proofs.KeptRounds.{IsFrom, Quiet, quiet_walked, AllOther, HasGone, AddsNone, front_is, behind_is}
use Rattle.component_law.proofs.KeptOpening.{IsIdle, has_to_fence, ends_opens, settled}

module _ (w : World) (f : File) (i : Input) where
  module _ (t : State) (base : List Note) (es : List Event) (format : ℕ) (ds : List Drive) where
    pub opened_others : (fs : List File) (m : Effects) → AllOther f.kept.number fs → Each IsIdle fs
        → IsFrom base m.notes
        → notes_events t w f i m.notes ≡ es
        → IsFrom base (opens_each format ds fs m).effects.notes
        × (notes_events t w f i (opens_each format ds fs m).effects.notes ≡ es)
    unfolding opens_each
    opened_others [] m other idle from same = (from, same)
    opened_others (x ∷ fs) m other idle from same =
        let g : Going = record { file = x; effects = m; drives = ds; chosen = [] } in
        let e = ends_opens (Quiet t w f i base es) (quiet_walked t w f i base es) format g idle.0
        (λ n. (other.0, from, same)) (λ n. (other.0, from, same)) in
        opened_others fs (opens format g).effects other.1 idle.1 e.0.1 e.0.2

  pub opened_round : (t : State) (format : ℕ) (ds : List Drive) (P : Going → Type 0)
      → ((g : Going) → P g → g.file.kept.number ≡ f.kept.number)
      → ((m : Effects) → notes_events t w f i m.notes ≡ []
      → P (opens format (record { file = f; effects = m; drives = ds; chosen = [] })))
      → (fs : List File) (m : Effects) → file_at fs f.kept.number ≡ Some f → AreDistinct fs
      → Each IsIdle fs → notes_events t w f i m.notes ≡ []
      → HasGone f (opens_each format ds fs m).files (opens_each format ds fs m).effects.notes P (AddsNone t w f i)
  unfolding opens_each file_at
  opened_round t format ds P number own [] m there apart idle none = absurd (cc there)
  opened_round t format ds P number own (x ∷ fs) m there apart idle none =
      elim (cases_Bool (x.kept.number == f.kept.number)) [
        | inl here ↦
            let same : x ≡ f = cc (rw here at there) in
            let g : Going = record { file = x; effects = m; drives = ds; chosen = [] } in
            let is : P (opens format g) =
            subst (λ (y : File). P (opens format (record { file = y; effects = m; drives = ds; chosen = [] })))
            (sym same) (own m none) in
            let other : AllOther f.kept.number fs =
            subst (λ (n : ℕ). AllOther n fs) (eqb-true x.kept.number f.kept.number here) apart.0 in
            let rest = opened_others t (opens format g).effects.notes
            (notes_events t w f i (opens format g).effects.notes) format ds fs (opens format g).effects
            other idle.1 ([], sym (append-nil (opens format g).effects.notes)) refl in
            record {
              going = opens format g;
              found = front_is w f i (opens format g).file _ (number (opens format g) is);
              is = is;
              behind = rest;
            }
        | inr z ↦
            let ne : x.kept.number ≡ f.kept.number → ⊥ = eqb-false x.kept.number f.kept.number z in
            let g : Going = record { file = x; effects = m; drives = ds; chosen = [] } in
            let e = ends_opens (Quiet t w f i [] []) (quiet_walked t w f i [] []) format g idle.0
            (λ n. (ne, (m.notes, refl), none)) (λ n. (ne, (m.notes, refl), none)) in
            let r = opened_round t format ds P number own fs (opens format g).effects (rw z at there) apart.1 idle.1 e.0.2 in
            record {
              going = r.going;
              found = behind_is w f i (opens format g).file _ e.0.0 ∙ r.found;
              is = r.is;
              behind = r.behind;
            }
      ]

-- ---- whether the opening of a file begins a fence

-- it is fenced, and no fence is open
abbrev pub opening_fences : Kept → Bool
opening_fences k = has_to_fence k && not (fence_open k)

-- what keeps phase and tag shows no fence
pub none_shows : (f g : File) → g.kept.phase ≡ f.kept.phase → g.kept.tag ≡ f.kept.tag → begins_fence f g ≡ false
none_shows f g p e =
    rw (ap is_fence p, eq-eqb g.kept.tag f.kept.tag e) (flag (fence_open f.kept))
  where
    flag : (b : Bool) → (not b && (b || not true)) ≡ false
    flag true = refl
    flag false = refl

-- a still file that is made keeps phase and tag
abbrev StaysStill : (tag : ℕ) → Kept → List Note → Type 0
StaysStill tag k ns = (k.phase ≡ Still) × (k.tag ≡ tag)

still_walked : (tag : ℕ) → IsWalked (StaysStill tag)
still_walked tag = record {
  alike = λ k l ns a h. (a.phase ∙ h.0, a.tag ∙ h.1);
  plain = λ k ns kind p h. h;
  fenced = λ k ns p h. absurd (cc (sym (ap is_fence h.0) ∙ p));
  mended = λ k ns stripes short p h. absurd (cc (sym h.0 ∙ p));
}

pub opening_shows : (format : ℕ) (g : Going) → begins_fence g.file (opens format g).file ≡ opening_fences g.file.kept
unfolding opens opens_fenced
opening_shows format g = elim (cases_Bool (is_unsettled g.file.kept)) [
  | inl u ↦ elim (cases_Bool (g.file.kept.tag == GREATEST_TAG)) [
    | inl e ↦ rw (u, e) (none_shows g.file g.file refl refl)
    | inr e ↦ elim (cases_Bool (fence_open g.file.kept)) [
      | inl o ↦ rw (u, e, o) refl
      | inr o ↦
          let shut : not (fence_open g.file.kept) ≡ true = rw o refl in
          rw (u, e) (fence_shows Revoking format g o ∙ sym shut)
    ]
  ]
  | inr u ↦
      let still : g.file.kept.phase ≡ Still = settled g.file.kept g.file.kept.phase refl u in
      let e = ends_opened (StaysStill g.file.kept.tag) (still_walked g.file.kept.tag) g g.file.kept.ready
      (still, (still, refl)) in
      rw u (none_shows g.file (opens_made g g.file.kept.ready).file (e.0.0 ∙ sym still) e.0.1)
]
