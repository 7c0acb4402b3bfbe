-- Live grants of two files have two numbers: a grant that is new in a step has a new number, and is in one file.
use Rattle.std.proofs.Common.{◌≡◌, ◌⊎◌, ◌≤◌, ◌<◌, ℕ, List, [], Option, Some, None, refl, sym, ap, subst, ◌∙◌, inl, inr, arith}
use Rattle.std.proofs.lemmas.Bool.{cases_eq, ne_eqb}
use Rattle.server_rules.specs.Files.{Step, file_at, put_file, at_file}
use Rattle.server_rules.specs.History.{Input, step}
use Rattle.server_rules.specs.Laws.{In}
use Rattle.server_rules.specs.Requests.{serves, on_request}
use Rattle.server_rules.proofs.FileLaws.{put_other, number_at}
use Rattle.world_history.specs.Sending.{Move, move}
use Rattle.world_history.specs.ServerNames.{Server, File, Grant, ClientRequest}
use Rattle.world_history.specs.State.{World}
use Rattle.history_law.specs.Doing.{input_in}
use Rattle.history_law.specs.Files.{FilesGo, Quiet, Asked}
use Rattle.history_law.specs.Moments.{IsReached}
use Rattle.history_law.proofs.Files.{in_at, put_gives}
use Rattle.history_law.proofs.Reached.{always}
use Rattle.history_law.proofs.Steps.{each_request}
use Rattle.component_law.specs.Order.{AreInOrder}
use Rattle.component_law.specs.Distinct.{AreDistinct}
use Rattle.component_law.proofs.OrderSteps.{each_step_orders}
use Rattle.relation_law.proofs.FramesFiles.{move_stays}
use Rattle.relation_law.proofs.FramesParties.{server_rests, server_steps}
use Rattle.relation_law.proofs.KeptServer.{at_place}
use Rattle.headline_law.proofs.CalmWays.{Ways, Else, KeepsGrants, ways_go, served_number}
use Rattle.headline_law.proofs.LossApartServing.{so_served}

-- ---- a step

-- the grant was live in the file of this number
abbrev pub WasLive : Server → (a : ℕ) → Grant → Type 0
WasLive s a g = (x : File) × (file_at s.files a ≡ Some x) × In g x.kept.grants

-- each grant that is live behind the step was so before it, or has a new number, and its file is that of number n
abbrev pub OldOrNew : Server → (n : ℕ) → Step → Type 0
OldOrNew s n t =
    (a : ℕ) (y : File) (g : Grant) → file_at t.state.files a ≡ Some y → In g y.kept.grants →
    WasLive s a g ⊎ ((s.next_grant ≤ g.number) × (a ≡ n))

-- so it is of some file
abbrev pub NewAtOne : Server → Step → Type 0
NewAtOne s t = (n : ℕ) × OldOrNew s n t

module _ (s : Server) (chosen : List ℕ) (i : Input) (apart : AreDistinct s.files) where
  -- ---- a request

  served : (now : ℕ) (q : ClientRequest) (x : File) → file_at s.files q.file ≡ Some x → (a : ℕ) (y : File) (g : Grant) →
      file_at (put_file s.files q.file (serves (at_file s chosen x) s.next_grant s.format now q.client q.args).going.file) a
      ≡ Some y → In g y.kept.grants → WasLive s a g ⊎ ((s.next_grant ≤ g.number) × (a ≡ q.file))
  served now q x found a y g e live =
      let v = serves (at_file s chosen x) s.next_grant s.format now q.client q.args in
      let number : v.going.file.kept.number ≡ q.file =
      served_number (at_file s chosen x) s.next_grant s.format now q.client q.args ∙ number_at s.files q.file x found in
      elim (cases_eq q.file a) [
        | inl here ↦
            let is : y ≡ v.going.file =
            put_gives s.files q.file v.going.file y number
            (subst (λ (n : ℕ). file_at (put_file s.files q.file v.going.file) n ≡ Some y) (sym here) e) in
            elim (so_served s.next_grant (λ z. In z x.kept.grants ⊎ (s.next_grant ≤ z.number)) (λ z low. inr low)
            (at_file s chosen x) s.format now q.client q.args (λ z k. inl k) g
            (subst (λ (z : File). In g z.kept.grants) is live)) [
              | inl old ↦ inl (x, ap (file_at s.files) (sym here) ∙ found, old)
              | inr new ↦ inr (new, sym here)
            ]
        | inr other ↦
            inl (y, sym (put_other s.files q.file v.going.file number a (ne_eqb q.file a other)) ∙ e, live)
      ]

  asked : (now : ℕ) (q : ClientRequest) → OldOrNew s q.file (on_request s now chosen q)
  asked now q = each_request s now chosen q (OldOrNew s q.file) (record {
    again = λ kept is a y g e live. inl (y, e, live);
    misordered = λ expected is a y g e live. inl (y, e, live);
    without = λ new none a y g e live. inl (y, e, live);
    served = λ new x found. served now q x found;
  })

  -- ---- any other step

  kept : (a : ℕ) (x y : File) (g : Grant) → file_at s.files a ≡ Some x → KeepsGrants x.kept.grants y.kept.grants →
      In g y.kept.grants → WasLive s a g
  kept a x y g e (inl none) live = absurd (subst (In g) none live)
  kept a x y g e (inr same) live = (x, e, subst (In g) same live)

  quiet : (t : Step) (a : ℕ) (y : File) (g : Grant) → file_at t.state.files a ≡ Some y → In g y.kept.grants →
      ((x : File) × (file_at s.files a ≡ Some x) × Ways s chosen i t.state.drives x y) ⊎ Else s chosen i y → WasLive s a g
  quiet t a y g e live (inl r) = kept a r.0 y g r.1 r.2.1 live
  quiet t a y g e live (inr (inl none)) = absurd (subst (In g) none live)
  quiet t a y g e live (inr (inr x)) =
      let number : x.0.kept.number ≡ a = sym x.2 ∙ number_at t.state.files a y e in
      kept a x.0 y g (ap (file_at s.files) (sym number) ∙ at_place s.files x.0 apart x.1) (inr x.3) live

  pub new_at_one : NewAtOne s (step s chosen i)
  new_at_one = by (step s chosen i) (ways_go s chosen i)
    where
      by : (t : Step) → FilesGo (Ways s chosen i) (Else s chosen i) s chosen i t → NewAtOne s t
      by t (Asked now q is same) = subst (NewAtOne s) (sym same) (q.file, asked now q)
      by t (Quiet all slots) = (0, λ a y g e live. inl (quiet t a y g e live (all a y e)))

-- ---- two files

-- No number is that of live grants of two files.
abbrev pub FilesApart : Server → Type 0
FilesApart s =
    (a b : ℕ) (x y : File) (g j : Grant) → file_at s.files a ≡ Some x → file_at s.files b ≡ Some y → In g x.kept.grants →
    In j y.kept.grants → g.number ≡ j.number → a ≡ b

low_before : (s : Server) → AreInOrder s → (a : ℕ) (g : Grant) → WasLive s a g → g.number < s.next_grant
low_before s order a g (x, there, live) = (order x (in_at s.files a x there)).below g live

pub step_keeps_apart : (s : Server) (chosen : List ℕ) (i : Input) → AreDistinct s.files → AreInOrder s → FilesApart s →
    FilesApart (step s chosen i).state
step_keeps_apart s chosen i distinct order apart a b x y g j ea eb ia ib same =
    let n = new_at_one s chosen i distinct in
    by n.0 (n.1 a x g ea ia) (n.1 b y j eb ib)
  where
    by : (n : ℕ) → WasLive s a g ⊎ ((s.next_grant ≤ g.number) × (a ≡ n)) →
        WasLive s b j ⊎ ((s.next_grant ≤ j.number) × (b ≡ n)) → a ≡ b
    by n (inl u) (inl v) = apart a b u.0 v.0 g j u.1 v.1 u.2 v.2 same
    by n (inl u) (inr v) = absurd (omega (arith, low_before s order a g u, v.0, same))
    by n (inr u) (inl v) = absurd (omega (arith, low_before s order b j v, u.0, same))
    by n (inr u) (inr v) = u.1 ∙ sym v.1

-- ---- at each moment

-- the files are distinct, their grants in order, and each number is that of one file
pub record AreNumbered (s : Server) : Type 0 where
  pub distinct : AreDistinct s.files
  pub order : AreInOrder s
  pub apart : FilesApart s

move_numbers : (w : World) (m : Move) → AreNumbered w.server → AreNumbered (move w m).world.server
move_numbers w m k = by (input_in w m.action) refl
  where
    by : (o : Option Input) → input_in w m.action ≡ o → AreNumbered (move w m).world.server
    by None none = subst AreNumbered (sym (server_rests w m none)) k
    by (Some i) is = record {
      distinct = (move_stays w m k.distinct).0;
      order = subst AreInOrder (sym (server_steps w m i is)) (each_step_orders w.server m.chosen i k.order);
      apart =
          subst FilesApart (sym (server_steps w m i is))
          (step_keeps_apart w.server m.chosen i k.distinct k.order k.apart);
    }

pub are_numbered : (w : World) → IsReached w → AreNumbered w.server
are_numbered w r =
    always (λ (v : World). AreNumbered v.server) (record {
      starts = record {
        distinct = tt;
        order = λ f i. absurd i;
        apart = λ a b x y g j ea eb ia ib same. absurd (in_at [] a x ea);
      };
      moves = move_numbers;
    }) w r
