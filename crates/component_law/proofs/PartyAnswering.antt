-- What a client knows of sizes behind an answer.
use Rattle.std.proofs.Common.{◌≡◌, ◌≢◌, ◌⊎◌, ◌==◌, ℕ, Bool, true, false, List, [], ◌∷◌, Option, Some, None, Result, Ok, Err, inl, inr, refl, sym, ap, subst, ◌∙◌, if◌then◌else◌}
use Rattle.std.proofs.lemmas.Bool.{cases_eq, eq-eqb, ne_eqb}
use Rattle.layout_types.specs.declared.err.LayoutErr.{LayoutErr}
use Rattle.layout_types.specs.declared.layout.Layout.{Layout}
use Rattle.layout_types.specs.Grammar.{whole}
use Rattle.layout_types.specs.Reading.{layout_in}
use Rattle.layout_ops.specs.declared.messages.Answer.{Answer}
use Rattle.layout_ops.specs.declared.results.LayoutSegment.{LayoutSegment}
use Rattle.layout_ops.specs.declared.results.LayoutGetOk.{LayoutGetOk}
use Rattle.layout_ops.specs.declared.statuses.TheConstants.{NFS4_OK}
use Rattle.world_history.specs.ClientNames.{Client, Call, CallOp, Held, Reach, Listed, Why, TimedOut, Need, First, Get, Commit, Report, Close, Phase, Starts, Needs, Waits, Reads, Probes, Gathers, Scatters, Turn, Done}
use Rattle.client_rules.specs.Answers.{on_commit, not_granted}
use Rattle.client_rules.specs.Calls.{file_of}
use Rattle.client_rules.specs.Going.{quiet, by_turn, moved, with_held}
use Rattle.client_rules.specs.Grants.{held_of}
use Rattle.client_rules.specs.Layouts.{first_why, fresh, with_listed, unless_why, with_body, reach_of, one_layout, in_layouts, taken}
use Rattle.client_rules.specs.Messages.{answered_get, commit_under, on_need, on_phase, on_call}
use Rattle.client_rules.specs.Requests.{grant_in}
use Rattle.client_rules.specs.Results.{layouts_in, status_of}
use Rattle.client_rules.proofs.HeldGrants.{held_file}
use Rattle.history_law.proofs.Taking.{enough_same}
use Rattle.component_law.proofs.Client.{IsSized, AreSized, put_over, turn_sized, same_call}

-- ---- the size that is taken

listed_size : (a : Answer) (n : ℕ) (op : CallOp) (g : Reach) (l : Layout) (o : Option (List Listed)) (h : Held)
    → with_listed a n op g l o ≡ Ok h → h.size ≡ a.size
listed_size a n op g l None h e = absurd (cc e)
listed_size a n op g l (Some ls) h e =
    ap (λ (x : Held). x.size) (sym (enough_same (fresh (file_of op) n a.size g l.olo_map ls) h op e))

why_size : (a : Answer) (n : ℕ) (op : CallOp) (g : Reach) (l : Layout) (w : Option Why) (h : Held)
    → unless_why a n op g l w ≡ Ok h → h.size ≡ a.size
why_size a n op g l (Some w) h e = absurd (cc e)
why_size a n op g l None h e = listed_size a n op g l _ h e

body_size : (a : Answer) (n : ℕ) (op : CallOp) (g : Reach) (r : Result Layout LayoutErr) (h : Held)
    → with_body a n op g r ≡ Ok h → h.size ≡ a.size
body_size a n op g (Err x) h e = absurd (cc e)
body_size a n op g (Ok l) h e = why_size a n op g l (first_why g a.size op l) h e

one_size : (a : Answer) (n : ℕ) (op : CallOp) (gs : List LayoutSegment) (h : Held) → one_layout a n op gs ≡ Ok h
    → h.size ≡ a.size
one_size a n op [] h e = absurd (cc e)
one_size a n op (g ∷ []) h e = body_size a n op (reach_of a.size op g) (whole layout_in g.body) h e
one_size a n op (g ∷ f ∷ gs) h e = absurd (cc e)

in_size : (a : Answer) (op : CallOp) (o : Option LayoutGetOk) (h : Held) → in_layouts a op o ≡ Ok h → h.size ≡ a.size
in_size a op None h e = absurd (cc e)
in_size a op (Some ok) h e = one_size a (grant_in ok.stateid) op ok.layouts h e

pub taken_size : (a : Answer) (op : CallOp) (h : Held) → taken a op ≡ Ok h → h.size ≡ a.size
unfolding taken
taken_size a op h e = in_size a op (layouts_in a.results) h e

-- ---- an answer

-- the call waits for this
abbrev pub WaitsFor : Client → CallOp → Need → Type 0
WaitsFor c op need = c.call ≡ Some (record { op = op; phase = Waits need })

-- the answer tells the size of this file
pub record Tells (c : Client) (a : Answer) (file : ℕ) : Type 0 where
  pub op : CallOp
  pub timed : List TimedOut
  pub call : WaitsFor c op (Commit timed)
  pub file_is : file_of op ≡ file
  pub done : status_of a.results ≡ NFS4_OK

module _ (Q : (file size : ℕ) → Type 0) (c : Client) (a : Answer)
    (old : (file : ℕ) (h : Held) → held_of c.held file ≡ Some h → Q file h.size ⊎ Tells c a file)
    (new : (op : CallOp) (tries : ℕ) (h : Held) → WaitsFor c op (Get tries) → taken a op ≡ Ok h → Q h.file h.size)
    (told : (op : CallOp) (timed : List TimedOut) → WaitsFor c op (Commit timed) → Q (file_of op) a.size) where
  abbrev free : Client
  free = record c { outstanding = None }

  abbrev Sized : Done → Type 0
  Sized d = IsSized Q None d.client

  -- where the call waits for no LAYOUTCOMMIT
  all_old : ((op : CallOp) (timed : List TimedOut) → WaitsFor c op (Commit timed) → ⊥) → AreSized Q None c.held
  all_old none file h e = by (old file h e)
    where
      by : Q file h.size ⊎ Tells c a file → Q file h.size
      by (inl q) = q
      by (inr t) = absurd (none t.op t.timed t.call)

  other_phase : (op : CallOp) (p : Phase) → c.call ≡ Some (record { op = op; phase = p })
      → ((timed : List TimedOut) → p ≡ Waits (Commit timed) → ⊥) → AreSized Q None c.held
  other_phase op p e not =
      all_old (λ k timed call. not timed
      (ap (λ (y : Call). y.phase) (same_call _ _ (sym e ∙ call))))

  left : (call : Option Call) → AreSized Q None c.held → IsSized Q None (record free { call = call })
  left call all = record { helds = all; asked = tt; stays = λ r e. absurd (cc e) }

  turned_sized : (op : CallOp) (t : Turn) → AreSized Q None c.held → Sized (by_turn (quiet free) op t)
  turned_sized op t all = turn_sized Q None (quiet free) op t all tt (λ r e. absurd (cc e))

  either : (b : Bool) (d e : Done) → (b ≡ true → Sized d) → (b ≡ false → Sized e) → Sized (if b then d else e)
  either true d e x y = x refl
  either false d e x y = y refl

  get_taken : (op : CallOp) (r : Result Held Why) → AreSized Q None c.held
      → ((h : Held) → r ≡ Ok h → Q h.file h.size) → Sized (answered_get (quiet free) op r)
  get_taken op (Err w) all it = left None all
  get_taken op (Ok h) all it = record {
    helds = put_over Q None c.held h (λ f x other e. all f x e) (it h refl);
    asked = tt;
    stays = λ r e. absurd (cc e);
  }

  get_goes : (op : CallOp) (tries : ℕ) → WaitsFor c op (Get tries) → Sized (on_need (quiet free) op (Get tries) a)
  get_goes op tries e =
      let all = other_phase op (Waits (Get tries)) e (λ timed f. cc f) in
      either (status_of a.results == NFS4_OK) _ _
      (λ t. get_taken op (taken a op) all (λ h is. new op tries h e is))
      (λ z. turned_sized op (not_granted a tries) all)

  -- what the call's file is
  same_op : (op k : CallOp) (p q : Phase) → c.call ≡ Some (record { op = op; phase = p })
      → c.call ≡ Some (record { op = k; phase = q }) → op ≡ k
  same_op op k p q e f = ap (λ (y : Call). y.op) (same_call _ _ (sym e ∙ f))

  commit_moves : (op : CallOp) (timed : List TimedOut) (h : Held) → WaitsFor c op (Commit timed)
      → held_of c.held (file_of op) ≡ Some h → Sized (moved (quiet free) op (on_commit h op a timed))
  unfolding on_commit
  commit_moves op timed h e found = elim (cases_eq (status_of a.results) NFS4_OK) [
    | inl ok ↦
        let file = held_file c.held (file_of op) h found in
        rw (eq-eqb (status_of a.results) NFS4_OK ok)
        (turn_sized Q None (with_held (quiet free) (record h { size = a.size })) op _
        (put_over Q None c.held (record h { size = a.size })
        (λ f x other at. others f x at (λ (i : file_of op ≡ f). other (file ∙ i)))
        (subst (λ (n : ℕ). Q n a.size) (sym file) (told op timed e))) tt (λ r z. absurd (cc z)))
    | inr not ↦
        let file = held_file c.held (file_of op) h found in
        rw (ne_eqb (status_of a.results) NFS4_OK not)
        (turn_sized Q None (with_held (quiet free) h) op _
        (put_over Q None c.held h (λ f x other at. without not f x at)
        (subst (λ (n : ℕ). Q n h.size) (sym file) (without not (file_of op) h found))) tt (λ r z. absurd (cc z)))
  ]
    where
      others : (f : ℕ) (x : Held) → held_of c.held f ≡ Some x → file_of op ≢ f → Q f x.size
      others f x at other = by (old f x at)
        where
          by : Q f x.size ⊎ Tells c a f → Q f x.size
          by (inl q) = q
          by (inr t) =
              absurd (other (ap file_of (same_op op t.op (Waits (Commit timed)) (Waits (Commit t.timed)) e t.call)
              ∙ t.file_is))

      without : (status_of a.results ≡ NFS4_OK → ⊥) → (f : ℕ) (x : Held) → held_of c.held f ≡ Some x → Q f x.size
      without not f x at = by (old f x at)
        where
          by : Q f x.size ⊎ Tells c a f → Q f x.size
          by (inl q) = q
          by (inr t) = absurd (not t.done)

  commit_goes : (op : CallOp) (timed : List TimedOut) (o : Option Held) → WaitsFor c op (Commit timed)
      → held_of c.held (file_of op) ≡ o → Sized (commit_under (quiet free) op a (Commit timed) o)
  commit_goes op timed (Some h) e found = commit_moves op timed h e found
  commit_goes op timed None e found = record { helds = all; asked = tt; stays = λ r z. absurd (cc z) }
    where
      all : AreSized Q None c.held
      all f x at = by (old f x at)
        where
          by : Q f x.size ⊎ Tells c a f → Q f x.size
          by (inl q) = q
          by (inr t) =
              let here : file_of op ≡ f =
              ap file_of (same_op op t.op (Waits (Commit timed)) (Waits (Commit t.timed)) e t.call) ∙ t.file_is in
              absurd (cc (sym found ∙ ap (held_of c.held) here ∙ at))

  need_goes : (op : CallOp) (need : Need) → WaitsFor c op need → Sized (on_need (quiet free) op need a)
  need_goes op First e = left _ (other_phase op (Waits First) e (λ timed f. cc f))
  need_goes op (Get tries) e = get_goes op tries e
  need_goes op (Commit timed) e = commit_goes op timed (held_of c.held (file_of op)) e refl
  need_goes op (Report timed) e = left None (other_phase op (Waits (Report timed)) e (λ t f. cc f))
  need_goes op (Close u report) e = left None (other_phase op (Waits (Close u report)) e (λ t f. cc f))

  phase_goes : (op : CallOp) (p : Phase) → c.call ≡ Some (record { op = op; phase = p })
      → Sized (on_phase (quiet free) op p a)
  phase_goes op (Waits need) e = need_goes op need e
  phase_goes op Starts e = left c.call (other_phase op Starts e (λ t f. cc f))
  phase_goes op (Needs need) e = left c.call (other_phase op (Needs need) e (λ t f. cc f))
  phase_goes op (Reads io) e = left c.call (other_phase op (Reads io) e (λ t f. cc f))
  phase_goes op (Probes io) e = left c.call (other_phase op (Probes io) e (λ t f. cc f))
  phase_goes op (Gathers io) e = left c.call (other_phase op (Gathers io) e (λ t f. cc f))
  phase_goes op (Scatters io queue) e = left c.call (other_phase op (Scatters io queue) e (λ t f. cc f))

  pub answer_goes : (o : Option Call) → c.call ≡ o → Sized (on_call (quiet free) o a)
  answer_goes None e = left c.call (all_old (λ op timed call. cc (sym e ∙ call)))
  answer_goes (Some call) e = phase_goes call.op call.phase e
