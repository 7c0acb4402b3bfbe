-- An answer is taken: the machine's client waits for nothing then.
use Rattle.std.proofs.Common.{◌≡◌, ◌==◌, ℕ, Bool, true, false, [], ◌∷◌, Option, Some, None, refl, sym, ap, subst, ◌∙◌, inl, inr, if◌then◌else◌}
use Rattle.std.proofs.lemmas.Bool.{cases_eq, eq-eqb, ne_eqb}
use Rattle.data_map.specs.declared.check.RawMap.{RawMap}
use Rattle.osd_lists.specs.declared.node.Node.{Node}
use Rattle.osd_lists.specs.declared.node.Node.TheVariants as node
use Rattle.layout_ops.specs.declared.args.Args.{Args}
use Rattle.layout_ops.specs.declared.args.Args.TheVariants as args
use Rattle.layout_ops.specs.declared.statuses.TheConstants.{NFS4_OK}
use Rattle.layout_ops.specs.declared.messages.Answer.{Answer}
use Rattle.server_rules.specs.Laws.{last_of}
use Rattle.client_rules.specs.Answers.{is_loss_taken}
use Rattle.client_rules.specs.Messages.{Message, Replies, Answers, Recalls, TakesAnswer, TakesRecall, takes, answer_taken}
use Rattle.client_rules.specs.Results.{status_of}
use Rattle.world_history.specs.ServerNames.{Slot}
use Rattle.world_history.specs.ClientNames.{Client, Request, Phase, Recall}
use Rattle.fence_law.specs.State.{State, Grant, RequestKind}
use Rattle.fence_law.specs.State.{Event as event}
use Rattle.fence_law.specs.Machine.{after, after_all}
use Rattle.fence_law.proofs.Words.{updated_same}
use Rattle.exchange_law.proofs.LatestLaw.{reply_never}
use Rattle.file_simulation.specs.EventLists.{entry_of}
use Rattle.file_simulation.specs.Requests.{RequestClass, Own, Other, phase_of, return_class, class_by, class_of, kept_by, ClassIs, IsOutstanding}
use Rattle.file_simulation.specs.ClientEvents as table
use Rattle.relation_law.specs.Requests.{HasRested}

-- ---- an answer that is taken is to the outstanding request

awaited_one : (x : Client) (b : Answer) (o : Option Request) (a : Answer) → answer_taken x b o ≡ Some (TakesAnswer a)
    → (r : Request) × (o ≡ Some r)
awaited_one x b None a e = absurd (cc e)
awaited_one x b (Some r) a e = (r, refl)

no_recall : (b : Bool) (q : Recall) (a : Answer) → (if b then Some (TakesRecall q) else None) ≡ Some (TakesAnswer a) → ⊥
no_recall true q a e = cc e
no_recall false q a e = cc e

pub answered_one : (x : Client) (from : Node) (b : Message) (a : Answer) → takes x from b ≡ Some (TakesAnswer a)
    → (r : Request) × (x.outstanding ≡ Some r)
unfolding takes
answered_one x (node.Drive d) (Replies q) a e = absurd (reply_never q _ a e)
answered_one x (node.Drive d) (Answers b) a e = absurd (cc e)
answered_one x (node.Drive d) (Recalls q) a e = absurd (cc e)
answered_one x node.Server (Replies q) a e = absurd (cc e)
answered_one x node.Server (Answers b) a e = awaited_one x b x.outstanding a e
answered_one x node.Server (Recalls q) a e = absurd (no_recall (q.client == x.number) q a e)
answered_one x (node.Client c) b a e = absurd (cc e)

-- ---- the events of an answer

module _ (file : ℕ) (m : RawMap) (s : State) (c : ℕ) (x : Client) (p : Option Slot) (r : Request)
    (slot : s.slot c ≡ last_of p) (served : last_of p ≡ r.sequence) (w : IsOutstanding file m s p c x r) where
  in_step : s.slot c ≡ s.sequence c
  in_step = slot ∙ served ∙ w.sequence

  -- the machine counts it as answered
  counted : (t : State) → ClassIs m s c x (kept_by p r) Other → t.waiting c ≡ s.waiting c → t.away c ≡ false
      → t.slot c ≡ s.slot c → t.sequence c ≡ s.sequence c → HasRested c s t
  counted t away waits home same taken = record {
    rests = record { waiting = waits ∙ away.waiting; away = home; served = same ∙ in_step ∙ sym taken };
    slot = same;
    sequence = taken;
  }

  -- the machine's client takes it
  own : (t : State) (kind : RequestKind) → ClassIs m s c x (kept_by p r) (Own kind) → t.waiting c ≡ false
      → t.away c ≡ s.away c → t.slot c ≡ s.slot c → t.sequence c ≡ s.sequence c → HasRested c s t
  own t kind waits free home same taken = record {
    rests = record { waiting = free; away = home ∙ waits.away; served = same ∙ in_step ∙ sym taken };
    slot = same;
    sequence = taken;
  }

  other : ClassIs m s c x (kept_by p r) Other → HasRested c s (after s (event.TakesOther c))
  other away = counted (after s (event.TakesOther c)) away refl (updated_same s.away c false) refl refl

  takes_one : (kind : RequestKind) → ClassIs m s c x (kept_by p r) (Own kind) → (o : Option Grant) (size : ℕ)
      → HasRested c s (after s (event.Takes c o size))
  takes_one kind waits o size =
      own (after s (event.Takes c o size)) kind waits (updated_same s.waiting c false) refl refl refl

  module _ (a : Answer) where
    committed : ClassIs m s c x (kept_by p r) Other → HasRested c s (after_all s (table.commit_answered s c a))
    committed away = either (status_of a.results == NFS4_OK)
      where
        either : (b : Bool) → HasRested c s
            (after_all s (if b then event.TakesOther c ∷ (event.TakesCommit c (entry_of s c) ∷ [])
            else event.TakesOther c ∷ (event.TakesRefusal c (entry_of s c) ∷ [])))
        either true = counted _ away refl (updated_same s.away c false) refl refl
        either false = counted _ away refl (updated_same s.away c false) refl refl

    reported : ClassIs m s c x (kept_by p r) Other → HasRested c s (after_all s (table.report_answered s c a))
    reported away = either (is_loss_taken a)
      where
        either : (b : Bool) → HasRested c s
            (after_all s (if b then event.TakesOther c ∷ []
            else event.TakesOther c ∷ (event.Breaks c (entry_of s c) ∷ (event.Forgets c ∷ []))))
        either true = other away
        either false = counted _ away refl (updated_same s.away c false) refl refl

    returned : (k : RequestClass) → ClassIs m s c x (kept_by p r) k → HasRested c s (after_all s (table.return_answered s c a k))
    returned (Own kind) waits = takes_one kind waits None a.size
    returned Other away = reported away

    here : (o : Option Phase) (b : Args) → ClassIs m s c x (kept_by p r) (class_by o b)
        → HasRested c s (after_all s (table.answered_here s c a o b))
    here o (args.LayoutGet y) waits = takes_one _ waits (table.grant_with s c a) a.size
    here o (args.LayoutCommit y) away = committed away
    here o (args.LayoutReturn y) waits = returned (return_class o) waits

    -- behind the answer the client waits for nothing
    pub answer_taken_rests : HasRested c s (after_all s (table.answered s file c x a (Some r)))
    unfolding class_of
    answer_taken_rests = elim (cases_eq r.file file) [
      | inl is ↦
          subst (λ (b : Bool). HasRested c s (after_all s (if b then table.answered_here s c a (phase_of x.call) r.args
          else event.TakesOther c ∷ []))) (sym (eq-eqb r.file file is))
          (here (phase_of x.call) r.args
          (subst (ClassIs m s c x (kept_by p r))
          (ap (λ (b : Bool). if b then class_by (phase_of x.call) r.args else Other) (eq-eqb r.file file is)) w.waits))
      | inr not_ ↦
          subst (λ (b : Bool). HasRested c s (after_all s (if b then table.answered_here s c a (phase_of x.call) r.args
          else event.TakesOther c ∷ []))) (sym (ne_eqb r.file file not_))
          (other (subst (ClassIs m s c x (kept_by p r))
          (ap (λ (b : Bool). if b then class_by (phase_of x.call) r.args else Other) (ne_eqb r.file file not_)) w.waits))
    ]
