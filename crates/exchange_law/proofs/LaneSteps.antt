-- Whatever comes to a client keeps what holds of its grants and of what its call awaits, where each grant that it takes
-- is new to its objects.
use Rattle.std.proofs.Common.{◌≡◌, ◌≢◌, ◌⊎◌, ℕ, Bool, true, false, List, [], ◌∷◌, ◌+◌, Option, Some, None, Ok, refl, sym, subst, inl, inr, if◌then◌else◌}
use Rattle.server_rules.specs.Laws.{In}
use Rattle.server_rules.proofs.Members.{in_either}
use Rattle.exchange_law.specs.ClientState.{Client, Call, CallOp, Held, Awaited, Get, Starts, Needs, Outcome, Done, ToDrive, Request, Answer, Command}
use Rattle.client_rules.specs.Grants.{held_of, put_held}
use Rattle.client_rules.specs.Layouts.{taken}
use Rattle.client_rules.specs.Io.{awaited_in}
use Rattle.client_rules.specs.Commands.{placed, before, in_order}
use Rattle.client_rules.specs.Replies.{answers, replied, timed_out}
use Rattle.client_rules.specs.Answers.{not_granted, on_commit, on_report}
use Rattle.client_rules.specs.Going.{quiet, phased, with_held, over, by_turn}
use Rattle.client_rules.specs.Messages.{still, on_call, TakesAnswer, awaited_of, takes}
use Rattle.client_rules.specs.Steps.{all_due, outstanding_sends, resent}
use Rattle.client_rules.specs.History.{Input, Hears, step}
use Rattle.client_rules.proofs.Numbering.{nonces_rise}
use Rattle.client_rules.proofs.ReadMoves.{found_in}
use Rattle.exchange_law.proofs.Kept.{replied_kept, timed_out_kept, on_commit_kept}
use Rattle.exchange_law.proofs.LaneMoves.{is_in, replied_well, timed_well, on_commit_well}
use Rattle.exchange_law.proofs.LaneGrowing.{With, HeldFine, Single}
use Rattle.exchange_law.proofs.Fine.{AreBeside, HeldsFine, AreSent, ClientFine, fewer, put_fine}
use Rattle.exchange_law.proofs.LaneGoing.{DoneFine, StepFine, none_sent, plain_helds, empty_client, no_call, quiet_fine, moved_fine, in_commands, finished_fine, still_fine}
use Rattle.history_law.specs.Turns.{with_start, TurnCases}
use Rattle.history_law.proofs.Turns.{each_refusal, each_answer, each_turn}

-- ---- grants that are new

-- to its objects
pub record IsNewIn (S : Command → Type 0) (hs : List Held) (h : Held) : Type 0 where
  pub nonces : HeldFine S h
  pub beside : (f : ℕ) (j : Held) → h.file ≢ f → held_of hs f ≡ Some j → AreBeside h j
  pub single : Single h

-- so is what a call takes from an answer while it awaits no drive
abbrev pub AnswerNew : (Command → Type 0) → Client → Answer → Type 0
AnswerNew S c a =
    (call : Call) → c.call ≡ Some call → awaited_in call.phase ≡ [] → (h : Held) → taken a call.op ≡ Ok h
    → IsNewIn S c.held h

abbrev pub InputNew : (Command → Type 0) → Client → Input → Type 0
InputNew S c (Hears from m) = (a : Answer) → takes c from m ≡ Some (TakesAnswer a) → AnswerNew S c a
InputNew S c i = Unit {0}

module _ (S : Command → Type 0) where
  -- ---- answers

  over_fine : (d : Done) (o : Outcome) → DoneFine S d → DoneFine S (over d o)
  over_fine d o f = record { client = no_call S (With S d.commands) d.client.held f.client.helds; fair = tt }

  phased_fine : (d : Done) (op : CallOp) → d.commands ≡ [] → DoneFine S d → DoneFine S (phased d op Starts)
  phased_fine d op none f = record {
    client = empty_client S (With S d.commands) d.client.held op Starts refl tt f.client.helds;
    fair = none;
  }

  refused_fine : (d : Done) (op : CallOp) (a : Answer) (tries : ℕ) → DoneFine S d
      → DoneFine S (by_turn d op (not_granted a tries))
  refused_fine d op a tries f =
      each_refusal a tries (λ t. DoneFine S (by_turn d op t)) (record {
        again = λ few. record {
          client = empty_client S (With S d.commands) d.client.held op (Needs (Get (tries + 1))) refl tt f.client.helds;
          fair = tt;
        };
        no_file = over_fine d _ f;
        is_held = over_fine d _ f;
        is_fenced = over_fine d _ f;
        none_given = over_fine d _ f;
        other = over_fine d _ f;
      })

  granted_fine : (d : Done) (op : CallOp) (h : Held) → d.commands ≡ [] → IsNewIn S d.client.held h → DoneFine S d
      → DoneFine S (phased (with_held d h) op Starts)
  granted_fine d op h none n f =
      let helds : HeldsFine S (put_held d.client.held h) =
      put_fine S d.client.held h (plain_helds S d.commands d.client.held f.client.helds) n.nonces n.single n.beside in
      record {
        client =
            subst (λ xs. ClientFine (With S xs) (put_held d.client.held h) (Some (record { op = op; phase = Starts })))
            (sym none)
            (none_sent S (put_held d.client.held h) _ (empty_client S S (put_held d.client.held h) op Starts refl tt
            helds));
        fair = none;
      }

  answered_fine : (d : Done) (a : Answer) → d.commands ≡ []
      → ((call : Call) → d.client.call ≡ Some call → awaited_in call.phase ≡ [] → (h : Held) → taken a call.op ≡ Ok h
      → IsNewIn S d.client.held h) → DoneFine S d → DoneFine S (on_call d d.client.call a)
  answered_fine d a none new f =
      each_answer d a (DoneFine S) (record {
        stays = f;
        returned = λ op is. phased_fine d op none f;
        granted = λ op tries h is took. granted_fine d op h none (new _ is refl h took) f;
        unusable = λ op tries w is took. over_fine d _ f;
        refused = λ op tries is. refused_fine d op a tries f;
        committed = λ op timed h is held.
            moved_fine S d op h (on_commit h op a timed) [] held (nonces_rise.committed h op a timed)
            (on_commit_kept h op a timed) (on_commit_well h [] op a timed) (λ x i. absurd i) (λ x i w b. absurd i)
            (λ x i. absurd i) (plain_helds S d.commands d.client.held f.client.helds);
        reported = λ op timed is. over_fine d (on_report op a timed) f;
        closed = λ op o report is. over_fine d o f;
      })

  -- ---- what is sent again

  placed_in : (a x : Awaited) (xs : List Awaited) → In x (placed a xs) → (x ≡ a) ⊎ In x xs
  unfolding placed
  placed_in a x [] (inl e) = inl e
  placed_in a x [] (inr i) = absurd i
  placed_in a x (b ∷ bs) i = either (before a.ask b.ask) i (λ j. placed_in a x bs j)
    where
      either : (q : Bool) → In x (if q then a ∷ b ∷ bs else b ∷ placed a bs)
          → (In x (placed a bs) → (x ≡ a) ⊎ In x bs) → (x ≡ a) ⊎ In x (b ∷ bs)
      either true (inl e) rest = inl e
      either true (inr i) rest = inr i
      either false (inl e) rest = inr (inl e)
      either false (inr i) rest = elim (rest i) [ inl e ↦ inl e | inr j ↦ inr (inr j) ]

  ordered_in : (x : Awaited) (xs : List Awaited) → In x (in_order xs) → In x xs
  unfolding in_order
  ordered_in x [] i = i
  ordered_in x (a ∷ xs) i = elim (placed_in a x (in_order xs) i) [ inl e ↦ inl e | inr j ↦ inr (ordered_in x xs j) ]

  outstanding_not : (o : Option Request) (d : ℕ) (y : Command) → In (ToDrive d y) (outstanding_sends o) → ⊥
  outstanding_not None d y i = i
  outstanding_not (Some r) d y (inl e) = cc e
  outstanding_not (Some r) d y (inr i) = i

  again : (xs : List Awaited) (y : Command) → AreSent S xs → With S xs y → S y
  again xs y sent (inl s) = s
  again xs y sent (inr (x, i, e)) = subst S e (sent x i)

  resent_fine : (c : Client) → ClientFine S c.held c.call → StepFine S (record (still c) { sends = resent c })
  unfolding resent
  resent_fine c f = record {
    commands = awaited_of c.call;
    client =
        fewer S (With S (awaited_of c.call)) (λ y t. again (awaited_of c.call) y f.sent t) c.held c.call f
        (λ x i. inl (f.sent x i));
    sends = λ d y i. elim (in_either (ToDrive d y) (outstanding_sends c.outstanding) _ i) [
      | inl j ↦ absurd (outstanding_not c.outstanding d y j)
      | inr j ↦
          let r = in_commands S (in_order (awaited_of c.call)) d y j in
          (r.0, ordered_in r.0 (awaited_of c.call) r.1, r.2)
    ];
  }

  -- ---- any step

  called_fine : (c : Client) (call : Call) → c.call ≡ Some call → ClientFine S c.held c.call
      → ClientFine S c.held (Some call)
  called_fine c call is f = subst (λ (o : Option Call). ClientFine S c.held o) is f

  cases : (c : Client) (i : Input) → InputNew S c i → ClientFine S c.held c.call → TurnCases c i (StepFine S)
  cases c i new f = let x = quiet_fine S c f in record {
    rests = still_fine S c f;
    nothing = λ op is e.
        let s = still_fine S c f in record { commands = s.commands; client = s.client; sends = s.sends };
    called = λ op is none can.
        finished_fine S _ (quiet_fine S (with_start c op) (empty_client S S c.held op Starts refl tt f.helds));
    answered = λ a is.
        finished_fine S _ (answered_fine (quiet (record c { outstanding = None })) a refl
        (subst (InputNew S c) is.is new a is.takes_it) (record { client = x.client; fair = x.fair }));
    replied = λ drive q call h a is.
        let g = called_fine c call is.call_is f in
        finished_fine S _ (moved_fine S (quiet c) call.op h (replied h call.op call.phase a q) (awaited_in call.phase)
        is.held (nonces_rise.replied h call.op call.phase a q) (replied_kept h call.op call.phase a q)
        (replied_well h call.op call.phase a q g.call.fine
        (is_in a (awaited_in call.phase) (found_in (answers drive q) (awaited_in call.phase) a is.awaits)))
        (g.call.of h is.held) g.call.latest g.sent g.helds);
    unheld = finished_fine S _ x;
    recalled = λ q is. finished_fine S _ (record { client = x.client; fair = x.fair });
    unmatched = λ q is. finished_fine S _ (record { client = x.client; fair = x.fair });
    timed = λ n call h a xs is.
        let g = called_fine c call is.call_is f in
        finished_fine S _ (moved_fine S (quiet c) call.op h (timed_out h call.op call.phase n a xs)
        (awaited_in call.phase) is.held (nonces_rise.timed h call.op call.phase n a xs)
        (timed_out_kept h call.op call.phase n a xs) (timed_well h call.op call.phase n a xs g.call.fine)
        (g.call.of h is.held) g.call.latest g.sent g.helds);
    leaves = λ is.
        finished_fine S (quiet (record c { due = all_due c.due c.held })) (record { client = x.client; fair = x.fair });
    resends = λ is. resent_fine c f;
  }

  pub step_fine : (c : Client) (i : Input) → InputNew S c i → ClientFine S c.held c.call → StepFine S (step c i)
  step_fine c i new f = each_turn c i (StepFine S) (cases c i new f)
