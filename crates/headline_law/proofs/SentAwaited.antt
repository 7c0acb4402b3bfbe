-- What a client's turn sends to drives its call awaits behind the turn.
use Rattle.std.proofs.Common.{◌≡◌, ℕ, [], Option, Some, None, refl, ap, subst}
use Rattle.osd_commands.specs.declared.commands.Command.{Command}
use Rattle.server_rules.specs.Laws.{In}
use Rattle.client_rules.specs.Going.{quiet, moved, begun, progressed}
use Rattle.client_rules.specs.History.{Input, step}
use Rattle.client_rules.specs.Messages.{Step, awaited_of, finished, no_match, obeys, on_call}
use Rattle.client_rules.specs.Replies.{replied, timed_out}
use Rattle.client_rules.specs.Steps.{all_due}
use Rattle.world_history.specs.ClientNames.{Awaited, Call, Client, Done, Starts, ToDrive}
use Rattle.history_law.specs.Turns.{TurnCases, with_start}
use Rattle.history_law.proofs.Turns.{each_turn, each_finish}
use Rattle.exchange_law.proofs.RefusalSending.{resent_awaited}
use Rattle.relation_law.specs.Working.{ClientWorks, DoneWorks, SentIn}
use Rattle.relation_law.proofs.ComponentsTurns.{in_sends}
use Rattle.relation_law.proofs.WorksRun.{answered_works, finishes, free_call, none_sent, replied_done, resting, timed_done}
use Rattle.headline_law.proofs.SentSince.{DoneSince, answered_since, at_phase, finished_since, replied_since, stays_since, timed_since}

module _ (x : Client) (i : Input) (w : ClientWorks x) where
  abbrev Any : Call → Type 0
  Any call = Unit {0}

  abbrev pub SendsAwaited : Step → Type 0
  SendsAwaited t =
      (n : ℕ) (y : Command) → In (ToDrive n y) t.sends →
      (a : Awaited) × In a (awaited_of t.client.call) × (a.command ≡ y)

  done_awaited : (d : Done) → DoneWorks d → DoneSince x i Any d → SendsAwaited (finished d)
  unfolding finished
  done_awaited d works since n y there =
      let r = in_sends 0 0 (λ (o : ℕ). o) (progressed (begun d)) n y there in
      (r.0, by (progressed (begun d)).client.call refl r.0 r.1, r.2)
    where
      all : DoneWorks (progressed (begun d))
      all = each_finish DoneWorks finishes d works

      ended : DoneSince x i Any (progressed (begun d))
      ended = finished_since x i Any d since

      by : (o : Option Call) → (progressed (begun d)).client.call ≡ o → (a : Awaited) → In a (progressed (begun d)).commands →
          In a (awaited_of o)
      by None none a j = absurd (subst (In a) (ended.ended none) j)
      by (Some call) at a j = subst (SentIn (progressed (begun d)).commands) at all.sent a j

  -- where the call stays
  still_awaited : (d : Done) → DoneWorks d → d.client.call ≡ x.call → d.commands ≡ [] → SendsAwaited (finished d)
  still_awaited d works same none = done_awaited d works (stays_since x i Any d same none (λ call is now. tt))

  cases : TurnCases x i SendsAwaited
  cases = record {
    rests = λ n y j. absurd j;
    nothing = λ op is empty n y j. absurd j;
    called = λ op is none can.
        done_awaited (quiet (with_start x op)) (record { call = free_call _ op Starts refl (λ z. z) tt; sent = λ b j. j })
        (at_phase x i Any (quiet (with_start x op)) op Starts refl (ap awaited_of none));
    answered = λ a q.
        done_awaited (on_call (quiet (record x { outstanding = None })) x.call a) (answered_works x a w x.call)
        (answered_since x i Any a (λ call is now. tt) x.call refl);
    replied = λ drive q call h a r.
        done_awaited (moved (quiet x) call.op (replied h call.op call.phase a q)) (replied_done x w i drive q call h a r)
        (replied_since x i Any call.op drive q h a call.phase r (λ done now. tt));
    unheld = still_awaited (quiet x) (resting x w x refl refl) refl refl;
    recalled = λ q is. still_awaited (obeys x q) (record { call = w; sent = none_sent [] x.call refl }) refl refl;
    unmatched = λ q is. still_awaited (no_match x q) (record { call = w; sent = none_sent [] x.call refl }) refl refl;
    timed = λ n call h a xs r.
        done_awaited (moved (quiet x) call.op (timed_out h call.op call.phase n a xs)) (timed_done x w i n call h a xs r)
        (timed_since x i Any call.op h n a xs call.phase r.call_is (λ z at now. tt));
    leaves = λ is.
        still_awaited (quiet (record x { due = all_due x.due x.held }))
        (record { call = w; sent = none_sent [] x.call refl }) refl refl;
    resends = λ is n y j. let r = resent_awaited x n y j in (r.awaited, r.there, r.command);
  }

  pub sends_awaited : SendsAwaited (step x i)
  sends_awaited = each_turn x i SendsAwaited cases
