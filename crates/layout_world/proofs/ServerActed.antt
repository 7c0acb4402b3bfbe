-- A step of the server of the code is what the world does there.
use Rattle.std.proofs.Common.{◌≡◌, ℕ, List, [], Option, Some, None, refl, sym, ap, subst, ◌∙◌}
use Rattle.std.specs.List.{filter_map}
use Rattle.osd_lists.specs.declared.node.Node.{Node}
use Rattle.server_rules.specs.declared.server.Server.{Server}
use Rattle.server_rules.specs.Files.{Step as RulesStep}
use Rattle.server_rules.specs.Messages.{Message as ServerMessage}
use Rattle.server_rules.specs.Envelopes.{on_message_in, on_bytes}
use Rattle.server_rules.specs.Making.{set_format}
use Rattle.server_rules.specs.Messages.{resend}
use Rattle.server_rules.specs.Orders.{ordered}
use Rattle.server_rules.specs.Openings.{crash, reopen}
use Rattle.server_rules.specs.Zoning.{put_in_zone}
use Rattle.server_rules.specs.History.{Input, Obeys, Zones, Formats, Resends, Crashes, Opens, step}
use Rattle.server_requests.specs.declared.outgoing.Sent.{Sent}
use Rattle.server_requests.specs.Sending.{all_sent}
use Rattle.server_state.specs.declared.step.Step.{Step}
use Rattle.server_state.specs.States.{Did}
use Rattle.scenario_text.specs.declared.line.Delivery.TheVariants as delivery
use Rattle.world_history.specs.ServerNames.{OrderKind}
use Rattle.world_history.specs.declared.messages.Message.{Message}
use Rattle.world_history.specs.State.{World, with_server}
use Rattle.world_history.specs.Spelled.{spelled}
use Rattle.world_history.specs.Names.{known_note_line}
use Rattle.world_history.specs.Handed.{server_takes, for_server}
use Rattle.world_history.specs.Moves.{gives}
use Rattle.world_network.specs.declared.acts.Act.{Act}
use Rattle.world_network.specs.Acts.{IsAct, IsHanded, IsDone, nothing}
use Rattle.layout_world.specs.ServerState.{WorldServerState}
use Rattle.layout_world.specs.Posting.{postings}
use Rattle.layout_world.specs.ServerActing.{Acts, Does, Gives, Hears}
use Rattle.layout_world.proofs.Posted.{posts_are}

pub same_state : {a b : WorldServerState} → a ≡ b → a.state ≡ b.state
same_state e = ap (λ (s : WorldServerState). s.state) e

-- what a step of the code comes to is that of the rules' step
pub acts_as : (out : Step) (before : Server) (s : RulesStep) (new : WorldServerState) (act : Act) → Did out before s
    → new.state ≡ before → act.told ≡ filter_map known_note_line out.notes → act.posts ≡ postings out.sends
    → new.mended ≡ out.mended → Acts s new act
acts_as out before s new act d e told posts mended = record {
  state = e ∙ d.state;
  act_is = record {
    lines = told ∙ ap (λ ns. filter_map known_note_line ns) d.notes;
    sends = posts ∙ ap (λ ss. postings ss) d.sends ∙ posts_are s.sends;
  };
  mended = mended ∙ d.mended;
}

-- ---- something to do

gave : (w : World) (chosen : List ℕ) (i : Input) (new : WorldServerState) (act : Act)
    → Acts (step w.server chosen i) new act → IsDone (gives w chosen i) (with_server w new.state) act
unfolding gives
gave w chosen i new act a = record { world = ap (λ s. with_server w s) (sym a.state); act = a.act_is }

pub given : (old : Server) (chosen : List ℕ) (i : Input) (new : WorldServerState) (act : Act)
    → Acts (step old chosen i) new act → Gives old i new act
given old chosen i new act a = record {
  chosen = chosen;
  done = λ w e. gave w chosen i new act (subst (λ s. Acts (step s chosen i) new act) (sym e) a);
  mended = a.mended;
}

-- ---- a message

-- what the world does with the message that it reads
took : (w : World) (chosen : List ℕ) (from : Node) (o : Option ServerMessage) (new : WorldServerState) (act : Act)
    → Acts (on_message_in w.server w.clock chosen from o) new act
    → IsHanded (server_takes w chosen from o) (with_server w new.state) (record { receipt = delivery.Taken; act = act })
took w chosen from None new act a = record {
  world = ap (λ s. with_server w s) (sym a.state);
  receipt = refl;
  act = a.act_is;
}
took w chosen from (Some m) new act a = record {
  world = ap (λ s. with_server w s) (sym a.state);
  receipt = refl;
  act = a.act_is;
}

hears_in : (w : World) (m : Message) (chosen : List ℕ) (old : Server) (now : ℕ) (from : Node) (bytes : List ℕ)
    (new : WorldServerState) (act : Act) → Acts (on_bytes old now chosen from bytes) new act
    → w.server ≡ old → w.clock ≡ now → m.from ≡ from → spelled m.body ≡ bytes
    → IsHanded (server_takes w chosen m.from (for_server m)) (with_server w new.state)
    (record { receipt = delivery.Taken; act = act })
hears_in w m chosen old now from bytes new act a e f g h =
    took w chosen m.from (for_server m) new act (rw (e, f, g, h) a)

pub heard : (old : Server) (now : ℕ) (chosen : List ℕ) (from : Node) (bytes : List ℕ) (new : WorldServerState)
    (act : Act) → Acts (on_bytes old now chosen from bytes) new act
    → Hears old now from bytes new (record { receipt = delivery.Taken; act = act })
heard old now chosen from bytes new act a = record {
  chosen = chosen;
  heard = λ w m e f g h. hears_in w m chosen old now from bytes new act a e f g h;
  mended = a.mended;
}

-- ---- what sends again, and what sends nothing

pub resent : (s : Server) (sends : List Sent) (act : Act) → sends ≡ all_sent (resend s) → act.told ≡ []
    → act.posts ≡ postings sends → Does s (λ w. gives w [] Resends) s act
unfolding gives
resent s sends act e told posts = λ w f. record {
  world = ap (λ x. with_server w x) f;
  act = record {
    lines = told;
    sends = rw f (posts ∙ ap (λ ss. postings ss) e ∙ posts_are (resend s));
  };
}

pub formatted : (old new : Server) (format : ℕ) → new ≡ set_format old format
    → Does old (λ w. gives w [] (Formats format)) new nothing
unfolding gives
formatted old new format e = λ w f. record {
  world = ap (λ s. with_server w (set_format s format)) f ∙ ap (λ s. with_server w s) (sym e);
  act = record { lines = refl; sends = refl };
}

pub zoned : (old new : Server) (drive zone : ℕ) → new ≡ record old { drives = put_in_zone old.drives drive zone }
    → Does old (λ w. gives w [] (Zones drive zone)) new nothing
unfolding gives
zoned old new drive zone e = λ w f. record {
  world = ap (λ s. with_server w (record s { drives = put_in_zone s.drives drive zone })) f ∙ ap (λ s. with_server w s) (sym e);
  act = record { lines = refl; sends = refl };
}

-- ---- as the code has it

pub ordered_by : (out : Step) (old core mid : Server) (kind : OrderKind) (n target : ℕ) (chosen : List ℕ)
    (new : WorldServerState) (act : Act) → core ≡ old → n ≡ target → Did out mid (ordered core chosen kind n).step
    → ((s : RulesStep) → Did out mid s → Acts s new act) → Gives old (Obeys kind target) new act
ordered_by out old core mid kind n target chosen new act e f d h =
    given old chosen (Obeys kind target) new act
    (subst (λ k. Acts (ordered old chosen kind k).step new act) f
    (subst (λ s. Acts (ordered s chosen kind n).step new act) e (h _ d)))

pub heard_by : (out : Step) (old core mid : Server) (now : ℕ) (chosen : List ℕ) (from : Node) (bytes : List ℕ)
    (new : WorldServerState) (act : Act) → core ≡ old → Did out mid (on_bytes core now chosen from bytes)
    → ((s : RulesStep) → Did out mid s → Acts s new act)
    → Hears old now from bytes new (record { receipt = delivery.Taken; act = act })
heard_by out old core mid now chosen from bytes new act e d h =
    heard old now chosen from bytes new act (subst (λ s. Acts (on_bytes s now chosen from bytes) new act) e (h _ d))

pub crashed_by : (old core : Server) (new : WorldServerState) (act : Act) → core ≡ old → new.state ≡ crash core
    → new.mended ≡ [] → act ≡ nothing → Gives old Crashes new act
crashed_by old core new act e f m a = given old [] Crashes new act (record {
  state = f ∙ ap crash e;
  act_is = subst (λ (x : Act). IsAct [] [] x) (sym a) (record { lines = refl; sends = refl });
  mended = m;
})

pub opened_by : (out : Step) (old core mid : Server) (new : WorldServerState) (act : Act) → core ≡ old
    → Did out mid (reopen core) → ((s : RulesStep) → Did out mid s → Acts s new act) → Gives old Opens new act
opened_by out old core mid new act e d h = given old [] Opens new act (subst (λ s. Acts (reopen s) new act) e (h _ d))
