-- Performing an act of the world is its move, for all parties.
use Rattle.std.proofs.Common.{◌≡◌, ◌≤◌, ◌++◌, ℕ, [], List, length, drop, map, Result, Ok, Err, refl, sym, ap, subst, ◌∙◌}
use Rattle.std.specs.Prelude.{OnOk, OnErr}
use Rattle.std.proofs.lemmas.List.{append-nil}
use Rattle.scenario_text.specs.declared.line.Line.{Line}
use Rattle.world_history.specs.declared.err.WorldErr.{WorldErr}
use Rattle.world_history.specs.declared.err.WorldErr.TheVariants.{NoName, Taken, Dead, Alive, NotKept, Down, Running, NoMessage, KeptFull, Memory}
use Rattle.world_history.specs.declared.messages.Sent.{Sent}
use Rattle.world_history.specs.ServerNames.{Server, Mended}
use Rattle.world_history.specs.State.{World}
use Rattle.world_history.specs.Moves.{Act as WorldAct}
use Rattle.world_history.specs.Sending.{sends_all}
use Rattle.world_network.specs.declared.posting.Posting.{Posting}
use Rattle.world_network.specs.Network.{NetworkState}
use Rattle.world_network.specs.Posting.{sent}
use Rattle.world_network.specs.Shows.{posting_of}
use Rattle.world_network.specs.declared.acts.Act.{Act}
use Rattle.world_network.specs.Acts.{IsAct}
use Rattle.world_network.specs.Moving.{act_of, Performs, ActsAreMoves}
use Rattle.layout_world.specs.declared.parties.Parties.{Parties}
use Rattle.world_watch.specs.State.{WatchState}
use Rattle.world_watch.specs.Steps.{sees_move}
use Rattle.calm_law.specs.Moving.{kept_at}
use Rattle.layout_world.specs.State.{Settled, ShowsWith, Shows}
use Rattle.layout_world.specs.Acting.{Grows}
use Rattle.layout_world.specs.Going.{Performed, SeesAct, SeesBehind}
use Rattle.layout_world.proofs.Settling.{settled_more}

-- an act is the world's
the_act : (a : WorldAct) (act : Act) → IsAct a.told a.posts act → act ≡ act_of a
the_act a act i =
    let posts : List Posting = map posting_of a.posts in
    let lines : act ≡ record { told = a.told; posts = act.posts } =
    ap (λ (l : List Line). record { told = l; posts = act.posts }) i.lines in
    let sends : record { told = a.told; posts = act.posts } ≡ act_of a =
    ap (λ (l : List Posting). record { told = a.told; posts = l }) i.sends in
    lines ∙ sends

-- messages that are sent come behind the others
pub performed_grows : (n n' : NetworkState) (act : Act) (before after : List Line)
    → Performs n act before after n' (Ok tt) → Grows n.messages n'.messages
performed_grows n n' act before after h = (map sent act.posts, ap (λ (x : NetworkState). x.messages) h.0)

settled_grown : (first end : ℕ) (ms ns : List Sent) → Grows ms ns → Settled first end ms → Settled first end ns
settled_grown first end ms ns g s =
    subst (λ (l : List Sent). Settled first end l) (sym g.1) (settled_more first end ms g.0 s)

-- what performing leaves before the watch takes the repairs that the act ended
abbrev pub PerformedWith : (ended : List Mended) → WorldAct → (new : Parties) → (before after : List Line)
    → Result (Unit {0}) WorldErr → Type 0
PerformedWith ended a new before after (Ok u) =
    ShowsWith ended new (sends_all a).world × (after ≡ before ++ (sends_all a).lines)
PerformedWith ended a new before after (Err x) = Performed a new before after (Err x)

pub performed : (ended : List Mended) (p : Parties) (n' : NetworkState) (a : WorldAct) (act : Act)
    (before after : List Line) (r : Result (Unit {0}) WorldErr) → ActsAreMoves → IsAct a.told a.posts act
    → ShowsWith ended p a.world → Performs p.network act before after n' r
    → PerformedWith ended a (record p { network = n' }) before after r
performed ended p n' a act before after (Ok u) moves i s h =
    let same : act ≡ act_of a = the_act a act i in
    let m = moves p.network n' a before after (Ok u) s.network (subst (λ
    (x : Act). Performs p.network x before after n' (Ok u)) same h) in (
      record {
        drives = s.drives;
        clients = s.clients;
        server = s.server;
        clock = s.clock;
        down = s.down;
        network = m.0;
        settled = settled_grown 0 p.settled p.network.messages n'.messages (performed_grows p.network n' act before after h)
            s.settled;
        mended = s.mended;
      },
      m.1,
    )
performed ended p n' a act before after (Err KeptFull) moves i s h =
    moves p.network n' a before after (Err KeptFull) s.network (subst (λ
    (x : Act). Performs p.network x before after n' (Err KeptFull)) (the_act a act i) h)
performed ended p n' a act before after (Err Memory) moves i s h =
    moves p.network n' a before after (Err Memory) s.network (subst (λ
    (x : Act). Performs p.network x before after n' (Err Memory)) (the_act a act i) h)
performed ended p n' a act before after (Err NoName) moves i s h = absurd h
performed ended p n' a act before after (Err Taken) moves i s h = absurd h
performed ended p n' a act before after (Err Dead) moves i s h = absurd h
performed ended p n' a act before after (Err Alive) moves i s h = absurd h
performed ended p n' a act before after (Err NotKept) moves i s h = absurd h
performed ended p n' a act before after (Err Down) moves i s h = absurd h
performed ended p n' a act before after (Err Running) moves i s h = absurd h
performed ended p n' a act before after (Err (NoMessage k)) moves i s h = absurd h

-- the watch changes nothing of that; where it has no memory, the lines stand
pub watched : (ended : List Mended) (p q : Parties) (a : WorldAct) (before after : List Line)
    (r : Result (Unit {0}) WorldErr) → ((w : World) (es : List Mended) → ShowsWith es p w → Shows q w)
    → OnErr r (r ≡ Err Memory) → PerformedWith ended a p before after (Ok tt) → Performed a q before after r
watched ended p q a before after (Ok u) keeps only h = (keeps (sends_all a).world ended h.0, h.1)
watched ended p q a before after (Err Memory) keeps only h =
    ((sends_all a).lines, h.1, ([], sym (append-nil (sends_all a).lines)))
watched ended p q a before after (Err KeptFull) keeps only h = absurd (cc only)
watched ended p q a before after (Err NoName) keeps only h = absurd (cc only)
watched ended p q a before after (Err Taken) keeps only h = absurd (cc only)
watched ended p q a before after (Err Dead) keeps only h = absurd (cc only)
watched ended p q a before after (Err Alive) keeps only h = absurd (cc only)
watched ended p q a before after (Err NotKept) keeps only h = absurd (cc only)
watched ended p q a before after (Err Down) keeps only h = absurd (cc only)
watched ended p q a before after (Err Running) keeps only h = absurd (cc only)
watched ended p q a before after (Err (NoMessage k)) keeps only h = absurd (cc only)

-- what the watch saw is what the world did
saw_act : (ended : List Mended) (p : Parties) (a : WorldAct) (lines : List Line) (s t : WatchState)
    → ShowsWith ended p (sends_all a).world → SeesBehind p lines s t → SeesAct a ended lines s t
saw_act ended p a lines s t x h =
    h ∙ ap (λ (v : Server). sees_move (kept_at v) p.server.mended s.guesses.sightings p.network.messages s.moments lines)
    x.server
    ∙ ap (λ (rs : List Mended). sees_move (kept_at (sends_all a).world.server) rs s.guesses.sightings p.network.messages
    s.moments lines) x.mended
    ∙ ap (λ (ms : List Sent). sees_move (kept_at (sends_all a).world.server) ended s.guesses.sightings ms s.moments lines)
    x.network.messages

pub saw : (p : Parties) (act : Act) (mid : Parties) (n : ℕ) (before after : List Line) (s t : WatchState)
    (r : Result (Unit {0}) WorldErr)
    → ((a : WorldAct) (ended : List Mended) → IsAct a.told a.posts act → ShowsWith ended p a.world
    → PerformedWith ended a mid before after (Ok tt))
    → OnOk r (n ≤ length after → SeesBehind mid (drop n after) s t)
    → OnOk r ((a : WorldAct) (ended : List Mended) → IsAct a.told a.posts act → ShowsWith ended p a.world
    → n ≤ length after → SeesAct a ended (drop n after) s t)
saw p act mid n before after s t (Ok u) done h = λ a ended i x l.
    saw_act ended mid a (drop n after) s t (done a ended i x).0 (h l)
saw p act mid n before after s t (Err e) done h = tt

-- for want of memory before the first line
pub nothing_performed : (p : Parties) (a : WorldAct) (lines : List Line) → Performed a p lines lines (Err Memory)
nothing_performed p a lines = ([], sym (append-nil lines), ((sends_all a).lines, refl))
