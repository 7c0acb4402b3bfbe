-- What is posted behind lines that were appended.
use Rattle.std.proofs.Common.{◌≡◌, ◌++◌, List, Result, Ok, Err, sym, ap, ◌∙◌, append_assoc}
use Rattle.scenario_text.specs.declared.line.Line.{Line}
use Rattle.world_history.specs.declared.err.WorldErr.{WorldErr}
use Rattle.world_history.specs.declared.err.WorldErr.TheVariants.{NoName, Taken, Dead, Alive, NotKept, Down, Running, NoMessage, KeptFull, Memory}
use Rattle.world_network.specs.Network.{NetworkState}
use Rattle.world_network.specs.Posting.{PostsAll, IsFront, lines_in, fitting_in}
use Rattle.world_network.specs.declared.acts.Act.{Act}
use Rattle.world_network.specs.Moving.{Performs, lines_of}

-- behind the lines that are told, what is posted is the rest of the act
pub performs_behind : (n n' : NetworkState) (a : Act) (before middle after : List Line)
    (r : Result (Unit {0}) WorldErr) → middle ≡ before ++ a.told → PostsAll n a.posts middle after n' r
    → Performs n a before after n' r
performs_behind n n' a before middle after (Ok u) e h =
    (h.0, h.1 ∙ ap (λ (l : List Line). l ++ lines_in n a.posts) e ∙ append_assoc before a.told (lines_in n a.posts))
performs_behind n n' a before middle after (Err KeptFull) e h =
    let posted : List Line = lines_in n (fitting_in n a.posts) in
    (h.0, h.1, h.2 ∙ ap (λ (l : List Line). l ++ posted) e ∙ append_assoc before a.told posted)
performs_behind n n' a before middle after (Err Memory) e h = (
  a.told ++ h.0,
  h.1 ∙ ap (λ (l : List Line). l ++ h.0) e ∙ append_assoc before a.told h.0,
  (h.2.0, ap (λ (l : List Line). a.told ++ l) h.2.1 ∙ sym (append_assoc a.told h.0 h.2.0)),
)
performs_behind n n' a before middle after (Err NoName) e h = absurd h
performs_behind n n' a before middle after (Err Taken) e h = absurd h
performs_behind n n' a before middle after (Err Dead) e h = absurd h
performs_behind n n' a before middle after (Err Alive) e h = absurd h
performs_behind n n' a before middle after (Err NotKept) e h = absurd h
performs_behind n n' a before middle after (Err Down) e h = absurd h
performs_behind n n' a before middle after (Err Running) e h = absurd h
performs_behind n n' a before middle after (Err (NoMessage k)) e h = absurd h

-- a front of what is told is one of all lines
pub told_front : (n : NetworkState) (a : Act) (front : List Line) → IsFront front a.told → IsFront front (lines_of n a)
told_front n a front h = (
  h.0 ++ lines_in n a.posts,
  ap (λ (l : List Line). l ++ lines_in n a.posts) h.1
      ∙ append_assoc front h.0 (lines_in n a.posts),
)
