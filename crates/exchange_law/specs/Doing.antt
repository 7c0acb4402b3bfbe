-- What a move is: a step of one party, and what it sends. These are the words of `history_law`.
pub use Rattle.history_law.specs.Said.{said, posted, IsDelivered, IsHeardByServer, IsHeardByClient}
pub use Rattle.history_law.specs.Goes.{AreReplies, Nothing, OneReply, OthersGo, ServerGoes, ClientGoes, ClientStops, ClientComes, Goes, Others, AServer, AClient, Stops, Comes, IsOneStep, MovesAreSteps}
