-- What the server of the code sends is what the world says.
use Rattle.std.proofs.Common.{◌≡◌, Bool, true, false, List, [], ◌∷◌, ◌++◌, map, refl}
use Rattle.std.specs.List.{filter}
use Rattle.server_rules.specs.Envelopes.{receiver, bytes_of}
use Rattle.server_requests.specs.Sending.{sent_as, all_sent}
use Rattle.world_network.specs.Shows.{posting_of}
use Rattle.world_history.specs.ServerNames.{Outgoing, ToDrive, Recalls, Answers, AnswersOrder}
use Rattle.world_history.specs.Spelled.{spelled}
use Rattle.world_history.specs.Names.{is_named}
use Rattle.world_history.specs.Handed.{is_addressed, server_body, server_post}
use Rattle.layout_world.specs.Posting.{posting, postings}

body_spelled : (o : Outgoing) → spelled (server_body o) ≡ bytes_of o
body_spelled (ToDrive d c) = refl
body_spelled (Recalls r) = refl
body_spelled (Answers a) = refl
body_spelled (AnswersOrder a) = refl

posted : (b : Bool) (o : Outgoing) (os : List Outgoing) → is_named (receiver o) ≡ b
    → postings (all_sent os) ≡ map posting_of (filter is_addressed (map server_post os))
    → posting (sent_as o) ++ postings (all_sent os)
    ≡ map posting_of (filter is_addressed (server_post o ∷ map server_post os))
posted true o os e h = rw (e, h, body_spelled o) refl
posted false o os e h = rw (e, h) refl

pub posts_are : (os : List Outgoing)
    → postings (all_sent os) ≡ map posting_of (filter is_addressed (map server_post os))
posts_are [] = refl
posts_are (o ∷ os) = posted (is_named (receiver o)) o os refl (posts_are os)
