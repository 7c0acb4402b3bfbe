-- Contents stand for one server at most.
use Rattle.std.proofs.Common.{◌≡◌, inl, inr, ℕ, List, [], ◌∷◌, ◌++◌, Option, Some, None, sym, ◌∙◌, ap}
use Rattle.gate_log.proofs.OneLog.{broken_is_none, front_begins, one_log}
use Rattle.server_rules.specs.declared.server.Server.{Server}
use Rattle.server_rules.specs.Making.{new_server}
use Rattle.server_journal.specs.Header.{journal_header}
use Rattle.server_journal.specs.Journals.{IsJournalOf}
use Rattle.server_journal.specs.Opening.{HasOtherHeader, IsNoJournalAt, IsUnmade}
use Rattle.server_journal.specs.Records.{after_record_of, replayed}
use Rattle.server_journal.proofs.RecordLaws.{replayed-more, replayed-none, replayed-then}

same_server : (s t : Server) → Some s ≡ Some t → s ≡ t
same_server s t is = cc is

pub one_server : (s t : Server) (c : List ℕ) → IsJournalOf s c → IsJournalOf t c → s ≡ t
one_server s t c is also =
    let logs = one_log journal_header is.records journal_header also.records c is.log also.log in
    same_server s t (sym is.lead ∙ ap (λ (records : List (List ℕ)). replayed (Some (new_server [])) records) logs.1 ∙ also.lead)

no_other_header : (c : List ℕ) (at : ℕ) (s : Server) → HasOtherHeader c at → IsJournalOf s c → ⊥
no_other_header c at s o is =
    o.other (front_begins o.header [] o.stands.front o.stands.gate o.stands.rest journal_header is.records c o.stands.is_front
    o.stands.contents is.log).0

some_none : (s : Server) → Some s ≡ None → ⊥
some_none s is = cc is

no_unmade : (c : List ℕ) (at : ℕ) (s : Server) → IsUnmade c at → IsJournalOf s c → ⊥
no_unmade c at s n is =
    let begins =
    front_begins journal_header
    (n.records ++ n.bytes ∷ []) n.behind.front n.behind.gate n.behind.rest journal_header is.records c n.behind.is_front
    n.behind.contents is.log in
    some_none s (sym is.lead
    ∙ ap (λ (records : List (List ℕ)). replayed (Some (new_server [])) records) begins.1.1
    ∙ replayed-then (Some (new_server [])) (n.records ++ n.bytes ∷ []) begins.1.0
    ∙ ap (λ (o : Option Server). replayed o begins.1.0)
    (replayed-more (Some (new_server [])) n.records n.bytes ∙ ap (λ (o : Option Server). after_record_of o n.bytes) n.lead
    ∙ n.none)
    ∙ replayed-none begins.1.0)

pub refused_is_none : (c : List ℕ) (at : ℕ) → IsNoJournalAt c at → (s : Server) → IsJournalOf s c → ⊥
refused_is_none c at (inl broken) s is = broken_is_none journal_header is.records c at broken is.log
refused_is_none c at (inr (inl other)) s is = no_other_header c at s other is
refused_is_none c at (inr (inr unmade)) s is = no_unmade c at s unmade is
