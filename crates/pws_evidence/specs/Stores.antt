-- How a store of evidence is kept; for proofs alone.
use Rattle.std.specs.Prelude.{◌≡◌, ◌≤◌, ◌&&◌, if◌then◌else◌, is_some, false, ℕ, List, length, Option, None, Some}
use Rattle.std.specs.Option.{option_map_or}
use Rattle.std.proofs.Common.{refl}
use Rattle.std.specs.Coded.{Coded, code_by, coded×, coded_ℕ, coded_list}
use Rattle.std.specs.FinMap.{FinMap, get, remove}
use Rattle.std.specs.FinMap as finite
use Rattle.sha2.specs.Sha256.{sha256}
use Rattle.pws_base.specs.declared.shapes.ReplicaId.{ReplicaId}
use Rattle.pws_base.specs.Replicas.{replica_code}
use Rattle.pws_msg.specs.declared.contents.Content.{Content}
use Rattle.pws_msg.specs.declared.contents.Content.TheVariants as content
use Rattle.pws_msg.specs.contracts.contents.Content as row
use Rattle.pws_protocol.specs.declared.keys.Matter.{Matter}
use Rattle.pws_protocol.specs.contracts.keys.Matter as matter_row
use Rattle.pws_protocol.specs.declared.keys.StatementKey.{StatementKey}
use Rattle.pws_protocol.specs.declared.keys.BodyKey.{BodyKey}
use Rattle.pws_protocol.specs.Keys.{statement_cmp, body_cmp}
use Rattle.pws_votes.specs.declared.kinds.Vote.TheVariants.{Kept, Already}
use Rattle.pws_protocol.specs.Evidence.{Evidence, Noted, noted, with_body, same_statement}
use Rattle.pws_protocol.specs.Fits.{FitsEvidence}

-- how a content is stored as a value
abbrev pub content_code : Coded Content
content_code = row.the_row.coded

-- how the key of a statement is stored as a value
abbrev statement_key_code : Coded StatementKey
statement_key_code = code_by (ReplicaId × Matter) (coded× replica_code matter_row.the_row.coded) (λ k. (k.sender, k.matter)) (λ p. record { sender = p.0; matter = p.1 }) (λ _. refl)

-- how the key of a body is stored as a value
abbrev body_key_code : Coded BodyKey
body_key_code = code_by (ℕ × (ℕ × List ℕ)) (coded× coded_ℕ (coded× coded_ℕ (coded_list coded_ℕ))) (λ k. (k.called, (k.number, k.digest))) (λ p. record { called = p.0; number = p.1.0; digest = p.1.1 }) (λ _. refl)

-- how evidence is stored as a value
abbrev pub evidence_code : Coded Evidence
evidence_code =
    code_by (ℕ × (List ℕ × (FinMap statement_cmp Content × FinMap body_cmp (List ℕ))))
    (coded× coded_ℕ (coded× (coded_list coded_ℕ) (coded× (finite.code statement_key_code content_code) (finite.code body_key_code (coded_list coded_ℕ)))))
    (λ e. (e.group, (e.layout, (e.statements, e.bodies))))
    (λ p. record { group = p.0; layout = p.1.0; statements = p.1.1.0; bodies = p.1.1.1 }) (λ _. refl)

-- beside a request stands the digest of its body
abbrev pub IsMarked : Content → List ℕ → Type 0
IsMarked (content.Request r) mark = mark ≡ sha256 r.body
IsMarked _ mark = Unit {0}

-- what holds of every store: all stands under its key, and bodies are as short as they may be
pub record IsStore (e : Evidence) : Type 0 where
  pub fits : FitsEvidence e
  pub short : (k : BodyKey) (body : List ℕ) → get e.bodies k ≡ Some body → length body ≤ 32768

-- what is to be held of a body where there is a key for it: its digest is that of the key
abbrev pub IsNamed : Option BodyKey → List ℕ → Type 0
IsNamed None body = Unit {0}
IsNamed (Some k) body = sha256 body ≡ k.digest

-- a statement after the one that is kept of its sender about the matter
abbrev pub heard_again : Evidence → StatementKey → Content → Option BodyKey → List ℕ → Noted
heard_again e k c new body =
    if option_map_or (λ first. same_statement first c) (get e.statements k) false && is_some new
    then noted (with_body e new body) Kept
    else noted e Already

-- the digest of the body, where a content is a reply
abbrev pub reply_digest_in : Content → Option (List ℕ)
reply_digest_in (content.Reply r) = Some r.digest
reply_digest_in _ = None

-- the evidence without the statement under a key
abbrev pub without_statement : Evidence → StatementKey → Evidence
without_statement e k = record e { statements = remove e.statements k }
