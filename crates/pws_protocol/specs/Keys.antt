-- The keys of evidence and their order; this project's own.
use Rattle.std.specs.Prelude.{ℕ, List}
use Rattle.std.specs.Ordering.{nat_cmp, ordering_then}
use Rattle.std.specs.Cmp.Lexicographic.{slice_cmp}
use Rattle.std.specs.declared.cmp.Ordering.{Ordering}
use Rattle.std.specs.declared.cmp.Ordering.TheVariants.{Less, Greater}
use Rattle.pws_base.specs.declared.shapes.ReplicaId.{ReplicaId}
use Rattle.pws_base.specs.Replicas.{replica_cmp}
use Rattle.pws_protocol.specs.declared.keys.Matter.{Matter}
use Rattle.pws_protocol.specs.declared.keys.Matter.TheVariants.{Requested, Replied, Expired, Read}
use Rattle.pws_protocol.specs.declared.keys.StatementKey.{StatementKey}
use Rattle.pws_protocol.specs.declared.keys.BodyKey.{BodyKey}

-- a replica by its group and its index
abbrev pub replica : ℕ → ℕ → ReplicaId
replica group index = record { group = group; index = index }

-- the key of a replica's statement about a matter
abbrev pub statement_key : ReplicaId → Matter → StatementKey
statement_key sender matter = record { sender = sender; matter = matter }

-- the key of a body: of the reply of a called group to a call, by its digest
abbrev pub body_key : ℕ → ℕ → List ℕ → BodyKey
body_key called number digest = record { called = called; number = number; digest = digest }

-- first by group, then by number
abbrev pub call_cmp : ℕ → ℕ → ℕ → ℕ → Ordering
call_cmp group number g n = ordering_then (nat_cmp group g) (nat_cmp number n)

-- matters: requests, replies, calls that expired and readings in this order, and those of one kind by their fields
abbrev pub matter_cmp : Matter → Matter → Ordering
matter_cmp (Requested caller number) (Requested c n) = call_cmp caller number c n
matter_cmp (Requested caller number) _ = Less
matter_cmp (Replied called number) (Requested c n) = Greater
matter_cmp (Replied called number) (Replied c n) = call_cmp called number c n
matter_cmp (Replied called number) _ = Less
matter_cmp (Expired called number) (Expired c n) = call_cmp called number c n
matter_cmp (Expired called number) (Read n) = Less
matter_cmp (Expired called number) _ = Greater
matter_cmp (Read ask) (Read n) = nat_cmp ask n
matter_cmp (Read ask) _ = Greater

-- statements by sender, and then by matter
abbrev pub statement_cmp : StatementKey → StatementKey → Ordering
statement_cmp a b = ordering_then (replica_cmp a.sender b.sender) (matter_cmp a.matter b.matter)

-- bodies by called group, by number, and by digest
abbrev pub body_cmp : BodyKey → BodyKey → Ordering
body_cmp a b = ordering_then (nat_cmp a.called b.called) (ordering_then (nat_cmp a.number b.number) (slice_cmp nat_cmp a.digest b.digest))
