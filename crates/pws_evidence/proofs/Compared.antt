-- The order of the keys of statements, as it is derived, is that of the definitions.
use Rattle.std.proofs.Common.{◌≡◌, List, Some, None, cond, refl, sym, ◌∙◌, ap, subst}
use Rattle.std.specs.declared.cmp.Ordering.{Ordering}
use Rattle.std.specs.Map.{lookup, keys_of}
use Rattle.std.specs.BTreeMap.{is_at, insert_entry}
use Rattle.std.specs.List.Sorted.{IsStrictlySortedBy}
use Rattle.std.specs.Cmp.{IsTotalOrder}
use Rattle.std.specs.FinMap.{get, insert, remove, from_entries}
use Rattle.pws_base.specs.declared.shapes.ReplicaId.{ReplicaId}
use Rattle.pws_msg.specs.declared.contents.Content.{Content}
use Rattle.pws_protocol.specs.declared.keys.Matter.{Matter}
use Rattle.pws_protocol.specs.declared.keys.Matter.TheVariants.{Requested, Replied, Expired, Read}
use Rattle.pws_protocol.specs.declared.keys.StatementKey.{StatementKey}
use Rattle.pws_protocol.specs.contracts.keys.StatementKeyOrd.TheImpl.{ghosts}
use Rattle.pws_protocol.specs.Keys.{statement_key, statement_cmp}
use Rattle.pws_protocol.proofs.Keyed.{keys_are_ordered}
use Rattle.pws_evidence.proofs.Maps.{get_is, inserted, removed}

-- the derived order
abbrev it : StatementKey → StatementKey → Ordering
it = ghosts.cmp

same_at : (r s : ReplicaId) (m n : Matter) → it (statement_key r m) (statement_key s n) ≡ statement_cmp (statement_key r m) (statement_key s n)
same_at r s (Requested c n) (Requested d m) = refl
same_at r s (Requested c n) (Replied d m) = refl
same_at r s (Requested c n) (Expired d m) = refl
same_at r s (Requested c n) (Read m) = refl
same_at r s (Replied c n) (Requested d m) = refl
same_at r s (Replied c n) (Replied d m) = refl
same_at r s (Replied c n) (Expired d m) = refl
same_at r s (Replied c n) (Read m) = refl
same_at r s (Expired c n) (Requested d m) = refl
same_at r s (Expired c n) (Replied d m) = refl
same_at r s (Expired c n) (Expired d m) = refl
same_at r s (Expired c n) (Read m) = refl
same_at r s (Read n) (Requested d m) = refl
same_at r s (Read n) (Replied d m) = refl
same_at r s (Read n) (Expired d m) = refl
same_at r s (Read n) (Read m) = refl

cmp_is : it ≡ statement_cmp
cmp_is = λ i a b. same_at a.sender b.sender a.matter b.matter i

-- what is found among the entries is what the map gives
pub statement_found : (es : List (StatementKey × Content)) (k : StatementKey) → lookup (is_at (it k)) es ≡ get (from_entries {R = statement_cmp} es) k
statement_found es k = ap (λ (S : StatementKey → StatementKey → Ordering). lookup (is_at (S k)) es) cmp_is ∙ sym (get_is keys_are_ordered.statements es k)

pub statement_inserted : (es fs : List (StatementKey × Content)) (k : StatementKey) (c : Content) → ((q : StatementKey) → lookup (is_at (it q)) fs ≡ cond (is_at (it k) q) (Some c) (lookup (is_at (it q)) es)) → from_entries {R = statement_cmp} fs ≡ insert (from_entries es) k c
statement_inserted es fs k c h =
    inserted keys_are_ordered.statements keys_are_ordered.statements_exact es fs k c
    (subst (λ (S : StatementKey → StatementKey → Ordering). (q : StatementKey) → lookup (is_at (S q)) fs ≡ cond (is_at (S k) q) (Some c) (lookup (is_at (S q)) es)) cmp_is h)

pub statement_removed : (es fs : List (StatementKey × Content)) (k : StatementKey) → ((q : StatementKey) → lookup (is_at (it q)) fs ≡ cond (is_at (it k) q) None (lookup (is_at (it q)) es)) → from_entries {R = statement_cmp} fs ≡ remove (from_entries es) k
statement_removed es fs k h =
    removed keys_are_ordered.statements keys_are_ordered.statements_exact es fs k
    (subst (λ (S : StatementKey → StatementKey → Ordering). (q : StatementKey) → lookup (is_at (S q)) fs ≡ cond (is_at (S k) q) None (lookup (is_at (S q)) es)) cmp_is h)

pub statements_total : IsTotalOrder it
statements_total = subst (λ (S : StatementKey → StatementKey → Ordering). IsTotalOrder S) (sym cmp_is) keys_are_ordered.statements

-- entries stand in the one order as in the other
pub in_order : (es : List (StatementKey × Content)) → IsStrictlySortedBy it (keys_of es) → IsStrictlySortedBy statement_cmp (keys_of es)
in_order es h = subst (λ (S : StatementKey → StatementKey → Ordering). IsStrictlySortedBy S (keys_of es)) cmp_is h

pub put_is : (es : List (StatementKey × Content)) (k : StatementKey) (c : Content) → insert_entry it es k c ≡ insert_entry statement_cmp es k c
put_is es k c = ap (λ (S : StatementKey → StatementKey → Ordering). insert_entry S es k c) cmp_is
