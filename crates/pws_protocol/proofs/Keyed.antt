-- The keys of evidence are ordered, and only equal ones tie.
use Rattle.std.proofs.Common.{◌≡◌, ℕ, List, [], ◌∷◌, refl, sym, ◌∙◌, ap}
use Rattle.std.specs.Ordering.{nat_cmp, ordering_then, ordering_reverse}
use Rattle.std.specs.declared.cmp.Ordering.{Ordering}
use Rattle.std.specs.declared.cmp.Ordering.TheVariants.{Less, Equal, Greater}
use Rattle.std.specs.Cmp.{IsTotalOrder}
use Rattle.std.specs.Cmp.Lexicographic.{slice_cmp, nat_list_cmp_total}
use Rattle.std.specs.FinMap.{IsAntisymmetric}
use Rattle.std.proofs.lemmas.Cmp.{nat_cmp_total, on_total, then_total}
use Rattle.std.proofs.lemmas.Map.Lookups.{exact_unsigned, exact_bytes, exact_pairs}
use Rattle.pws_base.specs.declared.shapes.ReplicaId.{ReplicaId}
use Rattle.pws_base.specs.Replicas.{replica_cmp}
use Rattle.pws_base.proofs.ReplicaOrder.{replicas_total, replicas_exact, pair_exact}
use Rattle.pws_protocol.specs.declared.keys.Matter.{Matter}
use Rattle.pws_protocol.specs.declared.keys.Matter.TheVariants.{Requested, Replied, Expired, Read}
use Rattle.pws_protocol.specs.declared.keys.StatementKey.{StatementKey}
use Rattle.pws_protocol.specs.declared.keys.BodyKey.{BodyKey}
use Rattle.pws_protocol.specs.Keys.{matter_cmp, statement_cmp, body_cmp}
use Rattle.pws_protocol.specs.Laws.{KeysAreOrdered}

-- a matter as numbers, whose order is that of the matters
numbers : Matter → List ℕ
numbers (Requested caller number) = 1 ∷ caller ∷ number ∷ []
numbers (Replied called number) = 2 ∷ called ∷ number ∷ []
numbers (Expired called number) = 3 ∷ called ∷ number ∷ []
numbers (Read ask) = 4 ∷ ask ∷ []

then_equal : (o : Ordering) → o ≡ ordering_then o Equal
then_equal Less = refl
then_equal Equal = refl
then_equal Greater = refl

two_then : (o p : Ordering) → ordering_then o p ≡ ordering_then o (ordering_then p Equal)
two_then o p = ap (ordering_then o) (then_equal p)

by_numbers : (a b : Matter) → matter_cmp a b ≡ slice_cmp nat_cmp (numbers a) (numbers b)
unfolding numbers
by_numbers (Requested c n) (Requested d m) = two_then (nat_cmp c d) (nat_cmp n m)
by_numbers (Requested c n) (Replied d m) = refl
by_numbers (Requested c n) (Expired d m) = refl
by_numbers (Requested c n) (Read m) = refl
by_numbers (Replied c n) (Requested d m) = refl
by_numbers (Replied c n) (Replied d m) = two_then (nat_cmp c d) (nat_cmp n m)
by_numbers (Replied c n) (Expired d m) = refl
by_numbers (Replied c n) (Read m) = refl
by_numbers (Expired c n) (Requested d m) = refl
by_numbers (Expired c n) (Replied d m) = refl
by_numbers (Expired c n) (Expired d m) = two_then (nat_cmp c d) (nat_cmp n m)
by_numbers (Expired c n) (Read m) = refl
by_numbers (Read n) (Requested d m) = refl
by_numbers (Read n) (Replied d m) = refl
by_numbers (Read n) (Expired d m) = refl
by_numbers (Read n) (Read m) = then_equal (nat_cmp n m)

-- an order that is another one's at numbers is total where that one is
module _ {K : Type 0} (R : K → K → Ordering) (to : K → List ℕ) (same : (a b : K) → R a b ≡ slice_cmp nat_cmp (to a) (to b)) where
  pub total_by : IsTotalOrder R
  total_by = record {
    antisymm = λ x y. same x y ∙ nat_list_cmp_total.antisymm (to x) (to y) ∙ ap ordering_reverse (sym (same y x));
    trans = λ x y z h k. same x z ∙ nat_list_cmp_total.trans (to x) (to y) (to z) (sym (same x y) ∙ h) (sym (same y z) ∙ k);
    congr = λ x y z h. same x z ∙ nat_list_cmp_total.congr (to x) (to y) (to z) (sym (same x y) ∙ h) ∙ sym (same y z);
  }

matters_total : IsTotalOrder matter_cmp
matters_total = total_by matter_cmp numbers by_numbers

not_equal : {A : Type 0} (a b : A) → Less ≡ Equal → a ≡ b
not_equal a b h = absurd (cc)

not_equal_back : {A : Type 0} (a b : A) → Greater ≡ Equal → a ≡ b
not_equal_back a b h = absurd (cc)

matters_exact : IsAntisymmetric matter_cmp
matters_exact (Requested c n) (Requested d m) h = let e = pair_exact c n d m h in λ i. Requested (e.0 i) (e.1 i)
matters_exact (Requested c n) (Replied d m) h = not_equal (Requested c n) (Replied d m) h
matters_exact (Requested c n) (Expired d m) h = not_equal (Requested c n) (Expired d m) h
matters_exact (Requested c n) (Read m) h = not_equal (Requested c n) (Read m) h
matters_exact (Replied c n) (Requested d m) h = not_equal_back (Replied c n) (Requested d m) h
matters_exact (Replied c n) (Replied d m) h = let e = pair_exact c n d m h in λ i. Replied (e.0 i) (e.1 i)
matters_exact (Replied c n) (Expired d m) h = not_equal (Replied c n) (Expired d m) h
matters_exact (Replied c n) (Read m) h = not_equal (Replied c n) (Read m) h
matters_exact (Expired c n) (Requested d m) h = not_equal_back (Expired c n) (Requested d m) h
matters_exact (Expired c n) (Replied d m) h = not_equal_back (Expired c n) (Replied d m) h
matters_exact (Expired c n) (Expired d m) h = let e = pair_exact c n d m h in λ i. Expired (e.0 i) (e.1 i)
matters_exact (Expired c n) (Read m) h = not_equal (Expired c n) (Read m) h
matters_exact (Read n) (Requested d m) h = not_equal_back (Read n) (Requested d m) h
matters_exact (Read n) (Replied d m) h = not_equal_back (Read n) (Replied d m) h
matters_exact (Read n) (Expired d m) h = not_equal_back (Read n) (Expired d m) h
matters_exact (Read n) (Read m) h = let e : n ≡ m = exact_unsigned n m h in λ i. Read (e i)

abbrev of_statement : StatementKey → ReplicaId × Matter
of_statement k = (k.sender, k.matter)

statements_exact : IsAntisymmetric statement_cmp
statements_exact a b h =
    let e : of_statement a ≡ of_statement b = exact_pairs replica_cmp matter_cmp replicas_exact matters_exact (of_statement a) (of_statement b) h in
    λ i. record { sender = (e i).0; matter = (e i).1 }

abbrev of_body : BodyKey → ℕ × (ℕ × List ℕ)
of_body k = (k.called, (k.number, k.digest))

bodies_exact : IsAntisymmetric body_cmp
bodies_exact a b h =
    let e : of_body a ≡ of_body b = exact_pairs nat_cmp (λ (x y : ℕ × List ℕ). ordering_then (nat_cmp x.0 y.0) (slice_cmp nat_cmp x.1 y.1)) exact_unsigned (exact_pairs nat_cmp (slice_cmp nat_cmp) exact_unsigned exact_bytes) (of_body a) (of_body b) h in
    λ i. record { called = (e i).0; number = (e i).1.0; digest = (e i).1.1 }

pub keys_are_ordered : KeysAreOrdered
keys_are_ordered = record {
  statements = then_total (on_total (λ (k : StatementKey). k.sender) replicas_total) (on_total (λ (k : StatementKey). k.matter) matters_total);
  statements_exact = statements_exact;
  bodies = then_total (on_total (λ (k : BodyKey). k.called) nat_cmp_total) (then_total (on_total (λ (k : BodyKey). k.number) nat_cmp_total) (on_total (λ (k : BodyKey). k.digest) nat_list_cmp_total));
  bodies_exact = bodies_exact;
}
