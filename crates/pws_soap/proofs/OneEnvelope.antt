-- A text is read as one envelope, or refused for one cause.
use Rattle.std.proofs.Common.{◌≡◌, ◌⊎◌, inl, inr, ℕ, List, Option, Some, None, Result, Ok, Err, refl, ap, sym, ◌∙◌}
use Rattle.pws_tree.specs.Trees.{Tree}
use Rattle.pws_mark.specs.Reading.{Reads}
use Rattle.pws_mark.specs.declared.errors.MarkError.{MarkError}
use Rattle.pws_mark.specs.declared.errors.ReadError.TheVariants as read_error
use Rattle.pws_mark.proofs.OneRefusal.{one_refusal}
use Rattle.pws_mark.proofs.TreeOf.{reading_gives_the_tree}
use Rattle.pws_soap.specs.Envelopes.{Enveloped, envelope_of}
use Rattle.pws_soap.specs.Reading.{ReadsEnvelope, ReadsTree, IsTold, OneEnvelope}
use Rattle.pws_soap.specs.declared.errors.SoapError.{SoapError}
use Rattle.pws_soap.specs.declared.errors.SoapError.TheVariants as soap_error

-- it is answered for the tree of the text
record IsOfTree (text : List ℕ) (a : Result Enveloped SoapError) : Type 0 where
  pub tree : Tree
  pub reads : Reads text (Ok tree)
  pub answer : envelope_of tree ≡ a

-- or because the text has none
record IsOfRefusal (text : List ℕ) (a : Result Enveloped SoapError) : Type 0 where
  pub error : MarkError
  pub reads : Reads text (Err (read_error.Mark error))
  pub answer : Err (soap_error.Mark error) ≡ a

sort_of : (text : List ℕ) (a : Result Enveloped SoapError) → IsTold a → ReadsEnvelope text a → IsOfTree text a ⊎ IsOfRefusal text a
sort_of text (Ok e) told r = inl (record { tree = r.0; reads = r.1.0; answer = r.1.1 })
sort_of text (Err (soap_error.Mark e)) told r = inr (record { error = e; reads = r; answer = refl })
sort_of text (Err soap_error.NotEnvelope) told r = inl (record { tree = r.0; reads = r.1.0; answer = r.1.1 })
sort_of text (Err soap_error.Version) told r = inl (record { tree = r.0; reads = r.1.0; answer = r.1.1 })
sort_of text (Err soap_error.Order) told r = inl (record { tree = r.0; reads = r.1.0; answer = r.1.1 })
sort_of text (Err (soap_error.MustUnderstand n)) told r = inl (record { tree = r.0; reads = r.1.0; answer = r.1.1 })
sort_of text (Err soap_error.Memory) told r = absurd told

one_tree : (text : List ℕ) (t u : Tree) → Reads text (Ok t) → Reads text (Ok u) → t ≡ u
one_tree text t u r s = let same : ◌≡◌ {A = Option Tree} (Some t) (Some u) = sym (reading_gives_the_tree text (Ok t) r) ∙ reading_gives_the_tree text (Ok u) s in cc

never_both : (text : List ℕ) (t : Tree) (e : MarkError) → Reads text (Ok t) → Reads text (Err (read_error.Mark e)) → ⊥
never_both text t e r s =
    let none : ◌≡◌ {A = Option Tree} (Some t) None = sym (reading_gives_the_tree text (Ok t) r) ∙ reading_gives_the_tree text (Err (read_error.Mark e)) s in
    absurd (cc)

same : (text : List ℕ) (a b : Result Enveloped SoapError) → IsOfTree text a ⊎ IsOfRefusal text a → IsOfTree text b ⊎ IsOfRefusal text b → a ≡ b
same text a b (inl x) (inl y) = sym x.answer ∙ (ap envelope_of (one_tree text x.tree y.tree x.reads y.reads) ∙ y.answer)
same text a b (inl x) (inr y) = absurd (never_both text x.tree y.error x.reads y.reads)
same text a b (inr x) (inl y) = absurd (never_both text y.tree x.error y.reads x.reads)
same text a b (inr x) (inr y) =
    let e : x.error ≡ y.error = one_refusal text x.error y.error x.reads y.reads in
    sym x.answer ∙ (ap (λ (error : MarkError). let r : Result Enveloped SoapError = Err (soap_error.Mark error) in r) e ∙ y.answer)

pub one_envelope : OneEnvelope
one_envelope text a b told also r s = same text a b (sort_of text a told r) (sort_of text b also s)
