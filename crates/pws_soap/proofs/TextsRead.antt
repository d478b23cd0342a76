-- Each text is read as an envelope, or refused.
use Rattle.std.proofs.Common.{◌≡◌, ◌⊎◌, inl, inr, ℕ, Bool, true, false, not, List, Option, Some, None, Result, Ok, Err, refl, subst}
use Rattle.std.specs.Prelude.{if◌then◌else◌}
use Rattle.std.specs.List.{find}
use Rattle.std.specs.Str.{bytes_eq}
use Rattle.pws_mark.specs.Reading.{Reads}
use Rattle.pws_mark.specs.declared.errors.MarkError.{MarkError}
use Rattle.pws_mark.specs.declared.errors.ReadError.TheVariants as read_error
use Rattle.pws_mark.proofs.Answered.{texts_are_answered}
use Rattle.pws_tree.specs.Names.{envelope_space}
use Rattle.pws_tree.specs.Trees.{Tree}
use Rattle.pws_soap.specs.Names.{envelope_word}
use Rattle.pws_soap.specs.Blocks.{is_not_understood}
use Rattle.pws_soap.specs.Envelopes.{Enveloped, in_order, not_understood, understood, envelope_of}
use Rattle.pws_soap.specs.Reading.{ReadsEnvelope, IsTold, TextsAreRead}
use Rattle.pws_soap.specs.declared.errors.SoapError.{SoapError}
use Rattle.pws_soap.specs.declared.errors.SoapError.TheVariants as soap_error

-- no tree is refused as a text, or for want of memory
abbrev IsOfTree : Result Enveloped SoapError → Type 0
IsOfTree (Err (soap_error.Mark e)) = ⊥
IsOfTree (Err soap_error.Memory) = ⊥
IsOfTree answer = Unit {0}

of_found : (e : Enveloped) (found : Option Tree) → IsOfTree (not_understood e found)
of_found e None = tt
of_found e (Some block) = tt

of_order : (found : Option Enveloped) → IsOfTree (understood found)
of_order None = tt
of_order (Some e) = of_found e (find is_not_understood e.headers)

of_tree : (t : Tree) → IsOfTree (envelope_of t)
unfolding envelope_of
of_tree t = by_names (bytes_eq t.name.local envelope_word) (bytes_eq t.name.space envelope_space)
  where
    by_names : (named spaced : Bool) → IsOfTree (if not named then Err soap_error.NotEnvelope else if not spaced then Err soap_error.Version else understood (in_order t.children))
    by_names false spaced = tt
    by_names true false = tt
    by_names true true = of_order (in_order t.children)

abbrev HasAnswer : List ℕ → Type 0
HasAnswer text = (a : Result Enveloped SoapError) × IsTold a × ReadsEnvelope text a

by_tree : (text : List ℕ) (t : Tree) (a : Result Enveloped SoapError) → Reads text (Ok t) → envelope_of t ≡ a → IsOfTree (envelope_of t) → HasAnswer text
by_tree text t (Ok e) r h is = (Ok e, tt, (t, (r, h)))
by_tree text t (Err soap_error.NotEnvelope) r h is = (Err soap_error.NotEnvelope, tt, (t, (r, h)))
by_tree text t (Err soap_error.Version) r h is = (Err soap_error.Version, tt, (t, (r, h)))
by_tree text t (Err soap_error.Order) r h is = (Err soap_error.Order, tt, (t, (r, h)))
by_tree text t (Err (soap_error.MustUnderstand n)) r h is = (Err (soap_error.MustUnderstand n), tt, (t, (r, h)))
by_tree text t (Err (soap_error.Mark e)) r h is = absurd (subst IsOfTree h is)
by_tree text t (Err soap_error.Memory) r h is = absurd (subst IsOfTree h is)

by_text : (text : List ℕ) → ((t : Tree) × Reads text (Ok t)) ⊎ ((e : MarkError) × Reads text (Err (read_error.Mark e))) → HasAnswer text
by_text text (inl r) = by_tree text r.0 (envelope_of r.0) r.1 refl (of_tree r.0)
by_text text (inr r) = (Err (soap_error.Mark r.0), tt, r.1)

pub texts_are_read : TextsAreRead
texts_are_read text = by_text text (texts_are_answered text)
