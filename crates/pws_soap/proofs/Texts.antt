-- Texts of envelopes.
use Rattle.std.proofs.Common.{◌≡◌, ℕ, Bool, true, false, not, List, Option, Some, None, refl, ap, sym, ◌∙◌, subst}
use Rattle.std.specs.Prelude.{if◌then◌else◌, Result, Ok, Err}
use Rattle.std.specs.List.{list_all, find}
use Rattle.std.specs.Str.{bytes_eq}
use Rattle.pws_tree.specs.Names.{envelope_space}
use Rattle.pws_tree.specs.Trees.{Tree}
use Rattle.pws_mark.specs.Canonical.{canonical}
use Rattle.pws_mark.specs.CanonicalTexts.{CanonicalMayBeRead}
use Rattle.pws_mark.specs.Reading.{Reads}
use Rattle.pws_mark.specs.TreeOf.{tree_of, ReadingGivesTheTree}
use Rattle.pws_mark.specs.declared.errors.MarkError.{MarkError}
use Rattle.pws_mark.specs.declared.errors.ReadError.TheVariants as read_error
use Rattle.pws_soap.specs.Blocks.{is_well_marked, is_not_understood}
use Rattle.pws_soap.specs.Names.{envelope_word}
use Rattle.pws_soap.specs.Envelopes.{Enveloped, root_of, in_order, understood, not_understood, envelope_of, Answers}
use Rattle.pws_soap.specs.Reading.{ReadsTree, ReadsEnvelope, WrittenAreRead, NothingElseIsRead}
use Rattle.pws_soap.specs.declared.errors.SoapError.{SoapError}
use Rattle.pws_soap.specs.declared.errors.SoapError.TheVariants as soap_error
use Rattle.pws_soap.proofs.Roots.{root_read}

-- whether an answer is that a text is no element
is_mark : Result Enveloped SoapError → Bool
is_mark (Ok e) = false
is_mark (Err (soap_error.Mark e)) = true
is_mark (Err soap_error.NotEnvelope) = false
is_mark (Err soap_error.Version) = false
is_mark (Err soap_error.Order) = false
is_mark (Err (soap_error.MustUnderstand n)) = false
is_mark (Err soap_error.Memory) = false

by_found : (e : Enveloped) (found : Option Tree) → is_mark (not_understood e found) ≡ false
unfolding is_mark
by_found e None = refl
by_found e (Some block) = refl

by_order : (found : Option Enveloped) → is_mark (understood found) ≡ false
unfolding is_mark
by_order None = refl
by_order (Some e) = by_found e (find is_not_understood e.headers)

by_names : (named spaced : Bool) (t : Tree) → is_mark (if not named then Err soap_error.NotEnvelope else if not spaced then Err soap_error.Version else understood (in_order t.children)) ≡ false
unfolding is_mark
by_names false spaced t = refl
by_names true false t = refl
by_names true true t = by_order (in_order t.children)

-- a tree is never refused as a text
no_mark : (t : Tree) → is_mark (envelope_of t) ≡ false
unfolding envelope_of
no_mark t = by_names (bytes_eq t.name.local envelope_word) (bytes_eq t.name.space envelope_space) t

no_mark_of : (t : Tree) (e : MarkError) → envelope_of t ≡ Err (soap_error.Mark e) → ⊥
unfolding is_mark
no_mark_of t e h = let f : true ≡ false = ap is_mark (sym h) ∙ no_mark t in cc

-- what is answered for the tree of a text is answered for the text
pub reads_on : (text : List ℕ) (t : Tree) (answer : Result Enveloped SoapError) → Reads text (Ok t) → Answers (envelope_of t) answer → ReadsEnvelope text answer
reads_on text t (Ok e) r a = (t, (r, a))
reads_on text t (Err (soap_error.Mark e)) r a = absurd (no_mark_of t e a)
reads_on text t (Err soap_error.NotEnvelope) r a = (t, (r, a))
reads_on text t (Err soap_error.Version) r a = (t, (r, a))
reads_on text t (Err soap_error.Order) r a = (t, (r, a))
reads_on text t (Err (soap_error.MustUnderstand n)) r a = (t, (r, a))
reads_on text t (Err soap_error.Memory) r a = tt

root_answer : (e : Enveloped) → list_all is_well_marked e.headers ≡ true → find is_not_understood e.headers ≡ None → envelope_of (root_of e) ≡ Ok e
root_answer e marked none = root_read e ∙ (ap (λ b. understood (if b then Some e else None)) marked ∙ ap (not_understood e) none)

pub written_read : CanonicalMayBeRead → WrittenAreRead
written_read may_be_read e lawful few marked none = (root_of e, (may_be_read (root_of e) lawful few, root_answer e marked none))

-- a text that is read as a tree is read as no other, and isn't refused
one_tree : ReadingGivesTheTree → (text : List ℕ) (t u : Tree) → Reads text (Ok t) → Reads text (Ok u) → t ≡ u
one_tree law text t u h g =
    let first : tree_of text ≡ Some t = law text (Ok t) h in
    let second : tree_of text ≡ Some u = law text (Ok u) g in
    let both : ◌≡◌ {A = Option Tree} (Some t) (Some u) = sym first ∙ second in
    cc

not_refused : ReadingGivesTheTree → (text : List ℕ) (t : Tree) (e : MarkError) → Reads text (Ok t) → Reads text (Err (read_error.Mark e)) → ⊥
not_refused law text t e h g =
    let one : tree_of text ≡ Some t = law text (Ok t) h in
    let none : tree_of text ≡ None = law text (Err (read_error.Mark e)) g in
    let both : ◌≡◌ {A = Option Tree} None (Some t) = sym none ∙ one in
    cc

by_tree : ReadingGivesTheTree → (text : List ℕ) (t : Tree) (answer : Result Enveloped SoapError) → Reads text (Ok t) → ReadsTree text answer → Answers (envelope_of t) answer
by_tree law text t answer h r = let P : Tree → Type 0 = λ u. Answers (envelope_of u) answer in subst P (one_tree law text r.0 t r.1.0 h) r.1.1

for_tree : ReadingGivesTheTree → (text : List ℕ) (t : Tree) (answer : Result Enveloped SoapError) → Reads text (Ok t) → ReadsEnvelope text answer → Answers (envelope_of t) answer
for_tree law text t (Ok e) h r = by_tree law text t (Ok e) h r
for_tree law text t (Err (soap_error.Mark e)) h r = absurd (not_refused law text t e h r)
for_tree law text t (Err soap_error.NotEnvelope) h r = by_tree law text t (Err soap_error.NotEnvelope) h r
for_tree law text t (Err soap_error.Version) h r = by_tree law text t (Err soap_error.Version) h r
for_tree law text t (Err soap_error.Order) h r = by_tree law text t (Err soap_error.Order) h r
for_tree law text t (Err (soap_error.MustUnderstand n)) h r = by_tree law text t (Err (soap_error.MustUnderstand n)) h r
for_tree law text t (Err soap_error.Memory) h r = tt

pub nothing_else : CanonicalMayBeRead → ReadingGivesTheTree → NothingElseIsRead
nothing_else may_be_read law e lawful few marked none answer r =
    let P : Result Enveloped SoapError → Type 0 = λ wanted. Answers wanted answer in
    subst P (root_answer e marked none) (for_tree law (canonical (root_of e)) (root_of e) answer (may_be_read (root_of e) lawful few) r)
