-- A fault is told by its tree.
use Rattle.std.proofs.Common.{◌≡◌, ℕ, List, [], ◌∷◌, Option, Some, None, refl, ap, sym, ◌∙◌}
use Rattle.std.specs.Prelude.{if◌then◌else◌, codes}
use Rattle.std.specs.Str.{bytes_eq}
use Rattle.pws_tree.specs.Trees.{Tree, Nodes, NoNode, TextThen, ElementThen, QualifiedThen}
use Rattle.pws_tree.specs.declared.texts.Name.{Name}
use Rattle.pws_soap.specs.Faults.{Faulted, word_of, code_nodes, text_nodes, fault_tree}
use Rattle.pws_soap.specs.Laws.{FaultsTellApart}
use Rattle.pws_soap.specs.declared.faults.FaultCode.{FaultCode}
use Rattle.pws_soap.specs.declared.faults.FaultCode.TheVariants as fault_code

-- the code of a word
code_of : List ℕ → FaultCode
code_of w =
    if bytes_eq w (codes "Sender") then fault_code.Sender
    else if bytes_eq w (codes "Receiver") then fault_code.Receiver
    else if bytes_eq w (codes "VersionMismatch") then fault_code.VersionMismatch
    else if bytes_eq w (codes "MustUnderstand") then fault_code.MustUnderstand
    else fault_code.DataEncodingUnknown

code_back : (c : FaultCode) → code_of (word_of c) ≡ c
unfolding code_of word_of
code_back fault_code.Sender = refl
code_back fault_code.Receiver = refl
code_back fault_code.VersionMismatch = refl
code_back fault_code.MustUnderstand = refl
code_back fault_code.DataEncodingUnknown = refl

-- parts of a tree
inside : Nodes → Nodes
inside NoNode = NoNode
inside (TextThen t rest) = NoNode
inside (QualifiedThen n rest) = NoNode
inside (ElementThen n attrs inner rest) = inner

behind : Nodes → Nodes
behind NoNode = NoNode
behind (TextThen t rest) = rest
behind (QualifiedThen n rest) = rest
behind (ElementThen n attrs inner rest) = rest

qualified : Nodes → Option Name
qualified NoNode = None
qualified (TextThen t rest) = None
qualified (QualifiedThen n rest) = Some n
qualified (ElementThen n attrs inner rest) = None

text : Nodes → List ℕ
text NoNode = []
text (TextThen t rest) = t
text (QualifiedThen n rest) = []
text (ElementThen n attrs inner rest) = []

local_of : Option Name → List ℕ
local_of None = []
local_of (Some n) = n.local

code_in : Tree → FaultCode
code_in t = code_of (local_of (qualified (inside (inside t.children))))

subcode_in : Tree → Option Name
subcode_in t = qualified (inside (inside (behind (inside t.children))))

reason_in : Tree → List ℕ
reason_in t = text (inside (inside (behind t.children)))

code_is : (f : Faulted) → code_in (fault_tree f) ≡ f.code
unfolding code_in local_of qualified inside
code_is f = code_back f.code

by_subcode : (code : FaultCode) (subcode : Option Name) → qualified (inside (inside (behind (code_nodes code subcode)))) ≡ subcode
unfolding qualified inside behind
by_subcode code None = refl
by_subcode code (Some n) = refl

subcode_is : (f : Faulted) → subcode_in (fault_tree f) ≡ f.subcode
unfolding subcode_in inside
subcode_is f = by_subcode f.code f.subcode

by_reason : (reason : List ℕ) → text (text_nodes reason) ≡ reason
unfolding text
by_reason [] = refl
by_reason (c ∷ cs) = refl

reason_is : (f : Faulted) → reason_in (fault_tree f) ≡ f.reason
unfolding reason_in inside behind
reason_is f = by_reason f.reason

fault_of : FaultCode → Option Name → List ℕ → Faulted
fault_of code subcode reason = record { code = code; subcode = subcode; reason = reason }

pub faults_apart : FaultsTellApart
unfolding fault_of
faults_apart f g = (
  λ h.
      let code : f.code ≡ g.code = sym (code_is f) ∙ (ap code_in h ∙ code_is g) in
      let subcode : f.subcode ≡ g.subcode = sym (subcode_is f) ∙ (ap subcode_in h ∙ subcode_is g) in
      let reason : f.reason ≡ g.reason = sym (reason_is f) ∙ (ap reason_in h ∙ reason_is g) in
      λ i. fault_of (code i) (subcode i) (reason i),
  λ h. ap fault_tree h,
)
