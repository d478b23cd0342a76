-- Faults (SOAP 1.2 Part 1, section 5.4), with a reason in English and without the optional Node, Role and Detail.
use Rattle.std.specs.Prelude.{ℕ, Bool, true, ◌&&◌, List, [], ◌∷◌, Option, Some, None, codes}
use Rattle.pws_tree.specs.Characters.{is_xml_text}
use Rattle.pws_tree.specs.Names.{is_lawful_name, value_word}
use Rattle.pws_tree.specs.Trees.{Tree, Nodes, NoNode, TextThen, QualifiedThen}
use Rattle.pws_tree.specs.declared.texts.Name.{Name}
use Rattle.pws_tree.specs.declared.texts.Attr.{Attr}
use Rattle.pws_mark.specs.Canonical.{xml_space}
use Rattle.pws_soap.specs.Names.{soap_name, fault_word, code_word, subcode_word, reason_word, text_word, lang_word, english}
use Rattle.pws_soap.specs.Envelopes.{Enveloped, soap_tree, element_then}
use Rattle.pws_soap.specs.declared.faults.FaultCode.{FaultCode}
use Rattle.pws_soap.specs.declared.faults.FaultCode.TheVariants as fault_code

-- what went wrong, for programs and for people
pub record Faulted : Type 0 where
  pub code : FaultCode
  pub subcode : Option Name
  pub reason : List ℕ

abbrev pub is_lawful_subcode : Option Name → Bool
is_lawful_subcode None = true
is_lawful_subcode (Some name) = is_lawful_name name

abbrev pub is_lawful_fault : Faulted → Bool
is_lawful_fault f = is_lawful_subcode f.subcode && is_xml_text f.reason

-- section 5.4.6
unfoldable pub word_of : FaultCode → List ℕ
word_of fault_code.Sender = codes "Sender"
word_of fault_code.Receiver = codes "Receiver"
word_of fault_code.VersionMismatch = codes "VersionMismatch"
word_of fault_code.MustUnderstand = codes "MustUnderstand"
word_of fault_code.DataEncodingUnknown = codes "DataEncodingUnknown"

-- section 5.4.1.1: a Value with a name
abbrev pub value_tree : Name → Tree
value_tree name = soap_tree value_word (QualifiedThen name NoNode)

-- section 5.4.1.2: a Subcode stands inside of Code, after its Value
abbrev pub subcode_tree : Name → Tree
subcode_tree name = soap_tree subcode_word (element_then (value_tree name) NoNode)

abbrev pub subcode_nodes : Option Name → Nodes
subcode_nodes None = NoNode
subcode_nodes (Some name) = element_then (subcode_tree name) NoNode

abbrev pub code_nodes : FaultCode → Option Name → Nodes
code_nodes code subcode = element_then (value_tree (soap_name (word_of code))) (subcode_nodes subcode)

abbrev pub code_tree : FaultCode → Option Name → Tree
code_tree code subcode = soap_tree code_word (code_nodes code subcode)

-- a tree has no empty texts
abbrev pub text_nodes : List ℕ → Nodes
text_nodes [] = NoNode
text_nodes (c ∷ cs) = TextThen (c ∷ cs) NoNode

abbrev pub language : Attr
language = record { name = record { space = xml_space; local = lang_word }; value = english }

-- section 5.4.2: a Reason with one Text
abbrev pub text_tree : List ℕ → Tree
text_tree reason = record { name = soap_name text_word; attrs = language ∷ []; children = text_nodes reason }

abbrev pub reason_tree : List ℕ → Tree
reason_tree reason = soap_tree reason_word (element_then (text_tree reason) NoNode)

abbrev pub fault_tree : Faulted → Tree
fault_tree f = soap_tree fault_word (element_then (code_tree f.code f.subcode) (element_then (reason_tree f.reason) NoNode))

-- an envelope around one element, without header blocks
abbrev pub envelope_around : Tree → Enveloped
envelope_around t = record { headers = []; body = element_then t NoNode }
