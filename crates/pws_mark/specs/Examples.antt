-- Worked texts, by which the definitions can be judged.
use Rattle.std.specs.Prelude.{◌≡◌, ℕ, List, ◌∷◌, ◌++◌, codes}
use Rattle.pws_tree.specs.Trees.{Tree}
use Rattle.pws_mark.specs.Canonical.{canonical}
use Rattle.pws_mark.specs.Reading.{Means}
use Rattle.pws_mark.specs.Causes.{IsCause}
use Rattle.pws_mark.specs.declared.errors.MarkKind.TheVariants as kind

-- a text stands for a tree that is written so
pub record IsWrittenAs (text written : List ℕ) : Type 0 where
  pub tree : Tree
  pub means : Means text tree
  pub canonical_is : canonical tree ≡ written

-- an envelope as a toolkit writes it: a declaration, a line end of two characters, a comment, a CDATA section
unfoldable pub toolkit_text : List ℕ
toolkit_text =
    codes "<?xml version=\"1.0\" encoding=\"UTF-8\"?>" ++ 13 ∷ 10 ∷ codes "<soapenv:Envelope xmlns:soapenv=\"http://www.w3.org/2003/05/soap-envelope\" xmlns:wsa=\"http://www.w3.org/2005/08/addressing\"><soapenv:Header><wsa:Action soapenv:mustUnderstand=\"1\">urn:shop:order</wsa:Action></soapenv:Header><soapenv:Body><!-- one --><order xmlns=\"urn:shop\"><item><![CDATA[a<b]]></item></order></soapenv:Body></soapenv:Envelope>"

unfoldable pub toolkit_written : List ℕ
toolkit_written =
    codes "<n0:Envelope xmlns:n0=\"http://www.w3.org/2003/05/soap-envelope\" xmlns:n1=\"http://www.w3.org/2005/08/addressing\" xmlns:n2=\"urn:shop\"><n0:Header><n1:Action n0:mustUnderstand=\"1\">urn:shop:order</n1:Action></n0:Header><n0:Body><n2:order><n2:item>a&lt;b</n2:item></n2:order></n0:Body></n0:Envelope>"

pub record WorkedTexts : Type 0 where
  pub toolkit : IsWrittenAs toolkit_text toolkit_written
  -- entities, numbers and either quote
  pub quotes_and_references : IsWrittenAs (codes "<a b='\"&lt;&#x9;' >&amp;&#62;&apos;</a >") (codes "<a b=\"&quot;&lt;&#9;\">&amp;&gt;'</a>")
  -- comments are dropped, CDATA is text, and neighbouring texts are one
  pub joined_texts : IsWrittenAs (codes "<a>x<!-- - -->y<![CDATA[<&]]>]]</a>") (codes "<a>xy&lt;&amp;]]</a>")
  -- two brackets and what isn't their end
  pub brackets_otherwise : IsWrittenAs (codes "<a>]] ]>]&gt;</a>") (codes "<a>]] ]&gt;]&gt;</a>")
  -- a default namespace, and none again
  pub default_namespace_undone : IsWrittenAs (codes "<a xmlns='u'><b xmlns=''/></a>") (codes "<n0:a xmlns:n0=\"u\"><b></b></n0:a>")
  -- a prefix is bound anew inside, and only there
  pub prefix_bound_anew : IsWrittenAs (codes "<p:a xmlns:p='u'><p:b xmlns:p='v'/><p:c/></p:a>") (codes "<n0:a xmlns:n0=\"u\" xmlns:n1=\"v\"><n1:b></n1:b><n0:c></n0:c></n0:a>")
  -- xml needs no declaration
  pub the_prefix_xml : IsWrittenAs (codes "<a xml:lang='en'/>") (codes "<a xml:lang=\"en\"></a>")
  -- attributes by namespace and then local name
  pub attributes_in_order : IsWrittenAs (codes "<a xmlns:p='v' xmlns:q='u' p:a='1' q:z='2' c='3'/>") (codes "<a xmlns:n0=\"u\" xmlns:n1=\"v\" c=\"3\" n0:z=\"2\" n1:a=\"1\"></a>")
  -- the content of Value is a qualified name
  pub a_qualified_value : IsWrittenAs (codes "<e:Value xmlns:e='http://www.w3.org/2003/05/soap-envelope'> e:<!-- -->a </e:Value>") (codes "<n0:Value xmlns:n0=\"http://www.w3.org/2003/05/soap-envelope\">n0:a</n0:Value>")
  -- some that are refused
  pub prefix : IsCause (codes "<p:a></p:a>") kind.Prefix 1
  pub twice : IsCause (codes "<a b='1' b='2'/>") kind.Twice 9
  pub entity : IsCause (codes "<a>&f;</a>") kind.Entity 3
  pub value : IsCause (codes "<e:Value xmlns:e='http://www.w3.org/2003/05/soap-envelope'>1</e:Value>") kind.Syntax 0
  pub doctype : IsCause (codes "<!DOCTYPE a><a></a>") kind.Doctype 0
  pub doctype_after_half_a_comment : IsCause (codes "<!-<!DOCTYPE a><a/>") kind.Doctype 3
  pub instruction_inside_a_value : IsCause (codes "<a b='<?x?>'/>") kind.Instruction 6
  pub unbound_in_a_branch : IsCause (codes "<a><b xmlns:p='u'/><p:c/></a>") kind.Prefix 20
  pub two_colons : IsCause (codes "<a:b:c xmlns:a='u'/>") kind.Prefix 1
  pub undeclared_prefix : IsCause (codes "<a xmlns:p=''/>") kind.Prefix 3
  pub twice_as_bound : IsCause (codes "<a xmlns:p='u' xmlns:q='u' p:b='' q:b=''/>") kind.Twice 34
  pub a_number_of_no_character : IsCause (codes "<a b='&#0;'/>") kind.Entity 6
  pub unbound_in_a_value : IsCause (codes "<e:Value xmlns:e='http://www.w3.org/2003/05/soap-envelope'>&#112;:a</e:Value>") kind.Prefix 59
