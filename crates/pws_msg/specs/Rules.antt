-- What is attached to the contents of each kind; this project's own.
use Rattle.pws_msg.specs.declared.kinds.Kind.{Kind}
use Rattle.pws_msg.specs.declared.kinds.Kind.TheVariants as kind
use Rattle.pws_msg.specs.declared.contents.Content.{Content}
use Rattle.pws_msg.specs.declared.rules.AttachmentRule.{AttachmentRule}
use Rattle.pws_msg.specs.Contents.{kind_of}
use Rattle.pws_msg.specs.Wire.{most_vouchers}

-- a REPLY has a body, and up to ten vouchers, each a REPLY; a PART has one voucher, a REPLY; a RELAY has one, a
-- VIEW_CHANGE; all others have nothing
abbrev pub rule_for : Kind → AttachmentRule
rule_for kind.Reply = record { bodies = 1; kind = kind.Reply; least = 0; most = most_vouchers }
rule_for kind.Part = record { bodies = 0; kind = kind.Reply; least = 1; most = 1 }
rule_for kind.Relay = record { bodies = 0; kind = kind.ViewChange; least = 1; most = 1 }
rule_for _ = record { bodies = 0; kind = kind.Reply; least = 0; most = 0 }

abbrev pub rule_of : Content → AttachmentRule
rule_of c = rule_for (kind_of c)
