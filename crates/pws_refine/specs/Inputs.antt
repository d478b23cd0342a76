-- What a voter is given, as far as agreement goes: nothing that it hears was forged; this project's own.
use Rattle.std.specs.Prelude.{◌≡◌, true, Some}
use Rattle.std.specs.List.{Contains}
use Rattle.pws_msg.specs.declared.contents.Content.{Content}
use Rattle.pws_safety.specs.Contents.{statement_of}
use Rattle.pws_safety.specs.Statement.{Statement}
use Rattle.pws_safety.specs.Statements.{Sent, Told}
use Rattle.pws_protocol.specs.Keys.{replica}
use Rattle.pws_protocol.specs.Hearing.{Vouched, SaidFields}
use Rattle.pws_protocol.specs.Reactions.{Input, Said, Tick, Resume}
use Rattle.pws_refine.specs.Contexts.{Context, Occurs}

-- a voucher that verified can be heard as its sender's, and what a voucher has occurs
pub record IsVoucherTold (c : Context) (sent : Sent) (v : Vouched) : Type 0 where
  pub speaks : v.is_verified ≡ true → c.speaks v.voucher.sender v.voucher.content ≡ true
  pub told :
      v.is_verified ≡ true → v.voucher.sender.group ≡ c.me.group → (y : Statement)
      → statement_of v.voucher.content ≡ Some y → Told c.group sent v.voucher.sender.index y
  pub occurs : Occurs c v.voucher.content

-- a packet can be heard as its sender's, and what it has occurs
pub record IsTold (c : Context) (sent : Sent) (x : SaidFields) : Type 0 where
  pub speaks : c.speaks x.sender x.content ≡ true
  pub told :
      x.sender.group ≡ c.me.group → (y : Statement) → statement_of x.content ≡ Some y
      → Told c.group sent x.sender.index y
  pub occurs : Occurs c x.content
  pub vouchers : (v : Vouched) → Contains x.vouchers v → IsVoucherTold c sent v

-- an input: a packet that can be heard as its sender's; with a tick what the voter itself says
abbrev pub IsGiven : Context → Sent → Input → Type 0
IsGiven c sent (Said x) = IsTold c sent x
IsGiven c sent (Tick own) = (y : Content) → Contains own y → c.speaks (replica c.me.group c.me.index) y ≡ true
IsGiven c sent Resume = Unit {0}
