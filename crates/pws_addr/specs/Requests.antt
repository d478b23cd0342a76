-- What a request says to the driver that takes it; this project's own.
use Rattle.std.specs.Prelude.{◌≡◌, Option, Some, None, Result}
use Rattle.pws_soap.specs.Envelopes.{Enveloped}
use Rattle.pws_soap.specs.declared.errors.SoapError.{SoapError}
use Rattle.pws_addr.specs.Causes.{refusal_of, addressing_in}
use Rattle.pws_addr.specs.declared.causes.Cause.{Cause}
use Rattle.pws_addr.specs.declared.causes.Request.{Request}
use Rattle.pws_addr.specs.declared.causes.Request.TheVariants as request

-- a request is readable exactly where it is an envelope with readable addressing, and else it is refused for a cause
abbrev pub IsRequest : Result Enveloped SoapError → Request → Type 0
IsRequest read (request.Readable a) = (addressing_in read ≡ Some a) × (refusal_of read ≡ None)
IsRequest read (request.Refused c) = (addressing_in read ≡ None) × (refusal_of read ≡ Some c)

-- a request that is refused for this cause
abbrev pub IsRefused : Option Cause → Request → Type 0
IsRefused c (request.Readable a) = ⊥
IsRefused c (request.Refused d) = c ≡ Some d
