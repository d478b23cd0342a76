-- Why a driver answers with a fault, and which (SOAP 1.2 Part 1, section 5.4.6; WS-Addressing 1.0 SOAP Binding, section
-- 6.4). The reasons are this project's own.
use Rattle.std.specs.Prelude.{ℕ, List, codes, Option, Some, None, Result, Ok, Err}
use Rattle.std.specs.Result.{result_ok}
use Rattle.pws_soap.specs.Envelopes.{Enveloped}
use Rattle.pws_soap.specs.Faults.{Faulted}
use Rattle.pws_soap.specs.declared.errors.SoapError.{SoapError}
use Rattle.pws_soap.specs.declared.errors.SoapError.TheVariants as soap_error
use Rattle.pws_soap.specs.declared.faults.FaultCode.TheVariants as fault_code
use Rattle.pws_addr.specs.Headers.{addressing_name}
use Rattle.pws_addr.specs.Reading.{addressing_of}
use Rattle.pws_addr.specs.declared.causes.Cause.{Cause}
use Rattle.pws_addr.specs.declared.causes.Cause.TheVariants as cause
use Rattle.pws_addr.specs.declared.headers.Addressing.{Addressing}
use Rattle.pws_addr.specs.declared.reading.AddrError.{AddrError}
use Rattle.pws_addr.specs.declared.reading.AddrError.TheVariants as addr_error

-- SOAP Binding, section 6.4: subcodes
unfoldable pub header_required : List ℕ
header_required = codes "MessageAddressingHeaderRequired"

unfoldable pub invalid_header : List ℕ
invalid_header = codes "InvalidAddressingHeader"

unfoldable pub fault_of : Cause → Faulted
fault_of cause.BadVersion = record { code = fault_code.VersionMismatch; subcode = None; reason = codes "bad version" }
fault_of cause.NotUnderstood = record { code = fault_code.MustUnderstand; subcode = None; reason = codes "header not understood" }
fault_of cause.BadEnvelope = record { code = fault_code.Sender; subcode = None; reason = codes "bad envelope" }
fault_of cause.NoAction = record { code = fault_code.Sender; subcode = Some (addressing_name header_required); reason = codes "no action" }
fault_of cause.BadAddressing = record { code = fault_code.Sender; subcode = Some (addressing_name invalid_header); reason = codes "bad addressing" }
fault_of cause.Halted = record { code = fault_code.Receiver; subcode = None; reason = codes "service halted" }
fault_of cause.ReplyTooLong = record { code = fault_code.Receiver; subcode = None; reason = codes "reply too long" }
fault_of cause.TimedOut = record { code = fault_code.Receiver; subcode = None; reason = codes "timed out" }
fault_of cause.UnreadableReply = record { code = fault_code.Receiver; subcode = None; reason = codes "unreadable reply" }

-- why a text that is no envelope is refused; want of memory refuses nothing
abbrev pub envelope_cause : SoapError → Option Cause
envelope_cause (soap_error.Mark e) = Some cause.BadEnvelope
envelope_cause soap_error.NotEnvelope = Some cause.BadVersion
envelope_cause soap_error.Version = Some cause.BadVersion
envelope_cause soap_error.Order = Some cause.BadEnvelope
envelope_cause (soap_error.MustUnderstand n) = Some cause.NotUnderstood
envelope_cause soap_error.Memory = None

-- and an envelope without readable addressing
abbrev pub addressing_cause : AddrError → Option Cause
addressing_cause (addr_error.Cardinality n) = Some cause.BadAddressing
addressing_cause addr_error.Required = Some cause.NoAction
addressing_cause (addr_error.Invalid n) = Some cause.BadAddressing
addressing_cause addr_error.Memory = None

abbrev pub cause_in : Result Addressing AddrError → Option Cause
cause_in (Ok a) = None
cause_in (Err e) = addressing_cause e

-- why a request is refused, None where it has readable addressing
abbrev pub refusal_of : Result Enveloped SoapError → Option Cause
refusal_of (Ok e) = cause_in (addressing_of e.headers)
refusal_of (Err e) = envelope_cause e

-- the addressing of a request, where it is readable
abbrev pub addressing_in : Result Enveloped SoapError → Option Addressing
addressing_in (Ok e) = result_ok (addressing_of e.headers)
addressing_in (Err e) = None
