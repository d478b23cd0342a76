-- The faults of fields, as faults of a packet; this project's own.
use Rattle.pws_base.specs.declared.fields.FaultKind.{FaultKind}
use Rattle.pws_base.specs.declared.fields.FaultKind.TheVariants as fault
use Rattle.pws_base.specs.declared.fields.FieldFault.{FieldFault}
use Rattle.pws_base.specs.declared.fields.FieldError.{FieldError}
use Rattle.pws_base.specs.declared.fields.FieldError.TheVariants as field_error
use Rattle.pws_msg.specs.declared.errors.PacketFault.{PacketFault}
use Rattle.pws_msg.specs.declared.errors.PacketFault.TheVariants as packet_fault
use Rattle.pws_msg.specs.declared.errors.PacketError.{PacketError}
use Rattle.pws_msg.specs.declared.errors.PacketReadError.{PacketReadError}
use Rattle.pws_msg.specs.declared.errors.PacketReadError.TheVariants as read_error

-- a fault of a field, as a fault of the packet
abbrev pub packet_fault_of : FaultKind → PacketFault
packet_fault_of fault.Kind = packet_fault.Kind
packet_fault_of fault.Short = packet_fault.Short
packet_fault_of fault.Range = packet_fault.Range
packet_fault_of fault.Rest = packet_fault.Rest

abbrev pub packet_error_of : FieldFault → PacketError
packet_error_of e = record { kind = packet_fault_of e.kind; at = e.at }

abbrev pub read_error_of : FieldError → PacketReadError
read_error_of (field_error.Fault e) = read_error.Refused (packet_error_of e)
read_error_of field_error.Memory = read_error.Memory
