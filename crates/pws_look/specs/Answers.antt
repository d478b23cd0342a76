-- What is said of one text; this project's own.
use Rattle.std.specs.Prelude.{◌≡◌, ℕ, Bool, true, false, List, ◌++◌, length, codes, decimal, Option, Some, None, Result, Ok, Err}
use Rattle.hex.specs.Hex.{encode_lower}
use Rattle.pws_base.specs.declared.fields.FieldFault.{FieldFault}
use Rattle.pws_base.specs.declared.shapes.ReplicaId.{ReplicaId}
use Rattle.pws_event.specs.EventFields.{event_of}
use Rattle.pws_event.specs.Events.{digest_of}
use Rattle.pws_event.specs.declared.events.Event.{Event}
use Rattle.pws_msg.specs.Kinds.{kind_name}
use Rattle.pws_msg.specs.Contents.{kind_of}
use Rattle.pws_msg.specs.Packets.{PacketFields}
use Rattle.pws_msg.specs.PacketFields.{packet_of}
use Rattle.pws_msg.specs.declared.errors.PacketError.{PacketError}
use Rattle.pws_msg.specs.declared.errors.PacketFault.{PacketFault}
use Rattle.pws_msg.specs.declared.errors.PacketFault.TheVariants as fault
use Rattle.pws_event.specs.Words.{event_words}
use Rattle.pws_script.specs.Scripts.{Reads}
use Rattle.pws_script.specs.declared.faults.ReadScriptError.TheVariants as read_error
use Rattle.pws_script.specs.declared.faults.ScriptError.{ScriptError}
use Rattle.pws_script.specs.declared.faults.ScriptFault.{ScriptFault}
use Rattle.pws_script.specs.declared.faults.ScriptFault.TheVariants as script_fault
use Rattle.pws_script.specs.declared.instructions.Instruction.{Instruction}
use Rattle.pws_look.specs.Envelopes.{EnvelopeAnswers, SoapAnswers}
use Rattle.pws_look.specs.Good.{good, refused}
use Rattle.pws_look.specs.declared.answers.Answer.{Answer}
use Rattle.pws_look.specs.declared.words.Kind.{Kind}
use Rattle.pws_look.specs.declared.words.Kind.TheVariants as kind

-- ---- events

-- what the event is and its digest, or the place of the refusal
abbrev pub event_line : Event → List ℕ
event_line e = codes "ok " ++ event_words e ++ codes " " ++ encode_lower (digest_of e)

abbrev pub event_answer : Result Event FieldFault → Answer
event_answer (Ok e) = good (event_line e)
event_answer (Err f) = refused (codes "at " ++ decimal f.at)

-- ---- packets

abbrev pub body_words : Option (List ℕ) → List ℕ
body_words None = codes "-"
body_words (Some body) = decimal (length body)

-- who says what to whom
abbrev pub statement_words : List ℕ → ReplicaId → ℕ → List ℕ
statement_words name sender receiver = name ++ codes " " ++ decimal sender.group ++ codes "." ++ decimal sender.index ++ codes " to " ++ decimal receiver

-- how much is attached
abbrev pub attached_words : ℕ → List ℕ → ℕ → List ℕ
attached_words tags body vouchers = codes "tags " ++ decimal tags ++ codes " body " ++ body ++ codes " vouchers " ++ decimal vouchers

abbrev pub packet_line : PacketFields → List ℕ
packet_line p =
    codes "ok " ++ statement_words (kind_name (kind_of p.content)) p.sender p.receiver
    ++ codes " " ++ attached_words (length p.tags) (body_words p.body) (length p.vouchers)

abbrev pub fault_word : PacketFault → List ℕ
fault_word fault.Long = codes "Long"
fault_word fault.Short = codes "Short"
fault_word fault.Magic = codes "Magic"
fault_word fault.Version = codes "Version"
fault_word fault.Kind = codes "Kind"
fault_word fault.Range = codes "Range"
fault_word fault.Rest = codes "Rest"

-- who says what to whom and how much is attached, or the refusal and its place
abbrev pub packet_answer : Result PacketFields PacketError → Answer
packet_answer (Ok p) = good (packet_line p)
packet_answer (Err e) = refused (fault_word e.kind ++ codes " at " ++ decimal e.at)

-- ---- scripts

abbrev pub script_word : ScriptFault → List ℕ
script_word script_fault.Long = codes "Long"
script_word script_fault.Text = codes "Text"
script_word script_fault.Word = codes "Word"
script_word script_fault.Count = codes "Count"
script_word script_fault.Register = codes "Register"
script_word script_fault.Number = codes "Number"
script_word script_fault.Target = codes "Target"

-- the number of instructions, or the line that is refused and why
abbrev pub script_answer : Result (List Instruction) ScriptError → Answer
script_answer (Ok instructions) = good (codes "ok " ++ decimal (length instructions))
script_answer (Err e) = refused (codes "line " ++ decimal e.line ++ codes " " ++ script_word e.kind)

-- what a text is read as, memory aside
abbrev pub IsReadAs : List ℕ → Result (List Instruction) ScriptError → Type 0
IsReadAs text (Ok instructions) = Reads (Ok instructions) text
IsReadAs text (Err e) = Reads (Err (read_error.Script e)) text

pub record ScriptAnswers (text : List ℕ) (a : Answer) : Type 0 where
  pub read : Result (List Instruction) ScriptError
  pub is_read : IsReadAs text read
  pub answer : a ≡ script_answer read

-- ---- all kinds

-- the answer to a text that is to be of this kind; whether it is one of the lines of the input
abbrev pub Answers : Bool → Kind → List ℕ → Answer → Type 0
Answers lines kind.Event text a = a ≡ event_answer (event_of text)
Answers lines kind.Packet text a = a ≡ packet_answer (packet_of text)
Answers lines kind.Script text a = ScriptAnswers text a
Answers lines kind.Envelope text a = EnvelopeAnswers lines text a
Answers lines kind.Soap text a = SoapAnswers text a
