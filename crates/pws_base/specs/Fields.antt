-- Reading the fields of a text one after the other, and where a text is refused; numbers stand high byte first
-- (network byte order, RFC 1700). The ranges and the refusals are this project's own.
use Rattle.std.specs.Prelude.{◌≡◌, ℕ, ◌+◌, ◌<◌, ◌&&◌, ◌==◌, nat_lt, nat_le, if◌then◌else◌, List, [], length, take, drop, Result, Ok, Err}
use Rattle.std.specs.Int.{from_be_bytes, w8, w32, w64}
use Rattle.pws_base.specs.Limits.{max_number, max_body}
use Rattle.pws_base.specs.declared.fields.FaultKind.{FaultKind}
use Rattle.pws_base.specs.declared.fields.FaultKind.TheVariants.{Short, Range, Rest}
use Rattle.pws_base.specs.declared.fields.FieldFault.{FieldFault}
use Rattle.pws_base.specs.declared.fields.FieldError.{FieldError}
use Rattle.pws_base.specs.declared.fields.FieldError.TheVariants as field_error

-- the bytes of a text that aren't read yet, and the place of the first of them
pub record Unread : Type 0 where
  pub left : List ℕ
  pub at : ℕ

-- a text of which nothing is read yet
abbrev pub unread : List ℕ → Unread
unread bytes = record { left = bytes; at = 0 }

infixl 10 ◌>>=◌
abbrev pub ◌>>=◌ : {A B : Type 0} → Result A FieldFault → (A → Result B FieldFault) → Result B FieldFault
(Ok x) >>= f = f x
(Err e) >>= f = Err e

-- so many bytes further on
abbrev pub past_bytes : ℕ → Unread → Unread
past_bytes n u = record { left = drop n u.left; at = u.at + n }

-- the field that begins here is refused
abbrev pub refused : {A : Type 0} → FaultKind → Unread → Result A FieldFault
refused kind u = Err (record { kind = kind; at = u.at })

-- the next bytes, so many; Short where they aren't whole
abbrev pub bytes_field : ℕ → Unread → Result (List ℕ × Unread) FieldFault
bytes_field n u = if nat_lt (length u.left) n then refused Short u else Ok (take n u.left, past_bytes n u)

-- the next number of one, four or eight bytes
abbrev pub u8_field : Unread → Result (ℕ × Unread) FieldFault
u8_field u = if nat_lt (length u.left) 1 then refused Short u else Ok (from_be_bytes w8 (take 1 u.left), past_bytes 1 u)

abbrev pub u32_field : Unread → Result (ℕ × Unread) FieldFault
u32_field u = if nat_lt (length u.left) 4 then refused Short u else Ok (from_be_bytes w32 (take 4 u.left), past_bytes 4 u)

abbrev pub u64_field : Unread → Result (ℕ × Unread) FieldFault
u64_field u = if nat_lt (length u.left) 8 then refused Short u else Ok (from_be_bytes w64 (take 8 u.left), past_bytes 8 u)

-- the next 32 bytes, a digest or a tag
abbrev pub digest_field : Unread → Result (List ℕ × Unread) FieldFault
digest_field u = bytes_field 32 u

-- the next number of one or four bytes, Range where it isn't from low to high
abbrev pub u8_within : ℕ → ℕ → Unread → Result (ℕ × Unread) FieldFault
u8_within low high u = do
  n ← u8_field u
  if nat_le low n.0 && nat_le n.0 high then Ok n else refused Range u

abbrev pub u32_within : ℕ → ℕ → Unread → Result (ℕ × Unread) FieldFault
u32_within low high u = do
  n ← u32_field u
  if nat_le low n.0 && nat_le n.0 high then Ok n else refused Range u

-- a group, 0 to 15; the index of a replica, 0 to 9
abbrev pub group_field : Unread → Result (ℕ × Unread) FieldFault
group_field u = u8_within 0 15 u

abbrev pub index_field : Unread → Result (ℕ × Unread) FieldFault
index_field u = u8_within 0 9 u

-- a number, a place or an ask, 1 to 1,000,000; a view or a low mark, 0 to 1,000,000
abbrev pub number_field : Unread → Result (ℕ × Unread) FieldFault
number_field u = u32_within 1 max_number u

abbrev pub view_field : Unread → Result (ℕ × Unread) FieldFault
view_field u = u32_within 0 max_number u

-- bytes after their length, at most so many: one field, so that each refusal stands at the length's first byte;
-- Range where the length is above the bound, whether or not the bytes are whole
unfoldable pub sized_field : ℕ → Unread → Result (List ℕ × Unread) FieldFault
sized_field bound u = do
  size ← u32_within 0 bound u
  if nat_lt (length size.1.left) size.0 then refused Short u else Ok (take size.0 size.1.left, past_bytes size.0 size.1)

-- a body, of at most 32,768 bytes
abbrev pub body_field : Unread → Result (List ℕ × Unread) FieldFault
body_field u = sized_field max_body u

-- the value that was read, where no byte is left over; Rest at the first that is
abbrev pub ended : {A : Type 0} → A × Unread → Result A FieldFault
ended x = if length x.1.left == 0 then Ok x.0 else refused Rest x.1

-- what a reader answers, a value seen by view, is what the definition gives
abbrev pub Gives : {A B : Type 0} → (A → B) → Result A FieldFault → Unread → Result (B × Unread) FieldFault → Type 0
Gives view (Ok x) new read = read ≡ Ok (view x, new)
Gives view (Err e) new read = read ≡ Err e

-- so it is where the answer is not the want of memory
abbrev pub IsRefusal : {B : Type 0} → FieldError → Result B FieldFault → Type 0
IsRefusal field_error.Memory read = Unit {0}
IsRefusal (field_error.Fault e) read = read ≡ Err e

abbrev pub GivesOrMemory : {A B : Type 0} → (A → B) → Result A FieldError → Unread → Result (B × Unread) FieldFault → Type 0
GivesOrMemory view (Ok x) new read = read ≡ Ok (view x, new)
GivesOrMemory view (Err e) new read = IsRefusal e read

-- a reader of a whole text answers what the definition gives, or the want of memory
abbrev pub GivesWhole : {A B : Type 0} → (A → B) → Result A FieldError → Result B FieldFault → Type 0
GivesWhole view (Ok x) read = read ≡ Ok (view x)
GivesWhole view (Err e) read = IsRefusal e read

-- the test for the end of a text
abbrev pub Ends : {A : Type 0} → Result A FieldFault → Unread → Type 0
Ends (Ok x) u = u.left ≡ []
Ends (Err e) u = (0 < length u.left) × (e ≡ record { kind = Rest; at = u.at })
