-- Lawful operands that are spelled are read as themselves.
use Rattle.std.proofs.Common.{◌≡◌, ℕ, suc, ◌<◌, ◌≤◌, ◌^◌, ◌==◌, ◌&&◌, Bool, true, false, nat_lt, nat_le, List, [], ◌∷◌, length, map, Some, Ok, refl, ◌∙◌, ap, arith, decimal, All, lit≤}
use Rattle.std.proofs.lemmas.List.{length-map}
use Rattle.std.specs.Str.{is_utf8}
use Rattle.std.proofs.lemmas.Bool.Decides.{nat_tests}
use Rattle.pws_script.specs.Numbers.{below, register_of}
use Rattle.pws_script.specs.Texts.{is_name, is_word}
use Rattle.pws_script.specs.Operations.{name_of, operation_named}
use Rattle.pws_script.specs.Spelling.{register_text, operation_of, operands_of, two, three, IsRegister, AreTwo, AreThree, IsLawful}
use Rattle.pws_script.specs.Steps.{or_fault, register_at, number_at, number_below_at, registers_at, one_at, two_at, three_at, set_at, jump_at, field_at, call_at, awaitany_at, none_at, of_one, of_two, of_three, instruction_at}
use Rattle.pws_script.specs.declared.faults.ScriptFault.TheVariants as fault
use Rattle.pws_script.specs.declared.operations.Operation.{Operation}
use Rattle.pws_script.specs.declared.operations.Operation.TheVariants as operation
use Rattle.pws_script.specs.declared.instructions.Literal.TheVariants as literal
use Rattle.pws_script.specs.declared.instructions.Instruction.{Instruction}
use Rattle.pws_script.specs.declared.instructions.Instruction.TheVariants as line
use Rattle.pws_script.proofs.NumberLemmas.{number_of-decimal}
use Rattle.pws_script.proofs.PieceLemmas.{both}

below_read : (limit n : ℕ) → n < limit → below limit (Some n) ≡ Some n
below_read limit n h =
    let less : nat_lt n limit ≡ true = grind (arith, nat_tests, h) in
    rw less refl

pub register_of_text : (n : ℕ) → n < 32 → register_of (register_text n) ≡ Some n
unfolding register_text
register_of_text n h = ap (below 32) (number_of-decimal n (omega arith)) ∙ below_read 32 n h

pub register_read : (n : ℕ) → n < 32 → register_at (register_text n) ≡ Ok n
register_read n h = ap (or_fault fault.Register) (register_of_text n h)

pub number_read : (n : ℕ) → n < 2 ^ 64 → number_at (decimal n) ≡ Ok n
number_read n h = ap (or_fault fault.Number) (number_of-decimal n h)

pub number_below_read : (limit n : ℕ) → limit ≤ 2 ^ 64 → n < limit → number_below_at limit (decimal n) ≡ Ok n
number_below_read limit n l h = ap (or_fault fault.Number) (ap (below limit) (number_of-decimal n (omega arith)) ∙ below_read limit n h)

pub head_of : {A : Type 0} (P : A → Type 0) (x : A) (xs : List A) → All P (x ∷ xs) → P x
head_of P x xs h = h 0 x (omega arith)

pub tail_of : {A : Type 0} (P : A → Type 0) (x : A) (xs : List A) → All P (x ∷ xs) → All P xs
tail_of P x xs h k d l = h (suc k) d (omega (arith, l))

registers_read : (indices : List ℕ) → All IsRegister indices → registers_at (map register_text indices) ≡ Ok indices
registers_read [] h = refl
registers_read (x ∷ xs) h = rw (register_read x (head_of IsRegister x xs h), registers_read xs (tail_of IsRegister x xs h)) refl

one_read : (make : ℕ → Instruction) (a : ℕ) → IsRegister a → of_one make (register_text a ∷ []) ≡ Ok (make a)
unfolding one_at
one_read make a h = rw (register_read a h) refl

two_read : (make : ℕ → ℕ → Instruction) (a b : ℕ) → AreTwo a b → of_two make (two a b) ≡ Ok (make a b)
unfolding two_at
two_read make a b h = rw (register_read a h.0, register_read b h.1) refl

three_read : (make : ℕ → ℕ → ℕ → Instruction) (a b c : ℕ) → AreThree a b c → of_three make (three a b c) ≡ Ok (make a b c)
unfolding three_at
three_read make a b c h = rw (register_read a h.0, register_read b h.1, register_read c h.2) refl

set_read : (target n : ℕ) → target < 32 → n < 2 ^ 64 → set_at (register_text target ∷ decimal n ∷ []) ≡ Ok (line.Set target (literal.Number n))
unfolding set_at
set_read target n t h = rw (register_read target t, number_read n h) refl

jump_read : (lines to test : ℕ) → to < 2 ^ 64 → 1 ≤ to → to ≤ lines → test < 32 → jump_at lines (decimal to ∷ register_text test ∷ []) ≡ Ok (line.Jump to test)
unfolding jump_at
jump_read lines to test small low high t =
    let first : nat_le 1 to ≡ true = grind (arith, nat_tests, low) in
    let last : nat_le to lines ≡ true = grind (arith, nat_tests, high) in
    rw (register_read test t, number_read to small, first, last) refl

not_empty : (xs : List ℕ) → 1 ≤ length xs → (length xs == 0) ≡ false
not_empty xs h = grind (arith, nat_tests, h)

-- what is known of a name
pub record Name (name : List ℕ) : Type 0 where
  pub some : 1 ≤ length name
  pub utf8 : is_utf8 name ≡ true
  pub word : is_word name ≡ true

pub name_known : (name : List ℕ) → is_name name ≡ true → Name name
unfolding is_name
name_known name h =
    let outer = both (nat_le 1 (length name) && is_utf8 name) (is_word name) h in
    let inner = both (nat_le 1 (length name)) (is_utf8 name) outer.0 in
    record { some = grind (arith, nat_tests, inner.0); utf8 = inner.1; word = outer.1 }

field_read : (target message : ℕ) (name : List ℕ) → target < 32 → message < 32 → is_name name ≡ true → field_at (register_text target ∷ register_text message ∷ name ∷ []) ≡ Ok (line.Field target message name)
unfolding field_at
field_read target message name t m n =
    rw (not_empty name (name_known name n).some, register_read target t, register_read message m) refl

call_read : (target group text timeout : ℕ) → target < 32 → group < 16 → text < 32 → timeout < 2 ^ 32 → call_at (register_text target ∷ decimal group ∷ register_text text ∷ decimal timeout ∷ []) ≡ Ok (line.Call target group text timeout)
unfolding call_at
call_read target group text timeout t g x m =
    rw (register_read target t, register_read text x, number_below_read 16 group (lit≤ tt) g, number_below_read (2 ^ 32) timeout (lit≤ tt) m) refl

awaitany_read : (call message : ℕ) (calls : List ℕ) → call < 32 → message < 32 → 1 ≤ length calls → length calls ≤ 8 → All IsRegister calls → awaitany_at (register_text call ∷ register_text message ∷ map register_text calls) ≡ Ok (line.AwaitAny call message calls)
unfolding awaitany_at
awaitany_read call message [] c m s f a = absurd (omega (arith, s))
awaitany_read call message (x ∷ xs) c m s f a =
    let few : nat_lt 7 (length (map register_text xs)) ≡ false = grind (arith, nat_tests, length-map xs register_text, f) in
    rw (few, register_read call c, register_read message m, registers_read (x ∷ xs) a) refl

none_read : (instruction : Instruction) → none_at instruction [] ≡ Ok instruction
unfolding none_at
none_read instruction = refl

pub named_read : (o : Operation) → operation_named (name_of o) ≡ Some o
unfolding operation_named
named_read operation.Set = refl
named_read operation.Add = refl
named_read operation.Sub = refl
named_read operation.Less = refl
named_read operation.Same = refl
named_read operation.Jump = refl
named_read operation.Join = refl
named_read operation.Field = refl
named_read operation.Receive = refl
named_read operation.Call = refl
named_read operation.Await = refl
named_read operation.AwaitAny = refl
named_read operation.Next = refl
named_read operation.Reply = refl
named_read operation.Clock = refl
named_read operation.Seed = refl
named_read operation.Draw = refl
named_read operation.Stop = refl

-- whether an instruction is no `set` with a text
abbrev pub has_words : Instruction → Bool
has_words (line.Set target (literal.Text text)) = false
has_words (line.Set target (literal.Number n)) = true
has_words (line.Add target left right) = true
has_words (line.Sub target left right) = true
has_words (line.Less target left right) = true
has_words (line.Same target left right) = true
has_words (line.Jump to test) = true
has_words (line.Join target left right) = true
has_words (line.Field target message name) = true
has_words (line.Receive request message) = true
has_words (line.Call target group text timeout) = true
has_words (line.Await message call) = true
has_words (line.AwaitAny call message calls) = true
has_words (line.Next source message) = true
has_words (line.Reply request text) = true
has_words (line.Clock target) = true
has_words line.Seed = true
has_words (line.Draw target modulus) = true
has_words line.Stop = true

pub instruction_read : (lines : ℕ) (i : Instruction) → lines ≤ 1000 → has_words i ≡ true → IsLawful lines i → instruction_at lines (operation_of i) (operands_of i) ≡ Ok i
unfolding instruction_at
instruction_read lines (line.Set target (literal.Text text)) m w h = absurd (cc)
instruction_read lines (line.Set target (literal.Number n)) m w h = set_read target n h.0 h.1
instruction_read lines (line.Add target left right) m w h = three_read line.Add target left right h
instruction_read lines (line.Sub target left right) m w h = three_read line.Sub target left right h
instruction_read lines (line.Less target left right) m w h = three_read line.Less target left right h
instruction_read lines (line.Same target left right) m w h = three_read line.Same target left right h
instruction_read lines (line.Jump to test) m w h = jump_read lines to test (omega (arith, h.1)) h.0 h.1 h.2
instruction_read lines (line.Join target left right) m w h = three_read line.Join target left right h
instruction_read lines (line.Field target message name) m w h = field_read target message name h.0 h.1 h.2
instruction_read lines (line.Receive request message) m w h = two_read line.Receive request message h
instruction_read lines (line.Call target group text timeout) m w h = call_read target group text timeout h.0 h.1 h.2 h.3
instruction_read lines (line.Await message call) m w h = two_read line.Await message call h
instruction_read lines (line.AwaitAny call message calls) m w h = awaitany_read call message calls h.0 h.1 h.2 h.3 h.4
instruction_read lines (line.Next source message) m w h = two_read line.Next source message h
instruction_read lines (line.Reply request text) m w h = two_read line.Reply request text h
instruction_read lines (line.Clock target) m w h = one_read line.Clock target h
instruction_read lines line.Seed m w h = none_read line.Seed
instruction_read lines (line.Draw target modulus) m w h = two_read line.Draw target modulus h
instruction_read lines line.Stop m w h = none_read line.Stop
