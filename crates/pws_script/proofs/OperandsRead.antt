-- Operands that are read are spelled so, and lawful.
use Rattle.std.proofs.Common.{◌≡◌, ℕ, suc, ◌<◌, ◌≤◌, ◌^◌, ◌==◌, ◌&&◌, Bool, true, false, nat_lt, nat_le, if◌then◌else◌, List, [], ◌∷◌, length, map, Option, Some, None, Result, Ok, Err, refl, ◌∙◌, ap, subst, arith, decimal, All}
use Rattle.std.specs.List.{list_all}
use Rattle.std.specs.Str.{is_utf8}
use Rattle.std.proofs.lemmas.Bool.Decides.{nat_tests}
use Rattle.std.proofs.lemmas.List.Elements.{All-cons, All-nil}
use Rattle.pws_script.specs.Numbers.{number_of, below, register_of}
use Rattle.pws_script.specs.Texts.{is_word, is_name}
use Rattle.pws_script.specs.Spelling.{register_text, operation_of, operands_of, two, three, IsRegister, AreTwo, AreThree, IsLawful}
use Rattle.pws_script.specs.Reading.{◌>>=◌}
use Rattle.pws_script.specs.Steps.{or_fault, register_at, number_at, number_below_at, registers_at, one_at, two_at, three_at, set_at, jump_at, field_at, call_at, awaitany_at, none_at, of_one, of_two, of_three, instruction_at}
use Rattle.pws_script.specs.declared.faults.ScriptFault.{ScriptFault}
use Rattle.pws_script.specs.declared.faults.ScriptFault.TheVariants as fault
use Rattle.pws_script.specs.declared.operations.Operation.{Operation}
use Rattle.pws_script.specs.declared.operations.Operation.TheVariants as operation
use Rattle.pws_script.specs.declared.instructions.Literal.TheVariants as literal
use Rattle.pws_script.specs.declared.instructions.Instruction.{Instruction}
use Rattle.pws_script.specs.declared.instructions.Instruction.TheVariants as line
use Rattle.pws_script.proofs.NumberLemmas.{decimal-number_of}
use Rattle.pws_script.proofs.PieceLemmas.{both}

-- the steps of a chain that gives a value
pub record Chained {A B E : Type 0} (r : Result A E) (f : A → Result B E) (y : B) : Type 0 where
  pub value : A
  pub is : r ≡ Ok value
  pub gives : f value ≡ Ok y

pub chained : {A B E : Type 0} (r : Result A E) (f : A → Result B E) (y : B) → r >>= f ≡ Ok y → Chained r f y
chained (Ok x) f y h = record { value = x; is = refl; gives = h }
chained (Err e) f y h = absurd (cc)

pub given : {A : Type 0} (kind : ScriptFault) (o : Option A) (x : A) → or_fault kind o ≡ Ok x → o ≡ Some x
given kind None x h = absurd (cc)
given kind (Some y) x h = cc

pub tested : {A E : Type 0} (b : Bool) (x y : A) (e : E) → (if b then Ok x else Err e) ≡ Ok y → (b ≡ true) × (x ≡ y)
tested true x y e h = (refl, cc)
tested false x y e h = absurd (cc)

below_test : (b : Bool) (m n : ℕ) → (if b then Some m else None) ≡ Some n → (b ≡ true) × (m ≡ n)
below_test true m n h = (refl, cc)
below_test false m n h = absurd (cc)

below_is : (limit : ℕ) (o : Option ℕ) (n : ℕ) → below limit o ≡ Some n → (o ≡ Some n) × (n < limit)
below_is limit None n h = absurd (cc)
below_is limit (Some m) n h =
    let t = below_test (nat_lt m limit) m n h in
    let same : m ≡ n = t.1 in
    let less : m < limit = grind (arith, nat_tests, t.0) in
    (ap Some same, subst (λ k. k < limit) same less)

register_test : (b : Bool) (o : Option ℕ) (n : ℕ) → (if b then o else None) ≡ Some n → (b ≡ true) × (o ≡ Some n)
register_test true o n h = (refl, h)
register_test false o n h = absurd (cc)

pub register_of_is : (word : List ℕ) (n : ℕ) → register_of word ≡ Some n → (register_text n ≡ word) × (n < 32)
unfolding register_text
register_of_is [] n h = absurd (cc)
register_of_is (c ∷ digits) n h =
    let t = register_test (c == 114) (below 32 (number_of digits)) n h in
    let b = below_is 32 (number_of digits) n t.1 in
    let same : 114 ≡ c = grind (arith, nat_tests, t.0) in
    let spelled = (decimal-number_of digits n b.0).0 in
    (ap (λ ds. 114 ∷ ds) spelled ∙ ap (λ x. x ∷ digits) same, b.1)

pub register_is : (word : List ℕ) (n : ℕ) → register_at word ≡ Ok n → (register_text n ≡ word) × (n < 32)
register_is word n h = register_of_is word n (given fault.Register (register_of word) n h)

pub number_is : (word : List ℕ) (n : ℕ) → number_at word ≡ Ok n → (decimal n ≡ word) × (n < 2 ^ 64)
number_is word n h = decimal-number_of word n (given fault.Number (number_of word) n h)

pub number_below_is : (limit : ℕ) (word : List ℕ) (n : ℕ) → number_below_at limit word ≡ Ok n → (decimal n ≡ word) × (n < limit)
number_below_is limit word n h =
    let b = below_is limit (number_of word) n (given fault.Number (below limit (number_of word)) n h) in
    ((decimal-number_of word n b.0).0, b.1)

-- what is known of an instruction that is read
pub record IsRead (lines : ℕ) (op : Operation) (words : List (List ℕ)) (i : Instruction) : Type 0 where
  pub operation : operation_of i ≡ op
  pub operands : operands_of i ≡ words
  pub lawful : IsLawful lines i

one_is : (words : List (List ℕ)) (a : ℕ) → one_at words ≡ Ok a → (register_text a ∷ [] ≡ words) × IsRegister a
unfolding one_at
one_is [] a h = absurd (cc)
one_is (w ∷ []) a h = let r = register_is w a h in (ap (λ x. x ∷ []) r.0, r.1)
one_is (w ∷ x ∷ more) a h = absurd (cc)

two_is : (words : List (List ℕ)) (p : ℕ × ℕ) → two_at words ≡ Ok p → (two p.0 p.1 ≡ words) × AreTwo p.0 p.1
unfolding two_at
two_is [] p h = absurd (cc)
two_is (w ∷ []) p h = absurd (cc)
two_is (w ∷ x ∷ []) p h =
    let a = chained (register_at w) (λ first. register_at x >>= λ second. Ok (first, second)) p h in
    let b = chained (register_at x) (λ second. Ok (a.value, second)) p a.gives in
    let same : (a.value, b.value) ≡ p = cc in
    let r = register_is w a.value a.is in
    let s = register_is x b.value b.is in
    subst (λ (q : ℕ × ℕ). (two q.0 q.1 ≡ w ∷ x ∷ []) × AreTwo q.0 q.1) same (ap (λ y. y ∷ register_text b.value ∷ []) r.0 ∙ ap (λ y. w ∷ y ∷ []) s.0, (r.1, s.1))
two_is (w ∷ x ∷ y ∷ more) p h = absurd (cc)

three_is : (words : List (List ℕ)) (p : ℕ × ℕ × ℕ) → three_at words ≡ Ok p → (three p.0 p.1 p.2 ≡ words) × AreThree p.0 p.1 p.2
unfolding three_at
three_is [] p h = absurd (cc)
three_is (w ∷ []) p h = absurd (cc)
three_is (w ∷ x ∷ []) p h = absurd (cc)
three_is (w ∷ x ∷ y ∷ []) p h =
    let a = chained (register_at w) (λ first. register_at x >>= λ second. register_at y >>= λ third. Ok (first, second, third)) p h in
    let b = chained (register_at x) (λ second. register_at y >>= λ third. Ok (a.value, second, third)) p a.gives in
    let c = chained (register_at y) (λ third. Ok (a.value, b.value, third)) p b.gives in
    let same : (a.value, b.value, c.value) ≡ p = cc in
    let r = register_is w a.value a.is in
    let s = register_is x b.value b.is in
    let t = register_is y c.value c.is in
    subst (λ (q : ℕ × ℕ × ℕ). (three q.0 q.1 q.2 ≡ w ∷ x ∷ y ∷ []) × AreThree q.0 q.1 q.2) same
    (ap (λ z. z ∷ two b.value c.value) r.0 ∙ (ap (λ z. w ∷ z ∷ register_text c.value ∷ []) s.0 ∙ ap (λ z. w ∷ x ∷ z ∷ []) t.0), (r.1, s.1, t.1))
three_is (w ∷ x ∷ y ∷ z ∷ more) p h = absurd (cc)

of_one_is : (make : ℕ → Instruction) (lines : ℕ) (op : Operation) → ((a : ℕ) → operation_of (make a) ≡ op) → ((a : ℕ) → operands_of (make a) ≡ register_text a ∷ []) → ((a : ℕ) → IsRegister a → IsLawful lines (make a)) → (words : List (List ℕ)) (i : Instruction) → of_one make words ≡ Ok i → IsRead lines op words i
of_one_is make lines op o s l words i h =
    let c = chained (one_at words) (λ a. Ok (make a)) i h in
    let t = one_is words c.value c.is in
    let same : make c.value ≡ i = cc in
    subst (IsRead lines op words) same (record { operation = o c.value; operands = s c.value ∙ t.0; lawful = l c.value t.1 })

of_two_is : (make : ℕ → ℕ → Instruction) (lines : ℕ) (op : Operation) → ((a b : ℕ) → operation_of (make a b) ≡ op) → ((a b : ℕ) → operands_of (make a b) ≡ two a b) → ((a b : ℕ) → AreTwo a b → IsLawful lines (make a b)) → (words : List (List ℕ)) (i : Instruction) → of_two make words ≡ Ok i → IsRead lines op words i
of_two_is make lines op o s l words i h =
    let c = chained (two_at words) (λ r. Ok (make r.0 r.1)) i h in
    let t = two_is words c.value c.is in
    let same : make c.value.0 c.value.1 ≡ i = cc in
    subst (IsRead lines op words) same (record { operation = o c.value.0 c.value.1; operands = s c.value.0 c.value.1 ∙ t.0; lawful = l c.value.0 c.value.1 t.1 })

of_three_is : (make : ℕ → ℕ → ℕ → Instruction) (lines : ℕ) (op : Operation) → ((a b c : ℕ) → operation_of (make a b c) ≡ op) → ((a b c : ℕ) → operands_of (make a b c) ≡ three a b c) → ((a b c : ℕ) → AreThree a b c → IsLawful lines (make a b c)) → (words : List (List ℕ)) (i : Instruction) → of_three make words ≡ Ok i → IsRead lines op words i
of_three_is make lines op o s l words i h =
    let c = chained (three_at words) (λ r. Ok (make r.0 r.1 r.2)) i h in
    let t = three_is words c.value c.is in
    let same : make c.value.0 c.value.1 c.value.2 ≡ i = cc in
    subst (IsRead lines op words) same (record { operation = o c.value.0 c.value.1 c.value.2; operands = s c.value.0 c.value.1 c.value.2 ∙ t.0; lawful = l c.value.0 c.value.1 c.value.2 t.1 })

set_is : (lines : ℕ) (words : List (List ℕ)) (i : Instruction) → set_at words ≡ Ok i → IsRead lines operation.Set words i
unfolding set_at
set_is lines [] i h = absurd (cc)
set_is lines (w ∷ []) i h = absurd (cc)
set_is lines (w ∷ x ∷ []) i h =
    let a = chained (register_at w) (λ target. number_at x >>= λ number. Ok (line.Set target (literal.Number number))) i h in
    let b = chained (number_at x) (λ number. Ok (line.Set a.value (literal.Number number))) i a.gives in
    let same : line.Set a.value (literal.Number b.value) ≡ i = cc in
    let r = register_is w a.value a.is in
    let s = number_is x b.value b.is in
    subst (IsRead lines operation.Set (w ∷ x ∷ [])) same (record { operation = refl; operands = ap (λ z. z ∷ decimal b.value ∷ []) r.0 ∙ ap (λ z. w ∷ z ∷ []) s.0; lawful = (r.1, s.1) })
set_is lines (w ∷ x ∷ y ∷ more) i h = absurd (cc)

jump_is : (lines : ℕ) (words : List (List ℕ)) (i : Instruction) → jump_at lines words ≡ Ok i → IsRead lines operation.Jump words i
unfolding jump_at
jump_is lines [] i h = absurd (cc)
jump_is lines (w ∷ []) i h = absurd (cc)
jump_is lines (w ∷ x ∷ []) i h =
    let a = chained (register_at x) (λ test. number_at w >>= λ to. if nat_le 1 to && nat_le to lines then Ok (line.Jump to test) else Err fault.Target) i h in
    let b = chained (number_at w) (λ to. if nat_le 1 to && nat_le to lines then Ok (line.Jump to a.value) else Err fault.Target) i a.gives in
    let t = tested (nat_le 1 b.value && nat_le b.value lines) (line.Jump b.value a.value) i fault.Target b.gives in
    let range = both (nat_le 1 b.value) (nat_le b.value lines) t.0 in
    let low : 1 ≤ b.value = grind (arith, nat_tests, range.0) in
    let high : b.value ≤ lines = grind (arith, nat_tests, range.1) in
    let r = register_is x a.value a.is in
    let s = number_is w b.value b.is in
    subst (IsRead lines operation.Jump (w ∷ x ∷ [])) t.1 (record { operation = refl; operands = ap (λ z. z ∷ register_text a.value ∷ []) s.0 ∙ ap (λ z. w ∷ z ∷ []) r.0; lawful = (low, high, r.1) })
jump_is lines (w ∷ x ∷ y ∷ more) i h = absurd (cc)

call_is : (lines : ℕ) (words : List (List ℕ)) (i : Instruction) → call_at words ≡ Ok i → IsRead lines operation.Call words i
unfolding call_at
call_is lines [] i h = absurd (cc)
call_is lines (w ∷ []) i h = absurd (cc)
call_is lines (w ∷ x ∷ []) i h = absurd (cc)
call_is lines (w ∷ x ∷ y ∷ []) i h = absurd (cc)
call_is lines (w ∷ x ∷ y ∷ z ∷ []) i h =
    let a = chained (register_at w) (λ target. register_at y >>= λ text. number_below_at 16 x >>= λ group. number_below_at (2 ^ 32) z >>= λ timeout. Ok (line.Call target group text timeout)) i h in
    let b = chained (register_at y) (λ text. number_below_at 16 x >>= λ group. number_below_at (2 ^ 32) z >>= λ timeout. Ok (line.Call a.value group text timeout)) i a.gives in
    let c = chained (number_below_at 16 x) (λ group. number_below_at (2 ^ 32) z >>= λ timeout. Ok (line.Call a.value group b.value timeout)) i b.gives in
    let d = chained (number_below_at (2 ^ 32) z) (λ timeout. Ok (line.Call a.value c.value b.value timeout)) i c.gives in
    let same : line.Call a.value c.value b.value d.value ≡ i = cc in
    let r = register_is w a.value a.is in
    let s = register_is y b.value b.is in
    let t = number_below_is 16 x c.value c.is in
    let u = number_below_is (2 ^ 32) z d.value d.is in
    let spelled : register_text a.value ∷ decimal c.value ∷ register_text b.value ∷ decimal d.value ∷ [] ≡ w ∷ x ∷ y ∷ z ∷ [] = rw (r.0, s.0, t.0, u.0) refl in
    subst (IsRead lines operation.Call (w ∷ x ∷ y ∷ z ∷ [])) same (record { operation = refl; operands = spelled; lawful = (r.1, t.1, s.1, u.1) })
call_is lines (w ∷ x ∷ y ∷ z ∷ v ∷ more) i h = absurd (cc)

none_is : (instruction : Instruction) (lines : ℕ) (op : Operation) → operation_of instruction ≡ op → operands_of instruction ≡ [] → IsLawful lines instruction → (words : List (List ℕ)) (i : Instruction) → none_at instruction words ≡ Ok i → IsRead lines op words i
unfolding none_at
none_is instruction lines op o s l [] i h =
    let same : instruction ≡ i = cc in
    subst (IsRead lines op []) same (record { operation = o; operands = s; lawful = l })
none_is instruction lines op o s l (w ∷ more) i h = absurd (cc)

-- registers that are read, and how many
pub record AreRead (words : List (List ℕ)) (indices : List ℕ) : Type 0 where
  pub spelled : map register_text indices ≡ words
  pub lawful : All IsRegister indices
  pub count : length indices ≡ length words

registers_are : (words : List (List ℕ)) (indices : List ℕ) → registers_at words ≡ Ok indices → AreRead words indices
registers_are [] indices h =
    let same : [] ≡ indices = cc in
    subst (AreRead []) same (record { spelled = refl; lawful = All-nil IsRegister; count = refl })
registers_are (w ∷ words) indices h =
    let a = chained (register_at w) (λ index. registers_at words >>= λ more. Ok (index ∷ more)) indices h in
    let b = chained (registers_at words) (λ more. Ok (a.value ∷ more)) indices a.gives in
    let same : a.value ∷ b.value ≡ indices = cc in
    let r = register_is w a.value a.is in
    let rest = registers_are words b.value b.is in
    subst (AreRead (w ∷ words)) same
    (record {
      spelled = ap (λ z. z ∷ map register_text b.value) r.0 ∙ ap (λ z. w ∷ z) rest.spelled;
      lawful = All-cons IsRegister a.value b.value r.1 rest.lawful;
      count = ap suc rest.count;
    })

awaitany_test : {A E : Type 0} (b : Bool) (e : E) (r : Result A E) (y : A) → (if b then Err e else r) ≡ Ok y → (b ≡ false) × (r ≡ Ok y)
awaitany_test true e r y h = absurd (cc)
awaitany_test false e r y h = (refl, h)

awaitany_is : (lines : ℕ) (words : List (List ℕ)) (i : Instruction) → awaitany_at words ≡ Ok i → IsRead lines operation.AwaitAny words i
unfolding awaitany_at
awaitany_is lines [] i h = absurd (cc)
awaitany_is lines (w ∷ []) i h = absurd (cc)
awaitany_is lines (w ∷ x ∷ []) i h = absurd (cc)
awaitany_is lines (w ∷ x ∷ y ∷ more) i h =
    let t = awaitany_test (nat_lt 7 (length more)) fault.Count (register_at w >>= λ call. register_at x >>= λ message. registers_at (y ∷ more) >>= λ calls. Ok (line.AwaitAny call message calls)) i h in
    let a = chained (register_at w) (λ call. register_at x >>= λ message. registers_at (y ∷ more) >>= λ calls. Ok (line.AwaitAny call message calls)) i t.1 in
    let b = chained (register_at x) (λ message. registers_at (y ∷ more) >>= λ calls. Ok (line.AwaitAny a.value message calls)) i a.gives in
    let c = chained (registers_at (y ∷ more)) (λ calls. Ok (line.AwaitAny a.value b.value calls)) i b.gives in
    let same : line.AwaitAny a.value b.value c.value ≡ i = cc in
    let r = register_is w a.value a.is in
    let s = register_is x b.value b.is in
    let calls = registers_are (y ∷ more) c.value c.is in
    let few : length more ≤ 7 = grind (arith, nat_tests, t.0) in
    let some : 1 ≤ length c.value = omega (arith, calls.count) in
    let most : length c.value ≤ 8 = omega (arith, calls.count) in
    subst (IsRead lines operation.AwaitAny (w ∷ x ∷ y ∷ more)) same
    (record {
      operation = refl;
      operands = ap (λ z. z ∷ register_text b.value ∷ map register_text c.value) r.0 ∙ (ap (λ z. w ∷ z ∷ map register_text c.value) s.0 ∙ ap (λ z. w ∷ x ∷ z) calls.spelled);
      lawful = (r.1, s.1, some, most, calls.lawful);
    })

-- a word of a line that is UTF-8
abbrev pub is_plain : List ℕ → Bool
is_plain word = is_word word && is_utf8 word

name_is : (word : List ℕ) → is_plain word ≡ true → (length word == 0) ≡ false → is_name word ≡ true
unfolding is_name
name_is word p s =
    let parts = both (is_word word) (is_utf8 word) p in
    let some : nat_le 1 (length word) ≡ true = grind (arith, nat_tests, s) in
    rw (some, parts.1, parts.0) refl

field_is : (lines : ℕ) (words : List (List ℕ)) (i : Instruction) → list_all is_plain words ≡ true → field_at words ≡ Ok i → IsRead lines operation.Field words i
unfolding field_at
field_is lines [] i p h = absurd (cc)
field_is lines (w ∷ []) i p h = absurd (cc)
field_is lines (w ∷ x ∷ []) i p h = absurd (cc)
field_is lines (w ∷ x ∷ y ∷ []) i p h =
    let t = awaitany_test (length y == 0) fault.Count (register_at w >>= λ target. register_at x >>= λ message. Ok (line.Field target message y)) i h in
    let a = chained (register_at w) (λ target. register_at x >>= λ message. Ok (line.Field target message y)) i t.1 in
    let b = chained (register_at x) (λ message. Ok (line.Field a.value message y)) i a.gives in
    let same : line.Field a.value b.value y ≡ i = cc in
    let r = register_is w a.value a.is in
    let s = register_is x b.value b.is in
    let rest = (both (is_plain w) (is_plain x && (is_plain y && true)) p).1 in
    let last = (both (is_plain x) (is_plain y && true) rest).1 in
    let name = (both (is_plain y) true last).0 in
    subst (IsRead lines operation.Field (w ∷ x ∷ y ∷ [])) same
    (record {
      operation = refl;
      operands = ap (λ z. z ∷ register_text b.value ∷ y ∷ []) r.0 ∙ ap (λ z. w ∷ z ∷ y ∷ []) s.0;
      lawful = (r.1, s.1, name_is y name t.0);
    })
field_is lines (w ∷ x ∷ y ∷ z ∷ more) i p h = absurd (cc)

-- what is read is spelled so, and lawful
pub instruction_is : (lines : ℕ) (op : Operation) (words : List (List ℕ)) (i : Instruction) → list_all is_plain words ≡ true → instruction_at lines op words ≡ Ok i → IsRead lines op words i
unfolding instruction_at
instruction_is lines operation.Set words i p h = set_is lines words i h
instruction_is lines operation.Add words i p h = of_three_is line.Add lines operation.Add (λ a b c. refl) (λ a b c. refl) (λ a b c k. k) words i h
instruction_is lines operation.Sub words i p h = of_three_is line.Sub lines operation.Sub (λ a b c. refl) (λ a b c. refl) (λ a b c k. k) words i h
instruction_is lines operation.Less words i p h = of_three_is line.Less lines operation.Less (λ a b c. refl) (λ a b c. refl) (λ a b c k. k) words i h
instruction_is lines operation.Same words i p h = of_three_is line.Same lines operation.Same (λ a b c. refl) (λ a b c. refl) (λ a b c k. k) words i h
instruction_is lines operation.Jump words i p h = jump_is lines words i h
instruction_is lines operation.Join words i p h = of_three_is line.Join lines operation.Join (λ a b c. refl) (λ a b c. refl) (λ a b c k. k) words i h
instruction_is lines operation.Field words i p h = field_is lines words i p h
instruction_is lines operation.Receive words i p h = of_two_is line.Receive lines operation.Receive (λ a b. refl) (λ a b. refl) (λ a b k. k) words i h
instruction_is lines operation.Call words i p h = call_is lines words i h
instruction_is lines operation.Await words i p h = of_two_is line.Await lines operation.Await (λ a b. refl) (λ a b. refl) (λ a b k. k) words i h
instruction_is lines operation.AwaitAny words i p h = awaitany_is lines words i h
instruction_is lines operation.Next words i p h = of_two_is line.Next lines operation.Next (λ a b. refl) (λ a b. refl) (λ a b k. k) words i h
instruction_is lines operation.Reply words i p h = of_two_is line.Reply lines operation.Reply (λ a b. refl) (λ a b. refl) (λ a b k. k) words i h
instruction_is lines operation.Clock words i p h = of_one_is line.Clock lines operation.Clock (λ a. refl) (λ a. refl) (λ a k. k) words i h
instruction_is lines operation.Seed words i p h = none_is line.Seed lines operation.Seed refl refl tt words i h
instruction_is lines operation.Draw words i p h = of_two_is line.Draw lines operation.Draw (λ a b. refl) (λ a b. refl) (λ a b k. k) words i h
instruction_is lines operation.Stop words i p h = none_is line.Stop lines operation.Stop refl refl tt words i h
