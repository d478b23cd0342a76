-- What drivers make fits into a body.
use Rattle.std.proofs.Common.{◌≡◌, ℕ, zero, suc, ◌+◌, ◌*◌, ◌/◌, ◌%◌, ◌<◌, ◌≤◌, ◌==◌, Bool, true, false, cond, List, [], ◌∷◌, ◌++◌, length, refl, ap, subst, arith, length-append}
use Rattle.std.specs.Prelude.{if◌then◌else◌, Option, Some, None, position, unwrap_or}
use Rattle.std.specs.List.{flat_map}
use Rattle.std.specs.Fmt.{decimal, digits, digits_onto, digit_glyph}
use Rattle.std.specs.Str.{bytes_eq}
use Rattle.std.proofs.lemmas.Bool.{leb-true}
use Rattle.std.proofs.lemmas.Fmt.{length-decimal-le}
use Rattle.pws_tree.specs.Names.{envelope_space, value_word}
use Rattle.pws_tree.specs.Trees.{Tree, NoNode}
use Rattle.pws_mark.specs.Canonical.{xml_space, xml_word, declaration_word, declaration_text, value_byte, value_text, declarations_text, spaces_of, canonical}
use Rattle.pws_soap.specs.Envelopes.{element_then, root_of}
use Rattle.pws_soap.specs.Faults.{fault_tree, envelope_around, word_of}
use Rattle.pws_soap.specs.Names.{envelope_word, header_word, body_word, fault_word, code_word, subcode_word, reason_word, text_word, lang_word, english, addressing_space}
use Rattle.pws_addr.specs.Blocks.{blocks_of}
use Rattle.pws_addr.specs.Causes.{fault_of, header_required, invalid_header}
use Rattle.pws_addr.specs.Envelopes.{fault_action, fits, call_envelope_text, call_text, fault_envelope_text, fault_text, reply_envelope_text, reply_text, bare_fault_text}
use Rattle.pws_addr.specs.Headers.{anonymous, header_local}
use Rattle.pws_addr.specs.Identifiers.{reply_word, three_numbers}
use Rattle.pws_addr.specs.Laws.{CallsFit, FaultsFit, BareFaultsFit, RepliesFit}
use Rattle.pws_addr.proofs.Weights.{HasShortPrefixes, value_short, tree_weight, canonical_short}
use Rattle.pws_addr.specs.declared.causes.Cause.{Cause}
use Rattle.pws_addr.specs.declared.causes.Cause.TheVariants as cause
use Rattle.pws_addr.specs.declared.headers.Addressing.{Addressing}

-- the root of a fault that answers a request without addressing, with this identifier
abbrev pub unaddressed : List ℕ → Addressing
unaddressed id = record {
  to = anonymous;
  action = fault_action;
  message_id = Some id;
  relates_to = [];
  reply_to = None;
  from = None;
  fault_to = None;
}

abbrev pub fault_root : List ℕ → Cause → Tree
fault_root id c = root_of (record { headers = blocks_of (unaddressed id); body = element_then (fault_tree (fault_of c)) NoNode })

abbrev pub both_spaces : List (List ℕ)
both_spaces = envelope_space ∷ addressing_space ∷ []

spaces_are : (x : ℕ) (xs : List ℕ) (c : Cause) → spaces_of (fault_root (x ∷ xs) c) ≡ both_spaces
unfolding envelope_space addressing_space xml_space anonymous fault_action fault_of
spaces_are x xs cause.BadVersion = refl
spaces_are x xs cause.NotUnderstood = refl
spaces_are x xs cause.BadEnvelope = refl
spaces_are x xs cause.NoAction = refl
spaces_are x xs cause.BadAddressing = refl
spaces_are x xs cause.Halted = refl
spaces_are x xs cause.ReplyTooLong = refl
spaces_are x xs cause.TimedOut = refl
spaces_are x xs cause.UnreadableReply = refl

digit_short : (n : ℕ) → n < 10 → length (110 ∷ decimal n) ≤ 4
digit_short n low = omega (arith, length-decimal-le 1 n (omega arith) (omega arith) (omega arith))

abbrev pub place_of : Bool → Bool → ℕ
place_of a b = unwrap_or (position (λ (y : Bool). y) (a ∷ b ∷ [])) 0

place_short : (a b : Bool) → length (110 ∷ decimal (place_of a b)) ≤ 4
place_short true true = digit_short 0 (omega arith)
place_short true false = digit_short 0 (omega arith)
place_short false true = digit_short 1 (omega arith)
place_short false false = digit_short 0 (omega arith)

prefix_either : (x a b : Bool) → length (if x then xml_word else 110 ∷ decimal (place_of a b)) ≤ 4
unfolding xml_word
prefix_either true a b = omega arith
prefix_either false a b = place_short a b

short_prefixes : HasShortPrefixes both_spaces
short_prefixes = record { short = λ space. prefix_either (bytes_eq space xml_space) (bytes_eq space envelope_space) (bytes_eq space addressing_space) }

declaration_short : (n : ℕ) (space : List ℕ) → n < 10 → length (declaration_text (n, space)) ≤ length declaration_word + 6 * length space + 4
declaration_short n space low =
    omega (
      arith,
      length-append declaration_word (decimal n ++ value_text space),
      length-append (decimal n) (value_text space),
      length-append (flat_map value_byte space) (34 ∷ []),
      value_short space,
      length-decimal-le 1 n (omega arith) (omega arith) (omega arith),
    )

both_declared : declarations_text both_spaces ≡ declaration_text (0, envelope_space) ++ (declaration_text (1, addressing_space) ++ [])
both_declared = refl

spaces_short : (length declaration_word + 6 * length envelope_space + 4) + (length declaration_word + 6 * length addressing_space + 4) ≤ 1000
unfolding declaration_word envelope_space addressing_space
spaces_short = omega arith

declared_short : length (declarations_text both_spaces) ≤ 1000
declared_short =
    let none : List ℕ = [] in
    omega (
      arith,
      ap length both_declared,
      length-append (declaration_text (0, envelope_space)) (declaration_text (1, addressing_space) ++ []),
      length-append (declaration_text (1, addressing_space)) none,
      declaration_short 0 envelope_space (omega arith),
      declaration_short 1 addressing_space (omega arith),
      spaces_short,
    )

-- how long such a fault is at most
root_light : (x : ℕ) (xs : List ℕ) (c : Cause) → length xs ≤ 207 → tree_weight (fault_root (x ∷ xs) c) ≤ 31768
unfolding envelope_space addressing_space anonymous fault_action header_local envelope_word header_word body_word fault_word code_word subcode_word reason_word text_word lang_word english value_word xml_space word_of fault_of header_required invalid_header
root_light x xs cause.BadVersion few = omega arith
root_light x xs cause.NotUnderstood few = omega arith
root_light x xs cause.BadEnvelope few = omega arith
root_light x xs cause.NoAction few = omega arith
root_light x xs cause.BadAddressing few = omega arith
root_light x xs cause.Halted few = omega arith
root_light x xs cause.ReplyTooLong few = omega arith
root_light x xs cause.TimedOut few = omega arith
root_light x xs cause.UnreadableReply few = omega arith

root_short : (x : ℕ) (xs : List ℕ) (c : Cause) → length xs ≤ 207 → length (canonical (fault_root (x ∷ xs) c)) ≤ 32768
root_short x xs c few = omega (arith, canonical_short both_spaces (fault_root (x ∷ xs) c) (spaces_are x xs c) short_prefixes, root_light x xs c few, declared_short)

-- a number has at most 64 digits, as numbers are written
onto_either : (b : Bool) (xs ys : List ℕ) (k : ℕ) → length xs ≤ k → length ys ≤ k → length (cond b xs ys) ≤ k
onto_either true xs ys k hx hy = hx
onto_either false xs ys k hx hy = hy

onto_short : (k n : ℕ) (acc : List ℕ) → length (digits_onto k 10 false n acc) ≤ k + length acc
onto_short zero n acc = omega arith
onto_short (suc k) n acc =
    let more = onto_short k (n / 10) (digit_glyph false (n % 10) ∷ acc) in
    onto_either (n / 10 == 0) (digit_glyph false (n % 10) ∷ acc) (digits_onto k 10 false (n / 10) (digit_glyph false (n % 10) ∷ acc)) (suc k + length acc) (omega arith) (omega (arith, more))

number_short : (n : ℕ) → length (decimal n) ≤ 64
unfolding digits
number_short n = let h = onto_short 64 n [] in omega (arith, h)

numbers_short : (a b c : ℕ) → length (three_numbers a b c) ≤ 194
numbers_short a b c =
    omega (
      arith,
      length-append (decimal a) (58 ∷ (decimal b ++ 58 ∷ decimal c)),
      length-append (decimal b) (58 ∷ decimal c),
      number_short a,
      number_short b,
      number_short c,
    )

-- the fault that answers a request without addressing
pub unaddressed_short : (me caller number : ℕ) (c : Cause) → length (fault_envelope_text me caller number None c) ≤ 32768
unfolding reply_word
unaddressed_short me caller number c =
    root_short 117 (114 ∷ 110 ∷ 58 ∷ 112 ∷ 119 ∷ 115 ∷ 58 ∷ 114 ∷ 101 ∷ 112 ∷ 108 ∷ 121 ∷ 58 ∷ three_numbers me caller number) c (omega (arith, numbers_short me caller number))

-- the root of a fault without header blocks, of which the subcode alone may be of another namespace than the envelope's
abbrev pub bare_root : Cause → Tree
bare_root c = root_of (envelope_around (fault_tree (fault_of c)))

abbrev pub bare_spaces : Cause → List (List ℕ)
bare_spaces cause.BadVersion = envelope_space ∷ []
bare_spaces cause.NotUnderstood = envelope_space ∷ []
bare_spaces cause.BadEnvelope = envelope_space ∷ []
bare_spaces cause.NoAction = both_spaces
bare_spaces cause.BadAddressing = both_spaces
bare_spaces cause.Halted = envelope_space ∷ []
bare_spaces cause.ReplyTooLong = envelope_space ∷ []
bare_spaces cause.TimedOut = envelope_space ∷ []
bare_spaces cause.UnreadableReply = envelope_space ∷ []

bare_are : (c : Cause) → spaces_of (bare_root c) ≡ bare_spaces c
unfolding envelope_space addressing_space xml_space fault_of
bare_are cause.BadVersion = refl
bare_are cause.NotUnderstood = refl
bare_are cause.BadEnvelope = refl
bare_are cause.NoAction = refl
bare_are cause.BadAddressing = refl
bare_are cause.Halted = refl
bare_are cause.ReplyTooLong = refl
bare_are cause.TimedOut = refl
bare_are cause.UnreadableReply = refl

-- with one namespace or with both
record IsShort (spaces : List (List ℕ)) : Type 0 where
  pub prefixes : HasShortPrefixes spaces
  pub declared : length (declarations_text spaces) ≤ 1000

one_prefix : (x b : Bool) → length (if x then xml_word else 110 ∷ decimal (unwrap_or (position (λ (y : Bool). y) (b ∷ [])) 0)) ≤ 4
unfolding xml_word
one_prefix true b = omega arith
one_prefix false true = digit_short 0 (omega arith)
one_prefix false false = digit_short 0 (omega arith)

one_declared : declarations_text (envelope_space ∷ []) ≡ declaration_text (0, envelope_space) ++ []
one_declared = refl

one_short : IsShort (envelope_space ∷ [])
one_short = record {
  prefixes = record { short = λ space. one_prefix (bytes_eq space xml_space) (bytes_eq space envelope_space) };
  declared = let none : List ℕ = [] in omega (arith, ap length one_declared, length-append (declaration_text (0, envelope_space)) none, declaration_short 0 envelope_space (omega arith), spaces_short);
}

both_short : IsShort both_spaces
both_short = record { prefixes = short_prefixes; declared = declared_short }

bare_short : (c : Cause) → IsShort (bare_spaces c)
bare_short cause.BadVersion = one_short
bare_short cause.NotUnderstood = one_short
bare_short cause.BadEnvelope = one_short
bare_short cause.NoAction = both_short
bare_short cause.BadAddressing = both_short
bare_short cause.Halted = one_short
bare_short cause.ReplyTooLong = one_short
bare_short cause.TimedOut = one_short
bare_short cause.UnreadableReply = one_short

bare_light : (c : Cause) → tree_weight (bare_root c) ≤ 31768
unfolding envelope_space addressing_space envelope_word body_word fault_word code_word subcode_word reason_word text_word lang_word english value_word xml_space word_of fault_of header_required invalid_header
bare_light cause.BadVersion = omega arith
bare_light cause.NotUnderstood = omega arith
bare_light cause.BadEnvelope = omega arith
bare_light cause.NoAction = omega arith
bare_light cause.BadAddressing = omega arith
bare_light cause.Halted = omega arith
bare_light cause.ReplyTooLong = omega arith
bare_light cause.TimedOut = omega arith
bare_light cause.UnreadableReply = omega arith

pub bare_faults_fit : BareFaultsFit
unfolding bare_fault_text
bare_faults_fit c = omega (arith, canonical_short (bare_spaces c) (bare_root c) (bare_are c) (bare_short c).prefixes, bare_light c, (bare_short c).declared)

if_fits : (text other : List ℕ) → length other ≤ 32768 → length (if fits text then text else other) ≤ 32768
if_fits text other h = either (fits text) text other (λ e. leb-true (length text) 32768 e) h
  where
    either : (b : Bool) (xs ys : List ℕ) → (b ≡ true → length xs ≤ 32768) → length ys ≤ 32768 → length (if b then xs else ys) ≤ 32768
    either true xs ys hx hy = hx refl
    either false xs ys hx hy = hy

pub faults_fit : FaultsFit
unfolding fault_text
faults_fit me caller number addressing c =
    if_fits (fault_envelope_text me caller number addressing c) (fault_envelope_text me caller number None c) (unaddressed_short me caller number c)

pub replies_fit : RepliesFit
unfolding reply_text
replies_fit me caller number addressing text =
    if_fits (reply_envelope_text me caller number addressing text) (fault_envelope_text me caller number None cause.ReplyTooLong) (unaddressed_short me caller number cause.ReplyTooLong)

-- a call is made only where it fits
some_fits : (b : Bool) (xs body : List ℕ) → (b ≡ true → length xs ≤ 32768) → (if b then Some xs else None) ≡ Some body → length body ≤ 32768
some_fits true xs body h e = let same : xs ≡ body = cc in subst (λ (t : List ℕ). length t ≤ 32768) same (h refl)
some_fits false xs body h e = absurd (let i : ◌≡◌ {A = Option (List ℕ)} None (Some body) = e in cc)

pub calls_fit : CallsFit
unfolding call_text
calls_fit me called number text body e =
    let whole : List ℕ = call_envelope_text me called number text in
    some_fits (fits whole) whole body (λ h. leb-true (length whole) 32768 h) e
