-- Whole packets, read and spelled.
use Rattle.std.proofs.Common.{◌≡◌, ◌⊎◌, inl, inr, ℕ, ◌+◌, ◌<◌, ◌≤◌, ◌==◌, ◌&&◌, ◌↔◌, Bool, true, false, nat_lt, if◌then◌else◌, List, [], ◌∷◌, ◌++◌, length, Result, Ok, Err, refl, sym, ◌∙◌, ap, subst, arith}
use Rattle.std.proofs.lemmas.Bool.{eqb-true, le-ltb}
use Rattle.std.proofs.lemmas.Bool.Decides.{nat_tests}
use Rattle.std.proofs.lemmas.List.{nil_from_length, append-nil}
use Rattle.pws_base.specs.Texts.{sized_text}
use Rattle.pws_base.specs.declared.fields.FieldFault.{FieldFault}
use Rattle.pws_base.specs.declared.fields.FaultKind.TheVariants.{Rest}
use Rattle.pws_base.specs.Fields.{Unread, unread, ◌>>=◌, bytes_field, u8_field, ended}
use Rattle.pws_msg.specs.Bytes.{IsBytes}
use Rattle.pws_msg.specs.StatementTexts.{counted_text}
use Rattle.pws_msg.specs.Contents.{content_text}
use Rattle.pws_msg.specs.Packets.{PacketFields, IsPacket, magic, sender_text, tags_text, voucher_text, body_text, packet_text}
use Rattle.pws_msg.specs.PacketFields.{in_packet, onward, is_magic, magic_at, version_at, packet_at, packet_of, GivesPacket}
use Rattle.pws_msg.specs.Spelling.{Spells, SpellsSaying, IsSpelled}
use Rattle.pws_msg.specs.Laws.{PacketsReadBack, PacketsWriteBack, ReadsWhatIsSpelled, NoTextSpellsTwo, EachIsSpelled, OneSpelling}
use Rattle.pws_msg.specs.declared.errors.PacketError.{PacketError}
use Rattle.pws_msg.specs.declared.errors.PacketFault.TheVariants as packet_fault
use Rattle.pws_msg.specs.declared.errors.PacketReadError.{PacketReadError}
use Rattle.pws_msg.specs.declared.errors.PacketReadError.TheVariants as read_error
use Rattle.pws_msg.proofs.Ranges.{bind_ok, test_passed}
use Rattle.pws_msg.proofs.Exact.{assoc5}
use Rattle.pws_msg.proofs.FieldsExact.{byte_text, u8_exact, bytes_exact}
use Rattle.pws_msg.proofs.EventsExact.{choose}
use Rattle.pws_msg.proofs.PacketsExact.{fields_text, packet_sound, packet_complete}
use Rattle.pws_msg.proofs.PacketLengths.{packet_small}

onward_ok : {A B : Type 0} (r : Result A PacketError) (f : A → Result B PacketError) (y : B) → onward r f ≡ Ok y → (x : A) × (r ≡ Ok x) × (f x ≡ Ok y)
onward_ok (Ok x) f y h = (x, refl, h)
onward_ok (Err e) f y h = absurd (cc)

in_packet_ok : {A : Type 0} (r : Result A FieldFault) (x : A) → in_packet r ≡ Ok x → r ≡ Ok x
in_packet_ok (Ok y) x h = cc
in_packet_ok (Err e) x h = absurd (cc)

letters : (a b c : ℕ) → (a == 80 && b == 87 && c == 83) ≡ true → (a ≡ 80) × (b ≡ 87) × (c ≡ 83)
letters a b c h = (grind (arith, nat_tests), grind (arith, nat_tests), grind (arith, nat_tests))

magic_is : (xs : List ℕ) → length xs ≡ 3 → is_magic xs ≡ true → xs ≡ magic
magic_is [] n h = absurd (omega arith)
magic_is (a ∷ []) n h = absurd (omega arith)
magic_is (a ∷ b ∷ []) n h = absurd (omega arith)
magic_is (a ∷ b ∷ c ∷ []) n h = let e = letters a b c h in rw (e.0, e.1, e.2) refl
magic_is (a ∷ b ∷ c ∷ d ∷ xs) n h = absurd (omega arith)

magic_sound : (u v : Unread) → IsBytes u.left → magic_at u ≡ Ok v → (u.left ≡ magic ++ v.left) × IsBytes v.left
unfolding magic_at
magic_sound u v b e =
    let (x, f, g) = onward_ok (in_packet (bytes_field 3 u)) (λ m. if is_magic m.0 then Ok m.1 else Err (record { kind = packet_fault.Magic; at = u.at })) v e in
    let r = (bytes_exact 3).sound u x.1 x.0 b (in_packet_ok (bytes_field 3 u) x f) in
    let t = test_passed (is_magic x.0) x.1 v (record { kind = packet_fault.Magic; at = u.at }) g in
    let P : Unread → Type 0 = λ v. (u.left ≡ magic ++ v.left) × IsBytes v.left in
    subst P t.1 (r.spelled ∙ ap (λ (ys : List ℕ). ys ++ x.1.left) (magic_is x.0 r.in_range t.0), r.bytes)

version_sound : (u v : Unread) → IsBytes u.left → version_at u ≡ Ok v → (u.left ≡ byte_text 1 ++ v.left) × IsBytes v.left
unfolding version_at
version_sound u v b e =
    let (x, f, g) = onward_ok (in_packet (u8_field u)) (λ v. if v.0 == 1 then Ok v.1 else Err (record { kind = packet_fault.Version; at = u.at })) v e in
    let r = u8_exact.sound u x.1 x.0 b (in_packet_ok (u8_field u) x f) in
    let t = test_passed (x.0 == 1) x.1 v (record { kind = packet_fault.Version; at = u.at }) g in
    let P : Unread → Type 0 = λ v. (u.left ≡ byte_text 1 ++ v.left) × IsBytes v.left in
    subst P t.1 (r.spelled ∙ ap (λ n. byte_text n ++ x.1.left) (eqb-true x.0 1 t.0), r.bytes)

packet_ended : (x : PacketFields × Unread) (p : PacketFields) → ended x ≡ Ok p → (x.1.left ≡ []) × (x.0 ≡ p)
packet_ended x p e =
    let t = test_passed (length x.1.left == 0) x.0 p (record { kind = Rest; at = x.1.at }) e in
    (nil_from_length x.1.left (eqb-true (length x.1.left) 0 t.0), t.1)

-- the one spelling, from left to right
text_is : (p : PacketFields) → packet_text p ≡ magic ++ (byte_text 1 ++ fields_text p)
text_is p = ap (λ (ys : List ℕ). magic ++ (byte_text 1 ++ ys)) (assoc5 (sender_text p.sender) (p.receiver ∷ []) (sized_text (content_text p.content)) (tags_text p.tags) (body_text p.body) (counted_text voucher_text p.vouchers))

err_not : (e : PacketError) (p : PacketFields) → ◌≡◌ {A = Result PacketFields PacketError} (Err e) (Ok p) → ⊥
err_not e p h = cc

abbrev rest_of : Unread → Result PacketFields PacketError
rest_of m = onward (version_at m) (λ v. in_packet (packet_at v >>= ended))

pub read_sound : (bytes : List ℕ) (p : PacketFields) → IsBytes bytes → packet_of bytes ≡ Ok p → IsPacket p × (bytes ≡ packet_text p)
unfolding packet_of
read_sound bytes p b e = elim (choose (nat_lt 98304 (length bytes)) (Err (record { kind = packet_fault.Long; at = 98304 })) (onward (magic_at (unread bytes)) rest_of) (Ok p) e) [
  | inl w ↦ absurd (err_not (record { kind = packet_fault.Long; at = 98304 }) p w.1)
  | inr w ↦
      let (m, f, g) = onward_ok (magic_at (unread bytes)) rest_of p w.1 in
      let s = magic_sound (unread bytes) m b f in
      let (v, h, k) = onward_ok (version_at m) (λ v. in_packet (packet_at v >>= ended)) p g in
      let t = version_sound m v s.1 h in
      let (x, i, j) = bind_ok (packet_at v) ended p (in_packet_ok (packet_at v >>= ended) p k) in
      let d = packet_ended x p j in
      let r = packet_sound v x.1 x.0 t.1 i in
      let fields : v.left ≡ fields_text x.0 = r.1 ∙ (ap (λ (ys : List ℕ). fields_text x.0 ++ ys) d.0 ∙ append-nil (fields_text x.0)) in
      let whole : bytes ≡ packet_text x.0 = s.0 ∙ (ap (λ (ys : List ℕ). magic ++ ys) (t.0 ∙ ap (λ (ys : List ℕ). byte_text 1 ++ ys) fields) ∙ sym (text_is x.0)) in
      let P : PacketFields → Type 0 = λ p. IsPacket p × (bytes ≡ packet_text p) in
      subst P d.1 (r.0, whole)
]

magic_complete : (rest : List ℕ) (at : ℕ) → (to : ℕ) × (magic_at (record { left = magic ++ rest; at = at }) ≡ Ok (record { left = rest; at = to }))
unfolding magic_at
magic_complete rest at =
    let (to, c) = (bytes_exact 3).complete magic rest at refl in
    let on : Result (List ℕ × Unread) FieldFault → Result Unread PacketError = λ r. onward (in_packet r) (λ m. if is_magic m.0 then Ok m.1 else Err (record { kind = packet_fault.Magic; at = at })) in
    (to, ap on c)

version_complete : (rest : List ℕ) (at : ℕ) → (to : ℕ) × (version_at (record { left = byte_text 1 ++ rest; at = at }) ≡ Ok (record { left = rest; at = to }))
unfolding version_at
version_complete rest at =
    let (to, c) = u8_exact.complete 1 rest at tt in
    let on : Result (ℕ × Unread) FieldFault → Result Unread PacketError = λ r. onward (in_packet r) (λ v. if v.0 == 1 then Ok v.1 else Err (record { kind = packet_fault.Version; at = at })) in
    (to, ap on c)

pub read_complete : PacketsReadBack
unfolding packet_of
read_complete p h =
    let (at1, c1) = magic_complete (byte_text 1 ++ fields_text p) 0 in
    let (at2, c2) = version_complete (fields_text p) at1 in
    let (at3, c3) = packet_complete p [] at2 h in
    let small : nat_lt 98304 (length (packet_text p)) ≡ false = le-ltb 98304 (length (packet_text p)) (packet_small p h) in
    let tested : Bool → Result PacketFields PacketError = λ b. if b then Err (record { kind = packet_fault.Long; at = 98304 }) else onward (magic_at (unread (packet_text p))) rest_of in
    let start : List ℕ → Result PacketFields PacketError = λ ys. onward (magic_at (record { left = ys; at = 0 })) rest_of in
    let on : Result Unread PacketError → Result PacketFields PacketError = λ r. onward r rest_of in
    let further : Result Unread PacketError → Result PacketFields PacketError = λ r. onward r (λ v. in_packet (packet_at v >>= ended)) in
    let last : Result (PacketFields × Unread) FieldFault → Result PacketFields PacketError = λ r. in_packet (r >>= ended) in
    let behind : List ℕ → Result PacketFields PacketError = λ ys. in_packet (packet_at (record { left = ys; at = at2 }) >>= ended) in
    ap tested small ∙ (ap start (text_is p) ∙ (ap on c1 ∙ (ap further c2 ∙ (ap behind (sym (append-nil (fields_text p))) ∙ ap last c3))))

pub write_complete : PacketsWriteBack
write_complete bytes p b e = let r = read_sound bytes p b e in (r.0, sym r.1)

-- what is spelled, by the one spelling
spells_packet : (p : PacketFields) (bytes : List ℕ) → Spells p bytes → IsPacket p × (bytes ≡ packet_text p)
spells_packet p bytes (said, h) =
    let s = h.content in (
      record { sender = h.sender; receiver = h.receiver; content = s.0; tags = h.tags; attached = h.attached },
      h.text ∙ ap (λ (ys : List ℕ). magic ++ (1 ∷ []) ++ sender_text p.sender ++ (p.receiver ∷ []) ++ sized_text ys ++ tags_text p.tags ++ body_text p.body ++ counted_text voucher_text p.vouchers) s.1,
    )

packet_spells : (p : PacketFields) (bytes : List ℕ) → IsPacket p → bytes ≡ packet_text p → Spells p bytes
packet_spells p bytes h e = (content_text p.content, record { sender = h.sender; receiver = h.receiver; content = (h.content, refl); tags = h.tags; attached = h.attached; text = e })

pub each_is_spelled : EachIsSpelled
each_is_spelled p h = packet_spells p (packet_text p) h refl

-- what is written is the spelling, and short
pub written_spells : (p : PacketFields) (bytes : List ℕ) → IsPacket p → bytes ≡ packet_text p → Spells p bytes
written_spells p bytes h e = packet_spells p bytes h e

pub written_few : (p : PacketFields) (bytes : List ℕ) → IsPacket p → bytes ≡ packet_text p → length bytes ≤ 98304
written_few p bytes h e = rw e (packet_small p h)

pub reads_spelled : ReadsWhatIsSpelled
reads_spelled bytes p b = (λ e. let r = read_sound bytes p b e in packet_spells p bytes r.0 r.1, λ s. let r = spells_packet p bytes s in ap packet_of r.1 ∙ read_complete p r.0)

ok_same : (p q : PacketFields) → ◌≡◌ {A = Result PacketFields PacketError} (Ok p) (Ok q) → p ≡ q
ok_same p q h = cc

pub no_text_spells_two : NoTextSpellsTwo
no_text_spells_two bytes p q s t =
    let r = spells_packet p bytes s in
    let k = spells_packet q bytes t in
    let one : ◌≡◌ {A = Result PacketFields PacketError} (Ok p) (Ok q) = sym (ap packet_of r.1 ∙ read_complete p r.0) ∙ (ap packet_of k.1 ∙ read_complete q k.0) in
    ok_same p q one

pub one_spelling : OneSpelling
one_spelling p bytes others s t = (spells_packet p bytes s).1 ∙ sym (spells_packet p others t).1

-- an answer of the reader is by the relation
pub answer_spelled : (bytes : List ℕ) (answer : Result PacketFields PacketReadError) → IsBytes bytes → GivesPacket answer (packet_of bytes) → IsSpelled bytes answer
answer_spelled bytes (Ok p) b h = (reads_spelled bytes p b).0 h
answer_spelled bytes (Err (read_error.Refused e)) b h = λ p s. err_not e p (sym h ∙ (reads_spelled bytes p b).1 s)
answer_spelled bytes (Err read_error.Memory) b h = tt
