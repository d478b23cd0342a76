-- Packets, read and spelled.
use Rattle.std.proofs.Common.{◌≡◌, ◌⊎◌, inl, inr, ℕ, zero, suc, ◌+◌, ◌<◌, ◌≤◌, ◌^◌, ◌==◌, Bool, true, false, if◌then◌else◌, List, [], ◌∷◌, ◌++◌, length, get_or, Option, Some, None, IfSome, option_to_list, Result, Ok, Err, refl, sym, ◌∙◌, ap, subst, arith, append_assoc, length-append, All}
use Rattle.std.specs.List.{flat_map}
use Rattle.std.proofs.lemmas.Bool.{eqb-true}
use Rattle.std.proofs.lemmas.Bool.Decides.{nat_tests}
use Rattle.pws_base.specs.Texts.{u32_text, sized_text}
use Rattle.pws_base.specs.declared.shapes.ReplicaId.{ReplicaId}
use Rattle.pws_base.specs.declared.fields.FieldFault.{FieldFault}
use Rattle.pws_base.specs.Fields.{Unread, ◌>>=◌, bytes_field, u8_field, u32_field, u8_within, group_field, index_field, digest_field, body_field}
use Rattle.pws_msg.specs.Bytes.{IsBytes}
use Rattle.pws_msg.specs.Rows.{IsDigest, digest_text}
use Rattle.pws_msg.specs.RowFields.{counted_at}
use Rattle.pws_msg.specs.StatementTexts.{counted_text}
use Rattle.pws_msg.specs.Contents.{IsContent, kind_of, content_text}
use Rattle.pws_msg.specs.ContentFields.{content_of, content_of_kind}
use Rattle.pws_msg.specs.Rules.{rule_of}
use Rattle.pws_msg.specs.Packets.{VoucherFields, PacketFields, IsSender, IsTags, IsVoucher, IsVoucherOf, IsAttachment, IsPacket, sender_text, tags_text, voucher_text, body_text}
use Rattle.pws_msg.specs.PacketFields.{sender_at, part_at, sized_at, tags_at, voucher_at, bodies_at, packet_at}
use Rattle.pws_msg.specs.declared.rules.AttachmentRule.{AttachmentRule}
use Rattle.pws_msg.specs.declared.kinds.Kind.{Kind}
use Rattle.pws_msg.specs.declared.contents.Content.{Content}
use Rattle.pws_msg.specs.declared.contents.Content.TheVariants as content
use Rattle.pws_msg.proofs.Ranges.{bind_ok}
use Rattle.pws_msg.proofs.Exact.{ReadAs, IsExact, seq_sound, seq_complete, finish, exact_as, exact2, exact3, assoc2, assoc3, assoc4, assoc5, same_answer}
use Rattle.pws_msg.proofs.FieldsExact.{byte_text, u8_exact, u8_within_exact, u32_exact, bytes_exact}
use Rattle.pws_msg.proofs.RowsExact.{AreCounted, counted_exact}
use Rattle.pws_msg.proofs.EventsExact.{choose, IsWithin, group_exact, body_exact}
use Rattle.pws_msg.proofs.StatementsExact.{index_exact, digest_exact}
use Rattle.pws_msg.proofs.ContentsExact.{IsContentOf, content_sound, content_complete, kind_sound, kind_complete}
use Rattle.pws_msg.proofs.Lengths.{content_small}

pub sender_exact : IsExact ReplicaId sender_at sender_text IsSender
unfolding sender_at
sender_exact = exact2 {Z = ReplicaId} (λ a b. record { group = a; index = b }) sender_text IsSender group_exact index_exact (λ a b. refl) (λ a b p q. record { group = p.1; index = q.1 }) (λ z h. (z.group, z.index, refl, (omega arith, h.group), (omega arith, h.index)))

front_bytes : (xs ys : List ℕ) → IsBytes (xs ++ ys) → IsBytes xs
front_bytes [] ys b i = omega arith
front_bytes (x ∷ xs) ys b zero = b 0
front_bytes (x ∷ xs) ys b (suc i) = front_bytes xs ys (λ i. b (suc i)) i

-- a content after its length
sized_sound : (read : Unread → Result Content FieldFault) (lawful : Content → Type 0) → ((u : Unread) (c : Content) → IsBytes u.left → read u ≡ Ok c → lawful c × (u.left ≡ content_text c)) → (u v : Unread) (c : Content) → IsBytes u.left → sized_at read u ≡ Ok (c, v) → ReadAs Content (λ c. sized_text (content_text c)) lawful u v c
unfolding sized_at part_at
sized_sound read lawful whole u v c b e =
    let (part, e1, e2) = bind_ok (part_at u) (λ part. read part.0 >>= (λ c. Ok (c, part.1))) (c, v) e in
    let (n, w, r, e3) = seq_sound u32_field u32_text (λ n. n < 2 ^ 32) u32_exact u (λ size. bytes_field size.0 size.1 >>= (λ bytes. Ok (record { left = bytes.0; at = size.1.at }, bytes.1))) part b e1 in
    let (xs, x, s, e4) = seq_sound (bytes_field n) (λ xs. xs) (λ xs. length xs ≡ n) (bytes_exact n) w (λ bytes. Ok (record { left = bytes.0; at = w.at }, bytes.1)) part r.bytes e3 in
    let p : ◌≡◌ {A = Unread × Unread} (record { left = xs; at = w.at }, x) part = same_answer (record { left = xs; at = w.at }, x) part e4 in
    let (d, e5, e6) = bind_ok (read part.0) (λ c. Ok (c, part.1)) (c, v) e2 in
    let got : read (record { left = xs; at = w.at }) ≡ Ok d = ap (λ (p : Unread × Unread). read p.0) p ∙ e5 in
    let t = whole (record { left = xs; at = w.at }) d (front_bytes xs x.left (subst IsBytes s.spelled r.bytes)) got in
    let same : ◌≡◌ {A = Content × Unread} (d, x) (c, v) = ap (λ (p : Unread × Unread). (d, p.1)) p ∙ same_answer (d, part.1) (c, v) e6 in
    let text : u.left ≡ sized_text (content_text d) ++ x.left = r.spelled ∙ (ap (λ n. u32_text n ++ w.left) (sym s.in_range) ∙ (ap (λ (ys : List ℕ). u32_text (length xs) ++ ys) s.spelled ∙ (sym (append_assoc (u32_text (length xs)) xs x.left) ∙ ap (λ (ys : List ℕ). sized_text ys ++ x.left) t.1))) in
    let P : Content × Unread → Type 0 = λ z. ReadAs Content (λ c. sized_text (content_text c)) lawful u z.1 z.0 in
    subst P same (record { in_range = t.0; spelled = text; bytes = s.bytes })

sized_complete : (read : Unread → Result Content FieldFault) (c : Content) (rest : List ℕ) (at : ℕ) → ((place : ℕ) → read (record { left = content_text c; at = place }) ≡ Ok c) → length (content_text c) < 2 ^ 32 → (to : ℕ) × (sized_at read (record { left = sized_text (content_text c) ++ rest; at = at }) ≡ Ok (c, record { left = rest; at = to }))
unfolding sized_at part_at
sized_complete read c rest at h small =
    let xs = content_text c in
    let g : ℕ × Unread → Result (Unread × Unread) FieldFault = λ size. bytes_field size.0 size.1 >>= (λ bytes. Ok (record { left = bytes.0; at = size.1.at }, bytes.1)) in
    let f : Unread × Unread → Result (Content × Unread) FieldFault = λ part. read part.0 >>= (λ c. Ok (c, part.1)) in
    let (to1, c1) = seq_complete u32_field u32_text (λ n. n < 2 ^ 32) u32_exact (length xs) (xs ++ rest) at g small in
    let (to2, c2) = seq_complete (bytes_field (length xs)) (λ xs. xs) (λ ys. length ys ≡ length xs) (bytes_exact (length xs)) xs rest to1 (λ bytes. Ok (record { left = bytes.0; at = to1 }, bytes.1)) refl in
    let start : List ℕ → Result (Content × Unread) FieldFault = λ ys. (u32_field (record { left = ys; at = at }) >>= g) >>= f in
    let on : Result (Unread × Unread) FieldFault → Result (Content × Unread) FieldFault = λ r. r >>= f in
    let last : Result Content FieldFault → Result (Content × Unread) FieldFault = λ r. r >>= (λ c. Ok (c, record { left = rest; at = to2 })) in
    (to2, ap start (append_assoc (u32_text (length xs)) xs rest) ∙ (ap on (c1 ∙ c2) ∙ ap last (h to1)))

small_content : (c : Content) → IsContent c → length (content_text c) < 2 ^ 32
small_content c h = omega (arith, content_small c h)

pub sized_content_exact : IsExact Content (sized_at content_of) (λ c. sized_text (content_text c)) IsContent
sized_content_exact = record {
  sound = λ u v c b e. sized_sound content_of IsContent content_sound u v c b e;
  complete = λ c rest at l. sized_complete content_of c rest at (λ place. content_complete c place l) (small_content c l);
}

pub sized_kind_exact : (kind : Kind) → IsExact Content (sized_at (content_of_kind kind)) (λ c. sized_text (content_text c)) (IsContentOf kind)
sized_kind_exact kind = record {
  sound = λ u v c b e. sized_sound (content_of_kind kind) (IsContentOf kind) (kind_sound kind) u v c b e;
  complete = λ c rest at l. sized_complete (content_of_kind kind) c rest at (λ place. kind_complete kind c place l) (small_content c l.1);
}

pub tags_exact : IsExact (List (List ℕ)) tags_at tags_text IsTags
tags_exact = exact_as IsTags (counted_exact digest_field digest_text IsDigest 0 10 digest_exact) (λ x h. record { few = h.1; each = h.2 }) (λ x h. (omega arith, h.few, h.each))

pub voucher_exact : (kind : Kind) → IsExact VoucherFields (voucher_at kind) voucher_text (IsVoucherOf kind)
unfolding voucher_at
voucher_exact kind = exact3 {Z = VoucherFields} (λ a b c. record { sender = a; content = b; tags = c }) voucher_text (IsVoucherOf kind) sender_exact (sized_kind_exact kind) tags_exact (λ a b c. refl) (λ a b c p q r. record { voucher = record { sender = p; content = q.1; tags = r }; same = q.0 }) (λ z h. (z.sender, z.content, z.tags, refl, h.voucher.sender, (h.same, h.voucher.content), h.voucher.tags))

-- a body where there is to be one
abbrev IsBody : ℕ → Option (List ℕ) → Type 0
IsBody bodies body = (length (option_to_list body) ≡ bodies) × IfSome body (λ b. length b ≤ 32768)

-- the answer with a body
abbrev as_body : List ℕ × Unread → Result (Option (List ℕ) × Unread) FieldFault
as_body body = Ok (Some body.0, body.1)

some_body : (bodies : ℕ) (u v w : Unread) (o : Option (List ℕ)) → bodies ≡ 1 → IsBytes w.left → u.left ≡ byte_text bodies ++ w.left → (body_field w >>= as_body) ≡ Ok (o, v) → ReadAs (Option (List ℕ)) body_text (IsBody bodies) u v o
some_body bodies u v w o one b s e =
    let (x, y, r, k) = seq_sound body_field sized_text (λ xs. length xs ≤ 32768) body_exact w as_body (o, v) b e in
    let text : u.left ≡ body_text (Some x) ++ y.left = s ∙ (ap (λ n. byte_text n ++ w.left) one ∙ ap (λ (ys : List ℕ). byte_text 1 ++ ys) r.spelled) in
    finish body_text (IsBody bodies) u y v (Some x) o k (sym one, r.in_range) text r.bytes

flag_one : (n f : ℕ) → n ≤ 1 → f ≤ n → (f == 0) ≡ false → n ≡ 1
flag_one n f few l h = grind (arith, nat_tests)

bodies_sound : (bodies : ℕ) → bodies ≤ 1 → (u v : Unread) (o : Option (List ℕ)) → IsBytes u.left → bodies_at bodies u ≡ Ok (o, v) → ReadAs (Option (List ℕ)) body_text (IsBody bodies) u v o
unfolding bodies_at
bodies_sound bodies few u v o b e =
    let (f, w, r, k) = seq_sound (u8_within bodies bodies) byte_text (IsWithin bodies bodies) (u8_within_exact bodies bodies) u (λ flag. if flag.0 == 0 then Ok (None, flag.1) else body_field flag.1 >>= as_body) (o, v) b e in
    let same : f ≡ bodies = omega (arith, r.in_range) in
    elim (choose (f == 0) (Ok (None, w)) (body_field w >>= as_body) (Ok (o, v)) k) [
      | inl y ↦
          let zero_f : f ≡ 0 = eqb-true f 0 y.0 in
          finish body_text (IsBody bodies) u w v None o y.1 (sym zero_f ∙ same, tt) (r.spelled ∙ ap (λ n. byte_text n ++ w.left) zero_f) r.bytes
      | inr y ↦ some_body bodies u v w o (flag_one bodies f few r.in_range.1 y.0) r.bytes (r.spelled ∙ ap (λ n. byte_text n ++ w.left) same) y.1
    ]

bodies_complete : (o : Option (List ℕ)) (bodies : ℕ) (rest : List ℕ) (at : ℕ) → IsBody bodies o → (to : ℕ) × (bodies_at bodies (record { left = body_text o ++ rest; at = at }) ≡ Ok (o, record { left = rest; at = to }))
unfolding bodies_at
bodies_complete None zero rest at l = seq_complete (u8_within 0 0) byte_text (IsWithin 0 0) (u8_within_exact 0 0) 0 rest at (λ flag. if flag.0 == 0 then Ok (None, flag.1) else body_field flag.1 >>= as_body) (omega arith, omega arith)
bodies_complete None (suc n) rest at l = absurd (omega (arith, l.0))
bodies_complete (Some x) zero rest at l = absurd (omega (arith, l.0))
bodies_complete (Some x) (suc zero) rest at l =
    let f : ℕ × Unread → Result (Option (List ℕ) × Unread) FieldFault = λ flag. if flag.0 == 0 then Ok (None, flag.1) else body_field flag.1 >>= as_body in
    let (to1, c1) = seq_complete (u8_within 1 1) byte_text (IsWithin 1 1) (u8_within_exact 1 1) 1 (sized_text x ++ rest) at f (omega arith, omega arith) in
    let (to2, c2) = seq_complete body_field sized_text (λ xs. length xs ≤ 32768) body_exact x rest to1 as_body l.1 in
    (to2, c1 ∙ c2)
bodies_complete (Some x) (suc (suc n)) rest at l = absurd (omega (arith, l.0))

pub bodies_few : (c : Content) → (rule_of c).bodies ≤ 1
bodies_few (content.Request r) = omega arith
bodies_few (content.Reply r) = omega arith
bodies_few (content.Part r) = omega arith
bodies_few (content.Expired n) = omega arith
bodies_few (content.Reading r) = omega arith
bodies_few (content.PrePrepare p) = omega arith
bodies_few (content.Prepare v) = omega arith
bodies_few (content.Commit v) = omega arith
bodies_few (content.Checkpoint d) = omega arith
bodies_few (content.ViewChange c) = omega arith
bodies_few (content.Ack n) = omega arith
bodies_few (content.NewView v) = omega arith
bodies_few (content.Relay n) = omega arith
bodies_few (content.Fetch w) = omega arith
bodies_few (content.Done d) = omega arith
bodies_few (content.Need x) = omega arith
bodies_few (content.Give e) = omega arith

abbrev vouchers_at : Content → Unread → Result (List VoucherFields × Unread) FieldFault
vouchers_at c u = counted_at (voucher_at (rule_of c).kind) (rule_of c).least (rule_of c).most u

abbrev AreVouchers : Content → List VoucherFields → Type 0
AreVouchers c vs = AreCounted (IsVoucherOf (rule_of c).kind) (rule_of c).least (rule_of c).most vs

vouchers_exact : (c : Content) → IsExact (List VoucherFields) (vouchers_at c) (counted_text voucher_text) (AreVouchers c)
vouchers_exact c = counted_exact (voucher_at (rule_of c).kind) voucher_text (IsVoucherOf (rule_of c).kind) (rule_of c).least (rule_of c).most (voucher_exact (rule_of c).kind)

-- six texts and what follows them
pub joined : (a b c d e f y : List ℕ) → (a ++ (b ++ (c ++ (d ++ (e ++ f))))) ++ y ≡ a ++ (b ++ (c ++ (d ++ (e ++ (f ++ y)))))
joined a b c d e f y = rw (append_assoc, append_assoc, append_assoc, append_assoc, append_assoc) refl

-- the fields of a packet behind its version
abbrev pub fields_text : PacketFields → List ℕ
fields_text p = sender_text p.sender ++ ((p.receiver ∷ []) ++ (sized_text (content_text p.content) ++ (tags_text p.tags ++ (body_text p.body ++ counted_text voucher_text p.vouchers))))

abbrev Answer : Type 0
Answer = Result (PacketFields × Unread) FieldFault

abbrev last_step : ReplicaId → ℕ → Content → List (List ℕ) → Option (List ℕ) → List VoucherFields × Unread → Answer
last_step a b c d e vouchers = Ok (record { sender = a; receiver = b; content = c; tags = d; body = e; vouchers = vouchers.0 }, vouchers.1)

abbrev body_step : ReplicaId → ℕ → Content → List (List ℕ) → Option (List ℕ) × Unread → Answer
body_step a b c d body = vouchers_at c body.1 >>= last_step a b c d body.0

abbrev tags_step : ReplicaId → ℕ → Content → List (List ℕ) × Unread → Answer
tags_step a b c tags = bodies_at (rule_of c).bodies tags.1 >>= body_step a b c tags.0

abbrev content_step : ReplicaId → ℕ → Content × Unread → Answer
content_step a b c = tags_at c.1 >>= tags_step a b c.0

abbrev receiver_step : ReplicaId → ℕ × Unread → Answer
receiver_step a receiver = sized_at content_of receiver.1 >>= content_step a receiver.0

abbrev sender_step : ReplicaId × Unread → Answer
sender_step sender = group_field sender.1 >>= receiver_step sender.0

abbrev sized_content : Content → List ℕ
sized_content c = sized_text (content_text c)

pub packet_sound : (u v : Unread) (z : PacketFields) → IsBytes u.left → packet_at u ≡ Ok (z, v) → IsPacket z × (u.left ≡ fields_text z ++ v.left)
unfolding packet_at
packet_sound u v z bytes e0 =
    let (a, u1, r1, e1) = seq_sound sender_at sender_text IsSender sender_exact u sender_step (z, v) bytes e0 in
    let (b, u2, r2, e2) = seq_sound group_field byte_text (IsWithin 0 15) group_exact u1 (receiver_step a) (z, v) r1.bytes e1 in
    let (c, u3, r3, e3) = seq_sound (sized_at content_of) sized_content IsContent sized_content_exact u2 (content_step a b) (z, v) r2.bytes e2 in
    let (d, u4, r4, e4) = seq_sound tags_at tags_text IsTags tags_exact u3 (tags_step a b c) (z, v) r3.bytes e3 in
    let (body, e4a, e5) = bind_ok (bodies_at (rule_of c).bodies u4) (body_step a b c d) (z, v) e4 in
    let r5 = bodies_sound (rule_of c).bodies (bodies_few c) u4 body.1 body.0 r4.bytes e4a in
    let (vs, u6, r6, e6) = seq_sound (vouchers_at c) (counted_text voucher_text) (AreVouchers c) (vouchers_exact c) body.1 (last_step a b c d body.0) (z, v) r5.bytes e5 in
    let made : PacketFields = record { sender = a; receiver = b; content = c; tags = d; body = body.0; vouchers = vs } in
    let lawful : IsPacket made = record {
      sender = r1.in_range;
      receiver = r2.in_range.1;
      content = r3.in_range;
      tags = r4.in_range;
      attached = record { bodies = r5.in_range.0; short = r5.in_range.1; least = r6.in_range.0; most = r6.in_range.1; kinds = r6.in_range.2 };
    } in
    let text5 : u4.left ≡ body_text body.0 ++ (counted_text voucher_text vs ++ u6.left) = r5.spelled ∙ ap (λ (xs : List ℕ). body_text body.0 ++ xs) r6.spelled in
    let text4 : u3.left ≡ tags_text d ++ (body_text body.0 ++ (counted_text voucher_text vs ++ u6.left)) = r4.spelled ∙ ap (λ (xs : List ℕ). tags_text d ++ xs) text5 in
    let text3 : u2.left ≡ sized_content c ++ (tags_text d ++ (body_text body.0 ++ (counted_text voucher_text vs ++ u6.left))) = r3.spelled ∙ ap (λ (xs : List ℕ). sized_content c ++ xs) text4 in
    let text1 : u.left ≡ sender_text a ++ ((b ∷ []) ++ (sized_content c ++ (tags_text d ++ (body_text body.0 ++ (counted_text voucher_text vs ++ u6.left))))) = r1.spelled ∙ ap (λ (xs : List ℕ). sender_text a ++ xs) (r2.spelled ∙ ap (λ (xs : List ℕ). (b ∷ []) ++ xs) text3) in
    let text : u.left ≡ fields_text made ++ u6.left = text1 ∙ sym (joined (sender_text a) (b ∷ []) (sized_content c) (tags_text d) (body_text body.0) (counted_text voucher_text vs) u6.left) in
    let P : PacketFields × Unread → Type 0 = λ x. IsPacket x.0 × (u.left ≡ fields_text x.0 ++ x.1.left) in
    subst P (same_answer (made, u6) (z, v) e6) (lawful, text)

pub packet_complete : (p : PacketFields) (rest : List ℕ) (at : ℕ) → IsPacket p → (to : ℕ) × (packet_at (record { left = fields_text p ++ rest; at = at }) ≡ Ok (p, record { left = rest; at = to }))
unfolding packet_at
packet_complete p rest at0 h =
    let x6 = counted_text voucher_text p.vouchers ++ rest in
    let x5 = body_text p.body ++ x6 in
    let x4 = tags_text p.tags ++ x5 in
    let x3 = sized_content p.content ++ x4 in
    let x2 = (p.receiver ∷ []) ++ x3 in
    let (at1, c1) = seq_complete sender_at sender_text IsSender sender_exact p.sender x2 at0 sender_step h.sender in
    let (at2, c2) = seq_complete group_field byte_text (IsWithin 0 15) group_exact p.receiver x3 at1 (receiver_step p.sender) (omega arith, h.receiver) in
    let (at3, c3) = seq_complete (sized_at content_of) sized_content IsContent sized_content_exact p.content x4 at2 (content_step p.sender p.receiver) h.content in
    let (at4, c4) = seq_complete tags_at tags_text IsTags tags_exact p.tags x5 at3 (tags_step p.sender p.receiver p.content) h.tags in
    let (at5, c5) = bodies_complete p.body (rule_of p.content).bodies x6 at4 (h.attached.bodies, h.attached.short) in
    let (at6, c6) = seq_complete (vouchers_at p.content) (counted_text voucher_text) (AreVouchers p.content) (vouchers_exact p.content) p.vouchers rest at5 (last_step p.sender p.receiver p.content p.tags p.body) (h.attached.least, h.attached.most, h.attached.kinds) in
    let read : List ℕ → Answer = λ xs. sender_at (record { left = xs; at = at0 }) >>= sender_step in
    let on : Result (Option (List ℕ) × Unread) FieldFault → Answer = λ r. r >>= body_step p.sender p.receiver p.content p.tags in
    let place : fields_text p ++ rest ≡ sender_text p.sender ++ x2 = joined (sender_text p.sender) (p.receiver ∷ []) (sized_content p.content) (tags_text p.tags) (body_text p.body) (counted_text voucher_text p.vouchers) rest in
    (at6, ap read place ∙ (c1 ∙ (c2 ∙ (c3 ∙ (c4 ∙ (ap on c5 ∙ c6))))))
