-- Reading a field and spelling it undo one another; and so it is of fields that stand one after the other.
use Rattle.std.proofs.Common.{◌≡◌, ℕ, ◌+◌, ◌<◌, List, [], ◌∷◌, ◌++◌, Result, Ok, Err, refl, sym, ◌∙◌, ap, subst, append_assoc}
use Rattle.pws_base.specs.declared.fields.FieldFault.{FieldFault}
use Rattle.pws_base.specs.Fields.{Unread, ◌>>=◌}
use Rattle.pws_msg.specs.Bytes.{IsBytes}
use Rattle.pws_msg.proofs.Ranges.{bind_ok}

-- what was read is in range, stood in front, and leaves bytes
pub record ReadAs (A : Type 0) (text : A → List ℕ) (lawful : A → Type 0) (u v : Unread) (x : A) : Type 0 where
  pub in_range : lawful x
  pub spelled : u.left ≡ text x ++ v.left
  pub bytes : IsBytes v.left

-- what is read is spelled so and in range, and what is spelled so and in range is read
pub record IsExact (A : Type 0) (read : Unread → Result (A × Unread) FieldFault) (text : A → List ℕ) (lawful : A → Type 0) : Type 0 where
  pub sound : (u v : Unread) (x : A) → IsBytes u.left → read u ≡ Ok (x, v) → ReadAs A text lawful u v x
  pub complete : (x : A) (rest : List ℕ) (at : ℕ) → lawful x → (to : ℕ) × (read (record { left = text x ++ rest; at = at }) ≡ Ok (x, record { left = rest; at = to }))

pub seq_sound : {A B : Type 0} (read : Unread → Result (A × Unread) FieldFault) (text : A → List ℕ) (lawful : A → Type 0) → IsExact A read text lawful → (u : Unread) (f : A × Unread → Result B FieldFault) (y : B) → IsBytes u.left → (read u >>= f) ≡ Ok y → (x : A) × (v : Unread) × ReadAs A text lawful u v x × (f (x, v) ≡ Ok y)
seq_sound read text lawful h u f y b e =
    let (z, e1, e2) = bind_ok (read u) f y e in
    (z.0, z.1, h.sound u z.1 z.0 b e1, e2)

pub seq_complete : {A B : Type 0} (read : Unread → Result (A × Unread) FieldFault) (text : A → List ℕ) (lawful : A → Type 0) → IsExact A read text lawful → (x : A) (rest : List ℕ) (at : ℕ) (f : A × Unread → Result B FieldFault) → lawful x → (to : ℕ) × ((read (record { left = text x ++ rest; at = at }) >>= f) ≡ f (x, record { left = rest; at = to }))
seq_complete read text lawful h x rest at f l =
    let (to, e) = h.complete x rest at l in
    (to, ap (λ r. r >>= f) e)

-- two answers are one where their values are
pub ok_made : {Z : Type 0} (at : ℕ) (rest : List ℕ) (y z : Z) → y ≡ z → ◌≡◌ {A = Result (Z × Unread) FieldFault} (Ok (y, record { left = rest; at = at })) (Ok (z, record { left = rest; at = at }))
ok_made {Z = Z} at rest y z e =
    let answer : Z → Result (Z × Unread) FieldFault = λ z. Ok (z, record { left = rest; at = at }) in
    ap answer e

pub same_answer : {Z : Type 0} (x y : Z × Unread) → ◌≡◌ {A = Result (Z × Unread) FieldFault} (Ok x) (Ok y) → x ≡ y
same_answer x y h = cc

pub finish : {Z : Type 0} (text : Z → List ℕ) (lawful : Z → Type 0) (u w v : Unread) (y z : Z) → ◌≡◌ {A = Result (Z × Unread) FieldFault} (Ok (y, w)) (Ok (z, v)) → lawful y → u.left ≡ text y ++ w.left → IsBytes w.left → ReadAs Z text lawful u v z
finish {Z = Z} text lawful u w v y z e h s b =
    let P : Z × Unread → Type 0 = λ x. ReadAs Z text lawful u x.1 x.0 in
    subst P (same_answer (y, w) (z, v) e) (record { in_range = h; spelled = s; bytes = b })

-- the same range in other words
pub exact_as : {A : Type 0} {read : Unread → Result (A × Unread) FieldFault} {text : A → List ℕ} {P : A → Type 0} (Q : A → Type 0) → IsExact A read text P → ((x : A) → P x → Q x) → ((x : A) → Q x → P x) → IsExact A read text Q
exact_as Q h to back = record {
  sound = λ u v x b e. let r = h.sound u v x b e in record { in_range = to x r.in_range; spelled = r.spelled; bytes = r.bytes };
  complete = λ x rest at l. h.complete x rest at (back x l);
}

pub exact1 : {A Z : Type 0} {f : Unread → Result (A × Unread) FieldFault} {p : A → List ℕ} {P : A → Type 0} (make : A → Z) (text : Z → List ℕ) (lawful : Z → Type 0)
    → IsExact A f p P
    → ((a : A) → text (make a) ≡ p a)
    → ((a : A) → P a → lawful (make a))
    → ((z : Z) → lawful z → (a : A) × (make a ≡ z) × P a)
    → IsExact Z (λ u. (f u >>= (λ a'. Ok (make a'.0, a'.1)))) text lawful
exact1 {A = A} {Z = Z} {f = f} {p = p} {P = P} make text lawful x1 spelled keeps parts =
    let read : Unread → Result (Z × Unread) FieldFault = λ u. (f u >>= (λ a'. Ok (make a'.0, a'.1))) in
    record {
      sound = λ u v z bytes e0.
          let (a, u1, r1, e1) = seq_sound f p P x1 u (λ a'. Ok (make a'.0, a'.1)) (z, v) bytes e0 in
          let nested : u.left ≡ p a ++ (u1.left) = r1.spelled in
          let whole : u.left ≡ text (make a) ++ u1.left = nested ∙ ap (λ (xs : List ℕ). xs ++ u1.left) (sym (spelled a)) in
          finish text lawful u u1 v (make a) z e1 (keeps a r1.in_range) whole r1.bytes;
      complete = λ z rest at0 h0.
          let (a, made, h1) = parts z h0 in
          let (at1, c1) = seq_complete f p P x1 a (rest) at0 (λ a'. Ok (make a'.0, a'.1)) h1 in
          let same : text z ++ rest ≡ p a ++ (rest) = ap (λ (z : Z). text z ++ rest) (sym made) ∙ ap (λ (xs : List ℕ). xs ++ rest) (spelled a) in
          (at1, ap (λ (xs : List ℕ). read (record { left = xs; at = at0 })) same ∙ (c1 ∙ ok_made at1 rest (make a) z made));
    }

pub assoc2 : (x1 x2 y : List ℕ) → x1 ++ x2 ++ y ≡ x1 ++ (x2 ++ (y))
assoc2 x1 x2 y = append_assoc x1 x2 y

pub exact2 : {A B Z : Type 0} {f : Unread → Result (A × Unread) FieldFault} {p : A → List ℕ} {P : A → Type 0} {g : Unread → Result (B × Unread) FieldFault} {q : B → List ℕ} {Q : B → Type 0} (make : A → B → Z) (text : Z → List ℕ) (lawful : Z → Type 0)
    → IsExact A f p P
    → IsExact B g q Q
    → ((a : A) (b : B) → text (make a b) ≡ p a ++ q b)
    → ((a : A) (b : B) → P a → Q b → lawful (make a b))
    → ((z : Z) → lawful z → (a : A) × (b : B) × (make a b ≡ z) × P a × Q b)
    → IsExact Z (λ u. (f u >>= (λ a'. (g a'.1 >>= (λ b'. Ok (make a'.0 b'.0, b'.1)))))) text lawful
exact2 {A = A} {B = B} {Z = Z} {f = f} {p = p} {P = P} {g = g} {q = q} {Q = Q} make text lawful x1 x2 spelled keeps parts =
    let read : Unread → Result (Z × Unread) FieldFault = λ u. (f u >>= (λ a'. (g a'.1 >>= (λ b'. Ok (make a'.0 b'.0, b'.1))))) in
    record {
      sound = λ u v z bytes e0.
          let (a, u1, r1, e1) = seq_sound f p P x1 u (λ a'. (g a'.1 >>= (λ b'. Ok (make a'.0 b'.0, b'.1)))) (z, v) bytes e0 in
          let (b, u2, r2, e2) = seq_sound g q Q x2 u1 (λ b'. Ok (make a b'.0, b'.1)) (z, v) r1.bytes e1 in
          let nested : u.left ≡ p a ++ (q b ++ (u2.left)) = (r1.spelled ∙ ap (λ (xs : List ℕ). p a ++ (xs)) r2.spelled) in
          let whole : u.left ≡ text (make a b) ++ u2.left = nested ∙ (sym (assoc2 (p a) (q b) u2.left) ∙ ap (λ (xs : List ℕ). xs ++ u2.left) (sym (spelled a b))) in
          finish text lawful u u2 v (make a b) z e2 (keeps a b r1.in_range r2.in_range) whole r2.bytes;
      complete = λ z rest at0 h0.
          let (a, b, made, h1, h2) = parts z h0 in
          let (at1, c1) = seq_complete f p P x1 a (q b ++ (rest)) at0 (λ a'. (g a'.1 >>= (λ b'. Ok (make a'.0 b'.0, b'.1)))) h1 in
          let (at2, c2) = seq_complete g q Q x2 b (rest) at1 (λ b'. Ok (make a b'.0, b'.1)) h2 in
          let same : text z ++ rest ≡ p a ++ (q b ++ (rest)) = ap (λ (z : Z). text z ++ rest) (sym made) ∙ (ap (λ (xs : List ℕ). xs ++ rest) (spelled a b) ∙ assoc2 (p a) (q b) rest) in
          (at2, ap (λ (xs : List ℕ). read (record { left = xs; at = at0 })) same ∙ (c1 ∙ (c2 ∙ ok_made at2 rest (make a b) z made)));
    }

pub assoc3 : (x1 x2 x3 y : List ℕ) → x1 ++ x2 ++ x3 ++ y ≡ x1 ++ (x2 ++ (x3 ++ (y)))
assoc3 x1 x2 x3 y = append_assoc (x1 ++ x2) x3 y ∙ assoc2 x1 x2 (x3 ++ y)

pub exact3 : {A B C Z : Type 0} {f : Unread → Result (A × Unread) FieldFault} {p : A → List ℕ} {P : A → Type 0} {g : Unread → Result (B × Unread) FieldFault} {q : B → List ℕ} {Q : B → Type 0} {h : Unread → Result (C × Unread) FieldFault} {r : C → List ℕ} {R : C → Type 0} (make : A → B → C → Z) (text : Z → List ℕ) (lawful : Z → Type 0)
    → IsExact A f p P
    → IsExact B g q Q
    → IsExact C h r R
    → ((a : A) (b : B) (c : C) → text (make a b c) ≡ p a ++ q b ++ r c)
    → ((a : A) (b : B) (c : C) → P a → Q b → R c → lawful (make a b c))
    → ((z : Z) → lawful z → (a : A) × (b : B) × (c : C) × (make a b c ≡ z) × P a × Q b × R c)
    → IsExact Z (λ u. (f u >>= (λ a'. (g a'.1 >>= (λ b'. (h b'.1 >>= (λ c'. Ok (make a'.0 b'.0 c'.0, c'.1)))))))) text lawful
exact3 {A = A} {B = B} {C = C} {Z = Z} {f = f} {p = p} {P = P} {g = g} {q = q} {Q = Q} {h = h} {r = r} {R = R} make text lawful x1 x2 x3 spelled keeps parts =
    let read : Unread → Result (Z × Unread) FieldFault = λ u. (f u >>= (λ a'. (g a'.1 >>= (λ b'. (h b'.1 >>= (λ c'. Ok (make a'.0 b'.0 c'.0, c'.1))))))) in
    record {
      sound = λ u v z bytes e0.
          let (a, u1, r1, e1) = seq_sound f p P x1 u (λ a'. (g a'.1 >>= (λ b'. (h b'.1 >>= (λ c'. Ok (make a'.0 b'.0 c'.0, c'.1)))))) (z, v) bytes e0 in
          let (b, u2, r2, e2) = seq_sound g q Q x2 u1 (λ b'. (h b'.1 >>= (λ c'. Ok (make a b'.0 c'.0, c'.1)))) (z, v) r1.bytes e1 in
          let (c, u3, r3, e3) = seq_sound h r R x3 u2 (λ c'. Ok (make a b c'.0, c'.1)) (z, v) r2.bytes e2 in
          let nested : u.left ≡ p a ++ (q b ++ (r c ++ (u3.left))) = ((r1.spelled ∙ ap (λ (xs : List ℕ). p a ++ (xs)) r2.spelled) ∙ ap (λ (xs : List ℕ). p a ++ (q b ++ (xs))) r3.spelled) in
          let whole : u.left ≡ text (make a b c) ++ u3.left = nested ∙ (sym (assoc3 (p a) (q b) (r c) u3.left) ∙ ap (λ (xs : List ℕ). xs ++ u3.left) (sym (spelled a b c))) in
          finish text lawful u u3 v (make a b c) z e3 (keeps a b c r1.in_range r2.in_range r3.in_range) whole r3.bytes;
      complete = λ z rest at0 h0.
          let (a, b, c, made, h1, h2, h3) = parts z h0 in
          let (at1, c1) = seq_complete f p P x1 a (q b ++ (r c ++ (rest))) at0 (λ a'. (g a'.1 >>= (λ b'. (h b'.1 >>= (λ c'. Ok (make a'.0 b'.0 c'.0, c'.1)))))) h1 in
          let (at2, c2) = seq_complete g q Q x2 b (r c ++ (rest)) at1 (λ b'. (h b'.1 >>= (λ c'. Ok (make a b'.0 c'.0, c'.1)))) h2 in
          let (at3, c3) = seq_complete h r R x3 c (rest) at2 (λ c'. Ok (make a b c'.0, c'.1)) h3 in
          let same : text z ++ rest ≡ p a ++ (q b ++ (r c ++ (rest))) = ap (λ (z : Z). text z ++ rest) (sym made) ∙ (ap (λ (xs : List ℕ). xs ++ rest) (spelled a b c) ∙ assoc3 (p a) (q b) (r c) rest) in
          (at3, ap (λ (xs : List ℕ). read (record { left = xs; at = at0 })) same ∙ (c1 ∙ (c2 ∙ (c3 ∙ ok_made at3 rest (make a b c) z made))));
    }

pub assoc4 : (x1 x2 x3 x4 y : List ℕ) → x1 ++ x2 ++ x3 ++ x4 ++ y ≡ x1 ++ (x2 ++ (x3 ++ (x4 ++ (y))))
assoc4 x1 x2 x3 x4 y = append_assoc (x1 ++ x2 ++ x3) x4 y ∙ assoc3 x1 x2 x3 (x4 ++ y)

pub exact4 : {A B C D Z : Type 0} {f : Unread → Result (A × Unread) FieldFault} {p : A → List ℕ} {P : A → Type 0} {g : Unread → Result (B × Unread) FieldFault} {q : B → List ℕ} {Q : B → Type 0} {h : Unread → Result (C × Unread) FieldFault} {r : C → List ℕ} {R : C → Type 0} {i : Unread → Result (D × Unread) FieldFault} {s : D → List ℕ} {S : D → Type 0} (make : A → B → C → D → Z) (text : Z → List ℕ) (lawful : Z → Type 0)
    → IsExact A f p P
    → IsExact B g q Q
    → IsExact C h r R
    → IsExact D i s S
    → ((a : A) (b : B) (c : C) (d : D) → text (make a b c d) ≡ p a ++ q b ++ r c ++ s d)
    → ((a : A) (b : B) (c : C) (d : D) → P a → Q b → R c → S d → lawful (make a b c d))
    → ((z : Z) → lawful z → (a : A) × (b : B) × (c : C) × (d : D) × (make a b c d ≡ z) × P a × Q b × R c × S d)
    → IsExact Z (λ u. (f u >>= (λ a'. (g a'.1 >>= (λ b'. (h b'.1 >>= (λ c'. (i c'.1 >>= (λ d'. Ok (make a'.0 b'.0 c'.0 d'.0, d'.1)))))))))) text lawful
exact4 {A = A} {B = B} {C = C} {D = D} {Z = Z} {f = f} {p = p} {P = P} {g = g} {q = q} {Q = Q} {h = h} {r = r} {R = R} {i = i} {s = s} {S = S} make text lawful x1 x2 x3 x4 spelled keeps parts =
    let read : Unread → Result (Z × Unread) FieldFault = λ u. (f u >>= (λ a'. (g a'.1 >>= (λ b'. (h b'.1 >>= (λ c'. (i c'.1 >>= (λ d'. Ok (make a'.0 b'.0 c'.0 d'.0, d'.1))))))))) in
    record {
      sound = λ u v z bytes e0.
          let (a, u1, r1, e1) = seq_sound f p P x1 u (λ a'. (g a'.1 >>= (λ b'. (h b'.1 >>= (λ c'. (i c'.1 >>= (λ d'. Ok (make a'.0 b'.0 c'.0 d'.0, d'.1)))))))) (z, v) bytes e0 in
          let (b, u2, r2, e2) = seq_sound g q Q x2 u1 (λ b'. (h b'.1 >>= (λ c'. (i c'.1 >>= (λ d'. Ok (make a b'.0 c'.0 d'.0, d'.1)))))) (z, v) r1.bytes e1 in
          let (c, u3, r3, e3) = seq_sound h r R x3 u2 (λ c'. (i c'.1 >>= (λ d'. Ok (make a b c'.0 d'.0, d'.1)))) (z, v) r2.bytes e2 in
          let (d, u4, r4, e4) = seq_sound i s S x4 u3 (λ d'. Ok (make a b c d'.0, d'.1)) (z, v) r3.bytes e3 in
          let nested : u.left ≡ p a ++ (q b ++ (r c ++ (s d ++ (u4.left)))) = (((r1.spelled ∙ ap (λ (xs : List ℕ). p a ++ (xs)) r2.spelled) ∙ ap (λ (xs : List ℕ). p a ++ (q b ++ (xs))) r3.spelled) ∙ ap (λ (xs : List ℕ). p a ++ (q b ++ (r c ++ (xs)))) r4.spelled) in
          let whole : u.left ≡ text (make a b c d) ++ u4.left = nested ∙ (sym (assoc4 (p a) (q b) (r c) (s d) u4.left) ∙ ap (λ (xs : List ℕ). xs ++ u4.left) (sym (spelled a b c d))) in
          finish text lawful u u4 v (make a b c d) z e4 (keeps a b c d r1.in_range r2.in_range r3.in_range r4.in_range) whole r4.bytes;
      complete = λ z rest at0 h0.
          let (a, b, c, d, made, h1, h2, h3, h4) = parts z h0 in
          let (at1, c1) = seq_complete f p P x1 a (q b ++ (r c ++ (s d ++ (rest)))) at0 (λ a'. (g a'.1 >>= (λ b'. (h b'.1 >>= (λ c'. (i c'.1 >>= (λ d'. Ok (make a'.0 b'.0 c'.0 d'.0, d'.1)))))))) h1 in
          let (at2, c2) = seq_complete g q Q x2 b (r c ++ (s d ++ (rest))) at1 (λ b'. (h b'.1 >>= (λ c'. (i c'.1 >>= (λ d'. Ok (make a b'.0 c'.0 d'.0, d'.1)))))) h2 in
          let (at3, c3) = seq_complete h r R x3 c (s d ++ (rest)) at2 (λ c'. (i c'.1 >>= (λ d'. Ok (make a b c'.0 d'.0, d'.1)))) h3 in
          let (at4, c4) = seq_complete i s S x4 d (rest) at3 (λ d'. Ok (make a b c d'.0, d'.1)) h4 in
          let same : text z ++ rest ≡ p a ++ (q b ++ (r c ++ (s d ++ (rest)))) = ap (λ (z : Z). text z ++ rest) (sym made) ∙ (ap (λ (xs : List ℕ). xs ++ rest) (spelled a b c d) ∙ assoc4 (p a) (q b) (r c) (s d) rest) in
          (at4, ap (λ (xs : List ℕ). read (record { left = xs; at = at0 })) same ∙ (c1 ∙ (c2 ∙ (c3 ∙ (c4 ∙ ok_made at4 rest (make a b c d) z made)))));
    }

pub assoc5 : (x1 x2 x3 x4 x5 y : List ℕ) → x1 ++ x2 ++ x3 ++ x4 ++ x5 ++ y ≡ x1 ++ (x2 ++ (x3 ++ (x4 ++ (x5 ++ (y)))))
assoc5 x1 x2 x3 x4 x5 y = append_assoc (x1 ++ x2 ++ x3 ++ x4) x5 y ∙ assoc4 x1 x2 x3 x4 (x5 ++ y)

pub exact5 : {A B C D E Z : Type 0} {f : Unread → Result (A × Unread) FieldFault} {p : A → List ℕ} {P : A → Type 0} {g : Unread → Result (B × Unread) FieldFault} {q : B → List ℕ} {Q : B → Type 0} {h : Unread → Result (C × Unread) FieldFault} {r : C → List ℕ} {R : C → Type 0} {i : Unread → Result (D × Unread) FieldFault} {s : D → List ℕ} {S : D → Type 0} {j : Unread → Result (E × Unread) FieldFault} {t : E → List ℕ} {T : E → Type 0} (make : A → B → C → D → E → Z) (text : Z → List ℕ) (lawful : Z → Type 0)
    → IsExact A f p P
    → IsExact B g q Q
    → IsExact C h r R
    → IsExact D i s S
    → IsExact E j t T
    → ((a : A) (b : B) (c : C) (d : D) (e : E) → text (make a b c d e) ≡ p a ++ q b ++ r c ++ s d ++ t e)
    → ((a : A) (b : B) (c : C) (d : D) (e : E) → P a → Q b → R c → S d → T e → lawful (make a b c d e))
    → ((z : Z) → lawful z → (a : A) × (b : B) × (c : C) × (d : D) × (e : E) × (make a b c d e ≡ z) × P a × Q b × R c × S d × T e)
    → IsExact Z (λ u. (f u >>= (λ a'. (g a'.1 >>= (λ b'. (h b'.1 >>= (λ c'. (i c'.1 >>= (λ d'. (j d'.1 >>= (λ e'. Ok (make a'.0 b'.0 c'.0 d'.0 e'.0, e'.1)))))))))))) text lawful
exact5 {A = A} {B = B} {C = C} {D = D} {E = E} {Z = Z} {f = f} {p = p} {P = P} {g = g} {q = q} {Q = Q} {h = h} {r = r} {R = R} {i = i} {s = s} {S = S} {j = j} {t = t} {T = T} make text lawful x1 x2 x3 x4 x5 spelled keeps parts =
    let read : Unread → Result (Z × Unread) FieldFault = λ u. (f u >>= (λ a'. (g a'.1 >>= (λ b'. (h b'.1 >>= (λ c'. (i c'.1 >>= (λ d'. (j d'.1 >>= (λ e'. Ok (make a'.0 b'.0 c'.0 d'.0 e'.0, e'.1))))))))))) in
    record {
      sound = λ u v z bytes e0.
          let (a, u1, r1, e1) = seq_sound f p P x1 u (λ a'. (g a'.1 >>= (λ b'. (h b'.1 >>= (λ c'. (i c'.1 >>= (λ d'. (j d'.1 >>= (λ e'. Ok (make a'.0 b'.0 c'.0 d'.0 e'.0, e'.1)))))))))) (z, v) bytes e0 in
          let (b, u2, r2, e2) = seq_sound g q Q x2 u1 (λ b'. (h b'.1 >>= (λ c'. (i c'.1 >>= (λ d'. (j d'.1 >>= (λ e'. Ok (make a b'.0 c'.0 d'.0 e'.0, e'.1)))))))) (z, v) r1.bytes e1 in
          let (c, u3, r3, e3) = seq_sound h r R x3 u2 (λ c'. (i c'.1 >>= (λ d'. (j d'.1 >>= (λ e'. Ok (make a b c'.0 d'.0 e'.0, e'.1)))))) (z, v) r2.bytes e2 in
          let (d, u4, r4, e4) = seq_sound i s S x4 u3 (λ d'. (j d'.1 >>= (λ e'. Ok (make a b c d'.0 e'.0, e'.1)))) (z, v) r3.bytes e3 in
          let (e, u5, r5, e5) = seq_sound j t T x5 u4 (λ e'. Ok (make a b c d e'.0, e'.1)) (z, v) r4.bytes e4 in
          let nested : u.left ≡ p a ++ (q b ++ (r c ++ (s d ++ (t e ++ (u5.left))))) = ((((r1.spelled ∙ ap (λ (xs : List ℕ). p a ++ (xs)) r2.spelled) ∙ ap (λ (xs : List ℕ). p a ++ (q b ++ (xs))) r3.spelled) ∙ ap (λ (xs : List ℕ). p a ++ (q b ++ (r c ++ (xs)))) r4.spelled) ∙ ap (λ (xs : List ℕ). p a ++ (q b ++ (r c ++ (s d ++ (xs))))) r5.spelled) in
          let whole : u.left ≡ text (make a b c d e) ++ u5.left = nested ∙ (sym (assoc5 (p a) (q b) (r c) (s d) (t e) u5.left) ∙ ap (λ (xs : List ℕ). xs ++ u5.left) (sym (spelled a b c d e))) in
          finish text lawful u u5 v (make a b c d e) z e5 (keeps a b c d e r1.in_range r2.in_range r3.in_range r4.in_range r5.in_range) whole r5.bytes;
      complete = λ z rest at0 h0.
          let (a, b, c, d, e, made, h1, h2, h3, h4, h5) = parts z h0 in
          let (at1, c1) = seq_complete f p P x1 a (q b ++ (r c ++ (s d ++ (t e ++ (rest))))) at0 (λ a'. (g a'.1 >>= (λ b'. (h b'.1 >>= (λ c'. (i c'.1 >>= (λ d'. (j d'.1 >>= (λ e'. Ok (make a'.0 b'.0 c'.0 d'.0 e'.0, e'.1)))))))))) h1 in
          let (at2, c2) = seq_complete g q Q x2 b (r c ++ (s d ++ (t e ++ (rest)))) at1 (λ b'. (h b'.1 >>= (λ c'. (i c'.1 >>= (λ d'. (j d'.1 >>= (λ e'. Ok (make a b'.0 c'.0 d'.0 e'.0, e'.1)))))))) h2 in
          let (at3, c3) = seq_complete h r R x3 c (s d ++ (t e ++ (rest))) at2 (λ c'. (i c'.1 >>= (λ d'. (j d'.1 >>= (λ e'. Ok (make a b c'.0 d'.0 e'.0, e'.1)))))) h3 in
          let (at4, c4) = seq_complete i s S x4 d (t e ++ (rest)) at3 (λ d'. (j d'.1 >>= (λ e'. Ok (make a b c d'.0 e'.0, e'.1)))) h4 in
          let (at5, c5) = seq_complete j t T x5 e (rest) at4 (λ e'. Ok (make a b c d e'.0, e'.1)) h5 in
          let same : text z ++ rest ≡ p a ++ (q b ++ (r c ++ (s d ++ (t e ++ (rest))))) = ap (λ (z : Z). text z ++ rest) (sym made) ∙ (ap (λ (xs : List ℕ). xs ++ rest) (spelled a b c d e) ∙ assoc5 (p a) (q b) (r c) (s d) (t e) rest) in
          (at5, ap (λ (xs : List ℕ). read (record { left = xs; at = at0 })) same ∙ (c1 ∙ (c2 ∙ (c3 ∙ (c4 ∙ (c5 ∙ ok_made at5 rest (make a b c d e) z made))))));
    }
