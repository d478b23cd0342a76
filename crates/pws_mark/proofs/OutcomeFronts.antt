-- Documents that begin with characters, and the longest beginning of a text.
use Rattle.std.proofs.Common.{◌≡◌, ◌⊎◌, inl, inr, ℕ, suc, ◌<◌, ◌≤◌, true, List, [], ◌∷◌, ◌++◌, length, take, drop, refl, ap, subst, sym, ◌∙◌, append_assoc, append-nil, arith, Option, Some, None}
use Rattle.std.specs.Prelude.{IsTrue, encode_utf8, encode_utf8_all}
use Rattle.std.specs.Option.{is_some}
use Rattle.std.proofs.lemmas.Bool.{cases_lt}
use Rattle.std.proofs.lemmas.List.{take-append-le, take-append-drop, length-take-le}
use Rattle.std.proofs.lemmas.Str.{encodes-append, cons_from_encodes, encode_same}
use Rattle.std.proofs.Math.Seq.{take-append_seam}
use Rattle.pws_mark.specs.Beginnings.{IsViable, IsLongest}
use Rattle.pws_mark.specs.Documents.{Document, spell}
use Rattle.pws_mark.specs.Grammar.{is_document}
use Rattle.pws_mark.specs.ReaderLaws.{RunsBegin}
use Rattle.pws_mark.specs.Scan.{run, start, then_run}
use Rattle.pws_mark.specs.Spelling.{write}
use Rattle.pws_mark.specs.States.{State}
use Rattle.pws_mark.proofs.Followed.{documents_are_followed}
use Rattle.pws_mark.proofs.Going.{run_append}
use Rattle.pws_mark.proofs.Spelled.{document_spelled}

leb_cases : (m n : ℕ) → (m ≤ n) ⊎ (n < m)
leb_cases m n = by (cases_lt n m)
  where
    by : (n < m) ⊎ (m ≤ n) → (m ≤ n) ⊎ (n < m)
    by (inl h) = inr h
    by (inr h) = inl h

-- characters whose bytes others begin with are first among those
pub record After (xs r ys : List ℕ) : Type 0 where
  pub more : List ℕ
  pub are : ys ≡ xs ++ more
  pub bytes : encode_utf8_all more ≡ r

pub chars_apart : (xs r ys : List ℕ) → encode_utf8_all xs ++ r ≡ encode_utf8_all ys → After xs r ys
chars_apart [] r ys e = record { more = ys; are = refl; bytes = sym e }
chars_apart (x ∷ xs) r ys e =
    let one = cons_from_encodes ys (encode_utf8_all xs ++ r) x (sym e ∙ append_assoc (encode_utf8 x) (encode_utf8_all xs) r) in
    let others = chars_apart xs r one.0 (sym one.2) in
    record { more = others.more; are = one.1 ∙ ap (λ z. x ∷ z) others.are; bytes = others.bytes }

-- where a character isn't longer than a part of another's bytes, which it begins with, they are one
one_char : (c z k : ℕ) (r t : List ℕ) → k ≤ length (encode_utf8 c) → length (encode_utf8 z) ≤ k → encode_utf8 z ++ r ≡ take k (encode_utf8 c) ++ t → c ≡ z
one_char c z k r t within short e =
    let n = length (encode_utf8 z) in
    let mine : take n (encode_utf8 z ++ r) ≡ encode_utf8 z = take-append_seam (encode_utf8 z) r in
    let whole : take k (encode_utf8 c) ++ drop k (encode_utf8 c) ≡ encode_utf8 c = take-append-drop k (encode_utf8 c) in
    let long : length (take k (encode_utf8 c)) ≡ k = length-take-le k (encode_utf8 c) within in
    let theirs : take n (take k (encode_utf8 c) ++ t) ≡ take n (take k (encode_utf8 c)) = take-append-le n (take k (encode_utf8 c)) t (omega arith) in
    let front : take n (take k (encode_utf8 c) ++ drop k (encode_utf8 c)) ≡ take n (take k (encode_utf8 c)) = take-append-le n (take k (encode_utf8 c)) (drop k (encode_utf8 c)) (omega arith) in
    let same : encode_utf8 z ≡ take n (encode_utf8 c) = sym mine ∙ (ap (take n) e ∙ (theirs ∙ (sym front ∙ ap (take n) whole))) in
    (encode_same c z [] (drop n (encode_utf8 c)) (append-nil (encode_utf8 c) ∙ (sym (take-append-drop n (encode_utf8 c)) ∙ ap (λ w. w ++ drop n (encode_utf8 c)) (sym same)))).0

pub reaches : (c z k : ℕ) (r t : List ℕ) → k ≤ length (encode_utf8 c) → encode_utf8 z ++ r ≡ take k (encode_utf8 c) ++ t → k ≤ length (encode_utf8 z)
reaches c z k r t within e = cases (leb_cases k (length (encode_utf8 z))) (one_char c z k r t within)
  where
    cases : (k ≤ length (encode_utf8 z)) ⊎ (length (encode_utf8 z) < k) → (length (encode_utf8 z) ≤ k → encode_utf8 z ++ r ≡ take k (encode_utf8 c) ++ t → c ≡ z) → k ≤ length (encode_utf8 z)
    cases (inl a) one = a
    cases (inr a) one = let same = one (omega arith) e in omega (arith, ap (λ w. length (encode_utf8 w)) same)

pub longer : (c z k : ℕ) (r t : List ℕ) → k < length (encode_utf8 c) → encode_utf8 z ++ r ≡ take k (encode_utf8 c) ++ t → k < length (encode_utf8 z)
longer c z k r t within e = cases (leb_cases (suc k) (length (encode_utf8 z))) (one_char c z k r t (omega arith))
  where
    cases : (suc k ≤ length (encode_utf8 z)) ⊎ (length (encode_utf8 z) < suc k) → (length (encode_utf8 z) ≤ k → encode_utf8 z ++ r ≡ take k (encode_utf8 c) ++ t → c ≡ z) → k < length (encode_utf8 z)
    cases (inl a) one = omega arith
    cases (inr a) one = let same = one (omega arith) e in omega (arith, ap (λ w. length (encode_utf8 w)) same)

-- a document that begins with these characters, and where the reader is behind them
pub record Reaches (d : Document) (xs : List ℕ) (r : List ℕ) : Type 0 where
  pub more : List ℕ
  pub written : write d ≡ xs ++ more
  pub bytes : encode_utf8_all more ≡ r
  pub state : State
  pub runs : run start xs ≡ Some state
  pub onward : is_some (run state more) ≡ true

pub document_reaches : (d : Document) (xs r : List ℕ) → IsTrue (is_document d) → spell d ≡ encode_utf8_all xs ++ r → Reaches d xs r
document_reaches d xs r lawful e =
    let split = chars_apart xs r (write d) (sym e ∙ sym (document_spelled d lawful)) in
    let f = documents_are_followed d lawful in
    by split (run start xs) refl (sym (run_append start xs split.more) ∙ (ap (run start) (sym split.are) ∙ f.runs))
  where
    by : (split : After xs r (write d)) (o : Option State) → run start xs ≡ o → then_run (run start xs) (λ t. run t split.more) ≡ Some (documents_are_followed d lawful).last → Reaches d xs r
    by split None is whole = absurd (let none : then_run None (λ t. run t split.more) ≡ Some (documents_are_followed d lawful).last = ap (λ z. then_run z (λ t. run t split.more)) (sym is) ∙ whole in cc)
    by split (Some s) is whole = record {
      more = split.more;
      written = split.are;
      bytes = split.bytes;
      state = s;
      runs = is;
      onward = ap is_some (ap (λ z. then_run z (λ t. run t split.more)) (sym is) ∙ whole);
    }

-- what was read begins a document
pub run_viable : RunsBegin → (front : List ℕ) (s : State) → run start front ≡ Some s → IsViable (encode_utf8_all front)
run_viable begin front s runs =
    let b = begin front s runs in
    (b.document, (encode_utf8_all b.rest, record { lawful = b.lawful; spelled = sym (document_spelled b.document b.lawful) ∙ (ap encode_utf8_all b.written ∙ encodes-append front b.rest) }))

-- what begins it does, too
pub front_viable : (xs ys : List ℕ) → IsViable (xs ++ ys) → IsViable xs
front_viable xs ys v = (v.0, (ys ++ v.1.0, record { lawful = v.1.1.lawful; spelled = v.1.1.spelled ∙ append_assoc xs ys v.1.0 }))

-- a text has one longest beginning
no_longer : (bytes : List ℕ) (m n : ℕ) → IsLongest bytes m → IsLongest bytes n → m < n → ⊥
no_longer bytes m n a b less =
    let within = b.within in
    let one : take n bytes ≡ take (suc m) bytes ++ drop (suc m) (take n bytes) =
    sym (take-append-drop (suc m) (take n bytes)) ∙ ap (λ z. z ++ drop (suc m) (take n bytes)) (sym (take-append-le (suc m) (take n bytes) (drop n bytes) (omega (arith, length-take-le n bytes within))) ∙ ap (take (suc m)) (take-append-drop n bytes)) in
    a.next (omega arith) (front_viable (take (suc m) bytes) (drop (suc m) (take n bytes)) (subst IsViable one b.viable))

pub one_longest : (bytes : List ℕ) (m n : ℕ) → IsLongest bytes m → IsLongest bytes n → m ≡ n
one_longest bytes m n a b = cases (leb_cases m n) (leb_cases n m) (no_longer bytes m n a b) (no_longer bytes n m b a)
  where
    cases : (m ≤ n) ⊎ (n < m) → (n ≤ m) ⊎ (m < n) → (m < n → ⊥) → (n < m → ⊥) → m ≡ n
    cases (inl x) (inl y) p q = omega arith
    cases (inr x) y p q = absurd (q x)
    cases (inl x) (inr y) p q = absurd (p y)
