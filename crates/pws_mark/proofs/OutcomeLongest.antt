-- Where the reader stops is the longest beginning of a text.
use Rattle.std.proofs.Common.{◌≡◌, ◌⊎◌, inl, inr, ℕ, suc, ◌+◌, ◌<◌, ◌≤◌, true, List, [], ◌∷◌, ◌++◌, length, take, drop, refl, ap, subst, sym, ◌∙◌, append_assoc, append-nil, arith, length-append, Option, Some, None}
use Rattle.std.specs.Prelude.{encode_utf8, encode_utf8_all}
use Rattle.std.specs.Option.{is_some}
use Rattle.std.proofs.lemmas.List.{take-append-le, take-append-drop, length-take-le}
use Rattle.std.proofs.lemmas.Str.{encodes-append, length-encode, len_utf8_bounds}
use Rattle.std.proofs.Math.Seq.{take-append_seam, take-append-add}
use Rattle.pws_mark.specs.Beginnings.{IsViable, IsLongest}
use Rattle.pws_mark.specs.ReaderLaws.{RunsBegin, BeginsTaken, Shares}
use Rattle.pws_mark.specs.Scan.{step, run, start, then_run}
use Rattle.pws_mark.specs.States.{State}
use Rattle.pws_mark.proofs.Counted.{places_count}
use Rattle.pws_mark.proofs.Going.{run_append}
use Rattle.pws_mark.proofs.OutcomeFronts.{document_reaches, run_viable, front_viable, reaches, longer}

-- the reader comes so many bytes beyond these characters, and no further
pub record Comes (bytes front : List ℕ) (s : State) (k : ℕ) : Type 0 where
  pub part : List ℕ
  pub longest : IsLongest bytes (s.at + k)
  pub starts : take (s.at + k) bytes ≡ encode_utf8_all front ++ part
  pub width : (z : ℕ) (r t : List ℕ) → encode_utf8 z ++ r ≡ part ++ t → k < length (encode_utf8 z)

wide : (z : ℕ) → 0 < length (encode_utf8 z)
wide z = omega (arith, length-encode z, (len_utf8_bounds z).0)

take_all : (n : ℕ) (xs : List ℕ) → n ≡ length xs → take n xs ≡ xs
take_all n xs e = ap (λ z. take z xs) e ∙ (ap (take (length xs)) (sym (append-nil xs)) ∙ take-append_seam xs [])

pub ends_come : RunsBegin → (chars : List ℕ) (s : State) → run start chars ≡ Some s → Comes (encode_utf8_all chars) chars s 0
ends_come begin chars s runs =
    let at : s.at ≡ length (encode_utf8_all chars) = places_count chars s runs in
    let whole : take (s.at + 0) (encode_utf8_all chars) ≡ encode_utf8_all chars = take_all (s.at + 0) (encode_utf8_all chars) (omega arith) in
    record {
      part = [];
      longest = record { within = omega arith; viable = subst IsViable (sym whole) (run_viable begin chars s runs); next = λ less. absurd (omega arith) };
      starts = whole ∙ sym (append-nil (encode_utf8_all chars));
      width = λ z r t e. wide z;
    }

-- one more character
pub run_one : (front : List ℕ) (s : State) (c : ℕ) → run start front ≡ Some s → run start (front ++ c ∷ []) ≡ step s c
unfolding run
run_one front s c runs = run_append start front (c ∷ []) ∙ (ap (λ z. then_run z (λ t. run t (c ∷ []))) runs ∙ by (step s c))
  where
    by : (o : Option State) → then_run o (λ t. Some t) ≡ o
    by None = refl
    by (Some t) = refl

part_viable : RunsBegin → (front : List ℕ) (s : State) (part : List ℕ) → run start front ≡ Some s → BeginsTaken s part → IsViable (encode_utf8_all front ++ part)
part_viable begin front s part runs b = by (step s b.char) refl b.takes
  where
    by : (o : Option State) → step s b.char ≡ o → is_some o ≡ true → IsViable (encode_utf8_all front ++ part)
    by None is h = absurd cc
    by (Some t) is h =
        let v = run_viable begin (front ++ b.char ∷ []) t (run_one front s b.char runs ∙ is) in
        front_viable (encode_utf8_all front ++ part) b.rest (subst IsViable (encodes-append front (b.char ∷ []) ∙ (ap (λ z. encode_utf8_all front ++ z) (append-nil (encode_utf8 b.char) ∙ b.bytes) ∙ sym (append_assoc (encode_utf8_all front) part b.rest))) v)

stops_viable : RunsBegin → (front : List ℕ) (s : State) (c k : ℕ) → run start front ≡ Some s → (k ≡ 0) ⊎ BeginsTaken s (take k (encode_utf8 c)) → IsViable (encode_utf8_all front ++ take k (encode_utf8 c))
stops_viable begin front s c k runs (inl none) = subst (λ n. IsViable (encode_utf8_all front ++ take n (encode_utf8 c))) (sym none) (subst IsViable (sym (append-nil (encode_utf8_all front))) (run_viable begin front s runs))
stops_viable begin front s c k runs (inr b) = part_viable begin front s (take k (encode_utf8 c)) runs b

first_taken : (s : State) (z : ℕ) (zs : List ℕ) → is_some (run s (z ∷ zs)) ≡ true → is_some (step s z) ≡ true
unfolding run
first_taken s z zs h = by (step s z) h
  where
    by : (o : Option State) → is_some (then_run o (λ t. run t zs)) ≡ true → is_some o ≡ true
    by None g = g
    by (Some t) g = refl

begins_taken : (s : State) (c j : ℕ) (more r : List ℕ) → 0 < j → j ≤ length (encode_utf8 c) → is_some (run s more) ≡ true → encode_utf8_all more ≡ take j (encode_utf8 c) ++ r → BeginsTaken s (take j (encode_utf8 c))
begins_taken s c j [] r some within onward e = absurd (let n = length-take-le j (encode_utf8 c) within in omega (arith, ap length e, length-append (take j (encode_utf8 c)) r))
begins_taken s c j (z ∷ zs) r some within onward e =
    let long = reaches c z j (encode_utf8_all zs) r within e in
    let n : length (take j (encode_utf8 c)) ≡ j = length-take-le j (encode_utf8 c) within in
    let same : take j (encode_utf8 z) ≡ take j (encode_utf8 c) =
    sym (take-append-le j (encode_utf8 z) (encode_utf8_all zs) long) ∙ (ap (take j) e ∙ (ap (λ m. take m (take j (encode_utf8 c) ++ r)) (sym n) ∙ take-append_seam (take j (encode_utf8 c)) r)) in
    record {
      char = z;
      takes = first_taken s z zs onward;
      rest = drop j (encode_utf8 z);
      bytes = sym (take-append-drop j (encode_utf8 z)) ∙ ap (λ w. w ++ drop j (encode_utf8 z)) same;
    }

none_further : (front : List ℕ) (s : State) (c k : ℕ) → run start front ≡ Some s → Shares s c k → IsViable (encode_utf8_all front ++ take (suc k) (encode_utf8 c)) → ⊥
none_further front s c k runs shares v =
    let within = shares.within in
    let reach = document_reaches v.0 front (take (suc k) (encode_utf8 c) ++ v.1.0) v.1.1.lawful (v.1.1.spelled ∙ append_assoc (encode_utf8_all front) (take (suc k) (encode_utf8 c)) v.1.0) in
    let same : Some reach.state ≡ Some s = sym reach.runs ∙ runs in
    let here : reach.state ≡ s = cc in
    shares.most (begins_taken s c (suc k) reach.more v.1.0 (omega arith) (omega arith) (subst (λ u. is_some (run u reach.more) ≡ true) here reach.onward) reach.bytes)

pub stops_come : RunsBegin → (front : List ℕ) (c : ℕ) (cs : List ℕ) (s : State) (k : ℕ) → run start front ≡ Some s → Shares s c k → Comes (encode_utf8_all (front ++ c ∷ cs)) front s k
stops_come begin front c cs s k runs shares =
    let bytes = encode_utf8_all (front ++ c ∷ cs) in
    let at : s.at ≡ length (encode_utf8_all front) = places_count front s runs in
    let within = shares.within in
    let split : bytes ≡ encode_utf8_all front ++ (encode_utf8 c ++ encode_utf8_all cs) = encodes-append front (c ∷ cs) in
    let size : length bytes ≡ length (encode_utf8_all front) + (length (encode_utf8 c) + length (encode_utf8_all cs)) = ap length split ∙ (length-append (encode_utf8_all front) (encode_utf8 c ++ encode_utf8_all cs) ∙ ap (λ z. length (encode_utf8_all front) + z) (length-append (encode_utf8 c) (encode_utf8_all cs))) in
    let taken = taken_so_far front c cs s.at at in
    record {
      part = take k (encode_utf8 c);
      longest = record {
        within = omega arith;
        viable = subst IsViable (sym (taken k (omega arith))) (stops_viable begin front s c k runs shares.some);
        next = λ less v. none_further front s c k runs shares (subst IsViable (ap (λ n. take n bytes) (add_one s.at k) ∙ taken (suc k) (omega arith)) v);
      };
      starts = taken k (omega arith);
      width = λ z r t e. longer c z k r t within e;
    }
  where
    add_one : (m n : ℕ) → suc (m + n) ≡ m + suc n
    add_one m n = omega arith

    taken_so_far : (front : List ℕ) (c : ℕ) (cs : List ℕ) (at : ℕ) → at ≡ length (encode_utf8_all front) → (j : ℕ) → j ≤ length (encode_utf8 c) → take (at + j) (encode_utf8_all (front ++ c ∷ cs)) ≡ encode_utf8_all front ++ take j (encode_utf8 c)
    taken_so_far front c cs at is j within =
        ap (λ n. take (n + j) (encode_utf8_all (front ++ c ∷ cs))) is ∙ (ap (take (length (encode_utf8_all front) + j)) (encodes-append front (c ∷ cs))
        ∙ (take-append-add (encode_utf8_all front) (encode_utf8 c ++ encode_utf8_all cs) j ∙ ap (λ z. encode_utf8_all front ++ z) (take-append-le j (encode_utf8 c) (encode_utf8_all cs) within)))
