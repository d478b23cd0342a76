-- A document that begins as a text does, at a mark in it.
use Rattle.std.proofs.Common.{◌≡◌, ◌⊎◌, inl, inr, ℕ, ◌+◌, ◌<◌, true, false, List, [], ◌∷◌, ◌++◌, length, take, drop, refl, ap, sym, ◌∙◌, arith, Some}
use Rattle.std.specs.Prelude.{IsTrue, ◌≢◌, nat_eq, codes, encode_utf8_all}
use Rattle.std.specs.List.{starts_with}
use Rattle.std.specs.Str.{all_scalars}
use Rattle.std.proofs.lemmas.Str.{encodes-append}
use Rattle.std.proofs.Math.Seq.{take-append_seam}
use Rattle.pws_mark.specs.Beginnings.{Completes}
use Rattle.pws_mark.specs.Causes.{HasDoctype, HasInstruction}
use Rattle.pws_mark.specs.Documents.{Document}
use Rattle.pws_mark.specs.Grammar.{is_document}
use Rattle.pws_mark.specs.Outcome.{is_bang}
use Rattle.pws_mark.specs.Places.{is_at, is_inside, is_declared}
use Rattle.pws_mark.specs.ReaderLaws.{RunsBegin, RunsArePlaced, IsPlaced, is_early, is_early_in, is_before}
use Rattle.pws_mark.specs.Scan.{run, start, is_within, region}
use Rattle.pws_mark.specs.Spelling.{write}
use Rattle.pws_mark.specs.States.{State}
use Rattle.pws_mark.specs.declared.modes.Mode.{Mode}
use Rattle.pws_mark.specs.declared.modes.Mode.TheVariants as mode
use Rattle.std.proofs.lemmas.Bool.{and_parts}
use Rattle.pws_mark.proofs.Counted.{places_count}
use Rattle.pws_mark.proofs.Spelled.{document_spelled}
use Rattle.pws_mark.proofs.OutcomeCuts.{cut_at, next_is, stands, IsStuck, goes_further}
use Rattle.pws_mark.proofs.OutcomeFronts.{document_reaches}
use Rattle.pws_mark.proofs.OutcomeMarks.{doctype_met, IsBehindBang, run_nothing}

-- the reader stands before this mark, and goes on from there
pub record Meets (d : Document) (front rest : List ℕ) (s : State) (at c : ℕ) (t : List ℕ) : Type 0 where
  pub xs : List ℕ
  pub before : State
  pub there : run start xs ≡ Some before
  pub at_is : before.at ≡ at
  pub placed : IsPlaced d before
  pub more : List ℕ
  pub runs : run before more ≡ Some s
  pub ys : List ℕ
  pub chars : front ++ rest ≡ xs ++ c ∷ ys
  pub met : more ++ rest ≡ c ∷ ys
  pub bytes : encode_utf8_all ys ≡ t

pub meets : RunsArePlaced → (d : Document) (front rest : List ℕ) (s : State) (at c : ℕ) (t : List ℕ) → all_scalars (front ++ rest) ≡ true → run start front ≡ Some s → IsStuck s rest
    → Completes d (take at (encode_utf8_all (front ++ rest))) → c < 128 → drop at (encode_utf8_all (front ++ rest)) ≡ c ∷ t → Meets d front rest s at c t
meets are_placed d front rest s at c t scalars runs stuck completes low e =
    let cut = cut_at (front ++ rest) at c t scalars low e in
    let reach = document_reaches d cut.xs completes.0 completes.1.lawful (completes.1.spelled ∙ ap (λ z. z ++ completes.0) (sym cut.front)) in
    let onward = goes_further front rest cut.xs (c ∷ cut.ys) s reach.state runs stuck reach.runs cut.are in
    record {
      xs = cut.xs;
      before = reach.state;
      there = reach.runs;
      at_is = places_count cut.xs reach.state reach.runs ∙ cut.size;
      placed = are_placed d cut.xs reach.more reach.state completes.1.lawful reach.written reach.runs;
      more = onward.more;
      runs = onward.runs;
      ys = cut.ys;
      chars = cut.are;
      met = sym onward.ys_is;
      bytes = cut.behind;
    }

-- what stands there
pub doctype_bytes : (xs : List ℕ) → starts_with nat_eq xs (codes "<!DOCTYPE") ≡ true → (w : List ℕ) × (xs ≡ 60 ∷ 33 ∷ 68 ∷ w)
doctype_bytes xs h = (79 ∷ 67 ∷ 84 ∷ 89 ∷ 80 ∷ 69 ∷ drop 9 xs, stands (codes "<!DOCTYPE") xs h)

pub instruction_bytes : (xs : List ℕ) → starts_with nat_eq xs (codes "<?") ≡ true → (w : List ℕ) × (xs ≡ 60 ∷ 63 ∷ w)
instruction_bytes xs h = (drop 2 xs, stands (codes "<?") xs h)

-- where a document type stands, the reader stops before it or behind <!
pub doctype_found : RunsArePlaced → (front rest : List ℕ) (s : State) (at : ℕ) → all_scalars (front ++ rest) ≡ true → run start front ≡ Some s → IsStuck s rest → HasDoctype (encode_utf8_all (front ++ rest)) at
    → ((is_early s ≡ true) × (s.at ≡ at) × (rest ≢ [])) ⊎ ((is_early s ≡ true) × (is_bang s.mode ≡ true) × (s.at ≡ at + 2))
doctype_found are_placed front rest s at scalars runs stuck h =
    let there = doctype_bytes (drop at (encode_utf8_all (front ++ rest))) h.stands in
    let m = meets are_placed h.document front rest s at 60 (33 ∷ 68 ∷ there.0) scalars runs stuck h.completes (omega arith) there.1 in
    let two = next_is 33 m.ys (68 ∷ there.0) (omega arith) m.bytes in
    let three = next_is 68 two.0 there.0 (omega arith) two.2 in
    let inside : is_within m.before.mode ≡ false = sym m.placed.inside ∙ (ap (is_inside h.document) m.at_is ∙ h.outside) in
    let behind = h.behind in
    let before = h.before in
    let at_is = m.at_is in
    let early = m.placed.early (record { behind = omega arith; before = omega arith }) inside in
    let whole : m.more ++ rest ≡ 60 ∷ 33 ∷ 68 ∷ three.0 = m.met ∙ ap (λ z. 60 ∷ z) (two.1 ∙ ap (λ z. 33 ∷ z) three.1) in
    by m early (doctype_met m.more m.before s rest three.0 early m.runs stuck whole)
  where
    by : (m : Meets h.document front rest s at 60 (33 ∷ 68 ∷ (doctype_bytes (drop at (encode_utf8_all (front ++ rest))) h.stands).0)) → is_early m.before ≡ true → (m.more ≡ []) ⊎ IsBehindBang m.before s
        → ((is_early s ≡ true) × (s.at ≡ at) × (rest ≢ [])) ⊎ ((is_early s ≡ true) × (is_bang s.mode ≡ true) × (s.at ≡ at + 2))
    by m early (inl none) =
        let same = run_nothing m.before s (ap (run m.before) (sym none) ∙ m.runs) in
        inl (ap is_early (sym same) ∙ early, ap (λ (z : State). z.at) (sym same) ∙ m.at_is, λ nothing. absurd (let e = m.met in let f : m.more ++ rest ≡ [] = (λ i. none i ++ nothing i) in cc))
    by m early (inr w) = inr (w.early, w.bang, w.at_is ∙ ap (λ z. z + 2) m.at_is)

pub early_apart : (m : Mode) → is_early_in m ≡ true → is_within m ≡ false
early_apart (mode.Comment n) h = absurd cc
early_apart (mode.Section n after_return) h = absurd cc
early_apart _ h = refl

-- what begins there completes a beginning
front_bytes : (xs ys : List ℕ) (u : State) → run start xs ≡ Some u → take u.at (encode_utf8_all (xs ++ ys)) ≡ encode_utf8_all xs
front_bytes xs ys u runs =
    ap (λ n. take n (encode_utf8_all (xs ++ ys))) (places_count xs u runs) ∙ (ap (take (length (encode_utf8_all xs))) (encodes-append xs ys) ∙ take-append_seam (encode_utf8_all xs) (encode_utf8_all ys))

begun : (b : Document) (xs rest : List ℕ) → IsTrue (is_document b) → write b ≡ xs ++ rest → (bytes : List ℕ) → bytes ≡ encode_utf8_all xs → Completes b bytes
begun b xs rest lawful written bytes e =
    (encode_utf8_all rest, record { lawful = lawful; spelled = sym (document_spelled b lawful) ∙ (ap encode_utf8_all written ∙ (encodes-append xs rest ∙ ap (λ z. z ++ encode_utf8_all rest) (sym e))) })

pub doctype_given : RunsBegin → RunsArePlaced → (xs ys : List ℕ) (u : State) → run start xs ≡ Some u → is_early u ≡ true → is_at (encode_utf8_all (xs ++ ys)) u.at (codes "<!DOCTYPE") ≡ true → HasDoctype (encode_utf8_all (xs ++ ys)) u.at
doctype_given begin are_placed xs ys u runs early stands_there =
    let b = begin xs u runs in
    let placed = are_placed b.document xs b.rest u b.lawful b.written runs in
    let in_prolog = b.early early in
    let parts = and_parts (is_early_in u.mode) (is_before (region u.outer)) early in
    record {
      document = b.document;
      completes = begun b.document xs b.rest b.lawful b.written (take u.at (encode_utf8_all (xs ++ ys))) (front_bytes xs ys u runs);
      stands = stands_there;
      behind = in_prolog.behind;
      before = in_prolog.before;
      outside = placed.inside ∙ early_apart u.mode parts.0;
    }

pub instruction_given : RunsBegin → RunsArePlaced → (xs ys : List ℕ) (u : State) → run start xs ≡ Some u → is_within u.mode ≡ false → is_at (encode_utf8_all (xs ++ ys)) u.at (codes "<?") ≡ true → is_declared (encode_utf8_all (xs ++ ys)) u.at ≡ false → HasInstruction (encode_utf8_all (xs ++ ys)) u.at
instruction_given begin are_placed xs ys u runs within stands_there undeclared =
    let b = begin xs u runs in
    let placed = are_placed b.document xs b.rest u b.lawful b.written runs in
    record {
      document = b.document;
      completes = begun b.document xs b.rest b.lawful b.written (take u.at (encode_utf8_all (xs ++ ys))) (front_bytes xs ys u runs);
      stands = stands_there;
      undeclared = undeclared;
      outside = placed.inside ∙ within;
    }
