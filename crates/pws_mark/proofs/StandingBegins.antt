-- What was read begins a document.
use Rattle.std.proofs.Common.{◌≡◌, ℕ, Bool, true, false, not, ◌&&◌, List, [], ◌∷◌, ◌++◌, length, refl, ap, subst, sym, ◌∙◌, arith, length-append, append_assoc, append-nil, None}
use Rattle.std.proofs.lemmas.Bool.{and_parts}
use Rattle.std.proofs.lemmas.Str.{encodes-append}
use Rattle.std.specs.Prelude.{encode_utf8_all}
use Rattle.pws_mark.specs.Documents.{Document, Content, Nothing, Comment, spell_head, spell_prolog, comment_start, comment_end}
use Rattle.pws_mark.specs.Grammar.{is_document, is_declaration, is_misc, is_root, is_content}
use Rattle.pws_mark.specs.ReaderLaws.{RunsBegin, Begins, IsInProlog, is_early, is_early_in, is_before}
use Rattle.pws_mark.specs.Scan.{is_whole, region}
use Rattle.pws_mark.specs.Spelling.{write, write_head, write_prolog, write_content}
use Rattle.pws_mark.specs.States.{Outer, State, is_empty}
use Rattle.pws_mark.specs.declared.modes.Mode.{Mode}
use Rattle.pws_mark.specs.declared.modes.Mode.TheVariants as mode
use Rattle.pws_mark.proofs.Counted.{places_count}
use Rattle.pws_mark.proofs.Spelled.{head_spelled, prolog_spelled}
use Rattle.pws_mark.proofs.Standing.{Head, Context, Before, Inside, Behind, At, LawfulContext, Agrees, Reaches, written, write_front, finish, rest_of, write_finish, finish_lawful, with_content, written_with, lawful_with, names_of, frame_names}
use Rattle.pws_mark.proofs.StandingModes.{StandsIn, region_of, region_agrees, mark_text}
use Rattle.pws_mark.proofs.StandingHeads.{at_head, head_at, bare}
use Rattle.pws_mark.proofs.StandingRuns.{stand}
use Rattle.pws_mark.proofs.StandingDeclared.{ends}

-- a place behind the head of a document and not behind its prolog
in_prolog : (d : Document) (front more behind : List ℕ) (at : ℕ) → is_document d ≡ true → at ≡ length (encode_utf8_all front) → front ≡ write_head d ++ behind → write_prolog d ≡ front ++ more → IsInProlog d at
in_prolog d front more behind at lawful is head prolog =
    let one = and_parts (is_declaration d.declaration) (is_misc d.before && ((is_root d.root && is_content d.root) && is_misc d.after)) lawful in
    let two = and_parts (is_misc d.before) ((is_root d.root && is_content d.root) && is_misc d.after) one.1 in
    let head_length : length (spell_head d) ≡ length (encode_utf8_all (write_head d)) = ap length (sym (head_spelled d one.0)) in
    let front_length : length (encode_utf8_all front) ≡ length (encode_utf8_all (write_head d) ++ encode_utf8_all behind) = ap (λ xs. length (encode_utf8_all xs)) head ∙ ap length (encodes-append (write_head d) behind) in
    let prolog_length : length (spell_prolog d) ≡ length (encode_utf8_all front ++ encode_utf8_all more) = ap length (sym (prolog_spelled d one.0 two.0) ∙ (ap encode_utf8_all prolog ∙ encodes-append front more)) in
    record {
      behind = omega (arith, is, head_length, front_length, length-append (encode_utf8_all (write_head d)) (encode_utf8_all behind));
      before = omega (arith, is, prolog_length, length-append (encode_utf8_all front) (encode_utf8_all more));
    }

-- the document of a context that was completed
written_finish : (x : Context) (front more : List ℕ) → written x ≡ front ++ more → write (finish x) ≡ front ++ (more ++ rest_of x)
written_finish x front more e = write_finish x ∙ (ap (λ z. z ++ rest_of x) e ∙ append_assoc front more (rest_of x))

not_whole : {A : Type 0} (b : Bool) → b ≡ false → b ≡ true → A
not_whole true e h = absurd cc
not_whole false e h = absurd cc

-- where no text may end, and no document type is told apart
inner : (s : State) (front : List ℕ) → Reaches front → is_whole s ≡ false → is_early s ≡ false → Begins s front
inner s front r whole early = record {
  document = finish r.context;
  lawful = finish_lawful r.context r.lawful;
  rest = r.more ++ rest_of r.context;
  written = written_finish r.context front r.more r.is;
  whole = λ e. not_whole _ whole e;
  early = λ e. not_whole _ early e;
}

and_no : (a b : Bool) → b ≡ false → (a && b) ≡ false
and_no true b e = e
and_no false b e = refl

-- where no token is open
whole_rest : (x : Context) (o : Outer) → Agrees x o → (is_empty o.opens && o.behind) ≡ true → rest_of x ≡ []
whole_rest (Before h) o agrees e = absurd (let i : o.behind ≡ true = (and_parts (is_empty o.opens) o.behind e).1 in let j : false ≡ true = sym agrees.1 ∙ i in cc)
whole_rest (Inside h f fs) o agrees e = by o.opens agrees (and_parts (is_empty o.opens) o.behind e).0
  where
    by : (os : _) → names_of os ≡ frame_names (f ∷ fs) → is_empty os ≡ true → rest_of (Inside h f fs) ≡ []
    by [] g i = absurd cc
    by (y ∷ ys) g i = absurd cc
whole_rest (Behind h root after) o agrees e = refl

-- before the element
early_before : (x y : Context) (o : Outer) (front part more : List ℕ) (at : ℕ) → Agrees x o → front ≡ written x ++ part → is_before (region o) ≡ true → at ≡ length (encode_utf8_all front) →
    is_document (finish y) ≡ true → ((h : Head) → x ≡ Before h → (write_head (finish y) ++ write_content h.before ≡ write_front h) × (write_prolog (finish y) ≡ front ++ more)) → IsInProlog (finish y) at
early_before (Before h) y o front part more at agrees is before place lawful same =
    let s = same h refl in
    in_prolog (finish y) front more (write_content h.before ++ part) at lawful place (is ∙ (ap (λ z. z ++ part) (sym s.0) ∙ append_assoc (write_head (finish y)) (write_content h.before) part)) s.1
early_before (Inside h f fs) y o front part more at agrees is before place lawful same = absurd (let i : is_before (region o) ≡ false = ap is_before (region_agrees (Inside h f fs) o agrees) in let j : false ≡ true = sym i ∙ before in cc)
early_before (Behind h root after) y o front part more at agrees is before place lawful same = absurd (let i : is_before (region o) ≡ false = ap is_before (region_agrees (Behind h root after) o agrees) in let j : false ≡ true = sym i ∙ before in cc)

content_begins : (s : State) (front : List ℕ) (n : ℕ) (ret : Bool) → s.mode ≡ mode.Content n ret → At s.outer front [] → s.at ≡ length (encode_utf8_all front) → Begins s front
content_begins s front n ret m h place = record {
  document = finish h.context;
  lawful = finish_lawful h.context h.lawful;
  rest = rest_of h.context;
  written = write_finish h.context ∙ ap (λ z. z ++ rest_of h.context) (sym (append-nil (written h.context)) ∙ sym h.front_is);
  whole = λ e. whole_rest h.context s.outer h.agrees (subst (λ k. is_whole (record { at = s.at; mode = k; outer = s.outer }) ≡ true) m e);
  early = λ e. early_before h.context h.context s.outer front [] [] s.at h.agrees h.front_is (and_parts (is_early_in s.mode) (is_before (region s.outer)) e).1 place (finish_lawful h.context h.lawful)
      (λ hd i. subst (λ x. (write_head (finish x) ++ write_content hd.before ≡ write_front hd) × (write_prolog (finish x) ≡ front ++ [])) (sym i) (refl, subst (λ x. written x ≡ front ++ []) i (sym (append-nil (written h.context)) ∙ (sym h.front_is ∙ sym (append-nil front)))));
}

abbrev empty_comment : Content
empty_comment = Comment [] Nothing

-- what stands before a comment is whole with it
opened_begins : (s : State) (front part more : List ℕ) → At s.outer front part → part ++ more ≡ 60 ∷ 33 ∷ 45 ∷ 45 ∷ 45 ∷ 45 ∷ 62 ∷ [] → is_whole s ≡ false → s.at ≡ length (encode_utf8_all front) → Reaches front → Begins s front
unfolding comment_start comment_end
opened_begins s front part more h parts whole place r = by h.context refl
  where
    other : is_before (region s.outer) ≡ false → Begins s front
    other e = inner s front r whole (and_no (is_early_in s.mode) (is_before (region s.outer)) e)

    by : (x : Context) → h.context ≡ x → Begins s front
    by (Inside hd f fs) e = other (ap is_before (region_agrees h.context s.outer h.agrees) ∙ ap (λ x. is_before (region_of x)) e)
    by (Behind hd root after) e = other (ap is_before (region_agrees h.context s.outer h.agrees) ∙ ap (λ x. is_before (region_of x)) e)
    by (Before hd) e =
        let front_is : front ≡ written (Before hd) ++ part = subst (λ x. front ≡ written x ++ part) e h.front_is in
        let lawful : LawfulContext (Before hd) = subst LawfulContext e h.lawful in
        let y_lawful : LawfulContext (with_content (Before hd) empty_comment) = lawful_with (Before hd) empty_comment lawful refl in
        let y_written : written (with_content (Before hd) empty_comment) ≡ front ++ more = written_with (Before hd) empty_comment ∙ (ap (λ z. written (Before hd) ++ z) (sym parts) ∙ (sym (append_assoc (written (Before hd)) part more) ∙ ap (λ z. z ++ more) (sym front_is))) in
        record {
          document = finish (with_content (Before hd) empty_comment);
          lawful = finish_lawful (with_content (Before hd) empty_comment) y_lawful;
          rest = more ++ rest_of (with_content (Before hd) empty_comment);
          written = written_finish (with_content (Before hd) empty_comment) front more y_written;
          whole = λ w. not_whole _ whole w;
          early = λ w. in_prolog (finish (with_content (Before hd) empty_comment)) front more (write_content hd.before ++ part) s.at (finish_lawful (with_content (Before hd) empty_comment) y_lawful) place
              (front_is ∙ append_assoc (write_head (finish (with_content (Before hd) empty_comment))) (write_content hd.before) part) y_written;
        }

begins_in : (s : State) (m : Mode) (front : List ℕ) → s.mode ≡ m → StandsIn m s.outer front → s.at ≡ length (encode_utf8_all front) → Begins s front
begins_in s (mode.Content n ret) front m h place = content_begins s front n ret m h.here place
begins_in s (mode.Start marked) front m h place =
    let here = at_head s.outer front (not marked) None Nothing [] h.outside (record { declaration = refl; before = refl }) (h.is ∙ bare_is (not marked)) in
    record {
      document = finish (Before (bare (not marked)));
      lawful = finish_lawful (Before (bare (not marked))) (record { declaration = refl; before = refl });
      rest = rest_of (Before (bare (not marked)));
      written = write_finish (Before (bare (not marked))) ∙ ap (λ z. z ++ rest_of (Before (bare (not marked)))) (sym (append-nil (write_front (bare (not marked)))) ∙ sym here.front_is);
      whole = λ w. not_whole _ (ap (λ k. is_whole (record { at = s.at; mode = k; outer = s.outer })) m) w;
      early = λ w. in_prolog (finish (Before (bare (not marked)))) front [] [] s.at (finish_lawful (Before (bare (not marked))) (record { declaration = refl; before = refl })) place
          (here.front_is ∙ ap (λ z. z ++ []) (append-nil (write_head (finish (Before (bare (not marked))))))) (sym (append-nil (write_front (bare (not marked)))) ∙ (sym here.front_is ∙ sym (append-nil front)));
    }
  where
    bare_is : (mark : Bool) → mark_text mark ≡ write_front (bare mark) ++ []
    bare_is mark = twice (mark_text mark)
      where
        twice : (xs : List ℕ) → xs ≡ ((xs ++ []) ++ []) ++ []
        twice xs = simp append-nil
begins_in s (mode.HeadOpened spot) front m h place = opened_begins s front (60 ∷ []) (33 ∷ 45 ∷ 45 ∷ 45 ∷ 45 ∷ 62 ∷ []) (head_at s.outer front h) refl (ap (λ k. is_whole (record { at = s.at; mode = k; outer = s.outer })) m) place ((ends (mode.HeadOpened spot) s.outer).reaches front h)
begins_in s (mode.Opened spot) front m h place = opened_begins s front (60 ∷ []) (33 ∷ 45 ∷ 45 ∷ 45 ∷ 45 ∷ 62 ∷ []) h refl (ap (λ k. is_whole (record { at = s.at; mode = k; outer = s.outer })) m) place ((ends (mode.Opened spot) s.outer).reaches front h)
begins_in s mode.Bang front m h place = opened_begins s front (60 ∷ 33 ∷ []) (45 ∷ 45 ∷ 45 ∷ 45 ∷ 62 ∷ []) h refl (ap (λ k. is_whole (record { at = s.at; mode = k; outer = s.outer })) m) place ((ends mode.Bang s.outer).reaches front h)
begins_in s mode.Dash front m h place = opened_begins s front (60 ∷ 33 ∷ 45 ∷ []) (45 ∷ 45 ∷ 45 ∷ 62 ∷ []) h refl (ap (λ k. is_whole (record { at = s.at; mode = k; outer = s.outer })) m) place ((ends mode.Dash s.outer).reaches front h)
begins_in s (mode.Declaring d) front m h place = inner s front ((ends (mode.Declaring d) s.outer).reaches front h) (ap (λ k. is_whole (record { at = s.at; mode = k; outer = s.outer })) m) (ap (λ k. is_early (record { at = s.at; mode = k; outer = s.outer })) m)
begins_in s (mode.TextReference spot r) front m h place = inner s front ((ends (mode.TextReference spot r) s.outer).reaches front h) (ap (λ k. is_whole (record { at = s.at; mode = k; outer = s.outer })) m) (ap (λ k. is_early (record { at = s.at; mode = k; outer = s.outer })) m)
begins_in s (mode.Comment n) front m h place = inner s front ((ends (mode.Comment n) s.outer).reaches front h) (ap (λ k. is_whole (record { at = s.at; mode = k; outer = s.outer })) m) (ap (λ k. is_early (record { at = s.at; mode = k; outer = s.outer })) m)
begins_in s (mode.SectionWord n) front m h place = inner s front ((ends (mode.SectionWord n) s.outer).reaches front h) (ap (λ k. is_whole (record { at = s.at; mode = k; outer = s.outer })) m) (ap (λ k. is_early (record { at = s.at; mode = k; outer = s.outer })) m)
begins_in s (mode.Section n ret) front m h place = inner s front ((ends (mode.Section n ret) s.outer).reaches front h) (ap (λ k. is_whole (record { at = s.at; mode = k; outer = s.outer })) m) (ap (λ k. is_early (record { at = s.at; mode = k; outer = s.outer })) m)
begins_in s (mode.TagName t starts) front m h place = inner s front ((ends (mode.TagName t starts) s.outer).reaches front h) (ap (λ k. is_whole (record { at = s.at; mode = k; outer = s.outer })) m) (ap (λ k. is_early (record { at = s.at; mode = k; outer = s.outer })) m)
begins_in s (mode.InTag t spaced) front m h place = inner s front ((ends (mode.InTag t spaced) s.outer).reaches front h) (ap (λ k. is_whole (record { at = s.at; mode = k; outer = s.outer })) m) (ap (λ k. is_early (record { at = s.at; mode = k; outer = s.outer })) m)
begins_in s (mode.Slash t) front m h place = inner s front ((ends (mode.Slash t) s.outer).reaches front h) (ap (λ k. is_whole (record { at = s.at; mode = k; outer = s.outer })) m) (ap (λ k. is_early (record { at = s.at; mode = k; outer = s.outer })) m)
begins_in s (mode.AttributeName t n starts) front m h place = inner s front ((ends (mode.AttributeName t n starts) s.outer).reaches front h) (ap (λ k. is_whole (record { at = s.at; mode = k; outer = s.outer })) m) (ap (λ k. is_early (record { at = s.at; mode = k; outer = s.outer })) m)
begins_in s (mode.BeforeEquals t n) front m h place = inner s front ((ends (mode.BeforeEquals t n) s.outer).reaches front h) (ap (λ k. is_whole (record { at = s.at; mode = k; outer = s.outer })) m) (ap (λ k. is_early (record { at = s.at; mode = k; outer = s.outer })) m)
begins_in s (mode.AfterEquals t n) front m h place = inner s front ((ends (mode.AfterEquals t n) s.outer).reaches front h) (ap (λ k. is_whole (record { at = s.at; mode = k; outer = s.outer })) m) (ap (λ k. is_early (record { at = s.at; mode = k; outer = s.outer })) m)
begins_in s (mode.Value t n v) front m h place = inner s front ((ends (mode.Value t n v) s.outer).reaches front h) (ap (λ k. is_whole (record { at = s.at; mode = k; outer = s.outer })) m) (ap (λ k. is_early (record { at = s.at; mode = k; outer = s.outer })) m)
begins_in s (mode.ValueReference t n v spot r) front m h place = inner s front ((ends (mode.ValueReference t n v spot r) s.outer).reaches front h) (ap (λ k. is_whole (record { at = s.at; mode = k; outer = s.outer })) m) (ap (λ k. is_early (record { at = s.at; mode = k; outer = s.outer })) m)
begins_in s (mode.EndName n) front m h place = inner s front ((ends (mode.EndName n) s.outer).reaches front h) (ap (λ k. is_whole (record { at = s.at; mode = k; outer = s.outer })) m) (ap (λ k. is_early (record { at = s.at; mode = k; outer = s.outer })) m)
begins_in s mode.EndGap front m h place = inner s front ((ends mode.EndGap s.outer).reaches front h) (ap (λ k. is_whole (record { at = s.at; mode = k; outer = s.outer })) m) (ap (λ k. is_early (record { at = s.at; mode = k; outer = s.outer })) m)

pub runs_begin : RunsBegin
runs_begin front s r = begins_in s s.mode front refl (stand front s r) (places_count front s r)
