-- A text that the reader takes whole, where nothing is noted, stands for the tree that its events build.
use Rattle.std.proofs.Common.{◌≡◌, ℕ, true, List, [], ◌∷◌, ◌++◌, map, refl, ap, subst, sym, ◌∙◌, append-nil, arith, Some}
use Rattle.std.specs.Prelude.{IsTrue, Contains, encode_utf8_all}
use Rattle.pws_tree.specs.Trees.{Tree, Nodes, NoNode, ElementThen}
use Rattle.pws_tree.specs.declared.texts.Name.{Name}
use Rattle.pws_tree.specs.declared.texts.Attr.{Attr}
use Rattle.pws_mark.specs.Documents.{Document, spell}
use Rattle.pws_mark.specs.Faults.{Fault, faults}
use Rattle.pws_mark.specs.Grammar.{is_document}
use Rattle.pws_mark.specs.Meaning.{meaning}
use Rattle.pws_mark.specs.Noted.{noted}
use Rattle.pws_mark.specs.Outcome.{found, find_of, EndsMean, EndsBuild}
use Rattle.pws_mark.specs.ReaderLaws.{RunsBegin, FaultlessIsLawful, read_events, Follows}
use Rattle.pws_mark.specs.Scan.{run, start, is_whole}
use Rattle.pws_mark.specs.Spelling.{write}
use Rattle.pws_mark.specs.States.{State}
use Rattle.pws_mark.proofs.Followed.{documents_are_followed}
use Rattle.pws_mark.proofs.Spelled.{document_spelled}

same_tree : (n m : Name) (a b : List Attr) (c d : Nodes) → n ≡ m → a ≡ b → c ≡ d → ◌≡◌ {A = Tree} (record { name = n; attrs = a; children = c }) (record { name = m; attrs = b; children = d })
same_tree n m a b c d p q r = λ i. record { name = p i; attrs = q i; children = r i }

pub none_same : (fs : List Fault) → ((f : Fault) → Contains fs f → Contains {X = Fault} [] f) → fs ≡ []
none_same [] h = refl
none_same (f ∷ fs) h = absurd (let w = h f (0, omega arith, refl) in omega (arith, w.1))

none_found : (front : List ℕ) → found front ≡ [] → noted start front ≡ []
unfolding found
none_found front = by (noted start front)
  where
    by : (fs : List Fault) → map find_of fs ≡ [] → fs ≡ []
    by [] h = refl
    by (f ∷ fs) h = absurd cc

-- a document that the reader takes whole
pub record IsWhole (chars : List ℕ) (s : State) : Type 0 where
  pub document : Document
  pub lawful : IsTrue (is_document document)
  pub written : write document ≡ chars
  pub spelled : spell document ≡ encode_utf8_all chars
  pub follows : Follows document
  pub last : follows.last ≡ s

pub is_one : RunsBegin → (chars : List ℕ) (s : State) → run start chars ≡ Some s → is_whole s ≡ true → IsWhole chars s
is_one begin chars s runs whole =
    let b = begin chars s runs in
    let written : write b.document ≡ chars = b.written ∙ (ap (λ z. chars ++ z) (b.whole whole) ∙ append-nil chars) in
    let f = documents_are_followed b.document b.lawful in
    let same : Some f.last ≡ Some s = sym f.runs ∙ (ap (run start) written ∙ runs) in
    record {
      document = b.document;
      lawful = b.lawful;
      written = written;
      spelled = sym (document_spelled b.document b.lawful) ∙ ap encode_utf8_all written;
      follows = f;
      last = cc;
    }

no_faults : (chars : List ℕ) (s : State) (w : IsWhole chars s) → found chars ≡ [] → faults w.document ≡ []
no_faults chars s w none =
    let nothing : noted start (write w.document) ≡ [] = ap (noted start) w.written ∙ none_found chars none in
    none_same (faults w.document) (λ f h. subst (λ fs. Contains fs f) nothing ((w.follows.notes f).1 h))

pub ends_mean : RunsBegin → EndsMean
ends_mean begin chars s t scalars runs whole none builds =
    let w = is_one begin chars s runs whole in
    let clean = no_faults chars s w none in
    let m = meaning w.document in
    let built : read_events s.outer.events ≡ ElementThen m.name m.attrs m.children NoNode ∷ [] = ap (λ z. read_events z.outer.events) (sym w.last) ∙ w.follows.builds clean in
    record {
      document = w.document;
      spells = record { lawful = w.lawful; spelled = w.spelled };
      faultless = clean;
      tree = same_tree m.name t.name m.attrs t.attrs m.children t.children (cc) (cc) (cc);
    }

pub ends_build : RunsBegin → FaultlessIsLawful → EndsBuild
ends_build begin lawful chars s scalars runs whole none =
    let w = is_one begin chars s runs whole in
    let clean = no_faults chars s w none in
    (meaning w.document, ap (λ z. read_events z.outer.events) (sym w.last) ∙ w.follows.builds clean, lawful w.document w.lawful clean)
