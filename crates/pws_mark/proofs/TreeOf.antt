-- The tree of a text is the one that it means, and reading gives it.
use Rattle.std.proofs.Common.{◌≡◌, ℕ, ◌≤◌, ◌&&◌, Bool, true, false, cond, nat_le, List, [], ◌∷◌, length, take, map, Option, Some, None, Ok, Err, refl, ap, subst, sym, ◌∙◌, arith}
use Rattle.std.specs.Prelude.{Contains, encode_utf8_all, chars}
use Rattle.std.specs.Str.{IsUtf8, IsValidUpTo, is_utf8}
use Rattle.std.proofs.lemmas.Bool.Decides.{nat_tests}
use Rattle.std.proofs.lemmas.Str.{encodes-chars, scalars-chars, chars_from_encodes, is_utf8-from_IsUtf8, IsUtf8-from_is_utf8}
use Rattle.pws_tree.specs.Trees.{Tree}
use Rattle.pws_mark.specs.Causes.{IsCause}
use Rattle.pws_mark.specs.Noted.{noted}
use Rattle.pws_mark.specs.Outcome.{found, find_of, AreCauses}
use Rattle.pws_mark.specs.ReaderLaws.{read_events}
use Rattle.pws_mark.specs.Reading.{Means, Refuses}
use Rattle.pws_mark.specs.Scan.{run, start, is_whole}
use Rattle.pws_mark.specs.Spelling.{write}
use Rattle.pws_mark.specs.States.{State}
use Rattle.pws_mark.specs.TreeOf.{is_nothing, root_among, ended_with, tree_of, TreesAreMeant, ReadingGivesTheTree}
use Rattle.pws_mark.specs.declared.errors.MarkError.{MarkError}
use Rattle.pws_mark.specs.declared.errors.MarkKind.{MarkKind}
use Rattle.pws_mark.specs.declared.errors.MarkKind.TheVariants as kind
use Rattle.pws_mark.specs.declared.errors.ReadError.TheVariants as read_error
use Rattle.pws_mark.proofs.Followed.{documents_are_followed}
use Rattle.pws_mark.proofs.LawfulMeaning.{meanings}
use Rattle.pws_mark.proofs.Outcome.{ends_tell}
use Rattle.pws_mark.proofs.OutcomeEnds.{none_same, ends_mean, ends_build}
use Rattle.pws_mark.proofs.Placed.{runs_are_placed}
use Rattle.pws_mark.proofs.Spelled.{document_spelled}
use Rattle.pws_mark.proofs.StandingBegins.{runs_begin}
use Rattle.pws_mark.proofs.WrittenUtf8.{spelled_utf8}

-- ---- what is known of a text that has a tree

record Opened (bytes : List ℕ) (t : Tree) : Type 0 where
  pub short : length bytes ≤ 32768
  pub utf8 : IsUtf8 bytes
  pub last : State
  pub runs : run start (chars bytes) ≡ Some last
  pub whole : is_whole last ≡ true
  pub nothing : found (chars bytes) ≡ []
  pub root : root_among (read_events last.outer.events) ≡ Some t

nothing_is : (fs : List (MarkKind × ℕ)) → is_nothing fs ≡ true → fs ≡ []
nothing_is [] h = refl
nothing_is (f ∷ fs) h = absurd (cc)

no_tree : {A : Type 0} (t : Tree) → ◌≡◌ {A = Option Tree} None (Some t) → A
no_tree t h = absurd (cc)

opened_at : (bytes : List ℕ) (t : Tree) (s : State) (w n : Bool) → length bytes ≤ 32768 → IsUtf8 bytes → run start (chars bytes) ≡ Some s → is_whole s ≡ w → is_nothing (found (chars bytes)) ≡ n → cond (w && n) (root_among (read_events s.outer.events)) None ≡ Some t → Opened bytes t
opened_at bytes t s true true short utf8 runs whole nothing h = record {
  short = short;
  utf8 = utf8;
  last = s;
  runs = runs;
  whole = whole;
  nothing = nothing_is (found (chars bytes)) nothing;
  root = h;
}
opened_at bytes t s true false short utf8 runs whole nothing h = no_tree t h
opened_at bytes t s false n short utf8 runs whole nothing h = no_tree t h

opened_by : (bytes : List ℕ) (t : Tree) (r : Option State) → length bytes ≤ 32768 → IsUtf8 bytes → run start (chars bytes) ≡ r → ended_with r (found (chars bytes)) ≡ Some t → Opened bytes t
opened_by bytes t None short utf8 runs h = no_tree t h
opened_by bytes t (Some s) short utf8 runs h = opened_at bytes t s (is_whole s) (is_nothing (found (chars bytes))) short utf8 runs refl refl h

opened_where : (bytes : List ℕ) (t : Tree) (a u : Bool) → nat_le (length bytes) 32768 ≡ a → is_utf8 bytes ≡ u → cond (a && u) (ended_with (run start (chars bytes)) (found (chars bytes))) None ≡ Some t → Opened bytes t
opened_where bytes t true true e f h =
    let short : length bytes ≤ 32768 = grind (arith, nat_tests, e) in
    opened_by bytes t (run start (chars bytes)) short (IsUtf8-from_is_utf8 bytes f) refl h
opened_where bytes t true false e f h = no_tree t h
opened_where bytes t false u e f h = no_tree t h

opened : (bytes : List ℕ) (t : Tree) → tree_of bytes ≡ Some t → Opened bytes t
unfolding tree_of
opened bytes t h = opened_where bytes t (nat_le (length bytes) 32768) (is_utf8 bytes) refl refl h

-- ---- the tree is the one that the text means

same_some : (t u : Tree) → Some t ≡ Some u → t ≡ u
same_some t u h = cc

meant : (bytes : List ℕ) (t : Tree) → tree_of bytes ≡ Some t → Means bytes t
meant bytes t h =
    let o = opened bytes t h in
    let scalars = scalars-chars bytes o.utf8 in
    let b = ends_build runs_begin meanings (chars bytes) o.last scalars o.runs o.whole o.nothing in
    let same : b.0 ≡ t = same_some b.0 t (sym (ap root_among b.1) ∙ o.root) in
    let means = ends_mean runs_begin (chars bytes) o.last b.0 scalars o.runs o.whole o.nothing b.1 in
    subst (λ z. Means z t) (encodes-chars bytes o.utf8) (subst (λ u. Means (encode_utf8_all (chars bytes)) u) same means)

nothing_found : (cs : List ℕ) → noted start cs ≡ [] → found cs ≡ []
unfolding found
nothing_found cs h = ap (map find_of) h

tree_with : (bytes : List ℕ) (t : Tree) (s : State) → length bytes ≤ 32768 → IsUtf8 bytes → run start (chars bytes) ≡ Some s → is_whole s ≡ true → found (chars bytes) ≡ [] → root_among (read_events s.outer.events) ≡ Some t → tree_of bytes ≡ Some t
unfolding tree_of
tree_with bytes t s short utf8 runs whole nothing root =
    let few : nat_le (length bytes) 32768 ≡ true = grind (arith, nat_tests, short) in
    rw (few, is_utf8-from_IsUtf8 bytes utf8, runs, nothing, whole) root

told : (bytes : List ℕ) (t : Tree) → length bytes ≤ 32768 → Means bytes t → tree_of bytes ≡ Some t
told bytes t short m =
    let d = m.document in
    let utf8 = spelled_utf8 d bytes m.spells in
    let written : write d ≡ chars bytes = chars_from_encodes (write d) bytes utf8 (document_spelled d m.spells.lawful ∙ m.spells.spelled) in
    let f = documents_are_followed d m.spells.lawful in
    let none : noted start (write d) ≡ [] = none_same (noted start (write d)) (λ g h. subst (λ fs. Contains fs g) m.faultless ((f.notes g).0 h)) in
    let root : root_among (read_events f.last.outer.events) ≡ Some t = ap root_among (f.builds m.faultless) ∙ ap Some m.tree in
    tree_with bytes t f.last short utf8 (ap (run start) (sym written) ∙ f.runs) f.whole (nothing_found (chars bytes) (ap (noted start) (sym written) ∙ none)) root

pub trees_are_meant : TreesAreMeant
trees_are_meant bytes t short = (meant bytes t, told bytes t short)

-- ---- a text that is refused has no tree

never_caused : (bytes : List ℕ) (t : Tree) (k : MarkKind) (at : ℕ) → Opened bytes t → IsCause bytes k at → ⊥
never_caused bytes t k at o cause =
    let causes = ends_tell runs_begin runs_are_placed (chars bytes) o.last (scalars-chars bytes o.utf8) o.runs o.whole in
    let known : AreCauses bytes (found (chars bytes)) = subst (λ z. AreCauses z (found (chars bytes))) (encodes-chars bytes o.utf8) causes in
    let among = subst (λ finds. Contains finds (k, at)) o.nothing ((known k at).0 cause) in
    omega (arith, among.1)

taken_whole : (bytes : List ℕ) → take (length bytes) bytes ≡ bytes
taken_whole [] = refl
taken_whole (b ∷ bs) = ap (λ z. b ∷ z) (taken_whole bs)

pub never_invalid : (bytes : List ℕ) (n : ℕ) → IsUtf8 bytes → IsValidUpTo bytes n → ⊥
never_invalid bytes n u v = v.longest (length bytes) v.short (subst IsUtf8 (sym (taken_whole bytes)) u)

never : (bytes : List ℕ) (t : Tree) (e : MarkError) (k : MarkKind) → Opened bytes t → Refuses bytes e k → ⊥
never bytes t e kind.Size o r = omega (arith, r.0, o.short)
never bytes t e kind.Utf8 o r = never_invalid bytes e.at o.utf8 r.1
never bytes t e kind.Syntax o r = never_caused bytes t e.kind e.at o r.2.cause
never bytes t e kind.Entity o r = never_caused bytes t e.kind e.at o r.2.cause
never bytes t e kind.Prefix o r = never_caused bytes t e.kind e.at o r.2.cause
never bytes t e kind.Twice o r = never_caused bytes t e.kind e.at o r.2.cause
never bytes t e kind.Doctype o r = never_caused bytes t e.kind e.at o r.2.cause
never bytes t e kind.Instruction o r = never_caused bytes t e.kind e.at o r.2.cause
never bytes t e kind.Depth o r = never_caused bytes t e.kind e.at o r.2.cause

refused : (bytes : List ℕ) (e : MarkError) (o : Option Tree) → tree_of bytes ≡ o → Refuses bytes e e.kind → tree_of bytes ≡ None
refused bytes e None h r = h
refused bytes e (Some t) h r = absurd (never bytes t e e.kind (opened bytes t h) r)

pub reading_gives_the_tree : ReadingGivesTheTree
reading_gives_the_tree bytes (Ok t) r = told bytes t r.0 r.2
reading_gives_the_tree bytes (Err (read_error.Mark e)) r = refused bytes e (tree_of bytes) refl r
reading_gives_the_tree bytes (Err read_error.Memory) r = tt
