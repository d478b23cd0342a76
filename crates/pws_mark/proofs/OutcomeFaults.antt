-- The faults that the reader notes are those of the documents that begin as a text does, as far as they are complete.
use Rattle.std.proofs.Common.{◌≡◌, ◌⊎◌, inl, inr, ℕ, ◌+◌, ◌≤◌, Bool, true, false, List, [], ◌∷◌, ◌++◌, length, map, take, refl, ap, subst, sym, ◌∙◌, append_assoc, arith, Option, Some, None, get_or}
use Rattle.std.specs.Prelude.{Contains, encode_utf8, encode_utf8_all, ◌&&◌, ◌==◌, not, nat_le, is_none, if◌then◌else◌, option_map}
use Rattle.std.specs.List.{list_all, list_any}
use Rattle.pws_tree.specs.Characters.{is_name_start}
use Rattle.std.proofs.lemmas.Bool.{and_parts, and_from}
use Rattle.std.proofs.lemmas.List.Elements.{Contains-append_cases, Contains-append_left, Contains-append_right}
use Rattle.std.proofs.lemmas.List.Folds.{list_all-append}
use Rattle.pws_mark.specs.Bindings.{Bindings, is_bound, written_prefix, element_name}
use Rattle.pws_mark.specs.Causes.{HasFault}
use Rattle.pws_mark.specs.Documents.{Document, spell}
use Rattle.pws_mark.specs.Faults.{Fault, is_wrong_name, is_value_name, first_place}
use Rattle.pws_mark.specs.Noted.{noted, noted_at, then_noted, finds, if_found, attributes_finds, tag_finds, start_finds, content_finds, word_finds, end_finds, reference_finds, is_wrong_read, are_read_twice}
use Rattle.pws_mark.specs.Outcome.{find_of, found}
use Rattle.pws_mark.specs.Scan.{step, run, then_run, next, start, reference_step, name_has}
use Rattle.pws_mark.specs.Spelling.{write}
use Rattle.pws_mark.specs.States.{Open, Outer, State, word_of, bound_at, prefix_declared, read_bound}
use Rattle.pws_mark.specs.Values.{Marked, letters}
use Rattle.pws_mark.specs.declared.errors.MarkKind.{MarkKind}
use Rattle.pws_mark.specs.declared.errors.MarkKind.TheVariants as kind
use Rattle.pws_mark.specs.declared.modes.Mode.{Mode}
use Rattle.pws_mark.specs.declared.modes.Mode.TheVariants as mode
use Rattle.pws_mark.specs.declared.modes.ReadAttribute.{ReadAttribute}
use Rattle.pws_mark.specs.declared.modes.ReadTag.{ReadTag}
use Rattle.pws_mark.specs.declared.modes.ReferenceStep.{ReferenceStep}
use Rattle.pws_mark.specs.declared.modes.ReferenceStep.TheVariants as stepped
use Rattle.pws_mark.proofs.Counted.{counts}
use Rattle.pws_mark.proofs.Followed.{documents_are_followed}
use Rattle.pws_mark.proofs.Going.{noted_append}
use Rattle.pws_mark.proofs.OutcomeFronts.{document_reaches, one_longest}
use Rattle.pws_mark.proofs.OutcomeLongest.{Comes}

pub contains_cons : {X : Type 0} (x : X) (xs : List X) (y : X) → Contains (x ∷ xs) y → (x ≡ y) ⊎ Contains xs y
contains_cons x xs y h = by (Contains-append_cases (x ∷ []) xs y h)
  where
    by : Contains (x ∷ []) y ⊎ Contains xs y → (x ≡ y) ⊎ Contains xs y
    by (inl w) = inl (let z : w.0 ≡ 0 = omega (arith, w.1) in subst (λ n. get_or (x ∷ []) n y ≡ y) z w.2)
    by (inr w) = inr w

contains_later : {X : Type 0} (x : X) (xs : List X) (y : X) → Contains xs y → Contains (x ∷ xs) y
contains_later x xs y h = Contains-append_right (x ∷ []) xs y h

-- a value of this function
pub record Among {X Y : Type 0} (g : X → Y) (xs : List X) (y : Y) : Type 0 where
  pub from : X
  pub is_in : Contains xs from
  pub gives : g from ≡ y

pub among_map : {X Y : Type 0} (g : X → Y) (xs : List X) (y : Y) → Contains (map g xs) y → Among g xs y
among_map g [] y h = absurd (omega (arith, h.1))
among_map g (x ∷ xs) y h = by (contains_cons (g x) (map g xs) y h) (among_map g xs y)
  where
    by : (g x ≡ y) ⊎ Contains (map g xs) y → (Contains (map g xs) y → Among g xs y) → Among g (x ∷ xs) y
    by (inl e) again = record { from = x; is_in = (0, omega arith, refl); gives = e }
    by (inr w) again = let a = again w in record { from = a.from; is_in = contains_later x xs a.from a.is_in; gives = a.gives }

pub map_among : {X Y : Type 0} (g : X → Y) (xs : List X) (x : X) → Contains xs x → Contains (map g xs) (g x)
map_among g [] x h = absurd (omega (arith, h.1))
map_among g (y ∷ xs) x h = by (contains_cons y xs x h) (map_among g xs x)
  where
    by : (y ≡ x) ⊎ Contains xs x → (Contains xs x → Contains (map g xs) (g x)) → Contains (g y ∷ map g xs) (g x)
    by (inl e) again = (0, omega arith, ap g e)
    by (inr w) again = contains_later (g y) (map g xs) (g x) (again w)

all_among : {X : Type 0} (p : X → Bool) (xs : List X) (x : X) → list_all p xs ≡ true → Contains xs x → p x ≡ true
all_among p [] x all h = absurd (omega (arith, h.1))
all_among p (y ∷ xs) x all h = by (contains_cons y xs x h) (and_parts (p y) (list_all p xs) all) (all_among p xs x)
  where
    by : (y ≡ x) ⊎ Contains xs x → (p y ≡ true) × (list_all p xs ≡ true) → (list_all p xs ≡ true → Contains xs x → p x ≡ true) → p x ≡ true
    by (inl e) parts again = ap p (sym e) ∙ parts.0
    by (inr w) parts again = again parts.1 w

-- what is noted is complete behind the character

noted_here : (s : State) (c : ℕ) (f : Fault) → Contains (noted_at s c) f → f.end ≡ s.at + length (encode_utf8 c)
noted_here s c f h =
    let a = among_map (λ (g : MarkKind × ℕ). record { kind = g.0; at = g.1; end = s.at + length (encode_utf8 c) }) (finds s.mode s.outer c) f h in
    sym (ap (λ (z : Fault). z.end) a.gives)

pub noted_behind : (zs : List ℕ) (s : State) (z : ℕ) (f : Fault) → Contains (noted s (z ∷ zs)) f → s.at + length (encode_utf8 z) ≤ f.end
unfolding noted
noted_behind [] s z f h = by (Contains-append_cases (noted_at s z) (then_noted (step s z) (λ t. [])) f h) (step s z)
  where
    none : (o : Option State) → Contains (then_noted o (λ t. [])) f → ⊥
    none None w = omega (arith, w.1)
    none (Some t) w = omega (arith, w.1)

    by : Contains (noted_at s z) f ⊎ Contains (then_noted (step s z) (λ t. [])) f → (o : Option State) → s.at + length (encode_utf8 z) ≤ f.end
    by (inl w) o = omega (arith, noted_here s z f w)
    by (inr w) o = absurd (none (step s z) w)
noted_behind (y ∷ ys) s z f h = by (Contains-append_cases (noted_at s z) (then_noted (step s z) (λ t. noted t (y ∷ ys))) f h) (λ t. noted_behind ys t y f)
  where
    onward : ((t : State) → Contains (noted t (y ∷ ys)) f → t.at + length (encode_utf8 y) ≤ f.end) → (n : Option (Mode × Outer)) → Contains (then_noted (option_map (λ m. record { at = s.at + length (encode_utf8 z); mode = m.0; outer = m.1 }) n) (λ t. noted t (y ∷ ys))) f → s.at + length (encode_utf8 z) ≤ f.end
    onward again None w = absurd (omega (arith, w.1))
    onward again (Some m) w = omega (arith, again (record { at = s.at + length (encode_utf8 z); mode = m.0; outer = m.1 }) w)

    by : Contains (noted_at s z) f ⊎ Contains (then_noted (step s z) (λ t. noted t (y ∷ ys))) f → ((t : State) → Contains (noted t (y ∷ ys)) f → t.at + length (encode_utf8 y) ≤ f.end) → s.at + length (encode_utf8 z) ≤ f.end
    by (inl w) again = omega (arith, noted_here s z f w)
    by (inr w) again = onward again (next s.mode s.outer s.at z) w

pub noted_until : (cs : List ℕ) (s t : State) (f : Fault) → run s cs ≡ Some t → Contains (noted s cs) f → f.end ≤ t.at
unfolding run noted
noted_until [] s t f runs h = absurd (omega (arith, h.1))
noted_until (c ∷ cs) s t f runs h = by (next s.mode s.outer s.at c) runs (Contains-append_cases (noted_at s c) (then_noted (step s c) (λ u. noted u cs)) f h) (λ (u : State). noted_until cs u t f)
  where
    by : (n : Option (Mode × Outer)) → then_run (option_map (λ m. record { at = s.at + length (encode_utf8 c); mode = m.0; outer = m.1 }) n) (λ u. run u cs) ≡ Some t
        → Contains (noted_at s c) f ⊎ Contains (then_noted (option_map (λ m. record { at = s.at + length (encode_utf8 c); mode = m.0; outer = m.1 }) n) (λ u. noted u cs)) f
        → ((u : State) → run u cs ≡ Some t → Contains (noted u cs) f → f.end ≤ t.at) → f.end ≤ t.at
    by None r w again = absurd cc
    by (Some m) r (inl w) again = omega (arith, noted_here s c f w, counts cs (record { at = s.at + length (encode_utf8 c); mode = m.0; outer = m.1 }) t r)
    by (Some m) r (inr w) again = again (record { at = s.at + length (encode_utf8 c); mode = m.0; outer = m.1 }) r w

-- the kinds of what is noted

abbrev pub is_noted : MarkKind → Bool
is_noted kind.Size = false
is_noted kind.Utf8 = false
is_noted kind.Doctype = false
is_noted kind.Instruction = false
is_noted _ = true

are_noted : List (MarkKind × ℕ) → Bool
are_noted finding = list_all (λ f. is_noted f.0) finding

both_noted : (xs ys : List (MarkKind × ℕ)) → are_noted xs ≡ true → are_noted ys ≡ true → are_noted (xs ++ ys) ≡ true
unfolding are_noted
both_noted xs ys a b = list_all-append (λ f. is_noted f.0) xs ys ∙ and_from (are_noted xs) (are_noted ys) a b

if_noted : (b : Bool) (k : MarkKind) (at : ℕ) → is_noted k ≡ true → are_noted (if_found b k at) ≡ true
unfolding are_noted
if_noted true k at h = and_from (is_noted k) true h refl
if_noted false k at h = refl

attributes_noted : (m : Bindings) (seen more : List ReadAttribute) → are_noted (attributes_finds m seen more) ≡ true
unfolding are_noted
attributes_noted m seen [] = refl
attributes_noted m seen (a ∷ more) =
    by (is_wrong_read m a (prefix_declared a.name)) (list_any (are_read_twice m a) seen) (attributes_noted m (a ∷ seen) more)
  where
    by : (b d : Bool) → are_noted (attributes_finds m (a ∷ seen) more) ≡ true → are_noted (if_found b kind.Prefix a.at ++ (if_found d kind.Twice a.at ++ attributes_finds m (a ∷ seen) more)) ≡ true
    by b d h = both_noted (if_found b kind.Prefix a.at) (if_found d kind.Twice a.at ++ attributes_finds m (a ∷ seen) more) (if_noted b kind.Prefix a.at refl) (both_noted (if_found d kind.Twice a.at) (attributes_finds m (a ∷ seen) more) (if_noted d kind.Twice a.at refl) h)

start_noted : (o : Outer) (tag : ReadTag) → are_noted (start_finds o tag) ≡ true
unfolding tag_finds are_noted
start_noted o tag =
    let m = read_bound tag.attributes (bound_at o.opens) in
    both_noted (if_found (is_wrong_name m tag.name) kind.Prefix (tag.at + 1)) (attributes_finds m [] tag.attributes) (if_noted (is_wrong_name m tag.name) kind.Prefix (tag.at + 1) refl) (attributes_noted m [] tag.attributes)

content_noted : (m : Bindings) (at : ℕ) (w : Option Marked) → are_noted (content_finds m at w) ≡ true
unfolding are_noted
content_noted m at None = refl
content_noted m at (Some word) = if_noted (not (is_bound m (written_prefix (letters word)))) kind.Prefix (first_place word) refl

word_noted : (m : Bindings) (at : ℕ) (w : Option (Option Marked)) → are_noted (word_finds m at w) ≡ true
unfolding are_noted
word_noted m at None = refl
word_noted m at (Some w) = content_noted m at (word_of w)

end_noted : (opens : List Open) → are_noted (end_finds opens) ≡ true
unfolding are_noted
end_noted [] = refl
end_noted (x ∷ xs) = word_noted x.bound x.at x.word

reference_noted : (at : ℕ) (r : Option ReferenceStep) → are_noted (reference_finds at r) ≡ true
unfolding are_noted
reference_noted at None = refl
reference_noted at (Some (stepped.More r)) = refl
reference_noted at (Some (stepped.Done c)) = if_noted (is_none c) kind.Entity at refl

where_noted : (b : Bool) (xs : List (MarkKind × ℕ)) → are_noted xs ≡ true → are_noted (if b then xs else []) ≡ true
unfolding are_noted
where_noted true xs h = h
where_noted false xs h = refl

unless_noted : (b : Bool) (xs : List (MarkKind × ℕ)) → are_noted xs ≡ true → are_noted (if b then [] else xs) ≡ true
unfolding are_noted
unless_noted true xs h = refl
unless_noted false xs h = h

finds_noted : (m : Mode) (o : Outer) (c : ℕ) → are_noted (finds m o c) ≡ true
unfolding finds are_noted
finds_noted (mode.HeadOpened at) o c = if_noted (is_name_start c && nat_le 64 (length o.opens)) kind.Depth at refl
finds_noted (mode.Opened at) o c = if_noted (is_name_start c && nat_le 64 (length o.opens)) kind.Depth at refl
finds_noted (mode.TagName tag starts) o c = where_noted (c == 62) (start_finds o tag) (start_noted o tag)
finds_noted (mode.InTag tag spaced) o c = where_noted (c == 62) (start_finds o tag) (start_noted o tag)
finds_noted (mode.Slash tag) o c =
    let wrong = is_value_name (element_name (read_bound tag.attributes (bound_at o.opens)) tag.name) in
    both_noted (start_finds o tag) (if_found wrong kind.Syntax tag.at) (start_noted o tag) (if_noted wrong kind.Syntax tag.at refl)
finds_noted (mode.TextReference at r) o c = reference_noted at (reference_step r c)
finds_noted (mode.ValueReference tag name v at r) o c = reference_noted at (reference_step r c)
finds_noted (mode.EndName n) o c = unless_noted (name_has o.opens n c) (if c == 62 then end_finds o.opens else []) (where_noted (c == 62) (end_finds o.opens) (end_noted o.opens))
finds_noted mode.EndGap o c = where_noted (c == 62) (end_finds o.opens) (end_noted o.opens)
finds_noted _ o c = refl

noted_kind : (cs : List ℕ) (s : State) (f : Fault) → Contains (noted s cs) f → is_noted f.kind ≡ true
unfolding noted are_noted
noted_kind [] s f h = absurd (omega (arith, h.1))
noted_kind (c ∷ cs) s f h = by (Contains-append_cases (noted_at s c) (then_noted (step s c) (λ t. noted t cs)) f h) (λ t. noted_kind cs t f)
  where
    later : (o : Option State) → ((t : State) → Contains (noted t cs) f → is_noted f.kind ≡ true) → Contains (then_noted o (λ t. noted t cs)) f → is_noted f.kind ≡ true
    later None again w = absurd (omega (arith, w.1))
    later (Some t) again w = again t w

    by : Contains (noted_at s c) f ⊎ Contains (then_noted (step s c) (λ t. noted t cs)) f → ((t : State) → Contains (noted t cs) f → is_noted f.kind ≡ true) → is_noted f.kind ≡ true
    by (inl w) again =
        let a = among_map (λ (g : MarkKind × ℕ). record { kind = g.0; at = g.1; end = s.at + length (encode_utf8 c) }) (finds s.mode s.outer c) f w in
        ap (λ (z : Fault). is_noted z.kind) (sym a.gives) ∙ all_among (λ g. is_noted g.0) (finds s.mode s.outer c) a.from (finds_noted s.mode s.outer c) a.is_in
    by (inr w) again = later (step s c) again w

pub found_kind : (front : List ℕ) (k : MarkKind) (at : ℕ) → Contains (found front) (k, at) → is_noted k ≡ true
unfolding found
found_kind front k at h =
    let a = among_map find_of (noted start front) (k, at) h in
    ap (λ (z : MarkKind × ℕ). is_noted z.0) (sym a.gives) ∙ noted_kind front start a.from a.is_in

-- the faults within the longest beginning

noted_nothing : (s : State) (f : Fault) → Contains (noted s []) f → ⊥
unfolding noted
noted_nothing s f h = omega (arith, h.1)

noted_split : (d : Document) (front more : List ℕ) (s : State) → write d ≡ front ++ more → run start front ≡ Some s → noted start (write d) ≡ noted start front ++ noted s more
noted_split d front more s written runs = ap (noted start) written ∙ (noted_append start front more ∙ ap (λ z. noted start front ++ then_noted z (λ t. noted t more)) runs)

pub fault_found : (bytes front : List ℕ) (s : State) (k : ℕ) → run start front ≡ Some s → Comes bytes front s k → (kd : MarkKind) (at : ℕ) → HasFault bytes kd at → Contains (found front) (kd, at)
unfolding found
fault_found bytes front s k runs comes kd at h =
    let size : h.size ≡ s.at + k = one_longest bytes h.size (s.at + k) h.longest comes.longest in
    let spelled : spell h.document ≡ encode_utf8_all front ++ (comes.part ++ h.completes.0) =
    h.completes.1.spelled ∙ (ap (λ n. take n bytes ++ h.completes.0) size ∙ (ap (λ z. z ++ h.completes.0) comes.starts ∙ append_assoc (encode_utf8_all front) comes.part h.completes.0)) in
    let reach = document_reaches h.document front (comes.part ++ h.completes.0) h.completes.1.lawful spelled in
    let followed = documents_are_followed h.document h.completes.1.lawful in
    let among : Contains (noted start front ++ noted s reach.more) h.fault = subst (λ fs. Contains fs h.fault) (noted_split h.document front reach.more s reach.written runs) ((followed.notes h.fault).1 h.among) in
    let told : ◌≡◌ {A = MarkKind × ℕ} (h.fault.kind, h.fault.at) (kd, at) = (λ i. (h.kind_is i, h.at_is i)) in
    by reach.more reach.bytes size told (Contains-append_cases (noted start front) (noted s reach.more) h.fault among)
  where
    later : (more : List ℕ) → encode_utf8_all more ≡ comes.part ++ h.completes.0 → h.size ≡ s.at + k → Contains (noted s more) h.fault → ⊥
    later [] e size w = noted_nothing s h.fault w
    later (z ∷ zs) e size w = let complete = h.complete in omega (arith, noted_behind zs s z h.fault w, comes.width z (encode_utf8_all zs) h.completes.0 e)

    by : (more : List ℕ) → encode_utf8_all more ≡ comes.part ++ h.completes.0 → h.size ≡ s.at + k → ◌≡◌ {A = MarkKind × ℕ} (h.fault.kind, h.fault.at) (kd, at) → Contains (noted start front) h.fault ⊎ Contains (noted s more) h.fault → Contains (map find_of (noted start front)) (kd, at)
    by more e size told (inl w) = subst (λ (z : MarkKind × ℕ). Contains (map find_of (noted start front)) z) told (map_among find_of (noted start front) h.fault w)
    by more e size told (inr w) = absurd (later more e size w)

pub found_fault : (bytes front : List ℕ) (s : State) (k : ℕ) → run start front ≡ Some s → Comes bytes front s k → (kd : MarkKind) (at : ℕ) → Contains (found front) (kd, at) → HasFault bytes kd at
unfolding found
found_fault bytes front s k runs comes kd at h =
    let a = among_map find_of (noted start front) (kd, at) h in
    let v = comes.longest.viable in
    let d = v.0 in
    let spelled : spell d ≡ encode_utf8_all front ++ (comes.part ++ v.1.0) = v.1.1.spelled ∙ (ap (λ z. z ++ v.1.0) comes.starts ∙ append_assoc (encode_utf8_all front) comes.part v.1.0) in
    let reach = document_reaches d front (comes.part ++ v.1.0) v.1.1.lawful spelled in
    let followed = documents_are_followed d v.1.1.lawful in
    let among : Contains (noted start (write d)) a.from = subst (λ fs. Contains fs a.from) (sym (noted_split d front reach.more s reach.written runs)) (Contains-append_left (noted start front) (noted s reach.more) a.from a.is_in) in
    record {
      size = s.at + k;
      longest = comes.longest;
      document = d;
      completes = v.1;
      fault = a.from;
      among = (followed.notes a.from).0 among;
      kind_is = ap (λ (z : MarkKind × ℕ). z.0) a.gives;
      at_is = ap (λ (z : MarkKind × ℕ). z.1) a.gives;
      complete = omega (arith, noted_until front start s a.from runs a.is_in);
    }
