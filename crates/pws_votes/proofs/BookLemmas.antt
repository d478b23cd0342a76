-- What the tallies of a book stand for after a vote, as the view is left, and as the low mark rises.
use Rattle.std.proofs.Common.{◌≡◌, ℕ, zero, suc, ◌+◌, ◌<◌, ◌≤◌, ◌&&◌, Bool, true, false, cond, nat_eq, nat_lt, List, Option, Some, None, is_some, refl, sym, ◌∙◌, ap, arith}
use Rattle.std.specs.Option.{option_map_or, option_and_then, unwrap_or}
use Rattle.std.specs.Ordering.{nat_cmp, eq_by_cmp}
use Rattle.std.specs.Cmp.{nat_cmp_total}
use Rattle.std.specs.FinMap.{FinMap, contains_key, empty, get, insert, remove, retain_keys, len, nat_cmp-IsAntisymmetric, get-empty, get-insert, get-remove, get-retain_keys, len-empty, len-insert, same_map}
use Rattle.std.proofs.lemmas.Bool.{false≢true}
use Rattle.std.proofs.lemmas.Bool.Decides.{nat_tests}
use Rattle.pws_base.specs.Places.{is_in_window}
use Rattle.pws_base.specs.Shapes.{size_of_group}
use Rattle.pws_places.specs.PlaceMaps.{PlaceMap, no_places, after_answer, after_put, without_place, cleared, raised_to}
use Rattle.pws_places.proofs.Answered.{is_kept}
use Rattle.pws_places.proofs.Listed.{tied}
use Rattle.pws_votes.specs.declared.kinds.VoteKind.{VoteKind}
use Rattle.pws_votes.specs.declared.kinds.VoteKind.TheVariants.{Prepare, Commit, Checkpoint}
use Rattle.pws_votes.specs.declared.mask_book.Tallies.{Tallies}
use Rattle.pws_votes.specs.declared.kinds.Vote.TheVariants as vote
use Rattle.pws_votes.specs.Votes.{Book, Key, key, key_cmp, can_vote, has_vote, answer_to, is_checkpoint, is_vote_for, matching_of}
use Rattle.pws_votes.specs.ListBooks.{is_same_kind, is_same_key}
use Rattle.pws_base.specs.Counts.{count_below}
use Rattle.std.specs.Str.{bytes_eq}
use Rattle.pws_votes.specs.Masks.{Tallied, is_said}
use Rattle.pws_votes.proofs.MaskLemmas.{same_count}
use Rattle.pws_votes.specs.MaskBooks.{map_of, vote_at, is_inside, vote_in, votes_of, with_vote_at, with_vote, left_view, raised, IsWithin, AreWithin}
use Rattle.pws_votes.proofs.Found.{keys_total, keys_exact, keys_are, test_is}
use Rattle.pws_votes.proofs.Numbered.{get_is}

eq_by : (q p : ℕ) (b : Bool) → nat_eq q p ≡ b → eq_by_cmp nat_cmp q p ≡ b
eq_by q p true h = grind (arith, nat_tests)
eq_by q p false h = grind (arith, nat_tests)

eq_is : (q p : ℕ) → eq_by_cmp nat_cmp q p ≡ nat_eq q p
eq_is q p = eq_by q p (nat_eq q p) refl

no_either : {X : Type 0} (b : Bool) → ◌≡◌ {A = Option X} (cond b None None) None
no_either true = refl
no_either false = refl

pub in_empty : (o : Option Tallied) (v : ℕ) → get (unwrap_or o empty) v ≡ option_and_then (λ tally. get tally v) o
in_empty None v = get-empty nat_cmp v
in_empty (Some tally) v = refl

-- one vote more
vote_at_new : (m : PlaceMap Tallied) (place voter : ℕ) (d : List ℕ) (p v : ℕ) (b : Bool) → nat_eq p place ≡ b → vote_at (with_vote_at m place voter d) p v ≡ cond (b && nat_eq v voter) (Some d) (vote_at m p v)
vote_at_new m place voter d p v true e =
    let same : p ≡ place = grind (arith, nat_tests) in
    let tally = unwrap_or (get m.rows place) empty in
    ap (option_and_then (λ tally. get tally v)) (get-insert nat_cmp_total m.rows place (insert tally voter d) p ∙ ap (λ b. cond b (Some (insert tally voter d)) (get m.rows p)) (eq_is p place ∙ e))
    ∙ (get-insert nat_cmp_total tally voter d v
    ∙ (ap (λ b. cond b (Some d) (get tally v)) (eq_is v voter)
    ∙ ap (cond (nat_eq v voter) (Some d)) (in_empty (get m.rows place) v ∙ ap (λ q. vote_at m q v) (sym same))))
vote_at_new m place voter d p v false e =
    let tally = unwrap_or (get m.rows place) empty in
    ap (option_and_then (λ tally. get tally v)) (get-insert nat_cmp_total m.rows place (insert tally voter d) p ∙ ap (λ b. cond b (Some (insert tally voter d)) (get m.rows p)) (eq_is p place ∙ e))

vote_of_kind : (a b : VoteKind) (t : Tallies) (place voter : ℕ) (d : List ℕ) (p v : ℕ) → vote_at (map_of a (with_vote b t place voter d)) p v ≡ cond (is_same_kind a b && nat_eq p place && nat_eq v voter) (Some d) (vote_at (map_of a t) p v)
vote_of_kind Prepare Prepare t place voter d p v = vote_at_new t.prepares place voter d p v (nat_eq p place) refl
vote_of_kind Commit Commit t place voter d p v = vote_at_new t.commits place voter d p v (nat_eq p place) refl
vote_of_kind Checkpoint Checkpoint t place voter d p v = vote_at_new t.checkpoints place voter d p v (nat_eq p place) refl
vote_of_kind Prepare Commit t place voter d p v = refl
vote_of_kind Prepare Checkpoint t place voter d p v = refl
vote_of_kind Commit Prepare t place voter d p v = refl
vote_of_kind Commit Checkpoint t place voter d p v = refl
vote_of_kind Checkpoint Prepare t place voter d p v = refl
vote_of_kind Checkpoint Commit t place voter d p v = refl

pub low_stays : (kind : VoteKind) (t : Tallies) (place voter : ℕ) (d : List ℕ) → (with_vote kind t place voter d).prepares.low ≡ t.prepares.low
low_stays Prepare t place voter d = refl
low_stays Commit t place voter d = refl
low_stays Checkpoint t place voter d = refl

pub commits_stay : (kind : VoteKind) (t : Tallies) (place voter : ℕ) (d : List ℕ) → (with_vote kind t place voter d).commits.low ≡ t.commits.low
commits_stay Prepare t place voter d = refl
commits_stay Commit t place voter d = refl
commits_stay Checkpoint t place voter d = refl

pub checkpoints_stay : (kind : VoteKind) (t : Tallies) (place voter : ℕ) (d : List ℕ) → (with_vote kind t place voter d).checkpoints.low ≡ t.checkpoints.low
checkpoints_stay Prepare t place voter d = refl
checkpoints_stay Commit t place voter d = refl
checkpoints_stay Checkpoint t place voter d = refl

module _ (f : ℕ) (t : Tallies) (kind : VoteKind) (place voter : ℕ) (d : List ℕ) (s : f ≤ 3) (inside : is_inside f t.prepares.low (key kind place voter) ≡ true) where
  at_low : (q : Key) → vote_in f (with_vote kind t place voter d) q ≡ cond (is_inside f t.prepares.low q) (cond (is_same_key q (key kind place voter)) (Some d) (vote_at (map_of q.kind t) q.place q.voter)) None
  at_low q =
      ap (λ low. cond (is_inside f low q) (vote_at (map_of q.kind (with_vote kind t place voter d)) q.place q.voter) None) (low_stays kind t place voter d)
      ∙ ap (λ o. cond (is_inside f t.prepares.low q) o None) (vote_of_kind q.kind kind t place voter d q.place q.voter)

  new_by : (q : Key) (b : Bool) → is_same_key q (key kind place voter) ≡ b → cond (is_inside f t.prepares.low q) (cond b (Some d) (vote_at (map_of q.kind t) q.place q.voter)) None ≡ cond b (Some d) (vote_in f t q)
  new_by q true e = ap (λ b. cond b (Some d) None) (ap (is_inside f t.prepares.low) (keys_are q (key kind place voter) e) ∙ inside)
  new_by q false e = refl

  new_at : (q : Key) → vote_in f (with_vote kind t place voter d) q ≡ cond (is_same_key q (key kind place voter)) (Some d) (vote_in f t q)
  new_at q = at_low q ∙ new_by q (is_same_key q (key kind place voter)) refl

  pub added : votes_of f (with_vote kind t place voter d) ≡ insert (votes_of f t) (key kind place voter) d
  added = same_map keys_total keys_exact _ _ (λ q.
      get_is f (with_vote kind t place voter d) s q ∙ (new_at q
      ∙ sym (get-insert keys_total (votes_of f t) (key kind place voter) d q
      ∙ (ap (λ b. cond b (Some d) (get (votes_of f t) q)) (test_is q (key kind place voter)) ∙ ap (cond (is_same_key q (key kind place voter)) (Some d)) (get_is f t s q)))))

-- the votes that are kept of a map
kept_at : (m : FinMap key_cmp (List ℕ)) (p : Key → Bool) (q : Key) → get (retain_keys m p) q ≡ cond (p q) (get m q) None
kept_at m p q = get-retain_keys m p q (λ x e. ap p (sym (keys_exact q x e)))

-- leaving the view
vote_cleared : (m : PlaceMap Tallied) (p v : ℕ) → vote_at (cleared m) p v ≡ None
vote_cleared m p v = ap (option_and_then (λ tally. get tally v)) (get-empty nat_cmp p)

left_at : (f : ℕ) (t : Tallies) (kind : VoteKind) (p v : ℕ) (b : Bool) → cond b (vote_at (map_of kind (left_view t)) p v) None ≡ cond (is_checkpoint kind) (cond b (vote_at (map_of kind t) p v) None) None
left_at f t Prepare p v b = ap (λ o. cond b o None) (vote_cleared t.prepares p v) ∙ no_either b
left_at f t Commit p v b = ap (λ o. cond b o None) (vote_cleared t.commits p v) ∙ no_either b
left_at f t Checkpoint p v b = refl

pub left : (f : ℕ) (t : Tallies) → f ≤ 3 → votes_of f (left_view t) ≡ retain_keys (votes_of f t) (λ k. is_checkpoint k.kind)
left f t s = same_map keys_total keys_exact _ _ (λ q.
    get_is f (left_view t) s q ∙ (left_at f t q.kind q.place q.voter (is_inside f t.prepares.low q)
    ∙ sym (kept_at (votes_of f t) (λ k. is_checkpoint k.kind) q ∙ ap (λ o. cond (is_checkpoint q.kind) o None) (get_is f t s q))))

-- raising the low mark
and_then_cond : (b : Bool) (o : Option Tallied) (v : ℕ) → option_and_then (λ tally. get tally v) (cond b o None) ≡ cond b (option_and_then (λ tally. get tally v) o) None
and_then_cond true o v = refl
and_then_cond false o v = refl

vote_raised : (m : PlaceMap Tallied) (low p v : ℕ) → vote_at (raised_to low m) p v ≡ cond (nat_lt low p) (vote_at m p v) None
vote_raised m low p v =
    ap (option_and_then (λ tally. get tally v)) (get-retain_keys m.rows (λ x. nat_lt low x) p (λ x e. ap (nat_lt low) (sym (nat_cmp-IsAntisymmetric p x e))))
    ∙ and_then_cond (nat_lt low p) (get m.rows p) v

none_by : (m : PlaceMap Tallied) (p v : ℕ) → IsWithin m → is_in_window m.low p ≡ false → (o : Option Tallied) → get m.rows p ≡ o → option_and_then (λ tally. get tally v) o ≡ None
none_by m p v within w None e = refl
none_by m p v within w (Some tally) e = absurd (false≢true (sym w ∙ within p (ap is_some e)))

vote_outside : (m : PlaceMap Tallied) (p v : ℕ) → IsWithin m → is_in_window m.low p ≡ false → vote_at m p v ≡ None
vote_outside m p v within w = none_by m p v within w (get m.rows p) refl

raised_by : (low high p : ℕ) (V : Bool) (o : Option (List ℕ)) → low ≤ high → (is_in_window low p ≡ false → o ≡ None) → (b w : Bool) → nat_lt high p ≡ b → is_in_window low p ≡ w
    → cond (V && is_in_window high p) (cond b o None) None ≡ cond b (cond (V && w) o None) None
raised_by low high p V o l out false w e g = no_either (V && is_in_window high p)
raised_by low high p V o l out true true e g =
    let near : is_in_window high p ≡ true = grind (arith, nat_tests) in
    ap (λ x. cond (V && x) o None) near
raised_by low high p V o l out true false e g =
    ap (λ x. cond (V && is_in_window high p) x None) (out g) ∙ (no_either (V && is_in_window high p) ∙ sym (ap (λ x. cond (V && false) x None) (out g) ∙ no_either (V && false)))

vote_of_raised : (kind : VoteKind) (t : Tallies) (low p v : ℕ) → vote_at (map_of kind (raised low t)) p v ≡ cond (nat_lt low p) (vote_at (map_of kind t) p v) None
vote_of_raised Prepare t low p v = vote_raised t.prepares low p v
vote_of_raised Commit t low p v = vote_raised t.commits low p v
vote_of_raised Checkpoint t low p v = vote_raised t.checkpoints low p v

-- all tallies have one low mark
pub record AreOne (t : Tallies) : Type 0 where
  pub commits : t.commits.low ≡ t.prepares.low
  pub checkpoints : t.checkpoints.low ≡ t.prepares.low

low_of : (t : Tallies) → AreOne t → (kind : VoteKind) → (map_of kind t).low ≡ t.prepares.low
low_of t one Prepare = refl
low_of t one Commit = one.commits
low_of t one Checkpoint = one.checkpoints

raised_at : (f high : ℕ) (t : Tallies) → AreOne t → AreWithin t → t.prepares.low ≤ high → (q : Key) → vote_in f (raised high t) q ≡ cond (nat_lt high q.place) (vote_in f t q) None
raised_at f high t one within l q =
    ap (λ o. cond (is_inside f high q) o None) (vote_of_raised q.kind t high q.place q.voter)
    ∙ raised_by t.prepares.low high q.place (nat_lt q.voter (size_of_group f)) (vote_at (map_of q.kind t) q.place q.voter) l
    (λ w. vote_outside (map_of q.kind t) q.place q.voter (within q.kind) (ap (λ low. is_in_window low q.place) (low_of t one q.kind) ∙ w))
    (nat_lt high q.place) (is_in_window t.prepares.low q.place) refl refl

pub raised_is : (f high : ℕ) (t : Tallies) → f ≤ 3 → AreOne t → AreWithin t → t.prepares.low ≤ high → votes_of f (raised high t) ≡ retain_keys (votes_of f t) (λ k. nat_lt high k.place)
raised_is f high t s one within l = same_map keys_total keys_exact _ _ (λ q.
    get_is f (raised high t) s q ∙ (raised_at f high t one within l q
    ∙ sym (kept_at (votes_of f t) (λ k. nat_lt high k.place) q ∙ ap (λ o. cond (nat_lt high q.place) o None) (get_is f t s q))))

-- a book without votes
none_in : (f : ℕ) (q : Key) (kind : VoteKind) → vote_at (map_of kind (record { prepares = no_places; commits = no_places; checkpoints = no_places })) q.place q.voter ≡ None
none_in f q Prepare = ap (option_and_then (λ tally. get tally q.voter)) (get-empty nat_cmp q.place)
none_in f q Commit = ap (option_and_then (λ tally. get tally q.voter)) (get-empty nat_cmp q.place)
none_in f q Checkpoint = ap (option_and_then (λ tally. get tally q.voter)) (get-empty nat_cmp q.place)

pub none_is : (f : ℕ) → f ≤ 3 → votes_of f (record { prepares = no_places; commits = no_places; checkpoints = no_places }) ≡ empty
none_is f s = same_map keys_total keys_exact _ _ (λ q.
    get_is f (record { prepares = no_places; commits = no_places; checkpoints = no_places }) s q
    ∙ (ap (λ o. cond (is_inside f 0 q) o None) (none_in f q q.kind) ∙ (no_either (is_inside f 0 q) ∙ sym (get-empty key_cmp q))))

-- a row that was taken away and is put again
double : {X : Type 0} (b : Bool) (x o : Option X) → cond b x (cond b None o) ≡ cond b x o
double true x o = refl
double false x o = refl

put_again : (m : PlaceMap Tallied) (p : ℕ) (tally : Tallied) → insert (remove m.rows p) p tally ≡ insert m.rows p tally
put_again m p tally = same_map nat_cmp_total nat_cmp-IsAntisymmetric _ _ (λ q.
    get-insert nat_cmp_total (remove m.rows p) p tally q
    ∙ (ap (cond (eq_by_cmp nat_cmp q p) (Some tally)) (get-remove nat_cmp_total m.rows p q)
    ∙ (double (eq_by_cmp nat_cmp q p) (Some tally) (get m.rows q) ∙ sym (get-insert nat_cmp_total m.rows p tally q))))

pub put_back : (m : PlaceMap Tallied) (p : ℕ) (tally : Tallied) → is_in_window m.low p ≡ true → after_put (without_place m p) p tally ≡ record m { rows = insert m.rows p tally }
put_back m p tally h =
    let gone : contains_key (remove m.rows p) p ≡ false = ap is_some (get-remove nat_cmp_total m.rows p p ∙ ap (λ b. cond b None (get m.rows p)) (tied p p refl)) in
    ap (λ a. after_answer a (without_place m p) p tally) (is_kept (without_place m p) p h gone) ∙ ap (λ rows. record m { rows = rows }) (put_again m p tally)

-- how a vote is answered
pub is_already : (b : Book) (k : Key) → can_vote b k ≡ true → has_vote b k ≡ true → answer_to b k ≡ vote.Already
is_already b k h g = ap (λ x. cond x (cond (has_vote b k) vote.Already vote.Kept) vote.Outside) h ∙ ap (λ x. cond x vote.Already vote.Kept) g

pub is_kept_vote : (b : Book) (k : Key) → can_vote b k ≡ true → has_vote b k ≡ false → answer_to b k ≡ vote.Kept
is_kept_vote b k h g = ap (λ x. cond x (cond (has_vote b k) vote.Already vote.Kept) vote.Outside) h ∙ ap (λ x. cond x vote.Already vote.Kept) g

-- one vote more is counted
pub counted : (f : ℕ) (t : Tallies) (kind : VoteKind) (place voter : ℕ) (d : List ℕ) → f ≤ 3 → is_inside f t.prepares.low (key kind place voter) ≡ true → is_some (vote_in f t (key kind place voter)) ≡ false
    → len (votes_of f t) + 1 ≡ len (votes_of f (with_vote kind t place voter d))
counted f t kind place voter d s inside none =
    let k = key kind place voter in
    sym (ap len (added f t kind place voter d s inside) ∙ (len-insert keys_total (votes_of f t) k d
    ∙ ap (λ b. cond b (len (votes_of f t)) (len (votes_of f t) + 1)) (ap is_some (get_is f t s k) ∙ none)))

pub none_counted : (f : ℕ) → f ≤ 3 → 0 ≡ len (votes_of f (record { prepares = no_places; commits = no_places; checkpoints = no_places }))
none_counted f s = sym (ap len (none_is f s) ∙ len-empty key_cmp (List ℕ))

-- the book of tallies
abbrev pub book_of : ℕ → Tallies → Book
book_of f t = record { f = f; low = t.prepares.low; votes = votes_of f t }

-- how many voters have a digest
vote_is : (f : ℕ) (t : Tallies) → f ≤ 3 → (kind : VoteKind) (place : ℕ) (d : List ℕ) (v : ℕ) → v < size_of_group f
    → is_vote_for (book_of f t) kind place d v ≡ option_map_or (λ said. bytes_eq said d) (cond (is_in_window t.prepares.low place) (vote_at (map_of kind t) place v) None) false
vote_is f t s kind place d v l =
    let few : nat_lt v (size_of_group f) ≡ true = grind (arith, nat_tests) in
    ap (λ o. option_map_or (λ said. bytes_eq said d) o false) (get_is f t s (key kind place v) ∙ ap (λ b. cond (b && is_in_window t.prepares.low place) (vote_at (map_of kind t) place v) None) few)

pub matching_some : (f : ℕ) (t : Tallies) → f ≤ 3 → AreOne t → (kind : VoteKind) (place : ℕ) (d : List ℕ) (tally : Tallied) → is_in_window (map_of kind t).low place ≡ true → get (map_of kind t).rows place ≡ Some tally
    → count_below (size_of_group f) (λ v. is_said tally v d) ≡ matching_of (book_of f t) kind place d
unfolding matching_of
matching_some f t s one kind place d tally w e =
    let here = ap (λ low. is_in_window low place) (sym (low_of t one kind)) ∙ w in
    same_count (size_of_group f) (λ v. is_said tally v d) (is_vote_for (book_of f t) kind place d) (λ v l.
    sym (vote_is f t s kind place d v l
    ∙ (ap (λ b. option_map_or (λ said. bytes_eq said d) (cond b (vote_at (map_of kind t) place v) None) false) here
    ∙ ap (λ o. option_map_or (λ said. bytes_eq said d) (option_and_then (λ x. get x v) o) false) e)))

count_none : (n : ℕ) → 0 ≡ count_below n (λ v. false)
count_none zero = refl
count_none (suc n) = count_none n

pub matching_none : (f : ℕ) (t : Tallies) → f ≤ 3 → (kind : VoteKind) (place : ℕ) (d : List ℕ) → get (map_of kind t).rows place ≡ None → 0 ≡ matching_of (book_of f t) kind place d
unfolding matching_of
matching_none f t s kind place d e =
    count_none (size_of_group f)
    ∙ same_count (size_of_group f) (λ v. false) (is_vote_for (book_of f t) kind place d) (λ v l.
    sym (vote_is f t s kind place d v l
    ∙ (ap (λ o. option_map_or (λ said. bytes_eq said d) (cond (is_in_window t.prepares.low place) (option_and_then (λ x. get x v) o) None) false) e
    ∙ ap (λ o. option_map_or (λ said. bytes_eq said d) o false) (no_either {X = List ℕ} (is_in_window t.prepares.low place)))))
