-- What fits before a view is entered fits after it.
use Rattle.std.proofs.Common.{◌≡◌, ◌⊎◌, inl, inr, ℕ, ◌+◌, ◌<◌, ◌≤◌, ◌==◌, ◌&&◌, ◌||◌, not, max, nat_le, true, false, if◌then◌else◌, List, [], ◌∷◌, length, Option, Some, None, Contains, refl, sym, ◌∙◌, ap, subst, arith}
use Rattle.std.specs.Prelude.{IfSome}
use Rattle.std.specs.List.{All, fold, flat_map}
use Rattle.std.specs.Option.{option_or, option_and_then}
use Rattle.std.specs.Ordering.{nat_cmp}
use Rattle.std.specs.Str.{bytes_eq}
use Rattle.std.specs.Cmp.{nat_cmp_total}
use Rattle.std.specs.FinMap.{get, get-empty, nat_cmp-IsAntisymmetric}
use Rattle.std.proofs.lemmas.Bool.{false≢true, and_parts}
use Rattle.std.proofs.lemmas.Grind.{fold-append}
use Rattle.pws_base.specs.Places.{is_in_window}
use Rattle.pws_base.proofs.Maps.{put_cases}
use Rattle.pws_base.proofs.Members.{nowhere, here, there, first_or_rest, filter_has}
use Rattle.pws_event.specs.Counters.{Counters}
use Rattle.pws_msg.specs.declared.changes.Choice.{Choice}
use Rattle.pws_msg.specs.declared.changes.Named.{Named}
use Rattle.pws_msg.specs.declared.changes.NewView.{NewView}
use Rattle.pws_msg.specs.declared.changes.PRow.{PRow}
use Rattle.pws_msg.specs.declared.contents.Content.TheVariants as content
use Rattle.pws_msg.specs.Contents.{IsContent}
use Rattle.pws_msg.specs.Reported.{IsViewChange, IsNewView}
use Rattle.pws_msg.specs.Rows.{IsDigest, IsPRow}
use Rattle.pws_change.specs.declared.heard.Heard.{Heard}
use Rattle.pws_change.specs.declared.decisions.Decision.TheVariants.{Chosen}
use Rattle.pws_change.specs.Choices.{IsChoice, last_of}
use Rattle.pws_change.specs.Sets.{is_full}
use Rattle.pws_change.proofs.Agreeing.{agrees_is_tested}
use Rattle.pws_votes.specs.Votes.{Book}
use Rattle.pws_protocol.specs.States.{State, Slot, HeldChange, Relayed, primary, new_slot}
use Rattle.pws_protocol.specs.Gathered.{acks_for, had_of, with_had, all_had}
use Rattle.pws_protocol.specs.Actions as act
use Rattle.pws_protocol.specs.Actions.{next_enter}
use Rattle.pws_protocol.specs.Doing.{did, placed_from, taken, slots_of, highest_of, entered}
use Rattle.pws_voter_laws.specs.Enabled.{IsEnabled}
use Rattle.pws_voter_laws.proofs.Fields.{book_fits}
use Rattle.pws_voter_laws.proofs.Found.{nothing, same, guarded, then_is}
use Rattle.pws_voter_laws.proofs.Parts.{IsPlace, AreVotes, AreOwn, Whole, in_window}
use Rattle.pws_voter_laws.proofs.Resting.{with_book, enter_state}
use Rattle.pws_voter_laws.proofs.Tests.{enter_is}
use Rattle.pws_voter_laws.proofs.Updates.{book_with, votes_keep, votes_own, votes_leave}

-- what holds of all holds of each
pub in_all : {X : Type 0} (P : X → Type 0) (xs : List X) (x : X) → All P xs → Contains xs x → P x
in_all P xs x a c = subst P c.2 (a c.0 x c.1)

placed_in : (p : ℕ) (ds : List (List ℕ)) (x : ℕ × List ℕ) → Contains (placed_from p ds) x → (p ≤ x.0) × (x.0 < p + length ds) × Contains ds x.1
placed_in p [] x c = absurd (nowhere x c)
placed_in p (d ∷ ds) x c = elim (first_or_rest (p, d) x (placed_from (p + 1) ds) c) [
  | inl e ↦ (
      let a : p ≡ x.0 = ap (λ (y : ℕ × List ℕ). y.0) e in
      let b : d ≡ x.1 = ap (λ (y : ℕ × List ℕ). y.1) e in
      (omega (arith, a), omega (arith, a), subst (λ y. Contains (d ∷ ds) y) b (here d ds)))
  | inr r ↦ (let i = placed_in (p + 1) ds x r in let a = i.0 in let b = i.1 in (omega (arith, a), omega (arith, b), there d x.1 ds i.2))
]

slot_in : (xs : List (ℕ × List ℕ)) (p : ℕ) (t : Slot) → get (slots_of xs) p ≡ Some t → (x : ℕ × List ℕ) × Contains xs x × (x.0 ≡ p) × (new_slot x.1 ≡ t)
slot_in [] p t h = absurd (nothing t (sym (get-empty nat_cmp p) ∙ h))
slot_in (x ∷ xs) p t h = elim (put_cases nat_cmp_total nat_cmp-IsAntisymmetric (slots_of xs) x.0 p (new_slot x.1) t h) [
  | inl e ↦ (x, here x xs, sym e.0, e.1)
  | inr e ↦ (let r = slot_in xs p t e in (r.0, there x r.0 xs r.1, r.2, r.3))
]

highest_in : (xs : List (ℕ × List ℕ)) (x : ℕ × List ℕ) → Contains xs x → x.0 ≤ highest_of xs
highest_in [] x c = absurd (nowhere x c)
highest_in (y ∷ ys) x c = elim (first_or_rest y x ys c) [
  | inl e ↦ (let a : y.0 ≡ x.0 = ap (λ (z : ℕ × List ℕ). z.0) e in omega (arith, a))
  | inr r ↦ (let i = highest_in ys x r in omega (arith, i))
]

pub taken_in : (s : State) (c : Choice) (x : ℕ × List ℕ) → Contains (taken s c) x → ((s.low < x.0) × (x.0 ≤ s.low + 32)) × (x.0 ≤ last_of c) × Contains c.chosen x.1
unfolding taken
taken_in s c x k =
    let r = filter_has (λ (y : ℕ × List ℕ). is_in_window s.low y.0 && not (is_full s.pre_prepared y.0 y.1)) (placed_from (c.place + 1) c.chosen) x k in
    let i = placed_in (c.place + 1) c.chosen x r.0 in
    let b = i.1 in
    (in_window s.low x.0 (and_parts (is_in_window s.low x.0) (not (is_full s.pre_prepared x.0 x.1)) r.1).0, omega (arith, b), i.2)

highest_by : (k : ℕ) (xs : List (ℕ × List ℕ)) → ((x : ℕ × List ℕ) → Contains xs x → x.0 ≤ k) → highest_of xs ≤ k
highest_by k [] each = omega arith
highest_by k (x ∷ xs) each = let e = each x (here x xs) in let r = highest_by k xs (λ y c. each y (there x y xs c)) in omega (arith, e, r)

highest_inside : (s : State) (c : Choice) → last_of c ≤ 1000000 → (highest_of (taken s c) ≤ s.low + 32) × (highest_of (taken s c) ≤ 1000000)
highest_inside s c few = (
  highest_by (s.low + 32) (taken s c) (λ x k. (taken_in s c x k).0.1),
  highest_by 1000000 (taken s c) (λ x k. let l = (taken_in s c x k).1 in omega (arith, l, few)),
)

-- the slots of a choice, for a voter that was on the way and has what starts the view
pub entered_fits : (s : State) (c : Choice) → Whole s → s.active ≡ false → (s.new_view ≡ None → ⊥) → last_of c ≤ 1000000 → ((d : List ℕ) → Contains c.chosen d → IsDigest d) → Whole (entered s c)
unfolding entered
entered_fits s c f out there few long = record {
  who = f.who;
  evidence = f.evidence;
  bodies = f.bodies;
  book = f.book;
  votes = f.votes;
  numbers = f.numbers;
  own_votes = f.own_votes;
  waited = f.waited;
  marks = (let h = highest_inside s c few in (few, h.0, h.1));
  acks = f.acks;
  needed = f.needed;
  low = f.low;
  pending = λ p e h. absurd (nothing e (sym (get-empty nat_cmp p) ∙ subst (λ m. get m p ≡ Some e) (f.way out).1 h));
  slots = λ p t h.
      let x = slot_in (taken s c) p t h in
      let i = taken_in s c x.0 x.1 in
      let l = i.1 in
      let e = x.2 in
      let top = highest_in (taken s c) x.0 x.1 in (
        subst (IsPlace s.low) e (i.0.0, i.0.1, omega (arith, l, few)),
        omega (arith, top, e),
        subst (λ (t : Slot). t.is_committed ≡ true → t.is_prepared ≡ true) x.3 (λ k. absurd (false≢true k)),
        subst (λ (t : Slot). IsDigest t.digest) x.3 (long x.0.1 i.2),
      );
  way = λ h. absurd (false≢true (sym h));
  started = λ h l k. there k;
  new_view = f.new_view;
  texts = f.texts;
  dones = f.dones;
  there = f.there;
  chains = f.chains;
  chain = f.chain;
  prepared = f.prepared;
  pre_prepared = f.pre_prepared;
  heard = f.heard;
  own = f.own;
  relayed = f.relayed;
  alone_view = λ z. absurd (false≢true (sym out ∙ (f.alone_view z).1));
  alone_waited = f.alone_waited;
  alone_held = f.alone_held;
}

-- the highest place that changes in range name
fold_few : (k : ℕ) (rs : List PRow) (a : ℕ) → a ≤ k → ((r : PRow) → Contains rs r → r.place ≤ k) → fold (λ (place : ℕ) (r : PRow). max place r.place) a rs ≤ k
fold_few k [] a h each = h
fold_few k (r ∷ rs) a h each = let e = each r (here r rs) in fold_few k rs (max a r.place) (omega (arith, h, e)) (λ x c. each x (there r x rs c))

fold_all : (k : ℕ) (hs : List Heard) (a : ℕ) → a ≤ k → ((h : Heard) → Contains hs h → (r : PRow) → Contains h.change.prepared r → r.place ≤ k) → fold (λ (place : ℕ) (r : PRow). max place r.place) a (flat_map (λ h. h.change.prepared) hs) ≤ k
fold_all k [] a h each = h
fold_all k (x ∷ hs) a h each =
    subst (λ n. n ≤ k) (sym (fold-append (λ (place : ℕ) (r : PRow). max place r.place) a x.change.prepared (flat_map (λ (h : Heard). h.change.prepared) hs)))
    (fold_all k hs (fold (λ (place : ℕ) (r : PRow). max place r.place) a x.change.prepared) (fold_few k x.change.prepared a h (each x (here x hs))) (λ y c. each y (there x y hs c)))

-- the last place of a choice of changes in range
pub last_few : (n : ℕ) (hs : List Heard) (c : Choice) → IsChoice n hs (Chosen c) → ((h : Heard) → Contains hs h → IsViewChange h.change) → c.place ≤ 1000000 → last_of c ≤ 1000000
last_few n hs c g each h =
    let l = g.last in
    let m = fold_all 1000000 hs 0 (omega arith) (λ x k r i. (in_all IsPRow x.change.prepared r (each x k).prepared i).place_to) in
    omega (arith, l, m, h)

-- the changes that are had are in range
or_cases : {X : Type 0} (a b : Option X) (x : X) → option_or a b ≡ Some x → (a ≡ Some x) ⊎ (b ≡ Some x)
or_cases None b x h = inr h
or_cases (Some y) b x h = inl h

module _ (s : State) (f : Whole s) where
  had_in : (n : Named) (h : Heard) → had_of s n ≡ Some h → IsViewChange h.change
  unfolding had_of
  had_in n h e =
      let as_heard : HeldChange → Option Heard = λ c. if c.change.view == s.view && bytes_eq c.digest n.digest then Some (record { index = n.index; digest = n.digest; change = c.change }) else None in
      let as_relayed : Relayed → Option Heard = λ r.
      if bytes_eq r.digest n.digest && (r.is_verified || nat_le s.me.f (acks_for s (λ i. not (i == n.index) && not (i == primary s)) n.index n.digest))
      then Some (record { index = n.index; digest = n.digest; change = r.change })
      else None in
      elim (or_cases (option_and_then as_heard (get s.heard n.index)) (option_and_then as_relayed (get s.relayed n.index)) h e) [
        | inl x ↦ (
            let t = then_is as_heard (get s.heard n.index) h x in
            let new : Heard = record { index = n.index; digest = n.digest; change = t.0.change } in
            let g = guarded (t.0.change.view == s.view && bytes_eq t.0.digest n.digest) (Some new) h t.2 in
            subst (λ (y : Heard). IsViewChange y.change) (same new h g.1) (f.heard n.index t.0 t.1).2)
        | inr x ↦ (
            let t = then_is as_relayed (get s.relayed n.index) h x in
            let new : Heard = record { index = n.index; digest = n.digest; change = t.0.change } in
            let g = guarded (bytes_eq t.0.digest n.digest && (t.0.is_verified || nat_le s.me.f (acks_for s (λ i. not (i == n.index) && not (i == primary s)) n.index n.digest))) (Some new) h t.2 in
            subst (λ (y : Heard). IsViewChange y.change) (same new h g.1) (f.relayed n.index t.0 t.1).2)
      ]

  with_cases : (a : Option Heard) (b : Option (List Heard)) (hs : List Heard) → with_had a b ≡ Some hs → (h : Heard) × (rest : List Heard) × (a ≡ Some h) × (b ≡ Some rest) × (h ∷ rest ≡ hs)
  with_cases None b hs e = absurd (nothing hs e)
  with_cases (Some h) None hs e = absurd (nothing hs e)
  with_cases (Some h) (Some rest) hs e = (h, rest, refl, refl, same (h ∷ rest) hs e)

  all_in : (names : List Named) (hs : List Heard) → all_had s names ≡ Some hs → (h : Heard) → Contains hs h → IsViewChange h.change
  unfolding all_had
  all_in [] hs e h c = absurd (nowhere h (subst (λ (xs : List Heard). Contains xs h) (sym (same [] hs e)) c))
  all_in (n ∷ ns) hs e h c =
      let w = with_cases (had_of s n) (all_had s ns) hs e in
      elim (first_or_rest w.0 h w.1 (subst (λ (xs : List Heard). Contains xs h) (sym w.4) c)) [
        | inl x ↦ subst (λ (y : Heard). IsViewChange y.change) x (had_in n w.0 w.2)
        | inr x ↦ all_in ns w.1 w.3 h x
      ]

pub entered_book : (s : State) (c : Choice) (b : Book) → Whole (entered s c) → b.f ≡ s.book.f → b.low ≡ s.book.low → AreVotes b → AreOwn s.me.index s.chains b → Whole (with_book (entered s c) b)
unfolding entered
entered_book s c b f x y v own = book_fits _ f b x y v own

-- each digest that is accepted may be voted for
pub taken_fine : (s : State) (c : Choice) → last_of c ≤ 1000000 → All IsDigest c.chosen → (x : ℕ × List ℕ) → Contains (taken s c) x → (x.0 ≤ 1000000) × IsDigest x.1
taken_fine s c few long x k = let i = taken_in s c x k in let l = i.1 in (omega (arith, l, few), in_all IsDigest c.chosen x.1 long i.2)

-- what starts the view is in range, and its last place is a number
pub entered_told : (s : State) → Whole s → (v : NewView) → s.new_view ≡ Some v → IsNewView v
entered_told s f v h = (subst (λ (x : Option NewView). IfSome x (λ v. (v.view ≡ s.view) × IsContent (content.NewView v))) h f.new_view).1

pub entered_last : (s : State) → Whole s → (v : NewView) → next_enter s ≡ Some v → last_of v.choice ≤ 1000000
entered_last s f v h =
    let o = enter_is s v h in
    let hs = o.2.0 in
    let agreed = (agrees_is_tested s.me.f v hs).0 o.2.2 in
    last_few s.me.f hs v.choice agreed.choice (all_in s f v.named hs o.2.1) (entered_told s f v o.1).place

pub enter_fits : (s : State) (asked : Counters) (v : NewView) → Whole s → IsEnabled s asked (act.Enter v) → Whole (did s (act.Enter v)).state
enter_fits s asked v f h =
    let o = enter_is s v h in
    let told = entered_told s f v o.1 in
    let few = entered_last s f v h in
    let e = entered_fits s v.choice f o.0 (λ n. nothing v (sym n ∙ o.1)) few (λ d c. in_all IsDigest v.choice.chosen d told.chosen c) in
    let b = votes_leave s.me.index s.book (taken s v.choice) in
    let each = taken_fine s v.choice few told.chosen in
    subst Whole (sym (enter_state s v)) (entered_book s v.choice (book_with s.me.index s.book (taken s v.choice)) e b.0 b.1 (votes_keep s.me.index s.book (taken s v.choice) each f.votes) (votes_own s.me.index s.chains s.book (taken s v.choice) f.own_votes))
