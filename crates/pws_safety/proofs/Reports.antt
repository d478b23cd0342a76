-- What three view changes that were heard choose, and what a replica is that moves with them.
use Rattle.std.proofs.Common.{ℕ, ◌<◌, ◌≤◌, ◌≡◌, inl, inr, true, false, ◌&&◌, refl, sym, ap, ◌∙◌, subst, List, [], ◌∷◌, ◌==◌, Option, Some, None, arith}
use Rattle.std.specs.Prelude.{IsTrue, nat_lt}
use Rattle.std.specs.List.{Contains}
use Rattle.std.specs.Str.{bytes_eq}
use Rattle.std.proofs.lemmas.Bool.{and_parts, eqb-true, cases_eq, lt-ltb, le-leb}
use Rattle.std.proofs.lemmas.Slice.Eq.{bytes_eq-Decides}
use Rattle.pws_msg.specs.declared.changes.Checkpoint.{Checkpoint}
use Rattle.pws_msg.specs.declared.changes.PRow.{PRow}
use Rattle.pws_msg.specs.declared.changes.QRow.{QRow}
use Rattle.pws_msg.specs.declared.changes.Seen.{Seen}
use Rattle.pws_msg.specs.declared.changes.Choice.{Choice}
use Rattle.pws_msg.specs.declared.changes.NewView.{NewView}
use Rattle.pws_change.specs.declared.heard.Heard.{Heard}
use Rattle.pws_change.specs.Changes.{has_checkpoint, has_entry}
use Rattle.pws_change.specs.Choices.{MayStart, IsStart, MeetsA, IsBestEntry, GivesChoice, IsChosenAt, chosen_at}
use Rattle.pws_change.specs.Rising.{is_digest_at_most}
use Rattle.pws_change.specs.Valid.{IsValid, are_p_rows_valid, are_q_rows_valid}
use Rattle.pws_safety.specs.Statement.{Prepare}
use Rattle.pws_safety.specs.Statements.{Group, Sent, Gives}
use Rattle.pws_safety.specs.Voters.{Slot, Core, accepted, with_slot, IsPreparedBy, IsSeenBy, IsNoted, AcceptsChosen, PreparesChosen, IsHeard, IsHad}
use Rattle.pws_safety.specs.Witnesses.{example_digest, first_checkpoint, prepared_row, seen_digest, pre_prepared_row, example_report}
use Rattle.pws_base.proofs.Members.{nowhere, here, first_or_rest, any_has, count_some}
use Rattle.pws_safety.proofs.Slots.{some_same, none_some, slot_here, slot_other}

pub only_item : {X : Type 0} (a x : X) → Contains (a ∷ []) x → a ≡ x
only_item a x h = elim (first_or_rest a x [] h) [ inl e ↦ e | inr k ↦ absurd (nowhere x k) ]

-- what holds of three holds of each
pub each_three : (P : Heard → Type 0) (a b c : Heard) → P a → P b → P c → (h : Heard) → Contains (a ∷ b ∷ c ∷ []) h → P h
each_three P a b c x y z h k =
    elim (first_or_rest a h (b ∷ c ∷ []) k) [
      | inl e ↦ subst P e x
      | inr j ↦ elim (first_or_rest b h (c ∷ []) j) [ inl e ↦ subst P e y | inr i ↦ subst P (only_item c h i) z ]
    ]

-- a view change has no checkpoint above this one, and no other at its place
abbrev pub HasNoHigher : Checkpoint → Heard → Type 0
HasNoHigher c h = (p : ℕ) (d : List ℕ) → has_checkpoint p d h ≡ true → (p ≤ c.place) × (p ≡ c.place → c.digest ≡ d)

-- so it is where it has one alone
pub one_checkpoint : (c e : Checkpoint) (h : Heard) → h.change.checkpoints ≡ e ∷ [] → e.place ≤ c.place → (e.place ≡ c.place → c.digest ≡ e.digest) → HasNoHigher c h
one_checkpoint c e h only low same p d t =
    let x = any_has (λ (c : Checkpoint). (c.place == p) && bytes_eq c.digest d) h.change.checkpoints t in
    let k = only_item e x.0 (subst (λ cs. Contains cs x.0) only x.1) in
    let f = and_parts (x.0.place == p) (bytes_eq x.0.digest d) x.2 in
    let at : e.place ≡ p = ap (λ (c : Checkpoint). c.place) k ∙ eqb-true _ _ f.0 in
    let is : e.digest ≡ d = ap (λ (c : Checkpoint). c.digest) k ∙ (bytes_eq-Decides x.0.digest d).0 f.1 in
    (omega (arith, at, low), λ q. same (at ∙ q) ∙ is)

-- three that have no higher checkpoint than one from which they may start, start there
pub starts_at : (c : Checkpoint) (a b x : Heard) → HasNoHigher c a → HasNoHigher c b → HasNoHigher c x → IsTrue (is_digest_at_most c.digest c.digest) → MayStart 1 (a ∷ b ∷ x ∷ []) c.place c.digest
    → IsStart 1 (a ∷ b ∷ x ∷ []) c.place c.digest
starts_at c a b x i j k low may = record {
  may = may;
  highest = λ p d m. (at p d m).0;
  least = λ d m. subst (λ y. IsTrue (is_digest_at_most c.digest y)) ((at c.place d m).1 refl) low;
}
  where
    at : (p : ℕ) (d : List ℕ) → MayStart 1 (a ∷ b ∷ x ∷ []) p d → (p ≤ c.place) × (p ≡ c.place → c.digest ≡ d)
    at p d m =
        let r = count_some (has_checkpoint p d) (a ∷ b ∷ x ∷ []) (omega (arith, m.held)) in
        each_three (λ h. has_checkpoint p d h ≡ true → (p ≤ c.place) × (p ≡ c.place → c.digest ≡ d)) a b x (i p d) (j p d) (k p d) r.0 r.1 r.2

-- three that begin with the first checkpoint alone, and no low mark, start there
pub starts : (a b c : Heard) → a.change.checkpoints ≡ first_checkpoint ∷ [] → b.change.checkpoints ≡ first_checkpoint ∷ [] → c.change.checkpoints ≡ first_checkpoint ∷ [] → MayStart 1 (a ∷ b ∷ c ∷ []) 0 first_checkpoint.digest
    → IsStart 1 (a ∷ b ∷ c ∷ []) 0 first_checkpoint.digest
starts a b c x y z may = starts_at first_checkpoint a b c (one a x) (one b y) (one c z) refl may
  where
    one : (h : Heard) → h.change.checkpoints ≡ first_checkpoint ∷ [] → HasNoHigher first_checkpoint h
    one h only = one_checkpoint first_checkpoint first_checkpoint h only (omega arith) (λ _. refl)

-- a view change has no row of a view later than this, and of this view none of another digest
abbrev pub HasNoLater : List ℕ → ℕ → Heard → Type 0
HasNoLater digest view h = (r : PRow) → Contains h.change.prepared r → (r.view ≤ view) × (r.view ≡ view → digest ≡ r.digest)

-- so it is where it has one row alone
pub one_row : (d : List ℕ) (v : ℕ) (e : PRow) (h : Heard) → h.change.prepared ≡ e ∷ [] → e.view ≤ v → (e.view ≡ v → d ≡ e.digest) → HasNoLater d v h
one_row d v e h only low same r k =
    let i = only_item e r (subst (λ rs. Contains rs r) only k) in
    subst (λ (y : PRow). (y.view ≤ v) × (y.view ≡ v → d ≡ y.digest)) i (low, same)

-- of three that have no later rows, an entry that meets A is the best one
pub is_best : (p : ℕ) (d : List ℕ) (v : ℕ) (a b c : Heard) → HasNoLater d v a → HasNoLater d v b → HasNoLater d v c → IsTrue (is_digest_at_most d d) → MeetsA 1 (a ∷ b ∷ c ∷ []) p d v → IsBestEntry 1 (a ∷ b ∷ c ∷ []) p d v
is_best p d v a b c i j k low meets = record {
  meets = meets;
  highest = λ e u m. (entry e u m).0;
  least = λ e m. subst (λ y. IsTrue (is_digest_at_most d y)) ((entry e v m).1 refl) low;
}
  where
    tells : (e : List ℕ) (u : ℕ) (h : Heard) → HasNoLater d v h → has_entry p e u h ≡ true → (u ≤ v) × (u ≡ v → d ≡ e)
    tells e u h rows t =
        let x = any_has (λ (r : PRow). (r.place == p) && ((r.view == u) && bytes_eq r.digest e)) h.change.prepared t in
        let f = and_parts (x.0.place == p) ((x.0.view == u) && bytes_eq x.0.digest e) x.2 in
        let g = and_parts (x.0.view == u) (bytes_eq x.0.digest e) f.1 in
        let at = eqb-true _ _ g.0 in
        let r = rows x.0 x.1 in
        (omega (arith, at, r.0), λ q. r.1 (at ∙ q) ∙ (bytes_eq-Decides x.0.digest e).0 g.1)

    entry : (e : List ℕ) (u : ℕ) → MeetsA 1 (a ∷ b ∷ c ∷ []) p e u → (u ≤ v) × (u ≡ v → d ≡ e)
    entry e u m =
        let r = count_some (has_entry p e u) (a ∷ b ∷ c ∷ []) m.named in
        each_three (λ h. has_entry p e u h ≡ true → (u ≤ v) × (u ≡ v → d ≡ e)) a b c (tells e u a i) (tells e u b j) (tells e u c k) r.0 r.1 r.2

-- the slots that a replica has which prepared the digest at place 1
pub only_slot : (t : ℕ → Option Slot) (p : ℕ) (a : Slot) → ((q : ℕ) (x : Slot) → t q ≡ Some x → q ≡ p) → (q : ℕ) (x : Slot) → with_slot t p a q ≡ Some x → q ≡ p
only_slot t p a old q x h = elim (cases_eq q p) [ inl e ↦ e | inr n ↦ old q x (sym (slot_other t p q a n) ∙ h) ]

one_slot_is : (p : ℕ) (a : Slot) (q : ℕ) (x : Slot) → with_slot (λ place. None) p a q ≡ Some x → q ≡ p
one_slot_is p a q x h = only_slot (λ place. None) p a (λ q x e. absurd (none_some x e)) q x h

abbrev pub prepared_one : Slot
prepared_one = record { digest = example_digest; prepared = true; committed = false }

pub prepared_slot_is : (q : ℕ) (x : Slot) → with_slot (with_slot (λ place. None) 1 (accepted example_digest)) 1 prepared_one q ≡ Some x → q ≡ 1
prepared_slot_is q x h = only_slot (with_slot (λ place. None) 1 (accepted example_digest)) 1 prepared_one (one_slot_is 1 (accepted example_digest)) q x h

-- the rows of a place at which the digest was prepared in view 0
abbrev pub prepared_at : ℕ → PRow
prepared_at place = record { place = place; digest = example_digest; view = 0 }

abbrev pub pre_prepared_at : ℕ → QRow
pre_prepared_at place = record { place = place; digests = seen_digest ∷ [] }

-- as it leaves view 0 a slot that it prepared is noted, if it has no other
pub noted_at : (p : ℕ) (s : Core) → s.view ≡ 0 → s.slot p ≡ Some prepared_one → ((q : ℕ) (x : Slot) → s.slot q ≡ Some x → q ≡ p) → s.prepared ≡ [] → IsNoted s (prepared_at p ∷ []) (pre_prepared_at p ∷ [])
noted_at p s view at only none = record {
  from = λ r h. inr (let e = only_item (prepared_at p) r h in subst (IsPreparedBy s) e (prepared_one, at, refl, refl, sym view));
  slots = λ q x e k. (prepared_at p, here (prepared_at p) [], sym (only q x e), sym view);
  no_earlier = λ r h. absurd (nowhere r (subst (λ xs. Contains xs r) none h));
  seen = λ q h e k. (let a = only_item (pre_prepared_at p) q h in
      let b = only_item seen_digest e (subst (λ (y : QRow). Contains y.digests e) (sym a) k) in
      let noted_there : IsSeenBy s q.place e = inr (prepared_one, subst (λ (y : QRow). s.slot y.place ≡ Some prepared_one) a at, sym (ap (λ (y : Seen). y.digest) b), sym (ap (λ (y : Seen). y.view) b) ∙ sym view) in
      noted_there);
}

pub noted : (s : Core) → s.view ≡ 0 → s.slot 1 ≡ Some prepared_one → ((q : ℕ) (x : Slot) → s.slot q ≡ Some x → q ≡ 1) → s.prepared ≡ [] → IsNoted s (prepared_row ∷ []) (pre_prepared_row ∷ [])
noted s view at only none = noted_at 1 s view at only none

-- three reports of that slot have the choice that keeps it
module _ (view : ℕ) (name : List ℕ) where
  abbrev pub reported : ℕ → Heard
  reported i = record { index = i; digest = name; change = example_report view }

  row_best : (i : ℕ) → HasNoLater example_digest 0 (reported i)
  row_best i = one_row example_digest 0 prepared_row (reported i) refl (omega arith) (λ _. refl)

  abbrev pub kept_choice : Choice
  kept_choice = record { place = 0; digest = first_checkpoint.digest; chosen = example_digest ∷ [] }

  pub keeps : (i j k : ℕ) → GivesChoice 1 (reported i ∷ reported j ∷ reported k ∷ []) kept_choice
  keeps i j k = record {
    start = starts (reported i) (reported j) (reported k) refl refl refl (record { reached = omega arith; held = omega arith });
    last = refl;
    chosen = λ p a b. let e : 1 ≡ p = omega arith in subst (λ q. IsChosenAt 1 (reported i ∷ reported j ∷ reported k ∷ []) q (chosen_at kept_choice q)) e one;
  }
    where
      one : IsChosenAt 1 (reported i ∷ reported j ∷ reported k ∷ []) 1 example_digest
      one = inl (0, is_best 1 example_digest 0 (reported i) (reported j) (reported k) (row_best i) (row_best j) (row_best k) refl (record { named = omega arith; allowed = omega arith; witnessed = omega arith }))

  pub report_valid : 1 ≤ view → IsValid (example_report view)
  report_valid l = record { view = le-leb 1 view l; low = refl; checkpoints = refl; prepared = rows (lt-ltb 0 view l); pre_prepared = pairs (lt-ltb 0 view l) }
    where
      rows : nat_lt 0 view ≡ true → are_p_rows_valid 0 view (prepared_row ∷ []) ≡ true
      rows e = subst (λ b. (b && true) && true ≡ true) (sym e) refl

      pairs : nat_lt 0 view ≡ true → are_q_rows_valid 0 view (pre_prepared_row ∷ []) ≡ true
      pairs e = subst (λ b. (((b && true) && true) && true) && true ≡ true) (sym e) refl

-- a digest that is chosen at one place is accepted there, and said
abbrev pub chosen_slot : ℕ → List ℕ → ℕ → Option Slot
chosen_slot p d = with_slot (λ place. None) p (accepted d)

module _ (p : ℕ) (s : Core) (new : NewView) (d : List ℕ) (gives : Gives new.choice p d) where
  slot_is : (q : ℕ) (x : Slot) → chosen_slot p d q ≡ Some x → (q ≡ p) × (x ≡ accepted d)
  slot_is q x h =
      let e = one_slot_is p (accepted d) q x h in
      (e, some_same x (accepted d) (sym h ∙ slot_here (λ place. None) p q (accepted d) e))

  pub accepts_at : s.low < p → AcceptsChosen s new (chosen_slot p d) p
  accepts_at low = record {
    each = λ q x h. (let e = (slot_is q x h).0 in
        let a = (slot_is q x h).1 in
        (omega (arith, e, low), omega (arith, e), subst (λ y. Gives new.choice y x.digest) (sym e) (subst (λ (y : Slot). Gives new.choice p y.digest) (sym a) gives), subst (λ (y : Slot). y ≡ accepted y.digest) (sym a) refl));
    highest = inr (accepted d, slot_here (λ place. None) p p (accepted d) refl);
  }

  pub prepares_at : (v : ℕ) → s.view ≡ v → PreparesChosen s (chosen_slot p d) (Prepare v p d ∷ [])
  prepares_at v view = record {
    each = λ q x h. (let e = slot_is q x h in
        subst (λ u. Contains (Prepare v p d ∷ []) (Prepare u q x.digest)) (sym view) (subst (λ y. Contains (Prepare v p d ∷ []) (Prepare v y x.digest)) (sym e.0) (subst (λ (y : Slot). Contains (Prepare v p d ∷ []) (Prepare v p y.digest)) (sym e.1) (here (Prepare v p d) []))));
    only = λ x h. (p, accepted d, slot_here (λ place. None) p p (accepted d) refl, sym (only_item (Prepare v p d) x h) ∙ ap (λ u. Prepare u p d) (sym view));
  }

-- so it is at place 1
abbrev pub one_slot : List ℕ → ℕ → Option Slot
one_slot d = chosen_slot 1 d

pub accepts_one : (s : Core) (new : NewView) (d : List ℕ) → Gives new.choice 1 d → s.low ≡ 0 → AcceptsChosen s new (one_slot d) 1
accepts_one s new d gives low = accepts_at 1 s new d gives (omega (arith, low))

pub prepares_one : (s : Core) (new : NewView) (d : List ℕ) → Gives new.choice 1 d → (v : ℕ) → s.view ≡ v → PreparesChosen s (one_slot d) (Prepare v 1 d ∷ [])
prepares_one s new d gives v view = prepares_at 1 s new d gives v view

-- nothing is accepted
abbrev pub no_slots : ℕ → Option Slot
no_slots place = None

pub accepts_none : (s : Core) (new : NewView) → AcceptsChosen s new no_slots 0
accepts_none s new = record { each = λ q x h. absurd (none_some x h); highest = inl refl }

pub prepares_none : (s : Core) → PreparesChosen s no_slots []
prepares_none s = record { each = λ q x h. absurd (none_some x h); only = λ x h. absurd (nowhere x h) }

-- a view change that is heard from its sender is had
pub heard_is_had : (g : Group) (sent : Sent) (view : ℕ) (h : Heard) → (g.digest_of h.change ≡ h.digest) × IsHeard g sent view h.index h.change → IsHad g sent view h
heard_is_had g sent view h r = record { replica = r.1.replica; digest = r.0; in_view = r.1.in_view; valid = r.1.valid; occurs = r.1.occurs; source = inl r.1.told }
