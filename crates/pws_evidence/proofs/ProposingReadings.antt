-- Kept readings make a lawful event.
use Rattle.std.proofs.Common.{◌≡◌, ℕ, zero, suc, ◌+◌, ◌<◌, ◌≤◌, ◌^◌, true, slice_index, List, [], ◌∷◌, length, map, take, Option, Some, None, refl, sym, ◌∙◌, ap, subst, arith}
use Rattle.std.specs.List.{All, filter_map, cons_option, range_with_len}
use Rattle.std.specs.Option.{option_and_then}
use Rattle.std.specs.FinMap.{get}
use Rattle.std.proofs.lemmas.List.Elements.{All-cons, All-take}
use Rattle.pws_base.specs.Shapes.{size_of_group, quorum_of}
use Rattle.pws_event.specs.declared.readings.Reading.{Reading}
use Rattle.pws_event.specs.declared.readings.Share.{Share}
use Rattle.pws_event.specs.Readings.{RiseFrom, is_count, IsClock, IsRandom}
use Rattle.pws_msg.specs.declared.readings.ReadingValue.{ReadingValue}
use Rattle.pws_msg.specs.declared.readings.ReadingValue.TheVariants as value
use Rattle.pws_msg.specs.declared.contents.Content.{Content}
use Rattle.pws_msg.specs.declared.contents.Content.TheVariants as content
use Rattle.pws_msg.specs.Statements.{IsReadingValue}
use Rattle.pws_msg.specs.Contents.{IsContent}
use Rattle.pws_protocol.specs.declared.keys.Matter.{Matter}
use Rattle.pws_protocol.specs.declared.keys.Matter.TheVariants as matter
use Rattle.pws_protocol.specs.Keys.{replica, statement_key}
use Rattle.pws_protocol.specs.Evidence.{Evidence, matter_of}
use Rattle.pws_protocol.specs.Candidates.{value_in, kept_value, time_in, share_in, kept_times, kept_shares}
use Rattle.pws_evidence.specs.Stores.{IsStore}

no_value : (v : ReadingValue) → ◌≡◌ {A = Option ReadingValue} None (Some v) → ⊥
no_value v h = cc

value_of : (a b : ReadingValue) → ◌≡◌ {A = Option ReadingValue} (Some a) (Some b) → a ≡ b
value_of a b h = ap in_option h
  where
    in_option : Option ReadingValue → ReadingValue
    in_option None = a
    in_option (Some v) = v

read_of : (a b : ℕ) → ◌≡◌ {A = Option Matter} (Some (matter.Read a)) (Some (matter.Read b)) → a ≡ b
read_of a b h = ap in_option h
  where
    in_matter : Matter → ℕ
    in_matter (matter.Requested c n) = 0
    in_matter (matter.Replied c n) = 0
    in_matter (matter.Expired c n) = 0
    in_matter (matter.Read a) = a

    in_option : Option Matter → ℕ
    in_option None = 0
    in_option (Some m) = in_matter m

-- an ask, and what a replica gives for it, are in range
record IsKeptReading (ask : ℕ) (v : ReadingValue) : Type 0 where
  ask_from : 1 ≤ ask
  ask_to : ask ≤ 1000000
  lawful : IsReadingValue v

in_range : (group ask i : ℕ) (c : Content) (v : ReadingValue) → (matter_of group (replica group i) c ≡ Some (matter.Read ask)) × IsContent c → value_in c ≡ Some v → IsKeptReading ask v
in_range group ask i (content.Reading r) v m h =
    let e : r.ask ≡ ask = read_of r.ask ask m.0 in
    record {
      ask_from = subst (λ n. 1 ≤ n) e m.1.ask_from;
      ask_to = subst (λ n. n ≤ 1000000) e m.1.ask_to;
      lawful = subst (λ (x : ReadingValue). IsReadingValue x) (value_of r.value v h) m.1.value;
    }
in_range group ask i (content.Request r) v m h = absurd (no_value v h)
in_range group ask i (content.Reply r) v m h = absurd (no_value v h)
in_range group ask i (content.Part r) v m h = absurd (no_value v h)
in_range group ask i (content.Expired r) v m h = absurd (no_value v h)
in_range group ask i (content.PrePrepare r) v m h = absurd (no_value v h)
in_range group ask i (content.Prepare r) v m h = absurd (no_value v h)
in_range group ask i (content.Commit r) v m h = absurd (no_value v h)
in_range group ask i (content.Checkpoint r) v m h = absurd (no_value v h)
in_range group ask i (content.ViewChange r) v m h = absurd (no_value v h)
in_range group ask i (content.Ack r) v m h = absurd (no_value v h)
in_range group ask i (content.NewView r) v m h = absurd (no_value v h)
in_range group ask i (content.Relay r) v m h = absurd (no_value v h)
in_range group ask i (content.Fetch r) v m h = absurd (no_value v h)
in_range group ask i (content.Done r) v m h = absurd (no_value v h)
in_range group ask i (content.Need r) v m h = absurd (no_value v h)
in_range group ask i (content.Give r) v m h = absurd (no_value v h)

kept_in_range : (e : Evidence) (ask i : ℕ) (o : Option Content) (v : ReadingValue) → IsStore e → get e.statements (statement_key (replica e.group i) (matter.Read ask)) ≡ o → option_and_then value_in o ≡ Some v → IsKeptReading ask v
kept_in_range e ask i None v s h k = absurd (no_value v k)
kept_in_range e ask i (Some c) v s h k = in_range e.group ask i c v (s.fits.statements (statement_key (replica e.group i) (matter.Read ask)) c h) k

value_in_range : (e : Evidence) (ask i : ℕ) (v : ReadingValue) → IsStore e → kept_value e ask i ≡ Some v → IsKeptReading ask v
value_in_range e ask i v s h = kept_in_range e ask i (get e.statements (statement_key (replica e.group i) (matter.Read ask))) v s refl h

module _ {X : Type 0} (index : X → ℕ) (h : ℕ → Option X) where
  mutual_rise : (least a : ℕ) (o : Option X) (xs : List X) → least ≤ a → a ≤ 9 → ((x : X) → o ≡ Some x → index x ≡ a) → RiseFrom least (map index xs) → RiseFrom (a + 1) (map index xs) → RiseFrom least (map index (cons_option o xs))
  mutual_rise least a None xs l m at rest more = rest
  mutual_rise least a (Some x) xs l m at rest more =
      let e : index x ≡ a = at x refl in
      (omega (arith, l, e), omega (arith, m, e), subst (λ k. RiseFrom (k + 1) (map index xs)) (sym e) more)

  made_rise : ((i : ℕ) (x : X) → h i ≡ Some x → index x ≡ i) → (n least a : ℕ) → least ≤ a → a + n ≤ 10 → RiseFrom least (map index (filter_map h (range_with_len a n)))
  made_rise at zero least a l m = tt
  made_rise at (suc n) least a l m =
      mutual_rise least a (h a) (filter_map h (range_with_len (a + 1) n)) l (omega (arith, m)) (λ x e. at a x e)
      (made_rise at n least (a + 1) (omega (arith, l)) (omega (arith, m)))
      (made_rise at n (a + 1) (a + 1) (omega arith) (omega (arith, m)))

  take_rise : (k least : ℕ) (xs : List X) → RiseFrom least (map index xs) → RiseFrom least (map index (take k xs))
  take_rise zero least xs r = tt
  take_rise (suc k) least [] r = tt
  take_rise (suc k) least (x ∷ xs) r = (r.0, r.1, take_rise k (index x + 1) xs r.2)

  -- what is made of rising indices rises by its indices
  taken_rise : ((i : ℕ) (x : X) → h i ≡ Some x → index x ≡ i) → (k n : ℕ) → n ≤ 10 → RiseFrom 0 (map index (take k (filter_map h (range_with_len 0 n))))
  taken_rise at k n m = take_rise k 0 (filter_map h (range_with_len 0 n)) (made_rise at n 0 0 (omega arith) (omega (arith, m)))

module _ {X : Type 0} (h : ℕ → Option X) where
  some_by : (P : Type 0) (o : Option X) (xs : List X) → ((x : X) → o ≡ Some x → P) → (1 ≤ length xs → P) → 1 ≤ length (cons_option o xs) → P
  some_by P None xs f g l = g l
  some_by P (Some x) xs f g l = f x refl

  -- where one is made something stands at an index
  some_made : (P : Type 0) (n a : ℕ) → ((i : ℕ) (x : X) → h i ≡ Some x → P) → 1 ≤ length (filter_map h (range_with_len a n)) → P
  some_made P zero a f l = absurd (omega (arith, l))
  some_made P (suc n) a f l = some_by P (h a) (filter_map h (range_with_len (a + 1) n)) (f a) (some_made P n (a + 1) f) l

  take_some : (k : ℕ) (xs : List X) → 1 ≤ length (take k xs) → 1 ≤ length xs
  take_some zero xs l = absurd (omega (arith, l))
  take_some (suc k) [] l = l
  take_some (suc k) (x ∷ xs) l = omega arith

  some_taken : (P : Type 0) (k n : ℕ) → ((i : ℕ) (x : X) → h i ≡ Some x → P) → 1 ≤ length (take k (filter_map h (range_with_len 0 n))) → P
  some_taken P k n f l = some_made P n 0 f (take_some k (filter_map h (range_with_len 0 n)) l)

  all_by : (P : X → Type 0) (o : Option X) (xs : List X) → ((x : X) → o ≡ Some x → P x) → All P xs → All P (cons_option o xs)
  all_by P None xs f r = r
  all_by P (Some x) xs f r = All-cons P x xs (f x refl) r

  -- what holds of all that is made holds of the first of them
  all_made : (P : X → Type 0) → ((i : ℕ) (x : X) → h i ≡ Some x → P x) → (n a : ℕ) → All P (filter_map h (range_with_len a n))
  all_made P f zero a = λ k d l. absurd (omega (arith, l))
  all_made P f (suc n) a = all_by P (h a) (filter_map h (range_with_len (a + 1) n)) (f a) (all_made P f n (a + 1))

  all_taken : (P : X → Type 0) → ((i : ℕ) (x : X) → h i ≡ Some x → P x) → (k n : ℕ) → All P (take k (filter_map h (range_with_len 0 n)))
  all_taken P f k n = All-take P k (filter_map h (range_with_len 0 n)) (all_made P f n 0)

count_at : (f : ℕ) → f ≤ 3 → is_count (quorum_of f) ≡ true
count_at zero l = refl
count_at (suc zero) l = refl
count_at (suc (suc zero)) l = refl
count_at (suc (suc (suc zero))) l = refl
count_at (suc (suc (suc (suc f)))) l = absurd (omega (arith, l))

-- a quorum is a count of readings
quorum_counts : (f n : ℕ) → n ≡ quorum_of f → n ≤ 7 → is_count n ≡ true
quorum_counts f n h l = let m : f ≤ 3 = omega (arith, h, l) in ap is_count h ∙ count_at f m

no_time : (x : Reading) → ◌≡◌ {A = Option Reading} None (Some x) → ⊥
no_time x h = cc

time_of : (a b : Reading) → ◌≡◌ {A = Option Reading} (Some a) (Some b) → a ≡ b
time_of a b h = ap in_option h
  where
    in_option : Option Reading → Reading
    in_option None = a
    in_option (Some x) = x

time_index : (i : ℕ) (o : Option ReadingValue) (x : Reading) → option_and_then (time_in i) o ≡ Some x → x.index ≡ i
time_index i None x h = absurd (no_time x h)
time_index i (Some (value.Share y)) x h = absurd (no_time x h)
time_index i (Some (value.Time y)) x h = sym (ap (λ (r : Reading). r.index) (time_of (record { index = i; ms = y }) x h))

time_range : (e : Evidence) (ask i : ℕ) (o : Option ReadingValue) (x : Reading) → IsStore e → kept_value e ask i ≡ o → option_and_then (time_in i) o ≡ Some x → IsKeptReading ask (value.Time x.ms)
time_range e ask i None x s k h = absurd (no_time x h)
time_range e ask i (Some (value.Share y)) x s k h = absurd (no_time x h)
time_range e ask i (Some (value.Time y)) x s k h =
    subst (λ z. IsKeptReading ask (value.Time z)) (ap (λ (r : Reading). r.ms) (time_of (record { index = i; ms = y }) x h)) (value_in_range e ask i (value.Time y) s k)

-- the first quorum of times for an ask is lawful
pub times_lawful : (e : Evidence) (ask q : ℕ) (xs : List Reading) → IsStore e → q ≡ quorum_of (slice_index e.layout e.group) → q ≤ 7 → xs ≡ take q (kept_times e ask) → length xs ≡ q → IsClock (record { ask = ask; readings = xs })
times_lawful e ask q xs s h l t k =
    let f = slice_index e.layout e.group in
    let few : size_of_group f ≤ 10 = omega (arith, h, l) in
    let some : 1 ≤ length (take q (kept_times e ask)) = subst (λ (ys : List Reading). 1 ≤ length ys) t (omega (arith, h, k)) in
    let made : ℕ → Option Reading = λ i. option_and_then (time_in i) (kept_value e ask i) in
    record {
      ask_from = some_taken made (1 ≤ ask) q (size_of_group f) (λ i x g. (time_range e ask i (kept_value e ask i) x s refl g).ask_from) some;
      ask_to = some_taken made (ask ≤ 1000000) q (size_of_group f) (λ i x g. (time_range e ask i (kept_value e ask i) x s refl g).ask_to) some;
      count = ap is_count k ∙ quorum_counts f q h l;
      indices = subst (λ (ys : List Reading). RiseFrom 0 (map (λ (x : Reading). x.index) ys)) (sym t) (taken_rise (λ (x : Reading). x.index) made (λ i x g. time_index i (kept_value e ask i) x g) q (size_of_group f) few);
      times = subst (λ (ys : List Reading). All (λ (x : Reading). x.ms < 2 ^ 64) ys) (sym t) (all_taken made (λ (x : Reading). x.ms < 2 ^ 64) (λ i x g. (time_range e ask i (kept_value e ask i) x s refl g).lawful) q (size_of_group f));
    }

no_share : (x : Share) → ◌≡◌ {A = Option Share} None (Some x) → ⊥
no_share x h = cc

share_of : (a b : Share) → ◌≡◌ {A = Option Share} (Some a) (Some b) → a ≡ b
share_of a b h = ap in_option h
  where
    in_option : Option Share → Share
    in_option None = a
    in_option (Some x) = x

share_index : (i : ℕ) (o : Option ReadingValue) (x : Share) → option_and_then (share_in i) o ≡ Some x → x.index ≡ i
share_index i None x h = absurd (no_share x h)
share_index i (Some (value.Time y)) x h = absurd (no_share x h)
share_index i (Some (value.Share y)) x h = sym (ap (λ (r : Share). r.index) (share_of (record { index = i; bytes = y }) x h))

share_range : (e : Evidence) (ask i : ℕ) (o : Option ReadingValue) (x : Share) → IsStore e → kept_value e ask i ≡ o → option_and_then (share_in i) o ≡ Some x → IsKeptReading ask (value.Share x.bytes)
share_range e ask i None x s k h = absurd (no_share x h)
share_range e ask i (Some (value.Time y)) x s k h = absurd (no_share x h)
share_range e ask i (Some (value.Share y)) x s k h =
    subst (λ z. IsKeptReading ask (value.Share z)) (ap (λ (r : Share). r.bytes) (share_of (record { index = i; bytes = y }) x h)) (value_in_range e ask i (value.Share y) s k)

-- the first quorum of shares for an ask is lawful
pub shares_lawful : (e : Evidence) (ask q : ℕ) (xs : List Share) → IsStore e → q ≡ quorum_of (slice_index e.layout e.group) → q ≤ 7 → xs ≡ take q (kept_shares e ask) → length xs ≡ q → IsRandom (record { ask = ask; shares = xs })
shares_lawful e ask q xs s h l t k =
    let f = slice_index e.layout e.group in
    let few : size_of_group f ≤ 10 = omega (arith, h, l) in
    let some : 1 ≤ length (take q (kept_shares e ask)) = subst (λ (ys : List Share). 1 ≤ length ys) t (omega (arith, h, k)) in
    let made : ℕ → Option Share = λ i. option_and_then (share_in i) (kept_value e ask i) in
    record {
      ask_from = some_taken made (1 ≤ ask) q (size_of_group f) (λ i x g. (share_range e ask i (kept_value e ask i) x s refl g).ask_from) some;
      ask_to = some_taken made (ask ≤ 1000000) q (size_of_group f) (λ i x g. (share_range e ask i (kept_value e ask i) x s refl g).ask_to) some;
      count = ap is_count k ∙ quorum_counts f q h l;
      indices = subst (λ (ys : List Share). RiseFrom 0 (map (λ (x : Share). x.index) ys)) (sym t) (taken_rise (λ (x : Share). x.index) made (λ i x g. share_index i (kept_value e ask i) x g) q (size_of_group f) few);
      sizes = subst (λ (ys : List Share). All (λ (x : Share). length x.bytes ≡ 32) ys) (sym t) (all_taken made (λ (x : Share). length x.bytes ≡ 32) (λ i x g. (share_range e ask i (kept_value e ask i) x s refl g).lawful) q (size_of_group f));
    }
