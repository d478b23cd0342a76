-- Settled evidence stays within its bound.
use Rattle.std.proofs.Common.{◌≡◌, ℕ, ◌+◌, ◌*◌, ◌<◌, ◌≤◌, ◌&&◌, ◌==◌, not, nat_lt, nat_le, Bool, true, false, cond, if◌then◌else◌, List, [], ◌∷◌, ◌++◌, length, Option, Some, None, refl, sym, ◌∙◌, ap, subst, arith}
use Rattle.std.specs.Prelude.{slice_get, slice_index}
use Rattle.std.specs.Option.{option_map_or, unwrap_or}
use Rattle.std.proofs.lemmas.Option.{unwrap_or-slice_get, slice_get_within}
use Rattle.std.specs.FinMap.{get}
use Rattle.std.proofs.lemmas.Bool.{and_parts, false≢true, leb-true, ltb-true, eq-eqb}
use Rattle.pws_base.specs.declared.shapes.ReplicaId.{ReplicaId}
use Rattle.pws_base.specs.Replicas.{is_other}
use Rattle.pws_base.specs.Shapes.{size_of_group, has_replica}
use Rattle.pws_event.specs.Counters.{Counters, counter_of, least_waiting}
use Rattle.pws_msg.specs.declared.readings.ReadingValue.{ReadingValue}
use Rattle.pws_msg.specs.declared.readings.ReadingValue.TheVariants as value
use Rattle.pws_msg.specs.declared.contents.Content.{Content}
use Rattle.pws_msg.specs.declared.contents.Content.TheVariants as content
use Rattle.pws_msg.specs.Contents.{IsContent}
use Rattle.pws_msg.specs.Statements.{ReplyNoteFields, IsReadingValue}
use Rattle.pws_msg.specs.StatementTexts.{reading_value_text}
use Rattle.pws_msg.proofs.Sizes.{request_size, reply_size, call_size, reading_size, time_size, share_size}
use Rattle.pws_protocol.specs.declared.keys.Matter.{Matter}
use Rattle.pws_protocol.specs.declared.keys.Matter.TheVariants.{Requested, Replied, Expired, Read}
use Rattle.pws_protocol.specs.declared.keys.StatementKey.{StatementKey}
use Rattle.pws_protocol.specs.declared.keys.BodyKey.{BodyKey}
use Rattle.pws_protocol.specs.Keys.{replica, statement_key, body_key, statement_cmp, body_cmp}
use Rattle.pws_protocol.specs.Evidence.{Evidence, matter_of, is_open, is_inside}
use Rattle.pws_protocol.specs.Held.{over, content_size, evidence_held}
use Rattle.pws_protocol.proofs.Keyed.{keys_are_ordered}
use Rattle.pws_evidence.specs.Bounds.{IsPlaced, IsSettled, EvidenceIsBounded}
use Rattle.pws_evidence.proofs.Counting.{Has, one_has, left_has, right_has, each, each_has, total, one_total, none_total, append_total, each_total, each_but, bounded}

-- how long a statement about a matter is at most
abbrev most : Matter → ℕ
most (Requested g n) = 32781
most (Replied g n) = 38
most (Expired g n) = 6
most (Read a) = 38

-- requests and replies are about the sender's own group
abbrev IsSenders : Matter → ReplicaId → Type 0
IsSenders (Requested g n) s = g ≡ s.group
IsSenders (Replied g n) s = g ≡ s.group
IsSenders (Expired g n) s = Unit {0}
IsSenders (Read a) s = Unit {0}

some_of : (a m : Matter) → ◌≡◌ {A = Option Matter} (Some a) (Some m) → a ≡ m
some_of a m h = cc

none_of : {X : Type 0} (m : Matter) → ◌≡◌ {A = Option Matter} None (Some m) → X
none_of {X} m h = absurd (let f : ◌≡◌ {A = Option Matter} None (Some m) = h in cc)

value_small : (v : ReadingValue) → IsReadingValue v → length (reading_value_text v) ≤ 33
value_small (value.Time ms) h = omega (arith, time_size ms)
value_small (value.Share s) h = omega (arith, share_size s h)

reply_matter : (b : Bool) (g n : ℕ) (m : Matter) → (if b then Some (Replied g n) else None) ≡ Some m → Replied g n ≡ m
reply_matter true g n m h = some_of (Replied g n) m h
reply_matter false g n m h = none_of m h

size_is : (group : ℕ) (s : ReplicaId) (c : Content) (m : Matter) → matter_of group s c ≡ Some m → IsContent c → (content_size c ≤ most m) × IsSenders m s
size_is group s (content.Request r) m h i =
    subst (λ (n : Matter). (content_size (content.Request r) ≤ most n) × IsSenders n s) (some_of (Requested s.group r.number) m h) (omega (arith, request_size r, i.body), refl)
size_is group s (content.Reply r) m h i =
    subst (λ (n : Matter). (content_size (content.Reply r) ≤ most n) × IsSenders n s) (reply_matter (r.caller == group) s.group r.number m h) (omega (arith, reply_size r i), refl)
size_is group s (content.Expired n) m h i =
    subst (λ (k : Matter). (content_size (content.Expired n) ≤ most k) × IsSenders k s) (some_of (Expired n.called n.number) m h) (omega (arith, call_size n), tt)
size_is group s (content.Reading r) m h i =
    subst (λ (n : Matter). (content_size (content.Reading r) ≤ most n) × IsSenders n s) (some_of (Read r.ask) m h) (omega (arith, reading_size r, value_small r.value i.value), tt)
size_is group s (content.Part r) m h i = none_of m h
size_is group s (content.PrePrepare r) m h i = none_of m h
size_is group s (content.Prepare r) m h i = none_of m h
size_is group s (content.Commit r) m h i = none_of m h
size_is group s (content.Checkpoint r) m h i = none_of m h
size_is group s (content.ViewChange r) m h i = none_of m h
size_is group s (content.Ack r) m h i = none_of m h
size_is group s (content.NewView r) m h i = none_of m h
size_is group s (content.Relay r) m h i = none_of m h
size_is group s (content.Fetch r) m h i = none_of m h
size_is group s (content.Done r) m h i = none_of m h
size_is group s (content.Need r) m h i = none_of m h
size_is group s (content.Give r) m h i = none_of m h

open_is : (least n : ℕ) → is_open least n ≡ true → (least ≤ n) × (n < least + 16)
open_is least n h = let t = and_parts (nat_le least n) (nat_lt n (least + 16)) h in (leb-true least n t.0, ltb-true n (least + 16) t.1)

-- a replica of the layout
replica_in : (group : ℕ) (layout : List ℕ) (r : ReplicaId) (o : Option ℕ) → IsPlaced group layout → slice_get layout r.group ≡ o → option_map_or (λ f. nat_lt r.index (size_of_group f)) o false ≡ true → r.index < 10
replica_in group layout r None p e h = absurd (false≢true h)
replica_in group layout r (Some f) p e h =
    let same : slice_index layout r.group ≡ f = sym (ap (λ (o : Option ℕ). unwrap_or o 0) (sym e) ∙ unwrap_or-slice_get layout r.group 0) in
    let small = p.shapes r.group in
    let below : r.index < size_of_group f = ltb-true r.index (size_of_group f) h in
    omega (arith, same, small, below)

module _ (e : Evidence) (asked : Counters) (s : IsSettled e asked) where
  -- what a replica may be heard to say
  abbrev said_by : ℕ → ℕ → List StatementKey
  said_by g i =
      each (λ n. statement_key (replica g i) (Requested g n) ∷ []) (counter_of asked.last g 0 + 1) 16
      ++ (each (λ n. statement_key (replica g i) (Replied g n) ∷ []) (least_waiting asked g) 16
      ++ (each (λ c. each (λ n. statement_key (replica g i) (Expired c n) ∷ []) (least_waiting asked c) 16) 0 16
      ++ each (λ n. statement_key (replica g i) (Read n) ∷ []) (asked.answered + 1) 16))

  abbrev said : List StatementKey
  said = each (λ g. each (said_by g) 0 10) 0 16

  group_small : (g : ℕ) → is_other e.group e.layout g ≡ true → g < 16
  group_small g h =
      let below : g < length e.layout = ltb-true g (length e.layout) (and_parts (nat_lt g (length e.layout)) (not (g == e.group)) h).0 in
      let few = s.placed.few in
      omega (arith, below, few)

  group_by : (r : ReplicaId) (o : Option ℕ) → slice_get e.layout r.group ≡ o → option_map_or (λ f. nat_lt r.index (size_of_group f)) o false ≡ true → r.group < 16
  group_by r None g h = absurd (false≢true h)
  group_by r (Some f) g h = let below : r.group < length e.layout = slice_get_within e.layout r.group f g in let few = s.placed.few in omega (arith, below, few)

  group_of : (r : ReplicaId) → has_replica e.layout r ≡ true → r.group < 16
  group_of r h = group_by r (slice_get e.layout r.group) refl h

  has_matter : (r : ReplicaId) (m : Matter) → IsSenders m r → is_inside e asked m ≡ true → Has (said_by r.group r.index) (statement_key r m)
  unfolding is_inside
  has_matter r (Requested g n) own h =
      let t = open_is (counter_of asked.last g 0 + 1) n h in
      let f : ℕ → List StatementKey = λ n. statement_key (replica r.group r.index) (Requested r.group n) ∷ [] in
      let from : counter_of asked.last r.group 0 + 1 ≤ n = subst (λ k. counter_of asked.last k 0 + 1 ≤ n) own t.0 in
      let to : n < (counter_of asked.last r.group 0 + 1) + 16 = subst (λ k. n < (counter_of asked.last k 0 + 1) + 16) own t.1 in
      left_has (each f (counter_of asked.last r.group 0 + 1) 16) _ (statement_key r (Requested g n))
      (each_has f (counter_of asked.last r.group 0 + 1) 16 n (statement_key r (Requested g n)) from to
      (one_has (statement_key r (Requested r.group n)) (statement_key r (Requested g n)) (ap (λ k. statement_key r (Requested k n)) (sym own))))
  has_matter r (Replied g n) own h =
      let u = and_parts (is_other e.group e.layout g) (is_open (least_waiting asked g) n) h in
      let t = open_is (least_waiting asked g) n u.1 in
      let f : ℕ → List StatementKey = λ n. statement_key (replica r.group r.index) (Replied r.group n) ∷ [] in
      let from : least_waiting asked r.group ≤ n = subst (λ k. least_waiting asked k ≤ n) own t.0 in
      let to : n < least_waiting asked r.group + 16 = subst (λ k. n < least_waiting asked k + 16) own t.1 in
      right_has (each (λ n. statement_key (replica r.group r.index) (Requested r.group n) ∷ []) (counter_of asked.last r.group 0 + 1) 16) _ (statement_key r (Replied g n))
      (left_has (each f (least_waiting asked r.group) 16) _ (statement_key r (Replied g n))
      (each_has f (least_waiting asked r.group) 16 n (statement_key r (Replied g n)) from to
      (one_has (statement_key r (Replied r.group n)) (statement_key r (Replied g n)) (ap (λ k. statement_key r (Replied k n)) (sym own)))))
  has_matter r (Expired g n) own h =
      let u = and_parts (is_other e.group e.layout g) (is_open (least_waiting asked g) n) h in
      let t = open_is (least_waiting asked g) n u.1 in
      let group : g < 16 = group_small g u.0 in
      let f : ℕ → ℕ → List StatementKey = λ c n. statement_key (replica r.group r.index) (Expired c n) ∷ [] in
      right_has (each (λ n. statement_key (replica r.group r.index) (Requested r.group n) ∷ []) (counter_of asked.last r.group 0 + 1) 16) _ (statement_key r (Expired g n))
      (right_has (each (λ n. statement_key (replica r.group r.index) (Replied r.group n) ∷ []) (least_waiting asked r.group) 16) _ (statement_key r (Expired g n))
      (left_has (each (λ c. each (f c) (least_waiting asked c) 16) 0 16) _ (statement_key r (Expired g n))
      (each_has (λ c. each (f c) (least_waiting asked c) 16) 0 16 g (statement_key r (Expired g n)) (omega arith) (omega (arith, group))
      (each_has (f g) (least_waiting asked g) 16 n (statement_key r (Expired g n)) t.0 t.1 (one_has (statement_key r (Expired g n)) (statement_key r (Expired g n)) refl)))))
  has_matter r (Read a) own h =
      let t = open_is (asked.answered + 1) a h in
      let f : ℕ → List StatementKey = λ n. statement_key (replica r.group r.index) (Read n) ∷ [] in
      right_has (each (λ n. statement_key (replica r.group r.index) (Requested r.group n) ∷ []) (counter_of asked.last r.group 0 + 1) 16) _ (statement_key r (Read a))
      (right_has (each (λ n. statement_key (replica r.group r.index) (Replied r.group n) ∷ []) (least_waiting asked r.group) 16) _ (statement_key r (Read a))
      (right_has (each (λ c. each (λ n. statement_key (replica r.group r.index) (Expired c n) ∷ []) (least_waiting asked c) 16) 0 16) _ (statement_key r (Read a))
      (each_has f (asked.answered + 1) 16 a (statement_key r (Read a)) t.0 t.1 (one_has (statement_key r (Read a)) (statement_key r (Read a)) refl))))

  has_said : (k : StatementKey) (c : Content) → get e.statements k ≡ Some c → Has said k × (content_size c ≤ most k.matter)
  has_said k c h =
      let f = s.fits.statements k c h in
      let z = size_is e.group k.sender c k.matter f.0 f.1 in
      let known = s.senders k c h in
      let group : k.sender.group < 16 = group_of k.sender known in
      let index : k.sender.index < 10 = replica_in e.group e.layout k.sender (slice_get e.layout k.sender.group) s.placed refl known in (
        each_has (λ g. each (said_by g) 0 10) 0 16 k.sender.group k (omega arith) (omega (arith, group))
            (each_has (said_by k.sender.group) 0 10 k.sender.index k (omega arith) (omega (arith, index)) (has_matter k.sender k.matter z.1 (s.inside k c h))),
        z.0,
      )

  abbrev bound_of : StatementKey → ℕ
  bound_of k = most k.matter

  said_total : (g i : ℕ) → total bound_of (said_by g i) ≤ 527248
  said_total g i =
      let a = each (λ n. statement_key (replica g i) (Requested g n) ∷ []) (counter_of asked.last g 0 + 1) 16 in
      let b = each (λ n. statement_key (replica g i) (Replied g n) ∷ []) (least_waiting asked g) 16 in
      let c = each (λ c. each (λ n. statement_key (replica g i) (Expired c n) ∷ []) (least_waiting asked c) 16) 0 16 in
      let d = each (λ n. statement_key (replica g i) (Read n) ∷ []) (asked.answered + 1) 16 in
      let la : total bound_of a ≤ 16 * 32781 = each_total bound_of (λ n. statement_key (replica g i) (Requested g n) ∷ []) (counter_of asked.last g 0 + 1) 16 32781 (λ n. one_total bound_of (statement_key (replica g i) (Requested g n)) 32781 (omega arith)) in
      let lb : total bound_of b ≤ 16 * 38 = each_total bound_of (λ n. statement_key (replica g i) (Replied g n) ∷ []) (least_waiting asked g) 16 38 (λ n. one_total bound_of (statement_key (replica g i) (Replied g n)) 38 (omega arith)) in
      let lc : total bound_of c ≤ 16 * (16 * 6) = each_total bound_of (λ c. each (λ n. statement_key (replica g i) (Expired c n) ∷ []) (least_waiting asked c) 16) 0 16 (16 * 6)
      (λ c. each_total bound_of (λ n. statement_key (replica g i) (Expired c n) ∷ []) (least_waiting asked c) 16 6 (λ n. one_total bound_of (statement_key (replica g i) (Expired c n)) 6 (omega arith))) in
      let ld : total bound_of d ≤ 16 * 38 = each_total bound_of (λ n. statement_key (replica g i) (Read n) ∷ []) (asked.answered + 1) 16 38 (λ n. one_total bound_of (statement_key (replica g i) (Read n)) 38 (omega arith)) in
      omega (arith, la, lb, lc, ld, append_total bound_of a (b ++ (c ++ d)), append_total bound_of b (c ++ d), append_total bound_of c d)

  statements_small : over content_size e.statements ≤ 84359680
  statements_small =
      let held : over content_size e.statements ≤ total bound_of said = bounded statement_cmp content_size keys_are_ordered.statements keys_are_ordered.statements_exact bound_of said e.statements has_said in
      let all : total bound_of said ≤ 16 * (10 * 527248) = each_total bound_of (λ g. each (said_by g) 0 10) 0 16 (10 * 527248) (λ g. each_total bound_of (said_by g) 0 10 527248 (said_total g)) in
      omega (arith, held, all)

  -- the body that a reply names
  named_in : ℕ → ℕ → Option Content → List BodyKey
  named_in g n (Some (content.Reply r)) = body_key g n r.digest ∷ []
  named_in g n o = []

  abbrev named_by : ℕ → ℕ → List BodyKey
  named_by g i = each (λ n. named_in g n (get e.statements (statement_key (replica g i) (Replied g n)))) (least_waiting asked g) 16

  abbrev named_of : ℕ → List BodyKey
  named_of g = cond (is_other e.group e.layout g) (each (named_by g) 0 10) []

  abbrev named : List BodyKey
  named = each named_of 0 16

  abbrev body_bound : BodyKey → ℕ
  body_bound k = 32800

  named_has : (g n : ℕ) (o : Option Content) (r : ReplyNoteFields) (k : BodyKey) → o ≡ Some (content.Reply r) → g ≡ k.called → n ≡ k.number → r.digest ≡ k.digest → Has (named_in g n o) k
  unfolding named_in
  named_has g n o r k h a b d = subst (λ p. Has (named_in g n p) k) (sym h) (one_has (body_key g n r.digest) k (λ i. body_key (a i) (b i) (d i)))

  if_has : (b : Bool) (xs : List BodyKey) (k : BodyKey) → b ≡ true → Has xs k → Has (cond b xs []) k
  if_has b xs k t h = subst (λ c. Has (cond c xs []) k) (sym t) h

  has_named : (k : BodyKey) (body : List ℕ) → get e.bodies k ≡ Some body → Has named k × (32 + length body ≤ body_bound k)
  unfolding is_inside
  has_named k body h =
      let d = s.named k body h in
      let key = statement_key (replica k.called d.0) (Replied k.called k.number) in
      let u = and_parts (is_other e.group e.layout k.called) (is_open (least_waiting asked k.called) k.number) (s.inside key (content.Reply d.1) d.2) in
      let t = open_is (least_waiting asked k.called) k.number u.1 in
      let group : k.called < 16 = group_small k.called u.0 in
      let index : d.0 < 10 = replica_in e.group e.layout (replica k.called d.0) (slice_get e.layout k.called) s.placed refl (s.senders key (content.Reply d.1) d.2) in (
        each_has named_of 0 16 k.called k (omega arith) (omega (arith, group))
            (if_has (is_other e.group e.layout k.called) (each (named_by k.called) 0 10) k u.0
            (each_has (named_by k.called) 0 10 d.0 k (omega arith) (omega (arith, index))
            (each_has (λ n. named_in k.called n (get e.statements (statement_key (replica k.called d.0) (Replied k.called n)))) (least_waiting asked k.called) 16 k.number k t.0 t.1
            (named_has k.called k.number (get e.statements key) d.1 k d.2 refl refl d.3)))),
        omega (arith, s.short k body h),
      )

  named_in_total : (g n : ℕ) (o : Option Content) → total body_bound (named_in g n o) ≤ 32800
  unfolding named_in
  named_in_total g n None = omega (arith, none_total body_bound)
  named_in_total g n (Some (content.Reply r)) = one_total body_bound (body_key g n r.digest) 32800 (omega arith)
  named_in_total g n (Some (content.Request r)) = omega (arith, none_total body_bound)
  named_in_total g n (Some (content.Part r)) = omega (arith, none_total body_bound)
  named_in_total g n (Some (content.Expired r)) = omega (arith, none_total body_bound)
  named_in_total g n (Some (content.Reading r)) = omega (arith, none_total body_bound)
  named_in_total g n (Some (content.PrePrepare r)) = omega (arith, none_total body_bound)
  named_in_total g n (Some (content.Prepare r)) = omega (arith, none_total body_bound)
  named_in_total g n (Some (content.Commit r)) = omega (arith, none_total body_bound)
  named_in_total g n (Some (content.Checkpoint r)) = omega (arith, none_total body_bound)
  named_in_total g n (Some (content.ViewChange r)) = omega (arith, none_total body_bound)
  named_in_total g n (Some (content.Ack r)) = omega (arith, none_total body_bound)
  named_in_total g n (Some (content.NewView r)) = omega (arith, none_total body_bound)
  named_in_total g n (Some (content.Relay r)) = omega (arith, none_total body_bound)
  named_in_total g n (Some (content.Fetch r)) = omega (arith, none_total body_bound)
  named_in_total g n (Some (content.Done r)) = omega (arith, none_total body_bound)
  named_in_total g n (Some (content.Need r)) = omega (arith, none_total body_bound)
  named_in_total g n (Some (content.Give r)) = omega (arith, none_total body_bound)

  if_total : (b : Bool) (xs : List BodyKey) (c : ℕ) → total body_bound xs ≤ c → total body_bound (cond b xs []) ≤ c
  if_total true xs c h = h
  if_total false xs c h = omega (arith, none_total body_bound)

  named_total : (g : ℕ) → total body_bound (named_of g) ≤ 10 * (16 * 32800)
  named_total g = if_total (is_other e.group e.layout g) (each (named_by g) 0 10) (10 * (16 * 32800))
      (each_total body_bound (named_by g) 0 10 (16 * 32800) (λ i. each_total body_bound (λ n. named_in g n (get e.statements (statement_key (replica g i) (Replied g n)))) (least_waiting asked g) 16 32800
      (λ n. named_in_total g n (get e.statements (statement_key (replica g i) (Replied g n))))))

  -- the own group is no other
  own_is_none : total body_bound (named_of e.group) ≡ 0
  own_is_none = ap (λ b. total body_bound (cond b (each (named_by e.group) 0 10) [])) (not_other (length e.layout)) ∙ none_total body_bound
    where
      and_not : (a b : Bool) → b ≡ true → a && not b ≡ false
      and_not true b h = ap not h
      and_not false b h = refl

      not_other : (n : ℕ) → nat_lt e.group n && not (e.group == e.group) ≡ false
      not_other n = and_not (nat_lt e.group n) (e.group == e.group) (eq-eqb e.group e.group refl)

  bodies_small : over (λ b. 32 + length b) e.bodies ≤ 78720000
  bodies_small =
      let held : over (λ b. 32 + length b) e.bodies ≤ total body_bound named = bounded body_cmp (λ b. 32 + length b) keys_are_ordered.bodies keys_are_ordered.bodies_exact body_bound named e.bodies has_named in
      let own = s.placed.own in
      let few = s.placed.few in
      let all : total body_bound named + 10 * (16 * 32800) ≤ 16 * (10 * (16 * 32800)) = each_but body_bound named_of 0 16 (10 * (16 * 32800)) e.group named_total (omega arith) (omega (arith, own, few)) own_is_none in
      omega (arith, held, all)

  all_small : evidence_held e ≤ 167772160
  unfolding evidence_held
  all_small = omega (arith, statements_small, bodies_small)

pub evidence_is_bounded : EvidenceIsBounded
evidence_is_bounded e asked s = all_small e asked s
