-- The replies of a run are lawful, where the requests are distinct. It is here for the proofs alone.
use Rattle.std.proofs.Common.{◌≡◌, inl, inr, ℕ, ◌+◌, ◌<◌, ◌≤◌, Bool, true, false, not, ◌&&◌, ◌||◌, cond, nat_eq, nat_lt, nat_le, List, [], ◌∷◌, ◌++◌, length, Option, Some, None, refl, sym, ◌∙◌, ap, subst, arith, append_assoc}
use Rattle.std.specs.List.{list_any}
use Rattle.std.specs.Option.{option_map}
use Rattle.std.proofs.lemmas.Bool.Decides.{nat_tests}
use Rattle.std.proofs.lemmas.List.{append-nil}
use Rattle.std.proofs.lemmas.List.Folds.{list_any-append}
use Rattle.std.proofs.lemmas.List.Sums.{fold-append}
use Rattle.pws_service.specs.declared.keys.Key.{Key}
use Rattle.pws_event.specs.declared.events.Event.{Event}
use Rattle.pws_event.specs.declared.events.Event.TheVariants as event
use Rattle.pws_service.specs.declared.acts.Act.{Act}
use Rattle.pws_service.specs.declared.acts.Act.TheVariants as act
use Rattle.pws_service.specs.Keys.{same_key}
use Rattle.pws_driver.specs.Keys.{has_key, without}
use Rattle.pws_driver.specs.Lemmas.KeyLists.{same_groups, key_same, has_without, or_true}
use Rattle.pws_event.specs.Requests.{RequestFields}
use Rattle.pws_base.specs.Replicas.{is_other}
use Rattle.pws_event.specs.Effects.{is_next, last_of, low_of, field_after}
use Rattle.pws_service.specs.Effects.{InTurn, takes_effect_after}
use Rattle.pws_service.specs.Keys.{request_key}
use Rattle.pws_driver.specs.Runs.{first_of, behind}
use Rattle.pws_driver.specs.Lemmas.Firsts.{Picked, picked_in, or_right}
use Rattle.pws_service.specs.Lawful.{is_request, is_reply, IsLawfulReply, ReplyAfter, LawfulReplies}

pub true_false : {P : Type 0} (b : Bool) → b ≡ true → b ≡ false → P
true_false b h i = let j : ◌≡◌ {A = Bool} true false = sym h ∙ i in absurd (cc)

false_from : (b c : Bool) → (b ≡ true → c ≡ true) → c ≡ false → b ≡ false
false_from true c f h = true_false c (f refl) h
false_from false c f h = refl

pub false_unless : (b : Bool) → (b ≡ true → ⊥) → b ≡ false
false_unless true f = absurd (f refl)
false_unless false f = refl

or_false : (a b : Bool) → a ≡ false → b ≡ false → (a || b) ≡ false
or_false a b h i = rw (h, i) refl

-- no two requests of the list have one key
abbrev pub Distinct : List Event → Type 0
Distinct [] = Unit {0}
Distinct (e ∷ es) = ((k : Key) → is_request k e ≡ true → list_any (is_request k) es ≡ false) × Distinct es

pub record RepliesKept (xs : List Event) (open_requests : List Key) (untaken : List Event) (acts : List Act) : Type 0 where
  pub lawful : LawfulReplies xs [] acts
  pub asked_in : (k : Key) → has_key open_requests k ≡ true → (list_any (is_request k) xs ≡ true) × (list_any (is_reply k) acts ≡ false)
  pub unseen : (k : Key) → list_any (is_request k) untaken ≡ true → (has_key open_requests k ≡ false) × (list_any (is_reply k) acts ≡ false)
  pub distinct : Distinct untaken
  pub within : (k : Key) → list_any (is_request k) untaken ≡ true → list_any (is_request k) xs ≡ true

pub replies_more : (xs : List Event) (before acts : List Act) (a : Act) → LawfulReplies xs before acts → ReplyAfter xs (before ++ acts) a → LawfulReplies xs before (acts ++ a ∷ [])
replies_more xs before [] a l h = (rw (← append-nil before) h, tt)
replies_more xs before (b ∷ acts) a l h = (l.0, replies_more xs (before ++ b ∷ []) acts a l.1 (rw (append_assoc before (b ∷ []) acts) h))

pub reply_more : (k : Key) (acts : List Act) (a : Act) → list_any (is_reply k) acts ≡ false → is_reply k a ≡ false → list_any (is_reply k) (acts ++ a ∷ []) ≡ false
reply_more k acts a h i = list_any-append (is_reply k) acts (a ∷ []) ∙ or_false (list_any (is_reply k) acts) (is_reply k a || false) h (or_false (is_reply k a) false i refl)

-- an act that is no reply
pub quiet_replies : (xs : List Event) (open_requests : List Key) (untaken : List Event) (acts : List Act) (a : Act) → ((k : Key) → is_reply k a ≡ false) → ReplyAfter xs acts a → RepliesKept xs open_requests untaken acts → RepliesKept xs open_requests untaken (acts ++ a ∷ [])
quiet_replies xs open_requests untaken acts a f l c =
    record {
      lawful = replies_more xs [] acts a c.lawful l;
      asked_in = λ k h. let p = c.asked_in k h in (p.0, reply_more k acts a p.1 (f k));
      unseen = λ k h. let p = c.unseen k h in (p.0, reply_more k acts a p.1 (f k));
      distinct = c.distinct;
      within = c.within;
    }

others_in : (k x : Key) (ys : List Key) (j : Key) (b : Bool) → same_key k x ≡ b → (has_key ys j ≡ true → same_key j k ≡ false) → has_key (cond (not b) (x ∷ ys) ys) j ≡ true → same_key j k ≡ false
others_in k x ys j true e ih h = ih h
others_in k x ys j false e ih h = elim (or_true (same_key j x) (has_key ys j) h) [
  | inl a ↦ false_unless (same_key j k) (λ s. true_false (same_key k x) (ap (λ (q : Key). same_key q x) (sym (key_same j k s)) ∙ a) e)
  | inr a ↦ ih a
]

-- what is left has other keys
without_others : (k : Key) (ks : List Key) (j : Key) → has_key (without k ks) j ≡ true → same_key j k ≡ false
without_others k [] j h = let i : ◌≡◌ {A = Bool} false true = h in absurd (cc)
without_others k (x ∷ ks) j h = others_in k x (without k ks) j (same_key k x) refl (without_others k ks j) h

-- a reply to an open request
pub answer_replies : (xs : List Event) (open_requests : List Key) (untaken : List Event) (acts : List Act) (k : Key) (body : List ℕ) → length body ≤ 32768 → has_key open_requests k ≡ true → RepliesKept xs open_requests untaken acts → RepliesKept xs (without k open_requests) untaken (acts ++ act.Reply k.group k.number body ∷ [])
answer_replies xs open_requests untaken acts k body size h c =
    let lawful : IsLawfulReply xs acts k body = record { request = (c.asked_in k h).0; once = (c.asked_in k h).1; size = size } in
    record {
      lawful = replies_more xs [] acts (act.Reply k.group k.number body) c.lawful lawful;
      asked_in = λ j i. let p = c.asked_in j (has_without k open_requests j i) in (p.0, reply_more j acts (act.Reply k.group k.number body) p.1 (without_others k open_requests j i));
      unseen = λ j i. let p = c.unseen j i in (
        false_from _ _ (has_without k open_requests j) p.0,
        reply_more j acts (act.Reply k.group k.number body) p.1 (false_unless (same_key j k) (λ s. true_false (has_key open_requests j) (ap (has_key open_requests) (key_same j k s) ∙ h) p.0)),
      );
      distinct = c.distinct;
      within = c.within;
    }

-- ---- an event is picked

distinct_by : (x : Event) (es : List Event) (q : Picked) (o : Option Picked) (b : Bool) → ((r : Picked) → o ≡ Some r → (t : Event → Bool) → (t r.0 || list_any t r.1) ≡ true → list_any t es ≡ true) → ((r : Picked) → o ≡ Some r → ((k : Key) → is_request k r.0 ≡ true → list_any (is_request k) r.1 ≡ false) × Distinct r.1) → Distinct (x ∷ es) → cond b (Some (x, es)) (option_map (behind x) o) ≡ Some q → ((k : Key) → is_request k q.0 ≡ true → list_any (is_request k) q.1 ≡ false) × Distinct q.1
distinct_by x es q o true inside ih d h =
    let s : (x, es) ≡ q = cc in
    let e0 : x ≡ q.0 = ap (λ (w : Picked). w.0) s in
    let e1 : es ≡ q.1 = ap (λ (w : Picked). w.1) s in
    (λ k i. ap (list_any (is_request k)) (sym e1) ∙ d.0 k (ap (is_request k) e0 ∙ i), subst Distinct e1 d.1)
distinct_by x es q None false inside ih d h = let j : ◌≡◌ {A = Option Picked} None (Some q) = h in absurd (cc)
distinct_by x es q (Some r) false inside ih d h =
    let s : behind x r ≡ q = cc in
    let e0 : r.0 ≡ q.0 = ap (λ (w : Picked). w.0) s in
    let e1 : x ∷ r.1 ≡ q.1 = ap (λ (w : Picked). w.1) s in
    let p = ih r refl in (
      λ k i.
          let v : is_request k r.0 ≡ true = ap (is_request k) e0 ∙ i in
          ap (list_any (is_request k)) (sym e1) ∙ or_false (is_request k x) (list_any (is_request k) r.1) (false_unless (is_request k x) (λ a. true_false (list_any (is_request k) es) (inside r refl (is_request k) (rw v refl)) (d.0 k a))) (p.0 k v),
      subst Distinct e1 (λ k a. false_from (list_any (is_request k) r.1) (list_any (is_request k) es) (λ b. inside r refl (is_request k) (rw b (or_right (is_request k r.0)))) (d.0 k a), p.1),
    )

pub picked_distinct : (test : Event → Bool) (es : List Event) (q : Picked) → first_of test es ≡ Some q → Distinct es → ((k : Key) → is_request k q.0 ≡ true → list_any (is_request k) q.1 ≡ false) × Distinct q.1
picked_distinct test [] q h d = let j : ◌≡◌ {A = Option Picked} None (Some q) = h in absurd (cc)
picked_distinct test (x ∷ es) q h d = distinct_by x es q (first_of test es) (test x) (picked_in test es) (λ r i. picked_distinct test es r i d.1) d h

-- ---- effects in turn are distinct

next_by_test : (count me g n last lo low : ℕ) → ((nat_lt g count && not (nat_eq g me)) && nat_eq n (last + 1) && nat_le lo low && nat_le low n && nat_lt n (low + 16)) ≡ true → n ≡ last + 1
next_by_test count me g n last lo low h = grind (arith, nat_tests)

-- a caller's last number after one more event
abbrev after_last : ℕ → ℕ → Event → ℕ
after_last g n e = field_after (λ r. r.number) g n e

last_after : (g : ℕ) (before : List Event) (e : Event) → last_of g (before ++ e ∷ []) ≡ after_last g (last_of g before) e
last_after g before e = fold-append (after_last g) 0 before (e ∷ [])

follows_next : (me : ℕ) (layout : List ℕ) (before : List Event) (r : RequestFields) → is_next me layout (last_of r.caller before) (low_of r.caller before) r ≡ true → r.number ≡ last_of r.caller before + 1
follows_next me layout before r h = next_by_test (length layout) me r.caller r.number (last_of r.caller before) (low_of r.caller before) r.low h

request_number : (me : ℕ) (layout : List ℕ) (acts : List Act) (before : List Event) (e : Event) (k : Key) → takes_effect_after me layout acts before e ≡ true → is_request k e ≡ true → k.number ≡ last_of k.group before + 1
request_number me layout acts before event.Null k t h = let i : ◌≡◌ {A = Bool} false true = h in absurd (cc)
request_number me layout acts before (event.Request r) k t h =
    let e : k ≡ request_key r = key_same k (request_key r) h in
    ap (λ (q : Key). q.number) e ∙ (follows_next me layout before r t ∙ ap (λ (q : Key). last_of q.group before + 1) (sym e))
request_number me layout acts before (event.Reply r) k t h = let i : ◌≡◌ {A = Bool} false true = h in absurd (cc)
request_number me layout acts before (event.Abort r) k t h = let i : ◌≡◌ {A = Bool} false true = h in absurd (cc)
request_number me layout acts before (event.Clock r) k t h = let i : ◌≡◌ {A = Bool} false true = h in absurd (cc)
request_number me layout acts before (event.Random r) k t h = let i : ◌≡◌ {A = Bool} false true = h in absurd (cc)

rises_by : (g caller number : ℕ) (b : Bool) (last : ℕ → ℕ) → nat_eq caller g ≡ b → number ≡ last caller + 1 → last g ≤ cond b number (last g)
rises_by g caller number true last e h = let f : caller ≡ g = grind (arith, nat_tests) in omega (arith, ap last f)
rises_by g caller number false last e h = omega arith

last_rises : (me : ℕ) (layout : List ℕ) (acts : List Act) (before : List Event) (e : Event) (g : ℕ) → takes_effect_after me layout acts before e ≡ true → last_of g before ≤ after_last g (last_of g before) e
last_rises me layout acts before event.Null g t = omega arith
last_rises me layout acts before (event.Request r) g t = rises_by g r.caller r.number (nat_eq r.caller g) (λ x. last_of x before) refl (follows_next me layout before r t)
last_rises me layout acts before (event.Reply r) g t = omega arith
last_rises me layout acts before (event.Abort r) g t = omega arith
last_rises me layout acts before (event.Clock r) g t = omega arith
last_rises me layout acts before (event.Random r) g t = omega arith

last_is : (n : ℕ) (e : Event) (k : Key) → is_request k e ≡ true → after_last k.group n e ≡ k.number
last_is n event.Null k h = let i : ◌≡◌ {A = Bool} false true = h in absurd (cc)
last_is n (event.Request r) k h =
    let s = same_groups k (request_key r) h in
    let t : nat_eq r.caller k.group ≡ true = grind (arith, nat_tests) in
    rw t (sym s.1)
last_is n (event.Reply r) k h = let i : ◌≡◌ {A = Bool} false true = h in absurd (cc)
last_is n (event.Abort r) k h = let i : ◌≡◌ {A = Bool} false true = h in absurd (cc)
last_is n (event.Clock r) k h = let i : ◌≡◌ {A = Bool} false true = h in absurd (cc)
last_is n (event.Random r) k h = let i : ◌≡◌ {A = Bool} false true = h in absurd (cc)

pub turn_distinct : (me : ℕ) (layout : List ℕ) (f : List Event → List Act) (before es : List Event) → InTurn me layout f before es → ((k : Key) → list_any (is_request k) es ≡ true → last_of k.group before < k.number) × Distinct es
turn_distinct me layout f before [] t = (λ k h. let i : ◌≡◌ {A = Bool} false true = h in absurd (cc), tt)
turn_distinct me layout f before (e ∷ es) t =
    let rest = turn_distinct me layout f (before ++ e ∷ []) es t.1 in (
      λ k h. elim (or_true (is_request k e) (list_any (is_request k) es) h) [
        | inl a ↦ let n = request_number me layout (f before) before e k t.0 a in omega arith
        | inr a ↦ let n = rest.0 k a in let r = last_rises me layout (f before) before e k.group t.0 in omega (arith, last_after k.group before e)
      ],
      (λ k a. false_unless (list_any (is_request k) es) (λ b. let n = rest.0 k b in let l = last_is (last_of k.group before) e k a in omega (arith, last_after k.group before e)), rest.1),
    )
