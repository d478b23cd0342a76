-- The replies of a run are lawful, where each of its effects took effect in turn. It is here for the proofs alone.
use Rattle.std.proofs.Common.{◌≡◌, inl, inr, ℕ, ◌+◌, ◌≤◌, Bool, true, false, cond, nat_eq, nat_le, List, [], ◌∷◌, ◌++◌, length, Option, Some, None, refl, ◌∙◌, ap, subst, arith}
use Rattle.std.specs.List.{list_any}
use Rattle.std.proofs.lemmas.Bool.Decides.{nat_tests}
use Rattle.std.proofs.lemmas.List.{append-nil}
use Rattle.pws_event.specs.Requests.{RequestFields}
use Rattle.pws_event.specs.declared.events.Event.{Event}
use Rattle.pws_event.specs.declared.events.Event.TheVariants as event
use Rattle.pws_service.specs.declared.keys.Key.{Key}
use Rattle.pws_service.specs.declared.acts.Act.{Act}
use Rattle.pws_service.specs.declared.acts.Act.TheVariants as act
use Rattle.pws_driver.specs.declared.cores.Core.{Core}
use Rattle.pws_driver.specs.Envelopes.{TextsFit}
use Rattle.pws_driver.specs.Services.{Service}
use Rattle.pws_service.specs.Keys.{same_key}
use Rattle.pws_driver.specs.Keys.{has_key, without}
use Rattle.pws_driver.specs.Lemmas.KeyLists.{has_added, key_same, same_refl}
use Rattle.pws_service.specs.Effects.{InTurn}
use Rattle.pws_service.specs.Lawful.{is_request, is_reply, LawfulReplies}
use Rattle.pws_driver.specs.Moves.{Moved, quiet, halted}
use Rattle.pws_driver.specs.Instructions.{begin, counted}
use Rattle.pws_service.specs.Keys.{request_key}
use Rattle.pws_driver.specs.Takings.{wants, takes, is_ready}
use Rattle.pws_driver.specs.Runs.{first_of, enough, fresh, fresh_core, acts_of}
use Rattle.pws_driver.specs.Lemmas.Firsts.{Picked, picked_in, picked_wanted, or_right}
use Rattle.pws_driver.specs.Lemmas.Cases.{Instructed, Taken, begin_holds, takes_holds}
use Rattle.pws_driver.specs.Lemmas.Kept.{steps_hold}
use Rattle.pws_driver.specs.Lemmas.ReplyLaws.{RepliesKept, Distinct, quiet_replies, answer_replies, picked_distinct, turn_distinct, replies_more, reply_more, true_false, false_unless}

abbrev J : List Event → Core → List Event → List Act → Type 0
J xs c u acts = RepliesKept xs c.open_requests u acts

abbrev K : List Event → List Event → List Act → Moved → Type 0
K xs u acts m = J xs m.core u (acts ++ m.acts)

quiet_at : (xs u : List Event) (acts : List Act) (c : Core) → J xs c u acts → K xs u acts (quiet c)
quiet_at xs u acts c k = rw (append-nil acts) k

halted_at : (xs u : List Event) (acts : List Act) (c : Core) → J xs c u acts → K xs u acts (halted c)
halted_at xs u acts c k = quiet_replies xs c.open_requests u acts act.Halted (λ j. refl) tt k

instructed : (s : Service) (xs u : List Event) (acts : List Act) (c : Core) → TextsFit s.words → J xs c u acts → Instructed (K xs u acts) s c
instructed s xs u acts c f k = record {
  halts = halted_at xs u acts c k;
  goes_on = λ registers line stream. quiet_at xs u acts c k;
  waits = λ w. quiet_at xs u acts c k;
  calls = λ d g ms n text body e may made. quiet_replies xs c.open_requests u acts _ (λ j. refl) tt k;
  replies = λ key message text has. answer_replies xs c.open_requests u acts key (s.words.reply_text s.me key message text) (f.reply s.me key message text) has k;
  asks_clock = λ d few. quiet_replies xs c.open_requests u acts (act.AskClock (c.asks + 1)) (λ j. refl) tt k;
  asks_seed = λ few. quiet_replies xs c.open_requests u acts (act.AskRandom (c.asks + 1)) (λ j. refl) tt k;
}

-- what is known of the event that is picked
record Picks (xs : List Event) (open_requests : List Key) (acts : List Act) (e : Event) (rest : List Event) : Type 0 where
  kept : RepliesKept xs open_requests rest acts
  new : (k : Key) → is_request k e ≡ true → (list_any (is_request k) xs ≡ true) × (has_key open_requests k ≡ false) × (list_any (is_reply k) acts ≡ false) × (list_any (is_request k) rest ≡ false)

picks : (xs u : List Event) (acts : List Act) (c : Core) (q : Picked) → first_of (wants c) u ≡ Some q → J xs c u acts → Picks xs c.open_requests acts q.0 q.1
picks xs u acts c q e k =
    let d = picked_distinct (wants c) u q e k.distinct in
    let inside : (j : Key) → list_any (is_request j) q.1 ≡ true → list_any (is_request j) u ≡ true = λ j a. picked_in (wants c) u q e (is_request j) (rw a (or_right (is_request j q.0))) in
    record {
      kept = record { lawful = k.lawful; asked_in = k.asked_in; unseen = λ j a. k.unseen j (inside j a); distinct = d.1; within = λ j a. k.within j (inside j a) };
      new = λ j a. let i : list_any (is_request j) u ≡ true = picked_in (wants c) u q e (is_request j) (rw a refl) in let n = k.unseen j i in (k.within j i, n.0, n.1, d.0 j a);
    }

-- a request is taken and stays open
opened : (xs rest : List Event) (open_requests : List Key) (acts : List Act) (k : Key) → (list_any (is_request k) xs ≡ true) × (has_key open_requests k ≡ false) × (list_any (is_reply k) acts ≡ false) × (list_any (is_request k) rest ≡ false) → RepliesKept xs open_requests rest acts → RepliesKept xs (open_requests ++ k ∷ []) rest acts
opened xs rest open_requests acts k n c = record {
  lawful = c.lawful;
  asked_in = λ j h. elim (has_added open_requests k j h) [
    | inl a ↦ c.asked_in j a
    | inr a ↦ let e = key_same j k a in (ap (λ (q : Key). list_any (is_request q) xs) e ∙ n.0, ap (λ (q : Key). list_any (is_reply q) acts) e ∙ n.2)
  ];
  unseen = λ j h. let p = c.unseen j h in (
    false_unless (has_key (open_requests ++ k ∷ []) j) (λ a. elim (has_added open_requests k j a) [
      | inl b ↦ true_false (has_key open_requests j) b p.0
      | inr b ↦ true_false (list_any (is_request j) rest) h (ap (λ (q : Key). list_any (is_request q) rest) (key_same j k b) ∙ n.3)
    ]),
    p.1,
  );
  distinct = c.distinct;
  within = c.within;
}

-- a request is answered at once
refused : (xs rest : List Event) (open_requests : List Key) (acts : List Act) (k : Key) (body : List ℕ) → length body ≤ 32768 → (list_any (is_request k) xs ≡ true) × (has_key open_requests k ≡ false) × (list_any (is_reply k) acts ≡ false) × (list_any (is_request k) rest ≡ false) → RepliesKept xs open_requests rest acts → RepliesKept xs open_requests rest (acts ++ act.Reply k.group k.number body ∷ [])
refused xs rest open_requests acts k body size n c = record {
  lawful = replies_more xs [] acts (act.Reply k.group k.number body) c.lawful (record { request = n.0; once = n.2; size = size });
  asked_in = λ j h. let p = c.asked_in j h in (p.0, reply_more j acts (act.Reply k.group k.number body) p.1 (false_unless (same_key j k) (λ s. true_false (has_key open_requests j) h (ap (has_key open_requests) (key_same j k s) ∙ n.1))));
  unseen = λ j h. let p = c.unseen j h in (p.0, reply_more j acts (act.Reply k.group k.number body) p.1 (false_unless (same_key j k) (λ s. true_false (list_any (is_request j) rest) h (ap (λ (q : Key). list_any (is_request q) rest) (key_same j k s) ∙ n.3))));
  distinct = c.distinct;
  within = c.within;
}

refused_at : (s : Service) (xs rest : List Event) (acts : List Act) (c : Core) (r : RequestFields) (body : List ℕ) → length body ≤ 32768 → Picks xs c.open_requests acts (event.Request r) rest → RepliesKept xs c.open_requests rest (acts ++ act.Reply r.caller r.number body ∷ [])
refused_at s xs rest acts c r body size p = refused xs rest c.open_requests acts (request_key r) body size (p.new (request_key r) (same_refl (request_key r))) p.kept

opened_at : (xs rest : List Event) (acts : List Act) (c : Core) (r : RequestFields) → Picks xs c.open_requests acts (event.Request r) rest → RepliesKept xs (c.open_requests ++ request_key r ∷ []) rest acts
opened_at xs rest acts c r p = opened xs rest c.open_requests acts (request_key r) (p.new (request_key r) (same_refl (request_key r))) p.kept

taken : (s : Service) (xs rest : List Event) (acts : List Act) (c : Core) (e : Event) → TextsFit s.words → Picks xs c.open_requests acts e rest → Taken (K xs rest acts) s c e
taken s xs rest acts c e f p =
    let at : (r : RequestFields) → e ≡ event.Request r → Picks xs c.open_requests acts (event.Request r) rest = λ r i. subst (λ (x : Event). Picks xs c.open_requests acts x rest) i p in
    record {
      nothing = quiet_at xs rest acts c p.kept;
      request = λ w r registers m i. quiet_at xs rest acts (record c { open_requests = c.open_requests ++ request_key r ∷ [] }) (opened_at xs rest acts c r (at r i));
      refused = λ w r fault m i h. refused_at s xs rest acts c r fault (f.refusal s.me (request_key r) r.body fault h) (at r i);
      answer = λ w key registers m a. quiet_at xs rest acts c p.kept;
      clock = λ d now registers m a. quiet_at xs rest acts c p.kept;
      seed = λ stream m a. quiet_at xs rest acts c p.kept;
      told = λ r m i. refused_at s xs rest acts c r _ (f.halted s.me (request_key r) r.body) (at r i);
    }

begin_at : (s : Service) (xs : List Event) (c : Core) (u : List Event) (acts : List Act) → TextsFit s.words → J xs c u acts → J xs (begin s c).core u (acts ++ (begin s c).acts)
begin_at s xs c u acts f k = begin_holds (K xs u acts) s c (halted_at xs u acts c k) (λ some. instructed s xs u acts (counted c) f k)

takes_at : (s : Service) (xs : List Event) (c : Core) (u : List Event) (acts : List Act) (q : Picked) → TextsFit s.words → first_of (wants c) u ≡ Some q → J xs c u acts → J xs (takes s c q.0).core q.1 (acts ++ (takes s c q.0).acts)
takes_at s xs c u acts q f e k = takes_holds (K xs q.1 acts) s c q.0 (picked_wanted (wants c) u q e) (taken s xs q.1 acts c q.0 f (picks xs u acts c q e k))

fresh_at : (xs : List Event) → Distinct xs → J xs fresh_core xs []
unfolding fresh_core
fresh_at xs d = record {
  lawful = tt;
  asked_in = λ k h. let i : ◌≡◌ {A = Bool} false true = h in absurd (cc);
  unseen = λ k h. (refl, refl);
  distinct = d;
  within = λ k h. h;
}

-- the replies of a script on effects that took effect in turn are lawful
pub replies_lawful : (s : Service) (me : ℕ) (layout : List ℕ) (xs : List Event) → TextsFit s.words → InTurn me layout (acts_of s) [] xs → LawfulReplies xs [] (acts_of s xs)
replies_lawful s me layout xs f t =
    (steps_hold (J xs) s (enough xs) (fresh xs) (λ c u acts h k. begin_at s xs c u acts f k) (λ c u acts q e k. takes_at s xs c u acts q f e k) (fresh_at xs (turn_distinct me layout (acts_of s) [] xs t).1)).lawful
