-- What the first enabled action is enabled by.
use Rattle.std.proofs.Common.{◌≡◌, ℕ, Bool, true, false, cond, List, Option, Some, None, refl, ◌∙◌, subst}
use Rattle.std.specs.Option.{option_map, option_or}
use Rattle.pws_event.specs.declared.events.Event.{Event}
use Rattle.pws_event.specs.Counters.{Counters}
use Rattle.pws_msg.specs.declared.changes.Choice.{Choice}
use Rattle.pws_msg.specs.declared.changes.NewView.{NewView}
use Rattle.pws_protocol.specs.States.{State, is_alone}
use Rattle.pws_protocol.specs.Actions.{Action, next_join, can_refuse, can_impatience, next_ack, next_need_chosen, next_need_text, next_offer, next_in_group, next_enter, next_propose, next_accept, next_prepare, next_execute, next_adopt, next_commit, can_checkpoint, next_stable, next_in_any, next_action}
use Rattle.pws_protocol.specs.Actions as act

pub data Enabled (s : State) (asked : Counters) : Action → Type 0 where
  join : (w : ℕ) → next_join s ≡ Some w → Enabled s asked (act.Join w)
  refuse : can_refuse s ≡ true → Enabled s asked act.Refuse
  impatience : can_impatience s ≡ true → Enabled s asked act.Impatience
  ack : (j : ℕ) → next_ack s ≡ Some j → Enabled s asked (act.Ack j)
  need_chosen : (d : List ℕ) → Enabled s asked (act.NeedChosen d)
  need_text : (d : List ℕ) → Enabled s asked (act.NeedText d)
  offer : (c : Choice) → next_offer s ≡ Some c → Enabled s asked (act.Offer c)
  enter : (v : NewView) → next_enter s ≡ Some v → Enabled s asked (act.Enter v)
  propose : (e : Event) → next_propose s asked ≡ Some e → Enabled s asked (act.Propose e)
  accept : (p : ℕ) → next_accept s ≡ Some p → Enabled s asked (act.Accept p)
  prepare : (p : ℕ) → next_prepare s ≡ Some p → Enabled s asked (act.Prepare p)
  execute : (e : Event) → next_execute s ≡ Some e → Enabled s asked (act.Execute e)
  adopt : (e : Event) → next_adopt s ≡ Some e → Enabled s asked (act.Adopt e)
  commit : (p : ℕ) → next_commit s ≡ Some p → Enabled s asked (act.Commit p)
  checkpoint : can_checkpoint s ≡ true → Enabled s asked act.Checkpoint
  stable : (p : ℕ) → next_stable s ≡ Some p → Enabled s asked (act.Stable p)

-- of one line of the order and the later ones
pub line : {A : Type 0} (P : Action → Type 0) (o : Option A) (f : A → Action) (later : Option Action) (a : Action) → ((x : A) → o ≡ Some x → P (f x)) → (later ≡ Some a → P a) → option_or (option_map f o) later ≡ Some a → P a
line P None f later a g more h = more h
line P (Some x) f later a g more h = let i : ◌≡◌ {A = Option Action} (Some (f x)) (Some a) = h in let same : f x ≡ a = cc in subst P same (g x refl)

pub test : (P : Action → Type 0) (b : Bool) (x : Action) (later : Option Action) (a : Action) → (b ≡ true → P x) → (later ≡ Some a → P a) → option_or (cond b (Some x) None) later ≡ Some a → P a
test P false x later a g more h = more h
test P true x later a g more h = let i : ◌≡◌ {A = Option Action} (Some x) (Some a) = h in let same : x ≡ a = cc in subst P same (g refl)

pub last : {A : Type 0} (P : Action → Type 0) (o : Option A) (f : A → Action) (a : Action) → ((x : A) → o ≡ Some x → P (f x)) → option_map f o ≡ Some a → P a
last P None f a g h = absurd (let i : ◌≡◌ {A = Option Action} None (Some a) = h in cc)
last P (Some x) f a g h = let i : ◌≡◌ {A = Option Action} (Some (f x)) (Some a) = h in let same : f x ≡ a = cc in subst P same (g x refl)

module _ (s : State) (asked : Counters) (a : Action) where
  in_group : next_in_group s ≡ Some a → Enabled s asked a
  unfolding next_in_group
  in_group h =
      line (Enabled s asked) (next_join s) act.Join _ a join
      (test (Enabled s asked) (can_refuse s) act.Refuse _ a refuse
      (test (Enabled s asked) (can_impatience s) act.Impatience _ a impatience
      (line (Enabled s asked) (next_ack s) act.Ack _ a ack
      (line (Enabled s asked) (next_need_chosen s) act.NeedChosen _ a (λ d _. need_chosen d)
      (line (Enabled s asked) (next_need_text s) act.NeedText _ a (λ d _. need_text d)
      (last (Enabled s asked) (next_offer s) act.Offer a offer)))))) h

  in_any : next_in_any s asked ≡ Some a → Enabled s asked a
  unfolding next_in_any
  in_any h =
      line (Enabled s asked) (next_enter s) act.Enter _ a enter
      (line (Enabled s asked) (next_propose s asked) act.Propose _ a propose
      (line (Enabled s asked) (next_accept s) act.Accept _ a accept
      (line (Enabled s asked) (next_prepare s) act.Prepare _ a prepare
      (line (Enabled s asked) (next_execute s) act.Execute _ a execute
      (line (Enabled s asked) (next_adopt s) act.Adopt _ a adopt
      (line (Enabled s asked) (next_commit s) act.Commit _ a commit
      (test (Enabled s asked) (can_checkpoint s) act.Checkpoint _ a checkpoint
      (last (Enabled s asked) (next_stable s) act.Stable a stable)))))))) h

  by_alone : (b : Bool) → option_or (cond b None (next_in_group s)) (next_in_any s asked) ≡ Some a → Enabled s asked a
  by_alone true h = in_any h
  by_alone false h = either (next_in_group s) refl h
    where
      either : (o : Option Action) → next_in_group s ≡ o → option_or o (next_in_any s asked) ≡ Some a → Enabled s asked a
      either None e k = in_any k
      either (Some x) e k = in_group (e ∙ k)

  pub enabled : next_action s asked ≡ Some a → Enabled s asked a
  unfolding next_action
  enabled h = by_alone (is_alone s) h
