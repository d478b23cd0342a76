-- What is done passes its own test.
use Rattle.std.proofs.Common.{◌≡◌, Bool, true, false, Option, Some, None, refl, subst, if◌then◌else◌}
use Rattle.std.specs.Option.{option_map, option_or}
use Rattle.pws_event.specs.Counters.{Counters}
use Rattle.pws_protocol.specs.States.{State, is_alone}
use Rattle.pws_protocol.specs.Actions.{Action, next_action, next_in_group, next_in_any, when, next_join, can_refuse, can_impatience, next_ack, next_need_chosen, next_need_text, next_offer, next_enter, next_propose, next_accept, next_prepare, next_execute, next_adopt, next_commit, can_checkpoint, next_stable}
use Rattle.pws_protocol.specs.Actions as act
use Rattle.pws_voter_laws.proofs.Found.{nothing, same}
use Rattle.pws_voter_laws.specs.Enabled.{IsEnabled, DoneIsEnabled}

module _ (s : State) (asked : Counters) (a : Action) where
  line : {A : Type 0} (f : A → Action) (o : Option A) (rest : Option Action) → ((x : A) → o ≡ Some x → IsEnabled s asked (f x)) → (rest ≡ Some a → IsEnabled s asked a) → option_or (option_map f o) rest ≡ Some a → IsEnabled s asked a
  line f None rest h k e = k e
  line f (Some x) rest h k e = subst (IsEnabled s asked) (same (f x) a e) (h x refl)

  test : (b : Bool) (x : Action) (rest : Option Action) → (b ≡ true → IsEnabled s asked x) → (rest ≡ Some a → IsEnabled s asked a) → option_or (when b x) rest ≡ Some a → IsEnabled s asked a
  test true x rest h k e = subst (IsEnabled s asked) (same x a e) (h refl)
  test false x rest h k e = k e

  end : {A : Type 0} (f : A → Action) (o : Option A) → ((x : A) → o ≡ Some x → IsEnabled s asked (f x)) → option_map f o ≡ Some a → IsEnabled s asked a
  end f None h e = absurd (nothing a e)
  end f (Some x) h e = subst (IsEnabled s asked) (same (f x) a e) (h x refl)

  in_group : is_alone s ≡ false → next_in_group s ≡ Some a → IsEnabled s asked a
  unfolding next_in_group
  in_group n =
      line act.Join (next_join s) _ (λ x h. (n, h))
      (test (can_refuse s) act.Refuse _ (λ h. (n, h))
      (test (can_impatience s) act.Impatience _ (λ h. (n, h))
      (line act.Ack (next_ack s) _ (λ x h. (n, h))
      (line act.NeedChosen (next_need_chosen s) _ (λ x h. (n, h))
      (line act.NeedText (next_need_text s) _ (λ x h. (n, h))
      (end act.Offer (next_offer s) (λ x h. (n, h))))))))

  in_any : next_in_any s asked ≡ Some a → IsEnabled s asked a
  unfolding next_in_any
  in_any =
      line act.Enter (next_enter s) _ (λ x h. h)
      (line act.Propose (next_propose s asked) _ (λ x h. h)
      (line act.Accept (next_accept s) _ (λ x h. h)
      (line act.Prepare (next_prepare s) _ (λ x h. h)
      (line act.Execute (next_execute s) _ (λ x h. h)
      (line act.Adopt (next_adopt s) _ (λ x h. h)
      (line act.Commit (next_commit s) _ (λ x h. h)
      (test (can_checkpoint s) act.Checkpoint _ (λ h. h)
      (end act.Stable (next_stable s) (λ x h. h)))))))))

  by_group : (b : Bool) (o : Option Action) (rest : Option Action) → is_alone s ≡ b → (is_alone s ≡ false → o ≡ Some a → IsEnabled s asked a) → (rest ≡ Some a → IsEnabled s asked a) → option_or (if b then None else o) rest ≡ Some a → IsEnabled s asked a
  by_group true o rest e h k x = k x
  by_group false None rest e h k x = k x
  by_group false (Some b) rest e h k x = h e x

pub done_is_enabled : DoneIsEnabled
unfolding next_action
done_is_enabled s asked a = by_group s asked a (is_alone s) (next_in_group s) (next_in_any s asked) refl (in_group s asked a) (in_any s asked a)
