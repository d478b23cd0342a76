-- What a tick says again was said.
use Rattle.std.proofs.Common.{◌≡◌, ◌⊎◌, inl, inr, ℕ, ◌+◌, Bool, true, false, cond, List, [], ◌∷◌, ◌++◌, map, Option, Some, None, Contains, refl, sym, ◌∙◌, ap, subst, nat_lt, ◌==◌}
use Rattle.std.specs.List.{flat_map}
use Rattle.std.specs.Option.{option_map, option_map_or}
use Rattle.std.specs.Ordering.{nat_cmp}
use Rattle.std.specs.Str.{bytes_eq}
use Rattle.std.specs.FinMap.{FinMap, get, empty, entries, get-empty}
use Rattle.std.proofs.lemmas.Bool.{true≢false, ltb-true, eqb-true, eqb-false}
use Rattle.std.proofs.lemmas.Cmp.{nat_cmp_total}
use Rattle.std.proofs.lemmas.List.Elements.{Contains-append_cases}
use Rattle.pws_base.specs.Limits.{max_number}
use Rattle.pws_base.proofs.Maps.{entry_get}
use Rattle.pws_base.proofs.Members.{nowhere, here, there, first_or_rest}
use Rattle.pws_event.specs.declared.events.Event.{Event}
use Rattle.pws_event.specs.declared.events.Event.TheVariants as event
use Rattle.pws_event.specs.Events.{digest_of}
use Rattle.pws_msg.specs.declared.changes.NewView.{NewView}
use Rattle.pws_msg.specs.declared.contents.Content.TheVariants as content
use Rattle.pws_change.specs.Choices.{null_digest}
use Rattle.pws_votes.specs.declared.kinds.VoteKind.TheVariants as kind
use Rattle.pws_votes.specs.Votes.{key}
use Rattle.pws_safety.specs.Statement.{Statement, PrePrepare, Prepare, Commit, Ack}
use Rattle.pws_safety.specs.Statement as say
use Rattle.pws_safety.specs.Statements.{Sent, Told, StandsBy, IsCorrect, primary}
use Rattle.pws_safety.specs.Voters.{Core}
use Rattle.pws_safety.specs.Kept.{Keeps}
use Rattle.pws_protocol.specs.States.{State, Slot, HeldChange, Relayed, is_primary, window, text_of}
use Rattle.pws_protocol.specs.States as real
use Rattle.pws_protocol.specs.Gathered.{acks_of}
use Rattle.pws_protocol.specs.Hearing.{Out}
use Rattle.pws_protocol.specs.Doing.{relay_out, new_view_out, start_outs, prepare_out}
use Rattle.pws_protocol.specs.Ticks.{if_there, again, change_again, acks_again, each_slot, proposal_again, as_primary, as_backup, in_view_again, commit_again, checkpoint_again, checkpoints_again, fetch_again, repeats}
use Rattle.pws_refine.specs.Cores.{slot_of, core_of, statements_in}
use Rattle.pws_refine.specs.Contexts.{Context, IsLawful, IsOf}
use Rattle.pws_refine.specs.Links.{Links}
use Rattle.pws_refine.specs.Laws.{TicksRepeat}
use Rattle.pws_refine.proofs.Fine.{says_append}
use Rattle.pws_refine.proofs.Places.{index_is, own_primary, not_primary, same_bytes}

says_split : (xs ys : List Out) (x : Statement) → Contains (statements_in (xs ++ ys)) x → Contains (statements_in xs) x ⊎ Contains (statements_in ys) x
says_split xs ys x m = Contains-append_cases (statements_in xs) (statements_in ys) x (subst (λ zs. Contains zs x) (says_append xs ys) m)

says_each : {A : Type 0} (xs : List A) (f : A → List Out) (x : Statement) → Contains (statements_in (flat_map f xs)) x → (a : A) × Contains xs a × Contains (statements_in (f a)) x
says_each [] f x m = absurd (nowhere x m)
says_each (a ∷ ys) f x m =
    elim (says_split (f a) (flat_map f ys) x m) [
      | inl y ↦ (a, here a ys, y)
      | inr y ↦ let r = says_each ys f x y in (r.0, there a r.0 ys r.1, r.2)
    ]

says_if : (b : Bool) (xs : List Out) (x : Statement) → Contains (statements_in (cond b xs [])) x → (b ≡ true) × Contains (statements_in xs) x
says_if true xs x m = (refl, m)
says_if false xs x m = absurd (nowhere x m)

says_unless : (b : Bool) (xs : List Out) (x : Statement) → Contains (statements_in (cond b [] xs)) x → Contains (statements_in xs) x
says_unless true xs x m = absurd (nowhere x m)
says_unless false xs x m = m

says_one : {A : Type 0} (o : Option A) (f : A → List Out) (x : Statement) → Contains (statements_in (if_there o f)) x → (a : A) × (o ≡ Some a) × Contains (statements_in (f a)) x
says_one None f x m = absurd (nowhere x m)
says_one (Some a) f x m = (a, refl, m)

only : (y x : Statement) → Contains (y ∷ []) x → y ≡ x
only y x m = elim (first_or_rest y x [] m) [ inl e ↦ e | inr r ↦ absurd (nowhere x r) ]

relays_say_nothing : (s : State) (xs : List (ℕ × Relayed)) (x : Statement) → Contains (statements_in (map (relay_out s) xs)) x → ⊥
relays_say_nothing s [] x m = nowhere x m
relays_say_nothing s (y ∷ ys) x m = relays_say_nothing s ys x m

-- the event that is held of a digest has it
pub text_is : (s : State) (d : List ℕ) (e : Event) → ((q : List ℕ) (y : Event) → get s.texts q ≡ Some y → digest_of y ≡ q) → text_of s d ≡ Some e → digest_of e ≡ d
unfolding text_of
text_is s d e texts h = go (bytes_eq d null_digest) refl h
  where
    go : (b : Bool) → bytes_eq d null_digest ≡ b → cond b (Some event.Null) (get s.texts d) ≡ Some e → digest_of e ≡ d
    go true t k = let same : event.Null ≡ e = let i : ◌≡◌ {A = Option Event} (Some event.Null) (Some e) = k in cc in sym (ap digest_of same) ∙ sym (same_bytes d null_digest t)
    go false t k = texts d e k

module _ (c : Context) (sent : Sent) (s : State) (said : List Statement) (correct : IsCorrect c.group c.me.index) (k : Keeps c.group sent c.me.index (core_of s said))
    (mine : (x : Statement) → Contains sent (c.me.index, x) → Contains said x) (law : IsLawful c) (is : IsOf c s) (l : Links c sent s) where
  told_said : (x : Statement) → Told c.group sent c.me.index x → Contains said x
  told_said x (inl b) = absurd (true≢false (sym b ∙ correct.1))
  told_said x (inr m) = mine x m

  seen : (p : ℕ) (t : Slot) → get s.slots p ≡ Some t → (core_of s said).slot p ≡ Some (slot_of t)
  seen p t e = ap (option_map slot_of) e

  change_said : (x : Statement) → Contains (statements_in (change_again s)) x → Contains said x
  change_said x m =
      let f : HeldChange → List Out = λ y. again (content.ViewChange y.change) in
      let o = says_one (get s.heard s.me.index) f x (says_unless (s.view == 0) (if_there (get s.heard s.me.index) f) x m) in
      let e = only (say.ViewChange o.0.change) x o.2 in
      let h = (l.heard s.me.index o.0 o.1).0 in
      subst (Contains said) e (told_said _ (subst (λ i. Told c.group sent i (say.ViewChange o.0.change)) (index_is c s law is) h.told))

  ack_told : (j : ℕ) (d : List ℕ) (o : Option (FinMap nat_cmp (List ℕ))) → get s.acks s.me.index ≡ o → Contains (entries (option_map_or (λ row. row) o empty)) (j, d) → Told c.group sent s.me.index (Ack s.view j d)
  ack_told j d None e m = absurd (let i : ◌≡◌ {A = Option (List ℕ)} None (Some d) = sym (get-empty nat_cmp j) ∙ entry_get nat_cmp_total empty j d m in cc)
  ack_told j d (Some row) e m = (l.acks s.me.index j row d e (entry_get nat_cmp_total row j d m)).2

  acks_said : (x : Statement) → Contains (statements_in (acks_again s)) x → Contains said x
  acks_said x m =
      let f : ℕ × List ℕ → List Out = λ y. again (content.Ack (record { view = s.view; index = y.0; digest = y.1 })) in
      let o = says_each (entries (acks_of s s.me.index)) f x m in
      let e = only (Ack s.view o.0.0 o.0.1) x o.2 in
      subst (Contains said) e (told_said _ (subst (λ i. Told c.group sent i (Ack s.view o.0.0 o.0.1)) (index_is c s law is) (ack_told o.0.0 o.0.1 (get s.acks s.me.index) refl o.1)))

  stood_prepare : (p : ℕ) (d : List ℕ) → (c.me.index ≡ primary c.group s.view → ⊥) → (y : Statement) → Contains said y → StandsBy c.group c.me.index y s.view p d → Contains said (Prepare s.view p d)
  stood_prepare p d n (PrePrepare u q e) m b = absurd (n b.3)
  stood_prepare p d n (Prepare u q e) m b = subst (λ v. Contains said (Prepare v p d)) b.0 (subst (λ v. Contains said (Prepare u v d)) b.1 (subst (λ v. Contains said (Prepare u q v)) b.2 m))
  stood_prepare p d n (Commit u q e) m b = absurd b
  stood_prepare p d n (say.ViewChange v) m b = absurd b
  stood_prepare p d n (say.NewView v) m b = absurd (n b.2)
  stood_prepare p d n (Ack u j e) m b = absurd b

  -- what is said for each slot was said
  slots_said : (f : ℕ → Slot → List Out) (x : Statement) → ((p : ℕ) (t : Slot) → get s.slots p ≡ Some t → Contains (statements_in (f p t)) x → Contains said x) → Contains (statements_in (each_slot s f)) x → Contains said x
  slots_said f x each m =
      let o = says_each (window s.low) (λ p. if_there (get s.slots p) (f p)) x m in
      let t = says_one (get s.slots o.0) (f o.0) x o.2 in
      each o.0 t.0 t.1 t.2

  prepares_said : (c.me.index ≡ primary c.group s.view → ⊥) → (x : Statement) → Contains (statements_in (as_backup s)) x → Contains said x
  prepares_said n x m =
      slots_said (λ p t. prepare_out s.view (p, t.digest) ∷ []) x
      (λ p t at y. let h = k.slot_stood p (slot_of t) (seen p t at) in subst (Contains said) (only (Prepare s.view p t.digest) x y) (stood_prepare p t.digest n h.0 h.1 h.2)) m

  proposal_said : c.me.index ≡ primary c.group s.view → (x : Statement) (p : ℕ) (t : Slot) → get s.slots p ≡ Some t → Contains (statements_in (proposal_again s p t)) x → Contains said x
  proposal_said lead x p t at m =
      let f : Event → List Out = λ e. again (content.PrePrepare (record { view = s.view; place = p; event = e })) in
      let i = says_if (nat_lt s.floor p) (if_there (text_of s t.digest) f) x m in
      let e = says_one (text_of s t.digest) f x i.1 in
      let same = only (PrePrepare s.view p (digest_of e.0)) x e.2 in
      subst (Contains said) same (subst (λ d. Contains said (PrePrepare s.view p d)) (sym (text_is s t.digest e.0 l.texts e.1)) (k.proposals_said lead p (slot_of t) (seen p t at) (ltb-true s.floor p i.0)))

  commits_said : (x : Statement) → Contains (statements_in (each_slot s (commit_again s))) x → Contains said x
  commits_said x m =
      slots_said (commit_again s) x
      (λ p t at y.
      let i = says_if t.is_prepared (again (content.Commit (record { view = s.view; place = p; digest = t.digest }))) x y in
      subst (Contains said) (only (Commit s.view p t.digest) x i.1) (k.slot_commit p (slot_of t) (seen p t at) i.0)) m

  start_said : s.active ≡ true → c.me.index ≡ primary c.group s.view → (x : Statement) → Contains (statements_in (start_outs s)) x → Contains said x
  unfolding start_outs
  start_said on lead x m =
      elim (says_split (option_map_or (λ v. new_view_out v ∷ []) s.new_view []) (map (relay_out s) (entries s.relayed)) x m) [
        | inl y ↦ new_view_said s.new_view refl y
        | inr y ↦ absurd (relays_say_nothing s (entries s.relayed) x y)
      ]
    where
      new_view_said : (o : Option NewView) → s.new_view ≡ o → Contains (statements_in (option_map_or (λ v. new_view_out v ∷ []) o [])) x → Contains said x
      new_view_said None e y = absurd (nowhere x y)
      new_view_said (Some v) e y = subst (Contains said) (only (say.NewView v) x y) (k.start_said lead v (ap (λ b. cond b s.new_view None) on ∙ e))

  in_view_said : s.active ≡ true → (b : Bool) → is_primary s ≡ b → (x : Statement) → Contains (statements_in (cond b (as_primary s) (as_backup s))) x → Contains said x
  in_view_said on true e x m =
      let lead = own_primary c s law is (eqb-true s.me.index (real.primary s) e) in
      elim (says_split (cond (s.view == 0) [] (start_outs s)) (each_slot s (proposal_again s)) x m) [
        | inl y ↦ start_said on lead x (says_unless (s.view == 0) (start_outs s) x y)
        | inr y ↦ slots_said (proposal_again s) x (proposal_said lead x) y
      ]
  in_view_said on false e x m = prepares_said (not_primary c s law is (eqb-false s.me.index (real.primary s) e)) x m

  no_checkpoint : (p : ℕ) (o : Option (List ℕ)) (x : Statement) → Contains (statements_in (if_there o (checkpoint_again p))) x → ⊥
  no_checkpoint p None x m = nowhere x m
  no_checkpoint p (Some d) x m = nowhere x m

  no_checkpoints : (x : Statement) → Contains (statements_in (checkpoints_again s)) x → ⊥
  no_checkpoints x m =
      let f : ℕ → List Out = λ p. if_there (get s.book.votes (key kind.Checkpoint p s.me.index)) (checkpoint_again p) in
      elim (says_split (cond (s.low == 0) [] (if_there (get s.chains s.low) (checkpoint_again s.low))) (flat_map f (window s.low)) x m) [
        | inl y ↦ no_checkpoint s.low (get s.chains s.low) x (says_unless (s.low == 0) (if_there (get s.chains s.low) (checkpoint_again s.low)) x y)
        | inr y ↦ let z = says_each (window s.low) f x y in no_checkpoint z.0 (get s.book.votes (key kind.Checkpoint z.0 s.me.index)) x z.2
      ]

  no_fetch : (x : Statement) → Contains (statements_in (fetch_again s)) x → ⊥
  no_fetch x m = nowhere x (says_if (nat_lt s.done max_number) (again (content.Fetch (record { place = s.done + 1 }))) x m).1

  all_said : (x : Statement) → Contains (statements_in (repeats s)) x → Contains said x
  unfolding repeats
  all_said x m =
      elim (says_split (change_again s) _ x m) [
        | inl y ↦ change_said x y
        | inr y ↦ elim (says_split (acks_again s) _ x y) [
          | inl z ↦ acks_said x z
          | inr z ↦ elim (says_split (in_view_again s) _ x z) [
            | inl w ↦ let v = says_if s.active (cond (is_primary s) (as_primary s) (as_backup s)) x w in in_view_said v.0 (is_primary s) refl x v.1
            | inr w ↦ elim (says_split (each_slot s (commit_again s)) _ x w) [
              | inl v ↦ commits_said x v
              | inr v ↦ elim (says_split (checkpoints_again s) (fetch_again s) x v) [ inl u ↦ absurd (no_checkpoints x u) | inr u ↦ absurd (no_fetch x u) ]
            ]
          ]
        ]
      ]

pub ticks_repeat : TicksRepeat
ticks_repeat c cores sent s said keeps correct at law st x m =
    all_said c sent s said correct (subst (Keeps c.group sent c.me.index) at (keeps.each c.me.index correct)) (λ y d. subst (λ (z : Core). Contains z.said y) at (keeps.only_said c.me.index correct y d)) law st.is_of st.links x m
