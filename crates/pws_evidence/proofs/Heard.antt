-- What is heard is what the definition notes.
use Rattle.std.proofs.Common.{◌≡◌, ℕ, ◌&&◌, Bool, true, false, is_some, if◌then◌else◌, List, Option, Some, None, refl, sym, ◌∙◌, ap}
use Rattle.std.specs.Option.{option_map_or}
use Rattle.std.specs.FinMap.{get}
use Rattle.pws_event.specs.Counters.{Counters}
use Rattle.pws_msg.specs.declared.contents.Content.{Content}
use Rattle.pws_protocol.specs.declared.keys.StatementKey.{StatementKey}
use Rattle.pws_protocol.specs.declared.keys.BodyKey.{BodyKey}
use Rattle.pws_protocol.specs.Evidence.{Evidence, no_evidence, is_inside, new_body, with_body, with_statement, noted, note_after, note_about, same_statement}
use Rattle.pws_votes.specs.declared.kinds.Vote.TheVariants.{Kept, Outside, Already}
use Rattle.pws_evidence.specs.Stores.{heard_again}
use Rattle.pws_evidence.proofs.Stored.{inside_is}

pub none_of : {X : Type 0} (o : Option X) → is_some o ≡ false → o ≡ None
none_of None h = refl
none_of (Some x) h = absurd (cc)

module _ (e : Evidence) (asked : Counters) (k : StatementKey) (c : Content) (body : List ℕ) (g : ℕ) (l : List ℕ) (p : g ≡ e.group) (q : l ≡ e.layout) where
  inside_at : (b : Bool) → is_inside (no_evidence g l) asked k.matter ≡ b → is_inside e asked k.matter ≡ b
  inside_at b h = sym (inside_is e asked k.matter) ∙ ((λ i. is_inside (no_evidence (sym p i) (sym q i)) asked k.matter) ∙ h)

  pub outside_is : is_inside (no_evidence g l) asked k.matter ≡ false → noted e Outside ≡ note_about (Some k.matter) e asked k.sender c body
  outside_is h =
      sym (ap (λ b. if b then note_after (get e.statements k) e k c (new_body e k.sender c body) body else noted e Outside) (inside_at false h))

  inside_then : is_inside (no_evidence g l) asked k.matter ≡ true → note_after (get e.statements k) e k c (new_body e k.sender c body) body ≡ note_about (Some k.matter) e asked k.sender c body
  inside_then h =
      sym (ap (λ b. if b then note_after (get e.statements k) e k c (new_body e k.sender c body) body else noted e Outside) (inside_at true h))

  first_at : (o : Option Content) (new : Option BodyKey) → is_some o ≡ false → noted (with_body (with_statement e k c) new body) Kept ≡ note_after o e k c new body
  unfolding note_after
  first_at None new h = refl
  first_at (Some x) new h = absurd (cc)

  pub first_is : (new : Option BodyKey) → is_inside (no_evidence g l) asked k.matter ≡ true → is_some (get e.statements k) ≡ false → new ≡ new_body e k.sender c body
      → noted (with_body (with_statement e k c) new body) Kept ≡ note_about (Some k.matter) e asked k.sender c body
  first_is new h s n =
      ap (λ (x : Option BodyKey). noted (with_body (with_statement e k c) x body) Kept) n
      ∙ (first_at (get e.statements k) (new_body e k.sender c body) s ∙ inside_then h)

  again_at : (o : Option Content) (new : Option BodyKey) → get e.statements k ≡ o → is_some o ≡ true → heard_again e k c new body ≡ note_after o e k c new body
  unfolding note_after
  again_at None new t h = absurd (cc)
  again_at (Some x) new t h =
      ap (λ (o : Option Content). if option_map_or (λ first. same_statement first c) o false && is_some new then noted (with_body e new body) Kept else noted e Already) t

  pub again_is : (new : Option BodyKey) → is_inside (no_evidence g l) asked k.matter ≡ true → is_some (get e.statements k) ≡ true → new ≡ new_body e k.sender c body
      → heard_again e k c new body ≡ note_about (Some k.matter) e asked k.sender c body
  again_is new h s n =
      ap (λ (x : Option BodyKey). heard_again e k c x body) n
      ∙ (again_at (get e.statements k) (new_body e k.sender c body) refl s ∙ inside_then h)
