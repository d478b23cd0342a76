-- What a context tells of its voter's state.
use Rattle.std.proofs.Common.{◌≡◌, ℕ, true, false, List, sym, ◌∙◌, ap, arith}
use Rattle.std.specs.Str.{bytes_eq}
use Rattle.std.proofs.lemmas.Bool.{ne_eqb}
use Rattle.std.proofs.lemmas.Slice.Eq.{bytes_eq-Decides}
use Rattle.pws_base.specs.Shapes.{primary_of}
use Rattle.pws_safety.specs.Statements.{primary}
use Rattle.pws_protocol.specs.States.{Me, State, is_alone}
use Rattle.pws_protocol.specs.States as real
use Rattle.pws_refine.specs.Contexts.{Context, IsLawful, IsOf}

pub same_bytes : (a b : List ℕ) → bytes_eq a b ≡ true → a ≡ b
same_bytes a b h = (bytes_eq-Decides a b).0 h

module _ (c : Context) (s : State) (law : IsLawful c) (is : IsOf c s) where
  pub size_is : s.me.f ≡ c.group.f
  size_is = ap (λ (m : Me). m.f) is.me ∙ law.f

  pub index_is : s.me.index ≡ c.me.index
  index_is = ap (λ (m : Me). m.index) is.me

  pub book_is : s.book.f ≡ c.group.f
  book_is = is.book ∙ law.f

  pub primary_is : real.primary s ≡ primary c.group s.view
  primary_is = ap (λ f. primary_of f s.view) size_is

  pub own_primary : s.me.index ≡ real.primary s → c.me.index ≡ primary c.group s.view
  own_primary e = sym index_is ∙ (e ∙ primary_is)

  pub not_primary : (s.me.index ≡ real.primary s → ⊥) → c.me.index ≡ primary c.group s.view → ⊥
  not_primary n e = n (index_is ∙ (e ∙ sym primary_is))

  -- the voter has others in its group
  pub has_others : is_alone s ≡ false
  has_others = ne_eqb s.me.f 0 (λ e. let o = law.others in let f = size_is in absurd (omega (arith, o, e, f)))
