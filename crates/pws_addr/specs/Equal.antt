-- When two addressings are the same: all their texts are, byte for byte. That this is an equivalence is here for the
-- comparison's laws.
use Rattle.std.specs.Prelude.{Bool, nat_eq}
use Rattle.std.specs.Option.{option_eq}
use Rattle.std.specs.Ordering.{on, eq_of_both}
use Rattle.std.specs.Cmp.{IsEquivalence, and_equiv, on_equiv}
use Rattle.std.specs.Cmp.Lexicographic.{pointwise, nat_list_eq_equiv, lists_equiv, options_equiv, on_texts_equal}
use Rattle.pws_addr.specs.declared.headers.Relation.{Relation}
use Rattle.pws_addr.specs.declared.headers.Addressing.{Addressing}

abbrev pub same_relation : Relation → Relation → Bool
same_relation = eq_of_both (on (λ r. r.kind) (pointwise nat_eq)) (on (λ r. r.id) (pointwise nat_eq))

abbrev pub same_addressing : Addressing → Addressing → Bool
same_addressing =
    eq_of_both (on (λ a. a.to) (pointwise nat_eq))
    (eq_of_both (on (λ a. a.action) (pointwise nat_eq))
    (eq_of_both (on (λ a. a.message_id) (option_eq (pointwise nat_eq)))
    (eq_of_both (on (λ a. a.relates_to) (pointwise same_relation))
    (eq_of_both (on (λ a. a.reply_to) (option_eq (pointwise nat_eq)))
    (eq_of_both (on (λ a. a.from) (option_eq (pointwise nat_eq))) (on (λ a. a.fault_to) (option_eq (pointwise nat_eq))))))))

relation_equiv : IsEquivalence same_relation
relation_equiv = and_equiv (on_texts_equal (λ (r : Relation). r.kind)) (on_texts_equal (λ (r : Relation). r.id))

pub same_equiv : IsEquivalence same_addressing
same_equiv =
    and_equiv (on_texts_equal (λ (a : Addressing). a.to))
    (and_equiv (on_texts_equal (λ (a : Addressing). a.action))
    (and_equiv (on_equiv (λ (a : Addressing). a.message_id) (options_equiv nat_list_eq_equiv))
    (and_equiv (on_equiv (λ (a : Addressing). a.relates_to) (lists_equiv relation_equiv))
    (and_equiv (on_equiv (λ (a : Addressing). a.reply_to) (options_equiv nat_list_eq_equiv))
    (and_equiv (on_equiv (λ (a : Addressing). a.from) (options_equiv nat_list_eq_equiv)) (on_equiv (λ (a : Addressing). a.fault_to) (options_equiv nat_list_eq_equiv)))))))
