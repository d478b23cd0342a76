-- When two parts of events are the same: all their fields are; this project's own. This serves the comparisons' laws:
-- each comparison says that it is equality.
use Rattle.std.specs.Prelude.{Bool, nat_eq}
use Rattle.std.specs.Ordering.{on, eq_of_both}
use Rattle.std.specs.Cmp.{IsEquivalence, and_equiv, on_equiv, nat_eq_equiv}
use Rattle.std.specs.Cmp.Lexicographic.{pointwise, lists_equiv, on_texts_equal}
use Rattle.pws_event.specs.Requests.{RequestFields}
use Rattle.pws_event.specs.Answers.{ReplyFields}
use Rattle.pws_event.specs.Readings.{ClockFields, RandomFields}
use Rattle.pws_event.specs.declared.readings.Reading.{Reading}
use Rattle.pws_event.specs.declared.readings.Share.{Share}

abbrev pub same_request : RequestFields → RequestFields → Bool
same_request = eq_of_both (on (λ r. r.caller) nat_eq) (eq_of_both (on (λ r. r.number) nat_eq) (eq_of_both (on (λ r. r.low) nat_eq) (on (λ r. r.body) (pointwise nat_eq))))

abbrev pub same_reply : ReplyFields → ReplyFields → Bool
same_reply = eq_of_both (on (λ r. r.called) nat_eq) (eq_of_both (on (λ r. r.number) nat_eq) (on (λ r. r.body) (pointwise nat_eq)))

abbrev pub same_reading : Reading → Reading → Bool
same_reading = eq_of_both (on (λ r. r.index) nat_eq) (on (λ r. r.ms) nat_eq)

abbrev pub same_clock : ClockFields → ClockFields → Bool
same_clock = eq_of_both (on (λ c. c.ask) nat_eq) (on (λ c. c.readings) (pointwise same_reading))

abbrev pub same_share : Share → Share → Bool
same_share = eq_of_both (on (λ s. s.index) nat_eq) (on (λ s. s.bytes) (pointwise nat_eq))

abbrev pub same_random : RandomFields → RandomFields → Bool
same_random = eq_of_both (on (λ r. r.ask) nat_eq) (on (λ r. r.shares) (pointwise same_share))

reading_equiv : IsEquivalence same_reading
reading_equiv = and_equiv (on_equiv (λ (r : Reading). r.index) nat_eq_equiv) (on_equiv (λ (r : Reading). r.ms) nat_eq_equiv)

pub clock_equiv : IsEquivalence same_clock
clock_equiv = and_equiv (on_equiv (λ (c : ClockFields). c.ask) nat_eq_equiv) (on_equiv (λ (c : ClockFields). c.readings) (lists_equiv reading_equiv))

share_equiv : IsEquivalence same_share
share_equiv = and_equiv (on_equiv (λ (s : Share). s.index) nat_eq_equiv) (on_texts_equal (λ (s : Share). s.bytes))

pub random_equiv : IsEquivalence same_random
random_equiv = and_equiv (on_equiv (λ (r : RandomFields). r.ask) nat_eq_equiv) (on_equiv (λ (r : RandomFields). r.shares) (lists_equiv share_equiv))
